-- Puts are legal.
use Rattle.std.proofs.Common.{◌≡◌, ℕ, zero, suc, ◌+◌, ◌<◌, ◌≤◌, true, false, List, [], ◌∷◌, ◌++◌, length, map, Option, Some, None, refl, sym, ap, subst, ◌∙◌, inl, inr, arith}
use Rattle.std.specs.Prelude.{find, is_none, slice_index}
use Rattle.std.specs.List.{list_any, range_with_len}
use Rattle.std.proofs.lemmas.Bool.{cases_order, cond-true}
use Rattle.hay_needle.specs.declared.needle.Cookie.{Cookie}
use Rattle.hay_needle.specs.declared.needle.Pair.{Pair}
use Rattle.hay_needle.specs.declared.settings.Settings.{Settings}
use Rattle.hay_disk.specs.Counts.{Rose}
use Rattle.hay_disk.specs.Disk.{Files}
use Rattle.hay_url.specs.Url.{cookie_of}
use Rattle.hay_reply.specs.declared.Refused.{Refused}
use Rattle.hay_reply.specs.declared.Refused.TheVariants.{Closed, NoRoom}
use Rattle.hay_reply.specs.declared.Reply.{Reply}
use Rattle.hay_reply.specs.declared.Reply.TheVariants as reply
use Rattle.hay_core.specs.declared.entry.CoreTag.{CoreTag}
use Rattle.hay_core.specs.declared.entry.Entry.TheVariants as entry
use Rattle.hay_legal.specs.declared.known.Known.{Known}
use Rattle.hay_legal.specs.declared.known.VolumeKnown.{VolumeKnown}
use Rattle.hay_legal.specs.Known.{Leaves, closed, drained_of, empty_volume, fault_count, home_of, machine_of, refusal_by, refusal_of, replica_on, room_refusal, room_refusal_of}
use Rattle.hay_legal.specs.Known.{settled_by, slot_of, taker_of, tries_by, try_at, volume_at, with_home, with_volume}
use Rattle.hay_legal.specs.Plain.{DirectoryOpen, LegalPut, RefusedBy, RoseTo, change_volume, first_machine, frozen_with, wants_room, put_entry, with_put}
use Rattle.hay_logical.specs.Answers.{IsPut, PutRefused}
use Rattle.hay_logical.specs.declared.fault.LogicalFault.{LogicalFault}
use Rattle.hay_logical.specs.declared.fault.LogicalFault.TheVariants.{ReadOnly, Full, Failed, NoMemory}
use Rattle.hay_logical.specs.Stands as logical
use Rattle.hay_logical.specs.Volumes.{Volume}
use Rattle.hay_cluster.specs.Causes.{IsCaused, IsPutCause, RoseAt}
use Rattle.hay_cluster.specs.Parts.{Comes}
use Rattle.hay_cluster.specs.declared.put.Tried.TheVariants.{Taker}
use Rattle.hay_cluster.specs.Puts.{IsPutReply, IsRefusal, IsTried, StoredAs, Stores}
use Rattle.hay_cluster.specs.State.{Stands}
use Rattle.hay_cluster.specs.Store.{Open, IsVolumeOf, disks_of}
use Rattle.hay_legal.proofs.Finds.{map_hit}
use Rattle.hay_cluster.proofs.Ranges.{range-snoc}
use Rattle.hay_cluster.proofs.Lists.{AllZip-long, map-append, set-same}
use Rattle.hay_cluster.proofs.Moves.{falls_at, falls_trans}
use Rattle.hay_cluster.proofs.Refusals.{open-thawed}

-- TRIES

some_each : (f : ℕ → Option Refused) (g : ℕ → ℕ) (n at : ℕ) (xs : List Refused) → map f (map g (range_with_len at n)) ≡ map Some xs → (i : ℕ) → at ≤ i → i < at + n → is_none (f (g i)) ≡ false
some_each f g zero at xs is i low high = absurd (omega arith)
some_each f g (suc n) at [] is i low high = absurd cc
some_each f g (suc n) at (x ∷ xs) is i low high =
    let first : f (g at) ≡ Some x = cc in
    let rest : map f (map g (range_with_len (at + 1) n)) ≡ map Some xs = cc in
    elim (cases_order at i) [
      | inl here ↦ ap (λ j. is_none (f (g j))) (sym here) ∙ ap is_none first
      | inr (inl less) ↦ some_each f g n (at + 1) xs rest i (omega arith) (omega arith)
      | inr (inr more) ↦ absurd (omega arith)
    ]

pub first_taker : (settings : Settings) (k : Known) (pair : Pair) (size turn v : ℕ) (refused : List Refused) → turn < settings.volumes → v ≡ try_at settings pair turn
    → refusal_of settings k size v ≡ None
    → map (refusal_of settings k size) (map (try_at settings pair) (range_with_len 0 turn)) ≡ map Some refused → IsTried settings k pair size (Taker v)
first_taker settings k pair size turn v refused within is takes others =
    map_hit (λ u. is_none (refusal_of settings k size u)) (try_at settings pair) settings.volumes turn within
    (ap (λ u. is_none (refusal_of settings k size u)) (sym is) ∙ ap is_none takes)
    (λ i below. some_each (refusal_of settings k size) (try_at settings pair) turn 0 refused others i (omega arith) (omega arith))
    ∙ ap (λ u. Some u) (sym is)

pub one_more : (settings : Settings) (k : Known) (pair : Pair) (size turn v : ℕ) (refused : List Refused) (refusal : Refused) → v ≡ try_at settings pair turn
    → refusal_of settings k size v ≡ Some refusal
    → map (refusal_of settings k size) (map (try_at settings pair) (range_with_len 0 turn)) ≡ map Some refused
    → map (refusal_of settings k size) (map (try_at settings pair) (range_with_len 0 (turn + 1))) ≡ map Some (refused ++ refusal ∷ [])
one_more settings k pair size turn v refused refusal is refuses others =
    let next : turn + 1 ≡ suc turn = omega arith in
    let last : 0 + turn ≡ turn = omega arith in
    let f = refusal_of settings k size in
    let t = try_at settings pair in
    ap (λ n. map f (map t (range_with_len 0 n))) next ∙ ap (λ ns. map f (map t ns)) (range-snoc 0 turn)
    ∙ ap (λ ns. map f ns) (map-append t (range_with_len 0 turn) ((0 + turn) ∷ []))
    ∙ map-append f (map t (range_with_len 0 turn)) (t (0 + turn) ∷ [])
    ∙ ap (λ os. os ++ f (t (0 + turn)) ∷ []) others
    ∙ ap (λ n. map Some refused ++ f (t n) ∷ []) last
    ∙ ap (λ u. map Some refused ++ f u ∷ []) (sym is)
    ∙ ap (λ o. map Some refused ++ o ∷ []) refuses
    ∙ sym (map-append Some refused (refusal ∷ []))

-- a refusal has no cause to tell
pub refusal_caused : (settings : Settings) (before after : List ℕ) (refused : List Refused) (answer : Reply) → IsRefusal refused answer → IsCaused settings before after answer
refusal_caused settings before after refused (reply.Full tries) told = tt
refusal_caused settings before after refused (reply.ReadOnly closed) told = tt
refusal_caused settings before after refused reply.NoMem told = tt
refusal_caused settings before after refused _ told = absurd told

-- LEGALITY

-- what leads on from the pair's home being settled
leaves_on : (k k1 t : Known) (pair : Pair) (v : ℕ) (change : VolumeKnown → VolumeKnown) → Leaves k (with_home k pair v) k1 → Leaves k1 (change_volume k1 v change) t
    → Leaves k (with_home (change_volume k v change) pair v) t
leaves_on k k1 t pair v change first second = record {
  volumes = second.volumes ∙ ap (λ vs. (change_volume (record k1 { volumes = vs }) v change).volumes) first.volumes;
  directory = second.directory ∙ first.directory;
  drained = second.drained ∙ first.drained;
  fuses = second.fuses ∙ first.fuses;
  faults = falls_trans k.faults k1.faults t.faults first.faults second.faults;
  arms = falls_trans k.arms k1.arms t.arms first.arms second.arms;
}

leaves_still : (k k1 t : Known) (pair : Pair) (v : ℕ) → Leaves k (with_home k pair v) k1 → Leaves k1 k1 t → Leaves k (with_home k pair v) t
leaves_still k k1 t pair v first second = record {
  volumes = second.volumes ∙ first.volumes;
  directory = second.directory ∙ first.directory;
  drained = second.drained ∙ first.drained;
  fuses = second.fuses ∙ first.fuses;
  faults = falls_trans k.faults k1.faults t.faults first.faults second.faults;
  arms = falls_trans k.arms k1.arms t.arms first.arms second.arms;
}

rose_before : (before k f : ℕ) → before ≤ k → Rose k f → Rose before f
rose_before before k f less (inl rose) = inl (omega arith)
rose_before before k f less (inr end) = inr end

-- A put that was stored so in a volume that takes it, whose home was settled there before, is legal.
pub put_legal : (settings : Settings) (k k1 t : Known) (tag : CoreTag) (pair : Pair) (bytes : List ℕ) (v : ℕ) (reply : Reply) → taker_of settings k pair (length bytes) ≡ Some v → DirectoryOpen k pair
    → Leaves k (with_home k pair v) k1 → Stores settings k1 tag pair bytes v reply t → LegalPut settings k tag pair bytes reply t
put_legal settings k k1 t tag pair bytes v (reply.Stored v' p d c) taker opened first stores =
    let volume : volume_at k1 v ≡ volume_at k v = ap (λ vs. volume_at (record k { volumes = vs }) v) first.volumes in
    subst (λ u. LegalPut settings k tag pair bytes (reply.Stored u p d c) t) (sym stores.0)
    (record {
      taker = taker;
      directory = opened;
      own = stores.3;
      position = stores.1 ∙ ap (λ (known : VolumeKnown). length known.log + 1) volume;
      rows = stores.2;
      leaves = leaves_on k k1 t pair v (λ known. with_put known tag pair c bytes) first stores.4;
    })
put_legal settings k k1 t tag pair bytes v (reply.Failed v' m f) taker opened first stores =
    let rose = stores.1 in
    let slot = slot_of settings v rose.0 in
    subst (λ u. LegalPut settings k tag pair bytes (reply.Failed u m f) t) (sym stores.0)
    (record {
      taker = taker;
      directory = opened;
      replica = rose.0;
      there = rose.1;
      rose = record { count = (rose.2).count; rose = rose_before (fault_count k slot) (fault_count k1 slot) f (falls_at k.faults k1.faults slot first.faults) (rose.2).rose };
      leaves = leaves_on k k1 t pair v (frozen_with m tag (put_entry settings pair bytes) true) first stores.2;
    })
put_legal settings k k1 t tag pair bytes v reply.NoMem taker opened first (inl same) = inr (v, taker, opened, inl (leaves_still k k1 t pair v first same))
put_legal settings k k1 t tag pair bytes v reply.NoMem taker opened first (inr frozen) =
    inr (v, taker, opened, inr (inr (leaves_on k k1 t pair v (frozen_with (first_machine settings v) tag (put_entry settings pair bytes) false) first frozen)))
put_legal settings k k1 t tag pair bytes v _ taker opened first stores = absurd stores

-- a settled pair has its home alone to try
pub home_taker : (settings : Settings) (k : Known) (pair : Pair) (size v : ℕ) → home_of k pair ≡ Some v → refusal_of settings k size v ≡ None → taker_of settings k pair size ≡ Some v
home_taker settings k pair size v home takes =
    ap (λ o. find (λ u. is_none (refusal_of settings k size u)) (tries_by settings pair o)) home ∙ cond-true (is_none (refusal_of settings k size v)) (Some v) None (ap is_none takes)

pub home_open : (k : Known) (pair : Pair) (v : ℕ) → home_of k pair ≡ Some v → DirectoryOpen k pair
home_open k pair v home none = let e : None ≡ Some v = sym none ∙ home in absurd cc

-- nothing is settled anew
pub home_same : (k : Known) (pair : Pair) (v : ℕ) → home_of k pair ≡ Some v → with_home k pair v ≡ k
home_same k pair v home = ap (λ o. record k { directory = record k.directory { rows = settled_by k.directory.rows pair v o } }) home

pub all_refused : (settings : Settings) (k t : Known) (tag : CoreTag) (pair : Pair) (bytes : List ℕ) (refused : List Refused) (reply : Reply) → RefusedBy settings k pair bytes refused
    → IsRefusal refused reply → Leaves k k t → LegalPut settings k tag pair bytes reply t
all_refused settings k t tag pair bytes refused (reply.Full tries) by is leaves =
    (subst (λ (rs : List Refused). RefusedBy settings k pair bytes rs) (sym is.0) by, ap (λ rs. list_any wants_room rs) is.0 ∙ is.1, leaves)
all_refused settings k t tag pair bytes refused (reply.ReadOnly closed) by is leaves = (subst (λ (rs : List Refused). RefusedBy settings k pair bytes rs) (sym is) by, leaves)
all_refused settings k t tag pair bytes refused reply.NoMem by is leaves = inl leaves
all_refused settings k t tag pair bytes refused _ by is leaves = absurd is

pub home_refused : (settings : Settings) (k t : Known) (tag : CoreTag) (pair : Pair) (bytes : List ℕ) (v : ℕ) (refusal : Refused) (reply : Reply) → home_of k pair ≡ Some v
    → refusal_of settings k (length bytes) v ≡ Some refusal → IsRefusal (refusal ∷ []) reply → Leaves k k t → LegalPut settings k tag pair bytes reply t
home_refused settings k t tag pair bytes v refusal reply home refuses is leaves =
    all_refused settings k t tag pair bytes (refusal ∷ []) reply
    (ap (λ o. map (refusal_of settings k (length bytes)) (tries_by settings pair o)) home ∙ ap (λ o. o ∷ []) refuses) is leaves

-- a volume that takes a photo is not closed, and has room
pub thawed_of : (settings : Settings) (k : Known) (v size : ℕ) → refusal_of settings k size v ≡ None → closed settings k v ≡ None
thawed_of settings k v size takes = go (closed settings k v) (room_refusal settings k v size) takes
  where
    go : (o : Option ℕ) (room : Option Refused) → refusal_by v o room ≡ None → o ≡ None
    go None room is = refl
    go (Some m) room is = absurd cc

pub roomy_of : (settings : Settings) (k : Known) (v size : ℕ) → refusal_of settings k size v ≡ None → room_refusal settings k v size ≡ None
roomy_of settings k v size takes = ap (λ o. refusal_by v o (room_refusal settings k v size)) (sym (thawed_of settings k v size takes)) ∙ takes

-- WHAT A VOLUME ANSWERS A PUT

module _ {D P A : Type 0} (files : D → Files) (Tells : Type 0) (faults fuses : D → ℕ) (arm_faults : A → ℕ) where
  pub rose_to : (old new : Open D P A) (settings : Settings) (k t : Known) (v m f : ℕ) → Stands files Tells faults fuses arm_faults old k → Stands files Tells faults fuses arm_faults new t
      → RoseAt settings v m (map faults (disks_of old)) (map faults (disks_of new)) f → (replica : ℕ) × (replica_on settings v m ≡ Some replica) × RoseTo settings k v replica f t
  unfolding Stands
  rose_to old new settings k t v m f before after rose =
      let slot = slot_of settings v rose.replica in (
        rose.replica,
        rose.there,
        record {
          count = ap (λ ns. slice_index ns slot) after.fault_counts ∙ sym rose.told;
          rose = subst (λ n. Rose n f) (ap (λ ns. slice_index ns slot) (sym before.fault_counts)) (subst (λ n. Rose (slice_index (map faults (disks_of old)) slot) n) (sym rose.told) rose.rose);
        },
      )

  pub put_failed : (old new : Open D P A) (settings : Settings) (k : Known) (tag : CoreTag) (pair : Pair) (bytes : List ℕ) (v m f : ℕ) (cookie : Cookie) → cookie ≡ cookie_of settings.secret pair.key
      → Stands files Tells faults fuses arm_faults old k → RoseAt settings v m (map faults (disks_of old)) (map faults (disks_of new)) f
      → Comes files Tells faults fuses arm_faults k (with_volume k v (frozen_with m tag (entry.Put pair cookie bytes) true (volume_at k v))) new
      → StoredAs files Tells faults fuses arm_faults settings k tag pair bytes v (reply.Failed v m f) new
  put_failed old new settings k tag pair bytes v m f cookie own before rose comes = record {
    known = comes.known;
    stores = (
      refl,
      rose_to old new settings k comes.known v m f before comes.stands rose,
      subst (λ (c : Cookie). Leaves k (with_volume k v (frozen_with m tag (entry.Put pair c bytes) true (volume_at k v))) comes.known) own comes.leaves,
    );
    stands = comes.stands;
  }

  pub put_done : (new : Open D P A) (settings : Settings) (k : Known) (tag : CoreTag) (pair : Pair) (bytes : List ℕ) (v p d : ℕ) (cookie : Cookie) (after : Volume D P)
      → cookie ≡ cookie_of settings.secret pair.key
      → IsPut files Tells (volume_at k v) tag pair cookie bytes p after → (came : Comes files Tells faults fuses arm_faults k (with_volume k v (with_put (volume_at k v) tag pair cookie bytes)) new)
      → d ≡ length (came.known).directory.rows → StoredAs files Tells faults fuses arm_faults settings k tag pair bytes v (reply.Stored v p d cookie) new
  put_done new settings k tag pair bytes v p d cookie after own done came rows = record {
    known = came.known;
    stores = (refl, done.position, rows, own, came.leaves);
    stands = came.stands;
  }

  pub with_same : (store : Open D P A) (k : Known) (v : ℕ) → Stands files Tells faults fuses arm_faults store k → v < (store.settings).volumes → with_volume k v (volume_at k v) ≡ k
  unfolding Stands
  with_same store k v s within =
      ap (λ vs. record k { volumes = vs }) (set-same k.volumes v empty_volume
      (let many = (s.shape).many in let long = AllZip-long (logical.Stands files Tells) store.volumes k.volumes s.volumes in omega (arith, within, many, long)))

  -- a put that a volume did not store, though it takes the photo
  pub put_refused : (old new : Open D P A) (k : Known) (tag : CoreTag) (pair : Pair) (bytes : List ℕ) (v : ℕ) (cookie : Cookie) (fault : LogicalFault) (answer : Reply) (before after : Volume D P)
      → cookie ≡ cookie_of (old.settings).secret pair.key → v < (old.settings).volumes → Stands files Tells faults fuses arm_faults old k → refusal_of old.settings k (length bytes) v ≡ None
      → IsVolumeOf old.settings v before → IsPutCause old.settings v (map faults (disks_of old)) (map faults (disks_of new)) fault
      → PutRefused files Tells (volume_at k v) tag pair cookie bytes before after fault
      → ((known : VolumeKnown) → logical.Stands files Tells after known → Comes files Tells faults fuses arm_faults k (with_volume k v known) new)
      → IsPutReply v fault answer → StoredAs files Tells faults fuses arm_faults old.settings k tag pair bytes v answer new
  put_refused old new k tag pair bytes v cookie (ReadOnly m) answer before after own within stood takes was cause refused comes told =
      let thawed = open-thawed (volume_at k v).frozen (drained_of old.settings k v) (thawed_of old.settings k v (length bytes) takes) in
      let e : None ≡ Some m = sym thawed ∙ refused.0 in absurd cc
  put_refused old new k tag pair bytes v cookie (Full m end need capacity) answer before after own within stood takes was cause refused comes told =
      let roomy = roomy_of old.settings k v (length bytes) takes in
      let e : None ≡ Some (NoRoom before.number m end need) = sym roomy
      ∙ ap (λ n. room_refusal_of old.settings n (volume_at k v) (length bytes)) (sym was.number)
      ∙ ap (λ (s : Settings). room_refusal_of s before.number (volume_at k v) (length bytes)) (sym was.settings_are) ∙ refused.1 in
      absurd cc
  put_refused old new k tag pair bytes v cookie (Failed m f) answer before after own within stood takes was cause refused comes told =
      subst (λ (r : Reply). StoredAs files Tells faults fuses arm_faults old.settings k tag pair bytes v r new) (sym told)
      (put_failed old new old.settings k tag pair bytes v m f cookie own stood cause.1 (comes (frozen_with m tag (entry.Put pair cookie bytes) true (volume_at k v)) refused.1))
  put_refused old new k tag pair bytes v cookie NoMemory answer before after own within stood takes was cause refused comes told =
      subst (λ (r : Reply). StoredAs files Tells faults fuses arm_faults old.settings k tag pair bytes v r new) (sym told)
      (elim refused.1 [
        | inl same ↦
            let came = comes (volume_at k v) same in
            record { known = came.known; stores = inl (subst (λ (e : Known). Leaves k e came.known) (with_same old k v stood within) came.leaves); stands = came.stands }
        | inr frozen ↦
            let came = comes (frozen_with (machine_of before.settings before.number 0) tag (entry.Put pair cookie bytes) false (volume_at k v)) frozen in
            let P : ℕ → Cookie → Type 0 = λ m c. Leaves k (with_volume k v (frozen_with m tag (entry.Put pair c bytes) false (volume_at k v))) came.known in
            let machine : machine_of before.settings before.number 0 ≡ first_machine old.settings v =
            ap (λ (s : Settings). machine_of s before.number 0) was.settings_are ∙ ap (λ n. machine_of old.settings n 0) was.number in
            record { known = came.known; stores = inr (subst (λ c. P (first_machine old.settings v) c) own (subst (λ m. P m cookie) machine came.leaves)); stands = came.stands }
      ])
  put_refused old new k tag pair bytes v cookie _ answer before after own within stood takes was cause refused comes told = absurd refused

-- a put that a volume did not store tells of a failure only with its cause
pub put_caused : (settings : Settings) (v : ℕ) (before after : List ℕ) (fault : LogicalFault) (answer : Reply) → IsPutCause settings v before after fault
    → IsPutReply v fault answer → IsCaused settings before after answer
put_caused settings v before after (ReadOnly m) answer cause told = refusal_caused settings before after (Closed v m ∷ []) answer told
put_caused settings v before after (Full m end need capacity) answer cause told = refusal_caused settings before after (NoRoom v m end need ∷ []) answer told
put_caused settings v before after (Failed m f) answer cause told = subst (λ (r : Reply). IsCaused settings before after r) (sym told) cause.1
put_caused settings v before after NoMemory answer cause told = subst (λ (r : Reply). IsCaused settings before after r) (sym told) tt
put_caused settings v before after _ answer cause told = absurd told
