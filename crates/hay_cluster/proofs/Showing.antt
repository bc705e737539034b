-- Reads are legal.
use Rattle.std.proofs.Common.{◌≡◌, ◌≢◌, ℕ, zero, suc, ◌+◌, ◌-◌, ◌%◌, ◌^◌, ◌<◌, ◌≤◌, ◌⊎◌, not, true, false, Bool, cond, List, [], ◌∷◌, ◌++◌, length, take, drop, map, Option, Some}
use Rattle.std.proofs.Common.{refl, sym, ap, subst, ◌∙◌, inl, inr, arith}
use Rattle.std.specs.Prelude.{◌==◌, Err, slice_get, slice_index, slice_index_or, slice_set, take_while}
use Rattle.std.specs.List.{AllByRecursion, AllZip, count_by, prefix_len, range_with_len}
use Rattle.std.proofs.Math.Nat.{mod-lt}
use Rattle.std.proofs.Math.Seq.{drop-append_seam, drop-length, take-append_seam, take-length}
use Rattle.std.proofs.lemmas.Bool.{cases_Bool, cases_order, eq-eqb}
use Rattle.std.proofs.lemmas.Bool.Decides.{nat_tests}
use Rattle.std.proofs.lemmas.List.{append-nil, take-append-drop}
use Rattle.std.proofs.lemmas.List.Sums.{sum_by-cons}
use Rattle.std.proofs.lemmas.Option.{same_Some, slice_get_within}
use Rattle.hay_needle.specs.declared.needle.Cookie.{Cookie}
use Rattle.hay_needle.specs.declared.needle.Outcome.{Outcome}
use Rattle.hay_needle.specs.declared.needle.Outcome.TheVariants as outcome
use Rattle.hay_needle.specs.declared.needle.Pair.{Pair}
use Rattle.hay_needle.specs.declared.settings.Settings.{Settings}
use Rattle.hay_needle.specs.declared.total.TheConstants.{MAX_PHOTO}
use Rattle.hay_needle.specs.Needle.{NeedleBytes, needle_of_cell}
use Rattle.hay_needle.specs.Tables.{outcome_at}
use Rattle.hay_needle.specs.declared.needle.Needle.{Needle}
use Rattle.hay_disk.specs.Counts.{Rose}
use Rattle.hay_disk.specs.Disk.{Files}
use Rattle.hay_core.specs.declared.entry.CoreTag.{CoreTag}
use Rattle.hay_map.specs.declared.place.Place.{Place}
use Rattle.hay_map.specs.declared.place.Place.TheVariants as place
use Rattle.hay_map.specs.Places.{place_in}
use Rattle.hay_map.specs.Rows.{row_at}
use Rattle.hay_compact.specs.Finishing.{IsSeen}
use Rattle.hay_physical.specs.OpenCopies.{Copy}
use Rattle.hay_legal.specs.declared.known.Known.{Known}
use Rattle.hay_legal.specs.declared.known.VolumeKnown.{VolumeKnown}
use Rattle.hay_legal.specs.Known.{NoneFalls, arm_count, empty_volume, fault_count, has_risen, home_of, machine_of, now, replica_at, replica_on, slot_of, volume_at}
use Rattle.hay_legal.specs.Known as known
use Rattle.hay_legal.specs.Plain as legal
use Rattle.hay_legal.specs.Plain.{IsShown, IsUnreadable, LegalCommand, LegalGet, LeavesElsewhere, LegalGetAt, LegalShow, order_from}
use Rattle.hay_legal.specs.Suiting.{NamesEach, ShowsOf}
use Rattle.hay_logical.specs.Answers as answers
use Rattle.hay_logical.specs.Fits.{At, PlaceStands}
use Rattle.hay_logical.specs.Stands as logical
use Rattle.hay_logical.specs.ReplicaCalls.{IsSeenBy}
use Rattle.hay_logical.specs.Volumes.{Volume}
use Rattle.hay_logical.specs.declared.fault.LogicalFault.{LogicalFault}
use Rattle.hay_logical.specs.declared.fault.LogicalFault.TheVariants as refusal
use Rattle.hay_reply.specs.declared.Cause.{Cause}
use Rattle.hay_reply.specs.declared.Cause.TheVariants.{Arm, Disk, Damage}
use Rattle.hay_reply.specs.declared.Passed.{Passed}
use Rattle.hay_reply.specs.declared.Reply.{Reply}
use Rattle.hay_reply.specs.declared.Reply.TheVariants as reply
use Rattle.hay_script.specs.declared.Command.TheVariants as command
use Rattle.hay_url.specs.declared.Url.{Url}
use Rattle.hay_reader.specs.Causes.{ArmRises, ArmUse, ComeFirst, EachPair, HasArmCause, PassesRow, passed_now, tried_from}
use Rattle.hay_reader.specs.Shown.{HasBytes, MayMean, ReadAnswers, ReadsRow, ShowsAt, ShowsPlace}
use Rattle.hay_reader.specs.Tried.{CanShow, HasItsPhoto, HasPhoto, PlaceGives}
use Rattle.hay_reader.specs.declared.causes.PassedReplica.{PassedReplica}
use Rattle.hay_reader.specs.declared.seat.ReadReply.{ReadReply}
use Rattle.hay_reader.specs.declared.seat.ReadReply.TheVariants as read
use Rattle.hay_reader.specs.declared.trial.Shown.{Shown}
use Rattle.hay_reader.specs.declared.trial.Shown.TheVariants as shown
use Rattle.hay_reader.proofs.Outcomes.{passed_for_arm, stops_unseen}
use Rattle.hay_reader.proofs.Passing.{all_weaken, first_more, no_shorter}
use Rattle.hay_cluster.specs.Causes.{Counts, RoseIn}
use Rattle.hay_cluster.specs.Passing.{IsSureArm, StandsFor}
use Rattle.hay_cluster.specs.Reads.{FoundPasses, FoundSays, IsFoundAs, IsPassedFor, IsSeenAt, IsSeenByAt, IsSightCause, IsSightFault, IsWhole, MayHave, NeverIn, PassesFrom}
use Rattle.hay_cluster.specs.Reads.{PassesTo, ReadPasses, ReadSays, StopsUnseen, counts_of, outcomes_of, passed_at}
use Rattle.hay_cluster.specs.declared.reading.Found.{Found}
use Rattle.hay_cluster.specs.declared.reading.Found.TheVariants as found
use Rattle.hay_cluster.specs.Parts.{Comes}
use Rattle.hay_cluster.specs.State.{Stands}
use Rattle.hay_logical.specs.Sights.{Sight, sight}
use Rattle.hay_cluster.specs.Store.{IsBuilt, IsShaped, Open, disks_of}
use Rattle.hay_cluster.proofs.Changing.{comes_still}
use Rattle.hay_cluster.proofs.Lists.{length-set, slice_get-set}
use Rattle.hay_legal.proofs.Machines.{replica_found, same_machine}
use Rattle.hay_cluster.proofs.Moves.{Called, called_failed, called_shape, count_at, falls_at, falls_trans, has_item, none_falls, volume_comes, volume_of, volume_stood, with_one}

range_get : (f : ℕ → Outcome) (n at i : ℕ) (x : Outcome) → slice_get (map f (range_with_len at n)) i ≡ Some x → (i < n) × (f (at + i) ≡ x)
range_get f zero at i x is = absurd cc
range_get f (suc n) at zero x is = (omega arith, (let e : at + 0 ≡ at = omega arith in ap f e ∙ (let same : f at ≡ x = cc in same)))
range_get f (suc n) at (suc i) x is =
    let rest = range_get f n (at + 1) i x is in
    (omega (arith, rest.0), (let e : at + suc i ≡ at + 1 + i = omega arith in ap f e ∙ rest.1))

length-range : {X : Type 0} (f : ℕ → X) (n at : ℕ) → length (map f (range_with_len at n)) ≡ n
length-range f zero at = refl
length-range f (suc n) at = let rest = length-range f n (at + 1) in omega (arith, rest)

zip_from : {P : Type 0} (R : Place P → Outcome → Type 0) (row : List (Place P)) (f : ℕ → Outcome) (n at : ℕ) → length row ≡ n → ((j : ℕ) → j < n → R (place_in row j) (f (at + j)))
    → AllZip R row (map f (range_with_len at n))
zip_from R [] f zero at long each = tt
zip_from R [] f (suc n) at long each = absurd (omega arith)
zip_from R (p ∷ row) f zero at long each = absurd (omega arith)
zip_from R (p ∷ row) f (suc n) at long each = (
  (let e : at + 0 ≡ at = omega arith in subst (λ i. R p (f i)) e (each 0 (omega arith))),
  zip_from R row f n (at + 1) (omega arith) (λ j below. let e : at + suc j ≡ at + 1 + j = omega arith in subst (λ i. R (place_in row j) (f i)) e (each (suc j) (omega arith))),
)

-- the places of a row mean what the replicas have
pub row_means : {P : Type 0} (R : Place P → Outcome → Type 0) (row : List (Place P)) (settings : Settings) (volume : VolumeKnown) (pair : Pair) → length row ≡ settings.replicas
    → ((j : ℕ) → j < settings.replicas → R (place_in row j) (outcome_at (now volume (replica_at volume j)) pair)) → AllZip R row (outcomes_of settings volume pair)
row_means R row settings volume pair long each =
    zip_from R row (λ j. outcome_at (now volume (replica_at volume j)) pair) settings.replicas 0 long
    (λ j below. let e : j ≡ 0 + j = omega arith in subst (λ i. R (place_in row j) (outcome_at (now volume (replica_at volume i)) pair)) e (each j below))

-- what a place stands for, it may mean
pub may_mean : {D P : Type 0} (files : D → Files) (Tells : Type 0) (r : Copy D) (pair : Pair) (there : Place P) (what : Outcome) → PlaceStands files Tells r pair there what
    → MayMean Tells pair there what
may_mean files Tells r pair (place.Live needle) what stands = stands
may_mean files Tells r pair place.None what stands = stands
may_mean files Tells r pair place.Gone what stands = stands
may_mean files Tells r pair (place.Unseen at size) what stands = tt

-- the places of a volume's row may mean what its replicas have
pub row_may_mean : {D P : Type 0} (files : D → Files) (Tells : Type 0) (replicas : List (Copy D)) (row : List (Place P)) (settings : Settings) (volume : VolumeKnown) (pair : Pair)
    → length row ≡ settings.replicas → length replicas ≡ settings.replicas
    → ((j : ℕ) (r : Copy D) → At replicas j r → PlaceStands files Tells r pair (place_in row j) (outcome_at (now volume (replica_at volume j)) pair))
    → AllZip (MayMean Tells pair) row (outcomes_of settings volume pair)
row_may_mean files Tells replicas row settings volume pair long all stands =
    row_means (MayMean Tells pair) row settings volume pair long
    (λ j below. let r = has_item replicas j (omega (arith, below, all)) in may_mean files Tells r.0 pair (place_in row j) (outcome_at (now volume (replica_at volume j)) pair) (stands j r.0 r.1))

-- A SEAT

pub later_set : {X : Type 0} (f : X → ℕ) (xs : List X) (i : ℕ) (x x' : X) → slice_get xs i ≡ Some x → f x ≤ f x' → NoneFalls (map f xs) (map f (slice_set xs i x'))
later_set f [] i x x' at later = absurd cc
later_set f (y ∷ xs) zero x x' at later = let same : y ≡ x = cc in (subst (λ z. f z ≤ f x') (sym same) later, none_falls (map f xs))
later_set f (y ∷ xs) (suc i) x x' at later = ((let e : f y ≤ f y = omega arith in e), later_set f xs i x x' at later)

pub mapped_at : {X : Type 0} (f : X → ℕ) (xs : List X) (i : ℕ) (x : X) → slice_get xs i ≡ Some x → slice_index (map f xs) i ≡ f x
mapped_at f [] i x at = absurd cc
mapped_at f (y ∷ xs) zero x at = let same : y ≡ x = cc in ap f same
mapped_at f (y ∷ xs) (suc i) x at = mapped_at f xs i x at

-- what is said of the counts of the item that changed
pub counts_at : {X : Type 0} (f : X → ℕ) (R : ℕ → ℕ → Type 0) (old xs : List X) (i : ℕ) (x x' : X) → xs ≡ old → slice_get xs i ≡ Some x → R (f x) (f x')
    → R (slice_index (map f old) i) (slice_index (map f (slice_set xs i x')) i)
counts_at {X} f R old xs i x x' same at here =
    subst (λ (ys : List X). R (slice_index (map f ys) i) (slice_index (map f (slice_set xs i x')) i)) same
    (subst (λ n. R n (slice_index (map f (slice_set xs i x')) i)) (sym (mapped_at f xs i x at))
    (subst (λ n. R (f x) n) (sym (mapped_at f (slice_set xs i x') i x' (slice_get-set xs i x x' at))) here))

module _ {D P A : Type 0} (files : D → Files) (Tells : Type 0) (faults fuses : D → ℕ) (arm_faults : A → ℕ) where
  -- a lane's arm was used
  pub seat_comes : (old store : Open D P A) (k : Known) (lane : ℕ) (arm arm' : A) → store ≡ old → Stands files Tells faults fuses arm_faults old k
      → slice_get store.arms lane ≡ Some arm → arm_faults arm ≤ arm_faults arm'
      → Comes files Tells faults fuses arm_faults k k (record store { arms = slice_set store.arms lane arm' })
  unfolding Stands
  seat_comes old store k lane arm arm' is stands at later =
      let s : Stands files Tells faults fuses arm_faults store k = subst (λ (st : Open D P A). Stands files Tells faults fuses arm_faults st k) (sym is) stands in
      record {
        known = record k { arms = map arm_faults (slice_set store.arms lane arm') };
        leaves = record {
          volumes = refl;
          directory = refl;
          drained = refl;
          fuses = refl;
          faults = none_falls k.faults;
          arms = subst (λ ns. NoneFalls ns (map arm_faults (slice_set store.arms lane arm'))) (sym s.arm_counts) (later_set arm_faults store.arms lane arm arm' at later);
        };
        stands = record {
          shape = record { built = (s.shape).built; directory = (s.shape).directory; many = (s.shape).many; volumes = (s.shape).volumes; lanes = length-set store.arms lane arm' ∙ (s.shape).lanes };
          directory = s.directory;
          volumes = s.volumes;
          fault_counts = s.fault_counts;
          fuse_counts = s.fuse_counts;
          arm_counts = refl;
        };
      }

-- PASSED REPLICAS

-- what never is the cause in a read is none in what goes on with it
pub never_on : {D P A : Type 0} (DiskTells : Type 0) (files : D → Files) (Tells : Type 0) (faults fuses : D → ℕ) (arm_faults : A → ℕ) (is_sure : A → Bool) (old new : Open D P A) (lane : ℕ)
    → (IsSureArm is_sure old.arms lane → IsSureArm is_sure new.arms lane)
    → (IsWhole DiskTells files Tells faults fuses arm_faults old → IsWhole DiskTells files Tells faults fuses arm_faults new) → (cause : Cause)
    → NeverIn DiskTells files Tells faults fuses arm_faults is_sure old lane cause → NeverIn DiskTells files Tells faults fuses arm_faults is_sure new lane cause
never_on DiskTells files Tells faults fuses arm_faults is_sure old new lane sure whole (Arm f) never = sure never
never_on DiskTells files Tells faults fuses arm_faults is_sure old new lane sure whole (Disk f) never = never
never_on DiskTells files Tells faults fuses arm_faults is_sure old new lane sure whole (Damage at) never = whole never

pub all_append : {X : Type 0} (Q : X → Type 0) (xs ys : List X) → AllByRecursion Q xs → AllByRecursion Q ys → AllByRecursion Q (xs ++ ys)
all_append Q [] ys first rest = rest
all_append Q (x ∷ xs) ys first rest = (first.0, all_append Q xs ys first.1 rest)

all_both : {X : Type 0} (Q R S : X → Type 0) → ((x : X) → Q x → R x → S x) → (xs : List X) → AllByRecursion Q xs → AllByRecursion R xs → AllByRecursion S xs
all_both Q R S join [] q r = tt
all_both Q R S join (x ∷ xs) q r = (join x q.0 r.0, all_both Q R S join xs q.1 r.1)

all_drop : {X : Type 0} (Q : X → Type 0) (xs ys : List X) → AllByRecursion Q (xs ++ ys) → AllByRecursion Q ys
all_drop Q [] ys all = all
all_drop Q (x ∷ xs) ys all = all_drop Q xs ys all.1

pairs_append : {X : Type 0} (R : X → X → Type 0) (xs ys : List X) → EachPair R xs → EachPair R ys → AllByRecursion (λ x. AllByRecursion (R x) ys) xs → EachPair R (xs ++ ys)
pairs_append R [] ys first rest across = rest
pairs_append R (x ∷ xs) ys first rest across = (all_append (R x) xs ys first.0 across.0, pairs_append R xs ys first.1 rest across.1)

all_pairs : {X : Type 0} (Q S : X → Type 0) (R : X → X → Type 0) → ((x y : X) → Q x → S y → R x y) → (xs ys : List X) → AllByRecursion Q xs → AllByRecursion S ys
    → AllByRecursion (λ x. AllByRecursion (R x) ys) xs
all_pairs Q S R join xs ys q s = all_weaken Q (λ x. AllByRecursion (R x) ys) (λ x h. all_weaken S (R x) (λ y k. join x y h k) ys s) xs q

-- a cause is one until later counts, where its disk's count stays, and since earlier ones
cause_until : (W : Cause → Type 0) (slot arm mid later : ℕ) (disks between after : List ℕ) (cause : Cause) → mid ≤ later → (later ≡ mid) ⊎ (later < 2 ^ 64)
    → slice_index after slot ≡ slice_index between slot
    → IsPassedFor W slot arm mid disks between cause → IsPassedFor W slot arm later disks after cause
cause_until W slot arm mid later disks between after (Arm f) more most same has =
    let below : later < 2 ^ 64 = elim most [ inl still ↦ (let low = (has.0).1 in omega (arith, low)) | inr below ↦ below ] in
    ((((has.0).0.0, (let low = (has.0).0.1 in omega (arith, low))), below), has.1)
cause_until W slot arm mid later disks between after (Disk f) more most same has = (subst (λ n. Rose (slice_index disks slot) n) (sym same) has.0, has.1 ∙ sym same)
cause_until W slot arm mid later disks between after (Damage at) more most same has = has

cause_since : (W W' : Cause → Type 0) (slot arm mid later : ℕ) (disks between after : List ℕ) (cause : Cause) → ((cause : Cause) → W cause → W' cause) → arm ≤ mid
    → slice_index disks slot ≤ slice_index between slot
    → IsPassedFor W' slot mid later between after cause → IsPassedFor W slot arm later disks after cause
cause_since W W' slot arm mid later disks between after (Arm f) whole more low has =
    (((elim (has.0).0.0 [ inl up ↦ inl (omega arith) | inr top ↦ inr top ], (has.0).0.1), (has.0).1), λ w. has.1 (whole (Arm f) w))
cause_since W W' slot arm mid later disks between after (Disk f) whole more low has = (elim has.0 [ inl up ↦ inl (omega arith) | inr top ↦ inr top ], has.1)
cause_since W W' slot arm mid later disks between after (Damage at) whole more low has = λ w. has (whole (Damage at) w)

rises_later : (W W' : Cause → Type 0) (slot slot' arm mid later : ℕ) (disks between after : List ℕ) (a b : Cause) → IsPassedFor W slot arm mid disks between a
    → IsPassedFor W' slot' mid later between after b → ArmRises a b
rises_later W W' slot slot' arm mid later disks between after (Arm f) (Arm h) has has' = elim (has'.0).0.0 [ inl up ↦ inl (let low = (has.0).0.1 in omega (arith, low, up)) | inr top ↦ inr top ]
rises_later W W' slot slot' arm mid later disks between after (Arm f) (Disk h) has has' = tt
rises_later W W' slot slot' arm mid later disks between after (Arm f) (Damage at) has has' = tt
rises_later W W' slot slot' arm mid later disks between after (Disk f) b has has' = tt
rises_later W W' slot slot' arm mid later disks between after (Damage at) b has has' = tt

-- What happened to counts behind those that passed replicas tell of.
pub record GoesOn (settings : Settings) (lane v : ℕ) (before mid after : Counts) (causes : List PassedReplica) : Type 0 where
  pub first : slice_index before.arms lane ≤ slice_index mid.arms lane
  pub later : slice_index mid.arms lane ≤ slice_index after.arms lane
  pub most : (slice_index after.arms lane ≡ slice_index mid.arms lane) ⊎ (slice_index after.arms lane < 2 ^ 64)
  pub fall : (slot : ℕ) → slice_index before.disks slot ≤ slice_index mid.disks slot
  pub still : AllByRecursion (λ p. slice_index after.disks (slot_of settings v p.replica) ≡ slice_index mid.disks (slot_of settings v p.replica)) causes

module _ (W W' : Cause → Type 0) (settings : Settings) (lane v start : ℕ) (before mid after : Counts) (passed causes more : List PassedReplica) where
  abbrev First : PassedReplica → Type 0
  First p = IsPassedFor W (slot_of settings v p.replica) (slice_index before.arms lane) (slice_index mid.arms lane) before.disks mid.disks p.cause

  abbrev Then : PassedReplica → Type 0
  Then p = IsPassedFor W' (slot_of settings v p.replica) (slice_index mid.arms lane) (slice_index after.arms lane) mid.disks after.disks p.cause

  abbrev Both : PassedReplica → Type 0
  Both p = IsPassedFor W (slot_of settings v p.replica) (slice_index before.arms lane) (slice_index after.arms lane) before.disks after.disks p.cause

  pub passes_on : ((cause : Cause) → W cause → W' cause) → GoesOn settings lane v before mid after causes → PassesFrom W settings lane v start before mid passed causes
      → PassesFrom W' settings lane v start mid after causes more
      → PassesFrom W settings lane v start before after passed more
  passes_on whole on first then =
      let now : List PassedReplica = passed_now passed causes in
      let rest : List PassedReplica = passed_now causes more in
      let parts : causes ≡ passed ++ now = sym (take-append-drop (length passed) causes) ∙ ap (λ (xs : List PassedReplica). xs ++ now) first.begins in
      let whole_list : more ≡ passed ++ (now ++ rest) =
      sym (take-append-drop (length causes) more) ∙ ap (λ (xs : List PassedReplica). xs ++ rest) (then.begins ∙ parts) ∙ assoc passed now rest in
      let new : passed_now passed more ≡ now ++ rest = ap (λ (xs : List PassedReplica). drop (length passed) xs) whole_list ∙ drop-append_seam passed (now ++ rest) in
      let still : AllByRecursion (λ p. slice_index after.disks (slot_of settings v p.replica) ≡ slice_index mid.disks (slot_of settings v p.replica)) now =
      all_drop (λ p. slice_index after.disks (slot_of settings v p.replica) ≡ slice_index mid.disks (slot_of settings v p.replica)) passed now
      (subst (λ (xs : List PassedReplica). AllByRecursion (λ p. slice_index after.disks (slot_of settings v p.replica) ≡ slice_index mid.disks (slot_of settings v p.replica)) xs) parts on.still) in
      record {
        begins = ap (λ (xs : List PassedReplica). take (length passed) xs) whole_list ∙ take-append_seam passed (now ++ rest);
        order = then.order;
        each = subst (λ (xs : List PassedReplica). AllByRecursion Both xs) (sym new)
            (all_append Both now rest
            (all_both First (λ p. slice_index after.disks (slot_of settings v p.replica) ≡ slice_index mid.disks (slot_of settings v p.replica)) Both
            (λ p has same. cause_until W (slot_of settings v p.replica) _ _ _ before.disks mid.disks after.disks p.cause on.later on.most same has) now first.each still)
            (all_weaken Then Both (λ p has. cause_since W W' (slot_of settings v p.replica) _ _ _ before.disks mid.disks after.disks p.cause whole on.first
            (on.fall (slot_of settings v p.replica)) has) rest then.each));
        rises = subst (λ (xs : List PassedReplica). EachPair (λ a b. ArmRises a.cause b.cause) xs) (sym new)
            (pairs_append (λ a b. ArmRises a.cause b.cause) now rest first.rises then.rises
            (all_pairs First Then (λ a b. ArmRises a.cause b.cause)
            (λ a b has has'. rises_later W W' (slot_of settings v a.replica) (slot_of settings v b.replica) _ _ _ before.disks mid.disks after.disks a.cause b.cause has has') now
            rest first.each then.each));
      }
    where
      assoc : (xs ys zs : List PassedReplica) → (xs ++ ys) ++ zs ≡ xs ++ (ys ++ zs)
      assoc [] ys zs = refl
      assoc (x ∷ xs) ys zs = ap (λ (l : List PassedReplica). x ∷ l) (assoc xs ys zs)

-- a read that goes on from passed replicas
pub read_on : (W W' : Cause → Type 0) (settings : Settings) (lane v start : ℕ) (before mid after : Counts) (Had : ℕ → Cause → Type 0) (passed causes : List PassedReplica) (reply : ReadReply)
    → ((cause : Cause) → W cause → W' cause) → GoesOn settings lane v before mid after causes → PassesFrom W settings lane v start before mid passed causes
    → ReadPasses W' settings lane v start mid after Had causes reply → ReadPasses W settings lane v start before after Had passed reply
read_on W W' settings lane v start before mid after Had passed causes reply whole on first reads = go reply reads
  where
    from : (more : List PassedReplica) → PassesFrom W' settings lane v start mid after causes more → PassesFrom W settings lane v start before after passed more
    from more h = passes_on W W' settings lane v start before mid after passed causes more whole on first h

    to : (more : List PassedReplica) (j : ℕ) → PassesTo W' settings lane v start mid after Had causes more j → PassesTo W settings lane v start before after Had passed more j
    to more j h = record { passes = from more h.passes; stood = h.stood; fewer = h.fewer; next = h.next }

    go : (r : ReadReply) → ReadPasses W' settings lane v start mid after Had causes r → ReadPasses W settings lane v start before after Had passed r
    go (read.Photo j) h = (h.0, to h.0 j h.1)
    go (read.Gone j) h = (h.0, to h.0 j h.1)
    go (read.WrongCookie j) h = (h.0, to h.0 j h.1)
    go (read.Unseen j more) h = to more j h
    go (read.Unreadable more) h = record { passes = from more h.passes; stood = h.stood; all = h.all }

-- THE ARM'S COUNT

-- where no needle is damaged, the arm's count rose for each replica that was passed over but whose disk's count did not
abbrev pub Reaches : ℕ → ℕ → ℕ → Type 0
Reaches arm tries arm' = (arm + tries ≤ arm') ⊎ (arm' ≡ 2 ^ 64 - 1)

abbrev rose_in : Settings → ℕ → List ℕ → List ℕ → ℕ → Bool
rose_in settings v disks disks' j = has_risen (slice_index disks (slot_of settings v j)) (slice_index disks' (slot_of settings v j))

has_rose : (before after : ℕ) → Rose before after → has_risen before after ≡ true
has_rose before after rose = grind (arith, nat_tests, rose)

abbrev one_if : Bool → ℕ
one_if b = cond b 1 0

count_cons : (q : ℕ → Bool) (x : ℕ) (xs : List ℕ) → count_by q (x ∷ xs) ≡ one_if (q x) + count_by q xs
count_cons q x xs = sum_by-cons (λ i. one_if (q i)) x xs

count_more : (q : ℕ → Bool) (x : ℕ) (xs : List ℕ) → count_by q (x ∷ xs) ≤ 1 + count_by q xs
count_more q x xs =
    let all = count_cons q x xs in
    elim (cases_Bool (q x)) [
      | inl t ↦ let one : one_if (q x) ≡ 1 = ap one_if t in omega (arith, all, one)
      | inr n ↦ let none : one_if (q x) ≡ 0 = ap one_if n in omega (arith, all, none)
    ]

count_none : (q : ℕ → Bool) (x : ℕ) (xs : List ℕ) → q x ≡ false → count_by q (x ∷ xs) ≡ count_by q xs
count_none q x xs fails = let none : one_if (q x) ≡ 0 = ap one_if fails in let all = count_cons q x xs in omega (arith, all, none)

module _ (W : Cause → Type 0) (whole : (at : ℕ) → W (Damage at)) (settings : Settings) (v arm' : ℕ) (disks disks' : List ℕ) where
  abbrev IsOver : ℕ → PassedReplica → Type 0
  IsOver arm p = IsPassedFor W (slot_of settings v p.replica) arm arm' disks disks' p.cause

  -- a cause since an earlier count that comes behind one of the arm comes since that
  since_arm : (arm f slot : ℕ) (cause : Cause) → ArmRises (Arm f) cause → IsPassedFor W slot arm arm' disks disks' cause → IsPassedFor W slot f arm' disks disks' cause
  since_arm arm f slot (Arm h) rises has = (((rises, (has.0).0.1), (has.0).1), has.1)
  since_arm arm f slot (Disk h) rises has = has
  since_arm arm f slot (Damage at) rises has = has

  reach_one : (arm j : ℕ) (cause : Cause) (rest : List PassedReplica) → IsPassedFor W (slot_of settings v j) arm arm' disks disks' cause
      → AllByRecursion (λ p. ArmRises cause p.cause) rest → AllByRecursion (IsOver arm) rest
      → ((f : ℕ) → f ≤ arm' → AllByRecursion (IsOver f) rest → Reaches f (count_by (λ i. not (rose_in settings v disks disks' i)) (map (λ p. p.replica) rest)) arm') → arm ≤ arm'
      → Reaches arm (count_by (λ i. not (rose_in settings v disks disks' i)) (j ∷ map (λ p. p.replica) rest)) arm'
  reach_one arm j (Arm f) rest has rises each reach later =
      let others : AllByRecursion (IsOver f) rest =
      all_both (λ p. ArmRises (Arm f) p.cause) (IsOver arm) (IsOver f) (λ p up came. since_arm arm f (slot_of settings v p.replica) p.cause up came) rest rises each in
      elim (has.0).0.0 [
        | inl up ↦ elim (reach f (has.0).0.1 others) [
          | inl far ↦ inl (let one = count_more (λ i. not (rose_in settings v disks disks' i)) j (map (λ p. p.replica) rest) in omega (arith, one, far, up))
          | inr top ↦ inr top
        ]
        | inr top ↦ inr (let low = (has.0).0.1 in let most = (has.0).1 in omega (arith, low, most, top))
      ]
  reach_one arm j (Disk f) rest has rises each reach later =
      let risen : not (rose_in settings v disks disks' j) ≡ false = ap not (has_rose (slice_index disks (slot_of settings v j)) (slice_index disks' (slot_of settings v j)) has.0) in
      elim (reach arm later each) [
        | inl far ↦ inl (let none = count_none (λ i. not (rose_in settings v disks disks' i)) j (map (λ p. p.replica) rest) risen in omega (arith, none, far))
        | inr top ↦ inr top
      ]
  reach_one arm j (Damage at) rest has rises each reach later = absurd (has (whole at))

  reaches : (arm : ℕ) (over : List PassedReplica) → arm ≤ arm' → AllByRecursion (IsOver arm) over → EachPair (λ a b. ArmRises a.cause b.cause) over
      → Reaches arm (count_by (λ i. not (rose_in settings v disks disks' i)) (map (λ p. p.replica) over)) arm'
  reaches arm [] later each rises = inl (omega arith)
  reaches arm (p ∷ over) later each rises = reach_one arm p.replica p.cause over each.0 rises.0 each.1 (λ f more others. reaches f over more others rises.1) later

-- of a list, where a test fails behind its front, no more is taken than the front
front_counts : (p q : ℕ → Bool) (xs : List ℕ) (y : ℕ) (ys : List ℕ) → p y ≡ false → count_by q (take_while p (xs ++ y ∷ ys)) ≤ count_by q xs
front_counts p q [] y ys fails = let none : take_while p (y ∷ ys) ≡ [] = ap (λ b. take (cond b (1 + prefix_len p ys) 0) (y ∷ ys)) fails in rw none (omega arith)
front_counts p q (x ∷ xs) y ys fails =
    let rest = front_counts p q xs y ys fails in
    elim (cases_Bool (p x)) [
      | inl t ↦
          let first : take_while p (x ∷ (xs ++ y ∷ ys)) ≡ x ∷ take_while p (xs ++ y ∷ ys) =
          ap (λ b. take (cond b (1 + prefix_len p (xs ++ y ∷ ys)) 0) (x ∷ (xs ++ y ∷ ys))) t ∙ take_one x (prefix_len p (xs ++ y ∷ ys)) (xs ++ y ∷ ys) in
          let taken = ap (count_by q) first ∙ count_cons q x (take_while p (xs ++ y ∷ ys)) in
          let whole = count_cons q x xs in
          omega (arith, taken, whole, rest)
      | inr n ↦
          let none : take_while p (x ∷ (xs ++ y ∷ ys)) ≡ [] = ap (λ b. take (cond b (1 + prefix_len p (xs ++ y ∷ ys)) 0) (x ∷ (xs ++ y ∷ ys))) n in
          let taken : count_by q (take_while p (x ∷ (xs ++ y ∷ ys))) ≡ 0 = ap (count_by q) none in
          omega (arith, taken)
    ]
  where
    take_one : (z n : ℕ) (zs : List ℕ) → take (1 + n) (z ∷ zs) ≡ z ∷ take n zs
    take_one z n zs = let e : 1 + n ≡ suc n = omega arith in ap (λ k. take k (z ∷ zs)) e

-- the tries up to one
pub split_tries : (f : ℕ → ℕ) (tries n at : ℕ) → tries < n → (rest : List ℕ) × (map f (range_with_len at n) ≡ map f (range_with_len at tries) ++ f (at + tries) ∷ rest)
split_tries f tries zero at few = absurd (omega arith)
split_tries f zero (suc n) at few = (map f (range_with_len (at + 1) n), (let e : at ≡ at + 0 = omega arith in ap (λ i. f i ∷ map f (range_with_len (at + 1) n)) e))
split_tries f (suc tries) (suc n) at few =
    let rest = split_tries f tries n (at + 1) (omega arith) in
    let e : at + 1 + tries ≡ at + suc tries = omega arith in
    (rest.0, ap (λ (xs : List ℕ). f at ∷ xs) rest.1 ∙ ap (λ i. f at ∷ (map f (range_with_len (at + 1) tries) ++ f i ∷ rest.0)) e)

pub tried : (W : Cause → Type 0) (settings : Settings) (lane v start : ℕ) (before after : Counts) (Had : ℕ → Cause → Type 0) (causes : List PassedReplica) (j : ℕ)
    → ((at : ℕ) → W (Damage at)) → slice_index before.arms lane ≤ slice_index after.arms lane
    → PassesTo W settings lane v start before after Had [] causes j
    → Reaches (slice_index before.arms lane) (count_by (λ i. not (rose_in settings v before.disks after.disks i)) (take_while (λ i. not (i == j)) (order_from settings start)))
    (slice_index after.arms lane)
tried W settings lane v start before after Had causes j whole later passes =
    let q : ℕ → Bool = λ i. not (rose_in settings v before.disks after.disks i) in
    let f : ℕ → ℕ = λ i. (start + i) % settings.replicas in
    let split = split_tries f (length causes) settings.replicas 0 passes.fewer in
    let same : f (0 + length causes) ≡ j = (let e : 0 + length causes ≡ length causes = omega arith in ap f e) ∙ sym passes.next in
    let stops : not (f (0 + length causes) == j) ≡ false = ap not (eq-eqb (f (0 + length causes)) j same) in
    let few : count_by q (take_while (λ i. not (i == j)) (order_from settings start)) ≤ count_by q (map (λ p. p.replica) causes) =
    subst (λ (xs : List ℕ). count_by q (take_while (λ i. not (i == j)) xs) ≤ count_by q (map (λ p. p.replica) causes)) (sym split.1)
    (subst (λ (xs : List ℕ). count_by q (take_while (λ i. not (i == j)) (xs ++ f (0 + length causes) ∷ split.0)) ≤ count_by q (map (λ p. p.replica) causes)) passes.passes.order
    (front_counts (λ i. not (i == j)) q (map (λ p. p.replica) causes) (f (0 + length causes)) split.0 stops)) in
    elim (reaches W whole settings v (slice_index after.arms lane) before.disks after.disks (slice_index before.arms lane) causes later passes.passes.each passes.passes.rises) [
      | inl far ↦ inl (omega (arith, few, far))
      | inr top ↦ inr top
    ]

-- THE REPLICAS THAT WERE TRIED

-- each is one of the volume's, and none is the next
pub all_tried : (Q : ℕ → Type 0) (f : ℕ → ℕ) (n at : ℕ) → ((i : ℕ) → at ≤ i → i < at + n → Q (f i)) → (over : List PassedReplica)
    → map (λ p. p.replica) over ≡ map f (range_with_len at n) → AllByRecursion (λ p. Q p.replica) over
all_tried Q f n at each [] order = tt
all_tried Q f zero at each (p ∷ over) order = absurd cc
all_tried Q f (suc n) at each (p ∷ over) order =
    let first : f at ≡ p.replica = cc in
    let rest : map (λ q. q.replica) over ≡ map f (range_with_len (at + 1) n) = cc in
    (subst Q first (each at (omega arith) (omega arith)), all_tried Q f n (at + 1) (λ i low high. each i (omega arith) (omega arith)) over rest)

-- A READ OF A ROW

-- an arm that is sure is not the cause
unsure_arm : {P : Type 0} (Tells : Type 0) (sure : Bool) (cookie : Cookie) (put : List ℕ) (there : Place P) (f : ℕ) → PlaceGives Tells sure cookie put there (Err (Arm f)) → sure ≢ true
unsure_arm Tells sure cookie put (place.Live needle) f gives = gives
unsure_arm Tells sure cookie put place.None f gives = absurd cc
unsure_arm Tells sure cookie put place.Gone f gives = absurd cc
unsure_arm Tells sure cookie put (place.Unseen at size) f gives = absurd cc

-- why the try of a place passes a replica over
tried_for : {P : Type 0} (W : Cause → Type 0) (Tells : Type 0) (sure : Bool) (cookie : Cookie) (slot arm arm' : ℕ) (disks disks' : List ℕ) (pair : Pair) (there : Place P) (cause : Cause)
    → ((at : ℕ) → W (Damage at) → (what : Outcome) × MayMean Tells pair there what) → ((f : ℕ) → W (Arm f) → sure ≡ true)
    → HasArmCause arm arm' cause → PlaceGives Tells sure cookie [] there (Err cause) → IsPassedFor W slot arm arm' disks disks' cause
tried_for W Tells sure cookie slot arm arm' disks disks' pair there (Arm f) means surely has gives = (has, λ w. unsure_arm Tells sure cookie [] there f gives (surely f w))
tried_for W Tells sure cookie slot arm arm' disks disks' pair there (Disk f) means surely has gives = absurd has
tried_for W Tells sure cookie slot arm arm' disks disks' pair there (Damage at) means surely has gives =
    λ w. passed_for_arm Tells sure cookie [] pair there (Damage at) (means at w).0 (means at w).1 gives

mean_at : {P : Type 0} (R : Place P → Outcome → Type 0) (row : List (Place P)) (outcomes : List Outcome) (j : ℕ) → R place.None outcome.Nothing → AllZip R row outcomes
    → (what : Outcome) × R (place_in row j) what
mean_at R [] [] j none all = (outcome.Nothing, none)
mean_at R [] (y ∷ ys) j none all = absurd all
mean_at R (x ∷ xs) [] j none all = absurd all
mean_at R (x ∷ xs) (y ∷ ys) zero none all = (y, all.0)
mean_at R (x ∷ xs) (y ∷ ys) (suc j) none all = mean_at R xs ys j none all.1

-- why a place is passed over is of what is seen there
pub gives_cause : {P : Type 0} (Tells : Type 0) (sure : Bool) (cookie : Cookie) (put : List ℕ) (there : Place P) (cause : Cause)
    → PlaceGives Tells sure cookie put there (Err cause) → StandsFor cause (sight there)
gives_cause Tells sure cookie put (place.Live needle) (Arm f) gives = tt
gives_cause Tells sure cookie put (place.Live needle) (Disk f) gives = absurd gives
gives_cause Tells sure cookie put (place.Live needle) (Damage at) gives = gives.0
gives_cause Tells sure cookie put place.None cause gives = absurd cc
gives_cause Tells sure cookie put place.Gone cause gives = absurd cc
gives_cause Tells sure cookie put (place.Unseen at size) cause gives = absurd cc

module _ {P : Type 0} (W : Cause → Type 0) (Tells : Type 0) (sure : Bool) (settings : Settings) (lane v start : ℕ) (before after : Counts) (row : List (Place P)) (pair : Pair)
    (cookie : Cookie) (long : length row ≡ settings.replicas)
    (means : (at : ℕ) → W (Damage at) → (outcomes : List Outcome) × AllZip (MayMean Tells pair) row outcomes) (surely : (f : ℕ) → W (Arm f) → sure ≡ true)
    (Had : ℕ → Cause → Type 0) (had : (j : ℕ) (cause : Cause) → PlaceGives Tells sure cookie [] (place_in row j) (Err cause) → Had j cause) (passed : List PassedReplica)
    (stood : MayHave Had passed) where
  abbrev TheArm : ArmUse
  TheArm = record { sure = sure; before = slice_index before.arms lane; after = slice_index after.arms lane }

  row_passes : (causes : List PassedReplica) → PassesRow Tells TheArm start row cookie passed causes → PassesFrom W settings lane v start before after passed causes
  row_passes causes h = record {
    begins = h.passes.begins;
    order = subst (λ n. ComeFirst start n causes) long h.passes.order;
    each = all_both (λ p. HasArmCause (slice_index before.arms lane) (slice_index after.arms lane) p.cause) (λ p. PlaceGives Tells sure cookie [] (place_in row p.replica) (Err p.cause))
        (λ p. IsPassedFor W (slot_of settings v p.replica) (slice_index before.arms lane) (slice_index after.arms lane) before.disks after.disks p.cause)
        (λ p has gives. tried_for W Tells sure cookie (slot_of settings v p.replica) (slice_index before.arms lane) (slice_index after.arms lane) before.disks after.disks pair
        (place_in row p.replica) p.cause
        (λ at w. let m = means at w in mean_at (MayMean Tells pair) row m.0 p.replica tt m.1) surely has gives)
        (passed_now passed causes) h.passes.each h.places;
    rises = h.passes.rises;
  }

  row_stood : (causes : List PassedReplica) → PassesRow Tells TheArm start row cookie passed causes → MayHave Had causes
  row_stood causes h =
      let fresh : List PassedReplica = passed_now passed causes in
      let parts : causes ≡ passed ++ fresh = sym (take-append-drop (length passed) causes) ∙ ap (λ (xs : List PassedReplica). xs ++ fresh) (h.passes).begins in
      subst (λ (xs : List PassedReplica). MayHave Had xs) (sym parts)
      (all_append (λ over. Had over.replica over.cause) passed fresh stood
      (all_weaken (λ over. PlaceGives Tells sure cookie [] (place_in row over.replica) (Err over.cause)) (λ over. Had over.replica over.cause)
      (λ over gives. had over.replica over.cause gives) fresh h.places))

  row_to : (causes : List PassedReplica) (put : List ℕ) (j : ℕ) (what : Shown) → ShowsPlace Tells TheArm start row cookie passed causes put j what
      → PassesTo W settings lane v start before after Had passed causes j
  row_to causes put j what h = record {
    passes = row_passes causes h.before;
    stood = row_stood causes h.before;
    fewer = subst (λ n. length causes < n) long h.fewer;
    next = h.next ∙ ap (λ n. (start + length causes) % n) long;
  }

  pub row_read : (put : List ℕ) (reply : ReadReply) → ReadsRow Tells TheArm start row cookie passed put reply → ReadPasses W settings lane v start before after Had passed reply
  row_read put (read.Photo j) h = (h.0, row_to h.0 put j shown.Photo h.1)
  row_read put (read.Gone j) h = (h.0, row_to h.0 put j shown.Gone h.1)
  row_read put (read.WrongCookie j) h = (h.0, row_to h.0 put j shown.WrongCookie h.1)
  row_read put (read.Unseen j causes) h = row_to causes put j shown.Unseen h
  row_read put (read.Unreadable causes) h = record { passes = row_passes causes h.0; stood = row_stood causes h.0; all = h.1 ∙ long }

-- the outcome that is shown
pub answers_say : (start before after : ℕ) (cookie : Cookie) (passed : List PassedReplica) (outcomes : List Outcome) (put : List ℕ) (reply : ReadReply)
    → ReadAnswers start cookie before after passed outcomes put reply → ReadSays cookie outcomes put reply
answers_say start before after cookie passed outcomes put (read.Photo j) h = h.stands
answers_say start before after cookie passed outcomes put (read.Gone j) h = h.stands
answers_say start before after cookie passed outcomes put (read.WrongCookie j) h = (h.0, h.1, h.2.stands)
answers_say start before after cookie passed outcomes put (read.Unseen j causes) h = tt
answers_say start before after cookie passed outcomes put (read.Unreadable causes) h = tt

-- a read stops where the row has a place that was not seen
pub row_stops : {D P A : Type 0} (Tells : Type 0) (arm : ArmUse) (start : ℕ) (row : List (Place P)) (cookie : Cookie) (passed : List PassedReplica) (put : List ℕ)
    (reply : ReadReply) (store : Open D P A) (v : ℕ) (volume : Volume D P) (pair : Pair)
    → At store.volumes v volume → row ≡ row_at volume.rows pair → ReadsRow Tells arm start row cookie passed put reply → StopsUnseen store v pair reply
row_stops Tells arm start row cookie passed put (read.Photo j) store v volume pair at is h = tt
row_stops Tells arm start row cookie passed put (read.Gone j) store v volume pair at is h = tt
row_stops Tells arm start row cookie passed put (read.WrongCookie j) store v volume pair at is h = tt
row_stops Tells arm start row cookie passed put (read.Unreadable causes) store v volume pair at is h = tt
row_stops {P = P} Tells arm start row cookie passed put (read.Unseen j causes) store v volume pair at is h = λ seen.
    let unseen = stops_unseen Tells arm.sure cookie put (place_in row j) h.gives in
    let here : IsSeen (place_in row j) = subst (λ (l : List (Place P)). IsSeen (place_in l j)) (sym is) (seen volume at) in
    subst (λ (p : Place P). IsSeen p) unseen.2 here

-- WHAT WAS FOUND IS LEGAL

abbrev known_counts : Known → Counts
known_counts k = record { disks = k.faults; arms = k.arms }

rose_came : (before after f : ℕ) → Rose before after → f ≡ after → known.CameUp before f after
rose_came before after f (inl up) is = (inl (omega (arith, up, is)), omega (arith, is))
rose_came before after f (inr top) is = (inr (is ∙ top), omega (arith, is))

passed_each : (W : Cause → Type 0) (settings : Settings) (k t : Known) (tag : CoreTag) (v : ℕ) (js : List ℕ) (over : List PassedReplica) → ((at : ℕ) → W (Damage at)) → map (λ p. p.replica) over ≡ js
    → AllByRecursion (λ p. IsPassedFor W (slot_of settings v p.replica) (arm_count k tag.lane) (arm_count t tag.lane) k.faults t.faults p.cause) over
    → AllZip (λ j passed. (passed.machine ≡ machine_of settings v j) × legal.HasCause settings k t tag v j passed.cause) js (map (passed_at settings v) over)
passed_each W settings k t tag v [] [] whole order causes = tt
passed_each W settings k t tag v (j ∷ js) [] whole order causes = absurd cc
passed_each W settings k t tag v [] (p ∷ over) whole order causes = absurd cc
passed_each W settings k t tag v (j ∷ js) (p ∷ over) whole order causes =
    let first : p.replica ≡ j = cc in
    let rest : map (λ q. q.replica) over ≡ js = cc in
    ((ap (machine_of settings v) first, subst (λ i. legal.HasCause settings k t tag v i p.cause) first (one p.replica p.cause causes.0)), passed_each W settings k t tag v js over whole rest causes.1)
  where
    one : (i : ℕ) (cause : Cause) → IsPassedFor W (slot_of settings v i) (arm_count k tag.lane) (arm_count t tag.lane) k.faults t.faults cause → legal.HasCause settings k t tag v i cause
    one i (Arm f) has = (has.0).0
    one i (Disk f) has = rose_came (fault_count k (slot_of settings v i)) (fault_count t (slot_of settings v i)) f has.0 has.1
    one i (Damage at) has = absurd (has (whole at))

rises_one : (a b : Cause) → ArmRises a b → legal.ArmRises a b
rises_one (Arm f) (Arm h) rise = rise
rises_one (Arm f) (Disk h) rise = tt
rises_one (Arm f) (Damage at) rise = tt
rises_one (Disk f) b rise = tt
rises_one (Damage at) b rise = tt

rises_all : (settings : Settings) (v : ℕ) (a : PassedReplica) (over : List PassedReplica) → AllByRecursion (λ b. ArmRises a.cause b.cause) over
    → AllByRecursion (λ b. legal.ArmRises (passed_at settings v a).cause b.cause) (map (passed_at settings v) over)
rises_all settings v a [] all = tt
rises_all settings v a (b ∷ over) all = (rises_one a.cause b.cause all.0, rises_all settings v a over all.1)

pub rises_each : (settings : Settings) (v : ℕ) (over : List PassedReplica) → EachPair (λ a b. ArmRises a.cause b.cause) over
    → known.EachPair (λ a b. legal.ArmRises a.cause b.cause) (map (passed_at settings v) over)
rises_each settings v [] all = tt
rises_each settings v (a ∷ over) all = (rises_all settings v a over all.0, rises_each settings v over all.1)

-- all replicas in the order of tries
pub in_order : (settings : Settings) (start : ℕ) (over : List PassedReplica) → ComeFirst start settings.replicas over → length over ≡ settings.replicas
    → map (λ p. p.replica) over ≡ order_from settings start
in_order settings start over order all = order ∙ ap (λ n. tried_from start settings.replicas n) all

pub machines_told : (settings : Settings) (v : ℕ) (over : List PassedReplica) → map (λ passed. passed.machine) (map (passed_at settings v) over)
    ≡ map (machine_of settings v) (map (λ p. p.replica) over)
machines_told settings v [] = refl
machines_told settings v (p ∷ over) = ap (λ (ms : List ℕ). machine_of settings v p.replica ∷ ms) (machines_told settings v over)

-- so they are told, each once
pub names_each : (settings : Settings) (start v : ℕ) (over : List PassedReplica) (told : List Passed) → told ≡ map (passed_at settings v) over
    → ComeFirst start settings.replicas over → length over ≡ settings.replicas → NamesEach settings start v told
names_each settings start v over told is order all =
    ap (λ (l : List Passed). map (λ passed. passed.machine) l) is ∙ machines_told settings v over ∙ ap (map (machine_of settings v)) (in_order settings start over order all)

-- the replica that showed the photo is one of the volume's
pub to_below : (W : Cause → Type 0) (settings : Settings) (lane v start : ℕ) (before after : Counts) (Had : ℕ → Cause → Type 0) (passed causes : List PassedReplica) (j : ℕ)
    → PassesTo W settings lane v start before after Had passed causes j → j < settings.replicas
to_below W settings lane v start before after Had passed causes j to =
    let fewer = to.fewer in
    let some : 0 < settings.replicas = omega (arith, fewer) in
    let low = mod-lt (start + length causes) some in
    let next = to.next in
    omega (arith, next, low)

module _ {D P A : Type 0} (DiskTells : Type 0) (files : D → Files) (Tells : Type 0) (faults fuses : D → ℕ) (arm_faults : A → ℕ) (is_sure : A → Bool) where
  counts_known : (store : Open D P A) (k : Known) → Stands files Tells faults fuses arm_faults store k → counts_of faults arm_faults store ≡ known_counts k
  unfolding Stands
  counts_known store k s =
      ap {B = Counts} (λ (ns : List ℕ). record { disks = ns; arms = map arm_faults store.arms }) (sym s.fault_counts)
      ∙ ap {B = Counts} (λ (ns : List ℕ). record { disks = k.faults; arms = ns }) (sym s.arm_counts)

  abbrev Whole : Open D P A → Type 0
  Whole store = IsWhole DiskTells files Tells faults fuses arm_faults store

  abbrev Never : Open D P A → ℕ → Cause → Type 0
  Never store lane cause = NeverIn DiskTells files Tells faults fuses arm_faults is_sure store lane cause

  pub read_shown : (old new : Open D P A) (settings : Settings) (k : Known) (tag : CoreTag) (start : ℕ) (pair : Pair) (v j m p d : ℕ) (what : Outcome) (Had : ℕ → Cause → Type 0)
      (causes : List PassedReplica) → IsBuilt settings → v < settings.volumes → home_of k pair ≡ Some v
      → p ≡ length (volume_at k v).log → d ≡ length k.directory.rows → m ≡ machine_of settings v j → Whole old → Stands files Tells faults fuses arm_faults old k
      → (came : Comes files Tells faults fuses arm_faults k k new)
      → slice_get (outcomes_of settings (volume_at k v) pair) j ≡ Some what
      → PassesTo (Never old tag.lane) settings tag.lane v start (counts_of faults arm_faults old) (counts_of faults arm_faults new) Had [] causes j
      → IsShown settings k tag start pair v m p d what came.known
  read_shown old new settings k tag start pair v j m p d what Had causes built volume home front rows machine whole stood came says passes =
      let got = range_get (λ i. outcome_at (now (volume_at k v) (replica_at (volume_at k v) i)) pair) settings.replicas 0 j what says in
      let zero_j : 0 + j ≡ j = omega arith in
      let known : PassesTo (Never old tag.lane) settings tag.lane v start (known_counts k) (known_counts came.known) Had [] causes j =
      subst (λ (c : Counts). PassesTo (Never old tag.lane) settings tag.lane v start c (known_counts came.known) Had [] causes j) (counts_known old k stood)
      (subst (λ (c : Counts). PassesTo (Never old tag.lane) settings tag.lane v start (counts_of faults arm_faults old) c Had [] causes j) (counts_known new came.known came.stands) passes) in
      subst (λ n. IsShown settings k tag start pair v n p d what came.known) (sym machine)
      (record {
        seen = record { home = home; front = front; rows = rows };
        replica = j;
        there = replica_found settings v j volume got.0 built.no_more_replicas;
        stands = ap (λ i. outcome_at (now (volume_at k v) (replica_at (volume_at k v) i)) pair) (sym zero_j) ∙ got.1;
        passed =
            tried (Never old tag.lane) settings tag.lane v start (known_counts k) (known_counts came.known) Had causes j (λ at. whole)
            (falls_at k.arms (came.known).arms tag.lane (came.leaves).arms) known;
        leaves = came.leaves;
      })

  pub read_unreadable : (old new : Open D P A) (settings : Settings) (k : Known) (tag : CoreTag) (start : ℕ) (pair : Pair) (v p d : ℕ) (over : List PassedReplica) (passed : List Passed)
      → home_of k pair ≡ Some v → p ≡ length (volume_at k v).log → d ≡ length k.directory.rows → passed ≡ map (passed_at settings v) over
      → Whole old → Stands files Tells faults fuses arm_faults old k → (came : Comes files Tells faults fuses arm_faults k k new)
      → PassesFrom (Never old tag.lane) settings tag.lane v start (counts_of faults arm_faults old) (counts_of faults arm_faults new) [] over → length over ≡ settings.replicas
      → IsUnreadable settings k tag start pair v p d passed came.known
  read_unreadable old new settings k tag start pair v p d over passed home front rows is whole stood came passes all =
      let known : PassesFrom (Never old tag.lane) settings tag.lane v start (known_counts k) (known_counts came.known) [] over =
      subst (λ (c : Counts). PassesFrom (Never old tag.lane) settings tag.lane v start c (known_counts came.known) [] over) (counts_known old k stood)
      (subst (λ (c : Counts). PassesFrom (Never old tag.lane) settings tag.lane v start (counts_of faults arm_faults old) c [] over) (counts_known new came.known came.stands) passes) in
      subst (λ (told : List Passed). IsUnreadable settings k tag start pair v p d told came.known) (sym is)
      (record {
        seen = record { home = home; front = front; rows = rows };
        each = passed_each (Never old tag.lane) settings k came.known tag v (order_from settings start) over (λ at. whole) (in_order settings start over known.order all) known.each;
        arms = rises_each settings v over known.rises;
        leaves = came.leaves;
      })

-- A PLACE IS SEEN

module _ {D P A : Type 0} (faults fuses : D → ℕ) (old store : Open D P A) (v replica : ℕ) (before after : Volume D P) (is : store ≡ old) (shape : IsShaped store)
    (called : Called faults fuses store v before after)
    (within : replica < (old.settings).replicas) where
  -- of the volume's disks only that of the replica may have a greater count
  pub sight_others : ((j : ℕ) → (j ≡ replica → ⊥) → (r r' : Copy D) → At before.replicas j r → At after.replicas j r' → r' ≡ r) → (j : ℕ) → j < (old.settings).replicas → (j ≡ replica → ⊥)
      → slice_index (map faults (disks_of (with_one store v after))) (slot_of old.settings v j) ≡ slice_index (map faults (disks_of old)) (slot_of old.settings v j)
  sight_others others j below apart =
      let was = volume_of store v before shape called.at in
      let same : (store.settings).replicas ≡ (old.settings).replicas = ap (λ (st : Open D P A). (st.settings).replicas) is in
      let many : length before.replicas ≡ (store.settings).replicas = was.all ∙ ap (λ (t : Settings). t.replicas) was.settings_are in
      let old_one = has_item before.replicas j (omega (arith, many, below, same)) in
      let long = (called.counts).count in
      let new_one = has_item after.replicas j (omega (arith, many, below, same, long)) in
      subst (λ (st : Open D P A). slice_index (map faults (disks_of (with_one store v after))) (slot_of st.settings v j) ≡ slice_index (map faults (disks_of st)) (slot_of st.settings v j)) is
      (count_at faults (with_one store v after) v j after new_one.0 (called_shape faults fuses store v before after shape called) (slice_get-set store.volumes v before after called.at) new_one.1
      ∙ ap (λ (r : Copy D). faults r.disk) (others j apart old_one.0 new_one.0 old_one.1 new_one.1)
      ∙ sym (count_at faults store v j before old_one.0 shape called.at old_one.1))

  -- and where a look failed, its count rose
  pub sight_fault : (fault : LogicalFault) → answers.IsSightFault faults before.settings before.number before.replicas after.replicas fault
      → ((m count : ℕ) → fault ≡ refusal.Failed m count → m ≡ machine_of before.settings before.number replica)
      → IsSightFault (slot_of old.settings v replica) (map faults (disks_of old)) (map faults (disks_of (with_one store v after))) fault
  sight_fault (refusal.Failed m count) h machine =
      let was = volume_of store v before shape called.at in
      let same = ap (λ (st : Open D P A). st.settings) is in
      let built : IsBuilt old.settings = subst (λ (t : Settings). IsBuilt t) same shape.built in
      let volume : v < (old.settings).volumes = subst (λ (t : Settings). v < t.volumes) same (subst (λ n. v < n) shape.many (slice_get_within store.volumes v before called.at)) in
      let own : m ≡ machine_of old.settings v replica =
      machine m count refl ∙ ap (λ (s : Settings). machine_of s before.number replica) (was.settings_are ∙ same) ∙ ap (λ n. machine_of old.settings n replica) was.number in
      let rose = called_failed faults fuses old store v before after m count is shape called h in
      let found : Some rose.replica ≡ Some replica = sym rose.there ∙ ap (λ n. replica_on old.settings v n) own ∙ replica_found old.settings v replica volume within built.no_more_replicas in
      let here : rose.replica ≡ replica = same_Some rose.replica replica found in
      subst (λ j. RoseIn (slot_of old.settings v j) (map faults (disks_of old)) (map faults (disks_of (with_one store v after))) count) here (rose.rose, rose.told)
  sight_fault (refusal.Damaged m at) h machine = tt
  sight_fault refusal.NoMemory h machine = tt
  sight_fault (refusal.ReadOnly m) h machine = absurd h
  sight_fault (refusal.Full m end need capacity) h machine = absurd h
  sight_fault (refusal.Gone front) h machine = absurd h
  sight_fault (refusal.Busy m generation) h machine = absurd h
  sight_fault (refusal.Worn m) h machine = absurd h
  sight_fault refusal.Idle h machine = absurd h

-- the volume that was called has the place that was seen
pub seen_by_in : {D P A : Type 0} (DiskTells Tells : Type 0) (store : Open D P A) (v : ℕ) (before after : Volume D P) (pair : Pair) (replica : ℕ) (bytes : List ℕ) → At store.volumes v before
    → IsSeenBy DiskTells Tells bytes (place_in (row_at after.rows pair) replica) → IsSeenByAt DiskTells Tells (with_one store v after) v pair replica bytes
seen_by_in {D} {P} DiskTells Tells store v before after pair replica bytes at by = λ volume there.
    let same : after ≡ volume = same_Some after volume (sym (slice_get-set store.volumes v before after at) ∙ there) in
    subst (λ (w : Volume D P). IsSeenBy DiskTells Tells bytes (place_in (row_at w.rows pair) replica)) same by

-- a place that was seen, where it stands
pub seen_there : {D P A : Type 0} (old store : Open D P A) (v : ℕ) (volume : Volume D P) (pair : Pair) (replica : ℕ) → store ≡ old → At store.volumes v volume
    → IsSeen (place_in (row_at volume.rows pair) replica) → IsSeenAt old v pair replica
seen_there {D} {P} {A} old store v volume pair replica is at seen = subst (λ (st : Open D P A). IsSeenAt st v pair replica) is (λ other there.
    let same : volume ≡ other = same_Some volume other (sym at ∙ there) in
    subst (λ (w : Volume D P). IsSeen (place_in (row_at w.rows pair) replica)) same seen)

-- a read stops where it did, in a store of the same volumes
pub stops_same : {D P A : Type 0} (old new : Open D P A) (v : ℕ) (pair : Pair) (reply : ReadReply) → new.volumes ≡ old.volumes → StopsUnseen old v pair reply → StopsUnseen new v pair reply
stops_same {D} {P} old new v pair (read.Unseen j causes) same stops = λ seen. stops (λ volume at. seen volume (subst (λ (vs : List (Volume D P)). At vs v volume) (sym same) at))
stops_same old new v pair (read.Photo j) same stops = tt
stops_same old new v pair (read.Gone j) same stops = tt
stops_same old new v pair (read.WrongCookie j) same stops = tt
stops_same old new v pair (read.Unreadable causes) same stops = tt

pub seen_in : {D P A : Type 0} (store : Open D P A) (v : ℕ) (before after : Volume D P) (pair : Pair) (replica : ℕ) → At store.volumes v before
    → IsSeen (place_in (row_at after.rows pair) replica) → IsSeenAt (with_one store v after) v pair replica
seen_in {D} {P} store v before after pair replica at seen = λ volume there.
    let same : after ≡ volume = same_Some after volume (sym (slice_get-set store.volumes v before after at) ∙ there) in
    subst (λ (w : Volume D P). IsSeen (place_in (row_at w.rows pair) replica)) same seen

module _ {D P A : Type 0} (files : D → Files) (Tells : Type 0) (faults fuses : D → ℕ) (arm_faults : A → ℕ) where
  -- what was known stands where the volume stands for what it stood for
  pub sight_comes : (old store : Open D P A) (k : Known) (v : ℕ) (before after : Volume D P) → store ≡ old → Called faults fuses store v before after → v < (old.settings).volumes
      → Stands files Tells faults fuses arm_faults old k → ((known : VolumeKnown) → logical.Stands files Tells before known → logical.Stands files Tells after known)
      → Comes files Tells faults fuses arm_faults k k (with_one store v after)
  sight_comes old store k v before after is called within stands moves =
      let s : Stands files Tells faults fuses arm_faults store k = subst (λ (st : Open D P A). Stands files Tells faults fuses arm_faults st k) (sym is) stands in
      comes_still files Tells faults fuses arm_faults old (with_one store v after) k v stands within
      (volume_comes files Tells faults fuses arm_faults store k v before after (volume_at k v) s called.at called.same called.counts
      (moves (volume_at k v) (volume_stood files Tells faults fuses arm_faults store k v before s called.at)))

-- A REPLICA IS SEEN OR PASSED OVER

-- why a replica is passed over whose place could not be seen
pub sight_passed : (W : Cause → Type 0) (slot arm arm' : ℕ) (disks disks' : List ℕ) (fault : LogicalFault) (cause : Cause) → IsSightFault slot disks disks' fault → IsSightCause fault cause
    → ((m at : ℕ) → W (Damage at) → fault ≡ refusal.Damaged m at → ⊥) → IsPassedFor W slot arm arm' disks disks' cause
sight_passed W slot arm arm' disks disks' (refusal.Failed m count) cause h is whole = subst (λ (c : Cause). IsPassedFor W slot arm arm' disks disks' c) (sym is) h
sight_passed W slot arm arm' disks disks' (refusal.Damaged m at) cause h is whole = subst (λ (c : Cause). IsPassedFor W slot arm arm' disks disks' c) (sym is) (λ w. whole m at w refl)
sight_passed W slot arm arm' disks disks' refusal.NoMemory cause h is whole = absurd is
sight_passed W slot arm arm' disks disks' (refusal.ReadOnly m) cause h is whole = absurd h
sight_passed W slot arm arm' disks disks' (refusal.Full m end need capacity) cause h is whole = absurd h
sight_passed W slot arm arm' disks disks' (refusal.Gone front) cause h is whole = absurd h
sight_passed W slot arm arm' disks disks' (refusal.Busy m generation) cause h is whole = absurd h
sight_passed W slot arm arm' disks disks' (refusal.Worn m) cause h is whole = absurd h
sight_passed W slot arm arm' disks disks' refusal.Idle cause h is whole = absurd h

-- no replica more, and one more
pub passes_none : (W : Cause → Type 0) (settings : Settings) (lane v start : ℕ) (before after : Counts) (causes : List PassedReplica) → ComeFirst start settings.replicas causes
    → PassesFrom W settings lane v start before after causes causes
passes_none W settings lane v start before after causes order = record {
  begins = take-length causes;
  order = order;
  each =
      subst (λ (ps : List PassedReplica). AllByRecursion (λ p. IsPassedFor W (slot_of settings v p.replica) (slice_index before.arms lane) (slice_index after.arms lane)
      before.disks after.disks p.cause) ps) (sym (drop-length causes)) tt;
  rises = subst (λ (ps : List PassedReplica). EachPair (λ a b. ArmRises a.cause b.cause) ps) (sym (drop-length causes)) tt;
}

pub passes_one : (W : Cause → Type 0) (settings : Settings) (lane v start : ℕ) (before after : Counts) (causes : List PassedReplica) (over : PassedReplica) → ComeFirst start settings.replicas causes
    → over.replica ≡ (start + length causes) % settings.replicas → IsPassedFor W (slot_of settings v over.replica) (slice_index before.arms lane) (slice_index after.arms lane)
    before.disks after.disks over.cause
    → PassesFrom W settings lane v start before after causes (causes ++ over ∷ [])
passes_one W settings lane v start before after causes over order next has = record {
  begins = take-append_seam causes (over ∷ []);
  order = first_more start settings.replicas causes over order next;
  each =
      subst (λ (ps : List PassedReplica). AllByRecursion (λ p. IsPassedFor W (slot_of settings v p.replica) (slice_index before.arms lane) (slice_index after.arms lane)
      before.disks after.disks p.cause) ps) (sym (drop-append_seam causes (over ∷ []))) (has, tt);
  rises = subst (λ (ps : List PassedReplica). EachPair (λ a b. ArmRises a.cause b.cause) ps) (sym (drop-append_seam causes (over ∷ []))) (tt, tt);
}

-- FROM A NEEDLE THAT WAS READ

its_needle : (bytes : List ℕ) (n : Needle) → NeedleBytes bytes n → HasPhoto bytes n.photo
its_needle bytes n is = (n, record { needle = bytes; rest = []; parts = sym (append-nil bytes); is = is }, refl)

-- the needle by which a place was seen shows its photo
pub can_show : {P : Type 0} (DiskTells Tells : Type 0) (bytes : List ℕ) (there : Place P) → IsSeenBy DiskTells Tells bytes there → CanShow bytes there
can_show DiskTells Tells bytes (place.Live needle) by = ((needle_of_cell by.cell).photo, its_needle bytes (needle_of_cell by.cell) by.needle)
can_show DiskTells Tells bytes place.None by = tt
can_show DiskTells Tells bytes place.Gone by = tt
can_show DiskTells Tells bytes (place.Unseen at size) by = by.sight

-- and where the disk tells, that photo stands there
pub its_photo : {P : Type 0} (DiskTells Tells : Type 0) (bytes : List ℕ) (there : Place P) → DiskTells → IsSeenBy DiskTells Tells bytes there → HasItsPhoto bytes there
its_photo DiskTells Tells bytes (place.Live needle) tells by =
    let sealed = (by.place tells).sealed in
    ((needle_of_cell by.cell).photo, its_needle bytes (needle_of_cell by.cell) by.needle, its_needle needle.bytes _ sealed.is)
its_photo DiskTells Tells bytes place.None tells by = tt
its_photo DiskTells Tells bytes place.Gone tells by = tt
its_photo DiskTells Tells bytes (place.Unseen at size) tells by = tt

-- a read that the next replica showed passes none over
pub shown_passes : (W : Cause → Type 0) (settings : Settings) (lane v start : ℕ) (before after : Counts) (Had : ℕ → Cause → Type 0) (passed : List PassedReplica)
    (reply : ReadReply) → ComeFirst start settings.replicas passed
    → length passed < settings.replicas → MayHave Had passed → ShowsAt ((start + length passed) % settings.replicas) reply → ReadPasses W settings lane v start before after Had passed reply
shown_passes W settings lane v start before after Had passed reply order fewer stood shows = go reply shows
  where
    to : (j : ℕ) → j ≡ (start + length passed) % settings.replicas → (causes : List PassedReplica) × PassesTo W settings lane v start before after Had passed causes j
    to j next = (passed, record { passes = passes_none W settings lane v start before after passed order; stood = stood; fewer = fewer; next = next })

    go : (r : ReadReply) → ShowsAt ((start + length passed) % settings.replicas) r → ReadPasses W settings lane v start before after Had passed r
    go (read.Photo j) next = to j next
    go (read.Gone j) next = to j next
    go (read.WrongCookie j) next = to j next
    go (read.Unseen j causes) next = absurd next
    go (read.Unreadable causes) next = absurd next

pub shown_stops : {D P A : Type 0} (store : Open D P A) (v j : ℕ) (pair : Pair) (reply : ReadReply) → ShowsAt j reply → StopsUnseen store v pair reply
shown_stops store v j pair (read.Photo i) next = tt
shown_stops store v j pair (read.Gone i) next = tt
shown_stops store v j pair (read.WrongCookie i) next = tt
shown_stops store v j pair (read.Unseen i causes) next = absurd next
shown_stops store v j pair (read.Unreadable causes) next = absurd next

-- what is known stands where nothing changed
pub comes_same : {D P A : Type 0} (files : D → Files) (Tells : Type 0) (faults fuses : D → ℕ) (arm_faults : A → ℕ) (store : Open D P A) (k : Known)
    → Stands files Tells faults fuses arm_faults store k → Comes files Tells faults fuses arm_faults k k store
comes_same files Tells faults fuses arm_faults store k stands = record {
  known = k;
  leaves = record { volumes = refl; directory = refl; drained = refl; fuses = refl; faults = none_falls k.faults; arms = none_falls k.arms };
  stands = stands;
}

-- THE WHOLE READ

-- a look at the place of the next replica leaves the counts of the disks of those before it
pub sight_goes_on : (settings : Settings) (lane v start : ℕ) (before mid after : Counts) (causes : List PassedReplica) (replica : ℕ) → NoneFalls before.arms mid.arms
    → after.arms ≡ mid.arms → NoneFalls before.disks mid.disks
    → ComeFirst start settings.replicas causes → length causes < settings.replicas → replica ≡ (start + length causes) % settings.replicas
    → ((j : ℕ) → j < settings.replicas → (j ≡ replica → ⊥) → slice_index after.disks (slot_of settings v j) ≡ slice_index mid.disks (slot_of settings v j))
    → GoesOn settings lane v before mid after causes
sight_goes_on settings lane v start before mid after causes replica arms same disks order fewer next others =
    let kept : slice_index after.arms lane ≡ slice_index mid.arms lane = ap (λ ns. slice_index ns lane) same in
    record {
      first = falls_at before.arms mid.arms lane arms;
      later = omega (arith, kept);
      most = inl kept;
      fall = λ slot. falls_at before.disks mid.disks slot disks;
      still = all_tried (λ j. slice_index after.disks (slot_of settings v j) ≡ slice_index mid.disks (slot_of settings v j)) (λ i. (start + i) % settings.replicas) (length causes) 0
          (λ i low high. others ((start + i) % settings.replicas) (mod-lt (start + i) (omega (arith, fewer)))
          (λ eq. let e : i ≡ length causes = same_machine settings.replicas start i (length causes) (omega (arith, high, fewer)) fewer (eq ∙ next) in omega (arith, e, high))) causes order;
    }

-- so does a use of the arm
pub arm_goes_on : (settings : Settings) (lane v : ℕ) (before mid after : Counts) (causes : List PassedReplica) → NoneFalls before.arms mid.arms → NoneFalls mid.arms after.arms
    → NoneFalls before.disks mid.disks
    → (slice_index after.arms lane ≡ slice_index mid.arms lane) ⊎ (slice_index after.arms lane < 2 ^ 64) → after.disks ≡ mid.disks → GoesOn settings lane v before mid after causes
arm_goes_on settings lane v before mid after causes arms later disks most same = record {
  first = falls_at before.arms mid.arms lane arms;
  later = falls_at mid.arms after.arms lane later;
  most = most;
  fall = λ slot. falls_at before.disks mid.disks slot disks;
  still = everywhere causes;
}
  where
    everywhere : (ps : List PassedReplica) → AllByRecursion (λ p. slice_index after.disks (slot_of settings v p.replica) ≡ slice_index mid.disks (slot_of settings v p.replica)) ps
    everywhere [] = tt
    everywhere (p ∷ ps) = (ap (λ ns. slice_index ns (slot_of settings v p.replica)) same, everywhere ps)

-- a read that goes on stops behind the replica at which it stopped
pub stops_further : {D P A : Type 0} (W : Cause → Type 0) (settings : Settings) (lane v start : ℕ) (before after : Counts) (Had : ℕ → Cause → Type 0) (store : Open D P A)
    (pair : Pair) (replica : ℕ) (causes passed : List PassedReplica) (reply : ReadReply) (j : ℕ) (more : List PassedReplica)
    → replica ≡ (start + length causes) % settings.replicas → (length passed ≡ length causes + 1) ⊎ ((length passed ≡ length causes) × IsSeenAt store v pair replica)
    → ReadPasses W settings lane v start before after Had passed reply → StopsUnseen store v pair reply → reply ≡ read.Unseen j more → length causes + 1 ≤ length more
stops_further W settings lane v start before after Had store pair replica causes passed reply j more next on passes stops is =
    let to : PassesTo W settings lane v start before after Had passed more j = subst (λ (r : ReadReply). ReadPasses W settings lane v start before after Had passed r) is passes in
    let unseen : IsSeenAt store v pair j → ⊥ = subst (λ (r : ReadReply). StopsUnseen store v pair r) is stops in
    let longer = no_shorter passed more to.passes.begins in
    elim on [
      | inl one ↦ omega (arith, one, longer)
      | inr looked ↦ elim (cases_order (length more) (length causes)) [
        | inl same ↦ absurd (unseen (subst (λ i. IsSeenAt store v pair i) (next ∙ ap (λ n. (start + n) % settings.replicas) (sym same) ∙ sym to.next) looked.1))
        | inr (inl less) ↦ absurd (omega (arith, longer, less, looked.0))
        | inr (inr greater) ↦ omega (arith, greater)
      ]
    ]

-- what is known stands over two calls that changed nothing of it
pub comes_on : {D P A : Type 0} (files : D → Files) (Tells : Type 0) (faults fuses : D → ℕ) (arm_faults : A → ℕ) (mid new : Open D P A) (k : Known)
    → (first : Comes files Tells faults fuses arm_faults k k mid)
    → Comes files Tells faults fuses arm_faults first.known first.known new → Comes files Tells faults fuses arm_faults k k new
comes_on files Tells faults fuses arm_faults mid new k first then = record {
  known = then.known;
  leaves = record {
    volumes = (then.leaves).volumes ∙ (first.leaves).volumes;
    directory = (then.leaves).directory ∙ (first.leaves).directory;
    drained = (then.leaves).drained ∙ (first.leaves).drained;
    fuses = (then.leaves).fuses ∙ (first.leaves).fuses;
    faults = falls_trans k.faults (first.known).faults (then.known).faults (first.leaves).faults (then.leaves).faults;
    arms = falls_trans k.arms (first.known).arms (then.known).arms (first.leaves).arms (then.leaves).arms;
  };
  stands = then.stands;
}

-- the outcomes of replicas go by the volumes alone
pub says_on : (settings settings' : Settings) (k t : Known) (v : ℕ) (pair : Pair) (cookie : Cookie) (bytes : List ℕ) (r : ReadReply) → settings' ≡ settings → t.volumes ≡ k.volumes
    → ReadSays cookie (outcomes_of settings' (volume_at t v) pair) bytes r
    → ReadSays cookie (outcomes_of settings (volume_at k v) pair) bytes r
says_on settings settings' k t v pair cookie bytes r same volumes says =
    subst (λ (s : Settings). ReadSays cookie (outcomes_of s (volume_at k v) pair) bytes r) same
    (subst (λ (vs : List VolumeKnown). ReadSays cookie (outcomes_of settings' (slice_index_or vs v empty_volume) pair) bytes r) volumes says)

-- WHAT WAS READ IS WHAT WAS FOUND

pub found_says : (cookie : Cookie) (outcomes : List Outcome) (bytes : List ℕ) (r : ReadReply) (f : Found) → IsFoundAs r f → ReadSays cookie outcomes bytes r → FoundSays cookie outcomes bytes f
found_says cookie outcomes bytes (read.Photo j) f is h = subst (λ (x : Found). FoundSays cookie outcomes bytes x) (sym is) h
found_says cookie outcomes bytes (read.Gone j) f is h = subst (λ (x : Found). FoundSays cookie outcomes bytes x) (sym is) h
found_says cookie outcomes bytes (read.WrongCookie j) f is h = subst (λ (x : Found). FoundSays cookie outcomes bytes x) (sym is) h
found_says cookie outcomes bytes (read.Unreadable causes) f is h = subst (λ (x : Found). FoundSays cookie outcomes bytes x) (sym is) tt
found_says cookie outcomes bytes (read.Unseen j causes) f is h = absurd is

pub found_passes : (W : Cause → Type 0) (settings : Settings) (lane v start : ℕ) (before after : Counts) (Had : ℕ → Cause → Type 0) (r : ReadReply) (f : Found) → IsFoundAs r f
    → ReadPasses W settings lane v start before after Had [] r → FoundPasses W settings lane v start before after Had f
found_passes W settings lane v start before after Had (read.Photo j) f is h = subst (λ (x : Found). FoundPasses W settings lane v start before after Had x) (sym is) h
found_passes W settings lane v start before after Had (read.Gone j) f is h = subst (λ (x : Found). FoundPasses W settings lane v start before after Had x) (sym is) h
found_passes W settings lane v start before after Had (read.WrongCookie j) f is h = subst (λ (x : Found). FoundPasses W settings lane v start before after Had x) (sym is) h
found_passes W settings lane v start before after Had (read.Unreadable causes) f is h = subst (λ (x : Found). FoundPasses W settings lane v start before after Had x) (sym is) h
found_passes W settings lane v start before after Had (read.Unseen j causes) f is h = absurd is

-- a photo has at most as many bytes as the largest
pub found_bytes : (bytes : List ℕ) (r : ReadReply) (f : Found) → IsFoundAs r f → HasBytes bytes r → (j : ℕ) → f ≡ found.Photo j → length bytes ≤ MAX_PHOTO
found_bytes bytes (read.Photo i) f is has j here = has
found_bytes bytes (read.Gone i) f is has j here = let both : found.Gone i ≡ found.Photo j = sym is ∙ here in cc
found_bytes bytes (read.WrongCookie i) f is has j here = let both : found.WrongCookie i ≡ found.Photo j = sym is ∙ here in cc
found_bytes bytes (read.Unreadable causes) f is has j here = let both : found.Unreadable causes ≡ found.Photo j = sym is ∙ here in cc
found_bytes bytes (read.Unseen i causes) f is has j here = absurd is

-- what is legal to show to a reader of a URL is legal for its command
pub get_command : (settings : Settings) (k t : Known) (tag : CoreTag) (url : Url) (start v : ℕ) (answer : Reply) → replica_on settings url.volume url.machine ≡ Some start
    → home_of k url.pair ≡ Some v → v ≡ url.volume
    → LegalShow settings k tag start url.pair url.cookie answer t → ShowsOf settings start v answer ⊎ (answer ≡ reply.NoMem) → LegalCommand settings k tag (command.Get url) answer t
get_command settings k t tag url start v answer there home same legal shows =
    go shows
  where
    elsewhere : LeavesElsewhere k url t
    elsewhere w is other = absurd (other (let one : v ≡ w = (let both : ◌≡◌ {A = Option ℕ} (Some v) (Some w) = sym home ∙ is in cc) in sym one ∙ same))

    at : (r : Reply) → LegalGetAt settings k tag url (Some start) r t → LegalGet settings k tag url r t
    at r h = subst (λ (o : Option ℕ). LegalGetAt settings k tag url o r t) (sym there) h

    so : (r : Reply) → answer ≡ r → (LegalShow settings k tag start url.pair url.cookie r t → LegalGetAt settings k tag url (Some start) r t) → LegalCommand settings k tag (command.Get url) answer t
    so r is gets =
        subst (λ (a : Reply). LegalCommand settings k tag (command.Get url) a t) (sym is) (at r (gets (subst (λ (a : Reply). LegalShow settings k tag start url.pair url.cookie a t) is legal)))

    go : ShowsOf settings start v answer ⊎ (answer ≡ reply.NoMem) → LegalCommand settings k tag (command.Get url) answer t
    go (inl (inl (m, p, d, bytes, on, few, is))) = so (reply.Photo v m p d bytes) is (λ h. (h, same, elsewhere))
    go (inl (inr (inl (m, p, d, on, is)))) = so (reply.Gone v m p d) is (λ h. (h, same, elsewhere))
    go (inl (inr (inr (inl (m, p, d, on, is))))) = so (reply.WrongCookie v m p d) is (λ h. (h, same, elsewhere))
    go (inl (inr (inr (inr (p, d, causes, each, is))))) = so (reply.Unreadable v p d causes) is (λ h. (h, same, elsewhere))
    go (inr is) = so reply.NoMem is (λ h. (h, tt, elsewhere))
