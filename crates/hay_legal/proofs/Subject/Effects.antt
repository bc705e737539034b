-- What a plain turn leaves of the logs, the rows and the counts.
use Rattle.std.proofs.Common.{◌≡◌, ◌≢◌, ℕ, zero, suc, ◌+◌, ◌<◌, Bool, true, false, List, [], ◌∷◌, ◌++◌, length, map, Option, Some, None, refl, sym, ap, subst, ◌∙◌, ◌⊎◌, inl, inr, arith, append_assoc}
use Rattle.std.specs.List.{AllByRecursion as Each}
use Rattle.std.specs.Prelude.{slice_index_or, slice_set, find, is_none, Contains}
use Rattle.std.specs.List.{range_with_len}
use Rattle.std.proofs.lemmas.Nat.{mod_below}
use Rattle.std.proofs.lemmas.List.{append-nil, length-set, get_or-map, get_or-set_same, get_or-set_other}
use Rattle.std.proofs.lemmas.List.FromFn.{length-range_with_len, length-map-range_with_len}
use Rattle.std.proofs.lemmas.Bool.{cases_Bool, cond-true, cond-false}
use Rattle.hay_needle.specs.declared.needle.Pair.{Pair}
use Rattle.hay_needle.specs.declared.needle.Cookie.{Cookie}
use Rattle.hay_needle.specs.declared.settings.Settings.{Settings}
use Rattle.hay_needle.specs.Tables.{pair_eq}
use Rattle.hay_needle.proofs.TableLaws.{pair_refl}
use Rattle.hay_script.specs.declared.Command.{Command}
use Rattle.hay_script.specs.declared.Command.TheVariants as command
use Rattle.hay_reply.specs.declared.Reply.{Reply}
use Rattle.hay_reply.specs.declared.Reply.TheVariants as reply
use Rattle.hay_core.specs.declared.entry.Entry.{Entry}
use Rattle.hay_core.specs.declared.entry.Entry.TheVariants as entry
use Rattle.hay_core.specs.declared.entry.CoreTag.{CoreTag}
use Rattle.hay_core.specs.declared.entry.Logged.{Logged}
use Rattle.hay_core.specs.Entries.{after}
use Rattle.hay_legal.specs.declared.known.ReplicaKnown.{ReplicaKnown}
use Rattle.hay_legal.specs.declared.known.VolumeKnown.{VolumeKnown}
use Rattle.hay_legal.specs.declared.known.HomeRow.{HomeRow}
use Rattle.hay_legal.specs.declared.known.PendingRow.{PendingRow}
use Rattle.hay_legal.specs.declared.known.DirKnown.{DirKnown}
use Rattle.hay_legal.specs.declared.known.Known.{Known}
use Rattle.hay_legal.specs.declared.turn.Item.{Item}
use Rattle.hay_legal.specs.declared.turn.Item.TheVariants as item
use Rattle.hay_legal.specs.Known.{home_of, home_in, volume_at, replica_at, with_replica, empty_volume, empty_replica, Leaves, NoneFalls, slot_of, settled_by, with_home, taker_of}
use Rattle.hay_legal.specs.Known.{tries_by, all_tries, try_at, refusal_of, replica_on}
use Rattle.hay_url.specs.declared.Url.{Url as UrlParts}
use Rattle.hay_legal.specs.Plain.{IsStored, IsDeleted, LegalPlain, LegalCommand, LegalShow, LegalGetAt, start_of, LegalPut, LegalDel, LegalUrl, LegalFlush, LegalBegin, LegalStep}
use Rattle.hay_legal.specs.Plain.{LegalFinish, LegalCompact, LegalDrain, LegalUndrain, LegalFuse, LegalFuseDir, OnReplica, IsLoose, IsTight, replica_of, Swaps, SwapFailed}
use Rattle.hay_legal.specs.Plain.{SwapNoMem, IsAtRest, MayFinish, change_volume, change_replica, frozen_by, frozen_with, without_run, with_bare, with_stuck, with_run, swapped}
use Rattle.hay_legal.specs.Plain.{stepped, poised, poised_by, as_it_is, row_pending, put_frozen, put_entry, first_machine, with_put, with_del, grown, ended_where, with_drain}
use Rattle.hay_legal.specs.Plain.{with_fuses}
use Rattle.hay_legal.specs.Blocks.{acknowledged}
use Rattle.hay_legal.specs.Subject.{known_behind, pair_of, OthersLeaveTheLogs, changed_pair}
use Rattle.hay_legal.proofs.Subject.Shown.{legal_split}

-- WHAT A PLAIN TURN LEAVES

-- A volume keeps its log, and what each of its replicas began with.
pub record SameLog (old new : VolumeKnown) : Type 0 where
  pub log : new.log ≡ old.log
  pub bases : (j : ℕ) → (replica_at new j).base ≡ (replica_at old j).base
  pub many : length new.replicas ≡ length old.replicas

abbrev pub Bounded : Settings → List HomeRow → Type 0
Bounded settings rows = Each (λ row. row.volume < settings.volumes) rows

abbrev pub PendingBounded : Settings → Known → Type 0
PendingBounded settings k = (pending : PendingRow) → k.directory.pending ≡ Some pending → (pending.row).volume < settings.volumes

-- Rows are added at most, and no pending row but of a volume.
pub record RowsGrow (settings : Settings) (k t : Known) : Type 0 where
  pub new : List HomeRow
  pub rows : t.directory.rows ≡ k.directory.rows ++ new
  pub bounded : Bounded settings new
  pub pending : PendingBounded settings k → PendingBounded settings t

-- No log changes.
pub record Undisturbed (settings : Settings) (k t : Known) : Type 0 where
  pub each : (w : ℕ) → SameLog (volume_at k w) (volume_at t w)
  pub many : length t.volumes ≡ length k.volumes
  pub grow : RowsGrow settings k t

pub same_log : (volume : VolumeKnown) → SameLog volume volume
same_log volume = record { log = refl; bases = λ j. refl; many = refl }

pub same_log_trans : (a b c : VolumeKnown) → SameLog a b → SameLog b c → SameLog a c
same_log_trans a b c h g = record { log = g.log ∙ h.log; bases = λ j. g.bases j ∙ h.bases j; many = g.many ∙ h.many }

pub same_rows : (settings : Settings) (k t : Known) → t.directory ≡ k.directory → RowsGrow settings k t
same_rows settings k t e = record {
  new = [];
  rows = ap (λ (d : DirKnown). d.rows) e ∙ sym (append-nil k.directory.rows);
  bounded = tt;
  pending = λ before pending is. before pending (sym (ap (λ (d : DirKnown). d.pending) e) ∙ is);
}

pub each_append : {X : Type 0} (P : X → Type 0) (xs ys : List X) → Each P xs → Each P ys → Each P (xs ++ ys)
each_append P [] ys h g = g
each_append P (x ∷ xs) ys h g = (h.0, each_append P xs ys h.1 g)

pub rows_trans : (settings : Settings) (a b c : Known) → RowsGrow settings a b → RowsGrow settings b c → RowsGrow settings a c
rows_trans settings a b c h g = record {
  new = h.new ++ g.new;
  rows = g.rows ∙ ap (λ (rows : List HomeRow). rows ++ g.new) h.rows ∙ append_assoc a.directory.rows h.new g.new;
  bounded = each_append _ h.new g.new h.bounded g.bounded;
  pending = λ before. g.pending (h.pending before);
}

pub undisturbed_trans : (settings : Settings) (a b c : Known) → Undisturbed settings a b → Undisturbed settings b c → Undisturbed settings a c
undisturbed_trans settings a b c h g = record {
  each = λ w. same_log_trans (volume_at a w) (volume_at b w) (volume_at c w) (h.each w) (g.each w);
  many = g.many ∙ h.many;
  grow = rows_trans settings a b c h.grow g.grow;
}

-- the volumes and the Directory alone count
pub undisturbed_by : (settings : Settings) (k t : Known) → t.volumes ≡ k.volumes → t.directory ≡ k.directory → Undisturbed settings k t
undisturbed_by settings k t volumes directory = record {
  each = λ w. subst (λ (vs : List VolumeKnown). SameLog (volume_at k w) (slice_index_or vs w empty_volume)) (sym volumes) (same_log (volume_at k w));
  many = ap (λ (vs : List VolumeKnown). length vs) volumes;
  grow = same_rows settings k t directory;
}

-- Behind a turn stands what leaves every log undisturbed, but that counts of faults may have risen.
pub record Calm (settings : Settings) (k t : Known) : Type 0 where
  pub expected : Known
  pub undisturbed : Undisturbed settings k expected
  pub leaves : Leaves k expected t

pub calm_undisturbed : (settings : Settings) (k t : Known) → Calm settings k t → Undisturbed settings k t
calm_undisturbed settings k t h =
    undisturbed_trans settings k h.expected t h.undisturbed (undisturbed_by settings h.expected t (h.leaves).volumes (h.leaves).directory)

pub undisturbed_leaves : (settings : Settings) (k e t : Known) → Undisturbed settings k e → Leaves k e t → Calm settings k t
undisturbed_leaves settings k e t h leaves = record { expected = e; undisturbed = h; leaves = leaves }

pub unchanged : (settings : Settings) (k t : Known) → Leaves k k t → Calm settings k t
unchanged settings k t leaves = undisturbed_leaves settings k k t (undisturbed_by settings k k refl refl) leaves

-- other parts than the volumes and the Directory changed
pub beside : (settings : Settings) (k e t : Known) → e.volumes ≡ k.volumes → e.directory ≡ k.directory → Leaves k e t → Calm settings k t
beside settings k e t volumes directory leaves = undisturbed_leaves settings k e t (undisturbed_by settings k e volumes directory) leaves

-- an item that is set is read there, and every other as before
pub read_set : {X : Type 0} (xs : List X) (i j : ℕ) (x d : X)
    → (slice_index_or (slice_set xs i x) j d ≡ slice_index_or xs j d) ⊎ ((j ≡ i) × (slice_index_or (slice_set xs i x) j d ≡ x))
read_set [] i j x d = inl refl
read_set (y ∷ xs) zero zero x d = inr (refl, refl)
read_set (y ∷ xs) zero (suc j) x d = inl refl
read_set (y ∷ xs) (suc i) zero x d = inl refl
read_set (y ∷ xs) (suc i) (suc j) x d =
    elim (read_set xs i j x d) [ inl e ↦ inl e | inr e ↦ inr (ap suc e.0, e.1) ]

-- a change of one volume that keeps its log
pub change_undisturbed : (settings : Settings) (k : Known) (v : ℕ) (change : VolumeKnown → VolumeKnown)
    → SameLog (volume_at k v) (change (volume_at k v)) → Undisturbed settings k (change_volume k v change)
change_undisturbed settings k v change same = record {
  each = λ w. elim (read_set k.volumes v w (change (volume_at k v)) empty_volume) [
    | inl e ↦ subst (λ (new : VolumeKnown). SameLog (volume_at k w) new) (sym e) (same_log (volume_at k w))
    | inr e ↦ subst (λ (new : VolumeKnown). SameLog (volume_at k w) new) (sym e.1)
        (subst (λ (u : ℕ). SameLog (volume_at k u) (change (volume_at k v))) (sym e.0) same)
  ];
  many = length-set k.volumes v (change (volume_at k v));
  grow = same_rows settings k (change_volume k v change) refl;
}

-- a change of each replica that keeps what it began with
pub map_bases : (change : ReplicaKnown → ReplicaKnown) → ((r : ReplicaKnown) → (change r).base ≡ r.base) → (rs : List ReplicaKnown) (j : ℕ)
    → (slice_index_or (map change rs) j empty_replica).base ≡ (slice_index_or rs j empty_replica).base
map_bases change keeps [] j = refl
map_bases change keeps (r ∷ rs) zero = keeps r
map_bases change keeps (r ∷ rs) (suc j) = map_bases change keeps rs j

pub map_many : (change : ReplicaKnown → ReplicaKnown) (rs : List ReplicaKnown) → length (map change rs) ≡ length rs
map_many change [] = refl
map_many change (r ∷ rs) = ap suc (map_many change rs)

pub frozen_same : (m : ℕ) (volume : VolumeKnown) → SameLog volume (frozen_by m volume)
frozen_same m volume = record {
  log = refl;
  bases = λ j. map_bases without_run (λ r. refl) volume.replicas j;
  many = map_many without_run volume.replicas;
}

pub frozen_with_same : (m : ℕ) (tag : CoreTag) (e : Entry) (failed : Bool) (volume : VolumeKnown) → SameLog volume (frozen_with m tag e failed volume)
frozen_with_same m tag e failed volume = record {
  log = refl;
  bases = λ j. map_bases without_run (λ r. refl) volume.replicas j;
  many = map_many without_run volume.replicas;
}

pub replica_same : (volume : VolumeKnown) (j : ℕ) (change : ReplicaKnown → ReplicaKnown) → ((r : ReplicaKnown) → (change r).base ≡ r.base)
    → SameLog volume (with_replica volume j (change (replica_at volume j)))
replica_same volume j change keeps = record {
  log = refl;
  bases = λ i. elim (read_set volume.replicas j i (change (replica_at volume j)) empty_replica) [
    | inl e ↦ ap (λ (r : ReplicaKnown). r.base) e
    | inr e ↦ ap (λ (r : ReplicaKnown). r.base) e.1 ∙ keeps (replica_at volume j) ∙ ap (λ (u : ℕ). (replica_at volume u).base) (sym e.0)
  ];
  many = length-set volume.replicas j (change (replica_at volume j));
}

pub change_replica_undisturbed : (settings : Settings) (k : Known) (v j : ℕ) (change : ReplicaKnown → ReplicaKnown) → ((r : ReplicaKnown) → (change r).base ≡ r.base)
    → Undisturbed settings k (change_replica k v j change)
change_replica_undisturbed settings k v j change keeps =
    change_undisturbed settings k v (λ volume. with_replica volume j (change (replica_at volume j))) (replica_same (volume_at k v) j change keeps)

-- HOMES

pub find_of : {X : Type 0} (test : X → Bool) (xs : List X) (x : X) → find test xs ≡ Some x → (test x ≡ true) × Contains xs x
find_of test [] x e = absurd cc
find_of test (y ∷ xs) x e =
    elim (cases_Bool (test y)) [
      | inl t ↦
          let is : y ≡ x = let found : Some y ≡ Some x = sym (cond-true (test y) (Some y) (find test xs) t) ∙ e in cc in
          (subst (λ z. test z ≡ true) is t, (0, omega arith, is))
      | inr f ↦
          let rest = find_of test xs x (sym (cond-false (test y) (Some y) (find test xs) f) ∙ e) in
          (rest.0, (suc (rest.1).0, omega (arith, (rest.1).1), (rest.1).2))
    ]

-- each try is a volume
pub each_try : (settings : Settings) (pair : Pair) (v : ℕ) → Contains (all_tries settings pair) v → v < settings.volumes
each_try settings pair v at =
    let long : length (all_tries settings pair) ≡ settings.volumes = length-map-range_with_len (try_at settings pair) 0 settings.volumes in
    let many : at.0 < settings.volumes = subst (λ (n : ℕ). at.0 < n) long at.1 in
    let within : at.0 < length (range_with_len 0 settings.volumes) = subst (λ (n : ℕ). at.0 < n) (sym (length-range_with_len 0 settings.volumes)) many in
    let is : try_at settings pair (slice_index_or (range_with_len 0 settings.volumes) at.0 0) ≡ v =
    sym (get_or-map (try_at settings pair) (range_with_len 0 settings.volumes) at.0 0 v within) ∙ at.2 in
    let some : 0 < settings.volumes = omega arith in
    subst (λ (n : ℕ). n < settings.volumes) is (mod_below (pair.key + slice_index_or (range_with_len 0 settings.volumes) at.0 0) settings.volumes some)

-- a pair that a put was taken for gets its home, if it has none
pub with_home_grows : (settings : Settings) (k : Known) (pair : Pair) (v : ℕ) (test : ℕ → Bool) (home : Option ℕ)
    → home_of k pair ≡ home → find test (tries_by settings pair home) ≡ Some v → RowsGrow settings k (with_home k pair v)
with_home_grows settings k pair v test (Some h) e found = record {
  new = [];
  rows = ap (settled_by k.directory.rows pair v) e ∙ sym (append-nil k.directory.rows);
  bounded = tt;
  pending = λ before. before;
}
with_home_grows settings k pair v test None e found = record {
  new = record { pair = pair; volume = v } ∷ [];
  rows = ap (settled_by k.directory.rows pair v) e;
  bounded = (each_try settings pair v (find_of test (all_tries settings pair) v found).1, tt);
  pending = λ before. before;
}

pub with_home_undisturbed : (settings : Settings) (k : Known) (pair : Pair) (v : ℕ) (test : ℕ → Bool)
    → find test (tries_by settings pair (home_of k pair)) ≡ Some v → Undisturbed settings k (with_home k pair v)
with_home_undisturbed settings k pair v test found = record {
  each = λ w. same_log (volume_at k w);
  many = refl;
  grow = with_home_grows settings k pair v test (home_of k pair) refl found;
}

-- the volume that takes a photo of a pair without a home
pub taker_bounded : (settings : Settings) (k : Known) (pair : Pair) (size v : ℕ) → home_of k pair ≡ None → taker_of settings k pair size ≡ Some v → v < settings.volumes
taker_bounded settings k pair size v none taker =
    each_try settings pair v (find_of _ (all_tries settings pair) v
    (ap (λ (home : Option ℕ). find (λ u. is_none (refusal_of settings k size u)) (tries_by settings pair home)) (sym none) ∙ taker)).1

abbrev pub pending_volume : Option PendingRow → ℕ
pending_volume None = 0
pending_volume (Some pending) = (pending.row).volume

pub row_pending_undisturbed : (settings : Settings) (k : Known) (tag : CoreTag) (pair : Pair) (v : ℕ) → v < settings.volumes → Undisturbed settings k (row_pending k tag pair v)
row_pending_undisturbed settings k tag pair v below = record {
  each = λ w. same_log (volume_at k w);
  many = refl;
  grow = record {
    new = [];
    rows = sym (append-nil k.directory.rows);
    bounded = tt;
    pending = λ before pending is. subst (λ (n : ℕ). n < settings.volumes) (ap pending_volume is) below;
  };
}

pub put_frozen_undisturbed : (settings : Settings) (k : Known) (tag : CoreTag) (pair : Pair) (bytes : List ℕ) (v m : ℕ) (failed : Bool)
    → taker_of settings k pair (length bytes) ≡ Some v → Undisturbed settings k (put_frozen settings k tag pair bytes v m failed)
put_frozen_undisturbed settings k tag pair bytes v m failed taker =
    let frozen : Known = change_volume k v (frozen_with m tag (put_entry settings pair bytes) failed) in
    undisturbed_trans settings k frozen (with_home frozen pair v)
    (change_undisturbed settings k v (frozen_with m tag (put_entry settings pair bytes) failed) (frozen_with_same m tag (put_entry settings pair bytes) failed (volume_at k v)))
    (with_home_undisturbed settings frozen pair v (λ u. is_none (refusal_of settings k (length bytes) u)) taker)

-- PLAIN TURNS THAT ACKNOWLEDGE NO CHANGE

pub put_undisturbed : (settings : Settings) (k : Known) (tag : CoreTag) (pair : Pair) (bytes : List ℕ) (r : Reply) (t : Known)
    → acknowledged r ≡ None → LegalPut settings k tag pair bytes r t → Calm settings k t
put_undisturbed settings k tag pair bytes (reply.Stored v p d c) t a h = absurd cc
put_undisturbed settings k tag pair bytes (reply.Full refused) t a h = unchanged settings k t h.2
put_undisturbed settings k tag pair bytes (reply.ReadOnly by) t a h = unchanged settings k t h.1
put_undisturbed settings k tag pair bytes reply.ReadOnlyDir t a h = unchanged settings k t h.2
put_undisturbed settings k tag pair bytes (reply.Failed v m f) t a h =
    undisturbed_leaves settings k _ t (put_frozen_undisturbed settings k tag pair bytes v m true h.taker) h.leaves
put_undisturbed settings k tag pair bytes (reply.FailedDir f) t a h =
    undisturbed_leaves settings k _ t
    (row_pending_undisturbed settings k tag pair (h.needs).volume (taker_bounded settings k pair (length bytes) (h.needs).volume (h.needs).missing (h.needs).taker)) h.leaves
put_undisturbed settings k tag pair bytes reply.NoMem t a h =
    elim h [
      | inl leaves ↦ unchanged settings k t leaves
      | inr some ↦ elim some.3 [
        | inl leaves ↦ undisturbed_leaves settings k _ t (with_home_undisturbed settings k pair some.0 (λ u. is_none (refusal_of settings k (length bytes) u)) some.1) leaves
        | inr others ↦ elim others [
          | inl row ↦ undisturbed_leaves settings k _ t (row_pending_undisturbed settings k tag pair some.0 (taker_bounded settings k pair (length bytes) some.0 row.0 some.1)) row.1
          | inr leaves ↦ undisturbed_leaves settings k _ t (put_frozen_undisturbed settings k tag pair bytes some.0 (first_machine settings some.0) false some.1) leaves
        ]
      ]
    ]
put_undisturbed settings k tag pair bytes _ t a h = absurd h

pub frozen_undisturbed : (settings : Settings) (k : Known) (v m : ℕ) → Undisturbed settings k (change_volume k v (frozen_by m))
frozen_undisturbed settings k v m = change_undisturbed settings k v (frozen_by m) (frozen_same m (volume_at k v))

pub show_undisturbed : (settings : Settings) (k : Known) (tag : CoreTag) (start : ℕ) (pair : Pair) (cookie : Cookie) (r : Reply) (t : Known)
    → LegalShow settings k tag start pair cookie r t → Calm settings k t
show_undisturbed settings k tag start pair cookie (reply.Photo v m p d bytes) t h = unchanged settings k t h.leaves
show_undisturbed settings k tag start pair cookie (reply.Gone v m p d) t h = unchanged settings k t h.leaves
show_undisturbed settings k tag start pair cookie (reply.WrongCookie v m p d) t h = unchanged settings k t (h.3).leaves
show_undisturbed settings k tag start pair cookie (reply.Unreadable v p d causes) t h = unchanged settings k t h.leaves
show_undisturbed settings k tag start pair cookie (reply.Unknown d) t h = unchanged settings k t h.1
show_undisturbed settings k tag start pair cookie reply.NoMem t h =
    elim h [
      | inl leaves ↦ unchanged settings k t leaves
      | inr some ↦ undisturbed_leaves settings k _ t (frozen_undisturbed settings k some.0 (first_machine settings some.0)) some.3
    ]
show_undisturbed settings k tag start pair cookie _ t h = absurd h

pub get_undisturbed : (settings : Settings) (k : Known) (tag : CoreTag) (url : UrlParts) (o : Option ℕ) (r : Reply) (t : Known)
    → LegalGetAt settings k tag url o r t → Calm settings k t
get_undisturbed settings k tag url (Some start) (reply.Moved v d) t h = unchanged settings k t h.3
get_undisturbed settings k tag url (Some start) r t h = show_undisturbed settings k tag start url.pair url.cookie r t h.0
get_undisturbed settings k tag url None reply.Nowhere t h = unchanged settings k t h
get_undisturbed settings k tag url None reply.NoMem t h = unchanged settings k t h
get_undisturbed settings k tag url None _ t h = absurd h

pub del_frozen_undisturbed : (settings : Settings) (k : Known) (tag : CoreTag) (pair : Pair) (v m : ℕ) (failed : Bool)
    → Undisturbed settings k (change_volume k v (frozen_with m tag (entry.Del pair) failed))
del_frozen_undisturbed settings k tag pair v m failed =
    change_undisturbed settings k v (frozen_with m tag (entry.Del pair) failed) (frozen_with_same m tag (entry.Del pair) failed (volume_at k v))

pub del_undisturbed : (settings : Settings) (k : Known) (tag : CoreTag) (pair : Pair) (r : Reply) (t : Known)
    → acknowledged r ≡ None → LegalDel settings k tag pair r t → Calm settings k t
del_undisturbed settings k tag pair (reply.Deleted v p d) t a h = absurd cc
del_undisturbed settings k tag pair (reply.Absent v p d) t a h = unchanged settings k t h.leaves
del_undisturbed settings k tag pair (reply.Unknown d) t a h = unchanged settings k t h.1
del_undisturbed settings k tag pair (reply.ReadOnly by) t a h = unchanged settings k t h.1
del_undisturbed settings k tag pair (reply.Failed v m f) t a h =
    elim (h.leaves) [
      | inl leaves ↦ unchanged settings k t leaves
      | inr froze ↦ undisturbed_leaves settings k _ t (del_frozen_undisturbed settings k tag pair v m true) froze.1
    ]
del_undisturbed settings k tag pair reply.NoMem t a h =
    elim h [
      | inl leaves ↦ unchanged settings k t leaves
      | inr some ↦ elim some.3 [
        | inl froze ↦ undisturbed_leaves settings k _ t (del_frozen_undisturbed settings k tag pair some.0 (first_machine settings some.0) false) froze.1
        | inr leaves ↦ undisturbed_leaves settings k _ t (frozen_undisturbed settings k some.0 (first_machine settings some.0)) leaves
      ]
    ]
del_undisturbed settings k tag pair _ t a h = absurd h

pub url_undisturbed : (settings : Settings) (k : Known) (tag : CoreTag) (pair : Pair) (r : Reply) (t : Known) → LegalUrl settings k tag pair r t → Calm settings k t
url_undisturbed settings k tag pair (reply.Url d url) t h = unchanged settings k t h.leaves
url_undisturbed settings k tag pair (reply.Unknown d) t h = unchanged settings k t h.1
url_undisturbed settings k tag pair reply.NoMem t h = unchanged settings k t h
url_undisturbed settings k tag pair _ t h = absurd h

pub replica_leaves : (settings : Settings) (k : Known) (v j : ℕ) (change : ReplicaKnown → ReplicaKnown) (t : Known) → ((r : ReplicaKnown) → (change r).base ≡ r.base)
    → Leaves k (change_replica k v j change) t → Calm settings k t
replica_leaves settings k v j change t keeps leaves =
    undisturbed_leaves settings k (change_replica k v j change) t (change_replica_undisturbed settings k v j change keeps) leaves

pub flush_undisturbed : (settings : Settings) (k : Known) (v m j : ℕ) (r : Reply) (t : Known) → LegalFlush settings k v m j r t → Calm settings k t
flush_undisturbed settings k v m j (reply.Flushed v' m' n) t h = replica_leaves settings k v j (with_bare 0) t (λ r. refl) h.4
flush_undisturbed settings k v m j (reply.ReadOnly by) t h = unchanged settings k t h.1
flush_undisturbed settings k v m j (reply.Failed v' m' f) t h = replica_leaves settings k v j with_stuck t (λ r. refl) h.4
flush_undisturbed settings k v m j reply.NoMem t h = unchanged settings k t h
flush_undisturbed settings k v m j _ t h = absurd h

pub begin_undisturbed : (settings : Settings) (k : Known) (v m j : ℕ) (r : Reply) (t : Known) → LegalBegin settings k v m j r t → Calm settings k t
begin_undisturbed settings k v m j (reply.Begun v' m' g) t h =
    replica_leaves settings k v j (with_run (record { goal = g; left = (replica_of k v j).cells })) t (λ r. refl) h.4
begin_undisturbed settings k v m j (reply.ReadOnly by) t h = unchanged settings k t h.1
begin_undisturbed settings k v m j (reply.Busy v' m' g) t h = unchanged settings k t h.3
begin_undisturbed settings k v m j (reply.Worn v' m') t h = unchanged settings k t h.3
begin_undisturbed settings k v m j (reply.Failed v' m' f) t h = unchanged settings k t h.4
begin_undisturbed settings k v m j reply.NoMem t h = unchanged settings k t h
begin_undisturbed settings k v m j _ t h = absurd h

pub step_undisturbed : (settings : Settings) (k : Known) (v m j cells : ℕ) (r : Reply) (t : Known) → LegalStep settings k v m j cells r t → Calm settings k t
step_undisturbed settings k v m j cells (reply.Stepped v' m' n) t h = replica_leaves settings k v j (with_run (stepped n (h.2).0)) t (λ r. refl) (h.2).3
step_undisturbed settings k v m j cells (reply.ReadOnly by) t h = unchanged settings k t h.1
step_undisturbed settings k v m j cells (reply.Idle v' m') t h = unchanged settings k t h.3
step_undisturbed settings k v m j cells (reply.Failed v' m' f) t h = replica_leaves settings k v j without_run t (λ r. refl) h.4
step_undisturbed settings k v m j cells reply.NoMem t h =
    elim h [
      | inl leaves ↦ unchanged settings k t leaves
      | inr some ↦ replica_leaves settings k v j (with_run (stepped some.2 some.1)) t (λ r. refl) some.5
    ]
step_undisturbed settings k v m j cells _ t h = absurd h

-- a swap, beside which its volume may be frozen
pub swap_undisturbed : (settings : Settings) (sizes : Known → ℕ → ℕ → ℕ → ℕ → Type 0) (besides : VolumeKnown → VolumeKnown) (k : Known) (v j : ℕ) (t : Known)
    → ((volume : VolumeKnown) → SameLog volume (besides volume)) → Swaps sizes besides k v j t → Calm settings k t
swap_undisturbed settings sizes besides k v j t same h =
    let after : Known = change_replica k v j (swapped h.0 h.1) in
    undisturbed_leaves settings k (change_volume after v besides) t
    (undisturbed_trans settings k after (change_volume after v besides) (change_replica_undisturbed settings k v j (swapped h.0 h.1) (λ r. refl))
    (change_undisturbed settings after v besides (same (volume_at after v))))
    h.3

pub poised_undisturbed : (settings : Settings) (k : Known) (v j m : ℕ) → Undisturbed settings k (poised_by m k v j)
poised_undisturbed settings k v j m =
    let frozen : Known = change_volume k v (frozen_by m) in
    undisturbed_trans settings k frozen (change_replica frozen v j poised) (frozen_undisturbed settings k v m)
    (change_replica_undisturbed settings frozen v j poised (λ r. refl))

pub swap_failed_undisturbed : (settings : Settings) (k : Known) (v j m : ℕ) (t : Known) → SwapFailed m k v j t → Calm settings k t
swap_failed_undisturbed settings k v j m t h =
    elim h [
      | inl leaves ↦ replica_leaves settings k v j without_run t (λ r. refl) leaves
      | inr leaves ↦ undisturbed_leaves settings k (poised_by m k v j) t (poised_undisturbed settings k v j m) leaves
    ]

pub swap_no_mem_undisturbed : (settings : Settings) (ready : Known → ℕ → ℕ → Type 0) (sizes : Known → ℕ → ℕ → ℕ → ℕ → Type 0) (k : Known) (v j : ℕ) (t : Known)
    → SwapNoMem settings ready sizes k v j t → Calm settings k t
swap_no_mem_undisturbed settings ready sizes k v j t (inl leaves) = unchanged settings k t leaves
swap_no_mem_undisturbed settings ready sizes k v j t (inr (thawed, is, inl leaves)) = replica_leaves settings k v j without_run t (λ r. refl) leaves
swap_no_mem_undisturbed settings ready sizes k v j t (inr (thawed, is, inr swaps)) =
    swap_undisturbed settings sizes (frozen_by (first_machine settings v)) k v j t (frozen_same (first_machine settings v)) swaps

pub finish_undisturbed : (settings : Settings) (k : Known) (v m j : ℕ) (r : Reply) (t : Known) → LegalFinish settings k v m j r t → Calm settings k t
finish_undisturbed settings k v m j (reply.Compacted v' m' g) t h = swap_undisturbed settings IsLoose as_it_is k v j t same_log h.4
finish_undisturbed settings k v m j (reply.ReadOnly by) t h = unchanged settings k t h.1
finish_undisturbed settings k v m j (reply.Idle v' m') t h = unchanged settings k t h.3
finish_undisturbed settings k v m j (reply.Failed v' m' f) t h = swap_failed_undisturbed settings k v j m t h.4
finish_undisturbed settings k v m j reply.NoMem t h = swap_no_mem_undisturbed settings MayFinish IsLoose k v j t h
finish_undisturbed settings k v m j _ t h = absurd h

pub compact_undisturbed : (settings : Settings) (k : Known) (v m j : ℕ) (r : Reply) (t : Known) → LegalCompact settings k v m j r t → Calm settings k t
compact_undisturbed settings k v m j (reply.Compacted v' m' g) t h = swap_undisturbed settings IsTight as_it_is k v j t same_log h.4
compact_undisturbed settings k v m j (reply.ReadOnly by) t h = unchanged settings k t h.1
compact_undisturbed settings k v m j (reply.Busy v' m' g) t h = unchanged settings k t h.3
compact_undisturbed settings k v m j (reply.Worn v' m') t h = unchanged settings k t h.3
compact_undisturbed settings k v m j (reply.Failed v' m' f) t h = swap_failed_undisturbed settings k v j m t h.4
compact_undisturbed settings k v m j reply.NoMem t h = swap_no_mem_undisturbed settings IsAtRest IsTight k v j t h
compact_undisturbed settings k v m j _ t h = absurd h

pub drain_undisturbed : (settings : Settings) (k : Known) (m : ℕ) (r : Reply) (t : Known) → LegalDrain settings k m r t → Calm settings k t
drain_undisturbed settings k m (reply.Drained m') t h = beside settings k (with_drain k m true) t refl refl h.2
drain_undisturbed settings k m reply.Nowhere t h = unchanged settings k t h.1
drain_undisturbed settings k m reply.NoMem t h = unchanged settings k t h
drain_undisturbed settings k m _ t h = absurd h

pub undrain_undisturbed : (settings : Settings) (k : Known) (m : ℕ) (r : Reply) (t : Known) → LegalUndrain settings k m r t → Calm settings k t
undrain_undisturbed settings k m (reply.Undrained m') t h = beside settings k (with_drain k m false) t refl refl h.2
undrain_undisturbed settings k m reply.Nowhere t h = unchanged settings k t h.1
undrain_undisturbed settings k m reply.NoMem t h = unchanged settings k t h
undrain_undisturbed settings k m _ t h = absurd h

pub fuse_undisturbed : (settings : Settings) (k : Known) (v m j n : ℕ) (r : Reply) (t : Known) → LegalFuse settings k v m j n r t → Calm settings k t
fuse_undisturbed settings k v m j n (reply.Fused v' m' n') t h = beside settings k (with_fuses k (slot_of settings v j) (h.2).0) t refl refl (h.2).2
fuse_undisturbed settings k v m j n reply.NoMem t h = unchanged settings k t h
fuse_undisturbed settings k v m j n _ t h = absurd h

pub fuse_dir_undisturbed : (settings : Settings) (k : Known) (n : ℕ) (r : Reply) (t : Known) → LegalFuseDir k n r t → Calm settings k t
fuse_dir_undisturbed settings k n (reply.FusedDir n') t h = beside settings k (with_fuses k 0 (h.1).0) t refl refl (h.1).2
fuse_dir_undisturbed settings k n reply.NoMem t h = unchanged settings k t h
fuse_dir_undisturbed settings k n _ t h = absurd h

pub on_replica_undisturbed : (settings : Settings) (k : Known) (o : Option ℕ) (legal : ℕ → Reply → Known → Type 0) (r : Reply) (t : Known)
    → ((j : ℕ) → legal j r t → Calm settings k t) → OnReplica k o legal r t → Calm settings k t
on_replica_undisturbed settings k (Some j) legal r t each h = each j h
on_replica_undisturbed settings k None legal reply.Nowhere t each h = unchanged settings k t h
on_replica_undisturbed settings k None legal reply.NoMem t each h = unchanged settings k t h
on_replica_undisturbed settings k None legal _ t each h = absurd h

-- the commands that change no pair
abbrev pub IsOther : Command → Type 0
IsOther (command.Put pair bytes) = ⊥
IsOther (command.Del pair) = ⊥
IsOther _ = Unit {0}

pub other_undisturbed : (settings : Settings) (k : Known) (tag : CoreTag) (c : Command) (r : Reply) (t : Known)
    → IsOther c → LegalCommand settings k tag c r t → Calm settings k t
other_undisturbed settings k tag (command.Put pair bytes) r t other h = absurd other
other_undisturbed settings k tag (command.Read pair cookie) r t other h = show_undisturbed settings k tag (start_of settings tag) pair cookie r t h
other_undisturbed settings k tag (command.Get url) r t other h = get_undisturbed settings k tag url (replica_on settings url.volume url.machine) r t h
other_undisturbed settings k tag (command.Del pair) r t other h = absurd other
other_undisturbed settings k tag (command.Url pair) r t other h = url_undisturbed settings k tag pair r t h
other_undisturbed settings k tag (command.Flush v m) r t other h =
    on_replica_undisturbed settings k (replica_on settings v m) (LegalFlush settings k v m) r t (λ j. flush_undisturbed settings k v m j r t) h
other_undisturbed settings k tag (command.Compact v m) r t other h =
    on_replica_undisturbed settings k (replica_on settings v m) (LegalCompact settings k v m) r t (λ j. compact_undisturbed settings k v m j r t) h
other_undisturbed settings k tag (command.Begin v m) r t other h =
    on_replica_undisturbed settings k (replica_on settings v m) (LegalBegin settings k v m) r t (λ j. begin_undisturbed settings k v m j r t) h
other_undisturbed settings k tag (command.Step v m n) r t other h =
    on_replica_undisturbed settings k (replica_on settings v m) (λ j. LegalStep settings k v m j n) r t (λ j. step_undisturbed settings k v m j n r t) h
other_undisturbed settings k tag (command.Finish v m) r t other h =
    on_replica_undisturbed settings k (replica_on settings v m) (LegalFinish settings k v m) r t (λ j. finish_undisturbed settings k v m j r t) h
other_undisturbed settings k tag (command.Drain m) r t other h = drain_undisturbed settings k m r t h
other_undisturbed settings k tag (command.Undrain m) r t other h = undrain_undisturbed settings k m r t h
other_undisturbed settings k tag (command.Fuse v m n) r t other h =
    on_replica_undisturbed settings k (replica_on settings v m) (λ j. LegalFuse settings k v m j n) r t (λ j. fuse_undisturbed settings k v m j n r t) h
other_undisturbed settings k tag (command.FuseDir n) r t other h = fuse_dir_undisturbed settings k n r t h
other_undisturbed settings k tag (command.Restart pick) r t other h = absurd h

pub command_undisturbed : (settings : Settings) (k : Known) (tag : CoreTag) (c : Command) (r : Reply) (t : Known)
    → acknowledged r ≡ None → LegalCommand settings k tag c r t → Calm settings k t
command_undisturbed settings k tag (command.Put pair bytes) r t a h = put_undisturbed settings k tag pair bytes r t a h
command_undisturbed settings k tag (command.Del pair) r t a h = del_undisturbed settings k tag pair r t a h
command_undisturbed settings k tag c r t a h = other_undisturbed settings k tag c r t tt h

-- a plain turn that acknowledges no change leaves every log
pub plain_undisturbed : (settings : Settings) (k : Known) (line : ℕ) (i : Item) (r : Reply) (t : Known)
    → acknowledged r ≡ None → LegalPlain settings k line i r t → Calm settings k t
plain_undisturbed settings k line (item.Command c) r t a h = command_undisturbed settings k (record { lane = 0; line = line }) c r t a h
plain_undisturbed settings k line item.Bad r t a h = unchanged settings k t h.1

pub others_leave_the_logs : OthersLeaveTheLogs
others_leave_the_logs settings k t earlier later line i r after legal a v =
    ((calm_undisturbed settings (known_behind k earlier) after
    (plain_undisturbed settings (known_behind k earlier) line i r after a (legal_split settings k t earlier _ legal).1.0)).each v).log

-- HOMES OVER TURNS

-- a home stands whatever rows are added
pub home_stays : (rows new : List HomeRow) (pair : Pair) (v : ℕ) → home_in rows pair ≡ Some v → home_in (rows ++ new) pair ≡ Some v
home_stays [] new pair v e = absurd cc
home_stays (row ∷ rows) new pair v e =
    elim (cases_Bool (pair_eq row.pair pair)) [
      | inl t ↦ cond-true (pair_eq row.pair pair) (Some row.volume) (home_in (rows ++ new) pair) t ∙ sym (cond-true (pair_eq row.pair pair) (Some row.volume) (home_in rows pair) t) ∙ e
      | inr f ↦ cond-false (pair_eq row.pair pair) (Some row.volume) (home_in (rows ++ new) pair) f
          ∙ home_stays rows new pair v (sym (cond-false (pair_eq row.pair pair) (Some row.volume) (home_in rows pair) f) ∙ e)
    ]

pub home_added : (rows : List HomeRow) (pair : Pair) (v : ℕ) → home_in rows pair ≡ None → home_in (rows ++ record { pair = pair; volume = v } ∷ []) pair ≡ Some v
home_added [] pair v e = cond-true (pair_eq pair pair) (Some v) None (pair_refl pair)
home_added (row ∷ rows) pair v e =
    elim (cases_Bool (pair_eq row.pair pair)) [
      | inl t ↦
          let found : Some row.volume ≡ None = sym (cond-true (pair_eq row.pair pair) (Some row.volume) (home_in rows pair) t) ∙ e in absurd cc
      | inr f ↦ cond-false (pair_eq row.pair pair) (Some row.volume) (home_in (rows ++ record { pair = pair; volume = v } ∷ []) pair) f
          ∙ home_added rows pair v (sym (cond-false (pair_eq row.pair pair) (Some row.volume) (home_in rows pair) f) ∙ e)
    ]

pub taken_home : (settings : Settings) (k : Known) (pair : Pair) (v : ℕ) (test : ℕ → Bool) (home : Option ℕ) → home_of k pair ≡ home
    → find test (tries_by settings pair home) ≡ Some v → home_of (with_home k pair v) pair ≡ Some v
taken_home settings k pair v test (Some h) e found =
    let at = (find_of test (h ∷ []) v found).1 in
    let first : at.0 ≡ 0 = omega (arith, at.1) in
    let same : h ≡ v = subst (λ (n : ℕ). slice_index_or (h ∷ []) n v ≡ v) first at.2 in
    ap (λ (rows : List HomeRow). home_in rows pair) (ap (settled_by k.directory.rows pair v) e) ∙ e ∙ ap (λ (n : ℕ). Some n) same
taken_home settings k pair v test None e found =
    ap (λ (rows : List HomeRow). home_in rows pair) (ap (settled_by k.directory.rows pair v) e) ∙ home_added k.directory.rows pair v e

-- WHAT AN ACKNOWLEDGED CHANGE LEAVES

-- A volume's log has one entry more.
pub record Adds (old : VolumeKnown) (logged : Logged) (new : VolumeKnown) : Type 0 where
  pub log : new.log ≡ old.log ++ logged ∷ []
  pub bases : (j : ℕ) → (replica_at new j).base ≡ (replica_at old j).base
  pub many : length new.replicas ≡ length old.replicas

-- This volume's log has one entry more, if there is such a volume.
pub record Disturbed (settings : Settings) (k : Known) (v : ℕ) (logged : Logged) (t : Known) : Type 0 where
  pub each : (w : ℕ) → SameLog (volume_at k w) (volume_at t w) ⊎ ((w ≡ v) × Adds (volume_at k w) logged (volume_at t w))
  pub here : v < length k.volumes → Adds (volume_at k v) logged (volume_at t v)
  pub others : (w : ℕ) → w ≢ v → SameLog (volume_at k w) (volume_at t w)
  pub many : length t.volumes ≡ length k.volumes
  pub grow : RowsGrow settings k t

pub change_disturbed : (settings : Settings) (k : Known) (v : ℕ) (change : VolumeKnown → VolumeKnown) (logged : Logged)
    → Adds (volume_at k v) logged (change (volume_at k v)) → Disturbed settings k v logged (change_volume k v change)
change_disturbed settings k v change logged adds = record {
  each = λ w. elim (read_set k.volumes v w (change (volume_at k v)) empty_volume) [
    | inl e ↦ inl (subst (λ (new : VolumeKnown). SameLog (volume_at k w) new) (sym e) (same_log (volume_at k w)))
    | inr e ↦ inr (
      e.0,
      subst (λ (new : VolumeKnown). Adds (volume_at k w) logged new) (sym e.1)
          (subst (λ (u : ℕ). Adds (volume_at k u) logged (change (volume_at k v))) (sym e.0) adds),
    )
  ];
  here = λ below. subst (λ (new : VolumeKnown). Adds (volume_at k v) logged new) (sym (get_or-set_same k.volumes v (change (volume_at k v)) empty_volume below)) adds;
  others = λ w apart. subst (λ (new : VolumeKnown). SameLog (volume_at k w) new)
      (sym (get_or-set_other k.volumes v w (change (volume_at k v)) empty_volume apart)) (same_log (volume_at k w));
  many = length-set k.volumes v (change (volume_at k v));
  grow = same_rows settings k (change_volume k v change) refl;
}

pub disturbed_then : (settings : Settings) (k : Known) (v : ℕ) (logged : Logged) (e t : Known) → Disturbed settings k v logged e → e.volumes ≡ t.volumes → RowsGrow settings e t
    → Disturbed settings k v logged t
disturbed_then settings k v logged e t h volumes grow = record {
  each =
      λ w. subst (λ (vs : List VolumeKnown). SameLog (volume_at k w) (slice_index_or vs w empty_volume)
      ⊎ ((w ≡ v) × Adds (volume_at k w) logged (slice_index_or vs w empty_volume))) volumes (h.each w);
  here = λ below. subst (λ (vs : List VolumeKnown). Adds (volume_at k v) logged (slice_index_or vs v empty_volume)) volumes (h.here below);
  others = λ w apart. subst (λ (vs : List VolumeKnown). SameLog (volume_at k w) (slice_index_or vs w empty_volume)) volumes (h.others w apart);
  many = sym (ap (λ (vs : List VolumeKnown). length vs) volumes) ∙ h.many;
  grow = rows_trans settings k e t h.grow grow;
}

pub put_adds : (volume : VolumeKnown) (tag : CoreTag) (pair : Pair) (c : Cookie) (bytes : List ℕ)
    → Adds volume (record { tag = tag; entry = entry.Put pair c bytes }) (with_put volume tag pair c bytes)
put_adds volume tag pair c bytes = record { log = refl; bases = λ j. map_bases (grown (length bytes)) (λ r. refl) volume.replicas j; many = map_many (grown (length bytes)) volume.replicas }

pub ended_bases : (ended : List Bool) (rs : List ReplicaKnown) (j : ℕ)
    → (slice_index_or (ended_where ended rs) j empty_replica).base ≡ (slice_index_or rs j empty_replica).base
ended_bases [] rs j = refl
ended_bases (b ∷ ended) [] j = refl
ended_bases (true ∷ ended) (r ∷ rs) zero = refl
ended_bases (true ∷ ended) (r ∷ rs) (suc j) = ended_bases ended rs j
ended_bases (false ∷ ended) (r ∷ rs) zero = refl
ended_bases (false ∷ ended) (r ∷ rs) (suc j) = ended_bases ended rs j

pub ended_many : (ended : List Bool) (rs : List ReplicaKnown) → length (ended_where ended rs) ≡ length rs
ended_many [] rs = refl
ended_many (b ∷ ended) [] = refl
ended_many (true ∷ ended) (r ∷ rs) = ap suc (ended_many ended rs)
ended_many (false ∷ ended) (r ∷ rs) = ap suc (ended_many ended rs)

pub del_adds : (volume : VolumeKnown) (ended : List Bool) (tag : CoreTag) (pair : Pair)
    → Adds volume (record { tag = tag; entry = entry.Del pair }) (with_del ended tag pair volume)
del_adds volume ended tag pair = record { log = refl; bases = λ j. ended_bases ended volume.replicas j; many = ended_many ended volume.replicas }

pub put_disturbed : (settings : Settings) (k : Known) (tag : CoreTag) (pair : Pair) (bytes : List ℕ) (v p d : ℕ) (c : Cookie) (t : Known)
    → IsStored settings k tag pair bytes v p d c t → Disturbed settings k v (record { tag = tag; entry = entry.Put pair c bytes }) t
put_disturbed settings k tag pair bytes v p d c t h =
    let put : Known = change_volume k v (λ volume. with_put volume tag pair c bytes) in
    disturbed_then settings k v (record { tag = tag; entry = entry.Put pair c bytes }) put t
    (change_disturbed settings k v (λ volume. with_put volume tag pair c bytes) (record { tag = tag; entry = entry.Put pair c bytes }) (put_adds (volume_at k v) tag pair c bytes))
    (sym (h.leaves).volumes)
    (rows_trans settings put (with_home put pair v) t
    (with_home_grows settings put pair v (λ u. is_none (refusal_of settings k (length bytes) u)) (home_of k pair) refl h.taker)
    (same_rows settings (with_home put pair v) t (h.leaves).directory))

pub del_disturbed : (settings : Settings) (k : Known) (tag : CoreTag) (pair : Pair) (v p d : ℕ) (t : Known)
    → IsDeleted settings k tag pair v p d t → Disturbed settings k v (record { tag = tag; entry = entry.Del pair }) t
del_disturbed settings k tag pair v p d t h =
    let deleted : Known = change_volume k v (with_del h.ended tag pair) in
    disturbed_then settings k v (record { tag = tag; entry = entry.Del pair }) deleted t
    (change_disturbed settings k v (with_del h.ended tag pair) (record { tag = tag; entry = entry.Del pair }) (del_adds (volume_at k v) h.ended tag pair))
    (sym (h.leaves).volumes)
    (same_rows settings deleted t (h.leaves).directory)

-- each plain turn disturbs no log, or one by the change that it acknowledges
abbrev pub Effect : Settings → Known → Item → Reply → Known → Type 0
Effect settings k i r t =
    Calm settings k t
    ⊎ ((v : ℕ) × (logged : Logged) × (changed_pair i r ≡ Some (pair_of logged.entry)) × Disturbed settings k v logged t × NoneFalls k.faults t.faults × NoneFalls k.arms t.arms
    × (home_of t (pair_of logged.entry) ≡ Some v))

pub put_effect : (settings : Settings) (k : Known) (tag : CoreTag) (pair : Pair) (bytes : List ℕ) (r : Reply) (t : Known)
    → LegalPut settings k tag pair bytes r t → Effect settings k (item.Command (command.Put pair bytes)) r t
put_effect settings k tag pair bytes (reply.Stored v p d c) t h =
    inr (
      v,
      record { tag = tag; entry = entry.Put pair c bytes },
      refl,
      put_disturbed settings k tag pair bytes v p d c t h,
      (h.leaves).faults,
      (h.leaves).arms,
      ap (λ (dir : DirKnown). home_in dir.rows pair) (h.leaves).directory
          ∙ taken_home settings k pair v (λ u. is_none (refusal_of settings k (length bytes) u)) (home_of k pair) refl h.taker,
    )
put_effect settings k tag pair bytes (reply.Deleted v p d) t h = absurd h
put_effect settings k tag pair bytes r t h = inl (put_undisturbed settings k tag pair bytes r t refl h)

pub del_effect : (settings : Settings) (k : Known) (tag : CoreTag) (pair : Pair) (r : Reply) (t : Known)
    → LegalDel settings k tag pair r t → Effect settings k (item.Command (command.Del pair)) r t
del_effect settings k tag pair (reply.Deleted v p d) t h =
    inr (
      v,
      record { tag = tag; entry = entry.Del pair },
      refl,
      del_disturbed settings k tag pair v p d t h,
      (h.leaves).faults,
      (h.leaves).arms,
      ap (λ (dir : DirKnown). home_in dir.rows pair) (h.leaves).directory ∙ (h.home).home,
    )
del_effect settings k tag pair (reply.Stored v p d c) t h = absurd h
del_effect settings k tag pair r t h = inl (del_undisturbed settings k tag pair r t refl h)

pub command_effect : (settings : Settings) (k : Known) (tag : CoreTag) (c : Command) (r : Reply) (t : Known)
    → LegalCommand settings k tag c r t → Effect settings k (item.Command c) r t
command_effect settings k tag (command.Put pair bytes) r t h = put_effect settings k tag pair bytes r t h
command_effect settings k tag (command.Del pair) r t h = del_effect settings k tag pair r t h
command_effect settings k tag c r t h = inl (other_undisturbed settings k tag c r t tt h)

pub plain_effect : (settings : Settings) (k : Known) (line : ℕ) (i : Item) (r : Reply) (t : Known)
    → LegalPlain settings k line i r t → Effect settings k i r t
plain_effect settings k line (item.Command c) r t h = command_effect settings k (record { lane = 0; line = line }) c r t h
plain_effect settings k line item.Bad r t h = inl (unchanged settings k t h.1)
