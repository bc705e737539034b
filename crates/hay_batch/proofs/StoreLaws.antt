-- A store that a batch is loaded to.
use Rattle.std.proofs.Common.{◌≡◌, ◌≢◌, inl, inr, ◌<◌, ◌≤◌, ◌+◌, ◌%◌, ℕ, List, [], ◌∷◌, ◌++◌, Result, Ok, Err, All, length, get_or, take, drop, refl, sym, ap, subst, ◌∙◌, arith}
use Rattle.std.proofs.Common.{length-append, append-nil}
use Rattle.std.specs.Prelude.{IfErr, IfOk, OnOk, slice_set}
use Rattle.std.specs.Vec.{with_item, with_items}
use Rattle.std.proofs.lemmas.Bool.{cases_eq}
use Rattle.std.proofs.lemmas.List.{drop_all, take_all}
use Rattle.hay_needle.specs.declared.settings.Settings.{Settings}
use Rattle.hay_needle.specs.declared.settings.TheConstants.{MAX_REPLICAS, MAX_VOLUMES}
use Rattle.hay_batch.specs.declared.fault.FullTry.{FullTry}
use Rattle.hay_batch.specs.declared.photo.NewPhoto.{NewPhoto}
use Rattle.hay_batch.specs.declared.replica.LoadReplica.{LoadReplica}
use Rattle.hay_batch.specs.declared.store.LoadStore.{LoadStore}
use Rattle.hay_batch.specs.declared.store.LoadVolume.{LoadVolume}
use Rattle.hay_batch.specs.Batches.{batch_total}
use Rattle.hay_batch.specs.Replicas.{At, HasRoom, IsFirstFull}
use Rattle.hay_batch.specs.Stores.{AreTries, IsFirstRoom, IsShaped, IsTargetOf, IsTry, KeepsCounts, ReplicaAt, try_at}
use Rattle.hay_batch.proofs.Lists.{at_below, at_either, at_read, at_same, at_set_other, at_set_same, length-slice_set}

-- TRIES

pub try_is : {D : Type 0} (store : LoadStore D) (key need turn volume machine end : ℕ) (w : LoadVolume D) (slice : List (LoadReplica D)) (j : ℕ)
    → volume ≡ try_at store.settings key turn → At store.volumes.items volume w → slice ≡ w.replicas.items
    → (r : LoadReplica D) × IsFirstFull need slice j r × (end ≡ r.volume.end) → machine ≡ (volume + j) % store.settings.machines
    → IsTry store key need turn (record { volume = volume; machine = machine; end = end; need = need })
try_is {D} store key need turn volume machine end w slice j is there same full machine_is = record {
  volume = is;
  needs = refl;
  w = w;
  there = there;
  j = j;
  r = full.0;
  lacks = subst (λ (l : List (LoadReplica D)). IsFirstFull need l j full.0) same full.1;
  machine = machine_is;
  end = full.2;
}

pub tries_more : {D : Type 0} (store : LoadStore D) (key need turn : ℕ) (tries more : List FullTry) (full : FullTry) → more ≡ tries ++ full ∷ []
    → AreTries store key need turn tries → IsTry store key need turn full → AreTries store key need (turn + 1) more
tries_more store key need turn tries more full longer before one = record {
  count = omega (arith, ap length longer, length-append tries (full ∷ []), before.count);
  are = λ i x at. elim (at_either tries full i x (subst (λ (l : List FullTry). At l i x) longer at)) [
    | inl h ↦ before.are i x h
    | inr h ↦ subst (λ k. IsTry store key need k x) (sym (h.0 ∙ before.count)) (subst (λ y. IsTry store key need turn y) (sym h.1) one)
  ];
}

-- of the same key and as many bytes
pub same_tries : {D : Type 0} (store : LoadStore D) (key other need total turns : ℕ) (tries : List FullTry) → key ≡ other → need ≡ total → AreTries store key need turns tries
    → AreTries store other total turns tries
same_tries store key other need total turns tries same much are = subst (λ n. AreTries store other n turns tries) much (subst (λ n. AreTries store n need turns tries) same are)

pub first_room : {D : Type 0} (store : LoadStore D) (key other need total volume : ℕ) → key ≡ other → need ≡ total
    → (turn : ℕ) × (volume ≡ try_at store.settings key turn) × (tries : List FullTry) × AreTries store key need turn tries
    → ((w : LoadVolume D) → At store.volumes.items volume w → (j : ℕ) (r : LoadReplica D) → At w.replicas.items j r → HasRoom need r) → IsFirstRoom store other total volume
first_room store key other need total volume same much first room = record {
  turn = first.0;
  is = subst (λ n. volume ≡ try_at store.settings n first.0) same first.1;
  tries = first.2;
  before = same_tries store key other need total first.0 first.2 same much first.3;
  room = λ j r there. subst (λ n. HasRoom n r) much (room there.0 there.1 j r there.2);
}

-- so it is of a batch, by the key of its first photo
pub target_of : {D : Type 0} (store : LoadStore D) (photos : List NewPhoto) (key need volume : ℕ) → ((other : ℕ) → All (λ (photo : NewPhoto). photo.pair.key ≡ other) photos → key ≡ other)
    → need ≡ batch_total photos → (turn : ℕ) × (volume ≡ try_at store.settings key turn) × (tries : List FullTry) × AreTries store key need turn tries
    → ((w : LoadVolume D) → At store.volumes.items volume w → (j : ℕ) (r : LoadReplica D) → At w.replicas.items j r → HasRoom need r) → IsTargetOf store photos volume
target_of store photos key need volume same much first room = λ other all. first_room store key other need (batch_total photos) volume (same other all) much first room

-- ONE VOLUME IS CHANGED

-- The replicas of volume v were xs and are ws, and nothing else changed.
pub record Swapped {D : Type 0} (v : ℕ) (w w' : LoadVolume D) (xs ws : List (LoadReplica D)) (old new : LoadStore D) : Type 0 where
  pub settings : new.settings ≡ old.settings
  pub directory : new.directory ≡ old.directory
  pub was : At old.volumes.items v w
  pub items : new.volumes.items ≡ slice_set old.volumes.items v w'
  pub slice : xs ≡ w.replicas.items
  pub written : w'.replicas.items ≡ ws
  pub count : length ws ≡ length xs

-- a vector with as many items written over its own has these
pub items_written : {X : Type 0} (n : ℕ) (ws xs : List X) → n ≡ length xs → length ws ≡ length xs → take n (ws ++ drop (length ws) xs) ≡ ws
items_written {X} n ws xs all same =
    ap (λ (l : List X). take n (ws ++ l)) (drop_all (length ws) xs (omega arith)) ∙ ap (λ (l : List X). take n l) (append-nil ws) ∙ take_all n ws (omega arith)

-- a volume, and a store, with these replicas written over its own
abbrev pub written_volume : {D : Type 0} → LoadVolume D → List (LoadReplica D) → LoadVolume D
written_volume w ws = record { replicas = with_items w.replicas ws }

abbrev pub written_store : {D : Type 0} → LoadStore D → ℕ → LoadVolume D → List (LoadReplica D) → LoadStore D
written_store old v w ws = record { settings = old.settings; directory = old.directory; volumes = with_item old.volumes v (written_volume w ws) }

pub swapped : {D : Type 0} (v : ℕ) (w : LoadVolume D) (xs ws : List (LoadReplica D)) (old : LoadStore D) → w ≡ get_or old.volumes.items v w → v < length old.volumes.items
    → xs ≡ w.replicas.items → length ws ≡ length xs
    → Swapped v w (written_volume w ws) xs ws old (written_store old v w ws)
swapped v w xs ws old here within slice count = record {
  settings = refl;
  directory = refl;
  was = subst (λ x. At old.volumes.items v x) (sym here) (at_read old.volumes.items v w within);
  items = refl;
  slice = slice;
  written = items_written w.replicas.len ws w.replicas.items (omega (arith, w.replicas.ok.0)) (count ∙ ap length slice);
  count = count;
}

module _ {D : Type 0} (v : ℕ) (w w' : LoadVolume D) (xs ws : List (LoadReplica D)) (old new : LoadStore D) (s : Swapped v w w' xs ws old new) where
  pub swapped_old : (j : ℕ) (r : LoadReplica D) → ReplicaAt old v j r → At xs j r
  swapped_old j r there =
      let same : there.0 ≡ w = at_same old.volumes.items v there.0 w there.1 s.was in
      subst (λ (l : List (LoadReplica D)). At l j r) (ap (λ (x : LoadVolume D). x.replicas.items) same ∙ sym s.slice) there.2

  pub swapped_back : (j : ℕ) (r : LoadReplica D) → At xs j r → ReplicaAt old v j r
  swapped_back j r there = (w, s.was, subst (λ (l : List (LoadReplica D)). At l j r) s.slice there)

  is_there : At new.volumes.items v w'
  is_there = subst (λ (l : List (LoadVolume D)). At l v w') (sym s.items) (at_set_same old.volumes.items v w' (at_below old.volumes.items v w s.was))

  pub swapped_new : (j : ℕ) (r : LoadReplica D) → ReplicaAt new v j r → At ws j r
  unfolding is_there
  swapped_new j r there =
      let same : there.0 ≡ w' = at_same new.volumes.items v there.0 w' there.1 is_there in
      subst (λ (l : List (LoadReplica D)). At l j r) (ap (λ (x : LoadVolume D). x.replicas.items) same ∙ s.written) there.2

  other_is : (u : ℕ) (x : LoadVolume D) → u ≢ v → At new.volumes.items u x → At old.volumes.items u x
  other_is u x apart there = sym (at_set_other old.volumes.items u v w' apart) ∙ subst (λ (l : List (LoadVolume D)). At l u x) s.items there

  pub swapped_other : (u j : ℕ) (r r' : LoadReplica D) → u ≢ v → ReplicaAt old u j r → ReplicaAt new u j r' → r' ≡ r
  unfolding other_is
  swapped_other u j r r' apart was is =
      let same : is.0 ≡ was.0 = at_same old.volumes.items u is.0 was.0 (other_is u is.0 apart is.1) was.1 in
      at_same was.0.replicas.items j r' r (subst (λ (x : LoadVolume D). At x.replicas.items j r') same is.2) was.2

  pub swapped_shape : IsShaped old → IsShaped new
  unfolding is_there other_is
  swapped_shape shape = record {
    some = subst (λ (x : Settings). 0 < x.volumes) (sym s.settings) shape.some;
    most = subst (λ (x : Settings). x.volumes ≤ MAX_VOLUMES) (sym s.settings) shape.most;
    machines = subst (λ (x : Settings). 0 < x.machines) (sym s.settings) shape.machines;
    few = subst (λ (x : Settings). x.replicas ≤ MAX_REPLICAS) (sym s.settings) shape.few;
    volumes = ap length s.items ∙ length-slice_set old.volumes.items v w' ∙ shape.volumes ∙ ap (λ (x : Settings). x.volumes) (sym s.settings);
    replicas = λ u x there. elim (cases_eq u v) [
      | inl same ↦
          let here : x ≡ w' = at_same new.volumes.items v x w' (subst (λ k. At new.volumes.items k x) same there) is_there in
          ap (λ (y : LoadVolume D). length y.replicas.items) here ∙ ap length s.written ∙ s.count ∙ ap length s.slice ∙ shape.replicas v w s.was ∙ ap (λ (y : Settings). y.replicas) (sym s.settings)
      | inr apart ↦ shape.replicas u x (other_is u x apart there) ∙ ap (λ (y : Settings). y.replicas) (sym s.settings)
    ];
  }

  pub swapped_counts : (fault_count fuse_count : D → ℕ) → ((j : ℕ) (r r' : LoadReplica D) → At xs j r → At ws j r' → fault_count r.disk ≤ fault_count r'.disk)
      → ((j : ℕ) (r r' : LoadReplica D) → At xs j r → At ws j r' → fuse_count r'.disk ≡ fuse_count r.disk) → KeepsCounts fault_count fuse_count old new
  unfolding swapped_old swapped_new swapped_other
  swapped_counts fault_count fuse_count later fuses = record {
    directory = subst (λ d. fault_count old.directory.disk ≤ fault_count d.disk) (sym s.directory) (omega arith);
    directory_fuses = ap (λ d. fuse_count d.disk) s.directory;
    replicas = λ u j r r' was is. elim (cases_eq u v) [
      | inl same ↦ later j r r' (swapped_old j r (subst (λ k. ReplicaAt old k j r) same was)) (swapped_new j r' (subst (λ k. ReplicaAt new k j r') same is))
      | inr apart ↦ subst (λ x. fault_count r.disk ≤ fault_count x.disk) (sym (swapped_other u j r r' apart was is)) (omega arith)
    ];
    fuses = λ u j r r' was is. elim (cases_eq u v) [
      | inl same ↦ fuses j r r' (swapped_old j r (subst (λ k. ReplicaAt old k j r) same was)) (swapped_new j r' (subst (λ k. ReplicaAt new k j r') same is))
      | inr apart ↦ ap (λ x. fuse_count x.disk) (swapped_other u j r r' apart was is)
    ];
  }

-- ANSWERS

-- what follows of an answer
pub on_ok_more : {T E : Type 0} (r : Result T E) (P Q : Type 0) → OnOk r P → (P → Q) → OnOk r Q
on_ok_more (Ok x) P Q holds more = more holds
on_ok_more (Err e) P Q holds more = tt

pub if_err_more : {T E : Type 0} (r : Result T E) (P Q R : E → Type 0) → IfErr r P → IfErr r Q → ((e : E) → P e → Q e → R e) → IfErr r R
if_err_more (Ok x) P Q R first second more = tt
if_err_more (Err e) P Q R first second more = more e first second

pub if_ok_more : {T E : Type 0} (r : Result T E) (P Q : T → Type 0) → IfOk r P → ((x : T) → P x → Q x) → IfOk r Q
if_ok_more (Ok x) P Q holds more = more x holds
if_ok_more (Err e) P Q holds more = tt

pub on_ok_if : {T E : Type 0} (r : Result T E) (P : Type 0) (Q R : T → Type 0) → OnOk r P → IfOk r Q → (P → (x : T) → Q x → R x) → IfOk r R
on_ok_if (Ok x) P Q R first second more = more first x second
on_ok_if (Err e) P Q R first second more = tt
