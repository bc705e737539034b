-- Which disks of a store a call of one of its parts leaves.
use Rattle.std.proofs.Common.{◌≡◌, ◌≢◌, ◌⊎◌, ℕ, zero, suc, ◌+◌, ◌*◌, ◌<◌, List, [], ◌∷◌, ◌++◌, length, map, Option, Some, refl, sym, ap, subst, ◌∙◌, inl, inr, arith}
use Rattle.std.specs.Prelude.{None, Result, Ok, Err, slice_get, slice_set}
use Rattle.std.proofs.lemmas.Option.{same_Some}
use Rattle.std.specs.List.{AllByRecursion, flat_map}
use Rattle.std.specs.Option.{option_map_or}
use Rattle.hay_needle.specs.declared.needle.Pair.{Pair}
use Rattle.hay_needle.specs.declared.settings.Settings.{Settings}
use Rattle.hay_disk.specs.Disk.{Files}
use Rattle.hay_reply.specs.declared.Reply.{Reply}
use Rattle.hay_reply.specs.declared.Reply.TheVariants as reply
use Rattle.hay_core.specs.declared.entry.CoreTag.{CoreTag}
use Rattle.hay_legal.specs.declared.known.HomeRow.{HomeRow}
use Rattle.hay_legal.specs.Known.{machine_of, replica_on, slot_of}
use Rattle.hay_legal.specs.Stands.{Contents}
use Rattle.hay_physical.specs.OpenCopies.{Copy}
use Rattle.hay_logical.specs.Answers.{BreaksPutOff}
use Rattle.hay_logical.specs.Fits.{At}
use Rattle.hay_logical.specs.Refusals.{IsUntouchedBy}
use Rattle.hay_logical.specs.ReplicaCalls.{KeepsAbove, KeepsFiles}
use Rattle.hay_logical.specs.declared.unsure.Change.TheVariants.{Delete, Put}
use Rattle.hay_logical.specs.declared.unsure.Unsure.{Unsure}
use Rattle.hay_logical.specs.Volumes.{Volume}
use Rattle.hay_logical.specs.declared.fault.LogicalFault.{LogicalFault}
use Rattle.hay_logical.specs.declared.fault.LogicalFault.TheVariants as refusal
use Rattle.hay_directory.specs.Rows.{OpensRows}
use Rattle.hay_directory.specs.State as directory
use Rattle.hay_directory.specs.declared.fault.DirFault.{DirFault}
use Rattle.hay_directory.specs.declared.fault.DirFault.TheVariants as settling
use Rattle.hay_cluster.specs.Changes.{IsDeleteReply}
use Rattle.hay_cluster.specs.declared.maintenance.Maintenance.{Maintenance}
use Rattle.hay_cluster.specs.declared.maintenance.Maintenance.TheVariants.{Flush, Begin, Step, Finish, Compact}
use Rattle.hay_cluster.specs.Leaving.{AddsRow, AnySlot, ComesToPend, DeleteKeeps, IsApart, IsApartOn, IsBeside, IsReplicaBeside, IsReplicaSlot, KeepsBehind, KeepsHeadOn, KeepsIn}
use Rattle.hay_cluster.specs.Leaving.{LeavesByDelete, LeavesByPut, LeavesByWork, LeavesIn, LeavesReplicas, MayAddRow, MayPut, MayWork, PutKeeps, WorkKeeps}
use Rattle.hay_cluster.specs.Maintenance.{HasSwapped, IsRefusedAs, done_as}
use Rattle.hay_cluster.specs.Seen.{store_seen}
use Rattle.hay_logical.specs.Seen.{DeleteRefusedSeen, FreezesSeen, PutRefusedSeen, VolumeSeen, volume_seen}
use Rattle.hay_cluster.specs.Puts.{IsPutReply, settle_reply}
use Rattle.hay_cluster.specs.Store.{IsShaped, Open, contents_in, disk_of, disks_of, volume_disks}
use Rattle.hay_cluster.proofs.Changing.{replica_machine}
use Rattle.hay_cluster.proofs.ClosingStore.{contents_at, order_item, order_self, volumes_long}
use Rattle.hay_cluster.proofs.Lists.{map-append, map-at, slice_get-set}
use Rattle.hay_cluster.proofs.Moves.{Called, called_shape, length-disks, volume_of, with_directory, with_one}
use Rattle.hay_cluster.proofs.OpeningTaken.{in_volume}
use Rattle.hay_cluster.proofs.Seeing.{seen_at}

-- LISTS

pub leaves-same : {D : Type 0} (Among : ℕ → Type 0) (old new : List D) → new ≡ old → LeavesIn Among old new
leaves-same {D} Among old new same slot among = ap (λ (ds : List D). slice_get ds slot) same

pub leaves-on : {D : Type 0} (Among : ℕ → Type 0) (old mid new : List D) → LeavesIn Among old mid → LeavesIn Among mid new → LeavesIn Among old new
leaves-on Among old mid new first second slot among = second slot among ∙ first slot among

pub leaves-fewer : {D : Type 0} (Among Fewer : ℕ → Type 0) (old new : List D) → ((slot : ℕ) → Fewer slot → Among slot) → LeavesIn Among old new → LeavesIn Fewer old new
leaves-fewer Among Fewer old new more leaves slot few = leaves slot (more slot few)

-- of two lists of one length, before the same items
append-both : {D : Type 0} (as' bs cs : List D) (i : ℕ) → length as' ≡ length bs → (i < length as' → slice_get as' i ≡ slice_get bs i) → slice_get (as' ++ cs) i ≡ slice_get (bs ++ cs) i
append-both [] [] cs i long same = refl
append-both [] (b ∷ bs) cs i long same = absurd (omega (arith, long))
append-both (a ∷ as') [] cs i long same = absurd (omega (arith, long))
append-both (a ∷ as') (b ∷ bs) cs zero long same = same (omega arith)
append-both (a ∷ as') (b ∷ bs) cs (suc i) long same = append-both as' bs cs i (omega (arith, long)) (λ less. same (omega (arith, less)))

append-get : {D : Type 0} (as' bs cs : List D) (i : ℕ) → ((k : ℕ) → i ≡ length as' + k → slice_get bs k ≡ slice_get cs k) → slice_get (as' ++ bs) i ≡ slice_get (as' ++ cs) i
append-get [] bs cs i same = same i (omega arith)
append-get (a ∷ as') bs cs zero same = refl
append-get (a ∷ as') bs cs (suc i) same = append-get as' bs cs i (λ k e. same k (omega (arith, e)))

-- in a list of lists, each so long, one of which was set
flat-set : {X D : Type 0} (g : X → List D) (n : ℕ) (xs : List X) (v : ℕ) (x y : X) (i : ℕ) → AllByRecursion (λ z. length (g z) ≡ n) xs → length (g y) ≡ n → slice_get xs v ≡ Some x
    → ((j : ℕ) → j < n → i ≡ v * n + j → slice_get (g y) j ≡ slice_get (g x) j) → slice_get (flat_map g (slice_set xs v y)) i ≡ slice_get (flat_map g xs) i
flat-set g n [] v x y i all long at same = absurd cc
flat-set g n (z ∷ xs) zero x y i all long at same =
    let is : z ≡ x = cc in
    append-both (g y) (g z) (flat_map g xs) i (let here : length (g z) ≡ n = all.0 in omega (arith, here, long))
    (λ less. same i (omega (arith, less, long)) (omega arith) ∙ ap (λ w. slice_get (g w) i) (sym is))
flat-set g n (z ∷ xs) (suc v) x y i all long at same =
    append-get (g z) (flat_map g (slice_set xs v y)) (flat_map g xs) i
    (λ k e. flat-set g n xs v x y k all.1 long at (λ j less there. same j less (let here : length (g z) ≡ n = all.0 in omega (arith, e, there, here))))

-- the disks of all copies but one stayed
others-get : {D : Type 0} (old new : List (Copy D)) (k j : ℕ) → length new ≡ length old → ((i : ℕ) → (i ≡ k → ⊥) → (r r' : Copy D) → At old i r → At new i r' → r'.disk ≡ r.disk) → j ≢ k
    → slice_get (map disk_of new) j ≡ slice_get (map disk_of old) j
others-get [] [] k j many others apart = refl
others-get [] (r' ∷ new) k j many others apart = absurd (omega (arith, many))
others-get (r ∷ old) [] k j many others apart = absurd (omega (arith, many))
others-get {D} (r ∷ old) (r' ∷ new) k zero many others apart = ap (λ (d : D). Some d) (others 0 apart r r' refl refl)
others-get (r ∷ old) (r' ∷ new) zero (suc j) many others apart =
    others-get old new (suc j) j (omega (arith, many)) (λ i ne s s' at at'. others (suc i) (λ e. absurd (omega (arith, e))) s s' at at') (λ e. absurd (omega (arith, e)))
others-get (r ∷ old) (r' ∷ new) (suc k) (suc j) many others apart =
    others-get old new k j (omega (arith, many)) (λ i ne s s' at at'. others (suc i) (λ e. ne (omega (arith, e))) s s' at at') (λ e. apart (omega (arith, e)))

-- what is read of each copy stayed
copies-read : {D C : Type 0} (f : D → C) (old new : List (Copy D)) → length new ≡ length old → ((j : ℕ) (r r' : Copy D) → At old j r → At new j r' → f r'.disk ≡ f r.disk)
    → map f (map disk_of new) ≡ map f (map disk_of old)
copies-read f [] [] many same = refl
copies-read f [] (r' ∷ new) many same = absurd (omega (arith, many))
copies-read f (r ∷ old) [] many same = absurd (omega (arith, many))
copies-read f (r ∷ old) (r' ∷ new) many same =
    ap (λ c. c ∷ map f (map disk_of new)) (same 0 r r' refl refl)
    ∙ ap (λ cs. f r.disk ∷ cs) (copies-read f old new (omega (arith, many)) (λ j s s' at at'. same (suc j) s s' at at'))

flat-read : {X D C : Type 0} (f : D → C) (g : X → List D) (xs : List X) (v : ℕ) (x y : X) → slice_get xs v ≡ Some x → map f (g y) ≡ map f (g x)
    → map f (flat_map g (slice_set xs v y)) ≡ map f (flat_map g xs)
flat-read f g [] v x y at same = absurd cc
flat-read {X} f g (z ∷ xs) zero x y at same =
    let is : z ≡ x = cc in
    map-append f (g y) (flat_map g xs) ∙ ap (λ cs. cs ++ map f (flat_map g xs)) (same ∙ ap (λ (w : X). map f (g w)) (sym is)) ∙ sym (map-append f (g z) (flat_map g xs))
flat-read f g (z ∷ xs) (suc v) x y at same =
    map-append f (g z) (flat_map g (slice_set xs v y)) ∙ ap (λ cs. map f (g z) ++ cs) (flat-read f g xs v x y at same) ∙ sym (map-append f (g z) (flat_map g xs))

read-at : {D : Type 0} (f : D → List ℕ) (new old : List D) (slot : ℕ) → map f new ≡ map f old → option_map_or f (slice_get new slot) [] ≡ option_map_or f (slice_get old slot) []
read-at f [] [] slot same = refl
read-at f [] (d ∷ old) slot same = absurd cc
read-at f (e ∷ new) [] slot same = absurd cc
read-at f (e ∷ new) (d ∷ old) zero same = cc
read-at f (e ∷ new) (d ∷ old) (suc slot) same = read-at f new old slot cc

-- CALLS OF A PART

module _ {D P A : Type 0} where
  -- one volume has other copies, as many as before
  volume_leaves : (store : Open D P A) (v : ℕ) (before after : Volume D P) → IsShaped store → At store.volumes v before → length after.replicas ≡ length before.replicas
      → (slot : ℕ) → ((j : ℕ) → j < (store.settings).replicas → slot ≡ slot_of store.settings v j → slice_get (volume_disks after) j ≡ slice_get (volume_disks before) j)
      → slice_get (disks_of (with_one store v after)) slot ≡ slice_get (disks_of store) slot
  volume_leaves store v before after shape at many zero same = refl
  volume_leaves store v before after shape at many (suc i) same =
      let was = volume_of store v before shape at in
      let all : length before.replicas ≡ (store.settings).replicas = was.all ∙ ap (λ (s : Settings). s.replicas) was.settings_are in
      let long : length (volume_disks after) ≡ (store.settings).replicas = length-disks after.replicas ∙ many ∙ all in
      flat-set volume_disks (store.settings).replicas store.volumes v before after i (volumes_long store.settings 0 store.volumes shape.volumes) long at
      (λ j less here. same j less (omega (arith, here)))

  -- a volume was called
  pub called_leaves : (old store : Open D P A) (v : ℕ) (before after : Volume D P) → store ≡ old → IsShaped store → At store.volumes v before → length after.replicas ≡ length before.replicas
      → LeavesIn (IsBeside old.settings v) (disks_of old) (disks_of (with_one store v after))
  called_leaves old store v before after is shape at many =
      subst (λ (st : Open D P A). LeavesIn (IsBeside st.settings v) (disks_of st) (disks_of (with_one store v after))) is
      (λ slot beside. volume_leaves store v before after shape at many slot (λ j less here. absurd (beside j less here)))

  -- so was one replica of it, and the disks of its others stayed
  pub called_others : (old store : Open D P A) (v k : ℕ) (before after : Volume D P) → store ≡ old → IsShaped store → At store.volumes v before → length after.replicas ≡ length before.replicas
      → ((i : ℕ) → (i ≡ k → ⊥) → (r r' : Copy D) → At before.replicas i r → At after.replicas i r' → r'.disk ≡ r.disk)
      → LeavesIn (IsApart old.settings v k) (disks_of old) (disks_of (with_one store v after))
  called_others old store v k before after is shape at many others =
      subst (λ (st : Open D P A). LeavesIn (IsApart st.settings v k) (disks_of st) (disks_of (with_one store v after))) is
      (λ slot apart. volume_leaves store v before after shape at many slot
      (λ j less here. others-get before.replicas after.replicas k j many others (λ e. apart (here ∙ ap (λ n. slot_of store.settings v n) e))))

  -- the Directory was called
  directory_others : (store : Open D P A) (after : directory.State D) (slot : ℕ) → IsReplicaSlot slot → slice_get (disks_of (with_directory store after)) slot ≡ slice_get (disks_of store) slot
  directory_others store after zero behind = absurd (behind refl)
  directory_others store after (suc i) behind = refl

  pub directory_leaves : (old store : Open D P A) (after : directory.State D) → store ≡ old → LeavesIn IsReplicaSlot (disks_of old) (disks_of (with_directory store after))
  directory_leaves old store after is =
      subst (λ (st : Open D P A). LeavesIn IsReplicaSlot (disks_of st) (disks_of (with_directory store after))) is (directory_others store after)

  pub directory_same : (old store : Open D P A) (after : directory.State D) → store ≡ old → after.disk ≡ (store.directory).disk → disks_of (with_directory store after) ≡ disks_of old
  directory_same old store after is same =
      ap (λ (d : D). d ∷ flat_map volume_disks store.volumes) same ∙ ap (λ (st : Open D P A). disks_of st) is

-- WHAT READS GIVE

module _ {D P A : Type 0} (files : D → Files) where
  pub leaves_contents : (settings : Settings) (Among : ℕ → Type 0) (old new : Open D P A) → LeavesIn Among (disks_of old) (disks_of new)
      → KeepsIn settings Among (contents_in files old) (contents_in files new)
  leaves_contents settings Among old new leaves slot file within among =
      ap (λ (o : Option D). option_map_or (λ disk. (files disk file).now) o []) (leaves slot among)

  pub same_contents : (settings : Settings) (old new : Open D P A) → disks_of new ≡ disks_of old → KeepsIn settings AnySlot (contents_in files old) (contents_in files new)
  same_contents settings old new same = leaves_contents settings AnySlot old new (leaves-same AnySlot (disks_of old) (disks_of new) same)

  -- the Directory's disk has what it had
  directory_keeps : (store : Open D P A) (after : directory.State D) → files after.disk ≡ files (store.directory).disk → (slot file : ℕ)
      → contents_in files (with_directory store after) slot file ≡ contents_in files store slot file
  directory_keeps store after same zero file = ap (λ (f : Files). (f file).now) same
  directory_keeps store after same (suc i) file = refl

  pub directory_contents : (settings : Settings) (old store : Open D P A) (after : directory.State D) → store ≡ old → files after.disk ≡ files (store.directory).disk
      → KeepsIn settings AnySlot (contents_in files old) (contents_in files (with_directory store after))
  directory_contents settings old store after is same =
      subst (λ (st : Open D P A). KeepsIn settings AnySlot (contents_in files st) (contents_in files (with_directory store after))) is
      (λ slot file within any. directory_keeps store after same slot file)

  -- each disk of a volume has what it had
  pub called_reads : (settings : Settings) (old store : Open D P A) (v : ℕ) (before after : Volume D P) → store ≡ old → At store.volumes v before → length after.replicas ≡ length before.replicas
      → ((j : ℕ) (r r' : Copy D) (n : ℕ) → At before.replicas j r → At after.replicas j r' → (files r'.disk n).now ≡ (files r.disk n).now)
      → KeepsIn settings AnySlot (contents_in files old) (contents_in files (with_one store v after))
  called_reads settings old store v before after is at many same =
      subst (λ (st : Open D P A). KeepsIn settings AnySlot (contents_in files st) (contents_in files (with_one store v after))) is
      (λ slot file within any. let f : D → List ℕ = λ disk. (files disk file).now in
      read-at f (disks_of (with_one store v after)) (disks_of store) slot
      (ap (λ cs. f (store.directory).disk ∷ cs)
      (flat-read f volume_disks store.volumes v before after at
      (copies-read f before.replicas after.replicas many (λ j r r' was now. same j r r' file was now)))))

  pub called_keeps : (DiskTells : Type 0) (settings : Settings) (old store : Open D P A) (v : ℕ) (before after : Volume D P) → DiskTells → store ≡ old → At store.volumes v before
      → length after.replicas ≡ length before.replicas → KeepsFiles DiskTells files before.replicas after.replicas
      → KeepsIn settings AnySlot (contents_in files old) (contents_in files (with_one store v after))
  called_keeps DiskTells settings old store v before after tells is at many keeps =
      called_reads settings old store v before after is at many (λ j r r' n was now. (keeps tells j r r' was now).now n)

  -- a volume that a call left as it was
  pub called_same : (settings : Settings) (old store : Open D P A) (v : ℕ) (before after : Volume D P) → store ≡ old → At store.volumes v before → after ≡ before
      → KeepsIn settings AnySlot (contents_in files old) (contents_in files (with_one store v after))
  called_same settings old store v before after is at same =
      called_reads settings old store v before after is at (ap (λ (w : Volume D P). length w.replicas) same)
      (λ j r r' n was now. let there : At before.replicas j r' = subst (λ (w : Volume D P). At w.replicas j r') same now in
      let one : Some r ≡ Some r' = sym was ∙ there in ap (λ (q : Copy D). (files q.disk n).now) (let both : r' ≡ r = cc in both))

-- DISKS BEHIND ONE THAT FAILED

module _ {D P A : Type 0} (DiskTells : Type 0) (files : D → Files) (faults fuses : D → ℕ) where
  behind_in : DiskTells → (store : Open D P A) (v : ℕ) (before after : Volume D P) → IsShaped store → Called faults fuses store v before after → (m : ℕ)
      → KeepsAbove DiskTells files before.settings before.number m before.replicas after.replicas
      → KeepsBehind store.settings v m (contents_in files store) (contents_in files (with_one store v after))
  behind_in tells store v before after shape called m above = λ i j file there behind within.
      let next = with_one store v after in
      let shape' = called_shape faults fuses store v before after shape called in
      let was = volume_of store v before shape called.at in
      let many : length before.replicas ≡ (store.settings).replicas = was.all ∙ ap (λ (s : Settings). s.replicas) was.settings_are in
      let count : length after.replicas ≡ length before.replicas = called.counts.count in
      let r = order_item before.replicas j (let less : j < length before.replicas = omega (arith, within, many) in less) in
      let r' = order_item after.replicas j (let less : j < length after.replicas = omega (arith, within, many, count) in less) in
      let low : i < (store.settings).replicas = omega (arith, behind, within) in
      let low' : i < (before.settings).replicas = subst (λ (s : Settings). i < s.replicas) (sym was.settings_are) low in
      let machine : m ≡ machine_of before.settings before.number i =
      sym (replica_machine store.settings v m i there) ∙ ap (λ n. machine_of store.settings n i) (sym was.number) ∙ ap (λ (s : Settings). machine_of s before.number i) (sym was.settings_are) in
      let keeps : (files (r'.0).disk file).now ≡ (files (r.0).disk file).now = (above tells i j low' machine behind r.0 r'.0 r.1 r'.1).now file in
      let at : slice_get (disks_of store) (slot_of store.settings v j) ≡ Some (r.0).disk =
      in_volume (λ n disk. slice_get (disks_of store) n ≡ Some disk) store v j before r.0 shape called.at r.1 (order_self (disks_of store)) in
      let at' : slice_get (disks_of next) (slot_of store.settings v j) ≡ Some (r'.0).disk =
      in_volume (λ n disk. slice_get (disks_of next) n ≡ Some disk) next v j after r'.0 shape' (slice_get-set store.volumes v before after called.at) r'.1 (order_self (disks_of next)) in
      ap (λ (c : Contents). c file) (contents_at files next (slot_of store.settings v j) (r'.0).disk at') ∙ keeps
      ∙ sym (ap (λ (c : Contents). c file) (contents_at files store (slot_of store.settings v j) (r.0).disk at))

  -- a change never reached the replicas behind the one that failed
  pub called_behind : DiskTells → (old store : Open D P A) (v : ℕ) (before after : Volume D P) → store ≡ old → IsShaped store → Called faults fuses store v before after → (m : ℕ)
      → KeepsAbove DiskTells files before.settings before.number m before.replicas after.replicas → KeepsBehind old.settings v m (contents_in files old) (contents_in files (with_one store v after))
  called_behind tells old store v before after is shape called m above =
      subst (λ (st : Open D P A). KeepsBehind st.settings v m (contents_in files st) (contents_in files (with_one store v after))) is (behind_in tells store v before after shape called m above)

-- a change that froze its volume is pending
pub comes_to_pend : {D P A : Type 0} (old store : Open D P A) (v : ℕ) (before after : Volume D P) (m : ℕ) (change : Unsure) → store ≡ old → At store.volumes v before
    → FreezesSeen m (Some change) (volume_seen before) (volume_seen after) → ComesToPend v (store_seen old).volumes (store_seen (with_one store v after)).volumes
comes_to_pend old store v before after m change is at freezes = record {
  before = volume_seen before;
  after = volume_seen after;
  was = seen_at old store is v before at;
  is = map-at volume_seen (slice_set store.volumes v after) v after (slice_get-set store.volumes v before after at);
  settled = freezes.settled;
  change = change;
  pends = freezes.unsure;
}

-- PUTS AND DELETES

pub keeps-on : (settings : Settings) (Among : ℕ → Type 0) (old mid new : ℕ → Contents) → KeepsIn settings Among old mid → KeepsIn settings Among mid new → KeepsIn settings Among old new
keeps-on settings Among old mid new first second slot file within among = second slot file within among ∙ first slot file within among

pub keeps-all : (settings : Settings) (Among : ℕ → Type 0) (old : ℕ → Contents) → KeepsIn settings Among old old
keeps-all settings Among old slot file within among = refl

pub keeps-fewer : (settings : Settings) (Among : ℕ → Type 0) (old new : ℕ → Contents) → KeepsIn settings AnySlot old new → KeepsIn settings Among old new
keeps-fewer settings Among old new keeps slot file within among = keeps slot file within tt

-- What a refusal leaves, by whether the change is pending.
module _ (settings : Settings) (v : ℕ) (pending pending' : List VolumeSeen) (old new : ℕ → Contents) (tag : CoreTag) (before after : VolumeSeen)
    (keeps : after.unsure ≡ before.unsure → KeepsIn settings AnySlot old new)
    (pends : (m : ℕ) (change : Unsure) → FreezesSeen m (Some change) before after → ComesToPend v pending pending') where
  abbrev Behind : LogicalFault → Type 0
  Behind fault = (m f : ℕ) → fault ≡ refusal.Failed m f → KeepsBehind settings v m old new

  same_kept : after ≡ before → KeepsIn settings AnySlot old new
  same_kept same = keeps (ap (λ (s : VolumeSeen). s.unsure) same)

  pub put_keeps : (called : Settings) (number size : ℕ) (fault : LogicalFault) → PutRefusedSeen called number tag size before after fault → Behind fault
      → PutKeeps settings v pending pending' old new fault
  put_keeps called number size (refusal.Failed m f) refused behind = behind m f refl
  put_keeps called number size refusal.NoMemory (inl same) behind = inr (same_kept same.1)
  put_keeps called number size refusal.NoMemory (inr breaks) behind =
      inl (pends (machine_of called number 0) (record { tag = tag; change = Put breaks.ends }) breaks.freezes)
  put_keeps called number size (refusal.ReadOnly m) refused behind = same_kept refused.0
  put_keeps called number size (refusal.Full m end need capacity) refused behind = same_kept refused.0
  put_keeps called number size (refusal.Gone front) refused behind = absurd refused
  put_keeps called number size (refusal.Busy m generation) refused behind = absurd refused
  put_keeps called number size (refusal.Worn m) refused behind = absurd refused
  put_keeps called number size refusal.Idle refused behind = absurd refused
  put_keeps called number size (refusal.Damaged m at) refused behind = absurd refused

  pub delete_keeps : (pair : Pair) (fault : LogicalFault) → DeleteRefusedSeen tag pair before after fault → Behind fault → DeleteKeeps settings v pending pending' old new fault
  delete_keeps pair (refusal.Failed m f) (inl same) behind = inr (same_kept same.1)
  delete_keeps pair (refusal.Failed m f) (inr freezes) behind = inl (pends m (record { tag = tag; change = Delete pair }) freezes, behind m f refl)
  delete_keeps pair refusal.NoMemory refused behind = same_kept refused.1
  delete_keeps pair (refusal.ReadOnly m) refused behind = same_kept refused.0
  delete_keeps pair (refusal.Gone front) refused behind = same_kept (refused.0).1
  delete_keeps pair (refusal.Damaged m at) refused behind = same_kept refused.1
  delete_keeps pair (refusal.Full m end need capacity) refused behind = absurd refused
  delete_keeps pair (refusal.Busy m generation) refused behind = absurd refused
  delete_keeps pair (refusal.Worn m) refused behind = absurd refused
  delete_keeps pair refusal.Idle refused behind = absurd refused

-- THE REPLIES OF PUTS AND DELETES

module _ (settings : Settings) (before after : List VolumeSeen) (old new : ℕ → Contents) where
  pub put_leaves : (v : ℕ) (fault : LogicalFault) (said : Reply) → IsPutReply v fault said → KeepsIn settings (IsReplicaBeside settings v) old new → PutKeeps settings v before after old new fault
      → LeavesReplicas settings said before after old new
  put_leaves v (refusal.Failed m f) said is beside keeps = inl (v, inr (inl (m, f, is, keeps)), beside)
  put_leaves v (refusal.ReadOnly m) said is beside keeps = inr (keeps-fewer settings IsReplicaSlot old new keeps)
  put_leaves v (refusal.Full m end need capacity) said is beside keeps = inr (keeps-fewer settings IsReplicaSlot old new keeps)
  put_leaves v refusal.NoMemory said is beside (inl pends) = inl (v, inr (inr (is, pends)), beside)
  put_leaves v refusal.NoMemory said is beside (inr keeps) = inr (keeps-fewer settings IsReplicaSlot old new keeps)
  put_leaves v (refusal.Gone front) said is beside keeps = absurd is
  put_leaves v (refusal.Busy m generation) said is beside keeps = absurd is
  put_leaves v (refusal.Worn m) said is beside keeps = absurd is
  put_leaves v refusal.Idle said is beside keeps = absurd is
  put_leaves v (refusal.Damaged m at) said is beside keeps = absurd is

  -- a put whose pair got no home
  pub unsettled_leaves : (pair : Pair) (fault : DirFault) (said : Reply) → said ≡ settle_reply fault → KeepsIn settings IsReplicaSlot old new → AddsRow settings pair (old 0) (new 0)
      → (fault ≡ settling.Frozen → new 0 ≡ old 0) → LeavesByPut settings pair said before after old new
  unsettled_leaves pair settling.Frozen said is replicas adds frozen = record { replicas = inr replicas; rows = inr (frozen refl) }
  unsettled_leaves pair settling.NoMemory said is replicas adds frozen = record { replicas = inr replicas; rows = inl (inr (inr (inr is)), adds) }
  unsettled_leaves pair (settling.Failed faults) said is replicas adds frozen = record { replicas = inr replicas; rows = inl (inr (inr (inl (faults, is))), adds) }

  pub delete_leaves : (v rows : ℕ) (fault : LogicalFault) (said : Reply) → IsDeleteReply v rows fault said → KeepsIn settings (IsBeside settings v) old new
      → DeleteKeeps settings v before after old new fault
      → LeavesByDelete settings said before after old new
  delete_leaves v rows (refusal.Failed m f) said is beside (inl (pends, behind)) = inl (v, inr (m, f, is, pends, behind), beside)
  delete_leaves v rows (refusal.Failed m f) said is beside (inr keeps) = inr keeps
  delete_leaves v rows (refusal.Gone front) said is beside keeps = inr keeps
  delete_leaves v rows (refusal.ReadOnly m) said is beside keeps = inr keeps
  delete_leaves v rows refusal.NoMemory said is beside keeps = inr keeps
  delete_leaves v rows (refusal.Damaged m at) said is beside keeps = inr keeps
  delete_leaves v rows (refusal.Full m end need capacity) said is beside keeps = absurd is
  delete_leaves v rows (refusal.Busy m generation) said is beside keeps = absurd is
  delete_leaves v rows (refusal.Worn m) said is beside keeps = absurd is
  delete_leaves v rows refusal.Idle said is beside keeps = absurd is

-- a put that a volume took may have added a row
pub put_adds : (v : ℕ) (fault : LogicalFault) (said : Reply) → IsPutReply v fault said → BreaksPutOff fault → MayAddRow said
put_adds v (refusal.Failed m f) said is breaks = inr (inl (v, m, f, is))
put_adds v refusal.NoMemory said is breaks = inr (inr (inr is))
put_adds v (refusal.ReadOnly m) said is breaks = absurd breaks
put_adds v (refusal.Full m end need capacity) said is breaks = absurd breaks
put_adds v (refusal.Gone front) said is breaks = absurd breaks
put_adds v (refusal.Busy m generation) said is breaks = absurd breaks
put_adds v (refusal.Worn m) said is breaks = absurd breaks
put_adds v refusal.Idle said is breaks = absurd breaks
put_adds v (refusal.Damaged m at) said is breaks = absurd breaks

-- a put that changed nothing
pub nothing_put : (settings : Settings) (pair : Pair) (said : Reply) (before after : List VolumeSeen) (old : ℕ → Contents) → LeavesByPut settings pair said before after old old
nothing_put settings pair said before after old = record { replicas = inr (keeps-all settings IsReplicaSlot old); rows = inr refl }

-- WORK ON A REPLICA

module _ (settings : Settings) (v m : ℕ) (old new : ℕ → Contents) where
  work_may : (work : Maintenance) (n : ℕ) (said : Reply) → said ≡ done_as v m work n → MayWork said
  work_may Flush n said is = inl (v, m, n, inl is)
  work_may Begin n said is = inl (v, m, n, inr (inl is))
  work_may (Step cells) n said is = inl (v, m, n, inr (inr (inl is)))
  work_may Finish n said is = inl (v, m, n, inr (inr (inr (inl is))))
  work_may Compact n said is = inl (v, m, n, inr (inr (inr (inl is))))

  -- the files were swapped, as it is answered
  swapped_as : (work : Maintenance) (n : ℕ) (said : Reply) → said ≡ done_as v m work n → HasSwapped work (Ok n) → (generation : ℕ) × (said ≡ reply.Compacted v m generation)
  swapped_as Flush n said is swapped = absurd swapped
  swapped_as Begin n said is swapped = absurd swapped
  swapped_as (Step cells) n said is swapped = absurd swapped
  swapped_as Finish n said is swapped = (n, is)
  swapped_as Compact n said is swapped = (n, is)

  not_swapped : (work : Maintenance) (fault : LogicalFault) → HasSwapped work (Err fault) → ⊥
  not_swapped Flush fault swapped = swapped
  not_swapped Begin fault swapped = swapped
  not_swapped (Step cells) fault swapped = swapped
  not_swapped Finish fault swapped = swapped
  not_swapped Compact fault swapped = swapped

  -- or the head stays
  pub head_leaves : (work : Maintenance) (result : Result ℕ LogicalFault) (said : Reply) (after : List VolumeSeen) (j : ℕ) → replica_on settings v m ≡ Some j
      → ((n : ℕ) → result ≡ Ok n → said ≡ done_as v m work n)
      → ((volume : VolumeSeen) → At after v volume → volume.frozen ≡ None → HasSwapped work result ⊎ (new (slot_of settings v j) 0 ≡ old (slot_of settings v j) 0))
      → KeepsHeadOn settings v m said after old new
  head_leaves work (Ok n) said after j on says head volume i there thawed found = elim (head volume there thawed) [
    | inl swapped ↦ inl (swapped_as work n said (says n refl) swapped)
    | inr same ↦ inr (subst (λ k. new (slot_of settings v k) 0 ≡ old (slot_of settings v k) 0) (same_Some j i (sym on ∙ found)) same)
  ]
  head_leaves work (Err fault) said after j on says head volume i there thawed found = elim (head volume there thawed) [
    | inl swapped ↦ absurd (not_swapped work fault swapped)
    | inr same ↦ inr (subst (λ k. new (slot_of settings v k) 0 ≡ old (slot_of settings v k) 0) (same_Some j i (sym on ∙ found)) same)
  ]

  pub done_leaves : (work : Maintenance) (n : ℕ) (said : Reply) (after : List VolumeSeen) → said ≡ done_as v m work n → KeepsIn settings (IsApartOn settings v m) old new
      → KeepsHeadOn settings v m said after old new
      → LeavesByWork settings v m said after old new
  done_leaves work n said after is apart head = inl (work_may work n said is, apart, head)

  pub refused_leaves : (fault : LogicalFault) (said : Reply) (after : List VolumeSeen) → IsRefusedAs v m fault said → KeepsIn settings (IsApartOn settings v m) old new
      → KeepsHeadOn settings v m said after old new
      → WorkKeeps settings old new fault → LeavesByWork settings v m said after old new
  refused_leaves (refusal.Failed m' f) said after is apart head keeps = inl (inl (v, m', f, inr (inr (inr (inr (inl is))))), apart, head)
  refused_leaves (refusal.Damaged m' at) said after is apart head keeps = inl (inl (v, m', at, inr (inr (inr (inr (inr is))))), apart, head)
  refused_leaves refusal.NoMemory said after is apart head keeps = inl (inr is, apart, head)
  refused_leaves (refusal.ReadOnly m') said after is apart head keeps = inr keeps
  refused_leaves (refusal.Busy m' generation) said after is apart head keeps = inr keeps
  refused_leaves (refusal.Worn m') said after is apart head keeps = inr keeps
  refused_leaves refusal.Idle said after is apart head keeps = inr keeps
  refused_leaves (refusal.Full m' end need capacity) said after is apart head keeps = absurd is
  refused_leaves (refusal.Gone front) said after is apart head keeps = absurd is

-- it was refused before anything was done
pub work_keeps : (settings : Settings) (old new : ℕ → Contents) (fault : LogicalFault) → (IsUntouchedBy fault → KeepsIn settings AnySlot old new) → WorkKeeps settings old new fault
work_keeps settings old new (refusal.ReadOnly m) keeps = keeps tt
work_keeps settings old new (refusal.Busy m generation) keeps = keeps tt
work_keeps settings old new (refusal.Worn m) keeps = keeps tt
work_keeps settings old new refusal.Idle keeps = keeps tt
work_keeps settings old new (refusal.Failed m f) keeps = tt
work_keeps settings old new (refusal.Damaged m at) keeps = tt
work_keeps settings old new refusal.NoMemory keeps = tt
work_keeps settings old new (refusal.Full m end need capacity) keeps = tt
work_keeps settings old new (refusal.Gone front) keeps = tt

-- THE DIRECTORY'S ROWS

module _ {D P A : Type 0} (files : D → Files) where
  -- a store reads of slot 0 what its directory's disk has
  pub directory_adds : (settings : Settings) (pair : Pair) (v : ℕ) (old store : Open D P A) (after : directory.State D) → store ≡ old → v < settings.volumes
      → ((rows : List HomeRow) → OpensRows settings (λ n. (files (store.directory).disk n).now) rows
      → OpensRows settings (λ n. (files after.disk n).now) rows ⊎ OpensRows settings (λ n. (files after.disk n).now) (rows ++ record { pair = pair; volume = v } ∷ []))
      → AddsRow settings pair (contents_in files old 0) (contents_in files (with_directory store after) 0)
  directory_adds settings pair v old store after is within adds = λ rows opens.
      elim (adds rows (subst (λ (st : Open D P A). OpensRows settings (contents_in files st 0) rows) (sym is) opens)) [
        | inl same ↦ inl same
        | inr more ↦ inr (v, within, more)
      ]

  -- a call that leaves the Directory's disk leaves what it has
  pub same_first : (old new : Open D P A) → disks_of new ≡ disks_of old → contents_in files new 0 ≡ contents_in files old 0
  same_first old new same = ap (λ (ds : List D). let read : Contents = λ file. option_map_or (λ disk. (files disk file).now) (slice_get ds 0) [] in read) same

  pub first_contents : (settings : Settings) (v : ℕ) (old new : Open D P A) → LeavesIn (IsBeside settings v) (disks_of old) (disks_of new) → contents_in files new 0 ≡ contents_in files old 0
  first_contents settings v old new leaves =
      ap (λ (o : Option D). let read : Contents = λ file. option_map_or (λ disk. (files disk file).now) o [] in read) (leaves 0 (λ j less same. absurd (omega (arith, same))))

  pub leaves_reads : (Among : ℕ → Type 0) (old new : Open D P A) → LeavesIn Among (disks_of old) (disks_of new) → (slot file : ℕ) → Among slot
      → contents_in files new slot file ≡ contents_in files old slot file
  leaves_reads Among old new leaves slot file among = ap (λ (o : Option D). option_map_or (λ disk. (files disk file).now) o []) (leaves slot among)

-- A change of the Directory before a put changes no replica.
module _ (settings : Settings) (before after : List VolumeSeen) (old mid new : ℕ → Contents) (said : Reply) (first : (slot file : ℕ) → IsReplicaSlot slot → mid slot file ≡ old slot file) where
  put_later : (v : ℕ) → MayPut said before after mid new settings v → MayPut said before after old new settings v
  put_later v (inl stored) = inl stored
  put_later v (inr (inl (m, f, is, behind))) =
      inr (inl (m, f, is, λ i j file there less within. behind i j file there less within ∙ first (slot_of settings v j) file (λ place. absurd (omega (arith, place)))))
  put_later v (inr (inr pends)) = inr (inr pends)

  pub replicas_after : LeavesReplicas settings said before after mid new → LeavesReplicas settings said before after old new
  replicas_after (inr keeps) = inr (λ slot file low far. keeps slot file low far ∙ first slot file far)
  replicas_after (inl (v, may, beside)) = inl (v, put_later v may, (λ slot file low far. beside slot file low far ∙ first slot file far.0))
