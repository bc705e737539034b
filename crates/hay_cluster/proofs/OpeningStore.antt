-- What stops and openings make of a store.
use Rattle.std.proofs.Common.{◌≡◌, ℕ, zero, suc, ◌+◌, ◌<◌, ◌≤◌, inl, inr, Bool, true, false, List, [], ◌∷◌, ◌++◌, length, map, replicate, Option, None, refl, sym, ap, subst, ◌∙◌, arith}
use Rattle.std.proofs.Math.Nat.{mul-le-mul_left}
use Rattle.std.proofs.lemmas.Option.{slice_get_within}
use Rattle.std.specs.Prelude.{slice_index, slice_index_or}
use Rattle.std.specs.List.{AllByRecursion, AllZip, flat_map}
use Rattle.hay_needle.specs.declared.settings.Settings.{Settings}
use Rattle.hay_needle.specs.Tables.{Table}
use Rattle.hay_reply.specs.declared.Note.{Note}
use Rattle.hay_core.specs.declared.entry.Entry.{Entry}
use Rattle.hay_core.specs.declared.entry.Logged.{Logged}
use Rattle.hay_core.specs.Entries.{after, entries_of}
use Rattle.hay_disk.specs.Counts.{Rose}
use Rattle.hay_disk.specs.Disk.{Files}
use Rattle.hay_mount.specs.Mounts.{InOrder}
use Rattle.hay_open.specs.declared.fault.OpenFault.{OpenFault}
use Rattle.hay_open.specs.declared.fault.OpenFault.TheVariants as opening
use Rattle.hay_legal.specs.declared.known.Known.{Known}
use Rattle.hay_legal.specs.declared.known.Pending.{Pending}
use Rattle.hay_legal.specs.declared.known.ReplicaKnown.{ReplicaKnown}
use Rattle.hay_legal.specs.declared.known.VolumeKnown.{VolumeKnown}
use Rattle.hay_legal.specs.Known.{NoneFalls, disk_count, empty_replica, slot_of}
use Rattle.hay_legal.specs.Restarts.{IsRestarted, ReopenedReplica, ReopenedReplicas, ReopenedVolume, BareIs, directory_with, kept_entry, kept_row, is_kept, undrained, volume_notes}
use Rattle.hay_legal.specs.Stands.{Contents, Found, VolumeOutcome, found_of}
use Rattle.hay_directory.specs.State as directory
use Rattle.hay_logical.specs.Fits.{At, IsReplica}
use Rattle.hay_logical.specs.Stands.{Stopped}
use Rattle.hay_logical.specs.Stands as logical
use Rattle.hay_logical.specs.ReplicaCalls.{IsOpenFault}
use Rattle.hay_logical.specs.Volumes.{HasSupers, IsOfSettings, Volume}
use Rattle.hay_logical.specs.Volumes as volumes
use Rattle.hay_cluster.specs.declared.fault.ClusterFault.{ClusterFault}
use Rattle.hay_cluster.specs.declared.fault.ClusterFault.TheVariants.{Shelf, Failed, Damaged, NoMemory}
use Rattle.hay_cluster.specs.Causes.{HasFaultCause}
use Rattle.hay_cluster.specs.Faults.{not_opened}
use Rattle.hay_cluster.specs.Opening.{Gathers, IsLeft, LeavesDirectory, LeavesVolume, OpensParts, OpensVolume, RefusesDirectory, RefusesParts, StopsDirectory, StopsVolume}
use Rattle.hay_cluster.specs.State.{DirectoryHolds, Holds, LeftAt, Stands, VolumeHolds}
use Rattle.hay_cluster.specs.Store.{IsBuilt, IsShaped, IsVolumeOf, Open, disks_of, volume_disks}
use Rattle.hay_cluster.proofs.Lists.{AllZip-long}
use Rattle.hay_cluster.proofs.Moves.{count_at, volume_of}
use Rattle.hay_cluster.proofs.OpeningDirectory.{left_holds, stopped_rows}
use Rattle.hay_cluster.proofs.OpeningLower.{volume_outcome, volume_stands}
use Rattle.hay_cluster.proofs.OpeningVolumes.{moved_fuses, moved_later, moved_shape, reopened_each, stopped_each, stopped_faults, stopped_fuses, stopped_shape}

-- OPENED AGAIN

abbrev found_by : Table → ℕ → ℕ → ℕ → ℕ → Found
found_by table end cells bare generation = record { table = table; end = end; cells = cells; bare = bare; generation = generation }

entries_none : (pending : Option Pending) (kept : Bool) → pending ≡ None → kept_entry pending kept ≡ []
entries_none pending kept is = ap (λ (p : Option Pending). kept_entry p kept) is ∙ none kept
  where
    none : (k : Bool) → kept_entry None k ≡ []
    none true = refl
    none false = refl

table_none : (log : List Logged) (base : Table) → log ≡ [] → after (entries_of log) (length log) base ≡ base
table_none log base is = ap (λ (l : List Logged). after (entries_of l) (length l) base) is

-- a replica that was opened is found as it is
replica_same : (k t : VolumeKnown) (old new next : ReplicaKnown) (entries more : List Entry) → t.log ≡ [] → more ≡ [] → ReopenedReplica k old entries new
    → ReopenedReplica t new more next → found_of next ≡ found_of new
replica_same k t old new next entries more log none first second =
    let again : ReopenedReplica t new [] next = subst (λ l. ReopenedReplica t new l next) none second in
    let table : next.base ≡ new.base = again.base ∙ table_none t.log new.base log in
    elim again.stands [
      | inl was ↦
          let end : next.end ≡ new.end = omega (arith, was.end) in
          let cells : next.cells ≡ new.cells = omega (arith, was.cells) in
          let sizes : BareIs false (new.bare + 0) next.bare = subst (λ b. BareIs b (new.bare + 0) next.bare) first.loose was.bare in
          let bare : next.bare ≡ new.bare = omega (arith, sizes) in
          ap (λ x. found_by x next.end next.cells next.bare next.generation) table ∙ ap (λ x. found_by new.base x next.cells next.bare next.generation) end
          ∙ ap (λ x. found_by new.base new.end x next.bare next.generation) cells ∙ ap (λ x. found_by new.base new.end new.cells x next.generation) bare
          ∙ ap (λ x. found_by new.base new.end new.cells new.bare x) was.generation
      | inr swapped ↦ let both : true ≡ false = sym swapped.poised ∙ first.settled in absurd cc
    ]

found_same : (k t : VolumeKnown) (kept again : List Bool) (i : ℕ) (olds news nexts : List ReplicaKnown) → t.log ≡ [] → t.pending ≡ None → ReopenedReplicas k kept i olds news
    → ReopenedReplicas t again i news nexts
    → (j : ℕ) → found_of (slice_index_or nexts j empty_replica) ≡ found_of (slice_index_or news j empty_replica)
found_same k t kept again i [] [] [] log none first second j = refl
found_same k t kept again i [] [] (next ∷ nexts) log none first second j = absurd second
found_same k t kept again i [] (new ∷ news) nexts log none first second j = absurd first
found_same k t kept again i (old ∷ olds) [] nexts log none first second j = absurd first
found_same k t kept again i (old ∷ olds) (new ∷ news) [] log none first second j = absurd second
found_same k t kept again i (old ∷ olds) (new ∷ news) (next ∷ nexts) log none first second zero =
    replica_same k t old new next (kept_entry k.pending (is_kept kept i)) (kept_entry t.pending (is_kept again i)) log (entries_none t.pending (is_kept again i) none) first.0 second.0
found_same k t kept again i (old ∷ olds) (new ∷ news) (next ∷ nexts) log none first second (suc j) = found_same k t kept again (i + 1) olds news nexts log none first.1 second.1 j

-- what a second restart finds of a volume is what the first one found
again_outcome : (replica : ℕ → ℕ → Contents → Found → Type 0) (settings : Settings) (v : ℕ) (k t : VolumeKnown) (kept : List Bool) (image : ℕ → Contents)
    → ReopenedVolume settings v k kept t → VolumeOutcome replica settings v t image
    → VolumeOutcome replica settings v k image
again_outcome replica settings v k t kept image first outcome = record {
  kept = kept;
  opened = t;
  reopened = first;
  found = λ j within. subst (λ f. replica v j (image j) f)
      (found_same k t kept outcome.kept 0 k.replicas t.replicas outcome.opened.replicas first.log first.pending first.replicas outcome.reopened.replicas j) (outcome.found j within);
}

-- settings of a volume of a store
pub of_settings : {D P : Type 0} (settings : Settings) (v : ℕ) (volume : Volume D P) → IsBuilt settings → v < settings.volumes → IsVolumeOf settings v volume
    → IsOfSettings volume.settings volume.number
of_settings settings v volume built within is =
    subst (λ (s : Settings). IsOfSettings s volume.number) (sym is.settings_are)
    (subst (λ n. IsOfSettings settings n) (sym is.number)
    (record { some = built.some_replicas; most = built.few_replicas; fits = built.no_more_replicas; volumes = built.few_volumes; within = within }))

module _ {D P : Type 0} (files : D → Files) (Tells : Type 0) where
  left_outcome : (volume : Volume D P) (k : VolumeKnown) → IsOfSettings volume.settings volume.number → HasSupers volume → IsLeft files Tells k volume → VolumeHolds files volume k
  left_outcome volume k fits sups (inl holds) = volume_outcome files volume k fits sups holds
  left_outcome volume k fits sups (inr (notes, reopened)) = λ image may.
      again_outcome (IsReplica volume.settings) volume.settings volume.number k reopened.opened reopened.kept image reopened.reopened
      (volume_outcome files volume reopened.opened fits sups (volume_stands files Tells volume reopened.opened reopened.stands) image may)

  pub stands_outcome : (volume : Volume D P) (k : VolumeKnown) → IsOfSettings volume.settings volume.number → HasSupers volume → logical.Stands files Tells volume k → VolumeHolds files volume k
  stands_outcome volume k fits sups stands = volume_outcome files volume k fits sups (volume_stands files Tells volume k stands)

-- EACH VOLUME HOLDS WHAT IS KNOWN

module _ {D P : Type 0} (DiskTells : Type 0) (files : D → Files) (Tells : Type 0) (faults fuses : D → ℕ) where
  pub left_each : DiskTells → (settings : Settings) (v : ℕ) (xs ys : List (Volume D P)) (ks : List VolumeKnown) → IsBuilt settings → v + length ys ≤ settings.volumes
      → InOrder (IsVolumeOf settings) v ys
      → AllZip (LeavesVolume DiskTells files Tells faults fuses) xs ys → AllZip (Stopped files) xs ks → AllZip (VolumeHolds files) ys ks
  left_each tells settings v [] [] [] built few order all stopped = tt
  left_each tells settings v [] [] (k ∷ ks) built few order all stopped = absurd stopped
  left_each tells settings v [] (y ∷ ys) ks built few order all stopped = absurd all
  left_each tells settings v (x ∷ xs) [] ks built few order all stopped = absurd all
  left_each tells settings v (x ∷ xs) (y ∷ ys) [] built few order all stopped = absurd stopped
  left_each tells settings v (x ∷ xs) (y ∷ ys) (k ∷ ks) built few order all stopped =
      let within : v < settings.volumes = omega (arith, few) in
      let less : v + 1 + length ys ≤ settings.volumes = omega (arith, few) in (
        left_outcome files Tells y k (of_settings settings v y built within order.0) order.0.sups (all.0.left tells k stopped.0),
        left_each tells settings (v + 1) xs ys ks built less order.1 all.1 stopped.1,
      )

  pub opens_up : (xs ys : List (Volume D P)) (notes : List Note) → Gathers (OpensVolume DiskTells files Tells faults fuses) xs ys notes → AllByRecursion volumes.IsOpenVolume ys
  opens_up [] [] notes g = tt
  opens_up [] (y ∷ ys) notes g = absurd g
  opens_up (x ∷ xs) [] notes g = absurd g
  opens_up (x ∷ xs) (y ∷ ys) notes g = (g.first.up, opens_up xs ys g.behind g.rest)

  pub stops_closed : (xs ys : List (Volume D P)) → AllZip (StopsVolume DiskTells files Tells faults fuses) xs ys → AllByRecursion volumes.IsClosed ys
  stops_closed [] [] all = tt
  stops_closed [] (y ∷ ys) all = absurd all
  stops_closed (x ∷ xs) [] all = absurd all
  stops_closed (x ∷ xs) (y ∷ ys) all = (all.0.closed, stops_closed xs ys all.1)

  pub stops_idle : DiskTells → (xs ys : List (Volume D P)) → AllZip (StopsVolume DiskTells files Tells faults fuses) xs ys → AllByRecursion (logical.IsIdleVolume files) ys
  stops_idle tells [] [] all = tt
  stops_idle tells [] (y ∷ ys) all = absurd all
  stops_idle tells (x ∷ xs) [] all = absurd all
  stops_idle tells (x ∷ xs) (y ∷ ys) all = (all.0.idle tells, stops_idle tells xs ys all.1)

pub slot_below : (settings : Settings) (v j : ℕ) → v < settings.volumes → j < settings.replicas → slot_of settings v j < disk_count settings
slot_below settings v j volume replica =
    let up : v + 1 ≤ settings.volumes = omega (arith, volume) in
    omega (arith, mul-le-mul_left settings.replicas up, replica)

module _ {D : Type 0} (DiskTells : Type 0) (files : D → Files) (faults : D → ℕ) where
  directory_whole : (old new : directory.State D) (known : Rattle.hay_legal.specs.declared.known.DirKnown.DirKnown) (fault : ClusterFault) → DiskTells
      → directory.Stopped files old known → RefusesDirectory DiskTells files faults old new fault
      → (slot file at : ℕ) → fault ≡ Damaged slot file at → ⊥
  directory_whole old new known (Shelf n) tells stopped refused slot file at is = refused
  directory_whole old new known (Failed s n) tells stopped refused slot file at is = absurd cc
  directory_whole old new known (Damaged s f a) tells stopped refused slot file at is = let rows = stopped_rows files old known stopped in (refused.2 tells).1 rows.0 rows.1
  directory_whole old new known NoMemory tells stopped refused slot file at is = absurd cc

-- A STORE WAS STOPPED, OR OPENED

undrained_all : (drained : List Bool) (n : ℕ) → length drained ≡ n → replicate n false ≡ map undrained drained
undrained_all [] zero is = refl
undrained_all [] (suc n) is = absurd (omega (arith, is))
undrained_all (d ∷ drained) zero is = absurd (omega (arith, is))
undrained_all (d ∷ drained) (suc n) is = ap (λ (l : List Bool). false ∷ l) (undrained_all drained n (omega (arith, is)))

module _ {D P A : Type 0} (DiskTells : Type 0) (files : D → Files) (Tells : Type 0) (faults fuses : D → ℕ) (arm_faults : A → ℕ) where
  pub record StoppedParts (old new : Open D P A) : Type 0 where
    pub settings : new.settings ≡ old.settings
    pub arms : new.arms ≡ old.arms
    pub directory : StopsDirectory DiskTells files faults fuses old.directory new.directory
    pub volumes : AllZip (StopsVolume DiskTells files Tells faults fuses) old.volumes new.volumes

  pub record MovedParts (old new : Open D P A) : Type 0 where
    pub settings : new.settings ≡ old.settings
    pub arms : new.arms ≡ old.arms
    pub directory : LeavesDirectory DiskTells files faults fuses old.directory new.directory
    pub volumes : AllZip (LeavesVolume DiskTells files Tells faults fuses) old.volumes new.volumes

  pub shape_stopped : (old new : Open D P A) → IsShaped old → StoppedParts old new → IsShaped new
  shape_stopped old new shape s = record {
    built = subst (λ (t : Settings). IsBuilt t) (sym s.settings) shape.built;
    directory = s.directory.settings ∙ shape.directory ∙ sym s.settings;
    many = sym (AllZip-long (StopsVolume DiskTells files Tells faults fuses) old.volumes new.volumes s.volumes) ∙ shape.many ∙ ap (λ (t : Settings). t.volumes) (sym s.settings);
    volumes =
        subst (λ (t : Settings). InOrder (IsVolumeOf t) 0 new.volumes) (sym s.settings) (stopped_shape DiskTells files Tells faults fuses old.settings 0 old.volumes new.volumes
        s.volumes shape.volumes);
    lanes = ap (λ (as' : List A). length as') s.arms ∙ shape.lanes;
  }

  pub shape_moved : (old new : Open D P A) → IsShaped old → MovedParts old new → IsShaped new
  shape_moved old new shape m = record {
    built = subst (λ (t : Settings). IsBuilt t) (sym m.settings) shape.built;
    directory = m.directory.settings ∙ shape.directory ∙ sym m.settings;
    many = sym (AllZip-long (LeavesVolume DiskTells files Tells faults fuses) old.volumes new.volumes m.volumes) ∙ shape.many ∙ ap (λ (t : Settings). t.volumes) (sym m.settings);
    volumes =
        subst (λ (t : Settings). InOrder (IsVolumeOf t) 0 new.volumes) (sym m.settings) (moved_shape DiskTells files Tells faults fuses old.settings 0 old.volumes new.volumes m.volumes shape.volumes);
    lanes = ap (λ (as' : List A). length as') m.arms ∙ shape.lanes;
  }

  pub faults_moved : (old new : Open D P A) → MovedParts old new → NoneFalls (map faults (disks_of old)) (map faults (disks_of new))
  faults_moved old new m = (m.directory.later, moved_later DiskTells files Tells faults fuses old.volumes new.volumes m.volumes)

  pub fuses_moved : (old new : Open D P A) → MovedParts old new → map fuses (disks_of new) ≡ map fuses (disks_of old)
  fuses_moved old new m =
      ap (λ n. n ∷ map fuses (flat_map volume_disks new.volumes)) m.directory.fuses_stay
      ∙ ap (λ (ns : List ℕ). fuses (old.directory).disk ∷ ns) (moved_fuses DiskTells files Tells faults fuses old.volumes new.volumes m.volumes)

  faults_stopped : (old new : Open D P A) → StoppedParts old new → map faults (disks_of new) ≡ map faults (disks_of old)
  faults_stopped old new s =
      ap (λ n. n ∷ map faults (flat_map volume_disks new.volumes)) s.directory.same_faults
      ∙ ap (λ (ns : List ℕ). faults (old.directory).disk ∷ ns) (stopped_faults DiskTells files Tells faults fuses old.volumes new.volumes s.volumes)

  fuses_stopped : (old new : Open D P A) → StoppedParts old new → map fuses (disks_of new) ≡ map fuses (disks_of old)
  fuses_stopped old new s =
      ap (λ n. n ∷ map fuses (flat_map volume_disks new.volumes)) s.directory.same_fuses
      ∙ ap (λ (ns : List ℕ). fuses (old.directory).disk ∷ ns) (stopped_fuses DiskTells files Tells faults fuses old.volumes new.volumes s.volumes)

  pub restart_later : (old mid new : Open D P A) → StoppedParts old mid → MovedParts mid new → NoneFalls (map faults (disks_of old)) (map faults (disks_of new))
  restart_later old mid new s m = subst (λ (ns : List ℕ). NoneFalls ns (map faults (disks_of new))) (faults_stopped old mid s) (faults_moved mid new m)

  pub restart_fuses : (old mid new : Open D P A) → StoppedParts old mid → MovedParts mid new → map fuses (disks_of new) ≡ map fuses (disks_of old)
  restart_fuses old mid new s m = fuses_moved mid new m ∙ fuses_stopped old mid s

  -- WHY A STORE WAS NOT OPENED

  by_volume : (mid new : Open D P A) (v : ℕ) (before after : Volume D P) (f : OpenFault) (j : ℕ) → IsShaped mid → IsShaped new → new.settings ≡ mid.settings
      → At mid.volumes v before → At new.volumes v after
      → (b a : Rattle.hay_physical.specs.OpenCopies.Copy D) → At before.replicas j b → At after.replicas j a → IsOpenFault DiskTells files faults b a f
      → HasFaultCause mid.settings (map faults (disks_of mid)) (map faults (disks_of new)) (not_opened (slot_of mid.settings v j) f)
  by_volume mid new v before after (opening.Failed n) j shape shape' same was is b a there here cause =
      let of_v = volume_of mid v before shape was in
      let volume : v < (mid.settings).volumes = subst (λ n. v < n) shape.many (slice_get_within mid.volumes v before was) in
      let many : length before.replicas ≡ (mid.settings).replicas = of_v.all ∙ ap (λ (t : Settings). t.replicas) of_v.settings_are in
      let replica : j < (mid.settings).replicas = subst (λ n. j < n) many (slice_get_within before.replicas j b there) in
      let old_count = count_at faults mid v j before b shape was there in
      let new_count : slice_index (map faults (disks_of new)) (slot_of mid.settings v j) ≡ faults a.disk =
      ap (λ (t : Settings). slice_index (map faults (disks_of new)) (slot_of t v j)) (sym same) ∙ count_at faults new v j after a shape' is here in (
        slot_below mid.settings v j volume replica,
        subst (λ n. Rose n (slice_index (map faults (disks_of new)) (slot_of mid.settings v j))) (sym old_count) (subst (λ n. Rose (faults b.disk) n) (sym new_count) cause.0),
        cause.1 ∙ sym new_count,
      )
  by_volume mid new v before after (opening.Damaged file at) j shape shape' same was is b a there here cause =
      let of_v = volume_of mid v before shape was in
      let many : length before.replicas ≡ (mid.settings).replicas = of_v.all ∙ ap (λ (t : Settings). t.replicas) of_v.settings_are in (
        slot_below mid.settings v j (subst (λ n. v < n) shape.many (slice_get_within mid.volumes v before was)) (subst (λ n. j < n) many (slice_get_within before.replicas j b there)),
        (λ zeroth. absurd (let none : slot_of mid.settings v j ≡ 0 = zeroth in omega (arith, none)), λ behind. cause.3),
      )
  by_volume mid new v before after opening.NoMemory j shape shape' same was is b a there here cause = tt

  by_directory : (mid new : Open D P A) (fault : ClusterFault) → RefusesDirectory DiskTells files faults mid.directory new.directory fault
      → HasFaultCause mid.settings (map faults (disks_of mid)) (map faults (disks_of new)) fault
  by_directory mid new (Shelf n) refused = refused
  by_directory mid new (Failed slot n) refused = (
    (let zeroth : slot ≡ 0 = refused.0 in omega (arith, zeroth)),
    subst (λ s. Rose (slice_index (map faults (disks_of mid)) s) (slice_index (map faults (disks_of new)) s)) (sym refused.0) refused.1,
    refused.2 ∙ ap (λ s. slice_index (map faults (disks_of new)) s) (sym refused.0),
  )
  by_directory mid new (Damaged slot file at) refused = (
    (let zeroth : slot ≡ 0 = refused.0 in omega (arith, zeroth)),
    (λ first. refused.1, λ behind. absurd (let zeroth : slot ≡ 0 = refused.0 in omega (arith, zeroth, behind))),
  )
  by_directory mid new NoMemory refused = tt

  pub opening_cause : (mid new : Open D P A) (fault : ClusterFault) → IsShaped mid → MovedParts mid new
      → RefusesParts DiskTells files faults mid.settings mid.directory new.directory mid.volumes new.volumes fault
      → HasFaultCause mid.settings (map faults (disks_of mid)) (map faults (disks_of new)) fault
  opening_cause mid new fault shape m (inl by) = by_directory mid new fault by
  opening_cause mid new fault shape m (inr (notes, opened, inl memory)) = subst (λ f. HasFaultCause mid.settings (map faults (disks_of mid)) (map faults (disks_of new)) f) (sym memory) tt
  opening_cause mid new fault shape m (inr (notes, opened, inr by)) =
      let r = by.refused in
      subst (λ f. HasFaultCause mid.settings (map faults (disks_of mid)) (map faults (disks_of new)) f) (sym r.told)
      (by_volume mid new by.volume by.before by.after r.refusal.fault r.refusal.replica shape (shape_moved mid new shape m) m.settings by.was by.is r.cause.before r.cause.after
      r.cause.was r.cause.is r.cause.cause)

  pub restart_cause : (old mid new : Open D P A) (fault : ClusterFault) → IsShaped mid → StoppedParts old mid → MovedParts mid new
      → RefusesParts DiskTells files faults mid.settings mid.directory new.directory mid.volumes new.volumes fault
      → HasFaultCause old.settings (map faults (disks_of old)) (map faults (disks_of new)) fault
  restart_cause old mid new fault shape s m refused =
      subst (λ (t : Settings). HasFaultCause t (map faults (disks_of old)) (map faults (disks_of new)) fault) s.settings
      (subst (λ (ns : List ℕ). HasFaultCause mid.settings ns (map faults (disks_of new)) fault) (faults_stopped old mid s) (opening_cause mid new fault shape m refused))

  -- A RESTART

  pub restart_left : DiskTells → (old mid new : Open D P A) (k : Known) → Stands files Tells faults fuses arm_faults old k → StoppedParts old mid → MovedParts mid new
      → LeftAt files faults fuses arm_faults k new
  unfolding Stands Holds
  restart_left tells old mid new k stands s m =
      let shape = shape_moved mid new (shape_stopped old mid stands.shape s) m in
      let stopped = stopped_each DiskTells files Tells faults fuses tells old.volumes mid.volumes k.volumes s.volumes stands.volumes in
      let few : 0 + length new.volumes ≤ (new.settings).volumes = (let many = shape.many in omega (arith, many)) in
      record {
        known = record k { faults = map faults (disks_of new) };
        leaves = record {
          volumes = refl;
          directory = refl;
          drained = refl;
          fuses = refl;
          faults = subst (λ (ns : List ℕ). NoneFalls ns (map faults (disks_of new))) (sym stands.fault_counts) (restart_later old mid new s m);
          arms = refl;
        };
        holds = record {
          shape = shape;
          directory = subst (λ (t : Settings). DirectoryHolds files t (new.directory).disk k.directory) shape.directory
              (left_holds files new.directory k.directory (replicate ((mid.directory).settings).machines false)
              (m.directory.left tells k.directory (s.directory.stopped tells k.directory k.drained stands.directory)));
          volumes = left_each DiskTells files Tells faults fuses tells new.settings 0 mid.volumes new.volumes k.volumes shape.built few shape.volumes m.volumes stopped;
          fault_counts = refl;
          fuse_counts = stands.fuse_counts ∙ sym (restart_fuses old mid new s m);
          arm_counts = stands.arm_counts ∙ ap (λ (as' : List A). map arm_faults as') (sym (m.arms ∙ s.arms));
        };
      }

  known_at : (xs : List (Volume D P)) (ks : List VolumeKnown) (v : ℕ) (x : Volume D P) → At xs v x → AllZip (Stopped files) xs ks → (k : VolumeKnown) × Stopped files x k
  known_at [] [] v x at all = absurd cc
  known_at [] (k ∷ ks) v x at all = absurd all
  known_at (y ∷ xs) [] v x at all = absurd all
  known_at (y ∷ xs) (k ∷ ks) zero x at all = (k, subst (λ (z : Volume D P). Stopped files z k) (let e : y ≡ x = cc in e) all.0)
  known_at (y ∷ xs) (k ∷ ks) (suc v) x at all = known_at xs ks v x at all.1

  pub restart_whole : DiskTells → (old mid new : Open D P A) (k : Known) (fault : ClusterFault) → Stands files Tells faults fuses arm_faults old k → StoppedParts old mid
      → RefusesParts DiskTells files faults mid.settings mid.directory new.directory mid.volumes new.volumes fault → (slot file at : ℕ) → fault ≡ Damaged slot file at → ⊥
  unfolding Stands
  restart_whole tells old mid new k fault stands s (inl by) slot file at is =
      directory_whole DiskTells files faults mid.directory new.directory k.directory fault tells (s.directory.stopped tells k.directory k.drained stands.directory) by slot file at is
  restart_whole tells old mid new k fault stands s (inr (notes, opened, inl memory)) slot file at is = let both : NoMemory ≡ Damaged slot file at = sym memory ∙ is in absurd cc
  restart_whole tells old mid new k fault stands s (inr (notes, opened, inr by)) slot file at is =
      let stopped = stopped_each DiskTells files Tells faults fuses tells old.volumes mid.volumes k.volumes s.volumes stands.volumes in
      let known = known_at mid.volumes k.volumes by.volume by.before by.was stopped in
      by.refused.whole tells known.0 known.1 slot file at is

  pub restart_opened : DiskTells → (old mid new : Open D P A) (k : Known) (notes : List Note) → Stands files Tells faults fuses arm_faults old k → StoppedParts old mid → MovedParts mid new
      → OpensParts DiskTells files Tells faults fuses mid.directory new.directory mid.volumes new.volumes notes
      → (t : Known) × IsRestarted new.settings k (new.directory).count notes t × Stands files Tells faults fuses arm_faults new t
  unfolding Stands directory.Stands
  restart_opened tells old mid new k notes stands s m o =
      let shape = shape_moved mid new (shape_stopped old mid stands.shape s) m in
      let mid_shape = shape_stopped old mid stands.shape s in
      let stopped = stopped_each DiskTells files Tells faults fuses tells old.volumes mid.volumes k.volumes s.volumes stands.volumes in
      let vs =
      reopened_each DiskTells files Tells faults fuses tells new.settings 0 mid.volumes new.volumes o.of_volumes k.volumes
      (subst (λ (t : Settings). InOrder (IsVolumeOf t) 0 mid.volumes) (sym m.settings) mid_shape.volumes) o.volumes stopped in
      let d = o.directory.reopened tells k.directory (s.directory.stopped tells k.directory k.drained stands.directory) in
      let rows = k.directory.rows ++ kept_row k.directory.pending d.0 in
      let machines : ((mid.directory).settings).machines ≡ ((old.directory).settings).machines = ap (λ (t : Settings). t.machines) s.directory.settings in
      let drained : replicate ((mid.directory).settings).machines false ≡ map undrained k.drained =
      undrained_all k.drained ((mid.directory).settings).machines (ap (λ (l : List Bool). length l) stands.directory.drained_is ∙ s.directory.long ∙ sym machines) in
      let t : Known = record k { volumes = vs.opened; directory = directory_with rows; drained = replicate ((mid.directory).settings).machines false; faults = map faults (disks_of new) } in (
        t,
        record {
          kept = vs.kept;
          row = d.0;
          opened = record {
            volumes = vs.reopened;
            rows = refl;
            directory = refl;
            drained = drained;
            fuses = refl;
            faults = subst (λ (ns : List ℕ). NoneFalls ns (map faults (disks_of new))) (sym stands.fault_counts) (restart_later old mid new s m);
            arms = refl;
          };
          told = o.told ∙ ap (λ (l : List Note). l ++ o.of_directory) vs.told ∙ ap (λ (l : List Note). volume_notes new.settings 0 k.volumes vs.kept ++ l) d.1;
          rows = d.2.count;
        },
        record {
          shape = shape;
          directory = d.2;
          volumes = vs.stands;
          fault_counts = refl;
          fuse_counts = stands.fuse_counts ∙ sym (restart_fuses old mid new s m);
          arm_counts = stands.arm_counts ∙ ap (λ (as' : List A). map arm_faults as') (sym (m.arms ∙ s.arms));
        },
      )
