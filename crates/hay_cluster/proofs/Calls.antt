-- Calls of one volume, and why they were refused, by the store's counts.
use Rattle.std.proofs.Common.{◌≡◌, ℕ, ◌<◌, map, sym, ap, subst, ◌∙◌, arith}
use Rattle.hay_logical.specs.Fits.{At}
use Rattle.hay_needle.specs.declared.settings.Settings.{Settings}
use Rattle.hay_legal.specs.Known.{machine_of}
use Rattle.hay_legal.specs.Suiting.{IsOn}
use Rattle.hay_logical.specs.Answers.{IsBeginFault, IsCompactFault, IsDeleteFault, IsFlushFault, IsPutFault, IsRunFault}
use Rattle.hay_logical.specs.Volumes.{IsMachineOf, IsOpenVolume, Volume}
use Rattle.hay_logical.specs.declared.fault.LogicalFault.{LogicalFault}
use Rattle.hay_logical.specs.declared.fault.LogicalFault.TheVariants.{Busy, Damaged, Failed, Full, Gone, Idle, NoMemory, ReadOnly, Worn}
use Rattle.hay_logical.proofs.Lists.{at_below}
use Rattle.hay_cluster.specs.declared.maintenance.Maintenance.{Maintenance}
use Rattle.hay_cluster.specs.declared.maintenance.Maintenance.TheVariants.{Flush, Begin, Step, Finish, Compact}
use Rattle.hay_cluster.specs.Causes.{IsPutCause, IsDeleteCause, IsReplicaCause}
use Rattle.hay_cluster.specs.Maintenance.{IsReplicaFault}
use Rattle.hay_cluster.specs.Store.{Open, IsShaped, IsUp, disks_of}
use Rattle.hay_cluster.proofs.Lists.{AllByRecursion-at}
use Rattle.hay_cluster.proofs.Moves.{Called, called_failed, up_kept, volume_of, with_one}
use Rattle.hay_cluster.proofs.Suiting.{on_machine}

module _ {D P A : Type 0} where
  -- a volume of a store that is up is open
  pub called_open : (old store : Open D P A) (v : ℕ) (volume : Volume D P) → store ≡ old → At store.volumes v volume → IsUp old → IsOpenVolume volume
  called_open old store v volume is at up =
      let here : IsUp store = subst (λ (st : Open D P A). IsUp st) (sym is) up in
      AllByRecursion-at IsOpenVolume store.volumes v volume at here.volumes

  -- and the store stays up where the volume stays open
  pub called_up : (old store : Open D P A) (v : ℕ) (after : Volume D P) → store ≡ old → IsUp old → IsOpenVolume after → IsUp (with_one store v after)
  called_up old store v after is up opened = up_kept store v after (subst (λ (st : Open D P A). IsUp st) (sym is) up) opened

  -- the machine of a replica is one on which the volume has one
  pub machine_on : (old store : Open D P A) (v : ℕ) (volume : Volume D P) (m : ℕ) → store ≡ old → IsShaped store → At store.volumes v volume
      → IsMachineOf volume.settings volume.number m → IsOn old.settings v m
  machine_on old store v volume m is shape at of =
      let was = volume_of store v volume shape at in
      let machine : m ≡ machine_of store.settings v of.0 =
      of.2 ∙ ap (λ (s : Settings). machine_of s volume.number of.0) was.settings_are ∙ ap (λ n. machine_of store.settings n of.0) was.number in
      let within : of.0 < (store.settings).replicas = subst (λ (s : Settings). of.0 < s.replicas) was.settings_are of.1 in
      let below : v < (store.settings).volumes = let low = at_below store.volumes v volume at in let many = shape.many in omega (arith, low, many) in
      subst (λ (st : Open D P A). IsOn st.settings v m) is (on_machine store.settings v of.0 m shape.built below within machine)

module _ {D P A : Type 0} (faults fuses : D → ℕ) where
  pub put_cause : (old store : Open D P A) (v : ℕ) (before after : Volume D P) (fault : LogicalFault) → store ≡ old → IsShaped store → Called faults fuses store v before after
      → IsPutFault faults before.settings before.number before.replicas after.replicas fault
      → IsPutCause old.settings v (map faults (disks_of old)) (map faults (disks_of (with_one store v after))) fault
  put_cause old store v before after (ReadOnly m) is shape called h = (tt, tt, machine_on old store v before m is shape called.at h)
  put_cause old store v before after (Full m end need capacity) is shape called h = (tt, tt, machine_on old store v before m is shape called.at h)
  put_cause old store v before after (Failed m count) is shape called h = (tt, called_failed faults fuses old store v before after m count is shape called h, tt)
  put_cause old store v before after NoMemory is shape called h = (tt, tt, tt)
  put_cause old store v before after _ is shape called h = absurd h

  pub delete_cause : (old store : Open D P A) (v : ℕ) (before after : Volume D P) (fault : LogicalFault) → store ≡ old → IsShaped store → Called faults fuses store v before after
      → IsDeleteFault faults before.settings before.number before.replicas after.replicas fault
      → IsDeleteCause old.settings v (map faults (disks_of old)) (map faults (disks_of (with_one store v after))) fault
  delete_cause old store v before after (ReadOnly m) is shape called h = (tt, tt, machine_on old store v before m is shape called.at h)
  delete_cause old store v before after (Gone front) is shape called h = (tt, tt, tt)
  delete_cause old store v before after (Failed m count) is shape called h = (tt, called_failed faults fuses old store v before after m count is shape called h, tt)
  delete_cause old store v before after (Damaged m at) is shape called h = (tt, tt, machine_on old store v before m is shape called.at h)
  delete_cause old store v before after NoMemory is shape called h = (tt, tt, tt)
  delete_cause old store v before after _ is shape called h = absurd h

  module _ (old store : Open D P A) (v replica : ℕ) (before after : Volume D P) (is : store ≡ old) (shape : IsShaped store) (called : Called faults fuses store v before after)
      (within : replica < (old.settings).replicas) where
    -- the machine of the replica, by the store's settings
    here : (m : ℕ) → m ≡ machine_of before.settings before.number replica → m ≡ machine_of old.settings v replica
    here m machine =
        let was = volume_of store v before shape called.at in
        machine ∙ ap (λ (s : Settings). machine_of s before.number replica) was.settings_are ∙ ap (λ n. machine_of store.settings n replica) was.number
        ∙ ap (λ (st : Open D P A). machine_of st.settings v replica) is

    -- the volume has one there
    there : (m : ℕ) → m ≡ machine_of before.settings before.number replica → IsOn old.settings v m
    there m machine =
        let was = volume_of store v before shape called.at in
        let same = was.settings_are ∙ ap (λ (st : Open D P A). st.settings) is in
        machine_on old store v before m is shape called.at (replica, subst (λ (s : Settings). replica < s.replicas) (sym same) within, machine)

    abbrev Causes : Maintenance → LogicalFault → Type 0
    Causes work fault = IsReplicaCause old.settings work v replica (map faults (disks_of old)) (map faults (disks_of (with_one store v after))) fault

    flush_cause : (fault : LogicalFault) → IsFlushFault faults before.settings before.number replica before.replicas after.replicas fault → Causes Flush fault
    flush_cause (Failed m count) h = (here m h.0, called_failed faults fuses old store v before after m count is shape called h.1, tt)
    flush_cause (ReadOnly m) h = (tt, tt, machine_on old store v before m is shape called.at h)
    flush_cause NoMemory h = (tt, tt, tt)
    flush_cause _ h = absurd h

    begin_cause : (fault : LogicalFault) → IsBeginFault faults before.settings before.number replica before.replicas after.replicas fault → Causes Begin fault
    begin_cause (Failed m count) h = (here m h.0, called_failed faults fuses old store v before after m count is shape called h.1, tt)
    begin_cause (ReadOnly m) h = (tt, tt, machine_on old store v before m is shape called.at h)
    begin_cause (Busy m generation) h = (here m h, tt, tt)
    begin_cause (Worn m) h = (here m h, tt, tt)
    begin_cause NoMemory h = (tt, tt, tt)
    begin_cause _ h = absurd h

    run_cause : (fault : LogicalFault) → IsRunFault faults before.settings before.number replica before.replicas after.replicas fault → Causes Finish fault
    run_cause (Failed m count) h = (here m h.0, called_failed faults fuses old store v before after m count is shape called h.1, tt)
    run_cause (ReadOnly m) h = (tt, tt, machine_on old store v before m is shape called.at h)
    run_cause Idle h = (tt, tt, tt)
    run_cause (Damaged m at) h = (here m h, tt, there m h)
    run_cause NoMemory h = (tt, tt, tt)
    run_cause _ h = absurd h

    compact_cause : (fault : LogicalFault) → IsCompactFault faults before.settings before.number replica before.replicas after.replicas fault → Causes Compact fault
    compact_cause (Failed m count) h = (here m h.0, called_failed faults fuses old store v before after m count is shape called h.1, tt)
    compact_cause (ReadOnly m) h = (tt, tt, machine_on old store v before m is shape called.at h)
    compact_cause (Busy m generation) h = (here m h, tt, tt)
    compact_cause (Worn m) h = (here m h, tt, tt)
    compact_cause (Damaged m at) h = (here m h, tt, there m h)
    compact_cause NoMemory h = (tt, tt, tt)
    compact_cause _ h = absurd h

    pub replica_cause : (work : Maintenance) (fault : LogicalFault) → IsReplicaFault faults before.settings work before.number replica before.replicas after.replicas fault → Causes work fault
    replica_cause Flush fault h = flush_cause fault h
    replica_cause Begin fault h = begin_cause fault h
    replica_cause (Step cells) fault h = run_cause fault h
    replica_cause Finish fault h = run_cause fault h
    replica_cause Compact fault h = compact_cause fault h
