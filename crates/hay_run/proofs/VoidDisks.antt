-- Void disks hold a store as it is when they are formatted.
use Rattle.std.proofs.Common.{◌≡◌, inl, ℕ, zero, suc, ◌<◌, List, [], map, refl, ap, subst, sym, ◌∙◌, arith}
use Rattle.std.specs.Prelude.{replicate}
use Rattle.std.specs.List.{AllByRecursion as Each, range_with_len}
use Rattle.std.proofs.lemmas.List.{get_or-replicate, length-replicate}
use Rattle.std.proofs.lemmas.List.FromFn.{get_or-map-range_with_len, length-map-range_with_len}
use Rattle.hay_needle.specs.declared.settings.Settings.{Settings}
use Rattle.hay_legal.specs.declared.known.Known.{Known}
use Rattle.hay_legal.specs.declared.known.ReplicaKnown.{ReplicaKnown}
use Rattle.hay_legal.specs.declared.known.VolumeKnown.{VolumeKnown}
use Rattle.hay_legal.specs.Known.{disk_count, empty_replica, empty_volume, fresh, fresh_volume, replica_at, slot_of, volume_at}
use Rattle.hay_legal.specs.Stands.{Contents, Outside, found_of}
use Rattle.hay_legal.specs.Statuses.{IsNewVolume, IsUntouched, read_contents}
use Rattle.hay_directory.specs.Rows.{OpensRows}
use Rattle.hay_logical.specs.Fits.{IsReplica}
use Rattle.hay_open.specs.Stored.{OpensAs, fresh_stored}
use Rattle.hay_cluster.specs.Outside.{IsVoid}
use Rattle.hay_cluster.proofs.OpeningStore.{slot_below}
use Rattle.hay_run.specs.Runs.{IsTaken}

each_replicate : {X : Type 0} (P : X → Type 0) (n : ℕ) (x : X) → P x → Each P (replicate n x)
each_replicate P zero x p = tt
each_replicate P (suc n) x p = (p, each_replicate P n x p)

new_volume : (settings : Settings) → IsNewVolume settings (fresh_volume settings)
new_volume settings = record {
  log = refl;
  frozen = refl;
  pending = refl;
  count = length-replicate settings.replicas empty_replica;
  replicas = each_replicate IsUntouched settings.replicas empty_replica (refl, refl, refl);
}

empty_at : (settings : Settings) (faults fuses arms : List ℕ) (v j : ℕ) → v < settings.volumes → j < settings.replicas → replica_at (volume_at (fresh settings faults fuses arms) v) j ≡ empty_replica
empty_at settings faults fuses arms v j within low =
    ap (λ (volume : VolumeKnown). replica_at volume j) (get_or-replicate settings.volumes v (fresh_volume settings) empty_volume within)
    ∙ get_or-replicate settings.replicas j empty_replica empty_replica low

finds_nothing : (settings : Settings) (v j : ℕ) (contents : Contents) → IsVoid contents → IsReplica settings v j contents (found_of empty_replica)
unfolding IsReplica OpensAs
finds_nothing settings v j contents void = record { stored = fresh_stored; opens = inl (void, refl); is = refl }

no_rows : (settings : Settings) (contents : Contents) → IsVoid contents → OpensRows settings contents []
unfolding OpensRows
no_rows settings contents void = inl (void, refl)

-- the counts of disks and arms, in order
abbrev pub in_order : (ℕ → ℕ) → ℕ → List ℕ
in_order counts n = map counts (range_with_len 0 n)

abbrev pub fresh_on : Settings → Outside → Known
fresh_on settings taken = fresh settings (in_order taken.faults (disk_count settings)) (in_order taken.fuses (disk_count settings)) (in_order taken.arms 8)

pub void_disks_hold_a_fresh_store : (settings : Settings) (taken : Outside) → ((slot : ℕ) → slot < disk_count settings → IsVoid (read_contents taken slot))
    → IsTaken settings taken (fresh_on settings taken)
void_disks_hold_a_fresh_store settings taken void =
    let disks = disk_count settings in
    let faults = in_order taken.faults disks in
    let fuses = in_order taken.fuses disks in
    let arms = in_order taken.arms 8 in
    record {
      new = record {
        count = length-replicate settings.volumes (fresh_volume settings);
        volumes = each_replicate (IsNewVolume settings) settings.volumes (fresh_volume settings) (new_volume settings);
        directory = refl;
        drained = refl;
        disks = length-map-range_with_len taken.faults 0 disks;
        fused = length-map-range_with_len taken.fuses 0 disks;
        lanes = length-map-range_with_len taken.arms 0 8;
      };
      found = record {
        replicas = λ v j within low.
            let slot = slot_of settings v j in
            subst (λ (replica : ReplicaKnown). IsReplica settings v j (read_contents taken slot) (found_of replica)) (sym (empty_at settings faults fuses arms v j within low))
            (finds_nothing settings v j (read_contents taken slot) (void slot (slot_below settings v j within low)));
        directory = no_rows settings (read_contents taken 0) (void 0 (omega arith));
      };
      faults = λ slot within. get_or-map-range_with_len taken.faults 0 disks slot slot 0 within (omega arith);
      fuses = λ slot within. get_or-map-range_with_len taken.fuses 0 disks slot slot 0 within (omega arith);
      arms = λ lane within. get_or-map-range_with_len taken.arms 0 8 lane lane 0 within (omega arith);
    }
