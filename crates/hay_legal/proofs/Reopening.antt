-- A store at which nothing has happened opens again as it is.
use Rattle.std.proofs.Common.{◌≡◌, inl, ℕ, zero, suc, ◌+◌, Bool, false, List, [], ◌∷◌, ◌++◌, length, map, Option, None, refl, sym, ap, subst, ◌∙◌, arith}
use Rattle.std.specs.Prelude.{replicate}
use Rattle.std.specs.List.{AllByRecursion}
use Rattle.std.proofs.lemmas.List.{append-nil}
use Rattle.hay_needle.specs.declared.settings.Settings.{Settings}
use Rattle.hay_core.specs.Entries.{after, entries_of}
use Rattle.hay_core.specs.declared.entry.Logged.{Logged}
use Rattle.hay_legal.specs.declared.known.DirKnown.{DirKnown}
use Rattle.hay_legal.specs.declared.known.HomeRow.{HomeRow}
use Rattle.hay_legal.specs.declared.known.Known.{Known}
use Rattle.hay_legal.specs.declared.known.Pending.{Pending}
use Rattle.hay_legal.specs.declared.known.PendingRow.{PendingRow}
use Rattle.hay_legal.specs.declared.known.ReplicaKnown.{ReplicaKnown}
use Rattle.hay_legal.specs.declared.known.VolumeKnown.{VolumeKnown}
use Rattle.hay_legal.specs.Restarts.{MayKeep, BareIs, ReopenedReplica, ReopenedReplicas, ReopenedVolume, ReopenedVolumes, Reopens, kept_entry, kept_row, is_kept, undrained}
use Rattle.hay_legal.specs.Stands.{Contents, Found, HasOutcome, IsFound}
use Rattle.hay_legal.specs.Statuses.{IsNew, IsNewVolume, IsUntouched}
use Rattle.hay_legal.proofs.Steps.{none_falls}

new_replica : (volume : VolumeKnown) (replica : ReplicaKnown) (kept : Bool) → volume.log ≡ [] → volume.pending ≡ None → IsUntouched replica
    → ReopenedReplica volume replica (kept_entry volume.pending kept) replica
new_replica volume replica kept log none is =
    subst (λ (p : Option Pending). ReopenedReplica volume replica (kept_entry p kept) replica) (sym none) (record {
      base = sym (ap (λ (l : List Logged). after (entries_of l) (length l) replica.base) log);
      stands = inl (record {
        end = omega arith;
        cells = omega arith;
        bare = subst (λ (stuck : Bool). BareIs stuck (replica.bare + 0) replica.bare) (sym is.0) (omega arith);
        generation = refl;
      });
      loose = is.0;
      idle = is.1;
      settled = is.2;
    })

new_replicas : (volume : VolumeKnown) (j : ℕ) (replicas : List ReplicaKnown) → volume.log ≡ [] → volume.pending ≡ None → AllByRecursion IsUntouched replicas
    → ReopenedReplicas volume [] j replicas replicas
new_replicas volume j [] log none all = tt
new_replicas volume j (replica ∷ replicas) log none all =
    (new_replica volume replica (is_kept [] j) log none all.0, new_replicas volume (j + 1) replicas log none all.1)

new_volume : (settings : Settings) (v : ℕ) (volume : VolumeKnown) → IsNewVolume settings volume → ReopenedVolume settings v volume [] volume
new_volume settings v volume new = record {
  may = subst (λ (p : Option Pending). MayKeep settings v volume p []) (sym new.pending) refl;
  replicas = new_replicas volume 0 volume.replicas new.log new.pending new.replicas;
  log = new.log;
  frozen = new.frozen;
  pending = new.pending;
}

pub none_kept : List VolumeKnown → List (List Bool)
none_kept [] = []
none_kept (volume ∷ volumes) = [] ∷ none_kept volumes

new_volumes : (settings : Settings) (v : ℕ) (volumes : List VolumeKnown) → AllByRecursion (IsNewVolume settings) volumes → ReopenedVolumes settings v volumes (none_kept volumes) volumes
unfolding none_kept
new_volumes settings v [] all = tt
new_volumes settings v (volume ∷ volumes) all = (new_volume settings v volume all.0, new_volumes settings (v + 1) volumes all.1)

undrained_same : (n : ℕ) → replicate n false ≡ map undrained (replicate n false)
undrained_same zero = refl
undrained_same (suc n) = ap (λ (l : List Bool). false ∷ l) (undrained_same n)

pub new_reopens : (settings : Settings) (k : Known) → IsNew settings k → Reopens settings k (none_kept k.volumes) false k
new_reopens settings k new = record {
  volumes = new_volumes settings 0 k.volumes new.volumes;
  rows = sym (append-nil k.directory.rows) ∙ ap (λ (pending : Option PendingRow). k.directory.rows ++ kept_row pending false) (sym (ap (λ (d : DirKnown). d.pending) new.directory));
  directory = new.directory;
  drained = subst (λ (l : List Bool). l ≡ map undrained l) (sym new.drained) (undrained_same settings.machines);
  fuses = refl;
  faults = none_falls k.faults;
  arms = refl;
}

-- the next opening finds it again
pub new_outcome : (replica : ℕ → ℕ → Contents → Found → Type 0) (rows : Contents → List HomeRow → Type 0) (settings : Settings) (k : Known) (contents : ℕ → Contents)
    → IsNew settings k → IsFound replica rows settings contents k → HasOutcome replica rows settings k contents
new_outcome replica rows settings k contents new found = record { kept = none_kept k.volumes; row = false; opened = k; reopens = new_reopens settings k new; found = found }
