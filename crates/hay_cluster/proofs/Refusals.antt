-- By whom a volume is closed, and whether it has room.
use Rattle.std.proofs.Common.{◌≡◌, ℕ, Bool, false, List, map, Option, Some, None, refl, sym, ap, ◌∙◌}
use Rattle.std.specs.Prelude.{find, option_map, slice_index_or, Err, Ok}
use Rattle.std.specs.List.{enumerate_from}
use Rattle.hay_needle.specs.declared.settings.Settings.{Settings}
use Rattle.hay_needle.specs.Sizes.{needle_total}
use Rattle.hay_disk.specs.Disk.{Files}
use Rattle.hay_reply.specs.declared.Refused.{Refused}
use Rattle.hay_reply.specs.declared.Refused.TheVariants.{NoRoom}
use Rattle.hay_legal.specs.declared.known.DirKnown.{DirKnown}
use Rattle.hay_legal.specs.declared.known.Known.{Known}
use Rattle.hay_legal.specs.declared.known.ReplicaKnown.{ReplicaKnown}
use Rattle.hay_legal.specs.Known.{closed, closed_by, drained_of, lacks_room, machine_of, refusal_by, refusal_of, replicas_of, room_refusal, room_refusal_of, volume_at}
use Rattle.hay_directory.specs.State as directory
use Rattle.hay_logical.specs.declared.fault.LogicalFault.{LogicalFault}
use Rattle.hay_logical.specs.declared.fault.LogicalFault.TheVariants.{Full}
use Rattle.hay_logical.specs.Answers.{room_answer}
use Rattle.hay_cluster.specs.Lacks.{lack_of}
use Rattle.hay_cluster.specs.State.{Stands}
use Rattle.hay_cluster.specs.Store.{Open}

drains : {D : Type 0} (files : D → Files) (d : directory.State D) (known : DirKnown) (drained : List Bool) → directory.Stands files d known drained → drained ≡ d.drained
unfolding directory.Stands
drains files d known drained s = s.drained_is

module _ {D P A : Type 0} (files : D → Files) (Tells : Type 0) (faults fuses : D → ℕ) (arm_faults : A → ℕ) where
  pub drained-known : (store : Open D P A) (k : Known) (v : ℕ) → Stands files Tells faults fuses arm_faults store k
      → find (λ m. slice_index_or (store.directory).drained m false) (map (machine_of store.settings v) (replicas_of store.settings)) ≡ drained_of store.settings k v
  unfolding Stands
  drained-known store k v s =
      ap (λ (ds : List Bool). find (λ m. slice_index_or ds m false) (map (machine_of store.settings v) (replicas_of store.settings)))
      (sym (drains files store.directory k.directory k.drained s.directory))

pub open-thawed : (frozen drained : Option ℕ) → closed_by frozen drained ≡ None → frozen ≡ None
open-thawed None drained is = refl
open-thawed (Some m) drained is = absurd cc

abbrev refusal_at : Settings → ℕ → ℕ → ℕ × ReplicaKnown → Refused
refusal_at settings v size at = NoRoom v (machine_of settings v at.0) (at.1).end (needle_total size)

full_at : (settings : Settings) (v size : ℕ) (o : Option (ℕ × ReplicaKnown)) (fault : LogicalFault)
    → room_answer settings None (option_map (refusal_at settings v size) o) ≡ Err fault → lack_of v fault ≡ option_map (refusal_at settings v size) o
full_at settings v size None fault is = absurd cc
full_at settings v size (Some at) fault is =
    let same : Full (machine_of settings v at.0) (at.1).end (needle_total size) settings.capacity ≡ fault = cc in
    ap (lack_of v) (sym same)

free_at : (settings : Settings) (v size : ℕ) (o : Option (ℕ × ReplicaKnown)) → room_answer settings None (option_map (refusal_at settings v size) o) ≡ Ok tt
    → None ≡ option_map (refusal_at settings v size) o
free_at settings v size None is = refl
free_at settings v size (Some at) is = absurd cc

-- why a volume that is not closed refuses a photo, by what it answered
pub refused_for : (settings : Settings) (k : Known) (v size : ℕ) (fault : LogicalFault) → closed settings k v ≡ None
    → room_answer settings (volume_at k v).frozen (room_refusal_of settings v (volume_at k v) size) ≡ Err fault → lack_of v fault ≡ refusal_of settings k size v
refused_for settings k v size fault thawed is =
    let frozen = open-thawed (volume_at k v).frozen (drained_of settings k v) thawed in
    let room : lack_of v fault ≡ room_refusal_of settings v (volume_at k v) size =
    full_at settings v size (find (λ at. lacks_room settings size at.1) (enumerate_from 0 (volume_at k v).replicas)) fault
    (ap (λ f. room_answer settings f (room_refusal_of settings v (volume_at k v) size)) (sym frozen) ∙ is) in
    room ∙ ap (λ o. refusal_by v o (room_refusal settings k v size)) (sym thawed)

pub taken_for : (settings : Settings) (k : Known) (v size : ℕ) → closed settings k v ≡ None
    → room_answer settings (volume_at k v).frozen (room_refusal_of settings v (volume_at k v) size) ≡ Ok tt → None ≡ refusal_of settings k size v
taken_for settings k v size thawed is =
    let frozen = open-thawed (volume_at k v).frozen (drained_of settings k v) thawed in
    let room : None ≡ room_refusal_of settings v (volume_at k v) size =
    free_at settings v size (find (λ at. lacks_room settings size at.1) (enumerate_from 0 (volume_at k v).replicas))
    (ap (λ f. room_answer settings f (room_refusal_of settings v (volume_at k v) size)) (sym frozen) ∙ is) in
    room ∙ ap (λ o. refusal_by v o (room_refusal settings k v size)) (sym thawed)
