-- What stops and openings make of the volumes.
use Rattle.std.proofs.Common.{◌≡◌, ℕ, ◌+◌, inl, inr, List, [], ◌∷◌, ◌++◌, map, refl, sym, ap, subst, ◌∙◌, arith}
use Rattle.std.proofs.lemmas.Option.{same_Some}
use Rattle.std.specs.Prelude.{slice_set}
use Rattle.std.specs.List.{AllByRecursion, AllZip, flat_map}
use Rattle.hay_needle.specs.declared.settings.Settings.{Settings}
use Rattle.hay_reply.specs.declared.Note.{Note}
use Rattle.hay_disk.specs.Disk.{Files}
use Rattle.hay_mount.specs.Mounts.{InOrder}
use Rattle.hay_open.specs.declared.fault.OpenFault.{OpenFault}
use Rattle.hay_open.specs.declared.fault.OpenFault.TheVariants as opening
use Rattle.hay_physical.specs.OpenCopies.{Copy}
use Rattle.hay_legal.specs.declared.known.VolumeKnown.{VolumeKnown}
use Rattle.hay_legal.specs.Known.{NoneFalls}
use Rattle.hay_legal.specs.Restarts.{ReopenedVolume, pending_notes}
use Rattle.hay_logical.specs.Answers.{IsReopened}
use Rattle.hay_logical.specs.Fits.{At}
use Rattle.hay_logical.specs.Stands.{IsFirst, IsIdleVolume, Stopped, Holds}
use Rattle.hay_logical.specs.ReplicaCalls.{KeepsDisk}
use Rattle.hay_logical.specs.Stands as logical
use Rattle.hay_logical.specs.Volumes.{Volume, IsSame, KeepsCounts}
use Rattle.hay_logical.proofs.Calls.{disk_same}
use Rattle.hay_logical.proofs.Methods.{same_still, sups_on}
use Rattle.hay_cluster.specs.declared.fault.ClusterFault.{ClusterFault}
use Rattle.hay_cluster.specs.declared.fault.ClusterFault.TheVariants.{Damaged}
use Rattle.hay_cluster.specs.Faults.{not_opened}
use Rattle.hay_cluster.specs.Opening.{Gathers, LeavesVolume, OpensVolume, RefusesVolume, RefusesVolumes, StopsVolume, VolumesReopened}
use Rattle.hay_cluster.specs.Store.{IsVolumeOf, volume_disks}
use Rattle.hay_cluster.proofs.Moves.{copies_later, copies_same}
use Rattle.hay_cluster.proofs.OpeningLists.{Gathered, at_set, each_later, each_same, gathered_break, gathered_done, gathered_was}

-- a refusal that tells of damage
pub damage_told : (slot : ℕ) (f : OpenFault) (s file at : ℕ) → not_opened slot f ≡ Damaged s file at → f ≡ opening.Damaged file at
damage_told slot (opening.Failed faults) s file at is = absurd cc
damage_told slot (opening.Damaged file' at') s file at is = cc
damage_told slot opening.NoMemory s file at is = absurd cc

module _ {D P : Type 0} (files : D → Files) where
  pub stopped_holds : (volume : Volume D P) (k : VolumeKnown) → Stopped files volume k → Holds files volume k
  unfolding Stopped Holds
  stopped_holds volume k s = s.holds

module _ {D P : Type 0} (DiskTells : Type 0) (files : D → Files) (Tells : Type 0) (faults fuses : D → ℕ) where
  -- a closed volume that is left as it was
  pub moves_still : (volume : Volume D P) → (DiskTells → IsIdleVolume files volume) → LeavesVolume DiskTells files Tells faults fuses volume volume
  moves_still volume idle = record {
    same = same_still volume;
    counts = record {
      count = refl;
      rises = λ j r r' at at'. let same : faults r.disk ≡ faults r'.disk = ap (λ (c : Copy D). faults c.disk) (same_Some r r' (sym at ∙ at')) in omega (arith, same);
      stay = λ j r r' at at'. ap (λ (c : Copy D). fuses c.disk) (same_Some r' r (sym at' ∙ at));
    };
    left = λ tells k stopped. inl (stopped_holds files volume k stopped);
    kept = λ tells j r r' at at'. subst (λ (c : Copy D). KeepsDisk files r c) (same_Some r r' (sym at ∙ at')) (disk_same files r (idle tells j r at).solid);
  }

  -- a volume behind a call that opened it, or that was refused
  pub moves_opened : (old new : Volume D P) (notes : List Note) → IsSame old new → KeepsCounts faults fuses old.replicas new.replicas
      → (DiskTells → (k : VolumeKnown) → Stopped files old k → IsReopened files Tells k notes new)
      → (DiskTells → (j : ℕ) (r r' : Copy D) → At old.replicas j r → At new.replicas j r' → KeepsDisk files r r') → LeavesVolume DiskTells files Tells faults fuses old new
  moves_opened old new notes same counts reopened kept = record { same = same; counts = counts; left = λ tells k stopped. inr (notes, reopened tells k stopped); kept = kept }

  pub moves_refused : (old new : Volume D P) → IsSame old new → KeepsCounts faults fuses old.replicas new.replicas → (DiskTells → (k : VolumeKnown) → Stopped files old k → Holds files new k)
      → (DiskTells → (j : ℕ) (r r' : Copy D) → At old.replicas j r → At new.replicas j r' → KeepsDisk files r r') → LeavesVolume DiskTells files Tells faults fuses old new
  moves_refused old new same counts left kept = record { same = same; counts = counts; left = λ tells k stopped. inl (left tells k stopped); kept = kept }

  -- the volume at which it ended
  pub refused_at : (settings : Settings) (n : ℕ) (xs ys : List (Volume D P)) (all : List Note) (y z : Volume D P) (fault : ClusterFault)
      → Gathered (OpensVolume DiskTells files Tells faults fuses) n xs ys all
      → At ys n y → RefusesVolume DiskTells files faults settings n y z fault → RefusesVolumes DiskTells files faults settings xs (slice_set ys n z) fault
  refused_at settings n xs ys all y z fault g at (inl memory) = inl memory
  refused_at settings n xs ys all y z fault g at (inr by) = inr (record {
    volume = n;
    before = y;
    after = z;
    was = gathered_was (OpensVolume DiskTells files Tells faults fuses) n xs ys all y g at;
    is = at_set ys n y z at;
    refused = by;
    earlier = λ tells v x w less at' at''. (gathered_done (OpensVolume DiskTells files Tells faults fuses) n xs ys all v x z w g less at' at'').1.undamaged tells;
  })

  pub moved_at : (n : ℕ) (xs ys : List (Volume D P)) (all : List Note) (y z : Volume D P) → Gathered (OpensVolume DiskTells files Tells faults fuses) n xs ys all → At ys n y
      → AllByRecursion (λ volume. DiskTells → IsIdleVolume files volume) xs → LeavesVolume DiskTells files Tells faults fuses y z
      → AllZip (LeavesVolume DiskTells files Tells faults fuses) xs (slice_set ys n z)
  moved_at n xs ys all y z g at idle moves =
      gathered_break (OpensVolume DiskTells files Tells faults fuses) (LeavesVolume DiskTells files Tells faults fuses) (λ volume. DiskTells → IsIdleVolume files volume) n xs ys
      all y z (λ a b more r. r.moves) (λ a told. moves_still a told) idle g at moves

  -- COUNTS

  pub moved_later : (xs ys : List (Volume D P)) → AllZip (LeavesVolume DiskTells files Tells faults fuses) xs ys
      → NoneFalls (map faults (flat_map volume_disks xs)) (map faults (flat_map volume_disks ys))
  moved_later xs ys all = each_later faults volume_disks (LeavesVolume DiskTells files Tells faults fuses) xs ys (λ x y m. copies_later faults x.replicas y.replicas m.counts.count m.counts.rises) all

  pub moved_fuses : (xs ys : List (Volume D P)) → AllZip (LeavesVolume DiskTells files Tells faults fuses) xs ys → map fuses (flat_map volume_disks ys) ≡ map fuses (flat_map volume_disks xs)
  moved_fuses xs ys all = each_same fuses volume_disks (LeavesVolume DiskTells files Tells faults fuses) xs ys (λ x y m. copies_same fuses x.replicas y.replicas m.counts.count m.counts.stay) all

  pub stopped_faults : (xs ys : List (Volume D P)) → AllZip (StopsVolume DiskTells files Tells faults fuses) xs ys → map faults (flat_map volume_disks ys) ≡ map faults (flat_map volume_disks xs)
  stopped_faults xs ys all =
      each_same faults volume_disks (StopsVolume DiskTells files Tells faults fuses) xs ys (λ x y s. copies_same faults x.replicas y.replicas s.count (λ j r r' at at'. (s.counts j r r' at at').0)) all

  pub stopped_fuses : (xs ys : List (Volume D P)) → AllZip (StopsVolume DiskTells files Tells faults fuses) xs ys → map fuses (flat_map volume_disks ys) ≡ map fuses (flat_map volume_disks xs)
  stopped_fuses xs ys all =
      each_same fuses volume_disks (StopsVolume DiskTells files Tells faults fuses) xs ys (λ x y s. copies_same fuses x.replicas y.replicas s.count (λ j r r' at at'. (s.counts j r r' at at').1)) all

  -- SHAPES

  pub moved_shape : (settings : Settings) (v : ℕ) (xs ys : List (Volume D P)) → AllZip (LeavesVolume DiskTells files Tells faults fuses) xs ys → InOrder (IsVolumeOf settings) v xs
      → InOrder (IsVolumeOf settings) v ys
  moved_shape settings v [] [] all order = tt
  moved_shape settings v [] (y ∷ ys) all order = absurd all
  moved_shape settings v (x ∷ xs) [] all order = absurd all
  moved_shape settings v (x ∷ xs) (y ∷ ys) all order =
      let m = all.0 in
      let was = order.0 in (
        record {
          settings_are = m.same.settings ∙ was.settings_are;
          number = m.same.number ∙ was.number;
          all = m.counts.count ∙ was.all ∙ ap (λ (s : Settings). s.replicas) (sym m.same.settings);
          sups = sups_on x y m.same m.counts.count was.sups;
        },
        moved_shape settings (v + 1) xs ys all.1 order.1,
      )

  pub stopped_shape : (settings : Settings) (v : ℕ) (xs ys : List (Volume D P)) → AllZip (StopsVolume DiskTells files Tells faults fuses) xs ys → InOrder (IsVolumeOf settings) v xs
      → InOrder (IsVolumeOf settings) v ys
  stopped_shape settings v [] [] all order = tt
  stopped_shape settings v [] (y ∷ ys) all order = absurd all
  stopped_shape settings v (x ∷ xs) [] all order = absurd all
  stopped_shape settings v (x ∷ xs) (y ∷ ys) all order =
      let m = all.0 in
      let was = order.0 in (
        record {
          settings_are = m.same.settings ∙ was.settings_are;
          number = m.same.number ∙ was.number;
          all = m.count ∙ was.all ∙ ap (λ (s : Settings). s.replicas) (sym m.same.settings);
          sups = sups_on x y m.same m.count was.sups;
        },
        stopped_shape settings (v + 1) xs ys all.1 order.1,
      )

  -- WHAT THEY STAND FOR

  pub stopped_each : DiskTells → (xs ys : List (Volume D P)) (ks : List VolumeKnown) → AllZip (StopsVolume DiskTells files Tells faults fuses) xs ys
      → AllZip (logical.Stands files Tells) xs ks → AllZip (Stopped files) ys ks
  stopped_each tells [] [] [] all stands = tt
  stopped_each tells [] [] (k ∷ ks) all stands = absurd stands
  stopped_each tells [] (y ∷ ys) ks all stands = absurd all
  stopped_each tells (x ∷ xs) [] ks all stands = absurd all
  stopped_each tells (x ∷ xs) (y ∷ ys) [] all stands = absurd stands
  stopped_each tells (x ∷ xs) (y ∷ ys) (k ∷ ks) all stands = (all.0.stopped tells k stands.0, stopped_each tells xs ys ks all.1 stands.1)

  pub first_each : DiskTells → (xs ys : List (Volume D P)) (notes : List Note) (ks : List VolumeKnown) → Gathers (OpensVolume DiskTells files Tells faults fuses) xs ys notes
      → AllZip (IsFirst files) xs ks
      → (notes ≡ []) × AllZip (logical.Stands files Tells) ys ks
  first_each tells [] [] notes [] g firsts = (g, tt)
  first_each tells [] [] notes (k ∷ ks) g firsts = absurd firsts
  first_each tells [] (y ∷ ys) notes ks g firsts = absurd g
  first_each tells (x ∷ xs) [] notes ks g firsts = absurd g
  first_each tells (x ∷ xs) (y ∷ ys) notes [] g firsts = absurd firsts
  first_each tells (x ∷ xs) (y ∷ ys) notes (k ∷ ks) g firsts =
      let here = g.first.first tells k firsts.0 in
      let rest = first_each tells xs ys g.behind ks g.rest firsts.1 in
      (g.parts ∙ ap (λ (l : List Note). l ++ g.behind) here.0 ∙ rest.0, (here.1, rest.1))

  pub reopened_each : DiskTells → (settings : Settings) (v : ℕ) (xs ys : List (Volume D P)) (notes : List Note) (ks : List VolumeKnown) → InOrder (IsVolumeOf settings) v xs
      → Gathers (OpensVolume DiskTells files Tells faults fuses) xs ys notes → AllZip (Stopped files) xs ks → VolumesReopened files Tells settings v ks notes ys
  reopened_each tells settings v [] [] notes [] order g stopped = record { kept = []; opened = []; reopened = tt; stands = tt; told = g }
  reopened_each tells settings v [] [] notes (k ∷ ks) order g stopped = absurd stopped
  reopened_each tells settings v [] (y ∷ ys) notes ks order g stopped = absurd g
  reopened_each tells settings v (x ∷ xs) [] notes ks order g stopped = absurd g
  reopened_each tells settings v (x ∷ xs) (y ∷ ys) notes [] order g stopped = absurd stopped
  reopened_each tells settings v (x ∷ xs) (y ∷ ys) notes (k ∷ ks) order g stopped =
      let here = g.first.reopened tells k stopped.0 in
      let same = g.first.moves.same in
      let rest = reopened_each tells settings (v + 1) xs ys g.behind ks order.1 g.rest stopped.1 in
      let set : y.settings ≡ settings = same.settings ∙ order.0.settings_are in
      let num : y.number ≡ v = same.number ∙ order.0.number in
      let of_v : ReopenedVolume settings v k here.kept here.opened =
      subst (λ n. ReopenedVolume settings n k here.kept here.opened) num (subst (λ s. ReopenedVolume s y.number k here.kept here.opened) set here.reopened) in
      let told : g.front ≡ pending_notes settings v k.pending here.kept =
      here.told ∙ ap (λ s. pending_notes s y.number k.pending here.kept) set ∙ ap (λ n. pending_notes settings n k.pending here.kept) num in
      record {
        kept = here.kept ∷ rest.kept;
        opened = here.opened ∷ rest.opened;
        reopened = (of_v, rest.reopened);
        stands = (here.stands, rest.stands);
        told = g.parts ∙ ap (λ (l : List Note). l ++ g.behind) told ∙ ap (λ (l : List Note). pending_notes settings v k.pending here.kept ++ l) rest.told;
      }
