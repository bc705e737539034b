-- What the ends of compactions answer, as steps of a lane.
use Rattle.std.specs.Prelude.{◌≡◌, ℕ, List, Option, Some, None, Result, Ok, Err}
use Rattle.hay_core.specs.declared.entry.CoreTag.{CoreTag}
use Rattle.hay_legal.specs.declared.known.VolumeKnown.{VolumeKnown}
use Rattle.hay_legal.specs.Known.{replica_at}
use Rattle.hay_logical.specs.declared.fault.LogicalFault.{LogicalFault}
use Rattle.hay_logical.specs.declared.fault.LogicalFault.TheVariants.{Busy, Damaged, Failed, Full, Gone, Idle, NoMemory, ReadOnly, Worn}
use Rattle.hay_holdings.specs.Volumes.{MetFrozen, MetIdle, RunDeleted, RunFrozen, Swapped, Switched, VolumeCall}
use Rattle.hay_volume_lock.specs.Answers.{Never, StoreVolume}
use Rattle.hay_volume_lock.specs.Compactions.{OfLane, OfOwn, Unswapped}
use Rattle.hay_volume_lock.specs.Ended.{ended_at}
use Rattle.hay_volume_lock.specs.declared.refusals.Finished.{Finished}
use Rattle.hay_volume_lock.specs.declared.refusals.Uncompacted.{Uncompacted}
use Rattle.hay_volume_lock.specs.declared.refusals.Uncompacted.TheVariants as lost
use Rattle.hay_volume_lock.specs.declared.refusals.Unfinished.{Unfinished}

-- what has become of a compaction of the replica that the line began, where the line `begun` has begun the last one: it does not stand
abbrev pub IsLost : VolumeKnown → ℕ → CoreTag → CoreTag → List (List (Option ℕ)) → Uncompacted → Type 0
IsLost k j tag begun ended (lost.Unfinished unfinished) = ⊥
IsLost k j tag begun ended (lost.Frozen m) = (k.frozen ≡ Some m) × (begun ≡ tag → (replica_at k j).run ≡ None)
IsLost k j tag begun ended (lost.Deleted f) = (k.frozen ≡ None) × (begun ≡ tag → (replica_at k j).run ≡ None) × (ended_at ended j tag.lane ≡ Some f)
IsLost k j tag begun ended lost.Idle = (k.frozen ≡ None) × (begun ≡ tag → (replica_at k j).run ≡ None) × (ended_at ended j tag.lane ≡ None)

module _ (volume : StoreVolume) (tag : CoreTag) where
  abbrev pub FinishRefused : ℕ → LogicalFault → Option ℕ → VolumeCall
  FinishRefused j (ReadOnly m) frozen = MetFrozen volume.settings volume.start volume.number tag m
  FinishRefused j Idle frozen = MetIdle volume.settings volume.start volume.number tag j
  FinishRefused j (Failed m f) frozen = OfLane volume tag (Unswapped volume tag j (Failed m f) frozen)
  FinishRefused j NoMemory frozen = OfLane volume tag (Unswapped volume tag j NoMemory frozen)
  FinishRefused j (Damaged m at) frozen = Never
  FinishRefused j (Full m end need capacity) frozen = Never
  FinishRefused j (Gone front) frozen = Never
  FinishRefused j (Busy m g) frozen = Never
  FinishRefused j (Worn m) frozen = Never

  abbrev pub FinishAnswer : ℕ → Result Finished Unfinished → VolumeCall
  FinishAnswer j (Ok finished) a b =
      (end : ℕ) × (cells : ℕ) × OfLane volume tag (λ who. Switched volume.settings volume.start volume.number tag j who finished.generation end cells finished.frozen) a b
  FinishAnswer j (Err unfinished) a b = FinishRefused j unfinished.fault unfinished.frozen a b

  -- OF THE LINE'S OWN, which stood behind all that its lane had seen

  abbrev pub CompactRefused : ℕ → Uncompacted → VolumeCall
  CompactRefused j (lost.Unfinished unfinished) = OfOwn volume tag j (Unswapped volume tag j unfinished.fault unfinished.frozen tag)
  CompactRefused j (lost.Frozen m) = OfOwn volume tag j (RunFrozen volume.settings volume.start volume.number tag j tag m)
  CompactRefused j (lost.Deleted f) = OfOwn volume tag j (RunDeleted volume.settings volume.start volume.number tag j tag f)
  CompactRefused j lost.Idle = OfOwn volume tag j Never

  abbrev pub Compacts : ℕ → Finished → VolumeCall
  Compacts j finished a b =
      (end : ℕ) × (cells : ℕ) × Swapped volume.settings volume.start volume.number tag j tag finished.generation end cells finished.frozen a b

  abbrev pub CompactAnswer : ℕ → Result Finished Uncompacted → VolumeCall
  CompactAnswer j (Ok finished) = OfOwn volume tag j (Compacts j finished)
  CompactAnswer j (Err refusal) = CompactRefused j refusal
