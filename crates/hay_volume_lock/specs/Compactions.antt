-- What calls at compactions leave, and what they answer, as steps of a lane.
use Rattle.std.specs.Prelude.{◌≡◌, ℕ, ◌≤◌, min, Option, Some, None}
use Rattle.hay_core.specs.declared.entry.CoreTag.{CoreTag}
use Rattle.hay_disk.specs.Disk.{Files}
use Rattle.hay_legal.specs.declared.known.Run.{Run}
use Rattle.hay_legal.specs.declared.known.VolumeKnown.{VolumeKnown}
use Rattle.hay_legal.specs.Known.{machine_of, replica_at}
use Rattle.hay_legal.specs.Plain.{without_run}
use Rattle.hay_logical.specs.Answers.{IsRunning, StandsStepped, change_at}
use Rattle.hay_logical.specs.declared.fault.LogicalFault.{LogicalFault}
use Rattle.hay_logical.specs.declared.fault.LogicalFault.TheVariants.{Busy, Damaged, Failed, Full, Gone, Idle, NoMemory, ReadOnly, Worn}
use Rattle.hay_logical.specs.Stands.{Stands}
use Rattle.hay_logical.specs.Volumes.{Volume}
use Rattle.hay_holdings.specs.Volumes.{Call, FailedAct, HasRunOf, MetFrozen, MetIdle, RunFailed, RunWanted, Stepped, SwapFailed, VolumeCall}
use Rattle.hay_volume_lock.specs.Answers.{Never, StoreVolume, Where}
use Rattle.hay_volume_lock.specs.declared.act.Made.{Made}
use Rattle.hay_volume_lock.specs.declared.act.Made.TheVariants as made
use Rattle.hay_volume_lock.specs.declared.compactions.Examined.{Examined}

-- STEPS

-- So many cells of a compaction that stood were examined, or a failure ended it.
abbrev pub Examines : {D P : Type 0} → (D → Files) → Type 0 → VolumeKnown → ℕ → Run → ℕ → Volume D P → Volume D P → ℕ → Option LogicalFault → Type 0
Examines files Tells k j run cells old new n None = (n ≡ min cells run.left) × StandsStepped files Tells k j run n new
Examines files Tells k j run cells old new n (Some NoMemory) = (n ≤ min cells run.left) × StandsStepped files Tells k j run n new
Examines files Tells k j run cells old new n (Some (Failed m f)) = (m ≡ machine_of old.settings old.number j) × Stands files Tells new (change_at k j without_run)
Examines files Tells k j run cells old new n (Some (ReadOnly m)) = ⊥
Examines files Tells k j run cells old new n (Some Idle) = ⊥
Examines files Tells k j run cells old new n (Some (Damaged m at)) = ⊥
Examines files Tells k j run cells old new n (Some (Full m end need capacity)) = ⊥
Examines files Tells k j run cells old new n (Some (Gone front)) = ⊥
Examines files Tells k j run cells old new n (Some (Busy m g)) = ⊥
Examines files Tells k j run cells old new n (Some (Worn m)) = ⊥

-- a step that nothing stopped, or want of memory alone
abbrev pub StillGoes : Option LogicalFault → Type 0
StillGoes None = Unit {0}
StillGoes (Some NoMemory) = Unit {0}
StillGoes (Some (Failed m f)) = ⊥
StillGoes (Some (ReadOnly m)) = ⊥
StillGoes (Some Idle) = ⊥
StillGoes (Some (Damaged m at)) = ⊥
StillGoes (Some (Full m end need capacity)) = ⊥
StillGoes (Some (Gone front)) = ⊥
StillGoes (Some (Busy m g)) = ⊥
StillGoes (Some (Worn m)) = ⊥

-- The volume is frozen, or no compaction of the replica stands that a line of this lane began.
abbrev pub IsBarred : VolumeKnown → ℕ → ℕ → CoreTag → LogicalFault → Type 0
IsBarred k j lane begun (ReadOnly m) = k.frozen ≡ Some m
IsBarred k j lane begun Idle = (k.frozen ≡ None) × (begun.lane ≡ lane → (replica_at k j).run ≡ None)
IsBarred k j lane begun NoMemory = ⊥
IsBarred k j lane begun (Failed m f) = ⊥
IsBarred k j lane begun (Damaged m at) = ⊥
IsBarred k j lane begun (Full m end need capacity) = ⊥
IsBarred k j lane begun (Gone front) = ⊥
IsBarred k j lane begun (Busy m g) = ⊥
IsBarred k j lane begun (Worn m) = ⊥

-- it is not, and one stands
pub record MayGoOn (k : VolumeKnown) (j lane : ℕ) (begun : CoreTag) : Type 0 where
  pub thawed : k.frozen ≡ None
  pub own : begun.lane ≡ lane
  pub stands : IsRunning k j

-- what a step did; one that none of these stopped changed nothing
abbrev pub halted_made : ℕ → ℕ → LogicalFault → Made
halted_made j n NoMemory = made.Examines j n
halted_made j n (Failed m f) = made.Ends j
halted_made j n (Damaged m at) = made.Ends j
halted_made j n (ReadOnly m) = made.Tries
halted_made j n Idle = made.Tries
halted_made j n (Full m end need capacity) = made.Tries
halted_made j n (Gone front) = made.Tries
halted_made j n (Busy m g) = made.Tries
halted_made j n (Worn m) = made.Tries

abbrev pub stopped_made : ℕ → ℕ → Option LogicalFault → Made
stopped_made j n None = made.Examines j n
stopped_made j n (Some fault) = halted_made j n fault

abbrev pub step_made : ℕ → Examined → Made
step_made j examined = stopped_made j examined.cells examined.refused

-- ENDS

-- what was done where a compaction did not end with a swap: the volume may be frozen then by a machine
abbrev pub unswapped_made : ℕ → LogicalFault → Option ℕ → Made
unswapped_made j (Failed m f) None = made.Ends j
unswapped_made j (Failed m f) (Some machine) = made.Poises machine j
unswapped_made j NoMemory frozen = made.Ends j
unswapped_made j (Damaged m at) frozen = made.Ends j
unswapped_made j (ReadOnly m) frozen = made.Tries
unswapped_made j Idle frozen = made.Tries
unswapped_made j (Full m end need capacity) frozen = made.Tries
unswapped_made j (Gone front) frozen = made.Tries
unswapped_made j (Busy m g) frozen = made.Tries
unswapped_made j (Worn m) frozen = made.Tries

module _ (volume : StoreVolume) (tag : CoreTag) where
  -- of a compaction that a line of this lane began
  abbrev pub OfLane : (CoreTag → VolumeCall) → VolumeCall
  OfLane Is a b = (who : CoreTag) × (who.lane ≡ tag.lane) × Is who a b

  -- of the line's own compaction, which stood behind all that its lane had seen
  abbrev pub OfOwn : ℕ → VolumeCall → VolumeCall
  OfOwn j Is a b = HasRunOf volume.settings volume.start volume.number j tag a.seen → Is a b

  -- a call of the disk of replica j failed in the act
  abbrev pub FailedHere : ℕ → ℕ → ℕ → VolumeCall
  FailedHere j m f =
      Where (m ≡ machine_of volume.settings volume.number j)
      (Call volume.settings volume.start volume.number tag (λ held made. FailedAct volume.settings volume.start volume.number j f held made))

  abbrev pub StepHalted : ℕ → ℕ → ℕ → LogicalFault → VolumeCall
  StepHalted j cells n (ReadOnly m) = MetFrozen volume.settings volume.start volume.number tag m
  StepHalted j cells n Idle = MetIdle volume.settings volume.start volume.number tag j
  StepHalted j cells n (Failed m f) =
      Where (m ≡ machine_of volume.settings volume.number j) (OfLane (λ who. RunFailed volume.settings volume.start volume.number tag j who f))
  StepHalted j cells n NoMemory = OfLane (λ who. Stepped volume.settings volume.start volume.number tag j who n (λ left. n ≤ min cells left))
  StepHalted j cells n (Damaged m at) = Never
  StepHalted j cells n (Full m end need capacity) = Never
  StepHalted j cells n (Gone front) = Never
  StepHalted j cells n (Busy m g) = Never
  StepHalted j cells n (Worn m) = Never

  abbrev pub StepStops : ℕ → ℕ → ℕ → Option LogicalFault → VolumeCall
  StepStops j cells n None = OfLane (λ who. Stepped volume.settings volume.start volume.number tag j who n (λ left. n ≡ min cells left))
  StepStops j cells n (Some fault) = StepHalted j cells n fault

  -- what a step found and did, by how many cells it examined and why no more
  abbrev pub StepAnswer : ℕ → ℕ → Examined → VolumeCall
  StepAnswer j cells examined = StepStops j cells examined.cells examined.refused

  -- The compaction that this line began did not end with a swap. A volume that was frozen then was so by the machine of the replica.
  abbrev pub Unswapped : ℕ → LogicalFault → Option ℕ → CoreTag → VolumeCall
  Unswapped j (Failed m f) None who = Where (m ≡ machine_of volume.settings volume.number j) (RunFailed volume.settings volume.start volume.number tag j who f)
  Unswapped j (Failed m f) (Some machine) who =
      Where ((m ≡ machine_of volume.settings volume.number j) × (machine ≡ m)) (SwapFailed volume.settings volume.start volume.number tag j who machine f)
  Unswapped j NoMemory frozen who = RunWanted volume.settings volume.start volume.number tag j who
  Unswapped j (ReadOnly m) frozen who = Never
  Unswapped j Idle frozen who = Never
  Unswapped j (Damaged m at) frozen who = Never
  Unswapped j (Full m end need capacity) frozen who = Never
  Unswapped j (Gone front) frozen who = Never
  Unswapped j (Busy m g) frozen who = Never
  Unswapped j (Worn m) frozen who = Never
