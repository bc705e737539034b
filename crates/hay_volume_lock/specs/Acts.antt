-- The acts of holdings.
use Rattle.std.specs.Prelude.{◌≢◌, ℕ, List, map}
use Rattle.std.specs.List.{AllByRecursion as Each}
use Rattle.hay_core.specs.declared.entry.CoreTag.{CoreTag}
use Rattle.hay_meeting.specs.declared.act.VolumeAct.{VolumeAct}
use Rattle.hay_meeting.specs.declared.act.VolumeDid.{VolumeDid}
use Rattle.hay_meeting.specs.declared.act.VolumeDid.TheVariants as did
use Rattle.hay_physical.specs.OpenCopies.{Copy}
use Rattle.hay_volume_lock.specs.declared.act.Made.{Made}
use Rattle.hay_volume_lock.specs.declared.act.Made.TheVariants as made

-- the count of each replica's disk
abbrev pub counts : {D : Type 0} → (D → ℕ) → List (Copy D) → List ℕ
counts count replicas = map (λ r. count r.disk) replicas

-- what was done, as lanes tell it
abbrev pub did_by : Made → VolumeDid
did_by made.Tries = did.Tries
did_by (made.Enters change ended) = did.Entered change ended
did_by (made.Pends m change failed) = did.Pends m change failed
did_by (made.Freezes m) = did.Freezes m
did_by (made.Flushes j) = did.Flushes j
did_by (made.Sticks j) = did.Sticks j
did_by (made.Begins j) = did.Begins j
did_by (made.Fuses j) = did.Fuses j
did_by (made.Examines j n) = did.Examines j n
did_by (made.Ends j) = did.Ends j
did_by (made.Swaps j end cells frozen) = did.Swaps j end cells frozen
did_by (made.Poises m j) = did.Poises m j

-- the act of the line, with the counts behind it
abbrev pub act_of : {D : Type 0} → (D → ℕ) → (D → ℕ) → CoreTag → Made → List (Copy D) → VolumeAct
act_of faults fuses tag made replicas =
    record { seat = tag.lane; tag = tag; did = did_by made; faults = counts faults replicas; fuses = counts fuses replicas }

-- none of these acts set a fuse
abbrev pub SetNoFuse : List VolumeAct → Type 0
SetNoFuse acts = Each (λ act. (j : ℕ) → act.did ≢ did.Fuses j) acts
