-- What an answer and a fault say of the counts of faults, from before the call to behind it.
use Rattle.std.specs.Prelude.{◌≡◌, ◌<◌, ℕ, Bool, List, Option, Some, None, slice_index, slice_set}
use Rattle.std.specs.List.{AllZip}
use Rattle.hay_needle.specs.declared.settings.Settings.{Settings}
use Rattle.hay_disk.specs.Counts.{IsNext, Rose, StaysSure}
use Rattle.hay_script.specs.declared.Command.{Command}
use Rattle.hay_script.specs.declared.Command.TheVariants as asks
use Rattle.hay_reply.specs.declared.Reply.{Reply}
use Rattle.hay_reply.specs.declared.Reply.TheVariants as reply
use Rattle.hay_legal.specs.Known.{disk_count, machine_of, replica_on, slot_of}
use Rattle.hay_legal.specs.Suiting.{IsOn}
use Rattle.hay_open.specs.Stored.{IsSlotFile}
use Rattle.hay_logical.specs.Seen.{SeesAt}
use Rattle.hay_logical.specs.declared.fault.LogicalFault.{LogicalFault}
use Rattle.hay_logical.specs.declared.fault.LogicalFault.TheVariants as refusal
use Rattle.hay_cluster.specs.declared.fault.ClusterFault.{ClusterFault}
use Rattle.hay_cluster.specs.declared.fault.ClusterFault.TheVariants as fault
use Rattle.hay_cluster.specs.declared.maintenance.Maintenance.{Maintenance}
use Rattle.hay_cluster.specs.declared.maintenance.Maintenance.TheVariants.{Flush, Begin, Step, Finish, Compact}
use Rattle.hay_cluster.specs.Seen.{StoreSeen, VolumeAt}

-- The counts of the disks' faults by slot, and those of the arms' by lane.
pub record Counts : Type 0 where
  pub disks : List ℕ
  pub arms : List ℕ

-- the count of a slot's disk rose, to this
abbrev pub RoseIn : ℕ → List ℕ → List ℕ → ℕ → Type 0
RoseIn slot before after count = Rose (slice_index before slot) (slice_index after slot) × (count ≡ slice_index after slot)

-- so did that of a replica's disk on this machine
pub record RoseAt (settings : Settings) (v m : ℕ) (before after : List ℕ) (count : ℕ) : Type 0 where
  pub replica : ℕ
  pub there : replica_on settings v m ≡ Some replica
  pub rose : Rose (slice_index before (slot_of settings v replica)) (slice_index after (slot_of settings v replica))
  pub told : count ≡ slice_index after (slot_of settings v replica)

-- A reply tells of a disk's failure only where the count that it prints rose. Of the replicas that a read passes over Passing tells.
abbrev pub IsCaused : Settings → List ℕ → List ℕ → Reply → Type 0
IsCaused settings before after (reply.Failed v m count) = RoseAt settings v m before after count
IsCaused settings before after (reply.FailedDir count) = RoseIn 0 before after count
IsCaused settings before after (reply.Unreadable v front rows causes) = Unit {0}
IsCaused settings before after (reply.Stored v p d c) = Unit {0}
IsCaused settings before after (reply.Deleted v p d) = Unit {0}
IsCaused settings before after (reply.Photo v m p d bytes) = Unit {0}
IsCaused settings before after (reply.Gone v m p d) = Unit {0}
IsCaused settings before after (reply.Absent v p d) = Unit {0}
IsCaused settings before after (reply.WrongCookie v m p d) = Unit {0}
IsCaused settings before after (reply.Unknown d) = Unit {0}
IsCaused settings before after (reply.Moved v d) = Unit {0}
IsCaused settings before after (reply.Url d url) = Unit {0}
IsCaused settings before after (reply.Full tries) = Unit {0}
IsCaused settings before after (reply.ReadOnly tries) = Unit {0}
IsCaused settings before after reply.ReadOnlyDir = Unit {0}
IsCaused settings before after (reply.Damaged v m at) = Unit {0}
IsCaused settings before after (reply.Flushed v m n) = Unit {0}
IsCaused settings before after (reply.Begun v m g) = Unit {0}
IsCaused settings before after (reply.Stepped v m n) = Unit {0}
IsCaused settings before after (reply.Compacted v m g) = Unit {0}
IsCaused settings before after (reply.Busy v m g) = Unit {0}
IsCaused settings before after (reply.Idle v m) = Unit {0}
IsCaused settings before after (reply.Worn v m) = Unit {0}
IsCaused settings before after (reply.Drained m) = Unit {0}
IsCaused settings before after (reply.Undrained m) = Unit {0}
IsCaused settings before after (reply.Fused v m n) = Unit {0}
IsCaused settings before after (reply.FusedDir n) = Unit {0}
IsCaused settings before after reply.Nowhere = Unit {0}
IsCaused settings before after (reply.Restarted d) = Unit {0}
IsCaused settings before after reply.BadLine = Unit {0}
IsCaused settings before after reply.NoMem = Unit {0}

-- the disk in a slot of the store may have this file
abbrev pub HasFile : Settings → ℕ → ℕ → Type 0
HasFile settings slot file = (slot < disk_count settings) × IsSlotFile slot file

-- So does an opening. The shelf has no part in what is done to disks.
abbrev pub HasFaultCause : Settings → List ℕ → List ℕ → ClusterFault → Type 0
HasFaultCause settings before after (fault.Shelf count) = ⊥
HasFaultCause settings before after (fault.Failed slot count) =
    (slot < disk_count settings) × Rose (slice_index before slot) (slice_index after slot) × (count ≡ slice_index after slot)
HasFaultCause settings before after (fault.Damaged slot file at) = HasFile settings slot file
HasFaultCause settings before after fault.NoMemory = Unit {0}

-- A compaction of volume v ended only where the count of its replica's disk rose.
abbrev pub EndsByFaults : Settings → ℕ → StoreSeen → StoreSeen → List ℕ → List ℕ → Type 0
EndsByFaults settings v old new before after =
    (j goal : ℕ) → VolumeAt v (SeesAt j (λ r. r.goal ≡ Some goal)) old → VolumeAt v (SeesAt j (λ r. r.goal ≡ None)) new
    → Rose (slice_index before (slot_of settings v j)) (slice_index after (slot_of settings v j))

-- so it is of a delete
abbrev pub EndsRuns : Settings → Reply → StoreSeen → StoreSeen → List ℕ → List ℕ → Type 0
EndsRuns settings said old new before after = (v p d : ℕ) → said ≡ reply.Deleted v p d → EndsByFaults settings v old new before after

-- HOW MANY FUSES WERE SET

-- one fuse more was set on the disk in this slot, and none on another
abbrev pub SetsFuse : ℕ → List ℕ → List ℕ → Type 0
SetsFuse slot before after = (n : ℕ) × IsNext (slice_index before slot) n × (after ≡ slice_set before slot n)

-- so was it on the disk of a volume's replica on this machine, where there is one
abbrev pub SetsFuseOn : Settings → ℕ → ℕ → List ℕ → List ℕ → Type 0
SetsFuseOn settings v m before after = sets (replica_on settings v m)
  where
    sets : Option ℕ → Type 0
    sets (Some j) = SetsFuse (slot_of settings v j) before after
    sets None = after ≡ before

-- what a command leaves of how many fuses were set on each disk
abbrev pub LeavesFuses : Settings → Command → List ℕ → List ℕ → Type 0
LeavesFuses settings (asks.Fuse v m calls) before after = SetsFuseOn settings v m before after
LeavesFuses settings (asks.FuseDir calls) before after = SetsFuse 0 before after
LeavesFuses settings (asks.Put pair photo) before after = after ≡ before
LeavesFuses settings (asks.Read pair cookie) before after = after ≡ before
LeavesFuses settings (asks.Get url) before after = after ≡ before
LeavesFuses settings (asks.Del pair) before after = after ≡ before
LeavesFuses settings (asks.Url pair) before after = after ≡ before
LeavesFuses settings (asks.Flush v m) before after = after ≡ before
LeavesFuses settings (asks.Drain m) before after = after ≡ before
LeavesFuses settings (asks.Undrain m) before after = after ≡ before
LeavesFuses settings (asks.Compact v m) before after = after ≡ before
LeavesFuses settings (asks.Begin v m) before after = after ≡ before
LeavesFuses settings (asks.Step v m cells) before after = after ≡ before
LeavesFuses settings (asks.Finish v m) before after = after ≡ before
LeavesFuses settings (asks.Restart pick) before after = after ≡ before

-- WHAT A VOLUME'S REFUSALS TELL

-- a put, a delete and work on one replica are refused only so
abbrev pub RefusesPut : LogicalFault → Type 0
RefusesPut (refusal.Failed m count) = Unit {0}
RefusesPut (refusal.ReadOnly m) = Unit {0}
RefusesPut (refusal.Full m end need capacity) = Unit {0}
RefusesPut refusal.NoMemory = Unit {0}
RefusesPut (refusal.Gone front) = ⊥
RefusesPut (refusal.Busy m generation) = ⊥
RefusesPut (refusal.Worn m) = ⊥
RefusesPut refusal.Idle = ⊥
RefusesPut (refusal.Damaged m at) = ⊥

abbrev pub RefusesDelete : LogicalFault → Type 0
RefusesDelete (refusal.Failed m count) = Unit {0}
RefusesDelete (refusal.ReadOnly m) = Unit {0}
RefusesDelete (refusal.Gone front) = Unit {0}
RefusesDelete refusal.NoMemory = Unit {0}
RefusesDelete (refusal.Full m end need capacity) = ⊥
RefusesDelete (refusal.Busy m generation) = ⊥
RefusesDelete (refusal.Worn m) = ⊥
RefusesDelete refusal.Idle = ⊥
RefusesDelete (refusal.Damaged m at) = Unit {0}

abbrev pub RefusesWork : LogicalFault → Type 0
RefusesWork (refusal.Full m end need capacity) = ⊥
RefusesWork (refusal.Gone front) = ⊥
RefusesWork (refusal.Failed m count) = Unit {0}
RefusesWork (refusal.ReadOnly m) = Unit {0}
RefusesWork (refusal.Busy m generation) = Unit {0}
RefusesWork (refusal.Worn m) = Unit {0}
RefusesWork refusal.Idle = Unit {0}
RefusesWork (refusal.Damaged m at) = Unit {0}
RefusesWork refusal.NoMemory = Unit {0}

-- each kind of work has refusals of its own, and what the replica refuses names its machine
abbrev pub RefusesFlush : ℕ → LogicalFault → Type 0
RefusesFlush here (refusal.Failed m count) = m ≡ here
RefusesFlush here (refusal.ReadOnly m) = Unit {0}
RefusesFlush here refusal.NoMemory = Unit {0}
RefusesFlush here (refusal.Full m end need capacity) = ⊥
RefusesFlush here (refusal.Gone front) = ⊥
RefusesFlush here (refusal.Busy m generation) = ⊥
RefusesFlush here (refusal.Worn m) = ⊥
RefusesFlush here refusal.Idle = ⊥
RefusesFlush here (refusal.Damaged m at) = ⊥

abbrev pub RefusesBegin : ℕ → LogicalFault → Type 0
RefusesBegin here (refusal.Failed m count) = m ≡ here
RefusesBegin here (refusal.ReadOnly m) = Unit {0}
RefusesBegin here (refusal.Busy m generation) = m ≡ here
RefusesBegin here (refusal.Worn m) = m ≡ here
RefusesBegin here refusal.NoMemory = Unit {0}
RefusesBegin here (refusal.Full m end need capacity) = ⊥
RefusesBegin here (refusal.Gone front) = ⊥
RefusesBegin here refusal.Idle = ⊥
RefusesBegin here (refusal.Damaged m at) = ⊥

-- a step and a finish
abbrev pub RefusesRun : ℕ → LogicalFault → Type 0
RefusesRun here (refusal.Failed m count) = m ≡ here
RefusesRun here (refusal.ReadOnly m) = Unit {0}
RefusesRun here refusal.Idle = Unit {0}
RefusesRun here (refusal.Damaged m at) = m ≡ here
RefusesRun here refusal.NoMemory = Unit {0}
RefusesRun here (refusal.Full m end need capacity) = ⊥
RefusesRun here (refusal.Gone front) = ⊥
RefusesRun here (refusal.Busy m generation) = ⊥
RefusesRun here (refusal.Worn m) = ⊥

abbrev pub RefusesCompact : ℕ → LogicalFault → Type 0
RefusesCompact here (refusal.Failed m count) = m ≡ here
RefusesCompact here (refusal.ReadOnly m) = Unit {0}
RefusesCompact here (refusal.Busy m generation) = m ≡ here
RefusesCompact here (refusal.Worn m) = m ≡ here
RefusesCompact here (refusal.Damaged m at) = m ≡ here
RefusesCompact here refusal.NoMemory = Unit {0}
RefusesCompact here (refusal.Full m end need capacity) = ⊥
RefusesCompact here (refusal.Gone front) = ⊥
RefusesCompact here refusal.Idle = ⊥

abbrev pub RefusesOn : Maintenance → ℕ → LogicalFault → Type 0
RefusesOn Flush here fault = RefusesFlush here fault
RefusesOn Begin here fault = RefusesBegin here fault
RefusesOn (Step cells) here fault = RefusesRun here fault
RefusesOn Finish here fault = RefusesRun here fault
RefusesOn Compact here fault = RefusesCompact here fault

-- a failure is told only where the count that it prints rose
abbrev pub RoseWhereFailed : Settings → ℕ → List ℕ → List ℕ → LogicalFault → Type 0
RoseWhereFailed settings v before after (refusal.Failed m count) = RoseAt settings v m before after count
RoseWhereFailed settings v before after (refusal.ReadOnly m) = Unit {0}
RoseWhereFailed settings v before after (refusal.Full m end need capacity) = Unit {0}
RoseWhereFailed settings v before after (refusal.Gone front) = Unit {0}
RoseWhereFailed settings v before after (refusal.Busy m generation) = Unit {0}
RoseWhereFailed settings v before after (refusal.Worn m) = Unit {0}
RoseWhereFailed settings v before after refusal.Idle = Unit {0}
RoseWhereFailed settings v before after (refusal.Damaged m at) = Unit {0}
RoseWhereFailed settings v before after refusal.NoMemory = Unit {0}

-- a replica that lacks room, or whose needle is damaged, is on the machine that is told, and so is one of a frozen volume
abbrev pub IsThere : Settings → ℕ → LogicalFault → Type 0
IsThere settings v (refusal.Full m end need capacity) = IsOn settings v m
IsThere settings v (refusal.Failed m count) = Unit {0}
IsThere settings v (refusal.ReadOnly m) = IsOn settings v m
IsThere settings v (refusal.Gone front) = Unit {0}
IsThere settings v (refusal.Busy m generation) = Unit {0}
IsThere settings v (refusal.Worn m) = Unit {0}
IsThere settings v refusal.Idle = Unit {0}
IsThere settings v (refusal.Damaged m at) = IsOn settings v m
IsThere settings v refusal.NoMemory = Unit {0}

abbrev pub IsPutCause : Settings → ℕ → List ℕ → List ℕ → LogicalFault → Type 0
IsPutCause settings v before after fault = RefusesPut fault × RoseWhereFailed settings v before after fault × IsThere settings v fault

abbrev pub IsDeleteCause : Settings → ℕ → List ℕ → List ℕ → LogicalFault → Type 0
IsDeleteCause settings v before after fault = RefusesDelete fault × RoseWhereFailed settings v before after fault × IsThere settings v fault

abbrev pub IsReplicaCause : Settings → Maintenance → ℕ → ℕ → List ℕ → List ℕ → LogicalFault → Type 0
IsReplicaCause settings work v replica before after fault =
    RefusesOn work (machine_of settings v replica) fault × RoseWhereFailed settings v before after fault × IsThere settings v fault

-- ARMS THAT ARE SURE

-- each arm that was sure is still, and its count is as it was
abbrev pub StaySure : {A : Type 0} → (A → Bool) → (A → ℕ) → List A → List A → Type 0
StaySure is_sure faults old new = AllZip (λ a b. StaysSure (is_sure a) (is_sure b) (faults a) (faults b)) old new
