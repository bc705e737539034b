-- Which disks of a store a command leaves as they are.
use Rattle.std.specs.Prelude.{◌≡◌, ◌≢◌, ◌⊎◌, ◌++◌, ◌∷◌, [], ℕ, ◌<◌, List, None, Some, slice_get}
use Rattle.hay_needle.specs.declared.needle.Cookie.{Cookie}
use Rattle.hay_needle.specs.declared.settings.Settings.{Settings}
use Rattle.hay_script.specs.declared.Command.{Command}
use Rattle.hay_script.specs.declared.Command.TheVariants as asks
use Rattle.hay_reply.specs.declared.Reply.{Reply}
use Rattle.hay_reply.specs.declared.Reply.TheVariants as reply
use Rattle.hay_logical.specs.declared.fault.LogicalFault.{LogicalFault}
use Rattle.hay_logical.specs.declared.fault.LogicalFault.TheVariants as refusal
use Rattle.hay_needle.specs.declared.needle.Pair.{Pair}
use Rattle.hay_legal.specs.declared.known.HomeRow.{HomeRow}
use Rattle.hay_directory.specs.Rows.{OpensRows}
use Rattle.hay_logical.specs.Fits.{At}
use Rattle.hay_logical.specs.Seen.{VolumeSeen}
use Rattle.hay_logical.specs.declared.unsure.Unsure.{Unsure}
use Rattle.hay_legal.specs.Known.{disk_count, replica_on, slot_of}
use Rattle.hay_legal.specs.Stands.{Contents}

-- SLOTS

abbrev pub AnySlot : ℕ → Type 0
AnySlot slot = Unit {0}

-- the slot of a replica, not the Directory's
abbrev pub IsReplicaSlot : ℕ → Type 0
IsReplicaSlot slot = slot ≢ 0

-- the slot of none of this volume's replicas
abbrev pub IsBeside : Settings → ℕ → ℕ → Type 0
IsBeside settings v slot = (j : ℕ) → j < settings.replicas → slot ≢ slot_of settings v j

-- the slot of another volume's replica
abbrev pub IsReplicaBeside : Settings → ℕ → ℕ → Type 0
IsReplicaBeside settings v slot = IsReplicaSlot slot × IsBeside settings v slot

-- any slot but that of replica j of volume v, and but that of the volume's replica on machine m
abbrev pub IsApart : Settings → ℕ → ℕ → ℕ → Type 0
IsApart settings v j slot = slot ≢ slot_of settings v j

abbrev pub IsApartOn : Settings → ℕ → ℕ → ℕ → Type 0
IsApartOn settings v m slot = (j : ℕ) → replica_on settings v m ≡ Some j → IsApart settings v j slot

-- the disks in these slots are as they were
abbrev pub LeavesIn : {D : Type 0} → (ℕ → Type 0) → List D → List D → Type 0
LeavesIn Among old new = (slot : ℕ) → Among slot → slice_get new slot ≡ slice_get old slot

-- reads of the disks in these slots give what they gave
abbrev pub KeepsIn : Settings → (ℕ → Type 0) → (ℕ → Contents) → (ℕ → Contents) → Type 0
KeepsIn settings Among old new = (slot file : ℕ) → slot < disk_count settings → Among slot → new slot file ≡ old slot file

-- CHANGES

-- No change was pending in the volume, and one is now.
pub record ComesToPend (v : ℕ) (old new : List VolumeSeen) : Type 0 where
  pub before : VolumeSeen
  pub after : VolumeSeen
  pub was : At old v before
  pub is : At new v after
  pub settled : before.unsure ≡ None
  pub change : Unsure
  pub pends : after.unsure ≡ Some change

-- Replicas of the volume have what they had that a change never reached: those behind the one on the machine that failed.
abbrev pub KeepsBehind : Settings → ℕ → ℕ → (ℕ → Contents) → (ℕ → Contents) → Type 0
KeepsBehind settings v m old new = (i j file : ℕ) → replica_on settings v m ≡ Some i → i < j → j < settings.replicas → new (slot_of settings v j) file ≡ old (slot_of settings v j) file

-- A delete that volume v refused leaves every disk, unless one failed and it is pending: then those behind that one.
abbrev pub DeleteKeeps : Settings → ℕ → List VolumeSeen → List VolumeSeen → (ℕ → Contents) → (ℕ → Contents) → LogicalFault → Type 0
DeleteKeeps settings v before after old new (refusal.Failed m f) =
    (ComesToPend v before after × KeepsBehind settings v m old new) ⊎ KeepsIn settings AnySlot old new
DeleteKeeps settings v before after old new (refusal.ReadOnly m) = KeepsIn settings AnySlot old new
DeleteKeeps settings v before after old new (refusal.Full m end need capacity) = KeepsIn settings AnySlot old new
DeleteKeeps settings v before after old new (refusal.Gone front) = KeepsIn settings AnySlot old new
DeleteKeeps settings v before after old new (refusal.Busy m generation) = KeepsIn settings AnySlot old new
DeleteKeeps settings v before after old new (refusal.Worn m) = KeepsIn settings AnySlot old new
DeleteKeeps settings v before after old new refusal.Idle = KeepsIn settings AnySlot old new
DeleteKeeps settings v before after old new (refusal.Damaged m at) = KeepsIn settings AnySlot old new
DeleteKeeps settings v before after old new refusal.NoMemory = KeepsIn settings AnySlot old new

-- A put leaves every disk where its volume is closed or lacks room, and where memory was wanting, unless it is pending.
abbrev pub PutKeeps : Settings → ℕ → List VolumeSeen → List VolumeSeen → (ℕ → Contents) → (ℕ → Contents) → LogicalFault → Type 0
PutKeeps settings v before after old new (refusal.Failed m f) = KeepsBehind settings v m old new
PutKeeps settings v before after old new refusal.NoMemory = ComesToPend v before after ⊎ KeepsIn settings AnySlot old new
PutKeeps settings v before after old new (refusal.ReadOnly m) = KeepsIn settings AnySlot old new
PutKeeps settings v before after old new (refusal.Full m end need capacity) = KeepsIn settings AnySlot old new
PutKeeps settings v before after old new (refusal.Gone front) = Unit {0}
PutKeeps settings v before after old new (refusal.Busy m generation) = Unit {0}
PutKeeps settings v before after old new (refusal.Worn m) = Unit {0}
PutKeeps settings v before after old new refusal.Idle = Unit {0}
PutKeeps settings v before after old new (refusal.Damaged m at) = Unit {0}

-- The Directory's rows stay, or one of this pair stands behind them.
abbrev pub AddsRow : Settings → Pair → Contents → Contents → Type 0
AddsRow settings pair old new =
    (rows : List HomeRow) → OpensRows settings old rows →
    OpensRows settings new rows ⊎ ((v : ℕ) × (v < settings.volumes) × OpensRows settings new (rows ++ record { pair = pair; volume = v } ∷ []))

-- COMMANDS

-- A put changes the disks of the volume that stored its photo, or where it is pending now: then of no replica behind the one that
-- failed.
abbrev pub MayPut : Reply → List VolumeSeen → List VolumeSeen → (ℕ → Contents) → (ℕ → Contents) → Settings → ℕ → Type 0
MayPut said before after old new settings v =
    ((p : ℕ) × (d : ℕ) × (c : Cookie) × (said ≡ reply.Stored v p d c))
    ⊎ ((m : ℕ) × (f : ℕ) × (said ≡ reply.Failed v m f) × KeepsBehind settings v m old new)
    ⊎ ((said ≡ reply.NoMem) × ComesToPend v before after)

-- So does a delete.
abbrev pub MayDelete : Reply → List VolumeSeen → List VolumeSeen → (ℕ → Contents) → (ℕ → Contents) → Settings → ℕ → Type 0
MayDelete said before after old new settings v =
    ((p : ℕ) × (d : ℕ) × (said ≡ reply.Deleted v p d))
    ⊎ ((m : ℕ) × (f : ℕ) × (said ≡ reply.Failed v m f) × ComesToPend v before after × KeepsBehind settings v m old new)

-- Of the Directory's disk a put adds at most a row of its pair, where it may have: it was stored, or failed, or wanted memory.
abbrev pub MayAddRow : Reply → Type 0
MayAddRow said =
    ((v : ℕ) × (p : ℕ) × (d : ℕ) × (c : Cookie) × (said ≡ reply.Stored v p d c))
    ⊎ ((v : ℕ) × (m : ℕ) × (f : ℕ) × (said ≡ reply.Failed v m f))
    ⊎ ((f : ℕ) × (said ≡ reply.FailedDir f))
    ⊎ (said ≡ reply.NoMem)

-- of the replicas' disks a put changes those of one volume
abbrev pub LeavesReplicas : Settings → Reply → List VolumeSeen → List VolumeSeen → (ℕ → Contents) → (ℕ → Contents) → Type 0
LeavesReplicas settings said before after old new =
    ((v : ℕ) × MayPut said before after old new settings v × KeepsIn settings (IsReplicaBeside settings v) old new) ⊎ KeepsIn settings IsReplicaSlot old new

pub record LeavesByPut (settings : Settings) (pair : Pair) (said : Reply) (before after : List VolumeSeen) (old new : ℕ → Contents) : Type 0 where
  pub replicas : LeavesReplicas settings said before after old new
  pub rows : (MayAddRow said × AddsRow settings pair (old 0) (new 0)) ⊎ (new 0 ≡ old 0)

abbrev pub LeavesByDelete : Settings → Reply → List VolumeSeen → List VolumeSeen → (ℕ → Contents) → (ℕ → Contents) → Type 0
LeavesByDelete settings said before after old new =
    ((v : ℕ) × MayDelete said before after old new settings v × KeepsIn settings (IsBeside settings v) old new) ⊎ KeepsIn settings AnySlot old new

-- Work on a replica leaves every disk where it was refused before anything was done.
abbrev pub WorkKeeps : Settings → (ℕ → Contents) → (ℕ → Contents) → LogicalFault → Type 0
WorkKeeps settings old new (refusal.ReadOnly m) = KeepsIn settings AnySlot old new
WorkKeeps settings old new (refusal.Busy m generation) = KeepsIn settings AnySlot old new
WorkKeeps settings old new (refusal.Worn m) = KeepsIn settings AnySlot old new
WorkKeeps settings old new refusal.Idle = KeepsIn settings AnySlot old new
WorkKeeps settings old new (refusal.Failed m f) = Unit {0}
WorkKeeps settings old new (refusal.Damaged m at) = Unit {0}
WorkKeeps settings old new refusal.NoMemory = Unit {0}
WorkKeeps settings old new (refusal.Full m end need capacity) = Unit {0}
WorkKeeps settings old new (refusal.Gone front) = Unit {0}

-- It changes its replica's disk alone, and only where it was done, failed, met a damaged needle or wanted memory.
abbrev pub MayWork : Reply → Type 0
MayWork said =
    ((v : ℕ) × (m : ℕ) × (n : ℕ) × ((said ≡ reply.Flushed v m n) ⊎ (said ≡ reply.Begun v m n) ⊎ (said ≡ reply.Stepped v m n) ⊎ (said ≡ reply.Compacted v m n)
    ⊎ (said ≡ reply.Failed v m n) ⊎ (said ≡ reply.Damaged v m n)))
    ⊎ (said ≡ reply.NoMem)

-- Where the volume takes changes then, the files of the replica on this machine were swapped, as it is answered, or its head stays.
abbrev pub KeepsHeadOn : Settings → ℕ → ℕ → Reply → List VolumeSeen → (ℕ → Contents) → (ℕ → Contents) → Type 0
KeepsHeadOn settings v m said after old new = (volume : VolumeSeen) (j : ℕ) → At after v volume → volume.frozen ≡ None → replica_on settings v m ≡ Some j
    → ((generation : ℕ) × (said ≡ reply.Compacted v m generation)) ⊎ (new (slot_of settings v j) 0 ≡ old (slot_of settings v j) 0)

abbrev pub LeavesByWork : Settings → ℕ → ℕ → Reply → List VolumeSeen → (ℕ → Contents) → (ℕ → Contents) → Type 0
LeavesByWork settings v m said after old new =
    (MayWork said × KeepsIn settings (IsApartOn settings v m) old new × KeepsHeadOn settings v m said after old new) ⊎ KeepsIn settings AnySlot old new

-- What reads give of the disks is changed by puts, deletes and work as their replies tell. Where there is no such replica, every disk
-- stays; so it does with reads, drains and fuses.
abbrev pub LeavesContents : Settings → Command → Reply → List VolumeSeen → List VolumeSeen → (ℕ → Contents) → (ℕ → Contents) → Type 0
LeavesContents settings (asks.Put pair photo) said before after old new = LeavesByPut settings pair said before after old new
LeavesContents settings (asks.Del pair) said before after old new = LeavesByDelete settings said before after old new
LeavesContents settings (asks.Flush v m) said before after old new = LeavesByWork settings v m said after old new
LeavesContents settings (asks.Compact v m) said before after old new = LeavesByWork settings v m said after old new
LeavesContents settings (asks.Begin v m) said before after old new = LeavesByWork settings v m said after old new
LeavesContents settings (asks.Step v m cells) said before after old new = LeavesByWork settings v m said after old new
LeavesContents settings (asks.Finish v m) said before after old new = LeavesByWork settings v m said after old new
LeavesContents settings (asks.Read pair cookie) said before after old new = KeepsIn settings AnySlot old new
LeavesContents settings (asks.Get url) said before after old new = KeepsIn settings AnySlot old new
LeavesContents settings (asks.Url pair) said before after old new = KeepsIn settings AnySlot old new
LeavesContents settings (asks.Drain m) said before after old new = KeepsIn settings AnySlot old new
LeavesContents settings (asks.Undrain m) said before after old new = KeepsIn settings AnySlot old new
LeavesContents settings (asks.Fuse v m calls) said before after old new = KeepsIn settings AnySlot old new
LeavesContents settings (asks.FuseDir calls) said before after old new = KeepsIn settings AnySlot old new
LeavesContents settings (asks.Restart pick) said before after old new = Unit {0}
