-- What a check of a store tells, and what it leaves.
use Rattle.std.specs.Prelude.{◌≡◌, ◌⊎◌, ◌≤◌, ◌<◌, ◌+◌, ℕ, Bool, true, false, List, [], ◌∷◌, ◌++◌, length, Option, Result, Ok, Err, codes}
use Rattle.std.specs.List.{list_any}
use Rattle.hay_disk.specs.Counts.{Rose}
use Rattle.hay_disk.specs.Shelf.{HeldDisk}
use Rattle.hay_disk.specs.Streams.{Wrote, WrotePart}
use Rattle.hay_mount.specs.Mounts.{InOrder, LeavesAsRead}
use Rattle.hay_needle.specs.declared.settings.Settings.{Settings}
use Rattle.hay_reply.specs.declared.Note.{Note}
use Rattle.hay_reply.specs.declared.Note.TheVariants.{OpenShelf}
use Rattle.hay_reply.specs.Fits.{FitsNote}
use Rattle.hay_reply.specs.Replies.{field, header_line, note_line}
use Rattle.hay_check.specs.Verdicts.{CheckOf, IsJournalVerdict, IsReplicaVerdict, JournalCheckOf}
use Rattle.hay_check.specs.declared.verdict.CheckFault.{CheckFault}
use Rattle.hay_check.specs.declared.verdict.CheckFault.TheVariants as fault
use Rattle.hay_check.specs.declared.verdict.Verdict.{Verdict}
use Rattle.hay_check.specs.declared.verdict.Verdict.TheVariants.{Void, Rows, Whole, Damaged}
use Rattle.hay_legal.specs.Known.{disk_count, slot_of}
use Rattle.hay_legal.specs.Stands.{Contents, Outside}
use Rattle.hay_legal.specs.Statuses.{read_contents, status_of}
use Rattle.hay_directory.specs.Rows.{journal_super}
use Rattle.hay_logical.specs.Fits.{super_of}
use Rattle.hay_cluster.specs.declared.fault.ClusterFault.{ClusterFault}
use Rattle.hay_cluster.specs.declared.fault.ClusterFault.TheVariants as refusal
use Rattle.hay_run.specs.declared.stops.Stop.{Stop}
use Rattle.hay_run.specs.Runs.{TellsDisk}
use Rattle.hay_run.specs.Stops.{ending_of}

-- THE TEXT

-- a verdict in words
abbrev pub verdict_text : Verdict → List ℕ
verdict_text Void = codes "void"
verdict_text (Rows rows) = codes "rows" ++ field rows
verdict_text (Whole generation cells live records end old) =
    codes "whole" ++ field generation ++ field cells ++ field live ++ field records ++ field end ++ field old
verdict_text (Damaged file at) = codes "damaged" ++ field file ++ field at

-- the line of the disk in a slot
abbrev pub verdict_line : ℕ → Verdict → List ℕ
verdict_line slot verdict = codes "check" ++ field slot ++ codes " " ++ verdict_text verdict ++ codes "\n"

-- the lines of the disks from this slot on
abbrev pub verdict_lines : ℕ → List Verdict → List ℕ
verdict_lines slot [] = []
verdict_lines slot (verdict ∷ verdicts) = verdict_line slot verdict ++ verdict_lines (slot + 1) verdicts

abbrev pub check_text : Settings → List Verdict → List ℕ
check_text settings verdicts = header_line settings ++ verdict_lines 0 verdicts

-- THE VERDICTS

-- This is the verdict on the disk in a slot, which has these contents: in slot 0 on the Directory's journal, in each other on
-- the replica whose slot it is.
pub record IsVerdictOn (settings : Settings) (slot : ℕ) (contents : Contents) (verdict : Verdict) : Type 0 where
  pub journal : slot ≡ 0 → JournalCheckOf (journal_super settings) contents verdict
  pub replica : (v j : ℕ) → v < settings.volumes → j < settings.replicas → slot ≡ slot_of settings v j → CheckOf (super_of settings v j) contents verdict

-- This is a verdict that there is on the disk in a slot, whatever it tells: in slot 0 on the Directory's, in each other on a replica's.
pub record IsVerdictIn (slot : ℕ) (verdict : Verdict) : Type 0 where
  pub journal : slot ≡ 0 → IsJournalVerdict verdict
  pub replica : 0 < slot → IsReplicaVerdict verdict

-- The verdicts on the first disks, one for each in order.
pub record AreVerdicts (Tells : Type 0) (settings : Settings) (contents : ℕ → Contents) (verdicts : List Verdict) : Type 0 where
  pub few : length verdicts ≤ disk_count settings
  pub kinds : InOrder IsVerdictIn 0 verdicts
  pub each : Tells → InOrder (λ slot verdict. IsVerdictOn settings slot (contents slot) verdict) 0 verdicts

abbrev pub is_damaged : Verdict → Bool
is_damaged Void = false
is_damaged (Rows rows) = false
is_damaged (Whole generation cells live records end old) = false
is_damaged (Damaged file at) = true

-- HOW A CHECK ENDS

-- all disks were checked: with status 8 one of them is damaged, with status 0 none is
abbrev pub ChecksAll : Settings → List Verdict → ℕ → Option (List ℕ) → Option (List ℕ) → Type 0
ChecksAll settings verdicts status before after =
    (length verdicts ≡ disk_count settings)
    × (((status ≡ 0) × (list_any is_damaged verdicts ≡ false)) ⊎ ((status ≡ 8) × (list_any is_damaged verdicts ≡ true)))
    × Wrote before (check_text settings verdicts) after

-- the disk in this slot, which is one of the store's, was not checked, as this note tells, with numbers of their types: the shelf failed, and
-- its count rose to the one that is told; or the disk did
abbrev pub IsBreak : Settings → Outside → Outside → ℕ → Note → Type 0
IsBreak settings taken given slot note =
    FitsNote note × (slot < disk_count settings)
    × (((count : ℕ) × (note ≡ OpenShelf count) × Rose taken.shelf given.shelf × (count ≡ given.shelf))
    ⊎ TellsDisk settings taken given note slot)

-- the disk behind those that were checked was not, as the last line tells
abbrev pub BreaksOff : Settings → Outside → Outside → List Verdict → Option (List ℕ) → Option (List ℕ) → Type 0
BreaksOff settings taken given verdicts before after =
    (note : Note) × IsBreak settings taken given (length verdicts) note × Wrote before (check_text settings verdicts ++ note_line note) after

-- only a front of such a text was written
abbrev pub CutsShort : Settings → Outside → Outside → List Verdict → Option (List ℕ) → Option (List ℕ) → Type 0
CutsShort settings taken given verdicts before after =
    WrotePart before (check_text settings verdicts) after
    ⊎ ((note : Note) × IsBreak settings taken given (length verdicts) note × WrotePart before (check_text settings verdicts ++ note_line note) after)

-- What was written at each status, of disks that were taken and given back.
pub record ChecksTo (Tells : Type 0) (settings : Settings) (status : ℕ) (taken given : Outside) (before after : Option (List ℕ)) : Type 0 where
  pub verdicts : List Verdict
  pub are : AreVerdicts Tells settings (read_contents taken) verdicts
  pub ends : ChecksAll settings verdicts status before after
      ⊎ ((status ≡ 6) × BreaksOff settings taken given verdicts before after)
      ⊎ (((status ≡ 3) ⊎ (status ≡ 5)) × CutsShort settings taken given verdicts before after)

-- WHAT IS LEFT OF THE DISKS

-- A check changes no byte of a disk, and a stop behind it leaves what reads gave, unless the disk is as it was.
pub record IsUnchanged (Tells : Type 0) (old new : HeldDisk) : Type 0 where
  pub now : Tells → (n : ℕ) → (new.files n).now ≡ (old.files n).now
  pub left : Tells → (new.files ≡ old.files) ⊎ LeavesAsRead old.files new.files
  pub faults : old.fault_count ≤ new.fault_count
  pub fuses : new.fuse_count ≡ old.fuse_count
  pub back : new.is_out ≡ old.is_out

-- WHY A DISK WAS NOT CHECKED

abbrev pub not_checked : ℕ → CheckFault → ClusterFault
not_checked slot (fault.Failed faults) = refusal.Failed slot faults
not_checked slot fault.NoMemory = refusal.NoMemory

-- this is why the disk in a slot was not checked, while the count of the shelf and that of the disk went from these to those
abbrev pub IsFaultAt : ℕ → ℕ → ℕ → ℕ → ℕ → ClusterFault → Type 0
IsFaultAt slot shelf shelf' disk disk' (refusal.Shelf faults) = Rose shelf shelf' × (faults ≡ shelf')
IsFaultAt slot shelf shelf' disk disk' (refusal.Failed faulty faults) = (faulty ≡ slot) × Rose disk disk' × (faults ≡ disk')
IsFaultAt slot shelf shelf' disk disk' (refusal.Damaged faulty file at) = ⊥
IsFaultAt slot shelf shelf' disk disk' refusal.NoMemory = Unit {0}

-- the status of a check that ends so
abbrev pub check_status : Result Bool Stop → ℕ
check_status (Ok false) = 0
check_status (Ok true) = 8
check_status (Err stop) = status_of (ending_of stop)
