-- Who is refused and why, where memory suffices, as statements over lists of legal turns. They are proved in proofs/Refusals.antt.
use Rattle.std.specs.Prelude.{◌≡◌, ◌≢◌, ℕ, ◌-◌, ◌^◌, ◌<◌, List, ◌∷◌, ◌++◌}
use Rattle.std.specs.List.{AllByRecursion as Each}
use Rattle.hay_needle.specs.declared.settings.Settings.{Settings}
use Rattle.hay_script.specs.declared.Command.TheVariants as command
use Rattle.hay_reply.specs.declared.ClosedBy.{ClosedBy}
use Rattle.hay_reply.specs.declared.Reply.{Reply}
use Rattle.hay_reply.specs.declared.Reply.TheVariants.{Failed, FailedDir, NoMem, Restarted, Drained, Undrained, ReadOnly, ReadOnlyDir, Begun, Compacted, Idle, Stored, Deleted}
use Rattle.hay_reply.specs.declared.Reply.TheVariants.{Photo, Gone, Absent, WrongCookie, Unknown, Moved, Url, Full, Unreadable, Damaged, Flushed, Stepped, Busy, Worn, Fused}
use Rattle.hay_reply.specs.declared.Reply.TheVariants.{FusedDir, Nowhere, BadLine}
use Rattle.hay_legal.specs.declared.known.HomeRow.{HomeRow}
use Rattle.hay_legal.specs.declared.known.Known.{Known}
use Rattle.hay_legal.specs.declared.turn.Item.{Item}
use Rattle.hay_legal.specs.declared.turn.Item.TheVariants as item
use Rattle.hay_legal.specs.declared.turn.Turn.{Turn}
use Rattle.hay_legal.specs.declared.turn.Turn.TheVariants.{Plain, Lanes, Restart}
use Rattle.hay_legal.specs.Known.{disk_count}
use Rattle.hay_legal.specs.Legal.{Legal}
use Rattle.hay_legal.specs.Stands.{Contents, Found, Outside}
use Rattle.hay_legal.specs.Statuses.{Ending, HoldsNew, IsNew, RunsTo, status_of}
use Rattle.hay_legal.specs.Statuses.Ending.{OutputFault, InputFault, NoMemory, TooLong}
use Rattle.hay_legal.specs.Subject.{IsOf, NothingFailed}

-- a reply that tells neither of a failed change nor of want of memory
abbrev pub IsUntroubled : Reply → Type 0
IsUntroubled (Failed v m f) = ⊥
IsUntroubled (FailedDir f) = ⊥
IsUntroubled NoMem = ⊥
IsUntroubled (Stored v p d c) = Unit {0}
IsUntroubled (Deleted v p d) = Unit {0}
IsUntroubled (Photo v m p d bytes) = Unit {0}
IsUntroubled (Gone v m p d) = Unit {0}
IsUntroubled (Absent v p d) = Unit {0}
IsUntroubled (WrongCookie v m p d) = Unit {0}
IsUntroubled (Unknown d) = Unit {0}
IsUntroubled (Moved v d) = Unit {0}
IsUntroubled (Url d url) = Unit {0}
IsUntroubled (Full tries) = Unit {0}
IsUntroubled (ReadOnly tries) = Unit {0}
IsUntroubled ReadOnlyDir = Unit {0}
IsUntroubled (Unreadable v p d causes) = Unit {0}
IsUntroubled (Damaged v m at) = Unit {0}
IsUntroubled (Flushed v m n) = Unit {0}
IsUntroubled (Begun v m g) = Unit {0}
IsUntroubled (Stepped v m n) = Unit {0}
IsUntroubled (Compacted v m g) = Unit {0}
IsUntroubled (Busy v m g) = Unit {0}
IsUntroubled (Idle v m) = Unit {0}
IsUntroubled (Worn v m) = Unit {0}
IsUntroubled (Drained m) = Unit {0}
IsUntroubled (Undrained m) = Unit {0}
IsUntroubled (Fused v m n) = Unit {0}
IsUntroubled (FusedDir n) = Unit {0}
IsUntroubled Nowhere = Unit {0}
IsUntroubled (Restarted d) = Unit {0}
IsUntroubled BadLine = Unit {0}

-- a plain turn or a restart that is answered so
abbrev pub GoesWell : Turn → Type 0
GoesWell (Plain line item reply after) = IsUntroubled reply
GoesWell (Lanes items logs rows after) = ⊥
GoesWell (Restart line pick reply notes after) = IsUntroubled reply

-- READ-ONLY

-- a turn that does not end the drain of this machine
abbrev pub LeavesDrained : ℕ → Turn → Type 0
LeavesDrained m (Plain line item reply after) = reply ≢ Undrained m
LeavesDrained m (Lanes items logs rows after) = Unit {0}
LeavesDrained m (Restart line pick reply notes after) = (d : ℕ) → reply ≢ Restarted d

-- A line drained the machine, and it is drained still.
pub record WasDrained (turns : List Turn) (m : ℕ) : Type 0 where
  pub before : List Turn
  pub line : ℕ
  pub after : Known
  pub since : List Turn
  pub parts : turns ≡ before ++ Plain line (item.Command (command.Drain m)) (Drained m) after ∷ since
  pub stays : Each (LeavesDrained m) since

-- a put or a delete
abbrev pub IsChange : Item → Type 0
IsChange (item.Command (command.Put pair bytes)) = Unit {0}
IsChange (item.Command (command.Del pair)) = Unit {0}
IsChange _ = ⊥

-- As long as no line was answered that a change failed, or that memory was wanting, only a put and a delete are answered
-- `readonly`, and for machines that the script drained.
abbrev pub ReadOnlyIsADrain : Type 0
ReadOnlyIsADrain =
    (settings : Settings) (k t : Known) (earlier later : List Turn) (line : ℕ) (item : Item) (by : List ClosedBy) (after : Known)
    → IsNew settings k → Each GoesWell earlier
    → Legal settings k (earlier ++ Plain line item (ReadOnly by) after ∷ later) t
    → IsChange item × Each (λ closed. WasDrained earlier closed.machine) by

-- So long nothing is answered `readonly dir`.
abbrev pub ReadOnlyDirIsAFailure : Type 0
ReadOnlyDirIsAFailure =
    (settings : Settings) (k t : Known) (earlier later : List Turn) (line : ℕ) (item : Item) (after : Known)
    → IsNew settings k → Each GoesWell earlier
    → Legal settings k (earlier ++ Plain line item ReadOnlyDir after ∷ later) t → ⊥

-- IDLE

-- a plain turn that goes well and does not finish the compaction of the replica of v on m
abbrev pub LeavesStanding : ℕ → ℕ → Turn → Type 0
LeavesStanding v m (Plain line item reply after) = IsUntroubled reply × ((g : ℕ) → reply ≢ Compacted v m g)
LeavesStanding v m (Lanes items logs rows after) = ⊥
LeavesStanding v m (Restart line pick reply notes after) = ⊥

-- Where nothing failed, a compaction that was begun is not called idle before it is finished, memory is wanting or the store
-- is opened again.
abbrev pub BegunIsNotIdle : Type 0
BegunIsNotIdle =
    (settings : Settings) (k t : Known) (earlier between later : List Turn) (line line' v m g : ℕ) (asked : Item) (after after' : Known)
    → IsOf settings k
    → Legal settings k
    (earlier ++ Plain line (item.Command (command.Begin v m)) (Begun v m g) after
    ∷ (between ++ Plain line' asked (Idle v m) after' ∷ later)) t
    → NothingFailed k t → Each (LeavesStanding v m) between → ⊥

-- STATUS 0

-- No count of a disk or of the shelf rose from those taken to those given back, and none stands at its end.
pub record NothingRose (settings : Settings) (taken given : Outside) : Type 0 where
  pub disks : (slot : ℕ) → slot < disk_count settings → (given.faults slot ≡ taken.faults slot) × (taken.faults slot < 2 ^ 64 - 1)
  pub shelf : (given.shelf ≡ taken.shelf) × (taken.shelf < 2 ^ 64 - 1)

-- Where nothing rose, a run ends with status 0 unless its source or its sink failed, memory was wanting, or its script is too long.
abbrev pub CalmRunEndsWell : Type 1
CalmRunEndsWell =
    (replica : Settings → ℕ → ℕ → Contents → Found → Type 0) (rows : Settings → Contents → List HomeRow → Type 0) (void : Contents → Type 0)
    (settings : Settings) (k : Known) (ending : Ending) (script read : List ℕ) (taken : Outside) (written : List ℕ) (given : Outside)
    → HoldsNew (replica settings) (rows settings) settings taken k → NothingRose settings taken given
    → RunsTo replica rows void settings k ending script read taken written given
    → ending ≢ OutputFault → ending ≢ InputFault → ending ≢ NoMemory → ending ≢ TooLong
    → status_of ending ≡ 0
