-- Lines of a script that a load has taken, and what came of them.
use Rattle.std.specs.Prelude.{◌≡◌, ◌≢◌, ◌⊎◌, ◌≤◌, ℕ, Bool, false, List, [], ◌++◌, map, Option, Some}
use Rattle.hay_needle.specs.declared.settings.Settings.{Settings}
use Rattle.hay_disk.specs.Disk.{Files}
use Rattle.hay_disk.specs.Streams.{Took, Wrote, WrotePart}
use Rattle.hay_script.specs.Script.{lines_of}
use Rattle.hay_script.specs.declared.words.TheConstants.{MAX_SCRIPT}
use Rattle.hay_batch.specs.declared.store.LoadStore.{LoadStore}
use Rattle.hay_batch.specs.Shelves.{MayLeaveDisks, StandsAs, StoredStore}
use Rattle.hay_batch.specs.Stores.{IsShaped, KeepsCounts}
use Rattle.hay_load.specs.declared.loading.Loading.{Loading}
use Rattle.hay_load.specs.Gathering.{Group, OpenBatch, groups_from}
use Rattle.hay_load.specs.Loads.{FailsFirst, LeavesFirst, Loads, held_of}
use Rattle.hay_loading.specs.declared.stops.Stop.{Stop}
use Rattle.hay_loading.specs.declared.stops.Stop.TheVariants as stop
use Rattle.hay_legal.specs.Items.{fed_part}
use Rattle.hay_lines.specs.Lines.{TookOver, TookPart}
use Rattle.hay_loading.specs.Endings.{IsFront, ReadFront, ReadOver, ReadsTo, batch_count, ended_from, groups_before, says, script_groups}

-- THE LINES THAT ARE LEFT

-- what bytes make whose first line has this number, behind an open batch
abbrev pub rest_groups : Settings → ℕ → Option OpenBatch → List ℕ → List Group
rest_groups settings number held rest = groups_from settings number held (map says (lines_of rest))

-- of the bytes that are left these groups come first
abbrev pub ComeNext : Settings → ℕ → Option OpenBatch → Option (List ℕ) → List Group → Type 0
ComeNext settings number held left groups = (rest : List ℕ) → left ≡ Some rest → IsFront groups (rest_groups settings number held rest)

-- these groups come of the bytes that were left, and then those that come of the bytes that are left now
abbrev pub Makes : Settings → ℕ → Option OpenBatch → Option (List ℕ) → List Group → ℕ → Option OpenBatch → Option (List ℕ) → Type 0
Makes settings number held left groups number' held' left' =
    (rest : List ℕ) → left ≡ Some rest → (rest' : List ℕ) × (left' ≡ Some rest')
    × (rest_groups settings number held rest ≡ groups ++ rest_groups settings number' held' rest')

-- what bytes end
abbrev pub ended_groups : Settings → ℕ → Option OpenBatch → List ℕ → List Group
ended_groups settings number held bytes = ended_from settings number held (map says (lines_of bytes))

-- Whole lines were taken: whatever comes behind them, they end these groups, and this batch is open behind them, or none.
pub record TookWhole (settings : Settings) (number : ℕ) (held : Option OpenBatch) (left : Option (List ℕ)) (groups : List Group) (number' : ℕ) (held' : Option OpenBatch)
    (left' : Option (List ℕ)) : Type 0 where
  pub bytes : List ℕ
  pub took : Took left bytes left'
  pub fed : (more : List ℕ) → fed_part (bytes ++ more) ≡ bytes ++ fed_part more
  pub ends : (more : List ℕ) → ended_groups settings number held (bytes ++ more) ≡ groups ++ ended_groups settings number' held' more

-- bytes were taken of those that were left, and these groups end with their lines that a line feed ends, or they are all that was left
abbrev pub EndsWithin : Settings → ℕ → Option OpenBatch → List Group → Option (List ℕ) → Option (List ℕ) → Type 0
EndsWithin settings number held groups left after = (rest : List ℕ) → left ≡ Some rest
    → (bytes : List ℕ) × Took (Some rest) bytes after × (IsFront groups (ended_groups settings number held (fed_part bytes)) ⊎ (bytes ≡ rest))

-- Where the source failed, or more came than a script may have, no line was taken whole; otherwise the groups that a load stops with end
-- within what was taken.
abbrev pub BreaksIn : Settings → ℕ → Option OpenBatch → List Group → Stop → Option (List ℕ) → Option (List ℕ) → Type 0
BreaksIn settings number held groups stop.Output left after = EndsWithin settings number held groups left after
BreaksIn settings number held groups stop.Input left after = TookPart left after
BreaksIn settings number held groups stop.NoMemory left after = EndsWithin settings number held groups left after
BreaksIn settings number held groups stop.Store left after = EndsWithin settings number held groups left after
BreaksIn settings number held groups stop.TooLong left after = TookOver left after

-- so these groups of a script, and the next, are among those of the lines that were read, or the first are just these
abbrev pub BreaksOff : Settings → Stop → List ℕ → List Group → List Group → Option (List ℕ) → Type 0
BreaksOff settings stop.Output script groups next after = ReadsTo settings script after (groups ++ next)
BreaksOff settings stop.Input script groups next after = (read : List ℕ) × ReadFront script read after × (groups ≡ groups_before settings read)
BreaksOff settings stop.NoMemory script groups next after = ReadsTo settings script after (groups ++ next)
BreaksOff settings stop.Store script groups next after = ReadsTo settings script after (groups ++ next)
BreaksOff settings stop.TooLong script groups next after = (read : List ℕ) × ReadOver script read after × (groups ≡ groups_before settings read)

-- what is written of a text, from what a sink held before to what it holds after
abbrev pub Writing : Type 1
Writing = Option (List ℕ) → List ℕ → Option (List ℕ) → Type 0

-- a sink that tells holds what it held, and perhaps more behind it
abbrev pub Appends : Option (List ℕ) → Option (List ℕ) → Type 0
Appends before after = (held : List ℕ) → before ≡ Some held → (text : List ℕ) × (after ≡ Some (held ++ text))

-- GROUPS THAT WERE ANSWERED

-- These groups were answered, and the lines of the replies were written, or a front of them.
pub record Told {D : Type 0} (Tells : Type 0) (files : D → Files) (Writes : Writing) (groups : List Group) (store store' : LoadStore D) (written written' : Option (List ℕ)) : Type 0 where
  pub text : List ℕ
  pub loads : Loads Tells files groups store store' [] text
  pub wrote : Writes written text written'

-- whatever a stop leaves has what was stored, and perhaps the whole batch that is the first of these groups
abbrev pub Leaves : {D : Type 0} → Type 0 → (D → Files) → List Group → LoadStore D → LoadStore D → Type 0
Leaves Tells files groups store store' =
    Tells → (s : StoredStore) (image : ℕ → ℕ → List ℕ) → StandsAs files store s → MayLeaveDisks files store' image → LeavesFirst store.settings groups image s

-- A disk failed while the first of these groups was loaded, and the line that tells it was written, or a front of it.
pub record FailsTold {D : Type 0} (Tells : Type 0) (files : D → Files) (fault_count : D → ℕ) (Writes : Writing) (groups : List Group) (store store' : LoadStore D)
    (written written' : Option (List ℕ)) : Type 0 where
  pub text : List ℕ
  pub fails : FailsFirst fault_count groups store store' [] text
  pub wrote : Writes written text written'
  pub leaves : Leaves Tells files groups store store'

-- what was done of these groups by a load that stops with them
abbrev pub StopsIn : {D : Type 0} → Type 0 → (D → Files) → (D → ℕ) → Stop → List Group → LoadStore D → LoadStore D → Option (List ℕ) → Option (List ℕ) → Type 0
StopsIn Tells files fault_count stop.Output groups store store' written written' =
    (Told Tells files WrotePart groups store store' written written' × (groups ≢ [])) ⊎ FailsTold Tells files fault_count WrotePart groups store store' written written'
StopsIn Tells files fault_count stop.Input groups store store' written written' = (store' ≡ store) × (written' ≡ written)
StopsIn Tells files fault_count stop.NoMemory groups store store' written written' = Leaves Tells files groups store store' × (written' ≡ written)
StopsIn Tells files fault_count stop.Store groups store store' written written' = FailsTold Tells files fault_count Wrote groups store store' written written'
StopsIn Tells files fault_count stop.TooLong groups store store' written written' = (store' ≡ store) × (written' ≡ written)

-- LINES THAT WERE TAKEN

-- The groups that lines end were answered, and the script's end was met or not.
pub record Takes {D : Type 0} (Tells : Type 0) (files : D → Files) (load : Loading D) (number : ℕ) (left written : Option (List ℕ)) (load' : Loading D) (number' : ℕ)
    (left' written' : Option (List ℕ)) (ended : Bool) : Type 0 where
  pub groups : List Group
  pub whole : ended ≡ false → TookWhole load.store.settings number (held_of load.held) left groups number' (held_of load'.held) left'
  pub makes : Makes load.store.settings number (held_of load.held) left groups number' (held_of load'.held) left'
  pub told : Told Tells files Wrote groups load.store load'.store written written'

-- A load stops with the groups that come next, of which one is a batch, while its source comes to what it has left.
pub record Stops {D : Type 0} (Tells : Type 0) (files : D → Files) (fault_count : D → ℕ) (why : Stop) (load : Loading D) (number : ℕ) (left written : Option (List ℕ))
    (store' : LoadStore D) (written' : Option (List ℕ)) (after : Option (List ℕ)) : Type 0 where
  pub groups : List Group
  pub broke : BreaksIn load.store.settings number (held_of load.held) groups why left after
  pub next : ComeNext load.store.settings number (held_of load.held) left groups
  pub one : batch_count groups ≤ 1
  pub stops : StopsIn Tells files fault_count why groups load.store store' written written'

-- A SCRIPT

-- All of its groups were answered.
pub record ServesAll {D : Type 0} (Tells : Type 0) (files : D → Files) (left : Option (List ℕ)) (store store' : LoadStore D) (written written' : Option (List ℕ)) : Type 0 where
  pub groups : List Group
  pub all : (script : List ℕ) → left ≡ Some script → groups ≡ script_groups store.settings script
  pub told : Told Tells files Wrote groups store store' written written'

-- Its first groups were answered, and then the load stopped with the next, of which one is a batch.
pub record ServesUntil {D : Type 0} (Tells : Type 0) (files : D → Files) (fault_count fuse_count : D → ℕ) (why : Stop) (left after : Option (List ℕ)) (store store' : LoadStore D)
    (written written' : Option (List ℕ)) : Type 0 where
  pub groups : List Group
  pub next : List Group
  pub broke : (script : List ℕ) → left ≡ Some script → BreaksOff store.settings why script groups next after
  pub front : (script : List ℕ) → left ≡ Some script → IsFront (groups ++ next) (script_groups store.settings script)
  pub one : batch_count next ≤ 1
  pub mid : LoadStore D
  pub middle : Option (List ℕ)
  pub told : Told Tells files Wrote groups store mid written middle
  pub settings : mid.settings ≡ store.settings
  pub shape : IsShaped mid
  pub counts : KeepsCounts fault_count fuse_count store mid
  pub stops : StopsIn Tells files fault_count why next mid store' middle written'
