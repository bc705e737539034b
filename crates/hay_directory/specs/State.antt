-- When a directory stands for what is known of it.
use Rattle.std.specs.Prelude.{◌≡◌, ◌⊎◌, ◌≤◌, ◌<◌, ◌+◌, ◌^◌, ℕ, Bool, true, false, List, [], ◌∷◌, ◌++◌, length, map, replicate, Option, None, Some, IfSome, is_some, option_map}
use Rattle.hay_needle.specs.declared.needle.Pair.{Pair}
use Rattle.hay_needle.specs.declared.settings.Settings.{Settings}
use Rattle.hay_needle.specs.declared.settings.TheConstants.{MAX_MACHINES}
use Rattle.hay_disk.specs.Disk.{Files, FileState, IsFree, IsImage, IsSolid}
use Rattle.hay_disk.specs.Gate.{IsGate}
use Rattle.hay_dirfile.specs.declared.journal.Journal.{Journal}
use Rattle.hay_dirfile.specs.Journal.{journal_end, journal_magic}
use Rattle.hay_legal.specs.declared.known.DirKnown.{DirKnown}
use Rattle.hay_legal.specs.declared.known.HomeRow.{HomeRow}
use Rattle.hay_legal.specs.declared.known.PendingRow.{PendingRow}
use Rattle.hay_legal.specs.Known.{home_in}
use Rattle.hay_legal.specs.Restarts.{kept_row}
use Rattle.hay_directory.specs.declared.fault.DirFault.{DirFault}
use Rattle.hay_directory.specs.declared.fault.DirFault.TheVariants as refusal
use Rattle.hay_directory.specs.declared.mode.Mode.{Mode}
use Rattle.hay_directory.specs.declared.mode.Mode.TheVariants.{Closed, Open, Frozen}
use Rattle.hay_directory.specs.declared.mode.Unsure.{Unsure}
use Rattle.hay_directory.specs.Homes.{HomesWithin, home_among}
use Rattle.hay_directory.specs.Rows.{dir_row, HasJournal, FileHasRows, OpensRows}

-- A directory, with its disk: the homes, for how many more there is room, how many rows there are, and the drains by machine.
pub record State (D : Type 0) : Type 0 where
  pub settings : Settings
  pub disk : D
  pub journal : Journal
  pub homes : List ((ℕ × ℕ) × ℕ)
  pub room : ℕ
  pub count : ℕ
  pub drained : List Bool
  pub mode : Mode

-- MODES

abbrev pub is_closed : Mode → Bool
is_closed (Closed unsure) = true
is_closed Open = false
is_closed (Frozen unsure) = false

abbrev pub is_frozen : Mode → Bool
is_frozen (Closed unsure) = false
is_frozen Open = false
is_frozen (Frozen unsure) = true

-- the row that the journal may have or not
abbrev pub unsure_of : Mode → Option Unsure
unsure_of (Closed unsure) = unsure
unsure_of Open = None
unsure_of (Frozen unsure) = Some unsure

abbrev pub IsUp : {D : Type 0} → State D → Type 0
IsUp directory = is_closed directory.mode ≡ false

abbrev pub IsClosed : {D : Type 0} → State D → Type 0
IsClosed directory = is_closed directory.mode ≡ true

abbrev pub IsFrozen : {D : Type 0} → State D → Type 0
IsFrozen directory = is_frozen directory.mode ≡ true

-- closed, with no row to tell of
abbrev pub IsFresh : {D : Type 0} → State D → Type 0
IsFresh directory = directory.mode ≡ Closed None

-- what a row leaves that is refused: where it failed, the directory is frozen and the row is pending
abbrev pub LeavesMode : Unsure → Mode → Mode → DirFault → Type 0
LeavesMode row old new refusal.Frozen = new ≡ old
LeavesMode row old new refusal.NoMemory = new ≡ old
LeavesMode row old new (refusal.Failed faults) = new ≡ Frozen row

-- the home of a pair, by what is kept in memory
abbrev pub home_of : {D : Type 0} → State D → Pair → Option ℕ
home_of directory pair = home_among directory.homes pair

-- WHAT THE DISK HOLDS

-- Where nothing is pending the journal is wholly on the disk, and a row may be added.
pub record IsSettled (settings : Settings) (file : FileState) (end : ℕ) (rows : List HomeRow) : Type 0 where
  pub journal : HasJournal settings file.now rows
  pub solid : IsSolid file
  pub gate : IsGate journal_magic end file
  pub ends : end ≡ journal_end (map dir_row rows)

-- Else a stop leaves the rows as they stood before, or with the one whose pair had no home.
pub record IsUnsure (settings : Settings) (file : FileState) (rows : List HomeRow) (row : HomeRow) : Type 0 where
  pub images : (image : List ℕ) → IsImage file image → HasJournal settings image rows ⊎ HasJournal settings image (rows ++ row ∷ [])
  pub homeless : home_in rows row.pair ≡ None

abbrev pub HoldsRows : Settings → FileState → ℕ → List HomeRow → Option PendingRow → Type 0
HoldsRows settings file end rows None = IsSettled settings file end rows
HoldsRows settings file end rows (Some pending) = IsUnsure settings file rows pending.row

-- WHAT IS KNOWN OF AN OPEN DIRECTORY

abbrev pub unsure_row : PendingRow → Unsure
unsure_row pending = record { tag = pending.tag; row = dir_row pending.row }

abbrev pub mode_of : Option PendingRow → Mode
mode_of None = Open
mode_of (Some pending) = Frozen (unsure_row pending)

pub record StandsFor {D : Type 0} (files : D → Files) (directory : State D) (known : DirKnown) (drained : List Bool) : Type 0 where
  pub mode : directory.mode ≡ mode_of known.pending
  pub frozen : known.frozen ≡ is_some known.pending
  pub holds : HoldsRows directory.settings (files directory.disk 0) directory.journal.end known.rows known.pending
  pub homes : (pair : Pair) → home_of directory pair ≡ home_in known.rows pair
  pub count : directory.count ≡ length known.rows
  pub drained_is : drained ≡ directory.drained

-- An open directory has these rows on its disk, this one may be there, and these machines are drained.
unfoldable pub Stands : {D : Type 0} → (D → Files) → State D → DirKnown → List Bool → Type 0
Stands files directory known drained = StandsFor files directory known drained

-- A ROW THAT IS WRITTEN AND NOT SHOWN YET

-- Whatever the disk has: the directory is frozen with the row pending, as behind a failure, and the homes have room for it.
pub record IsUnshown {D : Type 0} (directory : State D) (row : Unsure) : Type 0 where
  pub mode : directory.mode ≡ Frozen row
  pub room : 1 ≤ directory.room

pub record WrittenFor {D : Type 0} (files : D → Files) (directory : State D) (known : DirKnown) (drained : List Bool) (row : HomeRow) : Type 0 where
  pub serves : known.pending ≡ None
  pub frozen : known.frozen ≡ false
  pub holds : IsSettled directory.settings (files directory.disk 0) directory.journal.end (known.rows ++ row ∷ [])
  pub homeless : home_in known.rows row.pair ≡ None
  pub homes : (pair : Pair) → home_of directory pair ≡ home_in known.rows pair
  pub count : directory.count ≡ length known.rows
  pub drained_is : drained ≡ directory.drained

-- The disk has the row behind those that are known, and all else of the directory is as known.
unfoldable pub IsRowWritten : {D : Type 0} → (D → Files) → State D → DirKnown → List Bool → HomeRow → Type 0
IsRowWritten files directory known drained row = WrittenFor files directory known drained row

-- WHAT IS ON THE DISK OF ANY DIRECTORY

pub record HoldsFor {D : Type 0} (files : D → Files) (directory : State D) (known : DirKnown) : Type 0 where
  pub images : (image : ℕ → List ℕ) → IsImage (files directory.disk 0) (image 0) →
      (kept : Bool) × OpensRows directory.settings image (known.rows ++ kept_row known.pending kept)

-- In every image an opening finds the rows, with the pending one or without it.
unfoldable pub Holds : {D : Type 0} → (D → Files) → State D → DirKnown → Type 0
Holds files directory known = HoldsFor files directory known

-- A CLOSED DIRECTORY

-- a row is pending only for a pair that has no home
abbrev pub IsDue : List HomeRow → Option PendingRow → Type 0
IsDue rows None = Unit {0}
IsDue rows (Some pending) = home_in rows (pending.row).pair ≡ None

pub record StoppedFor {D : Type 0} (files : D → Files) (directory : State D) (known : DirKnown) : Type 0 where
  pub mode : directory.mode ≡ Closed (option_map unsure_row known.pending)
  pub solid : (n : ℕ) → IsSolid (files directory.disk n)
  pub free : (n : ℕ) → IsFree (files directory.disk n)
  pub kept : Bool
  pub journal : HasJournal directory.settings (files directory.disk 0).now (known.rows ++ kept_row known.pending kept)
  pub due : IsDue known.rows known.pending

-- A directory that was stopped where these rows stood, and that knows which one was pending.
unfoldable pub Stopped : {D : Type 0} → (D → Files) → State D → DirKnown → Type 0
Stopped files directory known = StoppedFor files directory known

-- WHAT AN OPENING MAKES

-- The file has these rows now, a row may be added, and what is kept in memory is right.
pub record FindsRows (settings : Settings) (old new : FileState) (end : ℕ) (homes : List ((ℕ × ℕ) × ℕ)) (count : ℕ) (rows : List HomeRow) : Type 0 where
  pub found : FileHasRows settings old.now rows
  pub only : (more : List HomeRow) → FileHasRows settings old.now more → rows ≡ more
  pub settled : IsSettled settings new end rows
  pub homes_are : (pair : Pair) → home_among homes pair ≡ home_in rows pair
  pub count_is : count ≡ length rows

-- What a directory that is up keeps in memory: a row beyond those that it was opened with is of a pair of its own, and one that is pending is of a pair that has no home.
pub record IsKept {D : Type 0} (directory : State D) : Type 0 where
  pub few : directory.count < 2 ^ 63 + length directory.homes
  pub homeless : IfSome (unsure_of directory.mode) (λ unsure. home_of directory unsure.row.pair ≡ None)

-- What holds of every directory.
pub record IsSound {D : Type 0} (Tells : Type 0) (files : D → Files) (directory : State D) : Type 0 where
  pub machines : directory.settings.machines ≤ MAX_MACHINES
  pub long : length directory.drained ≡ directory.settings.machines
  pub within : HomesWithin directory.settings.volumes directory.homes
  pub pending : IfSome (unsure_of directory.mode) (λ unsure. unsure.row.volume < directory.settings.volumes)
  pub kept : IsUp directory → IsKept directory
  pub undrained : IsClosed directory → directory.drained ≡ replicate directory.settings.machines false
  pub stands : Tells → IsUp directory → (known : DirKnown) × StandsFor files directory known directory.drained
