-- What a run does.
use Rattle.std.specs.Prelude.{◌≡◌, ◌⊎◌, ◌<◌, ℕ, List, ◌∷◌, ◌++◌, [], length, Option, Some, option_map, Result, Ok, Err}
use Rattle.std.specs.List.{AllByRecursion}
use Rattle.hay_disk.specs.Counts.{Rose, StaysSure}
use Rattle.hay_disk.specs.Shelf.{HeldArm, HeldDisk}
use Rattle.hay_needle.specs.declared.settings.Settings.{Settings}
use Rattle.hay_script.specs.declared.words.TheConstants.{MAX_SCRIPT}
use Rattle.hay_reply.specs.declared.Note.{Note}
use Rattle.hay_reply.specs.declared.Note.TheVariants.{OpenShelf, OpenFailed, OpenDamaged}
use Rattle.hay_reply.specs.Replies.{header_line, note_line}
use Rattle.hay_legal.specs.Stands.{Outside}
use Rattle.hay_legal.specs.declared.known.Known.{Known}
use Rattle.hay_legal.specs.Known.{disk_count}
use Rattle.hay_legal.specs.Statuses.{Ending, HoldsNew, RunsTo, read_contents}
use Rattle.hay_legal.specs.Statuses.Ending.{ReadAll, OutputFault, InputFault, NoMemory, NotOpened, TooLong}
use Rattle.hay_directory.specs.Rows.{OpensRows}
use Rattle.hay_logical.specs.Fits.{IsReplica}
use Rattle.hay_cluster.specs.Causes.{HasFile}
use Rattle.hay_cluster.specs.Outside.{AreSoundBelow, CountsOn, IsDamagedDisk, IsKept, IsUndamaged, IsUndamagedBelow, IsVoid}
use Rattle.hay_run.specs.declared.stops.Stop.{Stop}
use Rattle.hay_run.specs.declared.stops.Stop.TheVariants as stop
use Rattle.hay_run.specs.Turns.{FitsAnswers}

-- The disks that were taken are void, or have rows and replicas of these settings: they hold k.
abbrev pub IsTaken : Settings → Outside → Known → Type 0
IsTaken settings taken k = HoldsNew (IsReplica settings) (OpensRows settings) settings taken k

-- a front of a script was read
abbrev pub ReadFront : List ℕ → List ℕ → Option (List ℕ) → Type 0
ReadFront script read left = (rest : List ℕ) × (script ≡ read ++ rest) × (left ≡ Some rest)

-- These bytes of a script were read: all of it, all that a script may have, behind which one byte more came, or its front.
abbrev pub ReadBytes : Ending → List ℕ → List ℕ → Option (List ℕ) → Type 0
ReadBytes ReadAll script read left = (script ≡ read) × (left ≡ Some [])
ReadBytes TooLong script read left =
    (length read ≡ MAX_SCRIPT) × ((byte : ℕ) × (rest : List ℕ) × (script ≡ read ++ byte ∷ rest) × (left ≡ Some rest))
ReadBytes OutputFault script read left = ReadFront script read left
ReadBytes InputFault script read left = ReadFront script read left
ReadBytes NoMemory script read left = ReadFront script read left
ReadBytes NotOpened script read left = ReadFront script read left

-- A run of a script over disks that hold k, which ends so: what was read, what was written behind what the sink held, and what
-- the disks that were given back hold.
pub record RanTo (settings : Settings) (k : Known) (ending : Ending) (script : List ℕ) (left : Option (List ℕ)) (taken given : Outside) (held : List ℕ) (written : Option (List ℕ)) : Type 0 where
  pub read : List ℕ
  pub bytes : ReadBytes ending script read left
  pub text : List ℕ
  pub wrote : written ≡ Some (held ++ text)
  pub runs : RunsTo IsReplica OpensRows IsVoid settings k ending script read taken text given
  pub fits : AllByRecursion FitsAnswers (runs.turns)

-- a source that tells has still what it had
abbrev pub IsUnread : Option (List ℕ) → Option (List ℕ) → Type 0
IsUnread before after = (script : List ℕ) × (before ≡ Some script) × (after ≡ Some script)

-- something was read of a source that tells
abbrev pub WasRead : Option (List ℕ) → Option (List ℕ) → Type 0
WasRead before after = (script : List ℕ) × (before ≡ Some script) × (after ≡ Some script → ⊥)

-- the disk in this slot failed, and its count rose to the one that is told
abbrev pub TellsDisk : Settings → Outside → Outside → Note → ℕ → Type 0
TellsDisk settings taken given note slot =
    (count : ℕ) × (note ≡ OpenFailed slot count) × (slot < disk_count settings)
    × Rose (taken.faults slot) (given.faults slot) × (count ≡ given.faults slot)

-- Why the first opening was refused, as it is told: the shelf failed, and its count rose to the one that is told; a disk failed,
-- and none in a lower slot was damaged; or the disk in a slot is damaged at the place that is told, as it was taken and as it was
-- given back. Each disk in a lower slot is given back formatted and not damaged.
abbrev pub IsFirstRefusal : Type 0 → Settings → Outside → Outside → Note → Type 0
IsFirstRefusal Tells settings taken given note =
    ((count : ℕ) × (note ≡ OpenShelf count) × Rose taken.shelf given.shelf × (count ≡ given.shelf))
    ⊎ ((slot : ℕ) × TellsDisk settings taken given note slot
    × (Tells → IsUndamagedBelow settings slot (read_contents taken) × AreSoundBelow settings slot (read_contents given)))
    ⊎ ((slot : ℕ) × (file : ℕ) × (at : ℕ) × (note ≡ OpenDamaged slot file at) × HasFile settings slot file
    × (Tells → IsDamagedDisk settings (read_contents taken) slot file at × IsDamagedDisk settings (read_contents given) slot file at
    × AreSoundBelow settings slot (read_contents given)))

-- Why the opening of a restart was refused, as it is told: a disk failed; or the disks that were taken were not whole, though nothing
-- that was read of them was damaged, and the disk in a slot is damaged at the place that is told, as it was given back. Each disk in a
-- lower slot is given back formatted and not damaged.
abbrev pub IsLaterRefusal : Type 0 → Settings → Outside → Outside → Note → Type 0
IsLaterRefusal Tells settings taken given note =
    ((slot : ℕ) × TellsDisk settings taken given note slot × (Tells → AreSoundBelow settings slot (read_contents given)))
    ⊎ ((slot : ℕ) × (file : ℕ) × (at : ℕ) × (note ≡ OpenDamaged slot file at) × HasFile settings slot file
    × (Tells → ((k : Known) → IsTaken settings taken k → ⊥) × IsUndamaged settings (read_contents taken) × IsDamagedDisk settings (read_contents given) slot file at
    × AreSoundBelow settings slot (read_contents given)))

-- A run whose store was never opened: why, as all that was written behind what was written before tells. Nothing of the script
-- was read, and each disk that was not void is as it was taken, but for its count.
pub record RefusedFirst (Tells : Type 0) (settings : Settings) (disks disks' : ℕ → HeldDisk) (taken given : Outside) (left left' before after : Option (List ℕ)) : Type 0 where
  pub note : Note
  pub why : IsFirstRefusal Tells settings taken given note
  pub told : (held : List ℕ) → before ≡ Some held → after ≡ Some (held ++ note_line note)
  pub unread : left' ≡ left
  pub kept : Tells → (slot : ℕ) → slot < disk_count settings → IsKept slot (disks slot) (disks' slot)
  pub counts : (slot : ℕ) → slot < disk_count settings → CountsOn (disks slot) (disks' slot).fault_count (disks' slot).fuse_count

-- A run whose store was not opened again at a restart: why, as the last line that was written tells. The line that asked for it
-- was read.
pub record RefusedLater (Tells : Type 0) (settings : Settings) (taken given : Outside) (left left' before after : Option (List ℕ)) : Type 0 where
  pub note : Note
  pub why : IsLaterRefusal Tells settings taken given note
  pub told : (held : List ℕ) → before ≡ Some held → (text : List ℕ) × (after ≡ Some (held ++ text ++ note_line note))
  pub read : IsUnread left left' → ⊥

-- the store was not opened, at first or again
abbrev pub IsNotOpenedBehind : Type 0 → Settings → (ℕ → HeldDisk) → (ℕ → HeldDisk) → Outside → Outside → Option (List ℕ) → Option (List ℕ) → Option (List ℕ) → Option (List ℕ) → Type 0
IsNotOpenedBehind Tells settings disks disks' taken given left left' before after =
    RefusedFirst Tells settings disks disks' taken given left left' before after ⊎ RefusedLater Tells settings taken given left left' before after

-- so it is behind the header
abbrev pub IsNotOpened : Type 0 → Settings → (ℕ → HeldDisk) → (ℕ → HeldDisk) → Outside → Outside → Option (List ℕ) → Option (List ℕ) → Option (List ℕ) → Option (List ℕ) → Type 0
IsNotOpened Tells settings disks disks' taken given left left' before after =
    IsNotOpenedBehind Tells settings disks disks' taken given left left' (option_map (λ held. held ++ header_line settings) before) after

-- the store was opened before the run ended so
abbrev pub HasOpened : Result (Unit {0}) Stop → Type 0
HasOpened (Ok done) = Unit {0}
HasOpened (Err stop.Output) = ⊥
HasOpened (Err stop.Input) = Unit {0}
HasOpened (Err stop.NoMemory) = ⊥
HasOpened (Err stop.Store) = ⊥
HasOpened (Err stop.TooLong) = Unit {0}

-- an arm that is sure stays so, and its count stays
abbrev pub IsSureStill : HeldArm → HeldArm → Type 0
IsSureStill old new = StaysSure old.is_sure new.is_sure old.fault_count new.fault_count
