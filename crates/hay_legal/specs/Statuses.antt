-- What a run has written, and what it leaves, at each status.
use Rattle.std.specs.Prelude.{◌≡◌, ℕ, ◌<◌, ◌≤◌, ◌⊎◌, false, List, [], ◌∷◌, ◌++◌, length, map, replicate, None}
use Rattle.std.specs.List.{AllByRecursion}
use Rattle.hay_disk.specs.Disk.{MayLeave}
use Rattle.hay_needle.specs.declared.settings.Settings.{Settings}
use Rattle.hay_script.specs.declared.Command.TheVariants as command
use Rattle.hay_reply.specs.declared.Note.{Note}
use Rattle.hay_reply.specs.declared.Note.TheVariants.{OpenShelf, OpenFailed}
use Rattle.hay_reply.specs.declared.Reply.TheVariants.{NoMem}
use Rattle.hay_reply.specs.Replies.{note_line}
use Rattle.hay_legal.specs.declared.known.HomeRow.{HomeRow}
use Rattle.hay_legal.specs.declared.known.Known.{Known}
use Rattle.hay_legal.specs.declared.known.ReplicaKnown.{ReplicaKnown}
use Rattle.hay_legal.specs.declared.known.VolumeKnown.{VolumeKnown}
use Rattle.hay_legal.specs.declared.turn.Item.TheVariants as item
use Rattle.hay_legal.specs.declared.turn.Turn.{Turn}
use Rattle.hay_legal.specs.declared.turn.Turn.TheVariants.{Restart}
use Rattle.hay_legal.specs.Items.{Asked, items_of, items_before, item_of_turn}
use Rattle.hay_legal.specs.Items.Asked.{Alone}
use Rattle.hay_legal.specs.Known.{CameUp, FaultsRose, arm_count, disk_count, empty_replica, fault_count, fuse_count, slot_of}
use Rattle.hay_legal.specs.Legal.{Legal}
use Rattle.hay_legal.specs.Restarts.{directory_with}
use Rattle.hay_legal.specs.Stands.{Contents, Found, HasOutcome, IsFound, Outside, StandsOn, found_of}
use Rattle.hay_legal.specs.Transcript.{transcript_text}

-- front stands at the front of all
abbrev pub IsFront : {X : Type 0} → List X → List X → Type 0
IsFront {X} front all = (rest : List X) × (all ≡ front ++ rest)

-- THE STORE THAT AN OPENING FINDS

-- Nothing has happened yet to a replica.
abbrev pub IsUntouched : ReplicaKnown → Type 0
IsUntouched replica = (replica.stuck ≡ false) × (replica.run ≡ None) × (replica.poised ≡ false)

pub record IsNewVolume (settings : Settings) (volume : VolumeKnown) : Type 0 where
  pub log : volume.log ≡ []
  pub frozen : volume.frozen ≡ None
  pub pending : volume.pending ≡ None
  pub count : length volume.replicas ≡ settings.replicas
  pub replicas : AllByRecursion IsUntouched volume.replicas

-- A store of these settings at which nothing has happened yet.
pub record IsNew (settings : Settings) (k : Known) : Type 0 where
  pub count : length k.volumes ≡ settings.volumes
  pub volumes : AllByRecursion (IsNewVolume settings) k.volumes
  pub directory : k.directory ≡ directory_with k.directory.rows
  pub drained : k.drained ≡ replicate settings.machines false
  pub disks : length k.faults ≡ disk_count settings
  pub fused : length k.fuses ≡ disk_count settings
  pub lanes : length k.arms ≡ 8

-- what reads of the disks give
abbrev pub read_contents : Outside → ℕ → Contents
read_contents outside slot file = ((outside.files slot) file).now

-- These disks hold a new store, void ones as they are when they are formatted, and its counts are those of the disks and arms.
pub record HoldsNew (replica : ℕ → ℕ → Contents → Found → Type 0) (rows : Contents → List HomeRow → Type 0) (settings : Settings) (taken : Outside) (k : Known) : Type 0 where
  pub new : IsNew settings k
  pub found : IsFound replica rows settings (read_contents taken) k
  pub faults : (slot : ℕ) → slot < disk_count settings → fault_count k slot ≡ taken.faults slot
  pub fuses : (slot : ℕ) → slot < disk_count settings → fuse_count k slot ≡ taken.fuses slot
  pub arms : (lane : ℕ) → lane < 8 → arm_count k lane ≡ taken.arms lane

-- WHAT A REFUSED OPENING LEAVES

-- If an opening finds anything in this slot, it is a new store's: no rows, and a replica without needles.
pub record FindsNothing (replica : ℕ → ℕ → Contents → Found → Type 0) (rows : Contents → List HomeRow → Type 0) (settings : Settings) (slot : ℕ) (contents : Contents) : Type 0 where
  pub directory : slot ≡ 0 → (homes : List HomeRow) → rows contents homes → homes ≡ []
  pub replicas : (v j : ℕ) → v < settings.volumes → j < settings.replicas → slot ≡ slot_of settings v j →
      (found : Found) → replica v j contents found → found ≡ found_of empty_replica

-- What stands for a slot's disk behind a first opening that was refused: what a stop may leave of it ..
abbrev pub IsImageOf : (ℕ → Contents) → ℕ → Contents → Type 0
IsImageOf image slot contents = (file : ℕ) → contents file ≡ image slot file

-- .. a void disk, where it was void and may be formatted in part, so that an opening by whatever settings finds nothing in it ..
pub record IsVoidStill (replica : Settings → ℕ → ℕ → Contents → Found → Type 0) (rows : Settings → Contents → List HomeRow → Type 0) (void : Contents → Type 0)
    (settings : Settings) (taken : Outside) (image : ℕ → Contents) (slot : ℕ) (contents : Contents) : Type 0 where
  pub was : void (read_contents taken slot)
  pub stands_for : void contents
  pub nothing : (other : Settings) → FindsNothing (replica other) (rows other) other slot (image slot)

-- .. or what reads give of it, where it is as it was taken.
abbrev pub IsAsTaken : Outside → Outside → ℕ → Contents → Type 0
IsAsTaken taken given slot contents = (given.files slot ≡ taken.files slot) × ((file : ℕ) → contents file ≡ read_contents taken slot file)

abbrev pub StandsIn : (Settings → ℕ → ℕ → Contents → Found → Type 0) → (Settings → Contents → List HomeRow → Type 0) → (Contents → Type 0) → Settings → Outside → Outside
    → (ℕ → Contents) → ℕ → Contents → Type 0
StandsIn replica rows void settings taken given image slot contents =
    IsImageOf image slot contents ⊎ IsVoidStill replica rows void settings taken image slot contents ⊎ IsAsTaken taken given slot contents

-- The first opening of the disks that hold k was refused, or not begun: in every image of those given back the next one finds
-- what k is. No fuse was set, no arm was used, and no count fell.
pub record IsUnopened (replica : Settings → ℕ → ℕ → Contents → Found → Type 0) (rows : Settings → Contents → List HomeRow → Type 0) (void : Contents → Type 0) (settings : Settings)
    (k : Known) (taken given : Outside) : Type 0 where
  pub images : (image : ℕ → Contents) → ((slot : ℕ) → slot < disk_count settings → MayLeave (given.files slot) (image slot)) →
      (contents : ℕ → Contents) × ((slot : ℕ) → slot < disk_count settings → StandsIn replica rows void settings taken given image slot (contents slot))
      × HasOutcome (replica settings) (rows settings) settings k contents
  pub faults : (slot : ℕ) → slot < disk_count settings → fault_count k slot ≤ given.faults slot
  pub fuses : (slot : ℕ) → slot < disk_count settings → fuse_count k slot ≡ given.fuses slot
  pub arms : (lane : ℕ) → lane < 8 → arm_count k lane ≡ given.arms lane

-- A restart from t was refused: the disks given back hold what t is, but for counts that may have risen.
pub record IsNotReopened (replica : ℕ → ℕ → Contents → Found → Type 0) (rows : Contents → List HomeRow → Type 0) (settings : Settings) (t : Known) (given : Outside) : Type 0 where
  pub left : Known
  pub leaves : FaultsRose t left
  pub stands : StandsOn replica rows settings left given

-- HOW A REFUSED OPENING IS TOLD

-- A disk failed, and its count came up to the one that is told.
abbrev pub TellsFailure : Settings → Known → Outside → Note → Type 0
TellsFailure settings k given note =
    (slot : ℕ) × (faults : ℕ) × (note ≡ OpenFailed slot faults) × (slot < disk_count settings) × CameUp (fault_count k slot) faults (given.faults slot)

-- the first opening takes the disks from a shelf, which may fail too
abbrev pub TellsFirst : Settings → Known → Outside → Outside → Note → Type 0
TellsFirst settings k taken given note =
    TellsFailure settings k given note ⊎ ((faults : ℕ) × (note ≡ OpenShelf faults) × CameUp taken.shelf faults given.shelf)

-- the whole of a line was written, or a front of it
abbrev pub WholeText : List ℕ → List ℕ → Type 0
WholeText written line = written ≡ line

-- these bytes were written behind the text of the turns
abbrev pub WroteBehind : (List ℕ → List ℕ → Type 0) → Settings → List Turn → List ℕ → List ℕ → Type 0
WroteBehind Much settings turns line written = (part : List ℕ) × Much part line × (written ≡ transcript_text settings turns ++ part)

-- HOW A RUN ENDS

-- how a run of a script ends, but for words that are no command
pub data Ending : Type 0 where
  ReadAll OutputFault InputFault NoMemory NotOpened TooLong : Ending

abbrev pub status_of : Ending → ℕ
status_of ReadAll = 0
status_of OutputFault = 3
status_of InputFault = 4
status_of NoMemory = 5
status_of NotOpened = 6
status_of TooLong = 7

abbrev pub asked_of : List Turn → List Asked
asked_of turns = map item_of_turn turns

-- the next item is a restart
abbrev pub RestartsNext : List Asked → List Asked → Type 0
RestartsNext asked all = (line : ℕ) × (pick : ℕ) × IsFront (asked ++ Alone line (item.Command (command.Restart pick)) ∷ []) all

-- a run that wants memory, or whose output fails before it can say so
abbrev pub EndsWanting : Ending → Type 0
EndsWanting ending = (ending ≡ NoMemory) ⊎ (ending ≡ OutputFault)

-- A restart that wanted memory is the last turn.
abbrev pub WantsLast : Ending → List Turn → Type 0
WantsLast ending turns =
    (before : List Turn) (line pick : ℕ) (notes : List Note) (after : Known) (behind : List Turn)
    → turns ≡ before ++ Restart line pick NoMem notes after ∷ behind → (behind ≡ []) × EndsWanting ending

-- no restart wanted memory
abbrev pub NoneWants : List Turn → Type 0
NoneWants turns =
    (before : List Turn) (line pick : ℕ) (notes : List Note) (after : Known) (behind : List Turn)
    → turns ≡ before ++ Restart line pick NoMem notes after ∷ behind → ⊥

module _ (replica : Settings → ℕ → ℕ → Contents → Found → Type 0) (rows : Settings → Contents → List HomeRow → Type 0) (void : Contents → Type 0) (settings : Settings) (k : Known)
    (script read : List ℕ) (taken : Outside) (turns : List Turn) (t : Known) (written : List ℕ) (given : Outside) where
  -- The turns are these items, and their text is all that was written.
  pub record AnsweredAll (items : List Asked) : Type 0 where
    pub asked : asked_of turns ≡ items
    pub wrote : written ≡ transcript_text settings turns
    pub stands : StandsOn (replica settings) (rows settings) settings t given

  -- The first opening was refused, as is told, and nothing of the script was read.
  pub record FirstRefused (Much : List ℕ → List ℕ → Type 0) : Type 0 where
    pub none : turns ≡ []
    pub unread : read ≡ []
    pub note : Note
    pub tells : TellsFirst settings k taken given note
    pub wrote : WroteBehind Much settings [] (note_line note) written
    pub left : IsUnopened replica rows void settings k taken given

  -- The opening of a restart was refused, as is told.
  pub record RestartRefused (Much : List ℕ → List ℕ → Type 0) : Type 0 where
    pub next : RestartsNext (asked_of turns) (items_of read)
    pub whole_lines : RestartsNext (asked_of turns) (items_of script)
    pub answered : NoneWants turns
    pub note : Note
    pub tells : TellsFailure settings t given note
    pub wrote : WroteBehind Much settings turns (note_line note) written
    pub left : IsNotReopened (replica settings) (rows settings) settings t given

  -- The first opening was not begun, or wanted memory, and nothing of the script was read.
  pub record NeverOpened : Type 0 where
    pub none : turns ≡ []
    pub unread : read ≡ []
    pub wrote : IsFront written (transcript_text settings [])
    pub left : IsUnopened replica rows void settings k taken given

  -- The store was open to the end. All was written of all turns but the last, and a front of the last. No line was answered of
  -- which only a part was read.
  pub record StoodOpen : Type 0 where
    pub asked : IsFront (asked_of turns) (items_of read)
    pub whole_lines : IsFront (asked_of turns) (items_of script)
    pub before : List Turn
    pub last : List Turn
    pub parts : turns ≡ before ++ last
    pub one : length last ≤ 1
    pub wrote : IsFront (transcript_text settings before) written
    pub no_more : IsFront written (transcript_text settings turns)
    pub stands : StandsOn (replica settings) (rows settings) settings t given

  abbrev pub Interrupted : Type 0
  Interrupted = StoodOpen ⊎ NeverOpened ⊎ FirstRefused IsFront ⊎ RestartRefused IsFront

  abbrev pub Ends : Ending → Type 0
  Ends ReadAll = AnsweredAll (items_of read)
  Ends InputFault = AnsweredAll (items_before read)
  Ends TooLong = AnsweredAll (items_before read)
  Ends NotOpened = FirstRefused WholeText ⊎ RestartRefused WholeText
  Ends OutputFault = Interrupted
  Ends NoMemory = Interrupted

-- A whole run of a script, of which these bytes were read: from the disks and arms that hold k to those given back.
pub record RunsTo (replica : Settings → ℕ → ℕ → Contents → Found → Type 0) (rows : Settings → Contents → List HomeRow → Type 0) (void : Contents → Type 0) (settings : Settings)
    (k : Known) (ending : Ending) (script read : List ℕ) (taken : Outside) (written : List ℕ) (given : Outside) : Type 0 where
  pub opened : Known
  pub opening : FaultsRose k opened
  pub turns : List Turn
  pub t : Known
  pub legal : Legal settings opened turns t
  pub wanting : WantsLast ending turns
  pub ends : Ends replica rows void settings k script read taken turns t written given ending
