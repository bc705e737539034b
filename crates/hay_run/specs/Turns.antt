-- What turns do.
use Rattle.std.specs.Prelude.{◌≡◌, ◌⊎◌, ℕ, ◌<◌, ◌≤◌, slice_index, List, [], ◌∷◌, ◌++◌, length, Option, None, Some, Bool, false, map, flat_map}
use Rattle.std.specs.List.{AllByRecursion}
use Rattle.hay_disk.specs.Counts.{Rose}
use Rattle.hay_disk.specs.Disk.{Files}
use Rattle.hay_disk.specs.Streams.{Wrote, WrotePart}
use Rattle.hay_script.specs.declared.Command.TheVariants as command
use Rattle.hay_reply.specs.declared.Note.{Note}
use Rattle.hay_reply.specs.declared.Note.TheVariants.{OpenFailed, OpenDamaged}
use Rattle.hay_reply.specs.declared.Reply.TheVariants.{NoMem}
use Rattle.hay_reply.specs.Fits.{FitsNote, FitsReply}
use Rattle.hay_reply.specs.Replies.{note_line}
use Rattle.hay_legal.specs.declared.known.Known.{Known}
use Rattle.hay_legal.specs.declared.turn.Item.TheVariants as item
use Rattle.hay_legal.specs.declared.turn.Turn.{Turn}
use Rattle.hay_legal.specs.declared.turn.Turn.TheVariants.{Plain, Lanes, Restart}
use Rattle.hay_legal.specs.Items.{Asked, item_of_turn}
use Rattle.hay_legal.specs.Items.Asked.{Alone}
use Rattle.hay_legal.specs.Known.{CameUp, FaultsRose, disk_count, fault_count}
use Rattle.hay_legal.specs.Legal.{Legal}
use Rattle.hay_legal.specs.Transcript.{turn_text}
use Rattle.hay_cluster.specs.Causes.{HasFile}
use Rattle.hay_cluster.specs.Outside.{AreSoundBelow, IsDamagedDisk, IsVoid}
use Rattle.hay_cluster.specs.Store.{Open, contents_in, disks_of}
use Rattle.hay_run.specs.declared.stops.Stop.{Stop}
use Rattle.hay_run.specs.declared.stops.Stop.TheVariants as stop
use Rattle.hay_lines.specs.Stream.{Held, rest_of}
use Rattle.hay_lines.specs.Lines.{TookPart, TookOver, TookSome}
use Rattle.hay_run.specs.Items.{TookItems, TookOpen, AsksAll}

-- what is written of a text, from what a sink held before to what it holds after
abbrev pub Writing : Type 1
Writing = Option (List ℕ) → List ℕ → Option (List ℕ) → Type 0

-- what a store stands at
abbrev pub Standing : Type 0 → Type 0 → Type 0 → Type 1
Standing D P A = Open D P A → Known → Type 0

-- A turn that goes on: no restart that wanted memory.
abbrev pub IsGoingOn : Turn → Type 0
IsGoingOn turn = (line pick : ℕ) (notes : List Note) (after : Known) → turn ≡ Restart line pick NoMem notes after → ⊥

abbrev pub AnyTurn : Turn → Type 0
AnyTurn turn = Unit {0}

-- Each reply of a turn, and each note behind a restart, has numbers of their types.
abbrev pub FitsAnswers : Turn → Type 0
FitsAnswers (Plain line item reply after) = FitsReply reply
FitsAnswers (Lanes items logs rows after) = AllByRecursion (λ item. FitsReply item.reply) items
FitsAnswers (Restart line pick reply notes after) = FitsReply reply × AllByRecursion FitsNote notes

-- Turns of this kind, legal from k, answer these items, and the store is left at what the last one left. Their text was written.
pub record AnswersTurns {D P A : Type 0} (Is : Turn → Type 0) (Writes : Writing) (Left : Standing D P A) (k : Known) (asked : List Asked) (written : Option (List ℕ))
    (store : Open D P A) (written' : Option (List ℕ)) : Type 0 where
  pub turns : List Turn
  pub t : Known
  pub each : AllByRecursion Is turns
  pub fits : AllByRecursion FitsAnswers turns
  pub items : map item_of_turn turns ≡ asked
  pub legal : Legal store.settings k turns t
  pub left : Left store t
  pub wrote : Writes written (flat_map turn_text turns) written'

-- Whatever state a store that tells stands at, these items are answered from it: in whole turns behind which it stands, or so that
-- a front of their text was written.
abbrev pub AnswersAll : {D P A : Type 0} → Type 0 → Standing D P A → List Asked → Open D P A → Option (List ℕ) → Open D P A → Option (List ℕ) → Type 0
AnswersAll Tells Stands asked store written store' written' =
    Tells → (k : Known) → Stands store k → AnswersTurns IsGoingOn Wrote Stands k asked written store' written'

abbrev pub AnswersPart : {D P A : Type 0} → Type 0 → Standing D P A → Standing D P A → List Asked → Open D P A → Option (List ℕ) → Open D P A → Option (List ℕ) → Type 0
AnswersPart Tells Stands Left asked store written store' written' =
    Tells → (k : Known) → Stands store k → AnswersTurns AnyTurn WrotePart Left k asked written store' written'

-- a sink that tells holds what it held, and perhaps more behind it
abbrev pub Appends : Option (List ℕ) → Option (List ℕ) → Type 0
Appends before after = (held : List ℕ) → before ≡ Some held → (text : List ℕ) × (after ≡ Some (held ++ text))

-- Lines were taken, of which the first has this number, and what they ask for was answered. The next line has the other
-- number.
pub record Turned {D P A : Type 0} (Tells : Type 0) (Stands : Standing D P A) (store : Open D P A) (number : ℕ) (before written : Option (List ℕ)) (store' : Open D P A) (next : ℕ)
    (after : Option (List ℕ)) (ended : Bool) (written' : Option (List ℕ)) : Type 0 where
  pub asked : List Asked
  pub took : TookItems number None before asked next after ended
  pub answers : AnswersAll Tells Stands asked store written store' written'

-- All that a script asks for was answered.
pub record Serves {D P A : Type 0} (Tells : Type 0) (Stands : Standing D P A) (script : Option (List ℕ)) (store : Open D P A) (written : Option (List ℕ)) (store' : Open D P A)
    (written' : Option (List ℕ)) : Type 0 where
  pub asked : List Asked
  pub all : AsksAll script asked
  pub answers : AnswersAll Tells Stands asked store written store' written'

-- no disk of the store is void
abbrev pub IsFormatted : {D P A : Type 0} → (D → Files) → Open D P A → Type 0
IsFormatted files store = (slot : ℕ) → slot < disk_count store.settings → IsVoid (contents_in files store slot) → ⊥

-- HOW A TURN STOPS

-- A turn was answered, and only a front of its text was written.
pub record TurnedPart {D P A : Type 0} (Tells : Type 0) (Stands Left : Standing D P A) (store : Open D P A) (number : ℕ) (before written : Option (List ℕ)) (store' : Open D P A)
    (after written' : Option (List ℕ)) : Type 0 where
  pub asked : List Asked
  pub one : length asked ≤ 1
  pub next : ℕ
  pub ended : Bool
  pub took : TookItems number None before asked next after ended
  pub answers : AnswersPart Tells Stands Left asked store written store' written'

-- The opening of a restart was refused for a disk that failed. The store is left at what it stood at, but for counts that may
-- have risen, and how the opening was refused was written.
pub record Refused {D P A : Type 0} (Writes : Writing) (Left : Standing D P A) (k : Known) (written : Option (List ℕ)) (store : Open D P A) (written' : Option (List ℕ)) : Type 0 where
  pub t : Known
  pub leaves : FaultsRose k t
  pub left : Left store t
  pub slot : ℕ
  pub count : ℕ
  pub within : slot < disk_count store.settings
  pub came : CameUp (fault_count k slot) count (fault_count t slot)
  pub wrote : Writes written (note_line (OpenFailed slot count)) written'

pub record RefusesRestart {D P A : Type 0} (Tells : Type 0) (Writes : Writing) (Stands Left : Standing D P A) (store : Open D P A) (number : ℕ) (before written : Option (List ℕ))
    (store' : Open D P A) (after written' : Option (List ℕ)) : Type 0 where
  pub pick : ℕ
  pub next : ℕ
  pub ended : Bool
  pub took : TookItems number None before (Alone number (item.Command (command.Restart pick)) ∷ []) next after ended
  pub refused : Tells → (k : Known) → Stands store k → Refused Writes Left k written store' written'

-- What a run that stops while it writes has done in its last turn.
abbrev pub Broke : {D P A : Type 0} → Type 0 → Standing D P A → Standing D P A → Open D P A → ℕ → Option (List ℕ) → Option (List ℕ) → Open D P A → Option (List ℕ) → Option (List ℕ) → Type 0
Broke Tells Stands Left store number before written store' after written' =
    TurnedPart Tells Stands Left store number before written store' after written'
    ⊎ RefusesRestart Tells WrotePart Stands Left store number before written store' after written'

-- a store that tells stands for all that the other stands for
abbrev pub Keeps : {D P A : Type 0} → Type 0 → Standing D P A → Open D P A → Open D P A → Type 0
Keeps Tells Stands store store' = Tells → (k : Known) → Stands store k → Stands store' k

-- What a run that stops has done behind the last whole turn, from that turn's number, what is left of the script, what was
-- written and the store.
abbrev pub StopsTurn : {D P A : Type 0} → Type 0 → Standing D P A → Standing D P A → Stop → ℕ → Option (List ℕ) → Option (List ℕ) → Open D P A → Option (List ℕ) → Option (List ℕ) → Open D P A → Type 0
StopsTurn Tells Stands Left stop.Input number rest written store after written' store' =
    TookOpen TookPart number None rest after × (store' ≡ store) × (written' ≡ written)
StopsTurn Tells Stands Left stop.TooLong number rest written store after written' store' =
    TookOpen TookOver number None rest after × (store' ≡ store) × (written' ≡ written)
StopsTurn Tells Stands Left stop.Output number rest written store after written' store' =
    Broke Tells Stands Left store number rest written store' after written'
StopsTurn Tells Stands Left stop.NoMemory number rest written store after written' store' =
    (TookSome rest after × Keeps Tells Stands store store' × (written' ≡ written)) ⊎ Broke Tells Stands Left store number rest written store' after written'
StopsTurn Tells Stands Left stop.Store number rest written store after written' store' =
    RefusesRestart Tells Wrote Stands Left store number rest written store' after written'

-- where the script breaks off, nothing that was taken is held
abbrev pub HoldsNone : Stop → Held → Type 0
HoldsNone stop.Input held = held.bytes ≡ []
HoldsNone stop.TooLong held = held.bytes ≡ []
HoldsNone stop.Output held = Unit {0}
HoldsNone stop.NoMemory held = Unit {0}
HoldsNone stop.Store held = Unit {0}

-- Turn after turn was answered, and then the run stopped.
pub record ServedUntil {D P A : Type 0} (Tells : Type 0) (Stands Left : Standing D P A) (why : Stop) (script : Option (List ℕ)) (store : Open D P A) (written : Option (List ℕ))
    (script' : Option (List ℕ)) (store' : Open D P A) (written' : Option (List ℕ)) : Type 0 where
  pub asked : List Asked
  pub number : ℕ
  pub rest : Option (List ℕ)
  pub mid : Open D P A
  pub text : Option (List ℕ)
  pub took : TookItems 1 None script asked number rest false
  pub answers : AnswersAll Tells Stands asked store written mid text
  pub settings : mid.settings ≡ store.settings
  pub held : Held
  pub none : HoldsNone why held
  pub stops : StopsTurn Tells Stands Left why number rest text mid (rest_of script' held) written' store'

-- WHY A RESTART IS REFUSED

-- the counts of the disks' faults by slot
abbrev pub counts_of : {D P A : Type 0} → (D → ℕ) → Open D P A → List ℕ
counts_of faults store = map faults (disks_of store)

-- The disk in a slot failed, its count rose to the one that is told, and the store is left with no damaged disk in a lower slot; or
-- the store stood at nothing, and the disk that it is left with in the slot is damaged at the place that is told.
abbrev pub RefusedFor : {D P A : Type 0} → Type 0 → Standing D P A → (D → Files) → (D → ℕ) → Open D P A → Open D P A → Note → Type 0
RefusedFor Tells Stands files faults store store' note =
    ((slot : ℕ) × (count : ℕ) × (note ≡ OpenFailed slot count) × (slot < disk_count store.settings)
    × Rose (slice_index (counts_of faults store) slot) (slice_index (counts_of faults store') slot) × (count ≡ slice_index (counts_of faults store') slot)
    × (Tells → AreSoundBelow store.settings slot (contents_in files store')))
    ⊎ ((slot : ℕ) × (file : ℕ) × (at : ℕ) × (note ≡ OpenDamaged slot file at) × HasFile store.settings slot file
    × (Tells → ((k : Known) → Stands store k → ⊥) × IsDamagedDisk store.settings (contents_in files store') slot file at
    × AreSoundBelow store.settings slot (contents_in files store')))

-- so it was told, behind what was written before
pub record Halts {D P A : Type 0} (Tells : Type 0) (Stands : Standing D P A) (files : D → Files) (faults : D → ℕ) (store store' : Open D P A) (written written' : Option (List ℕ)) : Type 0 where
  pub note : Note
  pub why : RefusedFor Tells Stands files faults store store' note
  pub told : (held : List ℕ) → written ≡ Some held → (text : List ℕ) × (written' ≡ Some (held ++ text ++ note_line note))
