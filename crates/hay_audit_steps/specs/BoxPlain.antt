-- The boxes behind each plain line, and what a checker knows of the boxes that it keeps.
use Rattle.std.specs.Prelude.{◌≡◌, ◌≢◌, ℕ, List, [], length, map, replicate, Option, Some, None}
use Rattle.std.specs.List.{AllByRecursion as Each}
use Rattle.hay_needle.specs.declared.settings.Settings.{Settings}
use Rattle.hay_script.specs.declared.Command.TheVariants as command
use Rattle.hay_reply.specs.declared.Note.{Note}
use Rattle.hay_reply.specs.declared.Reply.{Reply}
use Rattle.hay_reply.specs.declared.Reply.TheVariants as reply
use Rattle.hay_legal.specs.declared.known.VolumeKnown.{VolumeKnown}
use Rattle.hay_legal.specs.declared.known.Known.{Known}
use Rattle.hay_legal.specs.declared.turn.Item.{Item}
use Rattle.hay_legal.specs.declared.turn.Item.TheVariants as item
use Rattle.hay_legal.specs.Known.{fresh_unharmed, replica_on}
use Rattle.hay_legal.specs.Subject.{IsOf}
use Rattle.hay_audit_steps.specs.BoxNext.{finished_boxes}
use Rattle.hay_audit_steps.specs.BoxReopen.{restart_boxes}
use Rattle.hay_audit_steps.specs.Boxes.{Box, Has, IsBoxStep, ranged}
use Rattle.hay_audit_steps.specs.Next.{next_plain}
use Rattle.hay_audit_steps.specs.Places.{compacted_boxes, flushed_boxes, stepped_boxes}
use Rattle.hay_audit_steps.specs.Reached.{note_count}
use Rattle.hay_audit_steps.specs.Rooms.{IsWhole, put_boxes}
use Rattle.hay_audit_steps.specs.Slacks.{Slack, no_slack}
use Rattle.hay_audit_steps.specs.CheckerSteps.{plain_row}

abbrev pub on_place : Option ℕ → (ℕ → List Box) → List Box
on_place None boxes = []
on_place (Some j) boxes = boxes j

-- the boxes behind a plain line, which has lane 0
abbrev pub box_plain : Settings → ℕ → Item → Reply → Box → List Box
box_plain settings line (item.Command (command.Put pair bytes)) r box = put_boxes settings (record { lane = 0; line = line }) pair bytes r box
box_plain settings line (item.Command (command.Flush v m)) (reply.Flushed v' m' n) box = on_place (replica_on settings v m) (λ j. flushed_boxes box v m j v' m' n)
box_plain settings line (item.Command (command.Step v m cells)) (reply.Stepped v' m' n) box = on_place (replica_on settings v m) (λ j. stepped_boxes box v m j cells v' m' n)
box_plain settings line (item.Command (command.Compact v m)) (reply.Compacted v' m' g) box = on_place (replica_on settings v m) (λ j. compacted_boxes box v m j v' m' g)
box_plain settings line (item.Command (command.Finish v m)) (reply.Compacted v' m' g) box = on_place (replica_on settings v m) (λ j. finished_boxes box v m j v' m' g)
box_plain settings line asked r box = map (ranged box) (next_plain settings line asked r box.base)

-- A box of a store of these settings: it stands for some states, all with its volumes, replicas and homes.
pub record IsBoxOf (settings : Settings) (box : Box) : Type 0 where
  pub whole : IsWhole box
  pub states : (k : Known) → Has box k → IsOf settings k

-- a state whose sizes are known
abbrev pub no_slacks : VolumeKnown → List Slack
no_slacks volume = replicate (length volume.replicas) no_slack

abbrev pub exact_box : Known → Box
exact_box k = record { base = k; low = map no_slacks k.volumes; high = map no_slacks k.volumes }

-- WHAT IS SHOWN OF THEM

-- Behind a plain line, whatever it was answered but want of memory, these boxes are kept.
abbrev pub PlainLinesStepBoxes : Type 0
PlainLinesStepBoxes =
    (settings : Settings) (box : Box) (line : ℕ) (asked : Item) (answer : Reply) → answer ≢ reply.NoMem → IsBoxOf settings box
    → IsBoxStep (plain_row settings line asked answer) box (box_plain settings line asked answer box)

-- They are boxes of the same settings, and so are those behind a restart.
abbrev pub PlainLinesKeepBoxes : Type 0
PlainLinesKeepBoxes =
    (settings : Settings) (box : Box) (line : ℕ) (asked : Item) (answer : Reply) → answer ≢ reply.NoMem → IsBoxOf settings box
    → Each (IsBoxOf settings) (box_plain settings line asked answer box)

abbrev pub RestartsKeepBoxes : Type 0
RestartsKeepBoxes =
    (settings : Settings) (box : Box) (answer : Reply) (notes : List Note) → answer ≢ reply.NoMem → IsBoxOf settings box
    → Each (IsBoxOf settings) (restart_boxes settings box answer notes)

-- The first box stands for the store as formatted, and for no other.
pub record IsFirst (settings : Settings) (box : Box) : Type 0 where
  pub of : IsBoxOf settings box
  pub fresh : Has box (fresh_unharmed settings)
  pub alone : (k : Known) → Has box k → k ≡ fresh_unharmed settings

abbrev pub FreshBoxIsFirst : Type 0
FreshBoxIsFirst = (settings : Settings) → IsFirst settings (exact_box (fresh_unharmed settings))

-- A box stands for some state.
abbrev pub BoxesStandForStates : Type 0
BoxesStandForStates = (settings : Settings) (box : Box) → IsBoxOf settings box → (k : Known) × Has box k

-- A restart from each state of a box tells as many notes.
abbrev pub NotesAreCounted : Type 0
NotesAreCounted = (box : Box) (k : Known) → Has box k → note_count k ≡ note_count box.base
