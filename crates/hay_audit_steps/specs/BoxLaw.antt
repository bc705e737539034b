-- What the crate shows of boxes of states.
use Rattle.std.specs.Prelude.{◌≡◌, ◌≢◌, ℕ, ◌+◌, ◌<◌, ◌≤◌, Bool, true, false, List, [], ◌∷◌, ◌++◌, length, map, find, Option, Some}
use Rattle.std.specs.List.{AllByRecursion as Each}
use Rattle.hay_needle.specs.declared.needle.Pair.{Pair}
use Rattle.hay_needle.specs.declared.needle.Cookie.{Cookie}
use Rattle.hay_needle.specs.declared.settings.Settings.{Settings}
use Rattle.hay_script.specs.declared.Command.TheVariants as command
use Rattle.hay_reply.specs.declared.Reply.{Reply}
use Rattle.hay_reply.specs.declared.Reply.TheVariants as reply
use Rattle.hay_needle.specs.Sizes.{needle_total}
use Rattle.hay_legal.specs.declared.known.ReplicaKnown.{ReplicaKnown}
use Rattle.hay_legal.specs.declared.known.Known.{Known}
use Rattle.hay_legal.specs.declared.turn.Item.{Item}
use Rattle.hay_legal.specs.declared.turn.Item.TheVariants as item
use Rattle.hay_legal.specs.Known.{replica_on, taker_of, tries_of, lacks_room}
use Rattle.hay_audit_steps.specs.CheckerSteps.{plain_row, with_counts}
use Rattle.hay_audit_steps.specs.Next.{next_plain}
use Rattle.hay_audit_steps.specs.Slacks.{Slack, fill_replica}
use Rattle.hay_audit_steps.specs.Boxes.{Box, Between, Has, IsBoxStep, IsCut, EachIn, IsShaped, IsPlace, IsFilled, fill, ranged, slack_at, up_to, above}
use Rattle.hay_audit_steps.specs.BoxNext.{IsSizeless, takes, stored_if, finished_boxes}
use Rattle.hay_reply.specs.declared.Note.{Note}
use Rattle.hay_audit_steps.specs.BoxReopen.{restart_boxes}
use Rattle.hay_audit_steps.specs.Reopen.{restart_row}
use Rattle.hay_audit_steps.specs.Rooms.{IsWhole, put_boxes}
use Rattle.hay_audit_steps.specs.Places.{flushed_boxes, stepped_boxes, compacted_boxes}

-- Behind a line whose row looks at no sizes a box has the ranges that it had.
abbrev pub SizelessLinesStepBoxes : Type 0
SizelessLinesStepBoxes =
    (settings : Settings) (box : Box) (line : ℕ) (asked : Item) (answer : Reply) → answer ≢ reply.NoMem → IsSizeless asked answer
    → IsBoxStep (plain_row settings line asked answer) box (map (ranged box) (next_plain settings line asked answer box.base))

-- So it has behind a put that was stored, where one volume takes it whatever the sizes are.
abbrev pub StoredPutsStepBoxes : Type 0
StoredPutsStepBoxes =
    (settings : Settings) (box : Box) (line : ℕ) (pair : Pair) (bytes : List ℕ) (v p d : ℕ) (c : Cookie) (taker : Option ℕ)
    → ((xss : List (List Slack)) → Between box.low xss box.high → taker_of settings (fill xss box.base) pair (length bytes) ≡ taker)
    → IsBoxStep (plain_row settings line (item.Command (command.Put pair bytes)) (reply.Stored v p d c)) box
    (map (ranged box) (stored_if settings box.base (record { lane = 0; line = line }) pair bytes v p d c taker))

-- Behind a put a box is cut by what has room, and narrowed to the ends that are printed.
abbrev pub PutsStepBoxes : Type 0
PutsStepBoxes =
    (settings : Settings) (box : Box) (line : ℕ) (pair : Pair) (bytes : List ℕ) (answer : Reply) → answer ≢ reply.NoMem → IsWhole box
    → IsBoxStep (plain_row settings line (item.Command (command.Put pair bytes)) answer) box (put_boxes settings (record { lane = 0; line = line }) pair bytes answer box)

-- The taker is the first try that takes: where each try takes whatever the sizes are, or refuses so, the taker is known.
abbrev pub TakersAreDecided : Type 0
TakersAreDecided =
    (settings : Settings) (box : Box) (pair : Pair) (size : ℕ) (free : ℕ → Bool) (xss : List (List Slack))
    → Each (λ v. takes settings (fill xss box.base) size v ≡ free v) (tries_of settings box.base pair)
    → taker_of settings (fill xss box.base) pair size ≡ find free (tries_of settings box.base pair)

-- A replica's room is decided by where its end lies.
abbrev pub RoomsAreDecided : Type 0
RoomsAreDecided =
    (settings : Settings) (size : ℕ) (replica : ReplicaKnown) (x : Slack)
    → (settings.capacity < replica.end + x.end + needle_total size + 8 → lacks_room settings size (fill_replica x replica) ≡ true)
    × (replica.end + x.end + needle_total size + 8 ≤ settings.capacity → lacks_room settings size (fill_replica x replica) ≡ false)

-- The finish of a compaction gives its replica fresh ranges.
abbrev pub FinishesStepBoxes : Type 0
FinishesStepBoxes =
    (settings : Settings) (box : Box) (line v m j v' m' g : ℕ) → replica_on settings v m ≡ Some j → IsFilled box v j
    → IsBoxStep (plain_row settings line (item.Command (command.Finish v m)) (reply.Compacted v' m' g)) box (finished_boxes box v m j v' m' g)

-- A flush tells how many cells had no record, and leaves none.
abbrev pub FlushesStepBoxes : Type 0
FlushesStepBoxes =
    (settings : Settings) (box : Box) (line v m j v' m' n : ℕ) → replica_on settings v m ≡ Some j → IsFilled box v j
    → IsBoxStep (plain_row settings line (item.Command (command.Flush v m)) (reply.Flushed v' m' n)) box (flushed_boxes box v m j v' m' n)

-- A step tells how many cells were copied: those that were asked for, or all that were left.
abbrev pub StepsStepBoxes : Type 0
StepsStepBoxes =
    (settings : Settings) (box : Box) (line v m j cells v' m' n : ℕ) → replica_on settings v m ≡ Some j → IsFilled box v j
    → IsBoxStep (plain_row settings line (item.Command (command.Step v m cells)) (reply.Stepped v' m' n)) box (stepped_boxes box v m j cells v' m' n)

-- A compaction in one command leaves exact sizes.
abbrev pub CompactsStepBoxes : Type 0
CompactsStepBoxes =
    (settings : Settings) (box : Box) (line v m j v' m' g : ℕ) → replica_on settings v m ≡ Some j → IsFilled box v j
    → IsBoxStep (plain_row settings line (item.Command (command.Compact v m)) (reply.Compacted v' m' g)) box (compacted_boxes box v m j v' m' g)

-- Behind a restart, whatever it was answered but want of memory, these boxes are kept.
abbrev pub RestartsStepBoxes : Type 0
RestartsStepBoxes =
    (settings : Settings) (box : Box) (answer : Reply) (notes : List Note) → answer ≢ reply.NoMem → IsWhole box
    → IsBoxStep (restart_row settings answer notes) box (restart_boxes settings box answer notes)

-- A box is cut at an end, and each part lies on one side.
abbrev pub EndsCutBoxes : Type 0
EndsCutBoxes = (box : Box) (v j most : ℕ) → IsCut box (up_to box v j most ∷ above box v j most ∷ [])

abbrev pub SidesOfCuts : Type 0
SidesOfCuts =
    (box : Box) (v j most : ℕ) (xss : List (List Slack)) → IsPlace box.low v j × IsPlace box.high v j
    → (Between (up_to box v j most).low xss (up_to box v j most).high → (slack_at xss v j).end ≤ most)
    × (Between (above box v j most).low xss (above box v j most).high → most < (slack_at xss v j).end)

-- The steps of both parts of a box are a step of the box.
abbrev pub CutBoxesStep : Type 1
CutBoxesStep =
    (row : Known → Known → Type 0) (box d e : Box) (behind_d behind_e : List Box) → IsCut box (d ∷ e ∷ [])
    → IsBoxStep row d behind_d → IsBoxStep row e behind_e → IsBoxStep row box (behind_d ++ behind_e)

-- A box may be narrowed to a part outside of which no legal turn begins: so a printed end or number of records is taken over.
abbrev pub NarrowedBoxesStep : Type 1
NarrowedBoxesStep =
    (row : Known → Known → Type 0) (box part : Box) (next : List Box)
    → ((k : Known) → Has part k → Has box k)
    → ((k : Known) (faults arms fuses : List ℕ) (t : Known) → Has box k → row (with_counts k faults arms fuses) t → Has part k)
    → IsBoxStep row part next → IsBoxStep row box next

-- A state is in a box exactly where each of its replicas is in its part.
abbrev pub BoxesAreParts : Type 0
BoxesAreParts = (box : Box) (k : Known) → (IsShaped box → Has box k → EachIn box k) × (EachIn box k → Has box k)
