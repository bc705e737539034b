-- The batches of a script are of distinct pairs.
use Rattle.std.proofs.Common.{◌≡◌, ℕ, zero, suc, ◌+◌, Bool, true, false, List, [], ◌∷◌, ◌++◌, map, Option, Some, None, refl, subst}
use Rattle.std.specs.List.{list_all}
use Rattle.std.specs.Prelude.{if◌then◌else◌}
use Rattle.hay_needle.specs.declared.settings.Settings.{Settings}
use Rattle.hay_script.specs.declared.Command.{Command}
use Rattle.hay_script.specs.declared.Command.TheVariants as command
use Rattle.hay_script.specs.declared.Line.{Line}
use Rattle.hay_script.specs.declared.Line.TheVariants as line
use Rattle.hay_script.specs.Script.{lines_of}
use Rattle.hay_batch.specs.declared.photo.NewPhoto.{NewPhoto}
use Rattle.hay_batch.specs.Batches.{AreDistinct}
use Rattle.hay_load.specs.Gathering.{Bad, Batch, Group, OpenBatch, Step, bad_step, closed, command_step, fits_behind, groups_from, is_beside, joins, line_step, photo_of, put_step}
use Rattle.hay_load.proofs.Batching.{and_first, more_distinct, one_distinct}
use Rattle.hay_loading.specs.Endings.{IsFront, says, script_groups}
use Rattle.hay_loading.proofs.Showing.{AreApart, same_batch}

-- so they are of these groups
abbrev Apart : List Group → Type 0
Apart [] = Unit {0}
Apart (Batch line photos ∷ groups) = AreDistinct photos × Apart groups
Apart (Bad line ∷ groups) = Apart groups

-- and so is the open batch
abbrev HeldApart : Option OpenBatch → Type 0
HeldApart None = Unit {0}
HeldApart (Some batch) = AreDistinct batch.photos

apart_both : (groups more : List Group) → Apart groups → Apart more → Apart (groups ++ more)
apart_both [] more first second = second
apart_both (Batch line photos ∷ groups) more first second = (first.0, apart_both groups more first.1 second)
apart_both (Bad line ∷ groups) more first second = apart_both groups more first second

apart_front : (groups more : List Group) → Apart (groups ++ more) → Apart groups
apart_front [] more all = tt
apart_front (Batch line photos ∷ groups) more all = (all.0, apart_front groups more all.1)
apart_front (Bad line ∷ groups) more all = apart_front groups more all

apart_at : (groups : List Group) → Apart groups → AreApart groups
apart_at [] all i number photos at = absurd cc
apart_at (Bad line ∷ groups) all zero number photos at = absurd cc
apart_at (Bad line ∷ groups) all (suc i) number photos at = apart_at groups all i number photos at
apart_at (Batch line others ∷ groups) all zero number photos at =
    let here : Batch line others ≡ Batch number photos = cc in
    subst (λ (l : List NewPhoto). AreDistinct l) (same_batch line number others photos here) all.0
apart_at (Batch line others ∷ groups) all (suc i) number photos at = apart_at groups all.1 i number photos at

-- STEPS

abbrev StepApart : Step → Type 0
StepApart step = Apart step.groups × HeldApart step.held

closed_apart : (held : Option OpenBatch) → HeldApart held → Apart (closed held)
closed_apart None apart = tt
closed_apart (Some batch) apart = (apart, tt)

bad_apart : (number : ℕ) (held : Option OpenBatch) → HeldApart held → StepApart (bad_step number held)
bad_apart number held apart = (apart_both (closed held) (Bad number ∷ []) (closed_apart held apart) tt, tt)

put_by : (number : ℕ) (batch : OpenBatch) (photo : NewPhoto) (b : Bool) → joins batch.photos photo ≡ b → AreDistinct batch.photos → StepApart
    (if b then record { groups = []; held = Some (record { line = batch.line; photos = batch.photos ++ photo ∷ [] }) } else record
    { groups = closed (Some batch); held = Some (record { line = number; photos = photo ∷ [] }) })
put_by number batch photo true is apart = (tt, more_distinct batch.photos photo apart (and_first (list_all (is_beside photo) batch.photos) (fits_behind photo batch.photos) is))
put_by number batch photo false is apart = ((apart, tt), one_distinct photo)

put_apart : (number : ℕ) (held : Option OpenBatch) (photo : NewPhoto) → HeldApart held → StepApart (put_step number held photo)
put_apart number None photo apart = (tt, one_distinct photo)
put_apart number (Some batch) photo apart = put_by number batch photo (joins batch.photos photo) refl apart

command_apart : (settings : Settings) (number : ℕ) (held : Option OpenBatch) (asks : Command) → HeldApart held → StepApart (command_step settings number held asks)
command_apart settings number held (command.Put pair bytes) apart = put_apart number held (photo_of settings pair bytes) apart
command_apart settings number held (command.Read pair cookie) apart = bad_apart number held apart
command_apart settings number held (command.Get url) apart = bad_apart number held apart
command_apart settings number held (command.Del pair) apart = bad_apart number held apart
command_apart settings number held (command.Url pair) apart = bad_apart number held apart
command_apart settings number held (command.Flush volume machine) apart = bad_apart number held apart
command_apart settings number held (command.Compact volume machine) apart = bad_apart number held apart
command_apart settings number held (command.Begin volume machine) apart = bad_apart number held apart
command_apart settings number held (command.Step volume machine cells) apart = bad_apart number held apart
command_apart settings number held (command.Finish volume machine) apart = bad_apart number held apart
command_apart settings number held (command.Drain machine) apart = bad_apart number held apart
command_apart settings number held (command.Undrain machine) apart = bad_apart number held apart
command_apart settings number held (command.Fuse volume machine calls) apart = bad_apart number held apart
command_apart settings number held (command.FuseDir calls) apart = bad_apart number held apart
command_apart settings number held (command.Restart pick) apart = bad_apart number held apart

line_apart : (settings : Settings) (number : ℕ) (held : Option OpenBatch) (said : Line) → HeldApart held → StepApart (line_step settings number held said)
line_apart settings number held line.Skip apart = (tt, apart)
line_apart settings number held (line.Plain asks) apart = command_apart settings number held asks apart
line_apart settings number held line.Bad apart = bad_apart number held apart
line_apart settings number held (line.InLane lane asks) apart = bad_apart number held apart
line_apart settings number held (line.Lanes lanes) apart = bad_apart number held apart
line_apart settings number held line.End apart = bad_apart number held apart

lines_apart : (settings : Settings) (number : ℕ) (held : Option OpenBatch) (lines : List Line) → HeldApart held → Apart (groups_from settings number held lines)
lines_apart settings number held [] apart = closed_apart held apart
lines_apart settings number held (said ∷ lines) apart =
    let step = line_apart settings number held said apart in
    apart_both (line_step settings number held said).groups (groups_from settings (number + 1) (line_step settings number held said).held lines) step.0
    (lines_apart settings (number + 1) (line_step settings number held said).held lines step.1)

-- the first groups of a script, and those behind them
pub front_apart : (settings : Settings) (script : List ℕ) (groups next : List Group) → IsFront (groups ++ next) (script_groups settings script) → AreApart groups
front_apart settings script groups next front =
    let all : Apart (script_groups settings script) = lines_apart settings 1 None (map says (lines_of script)) tt in
    apart_at groups (apart_front groups next (apart_front (groups ++ next) front.0 (subst (λ (l : List Group). Apart l) front.1 all)))
