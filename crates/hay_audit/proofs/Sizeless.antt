-- Lines whose replies look at no sizes.
use Rattle.std.proofs.Common.{◌≡◌, ℕ, List, map, refl, sym, ap, subst, ◌∙◌}
use Rattle.hay_needle.specs.declared.settings.Settings.{Settings}
use Rattle.hay_script.specs.declared.Command.{Command}
use Rattle.hay_script.specs.declared.Command.TheVariants as command
use Rattle.hay_reply.specs.declared.Reply.{Reply}
use Rattle.hay_reply.specs.declared.Reply.TheVariants as reply
use Rattle.hay_legal.specs.declared.turn.Item.{Item}
use Rattle.hay_legal.specs.declared.turn.Item.TheVariants as item
use Rattle.hay_audit_steps.specs.BoxNext.{IsSizeless}
use Rattle.hay_audit_steps.specs.BoxPlain.{box_plain}
use Rattle.hay_audit_steps.specs.Boxes.{Box}
use Rattle.hay_audit_steps.specs.Next.{next_plain}
use Rattle.hay_audit.specs.Ranging.{ranging}

abbrev Keeps : Settings → ℕ → Item → Reply → Box → Type 0
Keeps settings line asked r box = map (ranging box.low box.high) (next_plain settings line asked r box.base) ≡ box_plain settings line asked r box

command_keeps : (settings : Settings) (line : ℕ) (c : Command) (r : Reply) (box : Box) → IsSizeless (item.Command c) r → Keeps settings line (item.Command c) r box
command_keeps settings line (command.Put pair bytes) r box h = absurd h
command_keeps settings line (command.Flush v m) (reply.Flushed v' m' n) box h = absurd h
command_keeps settings line (command.Flush v m) r box h = refl
command_keeps settings line (command.Compact v m) (reply.Compacted v' m' g) box h = absurd h
command_keeps settings line (command.Compact v m) r box h = refl
command_keeps settings line (command.Step v m cells) (reply.Stepped v' m' n) box h = absurd h
command_keeps settings line (command.Step v m cells) r box h = refl
command_keeps settings line (command.Finish v m) (reply.Compacted v' m' g) box h = absurd h
command_keeps settings line (command.Finish v m) r box h = refl
command_keeps settings line c r box h = refl

-- the ranges stay
pub line_keeps : (settings : Settings) (line : ℕ) (asked : Item) (r : Reply) (box : Box) → IsSizeless asked r → Keeps settings line asked r box
line_keeps settings line (item.Command c) r box h = command_keeps settings line c r box h
line_keeps settings line item.Bad r box h = refl
