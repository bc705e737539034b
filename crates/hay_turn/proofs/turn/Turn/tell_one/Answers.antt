use Rattle.std.proofs.Common.{rules}
use mathlib.Core.Option.{some}
use Rattle.hay_turn.specs.declared.rule.Slot.TheVariants.{Told}
use Rattle.hay_turn.proofs.Keeps.{adds}
use Rattle.hay_turn.proofs.turn.Turn.tell_one.Goals as goal

pub compare_exchange_with-requires : goal.compare_exchange_with-requires
compare_exchange_with-requires g c = (search rules, search rules, adds _ _ _ _ _ _ (some (Told c.args.act)) c.requires.holding.0 c.requires.holding.1)
