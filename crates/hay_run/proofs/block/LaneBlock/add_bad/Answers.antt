use Rattle.std.proofs.Common.{sym, subst}
use Rattle.std.proofs.lemmas.Result.{on_ok_weaker}
use Rattle.hay_legal.specs.Items.{OpenBlock}
use Rattle.hay_run.specs.Blocks.{IsBlockBelow}
use Rattle.hay_run.proofs.Blocking.{bad_pushed}
use Rattle.hay_run.proofs.block.LaneBlock.add_bad.Goals as goal

pub returns-clause-below : goal.returns-clause-below
returns-clause-below c =
    let block : OpenBlock = record { lanes = c.self.inside.lanes; commands = c.self.inside.commands; lines = c.self.inside.lines } in
    let below : IsBlockBelow c.args.number block = subst (λ (b : OpenBlock). IsBlockBelow c.args.number b) (sym c.self.view_is) c.requires.below in
    on_ok_weaker c.push.result (λ more. bad_pushed c.args.number block c.push.new.self more below) c.push.ensures.ok
