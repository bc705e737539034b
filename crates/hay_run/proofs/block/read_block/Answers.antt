use Rattle.std.proofs.Common.{◌≡◌, ℕ, sym, ap, subst}
use Rattle.std.specs.Prelude.{IfOk}
use Rattle.hay_legal.specs.Items.{OpenBlock}
use Rattle.hay_run.specs.Blocks.{IsBlockBelow, IsBlockOf}
use Rattle.hay_run.proofs.Blocking.{no_lines}
use Rattle.hay_run.proofs.block.read_block.Goals as goal

pub read_lines-requires-clause-below : goal.read_lines-requires-clause-below
read_lines-requires-clause-below g c =
    subst (λ (b : OpenBlock). IsBlockBelow c.args.number b) (sym c.new-block.ensures) (no_lines c.args.lanes c.args.number c.requires.some c.requires.most)

pub returns-then-is_ended-clause-lines : goal.returns-then-is_ended-clause-lines
returns-then-is_ended-clause-lines g c = (
  subst (λ (b : OpenBlock). IsBlockOf c.args.lanes b.lines) (sym c.new-block.ensures) (no_lines c.args.lanes c.args.number c.requires.some c.requires.most).lines,
  ap (λ (b : OpenBlock). b.lanes) c.new-block.ensures,
)

pub returns-clause-lines : goal.returns-clause-lines
returns-clause-lines g c =
    subst (λ (n : ℕ). IfOk c.read_lines.result (λ read. IsBlockOf n read.0.lines × (read.0.lanes ≡ n))) (ap (λ (b : OpenBlock). b.lanes) c.new-block.ensures) c.read_lines.ensures.lines
