use Rattle.std.proofs.Common.{◌∙◌, sym, arith}
use Rattle.hay_head.proofs.SlotLaws.{is_number, number_is}
use Rattle.hay_head.proofs.rows.has_number.Goals as goal

pub returns-then-u64_at-number-clause-only : goal.returns-then-u64_at-number-clause-only
returns-then-u64_at-number-clause-only c = λ is. c.if-u64_at-number.true (c.u64_at.ensures ∙ number_is c.args.number c.args.at c.args.bytes.now c.ranges.number.fits is)

pub returns-clause-is : goal.returns-clause-is
returns-clause-is c = is_number c.args.number c.args.at c.args.bytes.now (λ i. omega (arith, c.type_inv.bytes i)) c.requires (sym c.u64_at.ensures ∙ c.if-u64_at-number.false)
