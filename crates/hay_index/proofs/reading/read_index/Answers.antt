use Rattle.std.proofs.Common.{◌≡◌, inl, inr, ℕ, List, false, true, ◌<◌, ◌^◌, ◌∙◌, arith, ap, sym, subst, length, length-take}
use Rattle.hay_needle.proofs.Needles.{length-super}
use Rattle.hay_index.specs.Records.{IsIndex}
use Rattle.hay_index.proofs.Readings.{one_reading, undamaged, front_is, if_ok, on_ok}
use Rattle.hay_index.proofs.reading.read_index.Goals as goal

pub read_blocks-requires : goal.read_blocks-requires
read_blocks-requires c = omega (arith, ap length c.in_default.ensures.found, length-take 64 c.args.bytes.now, length-super c.args.sup.now)

pub returns-in-Err-clause-sound : goal.returns-in-Err-clause-sound
returns-in-Err-clause-sound c = λ records end k is damaged.
    let wrong : false ≡ true = c.in-Err.ensures.only (front_is _ c.args.bytes.now records end is) in absurd cc

pub returns-clause-only : goal.returns-clause-only
returns-clause-only c = λ records end is.
    let fits : length c.args.bytes.now < 2 ^ 64 = omega arith in
    if_ok c.read_blocks.result _ _ c.read_blocks.ensures.index
    (λ read index. one_reading _ c.args.bytes.now read.0.items records read.1 end fits (subst (λ l. IsIndex l c.args.bytes.now read.0.items read.1) c.in_default.ensures.found index) is)

pub returns-clause-sound : goal.returns-clause-sound
returns-clause-sound c = λ records end k is damaged.
    let fits : length c.args.bytes.now < 2 ^ 64 = omega arith in
    undamaged _ c.args.bytes.now records end k fits (subst (λ l. IsIndex l c.args.bytes.now records end) (sym c.in_default.ensures.found) is) (c.read_blocks.ensures.damaged k damaged)

pub returns-clause-undamaged : goal.returns-clause-undamaged
returns-clause-undamaged c =
    let bytes : List ℕ = c.args.bytes.now in
    let fits : length bytes < 2 ^ 64 = omega arith in
    on_ok c.read_blocks.result _ _ c.read_blocks.ensures.index
    (λ read index k damage. elim damage [
      | inl fault ↦ let wrong = c.in_default.ensures.fault ∙ fault.1 in absurd cc
      | inr behind ↦ undamaged _ bytes read.0.items read.1 k fits (subst (λ l. IsIndex l bytes read.0.items read.1) c.in_default.ensures.found index) behind.1
    ])
