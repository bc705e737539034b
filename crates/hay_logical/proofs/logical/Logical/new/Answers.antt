use Rattle.std.proofs.Common.{length, refl, ap, subst, arith}
use Rattle.hay_logical.specs.Fits.{At}
use Rattle.hay_logical.proofs.Opened.{no_item}
use Rattle.hay_logical.proofs.Freezing.{never_frozen}
use Rattle.hay_logical.proofs.logical.Logical.new.Goals as goal

pub invariant_of-result : goal.invariant_of-result
invariant_of-result g c = (
  record {
    settings = c.requires;
    count = let e = ap length c.in-Ok.ensures.items in omega (arith, e);
    sups = λ j r f. absurd (no_item j r (subst (λ xs. At xs j r) c.in-Ok.ensures.items f));
    width = c.new.ensures.replicas;
    thawed = λ e j r f. absurd (no_item j r (subst (λ xs. At xs j r) c.in-Ok.ensures.items f));
    frozen_by = never_frozen c.args.settings c.args.number;
    settled = λ none. refl;
  },
  c.in-Ok.ensures.capacity,
  λ tells j r f. absurd (no_item j r (subst (λ xs. At xs j r) c.in-Ok.ensures.items f)),
)
