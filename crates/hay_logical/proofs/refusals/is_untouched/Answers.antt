use Rattle.std.proofs.Common.{◌≡◌, ◌<◌, Bool, true, false, not, length, refl, sym, subst, ◌∙◌, arith}
use Rattle.hay_physical.specs.OpenCopies.{Copy}
use Rattle.hay_logical.specs.Fits.{At}
use Rattle.hay_logical.proofs.Lists.{at_read}
use Rattle.hay_logical.proofs.refusals.is_untouched.Goals as goal

pub returns-else-broken-ne0-clause-untouched : goal.returns-else-broken-ne0-clause-untouched
returns-else-broken-ne0-clause-untouched g c = λ t.
    let some : 0 < length c.args.replicas.now = omega arith in
    let here : Copy g.row.D.Denot = c.index-replicas-0.result in
    let there : At c.args.replicas.now 0 here = subst (λ x. At c.args.replicas.now 0 x) (sym c.index-replicas-0.is) (at_read c.args.replicas.now 0 here some) in
    record {
      first = c.if-broken-ne0.false;
      fault = c.in-NoMemory.is;
      replica = here;
      there = there;
      thawed = sym c.is_frozen.ensures ∙ not_true c.is_frozen.result t;
    }
  where
    not_true : (b : Bool) → not b ≡ true → b ≡ false
    not_true true e = absurd cc
    not_true false e = refl
