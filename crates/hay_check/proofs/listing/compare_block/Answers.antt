use Rattle.std.proofs.Common.{◌≡◌, arith, map}
use Rattle.hay_open.specs.Listing.{head_record}
use Rattle.hay_check.proofs.Comparing.{fit_all, fit_more, misfit_here, no_row, other_row, row_here}
use Rattle.hay_check.proofs.listing.compare_block.Goals as goal

pub returns-in_default-clause-misfit : goal.returns-in_default-clause-misfit
returns-in_default-clause-misfit c = λ k is.
    let here : k ≡ c.loop-i.at = cc in
    misfit_here (map head_record c.args.heads.now) c.args.block.now c.loop-i.i c.args.first c.loop-i.at k _ c.loop-i-test.true c.loop-i.invariant.place here c.loop-i.invariant.fit
    (other_row c.args.heads.now c.loop-i.i _ c.in-Some.head.now _ c.is_row_of.result c.in-Some.ensures.lookup.0 c.in-Some.ensures.lookup.1 c.is_row_of.ensures c.if-is_row_of.false)

pub returns-in_default-2-clause-misfit : goal.returns-in_default-2-clause-misfit
returns-in_default-2-clause-misfit c = λ k is.
    let here : k ≡ c.loop-i.at = cc in
    misfit_here (map head_record c.args.heads.now) c.args.block.now c.loop-i.i c.args.first c.loop-i.at k (record { pair = record { key = 0; alt = 0 }; at = 0; size = 0 })
    c.loop-i-test.true c.loop-i.invariant.place here c.loop-i.invariant.fit
    (no_row c.get.result c.args.heads.now c.loop-i.i _ c.in_default.is c.get.ensures.lookup.0)

pub overflow_add-at : goal.overflow_add-at
overflow_add-at c = omega (arith, c.loop-i.invariant.place, c.loop-i-test.true, c.requires)

pub loop-i-preserved : goal.loop-i-preserved
loop-i-preserved c = record {
  place = omega (arith, c.loop-i.invariant.place);
  fit = fit_more (map head_record c.args.heads.now) c.args.block.now c.loop-i.i _ c.loop-i-test.true c.loop-i.invariant.fit
      (row_here c.args.heads.now c.loop-i.i _ c.in-Some.head.now _ c.is_row_of.result c.in-Some.ensures.lookup.0 c.in-Some.ensures.lookup.1 c.is_row_of.ensures c.if-is_row_of.true);
}

pub returns-clause-fit : goal.returns-clause-fit
returns-clause-fit c = fit_all (map head_record c.args.heads.now) c.args.block.now c.loop-i.i c.loop-i-test.false c.loop-i.auto.i-end c.loop-i.invariant.fit
