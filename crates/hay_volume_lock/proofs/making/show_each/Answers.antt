use Rattle.std.proofs.Common.{◌≡◌, ◌+◌, suc, take, drop, ap, subst, ◌∙◌, arith}
use Rattle.std.specs.Prelude.{slice_set}
use Rattle.std.specs.List.{AllByRecursion as Each}
use Rattle.hay_front.specs.Fronts.{IsBehind, Witness}
use Rattle.hay_volume_lock.proofs.Counting.{each_at, each_next, next_same, rest_same, take_whole}
use Rattle.hay_volume_lock.proofs.making.show_each.Goals as goal

pub show_all-requires : goal.show_all-requires
show_all-requires g c =
    ap (λ (s : Witness g.row.T-Means.Denot g.row.T-Start.Denot g.row.T-Deed.Denot). s.front)
    (next_same c.loop-i.seats c.args.seats.now c.loop-i.i c.index-seats-i.result c.loop-i.auto.seats c.loop-i-test.true c.loop-i.invariant.rest)
    ∙ each_at (λ s. s.front ≡ c.args.front.now.shown.front) c.args.seats.now c.loop-i.i c.index-seats-i.result c.requires c.loop-i-test.true

pub loop-i-preserved : goal.loop-i-preserved
loop-i-preserved g c =
    let next : suc c.loop-i.i ≡ c.loop-i.i + 1 = omega arith in
    let same = next_same c.loop-i.seats c.args.seats.now c.loop-i.i c.index-seats-i.result c.loop-i.auto.seats c.loop-i-test.true c.loop-i.invariant.rest in
    record {
      shown = subst (λ n. Each (λ s. IsBehind s c.args.front.now.shown) (take n c.args.seats.now)) next
          (each_next (λ s. IsBehind s c.args.front.now.shown) c.args.seats.now c.loop-i.i c.index-seats-i.result c.loop-i-test.true c.loop-i.invariant.shown
          (subst (λ s. IsBehind s c.args.front.now.shown) same c.show_all.ensures.seen.0));
      rest = subst (λ n. drop n (slice_set c.loop-i.seats c.loop-i.i c.show_all.new.seat) ≡ drop n c.args.seats.now) next
          (rest_same c.loop-i.seats c.args.seats.now c.loop-i.i c.show_all.new.seat c.loop-i.auto.seats c.loop-i-test.true c.loop-i.invariant.rest);
    }

pub returns : goal.returns
returns g c =
    subst (λ l. Each (λ s. IsBehind s c.args.front.now.shown) l) (take_whole c.args.seats.now c.loop-i.i c.loop-i-test.false) c.loop-i.invariant.shown
