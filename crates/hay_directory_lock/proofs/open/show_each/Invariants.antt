use Rattle.std.proofs.Common.{◌≡◌, take, drop}
use Rattle.std.specs.List.{AllByRecursion as Each}
use Rattle.hay_front.specs.Fronts.{IsBehind}
use Rattle.hay_directory_lock.proofs.open.show_each.Given as goal

abbrev pub invariant-loop-i : goal.invariant-loop-i
invariant-loop-i g l = record {
  shown : Each (λ s. IsBehind s l.fn.front.shown) (take l.i l.fn.seats);
  rest : drop l.i l.seats ≡ drop l.i l.fn.seats;
}
