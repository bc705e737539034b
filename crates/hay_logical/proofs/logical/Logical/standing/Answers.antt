use Rattle.std.proofs.Common.{◌≡◌, ◌<◌, length, sym, ap, subst, ◌∙◌, arith}
use Rattle.hay_physical.specs.OpenCopies.{Copy, goal_of}
use Rattle.hay_logical.specs.Fits.{At}
use Rattle.hay_logical.specs.Stands.{Stands, StandsFor}
use Rattle.hay_logical.proofs.Lists.{at_read, at_same}
use Rattle.hay_logical.proofs.Stepping.{standing_known}
use Rattle.hay_logical.proofs.logical.Logical.standing.Given as given
use Rattle.hay_physical.specs.OpenCopies.{generation_of}
use Rattle.std.proofs.Common.{◌+◌}
use Rattle.hay_logical.proofs.SeenSwaps.{if_some_so}
use Rattle.hay_logical.proofs.logical.Logical.standing.Goals as goal
use Rattle.hay_logical.proofs.logical.Logical.standing.Goals.{After-standing}

-- the replica that was asked
there : (g : given.Over) (c : goal.After-standing g) → At c.self.inside.replicas.items c.args.replica c.index-as_slice-replica.result
there g c =
    let same = c.as_slice.ensures.value in
    let long : length c.self.inside.replicas.items ≡ length c.args.self.now.replicas = ap (λ v. length v.replicas) c.self.view_is in
    let within = c.requires in
    let low : c.args.replica < length c.as_slice.result.now = (let l = ap length same in omega (arith, l, long, within)) in
    let here : Copy g.row.D.Denot = c.index-as_slice-replica.result in
    subst (λ xs. At xs c.args.replica here) same (subst (λ x. At c.as_slice.result.now c.args.replica x) (sym c.index-as_slice-replica.is) (at_read c.as_slice.result.now c.args.replica here low))

pub returns-clause-is : goal.returns-clause-is
returns-clause-is g c = λ r e.
    let here : Copy g.row.D.Denot = c.index-as_slice-replica.result in
    let is : r ≡ here =
    at_same c.self.inside.replicas.items c.args.replica r here (subst (λ v. At v.replicas c.args.replica r) (sym c.self.view_is) e) (there g (goal.at.returns-clause-is g c).After-standing) in
    c.standing.ensures.is ∙ ap (λ (x : Copy g.row.D.Denot). goal_of x) (sym is)

pub returns-clause-known : goal.returns-clause-known
unfolding Stands
returns-clause-known g c = λ tells k stands.
    c.standing.ensures.is
    ∙ standing_known c.self.inside.settings c.self.inside.number g.D.Disk.Tells g.D.Disk.files g.D.Piece.Piece.Tells g.D.Disk.fault_count c.self.inside.replicas.items
    c.self.inside.rows c.self.inside.front c.self.inside.frozen c.self.inside.unsure k
    (subst (λ v. StandsFor g.D.Disk.files g.D.Piece.Piece.Tells v k) (sym c.self.view_is) stands) c.args.replica c.index-as_slice-replica.result
    (there g (goal.at.returns-clause-known g c).After-standing)

pub returns-clause-next : goal.returns-clause-next
returns-clause-next g c =
    let at = there g (goal.at.returns-clause-next g c).After-standing in
    let here : Copy g.row.D.Denot = c.index-as_slice-replica.result in
    if_some_so c.standing.result _ _ (λ n next r e. next ∙ ap (λ (x : Copy g.row.D.Denot). generation_of x + 1)
    (at_same c.self.inside.replicas.items c.args.replica here r at (subst (λ v. At v.replicas c.args.replica r) (sym c.self.view_is) e))) c.standing.ensures.next
