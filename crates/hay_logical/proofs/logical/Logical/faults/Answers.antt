use Rattle.std.proofs.Common.{◌≡◌, ◌<◌, length, sym, ap, subst, ◌∙◌, arith}
use Rattle.hay_physical.specs.OpenCopies.{Copy}
use Rattle.hay_logical.specs.Fits.{At}
use Rattle.hay_logical.proofs.Lists.{at_read, at_same}
use Rattle.hay_logical.proofs.logical.Logical.faults.Goals as goal

pub returns : goal.returns
returns g c = λ r e.
    let same = c.as_slice.ensures.value in
    let long : length c.self.inside.replicas.items ≡ length c.args.self.now.replicas = ap (λ v. length v.replicas) c.self.view_is in
    let within = c.requires in
    let low : c.args.replica < length c.as_slice.result.now = (let l = ap length same in omega (arith, l, long, within)) in
    let here : Copy g.row.D.Denot = c.index-as_slice-replica.result in
    let there : At c.as_slice.result.now c.args.replica here =
    subst (λ x. At c.as_slice.result.now c.args.replica x) (sym c.index-as_slice-replica.is) (at_read c.as_slice.result.now c.args.replica here low) in
    let is : r ≡ here = at_same c.args.self.now.replicas c.args.replica r here e (subst (λ xs. At xs c.args.replica here) (same ∙ ap (λ v. v.replicas) c.self.view_is) there) in
    c.faults.ensures ∙ ap (λ (x : Copy g.row.D.Denot). g.D.Disk.fault_count x.disk) (sym is)
