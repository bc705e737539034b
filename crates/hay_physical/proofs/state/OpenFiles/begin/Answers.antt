use Rattle.hay_physical.proofs.RunLaws.{bounded_stage}
use Rattle.std.proofs.Common.{◌+◌, refl, ap, arith}
use Rattle.hay_physical.proofs.RunLaws.{run_begun}
use Rattle.hay_physical.proofs.state.OpenFiles.begin.Goals as goal

pub returns-in-Ok-clause-run : goal.returns-in-Ok-clause-run
returns-in-Ok-clause-run g c = λ tells s stand.
    let named = c.in-Ok.ensures.names in
    let is = c.current-generation.ensures in
    run_begun c.args.sup.now (g.D.Disk.files c.args.disk.now) (g.D.Disk.files c.begin.new.disk) c.args.self.now _ c.in-Ok.compactor s (c.current-generation.result + 1)
    (c.in-Ok.ensures.begun tells) stand named (ap (λ k. k + 1) is) refl refl

pub returns-in-Ok-clause-bounded : goal.returns-in-Ok-clause-bounded
returns-in-Ok-clause-bounded g c = λ bounded.
    let from = bounded.from in
    bounded_stage c.args.sup.now.settings.capacity c.args.self.now _ c.in-Ok.compactor bounded refl refl c.in-Ok.ensures.capacity (omega (arith, c.in-Ok.ensures.first))
