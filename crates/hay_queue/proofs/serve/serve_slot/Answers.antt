use Rattle.std.proofs.Common.{◌≡◌, Some, refl, sym, subst, ◌∙◌}
use Rattle.hay_queue.specs.Benches.{Served}
use Rattle.hay_queue.proofs.serve.serve_slot.Goals as goal

pub returns-in-Some : goal.returns-in-Some
returns-in-Some g c = record {
  served = λ bench is.
      let both : Some c.in-Some.bench ≡ Some bench = sym c.in-Some.is ∙ (c.take.ensures.value ∙ is) in
      let same : c.in-Some.bench ≡ bench = cc both in (
        c.serve_bench.result,
        refl,
        subst (λ b. Served c.args.share.seat c.args.share.seats g.W.Work.answers c.args.jobs.now b.worker c.serve_bench.result.worker c.serve_bench.result.kit.outs.items) same c.serve_bench.ensures,
      );
}
