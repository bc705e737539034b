use Rattle.std.proofs.Common.{◌≡◌, vec_len, sym, subst, ◌∙◌, arith}
use Rattle.hay_queue.specs.Benches.{AreClients}
use Rattle.hay_queue.proofs.Settling.{serves_nothing, are_all, served_all}
use Rattle.hay_queue.proofs.serve.serve_bench.Goals as goal

pub returns-in_default : goal.returns-in_default
returns-in_default g c = let kit = c.requires.kit in let no_lanes : kit.clients ≡ 0 = kit.none (sym c.take.ensures.value ∙ c.in_default.is) in
    serves_nothing g.W.Work.answers c.args.share.seat c.args.share.seats c.args.jobs.now c.args.bench.worker c.args.bench.kit.outs.items
    (subst (λ n. AreClients c.args.share.seat c.args.share.seats n c.args.jobs.now) no_lanes kit.all)

pub settle-requires-clause-clients : goal.settle-requires-clause-clients
settle-requires-clause-clients g c κs =
    let kit = c.requires.kit in let post = kit.post c.in-Some.post (sym c.take.ensures.value ∙ c.in-Some.is) in
    let both = c.join-bench.ensures in
    let many : vec_len c.args.bench.kit.outs ≡ vec_len c.in-Some.post.senders.clients = let m = kit.rooms.many in let n = post.1.many in omega (arith, c.args.bench.kit.outs.ok) in
    are_all c.args.share.seat c.args.share.seats c.in-Some.post.desk c.args.jobs.now _ _ c.join-bench.result.1.items (both.first.1 ∙ many) both.second

pub returns : goal.returns
returns g c =
    let kit = c.requires.kit in let post = kit.post c.in-Some.post (sym c.take.ensures.value ∙ c.in-Some.is) in
    let both = c.join-bench.ensures in
    let many : vec_len c.args.bench.kit.outs ≡ vec_len c.in-Some.post.senders.clients = let m = kit.rooms.many in let n = post.1.many in omega (arith, c.args.bench.kit.outs.ok) in
    served_all g.W.Work.answers c.args.share.seat c.args.share.seats c.args.jobs.now c.args.bench.worker c.join-bench.result.0.1.streams c.join-bench.result.0.0.worker
    c.join-bench.result.0.0.kit.outs.items _ c.in-Some.post.desk
    (subst (λ n. AreClients c.args.share.seat c.args.share.seats n c.args.jobs.now) (sym post.1.many) kit.all) (both.first.1 ∙ many) both.first.3 c.join-bench.result.1.items
    both.second c.settle.ensures.settled
