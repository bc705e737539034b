use Rattle.std.proofs.Common.{◌≡◌, ◌<◌, length, vec_len, rules, subst, arith}
use Rattle.hay_queue.specs.Benches.{OutsAt}
use Rattle.hay_queue.proofs.Lanes.{are_ready, all_there, kits_many, each_lane, serves_lanes}
use Rattle.hay_queue.proofs.serve.serve_lanes.Goals as goal

pub serve_benches-benches-requires-clause-ready : goal.serve_benches-benches-requires-clause-ready
serve_benches-benches-requires-clause-ready g c κs within = let many : length c.args.workers.items ≡ c.len-seats.result = search rules in let made = c.benches_of-benches.ensures in
    are_ready c.len-seats.result c.args.jobs.now c.args.workers.items c.benches_of-benches.result.items many made.workers g.W.Work.may_answer c.in-Ok.kits.items made.kits
    c.in-Ok.ensures.each c.requires.may

pub parts_of-after-requires-clause-all : goal.parts_of-after-requires-clause-all
parts_of-after-requires-clause-all g c κs within =
    let many : length c.args.workers.items ≡ c.len-seats.result = search rules in let made = c.benches_of-benches.ensures in let served = c.serve_benches-benches.ensures in
    let stay : length c.serve_benches-benches.result.items ≡ c.len-seats.result = search rules in
    all_there c.len-seats.result c.args.jobs.now c.args.workers.items c.benches_of-benches.result.items many made.workers g.W.Work.answers c.serve_benches-benches.result.items stay served.served

pub gather-requires-clause-seats : goal.gather-requires-clause-seats
gather-requires-clause-seats g c =
    let many : length c.args.workers.items ≡ c.len-seats.result = search rules in let made = c.benches_of-benches.ensures in let served = c.serve_benches-benches.ensures in
    let parts = c.parts_of-after.ensures in
    let stay : length c.serve_benches-benches.result.items ≡ c.len-seats.result = search rules in let some : 0 < c.len-seats.result = search rules in
    let as_many =
    kits_many c.len-seats.result c.args.jobs.now c.args.workers.items c.benches_of-benches.result.items many made.workers g.W.Work.answers c.serve_benches-benches.result.items stay served.served
    c.parts_of-after.result.0.items c.parts_of-after.result.1.items parts.workers parts.kits some in omega (arith, c.parts_of-after.result.1.ok)

pub gather-requires-clause-all : goal.gather-requires-clause-all
gather-requires-clause-all g c lane lt =
    let many : length c.args.workers.items ≡ c.len-seats.result = search rules in let made = c.benches_of-benches.ensures in let served = c.serve_benches-benches.ensures in
    let parts = c.parts_of-after.ensures in
    let stay : length c.serve_benches-benches.result.items ≡ c.len-seats.result = search rules in let some : 0 < c.len-seats.result = search rules in
    let kits = c.parts_of-after.result.1.items in
    let as_many =
    kits_many c.len-seats.result c.args.jobs.now c.args.workers.items c.benches_of-benches.result.items many made.workers g.W.Work.answers c.serve_benches-benches.result.items stay served.served
    c.parts_of-after.result.0.items kits parts.workers parts.kits some in
    let seats : c.len-seats.result ≡ vec_len c.parts_of-after.result.1 = omega (arith, c.parts_of-after.result.1.ok) in
    let there =
    each_lane c.len-seats.result c.args.jobs.now c.args.workers.items c.benches_of-benches.result.items many made.workers g.W.Work.answers c.serve_benches-benches.result.items stay served.served
    c.parts_of-after.result.0.items kits parts.workers parts.kits some lane lt in
    (there.0, subst (λ n. OutsAt kits n lane there.0) seats there.1)

pub returns-clause-answered : goal.returns-clause-answered
returns-clause-answered g c =
    let many : length c.args.workers.items ≡ c.len-seats.result = search rules in let made = c.benches_of-benches.ensures in let served = c.serve_benches-benches.ensures in
    let parts = c.parts_of-after.ensures in
    let stay : length c.serve_benches-benches.result.items ≡ c.len-seats.result = search rules in let some : 0 < c.len-seats.result = search rules in
    let kits = c.parts_of-after.result.1.items in
    let as_many =
    kits_many c.len-seats.result c.args.jobs.now c.args.workers.items c.benches_of-benches.result.items many made.workers g.W.Work.answers c.serve_benches-benches.result.items stay served.served
    c.parts_of-after.result.0.items kits parts.workers parts.kits some in
    let seats : c.len-seats.result ≡ vec_len c.parts_of-after.result.1 = omega (arith, c.parts_of-after.result.1.ok) in
    let long : length c.gather.result.items ≡ length c.args.jobs.now = search rules in
    serves_lanes c.len-seats.result c.args.jobs.now c.args.workers.items c.benches_of-benches.result.items many made.workers g.W.Work.answers c.serve_benches-benches.result.items stay served.served
    c.parts_of-after.result.0.items kits parts.workers parts.kits some c.gather.result.items long
    (λ lane os lt there. c.gather.ensures.each lane os lt (subst (λ n. OutsAt kits n lane os) seats there))
