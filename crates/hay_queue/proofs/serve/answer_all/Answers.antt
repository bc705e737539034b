use Rattle.std.proofs.Common.{◌<◌, false, length, vec_len, rules, ap, ◌∙◌, arith}
use Rattle.std.proofs.lemmas.List.{length-set, length-replicate}
use Rattle.std.proofs.lemmas.Option.{slice_get_within}
use native.Mathlib.Decide.{dec_lt, ℕ_discrete}
use Rattle.hay_queue.specs.Streams.{empty, stream}
use Rattle.hay_queue.proofs.Steps.{item_at, serving_starts, serving_ends, serving_room, serving_taken, some_seat, stays_ready}
use Rattle.hay_queue.proofs.serve.answer_all.Goals as goal

pub loop-init : goal.loop-init
loop-init g c = let n = vec_len c.args.bench.kit.outs in let streams = ap (λ t. t.streams) c.requires.taker in record {
  own = ap (λ t. t.desk) c.requires.taker;
  many = ap length streams ∙ length-replicate n empty;
  served = serving_starts g.W.Work.answers c.args.share.seat c.args.share.seats c.args.jobs.now c.args.bench.worker n c.args.taker.streams c.args.bench.kit.outs.items streams c.requires.rooms;
  ready = c.requires.may.0;
}

pub returns-in_default-clause-served : goal.returns-in_default-clause-served
returns-in_default-clause-served g c =
    serving_ends g.W.Work.answers c.args.share.seat c.args.share.seats c.args.jobs.now c.args.bench.worker c.loop.taker.streams c.take.new.worker.streams c.loop.bench.worker
    c.loop.bench.kit.outs.items
    c.in_default.ensures.none.0 c.loop.invariant.served

pub answer_call-requires-clause-client : goal.answer_call-requires-clause-client
answer_call-requires-clause-client g c κs within =
    let i = c.loop.invariant in let taken = c.in-Some-take.ensures.job in let inside = slice_get_within taken.between c.in-Some-take.client (stream taken.names false) taken.going_on in
    let long = taken.ends.clients in let many = i.many in let as_many = i.served.many in
    let low : c.in-Some-take.client < vec_len c.args.bench.kit.outs = omega arith in (omega (arith, c.loop.bench.kit.outs.ok), (c.requires.lanes.0 c.in-Some-take.client).0 low)

pub answer_call-requires-clause-next : goal.answer_call-requires-clause-next
answer_call-requires-clause-next g c κs within js os at here lt =
    let i = c.loop.invariant in let taken = c.in-Some-take.ensures.job in
    let between =
    serving_ends g.W.Work.answers c.args.share.seat c.args.share.seats c.args.jobs.now c.args.bench.worker c.loop.taker.streams taken.between c.loop.bench.worker
    c.loop.bench.kit.outs.items taken.ends i.served in
    let room =
    serving_room g.W.Work.answers c.args.share.seat c.args.share.seats c.args.jobs.now c.args.bench.worker taken.between c.loop.bench.worker c.loop.bench.kit.outs.items
    c.in-Some-take.client c.in-Some-take.place taken.names js os
    between taken.going_on taken.next at here lt in omega (arith, os.ok)

pub loop-preserved : goal.loop-preserved
loop-preserved g c =
    let i = c.loop.invariant in let taken = c.in-Some-take.ensures.job in let client = c.in-Some-take.client in let place = c.in-Some-take.place in
    let inside = slice_get_within taken.between client (stream taken.names false) taken.going_on in
    let long = taken.ends.clients in let many = i.many in let as_many = i.served.many in
    let low : client < vec_len c.args.bench.kit.outs = omega arith in
    let js = item_at c.args.jobs.now _ ((c.requires.lanes.0 client).0 low) in
    let os = item_at c.loop.bench.kit.outs.items client (omega arith) in
    let call = c.answer_call.ensures js.0 os.0 js.1 os.1 in
    record {
      own = search rules;
      many = ap length taken.after ∙ (length-set taken.between client (stream _ false) ∙ (taken.ends.clients ∙ i.many));
      served =
          serving_taken g.W.Work.answers c.args.share.seat c.args.share.seats c.args.jobs.now c.args.bench.worker c.loop.taker.streams c.take.new.worker.streams c.loop.bench
          c.answer_call.new.bench client place _ js.0 os.0
          (some_seat c.args.share.seat c.args.share.seats (vec_len c.args.bench.kit.outs) client c.args.jobs.now c.requires.lanes.0 low (ℕ_discrete c.args.share.seats 0)) taken
          js.1 os.1 call i.served;
      ready =
          stays_ready g.W.Work.may_answer g.W.Work.answers c.args.share.seat c.args.share.seats c.args.jobs.now c.requires.may.1 c.loop.bench c.answer_call.new.bench client place
          js.0 os.0 call (dec_lt place (length js.0.items)) i.ready;
    }
