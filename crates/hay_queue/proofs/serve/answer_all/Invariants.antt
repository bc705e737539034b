use Rattle.std.proofs.Common.{◌≡◌, length, vec_len}
use Rattle.hay_queue.specs.Benches.{Serving, MayAnswerAll}
use Rattle.hay_queue.proofs.serve.answer_all.Given as goal

abbrev pub invariant-loop : goal.invariant-loop
invariant-loop g l = record {
  own : l.taker.desk ≡ l.desk;
  many : length l.taker.streams ≡ vec_len l.fn.bench.kit.outs;
  served : Serving l.share.seat l.share.seats g.W.Work.answers l.jobs l.fn.bench.worker l.taker.streams l.bench.worker l.bench.kit.outs.items;
  ready : MayAnswerAll l.share.seat l.share.seats g.W.Work.may_answer l.jobs l.bench.worker;
}
