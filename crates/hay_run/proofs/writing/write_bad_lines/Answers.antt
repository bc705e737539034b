use Rattle.std.proofs.Common.{◌≡◌, ℕ, List, length, take, Some, refl, ap, subst, arith}
use Rattle.std.specs.Prelude.{flat_map, slice_get}
use Rattle.std.proofs.lemmas.List.{take_all}
use Rattle.std.proofs.lemmas.Option.{slice_get_read}
use Rattle.hay_disk.specs.Streams.{Wrote, WrotePart}
use Rattle.hay_reply.specs.declared.Reply.TheVariants.{BadLine}
use Rattle.hay_reply.specs.Replies.{numbered_line}
use Rattle.hay_legal.specs.Items.{InBlock}
use Rattle.hay_run.specs.Blocks.{bad_text}
use Rattle.hay_run.proofs.Turning.{appends_more, appends_nothing, wrote_nothing}
use Rattle.hay_run.proofs.Writes.{on_failure, part_next, wrote_next}
use Rattle.hay_run.proofs.writing.write_bad_lines.Goals as goal

pub loop-line-init : goal.loop-line-init
loop-line-init g c = record {
  wrote = wrote_nothing (g.K.Sink.written c.args.sink.now);
  count = omega arith;
  appends = appends_nothing (g.K.Sink.written c.args.sink.now);
}

pub loop-line-preserved : goal.loop-line-preserved
loop-line-preserved g c =
    let written = g.K.Sink.written in
    let lines = c.args.lines.now in
    let i : ℕ = c.loop-line.line-index in
    let at : slice_get lines i ≡ Some c.line-item.result = slice_get_read lines (length lines) i c.line-item.result refl c.loop-line-test.true c.line-item.is in
    record {
      wrote =
          wrote_next bad_text lines i c.line-item.result (written c.args.sink.now) (written c.loop-line.sink) (written c.write_bad.new.sink) at c.loop-line.invariant.wrote
          (subst (λ (n : ℕ). Wrote (written c.loop-line.sink) (numbered_line n BadLine) (written c.write_bad.new.sink)) (ap (λ (l : InBlock). l.line) c.line.view_is)
          c.in_ok-write_bad.ensures.wrote);
      count = omega (arith, c.loop-line.invariant.count, c.in_ok-write_bad.ensures.count);
      appends = appends_more (written c.args.sink.now) (written c.loop-line.sink) (written c.write_bad.new.sink) c.loop-line.invariant.appends c.in_ok-write_bad.ensures.appends;
    }

pub returns-in_err-write_bad-clause-part : goal.returns-in_err-write_bad-clause-part
returns-in_err-write_bad-clause-part g c =
    let written = g.K.Sink.written in
    let lines = c.args.lines.now in
    let i : ℕ = c.loop-line.line-index in
    let at : slice_get lines i ≡ Some c.line-item.result = slice_get_read lines (length lines) i c.line-item.result refl c.loop-line-test.true c.line-item.is in
    on_failure c.from_residual.result
    (part_next bad_text lines i c.line-item.result (written c.args.sink.now) (written c.loop-line.sink) (written c.write_bad.new.sink) at c.loop-line.invariant.wrote
    (subst (λ (n : ℕ). WrotePart (written c.loop-line.sink) (numbered_line n BadLine) (written c.write_bad.new.sink)) (ap (λ (l : InBlock). l.line) c.line.view_is)
    c.in_err-write_bad.ensures.part))

pub returns-in_err-write_bad-clause-appends : goal.returns-in_err-write_bad-clause-appends
returns-in_err-write_bad-clause-appends g c =
    let written = g.K.Sink.written in
    appends_more (written c.args.sink.now) (written c.loop-line.sink) (written c.write_bad.new.sink) c.loop-line.invariant.appends c.in_err-write_bad.ensures.appends

pub returns-clause-wrote : goal.returns-clause-wrote
returns-clause-wrote g c =
    let written = g.K.Sink.written in
    let lines = c.args.lines.now in
    let all : take c.loop-line.line-index lines ≡ lines = take_all c.loop-line.line-index lines c.loop-line-test.false in
    subst (λ (l : List InBlock). Wrote (written c.args.sink.now) (flat_map bad_text l) (written c.loop-line.sink)) all c.loop-line.invariant.wrote
