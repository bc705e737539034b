use Rattle.std.proofs.Common.{◌≡◌, ℕ, List, length, take, Some, refl, subst, arith}
use Rattle.std.specs.Prelude.{flat_map, slice_get}
use Rattle.std.proofs.lemmas.List.{take_all}
use Rattle.std.proofs.lemmas.Option.{slice_get_read}
use Rattle.hay_disk.specs.Streams.{Wrote}
use Rattle.hay_reply.specs.declared.Note.{Note}
use Rattle.hay_reply.specs.Replies.{note_line}
use Rattle.hay_run.proofs.Turning.{appends_more, appends_nothing, wrote_nothing}
use Rattle.hay_run.proofs.Writes.{on_failure, part_next, wrote_next}
use Rattle.hay_run.proofs.writing.write_notes.Goals as goal

pub loop-note-init : goal.loop-note-init
loop-note-init g c = record {
  wrote = wrote_nothing (g.K.Sink.written c.args.sink.now);
  count = omega arith;
  appends = appends_nothing (g.K.Sink.written c.args.sink.now);
}

pub loop-note-preserved : goal.loop-note-preserved
loop-note-preserved g c =
    let written = g.K.Sink.written in
    let notes = c.args.notes.now in
    let i : ℕ = c.loop-note.note-index in
    let at : slice_get notes i ≡ Some c.note-item.result = slice_get_read notes (length notes) i c.note-item.result refl c.loop-note-test.true c.note-item.is in
    record {
      wrote =
          wrote_next note_line notes i c.note-item.result (written c.args.sink.now) (written c.loop-note.sink) (written c.write_note.new.sink) at c.loop-note.invariant.wrote
          c.in_ok-write_note.ensures.wrote;
      count = omega (arith, c.loop-note.invariant.count, c.in_ok-write_note.ensures.count);
      appends = appends_more (written c.args.sink.now) (written c.loop-note.sink) (written c.write_note.new.sink) c.loop-note.invariant.appends c.in_ok-write_note.ensures.appends;
    }

pub returns-in_err-write_note-clause-part : goal.returns-in_err-write_note-clause-part
returns-in_err-write_note-clause-part g c =
    let written = g.K.Sink.written in
    let notes = c.args.notes.now in
    let i : ℕ = c.loop-note.note-index in
    let at : slice_get notes i ≡ Some c.note-item.result = slice_get_read notes (length notes) i c.note-item.result refl c.loop-note-test.true c.note-item.is in
    on_failure c.from_residual.result
    (part_next note_line notes i c.note-item.result (written c.args.sink.now) (written c.loop-note.sink) (written c.write_note.new.sink) at c.loop-note.invariant.wrote
    c.in_err-write_note.ensures.part)

pub returns-in_err-write_note-clause-appends : goal.returns-in_err-write_note-clause-appends
returns-in_err-write_note-clause-appends g c =
    let written = g.K.Sink.written in
    appends_more (written c.args.sink.now) (written c.loop-note.sink) (written c.write_note.new.sink) c.loop-note.invariant.appends c.in_err-write_note.ensures.appends

pub returns-clause-wrote : goal.returns-clause-wrote
returns-clause-wrote g c =
    let written = g.K.Sink.written in
    let notes = c.args.notes.now in
    let all : take c.loop-note.note-index notes ≡ notes = take_all c.loop-note.note-index notes c.loop-note-test.false in
    subst (λ (l : List Note). Wrote (written c.args.sink.now) (flat_map note_line l) (written c.loop-note.sink)) all c.loop-note.invariant.wrote
