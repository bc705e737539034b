use Rattle.std.proofs.Common.{◌≡◌, List, Vec, Global, map, sym, subst, ◌∙◌}
use Rattle.std.specs.Prelude.{Result, IfOk, flat_map}
use Rattle.std.proofs.lemmas.Result.{on_err_weaker, on_ok_weaker}
use Rattle.hay_base.specs.declared.memory.NoMemory.{NoMemory}
use Rattle.hay_disk.specs.Streams.{Wrote, WrotePart}
use Rattle.hay_reply.specs.declared.Note.{Note}
use Rattle.hay_reply.specs.declared.Reply.{Reply}
use Rattle.hay_reply.specs.Replies.{note_line}
use Rattle.hay_legal.specs.declared.turn.LaneItem.{LaneItem}
use Rattle.hay_legal.specs.Items.{InBlock}
use Rattle.hay_legal.specs.Transcript.{answered_line}
use Rattle.hay_run.specs.Blocks.{AreAnswered}
use Rattle.hay_run.proofs.Turning.{wrote_more, wrote_part}
use Rattle.hay_run.proofs.Writes.{on_failure, part_behind, part_longer}
use Rattle.hay_run.proofs.writing.write_answers.Goals as goal

-- the replies as they are passed
answered_now : (lines : List InBlock) (replies now : List (Vec Reply Global)) (items : List LaneItem) → now ≡ replies → AreAnswered lines (map (λ own. own.items) replies) items
    → AreAnswered lines (map (λ own. own.items) now) items
answered_now lines replies now items is answered = subst (λ (l : List (Vec Reply Global)). AreAnswered lines (map (λ own. own.items) l) items) (sym is) answered

pub write_replies-requires : goal.write_replies-requires
write_replies-requires g c =
    (c.requires.0, c.requires.1, c.requires.2, answered_now c.requires.0 c.args.answers.now.replies.items c.as_slice.result.now c.requires.1 c.as_slice.ensures.value c.requires.3)

pub returns-in_err-write_replies-clause-part : goal.returns-in_err-write_replies-clause-part
returns-in_err-write_replies-clause-part g c = λ lines items notes are answered told.
    let written = g.K.Sink.written in
    on_failure c.from_residual.result
    (part_longer (written c.args.sink.now) (written c.write_replies.new.sink) (flat_map answered_line items) (flat_map note_line notes)
    (c.in_err-write_replies.ensures.part lines items are (answered_now lines c.args.answers.now.replies.items c.as_slice.result.now items c.as_slice.ensures.value answered)))

pub returns-in-Ok-clause-wrote : goal.returns-in-Ok-clause-wrote
returns-in-Ok-clause-wrote g c = λ lines items notes are answered told.
    let written = g.K.Sink.written in
    let same : c.as_slice-in-Ok.result.now ≡ notes = c.as_slice-in-Ok.ensures.value ∙ subst (λ (r : Result (Vec Note Global) NoMemory). IfOk r (λ own. own.items ≡ notes)) c.in-Ok.is told in
    let first = c.in_ok-write_replies.ensures.wrote lines items are (answered_now lines c.args.answers.now.replies.items c.as_slice.result.now items c.as_slice.ensures.value answered) in
    on_ok_weaker c.write_notes.result (λ (wrote : Wrote (written c.write_replies.new.sink) (flat_map note_line c.as_slice-in-Ok.result.now) (written c.write_notes.new.sink)).
    wrote_more (written c.args.sink.now) (written c.write_replies.new.sink) (written c.write_notes.new.sink) (flat_map answered_line items) (flat_map note_line notes) first
    (subst (λ (l : List Note). Wrote (written c.write_replies.new.sink) (flat_map note_line l) (written c.write_notes.new.sink)) same wrote)) c.write_notes.ensures.wrote

pub returns-in-Ok-clause-part : goal.returns-in-Ok-clause-part
returns-in-Ok-clause-part g c = λ lines items notes are answered told.
    let written = g.K.Sink.written in
    let same : c.as_slice-in-Ok.result.now ≡ notes = c.as_slice-in-Ok.ensures.value ∙ subst (λ (r : Result (Vec Note Global) NoMemory). IfOk r (λ own. own.items ≡ notes)) c.in-Ok.is told in
    let first = c.in_ok-write_replies.ensures.wrote lines items are (answered_now lines c.args.answers.now.replies.items c.as_slice.result.now items c.as_slice.ensures.value answered) in
    on_err_weaker c.write_notes.result (λ (part : WrotePart (written c.write_replies.new.sink) (flat_map note_line c.as_slice-in-Ok.result.now) (written c.write_notes.new.sink)).
    part_behind (written c.args.sink.now) (written c.write_replies.new.sink) (written c.write_notes.new.sink) (flat_map answered_line items) (flat_map note_line notes) first
    (subst (λ (l : List Note). WrotePart (written c.write_replies.new.sink) (flat_map note_line l) (written c.write_notes.new.sink)) same part)) c.write_notes.ensures.part

-- the replies are written, and no note
pub returns-in-Err-clause-part : goal.returns-in-Err-clause-part
returns-in-Err-clause-part g c = λ lines items notes are answered told.
    let written = g.K.Sink.written in
    let first = c.in_ok-write_replies.ensures.wrote lines items are (answered_now lines c.args.answers.now.replies.items c.as_slice.result.now items c.as_slice.ensures.value answered) in
    part_longer (written c.args.sink.now) (written c.write_replies.new.sink) (flat_map answered_line items) (flat_map note_line notes)
    (wrote_part (written c.args.sink.now) (written c.write_replies.new.sink) (flat_map answered_line items) first)
