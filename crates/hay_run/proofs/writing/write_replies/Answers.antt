use Rattle.std.proofs.Common.{◌≡◌, ℕ, ◌<◌, List, Vec, Global, length, map, take, sym, ap, subst, arith}
use Rattle.std.specs.Prelude.{flat_map, slice_index_or}
use Rattle.std.proofs.lemmas.List.{take_all}
use Rattle.std.proofs.lemmas.Option.{slice_get-get_or}
use Rattle.hay_disk.specs.Streams.{Wrote, WrotePart}
use Rattle.hay_reply.specs.declared.Reply.{Reply}
use Rattle.hay_legal.specs.declared.turn.LaneItem.{LaneItem}
use Rattle.hay_legal.specs.Items.{InBlock}
use Rattle.hay_legal.specs.Transcript.{answered_line}
use Rattle.hay_run.specs.declared.deal.Place.{Place}
use Rattle.hay_run.specs.Blocks.{AreAnswered, ArePlaces}
use Rattle.hay_run.proofs.Dealing.{Answered, answered_at, lane_there, line_text, reply_there, same_many}
use Rattle.hay_run.proofs.Turning.{appends_more, appends_nothing, wrote_nothing}
use Rattle.hay_run.proofs.Writes.{on_failure, part_next, wrote_next}
use Rattle.hay_run.proofs.writing.write_replies.Goals as goal

nowhere : Place
nowhere = record { line = 0; lane = 0; nth = 0 }

-- the line whose place is looked at
line_here : (lines : List InBlock) (places : List Place) (replies : List (Vec Reply Global)) (items : List LaneItem) (i : ℕ) → i < length places
    → ArePlaces lines places → AreAnswered lines (map (λ own. own.items) replies) items → Answered places (map (λ own. own.items) replies) items i (slice_index_or places i nowhere)
line_here lines places replies items i below are answered =
    answered_at lines places (map (λ own. own.items) replies) items i (slice_index_or places i nowhere) are answered (slice_get-get_or places i nowhere below)

pub loop-place-init : goal.loop-place-init
loop-place-init g c = record {
  wrote = λ lines items are answered. wrote_nothing (g.K.Sink.written c.args.sink.now);
  count = omega arith;
  appends = appends_nothing (g.K.Sink.written c.args.sink.now);
}

pub bounds-replies-place : goal.bounds-replies-place
unfolding nowhere
bounds-replies-place g c =
    let places : List Place = c.args.places.now in
    let i : ℕ = c.loop-place.place-index in
    lane_there places c.args.replies.now c.requires.1 i (slice_index_or places i nowhere)
    (line_here c.requires.0 places c.args.replies.now c.requires.1 i c.loop-place-test.true c.requires.2 c.requires.3)

pub bounds-own-place : goal.bounds-own-place
unfolding nowhere
bounds-own-place g c =
    let places : List Place = c.args.places.now in
    let i : ℕ = c.loop-place.place-index in
    subst (λ (l : List Reply). (slice_index_or places i nowhere).nth < length l) (sym c.as_slice-own.ensures.value)
    (reply_there places c.args.replies.now c.requires.1 i (slice_index_or places i nowhere) c.index-replies-place.result c.index-replies-place.is
    (line_here c.requires.0 places c.args.replies.now c.requires.1 i c.loop-place-test.true c.requires.2 c.requires.3))

pub offset_bounds-own-place : goal.offset_bounds-own-place
unfolding nowhere
offset_bounds-own-place g c =
    let places : List Place = c.args.places.now in
    let i : ℕ = c.loop-place.place-index in
    let within = reply_there places c.args.replies.now c.requires.1 i (slice_index_or places i nowhere) c.index-replies-place.result c.index-replies-place.is
    (line_here c.requires.0 places c.args.replies.now c.requires.1 i c.loop-place-test.true c.requires.2 c.requires.3) in
    let long = ap length c.as_slice-own.ensures.value in
    let small = c.as_slice-own.type_inv in
    omega (arith, within, long, small)

pub loop-place-preserved : goal.loop-place-preserved
unfolding nowhere
loop-place-preserved g c =
    let written = g.K.Sink.written in
    let places : List Place = c.args.places.now in
    let i : ℕ = c.loop-place.place-index in
    let place : Place = slice_index_or places i nowhere in
    let reply : Reply = c.index-own-place.result in
    let here : reply ≡ slice_index_or (c.index-replies-place.result).items place.nth reply =
    subst (λ (l : List Reply). reply ≡ slice_index_or l place.nth reply) c.as_slice-own.ensures.value c.index-own-place.is in
    record {
      wrote = λ lines items are answered.
          let line = line_here lines places c.args.replies.now items i c.loop-place-test.true are answered in
          let text = line_text places c.args.replies.now items i place c.index-replies-place.result reply c.index-replies-place.is here line in
          wrote_next answered_line items i line.item (written c.args.sink.now) (written c.loop-place.sink) (written c.write_line.new.sink) line.here
          (c.loop-place.invariant.wrote lines items are answered)
          (subst (λ (l : List ℕ). Wrote (written c.loop-place.sink) l (written c.write_line.new.sink)) text c.in_ok-write_line.ensures.wrote);
      count = omega (arith, c.loop-place.invariant.count, c.in_ok-write_line.ensures.count);
      appends = appends_more (written c.args.sink.now) (written c.loop-place.sink) (written c.write_line.new.sink) c.loop-place.invariant.appends c.in_ok-write_line.ensures.appends;
    }

pub returns-in_err-write_line-clause-part : goal.returns-in_err-write_line-clause-part
unfolding nowhere
returns-in_err-write_line-clause-part g c = λ lines items are answered.
    let written = g.K.Sink.written in
    let places : List Place = c.args.places.now in
    let i : ℕ = c.loop-place.place-index in
    let place : Place = slice_index_or places i nowhere in
    let reply : Reply = c.index-own-place.result in
    let here : reply ≡ slice_index_or (c.index-replies-place.result).items place.nth reply =
    subst (λ (l : List Reply). reply ≡ slice_index_or l place.nth reply) c.as_slice-own.ensures.value c.index-own-place.is in
    let line = line_here lines places c.args.replies.now items i c.loop-place-test.true are answered in
    let text = line_text places c.args.replies.now items i place c.index-replies-place.result reply c.index-replies-place.is here line in
    on_failure c.from_residual.result
    (part_next answered_line items i line.item (written c.args.sink.now) (written c.loop-place.sink) (written c.write_line.new.sink) line.here (c.loop-place.invariant.wrote lines items are answered)
    (subst (λ (l : List ℕ). WrotePart (written c.loop-place.sink) l (written c.write_line.new.sink)) text c.in_err-write_line.ensures.part))

pub returns-in_err-write_line-clause-appends : goal.returns-in_err-write_line-clause-appends
returns-in_err-write_line-clause-appends g c =
    let written = g.K.Sink.written in
    appends_more (written c.args.sink.now) (written c.loop-place.sink) (written c.write_line.new.sink) c.loop-place.invariant.appends c.in_err-write_line.ensures.appends

pub returns-clause-wrote : goal.returns-clause-wrote
returns-clause-wrote g c = λ lines items are answered.
    let written = g.K.Sink.written in
    let i : ℕ = c.loop-place.place-index in
    let many = same_many lines c.args.places.now (map (λ own. own.items) c.args.replies.now) items are answered in
    let over = c.loop-place-test.false in
    let all : take i items ≡ items = take_all i items (omega (arith, many, over)) in
    subst (λ (l : List LaneItem). Wrote (written c.args.sink.now) (flat_map answered_line l) (written c.loop-place.sink)) all (c.loop-place.invariant.wrote lines items are answered)
