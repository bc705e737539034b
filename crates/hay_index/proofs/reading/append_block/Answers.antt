use Rattle.std.proofs.Common.{◌≡◌, arith, ap, ◌∙◌}
use Rattle.hay_index.specs.Records.{place_behind}
use Rattle.hay_index.proofs.ReadLaws.{stray_here, added_more, row_added}
use Rattle.hay_index.proofs.reading.append_block.Goals as goal

pub returns-then-row-next_place-clause-stray : goal.returns-then-row-next_place-clause-stray
returns-then-row-next_place-clause-stray c = λ k is.
    let here : k ≡ c.loop-row.at = cc in
    stray_here c.args.records.now.items c.loop-row.records.items c.args.block.now c.loop-row.row-index c.args.first c.loop-row.at k c.next_place.result _ c.loop-row-test.true
    c.loop-row.invariant.added c.loop-row.invariant.in_row
    c.loop-row.invariant.place here c.if-row-next_place.true (c.next_place.ensures ∙ ap (λ l. place_behind 64 l) c.as_slice.ensures.value)

pub loop-row-preserved : goal.loop-row-preserved
loop-row-preserved c = record {
  place = omega (arith, c.loop-row.invariant.place);
  added =
      added_more c.args.records.now.items c.loop-row.records.items c.push.new.self.items c.args.block.now c.loop-row.row-index _ c.loop-row-test.true c.loop-row.invariant.added
      c.in_ok-push.ensures.items;
  in_row =
      row_added c.loop-row.records.items c.push.new.self.items _ c.next_place.result c.loop-row.invariant.in_row c.in_ok-push.ensures.items c.if-row-next_place.false
      (c.next_place.ensures ∙ ap (λ l. place_behind 64 l) c.as_slice.ensures.value);
}
