use Rattle.std.proofs.Common.{◌≡◌, ◌+◌, ◌≤◌, false, List, length, get_or, drop, refl, ap, sym, subst, ◌∙◌, arith, length-drop}
use Rattle.hay_needle.specs.declared.needle.CellHead.{CellHead}
use Rattle.hay_needle.specs.declared.needle.Version.TheVariants.{One}
use Rattle.hay_volume.specs.Cells.{StandsCell}
use Rattle.hay_index.specs.Records.{place_behind}
use Rattle.hay_open.specs.Finds.{StandsAt}
use Rattle.hay_open.specs.Listing.{ArePlaced, head_record}
use Rattle.hay_open.proofs.CellRows.{head_row, heads_length}
use Rattle.hay_open.proofs.Flagging.{rows_more}
use Rattle.hay_open.proofs.Listings.{orphan_at, orphan_there, orphan_whole}
use Rattle.hay_open.proofs.PieceLaws.{gives_none, gives_one, gives_more}
use Rattle.hay_open.proofs.PlaceLaws.{all_placed, orphans_all, orphans_more, orphans_none, place_step}
use Rattle.hay_open.proofs.places.open_orphans.Goals as goal

none : CellHead
none = record { at = 0; version = One; pair = record { key = 0; alt = 0 }; cookie = record { 0 = 0 }; size = 0; deleted = false }

pub loop-head-init : goal.loop-head-init
loop-head-init g c =
    let end : c.args.listing.now.recorded ≡ c.args.listing.now.recorded + 0 = omega arith in
    record {
      pieces = λ tells. gives_none c.args.listing.now.volume (place_behind 64 c.args.listing.now.rows.items) c.args.listing.now.rows.items (g.D.Disk.files c.args.disk.now);
      placed = λ tells whole lists before. subst (λ n. ArePlaced g.D.Piece.Piece.Tells whole n c.args.cells.now.items) end before;
      seen = λ tells orphans from end has heads. orphans_none g.D.Piece.Piece.Tells orphans c.args.cells.now.items;
      of = λ before. before;
      drawn = λ tells n. refl;
      faults = omega arith;
      fuses = refl;
    }

pub open_orphan-requires-clause-stands : goal.open_orphan-requires-clause-stands
unfolding none
open_orphan-requires-clause-stands g c = λ tells.
    let listing = c.args.listing.now in
    let given = c.requires.orphans tells in
    let file = (g.D.Disk.files c.args.disk.now listing.volume).now in
    let head = get_or c.as_slice-head-items.result.now c.loop-head.head-index none in
    let one =
    orphan_there given.0 (place_behind 64 listing.rows.items) listing.recorded c.loop-head.head-index file given.1 listing.rows.items c.as_slice-head-items.result.now
    listing.orphans.items none given.2 given.3 given.4 c.as_slice-head-items.ensures.value c.loop-head-test.true in
    (one.cell, subst (λ l. StandsCell head.at l one.cell) (sym (c.loop-head.invariant.pieces tells).now) one.stands, one.is)

pub open_orphan-requires-clause-solid : goal.open_orphan-requires-clause-solid
open_orphan-requires-clause-solid g c = λ tells. (c.loop-head.invariant.pieces tells).solid (c.requires.solid tells)

pub returns-in_err-open_orphan-clause-pieces : goal.returns-in_err-open_orphan-clause-pieces
unfolding none
returns-in_err-open_orphan-clause-pieces g c = λ tells.
    let listing = c.args.listing.now in
    let given = c.requires.orphans tells in
    let file = (g.D.Disk.files c.args.disk.now listing.volume).now in
    let head = get_or c.as_slice-head-items.result.now c.loop-head.head-index none in
    let one =
    orphan_there given.0 (place_behind 64 listing.rows.items) listing.recorded c.loop-head.head-index file given.1 listing.rows.items c.as_slice-head-items.result.now
    listing.orphans.items none given.2 given.3 given.4 c.as_slice-head-items.ensures.value c.loop-head-test.true in
    let f = g.D.Disk.files in
    gives_more listing.volume (place_behind 64 listing.rows.items) listing.rows.items (f c.args.disk.now) (f c.loop-head.disk) (f c.open_orphan.new.disk) (c.loop-head.invariant.pieces tells)
    (gives_one listing.volume (listing.recorded + c.loop-head.head-index) listing.rows.items (head_record head) (f c.loop-head.disk) (f c.open_orphan.new.disk)
    (c.requires.row tells) one.row (c.open_orphan.ensures.others tells) (c.open_orphan.ensures.seals tells))

pub loop-head-preserved : goal.loop-head-preserved
unfolding none
loop-head-preserved g c = record {
  pieces = λ tells.
      let listing = c.args.listing.now in
      let given = c.requires.orphans tells in
      let file = (g.D.Disk.files c.args.disk.now listing.volume).now in
      let head = get_or c.as_slice-head-items.result.now c.loop-head.head-index none in
      let one =
      orphan_there given.0 (place_behind 64 listing.rows.items) listing.recorded c.loop-head.head-index file given.1 listing.rows.items c.as_slice-head-items.result.now
      listing.orphans.items none given.2 given.3 given.4 c.as_slice-head-items.ensures.value c.loop-head-test.true in
      let f = g.D.Disk.files in
      gives_more listing.volume (place_behind 64 listing.rows.items) listing.rows.items (f c.args.disk.now) (f c.loop-head.disk) (f c.open_orphan.new.disk) (c.loop-head.invariant.pieces tells)
      (gives_one listing.volume (listing.recorded + c.loop-head.head-index) listing.rows.items (head_record head) (f c.loop-head.disk) (f c.open_orphan.new.disk)
      (c.requires.row tells) one.row (c.open_orphan.ensures.others tells) (c.open_orphan.ensures.seals tells));
  placed = λ tells whole lists before.
      let listing = c.args.listing.now in
      let file = (g.D.Disk.files c.args.disk.now listing.volume).now in
      let head = get_or c.as_slice-head-items.result.now c.loop-head.head-index none in
      let cell =
      orphan_whole listing.end listing.recorded c.loop-head.head-index file whole c.as_slice-head-items.result.now listing.orphans.items none lists.has lists.heads
      c.as_slice-head-items.ensures.value c.loop-head-test.true in
      let added = c.in_ok-open_orphan.ensures.added in
      let next : (listing.recorded + c.loop-head.head-index) + 1 ≡ listing.recorded + (c.loop-head.head-index + 1) = omega arith in
      subst (λ n. ArePlaced g.D.Piece.Piece.Tells whole n c.open_orphan.new.cells.items) next
      (place_step g.D.Piece.Piece.Tells whole (listing.recorded + c.loop-head.head-index) cell.cell head.pair c.loop-head.cells.items c.open_orphan.new.cells.items added.0
      cell.there (ap (λ (h : CellHead). h.pair) cell.is)
      (c.loop-head.invariant.placed tells whole lists before) added.1
      (added.3 tells cell.cell (subst (λ l. StandsCell head.at l cell.cell) (sym (c.loop-head.invariant.pieces tells).now) cell.stands) cell.is));
  seen = λ tells orphans from end has heads.
      let listing = c.args.listing.now in
      let file = (g.D.Disk.files c.args.disk.now listing.volume).now in
      let head = get_or c.as_slice-head-items.result.now c.loop-head.head-index none in
      let cell =
      orphan_at from end c.loop-head.head-index file orphans c.as_slice-head-items.result.now listing.orphans.items none has heads c.as_slice-head-items.ensures.value c.loop-head-test.true in
      let added = c.in_ok-open_orphan.ensures.added in
      orphans_more g.D.Piece.Piece.Tells orphans c.loop-head.head-index cell.cell head.pair added.0 c.args.cells.now.items c.loop-head.cells.items c.open_orphan.new.cells.items
      cell.there (ap (λ (h : CellHead). h.pair) cell.is)
      (subst (λ n. StandsAt n added.0) (ap (λ (h : CellHead). h.at) cell.is) added.2)
      (added.3 tells cell.cell (subst (λ l. StandsCell head.at l cell.cell) (sym (c.loop-head.invariant.pieces tells).now) cell.stands) cell.is)
      (c.loop-head.invariant.seen tells orphans from end has heads) added.1;
  of = λ before.
      let listing = c.args.listing.now in
      let head = get_or c.as_slice-head-items.result.now c.loop-head.head-index none in
      rows_more listing.rows.items (listing.recorded + c.loop-head.head-index) (head_record head) c.loop-head.cells.items c.open_orphan.new.cells.items
      (head_row listing.recorded c.loop-head.head-index listing.rows.items c.as_slice-head-items.result.now listing.orphans.items none c.requires.behind
      c.as_slice-head-items.ensures.value c.loop-head-test.true)
      (c.loop-head.invariant.of before) c.in_ok-open_orphan.ensures.at;
  drawn = λ tells n. c.open_orphan.ensures.drawn tells n ∙ c.loop-head.invariant.drawn tells n;
  faults = omega (arith, c.open_orphan.ensures.counted.later, c.loop-head.invariant.faults);
  fuses = c.open_orphan.ensures.fuses ∙ c.loop-head.invariant.fuses;
}

pub returns-clause-places : goal.returns-clause-places
returns-clause-places g c = λ tells whole lists before.
    let listing = c.args.listing.now in
    let many : length whole ≤ listing.recorded + c.loop-head.head-index =
    omega (
      arith,
      c.loop-head-test.false,
      ap (λ (l : List CellHead). length l) (c.as_slice-head-items.ensures.value ∙ lists.heads),
      heads_length (drop listing.recorded whole),
      length-drop listing.recorded whole,
    ) in
    all_placed g.D.Piece.Piece.Tells whole (listing.recorded + c.loop-head.head-index) c.loop-head.cells.items many (c.loop-head.invariant.placed tells whole lists before)

pub returns-clause-seen : goal.returns-clause-seen
returns-clause-seen g c = λ tells orphans from end has heads.
    let many : length orphans ≤ c.loop-head.head-index =
    omega (arith, c.loop-head-test.false, ap (λ (l : List CellHead). length l) (c.as_slice-head-items.ensures.value ∙ heads), heads_length orphans) in
    orphans_all g.D.Piece.Piece.Tells orphans c.loop-head.head-index c.args.cells.now.items c.loop-head.cells.items many (c.loop-head.invariant.seen tells orphans from end has heads)
