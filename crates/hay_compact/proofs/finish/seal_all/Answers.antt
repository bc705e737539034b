use Rattle.std.proofs.Common.{◌≡◌, ◌∙◌, List, length, drop, refl, ap, arith, subst, sym, Err}
use Rattle.std.proofs.lemmas.Result.{err_from_is_err_and}
use Rattle.hay_needle.specs.declared.needle.Cell.{Cell}
use Rattle.hay_disk.specs.declared.disk.DiskFault.{DiskFault}
use Rattle.hay_open.specs.Finds.{ArePlacesWithin}
use Rattle.hay_compact.specs.Finishing.{ArePlacesSoFar}
use Rattle.hay_compact.proofs.Sealings.{all_places, all_seen, can_seal_still, due_at, no_places, one_less, rose_later, seen_all}
use Rattle.hay_compact.proofs.finish.seal_all.Goals as goal

pub loop-row-init : goal.loop-row-init
loop-row-init g c = record {
  rests = λ tells sup s rests same. rests;
  places = λ tells sup s can same. no_places g.D.Piece.Piece.Tells s.cells c.new-places.result.items c.new-places.ensures.items;
  others = λ tells other apart. refl;
  drawn = λ tells n. refl;
  faults = omega arith;
  within = λ end rows. subst (λ cells. ArePlacesWithin end cells) (sym c.new-places.ensures.items) tt;
  photos = λ k d h. absurd (omega (arith, h, ap (λ l. length l) c.new-places.ensures.items));
  fuses = refl;
}

pub seal_next-requires-clause-ready : goal.seal_next-requires-clause-ready
seal_next-requires-clause-ready g c = λ tells.
    let ready = c.requires.ready tells in
    let s = ready.1 in
    let same = ready.3 in (
      ready.0,
      s,
      drop c.loop-row.row-index s.cells,
      can_seal_still ready.0 (g.D.Disk.files c.args.disk.now c.args.file) (g.D.Disk.files c.loop-row.disk c.args.file) c.args.standing.now s ready.2
          (c.loop-row.invariant.rests tells ready.0 s ready.2.rests same),
      (due_at s c.args.records.now c.loop-row.row-index (record { pair = record { key = 0; alt = 0 }; at = 0; size = 0 }) same c.loop-row-test.true),
    )

pub returns-in_err-seal_next-clause-rests : goal.returns-in_err-seal_next-clause-rests
returns-in_err-seal_next-clause-rests g c = λ tells sup s rests same.
    c.seal_next.ensures.rests tells sup s (drop c.loop-row.row-index s.cells) (c.loop-row.invariant.rests tells sup s rests same)
    (due_at s c.args.records.now c.loop-row.row-index (record { pair = record { key = 0; alt = 0 }; at = 0; size = 0 }) same c.loop-row-test.true)

pub returns-in_err-seal_next-clause-counted : goal.returns-in_err-seal_next-clause-counted
returns-in_err-seal_next-clause-counted g c = record {
  later = omega (arith, c.loop-row.invariant.faults, c.in_err-seal_next.ensures.counted.later);
  cause = λ failed.
      let fault = err_from_is_err_and c.from_residual.result c.from_residual.ensures.1 in
      let was : c.in_err-seal_next.field-0.0 ≡ DiskFault.Failed = cc in
      rose_later (g.D.Disk.fault_count c.args.disk.now) (g.D.Disk.fault_count c.loop-row.disk) (g.D.Disk.fault_count c.seal_next.new.disk) c.loop-row.invariant.faults
      (c.in_err-seal_next.ensures.counted.cause (ap (λ x. Err x) was));
}

pub loop-row-preserved : goal.loop-row-preserved
loop-row-preserved g c = record {
  rests =
      λ tells sup s rests same. c.seal_next.ensures.rests tells sup s (drop c.loop-row.row-index s.cells) (c.loop-row.invariant.rests tells sup s rests same)
      (due_at s c.args.records.now c.loop-row.row-index (record { pair = record { key = 0; alt = 0 }; at = 0; size = 0 }) same c.loop-row-test.true);
  places = λ tells sup s can same.
      subst (λ (l : List Cell). ArePlacesSoFar g.D.Piece.Piece.Tells s.cells l c.seal_next.new.places.items) (one_less s c.loop-row.row-index)
      (c.in_ok-seal_next.ensures.places tells sup s (drop c.loop-row.row-index s.cells)
      (can_seal_still sup (g.D.Disk.files c.args.disk.now c.args.file) (g.D.Disk.files c.loop-row.disk c.args.file) c.args.standing.now s can (c.loop-row.invariant.rests tells sup s can.rests same))
      (due_at s c.args.records.now c.loop-row.row-index (record { pair = record { key = 0; alt = 0 }; at = 0; size = 0 }) same c.loop-row-test.true)
      (c.loop-row.invariant.places tells sup s can same));
  others = λ tells other apart. c.seal_next.ensures.others tells other apart ∙ c.loop-row.invariant.others tells other apart;
  drawn = λ tells n. c.seal_next.ensures.drawn tells n ∙ c.loop-row.invariant.drawn tells n;
  faults = omega (arith, c.seal_next.ensures.counted.later, c.loop-row.invariant.faults);
  photos = c.seal_next.ensures.photos c.loop-row.invariant.photos;
  within =
      λ end rows. c.seal_next.ensures.within end (rows c.loop-row.row-index (record { pair = record { key = 0; alt = 0 }; at = 0; size = 0 }) c.loop-row-test.true)
      (c.loop-row.invariant.within end rows);
  fuses = c.seal_next.ensures.fuses ∙ c.loop-row.invariant.fuses;
}

pub returns-clause-places : goal.returns-clause-places
returns-clause-places g c = λ tells sup s can same pair.
    all_places g.D.Piece.Piece.Tells s.cells c.loop-row.places.items
    (subst (λ (l : List Cell). ArePlacesSoFar g.D.Piece.Piece.Tells s.cells l c.loop-row.places.items) (seen_all s c.args.records.now c.loop-row.row-index same c.loop-row-test.false)
    (c.loop-row.invariant.places tells sup s can same)) pair

pub returns-clause-seen : goal.returns-clause-seen
returns-clause-seen g c = λ tells sup s can same pair.
    all_seen g.D.Piece.Piece.Tells s.cells c.loop-row.places.items
    (subst (λ (l : List Cell). ArePlacesSoFar g.D.Piece.Piece.Tells s.cells l c.loop-row.places.items) (seen_all s c.args.records.now c.loop-row.row-index same c.loop-row-test.false)
    (c.loop-row.invariant.places tells sup s can same)) pair
