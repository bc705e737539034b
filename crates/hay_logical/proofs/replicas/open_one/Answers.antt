use Rattle.std.proofs.Common.{◌≡◌, ◌<◌, length, Err, refl, sym, ap, subst, ◌∙◌, arith}
use Rattle.hay_needle.specs.declared.needle.Pair.{Pair}
use Rattle.hay_map.specs.Places.{place_in}
use Rattle.hay_map.specs.Rows.{last_place, row_at}
use Rattle.hay_map.specs.declared.place.Place.TheVariants as place
use Rattle.hay_open.specs.Stored.{PlaceOf, last_cell}
use Rattle.hay_physical.specs.OpenCopies.{contents_of, end_of, phase_frozen, volume_bytes}
use Rattle.hay_logical.specs.Needles.{HasLiveNeedle}
use Rattle.hay_logical.specs.Readings.{IsSightOfPair, last_record}
use Rattle.hay_logical.specs.Sights.{IsSightOfLast, LiesWithin, sight}
use Rattle.hay_logical.proofs.Within.{last_lies}
use Rattle.hay_logical.proofs.Calls.{loaded, loaded_other, open_cause, opened_holds, reaches_loaded, reaches_none, up_thawed}
use Rattle.hay_logical.proofs.Compacting.{photo_at}
use Rattle.hay_logical.proofs.Finding.{found_sight, read_sight}
use Rattle.hay_logical.proofs.Lists.{length-slice_set}
use Rattle.hay_logical.proofs.Needles.{live_sight}
use Rattle.hay_logical.proofs.Formatting.{opened_formatted}
use Rattle.hay_logical.proofs.replicas.open_one.Goals as goal

pub returns-in-Ok-load-clause-opened : goal.returns-in-Ok-load-clause-opened
returns-in-Ok-load-clause-opened g c =
    let there : (pair : Pair) → place_in (row_at c.load.new.self pair) c.args.j ≡ last_place c.in-Ok.cells.items pair place.None = λ pair.
    loaded (row_at c.args.rows.now pair) (row_at c.load.new.self pair) c.args.j _ (c.in-Ok-load.ensures.ok.rows pair)
    (let long = c.requires.long pair in let h = c.requires.within in let less : c.args.j < length (row_at c.args.rows.now pair) = omega (arith, long, h) in less)
    ∙ ap (λ l. last_place l pair (place_in (row_at c.args.rows.now pair) c.args.j)) c.as_slice.ensures.value
    ∙ ap (λ p. last_place c.in-Ok.cells.items pair p) (c.requires.empty pair) in
    record {
      up = c.in-Ok.ensures.up;
      sup = c.open.ensures.sup;
      loose = c.in-Ok.ensures.stuck;
      alone = c.open.ensures.alone;
      most = c.in-Ok.ensures.most;
      from = c.in-Ok.ensures.from;
      within = λ pair. subst (λ p. LiesWithin (end_of c.open.new.self) (sight p)) (sym (there pair)) (last_lies (end_of c.open.new.self) c.in-Ok.cells.items pair place.None c.in-Ok.ensures.within tt);
      undamaged = c.in-Ok.ensures.undamaged;
      undamaged_now = c.in-Ok.ensures.undamaged_now;
      formatted = λ tells.
          opened_formatted g.D.Disk.files c.args.replica.now c.open.new.self (contents_of g.D.Disk.files (c.args.replica.now).disk 0) refl (λ s opens. (c.in-Ok.ensures.opened tells s opens).0)
          (record { kept = c.open.ensures.kept tells; nothing = c.open.ensures.nothing tells });
      opened = λ tells s opens.
          let p = c.in-Ok.ensures.opened tells s opens in (
            p.0,
            λ pair. photo_at g.D.Piece.Piece.Tells (last_cell s.cells pair) (place_in (row_at c.load.new.self pair) c.args.j)
                (subst (PlaceOf g.D.Piece.Piece.Tells (last_cell s.cells pair)) (sym (there pair)) (p.1 pair)),
          );
      reopened = λ tells stuck s t holds.
          let p = c.in-Ok.ensures.reopened tells stuck s t holds in (
            p.0,
            p.1,
            p.2,
            λ pair. photo_at g.D.Piece.Piece.Tells (last_cell (p.0).cells pair) (place_in (row_at c.load.new.self pair) c.args.j)
                (subst (PlaceOf g.D.Piece.Piece.Tells (last_cell (p.0).cells pair)) (sym (there pair)) (p.3 pair)),
          );
      reach =
          λ tells. reaches_loaded g.D.Disk.files c.load.new.self c.args.j c.open.new.self (λ pair. last_place c.in-Ok.cells.items pair place.None) there
          (c.in-Ok.ensures.can_delete tells) (c.in-Ok.ensures.can_see tells) (c.in-Ok.ensures.apart tells) (c.in-Ok.ensures.needles tells);
      found = λ tells s opens pair.
          subst (λ p. IsSightOfLast (last_cell s.cells pair) (sight p)) (sym (there pair))
          (found_sight g.D.Piece.Piece.Tells (last_cell s.cells pair) (last_place c.in-Ok.cells.items pair place.None) ((c.in-Ok.ensures.opened tells s opens).1 pair));
      live = λ tells pair.
          let file = volume_bytes g.D.Disk.files c.open.new.self in
          subst (λ p. HasLiveNeedle file (sight p)) (sym (there pair)) (live_sight file (last_place c.in-Ok.cells.items pair place.None) (c.in-Ok.ensures.live tells pair));
      read = λ tells.
          let by = c.in-Ok.ensures.reads tells in
          let file = volume_bytes g.D.Disk.files c.open.new.self in
          record {
            records = by.records;
            orphans = by.orphans;
            reads = by.reads;
            bare = by.bare;
            places = λ pair.
                subst (λ p. IsSightOfPair file (last_cell by.orphans pair) (last_record by.records pair) (sight p)) (sym (there pair))
                (read_sight g.D.Piece.Piece.Tells pair file by.records by.orphans c.in-Ok.cells.items by.cells);
          };
    }

pub returns-in-Ok-load-clause-left : goal.returns-in-Ok-load-clause-left
returns-in-Ok-load-clause-left g c = record {
  sup = c.open.ensures.sup;
  holds = λ tells stuck s t holds.
      let p = c.in-Ok.ensures.reopened tells stuck s t holds in
      opened_holds g.D.Disk.files c.open.new.self stuck s t p.0 c.in-Ok.ensures.stuck p.2 p.1;
}

pub returns-in-Ok-load-clause-others : goal.returns-in-Ok-load-clause-others
returns-in-Ok-load-clause-others g c = λ pair i apart. loaded_other (row_at c.args.rows.now pair) (row_at c.load.new.self pair) i c.args.j _ (c.in-Ok-load.ensures.ok.rows pair) apart

pub returns-in-Ok-load-clause-long : goal.returns-in-Ok-load-clause-long
returns-in-Ok-load-clause-long g c = λ pair.
    ap length (c.in-Ok-load.ensures.ok.rows pair) ∙ length-slice_set (row_at c.args.rows.now pair) c.args.j _ ∙ c.requires.long pair ∙ sym c.in-Ok-load.ensures.ok.replicas

pub returns-in-Ok-clause-left : goal.returns-in-Ok-clause-left
returns-in-Ok-clause-left g c = record {
  sup = c.open.ensures.sup;
  holds = λ tells stuck s t holds.
      let p = c.in-Ok.ensures.reopened tells stuck s t holds in
      opened_holds g.D.Disk.files c.open.new.self stuck s t p.0 c.in-Ok.ensures.stuck p.2 p.1;
}

pub returns-in-Ok-clause-others : goal.returns-in-Ok-clause-others
returns-in-Ok-clause-others g c = λ pair i apart. ap (λ l. place_in l i) (c.in-Err-load.ensures.err.rows pair)

pub returns-in-Ok-clause-long : goal.returns-in-Ok-clause-long
returns-in-Ok-clause-long g c = λ pair. ap length (c.in-Err-load.ensures.err.rows pair) ∙ c.requires.long pair ∙ sym c.in-Err-load.ensures.err.replicas

pub returns-clause-refused : goal.returns-clause-refused
returns-clause-refused g c =
    open_cause g.D.Disk.Tells g.D.Disk.files g.D.Disk.fault_count c.args.replica.now c.open.new.self c.in-Err.fault c.in-Err.ensures.failed
    (λ tells file at e. c.in-Err.ensures.damaged tells file at (ap Err e))
    (λ tells s opens file at e. c.in-Err.ensures.only tells s opens file at (ap Err e))
    (λ tells stuck s t holds file at e. c.in-Err.ensures.whole tells stuck s t holds file at (ap Err e))
    (λ file at e. c.in-Err.ensures.file file at (ap Err e))

pub returns-in-Ok-load-clause-reach : goal.returns-in-Ok-load-clause-reach
returns-in-Ok-load-clause-reach g c = λ tells.
    let there : (pair : Pair) → place_in (row_at c.load.new.self pair) c.args.j ≡ last_place c.in-Ok.cells.items pair place.None = λ pair.
    loaded (row_at c.args.rows.now pair) (row_at c.load.new.self pair) c.args.j _ (c.in-Ok-load.ensures.ok.rows pair)
    (let long = c.requires.long pair in let h = c.requires.within in let less : c.args.j < length (row_at c.args.rows.now pair) = omega (arith, long, h) in less)
    ∙ ap (λ l. last_place l pair (place_in (row_at c.args.rows.now pair) c.args.j)) c.as_slice.ensures.value
    ∙ ap (λ p. last_place c.in-Ok.cells.items pair p) (c.requires.empty pair) in
    reaches_loaded g.D.Disk.files c.load.new.self c.args.j c.open.new.self (λ pair. last_place c.in-Ok.cells.items pair place.None) there (c.in-Ok.ensures.can_delete tells)
    (c.in-Ok.ensures.can_see tells) (c.in-Ok.ensures.apart tells) (c.in-Ok.ensures.needles tells)

pub returns-in-Ok-clause-reach : goal.returns-in-Ok-clause-reach
returns-in-Ok-clause-reach g c = λ tells.
    reaches_none g.D.Disk.files c.load.new.self c.args.j c.open.new.self (λ pair. ap (λ l. place_in l c.args.j) (c.in-Err-load.ensures.err.rows pair) ∙ c.requires.empty pair)

pub returns-clause-reach : goal.returns-clause-reach
returns-clause-reach g c = λ tells. reaches_none g.D.Disk.files c.args.rows.now c.args.j c.open.new.self c.requires.empty

pub returns-in-Ok-load-clause-thawed : goal.returns-in-Ok-load-clause-thawed
returns-in-Ok-load-clause-thawed g c = up_thawed c.open.new.self c.in-Ok.ensures.up

pub returns-in-Ok-clause-thawed : goal.returns-in-Ok-clause-thawed
returns-in-Ok-clause-thawed g c = up_thawed c.open.new.self c.in-Ok.ensures.up

pub returns-clause-thawed : goal.returns-clause-thawed
returns-clause-thawed g c = ap phase_frozen c.in-Err.ensures.closed

pub returns-in-Ok-load-clause-kept : goal.returns-in-Ok-load-clause-kept
returns-in-Ok-load-clause-kept g c = λ tells. record { kept = c.open.ensures.kept tells; nothing = c.open.ensures.nothing tells }

pub returns-in-Ok-clause-kept : goal.returns-in-Ok-clause-kept
returns-in-Ok-clause-kept g c = λ tells. record { kept = c.open.ensures.kept tells; nothing = c.open.ensures.nothing tells }

pub returns-clause-kept : goal.returns-clause-kept
returns-clause-kept g c = λ tells. record { kept = c.open.ensures.kept tells; nothing = c.open.ensures.nothing tells }

pub returns-in-Ok-load-clause-drew : goal.returns-in-Ok-load-clause-drew
returns-in-Ok-load-clause-drew g c = λ tells.
    let there : (pair : Pair) → place_in (row_at c.load.new.self pair) c.args.j ≡ last_place c.in-Ok.cells.items pair place.None = λ pair.
    loaded (row_at c.args.rows.now pair) (row_at c.load.new.self pair) c.args.j _ (c.in-Ok-load.ensures.ok.rows pair)
    (let long = c.requires.long pair in let h = c.requires.within in let less : c.args.j < length (row_at c.args.rows.now pair) = omega (arith, long, h) in less)
    ∙ ap (λ l. last_place l pair (place_in (row_at c.args.rows.now pair) c.args.j)) c.as_slice.ensures.value
    ∙ ap (λ p. last_place c.in-Ok.cells.items pair p) (c.requires.empty pair) in
    let did = c.in-Ok.ensures.drawn tells in
    record { drew = did.drew; unseen = λ pair at size is. did.unseen pair at size (sym (there pair) ∙ is) }
