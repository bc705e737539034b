use Rattle.std.proofs.Common.{◌≡◌, ◌≤◌, ◌+◌, ◌*◌, ◌∙◌, ℕ, List, length, map, take, drop, inl, inr, Err, ap, arith, sym, subst, length-drop}
use Rattle.std.proofs.lemmas.Result.{err_from_is_err_and}
use Rattle.hay_disk.specs.Disk.{Files}
use Rattle.hay_disk.specs.Gate.{IsGate}
use Rattle.hay_needle.specs.Needle.{needle_magic}
use Rattle.hay_needle.specs.declared.needle.CellHead.{CellHead}
use Rattle.hay_volume.specs.declared.volume.VolumeFile.{VolumeFile}
use Rattle.hay_index.specs.Records.{place_behind}
use Rattle.hay_index.specs.declared.record.Record.{Record}
use Rattle.hay_volume.specs.Cells.{HasCells}
use Rattle.std.proofs.Math.Seq.{take-append_seam}
use Rattle.std.specs.List.{AllByRecursion}
use Rattle.hay_open.specs.Damage.{HasOrphans}
use Rattle.hay_open.specs.Finds.{AreCellsOf, ArePlacesWithin, MayFlagPlace, drawn_most}
use Rattle.hay_open.specs.Listing.{GivesPieces, HoldsRows, ListsCells}
use Rattle.hay_open.specs.Stored.{HeadRests, cell_record, volume_file, index_file}
use Rattle.hay_open.proofs.Opening.{listing_holds, rows_end, lists_cells, lists_stored, ready_head, ready_index, ready_volume, rests_index, rests_volume}
use Rattle.hay_open.proofs.Flagging.{flag_each, within_each}
use Rattle.hay_open.proofs.PieceLaws.{all_free}
use Rattle.hay_open.proofs.Reading.{same_refusal, there}
use Rattle.hay_open.proofs.CellRows.{heads_length}
use Rattle.hay_open.proofs.read.read_disk.Goals as goal

pub returns-in_err-listing-clause-damaged : goal.returns-in_err-listing-clause-damaged
returns-in_err-listing-clause-damaged g c = λ tells file at is.
    let fault = err_from_is_err_and c.from_residual.result c.from_residual.ensures.1 in
    elim (c.in_err-listing.ensures.damaged tells file at (ap (λ x. Err x) (same_refusal c.from_residual.result fault.0 c.in_err-listing.field-0.0 file at fault.1 fault.2 is))) [
      | inl front ↦ inl front
      | inr rest ↦ inr rest
    ]

pub returns-in_err-listing-clause-only : goal.returns-in_err-listing-clause-only
returns-in_err-listing-clause-only g c = λ tells s stored file at is.
    let fault = err_from_is_err_and c.from_residual.result c.from_residual.ensures.1 in
    c.in_err-listing.ensures.only tells s stored file at (ap (λ x. Err x) (same_refusal c.from_residual.result fault.0 c.in_err-listing.field-0.0 file at fault.1 fault.2 is))

pub open_cells-requires-clause-holds : goal.open_cells-requires-clause-holds
open_cells-requires-clause-holds g c = λ tells.
    let listing = c.in_ok-listing.listing in
    subst (λ (fs : Files). HoldsRows (fs listing.volume).now listing) (sym (c.read_listing.ensures.same tells))
    (listing_holds c.args.sup.now (λ n. (g.D.Disk.files c.args.disk.now n).now) listing (c.in_ok-listing.ensures.listing tells))

pub returns-in_err-cells-clause-damaged : goal.returns-in_err-cells-clause-damaged
returns-in_err-cells-clause-damaged g c = λ tells file at is.
    let fault = err_from_is_err_and c.from_residual-in_err-cells.result c.from_residual-in_err-cells.ensures.1 in
    absurd (c.in_err-cells.ensures.undamaged tells file at (ap (λ x. Err x) (same_refusal c.from_residual-in_err-cells.result fault.0 c.in_err-cells.field-0.0 file at fault.1 fault.2 is)))

pub returns-in_err-cells-clause-only : goal.returns-in_err-cells-clause-only
returns-in_err-cells-clause-only g c = λ tells s stored file at is.
    let fault = err_from_is_err_and c.from_residual-in_err-cells.result c.from_residual-in_err-cells.ensures.1 in
    c.in_err-cells.ensures.undamaged tells file at (ap (λ x. Err x) (same_refusal c.from_residual-in_err-cells.result fault.0 c.in_err-cells.field-0.0 file at fault.1 fault.2 is))

pub returns-clause-places : goal.returns-clause-places
returns-clause-places g c = λ tells s stored.
    let listing = c.in_ok-listing.listing in
    let f = g.D.Disk.files in
    let fits = g.met.D.Disk.fits in
    let contents : ℕ → List ℕ = λ n. (f c.args.disk.now n).now in
    let made = c.in_ok-listing.ensures.listing tells in
    let lists = lists_stored c.args.sup.now contents listing s (λ n. fits c.args.disk.now n tells) made stored in
    c.in_ok-cells.ensures.places tells s.cells (subst (λ (fs : Files). ListsCells (fs listing.volume).now listing s.cells) (sym (c.read_listing.ensures.same tells))
    (lists_cells c.args.sup.now contents listing s made stored lists))

pub returns-clause-ready : goal.returns-clause-ready
returns-clause-ready g c = λ tells.
    let listing = c.in_ok-listing.listing in
    let f = g.D.Disk.files in
    let made = c.in_ok-listing.ensures.listing tells in
    let gives =
    subst (λ (fs : Files). GivesPieces listing.volume listing.rows.items (place_behind 64 listing.rows.items) fs (f c.open_cells.new.disk)) (c.read_listing.ensures.same tells)
    (c.open_cells.ensures.pieces tells) in
    let solid = c.requires.solid tells in
    let free = c.requires.free tells in
    let volume = ready_volume c.args.sup.now (f c.args.disk.now) (f c.open_cells.new.disk) listing made (solid listing.volume) (free listing.volume) gives in
    record {
      volume_number = ap (λ (v : VolumeFile). v.file) c.adopt.ensures ∙ made.volume_number;
      index_number = made.index_number;
      head = (ready_head c.args.sup.now (f c.args.disk.now) (f c.open_cells.new.disk) listing made (solid 0) (free 0) gives).gate;
      volume = subst (λ (v : VolumeFile). IsGate needle_magic v.end (f c.open_cells.new.disk v.file)) (sym c.adopt.ensures) volume;
      index = ready_index c.args.sup.now (f c.args.disk.now) (f c.open_cells.new.disk) listing made (solid listing.index.file) (free listing.index.file) gives;
    }

pub returns-clause-opened : goal.returns-clause-opened
returns-clause-opened g c = λ tells s stored.
    let listing = c.in_ok-listing.listing in
    let f = g.D.Disk.files in
    let sup = c.args.sup.now in
    let fits = g.met.D.Disk.fits in
    let contents : ℕ → List ℕ = λ n. (f c.args.disk.now n).now in
    let made = c.in_ok-listing.ensures.listing tells in
    let lists = lists_stored sup contents listing s (λ n. fits c.args.disk.now n tells) made stored in
    let gives =
    subst (λ (fs : Files). GivesPieces listing.volume listing.rows.items (place_behind 64 listing.rows.items) fs (f c.open_cells.new.disk)) (c.read_listing.ensures.same tells)
    (c.open_cells.ensures.pieces tells) in
    let solid = c.requires.solid tells in
    let free = c.requires.free tells in
    let number : listing.volume ≡ volume_file s.generation = made.volume_number ∙ ap volume_file (sym lists.generation) in
    let with : ℕ → ℕ → VolumeFile = λ n e. record { file = n; end = e; capacity = sup.settings.capacity } in
    record {
      generation = sym lists.generation;
      lags = stored.lags;
      head = subst (λ n. HeadRests sup (f c.open_cells.new.disk 0) n) (sym lists.generation) (ready_head sup (f c.args.disk.now) (f c.open_cells.new.disk) listing made (solid 0) (free 0) gives);
      volume = c.adopt.ensures ∙ ap (λ n. with n listing.end) number ∙ ap (λ e. with (volume_file s.generation) e) (sym lists.end);
      cells = rests_volume sup (f c.args.disk.now) (f c.open_cells.new.disk) listing s made stored lists (solid listing.volume) (free listing.volume) gives;
      index_number = made.index_number ∙ ap index_file (sym lists.generation);
      noted = lists.noted;
      index = rests_index sup (f c.args.disk.now) (f c.open_cells.new.disk) listing s made stored lists (λ n. fits c.args.disk.now n tells) (solid listing.index.file) (free listing.index.file) gives;
      records = lists.count;
      orphans = omega (arith, c.len.ensures, listing.orphans.ok.0, ap (λ (l : List CellHead). length l) lists.heads, heads_length (drop s.records s.cells), length-drop s.records s.cells, stored.lags);
    }

pub returns-clause-whole : goal.returns-clause-whole
returns-clause-whole g c = λ tells.
    let listing = c.in_ok-listing.listing in
    let f = g.D.Disk.files in
    let made = c.in_ok-listing.ensures.listing tells in
    let volume = (f c.args.disk.now (volume_file listing.head.generation)).now in
    record {
      records = made.records;
      orphans = made.orphans;
      recorded = made.is;
      behind = subst (λ (v : VolumeFile). HasOrphans volume made.records made.orphans v.end) (sym c.adopt.ensures) made.behind;
      capacity = ap (λ (v : VolumeFile). v.capacity) c.adopt.ensures;
      noted = made.noted;
      record_count = made.recorded;
      orphan_count = omega (arith, c.len.ensures, listing.orphans.ok.0, ap (λ (l : List CellHead). length l) made.heads, heads_length made.orphans);
      cells =
          let contents : ℕ → List ℕ = λ n. (f c.args.disk.now n).now in
          let first : take listing.recorded listing.rows.items ≡ made.records =
          ap (λ n. take n listing.rows.items) made.recorded ∙ ap (λ (l : List Record). take (length made.records) l) made.rows ∙ take-append_seam made.records (map cell_record made.orphans) in
          let has =
          there (λ l. HasCells (place_behind 64 made.records) l made.orphans listing.end) (f c.read_listing.new.disk) (f c.args.disk.now) (volume_file listing.head.generation)
          listing.volume (sym (c.read_listing.ensures.same tells)) (sym made.volume_number) made.behind.has in
          subst (λ (l : List Record). AreCellsOf g.D.Piece.Piece.Tells l made.orphans c.in_ok-cells.cells.items) first
          (c.in_ok-cells.ensures.seen tells made.orphans (place_behind 64 made.records) listing.end has made.heads);
    }

pub returns-clause-flags : goal.returns-clause-flags
returns-clause-flags g c = λ tells.
    let listing = c.in_ok-listing.listing in
    let f = g.D.Disk.files in
    let contents : ℕ → List ℕ = λ n. (f c.args.disk.now n).now in
    let made = c.in_ok-listing.ensures.listing tells in
    let holds = listing_holds c.args.sup.now contents listing made in
    let gives =
    subst (λ (fs : Files). GivesPieces listing.volume listing.rows.items (place_behind 64 listing.rows.items) fs (f c.open_cells.new.disk)) (c.read_listing.ensures.same tells)
    (c.open_cells.ensures.pieces tells) in
    let flags = gives.flags (all_free listing.rows.items (f c.args.disk.now listing.volume) (c.requires.free tells listing.volume)) in
    subst (λ (v : VolumeFile). AllByRecursion (λ cell. MayFlagPlace (f c.open_cells.new.disk v.file) v.end cell.place) c.in_ok-cells.cells.items) (sym c.adopt.ensures)
    (flag_each listing.rows.items (f c.open_cells.new.disk listing.volume) listing.end c.in_ok-cells.cells.items holds.row
    (omega (arith, rows_end c.args.sup.now contents listing made)) flags c.in_ok-cells.ensures.rows)

pub returns-clause-drawn : goal.returns-clause-drawn
returns-clause-drawn g c = λ tells.
    let listing = c.in_ok-listing.listing in
    let read = c.in_ok-listing.ensures.drawn tells in
    subst (λ (v : VolumeFile). g.D.Disk.drawn c.open_cells.new.disk v.file ≤ g.D.Disk.drawn c.args.disk.now v.file + drawn_most listing.index.pending) (sym c.adopt.ensures)
    (omega (arith, read, c.open_cells.ensures.drawn tells listing.volume))

pub returns-clause-from : goal.returns-clause-from
returns-clause-from g c = subst (λ (v : VolumeFile). 64 + length c.in_ok-listing.listing.index.pending * 48 ≤ v.end) (sym c.adopt.ensures) c.in_ok-listing.ensures.from

pub returns-clause-within : goal.returns-clause-within
returns-clause-within g c =
    let listing = c.in_ok-listing.listing in
    let lies = c.in_ok-listing.ensures.row in
    subst (λ (v : VolumeFile). ArePlacesWithin v.end c.in_ok-cells.cells.items) (sym c.adopt.ensures)
    (within_each listing.rows.items listing.end c.in_ok-cells.cells.items lies.row (omega (arith, lies.ends)) c.in_ok-cells.ensures.rows)

-- WHATEVER THE DISK TELLS

pub returns-in_err-listing-clause-file : goal.returns-in_err-listing-clause-file
returns-in_err-listing-clause-file g c = λ file at is.
    let fault = err_from_is_err_and c.from_residual.result c.from_residual.ensures.1 in
    c.in_err-listing.ensures.file file at (ap (λ x. Err x) (same_refusal c.from_residual.result fault.0 c.in_err-listing.field-0.0 file at fault.1 fault.2 is))

pub returns-in_err-cells-clause-file : goal.returns-in_err-cells-clause-file
returns-in_err-cells-clause-file g c = λ file at is.
    let read = c.in_ok-listing.ensures in
    let fault = err_from_is_err_and c.from_residual-in_err-cells.result c.from_residual-in_err-cells.ensures.1 in
    let same = c.in_err-cells.ensures.file file at (ap (λ x. Err x) (same_refusal c.from_residual-in_err-cells.result fault.0 c.in_err-cells.field-0.0 file at fault.1 fault.2 is)) in
    inr (c.in_ok-listing.listing.head.generation, read.most, inl (same ∙ read.number))
