use Rattle.std.proofs.Common.{◌≡◌, ◌≤◌, ◌+◌, ◌++◌, ◌∙◌, List, [], length, arith, map, drop, inl, inr, Err, Some, refl, ap, sym, subst}
use Rattle.std.proofs.lemmas.List.{drop_at, length-map}
use Rattle.std.specs.List.{slice_get, sum_by}
use Rattle.std.proofs.lemmas.Result.{err_from_is_err_and}
use Rattle.hay_disk.specs.Gate.{IsClosed}
use Rattle.hay_needle.specs.Needle.{needle_magic}
use Rattle.hay_needle.specs.Sizes.{needle_total}
use Rattle.hay_needle.specs.declared.needle.CellHead.{CellHead}
use Rattle.hay_index.specs.declared.index.IndexFile.{IndexFile}
use Rattle.hay_index.specs.declared.record.Record.{Record}
use Rattle.hay_index.specs.Records.{AreInRow, place_behind}
use Rattle.hay_volume.specs.Cells.{HasCells, IsDamagedCell}
use Rattle.hay_open.specs.Damage.{IsRecorded, LastFits, scan_start}
use Rattle.hay_open.specs.Finds.{drawn_most}
use Rattle.hay_open.specs.Listing.{head_record}
use Rattle.hay_open.specs.Stored.{cell_record, volume_file}
use Rattle.hay_open.proofs.CellRows.{behind_join, behind_sum, has_end, heads_far, heads_row, map_heads, row_join}
use Rattle.hay_open.proofs.Listings.{orphans_found, scan_whole, stored_behind, stored_fits, stored_recorded, stored_same}
use Rattle.hay_open.proofs.Misfits.{fits_is_no_misfit, misfit_is, misfit_there}
use Rattle.hay_open.proofs.Reading.{same_refusal, there}
use Rattle.hay_open.proofs.listing.read_listing.Goals as goal

pub returns-in_err-head-clause-damaged : goal.returns-in_err-head-clause-damaged
returns-in_err-head-clause-damaged g c = λ tells file at is.
    let fault = err_from_is_err_and c.from_residual.result c.from_residual.ensures.1 in
    inl (c.in_err-head.ensures.damaged tells file at (ap (λ x. Err x) (same_refusal c.from_residual.result fault.0 c.in_err-head.field-0.0 file at fault.1 fault.2 is)))

pub returns-in_err-head-clause-only : goal.returns-in_err-head-clause-only
returns-in_err-head-clause-only g c = λ tells s stored file at is.
    let fault = err_from_is_err_and c.from_residual.result c.from_residual.ensures.1 in
    c.in_err-head.ensures.only tells s.generation _ stored.index_end (stored_recorded c.args.sup.now _ s stored) file at
    (ap (λ x. Err x) (same_refusal c.from_residual.result fault.0 c.in_err-head.field-0.0 file at fault.1 fault.2 is))

pub returns-in_err-check_last-clause-damaged : goal.returns-in_err-check_last-clause-damaged
returns-in_err-check_last-clause-damaged g c = λ tells file at is.
    let r = c.in_ok-head.field-0 in
    let f = g.D.Disk.files in
    let generation = r.head.generation in
    let fault = err_from_is_err_and c.from_residual-in_err-check_last.result c.from_residual-in_err-check_last.ensures.1 in
    let last =
    c.in_err-check_last.ensures.damaged tells file at (ap (λ x. Err x) (same_refusal c.from_residual-in_err-check_last.result fault.0 c.in_err-check_last.field-0.0 file at fault.1 fault.2 is)) in
    let read = c.in_ok-head.ensures.is tells in
    let rows : c.as_slice.result.now ≡ r.records.items = c.as_slice.ensures.value in
    let count : last.0 + 1 ≡ length r.records.items = last.2 ∙ ap (λ (l : List Record). length l) rows in
    let row : slice_get r.records.items last.0 ≡ Some last.1 = ap (λ (l : List Record). slice_get l last.0) (sym rows) ∙ last.3 in
    let misfit =
    misfit_there (f c.args.disk.now) (f c.read_recorded.new.disk) c.volume_file-volume.result (volume_file generation) r.index.file _ last.0 file at last.1
    (c.read_recorded.ensures.same tells) (c.volume_file-volume.ensures read.head.most) (c.in_ok-head.ensures.number) last.4 in
    inr (
      generation,
      r.records.items,
      r.index.end,
      read,
      inl (
        last.0,
        count,
        misfit_is c.args.sup.now (λ n. (f c.args.disk.now n).now) generation r.records.items r.index.end last.0
            file at last.1 read row misfit,
      ),
    )

pub returns-in_err-check_last-clause-only : goal.returns-in_err-check_last-clause-only
returns-in_err-check_last-clause-only g c = λ tells s stored file at is.
    let r = c.in_ok-head.field-0 in
    let f = g.D.Disk.files in
    let generation = r.head.generation in
    let fits = g.met.D.Disk.fits in
    let fault = err_from_is_err_and c.from_residual-in_err-check_last.result c.from_residual-in_err-check_last.ensures.1 in
    let last =
    c.in_err-check_last.ensures.damaged tells file at (ap (λ x. Err x) (same_refusal c.from_residual-in_err-check_last.result fault.0 c.in_err-check_last.field-0.0 file at fault.1 fault.2 is)) in
    let read = c.in_ok-head.ensures.is tells in
    let rows : c.as_slice.result.now ≡ r.records.items = c.as_slice.ensures.value in
    let row : slice_get r.records.items last.0 ≡ Some last.1 = ap (λ (l : List Record). slice_get l last.0) (sym rows) ∙ last.3 in
    let misfit =
    misfit_there (f c.args.disk.now) (f c.read_recorded.new.disk) c.volume_file-volume.result (volume_file generation) r.index.file _ last.0 file at last.1
    (c.read_recorded.ensures.same tells) (c.volume_file-volume.ensures read.head.most) (c.in_ok-head.ensures.number) last.4 in
    let same = stored_same c.args.sup.now (λ n. (f c.args.disk.now n).now) generation r.index.end r.records.items s (λ n. fits c.args.disk.now n tells) read stored in
    fits_is_no_misfit (λ n. (f c.args.disk.now n).now) (volume_file generation) _ last.0 file at last.1
    (stored_fits c.args.sup.now (λ n. (f c.args.disk.now n).now) generation last.0 r.records.items last.1 s stored same row) misfit

last_fits : (g : _) (c : goal.After-drop-index-in_err-orphans g) → (tells : g.D.Disk.Tells)
    → LastFits c.in_ok-head.field-0.records.items (g.D.Disk.files c.args.disk.now (volume_file c.in_ok-head.field-0.head.generation)).now
last_fits g c tells =
    let r = c.in_ok-head.field-0 in
    let read = c.in_ok-head.ensures.is tells in
    there (λ l. LastFits r.records.items l) (g.D.Disk.files c.args.disk.now) (g.D.Disk.files c.read_recorded.new.disk) c.volume_file-volume.result (volume_file r.head.generation)
    (c.read_recorded.ensures.same tells) (c.volume_file-volume.ensures read.head.most)
    (subst (λ (rows : List Record). LastFits rows (g.D.Disk.files c.read_recorded.new.disk c.volume_file-volume.result).now) c.as_slice.ensures.value (c.in_ok-check_last.ensures.fits tells))

pub returns-in_err-orphans-clause-damaged : goal.returns-in_err-orphans-clause-damaged
returns-in_err-orphans-clause-damaged g c = λ tells file at is.
    let r = c.in_ok-head.field-0 in
    let f = g.D.Disk.files in
    let generation = r.head.generation in
    let fault = err_from_is_err_and c.from_residual-in_err-orphans.result c.from_residual-in_err-orphans.ensures.1 in
    let damage = c.in_err-orphans.ensures.damaged tells file at (ap (λ x. Err x) (same_refusal c.from_residual-in_err-orphans.result fault.0 c.in_err-orphans.field-0.0 file at fault.1 fault.2 is)) in
    let read = c.in_ok-head.ensures.is tells in
    let start : c.scan_start.result ≡ scan_start r.records.items = c.scan_start.ensures.is ∙ ap (λ (l : List Record). scan_start l) c.as_slice-2.ensures.value in
    let number = c.volume_file-volume.ensures read.head.most in
    let here =
    there (λ l. IsDamagedCell c.scan_start.result l at) (f c.args.disk.now) (f c.check_last.new.disk) c.volume_file-volume.result (volume_file generation)
    (c.check_last.ensures.same tells ∙ c.read_recorded.ensures.same tells) number damage.1 in
    inr (generation, r.records.items, r.index.end, read, inr (last_fits g c tells, damage.0 ∙ number, subst (λ n. IsDamagedCell n (f c.args.disk.now (volume_file generation)).now at) start here))

pub returns-in_err-orphans-clause-only : goal.returns-in_err-orphans-clause-only
returns-in_err-orphans-clause-only g c = λ tells s stored file at is.
    let r = c.in_ok-head.field-0 in
    let f = g.D.Disk.files in
    let generation = r.head.generation in
    let fits = g.met.D.Disk.fits in
    let fault = err_from_is_err_and c.from_residual-in_err-orphans.result c.from_residual-in_err-orphans.ensures.1 in
    let damage = c.in_err-orphans.ensures.damaged tells file at (ap (λ x. Err x) (same_refusal c.from_residual-in_err-orphans.result fault.0 c.in_err-orphans.field-0.0 file at fault.1 fault.2 is)) in
    let read = c.in_ok-head.ensures.is tells in
    let number = c.volume_file-volume.ensures read.head.most in
    let start : c.scan_start.result ≡ scan_start r.records.items = c.scan_start.ensures.is ∙ ap (λ (l : List Record). scan_start l) c.as_slice-2.ensures.value in
    let same = stored_same c.args.sup.now (λ n. (f c.args.disk.now n).now) generation r.index.end r.records.items s (λ n. fits c.args.disk.now n tells) read stored in
    let behind = stored_behind c.args.sup.now (λ n. (f c.args.disk.now n).now) generation r.records.items s stored same in
    let here =
    there (λ l. IsDamagedCell c.scan_start.result l at) (f c.args.disk.now) (f c.check_last.new.disk) c.volume_file-volume.result (volume_file generation)
    (c.check_last.ensures.same tells ∙ c.read_recorded.ensures.same tells) number damage.1 in
    scan_whole c.scan_start.result s.end at (f c.args.disk.now (volume_file generation)).now r.records.items _ (fits c.args.disk.now (volume_file generation) tells) start behind.0 behind.1 here

pub returns-clause-listing : goal.returns-clause-listing
returns-clause-listing g c = λ tells.
    let r = c.in_ok-head.field-0 in
    let f = g.D.Disk.files in
    let generation = r.head.generation in
    let fits = g.met.D.Disk.fits in
    let read = c.in_ok-head.ensures.is tells in
    let number = c.volume_file-volume.ensures read.head.most in
    let start : c.scan_start.result ≡ scan_start r.records.items = c.scan_start.ensures.is ∙ ap (λ (l : List Record). scan_start l) c.as_slice-2.ensures.value in
    let same = c.check_last.ensures.same tells ∙ c.read_recorded.ensures.same tells in
    let scan = c.in_ok-orphans.ensures.cells tells in
    let last = there (λ l. LastFits r.records.items l) (f c.args.disk.now) (f c.read_recorded.new.disk) c.volume_file-volume.result (volume_file generation) (c.read_recorded.ensures.same tells) number
    (subst (λ (rows : List Record). LastFits rows (f c.read_recorded.new.disk c.volume_file-volume.result).now) c.as_slice.ensures.value (c.in_ok-check_last.ensures.fits tells)) in
    let has =
    there (λ l. HasCells c.scan_start.result l scan.0 c.in_ok-orphans.end) (f c.args.disk.now) (f c.check_last.new.disk) c.volume_file-volume.result (volume_file generation) same number scan.1 in
    let closed =
    there (λ l. IsClosed needle_magic c.in_ok-orphans.end l) (f c.args.disk.now) (f c.check_last.new.disk) c.volume_file-volume.result (volume_file generation) same number
    (c.in_ok-orphans.ensures.mark tells) in
    let noted = c.in_ok-note_orphans.ensures.noted in
    let rows_of : map head_record c.as_slice-3.result.now ≡ map cell_record scan.0 = ap (λ (l : List CellHead). map head_record l) (c.as_slice-3.ensures.value ∙ scan.2) ∙ map_heads scan.0 in
    let none : r.index.pending ≡ [] = ap (λ (i : IndexFile). i.pending) c.in_ok-head.ensures.index in
    record {
      records = r.records.items;
      orphans = scan.0;
      is = subst (λ n. IsRecorded c.args.sup.now (λ n. (f c.args.disk.now n).now) generation r.records.items n) (sym (ap (λ (i : IndexFile). i.end) noted)) read;
      behind =
          orphans_found c.scan_start.result c.in_ok-orphans.end (f c.args.disk.now (volume_file generation)).now r.records.items scan.0
          (fits c.args.disk.now (volume_file generation) tells) start last has closed;
      volume_number = number;
      index_number = ap (λ (i : IndexFile). i.file) noted ∙ c.in_ok-head.ensures.number;
      noted = ap (λ (i : IndexFile). i.pending) noted ∙ ap (λ (l : List Record). l ++ map head_record c.as_slice-3.result.now) none ∙ rows_of;
      rows = c.in_ok-note_orphans.ensures.rows ∙ ap (λ (l : List Record). r.records.items ++ l) rows_of;
      recorded = omega (arith, c.len-recorded.ensures, r.records.ok.0);
      heads = scan.2;
    }

pub returns-clause-undamaged : goal.returns-clause-undamaged
returns-clause-undamaged g c = λ tells file at. c.in_ok-head.ensures.undamaged tells file at

pub returns-clause-drawn : goal.returns-clause-drawn
returns-clause-drawn g c = λ tells.
    let r = c.in_ok-head.field-0 in
    let read = c.in_ok-head.ensures.is tells in
    let drawn = g.D.Disk.drawn in
    let number = c.volume_file-volume.ensures read.head.most in
    let front : drawn c.read_recorded.new.disk c.volume_file-volume.result ≤ drawn c.args.disk.now c.volume_file-volume.result + 64 =
    subst (λ n. drawn c.read_recorded.new.disk n ≤ drawn c.args.disk.now n + 64) (sym number) (c.in_ok-head.ensures.drawn tells) in
    let scan = c.in_ok-orphans.ensures.cells tells in
    let noted = c.in_ok-note_orphans.ensures.noted in
    let none : r.index.pending ≡ [] = ap (λ (i : IndexFile). i.pending) c.in_ok-head.ensures.index in
    let rows_of : map head_record c.as_slice-3.result.now ≡ map cell_record scan.0 = ap (λ (l : List CellHead). map head_record l) (c.as_slice-3.ensures.value ∙ scan.2) ∙ map_heads scan.0 in
    let pending : c.note_orphans.new.index.pending ≡ map cell_record scan.0 =
    ap (λ (i : IndexFile). i.pending) noted ∙ ap (λ (l : List Record). l ++ map head_record c.as_slice-3.result.now) none ∙ rows_of in
    let end : c.in_ok-orphans.end ≡ c.scan_start.result + sum_by (λ (x : Record). needle_total x.size) (map cell_record scan.0) =
    sym (has_end c.scan_start.result c.in_ok-orphans.end _ scan.0 scan.1) ∙ behind_sum c.scan_start.result (map cell_record scan.0) in
    let last = c.in_ok-check_last.ensures.drawn tells in
    let more = c.in_ok-orphans.ensures.drawn tells in
    subst (λ (l : List Record). drawn c.scan.new.disk c.volume_file-volume.result ≤ drawn c.args.disk.now c.volume_file-volume.result + drawn_most l) (sym pending)
    (omega (arith, front, last, more, end))

pub returns-clause-row : goal.returns-clause-row
returns-clause-row g c =
    let records : List Record = c.in_ok-head.field-0.records.items in
    let heads : List CellHead = c.in_ok-orphans.orphans.items in
    let more : List Record = map head_record heads in
    let is : c.scan_start.result ≡ scan_start records = c.scan_start.ensures.is ∙ ap (λ (l : List Record). scan_start l) c.as_slice-2.ensures.value in
    let start : c.scan_start.result ≡ place_behind 64 records = omega (arith, is, c.in_ok-orphans.ensures.start) in
    let list : c.note_orphans.new.rows.items ≡ records ++ more = c.in_ok-note_orphans.ensures.rows ∙ ap (λ (l : List CellHead). records ++ map head_record l) c.as_slice-3.ensures.value in
    let behind = heads_row c.scan_start.result c.in_ok-orphans.end heads c.in_ok-orphans.ensures.row in
    let many : c.len-recorded.result ≡ length records = omega (arith, c.len-recorded.ensures, c.in_ok-head.field-0.records.ok.0) in
    record {
      row = subst (λ (l : List Record). AreInRow 64 l) (sym list) (row_join 64 records more c.in_ok-head.ensures.row (subst (λ n. AreInRow n more) start behind.0));
      ends = ap (λ (l : List Record). place_behind 64 l) list ∙ behind_join 64 records more ∙ ap (λ n. place_behind n more) (sym start) ∙ behind.1;
      behind = ap (λ (l : List Record). drop c.len-recorded.result l) list ∙ ap (λ n. drop n (records ++ more)) many ∙ drop_at records more (length records) refl;
    }

pub returns-clause-from : goal.returns-clause-from
returns-clause-from g c =
    let heads : List CellHead = c.in_ok-orphans.orphans.items in
    let noted = c.in_ok-note_orphans.ensures.noted in
    let none : c.in_ok-head.field-0.index.pending ≡ [] = ap (λ (i : IndexFile). i.pending) c.in_ok-head.ensures.index in
    let pending : c.note_orphans.new.index.pending ≡ map head_record heads =
    ap (λ (i : IndexFile). i.pending) noted ∙ ap (λ (l : List Record). l ++ map head_record c.as_slice-3.result.now) none ∙ ap (λ (l : List CellHead). map head_record l) c.as_slice-3.ensures.value in
    let far = heads_far c.scan_start.result c.in_ok-orphans.end heads c.in_ok-orphans.ensures.row in
    omega (arith, far, c.scan_start.ensures.from, ap (λ (l : List Record). length l) pending, length-map heads head_record)

-- WHATEVER THE DISK TELLS

pub returns-in_err-head-clause-file : goal.returns-in_err-head-clause-file
returns-in_err-head-clause-file g c = λ file at is.
    let fault = err_from_is_err_and c.from_residual.result c.from_residual.ensures.1 in
    c.in_err-head.ensures.file file at (ap (λ x. Err x) (same_refusal c.from_residual.result fault.0 c.in_err-head.field-0.0 file at fault.1 fault.2 is))

pub returns-in_err-check_last-clause-file : goal.returns-in_err-check_last-clause-file
returns-in_err-check_last-clause-file g c = λ file at is.
    let read = c.in_ok-head.ensures in
    let fault = err_from_is_err_and c.from_residual-in_err-check_last.result c.from_residual-in_err-check_last.ensures.1 in
    inr (
      c.in_ok-head.field-0.head.generation,
      read.most,
      elim (c.in_err-check_last.ensures.file file at (ap (λ x. Err x) (same_refusal c.from_residual-in_err-check_last.result fault.0 c.in_err-check_last.field-0.0 file at fault.1 fault.2 is))) [
        | inl volume ↦ inl (volume ∙ c.volume_file-volume.ensures read.most)
        | inr index ↦ inr (index ∙ read.number)
      ],
    )

pub returns-in_err-orphans-clause-file : goal.returns-in_err-orphans-clause-file
returns-in_err-orphans-clause-file g c = λ file at is.
    let most = c.in_ok-head.ensures.most in
    let fault = err_from_is_err_and c.from_residual-in_err-orphans.result c.from_residual-in_err-orphans.ensures.1 in
    let same = c.in_err-orphans.ensures.file file at (ap (λ x. Err x) (same_refusal c.from_residual-in_err-orphans.result fault.0 c.in_err-orphans.field-0.0 file at fault.1 fault.2 is)) in
    inr (c.in_ok-head.field-0.head.generation, most, inl (same ∙ c.volume_file-volume.ensures most))
