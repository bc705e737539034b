use Rattle.std.proofs.Common.{◌≡◌, ◌∙◌, ◌+◌, ◌++◌, ◌∷◌, ◌<◌, ◌^◌, [], inr, List, ap, arith, refl, subst, sym, Ok}
use Rattle.hay_needle.specs.Super.{super_bytes}
use Rattle.hay_needle.proofs.Supers.{length-super}
use Rattle.hay_disk.specs.Gate.{HasBytesAt, IsClosed}
use Rattle.hay_head.specs.Blocks.{HasBlockOf, Reaches}
use Rattle.hay_head.proofs.HeadLaws.{none_is}
use Rattle.hay_dirfile.specs.declared.row.DirRow.{DirRow}
use Rattle.hay_dirfile.specs.Journal.{IsBrokenRow, IsDamagedJournal, journal_magic, journal_row}
use Rattle.hay_dirfile.proofs.JournalLaws.{journal_found, lead_first, lead_next, next_count, row_within}
use Rattle.hay_check.proofs.journal.count_rows.Goals as goal

pub rows-init : goal.rows-init
rows-init g c = record {
  same = λ tells. c.read_front.ensures.same tells;
  lead = λ tells. (
    [],
    refl,
    lead_first (super_bytes c.args.sup.now) c.args.sup.now.settings.volumes (g.D.Disk.files c.args.disk.now 0).now [] refl (length-super c.args.sup.now)
        (none_is c.in_ok-at.field-0 _ c.in_default.is (c.in_ok-at.ensures.stands tells)),
  );
  far = omega arith;
  file = c.new-reader.ensures.file;
  reaches = c.new-reader.ensures.reaches;
  block = λ tells. c.new-reader.ensures.block (g.D.Disk.files c.args.disk.now 0).now;
  faults = c.read_front.ensures.counted.later;
  fuses = c.read_front.ensures.fuses;
}

pub returns-in-Mark-clause-rows : goal.returns-in-Mark-clause-rows
returns-in-Mark-clause-rows g c = λ tells.
    let lead = c.rows.invariant.lead tells in
    let closed = subst (λ files. IsClosed journal_magic c.rows.end (files 0).now) (c.rows.invariant.same tells) (c.in_ok-read_row.ensures.mark tells (ap (λ x. Ok x) c.in-Mark.is)) in (
      lead.0,
      journal_found (super_bytes c.args.sup.now) c.args.sup.now.settings.volumes (g.D.Disk.files c.args.disk.now 0).now lead.0 c.rows.end lead.1 lead.2 closed,
      omega (arith, lead.1),
    )

pub returns-in-Broken-clause-damaged : goal.returns-in-Broken-clause-damaged
returns-in-Broken-clause-damaged g c = λ tells file at is.
    let zero : file ≡ 0 = cc in
    let here : c.rows.end ≡ at = cc in
    let lead = c.rows.invariant.lead tells in
    let broken =
    subst (λ files. IsBrokenRow c.args.sup.now.settings.volumes c.rows.end (files 0).now) (c.rows.invariant.same tells) (c.in_ok-read_row.ensures.broken tells (ap (λ x. Ok x) c.in-Broken.is)) in
    (zero, subst (λ k. IsDamagedJournal c.args.sup.now (g.D.Disk.files c.args.disk.now 0).now k) here (inr (record { rows = lead.0; place = lead.1; lead = lead.2; broken = broken })))

-- a row that stands ends at a number of 64 bits
pub returns-in_default-checked_add-clause-damaged : goal.returns-in_default-checked_add-clause-damaged
returns-in_default-checked_add-clause-damaged g c = λ tells file at is.
    let fits = g.met.D.Disk.fits c.rows.disk 0 tells in
    let row = c.in_ok-read_row.ensures.row tells c.in-Row.field-0 (ap (λ x. Ok x) c.in-Row.is) in
    let within : c.rows.end + 24 < 2 ^ 64 = row_within c.rows.end c.in-Row.field-0 (g.D.Disk.files c.rows.disk 0).now row.1 fits in
    let beyond = c.in_default-checked_add.ensures in
    absurd (omega arith)

pub rows-preserved : goal.rows-preserved
rows-preserved g c =
    let next : c.in-Some-checked_add.next ≡ c.rows.end + 24 = omega (arith, c.in-Some-checked_add.ensures) in
    record {
      same = λ tells. c.read_row.ensures.same tells ∙ c.rows.invariant.same tells;
      lead = λ tells.
          let lead = c.rows.invariant.lead tells in
          let row = c.in_ok-read_row.ensures.row tells c.in-Row.field-0 (ap (λ x. Ok x) c.in-Row.is) in
          let more : List DirRow = lead.0 ++ c.in-Row.field-0 ∷ [] in (
            more,
            next_count lead.0 more c.in-Row.field-0 c.rows.end c.in-Some-checked_add.next refl lead.1 next,
            lead_next (super_bytes c.args.sup.now) c.args.sup.now.settings.volumes (g.D.Disk.files c.args.disk.now 0).now lead.0 more c.in-Row.field-0 c.rows.end refl lead.1 lead.2 row.0
                (subst (λ files. HasBytesAt c.rows.end (journal_row c.in-Row.field-0) (files 0).now) (c.rows.invariant.same tells) row.1),
          );
      far = omega (arith, c.rows.invariant.far, c.in-Some-checked_add.ensures);
      file = c.read_row.ensures.file;
      reaches = subst (λ k. Reaches c.read_row.new.reader k) (sym next) (c.in_ok-read_row.ensures.next c.in-Row.field-0 (ap (λ x. Ok x) c.in-Row.is));
      block = λ tells. subst (λ files. HasBlockOf (files 0).now c.read_row.new.reader) (c.rows.invariant.same tells) (c.read_row.ensures.block tells);
      faults = omega (arith, c.read_row.ensures.counted.later, c.rows.invariant.faults);
      fuses = c.read_row.ensures.fuses ∙ c.rows.invariant.fuses;
    }
