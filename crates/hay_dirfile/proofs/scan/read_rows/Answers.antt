use Rattle.std.proofs.Common.{◌≡◌, inl, inr, ◌<◌, ◌+◌, ◌^◌, ◌∙◌, List, length, [], ◌∷◌, sym, ap, subst, arith, Ok}
use Rattle.std.specs.List.{All}
use Rattle.std.proofs.lemmas.List.Elements.{All-append}
use Rattle.hay_needle.specs.Super.{super_bytes}
use Rattle.hay_needle.proofs.Supers.{length-super}
use Rattle.hay_disk.specs.Gate.{IsClosed, HasBytesAt}
use Rattle.hay_head.specs.Blocks.{HasBlockOf, Reaches}
use Rattle.hay_head.proofs.RowLaws.{front_is}
use Rattle.hay_head.proofs.HeadLaws.{none_is, some_is_none}
use Rattle.hay_dirfile.specs.declared.row.DirRow.{DirRow}
use Rattle.hay_dirfile.specs.Journal.{journal_magic, journal_row, journal_end, IsBrokenRow, IsDamagedJournal}
use Rattle.hay_dirfile.proofs.JournalLaws.{all_one, lead_first, lead_next, next_count, row_within, journal_found, one_journal, no_broken_row, undamaged}
use Rattle.hay_dirfile.proofs.scan.read_rows.Goals as goal

pub returns-in-Some-clause-only : goal.returns-in-Some-clause-only
returns-in-Some-clause-only g c = λ tells rows is.
    absurd (some_is_none c.in_ok-at.field-0 c.in-Some.at c.in-Some.is (c.in_ok-at.ensures.only tells
    (front_is journal_row (super_bytes c.args.sup.now) (g.D.Disk.files c.args.disk.now 0).now rows (journal_end rows) is.lead.stand)))

pub rows-init : goal.rows-init
rows-init g c = record {
  end = omega (arith, ap (λ l. journal_end l) c.new-rows.ensures.items);
  within = λ k d below. absurd (omega (arith, ap length c.new-rows.ensures.items));
  same = λ tells. c.read_front.ensures.same tells;
  lead =
      λ tells. lead_first (super_bytes c.args.sup.now) c.args.sup.now.settings.volumes (g.D.Disk.files c.args.disk.now 0).now c.new-rows.result.items c.new-rows.ensures.items
      (length-super c.args.sup.now)
      (none_is c.in_ok-at.field-0 _ c.in_default.is (c.in_ok-at.ensures.stands tells));
  file = c.new-reader.ensures.file;
  reaches = c.new-reader.ensures.reaches;
  block = λ tells. c.new-reader.ensures.block (g.D.Disk.files c.args.disk.now 0).now;
  drawn = λ tells. omega (arith, c.read_front.ensures.drawn tells, c.new-reader.ensures.end);
  drawn_others = λ tells. c.read_front.ensures.drawn_others tells;
  faults = c.read_front.ensures.counted.later;
  fuses = c.read_front.ensures.fuses;
}

pub returns-in-Mark-clause-exact : goal.returns-in-Mark-clause-exact
returns-in-Mark-clause-exact g c = λ tells rows is.
    one_journal (super_bytes c.args.sup.now) c.args.sup.now.settings.volumes (g.D.Disk.files c.args.disk.now 0).now c.rows.rows.items rows (omega arith)
    (journal_found (super_bytes c.args.sup.now) c.args.sup.now.settings.volumes (g.D.Disk.files c.args.disk.now 0).now c.rows.rows.items c.rows.end c.rows.invariant.end (c.rows.invariant.lead tells)
    (subst (λ files. IsClosed journal_magic c.rows.end (files 0).now) (c.rows.invariant.same tells) (c.in_ok-row.ensures.mark tells (ap (λ x. Ok x) c.in-Mark.is)))) is

pub returns-in-Mark-clause-undamaged : goal.returns-in-Mark-clause-undamaged
returns-in-Mark-clause-undamaged g c = λ tells at damage.
    let file = (g.D.Disk.files c.args.disk.now 0).now in
    let volumes = c.args.sup.now.settings.volumes in
    elim damage [
      | inl fault ↦ none_is c.in_ok-at.field-0 _ c.in_default.is (c.in_ok-at.ensures.none tells) at fault
      | inr broken ↦ undamaged (super_bytes c.args.sup.now) volumes file c.rows.rows.items at
          (journal_found (super_bytes c.args.sup.now) volumes file c.rows.rows.items c.rows.end c.rows.invariant.end (c.rows.invariant.lead tells)
          (subst (λ files. IsClosed journal_magic c.rows.end (files 0).now) (c.rows.invariant.same tells) (c.in_ok-row.ensures.mark tells (ap (λ x. Ok x) c.in-Mark.is)))) broken
    ]

pub returns-in-Broken-clause-only : goal.returns-in-Broken-clause-only
returns-in-Broken-clause-only g c = λ tells rows is.
    absurd (no_broken_row (super_bytes c.args.sup.now) c.args.sup.now.settings.volumes (g.D.Disk.files c.args.disk.now 0).now rows c.rows.rows.items c.rows.end c.rows.invariant.end
    is (c.rows.invariant.lead tells)
    (subst (λ files. IsBrokenRow c.args.sup.now.settings.volumes c.rows.end (files 0).now) (c.rows.invariant.same tells) (c.in_ok-row.ensures.broken tells (ap (λ x. Ok x) c.in-Broken.is))))

pub returns-in-Broken-clause-damaged : goal.returns-in-Broken-clause-damaged
returns-in-Broken-clause-damaged g c = λ tells at is.
    let file = (g.D.Disk.files c.args.disk.now 0).now in
    let volumes = c.args.sup.now.settings.volumes in
    let here : c.rows.end ≡ at = cc in
    let broken = subst (λ files. IsBrokenRow volumes c.rows.end (files 0).now) (c.rows.invariant.same tells) (c.in_ok-row.ensures.broken tells (ap (λ x. Ok x) c.in-Broken.is)) in
    subst (λ k. IsDamagedJournal c.args.sup.now file k) here (inr (record { rows = c.rows.rows.items; place = c.rows.invariant.end; lead = c.rows.invariant.lead tells; broken = broken }))

-- a row that stands ends at a number of 64 bits

pub returns-in_default-checked_add-clause-damaged : goal.returns-in_default-checked_add-clause-damaged
returns-in_default-checked_add-clause-damaged g c = λ tells at is.
    let fits = g.met.D.Disk.fits c.rows.disk 0 tells in
    let row = c.in_ok-row.ensures.row tells c.in-Row.row (ap (λ x. Ok x) c.in-Row.is) in
    let within : c.rows.end + 24 < 2 ^ 64 = row_within c.rows.end c.in-Row.row (g.D.Disk.files c.rows.disk 0).now row.1 fits in
    let beyond = c.in_default-checked_add.ensures in
    absurd (omega arith)

pub returns-in_default-checked_add-clause-only : goal.returns-in_default-checked_add-clause-only
returns-in_default-checked_add-clause-only g c = λ tells rows is.
    let fits = g.met.D.Disk.fits c.rows.disk 0 tells in
    let row = c.in_ok-row.ensures.row tells c.in-Row.row (ap (λ x. Ok x) c.in-Row.is) in
    let within : c.rows.end + 24 < 2 ^ 64 = row_within c.rows.end c.in-Row.row (g.D.Disk.files c.rows.disk 0).now row.1 fits in
    let beyond = c.in_default-checked_add.ensures in
    absurd (omega arith)

pub rows-preserved : goal.rows-preserved
rows-preserved g c =
    let next : c.in-Some-checked_add.next ≡ c.rows.end + 24 = omega (arith, c.in-Some-checked_add.ensures) in
    record {
      end = next_count c.rows.rows.items c.push.new.self.items c.in-Row.row c.rows.end c.in-Some-checked_add.next c.in_ok-push-in-Row.ensures.items c.rows.invariant.end next;
      within =
          let below = c.in_ok-row.ensures.within c.in-Row.row (ap (λ x. Ok x) c.in-Row.is) in
          let P = λ (row : DirRow). row.volume < c.args.sup.now.settings.volumes in
          let more = All-append P c.rows.rows.items (c.in-Row.row ∷ []) c.rows.invariant.within (all_one P c.in-Row.row below) in
          subst (λ (l : List DirRow). All P l) (sym c.in_ok-push-in-Row.ensures.items) more;
      same = λ tells. c.read_row.ensures.same tells ∙ c.rows.invariant.same tells;
      lead = λ tells.
          let row = c.in_ok-row.ensures.row tells c.in-Row.row (ap (λ x. Ok x) c.in-Row.is) in
          lead_next (super_bytes c.args.sup.now) c.args.sup.now.settings.volumes (g.D.Disk.files c.args.disk.now 0).now c.rows.rows.items c.push.new.self.items c.in-Row.row
          c.rows.end c.in_ok-push-in-Row.ensures.items c.rows.invariant.end (c.rows.invariant.lead tells) row.0
          (subst (λ files. HasBytesAt c.rows.end (journal_row c.in-Row.row) (files 0).now) (c.rows.invariant.same tells) row.1);
      file = c.read_row.ensures.file;
      reaches = subst (λ k. Reaches c.read_row.new.reader k) (sym next) (c.in_ok-row.ensures.next c.in-Row.row (ap (λ x. Ok x) c.in-Row.is));
      block = λ tells. subst (λ files. HasBlockOf (files 0).now c.read_row.new.reader) (c.rows.invariant.same tells) (c.read_row.ensures.block tells);
      drawn = λ tells. omega (arith, c.read_row.ensures.drawn tells, c.rows.invariant.drawn tells);
      drawn_others = λ tells other ne. c.read_row.ensures.drawn_others tells other ne ∙ c.rows.invariant.drawn_others tells other ne;
      faults = omega (arith, c.read_row.ensures.counted.later);
      fuses = c.read_row.ensures.fuses ∙ c.rows.invariant.fuses;
    }
