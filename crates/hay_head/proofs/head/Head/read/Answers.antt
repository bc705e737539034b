use Rattle.std.proofs.Common.{◌≡◌, ◌∙◌, ◌-◌, ap, sym, subst, arith, Ok, inl, inr}
use Rattle.std.specs.List.{range_with_len}
use Rattle.hay_needle.specs.Super.{super_bytes}
use Rattle.hay_needle.proofs.Supers.{length-super}
use Rattle.hay_disk.specs.Gate.{IsClosed, HasBytesAt}
use Rattle.hay_head.specs.Blocks.{HasBlockOf}
use Rattle.hay_head.specs.Head.{head_magic, head_row, row_place, IsBrokenRow}
use Rattle.hay_head.proofs.RowLaws.{front_is}
use Rattle.hay_head.proofs.HeadLaws.{lead_first, lead_next, head_found, no_broken_row, one_generation, none_is, some_is_none, undamaged}
use Rattle.hay_head.proofs.head.Head.read.Goals as goal

pub returns-in-Some-clause-only : goal.returns-in-Some-clause-only
returns-in-Some-clause-only g c = λ tells generation is.
    absurd (some_is_none c.in_ok-at.field-0 c.in-Some.at c.in-Some.is (c.in_ok-at.ensures.only tells
    (front_is head_row (super_bytes c.args.sup.now) (g.D.Disk.files c.args.disk.now 0).now (range_with_len 0 _) (row_place _) is.rows)))

pub rows-init : goal.rows-init
rows-init g c = record {
  most = omega arith;
  same = λ tells. c.read_front.ensures.same tells;
  lead =
      λ tells. lead_first (super_bytes c.args.sup.now) (g.D.Disk.files c.args.disk.now 0).now (length-super c.args.sup.now)
      (none_is c.in_ok-at.field-0 _ c.in_default.is (c.in_ok-at.ensures.stands tells));
  file = c.new-reader.ensures.file;
  reaches = c.new-reader.ensures.reaches;
  block = λ tells. c.new-reader.ensures.block (g.D.Disk.files c.args.disk.now 0).now;
  drawn = λ tells. omega (arith, c.read_front.ensures.drawn tells, c.new-reader.ensures.end);
  drawn_others = λ tells. c.read_front.ensures.drawn_others tells;
  faults = c.read_front.ensures.counted.later;
  fuses = c.read_front.ensures.fuses;
}

pub rows-preserved : goal.rows-preserved
rows-preserved g c =
    let row = ap (λ x. Ok x) c.in-Row.is in
    record {
      most = omega (arith, c.in_ok-read_row.ensures.most row);
      same = λ tells. c.read_row.ensures.same tells ∙ c.rows.invariant.same tells;
      lead = λ tells. lead_next (super_bytes c.args.sup.now) (g.D.Disk.files c.args.disk.now 0).now c.rows.rows (c.rows.invariant.lead tells)
          (subst (λ files. HasBytesAt (row_place c.rows.rows) (head_row c.rows.rows) (files 0).now) (c.rows.invariant.same tells) (c.in_ok-read_row.ensures.row tells row));
      file = c.read_row.ensures.file;
      reaches = c.in_ok-read_row.ensures.next row;
      block = λ tells. subst (λ files. HasBlockOf (files 0).now c.read_row.new.reader) (c.rows.invariant.same tells) (c.read_row.ensures.block tells);
      drawn = λ tells. omega (arith, c.read_row.ensures.drawn tells, c.rows.invariant.drawn tells);
      drawn_others = λ tells other ne. c.read_row.ensures.drawn_others tells other ne ∙ c.rows.invariant.drawn_others tells other ne;
      faults = omega (arith, c.read_row.ensures.counted.later);
      fuses = c.read_row.ensures.fuses ∙ c.rows.invariant.fuses;
    }

pub returns-in-Broken-clause-damaged : goal.returns-in-Broken-clause-damaged
returns-in-Broken-clause-damaged g c = λ tells at is.
    let here : c.place_of.result ≡ at = cc in
    inr (record {
      next = c.rows.rows;
      most = c.rows.invariant.most;
      place = sym here ∙ c.place_of.ensures;
      lead = c.rows.invariant.lead tells;
      broken = subst (λ files. IsBrokenRow c.rows.rows (files 0).now) (c.rows.invariant.same tells) (c.in_ok-read_row.ensures.broken tells (ap (λ x. Ok x) c.in-Broken.is));
    })

pub returns-in-Broken-clause-only : goal.returns-in-Broken-clause-only
returns-in-Broken-clause-only g c = λ tells generation is.
    absurd (no_broken_row (super_bytes c.args.sup.now) (g.D.Disk.files c.args.disk.now 0).now generation c.rows.rows is (c.rows.invariant.lead tells)
    (subst (λ files. IsBrokenRow c.rows.rows (files 0).now) (c.rows.invariant.same tells) (c.in_ok-read_row.ensures.broken tells (ap (λ x. Ok x) c.in-Broken.is))))

pub returns-in-Mark-clause-head : goal.returns-in-Mark-clause-head
returns-in-Mark-clause-head g c = λ tells.
    let mark = ap (λ x. Ok x) c.in-Mark.is in
    head_found (super_bytes c.args.sup.now) (g.D.Disk.files c.args.disk.now 0).now c.rows.rows (c.rows.rows - 1) (omega (arith, c.in_ok-read_row.ensures.some mark))
    c.rows.invariant.most (c.rows.invariant.lead tells)
    (subst (λ files. IsClosed head_magic (row_place c.rows.rows) (files 0).now) (c.rows.invariant.same tells) (c.in_ok-read_row.ensures.mark tells mark))

pub returns-in-Mark-clause-exact : goal.returns-in-Mark-clause-exact
returns-in-Mark-clause-exact g c = λ tells generation is.
    one_generation (super_bytes c.args.sup.now) (g.D.Disk.files c.args.disk.now 0).now (c.rows.rows - 1) generation (returns-in-Mark-clause-head g c tells) is

pub returns-in-Mark-clause-undamaged : goal.returns-in-Mark-clause-undamaged
returns-in-Mark-clause-undamaged g c = λ tells at damage.
    elim damage [
      | inl fault ↦ none_is c.in_ok-at.field-0 _ c.in_default.is (c.in_ok-at.ensures.none tells) at fault
      | inr broken ↦ undamaged (super_bytes c.args.sup.now) (g.D.Disk.files c.args.disk.now 0).now (c.rows.rows - 1) at (returns-in-Mark-clause-head g c tells) broken
    ]
