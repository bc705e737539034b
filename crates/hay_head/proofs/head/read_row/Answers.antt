use Rattle.std.proofs.Common.{ℕ, ap, subst, Ok}
use Rattle.hay_disk.specs.Gate.{HasBytesAt}
use Rattle.hay_head.specs.Rows.{IsCutAt}
use Rattle.hay_head.specs.Head.{head_magic}
use Rattle.hay_head.proofs.HeadLaws.{row_found, other_row, cut_row}
use Rattle.hay_head.proofs.head.read_row.Goals as goal

pub returns-in-Row-clause-row : goal.returns-in-Row-clause-row
returns-in-Row-clause-row g c = λ tells is.
    let slot = ap (λ x. Ok x) c.in-Row.is in
    let files = g.D.Disk.files c.args.disk.now in
    let stands = subst (λ (n : ℕ). HasBytesAt c.place_of.result c.read_slot.new.out (files n).now) c.requires.file (c.in_ok-read_slot.ensures.row tells slot) in
    row_found c.args.next c.place_of.result c.read_slot.new.out (files 0).now c.read_slot.auto.out (c.in_ok-read_slot.ensures.magic slot) c.if-has_number.ensures.is c.place_of.ensures stands

pub returns-in_default-clause-broken : goal.returns-in_default-clause-broken
returns-in_default-clause-broken g c = λ tells is.
    let slot = ap (λ x. Ok x) c.in-Row.is in
    let files = g.D.Disk.files c.args.disk.now in
    let stands = subst (λ (n : ℕ). HasBytesAt c.place_of.result c.read_slot.new.out (files n).now) c.requires.file (c.in_ok-read_slot.ensures.row tells slot) in
    other_row c.args.next c.place_of.result c.read_slot.new.out (files 0).now c.read_slot.auto.out (c.in_ok-read_slot.ensures.magic slot) c.if-has_number.ensures.only c.place_of.ensures stands

pub returns-in_default-4-clause-broken : goal.returns-in_default-4-clause-broken
returns-in_default-4-clause-broken g c = λ tells is.
    let files = g.D.Disk.files c.args.disk.now in
    cut_row c.args.next c.place_of.result (files 0).now c.place_of.ensures
    (subst (λ (n : ℕ). IsCutAt head_magic 16 c.place_of.result (files n).now) c.requires.file (c.in_ok-read_slot.ensures.broken tells (ap (λ x. Ok x) c.in_default.is)))
