use Rattle.std.proofs.Common.{arith, vec_len, sym, subst}
use Rattle.hay_needle.specs.Needle.{head_of_cell, needle_of_view, BeginsWithNeedle}
use Rattle.hay_needle.proofs.Needles.{length-head}
use Rattle.hay_volume.proofs.ReadLaws.{in_bytes, is_needle_of, read_stands, whole_front}
use Rattle.hay_volume.proofs.reading.read_rest.Goals as goal

pub read_up_to-requires : goal.read_up_to-requires
read_up_to-requires g c =
    omega (arith, c.args.bytes.now.ok.0, length-head c.args.bytes.now.items (head_of_cell c.args.head) c.requires)

pub returns-in_err-read_up_to-clause-drawn : goal.returns-in_err-read_up_to-clause-drawn
returns-in_err-read_up_to-clause-drawn g c = λ tells.
    omega (arith, c.read_up_to.ensures.drawn tells, c.args.bytes.now.ok.0, length-head c.args.bytes.now.items (head_of_cell c.args.head) c.requires)

pub returns-in_default-clause-damaged : goal.returns-in_default-clause-damaged
returns-in_default-clause-damaged g c = λ tells front is n begins.
    let here =
    in_bytes c.args.head.at (vec_len c.args.bytes.now) c.total_of.result c.args.bytes.now.items c.read_up_to.new.bytes.items (g.D.Disk.files c.args.disk.now c.args.file).now
    (head_of_cell c.args.head) n
    c.requires c.total_of.ensures front (c.in_ok-read_up_to.ensures.read tells) (omega (arith, c.args.bytes.now.ok.0)) begins in
    c.in_default.ensures.only n (subst (λ l. BeginsWithNeedle l n) (sym c.as_slice.ensures.value) here)

pub returns-in_default-clause-drawn : goal.returns-in_default-clause-drawn
returns-in_default-clause-drawn g c = λ tells.
    omega (arith, c.read_up_to.ensures.drawn tells, c.args.bytes.now.ok.0, length-head c.args.bytes.now.items (head_of_cell c.args.head) c.requires)

pub returns-clause-needle : goal.returns-clause-needle
returns-clause-needle g c =
    let n = needle_of_view c.in-Ok.field-0 in
    let is = is_needle_of (vec_len c.args.bytes.now) c.total_of.result c.args.bytes.now.items c.read_up_to.new.bytes.items (head_of_cell c.args.head) n
    c.requires c.total_of.ensures c.in_ok-read_up_to.ensures.keeps (omega (arith, c.args.bytes.now.ok.0)) (omega (arith, c.in_ok-read_up_to.ensures.within, c.read_up_to.new.bytes.ok.0))
    (subst (λ l. BeginsWithNeedle l n) c.as_slice.ensures.value c.in-Ok.ensures.found) in
    (n, is.0, is.1)

pub returns-clause-stands : goal.returns-clause-stands
returns-clause-stands g c = λ tells front.
    read_stands c.args.head.at c.total_of.result c.read_up_to.new.bytes.items (g.D.Disk.files c.args.disk.now c.args.file).now
    (c.in_ok-read_up_to.ensures.read tells (whole_front c.args.head.at (vec_len c.args.bytes.now) c.args.bytes.now.items (g.D.Disk.files c.args.disk.now c.args.file).now
    (omega (arith, c.args.bytes.now.ok.0, length-head c.args.bytes.now.items (head_of_cell c.args.head) c.requires)) front))

pub returns-clause-drawn : goal.returns-clause-drawn
returns-clause-drawn g c = λ tells.
    omega (arith, c.read_up_to.ensures.drawn tells, c.args.bytes.now.ok.0, length-head c.args.bytes.now.items (head_of_cell c.args.head) c.requires)
