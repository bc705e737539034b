use Rattle.std.proofs.Common.{arith, ◌∙◌, ap, drop, vec_len, Err}
use Rattle.std.proofs.lemmas.Result.{err_from_is_err_and}
use Rattle.hay_needle.specs.Needle.{head_of_cell, head_of_needle}
use Rattle.hay_volume.proofs.ReadLaws.{head_seen, stands_here, none_here, same_fault}
use Rattle.hay_volume.proofs.ScanLaws.{eight_first, head_alone, stands_cell}
use Rattle.hay_volume.proofs.scan.read_cell.Goals as goal

pub returns-in_default-clause-damaged : goal.returns-in_default-clause-damaged
returns-in_default-clause-damaged g c = λ tells front is n begins.
    let read = c.in_ok-read_up_to.ensures.read tells (eight_first (vec_len c.args.bytes.now) c.args.bytes.now.items _ c.requires front) in
    c.in_default.ensures.only (head_of_needle n) (head_seen c.as_slice.result.now (drop c.args.at (g.D.Disk.files c.args.disk.now c.args.file).now) n (c.as_slice.ensures.value ∙ read) begins)

pub read_rest-requires : goal.read_rest-requires
read_rest-requires g c =
    head_alone c.as_slice.result.now c.read_up_to.new.bytes.items (head_of_cell c.in-Ok.head) c.as_slice.ensures.value
    (omega (arith, c.in_ok-read_up_to.ensures.within, c.read_up_to.new.bytes.ok.0)) c.in-Ok.ensures.found

pub returns-in_err-read_rest-clause-damaged : goal.returns-in_err-read_rest-clause-damaged
returns-in_err-read_rest-clause-damaged g c = λ tells front is n begins.
    let fault = err_from_is_err_and c.from_residual-in_err-read_rest.result c.from_residual-in_err-read_rest.ensures.1 in
    let read = c.in_ok-read_up_to.ensures.read tells (eight_first (vec_len c.args.bytes.now) c.args.bytes.now.items _ c.requires front) in
    none_here c.args.at c.in-Ok.head c.read_up_to.new.bytes.items (g.D.Disk.files c.args.disk.now c.args.file).now (g.D.Disk.files c.read_up_to.new.disk c.args.file).now n
    c.in-Ok.ensures.place (ap (λ files. (files c.args.file).now) (c.read_up_to.ensures.same tells)) read
    (λ seen. c.in_err-read_rest.ensures.damaged tells seen (ap (λ x. Err x) (same_fault c.from_residual-in_err-read_rest.result fault.0 c.in_err-read_rest.field-0.0 c.args.at
    c.in-Ok.head.at fault.1 fault.2 is c.in-Ok.ensures.place))) begins

pub returns-clause-cell : goal.returns-clause-cell
returns-clause-cell g c = λ tells front.
    let made = c.in_ok-read_rest.ensures.needle in
    let read = c.in_ok-read_up_to.ensures.read tells (eight_first (vec_len c.args.bytes.now) c.args.bytes.now.items _ c.requires front) in
    let stand =
    stands_here c.args.at c.in-Ok.head c.read_up_to.new.bytes.items c.read_rest.new.bytes.items (g.D.Disk.files c.args.disk.now c.args.file).now
    (g.D.Disk.files c.read_up_to.new.disk c.args.file).now c.in-Ok.ensures.place (ap (λ files. (files c.args.file).now) (c.read_up_to.ensures.same tells)) read
    (c.in_ok-read_rest.ensures.stands tells) in
    stands_cell c.args.at c.in-Ok.head c.read_rest.new.bytes.items (g.D.Disk.files c.args.disk.now c.args.file).now made.0 c.in-Ok.ensures.place made.1 made.2 stand
