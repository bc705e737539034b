use Rattle.std.proofs.Common.{ap, take, drop, refl, replicate, Err}
use Rattle.std.proofs.lemmas.Result.{err_from_is_err_and}
use Rattle.hay_needle.specs.Needle.{head_of_cell, head_of_needle}
use Rattle.hay_volume.proofs.ReadLaws.{front_seen, head_seen, head_whole, whole_seen, cell_of, stands_here, none_here, same_fault}
use Rattle.hay_volume.proofs.volume.VolumeFile.cell_at.Goals as goal

pub returns-in_default-clause-damaged : goal.returns-in_default-clause-damaged
returns-in_default-clause-damaged g c = λ tells is n begins.
    let seen =
    front_seen c.args.at c.in_ok-got.got (replicate 36 0) c.read_into.new.out (g.D.Disk.files c.args.disk.now c.args.self.now.file).now refl (c.in_ok-got.ensures.count tells)
    (c.in_ok-got.ensures.bytes tells) in
    c.in_default.ensures.only (head_of_needle n) (head_seen (take c.in_ok-got.got c.read_into.new.out) (drop c.args.at (g.D.Disk.files c.args.disk.now c.args.self.now.file).now) n seen begins)

pub read_rest-requires : goal.read_rest-requires
read_rest-requires g c =
    head_whole c.in_ok-got.got c.read_into.new.out c.clear.new.self.items c.extend_from_slice.new.self.items (head_of_cell c.in-Ok.head)
    c.read_into.auto.out c.clear.ensures.items c.in_ok-extend_from_slice.ensures.items c.in-Ok.ensures.found

pub returns-in_err-read_rest-clause-damaged : goal.returns-in_err-read_rest-clause-damaged
returns-in_err-read_rest-clause-damaged g c = λ tells is n begins.
    let fault = err_from_is_err_and c.from_residual-in_err-read_rest.result c.from_residual-in_err-read_rest.ensures.1 in
    let seen =
    whole_seen c.args.at c.in_ok-got.got (replicate 36 0) c.read_into.new.out c.clear.new.self.items c.extend_from_slice.new.self.items
    (g.D.Disk.files c.args.disk.now c.args.self.now.file).now (head_of_cell c.in-Ok.head)
    refl (c.in_ok-got.ensures.count tells) (c.in_ok-got.ensures.bytes tells) c.read_into.auto.out c.clear.ensures.items c.in_ok-extend_from_slice.ensures.items c.in-Ok.ensures.found in
    none_here c.args.at c.in-Ok.head c.extend_from_slice.new.self.items (g.D.Disk.files c.args.disk.now c.args.self.now.file).now
    (g.D.Disk.files c.read_into.new.self c.args.self.now.file).now n c.in-Ok.ensures.place (ap (λ files. (files c.args.self.now.file).now) (c.read_into.ensures.same tells)) seen
    (λ front. c.in_err-read_rest.ensures.damaged tells front (ap (λ x. Err x) (same_fault c.from_residual-in_err-read_rest.result fault.0 c.in_err-read_rest.field-0.0 c.args.at
    c.in-Ok.head.at fault.1 fault.2 is c.in-Ok.ensures.place))) begins

pub returns-clause-cell : goal.returns-clause-cell
returns-clause-cell g c =
    let made = c.in_ok-read_rest.ensures.needle in
    cell_of c.args.at c.in-Ok.head c.read_rest.new.bytes.items made.0 c.in-Ok.ensures.place made.1 made.2

pub returns-clause-stands : goal.returns-clause-stands
returns-clause-stands g c = λ tells.
    let seen =
    whole_seen c.args.at c.in_ok-got.got (replicate 36 0) c.read_into.new.out c.clear.new.self.items c.extend_from_slice.new.self.items
    (g.D.Disk.files c.args.disk.now c.args.self.now.file).now (head_of_cell c.in-Ok.head)
    refl (c.in_ok-got.ensures.count tells) (c.in_ok-got.ensures.bytes tells) c.read_into.auto.out c.clear.ensures.items c.in_ok-extend_from_slice.ensures.items c.in-Ok.ensures.found in
    stands_here c.args.at c.in-Ok.head c.extend_from_slice.new.self.items c.read_rest.new.bytes.items (g.D.Disk.files c.args.disk.now c.args.self.now.file).now
    (g.D.Disk.files c.read_into.new.self c.args.self.now.file).now c.in-Ok.ensures.place (ap (λ files. (files c.args.self.now.file).now) (c.read_into.ensures.same tells)) seen
    (c.in_ok-read_rest.ensures.stands tells)
