use Rattle.std.proofs.Common.{◌∙◌, sym, take, replicate, refl}
use Rattle.hay_head.proofs.SlotLaws.{front_seen, same_front, fault_here, no_fault_here}
use Rattle.hay_head.proofs.rows.read_front.Goals as goal

pub returns-in-Ok-clause-stands : goal.returns-in-Ok-clause-stands
returns-in-Ok-clause-stands g c = λ tells.
    let seen =
    front_seen c.in_ok-got.got (replicate 64 0) c.read_into.new.out (g.D.Disk.files c.args.disk.now c.args.file).now refl (c.in_ok-got.ensures.count tells) (c.in_ok-got.ensures.bytes tells) in
    sym (same_front (take c.in_ok-got.got c.read_into.new.out) (g.D.Disk.files c.args.disk.now c.args.file).now seen) ∙ c.in-Ok.ensures.found

pub returns-in-Err-clause-fault : goal.returns-in-Err-clause-fault
returns-in-Err-clause-fault g c = λ tells.
    let seen =
    front_seen c.in_ok-got.got (replicate 64 0) c.read_into.new.out (g.D.Disk.files c.args.disk.now c.args.file).now refl (c.in_ok-got.ensures.count tells) (c.in_ok-got.ensures.bytes tells) in
    fault_here c.args.sup.now (take c.in_ok-got.got c.read_into.new.out) (g.D.Disk.files c.args.disk.now c.args.file).now c.in-Err.fault c.place.result seen c.in-Err.ensures.fault c.place.ensures

pub returns-in-Err-clause-only : goal.returns-in-Err-clause-only
returns-in-Err-clause-only g c = λ tells is.
    let seen =
    front_seen c.in_ok-got.got (replicate 64 0) c.read_into.new.out (g.D.Disk.files c.args.disk.now c.args.file).now refl (c.in_ok-got.ensures.count tells) (c.in_ok-got.ensures.bytes tells) in
    sym (c.in-Err.ensures.only (same_front (take c.in_ok-got.got c.read_into.new.out) (g.D.Disk.files c.args.disk.now c.args.file).now seen ∙ is))

pub returns-in-Ok-clause-none : goal.returns-in-Ok-clause-none
returns-in-Ok-clause-none g c = λ tells at damage.
    let seen =
    front_seen c.in_ok-got.got (replicate 64 0) c.read_into.new.out (g.D.Disk.files c.args.disk.now c.args.file).now refl (c.in_ok-got.ensures.count tells) (c.in_ok-got.ensures.bytes tells) in
    no_fault_here c.args.sup.now (take c.in_ok-got.got c.read_into.new.out) (g.D.Disk.files c.args.disk.now c.args.file).now at seen c.in-Ok.ensures.fault damage
