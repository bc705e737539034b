use Rattle.std.proofs.Common.{arith, sym, subst, drop, vec_len}
use Rattle.hay_needle.specs.Needle.{BeginsWithNeedle}
use Rattle.hay_volume.proofs.ReadLaws.{nothing_yet, sized_begins, sized_cell}
use Rattle.hay_volume.proofs.volume.VolumeFile.cell_within.Goals as goal

pub returns-in-Some-clause-cell : goal.returns-in-Some-clause-cell
returns-in-Some-clause-cell g c =
    let seen = c.in-Some.ensures.cell in
    sized_cell c.args.at c.args.size c.total_of-total.result c.read_up_to.new.bytes.items c.in-Some.head seen.0
    c.total_of-total.ensures (omega (arith, c.in_ok-read_up_to.ensures.within, c.read_up_to.new.bytes.ok.0))
    (subst (λ l. BeginsWithNeedle l seen.0) c.as_slice.ensures.value seen.1) seen.2 seen.3 c.in-Some.ensures.size

pub returns-in-None-clause-damaged : goal.returns-in-None-clause-damaged
returns-in-None-clause-damaged g c = λ tells is n begins sized.
    let here = sized_begins c.args.at c.args.size c.total_of-total.result c.read_up_to.new.bytes.items (g.D.Disk.files c.args.disk.now c.args.self.now.file).now n
    c.total_of-total.ensures (c.in_ok-read_up_to.ensures.read tells (nothing_yet (vec_len c.clear.new.self) c.clear.new.self.items
    (drop c.args.at (g.D.Disk.files c.args.disk.now c.args.self.now.file).now) c.clear.ensures.len c.clear.ensures.items)) sized begins in
    c.in-None.ensures.none n (subst (λ l. BeginsWithNeedle l n) (sym c.as_slice.ensures.value) here) sized
