use Rattle.std.proofs.Common.{refl, sym, subst}
use Rattle.hay_directory.specs.State.{State, Stands}
use Rattle.hay_directory.proofs.Standing.{stands_moved}
use Rattle.hay_directory.proofs.directory.Directory.fuse.Goals as goal

pub returns-clause-stands : goal.returns-clause-stands
unfolding Stands
returns-clause-stands g c = λ tells known drained stands.
    let files = g.D.Disk.files in
    let s = subst (λ (d : State _). Stands files d known drained) (sym c.self.view_is) stands in
    stands_moved files _ c.fuse.new.self known drained _ drained s (c.fuse.ensures.same tells) s.drained_is

pub returns-clause-seen : goal.returns-clause-seen
returns-clause-seen g c = rw (← c.self.view_is) (record { homes = λ pair. refl; rows = refl; pending = refl; drained = refl })
