use Rattle.std.proofs.Common.{◌<◌, Option, false, refl, sym, ap, subst, ◌∙◌}
use Rattle.std.specs.Prelude.{IfSome, replicate}
use Rattle.std.proofs.lemmas.Bool.{true≢false}
use Rattle.hay_directory.specs.declared.mode.Mode.TheVariants.{Closed}
use Rattle.hay_directory.specs.declared.mode.Unsure.{Unsure}
use Rattle.hay_directory.specs.State.{State, Stands, Stopped, Holds}
use Rattle.hay_directory.proofs.Drains.{no_drains, length-drains}
use Rattle.hay_directory.proofs.Standing.{not_up, stopped_open, stopped_again, holds_behind}
use Rattle.hay_directory.proofs.directory.Directory.stop.Goals as goal

pub invariant_of-self : goal.invariant_of-self
invariant_of-self g c =
    let was = c.self.inside in
    record {
      machines = c.self.invariant.machines;
      long = length-drains was.settings.machines c.self.invariant.machines;
      within = c.self.invariant.within;
      pending = subst (λ (u : Option Unsure). IfSome u (λ unsure. unsure.row.volume < was.settings.volumes)) (sym c.unsure.ensures) c.self.invariant.pending;
      kept = λ up. absurd (true≢false up);
      undrained = λ closed. no_drains was.settings.machines c.self.invariant.machines;
      stands = λ tells up. not_up g.D.Disk.files _ up;
    }

pub returns-clause-stopped : goal.returns-clause-stopped
unfolding Stands Stopped
returns-clause-stopped g c = λ tells known drained stands.
    let files = g.D.Disk.files in
    let cycle = c.power_cycle.ensures in
    let s = subst (λ (d : State _). Stands files d known drained) (sym c.self.view_is) stands in
    stopped_open files _ _ known drained s
    (record { settings = refl; mode = ap (λ (unsure : Option Unsure). Closed unsure) c.unsure.ensures; left = cycle.left tells; solid = cycle.solid tells; free = cycle.free tells })

pub returns-clause-again : goal.returns-clause-again
unfolding Stopped
returns-clause-again g c = λ tells known stopped.
    let files = g.D.Disk.files in
    let cycle = c.power_cycle.ensures in
    let s = subst (λ (d : State _). Stopped files d known) (sym c.self.view_is) stopped in
    stopped_again files _ _ known s
    (record { settings = refl; mode = ap (λ (unsure : Option Unsure). Closed unsure) c.unsure.ensures; left = cycle.left tells; solid = cycle.solid tells; free = cycle.free tells })

pub returns-clause-holds : goal.returns-clause-holds
unfolding Holds
returns-clause-holds g c = λ tells known holds.
    let files = g.D.Disk.files in
    let cycle = c.power_cycle.ensures in
    let h = subst (λ (d : State _). Holds files d known) (sym c.self.view_is) holds in
    holds_behind files _ _ known h
    (record { settings = refl; mode = ap (λ (unsure : Option Unsure). Closed unsure) c.unsure.ensures; left = cycle.left tells; solid = cycle.solid tells; free = cycle.free tells })

pub returns-clause-seen : goal.returns-clause-seen
returns-clause-seen g c =
    rw (← c.self.view_is) (record { pending = c.unsure.ensures; drained = no_drains c.self.inside.settings.machines c.self.invariant.machines })

pub returns-clause-undrained : goal.returns-clause-undrained
returns-clause-undrained g c = no_drains c.self.inside.settings.machines c.self.invariant.machines ∙ ap (λ (d : State _). replicate d.settings.machines false) c.self.view_is
