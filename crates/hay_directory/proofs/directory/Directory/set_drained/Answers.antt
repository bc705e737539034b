use Rattle.std.proofs.Common.{◌<◌, List, Bool, sym, ap, subst, ◌∙◌}
use Rattle.std.specs.Prelude.{slice_set}
use Rattle.hay_directory.specs.State.{State}
use Rattle.hay_directory.proofs.Drains.{take-set_below}
use Rattle.hay_directory.proofs.directory.Directory.set_drained.Goals as goal

pub returns : goal.returns
returns g c =
    let was = c.self.inside in
    let below : c.args.machine < was.settings.machines = subst (λ (d : State _). c.args.machine < d.settings.machines) (sym c.self.view_is) c.requires.machine in
    let with : List Bool → State _ = λ l. record {
      settings = was.settings;
      disk = was.disk;
      journal = was.journal;
      homes = was.homes.volumes;
      room = was.homes.room;
      count = was.count;
      drained = l;
      mode = was.mode;
    } in
    ap with (take-set_below was.settings.machines was.drained c.args.machine c.args.is_drained below)
    ∙ ap (λ (d : State _). record d { drained = slice_set d.drained c.args.machine c.args.is_drained }) c.self.view_is
