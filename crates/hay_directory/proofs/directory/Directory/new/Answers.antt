use Rattle.std.proofs.lemmas.Bool.{true≢false}
use Rattle.hay_directory.proofs.HomeLaws.{none_within}
use Rattle.hay_directory.proofs.Standing.{not_up}
use Rattle.hay_directory.proofs.Drains.{no_drains, length-drains}
use Rattle.hay_directory.proofs.directory.Directory.new.Goals as goal

pub invariant_of-result : goal.invariant_of-result
invariant_of-result g c = record {
  machines = c.requires;
  long = length-drains c.args.settings.machines c.requires;
  within = none_within c.args.settings.volumes _ c.new.ensures;
  pending = tt;
  kept = λ up. absurd (true≢false up);
  undrained = λ closed. no_drains c.args.settings.machines c.requires;
  stands = λ tells up. not_up g.D.Disk.files _ up;
}
