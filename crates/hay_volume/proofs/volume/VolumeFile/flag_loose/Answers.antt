use Rattle.hay_volume.proofs.FlagLaws.{flags_within}
use Rattle.hay_volume.proofs.volume.VolumeFile.flag_loose.Goals as goal

pub write_flag-requires-clause-inside : goal.write_flag-requires-clause-inside
write_flag-requires-clause-inside g c = λ tells.
    let stands = c.requires.stands tells in
    flags_within c.args.at (g.D.Disk.files c.args.disk.now c.args.self.now.file).now stands.0 stands.1
