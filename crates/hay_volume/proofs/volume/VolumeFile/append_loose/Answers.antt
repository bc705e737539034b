use Rattle.std.proofs.Common.{arith}
use Rattle.hay_needle.specs.Needle.{live}
use Rattle.hay_volume.proofs.Volumes.{needle_grows, length-marked}
use Rattle.hay_volume.proofs.volume.VolumeFile.append_loose.Goals as goal

pub overflow_sub-need : goal.overflow_sub-need
overflow_sub-need g c = omega (arith, length-marked c.args.needle.now (live c.requires.marked.0 c.requires.marked.1 c.requires.marked.2) c.requires.marked.3)

pub returns-clause-added : goal.returns-clause-added
returns-clause-added g c = λ tells superblock cells pair cookie photo marked is.
    needle_grows superblock c.args.needle.now (g.D.Disk.files c.args.disk.now c.args.self.now.file).now (g.D.Disk.files c.write.new.self c.args.self.now.file).now cells
    c.args.self.now.end pair cookie photo marked (c.in_ok-write.ensures.written tells) is
