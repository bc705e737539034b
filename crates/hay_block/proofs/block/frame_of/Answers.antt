use Rattle.std.proofs.Common.{arith}
use Rattle.hay_shared_volume.specs.Making.{IsVolumeOf}
use Rattle.hay_shared_volume.specs.Seats.{IsSeatOf}
use Rattle.hay_block.proofs.Beginning.{first_frame}
use Rattle.hay_block.proofs.block.frame_of.Goals as goal

pub returns-clause-frame : goal.returns-clause-frame
returns-clause-frame g c =
    let many = c.requires.volumes.many in
    let same = c.reverse.ensures.capacity in
    first_frame IsSeatOf g.L.DirectoryCalls.fits IsVolumeOf
    (record {
      shared = record { settings = c.args.settings; volumes = c.args.locks; directory = c.args.lock; drained = c.args.drained };
      lanes = c.args.lanes;
      waiting = c.reverse.new.self;
      tags = c.args.tags;
    })
    c.args.volumes.items c.requires.fit c.requires.drains c.requires.locks.0 c.requires.locks.1 c.requires.tags.0 c.requires.tags.1 c.requires.blank c.requires.seats c.requires.volumes
    c.reverse.ensures.items (omega (arith, many, same, c.args.volumes.ok.0, c.args.volumes.ok.1))
