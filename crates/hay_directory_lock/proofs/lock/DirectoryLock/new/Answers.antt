use Rattle.std.proofs.Common.{refl, sym, ◌∙◌}
use Rattle.hay_directory_lock.proofs.Knowing.{stands_at}
use Rattle.hay_directory_lock.proofs.Opening.{begun_is, new_seats, opens}
use Rattle.hay_directory_lock.proofs.lock.DirectoryLock.new.Goals as goal

pub new-requires-2-clause-start : goal.new-requires-2-clause-start
new-requires-2-clause-start g c =
    let made = c.in-Ok-front_of.ensures in
    opens g.D.Disk.Tells g.D.Disk.files g.D.Disk.fault_count g.D.Disk.fuse_count c.requires.settings c.requires.up made.base made.blank.0 made.blank.1 made.blank.2

pub returns-in-Ok-new-clause-made : goal.returns-in-Ok-new-clause-made
returns-in-Ok-new-clause-made g c =
    let front = c.in-Ok-front_of.ensures in
    let made = c.in-Ok-new.ensures.made in (
      made.0,
      begun_is g.D.Disk.Tells g.D.Disk.files g.D.Disk.fault_count g.D.Disk.fuse_count c.requires.settings made.0 made.1,
      refl,
      refl,
      c.in-Ok.ensures,
      new_seats g.D.Disk.Tells g.D.Disk.files g.D.Disk.fault_count g.D.Disk.fuse_count c.requires.settings _ made.0 made.1 c.in-Ok-new.turns.items c.in-Ok-front_of.views.items
          c.joined-seats.result.items
          refl c.rows-stood.ensures.count c.requires.some front.blank.0 made.3 (sym c.in-Ok-new.turns.ok.0 ∙ made.2) front.seats c.joined-seats.ensures.turns c.joined-seats.ensures.views,
    )

pub returns-in-Ok-new-clause-stood : goal.returns-in-Ok-new-clause-stood
returns-in-Ok-new-clause-stood g c = λ known drained stands. stands_at g.D.Disk.files g.D.Disk.fault_count g.D.Disk.fuse_count c.args.directory known drained stands
