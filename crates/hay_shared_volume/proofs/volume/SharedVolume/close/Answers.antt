use Rattle.std.proofs.Common.{◌<◌, sym, subst}
use Rattle.hay_needle.specs.declared.settings.Settings.{Settings}
use Rattle.hay_shared_volume.proofs.Ending.{all_seated, is_volume_of, leaves_volume, within}
use Rattle.hay_shared_volume.proofs.volume.SharedVolume.close.Goals as goal

pub close-volume-requires-clause-seats : goal.close-volume-requires-clause-seats
close-volume-requires-clause-seats g c =
    let made = c.requires.made.3 in
    (made.opened, all_seated made c.requires.made.4)

pub read_faults-requires : goal.read_faults-requires
read_faults-requires g c =
    let made = c.requires.made.3 in
    within made g.D.Disk.Tells g.D.Disk.files g.P.Piece.Tells g.D.Disk.fault_count g.D.Disk.fuse_count (c.close-volume.ensures made.opened (all_seated made c.requires.made.4))

pub returns-clause-left : goal.returns-clause-left
returns-clause-left g c volume settings number made sits =
    leaves_volume made g.D.Disk.Tells g.D.Disk.files g.P.Piece.Tells g.D.Disk.fault_count g.D.Disk.fuse_count (c.close-volume.ensures made.opened (all_seated made sits))
    (λ j below. c.read_faults.ensures j (subst (λ (s : Settings). j < s.replicas) (sym made.settings_are) below))

pub returns-clause-of : goal.returns-clause-of
returns-clause-of g c volume settings number made =
    is_volume_of made g.D.Disk.Tells g.D.Disk.files g.P.Piece.Tells g.D.Disk.fault_count g.D.Disk.fuse_count
    (c.close-volume.ensures made.opened (all_seated made c.requires.made.4)) c.front-front.ensures.sups
