use Rattle.hay_shared_volume.specs.Tellings.{DeleteTells}
use Rattle.hay_lane.proofs.Stepping.{fits_here, seat_at, stepped, still_of, still_seated, still_unfused}
use Rattle.hay_shared_volume.specs.Seats.{IsSeatOf, WasAt, sight_of}
use Rattle.hay_lane.proofs.steps.Shared+SharedVolume+D+P+L.delete_at.Goals as goal

pub delete-requires : goal.delete-requires
delete-requires g c = record {
  fits = (
    c.args.volume,
    c.args.self.now.settings,
    fits_here IsSeatOf g.L.DirectoryCalls.fits c.args.self.now c.args.tag.lane c.args.lane.now c.requires.seated
        c.args.volume c.requires.volume c.as_slice.ensures.value c.as_mut_slice.ensures.value c.index-as_slice-volume.result c.index-as_mut_slice-volume.result
        c.index-as_slice-volume.result c.index-as_slice-volume.is,
  );
}

pub returns-clause-seated : goal.returns-clause-seated
returns-clause-seated g c =
    still_seated IsSeatOf g.L.DirectoryCalls.fits c.args.self.now c.args.tag.lane c.args.lane.now c.requires.seated
    c.args.volume c.requires.volume c.as_slice.ensures.value c.as_mut_slice.ensures.value c.index-as_slice-volume.result c.index-as_mut_slice-volume.result
    c.index-as_slice-volume.result c.index-as_slice-volume.is c.delete.new.seat (WasAt g.D.Disk.Tells g.D.Disk.files g.P.Piece.Tells g.D.Disk.fault_count g.D.Disk.fuse_count)
    (c.delete.ensures.stays c.args.volume)

pub returns-clause-same : goal.returns-clause-same
returns-clause-same g c =
    still_of IsSeatOf g.L.DirectoryCalls.fits c.args.self.now c.args.tag.lane c.args.lane.now c.requires.seated
    c.args.volume c.requires.volume c.as_slice.ensures.value c.as_mut_slice.ensures.value c.index-as_slice-volume.result c.index-as_mut_slice-volume.result
    c.index-as_slice-volume.result c.index-as_slice-volume.is c.delete.new.seat (WasAt g.D.Disk.Tells g.D.Disk.files g.P.Piece.Tells g.D.Disk.fault_count g.D.Disk.fuse_count)
    (c.delete.ensures.stays c.args.volume) g.L.DirectoryCalls.is_at c.args.self.now.settings

pub returns-clause-tells : goal.returns-clause-tells
returns-clause-tells g c start of =
    stepped IsSeatOf g.L.DirectoryCalls.fits c.args.self.now c.args.tag.lane c.args.lane.now c.requires.seated
    c.args.volume c.requires.volume c.as_slice.ensures.value c.as_mut_slice.ensures.value c.index-as_slice-volume.result c.index-as_mut_slice-volume.result
    c.index-as_slice-volume.result c.index-as_slice-volume.is c.delete.new.seat sight_of g.L.DirectoryCalls.sight g.A.Arm.fault_count
    (DeleteTells (record { settings = c.args.self.now.settings; start = start; number = c.args.volume }) c.args.tag c.args.pair c.delete.result)
    (c.delete.ensures.tells (record { settings = c.args.self.now.settings; start = start; number = c.args.volume })
    (of.each c.args.volume _ (seat_at IsSeatOf g.L.DirectoryCalls.fits c.args.self.now c.args.tag.lane c.args.lane.now c.requires.seated
    c.args.volume c.requires.volume c.as_slice.ensures.value c.as_mut_slice.ensures.value c.index-as_slice-volume.result c.index-as_mut_slice-volume.result)))

pub returns-clause-names : goal.returns-clause-names
returns-clause-names g c = c.delete.ensures.names c.args.volume c.args.self.now.settings
    (fits_here IsSeatOf g.L.DirectoryCalls.fits c.args.self.now c.args.tag.lane c.args.lane.now c.requires.seated
    c.args.volume c.requires.volume c.as_slice.ensures.value c.as_mut_slice.ensures.value c.index-as_slice-volume.result c.index-as_mut_slice-volume.result
    c.index-as_slice-volume.result c.index-as_slice-volume.is)

pub returns-clause-unfused : goal.returns-clause-unfused
returns-clause-unfused g c =
    still_unfused IsSeatOf g.L.DirectoryCalls.fits c.args.self.now c.args.tag.lane c.args.lane.now c.requires.seated
    c.args.volume c.requires.volume c.as_slice.ensures.value c.as_mut_slice.ensures.value c.index-as_slice-volume.result c.index-as_mut_slice-volume.result
    c.index-as_slice-volume.result c.index-as_slice-volume.is c.delete.new.seat sight_of g.L.DirectoryCalls.sight c.delete.ensures.unfused
