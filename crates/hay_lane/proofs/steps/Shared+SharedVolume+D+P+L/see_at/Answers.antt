use Rattle.hay_shared_volume.specs.Looks.{SeeTells}
use Rattle.hay_lane.proofs.Stepping.{fits_here, seat_at, stepped, still_of, still_seated, still_unfused}
use Rattle.hay_shared_volume.specs.Seats.{IsSeatOf, WasAt, sight_of}
use Rattle.hay_lane.proofs.steps.Shared+SharedVolume+D+P+L.see_at.Goals as goal

pub see-requires : goal.see-requires
see-requires g c = record {
  fits = (
    c.args.volume,
    c.args.self.now.settings,
    fits_here IsSeatOf g.L.DirectoryCalls.fits c.args.self.now c.args.tag.lane c.args.lane.now c.requires.seated
        c.args.volume c.requires.volume c.as_slice.ensures.value c.as_mut_slice.ensures.value c.index-as_slice-volume.result c.index-as_mut_slice-volume.result
        c.index-as_slice-volume.result c.index-as_slice-volume.is,
    c.requires.replica,
  );
  empty = c.requires.empty;
}

pub returns-clause-seated : goal.returns-clause-seated
returns-clause-seated g c =
    still_seated IsSeatOf g.L.DirectoryCalls.fits c.args.self.now c.args.tag.lane c.args.lane.now c.requires.seated
    c.args.volume c.requires.volume c.as_slice.ensures.value c.as_mut_slice.ensures.value c.index-as_slice-volume.result c.index-as_mut_slice-volume.result
    c.index-as_slice-volume.result c.index-as_slice-volume.is c.see.new.seat (WasAt g.D.Disk.Tells g.D.Disk.files g.P.Piece.Tells g.D.Disk.fault_count g.D.Disk.fuse_count)
    (c.see.ensures.stays c.args.volume)

pub returns-clause-same : goal.returns-clause-same
returns-clause-same g c =
    still_of IsSeatOf g.L.DirectoryCalls.fits c.args.self.now c.args.tag.lane c.args.lane.now c.requires.seated
    c.args.volume c.requires.volume c.as_slice.ensures.value c.as_mut_slice.ensures.value c.index-as_slice-volume.result c.index-as_mut_slice-volume.result
    c.index-as_slice-volume.result c.index-as_slice-volume.is c.see.new.seat (WasAt g.D.Disk.Tells g.D.Disk.files g.P.Piece.Tells g.D.Disk.fault_count g.D.Disk.fuse_count)
    (c.see.ensures.stays c.args.volume) g.L.DirectoryCalls.is_at c.args.self.now.settings

pub returns-clause-tells : goal.returns-clause-tells
returns-clause-tells g c start of =
    stepped IsSeatOf g.L.DirectoryCalls.fits c.args.self.now c.args.tag.lane c.args.lane.now c.requires.seated
    c.args.volume c.requires.volume c.as_slice.ensures.value c.as_mut_slice.ensures.value c.index-as_slice-volume.result c.index-as_mut_slice-volume.result
    c.index-as_slice-volume.result c.index-as_slice-volume.is c.see.new.seat sight_of g.L.DirectoryCalls.sight g.A.Arm.fault_count
    (SeeTells g.P.Piece.Tells (record { settings = c.args.self.now.settings; start = start; number = c.args.volume }) c.args.pair c.args.tag c.args.replica c.see.new.out.items c.see.result)
    (c.see.ensures.tells (record { settings = c.args.self.now.settings; start = start; number = c.args.volume })
    (of.each c.args.volume _ (seat_at IsSeatOf g.L.DirectoryCalls.fits c.args.self.now c.args.tag.lane c.args.lane.now c.requires.seated
    c.args.volume c.requires.volume c.as_slice.ensures.value c.as_mut_slice.ensures.value c.index-as_slice-volume.result c.index-as_mut_slice-volume.result)))

pub returns-clause-long : goal.returns-clause-long
returns-clause-long g c = c.see.ensures.long c.args.volume c.args.self.now.settings c.args.tag.lane
    (fits_here IsSeatOf g.L.DirectoryCalls.fits c.args.self.now c.args.tag.lane c.args.lane.now c.requires.seated
    c.args.volume c.requires.volume c.as_slice.ensures.value c.as_mut_slice.ensures.value c.index-as_slice-volume.result c.index-as_mut_slice-volume.result
    c.index-as_slice-volume.result c.index-as_slice-volume.is)

pub returns-clause-unfused : goal.returns-clause-unfused
returns-clause-unfused g c =
    still_unfused IsSeatOf g.L.DirectoryCalls.fits c.args.self.now c.args.tag.lane c.args.lane.now c.requires.seated
    c.args.volume c.requires.volume c.as_slice.ensures.value c.as_mut_slice.ensures.value c.index-as_slice-volume.result c.index-as_mut_slice-volume.result
    c.index-as_slice-volume.result c.index-as_slice-volume.is c.see.new.seat sight_of g.L.DirectoryCalls.sight c.see.ensures.unfused
