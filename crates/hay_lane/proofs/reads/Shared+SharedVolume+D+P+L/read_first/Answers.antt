use Rattle.std.proofs.Common.{[], subst}
use Rattle.hay_lane.specs.Lanes.{sight}
use Rattle.hay_lane.proofs.Arms.{later_on, later_same}
use Rattle.hay_lane.proofs.Reading.{looked_first, row_tells, shown_by}
use Rattle.hay_lane.proofs.Stepping.{fetched}
use Rattle.hay_shared_volume.specs.Seats.{IsSeatOf, sight_of}
use Rattle.hay_lane.proofs.Suiting.{shown_by_row}
use Rattle.hay_lane.specs.Blames.{Blames}
use Rattle.hay_lane.specs.Reads.{causes_read}
use Rattle.hay_lane.proofs.Blaming.{first_blames}
use Rattle.hay_lane.proofs.reads.Shared+SharedVolume+D+P+L.read_first.Goals as goal

pub returns-clause-tells : goal.returns-clause-tells
returns-clause-tells g c start d a of sees =
    let settings = c.args.self.now.settings in
    let drained = c.args.self.now.drained.items in
    let there = c.look_at-looked.ensures.tells start of in
    let arm = fetched IsSeatOf g.L.DirectoryCalls.fits c.args.self.now c.args.tag.lane c.look_at-looked.new.lane c.look_at-looked.ensures.seated c.show-read.new.self
    sight_of g.L.DirectoryCalls.sight g.A.Arm.fault_count c.show-read.ensures.later c.show-read.ensures.most in
    let what = shown_by settings start drained c.args.tag c.args.pair d c.args.volume c.args.first (sight sight_of g.L.DirectoryCalls.sight g.A.Arm.fault_count c.look_at-looked.new.lane) in
    record {
      what = what;
      means = ((there.is).1).means;
      tells = row_tells settings start drained c.args.tag c.args.pair d c.args.volume c.args.first g.P.Piece.Tells (g.A.Arm.is_sure c.look_at-looked.new.lane.arm) c.look_at-looked.result.row
          c.look_at-looked.ensures.long c.requires.seated.replicas what ((there.is).1).means c.args.cookie c.look_at-looked.result.front arm []
          (looked_first settings start drained c.args.tag c.args.pair d c.args.volume c.args.first sees there) c.show-read.new.out.items c.show-read.result c.show-read.ensures.reads;
    }

pub returns-clause-arm : goal.returns-clause-arm
returns-clause-arm g c = later_on (later_same c.look_at-looked.ensures.arm) (record { rises = c.show-read.ensures.later; sure = c.show-read.ensures.stays_sure })

pub returns-clause-shown : goal.returns-clause-shown
returns-clause-shown g c =
    shown_by_row g.P.Piece.Tells _ c.args.self.now.settings.replicas c.args.first c.look_at-looked.result.row c.args.cookie [] c.show-read.new.out.items c.show-read.result
    c.look_at-looked.ensures.long c.requires.seated.replicas c.show-read.ensures.reads

pub returns-clause-blames : goal.returns-clause-blames
returns-clause-blames g c =
    subst (λ arm. Blames g.A.Arm.is_sure g.A.Arm.fault_count arm c.show-read.new.self (causes_read c.show-read.result)) c.look_at-looked.ensures.arm
    (first_blames g.A.Arm.is_sure g.A.Arm.fault_count g.P.Piece.Tells c.look_at-looked.new.lane.arm c.show-read.new.self c.args.first c.look_at-looked.result.row c.args.cookie
    c.show-read.new.out.items c.show-read.result (record { rises = c.show-read.ensures.later; sure = c.show-read.ensures.stays_sure }) c.show-read.ensures.reads
    c.show-read.ensures.sure)
