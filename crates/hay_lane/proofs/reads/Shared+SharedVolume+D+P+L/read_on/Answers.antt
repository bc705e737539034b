use Rattle.std.proofs.Common.{◌+◌, ◌%◌, ◌∷◌, ◌++◌, [], length, sym, ap, subst, ◌∙◌}
use Rattle.hay_holdings.specs.Volumes.{ChangedNothing}
use Rattle.hay_reader.specs.Causes.{ComeFirst}
use Rattle.hay_reader.proofs.Passing.{first_more}
use Rattle.hay_lane.specs.Lanes.{sight}
use Rattle.hay_lane.specs.Reads.{PassedFirst}
use Rattle.hay_lane.proofs.Arms.{later_on, later_same}
use Rattle.hay_lane.proofs.Maintained.{call_as}
use Rattle.hay_lane.proofs.Reading.{err_with, looked_again, row_tells, same_bytes, shown_by, sight_froze, sight_passed}
use Rattle.hay_lane.proofs.Stepping.{fetched}
use Rattle.hay_shared_volume.specs.Seats.{IsSeatOf, sight_of}
use Rattle.hay_lane.specs.Reads.{ShownWithin}
use Rattle.hay_lane.proofs.Suiting.{shown_by_row}
use Rattle.hay_lane.specs.Blames.{BlamesOn}
use Rattle.hay_lane.specs.Reads.{causes_in, causes_read}
use Rattle.hay_lane.proofs.Blaming.{passed_blames}
use Rattle.hay_lane.proofs.reads.Shared+SharedVolume+D+P+L.read_on.Goals as goal

pub show_more-read-requires-clause-first : goal.show_more-read-requires-clause-first
show_more-read-requires-clause-first g c =
    subst (λ l. ComeFirst c.args.first (length c.args.looked.row) l) (sym c.push.ensures)
    (subst (λ n. ComeFirst c.args.first n (c.args.causes ++ record { replica = c.args.replica; cause = c.in_ok-cause-in-Err.cause } ∷ [])) (sym c.requires.long)
    (first_more c.args.first c.args.self.now.settings.replicas c.args.causes (record { replica = c.args.replica; cause = c.in_ok-cause-in-Err.cause }) c.requires.next.order c.requires.next.next))

pub returns-in-Ok-clause-tells : goal.returns-in-Ok-clause-tells
returns-in-Ok-clause-tells g c start d a of has =
    let settings = c.args.self.now.settings in
    let drained = c.args.self.now.drained.items in
    let there = c.in-Ok.ensures.tells start of in
    let row = c.in-Ok.seen.row in
    let arm = fetched IsSeatOf g.L.DirectoryCalls.fits c.args.self.now c.args.tag.lane c.see_at.new.lane c.see_at.ensures.seated c.read_seen-read.new.arm
    sight_of g.L.DirectoryCalls.sight g.A.Arm.fault_count c.read_seen-read.ensures.later c.read_seen-read.ensures.most in
    let what = shown_by settings start drained c.args.tag c.args.pair d c.args.volume c.args.first (sight sight_of g.L.DirectoryCalls.sight g.A.Arm.fault_count c.see_at.new.lane) in
    let places = (there.is).1 in
    let again =
    looked_again settings start drained c.args.tag c.args.pair d c.args.volume c.args.first has.tells
    (call_as _ (ChangedNothing settings start c.args.volume c.args.tag) there (there.is).0) places in
    record {
      what = what;
      means = places.means;
      tells = row_tells settings start drained c.args.tag c.args.pair d c.args.volume c.args.first g.P.Piece.Tells (g.A.Arm.is_sure c.see_at.new.lane.arm) row
          c.in-Ok.ensures.long c.requires.seated.replicas what places.means c.args.cookie c.in-Ok.seen.front arm c.args.causes again c.read_seen-read.new.photo.items c.read_seen-read.result
          (c.read_seen-read.ensures.reads
          (same_bytes row c.as_slice.ensures.value (c.requires.next.next ∙ ap (λ n. (c.args.first + length c.args.causes) % n) (sym c.in-Ok.ensures.long)) (there.is).2));
    }

pub returns-in_ok-cause-in-Err-clause-tells : goal.returns-in_ok-cause-in-Err-clause-tells
returns-in_ok-cause-in-Err-clause-tells g c start d a of has =
    let settings = c.args.self.now.settings in
    let drained = c.args.self.now.drained.items in
    let m = sight sight_of g.L.DirectoryCalls.sight g.A.Arm.fault_count c.see_at.new.lane in
    let arm = fetched IsSeatOf g.L.DirectoryCalls.fits c.args.self.now c.args.tag.lane c.see_at.new.lane c.see_at.ensures.seated c.show_more-read.new.self
    sight_of g.L.DirectoryCalls.sight g.A.Arm.fault_count c.show_more-read.ensures.later c.show_more-read.ensures.most in
    let passed =
    sight_passed settings start drained c.args.tag c.args.pair d c.args.volume c.args.first has.tells g.row.P.Denot g.P.Piece.Tells c.see_at.new.out.items c.args.replica
    c.in-Err.fault c.in_ok-cause-in-Err.cause c.in_ok-cause-in-Err.ensures.is c.requires.next (c.in-Err.ensures.tells start of) in
    record {
      what = has.what;
      means = has.means;
      tells = row_tells settings start drained c.args.tag c.args.pair d c.args.volume c.args.first g.P.Piece.Tells (g.A.Arm.is_sure c.see_at.new.lane.arm) c.args.looked.row
          c.requires.long c.requires.seated.replicas has.what has.means c.args.cookie c.args.looked.front arm c.push.new.self
          (subst (λ l. PassedFirst settings start drained c.args.tag c.args.pair d c.args.volume c.args.first c.args.looked.front has.what l a m) (sym c.push.ensures) passed)
          c.show_more-read.new.out.items c.show_more-read.result c.show_more-read.ensures.reads;
    }

pub returns-in-Ok-clause-arm : goal.returns-in-Ok-clause-arm
returns-in-Ok-clause-arm g c = later_on (later_same c.see_at.ensures.arm) (record { rises = c.read_seen-read.ensures.later; sure = c.read_seen-read.ensures.stays_sure })

pub returns-in_ok-cause-in-Err-clause-arm : goal.returns-in_ok-cause-in-Err-clause-arm
returns-in_ok-cause-in-Err-clause-arm g c = later_on (later_same c.see_at.ensures.arm) (record { rises = c.show_more-read.ensures.later; sure = c.show_more-read.ensures.stays_sure })

pub returns-in_err-cause-in-Err-clause-arm : goal.returns-in_err-cause-in-Err-clause-arm
returns-in_err-cause-in-Err-clause-arm g c = later_same c.see_at.ensures.arm

pub returns-in-Ok-clause-shown : goal.returns-in-Ok-clause-shown
returns-in-Ok-clause-shown g c = subst (λ n. ShownWithin c.args.first n c.read_seen-read.result) c.in-Ok.ensures.long c.read_seen-read.ensures.shown

pub returns-in_ok-cause-in-Err-clause-shown : goal.returns-in_ok-cause-in-Err-clause-shown
returns-in_ok-cause-in-Err-clause-shown g c =
    shown_by_row g.P.Piece.Tells _ c.args.self.now.settings.replicas c.args.first c.args.looked.row c.args.cookie c.push.new.self c.show_more-read.new.out.items
    c.show_more-read.result c.requires.long c.requires.seated.replicas c.show_more-read.ensures.reads

pub returns-in-Ok-clause-blames : goal.returns-in-Ok-clause-blames
returns-in-Ok-clause-blames g c =
    subst (λ arm. BlamesOn g.A.Arm.is_sure g.A.Arm.fault_count arm c.read_seen-read.new.arm (causes_in c.args.causes) (causes_read c.read_seen-read.result)) c.see_at.ensures.arm
    c.read_seen-read.ensures.blames

pub returns-in_ok-cause-in-Err-clause-blames : goal.returns-in_ok-cause-in-Err-clause-blames
returns-in_ok-cause-in-Err-clause-blames g c =
    subst (λ arm. BlamesOn g.A.Arm.is_sure g.A.Arm.fault_count arm c.show_more-read.new.self (causes_in c.args.causes) (causes_read c.show_more-read.result)) c.see_at.ensures.arm
    (passed_blames g.A.Arm.is_sure g.A.Arm.fault_count g.P.Piece.Tells c.see_at.new.lane.arm c.show_more-read.new.self c.args.first c.args.looked.row c.args.cookie c.args.causes
    c.push.new.self c.show_more-read.new.out.items c.show_more-read.result c.args.replica c.in-Err.fault c.in_ok-cause-in-Err.cause c.in_ok-cause-in-Err.ensures.is c.push.ensures
    (record { rises = c.show_more-read.ensures.later; sure = c.show_more-read.ensures.stays_sure }) c.show_more-read.ensures.reads c.show_more-read.ensures.sure)

pub returns-in_err-cause-in-Err-clause-wanted : goal.returns-in_err-cause-in-Err-clause-wanted
returns-in_err-cause-in-Err-clause-wanted g c start d a of has =
    err_with c.from_residual.result
    (sight_froze c.args.self.now.settings start c.args.self.now.drained.items c.args.tag c.args.pair d c.args.volume c.args.first has.tells g.row.P.Denot g.P.Piece.Tells
    c.see_at.new.out.items c.args.replica c.in-Err.fault c.in_err-cause-in-Err.field-0.0 c.in_err-cause-in-Err.ensures.is (c.in-Err.ensures.tells start of))
