use Rattle.std.proofs.Common.{refl, ◌≡◌, inl, [], ◌∷◌, map}
use Rattle.std.proofs.lemmas.Result.{on_ok_weaker, on_err_weaker}
use Rattle.hay_disk.specs.Streams.{Wrote, WrotePart}
use Rattle.hay_legal.specs.declared.turn.Item.TheVariants as item
use Rattle.hay_legal.specs.Items.{outside}
use Rattle.hay_legal.specs.Items.Asked.{Alone}
use Rattle.hay_cluster.specs.State.{Stands, Holds}
use Rattle.hay_cluster.proofs.Standing.{stands_holds}
use Rattle.hay_cluster.proofs.Sure.{same_sure}
use Rattle.hay_run.specs.declared.stops.Stop.TheVariants as stop
use Rattle.hay_cluster.specs.Store.{disks_of}
use Rattle.hay_cluster.proofs.Formatted.{stands_formatted}
use Rattle.hay_run.proofs.Asking.{outside-bad, outside-none}
use Rattle.hay_run.proofs.Counting.{NoneFalls-same}
use Rattle.hay_run.specs.Turns.{AnyTurn, IsGoingOn}
use Rattle.hay_run.specs.Causing.{tally_of}
use Rattle.hay_reply.specs.Replies.{numbered_line}
use Rattle.hay_reply.specs.declared.Reply.TheVariants.{BadLine}
use Rattle.hay_run.proofs.Causing.{caused_nothing, caused_one, part_stops, same_tally}
use Rattle.hay_run.proofs.Turning.{answers_bad, on_either, plain_goes_on}
use Rattle.hay_run.proofs.turns.respond.Goals as goal

pub returns-clause-answers : goal.returns-clause-answers
returns-clause-answers g c =
    let D = g.D.Disk in
    let A = g.A.Arm in
    let says : (outside c.args.number c.args.said).0 ≡ Alone c.args.number item.Bad ∷ [] = outside-bad c.args.number c.args.said c.in-Bad.is in
    rw says
    (on_ok_weaker c.write_reply.result (λ wrote tells k stands.
    answers_bad (Stands D.files g.D.Piece.Piece.Tells D.fault_count D.fuse_count A.fault_count) IsGoingOn plain_goes_on Wrote k c.args.number
    (g.K.Sink.written c.args.sink.now) (g.K.Sink.written c.write_reply.new.sink) c.args.cluster.now stands wrote)
    c.write_reply.ensures.wrote)

pub returns-clause-broke : goal.returns-clause-broke
returns-clause-broke g c = λ stopped.
    let D = g.D.Disk in
    let A = g.A.Arm in
    let says : (outside c.args.number c.args.said).0 ≡ Alone c.args.number item.Bad ∷ [] = outside-bad c.args.number c.args.said c.in-Bad.is in
    rw says
    (inl (λ tells k stands.
    answers_bad (Holds D.files D.fault_count D.fuse_count A.fault_count) AnyTurn (λ line item reply after. tt) WrotePart k c.args.number
    (g.K.Sink.written c.args.sink.now) (g.K.Sink.written c.write_reply.new.sink) c.args.cluster.now
    (stands_holds D.files g.D.Piece.Piece.Tells D.fault_count D.fuse_count A.fault_count c.args.cluster.now k stands)
    (on_either c.write_reply.result stop.Output stop.NoMemory c.write_reply.ensures.part stopped)))

pub returns-in-Plain-Restart-clause-broke : goal.returns-in-Plain-Restart-clause-broke
returns-in-Plain-Restart-clause-broke g c = λ stopped. rw (c.in-Plain-Restart.is, c.in-Plain-Restart.field-0-is) (c.restart.ensures.broke stopped)

pub returns-in-Skip-clause-faults : goal.returns-in-Skip-clause-faults
returns-in-Skip-clause-faults g c = NoneFalls-same (map g.D.Disk.fault_count (disks_of c.args.cluster.now))

pub returns-in-Skip-clause-arm_faults : goal.returns-in-Skip-clause-arm_faults
returns-in-Skip-clause-arm_faults g c = NoneFalls-same (map g.A.Arm.fault_count c.args.cluster.now.arms)

pub returns-clause-faults : goal.returns-clause-faults
returns-clause-faults g c = NoneFalls-same (map g.D.Disk.fault_count (disks_of c.args.cluster.now))

pub returns-clause-arm_faults : goal.returns-clause-arm_faults
returns-clause-arm_faults g c = NoneFalls-same (map g.A.Arm.fault_count c.args.cluster.now.arms)

pub returns-in-Skip-clause-sure_arms : goal.returns-in-Skip-clause-sure_arms
returns-in-Skip-clause-sure_arms g c = same_sure g.A.Arm.is_sure g.A.Arm.fault_count c.args.cluster.now.arms c.args.cluster.now.arms refl

pub returns-clause-sure_arms : goal.returns-clause-sure_arms
returns-clause-sure_arms g c = same_sure g.A.Arm.is_sure g.A.Arm.fault_count c.args.cluster.now.arms c.args.cluster.now.arms refl

-- what was written, and its causes

pub returns-in-Plain-Restart-clause-stop_caused : goal.returns-in-Plain-Restart-clause-stop_caused
returns-in-Plain-Restart-clause-stop_caused g c = λ why is. rw (c.in-Plain-Restart.is, c.in-Plain-Restart.field-0-is) (c.restart.ensures.stop_caused why is)

pub returns-clause-caused : goal.returns-clause-caused
returns-clause-caused g c =
    let D = g.D.Disk in
    let A = g.A.Arm in
    let says : (outside c.args.number c.args.said).0 ≡ Alone c.args.number item.Bad ∷ [] = outside-bad c.args.number c.args.said c.in-Bad.is in
    rw says
    (on_ok_weaker c.write_reply.result (λ wrote.
    caused_one g.D.Disk.Tells Wrote c.args.cluster.now.settings (tally_of D.files D.drawn D.fault_count D.fuse_count A.fault_count A.is_sure c.args.cluster.now)
    (tally_of D.files D.drawn D.fault_count D.fuse_count A.fault_count A.is_sure c.args.cluster.now) (Alone c.args.number item.Bad) (numbered_line c.args.number BadLine)
    (g.K.Sink.written c.args.sink.now) (g.K.Sink.written c.write_reply.new.sink) (same_tally
    (tally_of D.files D.drawn D.fault_count D.fuse_count A.fault_count A.is_sure c.args.cluster.now)) (refl, refl) wrote)
    c.write_reply.ensures.wrote)

pub returns-clause-stop_caused : goal.returns-clause-stop_caused
returns-clause-stop_caused g c = λ why is.
    let D = g.D.Disk in
    let A = g.A.Arm in
    let says : (outside c.args.number c.args.said).0 ≡ Alone c.args.number item.Bad ∷ [] = outside-bad c.args.number c.args.said c.in-Bad.is in
    rw says
    (part_stops g.D.Disk.Tells c.args.cluster.now.settings (tally_of D.files D.drawn D.fault_count D.fuse_count A.fault_count A.is_sure c.args.cluster.now)
    (tally_of D.files D.drawn D.fault_count D.fuse_count A.fault_count A.is_sure c.args.cluster.now) (Alone c.args.number item.Bad ∷ [])
    (g.K.Sink.written c.args.sink.now) (g.K.Sink.written c.write_reply.new.sink) c.write_reply.result why is c.write_reply.ensures.stops
    (on_err_weaker c.write_reply.result (λ wrote.
    caused_one g.D.Disk.Tells WrotePart c.args.cluster.now.settings (tally_of D.files D.drawn D.fault_count D.fuse_count A.fault_count A.is_sure c.args.cluster.now)
    (tally_of D.files D.drawn D.fault_count D.fuse_count A.fault_count A.is_sure c.args.cluster.now) (Alone c.args.number item.Bad) (numbered_line c.args.number BadLine)
    (g.K.Sink.written c.args.sink.now) (g.K.Sink.written c.write_reply.new.sink) (same_tally
    (tally_of D.files D.drawn D.fault_count D.fuse_count A.fault_count A.is_sure c.args.cluster.now)) (refl, refl) wrote)
    c.write_reply.ensures.part))

pub returns-in-Skip-clause-caused : goal.returns-in-Skip-clause-caused
returns-in-Skip-clause-caused g c =
    let D = g.D.Disk in
    let A = g.A.Arm in
    let says : (outside c.args.number c.args.said).0 ≡ [] = outside-none c.args.number c.args.said c.in-Skip.is in
    rw says (caused_nothing g.D.Disk.Tells c.args.cluster.now.settings (tally_of D.files D.drawn D.fault_count D.fuse_count A.fault_count A.is_sure c.args.cluster.now)
    (g.K.Sink.written c.args.sink.now))

-- none of its disks is void

pub returns-in-Skip-clause-formatted : goal.returns-in-Skip-clause-formatted
returns-in-Skip-clause-formatted g c = λ tells k stands.
    stands_formatted g.D.Disk.files (λ disk n. g.met.D.Disk.may_leave_now disk n tells) g.D.Piece.Piece.Tells g.D.Disk.fault_count g.D.Disk.fuse_count g.A.Arm.fault_count c.args.cluster.now k stands

pub returns-clause-formatted : goal.returns-clause-formatted
returns-clause-formatted g c = λ tells k stands.
    stands_formatted g.D.Disk.files (λ disk n. g.met.D.Disk.may_leave_now disk n tells) g.D.Piece.Piece.Tells g.D.Disk.fault_count g.D.Disk.fuse_count g.A.Arm.fault_count c.args.cluster.now k stands
