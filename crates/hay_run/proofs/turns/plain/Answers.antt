use Rattle.std.proofs.Common.{[], ◌∷◌}
use Rattle.std.proofs.lemmas.Result.{on_ok_weaker, on_err_weaker}
use Rattle.hay_disk.specs.Streams.{Wrote, WrotePart}
use Rattle.hay_cluster.specs.State.{Stands, Holds}
use Rattle.hay_cluster.proofs.Standing.{stands_holds}
use Rattle.hay_run.specs.Turns.{AnyTurn, IsGoingOn}
use Rattle.hay_run.specs.Causing.{tally_of}
use Rattle.hay_cluster.proofs.Formatted.{stands_formatted}
use Rattle.hay_run.proofs.Counting.{StaySure-lanes}
use Rattle.hay_run.proofs.Causing.{caused_reply, part_stops}
use Rattle.hay_run.proofs.Turning.{answers_plain, plain_goes_on}
use Rattle.hay_legal.specs.declared.turn.Item.TheVariants as item
use Rattle.hay_legal.specs.Items.Asked.{Alone}
use Rattle.hay_run.proofs.turns.plain.Goals as goal

pub returns-clause-answers : goal.returns-clause-answers
returns-clause-answers g c =
    let D = g.D.Disk in
    let A = g.A.Arm in
    on_ok_weaker c.write_reply.result (λ wrote tells k stands.
    let answered = c.answer-reply.ensures.legal tells k stands in
    answers_plain (Stands D.files g.D.Piece.Piece.Tells D.fault_count D.fuse_count A.fault_count) IsGoingOn plain_goes_on Wrote k answered.known c.args.number c.args.command.now c.answer-reply.result
    (g.K.Sink.written c.args.sink.now) (g.K.Sink.written c.write_reply.new.sink) c.answer-reply.new.self
    c.answer-reply.ensures.fits answered.legal answered.stands wrote)
    c.write_reply.ensures.wrote

pub returns-clause-part : goal.returns-clause-part
returns-clause-part g c =
    let D = g.D.Disk in
    let A = g.A.Arm in
    on_err_weaker c.write_reply.result (λ wrote tells k stands.
    let answered = c.answer-reply.ensures.legal tells k stands in
    answers_plain (Holds D.files D.fault_count D.fuse_count A.fault_count) AnyTurn (λ line item reply after. tt) WrotePart k answered.known c.args.number c.args.command.now c.answer-reply.result
    (g.K.Sink.written c.args.sink.now) (g.K.Sink.written c.write_reply.new.sink) c.answer-reply.new.self
    c.answer-reply.ensures.fits answered.legal (stands_holds D.files g.D.Piece.Piece.Tells D.fault_count D.fuse_count A.fault_count c.answer-reply.new.self answered.known answered.stands) wrote)
    c.write_reply.ensures.part

pub returns-clause-caused : goal.returns-clause-caused
returns-clause-caused g c =
    let D = g.D.Disk in
    let A = g.A.Arm in
    on_ok_weaker c.write_reply.result (λ wrote.
    caused_reply g.D.Disk.Tells Wrote c.args.cluster.now.settings (tally_of D.files D.drawn D.fault_count D.fuse_count A.fault_count A.is_sure c.args.cluster.now)
    (tally_of D.files D.drawn D.fault_count D.fuse_count A.fault_count A.is_sure c.answer-reply.new.self) c.args.number c.args.command.now c.answer-reply.result
    (g.K.Sink.written c.args.sink.now) (g.K.Sink.written c.write_reply.new.sink) c.requires.goes_on
    (c.answer-reply.ensures.counts, c.answer-reply.ensures.arm_counts, StaySure-lanes A.is_sure A.fault_count c.args.cluster.now.arms c.answer-reply.new.self.arms c.answer-reply.ensures.sure_arms)
    c.answer-reply.ensures.fuses c.answer-reply.ensures.fits c.answer-reply.ensures.suits c.answer-reply.ensures.causes
    c.answer-reply.ensures.passes c.answer-reply.ensures.seen c.answer-reply.ensures.sights c.answer-reply.ensures.ended c.answer-reply.ensures.contents
    c.answer-reply.ensures.damaged c.answer-reply.ensures.told wrote)
    c.write_reply.ensures.wrote

pub returns-clause-stop_caused : goal.returns-clause-stop_caused
returns-clause-stop_caused g c = λ why is.
    let D = g.D.Disk in
    let A = g.A.Arm in
    part_stops g.D.Disk.Tells c.args.cluster.now.settings (tally_of D.files D.drawn D.fault_count D.fuse_count A.fault_count A.is_sure c.args.cluster.now)
    (tally_of D.files D.drawn D.fault_count D.fuse_count A.fault_count A.is_sure c.answer-reply.new.self) (Alone c.args.number (item.Command c.args.command.now) ∷ [])
    (g.K.Sink.written c.args.sink.now) (g.K.Sink.written c.write_reply.new.sink) c.write_reply.result why is c.write_reply.ensures.stops
    (on_err_weaker c.write_reply.result (λ wrote.
    caused_reply g.D.Disk.Tells WrotePart c.args.cluster.now.settings (tally_of D.files D.drawn D.fault_count D.fuse_count A.fault_count A.is_sure c.args.cluster.now)
    (tally_of D.files D.drawn D.fault_count D.fuse_count A.fault_count A.is_sure c.answer-reply.new.self) c.args.number c.args.command.now c.answer-reply.result
    (g.K.Sink.written c.args.sink.now) (g.K.Sink.written c.write_reply.new.sink) c.requires.goes_on
    (c.answer-reply.ensures.counts, c.answer-reply.ensures.arm_counts, StaySure-lanes A.is_sure A.fault_count c.args.cluster.now.arms c.answer-reply.new.self.arms c.answer-reply.ensures.sure_arms)
    c.answer-reply.ensures.fuses c.answer-reply.ensures.fits c.answer-reply.ensures.suits c.answer-reply.ensures.causes
    c.answer-reply.ensures.passes c.answer-reply.ensures.seen c.answer-reply.ensures.sights c.answer-reply.ensures.ended c.answer-reply.ensures.contents
    c.answer-reply.ensures.damaged c.answer-reply.ensures.told wrote)
    c.write_reply.ensures.part)

-- none of its disks is void

pub returns-clause-formatted : goal.returns-clause-formatted
returns-clause-formatted g c = λ tells k stands.
    let answered = c.answer-reply.ensures.legal tells k stands in
    stands_formatted g.D.Disk.files (λ disk n. g.met.D.Disk.may_leave_now disk n tells)
    g.D.Piece.Piece.Tells g.D.Disk.fault_count g.D.Disk.fuse_count g.A.Arm.fault_count c.answer-reply.new.self answered.known answered.stands
