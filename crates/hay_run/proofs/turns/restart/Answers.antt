use Rattle.std.proofs.Common.{◌≡◌, ◌<◌, ◌^◌, inl, List, [], ◌∷◌, true, Some, refl, sym, ap, map, subst, arith}
use Rattle.std.specs.Prelude.{Err, slice_get}
use Rattle.std.specs.List.{AllByRecursion}
use Rattle.std.proofs.lemmas.Result.{on_ok_weaker, on_err_weaker}
use Rattle.hay_reply.specs.declared.Note.{Note}
use Rattle.hay_reply.specs.Fits.{FitsNote}
use Rattle.hay_disk.specs.Streams.{Wrote, WrotePart}
use Rattle.hay_script.specs.declared.Command.TheVariants as asks
use Rattle.hay_legal.specs.declared.turn.Item.TheVariants as item
use Rattle.hay_legal.specs.Items.Asked.{Alone}
use Rattle.hay_cluster.specs.Seen.{TellsSeen, store_seen}
use Rattle.hay_cluster.specs.State.{Stands, Holds}
use Rattle.hay_cluster.proofs.Standing.{stands_holds}
use Rattle.hay_cluster.proofs.Sure.{same_sure}
use Rattle.hay_run.specs.declared.stops.Stop.{Stop}
use Rattle.hay_run.specs.declared.stops.Stop.TheVariants as stop
use Rattle.hay_cluster.proofs.Formatted.{stands_formatted}
use Rattle.hay_run.proofs.Counting.{NoneFalls-kept}
use Rattle.hay_run.specs.Turns.{AnyTurn, IsGoingOn}
use Rattle.hay_run.specs.Causing.{tally_of, IsLaterTally, NotReopened, StopCaused}
use Rattle.hay_run.proofs.Causing.{caused_restart, part_stops, refused_stops}
use Rattle.hay_run.proofs.Turning.{on_either, restarted_goes_on}
use Rattle.hay_run.proofs.Restarting.{restarted, holds_counts, stands_counts, not_store, broke, refused, halts}
use Rattle.hay_run.proofs.turns.restart.Goals as goal

pub returns-in-Ok-clause-answers : goal.returns-in-Ok-clause-answers
returns-in-Ok-clause-answers g c =
    let D = g.D.Disk in
    let A = g.A.Arm in
    let large : c.rows.result < 2 ^ 64 = omega arith in
    on_ok_weaker c.write_restarted.result (λ wrote tells k stands.
    let done = c.in-Ok.ensures.reopened tells k stands in
    restarted (Stands D.files g.D.Piece.Piece.Tells D.fault_count D.fuse_count A.fault_count) IsGoingOn restarted_goes_on Wrote k done.0 c.args.number c.args.pick c.rows.result _
    c.in-Ok.notes c.as_slice.result.now
    (g.K.Sink.written c.args.sink.now) (g.K.Sink.written c.write_restarted.new.sink) c.restart.new.self
    done.1 large c.in-Ok.ensures.fits c.rows.ensures.count c.as_slice.ensures done.2 wrote)
    c.write_restarted.ensures.wrote

pub returns-in-Ok-clause-broke : goal.returns-in-Ok-clause-broke
returns-in-Ok-clause-broke g c = λ stopped.
    let D = g.D.Disk in
    let A = g.A.Arm in
    let large : c.rows.result < 2 ^ 64 = omega arith in
    inl (λ tells k stands.
    let done = c.in-Ok.ensures.reopened tells k stands in
    restarted (Holds D.files D.fault_count D.fuse_count A.fault_count) AnyTurn (λ line pick d notes after. tt) WrotePart k done.0 c.args.number c.args.pick c.rows.result _
    c.in-Ok.notes c.as_slice.result.now
    (g.K.Sink.written c.args.sink.now) (g.K.Sink.written c.write_restarted.new.sink) c.restart.new.self
    done.1 large c.in-Ok.ensures.fits c.rows.ensures.count c.as_slice.ensures (stands_holds D.files g.D.Piece.Piece.Tells D.fault_count D.fuse_count A.fault_count c.restart.new.self done.0 done.2)
    (on_either c.write_restarted.result stop.Output stop.NoMemory c.write_restarted.ensures.part stopped))

pub returns-in-Err-clause-broke : goal.returns-in-Err-clause-broke
returns-in-Err-clause-broke g c = λ stopped.
    let D = g.D.Disk in
    let A = g.A.Arm in
    broke D.Tells (Stands D.files g.D.Piece.Piece.Tells D.fault_count D.fuse_count A.fault_count) (Holds D.files D.fault_count D.fuse_count A.fault_count) D.files D.fault_count
    c.args.cluster.now c.restart.new.self
    c.args.number c.args.pick (g.K.Sink.written c.args.sink.now) (g.K.Sink.written c.refuse.new.sink) c.refuse.result
    c.in-Err.ensures.settings (λ k stands. stands_counts D.files g.D.Piece.Piece.Tells D.fault_count D.fuse_count A.fault_count c.args.cluster.now k stands)
    (λ t holds. holds_counts D.files D.fault_count D.fuse_count A.fault_count c.restart.new.self t holds)
    (λ tells k stands. let at = c.in-Err.ensures.left tells k stands in (at.known, at.leaves, at.holds))
    c.in-Err.fault c.in-Err.ensures.cause (λ tells k stands slot file at e. c.in-Err.ensures.whole tells k stands slot file at (ap (λ f. Err f) e))
    (not_store c.refuse.result stopped) c.refuse.ensures.wanting c.refuse.ensures.part

pub returns-in-Err-clause-refused : goal.returns-in-Err-clause-refused
returns-in-Err-clause-refused g c = λ stopped.
    let D = g.D.Disk in
    let A = g.A.Arm in
    let is_store : c.refuse.result ≡ stop.Store = cc in
    refused D.Tells (Stands D.files g.D.Piece.Piece.Tells D.fault_count D.fuse_count A.fault_count) (Holds D.files D.fault_count D.fuse_count A.fault_count) D.files D.fault_count
    c.args.cluster.now c.restart.new.self
    c.args.number c.args.pick (g.K.Sink.written c.args.sink.now) (g.K.Sink.written c.refuse.new.sink) c.refuse.result
    c.in-Err.ensures.settings (λ k stands. stands_counts D.files g.D.Piece.Piece.Tells D.fault_count D.fuse_count A.fault_count c.args.cluster.now k stands)
    (λ t holds. holds_counts D.files D.fault_count D.fuse_count A.fault_count c.restart.new.self t holds)
    (λ tells k stands. let at = c.in-Err.ensures.left tells k stands in (at.known, at.leaves, at.holds))
    c.in-Err.fault c.in-Err.ensures.cause (λ tells k stands slot file at e. c.in-Err.ensures.whole tells k stands slot file at (ap (λ f. Err f) e))
    (λ e. (c.refuse.ensures.wanting e).0 is_store) (c.refuse.ensures.told is_store)

pub returns-in-Err-clause-halted : goal.returns-in-Err-clause-halted
returns-in-Err-clause-halted g c = λ stopped.
    let D = g.D.Disk in
    let A = g.A.Arm in
    let is_store : c.refuse.result ≡ stop.Store = cc in
    halts D.Tells (Stands D.files g.D.Piece.Piece.Tells D.fault_count D.fuse_count A.fault_count) (Holds D.files D.fault_count D.fuse_count A.fault_count) D.files D.fault_count
    c.args.cluster.now c.restart.new.self
    c.args.number c.args.pick (g.K.Sink.written c.args.sink.now) (g.K.Sink.written c.refuse.new.sink) c.refuse.result
    c.in-Err.ensures.settings (λ k stands. stands_counts D.files g.D.Piece.Piece.Tells D.fault_count D.fuse_count A.fault_count c.args.cluster.now k stands)
    (λ t holds. holds_counts D.files D.fault_count D.fuse_count A.fault_count c.restart.new.self t holds)
    (λ tells k stands. let at = c.in-Err.ensures.left tells k stands in (at.known, at.leaves, at.holds))
    c.in-Err.fault c.in-Err.ensures.cause (λ tells k stands slot file at e. c.in-Err.ensures.whole tells k stands slot file at (ap (λ f. Err f) e))
    (λ tells slot file at e. (c.in-Err.ensures.damaged tells slot file at (ap (λ f. Err f) e), c.in-Err.ensures.damaged_first tells slot file at (ap (λ f. Err f) e)))
    (λ tells slot count e. c.in-Err.ensures.failed_first tells slot count (ap (λ f. Err f) e))
    (λ e. (c.refuse.ensures.wanting e).0 is_store) (c.refuse.ensures.told is_store)

pub returns-in-Ok-clause-arm_faults : goal.returns-in-Ok-clause-arm_faults
returns-in-Ok-clause-arm_faults g c =
    let A = g.A.Arm in
    NoneFalls-kept (map A.fault_count c.args.cluster.now.arms) (map A.fault_count c.restart.new.self.arms) (ap (map A.fault_count) c.in-Ok.ensures.arms)

pub returns-in-Err-clause-arm_faults : goal.returns-in-Err-clause-arm_faults
returns-in-Err-clause-arm_faults g c =
    let A = g.A.Arm in
    NoneFalls-kept (map A.fault_count c.args.cluster.now.arms) (map A.fault_count c.restart.new.self.arms) (ap (map A.fault_count) c.in-Err.ensures.arms)

pub returns-in-Ok-clause-sure_arms : goal.returns-in-Ok-clause-sure_arms
returns-in-Ok-clause-sure_arms g c = same_sure g.A.Arm.is_sure g.A.Arm.fault_count c.args.cluster.now.arms c.restart.new.self.arms c.in-Ok.ensures.arms

pub returns-in-Err-clause-sure_arms : goal.returns-in-Err-clause-sure_arms
returns-in-Err-clause-sure_arms g c = same_sure g.A.Arm.is_sure g.A.Arm.fault_count c.args.cluster.now.arms c.restart.new.self.arms c.in-Err.ensures.arms

-- what was written, and its causes

pub returns-in-Ok-clause-caused : goal.returns-in-Ok-clause-caused
returns-in-Ok-clause-caused g c =
    let D = g.D.Disk in
    let A = g.A.Arm in
    let large : c.rows.result < 2 ^ 64 = omega arith in
    let none : IsLaterTally (tally_of D.files D.drawn D.fault_count D.fuse_count A.fault_count A.is_sure c.args.cluster.now)
    (tally_of D.files D.drawn D.fault_count D.fuse_count A.fault_count A.is_sure c.restart.new.self) = (
      c.in-Ok.ensures.counts,
      NoneFalls-kept (map A.fault_count c.args.cluster.now.arms) (map A.fault_count c.restart.new.self.arms) (ap (map A.fault_count) c.in-Ok.ensures.arms),
      λ lane is. subst (λ arms. slice_get (map A.is_sure arms) lane ≡ Some true) (sym c.in-Ok.ensures.arms) is,
    ) in
    on_ok_weaker c.write_restarted.result (λ wrote.
    caused_restart g.D.Disk.Tells Wrote c.args.cluster.now.settings (tally_of D.files D.drawn D.fault_count D.fuse_count A.fault_count A.is_sure c.args.cluster.now)
    (tally_of D.files D.drawn D.fault_count D.fuse_count A.fault_count A.is_sure c.restart.new.self) c.args.number c.args.pick c.rows.result c.as_slice.result.now
    (g.K.Sink.written c.args.sink.now) (g.K.Sink.written c.write_restarted.new.sink) none c.in-Ok.ensures.fuses (ap (map A.fault_count) c.in-Ok.ensures.arms) large
    (subst (λ (l : List Note). TellsSeen c.args.cluster.now.settings (store_seen c.args.cluster.now) (store_seen c.restart.new.self) l) (sym c.as_slice.ensures) c.in-Ok.ensures.tells)
    (subst (λ (l : List Note). AllByRecursion FitsNote l) (sym c.as_slice.ensures) c.in-Ok.ensures.fits) c.in-Ok.ensures.opens c.rows.ensures.count
    (λ tells. let e = c.in-Ok.ensures in record { sound = e.sound tells; pending = e.told tells; reads = e.reads tells; reads_each = e.reads_each tells; live = e.live tells }) wrote)
    c.write_restarted.ensures.wrote

pub returns-in-Ok-clause-stop_caused : goal.returns-in-Ok-clause-stop_caused
returns-in-Ok-clause-stop_caused g c = λ why is.
    let D = g.D.Disk in
    let A = g.A.Arm in
    let large : c.rows.result < 2 ^ 64 = omega arith in
    let none : IsLaterTally (tally_of D.files D.drawn D.fault_count D.fuse_count A.fault_count A.is_sure c.args.cluster.now)
    (tally_of D.files D.drawn D.fault_count D.fuse_count A.fault_count A.is_sure c.restart.new.self) = (
      c.in-Ok.ensures.counts,
      NoneFalls-kept (map A.fault_count c.args.cluster.now.arms) (map A.fault_count c.restart.new.self.arms) (ap (map A.fault_count) c.in-Ok.ensures.arms),
      λ lane is. subst (λ arms. slice_get (map A.is_sure arms) lane ≡ Some true) (sym c.in-Ok.ensures.arms) is,
    ) in
    part_stops g.D.Disk.Tells c.args.cluster.now.settings (tally_of D.files D.drawn D.fault_count D.fuse_count A.fault_count A.is_sure c.args.cluster.now)
    (tally_of D.files D.drawn D.fault_count D.fuse_count A.fault_count A.is_sure c.restart.new.self) (Alone c.args.number (item.Command (asks.Restart c.args.pick)) ∷ [])
    (g.K.Sink.written c.args.sink.now) (g.K.Sink.written c.write_restarted.new.sink) c.write_restarted.result why is c.write_restarted.ensures.stops
    (on_err_weaker c.write_restarted.result (λ wrote.
    caused_restart g.D.Disk.Tells WrotePart c.args.cluster.now.settings (tally_of D.files D.drawn D.fault_count D.fuse_count A.fault_count A.is_sure c.args.cluster.now)
    (tally_of D.files D.drawn D.fault_count D.fuse_count A.fault_count A.is_sure c.restart.new.self) c.args.number c.args.pick c.rows.result c.as_slice.result.now
    (g.K.Sink.written c.args.sink.now) (g.K.Sink.written c.write_restarted.new.sink) none c.in-Ok.ensures.fuses (ap (map A.fault_count) c.in-Ok.ensures.arms) large
    (subst (λ (l : List Note). TellsSeen c.args.cluster.now.settings (store_seen c.args.cluster.now) (store_seen c.restart.new.self) l) (sym c.as_slice.ensures) c.in-Ok.ensures.tells)
    (subst (λ (l : List Note). AllByRecursion FitsNote l) (sym c.as_slice.ensures) c.in-Ok.ensures.fits) c.in-Ok.ensures.opens c.rows.ensures.count
    (λ tells. let e = c.in-Ok.ensures in record { sound = e.sound tells; pending = e.told tells; reads = e.reads tells; reads_each = e.reads_each tells; live = e.live tells }) wrote)
    c.write_restarted.ensures.part)

pub returns-in-Err-clause-stop_caused : goal.returns-in-Err-clause-stop_caused
returns-in-Err-clause-stop_caused g c = λ why is.
    let D = g.D.Disk in
    let A = g.A.Arm in
    let same : c.refuse.result ≡ why = cc in
    let back : NotReopened (tally_of D.files D.drawn D.fault_count D.fuse_count A.fault_count A.is_sure c.args.cluster.now)
    (tally_of D.files D.drawn D.fault_count D.fuse_count A.fault_count A.is_sure c.restart.new.self) (Alone c.args.number (item.Command (asks.Restart c.args.pick)) ∷ []) =
    record { restart = (c.args.number, c.args.pick, refl); disks = c.in-Err.ensures.counts; arms = ap (map A.fault_count) c.in-Err.ensures.arms; fuses = c.in-Err.ensures.fuses } in
    let P : Stop → Type 0 =
    λ w. StopCaused g.D.Disk.Tells c.args.cluster.now.settings (tally_of D.files D.drawn D.fault_count D.fuse_count A.fault_count A.is_sure c.args.cluster.now)
    (tally_of D.files D.drawn D.fault_count D.fuse_count A.fault_count A.is_sure c.restart.new.self) w (Alone c.args.number (item.Command (asks.Restart c.args.pick)) ∷ [])
    (g.K.Sink.written c.args.sink.now) (g.K.Sink.written c.refuse.new.sink) in
    subst P same
    (refused_stops g.D.Disk.Tells c.args.cluster.now.settings (tally_of D.files D.drawn D.fault_count D.fuse_count A.fault_count A.is_sure c.args.cluster.now)
    (tally_of D.files D.drawn D.fault_count D.fuse_count A.fault_count A.is_sure c.restart.new.self) c.args.number c.args.pick
    (g.K.Sink.written c.args.sink.now) (g.K.Sink.written c.refuse.new.sink) c.refuse.result back
    c.in-Err.fault c.refuse.ensures.fits c.in-Err.ensures.cause (λ tells slot count e. c.in-Err.ensures.failed_first tells slot count (ap (λ f. Err f) e))
    (λ tells slot file at e. (c.in-Err.ensures.damaged tells slot file at (ap (λ f. Err f) e), c.in-Err.ensures.damaged_first tells slot file at (ap (λ f. Err f) e)))
    c.refuse.ensures.wanting c.refuse.ensures.told c.refuse.ensures.part c.refuse.ensures.stops)

-- none of its disks is void

pub returns-in-Ok-clause-formatted : goal.returns-in-Ok-clause-formatted
returns-in-Ok-clause-formatted g c = λ tells k stands.
    let done = c.in-Ok.ensures.reopened tells k stands in
    stands_formatted g.D.Disk.files (λ disk n. g.met.D.Disk.may_leave_now disk n tells)
    g.D.Piece.Piece.Tells g.D.Disk.fault_count g.D.Disk.fuse_count g.A.Arm.fault_count c.restart.new.self done.0 done.2

pub returns-in-Err-clause-formatted : goal.returns-in-Err-clause-formatted
returns-in-Err-clause-formatted g c = λ tells k stands. c.in-Err.ensures.formatted tells k stands
