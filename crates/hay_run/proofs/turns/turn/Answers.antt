use Rattle.std.proofs.Common.{◌≡◌, ◌⊎◌, ◌∙◌, inl, inr, ℕ, None, ap, map, refl}
use Rattle.std.specs.Prelude.{Err, IsErrOf, Result}
use Rattle.hay_disk.specs.Streams.{Wrote}
use Rattle.hay_cluster.specs.State.{Stands, Holds}
use Rattle.hay_cluster.specs.Store.{disks_of}
use Rattle.hay_cluster.proofs.Formatted.{stands_formatted}
use Rattle.hay_cluster.proofs.Sure.{same_sure}
use Rattle.hay_lines.specs.Stream.{rest_of}
use Rattle.hay_run.specs.declared.stops.Stop.{Stop}
use Rattle.hay_run.specs.declared.stops.Stop.TheVariants as stop
use Rattle.hay_run.specs.Causing.{tally_of}
use Rattle.hay_run.specs.Reads.{items_asked}
use Rattle.hay_run.proofs.Asking.{some_items}
use Rattle.hay_run.proofs.Causing.{item_stops, reading_stops}
use Rattle.hay_run.proofs.Counting.{NoneFalls-same}
use Rattle.hay_run.proofs.Serving.{read_stop}
use Rattle.hay_run.proofs.Stopping.{asked-one, broke_asked, not_answering, not_reading, refused_asked}
use Rattle.hay_run.proofs.turns.turn.Goals as goal

-- its answer stopped the run

pub returns-in-Err-outcome-clause-output : goal.returns-in-Err-outcome-clause-output
returns-in-Err-outcome-clause-output g c = λ is.
    let left = g.S.Source.left in
    let D = g.D.Disk in
    broke_asked D.Tells (Stands D.files g.D.Piece.Piece.Tells D.fault_count D.fuse_count g.A.Arm.fault_count) (Holds D.files D.fault_count D.fuse_count g.A.Arm.fault_count)
    c.args.number c.in-Ok.next (items_asked c.args.number c.in-Ok.read)
    c.args.cluster c.answer-cluster.result.0 (g.K.Sink.written c.args.sink.now) (g.K.Sink.written c.answer-cluster.new.sink) (rest_of (left c.args.source.now) c.args.script.now)
    (rest_of (left c.read_turn.new.source) c.read_turn.new.script) c.read_turn.new.script.ended
    (asked-one c.args.number c.in-Ok.read) c.in-Ok.ensures.took (c.answer-cluster.ensures.broke
    (let same : c.in-Err-outcome.stop ≡ stop.Output = cc in c.in-Err-outcome.is ∙ ap (λ (w : Stop). Err w) same))

pub returns-in-Err-outcome-clause-memory : goal.returns-in-Err-outcome-clause-memory
returns-in-Err-outcome-clause-memory g c = λ is.
    let left = g.S.Source.left in
    let D = g.D.Disk in
    let before = rest_of (left c.args.source.now) c.args.script.now in
    let after = rest_of (left c.read_turn.new.source) c.read_turn.new.script in
    elim (c.answer-cluster.ensures.memory (let same : c.in-Err-outcome.stop ≡ stop.NoMemory = cc in c.in-Err-outcome.is ∙ ap (λ (w : Stop). Err w) same)) [
      | inl broke ↦ inr (broke_asked D.Tells (Stands D.files g.D.Piece.Piece.Tells D.fault_count D.fuse_count g.A.Arm.fault_count)
          (Holds D.files D.fault_count D.fuse_count g.A.Arm.fault_count) c.args.number c.in-Ok.next (items_asked c.args.number c.in-Ok.read)
          c.args.cluster c.answer-cluster.result.0 (g.K.Sink.written c.args.sink.now) (g.K.Sink.written c.answer-cluster.new.sink) before after c.read_turn.new.script.ended
          (asked-one c.args.number c.in-Ok.read) c.in-Ok.ensures.took broke)
      | inr kept ↦ inl (some_items c.args.number None before after (items_asked c.args.number c.in-Ok.read) c.in-Ok.next c.read_turn.new.script.ended c.in-Ok.ensures.took, kept.0, kept.1)
    ]

pub returns-in-Err-outcome-clause-store : goal.returns-in-Err-outcome-clause-store
returns-in-Err-outcome-clause-store g c = λ is.
    let left = g.S.Source.left in
    let D = g.D.Disk in
    refused_asked D.Tells Wrote (Stands D.files g.D.Piece.Piece.Tells D.fault_count D.fuse_count g.A.Arm.fault_count) (Holds D.files D.fault_count D.fuse_count g.A.Arm.fault_count)
    c.args.number c.in-Ok.next (items_asked c.args.number c.in-Ok.read)
    c.args.cluster c.answer-cluster.result.0 (g.K.Sink.written c.args.sink.now) (g.K.Sink.written c.answer-cluster.new.sink) (rest_of (left c.args.source.now) c.args.script.now)
    (rest_of (left c.read_turn.new.source) c.read_turn.new.script) c.read_turn.new.script.ended
    c.in-Ok.ensures.took (c.answer-cluster.ensures.refused (let same : c.in-Err-outcome.stop ≡ stop.Store = cc in c.in-Err-outcome.is ∙ ap (λ (w : Stop). Err w) same))

pub returns-in-Err-outcome-clause-stop_caused : goal.returns-in-Err-outcome-clause-stop_caused
returns-in-Err-outcome-clause-stop_caused g c = λ why is.
    let left = g.S.Source.left in
    let D = g.D.Disk in
    let A = g.A.Arm in
    let same : c.answer-cluster.result.1 ≡ Err why = (let one : c.in-Err-outcome.stop ≡ why = cc in c.in-Err-outcome.is ∙ ap (λ (w : Stop). Err w) one) in
    item_stops D.Tells c.args.cluster.settings (tally_of D.files D.drawn D.fault_count D.fuse_count A.fault_count A.is_sure c.args.cluster)
    (tally_of D.files D.drawn D.fault_count D.fuse_count A.fault_count A.is_sure c.answer-cluster.result.0)
    c.args.number (items_asked c.args.number c.in-Ok.read) (rest_of (left c.args.source.now) c.args.script.now) (rest_of (left c.read_turn.new.source) c.read_turn.new.script)
    (g.K.Sink.written c.args.sink.now) (g.K.Sink.written c.answer-cluster.new.sink)
    c.answer-cluster.result.1 why same (asked-one c.args.number c.in-Ok.read, (c.in-Ok.next, c.read_turn.new.script.ended, c.in-Ok.ensures.took)) c.answer-cluster.ensures.stops
    (c.answer-cluster.ensures.stop_caused why same)

pub returns-in-Err-outcome-clause-none_held : goal.returns-in-Err-outcome-clause-none_held
returns-in-Err-outcome-clause-none_held g c = λ is. absurd (not_reading c.answer-cluster.result.1 c.in-Err-outcome.stop c.answer-cluster.ensures.stops c.in-Err-outcome.is (elim is [
  | inl e ↦ inl cc
  | inr e ↦ inr cc
]))

pub returns-in-Err-outcome-clause-input : goal.returns-in-Err-outcome-clause-input
returns-in-Err-outcome-clause-input g c = λ is. absurd (not_reading c.answer-cluster.result.1 c.in-Err-outcome.stop c.answer-cluster.ensures.stops c.in-Err-outcome.is (inl cc))

pub returns-in-Err-outcome-clause-over : goal.returns-in-Err-outcome-clause-over
returns-in-Err-outcome-clause-over g c = λ is. absurd (not_reading c.answer-cluster.result.1 c.in-Err-outcome.stop c.answer-cluster.ensures.stops c.in-Err-outcome.is (inr cc))

pub returns-in-Err-outcome-clause-sink : goal.returns-in-Err-outcome-clause-sink
returns-in-Err-outcome-clause-sink g c = λ is. c.answer-cluster.ensures.cause (let same : c.in-Err-outcome.stop ≡ stop.Output = cc in c.in-Err-outcome.is ∙ ap (λ (w : Stop). Err w) same)

pub returns-in-Err-outcome-clause-halted : goal.returns-in-Err-outcome-clause-halted
returns-in-Err-outcome-clause-halted g c = λ is. c.answer-cluster.ensures.halted (let same : c.in-Err-outcome.stop ≡ stop.Store = cc in c.in-Err-outcome.is ∙ ap (λ (w : Stop). Err w) same)

-- nothing whole was read

pub returns-in-Err-clause-stopped_accounts : goal.returns-in-Err-clause-stopped_accounts
returns-in-Err-clause-stopped_accounts g c = λ is.
    let wrong : Result ℕ Stop = Err c.in-Err.stop in
    c.read_turn.ensures.stopped_accounts (read_stop c.read_turn.result wrong c.in-Err.stop c.in-Err.is refl c.read_turn.ensures.stops is)

pub returns-in-Err-clause-none_held : goal.returns-in-Err-clause-none_held
returns-in-Err-clause-none_held g c = λ is. c.read_turn.ensures.none_held (elim is [
  | inl e ↦ inl (let same : c.in-Err.stop ≡ stop.Input = cc in c.in-Err.is ∙ ap (λ (w : Stop). Err w) same)
  | inr e ↦ inr (let same : c.in-Err.stop ≡ stop.TooLong = cc in c.in-Err.is ∙ ap (λ (w : Stop). Err w) same)
])

pub returns-in-Err-clause-input : goal.returns-in-Err-clause-input
returns-in-Err-clause-input g c = λ is. let same : c.in-Err.stop ≡ stop.Input = cc in (c.read_turn.ensures.input (c.in-Err.is ∙ ap (λ (w : Stop). Err w) same), refl, refl)

pub returns-in-Err-clause-over : goal.returns-in-Err-clause-over
returns-in-Err-clause-over g c = λ is. let same : c.in-Err.stop ≡ stop.TooLong = cc in (c.read_turn.ensures.over (c.in-Err.is ∙ ap (λ (w : Stop). Err w) same), refl, refl)

pub returns-in-Err-clause-output : goal.returns-in-Err-clause-output
returns-in-Err-clause-output g c = λ is. absurd (not_answering c.read_turn.result c.in-Err.stop c.read_turn.ensures.stops c.in-Err.is (inl cc))

pub returns-in-Err-clause-memory : goal.returns-in-Err-clause-memory
returns-in-Err-clause-memory g c = λ is.
    let same : c.in-Err.stop ≡ stop.NoMemory = cc in
    inl (c.read_turn.ensures.memory (c.in-Err.is ∙ ap (λ (w : Stop). Err w) same), λ tells k stands. stands, refl)

pub returns-in-Err-clause-store : goal.returns-in-Err-clause-store
returns-in-Err-clause-store g c = λ is. absurd (not_answering c.read_turn.result c.in-Err.stop c.read_turn.ensures.stops c.in-Err.is (inr cc))

pub returns-in-Err-clause-stop_caused : goal.returns-in-Err-clause-stop_caused
returns-in-Err-clause-stop_caused g c = λ why is.
    let left = g.S.Source.left in
    let D = g.D.Disk in
    let A = g.A.Arm in
    let same : c.in-Err.stop ≡ why = cc in
    reading_stops D.Tells c.args.cluster.settings (tally_of D.files D.drawn D.fault_count D.fuse_count A.fault_count A.is_sure c.args.cluster) c.args.number
    (rest_of (left c.args.source.now) c.args.script.now) (rest_of (left c.read_turn.new.source) c.read_turn.new.script)
    (g.K.Sink.written c.args.sink.now) c.read_turn.result why (c.in-Err.is ∙ ap (λ (w : Stop). Err w) same) c.read_turn.ensures.input c.read_turn.ensures.memory
    c.read_turn.ensures.over c.read_turn.ensures.stops

pub returns-in-Err-clause-long : goal.returns-in-Err-clause-long
returns-in-Err-clause-long g c = λ is. let same : c.in-Err.stop ≡ stop.TooLong = cc in c.read_turn.ensures.long (c.in-Err.is ∙ ap (λ (w : Stop). Err w) same)

pub returns-in-Err-clause-source : goal.returns-in-Err-clause-source
returns-in-Err-clause-source g c = λ is. let same : c.in-Err.stop ≡ stop.Input = cc in c.read_turn.ensures.cause (c.in-Err.is ∙ ap (λ (w : Stop). Err w) same)

pub returns-in-Err-clause-sink : goal.returns-in-Err-clause-sink
returns-in-Err-clause-sink g c = λ is. absurd (not_answering c.read_turn.result c.in-Err.stop c.read_turn.ensures.stops c.in-Err.is (inl cc))

pub returns-in-Err-clause-halted : goal.returns-in-Err-clause-halted
returns-in-Err-clause-halted g c = λ is. absurd (not_answering c.read_turn.result c.in-Err.stop c.read_turn.ensures.stops c.in-Err.is (inr cc))

pub returns-in-Err-clause-faults : goal.returns-in-Err-clause-faults
returns-in-Err-clause-faults g c = NoneFalls-same (map g.D.Disk.fault_count (disks_of c.args.cluster))

pub returns-in-Err-clause-arm_faults : goal.returns-in-Err-clause-arm_faults
returns-in-Err-clause-arm_faults g c = NoneFalls-same (map g.A.Arm.fault_count c.args.cluster.arms)

pub returns-in-Err-clause-sure_arms : goal.returns-in-Err-clause-sure_arms
returns-in-Err-clause-sure_arms g c = same_sure g.A.Arm.is_sure g.A.Arm.fault_count c.args.cluster.arms c.args.cluster.arms refl

pub returns-in-Err-clause-formatted : goal.returns-in-Err-clause-formatted
returns-in-Err-clause-formatted g c = λ tells k stands.
    stands_formatted g.D.Disk.files (λ disk n. (g.met.D.Disk g.world.𝓛 g.world.𝓜 g.world.𝓡 ((λ s x. x), (λ x. x), (λ x. x), λ x. x)).may_leave_now disk n tells)
    g.D.Piece.Piece.Tells g.D.Disk.fault_count g.D.Disk.fuse_count g.A.Arm.fault_count c.args.cluster k stands
