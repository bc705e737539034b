use Rattle.std.proofs.Common.{◌≡◌, inl, inr, [], ◌∷◌, List, map, refl, sym, ap, subst, ◌∙◌}
use Rattle.std.specs.Prelude.{Vec, flat_map, OnErr, OnOk}
use Rattle.std.specs.Global.{Global}
use Rattle.hay_reply.specs.declared.Reply.{Reply}
use Rattle.hay_directory.specs.State.{home_of}
use Rattle.hay_legal.specs.Items.Asked.{Block}
use Rattle.hay_cluster.specs.Store.{disks_of}
use Rattle.hay_cluster.specs.State.{Stands, Holds}
use Rattle.hay_cluster.proofs.Formatted.{stands_formatted}
use Rattle.hay_cluster.proofs.Sure.{same_sure}
use Rattle.hay_run.specs.declared.stops.Stop.TheVariants as stop
use Rattle.hay_legal.specs.Items.{InBlock}
use Rattle.hay_cluster.specs.Seen.{home_seen}
use Rattle.hay_run.specs.Blocks.{answered_text, bad_text}
use Rattle.hay_run.specs.Causing.{HasSureArm, tally_of}
use Rattle.hay_run.specs.Turns.{AnswersPart}
use Rattle.hay_run.proofs.Answering.{Dealt, answered, block_caused, block_part, block_stops, block_whole, dealt, few_jobs, items_are, items_differ, items_fit, low_lines}
use Rattle.hay_run.proofs.Answering.{bad_part, bad_told, bad_whole, notes_told, served_jobs, some_jobs, text_told, wanted_stops}
use Rattle.hay_run.proofs.BadLines.{none_commands, some_commands}
use Rattle.hay_run.proofs.Blamed.{lanes_blame}
use Rattle.hay_run.proofs.Blocked.{err_here}
use Rattle.hay_disk.specs.Streams.{Wrote, WrotePart}
use Rattle.hay_run.proofs.Causing.{same_tally}
use Rattle.hay_run.proofs.Counting.{NoneFalls-same, StaySure-lanes}
use Rattle.hay_run.proofs.lanes.answer_block.Goals as goal

-- no line is a command

pub returns-then-not-has_command-clause-answers : goal.returns-then-not-has_command-clause-answers
returns-then-not-has_command-clause-answers g c =
    let D = g.D.Disk in
    let A = g.A.Arm in
    let K = g.K.Sink in
    let lines = c.args.block.lines in
    let bad = none_commands lines (sym c.has_command.ensures ∙ c.if-not-has_command.true) in
    let given : c.as_slice.result.now ≡ lines = c.as_slice.ensures.value ∙ c.into_lines-lines.ensures in
    let wrote : OnOk c.write_bad_lines-written.result (Wrote (K.written c.args.sink.now) (flat_map bad_text lines) (K.written c.write_bad_lines-written.new.sink)) =
    subst (λ (l : List InBlock). OnOk c.write_bad_lines-written.result (Wrote (K.written c.args.sink.now) (flat_map bad_text l) (K.written c.write_bad_lines-written.new.sink))) given
    c.write_bad_lines-written.ensures.wrote in
    bad_whole D.files D.Tells g.D.Piece.Piece.Tells D.fault_count D.fuse_count A.fault_count lines bad (K.written c.args.sink.now) (K.written c.write_bad_lines-written.new.sink) c.args.cluster
    c.write_bad_lines-written.result wrote

pub returns-then-not-has_command-clause-part : goal.returns-then-not-has_command-clause-part
returns-then-not-has_command-clause-part g c =
    let D = g.D.Disk in
    let A = g.A.Arm in
    let K = g.K.Sink in
    let lines = c.args.block.lines in
    let bad = none_commands lines (sym c.has_command.ensures ∙ c.if-not-has_command.true) in
    let given : c.as_slice.result.now ≡ lines = c.as_slice.ensures.value ∙ c.into_lines-lines.ensures in
    let part : OnErr c.write_bad_lines-written.result (WrotePart (K.written c.args.sink.now) (flat_map bad_text lines) (K.written c.write_bad_lines-written.new.sink)) =
    subst (λ (l : List InBlock). OnErr c.write_bad_lines-written.result (WrotePart (K.written c.args.sink.now) (flat_map bad_text l) (K.written c.write_bad_lines-written.new.sink))) given
    c.write_bad_lines-written.ensures.part in
    λ is. err_here (AnswersPart D.Tells (Stands D.files g.D.Piece.Piece.Tells D.fault_count D.fuse_count A.fault_count) (Holds D.files D.fault_count D.fuse_count A.fault_count)
    (Block lines ∷ []) c.args.cluster (K.written c.args.sink.now) c.args.cluster (K.written c.write_bad_lines-written.new.sink)) c.write_bad_lines-written.result stop.Output is
    (bad_part D.files D.Tells g.D.Piece.Piece.Tells D.fault_count D.fuse_count A.fault_count lines bad (K.written c.args.sink.now) (K.written c.write_bad_lines-written.new.sink) c.args.cluster
    c.write_bad_lines-written.result part)

pub returns-then-not-has_command-clause-memory : goal.returns-then-not-has_command-clause-memory
returns-then-not-has_command-clause-memory g c =
    let D = g.D.Disk in
    let A = g.A.Arm in
    let K = g.K.Sink in
    let lines = c.args.block.lines in
    let bad = none_commands lines (sym c.has_command.ensures ∙ c.if-not-has_command.true) in
    let given : c.as_slice.result.now ≡ lines = c.as_slice.ensures.value ∙ c.into_lines-lines.ensures in
    let part : OnErr c.write_bad_lines-written.result (WrotePart (K.written c.args.sink.now) (flat_map bad_text lines) (K.written c.write_bad_lines-written.new.sink)) =
    subst (λ (l : List InBlock). OnErr c.write_bad_lines-written.result (WrotePart (K.written c.args.sink.now) (flat_map bad_text l) (K.written c.write_bad_lines-written.new.sink))) given
    c.write_bad_lines-written.ensures.part in
    λ is. inl (err_here (AnswersPart D.Tells (Stands D.files g.D.Piece.Piece.Tells D.fault_count D.fuse_count A.fault_count) (Holds D.files D.fault_count D.fuse_count A.fault_count)
    (Block lines ∷ []) c.args.cluster (K.written c.args.sink.now) c.args.cluster (K.written c.write_bad_lines-written.new.sink)) c.write_bad_lines-written.result stop.NoMemory is
    (bad_part D.files D.Tells g.D.Piece.Piece.Tells D.fault_count D.fuse_count A.fault_count lines bad (K.written c.args.sink.now) (K.written c.write_bad_lines-written.new.sink) c.args.cluster
    c.write_bad_lines-written.result part))

pub returns-then-not-has_command-clause-caused : goal.returns-then-not-has_command-clause-caused
returns-then-not-has_command-clause-caused g c =
    let D = g.D.Disk in
    let A = g.A.Arm in
    let K = g.K.Sink in
    let lines = c.args.block.lines in
    let bad = none_commands lines (sym c.has_command.ensures ∙ c.if-not-has_command.true) in
    let given : c.as_slice.result.now ≡ lines = c.as_slice.ensures.value ∙ c.into_lines-lines.ensures in
    let wrote : OnOk c.write_bad_lines-written.result (Wrote (K.written c.args.sink.now) (flat_map bad_text lines) (K.written c.write_bad_lines-written.new.sink)) =
    subst (λ (l : List InBlock). OnOk c.write_bad_lines-written.result (Wrote (K.written c.args.sink.now) (flat_map bad_text l) (K.written c.write_bad_lines-written.new.sink))) given
    c.write_bad_lines-written.ensures.wrote in
    let was = tally_of D.files D.drawn D.fault_count D.fuse_count A.fault_count A.is_sure c.args.cluster in
    let text = bad_told c.args.cluster.settings (HasSureArm was) was.counts was.counts (home_seen was.seen) lines bad in
    block_caused D.Tells c.args.cluster.settings was was lines (flat_map bad_text lines) (K.written c.args.sink.now) (K.written c.write_bad_lines-written.new.sink) (same_tally was)
    (refl, λ none. (refl, refl), text) c.write_bad_lines-written.result wrote

pub returns-then-not-has_command-clause-stop_caused : goal.returns-then-not-has_command-clause-stop_caused
returns-then-not-has_command-clause-stop_caused g c =
    let D = g.D.Disk in
    let A = g.A.Arm in
    let K = g.K.Sink in
    let lines = c.args.block.lines in
    let bad = none_commands lines (sym c.has_command.ensures ∙ c.if-not-has_command.true) in
    let given : c.as_slice.result.now ≡ lines = c.as_slice.ensures.value ∙ c.into_lines-lines.ensures in
    let part : OnErr c.write_bad_lines-written.result (WrotePart (K.written c.args.sink.now) (flat_map bad_text lines) (K.written c.write_bad_lines-written.new.sink)) =
    subst (λ (l : List InBlock). OnErr c.write_bad_lines-written.result (WrotePart (K.written c.args.sink.now) (flat_map bad_text l) (K.written c.write_bad_lines-written.new.sink))) given
    c.write_bad_lines-written.ensures.part in
    let was = tally_of D.files D.drawn D.fault_count D.fuse_count A.fault_count A.is_sure c.args.cluster in
    let text = bad_told c.args.cluster.settings (HasSureArm was) was.counts was.counts (home_seen was.seen) lines bad in
    λ why is. block_stops D.Tells c.args.cluster.settings was was lines (flat_map bad_text lines) (K.written c.args.sink.now) (K.written c.write_bad_lines-written.new.sink) (same_tally was)
    (refl, λ none. (refl, refl), text) c.write_bad_lines-written.result why is c.write_bad_lines-written.ensures.stops part

pub returns-then-not-has_command-clause-faults : goal.returns-then-not-has_command-clause-faults
returns-then-not-has_command-clause-faults g c =
    NoneFalls-same (map g.D.Disk.fault_count (disks_of c.args.cluster))

pub returns-then-not-has_command-clause-arm_faults : goal.returns-then-not-has_command-clause-arm_faults
returns-then-not-has_command-clause-arm_faults g c =
    NoneFalls-same (map g.A.Arm.fault_count c.args.cluster.arms)

pub returns-then-not-has_command-clause-sure_arms : goal.returns-then-not-has_command-clause-sure_arms
returns-then-not-has_command-clause-sure_arms g c =
    same_sure g.A.Arm.is_sure g.A.Arm.fault_count c.args.cluster.arms c.args.cluster.arms refl

pub returns-then-not-has_command-clause-formatted : goal.returns-then-not-has_command-clause-formatted
returns-then-not-has_command-clause-formatted g c =
    let D = g.D.Disk in
    let A = g.A.Arm in
    let K = g.K.Sink in
    λ tells k stands. stands_formatted D.files (λ disk n. (g.met.D.Disk g.world.𝓛 g.world.𝓜 g.world.𝓡 ((λ s x. x), (λ x. x), (λ x. x), λ x. x)).may_leave_now disk n tells)
    g.D.Piece.Piece.Tells D.fault_count D.fuse_count A.fault_count c.args.cluster k stands

-- its lines are dealt out

pub deal_lines-requires : goal.deal_lines-requires
deal_lines-requires g c = low_lines c.args.block.lanes c.lanes-lanes.result c.args.block.lines c.into_lines.result.items c.requires.block c.lanes-lanes.ensures c.into_lines.ensures

pub run_block-cluster-requires-clause-some : goal.run_block-cluster-requires-clause-some
run_block-cluster-requires-clause-some g c κs within =
    let lines = c.args.block.lines in
    let d : Dealt c.args.block.lanes lines c.as_slice-2.result.now c.in-Ok.places.items =
    dealt c.args.block.lanes c.lanes-lanes.result lines c.into_lines.result.items c.in-Ok.jobs.items c.as_slice-2.result.now c.in-Ok.places.items c.in-Ok.places.items
    c.requires.block c.lanes-lanes.ensures c.into_lines.ensures
    c.in-Ok.ensures.jobs c.in-Ok.ensures.places c.as_slice-2.ensures.value refl in
    some_jobs c.args.block.lanes lines c.as_slice-2.result.now c.in-Ok.places.items d

pub run_block-cluster-requires-clause-few : goal.run_block-cluster-requires-clause-few
run_block-cluster-requires-clause-few g c κs within =
    let lines = c.args.block.lines in
    let d : Dealt c.args.block.lanes lines c.as_slice-2.result.now c.in-Ok.places.items =
    dealt c.args.block.lanes c.lanes-lanes.result lines c.into_lines.result.items c.in-Ok.jobs.items c.as_slice-2.result.now c.in-Ok.places.items c.in-Ok.places.items
    c.requires.block c.lanes-lanes.ensures c.into_lines.ensures
    c.in-Ok.ensures.jobs c.in-Ok.ensures.places c.as_slice-2.ensures.value refl in
    few_jobs c.args.block.lanes lines c.as_slice-2.result.now c.in-Ok.places.items d

pub run_block-cluster-requires-clause-served : goal.run_block-cluster-requires-clause-served
run_block-cluster-requires-clause-served g c κs within =
    let lines = c.args.block.lines in
    let d : Dealt c.args.block.lanes lines c.as_slice-2.result.now c.in-Ok.places.items =
    dealt c.args.block.lanes c.lanes-lanes.result lines c.into_lines.result.items c.in-Ok.jobs.items c.as_slice-2.result.now c.in-Ok.places.items c.in-Ok.places.items
    c.requires.block c.lanes-lanes.ensures c.into_lines.ensures
    c.in-Ok.ensures.jobs c.in-Ok.ensures.places c.as_slice-2.ensures.value refl in
    served_jobs c.args.block.lanes lines c.as_slice-2.result.now c.in-Ok.places.items d

pub write_answers-written-requires : goal.write_answers-written-requires
write_answers-written-requires g c =
    let lines = c.args.block.lines in
    let places = c.as_slice-in-Ok-outcome.result.now in
    let d : Dealt c.args.block.lanes lines c.as_slice-2.result.now places =
    dealt c.args.block.lanes c.lanes-lanes.result lines c.into_lines.result.items c.in-Ok.jobs.items c.as_slice-2.result.now c.in-Ok.places.items places c.requires.block
    c.lanes-lanes.ensures c.into_lines.ensures
    c.in-Ok.ensures.jobs c.in-Ok.ensures.places c.as_slice-2.ensures.value c.as_slice-in-Ok-outcome.ensures.value in
    let jobs = c.as_slice-2.result.now in
    let replies = c.in-Ok-outcome.answers.replies.items in
    let told = c.in-Ok-outcome.answers.notes in
    let same = rw c.in-Ok-outcome.is at c.run_block-cluster.ensures.replies in
    let a = answered c.args.block.lanes lines jobs places d replies same in
    (lines, a.0, d.places_are, a.1)

-- they were answered, and the answers written

pub returns-in-Ok-outcome-clause-answers : goal.returns-in-Ok-outcome-clause-answers
returns-in-Ok-outcome-clause-answers g c =
    let D = g.D.Disk in
    let A = g.A.Arm in
    let K = g.K.Sink in
    let lines = c.args.block.lines in
    let places = c.as_slice-in-Ok-outcome.result.now in
    let d : Dealt c.args.block.lanes lines c.as_slice-2.result.now places =
    dealt c.args.block.lanes c.lanes-lanes.result lines c.into_lines.result.items c.in-Ok.jobs.items c.as_slice-2.result.now c.in-Ok.places.items places c.requires.block
    c.lanes-lanes.ensures c.into_lines.ensures
    c.in-Ok.ensures.jobs c.in-Ok.ensures.places c.as_slice-2.ensures.value c.as_slice-in-Ok-outcome.ensures.value in
    let jobs = c.as_slice-2.result.now in
    let replies = c.in-Ok-outcome.answers.replies.items in
    let told = c.in-Ok-outcome.answers.notes in
    let same = rw c.in-Ok-outcome.is at c.run_block-cluster.ensures.replies in
    let a = answered c.args.block.lanes lines jobs places d replies same in
    block_whole D.files D.Tells g.D.Piece.Piece.Tells D.fault_count D.fuse_count A.fault_count lines a.0 told (K.written c.args.sink.now)
    (K.written c.write_answers-written.new.sink) c.args.cluster c.run_block-cluster.result.0 a.1.asked
    (items_fit c.args.block.lanes lines jobs places d replies same a.0 a.1 (rw c.in-Ok-outcome.is at c.run_block-cluster.ensures.fits))
    (λ tells k stands. (rw c.in-Ok-outcome.is at (c.run_block-cluster.ensures.legal tells)) k stands a.0 (items_are c.args.block.lanes lines jobs places d replies same a.0 a.1)
    (items_differ c.args.block.lanes lines jobs places d replies same a.0 a.1)) c.write_answers-written.result
    (λ notes are. c.write_answers-written.ensures.wrote lines a.0 notes d.places_are a.1 are)

pub returns-in-Ok-outcome-clause-part : goal.returns-in-Ok-outcome-clause-part
returns-in-Ok-outcome-clause-part g c =
    let D = g.D.Disk in
    let A = g.A.Arm in
    let K = g.K.Sink in
    let lines = c.args.block.lines in
    let places = c.as_slice-in-Ok-outcome.result.now in
    let d : Dealt c.args.block.lanes lines c.as_slice-2.result.now places =
    dealt c.args.block.lanes c.lanes-lanes.result lines c.into_lines.result.items c.in-Ok.jobs.items c.as_slice-2.result.now c.in-Ok.places.items places c.requires.block
    c.lanes-lanes.ensures c.into_lines.ensures
    c.in-Ok.ensures.jobs c.in-Ok.ensures.places c.as_slice-2.ensures.value c.as_slice-in-Ok-outcome.ensures.value in
    let jobs = c.as_slice-2.result.now in
    let replies = c.in-Ok-outcome.answers.replies.items in
    let told = c.in-Ok-outcome.answers.notes in
    let same = rw c.in-Ok-outcome.is at c.run_block-cluster.ensures.replies in
    let a = answered c.args.block.lanes lines jobs places d replies same in
    λ is. err_here (AnswersPart D.Tells (Stands D.files g.D.Piece.Piece.Tells D.fault_count D.fuse_count A.fault_count) (Holds D.files D.fault_count D.fuse_count A.fault_count)
    (Block lines ∷ []) c.args.cluster (K.written c.args.sink.now) c.run_block-cluster.result.0 (K.written c.write_answers-written.new.sink)) c.write_answers-written.result stop.Output is
    (block_part D.files D.Tells g.D.Piece.Piece.Tells D.fault_count D.fuse_count A.fault_count lines a.0 told (K.written c.args.sink.now)
    (K.written c.write_answers-written.new.sink) c.args.cluster c.run_block-cluster.result.0 a.1.asked
    (items_fit c.args.block.lanes lines jobs places d replies same a.0 a.1 (rw c.in-Ok-outcome.is at c.run_block-cluster.ensures.fits))
    (λ tells k stands. (rw c.in-Ok-outcome.is at (c.run_block-cluster.ensures.legal tells)) k stands a.0 (items_are c.args.block.lanes lines jobs places d replies same a.0 a.1)
    (items_differ c.args.block.lanes lines jobs places d replies same a.0 a.1)) c.write_answers-written.result
    (λ notes are. c.write_answers-written.ensures.part lines a.0 notes d.places_are a.1 are))

pub returns-in-Ok-outcome-clause-memory : goal.returns-in-Ok-outcome-clause-memory
returns-in-Ok-outcome-clause-memory g c =
    let D = g.D.Disk in
    let A = g.A.Arm in
    let K = g.K.Sink in
    let lines = c.args.block.lines in
    let places = c.as_slice-in-Ok-outcome.result.now in
    let d : Dealt c.args.block.lanes lines c.as_slice-2.result.now places =
    dealt c.args.block.lanes c.lanes-lanes.result lines c.into_lines.result.items c.in-Ok.jobs.items c.as_slice-2.result.now c.in-Ok.places.items places c.requires.block
    c.lanes-lanes.ensures c.into_lines.ensures
    c.in-Ok.ensures.jobs c.in-Ok.ensures.places c.as_slice-2.ensures.value c.as_slice-in-Ok-outcome.ensures.value in
    let jobs = c.as_slice-2.result.now in
    let replies = c.in-Ok-outcome.answers.replies.items in
    let told = c.in-Ok-outcome.answers.notes in
    let same = rw c.in-Ok-outcome.is at c.run_block-cluster.ensures.replies in
    let a = answered c.args.block.lanes lines jobs places d replies same in
    λ is. inl (err_here (AnswersPart D.Tells (Stands D.files g.D.Piece.Piece.Tells D.fault_count D.fuse_count A.fault_count)
    (Holds D.files D.fault_count D.fuse_count A.fault_count) (Block lines ∷ []) c.args.cluster (K.written c.args.sink.now) c.run_block-cluster.result.0
    (K.written c.write_answers-written.new.sink)) c.write_answers-written.result stop.NoMemory is
    (block_part D.files D.Tells g.D.Piece.Piece.Tells D.fault_count D.fuse_count A.fault_count lines a.0 told (K.written c.args.sink.now)
    (K.written c.write_answers-written.new.sink) c.args.cluster c.run_block-cluster.result.0 a.1.asked
    (items_fit c.args.block.lanes lines jobs places d replies same a.0 a.1 (rw c.in-Ok-outcome.is at c.run_block-cluster.ensures.fits))
    (λ tells k stands. (rw c.in-Ok-outcome.is at (c.run_block-cluster.ensures.legal tells)) k stands a.0 (items_are c.args.block.lanes lines jobs places d replies same a.0 a.1)
    (items_differ c.args.block.lanes lines jobs places d replies same a.0 a.1)) c.write_answers-written.result
    (λ notes are. c.write_answers-written.ensures.part lines a.0 notes d.places_are a.1 are)))

pub returns-in-Ok-outcome-clause-caused : goal.returns-in-Ok-outcome-clause-caused
returns-in-Ok-outcome-clause-caused g c =
    let D = g.D.Disk in
    let A = g.A.Arm in
    let K = g.K.Sink in
    let lines = c.args.block.lines in
    let places = c.as_slice-in-Ok-outcome.result.now in
    let d : Dealt c.args.block.lanes lines c.as_slice-2.result.now places =
    dealt c.args.block.lanes c.lanes-lanes.result lines c.into_lines.result.items c.in-Ok.jobs.items c.as_slice-2.result.now c.in-Ok.places.items places c.requires.block
    c.lanes-lanes.ensures c.into_lines.ensures
    c.in-Ok.ensures.jobs c.in-Ok.ensures.places c.as_slice-2.ensures.value c.as_slice-in-Ok-outcome.ensures.value in
    let jobs = c.as_slice-2.result.now in
    let replies = c.in-Ok-outcome.answers.replies.items in
    let told = c.in-Ok-outcome.answers.notes in
    let same = rw c.in-Ok-outcome.is at c.run_block-cluster.ensures.replies in
    let a = answered c.args.block.lanes lines jobs places d replies same in
    let home = home_of c.run_block-cluster.result.0.directory in
    let n =
    notes_told c.args.block.lanes lines jobs places d c.args.cluster.settings home told (rw c.in-Ok-outcome.is at c.run_block-cluster.ensures.notes)
    (rw c.in-Ok-outcome.is at c.run_block-cluster.ensures.rows) in
    let was = tally_of D.files D.drawn D.fault_count D.fuse_count A.fault_count A.is_sure c.args.cluster in
    let now = tally_of D.files D.drawn D.fault_count D.fuse_count A.fault_count A.is_sure c.run_block-cluster.result.0 in
    let blames =
    lanes_blame A.is_sure A.fault_count c.args.cluster.arms c.run_block-cluster.result.0.arms lines (map (λ (own : Vec Reply Global). own.items) replies) a.0 a.1
    (rw c.in-Ok-outcome.is at c.run_block-cluster.ensures.blames) in
    let text =
    text_told c.args.block.lanes lines jobs places d replies same a.0 told a.1 (rw c.in-Ok-outcome.is at c.run_block-cluster.ensures.fits)
    (rw c.in-Ok-outcome.is at c.run_block-cluster.ensures.bad) c.args.cluster.settings (HasSureArm was) was.counts now.counts home
    (rw c.in-Ok-outcome.is at c.run_block-cluster.ensures.suits) blames n in
    block_caused D.Tells c.args.cluster.settings (tally_of D.files D.drawn D.fault_count D.fuse_count A.fault_count A.is_sure c.args.cluster)
    (tally_of D.files D.drawn D.fault_count D.fuse_count A.fault_count A.is_sure c.run_block-cluster.result.0) lines (answered_text a.0 n.notes)
    (K.written c.args.sink.now) (K.written c.write_answers-written.new.sink) (
      c.run_block-cluster.ensures.counts,
      c.run_block-cluster.ensures.arm_counts,
      StaySure-lanes A.is_sure A.fault_count c.args.cluster.arms c.run_block-cluster.result.0.arms c.run_block-cluster.ensures.sure_arms,
    ) (c.run_block-cluster.ensures.fuses, λ bad. absurd (some_commands lines (sym c.has_command.ensures ∙ c.if-not-has_command.false) bad), text) c.write_answers-written.result
    (c.write_answers-written.ensures.wrote lines a.0 n.notes d.places_are a.1 n.are)

pub returns-in-Ok-outcome-clause-stop_caused : goal.returns-in-Ok-outcome-clause-stop_caused
returns-in-Ok-outcome-clause-stop_caused g c =
    let D = g.D.Disk in
    let A = g.A.Arm in
    let K = g.K.Sink in
    let lines = c.args.block.lines in
    let places = c.as_slice-in-Ok-outcome.result.now in
    let d : Dealt c.args.block.lanes lines c.as_slice-2.result.now places =
    dealt c.args.block.lanes c.lanes-lanes.result lines c.into_lines.result.items c.in-Ok.jobs.items c.as_slice-2.result.now c.in-Ok.places.items places c.requires.block
    c.lanes-lanes.ensures c.into_lines.ensures
    c.in-Ok.ensures.jobs c.in-Ok.ensures.places c.as_slice-2.ensures.value c.as_slice-in-Ok-outcome.ensures.value in
    let jobs = c.as_slice-2.result.now in
    let replies = c.in-Ok-outcome.answers.replies.items in
    let told = c.in-Ok-outcome.answers.notes in
    let same = rw c.in-Ok-outcome.is at c.run_block-cluster.ensures.replies in
    let a = answered c.args.block.lanes lines jobs places d replies same in
    let home = home_of c.run_block-cluster.result.0.directory in
    let n =
    notes_told c.args.block.lanes lines jobs places d c.args.cluster.settings home told (rw c.in-Ok-outcome.is at c.run_block-cluster.ensures.notes)
    (rw c.in-Ok-outcome.is at c.run_block-cluster.ensures.rows) in
    let was = tally_of D.files D.drawn D.fault_count D.fuse_count A.fault_count A.is_sure c.args.cluster in
    let now = tally_of D.files D.drawn D.fault_count D.fuse_count A.fault_count A.is_sure c.run_block-cluster.result.0 in
    let blames =
    lanes_blame A.is_sure A.fault_count c.args.cluster.arms c.run_block-cluster.result.0.arms lines (map (λ (own : Vec Reply Global). own.items) replies) a.0 a.1
    (rw c.in-Ok-outcome.is at c.run_block-cluster.ensures.blames) in
    let text =
    text_told c.args.block.lanes lines jobs places d replies same a.0 told a.1 (rw c.in-Ok-outcome.is at c.run_block-cluster.ensures.fits)
    (rw c.in-Ok-outcome.is at c.run_block-cluster.ensures.bad) c.args.cluster.settings (HasSureArm was) was.counts now.counts home
    (rw c.in-Ok-outcome.is at c.run_block-cluster.ensures.suits) blames n in
    λ why is. block_stops D.Tells c.args.cluster.settings (tally_of D.files D.drawn D.fault_count D.fuse_count A.fault_count A.is_sure c.args.cluster)
    (tally_of D.files D.drawn D.fault_count D.fuse_count A.fault_count A.is_sure c.run_block-cluster.result.0) lines (answered_text a.0 n.notes)
    (K.written c.args.sink.now) (K.written c.write_answers-written.new.sink) (
      c.run_block-cluster.ensures.counts,
      c.run_block-cluster.ensures.arm_counts,
      StaySure-lanes A.is_sure A.fault_count c.args.cluster.arms c.run_block-cluster.result.0.arms c.run_block-cluster.ensures.sure_arms,
    ) (c.run_block-cluster.ensures.fuses, λ bad. absurd (some_commands lines (sym c.has_command.ensures ∙ c.if-not-has_command.false) bad), text) c.write_answers-written.result why
    is c.write_answers-written.ensures.stops (c.write_answers-written.ensures.part lines a.0 n.notes d.places_are a.1 n.are)

pub returns-in-Ok-outcome-clause-formatted : goal.returns-in-Ok-outcome-clause-formatted
returns-in-Ok-outcome-clause-formatted g c =
    let D = g.D.Disk in
    let A = g.A.Arm in
    let K = g.K.Sink in
    let lines = c.args.block.lines in
    let places = c.as_slice-in-Ok-outcome.result.now in
    let d : Dealt c.args.block.lanes lines c.as_slice-2.result.now places =
    dealt c.args.block.lanes c.lanes-lanes.result lines c.into_lines.result.items c.in-Ok.jobs.items c.as_slice-2.result.now c.in-Ok.places.items places c.requires.block
    c.lanes-lanes.ensures c.into_lines.ensures
    c.in-Ok.ensures.jobs c.in-Ok.ensures.places c.as_slice-2.ensures.value c.as_slice-in-Ok-outcome.ensures.value in
    let jobs = c.as_slice-2.result.now in
    let replies = c.in-Ok-outcome.answers.replies.items in
    let told = c.in-Ok-outcome.answers.notes in
    let same = rw c.in-Ok-outcome.is at c.run_block-cluster.ensures.replies in
    let a = answered c.args.block.lanes lines jobs places d replies same in
    λ tells k stands.
    let ran =
    (rw c.in-Ok-outcome.is at (c.run_block-cluster.ensures.legal tells)) k stands a.0 (items_are c.args.block.lanes lines jobs places d replies same a.0 a.1)
    (items_differ c.args.block.lanes lines jobs places d replies same a.0 a.1) in
    stands_formatted D.files (λ disk n. (g.met.D.Disk g.world.𝓛 g.world.𝓜 g.world.𝓡 ((λ s x. x), (λ x. x), (λ x. x), λ x. x)).may_leave_now disk n tells) g.D.Piece.Piece.Tells
    D.fault_count D.fuse_count A.fault_count c.run_block-cluster.result.0 ran.known ran.stands

-- the block wanted memory

pub returns-clause-memory : goal.returns-clause-memory
returns-clause-memory g c =
    let kept = rw c.in-Err.is at c.run_block-cluster.ensures.refused in
    λ is. inr (kept.stands, refl)

pub returns-clause-stop_caused : goal.returns-clause-stop_caused
returns-clause-stop_caused g c =
    let D = g.D.Disk in
    let A = g.A.Arm in
    λ why is.
    let same : stop.NoMemory ≡ why = cc in
    wanted_stops D.Tells c.args.cluster.settings (tally_of D.files D.drawn D.fault_count D.fuse_count A.fault_count A.is_sure c.args.cluster)
    (tally_of D.files D.drawn D.fault_count D.fuse_count A.fault_count A.is_sure c.run_block-cluster.result.0) c.args.block.lines (g.K.Sink.written c.args.sink.now) why same
    c.requires.block.served (
      c.run_block-cluster.ensures.counts,
      c.run_block-cluster.ensures.arm_counts,
      StaySure-lanes A.is_sure A.fault_count c.args.cluster.arms c.run_block-cluster.result.0.arms c.run_block-cluster.ensures.sure_arms,
    ) c.run_block-cluster.ensures.fuses (some_commands c.args.block.lines (sym c.has_command.ensures ∙ c.if-not-has_command.false))

pub returns-clause-formatted : goal.returns-clause-formatted
returns-clause-formatted g c =
    let D = g.D.Disk in
    let A = g.A.Arm in
    let K = g.K.Sink in
    let kept = rw c.in-Err.is at c.run_block-cluster.ensures.refused in
    λ tells k stands.
    stands_formatted D.files (λ disk n. (g.met.D.Disk g.world.𝓛 g.world.𝓜 g.world.𝓡 ((λ s x. x), (λ x. x), (λ x. x), λ x. x)).may_leave_now disk n tells) g.D.Piece.Piece.Tells
    D.fault_count D.fuse_count A.fault_count c.run_block-cluster.result.0 k (kept.stands tells k stands)

-- so did its lines, before they were dealt out

pub returns-in_default-clause-memory : goal.returns-in_default-clause-memory
returns-in_default-clause-memory g c =
    λ is. inr (λ tells k stands. stands, refl)

pub returns-in_default-clause-stop_caused : goal.returns-in_default-clause-stop_caused
returns-in_default-clause-stop_caused g c =
    let D = g.D.Disk in
    let A = g.A.Arm in
    λ why is.
    let same : stop.NoMemory ≡ why = cc in
    wanted_stops D.Tells c.args.cluster.settings (tally_of D.files D.drawn D.fault_count D.fuse_count A.fault_count A.is_sure c.args.cluster)
    (tally_of D.files D.drawn D.fault_count D.fuse_count A.fault_count A.is_sure c.args.cluster) c.args.block.lines (g.K.Sink.written c.args.sink.now) why same
    c.requires.block.served
    (NoneFalls-same (map D.fault_count (disks_of c.args.cluster)), NoneFalls-same (map A.fault_count c.args.cluster.arms), λ lane sure. sure) refl
    (some_commands c.args.block.lines (sym c.has_command.ensures ∙ c.if-not-has_command.false))

pub returns-in_default-clause-faults : goal.returns-in_default-clause-faults
returns-in_default-clause-faults g c =
    NoneFalls-same (map g.D.Disk.fault_count (disks_of c.args.cluster))

pub returns-in_default-clause-arm_faults : goal.returns-in_default-clause-arm_faults
returns-in_default-clause-arm_faults g c =
    NoneFalls-same (map g.A.Arm.fault_count c.args.cluster.arms)

pub returns-in_default-clause-sure_arms : goal.returns-in_default-clause-sure_arms
returns-in_default-clause-sure_arms g c =
    same_sure g.A.Arm.is_sure g.A.Arm.fault_count c.args.cluster.arms c.args.cluster.arms refl

pub returns-in_default-clause-formatted : goal.returns-in_default-clause-formatted
returns-in_default-clause-formatted g c =
    let D = g.D.Disk in
    let A = g.A.Arm in
    let K = g.K.Sink in
    λ tells k stands. stands_formatted D.files (λ disk n. (g.met.D.Disk g.world.𝓛 g.world.𝓜 g.world.𝓡 ((λ s x. x), (λ x. x), (λ x. x), λ x. x)).may_leave_now disk n tells)
    g.D.Piece.Piece.Tells D.fault_count D.fuse_count A.fault_count c.args.cluster k stands
