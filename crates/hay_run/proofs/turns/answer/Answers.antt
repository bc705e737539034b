use Rattle.std.proofs.Common.{◌≡◌, ◌⊎◌, inl, inr, [], ◌∷◌, map, refl}
use Rattle.std.specs.Prelude.{Err}
use Rattle.std.proofs.lemmas.Result.{on_err_weaker}
use Rattle.hay_legal.specs.Items.Asked.{Block}
use Rattle.hay_cluster.specs.State.{Stands}
use Rattle.hay_cluster.specs.Store.{disks_of}
use Rattle.hay_cluster.proofs.Formatted.{stands_formatted}
use Rattle.hay_cluster.proofs.Sure.{same_sure}
use Rattle.hay_run.specs.Causing.{tally_of}
use Rattle.hay_run.specs.declared.stops.Stop.TheVariants as stop
use Rattle.hay_run.proofs.Causing.{caused_nothing}
use Rattle.hay_run.proofs.Counting.{NoneFalls-same}
use Rattle.hay_run.proofs.Stopping.{never_store, three_kinds}
use Rattle.hay_run.proofs.Turning.{answers_nothing}
use Rattle.hay_run.proofs.turns.answer.Goals as goal

-- nothing was read

pub returns-in-Nothing-clause-answers : goal.returns-in-Nothing-clause-answers
returns-in-Nothing-clause-answers g c = rw c.in-Nothing.is (λ tells k stands.
    answers_nothing (Stands g.D.Disk.files g.D.Piece.Piece.Tells g.D.Disk.fault_count g.D.Disk.fuse_count g.A.Arm.fault_count) k (g.K.Sink.written c.args.sink.now) c.args.cluster stands)

pub returns-in-Nothing-clause-caused : goal.returns-in-Nothing-clause-caused
returns-in-Nothing-clause-caused g c =
    let D = g.D.Disk in
    let A = g.A.Arm in
    rw c.in-Nothing.is (caused_nothing D.Tells c.args.cluster.settings (tally_of D.files D.drawn D.fault_count D.fuse_count A.fault_count A.is_sure c.args.cluster) (g.K.Sink.written c.args.sink.now))

pub returns-in-Nothing-clause-faults : goal.returns-in-Nothing-clause-faults
returns-in-Nothing-clause-faults g c = NoneFalls-same (map g.D.Disk.fault_count (disks_of c.args.cluster))

pub returns-in-Nothing-clause-arm_faults : goal.returns-in-Nothing-clause-arm_faults
returns-in-Nothing-clause-arm_faults g c = NoneFalls-same (map g.A.Arm.fault_count c.args.cluster.arms)

pub returns-in-Nothing-clause-sure_arms : goal.returns-in-Nothing-clause-sure_arms
returns-in-Nothing-clause-sure_arms g c = same_sure g.A.Arm.is_sure g.A.Arm.fault_count c.args.cluster.arms c.args.cluster.arms refl

pub returns-in-Nothing-clause-formatted : goal.returns-in-Nothing-clause-formatted
returns-in-Nothing-clause-formatted g c = λ tells k stands.
    stands_formatted g.D.Disk.files (λ disk n. (g.met.D.Disk g.world.𝓛 g.world.𝓜 g.world.𝓡 ((λ s x. x), (λ x. x), (λ x. x), λ x. x)).may_leave_now disk n tells)
    g.D.Piece.Piece.Tells g.D.Disk.fault_count g.D.Disk.fuse_count g.A.Arm.fault_count c.args.cluster k stands

-- a line alone

pub returns-in-Line-clause-answers : goal.returns-in-Line-clause-answers
returns-in-Line-clause-answers g c = rw c.in-Line.is c.respond-outcome.ensures.answers

pub returns-in-Line-clause-broke : goal.returns-in-Line-clause-broke
returns-in-Line-clause-broke g c = λ is. rw c.in-Line.is (c.respond-outcome.ensures.broke (inl is))

pub returns-in-Line-clause-memory : goal.returns-in-Line-clause-memory
returns-in-Line-clause-memory g c = λ is. inl (rw c.in-Line.is (c.respond-outcome.ensures.broke (inr is)))

pub returns-in-Line-clause-refused : goal.returns-in-Line-clause-refused
returns-in-Line-clause-refused g c = λ is. rw c.in-Line.is (c.respond-outcome.ensures.refused is)

pub returns-in-Line-clause-stop_caused : goal.returns-in-Line-clause-stop_caused
returns-in-Line-clause-stop_caused g c = λ why is. rw c.in-Line.is (c.respond-outcome.ensures.stop_caused why is)

-- a block

pub returns-in-Block-clause-broke : goal.returns-in-Block-clause-broke
returns-in-Block-clause-broke g c = λ is. rw c.in-Block.is (inl (c.answer_block.ensures.part is))

pub returns-in-Block-clause-memory : goal.returns-in-Block-clause-memory
returns-in-Block-clause-memory g c = λ is. rw c.in-Block.is (elim (c.answer_block.ensures.memory is) [
  | inl part ↦ inl (inl part)
  | inr kept ↦ inr kept
])

pub returns-in-Block-clause-refused : goal.returns-in-Block-clause-refused
returns-in-Block-clause-refused g c = λ is. absurd (never_store c.answer_block.result.1 c.answer_block.ensures.stops is)

pub returns-in-Block-clause-halted : goal.returns-in-Block-clause-halted
returns-in-Block-clause-halted g c = λ is. absurd (never_store c.answer_block.result.1 c.answer_block.ensures.stops is)

pub returns-in-Block-clause-stop_caused : goal.returns-in-Block-clause-stop_caused
returns-in-Block-clause-stop_caused g c = λ why is. rw c.in-Block.is (c.answer_block.ensures.stop_caused why is)

pub returns-in-Block-clause-stops : goal.returns-in-Block-clause-stops
returns-in-Block-clause-stops g c =
    on_err_weaker c.answer_block.result.1 (λ (two : (c.answer_block.result.1 ≡ Err stop.Output) ⊎ (c.answer_block.result.1 ≡ Err stop.NoMemory)).
    three_kinds c.answer_block.result.1 two) c.answer_block.ensures.stops
