use Rattle.hay_physical.specs.declared.fault.ReplicaFault.{ReplicaFault}
use Rattle.std.proofs.Common.{◌≡◌, ◌-◌, Err, refl, subst, ◌∙◌, arith}
use Rattle.hay_physical.specs.OpenCopies.{Copy, IsUp}
use Rattle.hay_physical.proofs.Laws.{run_within, stands_cells_end}
use Rattle.hay_logical.specs.ReplicaCalls.{GoesOn, StaysInReach, stepped_by}
use Rattle.hay_logical.specs.ReplicaCalls.Start.{Examined, Fresh, Going}
use Rattle.hay_logical.proofs.Calls.{reach_through, up_open}
use Rattle.hay_logical.proofs.Reaching.{reaches_on}
use Rattle.hay_logical.proofs.SwapSizes.{cells_within}
use Rattle.hay_logical.proofs.Swapping.{keeps_rows, stays_later, step_holds, step_left, swaps_later}
use Rattle.hay_logical.proofs.runs.finish.Given as given
use Rattle.hay_physical.proofs.Views.{if_ok_so, on_err_so}
use Rattle.hay_logical.proofs.Seen.{changes_through, run_changed, steps_change, swap_later}
use Rattle.hay_logical.specs.Needles.{LacksCell}
use Rattle.hay_logical.specs.Sights.{sights_of}
use Rattle.hay_logical.proofs.Damages.{heads_all}
use Rattle.hay_physical.proofs.Looks.{always_ok}
use Rattle.hay_physical.specs.OpenCopies.{contents_of, volume_bytes}
use Rattle.hay_logical.specs.Seen.{ReplicaSeen, StepsTo, replica_seen}
use Rattle.std.proofs.Common.{ap}
use Rattle.hay_logical.proofs.runs.finish.Goals as goal
use Rattle.hay_logical.proofs.runs.finish.Goals.{After-drop_run}

pub returns-in-Ok-clause-swaps : goal.returns-in-Ok-clause-swaps
returns-in-Ok-clause-swaps g c =
    let r : Copy g.row.D.Denot = c.args.replica.now in
    let x : Copy g.row.D.Denot = c.step.new.replica in
    let y : Copy g.row.D.Denot = c.swap.new.replica in
    swaps_later g.D.Disk.Tells g.D.Disk.files g.D.Disk.fault_count g.D.Piece.Piece.Tells c.args.rows.now c.swap.new.rows c.args.at r x y c.swap.result Going Examined
    (λ e. let wrong : Examined ≡ Fresh = e in cc)
    c.requires.up c.in-Ok.ensures.steps.on tt c.step.ensures.counts (λ at none. absurd none)
    (λ tells s run stands has places.
    let done = c.in-Ok.ensures.steps.stepped tells s run stands has places in
    let number = done.0 in
    let end = c.end-most.ensures.known tells s stands in
    let cells = stands_cells_end g.D.Disk.files r s stands in
    let within = cells_within s.cells in
    let left = run_within g.D.Disk.files r s run has in
    let none : run.left - c.in-Ok.field-0 ≡ 0 = omega (arith, number, end, cells, within, left) in
    (stepped_by c.in-Ok.field-0 run, refl, (done.1, none)))
    c.swap.ensures.swaps

pub returns-in-Ok-clause-stays : goal.returns-in-Ok-clause-stays
returns-in-Ok-clause-stays g c = stays_later g.D.Disk.Tells g.D.Disk.files c.args.replica.now c.step.new.replica c.swap.new.replica c.swap.result (c.in-Ok.ensures.steps.on).reach c.swap.ensures.stays

-- a refusal has left what could be reached
dropped : (g : given.Over) (c : After-drop_run g) → StaysInReach g.D.Disk.Tells g.D.Disk.files c.args.replica.now c.drop_run.new.self
dropped g c = λ tells.
    reach_through g.D.Disk.files c.args.replica.now c.step.new.replica c.drop_run.new.self ((c.in-Err.ensures.steps.on).reach tells)
    (record { deletes = c.drop_run.ensures.deletes tells; sees = c.drop_run.ensures.sees tells })

pub returns-in-Err-clause-stays : goal.returns-in-Err-clause-stays
returns-in-Err-clause-stays g c = dropped g (goal.at.returns-in-Err-clause-stays g c).After-drop_run

pub returns-in-Err-clause-swaps : goal.returns-in-Err-clause-swaps
returns-in-Err-clause-swaps g c =
    let r : Copy g.row.D.Denot = c.args.replica.now in
    let x : Copy g.row.D.Denot = c.step.new.replica in
    let y : Copy g.row.D.Denot = c.drop_run.new.self in
    let on : GoesOn g.D.Disk.Tells g.D.Disk.files r x = c.in-Err.ensures.steps.on in
    let up : IsUp y = c.drop_run.ensures.up on.up in
    record {
      «open» = up_open y up;
      sup = c.drop_run.ensures.sup ∙ on.sup;
      up = tt;
      left = step_left g.D.Disk.files g.D.Disk.fault_count c.end-most.result r x y c.in-Err.fault c.end-most.ensures.is up c.drop_run.ensures.goal c.drop_run.ensures.disk c.in-Err.ensures.steps.cause;
      swapped = λ tells s run stands start places. tt;
      sizes = λ tells. tt;
      still = c.drop_run.ensures.stuck ∙ on.stuck;
      removed = λ tells s stands. tt;
      refused = λ tells s run stands start places.
          step_holds g.D.Disk.files g.D.Disk.fault_count r x y s run c.end-most.result c.in-Err.fault c.in-Err.ensures.steps.cause (c.in-Err.ensures.steps.refused tells s run stands start places)
          (c.drop_run.ensures.stands tells s (on.stands tells s stands)) (c.drop_run.ensures.stuck ∙ on.stuck);
      reach = λ tells reach.
          reaches_on g.D.Disk.files c.args.rows.now c.args.rows.now c.args.at r y (λ u. c.requires.up) (λ u. up_open r c.requires.up)
          (dropped g (goal.at.returns-in-Err-clause-swaps g c).After-drop_run tells) (λ pair. refl) reach;
      head = λ tells still. ap (λ d. contents_of g.D.Disk.files d 0) c.drop_run.ensures.disk ∙ on.head tells;
    }

pub returns-in-Err-clause-places : goal.returns-in-Err-clause-places
returns-in-Err-clause-places g c = keeps_rows c.args.rows.now c.args.at _

pub returns-in-Ok-clause-seen : goal.returns-in-Ok-clause-seen
returns-in-Ok-clause-seen g c =
    let steps = c.in-Ok.ensures.seen in
    if_ok_so c.swap.result _ _ (λ files seen. swap_later (replica_seen c.args.replica.now) (replica_seen c.step.new.replica) (replica_seen c.swap.new.replica) files.generation files.end
    (ap (λ (s : ReplicaSeen). s.generation) steps.only) (ap (λ (s : ReplicaSeen). s.end) steps.only) seen) c.swap.ensures.seen

pub returns-in-Ok-clause-kept : goal.returns-in-Ok-clause-kept
returns-in-Ok-clause-kept g c =
    let r : ReplicaSeen = replica_seen c.args.replica.now in
    let x : ReplicaSeen = replica_seen c.step.new.replica in
    on_err_so c.swap.result _ _ (λ kept. changes_through r x (replica_seen c.swap.new.replica) (steps_change c.end-most.result c.in-Ok.field-0 r x c.in-Ok.ensures.seen) kept) c.swap.ensures.kept

pub returns-in-Err-clause-kept : goal.returns-in-Err-clause-kept
returns-in-Err-clause-kept g c =
    let d = c.drop_run.ensures in
    changes_through (replica_seen c.args.replica.now) (replica_seen c.step.new.replica) (replica_seen c.drop_run.new.self) c.in-Err.ensures.left.0
    (run_changed c.step.new.replica c.drop_run.new.self d.stays d.stuck d.bare)

pub returns-in-Ok-clause-lead : goal.returns-in-Ok-clause-lead
returns-in-Ok-clause-lead g c = λ tells.
    let r : ReplicaSeen = replica_seen c.args.replica.now in
    let x : ReplicaSeen = replica_seen c.step.new.replica in
    always_ok c.swap.result _
    (heads_all (sights_of c.args.rows.now) c.args.at c.in-Ok.field-0 r x (volume_bytes g.D.Disk.files c.args.replica.now)
    (subst (λ n. StepsTo n c.in-Ok.field-0 r x) c.end-most.ensures.is c.in-Ok.ensures.seen) (c.in-Ok.ensures.lead tells))

pub returns-in-Ok-clause-damaged : goal.returns-in-Ok-clause-damaged
returns-in-Ok-clause-damaged g c = λ tells place is. absurd (c.swap.ensures.undamaged place is)

pub returns-in-Err-clause-damaged : goal.returns-in-Err-clause-damaged
returns-in-Err-clause-damaged g c = λ tells place is.
    let same : c.in-Err.fault ≡ ReplicaFault.Damaged place = cc in
    subst (λ n. LacksCell (sights_of c.args.rows.now) c.args.at n place (replica_seen c.args.replica.now) (volume_bytes g.D.Disk.files c.args.replica.now)) c.end-most.ensures.is
    (c.in-Err.ensures.damaged tells place (ap (λ (f : ReplicaFault). Err f) same))

pub returns-in-Ok-clause-unsure : goal.returns-in-Ok-clause-unsure
returns-in-Ok-clause-unsure g c = λ tells f is.
    let r : ReplicaSeen = replica_seen c.args.replica.now in
    let x : ReplicaSeen = replica_seen c.step.new.replica in
    heads_all (sights_of c.args.rows.now) c.args.at c.in-Ok.field-0 r x (volume_bytes g.D.Disk.files c.args.replica.now)
    (subst (λ n. StepsTo n c.in-Ok.field-0 r x) c.end-most.ensures.is c.in-Ok.ensures.seen) (c.in-Ok.ensures.lead tells)

pub returns-in-Err-clause-unsure : goal.returns-in-Err-clause-unsure
returns-in-Err-clause-unsure g c = λ tells f is. absurd cc
