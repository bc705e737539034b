use Rattle.std.proofs.Common.{◌≤◌, None, ◌≡◌, ◌<◌, ℕ, length, Ok, Err, refl, sym, ap, subst, ◌∙◌, arith}
use Rattle.std.specs.Prelude.{IfErr, IfOk}
use Rattle.std.specs.Vec.{with_items}
use Rattle.std.proofs.lemmas.List.{with_items_is}
use Rattle.hay_needle.specs.declared.settings.TheConstants.{MAX_REPLICAS}
use Rattle.hay_physical.specs.OpenCopies.{Copy, IsUp, contents_of, goal_of}
use Rattle.hay_logical.specs.Answers.{StepRefused, IsStepped}
use Rattle.hay_logical.specs.Answers as answers
use Rattle.hay_logical.specs.Fits.{At}
use Rattle.hay_logical.specs.Refusals.{IsUntouchedBy, answer_at}
use Rattle.hay_logical.specs.Stands.{Stands, StandsFor}
use Rattle.hay_logical.specs.ReplicaCalls.{CallsOne, StaysInReach, StepsAt}
use Rattle.hay_logical.specs.Volumes.{CanReach, IsShaped, KeepsCounts, IsMachineOf, Volume}
use Rattle.hay_logical.proofs.Calls.{open_up, reach_still, up_open, up_thawed}
use Rattle.hay_logical.proofs.Lists.{at_below, at_same, at_there}
use Rattle.hay_logical.proofs.Methods.{one_after, one_count, one_each, other_same, same_by, same_still, shaped_on}
use Rattle.hay_logical.proofs.Standing.{takes, volume_with}
use Rattle.hay_logical.proofs.Changing.{not_some}
use Rattle.hay_logical.proofs.Stepping.{none_there, stands_there, step_fault, step_refused, stepped_on}
use Rattle.hay_logical.proofs.Reaching.{same_rows}
use Rattle.hay_logical.specs.declared.fault.LogicalFault.{LogicalFault}
use Rattle.hay_logical.proofs.Untouched.{answered_memory, one_untouched, step_thawed, step_untouched, stuck_same}
use Rattle.hay_physical.specs.OpenCopies.{is_stuck, next_of, volume_bytes}
use Rattle.hay_logical.proofs.Tightness.{tight_one, tight_partly, tight_stepped}
use Rattle.hay_logical.specs.Stands.{RunsTight}
use Rattle.std.specs.Prelude.{OnErr, OnOk}
use Rattle.hay_physical.specs.declared.fault.ReplicaFault.TheVariants as fault
use Rattle.hay_logical.specs.declared.fault.LogicalFault.TheVariants as logical
use Rattle.hay_logical.proofs.Changing.{some_none}
use Rattle.hay_legal.specs.Known.{machine_of}
use Rattle.std.proofs.Common.{None, Option, ◌≤◌}
use Rattle.hay_logical.specs.Seen.{BreaksStep, EndsAlone, StepRefusedSeen, StepSeen, StepsPartly, StepsTo, VolumeSeen, replica_seen, volume_seen}
use Rattle.hay_logical.proofs.Lists.{at_map}
use Rattle.hay_physical.specs.declared.fault.ReplicaFault.{ReplicaFault}
use Rattle.hay_logical.specs.Needles.{HeadsLead, HeadsLeadPart, IsDamagedCell, LacksCell}
use Rattle.hay_logical.specs.Sights.{sights_of}
use Rattle.hay_logical.proofs.Sighting.{damaged_answer}
use Rattle.hay_logical.proofs.Seen.{changes_one, no_goal, run_ended, sees_before, step_refused_seen}
use Rattle.hay_logical.proofs.logical.Logical.step.Goals as goal
use Rattle.hay_logical.proofs.logical.Logical.step.Goals.{in-Ok, in-Err}

pub returns-in-Some-clause-refused : goal.returns-in-Some-clause-refused
unfolding Stands
returns-in-Some-clause-refused g c = λ tells k stands. (stands.frozen ∙ ap (λ v. v.frozen) (sym c.self.view_is) ∙ c.in-Some.is, refl)

pub machine_of-machine-requires-clause-within : goal.machine_of-machine-requires-clause-within
machine_of-machine-requires-clause-within g c =
    let most = (c.self.invariant.0).settings.most in
    let within : c.args.replica < c.self.inside.settings.replicas = subst (λ v. c.args.replica < v.settings.replicas) (sym c.self.view_is) c.requires.within in
    omega (arith, most, within)

pub returns-then-is_none-clause-refused : goal.returns-then-is_none-clause-refused
unfolding Stands
returns-then-is_none-clause-refused g c = λ tells k stands. (
  stands.frozen ∙ ap (λ v. v.frozen) (sym c.self.view_is) ∙ not_some c.self.inside.frozen c.in_default.not-Some,
  none_there _ c.standing.result c.is_none.result (c.standing.ensures.known tells k stands) c.is_none.ensures c.if-is_none.true,
  refl,
)

pub step_at-requires : goal.step_at-requires
step_at-requires g c =
    let now = c.as_mut_slice.ensures.value in
    let thawed = not_some c.self.inside.frozen c.in_default.not-Some in
    let up : (j : ℕ) (r : Copy g.row.D.Denot) → At c.self.inside.replicas.items j r → IsUp r =
    λ j r e. open_up r (c.requires.«open».each j r (subst (λ v. At v.replicas j r) c.self.view_is e)) ((c.self.invariant.0).thawed thawed j r e) in
    let all : length c.self.inside.replicas.items ≡ c.self.inside.settings.replicas =
    ap (λ v. length v.replicas) c.self.view_is ∙ c.requires.«open».all ∙ ap (λ v. v.settings.replicas) (sym c.self.view_is) in
    let within : c.args.replica < c.self.inside.settings.replicas = subst (λ v. c.args.replica < v.settings.replicas) (sym c.self.view_is) c.requires.within in
    let most = (c.self.invariant.0).settings.most in
    let few = (c.self.invariant.0).count in
    let long = ap length now in record {
      within = (let less : c.args.replica < length c.as_mut_slice.result.now = omega (arith, within, all, long) in less);
      most = (let n : length c.as_mut_slice.result.now ≤ MAX_REPLICAS = omega (arith, most, few, long) in n);
      width = (c.self.invariant.0).width ∙ sym all ∙ sym long;
      up = (λ j r e. up j r (subst (λ xs. At xs j r) now e));
      standing =
          (λ r e none. stands_there c.standing.result c.is_none.result c.is_none.ensures c.if-is_none.false
          (c.standing.ensures.is r (subst (λ v. At v.replicas c.args.replica r) c.self.view_is (subst (λ xs. At xs c.args.replica r) now e)) ∙ none));
    }

pub invariant_of-self : goal.invariant_of-self
invariant_of-self g c =
    let now = c.as_mut_slice.ensures.value in
    let kept = with_items_is c.self.inside.replicas c.step_at.new.replicas (c.step_at.auto.replicas ∙ c.as_mut_slice.ensures.len) in
    let one : CallsOne c.args.replica c.self.inside.replicas.items c.step_at.new.replicas = subst (λ xs. CallsOne c.args.replica xs c.step_at.new.replicas) now c.step_at.ensures.one in
    let count = one_count c.args.replica c.self.inside.replicas.items c.step_at.new.replicas one in
    let thawed = not_some c.self.inside.frozen c.in_default.not-Some in
    let up : (j : ℕ) (r : Copy g.row.D.Denot) → At c.self.inside.replicas.items j r → IsUp r =
    λ j r e. open_up r (c.requires.«open».each j r (subst (λ v. At v.replicas j r) c.self.view_is e)) ((c.self.invariant.0).thawed thawed j r e) in
    let step : StepsAt g.D.Disk.Tells g.D.Disk.files g.D.Disk.fault_count g.D.Piece.Piece.Tells c.self.inside.rows c.args.replica c.args.cells one.before one.after c.step_at.result =
    c.step_at.ensures.steps one.before one.after (subst (λ xs. At xs c.args.replica one.before) (sym now) one.was) (one_after c.args.replica c.self.inside.replicas.items c.step_at.new.replicas one) in
    let each : (j : ℕ) (r r' : Copy g.row.D.Denot) → At c.self.inside.replicas.items j r → At c.step_at.new.replicas j r'
    → (IsUp r → IsUp r') × (r'.sup ≡ r.sup) × StaysInReach g.D.Disk.Tells g.D.Disk.files r r' =
    one_each (λ (x y : Copy g.row.D.Denot). (IsUp x → IsUp y) × (y.sup ≡ x.sup) × StaysInReach g.D.Disk.Tells g.D.Disk.files x y) c.args.replica c.self.inside.replicas.items c.step_at.new.replicas one
    (λ u. step.on.up, step.on.sup, step.on.reach) (λ x. (λ u. u, refl, λ tells. reach_still g.D.Disk.files x)) in (
      subst (λ rs. IsShaped (volume_with c.self.inside.settings c.self.inside.number rs c.self.inside.rows c.self.inside.front c.self.inside.frozen c.self.inside.unsure)) (sym kept)
          (shaped_on c.self.inside.settings c.self.inside.number c.self.inside.replicas.items c.step_at.new.replicas c.self.inside.rows c.self.inside.rows c.self.inside.front
          c.self.inside.front c.self.inside.frozen c.self.inside.frozen c.self.inside.unsure c.self.inside.unsure
          c.self.invariant.0 (c.self.invariant.0).frozen_by (c.self.invariant.0).settled count (λ j r r' e f. (each j r r' e f).1) refl
          (λ none j r r' e f. up_thawed r' ((each j r r' e f).0 (up j r e)))),
      c.self.invariant.1,
      subst (λ rs. CanReach g.D.Disk.Tells g.D.Disk.files g.D.Piece.Piece.Tells rs c.self.inside.rows) (sym kept)
          (same_rows g.D.Disk.Tells g.D.Disk.files c.self.inside.replicas.items c.step_at.new.replicas c.self.inside.rows c.self.inside.rows c.self.invariant.2 count
          (λ j r r' e f. (λ u. up j r e, λ u. up_open r (up j r e))) (λ j r r' e f. (each j r r' e f).2) (λ pair. refl)),
    )

pub returns-clause-stepped : goal.returns-clause-stepped
unfolding Stands
returns-clause-stepped g c = λ tells k stands.
    let now = c.as_mut_slice.ensures.value in
    let kept = with_items_is c.self.inside.replicas c.step_at.new.replicas (c.step_at.auto.replicas ∙ c.as_mut_slice.ensures.len) in
    let one : CallsOne c.args.replica c.self.inside.replicas.items c.step_at.new.replicas = subst (λ xs. CallsOne c.args.replica xs c.step_at.new.replicas) now c.step_at.ensures.one in
    let thawed = not_some c.self.inside.frozen c.in_default.not-Some in
    let standing : goal_of one.before ≡ None → ⊥ =
    λ e. stands_there c.standing.result c.is_none.result c.is_none.ensures c.if-is_none.false
    (c.standing.ensures.is one.before (subst (λ v. At v.replicas c.args.replica one.before) c.self.view_is one.was) ∙ e) in
    elim c.match-step_at.branch [
      | in-Ok w ↦
          let step : StepsAt g.D.Disk.Tells g.D.Disk.files g.D.Disk.fault_count g.D.Piece.Piece.Tells c.self.inside.rows c.args.replica c.args.cells one.before one.after (Ok w.in-Ok.number) =
          subst (λ x. StepsAt g.D.Disk.Tells g.D.Disk.files g.D.Disk.fault_count g.D.Piece.Piece.Tells c.self.inside.rows c.args.replica c.args.cells one.before one.after x) w.in-Ok.is
          (c.step_at.ensures.steps one.before one.after (subst (λ xs. At xs c.args.replica one.before) (sym now) one.was)
          (one_after c.args.replica c.self.inside.replicas.items c.step_at.new.replicas one)) in
          subst (λ r. IfOk r (λ n. IsStepped g.D.Disk.files g.D.Piece.Piece.Tells k c.args.replica c.args.cells n
          (volume_with c.self.inside.settings c.self.inside.number (with_items c.self.inside.replicas c.step_at.new.replicas).items c.self.inside.rows c.self.inside.front
          c.self.inside.frozen c.self.inside.unsure))) (sym w.result-is)
          (subst (λ rs. IsStepped g.D.Disk.files g.D.Piece.Piece.Tells k c.args.replica c.args.cells w.in-Ok.number
          (volume_with c.self.inside.settings c.self.inside.number rs c.self.inside.rows c.self.inside.front c.self.inside.frozen c.self.inside.unsure)) (sym kept)
          (subst (λ o. IsStepped g.D.Disk.files g.D.Piece.Piece.Tells k c.args.replica c.args.cells w.in-Ok.number
          (volume_with c.self.inside.settings c.self.inside.number c.step_at.new.replicas c.self.inside.rows c.self.inside.front o c.self.inside.unsure)) (sym thawed)
          (stepped_on c.self.inside.settings c.self.inside.number g.D.Disk.Tells g.D.Disk.files g.D.Piece.Piece.Tells g.D.Disk.fault_count c.self.inside.replicas.items
          c.step_at.new.replicas c.self.inside.rows c.self.inside.front c.self.inside.unsure k c.args.replica one
          (subst (λ o. StandsFor g.D.Disk.files g.D.Piece.Piece.Tells (volume_with c.self.inside.settings c.self.inside.number c.self.inside.replicas.items c.self.inside.rows
          c.self.inside.front o c.self.inside.unsure) k) thawed (subst (λ v. StandsFor g.D.Disk.files g.D.Piece.Piece.Tells v k) (sym c.self.view_is) stands)) tells
          c.args.cells w.in-Ok.number standing step)))
      | in-Err w ↦ rw w.result-is tt
    ]

pub returns-clause-refused : goal.returns-clause-refused
unfolding Stands
returns-clause-refused g c = λ tells k stands.
    let now = c.as_mut_slice.ensures.value in
    let kept = with_items_is c.self.inside.replicas c.step_at.new.replicas (c.step_at.auto.replicas ∙ c.as_mut_slice.ensures.len) in
    let one : CallsOne c.args.replica c.self.inside.replicas.items c.step_at.new.replicas = subst (λ xs. CallsOne c.args.replica xs c.step_at.new.replicas) now c.step_at.ensures.one in
    let thawed = not_some c.self.inside.frozen c.in_default.not-Some in
    let standing : goal_of one.before ≡ None → ⊥ =
    λ e. stands_there c.standing.result c.is_none.result c.is_none.ensures c.if-is_none.false
    (c.standing.ensures.is one.before (subst (λ v. At v.replicas c.args.replica one.before) c.self.view_is one.was) ∙ e) in
    elim c.match-step_at.branch [
      | in-Ok w ↦ rw w.result-is tt
      | in-Err w ↦
          let step : StepsAt g.D.Disk.Tells g.D.Disk.files g.D.Disk.fault_count g.D.Piece.Piece.Tells c.self.inside.rows c.args.replica c.args.cells one.before one.after (Err w.in-Err.fault) =
          subst (λ x. StepsAt g.D.Disk.Tells g.D.Disk.files g.D.Disk.fault_count g.D.Piece.Piece.Tells c.self.inside.rows c.args.replica c.args.cells one.before one.after x) w.in-Err.is
          (c.step_at.ensures.steps one.before one.after (subst (λ xs. At xs c.args.replica one.before) (sym now) one.was)
          (one_after c.args.replica c.self.inside.replicas.items c.step_at.new.replicas one)) in
          subst (λ r. IfErr r (StepRefused g.D.Disk.files g.D.Piece.Piece.Tells k c.args.replica c.args.cells c.args.self.now
          (volume_with c.self.inside.settings c.self.inside.number (with_items c.self.inside.replicas c.step_at.new.replicas).items c.self.inside.rows c.self.inside.front
          c.self.inside.frozen c.self.inside.unsure))) (sym w.result-is)
          (subst (λ v. StepRefused g.D.Disk.files g.D.Piece.Piece.Tells k c.args.replica c.args.cells v
          (volume_with c.self.inside.settings c.self.inside.number (with_items c.self.inside.replicas c.step_at.new.replicas).items c.self.inside.rows c.self.inside.front
          c.self.inside.frozen c.self.inside.unsure) w.answer_at.result) c.self.view_is
          (subst (λ rs. StepRefused g.D.Disk.files g.D.Piece.Piece.Tells k c.args.replica c.args.cells
          (volume_with c.self.inside.settings c.self.inside.number c.self.inside.replicas.items c.self.inside.rows c.self.inside.front c.self.inside.frozen
          c.self.inside.unsure) (volume_with c.self.inside.settings c.self.inside.number rs c.self.inside.rows c.self.inside.front c.self.inside.frozen c.self.inside.unsure)
          w.answer_at.result) (sym kept)
          (subst (λ f. StepRefused g.D.Disk.files g.D.Piece.Piece.Tells k c.args.replica c.args.cells
          (volume_with c.self.inside.settings c.self.inside.number c.self.inside.replicas.items c.self.inside.rows c.self.inside.front c.self.inside.frozen
          c.self.inside.unsure) (volume_with c.self.inside.settings c.self.inside.number c.step_at.new.replicas c.self.inside.rows c.self.inside.front c.self.inside.frozen
          c.self.inside.unsure) f) (sym w.answer_at.ensures)
          (subst (λ o. StepRefused g.D.Disk.files g.D.Piece.Piece.Tells k c.args.replica c.args.cells
          (volume_with c.self.inside.settings c.self.inside.number c.self.inside.replicas.items c.self.inside.rows c.self.inside.front o c.self.inside.unsure)
          (volume_with c.self.inside.settings c.self.inside.number c.step_at.new.replicas c.self.inside.rows c.self.inside.front o c.self.inside.unsure)
          (answer_at c.machine_of-machine.result w.in-Err.fault)) (sym thawed)
          (step_refused c.self.inside.settings c.self.inside.number g.D.Disk.Tells g.D.Disk.files g.D.Piece.Piece.Tells g.D.Disk.fault_count c.self.inside.replicas.items
          c.step_at.new.replicas c.self.inside.rows c.self.inside.front c.self.inside.unsure k c.args.replica one
          (subst (λ o. StandsFor g.D.Disk.files g.D.Piece.Piece.Tells (volume_with c.self.inside.settings c.self.inside.number c.self.inside.replicas.items c.self.inside.rows
          c.self.inside.front o c.self.inside.unsure) k) thawed (subst (λ v. StandsFor g.D.Disk.files g.D.Piece.Piece.Tells v k) (sym c.self.view_is) stands)) tells
          c.args.cells c.machine_of-machine.result w.in-Err.fault standing c.machine_of-machine.ensures step)))))
    ]

pub returns-clause-causes : goal.returns-clause-causes
returns-clause-causes g c =
    let now = c.as_mut_slice.ensures.value in
    let kept = with_items_is c.self.inside.replicas c.step_at.new.replicas (c.step_at.auto.replicas ∙ c.as_mut_slice.ensures.len) in
    let one : CallsOne c.args.replica c.self.inside.replicas.items c.step_at.new.replicas = subst (λ xs. CallsOne c.args.replica xs c.step_at.new.replicas) now c.step_at.ensures.one in
    let count = one_count c.args.replica c.self.inside.replicas.items c.step_at.new.replicas one in
    let all : length c.self.inside.replicas.items ≡ c.self.inside.settings.replicas =
    ap (λ v. length v.replicas) c.self.view_is ∙ c.requires.«open».all ∙ ap (λ v. v.settings.replicas) (sym c.self.view_is) in
    elim c.match-step_at.branch [
      | in-Ok w ↦ rw w.result-is tt
      | in-Err w ↦
          let step : StepsAt g.D.Disk.Tells g.D.Disk.files g.D.Disk.fault_count g.D.Piece.Piece.Tells c.self.inside.rows c.args.replica c.args.cells one.before one.after (Err w.in-Err.fault) =
          subst (λ x. StepsAt g.D.Disk.Tells g.D.Disk.files g.D.Disk.fault_count g.D.Piece.Piece.Tells c.self.inside.rows c.args.replica c.args.cells one.before one.after x) w.in-Err.is
          (c.step_at.ensures.steps one.before one.after (subst (λ xs. At xs c.args.replica one.before) (sym now) one.was)
          (one_after c.args.replica c.self.inside.replicas.items c.step_at.new.replicas one)) in
          subst (λ r. IfErr r (answers.IsRunFault g.D.Disk.fault_count c.args.self.now.settings c.args.self.now.number c.args.replica c.args.self.now.replicas
          (with_items c.self.inside.replicas c.step_at.new.replicas).items)) (sym w.result-is)
          (subst (λ v. answers.IsRunFault g.D.Disk.fault_count v.settings v.number c.args.replica v.replicas (with_items c.self.inside.replicas c.step_at.new.replicas).items
          w.answer_at.result) c.self.view_is
          (subst (λ rs. answers.IsRunFault g.D.Disk.fault_count c.self.inside.settings c.self.inside.number c.args.replica c.self.inside.replicas.items rs w.answer_at.result) (sym kept)
          (subst (λ f. answers.IsRunFault g.D.Disk.fault_count c.self.inside.settings c.self.inside.number c.args.replica c.self.inside.replicas.items c.step_at.new.replicas f)
          (sym w.answer_at.ensures)
          (step_fault c.self.inside.settings c.self.inside.number g.D.Disk.Tells g.D.Disk.files g.D.Disk.fault_count g.D.Piece.Piece.Tells c.self.inside.rows c.args.cells
          c.self.inside.replicas.items c.step_at.new.replicas c.args.replica c.machine_of-machine.result w.in-Err.fault one all c.machine_of-machine.ensures step))))
    ]

pub returns-clause-open : goal.returns-clause-open
returns-clause-open g c =
    let now = c.as_mut_slice.ensures.value in
    let kept = with_items_is c.self.inside.replicas c.step_at.new.replicas (c.step_at.auto.replicas ∙ c.as_mut_slice.ensures.len) in
    let one : CallsOne c.args.replica c.self.inside.replicas.items c.step_at.new.replicas = subst (λ xs. CallsOne c.args.replica xs c.step_at.new.replicas) now c.step_at.ensures.one in
    let count = one_count c.args.replica c.self.inside.replicas.items c.step_at.new.replicas one in
    let thawed = not_some c.self.inside.frozen c.in_default.not-Some in
    let up : (j : ℕ) (r : Copy g.row.D.Denot) → At c.self.inside.replicas.items j r → IsUp r =
    λ j r e. open_up r (c.requires.«open».each j r (subst (λ v. At v.replicas j r) c.self.view_is e)) ((c.self.invariant.0).thawed thawed j r e) in
    let step : StepsAt g.D.Disk.Tells g.D.Disk.files g.D.Disk.fault_count g.D.Piece.Piece.Tells c.self.inside.rows c.args.replica c.args.cells one.before one.after c.step_at.result =
    c.step_at.ensures.steps one.before one.after (subst (λ xs. At xs c.args.replica one.before) (sym now) one.was) (one_after c.args.replica c.self.inside.replicas.items c.step_at.new.replicas one) in
    let each : (j : ℕ) (r r' : Copy g.row.D.Denot) → At c.self.inside.replicas.items j r → At c.step_at.new.replicas j r'
    → (IsUp r → IsUp r') × (r'.sup ≡ r.sup) × StaysInReach g.D.Disk.Tells g.D.Disk.files r r' =
    one_each (λ (x y : Copy g.row.D.Denot). (IsUp x → IsUp y) × (y.sup ≡ x.sup) × StaysInReach g.D.Disk.Tells g.D.Disk.files x y) c.args.replica c.self.inside.replicas.items c.step_at.new.replicas one
    (λ u. step.on.up, step.on.sup, step.on.reach) (λ x. (λ u. u, refl, λ tells. reach_still g.D.Disk.files x)) in
    record {
      all = ap length kept ∙ count ∙ ap (λ v. length v.replicas) c.self.view_is ∙ c.requires.«open».all ∙ ap (λ v. v.settings.replicas) (sym c.self.view_is);
      each = λ j r' f.
          let there = subst (λ xs. At xs j r') kept f in
          let old = at_there c.self.inside.replicas.items j (subst (λ n. j < n) count (at_below c.step_at.new.replicas j r' there)) in
          up_open r' ((each j old.0 r' old.1 there).0 (up j old.0 old.1));
    }

pub returns-clause-counts : goal.returns-clause-counts
returns-clause-counts g c =
    let now = c.as_mut_slice.ensures.value in
    let kept = with_items_is c.self.inside.replicas c.step_at.new.replicas (c.step_at.auto.replicas ∙ c.as_mut_slice.ensures.len) in
    let one : CallsOne c.args.replica c.self.inside.replicas.items c.step_at.new.replicas = subst (λ xs. CallsOne c.args.replica xs c.step_at.new.replicas) now c.step_at.ensures.one in
    let count = one_count c.args.replica c.self.inside.replicas.items c.step_at.new.replicas one in
    subst (λ rs. KeepsCounts g.D.Disk.fault_count g.D.Disk.fuse_count c.args.self.now.replicas rs) (sym kept)
    (subst (λ xs. KeepsCounts g.D.Disk.fault_count g.D.Disk.fuse_count xs c.step_at.new.replicas) (now ∙ ap (λ v. v.replicas) c.self.view_is) c.step_at.ensures.counts)

pub returns-in-Some-clause-same : goal.returns-in-Some-clause-same
returns-in-Some-clause-same g c = same_still _

pub returns-clause-same : goal.returns-clause-same
returns-clause-same g c =
    let now = c.as_mut_slice.ensures.value in
    let kept = with_items_is c.self.inside.replicas c.step_at.new.replicas (c.step_at.auto.replicas ∙ c.as_mut_slice.ensures.len) in
    let one : CallsOne c.args.replica c.self.inside.replicas.items c.step_at.new.replicas = subst (λ xs. CallsOne c.args.replica xs c.step_at.new.replicas) now c.step_at.ensures.one in
    let step : StepsAt g.D.Disk.Tells g.D.Disk.files g.D.Disk.fault_count g.D.Piece.Piece.Tells c.self.inside.rows c.args.replica c.args.cells one.before one.after c.step_at.result =
    c.step_at.ensures.steps one.before one.after (subst (λ xs. At xs c.args.replica one.before) (sym now) one.was) (one_after c.args.replica c.self.inside.replicas.items c.step_at.new.replicas one) in
    same_by _ _ _ _ c.self.view_is refl refl kept
    (one_each (λ (x y : Copy g.row.D.Denot). y.sup ≡ x.sup) c.args.replica c.self.inside.replicas.items c.step_at.new.replicas one step.on.sup (λ x. refl))

pub returns-in-Some-clause-causes : goal.returns-in-Some-clause-causes
returns-in-Some-clause-causes g c =
    subst (λ (v : Volume g.row.D.Denot g.row.D-Piece.Denot). IsMachineOf v.settings v.number c.in-Some.machine) c.self.view_is ((c.self.invariant.0).frozen_by c.in-Some.machine c.in-Some.is)

pub returns-clause-still : goal.returns-clause-still
returns-clause-still g c = ap (λ (v : Volume g.row.D.Denot g.row.D-Piece.Denot). record v { replicas = (with_items c.self.inside.replicas c.step_at.new.replicas).items }) c.self.view_is

pub returns-clause-others : goal.returns-clause-others
returns-clause-others g c = λ j apart r r' e f.
    let now = c.as_mut_slice.ensures.value in
    let kept = with_items_is c.self.inside.replicas c.step_at.new.replicas (c.step_at.auto.replicas ∙ c.as_mut_slice.ensures.len) in
    let one : CallsOne c.args.replica c.self.inside.replicas.items c.step_at.new.replicas = subst (λ xs. CallsOne c.args.replica xs c.step_at.new.replicas) now c.step_at.ensures.one in
    other_same c.args.replica c.self.inside.replicas.items c.step_at.new.replicas one j apart r r' (subst (λ v. At v.replicas j r) (sym c.self.view_is) e) (subst (λ xs. At xs j r') kept f)

pub returns-in-Some-clause-others : goal.returns-in-Some-clause-others
returns-in-Some-clause-others g c = λ j apart r r' e f. at_same c.args.self.now.replicas j r' r f e

pub returns-then-is_none-clause-others : goal.returns-then-is_none-clause-others
returns-then-is_none-clause-others g c = λ j apart r r' e f. at_same c.args.self.now.replicas j r' r f e

pub returns-clause-untouched : goal.returns-clause-untouched
returns-clause-untouched g c =
    let now = c.as_mut_slice.ensures.value in
    let kept = with_items_is c.self.inside.replicas c.step_at.new.replicas (c.step_at.auto.replicas ∙ c.as_mut_slice.ensures.len) in
    let one : CallsOne c.args.replica c.self.inside.replicas.items c.step_at.new.replicas = subst (λ xs. CallsOne c.args.replica xs c.step_at.new.replicas) now c.step_at.ensures.one in
    elim c.match-step_at.branch [
      | in-Ok w ↦ rw w.result-is tt
      | in-Err w ↦
          let step : StepsAt g.D.Disk.Tells g.D.Disk.files g.D.Disk.fault_count g.D.Piece.Piece.Tells c.self.inside.rows c.args.replica c.args.cells one.before one.after (Err w.in-Err.fault) =
          subst (λ x. StepsAt g.D.Disk.Tells g.D.Disk.files g.D.Disk.fault_count g.D.Piece.Piece.Tells c.self.inside.rows c.args.replica c.args.cells one.before one.after x) w.in-Err.is
          (c.step_at.ensures.steps one.before one.after (subst (λ xs. At xs c.args.replica one.before) (sym now) one.was)
          (one_after c.args.replica c.self.inside.replicas.items c.step_at.new.replicas one)) in
          let new : Volume g.row.D.Denot g.row.D-Piece.Denot =
          volume_with c.self.inside.settings c.self.inside.number (with_items c.self.inside.replicas c.step_at.new.replicas).items c.self.inside.rows c.self.inside.front
          c.self.inside.frozen c.self.inside.unsure in
          subst (λ r. IfErr r (λ (f : LogicalFault). IsUntouchedBy f → new ≡ c.args.self.now)) (sym w.result-is)
          (subst (λ (f : LogicalFault). IsUntouchedBy f → new ≡ c.args.self.now) (sym w.answer_at.ensures)
          (λ by. ap (λ rs. volume_with c.self.inside.settings c.self.inside.number rs c.self.inside.rows c.self.inside.front c.self.inside.frozen c.self.inside.unsure)
          (kept ∙ one_untouched c.args.replica c.self.inside.replicas.items c.step_at.new.replicas one
          (step_untouched g.D.Disk.fault_count one.before one.after c.machine_of-machine.result c.args.cells w.in-Err.fault step.cause by)) ∙ c.self.view_is))
    ]

pub returns-clause-stuck : goal.returns-clause-stuck
returns-clause-stuck g c = λ j r r' e f.
    let now = c.as_mut_slice.ensures.value in
    let kept = with_items_is c.self.inside.replicas c.step_at.new.replicas (c.step_at.auto.replicas ∙ c.as_mut_slice.ensures.len) in
    let one : CallsOne c.args.replica c.self.inside.replicas.items c.step_at.new.replicas = subst (λ xs. CallsOne c.args.replica xs c.step_at.new.replicas) now c.step_at.ensures.one in
    let step : StepsAt g.D.Disk.Tells g.D.Disk.files g.D.Disk.fault_count g.D.Piece.Piece.Tells c.self.inside.rows c.args.replica c.args.cells one.before one.after c.step_at.result =
    c.step_at.ensures.steps one.before one.after (subst (λ xs. At xs c.args.replica one.before) (sym now) one.was) (one_after c.args.replica c.self.inside.replicas.items c.step_at.new.replicas one) in
    one_each (λ (x y : Copy g.row.D.Denot). is_stuck y ≡ is_stuck x) c.args.replica c.self.inside.replicas.items c.step_at.new.replicas one (step.on.stuck) (λ x. refl)
    j r r' (subst (λ v. At v.replicas j r) (sym c.self.view_is) e) (subst (λ xs. At xs j r') kept f)

pub returns-in-Some-clause-stuck : goal.returns-in-Some-clause-stuck
returns-in-Some-clause-stuck g c = stuck_same c.args.self.now.replicas

pub returns-then-is_none-clause-stuck : goal.returns-then-is_none-clause-stuck
returns-then-is_none-clause-stuck g c = stuck_same c.args.self.now.replicas

pub returns-clause-tight : goal.returns-clause-tight
unfolding Stands
returns-clause-tight g c = λ tells k stands j tight.
    let now = c.as_mut_slice.ensures.value in
    let kept = with_items_is c.self.inside.replicas c.step_at.new.replicas (c.step_at.auto.replicas ∙ c.as_mut_slice.ensures.len) in
    let one : CallsOne c.args.replica c.self.inside.replicas.items c.step_at.new.replicas = subst (λ xs. CallsOne c.args.replica xs c.step_at.new.replicas) now c.step_at.ensures.one in
    let there = one_after c.args.replica c.self.inside.replicas.items c.step_at.new.replicas one in
    let step : StepsAt g.D.Disk.Tells g.D.Disk.files g.D.Disk.fault_count g.D.Piece.Piece.Tells c.self.inside.rows c.args.replica c.args.cells one.before one.after c.step_at.result =
    c.step_at.ensures.steps one.before one.after (subst (λ xs. At xs c.args.replica one.before) (sym now) one.was) there in
    let thawed = not_some c.self.inside.frozen c.in_default.not-Some in
    let known =
    takes g.D.Disk.Tells g.D.Disk.files g.D.Piece.Piece.Tells c.self.inside.settings c.self.inside.number c.self.inside.replicas.items c.self.inside.rows c.self.inside.front
    c.self.inside.frozen c.self.inside.unsure k
    (subst (λ v. StandsFor g.D.Disk.files g.D.Piece.Piece.Tells v k) (sym c.self.view_is) stands) thawed in
    let was = known.each c.args.replica one.before one.was in
    elim c.match-step_at.branch [
      | in-Ok w ↦
          let done : StepsAt g.D.Disk.Tells g.D.Disk.files g.D.Disk.fault_count g.D.Piece.Piece.Tells c.self.inside.rows c.args.replica c.args.cells one.before one.after (Ok w.in-Ok.number) =
          subst (λ x. StepsAt g.D.Disk.Tells g.D.Disk.files g.D.Disk.fault_count g.D.Piece.Piece.Tells c.self.inside.rows c.args.replica c.args.cells one.before one.after x) w.in-Ok.is step in
          subst (λ r. OnOk r ((x : Copy g.row.D.Denot) → At (with_items c.self.inside.replicas c.step_at.new.replicas).items j x → RunsTight g.D.Disk.files x)) (sym w.result-is)
          (λ x f. tight_one g.D.Disk.files c.args.replica c.self.inside.replicas.items c.step_at.new.replicas one
          (tight_stepped g.D.Disk.files one.before one.after g.D.Disk.Tells g.D.Disk.fault_count tells g.D.Piece.Piece.Tells c.self.inside.rows c.args.replica c.args.cells
          was.stored was.stands was.places w.in-Ok.number done)
          j (λ r e. tight r (subst (λ v. At v.replicas j r) c.self.view_is e)) x (subst (λ xs. At xs j x) kept f))
      | in-Err w ↦ rw w.result-is tt
    ]

pub returns-clause-tight_partly : goal.returns-clause-tight_partly
unfolding Stands
returns-clause-tight_partly g c = λ tells k stands j tight said x f.
    let now = c.as_mut_slice.ensures.value in
    let kept = with_items_is c.self.inside.replicas c.step_at.new.replicas (c.step_at.auto.replicas ∙ c.as_mut_slice.ensures.len) in
    let one : CallsOne c.args.replica c.self.inside.replicas.items c.step_at.new.replicas = subst (λ xs. CallsOne c.args.replica xs c.step_at.new.replicas) now c.step_at.ensures.one in
    let there = one_after c.args.replica c.self.inside.replicas.items c.step_at.new.replicas one in
    let step : StepsAt g.D.Disk.Tells g.D.Disk.files g.D.Disk.fault_count g.D.Piece.Piece.Tells c.self.inside.rows c.args.replica c.args.cells one.before one.after c.step_at.result =
    c.step_at.ensures.steps one.before one.after (subst (λ xs. At xs c.args.replica one.before) (sym now) one.was) there in
    let thawed = not_some c.self.inside.frozen c.in_default.not-Some in
    let known =
    takes g.D.Disk.Tells g.D.Disk.files g.D.Piece.Piece.Tells c.self.inside.settings c.self.inside.number c.self.inside.replicas.items c.self.inside.rows c.self.inside.front
    c.self.inside.frozen c.self.inside.unsure k
    (subst (λ v. StandsFor g.D.Disk.files g.D.Piece.Piece.Tells v k) (sym c.self.view_is) stands) thawed in
    let was = known.each c.args.replica one.before one.was in
    elim c.match-step_at.branch [
      | in-Ok w ↦ let wrong : Ok w.in-Ok.number ≡ Err logical.NoMemory = sym w.result-is ∙ said in absurd cc
      | in-Err w ↦
          let both : Err w.answer_at.result ≡ Err logical.NoMemory = sym w.result-is ∙ said in
          let memory : w.in-Err.fault ≡ fault.NoMemory =
          answered_memory c.machine_of-machine.result w.in-Err.fault (sym w.answer_at.ensures ∙ (let same : w.answer_at.result ≡ logical.NoMemory = cc in same)) in
          let done : StepsAt g.D.Disk.Tells g.D.Disk.files g.D.Disk.fault_count g.D.Piece.Piece.Tells c.self.inside.rows c.args.replica c.args.cells one.before one.after (Err fault.NoMemory) =
          subst (λ x. StepsAt g.D.Disk.Tells g.D.Disk.files g.D.Disk.fault_count g.D.Piece.Piece.Tells c.self.inside.rows c.args.replica c.args.cells one.before one.after x)
          (w.in-Err.is ∙ ap Err memory) step in
          tight_one g.D.Disk.files c.args.replica c.self.inside.replicas.items c.step_at.new.replicas one
          (tight_partly g.D.Disk.files one.before one.after g.D.Disk.Tells g.D.Disk.fault_count tells g.D.Piece.Piece.Tells c.self.inside.rows c.args.replica c.args.cells
          was.stored was.stands was.places done)
          j (λ r e. tight r (subst (λ v. At v.replicas j r) c.self.view_is e)) x (subst (λ xs. At xs j x) kept f)
    ]

pub returns-in-Some-clause-thawed : goal.returns-in-Some-clause-thawed
returns-in-Some-clause-thawed g c = λ none m e. some_none (sym c.in-Some.is ∙ ap (λ v. v.frozen) c.self.view_is ∙ none)

pub returns-clause-thawed : goal.returns-clause-thawed
returns-clause-thawed g c = λ none m e.
    let now = c.as_mut_slice.ensures.value in
    let one : CallsOne c.args.replica c.self.inside.replicas.items c.step_at.new.replicas = subst (λ xs. CallsOne c.args.replica xs c.step_at.new.replicas) now c.step_at.ensures.one in
    elim c.match-step_at.branch [
      | in-Ok w ↦ let wrong = sym w.result-is ∙ e in absurd cc
      | in-Err w ↦
          let step : StepsAt g.D.Disk.Tells g.D.Disk.files g.D.Disk.fault_count g.D.Piece.Piece.Tells c.self.inside.rows c.args.replica c.args.cells one.before one.after (Err w.in-Err.fault) =
          subst (λ x. StepsAt g.D.Disk.Tells g.D.Disk.files g.D.Disk.fault_count g.D.Piece.Piece.Tells c.self.inside.rows c.args.replica c.args.cells one.before one.after x) w.in-Err.is
          (c.step_at.ensures.steps one.before one.after (subst (λ xs. At xs c.args.replica one.before) (sym now) one.was)
          (one_after c.args.replica c.self.inside.replicas.items c.step_at.new.replicas one)) in
          let said : Err w.answer_at.result ≡ Err (logical.ReadOnly m) = sym w.result-is ∙ e in
          step_thawed g.D.Disk.fault_count one.before one.after c.machine_of-machine.result c.args.cells w.in-Err.fault m step.cause
          (sym w.answer_at.ensures ∙ (let same : w.answer_at.result ≡ logical.ReadOnly m = cc in same))
    ]

pub returns-in-Some-clause-refused_seen : goal.returns-in-Some-clause-refused_seen
returns-in-Some-clause-refused_seen g c = (refl, ap (λ v. v.frozen) (sym c.self.view_is) ∙ c.in-Some.is)

pub returns-clause-seen : goal.returns-clause-seen
returns-clause-seen g c =
    let now = c.as_mut_slice.ensures.value in
    let kept = with_items_is c.self.inside.replicas c.step_at.new.replicas (c.step_at.auto.replicas ∙ c.as_mut_slice.ensures.len) in
    let one : CallsOne c.args.replica c.self.inside.replicas.items c.step_at.new.replicas = subst (λ xs. CallsOne c.args.replica xs c.step_at.new.replicas) now c.step_at.ensures.one in
    let was : At c.as_mut_slice.result.now c.args.replica one.before = subst (λ xs. At xs c.args.replica one.before) (sym now) one.was in
    let there = one_after c.args.replica c.self.inside.replicas.items c.step_at.new.replicas one in
    let none : c.args.self.now.frozen ≡ None = ap (λ v. v.frozen) (sym c.self.view_is) ∙ not_some c.self.inside.frozen c.in_default.not-Some in
    let new : VolumeSeen = volume_seen (volume_with c.self.inside.settings c.self.inside.number
    (with_items c.self.inside.replicas c.step_at.new.replicas).items c.self.inside.rows c.self.inside.front c.self.inside.frozen c.self.inside.unsure) in
    let old : VolumeSeen = volume_seen c.args.self.now in
    elim c.match-step_at.branch [
      | in-Ok w ↦
          let steps : StepsTo c.args.cells w.in-Ok.number (replica_seen one.before) (replica_seen one.after) =
          subst (λ x. IfOk x (λ number. StepsTo c.args.cells number (replica_seen one.before) (replica_seen one.after))) w.in-Ok.is (c.step_at.ensures.seen one.before one.after was there) in
          subst (λ r. IfOk r (λ number. StepSeen c.args.replica c.args.cells number old new)) (sym w.result-is) (
            none,
            changes_one c.args.replica (StepsTo c.args.cells w.in-Ok.number) c.self.inside.settings c.self.inside.number c.self.inside.replicas.items c.step_at.new.replicas
                c.self.inside.rows c.self.inside.front c.self.inside.frozen c.self.inside.unsure one c.args.self.now c.self.view_is
                (with_items c.self.inside.replicas c.step_at.new.replicas).items kept steps,
          )
      | in-Err w ↦ rw w.result-is tt
    ]

pub returns-clause-refused_seen : goal.returns-clause-refused_seen
returns-clause-refused_seen g c =
    let now = c.as_mut_slice.ensures.value in
    let kept = with_items_is c.self.inside.replicas c.step_at.new.replicas (c.step_at.auto.replicas ∙ c.as_mut_slice.ensures.len) in
    let one : CallsOne c.args.replica c.self.inside.replicas.items c.step_at.new.replicas = subst (λ xs. CallsOne c.args.replica xs c.step_at.new.replicas) now c.step_at.ensures.one in
    let was : At c.as_mut_slice.result.now c.args.replica one.before = subst (λ xs. At xs c.args.replica one.before) (sym now) one.was in
    let there = one_after c.args.replica c.self.inside.replicas.items c.step_at.new.replicas one in
    let step : StepsAt g.D.Disk.Tells g.D.Disk.files g.D.Disk.fault_count g.D.Piece.Piece.Tells c.self.inside.rows c.args.replica c.args.cells one.before one.after c.step_at.result =
    c.step_at.ensures.steps one.before one.after was there in
    let none : c.args.self.now.frozen ≡ None = ap (λ v. v.frozen) (sym c.self.view_is) ∙ not_some c.self.inside.frozen c.in_default.not-Some in
    let new : VolumeSeen = volume_seen (volume_with c.self.inside.settings c.self.inside.number
    (with_items c.self.inside.replicas c.step_at.new.replicas).items c.self.inside.rows c.self.inside.front c.self.inside.frozen c.self.inside.unsure) in
    let old : VolumeSeen = volume_seen c.args.self.now in
    elim c.match-step_at.branch [
      | in-Ok w ↦ rw w.result-is tt
      | in-Err w ↦
          let left : StepsAt g.D.Disk.Tells g.D.Disk.files g.D.Disk.fault_count g.D.Piece.Piece.Tells c.self.inside.rows c.args.replica c.args.cells one.before one.after (Err w.in-Err.fault) =
          subst (λ x. StepsAt g.D.Disk.Tells g.D.Disk.files g.D.Disk.fault_count g.D.Piece.Piece.Tells c.self.inside.rows c.args.replica c.args.cells one.before one.after x) w.in-Err.is step in
          let said : w.answer_at.result ≡ answer_at (machine_of c.args.self.now.settings c.args.self.now.number c.args.replica) w.in-Err.fault =
          w.answer_at.ensures ∙ ap (λ m. answer_at m w.in-Err.fault) (c.machine_of-machine.ensures ∙ ap
          (λ (v : Volume g.row.D.Denot g.row.D-Piece.Denot). machine_of v.settings v.number c.args.replica) c.self.view_is) in
          let broken : BreaksStep (replica_seen one.before) (replica_seen one.after) =
          subst (λ x. OnErr x (BreaksStep (replica_seen one.before) (replica_seen one.after))) w.in-Err.is (c.step_at.ensures.left one.before one.after was there) in
          let has : goal_of one.before ≡ None → ⊥ =
          λ none. stands_there c.standing.result c.is_none.result c.is_none.ensures c.if-is_none.false
          (c.standing.ensures.is one.before (subst (λ v. At v.replicas c.args.replica one.before) c.self.view_is one.was) ∙ none) in
          subst (λ r. IfErr r (StepRefusedSeen c.args.self.now.settings c.args.self.now.number c.args.replica c.args.cells old new)) (sym w.result-is)
          (subst (λ f. StepRefusedSeen c.args.self.now.settings c.args.self.now.number c.args.replica c.args.cells old new f) (sym said)
          (step_refused_seen c.args.self.now.settings c.args.self.now.number c.args.replica g.D.Disk.fault_count one.before one.after old new
          (sees_before c.args.replica c.self.inside.settings c.self.inside.number c.self.inside.replicas.items c.step_at.new.replicas c.self.inside.rows c.self.inside.front
          c.self.inside.frozen c.self.inside.unsure one c.args.self.now c.self.view_is (with_items c.self.inside.replicas c.step_at.new.replicas).items kept) c.args.cells none
          w.in-Err.fault left.cause
          (λ goal. changes_one c.args.replica StepsPartly c.self.inside.settings c.self.inside.number c.self.inside.replicas.items c.step_at.new.replicas c.self.inside.rows c.self.inside.front
          c.self.inside.frozen c.self.inside.unsure one c.args.self.now c.self.view_is (with_items c.self.inside.replicas c.step_at.new.replicas).items kept
          (has, broken.0 ∙ ap (λ (o : Option ℕ). record (replica_seen one.before) { goal = o; next = next_of one.after }) goal, (broken.1 goal).0, (broken.1 goal).1))
          (λ goal. changes_one c.args.replica EndsAlone c.self.inside.settings c.self.inside.number c.self.inside.replicas.items c.step_at.new.replicas c.self.inside.rows c.self.inside.front
          c.self.inside.frozen c.self.inside.unsure one c.args.self.now c.self.view_is (with_items c.self.inside.replicas c.step_at.new.replicas).items kept
          (has, run_ended one.before one.after broken.0 goal))))
    ]

pub returns-then-is_none-clause-refused_seen : goal.returns-then-is_none-clause-refused_seen
returns-then-is_none-clause-refused_seen g c =
    let within = c.requires.within in
    let all = c.requires.«open».all in
    let r = at_there c.args.self.now.replicas c.args.replica (let less : c.args.replica < length c.args.self.now.replicas = omega (arith, within, all) in less) in (
      (ap (λ v. v.frozen) (sym c.self.view_is) ∙ not_some c.self.inside.frozen c.in_default.not-Some, refl),
      (
        replica_seen r.0,
        at_map replica_seen c.args.self.now.replicas c.args.replica r.0 r.1,
        sym
            (c.standing.ensures.is r.0 r.1) ∙ no_goal c.standing.result c.is_none.result c.is_none.ensures c.if-is_none.true,
      ),
    )

pub returns-clause-damaged : goal.returns-clause-damaged
returns-clause-damaged g c = λ tells m place e. elim c.match-step_at.branch [
  | in-Ok w ↦ let wrong = sym w.result-is ∙ e in cc
  | in-Err w ↦
      let both = sym w.result-is ∙ e in
      let by : w.answer_at.result ≡ logical.Damaged m place = cc in
      let is = damaged_answer c.machine_of-machine.result w.in-Err.fault m place (sym w.answer_at.ensures ∙ by) in
      let here = c.step_at.ensures.damaged tells place (w.in-Err.is ∙ ap (λ (f : ReplicaFault). Err f) is) in
      subst (λ v. IsDamagedCell g.D.Disk.files v.replicas c.args.replica (LacksCell (sights_of v.rows) c.args.replica c.args.cells place)) c.self.view_is
      (subst (λ xs. IsDamagedCell g.D.Disk.files xs c.args.replica (LacksCell (sights_of c.self.inside.rows) c.args.replica c.args.cells place)) c.as_mut_slice.ensures.value here)
]

pub returns-clause-lead : goal.returns-clause-lead
returns-clause-lead g c = λ tells r r' e f.
    let now = c.as_mut_slice.ensures.value in
    let kept = with_items_is c.self.inside.replicas c.step_at.new.replicas (c.step_at.auto.replicas ∙ c.as_mut_slice.ensures.len) in
    let was : At c.as_mut_slice.result.now c.args.replica r = subst (λ xs. At xs c.args.replica r) (sym now) (subst (λ v. At v.replicas c.args.replica r) (sym c.self.view_is) e) in
    let lead = c.step_at.ensures.lead tells r r' was (subst (λ xs. At xs c.args.replica r') kept f) in
    elim c.match-step_at.branch [
      | in-Ok w ↦
          subst (λ x. IfOk x (λ number. HeadsLead (sights_of c.args.self.now.rows) c.args.replica number (next_of r) (next_of r') (volume_bytes g.D.Disk.files r))) (sym w.result-is)
          (subst (λ v. HeadsLead (sights_of v.rows) c.args.replica w.in-Ok.number (next_of r) (next_of r') (volume_bytes g.D.Disk.files r)) c.self.view_is
          (subst (λ x. IfOk x (λ number. HeadsLead (sights_of c.self.inside.rows) c.args.replica number (next_of r) (next_of r') (volume_bytes g.D.Disk.files r))) w.in-Ok.is lead))
      | in-Err w ↦ rw w.result-is tt
    ]

pub returns-clause-part : goal.returns-clause-part
returns-clause-part g c = λ tells r r' e f said.
    let now = c.as_mut_slice.ensures.value in
    let kept = with_items_is c.self.inside.replicas c.step_at.new.replicas (c.step_at.auto.replicas ∙ c.as_mut_slice.ensures.len) in
    let was : At c.as_mut_slice.result.now c.args.replica r = subst (λ xs. At xs c.args.replica r) (sym now) (subst (λ v. At v.replicas c.args.replica r) (sym c.self.view_is) e) in
    let there : At c.step_at.new.replicas c.args.replica r' = subst (λ xs. At xs c.args.replica r') kept f in
    elim c.match-step_at.branch [
      | in-Ok w ↦ let wrong : Ok w.in-Ok.number ≡ Err logical.NoMemory = sym w.result-is ∙ said in absurd cc
      | in-Err w ↦
          let both : Err w.answer_at.result ≡ Err logical.NoMemory = sym w.result-is ∙ said in
          let memory : w.in-Err.fault ≡ fault.NoMemory =
          answered_memory c.machine_of-machine.result w.in-Err.fault (sym w.answer_at.ensures ∙ (let same : w.answer_at.result ≡ logical.NoMemory = cc in same)) in
          subst (λ v. HeadsLeadPart (sights_of v.rows) c.args.replica c.args.cells (next_of r) (next_of r') (volume_bytes g.D.Disk.files r)) c.self.view_is
          (c.step_at.ensures.part tells r r' was there (w.in-Err.is ∙ ap (λ (f : ReplicaFault). Err f) memory))
    ]

pub returns-in-Some-clause-head_file : goal.returns-in-Some-clause-head_file
returns-in-Some-clause-head_file g c = λ tells r r' e f. ap (λ (x : Copy g.row.D.Denot). contents_of g.D.Disk.files x.disk 0) (at_same c.args.self.now.replicas c.args.replica r' r f e)

pub returns-then-is_none-clause-head_file : goal.returns-then-is_none-clause-head_file
returns-then-is_none-clause-head_file g c = λ tells r r' e f. ap (λ (x : Copy g.row.D.Denot). contents_of g.D.Disk.files x.disk 0) (at_same c.args.self.now.replicas c.args.replica r' r f e)

pub returns-clause-head_file : goal.returns-clause-head_file
returns-clause-head_file g c = λ tells r r' e f.
    let now = c.as_mut_slice.ensures.value in
    let kept = with_items_is c.self.inside.replicas c.step_at.new.replicas (c.step_at.auto.replicas ∙ c.as_mut_slice.ensures.len) in
    let was : At c.as_mut_slice.result.now c.args.replica r = subst (λ xs. At xs c.args.replica r) (sym now) (subst (λ v. At v.replicas c.args.replica r) (sym c.self.view_is) e) in
    let there : At c.step_at.new.replicas c.args.replica r' = subst (λ xs. At xs c.args.replica r') kept f in
    ((c.step_at.ensures.steps r r' was there).on).head tells
