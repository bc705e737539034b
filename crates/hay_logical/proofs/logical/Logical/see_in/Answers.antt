use Rattle.std.proofs.Common.{◌≡◌, ◌≤◌, ◌<◌, ℕ, length, Err, refl, sym, ap, subst, ◌∙◌, arith}
use Rattle.std.specs.Prelude.{IfErr, OnErr, OnOk}
use Rattle.std.specs.Vec.{with_items}
use Rattle.std.proofs.lemmas.List.{with_items_is}
use Rattle.hay_needle.specs.Tables.{outcome_at}
use Rattle.hay_legal.specs.Known as legal
use Rattle.hay_legal.specs.Known.{replica_at}
use Rattle.hay_map.specs.Places.{PlaceMeans, place_in}
use Rattle.hay_map.specs.Rows.{row_at}
use Rattle.hay_compact.specs.Finishing.{IsSeen}
use Rattle.hay_needle.specs.declared.needle.Pair.{Pair}
use Rattle.hay_needle.specs.declared.settings.TheConstants.{MAX_REPLICAS}
use Rattle.hay_physical.specs.Faults as physical_faults
use Rattle.hay_physical.specs.OpenCopies.{Copy, IsOpenCopy, goal_of, is_frozen}
use Rattle.hay_physical.specs.declared.fault.ReplicaFault.{ReplicaFault}
use Rattle.hay_logical.specs.Answers as answers
use Rattle.hay_logical.specs.Fits.{At}
use Rattle.hay_logical.specs.Stands.{Stands, StandsFor}
use Rattle.hay_logical.specs.ReplicaCalls.{CallsOne, IsSeenBy, KeepsFiles, SetsPlaceAt, SightsAt}
use Rattle.hay_logical.specs.Volumes.{CanReach, IsShaped, KeepsCounts, Volume}
use Rattle.hay_logical.proofs.Lists.{at_below, at_there}
use Rattle.hay_logical.proofs.Bytes.{files_one}
use Rattle.hay_logical.proofs.Methods.{one_after, one_count, one_each, other_same, same_by, shaped_on}
use Rattle.hay_logical.proofs.Sighting.{damaged_answer, failed_machine, known_seen, reach_seen, saw, seen_whole, sight_cause}
use Rattle.hay_logical.proofs.Standing.{volume_with}
use Rattle.hay_physical.specs.OpenCopies.{is_stuck}
use Rattle.hay_logical.proofs.Tightness.{tight_one, tight_seen}
use Rattle.std.proofs.Common.{◌≡◌, ap, ◌∙◌}
use Rattle.hay_logical.specs.Seen.{replica_seen}
use Rattle.hay_logical.proofs.Seen.{same_one}
use Rattle.std.proofs.Common.{inl, inr}
use Rattle.std.proofs.lemmas.Bool.{cases_eq}
use Rattle.hay_physical.specs.OpenCopies.{volume_bytes}
use Rattle.hay_logical.specs.declared.fault.LogicalFault.TheVariants as refusal
use Rattle.hay_logical.specs.Needles.{IsDamagedLook, IsToldBy, LacksSeenOn}
use Rattle.hay_logical.specs.Sights.{LookRefusedSights, SeeRefusedSights, SeesPair, sight, sights_of}
use Rattle.hay_logical.specs.ReplicaCalls.{LookAwaited}
use Rattle.hay_logical.proofs.Needles.{damaged_machine, told_same}
use Rattle.hay_logical.proofs.Sighting.{other_places}
use Rattle.hay_logical.proofs.SightChanges.{look_refused_at, see_refused_at, sights_kept}
use Rattle.hay_logical.proofs.logical.Logical.see_in.Goals as goal
use Rattle.hay_logical.proofs.logical.Logical.see_in.Goals.{in-Ok, in-Err}

pub machine_of-machine-requires-clause-within : goal.machine_of-machine-requires-clause-within
machine_of-machine-requires-clause-within g c =
    let most = (c.self.invariant.0).settings.most in
    let within : c.args.replica < c.self.inside.settings.replicas = subst (λ v. c.args.replica < v.settings.replicas) (sym c.self.view_is) c.requires.within in
    omega (arith, most, within)

pub see_at-requires : goal.see_at-requires
see_at-requires g c =
    let now = c.as_mut_slice.ensures.value in
    let all : length c.self.inside.replicas.items ≡ c.self.inside.settings.replicas =
    ap (λ v. length v.replicas) c.self.view_is ∙ c.requires.«open».all ∙ ap (λ v. v.settings.replicas) (sym c.self.view_is) in
    let within : c.args.replica < c.self.inside.settings.replicas = subst (λ v. c.args.replica < v.settings.replicas) (sym c.self.view_is) c.requires.within in
    let most = (c.self.invariant.0).settings.most in
    let few = (c.self.invariant.0).count in
    let long = ap length now in
    let is : (j : ℕ) (r : Copy g.row.D.Denot) → At c.as_mut_slice.result.now j r → IsOpenCopy r =
    λ j r e. c.requires.«open».each j r (subst (λ v. At v.replicas j r) c.self.view_is (subst (λ xs. At xs j r) now e)) in record {
      within = (let less : c.args.replica < length c.as_mut_slice.result.now = omega (arith, within, all, long) in less);
      most = (let n : length c.as_mut_slice.result.now ≤ MAX_REPLICAS = omega (arith, most, few, long) in n);
      width = (c.self.invariant.0).width ∙ sym all ∙ sym long;
      «open» = is;
      may = λ tells r e. ((c.self.invariant.2 tells c.args.replica r (subst (λ xs. At xs c.args.replica r) now e)).sees (is c.args.replica r e)).may c.args.pair;
    }

pub invariant_of-self : goal.invariant_of-self
invariant_of-self g c =
    let now = c.as_mut_slice.ensures.value in
    let kept = with_items_is c.self.inside.replicas c.see_at.new.replicas (c.see_at.auto.replicas ∙ c.as_mut_slice.ensures.len) in
    let one : CallsOne c.args.replica c.self.inside.replicas.items c.see_at.new.replicas = subst (λ xs. CallsOne c.args.replica xs c.see_at.new.replicas) now c.see_at.ensures.one in
    let sights : SightsAt g.D.Disk.Tells g.D.Disk.files g.D.Disk.fault_count g.D.Piece.Piece.Tells c.args.pair c.self.inside.rows c.see_at.new.rows c.args.replica one.before
    one.after c.see_at.result =
    c.see_at.ensures.sights one.before one.after (subst (λ xs. At xs c.args.replica one.before) (sym now) one.was) (one_after c.args.replica c.self.inside.replicas.items c.see_at.new.replicas one) in
    let count = one_count c.args.replica c.self.inside.replicas.items c.see_at.new.replicas one in
    let each : (j : ℕ) (r r' : Copy g.row.D.Denot) → At c.self.inside.replicas.items j r → At c.see_at.new.replicas j r' → (r'.sup ≡ r.sup) × (is_frozen r' ≡ is_frozen r) =
    one_each (λ (x y : Copy g.row.D.Denot). (y.sup ≡ x.sup) × (is_frozen y ≡ is_frozen x)) c.args.replica c.self.inside.replicas.items c.see_at.new.replicas one
    (ap (λ (x : Copy g.row.D.Denot). x.sup) sights.copy, ap (λ (x : Copy g.row.D.Denot). is_frozen x) sights.copy) (λ x. (refl, refl)) in (
      subst (λ rs. IsShaped (volume_with c.self.inside.settings c.self.inside.number rs c.see_at.new.rows c.self.inside.front c.self.inside.frozen c.self.inside.unsure)) (sym kept)
          (shaped_on c.self.inside.settings c.self.inside.number c.self.inside.replicas.items c.see_at.new.replicas c.self.inside.rows c.see_at.new.rows c.self.inside.front
          c.self.inside.front c.self.inside.frozen c.self.inside.frozen c.self.inside.unsure c.self.inside.unsure
          c.self.invariant.0 (c.self.invariant.0).frozen_by (c.self.invariant.0).settled count (λ j r r' e f. (each j r r' e f).0) c.see_at.ensures.row.width
          (λ none j r r' e f. (each j r r' e f).1 ∙ (c.self.invariant.0).thawed none j r e)),
      c.self.invariant.1,
      subst (λ rs. CanReach g.D.Disk.Tells g.D.Disk.files g.D.Piece.Piece.Tells rs c.see_at.new.rows) (sym kept)
          (reach_seen g.D.Disk.Tells g.D.Disk.files g.D.Piece.Piece.Tells g.D.Disk.fault_count c.self.inside.replicas.items c.see_at.new.replicas c.self.inside.rows
          c.see_at.new.rows c.args.replica c.args.pair c.see_at.result one sights c.see_at.ensures.row c.self.invariant.2),
    )

pub returns-clause-stands : goal.returns-clause-stands
unfolding Stands
returns-clause-stands g c = λ tells k stands.
    let now = c.as_mut_slice.ensures.value in
    let kept = with_items_is c.self.inside.replicas c.see_at.new.replicas (c.see_at.auto.replicas ∙ c.as_mut_slice.ensures.len) in
    let one : CallsOne c.args.replica c.self.inside.replicas.items c.see_at.new.replicas = subst (λ xs. CallsOne c.args.replica xs c.see_at.new.replicas) now c.see_at.ensures.one in
    let sights : SightsAt g.D.Disk.Tells g.D.Disk.files g.D.Disk.fault_count g.D.Piece.Piece.Tells c.args.pair c.self.inside.rows c.see_at.new.rows c.args.replica one.before
    one.after c.see_at.result =
    c.see_at.ensures.sights one.before one.after (subst (λ xs. At xs c.args.replica one.before) (sym now) one.was) (one_after c.args.replica c.self.inside.replicas.items c.see_at.new.replicas one) in
    subst (λ rs. StandsFor g.D.Disk.files g.D.Piece.Piece.Tells (volume_with c.self.inside.settings c.self.inside.number rs c.see_at.new.rows c.self.inside.front
    c.self.inside.frozen c.self.inside.unsure) k) (sym kept)
    (saw g.D.Disk.Tells g.D.Disk.files g.D.Piece.Piece.Tells g.D.Disk.fault_count c.self.inside.replicas.items c.see_at.new.replicas c.self.inside.rows c.see_at.new.rows
    c.args.replica c.args.pair c.see_at.result one sights c.see_at.ensures.row tells c.self.invariant.2 c.self.inside.settings c.self.inside.number c.self.inside.front
    c.self.inside.frozen c.self.inside.unsure k (subst (λ v. StandsFor g.D.Disk.files g.D.Piece.Piece.Tells v k) (sym c.self.view_is) stands))

pub returns-clause-known : goal.returns-clause-known
unfolding Stands
returns-clause-known g c = λ tells k stands.
    let now = c.as_mut_slice.ensures.value in
    let kept = with_items_is c.self.inside.replicas c.see_at.new.replicas (c.see_at.auto.replicas ∙ c.as_mut_slice.ensures.len) in
    let one : CallsOne c.args.replica c.self.inside.replicas.items c.see_at.new.replicas = subst (λ xs. CallsOne c.args.replica xs c.see_at.new.replicas) now c.see_at.ensures.one in
    let sights : SightsAt g.D.Disk.Tells g.D.Disk.files g.D.Disk.fault_count g.D.Piece.Piece.Tells c.args.pair c.self.inside.rows c.see_at.new.rows c.args.replica one.before
    one.after c.see_at.result =
    c.see_at.ensures.sights one.before one.after (subst (λ xs. At xs c.args.replica one.before) (sym now) one.was) (one_after c.args.replica c.self.inside.replicas.items c.see_at.new.replicas one) in
    elim c.match-see_at.branch [
      | in-Ok w ↦
          let seen : IsSeen (place_in (row_at c.see_at.new.rows c.args.pair) c.args.replica) =
          subst (λ x. OnOk x (IsSeen (place_in (row_at c.see_at.new.rows c.args.pair) c.args.replica))) w.in-Ok.is sights.seen in
          let is : StandsFor g.D.Disk.files g.D.Piece.Piece.Tells (volume_with c.self.inside.settings c.self.inside.number c.self.inside.replicas.items c.self.inside.rows
          c.self.inside.front c.self.inside.frozen c.self.inside.unsure) k = (subst (λ v. StandsFor g.D.Disk.files g.D.Piece.Piece.Tells v k) (sym c.self.view_is) stands) in
          subst (λ r. OnOk r ((c.self.inside.front ≡ length k.log) × PlaceMeans g.D.Piece.Piece.Tells c.args.pair (place_in (row_at c.see_at.new.rows c.args.pair) c.args.replica)
          (outcome_at (legal.now k (replica_at k c.args.replica)) c.args.pair))) (sym w.result-is) (
            is.front,
            (known_seen g.D.Disk.Tells g.D.Disk.files g.D.Piece.Piece.Tells g.D.Disk.fault_count c.self.inside.replicas.items c.see_at.new.replicas c.self.inside.rows
                c.see_at.new.rows c.args.replica c.args.pair c.see_at.result one sights c.see_at.ensures.row tells c.self.invariant.2 c.self.inside.settings c.self.inside.number
                c.self.inside.front c.self.inside.frozen c.self.inside.unsure g.D.Disk.fuse_count k is seen),
          )
      | in-Err w ↦ rw w.result-is tt
    ]

pub returns-clause-undamaged : goal.returns-clause-undamaged
unfolding Stands
returns-clause-undamaged g c = λ tells k stands m at e.
    let now = c.as_mut_slice.ensures.value in
    let kept = with_items_is c.self.inside.replicas c.see_at.new.replicas (c.see_at.auto.replicas ∙ c.as_mut_slice.ensures.len) in
    let one : CallsOne c.args.replica c.self.inside.replicas.items c.see_at.new.replicas = subst (λ xs. CallsOne c.args.replica xs c.see_at.new.replicas) now c.see_at.ensures.one in
    let sights : SightsAt g.D.Disk.Tells g.D.Disk.files g.D.Disk.fault_count g.D.Piece.Piece.Tells c.args.pair c.self.inside.rows c.see_at.new.rows c.args.replica one.before
    one.after c.see_at.result =
    c.see_at.ensures.sights one.before one.after (subst (λ xs. At xs c.args.replica one.before) (sym now) one.was) (one_after c.args.replica c.self.inside.replicas.items c.see_at.new.replicas one) in
    elim c.match-see_at.branch [
      | in-Ok w ↦ let wrong = sym w.result-is ∙ e in cc
      | in-Err w ↦
          let is = damaged_answer c.machine_of-machine.result w.in-Err.fault m at (sym w.answer_at.ensures ∙ (let same = sym w.result-is ∙ e in cc)) in
          seen_whole g.D.Disk.Tells g.D.Disk.files g.D.Piece.Piece.Tells g.D.Disk.fault_count c.self.inside.replicas.items c.see_at.new.replicas c.self.inside.rows
          c.see_at.new.rows c.args.replica c.args.pair c.see_at.result one sights c.see_at.ensures.row tells c.self.inside.settings c.self.inside.number c.self.inside.front
          c.self.inside.frozen c.self.inside.unsure g.D.Disk.fuse_count k (subst (λ v. StandsFor g.D.Disk.files g.D.Piece.Piece.Tells v k) (sym c.self.view_is) stands) at
          (w.in-Err.is ∙ ap (λ (f : ReplicaFault). Err f) is)
    ]

pub returns-clause-seen : goal.returns-clause-seen
returns-clause-seen g c =
    let now = c.as_mut_slice.ensures.value in
    let kept = with_items_is c.self.inside.replicas c.see_at.new.replicas (c.see_at.auto.replicas ∙ c.as_mut_slice.ensures.len) in
    let one : CallsOne c.args.replica c.self.inside.replicas.items c.see_at.new.replicas = subst (λ xs. CallsOne c.args.replica xs c.see_at.new.replicas) now c.see_at.ensures.one in
    let sights : SightsAt g.D.Disk.Tells g.D.Disk.files g.D.Disk.fault_count g.D.Piece.Piece.Tells c.args.pair c.self.inside.rows c.see_at.new.rows c.args.replica one.before
    one.after c.see_at.result =
    c.see_at.ensures.sights one.before one.after (subst (λ xs. At xs c.args.replica one.before) (sym now) one.was) (one_after c.args.replica c.self.inside.replicas.items c.see_at.new.replicas one) in
    elim c.match-see_at.branch [
      | in-Ok w ↦
          let seen : IsSeen (place_in (row_at c.see_at.new.rows c.args.pair) c.args.replica) =
          subst (λ x. OnOk x (IsSeen (place_in (row_at c.see_at.new.rows c.args.pair) c.args.replica))) w.in-Ok.is sights.seen in
          subst (λ r. OnOk r (IsSeen (place_in (row_at c.see_at.new.rows c.args.pair) c.args.replica))) (sym w.result-is) seen
      | in-Err w ↦ rw w.result-is tt
    ]

pub returns-clause-row : goal.returns-clause-row
returns-clause-row g c = elim c.match-see_at.branch [
  | in-Ok w ↦
      let set : SetsPlaceAt c.args.pair c.args.replica (place_in (row_at c.see_at.new.rows c.args.pair) c.args.replica) c.self.inside.rows c.see_at.new.rows =
      subst (λ x. OnOk x (SetsPlaceAt c.args.pair c.args.replica (place_in (row_at c.see_at.new.rows c.args.pair) c.args.replica) c.self.inside.rows c.see_at.new.rows)) w.in-Ok.is
      c.see_at.ensures.row.set in
      subst (λ r. OnOk r (SetsPlaceAt c.args.pair c.args.replica (place_in (row_at c.see_at.new.rows c.args.pair) c.args.replica) c.args.self.now.rows c.see_at.new.rows)) (sym w.result-is)
      (subst (λ v. SetsPlaceAt c.args.pair c.args.replica (place_in (row_at c.see_at.new.rows c.args.pair) c.args.replica) v.rows c.see_at.new.rows) c.self.view_is set)
  | in-Err w ↦ rw w.result-is tt
]

pub returns-clause-kept : goal.returns-clause-kept
returns-clause-kept g c = elim c.match-see_at.branch [
  | in-Ok w ↦ rw w.result-is tt
  | in-Err w ↦
      let kept = subst (λ x. OnErr x ((other : Pair) → row_at c.see_at.new.rows other ≡ row_at c.self.inside.rows other)) w.in-Err.is c.see_at.ensures.row.kept in
      subst (λ r. OnErr r ((other : Pair) → row_at c.see_at.new.rows other ≡ row_at c.args.self.now.rows other)) (sym w.result-is)
      (λ other. kept other ∙ ap (λ v. row_at v.rows other) c.self.view_is)
]

pub returns-clause-causes : goal.returns-clause-causes
returns-clause-causes g c =
    let now = c.as_mut_slice.ensures.value in
    let kept = with_items_is c.self.inside.replicas c.see_at.new.replicas (c.see_at.auto.replicas ∙ c.as_mut_slice.ensures.len) in
    let one : CallsOne c.args.replica c.self.inside.replicas.items c.see_at.new.replicas = subst (λ xs. CallsOne c.args.replica xs c.see_at.new.replicas) now c.see_at.ensures.one in
    let sights : SightsAt g.D.Disk.Tells g.D.Disk.files g.D.Disk.fault_count g.D.Piece.Piece.Tells c.args.pair c.self.inside.rows c.see_at.new.rows c.args.replica one.before
    one.after c.see_at.result =
    c.see_at.ensures.sights one.before one.after (subst (λ xs. At xs c.args.replica one.before) (sym now) one.was) (one_after c.args.replica c.self.inside.replicas.items c.see_at.new.replicas one) in
    let within : c.args.replica < c.self.inside.settings.replicas = subst (λ v. c.args.replica < v.settings.replicas) (sym c.self.view_is) c.requires.within in
    elim c.match-see_at.branch [
      | in-Ok w ↦ rw w.result-is tt
      | in-Err w ↦
          let cause = subst (λ x. IfErr x (physical_faults.IsSightFault (g.D.Disk.fault_count (one.before).disk) (g.D.Disk.fault_count (one.after).disk))) w.in-Err.is sights.cause in
          subst (λ r. IfErr r (answers.IsSightFault g.D.Disk.fault_count c.args.self.now.settings c.args.self.now.number c.args.self.now.replicas
          (with_items c.self.inside.replicas c.see_at.new.replicas).items)) (sym w.result-is)
          (subst (λ v. answers.IsSightFault g.D.Disk.fault_count v.settings v.number v.replicas (with_items c.self.inside.replicas c.see_at.new.replicas).items w.answer_at.result) c.self.view_is
          (subst (λ rs. answers.IsSightFault g.D.Disk.fault_count c.self.inside.settings c.self.inside.number c.self.inside.replicas.items rs w.answer_at.result) (sym kept)
          (subst (λ f. answers.IsSightFault g.D.Disk.fault_count c.self.inside.settings c.self.inside.number c.self.inside.replicas.items c.see_at.new.replicas f) (sym w.answer_at.ensures)
          (sight_cause g.D.Disk.fault_count c.self.inside.settings c.self.inside.number c.self.inside.replicas.items c.see_at.new.replicas c.args.replica
          c.machine_of-machine.result w.in-Err.fault within c.machine_of-machine.ensures one cause))))
    ]

pub returns-clause-open : goal.returns-clause-open
returns-clause-open g c =
    let now = c.as_mut_slice.ensures.value in
    let kept = with_items_is c.self.inside.replicas c.see_at.new.replicas (c.see_at.auto.replicas ∙ c.as_mut_slice.ensures.len) in
    let one : CallsOne c.args.replica c.self.inside.replicas.items c.see_at.new.replicas = subst (λ xs. CallsOne c.args.replica xs c.see_at.new.replicas) now c.see_at.ensures.one in
    let sights : SightsAt g.D.Disk.Tells g.D.Disk.files g.D.Disk.fault_count g.D.Piece.Piece.Tells c.args.pair c.self.inside.rows c.see_at.new.rows c.args.replica one.before
    one.after c.see_at.result =
    c.see_at.ensures.sights one.before one.after (subst (λ xs. At xs c.args.replica one.before) (sym now) one.was) (one_after c.args.replica c.self.inside.replicas.items c.see_at.new.replicas one) in
    let count = one_count c.args.replica c.self.inside.replicas.items c.see_at.new.replicas one in
    let each : (j : ℕ) (r r' : Copy g.row.D.Denot) → At c.self.inside.replicas.items j r → At c.see_at.new.replicas j r' → IsOpenCopy r → IsOpenCopy r' =
    one_each (λ (x y : Copy g.row.D.Denot). IsOpenCopy x → IsOpenCopy y) c.args.replica c.self.inside.replicas.items c.see_at.new.replicas one
    (λ is. subst (λ (x : Copy g.row.D.Denot). IsOpenCopy x) (sym sights.copy) is) (λ x is. is) in
    record {
      all = ap length kept ∙ count ∙ ap (λ v. length v.replicas) c.self.view_is ∙ c.requires.«open».all ∙ ap (λ v. v.settings.replicas) (sym c.self.view_is);
      each = λ j r' f.
          let f' = subst (λ xs. At xs j r') kept f in
          let old = at_there c.self.inside.replicas.items j (let h = at_below c.see_at.new.replicas j r' f' in let less : j < length c.self.inside.replicas.items = omega (arith, h, count) in less) in
          each j old.0 r' old.1 f' (c.requires.«open».each j old.0 (subst (λ v. At v.replicas j old.0) c.self.view_is old.1));
    }

pub returns-clause-counts : goal.returns-clause-counts
returns-clause-counts g c =
    let now = c.as_mut_slice.ensures.value in
    let kept = with_items_is c.self.inside.replicas c.see_at.new.replicas (c.see_at.auto.replicas ∙ c.as_mut_slice.ensures.len) in
    let one : CallsOne c.args.replica c.self.inside.replicas.items c.see_at.new.replicas = subst (λ xs. CallsOne c.args.replica xs c.see_at.new.replicas) now c.see_at.ensures.one in
    let count = one_count c.args.replica c.self.inside.replicas.items c.see_at.new.replicas one in
    subst (λ rs. KeepsCounts g.D.Disk.fault_count g.D.Disk.fuse_count c.args.self.now.replicas rs) (sym kept)
    (subst (λ xs. KeepsCounts g.D.Disk.fault_count g.D.Disk.fuse_count xs c.see_at.new.replicas) (now ∙ ap (λ v. v.replicas) c.self.view_is) c.see_at.ensures.counts)

pub returns-clause-same : goal.returns-clause-same
returns-clause-same g c =
    let now = c.as_mut_slice.ensures.value in
    let kept = with_items_is c.self.inside.replicas c.see_at.new.replicas (c.see_at.auto.replicas ∙ c.as_mut_slice.ensures.len) in
    let one : CallsOne c.args.replica c.self.inside.replicas.items c.see_at.new.replicas = subst (λ xs. CallsOne c.args.replica xs c.see_at.new.replicas) now c.see_at.ensures.one in
    let sights : SightsAt g.D.Disk.Tells g.D.Disk.files g.D.Disk.fault_count g.D.Piece.Piece.Tells c.args.pair c.self.inside.rows c.see_at.new.rows c.args.replica one.before
    one.after c.see_at.result =
    c.see_at.ensures.sights one.before one.after (subst (λ xs. At xs c.args.replica one.before) (sym now) one.was) (one_after c.args.replica c.self.inside.replicas.items c.see_at.new.replicas one) in
    same_by _ _ _ _ c.self.view_is refl refl kept
    (one_each (λ (x y : Copy g.row.D.Denot). y.sup ≡ x.sup) c.args.replica c.self.inside.replicas.items c.see_at.new.replicas one (ap (λ (x : Copy g.row.D.Denot). x.sup) sights.copy) (λ x. refl))

pub returns-clause-machine : goal.returns-clause-machine
returns-clause-machine g c = λ m count e. elim c.match-see_at.branch [
  | in-Ok w ↦ let wrong = sym w.result-is ∙ e in cc
  | in-Err w ↦
      failed_machine c.machine_of-machine.result w.in-Err.fault m count (sym w.answer_at.ensures ∙ (let same = sym w.result-is ∙ e in cc))
      ∙ c.machine_of-machine.ensures ∙ ap (λ v. legal.machine_of v.settings v.number c.args.replica) c.self.view_is
]

pub returns-clause-others : goal.returns-clause-others
returns-clause-others g c = λ j apart r r' e f.
    let now = c.as_mut_slice.ensures.value in
    let kept = with_items_is c.self.inside.replicas c.see_at.new.replicas (c.see_at.auto.replicas ∙ c.as_mut_slice.ensures.len) in
    let one : CallsOne c.args.replica c.self.inside.replicas.items c.see_at.new.replicas = subst (λ xs. CallsOne c.args.replica xs c.see_at.new.replicas) now c.see_at.ensures.one in
    other_same c.args.replica c.self.inside.replicas.items c.see_at.new.replicas one j apart r r' (subst (λ v. At v.replicas j r) (sym c.self.view_is) e) (subst (λ xs. At xs j r') kept f)

pub returns-clause-needle : goal.returns-clause-needle
returns-clause-needle g c = λ unseen. elim c.match-see_at.branch [
  | in-Ok w ↦
      let read = c.see_at.ensures.needle (λ seen. unseen (subst (λ v. IsSeen (place_in (row_at v.rows c.args.pair) c.args.replica)) c.self.view_is seen)) in
      let by : IsSeenBy g.D.Disk.Tells g.D.Piece.Piece.Tells c.see_at.new.out.items (place_in (row_at c.see_at.new.rows c.args.pair) c.args.replica) =
      subst (λ x. OnOk x (IsSeenBy g.D.Disk.Tells g.D.Piece.Piece.Tells c.see_at.new.out.items (place_in (row_at c.see_at.new.rows c.args.pair) c.args.replica))) w.in-Ok.is read in
      subst (λ r. OnOk r (IsSeenBy g.D.Disk.Tells g.D.Piece.Piece.Tells c.see_at.new.out.items (place_in (row_at c.see_at.new.rows c.args.pair) c.args.replica))) (sym w.result-is) by
  | in-Err w ↦ rw w.result-is tt
]

pub returns-clause-runs : goal.returns-clause-runs
returns-clause-runs g c = λ j r r' e f.
    let now = c.as_mut_slice.ensures.value in
    let kept = with_items_is c.self.inside.replicas c.see_at.new.replicas (c.see_at.auto.replicas ∙ c.as_mut_slice.ensures.len) in
    let one : CallsOne c.args.replica c.self.inside.replicas.items c.see_at.new.replicas = subst (λ xs. CallsOne c.args.replica xs c.see_at.new.replicas) now c.see_at.ensures.one in
    let sights : SightsAt g.D.Disk.Tells g.D.Disk.files g.D.Disk.fault_count g.D.Piece.Piece.Tells c.args.pair c.self.inside.rows c.see_at.new.rows c.args.replica one.before
    one.after c.see_at.result =
    c.see_at.ensures.sights one.before one.after (subst (λ xs. At xs c.args.replica one.before) (sym now) one.was) (one_after c.args.replica c.self.inside.replicas.items c.see_at.new.replicas one) in
    one_each (λ (x y : Copy g.row.D.Denot). goal_of y ≡ goal_of x) c.args.replica c.self.inside.replicas.items c.see_at.new.replicas one
    (ap (λ (x : Copy g.row.D.Denot). goal_of x) sights.copy) (λ x. refl)
    j r r' (subst (λ v. At v.replicas j r) (sym c.self.view_is) e) (subst (λ xs. At xs j r') kept f)

pub returns-clause-files : goal.returns-clause-files
returns-clause-files g c =
    let now = c.as_mut_slice.ensures.value in
    let kept = with_items_is c.self.inside.replicas c.see_at.new.replicas (c.see_at.auto.replicas ∙ c.as_mut_slice.ensures.len) in
    let one : CallsOne c.args.replica c.self.inside.replicas.items c.see_at.new.replicas = subst (λ xs. CallsOne c.args.replica xs c.see_at.new.replicas) now c.see_at.ensures.one in
    let sights : SightsAt g.D.Disk.Tells g.D.Disk.files g.D.Disk.fault_count g.D.Piece.Piece.Tells c.args.pair c.self.inside.rows c.see_at.new.rows c.args.replica one.before
    one.after c.see_at.result =
    c.see_at.ensures.sights one.before one.after (subst (λ xs. At xs c.args.replica one.before) (sym now) one.was) (one_after c.args.replica c.self.inside.replicas.items c.see_at.new.replicas one) in
    subst (λ (v : Volume g.row.D.Denot g.row.D-Piece.Denot). KeepsFiles g.D.Disk.Tells g.D.Disk.files v.replicas (with_items c.self.inside.replicas c.see_at.new.replicas).items) c.self.view_is
    (subst (KeepsFiles g.D.Disk.Tells g.D.Disk.files c.self.inside.replicas.items) (sym kept)
    (files_one g.D.Disk.Tells g.D.Disk.files c.args.replica c.self.inside.replicas.items c.see_at.new.replicas one sights.keeps))

pub returns-clause-stuck : goal.returns-clause-stuck
returns-clause-stuck g c = λ j r r' e f.
    let now = c.as_mut_slice.ensures.value in
    let kept = with_items_is c.self.inside.replicas c.see_at.new.replicas (c.see_at.auto.replicas ∙ c.as_mut_slice.ensures.len) in
    let one : CallsOne c.args.replica c.self.inside.replicas.items c.see_at.new.replicas = subst (λ xs. CallsOne c.args.replica xs c.see_at.new.replicas) now c.see_at.ensures.one in
    let step : SightsAt g.D.Disk.Tells g.D.Disk.files g.D.Disk.fault_count g.D.Piece.Piece.Tells c.args.pair c.self.inside.rows c.see_at.new.rows c.args.replica one.before one.after c.see_at.result =
    c.see_at.ensures.sights one.before one.after (subst (λ xs. At xs c.args.replica one.before) (sym now) one.was) (one_after c.args.replica c.self.inside.replicas.items c.see_at.new.replicas one) in
    one_each (λ (x y : Copy g.row.D.Denot). is_stuck y ≡ is_stuck x) c.args.replica c.self.inside.replicas.items c.see_at.new.replicas one
    (ap (λ (x : Copy g.row.D.Denot). is_stuck x) step.copy) (λ x. refl)
    j r r' (subst (λ v. At v.replicas j r) (sym c.self.view_is) e) (subst (λ xs. At xs j r') kept f)

pub returns-clause-tight : goal.returns-clause-tight
unfolding Stands
returns-clause-tight g c = λ tells k stands j tight r' f.
    let now = c.as_mut_slice.ensures.value in
    let kept = with_items_is c.self.inside.replicas c.see_at.new.replicas (c.see_at.auto.replicas ∙ c.as_mut_slice.ensures.len) in
    let one : CallsOne c.args.replica c.self.inside.replicas.items c.see_at.new.replicas = subst (λ xs. CallsOne c.args.replica xs c.see_at.new.replicas) now c.see_at.ensures.one in
    let sights : SightsAt g.D.Disk.Tells g.D.Disk.files g.D.Disk.fault_count g.D.Piece.Piece.Tells c.args.pair c.self.inside.rows c.see_at.new.rows c.args.replica one.before
    one.after c.see_at.result =
    c.see_at.ensures.sights one.before one.after (subst (λ xs. At xs c.args.replica one.before) (sym now) one.was) (one_after c.args.replica c.self.inside.replicas.items c.see_at.new.replicas one) in
    tight_one g.D.Disk.files c.args.replica c.self.inside.replicas.items c.see_at.new.replicas one
    (tight_seen c.self.inside.settings c.self.inside.number g.D.Disk.Tells g.D.Disk.files g.D.Piece.Piece.Tells g.D.Disk.fault_count c.self.inside.replicas.items c.self.inside.rows
    c.see_at.new.rows c.self.inside.front c.self.inside.unsure k tells
    c.self.inside.frozen (subst (λ v. StandsFor g.D.Disk.files g.D.Piece.Piece.Tells v k) (sym c.self.view_is) stands) c.args.replica one.before one.after c.args.pair c.see_at.result one.was sights)
    j (λ r e. tight r (subst (λ v. At v.replicas j r) c.self.view_is e)) r' (subst (λ xs. At xs j r') kept f)

pub returns-clause-unchanged : goal.returns-clause-unchanged
returns-clause-unchanged g c =
    let now = c.as_mut_slice.ensures.value in
    let kept = with_items_is c.self.inside.replicas c.see_at.new.replicas (c.see_at.auto.replicas ∙ c.as_mut_slice.ensures.len) in
    let one : CallsOne c.args.replica c.self.inside.replicas.items c.see_at.new.replicas = subst (λ xs. CallsOne c.args.replica xs c.see_at.new.replicas) now c.see_at.ensures.one in
    let sights : SightsAt g.D.Disk.Tells g.D.Disk.files g.D.Disk.fault_count g.D.Piece.Piece.Tells c.args.pair c.self.inside.rows c.see_at.new.rows c.args.replica one.before
    one.after c.see_at.result =
    c.see_at.ensures.sights one.before one.after (subst (λ xs. At xs c.args.replica one.before) (sym now) one.was) (one_after c.args.replica c.self.inside.replicas.items c.see_at.new.replicas one) in
    same_one c.args.replica c.self.inside.settings c.self.inside.number c.self.inside.replicas.items c.see_at.new.replicas c.self.inside.rows c.self.inside.front c.self.inside.frozen
    c.self.inside.unsure one c.args.self.now c.self.view_is
    (with_items c.self.inside.replicas c.see_at.new.replicas).items kept (ap (λ (x : Copy g.row.D.Denot). replica_seen x) sights.copy)

pub returns-clause-sights : goal.returns-clause-sights
returns-clause-sights g c = elim c.match-see_at.branch [
  | in-Ok w ↦
      let sees : SeesPair c.args.pair c.args.replica (sights_of c.self.inside.rows) (sights_of c.see_at.new.rows) =
      subst (λ x. OnOk x (SeesPair c.args.pair c.args.replica (sights_of c.self.inside.rows) (sights_of c.see_at.new.rows))) w.in-Ok.is c.see_at.ensures.row.sees in
      subst (λ r. OnOk r (SeesPair c.args.pair c.args.replica (sights_of c.args.self.now.rows) (sights_of c.see_at.new.rows))) (sym w.result-is)
      (subst (λ v. SeesPair c.args.pair c.args.replica (sights_of v.rows) (sights_of c.see_at.new.rows)) c.self.view_is sees)
  | in-Err w ↦ rw w.result-is tt
]

pub returns-clause-see_refused : goal.returns-clause-see_refused
returns-clause-see_refused g c = elim c.match-see_at.branch [
  | in-Ok w ↦ rw w.result-is tt
  | in-Err w ↦
      let awaits = subst (λ x. IfErr x (LookAwaited (sights_of c.self.inside.rows c.args.pair c.args.replica))) w.in-Err.is c.see_at.ensures.row.unseen in
      let kept = subst (λ x. OnErr x ((other : Pair) → row_at c.see_at.new.rows other ≡ row_at c.self.inside.rows other)) w.in-Err.is c.see_at.ensures.row.kept in
      subst (λ r. IfErr r (SeeRefusedSights c.args.pair c.args.replica (sights_of c.args.self.now.rows) (sights_of c.see_at.new.rows))) (sym w.result-is)
      (subst (λ v. SeeRefusedSights c.args.pair c.args.replica (sights_of v.rows) (sights_of c.see_at.new.rows) w.answer_at.result) c.self.view_is
      (subst (λ f. SeeRefusedSights c.args.pair c.args.replica (sights_of c.self.inside.rows) (sights_of c.see_at.new.rows) f) (sym w.answer_at.ensures)
      (see_refused_at c.self.inside.settings c.self.inside.number c.args.pair (sights_of c.self.inside.rows) (sights_of c.see_at.new.rows) c.args.replica c.machine_of-machine.result
      (sights_kept c.self.inside.rows c.see_at.new.rows kept) w.in-Err.fault awaits)))
]

pub returns-clause-told : goal.returns-clause-told
returns-clause-told g c = λ tells j r e.
    let now = c.as_mut_slice.ensures.value in
    let f : At c.self.inside.replicas.items j r = subst (λ v. At v.replicas j r) (sym c.self.view_is) e in
    let file = volume_bytes g.D.Disk.files r in
    subst (λ v. IsToldBy file (sights_of v.rows c.args.pair j) (sights_of c.see_at.new.rows c.args.pair j)) c.self.view_is
    (elim (cases_eq j c.args.replica) [
      | inl same ↦
          subst (λ n. IsToldBy file (sights_of c.self.inside.rows c.args.pair n) (sights_of c.see_at.new.rows c.args.pair n)) (sym same)
          (c.see_at.ensures.told tells r (subst (λ xs. At xs c.args.replica r) (sym now) (subst (λ n. At c.self.inside.replicas.items n r) same f))).told
      | inr apart ↦
          told_same file (sights_of c.self.inside.rows c.args.pair j) (sights_of c.see_at.new.rows c.args.pair j)
          (ap (λ p. sight p) (other_places c.args.pair c.args.replica c.self.inside.rows c.see_at.new.rows c.see_at.result c.see_at.ensures.row j apart c.args.pair))
    ])

pub returns-clause-damaged : goal.returns-clause-damaged
returns-clause-damaged g c = λ tells m place e.
    let now = c.as_mut_slice.ensures.value in
    let one : CallsOne c.args.replica c.self.inside.replicas.items c.see_at.new.replicas = subst (λ xs. CallsOne c.args.replica xs c.see_at.new.replicas) now c.see_at.ensures.one in
    elim c.match-see_at.branch [
      | in-Ok w ↦ let wrong = sym w.result-is ∙ e in cc
      | in-Err w ↦
          let both = sym w.result-is ∙ e in
          let by : w.answer_at.result ≡ refusal.Damaged m place = cc in
          let said = sym w.answer_at.ensures ∙ by in
          let is = damaged_answer c.machine_of-machine.result w.in-Err.fault m place said in
          let looked = c.see_at.ensures.told tells one.before (subst (λ xs. At xs c.args.replica one.before) (sym now) one.was) in
          subst (λ (v : Volume g.row.D.Denot g.row.D-Piece.Denot). IsDamagedLook g.D.Disk.files v.settings v.number v.replicas c.args.pair m place (sights_of v.rows)) c.self.view_is (record {
            replica = c.args.replica;
            within = subst (λ v. c.args.replica < v.settings.replicas) (sym c.self.view_is) c.requires.within;
            machine = damaged_machine c.machine_of-machine.result w.in-Err.fault m place said ∙ c.machine_of-machine.ensures;
            there = one.before;
            is = one.was;
            lacks = looked.lacks place (w.in-Err.is ∙ ap (λ (f : ReplicaFault). Err f) is);
          })
    ]

pub returns-clause-refused_sights : goal.returns-clause-refused_sights
returns-clause-refused_sights g c =
    let now = c.as_mut_slice.ensures.value in
    let one : CallsOne c.args.replica c.self.inside.replicas.items c.see_at.new.replicas = subst (λ xs. CallsOne c.args.replica xs c.see_at.new.replicas) now c.see_at.ensures.one in
    let sights : SightsAt g.D.Disk.Tells g.D.Disk.files g.D.Disk.fault_count g.D.Piece.Piece.Tells c.args.pair c.self.inside.rows c.see_at.new.rows c.args.replica one.before
    one.after c.see_at.result =
    c.see_at.ensures.sights one.before one.after (subst (λ xs. At xs c.args.replica one.before) (sym now) one.was) (one_after c.args.replica c.self.inside.replicas.items c.see_at.new.replicas one) in
    let within : c.args.replica < c.self.inside.settings.replicas = subst (λ v. c.args.replica < v.settings.replicas) (sym c.self.view_is) c.requires.within in
    elim c.match-see_at.branch [
      | in-Ok w ↦ rw w.result-is tt
      | in-Err w ↦
          let awaits = subst (λ x. IfErr x (LookAwaited (sights_of c.self.inside.rows c.args.pair c.args.replica))) w.in-Err.is c.see_at.ensures.row.unseen in
          let kept = subst (λ x. OnErr x ((other : Pair) → row_at c.see_at.new.rows other ≡ row_at c.self.inside.rows other)) w.in-Err.is c.see_at.ensures.row.kept in
          subst (λ r. IfErr r (LookRefusedSights c.args.self.now.settings c.args.self.now.number c.args.pair (sights_of c.args.self.now.rows) (sights_of c.see_at.new.rows))) (sym w.result-is)
          (subst (λ v. LookRefusedSights v.settings v.number c.args.pair (sights_of v.rows) (sights_of c.see_at.new.rows) w.answer_at.result) c.self.view_is
          (subst (λ f. LookRefusedSights c.self.inside.settings c.self.inside.number c.args.pair (sights_of c.self.inside.rows) (sights_of c.see_at.new.rows) f) (sym w.answer_at.ensures)
          (look_refused_at c.self.inside.settings c.self.inside.number c.args.pair (sights_of c.self.inside.rows) (sights_of c.see_at.new.rows) c.args.replica c.machine_of-machine.result within
          c.machine_of-machine.ensures (sights_kept c.self.inside.rows c.see_at.new.rows kept) w.in-Err.fault awaits)))
    ]

pub returns-clause-lacks : goal.returns-clause-lacks
returns-clause-lacks g c = λ tells m place e. elim c.match-see_at.branch [
  | in-Ok w ↦ let wrong = sym w.result-is ∙ e in cc
  | in-Err w ↦
      let both = sym w.result-is ∙ e in
      let by : w.answer_at.result ≡ refusal.Damaged m place = cc in
      let is = damaged_answer c.machine_of-machine.result w.in-Err.fault m place (sym w.answer_at.ensures ∙ by) in
      subst (λ (v : Volume g.row.D.Denot g.row.D-Piece.Denot). LacksSeenOn g.D.Disk.files v.replicas c.args.pair c.args.replica place (sights_of v.rows)) c.self.view_is
      (λ r there.
      let looked = c.see_at.ensures.told tells r (subst (λ xs. At xs c.args.replica r) (sym c.as_mut_slice.ensures.value) there) in
      looked.lacks place (w.in-Err.is ∙ ap (λ (f : ReplicaFault). Err f) is))
]
