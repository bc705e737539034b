use Rattle.std.proofs.Common.{◌≡◌, ◌<◌, ℕ, false, length, refl, sym, ap, subst, ◌∙◌}
use Rattle.std.specs.Vec.{with_items}
use Rattle.std.proofs.lemmas.List.{with_items_is}
use Rattle.hay_physical.specs.OpenCopies.{Copy, phase_frozen, phase_goal, phase_stuck}
use Rattle.hay_logical.specs.Fits.{At}
use Rattle.hay_logical.specs.Stands.{Stands, StandsFor}
use Rattle.hay_logical.specs.ReplicaCalls.{StaysInReach}
use Rattle.hay_logical.proofs.Calls.{reach_still}
use Rattle.hay_logical.proofs.Lists.{at_below, at_there}
use Rattle.hay_logical.proofs.Methods.{Quiet, one_after, other_same, one_count, one_each, quiet, same_by, shaped_on}
use Rattle.hay_logical.specs.Volumes.{CanReach, IsShaped, Volume}
use Rattle.hay_logical.proofs.Reaching.{same_rows}
use Rattle.hay_physical.specs.OpenCopies as copies
use Rattle.hay_logical.proofs.Standing.{volume_with}
use Rattle.hay_logical.proofs.Tightness.{tight_fused, tight_one}
use Rattle.hay_logical.specs.Seen.{replica_seen}
use Rattle.hay_logical.specs.ReplicaCalls.{CallsOne}
use Rattle.hay_logical.proofs.Seen.{same_one}
use Rattle.hay_logical.proofs.logical.Logical.fuse.Goals as goal

pub returns-clause-stands : goal.returns-clause-stands
unfolding Stands
returns-clause-stands g c = λ tells k stands.
    let now = c.as_mut_slice.ensures.value in
    let kept = with_items_is c.self.inside.replicas c.fuse_at.new.replicas (c.fuse_at.auto.replicas ∙ c.as_mut_slice.ensures.len) in
    let one = c.fuse_at.ensures.one in
    let after = one_after c.args.replica c.as_mut_slice.result.now c.fuse_at.new.replicas one in
    let step = c.fuse_at.ensures.fuses one.before one.after one.was after in
    subst (λ rs. StandsFor g.D.Disk.files g.D.Piece.Piece.Tells (volume_with c.self.inside.settings c.self.inside.number rs c.self.inside.rows c.self.inside.front
    c.self.inside.frozen c.self.inside.unsure) k) (sym kept)
    (quiet c.self.inside.settings c.self.inside.number g.D.Disk.Tells g.D.Disk.files g.D.Piece.Piece.Tells g.D.Disk.fault_count g.D.Disk.fuse_count
    c.self.inside.replicas.items c.fuse_at.new.replicas c.self.inside.rows c.self.inside.front c.self.inside.frozen c.self.inside.unsure k
    (subst (λ v. StandsFor g.D.Disk.files g.D.Piece.Piece.Tells v k) (sym c.self.view_is) stands) (one_count c.args.replica c.as_mut_slice.result.now c.fuse_at.new.replicas one ∙ ap length now)
    (λ j r r' e f. one_each (Quiet g.D.Disk.files) c.args.replica c.as_mut_slice.result.now c.fuse_at.new.replicas one
    (record {
      stuck = ap (λ r. phase_stuck r.phase) step.same;
      goal = ap (λ r. phase_goal r.phase) step.same;
      run = step.run tells;
      stands = step.stands tells;
      holds = step.holds tells;
      sees = (step.reach tells).sees;
    })
    (λ x. record { stuck = refl; goal = refl; run = λ s run h. h; stands = λ s h. h; holds = λ b a t h. h; sees = (reach_still g.D.Disk.files x).sees }) j r r'
    (subst (λ xs. At xs j r) (sym now) e) f))

pub invariant_of-self : goal.invariant_of-self
invariant_of-self g c =
    let now = c.as_mut_slice.ensures.value in
    let kept = with_items_is c.self.inside.replicas c.fuse_at.new.replicas (c.fuse_at.auto.replicas ∙ c.as_mut_slice.ensures.len) in
    let one = c.fuse_at.ensures.one in
    let after = one_after c.args.replica c.as_mut_slice.result.now c.fuse_at.new.replicas one in
    let step = c.fuse_at.ensures.fuses one.before one.after one.was after in
    let each : (j : ℕ) (r r' : Copy g.row.D.Denot) → At c.as_mut_slice.result.now j r → At c.fuse_at.new.replicas j r' → (r'.sup ≡ r.sup) × (r'.phase ≡ r.phase) =
    one_each (λ (x y : Copy g.row.D.Denot). (y.sup ≡ x.sup) × (y.phase ≡ x.phase)) c.args.replica c.as_mut_slice.result.now c.fuse_at.new.replicas one
    (ap (λ r. r.sup) step.same, ap (λ r. r.phase) step.same) (λ x. (refl, refl)) in (
      subst (λ rs. IsShaped (volume_with c.self.inside.settings c.self.inside.number rs c.self.inside.rows c.self.inside.front c.self.inside.frozen c.self.inside.unsure)) (sym kept)
          (shaped_on c.self.inside.settings c.self.inside.number c.self.inside.replicas.items c.fuse_at.new.replicas c.self.inside.rows c.self.inside.rows c.self.inside.front
          c.self.inside.front c.self.inside.frozen c.self.inside.frozen c.self.inside.unsure c.self.inside.unsure
          c.self.invariant.0 (c.self.invariant.0).frozen_by (c.self.invariant.0).settled (one_count c.args.replica c.as_mut_slice.result.now c.fuse_at.new.replicas one ∙ ap length now)
          (λ j r r' e f. (each j r r' (subst (λ xs. At xs j r) (sym now) e) f).0) refl
          (λ none j r r' e f. ap phase_frozen (each j r r' (subst (λ xs. At xs j r) (sym now) e) f).1 ∙ (c.self.invariant.0).thawed none j r e)),
      c.self.invariant.1,
      subst (λ rs. CanReach g.D.Disk.Tells g.D.Disk.files g.D.Piece.Piece.Tells rs c.self.inside.rows) (sym kept)
          (same_rows g.D.Disk.Tells g.D.Disk.files c.self.inside.replicas.items c.fuse_at.new.replicas c.self.inside.rows c.self.inside.rows c.self.invariant.2
          (one_count c.args.replica c.as_mut_slice.result.now c.fuse_at.new.replicas one ∙ ap length now)
          (λ j r r' e f. let same = (each j r r' (subst (λ xs. At xs j r) (sym now) e) f).1 in (λ up. subst (copies.HasFrozen false) same up, λ is. subst copies.IsOpenPhase same is))
          (λ j r r' e f. one_each (StaysInReach g.D.Disk.Tells g.D.Disk.files) c.args.replica c.as_mut_slice.result.now c.fuse_at.new.replicas one
          step.reach (λ x tells. reach_still g.D.Disk.files x) j r r' (subst (λ xs. At xs j r) (sym now) e) f)
          (λ pair. refl)),
    )

pub returns-clause-fused : goal.returns-clause-fused
returns-clause-fused g c = λ r r' e f.
    let now = c.as_mut_slice.ensures.value in
    let kept = with_items_is c.self.inside.replicas c.fuse_at.new.replicas (c.fuse_at.auto.replicas ∙ c.as_mut_slice.ensures.len) in
    let one = c.fuse_at.ensures.one in
    let after = one_after c.args.replica c.as_mut_slice.result.now c.fuse_at.new.replicas one in
    let step = c.fuse_at.ensures.fuses one.before one.after one.was after in
    let was : At c.as_mut_slice.result.now c.args.replica r = subst (λ xs. At xs c.args.replica r) (sym now) (subst (λ v. At v.replicas c.args.replica r) (sym c.self.view_is) e) in
    let done = c.fuse_at.ensures.fuses r r' was (subst (λ xs. At xs c.args.replica r') kept f) in
    (done.next, done.same_faults)

pub returns-clause-files : goal.returns-clause-files
returns-clause-files g c = λ tells r r' e f.
    let now = c.as_mut_slice.ensures.value in
    let kept = with_items_is c.self.inside.replicas c.fuse_at.new.replicas (c.fuse_at.auto.replicas ∙ c.as_mut_slice.ensures.len) in
    let was : At c.as_mut_slice.result.now c.args.replica r = subst (λ xs. At xs c.args.replica r) (sym now) (subst (λ v. At v.replicas c.args.replica r) (sym c.self.view_is) e) in
    (c.fuse_at.ensures.fuses r r' was (subst (λ xs. At xs c.args.replica r') kept f)).same_files tells

pub returns-clause-others : goal.returns-clause-others
returns-clause-others g c = λ j apart r r' e f.
    let now = c.as_mut_slice.ensures.value in
    let kept = with_items_is c.self.inside.replicas c.fuse_at.new.replicas (c.fuse_at.auto.replicas ∙ c.as_mut_slice.ensures.len) in
    let one = c.fuse_at.ensures.one in
    let after = one_after c.args.replica c.as_mut_slice.result.now c.fuse_at.new.replicas one in
    let step = c.fuse_at.ensures.fuses one.before one.after one.was after in
    let was : At c.as_mut_slice.result.now j r = subst (λ xs. At xs j r) (sym now) (subst (λ v. At v.replicas j r) (sym c.self.view_is) e) in
    let is : At c.fuse_at.new.replicas j r' = subst (λ xs. At xs j r') kept f in
    other_same c.args.replica c.as_mut_slice.result.now c.fuse_at.new.replicas one j apart r r' was is

pub returns-clause-open : goal.returns-clause-open
returns-clause-open g c = λ is.
    let now = c.as_mut_slice.ensures.value in
    let kept = with_items_is c.self.inside.replicas c.fuse_at.new.replicas (c.fuse_at.auto.replicas ∙ c.as_mut_slice.ensures.len) in
    let one = c.fuse_at.ensures.one in
    let after = one_after c.args.replica c.as_mut_slice.result.now c.fuse_at.new.replicas one in
    let step = c.fuse_at.ensures.fuses one.before one.after one.was after in
    let each : (j : ℕ) (r r' : Copy g.row.D.Denot) → At c.as_mut_slice.result.now j r → At c.fuse_at.new.replicas j r' → (r'.sup ≡ r.sup) × (r'.phase ≡ r.phase) =
    one_each (λ (x y : Copy g.row.D.Denot). (y.sup ≡ x.sup) × (y.phase ≡ x.phase)) c.args.replica c.as_mut_slice.result.now c.fuse_at.new.replicas one
    (ap (λ r. r.sup) step.same, ap (λ r. r.phase) step.same) (λ x. (refl, refl)) in
    record {
      all =
          ap length kept ∙ one_count c.args.replica c.as_mut_slice.result.now c.fuse_at.new.replicas one ∙ ap length now ∙ ap (λ v. length v.replicas) c.self.view_is ∙ is.all
          ∙ ap (λ v. v.settings.replicas) (sym c.self.view_is);
      each = λ j r' f.
          let there : At c.fuse_at.new.replicas j r' = subst (λ xs. At xs j r') kept f in
          let old =
          at_there c.as_mut_slice.result.now j (subst (λ n. j < n) (one_count c.args.replica c.as_mut_slice.result.now c.fuse_at.new.replicas one) (at_below c.fuse_at.new.replicas j r' there)) in
          let was = subst (λ v. At v.replicas j old.0) c.self.view_is (subst (λ xs. At xs j old.0) now old.1) in
          subst copies.IsOpenPhase (sym (each j old.0 r' old.1 there).1) (is.each j old.0 was);
    }

pub returns-clause-count : goal.returns-clause-count
returns-clause-count g c =
    let kept = with_items_is c.self.inside.replicas c.fuse_at.new.replicas (c.fuse_at.auto.replicas ∙ c.as_mut_slice.ensures.len) in
    ap length kept ∙ one_count c.args.replica c.as_mut_slice.result.now c.fuse_at.new.replicas c.fuse_at.ensures.one ∙ ap length c.as_mut_slice.ensures.value
    ∙ ap (λ v. length v.replicas) c.self.view_is

pub returns-clause-same : goal.returns-clause-same
returns-clause-same g c =
    let now = c.as_mut_slice.ensures.value in
    let kept = with_items_is c.self.inside.replicas c.fuse_at.new.replicas (c.fuse_at.auto.replicas ∙ c.as_mut_slice.ensures.len) in
    let one = c.fuse_at.ensures.one in
    let after = one_after c.args.replica c.as_mut_slice.result.now c.fuse_at.new.replicas one in
    let step = c.fuse_at.ensures.fuses one.before one.after one.was after in
    same_by _ _ _ _ c.self.view_is refl refl kept
    (λ j r r' e f. one_each (λ (x y : Copy g.row.D.Denot). y.sup ≡ x.sup) c.args.replica c.as_mut_slice.result.now c.fuse_at.new.replicas one (ap (λ r. r.sup) step.same)
    (λ x. refl) j r r' (subst (λ xs. At xs j r) (sym now) e) f)

pub returns-clause-still : goal.returns-clause-still
returns-clause-still g c = ap (λ (v : Volume g.row.D.Denot g.row.D-Piece.Denot). record v { replicas = (with_items c.self.inside.replicas c.fuse_at.new.replicas).items }) c.self.view_is

pub returns-clause-tight : goal.returns-clause-tight
returns-clause-tight g c = λ tells j tight r' f.
    let now = c.as_mut_slice.ensures.value in
    let kept = with_items_is c.self.inside.replicas c.fuse_at.new.replicas (c.fuse_at.auto.replicas ∙ c.as_mut_slice.ensures.len) in
    let one = c.fuse_at.ensures.one in
    let step = c.fuse_at.ensures.fuses one.before one.after one.was (one_after c.args.replica c.as_mut_slice.result.now c.fuse_at.new.replicas one) in
    tight_one g.D.Disk.files c.args.replica c.as_mut_slice.result.now c.fuse_at.new.replicas one
    (tight_fused g.D.Disk.files one.before one.after g.D.Disk.Tells g.D.Disk.fault_count tells g.D.Disk.fuse_count step)
    j (λ r e. tight r (subst (λ v. At v.replicas j r) c.self.view_is (subst (λ xs. At xs j r) now e))) r' (subst (λ xs. At xs j r') kept f)

pub returns-clause-unchanged : goal.returns-clause-unchanged
returns-clause-unchanged g c =
    let now = c.as_mut_slice.ensures.value in
    let kept = with_items_is c.self.inside.replicas c.fuse_at.new.replicas (c.fuse_at.auto.replicas ∙ c.as_mut_slice.ensures.len) in
    let one : CallsOne c.args.replica c.self.inside.replicas.items c.fuse_at.new.replicas = subst (λ xs. CallsOne c.args.replica xs c.fuse_at.new.replicas) now c.fuse_at.ensures.one in
    let step = c.fuse_at.ensures.fuses one.before one.after (subst (λ xs. At xs c.args.replica one.before) (sym now) one.was)
    (one_after c.args.replica c.self.inside.replicas.items c.fuse_at.new.replicas one) in
    same_one c.args.replica c.self.inside.settings c.self.inside.number c.self.inside.replicas.items c.fuse_at.new.replicas c.self.inside.rows c.self.inside.front c.self.inside.frozen
    c.self.inside.unsure one c.args.self.now c.self.view_is
    (with_items c.self.inside.replicas c.fuse_at.new.replicas).items kept (ap (λ (x : Copy g.row.D.Denot). replica_seen x) step.same)
