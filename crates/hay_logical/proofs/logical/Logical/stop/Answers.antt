use Rattle.std.proofs.Common.{◌<◌, ℕ, length, refl, sym, ap, subst, ◌∙◌}
use Rattle.std.proofs.lemmas.List.{with_items_is}
use Rattle.hay_physical.specs.OpenCopies.{Copy, phase_frozen}
use Rattle.hay_logical.specs.Fits.{At}
use Rattle.hay_logical.specs.Stands.{Stands, StandsFor, Stopped, StoppedFor}
use Rattle.hay_logical.specs.ReplicaCalls.{Stops}
use Rattle.hay_logical.specs.Volumes.{CanReach, IsShaped}
use Rattle.hay_logical.proofs.Reaching.{none_open}
use Rattle.hay_logical.proofs.Lists.{at_below, at_there}
use Rattle.hay_logical.proofs.Methods.{same_by, shaped_on, stopped}
use Rattle.hay_logical.proofs.Standing.{volume_with}
use Rattle.hay_logical.proofs.logical.Logical.stop.Goals as goal

pub invariant_of-self : goal.invariant_of-self
invariant_of-self g c =
    let now = c.as_mut_slice.ensures.value in
    let kept = with_items_is c.self.inside.replicas c.stop_each.new.replicas (c.stop_each.auto.replicas ∙ c.as_mut_slice.ensures.len) in
    let stops : (j : ℕ) (r r' : Copy g.row.D.Denot) → At c.self.inside.replicas.items j r → At c.stop_each.new.replicas j r'
    → Stops g.D.Disk.Tells g.D.Disk.files g.D.Disk.fault_count g.D.Disk.fuse_count r r' =
    λ j r r' e f. c.stop_each.ensures.stopped j r r' (subst (λ xs. At xs j r) (sym now) e) f in (
      subst (λ rs. IsShaped (volume_with c.self.inside.settings c.self.inside.number rs c.self.inside.rows c.self.inside.front c.self.inside.frozen c.self.inside.unsure)) (sym kept)
          (shaped_on c.self.inside.settings c.self.inside.number c.self.inside.replicas.items c.stop_each.new.replicas c.self.inside.rows c.self.inside.rows c.self.inside.front
          c.self.inside.front c.self.inside.frozen c.self.inside.frozen c.self.inside.unsure c.self.inside.unsure
          c.self.invariant.0 (c.self.invariant.0).frozen_by (c.self.invariant.0).settled (c.stop_each.ensures.count ∙ ap length now) (λ j r r' e f. (stops j r r' e f).sup) refl
          (λ none j r r' e f. ap phase_frozen (stops j r r' e f).closed)),
      c.self.invariant.1,
      subst (λ rs. CanReach g.D.Disk.Tells g.D.Disk.files g.D.Piece.Piece.Tells rs c.self.inside.rows) (sym kept)
          (none_open g.D.Disk.Tells g.D.Disk.files c.stop_each.new.replicas c.self.inside.rows (λ j r' f.
          let old = at_there c.as_mut_slice.result.now j (subst (λ n. j < n) c.stop_each.ensures.count (at_below c.stop_each.new.replicas j r' f)) in
          (c.stop_each.ensures.stopped j old.0 r' old.1 f).closed)),
    )

pub returns-clause-stopped : goal.returns-clause-stopped
unfolding Stands Stopped
returns-clause-stopped g c = λ tells k stands.
    let now = c.as_mut_slice.ensures.value in
    let kept = with_items_is c.self.inside.replicas c.stop_each.new.replicas (c.stop_each.auto.replicas ∙ c.as_mut_slice.ensures.len) in
    let stops : (j : ℕ) (r r' : Copy g.row.D.Denot) → At c.self.inside.replicas.items j r → At c.stop_each.new.replicas j r'
    → Stops g.D.Disk.Tells g.D.Disk.files g.D.Disk.fault_count g.D.Disk.fuse_count r r' =
    λ j r r' e f. c.stop_each.ensures.stopped j r r' (subst (λ xs. At xs j r) (sym now) e) f in
    subst (λ rs. StoppedFor g.D.Disk.files (volume_with c.self.inside.settings c.self.inside.number rs c.self.inside.rows c.self.inside.front c.self.inside.frozen c.self.inside.unsure) k) (sym kept)
    (stopped c.self.inside.settings c.self.inside.number g.D.Disk.Tells g.D.Disk.files g.D.Piece.Piece.Tells g.D.Disk.fault_count g.D.Disk.fuse_count tells
    c.self.inside.replicas.items c.stop_each.new.replicas c.self.inside.rows c.self.inside.front c.self.inside.frozen c.self.inside.unsure k
    (subst (λ v. StandsFor g.D.Disk.files g.D.Piece.Piece.Tells v k) (sym c.self.view_is) stands) (c.stop_each.ensures.count ∙ ap length now) stops)

pub returns-clause-closed : goal.returns-clause-closed
returns-clause-closed g c = λ j r' f.
    let kept = with_items_is c.self.inside.replicas c.stop_each.new.replicas (c.stop_each.auto.replicas ∙ c.as_mut_slice.ensures.len) in
    let there : At c.stop_each.new.replicas j r' = subst (λ xs. At xs j r') kept f in
    let old = at_there c.as_mut_slice.result.now j (subst (λ n. j < n) c.stop_each.ensures.count (at_below c.stop_each.new.replicas j r' there)) in
    (c.stop_each.ensures.stopped j old.0 r' old.1 there).closed

pub returns-clause-idle : goal.returns-clause-idle
returns-clause-idle g c = λ tells j r' f.
    let kept = with_items_is c.self.inside.replicas c.stop_each.new.replicas (c.stop_each.auto.replicas ∙ c.as_mut_slice.ensures.len) in
    let there : At c.stop_each.new.replicas j r' = subst (λ xs. At xs j r') kept f in
    let old = at_there c.as_mut_slice.result.now j (subst (λ n. j < n) c.stop_each.ensures.count (at_below c.stop_each.new.replicas j r' there)) in
    (c.stop_each.ensures.stopped j old.0 r' old.1 there).idle tells

pub returns-clause-all : goal.returns-clause-all
returns-clause-all g c =
    let kept = with_items_is c.self.inside.replicas c.stop_each.new.replicas (c.stop_each.auto.replicas ∙ c.as_mut_slice.ensures.len) in
    ap length kept ∙ c.stop_each.ensures.count ∙ ap length c.as_mut_slice.ensures.value ∙ ap (λ v. length v.replicas) c.self.view_is

pub returns-clause-counts : goal.returns-clause-counts
returns-clause-counts g c = λ j r r' e f.
    let kept = with_items_is c.self.inside.replicas c.stop_each.new.replicas (c.stop_each.auto.replicas ∙ c.as_mut_slice.ensures.len) in
    let there : At c.stop_each.new.replicas j r' = subst (λ xs. At xs j r') kept f in
    let was : At c.as_mut_slice.result.now j r = subst (λ xs. At xs j r) (sym c.as_mut_slice.ensures.value) (subst (λ v. At v.replicas j r) (sym c.self.view_is) e) in
    ((c.stop_each.ensures.stopped j r r' was there).same_faults, (c.stop_each.ensures.stopped j r r' was there).same_fuses)

pub returns-clause-same : goal.returns-clause-same
returns-clause-same g c =
    let now = c.as_mut_slice.ensures.value in
    let kept = with_items_is c.self.inside.replicas c.stop_each.new.replicas (c.stop_each.auto.replicas ∙ c.as_mut_slice.ensures.len) in
    same_by _ _ _ _ c.self.view_is refl refl kept (λ j r r' e f. (c.stop_each.ensures.stopped j r r' (subst (λ xs. At xs j r) (sym now) e) f).sup)

pub returns-clause-drawn : goal.returns-clause-drawn
returns-clause-drawn g c = λ tells j r' f.
    let kept = with_items_is c.self.inside.replicas c.stop_each.new.replicas (c.stop_each.auto.replicas ∙ c.as_mut_slice.ensures.len) in
    let there : At c.stop_each.new.replicas j r' = subst (λ xs. At xs j r') kept f in
    let old = at_there c.as_mut_slice.result.now j (subst (λ n. j < n) c.stop_each.ensures.count (at_below c.stop_each.new.replicas j r' there)) in
    c.stop_each.ensures.drawn tells j old.0 r' old.1 there

pub returns-clause-unsure : goal.returns-clause-unsure
returns-clause-unsure g c = ap (λ v. v.unsure) c.self.view_is
