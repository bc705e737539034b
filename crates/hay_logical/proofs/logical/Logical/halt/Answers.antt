use Rattle.std.proofs.Common.{◌≡◌, ◌≤◌, ◌<◌, ℕ, length, Some, refl, sym, ap, subst, ◌∙◌, arith}
use Rattle.std.specs.Vec.{with_items}
use Rattle.std.proofs.lemmas.List.{with_items_is}
use Rattle.hay_legal.specs.Known.{machine_of}
use Rattle.hay_physical.specs.OpenCopies.{Copy, IsOpenCopy}
use Rattle.hay_logical.specs.Fits.{At}
use Rattle.hay_logical.specs.ReplicaCalls.{AllIdle, LosesRun}
use Rattle.hay_logical.specs.Volumes.{CanReach, IsShaped, KeepsCounts, Volume}
use Rattle.hay_logical.proofs.Calls.{keeps_counts, open_up, up_thawed}
use Rattle.hay_logical.proofs.Changing.{some_none}
use Rattle.hay_logical.proofs.Freezing.{frozen_machine}
use Rattle.hay_logical.proofs.Lists.{at_below, at_there}
use Rattle.hay_logical.proofs.Methods.{same_by, shaped_on}
use Rattle.hay_logical.proofs.Reaching.{same_rows}
use Rattle.hay_logical.proofs.Standing.{volume_with}
use Rattle.hay_logical.proofs.logical.Logical.halt.Given as given
use Rattle.hay_logical.proofs.logical.Logical.halt.Goals as goal
use Rattle.hay_logical.proofs.logical.Logical.halt.Goals.{After-drop_runs}

kept : (g : given.Over) (c : After-drop_runs g) → (with_items c.self.inside.replicas c.drop_runs.new.replicas).items ≡ c.drop_runs.new.replicas
kept g c = with_items_is c.self.inside.replicas c.drop_runs.new.replicas (c.drop_runs.auto.replicas ∙ c.as_mut_slice.ensures.len)

loses : (g : given.Over) (c : After-drop_runs g) (j : ℕ) (r r' : Copy g.row.D.Denot) → At c.self.inside.replicas.items j r → At c.drop_runs.new.replicas j r'
    → LosesRun g.D.Disk.Tells g.D.Disk.files r r'
loses g c j r r' e f = c.drop_runs.ensures.each j r r' (subst (λ xs. At xs j r) (sym c.as_mut_slice.ensures.value) e) f

count : (g : given.Over) (c : After-drop_runs g) → length c.drop_runs.new.replicas ≡ length c.self.inside.replicas.items
count g c = c.drop_runs.ensures.count ∙ ap length c.as_mut_slice.ensures.value

is_open : (g : given.Over) (c : After-drop_runs g) (j : ℕ) (r : Copy g.row.D.Denot) → At c.self.inside.replicas.items j r → IsOpenCopy r
is_open g c j r e = c.requires.each j r (subst (λ v. At v.replicas j r) c.self.view_is e)

pub machine_of-requires-clause-of : goal.machine_of-requires-clause-of
machine_of-requires-clause-of g c = (c.self.invariant.0).settings

pub invariant_of-self : goal.invariant_of-self
invariant_of-self g c =
    let a = (goal.at.invariant_of-self g c).After-drop_runs in
    let some = ((c.self.invariant.0).settings).some in (
      subst (λ rs. IsShaped (volume_with c.self.inside.settings c.self.inside.number rs c.self.inside.rows c.self.inside.front (Some c.machine_of.result) c.self.inside.unsure)) (sym (kept g a))
          (shaped_on c.self.inside.settings c.self.inside.number c.self.inside.replicas.items c.drop_runs.new.replicas c.self.inside.rows c.self.inside.rows c.self.inside.front
          c.self.inside.front c.self.inside.frozen (Some c.machine_of.result) c.self.inside.unsure c.self.inside.unsure
          c.self.invariant.0 (frozen_machine c.self.inside.settings c.self.inside.number 0 c.machine_of.result
          (let first : 0 < c.self.inside.settings.replicas = omega (arith, some) in first) c.machine_of.ensures) (λ none. some_none none) (count g a)
          (λ j r r' e f. (loses g a j r r' e f).sup) refl (λ none j r r' e f. some_none none)),
      c.self.invariant.1,
      subst (λ rs. CanReach g.D.Disk.Tells g.D.Disk.files g.D.Piece.Piece.Tells rs c.self.inside.rows) (sym (kept g a))
          (same_rows g.D.Disk.Tells g.D.Disk.files c.self.inside.replicas.items c.drop_runs.new.replicas c.self.inside.rows c.self.inside.rows c.self.invariant.2 (count g a)
          (λ j r r' e f. (λ up. open_up r (is_open g a j r e) (sym (loses g a j r r' e f).frozen ∙ up_thawed r' up), λ is. is_open g a j r e))
          (λ j r r' e f. (loses g a j r r' e f).reach) (λ pair. refl)),
    )

pub returns-clause-still : goal.returns-clause-still
returns-clause-still g c =
    let items = (with_items c.self.inside.replicas c.drop_runs.new.replicas).items in
    ap (λ m. volume_with c.self.inside.settings c.self.inside.number items c.self.inside.rows c.self.inside.front (Some m) c.self.inside.unsure) c.machine_of.ensures
    ∙ ap (λ (v : Volume g.row.D.Denot g.row.D-Piece.Denot). record v { replicas = items; frozen = Some (machine_of v.settings v.number 0) }) c.self.view_is

pub returns-clause-each : goal.returns-clause-each
returns-clause-each g c = λ j r r' e f.
    let a = (goal.at.returns-clause-each g c).After-drop_runs in
    loses g a j r r' (subst (λ v. At v.replicas j r) (sym c.self.view_is) e) (subst (λ xs. At xs j r') (kept g a) f)

pub returns-clause-ended : goal.returns-clause-ended
returns-clause-ended g c = subst AllIdle (sym (kept g (goal.at.returns-clause-ended g c).After-drop_runs)) c.drop_runs.ensures.idle

pub returns-clause-open : goal.returns-clause-open
returns-clause-open g c =
    let a = (goal.at.returns-clause-open g c).After-drop_runs in
    record {
      all = ap length (kept g a) ∙ count g a ∙ ap (λ v. length v.replicas) c.self.view_is ∙ c.requires.all ∙ ap (λ v. v.settings.replicas) (sym c.self.view_is);
      each = λ j r' f.
          let there = subst (λ xs. At xs j r') (kept g a) f in
          let old = at_there c.self.inside.replicas.items j (subst (λ n. j < n) (count g a) (at_below c.drop_runs.new.replicas j r' there)) in
          (loses g a j old.0 r' old.1 there).«open» (is_open g a j old.0 old.1);
    }

pub returns-clause-counts : goal.returns-clause-counts
returns-clause-counts g c =
    let a = (goal.at.returns-clause-counts g c).After-drop_runs in
    subst (λ v. KeepsCounts g.D.Disk.fault_count g.D.Disk.fuse_count v.replicas (with_items c.self.inside.replicas c.drop_runs.new.replicas).items) c.self.view_is
    (subst (λ rs. KeepsCounts g.D.Disk.fault_count g.D.Disk.fuse_count c.self.inside.replicas.items rs) (sym (kept g a))
    (keeps_counts g.D.Disk.fault_count g.D.Disk.fuse_count c.self.inside.replicas.items c.drop_runs.new.replicas (count g a) (λ j r r' e f.
    let disk = (loses g a j r r' e f).disk in
    let same = ap g.D.Disk.fault_count disk in
    (let low : g.D.Disk.fault_count r.disk ≤ g.D.Disk.fault_count r'.disk = omega (arith, same) in low, ap g.D.Disk.fuse_count disk))))

pub returns-clause-same : goal.returns-clause-same
returns-clause-same g c =
    let a = (goal.at.returns-clause-same g c).After-drop_runs in
    same_by _ _ _ _ c.self.view_is refl refl (kept g a) (λ j r r' e f. (loses g a j r r' e f).sup)

pub returns-clause-settled : goal.returns-clause-settled
returns-clause-settled g c = λ none. ap (λ v. v.unsure) (sym c.self.view_is) ∙ (c.self.invariant.0).settled (ap (λ v. v.frozen) c.self.view_is ∙ none)
