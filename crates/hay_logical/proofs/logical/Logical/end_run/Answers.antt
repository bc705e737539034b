use Rattle.std.proofs.Common.{◌≡◌, ◌≤◌, ◌<◌, ℕ, length, refl, sym, ap, subst, ◌∙◌, arith}
use Rattle.std.specs.Vec.{with_items}
use Rattle.std.proofs.lemmas.List.{with_items_is}
use Rattle.hay_legal.specs.Plain.{without_run}
use Rattle.hay_physical.specs.OpenCopies.{Copy, IsOpenCopy}
use Rattle.hay_logical.specs.Answers.{change_at}
use Rattle.hay_logical.specs.Fits.{At}
use Rattle.hay_logical.specs.Stands.{Stands, StandsFor}
use Rattle.hay_logical.specs.ReplicaCalls.{CallsOne, LosesRun}
use Rattle.hay_logical.specs.Volumes.{CanReach, IsShaped, KeepsCounts, Volume}
use Rattle.hay_logical.proofs.Calls.{keeps_counts, loses_none, open_up, up_thawed}
use Rattle.hay_logical.proofs.Changing.{run_ended}
use Rattle.hay_logical.proofs.Lists.{at_below, at_there}
use Rattle.hay_logical.proofs.Methods.{one_after, one_count, one_each, other_same, same_by, shaped_on}
use Rattle.hay_logical.proofs.Reaching.{same_rows}
use Rattle.hay_logical.proofs.Standing.{volume_with}
use Rattle.hay_logical.specs.Seen.{IsEnded}
use Rattle.hay_logical.proofs.Seen.{changes_one}
use Rattle.hay_logical.proofs.logical.Logical.end_run.Given as given
use Rattle.hay_logical.proofs.logical.Logical.end_run.Goals as goal
use Rattle.hay_logical.proofs.logical.Logical.end_run.Goals.{After-drop_run_at}

kept : (g : given.Over) (c : After-drop_run_at g) → (with_items c.self.inside.replicas c.drop_run_at.new.replicas).items ≡ c.drop_run_at.new.replicas
kept g c = with_items_is c.self.inside.replicas c.drop_run_at.new.replicas (c.drop_run_at.auto.replicas ∙ c.as_mut_slice.ensures.len)

one : (g : given.Over) (c : After-drop_run_at g) → CallsOne c.args.replica c.self.inside.replicas.items c.drop_run_at.new.replicas
one g c = subst (λ xs. CallsOne c.args.replica xs c.drop_run_at.new.replicas) c.as_mut_slice.ensures.value c.drop_run_at.ensures.one

count : (g : given.Over) (c : After-drop_run_at g) → length c.drop_run_at.new.replicas ≡ length c.self.inside.replicas.items
count g c = one_count c.args.replica c.self.inside.replicas.items c.drop_run_at.new.replicas (one g c)

there : (g : given.Over) (c : After-drop_run_at g) → LosesRun g.D.Disk.Tells g.D.Disk.files (one g c).before (one g c).after
there g c =
    let o = one g c in
    c.drop_run_at.ensures.loses o.before o.after (subst (λ xs. At xs c.args.replica o.before) (sym c.as_mut_slice.ensures.value) o.was)
    (one_after c.args.replica c.self.inside.replicas.items c.drop_run_at.new.replicas o)

loses : (g : given.Over) (c : After-drop_run_at g) (j : ℕ) (r r' : Copy g.row.D.Denot) → At c.self.inside.replicas.items j r → At c.drop_run_at.new.replicas j r'
    → LosesRun g.D.Disk.Tells g.D.Disk.files r r'
loses g c = one_each (LosesRun g.D.Disk.Tells g.D.Disk.files) c.args.replica c.self.inside.replicas.items c.drop_run_at.new.replicas (one g c) (there g c) (loses_none g.D.Disk.Tells g.D.Disk.files)

is_open : (g : given.Over) (c : After-drop_run_at g) (j : ℕ) (r : Copy g.row.D.Denot) → At c.self.inside.replicas.items j r → IsOpenCopy r
is_open g c j r e = c.requires.«open».each j r (subst (λ v. At v.replicas j r) c.self.view_is e)

pub drop_run_at-requires : goal.drop_run_at-requires
drop_run_at-requires g c =
    let within : c.args.replica < c.self.inside.settings.replicas = subst (λ v. c.args.replica < v.settings.replicas) (sym c.self.view_is) c.requires.within in
    let all : length c.self.inside.replicas.items ≡ c.self.inside.settings.replicas =
    ap (λ v. length v.replicas) c.self.view_is ∙ c.requires.«open».all ∙ ap (λ v. v.settings.replicas) (sym c.self.view_is) in
    let long = ap length c.as_mut_slice.ensures.value in
    omega (arith, within, all, long)

pub invariant_of-self : goal.invariant_of-self
invariant_of-self g c =
    let a = (goal.at.invariant_of-self g c).After-drop_run_at in (
      subst (λ rs. IsShaped (volume_with c.self.inside.settings c.self.inside.number rs c.self.inside.rows c.self.inside.front c.self.inside.frozen c.self.inside.unsure)) (sym (kept g a))
          (shaped_on c.self.inside.settings c.self.inside.number c.self.inside.replicas.items c.drop_run_at.new.replicas c.self.inside.rows c.self.inside.rows c.self.inside.front
          c.self.inside.front c.self.inside.frozen c.self.inside.frozen c.self.inside.unsure c.self.inside.unsure
          c.self.invariant.0 (c.self.invariant.0).frozen_by (c.self.invariant.0).settled (count g a) (λ j r r' e f. (loses g a j r r' e f).sup) refl
          (λ none j r r' e f. (loses g a j r r' e f).frozen ∙ (c.self.invariant.0).thawed none j r e)),
      c.self.invariant.1,
      subst (λ rs. CanReach g.D.Disk.Tells g.D.Disk.files g.D.Piece.Piece.Tells rs c.self.inside.rows) (sym (kept g a))
          (same_rows g.D.Disk.Tells g.D.Disk.files c.self.inside.replicas.items c.drop_run_at.new.replicas c.self.inside.rows c.self.inside.rows c.self.invariant.2 (count g a)
          (λ j r r' e f. (λ up. open_up r (is_open g a j r e) (sym (loses g a j r r' e f).frozen ∙ up_thawed r' up), λ is. is_open g a j r e))
          (λ j r r' e f. (loses g a j r r' e f).reach) (λ pair. refl)),
    )

pub returns-clause-stands : goal.returns-clause-stands
unfolding Stands
returns-clause-stands g c = λ tells k stands.
    let a = (goal.at.returns-clause-stands g c).After-drop_run_at in
    let o = one g a in
    subst (λ rs. StandsFor g.D.Disk.files g.D.Piece.Piece.Tells (volume_with c.self.inside.settings c.self.inside.number rs c.self.inside.rows c.self.inside.front
    c.self.inside.frozen c.self.inside.unsure) (change_at k c.args.replica without_run)) (sym (kept g a))
    (run_ended c.self.inside.settings c.self.inside.number g.D.Disk.Tells g.D.Disk.files g.D.Piece.Piece.Tells g.D.Disk.fault_count tells c.self.inside.replicas.items
    c.drop_run_at.new.replicas c.self.inside.rows c.self.inside.front c.self.inside.frozen c.self.inside.unsure k c.args.replica o
    (subst (λ v. StandsFor g.D.Disk.files g.D.Piece.Piece.Tells v k) (sym c.self.view_is) stands) (there g a)
    (c.drop_run_at.ensures.idle o.after (one_after c.args.replica c.self.inside.replicas.items c.drop_run_at.new.replicas o)))

pub returns-clause-still : goal.returns-clause-still
returns-clause-still g c = ap (λ (v : Volume g.row.D.Denot g.row.D-Piece.Denot). record v { replicas = (with_items c.self.inside.replicas c.drop_run_at.new.replicas).items }) c.self.view_is

pub returns-clause-ended : goal.returns-clause-ended
returns-clause-ended g c = λ r f.
    let a = (goal.at.returns-clause-ended g c).After-drop_run_at in
    c.drop_run_at.ensures.idle r (subst (λ xs. At xs c.args.replica r) (kept g a) f)

pub returns-clause-others : goal.returns-clause-others
returns-clause-others g c = λ j apart r r' e f.
    let a = (goal.at.returns-clause-others g c).After-drop_run_at in
    other_same c.args.replica c.self.inside.replicas.items c.drop_run_at.new.replicas (one g a) j apart r r' (subst (λ v. At v.replicas j r) (sym c.self.view_is) e)
    (subst (λ xs. At xs j r') (kept g a) f)

pub returns-clause-open : goal.returns-clause-open
returns-clause-open g c =
    let a = (goal.at.returns-clause-open g c).After-drop_run_at in
    record {
      all = ap length (kept g a) ∙ count g a ∙ ap (λ v. length v.replicas) c.self.view_is ∙ c.requires.«open».all ∙ ap (λ v. v.settings.replicas) (sym c.self.view_is);
      each = λ j r' f.
          let there = subst (λ xs. At xs j r') (kept g a) f in
          let old = at_there c.self.inside.replicas.items j (subst (λ n. j < n) (count g a) (at_below c.drop_run_at.new.replicas j r' there)) in
          (loses g a j old.0 r' old.1 there).«open» (is_open g a j old.0 old.1);
    }

pub returns-clause-counts : goal.returns-clause-counts
returns-clause-counts g c =
    let a = (goal.at.returns-clause-counts g c).After-drop_run_at in
    subst (λ v. KeepsCounts g.D.Disk.fault_count g.D.Disk.fuse_count v.replicas (with_items c.self.inside.replicas c.drop_run_at.new.replicas).items) c.self.view_is
    (subst (λ rs. KeepsCounts g.D.Disk.fault_count g.D.Disk.fuse_count c.self.inside.replicas.items rs) (sym (kept g a))
    (keeps_counts g.D.Disk.fault_count g.D.Disk.fuse_count c.self.inside.replicas.items c.drop_run_at.new.replicas (count g a) (λ j r r' e f.
    let disk = (loses g a j r r' e f).disk in
    let same = ap g.D.Disk.fault_count disk in
    (let low : g.D.Disk.fault_count r.disk ≤ g.D.Disk.fault_count r'.disk = omega (arith, same) in low, ap g.D.Disk.fuse_count disk))))

pub returns-clause-same : goal.returns-clause-same
returns-clause-same g c =
    let a = (goal.at.returns-clause-same g c).After-drop_run_at in
    same_by _ _ _ _ c.self.view_is refl refl (kept g a) (λ j r r' e f. (loses g a j r r' e f).sup)

pub returns-clause-seen : goal.returns-clause-seen
returns-clause-seen g c =
    let a = (goal.at.returns-clause-seen g c).After-drop_run_at in
    let o = one g a in
    let after = one_after c.args.replica c.self.inside.replicas.items c.drop_run_at.new.replicas o in
    changes_one c.args.replica IsEnded c.self.inside.settings c.self.inside.number c.self.inside.replicas.items c.drop_run_at.new.replicas c.self.inside.rows c.self.inside.front
    c.self.inside.frozen c.self.inside.unsure o c.args.self.now c.self.view_is
    _ (kept g a) (c.drop_run_at.ensures.seen o.before o.after (subst (λ xs. At xs c.args.replica o.before) (sym c.as_mut_slice.ensures.value) o.was) after)
