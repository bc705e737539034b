use Rattle.std.proofs.Common.{arith, ◌≡◌, ℕ, true, false, Option, Some, None, refl, sym, ap, subst, ◌∙◌}
use Rattle.std.specs.Prelude.{is_some}
use Rattle.hay_legal.specs.Known.{machine_of}
use Rattle.hay_legal.specs.Plain.{frozen_by}
use Rattle.hay_logical.specs.Stands.{Stands, StandsFor}
use Rattle.hay_logical.proofs.Calls.{counted_same, keeps_counts}
use Rattle.hay_logical.proofs.Finishing.{stands_halted}
use Rattle.hay_logical.proofs.Lists.{at_same}
use Rattle.hay_logical.proofs.Methods.{same_still}
use Rattle.hay_logical.proofs.Standing.{volume_with}
use Rattle.hay_logical.specs.Seen.{FreezesSeen, volume_seen}
use Rattle.hay_logical.proofs.SeenSwaps.{idle_seen}
use Rattle.hay_logical.proofs.Seen.{longer_seen, many_seen}
use Rattle.hay_logical.proofs.logical.Logical.freeze.Goals as goal

never : {X : Type 0} (o : Option ℕ) → is_some o ≡ true → o ≡ None → X
never None e none = let wrong : false ≡ true = e in absurd cc
never (Some m) e none = absurd cc

is_none : (o : Option ℕ) → is_some o ≡ false → o ≡ None
is_none None e = refl
is_none (Some m) e = let wrong : true ≡ false = e in absurd cc

pub returns-then-is_some-clause-frozen : goal.returns-then-is_some-clause-frozen
unfolding Stands
returns-then-is_some-clause-frozen g c = λ tells k stands none.
    never c.self.inside.frozen (sym c.is_some.ensures ∙ c.if-is_some.true) (ap (λ v. v.frozen) c.self.view_is ∙ sym stands.frozen ∙ none)

pub returns-then-is_some-clause-still : goal.returns-then-is_some-clause-still
returns-then-is_some-clause-still g c = λ none. never c.self.inside.frozen (sym c.is_some.ensures ∙ c.if-is_some.true) (ap (λ v. v.frozen) c.self.view_is ∙ none)

pub returns-then-is_some-clause-counts : goal.returns-then-is_some-clause-counts
returns-then-is_some-clause-counts g c =
    keeps_counts g.D.Disk.fault_count g.D.Disk.fuse_count c.args.self.now.replicas c.args.self.now.replicas refl
    (λ j r r' e f. counted_same g.D.Disk.fault_count g.D.Disk.fuse_count r r' (at_same c.args.self.now.replicas j r' r f e))

pub returns-then-is_some-clause-same : goal.returns-then-is_some-clause-same
returns-then-is_some-clause-same g c = same_still _

pub returns-clause-frozen : goal.returns-clause-frozen
unfolding Stands
returns-clause-frozen g c = λ tells k stands none.
    let old = c.args.self.now in
    let thawed : old.frozen ≡ None = sym (ap (λ v. v.frozen) c.self.view_is) ∙ is_none c.self.inside.frozen (sym c.is_some.ensures ∙ c.if-is_some.false) in
    subst (λ v. StandsFor g.D.Disk.files g.D.Piece.Piece.Tells v (frozen_by (machine_of old.settings old.number 0) k)) (sym c.halt.ensures.still)
    (stands_halted old.settings old.number g.D.Disk.Tells g.D.Disk.files g.D.Piece.Piece.Tells old.replicas c.halt.new.self.replicas old.rows old.rows old.front old.unsure k
    (subst (λ o. StandsFor g.D.Disk.files g.D.Piece.Piece.Tells (volume_with old.settings old.number old.replicas old.rows old.front o old.unsure) k) thawed stands) c.halt.ensures.counts.count
    tells (machine_of old.settings old.number 0) (λ q. refl) c.halt.ensures.each c.halt.ensures.ended)

pub returns-clause-again : goal.returns-clause-again
returns-clause-again g c = λ m e.
    let thawed = sym (ap (λ v. v.frozen) c.self.view_is) ∙ is_none c.self.inside.frozen (sym c.is_some.ensures ∙ c.if-is_some.false) in
    let wrong : Some m ≡ None = sym e ∙ thawed in
    absurd cc

pub returns-then-is_some-clause-seen : goal.returns-then-is_some-clause-seen
returns-then-is_some-clause-seen g c = λ none. never c.self.inside.frozen (sym c.is_some.ensures ∙ c.if-is_some.true) (ap (λ v. v.frozen) c.self.view_is ∙ none)

pub returns-clause-seen : goal.returns-clause-seen
returns-clause-seen g c = λ none.
    let old = c.args.self.now in
    subst (λ v. FreezesSeen (machine_of old.settings old.number 0) old.unsure (volume_seen old) (volume_seen v)) (sym c.halt.ensures.still)
    (record {
      thawed = none;
      settled = c.halt.ensures.settled none;
      many = many_seen c.args.self.now.replicas c.halt.new.self.replicas c.halt.ensures.counts.count;
      front = refl;
      frozen = refl;
      unsure = refl;
      idle = idle_seen c.halt.new.self.replicas c.halt.ensures.ended;
      longer = longer_seen c.args.self.now.replicas c.halt.new.self.replicas _ refl (λ j r r' e f. let end = (c.halt.ensures.each j r r' e f).end in omega (arith, end));
    })
