use Rattle.std.proofs.Common.{◌≤◌, sym, ap, subst, ◌∙◌, arith, length, List}
use Rattle.std.proofs.lemmas.Bool.Decides.{nat_tests}
use mathlib.Core.List.{IsPrefix}
use Rattle.hay_front.specs.declared.book.Line.{Line}
use Rattle.hay_front.proofs.Histories.{is_behind}
use Rattle.hay_front.proofs.Prefixes.{prefix_shorter}
use Rattle.hay_front.proofs.history.Known.is_behind.Goals as goal

pub returns-clause-yes : goal.returns-clause-yes
returns-clause-yes g c = λ yes.
    let xs = c.self.inside.seen.log in let ys = c.other.inside.seen.log in let both = c.learn.new.self.log in
    let this : IsPrefix xs both = subst (λ (l : List (Line g.row.T-Means.Denot g.row.T-Start.Denot g.row.T-Deed.Denot)). IsPrefix l both) (ap (λ s. s.log) c.again-both.ensures) c.learn.ensures.2 in
    let test : c.self.inside.count ≤ c.other.inside.count = grind (arith, nat_tests) in
    let less : length xs ≤ length ys = omega (arith, c.self.invariant.0, c.other.invariant.0, test) in
    rw (← c.self.view_is, ← c.other.view_is) (is_behind g.T.View.fact _ _ xs ys (ap (λ w. w.front) c.self.view_is ∙ (c.requires.one ∙ sym (ap (λ w. w.front) c.other.view_is)))
    c.self.invariant.1 (prefix_shorter xs ys both this c.learn.ensures.3 less))

pub returns-clause-no : goal.returns-clause-no
returns-clause-no g c = λ no.
    let xs = c.self.inside.seen.log in let ys = c.other.inside.seen.log in let both = c.learn.new.self.log in
    let this : IsPrefix xs both = subst (λ (l : List (Line g.row.T-Means.Denot g.row.T-Start.Denot g.row.T-Deed.Denot)). IsPrefix l both) (ap (λ s. s.log) c.again-both.ensures) c.learn.ensures.2 in
    let test : c.other.inside.count ≤ c.self.inside.count = grind (arith, nat_tests) in
    let less : length ys ≤ length xs = omega (arith, c.self.invariant.0, c.other.invariant.0, test) in
    rw (← c.self.view_is, ← c.other.view_is) (is_behind g.T.View.fact _ _ ys xs (sym (ap (λ w. w.front) c.self.view_is
    ∙ (c.requires.one ∙ sym (ap (λ w. w.front) c.other.view_is)))) c.other.invariant.1 (prefix_shorter ys xs both c.learn.ensures.3 this less))
