use Rattle.std.proofs.Common.{◌≡◌, ℕ, Bool, List, Option, Some, None, true, false, not, is_none, is_some, refl, ap, sym, ◌∙◌}
use Rattle.hay_legal.specs.declared.known.HomeRow.{HomeRow}
use Rattle.hay_legal.specs.Known.{home_in}
use Rattle.hay_audit.proofs.Keyed.{homes_beside}
use Rattle.hay_audit.proofs.pairs.Rows.add.Goals as goal

none_by : (home : Option ℕ) (b : Bool) → is_some home ≡ not b → is_none home ≡ b
none_by None true e = refl
none_by None false e = absurd cc
none_by (Some v) true e = absurd cc
none_by (Some v) false e = refl

pub invariant_of-result : goal.invariant_of-result
invariant_of-result c =
    let some : is_none (home_in c.self.inside.rows c.args.row.pair) ≡ false =
    ap (λ (rows : List HomeRow). is_none (home_in rows c.args.row.pair)) c.self.view_is
    ∙ ap (λ (o : Option ℕ). is_none o) (sym c.home.ensures) ∙ none_by c.home.result c.is_none.result c.is_none.ensures ∙ c.if-is_none.false in
    homes_beside c.self.inside.homes.entries c.self.inside.rows c.push.new.self c.args.row c.self.invariant some c.in_ok-push.ensures.ok

none_if : (home : Option ℕ) → is_none home ≡ true → home ≡ None
none_if None e = refl
none_if (Some v) e = absurd cc

pub with-requires : goal.with-requires
with-requires c = sym c.home.ensures ∙ none_if c.home.result (none_by c.home.result c.is_none.result c.is_none.ensures ∙ c.if-is_none.true)
