use Rattle.std.proofs.Common.{◌≡◌, ℕ, true, false, cond, Option, Some, None, rules, ap, sym, ◌∙◌}
use Rattle.std.specs.Prelude.{is_some}
use Rattle.hay_needle.specs.Tables.{pair_eq}
use Rattle.hay_legal.specs.Known.{home_in}
use Rattle.hay_directory.specs.Rows.{home_row}
use Rattle.hay_directory.proofs.HomeLaws.{home_in-settled}
use Rattle.hay_views.proofs.HomeLaw.{home_kept, home_missing}
use Rattle.hay_views.proofs.homes.HomeView.add.Goals as goal

pub invariant_of-self : goal.invariant_of-self
invariant_of-self c =
    let some : is_some c.home_of.result ≡ true = search rules in
    let has : is_some (home_in c.self.inside.rows c.args.row.pair) ≡ true = ap is_some (sym (c.home_of.ensures ∙ c.self.invariant c.args.row.pair)) ∙ some in
    rw c.add.ensures (λ other. c.self.invariant other ∙ sym (home_kept c.self.inside.rows (home_row c.args.row) other has))

pub invariant_of-self-2 : goal.invariant_of-self-2
invariant_of-self-2 c =
    let lacks : is_some c.home_of.result ≡ false = search rules in
    let none : home_in c.self.inside.rows c.args.row.pair ≡ None = sym (c.home_of.ensures ∙ c.self.invariant c.args.row.pair) ∙ home_missing c.home_of.result lacks in
    rw c.add-2.ensures (λ other.
    c.in_ok-settle.ensures.ok.at other
    ∙ ap (λ (home : Option ℕ). cond (pair_eq c.args.row.pair other) (Some c.args.row.volume) home) (c.self.invariant other)
    ∙ sym (home_in-settled c.self.inside.rows (home_row c.args.row) other none))
