use Rattle.std.proofs.Common.{◌≡◌, ℕ, true, false, rules, ap, sym, ◌∙◌}
use Rattle.hay_views.specs.MapPasts.{fits}
use Rattle.hay_views.proofs.Changing.{map_changed, map_unfit}
use Rattle.hay_views.proofs.places.PlaceViewView.apply.Goals as goal

pub invariant_of-self : goal.invariant_of-self
invariant_of-self g c =
    let no : c.is_fit.result ≡ false = search rules in
    let unfit : fits c.self.inside.map.replicas c.args.op.now.change ≡ false = ap (λ (n : ℕ). fits n c.args.op.now.change) (sym c.self.invariant.0) ∙ sym c.is_fit.ensures ∙ no in
    rw c.add.ensures (c.self.invariant.0, map_unfit _ c.args.op.now.change c.self.inside.map c.self.invariant.1 unfit)

pub invariant_of-self-2 : goal.invariant_of-self-2
invariant_of-self-2 g c =
    let yes : c.is_fit.result ≡ true = search rules in
    let fit : fits c.self.inside.map.replicas c.args.op.now.change ≡ true = ap (λ (n : ℕ). fits n c.args.op.now.change) (sym c.self.invariant.0) ∙ sym c.is_fit.ensures ∙ yes in
    let is = map_changed _ c.args.op.now.change c.self.inside.map c.make.new.map c.self.invariant.1 fit c.in_ok-make.ensures.ok in
    rw c.add-2.ensures (c.self.invariant.0 ∙ (c.self.invariant.1).replicas ∙ sym is.replicas, is)
