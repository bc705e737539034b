use Rattle.std.proofs.Common.{◌<◌, ◌≤◌, ◌∷◌, [], inl, inr, length, length-append, sym, ap, subst, ◌∙◌, arith}
use Rattle.hay_needle.specs.declared.settings.TheConstants.{MAX_REPLICAS}
use Rattle.hay_physical.specs.OpenCopies.{Copy, is_frozen}
use Rattle.hay_logical.specs.Fits.{At}
use Rattle.hay_logical.specs.Volumes.{Volume}
use Rattle.hay_logical.proofs.Calls.{reaches_closed}
use Rattle.hay_logical.proofs.Lists.{at_either}
use Rattle.hay_logical.proofs.Opened.{same_super}
use Rattle.hay_logical.proofs.logical.Logical.add.Goals as goal

pub invariant_of-self : goal.invariant_of-self
invariant_of-self g c =
    let shape = c.self.invariant.0 in
    let olds = c.self.inside.replicas.items in
    let low : length olds < c.self.inside.settings.replicas =
    subst (λ (v : Volume g.row.D.Denot g.row.D-Piece.Denot). length v.replicas < v.settings.replicas) (sym c.self.view_is) c.requires in
    let most = (shape.settings).most in
    let longer = ap length c.push_reserved.ensures.items ∙ length-append olds (c.new.result ∷ []) in (
      record {
        settings = shape.settings;
        count = omega (arith, longer, low);
        sups = λ j r f. elim (at_either olds c.new.result j r (subst (λ xs. At xs j r) c.push_reserved.ensures.items f)) [
          | inl h ↦ shape.sups j r h
          | inr h ↦ same_super r c.self.inside.settings c.self.inside.number _ j (ap (λ (x : Copy g.row.D.Denot). x.sup) (h.1 ∙ c.new.ensures))
              (let e = h.0 in omega (arith, e, c.len.ensures, c.self.inside.replicas.ok.0, low, most))
        ];
        width = shape.width;
        thawed = λ none j r f. elim (at_either olds c.new.result j r (subst (λ xs. At xs j r) c.push_reserved.ensures.items f)) [
          | inl h ↦ shape.thawed none j r h
          | inr h ↦ ap (λ (x : Copy g.row.D.Denot). is_frozen x) (h.1 ∙ c.new.ensures)
        ];
        frozen_by = shape.frozen_by;
        settled = shape.settled;
      },
      subst (λ n. MAX_REPLICAS ≤ n) (sym c.push_reserved.ensures.capacity) c.self.invariant.1,
      λ tells j r f. elim (at_either olds c.new.result j r (subst (λ xs. At xs j r) c.push_reserved.ensures.items f)) [
        | inl h ↦ c.self.invariant.2 tells j r h
        | inr h ↦ reaches_closed g.D.Disk.files c.self.inside.rows j r (ap (λ (x : Copy g.row.D.Denot). x.phase) (h.1 ∙ c.new.ensures))
      ],
    )
