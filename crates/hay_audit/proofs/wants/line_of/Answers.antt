use Rattle.std.proofs.Common.{◌≡◌, ℕ, List, ◌++◌, Some, true, false, ap, sym, ◌∙◌}
use Rattle.std.proofs.lemmas.Bool.Decides.{Decides-eqb}
use Rattle.std.proofs.lemmas.Slice.Eq.{slice_eq-Decides}
use Rattle.hay_reply.specs.Reading.{large}
use Rattle.hay_audit.specs.Wants.{before_space, wanting_text}
use Rattle.hay_audit.proofs.Wanting.{large_below, other_text}
use Rattle.hay_audit.proofs.wants.line_of.Goals as goal

pub returns-then-eq-clause-below : goal.returns-then-eq-clause-below
returns-then-eq-clause-below c = large_below c.first_word.result.now c.in-Some.number (sym c.in-Some.ensures)

pub returns-clause-none : goal.returns-clause-none
returns-clause-none c =
    let is : large (before_space c.args.text.now) ≡ Some c.in-Some.number = ap (λ (t : List ℕ). large t) c.first_word.ensures ∙ sym c.in-Some.ensures in
    other_text c.args.text.now (Some c.in-Some.number) is (λ n e f.
    let same : c.in-Some.number ≡ n = cc in
    let text : c.args.text.now ≡ wanting_text c.in-Some.number = f ∙ ap (λ (m : ℕ). wanting_text m) (sym same) in
    let told : c.as_bytes.result.now ≡ wanting_text c.in-Some.number =
    c.as_bytes.ensures.value ∙ c.in_ok-write.ensures.bytes ∙ ap (λ (xs : List ℕ). xs ++ wanting_text c.in-Some.number) c.new-told.ensures.bytes in
    let yes_so : c.eq.result ≡ true = (slice_eq-Decides Decides-eqb c.as_bytes.result.now c.args.text.now c.eq.result c.eq.ensures).1 (told ∙ sym text) in
    absurd (let lie : false ≡ true = sym c.if-eq.false ∙ yes_so in cc))
