use Rattle.std.proofs.Common.{◌≡◌, List, ℕ, [], ◌∷◌, ◌++◌, drop, length, refl, ap, sym, ◌∙◌, arith}
use Rattle.std.specs.Prelude.{decimal}
use Rattle.hay_audit.proofs.Heads.{head_is, head_is_not}
use Rattle.hay_audit.proofs.answers.behind_number.Goals as goal

pub returns-then-starts_with-clause-some : goal.returns-then-starts_with-clause-some
returns-then-starts_with-clause-some c =
    let text = c.args.text.now in
    let head = c.as_bytes.result.now in
    let is : c.as_bytes.result.now ≡ decimal c.args.line ++ 32 ∷ [] =
    c.as_bytes.ensures.value ∙ c.in_ok-write.ensures.bytes ∙ ap (λ (xs : List ℕ). xs ++ (decimal c.args.line ++ 32 ∷ [])) c.new-head.ensures.bytes in
    let long : length c.as_bytes.result.now ≡ c.len.result = c.as_bytes.ensures.len ∙ sym c.len.ensures in (
      omega (arith, long, c.if-starts_with.ensures.bound refl),
      head_is c.args.text.now c.as_bytes.result.now (sym c.if-starts_with.ensures.value)
          ∙ ap (λ (xs : List ℕ). xs ++ drop (length c.as_bytes.result.now) c.args.text.now) is
          ∙ ap (λ (n : ℕ). (decimal c.args.line ++ 32 ∷ []) ++ drop n c.args.text.now) long,
    )

pub returns-clause-none : goal.returns-clause-none
returns-clause-none c = λ rest e.
    let is : c.as_bytes.result.now ≡ decimal c.args.line ++ 32 ∷ [] =
    c.as_bytes.ensures.value ∙ c.in_ok-write.ensures.bytes ∙ ap (λ (xs : List ℕ). xs ++ (decimal c.args.line ++ 32 ∷ [])) c.new-head.ensures.bytes in
    head_is_not c.args.text.now c.as_bytes.result.now (sym c.if-starts_with.ensures.value) rest (e ∙ ap (λ (xs : List ℕ). xs ++ rest) (sym is))
