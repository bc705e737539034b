-- The lines of bytes, one behind another.
use Rattle.std.proofs.Common.{◌≡◌, ◌≢◌, ℕ, ◌<◌, List, [], ◌∷◌, ◌++◌, length, Option, Some, refl, sym, ap, ◌∙◌, append_assoc, arith}
use Rattle.std.specs.List.{onto_first}
use Rattle.std.proofs.lemmas.Grind.{common_steps}
use Rattle.hay_script.specs.Script.{lines_of, seen_byte}
use Rattle.hay_lines.specs.Lines.{NoFeed, TookFed, fed_text}
use Rattle.hay_lines.proofs.Taking.{seen-inner}

seen-fed : (b : ℕ) (given rest : List ℕ) → seen_byte b (given ++ 10 ∷ rest) ≡ seen_byte b (given ++ 10 ∷ [])
seen-fed b [] rest = refl
seen-fed b (c ∷ given) rest = refl

step_other : (b : ℕ) (bytes : List ℕ) → b ≢ 10 → lines_of (b ∷ bytes) ≡ onto_first (seen_byte b bytes) (lines_of bytes)
step_other b bytes h = grind (arith, common_steps)

pub lines_of-fed : (given rest : List ℕ) → NoFeed given → lines_of (given ++ 10 ∷ rest) ≡ fed_text given ∷ lines_of rest
lines_of-fed [] rest free = refl
lines_of-fed (b ∷ given) rest free =
    step_other b (given ++ 10 ∷ rest) free.0
    ∙ ap (λ (lines : List (List ℕ)). onto_first (seen_byte b (given ++ 10 ∷ rest)) lines) (lines_of-fed given rest free.1)
    ∙ ap (λ (c : ℕ). (c ∷ fed_text given) ∷ lines_of rest) (seen-fed b given rest)

seen-last : (b : ℕ) (bytes : List ℕ) → NoFeed bytes → seen_byte b bytes ≡ b
seen-last b [] free = grind (arith, common_steps)
seen-last b (c ∷ bytes) free = seen-inner b c bytes free.0

lines_of-last : (b : ℕ) (given : List ℕ) → NoFeed (b ∷ given) → lines_of (b ∷ given) ≡ (b ∷ given) ∷ []
lines_of-last b [] free = step_other b [] free.0 ∙ ap (λ (c : ℕ). (c ∷ []) ∷ []) (seen-last b [] tt)
lines_of-last b (c ∷ given) free =
    step_other b (c ∷ given) free.0
    ∙ ap (λ (lines : List (List ℕ)). onto_first (seen_byte b (c ∷ given)) lines) (lines_of-last c given free.1)
    ∙ ap (λ (d : ℕ). (d ∷ c ∷ given) ∷ []) (seen-last b (c ∷ given) free.1)

pub lines_of-some : (given : List ℕ) → NoFeed given → 0 < length given → lines_of given ≡ given ∷ []
lines_of-some [] free some = absurd (omega arith)
lines_of-some (b ∷ given) free some = lines_of-last b given free

pub fed_next : (all : List ℕ) (text : List ℕ) (mid : Option (List ℕ)) → TookFed (Some all) text mid → (rest : List ℕ) × (mid ≡ Some rest) × (lines_of all ≡ text ∷ lines_of rest)
fed_next all text mid h =
    let took = h.took in (
      took.0,
      took.1,
      ap lines_of (took.2 ∙ append_assoc h.bytes (10 ∷ []) took.0) ∙ lines_of-fed h.bytes took.0 h.free
          ∙ ap (λ (t : List ℕ). t ∷ lines_of took.0) (sym h.text_is),
    )
