-- Words whose first names no mode.
use Rattle.std.proofs.Common.{◌≡◌, refl, List, [], ◌∷◌, map, None, Bool, true, false}
use Rattle.std.specs.Prelude.{String, string_bytes, codes, bytes_eq}
use Rattle.std.specs.List.{slice_index_or}
use Rattle.std.proofs.lemmas.Slice.Eq.{bytes_eq-Decides}
use Rattle.hay_cli.specs.Commands.{Text}
use Rattle.hay_cli.specs.Reading.{mode_of}

other_word : (word wanted : Text) → (word ≡ wanted → ⊥) → bytes_eq word wanted ≡ false
other_word word wanted differs = go (bytes_eq word wanted) refl
  where
    go : (b : Bool) → bytes_eq word wanted ≡ b → b ≡ false
    go true e = absurd (differs ((bytes_eq-Decides word wanted).0 e))
    go false e = refl

pub no_mode : {Z : Type 0} (words : List (String Z)) (word : String Z) → word ≡ slice_index_or words 0 word
    → (string_bytes word ≡ codes "run" → ⊥) → (string_bytes word ≡ codes "check" → ⊥) → (string_bytes word ≡ codes "load" → ⊥) → (string_bytes word ≡ codes "audit" → ⊥)
    → (string_bytes word ≡ codes "drill" → ⊥) → mode_of (map string_bytes words) ≡ None
no_mode [] word is no_run no_check no_load no_audit no_drill = refl
no_mode (w ∷ ws) word is no_run no_check no_load no_audit no_drill =
    rw (
      ← is,
      other_word (string_bytes word) (codes "run") no_run,
      other_word (string_bytes word) (codes "check") no_check,
      other_word (string_bytes word) (codes "load") no_load,
      other_word (string_bytes word) (codes "audit") no_audit,
      other_word (string_bytes word) (codes "drill") no_drill,
    ) refl
