-- What a parse of two positional words makes of any two words.
use Rattle.std.proofs.Common.{◌≡◌, ◌∙◌, ◌⊎◌, inl, inr, true, false, refl, sym, ap, ℕ, Bool, List, [], ◌∷◌, length, Option, Some, None, true≢false}
use Rattle.std.specs.Prelude.{codes, slice_get, cond, nat_lt, nat_le, ◌&&◌}
use Rattle.std.specs.Prelude.{String, string_bytes, option_and_then}
use Rattle.std.specs.Str.Parse.{digits_value}
use Rattle.std.proofs.Common.{ap₂, arith, map, drop}
use Rattle.std.proofs.lemmas.Str.{IsUtf8-string_bytes}
use Rattle.clap.proofs.WalkLemmas.{first_value-rows}
use Rattle.clap.specs.Walk.{Row, rows_of}
use Rattle.clap.specs.Matches.{first_value, found_of}
use Rattle.clap.specs.Values.{kind_of as kind_of_error}
use Rattle.clap.specs.Kinds.{HasKind}
use Rattle.clap.specs.declared.error.Error.{Error}
use Rattle.clap.specs.declared.error.kind.ErrorKind.TheVariants.{OutOfMemory}
use Rattle.clap.specs.declared.parser.matches.ArgMatches.{ArgMatches}
use Rattle.hay_cli.specs.declared.Mode.{Mode}
use Rattle.hay_cli.specs.Reading.{drill_by, drill_of}
use Rattle.std.specs.Str.{bytes_eq, chars, IsUtf8}
use Rattle.std.specs.Char.{is_ascii_digit}
use Rattle.std.specs.List.{list_all}
use Rattle.std.proofs.lemmas.Bool.Decides.{Decides-eqb}
use Rattle.clap.specs.Lexer.{long_of, short_of}
use Rattle.clap.specs.Walk.{first_of, walked}
use Rattle.clap.specs.Faults.{fault_of, is_simple_and_free, walk_fault, flags_fault, defaults_fault}
use Rattle.clap.specs.Simple.{is_simple, matches_of}
use Rattle.clap.proofs.OnLiterals.{clap_on_literals}
use Rattle.hay_cli.specs.Commands.{Text, is_flag, number_in}
use Rattle.hay_cli.specs.Parsed.{drill_app}
use Rattle.hay_cli.proofs.Walks.{kind_of, dashed, longed, shorted, plain, never}

pub drill_simple : (mode : Text) → is_simple (drill_app mode) ≡ true
unfolding clap_on_literals
drill_simple mode = refl

pub drill_free : (mode : Text) → is_simple_and_free (drill_app mode) ≡ true
unfolding clap_on_literals
drill_free mode = refl

-- what a parse says of two words
pub data Pair (mode name count first : Text) : Type 0 where
  both : is_flag count ≡ false → is_flag first ≡ false → fault_of (drill_app mode) (name ∷ count ∷ first ∷ []) ≡ []
      → first_of (codes "count") (matches_of (drill_app mode) (name ∷ count ∷ first ∷ [])) ≡ Some count
      → first_of (codes "first") (matches_of (drill_app mode) (name ∷ count ∷ first ∷ [])) ≡ Some first → Pair mode name count first
  lone : (is_flag count ≡ true) ⊎ (is_flag first ≡ true) → first_of (codes "first") (matches_of (drill_app mode) (name ∷ count ∷ first ∷ [])) ≡ None → Pair mode name count first
  refused : (is_flag count ≡ true) ⊎ (is_flag first ≡ true) → (fault_of (drill_app mode) (name ∷ count ∷ first ∷ []) ≡ [] → ⊥) → Pair mode name count first

module _ (mode name count first : Text) where
  pair_plain : bytes_eq count (45 ∷ 45 ∷ []) ≡ false → long_of count ≡ None → short_of count ≡ None
      → bytes_eq first (45 ∷ 45 ∷ []) ≡ false → long_of first ≡ None → short_of first ≡ None
      → (fault_of (drill_app mode) (name ∷ count ∷ first ∷ []) ≡ [])
      × (first_of (codes "count") (matches_of (drill_app mode) (name ∷ count ∷ first ∷ [])) ≡ Some count)
      × (first_of (codes "first") (matches_of (drill_app mode) (name ∷ count ∷ first ∷ [])) ≡ Some first)
  unfolding clap_on_literals
  pair_plain d l s e m t = (rw (d, l, s, e, m, t) refl, rw (d, l, s, e, m, t) refl, rw (d, l, s, e, m, t) refl)

  dashes_first : bytes_eq count (45 ∷ 45 ∷ []) ≡ true → first_of (codes "first") (matches_of (drill_app mode) (name ∷ count ∷ first ∷ [])) ≡ None
  unfolding clap_on_literals
  dashes_first d = rw d refl

  dashes_second : bytes_eq count (45 ∷ 45 ∷ []) ≡ false → long_of count ≡ None → short_of count ≡ None → bytes_eq first (45 ∷ 45 ∷ []) ≡ true
      → first_of (codes "first") (matches_of (drill_app mode) (name ∷ count ∷ first ∷ [])) ≡ None
  unfolding clap_on_literals
  dashes_second d l s e = rw (d, l, s, e) refl

  long_first : (n : Text) (v : Option Text) → bytes_eq count (45 ∷ 45 ∷ []) ≡ false → long_of count ≡ Some (n, v) → fault_of (drill_app mode) (name ∷ count ∷ first ∷ []) ≡ [] → ⊥
  unfolding clap_on_literals
  long_first n v d l e = never _ refl (rw (d, l) at e)

  long_second : (n : Text) (v : Option Text) → bytes_eq count (45 ∷ 45 ∷ []) ≡ false → long_of count ≡ None → short_of count ≡ None
      → bytes_eq first (45 ∷ 45 ∷ []) ≡ false → long_of first ≡ Some (n, v) → fault_of (drill_app mode) (name ∷ count ∷ first ∷ []) ≡ [] → ⊥
  unfolding clap_on_literals
  long_second n v d l s f m e = never _ refl (rw (d, l, s, f, m) at e)

  short_first : (y : ℕ) (ys : Text) (x : ℕ) → bytes_eq count (45 ∷ 45 ∷ []) ≡ false → long_of count ≡ None → short_of count ≡ Some (y ∷ ys) → slice_get (chars (y ∷ ys)) 0 ≡ Some x
      → fault_of (drill_app mode) (name ∷ count ∷ first ∷ []) ≡ [] → ⊥
  unfolding walked walk_fault flags_fault defaults_fault
  short_first y ys x d l s c e = never _ refl (rw (d, l, s, c) at e)

  short_second : (y : ℕ) (ys : Text) (x : ℕ) → bytes_eq count (45 ∷ 45 ∷ []) ≡ false → long_of count ≡ None → short_of count ≡ None
      → bytes_eq first (45 ∷ 45 ∷ []) ≡ false → long_of first ≡ None → short_of first ≡ Some (y ∷ ys) → slice_get (chars (y ∷ ys)) 0 ≡ Some x
      → fault_of (drill_app mode) (name ∷ count ∷ first ∷ []) ≡ [] → ⊥
  unfolding walked walk_fault flags_fault defaults_fault
  short_second y ys x d l s f m t c e = never _ refl (rw (d, l, s, f, m, t, c) at e)

  pub pair : IsUtf8 count → IsUtf8 first → Pair mode name count first
  pair u v = elim (kind_of count u) [
    | dashed d f ↦ lone (inl f) (dashes_first d)
    | longed n w d l f ↦ refused (inl f) (long_first n w d l)
    | shorted y ys x d l s c f ↦ refused (inl f) (short_first y ys x d l s c)
    | plain d l s f ↦ elim (kind_of first v) [
      | dashed e g ↦ lone (inr g) (dashes_second d l s e)
      | longed n w e m g ↦ refused (inr g) (long_second n w d l s e m)
      | shorted y ys x e m t c g ↦ refused (inr g) (short_second y ys x d l s e m t c)
      | plain e m t g ↦ let p = pair_plain d l s e m t in both f g p.0 p.1 p.2
    ]
  ]

none_between : (a b c d : Bool) (n : ℕ) → c ≡ false → ◌≡◌ {A = Option ℕ} (cond (a && (b && (c && d))) (Some n) None) None
none_between false b c d n f = refl
none_between true false c d n f = refl
none_between true true c d n f = rw f refl

-- a word that begins with a hyphen is no number
pub no_number : (low high : ℕ) (word : Text) → is_flag word ≡ true → number_in low high word ≡ None
no_number low high [] f = absurd (true≢false (sym f))
no_number low high (x ∷ []) f = absurd (true≢false (sym f))
no_number low high (x ∷ y ∷ rest) f =
    let is : x ≡ 45 = (Decides-eqb x 45).0 f in
    none_between (nat_lt 0 (length (x ∷ y ∷ rest))) (nat_le (length (x ∷ y ∷ rest)) 20) (list_all is_ascii_digit (x ∷ y ∷ rest))
    (nat_le low (digits_value 10 (x ∷ y ∷ rest)) && nat_le (digits_value 10 (x ∷ y ∷ rest)) high) (digits_value 10 (x ∷ y ∷ rest)) (rw is refl)

drill_flag : (count first : Text) → (is_flag count ≡ true) ⊎ (is_flag first ≡ true) → drill_by (Some count) (Some first) ≡ None
drill_flag count first (inl f) = rw (no_number 1 1000 count f) refl
drill_flag count first (inr f) = rw (no_number 0 18446744073709551615 first f) (go (number_in 1 1000 count))
  where
    go : (o : Option ℕ) → option_and_then {T = ℕ} {U = Mode} (λ n. None) o ≡ None
    go None = refl
    go (Some n) = refl

drill_lone : (o : Option Text) → drill_by o None ≡ None
drill_lone None = refl
drill_lone (Some t) = refl

module _ {Z : Type 0} (mode : Text) where
  pub drill_said : (words : List (String Z)) (m : ArgMatches) → length words ≡ 3 → fault_of (drill_app mode) (map string_bytes words) ≡ []
      → rows_of (found_of m) ≡ matches_of (drill_app mode) (map string_bytes words)
      → drill_of (drop 1 (map string_bytes words)) ≡ drill_by (first_value (found_of m) (codes "count")) (first_value (found_of m) (codes "first"))
  drill_said [] m n fault rows = absurd (omega arith)
  drill_said (a ∷ []) m n fault rows = absurd (omega arith)
  drill_said (a ∷ b ∷ []) m n fault rows = absurd (omega arith)
  drill_said (a ∷ b ∷ c ∷ []) m n fault rows =
      let read : (id : Text) → first_of id (matches_of (drill_app mode) (map string_bytes (a ∷ b ∷ c ∷ []))) ≡ first_value (found_of m) id =
      λ id. ap (λ (rs : List Row). first_of id rs) (sym rows) ∙ sym (first_value-rows (found_of m) id) in
      elim (pair mode (string_bytes a) (string_bytes b) (string_bytes c) (IsUtf8-string_bytes b) (IsUtf8-string_bytes c)) [
        | both f g e count first ↦ ap₂ drill_by (sym count ∙ read (codes "count")) (sym first ∙ read (codes "first"))
        | lone f first ↦ drill_flag (string_bytes b) (string_bytes c) f
            ∙ sym (ap (drill_by (first_value (found_of m) (codes "count"))) (sym (read (codes "first")) ∙ first) ∙ drill_lone (first_value (found_of m) (codes "count")))
        | refused f bad ↦ absurd (bad fault)
      ]
  drill_said (a ∷ b ∷ c ∷ d ∷ rest) m n fault rows = absurd (omega arith)

  pub drill_refused : (words : List (String Z)) (e : Error) → length words ≡ 3 → HasKind (fault_of (drill_app mode) (map string_bytes words)) e → (kind_of_error e ≡ OutOfMemory → ⊥)
      → drill_of (drop 1 (map string_bytes words)) ≡ None
  drill_refused [] e n kinds other = absurd (omega arith)
  drill_refused (a ∷ []) e n kinds other = absurd (omega arith)
  drill_refused (a ∷ b ∷ []) e n kinds other = absurd (omega arith)
  drill_refused (a ∷ b ∷ c ∷ []) e n kinds other =
      elim (pair mode (string_bytes a) (string_bytes b) (string_bytes c) (IsUtf8-string_bytes b) (IsUtf8-string_bytes c)) [
        | both f g none count first ↦ elim kinds [
          | inl out ↦ absurd (other out)
          | inr among ↦ absurd (rw none at among)
        ]
        | lone f first ↦ drill_flag (string_bytes b) (string_bytes c) f
        | refused f bad ↦ drill_flag (string_bytes b) (string_bytes c) f
      ]
  drill_refused (a ∷ b ∷ c ∷ d ∷ rest) e n kinds other = absurd (omega arith)
