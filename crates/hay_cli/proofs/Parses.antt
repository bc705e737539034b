-- A parse of a command of options accepts exactly the options, and gives their values.
use Rattle.std.specs.Borrow.{Bor}
use Rattle.std.specs.List.{slice_index_or}
use Rattle.std.proofs.Common.{true≢false}
use Rattle.std.specs.Str.{bytes_eq}
use Rattle.std.proofs.lemmas.Slice.Eq.{bytes_eq-Decides}
use Rattle.clap.specs.Lexer.{long_of}
use Rattle.clap.specs.Walk.{Rule}
use Rattle.clap.specs.Simple.{new_shape, with_rule}
use Rattle.std.proofs.lemmas.List.{take_all}
use Rattle.std.proofs.Common.{◌<◌, ◌+◌, ◌-◌, ◌++◌, zero, suc, length, take, arith, ◌≡◌, ◌∙◌, ◌&&◌, ◌||◌, not, is_some, map, ℕ, true, false, refl, sym, ap, inl, inr, List, [], ◌∷◌}
use Rattle.std.proofs.Common.{Bool, drop, Option, Some, None}
use Rattle.std.specs.Prelude.{String, string_bytes, cond, count_by, fold}
use Rattle.std.specs.List.{list_all, list_any}
use Rattle.std.proofs.lemmas.Str.{IsUtf8-string_bytes}
use Rattle.clap.specs.Walk.{Row, rows_of, idle, walk, walk_from, has_row, with_default, finished, nothing_held, first_of, settled, is_early_multiple}
use Rattle.clap.specs.Kinds.{Kinds, or_else}
use Rattle.clap.specs.Faults.{walk_fault, defaults_fault, settle_fault, fault_of, level_fault, entered_fault, built_fault, check_fault, is_simple_and_free}
use Rattle.clap.specs.Takes.{is_given}
use Rattle.clap.specs.Matches.{first_value, found_of}
use Rattle.clap.proofs.WalkLemmas.{first_value-rows}
use Rattle.clap.specs.Values.{kind_of}
use Rattle.clap.specs.Kinds.{HasKind}
use Rattle.clap.specs.declared.error.Error.{Error}
use Rattle.clap.specs.declared.error.kind.ErrorKind.TheVariants.{OutOfMemory}
use Rattle.clap.specs.declared.parser.matches.ArgMatches.{ArgMatches}
use Rattle.clap.specs.Simple.{App, entered, is_simple, matches_of}
use Rattle.hay_cli.specs.Commands.{Text, Given, is_named, is_flag, has_option, value_of}
use Rattle.hay_cli.specs.Reading.{options_from, option_met, value_met, options_of, store_of, settings_of}
use Rattle.std.specs.Prelude.{option_and_then}
use Rattle.hay_cli.specs.Parsed.{raw, options_app, is_dashes, has_dashes, GivesOptions}
use Rattle.hay_cli.proofs.Walks.{Texts, Comes, rule, built_is, filled_rules, shape_at, row_for, rest_fault, walk_at, reads, stands, value_rows}

-- the words of strings, behind the first
pub texts_of : {Z : Type 0} (words : List (String Z)) → has_dashes (map string_bytes words) ≡ false → Texts (map string_bytes words)
texts_of [] none = tt
texts_of (w ∷ ws) none = let parts = neither (bytes_eq (string_bytes w) (45 ∷ 45 ∷ [])) (has_dashes (map string_bytes ws)) none in
    ((IsUtf8-string_bytes w, parts.0), texts_of ws parts.1)
  where
    neither : (b c : Bool) → (b || c) ≡ false → (b ≡ false) × (c ≡ false)
    neither true c e = absurd (true≢false e)
    neither false c e = (refl, e)

pub texts_behind : {Z : Type 0} (words : List (String Z)) → has_dashes (drop 1 (map string_bytes words)) ≡ false → Texts (drop 1 (map string_bytes words))
texts_behind [] none = tt
texts_behind (w ∷ ws) none = texts_of ws none

-- words with `--` give no options
pub dashes_none : (names words : List Text) (had : List Given) (wanting : Option Text) → has_dashes words ≡ true → options_from names words had wanting ≡ None
dashes_none names [] had wanting has = absurd (true≢false (sym has))
dashes_none names (word ∷ rest) had wanting has = go (bytes_eq word (45 ∷ 45 ∷ [])) refl has wanting (λ h w e. dashes_none names rest h w e)
  where
    go : (b : Bool) → bytes_eq word (45 ∷ 45 ∷ []) ≡ b → (b || has_dashes rest) ≡ true → (wanting : Option Text)
        → ((had : List Given) (wanting : Option Text) → has_dashes rest ≡ true → options_from names rest had wanting ≡ None)
        → options_from names (word ∷ rest) had wanting ≡ None
    go true d e None ih = let is : word ≡ 45 ∷ 45 ∷ [] = (bytes_eq-Decides word (45 ∷ 45 ∷ [])).0 d in rw is refl
    go true d e (Some n) ih = let is : word ≡ 45 ∷ 45 ∷ [] = (bytes_eq-Decides word (45 ∷ 45 ∷ [])).0 d in rw is refl
    go false d e None ih = by_option (long_of word)
      where
        by_value : (n v : Text) (b : Bool) → cond b None (options_from names rest (had ++ (n, v) ∷ []) None) ≡ None
        by_value n v true = refl
        by_value n v false = ih (had ++ (n, v) ∷ []) None e

        by_option : (o : Option (Text × Option Text)) → option_met names had o (options_from names rest) ≡ None
        by_option None = refl
        by_option (Some (n, None)) = elim (is_named names n) as (λ b. cond b (options_from names rest had (Some n)) None ≡ None) [ true ↦ ih had (Some n) e | false ↦ refl ]
        by_option (Some (n, Some v)) = elim (is_named names n) as (λ b. cond b (value_met had n v (options_from names rest)) None ≡ None) [ true ↦ by_value n v (has_option had n) | false ↦ refl ]
    go false d e (Some n) ih = elim (is_flag word) as (λ b. cond b None (value_met had n word (options_from names rest)) ≡ None) [ true ↦ refl | false ↦ by_value (has_option had n) ]
      where
        by_value : (b : Bool) → cond b None (options_from names rest (had ++ (n, word) ∷ []) None) ≡ None
        by_value true = refl
        by_value false = ih (had ++ (n, word) ∷ []) None e

-- ---- the command is simple

all_simple : (names : List Text) → list_all (λ a. a.is_simple) (map raw names) ≡ true
all_simple [] = refl
all_simple (n ∷ ns) = all_simple ns

all_simple-rule : (names : List Text) → list_all (λ a. a.is_simple) (map rule names) ≡ true
all_simple-rule [] = refl
all_simple-rule (n ∷ ns) = all_simple-rule ns

all_free : (names : List Text) → list_all (λ a. a.is_free) (map rule names) ≡ true
all_free [] = refl
all_free (n ∷ ns) = all_free ns

in_order : (k : ℕ) (names : List Text) → list_any (is_early_multiple k) (map rule names) ≡ false
in_order k [] = refl
in_order k (n ∷ ns) = in_order k ns

pub simple : (mode : Text) (names : List Text) → is_simple (options_app mode names) ≡ true
simple mode names = rw (filled_rules 1 names, all_simple names, all_simple-rule names, in_order (count_by (λ a. is_some a.index) (map rule names)) names) refl

pub simple_and_free : (mode : Text) (names : List Text) → is_simple_and_free (options_app mode names) ≡ true
simple_and_free mode names = rw (simple mode names, filled_rules 1 names, all_free names) refl

-- ---- after the walk

no_defaults : (rows : List Row) (names : List Text) → defaults_fault rows (map rule names) ≡ []
unfolding defaults_fault
no_defaults rows [] = refl
no_defaults rows (n ∷ ns) = go (has_row n rows) refl (no_defaults rows ns)
  where
    go : (b : Bool) → has_row n rows ≡ b → defaults_fault rows (map rule ns) ≡ [] → defaults_fault rows (map rule (n ∷ ns)) ≡ []
    go true e ih = rw e ih
    go false e ih = rw e ih

no_requirements : (rows : List Row) (names : List Text) → list_any (λ a. a.required && not (is_given a.id rows)) (map rule names) ≡ false
no_requirements rows [] = refl
no_requirements rows (n ∷ ns) = no_requirements rows ns

kept_one : (rows : List Row) (n : Text) → with_default rows (rule n) ≡ rows
kept_one rows n = go (has_row n rows)
  where
    go : (b : Bool) → cond b rows rows ≡ rows
    go true = refl
    go false = refl

kept : (rows : List Row) (names : List Text) → fold with_default rows (map rule names) ≡ rows
kept rows [] = refl
kept rows (n ∷ ns) = ap (λ (rs : List Row). fold with_default rs (map rule ns)) (kept_one rows n) ∙ kept rows ns

or_else_end : (a : Kinds) → or_else a [] ≡ a
or_else_end [] = refl
or_else_end (k ∷ ks) = refl

module _ (mode : Text) (names : List Text) where
  abbrev app : App
  app = record { top = shape_at mode (map rule names); subs = [] }

  level : (words : List Text) → built_fault app nothing_held words ≡ rest_fault mode names (walk_at idle [] None) words
  level words = go (walk (map rule names) [] nothing_held words).stopped ∙ ap (λ (k : Kinds). or_else (walk_fault app.top [] (walk_from nothing_held) words) k) ends
    where
      go : (stop : Option (Text × List Text)) → level_fault app.top [] nothing_held words (is_some (entered app stop)) (entered_fault app stop)
          ≡ level_fault app.top [] nothing_held words false []
      go None = refl
      go (Some p) = refl

      ends : or_else [] (or_else (settle_fault (map rule names) false (walk (map rule names) [] nothing_held words).held)
          (or_else (defaults_fault (settled (map rule names) (walk (map rule names) [] nothing_held words).held).rows (map rule names))
          (check_fault app.top (finished (map rule names) (walk (map rule names) [] nothing_held words).held) false)))
          ≡ settle_fault (map rule names) false (walk (map rule names) [] nothing_held words).held
      ends = rw (
        no_defaults (settled (map rule names) (walk (map rule names) [] nothing_held words).held).rows names,
        no_requirements (finished (map rule names) (walk (map rule names) [] nothing_held words).held) names,
      )
          (or_else_end (settle_fault (map rule names) false (walk (map rule names) [] nothing_held words).held))

-- what a parse says of the words, by the options that stand behind the first
abbrev pub Parses : App → List Text → Option (List Given) → Type 0
Parses app words None = fault_of app words ≡ [] → ⊥
Parses app words (Some had) = (fault_of app words ≡ []) × ((id : Text) → first_of id (matches_of app words) ≡ value_of had id)

pub parses : (mode : Text) (names words : List Text) → Texts (drop 1 words) → Parses (options_app mode names) words (options_of names (drop 1 words))
parses mode names words texts = go (options_of names (drop 1 words)) ((reads mode names (drop 1 words) texts).0 [] [] None (stands mode names []))
  where
    fault_is : fault_of (options_app mode names) words ≡ rest_fault mode names (walk_at idle [] None) (drop 1 words)
    fault_is = ap (λ (a : App). built_fault a nothing_held (drop 1 words)) (built_is mode names) ∙ level mode names (drop 1 words)

    go : (o : Option (List Given)) → Comes mode names (walk_at idle [] None) (drop 1 words) o → Parses (options_app mode names) words o
    go None h = λ e. h (sym fault_is ∙ e)
    go (Some had) h = (
      fault_is ∙ h.0,
      λ id. ap (λ (rs : List Row). first_of id rs) (rows_are had h.1) ∙ value_rows had id,
    )
      where
        rows_are : (had : List Given) → (settled (map rule names) (walk (map rule names) [] nothing_held (drop 1 words)).held).rows ≡ map row_for had
            → matches_of (options_app mode names) words ≡ map row_for had
        rows_are had e = ap (λ (a : App). finished a.top.rules (walk a.top.rules [] nothing_held (drop 1 words)).held) (built_is mode names)
            ∙ kept (settled (map rule names) (walk (map rule names) [] nothing_held (drop 1 words)).held).rows names ∙ e

pub accepted : (mode : Text) (names words : List Text) (m : ArgMatches) → Texts (drop 1 words) → fault_of (options_app mode names) words ≡ []
    → rows_of (found_of m) ≡ matches_of (options_app mode names) words → GivesOptions names words m
accepted mode names words m texts passes rows = go (options_of names (drop 1 words)) refl (parses mode names words texts)
  where
    go : (o : Option (List Given)) → options_of names (drop 1 words) ≡ o → Parses (options_app mode names) words o → GivesOptions names words m
    go None e h = absurd (h passes)
    go (Some had) e h = record {
      had = had;
      are = e;
      values = λ id. first_value-rows (found_of m) id ∙ (ap (λ (rs : List Row). first_of id rs) rows ∙ h.1 id);
    }

pub refused : (mode : Text) (names words : List Text) (e : Error) → Texts (drop 1 words) → HasKind (fault_of (options_app mode names) words) e → (kind_of e ≡ OutOfMemory → ⊥)
    → options_of names (drop 1 words) ≡ None
refused mode names words e texts kinds other = go (options_of names (drop 1 words)) (parses mode names words texts)
  where
    go : (o : Option (List Given)) → Parses (options_app mode names) words o → o ≡ None
    go None h = refl
    go (Some had) h = elim kinds [
      | inl out ↦ absurd (other out)
      | inr among ↦ absurd (rw h.0 at among)
    ]

-- one more name
pub more_names : (mode : Text) (xs : List (Bor Text)) (i : ℕ) (name : Bor Text) → i < length xs → name ≡ slice_index_or xs i name
    → with_rule (options_app mode (map (λ s. s.now) (take i xs))) (raw name.now) ≡ options_app mode (map (λ s. s.now) (take (i + 1) xs))
more_names mode xs i name lt is = ap (λ (rs : List Rule). record { top = record (new_shape mode) { rules = rs; disable_help_flag = true }; subs = [] }) (go xs i lt is)
  where
    go : (xs : List (Bor Text)) (i : ℕ) → i < length xs → name ≡ slice_index_or xs i name → map raw (map (λ s. s.now) (take i xs)) ++ raw name.now ∷ [] ≡ map raw (map (λ s. s.now) (take (i + 1) xs))
    go [] i lt is = absurd (omega arith)
    go (x ∷ xs) zero lt is = ap (λ (n : Bor Text). raw n.now ∷ []) is
    go (x ∷ xs) (suc i) lt is =
        let next : i < length xs = omega arith in
        let sum : suc i + 1 ≡ suc (i + 1) = omega arith in
        rw sum (ap (λ (rs : List Rule). raw x.now ∷ rs) (go xs i next is))

-- what a parse of the options of a store says
pub store_said : (names words : List Text) (m : ArgMatches) → GivesOptions names words m
    → store_of names (drop 1 words) ≡ settings_of (first_value (found_of m))
store_said names words m says =
    ap (λ (o : Option (List Given)). option_and_then (λ had. settings_of (value_of had)) o) says.are
    ∙ ap (λ (f : Text → Option Text). settings_of f) (λ i id. sym (says.values id) i)

-- the test of strings is that of their texts
pub dashes-map : {Z : Type 0} (ws : List (String Z)) → list_any (λ w. is_dashes (string_bytes w)) ws ≡ has_dashes (map string_bytes ws)
dashes-map [] = refl
dashes-map (w ∷ ws) = ap (λ b. is_dashes (string_bytes w) || b) (dashes-map ws)

pub dashes_behind : {Z : Type 0} (ws : List (String Z)) → list_any (λ w. is_dashes (string_bytes w)) (take (length ws - 1) (drop 1 ws)) ≡ has_dashes (drop 1 (map string_bytes ws))
dashes_behind [] = refl
dashes_behind (w ∷ ws) =
    let whole : take (length (w ∷ ws) - 1) ws ≡ ws = take_all (length (w ∷ ws) - 1) ws (omega arith) in
    ap (λ xs. list_any (λ w. is_dashes (string_bytes w)) xs) whole ∙ dashes-map ws
