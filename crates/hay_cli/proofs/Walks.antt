-- What a parse of a command of options makes of any words.
use Rattle.std.proofs.Common.{◌≡◌, ◌∙◌, ◌||◌, map, option_map, subst, ℕ, true, false, refl, sym, ap, arith, List, [], ◌∷◌, ◌++◌, Bool, Option, Some, None, true≢false, rules}
use Rattle.std.specs.Prelude.{cond, slice_get, option_and_then, find, fold, ◌==◌}
use Rattle.std.specs.Str.{bytes_eq, chars, IsUtf8}
use Rattle.std.proofs.lemmas.Str.{encodes-chars, encode_ascii, IsUtf8-past_char}
use Rattle.std.proofs.lemmas.Slice.Eq.{bytes_eq-Decides}
use Rattle.std.proofs.lemmas.Bool.Decides.{Decides-eqb}
use Rattle.clap.specs.Lexer.{long_of, name_and_value, short_of}
use Rattle.clap.specs.Walk.{Held, Row, Rule, Waiting, Walk, idle, option, positional, walked, arg_by_id, arg_by_long, arg_by_short, arg_by_index, has_row, without, with_values}
use Rattle.clap.specs.Walk.{used, settled, settled_rows, first_of}
use Rattle.clap.specs.Kinds.{Kinds, or_else}
use Rattle.clap.specs.Faults.{walk_fault, flags_fault, settle_fault, use_fault, turn_fault}
use Rattle.clap.specs.Simple.{App, Shape, new_shape, filled, filled_from, built}
use Rattle.clap.specs.declared.parser.matches.ValueSource.TheVariants.{CommandLine}
use Rattle.clap.specs.declared.builder.value_parser.Reading.TheVariants as reading
use Rattle.hay_cli.specs.Parsed.{raw, options_app}
use Rattle.hay_cli.specs.Commands.{Text, Given, is_flag, has_option, is_named, value_of}
use Rattle.hay_cli.specs.Reading.{value_met, options_from}

-- ---- the command

abbrev pub rule : Text → Rule
rule name = filled (raw name)

pub filled_rules : (i : ℕ) (names : List Text) → filled_from i (map raw names) ≡ map rule names
filled_rules i [] = refl
filled_rules i (n ∷ ns) = ap (λ rs. rule n ∷ rs) (filled_rules i ns)

abbrev pub shape_at : Text → List Rule → Shape
shape_at mode rules = record (new_shape mode) {
  rules = rules;
  disable_help_flag = true;
  disable_help_subcommand = true;
  is_built = true;
}

pub built_is : (mode : Text) (names : List Text) → ◌≡◌ {A = App} (built (options_app mode names)) (record { top = shape_at mode (map rule names); subs = [] })
built_is mode names = ap (λ (rs : List Rule). record { top = shape_at mode rs; subs = [] }) (filled_rules 1 names)

abbrev pub row_for : Given → Row
row_for p = record {
  id = p.0;
  values = p.1 ∷ [];
  count = None;
  source = Some CommandLine;
  reading = reading.AsWritten;
}

same : (t : Text) → bytes_eq t t ≡ true
same t = (bytes_eq-Decides t t).1 refl

-- ---- the arguments by their names

pub by_long : (names : List Text) (n : Text) → arg_by_long (map rule names) n ≡ cond (is_named names n) (Some (rule n)) None
by_long [] n = refl
by_long (s ∷ ss) n = go (bytes_eq s n) refl (by_long ss n)
  where
    go : (b : Bool) → bytes_eq s n ≡ b → arg_by_long (map rule ss) n ≡ cond (is_named ss n) (Some (rule n)) None
        → cond (b || false) (Some (rule s)) (arg_by_long (map rule ss) n) ≡ cond (b || is_named ss n) (Some (rule n)) None
    go true e ih = ap (λ t. Some (rule t)) ((bytes_eq-Decides s n).0 e)
    go false e ih = ih

pub by_id : (names : List Text) (n : Text) → arg_by_id (map rule names) n ≡ cond (is_named names n) (Some (rule n)) None
by_id [] n = refl
by_id (s ∷ ss) n = go (bytes_eq s n) refl (by_id ss n)
  where
    go : (b : Bool) → bytes_eq s n ≡ b → arg_by_id (map rule ss) n ≡ cond (is_named ss n) (Some (rule n)) None
        → cond b (Some (rule s)) (arg_by_id (map rule ss) n) ≡ cond (b || is_named ss n) (Some (rule n)) None
    go true e ih = ap (λ t. Some (rule t)) ((bytes_eq-Decides s n).0 e)
    go false e ih = ih

pub by_short : (names : List Text) (x : ℕ) → arg_by_short (map rule names) x ≡ None
by_short [] x = refl
by_short (s ∷ ss) x = by_short ss x

pub by_index : (names : List Text) (i : ℕ) → arg_by_index (map rule names) i ≡ None
by_index [] i = refl
by_index (s ∷ ss) i = by_index ss i

-- ---- the rows

has_row-rows : (had : List Given) (n : Text) → has_row n (map row_for had) ≡ has_option had n
has_row-rows [] n = refl
has_row-rows (p ∷ ps) n = ap (λ b. bytes_eq p.0 n || b) (has_row-rows ps n)

later : (b c : Bool) → (b || c) ≡ false → (b ≡ false) × (c ≡ false)
later true c e = absurd (true≢false e)
later false c e = (refl, e)

gone : (had : List Given) (n : Text) → has_option had n ≡ false → without n (map row_for had) ≡ map row_for had
gone [] n e = refl
gone (p ∷ ps) n e =
    let parts = later (bytes_eq p.0 n) (has_option ps n) e in
    rw (parts.0) (ap (λ rs. row_for p ∷ rs) (gone ps n parts.1))

more : (had : List Given) (n v : Text) → has_option had n ≡ false → with_values n reading.AsWritten CommandLine (v ∷ []) (map row_for had) ≡ map row_for (had ++ (n, v) ∷ [])
more [] n v e = refl
more (p ∷ ps) n v e =
    let parts = later (bytes_eq p.0 n) (has_option ps n) e in
    rw (parts.0) (ap (λ rs. row_for p ∷ rs) (more ps n v parts.1))

fresh : (had : List Given) (n v : Text) → has_option had n ≡ false → used (rule n) (v ∷ []) (map row_for had) ≡ map row_for (had ++ (n, v) ∷ [])
fresh had n v none = ap (λ rs. with_values n reading.AsWritten CommandLine (v ∷ []) rs) (gone had n none) ∙ more had n v none

pub value_rows : (had : List Given) (n : Text) → first_of n (map row_for had) ≡ value_of had n
value_rows [] n = refl
value_rows (p ∷ ps) n = go (bytes_eq p.0 n) (value_rows ps n)
  where
    go : (b : Bool) → first_of n (map row_for ps) ≡ value_of ps n
        → option_and_then (λ (r : Row). slice_get r.values 0) (cond b (Some (row_for p)) (find (λ r. bytes_eq r.id n) (map row_for ps)))
        ≡ option_map (λ (q : Given). q.1) (cond b (Some p) (find (λ q. bytes_eq q.0 n) ps))
    go true ih = refl
    go false ih = ih

-- ---- the faults of one use

use_fresh : (had : List Given) (n v : Text) → has_option had n ≡ false → use_fault false (rule n) (v ∷ []) (map row_for had) ≡ []
use_fresh had n v none = rw (has_row-rows had n, none) refl

abbrev pub is_none : Kinds → Bool
is_none [] = true
is_none (k ∷ ks) = false

pub never : (ks : Kinds) → is_none ks ≡ false → ks ≡ [] → ⊥
never ks some e = true≢false (sym (ap is_none e) ∙ some)

use_again : (had : List Given) (n v : Text) → has_option had n ≡ true → use_fault false (rule n) (v ∷ []) (map row_for had) ≡ [] → ⊥
use_again had n v has e = never _ refl (rw (has_row-rows had n, has) at e)

or_else_nil : (a b : Kinds) → a ≡ [] → or_else a b ≡ b
or_else_nil a b e = ap (λ k. or_else k b) e

or_else_first : (a b : Kinds) → or_else a b ≡ [] → a ≡ []
or_else_first [] b e = refl
or_else_first (k ∷ ks) b e = e

or_else_both : (a b : Kinds) → a ≡ [] → b ≡ [] → or_else a b ≡ []
or_else_both a b e f = or_else_nil a b e ∙ f

-- ---- what a word looks like

pub data Kind (word : Text) : Type 0 where
  dashed : bytes_eq word (45 ∷ 45 ∷ []) ≡ true → is_flag word ≡ true → Kind word
  longed : (n : Text) (v : Option Text) → bytes_eq word (45 ∷ 45 ∷ []) ≡ false → long_of word ≡ Some (n, v) → is_flag word ≡ true → Kind word
  shorted : (y : ℕ) (ys : Text) (x : ℕ) → bytes_eq word (45 ∷ 45 ∷ []) ≡ false → long_of word ≡ None → short_of word ≡ Some (y ∷ ys)
      → slice_get (chars (y ∷ ys)) 0 ≡ Some x → is_flag word ≡ true → Kind word
  plain : bytes_eq word (45 ∷ 45 ∷ []) ≡ false → long_of word ≡ None → short_of word ≡ None → is_flag word ≡ false → Kind word

-- each word is UTF-8, and none is `--`
abbrev pub Texts : List Text → Type 0
Texts [] = Unit {0}
Texts (word ∷ rest) = (IsUtf8 word × (bytes_eq word (45 ∷ 45 ∷ []) ≡ false)) × Texts rest

first_char : (y : ℕ) (ys : Text) → IsUtf8 (45 ∷ y ∷ ys) → (x : ℕ) × (slice_get (chars (y ∷ ys)) 0 ≡ Some x)
first_char y ys u = go (chars (y ∷ ys)) refl
  where
    utf8 : IsUtf8 (y ∷ ys)
    utf8 = IsUtf8-past_char (45 ∷ y ∷ ys) (y ∷ ys) 45 u (ap (λ (t : List ℕ). t ++ y ∷ ys) (sym (encode_ascii 45 (omega arith))))

    go : (cs : List ℕ) → chars (y ∷ ys) ≡ cs → (x : ℕ) × (slice_get (chars (y ∷ ys)) 0 ≡ Some x)
    go [] e =
        let nil : [] ≡ y ∷ ys = rw e at (encodes-chars (y ∷ ys) utf8) in
        cc
    go (x ∷ cs) e = (x, ap (λ (t : List ℕ). slice_get t 0) e)

pub kind_of : (word : Text) → IsUtf8 word → Kind word
kind_of [] u = plain refl refl refl refl
kind_of (x ∷ []) u = go (x == 45) refl
  where
    go : (b : Bool) → (x == 45) ≡ b → Kind (x ∷ [])
    go true e = plain (rw e refl) (rw e refl) (rw e refl) refl
    go false e = plain (rw e refl) (rw e refl) (rw e refl) refl
kind_of (x ∷ y ∷ rest) u = go (x == 45) (y == 45) rest refl refl u
  where
    go : (b d : Bool) (rest : Text) → (x == 45) ≡ b → (y == 45) ≡ d → IsUtf8 (x ∷ y ∷ rest) → Kind (x ∷ y ∷ rest)
    go false d rest e f u = plain (rw e refl) (rw e refl) (rw e refl) e
    go true true [] e f u = dashed (rw (e, f) refl) e
    go true true (z ∷ zs) e f u = longed (name_and_value (z ∷ zs)).0 (name_and_value (z ∷ zs)).1 (rw (e, f) refl) (rw (e, f) refl) e
    go true false rest e f u =
        let is : x ≡ 45 = (Decides-eqb x 45).0 e in
        let c = first_char y rest (subst (λ (k : ℕ). IsUtf8 (k ∷ y ∷ rest)) is u) in
        shorted y rest c.0 (rw (e, f) refl) (rw (e, f) refl) (rw (e, f) refl) c.1 e

-- ---- where the walk stands

abbrev pub held_at : List Row → Option (Text × List Text) → Held
held_at rows p = record { rows = rows; pending = p; skip = 0 }

abbrev pub walk_at : Waiting → List Row → Option (Text × List Text) → Walk
walk_at waiting rows p = record {
  held = held_at rows p;
  waiting = waiting;
  position = 1;
  is_trailing = false;
  stopped = None;
}

-- what a walk's rest and its last use fail by
abbrev pub rest_fault : Text → List Text → Walk → List Text → Kinds
rest_fault mode names w words =
    or_else (walk_fault (shape_at mode (map rule names)) [] w words)
    (settle_fault (map rule names) false (fold (walked (map rule names) []) w words).held)

-- a walk comes to these options, or fails
abbrev pub Comes : Text → List Text → Walk → List Text → Option (List Given) → Type 0
Comes mode names w words None = rest_fault mode names w words ≡ [] → ⊥
Comes mode names w words (Some had) = (rest_fault mode names w words ≡ [])
    × ((settled (map rule names) (fold (walked (map rule names) []) w words).held).rows ≡ map row_for had)

-- the options before, where no option waits
pub record Stands (names : List Text) (had : List Given) (rows : List Row) (p : Option (Text × List Text)) : Type 0 where
  pub passes : settle_fault (map rule names) false (held_at rows p) ≡ []
  pub rows_are : settled_rows (map rule names) p rows ≡ map row_for had

module _ (mode : Text) (names : List Text) where
  abbrev pub s : Shape
  s = shape_at mode (map rule names)

  -- one more word
  one_more : (w next : Walk) (word : Text) (rest : List Text) → turn_fault s [] w word ≡ [] → walked (map rule names) [] w word ≡ next
      → rest_fault mode names w (word ∷ rest) ≡ rest_fault mode names next rest
  unfolding walk_fault
  one_more w next word rest passes is =
      ap (λ (k : Kinds). or_else (or_else k (walk_fault s [] (walked (map rule names) [] w word) rest))
      (settle_fault (map rule names) false (fold (walked (map rule names) []) (walked (map rule names) [] w word) rest).held)) passes
      ∙ ap (λ (v : Walk). rest_fault mode names v rest) is

  rows_on : (w next : Walk) (word : Text) (rest : List Text) → walked (map rule names) [] w word ≡ next
      → (settled (map rule names) (fold (walked (map rule names) []) w (word ∷ rest)).held).rows ≡ (settled (map rule names) (fold (walked (map rule names) []) next rest).held).rows
  rows_on w next word rest is = ap (λ (v : Walk). (settled (map rule names) (fold (walked (map rule names) []) v rest).held).rows) is

  comes_on : (w next : Walk) (word : Text) (rest : List Text) (o : Option (List Given)) → turn_fault s [] w word ≡ [] → walked (map rule names) [] w word ≡ next
      → Comes mode names next rest o → Comes mode names w (word ∷ rest) o
  comes_on w next word rest None passes is h = λ e. h (sym (one_more w next word rest passes is) ∙ e)
  comes_on w next word rest (Some had) passes is h = (one_more w next word rest passes is ∙ h.0, rows_on w next word rest is ∙ h.1)

  stuck : (w : Walk) (word : Text) (rest : List Text) → (turn_fault s [] w word ≡ [] → ⊥) → rest_fault mode names w (word ∷ rest) ≡ [] → ⊥
  unfolding walk_fault
  stuck w word rest bad e = bad (or_else_first _ _ (or_else_first _ _ e))

  fails_on : (w next : Walk) (word : Text) (rest : List Text) → walked (map rule names) [] w word ≡ next
      → (rest_fault mode names next rest ≡ [] → ⊥) → rest_fault mode names w (word ∷ rest) ≡ [] → ⊥
  unfolding walk_fault
  fails_on w next word rest is bad e =
      let passes : turn_fault s [] w word ≡ [] = passes_first w word rest e in
      bad (sym (one_more w next word rest passes is) ∙ e)
    where
      passes_first : (w : Walk) (word : Text) (rest : List Text) → rest_fault mode names w (word ∷ rest) ≡ [] → turn_fault s [] w word ≡ []
      passes_first w word rest e = or_else_first _ _ (or_else_first _ _ e)

  short_fails : (waiting : Waiting) (rows : List Row) (p : Option (Text × List Text)) (word : Text) (rest : List Text) (f : ℕ) (fs : Text) (x : ℕ)
      → bytes_eq word (45 ∷ 45 ∷ []) ≡ false → long_of word ≡ None → short_of word ≡ Some (f ∷ fs) → slice_get (chars (f ∷ fs)) 0 ≡ Some x
      → rest_fault mode names (walk_at waiting rows p) (word ∷ rest) ≡ [] → ⊥
  unfolding flags_fault
  short_fails waiting rows p word rest f fs x dashes long short first = stuck _ word rest (λ e. go waiting e)
    where
      go : (waiting : Waiting) → turn_fault s [] (walk_at waiting rows p) word ≡ [] → ⊥
      go idle e = never _ refl (rw (dashes, long, short, first, by_short names x) at e)
      go (option id) e = never _ refl (rw (dashes, long, short, first, by_short names x) at e)
      go positional e = never _ refl (rw (dashes, long, short, first, by_short names x) at e)

  -- a word that is a value, where none waits
  stray_fails : (rows : List Row) (p : Option (Text × List Text)) (word : Text) (rest : List Text)
      → bytes_eq word (45 ∷ 45 ∷ []) ≡ false → long_of word ≡ None → short_of word ≡ None
      → rest_fault mode names (walk_at idle rows p) (word ∷ rest) ≡ [] → ⊥
  stray_fails rows p word rest dashes long short = stuck _ word rest (λ e. never _ refl (rw (dashes, long, short, by_index names 1) at e))

  unknown_fails : (rows : List Row) (p : Option (Text × List Text)) (word : Text) (rest : List Text) (n : Text) (v : Option Text)
      → bytes_eq word (45 ∷ 45 ∷ []) ≡ false → long_of word ≡ Some (n, v) → is_named names n ≡ false
      → rest_fault mode names (walk_at idle rows p) (word ∷ rest) ≡ [] → ⊥
  unknown_fails rows p word rest n v dashes long named = stuck _ word rest (λ e. never _ refl (rw (dashes, long, by_long names n, named) at e))

  abbrev Bad : List Row → Option (Text × List Text) → Type 0
  Bad rows p = settle_fault (map rule names) false (held_at rows p) ≡ [] → ⊥

  long_bad : (waiting : Waiting) (rows : List Row) (p : Option (Text × List Text)) (word : Text) (rest : List Text) (n : Text) (v : Option Text)
      → bytes_eq word (45 ∷ 45 ∷ []) ≡ false → long_of word ≡ Some (n, v) → Bad rows p
      → rest_fault mode names (walk_at waiting rows p) (word ∷ rest) ≡ [] → ⊥
  long_bad waiting rows p word rest n v dashes long bad = stuck _ word rest (λ e. go waiting v (is_named names n) (by_long names n) long e)
    where
      go : (waiting : Waiting) (v : Option Text) (b : Bool) → arg_by_long (map rule names) n ≡ cond b (Some (rule n)) None → long_of word ≡ Some (n, v)
          → turn_fault s [] (walk_at waiting rows p) word ≡ [] → ⊥
      go idle v false by is e = never _ refl (rw (dashes, is, by) at e)
      go (option id) v false by is e = never _ refl (rw (dashes, is, by) at e)
      go positional v false by is e = never _ refl (rw (dashes, is, by) at e)
      go idle None true by is e = bad (or_else_first _ _ (rw (dashes, is, by) at e))
      go (option id) None true by is e = bad (or_else_first _ _ (rw (dashes, is, by) at e))
      go positional None true by is e = bad (or_else_first _ _ (rw (dashes, is, by) at e))
      go idle (Some x) true by is e = bad (or_else_first _ _ (or_else_first _ _ (rw (dashes, is, by) at e)))
      go (option id) (Some x) true by is e = bad (or_else_first _ _ (or_else_first _ _ (rw (dashes, is, by) at e)))
      go positional (Some x) true by is e = bad (or_else_first _ _ (or_else_first _ _ (rw (dashes, is, by) at e)))

  -- a last use that fails, fails at the end
  bad_pending : (rows : List Row) (p : Option (Text × List Text)) (words : List Text) → Texts words → Bad rows p → rest_fault mode names (walk_at idle rows p) words ≡ [] → ⊥
  unfolding walk_fault
  bad_pending rows p [] texts bad = bad
  bad_pending rows p (word ∷ rest) texts bad = elim (kind_of word texts.0.0) [
    | dashed d f ↦ absurd (true≢false (sym d ∙ texts.0.1))
    | longed n v d l f ↦ long_bad idle rows p word rest n v d l bad
    | shorted y ys x d l sh first f ↦ short_fails idle rows p word rest y ys x d l sh first
    | plain d l sh f ↦ stray_fails rows p word rest d l sh
  ]

  row_waits : (had : List Given) (n : Text) → is_named names n ≡ true → Bad (map row_for had) (Some (n, []))
  row_waits had n named e = never _ refl (rw (by_id names n, named) at e)

  pub stands : (had : List Given) → Stands names had (map row_for had) None
  stands had = record { passes = refl; rows_are = refl }

  stands_on : (had : List Given) (n word : Text) → is_named names n ≡ true → has_option had n ≡ false → Stands names (had ++ (n, word) ∷ []) (map row_for had) (Some (n, word ∷ []))
  stands_on had n word named none = record {
    passes = rw (by_id names n, named) (use_fresh had n word none);
    rows_are = rw (by_id names n, named) (fresh had n word none);
  }

  repeats : (had : List Given) (n word : Text) → is_named names n ≡ true → has_option had n ≡ true → Bad (map row_for had) (Some (n, word ∷ []))
  repeats had n word named has e = use_again had n word has (rw (by_id names n, named) at e)

  -- `--name` before its value
  name_turn : (had : List Given) (rows : List Row) (p : Option (Text × List Text)) (word n : Text) → Stands names had rows p
      → bytes_eq word (45 ∷ 45 ∷ []) ≡ false → long_of word ≡ Some (n, None) → is_named names n ≡ true
      → (turn_fault s [] (walk_at idle rows p) word ≡ [])
      × (walked (map rule names) [] (walk_at idle rows p) word ≡ walk_at (option n) (map row_for had) (Some (n, [])))
  unfolding walked
  name_turn had rows p word n st dashes long named = (
    rw (dashes, long, by_long names n, named) (or_else_both _ _ st.passes refl),
    rw (dashes, long, by_long names n, named) (ap (λ (rs : List Row). walk_at (option n) rs (Some (n, []))) st.rows_are),
  )

  -- `--name=value`
  value_turn : (had : List Given) (rows : List Row) (p : Option (Text × List Text)) (word n v : Text) → Stands names had rows p
      → bytes_eq word (45 ∷ 45 ∷ []) ≡ false → long_of word ≡ Some (n, Some v) → is_named names n ≡ true → has_option had n ≡ false
      → (turn_fault s [] (walk_at idle rows p) word ≡ [])
      × (walked (map rule names) [] (walk_at idle rows p) word ≡ walk_at idle (map row_for (had ++ (n, v) ∷ [])) None)
  unfolding walked
  value_turn had rows p word n v st dashes long named none = (
    rw (dashes, long, by_long names n, named) (or_else_both _ _ (or_else_both _ _ st.passes (ap (λ (rs : List Row). use_fault false (rule n) (v ∷ []) rs) st.rows_are ∙ use_fresh had n v none)) refl),
    rw (dashes, long, by_long names n, named) (ap (λ (rs : List Row). walk_at idle rs None) (ap (λ (rs : List Row). used (rule n) (v ∷ []) rs) st.rows_are ∙ fresh had n v none)),
  )

  -- a value in a word of its own
  word_turn : (had : List Given) (word n : Text) → bytes_eq word (45 ∷ 45 ∷ []) ≡ false → long_of word ≡ None → short_of word ≡ None → is_named names n ≡ true
      → (turn_fault s [] (walk_at (option n) (map row_for had) (Some (n, []))) word ≡ [])
      × (walked (map rule names) [] (walk_at (option n) (map row_for had) (Some (n, []))) word ≡ walk_at idle (map row_for had) (Some (n, word ∷ [])))
  unfolding walked
  word_turn had word n dashes long short named = (
    rw (dashes, long, short) refl,
    rw (dashes, long, short, by_id names n, named, same n) refl,
  )

  value_again : (had : List Given) (rows : List Row) (p : Option (Text × List Text)) (word n v : Text) (rest : List Text) → Stands names had rows p
      → bytes_eq word (45 ∷ 45 ∷ []) ≡ false → long_of word ≡ Some (n, Some v) → is_named names n ≡ true → has_option had n ≡ true
      → rest_fault mode names (walk_at idle rows p) (word ∷ rest) ≡ [] → ⊥
  value_again had rows p word n v rest st dashes long named has = stuck _ word rest (λ e.
      let both : or_else (or_else (settle_fault (map rule names) false (held_at rows p)) (use_fault false (rule n) (v ∷ []) (settled_rows (map rule names) p rows))) [] ≡ [] =
      rw (dashes, long, by_long names n, named) at e in
      use_again had n v has (ap (λ (rs : List Row). use_fault false (rule n) (v ∷ []) rs) (sym st.rows_are)
      ∙ (sym (or_else_nil _ _ st.passes) ∙ or_else_first _ _ both)))

  abbrev pub Reads : List Text → Type 0
  Reads words = ((had : List Given) (rows : List Row) (p : Option (Text × List Text)) → Stands names had rows p → Comes mode names (walk_at idle rows p) words (options_from names words had None))
      × ((had : List Given) (n : Text) → is_named names n ≡ true → Comes mode names (walk_at (option n) (map row_for had) (Some (n, []))) words (options_from names words had (Some n)))

  reads_value : (had : List Given) (w next : Walk) (word : Text) (rest : List Text) (n v : Text) (b : Bool) → has_option had n ≡ b
      → (b ≡ false → Comes mode names w (word ∷ rest) (options_from names rest (had ++ (n, v) ∷ []) None))
      → (b ≡ true → rest_fault mode names w (word ∷ rest) ≡ [] → ⊥)
      → Comes mode names w (word ∷ rest) (value_met had n v (options_from names rest))
  reads_value had w next word rest n v true e good bad = rw e (bad refl)
  reads_value had w next word rest n v false e good bad = rw e (good refl)

  idle_long : (had : List Given) (rows : List Row) (p : Option (Text × List Text)) (word : Text) (rest : List Text) → Reads rest → Stands names had rows p → (n : Text) (v : Option Text)
      → bytes_eq word (45 ∷ 45 ∷ []) ≡ false → long_of word ≡ Some (n, v) → (b : Bool) → is_named names n ≡ b
      → Comes mode names (walk_at idle rows p) (word ∷ rest) (options_from names (word ∷ rest) had None)
  idle_long had rows p word rest ih st n None dashes long false named = rw (long, named) (unknown_fails rows p word rest n None dashes long named)
  idle_long had rows p word rest ih st n (Some v) dashes long false named = rw (long, named) (unknown_fails rows p word rest n (Some v) dashes long named)
  idle_long had rows p word rest ih st n None dashes long true named =
      let turn = name_turn had rows p word n st dashes long named in
      rw (long, named) (comes_on _ _ word rest _ turn.0 turn.1 (ih.1 had n named))
  idle_long had rows p word rest ih st n (Some v) dashes long true named =
      rw (long, named) (reads_value had (walk_at idle rows p) (walk_at idle rows p) word rest n v (has_option had n) refl
      (λ none.
      let turn = value_turn had rows p word n v st dashes long named none in
      comes_on _ _ word rest _ turn.0 turn.1 (ih.0 (had ++ (n, v) ∷ []) _ None (stands (had ++ (n, v) ∷ []))))
      (λ has. value_again had rows p word n v rest st dashes long named has))

  idle_word : (had : List Given) (rows : List Row) (p : Option (Text × List Text)) (word : Text) (rest : List Text) → IsUtf8 word × (bytes_eq word (45 ∷ 45 ∷ []) ≡ false)
      → Reads rest → Stands names had rows p
      → Comes mode names (walk_at idle rows p) (word ∷ rest) (options_from names (word ∷ rest) had None)
  idle_word had rows p word rest utf8 ih st = elim (kind_of word utf8.0) [
    | dashed d f ↦ absurd (true≢false (sym d ∙ utf8.1))
    | longed n v d l f ↦ idle_long had rows p word rest ih st n v d l (is_named names n) refl
    | shorted y ys x d l sh first f ↦ rw l (short_fails idle rows p word rest y ys x d l sh first)
    | plain d l sh f ↦ rw l (stray_fails rows p word rest d l sh)
  ]

  wait_word : (had : List Given) (n word : Text) (rest : List Text) → IsUtf8 word × (bytes_eq word (45 ∷ 45 ∷ []) ≡ false) → Texts rest → Reads rest → is_named names n ≡ true
      → Comes mode names (walk_at (option n) (map row_for had) (Some (n, []))) (word ∷ rest) (options_from names (word ∷ rest) had (Some n))
  wait_word had n word rest utf8 texts ih named = elim (kind_of word utf8.0) [
    | dashed d f ↦ absurd (true≢false (sym d ∙ utf8.1))
    | longed m v d l f ↦ rw f (long_bad (option n) _ _ word rest m v d l (row_waits had n named))
    | shorted y ys x d l sh first f ↦ rw f (short_fails (option n) _ _ word rest y ys x d l sh first)
    | plain d l sh f ↦
        let turn = word_turn had word n d l sh named in
        rw f (reads_value had (walk_at (option n) (map row_for had) (Some (n, []))) (walk_at idle (map row_for had) (Some (n, word ∷ []))) word rest n word (has_option had n) refl
        (λ none. comes_on _ _ word rest _ turn.0 turn.1 (ih.0 (had ++ (n, word) ∷ []) _ _ (stands_on had n word named none)))
        (λ has. fails_on _ _ word rest turn.1 (bad_pending _ _ rest texts (repeats had n word named has))))
  ]

  pub reads : (words : List Text) → Texts words → Reads words
  unfolding walk_fault
  reads [] texts = (λ had rows p st. (st.passes, st.rows_are), λ had n named. row_waits had n named)
  reads (word ∷ rest) texts = (
    λ had rows p st. idle_word had rows p word rest texts.0 (reads rest texts.1) st,
    λ had n named. wait_word had n word rest texts.0 texts.1 (reads rest texts.1) named,
  )
