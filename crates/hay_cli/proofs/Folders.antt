-- The folder that a scan finds is the one that the options give.
use Rattle.std.proofs.Common.{◌≡◌, ◌∙◌, ◌||◌, ◌++◌, true, false, refl, sym, ap, ℕ, Bool, List, [], ◌∷◌, Option, Some, None, true≢false}
use Rattle.std.specs.Prelude.{codes, cond, slice_get, find, is_some, option_map, unwrap_or, ◌==◌}
use Rattle.std.specs.Str.{bytes_eq}
use Rattle.clap.specs.Lexer.{long_of}
use Rattle.std.proofs.Common.{◌<◌, ◌+◌, zero, suc, length, map, drop, arith}
use Rattle.std.specs.Prelude.{String, string_bytes}
use Rattle.std.specs.List.{slice_index_or}
use Rattle.hay_cli.specs.Reading.{folder_step}
use Rattle.std.proofs.lemmas.Slice.Eq.{bytes_eq-Decides}
use Rattle.hay_cli.specs.Commands.{Text, Given, AreOptions, is_flag, is_named, has_option, value_of}
use Rattle.hay_cli.specs.Reading.{value_met, option_met, options_from, folder_in}

pub some≢none : {X : Type 0} {x : X} → None ≡ Some x → ⊥
some≢none {X} {x} e = true≢false (sym (ap (λ (o : Option X). elim o as (λ _. Bool) [ None ↦ false | Some y ↦ true ]) e))

-- a value in a word of its own is no option
no_option : (word : Text) → is_flag word ≡ false → long_of word ≡ None
no_option [] f = refl
no_option (x ∷ []) f = go (x == 45) refl
  where
    go : (b : Bool) → (x == 45) ≡ b → long_of (x ∷ []) ≡ None
    go true e = rw e refl
    go false e = rw e refl
no_option (x ∷ y ∷ rest) f = rw f refl

-- an option that was given keeps its value
kept_value : (had : List Given) (n v : Text) (f : Text) → has_option had f ≡ true → value_of (had ++ (n, v) ∷ []) f ≡ value_of had f
kept_value [] n v f e = absurd (true≢false (sym e))
kept_value (p ∷ ps) n v f e = go (bytes_eq p.0 f) e (kept_value ps n v f)
  where
    go : (b : Bool) → (b || has_option ps f) ≡ true → (has_option ps f ≡ true → value_of (ps ++ (n, v) ∷ []) f ≡ value_of ps f)
        → option_map (λ (q : Given). q.1) (cond b (Some p) (find (λ q. bytes_eq q.0 f) (ps ++ (n, v) ∷ []))) ≡ option_map (λ (q : Given). q.1) (cond b (Some p) (find (λ q. bytes_eq q.0 f) ps))
    go true e ih = refl
    go false e ih = ih e

has_more : (had : List Given) (n v f : Text) → has_option (had ++ (n, v) ∷ []) f ≡ (has_option had f || bytes_eq n f)
has_more [] n v f = go (bytes_eq n f)
  where
    go : (b : Bool) → (b || false) ≡ b
    go true = refl
    go false = refl
has_more (p ∷ ps) n v f = go (bytes_eq p.0 f) (has_more ps n v f)
  where
    go : (b : Bool) → has_option (ps ++ (n, v) ∷ []) f ≡ (has_option ps f || bytes_eq n f) → (b || has_option (ps ++ (n, v) ∷ []) f) ≡ (b || has_option ps f || bytes_eq n f)
    go true e = refl
    go false e = e

abbrev folder : Text
folder = codes "folder"

value_last : (had : List Given) (n v : Text) → has_option had folder ≡ false → bytes_eq n folder ≡ true → value_of (had ++ (n, v) ∷ []) folder ≡ Some v
value_last [] n v e f = rw f refl
value_last (p ∷ ps) n v e f = go (bytes_eq p.0 folder) e (λ h. value_last ps n v h f)
  where
    go : (b : Bool) → (b || has_option ps folder) ≡ false → (has_option ps folder ≡ false → value_of (ps ++ (n, v) ∷ []) folder ≡ Some v)
        → option_map (λ (q : Given). q.1) (cond b (Some p) (find (λ q. bytes_eq q.0 folder) (ps ++ (n, v) ∷ []))) ≡ Some v
    go true e ih = absurd (true≢false e)
    go false e ih = ih e

value_absent : (had : List Given) → has_option had folder ≡ false → value_of had folder ≡ None
value_absent [] e = refl
value_absent (p ∷ ps) e = go (bytes_eq p.0 folder) e (value_absent ps)
  where
    go : (b : Bool) → (b || has_option ps folder) ≡ false → (has_option ps folder ≡ false → value_of ps folder ≡ None)
        → option_map (λ (q : Given). q.1) (cond b (Some p) (find (λ q. bytes_eq q.0 folder) ps)) ≡ None
    go true e ih = absurd (true≢false e)
    go false e ih = ih e

-- the options of the words, behind others with no folder or with one
abbrev Finds : List Text → List Text → Type 0
Finds names words = (all had : List Given)
    → ((has_option had folder ≡ true → options_from names words had None ≡ Some all → value_of all folder ≡ value_of had folder)
    × (has_option had folder ≡ false → options_from names words had None ≡ Some all → folder_in words ≡ value_of all folder))
    × ((n : Text) → options_from names words had (Some n) ≡ Some all
    → (has_option had folder ≡ true → value_of all folder ≡ value_of had folder)
    × (has_option had folder ≡ false → bytes_eq n folder ≡ true → slice_get words 0 ≡ value_of all folder)
    × (has_option had folder ≡ false → bytes_eq n folder ≡ false → folder_in words ≡ value_of all folder))

pub same_all : {a b : List Given} → Some a ≡ Some b → b ≡ a
same_all {a} {b} e = sym (ap (λ (o : Option (List Given)). unwrap_or o a) e)

met_value : (names rest : List Text) (had all : List Given) (n v : Text) → value_met had n v (options_from names rest) ≡ Some all → options_from names rest (had ++ (n, v) ∷ []) None ≡ Some all
met_value names rest had all n v = go (has_option had n)
  where
    go : (b : Bool) → cond b None (options_from names rest (had ++ (n, v) ∷ []) None) ≡ Some all → options_from names rest (had ++ (n, v) ∷ []) None ≡ Some all
    go true e = absurd (some≢none e)
    go false e = e

value_step : (names rest : List Text) (had all : List Given) (n v : Text) → Finds names rest → value_met had n v (options_from names rest) ≡ Some all
    → (has_option had folder ≡ true → value_of all folder ≡ value_of had folder)
    × (has_option had folder ≡ false → bytes_eq n folder ≡ true → Some v ≡ value_of all folder)
    × (has_option had folder ≡ false → bytes_eq n folder ≡ false → folder_in rest ≡ value_of all folder)
value_step names rest had all n v ih is =
    let next = met_value names rest had all n v is in
    let facts = (ih all (had ++ (n, v) ∷ [])).0 in (
      λ e. facts.0 (has_more had n v folder ∙ rw e refl) next ∙ kept_value had n v folder e,
      λ e f. sym (facts.0 (has_more had n v folder ∙ rw (e, f) refl) next ∙ value_last had n v e f),
      λ e f. facts.1 (has_more had n v folder ∙ rw (e, f) refl) next,
    )

wait_finds : (names : List Text) (word : Text) (rest : List Text) (all had : List Given) (n : Text) → Finds names rest → (b : Bool) → is_flag word ≡ b
    → cond b None (value_met had n word (options_from names rest)) ≡ Some all
    → (has_option had folder ≡ true → value_of all folder ≡ value_of had folder)
    × (has_option had folder ≡ false → bytes_eq n folder ≡ true → Some word ≡ value_of all folder)
    × (has_option had folder ≡ false → bytes_eq n folder ≡ false → folder_in (word ∷ rest) ≡ value_of all folder)
wait_finds names word rest all had n ih true f is = absurd (some≢none is)
wait_finds names word rest all had n ih false f is =
    let step = value_step names rest had all n word ih is in
    (step.0, step.1, λ e g. rw (no_option word f) (step.2 e g))

idle_finds : (names : List Text) (word : Text) (rest : List Text) (all had : List Given) → Finds names rest → options_from names (word ∷ rest) had None ≡ Some all
    → (has_option had folder ≡ true → value_of all folder ≡ value_of had folder)
    × (has_option had folder ≡ false → folder_in (word ∷ rest) ≡ value_of all folder)
idle_finds names word rest all had ih = by_option (long_of word) refl
  where
    at_value : (n v : Text) (b : Bool) → long_of word ≡ Some (n, Some v) → cond b (value_met had n v (options_from names rest)) None ≡ Some all
        → (has_option had folder ≡ true → value_of all folder ≡ value_of had folder)
        × (has_option had folder ≡ false → folder_in (word ∷ rest) ≡ value_of all folder)
    at_value n v false l is = absurd (some≢none is)
    at_value n v true l is =
        let step = value_step names rest had all n v ih is in
        let ends : (b : Bool) → bytes_eq n folder ≡ b → has_option had folder ≡ false → unwrap_or (cond b (Some (Some v)) None) (folder_in rest) ≡ value_of all folder =
        λ b. elim b as (λ c. bytes_eq n folder ≡ c → has_option had folder ≡ false → unwrap_or (cond c (Some (Some v)) None) (folder_in rest) ≡ value_of all folder) [
          | true ↦ λ f e. step.1 e f
          | false ↦ λ f e. step.2 e f
        ] in
        (step.0, λ e. rw l (ends (bytes_eq n folder) refl e))

    at_name : (n : Text) (b : Bool) → long_of word ≡ Some (n, None) → cond b (options_from names rest had (Some n)) None ≡ Some all
        → (has_option had folder ≡ true → value_of all folder ≡ value_of had folder)
        × (has_option had folder ≡ false → folder_in (word ∷ rest) ≡ value_of all folder)
    at_name n false l is = absurd (some≢none is)
    at_name n true l is =
        let step = (ih all had).1 n is in
        let ends : (b : Bool) → bytes_eq n folder ≡ b → has_option had folder ≡ false → unwrap_or (cond b (Some (slice_get rest 0)) None) (folder_in rest) ≡ value_of all folder =
        λ b. elim b as (λ c. bytes_eq n folder ≡ c → has_option had folder ≡ false → unwrap_or (cond c (Some (slice_get rest 0)) None) (folder_in rest) ≡ value_of all folder) [
          | true ↦ λ f e. step.1 e f
          | false ↦ λ f e. step.2 e f
        ] in
        (step.0, λ e. rw l (ends (bytes_eq n folder) refl e))

    by_option : (o : Option (Text × Option Text)) → long_of word ≡ o → option_met names had o (options_from names rest) ≡ Some all
        → (has_option had folder ≡ true → value_of all folder ≡ value_of had folder)
        × (has_option had folder ≡ false → folder_in (word ∷ rest) ≡ value_of all folder)
    by_option None l is = absurd (some≢none is)
    by_option (Some (n, Some v)) l is = at_value n v (is_named names n) l is
    by_option (Some (n, None)) l is = at_name n (is_named names n) l is

finds : (names words : List Text) → Finds names words
finds names [] = λ all had. (
  (λ e is. ap (λ (xs : List Given). value_of xs folder) (same_all is), λ e is. sym (ap (λ (xs : List Given). value_of xs folder) (same_all is) ∙ value_absent had e)),
  λ n is. absurd (some≢none is),
)
finds names (word ∷ rest) = λ all had. (
  (λ e is. (idle_finds names word rest all had (finds names rest) is).0 e, λ e is. (idle_finds names word rest all had (finds names rest) is).1 e),
  λ n is. wait_finds names word rest all had n (finds names rest) (is_flag word) refl is,
)

pub folder_is : (names words : List Text) (had : List Given) → options_from names words [] None ≡ Some had → folder_in words ≡ value_of had folder
folder_is names words had are = (finds names words had []).0.1 refl are

-- one step of the scan
pub folder_at : {Z : Type 0} (ws : List (String Z)) (i : ℕ) (w : String Z) → i < length ws → w ≡ slice_index_or ws i w
    → folder_in (drop i (map string_bytes ws))
    ≡ unwrap_or (folder_step (long_of (string_bytes w)) (slice_get (map string_bytes ws) (i + 1))) (folder_in (drop (i + 1) (map string_bytes ws)))
folder_at [] i w lt is = absurd (omega arith)
folder_at (x ∷ xs) zero w lt is = rw (← is) refl
folder_at (x ∷ xs) (suc i) w lt is =
    let next : i < length xs = omega arith in
    let sum : suc i + 1 ≡ suc (i + 1) = omega arith in
    rw sum (folder_at xs i w next is)

-- an option of another name than the names is not given
pub absent : (names : List Text) (name : Text) → is_named names name ≡ false → (given before : List Given) (words : List Text) → AreOptions names before given words → value_of given name ≡ None
absent names name none [] before words are = refl
absent names name none (option ∷ more) before words are =
    go (bytes_eq option.0 name) refl (absent names name none more (before ++ option ∷ []) are.2.0 are.2.2)
  where
    go : (b : Bool) → bytes_eq option.0 name ≡ b → value_of more name ≡ None → value_of (option ∷ more) name ≡ None
    go true e later = absurd (true≢false (sym are.0 ∙ ap (λ (n : Text). is_named names n) ((bytes_eq-Decides option.0 name).0 e) ∙ none))
    go false e later = rw e later

pub none_mapped : {A B : Type 0} (r : Option A) (f : A → B) → option_map f r ≡ None → is_some r ≡ false
none_mapped None f e = refl
none_mapped (Some a) f e = absurd (some≢none (sym e))
