-- The homes by rows, and in memory.
use Rattle.std.proofs.Common.{◌≡◌, ℕ, Bool, true, false, cond, List, [], ◌∷◌, ◌++◌, Option, Some, None, refl, sym, ap, ◌∙◌}
use Rattle.std.specs.Prelude.{is_some}
use Rattle.std.specs.Option.{option_or}
use Rattle.std.proofs.lemmas.Bool.{cond-true, cond-false}
use Rattle.hay_needle.specs.declared.needle.Pair.{Pair}
use Rattle.hay_needle.specs.Tables.{pair_eq}
use Rattle.hay_needle.proofs.TableLaws.{pair_same}
use Rattle.hay_dirfile.specs.declared.row.DirRow.{DirRow}
use Rattle.hay_batch.specs.Homes.{AreHomes, home_among, home_in}

or_first : (b : Bool) (v : ℕ) (home last : Option ℕ) → cond b (Some v) (option_or home last) ≡ option_or (cond b (Some v) home) last
or_first true v home last = refl
or_first false v home last = refl

-- the first row of a pair counts
pub home_in-append : (rows more : List DirRow) (pair : Pair) → home_in (rows ++ more) pair ≡ option_or (home_in rows pair) (home_in more pair)
home_in-append [] more pair = refl
home_in-append (row ∷ rows) more pair =
    ap (λ (home : Option ℕ). cond (pair_eq row.pair pair) (Some row.volume) home) (home_in-append rows more pair)
    ∙ or_first (pair_eq row.pair pair) row.volume (home_in rows pair) (home_in more pair)

or_none : (home : Option ℕ) → option_or home None ≡ home
or_none None = refl
or_none (Some v) = refl

or_more : (a b c : Option ℕ) → option_or (option_or a b) c ≡ option_or a (option_or b c)
or_more None b c = refl
or_more (Some v) b c = refl

none_there : (home : Option ℕ) (some : Bool) → some ≡ is_some home → some ≡ false → home ≡ None
none_there None some is not = refl
none_there (Some v) some is not = absurd cc

-- a row of a pair without a home gives it one
pub row_added : (old new : List ((ℕ × ℕ) × ℕ)) (row : DirRow) (found : Option ℕ) (some : Bool) → found ≡ home_among old row.pair → some ≡ is_some found → some ≡ false
    → ((other : Pair) → home_among new other ≡ cond (pair_eq row.pair other) (Some row.volume) (home_among old other))
    → (pair : Pair) → home_among new pair ≡ option_or (home_among old pair) (home_in (row ∷ []) pair)
row_added old new row found some finds is not set pair = set pair ∙ last (pair_eq row.pair pair) refl
  where
    last : (b : Bool) → pair_eq row.pair pair ≡ b → cond (pair_eq row.pair pair) (Some row.volume) (home_among old pair)
        ≡ option_or (home_among old pair) (cond (pair_eq row.pair pair) (Some row.volume) None)
    last true e =
        let none : home_among old pair ≡ None = ap (λ (p : Pair). home_among old p) (sym (pair_same row.pair pair e)) ∙ sym finds ∙ none_there found some is not in
        cond-true (pair_eq row.pair pair) (Some row.volume) (home_among old pair) e
        ∙ sym (ap (λ (home : Option ℕ). option_or home (cond (pair_eq row.pair pair) (Some row.volume) None)) none ∙ cond-true (pair_eq row.pair pair) (Some row.volume) None e)
    last false e =
        cond-false (pair_eq row.pair pair) (Some row.volume) (home_among old pair) e
        ∙ sym (ap (λ (home : Option ℕ). option_or (home_among old pair) home) (cond-false (pair_eq row.pair pair) (Some row.volume) None e) ∙ or_none (home_among old pair))

-- a row of a pair that has one changes nothing
some_stays : (home last : Option ℕ) (some : Bool) → some ≡ is_some home → some ≡ true → option_or home last ≡ home
some_stays None last some is not = absurd cc
some_stays (Some v) last some is not = refl

-- one row more
pub row_behind : (before middle after : Option ℕ) (rows more : List DirRow) (row : DirRow) (pair : Pair) → more ≡ rows ++ row ∷ [] → middle ≡ option_or before (home_in rows pair)
    → after ≡ option_or middle (home_in (row ∷ []) pair)
    → after ≡ option_or before (home_in more pair)
row_behind before middle after rows more row pair longer first last =
    last ∙ ap (λ (home : Option ℕ). option_or home (home_in (row ∷ []) pair)) first ∙ or_more before (home_in rows pair) (home_in (row ∷ []) pair)
    ∙ ap (λ (home : Option ℕ). option_or before home) (sym (home_in-append rows (row ∷ []) pair) ∙ ap (λ (l : List DirRow). home_in l pair) (sym longer))

-- the homes of more rows
pub homes_more : (old new : List ((ℕ × ℕ) × ℕ)) (rows more : List DirRow) → AreHomes old rows
    → ((pair : Pair) → home_among new pair ≡ option_or (home_among old pair) (home_in more pair)) → AreHomes new (rows ++ more)
homes_more old new rows more homes added = record {
  are = λ pair. added pair ∙ ap (λ (home : Option ℕ). option_or home (home_in more pair)) (homes.are pair) ∙ sym (home_in-append rows more pair);
}
