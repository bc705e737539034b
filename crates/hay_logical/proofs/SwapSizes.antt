-- How long the files of a swap are.
use Rattle.std.proofs.Common.{◌≡◌, ℕ, ◌+◌, ◌≤◌, Bool, true, false, not, ◌&&◌, cond, List, [], ◌∷◌, length, Some, None, refl, sym, ap, ◌∙◌, inl, inr, arith}
use Rattle.std.specs.Prelude.{map, sum_by}
use Rattle.std.specs.FinMap.Entries.{find, put, by_order, find-put}
use Rattle.std.specs.Ordering.{is_eq}
use Rattle.std.specs.declared.cmp.Ordering.TheVariants.{Less, Equal, Greater}
use Rattle.std.proofs.lemmas.List.{length-map}
use Rattle.std.proofs.lemmas.List.Sums.{sum_by-cons}
use Rattle.std.proofs.lemmas.Bool.{cond_both, cond-false, and_parts, cases_Bool, not-true, true≢false}
use Rattle.hay_needle.specs.declared.needle.Cell.{Cell}
use Rattle.hay_needle.specs.declared.needle.Pair.{Pair}
use Rattle.hay_needle.specs.declared.needle.Photo.{Photo}
use Rattle.hay_needle.specs.declared.needle.Outcome.{Outcome}
use Rattle.hay_needle.specs.declared.needle.Outcome.TheVariants as outcome
use Rattle.hay_needle.specs.declared.needle.Needle.{Needle}
use Rattle.hay_needle.specs.Needle.{needle_of_cell}
use Rattle.hay_needle.specs.Sizes.{needle_total}
use Rattle.hay_needle.specs.Tables.{Table, is_live, lacks, live_end, live_needles, needle_outcome, pair_cmp, pair_eq, table_of, with_outcome, with_photo}
use Rattle.hay_needle.proofs.TableLaws.{pair_refl, pair_same, pair_tied, pair_total, table_from}
use Rattle.hay_needle.proofs.CopyLaws.{live_end-table_of, live_end_within, needle_length, table_of-live_needles}
use Rattle.hay_volume.specs.Cells.{needles_of}
use Rattle.hay_compact.specs.Copying.{cell_total, end_of, renewed_needle}

-- THE NUMBER OF PHOTOS

-- a put of a pair that the table has not
length-put : (q : Pair) (photo : Photo) (table : Table) → find pair_cmp q table ≡ None → length (put pair_cmp q photo table) ≡ length table + 1
length-put q photo [] none = refl
length-put q photo (e ∷ es) none =
    let new : Pair × Photo = (q, photo) in
    elim (pair_cmp q e.0) as (λ r. cond (is_eq r) (Some e.1) (find pair_cmp q es) ≡ None → length (by_order r (new ∷ e ∷ es) ((e.0, photo) ∷ es) (e ∷ put pair_cmp q photo es)) ≡ length (e ∷ es) + 1) [
      | Less ↦ λ none. omega arith
      | Equal ↦ λ none. absurd cc
      | Greater ↦ λ none. let rest = length-put q photo es none in omega (arith, rest)
    ] none

-- none of the needles' pairs is in the table
abbrev AreNew : Table → List Needle → Type 0
AreNew table cs = (p : Pair) → lacks p cs ≡ false → find pair_cmp p table ≡ None

still_lacks : (a b : Bool) → b ≡ false → (a && b) ≡ false
still_lacks true b e = e
still_lacks false b e = refl

first_new : (table : Table) (c : Needle) (cs : List Needle) → AreNew table (c ∷ cs) → find pair_cmp c.pair table ≡ None
first_new table c cs new = new c.pair (ap (λ (b : Bool). not b && lacks c.pair cs) (pair_refl c.pair))

rest_new : (table : Table) (c : Needle) (cs : List Needle) → lacks c.pair cs ≡ true → AreNew table (c ∷ cs) → AreNew (with_photo table c.pair c.photo) cs
rest_new table c cs last new p has =
    find-put pair_cmp pair_total p c.pair c.photo table
    ∙ ap (λ (b : Bool). cond b (Some c.photo) (find pair_cmp p table)) (pair_tied p c.pair ∙ other)
    ∙ new p (still_lacks (not (pair_eq c.pair p)) (lacks p cs) has)
  where
    other : pair_eq p c.pair ≡ false
    other = elim (cases_Bool (pair_eq p c.pair)) [
      | inl t ↦ absurd (true≢false (sym last ∙ ap (λ (x : Pair). lacks x cs) (sym (pair_same p c.pair t)) ∙ has))
      | inr f ↦ f
    ]

length_from : (table : Table) (cs : List Needle) → AreNew table cs → length (table_from table (live_needles cs)) ≡ length table + length (live_needles cs)
length_from table [] new = omega arith
length_from table (c ∷ cs) new =
    cond_both (is_live c cs) (c ∷ live_needles cs) (live_needles cs) (λ (ds : List Needle). length (table_from table ds) ≡ length table + length ds)
    (λ live.
    let parts = and_parts (not c.deleted) (lacks c.pair cs) live in
    let added : with_outcome table c.pair (needle_outcome c) ≡ with_photo table c.pair c.photo =
    ap (λ (o : Outcome). with_outcome table c.pair o) (cond-false c.deleted outcome.Nothing (outcome.Photo c.photo) (not-true c.deleted parts.0)) in
    let now = length-put c.pair c.photo table (first_new table c cs new) in
    let rest = length_from (with_photo table c.pair c.photo) cs (rest_new table c cs parts.1 new) in
    ap (λ (t : Table). length (table_from t (live_needles cs))) added ∙ rest ∙ omega (arith, now))
    (λ dead. length_from table cs (λ p has. new p (still_lacks (not (pair_eq c.pair p)) (lacks p cs) has)))

-- there is one photo for each live needle
pub length-table_of : (cs : List Needle) → length (table_of cs) ≡ length (live_needles cs)
length-table_of cs = ap (λ (t : Table). length t) (sym (table_of-live_needles cs)) ∙ length_from [] cs (λ p has. refl) ∙ omega arith

length_live : (cs : List Needle) → length (live_needles cs) ≤ length cs
length_live [] = omega arith
length_live (c ∷ cs) =
    let rest = length_live cs in
    cond_both (is_live c cs) (c ∷ live_needles cs) (live_needles cs) (λ (ds : List Needle). length ds ≤ length (c ∷ cs)) (λ live. omega (arith, rest)) (λ dead. omega (arith, rest))

-- CELLS

cells_total : (cells : List Cell) → sum_by needle_length (needles_of cells) ≡ sum_by cell_total cells
cells_total [] = refl
cells_total (c ∷ cells) =
    let rest = cells_total cells in
    let here = sum_by-cons cell_total c cells in
    let there = sum_by-cons needle_length (needle_of_cell c) (needles_of cells) in
    omega (arith, rest, here, there)

-- no fewer bytes than the photos take, and no fewer cells than photos
pub photos_end : (cells : List Cell) → live_end (table_of (needles_of cells)) ≤ end_of cells
photos_end cells = let within = live_end_within (needles_of cells) in let total = cells_total cells in omega (arith, within, total)

pub photos_fewer : (cells : List Cell) → length (table_of (needles_of cells)) ≤ length cells
photos_fewer cells = let same = length-table_of (needles_of cells) in let few = length_live (needles_of cells) in let long = length-map cells needle_of_cell in omega (arith, same, few, long)

-- a needle that is written anew is as long as it was
renewed_total : (needles : List Needle) → sum_by needle_length (map renewed_needle needles) ≡ sum_by needle_length needles
renewed_total [] = refl
renewed_total (needle ∷ needles) =
    let rest = renewed_total needles in
    let anew = sum_by-cons needle_length (renewed_needle needle) (map renewed_needle needles) in
    let here = sum_by-cons needle_length needle needles in
    omega (arith, rest, anew, here)

-- and just these, where only the live needles were copied
pub tight_end : (cells fresh : List Cell) → needles_of fresh ≡ map renewed_needle (live_needles (needles_of cells)) → end_of fresh ≡ live_end (table_of (needles_of cells))
tight_end cells fresh is =
    let total = cells_total fresh in
    let same = ap (λ (l : List Needle). sum_by needle_length l) is ∙ renewed_total (live_needles (needles_of cells)) in
    let live = live_end-table_of (needles_of cells) in
    omega (arith, total, same, live)

pub tight_count : (cells fresh : List Cell) → needles_of fresh ≡ map renewed_needle (live_needles (needles_of cells)) → length fresh ≡ length (table_of (needles_of cells))
tight_count cells fresh is =
    sym (length-map fresh needle_of_cell) ∙ ap (λ (l : List Needle). length l) is ∙ length-map (live_needles (needles_of cells)) renewed_needle ∙ sym (length-table_of (needles_of cells))

-- there are no more cells than bytes
total_some : (n : ℕ) → 1 ≤ needle_total n
total_some n = omega arith

count_within : (cells : List Cell) → length cells ≤ sum_by cell_total cells
count_within [] = omega arith
count_within (c ∷ cells) =
    let rest = count_within cells in
    let here = sum_by-cons cell_total c cells in
    let some = total_some (length c.bytes) in
    omega (arith, rest, here, some)

pub cells_within : (cells : List Cell) → length cells ≤ end_of cells
cells_within cells = let within = count_within cells in omega (arith, within)
