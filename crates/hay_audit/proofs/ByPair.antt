-- Photos by pair, as a map keeps them.
use Rattle.std.proofs.Common.{◌≡◌, ℕ, suc, ◌+◌, ◌*◌, ◌<◌, ◌≤◌, Bool, true, false, not, cond, List, [], ◌∷◌, ◌++◌, length, map, Option, Some, None, refl, sym, ap, subst, ◌∙◌}
use Rattle.std.proofs.Common.{arith, inl, inr, append_assoc}
use Rattle.std.specs.Prelude.{◌^◌, sum_by}
use Rattle.std.proofs.lemmas.List.Sums.{sum_by-cons}
use Rattle.hay_needle.specs.Sizes.{needle_total}
use Rattle.std.specs.Map.{keys_of, lookup, remove_entry}
use Rattle.std.specs.BTreeMap.{insert_entry, is_at}
use Rattle.std.specs.List.{AllByRecursion as Each}
use Rattle.std.specs.List.Sorted.{IsStrictlySortedBy}
use Rattle.std.specs.Ordering.{is_eq, match_ordering, ordering_reverse}
use Rattle.std.specs.declared.cmp.Ordering.{Ordering}
use Rattle.std.specs.declared.cmp.Ordering.TheVariants.{Equal, Greater, Less}
use Rattle.std.specs.FinMap.Entries.{by_order, find, put, where_key}
use Rattle.std.proofs.lemmas.Bool.{cases_Bool}
use Rattle.hay_needle.specs.declared.needle.Pair.{Pair}
use Rattle.hay_needle.specs.declared.needle.Photo.{Photo}
use Rattle.hay_needle.specs.Tables.{Table, outcome_at, outcome_by, pair_cmp, with_photo, without_pair}
use Rattle.hay_needle.proofs.TableLaws.{pair_exact, pair_total}

pub find_is : (table : Table) (pair : Pair) → lookup (is_at (pair_cmp pair)) table ≡ find pair_cmp pair table
find_is [] pair = refl
find_is (e ∷ table) pair = ap (λ (o : Option Photo). cond (is_eq (pair_cmp pair e.0)) (Some e.1) o) (find_is table pair)

same_choice : {X : Type 0} (o : Ordering) (a b c : X) → match_ordering o a b c ≡ by_order o a b c
same_choice Less a b c = refl
same_choice Equal a b c = refl
same_choice Greater a b c = refl

pub put_is : (table : Table) (pair : Pair) (photo : Photo) → insert_entry pair_cmp table pair photo ≡ with_photo table pair photo
put_is [] pair photo = refl
put_is (e ∷ table) pair photo =
    ap (λ (rest : Table). match_ordering (pair_cmp pair e.0) ((pair, photo) ∷ e ∷ table) ((e.0, photo) ∷ table) (e ∷ rest)) (put_is table pair photo)
    ∙ same_choice (pair_cmp pair e.0) ((pair, photo) ∷ e ∷ table) ((e.0, photo) ∷ table) (e ∷ with_photo table pair photo)

-- PAIRS THAT RISE

other_less : (q p : Pair) → pair_cmp q p ≡ Less → is_eq (pair_cmp q p) ≡ false
other_less q p e = ap is_eq e

kept_above : (q : Pair) (table : Table) → Each (λ p. pair_cmp q p ≡ Less) (keys_of table) → without_pair table q ≡ table
kept_above q [] h = refl
kept_above q (e ∷ table) h =
    ap (λ (b : Bool). cond (not b) (e ∷ without_pair table q) (without_pair table q)) (other_less q e.0 h.0) ∙ ap (λ (rest : Table). e ∷ rest) (kept_above q table h.1)

is_equal : (o : Ordering) → is_eq o ≡ true → o ≡ Equal
is_equal Less e = cc
is_equal Equal e = refl
is_equal Greater e = cc

pub remove_is : (table : Table) (q : Pair) → IsStrictlySortedBy pair_cmp (keys_of table) → remove_entry (is_at (pair_cmp q)) table ≡ without_pair table q
unfolding IsStrictlySortedBy
remove_is [] q h = refl
remove_is (e ∷ table) q h = elim (cases_Bool (is_eq (pair_cmp q e.0))) [
  | inl same ↦
      let own : q ≡ e.0 = pair_exact q e.0 (is_equal (pair_cmp q e.0) same) in
      ap (λ (b : Bool). cond b table (e ∷ remove_entry (is_at (pair_cmp q)) table)) same
      ∙ sym (ap (λ (b : Bool). cond (not b) (e ∷ without_pair table q) (without_pair table q)) same
      ∙ kept_above q table (subst (λ (p : Pair). Each (λ r. pair_cmp p r ≡ Less) (keys_of table)) (sym own) h.0))
  | inr other ↦
      ap (λ (b : Bool). cond b table (e ∷ remove_entry (is_at (pair_cmp q)) table)) other
      ∙ ap (λ (rest : Table). e ∷ rest) (remove_is table q h.1)
      ∙ sym (ap (λ (b : Bool). cond (not b) (e ∷ without_pair table q) (without_pair table q)) other)
]

-- a pair above all others comes last
each_front : (P : Pair → Type 0) (front : Table) (e : Pair × Photo) (rest : Table) → Each P (keys_of (front ++ e ∷ rest)) → P e.0
each_front P [] e rest h = h.0
each_front P (x ∷ front) e rest h = each_front P front e rest h.1

above : (a b : Pair) → pair_cmp a b ≡ Less → pair_cmp b a ≡ Greater
above a b e = pair_total.antisymm b a ∙ ap ordering_reverse e

pub put_last : (front : Table) (pair : Pair) (photo : Photo) (rest : Table) → IsStrictlySortedBy pair_cmp (keys_of (front ++ (pair, photo) ∷ rest))
    → insert_entry pair_cmp front pair photo ≡ front ++ (pair, photo) ∷ []
unfolding IsStrictlySortedBy
put_last [] pair photo rest h = refl
put_last (e ∷ front) pair photo rest h =
    ap (λ (o : Ordering). match_ordering o ((pair, photo) ∷ e ∷ front) ((e.0, photo) ∷ front) (e ∷ insert_entry pair_cmp front pair photo))
    (above e.0 pair (each_front (λ p. pair_cmp e.0 p ≡ Less) front (pair, photo) rest h.0))
    ∙ ap (λ (back : Table). e ∷ back) (put_last front pair photo rest h.1)

-- a copy of one entry more
pub copy_more : (all front table rest new : Table) (pair : Pair) (photo : Photo) → IsStrictlySortedBy pair_cmp (keys_of all) → front ++ table ≡ all → table ≡ (pair, photo) ∷ rest
    → new ≡ insert_entry pair_cmp front pair photo → new ++ rest ≡ all
copy_more all front table rest new pair photo ordered parts first made =
    let whole : front ++ (pair, photo) ∷ rest ≡ all = ap (λ (t : Table). front ++ t) (sym first) ∙ parts in
    ap (λ (t : Table). t ++ rest) (made ∙ put_last front pair photo rest (subst (λ (t : Table). IsStrictlySortedBy pair_cmp (keys_of t)) (sym whole) ordered))
    ∙ append_assoc front ((pair, photo) ∷ []) rest
    ∙ whole

-- THE BYTES OF ONE NEEDLE MORE

abbrev pub size_at : Pair × Photo → ℕ
size_at photo = needle_total (length (photo.1).bytes)

pub total_more : (table rest : Table) (pair : Pair) (photo : Photo) (end total all : ℕ) → table ≡ (pair, photo) ∷ rest → total ≡ needle_total (length photo.bytes)
    → end + sum_by size_at table ≡ all → (end + total) + sum_by size_at rest ≡ all
total_more table rest pair photo end total all first is h =
    let one : sum_by size_at table ≡ size_at (pair, photo) + sum_by size_at rest = ap (λ (t : Table). sum_by size_at t) first ∙ sum_by-cons size_at (pair, photo) rest in
    let this : size_at (pair, photo) ≡ total = sym is in
    omega (arith, one, this, h)

pub few_more : (table rest : Table) (pair : Pair) (photo : Photo) (end total most : ℕ) → table ≡ (pair, photo) ∷ rest → total ≤ 2 ^ 64 + 64
    → end + length table * (2 ^ 64 + 64) ≤ most → (end + total) + length rest * (2 ^ 64 + 64) ≤ most
few_more table rest pair photo end total most first small h =
    let one : length table ≡ suc (length rest) = ap (λ (t : Table). length t) first in omega (arith, one, small, h)

pub total_small : (n : ℕ) → n < 2 ^ 64 → needle_total n ≤ 2 ^ 64 + 64
total_small n h = omega (arith, h)
