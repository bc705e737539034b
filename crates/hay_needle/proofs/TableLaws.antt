-- What stands at a pair: after rows, after the needles of a file, and in a table.
use Rattle.std.proofs.Common.{◌≡◌, ℕ, zero, suc, Bool, true, false, not, ◌&&◌, cond, List, [], ◌∷◌, ◌++◌, length, take, drop, fold, Option, Some, None, T, refl, sym, ap, ◌∙◌, ◌⊎◌, inl, inr}
use Rattle.std.specs.Prelude.{slice_get, nat_eq}
use Rattle.std.specs.declared.cmp.Ordering.TheVariants.{Equal}
use Rattle.std.specs.Ordering.{nat_cmp, eq_by_cmp, is_eq}
use Rattle.std.specs.Cmp.{IsTotalOrder, nat_cmp_total, on_total, then_total, tied_then, unsigned_tied}
use Rattle.std.specs.FinMap.Entries.{find, is_sorted, find-put, find-where_key, is_sorted-put, is_sorted-where_key, same_entries}
use Rattle.std.proofs.lemmas.List.{map-append, take-append-drop}
use Rattle.std.proofs.lemmas.Bool.{cond_both, cond-true, cond-false, and_parts, cases_Bool, not-true, true≢false, eqb-true, eq-eqb, and_from}
use Rattle.hay_needle.specs.declared.needle.Pair.{Pair}
use Rattle.hay_needle.specs.declared.needle.Photo.{Photo}
use Rattle.hay_needle.specs.declared.needle.Outcome.{Outcome}
use Rattle.hay_needle.specs.declared.needle.Outcome.TheVariants as outcome
use Rattle.hay_needle.specs.declared.needle.Needle.{Needle}
use Rattle.hay_needle.specs.declared.needle.Row.{Row}
use Rattle.hay_needle.specs.Needle.{deleted_needle}
use Rattle.hay_needle.specs.Tables.{pair_cmp, pair_eq, Table, outcome_by, outcome_at, with_photo, without_pair, with_outcome, needle_outcome, table_of, look_after, look}
use Rattle.hay_needle.specs.Tables.{needle_row, rows_of, lacks, flag_last}

-- PAIRS

pub pair_same : (a b : Pair) → pair_eq a b ≡ true → a ≡ b
pair_same a b e =
    let parts = and_parts (nat_eq a.key b.key) (nat_eq a.alt b.alt) e in
    let key : a.key ≡ b.key = eqb-true a.key b.key parts.0 in
    let alt : a.alt ≡ b.alt = eqb-true a.alt b.alt parts.1 in
    let first : ℕ → Pair = λ k. record { key = k; alt = a.alt } in
    let second : ℕ → Pair = λ t. record { key = b.key; alt = t } in
    ap first key ∙ ap second alt

pub pair_refl : (a : Pair) → pair_eq a a ≡ true
pair_refl a = and_from (nat_eq a.key a.key) (nat_eq a.alt a.alt) (eq-eqb a.key a.key refl) (eq-eqb a.alt a.alt refl)

pub pair_apart : (a b : Pair) → pair_eq a b ≡ pair_eq b a
pair_apart a b =
    elim (cases_Bool (pair_eq a b)) [
      | inl t ↦ t ∙ sym (ap (λ (x : Pair). pair_eq b x) (pair_same a b t) ∙ pair_refl b)
      | inr f ↦
          elim (cases_Bool (pair_eq b a)) [
            | inl t ↦ absurd (true≢false (sym (ap (λ (x : Pair). pair_eq a x) (pair_same b a t) ∙ pair_refl a) ∙ f))
            | inr g ↦ f ∙ sym g
          ]
    ]

pub pair_total : IsTotalOrder pair_cmp
pair_total = then_total (on_total (λ (p : Pair). p.key) nat_cmp_total) (on_total (λ (p : Pair). p.alt) nat_cmp_total)

pub pair_tied : (a b : Pair) → eq_by_cmp pair_cmp a b ≡ pair_eq a b
pair_tied a b =
    sym (tied_then (nat_cmp a.key b.key) (nat_cmp a.alt b.alt))
    ∙ ap (λ (x : Bool). x && is_eq (nat_cmp a.alt b.alt)) (unsigned_tied a.key b.key)
    ∙ ap (λ (x : Bool). nat_eq a.key b.key && x) (unsigned_tied a.alt b.alt)

pub pair_exact : (a b : Pair) → pair_cmp a b ≡ Equal → a ≡ b
pair_exact a b e = pair_same a b (sym (pair_tied a b) ∙ ap is_eq e)

-- ROWS AND NEEDLES

-- the later rows go over the earlier ones
pub look_append : (xs ys : List Row) (p : Pair) (o : Outcome) → look_after (xs ++ ys) p o ≡ look_after ys p (look_after xs p o)
look_append [] ys p o = refl
look_append (x ∷ xs) ys p o = look_append xs ys p (cond (pair_eq x.pair p) x.outcome o)

pub rows_append : (cs ds : List Needle) (p : Pair) (o : Outcome) → look_after (rows_of (cs ++ ds)) p o ≡ look_after (rows_of ds) p (look_after (rows_of cs) p o)
rows_append cs ds p o =
    ap (λ (rows : List Row). look_after rows p o) (map-append needle_row cs ds) ∙ look_append (rows_of cs) (rows_of ds) p o

-- where no needle has the pair, what stood before stays
pub lacks_look : (q : Pair) (cs : List Needle) (o : Outcome) → lacks q cs ≡ true → look_after (rows_of cs) q o ≡ o
lacks_look q [] o e = refl
lacks_look q (c ∷ cs) o e =
    let parts = and_parts (not (pair_eq c.pair q)) (lacks q cs) e in
    let n : pair_eq c.pair q ≡ false = not-true (pair_eq c.pair q) parts.0 in
    ap (λ (x : Outcome). look_after (rows_of cs) q x) (cond-false (pair_eq c.pair q) (needle_row c).outcome o n) ∙ lacks_look q cs o parts.1

-- where the pair has a cell, what stood before does not count
pub has_look : (q : Pair) (cs : List Needle) (o u : Outcome) → lacks q cs ≡ false → look_after (rows_of cs) q o ≡ look_after (rows_of cs) q u
has_look q [] o u e = absurd (true≢false e)
has_look q (c ∷ cs) o u e =
    elim (cases_Bool (pair_eq c.pair q)) as (λ b. look_after (rows_of (c ∷ cs)) q o ≡ look_after (rows_of (c ∷ cs)) q u) [
      | inl t ↦ ap (λ (x : Outcome). look_after (rows_of cs) q x) (cond-true (pair_eq c.pair q) (needle_row c).outcome o t ∙ sym (cond-true (pair_eq c.pair q) (needle_row c).outcome u t))
      | inr f ↦ has_look q cs (cond (pair_eq c.pair q) (needle_row c).outcome o) (cond (pair_eq c.pair q) (needle_row c).outcome u)
          (let same : (not (pair_eq c.pair q) && lacks q cs) ≡ lacks q cs = rw f refl in sym same ∙ e)
    ]

-- rows say what stands at a pair, or leave it
pub look_either : (ys : List Row) (p : Pair) → ((o : Outcome) → look_after ys p o ≡ o) ⊎ ((v : Outcome) × ((o : Outcome) → look_after ys p o ≡ v))
look_either [] p = inl (λ o. refl)
look_either (y ∷ ys) p =
    elim (look_either ys p) [
      | inl h ↦ elim (cases_Bool (pair_eq y.pair p)) [
        | inl t ↦ inr (y.outcome, λ o. h (cond (pair_eq y.pair p) y.outcome o) ∙ cond-true (pair_eq y.pair p) y.outcome o t)
        | inr f ↦ inl (λ o. h (cond (pair_eq y.pair p) y.outcome o) ∙ cond-false (pair_eq y.pair p) y.outcome o f)
      ]
      | inr h ↦ inr (h.0, λ o. h.1 (cond (pair_eq y.pair p) y.outcome o))
    ]

-- rows that are gone through twice give what they give once
pub look_twice : (ys : List Row) (p : Pair) (o : Outcome) → look_after ys p (look_after ys p o) ≡ look_after ys p o
look_twice ys p o =
    elim (look_either ys p) [
      | inl h ↦ h (look_after ys p o)
      | inr h ↦ h.1 (look_after ys p o) ∙ sym (h.1 o)
    ]

-- what is nothing over a whole file is nothing over its end
pub drop_nothing : (q : Pair) (n : ℕ) (cs : List Needle) → look (rows_of cs) q ≡ outcome.Nothing → look (rows_of (drop n cs)) q ≡ outcome.Nothing
drop_nothing q n cs h =
    let whole : look (rows_of cs) q ≡ look_after (rows_of (drop n cs)) q (look (rows_of (take n cs)) q) =
    ap (λ (ds : List Needle). look (rows_of ds) q) (sym (take-append-drop n cs)) ∙ rows_append (take n cs) (drop n cs) q outcome.Nothing in
    elim (cases_Bool (lacks q (drop n cs))) [
      | inl none ↦ lacks_look q (drop n cs) outcome.Nothing none
      | inr has ↦ has_look q (drop n cs) outcome.Nothing (look (rows_of (take n cs)) q) has ∙ sym whole ∙ h
    ]

pub lacks_append : (q : Pair) (cs ds : List Needle) → lacks q (cs ++ ds) ≡ (lacks q cs && lacks q ds)
lacks_append q [] ds = refl
lacks_append q (c ∷ cs) ds = elim (pair_eq c.pair q) as (λ b. (not b && lacks q (cs ++ ds)) ≡ ((not b && lacks q cs) && lacks q ds)) [ true ↦ refl | false ↦ lacks_append q cs ds ]

-- FLAGS

-- a flag leaves each other pair
pub flag_other : (q p : Pair) (cs : List Needle) (o : Outcome) → pair_eq q p ≡ false → look_after (rows_of (flag_last q cs)) p o ≡ look_after (rows_of cs) p o
flag_other q p [] o ne = refl
flag_other q p (c ∷ cs) o ne =
    cond_both (pair_eq c.pair q && lacks q cs) (deleted_needle c ∷ cs) (c ∷ flag_last q cs)
    (λ (ds : List Needle). look_after (rows_of ds) p o ≡ look_after (rows_of (c ∷ cs)) p o)
    (λ e. let same = pair_same c.pair q (and_parts (pair_eq c.pair q) (lacks q cs) e).0 in
    let n : pair_eq c.pair p ≡ false = ap (λ (x : Pair). pair_eq x p) same ∙ ne in
    ap (λ (x : Outcome). look_after (rows_of cs) p x) (cond-false (pair_eq c.pair p) outcome.Nothing o n ∙ sym (cond-false (pair_eq c.pair p) (needle_row c).outcome o n)))
    (λ e. flag_other q p cs (cond (pair_eq c.pair p) (needle_row c).outcome o) ne)

pub lacks_flag : (q : Pair) (cs : List Needle) → lacks q cs ≡ true → flag_last q cs ≡ cs
lacks_flag q [] e = refl
lacks_flag q (c ∷ cs) e =
    let parts = and_parts (not (pair_eq c.pair q)) (lacks q cs) e in
    let n : pair_eq c.pair q ≡ false = not-true (pair_eq c.pair q) parts.0 in
    rw n (ap (λ (ds : List Needle). c ∷ ds) (lacks_flag q cs parts.1))

still_has : (a b : Bool) → (not a && b) ≡ false → (a && b) ≡ false → b ≡ false
still_has true true e f = f
still_has true false e f = refl
still_has false true e f = e
still_has false false e f = refl

pub flag_has : (q : Pair) (cs : List Needle) (o : Outcome) → lacks q cs ≡ false → look_after (rows_of (flag_last q cs)) q o ≡ outcome.Nothing
flag_has q [] o e = absurd (true≢false e)
flag_has q (c ∷ cs) o e =
    cond_both (pair_eq c.pair q && lacks q cs) (deleted_needle c ∷ cs) (c ∷ flag_last q cs)
    (λ (ds : List Needle). look_after (rows_of ds) q o ≡ outcome.Nothing)
    (λ t. let parts = and_parts (pair_eq c.pair q) (lacks q cs) t in
    ap (λ (x : Outcome). look_after (rows_of cs) q x) (cond-true (pair_eq c.pair q) outcome.Nothing o parts.0) ∙ lacks_look q cs outcome.Nothing parts.1)
    (λ f. flag_has q cs (cond (pair_eq c.pair q) (needle_row c).outcome o) (still_has (pair_eq c.pair q) (lacks q cs) e f))

-- a flag leaves its pair with nothing
pub flag_same : (q : Pair) (cs : List Needle) → look (rows_of (flag_last q cs)) q ≡ outcome.Nothing
flag_same q cs =
    elim (cases_Bool (lacks q cs)) [
      | inl t ↦ ap (λ (ds : List Needle). look (rows_of ds) q) (lacks_flag q cs t) ∙ lacks_look q cs outcome.Nothing t
      | inr f ↦ flag_has q cs outcome.Nothing f
    ]

pub lacks_drop : (q : Pair) (n : ℕ) (cs : List Needle) → lacks q cs ≡ true → lacks q (drop n cs) ≡ true
lacks_drop q zero cs e = e
lacks_drop q (suc n) [] e = refl
lacks_drop q (suc n) (c ∷ cs) e = lacks_drop q n cs (and_parts (not (pair_eq c.pair q)) (lacks q cs) e).1

pub drop_flag_other : (q p : Pair) (n : ℕ) (cs : List Needle) (o : Outcome) → pair_eq q p ≡ false → look_after (rows_of (drop n (flag_last q cs))) p o ≡ look_after (rows_of (drop n cs)) p o
drop_flag_other q p zero cs o ne = flag_other q p cs o ne
drop_flag_other q p (suc n) [] o ne = refl
drop_flag_other q p (suc n) (c ∷ cs) o ne =
    cond_both (pair_eq c.pair q && lacks q cs) (deleted_needle c ∷ cs) (c ∷ flag_last q cs)
    (λ (ds : List Needle). look_after (rows_of (drop (suc n) ds)) p o ≡ look_after (rows_of (drop n cs)) p o)
    (λ e. refl)
    (λ e. drop_flag_other q p n cs o ne)

pub drop_flag_same : (q : Pair) (n : ℕ) (cs : List Needle) → look (rows_of (drop n (flag_last q cs))) q ≡ outcome.Nothing
drop_flag_same q zero cs = flag_same q cs
drop_flag_same q (suc n) [] = refl
drop_flag_same q (suc n) (c ∷ cs) =
    cond_both (pair_eq c.pair q && lacks q cs) (deleted_needle c ∷ cs) (c ∷ flag_last q cs)
    (λ (ds : List Needle). look (rows_of (drop (suc n) ds)) q ≡ outcome.Nothing)
    (λ e. lacks_look q (drop n cs) outcome.Nothing (lacks_drop q n cs (and_parts (pair_eq c.pair q) (lacks q cs) e).1))
    (λ e. drop_flag_same q n cs)

pub length-flag_last : (q : Pair) (cs : List Needle) → length (flag_last q cs) ≡ length cs
length-flag_last q [] = refl
length-flag_last q (c ∷ cs) =
    cond_both (pair_eq c.pair q && lacks q cs) (deleted_needle c ∷ cs) (c ∷ flag_last q cs)
    (λ (ds : List Needle). length ds ≡ length (c ∷ cs))
    (λ t. refl)
    (λ f. ap suc (length-flag_last q cs))

-- one step of a pass that flags
pub flag_here : (q : Pair) (c : Needle) (cs : List Needle) → pair_eq c.pair q ≡ true → lacks q cs ≡ true → flag_last q (c ∷ cs) ≡ deleted_needle c ∷ flag_last q cs
flag_here q c cs e none =
    cond-true (pair_eq c.pair q && lacks q cs) (deleted_needle c ∷ cs) (c ∷ flag_last q cs) (and_from (pair_eq c.pair q) (lacks q cs) e none)
    ∙ ap (λ (ds : List Needle). deleted_needle c ∷ ds) (sym (lacks_flag q cs none))

pub flag_not_here : (q : Pair) (c : Needle) (cs : List Needle) → (pair_eq c.pair q && lacks q cs) ≡ false → flag_last q (c ∷ cs) ≡ c ∷ flag_last q cs
flag_not_here q c cs e = cond-false (pair_eq c.pair q && lacks q cs) (deleted_needle c ∷ cs) (c ∷ flag_last q cs) e

-- FILES THAT GROW

-- each needle stays where it is, with its photo
abbrev pub Extends : List Needle → List Needle → Type 0
Extends cs ds = (n : ℕ) (c : Needle) → slice_get cs n ≡ Some c → (d : Needle) × (slice_get ds n ≡ Some d) × (d.photo ≡ c.photo)

pub extends_append : (cs ds : List Needle) → Extends cs (cs ++ ds)
extends_append [] ds n c e = absurd cc
extends_append (x ∷ cs) ds zero c e = (c, e, refl)
extends_append (x ∷ cs) ds (suc n) c e = extends_append cs ds n c e

-- at the head of a list, and behind it
at_head : (x y : Needle) (cs ds : List Needle) → y.photo ≡ x.photo → Extends cs ds → Extends (x ∷ cs) (y ∷ ds)
at_head x y cs ds same h zero c e = (y, refl, same ∙ (let is : x ≡ c = cc in ap (λ (z : Needle). z.photo) is))
at_head x y cs ds same h (suc n) c e = h n c e

pub extends_same : (cs : List Needle) → Extends cs cs
extends_same cs n c e = (c, e, refl)

pub extends_flag : (q : Pair) (cs : List Needle) → Extends cs (flag_last q cs)
extends_flag q [] = extends_same []
extends_flag q (x ∷ cs) =
    cond_both (pair_eq x.pair q && lacks q cs) (deleted_needle x ∷ cs) (x ∷ flag_last q cs)
    (λ (ds : List Needle). Extends (x ∷ cs) ds)
    (λ t. at_head x (deleted_needle x) cs cs refl (extends_same cs))
    (λ f. at_head x x cs (flag_last q cs) refl (extends_flag q cs))

-- TABLES

-- the pairs strictly rise
abbrev pub IsOrdered : Table → Type 0
IsOrdered table = T (is_sorted pair_cmp table)

-- two tables with the same outcomes are equal
pub same_tables : (s t : Table) → IsOrdered s → IsOrdered t → ((p : Pair) → outcome_at s p ≡ outcome_at t p) → s ≡ t
same_tables s t a b same = same_entries pair_cmp pair_total pair_exact s t a b (λ p. same_photo (find pair_cmp p s) (find pair_cmp p t) (same p))
  where
    photo_or : Photo → Outcome → Photo
    photo_or other outcome.Nothing = other
    photo_or other (outcome.Photo photo) = photo

    has : Outcome → Bool
    has outcome.Nothing = false
    has (outcome.Photo photo) = true

    same_photo : (a b : Option Photo) → outcome_by a ≡ outcome_by b → a ≡ b
    same_photo None None e = refl
    same_photo None (Some y) e = absurd (true≢false (sym (ap has e)))
    same_photo (Some x) None e = absurd (true≢false (ap has e))
    same_photo (Some x) (Some y) e = ap (λ (z : Photo). Some z) (ap (photo_or x) e)

pub ordered-with_photo : (table : Table) (q : Pair) (photo : Photo) → IsOrdered table → IsOrdered (with_photo table q photo)
ordered-with_photo table q photo h = is_sorted-put pair_cmp pair_total q photo table h

pub ordered-without_pair : (table : Table) (q : Pair) → IsOrdered table → IsOrdered (without_pair table q)
ordered-without_pair table q h = is_sorted-where_key pair_cmp (λ other. not (eq_by_cmp pair_cmp q other)) table h

pub ordered-with_outcome : (table : Table) (q : Pair) (o : Outcome) → IsOrdered table → IsOrdered (with_outcome table q o)
ordered-with_outcome table q outcome.Nothing h = ordered-without_pair table q h
ordered-with_outcome table q (outcome.Photo photo) h = ordered-with_photo table q photo h

-- what a put leaves at its pair and at each other
pub at-with_photo : (table : Table) (q : Pair) (photo : Photo) (p : Pair) → outcome_at (with_photo table q photo) p ≡ cond (pair_eq q p) (outcome.Photo photo) (outcome_at table p)
at-with_photo table q photo p =
    ap outcome_by (find-put pair_cmp pair_total p q photo table ∙ ap (λ (b : Bool). cond b (Some photo) (find pair_cmp p table)) (pair_tied p q ∙ pair_apart p q))
    ∙ elim (pair_eq q p) as (λ b. outcome_by (cond b (Some photo) (find pair_cmp p table)) ≡ cond b (outcome.Photo photo) (outcome_at table p)) [ true ↦ refl | false ↦ refl ]

-- what a delete leaves at its pair and at each other
pub at-without_pair : (table : Table) (q p : Pair) → outcome_at (without_pair table q) p ≡ cond (pair_eq q p) outcome.Nothing (outcome_at table p)
at-without_pair table q p =
    ap outcome_by
    (find-where_key pair_cmp (λ other. not (eq_by_cmp pair_cmp q other)) p (λ x e. ap (λ (y : Pair). not (eq_by_cmp pair_cmp q y)) (sym (pair_exact p x e))) table
    ∙ ap (λ (b : Bool). cond (not b) (find pair_cmp p table) None) (pair_tied q p))
    ∙ elim (pair_eq q p) as (λ b. outcome_by (cond (not b) (find pair_cmp p table) None) ≡ cond b outcome.Nothing (outcome_at table p)) [ true ↦ refl | false ↦ refl ]

pub at-with_outcome : (table : Table) (q : Pair) (o : Outcome) (p : Pair) → outcome_at (with_outcome table q o) p ≡ cond (pair_eq q p) o (outcome_at table p)
at-with_outcome table q outcome.Nothing p = at-without_pair table q p
at-with_outcome table q (outcome.Photo photo) p = at-with_photo table q photo p

-- the table with the needles' outcomes, from a table that stood before
abbrev pub table_from : Table → List Needle → Table
table_from table needles = fold (λ (table : Table) (n : Needle). with_outcome table n.pair (needle_outcome n)) table needles

pub ordered-table_from : (table : Table) (needles : List Needle) → IsOrdered table → IsOrdered (table_from table needles)
ordered-table_from table [] h = h
ordered-table_from table (n ∷ needles) h = ordered-table_from (with_outcome table n.pair (needle_outcome n)) needles (ordered-with_outcome table n.pair (needle_outcome n) h)

pub at-table_from : (table : Table) (needles : List Needle) (p : Pair) → outcome_at (table_from table needles) p ≡ look_after (rows_of needles) p (outcome_at table p)
at-table_from table [] p = refl
at-table_from table (n ∷ needles) p =
    at-table_from (with_outcome table n.pair (needle_outcome n)) needles p
    ∙ ap (λ (o : Outcome). look_after (rows_of needles) p o) (at-with_outcome table n.pair (needle_outcome n) p)

pub ordered-table_of : (needles : List Needle) → IsOrdered (table_of needles)
ordered-table_of needles = ordered-table_from [] needles tt

-- a table's outcome at a pair is that of the pair's last needle
pub at-table_of : (needles : List Needle) (p : Pair) → outcome_at (table_of needles) p ≡ look (rows_of needles) p
at-table_of needles p = at-table_from [] needles p

-- files whose needles look alike at each pair have one table
pub table_of-same : (cs ds : List Needle) → ((p : Pair) → look (rows_of cs) p ≡ look (rows_of ds) p) → table_of cs ≡ table_of ds
table_of-same cs ds same = same_tables (table_of cs) (table_of ds) (ordered-table_of cs) (ordered-table_of ds) (λ p. at-table_of cs p ∙ same p ∙ sym (at-table_of ds p))

-- one needle more, and the last needle of a pair flagged
pub table_of-append : (cs : List Needle) (n : Needle) → table_of (cs ++ n ∷ []) ≡ with_outcome (table_of cs) n.pair (needle_outcome n)
table_of-append cs n = go [] cs
  where
    go : (table : Table) (cs : List Needle) → table_from table (cs ++ n ∷ []) ≡ with_outcome (table_from table cs) n.pair (needle_outcome n)
    go table [] = refl
    go table (c ∷ cs) = go (with_outcome table c.pair (needle_outcome c)) cs

pub table_of-flag_last : (q : Pair) (cs : List Needle) → table_of (flag_last q cs) ≡ without_pair (table_of cs) q
table_of-flag_last q cs =
    same_tables (table_of (flag_last q cs)) (without_pair (table_of cs) q) (ordered-table_of (flag_last q cs)) (ordered-without_pair (table_of cs) q (ordered-table_of cs))
    (λ p. at-table_of (flag_last q cs) p ∙ flagged_at p ∙ sym (at-without_pair (table_of cs) q p ∙ ap (λ (o : Outcome). cond (pair_eq q p) outcome.Nothing o) (at-table_of cs p)))
  where
    flagged_at : (p : Pair) → look (rows_of (flag_last q cs)) p ≡ cond (pair_eq q p) outcome.Nothing (look (rows_of cs) p)
    flagged_at p =
        elim (cases_Bool (pair_eq q p)) [
          | inl t ↦ ap (λ (x : Pair). look (rows_of (flag_last q cs)) x) (sym (pair_same q p t)) ∙ flag_same q cs ∙ sym (cond-true (pair_eq q p) outcome.Nothing (look (rows_of cs) p) t)
          | inr f ↦ flag_other q p cs outcome.Nothing f ∙ sym (cond-false (pair_eq q p) outcome.Nothing (look (rows_of cs) p) f)
        ]
