-- What a compaction may skip and what it copies, and that the live needles of a file have its table.
use Rattle.std.proofs.Common.{◌≡◌, ℕ, ◌+◌, ◌≤◌, Bool, true, false, not, ◌&&◌, cond, List, [], ◌∷◌, ◌++◌, length, drop, Some, None, refl, sym, ap, ◌∙◌, append_assoc, inl, inr, subst, arith}
use Rattle.std.specs.Prelude.{sum_by}
use Rattle.std.specs.FinMap.Entries.{find, put, by_order, find-put}
use Rattle.std.specs.Ordering.{is_eq}
use Rattle.std.specs.declared.cmp.Ordering.TheVariants.{Less, Equal, Greater}
use Rattle.std.proofs.lemmas.List.{drop-append-le, drop-drop}
use Rattle.std.proofs.lemmas.List.Sums.{sum_by-cons}
use Rattle.std.proofs.lemmas.Bool.{cond_both, cond-true, cond-false, and_parts, cases_Bool, not-true, false≢true, true≢false}
use Rattle.hay_needle.specs.declared.needle.Pair.{Pair}
use Rattle.hay_needle.specs.declared.needle.Photo.{Photo}
use Rattle.hay_needle.specs.declared.needle.Outcome.{Outcome}
use Rattle.hay_needle.specs.declared.needle.Outcome.TheVariants as outcome
use Rattle.hay_needle.specs.declared.needle.Needle.{Needle}
use Rattle.hay_needle.specs.Sizes.{needle_total}
use Rattle.hay_needle.specs.Tables.{pair_cmp, pair_eq, Table, with_photo, with_outcome, needle_outcome, table_of, look_after, look, needle_row, rows_of, lacks, is_live}
use Rattle.hay_needle.specs.Tables.{live_needles, flag_last, live_end}
use Rattle.hay_needle.specs.Copies.{CopiesAt}
use Rattle.hay_needle.proofs.TableLaws.{pair_same, pair_refl, pair_tied, pair_total, rows_append, lacks_look, has_look, flag_other, flag_same, drop_flag_other, drop_flag_same}
use Rattle.hay_needle.proofs.TableLaws.{drop_nothing, table_from, table_of-same}

-- ONE NEEDLE

-- from what the new file has of the pair the needles that are left make what the current file has, and there is nothing in it where
-- that has nothing
abbrev pub Follows : Pair → List Needle → Outcome → Outcome → Type 0
Follows p cells b t = (look_after (rows_of cells) p b ≡ t) × (t ≡ outcome.Nothing → b ≡ outcome.Nothing)

dead_deleted : (d l : Bool) → (not d && l) ≡ false → l ≡ true → d ≡ true
dead_deleted true l e f = refl
dead_deleted false l e f = absurd (false≢true (sym e ∙ f))

-- a needle that is not live may be skipped
pub pass : (p : Pair) (c : Needle) (cs : List Needle) (b t : Outcome) → is_live c cs ≡ false → Follows p (c ∷ cs) b t → Follows p cs b t
pass p c cs b t dead h =
    elim (cases_Bool (pair_eq c.pair p)) [
      | inr f ↦ (ap (λ (x : Outcome). look_after (rows_of cs) p x) (sym (cond-false (pair_eq c.pair p) (needle_row c).outcome b f)) ∙ h.0, h.1)
      | inl e ↦
          let same : c.pair ≡ p = pair_same c.pair p e in
          let first : look_after (rows_of cs) p (needle_row c).outcome ≡ t =
          ap (λ (x : Outcome). look_after (rows_of cs) p x) (sym (cond-true (pair_eq c.pair p) (needle_row c).outcome b e)) ∙ h.0 in (
            elim (cases_Bool (lacks p cs)) [
              | inr has ↦ has_look p cs b (needle_row c).outcome has ∙ first
              | inl none ↦
                  let gone : c.deleted ≡ true = dead_deleted c.deleted (lacks c.pair cs) dead (ap (λ (x : Pair). lacks x cs) same ∙ none) in
                  let nothing : (needle_row c).outcome ≡ outcome.Nothing = cond-true c.deleted outcome.Nothing (outcome.Photo c.photo) gone in
                  let t_is : t ≡ outcome.Nothing = sym first ∙ lacks_look p cs (needle_row c).outcome none ∙ nothing in
                  lacks_look p cs b none ∙ h.1 t_is ∙ sym t_is
            ],
            h.1,
          )
    ]

-- a live needle may be copied
pub copy_one : (p : Pair) (c : Needle) (cs : List Needle) (b t : Outcome) → is_live c cs ≡ true → Follows p (c ∷ cs) b t → Follows p cs (cond (pair_eq c.pair p) (needle_row c).outcome b) t
copy_one p c cs b t live h = (
  h.0,
  λ nothing.
      elim (cases_Bool (pair_eq c.pair p)) [
        | inr f ↦ cond-false (pair_eq c.pair p) (needle_row c).outcome b f ∙ h.1 nothing
        | inl e ↦
            let parts = and_parts (not c.deleted) (lacks c.pair cs) live in
            let same : c.pair ≡ p = pair_same c.pair p e in
            let none : lacks p cs ≡ true = ap (λ (x : Pair). lacks x cs) (sym same) ∙ parts.1 in
            let kept : (needle_row c).outcome ≡ outcome.Photo c.photo = cond-false c.deleted outcome.Nothing (outcome.Photo c.photo) (not-true c.deleted parts.0) in
            let is : t ≡ outcome.Photo c.photo =
            sym h.0 ∙ ap (λ (x : Outcome). look_after (rows_of cs) p x) (cond-true (pair_eq c.pair p) (needle_row c).outcome b e) ∙ lacks_look p cs (needle_row c).outcome none ∙ kept in
            absurd cc
      ],
)

-- what is left behind the next needle
left_behind : (n : ℕ) (cs : List Needle) (c : Needle) (behind : List Needle) → drop n cs ≡ c ∷ behind → behind ≡ drop (n + 1) cs
left_behind n cs c behind is = sym (ap (λ (ds : List Needle). drop 1 ds) is) ∙ drop-drop 1 n cs

-- A COPY

-- nothing is copied yet
pub copies_begin : (p : Pair) (current : List Needle) → CopiesAt p [] current 0
copies_begin p current = record { table = refl; gone = λ nothing. refl }

pub follows : (p : Pair) (fresh current : List Needle) (n : ℕ) → CopiesAt p fresh current n → Follows p (drop n current) (look (rows_of fresh) p) (look (rows_of current) p)
follows p fresh current n h = (sym (rows_append fresh (drop n current) p outcome.Nothing) ∙ h.table, h.gone)

pub copies_from : (p : Pair) (fresh current : List Needle) (n : ℕ) → Follows p (drop n current) (look (rows_of fresh) p) (look (rows_of current) p) → CopiesAt p fresh current n
copies_from p fresh current n h = record { table = rows_append fresh (drop n current) p outcome.Nothing ∙ h.0; gone = h.1 }

-- the next needle is skipped
pub copies_pass : (p : Pair) (fresh current : List Needle) (n : ℕ) (c : Needle) (behind : List Needle) → drop n current ≡ c ∷ behind → is_live c behind ≡ false
    → CopiesAt p fresh current n → CopiesAt p fresh current (n + 1)
copies_pass p fresh current n c behind is dead h =
    let b : Outcome = look (rows_of fresh) p in
    let t : Outcome = look (rows_of current) p in
    let F : List Needle → Type 0 = λ cs. Follows p cs b t in
    copies_from p fresh current (n + 1) (subst F (left_behind n current c behind is) (pass p c behind b t dead (subst F is (follows p fresh current n h))))

-- the next needle is copied
pub copies_one : (p : Pair) (fresh current : List Needle) (n : ℕ) (c : Needle) (behind : List Needle) → drop n current ≡ c ∷ behind → is_live c behind ≡ true
    → CopiesAt p fresh current n → CopiesAt p (fresh ++ c ∷ []) current (n + 1)
copies_one p fresh current n c behind is live h =
    let b : Outcome = look (rows_of fresh) p in
    let t : Outcome = look (rows_of current) p in
    let F : List Needle → Type 0 = λ cs. Follows p cs b t in
    let G : List Needle → Type 0 = λ cs. Follows p cs (cond (pair_eq c.pair p) (needle_row c).outcome b) t in
    let H : Outcome → Type 0 = λ o. Follows p (drop (n + 1) current) o t in
    copies_from p (fresh ++ c ∷ []) current (n + 1)
    (subst H (sym (rows_append fresh (c ∷ []) p outcome.Nothing))
    (subst G (left_behind n current c behind is) (copy_one p c behind b t live (subst F is (follows p fresh current n h)))))

-- all is examined: the new file has the current one's table
pub copies_done : (p : Pair) (fresh current : List Needle) (n : ℕ) → drop n current ≡ [] → CopiesAt p fresh current n → look (rows_of fresh) p ≡ look (rows_of current) p
copies_done p fresh current n is h =
    let F : List Needle → Type 0 = λ cs. Follows p cs (look (rows_of fresh) p) (look (rows_of current) p) in
    (subst F is (follows p fresh current n h)).0

-- a needle is put in the current file
pub copies_append : (p : Pair) (fresh current : List Needle) (c : Needle) (n : ℕ) → n ≤ length current → c.deleted ≡ false → CopiesAt p fresh current n → CopiesAt p fresh (current ++ c ∷ []) n
copies_append p fresh current c n fits live h = record {
  table =
      ap (λ (cs : List Needle). look (rows_of (fresh ++ cs)) p) (drop-append-le n current (c ∷ []) fits)
      ∙ ap (λ (cs : List Needle). look (rows_of cs) p) (sym (append_assoc fresh (drop n current) (c ∷ [])))
      ∙ rows_append (fresh ++ drop n current) (c ∷ []) p outcome.Nothing
      ∙ ap (λ (o : Outcome). cond (pair_eq c.pair p) (needle_row c).outcome o) h.table
      ∙ sym (rows_append current (c ∷ []) p outcome.Nothing);
  gone = λ nothing.
      let is = sym (rows_append current (c ∷ []) p outcome.Nothing) ∙ nothing in
      elim (cases_Bool (pair_eq c.pair p)) [
        | inl t ↦
            let photo : outcome.Photo c.photo ≡ outcome.Nothing =
            sym (cond-true (pair_eq c.pair p) (needle_row c).outcome (look (rows_of current) p) t ∙ cond-false c.deleted outcome.Nothing (outcome.Photo c.photo) live) ∙ is in
            absurd cc
        | inr f ↦ h.gone (sym (cond-false (pair_eq c.pair p) (needle_row c).outcome (look (rows_of current) p) f) ∙ is)
      ];
}

-- another pair is deleted in the current file, and in the new one
pub copies_flag_other : (p q : Pair) (fresh current : List Needle) (n : ℕ) → pair_eq q p ≡ false → CopiesAt p fresh current n → CopiesAt p fresh (flag_last q current) n
copies_flag_other p q fresh current n ne h = record {
  table =
      rows_append fresh (drop n (flag_last q current)) p outcome.Nothing
      ∙ drop_flag_other q p n current (look (rows_of fresh) p) ne
      ∙ sym (rows_append fresh (drop n current) p outcome.Nothing)
      ∙ h.table
      ∙ sym (flag_other q p current outcome.Nothing ne);
  gone = λ nothing. h.gone (sym (flag_other q p current outcome.Nothing ne) ∙ nothing);
}

pub copies_repeat_other : (p q : Pair) (fresh current : List Needle) (n : ℕ) → pair_eq q p ≡ false → CopiesAt p fresh current n → CopiesAt p (flag_last q fresh) current n
copies_repeat_other p q fresh current n ne h = record {
  table =
      rows_append (flag_last q fresh) (drop n current) p outcome.Nothing
      ∙ ap (λ (o : Outcome). look_after (rows_of (drop n current)) p o) (flag_other q p fresh outcome.Nothing ne)
      ∙ sym (rows_append fresh (drop n current) p outcome.Nothing)
      ∙ h.table;
  gone = λ nothing. flag_other q p fresh outcome.Nothing ne ∙ h.gone nothing;
}

-- both files have nothing of the pair
pub copies_nothing : (q : Pair) (fresh current : List Needle) (n : ℕ) → look (rows_of fresh) q ≡ outcome.Nothing → look (rows_of (drop n current)) q ≡ outcome.Nothing
    → look (rows_of current) q ≡ outcome.Nothing → CopiesAt q fresh current n
copies_nothing q fresh current n a b c = record {
  table = rows_append fresh (drop n current) q outcome.Nothing ∙ ap (λ (o : Outcome). look_after (rows_of (drop n current)) q o) a ∙ b ∙ sym c;
  gone = λ nothing. a;
}

-- the pair itself is deleted in the current file, where the new one has no needle of it
pub copies_flag_same : (q : Pair) (fresh current : List Needle) (n : ℕ) → lacks q fresh ≡ true → CopiesAt q fresh (flag_last q current) n
copies_flag_same q fresh current n none =
    copies_nothing q fresh (flag_last q current) n (lacks_look q fresh outcome.Nothing none) (drop_flag_same q n current) (flag_same q current)

-- the delete is repeated in the new file
pub copies_repeat_same : (q : Pair) (fresh current : List Needle) (n : ℕ) → look (rows_of current) q ≡ outcome.Nothing → CopiesAt q (flag_last q fresh) current n
copies_repeat_same q fresh current n h = copies_nothing q (flag_last q fresh) current n (flag_same q fresh) (drop_nothing q n current h) h

-- ALL LIVE NEEDLES

look_live_from : (p : Pair) (cs : List Needle) (b t : Outcome) → Follows p cs b t → look_after (rows_of (live_needles cs)) p b ≡ t
look_live_from p [] b t h = h.0
look_live_from p (c ∷ cs) b t h =
    cond_both (is_live c cs) (c ∷ live_needles cs) (live_needles cs) (λ (ds : List Needle). look_after (rows_of ds) p b ≡ t)
    (λ live. look_live_from p cs (cond (pair_eq c.pair p) (needle_row c).outcome b) t (copy_one p c cs b t live h))
    (λ dead. look_live_from p cs b t (pass p c cs b t dead h))

pub look_live : (cs : List Needle) (p : Pair) → look (rows_of (live_needles cs)) p ≡ look (rows_of cs) p
look_live cs p = look_live_from p cs outcome.Nothing (look (rows_of cs) p) (refl, λ nothing. refl)

-- the live needles have the table of all
pub table_of-live_needles : (cs : List Needle) → table_of (live_needles cs) ≡ table_of cs
table_of-live_needles cs = table_of-same (live_needles cs) cs (look_live cs)

-- the bytes of a needle's photo on the disk, and of a table's
abbrev pub needle_length : Needle → ℕ
needle_length n = needle_total (length n.photo.bytes)

abbrev pub photo_total : Pair × Photo → ℕ
photo_total e = needle_total (length (e.1).bytes)

-- a put of a pair that the table has not
sum-put : (q : Pair) (photo : Photo) (table : Table) → find pair_cmp q table ≡ None → sum_by photo_total (put pair_cmp q photo table) ≡ sum_by photo_total table + photo_total (q, photo)
sum-put q photo [] none = refl
sum-put q photo (e ∷ es) none =
    let new : Pair × Photo = (q, photo) in
    let first = sum_by-cons photo_total e es in
    elim (pair_cmp q e.0) as (λ r. cond (is_eq r) (Some e.1) (find pair_cmp q es) ≡ None
    → sum_by photo_total (by_order r (new ∷ e ∷ es) ((e.0, photo) ∷ es) (e ∷ put pair_cmp q photo es)) ≡ sum_by photo_total (e ∷ es) + photo_total new) [
      | Less ↦ λ none. let front = sum_by-cons photo_total new (e ∷ es) in omega (arith, front)
      | Equal ↦ λ none. absurd cc
      | Greater ↦ λ none. let later = sum_by-cons photo_total e (put pair_cmp q photo es) in let rest = sum-put q photo es none in omega (arith, first, later, rest)
    ] none

-- none of the needles' pairs is in the table
abbrev AreNew : Table → List Needle → Type 0
AreNew table cs = (p : Pair) → lacks p cs ≡ false → find pair_cmp p table ≡ None

still_lacks : (a b : Bool) → b ≡ false → (a && b) ≡ false
still_lacks true b e = e
still_lacks false b e = refl

first_new : (table : Table) (c : Needle) (cs : List Needle) → AreNew table (c ∷ cs) → find pair_cmp c.pair table ≡ None
first_new table c cs new = new c.pair (ap (λ (b : Bool). not b && lacks c.pair cs) (pair_refl c.pair))

rest_new : (table : Table) (c : Needle) (cs : List Needle) → lacks c.pair cs ≡ true → AreNew table (c ∷ cs) → AreNew (with_photo table c.pair c.photo) cs
rest_new table c cs last new p has =
    find-put pair_cmp pair_total p c.pair c.photo table
    ∙ ap (λ (b : Bool). cond b (Some c.photo) (find pair_cmp p table)) (pair_tied p c.pair ∙ other)
    ∙ new p (still_lacks (not (pair_eq c.pair p)) (lacks p cs) has)
  where
    other : pair_eq p c.pair ≡ false
    other = elim (cases_Bool (pair_eq p c.pair)) [
      | inl t ↦ absurd (true≢false (sym last ∙ ap (λ (x : Pair). lacks x cs) (sym (pair_same p c.pair t)) ∙ has))
      | inr f ↦ f
    ]

sum_live : (table : Table) (cs : List Needle) → AreNew table cs → sum_by photo_total (table_from table (live_needles cs)) ≡ sum_by photo_total table + sum_by needle_length (live_needles cs)
sum_live table [] new = omega arith
sum_live table (c ∷ cs) new =
    cond_both (is_live c cs) (c ∷ live_needles cs) (live_needles cs) (λ (ds : List Needle). sum_by photo_total (table_from table ds) ≡ sum_by photo_total table + sum_by needle_length ds)
    (λ live.
    let parts = and_parts (not c.deleted) (lacks c.pair cs) live in
    let added : with_outcome table c.pair (needle_outcome c) ≡ with_photo table c.pair c.photo =
    ap (λ (o : Outcome). with_outcome table c.pair o) (cond-false c.deleted outcome.Nothing (outcome.Photo c.photo) (not-true c.deleted parts.0)) in
    let now = sum-put c.pair c.photo table (first_new table c cs new) in
    let rest = sum_live (with_photo table c.pair c.photo) cs (rest_new table c cs parts.1 new) in
    let all = sum_by-cons needle_length c (live_needles cs) in
    ap (λ (t : Table). sum_by photo_total (table_from t (live_needles cs))) added ∙ rest ∙ omega (arith, now, all))
    (λ dead. sum_live table cs (λ p has. new p (still_lacks (not (pair_eq c.pair p)) (lacks p cs) has)))

-- where the live needles of a file end, one behind the other
pub live_end-table_of : (cs : List Needle) → live_end (table_of cs) ≡ 64 + sum_by needle_length (live_needles cs)
live_end-table_of cs =
    let sum = sum_live [] cs (λ p has. refl) in
    ap live_end (sym (table_of-live_needles cs)) ∙ ap (λ n. 64 + n) sum ∙ omega arith

pub live_needles_within : (cs : List Needle) → sum_by needle_length (live_needles cs) ≤ sum_by needle_length cs
live_needles_within [] = omega arith
live_needles_within (c ∷ cs) =
    let all = sum_by-cons needle_length c cs in
    let rest = live_needles_within cs in
    cond_both (is_live c cs) (c ∷ live_needles cs) (live_needles cs) (λ (ds : List Needle). sum_by needle_length ds ≤ sum_by needle_length (c ∷ cs))
    (λ live. let kept = sum_by-cons needle_length c (live_needles cs) in omega (arith, all, rest, kept))
    (λ dead. omega (arith, all, rest))

-- no more than where all needles end
pub live_end_within : (cs : List Needle) → live_end (table_of cs) ≤ 64 + sum_by needle_length cs
live_end_within cs = omega (arith, live_end-table_of cs, live_needles_within cs)
