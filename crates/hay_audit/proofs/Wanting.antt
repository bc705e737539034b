-- Lines that tell of want of memory.
use Rattle.std.proofs.Common.{◌≡◌, ◌≢◌, ℕ, zero, suc, ◌+◌, ◌-◌, ◌<◌, ◌≤◌, ◌^◌, ◌==◌, ◌&&◌, ◌↔◌, nat_lt, ◌⊎◌, Bool, true, false, not, cond, List, [], ◌∷◌, ◌++◌, length, take, drop}
use Rattle.std.proofs.Common.{Contains, Option, Some, None, option_map, Ordering, Less, Equal, Greater, is_eq, nat_cmp, BTreeSet, refl, sym, ap, subst, ◌∙◌, inl, inr, arith}
use Rattle.std.proofs.Common.{decimal}
use Rattle.std.specs.BTreeMap.{is_at}
use Rattle.std.specs.Char.{is_ascii_digit}
use Rattle.std.specs.Cmp.{nat_cmp_is}
use Rattle.std.specs.List.{list_all, list_any, onto_first}
use Rattle.std.specs.Str.Parse.{digits_value}
use Rattle.std.proofs.lemmas.Bool.{and_parts, cases_Bool, cond-true, cond-false}
use Rattle.std.proofs.lemmas.Bool.Decides.{nat_tests}
use Rattle.std.proofs.lemmas.List.{length-drop}
use Rattle.std.proofs.lemmas.List.Splits.{slice_split-cons_yes, slice_split-cons_no}
use Rattle.std.proofs.lemmas.Map.Lookups.{exact_unsigned}
use Rattle.hay_reply.specs.Reading.{is_mark, large}
use Rattle.hay_reply.specs.declared.Reply.TheVariants.{NoMem}
use Rattle.hay_reply.specs.Replies.{reply_text}
use Rattle.hay_reply.proofs.Wording.{Plain, large_back, plain_decimal}
use Rattle.hay_audit_steps.specs.Judged.{lines_in}
use Rattle.hay_audit.specs.Feeds.{feed_at}
use Rattle.hay_audit.specs.Wants.{AreWanting, WantsMore, before_space, has, wanting_text}
use Rattle.hay_audit.proofs.Lists.{drop_twice}
use Rattle.hay_audit.proofs.Opening.{first_or, there}

-- ONE TEXT

-- a word without a space stands before the first space
word_is : (word rest : List ℕ) → Plain 32 word → before_space (word ++ 32 ∷ rest) ≡ word
word_is [] rest h = refl
word_is (b ∷ word) rest h =
    let parts = and_parts (not (is_mark 32 b)) (list_all (λ c. not (is_mark 32 c)) word) h in
    ap (λ (t : Bool). cond t [] (b ∷ before_space (word ++ 32 ∷ rest))) (no_space (is_mark 32 b) parts.0)
    ∙ ap (λ (xs : List ℕ). b ∷ xs) (word_is word rest parts.1)
  where
    no_space : (t : Bool) → not t ≡ true → t ≡ false
    no_space true e = absurd cc
    no_space false e = refl

pub number_first : (text : List ℕ) (line : ℕ) → line < 2 ^ 64 → text ≡ wanting_text line → large (before_space text) ≡ Some line
number_first text line h e =
    ap (λ (t : List ℕ). large (before_space t)) e
    ∙ ap (λ (t : List ℕ). large t) (word_is (decimal line) (reply_text NoMem) (plain_decimal 32 line refl h))
    ∙ large_back line h

pub other_text : (text : List ℕ) (number : Option ℕ) → large (before_space text) ≡ number → ((n : ℕ) → number ≡ Some n → text ≢ wanting_text n) → (line : ℕ) → line < 2 ^ 64 → text ≢ wanting_text line
other_text text number is other line h e = other line (sym is ∙ number_first text line h e) e

pub same_text : (a b : ℕ) → a < 2 ^ 64 → b < 2 ^ 64 → wanting_text a ≡ wanting_text b → a ≡ b
same_text a b h g e =
    let both : Some a ≡ Some b = sym (number_first (wanting_text a) a h refl) ∙ number_first (wanting_text a) b g e in cc

below_by : (test : Bool) (v limit n : ℕ) → (test ≡ true → v < limit) → cond test (Some v) None ≡ Some n → n < limit
below_by true v limit n h e = let same : v ≡ n = cc in omega (arith, h refl, same)
below_by false v limit n h e = absurd cc

pub large_below : (text : List ℕ) (n : ℕ) → large text ≡ Some n → n < 2 ^ 64
large_below text n e =
    below_by (nat_lt 0 (length text) && list_all is_ascii_digit text && nat_lt (digits_value 10 text) (2 ^ 64)) (digits_value 10 text) (2 ^ 64) n
    (λ t.
    let last : nat_lt (digits_value 10 text) (2 ^ 64) ≡ true = (and_parts (nat_lt 0 (length text) && list_all is_ascii_digit text) (nat_lt (digits_value 10 text) (2 ^ 64)) t).1 in
    grind (arith, nat_tests))
    e

-- LINE BY LINE

pub feed_none : (text : List ℕ) → feed_at text ≡ None → lines_in text ≡ text ∷ []
feed_none [] e = refl
feed_none (b ∷ text) e = elim (cases_Bool (b == 10)) [
  | inl feed ↦ absurd (let lie : Some 0 ≡ None = sym (cond-true (b == 10) (Some 0) (option_map suc (feed_at text)) feed) ∙ e in cc)
  | inr other ↦
      slice_split-cons_no (λ c. c == 10) b text other
      ∙ ap (λ (lines : List (List ℕ)). onto_first b lines) (feed_none text (below (feed_at text) (sym (cond-false (b == 10) (Some 0) (option_map suc (feed_at text)) other) ∙ e)))
]
  where
    below : (o : Option ℕ) → option_map suc o ≡ None → o ≡ None
    below None g = refl
    below (Some n) g = absurd cc

pub feed_some : (text : List ℕ) (n : ℕ) → feed_at text ≡ Some n → lines_in text ≡ take n text ∷ lines_in (drop (n + 1) text)
feed_some [] n e = absurd cc
feed_some (b ∷ text) n e = by_first (cases_Bool (b == 10)) (λ m found. feed_some text m found)
  where
    same : (a c : ℕ) → Some a ≡ Some c → a ≡ c
    same a c g = cc

    later : (b == 10) ≡ false → (m : ℕ) → lines_in text ≡ take m text ∷ lines_in (drop (m + 1) text) → suc m ≡ n → lines_in (b ∷ text) ≡ take n (b ∷ text) ∷ lines_in (drop (n + 1) (b ∷ text))
    later other m rest next =
        slice_split-cons_no (λ c. c == 10) b text other
        ∙ ap (λ (lines : List (List ℕ)). onto_first b lines) rest
        ∙ ap (λ (k : ℕ). (b ∷ take m text) ∷ lines_in (drop k (b ∷ text))) (let more : suc (m + 1) ≡ suc m + 1 = omega arith in more)
        ∙ ap (λ (k : ℕ). take k (b ∷ text) ∷ lines_in (drop (k + 1) (b ∷ text))) next

    by_rest : (b == 10) ≡ false → ((m : ℕ) → feed_at text ≡ Some m → lines_in text ≡ take m text ∷ lines_in (drop (m + 1) text)) → (o : Option ℕ) → feed_at text ≡ o → option_map suc o ≡ Some n
        → lines_in (b ∷ text) ≡ take n (b ∷ text) ∷ lines_in (drop (n + 1) (b ∷ text))
    by_rest other rest None is g = absurd cc
    by_rest other rest (Some m) is g = later other m (rest m is) (same (suc m) n g)

    by_first : ((b == 10) ≡ true) ⊎ ((b == 10) ≡ false) → ((m : ℕ) → feed_at text ≡ Some m → lines_in text ≡ take m text ∷ lines_in (drop (m + 1) text))
        → lines_in (b ∷ text) ≡ take n (b ∷ text) ∷ lines_in (drop (n + 1) (b ∷ text))
    by_first (inl feed) rest =
        slice_split-cons_yes (λ c. c == 10) b text feed
        ∙ ap (λ (m : ℕ). take m (b ∷ text) ∷ lines_in (drop (m + 1) (b ∷ text))) (same 0 n (sym (cond-true (b == 10) (Some 0) (option_map suc (feed_at text)) feed) ∙ e))
    by_first (inr other) rest = by_rest other rest (feed_at text) refl (sym (cond-false (b == 10) (Some 0) (option_map suc (feed_at text)) other) ∙ e)

-- BEHIND SO MANY BYTES

-- what is found so far, and what is left
pub record WantingSoFar (transcript : List ℕ) (at : ℕ) (lines : BTreeSet ℕ) : Type 0 where
  pub within : at ≤ length transcript + 1
  pub sound : (line : ℕ) → line < 2 ^ 64 → has lines line ≡ true → Contains (lines_in transcript) (wanting_text line)
  pub left : (line : ℕ) → line < 2 ^ 64 → Contains (lines_in transcript) (wanting_text line)
      → (has lines line ≡ true) ⊎ ((at ≤ length transcript) × Contains (lines_in (drop at transcript)) (wanting_text line))
  pub inside : (text : List ℕ) → at ≤ length transcript → Contains (lines_in (drop at transcript)) text → Contains (lines_in transcript) text

no_true : (b : Bool) → b ≡ false → b ≡ true → ⊥
no_true b e g = absurd (let lie : false ≡ true = sym e ∙ g in cc)

pub wanting_none : (transcript : List ℕ) (lines : BTreeSet ℕ) → ((line : ℕ) → has lines line ≡ false) → WantingSoFar transcript 0 lines
wanting_none transcript lines none = record {
  within = omega arith;
  sound = λ line small is. absurd (no_true (has lines line) (none line) is);
  left = λ line small is. inr (omega arith, is);
  inside = λ text within is. is;
}

pub wanting_more : (transcript text : List ℕ) (at feed : ℕ) (before after : BTreeSet ℕ) → WantingSoFar transcript at before → at ≤ length transcript → text ≡ drop at transcript
    → feed_at text ≡ Some feed → feed < length text
    → WantsMore (take feed text) before after → WantingSoFar transcript (at + (feed + 1)) after
wanting_more transcript text at feed before after h here is found less adds =
    let long : length text ≡ length (drop at transcript) = ap (λ (xs : List ℕ). length xs) is in
    let within : at + (feed + 1) ≤ length transcript = omega (arith, here, less, long, length-drop at transcript) in
    let rest : drop (feed + 1) text ≡ drop (at + (feed + 1)) transcript = ap (λ (xs : List ℕ). drop (feed + 1) xs) is ∙ sym (drop_twice at (feed + 1) transcript) in
    let lines : lines_in (drop at transcript) ≡ take feed text ∷ lines_in (drop (at + (feed + 1)) transcript) =
    sym (ap (λ (xs : List ℕ). lines_in xs) is) ∙ feed_some text feed found ∙ ap (λ (xs : List ℕ). take feed text ∷ lines_in xs) rest in
    record {
      within = omega (arith, within);
      sound = λ line small is_in. elim ((adds line small).0 is_in) [
        | inl old ↦ h.sound line small old
        | inr told ↦ h.inside (wanting_text line) here (subst (λ (ls : List (List ℕ)). Contains ls (wanting_text line)) (sym lines) (zero, omega arith, told))
      ];
      left = λ line small is_in. elim (h.left line small is_in) [
        | inl old ↦ inl ((adds line small).1 (inl old))
        | inr later ↦ elim (first_or (take feed text) (lines_in (drop (at + (feed + 1)) transcript)) (wanting_text line)
            (subst (λ (ls : List (List ℕ)). Contains ls (wanting_text line)) lines later.1)) [
              | inl same ↦ inl ((adds line small).1 (inr same))
              | inr more ↦ inr (within, more)
            ]
      ];
      inside =
          λ other in_range is_in. h.inside other here (subst (λ (ls : List (List ℕ)). Contains ls other) (sym lines)
          (there (take feed text) (lines_in (drop (at + (feed + 1)) transcript)) other is_in));
    }

pub wanting_last : (transcript text : List ℕ) (at : ℕ) (before after : BTreeSet ℕ) → WantingSoFar transcript at before → at ≤ length transcript → text ≡ drop at transcript → feed_at text ≡ None
    → WantsMore text before after → AreWanting transcript after
wanting_last transcript text at before after h here is none adds = λ line small.
    let lines : lines_in (drop at transcript) ≡ text ∷ [] = sym (ap (λ (xs : List ℕ). lines_in xs) is) ∙ feed_none text none in (
      λ is_in. elim ((adds line small).0 is_in) [
        | inl old ↦ h.sound line small old
        | inr told ↦ h.inside (wanting_text line) here (subst (λ (ls : List (List ℕ)). Contains ls (wanting_text line)) (sym lines) (zero, omega arith, told))
      ],
      λ is_in. elim (h.left line small is_in) [
        | inl old ↦ (adds line small).1 (inl old)
        | inr later ↦ elim (first_or text [] (wanting_text line) (subst (λ (ls : List (List ℕ)). Contains ls (wanting_text line)) lines later.1)) [
          | inl same ↦ (adds line small).1 (inr same)
          | inr more ↦ absurd (omega (arith, more.1))
        ]
      ],
    )

pub wanting_done : (transcript : List ℕ) (at : ℕ) (lines : BTreeSet ℕ) → WantingSoFar transcript at lines → length transcript < at → AreWanting transcript lines
wanting_done transcript at lines h past = λ line small. (
  h.sound line small,
  λ is_in. elim (h.left line small is_in) [ inl found ↦ found | inr later ↦ absurd (omega (arith, past, later.0)) ],
)

-- ONE NUMBER MORE

pub wanting_empty : (lines : BTreeSet ℕ) → lines.keys ≡ [] → (line : ℕ) → has lines line ≡ false
wanting_empty lines e line = ap (λ (keys : List ℕ). list_any (is_at (nat_cmp line)) keys) e

is_equal : (o : Ordering) → is_eq o ≡ true → o ≡ Equal
is_equal Less e = absurd cc
is_equal Equal e = refl
is_equal Greater e = absurd cc

at_itself : (n : ℕ) → is_at (nat_cmp n) n ≡ true
at_itself n = ap (λ (o : Ordering). is_eq o) (sym (nat_cmp_is n n Equal refl))

pub one_wants : (text : List ℕ) (n : ℕ) (before after : BTreeSet ℕ) → n < 2 ^ 64 → text ≡ wanting_text n → ((q : ℕ) → has after q ≡ cond (is_at (nat_cmp n) q) true (has before q))
    → WantsMore text before after
one_wants text n before after fits is updates = λ line small. elim (cases_Bool (is_at (nat_cmp n) line)) [
  | inl here ↦
      let same : n ≡ line = exact_unsigned n line (is_equal (nat_cmp n line) here) in (
        λ any. inr (is ∙ ap (λ (m : ℕ). wanting_text m) same),
        λ any. updates line ∙ ap (λ (b : Bool). cond b true (has before line)) here,
      )
  | inr other ↦
      let kept : has after line ≡ has before line = updates line ∙ ap (λ (b : Bool). cond b true (has before line)) other in (
        λ found. inl (sym kept ∙ found),
        λ told. elim told [
          | inl old ↦ kept ∙ old
          | inr told_too ↦
              let same : n ≡ line = same_text n line fits small (sym is ∙ told_too) in
              absurd (no_true (is_at (nat_cmp n) line) other (ap (λ (m : ℕ). is_at (nat_cmp n) m) (sym same) ∙ at_itself n))
        ],
      )
]

pub none_wants : (text : List ℕ) (lines : BTreeSet ℕ) → ((n : ℕ) → n < 2 ^ 64 → text ≢ wanting_text n) → WantsMore text lines lines
none_wants text lines none = λ line small. (
  λ found. inl found,
  λ told. elim told [ inl old ↦ old | inr told_too ↦ absurd (none line small told_too) ],
)
