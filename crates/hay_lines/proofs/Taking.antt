-- One piece of a script after another, up to a whole line.
use Rattle.std.proofs.Common.{◌≡◌, ◌≢◌, ◌⊎◌, inl, inr, ◌==◌, ◌&&◌, ℕ, zero, suc, ◌+◌, ◌<◌, ◌≤◌, Bool, true, false, if◌then◌else◌, List, [], ◌∷◌, ◌++◌, length, get_or}
use Rattle.std.proofs.Common.{Option, Some, None, refl, sym, ap, subst, ◌∙◌, append_assoc, length-append, arith, fold, filter}
use Rattle.std.specs.Prelude.{slice_index_or, slice_set, take, drop, ◌-◌, slice_range}
use Rattle.std.specs.List.{onto_first, slice_split}
use Rattle.std.proofs.lemmas.Grind.{common_steps}
use Rattle.std.proofs.lemmas.List.{append-nil, drop-drop, drop-take, drop_all, length-drop, length-take, take-append-drop}
use Rattle.memchr.specs.Find.{IsFirstByte, is_byte}
use Rattle.std.proofs.lemmas.List.Sums.{fold-append}
use Rattle.std.proofs.lemmas.Bool.Decides.{nat_tests}
use Rattle.hay_disk.specs.Streams.{Took}
use Rattle.hay_script.specs.declared.words.TheConstants.{MAX_LINE}
use Rattle.hay_script.specs.Script.{seen_byte, words_of, is_blank, is_word, is_skipped}
use Rattle.hay_lines.specs.declared.start.LineRead.{LineRead}
use Rattle.hay_lines.specs.declared.start.LineRead.TheVariants.{Line, End}
use Rattle.hay_lines.specs.declared.start.LineStart.{LineStart}
use Rattle.hay_lines.specs.declared.start.LineStart.TheVariants.{Blank, BlankReturn, Comment, Words}
use Rattle.hay_lines.specs.Stream.{Held, rest_of, budget, Accounts, IsTooLong, TookAll}
use Rattle.hay_lines.specs.Lines.{NoFeed, fed_text, Keeps, TookFed, TookLast, TookLine, ReadsLine, TookFeds, TookToEnd, start_behind, long_fed, long_last}

-- WHAT A LONG LINE SAYS

abbrev pub start_of : List ℕ → LineStart
start_of bytes = fold start_behind Blank bytes

abbrev silent_fed : LineStart → Bool
silent_fed Words = false
silent_fed _ = true

abbrev silent_last : LineStart → Bool
silent_last Blank = true
silent_last Comment = true
silent_last _ = false

fold_words : (bytes : List ℕ) → fold start_behind Words bytes ≡ Words
fold_words [] = refl
fold_words (b ∷ bytes) = fold_words bytes

fold_comment : (bytes : List ℕ) → fold start_behind Comment bytes ≡ Comment
fold_comment [] = refl
fold_comment (b ∷ bytes) = fold_comment bytes

words-blank : (b : ℕ) (bytes : List ℕ) → is_blank b ≡ true → words_of (b ∷ bytes) ≡ words_of bytes
words-blank b bytes h = rw h refl

same_sign : (b : ℕ) → ((35 == b) && true) ≡ (b == 35)
same_sign b = grind (arith, nat_tests)

is_word-cons : (b : ℕ) (part : List ℕ) → is_word (b ∷ part) ≡ true
is_word-cons b part = grind (arith, nat_tests)

skipped_by : (b : ℕ) (parts : List (List ℕ)) → is_skipped (filter is_word (onto_first b parts)) ≡ (b == 35)
skipped_by b [] = same_sign b
skipped_by b (part ∷ parts) = rw (is_word-cons b part) (same_sign b)

skipped-other : (b : ℕ) (bytes : List ℕ) → is_blank b ≡ false → is_skipped (words_of (b ∷ bytes)) ≡ (b == 35)
skipped-other b bytes h = rw h (skipped_by b (slice_split is_blank bytes))

-- the first byte of a line, by what it begins
data FirstByte (b : ℕ) : Type 0 where
  blank : is_blank b ≡ true → b ≢ 13 → start_behind Blank b ≡ Blank → FirstByte b
  return : b ≡ 13 → FirstByte b
  sign : is_blank b ≡ false → b ≢ 13 → b ≡ 35 → start_behind Blank b ≡ Comment → FirstByte b
  other : is_blank b ≡ false → b ≢ 13 → (b == 35) ≡ false → start_behind Blank b ≡ Words → FirstByte b

first_by : (b : ℕ) (r s t : Bool) → is_blank b ≡ r → (b == 13) ≡ s → (b == 35) ≡ t → FirstByte b
first_by b true s t e f g = blank e (λ same. let no : is_blank b ≡ false = rw same refl in cc) (rw e refl)
first_by b false true t e f g = return (grind (arith, nat_tests, f))
first_by b false false true e f g = sign e (grind (arith, nat_tests, f)) (grind (arith, nat_tests, g)) (rw (e, f, g) refl)
first_by b false false false e f g = other e (grind (arith, nat_tests, f)) g (rw (e, f, g) refl)

first_byte : (b : ℕ) → FirstByte b
first_byte b = first_by b (is_blank b) (b == 13) (b == 35) refl refl refl

says_last_by : (b : ℕ) (bytes : List ℕ) → FirstByte b → is_skipped (words_of bytes) ≡ silent_last (start_of bytes) → is_skipped (words_of (b ∷ bytes)) ≡ silent_last (start_of (b ∷ bytes))
says_last_by b bytes (blank e n f) h = ap (λ (words : List (List ℕ)). is_skipped words) (words-blank b bytes e) ∙ h ∙ ap (λ (start : LineStart). silent_last (fold start_behind start bytes)) (sym f)
says_last_by b [] (return e) h = rw e refl
says_last_by b (c ∷ bytes) (return e) h = rw e (skipped-other 13 (c ∷ bytes) refl ∙ ap silent_last (sym (fold_words bytes)))
says_last_by b bytes (sign e n g f) h =
    skipped-other b bytes e ∙ rw g refl ∙ ap silent_last (sym (ap (λ (start : LineStart). fold start_behind start bytes) f ∙ fold_comment bytes))
says_last_by b bytes (other e n g f) h =
    skipped-other b bytes e ∙ g ∙ ap silent_last (sym (ap (λ (start : LineStart). fold start_behind start bytes) f ∙ fold_words bytes))

says_last : (bytes : List ℕ) → is_skipped (words_of bytes) ≡ silent_last (start_of bytes)
says_last [] = refl
says_last (b ∷ bytes) = says_last_by b bytes (first_byte b) (says_last bytes)

seen-other : (b : ℕ) (rest : List ℕ) → b ≢ 13 → seen_byte b rest ≡ b
seen-other b rest n = grind (arith, nat_tests)

pub seen-inner : (b c : ℕ) (rest : List ℕ) → c ≢ 10 → seen_byte b (c ∷ rest) ≡ b
seen-inner b c rest n = grind (arith, nat_tests)

says_fed_by : (b : ℕ) (bytes : List ℕ) → FirstByte b → NoFeed bytes → is_skipped (words_of (fed_text bytes)) ≡ silent_fed (start_of bytes)
    → is_skipped (words_of (fed_text (b ∷ bytes))) ≡ silent_fed (start_of (b ∷ bytes))
says_fed_by b bytes (blank e n f) free h =
    ap (λ (c : ℕ). is_skipped (words_of (c ∷ fed_text bytes))) (seen-other b (bytes ++ 10 ∷ []) n)
    ∙ ap (λ (words : List (List ℕ)). is_skipped words) (words-blank b (fed_text bytes) e) ∙ h
    ∙ ap (λ (start : LineStart). silent_fed (fold start_behind start bytes)) (sym f)
says_fed_by b [] (return e) free h = rw e refl
says_fed_by b (c ∷ bytes) (return e) free h =
    ap (λ (d : ℕ). is_skipped (words_of (d ∷ fed_text (c ∷ bytes)))) (seen-inner b c (bytes ++ 10 ∷ []) free.0)
    ∙ rw e (skipped-other 13 (fed_text (c ∷ bytes)) refl ∙ ap silent_fed (sym (fold_words bytes)))
says_fed_by b bytes (sign e n g f) free h =
    ap (λ (c : ℕ). is_skipped (words_of (c ∷ fed_text bytes))) (seen-other b (bytes ++ 10 ∷ []) n)
    ∙ skipped-other b (fed_text bytes) e ∙ rw g refl ∙ ap silent_fed (sym (ap (λ (start : LineStart). fold start_behind start bytes) f ∙ fold_comment bytes))
says_fed_by b bytes (other e n g f) free h =
    ap (λ (c : ℕ). is_skipped (words_of (c ∷ fed_text bytes))) (seen-other b (bytes ++ 10 ∷ []) n)
    ∙ skipped-other b (fed_text bytes) e ∙ g ∙ ap silent_fed (sym (ap (λ (start : LineStart). fold start_behind start bytes) f ∙ fold_words bytes))

says_fed : (bytes : List ℕ) → NoFeed bytes → is_skipped (words_of (fed_text bytes)) ≡ silent_fed (start_of bytes)
says_fed [] free = refl
says_fed (b ∷ bytes) free = says_fed_by b bytes (first_byte b) free.1 (says_fed bytes free.1)

-- THE TEXT OF A LINE THAT A FEED ENDS

pub fed_text-return : (xs : List ℕ) (n : ℕ) → NoFeed xs → length xs ≡ n + 1 → slice_index_or xs n 0 ≡ 13 → slice_set xs n 32 ≡ fed_text xs
fed_text-return [] n free e h = absurd (omega (arith, e))
fed_text-return (b ∷ []) zero free e h = rw h refl
fed_text-return (b ∷ []) (suc n) free e h = absurd (omega (arith, e))
fed_text-return (b ∷ c ∷ xs) zero free e h = absurd (omega (arith, e))
fed_text-return (b ∷ c ∷ xs) (suc n) free e h =
    ap (λ (d : ℕ). d ∷ slice_set (c ∷ xs) n 32) (sym (seen-inner b c (xs ++ 10 ∷ []) free.1.0))
    ∙ ap (λ (bytes : List ℕ). seen_byte b ((c ∷ xs) ++ 10 ∷ []) ∷ bytes) (fed_text-return (c ∷ xs) n free.1 (omega (arith, e)) h)

pub fed_text-other : (xs : List ℕ) (n : ℕ) → NoFeed xs → length xs ≡ n + 1 → slice_index_or xs n 0 ≢ 13 → xs ≡ fed_text xs
fed_text-other [] n free e h = absurd (omega (arith, e))
fed_text-other (b ∷ []) zero free e h = ap (λ (d : ℕ). d ∷ []) (sym (seen-other b (10 ∷ []) h))
fed_text-other (b ∷ []) (suc n) free e h = absurd (omega (arith, e))
fed_text-other (b ∷ c ∷ xs) zero free e h = absurd (omega (arith, e))
fed_text-other (b ∷ c ∷ xs) (suc n) free e h =
    ap (λ (d : ℕ). d ∷ c ∷ xs) (sym (seen-inner b c (xs ++ 10 ∷ []) free.1.0))
    ∙ ap (λ (bytes : List ℕ). seen_byte b ((c ∷ xs) ++ 10 ∷ []) ∷ bytes) (fed_text-other (c ∷ xs) n free.1 (omega (arith, e)) h)

length-fed_text : (xs : List ℕ) → length (fed_text xs) ≡ length xs
length-fed_text [] = refl
length-fed_text (b ∷ xs) = ap suc (length-fed_text xs)

-- PIECES

pub took_more : (before mid after : Option (List ℕ)) (given next : List ℕ) → Took before given mid → Took mid next after → Took before (given ++ next) after
took_more None mid after given next h k = tt
took_more (Some all) None after given next h k = cc
took_more (Some all) (Some rest) after given next h k =
    let same : rest ≡ h.0 = cc in
    (k.0, k.1, h.2 ∙ ap (λ (bytes : List ℕ). given ++ bytes) (sym same ∙ k.2) ∙ sym (append_assoc given next k.0))

pub took_all : (before mid after : Option (List ℕ)) (given : List ℕ) → Took before given mid → TookAll mid [] after → TookAll before given after
took_all None mid after given h k = tt
took_all (Some all) None after given h k = cc
took_all (Some all) (Some rest) after given h k =
    let same : rest ≡ h.0 = cc in
    (h.2 ∙ ap (λ (bytes : List ℕ). given ++ bytes) (sym same ∙ k.0) ∙ append-nil given, k.1)

-- behind nothing
pub took_all_of : (before mid after : Option (List ℕ)) (given : List ℕ) → Took before [] mid → TookAll mid given after → TookAll before given after
took_all_of None mid after given h k = tt
took_all_of (Some all) None after given h k = cc
took_all_of (Some all) (Some rest) after given h k = let same : rest ≡ h.0 = cc in (h.2 ∙ sym same ∙ k.0, k.1)

pub took_nothing : (left : Option (List ℕ)) → Took left [] left
took_nothing None = tt
took_nothing (Some all) = (all, refl, refl)

-- and nothing more
pub took_held : (before mid after : Option (List ℕ)) (given : List ℕ) → Took before given mid → Took mid [] after → Took before given after
took_held before mid after given h k = subst (λ (bytes : List ℕ). Took before bytes after) (append-nil given) (took_more before mid after given [] h k)

-- a front of what is held is given out
pub took_front : (left : Option (List ℕ)) (held held' : Held) (front : List ℕ) → held.bytes ≡ front ++ held'.bytes → Took (rest_of left held) front (rest_of left held')
took_front None held held' front e = tt
took_front (Some all) held held' front e =
    (held'.bytes ++ all, refl, ap (λ (bytes : List ℕ). bytes ++ all) e ∙ append_assoc front held'.bytes all)

-- bytes are given out up to a line feed that is held, and the line feed
pub took_feed : (left before mid : Option (List ℕ)) (held held' : Held) (given span : List ℕ) → Took before given mid → Took mid [] (rest_of left held) → held.bytes ≡ span ++ 10 ∷ held'.bytes
    → (between : Option (List ℕ)) × Took before (given ++ span) between × Took between (10 ∷ []) (rest_of left held')
took_feed left before mid held held' given span first none e =
    let fed : Held = record { bytes = 10 ∷ held'.bytes; taken = held.taken; ended = held.ended } in (
      rest_of left fed,
      took_more before (rest_of left held) (rest_of left fed) given span (took_held before mid (rest_of left held) given first none) (took_front left held fed span e),
      took_front left fed held' (10 ∷ []) refl,
    )

-- all that is held is given out
pub took_whole : (left before mid : Option (List ℕ)) (held held' : Held) (given span : List ℕ) → Took before given mid → Took mid [] (rest_of left held)
    → span ≡ held.bytes → held'.bytes ≡ drop (length span) held.bytes → Took before (given ++ span) (rest_of left held')
took_whole left before mid held held' given span first none whole passed =
    let gone = drop_all (length held.bytes) held.bytes (omega arith) in
    let cut : held.bytes ≡ span ++ drop (length span) held.bytes = rw whole (sym (ap (λ (l : List ℕ). held.bytes ++ l) gone ∙ append-nil held.bytes)) in
    took_more before (rest_of left held) (rest_of left held') given span (took_held before mid (rest_of left held) given first none)
    (took_front left held held' span (cut ∙ ap (λ (l : List ℕ). span ++ l) (sym passed)))

pub took_nothing_more : (before mid : Option (List ℕ)) (given span : List ℕ) → Took before given mid → span ≡ [] → Took before (given ++ span) mid
took_nothing_more before mid given span first none = rw (none, append-nil given) first

pub some_fed : (bytes span rest : List ℕ) → bytes ≡ span ++ 10 ∷ rest → bytes ≢ []
some_fed bytes span rest e none = absurd (omega (arith, ap length e, ap length none, length-append span (10 ∷ rest)))

pub NoFeed-append : (bytes more : List ℕ) → NoFeed bytes → NoFeed more → NoFeed (bytes ++ more)
NoFeed-append [] more h k = k
NoFeed-append (c ∷ bytes) more h k = (h.0, NoFeed-append bytes more h.1 k)

pub accounts_more : (left mid after : Option (List ℕ)) (a b c : Held) → Accounts left a mid b → Accounts mid b after c → Accounts left a after c
accounts_more None mid after a b c h k = tt
accounts_more (Some all) None after a b c h k = cc
accounts_more (Some all) (Some rest) after a b c h k =
    let same : rest ≡ h.0 = cc in
    (k.0, k.1, omega (arith, h.2, k.2, ap length same))

pub accounts_passed : (left after : Option (List ℕ)) (a b b' : Held) → Accounts left a after b → b'.taken ≡ b.taken → Accounts left a after b'
accounts_passed None after a b b' h e = tt
accounts_passed (Some all) after a b b' h e = (h.0, h.1, omega (arith, h.2, e))

pub accounts_same : (left : Option (List ℕ)) (a : Held) → Accounts left a left a
accounts_same None a = tt
accounts_same (Some all) a = (all, refl, refl)

pub long_before : (limit : ℕ) (left mid after : Option (List ℕ)) (a b : Held) → Accounts left a mid b → IsTooLong limit mid b after → IsTooLong limit left a after
long_before limit None mid after a b h k = tt
long_before limit (Some all) None after a b h k = cc
long_before limit (Some all) (Some rest) after a b h k =
    let same : rest ≡ h.0 = cc in (k.0, k.1, omega (arith, h.2, k.2, ap length same))

-- no byte is found to be a line feed

no_feed_by : (bytes : List ℕ) → ((k : ℕ) → k < length bytes → get_or bytes k 0 ≢ 10) → NoFeed bytes
no_feed_by [] none = tt
no_feed_by (b ∷ bytes) none = (none 0 (omega arith), no_feed_by bytes (λ k within. none (suc k) (omega arith)))

pub none_found : (bytes : List ℕ) → IsFirstByte (is_byte 10) bytes None → NoFeed bytes
none_found bytes h = no_feed_by bytes (λ k within same. h k (omega arith) within (rw same refl))

in_front : (bytes : List ℕ) (at k : ℕ) → k < at → get_or (take at bytes) k 0 ≡ get_or bytes k 0
in_front bytes at k within = grind (arith, common_steps)

pub none_before : (bytes : List ℕ) (at : ℕ) → IsFirstByte (is_byte 10) bytes (Some at) → NoFeed (take at bytes)
none_before bytes at h = no_feed_by (take at bytes) (λ k within same.
    let front : k < at = omega (arith, length-take at bytes, within) in
    h.0.before k (omega arith) front (rw (← in_front bytes at k front) (rw same refl)))

-- of what is held, a front is given out
pub range_later : (xs : List ℕ) (from to n : ℕ) → from ≤ to → n ≤ length (slice_range xs from to) → slice_range xs (from + n) to ≡ drop n (slice_range xs from to)
range_later xs from to n ordered few =
    let short : n ≤ to - from = omega (arith, length-take (to - from) (drop from xs), few) in
    let sum : n + (to - (from + n)) ≡ to - from = omega arith in
    ap (λ (bytes : List ℕ). take (to - (from + n)) bytes) (sym (drop-drop n from xs)) ∙ sym (drop-take n (to - (from + n)) (drop from xs))
    ∙ ap (λ (k : ℕ). drop n (take k (drop from xs))) sum

-- how a line begins, once that is settled

fold_settled : (start : LineStart) (bytes : List ℕ) → (start ≡ Comment) ⊎ (start ≡ Words) → fold start_behind start bytes ≡ start
fold_settled start bytes (inl is) = rw is (fold_comment bytes)
fold_settled start bytes (inr is) = rw is (fold_words bytes)

pub settled : (start self : LineStart) (span : List ℕ) (i : ℕ) → start ≡ fold start_behind self (take i span) → (start ≡ Comment) ⊎ (start ≡ Words) → start ≡ fold start_behind self span
settled start self span i e is =
    let whole = ap (λ (bytes : List ℕ). fold start_behind self bytes) (sym (take-append-drop i span)) ∙ fold-append start_behind self (take i span) (drop i span) in
    sym (whole ∙ ap (λ (s : LineStart). fold start_behind s (drop i span)) (sym e) ∙ fold_settled start (drop i span) is)

-- no more is left once bytes were given out
pub budget_passed : (limit n : ℕ) (held held' : Held) → held'.bytes ≡ drop n held.bytes → held'.taken ≡ held.taken → held'.ended ≡ held.ended → budget limit held' ≤ budget limit held
budget_passed limit n held held' bytes taken ended = rw (bytes, taken, ended) (omega (arith, length-drop n held.bytes))

-- WHAT IS KEPT OF A LINE

pub kept_free : (kept given : List ℕ) → Keeps false kept given → NoFeed given → NoFeed kept
kept_free kept given keeps free = subst NoFeed (sym keeps.0) free

pub start_of-append : (given span : List ℕ) (start : LineStart) → start ≡ start_of given → fold start_behind start span ≡ start_of (given ++ span)
start_of-append given span start e = ap (λ (s : LineStart). fold start_behind s span) e ∙ sym (fold-append start_behind Blank given span)

long_fed_reads : (start : LineStart) (kept text : List ℕ) (before after : Option (List ℕ)) (ended : Bool)
    → TookLine before text after ended → MAX_LINE < length text → is_skipped (words_of text) ≡ silent_fed start → ReadsLine (long_fed start) kept before after ended
long_fed_reads Blank kept text before after ended took long says = (text, took, (long, says))
long_fed_reads BlankReturn kept text before after ended took long says = (text, took, (long, says))
long_fed_reads Comment kept text before after ended took long says = (text, took, (long, says))
long_fed_reads Words kept text before after ended took long says = (text, took, (long, says))

long_last_reads : (start : LineStart) (kept text : List ℕ) (before after : Option (List ℕ)) (ended : Bool)
    → TookLine before text after ended → MAX_LINE < length text → is_skipped (words_of text) ≡ silent_last start → ReadsLine (long_last start) kept before after ended
long_last_reads Blank kept text before after ended took long says = (text, took, (long, says))
long_last_reads BlankReturn kept text before after ended took long says = (text, took, (long, says))
long_last_reads Comment kept text before after ended took long says = (text, took, (long, says))
long_last_reads Words kept text before after ended took long says = (text, took, (long, says))

-- a line feed came behind these bytes
pub reads_fed : (long : Bool) (start : LineStart) (items kept given : List ℕ) (before mid after : Option (List ℕ)) (ended : Bool)
    → Keeps long items given → NoFeed given → start ≡ start_of given → (long ≡ false → kept ≡ fed_text items)
    → Took before given mid → Took mid (10 ∷ []) after → ended ≡ false
    → ReadsLine (if long then long_fed start else Line) kept before after ended
reads_fed false start items kept given before mid after ended keeps free starts text first last unmet = (
  fed_text given,
  inl (record { bytes = given; free = free; text_is = refl; took = took_more before mid after given (10 ∷ []) first last }, unmet),
  (text refl ∙ ap fed_text keeps.0, omega (arith, length-fed_text given, keeps.1, ap length keeps.0)),
)
reads_fed true start items kept given before mid after ended keeps free starts text first last unmet =
    long_fed_reads start kept (fed_text given) before after ended
    (inl (record { bytes = given; free = free; text_is = refl; took = took_more before mid after given (10 ∷ []) first last }, unmet))
    (omega (arith, length-fed_text given, keeps))
    (says_fed given free ∙ ap silent_fed (sym starts))

-- the script ends behind these bytes
reads_rest : (start : LineStart) (items given : List ℕ) (before mid after : Option (List ℕ)) (ended : Bool) (read : LineRead)
    → Keeps false items given → NoFeed given → Took before given mid → TookAll mid [] after → ended ≡ true
    → (items ≡ [] → read ≡ End) → (items ≢ [] → read ≡ Line)
    → ReadsLine read items before after ended
reads_rest start [] given before mid after ended read keeps free first last over none some =
    let P : List ℕ → Type 0 = λ bytes. TookAll before bytes after in
    rw (none refl) (subst P (sym keeps.0) (took_all before mid after given first last), over)
reads_rest start (b ∷ items) given before mid after ended read keeps free first last over none some =
    rw (some (λ same. cc)) (
      given,
      inr (record { free = free; some = omega (arith, ap length keeps.0); all = took_all before mid after given first last }, over),
      (keeps.0, omega (arith, keeps.1, ap length keeps.0)),
    )

pub reads_last : (long : Bool) (start : LineStart) (items given : List ℕ) (before mid after : Option (List ℕ)) (ended : Bool) (read : LineRead)
    → Keeps long items given → NoFeed given → start ≡ start_of given
    → Took before given mid → TookAll mid [] after → ended ≡ true
    → (long ≡ true → read ≡ long_last start) → (long ≡ false → items ≡ [] → read ≡ End) → (long ≡ false → items ≢ [] → read ≡ Line)
    → ReadsLine read items before after ended
reads_last false start items given before mid after ended read keeps free starts first last over tail none some =
    reads_rest start items given before mid after ended read keeps free first last over (none refl) (some refl)
reads_last true start items given before mid after ended read keeps free starts first last over tail none some =
    rw (tail refl)
    (long_last_reads start items given before after ended
    (inr (record { free = free; some = omega (arith, keeps); all = took_all before mid after given first last }, over))
    keeps (says_last given ∙ ap silent_last (sym starts)))

-- WHOLE LINES

pub took_fed_more : (texts : List (List ℕ)) (before mid after : Option (List ℕ)) (text : List ℕ) → TookFeds before texts mid → TookFed mid text after → TookFeds before (texts ++ text ∷ []) after
took_fed_more [] before mid after text h k =
    (after, record { bytes = k.bytes; free = k.free; text_is = k.text_is; took = took_more before mid after [] (k.bytes ++ 10 ∷ []) h k.took }, took_nothing after)
took_fed_more (first ∷ texts) before mid after text h k = (h.0, h.1, took_fed_more texts h.0 mid after text h.2 k)

pub took_last_more : (texts : List (List ℕ)) (before mid after : Option (List ℕ)) (text : List ℕ) → TookFeds before texts mid → TookLast mid text after → TookToEnd before (texts ++ text ∷ []) after
took_last_more [] before mid after text h k = inl (record { free = k.free; some = k.some; all = took_all_of before mid after text h k.all }, refl)
took_last_more (first ∷ texts) before mid after text h k = inr (h.0, h.1, took_last_more texts h.0 mid after text h.2 k)

pub took_end : (texts : List (List ℕ)) (before mid after : Option (List ℕ)) → TookFeds before texts mid → TookAll mid [] after → TookToEnd before texts after
took_end [] before mid after h k = took_all before mid after [] h k
took_end (first ∷ texts) before mid after h k = inr (h.0, h.1, took_end texts h.0 mid after h.2 k)

-- lines behind lines

first_of : (before mid after : Option (List ℕ)) (text : List ℕ) → Took before [] mid → TookFed mid text after → TookFed before text after
first_of before mid after text h k = record { bytes = k.bytes; free = k.free; text_is = k.text_is; took = took_more before mid after [] (k.bytes ++ 10 ∷ []) h k.took }

pub feeds_append : (texts more : List (List ℕ)) (before mid after : Option (List ℕ)) → TookFeds before texts mid → TookFeds mid more after → TookFeds before (texts ++ more) after
feeds_append [] [] before mid after h k = took_more before mid after [] [] h k
feeds_append [] (text ∷ more) before mid after h k = (k.0, first_of before mid k.0 text h k.1, k.2)
feeds_append (first ∷ texts) more before mid after h k = (h.0, h.1, feeds_append texts more h.0 mid after h.2 k)

pub feeds_end : (texts more : List (List ℕ)) (before mid after : Option (List ℕ)) → TookFeds before texts mid → TookToEnd mid more after → TookToEnd before (texts ++ more) after
feeds_end [] [] before mid after h k = took_all before mid after [] h k
feeds_end [] (text ∷ more) before mid after h (inl w) = inl (record { free = w.0.free; some = w.0.some; all = took_all_of before mid after text h w.0.all }, w.1)
feeds_end [] (text ∷ more) before mid after h (inr w) = inr (w.0, first_of before mid w.0 text h w.1, w.2)
feeds_end (first ∷ texts) more before mid after h k = inr (h.0, h.1, feeds_end texts more h.0 mid after h.2 k)
