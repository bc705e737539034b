-- What is counted of the lines of a transcript: a line is cut at one place, and its text tells what it adds.
use Rattle.std.specs.Prelude.{if◌then◌else◌, flat_map, position, drop, take, Result, OnOk}
use Rattle.std.specs.List.{position_from}
use Rattle.std.specs.Char.{is_ascii_digit}
use Rattle.std.specs.List.{list_all, AllByRecursion}
use Rattle.std.proofs.Common.{◌≡◌, ◌⊎◌, inl, inr, ℕ, zero, suc, ◌+◌, ◌-◌, ◌/◌, ◌%◌, ◌<◌, ◌≤◌, ◌==◌, ◌&&◌, ◌||◌, not, nat_lt, nat_le, Bool, true, false, List, [], ◌∷◌, ◌++◌}
use Rattle.std.proofs.Common.{length, Option, Some, None, refl, sym, ap, subst, ◌∙◌, append_assoc, append-nil, arith, decimal, codes}
use Rattle.std.proofs.lemmas.Bool.{and_parts, eqb-true}
use Rattle.std.proofs.lemmas.List.{length-drop}
use Rattle.std.proofs.Math.Seq.{take-length}
use Rattle.std.proofs.lemmas.Iterator.Adapters.{position_from-zero}
use Rattle.std.proofs.lemmas.List.Folds.{list_all-append}
use Rattle.std.proofs.lemmas.Bool.Decides.{nat_tests}
use Rattle.std.specs.Fmt.{digit_glyph, digits, digits_onto}
use Rattle.hay_reply.specs.declared.Note.{Note}
use Rattle.hay_reply.specs.declared.Note.TheVariants as note
use Rattle.hay_reply.specs.declared.Reply.{Reply}
use Rattle.hay_reply.specs.declared.Reply.TheVariants as reply
use Rattle.hay_reply.specs.Fits.{FitsReply}
use Rattle.hay_reply.specs.Reading.{is_mark, reply_of, words_of}
use Rattle.hay_reply.specs.declared.LineVolume.{LineVolume}
use Rattle.hay_reply.specs.Replies.{colon, field, note_text, place, reply_text, row_text}
use Rattle.hay_reply.proofs.Back.{back_reply}
use Rattle.hay_audit_steps.proofs.Feeds.{Fine, cut_once, fine_reply, on}
use Rattle.hay_drill.specs.declared.summary.Summary.{Summary}
use Rattle.hay_drill.specs.Summary.{nothing, of_note, of_reply, one_other, plus}
use Rattle.hay_drill.proofs.Summing.{plus-nothing}
use Rattle.hay_run.specs.declared.drill.Tally.{Tally}
use Rattle.hay_run.specs.Told.{FitsTold, IsMeasured, Told, counted, counted_all, is_other, no_tally, rows_told, told_line}
use Rattle.hay_run.specs.Told.Told.{Replied, Noted}

-- WHAT A REPLY'S TEXT TELLS

-- by the first and third byte of its first word
abbrev pub tag : List ℕ → ℕ
tag [] = 0
tag (a ∷ []) = 0
tag (a ∷ b ∷ []) = 0
tag (a ∷ b ∷ c ∷ rest) =
    if a == 112 then 3 else if a == 103 then 4 else if a == 99 then 6
    else if (a == 115) && (c == 111) then 1 else if (a == 100) && (c == 108) then 2 else if (a == 102) && (c == 117) then 5
    else if (a == 114) && (c == 115) then 7 else 0

abbrev pub by_tag : ℕ → Summary
by_tag n =
    if n == 1 then record nothing { stored = 1 } else if n == 2 then record nothing { deleted = 1 } else if n == 4 then record nothing { gone = 1 }
    else if n == 5 then record nothing { flushed = 1 } else if n == 6 then record nothing { compacted = 1 } else one_other

abbrev pub is_measured : ℕ → Bool
is_measured n = (n == 3) || (n == 7)

measured_or : (r : Reply) → IsMeasured r ⊎ (IsMeasured r → ⊥)
measured_or (reply.Photo v m p d photo) = inl tt
measured_or (reply.Restarted d) = inl tt
measured_or (reply.Stored v p d c) = inr (λ plain. plain)
measured_or (reply.Deleted v p d) = inr (λ plain. plain)
measured_or (reply.Gone v m p d) = inr (λ plain. plain)
measured_or (reply.Absent v p d) = inr (λ plain. plain)
measured_or (reply.WrongCookie v m p d) = inr (λ plain. plain)
measured_or (reply.Unknown d) = inr (λ plain. plain)
measured_or (reply.Moved v d) = inr (λ plain. plain)
measured_or (reply.Url d url) = inr (λ plain. plain)
measured_or (reply.Full tries) = inr (λ plain. plain)
measured_or (reply.ReadOnly tries) = inr (λ plain. plain)
measured_or reply.ReadOnlyDir = inr (λ plain. plain)
measured_or (reply.Failed v m n) = inr (λ plain. plain)
measured_or (reply.FailedDir n) = inr (λ plain. plain)
measured_or (reply.Unreadable v p d causes) = inr (λ plain. plain)
measured_or (reply.Damaged v m n) = inr (λ plain. plain)
measured_or (reply.Flushed v m n) = inr (λ plain. plain)
measured_or (reply.Begun v m n) = inr (λ plain. plain)
measured_or (reply.Stepped v m n) = inr (λ plain. plain)
measured_or (reply.Compacted v m n) = inr (λ plain. plain)
measured_or (reply.Busy v m n) = inr (λ plain. plain)
measured_or (reply.Idle v m) = inr (λ plain. plain)
measured_or (reply.Worn v m) = inr (λ plain. plain)
measured_or (reply.Drained m) = inr (λ plain. plain)
measured_or (reply.Undrained m) = inr (λ plain. plain)
measured_or (reply.Fused v m n) = inr (λ plain. plain)
measured_or (reply.FusedDir n) = inr (λ plain. plain)
measured_or reply.Nowhere = inr (λ plain. plain)
measured_or reply.BadLine = inr (λ plain. plain)
measured_or reply.NoMem = inr (λ plain. plain)

measured_tag : (r : Reply) → IsMeasured r → is_measured (tag (reply_text r)) ≡ true
measured_tag (reply.Photo v m p d photo) is = refl
measured_tag (reply.Restarted d) is = refl
measured_tag (reply.Stored v p d c) is = absurd is
measured_tag (reply.Deleted v p d) is = absurd is
measured_tag (reply.Gone v m p d) is = absurd is
measured_tag (reply.Absent v p d) is = absurd is
measured_tag (reply.WrongCookie v m p d) is = absurd is
measured_tag (reply.Unknown d) is = absurd is
measured_tag (reply.Moved v d) is = absurd is
measured_tag (reply.Url d url) is = absurd is
measured_tag (reply.Full tries) is = absurd is
measured_tag (reply.ReadOnly tries) is = absurd is
measured_tag reply.ReadOnlyDir is = absurd is
measured_tag (reply.Failed v m n) is = absurd is
measured_tag (reply.FailedDir n) is = absurd is
measured_tag (reply.Unreadable v p d causes) is = absurd is
measured_tag (reply.Damaged v m n) is = absurd is
measured_tag (reply.Flushed v m n) is = absurd is
measured_tag (reply.Begun v m n) is = absurd is
measured_tag (reply.Stepped v m n) is = absurd is
measured_tag (reply.Compacted v m n) is = absurd is
measured_tag (reply.Busy v m n) is = absurd is
measured_tag (reply.Idle v m) is = absurd is
measured_tag (reply.Worn v m) is = absurd is
measured_tag (reply.Drained m) is = absurd is
measured_tag (reply.Undrained m) is = absurd is
measured_tag (reply.Fused v m n) is = absurd is
measured_tag (reply.FusedDir n) is = absurd is
measured_tag reply.Nowhere is = absurd is
measured_tag reply.BadLine is = absurd is
measured_tag reply.NoMem is = absurd is

plain_tag : (r : Reply) → (IsMeasured r → ⊥) → is_measured (tag (reply_text r)) ≡ false
plain_tag (reply.Photo v m p d photo) plain = absurd (plain tt)
plain_tag (reply.Restarted d) plain = absurd (plain tt)
plain_tag (reply.Stored v p d c) plain = refl
plain_tag (reply.Deleted v p d) plain = refl
plain_tag (reply.Gone v m p d) plain = refl
plain_tag (reply.Absent v p d) plain = refl
plain_tag (reply.WrongCookie v m p d) plain = refl
plain_tag (reply.Unknown d) plain = refl
plain_tag (reply.Moved v d) plain = refl
plain_tag (reply.Url d url) plain = refl
plain_tag (reply.Full tries) plain = refl
plain_tag (reply.ReadOnly tries) plain = refl
plain_tag reply.ReadOnlyDir plain = refl
plain_tag (reply.Failed v m n) plain = refl
plain_tag (reply.FailedDir n) plain = refl
plain_tag (reply.Unreadable v p d causes) plain = refl
plain_tag (reply.Damaged v m n) plain = refl
plain_tag (reply.Flushed v m n) plain = refl
plain_tag (reply.Begun v m n) plain = refl
plain_tag (reply.Stepped v m n) plain = refl
plain_tag (reply.Compacted v m n) plain = refl
plain_tag (reply.Busy v m n) plain = refl
plain_tag (reply.Idle v m) plain = refl
plain_tag (reply.Worn v m) plain = refl
plain_tag (reply.Drained m) plain = refl
plain_tag (reply.Undrained m) plain = refl
plain_tag (reply.Fused v m n) plain = refl
plain_tag (reply.FusedDir n) plain = refl
plain_tag reply.Nowhere plain = refl
plain_tag reply.BadLine plain = refl
plain_tag reply.NoMem plain = refl

plain_sum : (r : Reply) → (IsMeasured r → ⊥) → of_reply r ≡ by_tag (tag (reply_text r))
plain_sum (reply.Photo v m p d photo) plain = absurd (plain tt)
plain_sum (reply.Restarted d) plain = absurd (plain tt)
plain_sum (reply.Stored v p d c) plain = refl
plain_sum (reply.Deleted v p d) plain = refl
plain_sum (reply.Gone v m p d) plain = refl
plain_sum (reply.Absent v p d) plain = refl
plain_sum (reply.WrongCookie v m p d) plain = refl
plain_sum (reply.Unknown d) plain = refl
plain_sum (reply.Moved v d) plain = refl
plain_sum (reply.Url d url) plain = refl
plain_sum (reply.Full tries) plain = refl
plain_sum (reply.ReadOnly tries) plain = refl
plain_sum reply.ReadOnlyDir plain = refl
plain_sum (reply.Failed v m n) plain = refl
plain_sum (reply.FailedDir n) plain = refl
plain_sum (reply.Unreadable v p d causes) plain = refl
plain_sum (reply.Damaged v m n) plain = refl
plain_sum (reply.Flushed v m n) plain = refl
plain_sum (reply.Begun v m n) plain = refl
plain_sum (reply.Stepped v m n) plain = refl
plain_sum (reply.Compacted v m n) plain = refl
plain_sum (reply.Busy v m n) plain = refl
plain_sum (reply.Idle v m) plain = refl
plain_sum (reply.Worn v m) plain = refl
plain_sum (reply.Drained m) plain = refl
plain_sum (reply.Undrained m) plain = refl
plain_sum (reply.Fused v m n) plain = refl
plain_sum (reply.FusedDir n) plain = refl
plain_sum reply.Nowhere plain = refl
plain_sum reply.BadLine plain = refl
plain_sum reply.NoMem plain = refl

plain_rows : (r : Reply) → (IsMeasured r → ⊥) → (rows : ℕ) → rows_told rows r ≡ rows
plain_rows (reply.Restarted d) plain rows = absurd (plain tt)
plain_rows (reply.Photo v m p d photo) plain rows = refl
plain_rows (reply.Stored v p d c) plain rows = refl
plain_rows (reply.Deleted v p d) plain rows = refl
plain_rows (reply.Gone v m p d) plain rows = refl
plain_rows (reply.Absent v p d) plain rows = refl
plain_rows (reply.WrongCookie v m p d) plain rows = refl
plain_rows (reply.Unknown d) plain rows = refl
plain_rows (reply.Moved v d) plain rows = refl
plain_rows (reply.Url d url) plain rows = refl
plain_rows (reply.Full tries) plain rows = refl
plain_rows (reply.ReadOnly tries) plain rows = refl
plain_rows reply.ReadOnlyDir plain rows = refl
plain_rows (reply.Failed v m n) plain rows = refl
plain_rows (reply.FailedDir n) plain rows = refl
plain_rows (reply.Unreadable v p d causes) plain rows = refl
plain_rows (reply.Damaged v m n) plain rows = refl
plain_rows (reply.Flushed v m n) plain rows = refl
plain_rows (reply.Begun v m n) plain rows = refl
plain_rows (reply.Stepped v m n) plain rows = refl
plain_rows (reply.Compacted v m n) plain rows = refl
plain_rows (reply.Busy v m n) plain rows = refl
plain_rows (reply.Idle v m) plain rows = refl
plain_rows (reply.Worn v m) plain rows = refl
plain_rows (reply.Drained m) plain rows = refl
plain_rows (reply.Undrained m) plain rows = refl
plain_rows (reply.Fused v m n) plain rows = refl
plain_rows (reply.FusedDir n) plain rows = refl
plain_rows reply.Nowhere plain rows = refl
plain_rows reply.BadLine plain rows = refl
plain_rows reply.NoMem plain rows = refl

measured_same : (r other : Reply) → FitsReply r → FitsReply other → reply_text other ≡ reply_text r → other ≡ r
measured_same r other fits f e =
    let same : Some other ≡ Some r = sym (back_reply other f) ∙ ap (λ (t : List ℕ). reply_of (words_of t)) e ∙ back_reply r fits in cc

same_by : (r other : Reply) → FitsReply r → (IsMeasured other → FitsReply other) → reply_text other ≡ reply_text r → IsMeasured other ⊎ (IsMeasured other → ⊥)
    → (of_reply other ≡ of_reply r) × ((rows : ℕ) → rows_told rows other ≡ rows_told rows r)
same_by r other fits f e (inl is) =
    let same = measured_same r other fits (f is) e in (ap of_reply same, λ rows. ap (rows_told rows) same)
same_by r other fits f e (inr plain) =
    let no_r : IsMeasured r → ⊥ = λ is.
    (let lie : true ≡ false = sym (measured_tag r is) ∙ sym (ap (λ (t : List ℕ). is_measured (tag t)) e) ∙ plain_tag other plain in cc) in (
      plain_sum other plain ∙ ap (λ (t : List ℕ). by_tag (tag t)) e ∙ sym (plain_sum r no_r),
      λ rows. plain_rows other plain rows ∙ sym (plain_rows r no_r rows),
    )

-- Replies with one text add the same, and tell the same rows.
pub same_reply : (r other : Reply) → FitsReply r → (IsMeasured other → FitsReply other) → reply_text other ≡ reply_text r
    → (of_reply other ≡ of_reply r) × ((rows : ℕ) → rows_told rows other ≡ rows_told rows r)
same_reply r other fits f e = same_by r other fits f e (measured_or other)

-- WHAT A NOTE'S TEXT TELLS

-- by its third byte
abbrev pub note_tag : List ℕ → Summary
note_tag [] = nothing
note_tag (a ∷ []) = nothing
note_tag (a ∷ b ∷ []) = nothing
note_tag (a ∷ b ∷ c ∷ rest) = if (c == 112) || (c == 115) then one_other else nothing

note_sum : (n : Note) → of_note n ≡ note_tag (note_text n)
note_sum (note.Kept v m line) = refl
note_sum (note.Lost v m line) = refl
note_sum (note.KeptDir line) = refl
note_sum (note.LostDir line) = refl
note_sum (note.Log v from lines) = refl
note_sum (note.Rows from rows) = refl
note_sum (note.OpenShelf n) = refl
note_sum (note.OpenFailed s n) = refl
note_sum (note.OpenDamaged s file n) = refl

pub same_note : (n other : Note) → note_text other ≡ note_text n → of_note other ≡ of_note n
same_note n other e = note_sum other ∙ ap note_tag e ∙ sym (note_sum n)

-- NUMBERS

abbrev pub Digits : List ℕ → Type 0
Digits text = list_all is_ascii_digit text ≡ true

glyph : (n : ℕ) → is_ascii_digit (digit_glyph false (n % 10)) ≡ true
glyph n = grind (arith, nat_tests)

either_digits : (b : Bool) (xs ys : List ℕ) → Digits xs → Digits ys → Digits (if b then xs else ys)
either_digits true xs ys h g = h
either_digits false xs ys h g = g

one_digit : (n : ℕ) (acc : List ℕ) → Digits acc → Digits (digit_glyph false (n % 10) ∷ acc)
one_digit n acc h = rw (glyph n, h) refl

digits_all : (k n : ℕ) (acc : List ℕ) → Digits acc → Digits (digits_onto k 10 false n acc)
digits_all zero n acc h = h
digits_all (suc k) n acc h =
    let more = one_digit n acc h in
    either_digits (n / 10 == 0) (digit_glyph false (n % 10) ∷ acc) (digits_onto k 10 false (n / 10) (digit_glyph false (n % 10) ∷ acc))
    more (digits_all k (n / 10) (digit_glyph false (n % 10) ∷ acc) more)

-- a number is written by digits, whatever its size
pub decimal_digits : (n : ℕ) → Digits (decimal n)
unfolding digits
decimal_digits n = digits_all 64 n [] refl

no_feed : (c : ℕ) → is_ascii_digit c ≡ true → not (is_mark 10 c) ≡ true
no_feed c h = grind (arith, nat_tests)

digits_fine : (text : List ℕ) → Digits text → Fine text
digits_fine [] h = refl
digits_fine (c ∷ text) h =
    let parts = and_parts (is_ascii_digit c) (list_all is_ascii_digit text) h in
    rw (no_feed c parts.0, digits_fine text parts.1) refl

pub any_decimal : (n : ℕ) → Fine (decimal n)
any_decimal n = digits_fine (decimal n) (decimal_digits n)

-- LINES

pub any_field : (n : ℕ) → Fine (field n)
any_field n = on (codes " ") (decimal n) refl (any_decimal n)

any_colon : (n : ℕ) → Fine (colon n)
any_colon n = on (codes ":") (decimal n) refl (any_decimal n)

any_place : (v m : ℕ) → Fine (place v m)
any_place v m = on (field v) (colon m) (any_field v) (any_colon m)

any_row : (row : LineVolume) → Fine (row_text row)
any_row row = on (field row.line) (colon row.volume) (any_field row.line) (any_colon row.volume)

any_each : {X : Type 0} (text : X → List ℕ) (xs : List X) → ((x : X) → Fine (text x)) → Fine (flat_map text xs)
any_each text [] one = refl
any_each text (x ∷ xs) one = on (text x) (flat_map text xs) (one x) (any_each text xs one)

three_parts : (a b c : List ℕ) → Fine a → Fine b → Fine c → Fine (a ++ b ++ c)
three_parts a b c h k l = on (a ++ b) c (on a b h k) l

pub four_parts : (a b c d : List ℕ) → Fine a → Fine b → Fine c → Fine d → Fine (a ++ b ++ c ++ d)
four_parts a b c d h k l m = on (a ++ b ++ c) d (three_parts a b c h k l) m

-- a note has no line feed, whatever its numbers
pub any_note : (n : Note) → Fine (note_text n)
any_note (note.Kept v m n) = three_parts (codes "kept") (place v m) (field n) refl (any_place v m) (any_field n)
any_note (note.Lost v m n) = three_parts (codes "lost") (place v m) (field n) refl (any_place v m) (any_field n)
any_note (note.KeptDir n) = on (codes "kept dir") (field n) refl (any_field n)
any_note (note.LostDir n) = on (codes "lost dir") (field n) refl (any_field n)
any_note (note.Log v from lines) =
    four_parts (codes "log") (field v) (field from) (flat_map field lines) refl (any_field v) (any_field from) (any_each field lines any_field)
any_note (note.Rows from rows) =
    three_parts (codes "rows") (field from) (flat_map row_text rows) refl (any_field from) (any_each row_text rows any_row)
any_note (note.OpenShelf n) = on (codes "open shelf") (field n) refl (any_field n)
any_note (note.OpenFailed slot n) = three_parts (codes "open failed") (field slot) (field n) refl (any_field slot) (any_field n)
any_note (note.OpenDamaged slot file n) =
    four_parts (codes "open damaged") (field slot) (field file) (field n) refl (any_field slot) (any_field file) (any_field n)

-- a line without its line feed
abbrev pub told_text : Told → List ℕ
told_text (Replied line reply) = decimal line ++ codes " " ++ reply_text reply
told_text (Noted note) = note_text note

told_fine : (t : Told) → FitsTold t → Fine (told_text t)
told_fine (Replied line r) fits = three_parts (decimal line) (codes " ") (reply_text r) (any_decimal line) refl (fine_reply r fits)
told_fine (Noted n) fits = any_note n

told_is : (t : Told) (rest : List ℕ) → told_line t ++ rest ≡ told_text t ++ 10 ∷ rest
told_is (Replied line r) rest = simp append_assoc
told_is (Noted n) rest = append_assoc (note_text n) (codes "\n") rest

pub told_ends : (t : Told) → told_line t ≡ told_text t ++ 10 ∷ []
told_ends t = sym (append-nil (told_line t)) ∙ told_is t []

-- The first line of a text is that of the first that it tells.
pub first_told : (t : Told) (line behind rest : List ℕ) → FitsTold t → Fine line → line ++ 10 ∷ behind ≡ told_line t ++ rest
    → (line ++ 10 ∷ [] ≡ told_line t) × (behind ≡ rest)
first_told t line behind rest fits fine e =
    let cut = cut_once line (told_text t) behind rest fine (told_fine t fits) (e ∙ told_is t rest) in
    (ap (λ (l : List ℕ). l ++ 10 ∷ []) cut.0 ∙ sym (told_ends t), cut.1)

-- the line of one that is told, without its line feed
pub line_told : (t : Told) (line : List ℕ) → FitsTold t → Fine line → line ++ 10 ∷ [] ≡ told_line t → line ≡ told_text t
line_told t line fits fine e = (cut_once line (told_text t) [] [] fine (told_fine t fits) (e ∙ told_ends t)).0

pub not_fine : (a b : List ℕ) → Fine (a ++ 10 ∷ b) → ⊥
not_fine a b h =
    let parts = and_parts (list_all (λ c. not (is_mark 10 c)) a) (list_all (λ c. not (is_mark 10 c)) (10 ∷ b)) (sym (list_all-append (λ c. not (is_mark 10 c)) a (10 ∷ b)) ∙ h) in
    let lie : false ≡ true = parts.1 in cc

-- a text without a line feed tells nothing
pub none_told : (told : List Told) (left : List ℕ) → Fine left → left ≡ flat_map told_line told → told ≡ []
none_told [] left fine e = refl
none_told (t ∷ told) left fine e =
    absurd (not_fine (told_text t) (flat_map told_line told) (subst Fine (e ∙ told_is t (flat_map told_line told)) fine))

-- WHERE A LINE'S NUMBER ENDS

other_from : (i x : ℕ) (ds rest : List ℕ) → Digits ds → is_other x ≡ true → position_from is_other i (ds ++ x ∷ rest) ≡ Some (i + length ds)
other_from i x [] rest h other = rw other (ap (λ (n : ℕ). Some n) (let e : i ≡ i + 0 = omega arith in e))
other_from i x (d ∷ ds) rest h other =
    let parts = and_parts (is_ascii_digit d) (list_all is_ascii_digit ds) h in
    rw parts.0 (other_from (i + 1) x ds rest parts.1 other ∙ ap (λ (n : ℕ). Some n) (let e : i + 1 + length ds ≡ i + suc (length ds) = omega arith in e))

pub number_ends : (ds rest : List ℕ) (x : ℕ) → Digits ds → is_other x ≡ true → position is_other (ds ++ x ∷ rest) ≡ Some (length ds)
number_ends ds rest x h other =
    position_from-zero is_other (ds ++ x ∷ rest) ∙ other_from 0 x ds rest h other ∙ ap (λ (n : ℕ). Some n) (let e : 0 + length ds ≡ length ds = omega arith in e)

behind_suc : (ds rest : List ℕ) (x : ℕ) → drop (suc (length ds)) (ds ++ x ∷ rest) ≡ rest
behind_suc [] rest x = refl
behind_suc (d ∷ ds) rest x = behind_suc ds rest x

pub behind_digits : (ds rest : List ℕ) (x : ℕ) → drop (length ds + 1) (ds ++ x ∷ rest) ≡ rest
behind_digits ds rest x = ap (λ (n : ℕ). drop n (ds ++ x ∷ rest)) (let e : length ds + 1 ≡ suc (length ds) = omega arith in e) ∙ behind_suc ds rest x

some_first : (b : Bool) (x : ℕ) (xs ys : List ℕ) → 0 < length ys → 0 < length (if b then x ∷ xs else ys)
some_first true x xs ys h = omega arith
some_first false x xs ys h = h

some_digits : (k n x : ℕ) (acc : List ℕ) → 0 < length (digits_onto k 10 false n (x ∷ acc))
some_digits zero n x acc = omega arith
some_digits (suc k) n x acc =
    let d = digit_glyph false (n % 10) in some_first (n / 10 == 0) d (x ∷ acc) (digits_onto k 10 false (n / 10) (d ∷ x ∷ acc)) (some_digits k (n / 10) d (x ∷ acc))

pub some_decimal : (n : ℕ) → 0 < length (decimal n)
unfolding digits
some_decimal n = let d = digit_glyph false (n % 10) in some_first (n / 10 == 0) d [] (digits_onto 63 10 false (n / 10) (d ∷ [])) (some_digits 63 (n / 10) d [])

-- a note begins with a letter
pub note_first : (n : Note) → position is_other (note_text n) ≡ Some 0
note_first (note.Kept v m line) = position_from-zero is_other (note_text (note.Kept v m line))
note_first (note.Lost v m line) = position_from-zero is_other (note_text (note.Lost v m line))
note_first (note.KeptDir line) = position_from-zero is_other (note_text (note.KeptDir line))
note_first (note.LostDir line) = position_from-zero is_other (note_text (note.LostDir line))
note_first (note.Log v from lines) = position_from-zero is_other (note_text (note.Log v from lines))
note_first (note.Rows from rows) = position_from-zero is_other (note_text (note.Rows from rows))
note_first (note.OpenShelf n) = position_from-zero is_other (note_text (note.OpenShelf n))
note_first (note.OpenFailed s n) = position_from-zero is_other (note_text (note.OpenFailed s n))
note_first (note.OpenDamaged s file n) = position_from-zero is_other (note_text (note.OpenDamaged s file n))

-- WHAT IS COUNTED

tally_of : (t : Tally) (a b : Summary) (m n : ℕ) → a ≡ b → m ≡ n
    → (let x : Tally = record { summary = plus t.summary a; rows = m } in let y : Tally = record { summary = plus t.summary b; rows = n } in x ≡ y)
tally_of t a b m n same rows =
    ap (λ (s : Summary). let x : Tally = record { summary = plus t.summary s; rows = m } in x) same
    ∙ ap (λ (r : ℕ). let x : Tally = record { summary = plus t.summary b; rows = r } in x) rows

-- a reply that was read counts as the one that was told
pub counted_reply : (t : Tally) (line : ℕ) (r other : Reply) → FitsReply r → (IsMeasured other → FitsReply other) → reply_text other ≡ reply_text r
    → counted t (Replied line other) ≡ counted t (Replied line r)
counted_reply t line r other fits f e =
    let same = same_reply r other fits f e in tally_of t (of_reply other) (of_reply r) (rows_told t.rows other) (rows_told t.rows r) same.0 (same.1 t.rows)

pub counted_note : (t : Tally) (n other : Note) → note_text other ≡ note_text n → counted t (Noted other) ≡ counted t (Noted n)
counted_note t n other e = tally_of t (of_note other) (of_note n) t.rows t.rows (same_note n other e) refl

-- what adds nothing
pub counted_nothing : (t : Tally) (n : Note) → of_note n ≡ nothing → counted t (Noted n) ≡ t
counted_nothing t n none =
    tally_of t (of_note n) nothing t.rows t.rows none refl ∙ ap (λ (s : Summary). let x : Tally = record { summary = s; rows = t.rows } in x) (plus-nothing t.summary)

-- THE LINES THAT ARE LEFT

-- Whatever the lines of a text tell, those that are left tell the rest of it, and what was counted is what the others add.
abbrev pub Left : List ℕ → List ℕ → Tally → Type 0
Left text left t =
    (told : List Told) → AllByRecursion FitsTold told → text ≡ flat_map told_line told
    → (rest : List Told) × AllByRecursion FitsTold rest × (left ≡ flat_map told_line rest) × (counted_all t rest ≡ counted_all no_tally told)

pub left_first : (text : List ℕ) → Left text text no_tally
left_first text = λ told fits is. (told, fits, is, refl)

left_on : (t next : Tally) (line behind all : List ℕ) (told rest : List Told) → Fine line → AllByRecursion FitsTold rest → line ++ 10 ∷ behind ≡ flat_map told_line rest
    → counted_all t rest ≡ counted_all no_tally told
    → ((one : Told) → FitsTold one → line ++ 10 ∷ [] ≡ told_line one → next ≡ counted t one)
    → (more : List Told) × AllByRecursion FitsTold more × (behind ≡ flat_map told_line more) × (counted_all next more ≡ counted_all no_tally told)
left_on t next line behind all told [] fine fits is sum counts = absurd (cons_none line behind is)
  where
    cons_none : (line behind : List ℕ) → line ++ 10 ∷ behind ≡ [] → ⊥
    cons_none [] behind e = cc
    cons_none (x ∷ xs) behind e = cc
left_on t next line behind all told (one ∷ rest) fine fits is sum counts =
    let cut = first_told one line behind (flat_map told_line rest) fits.0 fine is in
    let counted_one = counts one fits.0 cut.0 in
    (rest, fits.1, cut.1, ap (λ (x : Tally). counted_all x rest) counted_one ∙ sum)

-- one line more
pub left_next : (text left line behind : List ℕ) (t next : Tally) → Fine line → line ++ 10 ∷ behind ≡ left → Left text left t
    → ((one : Told) → FitsTold one → line ++ 10 ∷ [] ≡ told_line one → next ≡ counted t one) → Left text behind next
left_next text left line behind t next fine cut before counts =
    λ told fits is. (let b = before told fits is in left_on t next line behind text told b.0 fine b.1 (cut ∙ b.2) b.3 counts)

-- no line is left
pub left_none : (text left : List ℕ) (t : Tally) → Fine left → Left text left t
    → (told : List Told) → AllByRecursion FitsTold told → text ≡ flat_map told_line told → t ≡ counted_all no_tally told
left_none text left t fine before = λ told fits is.
    (let b = before told fits is in
    let none = none_told b.0 left fine b.2 in
    ap (λ (rest : List Told). counted_all t rest) (sym none) ∙ b.3)

-- WHERE A LINE ENDS

least_by : (i j : ℕ) (b : Bool) (o : Option ℕ) → (o ≡ Some j → i + 1 ≤ j) → (if b then Some i else o) ≡ Some j → i ≤ j
least_by i j true o rest e = let same : i ≡ j = cc in omega (arith, same)
least_by i j false o rest e = let least = rest e in omega (arith, least)

from_least : (i j : ℕ) (text : List ℕ) → position_from (is_mark 10) i text ≡ Some j → i ≤ j
from_least i j [] e = cc
from_least i j (x ∷ text) e = least_by i j (is_mark 10 x) (position_from (is_mark 10) (i + 1) text) (from_least (i + 1) j text) e

-- the bytes before this place are one line, and a line feed stands there
abbrev pub Cut : ℕ → List ℕ → Type 0
Cut at text = Fine (take at text) × (take at text ++ 10 ∷ drop (suc at) text ≡ text)

cut_by : (i at x : ℕ) (text : List ℕ) (b : Bool) → is_mark 10 x ≡ b → ((m : ℕ) → position_from (is_mark 10) (i + 1) text ≡ Some (i + 1 + m) → Cut m text)
    → (if b then Some i else position_from (is_mark 10) (i + 1) text) ≡ Some (i + at) → Cut at (x ∷ text)
cut_by i zero x text true is rest e = (refl, ap (λ (n : ℕ). n ∷ text) (sym (eqb-true x 10 is)))
cut_by i (suc at) x text true is rest e = absurd (let same : i ≡ i + suc at = cc in omega (arith, same))
cut_by i zero x text false is rest e = absurd (let least = from_least (i + 1) (i + 0) text e in omega (arith, least))
cut_by i (suc at) x text false is rest e =
    let behind = rest at (e ∙ ap (λ (n : ℕ). Some n) (let same : i + suc at ≡ i + 1 + at = omega arith in same)) in
    (rw (is, behind.0) refl, ap (λ (t : List ℕ). x ∷ t) behind.1)

cut_from : (i at : ℕ) (text : List ℕ) → position_from (is_mark 10) i text ≡ Some (i + at) → Cut at text
cut_from i at [] e = cc
cut_from i at (x ∷ text) e = cut_by i at x text (is_mark 10 x) refl (λ m. cut_from (i + 1) m text) e

fine_by : (i x : ℕ) (text : List ℕ) (b : Bool) → is_mark 10 x ≡ b → (position_from (is_mark 10) (i + 1) text ≡ None → Fine text)
    → (if b then Some i else position_from (is_mark 10) (i + 1) text) ≡ None → Fine (x ∷ text)
fine_by i x text true is rest e = cc
fine_by i x text false is rest e = let behind = rest e in rw (is, behind) refl

fine_from : (i : ℕ) (text : List ℕ) → position_from (is_mark 10) i text ≡ None → Fine text
fine_from i [] e = refl
fine_from i (x ∷ text) e = fine_by i x text (is_mark 10 x) refl (fine_from (i + 1) text) e

take_rest : (k : ℕ) (text : List ℕ) → take (length text - k) (drop k text) ≡ drop k text
take_rest k text = ap (λ (n : ℕ). take n (drop k text)) (sym (length-drop k text)) ∙ take-length (drop k text)

pub line_cut : (text : List ℕ) (at : ℕ) → position (is_mark 10) text ≡ Some at
    → Fine (take at text) × (take at text ++ 10 ∷ take (length text - (at + 1)) (drop (at + 1) text) ≡ text)
line_cut text at e =
    let cut = cut_from 0 at text (sym (position_from-zero (is_mark 10) text) ∙ e ∙ ap (λ (n : ℕ). Some n) (let zero_on : at ≡ 0 + at = omega arith in zero_on)) in
    let same : suc at ≡ at + 1 = omega arith in
    (cut.0, ap (λ (t : List ℕ). take at text ++ 10 ∷ t) (take_rest (at + 1) text ∙ ap (λ (n : ℕ). drop n text) (sym same)) ∙ cut.1)

pub no_line : (text : List ℕ) → position (is_mark 10) text ≡ None → Fine text
no_line text e = fine_from 0 text (sym (position_from-zero (is_mark 10) text) ∙ e)

number_at : (line : List ℕ) (n : ℕ) (text : List ℕ) → line ≡ decimal n ++ codes " " ++ text → position is_other line ≡ Some (length (decimal n))
number_at line n text is = ap (position is_other) (is ∙ append_assoc (decimal n) (codes " ") text) ∙ number_ends (decimal n) text 32 (decimal_digits n) refl

same_place : (a b : ℕ) → Some a ≡ Some b → a ≡ b
same_place a b e = cc

-- what stands behind the number of a line
pub number_behind : (line : List ℕ) (n : ℕ) (text : List ℕ) (at : ℕ) → line ≡ decimal n ++ codes " " ++ text → position is_other line ≡ Some at
    → take (length line - (at + 1)) (drop (at + 1) line) ≡ text
number_behind line n text at is found =
    let same : length (decimal n) ≡ at = same_place (length (decimal n)) at (sym (number_at line n text is) ∙ found) in
    take_rest (at + 1) line ∙ ap (λ (k : ℕ). drop (k + 1) line) (sym same) ∙ ap (drop (length (decimal n) + 1)) (is ∙ append_assoc (decimal n) (codes " ") text) ∙ behind_digits (decimal n) text 32

-- a line with a number has one
pub number_found : (line : List ℕ) (n : ℕ) (text : List ℕ) → line ≡ decimal n ++ codes " " ++ text → (at : ℕ) × (0 < at) × (position is_other line ≡ Some at)
number_found line n text is = (length (decimal n), some_decimal n, number_at line n text is)

pub none_other : (line : List ℕ) (n : ℕ) (text : List ℕ) → line ≡ decimal n ++ codes " " ++ text → position is_other line ≡ None → ⊥
none_other line n text is none = let lie : Some (length (decimal n)) ≡ None = sym (number_at line n text is) ∙ none in cc

pub zero_other : (line : List ℕ) (n : ℕ) (text : List ℕ) (at : ℕ) → line ≡ decimal n ++ codes " " ++ text → position is_other line ≡ Some at → at ≡ 0 → ⊥
zero_other line n text at is found zero_at =
    let same : length (decimal n) ≡ at = same_place (length (decimal n)) at (sym (number_at line n text is) ∙ found) in
    omega (arith, some_decimal n, same, zero_at)

pub first_other : (line : List ℕ) (n : Note) (at : ℕ) → line ≡ note_text n → position is_other line ≡ Some at → at ≡ 0
first_other line n at is found = same_place at 0 (sym found ∙ ap (position is_other) is ∙ note_first n)

-- THE LAST LINE

-- it ends with a line feed, or is none
abbrev pub IsLines : List ℕ → Type 0
IsLines front = (front ≡ []) ⊎ ((before : List ℕ) × (front ≡ before ++ 10 ∷ []))

-- the last line was met, or stands behind what is left
abbrev pub IsLast : List ℕ → List ℕ → List ℕ → Type 0
IsLast line last left = ((left ≡ []) × (last ≡ line ++ 10 ∷ [])) ⊎ ((front : List ℕ) × IsLines front × (left ≡ front ++ line ++ 10 ∷ []))

abbrev pub Lasts : List ℕ → List ℕ → List ℕ → Type 0
Lasts text last left = (front line : List ℕ) → Fine line → text ≡ front ++ line ++ 10 ∷ [] → IsLines front → IsLast line last left

pub last_first : (text : List ℕ) → Lasts text text text
last_first text = λ front line fine is lines. inr (front, lines, is)

ends_on : (x : ℕ) (xs before : List ℕ) → x ∷ xs ≡ before ++ 10 ∷ [] → IsLines xs
ends_on x xs [] e = inl cc
ends_on x xs (b ∷ before) e = inr (before, cc)

-- a first line is one of the front's, if the front has one
lines_cut : (one behind front tail : List ℕ) → Fine one → IsLines front → (front ≡ [] → ⊥) → one ++ 10 ∷ behind ≡ front ++ tail
    → (rest : List ℕ) × IsLines rest × (behind ≡ rest ++ tail)
lines_cut one behind [] tail fine lines some e = absurd (some refl)
lines_cut [] behind (x ∷ front) tail fine (inl none) some e = cc
lines_cut [] behind (x ∷ front) tail fine (inr ends) some e = (front, ends_on x front ends.0 ends.1, cc)
lines_cut (o ∷ one) behind (x ∷ front) tail fine (inl none) some e = cc
lines_cut (o ∷ one) behind (x ∷ front) tail fine (inr ends) some e =
    let parts = and_parts (not (is_mark 10 o)) (list_all (λ c. not (is_mark 10 c)) one) fine in
    let same : o ≡ x = cc in
    let more : one ++ 10 ∷ behind ≡ front ++ tail = cc in
    lines_cut one behind front tail parts.1 (ends_on x front ends.0 ends.1) (λ none. last_feed o x front ends.0 parts.0 same none ends.1) more
  where
    last_feed : (o x : ℕ) (front before : List ℕ) → not (is_mark 10 o) ≡ true → o ≡ x → front ≡ [] → x ∷ front ≡ before ++ 10 ∷ [] → ⊥
    last_feed o x front [] plain same none e =
        let feed : o ≡ 10 = same ∙ (let is : x ≡ 10 = cc in is) in
        let lie : not (is_mark 10 10) ≡ true = subst (λ (b : ℕ). not (is_mark 10 b) ≡ true) feed plain in cc
    last_feed o x front (b ∷ []) plain same none e = cc
    last_feed o x front (b ∷ c ∷ before) plain same none e = cc

last_on : (line one behind left : List ℕ) (front : List ℕ) → Fine one → Fine line → one ++ 10 ∷ behind ≡ left → IsLines front → left ≡ front ++ line ++ 10 ∷ [] → IsLast line left behind
last_on line one behind left [] fine own cut lines is =
    inl ((cut_once one line behind [] fine own (cut ∙ is)).1, is)
last_on line one behind left (x ∷ front) fine own cut lines is =
    let rest = lines_cut one behind (x ∷ front) (line ++ 10 ∷ []) fine lines (λ none. cc) (cut ∙ is ∙ append_assoc (x ∷ front) line (10 ∷ [])) in
    inr (rest.0, rest.1, rest.2 ∙ sym (append_assoc rest.0 line (10 ∷ [])))

none_left : (one behind : List ℕ) → one ++ 10 ∷ behind ≡ [] → ⊥
none_left [] behind e = cc
none_left (x ∷ one) behind e = cc

pub last_next : (text last left one behind : List ℕ) → Fine one → one ++ 10 ∷ behind ≡ left → Lasts text last left → Lasts text left behind
last_next text last left one behind fine cut before = λ front line own is lines.
    (elim (before front line own is lines) [
      | inl met ↦ absurd (none_left one behind (cut ∙ met.0))
      | inr behind_it ↦ last_on line one behind left behind_it.0 fine own cut behind_it.1 behind_it.2
    ])

pub last_found : (text last left : List ℕ) → Fine left → Lasts text last left
    → (front line : List ℕ) → Fine line → text ≡ front ++ line ++ 10 ∷ [] → IsLines front → last ≡ line ++ 10 ∷ []
last_found text last left fine before = λ front line own is lines.
    (elim (before front line own is lines) [
      | inl met ↦ met.1
      | inr behind_it ↦ absurd (not_fine (behind_it.0 ++ line) [] (subst Fine behind_it.2 fine))
    ])

-- A LINE THAT IS COUNTED

same_init : (a b : List ℕ) (x : ℕ) → a ++ x ∷ [] ≡ b ++ x ∷ [] → a ≡ b
same_init [] [] x e = refl
same_init [] (y ∷ b) x e = absurd (some_end b x cc)
  where
    some_end : (b : List ℕ) (x : ℕ) → [] ≡ b ++ x ∷ [] → ⊥
    some_end [] x e = cc
    some_end (y ∷ b) x e = cc
same_init (y ∷ a) [] x e = absurd (some_end a x cc)
  where
    some_end : (b : List ℕ) (x : ℕ) → b ++ x ∷ [] ≡ [] → ⊥
    some_end [] x e = cc
    some_end (y ∷ b) x e = cc
same_init (y ∷ a) (z ∷ b) x e =
    let first : y ≡ z = cc in
    let rest : a ++ x ∷ [] ≡ b ++ x ∷ [] = cc in
    ap (λ (n : ℕ). n ∷ a) first ∙ ap (λ (l : List ℕ). z ∷ l) (same_init a b x rest)

module _ {T E : Type 0} (result : Result T E) (old new : Tally) (line text : List ℕ) (other : Reply) where
  -- a line whose reply was read and counted
  pub told_counted : ((n : ℕ) → OnOk result (new ≡ counted old (Replied n other))) → (IsMeasured other → FitsReply other) → reply_text other ≡ text
      → ((n : ℕ) (t : List ℕ) → line ≡ decimal n ++ codes " " ++ t → text ≡ t) → ((n : Note) → line ≡ note_text n → ⊥)
      → (told : Told) → FitsTold told → line ++ 10 ∷ [] ≡ told_line told → OnOk result (new ≡ counted old told)
  told_counted counts f reads number none (Replied n r) fits e =
      let is : line ≡ told_text (Replied n r) = same_init line (told_text (Replied n r)) 10 (e ∙ told_ends (Replied n r)) in
      subst (λ (t : Tally). OnOk result (new ≡ t)) (counted_reply old n r other fits f (reads ∙ number n (reply_text r) is)) (counts n)
  told_counted counts f reads number none (Noted n) fits e =
      absurd (none n (same_init line (told_text (Noted n)) 10 (e ∙ told_ends (Noted n))))
