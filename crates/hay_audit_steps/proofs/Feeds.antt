-- No text of a reply or note has a line feed: so the first line of a transcript is one reply's, and no other's.
use Rattle.std.proofs.Common.{◌≡◌, ℕ, zero, suc, ◌<◌, ◌==◌, ◌&&◌, not, nat_le, Bool, true, false, List, [], ◌∷◌, ◌++◌, length, Some, refl, sym, ◌∙◌, ap, subst, arith, decimal}
use Rattle.std.proofs.Common.{codes, flat_map, append_assoc}
use Rattle.std.specs.List.{list_all, AllByRecursion, AllByRecursion as Each}
use Rattle.std.specs.Prelude.{if◌then◌else◌}
use Rattle.std.proofs.lemmas.Bool.{and_parts, eq-eqb}
use Rattle.std.proofs.lemmas.List.Folds.{list_all-append}
use Rattle.hex.specs.Hex.{encode_lower, IsBytes}
use Rattle.hay_url.specs.Url.{cookie_text, url_text, FitsUrl, long_hex}
use Rattle.hay_url.proofs.Digits.{lower_encoded, long_digits, short_digits, short_hex}
use Rattle.hay_url.specs.declared.Url.{Url as UrlParts}
use Rattle.hay_reply.specs.declared.Refused.{Refused}
use Rattle.hay_reply.specs.declared.Refused.TheVariants as refused
use Rattle.hay_reply.specs.declared.Cause.{Cause}
use Rattle.hay_reply.specs.declared.Cause.TheVariants as cause
use Rattle.hay_reply.specs.declared.Passed.{Passed}
use Rattle.hay_reply.specs.declared.LineVolume.{LineVolume}
use Rattle.hay_reply.specs.declared.Note.{Note}
use Rattle.hay_reply.specs.declared.Note.TheVariants as note
use Rattle.hay_reply.specs.declared.Reply.{Reply}
use Rattle.hay_reply.specs.declared.Reply.TheVariants as reply
use Rattle.hay_reply.specs.Replies.{field, colon, place, sight, reply_text, refused_text, closed_text, cause_text, passed_text, data_text, numbered_line, note_text, note_line, row_text}
use Rattle.hay_reply.specs.Fits.{FitsReply, FitsRefused, FitsClosed, FitsCause, FitsPassed, FitsNote, FitsRow, IsSmall, IsLarge}
use Rattle.hay_reply.specs.Reading.{is_mark, reply_of, note_of, words_of}
use Rattle.hay_reply.proofs.Wording.{Plain, plain_decimal, plain_lower}
use Rattle.hay_reply.proofs.Back.{back_reply, back_note}

abbrev pub Fine : List ℕ → Type 0
Fine text = Plain 10 text

pub on : (a b : List ℕ) → Fine a → Fine b → Fine (a ++ b)
on a b h k = rw (list_all-append (λ c. not (is_mark 10 c)) a b, h, k) refl

on3 : (a b c : List ℕ) → Fine a → Fine b → Fine c → Fine (a ++ b ++ c)
on3 a b c h k l = on (a ++ b) c (on a b h k) l

on4 : (a b c d : List ℕ) → Fine a → Fine b → Fine c → Fine d → Fine (a ++ b ++ c ++ d)
on4 a b c d h k l m = on (a ++ b ++ c) d (on3 a b c h k l) m

on6 : (a b c d e f : List ℕ) → Fine a → Fine b → Fine c → Fine d → Fine e → Fine f → Fine (a ++ b ++ c ++ d ++ e ++ f)
on6 a b c d e f h k l m n o = on (a ++ b ++ c ++ d ++ e) f (on (a ++ b ++ c ++ d) e (on4 a b c d h k l m) n) o

pub large : (n : ℕ) → IsLarge n → Fine (decimal n)
large n h = plain_decimal 10 n refl h

a_field : (n : ℕ) → IsLarge n → Fine (field n)
a_field n h = on (codes " ") (decimal n) refl (large n h)

a_colon : (n : ℕ) → IsLarge n → Fine (colon n)
a_colon n h = on (codes ":") (decimal n) refl (large n h)

wide : (n : ℕ) → IsSmall n → IsLarge n
wide n h = omega arith

a_place : (v m : ℕ) → IsSmall v → IsSmall m → Fine (place v m)
a_place v m h g = on (field v) (colon m) (a_field v (wide v h)) (a_colon m (wide m g))

a_sight : (v m p d : ℕ) → IsSmall v → IsSmall m → IsLarge p → IsLarge d → Fine (sight v m p d)
a_sight v m p d a b c e = on4 (field v) (field m) (field p) (field d) (a_field v (wide v a)) (a_field m (wide m b)) (a_field p c) (a_field d e)

each : {X : Type 0} (Fit : X → Type 0) (text : X → List ℕ) (xs : List X) → ((x : X) → Fit x → Fine (text x)) → AllByRecursion Fit xs → Fine (flat_map text xs)
each Fit text [] one h = refl
each Fit text (x ∷ xs) one h = on (text x) (flat_map text xs) (one x h.0) (each Fit text xs one h.1)

a_refused : (r : Refused) → FitsRefused r → Fine (refused_text r)
a_refused (refused.NoRoom v m e n) h = on3 (place v m) (colon e) (colon n) (a_place v m h.0 h.1) (a_colon e h.2) (a_colon n h.3)
a_refused (refused.Closed v m) h = on (place v m) (codes ":ro") (a_place v m h.0 h.1) refl

a_cause : (c : Cause) → FitsCause c → Fine (cause_text c)
a_cause (cause.Arm n) h = on (codes ":arm") (colon n) refl (a_colon n h)
a_cause (cause.Disk n) h = on (codes ":disk") (colon n) refl (a_colon n h)
a_cause (cause.Damage n) h = on (codes ":damage") (colon n) refl (a_colon n h)

a_passed : (p : Passed) → FitsPassed p → Fine (passed_text p)
a_passed p h = on (field p.machine) (cause_text p.cause) (a_field p.machine (wide p.machine h.0)) (a_cause p.cause h.1)

an_url : (url : UrlParts) → FitsUrl url → Fine (url_text url)
an_url url h =
    let machine = large url.machine (wide url.machine h.machine) in
    let volume = large url.volume (wide url.volume h.volume) in
    let key = plain_lower 10 (long_hex url.pair.key) refl (long_digits url.pair.key).1 in
    let alt = plain_lower 10 (short_hex url.pair.alt) refl (short_digits url.pair.alt).1 in
    let cookie = plain_lower 10 (long_hex url.cookie.0) refl (long_digits url.cookie.0).1 in
    let first = on6 (codes "http://store/") (decimal url.machine) (codes "/") (decimal url.volume) (codes ",") (long_hex url.pair.key) refl machine refl volume refl key in
    let head : List ℕ = codes "http://store/" ++ decimal url.machine ++ codes "/" ++ decimal url.volume ++ codes "," ++ long_hex url.pair.key in
    on4 (head ++ codes "_") (short_hex url.pair.alt) (codes "_") (cookie_text url.cookie) (on head (codes "_") first refl) alt refl cookie

a_byte : (b : ℕ) → b < 256 → IsBytes (b ∷ [])
a_byte b h zero = h
a_byte b h (suc i) = omega arith

data_by : (b : ℕ) (rest : List ℕ) (test : Bool) → IsBytes (b ∷ rest) → IsLarge (length (b ∷ rest))
    → Fine (if test then codes "x" ++ decimal (length (b ∷ rest)) ++ codes ":" ++ encode_lower (b ∷ []) else encode_lower (b ∷ rest))
data_by b rest true bytes h =
    on4 (codes "x") (decimal (length (b ∷ rest))) (codes ":") (encode_lower (b ∷ [])) refl (large (length (b ∷ rest)) h) refl
    (plain_lower 10 (encode_lower (b ∷ [])) refl (lower_encoded (b ∷ []) (a_byte b (bytes 0))))
data_by b rest false bytes h = plain_lower 10 (encode_lower (b ∷ rest)) refl (lower_encoded (b ∷ rest) bytes)

a_photo : (photo : List ℕ) → IsBytes photo → IsLarge (length photo) → Fine (data_text photo)
a_photo [] bytes h = refl
a_photo (b ∷ rest) bytes h = data_by b rest (nat_le 16 (length (b ∷ rest)) && list_all (λ c. c == b) rest) bytes h

two : (head : List ℕ) (v m : ℕ) → Fine head → IsSmall v → IsSmall m → Fine (head ++ place v m)
two head v m h a b = on head (place v m) h (a_place v m a b)

three : (head : List ℕ) (v m n : ℕ) → Fine head → IsSmall v → IsSmall m → IsLarge n → Fine (head ++ place v m ++ field n)
three head v m n h a b c = on3 head (place v m) (field n) h (a_place v m a b) (a_field n c)

fields : (head : List ℕ) (v p d : ℕ) → Fine head → IsSmall v → IsLarge p → IsLarge d → Fine (head ++ field v ++ field p ++ field d)
fields head v p d h a b c = on4 head (field v) (field p) (field d) h (a_field v (wide v a)) (a_field p b) (a_field d c)

one : (head : List ℕ) (n : ℕ) → Fine head → IsLarge n → Fine (head ++ field n)
one head n h a = on head (field n) h (a_field n a)

pub fine_reply : (r : Reply) → FitsReply r → Fine (reply_text r)
fine_reply (reply.Stored v p d c) h =
    on6 (codes "stored") (field v) (field p) (field d) (codes " ") (cookie_text c) refl (a_field v (wide v h.0)) (a_field p h.1) (a_field d h.2) refl
    (plain_lower 10 (cookie_text c) refl (long_digits c.0).1)
fine_reply (reply.Deleted v p d) h = fields (codes "deleted") v p d refl h.0 h.1 h.2
fine_reply (reply.Photo v m p d photo) h =
    on4 (codes "photo") (sight v m p d) (codes " ") (data_text photo) refl (a_sight v m p d h.0 h.1 h.2 h.3) refl (a_photo photo h.4 h.5)
fine_reply (reply.Gone v m p d) h = on (codes "gone") (sight v m p d) refl (a_sight v m p d h.0 h.1 h.2 h.3)
fine_reply (reply.Absent v p d) h = fields (codes "gone") v p d refl h.0 h.1 h.2
fine_reply (reply.WrongCookie v m p d) h = on (codes "wrong cookie") (sight v m p d) refl (a_sight v m p d h.0 h.1 h.2 h.3)
fine_reply (reply.Unknown d) h = one (codes "unknown") d refl h
fine_reply (reply.Moved v d) h = on3 (codes "moved") (field v) (field d) refl (a_field v (wide v h.0)) (a_field d h.1)
fine_reply (reply.Url d url) h = on4 (codes "url") (field d) (codes " ") (url_text url) refl (a_field d h.0) refl (an_url url h.1)
fine_reply (reply.Full tries) h = on (codes "full") (flat_map refused_text tries) refl (each FitsRefused refused_text tries a_refused h)
fine_reply (reply.ReadOnly tries) h = on (codes "readonly") (flat_map closed_text tries) refl (each FitsClosed closed_text tries (λ c f. a_place c.volume c.machine f.0 f.1) h)
fine_reply reply.ReadOnlyDir h = refl
fine_reply (reply.Failed v m n) h = three (codes "failed") v m n refl h.0 h.1 h.2
fine_reply (reply.FailedDir n) h = one (codes "failed dir") n refl h
fine_reply (reply.Unreadable v p d causes) h =
    on (codes "unreadable" ++ field v ++ field p ++ field d) (flat_map passed_text causes) (fields (codes "unreadable") v p d refl h.0 h.1 h.2) (each FitsPassed passed_text causes a_passed h.3)
fine_reply (reply.Damaged v m n) h = three (codes "damaged") v m n refl h.0 h.1 h.2
fine_reply (reply.Flushed v m n) h = three (codes "flushed") v m n refl h.0 h.1 h.2
fine_reply (reply.Begun v m n) h = three (codes "begun") v m n refl h.0 h.1 h.2
fine_reply (reply.Stepped v m n) h = three (codes "stepped") v m n refl h.0 h.1 h.2
fine_reply (reply.Compacted v m n) h = three (codes "compacted") v m n refl h.0 h.1 h.2
fine_reply (reply.Busy v m n) h = three (codes "busy") v m n refl h.0 h.1 h.2
fine_reply (reply.Idle v m) h = two (codes "idle") v m refl h.0 h.1
fine_reply (reply.Worn v m) h = two (codes "worn") v m refl h.0 h.1
fine_reply (reply.Drained m) h = one (codes "drained") m refl (wide m h)
fine_reply (reply.Undrained m) h = one (codes "undrained") m refl (wide m h)
fine_reply (reply.Fused v m n) h = three (codes "fused") v m n refl h.0 h.1 (wide n h.2)
fine_reply (reply.FusedDir n) h = one (codes "fused dir") n refl (wide n h)
fine_reply reply.Nowhere h = refl
fine_reply (reply.Restarted d) h = one (codes "restarted") d refl h
fine_reply reply.BadLine h = refl
fine_reply reply.NoMem h = refl

-- ONE TEXT, ONE READING

own_mark : is_mark 10 10 ≡ true
own_mark = eq-eqb 10 10 refl

-- texts without a feed, each with a feed behind it, are cut at one place
pub cut_once : (xs ys us ws : List ℕ) → Fine xs → Fine ys → xs ++ 10 ∷ us ≡ ys ++ 10 ∷ ws → (xs ≡ ys) × (us ≡ ws)
cut_once [] [] us ws h g e = (refl, cc)
cut_once [] (y ∷ ys) us ws h g e =
    let is : 10 ≡ y = cc in
    absurd (let lie : not (is_mark 10 y) ≡ true = (and_parts (not (is_mark 10 y)) (list_all (λ b. not (is_mark 10 b)) ys) g).0 in
    let lies : not (is_mark 10 10) ≡ true = subst (λ (b : ℕ). not (is_mark 10 b) ≡ true) (sym is) lie in cc)
cut_once (x ∷ xs) [] us ws h g e =
    let is : x ≡ 10 = cc in
    absurd (let lie : not (is_mark 10 x) ≡ true = (and_parts (not (is_mark 10 x)) (list_all (λ b. not (is_mark 10 b)) xs) h).0 in
    let lies : not (is_mark 10 10) ≡ true = subst (λ (b : ℕ). not (is_mark 10 b) ≡ true) is lie in cc)
cut_once (x ∷ xs) (y ∷ ys) us ws h g e =
    let is : x ≡ y = cc in
    let rest = cut_once xs ys us ws (and_parts (not (is_mark 10 x)) (list_all (λ b. not (is_mark 10 b)) xs) h).1 (and_parts (not (is_mark 10 y)) (list_all (λ b. not (is_mark 10 b)) ys) g).1 cc in
    (ap (λ (b : ℕ). b ∷ xs) is ∙ ap (λ (zs : List ℕ). y ∷ zs) rest.0, rest.1)

pub same_front : (xs ys zs : List ℕ) → xs ++ ys ≡ xs ++ zs → ys ≡ zs
same_front [] ys zs e = e
same_front (x ∷ xs) ys zs e = same_front xs ys zs cc

pub line_text : (n : ℕ) (r : Reply) (rest : List ℕ) → numbered_line n r ++ rest ≡ (decimal n ++ codes " ") ++ (reply_text r ++ 10 ∷ rest)
line_text n r rest = simp append_assoc

-- A line that has a reply's text has no other's.
pub one_reply : (line : ℕ) (r other : Reply) (rest behind : List ℕ) → FitsReply r → FitsReply other
    → numbered_line line other ++ behind ≡ numbered_line line r ++ rest → (other ≡ r) × (behind ≡ rest)
one_reply line r other rest behind fits f e =
    let both : reply_text other ++ 10 ∷ behind ≡ reply_text r ++ 10 ∷ rest =
    same_front (decimal line ++ codes " ") (reply_text other ++ 10 ∷ behind) (reply_text r ++ 10 ∷ rest)
    (sym (line_text line other behind) ∙ e ∙ line_text line r rest) in
    let cut = cut_once (reply_text other) (reply_text r) behind rest (fine_reply other f) (fine_reply r fits) both in
    let same : Some other ≡ Some r = sym (back_reply other f) ∙ ap (λ (t : List ℕ). reply_of (words_of t)) cut.0 ∙ back_reply r fits in
    (cc, cut.1)

-- NOTES

a_row : (row : LineVolume) → FitsRow row → Fine (row_text row)
a_row row h = on (field row.line) (colon row.volume) (a_field row.line h.0) (a_colon row.volume (wide row.volume h.1))

pub fine_note : (n : Note) → FitsNote n → Fine (note_text n)
fine_note (note.Kept v m n) h = three (codes "kept") v m n refl h.0 h.1 h.2
fine_note (note.Lost v m n) h = three (codes "lost") v m n refl h.0 h.1 h.2
fine_note (note.KeptDir n) h = one (codes "kept dir") n refl h
fine_note (note.LostDir n) h = one (codes "lost dir") n refl h
fine_note (note.Log v from lines) h =
    on4 (codes "log") (field v) (field from) (flat_map field lines) refl (a_field v (wide v h.0)) (a_field from h.1) (each IsLarge field lines a_field h.2)
fine_note (note.Rows from rows) h = on3 (codes "rows") (field from) (flat_map row_text rows) refl (a_field from h.0) (each FitsRow row_text rows a_row h.1)
fine_note (note.OpenShelf n) h = one (codes "open shelf") n refl h
fine_note (note.OpenFailed slot n) h = on3 (codes "open failed") (field slot) (field n) refl (a_field slot (wide slot h.0)) (a_field n h.1)
fine_note (note.OpenDamaged slot file n) h = fields_small (codes "open damaged") slot file n refl h.0 h.1 h.2
  where
    fields_small : (head : List ℕ) (v p d : ℕ) → Fine head → IsSmall v → IsSmall p → IsLarge d → Fine (head ++ field v ++ field p ++ field d)
    fields_small head v p d h a b c = fields head v p d h a (wide p b) c

pub note_text_line : (n : Note) (rest : List ℕ) → note_line n ++ rest ≡ note_text n ++ 10 ∷ rest
note_text_line n rest = append_assoc (note_text n) (codes "\n") rest

pub one_note : (n other : Note) (rest behind : List ℕ) → FitsNote n → FitsNote other → note_line other ++ behind ≡ note_line n ++ rest → (other ≡ n) × (behind ≡ rest)
one_note n other rest behind fits f e =
    let both : note_text other ++ 10 ∷ behind ≡ note_text n ++ 10 ∷ rest = sym (note_text_line other behind) ∙ e ∙ note_text_line n rest in
    let cut = cut_once (note_text other) (note_text n) behind rest (fine_note other f) (fine_note n fits) both in
    let same : Some other ≡ Some n = sym (back_note other f) ∙ ap (λ (t : List ℕ). note_of (words_of t)) cut.0 ∙ back_note n fits in
    (cc, cut.1)

-- Lines that have the texts of notes have those of no others, if as many are read.
pub one_notes : (notes others : List Note) (rest behind : List ℕ) → Each FitsNote notes → Each FitsNote others → length others ≡ length notes
    → flat_map note_line others ++ behind ≡ flat_map note_line notes ++ rest → (others ≡ notes) × (behind ≡ rest)
one_notes [] [] rest behind fits f many e = (refl, e)
one_notes [] (other ∷ others) rest behind fits f many e = absurd (omega (arith, many))
one_notes (n ∷ notes) [] rest behind fits f many e = absurd (omega (arith, many))
one_notes (n ∷ notes) (other ∷ others) rest behind fits f many e =
    let first = one_note n other (flat_map note_line notes ++ rest) (flat_map note_line others ++ behind) fits.0 f.0
    (sym (append_assoc (note_line other) (flat_map note_line others) behind) ∙ e ∙ append_assoc (note_line n) (flat_map note_line notes) rest) in
    let more = one_notes notes others rest behind fits.1 f.1 (omega (arith, many)) first.1 in
    (ap (λ (x : Note). x ∷ others) first.0 ∙ ap (λ (xs : List Note). n ∷ xs) more.0, more.1)
