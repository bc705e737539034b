-- What the text of a reply or a note is read as.
use Rattle.std.proofs.Common.{◌≡◌, ℕ, ◌<◌, ◌^◌, ◌==◌, ◌&&◌, not, nat_le, Bool, true, false, List, [], ◌∷◌, ◌++◌, length, Some, None, refl, sym, ◌∙◌, ap, subst, arith}
use Rattle.std.proofs.Common.{if◌then◌else◌, decimal, append_assoc, codes, flat_map, zero, suc, replicate}
use Rattle.std.specs.Prelude.{option_map}
use Rattle.std.specs.List.{list_all}
use Rattle.std.specs.Result.{result_ok}
use Rattle.std.specs.Str.{bytes_eq}
use Rattle.std.proofs.lemmas.Bool.{and_parts}
use Rattle.std.proofs.lemmas.Bool.Decides.{nat_tests}
use Rattle.std.proofs.lemmas.List.Folds.{list_all-append}
use Rattle.std.proofs.lemmas.Slice.Eq.{bytes_eq-Decides}
use Rattle.hex.specs.Hex.{encode_lower, decode_of, lower_digits, IsBytes}
use Rattle.hex.proofs.HexLemmas.{decode_of-encode_lower, length-encode_with}
use Rattle.hay_url.specs.Url.{cookie_text, url_text, url_of, FitsUrl, long_hex}
use Rattle.hay_url.specs.Parts.{is_lower_hex, machine_text}
use Rattle.hay_url.proofs.Digits.{lower_encoded, long_digits, short_digits, short_hex}
use Rattle.hay_url.proofs.Urls.{url_of_text, url_text_is}
use Rattle.hay_url.specs.declared.Url.{Url as UrlParts}
use Rattle.hay_reply.specs.declared.Refused.{Refused}
use Rattle.hay_reply.specs.declared.Refused.TheVariants.{NoRoom, Closed}
use Rattle.hay_reply.specs.declared.ClosedBy.{ClosedBy}
use Rattle.hay_reply.specs.declared.Cause.{Cause}
use Rattle.hay_reply.specs.declared.Cause.TheVariants.{Arm, Disk, Damage}
use Rattle.hay_reply.specs.declared.Passed.{Passed}
use Rattle.hay_reply.specs.declared.LineVolume.{LineVolume}
use Rattle.hay_reply.specs.declared.Note.{Note}
use Rattle.hay_reply.specs.declared.Note.TheVariants.{Kept, Lost, KeptDir, LostDir, Log, Rows, OpenShelf, OpenFailed, OpenDamaged}
use Rattle.hay_reply.specs.declared.Reply.{Reply}
use Rattle.hay_reply.specs.declared.Reply.TheVariants.{Stored, Deleted, Photo, Gone, Absent, WrongCookie, Unknown, Moved, Url, Full, ReadOnly, ReadOnlyDir, Failed, FailedDir}
use Rattle.hay_reply.specs.declared.Reply.TheVariants.{Unreadable, Damaged, Flushed, Begun, Stepped, Compacted, Busy, Idle, Worn, Drained, Undrained, Fused, FusedDir, Nowhere}
use Rattle.hay_reply.specs.declared.Reply.TheVariants.{Restarted, BadLine, NoMem}
use Rattle.hay_reply.specs.Replies.{field, place, sight, reply_text, note_text, refused_text, closed_text, cause_text, passed_text, row_text, data_text}
use Rattle.hay_reply.specs.Fits.{FitsReply, FitsNote, FitsRefused, FitsClosed, FitsCause, FitsPassed, FitsRow, IsLarge}
use Rattle.hay_reply.specs.Reading.{is_mark, parts_of, words_of, large, closed_of, two_of, of_replica, reply_of, note_of, refused_of, refused_by, passed_of, passed_by, row_of}
use Rattle.hay_reply.specs.Reading.{row_by, photo_of, run_by, readonly_by, changed_of}
use Rattle.hay_reply.proofs.Wording.{Plain, first_word, two_words, three_words, four_words, five_words, six_words, plain_decimal, large_back, small_back, place_back, cookie_back}
use Rattle.hay_reply.proofs.Wording.{plain_cookie, plain_lower, group_words, all_back}

-- TEXTS, WORD BY WORD

two : (h s a b : List ℕ) → h ++ (s ++ a) ++ (s ++ b) ≡ h ++ (s ++ (a ++ (s ++ b)))
two h s a b = simp append_assoc

three : (h s a b c : List ℕ) → h ++ (s ++ a) ++ (s ++ b) ++ (s ++ c) ≡ h ++ (s ++ (a ++ (s ++ (b ++ (s ++ c)))))
three h s a b c = simp append_assoc

stored : (h s a b c d : List ℕ) → h ++ (s ++ a) ++ (s ++ b) ++ (s ++ c) ++ s ++ d ≡ h ++ (s ++ (a ++ (s ++ (b ++ (s ++ (c ++ (s ++ d)))))))
stored h s a b c d = simp append_assoc

seen : (h s a b c d : List ℕ) → h ++ (s ++ a ++ (s ++ b) ++ (s ++ c) ++ (s ++ d)) ≡ h ++ (s ++ (a ++ (s ++ (b ++ (s ++ (c ++ (s ++ d)))))))
seen h s a b c d = simp append_assoc

shown : (h s a b c d e : List ℕ) → h ++ (s ++ a ++ (s ++ b) ++ (s ++ c) ++ (s ++ d)) ++ s ++ e ≡ h ++ (s ++ (a ++ (s ++ (b ++ (s ++ (c ++ (s ++ (d ++ (s ++ e)))))))))
shown h s a b c d e = simp append_assoc

wrong : (h s w a b c d : List ℕ) → (h ++ (s ++ w)) ++ (s ++ a ++ (s ++ b) ++ (s ++ c) ++ (s ++ d)) ≡ h ++ (s ++ (w ++ (s ++ (a ++ (s ++ (b ++ (s ++ (c ++ (s ++ d)))))))))
wrong h s w a b c d = simp append_assoc

located : (h s k v m : List ℕ) → h ++ (s ++ v ++ (k ++ m)) ≡ h ++ (s ++ (v ++ (k ++ m)))
located h s k v m = simp append_assoc

counted : (h s k v m n : List ℕ) → h ++ (s ++ v ++ (k ++ m)) ++ (s ++ n) ≡ h ++ (s ++ ((v ++ (k ++ m)) ++ (s ++ n)))
counted h s k v m n = simp append_assoc

-- a number of 32 bits is one of 64
wide : (n : ℕ) → n < 2 ^ 32 → n < 2 ^ 64
wide n h = omega arith

spaceless : (n : ℕ) → n < 2 ^ 64 → Plain 32 (decimal n)
spaceless n h = plain_decimal 32 n refl h

plain_append : (mark : ℕ) (a b : List ℕ) → Plain mark a → Plain mark b → Plain mark (a ++ b)
plain_append mark a b h k = rw (list_all-append (λ c. not (is_mark mark c)) a b, h, k) refl

plain_place : (v m : ℕ) → v < 2 ^ 32 → m < 2 ^ 32 → Plain 32 (decimal v ++ 58 ∷ decimal m)
plain_place v m hv hm = plain_append 32 (decimal v) (58 ∷ decimal m) (spaceless v (wide v hv)) (spaceless m (wide m hm))

words_three : (head : List ℕ) (a b c : ℕ) → Plain 32 head → a < 2 ^ 64 → b < 2 ^ 64 → c < 2 ^ 64 → words_of (head ++ field a ++ field b ++ field c) ≡ head ∷ decimal a ∷ decimal b ∷ decimal c ∷ []
words_three head a b c hh ha hb hc =
    ap words_of (three head (codes " ") (decimal a) (decimal b) (decimal c))
    ∙ four_words 32 head (decimal a) (decimal b) (decimal c) hh (spaceless a ha) (spaceless b hb) (spaceless c hc)

words_sight : (head : List ℕ) (a b c d : ℕ) → Plain 32 head → a < 2 ^ 64 → b < 2 ^ 64 → c < 2 ^ 64 → d < 2 ^ 64
    → words_of (head ++ sight a b c d) ≡ head ∷ decimal a ∷ decimal b ∷ decimal c ∷ decimal d ∷ []
words_sight head a b c d hh ha hb hc hd =
    ap words_of (seen head (codes " ") (decimal a) (decimal b) (decimal c) (decimal d))
    ∙ five_words 32 head (decimal a) (decimal b) (decimal c) (decimal d) hh (spaceless a ha) (spaceless b hb) (spaceless c hc) (spaceless d hd)

words_place : (head : List ℕ) (v m : ℕ) → Plain 32 head → v < 2 ^ 32 → m < 2 ^ 32 → words_of (head ++ place v m) ≡ head ∷ (decimal v ++ 58 ∷ decimal m) ∷ []
words_place head v m hh hv hm =
    ap words_of (located head (codes " ") (codes ":") (decimal v) (decimal m))
    ∙ two_words 32 head (decimal v ++ 58 ∷ decimal m) hh (plain_place v m hv hm)

words_replica : (head : List ℕ) (v m n : ℕ) → Plain 32 head → v < 2 ^ 32 → m < 2 ^ 32 → n < 2 ^ 64 → words_of (head ++ place v m ++ field n) ≡ head ∷ (decimal v ++ 58 ∷ decimal m) ∷ decimal n ∷ []
words_replica head v m n hh hv hm hn =
    ap words_of (counted head (codes " ") (codes ":") (decimal v) (decimal m) (decimal n))
    ∙ three_words 32 head (decimal v ++ 58 ∷ decimal m) (decimal n) hh (plain_place v m hv hm) (spaceless n hn)

-- a place is no directory
not_dir_by : (word : List ℕ) (test : Bool) → bytes_eq word (codes "dir") ≡ test → (closed_of word ≡ None → ⊥) → test ≡ false
not_dir_by word true same some =
    let e : word ≡ codes "dir" = (bytes_eq-Decides word (codes "dir")).0 same in
    absurd (some (ap closed_of e))
not_dir_by word false same some = refl

pub not_dir : (v m : ℕ) → v < 2 ^ 32 → m < 2 ^ 32 → bytes_eq (decimal v ++ 58 ∷ decimal m) (codes "dir") ≡ false
not_dir v m hv hm = not_dir_by (decimal v ++ 58 ∷ decimal m) (bytes_eq (decimal v ++ 58 ∷ decimal m) (codes "dir")) refl (λ none. cc (place_back v m hv hm))

two_back : (head : List ℕ) (v m n : ℕ) → bytes_eq head (codes "fused") ≡ false → v < 2 ^ 32 → m < 2 ^ 32 → n < 2 ^ 64 → two_of head (decimal v ++ 58 ∷ decimal m) (decimal n) ≡ of_replica head v m n
two_back head v m n other hv hm hn = rw (not_dir v m hv hm, other, place_back v m hv hm, large_back n hn) refl

replica_back : (head : List ℕ) (v m n : ℕ) → Plain 32 head → bytes_eq head (codes "fused") ≡ false → ((w : List ℕ) (x : List ℕ) → reply_of (head ∷ w ∷ x ∷ []) ≡ two_of head w x)
    → v < 2 ^ 32 → m < 2 ^ 32 → n < 2 ^ 64 → reply_of (words_of (head ++ place v m ++ field n)) ≡ of_replica head v m n
replica_back head v m n hh other by hv hm hn =
    ap reply_of (words_replica head v m n hh hv hm hn) ∙ by (decimal v ++ 58 ∷ decimal m) (decimal n) ∙ two_back head v m n other hv hm hn

-- GROUPS

abbrev refused_word : Refused → List ℕ
refused_word (NoRoom v m e n) = decimal v ++ 58 ∷ (decimal m ++ 58 ∷ (decimal e ++ 58 ∷ decimal n))
refused_word (Closed v m) = decimal v ++ 58 ∷ (decimal m ++ 58 ∷ codes "ro")

group_four : (s k v m e n : List ℕ) → s ++ v ++ (k ++ m) ++ (k ++ e) ++ (k ++ n) ≡ s ++ (v ++ (k ++ (m ++ (k ++ (e ++ (k ++ n))))))
group_four s k v m e n = simp append_assoc

group_three : (s k v m r : List ℕ) → s ++ v ++ (k ++ m) ++ r ≡ s ++ (v ++ (k ++ (m ++ r)))
group_three s k v m r = simp append_assoc

refused_spaced : (r : Refused) → refused_text r ≡ 32 ∷ refused_word r
refused_spaced (NoRoom v m e n) = group_four (codes " ") (codes ":") (decimal v) (decimal m) (decimal e) (decimal n)
refused_spaced (Closed v m) = group_three (codes " ") (codes ":") (decimal v) (decimal m) (codes ":ro")

refused_plain : (r : Refused) → FitsRefused r → Plain 32 (refused_word r)
refused_plain (NoRoom v m e n) h =
    plain_append 32 (decimal v) (58 ∷ (decimal m ++ 58 ∷ (decimal e ++ 58 ∷ decimal n))) (spaceless v (wide v h.0))
    (plain_append 32 (decimal m) (58 ∷ (decimal e ++ 58 ∷ decimal n)) (spaceless m (wide m h.1)) (plain_append 32 (decimal e) (58 ∷ decimal n) (spaceless e h.2) (spaceless n h.3)))
refused_plain (Closed v m) h =
    plain_append 32 (decimal v) (58 ∷ (decimal m ++ 58 ∷ codes "ro")) (spaceless v (wide v h.0)) (plain_append 32 (decimal m) (58 ∷ codes "ro") (spaceless m (wide m h.1)) refl)

colonless : (n : ℕ) → n < 2 ^ 64 → Plain 58 (decimal n)
colonless n h = plain_decimal 58 n refl h

refused_back : (r : Refused) → FitsRefused r → refused_of (refused_word r) ≡ Some r
refused_back (NoRoom v m e n) h =
    ap refused_by (four_words 58 (decimal v) (decimal m) (decimal e) (decimal n) (colonless v (wide v h.0)) (colonless m (wide m h.1)) (colonless e h.2) (colonless n h.3))
    ∙ rw (small_back v h.0, small_back m h.1, large_back e h.2, large_back n h.3) refl
refused_back (Closed v m) h =
    ap refused_by (three_words 58 (decimal v) (decimal m) (codes "ro") (colonless v (wide v h.0)) (colonless m (wide m h.1)) refl)
    ∙ rw (small_back v h.0, small_back m h.1) refl

abbrev closed_word : ClosedBy → List ℕ
closed_word closed = decimal closed.volume ++ 58 ∷ decimal closed.machine

closed_spaced : (closed : ClosedBy) → closed_text closed ≡ 32 ∷ closed_word closed
closed_spaced closed = append_assoc (codes " ") (decimal closed.volume) (codes ":" ++ decimal closed.machine)

abbrev cause_word : Cause → List ℕ
cause_word (Arm n) = codes "arm" ++ 58 ∷ decimal n
cause_word (Disk n) = codes "disk" ++ 58 ∷ decimal n
cause_word (Damage n) = codes "damage" ++ 58 ∷ decimal n

abbrev passed_word : Passed → List ℕ
passed_word passed = decimal passed.machine ++ 58 ∷ cause_word passed.cause

cause_marked : (cause : Cause) → cause_text cause ≡ 58 ∷ cause_word cause
cause_marked (Arm n) = refl
cause_marked (Disk n) = refl
cause_marked (Damage n) = refl

passed_spaced : (passed : Passed) → passed_text passed ≡ 32 ∷ passed_word passed
passed_spaced passed = append_assoc (codes " ") (decimal passed.machine) (cause_text passed.cause) ∙ ap (λ t. 32 ∷ (decimal passed.machine ++ t)) (cause_marked passed.cause)

cause_plain : (cause : Cause) → FitsCause cause → Plain 32 (cause_word cause)
cause_plain (Arm n) h = spaceless n h
cause_plain (Disk n) h = spaceless n h
cause_plain (Damage n) h = spaceless n h

passed_plain : (passed : Passed) → FitsPassed passed → Plain 32 (passed_word passed)
passed_plain passed h = plain_append 32 (decimal passed.machine) (58 ∷ cause_word passed.cause) (spaceless passed.machine (wide passed.machine h.0)) (cause_plain passed.cause h.1)

passed_back_by : (m : ℕ) (cause : Cause) → m < 2 ^ 32 → FitsCause cause → passed_of (decimal m ++ 58 ∷ cause_word cause) ≡ Some (record { machine = m; cause = cause })
passed_back_by m (Arm n) h k = ap passed_by (three_words 58 (decimal m) (codes "arm") (decimal n) (colonless m (wide m h)) refl (colonless n k)) ∙ rw (small_back m h, large_back n k) refl
passed_back_by m (Disk n) h k = ap passed_by (three_words 58 (decimal m) (codes "disk") (decimal n) (colonless m (wide m h)) refl (colonless n k)) ∙ rw (small_back m h, large_back n k) refl
passed_back_by m (Damage n) h k = ap passed_by (three_words 58 (decimal m) (codes "damage") (decimal n) (colonless m (wide m h)) refl (colonless n k)) ∙ rw (small_back m h, large_back n k) refl

abbrev row_word : LineVolume → List ℕ
row_word row = decimal row.line ++ 58 ∷ decimal row.volume

row_spaced : (row : LineVolume) → row_text row ≡ 32 ∷ row_word row
row_spaced row = append_assoc (codes " ") (decimal row.line) (codes ":" ++ decimal row.volume)

row_plain : (row : LineVolume) → FitsRow row → Plain 32 (row_word row)
row_plain row h = plain_append 32 (decimal row.line) (58 ∷ decimal row.volume) (spaceless row.line h.0) (spaceless row.volume (wide row.volume h.1))

row_back : (row : LineVolume) → FitsRow row → row_of (row_word row) ≡ Some row
row_back row h =
    ap row_by (two_words 58 (decimal row.line) (decimal row.volume) (colonless row.line h.0) (colonless row.volume (wide row.volume h.1)))
    ∙ rw (large_back row.line h.0, small_back row.volume h.1) refl

-- URLS

url_part : (h s a b : List ℕ) → h ++ (s ++ a) ++ s ++ b ≡ h ++ (s ++ (a ++ (s ++ b)))
url_part h s a b = simp append_assoc

plain_url : (url : UrlParts) → FitsUrl url → Plain 32 (url_text url)
plain_url url h =
    let cookie = plain_lower 32 (long_hex url.cookie.0) refl (long_digits url.cookie.0).1 in
    let alt = plain_append 32 (short_hex url.pair.alt) (95 ∷ long_hex url.cookie.0) (plain_lower 32 (short_hex url.pair.alt) refl (short_digits url.pair.alt).1) cookie in
    let key = plain_append 32 (long_hex url.pair.key) (95 ∷ (short_hex url.pair.alt ++ 95 ∷ long_hex url.cookie.0)) (plain_lower 32 (long_hex url.pair.key) refl (long_digits url.pair.key).1) alt in
    let volume =
    plain_append 32 (decimal url.volume) (44 ∷ (long_hex url.pair.key ++ 95 ∷ (short_hex url.pair.alt ++ 95 ∷ long_hex url.cookie.0))) (spaceless url.volume (wide url.volume h.volume)) key in
    let machine : Plain 32 (machine_text url) =
    plain_append 32 (decimal url.machine) (47 ∷ (decimal url.volume ++ 44 ∷ (long_hex url.pair.key ++ 95 ∷ (short_hex url.pair.alt ++ 95 ∷ long_hex url.cookie.0))))
    (spaceless url.machine (wide url.machine h.machine)) volume in
    subst (Plain 32) (url_text_is url) machine

url_back : (url : UrlParts) → FitsUrl url → url_of (url_text url) ≡ Some url
url_back url h = sym (url_of_text (url_text url) url h (sym (url_text_is url)))

unreadable : (h s a b c g : List ℕ) → h ++ (s ++ a) ++ (s ++ b) ++ (s ++ c) ++ g ≡ h ++ (s ++ (a ++ (s ++ (b ++ (s ++ (c ++ g))))))
unreadable h s a b c g = simp append_assoc

-- PHOTOS

one_byte : (b : ℕ) → b < 256 → IsBytes (b ∷ [])
one_byte b h zero = h
one_byte b h (suc i) = omega arith

same_bytes : (b : ℕ) (rest : List ℕ) → list_all (λ c. c == b) rest ≡ true → replicate (length rest) b ≡ rest
same_bytes b [] h = refl
same_bytes b (c ∷ rest) h =
    let parts = and_parts (c == b) (list_all (λ c. c == b) rest) h in
    let here : b ≡ c = grind (arith, nat_tests) in
    ap (λ x. x ∷ replicate (length rest) b) here ∙ ap (λ t. c ∷ t) (same_bytes b rest parts.1)

hex_word_past : (c : ℕ) (word : List ℕ) → (c == 45) ≡ false → photo_of (c ∷ word) ≡ (if 120 == c && true then run_by (parts_of 58 word) else result_ok (decode_of (c ∷ word)))
hex_word_past c word dash = rw dash refl

hex_word_by : (c : ℕ) (word : List ℕ) → is_lower_hex c ≡ true → photo_of (c ∷ word) ≡ result_ok (decode_of (c ∷ word))
hex_word_by c word lower =
    let dash : (c == 45) ≡ false = grind (arith, nat_tests) in
    let cross : (120 == c) ≡ false = grind (arith, nat_tests) in
    hex_word_past c word dash ∙ ap (λ (t : Bool). if t && true then run_by (parts_of 58 word) else result_ok (decode_of (c ∷ word))) cross

hex_word : (word : List ℕ) → 0 < length word → list_all is_lower_hex word ≡ true → photo_of word ≡ result_ok (decode_of word)
hex_word [] some all = absurd (omega arith)
hex_word (c ∷ word) some all = hex_word_by c word (and_parts (is_lower_hex c) (list_all is_lower_hex word) all).0

run_text : (x n k d : List ℕ) → x ++ n ++ k ++ d ≡ x ++ (n ++ (k ++ d))
run_text x n k d = simp append_assoc

run_back : (n b : ℕ) → n < 2 ^ 64 → b < 256 → photo_of (codes "x" ++ (decimal n ++ 58 ∷ encode_lower (b ∷ []))) ≡ Some (replicate n b)
run_back n b fits byte =
    let hex = lower_encoded (b ∷ []) (one_byte b byte) in
    ap run_by (two_words 58 (decimal n) (encode_lower (b ∷ [])) (colonless n fits) (plain_lower 58 (encode_lower (b ∷ [])) refl hex))
    ∙ rw (large_back n fits, decode_of-encode_lower (b ∷ []) (one_byte b byte)) refl

photo_back_by : (b : ℕ) (rest : List ℕ) (test : Bool) → (nat_le 16 (length (b ∷ rest)) && list_all (λ c. c == b) rest) ≡ test → IsBytes (b ∷ rest) → length (b ∷ rest) < 2 ^ 64
    → photo_of (if test then codes "x" ++ decimal (length (b ∷ rest)) ++ codes ":" ++ encode_lower (b ∷ []) else encode_lower (b ∷ rest)) ≡ Some (b ∷ rest)
photo_back_by b rest true same bytes fits =
    let parts = and_parts (nat_le 16 (length (b ∷ rest))) (list_all (λ c. c == b) rest) same in
    ap photo_of (run_text (codes "x") (decimal (length (b ∷ rest))) (codes ":") (encode_lower (b ∷ [])))
    ∙ run_back (length (b ∷ rest)) b fits (bytes 0)
    ∙ ap (λ t. Some (b ∷ t)) (same_bytes b rest parts.1)
photo_back_by b rest false same bytes fits =
    hex_word (encode_lower (b ∷ rest)) (omega (arith, length-encode_with lower_digits (b ∷ rest))) (lower_encoded (b ∷ rest) bytes)
    ∙ ap result_ok (decode_of-encode_lower (b ∷ rest) bytes)

photo_back : (photo : List ℕ) → IsBytes photo → length photo < 2 ^ 64 → photo_of (data_text photo) ≡ Some photo
photo_back [] bytes fits = refl
photo_back (b ∷ rest) bytes fits = photo_back_by b rest (nat_le 16 (length (b ∷ rest)) && list_all (λ c. c == b) rest) refl bytes fits

plain_photo_by : (b : ℕ) (rest : List ℕ) (test : Bool) → IsBytes (b ∷ rest) → length (b ∷ rest) < 2 ^ 64
    → Plain 32 (if test then codes "x" ++ decimal (length (b ∷ rest)) ++ codes ":" ++ encode_lower (b ∷ []) else encode_lower (b ∷ rest))
plain_photo_by b rest true bytes fits =
    let hex = plain_lower 32 (encode_lower (b ∷ [])) refl (lower_encoded (b ∷ []) (one_byte b (bytes 0))) in
    subst (Plain 32) (sym (run_text (codes "x") (decimal (length (b ∷ rest))) (codes ":") (encode_lower (b ∷ []))))
    (plain_append 32 (decimal (length (b ∷ rest))) (58 ∷ encode_lower (b ∷ [])) (spaceless (length (b ∷ rest)) fits) hex)
plain_photo_by b rest false bytes fits = plain_lower 32 (encode_lower (b ∷ rest)) refl (lower_encoded (b ∷ rest) bytes)

plain_photo : (photo : List ℕ) → IsBytes photo → length photo < 2 ^ 64 → Plain 32 (data_text photo)
plain_photo [] bytes fits = refl
plain_photo (b ∷ rest) bytes fits = plain_photo_by b rest (nat_le 16 (length (b ∷ rest)) && list_all (λ c. c == b) rest) bytes fits

-- REPLIES

pub back_reply : (reply : Reply) → FitsReply reply → reply_of (words_of (reply_text reply)) ≡ Some reply
back_reply (Stored v p d c) h =
    ap (λ t. reply_of (words_of t)) (stored (codes "stored") (codes " ") (decimal v) (decimal p) (decimal d) (cookie_text c))
    ∙ ap reply_of (five_words 32 (codes "stored") (decimal v) (decimal p) (decimal d) (cookie_text c) refl (spaceless v (wide v h.0)) (spaceless p h.1) (spaceless d h.2) (plain_cookie c))
    ∙ rw (small_back v h.0, large_back p h.1, large_back d h.2, cookie_back c h.3) refl
back_reply (Deleted v p d) h =
    ap reply_of (words_three (codes "deleted") v p d refl (wide v h.0) h.1 h.2) ∙ rw (small_back v h.0, large_back p h.1, large_back d h.2) refl
back_reply (Photo v m p d photo) h =
    ap (λ t. reply_of (words_of t)) (shown (codes "photo") (codes " ") (decimal v) (decimal m) (decimal p) (decimal d) (data_text photo))
    ∙ ap reply_of (six_words 32 (codes "photo") (decimal v) (decimal m) (decimal p) (decimal d) (data_text photo) refl (spaceless v (wide v h.0)) (spaceless m (wide m h.1))
    (spaceless p h.2) (spaceless d h.3) (plain_photo photo h.4 h.5))
    ∙ rw (small_back v h.0, small_back m h.1, large_back p h.2, large_back d h.3, photo_back photo h.4 h.5) refl
back_reply (Gone v m p d) h =
    ap reply_of (words_sight (codes "gone") v m p d refl (wide v h.0) (wide m h.1) h.2 h.3) ∙ rw (small_back v h.0, small_back m h.1, large_back p h.2, large_back d h.3) refl
back_reply (Absent v p d) h =
    ap reply_of (words_three (codes "gone") v p d refl (wide v h.0) h.1 h.2) ∙ rw (small_back v h.0, large_back p h.1, large_back d h.2) refl
back_reply (WrongCookie v m p d) h =
    ap (λ t. reply_of (words_of t)) (wrong (codes "wrong") (codes " ") (codes "cookie") (decimal v) (decimal m) (decimal p) (decimal d))
    ∙ ap reply_of (six_words 32 (codes "wrong") (codes "cookie") (decimal v) (decimal m) (decimal p) (decimal d) refl refl (spaceless v (wide v h.0)) (spaceless m (wide m h.1))
    (spaceless p h.2) (spaceless d h.3))
    ∙ rw (small_back v h.0, small_back m h.1, large_back p h.2, large_back d h.3) refl
back_reply (Unknown d) h = ap reply_of (two_words 32 (codes "unknown") (decimal d) refl (spaceless d h)) ∙ rw (large_back d h) refl
back_reply (Moved v d) h =
    ap (λ t. reply_of (words_of t)) (two (codes "moved") (codes " ") (decimal v) (decimal d))
    ∙ ap reply_of (three_words 32 (codes "moved") (decimal v) (decimal d) refl (spaceless v (wide v h.0)) (spaceless d h.1))
    ∙ rw (small_back v h.0, large_back d h.1) refl
back_reply (Url d url) h =
    ap (λ t. reply_of (words_of t)) (url_part (codes "url") (codes " ") (decimal d) (url_text url))
    ∙ ap reply_of (three_words 32 (codes "url") (decimal d) (url_text url) refl (spaceless d h.0) (plain_url url h.1))
    ∙ rw (large_back d h.0, url_back url h.1) refl
back_reply (Full tries) h =
    ap reply_of (group_words FitsRefused refused_text refused_word (codes "full") tries refused_spaced refused_plain refl h)
    ∙ ap (option_map Full) (all_back FitsRefused refused_of refused_word tries refused_back h)
back_reply (ReadOnly tries) h =
    ap reply_of (group_words FitsClosed closed_text closed_word (codes "readonly") tries closed_spaced (λ x k. plain_place x.volume x.machine k.0 k.1) refl h)
    ∙ ap readonly_by (all_back FitsClosed closed_of closed_word tries (λ x k. place_back x.volume x.machine k.0 k.1) h)
back_reply ReadOnlyDir h = refl
back_reply (Failed v m n) h = replica_back (codes "failed") v m n refl refl (λ w x. refl) h.0 h.1 h.2
back_reply (FailedDir n) h = ap reply_of (three_words 32 (codes "failed") (codes "dir") (decimal n) refl refl (spaceless n h)) ∙ rw (large_back n h) refl
back_reply (Unreadable v p d causes) h =
    ap (λ t. reply_of (words_of t)) (unreadable (codes "unreadable") (codes " ") (decimal v) (decimal p) (decimal d) (flat_map passed_text causes))
    ∙ ap reply_of (
    first_word 32 (codes "unreadable") (decimal v ++ 32 ∷ (decimal p ++ 32 ∷ (decimal d ++ flat_map passed_text causes))) refl
    ∙ ap (λ ps. codes "unreadable" ∷ ps) (first_word 32 (decimal v) (decimal p ++ 32 ∷ (decimal d ++ flat_map passed_text causes)) (spaceless v (wide v h.0)))
    ∙ ap (λ ps. codes "unreadable" ∷ decimal v ∷ ps) (first_word 32 (decimal p) (decimal d ++ flat_map passed_text causes) (spaceless p h.1))
    ∙ ap (λ ps. codes "unreadable" ∷ decimal v ∷ decimal p ∷ ps) (group_words FitsPassed passed_text passed_word (decimal d) causes passed_spaced passed_plain (spaceless d h.2) h.3)
    )
    ∙ rw (small_back v h.0, large_back p h.1, large_back d h.2, all_back FitsPassed passed_of passed_word causes (λ x k. passed_back_by x.machine x.cause k.0 k.1) h.3) refl
back_reply (Damaged v m n) h = replica_back (codes "damaged") v m n refl refl (λ w x. refl) h.0 h.1 h.2
back_reply (Flushed v m n) h = replica_back (codes "flushed") v m n refl refl (λ w x. refl) h.0 h.1 h.2
back_reply (Begun v m n) h = replica_back (codes "begun") v m n refl refl (λ w x. refl) h.0 h.1 h.2
back_reply (Stepped v m n) h = replica_back (codes "stepped") v m n refl refl (λ w x. refl) h.0 h.1 h.2
back_reply (Compacted v m n) h = replica_back (codes "compacted") v m n refl refl (λ w x. refl) h.0 h.1 h.2
back_reply (Busy v m n) h = replica_back (codes "busy") v m n refl refl (λ w x. refl) h.0 h.1 h.2
back_reply (Idle v m) h = ap reply_of (words_place (codes "idle") v m refl h.0 h.1) ∙ rw (place_back v m h.0 h.1) refl
back_reply (Worn v m) h = ap reply_of (words_place (codes "worn") v m refl h.0 h.1) ∙ rw (place_back v m h.0 h.1) refl
back_reply (Drained m) h = ap reply_of (two_words 32 (codes "drained") (decimal m) refl (spaceless m (wide m h))) ∙ rw (small_back m h) refl
back_reply (Undrained m) h = ap reply_of (two_words 32 (codes "undrained") (decimal m) refl (spaceless m (wide m h))) ∙ rw (small_back m h) refl
back_reply (Fused v m n) h = ap reply_of (words_replica (codes "fused") v m n refl h.0 h.1 (wide n h.2)) ∙ rw (not_dir v m h.0 h.1, place_back v m h.0 h.1, small_back n h.2) refl
back_reply (FusedDir n) h = ap reply_of (three_words 32 (codes "fused") (codes "dir") (decimal n) refl refl (spaceless n (wide n h))) ∙ rw (small_back n h) refl
back_reply Nowhere h = refl
back_reply (Restarted d) h = ap reply_of (two_words 32 (codes "restarted") (decimal d) refl (spaceless d h)) ∙ rw (large_back d h) refl
back_reply BadLine h = refl
back_reply NoMem h = refl

-- NOTES

changed_back : (make : ℕ → ℕ → ℕ → Note) (dir : ℕ → Note) (v m n : ℕ) → v < 2 ^ 32 → m < 2 ^ 32 → n < 2 ^ 64 → changed_of make dir (decimal v ++ 58 ∷ decimal m) (decimal n) ≡ Some (make v m n)
changed_back make dir v m n hv hm hn = rw (not_dir v m hv hm, place_back v m hv hm, large_back n hn) refl

log_part : (h s a b g : List ℕ) → h ++ (s ++ a) ++ (s ++ b) ++ g ≡ h ++ (s ++ (a ++ (s ++ (b ++ g))))
log_part h s a b g = simp append_assoc

rows_part : (h s a g : List ℕ) → h ++ (s ++ a) ++ g ≡ h ++ (s ++ (a ++ g))
rows_part h s a g = simp append_assoc

open_three : (h s w a b c : List ℕ) → (h ++ (s ++ w)) ++ (s ++ a) ++ (s ++ b) ++ (s ++ c) ≡ h ++ (s ++ (w ++ (s ++ (a ++ (s ++ (b ++ (s ++ c)))))))
open_three h s w a b c = simp append_assoc

open_two : (h s w a b : List ℕ) → (h ++ (s ++ w)) ++ (s ++ a) ++ (s ++ b) ≡ h ++ (s ++ (w ++ (s ++ (a ++ (s ++ b)))))
open_two h s w a b = simp append_assoc

pub back_note : (note : Note) → FitsNote note → note_of (words_of (note_text note)) ≡ Some note
back_note (Kept v m n) h = ap note_of (words_replica (codes "kept") v m n refl h.0 h.1 h.2) ∙ changed_back Kept KeptDir v m n h.0 h.1 h.2
back_note (Lost v m n) h = ap note_of (words_replica (codes "lost") v m n refl h.0 h.1 h.2) ∙ changed_back Lost LostDir v m n h.0 h.1 h.2
back_note (KeptDir n) h = ap note_of (three_words 32 (codes "kept") (codes "dir") (decimal n) refl refl (spaceless n h)) ∙ rw (large_back n h) refl
back_note (LostDir n) h = ap note_of (three_words 32 (codes "lost") (codes "dir") (decimal n) refl refl (spaceless n h)) ∙ rw (large_back n h) refl
back_note (Log v from lines) h =
    ap (λ t. note_of (words_of t)) (log_part (codes "log") (codes " ") (decimal v) (decimal from) (flat_map field lines))
    ∙ ap note_of (
    first_word 32 (codes "log") (decimal v ++ 32 ∷ (decimal from ++ flat_map field lines)) refl
    ∙ ap (λ ps. codes "log" ∷ ps) (first_word 32 (decimal v) (decimal from ++ flat_map field lines) (spaceless v (wide v h.0)))
    ∙ ap (λ ps. codes "log" ∷ decimal v ∷ ps) (group_words IsLarge field decimal (decimal from) lines (λ n. refl) spaceless (spaceless from h.1) h.2)
    )
    ∙ rw (small_back v h.0, large_back from h.1, all_back IsLarge large decimal lines large_back h.2) refl
back_note (Rows from rows) h =
    ap (λ t. note_of (words_of t)) (rows_part (codes "rows") (codes " ") (decimal from) (flat_map row_text rows))
    ∙ ap note_of (
    first_word 32 (codes "rows") (decimal from ++ flat_map row_text rows) refl
    ∙ ap (λ ps. codes "rows" ∷ ps) (group_words FitsRow row_text row_word (decimal from) rows row_spaced row_plain (spaceless from h.0) h.1)
    )
    ∙ rw (large_back from h.0, all_back FitsRow row_of row_word rows row_back h.1) refl
back_note (OpenShelf f) h = ap note_of (three_words 32 (codes "open") (codes "shelf") (decimal f) refl refl (spaceless f h)) ∙ rw (large_back f h) refl
back_note (OpenFailed s f) h =
    ap (λ t. note_of (words_of t)) (open_two (codes "open") (codes " ") (codes "failed") (decimal s) (decimal f))
    ∙ ap note_of (four_words 32 (codes "open") (codes "failed") (decimal s) (decimal f) refl refl (spaceless s (wide s h.0)) (spaceless f h.1))
    ∙ rw (small_back s h.0, large_back f h.1) refl
back_note (OpenDamaged s f at) h =
    ap (λ t. note_of (words_of t)) (open_three (codes "open") (codes " ") (codes "damaged") (decimal s) (decimal f) (decimal at))
    ∙ ap note_of (five_words 32 (codes "open") (codes "damaged") (decimal s) (decimal f) (decimal at) refl refl (spaceless s (wide s h.0)) (spaceless f (wide f h.1)) (spaceless at h.2))
    ∙ rw (small_back s h.0, small_back f h.1, large_back at h.2) refl
