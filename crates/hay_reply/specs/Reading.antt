-- What the words of a text say of a reply or a note, if they are its words. The contracts of inner functions alone cite this file: the public
-- ones say which texts are read by `Replies` and `Fits`.
use Rattle.std.specs.Prelude.{ℕ, ◌^◌, ◌==◌, ◌&&◌, nat_lt, Bool, List, [], ◌∷◌, length, replicate, Option, Some, None, option_and_then, option_map, if◌then◌else◌, codes, bytes_eq, drop}
use Rattle.std.specs.Borrow.{Bor}
use Rattle.std.specs.Char.{is_ascii_digit}
use Rattle.std.specs.List.{slice_split, list_all, starts_with}
use Rattle.std.specs.Result.{result_ok}
use Rattle.std.specs.Str.Parse.{digits_value}
use Rattle.std.specs.Int.{w64, from_be_bytes}
use Rattle.hex.specs.Hex.{decode_of, decode_sized}
use Rattle.hay_needle.specs.declared.needle.Cookie.{Cookie}
use Rattle.hay_url.specs.Url.{url_of}
use Rattle.hay_reply.specs.declared.Refused.{Refused}
use Rattle.hay_reply.specs.declared.Refused.TheVariants.{NoRoom, Closed}
use Rattle.hay_reply.specs.declared.ClosedBy.{ClosedBy}
use Rattle.hay_reply.specs.declared.Cause.{Cause}
use Rattle.hay_reply.specs.declared.Cause.TheVariants.{Arm, Disk, Damage}
use Rattle.hay_reply.specs.declared.Passed.{Passed}
use Rattle.hay_reply.specs.declared.LineVolume.{LineVolume}
use Rattle.hay_reply.specs.declared.Reply.{Reply}
use Rattle.hay_reply.specs.declared.Reply.TheVariants.{Stored, Deleted, Photo, Gone, Absent, WrongCookie, Unknown, Moved, Url, Full, ReadOnly, ReadOnlyDir, Failed, FailedDir}
use Rattle.hay_reply.specs.declared.Reply.TheVariants.{Unreadable, Damaged, Flushed, Begun, Stepped, Compacted, Busy, Idle, Worn, Drained, Undrained, Fused, FusedDir, Nowhere}
use Rattle.hay_reply.specs.declared.Reply.TheVariants.{Restarted, BadLine, NoMem}
use Rattle.hay_reply.specs.declared.Note.{Note}
use Rattle.hay_reply.specs.declared.Note.TheVariants.{Kept, Lost, KeptDir, LostDir, Log, Rows, OpenShelf, OpenFailed, OpenDamaged}

-- PARTS OF A TEXT

abbrev pub is_mark : ℕ → ℕ → Bool
is_mark mark b = b == mark

abbrev pub parts_of : ℕ → List ℕ → List (List ℕ)
parts_of mark text = slice_split (is_mark mark) text

-- of what is left of a text, if anything is
abbrev pub left_parts : ℕ → Option (Bor (List ℕ)) → List (List ℕ)
left_parts mark None = []
left_parts mark (Some text) = parts_of mark text.now

abbrev pub words_of : List ℕ → List (List ℕ)
words_of text = parts_of 32 text

-- NUMBERS

abbrev pub number : ℕ → List ℕ → Option ℕ
number limit text =
    if nat_lt 0 (length text) && list_all is_ascii_digit text && nat_lt (digits_value 10 text) limit
    then Some (digits_value 10 text) else None

abbrev pub small : List ℕ → Option ℕ
small = number (2 ^ 32)

abbrev pub large : List ℕ → Option ℕ
large = number (2 ^ 64)

abbrev pub cookie_by : Option (List ℕ) → Option Cookie
cookie_by (Some bytes) = Some (record { 0 = from_be_bytes w64 bytes })
cookie_by None = None

abbrev pub cookie_of_word : List ℕ → Option Cookie
cookie_of_word word = cookie_by (result_ok (decode_sized word 8))

-- PLACES AND GROUPS

abbrev pub closed_by : List (List ℕ) → Option ClosedBy
closed_by (v ∷ m ∷ more) = option_and_then (λ x. option_map (λ y. record { volume = x; machine = y }) (small m)) (small v)
closed_by _ = None

abbrev pub closed_of : List ℕ → Option ClosedBy
closed_of word = closed_by (parts_of 58 word)

abbrev pub refused_by : List (List ℕ) → Option Refused
refused_by (v ∷ m ∷ e ∷ n ∷ more) = option_and_then (λ x. option_and_then (λ y. option_and_then (λ z. option_map (NoRoom x y z) (large n)) (large e)) (small m)) (small v)
refused_by (v ∷ m ∷ e ∷ []) = option_and_then (λ x. option_map (Closed x) (small m)) (small v)
refused_by _ = None

abbrev pub refused_of : List ℕ → Option Refused
refused_of word = refused_by (parts_of 58 word)

abbrev pub cause_of : List ℕ → ℕ → Cause
cause_of kind n = if bytes_eq kind (codes "arm") then Arm n else if bytes_eq kind (codes "disk") then Disk n else Damage n

abbrev pub passed_by : List (List ℕ) → Option Passed
passed_by (m ∷ kind ∷ n ∷ more) = option_and_then (λ x. option_map (λ y. record { machine = x; cause = cause_of kind y }) (large n)) (small m)
passed_by _ = None

abbrev pub passed_of : List ℕ → Option Passed
passed_of word = passed_by (parts_of 58 word)

abbrev pub row_by : List (List ℕ) → Option LineVolume
row_by (l ∷ v ∷ more) = option_and_then (λ x. option_map (λ y. record { line = x; volume = y }) (small v)) (large l)
row_by _ = None

abbrev pub row_of : List ℕ → Option LineVolume
row_of word = row_by (parts_of 58 word)

-- all of them, if each says something
abbrev pub all_of : {X : Type 0} → (List ℕ → Option X) → List (List ℕ) → Option (List X)
all_of read [] = Some []
all_of read (word ∷ words) = option_and_then (λ x. option_map (λ xs. x ∷ xs) (all_of read words)) (read word)

-- PHOTOS

abbrev pub run_of : ℕ → Option (List ℕ) → Option (List ℕ)
run_of n (Some (b ∷ more)) = Some (replicate n b)
run_of n _ = None

abbrev pub run_by : List (List ℕ) → Option (List ℕ)
run_by (count ∷ digits ∷ more) = option_and_then (λ n. run_of n (result_ok (decode_of digits))) (large count)
run_by _ = None

abbrev pub photo_of : List ℕ → Option (List ℕ)
photo_of word =
    if bytes_eq word (codes "-") then Some []
    else if starts_with ◌==◌ word (codes "x") then run_by (parts_of 58 (drop 1 word))
    else result_ok (decode_of word)

-- REPLIES

abbrev pub with_two : {X : Type 0} → (ℕ → ℕ → X) → Option ℕ → Option ℕ → Option X
with_two make a b = option_and_then (λ x. option_map (make x) b) a

abbrev pub with_three : {X : Type 0} → (ℕ → ℕ → ℕ → X) → Option ℕ → Option ℕ → Option ℕ → Option X
with_three make a b c = option_and_then (λ x. with_two (make x) b c) a

abbrev pub with_four : {X : Type 0} → (ℕ → ℕ → ℕ → ℕ → X) → Option ℕ → Option ℕ → Option ℕ → Option ℕ → Option X
with_four make a b c d = option_and_then (λ x. with_three (make x) b c d) a

abbrev pub at_place : {X : Type 0} → (ℕ → ℕ → X) → Option ClosedBy → Option X
at_place make place = option_map (λ p. make p.volume p.machine) place

abbrev pub at_place_with : {X : Type 0} → (ℕ → ℕ → ℕ → X) → Option ClosedBy → Option ℕ → Option X
at_place_with make place n = option_and_then (λ p. option_map (make p.volume p.machine) n) place

abbrev pub stored_of : List (List ℕ) → Option Reply
stored_of (v ∷ p ∷ d ∷ c ∷ more) = option_and_then (λ x. option_and_then (λ y. option_and_then (λ z. option_map (Stored x y z) (cookie_of_word c)) (large d)) (large p)) (small v)
stored_of _ = None

abbrev pub deleted_of : List (List ℕ) → Option Reply
deleted_of (v ∷ p ∷ d ∷ more) = with_three Deleted (small v) (large p) (large d)
deleted_of _ = None

abbrev pub photo_reply_of : List (List ℕ) → Option Reply
photo_reply_of (v ∷ m ∷ p ∷ d ∷ photo ∷ more) =
    option_and_then (λ x. option_and_then (λ y. option_and_then (λ z. option_and_then (λ w. option_map (Photo x y z w) (photo_of photo)) (large d)) (large p)) (small m)) (small v)
photo_reply_of _ = None

abbrev pub gone_of : List (List ℕ) → Option Reply
gone_of (v ∷ m ∷ p ∷ d ∷ more) = with_four Gone (small v) (small m) (large p) (large d)
gone_of (v ∷ p ∷ d ∷ []) = with_three Absent (small v) (large p) (large d)
gone_of _ = None

abbrev pub wrong_of : List (List ℕ) → Option Reply
wrong_of (word ∷ v ∷ m ∷ p ∷ d ∷ more) = with_four WrongCookie (small v) (small m) (large p) (large d)
wrong_of _ = None

abbrev pub moved_of : List (List ℕ) → Option Reply
moved_of (v ∷ d ∷ more) = with_two Moved (small v) (large d)
moved_of _ = None

abbrev pub url_reply_of : List (List ℕ) → Option Reply
url_reply_of (d ∷ url ∷ more) = option_and_then (λ x. option_map (Url x) (url_of url)) (large d)
url_reply_of _ = None

abbrev pub readonly_by : Option (List ClosedBy) → Option Reply
readonly_by (Some tries) = Some (ReadOnly tries)
readonly_by None = Some ReadOnlyDir

abbrev pub unreadable_of : List (List ℕ) → Option Reply
unreadable_of (v ∷ p ∷ d ∷ groups) = option_and_then (λ x. option_and_then (λ y. option_and_then (λ z. option_map (Unreadable x y z) (all_of passed_of groups)) (large d)) (large p)) (small v)
unreadable_of _ = None

abbrev pub alone_of : List ℕ → Option Reply
alone_of head =
    if bytes_eq head (codes "nowhere") then Some Nowhere
    else if bytes_eq head (codes "nomem") then Some NoMem
    else None

abbrev pub one_of : List ℕ → List ℕ → Option Reply
one_of head a =
    if bytes_eq head (codes "unknown") then option_map Unknown (large a)
    else if bytes_eq head (codes "drained") then option_map Drained (small a)
    else if bytes_eq head (codes "undrained") then option_map Undrained (small a)
    else if bytes_eq head (codes "restarted") then option_map Restarted (large a)
    else if bytes_eq head (codes "idle") then at_place Idle (closed_of a)
    else if bytes_eq head (codes "worn") then at_place Worn (closed_of a)
    else if bytes_eq head (codes "bad") then Some BadLine
    else None

abbrev pub of_directory : List ℕ → List ℕ → Option Reply
of_directory head b =
    if bytes_eq head (codes "failed") then option_map FailedDir (large b)
    else if bytes_eq head (codes "fused") then option_map FusedDir (small b)
    else None

abbrev pub of_replica : List ℕ → ℕ → ℕ → ℕ → Option Reply
of_replica head v m n =
    if bytes_eq head (codes "failed") then Some (Failed v m n)
    else if bytes_eq head (codes "damaged") then Some (Damaged v m n)
    else if bytes_eq head (codes "flushed") then Some (Flushed v m n)
    else if bytes_eq head (codes "begun") then Some (Begun v m n)
    else if bytes_eq head (codes "stepped") then Some (Stepped v m n)
    else if bytes_eq head (codes "compacted") then Some (Compacted v m n)
    else if bytes_eq head (codes "busy") then Some (Busy v m n)
    else None

abbrev pub two_of : List ℕ → List ℕ → List ℕ → Option Reply
two_of head a b =
    if bytes_eq a (codes "dir") then of_directory head b
    else if bytes_eq head (codes "fused") then at_place_with Fused (closed_of a) (small b)
    else option_and_then (λ p. option_and_then (of_replica head p.volume p.machine) (large b)) (closed_of a)

abbrev pub short_of : List ℕ → List (List ℕ) → Option Reply
short_of head [] = alone_of head
short_of head (a ∷ []) = one_of head a
short_of head (a ∷ b ∷ more) = two_of head a b

abbrev pub by_head : List ℕ → List (List ℕ) → Option Reply
by_head head words =
    if bytes_eq head (codes "stored") then stored_of words
    else if bytes_eq head (codes "deleted") then deleted_of words
    else if bytes_eq head (codes "photo") then photo_reply_of words
    else if bytes_eq head (codes "gone") then gone_of words
    else if bytes_eq head (codes "wrong") then wrong_of words
    else if bytes_eq head (codes "moved") then moved_of words
    else if bytes_eq head (codes "url") then url_reply_of words
    else if bytes_eq head (codes "full") then option_map Full (all_of refused_of words)
    else if bytes_eq head (codes "readonly") then readonly_by (all_of closed_of words)
    else if bytes_eq head (codes "unreadable") then unreadable_of words
    else short_of head words

abbrev pub reply_of : List (List ℕ) → Option Reply
reply_of (head ∷ words) = by_head head words
reply_of [] = None

-- NOTES

abbrev pub changed_of : (ℕ → ℕ → ℕ → Note) → (ℕ → Note) → List ℕ → List ℕ → Option Note
changed_of of_replica of_directory a b =
    if bytes_eq a (codes "dir") then option_map of_directory (large b)
    else at_place_with of_replica (closed_of a) (large b)

abbrev pub log_of : List (List ℕ) → Option Note
log_of (v ∷ from ∷ lines) = option_and_then (λ x. option_and_then (λ y. option_map (Log x y) (all_of large lines)) (large from)) (small v)
log_of _ = None

abbrev pub rows_of : List (List ℕ) → Option Note
rows_of (from ∷ rows) = option_and_then (λ x. option_map (Rows x) (all_of row_of rows)) (large from)
rows_of _ = None

abbrev pub open_of : List (List ℕ) → Option Note
open_of (kind ∷ s ∷ f ∷ at ∷ more) = with_three OpenDamaged (small s) (small f) (large at)
open_of (kind ∷ s ∷ f ∷ []) = with_two OpenFailed (small s) (large f)
open_of (kind ∷ f ∷ []) = option_map OpenShelf (large f)
open_of _ = None

abbrev pub change_of : List ℕ → List (List ℕ) → Option Note
change_of head (a ∷ b ∷ more) =
    if bytes_eq head (codes "kept") then changed_of Kept KeptDir a b
    else if bytes_eq head (codes "lost") then changed_of Lost LostDir a b
    else None
change_of head _ = None

abbrev pub note_by_head : List ℕ → List (List ℕ) → Option Note
note_by_head head words =
    if bytes_eq head (codes "log") then log_of words
    else if bytes_eq head (codes "rows") then rows_of words
    else if bytes_eq head (codes "open") then open_of words
    else change_of head words

abbrev pub note_of : List (List ℕ) → Option Note
note_of (head ∷ words) = note_by_head head words
note_of [] = None
