-- The grammar of a script: its lines, and what each says.
use Rattle.std.specs.Prelude.{ℕ, ◌+◌, ◌*◌, ◌^◌, ◌==◌, ◌&&◌, ◌||◌, nat_lt, nat_le, ◌≤◌, Bool, true, false, List, [], ◌∷◌, length, replicate, filter, drop, Option, Some, None}
use Rattle.std.specs.Prelude.{option_and_then, option_map, if◌then◌else◌, codes, bytes_eq}
use Rattle.std.specs.Char.{is_ascii_digit}
use Rattle.std.specs.List.{slice_split, onto_first, list_all, starts_with}
use Rattle.std.specs.Str.Parse.{digits_value}
use Rattle.std.specs.Result.{result_ok}
use Rattle.hex.specs.Hex.{decode_of, is_hex_digit}
use Rattle.hay_needle.specs.declared.needle.Pair.{Pair}
use Rattle.hay_needle.specs.declared.needle.Cookie.{Cookie}
use Rattle.hay_needle.specs.declared.total.TheConstants.{MAX_PHOTO}
use Rattle.hay_url.specs.Url.{url_of}
use Rattle.hay_script.specs.declared.Command.{Command}
use Rattle.hay_script.specs.declared.Command.TheVariants.{Put, Read, Get, Del, Url, Flush, Compact, Begin, Step, Finish, Drain, Undrain, Fuse, FuseDir, Restart}
use Rattle.hay_script.specs.declared.words.TheConstants.{MAX_LANES, MAX_LINE}
use Rattle.hay_script.specs.declared.Line.{Line}
use Rattle.hay_script.specs.declared.Line.TheVariants as line

-- LINES

abbrev pub begins_with_feed : List ℕ → Bool
begins_with_feed [] = false
begins_with_feed (b ∷ bytes) = b == 10

-- a carriage return before a line feed counts as a space
abbrev pub seen_byte : ℕ → List ℕ → ℕ
seen_byte b rest = if b == 13 && begins_with_feed rest then 32 else b

-- the lines of a script: each ends at a line feed, the last one perhaps at the script's end
abbrev pub lines_of : List ℕ → List (List ℕ)
lines_of [] = []
lines_of (b ∷ bytes) = if b == 10 then [] ∷ lines_of bytes else onto_first (seen_byte b bytes) (lines_of bytes)

abbrev pub is_blank : ℕ → Bool
is_blank b = b == 32 || b == 9

abbrev pub is_written : ℕ → Bool
is_written b = is_blank b || (nat_le 33 b && nat_le b 126)

abbrev pub is_word : List ℕ → Bool
is_word part = nat_lt 0 (length part)

-- the words of a line, which spaces and tabs part
abbrev pub words_of : List ℕ → List (List ℕ)
words_of line = filter is_word (slice_split is_blank line)

-- NUMBERS AND PHOTOS

-- 1 to 20 decimal digits, whose number is below this limit
abbrev pub below : ℕ → List ℕ → Option ℕ
below limit text =
    if nat_lt 0 (length text) && nat_le (length text) 20 && list_all is_ascii_digit text && nat_lt (digits_value 10 text) limit
    then Some (digits_value 10 text) else None

-- such a number that is not zero
abbrev pub from_one : ℕ → List ℕ → Option ℕ
from_one limit text = option_and_then (λ n. if n == 0 then None else Some n) (below limit text)

abbrev pub small : List ℕ → Option ℕ
small = below (2 ^ 32)

abbrev pub large : List ℕ → Option ℕ
large = below (2 ^ 64)

-- 1 to 16 hexadecimal digits
abbrev pub cookie_of_text : List ℕ → Option Cookie
cookie_of_text text =
    if nat_lt 0 (length text) && nat_le (length text) 16 && list_all is_hex_digit text
    then Some (record { 0 = digits_value 16 text }) else None

-- a byte, as two digits, so many times
abbrev pub equal_bytes : List ℕ → List ℕ → Option (List ℕ)
equal_bytes count digits =
    if length digits == 2 && list_all is_hex_digit digits
    then option_map (λ n. replicate n (digits_value 16 digits)) (from_one (MAX_PHOTO + 1) count) else None

-- the number and the byte of xLEN:BB
abbrev pub run_of_parts : List (List ℕ) → Option (List ℕ)
run_of_parts (count ∷ digits ∷ []) = equal_bytes count digits
run_of_parts _ = None

abbrev pub is_colon : ℕ → Bool
is_colon b = b == 58

abbrev pub hex_photo : List ℕ → Option (List ℕ)
hex_photo text =
    if nat_le 2 (length text) && nat_le (length text) (2 * MAX_PHOTO) then result_ok (decode_of text) else None

-- no bytes, one byte many times, or two digits for each byte
abbrev pub photo_of_text : List ℕ → Option (List ℕ)
photo_of_text text =
    if bytes_eq text (codes "-") then Some []
    else if starts_with ◌==◌ text (codes "x") then run_of_parts (slice_split is_colon (drop 1 text))
    else hex_photo text

-- COMMANDS

abbrev pub pair_of_text : List ℕ → List ℕ → Option Pair
pair_of_text key alt = option_and_then (λ k. option_map (λ a. record { key = k; alt = a }) (small alt)) (large key)

-- two or three small numbers
abbrev pub with_two : (ℕ → ℕ → Command) → List ℕ → List ℕ → Option Command
with_two command a b = option_and_then (λ m. option_map (command m) (small b)) (small a)

abbrev pub with_three : (ℕ → ℕ → ℕ → Command) → List ℕ → List ℕ → Option ℕ → Option Command
with_three command a b last = option_and_then (λ m. option_and_then (λ n. option_map (command m n) last) (small b)) (small a)

abbrev pub command_alone : List ℕ → Option Command
command_alone verb = if bytes_eq verb (codes "restart") then Some (Restart 0) else None

abbrev pub command_of_one : List ℕ → List ℕ → Option Command
command_of_one verb a =
    if bytes_eq verb (codes "get") then option_map Get (url_of a)
    else if bytes_eq verb (codes "drain") then option_map Drain (small a)
    else if bytes_eq verb (codes "undrain") then option_map Undrain (small a)
    else if bytes_eq verb (codes "restart") then option_map Restart (large a)
    else None

abbrev pub command_of_two : List ℕ → List ℕ → List ℕ → Option Command
command_of_two verb a b =
    if bytes_eq verb (codes "del") then option_map Del (pair_of_text a b)
    else if bytes_eq verb (codes "url") then option_map Url (pair_of_text a b)
    else if bytes_eq verb (codes "flush") then with_two Flush a b
    else if bytes_eq verb (codes "compact") then with_two Compact a b
    else if bytes_eq verb (codes "begin") then with_two Begin a b
    else if bytes_eq verb (codes "finish") then with_two Finish a b
    else if bytes_eq verb (codes "fuse") && bytes_eq a (codes "dir") then option_map FuseDir (small b)
    else None

abbrev pub command_of_three : List ℕ → List ℕ → List ℕ → List ℕ → Option Command
command_of_three verb a b c =
    if bytes_eq verb (codes "put") then option_and_then (λ pair. option_map (Put pair) (photo_of_text c)) (pair_of_text a b)
    else if bytes_eq verb (codes "read") then option_and_then (λ pair. option_map (Read pair) (cookie_of_text c)) (pair_of_text a b)
    else if bytes_eq verb (codes "step") then with_three Step a b (from_one (2 ^ 32) c)
    else if bytes_eq verb (codes "fuse") then with_three Fuse a b (small c)
    else None

abbrev pub command_of : List (List ℕ) → Option Command
command_of (verb ∷ []) = command_alone verb
command_of (verb ∷ a ∷ []) = command_of_one verb a
command_of (verb ∷ a ∷ b ∷ []) = command_of_two verb a b
command_of (verb ∷ a ∷ b ∷ c ∷ []) = command_of_three verb a b c
command_of _ = None

-- the commands that may stand in a lane
abbrev pub may_stand_in_lane : Command → Bool
may_stand_in_lane (Put pair photo) = true
may_stand_in_lane (Read pair cookie) = true
may_stand_in_lane (Get url) = true
may_stand_in_lane (Del pair) = true
may_stand_in_lane (Url pair) = true
may_stand_in_lane (Flush volume machine) = true
may_stand_in_lane (Compact volume machine) = true
may_stand_in_lane _ = false

-- WHAT A LINE SAYS

abbrev pub plain_by : Option Command → Line
plain_by (Some command) = line.Plain command
plain_by None = line.Bad

abbrev pub lanes_by : Option ℕ → Line
lanes_by (Some lanes) = line.Lanes lanes
lanes_by None = line.Bad

-- outside of a block
abbrev pub outside_line : List (List ℕ) → Line
outside_line (verb ∷ a ∷ []) = if bytes_eq verb (codes "lanes") then lanes_by (from_one (MAX_LANES + 1) a) else plain_by (command_of_one verb a)
outside_line words = plain_by (command_of words)

abbrev pub lane_line : Option ℕ → Option Command → Line
lane_line (Some lane) (Some command) = if may_stand_in_lane command then line.InLane lane command else line.Bad
lane_line _ _ = line.Bad

-- in a block of so many lanes
abbrev pub inside_line : ℕ → List (List ℕ) → Line
inside_line lanes (word ∷ []) = if bytes_eq word (codes "end") then line.End else line.Bad
inside_line lanes (lane ∷ words) = lane_line (below lanes lane) (command_of words)
inside_line lanes [] = line.Bad

abbrev pub by_place : Option ℕ → List (List ℕ) → Line
by_place None words = outside_line words
by_place (Some lanes) words = inside_line lanes words

-- A line without words, and one whose first word begins with a number sign, says nothing.
abbrev pub is_skipped : List (List ℕ) → Bool
is_skipped [] = true
is_skipped (word ∷ words) = starts_with ◌==◌ word (codes "#")

abbrev pub is_fair : List ℕ → Bool
is_fair text = nat_le (length text) MAX_LINE && list_all is_written text

-- what a line says, outside of a block or in one of so many lanes
abbrev pub line_of : Option ℕ → List ℕ → Line
line_of lanes text =
    if is_skipped (words_of text) then line.Skip
    else if is_fair text then by_place lanes (words_of text)
    else line.Bad

-- a command whose photo is no larger than a photo may be
abbrev pub IsWithin : Command → Type 0
IsWithin (Put pair photo) = length photo ≤ MAX_PHOTO
IsWithin _ = Unit {0}

abbrev pub IsWithinLine : Line → Type 0
IsWithinLine (line.Plain command) = IsWithin command
IsWithinLine (line.InLane lane command) = IsWithin command
IsWithinLine _ = Unit {0}
