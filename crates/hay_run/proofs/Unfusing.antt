-- A drill sets no fuse: no word of its script is `fuse`.
use Rattle.std.specs.Prelude.{cond, filter, flat_map, if◌then◌else◌, option_and_then, option_map}
use Rattle.std.specs.List.{AllByRecursion as Each, list_all, onto_first, range_with_len, slice_split}
use Rattle.std.specs.Char.{is_ascii_digit}
use Rattle.std.specs.Str.{bytes_eq}
use Rattle.std.proofs.Common.{◌≡◌, ◌≢◌, ◌⊎◌, inl, inr, ℕ, zero, suc, ◌+◌, ◌-◌, ◌%◌, ◌^◌, ◌<◌, ◌==◌, ◌&&◌, ◌||◌, not, nat_lt, nat_le, Bool, true, false, List, [], ◌∷◌, ◌++◌, Option, Some, None}
use Rattle.std.proofs.Common.{refl, sym, ap, subst, ◌∙◌, arith, decimal, codes}
use Rattle.std.proofs.lemmas.Bool.{and_parts, false_from_ne_true}
use Rattle.std.proofs.lemmas.Bool.Decides.{nat_tests}
use Rattle.std.proofs.lemmas.Slice.Eq.{bytes_eq-Decides}
use Rattle.hex.specs.Hex.{IsBytes, encode_lower}
use Rattle.hay_url.specs.Parts.{is_lower_hex}
use Rattle.hay_url.specs.Url.{cookie_of, cookie_text, url_of}
use Rattle.hay_url.proofs.Digits.{long_digits, lower_encoded}
use Rattle.hay_script.specs.declared.Command.{Command}
use Rattle.hay_script.specs.declared.Command.TheVariants as asks
use Rattle.hay_script.specs.declared.Line.{Line}
use Rattle.hay_script.specs.declared.Line.TheVariants as line
use Rattle.hay_script.specs.declared.words.TheConstants.{MAX_LANES}
use Rattle.hay_script.specs.Script.{begins_with_feed, command_alone, command_of, command_of_one, command_of_three, command_of_two, cookie_of_text, from_one, is_blank, is_fair, is_skipped, is_word}
use Rattle.hay_script.specs.Script.{lanes_by, large, line_of, lines_of, outside_line, pair_of_text, photo_of_text, plain_by, seen_byte, small, with_three, with_two, words_of}
use Rattle.hay_legal.specs.declared.turn.Item.TheVariants as item
use Rattle.hay_legal.specs.Items.{Asked, OpenBlock, added, at_end, fed_part, has_feed, inside, items_before, items_from, items_of, lanes_open, outside, whole_items_from}
use Rattle.hay_legal.specs.Items.Asked.{Alone, Block}
use Rattle.hay_legal.proofs.Subject.Effects.{each_append}
use Rattle.hay_drill.specs.Script.{alts, block, del_line, deletion, drill_script, each_photo, each_replica, key_of, lane_reads, lane_text, put_line, read_line, reads, replacement}
use Rattle.hay_drill.specs.Script.{replica_line, settings, size_of, uploads, volume_lines}
use Rattle.hay_run.proofs.Drilling.{decimal_digits}

-- BYTES: NO `u` BEHIND AN `f`

-- whatever this byte before them is
abbrev apart : ℕ → List ℕ → Bool
apart before [] = true
apart before (b ∷ bytes) = if before == 102 && b == 117 then false else apart b bytes

abbrev Good : List ℕ → Type 0
Good bytes = (before : ℕ) → apart before bytes ≡ true

parts : (wrong rest : Bool) → (if wrong then false else rest) ≡ true → (wrong ≡ false) × (rest ≡ true)
parts true rest h = absurd cc
parts false rest h = (refl, h)

whole : (wrong rest : Bool) → wrong ≡ false → rest ≡ true → (if wrong then false else rest) ≡ true
whole true rest alike h = absurd cc
whole false rest alike h = h

and_no : (a b : Bool) → b ≡ false → (a && b) ≡ false
and_no true b alike = alike
and_no false b alike = refl

apart_append : (before : ℕ) (xs ys : List ℕ) → apart before xs ≡ true → Good ys → apart before (xs ++ ys) ≡ true
apart_append before [] ys h good = good before
apart_append before (x ∷ xs) ys h good =
    let p = parts (before == 102 && x == 117) (apart x xs) h in
    whole (before == 102 && x == 117) (apart x (xs ++ ys)) p.0 (apart_append x xs ys p.1 good)

apart_front : (before : ℕ) (xs ys : List ℕ) → apart before (xs ++ ys) ≡ true → apart before xs ≡ true
apart_front before [] ys h = refl
apart_front before (x ∷ xs) ys h =
    let p = parts (before == 102 && x == 117) (apart x (xs ++ ys)) h in
    whole (before == 102 && x == 117) (apart x xs) p.0 (apart_front x xs ys p.1)

good_append : (xs ys : List ℕ) → Good xs → Good ys → Good (xs ++ ys)
good_append xs ys first rest before = apart_append before xs ys (first before) rest

good_each : {X : Type 0} (text : X → List ℕ) (xs : List X) → ((x : X) → Good (text x)) → Good (flat_map text xs)
good_each text [] each = λ before. refl
good_each text (x ∷ xs) each = good_append (text x) (flat_map text xs) (each x) (good_each text xs each)

good_if : (b : Bool) (xs ys : List ℕ) → Good xs → Good ys → Good (if b then xs else ys)
good_if true xs ys first other = first
good_if false xs ys first other = other

-- a text that begins with another byte than `u`
abbrev begins : List ℕ → Bool
begins [] = true
begins (x ∷ xs) = not (x == 117) && apart x xs

not_no : (b : Bool) → not b ≡ true → b ≡ false
not_no true h = absurd cc
not_no false h = refl

good_by : (xs : List ℕ) → begins xs ≡ true → Good xs
good_by [] h before = refl
good_by (x ∷ xs) h before =
    let p = and_parts (not (x == 117)) (apart x xs) h in
    whole (before == 102 && x == 117) (apart x xs) (and_no (before == 102) (x == 117) (not_no (x == 117) p.0)) p.1

-- one that has none
good_without : (xs : List ℕ) → list_all (λ x. not (x == 117)) xs ≡ true → Good xs
good_without [] h before = refl
good_without (x ∷ xs) h before =
    let p = and_parts (not (x == 117)) (list_all (λ y. not (y == 117)) xs) h in
    whole (before == 102 && x == 117) (apart x xs) (and_no (before == 102) (x == 117) (not_no (x == 117) p.0)) (good_without xs p.1 x)

digit_other : (x : ℕ) → is_ascii_digit x ≡ true → not (x == 117) ≡ true
digit_other x h = grind (arith, nat_tests)

hex_other : (x : ℕ) → is_lower_hex x ≡ true → not (x == 117) ≡ true
hex_other x h = grind (arith, nat_tests)

all_other : (is : ℕ → Bool) → ((x : ℕ) → is x ≡ true → not (x == 117) ≡ true) → (xs : List ℕ) → list_all is xs ≡ true → list_all (λ x. not (x == 117)) xs ≡ true
all_other is other [] h = refl
all_other is other (x ∷ xs) h = let p = and_parts (is x) (list_all is xs) h in rw (other x p.0, all_other is other xs p.1) refl

good_decimal : (n : ℕ) → Good (decimal n)
good_decimal n = good_without (decimal n) (all_other is_ascii_digit digit_other (decimal n) (decimal_digits n))

-- THE SCRIPT

-- parts, one behind the other
abbrev joined : List ℕ → List (List ℕ) → List ℕ
joined first [] = first
joined first (part ∷ more) = joined (first ++ part) more

good_joined : (first : List ℕ) (more : List (List ℕ)) → Good first → Each Good more → Good (joined first more)
good_joined first [] good each = good
good_joined first (part ∷ more) good each = good_joined (first ++ part) more (good_append first part good each.0) each.1

one_byte : (b : ℕ) → b < 256 → IsBytes (b ∷ [])
one_byte b below zero = below
one_byte b below (suc i) = omega arith

put_good : (key alt byte : ℕ) → byte < 256 → Good (put_line key alt byte)
put_good key alt byte below =
    let hex : List ℕ = encode_lower (byte ∷ []) in
    let good_hex : Good hex = good_without hex (all_other is_lower_hex hex_other hex (lower_encoded (byte ∷ []) (one_byte byte below))) in
    good_joined (codes "put ") (decimal key ∷ codes " " ∷ decimal alt ∷ codes " x" ∷ decimal (size_of alt) ∷ codes ":" ∷ hex ∷ codes "\n" ∷ []) (good_by (codes "put ") refl) (
      good_decimal key,
      (
        good_by (codes " ") refl,
        (
          good_decimal alt,
          (
            good_by (codes " x") refl,
            (good_decimal (size_of alt), (good_by (codes ":") refl, (good_hex, (good_by (codes "\n") refl, tt)))),
          ),
        ),
      ),
    )

del_good : (key : ℕ) → Good (del_line key)
del_good key = good_joined (codes "del ") (decimal key ∷ codes " 2\n" ∷ []) (good_by (codes "del ") refl) (good_decimal key, (good_by (codes " 2\n") refl, tt))

lane_good : (lane : Option ℕ) → Good (lane_text lane)
lane_good None = λ before. refl
lane_good (Some lane) = good_append (decimal lane) (codes " ") (good_decimal lane) (good_by (codes " ") refl)

read_good : (lane : Option ℕ) (key alt : ℕ) → Good (read_line lane key alt)
read_good lane key alt =
    let good_hex : Good (cookie_text (cookie_of settings.secret key)) =
    good_without (cookie_text (cookie_of settings.secret key)) (all_other is_lower_hex hex_other (cookie_text (cookie_of settings.secret key)) (long_digits (cookie_of settings.secret key).0).1) in
    good_joined (lane_text lane) (codes "read " ∷ decimal key ∷ codes " " ∷ decimal alt ∷ codes " " ∷ cookie_text (cookie_of settings.secret key) ∷ codes "\n" ∷ []) (lane_good lane)
    (good_by (codes "read ") refl, (good_decimal key, (good_by (codes " ") refl, (good_decimal alt, (good_by (codes " ") refl, (good_hex, (good_by (codes "\n") refl, tt)))))))

replica_good : (verb : List ℕ) → Good verb → (v j : ℕ) → Good (replica_line verb v j)
replica_good verb good v j =
    good_joined verb (codes " " ∷ decimal v ∷ codes " " ∷ decimal ((v + j) % settings.machines) ∷ codes "\n" ∷ []) good
    (good_by (codes " ") refl, (good_decimal v, (good_by (codes " ") refl, (good_decimal ((v + j) % settings.machines), (good_by (codes "\n") refl, tt)))))

replicas_good : (verb : List ℕ) → Good verb → Good (each_replica verb)
replicas_good verb good = good_each (volume_lines verb) (range_with_len 0 settings.volumes) (λ v. good_each (replica_line verb v) (range_with_len 0 settings.replicas) (replica_good verb good v))

photos_good : (text : ℕ → List ℕ) (count : ℕ) → ((i : ℕ) → Good (text i)) → Good (each_photo text count)
photos_good text count each = good_each text (range_with_len 0 count) each

uploads_good : (first i : ℕ) → Good (uploads first i)
uploads_good first i = good_each (λ alt. put_line (key_of first i) alt (i % 256)) alts (λ alt. put_good (key_of first i) alt (i % 256) (omega arith))

replacement_good : (first i : ℕ) → Good (replacement first i)
replacement_good first i =
    good_if (i % 5 == 0) (put_line (key_of first i) 1 (255 - i % 256)) [] (put_good (key_of first i) 1 (255 - i % 256) (omega arith)) (λ before. refl)

deletion_good : (first i : ℕ) → Good (deletion first i)
deletion_good first i = good_if (i % 7 == 0) (del_line (key_of first i)) [] (del_good (key_of first i)) (λ before. refl)

reads_good : (lane : Option ℕ) (first i : ℕ) → Good (reads lane first i)
reads_good lane first i = good_each (read_line lane (key_of first i)) alts (read_good lane (key_of first i))

block_good : (count first : ℕ) → Good (block count first)
block_good count first =
    good_joined (codes "lanes 5\n") (each_photo (lane_reads first) count ∷ each_replica (codes "4 compact") ∷ codes "end\n" ∷ []) (good_by (codes "lanes 5\n") refl)
    (photos_good (lane_reads first) count (λ i. reads_good (Some (i % 4)) first i), (replicas_good (codes "4 compact") (good_by (codes "4 compact") refl), (good_by (codes "end\n") refl, tt)))

script_good : (count first : ℕ) → Good (drill_script count first)
script_good count first =
    good_joined (each_photo (uploads first) count)
    (each_photo (replacement first) count ∷ each_photo (deletion first) count ∷ each_replica (codes "flush") ∷ block count first ∷ codes "restart 0\n" ∷ each_photo (reads None first) count ∷ [])
    (photos_good (uploads first) count (uploads_good first)) (
      photos_good (replacement first) count (replacement_good first),
      (
        photos_good (deletion first) count (deletion_good first),
        (
          replicas_good (codes "flush") (good_by (codes "flush") refl),
          (
            block_good count first,
            (good_by (codes "restart 0\n") refl, (photos_good (reads None first) count (reads_good None first), tt)),
          ),
        ),
      ),
    )

-- LINES AND WORDS

-- the first of them behind this byte, and each behind any other than `f`
abbrev AreApart : ℕ → List (List ℕ) → Type 0
AreApart before [] = Unit {0}
AreApart before (part ∷ more) = (apart before part ≡ true) × Each (λ p. apart 0 p ≡ true) more

weaker : (before other : ℕ) (xs : List ℕ) → (other == 102) ≡ false → apart before xs ≡ true → apart other xs ≡ true
weaker before other [] alike h = refl
weaker before other (x ∷ xs) alike h =
    let p = parts (before == 102 && x == 117) (apart x xs) h in whole (other == 102 && x == 117) (apart x xs) (ap (λ b. b && x == 117) alike) p.1

all_apart : (before : ℕ) (all : List (List ℕ)) → AreApart before all → Each (λ p. apart 0 p ≡ true) all
all_apart before [] are = tt
all_apart before (part ∷ more) are = (weaker before 0 part refl are.0, are.1)

onto : (before x y : ℕ) (all : List (List ℕ)) → (before == 102 && y == 117) ≡ false → ((p : List ℕ) → apart x p ≡ true → apart y p ≡ true) → AreApart x all → AreApart before (onto_first y all)
onto before x y [] alike to are = (whole (before == 102 && y == 117) true alike refl, tt)
onto before x y (part ∷ more) alike to are = (whole (before == 102 && y == 117) (apart y part) alike (to part are.0), are.1)

lines_apart : (before : ℕ) (xs : List ℕ) → apart before xs ≡ true → AreApart before (lines_of xs)
lines_apart before [] h = tt
lines_apart before (x ∷ xs) h = let p = parts (before == 102 && x == 117) (apart x xs) h in by p.0 (lines_apart x xs p.1) (x == 10)
  where
    seen : (before == 102 && x == 117) ≡ false → AreApart x (lines_of xs) → (b : Bool) → AreApart before (onto_first (if b then 32 else x) (lines_of xs))
    seen alike rest true = onto before x 32 (lines_of xs) (and_no (before == 102) false refl) (λ q. weaker x 32 q refl) rest
    seen alike rest false = onto before x x (lines_of xs) alike (λ q a. a) rest

    by : (before == 102 && x == 117) ≡ false → AreApart x (lines_of xs) → (b : Bool) → AreApart before (if b then [] ∷ lines_of xs else onto_first (seen_byte x xs) (lines_of xs))
    by alike rest true = (refl, all_apart x (lines_of xs) rest)
    by alike rest false = seen alike rest (x == 13 && begins_with_feed xs)

parts_apart : (before : ℕ) (xs : List ℕ) → apart before xs ≡ true → AreApart before (slice_split is_blank xs)
parts_apart before [] h = (refl, tt)
parts_apart before (x ∷ xs) h = let p = parts (before == 102 && x == 117) (apart x xs) h in by p.0 (parts_apart x xs p.1) (is_blank x)
  where
    by : (before == 102 && x == 117) ≡ false → AreApart x (slice_split is_blank xs) → (b : Bool)
        → AreApart before (cond b ([] ∷ slice_split is_blank xs) (onto_first x (slice_split is_blank xs)))
    by alike rest true = (refl, all_apart x (slice_split is_blank xs) rest)
    by alike rest false = onto before x x (slice_split is_blank xs) alike (λ q a. a) rest

each_filter : {A : Type 0} (P : A → Type 0) (keep : A → Bool) (xs : List A) → Each P xs → Each P (filter keep xs)
each_filter P keep [] each = tt
each_filter P keep (x ∷ xs) each = by (each_filter P keep xs each.1) (keep x)
  where
    by : Each P (filter keep xs) → (b : Bool) → Each P (cond b (x ∷ filter keep xs) (filter keep xs))
    by rest true = (each.0, rest)
    by rest false = rest

words_apart : (text : List ℕ) → apart 0 text ≡ true → Each (λ p. apart 0 p ≡ true) (words_of text)
words_apart text h = each_filter (λ p. apart 0 p ≡ true) is_word (slice_split is_blank text) (all_apart 0 (slice_split is_blank text) (parts_apart 0 text h))

not_fuse : (verb : List ℕ) → apart 0 verb ≡ true → bytes_eq verb (codes "fuse") ≡ false
not_fuse verb h = false_from_ne_true (bytes_eq verb (codes "fuse")) (λ e.
    let same : verb ≡ codes "fuse" = (bytes_eq-Decides verb (codes "fuse")).0 e in
    let wrong : apart 0 (codes "fuse") ≡ true = subst (λ w. apart 0 w ≡ true) same h in
    cc wrong)

-- COMMANDS

-- it sets no fuse
abbrev pub IsMild : Command → Type 0
IsMild (asks.Put pair photo) = Unit {0}
IsMild (asks.Read pair cookie) = Unit {0}
IsMild (asks.Get url) = Unit {0}
IsMild (asks.Del pair) = Unit {0}
IsMild (asks.Url pair) = Unit {0}
IsMild (asks.Flush v m) = Unit {0}
IsMild (asks.Compact v m) = Unit {0}
IsMild (asks.Begin v m) = Unit {0}
IsMild (asks.Step v m cells) = Unit {0}
IsMild (asks.Finish v m) = Unit {0}
IsMild (asks.Drain m) = Unit {0}
IsMild (asks.Undrain m) = Unit {0}
IsMild (asks.Fuse v m calls) = ⊥
IsMild (asks.FuseDir calls) = ⊥
IsMild (asks.Restart pick) = Unit {0}

abbrev MayBeMild : Option Command → Type 0
MayBeMild None = Unit {0}
MayBeMild (Some command) = IsMild command

either : (b : Bool) (x y : Option Command) → MayBeMild x → MayBeMild y → MayBeMild (if b then x else y)
either true x y first other = first
either false x y first other = other

never : (b : Bool) (x y : Option Command) → b ≡ false → MayBeMild y → MayBeMild (if b then x else y)
never true x y alike other = absurd cc
never false x y alike other = other

mapped : {X : Type 0} (command : X → Command) (o : Option X) → ((x : X) → IsMild (command x)) → MayBeMild (option_map command o)
mapped command None each = tt
mapped command (Some x) each = each x

then_mild : {X : Type 0} (command : X → Option Command) (o : Option X) → ((x : X) → MayBeMild (command x)) → MayBeMild (option_and_then command o)
then_mild command None each = tt
then_mild command (Some x) each = each x

two_mild : (command : ℕ → ℕ → Command) (a b : List ℕ) → ((x y : ℕ) → IsMild (command x y)) → MayBeMild (with_two command a b)
two_mild command a b each = then_mild (λ m. option_map (command m) (small b)) (small a) (λ m. mapped (command m) (small b) (each m))

three_mild : (command : ℕ → ℕ → ℕ → Command) (a b : List ℕ) (last : Option ℕ) → ((x y z : ℕ) → IsMild (command x y z)) → MayBeMild (with_three command a b last)
three_mild command a b last each =
    then_mild (λ m. option_and_then (λ n. option_map (command m n) last) (small b)) (small a)
    (λ m. then_mild (λ n. option_map (command m n) last) (small b) (λ n. mapped (command m n) last (each m n)))

of_none : (verb : List ℕ) → MayBeMild (command_alone verb)
of_none verb = either (bytes_eq verb (codes "restart")) (Some (asks.Restart 0)) None tt tt

of_one : (verb a : List ℕ) → MayBeMild (command_of_one verb a)
of_one verb a =
    either (bytes_eq verb (codes "get")) _ _ (mapped asks.Get (url_of a) (λ x. tt))
    (either (bytes_eq verb (codes "drain")) _ _ (mapped asks.Drain (small a) (λ x. tt))
    (either (bytes_eq verb (codes "undrain")) _ _ (mapped asks.Undrain (small a) (λ x. tt))
    (either (bytes_eq verb (codes "restart")) _ _ (mapped asks.Restart (large a) (λ x. tt)) tt)))

of_two : (verb a b : List ℕ) → bytes_eq verb (codes "fuse") ≡ false → MayBeMild (command_of_two verb a b)
of_two verb a b alike =
    either (bytes_eq verb (codes "del")) _ _ (mapped asks.Del (pair_of_text a b) (λ x. tt))
    (either (bytes_eq verb (codes "url")) _ _ (mapped asks.Url (pair_of_text a b) (λ x. tt))
    (either (bytes_eq verb (codes "flush")) _ _ (two_mild asks.Flush a b (λ x y. tt))
    (either (bytes_eq verb (codes "compact")) _ _ (two_mild asks.Compact a b (λ x y. tt))
    (either (bytes_eq verb (codes "begin")) _ _ (two_mild asks.Begin a b (λ x y. tt))
    (either (bytes_eq verb (codes "finish")) _ _ (two_mild asks.Finish a b (λ x y. tt))
    (never (bytes_eq verb (codes "fuse") && bytes_eq a (codes "dir")) _ _ (ap (λ z. z && bytes_eq a (codes "dir")) alike) tt))))))

of_three : (verb a b c : List ℕ) → bytes_eq verb (codes "fuse") ≡ false → MayBeMild (command_of_three verb a b c)
of_three verb a b c alike =
    either (bytes_eq verb (codes "put")) _ _
    (then_mild (λ pair. option_map (asks.Put pair) (photo_of_text c)) (pair_of_text a b) (λ pair. mapped (asks.Put pair) (photo_of_text c) (λ x. tt)))
    (either (bytes_eq verb (codes "read")) _ _
    (then_mild (λ pair. option_map (asks.Read pair) (cookie_of_text c)) (pair_of_text a b) (λ pair. mapped (asks.Read pair) (cookie_of_text c) (λ x. tt)))
    (either (bytes_eq verb (codes "step")) _ _ (three_mild asks.Step a b (from_one (2 ^ 32) c) (λ x y z. tt))
    (never (bytes_eq verb (codes "fuse")) _ _ alike tt)))

of_words : (words : List (List ℕ)) → Each (λ p. apart 0 p ≡ true) words → MayBeMild (command_of words)
of_words [] each = tt
of_words (verb ∷ []) each = of_none verb
of_words (verb ∷ a ∷ []) each = of_one verb a
of_words (verb ∷ a ∷ b ∷ []) each = of_two verb a b (not_fuse verb each.0)
of_words (verb ∷ a ∷ b ∷ c ∷ []) each = of_three verb a b c (not_fuse verb each.0)
of_words (verb ∷ a ∷ b ∷ c ∷ d ∷ more) each = tt

-- WHAT A LINE OUTSIDE OF BLOCKS SAYS

abbrev IsMildLine : Line → Type 0
IsMildLine line.Skip = Unit {0}
IsMildLine (line.Plain command) = IsMild command
IsMildLine (line.Lanes lanes) = Unit {0}
IsMildLine (line.InLane lane command) = Unit {0}
IsMildLine line.End = Unit {0}
IsMildLine line.Bad = Unit {0}

line_either : (b : Bool) (x y : Line) → IsMildLine x → IsMildLine y → IsMildLine (if b then x else y)
line_either true x y first other = first
line_either false x y first other = other

plain_mild : (o : Option Command) → MayBeMild o → IsMildLine (plain_by o)
plain_mild None mild = tt
plain_mild (Some command) mild = mild

lanes_mild : (o : Option ℕ) → IsMildLine (lanes_by o)
lanes_mild None = tt
lanes_mild (Some lanes) = tt

outside_mild : (words : List (List ℕ)) → Each (λ p. apart 0 p ≡ true) words → IsMildLine (outside_line words)
outside_mild [] each = tt
outside_mild (verb ∷ []) each = plain_mild (command_of (verb ∷ [])) (of_words (verb ∷ []) each)
outside_mild (verb ∷ a ∷ []) each =
    line_either (bytes_eq verb (codes "lanes")) (lanes_by (from_one (MAX_LANES + 1) a)) (plain_by (command_of_one verb a)) (lanes_mild (from_one (MAX_LANES + 1) a))
    (plain_mild (command_of_one verb a) (of_one verb a))
outside_mild (verb ∷ a ∷ b ∷ more) each = plain_mild (command_of (verb ∷ a ∷ b ∷ more)) (of_words (verb ∷ a ∷ b ∷ more) each)

line_mild : (text : List ℕ) → apart 0 text ≡ true → IsMildLine (line_of None text)
line_mild text h =
    line_either (is_skipped (words_of text)) line.Skip (if is_fair text then outside_line (words_of text) else line.Bad) tt
    (line_either (is_fair text) (outside_line (words_of text)) line.Bad (outside_mild (words_of text) (words_apart text h)) tt)

-- ITEMS

abbrev pub IsMildAsked : Asked → Type 0
IsMildAsked (Alone number (item.Command command)) = IsMild command
IsMildAsked (Alone number item.Bad) = Unit {0}
IsMildAsked (Block lines) = Unit {0}

outside_asked : (number : ℕ) (says : Line) → IsMildLine says → Each IsMildAsked (outside number says).0
outside_asked number line.Skip mild = tt
outside_asked number (line.Plain command) mild = (mild, tt)
outside_asked number (line.Lanes lanes) mild = tt
outside_asked number (line.InLane lane command) mild = (tt, tt)
outside_asked number line.End mild = (tt, tt)
outside_asked number line.Bad mild = (tt, tt)

inside_asked : (number : ℕ) (held : OpenBlock) (says : Line) → Each IsMildAsked (inside number held says).0
inside_asked number held line.Skip = tt
inside_asked number held (line.Plain command) = tt
inside_asked number held (line.Lanes lanes) = tt
inside_asked number held (line.InLane lane command) = tt
inside_asked number held line.End = (tt, tt)
inside_asked number held line.Bad = tt

added_asked : (number : ℕ) (held : Option OpenBlock) (text : List ℕ) → apart 0 text ≡ true → Each IsMildAsked (added number held (line_of (lanes_open held) text)).0
added_asked number None text h = outside_asked number (line_of None text) (line_mild text h)
added_asked number (Some held) text h = inside_asked number held (line_of (lanes_open (Some held)) text)

ends_asked : (held : Option OpenBlock) → Each IsMildAsked (at_end held)
ends_asked None = tt
ends_asked (Some held) = (tt, tt)

items_mild : (number : ℕ) (held : Option OpenBlock) (texts : List (List ℕ)) → Each (λ p. apart 0 p ≡ true) texts → Each IsMildAsked (items_from number held texts)
items_mild number held [] each = ends_asked held
items_mild number held (text ∷ texts) each =
    let next : List Asked × Option OpenBlock = added number held (line_of (lanes_open held) text) in
    each_append IsMildAsked next.0 (items_from (number + 1) next.1 texts) (added_asked number held text each.0) (items_mild (number + 1) next.1 texts each.1)

whole_mild : (number : ℕ) (held : Option OpenBlock) (texts : List (List ℕ)) → Each (λ p. apart 0 p ≡ true) texts → Each IsMildAsked (whole_items_from number held texts)
whole_mild number held [] each = tt
whole_mild number held (text ∷ texts) each =
    let next : List Asked × Option OpenBlock = added number held (line_of (lanes_open held) text) in
    each_append IsMildAsked next.0 (whole_items_from (number + 1) next.1 texts) (added_asked number held text each.0) (whole_mild (number + 1) next.1 texts each.1)

fed_apart : (before : ℕ) (xs : List ℕ) → apart before xs ≡ true → apart before (fed_part xs) ≡ true
fed_apart before [] h = refl
fed_apart before (x ∷ xs) h = let p = parts (before == 102 && x == 117) (apart x xs) h in by p.0 (fed_apart x xs p.1) (has_feed (x ∷ xs))
  where
    by : (before == 102 && x == 117) ≡ false → apart x (fed_part xs) ≡ true → (b : Bool) → apart before (if b then x ∷ fed_part xs else []) ≡ true
    by alike rest true = whole (before == 102 && x == 117) (apart x (fed_part xs)) alike rest
    by alike rest false = refl

-- what is read of a drill's script asks for no fuse
module _ (count first : ℕ) (read rest : List ℕ) (is : drill_script count first ≡ read ++ rest) where
  read_apart : apart 0 read ≡ true
  read_apart = apart_front 0 read rest (subst (λ script. apart 0 script ≡ true) is (script_good count first 0))

  pub all_mild : Each IsMildAsked (items_of read)
  all_mild = items_mild 1 None (lines_of read) (all_apart 0 (lines_of read) (lines_apart 0 read read_apart))

  pub before_mild : Each IsMildAsked (items_before read)
  before_mild = whole_mild 1 None (lines_of (fed_part read)) (all_apart 0 (lines_of (fed_part read)) (lines_apart 0 (fed_part read) (fed_apart 0 read read_apart)))
