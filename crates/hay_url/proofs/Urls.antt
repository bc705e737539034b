-- The texts of URLs, as texts made of parts.
use Rattle.std.proofs.Common.{◌≡◌, ℕ, ◌+◌, ◌-◌, ◌^◌, ◌==◌, ◌&&◌, nat_lt, ◌<◌, ◌≤◌, zero, suc, Bool, true, false, List, [], ◌∷◌, ◌++◌, length, take, drop, replicate, Option, Some}
use Rattle.std.proofs.Common.{None, refl, sym, ◌∙◌, ap, subst, arith, if◌then◌else◌, codes, decimal, append_assoc, append-nil}
use Rattle.std.specs.List.{list_all, slice_split}
use Rattle.std.specs.Str.{bytes_eq}
use Rattle.std.specs.Str.Parse.{AllDigits, digits_value}
use Rattle.std.specs.List.{All}
use Rattle.std.proofs.lemmas.List.Elements.{All-nil, All-cons}
use Rattle.std.proofs.lemmas.List.Splits.{slice_split_at, slice_split_none}
use Rattle.std.proofs.lemmas.Slice.Eq.{bytes_eq-Decides}
use Rattle.std.proofs.lemmas.Str.Parse.{digit_from_value}
use Rattle.std.proofs.lemmas.Bool.{and_parts}
use Rattle.std.proofs.lemmas.Bool.Decides.{nat_tests}
use Rattle.hay_needle.specs.declared.needle.Pair.{Pair}
use Rattle.hay_needle.specs.declared.needle.Cookie.{Cookie}
use Rattle.hay_url.specs.declared.Url.{Url}
use Rattle.hay_url.specs.Url.{url_text, url_of, url_of_parts, checked_url, is_mark, long_hex, cookie_text, FitsUrl, IsUrlText, IsUrlFault}
use Rattle.hay_url.specs.Parts.{Fault, End, Fits, fits, is_lower_hex, misfit, numbers_template, FromKey, FromVolume, FromMachine, Whole, key_text, volume_text, machine_text, Numbered}
use Rattle.hay_url.proofs.Languages.{behind_part, past_end}
use Rattle.hay_url.proofs.Templates.{and_both, and_true, plain, code, misfit_none}
use Rattle.std.proofs.lemmas.List.{length-take-le, take-append-drop, take_all, length-drop}
use Rattle.std.proofs.Math.Seq.{take-append_seam, drop-append-add}
use Rattle.hay_url.proofs.Digits.{short_hex, long_text, short_text, long_digits, short_digits, hex_below, long_value, short_value}
use Rattle.hay_url.proofs.Decimals.{digits_of, value_of}

-- DIGITS AND TEMPLATES

fits_digits : (n : ℕ) (text template : List ℕ) → Fits (replicate n 35 ++ template) text
    → (digits : List ℕ) × (more : List ℕ) × (text ≡ digits ++ more) × (length digits ≡ n) × (list_all is_lower_hex digits ≡ true) × Fits template more
fits_digits zero text template h = ([], text, refl, refl, refl, h)
fits_digits (suc n) [] template h = cc
fits_digits (suc n) (b ∷ text) template h =
    let parts = and_true (is_lower_hex b) (fits (replicate n 35 ++ template) text) h in
    let further = fits_digits n text template parts.1 in
    (b ∷ further.0, further.1, ap (λ t. b ∷ t) further.2, omega (arith, further.3), and_both (is_lower_hex b) (list_all is_lower_hex further.0) parts.0 further.4, further.5)

fits_mark : (text template : List ℕ) → Fits (95 ∷ template) text → (more : List ℕ) × (text ≡ 95 ∷ more) × Fits template more
fits_mark [] template h = cc
fits_mark (b ∷ text) template h =
    let parts = and_true (b == 95) (fits template text) h in
    let same : b ≡ 95 = grind (arith, nat_tests) in
    (text, ap (λ c. c ∷ text) same, parts.1)

fits_nothing : (text : List ℕ) → Fits [] text → text ≡ []
fits_nothing [] h = refl
fits_nothing (b ∷ text) h = cc

pub numbered : (text : List ℕ) → Fits numbers_template text → (key : List ℕ) × (alt : List ℕ) × (cookie : List ℕ) × Numbered text key alt cookie
numbered text h =
    let one = fits_digits 16 text (95 ∷ (replicate 8 35 ++ (95 ∷ (replicate 16 35 ++ [])))) h in
    let two = fits_mark one.1 (replicate 8 35 ++ (95 ∷ (replicate 16 35 ++ []))) one.5 in
    let three = fits_digits 8 two.0 (95 ∷ (replicate 16 35 ++ [])) two.2 in
    let four = fits_mark three.1 (replicate 16 35 ++ []) three.5 in
    let five = fits_digits 16 four.0 [] four.2 in
    let end = fits_nothing five.1 five.5 in
    let cookie : four.0 ≡ five.0 = five.2 ∙ ap (λ t. five.0 ++ t) end ∙ append-nil five.0 in (
      one.0,
      three.0,
      five.0,
      record {
        all = one.2 ∙ ap (λ t. one.0 ++ t) (two.1 ∙ ap (λ t. 95 ∷ t) (three.2 ∙ ap (λ t. three.0 ++ t) (four.1 ∙ ap (λ t. 95 ∷ t) cookie)));
        key_length = one.3;
        alt_length = three.3;
        cookie_length = five.3;
        key_digits = one.4;
        alt_digits = three.4;
        cookie_digits = five.4;
      },
    )

digits_fit : (digits more template : List ℕ) → list_all is_lower_hex digits ≡ true → Fits template more → Fits (replicate (length digits) 35 ++ template) (digits ++ more)
digits_fit [] more template all h = h
digits_fit (b ∷ digits) more template all h =
    let parts = and_parts (is_lower_hex b) (list_all is_lower_hex digits) all in
    and_both (is_lower_hex b) (fits (replicate (length digits) 35 ++ template) (digits ++ more)) parts.0 (digits_fit digits more template parts.1 h)

pub numbers_fit : (text key alt cookie : List ℕ) → Numbered text key alt cookie → Fits numbers_template text
numbers_fit text key alt cookie n =
    let last : Fits (replicate 16 35 ++ []) cookie =
    subst (λ t. Fits (replicate 16 35 ++ []) t) (append-nil cookie) (subst (λ m. Fits (replicate m 35 ++ []) (cookie ++ [])) n.cookie_length (digits_fit cookie [] [] n.cookie_digits refl)) in
    let middle : Fits (replicate 8 35 ++ 95 ∷ (replicate 16 35 ++ [])) (alt ++ 95 ∷ cookie) =
    subst (λ m. Fits (replicate m 35 ++ 95 ∷ (replicate 16 35 ++ [])) (alt ++ 95 ∷ cookie)) n.alt_length (digits_fit alt (95 ∷ cookie) (95 ∷ (replicate 16 35 ++ [])) n.alt_digits last) in
    let first : Fits (replicate 16 35 ++ 95 ∷ (replicate 8 35 ++ 95 ∷ (replicate 16 35 ++ []))) (key ++ 95 ∷ (alt ++ 95 ∷ cookie)) =
    subst (λ m. Fits (replicate m 35 ++ 95 ∷ (replicate 8 35 ++ 95 ∷ (replicate 16 35 ++ []))) (key ++ 95 ∷ (alt ++ 95 ∷ cookie))) n.key_length
    (digits_fit key (95 ∷ (alt ++ 95 ∷ cookie)) (95 ∷ (replicate 8 35 ++ 95 ∷ (replicate 16 35 ++ []))) n.key_digits middle) in
    rw n.all first

key_slice : (text key alt cookie : List ℕ) → Numbered text key alt cookie → take 16 text ≡ key
key_slice text key alt cookie n = ap (take 16) n.all ∙ ap (λ i. take i (key ++ 95 ∷ (alt ++ 95 ∷ cookie))) (sym n.key_length) ∙ take-append_seam key (95 ∷ (alt ++ 95 ∷ cookie))

from_alt : (text key alt cookie : List ℕ) (j : ℕ) → Numbered text key alt cookie → drop (16 + j) text ≡ drop j (95 ∷ (alt ++ 95 ∷ cookie))
from_alt text key alt cookie j n = ap (drop (16 + j)) n.all ∙ ap (λ i. drop (i + j) (key ++ 95 ∷ (alt ++ 95 ∷ cookie))) (sym n.key_length) ∙ drop-append-add key (95 ∷ (alt ++ 95 ∷ cookie)) j

alt_slice : (text key alt cookie : List ℕ) → Numbered text key alt cookie → take 8 (drop 17 text) ≡ alt
alt_slice text key alt cookie n = ap (take 8) (from_alt text key alt cookie 1 n) ∙ ap (λ i. take i (alt ++ 95 ∷ cookie)) (sym n.alt_length) ∙ take-append_seam alt (95 ∷ cookie)

cookie_slice : (text key alt cookie : List ℕ) → Numbered text key alt cookie → 42 ≤ length text → take (length text - 26) (drop 26 text) ≡ cookie
cookie_slice text key alt cookie n long =
    let back : drop 26 text ≡ cookie = from_alt text key alt cookie 10 n ∙ ap (λ i. drop (i + 1) (alt ++ 95 ∷ cookie)) (sym n.alt_length) ∙ drop-append-add alt (95 ∷ cookie) 1 in
    ap (take (length text - 26)) back ∙ take_all (length text - 26) cookie (omega (arith, n.cookie_length))

-- a text that goes on behind its numbers
pub numbers_then_more : (text : List ℕ) → misfit numbers_template text ≡ None → 42 < length text → Fault FromKey text 42
numbers_then_more text fit long =
    let front = misfit_none numbers_template text fit in
    let size : length (take 42 text) + 0 ≡ 42 = omega (arith, length-take-le 42 text (omega arith)) in
    let whole : take 42 text ++ drop 42 text ≡ text = take-append-drop 42 text in
    let behind = behind_part (Fits numbers_template) End (code numbers_template) (take 42 text) (drop 42 text) 0 front.1 (past_end (drop 42 text) (omega (arith, length-drop 42 text))) in
    rw (size, whole) at behind

pub numbers_split : (text : List ℕ) → misfit numbers_template text ≡ None → length text ≤ 42 → Numbered text (take 16 text) (take 8 (drop 17 text)) (take (length text - 26) (drop 26 text))
numbers_split text fit short =
    let front = misfit_none numbers_template text fit in
    let n = numbered text (subst (Fits numbers_template) (take_all 42 text short) front.1) in
    let part = n.3 in
    let at_key = key_slice text n.0 n.1 n.2 part in
    let at_alt = alt_slice text n.0 n.1 n.2 part in
    let at_cookie = cookie_slice text n.0 n.1 n.2 part (omega (arith, front.0)) in
    rw (at_key, at_alt, at_cookie) part

-- FROM THE KEY ON

-- what its digits say has this text
pub key_text_is : (text key alt cookie : List ℕ) → Numbered text key alt cookie → text
    ≡ key_text (record { key = digits_value 16 key; alt = digits_value 16 alt }) (record { 0 = digits_value 16 cookie })
key_text_is text key alt cookie n =
    n.all
    ∙ ap (λ t. t ++ 95 ∷ (alt ++ 95 ∷ cookie)) (sym (long_text key n.key_length n.key_digits))
    ∙ ap (λ t. long_hex (digits_value 16 key) ++ 95 ∷ (t ++ 95 ∷ cookie)) (sym (short_text alt n.alt_length n.alt_digits))
    ∙ ap (λ t. long_hex (digits_value 16 key) ++ 95 ∷ (short_hex (digits_value 16 alt) ++ 95 ∷ t)) (sym (long_text cookie n.cookie_length n.cookie_digits))

numbered_text : (pair : Pair) (cookie : Cookie) → Numbered (key_text pair cookie) (long_hex pair.key) (short_hex pair.alt) (long_hex cookie.0)
numbered_text pair cookie = record {
  all = refl;
  key_length = (long_digits pair.key).0;
  alt_length = (short_digits pair.alt).0;
  cookie_length = (long_digits cookie.0).0;
  key_digits = (long_digits pair.key).1;
  alt_digits = (short_digits pair.alt).1;
  cookie_digits = (long_digits cookie.0).1;
}

pub from_key : (pair : Pair) (cookie : Cookie) → FromKey (key_text pair cookie)
from_key pair cookie = record {
  part = key_text pair cookie;
  rest = [];
  is_part = numbers_fit (key_text pair cookie) (long_hex pair.key) (short_hex pair.alt) (long_hex cookie.0) (numbered_text pair cookie);
  is_rest = refl;
  all = append-nil (key_text pair cookie);
}

pub from_volume : (volume : ℕ) (pair : Pair) (cookie : Cookie) → volume < 2 ^ 32 → FromVolume (volume_text volume pair cookie)
from_volume volume pair cookie small = record {
  part = decimal volume ++ 44 ∷ [];
  rest = key_text pair cookie;
  is_part = (volume, small, refl);
  is_rest = from_key pair cookie;
  all = append_assoc (decimal volume) (44 ∷ []) (key_text pair cookie);
}

pub from_machine : (url : Url) → url.machine < 2 ^ 32 → url.volume < 2 ^ 32 → FromMachine (machine_text url)
from_machine url small less = record {
  part = decimal url.machine ++ 47 ∷ [];
  rest = volume_text url.volume url.pair url.cookie;
  is_part = (url.machine, small, refl);
  is_rest = from_volume url.volume url.pair url.cookie less;
  all = append_assoc (decimal url.machine) (47 ∷ []) (volume_text url.volume url.pair url.cookie);
}

-- a URL's text is one of these
whole_of : (url : Url) → url.machine < 2 ^ 32 → url.volume < 2 ^ 32 → Whole (codes "http://store/" ++ machine_text url)
whole_of url small less = record {
  part = codes "http://store/";
  rest = machine_text url;
  is_part = refl;
  is_rest = from_machine url small less;
  all = refl;
}

pub joined : (machine volume key alt cookie : List ℕ) → codes "http://store/" ++ (machine
    ++ (codes "/" ++ (volume ++ (codes "," ++ (key ++ (codes "_" ++ (alt ++ (codes "_" ++ cookie))))))))
    ≡ codes "http://store/" ++ machine ++ codes "/" ++ volume ++ codes "," ++ key ++ codes "_" ++ alt ++ codes "_" ++ cookie
joined machine volume key alt cookie = simp append_assoc

pub url_text_is : (url : Url) → codes "http://store/" ++ machine_text url ≡ url_text url
url_text_is url = joined (decimal url.machine) (decimal url.volume) (long_hex url.pair.key) (short_hex url.pair.alt) (cookie_text url.cookie)

-- and such a text is a URL's
key_of : (text : List ℕ) → FromKey text → (pair : Pair) × (cookie : Cookie) × (pair.key < 2 ^ 64) × (pair.alt < 2 ^ 32) × (cookie.0 < 2 ^ 64) × (text ≡ key_text pair cookie)
key_of text k =
    let n = numbered k.part k.is_part in
    let part = n.3 in
    let end : text ≡ k.part = sym k.all ∙ ap (λ t. k.part ++ t) k.is_rest ∙ append-nil k.part in (
      record { key = digits_value 16 n.0; alt = digits_value 16 n.1 },
      record { 0 = digits_value 16 n.2 },
      hex_below 16 n.0 (omega (arith, part.key_length)) part.key_digits,
      hex_below 8 n.1 (omega (arith, part.alt_length)) part.alt_digits,
      hex_below 16 n.2 (omega (arith, part.cookie_length)) part.cookie_digits,
      end ∙ key_text_is k.part n.0 n.1 n.2 part,
    )

pub whole_in : (text : List ℕ) → Whole text → IsUrlText text
whole_in text w =
    let m = w.is_rest in
    let v = m.is_rest in
    let k = key_of v.rest v.is_rest in
    let url : Url = record { machine = m.is_part.0; volume = v.is_part.0; pair = k.0; cookie = k.1 } in
    let from : v.rest ≡ key_text k.0 k.1 = k.5 in
    let back : m.rest ≡ volume_text v.is_part.0 k.0 k.1 =
    sym v.all ∙ ap (λ t. t ++ v.rest) v.is_part.2 ∙ append_assoc (decimal v.is_part.0) (44 ∷ []) v.rest ∙ ap (λ t. decimal v.is_part.0 ++ 44 ∷ t) from in
    let middle : w.rest ≡ machine_text url = sym m.all ∙ ap (λ t. t ++ m.rest) m.is_part.2 ∙ append_assoc (decimal m.is_part.0) (47 ∷ []) m.rest ∙ ap (λ t. decimal m.is_part.0 ++ 47 ∷ t) back in
    let front : w.part ≡ codes "http://store/" = plain (codes "http://store/") w.part refl w.is_part in
    let all : text ≡ codes "http://store/" ++ machine_text url = sym w.all ∙ ap (λ t. t ++ w.rest) front ∙ ap (λ t. codes "http://store/" ++ t) middle in
    (url, record { machine = m.is_part.1; volume = v.is_part.1; key = k.2; alt = k.3; cookie = k.4 }, sym (url_text_is url) ∙ sym all)

url_in : (text : List ℕ) → IsUrlText text → Whole text
url_in text u = subst Whole (url_text_is u.0 ∙ u.2) (whole_of u.0 (u.1).machine (u.1).volume)

-- a text that leaves these is no URL's
pub fault_is : (text : List ℕ) (at : ℕ) → Fault Whole text at → IsUrlFault text at
fault_is text at fault = record {
  none = λ u. fault.none (url_in text u);
  within = fault.within;
  begins = (fault.begins.0, whole_in (take at text ++ fault.begins.0) fault.begins.1);
  longest = λ k within begins. fault.longest k within (begins.0, url_in (take k text ++ begins.0) begins.1);
}

-- some text stands behind each part
pub some_key : (text : List ℕ) × FromKey text
some_key = (key_text (record { key = 0; alt = 0 }) (record { 0 = 0 }), from_key (record { key = 0; alt = 0 }) (record { 0 = 0 }))

pub some_volume : (text : List ℕ) × FromVolume text
some_volume = (volume_text 0 (record { key = 0; alt = 0 }) (record { 0 = 0 }), from_volume 0 (record { key = 0; alt = 0 }) (record { 0 = 0 }) (omega arith))

pub some_machine : (text : List ℕ) × FromMachine text
some_machine = (
  machine_text (record { machine = 0; volume = 0; pair = record { key = 0; alt = 0 }; cookie = record { 0 = 0 } }),
  from_machine (record { machine = 0; volume = 0; pair = record { key = 0; alt = 0 }; cookie = record { 0 = 0 } }) (omega arith) (omega arith),
)

-- what stands behind the store's name
pub store_then : (text : List ℕ) (at : ℕ) → misfit (codes "http://store/") text ≡ None → Fault FromMachine (drop 13 text) at → Fault Whole text (13 + at)
store_then text at fit fault =
    let front = misfit_none (codes "http://store/") text fit in
    let size : length (take 13 text) ≡ 13 = length-take-le 13 text front.0 in
    let whole : take 13 text ++ drop 13 text ≡ text = take-append-drop 13 text in
    let behind = behind_part (Fits (codes "http://store/")) FromMachine (code (codes "http://store/")) (take 13 text) (drop 13 text) at front.1 fault in
    rw (size, whole) at behind

-- THE URL OF A TEXT

unmarked_decimal : (digits : List ℕ) → AllDigits 10 digits → All (λ b. is_mark b ≡ false) digits
unmarked_decimal [] all = All-nil (λ b. is_mark b ≡ false)
unmarked_decimal (b ∷ digits) all =
    let code = digit_from_value b all.0 in
    All-cons (λ b. is_mark b ≡ false) b digits (grind (arith, nat_tests)) (unmarked_decimal digits all.1)

no_mark : (b : ℕ) → is_lower_hex b ≡ true → is_mark b ≡ false
no_mark b h = grind (arith, nat_tests)

unmarked_hex : (digits : List ℕ) → list_all is_lower_hex digits ≡ true → All (λ b. is_mark b ≡ false) digits
unmarked_hex [] all = All-nil (λ b. is_mark b ≡ false)
unmarked_hex (b ∷ digits) all =
    let parts = and_parts (is_lower_hex b) (list_all is_lower_hex digits) all in
    All-cons (λ b. is_mark b ≡ false) b digits (no_mark b parts.0) (unmarked_hex digits parts.1)

parts_of : (url : Url) → FitsUrl url → slice_split is_mark (machine_text url) ≡ decimal url.machine ∷ decimal url.volume ∷ long_hex url.pair.key ∷ short_hex url.pair.alt ∷ long_hex url.cookie.0 ∷ []
parts_of url fits =
    slice_split_at is_mark (decimal url.machine) 47 (volume_text url.volume url.pair url.cookie) (unmarked_decimal (decimal url.machine) (digits_of url.machine fits.machine)) refl
    ∙ ap (λ ps. decimal url.machine ∷ ps) (
    slice_split_at is_mark (decimal url.volume) 44 (key_text url.pair url.cookie) (unmarked_decimal (decimal url.volume) (digits_of url.volume fits.volume)) refl
    ∙ ap (λ ps. decimal url.volume ∷ ps) (
    slice_split_at is_mark (long_hex url.pair.key) 95 (short_hex url.pair.alt ++ 95 ∷ long_hex url.cookie.0) (unmarked_hex (long_hex url.pair.key) (long_digits url.pair.key).1) refl
    ∙ ap (λ ps. long_hex url.pair.key ∷ ps) (
    slice_split_at is_mark (short_hex url.pair.alt) 95 (long_hex url.cookie.0) (unmarked_hex (short_hex url.pair.alt) (short_digits url.pair.alt).1) refl
    ∙ ap (λ ps. short_hex url.pair.alt ∷ ps) (slice_split_none is_mark (long_hex url.cookie.0) (unmarked_hex (long_hex url.cookie.0) (long_digits url.cookie.0).1))
    )
    )
    )

read_parts : (m v k a c : List ℕ) (url : Url) → digits_value 10 m ≡ url.machine → digits_value 10 v ≡ url.volume → digits_value 16 k ≡ url.pair.key
    → digits_value 16 a ≡ url.pair.alt → digits_value 16 c ≡ url.cookie.0 → url.machine < 2 ^ 32 → url.volume < 2 ^ 32 → url_of_parts (m ∷ v ∷ k ∷ a ∷ c ∷ []) ≡ Some url
read_parts m v k a c url em ev ek ea ec small less =
    let tests : (nat_lt url.machine (2 ^ 32) && nat_lt url.volume (2 ^ 32)) ≡ true = grind (arith, nat_tests) in
    rw (em, ev, ek, ea, ec, tests)

checked_same : (text : List ℕ) (url : Url) → bytes_eq (url_text url) text ≡ true → checked_url text (Some url) ≡ Some url
checked_same text url same = rw same

small_by : (m v : ℕ) (url : Url) (test : Bool) → (nat_lt m (2 ^ 32) && nat_lt v (2 ^ 32)) ≡ test → (pair : Pair) (cookie : Cookie)
    → (if test then Some (record { machine = m; volume = v; pair = pair; cookie = cookie }) else None) ≡ Some url → (url.machine < 2 ^ 32) × (url.volume < 2 ^ 32)
small_by m v url true test pair cookie e =
    let machine : m ≡ url.machine = cc in
    let volume : v ≡ url.volume = cc in
    let tests = and_parts (nat_lt m (2 ^ 32)) (nat_lt v (2 ^ 32)) test in
    (grind (arith, nat_tests), grind (arith, nat_tests))
small_by m v url false test pair cookie e = cc

small_parts : (parts : List (List ℕ)) (url : Url) → url_of_parts parts ≡ Some url → (url.machine < 2 ^ 32) × (url.volume < 2 ^ 32)
small_parts (m ∷ v ∷ k ∷ a ∷ c ∷ []) url e =
    small_by (digits_value 10 m) (digits_value 10 v) url (nat_lt (digits_value 10 m) (2 ^ 32) && nat_lt (digits_value 10 v) (2 ^ 32)) refl
    (record { key = digits_value 16 k; alt = digits_value 16 a }) (record { 0 = digits_value 16 c }) e
small_parts _ url e = cc

unchecked : (text : List ℕ) (url : Url) (test : Bool) → bytes_eq (url_text url) text ≡ test → (url.machine < 2 ^ 32) × (url.volume < 2 ^ 32) → (IsUrlText text → ⊥)
    → (if test then Some url else None) ≡ None
unchecked text url true same small none =
    let e : url_text url ≡ text = (bytes_eq-Decides (url_text url) text).0 same in
    absurd (none (whole_in text (subst Whole (url_text_is url ∙ e) (whole_of url small.0 small.1))))
unchecked text url false same small none = refl

unread : (text : List ℕ) (read : Option Url) → ((url : Url) → read ≡ Some url → (url.machine < 2 ^ 32) × (url.volume < 2 ^ 32)) → (IsUrlText text → ⊥) → checked_url text read ≡ None
unread text (Some url) small none = unchecked text url (bytes_eq (url_text url) text) refl (small url refl) none
unread text None small none = refl

pub url_of_text : (text : List ℕ) (url : Url) → FitsUrl url → text ≡ codes "http://store/" ++ machine_text url → Some url ≡ url_of text
url_of_text text url fits e =
    let split : url_of_parts (slice_split is_mark (machine_text url)) ≡ Some url =
    ap url_of_parts (parts_of url fits) ∙ read_parts (decimal url.machine) (decimal url.volume) (long_hex url.pair.key) (short_hex url.pair.alt) (long_hex url.cookie.0) url
    (value_of url.machine fits.machine) (value_of url.volume fits.volume) (long_value url.pair.key fits.key) (short_value url.pair.alt fits.alt)
    (long_value url.cookie.0 fits.cookie) fits.machine fits.volume in
    let same : bytes_eq (url_text url) text ≡ true = (bytes_eq-Decides (url_text url) text).1 (sym (url_text_is url) ∙ sym e) in
    let whole : url_of_parts (slice_split is_mark (drop 13 text)) ≡ Some url = ap (λ t. url_of_parts (slice_split is_mark (drop 13 t))) e ∙ split in
    sym (ap (checked_url text) whole ∙ checked_same text url same)

pub no_url : (text : List ℕ) → (IsUrlText text → ⊥) → None ≡ url_of text
no_url text none = sym (unread text (url_of_parts (slice_split is_mark (drop 13 text))) (λ url h. small_parts (slice_split is_mark (drop 13 text)) url h) none)
