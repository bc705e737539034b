-- The parts of a URL's text, and where a text leaves them.
use Rattle.std.specs.Prelude.{◌≡◌, ℕ, ◌+◌, ◌^◌, ◌==◌, ◌&&◌, ◌||◌, ◌<◌, ◌≤◌, nat_le, Bool, true, false, List, [], ◌∷◌, ◌++◌, length, take, Option, Some, None, option_map}
use Rattle.std.specs.Prelude.{if◌then◌else◌, decimal, ◌*◌, codes}
use Rattle.std.specs.List.{list_all}
use Rattle.std.specs.Int.{w32, to_be_bytes}
use Rattle.hex.specs.Hex.{encode_lower}
use Rattle.hay_needle.specs.declared.needle.Pair.{Pair}
use Rattle.hay_needle.specs.declared.needle.Cookie.{Cookie}
use Rattle.hay_url.specs.declared.Url.{Url}
use Rattle.hay_url.specs.Url.{long_hex, cookie_text}
use Rattle.std.specs.Char.{digit_value}

-- some text of the language begins so
abbrev pub Begins : (List ℕ → Type 0) → List ℕ → Type 0
Begins L text = (rest : List ℕ) × L (text ++ rest)

-- The text is none of the language, and leaves it behind so many bytes.
pub record Fault (L : List ℕ → Type 0) (text : List ℕ) (at : ℕ) : Type 0 where
  pub none : L text → ⊥
  pub within : at ≤ length text
  pub begins : Begins L (take at text)
  pub longest : (k : ℕ) → k ≤ length text → Begins L (take k text) → k ≤ at

-- a text of the one language, and behind it one of the other
pub record After (A L : List ℕ → Type 0) (text : List ℕ) : Type 0 where
  pub part : List ℕ
  pub rest : List ℕ
  pub is_part : A part
  pub is_rest : L rest
  pub all : part ++ rest ≡ text

-- the same, for a part with anything behind it
pub record PartFault (A : List ℕ → Type 0) (text : List ℕ) (at : ℕ) : Type 0 where
  pub none : (part rest : List ℕ) → A part → part ++ rest ≡ text → ⊥
  pub within : at ≤ length text
  pub begins : Begins A (take at text)
  pub longest : (k : ℕ) → k ≤ length text → (part rest more : List ℕ) → A part → part ++ rest ≡ take k text ++ more → k ≤ at

-- nothing
abbrev pub End : List ℕ → Type 0
End text = text ≡ []

-- a lower-case hexadecimal digit
abbrev pub is_lower_hex : ℕ → Bool
is_lower_hex b = (nat_le 48 b && nat_le b 57) || (nat_le 97 b && nat_le b 102)

-- a byte stands where a template wants it: any digit for a number sign
abbrev pub fits_byte : ℕ → ℕ → Bool
fits_byte want b = if want == 35 then is_lower_hex b else b == want

-- the first place at which a text does not go on as a template
abbrev pub misfit : List ℕ → List ℕ → Option ℕ
misfit [] text = None
misfit (want ∷ template) [] = Some 0
misfit (want ∷ template) (b ∷ text) = if fits_byte want b then option_map (λ at. at + 1) (misfit template text) else Some 0

-- each byte fits, and none is wanting
abbrev pub fits : List ℕ → List ℕ → Bool
fits [] [] = true
fits [] (b ∷ text) = false
fits (want ∷ template) [] = false
fits (want ∷ template) (b ∷ text) = fits_byte want b && fits template text

abbrev pub Fits : List ℕ → List ℕ → Type 0
Fits template text = fits template text ≡ true

-- a number without leading zeros, and a mark
abbrev pub Number : ℕ → List ℕ → Type 0
Number mark part = (n : ℕ) × (n < 2 ^ 32) × (part ≡ decimal n ++ mark ∷ [])

-- the number that was read so far, of no digits yet or of some, may go on with this byte
pub record GoesOn (started : Bool) (n b : ℕ) : Type 0 where
  pub digit : digit_value b < 10
  pub plain : started ≡ true → 0 < n
  pub fits : n * 10 + digit_value b < 2 ^ 32

-- the parts of a URL from its key on, from its volume on, from its machine on, and all of them
abbrev pub numbers_template : List ℕ
numbers_template = codes "################_########_################"

abbrev pub FromKey : List ℕ → Type 0
FromKey = After (Fits numbers_template) End

abbrev pub FromVolume : List ℕ → Type 0
FromVolume = After (Number 44) FromKey

abbrev pub FromMachine : List ℕ → Type 0
FromMachine = After (Number 47) FromVolume

abbrev pub Whole : List ℕ → Type 0
Whole = After (Fits (codes "http://store/")) FromMachine

-- the text from the key on, and from the volume on
abbrev pub key_text : Pair → Cookie → List ℕ
key_text pair cookie = long_hex pair.key ++ 95 ∷ (encode_lower (to_be_bytes w32 pair.alt) ++ 95 ∷ cookie_text cookie)

abbrev pub volume_text : ℕ → Pair → Cookie → List ℕ
volume_text volume pair cookie = decimal volume ++ 44 ∷ key_text pair cookie

abbrev pub machine_text : Url → List ℕ
machine_text url = decimal url.machine ++ 47 ∷ volume_text url.volume url.pair url.cookie

-- the digits of a text from its key on
pub record Numbered (text key alt cookie : List ℕ) : Type 0 where
  pub all : text ≡ key ++ 95 ∷ (alt ++ 95 ∷ cookie)
  pub key_length : length key ≡ 16
  pub alt_length : length alt ≡ 8
  pub cookie_length : length cookie ≡ 16
  pub key_digits : list_all is_lower_hex key ≡ true
  pub alt_digits : list_all is_lower_hex alt ≡ true
  pub cookie_digits : list_all is_lower_hex cookie ≡ true
