-- The one text of a URL, and the cookie of a key.
use Rattle.std.specs.Prelude.{ℕ, ◌+◌, ◌*◌, ◌^◌, ◌==◌, ◌&&◌, ◌||◌, nat_lt, Bool, List, [], ◌∷◌, ◌++◌, Option, Some, None, if◌then◌else◌, codes, decimal, drop, bytes_eq, ◌≡◌, ◌<◌, ◌≤◌, length, take}
use Rattle.std.specs.Int.{w32, w64, to_be_bytes}
use Rattle.std.specs.List.{slice_split}
use Rattle.std.specs.Str.Parse.{digits_value}
use Rattle.hex.specs.Hex.{encode_lower}
use Rattle.rand_chacha.specs.ChaCha.{word_at, key_of}
use Rattle.hay_needle.specs.declared.needle.Cookie.{Cookie}
use Rattle.hay_url.specs.declared.Url.{Url}
use Rattle.hay_url.specs.declared.UrlFault.{UrlFault}
use Rattle.hay_url.specs.declared.UrlFault.TheVariants.{Bad}

-- the first two words of the stream whose number is the key; twenty rounds are ten double rounds
abbrev pub cookie_of : List ℕ → ℕ → Cookie
cookie_of secret key =
    record { 0 = word_at 10 (key_of secret) key 0 + 2 ^ 32 * word_at 10 (key_of secret) key 1 }

-- 16 lower-case digits
abbrev pub long_hex : ℕ → List ℕ
long_hex n = encode_lower (to_be_bytes w64 n)

abbrev pub cookie_text : Cookie → List ℕ
cookie_text cookie = long_hex cookie.0

abbrev pub url_text : Url → List ℕ
url_text url =
    codes "http://store/" ++ decimal url.machine ++ codes "/" ++ decimal url.volume
    ++ codes "," ++ long_hex url.pair.key ++ codes "_" ++ encode_lower (to_be_bytes w32 url.pair.alt)
    ++ codes "_" ++ cookie_text url.cookie

-- a slash, a comma or a low line
abbrev pub is_mark : ℕ → Bool
is_mark b = b == 47 || b == 44 || b == 95

-- what the five parts behind the store's name say, if they are numbers
abbrev pub url_of_parts : List (List ℕ) → Option Url
url_of_parts (machine ∷ volume ∷ key ∷ alt ∷ cookie ∷ []) =
    if nat_lt (digits_value 10 machine) (2 ^ 32) && nat_lt (digits_value 10 volume) (2 ^ 32)
    then Some (record {
      machine = digits_value 10 machine;
      volume = digits_value 10 volume;
      pair = record { key = digits_value 16 key; alt = digits_value 16 alt };
      cookie = record { 0 = digits_value 16 cookie };
    })
    else None
url_of_parts _ = None

-- only a URL's own text is read
abbrev pub checked_url : List ℕ → Option Url → Option Url
checked_url text (Some url) = if bytes_eq (url_text url) text then Some url else None
checked_url text None = None

-- the URL that has this text, if there is one
abbrev pub url_of : List ℕ → Option Url
url_of text = checked_url text (url_of_parts (slice_split is_mark (drop 13 text)))

-- READING

-- its numbers are those of its types
pub record FitsUrl (url : Url) : Type 0 where
  pub machine : url.machine < 2 ^ 32
  pub volume : url.volume < 2 ^ 32
  pub key : url.pair.key < 2 ^ 64
  pub alt : url.pair.alt < 2 ^ 32
  pub cookie : url.cookie.0 < 2 ^ 64

-- a URL has this text
abbrev pub IsUrlText : List ℕ → Type 0
IsUrlText text = (url : Url) × FitsUrl url × (url_text url ≡ text)

-- some URL begins so
abbrev pub BeginsUrl : List ℕ → Type 0
BeginsUrl text = (rest : List ℕ) × IsUrlText (text ++ rest)

-- No URL has this text, and this is the length of the longest beginning of it with which a URL begins.
pub record IsUrlFault (text : List ℕ) (at : ℕ) : Type 0 where
  pub none : IsUrlText text → ⊥
  pub within : at ≤ length text
  pub begins : BeginsUrl (take at text)
  pub longest : (k : ℕ) → k ≤ length text → BeginsUrl (take k text) → k ≤ at

abbrev pub fault_at : UrlFault → ℕ
fault_at (Bad at) = at
