-- Which words are a command, and which mode they say.
use Rattle.std.specs.Prelude.{◌≡◌, ◌⊎◌, ◌≤◌, ℕ, ◌==◌, ◌&&◌, nat_lt, nat_le, Bool, true, false, List, [], ◌∷◌, ◌++◌, length, replicate, Option, Some, None, option_map, find, if◌then◌else◌, codes}
use Rattle.std.specs.Char.{is_ascii_digit}
use Rattle.std.specs.List.{list_all, list_any}
use Rattle.std.specs.Str.{bytes_eq}
use Rattle.std.specs.Str.Parse.{digits_value}
use Rattle.std.specs.Result.{result_ok}
use Rattle.hex.specs.Hex.{decode_of}
use Rattle.hay_needle.specs.declared.settings.Settings.{Settings}
use Rattle.hay_needle.specs.declared.settings.TheConstants.{MAX_CAPACITY, MAX_MACHINES, MAX_REPLICAS, MAX_VOLUMES, MIN_CAPACITY, USUAL_CAPACITY}
use Rattle.hay_cli.specs.declared.Mode.{Mode}
use Rattle.hay_cli.specs.declared.Mode.TheVariants.{Run, Check, Load, Audit, Drill}

-- WORDS

abbrev pub Text : Type 0
Text = List ℕ

-- a word that begins with a hyphen, and is not the hyphen alone
abbrev pub is_flag : Text → Bool
is_flag [] = false
is_flag (x ∷ []) = false
is_flag (x ∷ y ∷ rest) = x == 45

-- an option: its name and its value
abbrev pub Given : Type 0
Given = Text × Text

-- one of the options has this name
abbrev pub has_option : List Given → Text → Bool
has_option given name = list_any (λ option. bytes_eq option.0 name) given

abbrev pub is_named : List Text → Text → Bool
is_named names name = list_any (λ known. bytes_eq known name) names

-- the words begin with this option, as `--name VALUE` or as `--name=VALUE`, and the rest follows
abbrev pub BeginsWith : Given → List Text → List Text → Type 0
BeginsWith option rest words =
    ((words ≡ (codes "--" ++ option.0) ∷ option.1 ∷ rest) × (is_flag option.1 ≡ false))
    ⊎ (words ≡ (codes "--" ++ (option.0 ++ (codes "=" ++ option.1))) ∷ rest)

-- the words are these options in this order; each has one of the names, and none the name of one before it
abbrev pub AreOptions : List Text → List Given → List Given → List Text → Type 0
AreOptions names before [] words = words ≡ []
AreOptions names before (option ∷ more) words =
    (is_named names option.0 ≡ true) × (has_option before option.0 ≡ false)
    × ((rest : List Text) × BeginsWith option rest words × AreOptions names (before ++ option ∷ []) more rest)

-- the value of the option with this name, if it is given
abbrev pub value_of : List Given → Text → Option Text
value_of given name = option_map (λ option. option.1) (find (λ option. bytes_eq option.0 name) given)

-- VALUES

-- the number of 1 to 20 decimal digits, if it is within these bounds
abbrev pub number_in : ℕ → ℕ → Text → Option ℕ
number_in low high text =
    if nat_lt 0 (length text) && (nat_le (length text) 20 && (list_all is_ascii_digit text && (nat_le low (digits_value 10 text) && nat_le (digits_value 10 text) high)))
    then Some (digits_value 10 text) else None

-- the usual number where none is given
abbrev pub number_or : ℕ → ℕ → ℕ → Option Text → Option ℕ
number_or usual low high None = Some usual
number_or usual low high (Some text) = number_in low high text

-- the bytes of 64 hexadecimal digits
abbrev pub secret_in : Text → Option (List ℕ)
secret_in text = if length text == 64 then result_ok (decode_of text) else None

-- 32 zero bytes where no secret is given
abbrev pub secret_or : Option Text → Option (List ℕ)
secret_or None = Some (replicate 32 0)
secret_or (Some text) = secret_in text

-- a folder's path that is given has a byte at least
abbrev pub folder_passes : Option Text → Bool
folder_passes None = true
folder_passes (Some path) = nat_lt 0 (length path)

-- MODES

-- the options of a run, of a check and of a load
abbrev pub run_names : List Text
run_names = codes "machines" ∷ codes "volumes" ∷ codes "replicas" ∷ codes "capacity" ∷ codes "secret" ∷ codes "folder" ∷ []

-- and those of an audit, which opens no disk
abbrev pub audit_names : List Text
audit_names = codes "machines" ∷ codes "volumes" ∷ codes "replicas" ∷ codes "capacity" ∷ codes "secret" ∷ []

-- the values of these options, which are within their limits
pub record AreSettings (value : Text → Option Text) (settings : Settings) : Type 0 where
  pub machines : number_or 1 1 MAX_MACHINES (value (codes "machines")) ≡ Some settings.machines
  pub volumes : number_or 1 1 MAX_VOLUMES (value (codes "volumes")) ≡ Some settings.volumes
  pub replicas : number_or 1 1 MAX_REPLICAS (value (codes "replicas")) ≡ Some settings.replicas
  pub no_more : settings.replicas ≤ settings.machines
  pub capacity : number_or USUAL_CAPACITY MIN_CAPACITY MAX_CAPACITY (value (codes "capacity")) ≡ Some settings.capacity
  pub secret : secret_or (value (codes "secret")) ≡ Some settings.secret
  pub folder : folder_passes (value (codes "folder")) ≡ true

-- the words behind a mode are options with these settings, each of one of the names
abbrev pub IsStore : List Text → List Text → Settings → Type 0
IsStore names words settings = (given : List Given) × AreOptions names [] given words × AreSettings (value_of given) settings

-- the words behind `drill` are two numbers
pub record IsDrill (words : List Text) (count first : ℕ) : Type 0 where
  pub count_word : Text
  pub first_word : Text
  pub words_are : words ≡ count_word ∷ first_word ∷ []
  pub count_is : number_in 1 1000 count_word ≡ Some count
  pub first_is : number_in 0 18446744073709551615 first_word ≡ Some first

-- the words are a command of this mode
abbrev pub Says : List Text → Mode → Type 0
Says [] mode = ⊥
Says (word ∷ words) (Run settings) = (word ≡ codes "run") × IsStore run_names words settings
Says (word ∷ words) (Check settings) = (word ≡ codes "check") × IsStore run_names words settings
Says (word ∷ words) (Load settings) = (word ≡ codes "load") × IsStore run_names words settings
Says (word ∷ words) (Audit settings) = (word ≡ codes "audit") × IsStore audit_names words settings
Says (word ∷ words) (Drill count first) = (word ≡ codes "drill") × IsDrill words count first
