-- The mode that words say, as it is computed from them word by word. It is the mode of `Commands`: `read_words` shows both.
use Rattle.std.specs.Prelude.{ℕ, nat_le, List, [], ◌∷◌, ◌++◌, Option, Some, None, option_and_then, option_map, slice_get, unwrap_or, if◌then◌else◌, codes}
use Rattle.std.specs.Str.{bytes_eq}
use Rattle.clap.specs.Lexer.{long_of}
use Rattle.hay_needle.specs.declared.settings.Settings.{Settings}
use Rattle.hay_needle.specs.declared.settings.TheConstants.{MAX_CAPACITY, MAX_MACHINES, MAX_REPLICAS, MAX_VOLUMES, MIN_CAPACITY, USUAL_CAPACITY}
use Rattle.hay_cli.specs.declared.Mode.{Mode}
use Rattle.hay_cli.specs.declared.Mode.TheVariants.{Run, Check, Load, Audit, Drill}
use Rattle.hay_cli.specs.Commands.{Text, is_flag, Given, has_option, is_named, value_of, number_in, number_or, secret_or, folder_passes, run_names, audit_names}

-- the option with its value stands behind those that were given, once
abbrev pub value_met : List Given → Text → Text → (List Given → Option Text → Option (List Given)) → Option (List Given)
value_met had name value next =
    if has_option had name then None else next (had ++ (name, value) ∷ []) None

-- `--name=value`, or `--name` before its value
abbrev pub option_met : List Text → List Given → Option (Text × Option Text) → (List Given → Option Text → Option (List Given)) → Option (List Given)
option_met names had None next = None
option_met names had (Some (name, Some value)) next = if is_named names name then value_met had name value next else None
option_met names had (Some (name, None)) next = if is_named names name then next had (Some name) else None

-- the options of the words, behind those in `had`, where the next word is perhaps an option's value
abbrev pub options_from : List Text → List Text → List Given → Option Text → Option (List Given)
options_from names [] had None = Some had
options_from names [] had (Some name) = None
options_from names (word ∷ rest) had (Some name) =
    if is_flag word then None else value_met had name word (options_from names rest)
options_from names (word ∷ rest) had None = option_met names had (long_of word) (options_from names rest)

abbrev pub options_of : List Text → List Text → Option (List Given)
options_of names words = options_from names words [] None

abbrev pub settings_by : ℕ → ℕ → ℕ → ℕ → List ℕ → Option Settings
settings_by machines volumes replicas capacity secret = if nat_le replicas machines then Some (record {
  machines = machines;
  volumes = volumes;
  replicas = replicas;
  capacity = capacity;
  secret = secret;
}) else None

abbrev pub settings_of : (Text → Option Text) → Option Settings
settings_of value = if folder_passes (value (codes "folder"))
    then option_and_then (λ machines. option_and_then (λ volumes. option_and_then (λ replicas. option_and_then (λ capacity. option_and_then (λ secret.
    settings_by machines volumes replicas capacity secret)
    (secret_or (value (codes "secret"))))
    (number_or USUAL_CAPACITY MIN_CAPACITY MAX_CAPACITY (value (codes "capacity"))))
    (number_or 1 1 MAX_REPLICAS (value (codes "replicas"))))
    (number_or 1 1 MAX_VOLUMES (value (codes "volumes"))))
    (number_or 1 1 MAX_MACHINES (value (codes "machines")))
    else None

abbrev pub store_of : List Text → List Text → Option Settings
store_of names words = option_and_then (λ had. settings_of (value_of had)) (options_of names words)

-- two numbers
abbrev pub drill_by : Option Text → Option Text → Option Mode
drill_by (Some count) (Some first) =
    option_and_then (λ n. option_map (Drill n) (number_in 0 18446744073709551615 first)) (number_in 1 1000 count)
drill_by _ _ = None

abbrev pub drill_of : List Text → Option Mode
drill_of (count ∷ first ∷ []) = drill_by (Some count) (Some first)
drill_of _ = None

-- what the words say, where they are a command
abbrev pub mode_of : List Text → Option Mode
mode_of [] = None
mode_of (mode ∷ words) = if bytes_eq mode (codes "run") then option_map Run (store_of run_names words)
    else if bytes_eq mode (codes "check") then option_map Check (store_of run_names words)
    else if bytes_eq mode (codes "load") then option_map Load (store_of run_names words)
    else if bytes_eq mode (codes "audit") then option_map Audit (store_of audit_names words)
    else if bytes_eq mode (codes "drill") then drill_of words
    else None

-- the folder that an option word gives, alone or with the next word
abbrev pub folder_step : Option (Text × Option Text) → Option Text → Option (Option Text)
folder_step None next = None
folder_step (Some (name, Some value)) next = if bytes_eq name (codes "folder") then Some (Some value) else None
folder_step (Some (name, None)) next = if bytes_eq name (codes "folder") then Some next else None

-- the value of the first `--folder` or `--folder=` of the words
abbrev pub folder_in : List Text → Option Text
folder_in [] = None
folder_in (word ∷ rest) = unwrap_or (folder_step (long_of word) (slice_get rest 0)) (folder_in rest)
