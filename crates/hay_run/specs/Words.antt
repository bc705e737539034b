-- Which words are a run, a check, a load, an audit or a drill.
use Rattle.std.specs.Prelude.{◌≡◌, ◌⊎◌, ◌≤◌, ℕ, List}
use Rattle.hay_needle.specs.declared.settings.Settings.{Settings}
use Rattle.hay_cli.specs.declared.Mode.{Mode}
use Rattle.hay_cli.specs.declared.Mode.TheVariants.{Run, Check, Load, Audit, Drill}
use Rattle.hay_cli.specs.Commands.{Says}
use Rattle.hay_cluster.specs.Store.{IsBuilt}

-- the words are a run with these settings
abbrev pub SaysRun : List (List ℕ) → Settings → Type 0
SaysRun words settings = Says words (Run settings)

-- the words are a check with these settings
abbrev pub SaysCheck : List (List ℕ) → Settings → Type 0
SaysCheck words settings = Says words (Check settings)

-- the words are a load with these settings
abbrev pub SaysLoad : List (List ℕ) → Settings → Type 0
SaysLoad words settings = Says words (Load settings)

-- the words are an audit with these settings
abbrev pub SaysAudit : List (List ℕ) → Settings → Type 0
SaysAudit words settings = Says words (Audit settings)

abbrev pub IsAudit : List (List ℕ) → Type 0
IsAudit words = (settings : Settings) × SaysAudit words settings

-- the words are a drill of so many photos, from this key on
abbrev pub SaysDrill : List (List ℕ) → ℕ → ℕ → Type 0
SaysDrill words count first = Says words (Drill count first)

abbrev pub IsDrill : List (List ℕ) → Type 0
IsDrill words = (count : ℕ) × (first : ℕ) × SaysDrill words count first

-- the words are a run, a check, a load, an audit or a drill
abbrev pub IsCommand : List (List ℕ) → Type 0
IsCommand words =
    ((settings : Settings) × (SaysRun words settings ⊎ SaysCheck words settings ⊎ SaysLoad words settings ⊎ SaysAudit words settings)) ⊎ IsDrill words

-- the statuses that an audit alone ends with
abbrev pub IsAuditStatus : ℕ → Type 0
IsAuditStatus status = (status ≡ 9) ⊎ (status ≡ 10) ⊎ (status ≡ 11)

-- the settings of a mode are within the limits, and a drill's photos are no more than one may have
abbrev pub HasBuilt : Mode → Type 0
HasBuilt (Run settings) = IsBuilt settings
HasBuilt (Check settings) = IsBuilt settings
HasBuilt (Load settings) = IsBuilt settings
HasBuilt (Audit settings) = IsBuilt settings
HasBuilt (Drill count first) = count ≤ 1000
