-- Lists that are looked up by pair.
use Rattle.std.specs.Prelude.{◌≡◌, ℕ, ◌<◌, ◌&&◌, nat_eq, Bool, List, length, map, slice_get, Option, Some, None}
use Rattle.std.specs.Map.{lookup}
use Rattle.hay_needle.specs.declared.needle.Pair.{Pair}
use Rattle.hay_needle.specs.declared.needle.Outcome.{Outcome}
use Rattle.hay_needle.specs.Tables.{look_after}
use Rattle.hay_core.specs.declared.entry.Logged.{Logged}
use Rattle.hay_core.specs.Entries.{logged_row}
use Rattle.hay_legal.specs.declared.known.HomeRow.{HomeRow}
use Rattle.hay_legal.specs.Known.{home_in}

abbrev pub has_key : Pair → ℕ × ℕ → Bool
has_key pair key = nat_eq pair.key key.0 && nat_eq pair.alt key.1

-- what a map has for a pair
abbrev pub found : {X : Type 0} → List ((ℕ × ℕ) × X) → Pair → Option X
found entries pair = lookup (has_key pair) entries

-- the home of each pair
abbrev pub AreHomes : List ((ℕ × ℕ) × ℕ) → List HomeRow → Type 0
AreHomes homes rows = (pair : Pair) → found homes pair ≡ home_in rows pair

-- what an entry leaves at its pair, where this stood before
abbrev pub told : Option Logged → Outcome → Outcome
told None before = before
told (Some logged) before = (logged_row logged).outcome

abbrev pub entry_at : List Logged → Option ℕ → Option Logged
entry_at log None = None
entry_at log (Some at) = slice_get log at

-- the place of the last entry of each pair
pub record AreLast (last : List ((ℕ × ℕ) × ℕ)) (log : List Logged) : Type 0 where
  pub inside : (pair : Pair) (at : ℕ) → found last pair ≡ Some at → at < length log
  pub leaves : (pair : Pair) (before : Outcome) → look_after (map logged_row log) pair before ≡ told (entry_at log (found last pair)) before
