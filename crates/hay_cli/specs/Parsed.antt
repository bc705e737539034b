-- A command of options, and what a parse by it says.
use Rattle.std.specs.List.{list_any}
use Rattle.std.specs.Str.{bytes_eq}
use Rattle.std.specs.Prelude.{◌≡◌, true, Bool, List, [], ◌∷◌, codes, map, drop, Some}
use Rattle.clap.specs.Walk.{Rule}
use Rattle.clap.specs.Simple.{App, new_rule, new_shape}
use Rattle.clap.specs.Matches.{first_value, found_of}
use Rattle.clap.specs.declared.parser.matches.ArgMatches.{ArgMatches}
use Rattle.hay_cli.specs.Commands.{Text, Given, value_of}
use Rattle.hay_cli.specs.Reading.{options_of}

abbrev pub raw : Text → Rule
raw name = record (new_rule name) { long = Some name }

-- each of the names is an option with one value
abbrev pub options_app : Text → List Text → App
options_app mode names = record {
  top = record (new_shape mode) { rules = map raw names; disable_help_flag = true };
  subs = [];
}

-- the matches have the values of the options behind the first word
pub record GivesOptions (names words : List Text) (m : ArgMatches) : Type 0 where
  pub had : List Given
  pub are : options_of names (drop 1 words) ≡ Some had
  pub values : (id : Text) → first_value (found_of m) id ≡ value_of had id

-- two words, the number of photos and the first key
abbrev pub drill_app : Text → App
drill_app mode = record {
  top = record (new_shape mode) {
    rules = new_rule (codes "count") ∷ new_rule (codes "first") ∷ [];
    disable_help_flag = true;
  };
  subs = [];
}

abbrev pub is_dashes : Text → Bool
is_dashes word = bytes_eq word (codes "--")

-- one of the words is `--`
abbrev pub has_dashes : List Text → Bool
has_dashes words = list_any is_dashes words
