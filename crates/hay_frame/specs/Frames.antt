-- What a checker of transcripts is given: how long a script is, the script, and a transcript.
use Rattle.std.specs.Prelude.{◌≡◌, ◌⊎◌, ◌+◌, ◌<◌, ◌≤◌, ◌==◌, ℕ, List, [], ◌∷◌, ◌++◌, length, drop, Option, Some, None, if◌then◌else◌, codes}
use Rattle.std.specs.List.{starts_with}
use Rattle.hay_disk.specs.Streams.{Took}
use Rattle.hay_script.specs.Script.{below}
use Rattle.hay_script.specs.declared.words.TheConstants.{MAX_SCRIPT}
use Rattle.hay_lines.specs.Lines.{NoFeed}
use Rattle.hay_lines.specs.Stream.{TookAll}
use Rattle.hay_frame.specs.declared.frame.TheConstants.{TRANSCRIPT}
use Rattle.hay_frame.specs.declared.line.TheConstants.{LINE}

-- The input is the line `script N`, the N bytes of a script, and a transcript. N is written in 1 to 20 decimal digits, as a script
-- writes its numbers: zeros may stand in front, and nothing else stands in the line.
pub record IsFramed (input script transcript : List ℕ) : Type 0 where
  pub digits : List ℕ
  pub number : below (MAX_SCRIPT + 1) digits ≡ Some (length script)
  pub input_is : input ≡ codes "script " ++ digits ++ 10 ∷ (script ++ transcript)

-- this frame was taken, and nothing is left
abbrev pub TookFrame : Option (List ℕ) → List ℕ → List ℕ → Option (List ℕ) → Type 0
TookFrame None script transcript after = Unit {0}
TookFrame (Some input) script transcript after = IsFramed input script transcript × (after ≡ Some [])

-- what the source gives is no frame
abbrev pub IsUnframed : Option (List ℕ) → Type 0
IsUnframed before = (input script transcript : List ℕ) → before ≡ Some input → IsFramed input script transcript → ⊥

-- a frame, of whose transcript the longest that there may be was taken and one byte more
abbrev pub IsOverlong : Option (List ℕ) → Option (List ℕ) → Type 0
IsOverlong before after = (input : List ℕ) → before ≡ Some input → (script : List ℕ) × (front : List ℕ) × (byte : ℕ) × (rest : List ℕ)
    × IsFramed input script (front ++ byte ∷ rest) × (length front ≡ TRANSCRIPT) × (after ≡ Some rest)

-- THE FIRST LINE

-- the length that a first line says, where it is good
abbrev pub length_in : List ℕ → Option ℕ
length_in line = if starts_with ◌==◌ line (codes "script ") then below (MAX_SCRIPT + 1) (drop 7 line) else None

-- the front of a line was taken: longer than a good one, or all that there is
abbrev pub TookNoLine : Option (List ℕ) → Option (List ℕ) → Type 0
TookNoLine before after = (front : List ℕ) × NoFeed front × ((Took before front after × (LINE ≤ length front)) ⊎ TookAll before front after)

-- WHAT COMES BEHIND IT

-- all was taken, and it is shorter than this
abbrev pub TookShort : ℕ → Option (List ℕ) → Option (List ℕ) → Type 0
TookShort most before after = (front : List ℕ) × (length front < most) × TookAll before front after

-- so many bytes were taken, and one more
abbrev pub TookBeyond : ℕ → Option (List ℕ) → Option (List ℕ) → Type 0
TookBeyond most before after = (front : List ℕ) × (byte : ℕ) × (length front ≡ most) × Took before (front ++ byte ∷ []) after
