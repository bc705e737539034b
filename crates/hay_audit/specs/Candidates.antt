-- What a judge keeps of a transcript.
use Rattle.std.specs.Prelude.{◌≡◌, ◌≤◌, ℕ, List, [], ◌∷◌, ◌++◌, drop, length, map, Some, None}
use Rattle.std.specs.List.{AllByRecursion as Each}
use Rattle.hay_needle.specs.declared.settings.Settings.{Settings}
use Rattle.hay_script.specs.declared.Line.{Line}
use Rattle.hay_legal.specs.declared.turn.Item.{Item}
use Rattle.hay_legal.specs.declared.turn.Item.TheVariants as item
use Rattle.hay_legal.specs.Items.{OpenBlock, outside}
use Rattle.hay_legal.specs.Items.Asked.{Alone}
use Rattle.hay_audit_steps.specs.BoxPlain.{IsBoxOf}
use Rattle.hay_audit_steps.specs.Boxes.{Box, Has}
use Rattle.hay_audit_steps.specs.Judged as judged
use Rattle.hay_audit_steps.specs.Reached.{Candidate as Kept, IsAdvance}
use Rattle.hay_audit.specs.declared.judge.Candidate.{Candidate}
use Rattle.hay_audit.specs.declared.judge.Judgement.{Judgement}
use Rattle.hay_audit.specs.declared.judge.Judgement.TheVariants.{Lawful, Open, Unlawful}
use Rattle.hay_audit.specs.declared.judge.Said.{Said}
use Rattle.hay_audit.specs.declared.judge.Said.TheVariants.{Asks, Lanes, Nothing}
use Rattle.hay_audit.specs.Outside.{IsWithinItem}
use Rattle.hay_audit.specs.Sizes.{IsSmall}

-- a candidate, with what is left of the transcript
abbrev pub standing : List ℕ → Candidate → Kept Box
standing transcript c = record { state = c.state; rest = drop c.at transcript }

abbrev pub all_standing : List ℕ → List Candidate → List (Kept Box)
all_standing transcript cs = map (standing transcript) cs

-- a state, at a place of the transcript
abbrev pub placed : ℕ → Box → Candidate
placed at box = record { state = box; at = at }

-- a line begins there
abbrev pub IsLineStart : List ℕ → ℕ → Type 0
IsLineStart transcript at = (front : List ℕ) × (transcript ≡ front ++ 10 ∷ drop at transcript)

-- a candidate of such a store, behind whole lines
pub record IsKept (settings : Settings) (transcript : List ℕ) (c : Candidate) : Type 0 where
  pub within : c.at ≤ length transcript
  pub start : IsLineStart transcript c.at
  pub of : IsBoxOf settings c.state

abbrev pub AreKept : Settings → List ℕ → List Candidate → Type 0
AreKept settings transcript cs = Each (IsKept settings transcript) cs

-- their sizes can still be added to
abbrev pub AreSmall : List Candidate → Type 0
AreSmall cs = Each (λ c. IsSmall c.state) cs

-- What a candidate comes to: the kept ones that are added, and that it advances to them.
abbrev pub Goes : Settings → ℕ → Item → List ℕ → Candidate → List Candidate → List Candidate → Type 0
Goes settings line asked transcript c old new =
    (next : List (Kept Box)) × (all_standing transcript new ≡ all_standing transcript old ++ next) × IsAdvance Has settings (Alone line asked) (standing transcript c) next

-- what a line outside of a block asks for
abbrev pub SaidBy : Line → Said → Type 0
SaidBy line Nothing = (number : ℕ) → outside number line ≡ ([], None)
SaidBy line (Asks asked) = ((number : ℕ) → outside number line ≡ (Alone number asked ∷ [], None)) × IsWithinItem asked
SaidBy line Lanes = (number : ℕ) → (block : OpenBlock) × (outside number line ≡ ([], Some block))

-- the judgement
abbrev pub judged_as : Judgement → judged.Judgement
judged_as (Lawful turns) = judged.Judgement.Lawful turns
judged_as (Unlawful turns) = judged.Judgement.Unlawful turns
judged_as (Open turns) = judged.Judgement.Open turns
