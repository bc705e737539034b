-- What an audit of a transcript tells.
use Rattle.std.specs.Prelude.{◌≡◌, ◌⊎◌, ℕ, List, [], ◌++◌, Option, Some, codes}
use Rattle.hay_disk.specs.Streams.{Wrote, WrotePart}
use Rattle.hay_needle.specs.declared.settings.Settings.{Settings}
use Rattle.hay_reply.specs.Replies.{field}
use Rattle.hay_lines.specs.Stream.{TookAtMost}
use Rattle.hay_frame.specs.declared.fault.FrameFault.{FrameFault}
use Rattle.hay_frame.specs.declared.fault.FrameFault.TheVariants as fault
use Rattle.hay_frame.specs.declared.frame.TheConstants.{FRAME}
use Rattle.hay_frame.specs.Frames.{IsFramed, IsOverlong, IsUnframed}
use Rattle.hay_audit_steps.specs.Judged.{JudgementOf}
use Rattle.hay_audit.specs.declared.judge.Judgement.{Judgement}
use Rattle.hay_audit.specs.declared.judge.Judgement.TheVariants.{Lawful, Unlawful, Open}
use Rattle.hay_audit.specs.Candidates.{judged_as}

-- a judgement in words: how many turns, by their number
abbrev pub judgement_line : Judgement → List ℕ
judgement_line (Lawful turns) = codes "lawful" ++ field turns ++ codes "\n"
judgement_line (Unlawful turns) = codes "unlawful" ++ field turns ++ codes "\n"
judgement_line (Open turns) = codes "open" ++ field turns ++ codes "\n"

abbrev pub judgement_status : Judgement → ℕ
judgement_status (Lawful turns) = 0
judgement_status (Unlawful turns) = 9
judgement_status (Open turns) = 11

-- the status where there is no judgement
abbrev pub fault_status : FrameFault → ℕ
fault_status fault.Input = 4
fault_status fault.NoMemory = 5
fault_status fault.TooLong = 7
fault_status fault.Bad = 10

-- A source that tells gave a frame and nothing else, all of which was read, and this is the judgement on the frame's script and transcript.
abbrev pub IsJudgedFrame : Settings → Option (List ℕ) → Option (List ℕ) → Judgement → Type 0
IsJudgedFrame settings left left' judgement =
    (input : List ℕ) → left ≡ Some input → (script : List ℕ) × (transcript : List ℕ)
    × IsFramed input script transcript × (left' ≡ Some []) × JudgementOf settings script transcript (judged_as judgement)

-- the judgement was written: whole, or with status 3 a front of its line
abbrev pub TellsJudgement : Settings → ℕ → Option (List ℕ) → Option (List ℕ) → Option (List ℕ) → Option (List ℕ) → Type 0
TellsJudgement settings status left left' before after =
    (judgement : Judgement) × IsJudgedFrame settings left left' judgement
    × (((status ≡ judgement_status judgement) × Wrote before (judgement_line judgement) after)
    ⊎ ((status ≡ 3) × WrotePart before (judgement_line judgement) after))

-- nothing was written
abbrev pub TellsNothing : ℕ → Option (List ℕ) → Option (List ℕ) → Type 0
TellsNothing status before after = ((status ≡ 4) ⊎ (status ≡ 5) ⊎ (status ≡ 7) ⊎ (status ≡ 10)) × (after ≡ before)

-- An audit that ends with this status: what was judged and written, and why there was nothing to judge.
pub record AuditsTo (settings : Settings) (status : ℕ) (left left' before after : Option (List ℕ)) : Type 0 where
  pub tells : TellsJudgement settings status left left' before after ⊎ TellsNothing status before after
  pub bad : status ≡ 10 → IsUnframed left
  pub long : status ≡ 7 → IsOverlong left left'
  pub taken : (status ≡ 7 → ⊥) → TookAtMost FRAME left left'
