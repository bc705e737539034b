-- What a judgement of a transcript says: whether legal turns of the script's items have this text.
use Rattle.std.specs.Prelude.{◌≡◌, ◌⊎◌, ℕ, ◌+◌, ◌<◌, ◌≤◌, ◌==◌, List, [], ◌∷◌, ◌++◌, length, take, slice_get, decimal, Contains, Some}
use Rattle.std.specs.List.{AllByRecursion as Each, slice_split}
use Rattle.hay_needle.specs.declared.settings.Settings.{Settings}
use Rattle.hay_reply.specs.declared.Reply.TheVariants.{NoMem}
use Rattle.hay_reply.specs.Replies.{reply_text, header_line}
use Rattle.hay_legal.specs.declared.known.Known.{Known}
use Rattle.hay_legal.specs.declared.turn.Item.TheVariants as item
use Rattle.hay_legal.specs.declared.turn.Turn.{Turn}
use Rattle.hay_legal.specs.Items.{Asked, items_of}
use Rattle.hay_legal.specs.Items.Asked.{Alone, Block}
use Rattle.hay_legal.specs.Known.{fresh, fresh_unharmed, disk_count}
use Rattle.hay_legal.specs.Statuses.{IsFront, asked_of}
use Rattle.hay_legal.specs.Transcript.{transcript_text}
use Rattle.hay_legal.specs.Legal.{Legal}
use Rattle.hay_audit_steps.specs.CheckerSteps.{AnyOf}
use Rattle.hay_audit_steps.specs.Reached.{FitsTurn, Candidate, Reached}

-- WHAT FITS

-- Turns of these items, from a store as formatted, with whatever counts of faults and numbers of fuses, have such a text.
pub record Explained (settings : Settings) (items : List Asked) (IsText : List ℕ → Type 0) : Type 0 where
  pub faults : List ℕ
  pub fuses : List ℕ
  pub arms : List ℕ
  pub disks : length faults ≡ disk_count settings
  pub lanes : length arms ≡ 8
  pub turns : List Turn
  pub t : Known
  pub asked : asked_of turns ≡ items
  pub legal : Legal settings (fresh settings faults fuses arms) turns t
  pub fits : Each FitsTurn turns
  pub told : IsText (transcript_text settings turns)

-- the first m items have turns whose text stands at the front of the transcript
abbrev pub Fits : Settings → List Asked → List ℕ → ℕ → Type 0
Fits settings items transcript m = (m ≤ length items) × Explained settings (take m items) (λ text. IsFront text transcript)

-- all items have turns whose text the transcript is
abbrev pub FitsWhole : Settings → List Asked → List ℕ → Type 0
FitsWhole settings items transcript = Explained settings items (λ text. text ≡ transcript)

-- OPEN ITEMS

-- the lines of a transcript, also one that no feed ends
abbrev pub lines_in : List ℕ → List (List ℕ)
lines_in transcript = slice_split (λ b. b == 10) transcript

-- A command that a line of the transcript says wanted memory is not judged, and no block is.
abbrev pub IsOpenItem : List ℕ → Asked → Type 0
IsOpenItem transcript (Alone line (item.Command command)) = Contains (lines_in transcript) (decimal line ++ 32 ∷ reply_text NoMem)
IsOpenItem transcript (Alone line item.Bad) = ⊥
IsOpenItem transcript (Block lines) = Unit {0}

-- n items come before the first open one, or there is none and n are all
pub record AreBeforeOpen (items : List Asked) (transcript : List ℕ) (n : ℕ) : Type 0 where
  pub judged : Each (λ asked. IsOpenItem transcript asked → ⊥) (take n items)
  pub next : (n ≡ length items) ⊎ ((asked : Asked) × (slice_get items n ≡ Some asked) × IsOpenItem transcript asked)

-- THE JUDGEMENT

abbrev pub HasOtherHeader : Settings → List ℕ → Type 0
HasOtherHeader settings transcript = IsFront (header_line settings) transcript → ⊥

-- m is the greatest number of items that fit, or 0 where the header differs
pub record IsGreatest (settings : Settings) (items : List Asked) (transcript : List ℕ) (m : ℕ) : Type 0 where
  pub fits : Fits settings items transcript m ⊎ ((m ≡ 0) × HasOtherHeader settings transcript)
  pub no_more : (more : ℕ) → m < more → Fits settings items transcript more → ⊥

pub data Judgement : Type 0 where
  Lawful Unlawful Open : ℕ → Judgement

-- of n items before the first open one
abbrev pub IsJudged : Settings → List Asked → List ℕ → ℕ → Judgement → Type 0
IsJudged settings items transcript n (Lawful m) = (m ≡ n) × (n ≡ length items) × FitsWhole settings items transcript
IsJudged settings items transcript n (Open m) = (m ≡ n) × (n < length items) × Fits settings items transcript n
IsJudged settings items transcript n (Unlawful m) =
    IsGreatest settings (take n items) transcript m
    × ((m < n) ⊎ ((m ≡ n) × (n ≡ length items) × (FitsWhole settings items transcript → ⊥)) ⊎ ((m ≡ 0) × HasOtherHeader settings transcript))

abbrev pub JudgementOf : Settings → List ℕ → List ℕ → Judgement → Type 0
JudgementOf settings script transcript judgement =
    (n : ℕ) × AreBeforeOpen (items_of script) transcript n × IsJudged settings (items_of script) transcript n judgement

-- A JUDGEMENT BY CANDIDATES

-- The candidates begin with a store on void disks, behind the header.
pub record Begins {S : Type 0} (Has : S → Known → Type 0) (settings : Settings) (transcript : List ℕ) (c : Candidate S) : Type 0 where
  pub header : header_line settings ++ c.rest ≡ transcript
  pub fresh : Has c.state (fresh_unharmed settings)
  pub alone : (k : Known) → Has c.state k → k ≡ fresh_unharmed settings

-- some candidate stands for a state
abbrev pub IsAny : {S : Type 0} → (S → Known → Type 0) → List (Candidate S) → Type 0
IsAny {S} Has cs = AnyOf (λ (d : Candidate S). (k : Known) × Has d.state k) cs

-- and has used the whole transcript
abbrev pub IsUsed : {S : Type 0} → (S → Known → Type 0) → List (Candidate S) → Type 0
IsUsed {S} Has cs = AnyOf (λ (d : Candidate S). (d.rest ≡ []) × (k : Known) × Has d.state k) cs

-- Such candidates behind the n items before the first open one tell this judgement.
abbrev pub Tells : {S : Type 0} → (S → Known → Type 0) → Settings → List Asked → Candidate S → ℕ → Judgement → Type 0
Tells {S} Has settings items c n (Lawful m) =
    (m ≡ n) × (n ≡ length items) × (cs : List (Candidate S)) × Reached Has settings items c cs × IsUsed Has cs
Tells {S} Has settings items c n (Open m) =
    (m ≡ n) × (n < length items) × (cs : List (Candidate S)) × Reached Has settings (take n items) c cs × IsAny Has cs
Tells {S} Has settings items c n (Unlawful m) =
    ((m < n) × (cs : List (Candidate S)) × Reached Has settings (take m items) c cs × IsAny Has cs
    × (next : List (Candidate S)) × Reached Has settings (take (m + 1) items) c next × (IsAny Has next → ⊥))
    ⊎ ((m ≡ n) × (n ≡ length items) × (cs : List (Candidate S)) × Reached Has settings items c cs × IsAny Has cs × (IsUsed Has cs → ⊥))
