-- What a checker keeps: candidates, each a state and what is left of the transcript behind its turns.
use Rattle.std.specs.Prelude.{◌≡◌, ℕ, ◌+◌, List, [], ◌∷◌, ◌++◌, length, map, flat_map, is_some, if◌then◌else◌}
use Rattle.std.specs.List.{AllByRecursion as Each}
use Rattle.hay_needle.specs.declared.settings.Settings.{Settings}
use Rattle.hay_script.specs.declared.Command.TheVariants as command
use Rattle.hay_reply.specs.Fits.{FitsReply, FitsNote}
use Rattle.hay_reply.specs.declared.Note.TheVariants as note
use Rattle.hay_legal.specs.declared.known.VolumeKnown.{VolumeKnown}
use Rattle.hay_legal.specs.declared.known.Known.{Known}
use Rattle.hay_legal.specs.declared.turn.Item.{Item}
use Rattle.hay_legal.specs.declared.turn.Item.TheVariants as item
use Rattle.hay_legal.specs.declared.turn.Turn.{Turn}
use Rattle.hay_legal.specs.declared.turn.Turn.TheVariants.{Plain, Lanes, Restart}
use Rattle.hay_legal.specs.Items.{Asked, item_of_turn}
use Rattle.hay_legal.specs.Known.{NoneFalls}
use Rattle.hay_legal.specs.Legal.{LegalTurn, Legal, known_after}
use Rattle.hay_legal.specs.Transcript.{turn_text}
use Rattle.hay_audit_steps.specs.CheckerSteps.{Below, AnyOf, with_counts}

-- the numbers of a turn's replies and notes fit their texts
abbrev pub FitsTurn : Turn → Type 0
FitsTurn (Plain line item reply after) = FitsReply reply
FitsTurn (Lanes items logs rows after) =
    Each (λ item. FitsReply item.reply) items
    × Each (λ log. FitsNote (note.Log log.volume log.from log.lines)) logs
    × FitsNote (note.Rows rows.from rows.rows)
FitsTurn (Restart line pick reply notes after) = FitsReply reply × Each FitsNote notes

-- a kept state, which may stand for several, and what is left of the transcript
pub record Candidate (S : Type 0) : Type 0 where
  pub state : S
  pub rest : List ℕ

abbrev pub candidate : {S : Type 0} → List ℕ → S → Candidate S
candidate rest state = record { state = state; rest = rest }

-- a state that is known but for its counts stands for itself
abbrev pub Is : Known → Known → Type 0
Is state k = k ≡ state

-- ONE ITEM

-- a turn of this item leads from k to t, and its text stands between the one rest and the other
pub record Leads (settings : Settings) (asked : Asked) (k : Known) (rest : List ℕ) (turn : Turn) (t : Known) (rest' : List ℕ) : Type 0 where
  pub item : item_of_turn turn ≡ asked
  pub legal : LegalTurn settings k turn
  pub after : known_after turn ≡ t
  pub fits : FitsTurn turn
  pub text : turn_text turn ++ rest' ≡ rest

-- The candidates behind an item. `Has` says which states a kept one stands for.
pub record IsAdvance {S : Type 0} (Has : S → Known → Type 0) (settings : Settings) (asked : Asked) (c : Candidate S) (next : List (Candidate S)) : Type 0 where
  pub sound : Each (λ (d : Candidate S). (t : Known) → Has d.state t → (k : Known) × (turn : Turn) × Has c.state k × Leads settings asked k c.rest turn t d.rest) next
  pub complete : (k : Known) (faults arms fuses : List ℕ) (turn : Turn) (t : Known) (rest' : List ℕ) → Has c.state k → NoneFalls k.faults faults → NoneFalls k.arms arms
      → Leads settings asked (with_counts k faults arms fuses) c.rest turn t rest'
      → AnyOf (λ (d : Candidate S). (d.rest ≡ rest') × (e : Known) × Has d.state e × Below e t) next

-- the same for each of the candidates
pub record AllAdvance {S : Type 0} (Has : S → Known → Type 0) (settings : Settings) (asked : Asked) (cs next : List (Candidate S)) : Type 0 where
  pub sound : Each (λ (d : Candidate S). (t : Known) → Has d.state t → AnyOf (λ (c : Candidate S). (k : Known) × (turn : Turn) × Has c.state k × Leads settings asked k c.rest turn t d.rest) cs) next
  pub complete : Each (λ (c : Candidate S). (k : Known) (faults arms fuses : List ℕ) (turn : Turn) (t : Known) (rest' : List ℕ) → Has c.state k → NoneFalls k.faults faults → NoneFalls k.arms arms
      → Leads settings asked (with_counts k faults arms fuses) c.rest turn t rest'
      → AnyOf (λ (d : Candidate S). (d.rest ≡ rest') × (e : Known) × Has d.state e × Below e t) next) cs

abbrev pub IsNoRestart : Item → Type 0
IsNoRestart (item.Command (command.Restart pick)) = ⊥
IsNoRestart _ = Unit {0}

-- how many notes a restart tells
abbrev pub volume_note_count : VolumeKnown → ℕ
volume_note_count volume = if is_some volume.pending then length volume.replicas else 0

abbrev pub volumes_note_count : List VolumeKnown → ℕ
volumes_note_count [] = 0
volumes_note_count (volume ∷ volumes) = volume_note_count volume + volumes_note_count volumes

abbrev pub note_count : Known → ℕ
note_count k = volumes_note_count k.volumes + (if is_some k.directory.pending then 1 else 0)

-- ALL ITEMS SO FAR

abbrev pub texts : List Turn → List ℕ
texts turns = flat_map turn_text turns

-- these turns, of these items, lead from k to t, and their texts stand between the one rest and the other
pub record Runs (settings : Settings) (asks : List Asked) (k : Known) (rest : List ℕ) (turns : List Turn) (t : Known) (rest' : List ℕ) : Type 0 where
  pub asked : map item_of_turn turns ≡ asks
  pub legal : Legal settings k turns t
  pub fits : Each FitsTurn turns
  pub text : texts turns ++ rest' ≡ rest

-- the candidates behind these items
pub record Reached {S : Type 0} (Has : S → Known → Type 0) (settings : Settings) (asks : List Asked) (c : Candidate S) (reached : List (Candidate S)) : Type 0 where
  pub sound : Each (λ (d : Candidate S). (t : Known) → Has d.state t → (k : Known) × (turns : List Turn) × Has c.state k × Runs settings asks k c.rest turns t d.rest) reached
  pub complete : (k : Known) (faults arms fuses : List ℕ) (turns : List Turn) (t : Known) (rest' : List ℕ) → Has c.state k → NoneFalls k.faults faults → NoneFalls k.arms arms
      → Runs settings asks (with_counts k faults arms fuses) c.rest turns t rest'
      → AnyOf (λ (d : Candidate S). (d.rest ≡ rest') × (e : Known) × Has d.state e × Below e t) reached
