-- What the answer to one line leaves where the run stops with it.
use Rattle.std.specs.Prelude.{◌≡◌, ◌⊎◌, ℕ, List, [], ◌∷◌, Option}
use Rattle.hay_disk.specs.Streams.{WrotePart}
use Rattle.hay_script.specs.declared.Command.TheVariants as command
use Rattle.hay_legal.specs.declared.known.Known.{Known}
use Rattle.hay_legal.specs.declared.turn.Item.TheVariants as item
use Rattle.hay_legal.specs.Items.{Asked}
use Rattle.hay_legal.specs.Items.Asked.{Alone}
use Rattle.hay_cluster.specs.Store.{Open}
use Rattle.hay_run.specs.Turns.{Writing, Standing, AnswersPart, Refused}

-- the line asks for a restart, and its opening was refused
abbrev pub RefusedAsked : {D P A : Type 0} → Type 0 → Writing → Standing D P A → Standing D P A → ℕ → List Asked → Open D P A → Option (List ℕ) → Open D P A → Option (List ℕ) → Type 0
RefusedAsked Tells Writes Stands Left number asked store written store' written' =
    (pick : ℕ) × (asked ≡ Alone number (item.Command (command.Restart pick)) ∷ [])
    × (Tells → (k : Known) → Stands store k → Refused Writes Left k written store' written')

-- the line was answered, or its restart was refused, and only a front of the text was written
abbrev pub BrokeAsked : {D P A : Type 0} → Type 0 → Standing D P A → Standing D P A → ℕ → List Asked → Open D P A → Option (List ℕ) → Open D P A → Option (List ℕ) → Type 0
BrokeAsked Tells Stands Left number asked store written store' written' =
    AnswersPart Tells Stands Left asked store written store' written'
    ⊎ RefusedAsked Tells WrotePart Stands Left number asked store written store' written'
