-- Which turns are legal from what the store stands at.
use Rattle.std.specs.Prelude.{◌≡◌, List, [], ◌∷◌}
use Rattle.hay_needle.specs.declared.settings.Settings.{Settings}
use Rattle.hay_legal.specs.declared.known.Known.{Known}
use Rattle.hay_legal.specs.declared.turn.Turn.{Turn}
use Rattle.hay_legal.specs.declared.turn.Turn.TheVariants.{Plain, Lanes, Restart}
use Rattle.hay_legal.specs.Plain.{LegalPlain}
use Rattle.hay_legal.specs.Blocks.{LegalBlock}
use Rattle.hay_legal.specs.Restarts.{LegalRestart}

abbrev pub known_after : Turn → Known
known_after (Plain line item reply after) = after
known_after (Lanes items logs rows after) = after
known_after (Restart line pick reply notes after) = after

abbrev pub LegalTurn : Settings → Known → Turn → Type 0
LegalTurn settings k (Plain line item reply after) = LegalPlain settings k line item reply after
LegalTurn settings k (Lanes items logs rows after) = LegalBlock settings k items logs rows after
LegalTurn settings k (Restart line pick reply notes after) = LegalRestart settings k reply notes after

-- each turn is legal from what the one before it left, and the last one left t
abbrev pub Legal : Settings → Known → List Turn → Known → Type 0
Legal settings k [] t = t ≡ k
Legal settings k (turn ∷ turns) t = LegalTurn settings k turn × Legal settings (known_after turn) turns t
