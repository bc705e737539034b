use Rattle.std.specs.Prelude.{flat_map}
use Rattle.std.proofs.Common.{◌∙◌}
use Rattle.hay_legal.specs.Transcript.{turn_text}
use Rattle.hay_run.proofs.Drilled.{fits_turns, header_ends, header_fine, header_text, summed, told_of, told_turns}
use Rattle.hay_run.proofs.drill.summary_of.Goals as goal

pub returns : goal.returns
returns c = λ settings turns fits is.
    summed turns c.in_ok-tally.tally
    (c.in_ok-tally.ensures (flat_map told_of turns) (fits_turns turns fits)
    (c.behind_first.ensures (header_text settings) (flat_map turn_text turns) (header_fine settings) (is ∙ header_ends settings (flat_map turn_text turns)) ∙ told_turns turns))
