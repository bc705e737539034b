use Rattle.hay_needle.proofs.Needles.{length-super}
use Rattle.hay_index.proofs.IndexLaws.{index_formatted}
use Rattle.hay_index.proofs.index.IndexFile.format.Goals as goal

pub returns-clause-empty : goal.returns-clause-empty
returns-clause-empty g c = λ tells.
    index_formatted _ _ _ _ (length-super c.args.sup.now) c.empty_file.ensures (c.in_ok-write.ensures.written tells)
