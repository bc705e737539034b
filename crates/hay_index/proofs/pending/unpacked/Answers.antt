use Rattle.std.proofs.Common.{◌++◌, ◌∙◌, ◌∷◌, [], List, ap, sym, take}
use Rattle.std.proofs.lemmas.List.{take_more}
use Rattle.hay_index.specs.declared.record.Record.{Record}
use Rattle.hay_index.proofs.pending.unpacked.Goals as goal

pub loop-record-preserved : goal.loop-record-preserved
loop-record-preserved c =
    c.in_ok-push.ensures.items ∙ ap (λ (l : List Record). l ++ c.record.result ∷ []) c.loop-record.invariant
    ∙ ap (λ (r : Record). take c.loop-record.record-index c.args.records.now ++ r ∷ []) (c.record.ensures ∙ c.record-item.is)
    ∙ sym (take_more c.args.records.now c.loop-record.record-index c.record-item.result c.loop-record-test.true)
