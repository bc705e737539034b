use Rattle.std.proofs.lemmas.Bool.{false≢true}
use Rattle.hay_map.proofs.RowLaws.{keeps_keeps}
use Rattle.hay_map.proofs.Changes.{load_gives, all_known}
use Rattle.hay_map.proofs.view.MapView.load.Goals as goal

pub returns-clause-ok : goal.returns-clause-ok
returns-clause-ok g c = load_gives _ _ _ _ _ (keeps_keeps _ _ _ c.expect.ensures c.in_ok-add_all.ensures.rows) c.set_all.ensures

pub returns-clause-known : goal.returns-clause-known
returns-clause-known g c = all_known _ _ c.set_all.ensures.known _ c.in_ok-add_all.ensures.known

pub returns-in_err-add_all-clause-memory : goal.returns-in_err-add_all-clause-memory
returns-in_err-add_all-clause-memory g c = λ all. absurd (false≢true (c.in_err-add_all.ensures.memory (all_known _ _ c.expect.ensures.known _ all)))
