use Rattle.std.proofs.Common.{◌<◌, ◌∙◌, sym, subst}
use Rattle.hay_needle.specs.declared.settings.Settings.{Settings}
use Rattle.hay_batch.specs.Shelves.{disk_count}
use Rattle.hay_batch_tests.proofs.loads.stopped.Goals as goal

pub stop-requires : goal.stop-requires
stop-requires c = λ n low. c.close.ensures.back n (subst (λ (s : Settings). n < disk_count s) (sym (c.load_batch.ensures.shape.0 ∙ c.in_ok-store.ensures.settings)) low)
