use Rattle.std.proofs.Common.{◌∙◌}
use Rattle.hay_audit.proofs.ByPair.{remove_is}
use Rattle.hay_audit.proofs.table.remove.Goals as goal

pub returns : goal.returns
returns c = c.remove-photo.ensures.entries ∙ remove_is c.args.photos.now.entries c.args.pair c.len-count.ensures.ordered
