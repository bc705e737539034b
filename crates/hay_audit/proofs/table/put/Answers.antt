use Rattle.std.proofs.Common.{◌∙◌}
use Rattle.hay_audit.proofs.ByPair.{put_is}
use Rattle.hay_audit.proofs.table.put.Goals as goal

pub returns : goal.returns
returns c = c.in_ok-insert.ensures.entries ∙ put_is c.args.photos.now.entries c.args.pair c.args.photo
