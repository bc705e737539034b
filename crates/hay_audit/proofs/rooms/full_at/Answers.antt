use Rattle.hay_audit.proofs.Lowest.{nothing_lacks}
use Rattle.hay_audit.proofs.rooms.full_at.Goals as goal

pub returns-in-None : goal.returns-in-None
returns-in-None c =
    nothing_lacks c.args.settings.now c.args.size c.args.volume c.args.state c.args.refused.now c.args.out.now _ _ _ _ c.in-None.ensures c.in-NoRoom.is
