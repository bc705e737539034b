use Rattle.std.proofs.Common.{◌≡◌, ◌+◌, drop, option_map}
use Rattle.hay_audit.specs.Feeds as feeds
use Rattle.hay_audit.proofs.answers.find_feed.Given as goal

abbrev pub invariant-loop-i : goal.invariant-loop-i
invariant-loop-i l = feeds.feed_at l.text ≡ option_map (λ n. l.i + n) (feeds.feed_at (drop l.i l.text))
