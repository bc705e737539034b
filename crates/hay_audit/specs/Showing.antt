-- What a reader leaves that was shown nothing.
use Rattle.std.specs.Prelude.{ℕ, ◌&&◌, List, []}
use Rattle.hay_needle.specs.declared.needle.Pair.{Pair}
use Rattle.hay_needle.specs.declared.settings.Settings.{Settings}
use Rattle.hay_reply.specs.declared.Passed.{Passed}
use Rattle.hay_reply.specs.declared.Reply.{Reply}
use Rattle.hay_reply.specs.declared.Reply.TheVariants.{Unknown, Unreadable}
use Rattle.hay_legal.specs.declared.known.Known.{Known}
use Rattle.hay_legal.specs.Plain.{order_from}
use Rattle.hay_audit_steps.specs.Next as next

abbrev pub next_unreadable : Settings → Known → ℕ → ℕ → Pair → ℕ → ℕ → ℕ → List Passed → List Known
next_unreadable settings b lane start pair v p d causes =
    next.keep_if (next.is_seen b pair v p d && (next.may_pass settings b lane v (order_from settings start) causes && next.arms_rise causes))
    (next.all_caused settings lane v (order_from settings start) causes b)

abbrev pub next_unshown : Settings → Known → ℕ → ℕ → Pair → Reply → List Known
next_unshown settings b lane start pair (Unreadable v p d causes) = next_unreadable settings b lane start pair v p d causes
next_unshown settings b lane start pair (Unknown d) = next.next_unknown b pair d
next_unshown settings b lane start pair reply = []
