-- What is kept of a reply.
use Rattle.std.specs.Prelude.{◌≡◌}
use Rattle.hay_reply.specs.declared.Reply.{Reply}
use Rattle.hay_reply.specs.Replies.{reply_text}
use Rattle.hay_block.specs.declared.text.Kept.{Kept}
use Rattle.hay_block.specs.declared.text.Kept.TheVariants.{Text, Whole}

-- its text, or itself
abbrev pub Keeps : Kept → Reply → Type 0
Keeps (Text text) reply = text.items ≡ reply_text reply
Keeps (Whole kept) reply = kept ≡ reply
