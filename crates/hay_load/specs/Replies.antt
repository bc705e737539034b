-- The replies to batches and bad lines: which there are, and their texts.
use Rattle.std.specs.Prelude.{ℕ, List, ◌++◌, map, codes, decimal}
use Rattle.hay_reply.specs.declared.Refused.{Refused}
use Rattle.hay_reply.specs.declared.Refused.TheVariants.{NoRoom}
use Rattle.hay_reply.specs.declared.Reply.TheVariants.{Full}
use Rattle.hay_reply.specs.Fits.{FitsReply, IsLarge, IsSmall}
use Rattle.hay_reply.specs.Replies.{field, numbered_line}
use Rattle.hay_batch.specs.declared.fault.FullTry.{FullTry}
use Rattle.hay_load.specs.declared.reply.LoadReply.{LoadReply}
use Rattle.hay_load.specs.declared.reply.LoadReply.TheVariants.{Loaded, Known, Other}

-- each number of a reply is one of its field's type
abbrev pub FitsLoad : LoadReply → Type 0
FitsLoad (Loaded volume photos rows) = IsSmall volume × IsLarge photos × IsLarge rows
FitsLoad (Known volume) = IsSmall volume
FitsLoad (Other reply) = FitsReply reply

-- a try without room, as a run tells it
abbrev pub refused_of : FullTry → Refused
refused_of full = NoRoom full.volume full.machine full.end full.need

abbrev pub full_reply : List FullTry → LoadReply
full_reply tries = Other (Full (map refused_of tries))

-- the line of a reply, by the number of the group's first line
abbrev pub load_line : ℕ → LoadReply → List ℕ
load_line line (Loaded volume photos rows) = decimal line ++ codes " loaded" ++ field volume ++ field photos ++ field rows ++ codes "\n"
load_line line (Known volume) = decimal line ++ codes " known" ++ field volume ++ codes "\n"
load_line line (Other reply) = numbered_line line reply
