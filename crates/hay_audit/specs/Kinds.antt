-- Kinds of replies.
use Rattle.hay_reply.specs.declared.Reply.{Reply}
use Rattle.hay_reply.specs.declared.Reply.TheVariants as reply

-- what one replica showed
abbrev pub IsSight : Reply → Type 0
IsSight (reply.Photo v m p d bytes) = Unit {0}
IsSight (reply.Gone v m p d) = Unit {0}
IsSight (reply.WrongCookie v m p d) = Unit {0}
IsSight other = ⊥

-- a change, or that there was none to make
abbrev pub IsChange : Reply → Type 0
IsChange (reply.Stored v p d c) = Unit {0}
IsChange (reply.Deleted v p d) = Unit {0}
IsChange (reply.Absent v p d) = Unit {0}
IsChange other = ⊥

-- what refused, or failed
abbrev pub IsRefusal : Reply → Type 0
IsRefusal (reply.Full tries) = Unit {0}
IsRefusal (reply.ReadOnly tries) = Unit {0}
IsRefusal (reply.Unreadable v p d causes) = Unit {0}
IsRefusal (reply.Failed v m n) = Unit {0}
IsRefusal (reply.Damaged v m n) = Unit {0}
IsRefusal other = ⊥

-- one number or two
abbrev pub IsShort : Reply → Type 0
IsShort (reply.Unknown n) = Unit {0}
IsShort (reply.FailedDir n) = Unit {0}
IsShort (reply.Restarted n) = Unit {0}
IsShort (reply.Moved v d) = Unit {0}
IsShort (reply.Idle v m) = Unit {0}
IsShort (reply.Worn v m) = Unit {0}
IsShort (reply.Drained n) = Unit {0}
IsShort (reply.Undrained n) = Unit {0}
IsShort (reply.FusedDir n) = Unit {0}
IsShort other = ⊥

-- a number told of a replica
abbrev pub IsWork : Reply → Type 0
IsWork (reply.Flushed v m n) = Unit {0}
IsWork (reply.Begun v m n) = Unit {0}
IsWork (reply.Stepped v m n) = Unit {0}
IsWork (reply.Compacted v m n) = Unit {0}
IsWork (reply.Busy v m n) = Unit {0}
IsWork other = ⊥
