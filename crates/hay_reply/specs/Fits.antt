-- The replies and notes that there are: each number is one of its field's type, and each photo is of bytes.
use Rattle.std.specs.Prelude.{ℕ, ◌^◌, ◌<◌, length}
use Rattle.std.specs.List.{AllByRecursion}
use Rattle.hex.specs.Hex.{IsBytes}
use Rattle.hay_url.specs.Url.{FitsUrl}
use Rattle.hay_reply.specs.declared.Refused.{Refused}
use Rattle.hay_reply.specs.declared.Refused.TheVariants.{NoRoom, Closed}
use Rattle.hay_reply.specs.declared.ClosedBy.{ClosedBy}
use Rattle.hay_reply.specs.declared.Cause.{Cause}
use Rattle.hay_reply.specs.declared.Cause.TheVariants.{Arm, Disk, Damage}
use Rattle.hay_reply.specs.declared.Passed.{Passed}
use Rattle.hay_reply.specs.declared.LineVolume.{LineVolume}
use Rattle.hay_reply.specs.declared.Reply.{Reply}
use Rattle.hay_reply.specs.declared.Reply.TheVariants.{Stored, Deleted, Photo, Gone, Absent, WrongCookie, Unknown, Moved, Url, Full, ReadOnly, ReadOnlyDir, Failed, FailedDir}
use Rattle.hay_reply.specs.declared.Reply.TheVariants.{Unreadable, Damaged, Flushed, Begun, Stepped, Compacted, Busy, Idle, Worn, Drained, Undrained, Fused, FusedDir, Nowhere}
use Rattle.hay_reply.specs.declared.Reply.TheVariants.{Restarted, BadLine, NoMem}
use Rattle.hay_reply.specs.declared.Note.{Note}
use Rattle.hay_reply.specs.declared.Note.TheVariants.{Kept, Lost, KeptDir, LostDir, Log, Rows, OpenShelf, OpenFailed, OpenDamaged}

-- a number of 32 bits, and one of 64
abbrev pub IsSmall : ℕ → Type 0
IsSmall n = n < 2 ^ 32

abbrev pub IsLarge : ℕ → Type 0
IsLarge n = n < 2 ^ 64

abbrev pub FitsRefused : Refused → Type 0
FitsRefused (NoRoom v m e n) = IsSmall v × IsSmall m × IsLarge e × IsLarge n
FitsRefused (Closed v m) = IsSmall v × IsSmall m

abbrev pub FitsClosed : ClosedBy → Type 0
FitsClosed closed = IsSmall closed.volume × IsSmall closed.machine

abbrev pub FitsCause : Cause → Type 0
FitsCause (Arm n) = IsLarge n
FitsCause (Disk n) = IsLarge n
FitsCause (Damage n) = IsLarge n

abbrev pub FitsPassed : Passed → Type 0
FitsPassed passed = IsSmall passed.machine × FitsCause passed.cause

abbrev pub FitsRow : LineVolume → Type 0
FitsRow row = IsLarge row.line × IsSmall row.volume

abbrev pub FitsReply : Reply → Type 0
FitsReply (Stored v p d c) = IsSmall v × IsLarge p × IsLarge d × IsLarge c.0
FitsReply (Deleted v p d) = IsSmall v × IsLarge p × IsLarge d
FitsReply (Photo v m p d photo) = IsSmall v × IsSmall m × IsLarge p × IsLarge d × IsBytes photo × IsLarge (length photo)
FitsReply (Gone v m p d) = IsSmall v × IsSmall m × IsLarge p × IsLarge d
FitsReply (Absent v p d) = IsSmall v × IsLarge p × IsLarge d
FitsReply (WrongCookie v m p d) = IsSmall v × IsSmall m × IsLarge p × IsLarge d
FitsReply (Unknown d) = IsLarge d
FitsReply (Moved v d) = IsSmall v × IsLarge d
FitsReply (Url d url) = IsLarge d × FitsUrl url
FitsReply (Full tries) = AllByRecursion FitsRefused tries
FitsReply (ReadOnly tries) = AllByRecursion FitsClosed tries
FitsReply ReadOnlyDir = Unit {0}
FitsReply (Failed v m n) = IsSmall v × IsSmall m × IsLarge n
FitsReply (FailedDir n) = IsLarge n
FitsReply (Unreadable v p d causes) = IsSmall v × IsLarge p × IsLarge d × AllByRecursion FitsPassed causes
FitsReply (Damaged v m n) = IsSmall v × IsSmall m × IsLarge n
FitsReply (Flushed v m n) = IsSmall v × IsSmall m × IsLarge n
FitsReply (Begun v m n) = IsSmall v × IsSmall m × IsLarge n
FitsReply (Stepped v m n) = IsSmall v × IsSmall m × IsLarge n
FitsReply (Compacted v m n) = IsSmall v × IsSmall m × IsLarge n
FitsReply (Busy v m n) = IsSmall v × IsSmall m × IsLarge n
FitsReply (Idle v m) = IsSmall v × IsSmall m
FitsReply (Worn v m) = IsSmall v × IsSmall m
FitsReply (Drained m) = IsSmall m
FitsReply (Undrained m) = IsSmall m
FitsReply (Fused v m n) = IsSmall v × IsSmall m × IsSmall n
FitsReply (FusedDir n) = IsSmall n
FitsReply Nowhere = Unit {0}
FitsReply (Restarted d) = IsLarge d
FitsReply BadLine = Unit {0}
FitsReply NoMem = Unit {0}

abbrev pub FitsNote : Note → Type 0
FitsNote (Kept v m n) = IsSmall v × IsSmall m × IsLarge n
FitsNote (Lost v m n) = IsSmall v × IsSmall m × IsLarge n
FitsNote (KeptDir n) = IsLarge n
FitsNote (LostDir n) = IsLarge n
FitsNote (Log v from lines) = IsSmall v × IsLarge from × AllByRecursion IsLarge lines
FitsNote (Rows from rows) = IsLarge from × AllByRecursion FitsRow rows
FitsNote (OpenShelf f) = IsLarge f
FitsNote (OpenFailed s f) = IsSmall s × IsLarge f
FitsNote (OpenDamaged s f at) = IsSmall s × IsSmall f × IsLarge at
