-- What a transcript tells line by line. Of this file `run` cites `rows_told` alone.
use Rattle.std.specs.Prelude.{◌≡◌, ◌⊎◌, not, ℕ, Bool, true, List, [], ◌∷◌}
use Rattle.std.specs.Char.{is_ascii_digit}
use Rattle.std.specs.List.{list_all}
use Rattle.hay_reply.specs.declared.Note.{Note}
use Rattle.hay_reply.specs.declared.Reply.{Reply}
use Rattle.hay_reply.specs.declared.Reply.TheVariants as reply
use Rattle.hay_reply.specs.Fits.{FitsNote, FitsReply}
use Rattle.hay_reply.specs.Reading.{is_mark}
use Rattle.hay_reply.specs.Replies.{note_line, numbered_line}
use Rattle.hay_drill.specs.declared.summary.Summary.{Summary}
use Rattle.hay_drill.specs.Summary.{nothing, of_note, of_reply, plus}
use Rattle.hay_run.specs.declared.drill.Tally.{Tally}

-- the rows that a reply tells where it is one to a restart, or those told before
abbrev pub rows_told : ℕ → Reply → ℕ
rows_told rows (reply.Stored v p d c) = rows
rows_told rows (reply.Deleted v p d) = rows
rows_told rows (reply.Photo v m p d photo) = rows
rows_told rows (reply.Gone v m p d) = rows
rows_told rows (reply.Absent v p d) = rows
rows_told rows (reply.WrongCookie v m p d) = rows
rows_told rows (reply.Unknown d) = rows
rows_told rows (reply.Moved v d) = rows
rows_told rows (reply.Url d url) = rows
rows_told rows (reply.Full tries) = rows
rows_told rows (reply.ReadOnly tries) = rows
rows_told rows reply.ReadOnlyDir = rows
rows_told rows (reply.Failed v m f) = rows
rows_told rows (reply.FailedDir f) = rows
rows_told rows (reply.Unreadable v p d causes) = rows
rows_told rows (reply.Damaged v m at) = rows
rows_told rows (reply.Flushed v m n) = rows
rows_told rows (reply.Begun v m g) = rows
rows_told rows (reply.Stepped v m n) = rows
rows_told rows (reply.Compacted v m g) = rows
rows_told rows (reply.Busy v m g) = rows
rows_told rows (reply.Idle v m) = rows
rows_told rows (reply.Worn v m) = rows
rows_told rows (reply.Drained m) = rows
rows_told rows (reply.Undrained m) = rows
rows_told rows (reply.Fused v m n) = rows
rows_told rows (reply.FusedDir n) = rows
rows_told rows reply.Nowhere = rows
rows_told rows (reply.Restarted d) = d
rows_told rows reply.BadLine = rows
rows_told rows reply.NoMem = rows

-- a photo, or a restart
abbrev pub IsMeasured : Reply → Type 0
IsMeasured (reply.Stored v p d c) = ⊥
IsMeasured (reply.Deleted v p d) = ⊥
IsMeasured (reply.Photo v m p d photo) = Unit {0}
IsMeasured (reply.Gone v m p d) = ⊥
IsMeasured (reply.Absent v p d) = ⊥
IsMeasured (reply.WrongCookie v m p d) = ⊥
IsMeasured (reply.Unknown d) = ⊥
IsMeasured (reply.Moved v d) = ⊥
IsMeasured (reply.Url d url) = ⊥
IsMeasured (reply.Full tries) = ⊥
IsMeasured (reply.ReadOnly tries) = ⊥
IsMeasured reply.ReadOnlyDir = ⊥
IsMeasured (reply.Failed v m f) = ⊥
IsMeasured (reply.FailedDir f) = ⊥
IsMeasured (reply.Unreadable v p d causes) = ⊥
IsMeasured (reply.Damaged v m at) = ⊥
IsMeasured (reply.Flushed v m n) = ⊥
IsMeasured (reply.Begun v m g) = ⊥
IsMeasured (reply.Stepped v m n) = ⊥
IsMeasured (reply.Compacted v m g) = ⊥
IsMeasured (reply.Busy v m g) = ⊥
IsMeasured (reply.Idle v m) = ⊥
IsMeasured (reply.Worn v m) = ⊥
IsMeasured (reply.Drained m) = ⊥
IsMeasured (reply.Undrained m) = ⊥
IsMeasured (reply.Fused v m n) = ⊥
IsMeasured (reply.FusedDir n) = ⊥
IsMeasured reply.Nowhere = ⊥
IsMeasured (reply.Restarted d) = Unit {0}
IsMeasured reply.BadLine = ⊥
IsMeasured reply.NoMem = ⊥

-- a reply behind its line's number, or a note
pub data Told : Type 0 where
  Replied : ℕ → Reply → Told
  Noted : Note → Told

abbrev pub told_line : Told → List ℕ
told_line (Replied line r) = numbered_line line r
told_line (Noted note) = note_line note

-- its numbers are of their types, or it is a note that adds nothing
abbrev pub FitsTold : Told → Type 0
FitsTold (Replied line r) = FitsReply r
FitsTold (Noted note) = FitsNote note ⊎ (of_note note ≡ nothing)

abbrev pub of_told : Told → Summary
of_told (Replied line r) = of_reply r
of_told (Noted note) = of_note note

abbrev pub rows_by : ℕ → Told → ℕ
rows_by rows (Replied line r) = rows_told rows r
rows_by rows (Noted note) = rows

-- what is counted with one line more
abbrev pub counted : Tally → Told → Tally
counted tally told = record { summary = plus tally.summary (of_told told); rows = rows_by tally.rows told }

abbrev pub counted_all : Tally → List Told → Tally
counted_all tally [] = tally
counted_all tally (told ∷ behind) = counted_all (counted tally told) behind

abbrev pub no_tally : Tally
no_tally = record { summary = nothing; rows = 0 }

-- a byte that is no digit
abbrev pub is_other : ℕ → Bool
is_other byte = not (is_ascii_digit byte)

-- it has no line feed
abbrev pub IsOneLine : List ℕ → Type 0
IsOneLine text = list_all (λ byte. not (is_mark 10 byte)) text ≡ true
