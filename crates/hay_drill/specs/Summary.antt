-- The summary of what a store answers: how often each kind of reply came, and how many bytes the photos had.
use Rattle.std.specs.Prelude.{ℕ, ◌+◌, List, [], ◌∷◌, ◌++◌, length, codes, decimal}
use Rattle.hay_reply.specs.declared.Reply.{Reply}
use Rattle.hay_reply.specs.declared.Reply.TheVariants as reply
use Rattle.hay_reply.specs.declared.Note.{Note}
use Rattle.hay_reply.specs.declared.Note.TheVariants as note
use Rattle.hay_drill.specs.declared.summary.Summary.{Summary}

abbrev pub nothing : Summary
nothing = record { stored = 0; deleted = 0; photos = 0; photo_bytes = 0; gone = 0; flushed = 0; compacted = 0; rows = 0; other = 0 }

-- what both have together
abbrev pub plus : Summary → Summary → Summary
plus a b = record {
  stored = a.stored + b.stored;
  deleted = a.deleted + b.deleted;
  photos = a.photos + b.photos;
  photo_bytes = a.photo_bytes + b.photo_bytes;
  gone = a.gone + b.gone;
  flushed = a.flushed + b.flushed;
  compacted = a.compacted + b.compacted;
  rows = a.rows + b.rows;
  other = a.other + b.other;
}

abbrev pub one_other : Summary
one_other = record nothing { other = 1 }

-- What a reply adds. The reply to a restart adds nothing, and each reply that no line of the summary names is another.
abbrev pub of_reply : Reply → Summary
of_reply (reply.Stored v p d c) = record nothing { stored = 1 }
of_reply (reply.Deleted v p d) = record nothing { deleted = 1 }
of_reply (reply.Photo v m p d photo) = record nothing { photos = 1; photo_bytes = length photo }
of_reply (reply.Gone v m p d) = record nothing { gone = 1 }
of_reply (reply.Absent v p d) = record nothing { gone = 1 }
of_reply (reply.WrongCookie v m p d) = one_other
of_reply (reply.Unknown d) = one_other
of_reply (reply.Moved v d) = one_other
of_reply (reply.Url d url) = one_other
of_reply (reply.Full tries) = one_other
of_reply (reply.ReadOnly tries) = one_other
of_reply reply.ReadOnlyDir = one_other
of_reply (reply.Failed v m f) = one_other
of_reply (reply.FailedDir f) = one_other
of_reply (reply.Unreadable v p d causes) = one_other
of_reply (reply.Damaged v m at) = one_other
of_reply (reply.Flushed v m n) = record nothing { flushed = 1 }
of_reply (reply.Begun v m g) = one_other
of_reply (reply.Stepped v m n) = one_other
of_reply (reply.Compacted v m g) = record nothing { compacted = 1 }
of_reply (reply.Busy v m g) = one_other
of_reply (reply.Idle v m) = one_other
of_reply (reply.Worn v m) = one_other
of_reply (reply.Drained m) = one_other
of_reply (reply.Undrained m) = one_other
of_reply (reply.Fused v m n) = one_other
of_reply (reply.FusedDir n) = one_other
of_reply reply.Nowhere = one_other
of_reply (reply.Restarted d) = nothing
of_reply reply.BadLine = one_other
of_reply reply.NoMem = one_other

-- What a note adds: one of a change that had failed is another, whether the change was kept or lost.
abbrev pub of_note : Note → Summary
of_note (note.Kept v m line) = one_other
of_note (note.Lost v m line) = one_other
of_note (note.KeptDir line) = one_other
of_note (note.LostDir line) = one_other
of_note (note.Log v from lines) = nothing
of_note (note.Rows from rows) = nothing
of_note (note.OpenShelf f) = nothing
of_note (note.OpenFailed s f) = nothing
of_note (note.OpenDamaged s f at) = nothing

-- what all of them add
abbrev pub sum_of : {X : Type 0} → (X → Summary) → List X → Summary
sum_of of [] = nothing
sum_of of (x ∷ xs) = plus (of x) (sum_of of xs)

-- all its numbers together
abbrev pub total : Summary → ℕ
total s = s.stored + s.deleted + s.photos + s.photo_bytes + s.gone + s.flushed + s.compacted + s.rows + s.other

-- THE TEXT

abbrev pub one_number : List ℕ → ℕ → List ℕ
one_number word n = word ++ codes " " ++ decimal n ++ codes "\n"

abbrev pub two_numbers : List ℕ → ℕ → ℕ → List ℕ
two_numbers word m n = word ++ codes " " ++ decimal m ++ codes " " ++ decimal n ++ codes "\n"

-- the nine lines of a summary
abbrev pub summary_text : ℕ → ℕ → Summary → List ℕ
summary_text count first s =
    two_numbers (codes "drill") count first
    ++ one_number (codes "stored") s.stored
    ++ one_number (codes "deleted") s.deleted
    ++ two_numbers (codes "photo") s.photos s.photo_bytes
    ++ one_number (codes "gone") s.gone
    ++ one_number (codes "flushed") s.flushed
    ++ one_number (codes "compacted") s.compacted
    ++ one_number (codes "rows") s.rows
    ++ one_number (codes "other") s.other
