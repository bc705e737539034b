-- The one text of each reply and note, and of a transcript's first line.
use Rattle.std.specs.Prelude.{ℕ, ◌==◌, ◌&&◌, nat_le, List, [], ◌∷◌, ◌++◌, length, codes, decimal, flat_map, if◌then◌else◌}
use Rattle.std.specs.List.{list_all}
use Rattle.hex.specs.Hex.{encode_lower}
use Rattle.hay_needle.specs.declared.settings.Settings.{Settings}
use Rattle.hay_url.specs.Url.{cookie_text, url_text}
use Rattle.hay_reply.specs.declared.Refused.{Refused}
use Rattle.hay_reply.specs.declared.Refused.TheVariants.{NoRoom, Closed}
use Rattle.hay_reply.specs.declared.ClosedBy.{ClosedBy}
use Rattle.hay_reply.specs.declared.Cause.{Cause}
use Rattle.hay_reply.specs.declared.Cause.TheVariants.{Arm, Disk, Damage}
use Rattle.hay_reply.specs.declared.Passed.{Passed}
use Rattle.hay_reply.specs.declared.LineVolume.{LineVolume}
use Rattle.hay_reply.specs.declared.Reply.{Reply}
use Rattle.hay_reply.specs.declared.Reply.TheVariants.{Stored, Deleted, Photo, Gone, Absent, WrongCookie, Unknown, Moved, Url, Full, ReadOnly, ReadOnlyDir, Failed, FailedDir}
use Rattle.hay_reply.specs.declared.Reply.TheVariants.{Unreadable, Damaged, Flushed, Begun, Stepped, Compacted, Busy, Idle, Worn, Drained, Undrained, Fused, FusedDir, Nowhere}
use Rattle.hay_reply.specs.declared.Reply.TheVariants.{Restarted, BadLine, NoMem}
use Rattle.hay_reply.specs.declared.Note.{Note}
use Rattle.hay_reply.specs.declared.Note.TheVariants.{Kept, Lost, KeptDir, LostDir, Log, Rows, OpenShelf, OpenFailed, OpenDamaged}

-- a number behind a space, and one behind a colon
abbrev pub field : ℕ → List ℕ
field n = codes " " ++ decimal n

abbrev pub colon : ℕ → List ℕ
colon n = codes ":" ++ decimal n

-- a volume and a machine, behind a space
abbrev pub place : ℕ → ℕ → List ℕ
place volume machine = field volume ++ colon machine

-- where a reader looked, and the fronts that it saw
abbrev pub sight : ℕ → ℕ → ℕ → ℕ → List ℕ
sight volume machine front rows = field volume ++ field machine ++ field front ++ field rows

-- at least 16 bytes that are all equal are written once
abbrev pub data_text : List ℕ → List ℕ
data_text [] = codes "-"
data_text (b ∷ rest) =
    if nat_le 16 (length (b ∷ rest)) && list_all (λ c. c == b) rest
    then codes "x" ++ decimal (length (b ∷ rest)) ++ codes ":" ++ encode_lower (b ∷ [])
    else encode_lower (b ∷ rest)

abbrev pub refused_text : Refused → List ℕ
refused_text (NoRoom volume machine end need) = place volume machine ++ colon end ++ colon need
refused_text (Closed volume machine) = place volume machine ++ codes ":ro"

abbrev pub closed_text : ClosedBy → List ℕ
closed_text closed = place closed.volume closed.machine

abbrev pub cause_text : Cause → List ℕ
cause_text (Arm faults) = codes ":arm" ++ colon faults
cause_text (Disk faults) = codes ":disk" ++ colon faults
cause_text (Damage at) = codes ":damage" ++ colon at

abbrev pub passed_text : Passed → List ℕ
passed_text passed = field passed.machine ++ cause_text passed.cause

abbrev pub row_text : LineVolume → List ℕ
row_text row = field row.line ++ colon row.volume

-- a reply, without its line's number
abbrev pub reply_text : Reply → List ℕ
reply_text (Stored volume position rows cookie) = codes "stored" ++ field volume ++ field position ++ field rows ++ codes " " ++ cookie_text cookie
reply_text (Deleted volume position rows) = codes "deleted" ++ field volume ++ field position ++ field rows
reply_text (Photo volume machine front rows photo) = codes "photo" ++ sight volume machine front rows ++ codes " " ++ data_text photo
reply_text (Gone volume machine front rows) = codes "gone" ++ sight volume machine front rows
reply_text (Absent volume front rows) = codes "gone" ++ field volume ++ field front ++ field rows
reply_text (WrongCookie volume machine front rows) = codes "wrong cookie" ++ sight volume machine front rows
reply_text (Unknown rows) = codes "unknown" ++ field rows
reply_text (Moved volume rows) = codes "moved" ++ field volume ++ field rows
reply_text (Url rows url) = codes "url" ++ field rows ++ codes " " ++ url_text url
reply_text (Full tries) = codes "full" ++ flat_map refused_text tries
reply_text (ReadOnly tries) = codes "readonly" ++ flat_map closed_text tries
reply_text ReadOnlyDir = codes "readonly dir"
reply_text (Failed volume machine faults) = codes "failed" ++ place volume machine ++ field faults
reply_text (FailedDir faults) = codes "failed dir" ++ field faults
reply_text (Unreadable volume front rows causes) = codes "unreadable" ++ field volume ++ field front ++ field rows ++ flat_map passed_text causes
reply_text (Damaged volume machine at) = codes "damaged" ++ place volume machine ++ field at
reply_text (Flushed volume machine records) = codes "flushed" ++ place volume machine ++ field records
reply_text (Begun volume machine generation) = codes "begun" ++ place volume machine ++ field generation
reply_text (Stepped volume machine cells) = codes "stepped" ++ place volume machine ++ field cells
reply_text (Compacted volume machine generation) = codes "compacted" ++ place volume machine ++ field generation
reply_text (Busy volume machine generation) = codes "busy" ++ place volume machine ++ field generation
reply_text (Idle volume machine) = codes "idle" ++ place volume machine
reply_text (Worn volume machine) = codes "worn" ++ place volume machine
reply_text (Drained machine) = codes "drained" ++ field machine
reply_text (Undrained machine) = codes "undrained" ++ field machine
reply_text (Fused volume machine calls) = codes "fused" ++ place volume machine ++ field calls
reply_text (FusedDir calls) = codes "fused dir" ++ field calls
reply_text Nowhere = codes "nowhere"
reply_text (Restarted rows) = codes "restarted" ++ field rows
reply_text BadLine = codes "bad line"
reply_text NoMem = codes "nomem"

-- a reply that names a replica, and behind it a number at most
abbrev pub NamesReplica : Reply → Type 0
NamesReplica (Failed volume machine faults) = Unit {0}
NamesReplica (Damaged volume machine at) = Unit {0}
NamesReplica (Flushed volume machine records) = Unit {0}
NamesReplica (Begun volume machine generation) = Unit {0}
NamesReplica (Stepped volume machine cells) = Unit {0}
NamesReplica (Compacted volume machine generation) = Unit {0}
NamesReplica (Busy volume machine generation) = Unit {0}
NamesReplica (Idle volume machine) = Unit {0}
NamesReplica (Worn volume machine) = Unit {0}
NamesReplica (Fused volume machine calls) = Unit {0}
NamesReplica reply = ⊥

-- a line without a number, without its line feed
abbrev pub note_text : Note → List ℕ
note_text (Kept volume machine line) = codes "kept" ++ place volume machine ++ field line
note_text (Lost volume machine line) = codes "lost" ++ place volume machine ++ field line
note_text (KeptDir line) = codes "kept dir" ++ field line
note_text (LostDir line) = codes "lost dir" ++ field line
note_text (Log volume from lines) = codes "log" ++ field volume ++ field from ++ flat_map field lines
note_text (Rows from rows) = codes "rows" ++ field from ++ flat_map row_text rows
note_text (OpenShelf faults) = codes "open shelf" ++ field faults
note_text (OpenFailed slot faults) = codes "open failed" ++ field slot ++ field faults
note_text (OpenDamaged slot file at) = codes "open damaged" ++ field slot ++ field file ++ field at

-- lines of the transcript
abbrev pub numbered_line : ℕ → Reply → List ℕ
numbered_line line reply = decimal line ++ codes " " ++ reply_text reply ++ codes "\n"

abbrev pub note_line : Note → List ℕ
note_line note = note_text note ++ codes "\n"

abbrev pub header_line : Settings → List ℕ
header_line settings =
    codes "haystack" ++ field settings.machines ++ field settings.volumes ++ field settings.replicas ++ field settings.capacity ++ codes "\n"
