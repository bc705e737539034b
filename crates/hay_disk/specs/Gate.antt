-- A log of records that each stand behind a magic, and the place behind the last one, where no magic stands yet.
use Rattle.std.specs.Prelude.{◌≡◌, ◌⊎◌, ◌≢◌, ◌≤◌, ◌+◌, ℕ, false, List, ◌++◌, length, take, drop, replicate}
use Rattle.std.specs.Int.{bytes_high_first}
use Rattle.hay_disk.specs.Disk.{FileState, IsImage, IsSolidIn}

-- the eight bytes of a magic, the highest first
abbrev pub magic_bytes : ℕ → List ℕ
magic_bytes magic = bytes_high_first 8 magic

-- the eight bytes that are written behind the last record
abbrev pub end_mark : List ℕ
end_mark = replicate 8 0

-- the bytes end in the end mark
abbrev pub EndsInMark : List ℕ → Type 0
EndsInMark body = (rest : List ℕ) × (body ≡ rest ++ end_mark)

-- the bytes behind their magic
abbrev pub record_of : ℕ → List ℕ → List ℕ
record_of magic bytes = magic_bytes magic ++ bytes

-- these bytes stand at this offset
abbrev pub HasBytesAt : ℕ → List ℕ → List ℕ → Type 0
HasBytesAt at bytes file = take (length bytes) (drop at file) ≡ bytes

-- at `end` stand eight bytes that are not the magic
pub record IsClosed (magic end : ℕ) (file : List ℕ) : Type 0 where
  pub room : end + 8 ≤ length file
  pub shut : take 8 (drop end file) ≢ magic_bytes magic

-- a record may be appended at `end`
pub record IsGate (magic end : ℕ) (file : FileState) : Type 0 where
  pub closed : IsClosed magic end file.now
  pub solid : IsSolidIn end 8 file
  pub free : (k : ℕ) → end ≤ k → file.sealed k ≡ false

-- the file has the whole record, or no magic at `end`
abbrev pub IsWholeOrClosed : ℕ → ℕ → List ℕ → List ℕ → Type 0
IsWholeOrClosed magic end body file = IsClosed magic end file ⊎ HasBytesAt end (record_of magic body) file

-- A log: these bytes, then eight that are not the magic, then anything.
pub record IsLog (magic : ℕ) (front file : List ℕ) : Type 0 where
  pub begins : take (length front) file ≡ front
  pub closed : IsClosed magic (length front) file

-- A body that is some bytes and the end mark makes a log longer by these bytes behind their magic.
pub record LogGrows (magic end : ℕ) (body old new : List ℕ) : Type 0 where
  pub longer : (front bytes : List ℕ) → length front ≡ end → body ≡ bytes ++ end_mark → IsLog magic front old
      → IsLog magic (front ++ record_of magic bytes) new

-- Where the log is solid, each image of the new file is the old log, or that log and the bytes behind their magic.
pub record LogStays (magic end : ℕ) (body : List ℕ) (old new : FileState) : Type 0 where
  pub image : (front bytes image : List ℕ) → length front ≡ end → body ≡ bytes ++ end_mark → IsLog magic front old.now
      → IsSolidIn 0 end old → IsImage new image → IsLog magic front image ⊎ IsLog magic (front ++ record_of magic bytes) image
