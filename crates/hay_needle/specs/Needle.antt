-- What a needle is, as bytes. All numbers are big-endian.
use Rattle.std.specs.Prelude.{◌≡◌, ◌≢◌, ℕ, ◌<◌, ◌≤◌, ◌^◌, ◌↔◌, List, ◌∷◌, ◌++◌, length, take, replicate, Bool, true, false, IsTrue}
use Rattle.byteorder.specs.Endian.{big_bytes}
use Rattle.sha2.specs.Sha256.{sha256}
use Rattle.hay_needle.specs.declared.needle.Version.{Version}
use Rattle.hay_needle.specs.declared.needle.Version.TheVariants.{One, Two}
use Rattle.hay_needle.specs.declared.needle.Pair.{Pair}
use Rattle.hay_needle.specs.declared.needle.Cookie.{Cookie}
use Rattle.hay_needle.specs.declared.needle.Photo.{Photo}
use Rattle.hay_needle.specs.declared.needle.Needle.{Needle}
use Rattle.hay_needle.specs.declared.needle.Cell.{Cell}
use Rattle.hay_needle.specs.declared.needle.CellHead.{CellHead}
use Rattle.hay_needle.specs.declared.needle.NeedleView.{NeedleView}
use Rattle.hay_needle.specs.Sizes.{max_photo, needle_padding}

-- `NEEDLE01`
abbrev pub needle_magic : ℕ
needle_magic = 0x4e4545444c453031

-- `NEND`
abbrev pub footer_magic : ℕ
footer_magic = 0x4e454e44

-- what the first 36 bytes of a needle say
pub record Head : Type 0 where
  pub version : Version
  pub pair : Pair
  pub cookie : Cookie
  pub deleted : Bool
  pub size : ℕ

abbrev pub head_of_cell : CellHead → Head
head_of_cell c = record { version = c.version; pair = c.pair; cookie = c.cookie; deleted = c.deleted; size = c.size }

abbrev pub needle_of_cell : Cell → Needle
needle_of_cell c = record { version = c.version; pair = c.pair; photo = record { cookie = c.cookie; bytes = c.bytes }; deleted = c.deleted }

abbrev pub needle_of_view : NeedleView → Needle
needle_of_view v = record { version = v.version; pair = v.pair; photo = record { cookie = v.cookie; bytes = v.bytes.now }; deleted = v.deleted }

-- the head of a needle
abbrev pub head_of_needle : Needle → Head
head_of_needle n = record { version = n.version; pair = n.pair; cookie = n.photo.cookie; deleted = n.deleted; size = length n.photo.bytes }

-- the byte that spells a version: the version less 1
abbrev pub version_byte : Version → ℕ
version_byte One = 0
version_byte Two = 1

-- the 28 bytes from the cookie to the size
unfoldable pub head_rest : Head → ℕ → List ℕ
head_rest h flags =
    big_bytes 8 h.cookie.0 ++ (big_bytes 8 h.pair.key ++ (big_bytes 4 h.pair.alt
    ++ (flags ∷ version_byte h.version ∷ replicate 2 0 ++ big_bytes 4 h.size)))

-- the 36 bytes before the photo
unfoldable pub head_bytes : Head → ℕ → List ℕ
head_bytes h flags = big_bytes 8 needle_magic ++ head_rest h flags

-- a new needle: of version 2, and not deleted
abbrev pub live : Pair → Cookie → List ℕ → Needle
live pair cookie photo = record { version = Two; pair = pair; photo = record { cookie = cookie; bytes = photo }; deleted = false }

-- what the checksum is made of: in version 1 the photo, in version 2 also its cookie, its keys and its size
abbrev pub covered_bytes : Version → Pair → Photo → List ℕ
covered_bytes One pair photo = photo.bytes
covered_bytes Two pair photo =
    big_bytes 8 photo.cookie.0 ++ (big_bytes 8 pair.key ++ (big_bytes 4 pair.alt ++ (big_bytes 4 (length photo.bytes) ++ photo.bytes)))

-- the checksum of a needle
abbrev pub needle_sum : Needle → List ℕ
needle_sum n = take 8 (sha256 (covered_bytes n.version n.pair n.photo))

-- what stands behind the photo: footer magic, checksum and padding
unfoldable pub footer_bytes : Needle → List ℕ
footer_bytes n = big_bytes 4 footer_magic ++ (needle_sum n ++ replicate (needle_padding (length n.photo.bytes)) 0)

-- a needle from its cookie on
abbrev pub needle_rest : Needle → ℕ → List ℕ
needle_rest n flags = head_rest (head_of_needle n) flags ++ (n.photo.bytes ++ footer_bytes n)

-- the one spelling of a needle with this flags byte
abbrev pub needle_bytes : Needle → ℕ → List ℕ
needle_bytes n flags = head_bytes (head_of_needle n) flags ++ (n.photo.bytes ++ footer_bytes n)

-- a head that has a spelling, with this flags byte
pub record Fits (h : Head) (flags : ℕ) : Type 0 where
  pub key : h.pair.key < 2 ^ 64
  pub alt : h.pair.alt < 2 ^ 32
  pub cookie : h.cookie.0 < 2 ^ 64
  pub size : h.size ≤ max_photo h.version
  pub deleted : IsTrue h.deleted ↔ (flags ≢ 0)

-- the bytes are the head
pub record HeadBytes (bytes : List ℕ) (h : Head) : Type 0 where
  pub flags : ℕ
  pub spelled : bytes ≡ head_bytes h flags
  pub fits : Fits h flags

-- the bytes are the needle
pub record NeedleBytes (bytes : List ℕ) (n : Needle) : Type 0 where
  pub flags : ℕ
  pub spelled : bytes ≡ needle_bytes n flags
  pub fits : Fits (head_of_needle n) flags

-- new is old with a needle at its end, but for the needle's magic, and eight zeros behind it
pub record AppendsBehindMagic (old new : List ℕ) (n : Needle) : Type 0 where
  pub rest : List ℕ
  pub is : NeedleBytes (big_bytes 8 needle_magic ++ rest) n
  pub grown : new ≡ old ++ (rest ++ replicate 8 0)

-- the bytes begin with the needle
pub record BeginsWithNeedle (bytes : List ℕ) (n : Needle) : Type 0 where
  pub needle : List ℕ
  pub rest : List ℕ
  pub parts : bytes ≡ needle ++ rest
  pub is : NeedleBytes needle n

-- the needle with its flag set
abbrev pub deleted_needle : Needle → Needle
deleted_needle n = record n { deleted = true }
