-- What bytes say where a needle's fields stand.
use Rattle.std.specs.Prelude.{ℕ, List, take, drop, slice_index, not, ◌==◌, if◌then◌else◌}
use Rattle.hay_needle.specs.declared.needle.Version.{Version}
use Rattle.hay_needle.specs.declared.needle.Version.TheVariants.{One, Two}
use Rattle.hay_needle.specs.declared.needle.Needle.{Needle}
use Rattle.hay_needle.specs.Fields.{number_at}
use Rattle.hay_needle.specs.Needle.{Head}

-- the version that byte 29 stands for: 1 where it is 0, and else 2, though above 1 it spells none
abbrev pub version_of : ℕ → Version
version_of byte = if byte == 0 then One else Two

-- the first 36 bytes
unfoldable pub head_at : List ℕ → Head
head_at bytes = record {
  version = version_of (slice_index bytes 29);
  pair = record { key = number_at 8 16 bytes; alt = number_at 4 24 bytes };
  cookie = record { 0 = number_at 8 8 bytes };
  deleted = not (slice_index bytes 28 == 0);
  size = number_at 4 32 bytes;
}

-- a needle of this head and photo
abbrev pub with_head : Head → List ℕ → Needle
with_head h photo = record { version = h.version; pair = h.pair; photo = record { cookie = h.cookie; bytes = photo }; deleted = h.deleted }

-- the whole needle
unfoldable pub needle_at : List ℕ → Needle
needle_at bytes = with_head (head_at bytes) (take (head_at bytes).size (drop 36 bytes))
