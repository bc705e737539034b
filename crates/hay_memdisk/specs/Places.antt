-- What is kept beside the bytes of a file in memory.
use Rattle.std.specs.Prelude.{ℕ, Bool, true, not, ◌&&◌, ◌+◌, nat_lt, nat_le, nat_eq, List}
use Rattle.std.specs.List.{list_any}
use Rattle.hay_memdisk.specs.declared.place.Place.{Place}
use Rattle.hay_memdisk.specs.declared.file.Seal.{Seal}

-- a place where nothing was written yet
abbrev pub no_place : Place
no_place = record { solid = 0; asked = 0; loose = true }

-- the piece stands on this place, and it is not its hole
abbrev pub covers : ℕ → Seal → Bool
covers k seal = nat_le seal.at k && (nat_lt k (seal.at + seal.len) && not (nat_eq k (seal.at + seal.hole)))

-- some piece stands on this place
abbrev pub is_sealed : List Seal → ℕ → Bool
is_sealed seals k = list_any (covers k) seals
