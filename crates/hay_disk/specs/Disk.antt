-- What the files of a disk are, what each call does to them, and what a stop may leave.
use Rattle.std.specs.Prelude.{◌≡◌, ◌⊎◌, ◌≤◌, ◌<◌, ◌+◌, max, ℕ, Bool, false, List, [], ◌++◌, length, take, drop}
use Rattle.std.specs.List.{slice_get}

-- A file: what reads give, the places that a stop may change, the places that pieces stand on but for their holes,
-- and the least and the greatest length since the last sync.
pub record FileState : Type 0 where
  pub now : List ℕ
  pub loose : ℕ → Bool
  pub sealed : ℕ → Bool
  pub shortest : ℕ
  pub longest : ℕ

-- the files by number
abbrev pub Files : Type 0
Files = ℕ → FileState

-- a file that there is not
abbrev pub empty_file : FileState
empty_file = record { now = []; loose = λ _. false; sealed = λ _. false; shortest = 0; longest = 0 }

-- What a stop may leave of a file: outside the loose places the present bytes, at these any bytes, and a length
-- between the least and the greatest.
pub record IsImage (file : FileState) (image : List ℕ) : Type 0 where
  pub no_shorter : file.shortest ≤ length image
  pub no_longer : length image ≤ file.longest
  pub same : (k : ℕ) → file.loose k ≡ false → slice_get image k ≡ slice_get file.now k

-- The disk model: what a stop may leave of each file.
abbrev pub MayLeave : Files → (ℕ → List ℕ) → Type 0
MayLeave files image = (n : ℕ) → IsImage (files n) (image n)

-- Nothing of the file is loose: neither a place nor its length.
pub record IsSolid (file : FileState) : Type 0 where
  pub places : (k : ℕ) → file.loose k ≡ false
  pub shortest : length file.now ≤ file.shortest
  pub longest : file.longest ≤ length file.now

-- none of the n places from `at` on is loose
abbrev pub IsSolidIn : ℕ → ℕ → FileState → Type 0
IsSolidIn at n file = (k : ℕ) → at ≤ k → k < at + n → file.loose k ≡ false

-- none of the n places from `at` on is sealed
abbrev pub IsFreeIn : ℕ → ℕ → FileState → Type 0
IsFreeIn at n file = (k : ℕ) → at ≤ k → k < at + n → file.sealed k ≡ false

-- nothing of the file is sealed
abbrev pub IsFree : FileState → Type 0
IsFree file = (k : ℕ) → file.sealed k ≡ false

-- k is none of the n places from `at` on
abbrev pub IsOutside : ℕ → ℕ → ℕ → Type 0
IsOutside at n k = (k < at) ⊎ (at + n ≤ k)

-- these bytes in place of those at this offset, or past the end
abbrev pub overwrite : ℕ → List ℕ → List ℕ → List ℕ
overwrite at bytes old = take at old ++ bytes ++ drop (at + length bytes) old

-- Changes were made to these n places and at the end alone: elsewhere the bytes stay, and solid places are solid.
pub record Changes (at n : ℕ) (old new : FileState) : Type 0 where
  pub before : take at new.now ≡ take at old.now
  pub after : drop (at + n) new.now ≡ drop (at + n) old.now
  pub grows : length old.now ≤ length new.now
  pub no_further : length new.now ≤ max (length old.now) (at + n)
  pub solid : (k : ℕ) → old.loose k ≡ false → IsOutside at n k → new.loose k ≡ false
  pub free : (k : ℕ) → old.sealed k ≡ false → new.sealed k ≡ false
  pub shortest : old.shortest ≤ new.shortest
  pub longest : new.longest ≤ max old.longest (at + n)

-- The bytes stay, and nothing that was solid is loose.
pub record Keeps (old new : FileState) : Type 0 where
  pub now : new.now ≡ old.now
  pub solid : (k : ℕ) → old.loose k ≡ false → new.loose k ≡ false
  pub free : (k : ℕ) → old.sealed k ≡ false → new.sealed k ≡ false
  pub shortest : old.shortest ≤ new.shortest
  pub longest : new.longest ≤ old.longest

-- The file was taken away: what was there may be back after a stop.
pub record Removes (old new : FileState) : Type 0 where
  pub now : new.now ≡ []
  pub solid : (k : ℕ) → old.loose k ≡ false → length old.now ≤ k → new.loose k ≡ false
  pub free : (k : ℕ) → old.sealed k ≡ false → new.sealed k ≡ false
  pub longest : new.longest ≤ max old.longest (length old.now)

-- A piece of these n places was given out: they are sealed but for the hole, and nothing else changes.
pub record Seals (at n hole : ℕ) (old new : FileState) : Type 0 where
  pub now : new.now ≡ old.now
  pub solid : (k : ℕ) → old.loose k ≡ false → new.loose k ≡ false
  pub free : (k : ℕ) → old.sealed k ≡ false → IsOutside at n k ⊎ (k ≡ at + hole) → new.sealed k ≡ false
  pub shortest : old.shortest ≤ new.shortest
  pub longest : new.longest ≤ old.longest

-- bytes, but for any byte at the hole
pub record IsBut (hole : ℕ) (bytes seen : List ℕ) : Type 0 where
  pub before : take hole seen ≡ take hole bytes
  pub after : drop (hole + 1) seen ≡ drop (hole + 1) bytes
  pub long : length seen ≡ length bytes

-- all but this one are as they were
abbrev pub KeepsOthers : {A : Type 0} → ℕ → (ℕ → A) → (ℕ → A) → Type 0
KeepsOthers one old new = (other : ℕ) → (other ≡ one → ⊥) → new other ≡ old other
