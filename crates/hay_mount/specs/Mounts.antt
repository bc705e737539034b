-- What disks and arms are when they are taken from a shelf, and what the shelf has when they are given back.
use Rattle.std.specs.Prelude.{◌≡◌, ◌⊎◌, ◌≤◌, ◌<◌, ℕ, ◌+◌, Bool, true, false, List, [], ◌∷◌}
use Rattle.hay_disk.specs.Disk.{Files, IsFree, IsSolid, MayLeave}
use Rattle.hay_disk.specs.Shelf.{HeldArm, HeldDisk}

-- P holds of each item at its number, counted from this one
abbrev pub InOrder : {X : Type 0} → (ℕ → X → Type 0) → ℕ → List X → Type 0
InOrder P number [] = Unit {0}
InOrder P number (x ∷ xs) = P number x × InOrder P (number + 1) xs

-- nothing changed from this number on
abbrev pub SameFrom : {X : Type 0} → ℕ → (ℕ → X) → (ℕ → X) → Type 0
SameFrom first old new = (number : ℕ) → first ≤ number → new number ≡ old number

abbrev pub AreOut : ℕ → (ℕ → HeldDisk) → Type 0
AreOut n disks = (slot : ℕ) → slot < n → (disks slot).is_out ≡ true

abbrev pub AreIn : ℕ → (ℕ → HeldDisk) → Type 0
AreIn n disks = (slot : ℕ) → slot < n → (disks slot).is_out ≡ false

abbrev pub AreArmsOut : ℕ → (ℕ → HeldArm) → Type 0
AreArmsOut n arms = (lane : ℕ) → lane < n → (arms lane).is_out ≡ true

abbrev pub AreArmsIn : ℕ → (ℕ → HeldArm) → Type 0
AreArmsIn n arms = (lane : ℕ) → lane < n → (arms lane).is_out ≡ false

-- A disk that was taken from its slot: what reads give is all that there is of it.
pub record IsMountedDisk {D : Type 0} (Tells : Type 0) (files : D → Files) (drawn : D → ℕ → ℕ) (faults fuses : D → ℕ) (held : HeldDisk) (disk : D) : Type 0 where
  pub drawn_is : Tells → (n : ℕ) → drawn disk n ≡ held.drawn n
  pub now : Tells → (n : ℕ) → (files disk n).now ≡ (held.files n).now
  pub solid : Tells → (n : ℕ) → IsSolid (files disk n)
  pub free : Tells → (n : ℕ) → IsFree (files disk n)
  pub fault_count : faults disk ≡ held.fault_count
  pub fuse_count : fuses disk ≡ held.fuse_count

pub record IsMountedArm {A : Type 0} (faults : A → ℕ) (sure : A → Bool) (held : HeldArm) (arm : A) : Type 0 where
  pub fault_count : faults arm ≡ held.fault_count
  pub is_sure : sure arm ≡ held.is_sure

-- A disk that was given back to its slot.
pub record IsGivenDisk {D : Type 0} (Tells : Type 0) (files : D → Files) (drawn : D → ℕ → ℕ) (faults fuses : D → ℕ) (held : HeldDisk) (disk : D) : Type 0 where
  pub drawn_is : Tells → (n : ℕ) → held.drawn n ≡ drawn disk n
  pub files_are : Tells → held.files ≡ files disk
  pub fault_count : held.fault_count ≡ faults disk
  pub fuse_count : held.fuse_count ≡ fuses disk
  pub back : held.is_out ≡ false

pub record IsGivenArm {A : Type 0} (faults : A → ℕ) (sure : A → Bool) (held : HeldArm) (arm : A) : Type 0 where
  pub fault_count : held.fault_count ≡ faults arm
  pub is_sure : held.is_sure ≡ sure arm
  pub back : held.is_out ≡ false

-- a stop leaves of these files what reads gave of those
abbrev pub LeavesAsRead : Files → Files → Type 0
LeavesAsRead old new = (image : ℕ → List ℕ) → MayLeave new image → (n : ℕ) → image n ≡ (old n).now

-- A disk was not taken, or was taken and given back as it was.
pub record IsPutBack (Tells : Type 0) (old new : HeldDisk) : Type 0 where
  pub kept : Tells → (new.files ≡ old.files) ⊎ LeavesAsRead old.files new.files
  pub now : Tells → (n : ℕ) → (new.files n).now ≡ (old.files n).now
  pub drawn_is : Tells → (n : ℕ) → new.drawn n ≡ old.drawn n
  pub fault_count : new.fault_count ≡ old.fault_count
  pub fuse_count : new.fuse_count ≡ old.fuse_count
  pub back : new.is_out ≡ false

pub record IsArmBack (old new : HeldArm) : Type 0 where
  pub fault_count : new.fault_count ≡ old.fault_count
  pub is_sure : new.is_sure ≡ old.is_sure
  pub back : new.is_out ≡ false
