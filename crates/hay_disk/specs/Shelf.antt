-- What a shelf tells of the disks and arms that it holds.
use Rattle.std.specs.Prelude.{ℕ, Bool}
use Rattle.hay_disk.specs.Disk.{Files}

-- The disk of a slot as it was given back, and whether it is out. Of one that is out only this is told.
pub record HeldDisk : Type 0 where
  pub files : Files
  pub drawn : ℕ → ℕ
  pub fault_count : ℕ
  pub fuse_count : ℕ
  pub is_out : Bool

-- The arm of a lane as it was given back, and whether it is out. Of one that is out only this is told.
pub record HeldArm : Type 0 where
  pub fault_count : ℕ
  pub is_sure : Bool
  pub is_out : Bool
