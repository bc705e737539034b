-- What becomes of slots whose value is lent.
use Rattle.std.specs.Prelude.{◌≡◌, ℕ, Option, Some, OnSome}
use Rattle.std.specs.Borrow.{LendsSo, MutBor, Fml, RattleType}
use Rattle.hay_disk.specs.Disk.{KeepsOthers}
use Rattle.hay_memdisk.specs.declared.slots.Slots.{Slots}
use Rattle.hay_memdisk.specs.contracts.slots.Slots.{the_row}
use Rattle.hay_memdisk.specs.Slots.{slot_at}

-- the slot holds this value, and the others are as they were
pub record HasValue {T : Type 0} (n : ℕ) (value : T) (old new : Slots T) : Type 0 where
  pub value_is : slot_at new n ≡ Some (Some value)
  pub others : KeepsOthers n (slot_at old) (slot_at new)

-- the slots end with the last value that was left in the slot, and with no value lent they stay
abbrev pub lends_value : (T : RattleType) → MutBor (Slots T.Denot) → ℕ → Option (MutBor T.Denot) → Fml
lends_value T s n r = LendsSo (the_row T) T s r (λ new w. OnSome r (HasValue n w s.now new)) (λ new. slot_at new ≡ slot_at s.now)
