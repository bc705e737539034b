-- What slots hold.
use Rattle.std.specs.Prelude.{ℕ, Bool, true, false, Option, Some, None}
use Rattle.std.specs.BTreeMap as tree
use Rattle.std.specs.Ordering.{nat_cmp}
use Rattle.hay_memdisk.specs.declared.slots.Slots.{Slots}

-- nothing yet, a value, or the room of one that is out
abbrev pub slot_at : {T : Type 0} → Slots T → ℕ → Option (Option T)
slot_at slots n = tree.get nat_cmp slots.slots n

-- the value there, if there is one
abbrev pub value_in : {T : Type 0} → Option (Option T) → Option T
value_in None = None
value_in (Some held) = held

abbrev pub slot_value : {T : Type 0} → Slots T → ℕ → Option T
slot_value slots n = value_in (slot_at slots n)

-- the value is out
abbrev pub is_out : {T : Type 0} → Option (Option T) → Bool
is_out (Some None) = true
is_out _ = false
