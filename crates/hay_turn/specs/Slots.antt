-- What a slot holds.
use Rattle.std.specs.Prelude.{List, [], ◌∷◌, Option, Some, None}
use mathlib.Core.Option.{none, some}
use mathlib.Core.Option as maybe
use Rattle.hay_turn.specs.declared.rule.Slot.{Slot}
use Rattle.hay_turn.specs.declared.rule.Slot.TheVariants.{Empty, Value, Told}

module _ {T E : Type 0} where
  -- the act that a step was told
  abbrev pub slot_act : Slot T E → List E
  slot_act Empty = []
  slot_act (Value x) = []
  slot_act (Told act) = act ∷ []

  abbrev pub step_acts : maybe.Option (Slot T E) → List E
  step_acts none = []
  step_acts (some s) = slot_act s

-- the act, or none
abbrev pub acts_in : {E : Type 0} → Option E → List E
acts_in None = []
acts_in (Some act) = act ∷ []
