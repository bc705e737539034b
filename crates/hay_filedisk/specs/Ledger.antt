-- What was handed out, by number.
use Rattle.std.specs.Prelude.{ℕ, false, Option, Some, None}
use Rattle.std.specs.BTreeMap as tree
use Rattle.std.specs.Ordering.{nat_cmp}
use Rattle.hay_filedisk.specs.declared.ledger.Held.{Held}
use Rattle.hay_filedisk.specs.declared.ledger.Ledger.{Ledger}

-- of what never was out no faults and no fuses are counted
abbrev pub never_out : Held
never_out = record { faults = record { count = 0 }; fuses = 0; is_out = false }

abbrev pub held_or_never : Option Held → Held
held_or_never None = never_out
held_or_never (Some held) = held

-- what is kept of a number
abbrev pub held_at : Ledger → ℕ → Held
held_at ledger n = held_or_never (tree.get nat_cmp ledger.held n)
