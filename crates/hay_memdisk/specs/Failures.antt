-- Calls that are to fail.
use Rattle.std.specs.Prelude.{ℕ, Bool, List, nat_le}
use Rattle.std.specs.List.{list_all}
use Rattle.hay_memdisk.specs.declared.failures.Failures.{Failures}

-- no call still to come is to fail
abbrev pub is_over : Failures → Bool
is_over failures = list_all (λ n. nat_le n failures.calls) failures.listed.items

-- how many calls have failed
abbrev pub fault_count : Failures → ℕ
fault_count failures = failures.faults

-- the calls that are to fail, by their numbers from 1
abbrev pub listed_in : Failures → List ℕ
listed_in failures = failures.listed.items
