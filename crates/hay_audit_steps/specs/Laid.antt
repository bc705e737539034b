-- The states that replicas which were passed over may leave: each is laid to its disk or to the lane's arm.
use Rattle.std.specs.Prelude.{ℕ, ◌+◌, ◌-◌, ◌^◌, ◌==◌, max, nat_lt, List, [], ◌∷◌, ◌++◌, length, slice_set, if◌then◌else◌}
use Rattle.hay_legal.specs.declared.known.Known.{Known}
use Rattle.hay_legal.specs.Known.{fault_count, arm_count}

-- the lowest count that a rise may leave
abbrev pub next_count : ℕ → ℕ
next_count n = if n == 2 ^ 64 - 1 then n else n + 1

-- c with a count of this disk that rose since b
abbrev pub raise_disk : Known → ℕ → Known → Known
raise_disk b slot c = record c { faults = slice_set c.faults slot (max (fault_count c slot) (next_count (fault_count b slot))) }

abbrev pub raise_arm : ℕ → Known → Known
raise_arm lane c = record c { arms = slice_set c.arms lane (next_count (arm_count c lane)) }

abbrev pub on_disk : Known → ℕ → Known → List Known
on_disk b slot c = if nat_lt slot (length c.faults) then raise_disk b slot c ∷ [] else []

abbrev pub on_arm : ℕ → Known → List Known
on_arm lane c = if nat_lt lane (length c.arms) then raise_arm lane c ∷ [] else []

-- from each state, the ones where one more disk is passed over
abbrev pub laid_once : Known → ℕ → ℕ → List Known → List Known
laid_once b lane slot [] = []
laid_once b lane slot (c ∷ cs) = (on_disk b slot c ++ on_arm lane c) ++ laid_once b lane slot cs

abbrev pub laid : Known → ℕ → List ℕ → List Known
laid b lane [] = b ∷ []
laid b lane (slot ∷ slots) = laid_once b lane slot (laid b lane slots)
