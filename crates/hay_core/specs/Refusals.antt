-- What want of memory leaves of a volume where no event does.
use Rattle.std.specs.Prelude.{◌≡◌, ℕ, ◌+◌, ◌≤◌, List, length, map, drop, Bool, true, false, if◌then◌else◌, Option, Some, None}
use Rattle.std.specs.List.{AllByRecursion}
use Rattle.hay_core.specs.declared.machine.Side.{Side}
use Rattle.hay_core.specs.declared.machine.Work.{Work}
use Rattle.hay_core.specs.declared.machine.Work.TheVariants as work
use Rattle.hay_core.specs.declared.machine.Hold.{Hold}
use Rattle.hay_core.specs.declared.machine.Core.{Core}
use Rattle.hay_core.specs.Calls.{copy_next}
use Rattle.hay_core.specs.Sides.{has_part, no_copy}
use Rattle.hay_core.specs.Transitions.{failed_hold, ended_copy, may_read, at_side}
use Rattle.hay_core.specs.Goodness.{CoreGood}

-- A FREEZE, at any moment: the holder, if there is one, has failed, and no compaction stands.
abbrev pub failed_of : Option Hold → Option Hold
failed_of None = None
failed_of (Some h) = failed_hold h

abbrev pub frozen : Core → Core
frozen c = record c { sides = map no_copy c.sides; hold = failed_of c.hold; frozen = true }

-- A COPY DROPPED: the compaction of this side is over.
abbrev pub dropped : ℕ → Core → Core
dropped j c = record c { sides = at_side j no_copy c.sides }

-- A STEP CUT SHORT: so many needles are examined, and the holding is over.
abbrev pub cut_side : ℕ → Side → Side
cut_side examined s = record s { copy = if has_part s then Some examined else s.copy; progress = None }

abbrev pub cut : ℕ → Core → Core
cut examined c = record c { sides = map (cut_side examined) c.sides; hold = None }

-- none of the needles that are passed is live
pub record CutsAt (examined : ℕ) (s : Side) : Type 0 where
  pub before : ℕ
  pub passed : ℕ
  pub copy : s.copy ≡ Some before
  pub sum : examined ≡ before + passed
  pub within : examined ≤ length s.current
  pub none_live : copy_next passed (drop before s.current) ≡ None

-- A COMPACTION GIVEN UP: the holding is over, and the compaction with it.
abbrev pub given_up_side : Side → Side
given_up_side s = record s { copy = (ended_copy s).copy; progress = None }

abbrev pub given_up : Core → Core
given_up c = record c { sides = map given_up_side c.sides; hold = None }

-- a start at any moment, a step, and a finish that has made no call for its head row
abbrev pub may_give_up : Work → List Side → Bool
may_give_up (work.Put pair photo) sides = false
may_give_up (work.Del pair) sides = false
may_give_up (work.Flush side) sides = false
may_give_up (work.Start side) sides = true
may_give_up (work.Step side cells) sides = true
may_give_up (work.Finish side) sides = may_read (work.Finish side) sides

-- Each of them leaves a good volume good.
pub record RefusalsKeepGood (c : Core) : Type 0 where
  pub freeze : CoreGood (frozen c)
  pub drop_copy : c.hold ≡ None → (j : ℕ) → CoreGood (dropped j c)
  pub cut_step :
      (h : Hold) (side cells examined : ℕ) → c.hold ≡ Some h → h.work ≡ work.Step side cells → h.failed ≡ false
      → AllByRecursion (λ s. has_part s ≡ true → CutsAt examined s) c.sides → CoreGood (cut examined c)
  pub give_up : (h : Hold) → c.hold ≡ Some h → h.failed ≡ false → may_give_up h.work c.sides ≡ true → CoreGood (given_up c)
