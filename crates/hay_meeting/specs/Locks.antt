-- One lock, a volume's or the Directory's: what its acts leave, what of them a published view shows, and what a lane knows of it.
use Rattle.std.specs.Prelude.{◌≡◌, ℕ, zero, suc, ◌≤◌, ◌==◌, max, min, Bool, take, drop, List, [], ◌∷◌, ◌++◌, length, map, filter, Option, Some, None}
use Rattle.std.specs.List.{AllByRecursion as Each}
use mathlib.Core.List.{IsPrefix}
use Rattle.hay_core.specs.declared.entry.CoreTag.{CoreTag}

-- which seat made an act, for which line, what a view shows of it, what it leaves of what stands, and the step that it is
pub record Lock (S E X T : Type 0) : Type 0 where
  pub seat : E → ℕ
  pub tag : E → CoreTag
  pub shows : E → Option X
  pub next : E → S → S
  pub step : S → E → T

-- of one lock: the acts that a lane's seat has seen, its own ones, and what its seat of the published view has been shown
pub record LockSight (E X : Type 0) : Type 0 where
  pub seen : List E
  pub own : List E
  pub shown : List X

-- both only grow
pub record IsLaterAt {E X : Type 0} (a b : LockSight E X) : Type 0 where
  pub seen : IsPrefix a.seen b.seen
  pub shown : IsPrefix a.shown b.shown

-- an act, and the acts that its holding found
pub record Doing (E : Type 0) : Type 0 where
  pub held : List E
  pub act : E

abbrev pub past : {E : Type 0} → Doing E → List E
past doing = doing.held ++ doing.act ∷ []

abbrev pub add_shown : {X : Type 0} → Option X → List X → List X
add_shown None rest = rest
add_shown (Some x) rest = x ∷ rest

-- how many acts the first p shown need, and how many have no more than these, from how many the rest has
abbrev pub place_by : {X : Type 0} → (ℕ → ℕ) → Option X → ℕ → ℕ
place_by rest shows zero = 0
place_by rest (Some x) (suc p) = suc (rest p)
place_by rest None (suc p) = suc (rest (suc p))

abbrev pub latest_by : {X : Type 0} → (ℕ → ℕ) → Option X → ℕ → ℕ
latest_by rest (Some x) zero = 0
latest_by rest (Some x) (suc p) = suc (rest p)
latest_by rest None p = suc (rest p)

module _ {S E X T : Type 0} (lock : Lock S E X T) where
  -- what acts leave, and the steps that they are
  abbrev pub left : S → List E → S
  left before [] = before
  left before (act ∷ acts) = left (lock.next act before) acts

  abbrev pub replayed : S → List E → List T
  replayed before [] = []
  replayed before (act ∷ acts) = lock.step before act ∷ replayed (lock.next act before) acts

  -- what a view shows of acts
  abbrev pub entries : List E → List X
  entries [] = []
  entries (act ∷ acts) = add_shown (lock.shows act) (entries acts)

  abbrev pub place_of : List E → ℕ → ℕ
  place_of [] p = 0
  place_of (act ∷ acts) p = place_by (place_of acts) (lock.shows act) p

  abbrev pub latest_of : List E → ℕ → ℕ
  latest_of [] p = 0
  latest_of (act ∷ acts) p = latest_by (latest_of acts) (lock.shows act) p

  -- How many of the acts h a lane has seen: a moment at which there stood just what its view has shown, and no earlier one than what
  -- its seat has seen, as far as there is such a one.
  abbrev pub moment_of : List E → LockSight E X → ℕ
  moment_of h s = min (latest_of h (length s.shown)) (max (length s.seen) (place_of h (length s.shown)))

  abbrev pub is_of_line : ℕ → E → Bool
  is_of_line line act = (lock.tag act).line == line

  abbrev pub of_line : ℕ → List E → List E
  of_line line acts = filter (is_of_line line) acts

  -- WHAT A LINE SAW AND DID between two sights

  -- a holding found these acts
  pub record Held (a b : LockSight E X) (held : List E) : Type 0 where
    pub from : IsPrefix a.seen held
    pub shown_from : IsPrefix a.shown (entries held)
    pub to : IsPrefix held b.seen
    pub shown_to : IsPrefix (entries held) b.shown

  -- it acted so: what its holding found lies behind a, and the act before b
  pub record IsDoing (a b : LockSight E X) (doing : Doing E) : Type 0 where
    pub from : IsPrefix a.seen doing.held
    pub shown_from : IsPrefix a.shown (entries doing.held)
    pub to : IsPrefix (past doing) b.seen
    pub shown_to : IsPrefix (entries (past doing)) b.shown

  -- each doing lies behind these acts, and behind the doing before it
  abbrev pub Rises : List E → List (Doing E) → Type 0
  Rises before [] = Unit {0}
  Rises before (doing ∷ doings) = IsPrefix before doing.held × Rises (past doing) doings

  -- These are its doings, each for its line.
  pub record Worked (tag : CoreTag) (a b : LockSight E X) (doings : List (Doing E)) : Type 0 where
    pub later : IsLaterAt a b
    pub own : b.own ≡ a.own ++ map (λ doing. doing.act) doings
    pub rises : Rises a.seen doings
    pub each : Each (IsDoing a b) doings
    pub tags : Each (λ doing. lock.tag doing.act ≡ tag) doings
    pub seats : Each (λ doing. lock.seat doing.act ≡ tag.lane) doings

  -- h may be all that happens: it begins with what the lane has seen, and the acts of the line behind the cut are those that it made
  pub record BearsAt (cut : ℕ) (h : List E) (line : ℕ) (a b : LockSight E X) : Type 0 where
    pub low : cut ≤ length a.seen
    pub low_shown : IsPrefix (entries (take cut h)) a.shown
    pub seen : IsPrefix b.seen h
    pub shown : IsPrefix b.shown (entries h)
    pub mine : of_line line (drop cut h) ≡ drop (length a.own) b.own
