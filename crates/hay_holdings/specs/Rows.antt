-- What one call at the Directory found and did, by its answer, between two sights. A call looks at the view, or holds the lock once.
use Rattle.std.specs.Prelude.{◌≡◌, ◌⊎◌, ℕ, ◌+◌, Bool, true, List, [], ◌∷◌, ◌++◌, length, Option, Some, None}
use Rattle.hay_needle.specs.declared.needle.Pair.{Pair}
use Rattle.hay_disk.specs.Counts.{Rose}
use Rattle.hay_core.specs.declared.entry.CoreTag.{CoreTag}
use Rattle.hay_legal.specs.declared.known.HomeRow.{HomeRow}
use Rattle.hay_legal.specs.Known.{home_in}
use Rattle.hay_history.specs.LaneSteps.{RowDid}
use Rattle.hay_history.specs.LaneSteps.RowDid.{AddsRow, Drains, FusesRow, PendsRow, TriesRow}
use Rattle.hay_meeting.specs.declared.act.DirAct.{DirAct}
use Rattle.hay_meeting.specs.Acts.{Start, row_did_of, row_lock}
use Rattle.hay_meeting.specs.Facts.{rows_shown}
use Rattle.hay_meeting.specs.Locks.{LockSight}
use Rattle.hay_meeting.specs.Sights.{rows_stood}
use Rattle.hay_holdings.specs.Holdings.{Called, Looked}

-- what a call at the Directory is, from what its lane knew of it to what it knows then
abbrev pub DirectoryCall : Type 1
DirectoryCall = LockSight DirAct HomeRow → LockSight DirAct HomeRow → Type 0

-- it made one act, which did this
abbrev pub MadeRow : RowDid → Option DirAct → Type 0
MadeRow did None = ⊥
MadeRow did (Some act) = row_did_of act.did ≡ did

-- it made none, or one that changed nothing
abbrev pub MadeNoRow : Option DirAct → Type 0
MadeNoRow None = Unit {0}
MadeNoRow (Some act) = row_did_of act.did ≡ TriesRow

module _ (start : Start) where
  abbrev pub rows_found : List DirAct → List HomeRow
  rows_found held = ((rows_stood start held).directory).rows

  -- in the act a call of the disk failed, and its count rose to f
  abbrev pub FailedRow : ℕ → List DirAct → Option DirAct → Type 0
  FailedRow f held None = ⊥
  FailedRow f held (Some act) =
      Rose (rows_stood start held).faults (rows_stood start (held ++ act ∷ [])).faults × (f ≡ (rows_stood start (held ++ act ∷ [])).faults)

  -- A look at the view: how many rows it shows, and the home of the pair among them.
  pub record HomeShown (pair : Pair) (d : ℕ) (home : Option ℕ) (a b : LockSight DirAct HomeRow) : Type 0 where
    pub looked : Looked a b
    pub front : d ≡ length (rows_shown start b.shown)
    pub is : home_in (rows_shown start b.shown) pair ≡ home

  module _ (tag : CoreTag) where
    abbrev pub RowCall : (List DirAct → Option DirAct → Type 0) → DirectoryCall
    RowCall IsSo a b = Called row_lock tag IsSo a b

    -- the pair had a home by then, at so many rows
    abbrev pub MetHome : Pair → ℕ → ℕ → DirectoryCall
    MetHome pair v d = RowCall (λ held made. (made ≡ None) × (home_in (rows_found held) pair ≡ Some v) × (d ≡ length (rows_found held)))

    -- it added the row of its pair, which had none; there are so many rows then
    abbrev pub RowAdded : Pair → ℕ → ℕ → DirectoryCall
    RowAdded pair v d = RowCall (λ held made.
        MadeRow (AddsRow (record { pair = pair; volume = v })) made × (home_in (rows_found held) pair ≡ None) × (d ≡ length (rows_found held) + 1))

    abbrev pub MetFrozenDir : DirectoryCall
    MetFrozenDir = RowCall (λ held made. (made ≡ None) × (((rows_stood start held).directory).frozen ≡ true))

    abbrev pub RowFailed : Pair → ℕ → ℕ → DirectoryCall
    RowFailed pair v f = RowCall (λ held made. MadeRow (PendsRow (record { pair = pair; volume = v })) made × FailedRow f held made)

    -- for want of memory nothing was changed, or the Directory is frozen with the row pending
    abbrev pub RowWanted : Pair → ℕ → DirectoryCall
    RowWanted pair v = RowCall (λ held made. MadeNoRow made ⊎ MadeRow (PendsRow (record { pair = pair; volume = v })) made)

    abbrev pub Drained : ℕ → Bool → DirectoryCall
    Drained m is = RowCall (λ held made. MadeRow (Drains m is) made)

    abbrev pub FusedDir : DirectoryCall
    FusedDir = RowCall (λ held made. MadeRow FusesRow made)

    -- a call that changed nothing, as for want of memory
    abbrev pub ChangedNoRow : DirectoryCall
    ChangedNoRow = RowCall (λ held made. MadeNoRow made)
