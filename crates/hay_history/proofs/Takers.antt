-- The try that a line saw take a photo may have got the row of its pair, and so has a row that it left pending.
use Rattle.std.proofs.Common.{◌≡◌, ◌⊎◌, ℕ, suc, ◌<◌, ◌≤◌, ◌+◌, false, List, [], ◌∷◌, length, slice_get, Contains, Some, None, refl, sym, ap, subst, ◌∙◌, inl, inr, arith}
use Rattle.std.specs.Prelude.{◌==◌, not, take_while}
use Rattle.std.specs.List.{AllByRecursion as Each}
use Rattle.std.proofs.lemmas.Bool.{cases_Bool, true≢false}
use Rattle.hay_needle.specs.declared.needle.Pair.{Pair}
use Rattle.hay_needle.specs.declared.settings.Settings.{Settings}
use Rattle.hay_reply.specs.declared.Refused.{Refused}
use Rattle.hay_core.specs.declared.entry.CoreTag.{CoreTag}
use Rattle.hay_legal.specs.declared.known.DirKnown.{DirKnown}
use Rattle.hay_legal.specs.declared.known.HomeRow.{HomeRow}
use Rattle.hay_legal.specs.declared.known.Known.{Known}
use Rattle.hay_legal.specs.declared.turn.LaneItem.{LaneItem}
use Rattle.hay_legal.specs.Known.{all_tries, home_in, home_of}
use Rattle.hay_legal.specs.Blocks.{MayGetRow, MayRefuse, RowIsPending, tag_of}
use Rattle.hay_legal.proofs.Subject.Effects.{each_try}
use Rattle.hay_history.specs.LaneSteps.{FollowsRows, LeadsRows, RowDid, RowsStanding, RowStep}
use Rattle.hay_history.specs.LaneSteps.RowDid.{AddsRow, Drains, FusesRow, PendsRow, TriesRow}
use Rattle.hay_history.specs.Histories.{History, SeesHome, SeesRefusal, SeesTaker, first_rows, own_rows, rows_behind, rows_standing}
use Rattle.hay_history.specs.Commands.{CameInLanes, RowPends}
use Rattle.hay_history.proofs.Histories.{along_rows}
use Rattle.hay_history.proofs.Lists.{each_both, each_from, each_in, each_take}
use Rattle.hay_history.proofs.Trying.{one_own_row}
use Rattle.hay_history.proofs.Lines.{answered, course_of, own_leads_rows}
use Rattle.hay_history.proofs.Refusing.{refused_then}
use Rattle.hay_history.proofs.Volumes.{takes_then}
use Rattle.hay_history.proofs.Rows.{StaysFrozen, no_home_before, rows_frozen_then, rows_moment, stays_frozen_step, stays_frozen_trans}

-- each of the tries is a volume
tries_below : (settings : Settings) (pair : Pair) → Each (λ v. v < settings.volumes) (all_tries settings pair)
tries_below settings pair = each_from (λ v. v < settings.volumes) (all_tries settings pair) (each_try settings pair)

module _ {settings : Settings} {k : Known} {items : List LaneItem} {history : History} {t : Known} (h : CameInLanes settings k items history t) (item : LaneItem) where
  tries_refused : (size : ℕ) (vs : List ℕ) → Each (λ v. v < settings.volumes) vs
      → Each (λ v. (refused : Refused) × SeesRefusal (course_of h item) size v refused) vs
      → Each (λ v. (refused : Refused) × MayRefuse settings k items t size v refused) vs
  tries_refused size vs below each =
      each_both (λ v. v < settings.volumes) (λ v. (refused : Refused) × SeesRefusal (course_of h item) size v refused)
      (λ v. (refused : Refused) × MayRefuse settings k items t size v refused)
      (λ v within sees. (sees.0, refused_then h v within (sees.1).moment size sees.0 (sees.1).is))
      vs below each

  pub gets_row : (pair : Pair) (size v : ℕ) → home_of k pair ≡ None → SeesTaker (course_of h item) pair size v → MayGetRow settings k items t pair size v
  gets_row pair size v missing sees = record {
    missing = missing;
    tried = sees.tried;
    takes = takes_then h v sees.moment size (each_try settings pair v sees.tried) sees.takes;
    before = tries_refused size (take_while (λ u. not (u == v)) (all_tries settings pair))
        (each_take (λ v. v < settings.volumes) _ (all_tries settings pair) (tries_below settings pair)) sees.before;
  }

  -- a Directory that is open at a moment was not frozen before the block
  pub open_rows : (n : ℕ) → ((rows_moment k history n).directory).frozen ≡ false → k.directory.frozen ≡ false
  open_rows n thawed = elim (cases_Bool k.directory.frozen) [
    | inr before ↦ before
    | inl frozen ↦
        let kept = along_rows StaysFrozen (first_rows k) history.directory (λ a frozen. refl) stays_frozen_trans stays_frozen_step h.follows_rows 0 n (omega arith) frozen in
        absurd (true≢false (sym (ap (λ (d : DirKnown). d.frozen) kept ∙ frozen) ∙ thawed))
  ]

  -- a line that left a row pending saw that its pair has none
  pub row_missing : (pair : Pair) (size : ℕ) → Contains items item → (pends : RowPends (course_of h item) pair size)
      → SeesHome (course_of h item) pair (length ((rows_standing (course_of h item) (pends.step).place).directory).rows) None
  row_missing pair size among pends =
      let c = course_of h item in
      let step = pends.step in
      let at : ℕ × RowStep = (step.place, step.step) in
      let own : Contains (own_rows c) at = one_own_row c (PendsRow (record { pair = pair; volume = pends.v })) step in
      let leads = own_leads_rows h item among at own in
      let did = subst (λ (did : RowDid). LeadsRows (tag_of item) did (rows_standing c step.place) (rows_standing c (step.place + 1))) step.is leads.0 in
      let seen = each_in (λ (at : ℕ × RowStep). ((c.from).rows ≤ at.0) × (at.0 < (c.to).rows)) (own_rows c) at (answered h item among).rows own in
      let until : step.place < (c.to).rows = seen.1 in
      record { moment = step.place; seen = (seen.0, omega (arith, until)); front = refl; is = did.0.1 }

  -- A row that a line left pending is so still, and the Directory is frozen.
  pub row_left : (pair : Pair) (size : ℕ) → Contains items item → (pends : RowPends (course_of h item) pair size)
      → (k.directory.frozen ≡ false) × MayGetRow settings k items t pair size pends.v × RowIsPending t (tag_of item) pair pends.v
  row_left pair size among pends =
      let c = course_of h item in
      let step = pends.step in
      let at : ℕ × RowStep = (step.place, step.step) in
      let own : Contains (own_rows c) at = one_own_row c (PendsRow (record { pair = pair; volume = pends.v })) step in
      let leads = own_leads_rows h item among at own in
      let did = subst (λ (did : RowDid). LeadsRows (tag_of item) did (rows_standing c step.place) (rows_standing c (step.place + 1))) step.is leads.0 in
      let missing : home_of k pair ≡ None = no_home_before h item pair (length ((rows_standing c step.place).directory).rows) (row_missing pair size among pends) in
      let left = rows_frozen_then h (step.place + 1) (ap (λ (d : DirKnown). d.frozen) did.1) in (
        open_rows step.place did.0.0,
        gets_row pair size pends.v missing pends.taker,
        (
          ap (λ (d : DirKnown). home_in d.rows pair) (left ∙ did.1) ∙ did.0.1,
          ap (λ (d : DirKnown). d.frozen) (left ∙ did.1),
          ap (λ (d : DirKnown). d.pending) (left ∙ did.1),
        ),
      )

-- WHETHER A ROW WAS LEFT PENDING

-- a step left a row pending
pub record RowPended (steps : List RowStep) : Type 0 where
  pub place : ℕ
  pub step : RowStep
  pub there : slice_get steps place ≡ Some step
  pub row : HomeRow
  pub is : step.did ≡ PendsRow row

-- the freeze and what is pending are as they were, or a step left a row pending
abbrev pub RowsKept : DirKnown → DirKnown → Type 0
RowsKept a b = (b.frozen ≡ a.frozen) × (b.pending ≡ a.pending)

pub pending_step : (before : RowsStanding) (steps : List RowStep) → FollowsRows before steps
    → RowsKept before.directory (rows_behind before steps (length steps)).directory ⊎ RowPended steps
pending_step before [] f = inl (refl, refl)
pending_step before (step ∷ steps) f =
    elim (by step.tag step.did before step.after f.0) [
      | inl same ↦ elim (pending_step step.after steps f.3) [
        | inl none ↦ inl (none.0 ∙ same.0, none.1 ∙ same.1)
        | inr later ↦ inr (record { place = suc later.place; step = later.step; there = later.there; row = later.row; is = later.is })
      ]
      | inr pends ↦ inr (record { place = 0; step = step; there = refl; row = pends.0; is = pends.1 })
    ]
  where
    by : (tag : CoreTag) (did : RowDid) (a b : RowsStanding) → LeadsRows tag did a b → RowsKept a.directory b.directory ⊎ ((row : HomeRow) × (did ≡ PendsRow row))
    by tag TriesRow a b h = inl (ap (λ (d : DirKnown). d.frozen) h, ap (λ (d : DirKnown). d.pending) h)
    by tag (AddsRow row) a b h = inl (ap (λ (d : DirKnown). d.frozen) h.1, ap (λ (d : DirKnown). d.pending) h.1)
    by tag (PendsRow row) a b h = inr (row, refl)
    by tag (Drains m is) a b h = inl (ap (λ (d : DirKnown). d.frozen) h, ap (λ (d : DirKnown). d.pending) h)
    by tag FusesRow a b h = inl (ap (λ (d : DirKnown). d.frozen) h, ap (λ (d : DirKnown). d.pending) h)
