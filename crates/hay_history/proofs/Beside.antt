-- What stands beside the volumes and the rows: the fuses and the drained machines, which no line of a block changes.
use Rattle.std.proofs.Common.{◌≡◌, ◌≢◌, ◌⊎◌, inl, inr, ℕ, zero, suc, ◌+◌, ◌-◌, ◌*◌, ◌<◌, ◌≤◌, Bool, List, [], ◌∷◌, length, slice_get, Some, refl, sym, ap, subst, ◌∙◌, arith}
use Rattle.std.specs.Prelude.{slice_index}
use Rattle.std.proofs.lemmas.List.{ext_get_or}
use Rattle.std.proofs.Math.Nat.{suc-mul}
use Rattle.std.proofs.lemmas.Bool.{true≢false}
use Rattle.std.proofs.lemmas.Option.{none-some}
use Rattle.hay_needle.specs.declared.settings.Settings.{Settings}
use Rattle.hay_legal.specs.declared.known.Known.{Known}
use Rattle.hay_reply.specs.declared.Reply.{Reply}
use Rattle.hay_legal.specs.declared.turn.Item.{Item}
use Rattle.hay_legal.specs.declared.turn.LaneItem.{LaneItem}
use Rattle.hay_legal.specs.Known.{disk_count, slot_of}
use Rattle.hay_history.specs.LaneSteps.{Did, Follows, FollowsRows, LeadsDrains, LeadsFuses, LeadsRowFuses, RowDid, RowsStanding, RowStep, Standing, Step}
use Rattle.hay_history.specs.LaneSteps.Did.{Begins, Ends, Entered, Examines, Flushes, Freezes, Fuses, Pends, Poises, Sticks, Swaps, Tries}
use Rattle.hay_history.specs.LaneSteps.RowDid.{AddsRow, Drains, FusesRow, PendsRow, TriesRow}
use Rattle.hay_history.specs.Histories.{Course, History, behind, first_of, first_rows, rows_behind}
use Rattle.hay_history.specs.Commands.{CameBy, CameInLanes}
use Rattle.hay_history.proofs.Lines.{answered, course_of, owner}
use Rattle.hay_history.proofs.Own.{MayDo, item_may}
use Rattle.hay_history.proofs.Rows.{each_puts_row, puts_row}

-- SLOTS

slot_parts : (replicas volumes s : ℕ) → s < volumes * replicas → (v : ℕ) × (j : ℕ) × (v < volumes) × (j < replicas) × (s ≡ v * replicas + j)
slot_parts replicas zero s below = absurd (omega (arith, below))
slot_parts replicas (suc volumes) s below =
    let more : suc volumes * replicas ≡ volumes * replicas + replicas = suc-mul volumes replicas in
    elim (compare_below s (volumes * replicas)) [
      | inl low ↦ let rest = slot_parts replicas volumes s low in (rest.0, rest.1, omega (arith, rest.2), rest.3, rest.4)
      | inr high ↦ (volumes, s - volumes * replicas, omega arith, omega (arith, more, below, high), omega (arith, high))
    ]
  where
    compare_below : (a b : ℕ) → (a < b) ⊎ (b ≤ a)
    compare_below a zero = inr (omega arith)
    compare_below zero (suc b) = inl (omega arith)
    compare_below (suc a) (suc b) = elim (compare_below a b) [ inl low ↦ inl (omega (arith, low)) | inr high ↦ inr (omega (arith, high)) ]

-- counts of every disk that are the same by slot
pub slots_same : (settings : Settings) (xs ys : List ℕ) → length xs ≡ disk_count settings → length ys ≡ length xs → slice_index ys 0 ≡ slice_index xs 0
    → ((v j : ℕ) → v < settings.volumes → j < settings.replicas → slice_index ys (slot_of settings v j) ≡ slice_index xs (slot_of settings v j)) → ys ≡ xs
slots_same settings xs ys long same first each = ext_get_or 0 ys xs same at
  where
    at : (i : ℕ) → i < length ys → slice_index ys i ≡ slice_index xs i
    at zero below = first
    at (suc s) below =
        let parts = slot_parts settings.replicas settings.volumes s (omega (arith, below, same, long)) in
        let slot : slot_of settings parts.0 parts.1 ≡ suc s = omega (arith, parts.4) in
        subst (λ (i : ℕ). slice_index ys i ≡ slice_index xs i) slot (each parts.0 parts.1 parts.2 parts.3)

-- FUSES

unfused : (did : Did) (a b : ℕ → ℕ) → ((j : ℕ) → did ≢ Fuses j) → LeadsFuses did a b → (j : ℕ) → b j ≡ a j
unfused Tries a b not h = h
unfused (Entered change) a b not h = h
unfused (Pends m change failed) a b not h = h
unfused (Freezes m) a b not h = h
unfused (Flushes j) a b not h = h
unfused (Sticks j) a b not h = h
unfused (Begins j) a b not h = h
unfused (Examines j n) a b not h = h
unfused (Ends j) a b not h = h
unfused (Swaps j end cells freezes) a b not h = h
unfused (Poises m j) a b not h = h
unfused (Fuses j) a b not h = absurd (not j refl)

-- where no step sets a fuse their number stands
pub fuses_stay : (settings : Settings) (v : ℕ) (before : Standing) (steps : List Step) → Follows settings v before steps
    → ((i : ℕ) (s : Step) → slice_get steps i ≡ Some s → (j : ℕ) → s.did ≢ Fuses j) → (j : ℕ)
    → (behind before steps (length steps)).fuses j ≡ before.fuses j
fuses_stay settings v before [] f none j = refl
fuses_stay settings v before (x ∷ xs) f none j =
    fuses_stay settings v x.after xs f.3 (λ i s at. none (suc i) s at) j ∙ unfused x.did before.fuses (x.after).fuses (none 0 x refl) f.2 j

row_unfused : (did : RowDid) (a b : ℕ) → did ≢ FusesRow → LeadsRowFuses did a b → b ≡ a
row_unfused TriesRow a b not h = h
row_unfused (AddsRow row) a b not h = h
row_unfused (PendsRow row) a b not h = h
row_unfused (Drains m is) a b not h = h
row_unfused FusesRow a b not h = absurd (not refl)

undrained : (did : RowDid) (a b : List Bool) → ((m : ℕ) (is : Bool) → did ≢ Drains m is) → LeadsDrains did a b → b ≡ a
undrained TriesRow a b not h = h
undrained (AddsRow row) a b not h = h
undrained (PendsRow row) a b not h = h
undrained (Drains m is) a b not h = absurd (not m is refl)
undrained FusesRow a b not h = h

pub row_fuses_stay : (before : RowsStanding) (steps : List RowStep) → FollowsRows before steps
    → ((i : ℕ) (s : RowStep) → slice_get steps i ≡ Some s → s.did ≢ FusesRow)
    → (rows_behind before steps (length steps)).fuses ≡ before.fuses
row_fuses_stay before [] f none = refl
row_fuses_stay before (x ∷ xs) f none =
    row_fuses_stay x.after xs f.3 (λ i s at. none (suc i) s at) ∙ row_unfused x.did before.fuses (x.after).fuses (none 0 x refl) (f.2).1

pub drains_stay : (before : RowsStanding) (steps : List RowStep) → FollowsRows before steps
    → ((i : ℕ) (s : RowStep) → slice_get steps i ≡ Some s → (m : ℕ) (is : Bool) → s.did ≢ Drains m is)
    → (rows_behind before steps (length steps)).drained ≡ before.drained
drains_stay before [] f none = refl
drains_stay before (x ∷ xs) f none =
    drains_stay x.after xs f.3 (λ i s at. none (suc i) s at) ∙ undrained x.did before.drained (x.after).drained (none 0 x refl) (f.2).0

-- what a step did to the number of fuses
pub fuses_at : (settings : Settings) (v : ℕ) (before : Standing) (steps : List Step) (i : ℕ) (s : Step) → Follows settings v before steps → slice_get steps i ≡ Some s
    → LeadsFuses s.did (behind before steps i).fuses (s.after).fuses
fuses_at settings v before [] i s f at = absurd (none-some s at)
fuses_at settings v before (x ∷ xs) zero s f at =
    let same : x ≡ s = cc in subst (λ (step : Step). LeadsFuses step.did before.fuses (step.after).fuses) same f.2
fuses_at settings v before (x ∷ xs) (suc i) s f at = fuses_at settings v x.after xs i s f.3 at

-- what a step of the Directory did beside the rows
pub row_beside_at : (before : RowsStanding) (steps : List RowStep) (i : ℕ) (s : RowStep) → FollowsRows before steps → slice_get steps i ≡ Some s
    → LeadsDrains s.did (rows_behind before steps i).drained (s.after).drained × LeadsRowFuses s.did (rows_behind before steps i).fuses (s.after).fuses
row_beside_at before [] i s f at = absurd (none-some s at)
row_beside_at before (x ∷ xs) zero s f at =
    let same : x ≡ s = cc in
    subst (λ (step : RowStep). LeadsDrains step.did before.drained (step.after).drained × LeadsRowFuses step.did before.fuses (step.after).fuses) same f.2
row_beside_at before (x ∷ xs) (suc i) s f at = row_beside_at x.after xs i s f.3 at

-- WHERE NO STEP SETS A FUSE OR MARKS A MACHINE

module _ {settings : Settings} {k : Known} {items : List LaneItem} {history : History} {t : Known} {Does : Course → Item → Reply → Type 0}
    (h : CameBy Does settings k items history t) where
  pub fuses_same : ((v : ℕ) → v < settings.volumes → (i : ℕ) (s : Step) → slice_get (history.volumes v) i ≡ Some s → (j : ℕ) → s.did ≢ Fuses j)
      → ((i : ℕ) (s : RowStep) → slice_get history.directory i ≡ Some s → s.did ≢ FusesRow) → t.fuses ≡ k.fuses
  fuses_same none none_rows =
      slots_same settings k.fuses t.fuses (h.regular).slots h.slots
      ((h.directory).fuses ∙ row_fuses_stay (first_rows k) history.directory h.follows_rows none_rows)
      (λ v j below within. (h.volumes v below).fuses j within
      ∙ fuses_stay settings v (first_of settings k v) (history.volumes v) (h.follows v below) (none v below) j)

  pub drains_same : ((i : ℕ) (s : RowStep) → slice_get history.directory i ≡ Some s → (m : ℕ) (is : Bool) → s.did ≢ Drains m is) → t.drained ≡ k.drained
  drains_same none = (h.directory).drained ∙ drains_stay (first_rows k) history.directory h.follows_rows none

-- BLOCKS

module _ {settings : Settings} {k : Known} {items : List LaneItem} {history : History} {t : Known} (h : CameInLanes settings k items history t) where
  no_fuse : (v : ℕ) → v < settings.volumes → (i : ℕ) (s : Step) → slice_get (history.volumes v) i ≡ Some s → (j : ℕ) → s.did ≢ Fuses j
  no_fuse v below i s at j is =
      let line = owner h v i s below at in
      let may = item_may (course_of h line.0) (line.0).item (line.0).reply (answered h line.0 line.1).did v (i, s) line.3 in
      subst (λ (d : Did). MayDo settings (line.0).item (line.0).reply v d) is may

  pub block_fuses : t.fuses ≡ k.fuses
  block_fuses = fuses_same h no_fuse (λ i s at is. true≢false (sym (each_puts_row h i s at) ∙ ap puts_row is))

  pub block_drains : t.drained ≡ k.drained
  block_drains = drains_same h (λ i s at m is did. true≢false (sym (each_puts_row h i s at) ∙ ap puts_row did))
