-- Which rows an opening finds on the Directory's disk behind a row that was settled, or was not.
use Rattle.std.proofs.Common.{◌≡◌, ◌⊎◌, inl, inr, ◌≤◌, ◌^◌, ℕ, Bool, true, false, List, [], ◌∷◌, ◌++◌, Option, Some, None, refl, sym, ap, subst, ◌∙◌}
use Rattle.std.proofs.lemmas.List.{append-nil}
use Rattle.std.specs.Prelude.{Result, Ok, Err, IsErrOf, OnOk}
use Rattle.hay_needle.specs.declared.settings.Settings.{Settings}
use Rattle.hay_core.specs.declared.entry.CoreTag.{CoreTag}
use Rattle.hay_disk.specs.Disk.{Files, IsImage}
use Rattle.hay_legal.specs.declared.known.DirKnown.{DirKnown}
use Rattle.hay_legal.specs.declared.known.HomeRow.{HomeRow}
use Rattle.hay_legal.specs.declared.known.PendingRow.{PendingRow}
use Rattle.hay_legal.specs.Restarts.{kept_row}
use Rattle.hay_directory.specs.declared.fault.DirFault.{DirFault}
use Rattle.hay_directory.specs.declared.fault.DirFault.TheVariants as settling
use Rattle.hay_directory.specs.declared.mode.Mode.{Mode}
use Rattle.hay_directory.specs.Rows.{OpensRows}
use Rattle.hay_directory.specs.State.{IsFrozen, State, Stands, is_frozen, mode_of}
use Rattle.hay_directory.proofs.RowLaws.{journal_left, opens_journal, opens_once}

-- the rows stay, or this one stands behind them
abbrev pub AddsOne : {D : Type 0} → (D → Files) → Settings → HomeRow → State D → State D → Type 0
AddsOne files settings row old new =
    (rows : List HomeRow) → OpensRows settings (λ n. (files old.disk n).now) rows →
    OpensRows settings (λ n. (files new.disk n).now) rows ⊎ OpensRows settings (λ n. (files new.disk n).now) (rows ++ row ∷ [])

abbrev with_more : DirKnown → HomeRow → DirKnown
with_more known row = record known { rows = known.rows ++ row ∷ [] }

abbrev with_pending : DirKnown → CoreTag → HomeRow → DirKnown
with_pending known tag row = record known { frozen = true; pending = Some (record { tag = tag; row = row }) }

frozen_mode : (mode : Mode) (pending : Option PendingRow) → mode ≡ mode_of pending → (is_frozen mode ≡ true → ⊥) → pending ≡ None
frozen_mode mode None is thawed = refl
frozen_mode mode (Some pending) is thawed = absurd (thawed (ap is_frozen is))

none_kept : (pending : Option PendingRow) (kept : Bool) (rows : List HomeRow) → pending ≡ None → rows ++ kept_row pending kept ≡ rows
none_kept pending kept rows none = ap (λ p. rows ++ kept_row p kept) none ∙ append-nil rows

module _ {D : Type 0} (files : D → Files) (now : (disk : D) (n : ℕ) → IsImage (files disk n) (files disk n).now) where
  abbrev Finds : State D → List HomeRow → Type 0
  Finds d rows = OpensRows d.settings (λ n. (files d.disk n).now) rows

  -- an opening now finds the rows that are known, with the pending one or without it
  finds : (d : State D) (known : DirKnown) (drained : List Bool) → Stands files d known drained → (kept : Bool) × Finds d (known.rows ++ kept_row known.pending kept)
  unfolding Stands
  finds d known drained s =
      let left = journal_left d.settings (files d.disk 0) d.journal.end known.rows known.pending (files d.disk 0).now s.holds (now d.disk 0) in
      (left.0, opens_journal d.settings (λ n. (files d.disk n).now) (known.rows ++ kept_row known.pending left.0) left.1)

  not_pending : (d : State D) (known : DirKnown) (drained : List Bool) → Stands files d known drained → (IsFrozen d → ⊥) → known.pending ≡ None
  unfolding Stands
  not_pending d known drained s thawed = frozen_mode d.mode known.pending s.mode thawed

  -- where nothing is pending it finds just these
  finds_all : (d : State D) (known : DirKnown) (drained : List Bool) → Stands files d known drained → known.pending ≡ None → Finds d known.rows
  finds_all d known drained s none =
      let found = finds d known drained s in
      subst (λ rows. Finds d rows) (none_kept known.pending found.0 known.rows none) found.1

  module _ (old new : State D) (known : DirKnown) (drained : List Bool) (tag : CoreTag) (row : HomeRow) (few : old.settings.volumes ≤ 2 ^ 32)
      (settings : new.settings ≡ old.settings) (stands : Stands files old known drained) where
    abbrev Now : List HomeRow → Type 0
    Now rows = OpensRows old.settings (λ n. (files new.disk n).now) rows

    as_now : (rows : List HomeRow) → Finds new rows → Now rows
    as_now rows found = subst (λ (s : Settings). OpensRows s (λ n. (files new.disk n).now) rows) settings found

    -- what it found before is what was known
    were : known.pending ≡ None → (rows : List HomeRow) → Finds old rows → known.rows ≡ rows
    were none rows found = opens_once old.settings (λ n. (files old.disk n).now) known.rows rows few (finds_all old known drained stands none) found

    unsure_now : (kept : Bool) → Finds new (known.rows ++ kept_row (Some (record { tag = tag; row = row })) kept) → Now known.rows ⊎ Now (known.rows ++ row ∷ [])
    unsure_now true found = inr (as_now (known.rows ++ row ∷ []) found)
    unsure_now false found = inl (as_now known.rows (subst (λ rows. Finds new rows) (append-nil known.rows) found))

    by_known : known.pending ≡ None → Now known.rows ⊎ Now (known.rows ++ row ∷ []) → AddsOne files old.settings row old new
    by_known none found = λ rows opens. subst (λ rs. Now rs ⊎ Now (rs ++ row ∷ [])) (were none rows opens) found

    pub row_adds : {T : Type 0} (r : Result T DirFault) → (IsFrozen old → IsErrOf r settling.Frozen) → (IsErrOf r settling.Frozen → IsFrozen old × (new ≡ old))
        → OnOk r (Stands files new (with_more known row) drained) → (IsErrOf r settling.NoMemory → Stands files new known drained)
        → ((faults : ℕ) → r ≡ Err (settling.Failed faults) → Stands files new (with_pending known tag row) drained) → AddsOne files old.settings row old new
    row_adds (Ok x) frozen only done memory failed =
        let none = not_pending old known drained stands (λ f. let no = frozen f in cc) in
        by_known none (inr (as_now (known.rows ++ row ∷ []) (finds_all new (with_more known row) drained done none)))
    row_adds (Err settling.NoMemory) frozen only done memory failed =
        let none = not_pending old known drained stands (λ f. let no = frozen f in cc) in
        by_known none (inl (as_now known.rows (finds_all new known drained (memory refl) none)))
    row_adds (Err (settling.Failed faults)) frozen only done memory failed =
        let none = not_pending old known drained stands (λ f. let no = frozen f in cc) in
        let found = finds new (with_pending known tag row) drained (failed faults refl) in
        by_known none (unsure_now found.0 found.1)
    row_adds (Err settling.Frozen) frozen only done memory failed = λ rows opens.
        inl (subst (λ (d : State D). OpensRows old.settings (λ n. (files d.disk n).now) rows) (sym (only refl).1) opens)
