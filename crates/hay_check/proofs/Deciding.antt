-- The verdict of what was read.
use Rattle.std.proofs.Common.{◌≡◌, inl, inr, ℕ, ◌+◌, ◌≤◌, ◌<◌, ◌^◌, zero, suc, List, [], ◌∷◌, length, map, take, refl, sym, ap, subst, ◌∙◌, arith, Result}
use Rattle.std.specs.Prelude.{IfOk}
use Rattle.hay_needle.specs.declared.needle.Cell.{Cell}
use Rattle.hay_needle.specs.declared.needle.CellHead.{CellHead}
use Rattle.hay_needle.specs.declared.settings.Super.{Super}
use Rattle.hay_needle.specs.Sizes.{needle_total}
use Rattle.hay_needle.specs.Super.{SuperFits, super_bytes}
use Rattle.hay_needle.specs.declared.settings.TheConstants.{LAST_GENERATION}
use Rattle.hay_disk.specs.Disk.{Files}
use Rattle.hay_dirfile.specs.declared.row.DirRow.{DirRow}
use Rattle.hay_dirfile.specs.Journal.{IsDamagedJournal, IsJournal}
use Rattle.hay_volume.specs.Cells.{cell_head}
use Rattle.hay_index.specs.declared.record.Record.{Record}
use Rattle.hay_index.specs.Records.{AreInRow}
use Rattle.hay_open.specs.Listing.{head_record}
use Rattle.hay_open.specs.Stored.{IsStored, IsVoid, Stored, cell_record, index_file, index_super}
use Rattle.hay_open.proofs.CellRows.{has_row, heads_length, map_heads, map_length}
use Rattle.hay_open.proofs.Faults.{void_is}
use Rattle.hay_open.proofs.Reading.{there}
use Rattle.hay_open.proofs.Standing.{stored_opens}
use Rattle.hay_check.specs.declared.fault.Refusal.{Refusal}
use Rattle.hay_check.specs.declared.fault.Refusal.TheVariants as refusal
use Rattle.hay_check.specs.declared.verdict.CheckFault.{CheckFault}
use Rattle.hay_check.specs.declared.verdict.Verdict.{Verdict}
use Rattle.hay_check.specs.declared.verdict.Verdict.TheVariants as verdict
use Rattle.hay_check.specs.Damage.{HoldsCells, IsDamagedFront, IsFirstDamage}
use Rattle.hay_check.specs.Faults.{answer}
use Rattle.hay_check.specs.Listing.{IsDamagedListing, ListsFirst}
use Rattle.hay_check.specs.Verdicts.{CheckOf, JournalCheckOf, OpensWhole, live_count, old_count, whole_of}
use Rattle.hay_check.proofs.Openings.{opening_whole}

-- what ended a check, where its damage is that of the disk
pub answered : (P : Verdict → Type 0) (r : Refusal) (faults : ℕ) (result : Result Verdict CheckFault) → result ≡ answer r faults
    → ((file at : ℕ) → r ≡ refusal.Damaged file at → P (verdict.Damaged file at)) → IfOk result P
answered P refusal.Failed faults result is damaged = subst (λ (x : Result Verdict CheckFault). IfOk x P) (sym is) tt
answered P (refusal.Damaged file at) faults result is damaged = subst (λ (x : Result Verdict CheckFault). IfOk x P) (sym is) (damaged file at refl)
answered P refusal.NoMemory faults result is damaged = subst (λ (x : Result Verdict CheckFault). IfOk x P) (sym is) tt

-- a file that has bytes
pub not_void : (size : ℕ) (contents : ℕ → List ℕ) → size ≡ length (contents 0) → (size ≡ 0 → ⊥) → IsVoid contents → ⊥
not_void size contents is some void = some (is ∙ ap length void)

-- THE DIRECTORY'S DISK

pub journal_void : (sup : Super) (contents : ℕ → List ℕ) (size : ℕ) → size ≡ length (contents 0) → size ≡ 0 → JournalCheckOf sup contents verdict.Void
unfolding JournalCheckOf
journal_void sup contents size is empty = inl (void_is (contents 0) (sym is ∙ empty), refl)

pub journal_rows : (sup : Super) (f g : Files) (count : ℕ) → g ≡ f → (rows : List DirRow) × IsJournal (super_bytes sup) sup.settings.volumes (g 0).now rows × (count ≡ length rows)
    → JournalCheckOf sup (λ n. (f n).now) (verdict.Rows count)
unfolding JournalCheckOf
journal_rows sup f g count same (rows, is, many) = inr (inl (rows, subst (λ (fs : Files). IsJournal (super_bytes sup) sup.settings.volumes (fs 0).now rows) same is, ap (λ n. verdict.Rows n) many))

pub journal_damage : (sup : Super) (f g : Files) (file at : ℕ) → g ≡ f → (IsVoid (λ n. (f n).now) → ⊥) → (file ≡ 0) × IsDamagedJournal sup (g 0).now at
    → JournalCheckOf sup (λ n. (f n).now) (verdict.Damaged file at)
unfolding JournalCheckOf
journal_damage sup f g file at same some damage =
    inr (inr (at, some, subst (λ (fs : Files). IsDamagedJournal sup (fs 0).now at) same damage.1, ap (λ n. verdict.Damaged n at) damage.0))

-- A REPLICA'S DISK

row_first : (at n : ℕ) (rows : List Record) → AreInRow at rows → AreInRow at (take n rows)
row_first at zero rows row = tt
row_first at (suc n) [] row = tt
row_first at (suc n) (r ∷ rows) row = (row.0, row_first (at + needle_total r.size) n rows row.1)

pub record Holds (sup : Super) (contents : ℕ → List ℕ) (generation end : ℕ) (heads : List CellHead) : Type 0 where
  pub cells : List Cell
  pub are : heads ≡ map cell_head cells
  pub holds : HoldsCells sup contents generation cells end

-- the cells that were read
pub cells_held : (sup : Super) (contents : ℕ → List ℕ) (generation end : ℕ) (heads items : List CellHead) → heads ≡ items
    → (cells : List Cell) × HoldsCells sup contents generation cells end × (items ≡ map cell_head cells) → Holds sup contents generation end heads
cells_held sup contents generation end heads items same (cells, holds, are) = record { cells = cells; are = same ∙ are; holds = holds }

-- and as many records as were compared
pub whole_stored : (sup isup : Super) (f g : Files) (generation end number count : ℕ) (heads : List CellHead) → (held : Holds sup (λ n. (f n).now) generation end heads) → g ≡ f
    → (generation ≤ LAST_GENERATION → number ≡ index_file generation)
    → isup ≡ index_super sup generation → ListsFirst (super_bytes isup) (g number).now (map head_record heads) count
    → IsStored sup (λ n. (f n).now) (record { cells = held.cells; end = end; records = count; generation = generation })
whole_stored sup isup f g generation end number count heads held same numbered isup_is lists =
    let rows : map head_record heads ≡ map cell_record held.cells = ap (λ (l : List CellHead). map head_record l) held.are ∙ map_heads held.cells in
    let here : ListsFirst (super_bytes (index_super sup generation)) (f (index_file generation)).now (map cell_record held.cells) count =
    there (λ l. ListsFirst (super_bytes (index_super sup generation)) l (map cell_record held.cells) count) f g number (index_file generation) same (numbered held.holds.head.most)
    (subst (λ (l : List Record). ListsFirst (super_bytes (index_super sup generation)) (g number).now l count) rows
    (subst (λ (s : Super). ListsFirst (super_bytes s) (g number).now (map head_record heads) count) isup_is lists)) in
    record {
      head = held.holds.head;
      volume = record { begins = held.holds.begins; has = held.holds.has; closed = held.holds.closed };
      lags = omega (arith, here.within, map_length held.cells);
      index_end = here.end;
      index = record { has = here.has; row = row_first 64 count (map cell_record held.cells) (has_row 64 end _ held.cells held.holds.has); closed = here.closed };
    }

pub whole_numbers : (generation cells live records end old : ℕ) (heads : List CellHead) (read : List Cell) → heads ≡ map cell_head read → cells ≡ length heads
    → live ≡ live_count read → old ≡ old_count read
    → verdict.Whole generation cells live records end old ≡ whole_of (record { cells = read; end = end; records = records; generation = generation })
whole_numbers generation cells live records end old heads read are many photos older =
    let count : cells ≡ length read = many ∙ ap length are ∙ heads_length read in
    ap (λ n. verdict.Whole generation n live records end old) count ∙ ap (λ n. verdict.Whole generation (length read) n records end old) photos
    ∙ ap (λ n. verdict.Whole generation (length read) (live_count read) records end n) older

pub front_first : (sup : Super) (contents : ℕ → List ℕ) (file at : ℕ) → IsDamagedFront sup contents file at → IsFirstDamage sup contents file at
unfolding IsFirstDamage
front_first sup contents file at damage = inl damage

pub rest_first : (sup isup : Super) (f g : Files) (generation end number file at : ℕ) (heads : List CellHead) → Holds sup (λ n. (f n).now) generation end heads → g ≡ f
    → (generation ≤ LAST_GENERATION → number ≡ index_file generation)
    → isup ≡ index_super sup generation → (file ≡ number) × IsDamagedListing isup (g number).now (map head_record heads) at → IsFirstDamage sup (λ n. (f n).now) file at
unfolding IsFirstDamage
rest_first sup isup f g generation end number file at heads held same numbered isup_is damage =
    let is = numbered held.holds.head.most in
    let rows : map head_record heads ≡ map cell_record held.cells = ap (λ (l : List CellHead). map head_record l) held.are ∙ map_heads held.cells in
    inr (
      generation,
      held.cells,
      end,
      held.holds,
      damage.0 ∙ is,
      there (λ l. IsDamagedListing (index_super sup generation) l (map cell_record held.cells) at) f g number (index_file generation) same is
          (subst (λ (l : List Record). IsDamagedListing (index_super sup generation) (g number).now l at) rows
          (subst (λ (s : Super). IsDamagedListing s (g number).now (map head_record heads) at) isup_is damage.1)),
    )

-- THE VERDICT

pub check_void : (sup : Super) (contents : ℕ → List ℕ) (size : ℕ) → size ≡ length (contents 0) → size ≡ 0 → CheckOf sup contents verdict.Void
unfolding CheckOf
check_void sup contents size is empty = inl (void_is (contents 0) (sym is ∙ empty), refl)

pub check_whole : (sup : Super) (f g : Files) (v : Verdict) → g ≡ f → (s : Stored) × IsStored sup (λ n. (g n).now) s × (v ≡ whole_of s) → CheckOf sup (λ n. (f n).now) v
unfolding CheckOf
check_whole sup f g v same (s, is, numbers) = inr (inl (s, subst (λ (fs : Files). IsStored sup (λ n. (fs n).now) s) same is, numbers))

pub check_damage : (sup : Super) (f g : Files) (file at : ℕ) → g ≡ f → (IsVoid (λ n. (f n).now) → ⊥) → IsFirstDamage sup (λ n. (g n).now) file at
    → CheckOf sup (λ n. (f n).now) (verdict.Damaged file at)
unfolding CheckOf
check_damage sup f g file at same some damage = inr (inr (file, at, some, subst (λ (fs : Files). IsFirstDamage sup (λ n. (fs n).now) file at) same damage, refl))

-- a whole disk opens as what it has
pub check_opens : (sup : Super) (contents : ℕ → List ℕ) (v : Verdict) (generation cells live records end old : ℕ) → SuperFits sup → ((n : ℕ) → length (contents n) < 2 ^ 64)
    → v ≡ verdict.Whole generation cells live records end old → CheckOf sup contents v
    → OpensWhole sup contents v
unfolding CheckOf
check_opens sup contents v generation cells live records end old fits short is (inl void) = let wrong = sym is ∙ void.1 in absurd cc
check_opens sup contents v generation cells live records end old fits short is (inr (inl whole)) =
    record { stored = whole.0; opens = stored_opens sup contents whole.0 whole.1; numbers = whole.2; undamaged = λ file at. opening_whole sup contents whole.0 file at fits short whole.1 }
check_opens sup contents v generation cells live records end old fits short is (inr (inr damage)) = let wrong = sym is ∙ damage.4 in absurd cc
