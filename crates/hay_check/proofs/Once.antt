-- A disk has one verdict.
use Rattle.std.proofs.Common.{◌≡◌, inl, inr, ℕ, ◌<◌, ◌^◌, List, length, map, take, drop, sym, ap, subst, ◌∙◌, arith, take-append-drop}
use Rattle.hay_needle.specs.declared.needle.Cell.{Cell}
use Rattle.hay_needle.specs.declared.settings.Super.{Super}
use Rattle.hay_needle.specs.Super.{SuperFits, super_bytes}
use Rattle.hay_dirfile.specs.declared.row.DirRow.{DirRow}
use Rattle.hay_dirfile.specs.Journal.{IsDamagedJournal, IsJournal, journal_row}
use Rattle.hay_dirfile.proofs.JournalLaws.{one_damage, one_journal, sound}
use Rattle.hay_head.specs.Head.{IsHead}
use Rattle.hay_head.proofs.HeadLaws.{one_generation}
use Rattle.hay_head.proofs.RowLaws.{front_is}
use Rattle.hay_volume.proofs.Readings.{one_reading as one_volume}
use Rattle.hay_index.specs.declared.record.Record.{Record}
use Rattle.hay_open.specs.Stored.{IsStored, IsVoid, Stored, cell_record, head_super, index_file, index_super, volume_file, volume_super}
use Rattle.hay_open.proofs.Standing.{one_stored, stored_not_void}
use Rattle.hay_check.specs.declared.verdict.Verdict.{Verdict}
use Rattle.hay_check.specs.declared.verdict.Verdict.TheVariants as verdict
use Rattle.hay_check.specs.Damage.{HoldsCells, IsDamagedFront, IsDamagedRest, IsDamagedVolume, IsFirstDamage}
use Rattle.hay_check.specs.Listing.{IsDamagedListing}
use Rattle.hay_check.specs.Verdicts.{CheckOf, JournalCheckOf, whole_of}
use Rattle.hay_check.proofs.Fronts.{head_fits, head_once, head_whole, index_fits, super_once, super_whole, volume_fits, volume_once, volume_whole}
use Rattle.hay_check.proofs.Listings.{index_once, index_whole}

-- ONE DAMAGE

same_generation : (sup : Super) (contents : ℕ → List ℕ) (g h : ℕ) → IsHead (super_bytes (head_super sup)) (contents 0) g → IsHead (super_bytes (head_super sup)) (contents 0) h → g ≡ h
same_generation sup contents g h a b = one_generation (super_bytes (head_super sup)) (contents 0) g h a b

front_once : (sup : Super) (contents : ℕ → List ℕ) (f a g b : ℕ) → SuperFits sup → IsDamagedFront sup contents f a → IsDamagedFront sup contents g b → (f ≡ g) × (a ≡ b)
front_once sup contents f a g b fits (inl x) (inl y) = (x.0 ∙ sym y.0, head_once (head_super sup) (contents 0) a b (head_fits sup fits) x.1 y.1)
front_once sup contents f a g b fits (inl x) (inr y) = absurd (head_whole (head_super sup) (contents 0) y.0 a (head_fits sup fits) y.1 x.1)
front_once sup contents f a g b fits (inr x) (inl y) = absurd (head_whole (head_super sup) (contents 0) x.0 b (head_fits sup fits) x.1 y.1)
front_once sup contents f a g b fits (inr x) (inr y) =
    let same : y.0 ≡ x.0 = same_generation sup contents y.0 x.0 y.1 x.1 in (
      x.2 ∙ ap volume_file (sym same) ∙ sym y.2,
      volume_once (volume_super sup x.0) (contents (volume_file x.0)) a b (volume_fits sup x.0 (x.1).most fits) x.3
          (subst (λ n. IsDamagedVolume (volume_super sup n) (contents (volume_file n)) b) same y.3),
    )

-- where the cells are held, nothing in front of them is damaged
held_whole : (sup : Super) (contents : ℕ → List ℕ) (generation end f a : ℕ) (cells : List Cell) → SuperFits sup → HoldsCells sup contents generation cells end → IsDamagedFront sup contents f a → ⊥
held_whole sup contents generation end f a cells fits holds (inl x) = head_whole (head_super sup) (contents 0) generation a (head_fits sup fits) holds.head x.1
held_whole sup contents generation end f a cells fits holds (inr x) =
    let same : x.0 ≡ generation = same_generation sup contents x.0 generation x.1 holds.head in
    volume_whole (volume_super sup generation) (contents (volume_file generation)) cells end a (volume_fits sup generation holds.head.most fits) holds.begins holds.has holds.closed
    (subst (λ n. IsDamagedVolume (volume_super sup n) (contents (volume_file n)) a) same x.3)

-- cells are held once
same_cells : (sup : Super) (contents : ℕ → List ℕ) (generation end other : ℕ) (cells more : List Cell) → HoldsCells sup contents generation cells end
    → HoldsCells sup contents generation more other → cells ≡ more
same_cells sup contents generation end other cells more a b = (one_volume 64 end other (contents (volume_file generation)) cells more a.has a.closed b.has b.closed).0

-- damage behind other cells is damage behind these
there_too : (sup : Super) (contents : ℕ → List ℕ) (generation end other place : ℕ) (cells more : List Cell) (h : ℕ) → HoldsCells sup contents generation cells end
    → HoldsCells sup contents h more other
    → IsDamagedListing (index_super sup h) (contents (index_file h)) (map cell_record more) place
    → IsDamagedListing (index_super sup generation) (contents (index_file generation)) (map cell_record cells) place
there_too sup contents generation end other place cells more h holds also damage =
    let same : h ≡ generation = same_generation sup contents h generation also.head holds.head in
    let are : more ≡ cells = same_cells sup contents generation other end more cells (subst (λ n. HoldsCells sup contents n more other) same also) holds in
    subst (λ (l : List Cell). IsDamagedListing (index_super sup generation) (contents (index_file generation)) (map cell_record l) place) are
    (subst (λ n. IsDamagedListing (index_super sup n) (contents (index_file n)) (map cell_record more) place) same damage)

rest_once : (sup : Super) (contents : ℕ → List ℕ) (f a g b : ℕ) → SuperFits sup → ((n : ℕ) → length (contents n) < 2 ^ 64) → IsDamagedRest sup contents f a
    → IsDamagedRest sup contents g b → (f ≡ g) × (a ≡ b)
rest_once sup contents f a g b fits short (n, cells, end, holds, file, damage) (m, more, other, also, number, worse) = (
  file ∙ ap index_file (same_generation sup contents n m holds.head also.head) ∙ sym number,
  index_once (index_super sup n) (contents (index_file n)) (map cell_record cells) a b (index_fits sup n holds.head.most fits) (short (index_file n)) damage
      (there_too sup contents n end other b cells more m holds also worse),
)

first_once : (sup : Super) (contents : ℕ → List ℕ) (f a g b : ℕ) → SuperFits sup → ((n : ℕ) → length (contents n) < 2 ^ 64) → IsFirstDamage sup contents f a
    → IsFirstDamage sup contents g b → (f ≡ g) × (a ≡ b)
unfolding IsFirstDamage
first_once sup contents f a g b fits short (inl x) (inl y) = front_once sup contents f a g b fits x y
first_once sup contents f a g b fits short (inl x) (inr y) = absurd (held_whole sup contents y.0 y.2 f a y.1 fits y.3 x)
first_once sup contents f a g b fits short (inr x) (inl y) = absurd (held_whole sup contents x.0 x.2 g b x.1 fits x.3 y)
first_once sup contents f a g b fits short (inr x) (inr y) = rest_once sup contents f a g b fits short x y

-- NONE OF A WHOLE DISK

stored_holds : (sup : Super) (contents : ℕ → List ℕ) (s : Stored) → IsStored sup contents s → HoldsCells sup contents s.generation s.cells s.end
stored_holds sup contents s is = record { head = is.head; begins = is.volume.begins; has = is.volume.has; closed = is.volume.closed }

stored_whole : (sup : Super) (contents : ℕ → List ℕ) (s : Stored) (f a : ℕ) → SuperFits sup → ((n : ℕ) → length (contents n) < 2 ^ 64) → IsStored sup contents s → IsFirstDamage sup contents f a → ⊥
unfolding IsFirstDamage
stored_whole sup contents s f a fits short is (inl x) = held_whole sup contents s.generation s.end f a s.cells fits (stored_holds sup contents s is) x
stored_whole sup contents s f a fits short is (inr (m, more, other, also, number, damage)) =
    let rows : List Record = map cell_record s.cells in
    index_whole (index_super sup s.generation) (contents (index_file s.generation)) rows (take s.records rows) (drop s.records rows) is.index_end a
    (index_fits sup s.generation is.head.most fits) (short (index_file s.generation))
    (sym (take-append-drop s.records rows)) is.index (there_too sup contents s.generation s.end other a s.cells more m (stored_holds sup contents s is) also damage)

-- ONE VERDICT

pub verdict_once : (sup : Super) (contents : ℕ → List ℕ) (v w : Verdict) → SuperFits sup → ((n : ℕ) → length (contents n) < 2 ^ 64) → CheckOf sup contents v → CheckOf sup contents w → v ≡ w
unfolding CheckOf
verdict_once sup contents v w fits short (inl a) (inl b) = a.1 ∙ sym b.1
verdict_once sup contents v w fits short (inl a) (inr (inl b)) = absurd (stored_not_void sup contents b.0 b.1 a.0)
verdict_once sup contents v w fits short (inl a) (inr (inr b)) = absurd (b.2 a.0)
verdict_once sup contents v w fits short (inr (inl a)) (inl b) = absurd (stored_not_void sup contents a.0 a.1 b.0)
verdict_once sup contents v w fits short (inr (inl a)) (inr (inl b)) = a.2 ∙ ap whole_of (one_stored sup contents a.0 b.0 short a.1 b.1) ∙ sym b.2
verdict_once sup contents v w fits short (inr (inl a)) (inr (inr b)) = absurd (stored_whole sup contents a.0 b.0 b.1 fits short a.1 b.3)
verdict_once sup contents v w fits short (inr (inr a)) (inl b) = absurd (a.2 b.0)
verdict_once sup contents v w fits short (inr (inr a)) (inr (inl b)) = absurd (stored_whole sup contents b.0 a.0 a.1 fits short b.1 a.3)
verdict_once sup contents v w fits short (inr (inr a)) (inr (inr b)) =
    let same = first_once sup contents a.0 a.1 b.0 b.1 fits short a.3 b.3 in
    a.4 ∙ ap (λ n. verdict.Damaged n a.1) same.0 ∙ ap (λ n. verdict.Damaged b.0 n) same.1 ∙ sym b.4

-- THE DIRECTORY'S DISK

rows_once : (sup : Super) (file : List ℕ) (a b : ℕ) → SuperFits sup → IsDamagedJournal sup file a → IsDamagedJournal sup file b → a ≡ b
rows_once sup file a b fits (inl x) (inl y) = super_once sup file a b x y
rows_once sup file a b fits (inl x) (inr y) = absurd (super_whole sup file a fits (front_is journal_row (super_bytes sup) file _ _ y.lead.stand) x)
rows_once sup file a b fits (inr x) (inl y) = absurd (super_whole sup file b fits (front_is journal_row (super_bytes sup) file _ _ x.lead.stand) y)
rows_once sup file a b fits (inr x) (inr y) = one_damage (super_bytes sup) sup.settings.volumes file a b x y

journal_not_void : (sup : Super) (contents : ℕ → List ℕ) (rows : List DirRow) → IsJournal (super_bytes sup) sup.settings.volumes (contents 0) rows → IsVoid contents → ⊥
journal_not_void sup contents rows is void = omega (arith, is.closed.room, ap length void)

pub journal_once : (sup : Super) (contents : ℕ → List ℕ) (v w : Verdict) → SuperFits sup → JournalCheckOf sup contents v → JournalCheckOf sup contents w → v ≡ w
unfolding JournalCheckOf
journal_once sup contents v w fits (inl a) (inl b) = a.1 ∙ sym b.1
journal_once sup contents v w fits (inl a) (inr (inl b)) = absurd (journal_not_void sup contents b.0 b.1 a.0)
journal_once sup contents v w fits (inl a) (inr (inr b)) = absurd (b.1 a.0)
journal_once sup contents v w fits (inr (inl a)) (inl b) = absurd (journal_not_void sup contents a.0 a.1 b.0)
journal_once sup contents v w fits (inr (inl a)) (inr (inl b)) =
    let most = fits.volumes in
    a.2 ∙ ap (λ (rows : List DirRow). verdict.Rows (length rows)) (one_journal (super_bytes sup) sup.settings.volumes (contents 0) a.0 b.0 (omega arith) a.1 b.1) ∙ sym b.2
journal_once sup contents v w fits (inr (inl a)) (inr (inr b)) = absurd (sound sup (contents 0) a.0 b.0 fits a.1 b.2)
journal_once sup contents v w fits (inr (inr a)) (inl b) = absurd (a.1 b.0)
journal_once sup contents v w fits (inr (inr a)) (inr (inl b)) = absurd (sound sup (contents 0) b.0 a.0 fits b.1 a.2)
journal_once sup contents v w fits (inr (inr a)) (inr (inr b)) = a.3 ∙ ap (λ n. verdict.Damaged 0 n) (rows_once sup (contents 0) a.0 b.0 fits a.2 b.2) ∙ sym b.3
