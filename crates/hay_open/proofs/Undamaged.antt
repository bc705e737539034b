-- Where all that an opening reads is of the format, none of it is damaged.
use Rattle.std.proofs.Common.{◌≡◌, inl, inr, ℕ, ◌<◌, ◌^◌, List, [], length, take, refl, sym, ap, subst, ◌∙◌, Some, Err, arith}
use Rattle.std.proofs.lemmas.List.{take-take}
use Rattle.std.specs.List.{slice_get}
use Rattle.hay_needle.specs.declared.needle.Cell.{Cell}
use Rattle.hay_needle.specs.declared.settings.Super.{Super}
use Rattle.hay_needle.specs.Super.{SuperFits, super_bytes}
use Rattle.hay_needle.proofs.Supers.{is_only}
use Rattle.hay_disk.specs.Disk.{Files}
use Rattle.hay_head.specs.Head.{IsDamagedHead, IsHead, head_row}
use Rattle.hay_head.specs.Rows.{IsSuperFaultAt}
use Rattle.hay_head.proofs.HeadLaws.{one_generation, undamaged as head_undamaged}
use Rattle.hay_head.proofs.RowLaws.{front_is as head_front}
use Rattle.hay_index.specs.declared.record.Record.{Record}
use Rattle.hay_index.specs.Records.{IsDamagedIndex, IsIndex}
use Rattle.hay_index.proofs.Readings.{front_is as index_front, one_reading as one_index, undamaged as index_undamaged}
use Rattle.hay_volume.specs.declared.volume.VolumeFile.{VolumeFile}
use Rattle.hay_open.specs.declared.opened.Opened.{Opened}
use Rattle.hay_open.specs.Damage.{FitsNeedle, HasOrphans, IsDamagedFront, IsDamagedRest, IsMisfit, IsReadingDamage, scan_start}
use Rattle.hay_open.specs.Finds.{OpenedAs, ReadsWhole}
use Rattle.hay_open.specs.Stored.{fresh_stored, head_super, index_file, index_super, volume_file, volume_super}
use Rattle.hay_open.proofs.Listings.{scan_whole}
use Rattle.hay_open.proofs.Misfits.{fits_lacks, fits_other}

-- RECORDS AND THEIR NEEDLES

no_misfit : (sup : Super) (contents : ℕ → List ℕ) (generation number file at : ℕ) (records : List Record)
    → ((r : Record) → slice_get records number ≡ Some r → FitsNeedle r (contents (volume_file generation)))
    → IsMisfit sup contents generation records number file at → ⊥
no_misfit sup contents generation number file at records fits (r, there, inl lacks) = fits_lacks r (contents (volume_file generation)) (fits r there) lacks.2
no_misfit sup contents generation number file at records fits (r, there, inr other) = fits_other r (contents (volume_file generation)) (fits r there) other.1

rest_whole : (sup : Super) (contents : ℕ → List ℕ) (generation end file at : ℕ) (records : List Record) (orphans : List Cell) → length (contents (volume_file generation)) < 2 ^ 64
    → HasOrphans (contents (volume_file generation)) records orphans end
    → IsDamagedRest sup contents generation records file at → ⊥
rest_whole sup contents generation end file at records orphans short behind (inl last) = no_misfit sup contents generation last.0 file at records (λ r there. behind.fits last.0 r last.1 there) last.2
rest_whole sup contents generation end file at records orphans short behind (inr scan) =
    scan_whole (scan_start records) end at (contents (volume_file generation)) records orphans short refl behind.has behind.closed scan.2

-- ALL THAT IS READ

pub reads_undamaged : {P : Type 0} (Tells : Type 0) (sup : Super) (contents : ℕ → List ℕ) (opened : Opened P) (file at : ℕ) → ((n : ℕ) → length (contents n) < 2 ^ 64)
    → ReadsWhole Tells sup contents opened → (IsDamagedFront sup contents file at → ⊥) → IsReadingDamage sup contents file at → ⊥
reads_undamaged Tells sup contents opened file at short is no_front (inl front) = no_front front
reads_undamaged Tells sup contents opened file at short is no_front (inr (other, records, end, recorded, damage)) =
    let g = opened.head.generation in
    let same : other ≡ g = one_generation (super_bytes (head_super sup)) (contents 0) other g recorded.head is.recorded.head in
    let index : IsIndex (super_bytes (index_super sup g)) (contents (index_file g)) records end =
    subst (λ n. IsIndex (super_bytes (index_super sup n)) (contents (index_file n)) records end) same recorded.index in
    let rows : records ≡ is.records =
    (one_index (super_bytes (index_super sup g)) (contents (index_file g)) records is.records end opened.index.end (short (index_file g)) index is.recorded.index).0 in
    rest_whole sup contents g opened.volume.end file at is.records is.orphans (short (volume_file g)) is.behind
    (subst (λ (l : List Record). IsDamagedRest sup contents g l file at) rows (subst (λ n. IsDamagedRest sup contents n records file at) same damage))

-- A DISK THAT WAS JUST FORMATTED

no_super_fault : (sup : Super) (file : List ℕ) (at : ℕ) → SuperFits sup → take 64 file ≡ super_bytes sup → IsSuperFaultAt sup file at → ⊥
no_super_fault sup file at fits begins damage =
    let none = is_only (take 64 file) sup (Err damage.fault) fits (sym damage.first) (take-take 64 64 file (omega arith) ∙ begins) in
    absurd cc

head_whole : (sup : Super) (file : List ℕ) (generation at : ℕ) → SuperFits sup → IsHead (super_bytes sup) file generation → IsDamagedHead sup file at → ⊥
head_whole sup file generation at fits is (inl fault) = no_super_fault sup file at fits (head_front head_row (super_bytes sup) file _ _ is.rows) fault
head_whole sup file generation at fits is (inr broken) = head_undamaged (super_bytes sup) file generation at is broken

index_whole : (sup : Super) (file : List ℕ) (records : List Record) (end at : ℕ) → SuperFits sup → length file < 2 ^ 64 → IsIndex (super_bytes sup) file records end → IsDamagedIndex sup file at → ⊥
index_whole sup file records end at fits short is (inl (fault, first, place)) =
    let none = is_only file sup (Err fault) fits (sym first) (index_front (super_bytes sup) file records end is) in
    absurd cc
index_whole sup file records end at fits short is (inr (begins, broken)) = index_undamaged (super_bytes sup) file records end at short is broken

of_head : (sup : Super) → SuperFits (volume_super sup 0) → SuperFits (head_super sup)
of_head sup fits = record {
  machines = fits.machines;
  volumes = fits.volumes;
  replicas = fits.replicas;
  volume = fits.volume;
  replica = fits.replica;
  capacity = fits.capacity;
  generation = fits.generation;
}

of_index : (sup : Super) → SuperFits (volume_super sup 0) → SuperFits (index_super sup 0)
of_index sup fits = record {
  machines = fits.machines;
  volumes = fits.volumes;
  replicas = fits.replicas;
  volume = fits.volume;
  replica = fits.replica;
  capacity = fits.capacity;
  generation = fits.generation;
}

fresh_front : (sup : Super) (contents : ℕ → List ℕ) (end file at : ℕ) → ((n : ℕ) → length (contents n) < 2 ^ 64) → SuperFits (volume_super sup 0) → IsHead (super_bytes (head_super sup)) (contents 0) 0
    → take 64 (contents 1) ≡ super_bytes (volume_super sup 0) → IsIndex (super_bytes (index_super sup 0)) (contents 2) [] end → IsDamagedFront sup contents file at → ⊥
fresh_front sup contents end file at short fits head begins index (inl damage) = head_whole (head_super sup) (contents 0) 0 at (of_head sup fits) head damage.1
fresh_front sup contents end file at short fits head begins index (inr (other, also, inl damage)) =
    let one : other ≡ 0 = one_generation (super_bytes (head_super sup)) (contents 0) other 0 also head in
    no_super_fault (volume_super sup 0) (contents 1) at fits begins (subst (λ n. IsSuperFaultAt (volume_super sup n) (contents (volume_file n)) at) one damage.1)
fresh_front sup contents end file at short fits head begins index (inr (other, also, inr damage)) =
    let one : other ≡ 0 = one_generation (super_bytes (head_super sup)) (contents 0) other 0 also head in
    index_whole (index_super sup 0) (contents 2) [] end at (of_index sup fits) (short 2) index (subst (λ n. IsDamagedIndex (index_super sup n) (contents (index_file n)) at) one damage.2)

-- nothing of it is damaged
pub fresh_whole : {P : Type 0} (Tells : Type 0) (sup : Super) (files : Files) (opened : Opened P) → OpenedAs sup files opened fresh_stored → opened.cells.items ≡ []
    → ReadsWhole Tells sup (λ n. (files n).now) opened
fresh_whole Tells sup files opened o none = record {
  records = [];
  orphans = [];
  recorded = record {
    head = subst (λ n. IsHead (super_bytes (head_super sup)) (files 0).now n) (sym o.generation) o.head.is;
    begins = subst (λ n. take 64 (files (volume_file n)).now ≡ super_bytes (volume_super sup n)) (sym o.generation) o.cells.is.begins;
    index = subst (λ n. IsIndex (super_bytes (index_super sup n)) (files (index_file n)).now [] opened.index.end) (sym o.generation) o.index.is;
  };
  behind = subst (λ n. HasOrphans (files (volume_file n)).now [] [] opened.volume.end) (sym o.generation)
      (subst (λ n. HasOrphans (files 1).now [] [] n) (sym (ap (λ (v : VolumeFile). v.end) o.volume))
      (record { fits = λ number r last there. absurd (omega (arith, last)); has = o.cells.is.has; closed = o.cells.is.closed }));
  capacity = ap (λ (v : VolumeFile). v.capacity) o.volume;
  noted = o.noted;
  record_count = o.records;
  orphan_count = omega (arith, o.orphans);
  cells = ([], none, tt);
}

pub fresh_undamaged : {P : Type 0} (Tells : Type 0) (sup : Super) (files : Files) (opened : Opened P) (file at : ℕ) → ((n : ℕ) → length (files n).now < 2 ^ 64)
    → SuperFits (volume_super sup 0) → OpenedAs sup files opened fresh_stored → opened.cells.items ≡ []
    → IsReadingDamage sup (λ n. (files n).now) file at → ⊥
fresh_undamaged Tells sup files opened file at short fits o none damage =
    reads_undamaged Tells sup (λ n. (files n).now) opened file at short (fresh_whole Tells sup files opened o none)
    (fresh_front sup (λ n. (files n).now) opened.index.end file at short fits o.head.is o.cells.is.begins o.index.is) damage
