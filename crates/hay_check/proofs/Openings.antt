-- An opening of a whole disk finds no damage.
use Rattle.std.proofs.Common.{◌≡◌, inl, inr, ℕ, ◌<◌, ◌^◌, List, length, refl, sym, subst, Err}
use Rattle.hay_needle.specs.declared.settings.Super.{Super}
use Rattle.hay_needle.specs.Super.{SuperFits, super_bytes}
use Rattle.hay_needle.proofs.Supers.{is_only}
use Rattle.hay_head.specs.Rows.{IsSuperFaultAt}
use Rattle.hay_head.proofs.HeadLaws.{one_generation}
use Rattle.hay_index.specs.declared.record.Record.{Record}
use Rattle.hay_index.specs.Records.{IsDamagedIndex, IsIndex}
use Rattle.hay_index.proofs.Readings.{front_is, undamaged}
use Rattle.hay_open.specs.Damage.{IsDamagedFront, IsDamagedRest, IsOpeningDamage, IsReadingDamage, IsRecorded, scan_start}
use Rattle.hay_open.specs.Stored.{IsStored, Stored, head_super, index_file, index_super, volume_file, volume_super}
use Rattle.hay_open.proofs.Listings.{scan_whole, stored_behind, stored_fits, stored_same}
use Rattle.hay_open.proofs.Misfits.{fits_lacks, fits_other}
use Rattle.hay_check.proofs.Fronts.{head_fits, head_whole, index_fits, super_whole, volume_fits}

index_sound : (sup : Super) (file : List ℕ) (records : List Record) (end at : ℕ) → SuperFits sup → length file < 2 ^ 64 → IsIndex (super_bytes sup) file records end → IsDamagedIndex sup file at → ⊥
index_sound sup file records end at fits short is (inl (fault, first, place)) =
    let none = is_only file sup (Err fault) fits (sym first) (front_is (super_bytes sup) file records end is) in
    absurd cc
index_sound sup file records end at fits short is (inr (begins, broken)) = undamaged (super_bytes sup) file records end at short is broken

front_whole : (sup : Super) (contents : ℕ → List ℕ) (s : Stored) (file at : ℕ) → SuperFits sup → ((n : ℕ) → length (contents n) < 2 ^ 64) → IsStored sup contents s
    → IsDamagedFront sup contents file at → ⊥
front_whole sup contents s file at fits short is (inl x) = head_whole (head_super sup) (contents 0) s.generation at (head_fits sup fits) is.head x.1
front_whole sup contents s file at fits short is (inr (g, head, inl x)) =
    let same : g ≡ s.generation = one_generation (super_bytes (head_super sup)) (contents 0) g s.generation head is.head in
    super_whole (volume_super sup s.generation) (contents (volume_file s.generation)) at (volume_fits sup s.generation is.head.most fits) is.volume.begins
    (subst (λ n. IsSuperFaultAt (volume_super sup n) (contents (volume_file n)) at) same x.1)
front_whole sup contents s file at fits short is (inr (g, head, inr x)) =
    let same : g ≡ s.generation = one_generation (super_bytes (head_super sup)) (contents 0) g s.generation head is.head in
    index_sound (index_super sup s.generation) (contents (index_file s.generation)) _ is.index_end at (index_fits sup s.generation is.head.most fits) (short (index_file s.generation)) is.index
    (subst (λ n. IsDamagedIndex (index_super sup n) (contents (index_file n)) at) same x.2)

rest_whole : (sup : Super) (contents : ℕ → List ℕ) (s : Stored) (g end file at : ℕ) (records : List Record) → ((n : ℕ) → length (contents n) < 2 ^ 64) → IsStored sup contents s
    → IsRecorded sup contents g records end → IsDamagedRest sup contents g records file at → ⊥
rest_whole sup contents s g end file at records short is recorded (inl (number, last, (r, there, inl lacks))) =
    let same = stored_same sup contents g end records s short recorded is in
    fits_lacks r (contents (volume_file g)) (stored_fits sup contents g number records r s is same there) lacks.2
rest_whole sup contents s g end file at records short is recorded (inl (number, last, (r, there, inr other))) =
    let same = stored_same sup contents g end records s short recorded is in
    fits_other r (contents (volume_file g)) (stored_fits sup contents g number records r s is same there) other.1
rest_whole sup contents s g end file at records short is recorded (inr scan) =
    let behind = stored_behind sup contents g records s is (stored_same sup contents g end records s short recorded is) in
    scan_whole (scan_start records) s.end at (contents (volume_file g)) records _ (short (volume_file g)) refl behind.0 behind.1 scan.2

reading_whole : (sup : Super) (contents : ℕ → List ℕ) (s : Stored) (file at : ℕ) → SuperFits sup → ((n : ℕ) → length (contents n) < 2 ^ 64) → IsStored sup contents s
    → IsReadingDamage sup contents file at → ⊥
reading_whole sup contents s file at fits short is (inl front) = front_whole sup contents s file at fits short is front
reading_whole sup contents s file at fits short is (inr (g, records, end, recorded, rest)) = rest_whole sup contents s g end file at records short is recorded rest

pub opening_whole : (sup : Super) (contents : ℕ → List ℕ) (s : Stored) (file at : ℕ) → SuperFits sup → ((n : ℕ) → length (contents n) < 2 ^ 64) → IsStored sup contents s
    → IsOpeningDamage sup contents file at → ⊥
unfolding IsOpeningDamage
opening_whole sup contents s file at fits short is damage = reading_whole sup contents s file at fits short is damage.1
