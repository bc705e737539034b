-- What a disk holds is one thing, and it holds it in every image once its files rest.
use Rattle.std.proofs.Common.{◌≡◌, inl, inr, ℕ, ◌<◌, ◌≤◌, ◌^◌, List, [], length, map, sym, ap, subst, ◌∙◌, arith}
use Rattle.std.proofs.lemmas.List.{length-take-le}
use Rattle.hay_needle.specs.declared.needle.Cell.{Cell}
use Rattle.hay_needle.specs.declared.settings.Super.{Super}
use Rattle.hay_needle.specs.Super.{super_bytes}
use Rattle.hay_disk.specs.Disk.{Files, MayLeave}
use Rattle.hay_disk.proofs.Images.{solid_whole}
use Rattle.hay_head.specs.Head.{IsHead}
use Rattle.hay_head.proofs.HeadLaws.{one_generation}
use Rattle.hay_index.specs.Records.{IsIndex}
use Rattle.hay_index.proofs.Readings.{one_reading as one_index}
use Rattle.hay_volume.specs.Cells.{IsVolume}
use Rattle.hay_volume.proofs.Readings.{one_reading as one_volume}
use Rattle.hay_open.specs.Stored.{Stored, HeadRests, IndexRests, IsStored, IsVoid, OpensAs, VolumeRests, cell_record, head_super, index_file, index_super, recorded, volume_file, volume_super}
use Rattle.hay_open.proofs.CellRows.{map_length}

-- a disk that has a head is not void
pub stored_not_void : (sup : Super) (contents : ℕ → List ℕ) (s : Stored) → IsStored sup contents s → IsVoid contents → ⊥
stored_not_void sup contents s is void = omega (arith, is.head.closed.room, ap length void)

-- a disk holds one thing
pub one_stored : (sup : Super) (contents : ℕ → List ℕ) (s t : Stored) → ((n : ℕ) → length (contents n) < 2 ^ 64) → IsStored sup contents s → IsStored sup contents t → s ≡ t
one_stored sup contents s t fits a b =
    let g : t.generation ≡ s.generation = one_generation (super_bytes (head_super sup)) (contents 0) t.generation s.generation b.head a.head in
    let volume : IsVolume (super_bytes (volume_super sup s.generation)) (contents (volume_file s.generation)) t.cells t.end =
    subst (λ n. IsVolume (super_bytes (volume_super sup n)) (contents (volume_file n)) t.cells t.end) g b.volume in
    let cells = one_volume 64 s.end t.end (contents (volume_file s.generation)) s.cells t.cells a.volume.has a.volume.closed volume.has volume.closed in
    let index : IsIndex (super_bytes (index_super sup s.generation)) (contents (index_file s.generation)) (recorded t) b.index_end =
    subst (λ n. IsIndex (super_bytes (index_super sup n)) (contents (index_file n)) (recorded t) b.index_end) g b.index in
    let records =
    one_index (super_bytes (index_super sup s.generation)) (contents (index_file s.generation)) (recorded s) (recorded t) a.index_end b.index_end (fits (index_file s.generation)) a.index index in
    let few : s.records ≤ length (map cell_record s.cells) = omega (arith, map_length s.cells, a.lags) in
    let fewer : t.records ≤ length (map cell_record t.cells) = omega (arith, map_length t.cells, b.lags) in
    let count : s.records ≡ t.records = sym (length-take-le s.records (map cell_record s.cells) few) ∙ ap length records.0 ∙ length-take-le t.records (map cell_record t.cells) fewer in
    let with : List Cell → ℕ → ℕ → ℕ → Stored = λ c e r n. record { cells = c; end = e; records = r; generation = n } in
    ap (λ (c : List Cell). with c s.end s.records s.generation) cells.0 ∙ ap (λ e. with t.cells e s.records s.generation) cells.1
    ∙ ap (λ r. with t.cells t.end r s.generation) count ∙ ap (λ n. with t.cells t.end t.records n) (sym g)

pub opens_one : (sup : Super) (contents : ℕ → List ℕ) (s t : Stored) → ((n : ℕ) → length (contents n) < 2 ^ 64) → OpensAs sup contents s → OpensAs sup contents t → s ≡ t
unfolding OpensAs
opens_one sup contents s t fits (inl a) (inl b) = a.1 ∙ sym b.1
opens_one sup contents s t fits (inl a) (inr b) = absurd (stored_not_void sup contents t b a.0)
opens_one sup contents s t fits (inr a) (inl b) = absurd (stored_not_void sup contents s a b.0)
opens_one sup contents s t fits (inr a) (inr b) = one_stored sup contents s t fits a b

-- what is stored is found
pub stored_opens : (sup : Super) (contents : ℕ → List ℕ) (s : Stored) → IsStored sup contents s → OpensAs sup contents s
unfolding OpensAs
stored_opens sup contents s is = inr is

-- on a disk that is not void what is found is stored
pub opens_stored : (sup : Super) (contents : ℕ → List ℕ) (s : Stored) → (IsVoid contents → ⊥) → OpensAs sup contents s → IsStored sup contents s
unfolding OpensAs
opens_stored sup contents s some (inl void) = absurd (some void.0)
opens_stored sup contents s some (inr is) = is

-- on a void one nothing is
pub opens_void : (sup : Super) (contents : ℕ → List ℕ) (s : Stored) → IsVoid contents → OpensAs sup contents s → s ≡ record { cells = []; end = 64; records = 0; generation = 0 }
unfolding OpensAs
opens_void sup contents s void (inl is) = is.1
opens_void sup contents s void (inr is) = absurd (stored_not_void sup contents s is void)

-- files that rest have this in every image
pub rests_left : (sup : Super) (files : Files) (image : ℕ → List ℕ) (s : Stored) (end : ℕ) → s.records ≤ length s.cells → HeadRests sup (files 0) s.generation
    → VolumeRests sup (files (volume_file s.generation)) s
    → IndexRests sup (files (index_file s.generation)) s end → MayLeave files image → OpensAs sup image s
unfolding OpensAs
rests_left sup files image s end lags head volume index leaves =
    let v = volume_file s.generation in
    let x = index_file s.generation in
    inr (record {
      head = subst (λ (l : List ℕ). IsHead (super_bytes (head_super sup)) l s.generation) (sym (solid_whole (files 0) (image 0) head.solid (leaves 0))) head.is;
      volume = subst (λ (l : List ℕ). IsVolume (super_bytes (volume_super sup s.generation)) l s.cells s.end) (sym (solid_whole (files v) (image v) volume.solid (leaves v))) volume.is;
      lags = lags;
      index_end = end;
      index = subst (λ (l : List ℕ). IsIndex (super_bytes (index_super sup s.generation)) l (recorded s) end) (sym (solid_whole (files x) (image x) index.solid (leaves x))) index.is;
    })
