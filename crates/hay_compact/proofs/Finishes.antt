-- The end of a compaction.
use Rattle.hay_needle.specs.declared.needle.Pair.{Pair}
use Rattle.hay_map.specs.Rows.{last_place}
use Rattle.hay_map.specs.declared.place.Place.TheVariants as place
use Rattle.std.proofs.Common.{◌≡◌, ◌≢◌, ◌+◌, ℕ, false, List, [], ◌∷◌, ◌++◌, length, sym, ap, ◌∙◌, subst, arith}
use Rattle.std.specs.Prelude.{map}
use Rattle.std.proofs.lemmas.List.{length-map, take_all}
use Rattle.hay_needle.specs.declared.needle.Cell.{Cell}
use Rattle.hay_needle.specs.declared.settings.Super.{Super}
use Rattle.hay_needle.specs.Super.{super_bytes}
use Rattle.hay_disk.specs.Disk.{Files, FileState, IsFree, IsSolid, Keeps}
use Rattle.hay_volume.specs.declared.volume.VolumeFile.{VolumeFile}
use Rattle.hay_volume.specs.Cells.{IsVolume}
use Rattle.hay_volume.proofs.Readings.{one_reading}
use Rattle.hay_volume.proofs.Volumes.{volume_gate}
use Rattle.hay_index.specs.declared.index.IndexFile.{IndexFile}
use Rattle.hay_index.specs.declared.record.Record.{Record}
use Rattle.hay_index.specs.Records.{AreInRow, IsIndex}
use Rattle.hay_index.proofs.IndexLaws.{index_gate}
use Rattle.hay_open.specs.Stored.{FlagsFree, IndexRests, VolumeRests, cell_record, index_file, index_super, last_cell, recorded, volume_file, volume_super}
use Rattle.hay_compact.specs.declared.finish.Finished.{Finished}
use Rattle.hay_compact.specs.Copying.{AreOfVersionTwo, Making, Stage, stored_of}
use Rattle.hay_compact.specs.Finishing.{AreThePlaces, CanSeal, IsFinished, IsSeen}
use Rattle.hay_compact.proofs.CellLists.{records_row}
use Rattle.hay_compact.proofs.StandingLaws.{place_kept}

all_free : (file : FileState) (cells : List Cell) → IsFree file → FlagsFree file cells
all_free file [] free = tt
all_free file (cell ∷ cells) free = (free (cell.at + 28), all_free file cells free)

-- once the new volume file is on the disk, its needles can be sealed
pub ready_to_seal : (sup : Super) (files middle later : Files) (s : Stage) (fresh : List Cell) (file : ℕ) → Making sup files s fresh → file ≡ s.volume.file
    → middle file ≡ files file → Keeps (middle file) (later file) → IsSolid (later file)
    → CanSeal sup (later file) s.standing (stored_of s fresh)
ready_to_seal sup files middle later s fresh file h same stays keeps solid =
    let was : IsVolume (super_bytes (volume_super sup s.generation)) (files file).now fresh s.volume.end =
    subst (λ k. IsVolume (super_bytes (volume_super sup s.generation)) (files k).now fresh s.volume.end) (sym same) h.volume_is in
    let now : (later file).now ≡ (files file).now = keeps.now ∙ ap (λ (f : FileState). f.now) stays in
    let is : IsVolume (super_bytes (volume_super sup s.generation)) (later file).now fresh s.volume.end =
    subst (λ (l : List ℕ). IsVolume (super_bytes (volume_super sup s.generation)) l fresh s.volume.end) (sym now) was in
    let free : IsFree (later file) = (λ k. keeps.free k (ap (λ (f : FileState). f.sealed k) stays ∙ subst (λ j. (files j).sealed k ≡ false) (sym same) (h.volume_free k))) in
    record {
      rests = record {
        is = is;
        solid = solid;
        gate = volume_gate (super_bytes (volume_super sup s.generation)) fresh s.volume.end (later file) is solid (λ k low. free k);
        flags = all_free (later file) fresh free;
      };
      places = λ pair. place_kept s.standing pair (last_cell fresh pair) (h.places pair);
    }

-- whatever cells are read there, each is of version 2
pub all_anew : (superblock other file : List ℕ) (cells fresh : List Cell) (end last : ℕ) → IsVolume superblock file cells end → IsVolume other file fresh last
    → AreOfVersionTwo fresh → AreOfVersionTwo cells
all_anew superblock other file cells fresh end last is own anew =
    subst AreOfVersionTwo (sym (one_reading 64 end last file cells fresh is.has is.closed own.has own.closed).0) anew

-- the two files are two
pub files_apart : (sup : Super) (files : Files) (s : Stage) (fresh : List Cell) → Making sup files s fresh → s.index.file ≢ s.volume.file
files_apart sup files s fresh h same = let a = h.names_volume in let b = h.names_index in absurd (omega arith)

pub finished_of : {P : Type 0} (Tells : Type 0) (sup : Super) (f0 f1 f2 f4 : Files) (s : Stage) (fresh : List Cell) (finished : Finished P)
    → Making sup f0 s fresh → s.index.frozen ≡ false
    → finished.volume ≡ record { file = s.volume.file; end = s.volume.end; capacity = s.capacity }
    → finished.index ≡ record s.index { end = finished.index.end; pending = [] }
    → ((superblock : List ℕ) (records : List Record) → IsIndex superblock (f0 s.index.file).now records s.index.end → AreInRow 64 (records ++ s.index.pending)
    → IsIndex superblock (f1 s.index.file).now (records ++ s.index.pending) finished.index.end)
    → ((k : ℕ) → (f0 s.index.file).sealed k ≡ false → (f1 s.index.file).sealed k ≡ false)
    → Keeps (f1 finished.index.file) (f2 finished.index.file) → IsSolid (f2 finished.index.file) → f4 s.index.file ≡ f2 s.index.file
    → VolumeRests sup (f4 s.volume.file) (stored_of s fresh) → AreThePlaces Tells fresh finished.places.items
    → ((pair : Pair) → IsSeen (last_place finished.places.items pair place.Gone)) → IsFinished Tells sup f4 finished s fresh
finished_of {P = P} Tells sup f0 f1 f2 f4 s fresh finished h thawed volume index added free keeps solid stays rests places seen = record {
  volume_is = volume
      ∙ ap (λ k. let v : VolumeFile = record { file = k; end = s.volume.end; capacity = s.capacity } in v) h.names_volume
      ∙ ap (λ k. let v : VolumeFile = record { file = volume_file s.generation; end = s.volume.end; capacity = k } in v) h.capacity_is;
  index_is = index
      ∙ ap (λ k. let i : IndexFile = record { file = k; end = finished.index.end; pending = []; frozen = s.index.frozen } in i) h.names_index
      ∙ ap (λ b. let i : IndexFile = record { file = index_file s.generation; end = finished.index.end; pending = []; frozen = b } in i) thawed;
  volume_rests = subst (λ k. VolumeRests sup (f4 k) (stored_of s fresh)) h.names_volume rests;
  index_rests = subst (λ k. IndexRests sup (f4 k) (stored_of s fresh) finished.index.end) h.names_index
      (subst (λ (f : FileState). IndexRests sup f (stored_of s fresh) finished.index.end) (sym stays)
      (subst (λ k. IndexRests sup (f2 k) (stored_of s fresh) finished.index.end) file (record {
        is = subst (λ (l : List Record). IsIndex sb (f2 finished.index.file).now l finished.index.end) (sym whole) has;
        solid = solid;
        gate = index_gate sb (map cell_record fresh) finished.index.end (f2 finished.index.file) has solid (λ k low. all_open k);
      })));
  places = places;
  seen = seen;
}
  where
    file : finished.index.file ≡ s.index.file
    file = ap (λ (i : IndexFile). i.file) index

    sb : List ℕ
    sb = super_bytes (index_super sup s.generation)

    flushed : IsIndex sb (f1 s.index.file).now (map cell_record fresh) finished.index.end
    flushed = subst (λ (l : List Record). IsIndex sb (f1 s.index.file).now l finished.index.end) h.noted
        (added sb [] h.index_is (subst (λ (l : List Record). AreInRow 64 l) (sym h.noted) (records_row 64 s.volume.end (f0 s.volume.file).now fresh h.volume_is.has)))

    has : IsIndex sb (f2 finished.index.file).now (map cell_record fresh) finished.index.end
    has =
        subst (λ (l : List ℕ). IsIndex sb l (map cell_record fresh) finished.index.end) (sym keeps.now)
        (subst (λ k. IsIndex sb (f1 k).now (map cell_record fresh) finished.index.end) (sym file) flushed)

    whole : recorded (stored_of s fresh) ≡ map cell_record fresh
    whole = take_all (length fresh) (map cell_record fresh) (omega (arith, length-map fresh cell_record))

    all_open : (k : ℕ) → (f2 finished.index.file).sealed k ≡ false
    all_open k = keeps.free k (subst (λ j. (f1 j).sealed k ≡ false) (sym file) (free k (h.index_free k)))
