-- The volumes and the Directory of a store, where they stand for what is known, and what a block leaves of them.
use Rattle.std.specs.Prelude.{◌≡◌, ◌≢◌, ℕ, ◌+◌, ◌<◌, ◌≤◌, Bool, List, [], ◌∷◌, ◌++◌, length, map, slice_get, Some}
use Rattle.std.specs.List.{AllByRecursion as Each, flat_map}
use Rattle.hay_needle.specs.declared.settings.Settings.{Settings}
use Rattle.hay_front.specs.declared.front.Tag.{Tag}
use Rattle.hay_legal.specs.declared.known.DirKnown.{DirKnown}
use Rattle.hay_legal.specs.declared.known.Known.{Known}
use Rattle.hay_legal.specs.declared.known.VolumeKnown.{VolumeKnown}
use Rattle.hay_legal.specs.declared.turn.LaneItem.{LaneItem}
use Rattle.hay_legal.specs.declared.turn.LogNote.{LogNote}
use Rattle.hay_legal.specs.declared.turn.RowNote.{RowNote}
use Rattle.hay_legal.specs.Blocks.{LegalBlock}
use Rattle.hay_legal.specs.Known.{EachPair, replicas_of, volume_at}
use Rattle.hay_block.specs.Behind.{log_note_from}

-- the counts of all disks by slot: that of the Directory's, and those of the replicas' by volume
abbrev pub by_slot : {W : Type 0} → Settings → ℕ → (W → ℕ → ℕ) → List W → List ℕ
by_slot settings rows counts volumes = rows ∷ flat_map (λ volume. map (counts volume) (replicas_of settings)) volumes

-- each is the open volume of its number
pub record AreVolumes {W : Type 0} (is_of : W → Settings → ℕ → Type 0) (settings : Settings) (volumes : List W) : Type 0 where
  pub many : length volumes ≡ settings.volumes
  pub each : (v : ℕ) (volume : W) → slice_get volumes v ≡ Some volume → is_of volume settings v

-- no count of a disk fell, whatever the disks tell
pub record CountsRise {W F : Type 0} (settings : Settings) (faults : W → ℕ → ℕ) (row_faults : F → ℕ) (old : List W) (before : F) (new : List W) (after : F) : Type 0 where
  pub volumes : (v j : ℕ) (a b : W) → slice_get old v ≡ Some a → slice_get new v ≡ Some b → j < settings.replicas → faults a j ≤ faults b j
  pub rows : row_faults before ≤ row_faults after

-- and no fuse was set on one
pub record FusesStay {W F : Type 0} (settings : Settings) (fuses : W → ℕ → ℕ) (row_fuses : F → ℕ) (old : List W) (before : F) (new : List W) (after : F) : Type 0 where
  pub volumes : (v j : ℕ) (a b : W) → slice_get old v ≡ Some a → slice_get new v ≡ Some b → j < settings.replicas → fuses b j ≡ fuses a j
  pub rows : row_fuses after ≡ row_fuses before

module _ {W : Type 0} (stands : W → VolumeKnown → Type 0) (faults fuses : W → ℕ → ℕ) (settings : Settings) where
  -- a volume stands for all that it stood for, with the same counts of its disks
  pub record IsStill (old new : W) : Type 0 where
    pub stands_for : (known : VolumeKnown) → stands old known → stands new known
    pub faults_are : (j : ℕ) → j < settings.replicas → faults new j ≡ faults old j
    pub fuses_are : (j : ℕ) → j < settings.replicas → fuses new j ≡ fuses old j

  -- so does each, in the same order
  pub record AreStill (old new : List W) : Type 0 where
    pub many : length new ≡ length old
    pub each : (i : ℕ) (a b : W) → slice_get old i ≡ Some a → slice_get new i ≡ Some b → IsStill a b

module _ {W F A : Type 0} (stands : W → VolumeKnown → Type 0) (faults fuses : W → ℕ → ℕ) (stands_rows : F → DirKnown → List Bool → Type 0) (row_faults row_fuses : F → ℕ) (arm_faults : A → ℕ) where
  -- The volumes and the Directory stand for what is known of them, with the counts of their disks, of these lanes' arms and of the others.
  pub record StoreStands (settings : Settings) (volumes : List W) (directory : F) (arms : List A) (others : List ℕ) (k : Known) : Type 0 where
    pub many : length k.volumes ≡ length volumes
    pub each : (v : ℕ) (volume : W) → slice_get volumes v ≡ Some volume → stands volume (volume_at k v)
    pub rows : stands_rows directory k.directory k.drained
    pub faults_are : k.faults ≡ by_slot settings (row_faults directory) faults volumes
    pub fuses_are : k.fuses ≡ by_slot settings (row_fuses directory) fuses volumes
    pub arms_are : k.arms ≡ map arm_faults arms ++ others

  -- These lines are a legal block, and the store stands for what is known behind it.
  pub record RanLegally (settings : Settings) (k : Known) (items : List LaneItem) (logs : List LogNote) (rows : RowNote) (volumes : List W) (directory : F) (arms : List A)
      (others : List ℕ) : Type 0 where
    pub after : Known
    pub legal : LegalBlock settings k items logs rows after
    pub stands_for : StoreStands settings volumes directory arms others after

-- NOTES

abbrev pub line_of_tag : Tag → ℕ
line_of_tag tag = tag.line

-- the notes on volumes, from v on, by their fronts before and the lines of the changes that were entered
abbrev pub notes_from : ℕ → List ℕ → List (List ℕ) → List LogNote
notes_from v [] lines = []
notes_from v (front ∷ fronts) [] = []
notes_from v (front ∷ fronts) (own ∷ lines) = log_note_from v front own ++ notes_from (v + 1) fronts lines

-- Notes on volumes of a store that has so many: each is on a later volume than those before it, and has lines.
pub record AreUpwards (volumes : ℕ) (logs : List LogNote) : Type 0 where
  pub upwards : EachPair (λ a b. a.volume < b.volume) logs
  pub within : Each (λ log. log.volume < volumes) logs
  pub some : Each (λ log. log.lines ≢ []) logs
