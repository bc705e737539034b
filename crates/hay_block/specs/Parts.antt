-- What a block leaves of the parts of a store, and its notes.
use Rattle.std.specs.Prelude.{◌≡◌, ℕ, List, map}
use Rattle.hay_needle.specs.declared.settings.Settings.{Settings}
use Rattle.hay_legal.specs.declared.known.VolumeKnown.{VolumeKnown}
use Rattle.hay_legal.specs.declared.turn.LogNote.{LogNote}
use Rattle.hay_legal.specs.declared.turn.RowNote.{RowNote}
use Rattle.hay_block.specs.declared.store.BlockNotes.{BlockNotes}
use Rattle.hay_block.specs.declared.store.StoreParts.{StoreParts}
use Rattle.hay_block.specs.Stores.{AreStill, line_of_tag}

-- these notes tell just that: the notes on volumes, and the lines of the rows, with how many stood before
pub record NotesTell (logs : List LogNote) (rows : RowNote) (notes : BlockNotes) : Type 0 where
  pub logs_are : (notes.logs).items ≡ logs
  pub from : notes.rows ≡ rows.from
  pub added : map line_of_tag (notes.added).items ≡ map (λ row. row.line) rows.rows

-- the Directory and the arms are as before, and the volumes stand for what they stood for
pub record IsSameParts {W F A : Type 0} (stands : W → VolumeKnown → Type 0) (faults fuses : W → ℕ → ℕ) (settings : Settings) (old new : StoreParts W F A) : Type 0 where
  pub volumes : AreStill stands faults fuses settings (old.volumes).items (new.volumes).items
  pub directory : new.directory ≡ old.directory
  pub arms : (new.arms).items ≡ (old.arms).items
