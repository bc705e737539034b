-- What a block of lines leaves of a store.
use Rattle.std.specs.Prelude.{◌≡◌, ℕ, List, ◌++◌, map, flat_map, IfOk, Result, Vec}
use Rattle.std.specs.Global.{Global}
use Rattle.hay_base.specs.declared.memory.NoMemory.{NoMemory}
use Rattle.hay_disk.specs.Disk.{Files}
use Rattle.hay_reply.specs.declared.Note.{Note}
use Rattle.hay_reply.specs.Replies.{note_line}
use Rattle.hay_legal.specs.declared.known.Known.{Known}
use Rattle.hay_legal.specs.declared.turn.LaneItem.{LaneItem}
use Rattle.hay_legal.specs.declared.turn.LogNote.{LogNote}
use Rattle.hay_legal.specs.declared.turn.RowNote.{RowNote}
use Rattle.hay_legal.specs.Blocks.{LegalBlock}
use Rattle.hay_legal.specs.Transcript.{log_line, row_line}
use Rattle.hay_cluster.specs.State.{Stands}
use Rattle.hay_cluster.specs.Store.{Open, disks_of}
use Rattle.hay_cluster_block.specs.Notes.{block_notes}

-- The lines are a legal block of what was known, with these notes, whose text is that of such a block, and the store stands for what is known
-- behind it.
pub record RanBlock {D P A : Type 0} (files : D → Files) (Tells : Type 0) (faults fuses : D → ℕ) (arm_faults : A → ℕ) (k : Known) (items : List LaneItem)
    (notes : Result (Vec Note Global) NoMemory) (store : Open D P A) : Type 0 where
  pub logs : List LogNote
  pub rows : RowNote
  pub known : Known
  pub legal : LegalBlock store.settings k items logs rows known
  pub notes_are : IfOk notes (λ told. told.items ≡ block_notes logs rows)
  pub text_is : IfOk notes (λ told. flat_map note_line told.items ≡ flat_map log_line logs ++ row_line rows.from rows.rows)
  pub stands : Stands files Tells faults fuses arm_faults store known

-- A store stands for what it stood for. Whatever the disks tell, the Directory with its disk and the arms are as before, and no count of a disk
-- changed.
pub record StaysAs {D P A : Type 0} (DiskTells : Type 0) (files : D → Files) (Tells : Type 0) (faults fuses : D → ℕ) (arm_faults : A → ℕ) (old new : Open D P A) : Type 0 where
  pub stands : DiskTells → (k : Known) → Stands files Tells faults fuses arm_faults old k → Stands files Tells faults fuses arm_faults new k
  pub directory_is : new.directory ≡ old.directory
  pub faults_are : map faults (disks_of new) ≡ map faults (disks_of old)
  pub fuses_are : map fuses (disks_of new) ≡ map fuses (disks_of old)
  pub arms_are : new.arms ≡ old.arms
