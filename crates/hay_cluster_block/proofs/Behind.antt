-- What stands behind a block, and its notes.
use Rattle.std.proofs.Common.{◌≡◌, ◌≢◌, ◌++◌, ℕ, List, Vec, Global, map, length, ap, ◌∙◌, Bool, Option, flat_map, Result, Ok, Err}
use Rattle.std.specs.Prelude.{IfOk, IsErr, OnErr}
use Rattle.std.specs.List.{AllByRecursion, AllZip}
use Rattle.hay_base.specs.declared.memory.NoMemory.{NoMemory}
use Rattle.hay_needle.specs.declared.needle.Pair.{Pair}
use Rattle.hay_needle.specs.declared.settings.Settings.{Settings}
use Rattle.hay_disk.specs.Disk.{Files}
use Rattle.hay_reply.specs.declared.LineVolume.{LineVolume}
use Rattle.hay_reply.specs.declared.Note.{Note}
use Rattle.hay_reply.specs.declared.Reply.{Reply}
use Rattle.hay_reply.specs.Fits.{FitsNote}
use Rattle.hay_reply.specs.Replies.{note_line}
use Rattle.hay_legal.specs.declared.known.DirKnown.{DirKnown}
use Rattle.hay_legal.specs.declared.known.Known.{Known}
use Rattle.hay_legal.specs.declared.turn.LaneItem.{LaneItem}
use Rattle.hay_legal.specs.declared.turn.LogNote.{LogNote}
use Rattle.hay_legal.specs.declared.turn.RowNote.{RowNote}
use Rattle.hay_legal.specs.Known.{EachPair, home_in}
use Rattle.hay_legal.specs.Transcript.{log_line, row_line}
use Rattle.hay_directory.specs.State.{State, Stands, home_of}
use Rattle.hay_logical.specs.Volumes.{Volume}
use Rattle.hay_block.specs.declared.store.BlockNotes.{BlockNotes}
use Rattle.hay_block.specs.declared.worker.Job.{Job}
use Rattle.hay_block.specs.Lines.{AreItems}
use Rattle.hay_block.specs.Parts.{NotesTell}
use Rattle.hay_block.specs.Stores.{AreUpwards, AreVolumes, RanLegally, line_of_tag}
use Rattle.hay_locks.specs.Making.{DirectoryStands, rows_count_of}
use Rattle.hay_shared_volume.specs.Making.{VolumeStands, count_of}
use Rattle.hay_shared_volume.specs.Making as locks
use Rattle.hay_cluster.specs.Store.{IsShaped}
use Rattle.hay_cluster_block.proofs.Named.{rows_found}
use Rattle.hay_cluster_block.proofs.Noting.{notes_text}
use Rattle.hay_cluster_block.proofs.Standing.{made, store_stands}
use Rattle.hay_cluster_block.specs.Blocks.{RanBlock}
use Rattle.hay_cluster_block.specs.Notes.{AreBlockNotes, AreWithin, block_notes, entered_notes, entered_rows}
use Rattle.hay_cluster_block.specs.Rows.{all_jobs, rows_at}

-- the homes are those of the rows
homes_are : {D : Type 0} (files : D → Files) (directory : State D) (known : DirKnown) (drained : List Bool) → Stands files directory known drained → (pair : Pair)
    → home_of directory pair ≡ home_in known.rows pair
unfolding Stands
homes_are files directory known drained stands pair = stands.homes pair

-- the notes that are written tell of what was entered
pub notes_tell : (home : Pair → Option ℕ) (jobs : List (Vec Job Global)) (logs : List LogNote) (rows : RowNote)
    → rows_at home (all_jobs jobs) (map (λ (row : LineVolume). row.line) rows.rows) ≡ rows.rows
    → (entered : Result BlockNotes NoMemory) (told : Result (Vec Note Global) NoMemory) → IfOk entered (NotesTell logs rows)
    → IfOk entered (λ e. IfOk told (λ notes. notes.items ≡ entered_notes home jobs e)) → OnErr entered (IsErr told) → IfOk told (λ notes. notes.items ≡ block_notes logs rows)
notes_tell home jobs logs rows found (Ok e) (Ok notes) tells are wanted =
    let note : ℕ → List LineVolume → RowNote = λ from named. record { from = from; rows = named } in
    let lines = map line_of_tag e.added.items in
    are ∙ (ap (λ z. block_notes z (note e.rows (rows_at home (all_jobs jobs) lines))) tells.logs_are
    ∙ (ap (λ z. block_notes logs (note z (rows_at home (all_jobs jobs) lines))) tells.from
    ∙ (ap (λ z. block_notes logs (note rows.from (rows_at home (all_jobs jobs) z))) tells.added ∙ ap (λ z. block_notes logs (note rows.from z)) found)))
notes_tell home jobs logs rows found (Ok e) (Err error) tells are wanted = tt
notes_tell home jobs logs rows found (Err error) (Ok notes) tells are wanted = absurd cc
notes_tell home jobs logs rows found (Err error) (Err other) tells are wanted = tt

-- and their text is that of the notes
pub text_of : (logs : List LogNote) (rows : RowNote) (told : Result (Vec Note Global) NoMemory) → IfOk told (λ notes. notes.items ≡ block_notes logs rows)
    → IfOk told (λ notes. flat_map note_line notes.items ≡ flat_map log_line logs ++ row_line rows.from rows.rows)
text_of logs rows (Ok notes) are = ap (flat_map note_line) are ∙ notes_text logs rows
text_of logs rows (Err error) are = tt

-- whatever the disks tell, they are notes of a block
pub notes_of_block : (volumes : ℕ) (home : Pair → Option ℕ) (jobs : List (Vec Job Global)) (entered : Result BlockNotes NoMemory) (told : Result (Vec Note Global) NoMemory)
    → IfOk entered (λ e. AreUpwards volumes e.logs.items) → IfOk entered (λ e. IfOk told (λ notes. AreWithin volumes (entered_rows home jobs e)))
    → IfOk entered (λ e. IfOk told (λ notes. notes.items ≡ entered_notes home jobs e)) → OnErr entered (IsErr told) → IfOk told (λ notes. AllByRecursion FitsNote notes.items)
    → IfOk told (λ notes. AreBlockNotes volumes notes.items × AllByRecursion FitsNote notes.items)
notes_of_block volumes home jobs (Ok e) (Ok notes) upwards within are wanted fit =
    (record { logs = e.logs.items; rows = record { from = e.rows; rows = entered_rows home jobs e }; upwards = upwards; within = within; are = are }, fit)
notes_of_block volumes home jobs (Ok e) (Err error) upwards within are wanted fit = tt
notes_of_block volumes home jobs (Err error) (Ok notes) upwards within are wanted fit = absurd cc
notes_of_block volumes home jobs (Err error) (Err other) upwards within are wanted fit = tt

module _ {D P A : Type 0} (DiskTells : Type 0) (files : D → Files) (Tells : Type 0) (faults fuses : D → ℕ) (arm_faults : A → ℕ) (settings : Settings)
    (jobs : List (Vec Job Global)) (replies : List (Vec Reply Global)) where
  -- a block that ran on a store's parts ran on the store
  pub ran_block : (directory : State D) (volumes : List (Volume D P)) (arms first others : List A) → IsShaped (made settings directory volumes arms) → AreVolumes locks.IsVolumeOf settings volumes
      → arms ≡ first ++ others → AllZip (λ (js : Vec Job Global) (rs : Vec Reply Global). length js.items ≡ length rs.items) jobs replies
      → (entered : Result BlockNotes NoMemory) (told : Result (Vec Note Global) NoMemory)
      → IfOk entered (λ e. IfOk told (λ notes. notes.items ≡ entered_notes (home_of directory) jobs e)) → OnErr entered (IsErr told)
      → (k : Known) (items : List LaneItem) → AreItems (map (λ (js : Vec Job Global). js.items) jobs) (map (λ (rs : Vec Reply Global). rs.items) replies) items
      → EachPair (λ a b. a.line ≢ b.line) items → (logs : List LogNote) (rows : RowNote) → IfOk entered (NotesTell logs rows)
      → RanLegally (VolumeStands DiskTells files Tells) (count_of faults) (count_of fuses) (DirectoryStands DiskTells files) (rows_count_of faults) (rows_count_of fuses) arm_faults
      settings k items logs rows volumes directory first (map arm_faults others)
      → RanBlock files Tells faults fuses arm_faults k items told (made settings directory volumes arms)
  ran_block directory volumes arms first others shape are split replied entered told tells_are wanted k items are_items distinct logs rows tells ran =
      let t : Known = ran.after in
      let notes_are = notes_tell (home_of directory) jobs logs rows
      (rows_found jobs replies replied are_items distinct settings k t (home_of directory) (homes_are files directory t.directory t.drained ran.stands_for.rows.stands) rows ran.legal.homes)
      entered told tells tells_are wanted in
      record {
        logs = logs;
        rows = rows;
        known = t;
        legal = ran.legal;
        notes_are = notes_are;
        text_is = text_of logs rows told notes_are;
        stands = store_stands DiskTells files Tells faults fuses arm_faults settings directory volumes arms first others shape are split t ran.stands_for;
      }
