-- What a load of a script tells, and what it leaves of the disks, at each status.
use Rattle.std.specs.Prelude.{◌≡◌, ◌≢◌, ◌⊎◌, ◌<◌, ◌≤◌, ◌+◌, ℕ, List, [], ◌∷◌, ◌++◌, length, take, map, All, Option, Some, None, Result, Ok, Err}
use Rattle.std.specs.List.{AllByRecursion}
use Rattle.hay_needle.specs.declared.settings.Settings.{Settings}
use Rattle.hay_disk.specs.Counts.{Rose}
use Rattle.hay_disk.specs.Disk.{MayLeave}
use Rattle.hay_disk.specs.Shelf.{HeldDisk}
use Rattle.hay_disk.specs.Streams.{Took, Wrote, WrotePart}
use Rattle.hay_script.specs.declared.Line.{Line}
use Rattle.hay_script.specs.Script.{line_of, lines_of}
use Rattle.hay_reply.specs.declared.Note.{Note}
use Rattle.hay_reply.specs.declared.Note.TheVariants.{OpenShelf, OpenFailed, OpenDamaged}
use Rattle.hay_reply.specs.declared.Reply.{Reply}
use Rattle.hay_reply.specs.Fits.{FitsNote, FitsReply}
use Rattle.hay_reply.specs.Replies.{header_line, note_line}
use Rattle.hay_needle.specs.Tables.{look, rows_of}
use Rattle.hay_script.specs.declared.words.TheConstants.{MAX_SCRIPT}
use Rattle.hay_volume.specs.Cells.{needles_of}
use Rattle.hay_open.specs.Stored.{IsSlotFile, OpensAs, Stored}
use Rattle.hay_dirfile.specs.declared.row.DirRow.{DirRow}
use Rattle.hay_batch.specs.declared.photo.NewPhoto.{NewPhoto}
use Rattle.hay_batch.specs.Batches.{shown_of}
use Rattle.hay_batch.specs.Homes.{home_in}
use Rattle.hay_batch.specs.Replicas.{At}
use Rattle.hay_batch.specs.Shelves.{AreSoundBelow, IsDamagedDisk, IsLeft, IsUndamagedBelow, OpensRows, OpensStore, StoredStore, disk_count, reads_of, replica_super, slot_of}
use Rattle.hay_load.specs.declared.reply.LoadReply.{LoadReply}
use Rattle.hay_load.specs.declared.reply.LoadReply.TheVariants.{Loaded, Other}
use Rattle.hay_load.specs.Answers.{AnswersAll, MayLoad, Remembered, SuitAll, remembered_of, reply_lines}
use Rattle.hay_legal.specs.Items.{fed_part}
use Rattle.hay_load.specs.Gathering.{Group, Batch, Bad, OpenBatch, groups_of, line_step}
use Rattle.hay_load.specs.Loads.{IsFailed, LeavesFirst}
use Rattle.hay_load.specs.Replies.{FitsLoad, load_line}
use Rattle.hay_loading.specs.declared.stops.Stop.{Stop}
use Rattle.hay_loading.specs.declared.stops.Stop.TheVariants as stop

-- THE GROUPS OF A SCRIPT

-- what a line says outside of a block
abbrev pub says : List ℕ → Line
says text = line_of None text

-- the batches and bad lines of a script
abbrev pub script_groups : Settings → List ℕ → List Group
script_groups settings script = groups_of settings (map says (lines_of script))

-- what lines end of which the first has this number, behind an open batch: a batch that is open behind them may go on
abbrev pub ended_from : Settings → ℕ → Option OpenBatch → List Line → List Group
ended_from settings number held [] = []
ended_from settings number held (said ∷ lines) =
    let step = line_step settings number held said in step.groups ++ ended_from settings (number + 1) step.held lines

-- the batches and bad lines that end with the lines of these bytes that a line feed ends
abbrev pub groups_before : Settings → List ℕ → List Group
groups_before settings read = ended_from settings 1 None (map says (lines_of (fed_part read)))

-- These bytes of a script were read and no more, or one byte more.
abbrev pub ReadFront : List ℕ → List ℕ → Option (List ℕ) → Type 0
ReadFront script read left = Took (Some script) read left

abbrev pub ReadOver : List ℕ → List ℕ → Option (List ℕ) → Type 0
ReadOver script read left = (byte : ℕ) × Took (Some script) (read ++ byte ∷ []) left

-- these are the first of all
abbrev pub IsFront : List Group → List Group → Type 0
IsFront front all = (rest : List Group) × (all ≡ front ++ rest)

-- A front of a script was read, and these groups come of it: they end with its lines that a line feed ends, or it is the whole script.
pub record ReadsTo (settings : Settings) (script : List ℕ) (left : Option (List ℕ)) (groups : List Group) : Type 0 where
  pub read : List ℕ
  pub bytes : ReadFront script read left
  pub ends : IsFront groups (groups_before settings read) ⊎ ((read ≡ script) × IsFront groups (script_groups settings script))

-- how many of them are batches
abbrev pub batch_count : List Group → ℕ
batch_count [] = 0
batch_count (Batch line photos ∷ groups) = 1 + batch_count groups
batch_count (Bad line ∷ groups) = batch_count groups

-- THE TEXT

-- the header, and the lines of these replies
abbrev pub load_text : Settings → List Group → List LoadReply → List ℕ
load_text settings groups replies = header_line settings ++ reply_lines groups replies

-- a text was written and all of another behind it, or a front of the other
abbrev pub WroteBoth : Option (List ℕ) → List ℕ → List ℕ → Option (List ℕ) → Type 0
WroteBoth before text more after = Wrote before (text ++ more) after

abbrev pub WroteThen : Option (List ℕ) → List ℕ → List ℕ → Option (List ℕ) → Type 0
WroteThen before text more after = (n : ℕ) × Wrote before (text ++ take n more) after

-- THE DISKS

-- what a stop may leave of the disks of a store, by slot and file
abbrev pub MayLeaveSlots : Settings → (ℕ → HeldDisk) → (ℕ → ℕ → List ℕ) → Type 0
MayLeaveSlots settings disks image = (slot : ℕ) → slot < disk_count settings → MayLeave (disks slot).files (image slot)

-- An opening of these contents finds that the photo is kept in this volume, and on each replica of it that the last needle of the
-- pair is that of the photo.
pub record StandsIn (settings : Settings) (image : ℕ → ℕ → List ℕ) (volume : ℕ) (photo : NewPhoto) : Type 0 where
  pub rows : List DirRow
  pub opens : OpensRows settings (image 0 0) rows
  pub home : home_in rows photo.pair ≡ Some volume
  pub replicas : (j : ℕ) → j < settings.replicas → (stored : Stored) × OpensAs (replica_super settings volume j) (image (slot_of settings volume j)) stored
      × (look (rows_of (needles_of stored.cells)) photo.pair ≡ shown_of photo)

-- each photo of each batch that these replies tell as loaded does so
abbrev pub AllStandIn : Settings → List Group → List LoadReply → (ℕ → ℕ → List ℕ) → Type 0
AllStandIn settings groups replies image =
    (i line volume count rows : ℕ) (photos : List NewPhoto) (k : ℕ) (photo : NewPhoto) → At groups i (Batch line photos) → At replies i (Loaded volume count rows) → At photos k photo
    → StandsIn settings image volume photo

-- no count of faults falls, and no fuse was set
pub record CountsOn (old new : HeldDisk) : Type 0 where
  pub faults_rise : old.fault_count ≤ new.fault_count
  pub fuses_are : new.fuse_count ≡ old.fuse_count

-- Where a disk may fail while a batch is loaded: no photo of it has a home, and the slot is that of the Directory, or that of a replica of
-- the first try with room.
pub record MayFailAt (settings : Settings) (known : Remembered) (photos : List NewPhoto) (slot : ℕ) : Type 0 where
  pub volume : ℕ
  pub loads : MayLoad settings known photos volume
  pub disk : (slot ≡ 0) ⊎ ((j : ℕ) × (j < settings.replicas) × (slot ≡ slot_of settings volume j))

-- WHAT IS REMEMBERED

-- What is remembered of a store as it is opened on these contents, whatever the disks tell: each row names a volume that there is, and the
-- cells of each replica end behind the superblock. Where the disks tell, the rows are those of the journal, and the cells of each replica that
-- is void or whole end where they do.
pub record Begins (Tells : Type 0) (settings : Settings) (contents : ℕ → ℕ → List ℕ) (first : Remembered) : Type 0 where
  pub within : All (λ (row : DirRow). row.volume < settings.volumes) first.rows
  pub reads : Tells → OpensRows settings (contents 0 0) first.rows
  pub from : (v j : ℕ) → v < settings.volumes → j < settings.replicas → 64 ≤ first.ends v j
  pub found : Tells → (v j : ℕ) (s : Stored) → v < settings.volumes → j < settings.replicas
      → OpensAs (replica_super settings v j) (contents (slot_of settings v j)) s → first.ends v j ≡ s.end

-- HOW A LOAD ENDS

abbrev pub IsStatus : ℕ → Type 0
IsStatus status = (status ≡ 0) ⊎ (status ≡ 3) ⊎ (status ≡ 4) ⊎ (status ≡ 5) ⊎ (status ≡ 6) ⊎ (status ≡ 7)

-- A load of a script on disks that are taken and given back, by a shelf with this count of faults and then that, while a sink goes
-- from what it held to what it holds.
module _ (Tells : Type 0) (settings : Settings) (script : List ℕ) (old new : ℕ → HeldDisk) (shelf shelf' : ℕ) (before after : Option (List ℕ)) where
  -- The first groups of the script were answered by these replies, each of which suits what is remembered before it, whatever the disks tell;
  -- and what the disks had became what is stored then, and behind these groups come those that are next. In whatever a stop leaves of the
  -- disks an opening finds that; or, where the first of the next groups is a batch of which no photo has a home, perhaps that with this
  -- whole batch in the first try with room, and never a row of a part of it. All batches that were told as loaded stand there.
  pub record Answers (groups : List Group) (replies : List LoadReply) (next : List Group) : Type 0 where
    pub front : IsFront (groups ++ next) (script_groups settings script)
    pub first : Remembered
    pub begins : Begins Tells settings (reads_of old) first
    pub known : Remembered
    pub suited : SuitAll settings first groups replies known
    pub fit : AllByRecursion FitsLoad replies
    pub answers : Tells → (s : StoredStore) → OpensStore settings (reads_of old) s →
        (t : StoredStore) × AnswersAll settings s groups replies t
        × ((image : ℕ → ℕ → List ℕ) → MayLeaveSlots settings new image → LeavesFirst settings next image t × AllStandIn settings groups replies image)

  -- all groups of the script were answered, and all was written
  pub record LoadsAll : Type 0 where
    pub replies : List LoadReply
    pub answers : Answers (script_groups settings script) replies []
    pub wrote : Wrote before (load_text settings (script_groups settings script) replies) after

  -- These first groups were answered, and this was written. Of the next nothing was, and none is loaded.
  pub record HaltsAt (groups : List Group) : Type 0 where
    pub replies : List LoadReply
    pub answers : Answers groups replies []
    pub wrote : Wrote before (load_text settings groups replies) after

  abbrev pub Halts : Type 0
  Halts = (groups : List Group) × HaltsAt groups

  -- So it is of just those that end with the lines that were read.
  pub record HaltsBehind (Read : List ℕ → Type 0) : Type 0 where
    pub read : List ℕ
    pub bytes : Read read
    pub halts : HaltsAt (groups_before settings read)

  -- The same, but that the next batch may be loaded, of lines that were read.
  pub record Wants (rest : Option (List ℕ)) : Type 0 where
    pub groups : List Group
    pub replies : List LoadReply
    pub next : List Group
    pub reads : ReadsTo settings script rest (groups ++ next)
    pub answers : Answers groups replies next
    pub wrote : Wrote before (load_text settings groups replies) after

  -- The first groups, of lines that were read, were answered, and this was written but for the last lines, of which one is of a batch.
  pub record CutsShort (rest : Option (List ℕ)) : Type 0 where
    pub groups : List Group
    pub replies : List LoadReply
    pub last : List Group
    pub reads : ReadsTo settings script rest (groups ++ last)
    pub others : List LoadReply
    pub many : length replies ≡ length groups
    pub some : last ≢ []
    pub one : batch_count last ≤ 1
    pub answers : Answers (groups ++ last) (replies ++ others) []
    pub wrote : WroteThen before (load_text settings groups replies) (reply_lines last others) after

  -- The first groups were answered, and a disk failed while the next batch was loaded, where one may by what is remembered then, and by what
  -- is stored. Its count rose to the one that is told. The lines of that batch were read.
  pub record Breaks (rest : Option (List ℕ)) (Writes : Option (List ℕ) → List ℕ → List ℕ → Option (List ℕ) → Type 0) : Type 0 where
    pub groups : List Group
    pub replies : List LoadReply
    pub line : ℕ
    pub photos : List NewPhoto
    pub reads : ReadsTo settings script rest (groups ++ Batch line photos ∷ [])
    pub answers : Answers groups replies (Batch line photos ∷ [])
    pub slot : ℕ
    pub faults : ℕ
    pub within : slot < disk_count settings
    pub may : MayFailAt settings answers.known photos slot
    pub may_stored : Tells → (s t : StoredStore) → OpensStore settings (reads_of old) s → AnswersAll settings s groups replies t → MayFailAt settings (remembered_of t) photos slot
    pub rose : Rose (old slot).fault_count (new slot).fault_count
    pub count : faults ≡ (new slot).fault_count
    pub reply : Reply
    pub fits : FitsReply reply
    pub failed : IsFailed settings slot faults reply
    pub wrote : Writes before (load_text settings groups replies) (load_line line (Other reply)) after

  -- Why the store was not opened, as it is told: the shelf failed, and its count rose to the one that is told; a disk failed, and
  -- none in a lower slot was damaged; or the disk in a slot is damaged at the place that is told, as it was taken and as it was
  -- given back, in a file that this slot's disk may have. The disks in lower slots are given back formatted and not damaged.
  abbrev pub IsRefusal : Note → Type 0
  IsRefusal note =
      ((count : ℕ) × (note ≡ OpenShelf count) × Rose shelf shelf' × (count ≡ shelf'))
      ⊎ ((slot : ℕ) × (count : ℕ) × (note ≡ OpenFailed slot count) × (slot < disk_count settings)
      × Rose (old slot).fault_count (new slot).fault_count × (count ≡ (new slot).fault_count)
      × (Tells → IsUndamagedBelow settings slot (reads_of old) × AreSoundBelow settings slot (reads_of new)))
      ⊎ ((slot : ℕ) × (file : ℕ) × (at : ℕ) × (note ≡ OpenDamaged slot file at) × (slot < disk_count settings) × IsSlotFile slot file
      × (Tells → IsDamagedDisk settings (reads_of old) slot file at × IsDamagedDisk settings (reads_of new) slot file at × AreSoundBelow settings slot (reads_of new)))

  -- each disk is as it was, or was void, and whatever a stop leaves of it an opening finds nothing
  abbrev pub AreLeft : Type 0
  AreLeft = (slot : ℕ) → slot < disk_count settings → IsLeft Tells slot (old slot) (new slot)

  -- the store was not opened, as is told behind the header, and nothing of the script was read
  pub record Refuses (rest : Option (List ℕ)) (Writes : Option (List ℕ) → List ℕ → List ℕ → Option (List ℕ) → Type 0) : Type 0 where
    pub note : Note
    pub fits : FitsNote note
    pub why : IsRefusal note
    pub left : AreLeft
    pub unread : rest ≡ Some script
    pub wrote : Writes before (header_line settings) (note_line note) after

  -- it was not, and no more than the header was written
  pub record Unopened (rest : Option (List ℕ)) : Type 0 where
    pub left : AreLeft
    pub unread : rest ≡ Some script
    pub wrote : WrotePart before (header_line settings) after

  -- what was done, by what the source has left and why the load stopped
  abbrev pub Ends : Option (List ℕ) → Result (Unit {0}) Stop → Type 0
  Ends rest (Ok done) = LoadsAll
  Ends rest (Err stop.Output) = Unopened rest ⊎ Refuses rest WroteThen ⊎ CutsShort rest ⊎ Breaks rest WroteThen
  Ends rest (Err stop.Input) = Halts
  Ends rest (Err stop.NoMemory) = Unopened rest ⊎ Wants rest
  Ends rest (Err stop.Store) = Refuses rest WroteBoth ⊎ Breaks rest WroteBoth
  Ends rest (Err stop.TooLong) = Halts

  -- What was done at each status.
  pub record LoadsTo (rest : Option (List ℕ)) (status : ℕ) : Type 0 where
    pub all : status ≡ 0 → LoadsAll
    pub output : status ≡ 3 → Unopened rest ⊎ Refuses rest WroteThen ⊎ CutsShort rest ⊎ Breaks rest WroteThen
    pub input : status ≡ 4 → Halts
    pub memory : status ≡ 5 → Unopened rest ⊎ Wants rest
    pub store : status ≡ 6 → Refuses rest WroteBoth ⊎ Breaks rest WroteBoth
    pub long : status ≡ 7 → Halts
