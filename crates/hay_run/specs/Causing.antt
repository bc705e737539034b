-- What is written has its causes, whatever the disks tell.
use Rattle.std.specs.Prelude.{◌≡◌, ◌≢◌, ◌⊎◌, ℕ, ◌<◌, ◌≤◌, slice_get, slice_index, List, [], ◌∷◌, ◌++◌, length, Option, Some, None, Bool, true, false, map, flat_map, Result, Ok, Err}
use Rattle.std.specs.List.{AllByRecursion}
use Rattle.hay_disk.specs.Disk.{Files}
use Rattle.hay_disk.specs.Shelf.{HeldDisk}
use Rattle.hay_disk.specs.Streams.{Wrote, WrotePart}
use Rattle.hay_needle.specs.declared.settings.Settings.{Settings}
use Rattle.hay_script.specs.declared.Command.{Command}
use Rattle.hay_script.specs.declared.Command.TheVariants as asks
use Rattle.hay_core.specs.declared.entry.CoreTag.{CoreTag}
use Rattle.hay_reply.specs.declared.Note.{Note}
use Rattle.hay_reply.specs.declared.Note.TheVariants.{Kept, Lost, KeptDir, LostDir, Log, Rows, OpenShelf, OpenFailed, OpenDamaged}
use Rattle.hay_reply.specs.declared.Reply.{Reply}
use Rattle.hay_reply.specs.declared.Reply.TheVariants.{BadLine, NoMem, Restarted}
use Rattle.hay_reply.specs.Fits.{FitsNote, FitsReply}
use Rattle.hay_reply.specs.Replies.{header_line, note_line, numbered_line}
use Rattle.hay_legal.specs.declared.turn.Item.TheVariants as item
use Rattle.hay_legal.specs.Items.{Asked, InBlock, items_of, items_before}
use Rattle.hay_legal.specs.Items.Asked.{Alone, Block}
use Rattle.hay_legal.specs.Known.{NoneFalls, disk_count}
use Rattle.hay_legal.specs.Stands.{Contents, Outside}
use Rattle.hay_legal.specs.Statuses.{Ending, IsFront, read_contents}
use Rattle.hay_legal.specs.Statuses.Ending.{ReadAll, OutputFault, InputFault, NoMemory, NotOpened, TooLong}
use Rattle.hay_legal.specs.Suiting.{Suits}
use Rattle.hay_cluster.specs.Causes.{Counts, EndsRuns, HasFile, IsCaused, LeavesFuses, RoseIn}
use Rattle.hay_cluster.specs.Draws.{drawn_in}
use Rattle.hay_cluster.specs.Leaving.{LeavesContents}
use Rattle.hay_cluster.specs.Needles.{MeetsNeedles, PendingTold, PhotosStand, TellsDamage}
use Rattle.hay_cluster.specs.Outside.{AreSoundBelow, FormatsVoid, IsDamagedDisk, IsKept, IsUndamaged, KeepsContents}
use Rattle.hay_cluster.specs.Passing.{PassesBefore}
use Rattle.hay_cluster.specs.Seen.{Answers, OpensSeen, ReadsEach, ReadsSeen, StoreSeen, TellsSeen, home_seen, store_seen}
use Rattle.hay_cluster.specs.Sights.{LeavesSights}
use Rattle.hay_cluster.specs.Store.{Open, contents_in, disks_of}
use Rattle.hay_run.specs.declared.stops.Stop.{Stop}
use Rattle.hay_run.specs.declared.stops.Stop.TheVariants as stop
use Rattle.hay_run.specs.Blocks.{AreBad, IsBlockText, bad_text}
use Rattle.hay_run.specs.Items.{TookItems, TookOpen, AsksAll}
use Rattle.hay_lines.specs.Lines.{TookPart, TookOver, TookSome}
use Rattle.hay_run.specs.Runs.{IsFirstRefusal, ReadBytes}
use Rattle.hay_run.specs.Stops.{ending_of}
use Rattle.hay_lines.specs.Stream.{Held, rest_of}
use Rattle.hay_run.specs.Turns.{Writing, HoldsNone}

-- What is seen of a store: how many calls of each disk and fetches of each arm failed, how many fuses were set on each disk, which
-- arms are sure, what is seen of its volumes, its Directory and its photos in memory, what reads of the disk in each slot give, and how many bytes
-- were read of each of its files.
pub record Tally : Type 0 where
  pub counts : Counts
  pub fuses : List ℕ
  pub sure : List Bool
  pub seen : StoreSeen
  pub contents : ℕ → Contents
  pub drawn : ℕ → ℕ → ℕ

abbrev pub tally_of : {D P A : Type 0} → (D → Files) → (D → ℕ → ℕ) → (D → ℕ) → (D → ℕ) → (A → ℕ) → (A → Bool) → Open D P A → Tally
tally_of files drawn faults fuses arm_faults sure store = record {
  counts = record { disks = map faults (disks_of store); arms = map arm_faults store.arms };
  fuses = map fuses (disks_of store);
  sure = map sure store.arms;
  seen = store_seen store;
  contents = contents_in files store;
  drawn = drawn_in drawn store;
}

-- the arm of this lane is sure
abbrev pub HasSureArm : Tally → ℕ → Type 0
HasSureArm tally lane = slice_get tally.sure lane ≡ Some true

-- no count of failures falls, and an arm that is sure stays so
abbrev pub IsLaterTally : Tally → Tally → Type 0
IsLaterTally before after =
    NoneFalls before.counts.disks after.counts.disks × NoneFalls before.counts.arms after.counts.arms × ((lane : ℕ) → HasSureArm before lane → HasSureArm after lane)

-- THE TEXT OF ITEMS

-- What a restart reads of disks that tell: nothing is damaged, and no place of a deletion that was pending was left not looked at where a
-- needle of its size stands. The store is seen as the disks have it then, as it is behind a first opening.
pub record ReadsAgain (settings : Settings) (before after : Tally) : Type 0 where
  pub sound : IsUndamaged settings after.contents
  pub pending : PendingTold settings after.contents before.seen after.seen
  pub reads : ReadsSeen settings after.contents after.seen
  pub reads_each : ReadsEach settings after.contents after.seen
  pub live : PhotosStand settings after.contents after.seen

-- the text of a restart: its reply, with how many rows are seen then, and the notes behind it, which tell of all that was pending whether it was kept, with
-- numbers of their types; nothing is pending or closed then
abbrev pub IsRestartText : Type 0 → Settings → Tally → Tally → Command → ℕ → List ℕ → Type 0
IsRestartText Tells settings before after command number text =
    (pick : ℕ) × (rows : ℕ) × (notes : List Note) × (command ≡ asks.Restart pick) × FitsReply (Restarted rows) × TellsSeen settings before.seen after.seen notes × AllByRecursion FitsNote notes
    × OpensSeen settings after.seen × (rows ≡ (after.seen).directory.rows) × (after.counts.arms ≡ before.counts.arms)
    × (text ≡ numbered_line number (Restarted rows) ++ flat_map note_line notes) × (Tells → ReadsAgain settings before after)

-- the line of a command outside blocks
abbrev pub plain_tag : ℕ → CoreTag
plain_tag number = record { lane = 0; line = number }

-- The text of another command: a reply with numbers of their types, which the command of this line may be given, which tells of a
-- disk's failure only where the count that it prints rose, and what a replica shows only where each one that is tried before it was
-- passed over for its cause, never for an arm that was sure; by which it is known what was seen of the store in memory before it and how
-- it changed that, and which disks have what they had; and the damage that it tells stands there, and no damage is met without being told.
pub record IsReplyText (Tells : Type 0) (settings : Settings) (before after : Tally) (command : Command) (number : ℕ) (text : List ℕ) : Type 0 where
  pub plain : (pick : ℕ) → command ≢ asks.Restart pick
  pub said : Reply
  pub fits : FitsReply said
  pub suits : Suits settings number command said
  pub caused : IsCaused settings before.counts.disks after.counts.disks said
  pub passes : PassesBefore Tells settings (HasSureArm before 0) after.contents (plain_tag number) command before.counts after.counts after.seen said
  pub answers : Answers settings (plain_tag number) command said before.seen after.seen
  pub sights : LeavesSights settings command said before.seen after.seen
  pub ended : EndsRuns settings said before.seen after.seen before.counts.disks after.counts.disks
  pub contents : Tells → LeavesContents settings command said (before.seen).volumes (after.seen).volumes before.contents after.contents
  pub damaged : Tells → TellsDamage settings before.contents before.seen command said
  pub told : Tells → MeetsNeedles settings before.contents before.seen after.seen command said
  pub is : text ≡ numbered_line number said

-- The text answers the item, while the counts went from these to those. A fuse is set by its command alone, outside of blocks. A block
-- without a command leaves the whole store as it was, and is told that each of its lines is bad, with no note behind them.
abbrev pub IsTextOf : Type 0 → Settings → Tally → Tally → Asked → List ℕ → Type 0
IsTextOf Tells settings before after (Alone number (item.Command command)) text =
    LeavesFuses settings command before.fuses after.fuses × (IsRestartText Tells settings before after command number text ⊎ IsReplyText Tells settings before after command number text)
IsTextOf Tells settings before after (Alone number item.Bad) text = (after ≡ before) × (text ≡ numbered_line number BadLine)
IsTextOf Tells settings before after (Block lines) text =
    (after.fuses ≡ before.fuses) × (AreBad lines → (after ≡ before) × (text ≡ flat_map bad_text lines))
    × IsBlockText settings (HasSureArm before) before.counts after.counts (home_seen after.seen) lines text

-- one text after another answers the items
abbrev pub AnswerTexts : Type 0 → Settings → Tally → Tally → List Asked → List ℕ → Type 0
AnswerTexts Tells settings before after [] text = (text ≡ []) × (after ≡ before)
AnswerTexts Tells settings before after (asked ∷ others) text =
    (mid : Tally) × (first : List ℕ) × (rest : List ℕ) × (text ≡ first ++ rest) × IsLaterTally before mid
    × IsTextOf Tells settings before mid asked first × AnswerTexts Tells settings mid after others rest

-- such a text was written, or so much of it
pub record Caused (Tells : Type 0) (Writes : Writing) (settings : Settings) (before after : Tally) (asked : List Asked) (written written' : Option (List ℕ)) : Type 0 where
  pub text : List ℕ
  pub answers : AnswerTexts Tells settings before after asked text
  pub wrote : Writes written text written'

-- HOW A TURN STOPS

abbrev pub IsRestart : List Asked → Type 0
IsRestart asked = (number : ℕ) × (pick : ℕ) × (asked ≡ Alone number (item.Command (asks.Restart pick)) ∷ [])

-- the disks were not opened again: no count fell, no arm was used and no fuse set
pub record NotReopened (before after : Tally) (asked : List Asked) : Type 0 where
  pub restart : IsRestart asked
  pub disks : NoneFalls before.counts.disks after.counts.disks
  pub arms : after.counts.arms ≡ before.counts.arms
  pub fuses : after.fuses ≡ before.fuses

-- a note tells why: the disk in a slot failed, and its count rose to the one that is told; or the disk in a slot is damaged at the place
-- that is told; each in a lower slot is formatted and not damaged
abbrev pub IsNoteCaused : Type 0 → Settings → Tally → Tally → Note → Type 0
IsNoteCaused Tells settings before after (OpenFailed slot count) =
    (slot < disk_count settings) × RoseIn slot before.counts.disks after.counts.disks count × (Tells → AreSoundBelow settings slot after.contents)
IsNoteCaused Tells settings before after (OpenDamaged slot file at) =
    HasFile settings slot file × (Tells → IsDamagedDisk settings after.contents slot file at × AreSoundBelow settings slot after.contents)
IsNoteCaused Tells settings before after (OpenShelf count) = ⊥
IsNoteCaused Tells settings before after (Kept v m line) = ⊥
IsNoteCaused Tells settings before after (Lost v m line) = ⊥
IsNoteCaused Tells settings before after (KeptDir line) = ⊥
IsNoteCaused Tells settings before after (LostDir line) = ⊥
IsNoteCaused Tells settings before after (Log v from lines) = ⊥
IsNoteCaused Tells settings before after (Rows from rows) = ⊥

-- a restart was refused, and so much was written of the line of the note that tells why, with numbers of their types
abbrev pub ToldRefusal : Type 0 → Writing → Settings → Tally → Tally → List Asked → Option (List ℕ) → Option (List ℕ) → Type 0
ToldRefusal Tells Writes settings before after asked written written' =
    NotReopened before after asked × ((note : Note) × FitsNote note × IsNoteCaused Tells settings before after note × Writes written (note_line note) written')

-- a restart wanted memory, and a front of its reply was written
abbrev pub ToldWanting : Tally → Tally → List Asked → Option (List ℕ) → Option (List ℕ) → Type 0
ToldWanting before after asked written written' =
    (not : NotReopened before after asked) × WrotePart written (numbered_line not.restart.0 NoMem) written'

-- what a run that stops has written of the last item
abbrev pub StopCaused : Type 0 → Settings → Tally → Tally → Stop → List Asked → Option (List ℕ) → Option (List ℕ) → Type 0
StopCaused Tells settings before after stop.Input asked written written' = (asked ≡ []) × (after ≡ before) × (written' ≡ written)
StopCaused Tells settings before after stop.TooLong asked written written' = (asked ≡ []) × (after ≡ before) × (written' ≡ written)
StopCaused Tells settings before after stop.Output asked written written' =
    Caused Tells WrotePart settings before after asked written written' ⊎ ToldWanting before after asked written written' ⊎ ToldRefusal Tells WrotePart settings before after asked written written'
StopCaused Tells settings before after stop.NoMemory asked written written' =
    Caused Tells WrotePart settings before after asked written written' ⊎ ToldWanting before after asked written written' ⊎ ToldRefusal Tells WrotePart settings before after asked written written'
StopCaused Tells settings before after stop.Store asked written written' = ToldRefusal Tells Wrote settings before after asked written written'

-- what it has read of it: the item, or lines that ask for nothing whole
abbrev pub TookLastItem : ℕ → List Asked → Option (List ℕ) → Option (List ℕ) → Type 0
TookLastItem number asked before after = (length asked ≤ 1) × ((next : ℕ) × (ended : Bool) × TookItems number None before asked next after ended)

abbrev pub StopTook : Stop → ℕ → List Asked → Option (List ℕ) → Option (List ℕ) → Type 0
StopTook stop.Input number asked before after = TookOpen TookPart number None before after
StopTook stop.TooLong number asked before after = TookOpen TookOver number None before after
StopTook stop.Output number asked before after = TookLastItem number asked before after
StopTook stop.NoMemory number asked before after = TookLastItem number asked before after ⊎ ((asked ≡ []) × TookSome before after)
StopTook stop.Store number asked before after = TookLastItem number asked before after

pub record TurnStops (Tells : Type 0) (settings : Settings) (old new : Tally) (why : Stop) (number : ℕ) (before written after written' : Option (List ℕ)) : Type 0 where
  pub asked : List Asked
  pub took : StopTook why number asked before after
  pub caused : StopCaused Tells settings old new why asked written written'

-- TURN AFTER TURN

-- lines were taken, of which the first has this number, and what they ask for was answered
pub record TurnCaused (Tells : Type 0) (settings : Settings) (old new : Tally) (number : ℕ) (before written : Option (List ℕ)) (next : ℕ) (after : Option (List ℕ)) (ended : Bool)
    (written' : Option (List ℕ)) : Type 0 where
  pub asked : List Asked
  pub took : TookItems number None before asked next after ended
  pub caused : Caused Tells Wrote settings old new asked written written'

-- all that a script asks for was answered
pub record AllCaused (Tells : Type 0) (settings : Settings) (old new : Tally) (script written written' : Option (List ℕ)) : Type 0 where
  pub asked : List Asked
  pub all : AsksAll script asked
  pub caused : Caused Tells Wrote settings old new asked written written'

-- turn after turn was answered, and then the run stopped
pub record CausedUntil (Tells : Type 0) (settings : Settings) (old new : Tally) (why : Stop) (script written script' written' : Option (List ℕ)) : Type 0 where
  pub asked : List Asked
  pub number : ℕ
  pub rest : Option (List ℕ)
  pub took : TookItems 1 None script asked number rest false
  pub mid : Tally
  pub text : Option (List ℕ)
  pub caused : Caused Tells Wrote settings old mid asked written text
  pub held : Held
  pub none : HoldsNone why held
  pub stops : TurnStops Tells settings mid new why number rest text (rest_of script' held) written'

-- A WHOLE RUN

-- the whole items of what was read, and the last one, with which the run stopped: no line of which only a part was read
abbrev pub AsksBy : Ending → List ℕ → List ℕ → List Asked → List Asked → Type 0
AsksBy ReadAll script read whole last = (whole ≡ items_of read) × (last ≡ [])
AsksBy InputFault script read whole last = (whole ≡ items_before read) × (last ≡ [])
AsksBy TooLong script read whole last = (whole ≡ items_before read) × (last ≡ [])
AsksBy OutputFault script read whole last = (length last ≤ 1) × IsFront (whole ++ last) (items_of read) × IsFront (whole ++ last) (items_of script)
AsksBy NoMemory script read whole last = (length last ≤ 1) × IsFront (whole ++ last) (items_of read) × IsFront (whole ++ last) (items_of script)
AsksBy NotOpened script read whole last = IsRestart last × IsFront (whole ++ last) (items_of read) × IsFront (whole ++ last) (items_of script)

-- what stands behind the texts of whole items: a front of the last one's text, or, where that is a restart which wanted memory or
-- was refused, of the line that tells so; or this line; or nothing
abbrev pub IsPartBehind : Type 0 → Settings → Tally → Tally → List Asked → List ℕ → Type 0
IsPartBehind Tells settings before after last part =
    ((text : List ℕ) × AnswerTexts Tells settings before after last text × IsFront part text)
    ⊎ ((not : NotReopened before after last) × IsFront part (numbered_line not.restart.0 NoMem))
    ⊎ (NotReopened before after last × ((note : Note) × FitsNote note × IsNoteCaused Tells settings before after note × IsFront part (note_line note)))

abbrev pub StandsBehind : Type 0 → Ending → Settings → Tally → Tally → List Asked → List ℕ → Type 0
StandsBehind Tells ReadAll settings before after last part = (part ≡ []) × (after ≡ before)
StandsBehind Tells InputFault settings before after last part = (part ≡ []) × (after ≡ before)
StandsBehind Tells TooLong settings before after last part = (part ≡ []) × (after ≡ before)
StandsBehind Tells OutputFault settings before after last part = IsPartBehind Tells settings before after last part
StandsBehind Tells NoMemory settings before after last part = IsPartBehind Tells settings before after last part
StandsBehind Tells NotOpened settings before after last part =
    NotReopened before after last × ((note : Note) × FitsNote note × IsNoteCaused Tells settings before after note × (part ≡ note_line note))

-- A store that was opened on these disks and arms has this tally, of just these, and an arm that was sure is sure in it. Nothing is pending
-- or closed. A disk that was not void has what it had, and one that was is formatted, with nothing stored in it; the rows are those of the
-- Directory's disk, and of each replica whose disk was void or whole its generation is seen, where its cells end, how many have no
-- record, and where its photos stand; so it is of each, whatever its disk had, by what an opening reads: the head, the index, and the cells
-- that have no record. On each disk what is seen as a photo's has its needle, which is not deleted.
pub record BeginsAt (Tells : Type 0) (settings : Settings) (taken : Outside) (sure : ℕ → Bool) (tally : Tally) : Type 0 where
  pub disks : length tally.counts.disks ≡ disk_count settings
  pub fused : length tally.fuses ≡ disk_count settings
  pub lanes : (length tally.counts.arms ≡ 8) × (length tally.sure ≡ 8)
  pub faults : (slot : ℕ) → slot < disk_count settings → taken.faults slot ≤ slice_index tally.counts.disks slot
  pub fuses : (slot : ℕ) → slot < disk_count settings → slice_index tally.fuses slot ≡ taken.fuses slot
  pub arms : (lane : ℕ) → lane < 8 → slice_index tally.counts.arms lane ≡ taken.arms lane
  pub stay_sure : (lane : ℕ) → lane < 8 → sure lane ≡ true → HasSureArm tally lane
  pub seen : OpensSeen settings tally.seen
  pub reads : Tells → ReadsSeen settings (read_contents taken) tally.seen
  pub reads_each : Tells → ReadsEach settings tally.contents tally.seen
  pub live : Tells → PhotosStand settings tally.contents tally.seen
  pub contents : Tells → KeepsContents settings (read_contents taken) tally.contents
  pub formatted : Tells → FormatsVoid settings (read_contents taken) tally.contents

-- So has one that was closed.
pub record EndsAt (Tells : Type 0) (settings : Settings) (tally : Tally) (given : Outside) : Type 0 where
  pub faults : (slot : ℕ) → slot < disk_count settings → given.faults slot ≡ slice_index tally.counts.disks slot
  pub fuses : (slot : ℕ) → slot < disk_count settings → given.fuses slot ≡ slice_index tally.fuses slot
  pub arms : (lane : ℕ) → lane < 8 → given.arms lane ≡ slice_index tally.counts.arms lane
  pub contents : Tells → (slot : ℕ) → slot < disk_count settings → read_contents given slot ≡ tally.contents slot

-- A run that opened a store, having read nothing that is damaged. Each text has its causes, from what is seen of the store as it was
-- opened to that as it was closed.
pub record OpenedText (Tells : Type 0) (settings : Settings) (ending : Ending) (script read : List ℕ) (taken given : Outside) (sure : ℕ → Bool) (text : List ℕ) : Type 0 where
  pub whole : List Asked
  pub last : List Asked
  pub asks : AsksBy ending script read whole last
  pub old : Tally
  pub mid : Tally
  pub new : Tally
  pub sound : Tells → IsUndamaged settings (read_contents taken)
  pub begins : BeginsAt Tells settings taken sure old
  pub ends : EndsAt Tells settings new given
  pub answered : List ℕ
  pub answers : AnswerTexts Tells settings old mid whole answered
  pub part : List ℕ
  pub behind : StandsBehind Tells ending settings mid new last part
  pub text_is : text ≡ header_line settings ++ answered ++ part

-- a front of the header was written, or of the header and the line that tells why the first opening was refused
abbrev pub IsUnopenedFront : Type 0 → Settings → Outside → Outside → List ℕ → Type 0
IsUnopenedFront Tells settings taken given text =
    IsFront text (header_line settings) ⊎ ((note : Note) × FitsNote note × IsFirstRefusal Tells settings taken given note × IsFront text (header_line settings ++ note_line note))

-- why is written behind the header, or a front of both
abbrev pub ToldUnopened : Type 0 → Settings → Outside → Outside → Ending → List ℕ → Type 0
ToldUnopened Tells settings taken given ReadAll text = ⊥
ToldUnopened Tells settings taken given InputFault text = ⊥
ToldUnopened Tells settings taken given TooLong text = ⊥
ToldUnopened Tells settings taken given OutputFault text = IsUnopenedFront Tells settings taken given text
ToldUnopened Tells settings taken given NoMemory text = IsUnopenedFront Tells settings taken given text
ToldUnopened Tells settings taken given NotOpened text =
    (note : Note) × FitsNote note × IsFirstRefusal Tells settings taken given note × (text ≡ header_line settings ++ note_line note)

-- A run that opened none. It read nothing, set no fuse and used no arm, and each disk that was not void is as it was taken.
pub record UnopenedText (Tells : Type 0) (settings : Settings) (taken given : Outside) (disks disks' : ℕ → HeldDisk) (ending : Ending) (read text : List ℕ) : Type 0 where
  pub unread : read ≡ []
  pub kept : Tells → (slot : ℕ) → slot < disk_count settings → IsKept slot (disks slot) (disks' slot)
  pub arms : (lane : ℕ) → lane < 8 → given.arms lane ≡ taken.arms lane
  pub fuses : (slot : ℕ) → slot < disk_count settings → given.fuses slot ≡ taken.fuses slot
  pub told : ToldUnopened Tells settings taken given ending text

-- what a run read, and what it wrote behind what the sink held
pub record CausedRun (Tells : Type 0) (settings : Settings) (ending : Ending) (script : List ℕ) (left : Option (List ℕ)) (taken given : Outside) (sure : ℕ → Bool)
    (disks disks' : ℕ → HeldDisk) (held : List ℕ) (written : Option (List ℕ)) : Type 0 where
  pub read : List ℕ
  pub bytes : ReadBytes ending script read left
  pub text : List ℕ
  pub wrote : written ≡ Some (held ++ text)
  pub causes : OpenedText Tells settings ending script read taken given sure text ⊎ UnopenedText Tells settings taken given disks disks' ending read text

-- how a run ends with this outcome
abbrev pub ending_in : Result (Unit {0}) Stop → Ending
ending_in (Ok done) = ReadAll
ending_in (Err why) = ending_of why
