-- Which blocks of lanes are legal: what their replies show of the log, the rows and the counts, whatever the order was.
use Rattle.std.specs.Prelude.{◌≡◌, ◌≢◌, ℕ, ◌+◌, ◌-◌, ◌^◌, ◌<◌, ◌≤◌, ◌==◌, ◌&&◌, ◌||◌, ◌⊎◌, not, Bool, true, false, cond, List, [], ◌∷◌, ◌++◌, length, map, drop, take, filter}
use Rattle.std.specs.Prelude.{filter_map, flat_map, sum_by, count_by, take_while, slice_get, unwrap_or, Contains, Option, Some, None, option_map, if◌then◌else◌}
use Rattle.std.specs.List.{AllZip, AllByRecursion as Each, list_any, enumerate_from, range_with_len}
use Rattle.hay_needle.specs.declared.needle.Pair.{Pair}
use Rattle.hay_needle.specs.declared.needle.Cookie.{Cookie}
use Rattle.hay_needle.specs.declared.needle.Outcome.{Outcome}
use Rattle.hay_needle.specs.declared.needle.Outcome.TheVariants as outcome
use Rattle.hay_needle.specs.declared.settings.Settings.{Settings}
use Rattle.hay_url.specs.declared.Url.{Url as UrlParts}
use Rattle.hay_url.specs.Url.{cookie_of}
use Rattle.hay_script.specs.declared.Command.{Command}
use Rattle.hay_script.specs.declared.Command.TheVariants as command
use Rattle.hay_reply.specs.declared.Refused.{Refused}
use Rattle.hay_reply.specs.declared.Refused.TheVariants.{NoRoom, Closed}
use Rattle.hay_reply.specs.declared.ClosedBy.{ClosedBy}
use Rattle.hay_reply.specs.declared.Cause.{Cause}
use Rattle.hay_reply.specs.declared.Cause.TheVariants.{Arm, Disk, Damage}
use Rattle.hay_reply.specs.declared.Passed.{Passed}
use Rattle.hay_reply.specs.declared.LineVolume.{LineVolume}
use Rattle.hay_reply.specs.declared.Reply.{Reply}
use Rattle.hay_reply.specs.declared.Reply.TheVariants.{Stored, Deleted, Photo, Gone, Absent, WrongCookie, Unknown, Moved, Url, Full, ReadOnly, ReadOnlyDir, Failed, FailedDir}
use Rattle.hay_reply.specs.declared.Reply.TheVariants.{Unreadable, Damaged, Flushed, Begun, Stepped, Compacted, Busy, Idle, Worn, Drained, Undrained, Fused, FusedDir, Nowhere}
use Rattle.hay_reply.specs.declared.Reply.TheVariants.{Restarted, BadLine, NoMem}
use Rattle.hay_core.specs.declared.entry.Entry.{Entry}
use Rattle.hay_core.specs.declared.entry.Entry.TheVariants as entry
use Rattle.hay_core.specs.declared.entry.CoreTag.{CoreTag}
use Rattle.hay_needle.specs.Tables.{outcome_at, live_end}
use Rattle.hay_needle.specs.Sizes.{needle_total}
use Rattle.hay_needle.specs.declared.settings.TheConstants.{LAST_GENERATION}
use Rattle.hay_disk.specs.Counts.{Rose}
use Rattle.hay_legal.specs.Known.{stands}
use Rattle.hay_core.specs.declared.entry.Logged.{Logged}
use Rattle.hay_legal.specs.declared.known.Run.{Run}
use Rattle.hay_legal.specs.declared.known.ReplicaKnown.{ReplicaKnown}
use Rattle.hay_legal.specs.declared.known.HomeRow.{HomeRow}
use Rattle.hay_legal.specs.declared.known.Pending.{Pending}
use Rattle.hay_legal.specs.declared.known.Known.{Known}
use Rattle.hay_legal.specs.declared.turn.Item.{Item}
use Rattle.hay_legal.specs.declared.turn.Item.TheVariants as asks
use Rattle.hay_legal.specs.declared.turn.LaneItem.{LaneItem}
use Rattle.hay_legal.specs.declared.turn.LogNote.{LogNote}
use Rattle.hay_legal.specs.declared.turn.RowNote.{RowNote}
use Rattle.hay_legal.specs.Known.{volume_at, replica_at, machine_of, slot_of, replica_on, home_at, home_of, all_tries, at_front, now, closed, fault_count, arm_count, CameUp}
use Rattle.hay_legal.specs.Known.{NoneFalls, EachPair, replicas_of, volumes_of, all_lanes}
use Rattle.hay_legal.specs.Plain.{GetShows, IsFrozenBy, Names, IsOpen, as_closed, first_machine, wants_room, order_from, put_entry, start_of}

-- WHAT A REPLY TELLS

-- the volume, the machine, and the number or the fronts of the volume and of the Directory that it prints
pub data Told : Type 0 where
  -- a change, at this position
  Changed : ℕ → ℕ → ℕ → Told
  -- what a replica shows, why none shows anything, or that nothing is there
  Shown : ℕ → ℕ → ℕ → ℕ → Told
  ShownByNone : ℕ → ℕ → ℕ → List Passed → Told
  ShownNothing : ℕ → ℕ → ℕ → Told
  -- what the rows tell
  ShownRows : ℕ → Told
  -- a fault of a replica's disk, or of the Directory's
  Blamed : ℕ → ℕ → ℕ → Told
  BlamedRows : ℕ → Told
  -- the records that were written of a replica, or the generation that was made
  Recorded : ℕ → ℕ → ℕ → Told
  Made : ℕ → ℕ → ℕ → Told
  -- want of memory, a refusal, or what no line of a block is answered
  Wanted : Told
  RefusedIt : Told
  NotInBlocks : Told

abbrev pub told : Reply → Told
told (Stored v p d c) = Changed v p d
told (Deleted v p d) = Changed v p d
told (Photo v m p d bytes) = Shown v m p d
told (Gone v m p d) = Shown v m p d
told (WrongCookie v m p d) = Shown v m p d
told (Unreadable v p d causes) = ShownByNone v p d causes
told (Absent v p d) = ShownNothing v p d
told (Unknown d) = ShownRows d
told (Moved v d) = ShownRows d
told (Url d url) = ShownRows d
told (Failed v m f) = Blamed v m f
told (FailedDir f) = BlamedRows f
told (Flushed v m n) = Recorded v m n
told (Compacted v m g) = Made v m g
told NoMem = Wanted
told (Full refused) = RefusedIt
told (ReadOnly by) = RefusedIt
told ReadOnlyDir = RefusedIt
told (Busy v m g) = RefusedIt
told (Worn v m) = RefusedIt
told Nowhere = RefusedIt
told BadLine = RefusedIt
told (Damaged v m at) = NotInBlocks
told (Begun v m g) = NotInBlocks
told (Stepped v m n) = NotInBlocks
told (Idle v m) = NotInBlocks
told (Drained m) = NotInBlocks
told (Undrained m) = NotInBlocks
told (Fused v m n) = NotInBlocks
told (FusedDir n) = NotInBlocks
told (Restarted d) = NotInBlocks

-- WHAT IS NEW

abbrev pub new_entries : Known → Known → ℕ → List Logged
new_entries k t v = drop (length (volume_at k v).log) (volume_at t v).log

abbrev pub new_rows : Known → Known → List HomeRow
new_rows k t = drop (length k.directory.rows) t.directory.rows

abbrev pub tag_of : LaneItem → CoreTag
tag_of item = record { lane = item.lane; line = item.line }

-- the bytes of the needles of the new puts, and their number
abbrev pub put_total : Logged → ℕ
put_total logged = put_total_of logged.entry
  where
    put_total_of : Entry → ℕ
    put_total_of (entry.Put pair cookie bytes) = needle_total (length bytes)
    put_total_of (entry.Del pair) = 0

abbrev pub is_put : Logged → Bool
is_put logged = is_put_of logged.entry
  where
    is_put_of : Entry → Bool
    is_put_of (entry.Put pair cookie bytes) = true
    is_put_of (entry.Del pair) = false

-- THE LOG: each new entry is an acknowledged line, at its printed position, and each such line is an entry

abbrev pub entry_for : Settings → Command → Option Entry
entry_for settings (command.Put pair bytes) = Some (entry.Put pair (cookie_of settings.secret pair.key) bytes)
entry_for settings (command.Del pair) = Some (entry.Del pair)
entry_for settings (command.Read pair cookie) = None
entry_for settings (command.Get url) = None
entry_for settings (command.Url pair) = None
entry_for settings (command.Flush v m) = None
entry_for settings (command.Compact v m) = None
entry_for settings (command.Begin v m) = None
entry_for settings (command.Step v m cells) = None
entry_for settings (command.Finish v m) = None
entry_for settings (command.Drain m) = None
entry_for settings (command.Undrain m) = None
entry_for settings (command.Fuse v m calls) = None
entry_for settings (command.FuseDir calls) = None
entry_for settings (command.Restart pick) = None

abbrev pub entry_of_item : Settings → Item → Option Entry
entry_of_item settings (asks.Command command) = entry_for settings command
entry_of_item settings asks.Bad = None

-- the volume and the position that a reply acknowledges
abbrev pub acknowledged : Reply → Option (ℕ × ℕ)
acknowledged reply = changed (told reply)
  where
    changed : Told → Option (ℕ × ℕ)
    changed (Changed v p d) = Some (v, p)
    changed (Shown v m p d) = None
    changed (ShownByNone v p d causes) = None
    changed (ShownNothing v p d) = None
    changed (ShownRows d) = None
    changed (Blamed v m f) = None
    changed (BlamedRows f) = None
    changed (Recorded v m n) = None
    changed (Made v m g) = None
    changed Wanted = None
    changed RefusedIt = None
    changed NotInBlocks = None

-- the entry at this position is this line's
pub record IsEntryOf (settings : Settings) (item : LaneItem) (logged : Logged) : Type 0 where
  pub tag : logged.tag ≡ tag_of item
  pub entry : entry_of_item settings item.item ≡ Some logged.entry

-- an acknowledged line is the entry at its printed position
abbrev pub EnteredAt : Settings → Known → Known → LaneItem → Option (ℕ × ℕ) → Type 0
EnteredAt settings k t item None = Unit {0}
EnteredAt settings k t item (Some at) =
    (length (volume_at k at.0).log < at.1)
    × ((logged : Logged) × (slice_get (volume_at t at.0).log (at.1 - 1) ≡ Some logged) × IsEntryOf settings item logged)

abbrev pub IsEntered : Settings → Known → Known → LaneItem → Type 0
IsEntered settings k t item = EnteredAt settings k t item (acknowledged item.reply)

-- the entry at a position is a line's that was acknowledged there
abbrev pub IsMade : Settings → List LaneItem → ℕ → ℕ × Logged → Type 0
IsMade settings items v at =
    (item : LaneItem) × Contains items item × (acknowledged item.reply ≡ Some (v, at.0)) × IsEntryOf settings item at.1

-- nothing else was appended
pub record LogIsLegal (settings : Settings) (k : Known) (items : List LaneItem) (t : Known) (v : ℕ) : Type 0 where
  pub kept : take (length (volume_at k v).log) (volume_at t v).log ≡ (volume_at k v).log
  pub made : Each (IsMade settings items v) (enumerate_from (length (volume_at k v).log + 1) (new_entries k t v))

-- the notes are these
abbrev pub log_note : Known → Known → ℕ → List LogNote
log_note k t v = log_note_of (new_entries k t v)
  where
    log_note_of : List Logged → List LogNote
    log_note_of [] = []
    log_note_of (logged ∷ rest) =
        record { volume = v; from = length (volume_at k v).log; lines = map (λ entry. (entry.tag).line) (logged ∷ rest) } ∷ []

abbrev pub log_notes : Settings → Known → Known → List LogNote
log_notes settings k t = flat_map (log_note k t) (volumes_of settings)

-- HOMES

-- a pair's home at a front of the Directory
abbrev pub HomeAt : Known → Pair → ℕ → Option ℕ → Type 0
HomeAt t pair d home = home_at t.directory.rows d pair ≡ home

-- a lone volume in a reply is the pair's home at some front of the block
abbrev pub HomeInBlock : Known → Known → Pair → ℕ → Type 0
HomeInBlock k t pair v =
    (d : ℕ) × (length k.directory.rows ≤ d) × (d ≤ length t.directory.rows) × HomeAt t pair d (Some v)

-- ROOM: a printed end, and the end at a put, lie in a range

abbrev pub is_compacted : ℕ → ℕ → LaneItem → Bool
is_compacted v m item = compacts item.item
  where
    compacts_by : Command → Bool
    compacts_by (command.Compact v' m') = (v' == v) && (m' == m)
    compacts_by (command.Put pair bytes) = false
    compacts_by (command.Read pair cookie) = false
    compacts_by (command.Get url) = false
    compacts_by (command.Del pair) = false
    compacts_by (command.Url pair) = false
    compacts_by (command.Flush v m) = false
    compacts_by (command.Begin v m) = false
    compacts_by (command.Step v m cells) = false
    compacts_by (command.Finish v m) = false
    compacts_by (command.Drain m) = false
    compacts_by (command.Undrain m) = false
    compacts_by (command.Fuse v m calls) = false
    compacts_by (command.FuseDir calls) = false
    compacts_by (command.Restart pick) = false

    compacts : Item → Bool
    compacts (asks.Command command) = compacts_by command
    compacts asks.Bad = false

abbrev pub may_be_swapped : Settings → List LaneItem → ℕ → ℕ → Bool
may_be_swapped settings items v j = list_any (is_compacted v (machine_of settings v j)) items

abbrev pub lowest_end : Settings → Known → List LaneItem → ℕ → ℕ → ℕ
lowest_end settings k items v j = if may_be_swapped settings items v j then 64 else (replica_at (volume_at k v) j).end

abbrev pub highest_end : Known → Known → ℕ → ℕ → ℕ
highest_end k t v j = (replica_at (volume_at k v) j).end + sum_by put_total (new_entries k t v)

abbrev pub MayEnd : Settings → Known → List LaneItem → Known → ℕ → ℕ → ℕ → Type 0
MayEnd settings k items t v j end = (lowest_end settings k items v j ≤ end) × (end ≤ highest_end k t v j)

-- the block swapped the replica
abbrev pub WasSwapped : Known → Known → ℕ → ℕ → Type 0
WasSwapped k t v j = (replica_at (volume_at k v) j).generation < (replica_at (volume_at t v) j).generation

-- the block's entries in the log of a volume until a front
abbrev pub entries_until : Known → Known → ℕ → ℕ → List Logged
entries_until k t v front = take (front - length (volume_at k v).log) (new_entries k t v)

abbrev pub end_with_puts : Known → Known → ℕ → ℕ → ℕ → ℕ
end_with_puts k t v front j = (replica_at (volume_at k v) j).end + sum_by put_total (entries_until k t v front)

-- A replica may end so at a front of its volume: where the puts until then made it end, or no further than that, and behind the
-- photos that stood then, where it was swapped as is said.
abbrev pub MayEndAt : Known → Known → ℕ → (ℕ → Type 0) → ℕ → ℕ → ℕ → Type 0
MayEndAt k t v Swapped front j end =
    (end ≡ end_with_puts k t v front j)
    ⊎ (Swapped j × (live_end (at_front (volume_at t v) (replica_at (volume_at t v) j) front) ≤ end) × (end ≤ end_with_puts k t v front j))

-- At a front of the volume the replica on m was the first without room for so many bytes, and had this end.
pub record LacksRoom (settings : Settings) (k t : Known) (v : ℕ) (Swapped : ℕ → Type 0) (front m end need : ℕ) : Type 0 where
  pub replica : ℕ
  pub there : replica_on settings v m ≡ Some replica
  pub ended : MayEndAt k t v Swapped front replica end
  pub short : settings.capacity < end + need + 8
  pub lower : Each (λ i. (other : ℕ) × MayEndAt k t v Swapped front i other × (other + need + 8 ≤ settings.capacity)) (range_with_len 0 replica)

-- each replica had room for a photo of this size at some time
abbrev pub MayHaveRoom : Settings → Known → List LaneItem → Known → ℕ → ℕ → Type 0
MayHaveRoom settings k items t size v =
    Each (λ j. (end : ℕ) × MayEnd settings k items t v j end × (end + needle_total size + 8 ≤ settings.capacity)) (replicas_of settings)

-- a volume may have taken a photo of this size: what was closed before the block takes no change in it
abbrev pub MayHaveTaken : Settings → Known → List LaneItem → Known → ℕ → ℕ → Type 0
MayHaveTaken settings k items t size v = (closed settings k v ≡ None) × MayHaveRoom settings k items t size v

-- a volume was closed by this machine before the block, or it was frozen by it in the block, and is so still
abbrev pub MayBeClosed : Settings → Known → Known → ℕ → ℕ → Type 0
MayBeClosed settings k t v m = (closed settings k v ≡ Some m) ⊎ ((volume_at t v).frozen ≡ Some m)

-- why a volume may have refused a photo of this size
abbrev pub MayRefuse : Settings → Known → List LaneItem → Known → ℕ → ℕ → Refused → Type 0
MayRefuse settings k items t size v (NoRoom v' m end need) =
    (v' ≡ v) × (closed settings k v ≡ None)
    × ((j : ℕ) × (replica_on settings v m ≡ Some j) × MayEnd settings k items t v j end)
    × (need ≡ needle_total size) × ((front : ℕ) × LacksRoom settings k t v (WasSwapped k t v) front m end need)
MayRefuse settings k items t size v (Closed v' m) = (v' ≡ v) × MayBeClosed settings k t v m

-- ROWS: each new row is that of a put line, at the try that may have taken its photo

-- A volume may have got the row of a pair for a photo of this size: the pair had no home before the block, and the volume
-- is the try that may have taken the photo, before which each try may have refused it.
pub record MayGetRow (settings : Settings) (k : Known) (items : List LaneItem) (t : Known) (pair : Pair) (size v : ℕ) : Type 0 where
  pub missing : home_of k pair ≡ None
  pub tried : Contains (all_tries settings pair) v
  pub takes : MayHaveTaken settings k items t size v
  pub before : Each (λ u. (refused : Refused) × MayRefuse settings k items t size u refused) (take_while (λ u. not (u == v)) (all_tries settings pair))

-- the pair's home refused the photo, and no other try is named
abbrev pub HomeRefuses : Settings → Known → List LaneItem → Known → Pair → List ℕ → List Refused → Type 0
HomeRefuses settings k items t pair bytes (refused ∷ []) =
    (v : ℕ) × HomeInBlock k t pair v × MayRefuse settings k items t (length bytes) v refused
HomeRefuses settings k items t pair bytes _ = ⊥

-- A reply to a put that may have added its row. Where the photo was refused, the home that the row gave the pair refused it:
-- a put that each try refused adds none.
abbrev pub MayHaveAdded : Settings → Known → List LaneItem → Known → Pair → List ℕ → Reply → Type 0
MayHaveAdded settings k items t pair bytes (Stored v p d c) = Unit {0}
MayHaveAdded settings k items t pair bytes (Full refused) = HomeRefuses settings k items t pair bytes refused
MayHaveAdded settings k items t pair bytes (ReadOnly by) = HomeRefuses settings k items t pair bytes (map as_closed by)
MayHaveAdded settings k items t pair bytes (Failed v m f) = Unit {0}
MayHaveAdded settings k items t pair bytes NoMem = Unit {0}
MayHaveAdded settings k items t pair bytes _ = ⊥

pub record IsNewRow (settings : Settings) (k : Known) (items : List LaneItem) (t : Known) (named : LineVolume) (row : HomeRow) : Type 0 where
  pub volume : named.volume ≡ row.volume
  pub item : LaneItem
  pub among : Contains items item
  pub line : item.line ≡ named.line
  pub bytes : List ℕ
  pub put : item.item ≡ asks.Command (command.Put row.pair bytes)
  pub reply : MayHaveAdded settings k items t row.pair bytes item.reply
  pub «open» : k.directory.frozen ≡ false
  pub gets : MayGetRow settings k items t row.pair (length bytes) row.volume

pub record RowsAreLegal (settings : Settings) (k : Known) (items : List LaneItem) (rows : RowNote) (t : Known) : Type 0 where
  pub kept : take (length k.directory.rows) t.directory.rows ≡ k.directory.rows
  pub from : rows.from ≡ length k.directory.rows
  pub each : AllZip (IsNewRow settings k items t) rows.rows (new_rows k t)
  pub distinct : EachPair (λ a b. a.pair ≢ b.pair) (new_rows k t)

-- FRONTS: what a lane prints of a volume or of the Directory never goes back, nor before what the lane itself changed

-- a printed front, and whether it is the position of a line's own entry or row
pub record Printed : Type 0 where
  pub front : ℕ
  pub entered : Bool

abbrev pub printed : ℕ → Bool → Printed
printed front entered = record { front = front; entered = entered }

-- what a reply prints of the volume v
abbrev pub volume_print : ℕ → Reply → List Printed
volume_print v reply = prints (told reply)
  where
    prints : Told → List Printed
    prints (Changed v' p d) = cond (v' == v) (printed p true ∷ []) []
    prints (Shown v' m p d) = cond (v' == v) (printed p false ∷ []) []
    prints (ShownByNone v' p d causes) = cond (v' == v) (printed p false ∷ []) []
    prints (ShownNothing v' p d) = cond (v' == v) (printed p false ∷ []) []
    prints (ShownRows d) = []
    prints (Blamed v m f) = []
    prints (BlamedRows f) = []
    prints (Recorded v m n) = []
    prints (Made v m g) = []
    prints Wanted = []
    prints RefusedIt = []
    prints NotInBlocks = []

-- what it prints of the Directory
abbrev pub row_print : Reply → List Printed
row_print reply = prints (told reply)
  where
    prints : Told → List Printed
    prints (Changed v p d) = printed d false ∷ []
    prints (Shown v m p d) = printed d false ∷ []
    prints (ShownByNone v p d causes) = printed d false ∷ []
    prints (ShownNothing v p d) = printed d false ∷ []
    prints (ShownRows d) = printed d false ∷ []
    prints (Blamed v m f) = []
    prints (BlamedRows f) = []
    prints (Recorded v m n) = []
    prints (Made v m g) = []
    prints Wanted = []
    prints RefusedIt = []
    prints NotInBlocks = []

-- the position of the row that a line added, if it added one
abbrev pub row_added : RowNote → LaneItem → List Printed
row_added rows item = filter_map place (enumerate_from (rows.from + 1) rows.rows)
  where
    place : ℕ × LineVolume → Option Printed
    place at = cond ((at.1).line == item.line) (Some (printed at.0 true)) None

-- what a line tells of the Directory: the row that it added comes before what it prints
abbrev pub row_fronts : RowNote → LaneItem → List Printed
row_fronts rows item = row_added rows item ++ row_print item.reply

abbrev pub lane_items : List LaneItem → ℕ → List LaneItem
lane_items items lane = filter (λ item. item.lane == lane) items

abbrev pub InOrder : Printed → Printed → Type 0
InOrder earlier later = InOrderBy later.entered
  where
    InOrderBy : Bool → Type 0
    InOrderBy true = earlier.front < later.front
    InOrderBy false = earlier.front ≤ later.front

abbrev pub Between : ℕ → ℕ → Printed → Type 0
Between before after shown = (before ≤ shown.front) × (shown.front ≤ after)

abbrev pub IsAt : ℕ → Printed → Type 0
IsAt front shown = shown.front ≡ front

abbrev pub FrontsGrow : ℕ → ℕ → List Printed → Type 0
FrontsGrow before after shown = EachPair InOrder shown × Each (Between before after) shown

pub record FrontsAreLegal (settings : Settings) (k : Known) (items : List LaneItem) (rows : RowNote) (t : Known) : Type 0 where
  pub volumes : Each (λ lane. Each
      (λ v. FrontsGrow (length (volume_at k v).log) (length (volume_at t v).log) (flat_map (λ item. volume_print v item.reply) (lane_items items lane)))
      (volumes_of settings)) all_lanes
  pub directory : Each
      (λ lane. FrontsGrow (length k.directory.rows) (length t.directory.rows) (flat_map (row_fronts rows) (lane_items items lane)))
      all_lanes

-- READS: a reply is what its printed fronts show

abbrev pub outcome_then : Known → ℕ → ℕ → ℕ → Pair → Outcome
outcome_then t v j p pair = outcome_at (at_front (volume_at t v) (replica_at (volume_at t v) j) p) pair

pub record ShowsThen (settings : Settings) (t : Known) (pair : Pair) (v m p d : ℕ) (shown : Outcome) : Type 0 where
  pub home : HomeAt t pair d (Some v)
  pub replica : ℕ
  pub there : replica_on settings v m ≡ Some replica
  pub stands : outcome_then t v replica p pair ≡ shown

abbrev pub CausesInOrder : Settings → ℕ → ℕ → List Passed → Type 0
CausesInOrder settings v start causes =
    map (λ passed. passed.machine) causes ≡ map (machine_of settings v) (order_from settings start)

abbrev pub ReadIsLegal : Settings → Known → ℕ → Pair → Cookie → Reply → Type 0
ReadIsLegal settings t start pair cookie (Photo v m p d bytes) =
    ShowsThen settings t pair v m p d (outcome.Photo (record { cookie = cookie; bytes = bytes }))
ReadIsLegal settings t start pair cookie (Gone v m p d) = ShowsThen settings t pair v m p d outcome.Nothing
ReadIsLegal settings t start pair cookie (WrongCookie v m p d) =
    (c : Cookie) × (bytes : List ℕ) × (c ≢ cookie) × ShowsThen settings t pair v m p d (outcome.Photo (record { cookie = c; bytes = bytes }))
ReadIsLegal settings t start pair cookie (Unreadable v p d causes) = HomeAt t pair d (Some v) × CausesInOrder settings v start causes
ReadIsLegal settings t start pair cookie (Unknown d) = HomeAt t pair d None
ReadIsLegal settings t start pair cookie NoMem = Unit {0}
ReadIsLegal settings t start pair cookie _ = ⊥

abbrev pub GetIsLegal : Settings → Known → UrlParts → Option ℕ → Reply → Type 0
GetIsLegal settings t url None Nowhere = Unit {0}
GetIsLegal settings t url None NoMem = Unit {0}
GetIsLegal settings t url None _ = ⊥
GetIsLegal settings t url (Some start) (Moved v d) = HomeAt t url.pair d (Some v) × (v ≢ url.volume)
GetIsLegal settings t url (Some start) reply = ReadIsLegal settings t start url.pair url.cookie reply × GetShows url reply

-- on some replica, or on none, a photo stood at the pair
abbrev pub StoodThen : Settings → Known → ℕ → ℕ → Pair → Type 0
StoodThen settings t v p pair = list_any (λ j. stands (outcome_then t v j p pair)) (replicas_of settings) ≡ true

abbrev pub NothingThen : Settings → Known → ℕ → ℕ → Pair → Type 0
NothingThen settings t v p pair = list_any (λ j. stands (outcome_then t v j p pair)) (replicas_of settings) ≡ false

-- DELETES

-- some replica of the volume is on this machine
abbrev pub HasReplica : Settings → ℕ → ℕ → Type 0
HasReplica settings v m = (j : ℕ) × (replica_on settings v m ≡ Some j)

abbrev pub ClosedHome : Settings → Known → Known → Pair → List ClosedBy → Type 0
ClosedHome settings k t pair (by ∷ []) = HomeInBlock k t pair by.volume × MayBeClosed settings k t by.volume by.machine
ClosedHome settings k t pair _ = ⊥

abbrev pub DelIsLegal : Settings → Known → Known → Pair → Reply → Type 0
DelIsLegal settings k t pair (Deleted v p d) =
    HomeAt t pair d (Some v) × (closed settings k v ≡ None) × StoodThen settings t v (p - 1) pair
DelIsLegal settings k t pair (Absent v p d) =
    HomeAt t pair d (Some v) × (closed settings k v ≡ None) × NothingThen settings t v p pair
DelIsLegal settings k t pair (Unknown d) = HomeAt t pair d None
DelIsLegal settings k t pair (ReadOnly by) = ClosedHome settings k t pair by
DelIsLegal settings k t pair (Failed v m f) = HomeInBlock k t pair v × HasReplica settings v m × (closed settings k v ≡ None)
DelIsLegal settings k t pair NoMem = Unit {0}
DelIsLegal settings k t pair _ = ⊥

-- PUTS

abbrev pub TriesRefuse : Settings → Known → List LaneItem → Known → Pair → List ℕ → List Refused → Type 0
TriesRefuse settings k items t pair bytes refused =
    (home_of k pair ≡ None) × AllZip (MayRefuse settings k items t (length bytes)) (all_tries settings pair) refused

abbrev pub RefusesPut : Settings → Known → List LaneItem → Known → Pair → List ℕ → List Refused → Type 0
RefusesPut settings k items t pair bytes refused =
    TriesRefuse settings k items t pair bytes refused ⊎ HomeRefuses settings k items t pair bytes refused

-- a volume is left frozen by this machine, with this change pending
abbrev pub IsLeftPending : Known → ℕ → ℕ → Pending → Type 0
IsLeftPending t v m pending = ((volume_at t v).frozen ≡ Some m) × ((volume_at t v).pending ≡ Some pending)

-- the Directory is left frozen, with the row of a pair pending that has none
abbrev pub RowIsPending : Known → CoreTag → Pair → ℕ → Type 0
RowIsPending t tag pair v =
    (home_of t pair ≡ None) × (t.directory.frozen ≡ true)
    × (t.directory.pending ≡ Some (record { tag = tag; row = record { pair = pair; volume = v } }))

abbrev pub PutIsLegal : Settings → Known → List LaneItem → Known → CoreTag → Pair → List ℕ → Reply → Type 0
PutIsLegal settings k items t tag pair bytes (Stored v p d c) =
    HomeAt t pair d (Some v) × (c ≡ cookie_of settings.secret pair.key) × MayHaveTaken settings k items t (length bytes) v
PutIsLegal settings k items t tag pair bytes (Full refused) =
    RefusesPut settings k items t pair bytes refused × (list_any wants_room refused ≡ true)
PutIsLegal settings k items t tag pair bytes (ReadOnly by) = RefusesPut settings k items t pair bytes (map as_closed by)
PutIsLegal settings k items t tag pair bytes ReadOnlyDir =
    ((v : ℕ) × MayGetRow settings k items t pair (length bytes) v) × (t.directory.frozen ≡ true)
PutIsLegal settings k items t tag pair bytes (Failed v m f) =
    HomeInBlock k t pair v × HasReplica settings v m × MayHaveTaken settings k items t (length bytes) v
    × IsLeftPending t v m (record { tag = tag; entry = put_entry settings pair bytes; failed = true })
PutIsLegal settings k items t tag pair bytes (FailedDir f) =
    (k.directory.frozen ≡ false) × ((v : ℕ) × MayGetRow settings k items t pair (length bytes) v × RowIsPending t tag pair v)
PutIsLegal settings k items t tag pair bytes NoMem = Unit {0}
PutIsLegal settings k items t tag pair bytes _ = ⊥

-- WHAT A LANE KNOWS OF A PAIR'S HOME

abbrev pub volume_named : Refused → ℕ
volume_named (NoRoom v m end need) = v
volume_named (Closed v m) = v

-- a put or a delete of the pair that met its home, and prints no front of it
abbrev pub MetHome : Settings → Known → List LaneItem → Known → LaneItem → Pair → ℕ → Type 0
MetHome settings k items t item pair v = Met item.item item.reply
  where
    Refuses : List ℕ → List Refused → Type 0
    Refuses bytes (refused ∷ []) = (volume_named refused ≡ v) × (TriesRefuse settings k items t pair bytes (refused ∷ []) → ⊥)
    Refuses bytes _ = ⊥

    MetAs : Command → Reply → Type 0
    MetAs (command.Put pair' bytes) (Full refused) = (pair' ≡ pair) × Refuses bytes refused
    MetAs (command.Put pair' bytes) (ReadOnly by) = (pair' ≡ pair) × Refuses bytes (map as_closed by)
    MetAs (command.Put pair' bytes) (Failed v' m f) = (pair' ≡ pair) × (v' ≡ v)
    MetAs (command.Del pair') (ReadOnly (by ∷ [])) = (pair' ≡ pair) × (by.volume ≡ v)
    MetAs (command.Del pair') (Failed v' m f) = (pair' ≡ pair) × (v' ≡ v)
    MetAs _ _ = ⊥

    Met : Item → Reply → Type 0
    Met (asks.Command command) reply = MetAs command reply
    Met asks.Bad reply = ⊥

-- a put of the pair that met no home of it, and prints no front
abbrev pub MetNoHome : Settings → Known → List LaneItem → Known → LaneItem → Pair → Type 0
MetNoHome settings k items t item pair = Met item.item item.reply
  where
    MetAs : Command → Reply → Type 0
    MetAs (command.Put pair' bytes) (Full refused) = (pair' ≡ pair) × (HomeRefuses settings k items t pair bytes refused → ⊥)
    MetAs (command.Put pair' bytes) (ReadOnly by) = (pair' ≡ pair) × (HomeRefuses settings k items t pair bytes (map as_closed by) → ⊥)
    MetAs (command.Put pair' bytes) ReadOnlyDir = pair' ≡ pair
    MetAs (command.Put pair' bytes) (FailedDir f) = pair' ≡ pair
    MetAs _ _ = ⊥

    Met : Item → Reply → Type 0
    Met (asks.Command command) reply = MetAs command reply
    Met asks.Bad reply = ⊥

-- Two lines of a lane, in their order. A home that the first met stands at what the second prints, and none that the second
-- missed stands at what the first prints. A pair whose home the first met gets no row by the second.
pub record HomesAgree (settings : Settings) (k : Known) (items : List LaneItem) (rows : RowNote) (t : Known) (a b : LaneItem) : Type 0 where
  pub kept : (pair : Pair) (v : ℕ) → MetHome settings k items t a pair v → Each (λ shown. HomeAt t pair shown.front (Some v)) (row_print b.reply)
  pub missing : (pair : Pair) → MetNoHome settings k items t b pair → Each (λ shown. HomeAt t pair shown.front None) (row_print a.reply)
  pub apart : (pair : Pair) (v : ℕ) → MetHome settings k items t a pair v → MetNoHome settings k items t b pair → ⊥
  pub laid : (pair : Pair) (v : ℕ) (bytes : List ℕ) → MetHome settings k items t a pair v → b.item ≡ asks.Command (command.Put pair bytes) → row_added rows b ≡ []

-- FLUSHES AND COMPACTIONS

-- a flush of the replica on m that failed
abbrev pub SticksBy : ℕ → ℕ → LaneItem → Type 0
SticksBy v m item = Sticks item.item item.reply
  where
    SticksAs : Command → Reply → Type 0
    SticksAs (command.Flush v' m') (Failed v'' m'' f) = Names v m v' m'
    SticksAs _ _ = ⊥

    Sticks : Item → Reply → Type 0
    Sticks (asks.Command command) reply = SticksAs command reply
    Sticks asks.Bad reply = ⊥

-- a flush may have met the replica: its volume was not frozen before the block, nor its index stuck but where it was swapped
abbrev pub MayFlush : Known → Known → ℕ → ℕ → Type 0
MayFlush k t v j = IsOpen k v × (((replica_at (volume_at k v) j).stuck ≡ false) ⊎ WasSwapped k t v j)

-- a flush that failed leaves the index stuck, unless the replica was swapped behind it
abbrev pub IsLeftStuck : Known → Known → ℕ → ℕ → Type 0
IsLeftStuck k t v j = ((replica_at (volume_at t v) j).stuck ≡ true) ⊎ WasSwapped k t v j

abbrev pub MayBeStuck : Known → List LaneItem → ℕ → ℕ → ℕ → List ClosedBy → Type 0
MayBeStuck k items v m j (by ∷ []) =
    Names v m by.volume by.machine × IsOpen k v
    × (((replica_at (volume_at k v) j).stuck ≡ true) ⊎ ((item : LaneItem) × Contains items item × SticksBy v m item))
MayBeStuck k items v m j _ = ⊥

-- a freeze of before the block, or of the block, stands behind it
abbrev pub FlushIsLegal : Settings → Known → List LaneItem → Known → ℕ → ℕ → Option ℕ → Reply → Type 0
FlushIsLegal settings k items t v m None Nowhere = Unit {0}
FlushIsLegal settings k items t v m None NoMem = Unit {0}
FlushIsLegal settings k items t v m None _ = ⊥
FlushIsLegal settings k items t v m (Some j) (Flushed v' m' n) = Names v m v' m' × MayFlush k t v j
FlushIsLegal settings k items t v m (Some j) (ReadOnly by) = IsFrozenBy t v by ⊎ MayBeStuck k items v m j by
FlushIsLegal settings k items t v m (Some j) (Failed v' m' f) = Names v m v' m' × MayFlush k t v j × IsLeftStuck k t v j
FlushIsLegal settings k items t v m (Some j) NoMem = Unit {0}
FlushIsLegal settings k items t v m (Some j) _ = ⊥

-- a compact of the same replica in another lane, whose run another may have met
abbrev pub RunsBeside : ℕ → ℕ → ℕ → ℕ → LaneItem → Type 0
RunsBeside lane v m g item = (item.lane ≢ lane) × (item.item ≡ asks.Command (command.Compact v m)) × MayHaveRun item.reply
  where
    MayHaveRun : Reply → Type 0
    MayHaveRun (Compacted v' m' g') = g' ≡ g
    MayHaveRun (Failed v' m' f) = Unit {0}
    MayHaveRun (ReadOnly by) = Unit {0}
    MayHaveRun NoMem = Unit {0}
    MayHaveRun _ = ⊥

abbrev pub MayBeBusy : Known → List LaneItem → Known → ℕ → ℕ → ℕ → ℕ → ℕ → Type 0
MayBeBusy k items t lane v m j g =
    ((replica_at (volume_at k v) j).generation < g) × (g ≤ (replica_at (volume_at t v) j).generation + 1)
    × (((run : Run) × ((replica_at (volume_at k v) j).run ≡ Some run) × (run.goal ≡ g))
    ⊎ ((item : LaneItem) × Contains items item × RunsBeside lane v m g item))

-- a line that deleted a photo of the volume
abbrev pub DeletesOn : Settings → ℕ → LaneItem → Type 0
DeletesOn settings v item = (pair : Pair) × (p : ℕ) × (entry_of_item settings item.item ≡ Some (entry.Del pair)) × (acknowledged item.reply ≡ Some (v, p))

-- a run of before the block may have ended in a delete in which a call of its disk failed
abbrev pub MayEndInDelete : Settings → Known → List LaneItem → Known → ℕ → ℕ → Type 0
MayEndInDelete settings k items t v j =
    Rose (fault_count k (slot_of settings v j)) (fault_count t (slot_of settings v j)) × (item : LaneItem) × Contains items item × DeletesOn settings v item

-- A compaction may have met the replica open at rest, where it could begin: no generation was the last, and no run of before the
-- block stood then.
abbrev pub MayBeAtRest : Settings → Known → List LaneItem → Known → ℕ → ℕ → Type 0
MayBeAtRest settings k items t v j =
    ((replica_at (volume_at k v) j).generation < LAST_GENERATION)
    × (((replica_at (volume_at k v) j).run ≡ None) ⊎ MayEndInDelete settings k items t v j)

abbrev pub CompactIsLegal : Settings → Known → List LaneItem → Known → ℕ → ℕ → ℕ → Option ℕ → Reply → Type 0
CompactIsLegal settings k items t lane v m None Nowhere = Unit {0}
CompactIsLegal settings k items t lane v m None NoMem = Unit {0}
CompactIsLegal settings k items t lane v m None _ = ⊥
CompactIsLegal settings k items t lane v m (Some j) (Compacted v' m' g) = Names v m v' m' × IsOpen k v
CompactIsLegal settings k items t lane v m (Some j) (ReadOnly by) = IsFrozenBy t v by
CompactIsLegal settings k items t lane v m (Some j) (Busy v' m' g) = Names v m v' m' × IsOpen k v × MayBeBusy k items t lane v m j g
CompactIsLegal settings k items t lane v m (Some j) (Worn v' m') =
    Names v m v' m' × IsOpen k v × ((replica_at (volume_at t v) j).generation ≡ LAST_GENERATION)
CompactIsLegal settings k items t lane v m (Some j) (Failed v' m' f) = Names v m v' m' × IsOpen k v × MayBeAtRest settings k items t v j
CompactIsLegal settings k items t lane v m (Some j) NoMem = Unit {0}
CompactIsLegal settings k items t lane v m (Some j) _ = ⊥

-- EVERY LINE OF A BLOCK

abbrev pub UrlIsLegal : Settings → Known → CoreTag → Pair → Reply → Type 0
UrlIsLegal settings t tag pair (Url d url) =
    HomeAt t pair d (Some url.volume) × (url.pair ≡ pair) × (url.cookie ≡ cookie_of settings.secret pair.key)
    × (url.machine ≡ machine_of settings url.volume (start_of settings tag))
UrlIsLegal settings t tag pair (Unknown d) = HomeAt t pair d None
UrlIsLegal settings t tag pair NoMem = Unit {0}
UrlIsLegal settings t tag pair _ = ⊥

abbrev pub CommandInLane : Settings → Known → List LaneItem → Known → CoreTag → Command → Reply → Type 0
CommandInLane settings k items t tag (command.Put pair bytes) reply = PutIsLegal settings k items t tag pair bytes reply
CommandInLane settings k items t tag (command.Read pair cookie) reply = ReadIsLegal settings t (start_of settings tag) pair cookie reply
CommandInLane settings k items t tag (command.Get url) reply = GetIsLegal settings t url (replica_on settings url.volume url.machine) reply
CommandInLane settings k items t tag (command.Del pair) reply = DelIsLegal settings k t pair reply
CommandInLane settings k items t tag (command.Url pair) reply = UrlIsLegal settings t tag pair reply
CommandInLane settings k items t tag (command.Flush v m) reply = FlushIsLegal settings k items t v m (replica_on settings v m) reply
CommandInLane settings k items t tag (command.Compact v m) reply = CompactIsLegal settings k items t tag.lane v m (replica_on settings v m) reply
CommandInLane settings k items t tag _ reply = ⊥

abbrev pub ItemInLane : Settings → Known → List LaneItem → Known → CoreTag → Item → Reply → Type 0
ItemInLane settings k items t tag (asks.Command command) reply = CommandInLane settings k items t tag command reply
ItemInLane settings k items t tag asks.Bad reply = reply ≡ BadLine

abbrev pub LineIsLegal : Settings → Known → List LaneItem → Known → LaneItem → Type 0
LineIsLegal settings k items t item = ItemInLane settings k items t (tag_of item) item.item item.reply

-- COUNTS: each printed count came up in the block, and each replica passed over is laid to the lane's arm or to its disk

-- counts of the disk of v on m that a reply prints
abbrev pub cause_of_disk : ℕ → Passed → Option ℕ
cause_of_disk m passed = by_machine (passed.machine == m) passed.cause
  where
    by_machine : Bool → Cause → Option ℕ
    by_machine true (Disk f) = Some f
    by_machine true (Arm f) = None
    by_machine true (Damage at) = None
    by_machine false cause = None

abbrev pub disk_prints : ℕ → ℕ → Reply → List ℕ
disk_prints v m reply = prints (told reply)
  where
    prints : Told → List ℕ
    prints (Blamed v' m' f) = cond ((v' == v) && (m' == m)) (f ∷ []) []
    prints (ShownByNone v' p d causes) = cond (v' == v) (filter_map (cause_of_disk m) causes) []
    prints (Changed v p d) = []
    prints (Shown v m p d) = []
    prints (ShownNothing v p d) = []
    prints (ShownRows d) = []
    prints (BlamedRows f) = []
    prints (Recorded v m n) = []
    prints (Made v m g) = []
    prints Wanted = []
    prints RefusedIt = []
    prints NotInBlocks = []

abbrev pub row_faults : Reply → List ℕ
row_faults reply = prints (told reply)
  where
    prints : Told → List ℕ
    prints (BlamedRows f) = f ∷ []
    prints (Changed v p d) = []
    prints (Shown v m p d) = []
    prints (ShownByNone v p d causes) = []
    prints (ShownNothing v p d) = []
    prints (ShownRows d) = []
    prints (Blamed v m f) = []
    prints (Recorded v m n) = []
    prints (Made v m g) = []
    prints Wanted = []
    prints RefusedIt = []
    prints NotInBlocks = []

abbrev pub cause_of_arm : Passed → Option ℕ
cause_of_arm passed = at_arm passed.cause
  where
    at_arm : Cause → Option ℕ
    at_arm (Arm f) = Some f
    at_arm (Disk f) = None
    at_arm (Damage at) = None

abbrev pub arm_prints : Reply → List ℕ
arm_prints reply = prints (told reply)
  where
    prints : Told → List ℕ
    prints (ShownByNone v p d causes) = filter_map cause_of_arm causes
    prints (Changed v p d) = []
    prints (Shown v m p d) = []
    prints (ShownNothing v p d) = []
    prints (ShownRows d) = []
    prints (Blamed v m f) = []
    prints (BlamedRows f) = []
    prints (Recorded v m n) = []
    prints (Made v m g) = []
    prints Wanted = []
    prints RefusedIt = []
    prints NotInBlocks = []

abbrev pub Differ : ℕ → ℕ → Type 0
Differ f g = (f ≢ g) ⊎ (g ≡ 2 ^ 64 - 1)

abbrev pub Climbs : ℕ → ℕ → Type 0
Climbs f g = (f < g) ⊎ (g ≡ 2 ^ 64 - 1)

-- counts of one disk are pairwise different, and rise in each lane; those of one arm rise
abbrev pub CameUpEach : (ℕ → ℕ → Type 0) → ℕ → ℕ → List ℕ → Type 0
CameUpEach apart before after printed = Each (λ f. CameUp before f after) printed × EachPair apart printed

-- where a reader began, and the replicas that it passed over
abbrev pub start_by : Settings → LaneItem → ℕ
start_by settings item = start_at item.item
  where
    start_at : Item → ℕ
    start_at (asks.Command (command.Get url)) = unwrap_or (replica_on settings url.volume url.machine) 0
    start_at (asks.Command (command.Put pair bytes)) = start_of settings (tag_of item)
    start_at (asks.Command (command.Read pair cookie)) = start_of settings (tag_of item)
    start_at (asks.Command (command.Del pair)) = start_of settings (tag_of item)
    start_at (asks.Command (command.Url pair)) = start_of settings (tag_of item)
    start_at (asks.Command (command.Flush v m)) = start_of settings (tag_of item)
    start_at (asks.Command (command.Compact v m)) = start_of settings (tag_of item)
    start_at (asks.Command (command.Begin v m)) = start_of settings (tag_of item)
    start_at (asks.Command (command.Step v m cells)) = start_of settings (tag_of item)
    start_at (asks.Command (command.Finish v m)) = start_of settings (tag_of item)
    start_at (asks.Command (command.Drain m)) = start_of settings (tag_of item)
    start_at (asks.Command (command.Undrain m)) = start_of settings (tag_of item)
    start_at (asks.Command (command.Fuse v m calls)) = start_of settings (tag_of item)
    start_at (asks.Command (command.FuseDir calls)) = start_of settings (tag_of item)
    start_at (asks.Command (command.Restart pick)) = start_of settings (tag_of item)
    start_at asks.Bad = start_of settings (tag_of item)

abbrev pub before_machine : Settings → ℕ → ℕ → ℕ → List ℕ
before_machine settings start v m = take_while (λ j. not (machine_of settings v j == m)) (order_from settings start)

abbrev pub passed_over : Settings → ℕ → ℕ → Reply → List ℕ
passed_over settings start v reply = passed (told reply)
  where
    passed : Told → List ℕ
    passed (Shown v' m p d) = cond (v' == v) (before_machine settings start v m) []
    passed (ShownByNone v' p d causes) = cond (v' == v) (order_from settings start) []
    passed (Changed v p d) = []
    passed (ShownNothing v p d) = []
    passed (ShownRows d) = []
    passed (Blamed v m f) = []
    passed (BlamedRows f) = []
    passed (Recorded v m n) = []
    passed (Made v m g) = []
    passed Wanted = []
    passed RefusedIt = []
    passed NotInBlocks = []

-- Which replicas, by line and number, are laid to the lane's arm. The others are laid to their disks.
abbrev pub Laying : Type 0
Laying = ℕ → ℕ → Bool

abbrev pub laid_to_disk : Settings → Laying → ℕ → ℕ → LaneItem → ℕ
laid_to_disk settings to_arm v j item = count_by (λ i. (i == j) && not (to_arm item.line i)) (passed_over settings (start_by settings item) v item.reply)

abbrev pub laid_to_arm : Settings → Laying → LaneItem → ℕ
laid_to_arm settings to_arm item =
    sum_by (λ v. count_by (to_arm item.line) (passed_over settings (start_by settings item) v item.reply)) (volumes_of settings)

-- an unreadable reply says itself what its replicas are laid to
abbrev pub LaysAsPrinted : Settings → Laying → LaneItem → Type 0
LaysAsPrinted settings to_arm item =
    (v p d : ℕ) (causes : List Passed) → item.reply ≡ Unreadable v p d causes
    → AllZip (λ j passed. LaidTo (to_arm item.line j) passed.cause) (order_from settings (start_by settings item)) causes
  where
    LaidTo : Bool → Cause → Type 0
    LaidTo to_arm (Arm f) = to_arm ≡ true
    LaidTo to_arm (Disk f) = to_arm ≡ false
    LaidTo to_arm (Damage at) = ⊥

abbrev pub RoseBy : ℕ → ℕ → ℕ → Type 0
RoseBy n before after = (before + n ≤ after) ⊎ (after ≡ 2 ^ 64 - 1)

abbrev pub failed_on : ℕ → ℕ → Reply → ℕ
failed_on v m reply = failed (told reply)
  where
    failed : Told → ℕ
    failed (Blamed v' m' f) = cond ((v' == v) && (m' == m)) 1 0
    failed (Changed v p d) = 0
    failed (Shown v m p d) = 0
    failed (ShownByNone v p d causes) = 0
    failed (ShownNothing v p d) = 0
    failed (ShownRows d) = 0
    failed (BlamedRows f) = 0
    failed (Recorded v m n) = 0
    failed (Made v m g) = 0
    failed Wanted = 0
    failed RefusedIt = 0
    failed NotInBlocks = 0

abbrev pub DiskIsLegal : Settings → Known → List LaneItem → Known → Laying → ℕ → ℕ → Type 0
DiskIsLegal settings k items t to_arm v j =
    CameUpEach Differ (fault_count k (slot_of settings v j)) (fault_count t (slot_of settings v j)) (flat_map (λ item. disk_prints v (machine_of settings v j) item.reply) items)
    × RoseBy (sum_by (laid_to_disk settings to_arm v j) items + sum_by (λ item. failed_on v (machine_of settings v j) item.reply) items)
    (fault_count k (slot_of settings v j)) (fault_count t (slot_of settings v j))
    × Each (λ lane. EachPair Climbs (flat_map (λ item. disk_prints v (machine_of settings v j) item.reply) (lane_items items lane))) all_lanes

abbrev pub ArmIsLegal : Settings → Known → List LaneItem → Known → Laying → ℕ → Type 0
ArmIsLegal settings k items t to_arm lane =
    CameUpEach Climbs (arm_count k lane) (arm_count t lane) (flat_map (λ item. arm_prints item.reply) (lane_items items lane))
    × RoseBy (sum_by (laid_to_arm settings to_arm) (lane_items items lane)) (arm_count k lane) (arm_count t lane)

-- how many times a line failed on the Directory's disk
abbrev pub row_failed : LaneItem → ℕ
row_failed item = length (row_faults item.reply)

abbrev pub RowDiskIsLegal : Known → List LaneItem → Known → Type 0
RowDiskIsLegal k items t =
    CameUpEach Differ (fault_count k 0) (fault_count t 0) (flat_map (λ item. row_faults item.reply) items)
    × RoseBy (sum_by row_failed items) (fault_count k 0) (fault_count t 0)

pub record CountsAreLegal (settings : Settings) (k : Known) (items : List LaneItem) (t : Known) : Type 0 where
  pub faults : NoneFalls k.faults t.faults
  pub arms : NoneFalls k.arms t.arms
  pub to_arm : Laying
  pub as_printed : Each (LaysAsPrinted settings to_arm) items
  pub disk : Each (λ v. Each (DiskIsLegal settings k items t to_arm v) (replicas_of settings)) (volumes_of settings)
  pub directory : RowDiskIsLegal k items t
  pub arm : Each (ArmIsLegal settings k items t to_arm) all_lanes

-- WHAT IS LEFT OF EACH REPLICA

-- the generations that a block made of a replica, and the records that it flushed there
abbrev pub made_on : ℕ → ℕ → LaneItem → List ℕ
made_on v m item = made (told item.reply)
  where
    made : Told → List ℕ
    made (Made v' m' g) = cond ((v' == v) && (m' == m)) (g ∷ []) []
    made (Changed v p d) = []
    made (Shown v m p d) = []
    made (ShownByNone v p d causes) = []
    made (ShownNothing v p d) = []
    made (ShownRows d) = []
    made (Blamed v m f) = []
    made (BlamedRows f) = []
    made (Recorded v m n) = []
    made Wanted = []
    made RefusedIt = []
    made NotInBlocks = []

abbrev pub flushed_on : ℕ → ℕ → LaneItem → List ℕ
flushed_on v m item = flushed (told item.reply)
  where
    flushed : Told → List ℕ
    flushed (Recorded v' m' n) = cond ((v' == v) && (m' == m)) (n ∷ []) []
    flushed (Changed v p d) = []
    flushed (Shown v m p d) = []
    flushed (ShownByNone v p d causes) = []
    flushed (ShownNothing v p d) = []
    flushed (ShownRows d) = []
    flushed (Blamed v m f) = []
    flushed (BlamedRows f) = []
    flushed (Made v m g) = []
    flushed Wanted = []
    flushed RefusedIt = []
    flushed NotInBlocks = []

-- what a reply tells of the generation of the replica on m: one that it made, the one before that which another line makes, or the last one
abbrev pub generation_print : ℕ → ℕ → LaneItem → List Printed
generation_print v m item = prints item.reply
  where
    prints : Reply → List Printed
    prints (Compacted v' m' g) = cond ((v' == v) && (m' == m)) (printed g true ∷ []) []
    prints (Busy v' m' g) = cond ((v' == v) && (m' == m)) (printed (g - 1) false ∷ []) []
    prints (Worn v' m') = cond ((v' == v) && (m' == m)) (printed LAST_GENERATION false ∷ []) []
    prints (Stored v p d c) = []
    prints (Deleted v p d) = []
    prints (Photo v m p d bytes) = []
    prints (Gone v m p d) = []
    prints (Absent v p d) = []
    prints (WrongCookie v m p d) = []
    prints (Unknown d) = []
    prints (Moved v d) = []
    prints (Url d url) = []
    prints (Full tries) = []
    prints (ReadOnly tries) = []
    prints ReadOnlyDir = []
    prints (Failed v m f) = []
    prints (FailedDir f) = []
    prints (Unreadable v p d causes) = []
    prints (Damaged v m at) = []
    prints (Flushed v m n) = []
    prints (Begun v m g) = []
    prints (Stepped v m n) = []
    prints (Idle v m) = []
    prints (Drained m) = []
    prints (Undrained m) = []
    prints (Fused v m n) = []
    prints (FusedDir n) = []
    prints Nowhere = []
    prints (Restarted d) = []
    prints BadLine = []
    prints NoMem = []

abbrev pub is_failed : Reply → Bool
is_failed reply = failed (told reply)
  where
    failed : Told → Bool
    failed (Blamed v m f) = true
    failed (Changed v p d) = false
    failed (Shown v m p d) = false
    failed (ShownByNone v p d causes) = false
    failed (ShownNothing v p d) = false
    failed (ShownRows d) = false
    failed (BlamedRows f) = false
    failed (Recorded v m n) = false
    failed (Made v m g) = false
    failed Wanted = false
    failed RefusedIt = false
    failed NotInBlocks = false

abbrev pub is_wanting : Reply → Bool
is_wanting reply = wanting (told reply)
  where
    wanting : Told → Bool
    wanting Wanted = true
    wanting (Changed v p d) = false
    wanting (Shown v m p d) = false
    wanting (ShownByNone v p d causes) = false
    wanting (ShownNothing v p d) = false
    wanting (ShownRows d) = false
    wanting (Blamed v m f) = false
    wanting (BlamedRows f) = false
    wanting (Recorded v m n) = false
    wanting (Made v m g) = false
    wanting RefusedIt = false
    wanting NotInBlocks = false

-- the line that froze the volume is a compact of the replica on m, with such a reply
abbrev pub froze_at_compact : ℕ → ℕ → (Reply → Bool) → Option LaneItem → Bool
froze_at_compact v m says None = false
froze_at_compact v m says (Some item) = is_compacted v m item && says item.reply

-- The printed generations are all that were made, but for the swap behind which want of memory froze the volume, which comes last.
-- What a lane prints of them rises.
pub record GenerationsAreLegal (settings : Settings) (items : List LaneItem) (v j : ℕ) (froze : Option LaneItem) (old new : ReplicaKnown) : Type 0 where
  pub inside_range : Each
      (λ g. (old.generation < g) × (g + cond (froze_at_compact v (machine_of settings v j) is_wanting froze) 1 0 ≤ new.generation))
      (flat_map (made_on v (machine_of settings v j)) items)
  pub once : EachPair (λ g h. g ≢ h) (flat_map (made_on v (machine_of settings v j)) items)
  pub all : new.generation
      ≡ old.generation + length (flat_map (made_on v (machine_of settings v j)) items) + cond (froze_at_compact v (machine_of settings v j) is_wanting froze) 1 0
  pub last : (old.generation < new.generation) → (new.generation ≤ LAST_GENERATION)
  pub rising : Each (λ lane. EachPair InOrder (flat_map (generation_print v (machine_of settings v j)) (lane_items items lane))) all_lanes

-- how far a replica grew, where it was not swapped and where it was
abbrev pub Grew : Known → ℕ → List Logged → ReplicaKnown → ReplicaKnown → Type 0
Grew t v new_log old new =
    ((new.generation ≡ old.generation) × (new.end ≡ old.end + sum_by put_total new_log) × (new.cells ≡ old.cells + count_by is_put new_log))
    ⊎ ((old.generation < new.generation)
    × (live_end (now (volume_at t v) new) ≤ new.end) × (new.end ≤ old.end + sum_by put_total new_log)
    × (length (now (volume_at t v) new) ≤ new.cells) × (new.cells ≤ old.cells + count_by is_put new_log))

abbrev pub BareIsLegal : List ℕ → List Logged → ReplicaKnown → ReplicaKnown → Type 0
BareIsLegal flushed new_log old new =
    (((flushed ≢ []) ⊎ (old.generation < new.generation)) → new.bare ≤ count_by is_put new_log)
    × (((new.generation ≡ old.generation) × (sum_by (λ n. n) flushed + new.bare ≡ old.bare + count_by is_put new_log))
    ⊎ ((old.generation < new.generation) × (sum_by (λ n. n) flushed + new.bare ≤ old.bare + count_by is_put new_log)))

abbrev pub run_longer : ℕ → Run → Run
run_longer n run = record run { left = run.left + n }

-- a run of before the block ended: in a delete in which a call of its disk failed, or as the volume froze
abbrev pub RunMayEnd : Settings → Known → List LaneItem → Known → ℕ → ℕ → ReplicaKnown → ReplicaKnown → Type 0
RunMayEnd settings k items t v j old new =
    MayEndInDelete settings k items t v j
    ⊎ (IsOpen k v × ((m : ℕ) × ((volume_at t v).frozen ≡ Some m)) × (new.generation ≡ old.generation))

-- No run stood before the block, and none is left; or one stands on, with the new cells left besides; or it ended.
abbrev pub RunIsLegal : Settings → Known → List LaneItem → Known → ℕ → ℕ → List Logged → ReplicaKnown → ReplicaKnown → Type 0
RunIsLegal settings k items t v j new_log old new =
    ((old.run ≡ None) × (new.run ≡ None))
    ⊎ ((new.run ≡ option_map (run_longer (count_by is_put new_log)) old.run) × (new.generation ≡ old.generation)
    × ((volume_at t v).frozen ≡ (volume_at k v).frozen))
    ⊎ ((new.run ≡ None) × RunMayEnd settings k items t v j old new)

-- an index gets stuck by a flush that failed, and loose as its replica is swapped
abbrev pub StuckIsLegal : List LaneItem → ℕ → ℕ → ReplicaKnown → ReplicaKnown → Type 0
StuckIsLegal items v m old new =
    ((new.stuck ≡ old.stuck) × (new.generation ≡ old.generation))
    ⊎ ((new.stuck ≡ true) × (item : LaneItem) × Contains items item × SticksBy v m item)
    ⊎ ((new.stuck ≡ false) × (old.generation < new.generation))

-- a line stands before another
abbrev pub StandsBefore : List LaneItem → LaneItem → LaneItem → Type 0
StandsBefore items a b = (i : ℕ) × (n : ℕ) × (i < n) × (slice_get items i ≡ Some a) × (slice_get items n ≡ Some b)

-- a line may have come before another: in one lane it stands before it
abbrev pub MayPrecede : List LaneItem → LaneItem → LaneItem → Type 0
MayPrecede items a b = a.lane ≡ b.lane → StandsBefore items a b

-- a line swapped the replica on m, and may have done so where it is said
abbrev pub SwappedWhere : List LaneItem → ℕ → ℕ → (LaneItem → Type 0) → Type 0
SwappedWhere items v m Where = (swap : LaneItem) × Contains items swap × (made_on v m swap ≢ []) × Where swap

-- a flush of the replica on m that left its index stuck, or was refused on its machine: it met the index stuck or the volume frozen
abbrev pub MetStuck : ℕ → ℕ → LaneItem → Type 0
MetStuck v m item = SticksBy v m item ⊎ Met item.item item.reply
  where
    MetAs : Command → Reply → Type 0
    MetAs (command.Flush v' m') (ReadOnly (by ∷ [])) = Names v m v' m' × Names v m by.volume by.machine
    MetAs _ _ = ⊥

    Met : Item → Reply → Type 0
    Met (asks.Command command) reply = MetAs command reply
    Met asks.Bad reply = ⊥

-- a flush of the replica on m that met its index loose
abbrev pub MetLoose : ℕ → ℕ → LaneItem → Type 0
MetLoose v m item = Met item.item item.reply
  where
    MetAs : Command → Reply → Type 0
    MetAs (command.Flush v' m') (Flushed v'' m'' n) = Names v m v' m'
    MetAs (command.Flush v' m') (Failed v'' m'' f) = Names v m v' m'
    MetAs _ _ = ⊥

    Met : Item → Reply → Type 0
    Met (asks.Command command) reply = MetAs command reply
    Met asks.Bad reply = ⊥

-- how many times a line left the index of the replica on m stuck
abbrev pub sticks_on : ℕ → ℕ → LaneItem → ℕ
sticks_on v m item = sticks item.item item.reply
  where
    failing : Bool → Told → ℕ
    failing here (Changed v p d) = 0
    failing here (Shown v m p d) = 0
    failing here (ShownByNone v p d causes) = 0
    failing here (ShownNothing v p d) = 0
    failing here (ShownRows d) = 0
    failing here (Blamed v m f) = cond here 1 0
    failing here (BlamedRows f) = 0
    failing here (Recorded v m n) = 0
    failing here (Made v m g) = 0
    failing here Wanted = 0
    failing here RefusedIt = 0
    failing here NotInBlocks = 0

    sticks_as : Command → Reply → ℕ
    sticks_as (command.Flush v' m') reply = failing ((v' == v) && (m' == m)) (told reply)
    sticks_as (command.Put pair bytes) reply = 0
    sticks_as (command.Read pair cookie) reply = 0
    sticks_as (command.Get url) reply = 0
    sticks_as (command.Del pair) reply = 0
    sticks_as (command.Url pair) reply = 0
    sticks_as (command.Compact v m) reply = 0
    sticks_as (command.Begin v m) reply = 0
    sticks_as (command.Step v m cells) reply = 0
    sticks_as (command.Finish v m) reply = 0
    sticks_as (command.Drain m) reply = 0
    sticks_as (command.Undrain m) reply = 0
    sticks_as (command.Fuse v m calls) reply = 0
    sticks_as (command.FuseDir calls) reply = 0
    sticks_as (command.Restart pick) reply = 0

    sticks : Item → Reply → ℕ
    sticks (asks.Command command) reply = sticks_as command reply
    sticks asks.Bad reply = 0

-- A stuck index is loose only behind a swap of its replica: be it one that was stuck before the block, one that a line of a lane
-- met so before another, or one that a line left so. The last swap may be the one behind which want of memory froze the volume.
-- No index gets stuck twice without a swap.
pub record IndexIsLegal (items : List LaneItem) (v m : ℕ) (froze : Option LaneItem) (old new : ReplicaKnown) : Type 0 where
  pub before : Each (λ b. old.stuck ≡ true → MetLoose v m b → SwappedWhere items v m (λ swap. MayPrecede items swap b)) items
  pub between : EachPair
      (λ a b. a.lane ≡ b.lane → MetStuck v m a → MetLoose v m b → SwappedWhere items v m (λ swap. MayPrecede items a swap × MayPrecede items swap b))
      items
  pub behind : Each
      (λ a. new.stuck ≡ false → SticksBy v m a → SwappedWhere items v m (λ swap. MayPrecede items a swap) ⊎ (froze_at_compact v m is_wanting froze ≡ true))
      items
  pub once : sum_by (sticks_on v m) items + cond old.stuck 1 0 + old.generation ≤ new.generation + cond new.stuck 1 0

pub record ReplicaIsLegal (settings : Settings) (k : Known) (items : List LaneItem) (t : Known) (v : ℕ) (froze : Option LaneItem) (j : ℕ) (old new : ReplicaKnown) : Type 0 where
  pub base : new.base ≡ old.base
  pub generations : GenerationsAreLegal settings items v j froze old new
  pub sizes : Grew t v (new_entries k t v) old new
  pub room : (count_by is_put (new_entries k t v) ≡ 0) ⊎ (new.end + 8 ≤ settings.capacity)
  pub bare : BareIsLegal (flat_map (flushed_on v (machine_of settings v j)) items) (new_entries k t v) old new
  pub run : RunIsLegal settings k items t v j (new_entries k t v) old new
  pub stuck : StuckIsLegal items v (machine_of settings v j) old new
  pub index : IndexIsLegal items v (machine_of settings v j) froze old new
  pub poised : new.poised ≡ (old.poised || froze_at_compact v (machine_of settings v j) is_failed froze)

-- WHERE A LINE MET A VOLUME WITHOUT PRINTING ITS FRONT

-- a refusal for want of room on the volume v
abbrev pub is_full_on : ℕ → Refused → Bool
is_full_on v (NoRoom v' m end need) = v' == v
is_full_on v (Closed v' m) = false

-- the refusals of a reply that may be for want of room
abbrev pub refusals_of : Reply → List Refused
refusals_of (Full refused) = refused
refusals_of (Stored v p d c) = []
refusals_of (Deleted v p d) = []
refusals_of (Photo v m p d bytes) = []
refusals_of (Gone v m p d) = []
refusals_of (Absent v p d) = []
refusals_of (WrongCookie v m p d) = []
refusals_of (Unknown d) = []
refusals_of (Moved v d) = []
refusals_of (Url d url) = []
refusals_of (ReadOnly tries) = []
refusals_of ReadOnlyDir = []
refusals_of (Failed v m f) = []
refusals_of (FailedDir f) = []
refusals_of (Unreadable v p d causes) = []
refusals_of (Damaged v m at) = []
refusals_of (Flushed v m n) = []
refusals_of (Begun v m g) = []
refusals_of (Stepped v m n) = []
refusals_of (Compacted v m g) = []
refusals_of (Busy v m g) = []
refusals_of (Idle v m) = []
refusals_of (Worn v m) = []
refusals_of (Drained m) = []
refusals_of (Undrained m) = []
refusals_of (Fused v m n) = []
refusals_of (FusedDir n) = []
refusals_of Nowhere = []
refusals_of (Restarted d) = []
refusals_of BadLine = []
refusals_of NoMem = []

-- a reply tells of the volume what depends on its front, and does not print it: want of room, or the records of a replica
abbrev pub tells_unprinted : ℕ → Reply → Bool
tells_unprinted v (Full refused) = list_any (is_full_on v) refused
tells_unprinted v (Flushed v' m n) = v' == v
tells_unprinted v (Stored w p d c) = false
tells_unprinted v (Deleted w p d) = false
tells_unprinted v (Photo w m p d bytes) = false
tells_unprinted v (Gone w m p d) = false
tells_unprinted v (Absent w p d) = false
tells_unprinted v (WrongCookie w m p d) = false
tells_unprinted v (Unknown d) = false
tells_unprinted v (Moved w d) = false
tells_unprinted v (Url d url) = false
tells_unprinted v (ReadOnly tries) = false
tells_unprinted v ReadOnlyDir = false
tells_unprinted v (Failed w m f) = false
tells_unprinted v (FailedDir f) = false
tells_unprinted v (Unreadable w p d causes) = false
tells_unprinted v (Damaged w m at) = false
tells_unprinted v (Begun w m g) = false
tells_unprinted v (Stepped w m n) = false
tells_unprinted v (Compacted w m g) = false
tells_unprinted v (Busy w m g) = false
tells_unprinted v (Idle w m) = false
tells_unprinted v (Worn w m) = false
tells_unprinted v (Drained m) = false
tells_unprinted v (Undrained m) = false
tells_unprinted v (Fused w m n) = false
tells_unprinted v (FusedDir n) = false
tells_unprinted v Nowhere = false
tells_unprinted v (Restarted d) = false
tells_unprinted v BadLine = false
tells_unprinted v NoMem = false

-- what a line tells of the fronts of the volume: the one at which it met the volume, by its number, or the one that it prints
abbrev pub fronts_told : (ℕ → ℕ) → ℕ → LaneItem → List Printed
fronts_told met v item = cond (tells_unprinted v item.reply) (printed (met item.line) false ∷ []) (volume_print v item.reply)

-- a line swapped the replica that may have come before this one
abbrev pub SwappedBefore : Settings → List LaneItem → ℕ → LaneItem → ℕ → Type 0
SwappedBefore settings items v item j = SwappedWhere items v (machine_of settings v j) (λ swap. MayPrecede items swap item)

-- the volume lacked room at this front as the line's refusal says, if it is for that
abbrev pub LackedRoom : Settings → Known → List LaneItem → Known → ℕ → ℕ → LaneItem → Refused → Type 0
LackedRoom settings k items t v front item (NoRoom v' m end need) =
    v' ≡ v → LacksRoom settings k t v (SwappedBefore settings items v item) front m end need
LackedRoom settings k items t v front item (Closed v' m) = Unit {0}

abbrev pub puts_until : Known → Known → ℕ → ℕ → ℕ
puts_until k t v front = count_by is_put (entries_until k t v front)

-- a line that met the volume at the second front flushed no more records than the puts since the first
abbrev pub FlushedSince : Known → Known → ℕ → ℕ → ℕ → ℕ → Type 0
FlushedSince k t v first second n = n + puts_until k t v first ≤ puts_until k t v second

-- A line flushes the records of the cells without one: of before the block and of the puts until then, and after another flush of
-- the puts since then. Of two lines in different lanes either may have come first.
pub record RecordsAreLegal (k : Known) (items : List LaneItem) (t : Known) (v m : ℕ) (met : ℕ → ℕ) (old new : ReplicaKnown) : Type 0 where
  pub first : Each (λ a. Each (λ n. n ≤ old.bare + puts_until k t v (met a.line)) (flushed_on v m a)) items
  pub between : EachPair
      (λ a b. Each (λ n. Each
      (λ o. FlushedSince k t v (met a.line) (met b.line) o ⊎ ((a.lane ≢ b.lane) × FlushedSince k t v (met b.line) (met a.line) n))
      (flushed_on v m b)) (flushed_on v m a))
      items
  pub last : Each (λ a. Each (λ n. new.bare + puts_until k t v (met a.line) ≤ count_by is_put (new_entries k t v)) (flushed_on v m a)) items

-- Each line that tells of the volume without printing its front met it at some front, where the volume was as the line tells. In each
-- lane these fronts stand in order with those that it prints.
pub record MeetingsAreLegal (settings : Settings) (k : Known) (items : List LaneItem) (t : Known) (v : ℕ) : Type 0 where
  pub met : ℕ → ℕ
  pub fronts : Each
      (λ lane. FrontsGrow (length (volume_at k v).log) (length (volume_at t v).log) (flat_map (fronts_told met v) (lane_items items lane)))
      all_lanes
  pub room : Each (λ item. Each (LackedRoom settings k items t v (met item.line) item) (refusals_of item.reply)) items
  pub records : Each
      (λ j. RecordsAreLegal k items t v (machine_of settings v j) met (replica_at (volume_at k v) j) (replica_at (volume_at t v) j))
      (replicas_of settings)

-- WHAT IS LEFT OF EACH VOLUME

-- A line froze the volume v by this machine, with this change of its own pending, or with none.
abbrev pub Freezes : Settings → Known → List LaneItem → Known → ℕ → ℕ → Option Entry → LaneItem → Type 0
Freezes settings k items t v m change item = FreezesBy item.item item.reply
  where
    -- want of memory froze the pair's home
    Wants : Pair → Type 0
    Wants pair = (m ≡ first_machine settings v) × HomeInBlock k t pair v

    -- the pair had a photo at the last front, behind which the volume takes no change
    Deletes : Pair → Type 0
    Deletes pair = (change ≡ Some (entry.Del pair)) × StoodThen settings t v (length (volume_at t v).log) pair

    FreezesAs : Command → Reply → Type 0
    FreezesAs (command.Put pair bytes) (Failed v' m' f) = Names v m v' m' × (change ≡ Some (put_entry settings pair bytes))
    FreezesAs (command.Put pair bytes) NoMem =
        Wants pair × MayHaveTaken settings k items t (length bytes) v × (change ≡ Some (put_entry settings pair bytes))
    FreezesAs (command.Del pair) (Failed v' m' f) = Names v m v' m' × Deletes pair
    FreezesAs (command.Del pair) NoMem = Wants pair × (closed settings k v ≡ None) × ((change ≡ None) ⊎ Deletes pair)
    FreezesAs (command.Read pair cookie) NoMem = Wants pair × (change ≡ None)
    FreezesAs (command.Get url) NoMem = Wants url.pair × (v ≡ url.volume) × HasReplica settings url.volume url.machine × (change ≡ None)
    FreezesAs (command.Compact v' m') (Failed v'' m'' f) = Names v m v' m' × (change ≡ None)
    FreezesAs (command.Compact v' m') NoMem =
        (v' ≡ v) × (m ≡ first_machine settings v) × HasReplica settings v m' × (change ≡ None)
    FreezesAs _ _ = ⊥

    FreezesBy : Item → Reply → Type 0
    FreezesBy (asks.Command command) reply = FreezesAs command reply
    FreezesBy asks.Bad reply = ⊥

-- what is pending behind a line that left this change pending, or none
abbrev pub pending_behind : Option Pending → LaneItem → Option Entry → Option Pending
pending_behind old item None = old
pending_behind old item (Some change) = Some (record { tag = tag_of item; entry = change; failed = is_failed item.reply })

-- A line froze the volume, and nothing else did.
pub record WasFrozen (settings : Settings) (k : Known) (items : List LaneItem) (t : Known) (v : ℕ) (item : LaneItem) : Type 0 where
  pub among : Contains items item
  pub «open» : IsOpen k v
  pub machine : ℕ
  pub frozen : (volume_at t v).frozen ≡ Some machine
  pub change : Option Entry
  pub freezes : Freezes settings k items t v machine change item
  pub pending : (volume_at t v).pending ≡ pending_behind (volume_at k v).pending item change

abbrev pub FreezeIsLegal : Settings → Known → List LaneItem → Known → ℕ → Option LaneItem → Type 0
FreezeIsLegal settings k items t v None =
    ((volume_at t v).frozen ≡ (volume_at k v).frozen) × ((volume_at t v).pending ≡ (volume_at k v).pending)
FreezeIsLegal settings k items t v (Some item) = WasFrozen settings k items t v item

-- A line that met the volume v frozen in the block: a put or a delete that a machine refused which had not closed the volume
-- before, or a compact or a flush that was refused where the volume was not frozen before, but for a flush whose index may have
-- been stuck.
abbrev pub MetFreeze : Settings → Known → List LaneItem → ℕ → LaneItem → Type 0
MetFreeze settings k items v item = Met item.item item.reply
  where
    Refuses : List Refused → Type 0
    Refuses refused = (m : ℕ) × Contains refused (Closed v m) × (closed settings k v ≢ Some m)

    Freezes : List ClosedBy → Type 0
    Freezes tries = IsOpen k v × ((by : ClosedBy) × Contains tries by × (by.volume ≡ v))

    MetAs : Command → Reply → Type 0
    MetAs (command.Put pair bytes) (Full refused) = Refuses refused
    MetAs (command.Put pair bytes) (ReadOnly tries) = Refuses (map as_closed tries)
    MetAs (command.Del pair) (ReadOnly tries) = Refuses (map as_closed tries)
    MetAs (command.Compact u m) (ReadOnly tries) = Freezes tries
    MetAs (command.Flush u m) (ReadOnly tries) =
        Freezes tries × ((j : ℕ) → replica_on settings u m ≡ Some j → MayBeStuck k items u m j tries → ⊥)
    MetAs _ _ = ⊥

    Met : Item → Reply → Type 0
    Met (asks.Command command) reply = MetAs command reply
    Met asks.Bad reply = ⊥

-- a reply that no frozen volume gives
abbrev pub MetOpen : ℕ → Reply → Type 0
MetOpen v (Stored v' p d c) = v' ≡ v
MetOpen v (Deleted v' p d) = v' ≡ v
MetOpen v (Absent v' p d) = v' ≡ v
MetOpen v (Full refused) = (m : ℕ) × (end : ℕ) × (need : ℕ) × Contains refused (NoRoom v m end need)
MetOpen v (Failed v' m f) = v' ≡ v
MetOpen v (Flushed v' m n) = v' ≡ v
MetOpen v (Compacted v' m g) = v' ≡ v
MetOpen v (Busy v' m g) = v' ≡ v
MetOpen v (Worn v' m) = v' ≡ v
MetOpen v _ = ⊥

-- a flush of the volume v that no freeze refused, so that its index was stuck
abbrev pub RefusedAsStuck : Known → ℕ → LaneItem → Type 0
RefusedAsStuck t v item = Met item.item item.reply
  where
    MetAs : Command → Reply → Type 0
    MetAs (command.Flush u m) (ReadOnly (by ∷ [])) = (by.volume ≡ v) × ((volume_at t v).frozen ≢ Some by.machine)
    MetAs _ _ = ⊥

    Met : Item → Reply → Type 0
    Met (asks.Command command) reply = MetAs command reply
    Met asks.Bad reply = ⊥

-- a line of whose pair the row is for this volume: the line added it, or left it pending as it froze the Directory
abbrev pub GotRow : Known → RowNote → Known → LaneItem → ℕ → Type 0
GotRow k rows t item v =
    Contains rows.rows (record { line = item.line; volume = v })
    ⊎ ((k.directory.frozen ≡ false) × (t.directory.frozen ≡ true)
    × ((pair : Pair) × (t.directory.pending ≡ Some (record { tag = tag_of item; row = record { pair = pair; volume = v } }))))

-- A put whose row is for a try behind the volume v, though v was open before the block and cannot have lacked room: it met v frozen.
abbrev pub PassedFrozen : Settings → Known → List LaneItem → RowNote → Known → ℕ → LaneItem → Type 0
PassedFrozen settings k items rows t v item =
    (pair : Pair) × (bytes : List ℕ) × (w : ℕ) × (item.item ≡ asks.Command (command.Put pair bytes)) × GotRow k rows t item w
    × Contains (take_while (λ u. not (u == w)) (all_tries settings pair)) v × (closed settings k v ≡ None)
    × ((m end need : ℕ) → MayRefuse settings k items t (length bytes) v (NoRoom v m end need) → ⊥)

-- a reader that passed a replica over for a count of its disk, beside the one with which that disk froze the volume
abbrev pub CountedBeside : (ℕ → ℕ → Type 0) → ℕ → Option LaneItem → LaneItem → Type 0
CountedBeside Is v froze item =
    (by : LaneItem) × (m : ℕ) × (f : ℕ) × (g : ℕ) × (p : ℕ) × (d : ℕ) × (causes : List Passed)
    × (froze ≡ Some by) × (told by.reply ≡ Blamed v m f)
    × (item.reply ≡ Unreadable v p d causes) × Contains causes (record { machine = m; cause = Disk g }) × Is f g

-- a line that froze the volume in the block, or that met it frozen then
abbrev pub MetFrozen : Settings → Known → List LaneItem → RowNote → Known → ℕ → Option LaneItem → LaneItem → Type 0
MetFrozen settings k items rows t v froze item =
    (froze ≡ Some item) ⊎ MetFreeze settings k items v item ⊎ PassedFrozen settings k items rows t v item ⊎ CountedBeside (λ f g. f < g) v froze item

-- a line that froze the volume, or that met it open
abbrev pub MetThawed : Known → RowNote → Known → ℕ → Option LaneItem → LaneItem → Type 0
MetThawed k rows t v froze item =
    (froze ≡ Some item) ⊎ MetOpen v item.reply ⊎ RefusedAsStuck t v item ⊎ GotRow k rows t item v ⊎ CountedBeside (λ f g. g < f) v froze item

-- the count with which a disk froze the volume is above all others that a line was answered `failed` with
abbrev pub FreezesLast : List LaneItem → ℕ → Option LaneItem → Type 0
FreezesLast items v froze =
    (by : LaneItem) (m f : ℕ) → froze ≡ Some by → told by.reply ≡ Blamed v m f
    → Each (λ other. (g : ℕ) → other.line ≢ by.line → told other.reply ≡ Blamed v m g → (g < f) ⊎ (f ≡ 2 ^ 64 - 1)) items

-- A freeze, the change that it left pending, and the replica that it left poised or that was swapped before it, are one line's.
-- A lane that met the freeze meets it from then on, and reads at the last front.
pub record VolumeIsLegal (settings : Settings) (k : Known) (items : List LaneItem) (rows : RowNote) (t : Known) (v : ℕ) : Type 0 where
  pub many : length (volume_at t v).replicas ≡ length (volume_at k v).replicas
  pub froze : Option LaneItem
  pub freeze : FreezeIsLegal settings k items t v froze
  pub lanes : EachPair (λ a b. a.lane ≡ b.lane → MetFrozen settings k items rows t v froze a → MetThawed k rows t v froze b → ⊥) items
  pub settled : EachPair
      (λ a b. a.lane ≡ b.lane → MetFrozen settings k items rows t v froze a → Each (IsAt (length (volume_at t v).log)) (volume_print v b.reply))
      items
  pub counted : FreezesLast items v froze
  pub meetings : MeetingsAreLegal settings k items t v
  pub replicas : Each
      (λ j. ReplicaIsLegal settings k items t v froze j (replica_at (volume_at k v) j) (replica_at (volume_at t v) j))
      (replicas_of settings)

-- WHAT IS LEFT OF THE DIRECTORY

-- a reply to a put that may have frozen the Directory
abbrev pub MayHaveFrozen : Reply → Type 0
MayHaveFrozen (FailedDir f) = Unit {0}
MayHaveFrozen NoMem = Unit {0}
MayHaveFrozen _ = ⊥

-- a line that froze the Directory, as this one did, or that met it frozen
abbrev pub MetRowsFrozen : LaneItem → LaneItem → Type 0
MetRowsFrozen froze item = (froze ≡ item) ⊎ (item.reply ≡ ReadOnlyDir)

-- a line that froze the Directory, or that added a row to it
abbrev pub MetRowsOpen : RowNote → LaneItem → LaneItem → Type 0
MetRowsOpen rows froze item = (froze ≡ item) ⊎ (row_added rows item ≢ [])

-- A line froze the Directory, with the row of its pair pending. A lane that met the freeze adds no row from then on, and
-- sees the last front.
pub record RowsWereFrozen (settings : Settings) (k : Known) (items : List LaneItem) (rows : RowNote) (t : Known) : Type 0 where
  pub «open» : k.directory.frozen ≡ false
  pub item : LaneItem
  pub among : Contains items item
  pub pair : Pair
  pub bytes : List ℕ
  pub put : item.item ≡ asks.Command (command.Put pair bytes)
  pub reply : MayHaveFrozen item.reply
  pub volume : ℕ
  pub gets : MayGetRow settings k items t pair (length bytes) volume
  pub pending : RowIsPending t (tag_of item) pair volume
  pub lanes : EachPair (λ a b. a.lane ≡ b.lane → MetRowsFrozen item a → MetRowsOpen rows item b → ⊥) items
  pub settled : EachPair (λ a b. a.lane ≡ b.lane → MetRowsFrozen item a → Each (IsAt (length t.directory.rows)) (row_print b.reply)) items

abbrev pub DirectoryIsLegal : Settings → Known → List LaneItem → RowNote → Known → Type 0
DirectoryIsLegal settings k items rows t =
    ((t.directory.frozen ≡ k.directory.frozen) × (t.directory.pending ≡ k.directory.pending)) ⊎ RowsWereFrozen settings k items rows t

-- THE BLOCK

pub record LegalBlock (settings : Settings) (k : Known) (items : List LaneItem) (logs : List LogNote) (rows : RowNote) (t : Known) : Type 0 where
  pub notes : logs ≡ log_notes settings k t
  pub entered : Each (IsEntered settings k t) items
  pub log : Each (LogIsLegal settings k items t) (volumes_of settings)
  pub homes : RowsAreLegal settings k items rows t
  pub fronts : FrontsAreLegal settings k items rows t
  pub pairs : EachPair (λ a b. a.lane ≡ b.lane → HomesAgree settings k items rows t a b) items
  pub lines : Each (LineIsLegal settings k items t) items
  pub counts : CountsAreLegal settings k items t
  pub volumes : Each (VolumeIsLegal settings k items rows t) (volumes_of settings)
  pub directory : DirectoryIsLegal settings k items rows t
  pub drained : t.drained ≡ k.drained
  pub fuses : t.fuses ≡ k.fuses
  pub many : length t.volumes ≡ length k.volumes
