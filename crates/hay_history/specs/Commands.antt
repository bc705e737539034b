-- What a line of a block did, by its reply.
use Rattle.std.specs.Prelude.{◌≡◌, ◌≢◌, ◌⊎◌, ℕ, ◌+◌, ◌-◌, ◌^◌, ◌<◌, ◌≤◌, ◌==◌, min, not, Bool, true, false, List, [], ◌∷◌, ◌++◌, length, map, take_while, count_by, Contains, Option, Some, None}
use Rattle.std.specs.List.{AllZip, AllByRecursion as Each, list_any}
use Rattle.hay_needle.specs.declared.needle.Pair.{Pair}
use Rattle.hay_needle.specs.declared.needle.Cookie.{Cookie}
use Rattle.hay_needle.specs.declared.needle.Outcome.{Outcome}
use Rattle.hay_needle.specs.declared.needle.Outcome.TheVariants as outcome
use Rattle.hay_needle.specs.declared.settings.Settings.{Settings}
use Rattle.hay_needle.specs.Tables.{live_end, outcome_at}
use Rattle.hay_needle.specs.declared.settings.TheConstants.{LAST_GENERATION}
use Rattle.hay_disk.specs.Counts.{Rose}
use Rattle.hay_url.specs.declared.Url.{Url as UrlParts}
use Rattle.hay_url.specs.Url.{cookie_of}
use Rattle.hay_script.specs.declared.Command.{Command}
use Rattle.hay_script.specs.declared.Command.TheVariants as command
use Rattle.hay_reply.specs.declared.Refused.{Refused}
use Rattle.hay_reply.specs.declared.ClosedBy.{ClosedBy}
use Rattle.hay_reply.specs.declared.Cause.{Cause}
use Rattle.hay_reply.specs.declared.Cause.TheVariants.{Arm, Disk, Damage}
use Rattle.hay_reply.specs.declared.Passed.{Passed}
use Rattle.hay_reply.specs.declared.Reply.{Reply}
use Rattle.hay_reply.specs.declared.Reply.TheVariants.{Stored, Deleted, Photo, Gone, Absent, WrongCookie, Unknown, Moved, Url, Full, ReadOnly, ReadOnlyDir, Failed, FailedDir}
use Rattle.hay_reply.specs.declared.Reply.TheVariants.{Unreadable, Flushed, Begun, Stepped, Compacted, Busy, Idle, Worn, Drained, Undrained, Fused, FusedDir, Nowhere, BadLine}
use Rattle.hay_reply.specs.declared.Reply.TheVariants.{NoMem}
use Rattle.hay_core.specs.declared.entry.Entry.{Entry}
use Rattle.hay_core.specs.declared.entry.Entry.TheVariants as entry
use Rattle.hay_core.specs.declared.entry.CoreTag.{CoreTag}
use Rattle.hay_legal.specs.declared.known.HomeRow.{HomeRow}
use Rattle.hay_legal.specs.declared.known.Known.{Known}
use Rattle.hay_legal.specs.declared.known.Run.{Run}
use Rattle.hay_legal.specs.declared.turn.Item.{Item}
use Rattle.hay_legal.specs.declared.turn.Item.TheVariants as asks
use Rattle.hay_legal.specs.declared.turn.LaneItem.{LaneItem}
use Rattle.hay_legal.specs.Known.{CameUp, EachPair, NoneFalls, all_tries, arm_count, disk_count, fault_count, fuse_count, machine_of, now, replica_at, replica_on, replicas_of}
use Rattle.hay_legal.specs.Known.{slot_of, stands, volume_at}
use Rattle.hay_legal.specs.Plain.{ArmRises, GetShows, Names, as_closed, first_machine, wants_room, order_from, put_entry, start_of}
use Rattle.hay_legal.specs.Blocks.{tag_of}
use Rattle.hay_legal.specs.Subject.{IsOf}
use Rattle.hay_history.specs.LaneSteps.{Did, Follows, FollowsRows, RowDid, RowsStanding, Standing, Step}
use Rattle.hay_history.specs.LaneSteps.Did.{Begins, Ends, Entered, Examines, Flushes, Freezes, Fuses, Pends, Poises, Sticks, Swaps, Tries}
use Rattle.hay_history.specs.LaneSteps.RowDid.{AddsRow, Drains, FusesRow, PendsRow}
use Rattle.hay_history.specs.Histories.{Course, HasRunOf, History, IsLater, IsMoment, IsRowMoment, NoRows, NoSteps, OneRowStep, OneStep, OneTry, OnlyOn, Seen, SeesClosed}
use Rattle.hay_history.specs.Histories.{SeesFrozen, SeesHome, SeesOpen, SeesRefusal, SeesTaker, behind, changes, closing_then, first_of, first_rows, own, own_rows, refusal_then}
use Rattle.hay_history.specs.Histories.{rows_behind, rows_standing, standing, volume_then}

-- COUNTS

-- in this step of a volume a call of the disk of replica j failed, and its count rose to f
abbrev pub RoseIn : Course → ℕ → ℕ → ℕ → ℕ → Type 0
RoseIn c v place j f =
    Rose ((standing c v place).faults j) ((standing c v (place + 1)).faults j) × (f ≡ (standing c v (place + 1)).faults j)

-- the line has no step on the volume, or on the Directory, behind this one
abbrev pub IsLast : Course → ℕ → ℕ → Type 0
IsLast c v place = Each (λ at. at.0 ≤ place) (own c v)

abbrev pub IsLastRow : Course → ℕ → Type 0
IsLastRow c place = Each (λ at. at.0 ≤ place) (own_rows c)

-- the line's last step on a volume is of the replica on this machine, and its disk's count rose in it to f
abbrev pub FailedIn : Course → ℕ → ℕ → ℕ → ℕ → Type 0
FailedIn c v m place f = (j : ℕ) × (replica_on c.settings v m ≡ Some j) × RoseIn c v place j f × IsLast c v place

-- ROWS

-- The line added the row of its pair: at the try that it saw take the photo.
pub record AddedRow (c : Course) (pair : Pair) (size : ℕ) : Type 0 where
  pub row : HomeRow
  pub step : OneRowStep c (AddsRow row)
  pub own_pair : row.pair ≡ pair
  pub taker : SeesTaker c pair size row.volume

abbrev pub MayAddRow : Course → Pair → ℕ → Type 0
MayAddRow c pair size = NoRows c ⊎ AddedRow c pair size

-- PUTS

pub record PutStored (c : Course) (pair : Pair) (bytes : List ℕ) (v p d : ℕ) (cookie : Cookie) : Type 0 where
  pub row : MayAddRow c pair (length bytes)
  pub home : SeesHome c pair d (Some v)
  pub below : v < (c.settings).volumes
  pub own_cookie : cookie ≡ cookie_of (c.settings).secret pair.key
  pub elsewhere : OnlyOn c v
  pub step : OneStep c v (Entered (entry.Put pair cookie bytes))
  pub room : refusal_then c v step.place (length bytes) ≡ None
  pub position : p ≡ length (volume_then c v step.place).log + 1

-- each try refused the photo, or the pair's home did
abbrev pub SeesRefusals : Course → Pair → ℕ → List Refused → Type 0
SeesRefusals c pair size refused =
    ((d : ℕ) × SeesHome c pair d None) × AllZip (SeesRefusal c size) (all_tries c.settings pair) refused

abbrev pub HomeRefuses : Course → Pair → ℕ → List Refused → Type 0
HomeRefuses c pair size (refused ∷ []) = (d : ℕ) × (v : ℕ) × SeesHome c pair d (Some v) × SeesRefusal c size v refused
HomeRefuses c pair size _ = ⊥

pub record PutRefused (c : Course) (pair : Pair) (size : ℕ) (refused : List Refused) : Type 0 where
  pub row : MayAddRow c pair size
  pub nothing : NoSteps c
  pub because : (SeesRefusals c pair size refused × NoRows c) ⊎ HomeRefuses c pair size refused

pub record PutFailed (c : Course) (pair : Pair) (bytes : List ℕ) (v m f : ℕ) : Type 0 where
  pub row : MayAddRow c pair (length bytes)
  pub d : ℕ
  pub home : SeesHome c pair d (Some v)
  pub below : v < (c.settings).volumes
  pub elsewhere : OnlyOn c v
  pub step : OneStep c v (Pends m (put_entry c.settings pair bytes) true)
  pub room : refusal_then c v step.place (length bytes) ≡ None
  pub failed : FailedIn c v m step.place f

-- the line froze the Directory with the row of its pair pending, for the try that it saw take the photo
pub record RowPends (c : Course) (pair : Pair) (size : ℕ) : Type 0 where
  pub v : ℕ
  pub step : OneRowStep c (PendsRow (record { pair = pair; volume = v }))
  pub taker : SeesTaker c pair size v

pub record PutRowFailed (c : Course) (pair : Pair) (size f : ℕ) : Type 0 where
  pub nothing : NoSteps c
  pub pends : RowPends c pair size
  pub rose : Rose (rows_standing c (pends.step).place).faults (rows_standing c ((pends.step).place + 1)).faults
  pub printed : f ≡ (rows_standing c ((pends.step).place + 1)).faults
  pub last : IsLastRow c (pends.step).place

-- For want of memory the line froze the home of its pair with its change pending. It had seen that the volume takes it.
pub record LeftPending (c : Course) (pair : Pair) (change : Entry) (Takes : ℕ → ℕ → Type 0) : Type 0 where
  pub d : ℕ
  pub v : ℕ
  pub home : SeesHome c pair d (Some v)
  pub elsewhere : OnlyOn c v
  pub step : OneStep c v (Pends (first_machine c.settings v) change false)
  pub takes : Takes v step.place

abbrev pub PutWanting : Course → Pair → List ℕ → Type 0
PutWanting c pair bytes =
    (NoSteps c × RowPends c pair (length bytes))
    ⊎ (MayAddRow c pair (length bytes)
    × (NoSteps c ⊎ LeftPending c pair (put_entry c.settings pair bytes) (λ v n. refusal_then c v n (length bytes) ≡ None)))

abbrev pub PutDid : Course → Pair → List ℕ → Reply → Type 0
PutDid c pair bytes (Stored v p d cookie) = PutStored c pair bytes v p d cookie
PutDid c pair bytes (Full refused) = PutRefused c pair (length bytes) refused × (list_any wants_room refused ≡ true)
PutDid c pair bytes (ReadOnly by) = PutRefused c pair (length bytes) (map as_closed by)
PutDid c pair bytes ReadOnlyDir =
    NoSteps c × NoRows c × ((d : ℕ) × SeesHome c pair d None) × ((v : ℕ) × SeesTaker c pair (length bytes) v)
    × ((moment : ℕ) × IsRowMoment c moment × (((rows_standing c moment).directory).frozen ≡ true))
PutDid c pair bytes (Failed v m f) = PutFailed c pair bytes v m f
PutDid c pair bytes (FailedDir f) = PutRowFailed c pair (length bytes) f
PutDid c pair bytes NoMem = PutWanting c pair bytes
PutDid c pair bytes _ = ⊥

-- READS

-- the line changed nothing, and where its steps have a purpose it was to look at places of the volume v
abbrev pub OnlyLooks : Course → ℕ → Type 0
OnlyLooks c v = NoRows c × OnlyOn c v × Each (λ at. (at.1).did ≡ Tries) (own c v)

-- a step of the line on the volume v in which the count of replica j's disk rose
abbrev pub LookFailed : Course → ℕ → ℕ → ℕ → Type 0
LookFailed c v j f = (at : ℕ × Step) × Contains (own c v) at × RoseIn c v at.0 j f

-- Replicas that were passed over: at the arm where it is said so, whose count rose once for each, and else at their disks.
pub record PassedOver (c : Course) (v : ℕ) (passed : List ℕ) : Type 0 where
  pub to_arm : ℕ → Bool
  pub arm : ((c.from).arm + count_by to_arm passed ≤ (c.to).arm) ⊎ ((c.to).arm ≡ 2 ^ 64 - 1)
  pub disks : Each (λ j. (to_arm j ≡ true) ⊎ ((f : ℕ) × LookFailed c v j f)) passed

-- The replica on this machine showed what stood at the pair at a front of the volume, with its home at a front of the Directory.
pub record Showed (c : Course) (start : ℕ) (pair : Pair) (v m p d : ℕ) (shown : Outcome) : Type 0 where
  pub home : SeesHome c pair d (Some v)
  pub below : v < (c.settings).volumes
  pub moment : ℕ
  pub seen : IsMoment c v moment
  pub front : p ≡ length (volume_then c v moment).log
  pub replica : ℕ
  pub there : replica_on c.settings v m ≡ Some replica
  pub stood : outcome_at (now (volume_then c v moment) (replica_at (volume_then c v moment) replica)) pair ≡ shown
  pub passed : PassedOver c v (take_while (λ j. not (machine_of c.settings v j == m)) (order_from c.settings start))
  pub looks : OnlyLooks c v

abbrev pub PassedFor : Course → ℕ → ℕ → Cause → Type 0
PassedFor c v j (Arm f) = CameUp (c.from).arm f (c.to).arm
PassedFor c v j (Disk f) = LookFailed c v j f
PassedFor c v j (Damage at) = ⊥

pub record ShowedNone (c : Course) (start : ℕ) (pair : Pair) (v p d : ℕ) (causes : List Passed) : Type 0 where
  pub home : SeesHome c pair d (Some v)
  pub below : v < (c.settings).volumes
  pub moment : ℕ
  pub seen : IsMoment c v moment
  pub front : p ≡ length (volume_then c v moment).log
  pub each : AllZip (λ j passed. (passed.machine ≡ machine_of c.settings v j) × PassedFor c v j passed.cause) (order_from c.settings start) causes
  pub arms : EachPair (λ a b. ArmRises a.cause b.cause) causes
  pub looks : OnlyLooks c v

-- For want of memory a line that looked at places of its pair's home froze it.
pub record LookFroze (c : Course) (pair : Pair) : Type 0 where
  pub d : ℕ
  pub v : ℕ
  pub home : SeesHome c pair d (Some v)
  pub elsewhere : OnlyOn c v
  pub steps : Each (λ at. ((at.1).did ≡ Tries) ⊎ ((at.1).did ≡ Freezes (first_machine c.settings v))) (own c v)

abbrev pub LookWanting : Course → Pair → Type 0
LookWanting c pair = NoRows c × (NoSteps c ⊎ LookFroze c pair)

abbrev pub DidNothing : Course → Type 0
DidNothing c = NoSteps c × NoRows c

abbrev pub ShowDid : Course → ℕ → Pair → Cookie → Reply → Type 0
ShowDid c start pair cookie (Photo v m p d bytes) = Showed c start pair v m p d (outcome.Photo (record { cookie = cookie; bytes = bytes }))
ShowDid c start pair cookie (Gone v m p d) = Showed c start pair v m p d outcome.Nothing
ShowDid c start pair cookie (WrongCookie v m p d) =
    (other : Cookie) × (bytes : List ℕ) × (other ≢ cookie) × Showed c start pair v m p d (outcome.Photo (record { cookie = other; bytes = bytes }))
ShowDid c start pair cookie (Unreadable v p d causes) = ShowedNone c start pair v p d causes
ShowDid c start pair cookie (Unknown d) = SeesHome c pair d None × DidNothing c
ShowDid c start pair cookie NoMem = LookWanting c pair
ShowDid c start pair cookie _ = ⊥

abbrev pub GetDid : Course → UrlParts → Option ℕ → Reply → Type 0
GetDid c url None Nowhere = DidNothing c
GetDid c url None NoMem = DidNothing c
GetDid c url None _ = ⊥
GetDid c url (Some start) (Moved v d) = SeesHome c url.pair d (Some v) × (v ≢ url.volume) × DidNothing c
GetDid c url (Some start) NoMem = NoRows c × (NoSteps c ⊎ ((froze : LookFroze c url.pair) × (froze.v ≡ url.volume)))
GetDid c url (Some start) reply = ShowDid c start url.pair url.cookie reply × GetShows url reply

-- DELETES

-- some replica had a photo of the pair then
abbrev pub stood_then : Course → ℕ → ℕ → Pair → Bool
stood_then c v n pair =
    list_any (λ j. stands (outcome_at (now (volume_then c v n) (replica_at (volume_then c v n) j)) pair)) (replicas_of c.settings)

pub record DelDone (c : Course) (pair : Pair) (v p d : ℕ) : Type 0 where
  pub home : SeesHome c pair d (Some v)
  pub below : v < (c.settings).volumes
  pub rows : NoRows c
  pub elsewhere : OnlyOn c v
  pub step : OneStep c v (Entered (entry.Del pair))
  pub «open» : closing_then c v step.place ≡ None
  pub stood : stood_then c v step.place pair ≡ true
  pub position : p ≡ length (volume_then c v step.place).log + 1

pub record DelAbsent (c : Course) (pair : Pair) (v p d : ℕ) : Type 0 where
  pub home : SeesHome c pair d (Some v)
  pub moment : ℕ
  pub seen : IsMoment c v moment
  pub «open» : closing_then c v moment ≡ None
  pub nothing : stood_then c v moment pair ≡ false
  pub front : p ≡ length (volume_then c v moment).log
  pub none : DidNothing c

abbrev pub HomeIsClosed : Course → Pair → List ClosedBy → Type 0
HomeIsClosed c pair (by ∷ []) = ((d : ℕ) × SeesHome c pair d (Some by.volume)) × SeesClosed c by.volume by.machine
HomeIsClosed c pair _ = ⊥

-- a call failed in a step on a volume that was open to changes
abbrev pub FailedOpen : Course → ℕ → ℕ → ℕ → ℕ → Type 0
FailedOpen c v m place f = (closing_then c v place ≡ None) × FailedIn c v m place f

-- A call failed: as the pair's places were looked at, or as it was deleted.
pub record DelFailed (c : Course) (pair : Pair) (v m f : ℕ) : Type 0 where
  pub d : ℕ
  pub home : SeesHome c pair d (Some v)
  pub below : v < (c.settings).volumes
  pub rows : NoRows c
  pub elsewhere : OnlyOn c v
  pub which : ((one : OneTry c v) × FailedOpen c v m one.place f)
      ⊎ ((one : OneStep c v (Pends m (entry.Del pair) true)) × FailedOpen c v m one.place f × (stood_then c v one.place pair ≡ true))

-- what want of memory may leave of a delete: nothing, or its volume frozen, also with the delete pending
abbrev pub DelWanting : Course → Pair → Type 0
DelWanting c pair =
    NoRows c
    × (NoSteps c
    ⊎ ((froze : LookFroze c pair) × SeesOpen c froze.v)
    ⊎ LeftPending c pair (entry.Del pair) (λ v n. (closing_then c v n ≡ None) × (stood_then c v n pair ≡ true)))

abbrev pub DelDid : Course → Pair → Reply → Type 0
DelDid c pair (Deleted v p d) = DelDone c pair v p d
DelDid c pair (Absent v p d) = DelAbsent c pair v p d
DelDid c pair (Unknown d) = SeesHome c pair d None × DidNothing c
DelDid c pair (ReadOnly by) = HomeIsClosed c pair by × DidNothing c
DelDid c pair (Failed v m f) = DelFailed c pair v m f
DelDid c pair NoMem = DelWanting c pair
DelDid c pair _ = ⊥

abbrev pub UrlDid : Course → Pair → Reply → Type 0
UrlDid c pair (Url d url) =
    SeesHome c pair d (Some url.volume) × (url.pair ≡ pair) × (url.cookie ≡ cookie_of (c.settings).secret pair.key)
    × (url.machine ≡ machine_of c.settings url.volume (start_of c.settings c.tag)) × DidNothing c
UrlDid c pair (Unknown d) = SeesHome c pair d None × DidNothing c
UrlDid c pair NoMem = DidNothing c
UrlDid c pair _ = ⊥

-- FLUSHES

abbrev pub IsFrozen : Course → ℕ → List ClosedBy → Type 0
IsFrozen c v (by ∷ []) = (by.volume ≡ v) × SeesFrozen c v by.machine
IsFrozen c v _ = ⊥

abbrev pub IsStuck : Course → ℕ → ℕ → ℕ → List ClosedBy → Type 0
IsStuck c v m j (by ∷ []) =
    Names v m by.volume by.machine
    × ((moment : ℕ) × IsMoment c v moment × ((volume_then c v moment).frozen ≡ None) × ((replica_at (volume_then c v moment) j).stuck ≡ true))
IsStuck c v m j _ = ⊥

pub record FlushDone (c : Course) (v j n : ℕ) : Type 0 where
  pub rows : NoRows c
  pub elsewhere : OnlyOn c v
  pub step : OneStep c v (Flushes j)
  pub number : n ≡ (replica_at (volume_then c v step.place) j).bare

pub record FlushFailed (c : Course) (v j f : ℕ) : Type 0 where
  pub rows : NoRows c
  pub elsewhere : OnlyOn c v
  pub step : OneStep c v (Sticks j)
  pub failed : RoseIn c v step.place j f
  pub last : IsLast c v step.place

abbrev pub FlushDid : Course → ℕ → ℕ → Option ℕ → Reply → Type 0
FlushDid c v m None Nowhere = DidNothing c
FlushDid c v m None NoMem = DidNothing c
FlushDid c v m None _ = ⊥
FlushDid c v m (Some j) (Flushed v' m' n) = Names v m v' m' × FlushDone c v j n
FlushDid c v m (Some j) (ReadOnly by) = (IsFrozen c v by ⊎ IsStuck c v m j by) × DidNothing c
FlushDid c v m (Some j) (Failed v' m' f) = Names v m v' m' × FlushFailed c v j f
FlushDid c v m (Some j) NoMem = DidNothing c
FlushDid c v m (Some j) _ = ⊥

-- COMPACTIONS

-- The line's compaction of replica j: it began, examined cells, and ended in this step.
pub record Ran (c : Course) (v j : ℕ) (last : List (ℕ × Step)) : Type 0 where
  pub rows : NoRows c
  pub elsewhere : OnlyOn c v
  pub place : ℕ
  pub first : Step
  pub begins : first.did ≡ Begins j
  pub middle : List (ℕ × Step)
  pub examines : Each (λ at. (n : ℕ) × ((at.1).did ≡ Examines j n)) middle
  pub steps : changes c v ≡ (place, first) ∷ (middle ++ last)
  pub until : ℕ
  pub behind_it : place < until
  pub inside : Each (λ at. at.0 < until) middle
  pub seen : IsMoment c v (until + 1)
  pub own : HasRunOf c v j until c.tag
  pub none : (replica_at (volume_then c v (until + 1)) j).run ≡ None

-- its own last step did this
pub record RanAs (c : Course) (v j : ℕ) (did : Did) : Type 0 where
  pub place : ℕ
  pub step : Step
  pub is : step.did ≡ did
  pub ran : Ran c v j ((place, step) ∷ [])
  pub last : ran.until ≡ place

-- a delete of another lane ended it, since the replica's disk failed
pub record RanUntil (c : Course) (v j f : ℕ) : Type 0 where
  pub ran : Ran c v j []
  pub thawed : (volume_then c v (ran.until + 1)).frozen ≡ None
  pub rose : RoseIn c v ran.until j f

-- a compaction that was not begun, since a call of the disk failed
pub record BeginFailed (c : Course) (v j f : ℕ) : Type 0 where
  pub rows : NoRows c
  pub elsewhere : OnlyOn c v
  pub step : OneTry c v
  pub thawed : (volume_then c v step.place).frozen ≡ None
  pub at_rest : (replica_at (volume_then c v step.place) j).run ≡ None
  pub number : (replica_at (volume_then c v step.place) j).generation < LAST_GENERATION
  pub failed : RoseIn c v step.place j f
  pub last : IsLast c v step.place

abbrev pub CompactFailed : Course → ℕ → ℕ → ℕ → ℕ → Type 0
CompactFailed c v m j f =
    BeginFailed c v j f
    ⊎ ((ends : RanAs c v j (Ends j)) × RoseIn c v ends.place j f × IsLast c v ends.place)
    ⊎ ((poises : RanAs c v j (Poises m j)) × RoseIn c v poises.place j f × IsLast c v poises.place)
    ⊎ RanUntil c v j f

-- once it had ended, the line saw that this machine had frozen the volume: in its course, or behind it
pub record RanFrozen (c : Course) (v j m : ℕ) : Type 0 where
  pub ran : Ran c v j []
  pub moment : ℕ
  pub behind_it : ran.until < moment
  pub seen : IsMoment c v moment
  pub frozen : (volume_then c v moment).frozen ≡ Some m

-- where no entry came while a compaction stood, the sizes behind its swap are those of the standing photos
abbrev pub IsTightAlone : Course → ℕ → ℕ → ℕ → ℕ → ℕ → ℕ → Type 0
IsTightAlone c v j from to end cells =
    (volume_then c v to).log ≡ (volume_then c v from).log
    → (end ≡ live_end (now (volume_then c v to) (replica_at (volume_then c v to) j)))
    × (cells ≡ length (now (volume_then c v to) (replica_at (volume_then c v to) j)))

abbrev pub CompactWanting : Course → ℕ → ℕ → Type 0
CompactWanting c v j =
    DidNothing c
    ⊎ RanAs c v j (Ends j)
    ⊎ ((end : ℕ) × (cells : ℕ) × (swaps : RanAs c v j (Swaps j end cells true)) × IsTightAlone c v j (swaps.ran).place swaps.place end cells)
    ⊎ ((f : ℕ) × RanUntil c v j f)
    ⊎ ((m : ℕ) × RanFrozen c v j m)

-- it met a volume that was frozen before it began, or in its course
abbrev pub CompactRefused : Course → ℕ → ℕ → List ClosedBy → Type 0
CompactRefused c v j by = (IsFrozen c v by × DidNothing c) ⊎ RanFrozenBy by
  where
    RanFrozenBy : List ClosedBy → Type 0
    RanFrozenBy (by ∷ []) = (by.volume ≡ v) × RanFrozen c v j by.machine
    RanFrozenBy _ = ⊥

-- it met the replica thawed, with a compaction that makes this generation, or with its last generation
abbrev pub MetBusy : Course → ℕ → ℕ → ℕ → Type 0
MetBusy c v j g =
    (moment : ℕ) × IsMoment c v moment × ((volume_then c v moment).frozen ≡ None)
    × ((run : Run) × ((replica_at (volume_then c v moment) j).run ≡ Some run) × (run.goal ≡ g))

abbrev pub MetWorn : Course → ℕ → ℕ → Type 0
MetWorn c v j =
    (moment : ℕ) × IsMoment c v moment × ((volume_then c v moment).frozen ≡ None)
    × ((replica_at (volume_then c v moment) j).run ≡ None) × ((replica_at (volume_then c v moment) j).generation ≡ LAST_GENERATION)

abbrev pub CompactDid : Course → ℕ → ℕ → Option ℕ → Reply → Type 0
CompactDid c v m None Nowhere = DidNothing c
CompactDid c v m None NoMem = DidNothing c
CompactDid c v m None _ = ⊥
CompactDid c v m (Some j) (Compacted v' m' g) =
    Names v m v' m'
    × ((end : ℕ) × (cells : ℕ) × (swaps : RanAs c v j (Swaps j end cells false))
    × (g ≡ (replica_at (volume_then c v swaps.place) j).generation + 1)
    × IsTightAlone c v j (swaps.ran).place swaps.place end cells)
CompactDid c v m (Some j) (ReadOnly by) = CompactRefused c v j by
CompactDid c v m (Some j) (Busy v' m' g) = Names v m v' m' × DidNothing c × MetBusy c v j g
CompactDid c v m (Some j) (Worn v' m') = Names v m v' m' × DidNothing c × MetWorn c v j
CompactDid c v m (Some j) (Failed v' m' f) = Names v m v' m' × CompactFailed c v m j f
CompactDid c v m (Some j) NoMem = CompactWanting c v j
CompactDid c v m (Some j) _ = ⊥

-- COMPACTIONS STEP BY STEP

-- a compaction of the replica stood then, which a line of this lane began
abbrev pub HasRunOfLane : Course → ℕ → ℕ → ℕ → Type 0
HasRunOfLane c v j n = (tag : CoreTag) × (tag.lane ≡ (c.tag).lane) × HasRunOf c v j n tag

-- the line has this one step on the volume, and changed nothing else
pub record OnlyDid (c : Course) (v : ℕ) (did : Did) : Type 0 where
  pub rows : NoRows c
  pub elsewhere : OnlyOn c v
  pub step : OneStep c v did

-- this step was of a compaction of the line's lane
pub record WentOn (c : Course) (v j : ℕ) (did : Did) : Type 0 where
  pub only : OnlyDid c v did
  pub own : HasRunOfLane c v j (only.step).place

-- the line met the replica thawed, where no compaction of its lane stood
abbrev pub MetIdle : Course → ℕ → ℕ → Type 0
MetIdle c v j =
    (moment : ℕ) × IsMoment c v moment × ((volume_then c v moment).frozen ≡ None) × (HasRunOfLane c v j moment → ⊥)

abbrev pub BeginDid : Course → ℕ → ℕ → Option ℕ → Reply → Type 0
BeginDid c v m None Nowhere = DidNothing c
BeginDid c v m None NoMem = DidNothing c
BeginDid c v m None _ = ⊥
BeginDid c v m (Some j) (Begun v' m' g) =
    Names v m v' m' × ((begins : OnlyDid c v (Begins j)) × (g ≡ (replica_at (volume_then c v (begins.step).place) j).generation + 1))
BeginDid c v m (Some j) (ReadOnly by) = IsFrozen c v by × DidNothing c
BeginDid c v m (Some j) (Busy v' m' g) = Names v m v' m' × DidNothing c × MetBusy c v j g
BeginDid c v m (Some j) (Worn v' m') = Names v m v' m' × DidNothing c × MetWorn c v j
BeginDid c v m (Some j) (Failed v' m' f) = Names v m v' m' × BeginFailed c v j f
BeginDid c v m (Some j) NoMem = DidNothing c
BeginDid c v m (Some j) _ = ⊥

-- it examined so many cells, of those that were left
abbrev pub Stepping : Course → ℕ → ℕ → ℕ → (ℕ → ℕ → Type 0) → Type 0
Stepping c v j n AsMany = (went : WentOn c v j (Examines j n)) × AsMany n (((went.own).2).run).left

abbrev pub StepDid : Course → ℕ → ℕ → ℕ → Option ℕ → Reply → Type 0
StepDid c v m cells None Nowhere = DidNothing c
StepDid c v m cells None NoMem = DidNothing c
StepDid c v m cells None _ = ⊥
StepDid c v m cells (Some j) (Stepped v' m' n) = Names v m v' m' × Stepping c v j n (λ n left. n ≡ min cells left)
StepDid c v m cells (Some j) (ReadOnly by) = IsFrozen c v by × DidNothing c
StepDid c v m cells (Some j) (Idle v' m') = Names v m v' m' × MetIdle c v j × DidNothing c
StepDid c v m cells (Some j) (Failed v' m' f) =
    Names v m v' m' × ((ends : WentOn c v j (Ends j)) × RoseIn c v ((ends.only).step).place j f × IsLast c v ((ends.only).step).place)
StepDid c v m cells (Some j) NoMem = DidNothing c ⊎ ((n : ℕ) × Stepping c v j n (λ n left. n ≤ min cells left))
StepDid c v m cells (Some j) _ = ⊥

abbrev pub FinishFailed : Course → ℕ → ℕ → ℕ → ℕ → Type 0
FinishFailed c v m j f =
    ((ends : WentOn c v j (Ends j)) × RoseIn c v ((ends.only).step).place j f × IsLast c v ((ends.only).step).place)
    ⊎ ((poises : WentOn c v j (Poises m j)) × RoseIn c v ((poises.only).step).place j f × IsLast c v ((poises.only).step).place)

abbrev pub FinishDid : Course → ℕ → ℕ → Option ℕ → Reply → Type 0
FinishDid c v m None Nowhere = DidNothing c
FinishDid c v m None NoMem = DidNothing c
FinishDid c v m None _ = ⊥
FinishDid c v m (Some j) (Compacted v' m' g) =
    Names v m v' m'
    × ((end : ℕ) × (cells : ℕ) × (swaps : WentOn c v j (Swaps j end cells false))
    × (g ≡ (replica_at (volume_then c v ((swaps.only).step).place) j).generation + 1))
FinishDid c v m (Some j) (ReadOnly by) = IsFrozen c v by × DidNothing c
FinishDid c v m (Some j) (Idle v' m') = Names v m v' m' × MetIdle c v j × DidNothing c
FinishDid c v m (Some j) (Failed v' m' f) = Names v m v' m' × FinishFailed c v m j f
FinishDid c v m (Some j) NoMem =
    DidNothing c ⊎ WentOn c v j (Ends j) ⊎ ((end : ℕ) × (cells : ℕ) × WentOn c v j (Swaps j end cells true))
FinishDid c v m (Some j) _ = ⊥

-- DRAINS AND FUSES

-- the line has this one step on the Directory, and changed nothing else
abbrev pub OnlyDidRow : Course → RowDid → Type 0
OnlyDidRow c did = NoSteps c × OneRowStep c did

abbrev pub DrainDid : Course → ℕ → Reply → Type 0
DrainDid c m (Drained m') = (m' ≡ m) × (m < (c.settings).machines) × OnlyDidRow c (Drains m true)
DrainDid c m Nowhere = ((c.settings).machines ≤ m) × DidNothing c
DrainDid c m NoMem = DidNothing c
DrainDid c m _ = ⊥

abbrev pub UndrainDid : Course → ℕ → Reply → Type 0
UndrainDid c m (Undrained m') = (m' ≡ m) × (m < (c.settings).machines) × OnlyDidRow c (Drains m false)
UndrainDid c m Nowhere = ((c.settings).machines ≤ m) × DidNothing c
UndrainDid c m NoMem = DidNothing c
UndrainDid c m _ = ⊥

abbrev pub FuseDid : Course → ℕ → ℕ → ℕ → Option ℕ → Reply → Type 0
FuseDid c v m n None Nowhere = DidNothing c
FuseDid c v m n None NoMem = DidNothing c
FuseDid c v m n None _ = ⊥
FuseDid c v m n (Some j) (Fused v' m' n') = Names v m v' m' × (n' ≡ n) × OnlyDid c v (Fuses j)
FuseDid c v m n (Some j) NoMem = DidNothing c
FuseDid c v m n (Some j) _ = ⊥

abbrev pub FuseDirDid : Course → ℕ → Reply → Type 0
FuseDirDid c n (FusedDir n') = (n' ≡ n) × OnlyDidRow c FusesRow
FuseDirDid c n NoMem = DidNothing c
FuseDirDid c n _ = ⊥

-- LINES OF BLOCKS

abbrev pub CommandDid : Course → Command → Reply → Type 0
CommandDid c (command.Put pair bytes) reply = PutDid c pair bytes reply
CommandDid c (command.Read pair cookie) reply = ShowDid c (start_of c.settings c.tag) pair cookie reply
CommandDid c (command.Get url) reply = GetDid c url (replica_on c.settings url.volume url.machine) reply
CommandDid c (command.Del pair) reply = DelDid c pair reply
CommandDid c (command.Url pair) reply = UrlDid c pair reply
CommandDid c (command.Flush v m) reply = FlushDid c v m (replica_on c.settings v m) reply
CommandDid c (command.Compact v m) reply = CompactDid c v m (replica_on c.settings v m) reply
CommandDid c _ reply = ⊥

abbrev pub ItemDid : Course → Item → Reply → Type 0
ItemDid c (asks.Command command) reply = CommandDid c command reply
ItemDid c asks.Bad reply = (reply ≡ BadLine) × DidNothing c

-- EVERY LINE

abbrev pub LineDid : Course → Item → Reply → Type 0
LineDid c (asks.Command (command.Begin v m)) reply = BeginDid c v m (replica_on c.settings v m) reply
LineDid c (asks.Command (command.Step v m cells)) reply = StepDid c v m cells (replica_on c.settings v m) reply
LineDid c (asks.Command (command.Finish v m)) reply = FinishDid c v m (replica_on c.settings v m) reply
LineDid c (asks.Command (command.Drain m)) reply = DrainDid c m reply
LineDid c (asks.Command (command.Undrain m)) reply = UndrainDid c m reply
LineDid c (asks.Command (command.Fuse v m n)) reply = FuseDid c v m n (replica_on c.settings v m) reply
LineDid c (asks.Command (command.FuseDir n)) reply = FuseDirDid c n reply
LineDid c (asks.Command (command.Restart pick)) reply = ⊥
LineDid c item reply = ItemDid c item reply

-- a line that may stand in a block
abbrev pub MayStandInLane : Item → Type 0
MayStandInLane (asks.Command (command.Put pair bytes)) = Unit {0}
MayStandInLane (asks.Command (command.Read pair cookie)) = Unit {0}
MayStandInLane (asks.Command (command.Get url)) = Unit {0}
MayStandInLane (asks.Command (command.Del pair)) = Unit {0}
MayStandInLane (asks.Command (command.Url pair)) = Unit {0}
MayStandInLane (asks.Command (command.Flush v m)) = Unit {0}
MayStandInLane (asks.Command (command.Compact v m)) = Unit {0}
MayStandInLane (asks.Command (command.Begin v m)) = ⊥
MayStandInLane (asks.Command (command.Step v m cells)) = ⊥
MayStandInLane (asks.Command (command.Finish v m)) = ⊥
MayStandInLane (asks.Command (command.Drain m)) = ⊥
MayStandInLane (asks.Command (command.Undrain m)) = ⊥
MayStandInLane (asks.Command (command.Fuse v m n)) = ⊥
MayStandInLane (asks.Command (command.FuseDir n)) = ⊥
MayStandInLane (asks.Command (command.Restart pick)) = ⊥
MayStandInLane asks.Bad = Unit {0}

-- a line between what its lane had seen before and behind it
abbrev pub course : Settings → Known → History → (ℕ → Seen) → (ℕ → Seen) → LaneItem → Course
course settings k history from to item =
    record { settings = settings; k = k; history = history; tag = tag_of item; from = from item.line; to = to item.line }

-- It was answered so, where a line does this, and its steps stand between.
pub record AnsweredBy (Does : Course → Item → Reply → Type 0) (c : Course) (item : LaneItem) : Type 0 where
  pub later : IsLater c.from c.to
  pub steps : (v : ℕ) → Each (λ at. ((c.from).volumes v ≤ at.0) × (at.0 < (c.to).volumes v)) (own c v)
  pub rows : Each (λ at. ((c.from).rows ≤ at.0) × (at.0 < (c.to).rows)) (own_rows c)
  pub did : Does c item.item item.reply

abbrev pub Answered : Course → LaneItem → Type 0
Answered c item = AnsweredBy LineDid c item

abbrev pub at_first : Known → ℕ → Seen
at_first k lane = record { volumes = λ v. 0; rows = 0; arm = arm_count k lane }

abbrev pub at_last : Known → History → ℕ → Seen
at_last t history lane = record { volumes = λ v. length (history.volumes v); rows = length history.directory; arm = arm_count t lane }

-- THE LINES OF A HISTORY

-- What stands where a block begins: each replica of a volume is on a machine of its own, none ends within its superblock, and a
-- compaction makes the next generation.
pub record IsRegular (settings : Settings) (k : Known) : Type 0 where
  pub machines : settings.replicas ≤ settings.machines
  pub slots : length k.fuses ≡ disk_count settings
  pub ends : (v j : ℕ) → v < settings.volumes → j < settings.replicas → 64 ≤ (replica_at (volume_at k v) j).end
  pub numbers : (v j : ℕ) → v < settings.volumes → j < settings.replicas → (run : Run) → (replica_at (volume_at k v) j).run ≡ Some run
      → (replica_at (volume_at k v) j).generation < LAST_GENERATION
  pub runs : (v j : ℕ) → v < settings.volumes → j < settings.replicas → (run : Run) → (replica_at (volume_at k v) j).run ≡ Some run
      → run.goal ≡ (replica_at (volume_at k v) j).generation + 1

-- a step is a line's
abbrev pub IsOfLine : List LaneItem → CoreTag → Type 0
IsOfLine items tag = (item : LaneItem) × Contains items item × (tag_of item ≡ tag)

-- what is left of the volume v
pub record EndsAt (settings : Settings) (v : ℕ) (last : Standing) (t : Known) : Type 0 where
  pub volume : volume_at t v ≡ last.volume
  pub faults : (j : ℕ) → j < settings.replicas → fault_count t (slot_of settings v j) ≡ last.faults j
  pub fuses : (j : ℕ) → j < settings.replicas → fuse_count t (slot_of settings v j) ≡ last.fuses j

-- what is left of the Directory
pub record RowsEndAt (last : RowsStanding) (t : Known) : Type 0 where
  pub directory : t.directory ≡ last.directory
  pub drained : t.drained ≡ last.drained
  pub faults : fault_count t 0 ≡ last.faults
  pub fuses : fuse_count t 0 ≡ last.fuses

-- The lanes answered their lines so that this history came about, which leads from k to t.
pub record CameBy (Does : Course → Item → Reply → Type 0) (settings : Settings) (k : Known) (items : List LaneItem) (history : History) (t : Known) : Type 0 where
  pub store : IsOf settings k
  pub regular : IsRegular settings k
  pub distinct : EachPair (λ a b. a.line ≢ b.line) items
  pub lanes : Each (λ item. item.lane < 8) items
  pub follows : (v : ℕ) → v < settings.volumes → Follows settings v (first_of settings k v) (history.volumes v)
  pub follows_rows : FollowsRows (first_rows k) history.directory
  pub lines : (v : ℕ) → v < settings.volumes → Each (λ step. IsOfLine items step.tag) (history.volumes v)
  pub row_lines : Each (λ step. IsOfLine items step.tag) history.directory
  -- what each line's lane had seen before and behind it, by the number of the line
  pub from : ℕ → Seen
  pub to : ℕ → Seen
  pub answers : Each (λ item. AnsweredBy Does (course settings k history from to item) item) items
  pub first : Each (λ item. IsLater (at_first k item.lane) (from item.line)) items
  pub «order» : EachPair (λ a b. a.lane ≡ b.lane → IsLater (to a.line) (from b.line)) items
  pub last : Each (λ item. IsLater (to item.line) (at_last t history item.lane)) items
  pub volumes : (v : ℕ) → v < settings.volumes → EndsAt settings v (behind (first_of settings k v) (history.volumes v) (length (history.volumes v))) t
  pub directory : RowsEndAt (rows_behind (first_rows k) history.directory (length history.directory)) t
  pub count : length t.volumes ≡ length k.volumes
  pub slots : length t.fuses ≡ length k.fuses
  pub faults : NoneFalls k.faults t.faults
  pub arms : NoneFalls k.arms t.arms
  -- no count is above its end
  pub faults_end : Each (λ f. f ≤ 2 ^ 64 - 1) t.faults
  pub arms_end : Each (λ f. f ≤ 2 ^ 64 - 1) t.arms

abbrev pub Came : Settings → Known → List LaneItem → History → Known → Type 0
Came settings k items history t = CameBy LineDid settings k items history t

-- the same of lines of blocks alone
abbrev pub CameInLanes : Settings → Known → List LaneItem → History → Known → Type 0
CameInLanes settings k items history t = CameBy ItemDid settings k items history t
