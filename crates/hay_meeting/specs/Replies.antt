-- What a line did, by its reply, as its own lane saw it: the clause of each command in terms of its sights and doings alone.
use Rattle.std.specs.Prelude.{◌≡◌, ◌≢◌, ◌⊎◌, ℕ, ◌+◌, ◌-◌, ◌^◌, ◌<◌, ◌≤◌, ◌==◌, min, not, Bool, true, false, List, [], ◌∷◌, ◌++◌, length, map, take_while, count_by, Contains, Option, Some, None}
use Rattle.std.specs.List.{AllZip, AllByRecursion as Each, list_any}
use mathlib.Core.List.{IsPrefix}
use Rattle.hay_needle.specs.declared.needle.Pair.{Pair}
use Rattle.hay_needle.specs.declared.needle.Cookie.{Cookie}
use Rattle.hay_needle.specs.declared.needle.Outcome.{Outcome}
use Rattle.hay_needle.specs.declared.needle.Outcome.TheVariants as outcome
use Rattle.hay_needle.specs.declared.settings.Settings.{Settings}
use Rattle.hay_needle.specs.Tables.{live_end, outcome_at}
use Rattle.hay_needle.specs.declared.settings.TheConstants.{LAST_GENERATION}
use Rattle.hay_disk.specs.Counts.{Rose}
use Rattle.hay_url.specs.declared.Url.{Url as UrlParts}
use Rattle.hay_url.specs.Url.{cookie_of}
use Rattle.hay_script.specs.declared.Command.{Command}
use Rattle.hay_script.specs.declared.Command.TheVariants as command
use Rattle.hay_reply.specs.declared.Refused.{Refused}
use Rattle.hay_reply.specs.declared.ClosedBy.{ClosedBy}
use Rattle.hay_reply.specs.declared.Cause.{Cause}
use Rattle.hay_reply.specs.declared.Cause.TheVariants.{Arm, Disk, Damage}
use Rattle.hay_reply.specs.declared.Passed.{Passed}
use Rattle.hay_reply.specs.declared.Reply.{Reply}
use Rattle.hay_reply.specs.declared.Reply.TheVariants.{Stored, Deleted, Photo, Gone, Absent, WrongCookie, Unknown, Moved, Url, Full, ReadOnly, ReadOnlyDir, Failed, FailedDir}
use Rattle.hay_reply.specs.declared.Reply.TheVariants.{Unreadable, Flushed, Begun, Stepped, Compacted, Busy, Idle, Worn, Drained, Undrained, Fused, FusedDir, Nowhere, BadLine}
use Rattle.hay_reply.specs.declared.Reply.TheVariants.{NoMem}
use Rattle.hay_core.specs.declared.entry.Entry.{Entry}
use Rattle.hay_core.specs.declared.entry.Entry.TheVariants as entry
use Rattle.hay_core.specs.declared.entry.CoreTag.{CoreTag}
use Rattle.hay_legal.specs.declared.known.HomeRow.{HomeRow}
use Rattle.hay_legal.specs.declared.known.Run.{Run}
use Rattle.hay_legal.specs.declared.turn.Item.{Item}
use Rattle.hay_legal.specs.declared.turn.Item.TheVariants as asks
use Rattle.hay_legal.specs.declared.turn.LaneItem.{LaneItem}
use Rattle.hay_legal.specs.Known.{CameUp, EachPair, all_tries, machine_of, now, replica_at, replica_on}
use Rattle.hay_legal.specs.Plain.{ArmRises, GetShows, Names, as_closed, first_machine, order_from, put_entry, start_of, wants_room}
use Rattle.hay_legal.specs.Blocks.{tag_of}
use Rattle.hay_history.specs.LaneSteps.{Did, RowDid}
use Rattle.hay_history.specs.LaneSteps.Did.{Begins, Ends, Entered, Examines, Flushes, Freezes, Fuses, Pends, Poises, Sticks, Swaps, Tries}
use Rattle.hay_history.specs.LaneSteps.RowDid.{AddsRow, Drains, FusesRow, PendsRow}
use Rattle.hay_meeting.specs.declared.act.VolumeAct.{VolumeAct}
use Rattle.hay_meeting.specs.Acts.{Start, did_of}
use Rattle.hay_meeting.specs.Facts.{FailedAt, Found, FoundRefusal, FoundRows, FoundTaker, HasRunAt, IsLastDoing, NoNewRows, NothingDone, NothingOn, OneDoing, OneRowDoing}
use Rattle.hay_meeting.specs.Facts.{OneTryAt, OnlyAt, RanUntilAt, RoseAt, SawFront, SawHome, changed, closing_at, refusal_at, stood_at, table_shown, volume_stood}
use Rattle.hay_meeting.specs.Locks.{Doing, past}
use Rattle.hay_meeting.specs.Sights.{Doings, Sight, Work, rows_stood}

module _ (settings : Settings) (start : Start) (drained : List Bool) (item : LaneItem) (a b : Sight) (doings : Doings) where
  abbrev Home : Pair → ℕ → Option ℕ → Type 0
  Home = SawHome settings start drained a b

  abbrev Nothing : Type 0
  Nothing = NothingDone settings start drained a b doings

  abbrev NoRow : Type 0
  NoRow = NoNewRows settings start drained a b doings

  abbrev Only : ℕ → Type 0
  Only = OnlyAt settings start drained a b doings

  -- PUTS

  pub record AddedRowHere (pair : Pair) (size : ℕ) : Type 0 where
    pub row : HomeRow
    pub doing : OneRowDoing doings.rows (AddsRow row)
    pub own_pair : row.pair ≡ pair
    pub taker : FoundTaker settings start drained a b pair size row.volume

  abbrev pub MayAddRowHere : Pair → ℕ → Type 0
  MayAddRowHere pair size = NoRow ⊎ AddedRowHere pair size

  pub record PutStoredHere (pair : Pair) (bytes : List ℕ) (v p d : ℕ) (cookie : Cookie) : Type 0 where
    pub row : MayAddRowHere pair (length bytes)
    pub home : Home pair d (Some v)
    pub below : v < settings.volumes
    pub own_cookie : cookie ≡ cookie_of settings.secret pair.key
    pub elsewhere : Only v
    pub doing : OneDoing (doings.volumes v) (Entered (entry.Put pair cookie bytes))
    pub room : refusal_at settings start drained a b v (doing.one).held (length bytes) ≡ None
    pub position : p ≡ length (volume_stood start v (doing.one).held).log + 1

  -- each try refused the photo, or the pair's home did
  abbrev pub FoundRefusals : Pair → ℕ → List Refused → Type 0
  FoundRefusals pair size refused =
      ((d : ℕ) × Home pair d None) × AllZip (FoundRefusal settings start drained a b size) (all_tries settings pair) refused

  abbrev pub HomeRefusesHere : Pair → ℕ → List Refused → Type 0
  HomeRefusesHere pair size (refused ∷ []) = (d : ℕ) × (v : ℕ) × Home pair d (Some v) × FoundRefusal settings start drained a b size v refused
  HomeRefusesHere pair size _ = ⊥

  pub record PutRefusedHere (pair : Pair) (size : ℕ) (refused : List Refused) : Type 0 where
    pub row : MayAddRowHere pair size
    pub nothing : NothingOn settings start drained a b doings
    pub because : (FoundRefusals pair size refused × NoRow) ⊎ HomeRefusesHere pair size refused

  pub record PutFailedHere (pair : Pair) (bytes : List ℕ) (v m f : ℕ) : Type 0 where
    pub row : MayAddRowHere pair (length bytes)
    pub d : ℕ
    pub home : Home pair d (Some v)
    pub below : v < settings.volumes
    pub elsewhere : Only v
    pub doing : OneDoing (doings.volumes v) (Pends m (put_entry settings pair bytes) true)
    pub room : refusal_at settings start drained a b v (doing.one).held (length bytes) ≡ None
    pub failed : FailedAt settings start drained a b (doings.volumes v) v m doing.one f

  -- it froze the Directory with the row of its pair pending, for the try that it found to take the photo
  pub record RowPendsHere (pair : Pair) (size : ℕ) : Type 0 where
    pub v : ℕ
    pub doing : OneRowDoing doings.rows (PendsRow (record { pair = pair; volume = v }))
    pub taker : FoundTaker settings start drained a b pair size v

  pub record PutRowFailedHere (pair : Pair) (size f : ℕ) : Type 0 where
    pub nothing : NothingOn settings start drained a b doings
    pub pends : RowPendsHere pair size
    pub rose : Rose (rows_stood start ((pends.doing).one).held).faults (rows_stood start (past (pends.doing).one)).faults
    pub printed : f ≡ (rows_stood start (past (pends.doing).one)).faults
    pub last : IsLastDoing doings.rows (pends.doing).one

  -- For want of memory the line froze the home of its pair with its change pending. It had found that the volume takes it.
  pub record LeftPendingHere (pair : Pair) (change : Entry) (Takes : ℕ → List VolumeAct → Type 0) : Type 0 where
    pub d : ℕ
    pub v : ℕ
    pub home : Home pair d (Some v)
    pub below : v < settings.volumes
    pub elsewhere : Only v
    pub doing : OneDoing (doings.volumes v) (Pends (first_machine settings v) change false)
    pub takes : Takes v (doing.one).held

  abbrev pub PutWantingHere : Pair → List ℕ → Type 0
  PutWantingHere pair bytes =
      (NothingOn settings start drained a b doings × RowPendsHere pair (length bytes))
      ⊎ (MayAddRowHere pair (length bytes)
      × (NothingOn settings start drained a b doings
      ⊎ LeftPendingHere pair (put_entry settings pair bytes) (λ v acts. refusal_at settings start drained a b v acts (length bytes) ≡ None)))

  abbrev pub PutDidHere : Pair → List ℕ → Reply → Type 0
  PutDidHere pair bytes (Stored v p d cookie) = PutStoredHere pair bytes v p d cookie
  PutDidHere pair bytes (Full refused) = PutRefusedHere pair (length bytes) refused × (list_any wants_room refused ≡ true)
  PutDidHere pair bytes (ReadOnly by) = PutRefusedHere pair (length bytes) (map as_closed by)
  PutDidHere pair bytes ReadOnlyDir =
      NothingOn settings start drained a b doings × NoRow × ((d : ℕ) × Home pair d None) × ((v : ℕ) × FoundTaker settings start drained a b pair (length bytes) v)
      × FoundRows settings start drained a b (λ rows. (rows.directory).frozen ≡ true)
  PutDidHere pair bytes (Failed v m f) = PutFailedHere pair bytes v m f
  PutDidHere pair bytes (FailedDir f) = PutRowFailedHere pair (length bytes) f
  PutDidHere pair bytes NoMem = PutWantingHere pair bytes
  PutDidHere pair bytes _ = ⊥

  -- READS

  abbrev pub OnlyLooksHere : ℕ → Type 0
  OnlyLooksHere v = NoRow × Only v × Each (λ doing. did_of (doing.act).did ≡ Tries) (doings.volumes v)

  -- in a doing on the volume the count of replica j's disk rose
  abbrev pub LookFailedHere : ℕ → ℕ → ℕ → Type 0
  LookFailedHere v j f = (doing : Doing VolumeAct) × Contains (doings.volumes v) doing × RoseAt settings start drained a b v doing j f

  pub record PassedOverHere (v : ℕ) (passed : List ℕ) : Type 0 where
    pub to_arm : ℕ → Bool
    pub arm : (a.arm + count_by to_arm passed ≤ b.arm) ⊎ (b.arm ≡ 2 ^ 64 - 1)
    pub disks : Each (λ j. (to_arm j ≡ true) ⊎ ((f : ℕ) × LookFailedHere v j f)) passed

  -- The view showed so much of the volume, at which the replica on this machine has this at the pair.
  pub record ShowedHere (first : ℕ) (pair : Pair) (v m p d : ℕ) (shown : Outcome) : Type 0 where
    pub home : Home pair d (Some v)
    pub below : v < settings.volumes
    pub front : SawFront settings start drained a b v p
    pub replica : ℕ
    pub there : replica_on settings v m ≡ Some replica
    pub stood : outcome_at (table_shown start v replica (front.sight).shown) pair ≡ shown
    pub passed : PassedOverHere v (take_while (λ j. not (machine_of settings v j == m)) (order_from settings first))
    pub looks : OnlyLooksHere v

  abbrev pub PassedForHere : ℕ → ℕ → Cause → Type 0
  PassedForHere v j (Arm f) = CameUp a.arm f b.arm
  PassedForHere v j (Disk f) = LookFailedHere v j f
  PassedForHere v j (Damage at) = ⊥

  pub record ShowedNoneHere (first : ℕ) (pair : Pair) (v p d : ℕ) (causes : List Passed) : Type 0 where
    pub home : Home pair d (Some v)
    pub below : v < settings.volumes
    pub front : SawFront settings start drained a b v p
    pub each : AllZip (λ j passed. (passed.machine ≡ machine_of settings v j) × PassedForHere v j passed.cause) (order_from settings first) causes
    pub arms : EachPair (λ x y. ArmRises x.cause y.cause) causes
    pub looks : OnlyLooksHere v

  -- For want of memory a line that looked at places of its pair's home froze it.
  pub record LookFrozeHere (pair : Pair) : Type 0 where
    pub d : ℕ
    pub v : ℕ
    pub home : Home pair d (Some v)
    pub elsewhere : Only v
    pub steps : Each (λ doing. (did_of (doing.act).did ≡ Tries) ⊎ (did_of (doing.act).did ≡ Freezes (first_machine settings v))) (doings.volumes v)

  abbrev pub LookWantingHere : Pair → Type 0
  LookWantingHere pair = NoRow × (NothingOn settings start drained a b doings ⊎ LookFrozeHere pair)

  abbrev pub ShowDidHere : ℕ → Pair → Cookie → Reply → Type 0
  ShowDidHere first pair cookie (Photo v m p d bytes) = ShowedHere first pair v m p d (outcome.Photo (record { cookie = cookie; bytes = bytes }))
  ShowDidHere first pair cookie (Gone v m p d) = ShowedHere first pair v m p d outcome.Nothing
  ShowDidHere first pair cookie (WrongCookie v m p d) =
      (other : Cookie) × (bytes : List ℕ) × (other ≢ cookie) × ShowedHere first pair v m p d (outcome.Photo (record { cookie = other; bytes = bytes }))
  ShowDidHere first pair cookie (Unreadable v p d causes) = ShowedNoneHere first pair v p d causes
  ShowDidHere first pair cookie (Unknown d) = Home pair d None × Nothing
  ShowDidHere first pair cookie NoMem = LookWantingHere pair
  ShowDidHere first pair cookie _ = ⊥

  abbrev pub GetDidHere : UrlParts → Option ℕ → Reply → Type 0
  GetDidHere url None Nowhere = Nothing
  GetDidHere url None NoMem = Nothing
  GetDidHere url None _ = ⊥
  GetDidHere url (Some first) (Moved v d) = Home url.pair d (Some v) × (v ≢ url.volume) × Nothing
  GetDidHere url (Some first) NoMem = NoRow × (NothingOn settings start drained a b doings ⊎ ((froze : LookFrozeHere url.pair) × (froze.v ≡ url.volume)))
  GetDidHere url (Some first) reply = ShowDidHere first url.pair url.cookie reply × GetShows url reply

  -- DELETES

  pub record DelDoneHere (pair : Pair) (v p d : ℕ) : Type 0 where
    pub home : Home pair d (Some v)
    pub below : v < settings.volumes
    pub rows : NoRow
    pub elsewhere : Only v
    pub doing : OneDoing (doings.volumes v) (Entered (entry.Del pair))
    pub «open» : closing_at settings start drained a b v (doing.one).held ≡ None
    pub stood : stood_at settings start drained a b v (doing.one).held pair ≡ true
    pub position : p ≡ length (volume_stood start v (doing.one).held).log + 1

  pub record DelAbsentHere (pair : Pair) (v p d : ℕ) : Type 0 where
    pub home : Home pair d (Some v)
    pub found : Found settings start drained a b v (λ acts. (closing_at settings start drained a b v acts ≡ None) × (stood_at settings start drained a b v acts pair ≡ false)
        × (p ≡ length (volume_stood start v acts).log))
    pub none : Nothing

  abbrev pub HomeIsClosedHere : Pair → List ClosedBy → Type 0
  HomeIsClosedHere pair (by ∷ []) =
      ((d : ℕ) × Home pair d (Some by.volume)) × Found settings start drained a b by.volume (λ acts. closing_at settings start drained a b by.volume acts ≡ Some by.machine)
  HomeIsClosedHere pair _ = ⊥

  -- a call failed in a doing on a volume that was open to changes
  abbrev pub FailedOpenHere : ℕ → ℕ → Doing VolumeAct → ℕ → Type 0
  FailedOpenHere v m doing f = (closing_at settings start drained a b v doing.held ≡ None) × FailedAt settings start drained a b (doings.volumes v) v m doing f

  pub record DelFailedHere (pair : Pair) (v m f : ℕ) : Type 0 where
    pub d : ℕ
    pub home : Home pair d (Some v)
    pub below : v < settings.volumes
    pub rows : NoRow
    pub elsewhere : Only v
    pub which : ((try : OneTryAt settings start drained a b doings v) × FailedOpenHere v m try.one f)
        ⊎ ((doing : OneDoing (doings.volumes v) (Pends m (entry.Del pair) true)) × FailedOpenHere v m doing.one f × (stood_at settings start drained a b v (doing.one).held pair ≡ true))

  -- it found the volume open to changes
  abbrev pub FoundOpen : ℕ → Type 0
  FoundOpen v = Found settings start drained a b v (λ acts. closing_at settings start drained a b v acts ≡ None)

  abbrev pub DelWantingHere : Pair → Type 0
  DelWantingHere pair =
      NoRow
      × (NothingOn settings start drained a b doings
      ⊎ ((froze : LookFrozeHere pair) × FoundOpen froze.v)
      ⊎ LeftPendingHere pair (entry.Del pair) (λ v acts. (closing_at settings start drained a b v acts ≡ None) × (stood_at settings start drained a b v acts pair ≡ true)))

  abbrev pub DelDidHere : Pair → Reply → Type 0
  DelDidHere pair (Deleted v p d) = DelDoneHere pair v p d
  DelDidHere pair (Absent v p d) = DelAbsentHere pair v p d
  DelDidHere pair (Unknown d) = Home pair d None × Nothing
  DelDidHere pair (ReadOnly by) = HomeIsClosedHere pair by × Nothing
  DelDidHere pair (Failed v m f) = DelFailedHere pair v m f
  DelDidHere pair NoMem = DelWantingHere pair
  DelDidHere pair _ = ⊥

  abbrev pub UrlDidHere : Pair → Reply → Type 0
  UrlDidHere pair (Url d url) =
      Home pair d (Some url.volume) × (url.pair ≡ pair) × (url.cookie ≡ cookie_of settings.secret pair.key)
      × (url.machine ≡ machine_of settings url.volume (start_of settings (tag_of item))) × Nothing
  UrlDidHere pair (Unknown d) = Home pair d None × Nothing
  UrlDidHere pair NoMem = Nothing
  UrlDidHere pair _ = ⊥

  -- FLUSHES

  abbrev pub IsFrozenHere : ℕ → List ClosedBy → Type 0
  IsFrozenHere v (by ∷ []) = (by.volume ≡ v) × Found settings start drained a b v (λ acts. (volume_stood start v acts).frozen ≡ Some by.machine)
  IsFrozenHere v _ = ⊥

  abbrev pub IsStuckHere : ℕ → ℕ → ℕ → List ClosedBy → Type 0
  IsStuckHere v m j (by ∷ []) =
      Names v m by.volume by.machine
      × Found settings start drained a b v (λ acts. ((volume_stood start v acts).frozen ≡ None) × ((replica_at (volume_stood start v acts) j).stuck ≡ true))
  IsStuckHere v m j _ = ⊥

  pub record FlushDoneHere (v j n : ℕ) : Type 0 where
    pub below : v < settings.volumes
    pub rows : NoRow
    pub elsewhere : Only v
    pub doing : OneDoing (doings.volumes v) (Flushes j)
    pub number : n ≡ (replica_at (volume_stood start v (doing.one).held) j).bare

  pub record FlushFailedHere (v j f : ℕ) : Type 0 where
    pub below : v < settings.volumes
    pub rows : NoRow
    pub elsewhere : Only v
    pub doing : OneDoing (doings.volumes v) (Sticks j)
    pub failed : RoseAt settings start drained a b v doing.one j f
    pub last : IsLastDoing (doings.volumes v) doing.one

  abbrev pub FlushDidHere : ℕ → ℕ → Option ℕ → Reply → Type 0
  FlushDidHere v m None Nowhere = Nothing
  FlushDidHere v m None NoMem = Nothing
  FlushDidHere v m None _ = ⊥
  FlushDidHere v m (Some j) (Flushed v' m' n) = Names v m v' m' × FlushDoneHere v j n
  FlushDidHere v m (Some j) (ReadOnly by) = (IsFrozenHere v by ⊎ IsStuckHere v m j by) × Nothing
  FlushDidHere v m (Some j) (Failed v' m' f) = Names v m v' m' × FlushFailedHere v j f
  FlushDidHere v m (Some j) NoMem = Nothing
  FlushDidHere v m (Some j) _ = ⊥

  -- COMPACTIONS

  -- The line's compaction of replica j: it began, examined cells, and stood until an act behind which the line found none.
  pub record RanHere (v j : ℕ) (last : List (Doing VolumeAct)) : Type 0 where
    pub below : v < settings.volumes
    pub rows : NoRow
    pub elsewhere : Only v
    pub first : Doing VolumeAct
    pub begins : did_of (first.act).did ≡ Begins j
    pub middle : List (Doing VolumeAct)
    pub examines : Each (λ doing. (n : ℕ) × (did_of (doing.act).did ≡ Examines j n)) middle
    pub steps : changed (doings.volumes v) ≡ first ∷ (middle ++ last)
    pub until : Doing VolumeAct
    pub ran : RanUntilAt settings start drained a b v j until (tag_of item)
    pub behind_it : length first.held < length until.held
    pub inside : Each (λ doing. length doing.held < length until.held) middle

  -- its own last doing did this
  pub record RanAsHere (v j : ℕ) (did : Did) : Type 0 where
    pub doing : Doing VolumeAct
    pub is : did_of (doing.act).did ≡ did
    pub ran : RanHere v j (doing ∷ [])
    pub last : ran.until ≡ doing

  -- a delete of another lane ended it, since the replica's disk failed
  pub record RanUntilHere (v j f : ℕ) : Type 0 where
    pub ran : RanHere v j []
    pub thawed : (volume_stood start v (past ran.until)).frozen ≡ None
    pub rose : RoseAt settings start drained a b v ran.until j f

  -- a compaction that was not begun, since a call of the disk failed
  pub record BeginFailedHere (v j f : ℕ) : Type 0 where
    pub below : v < settings.volumes
    pub rows : NoRow
    pub elsewhere : Only v
    pub try : OneTryAt settings start drained a b doings v
    pub thawed : (volume_stood start v (try.one).held).frozen ≡ None
    pub at_rest : (replica_at (volume_stood start v (try.one).held) j).run ≡ None
    pub number : (replica_at (volume_stood start v (try.one).held) j).generation < LAST_GENERATION
    pub failed : RoseAt settings start drained a b v try.one j f
    pub last : IsLastDoing (doings.volumes v) try.one

  -- a call failed in this doing, which is the line's last one on the volume
  abbrev pub FailedLast : ℕ → ℕ → ℕ → Doing VolumeAct → Type 0
  FailedLast v j f doing = RoseAt settings start drained a b v doing j f × IsLastDoing (doings.volumes v) doing

  abbrev pub CompactFailedHere : ℕ → ℕ → ℕ → ℕ → Type 0
  CompactFailedHere v m j f =
      BeginFailedHere v j f
      ⊎ ((ends : RanAsHere v j (Ends j)) × FailedLast v j f ends.doing)
      ⊎ ((poises : RanAsHere v j (Poises m j)) × FailedLast v j f poises.doing)
      ⊎ RanUntilHere v j f

  -- once it had ended, the line found that this machine had frozen the volume: in its course, or behind it
  pub record RanFrozenHere (v j m : ℕ) : Type 0 where
    pub ran : RanHere v j []
    pub found : Found settings start drained a b v (λ acts. IsPrefix (past ran.until) acts × ((volume_stood start v acts).frozen ≡ Some m))

  -- where no entry came while a compaction stood, the sizes behind its swap are those of the standing photos
  abbrev pub IsTightHere : ℕ → ℕ → List VolumeAct → List VolumeAct → ℕ → ℕ → Type 0
  IsTightHere v j from to end cells =
      (volume_stood start v to).log ≡ (volume_stood start v from).log
      → (end ≡ live_end (now (volume_stood start v to) (replica_at (volume_stood start v to) j)))
      × (cells ≡ length (now (volume_stood start v to) (replica_at (volume_stood start v to) j)))

  abbrev pub CompactWantingHere : ℕ → ℕ → Type 0
  CompactWantingHere v j =
      Nothing
      ⊎ RanAsHere v j (Ends j)
      ⊎ ((end : ℕ) × (cells : ℕ) × (swaps : RanAsHere v j (Swaps j end cells true)) × IsTightHere v j ((swaps.ran).first).held (swaps.doing).held end cells)
      ⊎ ((f : ℕ) × RanUntilHere v j f)
      ⊎ ((m : ℕ) × RanFrozenHere v j m)

  abbrev pub RanFrozenBy : ℕ → ℕ → List ClosedBy → Type 0
  RanFrozenBy v j (by ∷ []) = (by.volume ≡ v) × RanFrozenHere v j by.machine
  RanFrozenBy v j _ = ⊥

  abbrev pub CompactRefusedHere : ℕ → ℕ → List ClosedBy → Type 0
  CompactRefusedHere v j by = (IsFrozenHere v by × Nothing) ⊎ RanFrozenBy v j by

  abbrev pub MetBusyHere : ℕ → ℕ → ℕ → Type 0
  MetBusyHere v j g =
      Found settings start drained a b v (λ acts. ((volume_stood start v acts).frozen ≡ None)
      × ((run : Run) × ((replica_at (volume_stood start v acts) j).run ≡ Some run) × (run.goal ≡ g)))

  abbrev pub MetWornHere : ℕ → ℕ → Type 0
  MetWornHere v j =
      Found settings start drained a b v (λ acts. ((volume_stood start v acts).frozen ≡ None)
      × ((replica_at (volume_stood start v acts) j).run ≡ None) × ((replica_at (volume_stood start v acts) j).generation ≡ LAST_GENERATION))

  abbrev pub CompactDidHere : ℕ → ℕ → Option ℕ → Reply → Type 0
  CompactDidHere v m None Nowhere = Nothing
  CompactDidHere v m None NoMem = Nothing
  CompactDidHere v m None _ = ⊥
  CompactDidHere v m (Some j) (Compacted v' m' g) =
      Names v m v' m'
      × ((end : ℕ) × (cells : ℕ) × (swaps : RanAsHere v j (Swaps j end cells false))
      × (g ≡ (replica_at (volume_stood start v (swaps.doing).held) j).generation + 1)
      × IsTightHere v j ((swaps.ran).first).held (swaps.doing).held end cells)
  CompactDidHere v m (Some j) (ReadOnly by) = CompactRefusedHere v j by
  CompactDidHere v m (Some j) (Busy v' m' g) = Names v m v' m' × Nothing × MetBusyHere v j g
  CompactDidHere v m (Some j) (Worn v' m') = Names v m v' m' × Nothing × MetWornHere v j
  CompactDidHere v m (Some j) (Failed v' m' f) = Names v m v' m' × CompactFailedHere v m j f
  CompactDidHere v m (Some j) NoMem = CompactWantingHere v j
  CompactDidHere v m (Some j) _ = ⊥

  -- COMPACTIONS STEP BY STEP

  -- a compaction of the replica stood behind these acts, which a line of this lane began
  abbrev pub HasRunOfLaneAt : ℕ → ℕ → List VolumeAct → Type 0
  HasRunOfLaneAt v j acts = (tag : CoreTag) × (tag.lane ≡ item.lane) × HasRunAt settings start drained a b v j acts tag

  pub record OnlyDidHere (v : ℕ) (did : Did) : Type 0 where
    pub below : v < settings.volumes
    pub rows : NoRow
    pub elsewhere : Only v
    pub doing : OneDoing (doings.volumes v) did

  pub record WentOnHere (v j : ℕ) (did : Did) : Type 0 where
    pub only : OnlyDidHere v did
    pub own : HasRunOfLaneAt v j ((only.doing).one).held

  abbrev pub MetIdleHere : ℕ → ℕ → Type 0
  MetIdleHere v j = Found settings start drained a b v (λ acts. ((volume_stood start v acts).frozen ≡ None) × (HasRunOfLaneAt v j acts → ⊥))

  abbrev pub BeginDidHere : ℕ → ℕ → Option ℕ → Reply → Type 0
  BeginDidHere v m None Nowhere = Nothing
  BeginDidHere v m None NoMem = Nothing
  BeginDidHere v m None _ = ⊥
  BeginDidHere v m (Some j) (Begun v' m' g) =
      Names v m v' m' × ((begins : OnlyDidHere v (Begins j)) × (g ≡ (replica_at (volume_stood start v ((begins.doing).one).held) j).generation + 1))
  BeginDidHere v m (Some j) (ReadOnly by) = IsFrozenHere v by × Nothing
  BeginDidHere v m (Some j) (Busy v' m' g) = Names v m v' m' × Nothing × MetBusyHere v j g
  BeginDidHere v m (Some j) (Worn v' m') = Names v m v' m' × Nothing × MetWornHere v j
  BeginDidHere v m (Some j) (Failed v' m' f) = Names v m v' m' × BeginFailedHere v j f
  BeginDidHere v m (Some j) NoMem = Nothing
  BeginDidHere v m (Some j) _ = ⊥

  -- it examined so many cells, of those that were left
  abbrev pub SteppingHere : ℕ → ℕ → ℕ → (ℕ → ℕ → Type 0) → Type 0
  SteppingHere v j n AsMany = (went : WentOnHere v j (Examines j n)) × AsMany n (((went.own).2).run).left

  abbrev pub StepDidHere : ℕ → ℕ → ℕ → Option ℕ → Reply → Type 0
  StepDidHere v m cells None Nowhere = Nothing
  StepDidHere v m cells None NoMem = Nothing
  StepDidHere v m cells None _ = ⊥
  StepDidHere v m cells (Some j) (Stepped v' m' n) = Names v m v' m' × SteppingHere v j n (λ n left. n ≡ min cells left)
  StepDidHere v m cells (Some j) (ReadOnly by) = IsFrozenHere v by × Nothing
  StepDidHere v m cells (Some j) (Idle v' m') = Names v m v' m' × MetIdleHere v j × Nothing
  StepDidHere v m cells (Some j) (Failed v' m' f) =
      Names v m v' m' × ((ends : WentOnHere v j (Ends j)) × FailedLast v j f ((ends.only).doing).one)
  StepDidHere v m cells (Some j) NoMem = Nothing ⊎ ((n : ℕ) × SteppingHere v j n (λ n left. n ≤ min cells left))
  StepDidHere v m cells (Some j) _ = ⊥

  abbrev pub FinishFailedHere : ℕ → ℕ → ℕ → ℕ → Type 0
  FinishFailedHere v m j f =
      ((ends : WentOnHere v j (Ends j)) × FailedLast v j f ((ends.only).doing).one)
      ⊎ ((poises : WentOnHere v j (Poises m j)) × FailedLast v j f ((poises.only).doing).one)

  abbrev pub FinishDidHere : ℕ → ℕ → Option ℕ → Reply → Type 0
  FinishDidHere v m None Nowhere = Nothing
  FinishDidHere v m None NoMem = Nothing
  FinishDidHere v m None _ = ⊥
  FinishDidHere v m (Some j) (Compacted v' m' g) =
      Names v m v' m'
      × ((end : ℕ) × (cells : ℕ) × (swaps : WentOnHere v j (Swaps j end cells false))
      × (g ≡ (replica_at (volume_stood start v (((swaps.only).doing).one).held) j).generation + 1))
  FinishDidHere v m (Some j) (ReadOnly by) = IsFrozenHere v by × Nothing
  FinishDidHere v m (Some j) (Idle v' m') = Names v m v' m' × MetIdleHere v j × Nothing
  FinishDidHere v m (Some j) (Failed v' m' f) = Names v m v' m' × FinishFailedHere v m j f
  FinishDidHere v m (Some j) NoMem =
      Nothing ⊎ WentOnHere v j (Ends j) ⊎ ((end : ℕ) × (cells : ℕ) × WentOnHere v j (Swaps j end cells true))
  FinishDidHere v m (Some j) _ = ⊥

  -- DRAINS AND FUSES

  abbrev pub OnlyDidRowHere : RowDid → Type 0
  OnlyDidRowHere did = NothingOn settings start drained a b doings × OneRowDoing doings.rows did

  abbrev pub DrainDidHere : ℕ → Reply → Type 0
  DrainDidHere m (Drained m') = (m' ≡ m) × (m < settings.machines) × OnlyDidRowHere (Drains m true)
  DrainDidHere m Nowhere = (settings.machines ≤ m) × Nothing
  DrainDidHere m NoMem = Nothing
  DrainDidHere m _ = ⊥

  abbrev pub UndrainDidHere : ℕ → Reply → Type 0
  UndrainDidHere m (Undrained m') = (m' ≡ m) × (m < settings.machines) × OnlyDidRowHere (Drains m false)
  UndrainDidHere m Nowhere = (settings.machines ≤ m) × Nothing
  UndrainDidHere m NoMem = Nothing
  UndrainDidHere m _ = ⊥

  abbrev pub FuseDidHere : ℕ → ℕ → ℕ → Option ℕ → Reply → Type 0
  FuseDidHere v m n None Nowhere = Nothing
  FuseDidHere v m n None NoMem = Nothing
  FuseDidHere v m n None _ = ⊥
  FuseDidHere v m n (Some j) (Fused v' m' n') = Names v m v' m' × (n' ≡ n) × OnlyDidHere v (Fuses j)
  FuseDidHere v m n (Some j) NoMem = Nothing
  FuseDidHere v m n (Some j) _ = ⊥

  abbrev pub FuseDirDidHere : ℕ → Reply → Type 0
  FuseDirDidHere n (FusedDir n') = (n' ≡ n) × OnlyDidRowHere FusesRow
  FuseDirDidHere n NoMem = Nothing
  FuseDirDidHere n _ = ⊥

  -- EVERY LINE

  abbrev pub CommandDidHere : Command → Reply → Type 0
  CommandDidHere (command.Put pair bytes) reply = PutDidHere pair bytes reply
  CommandDidHere (command.Read pair cookie) reply = ShowDidHere (start_of settings (tag_of item)) pair cookie reply
  CommandDidHere (command.Get url) reply = GetDidHere url (replica_on settings url.volume url.machine) reply
  CommandDidHere (command.Del pair) reply = DelDidHere pair reply
  CommandDidHere (command.Url pair) reply = UrlDidHere pair reply
  CommandDidHere (command.Flush v m) reply = FlushDidHere v m (replica_on settings v m) reply
  CommandDidHere (command.Compact v m) reply = CompactDidHere v m (replica_on settings v m) reply
  CommandDidHere (command.Begin v m) reply = BeginDidHere v m (replica_on settings v m) reply
  CommandDidHere (command.Step v m cells) reply = StepDidHere v m cells (replica_on settings v m) reply
  CommandDidHere (command.Finish v m) reply = FinishDidHere v m (replica_on settings v m) reply
  CommandDidHere (command.Drain m) reply = DrainDidHere m reply
  CommandDidHere (command.Undrain m) reply = UndrainDidHere m reply
  CommandDidHere (command.Fuse v m n) reply = FuseDidHere v m n (replica_on settings v m) reply
  CommandDidHere (command.FuseDir n) reply = FuseDirDidHere n reply
  CommandDidHere (command.Restart pick) reply = ⊥

  abbrev pub DidHere : Item → Reply → Type 0
  DidHere (asks.Command command) reply = CommandDidHere command reply
  DidHere asks.Bad reply = (reply ≡ BadLine) × Nothing

-- A line was answered by what its lane saw and did between two sights: the clause that a store's answers meet.
pub record AnsweredHere (settings : Settings) (start : Start) (drained : List Bool) (item : LaneItem) (a b : Sight) : Type 0 where
  pub doings : Doings
  pub work : Work item a b doings
  pub did : DidHere settings start drained item a b doings item.item item.reply
