-- How far a line has come between two sights of its lane.
use Rattle.std.specs.Prelude.{◌≡◌, ◌⊎◌, ℕ, ◌+◌, ◌-◌, ◌^◌, ◌<◌, ◌≤◌, Bool, true, List, [], ◌∷◌, count_by, Contains, Option, Some, None}
use Rattle.std.specs.List.{AllZip, AllByRecursion as Each}
use Rattle.hay_needle.specs.declared.needle.Pair.{Pair}
use Rattle.hay_needle.specs.declared.needle.Cookie.{Cookie}
use Rattle.hay_needle.specs.declared.needle.Outcome.{Outcome}
use Rattle.hay_needle.specs.declared.settings.Settings.{Settings}
use Rattle.hay_needle.specs.Tables.{outcome_at}
use Rattle.hay_script.specs.declared.Command.{Command}
use Rattle.hay_reply.specs.declared.Refused.{Refused}
use Rattle.hay_reply.specs.declared.Cause.{Cause}
use Rattle.hay_reply.specs.declared.Cause.TheVariants.{Arm, Disk, Damage}
use Rattle.hay_reply.specs.declared.Reply.{Reply}
use Rattle.hay_core.specs.declared.entry.CoreTag.{CoreTag}
use Rattle.hay_core.specs.declared.entry.Entry.{Entry}
use Rattle.hay_legal.specs.declared.known.HomeRow.{HomeRow}
use Rattle.hay_legal.specs.declared.turn.Item.{Item}
use Rattle.hay_legal.specs.declared.turn.Item.TheVariants as asks
use Rattle.hay_legal.specs.declared.turn.LaneItem.{LaneItem}
use Rattle.hay_legal.specs.Known.{CameUp, EachPair, closed_by, refusal_by, room_refusal_of}
use Rattle.hay_legal.specs.Plain.{ArmRises}
use Rattle.hay_history.specs.LaneSteps.Did.{Begins, Examines, Tries}
use Rattle.hay_history.specs.LaneSteps.RowDid.{AddsRow}
use Rattle.hay_meeting.specs.declared.act.DirAct.{DirAct}
use Rattle.hay_meeting.specs.declared.act.VolumeAct.{VolumeAct}
use Rattle.hay_meeting.specs.Acts.{Start, did_of}
use Rattle.hay_meeting.specs.Facts.{FoundRefusal, FoundTaker, OneRowDoing, SawHome, changed, changed_rows, drained_in, front_shown, table_shown, volume_stood}
use Rattle.hay_meeting.specs.Locks.{Doing, IsLaterAt, LockSight, past}
use Rattle.hay_meeting.specs.Replies.{AnsweredHere, ShowDidHere}
use Rattle.hay_meeting.specs.Sights.{Doings, Sight}
use Rattle.hay_holdings.specs.Sights.{Idle, Went, doings_at, only_rows}
use Rattle.hay_holdings.specs.Volumes.{VolumeCall, Call, HasRunOf, RoseTo}

-- THE ANSWER

abbrev pub line_of : CoreTag → Item → Reply → LaneItem
line_of tag item reply = record { line = tag.line; lane = tag.lane; item = item; reply = reply }

-- the line of this command was answered so between the sights
abbrev pub IsAnswered : Settings → Start → List Bool → CoreTag → Command → Reply → Sight → Sight → Type 0
IsAnswered settings start drained tag command reply a b = AnsweredHere settings start drained (line_of tag (asks.Command command) reply) a b

-- It changed nothing, though it may have acted.
pub record Unchanged (tag : CoreTag) (a b : Sight) : Type 0 where
  pub doings : Doings
  pub went : Went tag a b doings
  pub volumes : (v : ℕ) → changed (doings.volumes v) ≡ []
  pub rows : changed_rows doings.rows ≡ []

-- a fetch failed, between two counts of the lane's arm
abbrev pub ArmFailed : ℕ → ℕ → Cause → Type 0
ArmFailed before after (Arm f) = CameUp before f after
ArmFailed before after (Disk f) = ⊥
ArmFailed before after (Damage at) = ⊥

-- A HOLDING THAT FOUND THE VOLUME CLOSED

module _ (settings : Settings) (start : Start) (drained : List Bool) (v : ℕ) (tag : CoreTag) where
  -- it is closed to changes by this machine: a freeze goes before a drain
  abbrev pub Closes : ℕ → VolumeCall
  Closes m = Call settings start v tag (λ held made. (made ≡ None) × (closed_by (volume_stood start v held).frozen (drained_in settings drained v) ≡ Some m))

  -- it does not take a photo of this size
  abbrev pub Refuses : ℕ → Refused → VolumeCall
  Refuses size refused = Call settings start v tag (λ held made.
      (made ≡ None)
      × (refusal_by v (closed_by (volume_stood start v held).frozen (drained_in settings drained v)) (room_refusal_of settings v (volume_stood start v held) size)
      ≡ Some refused))

module _ (settings : Settings) (start : Start) (drained : List Bool) (tag : CoreTag) where
  -- it looked at the rows, where the pair had this home, and made no act
  pub record Sees (pair : Pair) (d : ℕ) (home : Option ℕ) (a b : Sight) : Type 0 where
    pub idle : Idle tag a b
    pub saw : SawHome settings start drained a b pair d home

  -- PUTS

  -- it saw the pair without a home, and each of these refuse a photo of this size
  pub record Tried (pair : Pair) (size : ℕ) (tries : List ℕ) (refused : List Refused) (a b : Sight) : Type 0 where
    pub idle : Idle tag a b
    pub d : ℕ
    pub home : SawHome settings start drained a b pair d None
    pub each : AllZip (FoundRefusal settings start drained a b size) tries refused

  -- and this one take it, where each before it refuses it
  pub record HasTaker (pair : Pair) (size v : ℕ) (a b : Sight) : Type 0 where
    pub idle : Idle tag a b
    pub d : ℕ
    pub home : SawHome settings start drained a b pair d None
    pub taker : FoundTaker settings start drained a b pair size v

  -- it added the row of its pair
  pub record AddedRow (pair : Pair) (size : ℕ) (rows : List (Doing DirAct)) (a b : Sight) : Type 0 where
    pub row : HomeRow
    pub doing : OneRowDoing rows (AddsRow row)
    pub own_pair : row.pair ≡ pair
    pub taker : FoundTaker settings start drained a b pair size row.volume

  -- it saw this home of its pair, at so many rows, or made it the home
  pub record Settled (pair : Pair) (size d v : ℕ) (a b : Sight) : Type 0 where
    pub rows : List (Doing DirAct)
    pub went : Went tag a b (only_rows rows)
    pub row : (changed_rows rows ≡ []) ⊎ AddedRow pair size rows a b
    pub home : SawHome settings start drained a b pair d (Some v)

  -- READS

  -- a call of the disk of replica j failed in one of these doings
  abbrev pub LookFailed : ℕ → List (Doing VolumeAct) → ℕ → ℕ → Type 0
  LookFailed v doings j f = (doing : Doing VolumeAct) × Contains doings doing × RoseTo settings start v j f doing

  -- a replica was passed over, since a fetch failed or a call of its disk did
  abbrev pub PassedFor : ℕ → List (Doing VolumeAct) → Sight → Sight → ℕ → Cause → Type 0
  PassedFor v doings a b j (Arm f) = CameUp a.arm f b.arm
  PassedFor v doings a b j (Disk f) = LookFailed v doings j f
  PassedFor v doings a b j (Damage at) = ⊥

  -- It saw this home of its pair, looked at places of it alone, and passed these replicas over, for these causes. Those that were not
  -- passed over for their disk were for the arm.
  pub record PassedOver (pair : Pair) (d v : ℕ) (replicas : List ℕ) (causes : List Cause) (a b : Sight) : Type 0 where
    pub home : SawHome settings start drained a b pair d (Some v)
    pub doings : List (Doing VolumeAct)
    pub went : Went tag a b (doings_at v doings [])
    pub tries : Each (λ doing. did_of (doing.act).did ≡ Tries) doings
    pub each : AllZip (PassedFor v doings a b) replicas causes
    pub rises : EachPair ArmRises causes
    pub to_arm : ℕ → Bool
    pub arm : (a.arm + count_by to_arm replicas ≤ b.arm) ⊎ (b.arm ≡ 2 ^ 64 - 1)
    pub disks : (j : ℕ) → (to_arm j ≡ true) ⊎ ((f : ℕ) × LookFailed v doings j f)

  -- its last look at the volume's view showed this front, and there this at the pair by replica
  pub record Shows (pair : Pair) (v p : ℕ) (what : ℕ → Outcome) (a b : Sight) : Type 0 where
    pub sight : LockSight VolumeAct Entry
    pub from : IsLaterAt (a.volumes v) sight
    pub to : IsLaterAt sight (b.volumes v)
    pub front : p ≡ front_shown start v sight.shown
    pub is : (j : ℕ) → j < settings.replicas → what j ≡ outcome_at (table_shown start v j sight.shown) pair

  pub record Looking (pair : Pair) (d v p : ℕ) (what : ℕ → Outcome) (replicas : List ℕ) (causes : List Cause) (a b : Sight) : Type 0 where
    pub passed : PassedOver pair d v replicas causes a b
    pub shows : Shows pair v p what a b

  -- the reader that starts at this replica is answered so
  pub record ShowsAs (first : ℕ) (pair : Pair) (cookie : Cookie) (reply : Reply) (a b : Sight) : Type 0 where
    pub doings : Doings
    pub went : Went tag a b doings
    pub did : (item : LaneItem) → ShowDidHere settings start drained item a b doings first pair cookie reply

  -- COMPACTIONS

  -- It began a compaction of a replica and examined cells for it, and changed nothing else.
  pub record Compacting (v j : ℕ) (a b : Sight) : Type 0 where
    pub doings : List (Doing VolumeAct)
    pub went : Went tag a b (doings_at v doings [])
    pub first : Doing VolumeAct
    pub begins : did_of (first.act).did ≡ Begins j
    pub middle : List (Doing VolumeAct)
    pub examines : Each (λ doing. (n : ℕ) × (did_of (doing.act).did ≡ Examines j n)) middle
    pub steps : changed doings ≡ first ∷ middle
    pub stood : HasRunOf settings start v j tag (past first)
    pub stand : Each (λ doing. HasRunOf settings start v j tag (past doing)) middle
