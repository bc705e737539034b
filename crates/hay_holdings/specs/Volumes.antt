-- What one call at a volume found and did, by its answer, between two sights. A call looks at the view, or holds the lock once.
use Rattle.std.specs.Prelude.{◌≡◌, ◌⊎◌, ℕ, ◌+◌, ◌<◌, ◌≤◌, Bool, true, false, List, ◌++◌, length, Option, Some, None}
use Rattle.std.specs.List.{list_any}
use mathlib.Core.List.{IsPrefix}
use Rattle.hay_needle.specs.declared.needle.Pair.{Pair}
use Rattle.hay_needle.specs.declared.needle.Cookie.{Cookie}
use Rattle.hay_needle.specs.declared.needle.Outcome.{Outcome}
use Rattle.hay_needle.specs.declared.settings.Settings.{Settings}
use Rattle.hay_needle.specs.Tables.{live_end, outcome_at}
use Rattle.hay_needle.specs.declared.settings.TheConstants.{LAST_GENERATION}
use Rattle.hay_disk.specs.Counts.{Rose}
use Rattle.hay_reply.specs.declared.Refused.{Refused}
use Rattle.hay_core.specs.declared.entry.CoreTag.{CoreTag}
use Rattle.hay_core.specs.declared.entry.Entry.{Entry}
use Rattle.hay_core.specs.declared.entry.Entry.TheVariants as entry
use Rattle.hay_legal.specs.declared.known.Run.{Run}
use Rattle.hay_legal.specs.declared.known.ReplicaKnown.{ReplicaKnown}
use Rattle.hay_legal.specs.Known.{now, replica_at, replica_on, replicas_of, room_refusal_of, stands}
use Rattle.hay_legal.specs.Plain.{first_machine}
use Rattle.hay_history.specs.LaneSteps.{Did}
use Rattle.hay_history.specs.LaneSteps.Did.{Begins, Ends, Entered, Examines, Flushes, Freezes, Fuses, Pends, Poises, Sticks, Swaps, Tries}
use Rattle.hay_meeting.specs.declared.act.VolumeAct.{VolumeAct}
use Rattle.hay_meeting.specs.Acts.{Start, begun_of, did_of, nobody, volume_lock}
use Rattle.hay_meeting.specs.Facts.{front_shown, table_shown, volume_stood}
use Rattle.hay_meeting.specs.Locks.{Doing, LockSight, past}
use Rattle.hay_meeting.specs.Sights.{stood}
use Rattle.hay_turn.specs.Slots.{acts_in}
use Rattle.hay_holdings.specs.Holdings.{Called, Looked}

-- what a call at a volume is, from what its lane knew of it to what it knows then
abbrev pub VolumeCall : Type 1
VolumeCall = LockSight VolumeAct Entry → LockSight VolumeAct Entry → Type 0

-- it made one act, which did this
abbrev pub MadeOne : Did → Option VolumeAct → Type 0
MadeOne did None = ⊥
MadeOne did (Some act) = did_of act.did ≡ did

-- it made none, or one that changed nothing
abbrev pub MadeNothing : Option VolumeAct → Type 0
MadeNothing None = Unit {0}
MadeNothing (Some act) = did_of act.did ≡ Tries

module _ (settings : Settings) (start : Start) (v : ℕ) where
  abbrev pub replica_stood : List VolumeAct → ℕ → ReplicaKnown
  replica_stood held j = replica_at (volume_stood start v held) j

  abbrev pub IsThawed : List VolumeAct → Type 0
  IsThawed held = (volume_stood start v held).frozen ≡ None

  -- a call of the disk of replica j failed in an act, and its count rose to f
  abbrev pub RoseTo : ℕ → ℕ → Doing VolumeAct → Type 0
  RoseTo j f doing =
      (j < settings.replicas) × Rose ((stood start v doing.held).faults j) ((stood start v (past doing)).faults j) × (f ≡ (stood start v (past doing)).faults j)

  -- so it was in the act that was made
  abbrev pub FailedAct : ℕ → ℕ → List VolumeAct → Option VolumeAct → Type 0
  FailedAct j f held None = ⊥
  FailedAct j f held (Some act) = RoseTo j f (record { held = held; act = act })

  -- the same of the replica that stands on this machine
  abbrev pub FailedOn : ℕ → ℕ → List VolumeAct → Option VolumeAct → Type 0
  FailedOn m f held made = (j : ℕ) × (replica_on settings v m ≡ Some j) × FailedAct j f held made

  -- it is neither frozen nor without room
  abbrev pub Takes : ℕ → List VolumeAct → Type 0
  Takes size held = IsThawed held × (room_refusal_of settings v (volume_stood start v held) size ≡ None)

  -- on some replica a photo stood at the pair
  abbrev pub stood_there : Pair → List VolumeAct → Bool
  stood_there pair held = list_any (λ j. stands (outcome_at (now (volume_stood start v held) (replica_stood held j)) pair)) (replicas_of settings)

  -- a compaction of the replica stood, which this line began
  pub record HasRunOf (j : ℕ) (who : CoreTag) (held : List VolumeAct) : Type 0 where
    pub run : Run
    pub stands : (replica_stood held j).run ≡ Some run
    pub begun : begun_of j nobody held ≡ who

  -- the act at which the last compaction that the line began came to its end
  pub record EndedAt (j : ℕ) (who : CoreTag) (held : List VolumeAct) : Type 0 where
    pub until : Doing VolumeAct
    pub within : IsPrefix (past until) held
    pub own : HasRunOf j who until.held
    pub none : (replica_stood (past until) j).run ≡ None
    pub last : (acts : List VolumeAct) → IsPrefix acts held → HasRunOf j who acts → length acts ≤ length until.held

  -- the sizes behind a swap: where no entry came since the compaction began, they are those of the standing photos
  abbrev pub IsTightSince : ℕ → ℕ → ℕ → List VolumeAct → Type 0
  IsTightSince j end cells held =
      (begins : Doing VolumeAct) → IsPrefix (past begins) held → did_of (begins.act).did ≡ Begins j
      → (volume_stood start v held).log ≡ (volume_stood start v begins.held).log
      → (end ≡ live_end (now (volume_stood start v held) (replica_stood held j))) × (cells ≡ length (now (volume_stood start v held) (replica_stood held j)))

  -- READS

  -- A look at the view: the front that it shows, and what the replicas have at the pair there.
  pub record ShownAt (pair : Pair) (p : ℕ) (what : ℕ → Outcome) (a b : LockSight VolumeAct Entry) : Type 0 where
    pub looked : Looked a b
    pub front : p ≡ front_shown start v b.shown
    pub is : (j : ℕ) → j < settings.replicas → what j ≡ outcome_at (table_shown start v j b.shown) pair

  module _ (tag : CoreTag) where
    -- One holding of the volume, of which this is so.
    abbrev pub Call : (List VolumeAct → Option VolumeAct → Type 0) → VolumeCall
    Call IsSo a b = Called volume_lock tag IsSo a b

    -- a call that changed nothing: a place was seen, or memory was wanting
    abbrev pub ChangedNothing : VolumeCall
    ChangedNothing = Call (λ held made. MadeNothing made)

    -- WHETHER IT TAKES A CHANGE

    abbrev pub MetThawed : VolumeCall
    MetThawed = Call (λ held made. (made ≡ None) × IsThawed held)

    -- it is frozen by this machine
    abbrev pub MetFrozen : ℕ → VolumeCall
    MetFrozen m = Call (λ held made. (made ≡ None) × ((volume_stood start v held).frozen ≡ Some m))

    abbrev pub RoomFits : ℕ → VolumeCall
    RoomFits size = Call (λ held made. (made ≡ None) × Takes size held)

    abbrev pub RoomLacks : ℕ → Refused → VolumeCall
    RoomLacks size refused = Call (λ held made.
        (made ≡ None) × IsThawed held × (room_refusal_of settings v (volume_stood start v held) size ≡ Some refused))

    -- PUTS

    abbrev pub PutStored : Pair → Cookie → List ℕ → ℕ → VolumeCall
    PutStored pair cookie bytes p = Call (λ held made.
        MadeOne (Entered (entry.Put pair cookie bytes)) made × Takes (length bytes) held × (p ≡ length (volume_stood start v held).log + 1))

    abbrev pub PutFailed : Pair → Cookie → List ℕ → ℕ → ℕ → VolumeCall
    PutFailed pair cookie bytes m f = Call (λ held made.
        MadeOne (Pends m (entry.Put pair cookie bytes) true) made × Takes (length bytes) held × FailedOn m f held made)

    abbrev pub PutWanted : Pair → Cookie → List ℕ → VolumeCall
    PutWanted pair cookie bytes = Call (λ held made.
        MadeNothing made ⊎ (MadeOne (Pends (first_machine settings v) (entry.Put pair cookie bytes) false) made × Takes (length bytes) held))

    -- READS of places that had not been looked at

    abbrev pub SightFailed : ℕ → ℕ → VolumeCall
    SightFailed j f = Call (λ held made. MadeOne Tries made × FailedAct j f held made)

    -- for want of memory it may have frozen the volume
    abbrev pub SightWanted : VolumeCall
    SightWanted = Call (λ held made. MadeNothing made ⊎ MadeOne (Freezes (first_machine settings v)) made)

    -- DELETES

    abbrev pub Deleted : Pair → ℕ → VolumeCall
    Deleted pair p = Call (λ held made.
        MadeOne (Entered (entry.Del pair)) made × IsThawed held × (stood_there pair held ≡ true) × (p ≡ length (volume_stood start v held).log + 1))

    abbrev pub MetAbsent : Pair → ℕ → VolumeCall
    MetAbsent pair p = Call (λ held made.
        MadeNothing made × IsThawed held × (stood_there pair held ≡ false) × (p ≡ length (volume_stood start v held).log))

    -- a look failed, or the delete of a photo that stood
    abbrev pub DeleteFailed : Pair → ℕ → ℕ → VolumeCall
    DeleteFailed pair m f = Call (λ held made.
        IsThawed held × FailedOn m f held made
        × (MadeOne Tries made ⊎ (MadeOne (Pends m (entry.Del pair) true) made × (stood_there pair held ≡ true))))

    abbrev pub DeleteWanted : Pair → VolumeCall
    DeleteWanted pair = Call (λ held made.
        MadeNothing made
        ⊎ (IsThawed held × MadeOne (Freezes (first_machine settings v)) made)
        ⊎ (IsThawed held × MadeOne (Pends (first_machine settings v) (entry.Del pair) false) made × (stood_there pair held ≡ true)))

    -- FLUSHES

    abbrev pub Flushed : ℕ → ℕ → VolumeCall
    Flushed j n = Call (λ held made. MadeOne (Flushes j) made × (n ≡ (replica_stood held j).bare))

    abbrev pub MetStuck : ℕ → VolumeCall
    MetStuck j = Call (λ held made. (made ≡ None) × IsThawed held × ((replica_stood held j).stuck ≡ true))

    abbrev pub FlushFailed : ℕ → ℕ → VolumeCall
    FlushFailed j f = Call (λ held made. MadeOne (Sticks j) made × FailedAct j f held made)

    -- COMPACTIONS

    -- it began one, which stands
    abbrev pub Begun : ℕ → ℕ → VolumeCall
    Begun j g = Call (λ held made. MadeOne (Begins j) made × HasRunOf j tag (held ++ acts_in made) × (g ≡ (replica_stood held j).generation + 1))

    abbrev pub MetBusy : ℕ → ℕ → VolumeCall
    MetBusy j g = Call (λ held made. (made ≡ None) × IsThawed held × ((run : Run) × ((replica_stood held j).run ≡ Some run) × (run.goal ≡ g)))

    abbrev pub MetWorn : ℕ → VolumeCall
    MetWorn j = Call (λ held made. (made ≡ None) × IsThawed held × ((replica_stood held j).run ≡ None) × ((replica_stood held j).generation ≡ LAST_GENERATION))

    abbrev pub BeginFailed : ℕ → ℕ → VolumeCall
    BeginFailed j f = Call (λ held made.
        MadeOne Tries made × IsThawed held × ((replica_stood held j).run ≡ None) × ((replica_stood held j).generation < LAST_GENERATION) × FailedAct j f held made)

    -- none stood that a line of this lane had begun
    abbrev pub MetIdle : ℕ → VolumeCall
    MetIdle j = Call (λ held made. (made ≡ None) × IsThawed held × ((who : CoreTag) → who.lane ≡ tag.lane → HasRunOf j who held → ⊥))

    -- it examined so many cells of the compaction that the line `who` began
    abbrev pub Stepped : ℕ → CoreTag → ℕ → (ℕ → Type 0) → VolumeCall
    Stepped j who n AsMany = Call (λ held made. MadeOne (Examines j n) made × ((has : HasRunOf j who held) × AsMany (has.run).left))

    -- a call of the replica's disk failed, and the compaction ended
    abbrev pub RunFailed : ℕ → CoreTag → ℕ → VolumeCall
    RunFailed j who f = Call (λ held made. MadeOne (Ends j) made × HasRunOf j who held × FailedAct j f held made)

    -- it ended for want of memory
    abbrev pub RunWanted : ℕ → CoreTag → VolumeCall
    RunWanted j who = Call (λ held made. MadeOne (Ends j) made × HasRunOf j who held)

    -- its files were made the current ones, of these sizes; for want of memory the volume may be frozen then
    abbrev pub Switches : ℕ → CoreTag → ℕ → ℕ → ℕ → Bool → List VolumeAct → Option VolumeAct → Type 0
    Switches j who g end cells frozen held made =
        MadeOne (Swaps j end cells frozen) made × HasRunOf j who held × (g ≡ (replica_stood held j).generation + 1)

    abbrev pub Switched : ℕ → CoreTag → ℕ → ℕ → ℕ → Bool → VolumeCall
    Switched j who g end cells frozen = Call (Switches j who g end cells frozen)

    -- and the sizes are tight
    abbrev pub Swapped : ℕ → CoreTag → ℕ → ℕ → ℕ → Bool → VolumeCall
    Swapped j who g end cells frozen = Call (λ held made. Switches j who g end cells frozen held made × IsTightSince j end cells held)

    -- the switch of the head failed, and the volume is frozen by this machine
    abbrev pub SwapFailed : ℕ → CoreTag → ℕ → ℕ → VolumeCall
    SwapFailed j who m f = Call (λ held made. MadeOne (Poises m j) made × HasRunOf j who held × FailedAct j f held made)

    -- a delete of another line had ended it, since the replica's disk failed, with this count, and the volume is not frozen
    abbrev pub RunDeleted : ℕ → CoreTag → ℕ → VolumeCall
    RunDeleted j who f = Call (λ held made.
        (made ≡ None) × IsThawed held × ((ended : EndedAt j who held) × IsThawed (past ended.until) × RoseTo j f ended.until))

    -- it had ended, and this machine had frozen the volume: in its course, or behind it
    abbrev pub RunFrozen : ℕ → CoreTag → ℕ → VolumeCall
    RunFrozen j who m = Call (λ held made.
        (made ≡ None) × EndedAt j who held × ((volume_stood start v held).frozen ≡ Some m))

    -- FUSES

    abbrev pub Fused : ℕ → VolumeCall
    Fused j = Call (λ held made. MadeOne (Fuses j) made)
