-- What the calls at a volume's lock tell, in a lane's words.
use Rattle.std.proofs.Common.{◌≡◌, ◌⊎◌, inl, inr, ℕ, ◌<◌, Bool, true, false, List, [], Option, Some, None, sym, subst, ◌∙◌}
use Rattle.std.specs.Prelude.{Result, Ok, Err}
use Rattle.hay_core.specs.declared.entry.CoreTag.{CoreTag}
use Rattle.hay_core.specs.declared.entry.Entry.{Entry}
use Rattle.hay_legal.specs.Known.{machine_of}
use Rattle.hay_holdings.specs.Volumes as calls
use Rattle.hay_holdings.specs.Volumes.{ShownAt, VolumeCall}
use Rattle.hay_logical.specs.declared.fault.LogicalFault.{LogicalFault}
use Rattle.hay_logical.specs.declared.fault.LogicalFault.TheVariants.{Busy, Damaged, Failed, Full, Gone, Idle, NoMemory, ReadOnly, Worn}
use Rattle.hay_map.specs.Places.{place_in}
use Rattle.hay_meeting.specs.declared.act.VolumeAct.{VolumeAct}
use Rattle.hay_meeting.specs.Facts.{table_shown}
use Rattle.hay_meeting.specs.Locks.{LockSight}
use Rattle.hay_needle.specs.declared.needle.Cookie.{Cookie}
use Rattle.hay_needle.specs.declared.needle.Pair.{Pair}
use Rattle.hay_needle.specs.Tables.{outcome_at}
use Rattle.hay_reader.specs.Tried.{HasItsPhoto}
use Rattle.hay_shared_volume.specs.declared.answers.SightFault.{SightFault}
use Rattle.hay_shared_volume.specs.declared.answers.Room.{Room}
use Rattle.hay_shared_volume.specs.declared.answers.Put.{Put}
use Rattle.hay_shared_volume.specs.declared.answers.Delete.{Delete}
use Rattle.hay_shared_volume.specs.declared.answers.Flush.{Flush}
use Rattle.hay_shared_volume.specs.declared.answers.Begin.{Begin}
use Rattle.hay_shared_volume.specs.declared.answers.Step.{Step}
use Rattle.hay_shared_volume.specs.declared.answers.Finish.{Finish}
use Rattle.hay_shared_volume.specs.declared.answers.Compaction.{Compaction}
use Rattle.hay_shared_volume.specs.Looks.{LookTells, SeeTells}
use Rattle.hay_shared_volume.specs.Tellings.{BeginTells, CompactionTells, DeleteTells, EndTells, FinishTells, FlushTells, FrozenTells, Own, PutTells, RoomTells, StepTells, StoreVolume}
use Rattle.hay_logical.specs.declared.logical.Looked.{Looked}
use Rattle.hay_volume_lock.specs.Answers.{BeginAnswer, FlushAnswer, FrozenAnswer, RoomAnswer}
use Rattle.hay_volume_lock.specs.Changes.{PlaceSeen, PutAnswer, SeeRefused}
use Rattle.hay_volume_lock.specs.Compactions.{OfLane, StepAnswer, Unswapped}
use Rattle.hay_volume_lock.specs.Deletes.{DeleteAnswer}
use Rattle.hay_volume_lock.specs.Finishes.{CompactAnswer, FinishAnswer}
use Rattle.hay_volume_lock.specs.Rows.{PlaceTells}
use Rattle.hay_volume_lock.specs.declared.compactions.Examined.{Examined}
use Rattle.hay_volume_lock.specs.declared.refusals.Finished.{Finished}
use Rattle.hay_volume_lock.specs.declared.refusals.Uncompacted.{Uncompacted}
use Rattle.hay_volume_lock.specs.declared.refusals.Uncompacted.TheVariants as lost
use Rattle.hay_volume_lock.specs.declared.refusals.Unfinished.{Unfinished}
use Rattle.hay_volume_lock.specs.declared.refusals.Unflushed.{Unflushed}
use Rattle.hay_shared_volume.specs.Answers.{IsBegin, IsCompaction, IsDelete, IsFinish, IsFlush, IsPut, IsRoom, IsSightFault, IsStep, looked_as}
use Rattle.hay_shared_volume.specs.Seats.{at_lock}
use Rattle.hay_shared_volume.proofs.Places.{may_mean}

module _ (volume : StoreVolume) (a b : LockSight VolumeAct Entry) where
  -- READS

  -- what is shown of each place that was looked at
  pub look_tells : {P : Type 0} (Tells : Type 0) (pair : Pair) (looked : Looked P)
      → ShownAt volume.settings volume.start volume.number pair looked.front (λ j. outcome_at (table_shown volume.start volume.number j b.shown) pair) a b
      → ((j : ℕ) → j < (volume.settings).replicas → PlaceTells Tells pair (place_in looked.row j) (outcome_at (table_shown volume.start volume.number j b.shown) pair))
      → LookTells Tells volume pair (looked_as looked) a b
  look_tells Tells pair looked shown places =
      (shown.looked, record { front = shown.front; means = λ j less. may_mean Tells pair (place_in looked.row j) (outcome_at (table_shown volume.start volume.number j b.shown) pair) (places j less) })

  module _ (tag : CoreTag) where
    pub see_tells : {P : Type 0} (Tells : Type 0) (pair : Pair) (j : ℕ) (bytes : List ℕ) (looked : Looked P) → PlaceSeen (at_lock volume) tag Tells pair j looked a b
        → (bytes ≡ []) ⊎ HasItsPhoto bytes (place_in looked.row j) → SeeTells Tells volume pair tag j bytes (Ok (looked_as looked)) a b
    see_tells Tells pair j bytes looked seen by = (
      seen.call,
      record { front = seen.front; means = λ i less. may_mean Tells pair (place_in looked.row i) (outcome_at (table_shown volume.start volume.number i b.shown) pair) (seen.places i less) },
      by,
    )

    pub sight_tells : (P : Type 0) (Tells : Type 0) (pair : Pair) (j : ℕ) (bytes : List ℕ) (fault : LogicalFault) (r : SightFault) → IsSightFault fault r
        → SeeRefused (at_lock volume) tag j fault a b → SeeTells {P = P} Tells volume pair tag j bytes (Err r) a b
    sight_tells P Tells pair j bytes (Failed m f) r is x = subst (λ (z : SightFault). SeeTells {P = P} Tells volume pair tag j bytes (Err z) a b) (sym is) x.1
    sight_tells P Tells pair j bytes NoMemory r is x = subst (λ (z : SightFault). SeeTells {P = P} Tells volume pair tag j bytes (Err z) a b) (sym is) x
    sight_tells P Tells pair j bytes (Damaged m at) r is x = absurd x
    sight_tells P Tells pair j bytes (ReadOnly m) r is x = absurd x
    sight_tells P Tells pair j bytes (Full m end need capacity) r is x = absurd x
    sight_tells P Tells pair j bytes (Gone front) r is x = absurd x
    sight_tells P Tells pair j bytes (Busy m g) r is x = absurd x
    sight_tells P Tells pair j bytes (Worn m) r is x = absurd x
    sight_tells P Tells pair j bytes Idle r is x = absurd x

    -- CHANGES

    pub frozen_tells : (answer : Option ℕ) → FrozenAnswer (at_lock volume) tag answer a b → FrozenTells volume tag answer a b
    frozen_tells None x = x
    frozen_tells (Some m) x = x

    pub room_tells : (size : ℕ) (answer : Result Unit LogicalFault) (r : Room) → IsRoom answer r → RoomAnswer (at_lock volume) tag size answer a b → RoomTells volume tag size r a b
    room_tells size (Ok done) r is x = subst (λ z. RoomTells volume tag size z a b) (sym is) x
    room_tells size (Err (ReadOnly m)) r is x = subst (λ z. RoomTells volume tag size z a b) (sym is) x
    room_tells size (Err (Full m end need capacity)) r is x = subst (λ z. RoomTells volume tag size z a b) (sym is) x.1
    room_tells size (Err (Failed m f)) r is x = absurd x
    room_tells size (Err (Gone front)) r is x = absurd x
    room_tells size (Err (Busy m g)) r is x = absurd x
    room_tells size (Err (Worn m)) r is x = absurd x
    room_tells size (Err Idle) r is x = absurd x
    room_tells size (Err (Damaged m at)) r is x = absurd x
    room_tells size (Err NoMemory) r is x = absurd x

    pub put_tells : (pair : Pair) (cookie : Cookie) (bytes : List ℕ) (answer : Result ℕ LogicalFault) (r : Put) → IsPut answer r
        → PutAnswer (at_lock volume) tag pair cookie bytes answer a b → PutTells volume tag pair cookie bytes r a b
    put_tells pair cookie bytes (Ok p) r is x = subst (λ z. PutTells volume tag pair cookie bytes z a b) (sym is) x
    put_tells pair cookie bytes (Err (ReadOnly m)) r is x = subst (λ z. PutTells volume tag pair cookie bytes z a b) (sym is) x
    put_tells pair cookie bytes (Err (Full m end need capacity)) r is x = subst (λ z. PutTells volume tag pair cookie bytes z a b) (sym is) x.1
    put_tells pair cookie bytes (Err (Failed m f)) r is x = subst (λ z. PutTells volume tag pair cookie bytes z a b) (sym is) x
    put_tells pair cookie bytes (Err NoMemory) r is x = subst (λ z. PutTells volume tag pair cookie bytes z a b) (sym is) x
    put_tells pair cookie bytes (Err (Gone front)) r is x = absurd x
    put_tells pair cookie bytes (Err (Busy m g)) r is x = absurd x
    put_tells pair cookie bytes (Err (Worn m)) r is x = absurd x
    put_tells pair cookie bytes (Err Idle) r is x = absurd x
    put_tells pair cookie bytes (Err (Damaged m at)) r is x = absurd x

    pub delete_tells : (pair : Pair) (answer : Result ℕ LogicalFault) (r : Delete) → IsDelete answer r → DeleteAnswer (at_lock volume) tag pair answer a b → DeleteTells volume tag pair r a b
    delete_tells pair (Ok p) r is x = subst (λ z. DeleteTells volume tag pair z a b) (sym is) x
    delete_tells pair (Err (ReadOnly m)) r is x = subst (λ z. DeleteTells volume tag pair z a b) (sym is) x
    delete_tells pair (Err (Gone front)) r is x = subst (λ z. DeleteTells volume tag pair z a b) (sym is) x
    delete_tells pair (Err (Failed m f)) r is x = subst (λ z. DeleteTells volume tag pair z a b) (sym is) x
    delete_tells pair (Err NoMemory) r is x = subst (λ z. DeleteTells volume tag pair z a b) (sym is) x
    delete_tells pair (Err (Damaged m at)) r is x = absurd x
    delete_tells pair (Err (Full m end need capacity)) r is x = absurd x
    delete_tells pair (Err (Busy m g)) r is x = absurd x
    delete_tells pair (Err (Worn m)) r is x = absurd x
    delete_tells pair (Err Idle) r is x = absurd x

    -- OF ONE REPLICA

    module _ (j : ℕ) where
      flush_refused : (fault : LogicalFault) (frozen : Option ℕ) (r : Flush) → IsFlush (Err (record { fault = fault; frozen = frozen })) r
          → FlushAnswer (at_lock volume) tag j (Err (record { fault = fault; frozen = frozen })) a b → FlushTells volume tag j r a b
      flush_refused (ReadOnly m) (Some by) r is x = subst (λ z. FlushTells volume tag j z a b) (sym is) x
      flush_refused (ReadOnly m) None r is x = subst (λ z. FlushTells volume tag j z a b) (sym is) x.1
      flush_refused (Failed m f) frozen r is x = subst (λ z. FlushTells volume tag j z a b) (sym is) x.1
      flush_refused NoMemory frozen r is x = subst (λ z. FlushTells volume tag j z a b) (sym is) x
      flush_refused (Full m end need capacity) frozen r is x = absurd x
      flush_refused (Gone front) frozen r is x = absurd x
      flush_refused (Busy m g) frozen r is x = absurd x
      flush_refused (Worn m) frozen r is x = absurd x
      flush_refused Idle frozen r is x = absurd x
      flush_refused (Damaged m at) frozen r is x = absurd x

      pub flush_tells : (answer : Result ℕ Unflushed) (r : Flush) → IsFlush answer r → FlushAnswer (at_lock volume) tag j answer a b → FlushTells volume tag j r a b
      flush_tells (Ok n) r is x = subst (λ z. FlushTells volume tag j z a b) (sym is) x
      flush_tells (Err unflushed) r is x = flush_refused unflushed.fault unflushed.frozen r is x

      pub begin_tells : (answer : Result ℕ LogicalFault) (r : Begin) → IsBegin answer r → BeginAnswer (at_lock volume) tag j answer a b → BeginTells volume tag j r a b
      begin_tells (Ok g) r is x = subst (λ z. BeginTells volume tag j z a b) (sym is) x
      begin_tells (Err (ReadOnly m)) r is x = subst (λ z. BeginTells volume tag j z a b) (sym is) x
      begin_tells (Err (Busy m g)) r is x = subst (λ z. BeginTells volume tag j z a b) (sym is) x.1
      begin_tells (Err (Worn m)) r is x = subst (λ z. BeginTells volume tag j z a b) (sym is) x.1
      begin_tells (Err (Failed m f)) r is x = subst (λ z. BeginTells volume tag j z a b) (sym is) x.1
      begin_tells (Err NoMemory) r is x = subst (λ z. BeginTells volume tag j z a b) (sym is) x
      begin_tells (Err (Full m end need capacity)) r is x = absurd x
      begin_tells (Err (Gone front)) r is x = absurd x
      begin_tells (Err Idle) r is x = absurd x
      begin_tells (Err (Damaged m at)) r is x = absurd x

      own_of : (Is : CoreTag → VolumeCall) → OfLane (at_lock volume) tag Is a b → Own tag Is a b
      own_of Is x = record { who = x.0; own = x.1; is = x.2 }

      step_stops : (cells n : ℕ) (refused : Option LogicalFault) (r : Step) → IsStep (record { cells = n; refused = refused }) r
          → StepAnswer (at_lock volume) tag j cells (record { cells = n; refused = refused }) a b → StepTells volume tag j cells r a b
      step_stops cells n None r is x = subst (λ z. StepTells volume tag j cells z a b) (sym is) (own_of _ x)
      step_stops cells n (Some (ReadOnly m)) r is x = subst (λ z. StepTells volume tag j cells z a b) (sym is) x
      step_stops cells n (Some Idle) r is x = subst (λ z. StepTells volume tag j cells z a b) (sym is) x
      step_stops cells n (Some (Failed m f)) r is x = subst (λ z. StepTells volume tag j cells z a b) (sym is) (own_of _ x.1)
      step_stops cells n (Some NoMemory) r is x = subst (λ z. StepTells volume tag j cells z a b) (sym is) (own_of _ x)
      step_stops cells n (Some (Damaged m at)) r is x = absurd x
      step_stops cells n (Some (Full m end need capacity)) r is x = absurd x
      step_stops cells n (Some (Gone front)) r is x = absurd x
      step_stops cells n (Some (Busy m g)) r is x = absurd x
      step_stops cells n (Some (Worn m)) r is x = absurd x

      pub step_tells : (cells : ℕ) (examined : Examined) (r : Step) → IsStep examined r → StepAnswer (at_lock volume) tag j cells examined a b → StepTells volume tag j cells r a b
      step_tells cells examined r is x = step_stops cells examined.cells examined.refused r is x

      -- the switch of the head failed, on the replica's machine
      poised : (m f machine : ℕ) (who : CoreTag) → Unswapped (at_lock volume) tag j (Failed m f) (Some machine) who a b
          → calls.SwapFailed volume.settings volume.start volume.number tag j who (machine_of volume.settings volume.number j) f a b
      poised m f machine who x =
          subst (λ n. calls.SwapFailed volume.settings volume.start volume.number tag j who n f a b) ((x.0).1 ∙ (x.0).0) x.1

      finish_done : (g : ℕ) (frozen : Bool) (r : Finish) → IsFinish (Ok (record { generation = g; frozen = frozen })) r
          → FinishAnswer (at_lock volume) tag j (Ok (record { generation = g; frozen = frozen })) a b → FinishTells volume tag j r a b
      finish_done g false r is x = subst (λ z. FinishTells volume tag j z a b) (sym is) (x.0, x.1, own_of _ x.2)
      finish_done g true r is x = subst (λ z. FinishTells volume tag j z a b) (sym is) (inr (inr (g, x.0, x.1, own_of _ x.2)))

      finish_refused : (fault : LogicalFault) (frozen : Option ℕ) (r : Finish) → IsFinish (Err (record { fault = fault; frozen = frozen })) r
          → FinishAnswer (at_lock volume) tag j (Err (record { fault = fault; frozen = frozen })) a b → FinishTells volume tag j r a b
      finish_refused (ReadOnly m) frozen r is x = subst (λ z. FinishTells volume tag j z a b) (sym is) x
      finish_refused Idle frozen r is x = subst (λ z. FinishTells volume tag j z a b) (sym is) x
      finish_refused (Failed m f) None r is x =
          subst (λ z. FinishTells volume tag j z a b) (sym is) (record { who = x.0; own = x.1; is = (x.2).1 })
      finish_refused (Failed m f) (Some machine) r is x =
          subst (λ z. FinishTells volume tag j z a b) (sym is) (record { who = x.0; own = x.1; is = poised m f machine x.0 x.2 })
      finish_refused NoMemory frozen r is x = subst (λ z. FinishTells volume tag j z a b) (sym is) (inr (inl (own_of _ x)))
      finish_refused (Damaged m at) frozen r is x = absurd x
      finish_refused (Full m end need capacity) frozen r is x = absurd x
      finish_refused (Gone front) frozen r is x = absurd x
      finish_refused (Busy m g) frozen r is x = absurd x
      finish_refused (Worn m) frozen r is x = absurd x

      pub finish_tells : (answer : Result Finished Unfinished) (r : Finish) → IsFinish answer r → FinishAnswer (at_lock volume) tag j answer a b → FinishTells volume tag j r a b
      finish_tells (Ok finished) r is x = finish_done finished.generation finished.frozen r is x
      finish_tells (Err unfinished) r is x = finish_refused unfinished.fault unfinished.frozen r is x

      -- of the line's own
      end_done : (g : ℕ) (frozen : Bool) (r : Compaction) → IsCompaction (Ok (record { generation = g; frozen = frozen })) r
          → CompactAnswer (at_lock volume) tag j (Ok (record { generation = g; frozen = frozen })) a b → CompactionTells volume tag j r a b
      end_done g false r is x stands = subst (λ z. EndTells volume tag j z a b) (sym is) (x stands)
      end_done g true r is x stands = subst (λ z. EndTells volume tag j z a b) (sym is) (inr (g, (x stands).0, (x stands).1, (x stands).2))

      end_refused : (fault : LogicalFault) (frozen : Option ℕ) (r : Compaction) → IsCompaction (Err (lost.Unfinished (record { fault = fault; frozen = frozen }))) r
          → CompactAnswer (at_lock volume) tag j (Err (lost.Unfinished (record { fault = fault; frozen = frozen }))) a b → CompactionTells volume tag j r a b
      end_refused (Failed m f) None r is x stands = subst (λ z. EndTells volume tag j z a b) (sym is) (x stands).1
      end_refused (Failed m f) (Some machine) r is x stands = subst (λ z. EndTells volume tag j z a b) (sym is) (poised m f machine tag (x stands))
      end_refused NoMemory frozen r is x stands = subst (λ z. EndTells volume tag j z a b) (sym is) (inl (x stands))
      end_refused (ReadOnly m) frozen r is x stands = absurd (x stands)
      end_refused Idle frozen r is x stands = absurd (x stands)
      end_refused (Damaged m at) frozen r is x stands = absurd (x stands)
      end_refused (Full m end need capacity) frozen r is x stands = absurd (x stands)
      end_refused (Gone front) frozen r is x stands = absurd (x stands)
      end_refused (Busy m g) frozen r is x stands = absurd (x stands)
      end_refused (Worn m) frozen r is x stands = absurd (x stands)

      pub compaction_tells : (answer : Result Finished Uncompacted) (r : Compaction) → IsCompaction answer r → CompactAnswer (at_lock volume) tag j answer a b → CompactionTells volume tag j r a b
      compaction_tells (Ok finished) r is x = end_done finished.generation finished.frozen r is x
      compaction_tells (Err (lost.Unfinished unfinished)) r is x = end_refused unfinished.fault unfinished.frozen r is x
      compaction_tells (Err (lost.Frozen m)) r is x = λ stands. subst (λ z. EndTells volume tag j z a b) (sym is) (x stands)
      compaction_tells (Err (lost.Deleted f)) r is x = λ stands. subst (λ z. EndTells volume tag j z a b) (sym is) (x stands)
      compaction_tells (Err lost.Idle) r is x = λ stands. absurd (x stands)
