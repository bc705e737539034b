-- What refuses a call, by the cause that the volume gives.
use Rattle.std.proofs.Common.{◌≡◌, ℕ, ◌+◌, ◌<◌, List, Option, Some, None, sym, subst}
use Rattle.std.specs.Prelude.{Result, Ok, Err, IfErr, IfSome}
use Rattle.hay_core.specs.declared.entry.CoreTag.{CoreTag}
use Rattle.hay_disk.specs.Disk.{Files}
use Rattle.hay_legal.specs.Suiting.{HasNoRoom}
use Rattle.hay_logical.specs.Answers.{IsBeginFault, IsDeleteFault, IsFlushFault, IsPutFault, IsRoomFault, IsRunFault, IsSightFault}
use Rattle.hay_logical.specs.declared.fault.LogicalFault.{LogicalFault}
use Rattle.hay_logical.specs.declared.fault.LogicalFault.TheVariants.{Busy, Damaged, Failed, Full, Gone, Idle, NoMemory, ReadOnly, Worn}
use Rattle.hay_logical.specs.Seen.{FullSeen, PutRefusedSeen, RoomRefusedSeen, VolumeSeen}
use Rattle.hay_logical.specs.Volumes.{IsSame, Volume}
use Rattle.hay_meeting.specs.declared.act.VolumeAct.{VolumeAct}
use Rattle.hay_needle.specs.Sizes.{needle_total}
use Rattle.hay_needle.specs.declared.settings.Settings.{Settings}
use Rattle.hay_physical.specs.OpenCopies.{Copy}
use Rattle.hay_turn.specs.Seats.{Holds, SeatState}
use Rattle.hay_volume_lock.specs.Keeping.{IsKept}
use Rattle.hay_volume_lock.specs.Refusing.{OfOpened, RefusesBegin, RefusesDelete, RefusesFlush, RefusesPut, RefusesRoom, RefusesRun, RefusesSight}
use Rattle.hay_volume_lock.specs.Seats.{IsSeated}
use Rattle.hay_volume_lock.specs.Tries.{flush_answer}
use Rattle.hay_volume_lock.specs.declared.guarded.Guarded.{Guarded}
use Rattle.hay_volume_lock.specs.declared.guarded.Opened.{Opened}
use Rattle.hay_volume_lock.proofs.Holding.{View, is_held}

-- what is so of the volume that was taken is so of the one that was opened
pub of_opened : {D P : Type 0} (Tells : Type 0) (files : D → Files) (PieceTells : Type 0) (faults fuses : D → ℕ)
    {t t' : SeatState (Opened D P) VolumeAct} {stood : ℕ} {v : View D P} {kept : Guarded D P} (seated : IsSeated t stood v)
    (holds : Holds (λ act. act.seat) (λ opened acts x. IsKept Tells files PieceTells faults fuses opened acts x) t t' kept)
    (IsSo : Settings → ℕ → Type 0) → IsSo (kept.logical).settings (kept.logical).number → OfOpened t.start IsSo
of_opened Tells files PieceTells faults fuses {kept = kept} seated holds IsSo is opened start =
    let same : seated.opened ≡ opened = cc (seated.is, start) in
    let held = is_held Tells files PieceTells faults fuses seated holds in
    subst (λ (o : Opened _ _). IsSo (o.volume).settings (o.volume).number) same
    (subst (λ (n : ℕ). IsSo ((seated.opened).volume).settings n) held.number (subst (λ (s : Settings). IsSo s (kept.logical).number) held.same_settings is))

-- WANT OF ROOM, by what was seen of the volume

module _ (settings : Settings) (v size : ℕ) where
  no_room : (seen : VolumeSeen) (m end need capacity : ℕ) → FullSeen settings v size seen m end need capacity → HasNoRoom settings size end need
  no_room seen m end need capacity full = (full.need_is, subst (λ (e : ℕ). settings.capacity < e + needle_total size + 8) (sym full.end_is) full.lacks)

  pub refuses_room : (seen : VolumeSeen) (fault : LogicalFault) → IsRoomFault settings v fault → RoomRefusedSeen settings v size seen fault → RefusesRoom settings v size fault
  refuses_room seen (ReadOnly m) cause refused = cause
  refuses_room seen (Full m end need capacity) cause refused = (cause, no_room seen m end need capacity refused)
  refuses_room seen (Failed m f) cause refused = absurd cause
  refuses_room seen (Gone front) cause refused = absurd cause
  refuses_room seen (Busy m g) cause refused = absurd cause
  refuses_room seen (Worn m) cause refused = absurd cause
  refuses_room seen Idle cause refused = absurd cause
  refuses_room seen (Damaged m at) cause refused = absurd cause
  refuses_room seen NoMemory cause refused = absurd cause

  pub refuses_put : {D : Type 0} (faults : D → ℕ) (old new : List (Copy D)) (tag : CoreTag) (before after : VolumeSeen) (fault : LogicalFault)
      → IsPutFault faults settings v old new fault → PutRefusedSeen settings v tag size before after fault → RefusesPut settings v size fault
  refuses_put faults old new tag before after (Failed m f) cause refused = (cause.replica, cause.within, cause.machine)
  refuses_put faults old new tag before after (ReadOnly m) cause refused = cause
  refuses_put faults old new tag before after (Full m end need capacity) cause refused = (cause, no_room before m end need capacity refused.1)
  refuses_put faults old new tag before after NoMemory cause refused = tt
  refuses_put faults old new tag before after (Gone front) cause refused = absurd cause
  refuses_put faults old new tag before after (Busy m g) cause refused = absurd cause
  refuses_put faults old new tag before after (Worn m) cause refused = absurd cause
  refuses_put faults old new tag before after Idle cause refused = absurd cause
  refuses_put faults old new tag before after (Damaged m at) cause refused = absurd cause

-- BY THE CAUSE of a refusal

module _ (settings : Settings) (v : ℕ) {D : Type 0} (faults : D → ℕ) (old new : List (Copy D)) where
  pub refuses_delete : (fault : LogicalFault) → IsDeleteFault faults settings v old new fault → RefusesDelete settings v fault
  refuses_delete (Failed m f) cause = (cause.replica, cause.within, cause.machine)
  refuses_delete (ReadOnly m) cause = cause
  refuses_delete (Gone front) cause = tt
  refuses_delete (Damaged m at) cause = cause
  refuses_delete NoMemory cause = tt
  refuses_delete (Full m end need capacity) cause = absurd cause
  refuses_delete (Busy m g) cause = absurd cause
  refuses_delete (Worn m) cause = absurd cause
  refuses_delete Idle cause = absurd cause

  pub refuses_sight : (fault : LogicalFault) → IsSightFault faults settings v old new fault → RefusesSight settings v fault
  refuses_sight (Failed m f) cause = (cause.replica, cause.within, cause.machine)
  refuses_sight (Damaged m at) cause = cause
  refuses_sight NoMemory cause = tt
  refuses_sight (ReadOnly m) cause = absurd cause
  refuses_sight (Full m end need capacity) cause = absurd cause
  refuses_sight (Gone front) cause = absurd cause
  refuses_sight (Busy m g) cause = absurd cause
  refuses_sight (Worn m) cause = absurd cause
  refuses_sight Idle cause = absurd cause

  -- a look of it
  pub refuses_look : (fault : LogicalFault) → IsSightFault faults settings v old new fault → RefusesDelete settings v fault
  refuses_look (Failed m f) cause = (cause.replica, cause.within, cause.machine)
  refuses_look (Damaged m at) cause = cause
  refuses_look NoMemory cause = tt
  refuses_look (ReadOnly m) cause = absurd cause
  refuses_look (Full m end need capacity) cause = absurd cause
  refuses_look (Gone front) cause = absurd cause
  refuses_look (Busy m g) cause = absurd cause
  refuses_look (Worn m) cause = absurd cause
  refuses_look Idle cause = absurd cause

  -- OF A REPLICA

  module _ (j : ℕ) where
    pub refuses_flush : (fault : LogicalFault) → IsFlushFault faults settings v j old new fault → RefusesFlush settings v j fault
    refuses_flush (Failed m f) cause = cause.0
    refuses_flush (ReadOnly m) cause = cause
    refuses_flush NoMemory cause = tt
    refuses_flush (Full m end need capacity) cause = absurd cause
    refuses_flush (Gone front) cause = absurd cause
    refuses_flush (Busy m g) cause = absurd cause
    refuses_flush (Worn m) cause = absurd cause
    refuses_flush Idle cause = absurd cause
    refuses_flush (Damaged m at) cause = absurd cause

    pub refuses_begin : (fault : LogicalFault) → IsBeginFault faults settings v j old new fault → RefusesBegin settings v j fault
    refuses_begin (Failed m f) cause = cause.0
    refuses_begin (ReadOnly m) cause = cause
    refuses_begin (Busy m g) cause = cause
    refuses_begin (Worn m) cause = cause
    refuses_begin NoMemory cause = tt
    refuses_begin (Full m end need capacity) cause = absurd cause
    refuses_begin (Gone front) cause = absurd cause
    refuses_begin Idle cause = absurd cause
    refuses_begin (Damaged m at) cause = absurd cause

    pub refuses_run : (fault : LogicalFault) → IsRunFault faults settings v j old new fault → RefusesRun settings v j fault
    refuses_run (Failed m f) cause = cause.0
    refuses_run (ReadOnly m) cause = cause
    refuses_run Idle cause = tt
    refuses_run (Damaged m at) cause = cause
    refuses_run NoMemory cause = tt
    refuses_run (Full m end need capacity) cause = absurd cause
    refuses_run (Gone front) cause = absurd cause
    refuses_run (Busy m g) cause = absurd cause
    refuses_run (Worn m) cause = absurd cause

-- OF WHAT WAS ANSWERED

pub err_refused : {A : Type 0} {P Q : LogicalFault → Type 0} → ((fault : LogicalFault) → P fault → Q fault) → (answer : Result A LogicalFault) → IfErr answer P → IfErr answer Q
err_refused so (Ok done) is = tt
err_refused so (Err fault) is = so fault is

pub err_seen : {A : Type 0} {P Q R : LogicalFault → Type 0} → ((fault : LogicalFault) → P fault → Q fault → R fault) → (answer : Result A LogicalFault)
    → IfErr answer P → IfErr answer Q → IfErr answer R
err_seen so (Ok done) is seen = tt
err_seen so (Err fault) is seen = so fault is seen

pub some_refused : {P Q : LogicalFault → Type 0} → ((fault : LogicalFault) → P fault → Q fault) → (refused : Option LogicalFault) → IfSome refused P → IfSome refused Q
some_refused so None is = tt
some_refused so (Some fault) is = so fault is

pub flush_refused : (P : LogicalFault → Type 0) (frozen : Option ℕ) (answer : Result ℕ LogicalFault) → IfErr answer P → IfErr (flush_answer frozen answer) (λ unflushed. P unflushed.fault)
flush_refused P frozen (Ok cells) is = tt
flush_refused P frozen (Err fault) is = is

-- a volume that is the same one
pub same_so : {D P : Type 0} (old new : Volume D P) (IsSo : Settings → ℕ → Type 0) → IsSame old new → IsSo new.settings new.number → IsSo old.settings old.number
same_so old new IsSo same is = subst (λ (n : ℕ). IsSo old.settings n) same.number (subst (λ (s : Settings). IsSo s new.number) same.settings is)
