-- What calls answer names machines that have a replica of the volume, whatever the disks tell.
use Rattle.std.proofs.Common.{◌≡◌, ℕ, Bool, true, false, Option, Some, None, sym, subst}
use Rattle.std.specs.Prelude.{Result, Ok, Err, IfErr, IfSome}
use Rattle.hay_needle.specs.declared.settings.Settings.{Settings}
use Rattle.hay_logical.specs.declared.fault.LogicalFault.{LogicalFault}
use Rattle.hay_logical.specs.declared.fault.LogicalFault.TheVariants.{Busy, Damaged, Failed, Full, Gone, Idle, NoMemory, ReadOnly, Worn}
use Rattle.hay_volume_lock.specs.Refusing.{RefusesBegin, RefusesDelete, RefusesEnd, RefusesFlush, RefusesPut, RefusesRoom, RefusesRun}
use Rattle.hay_volume_lock.specs.declared.compactions.Examined.{Examined}
use Rattle.hay_volume_lock.specs.declared.refusals.Finished.{Finished}
use Rattle.hay_volume_lock.specs.declared.refusals.Uncompacted.{Uncompacted}
use Rattle.hay_volume_lock.specs.declared.refusals.Uncompacted.TheVariants as lost
use Rattle.hay_volume_lock.specs.declared.refusals.Unfinished.{Unfinished}
use Rattle.hay_volume_lock.specs.declared.refusals.Unflushed.{Unflushed}
use Rattle.hay_shared_volume.specs.declared.answers.Room.{Room}
use Rattle.hay_shared_volume.specs.declared.answers.Put.{Put}
use Rattle.hay_shared_volume.specs.declared.answers.Delete.{Delete}
use Rattle.hay_shared_volume.specs.declared.answers.Flush.{Flush}
use Rattle.hay_shared_volume.specs.declared.answers.Begin.{Begin}
use Rattle.hay_shared_volume.specs.declared.answers.Step.{Step}
use Rattle.hay_shared_volume.specs.declared.answers.Finish.{Finish}
use Rattle.hay_shared_volume.specs.declared.answers.Compaction.{Compaction}
use Rattle.hay_shared_volume.specs.Answers.{IsBegin, IsCompaction, IsDelete, IsFinish, IsFlush, IsPut, IsRoom, IsStep}
use Rattle.hay_shared_volume.specs.Naming.{NamesBegin, NamesCompaction, NamesDelete, NamesFinish, NamesFlush, NamesPut, NamesRoom, NamesStep}

module _ (settings : Settings) (v : ℕ) where
  pub room_names : (size : ℕ) (answer : Result Unit LogicalFault) (r : Room) → IsRoom answer r → IfErr answer (RefusesRoom settings v size) → NamesRoom settings v size r
  room_names size (Ok done) r is from = subst (NamesRoom settings v size) (sym is) tt
  room_names size (Err (ReadOnly m)) r is from = subst (NamesRoom settings v size) (sym is) from
  room_names size (Err (Full m end need capacity)) r is from = subst (NamesRoom settings v size) (sym is) from
  room_names size (Err (Gone front)) r is from = absurd from
  room_names size (Err (Failed m f)) r is from = absurd from
  room_names size (Err (Busy m g)) r is from = absurd from
  room_names size (Err (Worn m)) r is from = absurd from
  room_names size (Err Idle) r is from = absurd from
  room_names size (Err (Damaged m at)) r is from = absurd from
  room_names size (Err NoMemory) r is from = absurd from

  pub put_names : (size : ℕ) (answer : Result ℕ LogicalFault) (r : Put) → IsPut answer r → IfErr answer (RefusesPut settings v size) → NamesPut settings v size r
  put_names size (Ok p) r is from = subst (NamesPut settings v size) (sym is) tt
  put_names size (Err (ReadOnly m)) r is from = subst (NamesPut settings v size) (sym is) from
  put_names size (Err (Full m end need capacity)) r is from = subst (NamesPut settings v size) (sym is) from
  put_names size (Err (Gone front)) r is from = absurd from
  put_names size (Err (Failed m f)) r is from = subst (NamesPut settings v size) (sym is) from
  put_names size (Err (Busy m g)) r is from = absurd from
  put_names size (Err (Worn m)) r is from = absurd from
  put_names size (Err Idle) r is from = absurd from
  put_names size (Err (Damaged m at)) r is from = absurd from
  put_names size (Err NoMemory) r is from = subst (NamesPut settings v size) (sym is) tt

  pub delete_names : (answer : Result ℕ LogicalFault) (r : Delete) → IsDelete answer r → IfErr answer (RefusesDelete settings v) → NamesDelete settings v r
  delete_names (Ok p) r is from = subst (NamesDelete settings v) (sym is) tt
  delete_names (Err (ReadOnly m)) r is from = subst (NamesDelete settings v) (sym is) from
  delete_names (Err (Full m end need capacity)) r is from = absurd from
  delete_names (Err (Gone front)) r is from = subst (NamesDelete settings v) (sym is) tt
  delete_names (Err (Failed m f)) r is from = subst (NamesDelete settings v) (sym is) from
  delete_names (Err (Busy m g)) r is from = absurd from
  delete_names (Err (Worn m)) r is from = absurd from
  delete_names (Err Idle) r is from = absurd from
  delete_names (Err (Damaged m at)) r is from = subst (NamesDelete settings v) (sym is) from
  delete_names (Err NoMemory) r is from = subst (NamesDelete settings v) (sym is) tt

  -- OF ONE REPLICA

  module _ (j : ℕ) where
    flush_refused : (fault : LogicalFault) (frozen : Option ℕ) (r : Flush) → IsFlush (Err (record { fault = fault; frozen = frozen })) r → RefusesFlush settings v j fault → NamesFlush settings v r
    flush_refused (ReadOnly m) (Some by) r is from = subst (NamesFlush settings v) (sym is) from
    flush_refused (ReadOnly m) None r is from = subst (NamesFlush settings v) (sym is) tt
    flush_refused (Full m end need capacity) frozen r is from = absurd from
    flush_refused (Gone front) frozen r is from = absurd from
    flush_refused (Failed m f) frozen r is from = subst (NamesFlush settings v) (sym is) tt
    flush_refused (Busy m g) frozen r is from = absurd from
    flush_refused (Worn m) frozen r is from = absurd from
    flush_refused Idle frozen r is from = absurd from
    flush_refused (Damaged m at) frozen r is from = absurd from
    flush_refused NoMemory frozen r is from = subst (NamesFlush settings v) (sym is) tt

    pub flush_names : (answer : Result ℕ Unflushed) (r : Flush) → IsFlush answer r → IfErr answer (λ unflushed. RefusesFlush settings v j unflushed.fault) → NamesFlush settings v r
    flush_names (Ok n) r is from = subst (NamesFlush settings v) (sym is) tt
    flush_names (Err unflushed) r is from = flush_refused unflushed.fault unflushed.frozen r is from

    pub begin_names : (answer : Result ℕ LogicalFault) (r : Begin) → IsBegin answer r → IfErr answer (RefusesBegin settings v j) → NamesBegin settings v r
    begin_names (Ok g) r is from = subst (NamesBegin settings v) (sym is) tt
    begin_names (Err (ReadOnly m)) r is from = subst (NamesBegin settings v) (sym is) from
    begin_names (Err (Full m end need capacity)) r is from = absurd from
    begin_names (Err (Gone front)) r is from = absurd from
    begin_names (Err (Failed m f)) r is from = subst (NamesBegin settings v) (sym is) tt
    begin_names (Err (Busy m g)) r is from = subst (NamesBegin settings v) (sym is) tt
    begin_names (Err (Worn m)) r is from = subst (NamesBegin settings v) (sym is) tt
    begin_names (Err Idle) r is from = absurd from
    begin_names (Err (Damaged m at)) r is from = absurd from
    begin_names (Err NoMemory) r is from = subst (NamesBegin settings v) (sym is) tt

    step_stops : (n : ℕ) (refused : Option LogicalFault) (r : Step) → IsStep (record { cells = n; refused = refused }) r → IfSome refused (RefusesRun settings v j) → NamesStep settings v r
    step_stops n None r is from = subst (NamesStep settings v) (sym is) tt
    step_stops n (Some (ReadOnly m)) r is from = subst (NamesStep settings v) (sym is) from
    step_stops n (Some (Full m end need capacity)) r is from = absurd from
    step_stops n (Some (Gone front)) r is from = absurd from
    step_stops n (Some (Failed m f)) r is from = subst (NamesStep settings v) (sym is) tt
    step_stops n (Some (Busy m g)) r is from = absurd from
    step_stops n (Some (Worn m)) r is from = absurd from
    step_stops n (Some Idle) r is from = subst (NamesStep settings v) (sym is) tt
    step_stops n (Some (Damaged m at)) r is from = subst (NamesStep settings v) (sym is) tt
    step_stops n (Some NoMemory) r is from = subst (NamesStep settings v) (sym is) tt

    pub step_names : (examined : Examined) (r : Step) → IsStep examined r → IfSome examined.refused (RefusesRun settings v j) → NamesStep settings v r
    step_names examined r is from = step_stops examined.cells examined.refused r is from

    finish_done : (g : ℕ) (frozen : Bool) (r : Finish) → IsFinish (Ok (record { generation = g; frozen = frozen })) r → NamesFinish settings v r
    finish_done g false r is = subst (NamesFinish settings v) (sym is) tt
    finish_done g true r is = subst (NamesFinish settings v) (sym is) tt

    finish_refused : (fault : LogicalFault) (frozen : Option ℕ) (r : Finish) → IsFinish (Err (record { fault = fault; frozen = frozen })) r → RefusesRun settings v j fault → NamesFinish settings v r
    finish_refused (ReadOnly m) frozen r is from = subst (NamesFinish settings v) (sym is) from
    finish_refused (Full m end need capacity) frozen r is from = absurd from
    finish_refused (Gone front) frozen r is from = absurd from
    finish_refused (Failed m f) None r is from = subst (NamesFinish settings v) (sym is) tt
    finish_refused (Failed m f) (Some machine) r is from = subst (NamesFinish settings v) (sym is) tt
    finish_refused (Busy m g) frozen r is from = absurd from
    finish_refused (Worn m) frozen r is from = absurd from
    finish_refused Idle frozen r is from = subst (NamesFinish settings v) (sym is) tt
    finish_refused (Damaged m at) frozen r is from = subst (NamesFinish settings v) (sym is) tt
    finish_refused NoMemory frozen r is from = subst (NamesFinish settings v) (sym is) tt

    pub finish_names : (answer : Result Finished Unfinished) (r : Finish) → IsFinish answer r → IfErr answer (λ unfinished. RefusesRun settings v j unfinished.fault) → NamesFinish settings v r
    finish_names (Ok finished) r is from = finish_done finished.generation finished.frozen r is
    finish_names (Err unfinished) r is from = finish_refused unfinished.fault unfinished.frozen r is from

    end_done : (g : ℕ) (frozen : Bool) (r : Compaction) → IsCompaction (Ok (record { generation = g; frozen = frozen })) r → NamesCompaction settings v r
    end_done g false r is = subst (NamesCompaction settings v) (sym is) tt
    end_done g true r is = subst (NamesCompaction settings v) (sym is) tt

    end_refused : (fault : LogicalFault) (frozen : Option ℕ) (r : Compaction) → IsCompaction (Err (lost.Unfinished (record { fault = fault; frozen = frozen }))) r
        → RefusesRun settings v j fault → NamesCompaction settings v r
    end_refused (ReadOnly m) frozen r is from = subst (NamesCompaction settings v) (sym is) from
    end_refused (Full m end need capacity) frozen r is from = absurd from
    end_refused (Gone front) frozen r is from = absurd from
    end_refused (Failed m f) None r is from = subst (NamesCompaction settings v) (sym is) tt
    end_refused (Failed m f) (Some machine) r is from = subst (NamesCompaction settings v) (sym is) tt
    end_refused (Busy m g) frozen r is from = absurd from
    end_refused (Worn m) frozen r is from = absurd from
    end_refused Idle frozen r is from = subst (NamesCompaction settings v) (sym is) tt
    end_refused (Damaged m at) frozen r is from = subst (NamesCompaction settings v) (sym is) tt
    end_refused NoMemory frozen r is from = subst (NamesCompaction settings v) (sym is) tt

    pub compaction_names : (answer : Result Finished Uncompacted) (r : Compaction) → IsCompaction answer r → IfErr answer (RefusesEnd settings v j) → NamesCompaction settings v r
    compaction_names (Ok finished) r is from = end_done finished.generation finished.frozen r is
    compaction_names (Err (lost.Unfinished unfinished)) r is from = end_refused unfinished.fault unfinished.frozen r is from
    compaction_names (Err (lost.Frozen m)) r is from = subst (NamesCompaction settings v) (sym is) from
    compaction_names (Err (lost.Deleted f)) r is from = subst (NamesCompaction settings v) (sym is) tt
    compaction_names (Err lost.Idle) r is from = subst (NamesCompaction settings v) (sym is) tt
