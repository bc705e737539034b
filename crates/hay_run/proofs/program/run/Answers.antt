use Rattle.std.specs.Prelude.{Bool, Option, Err}
use Rattle.std.proofs.Common.{◌≡◌, ◌<◌, List, ℕ, refl, arith, map, string_bytes, sym, ap, subst, ◌∙◌, inl, inr}
use Rattle.hay_needle.specs.declared.settings.Settings.{Settings}
use Rattle.hay_disk.specs.Shelf.{HeldDisk, HeldArm}
use Rattle.hay_mount.specs.Mounts.{SameFrom}
use Rattle.hay_legal.specs.Known.{disk_count}
use Rattle.hay_legal.specs.Statuses.Ending.{NoMemory, ReadAll}
use Rattle.hay_cluster.specs.Draws.{EachDrewLittle, FlushedDrewLittle, no_look}
use Rattle.hay_cluster.specs.Outside.{IsUndamaged, KeepsContents, outside_of, read_of}
use Rattle.hay_drill.specs.Script.{settings as day_settings}
use Rattle.hay_run.specs.Runs.{IsTaken, RanTo, IsNotOpened}
use Rattle.hay_run.specs.Stops.{ending_of}
use Rattle.hay_run.specs.Audits.{AuditsTo}
use Rattle.hay_run.specs.Checking.{ChecksTo}
use Rattle.hay_run.specs.Loads.{IsLoad}
use Rattle.hay_run.specs.Words.{SaysAudit, SaysCheck, SaysDrill, SaysLoad, SaysRun}
use Rattle.hay_legal.specs.Statuses.{Ending}
use Rattle.hay_run.specs.Causing.{CausedRun}
use Rattle.hay_run.specs.Draws.{drawn_of}
use Rattle.hay_run.specs.Drills.{DrillsTo, RefusedRun}
use Rattle.hay_run.proofs.Auditing.{audit_never_two, audit_nothing, audit_statuses}
use Rattle.hay_run.proofs.Caused.{nothing_caused}
use Rattle.hay_legal.specs.Stands.{Outside}
use Rattle.hay_run.proofs.Checking.{check_nothing, check_statuses}
use Rattle.hay_run.proofs.Commanding.{audit_no_drill, audit_no_load, check_no_drill, load_no_drill, run_no_drill, same_drill, check_no_audit, check_no_load, load_no_audit}
use Rattle.hay_run.proofs.Commanding.{run_no_audit, run_no_load, same_audit, same_check, same_load, same_run}
use Rattle.hay_run.proofs.Loading.{load_nothing, never_two}
use Rattle.hay_run.proofs.Fuses.{same_kept, shelf_keeps, shelf_same}
use Rattle.hay_run.proofs.Giving.{disks_in, arms_in, none_fell}
use Rattle.hay_run.proofs.Refusing.{by_status, opened_by, ran_nothing, ran_by, store_by}
use Rattle.hay_run.proofs.Summed.{drill_ending, drill_never, unsaid_nothing}
use Rattle.hay_run.proofs.program.run.Goals as goal

-- memory was wanting for the words

pub returns-in-Err-clause-ran : goal.returns-in-Err-clause-ran
returns-in-Err-clause-ran g c = λ tells settings k says taken script held told told_sink ending is.
    let outside = outside_of (g.H.Shelf.fault_count c.args.shelf.now) (g.H.Shelf.disks c.args.shelf.now) (g.H.Shelf.arms c.args.shelf.now) in
    let P : Option (List ℕ) → Type 0 = λ left. RanTo settings k ending script left outside outside held (g.K.Sink.written c.args.sink.now) in
    subst P (sym told) (ran_nothing settings outside k taken script held (g.K.Sink.written c.args.sink.now) told_sink ending (sym c.status.ensures ∙ is))

-- the script was read to its end

pub returns-in-Ok-clause-ran : goal.returns-in-Ok-clause-ran
returns-in-Ok-clause-ran g c = λ tells settings k says taken script held told told_sink ending is.
    let given = outside_of (g.H.Shelf.fault_count c.run_script.new.shelf) (g.H.Shelf.disks c.run_script.new.shelf) (g.H.Shelf.arms c.run_script.new.shelf) in
    let outside = outside_of (g.H.Shelf.fault_count c.args.shelf.now) (g.H.Shelf.disks c.args.shelf.now) (g.H.Shelf.arms c.args.shelf.now) in
    let same : c.in-Ok-Some-Run.settings ≡ settings =
    (let run : SaysRun (map string_bytes c.args.words.now) c.in-Ok-Some-Run.settings = rw (c.in-Ok-Some-Run.field-0-is, c.in-Ok-Some-Run.field-0-0-is) at c.in-Ok-Some-Run.ensures.says in
    same_run (map string_bytes c.args.words.now) c.in-Ok-Some-Run.settings settings run says) in
    let P : Settings → Type 0 = λ s. RanTo s k ending script (g.S.Source.left c.run_script.new.source) outside given held (g.K.Sink.written c.run_script.new.sink) in
    let Q : Settings → Type 0 = λ s. IsTaken s outside k in
    subst P same (ran_by c.in-Ok-Some-Run.settings k script (g.S.Source.left c.run_script.new.source) outside given held (g.K.Sink.written c.run_script.new.sink) ending ReadAll is
    (c.in-Ok.ensures.ran tells k (subst Q (sym same) taken) script held told told_sink))

pub returns-in-Ok-clause-disks_back : goal.returns-in-Ok-clause-disks_back
returns-in-Ok-clause-disks_back g c = disks_in (disk_count c.in-Ok-Some-Run.settings) (g.H.Shelf.disks c.args.shelf.now) (g.H.Shelf.disks c.run_script.new.shelf)
    c.requires.disks_in c.in-Ok.ensures.disks_back c.in-Ok.ensures.other_slots

pub returns-in-Ok-clause-arms_back : goal.returns-in-Ok-clause-arms_back
returns-in-Ok-clause-arms_back g c = arms_in 8 (g.H.Shelf.arms c.args.shelf.now) (g.H.Shelf.arms c.run_script.new.shelf)
    c.requires.arms_in c.in-Ok.ensures.arms_back c.in-Ok.ensures.other_lanes

pub returns-in-Ok-clause-faults : goal.returns-in-Ok-clause-faults
returns-in-Ok-clause-faults g c = none_fell (λ (d : HeldDisk). d.fault_count) (disk_count c.in-Ok-Some-Run.settings) (g.H.Shelf.disks c.args.shelf.now) (g.H.Shelf.disks c.run_script.new.shelf)
    c.in-Ok.ensures.faults c.in-Ok.ensures.other_slots

pub returns-in-Ok-clause-arm_faults : goal.returns-in-Ok-clause-arm_faults
returns-in-Ok-clause-arm_faults g c = none_fell (λ (a : HeldArm). a.fault_count) 8 (g.H.Shelf.arms c.args.shelf.now) (g.H.Shelf.arms c.run_script.new.shelf)
    c.in-Ok.ensures.arm_faults c.in-Ok.ensures.other_lanes

pub returns-in-Ok-clause-other_slots : goal.returns-in-Ok-clause-other_slots
returns-in-Ok-clause-other_slots g c = λ settings says.
    let same : c.in-Ok-Some-Run.settings ≡ settings =
    (let run : SaysRun (map string_bytes c.args.words.now) c.in-Ok-Some-Run.settings = rw (c.in-Ok-Some-Run.field-0-is, c.in-Ok-Some-Run.field-0-0-is) at c.in-Ok-Some-Run.ensures.says in
    same_run (map string_bytes c.args.words.now) c.in-Ok-Some-Run.settings settings run says) in
    let P : Settings → Type 0 = λ s. SameFrom (disk_count s) (g.H.Shelf.disks c.args.shelf.now) (g.H.Shelf.disks c.run_script.new.shelf) in
    subst P same c.in-Ok.ensures.other_slots

-- the run stopped

pub returns-in-Err-run_script-clause-ran : goal.returns-in-Err-run_script-clause-ran
returns-in-Err-run_script-clause-ran g c = λ tells settings k says taken script held told told_sink ending is.
    let given = outside_of (g.H.Shelf.fault_count c.run_script.new.shelf) (g.H.Shelf.disks c.run_script.new.shelf) (g.H.Shelf.arms c.run_script.new.shelf) in
    let outside = outside_of (g.H.Shelf.fault_count c.args.shelf.now) (g.H.Shelf.disks c.args.shelf.now) (g.H.Shelf.arms c.args.shelf.now) in
    let same : c.in-Ok-Some-Run.settings ≡ settings =
    (let run : SaysRun (map string_bytes c.args.words.now) c.in-Ok-Some-Run.settings = rw (c.in-Ok-Some-Run.field-0-is, c.in-Ok-Some-Run.field-0-0-is) at c.in-Ok-Some-Run.ensures.says in
    same_run (map string_bytes c.args.words.now) c.in-Ok-Some-Run.settings settings run says) in
    let P : Settings → Type 0 = λ s. RanTo s k ending script (g.S.Source.left c.run_script.new.source) outside given held (g.K.Sink.written c.run_script.new.sink) in
    let Q : Settings → Type 0 = λ s. IsTaken s outside k in
    subst P same (ran_by c.in-Ok-Some-Run.settings k script (g.S.Source.left c.run_script.new.source) outside given held (g.K.Sink.written c.run_script.new.sink) ending
    (ending_of c.in-Err-run_script.stop)
    (sym c.status-in-Err-run_script.ensures ∙ is)
    (c.in-Err-run_script.ensures.stopped tells c.in-Err-run_script.stop refl k (subst Q (sym same) taken) script held told told_sink))

pub returns-in-Err-run_script-clause-disks_back : goal.returns-in-Err-run_script-clause-disks_back
returns-in-Err-run_script-clause-disks_back g c = disks_in (disk_count c.in-Ok-Some-Run.settings) (g.H.Shelf.disks c.args.shelf.now) (g.H.Shelf.disks c.run_script.new.shelf)
    c.requires.disks_in c.in-Err-run_script.ensures.disks_back c.in-Err-run_script.ensures.other_slots

pub returns-in-Err-run_script-clause-arms_back : goal.returns-in-Err-run_script-clause-arms_back
returns-in-Err-run_script-clause-arms_back g c = arms_in 8 (g.H.Shelf.arms c.args.shelf.now) (g.H.Shelf.arms c.run_script.new.shelf)
    c.requires.arms_in c.in-Err-run_script.ensures.arms_back c.in-Err-run_script.ensures.other_lanes

pub returns-in-Err-run_script-clause-faults : goal.returns-in-Err-run_script-clause-faults
returns-in-Err-run_script-clause-faults g c =
    none_fell (λ (d : HeldDisk). d.fault_count) (disk_count c.in-Ok-Some-Run.settings) (g.H.Shelf.disks c.args.shelf.now) (g.H.Shelf.disks c.run_script.new.shelf)
    c.in-Err-run_script.ensures.faults c.in-Err-run_script.ensures.other_slots

pub returns-in-Err-run_script-clause-arm_faults : goal.returns-in-Err-run_script-clause-arm_faults
returns-in-Err-run_script-clause-arm_faults g c = none_fell (λ (a : HeldArm). a.fault_count) 8 (g.H.Shelf.arms c.args.shelf.now) (g.H.Shelf.arms c.run_script.new.shelf)
    c.in-Err-run_script.ensures.arm_faults c.in-Err-run_script.ensures.other_lanes

pub returns-in-Err-run_script-clause-other_slots : goal.returns-in-Err-run_script-clause-other_slots
returns-in-Err-run_script-clause-other_slots g c = λ settings says.
    let same : c.in-Ok-Some-Run.settings ≡ settings =
    (let run : SaysRun (map string_bytes c.args.words.now) c.in-Ok-Some-Run.settings = rw (c.in-Ok-Some-Run.field-0-is, c.in-Ok-Some-Run.field-0-0-is) at c.in-Ok-Some-Run.ensures.says in
    same_run (map string_bytes c.args.words.now) c.in-Ok-Some-Run.settings settings run says) in
    let P : Settings → Type 0 = λ s. SameFrom (disk_count s) (g.H.Shelf.disks c.args.shelf.now) (g.H.Shelf.disks c.run_script.new.shelf) in
    subst P same c.in-Err-run_script.ensures.other_slots

pub returns-in-Err-run_script-clause-store : goal.returns-in-Err-run_script-clause-store
returns-in-Err-run_script-clause-store g c = λ six settings says.
    let same : c.in-Ok-Some-Run.settings ≡ settings =
    (let run : SaysRun (map string_bytes c.args.words.now) c.in-Ok-Some-Run.settings = rw (c.in-Ok-Some-Run.field-0-is, c.in-Ok-Some-Run.field-0-0-is) at c.in-Ok-Some-Run.ensures.says in
    same_run (map string_bytes c.args.words.now) c.in-Ok-Some-Run.settings settings run says) in
    let taken = outside_of (g.H.Shelf.fault_count c.args.shelf.now) (g.H.Shelf.disks c.args.shelf.now) (g.H.Shelf.arms c.args.shelf.now) in
    let given = outside_of (g.H.Shelf.fault_count c.run_script.new.shelf) (g.H.Shelf.disks c.run_script.new.shelf) (g.H.Shelf.arms c.run_script.new.shelf) in
    let P : Settings → Type 0 = λ s. IsNotOpened g.H.Disk.Disk.Tells s (g.H.Shelf.disks c.args.shelf.now) (g.H.Shelf.disks c.run_script.new.shelf)
    taken given (g.S.Source.left c.args.source.now) (g.S.Source.left c.run_script.new.source) (g.K.Sink.written c.args.sink.now) (g.K.Sink.written c.run_script.new.sink) in
    subst P same (c.in-Err-run_script.ensures.store (ap (λ w. Err w) (store_by c.in-Err-run_script.stop (sym c.status-in-Err-run_script.ensures ∙ six))))

pub returns-in-Ok-clause-sound : goal.returns-in-Ok-clause-sound
returns-in-Ok-clause-sound g c = λ tells status settings says.
    let same : c.in-Ok-Some-Run.settings ≡ settings =
    (let run : SaysRun (map string_bytes c.args.words.now) c.in-Ok-Some-Run.settings = rw (c.in-Ok-Some-Run.field-0-is, c.in-Ok-Some-Run.field-0-0-is) at c.in-Ok-Some-Run.ensures.says in
    same_run (map string_bytes c.args.words.now) c.in-Ok-Some-Run.settings settings run says) in
    subst (λ (s : Settings). IsUndamaged s (λ slot. read_of (g.H.Shelf.disks c.args.shelf.now slot))) same (c.in-Ok.ensures.sound tells (inl tt))

pub returns-in-Err-run_script-clause-sound : goal.returns-in-Err-run_script-clause-sound
returns-in-Err-run_script-clause-sound g c = λ tells status settings says.
    let same : c.in-Ok-Some-Run.settings ≡ settings =
    (let run : SaysRun (map string_bytes c.args.words.now) c.in-Ok-Some-Run.settings = rw (c.in-Ok-Some-Run.field-0-is, c.in-Ok-Some-Run.field-0-0-is) at c.in-Ok-Some-Run.ensures.says in
    same_run (map string_bytes c.args.words.now) c.in-Ok-Some-Run.settings settings run says) in
    subst (λ (s : Settings). IsUndamaged s (λ slot. read_of (g.H.Shelf.disks c.args.shelf.now slot))) same
    (c.in-Err-run_script.ensures.sound tells (opened_by c.in-Err-run_script.stop c.status-in-Err-run_script.result c.status-in-Err-run_script.ensures status))

pub returns-in-Ok-clause-formatted : goal.returns-in-Ok-clause-formatted
returns-in-Ok-clause-formatted g c = λ tells status settings k says taken slot within.
    let same : c.in-Ok-Some-Run.settings ≡ settings =
    (let run : SaysRun (map string_bytes c.args.words.now) c.in-Ok-Some-Run.settings = rw (c.in-Ok-Some-Run.field-0-is, c.in-Ok-Some-Run.field-0-0-is) at c.in-Ok-Some-Run.ensures.says in
    same_run (map string_bytes c.args.words.now) c.in-Ok-Some-Run.settings settings run says) in
    c.in-Ok.ensures.formatted tells (inl tt) k
    (subst (λ (s : Settings). IsTaken s (outside_of (g.H.Shelf.fault_count c.args.shelf.now) (g.H.Shelf.disks c.args.shelf.now) (g.H.Shelf.arms c.args.shelf.now)) k) (sym same)
    taken) slot (subst (λ (s : Settings). slot < disk_count s) (sym same) within)

pub returns-in-Err-run_script-clause-formatted : goal.returns-in-Err-run_script-clause-formatted
returns-in-Err-run_script-clause-formatted g c = λ tells status settings k says taken slot within.
    let same : c.in-Ok-Some-Run.settings ≡ settings =
    (let run : SaysRun (map string_bytes c.args.words.now) c.in-Ok-Some-Run.settings = rw (c.in-Ok-Some-Run.field-0-is, c.in-Ok-Some-Run.field-0-0-is) at c.in-Ok-Some-Run.ensures.says in
    same_run (map string_bytes c.args.words.now) c.in-Ok-Some-Run.settings settings run says) in
    c.in-Err-run_script.ensures.formatted tells (opened_by c.in-Err-run_script.stop c.status-in-Err-run_script.result c.status-in-Err-run_script.ensures status) k
    (subst (λ (s : Settings). IsTaken s (outside_of (g.H.Shelf.fault_count c.args.shelf.now) (g.H.Shelf.disks c.args.shelf.now) (g.H.Shelf.arms c.args.shelf.now)) k) (sym same)
    taken) slot (subst (λ (s : Settings). slot < disk_count s) (sym same) within)

-- what was written, and its causes

pub returns-in-Err-clause-caused : goal.returns-in-Err-clause-caused
returns-in-Err-clause-caused g c = λ settings says script held told told_sink ending is.
    let disks : ℕ → HeldDisk = g.H.Shelf.disks c.args.shelf.now in
    let disks' : ℕ → HeldDisk = g.H.Shelf.disks c.args.shelf.now in
    let sure : ℕ → Bool = (λ lane. (g.H.Shelf.arms c.args.shelf.now lane).is_sure) in
    let outside = outside_of (g.H.Shelf.fault_count c.args.shelf.now) (g.H.Shelf.disks c.args.shelf.now) (g.H.Shelf.arms c.args.shelf.now) in
    by_status (λ (e : Ending). CausedRun g.H.Disk.Disk.Tells settings e script (g.S.Source.left c.args.source.now) outside outside sure disks disks' held
    (g.K.Sink.written c.args.sink.now)) NoMemory ending (sym c.status.ensures ∙ is)
    (nothing_caused g.H.Disk.Disk.Tells settings script (g.S.Source.left c.args.source.now) outside outside sure disks disks' held (g.K.Sink.written c.args.sink.now)
    (λ tells slot within. inr (inl refl)) (λ lane within. refl) (λ slot within. refl) told_sink told)

pub returns-in-Ok-clause-caused : goal.returns-in-Ok-clause-caused
returns-in-Ok-clause-caused g c = λ settings says script held told told_sink ending is.
    let disks : ℕ → HeldDisk = g.H.Shelf.disks c.args.shelf.now in
    let disks' : ℕ → HeldDisk = g.H.Shelf.disks c.run_script.new.shelf in
    let sure : ℕ → Bool = (λ lane. (g.H.Shelf.arms c.args.shelf.now lane).is_sure) in
    let outside = outside_of (g.H.Shelf.fault_count c.args.shelf.now) (g.H.Shelf.disks c.args.shelf.now) (g.H.Shelf.arms c.args.shelf.now) in
    let given = outside_of (g.H.Shelf.fault_count c.run_script.new.shelf) (g.H.Shelf.disks c.run_script.new.shelf) (g.H.Shelf.arms c.run_script.new.shelf) in
    let same : c.in-Ok-Some-Run.settings ≡ settings =
    (let run : SaysRun (map string_bytes c.args.words.now) c.in-Ok-Some-Run.settings = rw (c.in-Ok-Some-Run.field-0-is, c.in-Ok-Some-Run.field-0-0-is) at c.in-Ok-Some-Run.ensures.says in
    same_run (map string_bytes c.args.words.now) c.in-Ok-Some-Run.settings settings run says) in
    let P : Settings → Type 0 =
    λ s. CausedRun g.H.Disk.Disk.Tells s ending script (g.S.Source.left c.run_script.new.source) outside given sure disks disks' held (g.K.Sink.written c.run_script.new.sink) in
    subst P same
    (by_status (λ (e : Ending). CausedRun g.H.Disk.Disk.Tells c.in-Ok-Some-Run.settings e script (g.S.Source.left c.run_script.new.source) outside given sure disks disks' held
    (g.K.Sink.written c.run_script.new.sink)) ReadAll ending is
    (c.in-Ok.ensures.caused script held told told_sink))

pub returns-in-Err-run_script-clause-caused : goal.returns-in-Err-run_script-clause-caused
returns-in-Err-run_script-clause-caused g c = λ settings says script held told told_sink ending is.
    let disks : ℕ → HeldDisk = g.H.Shelf.disks c.args.shelf.now in
    let disks' : ℕ → HeldDisk = g.H.Shelf.disks c.run_script.new.shelf in
    let sure : ℕ → Bool = (λ lane. (g.H.Shelf.arms c.args.shelf.now lane).is_sure) in
    let outside = outside_of (g.H.Shelf.fault_count c.args.shelf.now) (g.H.Shelf.disks c.args.shelf.now) (g.H.Shelf.arms c.args.shelf.now) in
    let given = outside_of (g.H.Shelf.fault_count c.run_script.new.shelf) (g.H.Shelf.disks c.run_script.new.shelf) (g.H.Shelf.arms c.run_script.new.shelf) in
    let same : c.in-Ok-Some-Run.settings ≡ settings =
    (let run : SaysRun (map string_bytes c.args.words.now) c.in-Ok-Some-Run.settings = rw (c.in-Ok-Some-Run.field-0-is, c.in-Ok-Some-Run.field-0-0-is) at c.in-Ok-Some-Run.ensures.says in
    same_run (map string_bytes c.args.words.now) c.in-Ok-Some-Run.settings settings run says) in
    let P : Settings → Type 0 =
    λ s. CausedRun g.H.Disk.Disk.Tells s ending script (g.S.Source.left c.run_script.new.source) outside given sure disks disks' held (g.K.Sink.written c.run_script.new.sink) in
    subst P same
    (by_status (λ (e : Ending). CausedRun g.H.Disk.Disk.Tells c.in-Ok-Some-Run.settings e script (g.S.Source.left c.run_script.new.source) outside given sure disks disks' held
    (g.K.Sink.written c.run_script.new.sink))
    (ending_of c.in-Err-run_script.stop) ending (sym c.status-in-Err-run_script.ensures ∙ is)
    (c.in-Err-run_script.ensures.caused script held told told_sink))

-- a check

pub returns-in-Ok-Some-Check-clause-checked : goal.returns-in-Ok-Some-Check-clause-checked
returns-in-Ok-Some-Check-clause-checked g c = λ settings says.
    let taken : Outside = outside_of (g.H.Shelf.fault_count c.args.shelf.now) (g.H.Shelf.disks c.args.shelf.now) (g.H.Shelf.arms c.args.shelf.now) in
    let given : Outside = outside_of (g.H.Shelf.fault_count c.check_store.new.shelf) (g.H.Shelf.disks c.check_store.new.shelf) (g.H.Shelf.arms c.check_store.new.shelf) in
    let words = map string_bytes c.args.words.now in
    let check : SaysCheck words c.in-Ok-Some-Check.settings = rw (c.in-Ok-Some-Check.field-0-is, c.in-Ok-Some-Check.field-0-0-is) at c.in-Ok-Some-Check.ensures.says in
    let P : Settings → Type 0 = λ s. ChecksTo g.H.Disk.Disk.Tells s c.check_store.result taken given (g.K.Sink.written c.args.sink.now) (g.K.Sink.written c.check_store.new.sink) in
    subst P (same_check words c.in-Ok-Some-Check.settings settings check says) c.check_store.ensures.checked

pub returns-in-Ok-Some-Check-clause-unused : goal.returns-in-Ok-Some-Check-clause-unused
returns-in-Ok-Some-Check-clause-unused g c = λ settings says.
    let words = map string_bytes c.args.words.now in
    let check : SaysCheck words c.in-Ok-Some-Check.settings = rw (c.in-Ok-Some-Check.field-0-is, c.in-Ok-Some-Check.field-0-0-is) at c.in-Ok-Some-Check.ensures.says in
    let P : Settings → Type 0 = λ s. SameFrom (disk_count s) (g.H.Shelf.disks c.args.shelf.now) (g.H.Shelf.disks c.check_store.new.shelf) in
    (refl, c.check_store.ensures.lanes, subst P (same_check words c.in-Ok-Some-Check.settings settings check says) c.check_store.ensures.other_slots)

pub returns-in-Ok-Some-Check-clause-status : goal.returns-in-Ok-Some-Check-clause-status
returns-in-Ok-Some-Check-clause-status g c =
    let taken : Outside = outside_of (g.H.Shelf.fault_count c.args.shelf.now) (g.H.Shelf.disks c.args.shelf.now) (g.H.Shelf.arms c.args.shelf.now) in
    let given : Outside = outside_of (g.H.Shelf.fault_count c.check_store.new.shelf) (g.H.Shelf.disks c.check_store.new.shelf) (g.H.Shelf.arms c.check_store.new.shelf) in
    let words = map string_bytes c.args.words.now in
    let check : SaysCheck words c.in-Ok-Some-Check.settings = rw (c.in-Ok-Some-Check.field-0-is, c.in-Ok-Some-Check.field-0-0-is) at c.in-Ok-Some-Check.ensures.says in
    check_statuses g.H.Disk.Disk.Tells c.in-Ok-Some-Check.settings c.check_store.result taken given (g.K.Sink.written c.args.sink.now) (g.K.Sink.written c.check_store.new.sink)
    c.check_store.ensures.checked
    (c.in-Ok-Some-Check.settings, check)

-- memory was wanting for the words

pub returns-in-Err-clause-checked : goal.returns-in-Err-clause-checked
returns-in-Err-clause-checked g c = λ settings says.
    check_nothing g.H.Disk.Disk.Tells settings c.status.result (outside_of (g.H.Shelf.fault_count c.args.shelf.now) (g.H.Shelf.disks c.args.shelf.now) (g.H.Shelf.arms c.args.shelf.now))
    (g.K.Sink.written c.args.sink.now) c.status.ensures

-- what was read, where nothing was asked

pub returns-in-Ok-clause-drew : goal.returns-in-Ok-clause-drew
returns-in-Ok-clause-drew g c = λ tells zero settings says nothing.
    let same : c.in-Ok-Some-Run.settings ≡ settings =
    (let run : SaysRun (map string_bytes c.args.words.now) c.in-Ok-Some-Run.settings = rw (c.in-Ok-Some-Run.field-0-is, c.in-Ok-Some-Run.field-0-0-is) at c.in-Ok-Some-Run.ensures.says in
    same_run (map string_bytes c.args.words.now) c.in-Ok-Some-Run.settings settings run says) in
    subst (λ (s : Settings). EachDrewLittle s (λ slot. read_of (g.H.Shelf.disks c.run_script.new.shelf slot)) no_look (drawn_of (g.H.Shelf.disks c.args.shelf.now))
    (drawn_of (g.H.Shelf.disks c.run_script.new.shelf))) same
    (c.in-Ok.ensures.drew tells nothing)

pub returns-in-Ok-clause-flushed : goal.returns-in-Ok-clause-flushed
returns-in-Ok-clause-flushed g c = λ tells zero settings k says taken nothing.
    let outside = outside_of (g.H.Shelf.fault_count c.args.shelf.now) (g.H.Shelf.disks c.args.shelf.now) (g.H.Shelf.arms c.args.shelf.now) in
    let same : c.in-Ok-Some-Run.settings ≡ settings =
    (let run : SaysRun (map string_bytes c.args.words.now) c.in-Ok-Some-Run.settings = rw (c.in-Ok-Some-Run.field-0-is, c.in-Ok-Some-Run.field-0-0-is) at c.in-Ok-Some-Run.ensures.says in
    same_run (map string_bytes c.args.words.now) c.in-Ok-Some-Run.settings settings run says) in
    subst (λ (s : Settings). FlushedDrewLittle s k (drawn_of (g.H.Shelf.disks c.args.shelf.now)) (drawn_of (g.H.Shelf.disks c.run_script.new.shelf))) same
    (c.in-Ok.ensures.flushed tells k (subst (λ (s : Settings). IsTaken s outside k) (sym same) taken) nothing)

-- what is left of the disks, where nothing was asked

pub returns-in-Ok-clause-contents : goal.returns-in-Ok-clause-contents
returns-in-Ok-clause-contents g c = λ tells settings says nothing.
    let same : c.in-Ok-Some-Run.settings ≡ settings =
    (let run : SaysRun (map string_bytes c.args.words.now) c.in-Ok-Some-Run.settings = rw (c.in-Ok-Some-Run.field-0-is, c.in-Ok-Some-Run.field-0-0-is) at c.in-Ok-Some-Run.ensures.says in
    same_run (map string_bytes c.args.words.now) c.in-Ok-Some-Run.settings settings run says) in
    subst (λ (s : Settings). KeepsContents s (λ slot. read_of (g.H.Shelf.disks c.args.shelf.now slot)) (λ slot. read_of (g.H.Shelf.disks c.run_script.new.shelf slot))) same
    (c.in-Ok.ensures.contents tells nothing)

pub returns-in-Err-run_script-clause-contents : goal.returns-in-Err-run_script-clause-contents
returns-in-Err-run_script-clause-contents g c = λ tells settings says nothing.
    let same : c.in-Ok-Some-Run.settings ≡ settings =
    (let run : SaysRun (map string_bytes c.args.words.now) c.in-Ok-Some-Run.settings = rw (c.in-Ok-Some-Run.field-0-is, c.in-Ok-Some-Run.field-0-0-is) at c.in-Ok-Some-Run.ensures.says in
    same_run (map string_bytes c.args.words.now) c.in-Ok-Some-Run.settings settings run says) in
    subst (λ (s : Settings). KeepsContents s (λ slot. read_of (g.H.Shelf.disks c.args.shelf.now slot)) (λ slot. read_of (g.H.Shelf.disks c.run_script.new.shelf slot))) same
    (c.in-Err-run_script.ensures.contents tells nothing)

-- a load

pub returns-in-Ok-Some-Load-clause-loaded : goal.returns-in-Ok-Some-Load-clause-loaded
returns-in-Ok-Some-Load-clause-loaded g c = λ settings says.
    let words = map string_bytes c.args.words.now in
    let load : SaysLoad words c.in-Ok-Some-Load.settings = rw (c.in-Ok-Some-Load.field-0-is, c.in-Ok-Some-Load.field-0-0-is) at c.in-Ok-Some-Load.ensures.says in
    let P : Settings → Type 0 = λ s. IsLoad g.H.Disk.Disk.Tells s c.load_puts.result (g.H.Shelf.disks c.args.shelf.now) (g.H.Shelf.disks c.load_puts.new.shelf)
    (g.H.Shelf.arms c.args.shelf.now) (g.H.Shelf.arms c.load_puts.new.shelf) (g.H.Shelf.fault_count c.args.shelf.now) (g.H.Shelf.fault_count c.load_puts.new.shelf)
    (g.S.Source.left c.args.source.now) (g.S.Source.left c.load_puts.new.source) (g.K.Sink.written c.args.sink.now) (g.K.Sink.written c.load_puts.new.sink) in
    subst P (same_load words c.in-Ok-Some-Load.settings settings load says) c.load_puts.ensures.loaded

pub returns-in-Ok-Some-Load-clause-status : goal.returns-in-Ok-Some-Load-clause-status
returns-in-Ok-Some-Load-clause-status g c = inr (inl c.load_puts.ensures.status)

pub returns-in-Ok-Some-Load-clause-usage : goal.returns-in-Ok-Some-Load-clause-usage
returns-in-Ok-Some-Load-clause-usage g c = λ two says. never_two c.load_puts.result c.load_puts.ensures.status.0 c.load_puts.ensures.status.1 two

pub returns-in-Ok-Some-Load-clause-command : goal.returns-in-Ok-Some-Load-clause-command
returns-in-Ok-Some-Load-clause-command g c = λ none.
    let load : SaysLoad (map string_bytes c.args.words.now) c.in-Ok-Some-Load.settings = rw (c.in-Ok-Some-Load.field-0-is, c.in-Ok-Some-Load.field-0-0-is) at c.in-Ok-Some-Load.ensures.says in
    absurd (none (inl (c.in-Ok-Some-Load.settings, inr (inr (inl load)))))

pub returns-in-Ok-Some-Load-clause-untouched : goal.returns-in-Ok-Some-Load-clause-untouched
returns-in-Ok-Some-Load-clause-untouched g c = λ either.
    let load : SaysLoad (map string_bytes c.args.words.now) c.in-Ok-Some-Load.settings = rw (c.in-Ok-Some-Load.field-0-is, c.in-Ok-Some-Load.field-0-0-is) at c.in-Ok-Some-Load.ensures.says in
    elim either [
      | inl two ↦ absurd (never_two c.load_puts.result c.load_puts.ensures.status.0 c.load_puts.ensures.status.1 two)
      | inr none ↦ absurd (none (inl (c.in-Ok-Some-Load.settings, inr (inr (inl load)))))
    ]

pub returns-in-Ok-clause-loaded : goal.returns-in-Ok-clause-loaded
returns-in-Ok-clause-loaded g c = λ settings says.
    let run : SaysRun (map string_bytes c.args.words.now) c.in-Ok-Some-Run.settings = rw (c.in-Ok-Some-Run.field-0-is, c.in-Ok-Some-Run.field-0-0-is) at c.in-Ok-Some-Run.ensures.says in
    absurd (run_no_load (map string_bytes c.args.words.now) c.in-Ok-Some-Run.settings settings run says)

pub returns-in-Err-run_script-clause-loaded : goal.returns-in-Err-run_script-clause-loaded
returns-in-Err-run_script-clause-loaded g c = λ settings says.
    let run : SaysRun (map string_bytes c.args.words.now) c.in-Ok-Some-Run.settings = rw (c.in-Ok-Some-Run.field-0-is, c.in-Ok-Some-Run.field-0-0-is) at c.in-Ok-Some-Run.ensures.says in
    absurd (run_no_load (map string_bytes c.args.words.now) c.in-Ok-Some-Run.settings settings run says)

pub returns-in-Ok-Some-Check-clause-loaded : goal.returns-in-Ok-Some-Check-clause-loaded
returns-in-Ok-Some-Check-clause-loaded g c = λ settings says.
    let check : SaysCheck (map string_bytes c.args.words.now) c.in-Ok-Some-Check.settings = rw (c.in-Ok-Some-Check.field-0-is, c.in-Ok-Some-Check.field-0-0-is) at c.in-Ok-Some-Check.ensures.says in
    absurd (check_no_load (map string_bytes c.args.words.now) c.in-Ok-Some-Check.settings settings check says)

pub returns-in-Err-clause-loaded : goal.returns-in-Err-clause-loaded
returns-in-Err-clause-loaded g c = λ settings says.
    load_nothing g.H.Disk.Disk.Tells settings c.status.result (g.H.Shelf.disks c.args.shelf.now) (g.H.Shelf.arms c.args.shelf.now) (g.H.Shelf.fault_count c.args.shelf.now)
    (g.S.Source.left c.args.source.now) (g.K.Sink.written c.args.sink.now) c.requires.disks_in c.status.ensures

-- an audit

pub returns-in-Ok-Some-Audit-clause-audited : goal.returns-in-Ok-Some-Audit-clause-audited
returns-in-Ok-Some-Audit-clause-audited g c = λ settings says.
    let audit : SaysAudit (map string_bytes c.args.words.now) c.in-Ok-Some-Audit.settings = rw (c.in-Ok-Some-Audit.field-0-is, c.in-Ok-Some-Audit.field-0-0-is) at c.in-Ok-Some-Audit.ensures.says in
    let P : Settings → Type 0 = λ s. AuditsTo s c.audit_transcript.result (g.S.Source.left c.args.source.now) (g.S.Source.left c.audit_transcript.new.source)
    (g.K.Sink.written c.args.sink.now) (g.K.Sink.written c.audit_transcript.new.sink) in
    (subst P (same_audit (map string_bytes c.args.words.now) c.in-Ok-Some-Audit.settings settings audit says) c.audit_transcript.ensures.audited, refl)

pub returns-in-Ok-Some-Audit-clause-status : goal.returns-in-Ok-Some-Audit-clause-status
returns-in-Ok-Some-Audit-clause-status g c =
    let audit : SaysAudit (map string_bytes c.args.words.now) c.in-Ok-Some-Audit.settings = rw (c.in-Ok-Some-Audit.field-0-is, c.in-Ok-Some-Audit.field-0-0-is) at c.in-Ok-Some-Audit.ensures.says in
    audit_statuses c.in-Ok-Some-Audit.settings c.audit_transcript.result (g.S.Source.left c.args.source.now) (g.S.Source.left c.audit_transcript.new.source)
    (g.K.Sink.written c.args.sink.now) (g.K.Sink.written c.audit_transcript.new.sink) c.audit_transcript.ensures.audited (c.in-Ok-Some-Audit.settings, audit)

pub returns-in-Ok-Some-Audit-clause-usage : goal.returns-in-Ok-Some-Audit-clause-usage
returns-in-Ok-Some-Audit-clause-usage g c = λ two says.
    audit_never_two c.in-Ok-Some-Audit.settings c.audit_transcript.result (g.S.Source.left c.args.source.now) (g.S.Source.left c.audit_transcript.new.source)
    (g.K.Sink.written c.args.sink.now) (g.K.Sink.written c.audit_transcript.new.sink) c.audit_transcript.ensures.audited two

pub returns-in-Ok-Some-Audit-clause-command : goal.returns-in-Ok-Some-Audit-clause-command
returns-in-Ok-Some-Audit-clause-command g c = λ none.
    let audit : SaysAudit (map string_bytes c.args.words.now) c.in-Ok-Some-Audit.settings = rw (c.in-Ok-Some-Audit.field-0-is, c.in-Ok-Some-Audit.field-0-0-is) at c.in-Ok-Some-Audit.ensures.says in
    absurd (none (inl (c.in-Ok-Some-Audit.settings, inr (inr (inr audit)))))

pub returns-in-Ok-Some-Audit-clause-untouched : goal.returns-in-Ok-Some-Audit-clause-untouched
returns-in-Ok-Some-Audit-clause-untouched g c = λ either.
    let audit : SaysAudit (map string_bytes c.args.words.now) c.in-Ok-Some-Audit.settings = rw (c.in-Ok-Some-Audit.field-0-is, c.in-Ok-Some-Audit.field-0-0-is) at c.in-Ok-Some-Audit.ensures.says in
    elim either [
      | inl two ↦ absurd (audit_never_two c.in-Ok-Some-Audit.settings c.audit_transcript.result (g.S.Source.left c.args.source.now) (g.S.Source.left c.audit_transcript.new.source)
          (g.K.Sink.written c.args.sink.now) (g.K.Sink.written c.audit_transcript.new.sink) c.audit_transcript.ensures.audited two)
      | inr none ↦ absurd (none (inl (c.in-Ok-Some-Audit.settings, inr (inr (inr audit)))))
    ]

pub returns-in-Ok-Some-Audit-clause-long : goal.returns-in-Ok-Some-Audit-clause-long
returns-in-Ok-Some-Audit-clause-long g c = λ seven other.
    let audit : SaysAudit (map string_bytes c.args.words.now) c.in-Ok-Some-Audit.settings = rw (c.in-Ok-Some-Audit.field-0-is, c.in-Ok-Some-Audit.field-0-0-is) at c.in-Ok-Some-Audit.ensures.says in
    absurd (other (c.in-Ok-Some-Audit.settings, audit))

pub returns-in-Ok-Some-Audit-clause-taken : goal.returns-in-Ok-Some-Audit-clause-taken
returns-in-Ok-Some-Audit-clause-taken g c = λ seven other.
    let audit : SaysAudit (map string_bytes c.args.words.now) c.in-Ok-Some-Audit.settings = rw (c.in-Ok-Some-Audit.field-0-is, c.in-Ok-Some-Audit.field-0-0-is) at c.in-Ok-Some-Audit.ensures.says in
    absurd (other (c.in-Ok-Some-Audit.settings, audit))

pub returns-in-Ok-Some-Audit-clause-loaded : goal.returns-in-Ok-Some-Audit-clause-loaded
returns-in-Ok-Some-Audit-clause-loaded g c = λ settings says.
    let audit : SaysAudit (map string_bytes c.args.words.now) c.in-Ok-Some-Audit.settings = rw (c.in-Ok-Some-Audit.field-0-is, c.in-Ok-Some-Audit.field-0-0-is) at c.in-Ok-Some-Audit.ensures.says in
    absurd (audit_no_load (map string_bytes c.args.words.now) c.in-Ok-Some-Audit.settings settings audit says)

pub returns-in-Ok-clause-audited : goal.returns-in-Ok-clause-audited
returns-in-Ok-clause-audited g c = λ settings says.
    let run : SaysRun (map string_bytes c.args.words.now) c.in-Ok-Some-Run.settings = rw (c.in-Ok-Some-Run.field-0-is, c.in-Ok-Some-Run.field-0-0-is) at c.in-Ok-Some-Run.ensures.says in
    absurd (run_no_audit (map string_bytes c.args.words.now) c.in-Ok-Some-Run.settings settings run says)

pub returns-in-Err-run_script-clause-audited : goal.returns-in-Err-run_script-clause-audited
returns-in-Err-run_script-clause-audited g c = λ settings says.
    let run : SaysRun (map string_bytes c.args.words.now) c.in-Ok-Some-Run.settings = rw (c.in-Ok-Some-Run.field-0-is, c.in-Ok-Some-Run.field-0-0-is) at c.in-Ok-Some-Run.ensures.says in
    absurd (run_no_audit (map string_bytes c.args.words.now) c.in-Ok-Some-Run.settings settings run says)

pub returns-in-Ok-Some-Check-clause-audited : goal.returns-in-Ok-Some-Check-clause-audited
returns-in-Ok-Some-Check-clause-audited g c = λ settings says.
    let check : SaysCheck (map string_bytes c.args.words.now) c.in-Ok-Some-Check.settings = rw (c.in-Ok-Some-Check.field-0-is, c.in-Ok-Some-Check.field-0-0-is) at c.in-Ok-Some-Check.ensures.says in
    absurd (check_no_audit (map string_bytes c.args.words.now) c.in-Ok-Some-Check.settings settings check says)

pub returns-in-Ok-Some-Load-clause-audited : goal.returns-in-Ok-Some-Load-clause-audited
returns-in-Ok-Some-Load-clause-audited g c = λ settings says.
    let load : SaysLoad (map string_bytes c.args.words.now) c.in-Ok-Some-Load.settings = rw (c.in-Ok-Some-Load.field-0-is, c.in-Ok-Some-Load.field-0-0-is) at c.in-Ok-Some-Load.ensures.says in
    absurd (load_no_audit (map string_bytes c.args.words.now) c.in-Ok-Some-Load.settings settings load says)

pub returns-in-Err-clause-audited : goal.returns-in-Err-clause-audited
returns-in-Err-clause-audited g c = λ settings says.
    (audit_nothing settings c.status.result (g.S.Source.left c.args.source.now) (g.K.Sink.written c.args.sink.now) c.status.ensures, refl)

-- a drill

pub returns-in-Ok-Some-Drill-clause-drilled : goal.returns-in-Ok-Some-Drill-clause-drilled
returns-in-Ok-Some-Drill-clause-drilled g c = λ tells count first k says taken held told ending is.
    let drill : SaysDrill (map string_bytes c.args.words.now) c.in-Ok-Some-Drill.count c.in-Ok-Some-Drill.first =
    rw (c.in-Ok-Some-Drill.field-0-is, c.in-Ok-Some-Drill.field-0-0-is) at c.in-Ok-Some-Drill.ensures.says in
    let same = same_drill (map string_bytes c.args.words.now) c.in-Ok-Some-Drill.count c.in-Ok-Some-Drill.first count first drill says in
    let outside : Outside = outside_of (g.H.Shelf.fault_count c.args.shelf.now) (g.H.Shelf.disks c.args.shelf.now) (g.H.Shelf.arms c.args.shelf.now) in
    let given : Outside = outside_of (g.H.Shelf.fault_count c.drill_store.new.shelf) (g.H.Shelf.disks c.drill_store.new.shelf) (g.H.Shelf.arms c.drill_store.new.shelf) in
    let P : ℕ → ℕ → Type 0 = λ n m. DrillsTo n m k ending outside given held (g.K.Sink.written c.drill_store.new.sink) in
    subst (λ (n : ℕ). P n first) same.0 (subst (λ (m : ℕ). P c.in-Ok-Some-Drill.count m) same.1 (c.drill_store.ensures.drilled tells k taken held told ending is))

pub returns-in-Ok-Some-Drill-clause-status : goal.returns-in-Ok-Some-Drill-clause-status
returns-in-Ok-Some-Drill-clause-status g c =
    let ended = drill_ending c.drill_store.result c.drill_store.ensures.status in inr (inl ended)

pub returns-in-Ok-Some-Drill-clause-usage : goal.returns-in-Ok-Some-Drill-clause-usage
returns-in-Ok-Some-Drill-clause-usage g c = λ two says.
    drill_never c.drill_store.result c.drill_store.ensures.status (inl two)

pub returns-in-Ok-Some-Drill-clause-command : goal.returns-in-Ok-Some-Drill-clause-command
returns-in-Ok-Some-Drill-clause-command g c = λ none.
    let drill : SaysDrill (map string_bytes c.args.words.now) c.in-Ok-Some-Drill.count c.in-Ok-Some-Drill.first =
    rw (c.in-Ok-Some-Drill.field-0-is, c.in-Ok-Some-Drill.field-0-0-is) at c.in-Ok-Some-Drill.ensures.says in
    absurd (none (inr (c.in-Ok-Some-Drill.count, c.in-Ok-Some-Drill.first, drill)))

pub returns-in-Ok-Some-Drill-clause-untouched : goal.returns-in-Ok-Some-Drill-clause-untouched
returns-in-Ok-Some-Drill-clause-untouched g c = λ either.
    let drill : SaysDrill (map string_bytes c.args.words.now) c.in-Ok-Some-Drill.count c.in-Ok-Some-Drill.first =
    rw (c.in-Ok-Some-Drill.field-0-is, c.in-Ok-Some-Drill.field-0-0-is) at c.in-Ok-Some-Drill.ensures.says in
    elim either [
      | inl two ↦ absurd (drill_never c.drill_store.result c.drill_store.ensures.status (inl two))
      | inr none ↦ absurd (none (inr (c.in-Ok-Some-Drill.count, c.in-Ok-Some-Drill.first, drill)))
    ]

pub returns-in-Ok-Some-Drill-clause-source : goal.returns-in-Ok-Some-Drill-clause-source
returns-in-Ok-Some-Drill-clause-source g c =
    record { later = omega arith; cause = λ four. absurd (drill_never c.drill_store.result c.drill_store.ensures.status (inr (inl four))) }

pub returns-in-Ok-Some-Drill-clause-long : goal.returns-in-Ok-Some-Drill-clause-long
returns-in-Ok-Some-Drill-clause-long g c = λ seven.
    absurd (drill_never c.drill_store.result c.drill_store.ensures.status (inr (inr seven)))

pub returns-in-Ok-Some-Drill-clause-drill_unused : goal.returns-in-Ok-Some-Drill-clause-drill_unused
returns-in-Ok-Some-Drill-clause-drill_unused g c = λ says.
    (refl, c.drill_store.ensures.other_slots)

pub returns-in-Ok-Some-Drill-clause-ran : goal.returns-in-Ok-Some-Drill-clause-ran
returns-in-Ok-Some-Drill-clause-ran g c = λ tells settings k says taken script held told told_sink ending is.
    let drill : SaysDrill (map string_bytes c.args.words.now) c.in-Ok-Some-Drill.count c.in-Ok-Some-Drill.first =
    rw (c.in-Ok-Some-Drill.field-0-is, c.in-Ok-Some-Drill.field-0-0-is) at c.in-Ok-Some-Drill.ensures.says in
    absurd (run_no_drill (map string_bytes c.args.words.now) settings c.in-Ok-Some-Drill.count c.in-Ok-Some-Drill.first says drill)

pub returns-in-Ok-Some-Drill-clause-caused : goal.returns-in-Ok-Some-Drill-clause-caused
returns-in-Ok-Some-Drill-clause-caused g c = λ settings says script held told told_sink ending is.
    let drill : SaysDrill (map string_bytes c.args.words.now) c.in-Ok-Some-Drill.count c.in-Ok-Some-Drill.first =
    rw (c.in-Ok-Some-Drill.field-0-is, c.in-Ok-Some-Drill.field-0-0-is) at c.in-Ok-Some-Drill.ensures.says in
    absurd (run_no_drill (map string_bytes c.args.words.now) settings c.in-Ok-Some-Drill.count c.in-Ok-Some-Drill.first says drill)

pub returns-in-Ok-Some-Drill-clause-checked : goal.returns-in-Ok-Some-Drill-clause-checked
returns-in-Ok-Some-Drill-clause-checked g c = λ settings says.
    let drill : SaysDrill (map string_bytes c.args.words.now) c.in-Ok-Some-Drill.count c.in-Ok-Some-Drill.first =
    rw (c.in-Ok-Some-Drill.field-0-is, c.in-Ok-Some-Drill.field-0-0-is) at c.in-Ok-Some-Drill.ensures.says in
    absurd (check_no_drill (map string_bytes c.args.words.now) settings c.in-Ok-Some-Drill.count c.in-Ok-Some-Drill.first says drill)

pub returns-in-Ok-Some-Drill-clause-unchanged : goal.returns-in-Ok-Some-Drill-clause-unchanged
returns-in-Ok-Some-Drill-clause-unchanged g c = λ settings says slot.
    let drill : SaysDrill (map string_bytes c.args.words.now) c.in-Ok-Some-Drill.count c.in-Ok-Some-Drill.first =
    rw (c.in-Ok-Some-Drill.field-0-is, c.in-Ok-Some-Drill.field-0-0-is) at c.in-Ok-Some-Drill.ensures.says in
    absurd (check_no_drill (map string_bytes c.args.words.now) settings c.in-Ok-Some-Drill.count c.in-Ok-Some-Drill.first says drill)

pub returns-in-Ok-Some-Drill-clause-unused : goal.returns-in-Ok-Some-Drill-clause-unused
returns-in-Ok-Some-Drill-clause-unused g c = λ settings says.
    let drill : SaysDrill (map string_bytes c.args.words.now) c.in-Ok-Some-Drill.count c.in-Ok-Some-Drill.first =
    rw (c.in-Ok-Some-Drill.field-0-is, c.in-Ok-Some-Drill.field-0-0-is) at c.in-Ok-Some-Drill.ensures.says in
    absurd (check_no_drill (map string_bytes c.args.words.now) settings c.in-Ok-Some-Drill.count c.in-Ok-Some-Drill.first says drill)

pub returns-in-Ok-Some-Drill-clause-loaded : goal.returns-in-Ok-Some-Drill-clause-loaded
returns-in-Ok-Some-Drill-clause-loaded g c = λ settings says.
    let drill : SaysDrill (map string_bytes c.args.words.now) c.in-Ok-Some-Drill.count c.in-Ok-Some-Drill.first =
    rw (c.in-Ok-Some-Drill.field-0-is, c.in-Ok-Some-Drill.field-0-0-is) at c.in-Ok-Some-Drill.ensures.says in
    absurd (load_no_drill (map string_bytes c.args.words.now) settings c.in-Ok-Some-Drill.count c.in-Ok-Some-Drill.first says drill)

pub returns-in-Ok-Some-Drill-clause-audited : goal.returns-in-Ok-Some-Drill-clause-audited
returns-in-Ok-Some-Drill-clause-audited g c = λ settings says.
    let drill : SaysDrill (map string_bytes c.args.words.now) c.in-Ok-Some-Drill.count c.in-Ok-Some-Drill.first =
    rw (c.in-Ok-Some-Drill.field-0-is, c.in-Ok-Some-Drill.field-0-0-is) at c.in-Ok-Some-Drill.ensures.says in
    absurd (audit_no_drill (map string_bytes c.args.words.now) settings c.in-Ok-Some-Drill.count c.in-Ok-Some-Drill.first says drill)

pub returns-in-Ok-Some-Drill-clause-ended : goal.returns-in-Ok-Some-Drill-clause-ended
returns-in-Ok-Some-Drill-clause-ended g c = λ zero settings says.
    let drill : SaysDrill (map string_bytes c.args.words.now) c.in-Ok-Some-Drill.count c.in-Ok-Some-Drill.first =
    rw (c.in-Ok-Some-Drill.field-0-is, c.in-Ok-Some-Drill.field-0-0-is) at c.in-Ok-Some-Drill.ensures.says in
    absurd (run_no_drill (map string_bytes c.args.words.now) settings c.in-Ok-Some-Drill.count c.in-Ok-Some-Drill.first says drill)

pub returns-in-Ok-Some-Drill-clause-store : goal.returns-in-Ok-Some-Drill-clause-store
returns-in-Ok-Some-Drill-clause-store g c = λ six settings says.
    let drill : SaysDrill (map string_bytes c.args.words.now) c.in-Ok-Some-Drill.count c.in-Ok-Some-Drill.first =
    rw (c.in-Ok-Some-Drill.field-0-is, c.in-Ok-Some-Drill.field-0-0-is) at c.in-Ok-Some-Drill.ensures.says in
    absurd (run_no_drill (map string_bytes c.args.words.now) settings c.in-Ok-Some-Drill.count c.in-Ok-Some-Drill.first says drill)

pub returns-in-Ok-Some-Drill-clause-sound : goal.returns-in-Ok-Some-Drill-clause-sound
returns-in-Ok-Some-Drill-clause-sound g c = λ tells status settings says.
    let drill : SaysDrill (map string_bytes c.args.words.now) c.in-Ok-Some-Drill.count c.in-Ok-Some-Drill.first =
    rw (c.in-Ok-Some-Drill.field-0-is, c.in-Ok-Some-Drill.field-0-0-is) at c.in-Ok-Some-Drill.ensures.says in
    absurd (run_no_drill (map string_bytes c.args.words.now) settings c.in-Ok-Some-Drill.count c.in-Ok-Some-Drill.first says drill)

pub returns-in-Ok-Some-Drill-clause-formatted : goal.returns-in-Ok-Some-Drill-clause-formatted
returns-in-Ok-Some-Drill-clause-formatted g c = λ tells status settings k says taken slot within.
    let drill : SaysDrill (map string_bytes c.args.words.now) c.in-Ok-Some-Drill.count c.in-Ok-Some-Drill.first =
    rw (c.in-Ok-Some-Drill.field-0-is, c.in-Ok-Some-Drill.field-0-0-is) at c.in-Ok-Some-Drill.ensures.says in
    absurd (run_no_drill (map string_bytes c.args.words.now) settings c.in-Ok-Some-Drill.count c.in-Ok-Some-Drill.first says drill)

pub returns-in-Ok-Some-Drill-clause-contents : goal.returns-in-Ok-Some-Drill-clause-contents
returns-in-Ok-Some-Drill-clause-contents g c = λ tells settings says nothing.
    let drill : SaysDrill (map string_bytes c.args.words.now) c.in-Ok-Some-Drill.count c.in-Ok-Some-Drill.first =
    rw (c.in-Ok-Some-Drill.field-0-is, c.in-Ok-Some-Drill.field-0-0-is) at c.in-Ok-Some-Drill.ensures.says in
    absurd (run_no_drill (map string_bytes c.args.words.now) settings c.in-Ok-Some-Drill.count c.in-Ok-Some-Drill.first says drill)

pub returns-in-Ok-Some-Drill-clause-drew : goal.returns-in-Ok-Some-Drill-clause-drew
returns-in-Ok-Some-Drill-clause-drew g c = λ tells zero settings says nothing.
    let drill : SaysDrill (map string_bytes c.args.words.now) c.in-Ok-Some-Drill.count c.in-Ok-Some-Drill.first =
    rw (c.in-Ok-Some-Drill.field-0-is, c.in-Ok-Some-Drill.field-0-0-is) at c.in-Ok-Some-Drill.ensures.says in
    absurd (run_no_drill (map string_bytes c.args.words.now) settings c.in-Ok-Some-Drill.count c.in-Ok-Some-Drill.first says drill)

pub returns-in-Ok-Some-Drill-clause-flushed : goal.returns-in-Ok-Some-Drill-clause-flushed
returns-in-Ok-Some-Drill-clause-flushed g c = λ tells zero settings k says taken nothing.
    let drill : SaysDrill (map string_bytes c.args.words.now) c.in-Ok-Some-Drill.count c.in-Ok-Some-Drill.first =
    rw (c.in-Ok-Some-Drill.field-0-is, c.in-Ok-Some-Drill.field-0-0-is) at c.in-Ok-Some-Drill.ensures.says in
    absurd (run_no_drill (map string_bytes c.args.words.now) settings c.in-Ok-Some-Drill.count c.in-Ok-Some-Drill.first says drill)

pub returns-in-Ok-Some-Drill-clause-short : goal.returns-in-Ok-Some-Drill-clause-short
returns-in-Ok-Some-Drill-clause-short g c = λ zero settings says script told.
    let drill : SaysDrill (map string_bytes c.args.words.now) c.in-Ok-Some-Drill.count c.in-Ok-Some-Drill.first =
    rw (c.in-Ok-Some-Drill.field-0-is, c.in-Ok-Some-Drill.field-0-0-is) at c.in-Ok-Some-Drill.ensures.says in
    absurd (run_no_drill (map string_bytes c.args.words.now) settings c.in-Ok-Some-Drill.count c.in-Ok-Some-Drill.first says drill)

pub returns-in-Ok-Some-Drill-clause-other_slots : goal.returns-in-Ok-Some-Drill-clause-other_slots
returns-in-Ok-Some-Drill-clause-other_slots g c = λ settings says.
    let drill : SaysDrill (map string_bytes c.args.words.now) c.in-Ok-Some-Drill.count c.in-Ok-Some-Drill.first =
    rw (c.in-Ok-Some-Drill.field-0-is, c.in-Ok-Some-Drill.field-0-0-is) at c.in-Ok-Some-Drill.ensures.says in
    absurd (run_no_drill (map string_bytes c.args.words.now) settings c.in-Ok-Some-Drill.count c.in-Ok-Some-Drill.first says drill)

pub returns-in-Ok-clause-drilled : goal.returns-in-Ok-clause-drilled
returns-in-Ok-clause-drilled g c = λ tells count first k says taken held told ending is.
    let run : SaysRun (map string_bytes c.args.words.now) c.in-Ok-Some-Run.settings = rw (c.in-Ok-Some-Run.field-0-is, c.in-Ok-Some-Run.field-0-0-is) at c.in-Ok-Some-Run.ensures.says in
    absurd (run_no_drill (map string_bytes c.args.words.now) c.in-Ok-Some-Run.settings count first run says)

pub returns-in-Ok-clause-drill_unused : goal.returns-in-Ok-clause-drill_unused
returns-in-Ok-clause-drill_unused g c = λ says.
    let run : SaysRun (map string_bytes c.args.words.now) c.in-Ok-Some-Run.settings = rw (c.in-Ok-Some-Run.field-0-is, c.in-Ok-Some-Run.field-0-0-is) at c.in-Ok-Some-Run.ensures.says in
    absurd (run_no_drill (map string_bytes c.args.words.now) c.in-Ok-Some-Run.settings says.0 says.1 run says.2)

pub returns-in-Err-run_script-clause-drilled : goal.returns-in-Err-run_script-clause-drilled
returns-in-Err-run_script-clause-drilled g c = λ tells count first k says taken held told ending is.
    let run : SaysRun (map string_bytes c.args.words.now) c.in-Ok-Some-Run.settings = rw (c.in-Ok-Some-Run.field-0-is, c.in-Ok-Some-Run.field-0-0-is) at c.in-Ok-Some-Run.ensures.says in
    absurd (run_no_drill (map string_bytes c.args.words.now) c.in-Ok-Some-Run.settings count first run says)

pub returns-in-Err-run_script-clause-drill_unused : goal.returns-in-Err-run_script-clause-drill_unused
returns-in-Err-run_script-clause-drill_unused g c = λ says.
    let run : SaysRun (map string_bytes c.args.words.now) c.in-Ok-Some-Run.settings = rw (c.in-Ok-Some-Run.field-0-is, c.in-Ok-Some-Run.field-0-0-is) at c.in-Ok-Some-Run.ensures.says in
    absurd (run_no_drill (map string_bytes c.args.words.now) c.in-Ok-Some-Run.settings says.0 says.1 run says.2)

pub returns-in-Ok-Some-Check-clause-drilled : goal.returns-in-Ok-Some-Check-clause-drilled
returns-in-Ok-Some-Check-clause-drilled g c = λ tells count first k says taken held told ending is.
    let check : SaysCheck (map string_bytes c.args.words.now) c.in-Ok-Some-Check.settings = rw (c.in-Ok-Some-Check.field-0-is, c.in-Ok-Some-Check.field-0-0-is) at c.in-Ok-Some-Check.ensures.says in
    absurd (check_no_drill (map string_bytes c.args.words.now) c.in-Ok-Some-Check.settings count first check says)

pub returns-in-Ok-Some-Check-clause-drill_unused : goal.returns-in-Ok-Some-Check-clause-drill_unused
returns-in-Ok-Some-Check-clause-drill_unused g c = λ says.
    let check : SaysCheck (map string_bytes c.args.words.now) c.in-Ok-Some-Check.settings = rw (c.in-Ok-Some-Check.field-0-is, c.in-Ok-Some-Check.field-0-0-is) at c.in-Ok-Some-Check.ensures.says in
    absurd (check_no_drill (map string_bytes c.args.words.now) c.in-Ok-Some-Check.settings says.0 says.1 check says.2)

pub returns-in-Ok-Some-Load-clause-drilled : goal.returns-in-Ok-Some-Load-clause-drilled
returns-in-Ok-Some-Load-clause-drilled g c = λ tells count first k says taken held told ending is.
    let load : SaysLoad (map string_bytes c.args.words.now) c.in-Ok-Some-Load.settings = rw (c.in-Ok-Some-Load.field-0-is, c.in-Ok-Some-Load.field-0-0-is) at c.in-Ok-Some-Load.ensures.says in
    absurd (load_no_drill (map string_bytes c.args.words.now) c.in-Ok-Some-Load.settings count first load says)

pub returns-in-Ok-Some-Load-clause-drill_unused : goal.returns-in-Ok-Some-Load-clause-drill_unused
returns-in-Ok-Some-Load-clause-drill_unused g c = λ says.
    let load : SaysLoad (map string_bytes c.args.words.now) c.in-Ok-Some-Load.settings = rw (c.in-Ok-Some-Load.field-0-is, c.in-Ok-Some-Load.field-0-0-is) at c.in-Ok-Some-Load.ensures.says in
    absurd (load_no_drill (map string_bytes c.args.words.now) c.in-Ok-Some-Load.settings says.0 says.1 load says.2)

pub returns-in-Ok-Some-Audit-clause-drilled : goal.returns-in-Ok-Some-Audit-clause-drilled
returns-in-Ok-Some-Audit-clause-drilled g c = λ tells count first k says taken held told ending is.
    let audit : SaysAudit (map string_bytes c.args.words.now) c.in-Ok-Some-Audit.settings = rw (c.in-Ok-Some-Audit.field-0-is, c.in-Ok-Some-Audit.field-0-0-is) at c.in-Ok-Some-Audit.ensures.says in
    absurd (audit_no_drill (map string_bytes c.args.words.now) c.in-Ok-Some-Audit.settings count first audit says)

pub returns-in-Ok-Some-Audit-clause-drill_unused : goal.returns-in-Ok-Some-Audit-clause-drill_unused
returns-in-Ok-Some-Audit-clause-drill_unused g c = λ says.
    let audit : SaysAudit (map string_bytes c.args.words.now) c.in-Ok-Some-Audit.settings = rw (c.in-Ok-Some-Audit.field-0-is, c.in-Ok-Some-Audit.field-0-0-is) at c.in-Ok-Some-Audit.ensures.says in
    absurd (audit_no_drill (map string_bytes c.args.words.now) c.in-Ok-Some-Audit.settings says.0 says.1 audit says.2)

pub returns-in-Err-clause-drilled : goal.returns-in-Err-clause-drilled
returns-in-Err-clause-drilled g c = λ tells count first k says taken held told ending is.
    let outside : Outside = outside_of (g.H.Shelf.fault_count c.args.shelf.now) (g.H.Shelf.disks c.args.shelf.now) (g.H.Shelf.arms c.args.shelf.now) in
    by_status (λ (e : Ending). DrillsTo count first k e outside outside held (g.K.Sink.written c.args.sink.now)) NoMemory ending (sym c.status.ensures ∙ is)
    (unsaid_nothing count first k outside held (g.K.Sink.written c.args.sink.now) taken told)

pub returns-in-Ok-clause-drill_refused : goal.returns-in-Ok-clause-drill_refused
returns-in-Ok-clause-drill_refused g c = λ six count first says.
    let run : SaysRun (map string_bytes c.args.words.now) c.in-Ok-Some-Run.settings = rw (c.in-Ok-Some-Run.field-0-is, c.in-Ok-Some-Run.field-0-0-is) at c.in-Ok-Some-Run.ensures.says in
    absurd (run_no_drill (map string_bytes c.args.words.now) c.in-Ok-Some-Run.settings count first run says)

pub returns-in-Ok-clause-drill_sound : goal.returns-in-Ok-clause-drill_sound
returns-in-Ok-clause-drill_sound g c = λ tells zero says.
    let run : SaysRun (map string_bytes c.args.words.now) c.in-Ok-Some-Run.settings = rw (c.in-Ok-Some-Run.field-0-is, c.in-Ok-Some-Run.field-0-0-is) at c.in-Ok-Some-Run.ensures.says in
    absurd (run_no_drill (map string_bytes c.args.words.now) c.in-Ok-Some-Run.settings says.0 says.1 run says.2)

pub returns-in-Ok-clause-drill_formatted : goal.returns-in-Ok-clause-drill_formatted
returns-in-Ok-clause-drill_formatted g c = λ tells zero says k taken slot within void.
    let run : SaysRun (map string_bytes c.args.words.now) c.in-Ok-Some-Run.settings = rw (c.in-Ok-Some-Run.field-0-is, c.in-Ok-Some-Run.field-0-0-is) at c.in-Ok-Some-Run.ensures.says in
    absurd (run_no_drill (map string_bytes c.args.words.now) c.in-Ok-Some-Run.settings says.0 says.1 run says.2)

pub returns-in-Ok-clause-drill_status : goal.returns-in-Ok-clause-drill_status
returns-in-Ok-clause-drill_status g c = λ says.
    let run : SaysRun (map string_bytes c.args.words.now) c.in-Ok-Some-Run.settings = rw (c.in-Ok-Some-Run.field-0-is, c.in-Ok-Some-Run.field-0-0-is) at c.in-Ok-Some-Run.ensures.says in
    absurd (run_no_drill (map string_bytes c.args.words.now) c.in-Ok-Some-Run.settings says.0 says.1 run says.2)

pub returns-in-Err-run_script-clause-drill_refused : goal.returns-in-Err-run_script-clause-drill_refused
returns-in-Err-run_script-clause-drill_refused g c = λ six count first says.
    let run : SaysRun (map string_bytes c.args.words.now) c.in-Ok-Some-Run.settings = rw (c.in-Ok-Some-Run.field-0-is, c.in-Ok-Some-Run.field-0-0-is) at c.in-Ok-Some-Run.ensures.says in
    absurd (run_no_drill (map string_bytes c.args.words.now) c.in-Ok-Some-Run.settings count first run says)

pub returns-in-Err-run_script-clause-drill_sound : goal.returns-in-Err-run_script-clause-drill_sound
returns-in-Err-run_script-clause-drill_sound g c = λ tells zero says.
    let run : SaysRun (map string_bytes c.args.words.now) c.in-Ok-Some-Run.settings = rw (c.in-Ok-Some-Run.field-0-is, c.in-Ok-Some-Run.field-0-0-is) at c.in-Ok-Some-Run.ensures.says in
    absurd (run_no_drill (map string_bytes c.args.words.now) c.in-Ok-Some-Run.settings says.0 says.1 run says.2)

pub returns-in-Err-run_script-clause-drill_formatted : goal.returns-in-Err-run_script-clause-drill_formatted
returns-in-Err-run_script-clause-drill_formatted g c = λ tells zero says k taken slot within void.
    let run : SaysRun (map string_bytes c.args.words.now) c.in-Ok-Some-Run.settings = rw (c.in-Ok-Some-Run.field-0-is, c.in-Ok-Some-Run.field-0-0-is) at c.in-Ok-Some-Run.ensures.says in
    absurd (run_no_drill (map string_bytes c.args.words.now) c.in-Ok-Some-Run.settings says.0 says.1 run says.2)

pub returns-in-Err-run_script-clause-drill_status : goal.returns-in-Err-run_script-clause-drill_status
returns-in-Err-run_script-clause-drill_status g c = λ says.
    let run : SaysRun (map string_bytes c.args.words.now) c.in-Ok-Some-Run.settings = rw (c.in-Ok-Some-Run.field-0-is, c.in-Ok-Some-Run.field-0-0-is) at c.in-Ok-Some-Run.ensures.says in
    absurd (run_no_drill (map string_bytes c.args.words.now) c.in-Ok-Some-Run.settings says.0 says.1 run says.2)

pub returns-in-Ok-Some-Check-clause-drill_refused : goal.returns-in-Ok-Some-Check-clause-drill_refused
returns-in-Ok-Some-Check-clause-drill_refused g c = λ six count first says.
    let check : SaysCheck (map string_bytes c.args.words.now) c.in-Ok-Some-Check.settings = rw (c.in-Ok-Some-Check.field-0-is, c.in-Ok-Some-Check.field-0-0-is) at c.in-Ok-Some-Check.ensures.says in
    absurd (check_no_drill (map string_bytes c.args.words.now) c.in-Ok-Some-Check.settings count first check says)

pub returns-in-Ok-Some-Check-clause-drill_sound : goal.returns-in-Ok-Some-Check-clause-drill_sound
returns-in-Ok-Some-Check-clause-drill_sound g c = λ tells zero says.
    let check : SaysCheck (map string_bytes c.args.words.now) c.in-Ok-Some-Check.settings = rw (c.in-Ok-Some-Check.field-0-is, c.in-Ok-Some-Check.field-0-0-is) at c.in-Ok-Some-Check.ensures.says in
    absurd (check_no_drill (map string_bytes c.args.words.now) c.in-Ok-Some-Check.settings says.0 says.1 check says.2)

pub returns-in-Ok-Some-Check-clause-drill_formatted : goal.returns-in-Ok-Some-Check-clause-drill_formatted
returns-in-Ok-Some-Check-clause-drill_formatted g c = λ tells zero says k taken slot within void.
    let check : SaysCheck (map string_bytes c.args.words.now) c.in-Ok-Some-Check.settings = rw (c.in-Ok-Some-Check.field-0-is, c.in-Ok-Some-Check.field-0-0-is) at c.in-Ok-Some-Check.ensures.says in
    absurd (check_no_drill (map string_bytes c.args.words.now) c.in-Ok-Some-Check.settings says.0 says.1 check says.2)

pub returns-in-Ok-Some-Check-clause-drill_status : goal.returns-in-Ok-Some-Check-clause-drill_status
returns-in-Ok-Some-Check-clause-drill_status g c = λ says.
    let check : SaysCheck (map string_bytes c.args.words.now) c.in-Ok-Some-Check.settings = rw (c.in-Ok-Some-Check.field-0-is, c.in-Ok-Some-Check.field-0-0-is) at c.in-Ok-Some-Check.ensures.says in
    absurd (check_no_drill (map string_bytes c.args.words.now) c.in-Ok-Some-Check.settings says.0 says.1 check says.2)

pub returns-in-Ok-Some-Load-clause-drill_refused : goal.returns-in-Ok-Some-Load-clause-drill_refused
returns-in-Ok-Some-Load-clause-drill_refused g c = λ six count first says.
    let load : SaysLoad (map string_bytes c.args.words.now) c.in-Ok-Some-Load.settings = rw (c.in-Ok-Some-Load.field-0-is, c.in-Ok-Some-Load.field-0-0-is) at c.in-Ok-Some-Load.ensures.says in
    absurd (load_no_drill (map string_bytes c.args.words.now) c.in-Ok-Some-Load.settings count first load says)

pub returns-in-Ok-Some-Load-clause-drill_sound : goal.returns-in-Ok-Some-Load-clause-drill_sound
returns-in-Ok-Some-Load-clause-drill_sound g c = λ tells zero says.
    let load : SaysLoad (map string_bytes c.args.words.now) c.in-Ok-Some-Load.settings = rw (c.in-Ok-Some-Load.field-0-is, c.in-Ok-Some-Load.field-0-0-is) at c.in-Ok-Some-Load.ensures.says in
    absurd (load_no_drill (map string_bytes c.args.words.now) c.in-Ok-Some-Load.settings says.0 says.1 load says.2)

pub returns-in-Ok-Some-Load-clause-drill_formatted : goal.returns-in-Ok-Some-Load-clause-drill_formatted
returns-in-Ok-Some-Load-clause-drill_formatted g c = λ tells zero says k taken slot within void.
    let load : SaysLoad (map string_bytes c.args.words.now) c.in-Ok-Some-Load.settings = rw (c.in-Ok-Some-Load.field-0-is, c.in-Ok-Some-Load.field-0-0-is) at c.in-Ok-Some-Load.ensures.says in
    absurd (load_no_drill (map string_bytes c.args.words.now) c.in-Ok-Some-Load.settings says.0 says.1 load says.2)

pub returns-in-Ok-Some-Load-clause-drill_status : goal.returns-in-Ok-Some-Load-clause-drill_status
returns-in-Ok-Some-Load-clause-drill_status g c = λ says.
    let load : SaysLoad (map string_bytes c.args.words.now) c.in-Ok-Some-Load.settings = rw (c.in-Ok-Some-Load.field-0-is, c.in-Ok-Some-Load.field-0-0-is) at c.in-Ok-Some-Load.ensures.says in
    absurd (load_no_drill (map string_bytes c.args.words.now) c.in-Ok-Some-Load.settings says.0 says.1 load says.2)

pub returns-in-Ok-Some-Audit-clause-drill_refused : goal.returns-in-Ok-Some-Audit-clause-drill_refused
returns-in-Ok-Some-Audit-clause-drill_refused g c = λ six count first says.
    let audit : SaysAudit (map string_bytes c.args.words.now) c.in-Ok-Some-Audit.settings = rw (c.in-Ok-Some-Audit.field-0-is, c.in-Ok-Some-Audit.field-0-0-is) at c.in-Ok-Some-Audit.ensures.says in
    absurd (audit_no_drill (map string_bytes c.args.words.now) c.in-Ok-Some-Audit.settings count first audit says)

pub returns-in-Ok-Some-Audit-clause-drill_sound : goal.returns-in-Ok-Some-Audit-clause-drill_sound
returns-in-Ok-Some-Audit-clause-drill_sound g c = λ tells zero says.
    let audit : SaysAudit (map string_bytes c.args.words.now) c.in-Ok-Some-Audit.settings = rw (c.in-Ok-Some-Audit.field-0-is, c.in-Ok-Some-Audit.field-0-0-is) at c.in-Ok-Some-Audit.ensures.says in
    absurd (audit_no_drill (map string_bytes c.args.words.now) c.in-Ok-Some-Audit.settings says.0 says.1 audit says.2)

pub returns-in-Ok-Some-Audit-clause-drill_formatted : goal.returns-in-Ok-Some-Audit-clause-drill_formatted
returns-in-Ok-Some-Audit-clause-drill_formatted g c = λ tells zero says k taken slot within void.
    let audit : SaysAudit (map string_bytes c.args.words.now) c.in-Ok-Some-Audit.settings = rw (c.in-Ok-Some-Audit.field-0-is, c.in-Ok-Some-Audit.field-0-0-is) at c.in-Ok-Some-Audit.ensures.says in
    absurd (audit_no_drill (map string_bytes c.args.words.now) c.in-Ok-Some-Audit.settings says.0 says.1 audit says.2)

pub returns-in-Ok-Some-Audit-clause-drill_status : goal.returns-in-Ok-Some-Audit-clause-drill_status
returns-in-Ok-Some-Audit-clause-drill_status g c = λ says.
    let audit : SaysAudit (map string_bytes c.args.words.now) c.in-Ok-Some-Audit.settings = rw (c.in-Ok-Some-Audit.field-0-is, c.in-Ok-Some-Audit.field-0-0-is) at c.in-Ok-Some-Audit.ensures.says in
    absurd (audit_no_drill (map string_bytes c.args.words.now) c.in-Ok-Some-Audit.settings says.0 says.1 audit says.2)

pub returns-in-Ok-Some-Drill-clause-drill_refused : goal.returns-in-Ok-Some-Drill-clause-drill_refused
returns-in-Ok-Some-Drill-clause-drill_refused g c = λ six count first says.
    let drill : SaysDrill (map string_bytes c.args.words.now) c.in-Ok-Some-Drill.count c.in-Ok-Some-Drill.first =
    rw (c.in-Ok-Some-Drill.field-0-is, c.in-Ok-Some-Drill.field-0-0-is) at c.in-Ok-Some-Drill.ensures.says in
    let same = same_drill (map string_bytes c.args.words.now) c.in-Ok-Some-Drill.count c.in-Ok-Some-Drill.first count first drill says in
    let outside : Outside = outside_of (g.H.Shelf.fault_count c.args.shelf.now) (g.H.Shelf.disks c.args.shelf.now) (g.H.Shelf.arms c.args.shelf.now) in
    let given : Outside = outside_of (g.H.Shelf.fault_count c.drill_store.new.shelf) (g.H.Shelf.disks c.drill_store.new.shelf) (g.H.Shelf.arms c.drill_store.new.shelf) in
    let sure : ℕ → Bool = (λ lane. (g.H.Shelf.arms c.args.shelf.now lane).is_sure) in
    let P : ℕ → ℕ → Type 0 = λ n m. RefusedRun g.H.Disk.Disk.Tells n m outside given sure (g.H.Shelf.disks c.args.shelf.now) (g.H.Shelf.disks c.drill_store.new.shelf)
    (g.K.Sink.written c.args.sink.now) (g.K.Sink.written c.drill_store.new.sink) in
    subst (λ (n : ℕ). P n first) same.0 (subst (λ (m : ℕ). P c.in-Ok-Some-Drill.count m) same.1 (c.drill_store.ensures.refused six))

pub returns-in-Ok-Some-Drill-clause-drill_sound : goal.returns-in-Ok-Some-Drill-clause-drill_sound
returns-in-Ok-Some-Drill-clause-drill_sound g c = λ tells zero says. c.drill_store.ensures.sound tells zero

pub returns-in-Ok-Some-Drill-clause-drill_formatted : goal.returns-in-Ok-Some-Drill-clause-drill_formatted
returns-in-Ok-Some-Drill-clause-drill_formatted g c = λ tells zero says. c.drill_store.ensures.formatted tells zero

pub returns-in-Ok-Some-Drill-clause-drill_status : goal.returns-in-Ok-Some-Drill-clause-drill_status
returns-in-Ok-Some-Drill-clause-drill_status g c = λ says. c.drill_store.ensures.status

pub returns-in-Ok-clause-drill_fuses : goal.returns-in-Ok-clause-drill_fuses
returns-in-Ok-clause-drill_fuses g c = λ says.
    let run : SaysRun (map string_bytes c.args.words.now) c.in-Ok-Some-Run.settings = rw (c.in-Ok-Some-Run.field-0-is, c.in-Ok-Some-Run.field-0-0-is) at c.in-Ok-Some-Run.ensures.says in
    absurd (run_no_drill (map string_bytes c.args.words.now) c.in-Ok-Some-Run.settings says.0 says.1 run says.2)

pub returns-in-Err-run_script-clause-drill_fuses : goal.returns-in-Err-run_script-clause-drill_fuses
returns-in-Err-run_script-clause-drill_fuses g c = λ says.
    let run : SaysRun (map string_bytes c.args.words.now) c.in-Ok-Some-Run.settings = rw (c.in-Ok-Some-Run.field-0-is, c.in-Ok-Some-Run.field-0-0-is) at c.in-Ok-Some-Run.ensures.says in
    absurd (run_no_drill (map string_bytes c.args.words.now) c.in-Ok-Some-Run.settings says.0 says.1 run says.2)

pub returns-in-Ok-Some-Check-clause-drill_fuses : goal.returns-in-Ok-Some-Check-clause-drill_fuses
returns-in-Ok-Some-Check-clause-drill_fuses g c = λ says.
    let check : SaysCheck (map string_bytes c.args.words.now) c.in-Ok-Some-Check.settings = rw (c.in-Ok-Some-Check.field-0-is, c.in-Ok-Some-Check.field-0-0-is) at c.in-Ok-Some-Check.ensures.says in
    absurd (check_no_drill (map string_bytes c.args.words.now) c.in-Ok-Some-Check.settings says.0 says.1 check says.2)

pub returns-in-Ok-Some-Load-clause-drill_fuses : goal.returns-in-Ok-Some-Load-clause-drill_fuses
returns-in-Ok-Some-Load-clause-drill_fuses g c = λ says.
    let load : SaysLoad (map string_bytes c.args.words.now) c.in-Ok-Some-Load.settings = rw (c.in-Ok-Some-Load.field-0-is, c.in-Ok-Some-Load.field-0-0-is) at c.in-Ok-Some-Load.ensures.says in
    absurd (load_no_drill (map string_bytes c.args.words.now) c.in-Ok-Some-Load.settings says.0 says.1 load says.2)

pub returns-in-Ok-Some-Audit-clause-drill_fuses : goal.returns-in-Ok-Some-Audit-clause-drill_fuses
returns-in-Ok-Some-Audit-clause-drill_fuses g c = λ says.
    let audit : SaysAudit (map string_bytes c.args.words.now) c.in-Ok-Some-Audit.settings = rw (c.in-Ok-Some-Audit.field-0-is, c.in-Ok-Some-Audit.field-0-0-is) at c.in-Ok-Some-Audit.ensures.says in
    absurd (audit_no_drill (map string_bytes c.args.words.now) c.in-Ok-Some-Audit.settings says.0 says.1 audit says.2)

pub returns-in-Ok-Some-Drill-clause-drill_fuses : goal.returns-in-Ok-Some-Drill-clause-drill_fuses
returns-in-Ok-Some-Drill-clause-drill_fuses g c = λ says. c.drill_store.ensures.unfused

-- how many fuses were set

pub returns-in-Ok-clause-fuses : goal.returns-in-Ok-clause-fuses
returns-in-Ok-clause-fuses g c = shelf_keeps (disk_count c.in-Ok-Some-Run.settings) (g.H.Shelf.disks c.args.shelf.now) (g.H.Shelf.disks c.run_script.new.shelf)
    c.in-Ok.ensures.fuses c.in-Ok.ensures.other_slots

pub returns-in-Ok-clause-unfused : goal.returns-in-Ok-clause-unfused
returns-in-Ok-clause-unfused g c = λ asks. shelf_same (disk_count c.in-Ok-Some-Run.settings) (g.H.Shelf.disks c.args.shelf.now) (g.H.Shelf.disks c.run_script.new.shelf)
    (c.in-Ok.ensures.unfused asks) c.in-Ok.ensures.other_slots

pub returns-in-Err-run_script-clause-fuses : goal.returns-in-Err-run_script-clause-fuses
returns-in-Err-run_script-clause-fuses g c = shelf_keeps (disk_count c.in-Ok-Some-Run.settings) (g.H.Shelf.disks c.args.shelf.now) (g.H.Shelf.disks c.run_script.new.shelf)
    c.in-Err-run_script.ensures.fuses c.in-Err-run_script.ensures.other_slots

pub returns-in-Err-run_script-clause-unfused : goal.returns-in-Err-run_script-clause-unfused
returns-in-Err-run_script-clause-unfused g c = λ asks. shelf_same (disk_count c.in-Ok-Some-Run.settings) (g.H.Shelf.disks c.args.shelf.now) (g.H.Shelf.disks c.run_script.new.shelf)
    (c.in-Err-run_script.ensures.unfused asks) c.in-Err-run_script.ensures.other_slots

pub returns-in-Ok-Some-Check-clause-fuses : goal.returns-in-Ok-Some-Check-clause-fuses
returns-in-Ok-Some-Check-clause-fuses g c = λ slot.
    same_kept (g.H.Shelf.disks c.args.shelf.now slot).fuse_count (g.H.Shelf.disks c.check_store.new.shelf slot).fuse_count
    (shelf_same (disk_count c.in-Ok-Some-Check.settings) (g.H.Shelf.disks c.args.shelf.now) (g.H.Shelf.disks c.check_store.new.shelf)
    (λ slot within. (c.check_store.ensures.unchanged slot within).fuses)
    c.check_store.ensures.other_slots slot)

pub returns-in-Ok-Some-Check-clause-unfused : goal.returns-in-Ok-Some-Check-clause-unfused
returns-in-Ok-Some-Check-clause-unfused g c = λ asks.
    shelf_same (disk_count c.in-Ok-Some-Check.settings) (g.H.Shelf.disks c.args.shelf.now) (g.H.Shelf.disks c.check_store.new.shelf)
    (λ slot within. (c.check_store.ensures.unchanged slot within).fuses)
    c.check_store.ensures.other_slots

pub returns-in-Ok-Some-Load-clause-fuses : goal.returns-in-Ok-Some-Load-clause-fuses
returns-in-Ok-Some-Load-clause-fuses g c = λ slot.
    same_kept (g.H.Shelf.disks c.args.shelf.now slot).fuse_count (g.H.Shelf.disks c.load_puts.new.shelf slot).fuse_count
    (shelf_same (disk_count c.in-Ok-Some-Load.settings) (g.H.Shelf.disks c.args.shelf.now) (g.H.Shelf.disks c.load_puts.new.shelf)
    (λ slot within. (c.load_puts.ensures.loaded.counts slot within).fuses_are)
    c.load_puts.ensures.loaded.other_slots slot)

pub returns-in-Ok-Some-Load-clause-unfused : goal.returns-in-Ok-Some-Load-clause-unfused
returns-in-Ok-Some-Load-clause-unfused g c = λ asks.
    shelf_same (disk_count c.in-Ok-Some-Load.settings) (g.H.Shelf.disks c.args.shelf.now) (g.H.Shelf.disks c.load_puts.new.shelf)
    (λ slot within. (c.load_puts.ensures.loaded.counts slot within).fuses_are)
    c.load_puts.ensures.loaded.other_slots

pub returns-in-Ok-Some-Drill-clause-fuses : goal.returns-in-Ok-Some-Drill-clause-fuses
returns-in-Ok-Some-Drill-clause-fuses g c = λ slot.
    same_kept (g.H.Shelf.disks c.args.shelf.now slot).fuse_count (g.H.Shelf.disks c.drill_store.new.shelf slot).fuse_count
    (shelf_same (disk_count day_settings) (g.H.Shelf.disks c.args.shelf.now) (g.H.Shelf.disks c.drill_store.new.shelf) c.drill_store.ensures.unfused
    c.drill_store.ensures.other_slots slot)

pub returns-in-Ok-Some-Drill-clause-unfused : goal.returns-in-Ok-Some-Drill-clause-unfused
returns-in-Ok-Some-Drill-clause-unfused g c = λ asks.
    shelf_same (disk_count day_settings) (g.H.Shelf.disks c.args.shelf.now) (g.H.Shelf.disks c.drill_store.new.shelf) c.drill_store.ensures.unfused
    c.drill_store.ensures.other_slots

pub returns-in-Ok-Some-Audit-clause-fuses : goal.returns-in-Ok-Some-Audit-clause-fuses
returns-in-Ok-Some-Audit-clause-fuses g c = λ slot. same_kept (g.H.Shelf.disks c.args.shelf.now slot).fuse_count (g.H.Shelf.disks c.args.shelf.now slot).fuse_count refl

pub returns-in-Err-clause-fuses : goal.returns-in-Err-clause-fuses
returns-in-Err-clause-fuses g c = λ slot. same_kept (g.H.Shelf.disks c.args.shelf.now slot).fuse_count (g.H.Shelf.disks c.args.shelf.now slot).fuse_count refl
