use Rattle.std.proofs.Common.{◌≡◌, ◌<◌, ◌∙◌, ◌++◌, inl, List, ℕ, [], length, Err, ap, refl, sym, subst}
use Rattle.std.specs.Prelude.{Bool, Result}
use Rattle.std.proofs.lemmas.Result.{err_from_is_err_and}
use Rattle.hay_needle.specs.declared.settings.Settings.{Settings}
use Rattle.hay_legal.specs.Stands.{Outside}
use Rattle.hay_legal.specs.Statuses.Ending.{ReadAll}
use Rattle.hay_disk.specs.Shelf.{HeldDisk}
use Rattle.hay_legal.specs.Known.{disk_count}
use Rattle.hay_cluster.specs.Outside.{IsUndamaged, outside_of, read_of}
use Rattle.hay_drill.specs.Script.{drill_script}
use Rattle.hay_run.specs.declared.stops.Stop.{Stop}
use Rattle.hay_run.specs.declared.stops.Stop.TheVariants as stop
use Rattle.hay_run.specs.Causing.{ending_in}
use Rattle.hay_run.specs.Drills.{DrillsTo}
use Rattle.hay_run.specs.Held.{script_left, transcript_written}
use Rattle.hay_run.specs.Runs.{IsTaken}
use Rattle.hay_run.specs.Stops.{ending_of}
use Rattle.hay_run.proofs.LastLines.{held_causes, refused_run}
use Rattle.hay_run.proofs.Summed.{held_run, never_long, never_rose, on_ok, stop_told, summary_told, unsaid_nothing}
use Rattle.hay_run.proofs.Unfused.{drill_unfused}
use Rattle.hay_run.proofs.program.run_drill.Goals as goal

pub returns-in_err-drill_script-clause-drilled : goal.returns-in_err-drill_script-clause-drilled
returns-in_err-drill_script-clause-drilled g c = λ tells k taken held told.
    let outside : Outside = outside_of (g.H.Shelf.fault_count c.args.shelf.now) (g.H.Shelf.disks c.args.shelf.now) (g.H.Shelf.arms c.args.shelf.now) in
    let p = err_from_is_err_and c.from_residual.result c.from_residual.ensures.1 in
    let wanting : Result (Unit {0}) Stop = Err stop.NoMemory in
    let same : c.from_residual.result ≡ wanting = cc (p.1, p.2) in
    let P : Result (Unit {0}) Stop → Type 0 = λ r. DrillsTo c.args.count c.args.first k (ending_in r) outside outside held (g.K.Sink.written c.args.sink.now) in
    subst P (sym same) (unsaid_nothing c.args.count c.args.first k outside held (g.K.Sink.written c.args.sink.now) taken told)

pub returns-in-Ok-clause-drilled : goal.returns-in-Ok-clause-drilled
returns-in-Ok-clause-drilled g c = λ tells k taken held told.
    let outside : Outside = outside_of (g.H.Shelf.fault_count c.args.shelf.now) (g.H.Shelf.disks c.args.shelf.now) (g.H.Shelf.arms c.args.shelf.now) in
    let given : Outside = outside_of (g.H.Shelf.fault_count c.run_script.new.shelf) (g.H.Shelf.disks c.run_script.new.shelf) (g.H.Shelf.arms c.run_script.new.shelf) in
    let script : List ℕ = c.drill_script.new.out.items in
    let is : script ≡ drill_script c.args.count c.args.first = c.in_ok-drill_script.ensures.ok ∙ ap (λ (l : List ℕ). l ++ drill_script c.args.count c.args.first) c.new-script.ensures.items in
    let ran = c.in-Ok.ensures.ran tells k (subst (λ (s : Settings). IsTaken s outside k) (sym c.drill_settings-settings.ensures) taken) script [] c.new-source.ensures c.new-transcript.ensures in
    summary_told c.args.count c.args.first k (script_left c.run_script.new.source) outside given held c.bytes.result.now (g.K.Sink.written c.write_summary.new.sink)
    (g.K.Sink.written c.args.sink.now) told c.write_summary.result
    (held_run c.args.count c.args.first k (script_left c.run_script.new.source) outside given c.bytes.result.now ReadAll c.drill_settings-settings.result script
    (transcript_written c.run_script.new.sink)
    c.drill_settings-settings.ensures is c.bytes.ensures ran)
    (record {
      whole = c.write_summary.ensures.wrote;
      part = c.write_summary.ensures.part;
      none = c.write_summary.ensures.none;
      stops = c.write_summary.ensures.stops;
    })

pub returns-clause-drilled : goal.returns-clause-drilled
returns-clause-drilled g c = λ tells k taken held told.
    let outside : Outside = outside_of (g.H.Shelf.fault_count c.args.shelf.now) (g.H.Shelf.disks c.args.shelf.now) (g.H.Shelf.arms c.args.shelf.now) in
    let given : Outside = outside_of (g.H.Shelf.fault_count c.run_script.new.shelf) (g.H.Shelf.disks c.run_script.new.shelf) (g.H.Shelf.arms c.run_script.new.shelf) in
    let script : List ℕ = c.drill_script.new.out.items in
    let is : script ≡ drill_script c.args.count c.args.first = c.in_ok-drill_script.ensures.ok ∙ ap (λ (l : List ℕ). l ++ drill_script c.args.count c.args.first) c.new-script.ensures.items in
    let ran =
    c.in-Err.ensures.stopped tells c.in-Err.stop refl k (subst (λ (s : Settings). IsTaken s outside k) (sym c.drill_settings-settings.ensures) taken) script []
    c.new-source.ensures c.new-transcript.ensures in
    stop_told c.args.count c.args.first k (script_left c.run_script.new.source) outside given held c.bytes-in-Err.result.now (g.K.Sink.written c.tell_stop.new.sink)
    (g.K.Sink.written c.args.sink.now) told c.in-Err.stop c.tell_stop.result
    (held_run c.args.count c.args.first k (script_left c.run_script.new.source) outside given c.bytes-in-Err.result.now (ending_of c.in-Err.stop) c.drill_settings-settings.result
    script (transcript_written c.run_script.new.sink)
    c.drill_settings-settings.ensures is c.bytes-in-Err.ensures ran)
    (λ e. never_rose (c.in-Err.ensures.source (ap (λ (s : Stop). Err s) e)))
    (λ e. let over = c.in-Err.ensures.long (ap (λ (s : Stop). Err s) e) script c.new-source.ensures in never_long c.args.count c.args.first (length over.0) script c.requires.few is over.2)
    c.tell_stop.ensures.told

pub returns-clause-refused : goal.returns-clause-refused
returns-clause-refused g c = λ is.
    let disks : ℕ → HeldDisk = g.H.Shelf.disks c.args.shelf.now in
    let disks' : ℕ → HeldDisk = g.H.Shelf.disks c.run_script.new.shelf in
    let sure : ℕ → Bool = (λ lane. (g.H.Shelf.arms c.args.shelf.now lane).is_sure) in
    let outside : Outside = outside_of (g.H.Shelf.fault_count c.args.shelf.now) (g.H.Shelf.disks c.args.shelf.now) (g.H.Shelf.arms c.args.shelf.now) in
    let given : Outside = outside_of (g.H.Shelf.fault_count c.run_script.new.shelf) (g.H.Shelf.disks c.run_script.new.shelf) (g.H.Shelf.arms c.run_script.new.shelf) in
    let script : List ℕ = c.drill_script.new.out.items in
    let script_is : script ≡ drill_script c.args.count c.args.first = c.in_ok-drill_script.ensures.ok ∙ ap (λ (l : List ℕ). l ++ drill_script c.args.count c.args.first) c.new-script.ensures.items in
    let stored : c.tell_stop.result ≡ stop.Store = cc is in
    refused_run g.H.Disk.Disk.Tells c.args.count c.args.first (script_left c.run_script.new.source) outside given sure disks disks' c.bytes-in-Err.result.now
    (g.K.Sink.written c.args.sink.now) (g.K.Sink.written c.tell_stop.new.sink) c.in-Err.stop c.tell_stop.result
    (held_causes g.H.Disk.Disk.Tells c.args.count c.args.first (script_left c.run_script.new.source) outside given sure disks disks' c.bytes-in-Err.result.now c.in-Err.stop
    c.drill_settings-settings.result script (transcript_written c.run_script.new.sink) c.drill_settings-settings.ensures script_is c.bytes-in-Err.ensures
    (c.in-Err.ensures.caused script [] c.new-source.ensures c.new-transcript.ensures))
    c.tell_stop.ensures.told stored

pub returns-in-Ok-clause-sound : goal.returns-in-Ok-clause-sound
returns-in-Ok-clause-sound g c = λ tells.
    on_ok c.write_summary.result
    (subst (λ (s : Settings). IsUndamaged s (λ slot. read_of (g.H.Shelf.disks c.args.shelf.now slot))) c.drill_settings-settings.ensures (c.in-Ok.ensures.sound tells (inl tt)))

pub returns-in-Ok-clause-formatted : goal.returns-in-Ok-clause-formatted
returns-in-Ok-clause-formatted g c = λ tells.
    let outside : Outside = outside_of (g.H.Shelf.fault_count c.args.shelf.now) (g.H.Shelf.disks c.args.shelf.now) (g.H.Shelf.arms c.args.shelf.now) in
    on_ok c.write_summary.result
    (λ k taken slot within. c.in-Ok.ensures.formatted tells (inl tt) k (subst (λ (s : Settings). IsTaken s outside k) (sym c.drill_settings-settings.ensures) taken) slot
    (subst (λ (s : Settings). slot < disk_count s) (sym c.drill_settings-settings.ensures) within))

pub returns-in-Ok-clause-unfused : goal.returns-in-Ok-clause-unfused
returns-in-Ok-clause-unfused g c =
    let disks : ℕ → HeldDisk = g.H.Shelf.disks c.args.shelf.now in
    let disks' : ℕ → HeldDisk = g.H.Shelf.disks c.run_script.new.shelf in
    let sure : ℕ → Bool = (λ lane. (g.H.Shelf.arms c.args.shelf.now lane).is_sure) in
    let outside : Outside = outside_of (g.H.Shelf.fault_count c.args.shelf.now) (g.H.Shelf.disks c.args.shelf.now) (g.H.Shelf.arms c.args.shelf.now) in
    let given : Outside = outside_of (g.H.Shelf.fault_count c.run_script.new.shelf) (g.H.Shelf.disks c.run_script.new.shelf) (g.H.Shelf.arms c.run_script.new.shelf) in
    let script : List ℕ = c.drill_script.new.out.items in
    let script_is : script ≡ drill_script c.args.count c.args.first = c.in_ok-drill_script.ensures.ok ∙ ap (λ (l : List ℕ). l ++ drill_script c.args.count c.args.first) c.new-script.ensures.items in
    drill_unfused g.H.Disk.Disk.Tells c.args.count c.args.first ReadAll (script_left c.run_script.new.source) outside given sure disks disks' []
    (transcript_written c.run_script.new.sink) c.drill_settings-settings.result script c.drill_settings-settings.ensures script_is
    (c.in-Ok.ensures.caused script [] c.new-source.ensures c.new-transcript.ensures)

pub returns-clause-unfused : goal.returns-clause-unfused
returns-clause-unfused g c =
    let disks : ℕ → HeldDisk = g.H.Shelf.disks c.args.shelf.now in
    let disks' : ℕ → HeldDisk = g.H.Shelf.disks c.run_script.new.shelf in
    let sure : ℕ → Bool = (λ lane. (g.H.Shelf.arms c.args.shelf.now lane).is_sure) in
    let outside : Outside = outside_of (g.H.Shelf.fault_count c.args.shelf.now) (g.H.Shelf.disks c.args.shelf.now) (g.H.Shelf.arms c.args.shelf.now) in
    let given : Outside = outside_of (g.H.Shelf.fault_count c.run_script.new.shelf) (g.H.Shelf.disks c.run_script.new.shelf) (g.H.Shelf.arms c.run_script.new.shelf) in
    let script : List ℕ = c.drill_script.new.out.items in
    let script_is : script ≡ drill_script c.args.count c.args.first = c.in_ok-drill_script.ensures.ok ∙ ap (λ (l : List ℕ). l ++ drill_script c.args.count c.args.first) c.new-script.ensures.items in
    drill_unfused g.H.Disk.Disk.Tells c.args.count c.args.first (ending_of c.in-Err.stop) (script_left c.run_script.new.source) outside given sure disks disks' []
    (transcript_written c.run_script.new.sink) c.drill_settings-settings.result script c.drill_settings-settings.ensures script_is
    (c.in-Err.ensures.caused script [] c.new-source.ensures c.new-transcript.ensures)
