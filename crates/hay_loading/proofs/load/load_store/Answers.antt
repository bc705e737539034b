use Rattle.std.proofs.Common.{◌≢◌, ◌∙◌, inl, inr, refl, sym, ap}
use Rattle.hay_loading.proofs.Statuses.{input_by, is_status, long_by, read_by, stopped, to_all, to_stop}
use Rattle.hay_loading.proofs.load.load_store.Goals as goal

pub returns-in-Ok-clause-loaded : goal.returns-in-Ok-clause-loaded
returns-in-Ok-clause-loaded g c = λ script told.
    to_all g.H.Disk.Disk.Tells c.args.settings script (g.H.Shelf.disks c.args.shelf.now) (g.H.Shelf.disks c.load_headed.new.shelf) (g.H.Shelf.fault_count c.args.shelf.now)
    (g.H.Shelf.fault_count c.load_headed.new.shelf)
    (g.K.Sink.written c.args.sink.now) (g.K.Sink.written c.load_headed.new.sink) (g.S.Source.left c.load_headed.new.source) (c.in-Ok.ensures.ends script told)

pub returns-in-Err-clause-loaded : goal.returns-in-Err-clause-loaded
returns-in-Err-clause-loaded g c = λ script told.
    to_stop g.H.Disk.Disk.Tells c.args.settings script (g.H.Shelf.disks c.args.shelf.now) (g.H.Shelf.disks c.load_headed.new.shelf) (g.H.Shelf.fault_count c.args.shelf.now)
    (g.H.Shelf.fault_count c.load_headed.new.shelf)
    (g.K.Sink.written c.args.sink.now) (g.K.Sink.written c.load_headed.new.sink) (g.S.Source.left c.load_headed.new.source) c.in-Err.stop c.status.result c.status.ensures
    (c.in-Err.ensures.ends script told)

pub returns-in-Err-clause-status : goal.returns-in-Err-clause-status
returns-in-Err-clause-status g c = is_status c.in-Err.stop c.status.result c.status.ensures

pub returns-in-Err-clause-halts : goal.returns-in-Err-clause-halts
returns-in-Err-clause-halts g c = λ four. c.in-Err.ensures.halts (ap stopped (input_by c.in-Err.stop (sym c.status.ensures ∙ four)))

pub returns-in-Err-clause-halts_over : goal.returns-in-Err-clause-halts_over
returns-in-Err-clause-halts_over g c = λ seven. c.in-Err.ensures.halts_over (ap stopped (long_by c.in-Err.stop (sym c.status.ensures ∙ seven)))

pub returns-in-Ok-clause-sound : goal.returns-in-Ok-clause-sound
returns-in-Ok-clause-sound g c = λ tells status. c.in-Ok.ensures.sound tells (inl refl)

pub returns-in-Err-clause-sound : goal.returns-in-Err-clause-sound
returns-in-Err-clause-sound g c =
    λ tells status. c.in-Err.ensures.sound tells (inr (read_by (g.S.Source.left c.load_headed.new.source ≢ g.S.Source.left c.args.source.now) c.in-Err.stop c.status.result c.status.ensures status))
