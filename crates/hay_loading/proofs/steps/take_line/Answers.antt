use Rattle.std.proofs.Common.{ap}
use Rattle.hay_load.specs.Gathering.{line_step}
use Rattle.hay_load.specs.Loads.{held_of}
use Rattle.hay_loading.proofs.Telling.{stops_in, told_all}
use Rattle.hay_loading.proofs.steps.take_line.Goals as goal

pub returns-clause-told : goal.returns-clause-told
returns-clause-told g c =
    told_all g.D.Disk.Tells g.D.Disk.files g.D.Disk.fault_count (line_step c.args.load.now.store.settings c.args.number (held_of c.args.load.now.held) c.args.line).groups
    c.args.load.now.store c.take-told.new.self.store
    (g.K.Sink.written c.args.sink.now) (g.K.Sink.written c.write_told.new.sink) c.take-told.result c.new-text.result.items c.take-told.new.out.items c.as_slice.result.now
    c.new-text.ensures.items c.as_slice.ensures.value c.take-told.ensures.loads c.write_told.result c.write_told.ensures.ok

pub returns-clause-stopped : goal.returns-clause-stopped
returns-clause-stopped g c = λ why is.
    stops_in g.D.Disk.Tells g.D.Disk.files g.D.Disk.fault_count (line_step c.args.load.now.store.settings c.args.number (held_of c.args.load.now.held) c.args.line).groups
    c.args.load.now.store c.take-told.new.self.store
    (g.K.Sink.written c.args.sink.now) (g.K.Sink.written c.write_told.new.sink) c.take-told.result c.new-text.result.items c.take-told.new.out.items c.as_slice.result.now
    c.new-text.ensures.items c.as_slice.ensures.value c.take-told.ensures.loads c.take-told.ensures.failed c.take-told.ensures.left c.write_told.result
    c.write_told.ensures.store (λ e. ap g.K.Sink.written (c.write_told.ensures.memory e).1) c.write_told.ensures.output c.write_told.ensures.stops why is
