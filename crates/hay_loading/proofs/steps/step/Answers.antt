use Rattle.std.proofs.Common.{◌≡◌, ℕ, [], Some, None, arith}
use Rattle.std.specs.Prelude.{Option, Result, Err}
use Rattle.std.proofs.lemmas.Result.{err_from_is_err_and}
use Rattle.hay_lines.specs.Said.{SaysNext}
use Rattle.hay_lines.specs.Stream.{rest_of}
use Rattle.hay_script.specs.declared.Line.{Line}
use Rattle.hay_batch.proofs.StoredLaws.{stands_left}
use Rattle.hay_load.specs.Gathering.{line_step}
use Rattle.hay_load.specs.Loads.{held_of}
use Rattle.hay_loading.specs.declared.stops.Stop.{Stop}
use Rattle.hay_loading.proofs.Reading.{end_makes, line_makes, line_next, none_next, said_end}
use Rattle.hay_loading.proofs.Taking.{count_line, told_none}
use Rattle.hay_loading.proofs.Telling.{read_stops, told_stop}
use Rattle.hay_loading.proofs.Whole.{line_broke, line_within, none_within, read_broke, whole_line, whole_over}
use Rattle.hay_loading.proofs.steps.step.Goals as goal

-- NO LINE WAS READ

pub returns-in_err-line-clause-stopped : goal.returns-in_err-line-clause-stopped
returns-in_err-line-clause-stopped g c = λ why is.
    let wrong : Result ℕ Stop = Err c.in_err-line.field-0.0 in
    let stop_is : wrong ≡ Err why = (let p = err_from_is_err_and c.from_residual.result c.from_residual.ensures.1 in cc (p.1, p.2)) in
    let asked : Result (Option Line) Stop = Err why in
    let same : c.next_said.result ≡ asked = cc (c.in_err-line.was, stop_is) in
    let load = c.args.load.now in
    record {
      groups = [];
      broke = read_broke load.store.settings c.args.number (held_of load.held) c.next_said.result why (rest_of (g.S.Source.left c.args.source.now) c.args.script.now)
          (g.S.Source.left c.next_said.new.source) same c.next_said.ensures.stops c.next_said.ensures.failed
          (λ memory. none_within load.store.settings c.args.number (held_of load.held) (rest_of (g.S.Source.left c.args.source.now) c.args.script.now)
          (g.S.Source.left c.next_said.new.source) c.next_said.new.script (c.next_said.ensures.memory memory))
          c.next_said.ensures.over;
      next = none_next load.store.settings c.args.number (held_of load.held) (rest_of (g.S.Source.left c.args.source.now) c.args.script.now);
      one = omega arith;
      stops = read_stops g.D.Disk.Tells g.D.Disk.files g.D.Disk.fault_count load.store (g.K.Sink.written c.args.sink.now) c.next_said.result why same c.next_said.ensures.stops
          (λ tells s image stands may. stands_left g.D.Disk.files s load.store image c.requires.loading.shape stands may);
    }

pub returns-in_default-clause-takes : goal.returns-in_default-clause-takes
returns-in_default-clause-takes g c =
    let load = c.args.load.now in
    record {
      groups = [];
      whole = whole_over load.store.settings c.args.number (held_of load.held) (rest_of (g.S.Source.left c.args.source.now) c.args.script.now)
          (rest_of (g.S.Source.left c.next_said.new.source) c.next_said.new.script) c.next_said.new.script.ended
          (rw c.in_default.is at c.in_ok-line.ensures.said);
      makes = end_makes load.store.settings c.args.number (held_of load.held) (rest_of (g.S.Source.left c.args.source.now) c.args.script.now)
          (rest_of (g.S.Source.left c.next_said.new.source) c.next_said.new.script) c.next_said.new.script.ended
          (rw c.in_default.is at c.in_ok-line.ensures.said);
      told = told_none g.D.Disk.Tells g.D.Disk.files load.store (g.K.Sink.written c.args.sink.now);
    }

pub returns-in_default-clause-at_end : goal.returns-in_default-clause-at_end
returns-in_default-clause-at_end g c = λ met.
    said_end None (rest_of (g.S.Source.left c.args.source.now) c.args.script.now) (rest_of (g.S.Source.left c.next_said.new.source) c.next_said.new.script) c.next_said.new.script.ended
    (rw c.in_default.is at c.in_ok-line.ensures.said) met

-- A LINE WAS

pub returns-in_err-take_line-clause-stopped : goal.returns-in_err-take_line-clause-stopped
returns-in_err-take_line-clause-stopped g c = λ why is.
    let wrong : Result ℕ Stop = Err c.in_err-take_line.field-0.0 in
    let stop_is : wrong ≡ Err why = (let p = err_from_is_err_and c.from_residual-in_err-take_line.result c.from_residual-in_err-take_line.ensures.1 in cc (p.1, p.2)) in
    let told : Result (Unit {0}) Stop = Err why in
    let same : c.take_line.result ≡ told = cc (c.in_err-take_line.was, stop_is) in
    let load = c.args.load.now in
    let before = rest_of (g.S.Source.left c.args.source.now) c.args.script.now in
    let after = rest_of (g.S.Source.left c.next_said.new.source) c.next_said.new.script in
    let says : SaysNext None (Some c.in-Some.line) before after c.next_said.new.script.ended = rw c.in-Some.is at c.in_ok-line.ensures.said in
    record {
      groups = (line_step load.store.settings c.args.number (held_of load.held) c.in-Some.line).groups;
      broke = line_broke load.store.settings c.args.number (held_of load.held) (line_step load.store.settings c.args.number (held_of load.held) c.in-Some.line).groups why before
          (g.S.Source.left c.next_said.new.source) (told_stop c.take_line.result why same c.take_line.ensures.stops)
          (line_within load.store.settings c.args.number (held_of load.held) before (g.S.Source.left c.next_said.new.source) c.next_said.new.script c.in-Some.line c.next_said.new.script.ended says);
      next = line_next load.store.settings c.args.number (held_of load.held) c.in-Some.line before after c.next_said.new.script.ended says;
      one = count_line load.store.settings c.args.number (held_of load.held) c.in-Some.line;
      stops = c.take_line.ensures.stopped why same;
    }

pub returns-clause-takes : goal.returns-clause-takes
returns-clause-takes g c =
    let load = c.args.load.now in
    let before = rest_of (g.S.Source.left c.args.source.now) c.args.script.now in
    let after = rest_of (g.S.Source.left c.next_said.new.source) c.next_said.new.script in
    let says : SaysNext None (Some c.in-Some.line) before after c.next_said.new.script.ended = rw c.in-Some.is at c.in_ok-line.ensures.said in
    record {
      groups = (line_step load.store.settings c.args.number (held_of load.held) c.in-Some.line).groups;
      whole = whole_line load.store.settings c.args.number (held_of load.held) c.in-Some.line (held_of c.take_line.new.load.held) before after c.next_said.new.script.ended says
          c.in_ok-take_line.ensures.held;
      makes = line_makes load.store.settings c.args.number (held_of load.held) c.in-Some.line before after c.next_said.new.script.ended (held_of c.take_line.new.load.held) says
          c.in_ok-take_line.ensures.held;
      told = c.in_ok-take_line.ensures.told;
    }

pub returns-clause-at_end : goal.returns-clause-at_end
returns-clause-at_end g c = λ met.
    let before = rest_of (g.S.Source.left c.args.source.now) c.args.script.now in
    let after = rest_of (g.S.Source.left c.next_said.new.source) c.next_said.new.script in
    said_end (Some c.in-Some.line) before after c.next_said.new.script.ended (rw c.in-Some.is at c.in_ok-line.ensures.said) met
