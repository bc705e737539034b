use Rattle.std.proofs.Common.{◌≡◌, ◌≤◌, [], List, length, Some, refl, sym, ◌∙◌, arith, lit≤, ℕ}
use Rattle.std.specs.Prelude.{Result, Err, IsErrOf}
use Rattle.std.proofs.lemmas.Result.{err_from_is_err_and}
use Rattle.hay_lines.specs.Stream.{rest_of, Accounts, IsReadToEnd}
use Rattle.hay_lines.proofs.Taking.{accounts_same, accounts_more}
use Rattle.hay_batch.proofs.StoreLaws.{on_ok_more}
use Rattle.hay_disk.specs.Streams.{Wrote}
use Rattle.hay_script.specs.declared.words.TheConstants.{MAX_SCRIPT}
use Rattle.hay_load.specs.Gathering.{closed}
use Rattle.hay_load.specs.Loads.{held_of}
use Rattle.hay_loading.specs.declared.stops.Stop.{Stop}
use Rattle.hay_loading.specs.Lines.{ServesAll, Told}
use Rattle.hay_loading.proofs.Reading.{makes_none, read_to_end, short_script}
use Rattle.hay_loading.proofs.Serving.{counts_more, counts_same, serves_all, takes_more, until_end, until_line}
use Rattle.hay_loading.proofs.Taking.{told_none}
use Rattle.hay_loading.proofs.Telling.{on_ok_always, told_stop}
use Rattle.hay_loading.proofs.Whole.{whole_none}
use Rattle.hay_loading.proofs.Sinks.{appends_more, appends_nothing}
use Rattle.hay_loading.proofs.serve.serve.Goals as goal

pub lines-init : goal.lines-init
lines-init g c = record {
  unmet = c.new-script.ensures.ended;
  few = rw (c.new-script.ensures.bytes, c.new-script.ensures.taken, c.new-script.ensures.ended) (lit≤ tt);
  loading = c.requires.loading;
  same = refl;
  takes = record {
    groups = [];
    whole = λ unmet. whole_none c.args.load.now.store.settings 1 (held_of c.args.load.now.held) (g.S.Source.left c.args.source.now) c.new-script.result c.new-script.ensures.bytes;
    makes = makes_none c.args.load.now.store.settings 1 (held_of c.args.load.now.held) (g.S.Source.left c.args.source.now) c.new-script.result c.new-script.ensures.bytes;
    told = told_none g.D.Disk.Tells g.D.Disk.files c.args.load.now.store (g.K.Sink.written c.args.sink.now);
  };
  counts = counts_same g.D.Disk.fault_count g.D.Disk.fuse_count c.args.load.now.store;
  first = c.new-script.result;
  at_first = c.new-script.ensures.taken;
  accounts = accounts_same (g.S.Source.left c.args.source.now) c.new-script.result;
  source = omega arith;
  sink = omega arith;
  appends = appends_nothing (g.K.Sink.written c.args.sink.now);
}

pub lines-preserved : goal.lines-preserved
lines-preserved g c =
    let inv = c.lines.invariant in
    let left = g.S.Source.left in
    record {
      unmet = sym c.is_ended.ensures ∙ c.if-is_ended.false;
      few = omega (arith, inv.few, c.in_ok-number.ensures.few);
      loading = c.in_ok-number.ensures.next;
      same = c.step.ensures.shape.0 ∙ inv.same;
      takes = takes_more g.D.Disk.Tells g.D.Disk.files c.args.load.now c.lines.load c.lines.number (left c.args.source.now) (g.K.Sink.written c.args.sink.now)
          (rest_of (left c.lines.source) c.lines.script) (g.K.Sink.written c.lines.sink) inv.same inv.takes
          c.step.new.load c.in_ok-number.number (rest_of (left c.step.new.source) c.step.new.script) (g.K.Sink.written c.step.new.sink) c.step.new.script.ended c.in_ok-number.ensures.takes
          (sym c.is_ended.ensures ∙ c.if-is_ended.false);
      counts = counts_more g.D.Disk.fault_count g.D.Disk.fuse_count c.args.load.now.store c.lines.load.store c.step.new.load.store c.requires.loading.shape inv.loading.shape
          inv.same inv.counts c.step.ensures.counts;
      first = inv.first;
      at_first = inv.at_first;
      accounts = accounts_more (left c.args.source.now) (left c.lines.source) (left c.step.new.source) inv.first c.lines.script c.step.new.script inv.accounts c.in_ok-number.ensures.accounts;
      source = omega (arith, inv.source, c.step.ensures.source_count);
      sink = omega (arith, inv.sink, c.step.ensures.sink_count);
      appends = appends_more (g.K.Sink.written c.args.sink.now) (g.K.Sink.written c.lines.sink) (g.K.Sink.written c.step.new.sink) inv.appends c.step.ensures.appends;
    }

-- A LOAD THAT STOPS

pub returns-in_err-number-clause-stopped : goal.returns-in_err-number-clause-stopped
returns-in_err-number-clause-stopped g c = λ why is.
    let wrong : Result ℕ Stop = Err c.in_err-number.field-0.0 in
    let stop_is : wrong ≡ Err why = (let p = err_from_is_err_and c.from_residual.result c.from_residual.ensures.1 in cc (p.1, p.2)) in
    let same : IsErrOf c.step.result why = c.in_err-number.was ∙ stop_is in
    let inv = c.lines.invariant in
    let left = g.S.Source.left in
    until_line g.D.Disk.Tells g.D.Disk.files c.args.load.now c.lines.load c.lines.number (left c.args.source.now) (g.K.Sink.written c.args.sink.now)
    (rest_of (left c.lines.source) c.lines.script) (g.K.Sink.written c.lines.sink) inv.same inv.takes
    c.requires.none g.D.Disk.fault_count g.D.Disk.fuse_count why c.step.new.load.store (g.K.Sink.written c.step.new.sink) (left c.step.new.source) inv.loading.shape inv.counts
    (c.step.ensures.stopped why same)

pub returns-in_err-number-clause-shape : goal.returns-in_err-number-clause-shape
returns-in_err-number-clause-shape g c = (c.step.ensures.shape.0 ∙ c.lines.invariant.same, c.step.ensures.shape.1)

pub returns-in_err-number-clause-counts : goal.returns-in_err-number-clause-counts
returns-in_err-number-clause-counts g c =
    let inv = c.lines.invariant in
    counts_more g.D.Disk.fault_count g.D.Disk.fuse_count c.args.load.now.store c.lines.load.store c.step.new.load.store c.requires.loading.shape inv.loading.shape inv.same
    inv.counts c.step.ensures.counts

-- AT THE END

pub returns-then-is_ended-clause-served : goal.returns-then-is_ended-clause-served
returns-then-is_ended-clause-served g c =
    let inv = c.lines.invariant in
    let left = g.S.Source.left in
    let met = sym c.is_ended.ensures ∙ c.if-is_ended.true in
    on_ok_more c.take_end.result (Told g.D.Disk.Tells g.D.Disk.files Wrote (closed (held_of c.step.new.load.held)) c.step.new.load.store c.take_end.new.load.store
    (g.K.Sink.written c.step.new.sink) (g.K.Sink.written c.take_end.new.sink))
    (ServesAll g.D.Disk.Tells g.D.Disk.files (left c.args.source.now) c.args.load.now.store c.take_end.new.load.store (g.K.Sink.written c.args.sink.now)
    (g.K.Sink.written c.take_end.new.sink)) c.take_end.ensures.told
    (λ last. serves_all g.D.Disk.Tells g.D.Disk.files c.args.load.now c.lines.load c.lines.number (left c.args.source.now) (g.K.Sink.written c.args.sink.now)
    (rest_of (left c.lines.source) c.lines.script) (g.K.Sink.written c.lines.sink) inv.same inv.takes
    c.requires.none c.step.new.load c.in_ok-number.number (rest_of (left c.step.new.source) c.step.new.script) (g.K.Sink.written c.step.new.sink) c.step.new.script.ended
    c.in_ok-number.ensures.takes
    (c.in_ok-number.ensures.at_end met)
    c.take_end.new.load.store (g.K.Sink.written c.take_end.new.sink) (c.step.ensures.shape.0 ∙ inv.same) last)

pub returns-then-is_ended-clause-stopped : goal.returns-then-is_ended-clause-stopped
returns-then-is_ended-clause-stopped g c = λ why is.
    let inv = c.lines.invariant in
    let left = g.S.Source.left in
    let met = sym c.is_ended.ensures ∙ c.if-is_ended.true in
    until_end g.D.Disk.Tells g.D.Disk.files c.args.load.now c.lines.load c.lines.number (left c.args.source.now) (g.K.Sink.written c.args.sink.now)
    (rest_of (left c.lines.source) c.lines.script) (g.K.Sink.written c.lines.sink) inv.same inv.takes
    c.requires.none c.step.new.load c.in_ok-number.number (rest_of (left c.step.new.source) c.step.new.script) (g.K.Sink.written c.step.new.sink) c.step.new.script.ended
    c.in_ok-number.ensures.takes
    (c.in_ok-number.ensures.at_end met)
    g.D.Disk.fault_count g.D.Disk.fuse_count why c.take_end.new.load.store (g.K.Sink.written c.take_end.new.sink) (left c.step.new.source) (c.step.ensures.shape.0 ∙ inv.same)
    c.step.ensures.shape.1
    (counts_more g.D.Disk.fault_count g.D.Disk.fuse_count c.args.load.now.store c.lines.load.store c.step.new.load.store c.requires.loading.shape inv.loading.shape inv.same
    inv.counts c.step.ensures.counts)
    (told_stop c.take_end.result why is c.take_end.ensures.stops)
    (read_to_end (left c.args.source.now) (left c.lines.source) (left c.step.new.source) inv.first c.lines.script c.step.new.script inv.accounts (c.in_ok-number.ensures.at_end met))
    (c.take_end.ensures.stopped why is)

pub returns-then-is_ended-clause-shape : goal.returns-then-is_ended-clause-shape
returns-then-is_ended-clause-shape g c = (c.take_end.ensures.shape.0 ∙ c.step.ensures.shape.0 ∙ c.lines.invariant.same, c.take_end.ensures.shape.1)

pub returns-then-is_ended-clause-counts : goal.returns-then-is_ended-clause-counts
returns-then-is_ended-clause-counts g c =
    let inv = c.lines.invariant in
    counts_more g.D.Disk.fault_count g.D.Disk.fuse_count c.args.load.now.store c.step.new.load.store c.take_end.new.load.store c.requires.loading.shape c.step.ensures.shape.1
    (c.step.ensures.shape.0 ∙ inv.same)
    (counts_more g.D.Disk.fault_count g.D.Disk.fuse_count c.args.load.now.store c.lines.load.store c.step.new.load.store c.requires.loading.shape inv.loading.shape inv.same
    inv.counts c.step.ensures.counts) c.take_end.ensures.counts

pub returns-then-is_ended-clause-ended : goal.returns-then-is_ended-clause-ended
returns-then-is_ended-clause-ended g c =
    let inv = c.lines.invariant in
    let left = g.S.Source.left in
    let met = sym c.is_ended.ensures ∙ c.if-is_ended.true in
    on_ok_always c.take_end.result (IsReadToEnd (left c.args.source.now) (left c.step.new.source))
    (read_to_end (left c.args.source.now) (left c.lines.source) (left c.step.new.source) inv.first c.lines.script c.step.new.script inv.accounts (c.in_ok-number.ensures.at_end met))

pub returns-then-is_ended-clause-short : goal.returns-then-is_ended-clause-short
returns-then-is_ended-clause-short g c =
    let inv = c.lines.invariant in
    let left = g.S.Source.left in
    let met = sym c.is_ended.ensures ∙ c.if-is_ended.true in
    on_ok_always c.take_end.result ((script : List ℕ) → left c.args.source.now ≡ Some script → length script ≤ MAX_SCRIPT) (λ script told.
    let accounts : Accounts (Some script) inv.first (left c.lines.source) c.lines.script = rw told at inv.accounts in
    short_script MAX_SCRIPT script (left c.lines.source) (left c.step.new.source) inv.first c.lines.script c.step.new.script accounts c.in_ok-number.ensures.accounts
    (c.in_ok-number.ensures.at_end met) inv.at_first c.step.ensures.limit)

pub returns-then-is_ended-clause-appends : goal.returns-then-is_ended-clause-appends
returns-then-is_ended-clause-appends g c =
    let inv = c.lines.invariant in
    appends_more (g.K.Sink.written c.args.sink.now) (g.K.Sink.written c.step.new.sink) (g.K.Sink.written c.take_end.new.sink)
    (appends_more (g.K.Sink.written c.args.sink.now) (g.K.Sink.written c.lines.sink) (g.K.Sink.written c.step.new.sink) inv.appends c.step.ensures.appends) c.take_end.ensures.appends
