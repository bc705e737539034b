use Rattle.std.proofs.Common.{◌≡◌, ◌+◌, ◌≤◌, false}
use Rattle.hay_script.specs.declared.words.TheConstants.{MAX_SCRIPT}
use Rattle.hay_lines.specs.Stream.{Held, rest_of, budget, Accounts}
use Rattle.hay_batch.specs.Stores.{KeepsCounts}
use Rattle.hay_load.specs.Loads.{IsLoading}
use Rattle.hay_loading.specs.Lines.{Appends, Takes}
use Rattle.hay_loading.proofs.serve.serve.Given as goal

abbrev pub invariant-lines : goal.invariant-lines
invariant-lines g l = record {
  unmet : l.script.ended ≡ false;
  few : l.number + budget MAX_SCRIPT l.script ≤ MAX_SCRIPT + 2;
  loading : IsLoading g.D.Disk.Tells g.D.Disk.files l.load;
  same : l.load.store.settings ≡ l.fn.load.store.settings;
  takes : Takes g.D.Disk.Tells g.D.Disk.files l.fn.load 1 (g.S.Source.left l.fn.source) (g.K.Sink.written l.fn.sink) l.load l.number (rest_of (g.S.Source.left l.source) l.script)
      (g.K.Sink.written l.sink) false;
  counts : KeepsCounts g.D.Disk.fault_count g.D.Disk.fuse_count l.fn.load.store l.load.store;
  first : Held;
  at_first : first.taken ≡ 0;
  accounts : Accounts (g.S.Source.left l.fn.source) first (g.S.Source.left l.source) l.script;
  source : g.S.Source.fault_count l.fn.source ≤ g.S.Source.fault_count l.source;
  sink : g.K.Sink.fault_count l.fn.sink ≤ g.K.Sink.fault_count l.sink;
  appends : Appends (g.K.Sink.written l.fn.sink) (g.K.Sink.written l.sink);
}

abbrev pub decreases-lines : goal.decreases-lines
decreases-lines g l = budget MAX_SCRIPT l.script
