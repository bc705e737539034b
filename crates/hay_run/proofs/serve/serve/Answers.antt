use Rattle.std.proofs.Common.{◌++◌, Bool, map, [], None, Some, refl, sym, ap, subst, ◌∙◌, arith, lit≤, false, ◌≡◌, ℕ}
use Rattle.std.specs.Prelude.{Result, Err, IsErrOf}
use Rattle.hay_run.specs.declared.stops.Stop.{Stop}
use Rattle.hay_run.specs.declared.stops.Stop.TheVariants as stop
use Rattle.hay_run.specs.Items.{TookItems}
use Rattle.hay_cluster.specs.State.{Stands, Holds}
use Rattle.hay_cluster.specs.Store.{disks_of}
use Rattle.hay_lines.specs.Stream.{rest_of, Accounts}
use Rattle.hay_run.proofs.Asking.{took_first, took_items_more, asks_all, at_end_turn, long_script, read_to_end, short_script, taken_most}
use Rattle.hay_cluster.proofs.Sure.{same_sure}
use Rattle.hay_run.proofs.Counting.{NoneFalls-same, NoneFalls-more, rose_more, sure_more}
use Rattle.hay_lines.proofs.Taking.{accounts_same, accounts_more}
use Rattle.hay_disk.specs.Streams.{Wrote}
use Rattle.hay_needle.specs.declared.settings.Settings.{Settings}
use Rattle.hay_script.specs.declared.words.TheConstants.{MAX_SCRIPT}
use Rattle.hay_run.specs.Causing.{tally_of, Caused, TurnStops}
use Rattle.hay_run.proofs.Causing.{caused_more, caused_nothing}
use Rattle.hay_run.proofs.Turning.{answers_nothing, answers_more, appends_nothing, appends_more}
use Rattle.hay_run.proofs.Serving.{stops_by, holds_none, memory_same, halts_more, other_stop}
use Rattle.hay_run.proofs.serve.serve.Goals as goal

pub turns-init : goal.turns-init
turns-init g c = record {
  unmet = c.new-script.ensures.ended;
  few = rw (c.new-script.ensures.bytes, c.new-script.ensures.taken, c.new-script.ensures.ended) (lit≤ tt);
  up = c.requires.up;
  same = refl;
  asked = [];
  took = took_first 1 (g.S.Source.left c.args.source.now) c.new-script.result c.new-script.ensures.bytes;
  answers =
      λ tells k stands. answers_nothing (Stands g.D.Disk.files g.D.Piece.Piece.Tells g.D.Disk.fault_count g.D.Disk.fuse_count g.A.Arm.fault_count) k
      (g.K.Sink.written c.args.sink.now) c.args.cluster stands;
  said = [];
  read = took_first 1 (g.S.Source.left c.args.source.now) c.new-script.result c.new-script.ensures.bytes;
  caused =
      caused_nothing g.D.Disk.Tells c.args.cluster.settings (tally_of g.D.Disk.files g.D.Disk.drawn g.D.Disk.fault_count g.D.Disk.fuse_count g.A.Arm.fault_count g.A.Arm.is_sure
      c.args.cluster) (g.K.Sink.written c.args.sink.now);
  first = c.new-script.result;
  at_first = c.new-script.ensures.taken;
  accounts = accounts_same (g.S.Source.left c.args.source.now) c.new-script.result;
  source = omega arith;
  sink = omega arith;
  faults = NoneFalls-same (map g.D.Disk.fault_count (disks_of c.args.cluster));
  arm_faults = NoneFalls-same (map g.A.Arm.fault_count c.args.cluster.arms);
  sure_arms = same_sure g.A.Arm.is_sure g.A.Arm.fault_count c.args.cluster.arms c.args.cluster.arms refl;
  appends = appends_nothing (g.K.Sink.written c.args.sink.now);
}

pub returns-in-Err-clause-stopped : goal.returns-in-Err-clause-stopped
returns-in-Err-clause-stopped g c = λ why is.
    let same : IsErrOf c.turn-after.result.1 why = (let one : c.in-Err.stop ≡ why = cc in c.in-Err.is ∙ ap (λ (w : Stop). Err w) one) in
    let inv = c.turns.invariant in
    let left = g.S.Source.left in
    record {
      asked = inv.asked;
      number = c.turns.number;
      rest = rest_of (left c.turns.source) c.turns.script;
      mid = c.turns.cluster;
      text = g.K.Sink.written c.turns.sink;
      took = inv.took;
      answers = inv.answers;
      settings = inv.same;
      held = c.turn-after.new.script;
      none = holds_none c.turn-after.result.1 c.turn-after.new.script why same c.turn-after.ensures.none_held;
      stops =
          stops_by g.D.Disk.Tells (Stands g.D.Disk.files g.D.Piece.Piece.Tells g.D.Disk.fault_count g.D.Disk.fuse_count g.A.Arm.fault_count)
          (Holds g.D.Disk.files g.D.Disk.fault_count g.D.Disk.fuse_count g.A.Arm.fault_count)
          c.turns.number (rest_of (left c.turns.source) c.turns.script) (g.K.Sink.written c.turns.sink) (rest_of (left c.turn-after.new.source) c.turn-after.new.script)
          (g.K.Sink.written c.turn-after.new.sink)
          c.turns.cluster c.turn-after.result.0 c.turn-after.result.1 why same
          (λ e. let h = c.turn-after.ensures.input e in (h.0, h.1, ap g.K.Sink.written h.2))
          (λ e. let h = c.turn-after.ensures.over e in (h.0, h.1, ap g.K.Sink.written h.2))
          c.turn-after.ensures.output
          (λ e. memory_same g.K.Sink.written c.turns.sink c.turn-after.new.sink (c.turn-after.ensures.memory e))
          c.turn-after.ensures.store;
    }

pub returns-in-Err-clause-halted : goal.returns-in-Err-clause-halted
returns-in-Err-clause-halted g c = λ is.
    let inv = c.turns.invariant in
    halts_more g.D.Disk.Tells (Stands g.D.Disk.files g.D.Piece.Piece.Tells g.D.Disk.fault_count g.D.Disk.fuse_count g.A.Arm.fault_count) g.D.Disk.files g.D.Disk.fault_count
    inv.asked (g.K.Sink.written c.args.sink.now) (g.K.Sink.written c.turns.sink) (g.K.Sink.written c.turn-after.new.sink)
    c.args.cluster c.turns.cluster c.turn-after.result.0 inv.same inv.faults inv.appends inv.answers
    (c.turn-after.ensures.halted (let same : c.in-Err.stop ≡ stop.Store = cc in c.in-Err.is ∙ ap (λ (w : Stop). Err w) same))

pub returns-then-is_ended-clause-served : goal.returns-then-is_ended-clause-served
returns-then-is_ended-clause-served g c =
    let inv = c.turns.invariant in
    let left = g.S.Source.left in
    let turned = rw c.in-Ok.is at c.turn-after.ensures.turned in
    let met = sym c.is_ended.ensures ∙ c.if-is_ended.true in
    record {
      asked = inv.asked ++ turned.asked;
      all = asks_all c.in-Ok.next (left c.args.source.now) (rest_of (left c.turn-after.new.source) c.turn-after.new.script) (inv.asked ++ turned.asked) c.turn-after.new.script.ended
          (took_items_more 1 c.turns.number c.in-Ok.next (left c.args.source.now) (rest_of (left c.turns.source) c.turns.script) (rest_of (left c.turn-after.new.source) c.turn-after.new.script)
          inv.asked turned.asked c.turn-after.new.script.ended inv.took turned.took) met;
      answers = λ tells k stands.
          let first = inv.answers tells k stands in
          answers_more (Stands g.D.Disk.files g.D.Piece.Piece.Tells g.D.Disk.fault_count g.D.Disk.fuse_count g.A.Arm.fault_count) k inv.asked turned.asked
          (g.K.Sink.written c.args.sink.now) (g.K.Sink.written c.turns.sink) (g.K.Sink.written c.turn-after.new.sink) c.turns.cluster c.turn-after.result.0 c.turn-after.ensures.settings
          first (turned.answers tells first.t first.left);
    }

pub returns-then-is_ended-clause-ended : goal.returns-then-is_ended-clause-ended
returns-then-is_ended-clause-ended g c =
    let inv = c.turns.invariant in
    let left = g.S.Source.left in
    let turned = rw c.in-Ok.is at c.turn-after.ensures.turned in
    let met = sym c.is_ended.ensures ∙ c.if-is_ended.true in
    read_to_end (left c.args.source.now) (left c.turns.source) (left c.turn-after.new.source) inv.first c.turns.script c.turn-after.new.script inv.accounts
    (at_end_turn c.turns.number c.in-Ok.next (rest_of (left c.turns.source) c.turns.script) (rest_of (left c.turn-after.new.source) c.turn-after.new.script) turned.asked
    c.turn-after.new.script.ended turned.took met)

pub returns-then-is_ended-clause-short : goal.returns-then-is_ended-clause-short
returns-then-is_ended-clause-short g c = λ script told.
    let inv = c.turns.invariant in
    let left = g.S.Source.left in
    let turned = rw c.in-Ok.is at c.turn-after.ensures.turned in
    let met = sym c.is_ended.ensures ∙ c.if-is_ended.true in
    let accounts : Accounts (Some script) inv.first (left c.turns.source) c.turns.script = rw told at inv.accounts in
    short_script MAX_SCRIPT script (left c.turns.source) (left c.turn-after.new.source) inv.first c.turns.script c.turn-after.new.script accounts (rw c.in-Ok.is at c.turn-after.ensures.accounts)
    (at_end_turn c.turns.number c.in-Ok.next (rest_of (left c.turns.source) c.turns.script) (rest_of (left c.turn-after.new.source) c.turn-after.new.script) turned.asked
    c.turn-after.new.script.ended turned.took met)
    inv.at_first c.turn-after.ensures.limit

pub turns-preserved : goal.turns-preserved
turns-preserved g c =
    let inv = c.turns.invariant in
    let left = g.S.Source.left in
    let turned = rw c.in-Ok.is at c.turn-after.ensures.turned in
    let unmet : c.turn-after.new.script.ended ≡ false = sym c.is_ended.ensures ∙ c.if-is_ended.false in
    let caused = rw c.in-Ok.is at c.turn-after.ensures.caused in
    let P : Settings → Type 0 =
    λ s. Caused g.D.Disk.Tells Wrote s (tally_of g.D.Disk.files g.D.Disk.drawn g.D.Disk.fault_count g.D.Disk.fuse_count g.A.Arm.fault_count g.A.Arm.is_sure c.turns.cluster)
    (tally_of g.D.Disk.files g.D.Disk.drawn g.D.Disk.fault_count g.D.Disk.fuse_count g.A.Arm.fault_count g.A.Arm.is_sure c.turn-after.result.0)
    caused.asked (g.K.Sink.written c.turns.sink) (g.K.Sink.written c.turn-after.new.sink) in
    record {
      unmet = unmet;
      few = (let few = rw c.in-Ok.is at c.turn-after.ensures.few in omega (arith, inv.few, few));
      up = rw c.in-Ok.is at c.turn-after.ensures.up;
      same = c.turn-after.ensures.settings ∙ inv.same;
      asked = inv.asked ++ turned.asked;
      took = took_items_more 1 c.turns.number c.in-Ok.next (left c.args.source.now) (rest_of (left c.turns.source) c.turns.script) (rest_of (left c.turn-after.new.source) c.turn-after.new.script)
          inv.asked turned.asked false inv.took (subst (λ (b : Bool). TookItems c.turns.number None (rest_of (left c.turns.source) c.turns.script) turned.asked c.in-Ok.next
          (rest_of (left c.turn-after.new.source) c.turn-after.new.script) b) unmet turned.took);
      answers = λ tells k stands.
          let first = inv.answers tells k stands in
          answers_more (Stands g.D.Disk.files g.D.Piece.Piece.Tells g.D.Disk.fault_count g.D.Disk.fuse_count g.A.Arm.fault_count) k inv.asked turned.asked
          (g.K.Sink.written c.args.sink.now) (g.K.Sink.written c.turns.sink) (g.K.Sink.written c.turn-after.new.sink) c.turns.cluster c.turn-after.result.0 c.turn-after.ensures.settings
          first (turned.answers tells first.t first.left);
      said = inv.said ++ caused.asked;
      read = took_items_more 1 c.turns.number c.in-Ok.next (left c.args.source.now) (rest_of (left c.turns.source) c.turns.script) (rest_of (left c.turn-after.new.source) c.turn-after.new.script)
          inv.said caused.asked false inv.read (subst (λ (b : Bool). TookItems c.turns.number None (rest_of (left c.turns.source) c.turns.script) caused.asked c.in-Ok.next
          (rest_of (left c.turn-after.new.source) c.turn-after.new.script) b) unmet caused.took);
      caused =
          caused_more g.D.Disk.Tells c.args.cluster.settings (tally_of g.D.Disk.files g.D.Disk.drawn g.D.Disk.fault_count g.D.Disk.fuse_count g.A.Arm.fault_count g.A.Arm.is_sure
          c.args.cluster) (tally_of g.D.Disk.files g.D.Disk.drawn g.D.Disk.fault_count g.D.Disk.fuse_count g.A.Arm.fault_count g.A.Arm.is_sure c.turns.cluster)
          (tally_of g.D.Disk.files g.D.Disk.drawn g.D.Disk.fault_count g.D.Disk.fuse_count g.A.Arm.fault_count g.A.Arm.is_sure c.turn-after.result.0) inv.said caused.asked
          (g.K.Sink.written c.args.sink.now) (g.K.Sink.written c.turns.sink) (g.K.Sink.written c.turn-after.new.sink)
          inv.caused (subst P inv.same caused.caused);
      first = inv.first;
      at_first = inv.at_first;
      accounts =
          accounts_more (left c.args.source.now) (left c.turns.source) (left c.turn-after.new.source) inv.first c.turns.script c.turn-after.new.script inv.accounts
          (rw c.in-Ok.is at c.turn-after.ensures.accounts);
      source = omega (arith, inv.source, c.turn-after.ensures.source_count);
      sink = omega (arith, inv.sink, c.turn-after.ensures.sink_count);
      faults = NoneFalls-more (map g.D.Disk.fault_count (disks_of c.args.cluster)) (map g.D.Disk.fault_count (disks_of c.turns.cluster)) (map g.D.Disk.fault_count (disks_of c.turn-after.result.0))
          inv.faults c.turn-after.ensures.faults;
      arm_faults = NoneFalls-more (map g.A.Arm.fault_count c.args.cluster.arms) (map g.A.Arm.fault_count c.turns.cluster.arms) (map g.A.Arm.fault_count c.turn-after.result.0.arms)
          inv.arm_faults c.turn-after.ensures.arm_faults;
      sure_arms = sure_more g.A.Arm.is_sure g.A.Arm.fault_count c.args.cluster.arms c.turns.cluster.arms c.turn-after.result.0.arms inv.sure_arms c.turn-after.ensures.sure_arms;
      appends = appends_more (g.K.Sink.written c.args.sink.now) (g.K.Sink.written c.turns.sink) (g.K.Sink.written c.turn-after.new.sink) inv.appends c.turn-after.ensures.appends;
    }

pub returns-in-Err-clause-faults : goal.returns-in-Err-clause-faults
returns-in-Err-clause-faults g c =
    NoneFalls-more (map g.D.Disk.fault_count (disks_of c.args.cluster)) (map g.D.Disk.fault_count (disks_of c.turns.cluster)) (map g.D.Disk.fault_count (disks_of c.turn-after.result.0))
    c.turns.invariant.faults c.turn-after.ensures.faults

pub returns-in-Err-clause-arm_faults : goal.returns-in-Err-clause-arm_faults
returns-in-Err-clause-arm_faults g c =
    NoneFalls-more (map g.A.Arm.fault_count c.args.cluster.arms) (map g.A.Arm.fault_count c.turns.cluster.arms) (map g.A.Arm.fault_count c.turn-after.result.0.arms)
    c.turns.invariant.arm_faults c.turn-after.ensures.arm_faults

pub returns-then-is_ended-clause-faults : goal.returns-then-is_ended-clause-faults
returns-then-is_ended-clause-faults g c =
    NoneFalls-more (map g.D.Disk.fault_count (disks_of c.args.cluster)) (map g.D.Disk.fault_count (disks_of c.turns.cluster)) (map g.D.Disk.fault_count (disks_of c.turn-after.result.0))
    c.turns.invariant.faults c.turn-after.ensures.faults

pub returns-then-is_ended-clause-arm_faults : goal.returns-then-is_ended-clause-arm_faults
returns-then-is_ended-clause-arm_faults g c =
    NoneFalls-more (map g.A.Arm.fault_count c.args.cluster.arms) (map g.A.Arm.fault_count c.turns.cluster.arms) (map g.A.Arm.fault_count c.turn-after.result.0.arms)
    c.turns.invariant.arm_faults c.turn-after.ensures.arm_faults

pub returns-in-Err-clause-long : goal.returns-in-Err-clause-long
returns-in-Err-clause-long g c = λ is script told.
    let inv = c.turns.invariant in
    let left = g.S.Source.left in
    let accounts : Accounts (Some script) inv.first (left c.turns.source) c.turns.script = rw told at inv.accounts in
    long_script MAX_SCRIPT script (left c.turns.source) (left c.turn-after.new.source) inv.first c.turns.script accounts
    (c.turn-after.ensures.long (let same : c.in-Err.stop ≡ stop.TooLong = cc in c.in-Err.is ∙ ap (λ (w : Stop). Err w) same)) inv.at_first

pub returns-in-Err-clause-source : goal.returns-in-Err-clause-source
returns-in-Err-clause-source g c = λ is.
    let rose = c.turn-after.ensures.source (let same : c.in-Err.stop ≡ stop.Input = cc in c.in-Err.is ∙ ap (λ (w : Stop). Err w) same) in
    rose_more (g.S.Source.fault_count c.args.source.now) (g.S.Source.fault_count c.turns.source) (g.S.Source.fault_count c.turn-after.new.source) c.turns.invariant.source rose

pub returns-in-Err-clause-sink : goal.returns-in-Err-clause-sink
returns-in-Err-clause-sink g c = λ is.
    let rose = c.turn-after.ensures.sink (let same : c.in-Err.stop ≡ stop.Output = cc in c.in-Err.is ∙ ap (λ (w : Stop). Err w) same) in
    rose_more (g.K.Sink.fault_count c.args.sink.now) (g.K.Sink.fault_count c.turns.sink) (g.K.Sink.fault_count c.turn-after.new.sink) c.turns.invariant.sink rose

-- what is sure, and what is behind what was written

pub returns-in-Err-clause-sure_arms : goal.returns-in-Err-clause-sure_arms
returns-in-Err-clause-sure_arms g c =
    sure_more g.A.Arm.is_sure g.A.Arm.fault_count c.args.cluster.arms c.turns.cluster.arms c.turn-after.result.0.arms c.turns.invariant.sure_arms c.turn-after.ensures.sure_arms

pub returns-then-is_ended-clause-sure_arms : goal.returns-then-is_ended-clause-sure_arms
returns-then-is_ended-clause-sure_arms g c =
    sure_more g.A.Arm.is_sure g.A.Arm.fault_count c.args.cluster.arms c.turns.cluster.arms c.turn-after.result.0.arms c.turns.invariant.sure_arms c.turn-after.ensures.sure_arms

pub returns-in-Err-clause-appends : goal.returns-in-Err-clause-appends
returns-in-Err-clause-appends g c =
    appends_more (g.K.Sink.written c.args.sink.now) (g.K.Sink.written c.turns.sink) (g.K.Sink.written c.turn-after.new.sink) c.turns.invariant.appends c.turn-after.ensures.appends

pub returns-then-is_ended-clause-appends : goal.returns-then-is_ended-clause-appends
returns-then-is_ended-clause-appends g c =
    appends_more (g.K.Sink.written c.args.sink.now) (g.K.Sink.written c.turns.sink) (g.K.Sink.written c.turn-after.new.sink) c.turns.invariant.appends c.turn-after.ensures.appends

-- how much was taken

pub returns-in-Err-clause-taken : goal.returns-in-Err-clause-taken
returns-in-Err-clause-taken g c = λ other.
    let inv = c.turns.invariant in
    let left = g.S.Source.left in
    other_stop c.turn-after.result.1 c.in-Err.stop c.in-Err.is (λ e. other (ap (λ (w : Stop). Err w) e))
    (λ why. taken_most MAX_SCRIPT (left c.args.source.now) (left c.turns.source) (left c.turn-after.new.source) inv.first c.turns.script c.turn-after.new.script inv.accounts
    (c.turn-after.ensures.stopped_accounts why) inv.at_first c.turn-after.ensures.limit)

pub returns-then-is_ended-clause-taken : goal.returns-then-is_ended-clause-taken
returns-then-is_ended-clause-taken g c = λ other.
    let inv = c.turns.invariant in
    let left = g.S.Source.left in
    taken_most MAX_SCRIPT (left c.args.source.now) (left c.turns.source) (left c.turn-after.new.source) inv.first c.turns.script c.turn-after.new.script inv.accounts
    (rw c.in-Ok.is at c.turn-after.ensures.accounts) inv.at_first c.turn-after.ensures.limit

-- what was written, and its causes

pub returns-then-is_ended-clause-caused : goal.returns-then-is_ended-clause-caused
returns-then-is_ended-clause-caused g c =
    let inv = c.turns.invariant in
    let left = g.S.Source.left in
    let met = sym c.is_ended.ensures ∙ c.if-is_ended.true in
    let caused = rw c.in-Ok.is at c.turn-after.ensures.caused in
    let P : Settings → Type 0 =
    λ s. Caused g.D.Disk.Tells Wrote s (tally_of g.D.Disk.files g.D.Disk.drawn g.D.Disk.fault_count g.D.Disk.fuse_count g.A.Arm.fault_count g.A.Arm.is_sure c.turns.cluster)
    (tally_of g.D.Disk.files g.D.Disk.drawn g.D.Disk.fault_count g.D.Disk.fuse_count g.A.Arm.fault_count g.A.Arm.is_sure c.turn-after.result.0)
    caused.asked (g.K.Sink.written c.turns.sink) (g.K.Sink.written c.turn-after.new.sink) in
    record {
      asked = inv.said ++ caused.asked;
      all = asks_all c.in-Ok.next (left c.args.source.now) (rest_of (left c.turn-after.new.source) c.turn-after.new.script) (inv.said ++ caused.asked) c.turn-after.new.script.ended
          (took_items_more 1 c.turns.number c.in-Ok.next (left c.args.source.now) (rest_of (left c.turns.source) c.turns.script) (rest_of (left c.turn-after.new.source) c.turn-after.new.script)
          inv.said caused.asked c.turn-after.new.script.ended inv.read caused.took) met;
      caused =
          caused_more g.D.Disk.Tells c.args.cluster.settings (tally_of g.D.Disk.files g.D.Disk.drawn g.D.Disk.fault_count g.D.Disk.fuse_count g.A.Arm.fault_count g.A.Arm.is_sure
          c.args.cluster) (tally_of g.D.Disk.files g.D.Disk.drawn g.D.Disk.fault_count g.D.Disk.fuse_count g.A.Arm.fault_count g.A.Arm.is_sure c.turns.cluster)
          (tally_of g.D.Disk.files g.D.Disk.drawn g.D.Disk.fault_count g.D.Disk.fuse_count g.A.Arm.fault_count g.A.Arm.is_sure c.turn-after.result.0) inv.said caused.asked
          (g.K.Sink.written c.args.sink.now) (g.K.Sink.written c.turns.sink) (g.K.Sink.written c.turn-after.new.sink)
          inv.caused (subst P inv.same caused.caused);
    }

pub returns-in-Err-clause-stop_caused : goal.returns-in-Err-clause-stop_caused
returns-in-Err-clause-stop_caused g c = λ why is.
    let inv = c.turns.invariant in
    let left = g.S.Source.left in
    let same : IsErrOf c.turn-after.result.1 why = (let one : c.in-Err.stop ≡ why = cc in c.in-Err.is ∙ ap (λ (w : Stop). Err w) one) in
    let P : Settings → Type 0 =
    λ s. TurnStops g.D.Disk.Tells s (tally_of g.D.Disk.files g.D.Disk.drawn g.D.Disk.fault_count g.D.Disk.fuse_count g.A.Arm.fault_count g.A.Arm.is_sure c.turns.cluster)
    (tally_of g.D.Disk.files g.D.Disk.drawn g.D.Disk.fault_count g.D.Disk.fuse_count g.A.Arm.fault_count g.A.Arm.is_sure c.turn-after.result.0) why c.turns.number
    (rest_of (left c.turns.source) c.turns.script) (g.K.Sink.written c.turns.sink) (rest_of (left c.turn-after.new.source) c.turn-after.new.script) (g.K.Sink.written c.turn-after.new.sink) in
    record {
      asked = inv.said;
      number = c.turns.number;
      rest = rest_of (left c.turns.source) c.turns.script;
      took = inv.read;
      mid = tally_of g.D.Disk.files g.D.Disk.drawn g.D.Disk.fault_count g.D.Disk.fuse_count g.A.Arm.fault_count g.A.Arm.is_sure c.turns.cluster;
      text = g.K.Sink.written c.turns.sink;
      caused = inv.caused;
      held = c.turn-after.new.script;
      none = holds_none c.turn-after.result.1 c.turn-after.new.script why same c.turn-after.ensures.none_held;
      stops = subst P inv.same (c.turn-after.ensures.stop_caused why same);
    }

-- none of its disks is void

pub returns-in-Err-clause-formatted : goal.returns-in-Err-clause-formatted
returns-in-Err-clause-formatted g c = λ tells k stands.
    let first = c.turns.invariant.answers tells k stands in c.turn-after.ensures.formatted tells first.t first.left

pub returns-then-is_ended-clause-formatted : goal.returns-then-is_ended-clause-formatted
returns-then-is_ended-clause-formatted g c = λ tells k stands.
    let first = c.turns.invariant.answers tells k stands in c.turn-after.ensures.formatted tells first.t first.left
