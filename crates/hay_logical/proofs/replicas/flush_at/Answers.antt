use Rattle.std.proofs.Common.{refl, sym, subst}
use Rattle.std.specs.Prelude.{slice_index_or}
use Rattle.hay_physical.specs.OpenCopies.{Copy}
use Rattle.hay_logical.specs.Fits.{At}
use Rattle.hay_logical.specs.ReplicaCalls.{FlushesAt}
use Rattle.hay_logical.proofs.Calls.{flush_if, not_stuck_before, one_counts, still_up, went_on}
use Rattle.hay_logical.proofs.Lists.{at_read, one_same}
use Rattle.std.proofs.Common.{◌≡◌}
use Rattle.std.specs.Prelude.{IfOk, OnErr}
use Rattle.hay_physical.specs.OpenCopies.{is_stuck}
use Rattle.hay_physical.proofs.Views.{on_err_so}
use Rattle.hay_logical.specs.Seen.{FlushesTo, replica_seen}
use Rattle.hay_logical.proofs.Seen.{flush_seen, seen_stuck}
use Rattle.hay_logical.proofs.replicas.flush_at.Goals as goal

pub returns-clause-one : goal.returns-clause-one
returns-clause-one g c =
    let here : Copy g.row.D.Denot = slice_index_or c.args.replicas.now c.args.at c.index-replicas-at.result in
    let there : At c.args.replicas.now c.args.at here = at_read c.args.replicas.now c.args.at c.index-replicas-at.result c.requires.within in
    record { before = here; after = c.flush.new.self; was = there; is = refl }

pub returns-clause-flushes : goal.returns-clause-flushes
returns-clause-flushes g c = λ r r' e f.
    let here : Copy g.row.D.Denot = slice_index_or c.args.replicas.now c.args.at c.index-replicas-at.result in
    let there : At c.args.replicas.now c.args.at here = at_read c.args.replicas.now c.args.at c.index-replicas-at.result c.requires.within in
    let same = one_same c.args.replicas.now c.args.at here c.flush.new.self r r' there e f in
    let up = c.requires.up c.args.at here there in
    let step : FlushesAt g.D.Disk.Tells g.D.Disk.files g.D.Disk.fault_count here c.flush.new.self c.flush.result = record {
      up = still_up here c.flush.new.self c.flush.ensures.«open» c.flush.ensures.same up;
      sup = c.flush.ensures.sup;
      loose = went_on here c.flush.new.self c.flush.result c.flush.ensures.frozen c.flush.ensures.going;
      flushed = c.flush.ensures.flushed;
      refused = c.flush.ensures.refused;
      run = c.flush.ensures.run;
      run_stays = c.flush.ensures.run_stays;
      cause = flush_if g.D.Disk.fault_count here c.flush.new.self c.flush.result up c.flush.ensures.causes c.flush.ensures.stuck c.flush.ensures.stayed c.flush.ensures.thawed c.flush.ensures.frozen;
      not_stuck = not_stuck_before here c.flush.new.self c.flush.result c.flush.ensures.frozen;
      tried = c.flush.ensures.tried;
      reach = λ tells. record { deletes = c.flush.ensures.deletes tells; sees = c.flush.ensures.sees tells };
      head = c.flush.ensures.head_file;
    } in
    subst (λ x. FlushesAt g.D.Disk.Tells g.D.Disk.files g.D.Disk.fault_count x r' c.flush.result) (sym same.0)
    (subst (λ x. FlushesAt g.D.Disk.Tells g.D.Disk.files g.D.Disk.fault_count here x c.flush.result) (sym same.1) step)

pub returns-clause-counts : goal.returns-clause-counts
returns-clause-counts g c =
    let here : Copy g.row.D.Denot = slice_index_or c.args.replicas.now c.args.at c.index-replicas-at.result in
    let there : At c.args.replicas.now c.args.at here = at_read c.args.replicas.now c.args.at c.index-replicas-at.result c.requires.within in
    one_counts g.D.Disk.fault_count g.D.Disk.fuse_count c.args.at c.args.replicas.now here c.flush.new.self there (c.flush.ensures.counts, c.flush.ensures.fuses)

pub returns-clause-seen : goal.returns-clause-seen
returns-clause-seen g c = λ r r' e f.
    let here : Copy g.row.D.Denot = slice_index_or c.args.replicas.now c.args.at c.index-replicas-at.result in
    let there : At c.args.replicas.now c.args.at here = at_read c.args.replicas.now c.args.at c.index-replicas-at.result c.requires.within in
    let same = one_same c.args.replicas.now c.args.at here c.flush.new.self r r' there e f in
    subst (λ x. IfOk c.flush.result (λ number. FlushesTo number (replica_seen x) (replica_seen r'))) (sym same.0)
    (subst (λ x. IfOk c.flush.result (λ number. FlushesTo number (replica_seen here) (replica_seen x))) (sym same.1)
    (flush_seen here c.flush.new.self c.flush.result (went_on here c.flush.new.self c.flush.result c.flush.ensures.frozen c.flush.ensures.going) c.flush.ensures.number c.flush.ensures.none_bare
    c.flush.ensures.stays c.flush.ensures.goal c.flush.ensures.place))

pub returns-clause-left : goal.returns-clause-left
returns-clause-left g c = λ r r' e f.
    let here : Copy g.row.D.Denot = slice_index_or c.args.replicas.now c.args.at c.index-replicas-at.result in
    let there : At c.args.replicas.now c.args.at here = at_read c.args.replicas.now c.args.at c.index-replicas-at.result c.requires.within in
    let same = one_same c.args.replicas.now c.args.at here c.flush.new.self r r' there e f in
    subst (λ x. OnErr c.flush.result (replica_seen r' ≡ record (replica_seen x) { stuck = is_stuck r' })) (sym same.0)
    (subst (λ x. OnErr c.flush.result (replica_seen x ≡ record (replica_seen here) { stuck = is_stuck x })) (sym same.1)
    (on_err_so c.flush.result _ _ (seen_stuck here c.flush.new.self c.flush.ensures.stays c.flush.ensures.goal c.flush.ensures.place) c.flush.ensures.still_bare))
