use Rattle.std.proofs.Common.{refl, sym, subst}
use Rattle.std.specs.Prelude.{slice_index_or}
use Rattle.hay_physical.specs.OpenCopies.{Copy}
use Rattle.hay_logical.specs.Fits.{At}
use Rattle.hay_logical.specs.ReplicaCalls.{BeginsAt}
use Rattle.hay_logical.proofs.Beginning.{begin_seen, begins}
use Rattle.hay_logical.proofs.Calls.{one_counts}
use Rattle.hay_logical.proofs.Lists.{at_read, one_same}
use Rattle.std.proofs.Common.{◌≡◌}
use Rattle.std.specs.Prelude.{IfOk, OnErr}
use Rattle.hay_physical.proofs.Views.{on_err_so}
use Rattle.hay_logical.specs.Seen.{BeginsTo, replica_seen}
use Rattle.hay_logical.proofs.Seen.{run_changed, seen_phase}
use Rattle.hay_logical.proofs.runs.begin_at.Goals as goal

pub returns-clause-one : goal.returns-clause-one
returns-clause-one g c =
    let here : Copy g.row.D.Denot = slice_index_or c.args.replicas.now c.args.at c.index-replicas-at.result in
    let there : At c.args.replicas.now c.args.at here = at_read c.args.replicas.now c.args.at c.index-replicas-at.result c.requires.within in
    record { before = here; after = c.begin.new.self; was = there; is = refl }

pub returns-clause-begins : goal.returns-clause-begins
returns-clause-begins g c = λ r r' e f.
    let here : Copy g.row.D.Denot = slice_index_or c.args.replicas.now c.args.at c.index-replicas-at.result in
    let there : At c.args.replicas.now c.args.at here = at_read c.args.replicas.now c.args.at c.index-replicas-at.result c.requires.within in
    let same = one_same c.args.replicas.now c.args.at here c.begin.new.self r r' there e f in
    let b = c.begin.ensures in
    let began : BeginsAt g.D.Disk.Tells g.D.Disk.files g.D.Disk.fault_count here c.begin.new.self c.begin.result =
    begins g.D.Disk.Tells g.D.Disk.files g.D.Disk.fault_count here c.begin.new.self c.begin.result
    (c.requires.up c.args.at here there) b.«open» b.same b.sup b.stuck b.stands
    (λ tells. record { deletes = b.deletes tells; sees = b.sees tells }) b.head_file b.busy b.worn b.thawed b.idle b.most b.last b.begun b.goal b.kept b.causes in
    subst (λ x. BeginsAt g.D.Disk.Tells g.D.Disk.files g.D.Disk.fault_count x r' c.begin.result) (sym same.0)
    (subst (λ x. BeginsAt g.D.Disk.Tells g.D.Disk.files g.D.Disk.fault_count here x c.begin.result) (sym same.1) began)

pub returns-clause-counts : goal.returns-clause-counts
returns-clause-counts g c =
    let here : Copy g.row.D.Denot = slice_index_or c.args.replicas.now c.args.at c.index-replicas-at.result in
    let there : At c.args.replicas.now c.args.at here = at_read c.args.replicas.now c.args.at c.index-replicas-at.result c.requires.within in
    one_counts g.D.Disk.fault_count g.D.Disk.fuse_count c.args.at c.args.replicas.now here c.begin.new.self there (c.begin.ensures.counts, c.begin.ensures.fuses)

pub returns-clause-seen : goal.returns-clause-seen
returns-clause-seen g c = λ r r' e f.
    let here : Copy g.row.D.Denot = slice_index_or c.args.replicas.now c.args.at c.index-replicas-at.result in
    let there : At c.args.replicas.now c.args.at here = at_read c.args.replicas.now c.args.at c.index-replicas-at.result c.requires.within in
    let same = one_same c.args.replicas.now c.args.at here c.begin.new.self r r' there e f in
    let b = c.begin.ensures in
    let began : BeginsAt g.D.Disk.Tells g.D.Disk.files g.D.Disk.fault_count here c.begin.new.self c.begin.result =
    begins g.D.Disk.Tells g.D.Disk.files g.D.Disk.fault_count here c.begin.new.self c.begin.result
    (c.requires.up c.args.at here there) b.«open» b.same b.sup b.stuck b.stands
    (λ tells. record { deletes = b.deletes tells; sees = b.sees tells }) b.head_file b.busy b.worn b.thawed b.idle b.most b.last b.begun b.goal b.kept b.causes in
    subst (λ x. IfOk c.begin.result (λ goal. BeginsTo goal (replica_seen x) (replica_seen r'))) (sym same.0)
    (subst (λ x. IfOk c.begin.result (λ goal. BeginsTo goal (replica_seen here) (replica_seen x))) (sym same.1)
    (begin_seen g.D.Disk.Tells g.D.Disk.files g.D.Disk.fault_count here c.begin.new.self c.begin.result began b.goal b.first (run_changed here c.begin.new.self b.stays b.stuck b.bare)))

pub returns-clause-kept : goal.returns-clause-kept
returns-clause-kept g c = λ r r' e f.
    let here : Copy g.row.D.Denot = slice_index_or c.args.replicas.now c.args.at c.index-replicas-at.result in
    let there : At c.args.replicas.now c.args.at here = at_read c.args.replicas.now c.args.at c.index-replicas-at.result c.requires.within in
    let same = one_same c.args.replicas.now c.args.at here c.begin.new.self r r' there e f in
    subst (λ x. OnErr c.begin.result (replica_seen r' ≡ replica_seen x)) (sym same.0)
    (subst (λ x. OnErr c.begin.result (replica_seen x ≡ replica_seen here)) (sym same.1) (on_err_so c.begin.result _ _ (seen_phase here c.begin.new.self) c.begin.ensures.kept))
