use Rattle.std.proofs.Common.{◌≡◌, ◌∙◌, refl, sym, subst, None}
use Rattle.std.specs.Prelude.{slice_index_or}
use Rattle.hay_physical.specs.OpenCopies.{Copy, goal_of}
use Rattle.hay_logical.specs.Fits.{At}
use Rattle.hay_logical.specs.ReplicaCalls.{LosesRun}
use Rattle.hay_logical.proofs.Calls.{frozen_is, frozen_open, open_frozen}
use Rattle.hay_logical.proofs.Lists.{at_read, one_same}
use Rattle.hay_logical.specs.Seen.{IsEnded, replica_seen}
use Rattle.hay_logical.proofs.Seen.{run_changed, run_ended}
use Rattle.hay_logical.proofs.runs.drop_run_at.Goals as goal

pub returns-clause-one : goal.returns-clause-one
returns-clause-one g c =
    let here : Copy g.row.D.Denot = slice_index_or c.args.replicas.now c.args.at c.index-replicas-at.result in
    record { before = here; after = c.drop_run.new.self; was = at_read c.args.replicas.now c.args.at c.index-replicas-at.result c.requires; is = refl }

pub returns-clause-loses : goal.returns-clause-loses
returns-clause-loses g c = λ r r' e f.
    let here : Copy g.row.D.Denot = slice_index_or c.args.replicas.now c.args.at c.index-replicas-at.result in
    let there : At c.args.replicas.now c.args.at here = at_read c.args.replicas.now c.args.at c.index-replicas-at.result c.requires in
    let same = one_same c.args.replicas.now c.args.at here c.drop_run.new.self r r' there e f in
    let e = c.drop_run.ensures in
    let loses : LosesRun g.D.Disk.Tells g.D.Disk.files here c.drop_run.new.self = record {
      idle = e.idle;
      «open» = e.«open»;
      up = e.up;
      froze = λ h. open_frozen c.drop_run.new.self (e.«open» (frozen_open here h)) (e.same ∙ frozen_is here h);
      sup = e.sup;
      disk = e.disk;
      frozen = e.same;
      stuck = e.stuck;
      stands = e.stands;
      holds = e.holds;
      reach = λ tells. record { deletes = e.deletes tells; sees = e.sees tells };
      end = e.stays.1;
    } in
    subst (λ x. LosesRun g.D.Disk.Tells g.D.Disk.files x r') (sym same.0) (subst (λ x. LosesRun g.D.Disk.Tells g.D.Disk.files here x) (sym same.1) loses)

pub returns-clause-idle : goal.returns-clause-idle
returns-clause-idle g c = λ r f.
    let here : Copy g.row.D.Denot = slice_index_or c.args.replicas.now c.args.at c.index-replicas-at.result in
    let there : At c.args.replicas.now c.args.at here = at_read c.args.replicas.now c.args.at c.index-replicas-at.result c.requires in
    let same = one_same c.args.replicas.now c.args.at here c.drop_run.new.self here r there there f in
    subst (λ (x : Copy g.row.D.Denot). goal_of x ≡ None) (sym same.1) c.drop_run.ensures.goal

pub returns-clause-seen : goal.returns-clause-seen
returns-clause-seen g c = λ r r' e f.
    let here : Copy g.row.D.Denot = slice_index_or c.args.replicas.now c.args.at c.index-replicas-at.result in
    let there : At c.args.replicas.now c.args.at here = at_read c.args.replicas.now c.args.at c.index-replicas-at.result c.requires in
    let same = one_same c.args.replicas.now c.args.at here c.drop_run.new.self r r' there e f in
    let d = c.drop_run.ensures in
    subst (λ x. IsEnded (replica_seen x) (replica_seen r')) (sym same.0) (subst (λ x. IsEnded (replica_seen here) (replica_seen x)) (sym same.1)
    (run_ended here c.drop_run.new.self (run_changed here c.drop_run.new.self d.stays d.stuck d.bare) d.goal))
