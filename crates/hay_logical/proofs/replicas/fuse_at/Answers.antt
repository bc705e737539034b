use Rattle.std.proofs.Common.{refl, sym, subst}
use Rattle.std.specs.Prelude.{slice_index_or}
use Rattle.hay_physical.specs.OpenCopies.{Copy}
use Rattle.hay_logical.specs.Fits.{At}
use Rattle.hay_logical.specs.ReplicaCalls.{FusesAt}
use Rattle.hay_logical.proofs.Lists.{at_read, one_same}
use Rattle.hay_logical.proofs.replicas.fuse_at.Goals as goal

pub returns-clause-one : goal.returns-clause-one
returns-clause-one g c =
    let here : Copy g.row.D.Denot = slice_index_or c.args.replicas.now c.args.at c.index-replicas-at.result in
    let there : At c.args.replicas.now c.args.at here = at_read c.args.replicas.now c.args.at c.index-replicas-at.result c.requires in
    record { before = here; after = c.fuse.new.self; was = there; is = refl }

pub returns-clause-fuses : goal.returns-clause-fuses
returns-clause-fuses g c = λ r r' e f.
    let here : Copy g.row.D.Denot = slice_index_or c.args.replicas.now c.args.at c.index-replicas-at.result in
    let there : At c.args.replicas.now c.args.at here = at_read c.args.replicas.now c.args.at c.index-replicas-at.result c.requires in
    let same = one_same c.args.replicas.now c.args.at here c.fuse.new.self r r' there e f in
    let step : FusesAt g.D.Disk.Tells g.D.Disk.files g.D.Disk.fault_count g.D.Disk.fuse_count here c.fuse.new.self = record {
      same = c.fuse.ensures.same;
      stands = c.fuse.ensures.stands;
      holds = c.fuse.ensures.holds;
      run = c.fuse.ensures.run;
      reach = λ tells. record { deletes = c.fuse.ensures.deletes tells; sees = c.fuse.ensures.sees tells };
      same_files = c.fuse.ensures.files;
      same_faults = c.fuse.ensures.faults;
      next = c.fuse.ensures.fuses;
    } in
    subst (λ x. FusesAt g.D.Disk.Tells g.D.Disk.files g.D.Disk.fault_count g.D.Disk.fuse_count x r') (sym same.0)
    (subst (λ x. FusesAt g.D.Disk.Tells g.D.Disk.files g.D.Disk.fault_count g.D.Disk.fuse_count here x) (sym same.1) step)
