use Rattle.std.proofs.Common.{◌<◌, refl, sym, subst, arith}
use Rattle.std.specs.Prelude.{slice_index_or}
use Rattle.hay_physical.specs.OpenCopies.{Copy, next_of, volume_bytes}
use Rattle.hay_logical.specs.Fits.{At}
use Rattle.hay_logical.specs.Needles.{HeadsLead, HeadsLeadPart, LacksCell}
use Rattle.hay_logical.specs.Sights.{sights_of}
use Rattle.hay_logical.specs.ReplicaCalls.{StepsAt}
use Rattle.hay_logical.proofs.Calls.{one_counts}
use Rattle.hay_logical.proofs.Lists.{at_read, at_same, one_same}
use Rattle.std.specs.Prelude.{IfOk, OnErr}
use Rattle.hay_logical.specs.Seen.{BreaksStep, StepsTo, replica_seen}
use Rattle.hay_logical.proofs.runs.step_at.Goals as goal

pub step-requires : goal.step-requires
step-requires g c =
    let here : Copy g.row.D.Denot = slice_index_or c.args.replicas.now c.args.at c.index-replicas-at.result in
    let there : At c.args.replicas.now c.args.at here = at_read c.args.replicas.now c.args.at c.index-replicas-at.result c.requires.within in
    let low = c.requires.within in
    let wide = c.requires.width in
    let less : c.args.at < c.args.rows.now.replicas = omega (arith, low, wide) in
    record {
      up = c.requires.up c.args.at here there;
      within = less;
      standing = c.requires.standing here there;
    }

pub returns-clause-one : goal.returns-clause-one
returns-clause-one g c =
    let here : Copy g.row.D.Denot = slice_index_or c.args.replicas.now c.args.at c.index-replicas-at.result in
    let there : At c.args.replicas.now c.args.at here = at_read c.args.replicas.now c.args.at c.index-replicas-at.result c.requires.within in
    record { before = here; after = c.step.new.replica; was = there; is = refl }

pub returns-clause-steps : goal.returns-clause-steps
returns-clause-steps g c = λ r r' e f.
    let here : Copy g.row.D.Denot = slice_index_or c.args.replicas.now c.args.at c.index-replicas-at.result in
    let there : At c.args.replicas.now c.args.at here = at_read c.args.replicas.now c.args.at c.index-replicas-at.result c.requires.within in
    let same = one_same c.args.replicas.now c.args.at here c.step.new.replica r r' there e f in
    subst (λ x. StepsAt g.D.Disk.Tells g.D.Disk.files g.D.Disk.fault_count g.D.Piece.Piece.Tells c.args.rows.now c.args.at c.args.cells x r' c.step.result) (sym same.0)
    (subst (λ x. StepsAt g.D.Disk.Tells g.D.Disk.files g.D.Disk.fault_count g.D.Piece.Piece.Tells c.args.rows.now c.args.at c.args.cells here x c.step.result) (sym same.1) c.step.ensures.steps)

pub returns-clause-counts : goal.returns-clause-counts
returns-clause-counts g c =
    let here : Copy g.row.D.Denot = slice_index_or c.args.replicas.now c.args.at c.index-replicas-at.result in
    let there : At c.args.replicas.now c.args.at here = at_read c.args.replicas.now c.args.at c.index-replicas-at.result c.requires.within in
    one_counts g.D.Disk.fault_count g.D.Disk.fuse_count c.args.at c.args.replicas.now here c.step.new.replica there (c.step.ensures.counts, c.step.ensures.fuses)

pub returns-clause-seen : goal.returns-clause-seen
returns-clause-seen g c = λ r r' e f.
    let here : Copy g.row.D.Denot = slice_index_or c.args.replicas.now c.args.at c.index-replicas-at.result in
    let there : At c.args.replicas.now c.args.at here = at_read c.args.replicas.now c.args.at c.index-replicas-at.result c.requires.within in
    let same = one_same c.args.replicas.now c.args.at here c.step.new.replica r r' there e f in
    subst (λ x. IfOk c.step.result (λ number. StepsTo c.args.cells number (replica_seen x) (replica_seen r'))) (sym same.0)
    (subst (λ x. IfOk c.step.result (λ number. StepsTo c.args.cells number (replica_seen here) (replica_seen x))) (sym same.1) c.step.ensures.seen)

pub returns-clause-left : goal.returns-clause-left
returns-clause-left g c = λ r r' e f.
    let here : Copy g.row.D.Denot = slice_index_or c.args.replicas.now c.args.at c.index-replicas-at.result in
    let there : At c.args.replicas.now c.args.at here = at_read c.args.replicas.now c.args.at c.index-replicas-at.result c.requires.within in
    let same = one_same c.args.replicas.now c.args.at here c.step.new.replica r r' there e f in
    subst (λ x. OnErr c.step.result (BreaksStep (replica_seen x) (replica_seen r'))) (sym same.0)
    (subst (λ x. OnErr c.step.result (BreaksStep (replica_seen here) (replica_seen x))) (sym same.1) c.step.ensures.left)

pub returns-clause-damaged : goal.returns-clause-damaged
returns-clause-damaged g c = λ tells place is r e.
    let here : Copy g.row.D.Denot = slice_index_or c.args.replicas.now c.args.at c.index-replicas-at.result in
    let there : At c.args.replicas.now c.args.at here = at_read c.args.replicas.now c.args.at c.index-replicas-at.result c.requires.within in
    subst (λ (x : Copy g.row.D.Denot). LacksCell (sights_of c.args.rows.now) c.args.at c.args.cells place (replica_seen x) (volume_bytes g.D.Disk.files x))
    (at_same c.args.replicas.now c.args.at here r there e) (c.step.ensures.damaged tells place is)

pub returns-clause-lead : goal.returns-clause-lead
returns-clause-lead g c = λ tells r r' e f.
    let here : Copy g.row.D.Denot = slice_index_or c.args.replicas.now c.args.at c.index-replicas-at.result in
    let there : At c.args.replicas.now c.args.at here = at_read c.args.replicas.now c.args.at c.index-replicas-at.result c.requires.within in
    let same = one_same c.args.replicas.now c.args.at here c.step.new.replica r r' there e f in
    subst (λ x. IfOk c.step.result (λ number. HeadsLead (sights_of c.args.rows.now) c.args.at number (next_of x) (next_of r') (volume_bytes g.D.Disk.files x))) (sym same.0)
    (subst (λ x. IfOk c.step.result (λ number. HeadsLead (sights_of c.args.rows.now) c.args.at number (next_of here) (next_of x) (volume_bytes g.D.Disk.files here))) (sym same.1)
    (c.step.ensures.lead tells))

pub returns-clause-part : goal.returns-clause-part
returns-clause-part g c = λ tells r r' e f is.
    let here : Copy g.row.D.Denot = slice_index_or c.args.replicas.now c.args.at c.index-replicas-at.result in
    let there : At c.args.replicas.now c.args.at here = at_read c.args.replicas.now c.args.at c.index-replicas-at.result c.requires.within in
    let same = one_same c.args.replicas.now c.args.at here c.step.new.replica r r' there e f in
    subst (λ x. HeadsLeadPart (sights_of c.args.rows.now) c.args.at c.args.cells (next_of x) (next_of r') (volume_bytes g.D.Disk.files x)) (sym same.0)
    (subst (λ x. HeadsLeadPart (sights_of c.args.rows.now) c.args.at c.args.cells (next_of here) (next_of x) (volume_bytes g.D.Disk.files here)) (sym same.1) (c.step.ensures.part tells is))
