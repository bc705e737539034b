use Rattle.std.proofs.Common.{◌<◌, arith, subst}
use Rattle.std.specs.Prelude.{slice_index_or, slice_set}
use Rattle.hay_physical.specs.OpenCopies.{Copy, volume_bytes}
use Rattle.hay_logical.specs.Fits.{At}
use Rattle.hay_logical.specs.Needles.{HeadsLeadOn, LacksCellAnew}
use Rattle.hay_logical.specs.Sights.{sights_of}
use Rattle.hay_physical.proofs.Views.{on_ok_one}
use Rattle.hay_logical.specs.ReplicaCalls.Start.{Fresh}
use Rattle.hay_logical.proofs.Calls.{one_counts}
use Rattle.hay_logical.proofs.Dropping.{counts_on}
use Rattle.hay_logical.proofs.Ends.{called_there, stays_there, swaps_one, swaps_there}
use Rattle.hay_logical.proofs.Lists.{at_read, at_same}
use Rattle.std.specs.Prelude.{IfOk, OnErr}
use Rattle.hay_logical.specs.Seen.{ChangesRun, SwapSeen, begun, replica_seen}
use Rattle.hay_logical.proofs.runs.compact_at.Goals as goal

pub compact-result-requires : goal.compact-result-requires
compact-result-requires g c =
    let here : Copy g.row.D.Denot = slice_index_or c.args.replicas.now c.args.at c.index-replicas-at.result in
    let there : At c.args.replicas.now c.args.at here = at_read c.args.replicas.now c.args.at c.index-replicas-at.result c.requires.within in
    let low = c.requires.within in
    let wide = c.requires.width in
    let less : c.args.at < c.args.rows.now.replicas = omega (arith, low, wide) in
    record {
      up = c.requires.up c.args.at here there;
      within = less;
    }

pub returns-clause-one : goal.returns-clause-one
returns-clause-one g c =
    let here : Copy g.row.D.Denot = slice_index_or c.args.replicas.now c.args.at c.index-replicas-at.result in
    let there : At c.args.replicas.now c.args.at here = at_read c.args.replicas.now c.args.at c.index-replicas-at.result c.requires.within in
    swaps_one g.D.Disk.Tells g.D.Disk.files g.D.Disk.fault_count g.D.Piece.Piece.Tells Fresh c.args.rows.now c.compact-result.new.rows c.args.at c.args.replicas.now
    c.drop_behind.new.replicas here c.compact-result.new.replica c.compact-result.result there
    (c.requires.up c.args.at here there) c.compact-result.ensures.swaps c.drop_behind.ensures.count c.drop_behind.ensures.each c.drop_behind.ensures.still c.drop_behind.ensures.idle

pub returns-clause-swaps : goal.returns-clause-swaps
returns-clause-swaps g c = λ r r' e f.
    let here : Copy g.row.D.Denot = slice_index_or c.args.replicas.now c.args.at c.index-replicas-at.result in
    let there : At c.args.replicas.now c.args.at here = at_read c.args.replicas.now c.args.at c.index-replicas-at.result c.requires.within in
    swaps_there g.D.Disk.Tells g.D.Disk.files g.D.Disk.fault_count g.D.Piece.Piece.Tells Fresh c.args.rows.now c.compact-result.new.rows c.args.at c.args.replicas.now
    c.drop_behind.new.replicas here c.compact-result.new.replica c.compact-result.result there
    (c.requires.up c.args.at here there) c.compact-result.ensures.swaps c.drop_behind.ensures.count c.drop_behind.ensures.each c.drop_behind.ensures.still c.drop_behind.ensures.idle r r' e f

pub returns-clause-stays : goal.returns-clause-stays
returns-clause-stays g c = λ r r' e f.
    let here : Copy g.row.D.Denot = slice_index_or c.args.replicas.now c.args.at c.index-replicas-at.result in
    let there : At c.args.replicas.now c.args.at here = at_read c.args.replicas.now c.args.at c.index-replicas-at.result c.requires.within in
    stays_there g.D.Disk.Tells g.D.Disk.files g.D.Disk.fault_count g.D.Piece.Piece.Tells Fresh c.args.rows.now c.compact-result.new.rows c.args.at c.args.replicas.now
    c.drop_behind.new.replicas here c.compact-result.new.replica c.compact-result.result there
    (c.requires.up c.args.at here there) c.compact-result.ensures.swaps c.drop_behind.ensures.count c.drop_behind.ensures.each c.drop_behind.ensures.still
    c.drop_behind.ensures.idle c.compact-result.ensures.stays r r' e f

pub returns-clause-counts : goal.returns-clause-counts
returns-clause-counts g c =
    let here : Copy g.row.D.Denot = slice_index_or c.args.replicas.now c.args.at c.index-replicas-at.result in
    let there : At c.args.replicas.now c.args.at here = at_read c.args.replicas.now c.args.at c.index-replicas-at.result c.requires.within in
    counts_on g.D.Disk.Tells g.D.Disk.files g.D.Disk.fault_count c.args.replicas.now (slice_set c.args.replicas.now c.args.at c.compact-result.new.replica)
    c.drop_behind.new.replicas c.drop_behind.ensures.count c.drop_behind.ensures.each
    g.D.Disk.fuse_count (one_counts g.D.Disk.fault_count g.D.Disk.fuse_count c.args.at c.args.replicas.now here c.compact-result.new.replica there
    (c.compact-result.ensures.counts, c.compact-result.ensures.fuses))

pub returns-clause-seen : goal.returns-clause-seen
returns-clause-seen g c = λ r r' e f.
    let here : Copy g.row.D.Denot = slice_index_or c.args.replicas.now c.args.at c.index-replicas-at.result in
    let there : At c.args.replicas.now c.args.at here = at_read c.args.replicas.now c.args.at c.index-replicas-at.result c.requires.within in
    called_there g.D.Disk.Tells g.D.Disk.files g.D.Disk.fault_count g.D.Piece.Piece.Tells Fresh c.args.rows.now c.compact-result.new.rows c.args.at c.args.replicas.now
    c.drop_behind.new.replicas here c.compact-result.new.replica c.compact-result.result there
    (c.requires.up c.args.at here there) c.compact-result.ensures.swaps c.drop_behind.ensures.count c.drop_behind.ensures.each c.drop_behind.ensures.still c.drop_behind.ensures.idle
    (λ (a b : Copy g.row.D.Denot). IfOk c.compact-result.result (λ files. SwapSeen files.generation files.end (replica_seen a) (replica_seen b))) c.compact-result.ensures.seen r r' e f

pub returns-clause-kept : goal.returns-clause-kept
returns-clause-kept g c = λ r r' e f.
    let here : Copy g.row.D.Denot = slice_index_or c.args.replicas.now c.args.at c.index-replicas-at.result in
    let there : At c.args.replicas.now c.args.at here = at_read c.args.replicas.now c.args.at c.index-replicas-at.result c.requires.within in
    called_there g.D.Disk.Tells g.D.Disk.files g.D.Disk.fault_count g.D.Piece.Piece.Tells Fresh c.args.rows.now c.compact-result.new.rows c.args.at c.args.replicas.now
    c.drop_behind.new.replicas here c.compact-result.new.replica c.compact-result.result there
    (c.requires.up c.args.at here there) c.compact-result.ensures.swaps c.drop_behind.ensures.count c.drop_behind.ensures.each c.drop_behind.ensures.still c.drop_behind.ensures.idle
    (λ (a b : Copy g.row.D.Denot). OnErr c.compact-result.result (ChangesRun (replica_seen a) (replica_seen b))) c.compact-result.ensures.kept r r' e f

pub returns-clause-damaged : goal.returns-clause-damaged
returns-clause-damaged g c = λ tells place is r e.
    let here : Copy g.row.D.Denot = slice_index_or c.args.replicas.now c.args.at c.index-replicas-at.result in
    let there : At c.args.replicas.now c.args.at here = at_read c.args.replicas.now c.args.at c.index-replicas-at.result c.requires.within in
    subst (λ (x : Copy g.row.D.Denot). LacksCellAnew (sights_of c.args.rows.now) c.args.at place (replica_seen x) (volume_bytes g.D.Disk.files x))
    (at_same c.args.replicas.now c.args.at here r there e) (c.compact-result.ensures.damaged tells place is)

pub returns-clause-lead : goal.returns-clause-lead
returns-clause-lead g c = λ tells.
    let here : Copy g.row.D.Denot = slice_index_or c.args.replicas.now c.args.at c.index-replicas-at.result in
    let there : At c.args.replicas.now c.args.at here = at_read c.args.replicas.now c.args.at c.index-replicas-at.result c.requires.within in
    on_ok_one c.compact-result.result _ _
    (λ lead r e. subst (λ (x : Copy g.row.D.Denot). HeadsLeadOn (sights_of c.args.rows.now) c.args.at (begun (replica_seen x)) (volume_bytes g.D.Disk.files x))
    (at_same c.args.replicas.now c.args.at here r there e) lead)
    (c.compact-result.ensures.lead tells)

pub returns-clause-unsure : goal.returns-clause-unsure
returns-clause-unsure g c = λ tells f is r e.
    let here : Copy g.row.D.Denot = slice_index_or c.args.replicas.now c.args.at c.index-replicas-at.result in
    let there : At c.args.replicas.now c.args.at here = at_read c.args.replicas.now c.args.at c.index-replicas-at.result c.requires.within in
    subst (λ (x : Copy g.row.D.Denot). HeadsLeadOn (sights_of c.args.rows.now) c.args.at (begun (replica_seen x)) (volume_bytes g.D.Disk.files x))
    (at_same c.args.replicas.now c.args.at here r there e) (c.compact-result.ensures.unsure tells f is)
