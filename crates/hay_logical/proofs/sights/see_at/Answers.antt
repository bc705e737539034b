use Rattle.std.proofs.Common.{◌<◌, ℕ, refl, sym, subst, arith}
use Rattle.std.specs.Prelude.{slice_index_or}
use Rattle.hay_physical.specs.OpenCopies.{Copy, volume_bytes}
use Rattle.hay_logical.specs.Needles.{TellsNeedle}
use Rattle.hay_map.specs.Places.{place_in}
use Rattle.hay_map.specs.Rows.{row_at}
use Rattle.hay_logical.specs.Draws.{DrawsAtMost, look_total}
use Rattle.hay_logical.specs.Fits.{At}
use Rattle.hay_logical.specs.ReplicaCalls.{SightsAt}
use Rattle.hay_logical.proofs.Calls.{one_counts}
use Rattle.hay_logical.proofs.Lists.{at_read, at_same, one_same}
use Rattle.hay_logical.proofs.sights.see_at.Goals as goal

pub see-requires : goal.see-requires
see-requires g c =
    let here : Copy g.row.D.Denot = slice_index_or c.args.replicas.now c.args.at c.index-replicas-at.result in
    let there : At c.args.replicas.now c.args.at here = at_read c.args.replicas.now c.args.at c.index-replicas-at.result c.requires.within in
    let within = c.requires.within in
    let width = c.requires.width in record {
      «open» = c.requires.«open» c.args.at here there;
      within = let less : c.args.at < c.args.rows.now.replicas = omega (arith, within, width) in less;
      may = λ tells. c.requires.may tells here there;
    }

pub returns-clause-one : goal.returns-clause-one
returns-clause-one g c =
    let here : Copy g.row.D.Denot = slice_index_or c.args.replicas.now c.args.at c.index-replicas-at.result in
    let there : At c.args.replicas.now c.args.at here = at_read c.args.replicas.now c.args.at c.index-replicas-at.result c.requires.within in
    record { before = here; after = c.see.new.replica; was = there; is = refl }

pub returns-clause-sights : goal.returns-clause-sights
returns-clause-sights g c = λ r r' e f.
    let here : Copy g.row.D.Denot = slice_index_or c.args.replicas.now c.args.at c.index-replicas-at.result in
    let there : At c.args.replicas.now c.args.at here = at_read c.args.replicas.now c.args.at c.index-replicas-at.result c.requires.within in
    let same = one_same c.args.replicas.now c.args.at here c.see.new.replica r r' there e f in
    subst (λ x. SightsAt g.D.Disk.Tells g.D.Disk.files g.D.Disk.fault_count g.D.Piece.Piece.Tells c.args.pair c.args.rows.now c.see.new.rows c.args.at x r' c.see.result) (sym same.0)
    (subst (λ x. SightsAt g.D.Disk.Tells g.D.Disk.files g.D.Disk.fault_count g.D.Piece.Piece.Tells c.args.pair c.args.rows.now c.see.new.rows c.args.at here x c.see.result)
    (sym same.1) c.see.ensures.sights)

pub returns-clause-counts : goal.returns-clause-counts
returns-clause-counts g c =
    let here : Copy g.row.D.Denot = slice_index_or c.args.replicas.now c.args.at c.index-replicas-at.result in
    let there : At c.args.replicas.now c.args.at here = at_read c.args.replicas.now c.args.at c.index-replicas-at.result c.requires.within in
    one_counts g.D.Disk.fault_count g.D.Disk.fuse_count c.args.at c.args.replicas.now here c.see.new.replica there (c.see.ensures.counts, c.see.ensures.fuses)

pub returns-clause-drawn : goal.returns-clause-drawn
returns-clause-drawn g c = λ tells r r' e f.
    let here : Copy g.row.D.Denot = slice_index_or c.args.replicas.now c.args.at c.index-replicas-at.result in
    let there : At c.args.replicas.now c.args.at here = at_read c.args.replicas.now c.args.at c.index-replicas-at.result c.requires.within in
    let same = one_same c.args.replicas.now c.args.at here c.see.new.replica r r' there e f in
    let most : ℕ = look_total (place_in (row_at c.args.rows.now c.args.pair) c.args.at) in
    subst (λ x. DrawsAtMost g.D.Disk.drawn most x r') (sym same.0) (subst (λ x. DrawsAtMost g.D.Disk.drawn most here x) (sym same.1) (c.see.ensures.drawn tells))

pub returns-clause-told : goal.returns-clause-told
returns-clause-told g c = λ tells r e.
    let here : Copy g.row.D.Denot = slice_index_or c.args.replicas.now c.args.at c.index-replicas-at.result in
    let there : At c.args.replicas.now c.args.at here = at_read c.args.replicas.now c.args.at c.index-replicas-at.result c.requires.within in
    subst (λ (x : Copy g.row.D.Denot). TellsNeedle (volume_bytes g.D.Disk.files x) c.args.pair c.args.at c.args.rows.now c.see.new.rows c.see.result)
    (at_same c.args.replicas.now c.args.at here r there e) (c.see.ensures.told tells)
