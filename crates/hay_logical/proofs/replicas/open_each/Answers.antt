use Rattle.std.proofs.Common.{◌≡◌, ◌≤◌, ◌<◌, ◌+◌, inl, inr, ℕ, length, sym, ap, subst, ◌∙◌, arith}
use Rattle.std.specs.Prelude.{slice_index_or, slice_set}
use Rattle.std.proofs.lemmas.Bool.{cases_lt}
use Rattle.std.proofs.lemmas.List.{length-replicate}
use Rattle.hay_map.specs.Places.{place_in}
use Rattle.hay_physical.specs.OpenCopies.{Copy, is_frozen, phase_frozen}
use Rattle.hay_logical.specs.Fits.{At}
use Rattle.hay_logical.specs.ReplicaCalls.{KeepsDisk, LeftAt}
use Rattle.hay_logical.specs.Volumes.{ReachesPlaces}
use Rattle.hay_logical.proofs.Calls.{Counted, disk_same, left_same, none_in, opens_on, reach_from, reaches_same, up_thawed, went_counts}
use Rattle.hay_logical.proofs.Drawing.{drew_on}
use Rattle.hay_logical.proofs.Lists.{Went, at_below, at_read, at_same, at_there, broken_above, broken_below, broken_is, broken_was, length-slice_set, went_all, went_every}
use Rattle.hay_logical.proofs.Lists.{went_next, went_start, went_step}
use Rattle.hay_logical.proofs.replicas.open_each.Goals as goal

pub loop-j-init : goal.loop-j-init
loop-j-init g c = record {
  went = went_start _ c.args.replicas.now;
  width = c.requires.width;
  long = λ pair. ap length (c.requires.empty pair) ∙ length-replicate _ _ ∙ sym c.requires.width;
  empty = λ pair i h. ap (λ l. place_in l i) (c.requires.empty pair) ∙ none_in (length c.args.replicas.now) i;
}

pub open_one-requires : goal.open_one-requires
open_one-requires g c =
    let within : c.loop-j.j < length c.loop-j.replicas = omega arith in
    let here : Copy g.row.D.Denot = slice_index_or c.loop-j.replicas c.loop-j.j c.index-replicas-j.result in
    let there : At c.loop-j.replicas c.loop-j.j here = at_read c.loop-j.replicas c.loop-j.j c.index-replicas-j.result within in
    let was : At c.args.replicas.now c.loop-j.j here = went_next _ c.loop-j.j c.args.replicas.now c.loop-j.replicas here c.loop-j.invariant.went there in
    let wide : c.loop-j.j < c.loop-j.rows.replicas = (let w = c.loop-j.invariant.width in omega (arith, w)) in
    let low : c.loop-j.j ≤ c.loop-j.j = omega arith in
    record {
      within = wide;
      closed = c.requires.closed c.loop-j.j here was;
      idle = (λ tells. c.requires.idle tells c.loop-j.j here was);
      long = c.loop-j.invariant.long;
      empty = λ pair. c.loop-j.invariant.empty pair c.loop-j.j low;
    }

pub returns-in-Err-clause-counts : goal.returns-in-Err-clause-counts
returns-in-Err-clause-counts g c =
    let within : c.loop-j.j < length c.loop-j.replicas = omega arith in
    let here : Copy g.row.D.Denot = slice_index_or c.loop-j.replicas c.loop-j.j c.index-replicas-j.result in
    let there : At c.loop-j.replicas c.loop-j.j here = at_read c.loop-j.replicas c.loop-j.j c.index-replicas-j.result within in
    let L : ℕ → Copy g.row.D.Denot → Copy g.row.D.Denot → Type 0 =
    λ i r r'. Counted g.D.Disk.fault_count g.D.Disk.fuse_count r r' × LeftAt g.D.Disk.Tells g.D.Disk.files r r' × (g.D.Disk.Tells → KeepsDisk g.D.Disk.files r r') in
    let went : Went L (c.loop-j.j + 1) c.args.replicas.now (slice_set c.loop-j.replicas c.loop-j.j c.open_one.new.replica) =
    went_step _ L c.loop-j.j c.args.replicas.now c.loop-j.replicas here c.open_one.new.replica c.loop-j.invariant.went there (λ i r r' h p. (p.1, p.2, p.3))
    ((c.open_one.ensures.counts, c.open_one.ensures.fuses), c.open_one.ensures.left, c.open_one.ensures.kept) in
    went_counts g.D.Disk.fault_count g.D.Disk.fuse_count L (c.loop-j.j + 1) c.args.replicas.now _ went (λ i r r' p. p.0)

pub returns-in-Err-clause-left : goal.returns-in-Err-clause-left
returns-in-Err-clause-left g c =
    let within : c.loop-j.j < length c.loop-j.replicas = omega arith in
    let here : Copy g.row.D.Denot = slice_index_or c.loop-j.replicas c.loop-j.j c.index-replicas-j.result in
    let there : At c.loop-j.replicas c.loop-j.j here = at_read c.loop-j.replicas c.loop-j.j c.index-replicas-j.result within in
    let L : ℕ → Copy g.row.D.Denot → Copy g.row.D.Denot → Type 0 =
    λ i r r'. Counted g.D.Disk.fault_count g.D.Disk.fuse_count r r' × LeftAt g.D.Disk.Tells g.D.Disk.files r r' × (g.D.Disk.Tells → KeepsDisk g.D.Disk.files r r') in
    let went : Went L (c.loop-j.j + 1) c.args.replicas.now (slice_set c.loop-j.replicas c.loop-j.j c.open_one.new.replica) =
    went_step _ L c.loop-j.j c.args.replicas.now c.loop-j.replicas here c.open_one.new.replica c.loop-j.invariant.went there (λ i r r' h p. (p.1, p.2, p.3))
    ((c.open_one.ensures.counts, c.open_one.ensures.fuses), c.open_one.ensures.left, c.open_one.ensures.kept) in
    went_every L (λ r r'. LeftAt g.D.Disk.Tells g.D.Disk.files r r') (c.loop-j.j + 1) c.args.replicas.now _ went (λ i r r' p. p.1) (left_same g.D.Disk.Tells g.D.Disk.files)

pub returns-in-Err-clause-kept : goal.returns-in-Err-clause-kept
returns-in-Err-clause-kept g c = λ tells j r r' e f.
    let within : c.loop-j.j < length c.loop-j.replicas = omega arith in
    let here : Copy g.row.D.Denot = slice_index_or c.loop-j.replicas c.loop-j.j c.index-replicas-j.result in
    let there : At c.loop-j.replicas c.loop-j.j here = at_read c.loop-j.replicas c.loop-j.j c.index-replicas-j.result within in
    let L : ℕ → Copy g.row.D.Denot → Copy g.row.D.Denot → Type 0 = λ i x y. KeepsDisk g.D.Disk.files x y in
    let went : Went L (c.loop-j.j + 1) c.args.replicas.now (slice_set c.loop-j.replicas c.loop-j.j c.open_one.new.replica) =
    went_step _ L c.loop-j.j c.args.replicas.now c.loop-j.replicas here c.open_one.new.replica c.loop-j.invariant.went there (λ i x y h p. p.3 tells) (c.open_one.ensures.kept tells) in
    elim (cases_lt j (c.loop-j.j + 1)) [
      | inl less ↦ went.done j r r' less e f
      | inr most ↦ let same : r' ≡ r = went.rest j r r' most e f in
          subst (λ x. KeepsDisk g.D.Disk.files r x) (sym same) (disk_same g.D.Disk.files r (c.requires.idle tells j r e).solid)
    ]

pub returns-in-Err-clause-refused : goal.returns-in-Err-clause-refused
returns-in-Err-clause-refused g c =
    let within : c.loop-j.j < length c.loop-j.replicas = omega arith in
    let here : Copy g.row.D.Denot = slice_index_or c.loop-j.replicas c.loop-j.j c.index-replicas-j.result in
    let there : At c.loop-j.replicas c.loop-j.j here = at_read c.loop-j.replicas c.loop-j.j c.index-replicas-j.result within in
    record {
      before = here;
      after = c.open_one.new.replica;
      was = broken_was _ c.loop-j.j c.args.replicas.now c.loop-j.replicas here c.open_one.new.replica c.loop-j.invariant.went there;
      is = broken_is _ c.loop-j.j c.args.replicas.now c.loop-j.replicas here c.open_one.new.replica c.loop-j.invariant.went there;
      cause = c.in-Err.ensures.refused;
      earlier = λ tells i r r' less e f.
          let opened = (broken_below _ c.loop-j.j c.args.replicas.now c.loop-j.replicas here c.open_one.new.replica c.loop-j.invariant.went there i r r' less e f).0 in
          (opened.undamaged tells, opened.undamaged_now tells, opened.formatted tells);
    }

pub loop-j-preserved : goal.loop-j-preserved
loop-j-preserved g c =
    let within : c.loop-j.j < length c.loop-j.replicas = omega arith in
    let here : Copy g.row.D.Denot = slice_index_or c.loop-j.replicas c.loop-j.j c.index-replicas-j.result in
    let there : At c.loop-j.replicas c.loop-j.j here = at_read c.loop-j.replicas c.loop-j.j c.index-replicas-j.result within in
    record {
      went = went_step _ _ c.loop-j.j c.args.replicas.now c.loop-j.replicas here c.open_one.new.replica c.loop-j.invariant.went there
          (λ i r r' h p. (
            opens_on g.D.Disk.Tells g.D.Disk.files g.D.Piece.Piece.Tells c.loop-j.rows c.open_one.new.rows i r r'
                (λ pair. c.open_one.ensures.others pair i (λ e. absurd (omega (arith, h, e)))) p.0,
            p.1,
            p.2,
            p.3,
            λ tells. drew_on g.D.Disk.files g.D.Disk.drawn c.loop-j.rows c.open_one.new.rows i r r' (λ pair. c.open_one.ensures.others pair i (λ e. absurd (omega (arith, h, e)))) (p.4 tells),
          ))
          (c.in-Ok.ensures.opened, (c.open_one.ensures.counts, c.open_one.ensures.fuses), c.open_one.ensures.left, c.open_one.ensures.kept, c.in-Ok.ensures.drew);
      width = c.open_one.ensures.width ∙ c.loop-j.invariant.width;
      long = c.open_one.ensures.long;
      empty = λ pair i h. c.open_one.ensures.others pair i (λ e. absurd (omega (arith, h, e))) ∙ c.loop-j.invariant.empty pair i (let less : c.loop-j.j ≤ i = omega (arith, h) in less);
    }

pub returns-clause-counts : goal.returns-clause-counts
returns-clause-counts g c = went_counts g.D.Disk.fault_count g.D.Disk.fuse_count _ _ c.args.replicas.now _ c.loop-j.invariant.went (λ i r r' p. p.1)

pub returns-clause-opened : goal.returns-clause-opened
returns-clause-opened g c = λ j r r' e f. (went_all _ _ c.args.replicas.now _ c.loop-j.invariant.went (let all : length c.args.replicas.now ≤ c.loop-j.j = omega arith in all) j r r' e f).0

pub returns-clause-left : goal.returns-clause-left
returns-clause-left g c = λ j r r' e f. (went_all _ _ c.args.replicas.now _ c.loop-j.invariant.went (let all : length c.args.replicas.now ≤ c.loop-j.j = omega arith in all) j r r' e f).2

pub returns-clause-kept : goal.returns-clause-kept
returns-clause-kept g c = λ tells j r r' e f. (went_all _ _ c.args.replicas.now _ c.loop-j.invariant.went (let all : length c.args.replicas.now ≤ c.loop-j.j = omega arith in all) j r r' e f).3 tells

pub returns-in-Err-clause-reach : goal.returns-in-Err-clause-reach
returns-in-Err-clause-reach g c =
    let within : c.loop-j.j < length c.loop-j.replicas = omega arith in
    let here : Copy g.row.D.Denot = slice_index_or c.loop-j.replicas c.loop-j.j c.index-replicas-j.result in
    let there : At c.loop-j.replicas c.loop-j.j here = at_read c.loop-j.replicas c.loop-j.j c.index-replicas-j.result within in
    let Reach : ℕ → Copy g.row.D.Denot → Copy g.row.D.Denot → Type 0 = λ i x y. g.D.Disk.Tells → ReachesPlaces g.D.Disk.files g.D.Piece.Piece.Tells c.open_one.new.rows i y in
    let went : Went Reach (c.loop-j.j + 1) c.args.replicas.now (slice_set c.loop-j.replicas c.loop-j.j c.open_one.new.replica) =
    went_step _ Reach c.loop-j.j c.args.replicas.now c.loop-j.replicas here c.open_one.new.replica c.loop-j.invariant.went there
    (λ i x y h p tells. reaches_same g.D.Disk.files c.loop-j.rows c.open_one.new.rows i y (λ pair. c.open_one.ensures.others pair i (λ e. absurd (omega (arith, h, e)))) (p.0.reach tells))
    c.open_one.ensures.reach in
    reach_from g.D.Disk.Tells g.D.Disk.files c.open_one.new.rows Reach (c.loop-j.j + 1) c.args.replicas.now _ went (λ i x y d. d) c.requires.closed

pub returns-clause-reach : goal.returns-clause-reach
returns-clause-reach g c = reach_from g.D.Disk.Tells g.D.Disk.files c.loop-j.rows _ c.loop-j.j c.args.replicas.now _ c.loop-j.invariant.went (λ i x y p tells. p.0.reach tells) c.requires.closed

pub returns-in-Err-clause-thawed : goal.returns-in-Err-clause-thawed
returns-in-Err-clause-thawed g c = λ i r f.
    let within : c.loop-j.j < length c.loop-j.replicas = omega arith in
    let here : Copy g.row.D.Denot = slice_index_or c.loop-j.replicas c.loop-j.j c.index-replicas-j.result in
    let there : At c.loop-j.replicas c.loop-j.j here = at_read c.loop-j.replicas c.loop-j.j c.index-replicas-j.result within in
    let low : i < length c.args.replicas.now =
    (let h = at_below _ i r f in let l = length-slice_set c.loop-j.replicas c.loop-j.j c.open_one.new.replica in let w = c.loop-j.invariant.went.count in omega (arith, h, l, w)) in
    let old = at_there c.args.replicas.now i low in
    elim (cases_lt i c.loop-j.j) [
      | inl less ↦ up_thawed r (broken_below _ c.loop-j.j c.args.replicas.now c.loop-j.replicas here c.open_one.new.replica c.loop-j.invariant.went there i old.0 r less old.1 f).0.up
      | inr most ↦ elim (cases_lt c.loop-j.j i) [
        | inl more ↦ ap (λ (x : Copy g.row.D.Denot). is_frozen x) (broken_above _ c.loop-j.j c.args.replicas.now c.loop-j.replicas here c.open_one.new.replica
            c.loop-j.invariant.went there i old.0 r more old.1 f)
            ∙ ap phase_frozen (c.requires.closed i old.0 old.1)
        | inr no_more ↦
            let same : i ≡ c.loop-j.j = omega (arith, most, no_more) in
            let is = broken_is _ c.loop-j.j c.args.replicas.now c.loop-j.replicas here c.open_one.new.replica c.loop-j.invariant.went there in
            ap (λ (x : Copy g.row.D.Denot). is_frozen x) (at_same _ c.loop-j.j r c.open_one.new.replica
            (subst (λ k. At (slice_set c.loop-j.replicas c.loop-j.j c.open_one.new.replica) k r) same f) is) ∙ c.open_one.ensures.thawed
      ]
    ]

pub returns-clause-drew : goal.returns-clause-drew
returns-clause-drew g c = λ tells j r r' e f. (went_all _ _ c.args.replicas.now _ c.loop-j.invariant.went (let all : length c.args.replicas.now ≤ c.loop-j.j = omega arith in all) j r r' e f).4 tells
