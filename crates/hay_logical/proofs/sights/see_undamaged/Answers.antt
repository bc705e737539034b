use Rattle.std.proofs.Common.{◌≡◌, ◌≤◌, ◌<◌, ℕ, length, Err, refl, sym, subst, ◌∙◌, ◌+◌, arith}
use Rattle.std.specs.Prelude.{IfErr, MatchOption}
use Rattle.hay_needle.specs.declared.settings.TheConstants.{MAX_REPLICAS}
use Rattle.hay_physical.specs.declared.fault.ReplicaFault.{ReplicaFault}
use Rattle.hay_physical.specs.Faults.{IsSightFault}
use Rattle.hay_logical.specs.ReplicaCalls.{IsLookFault}
use Rattle.hay_logical.proofs.Drawing.{draws_each, draws_one}
use Rattle.hay_logical.proofs.Looks.{looks_none, looks_on, seen_on, still_open, still_reached, told_on, unseen}
use Rattle.hay_logical.proofs.Lists.{at_below, went_start}
use Rattle.hay_logical.proofs.Methods.{one_after}
use Rattle.hay_logical.proofs.sights.see_undamaged.Goals as goal
use Rattle.hay_logical.proofs.sights.see_undamaged.Goals.{in-Err+in_default-ending_fault, in_default}

pub loop-at-init : goal.loop-at-init
loop-at-init g c = record {
  looks = looks_none g.D.Disk.Tells g.D.Disk.files g.D.Piece.Piece.Tells g.D.Disk.fault_count g.D.Disk.fuse_count c.args.replicas.now c.args.rows.now;
  drawn = λ tells. record { went = went_start _ c.args.replicas.now; places = λ j later. refl };
  seen = λ tells j r s h. absurd (omega (arith, h));
  told = λ tells j r h. absurd (omega (arith, h));
}

pub see_at-requires : goal.see_at-requires
see_at-requires g c =
    let looks = c.loop-at.invariant.looks in
    let long = looks.counts.count in
    let most = c.requires.most in
    let within = c.loop-at-test.true in
    let up =
    still_open g.D.Disk.Tells g.D.Disk.files g.D.Piece.Piece.Tells g.D.Disk.fault_count g.D.Disk.fuse_count c.args.replicas.now c.loop-at.replicas c.args.rows.now
    c.loop-at.rows looks c.requires.«open» in
    let can =
    still_reached g.D.Disk.Tells g.D.Disk.files g.D.Piece.Piece.Tells g.D.Disk.fault_count g.D.Disk.fuse_count c.args.replicas.now c.loop-at.replicas c.args.rows.now
    c.loop-at.rows looks c.requires.reach in record {
      within = (let less : c.loop-at.at < length c.loop-at.replicas = omega (arith, within, long) in less);
      most = (let few : length c.loop-at.replicas ≤ MAX_REPLICAS = omega (arith, most, long) in few);
      width = looks.width ∙ c.requires.width ∙ sym long;
      «open» = up;
      may = λ tells r e. ((can tells c.loop-at.at r e).sees (up c.loop-at.at r e)).may c.args.pair;
    }

pub ending_fault-requires : goal.ending_fault-requires
ending_fault-requires g c =
    let faults = g.D.Disk.fault_count in
    let one = c.see_at.ensures.one in
    let sights = c.see_at.ensures.sights one.before one.after one.was (one_after c.loop-at.at c.loop-at.replicas c.see_at.new.replicas one) in
    (faults one.before.disk, faults one.after.disk, subst (λ x. IfErr x (IsSightFault (faults one.before.disk) (faults one.after.disk))) c.in-Err.is sights.cause)

pub returns-in-Some-clause-looks : goal.returns-in-Some-clause-looks
returns-in-Some-clause-looks g c =
    let T = g.D.Disk.Tells in
    let files = g.D.Disk.files in
    let faults = g.D.Disk.fault_count in
    let one = c.see_at.ensures.one in
    let sights = c.see_at.ensures.sights one.before one.after one.was (one_after c.loop-at.at c.loop-at.replicas c.see_at.new.replicas one) in
    (looks_on T files g.D.Piece.Piece.Tells faults g.D.Disk.fuse_count c.args.replicas.now c.loop-at.replicas c.args.rows.now c.loop-at.rows c.loop-at.invariant.looks
    c.see_at.new.replicas c.see_at.new.rows c.loop-at.at c.args.pair c.see_at.result one sights c.see_at.ensures.row c.see_at.ensures.counts c.see_at.ensures.told).each

pub returns-in-Some-clause-counts : goal.returns-in-Some-clause-counts
returns-in-Some-clause-counts g c =
    let T = g.D.Disk.Tells in
    let files = g.D.Disk.files in
    let faults = g.D.Disk.fault_count in
    let one = c.see_at.ensures.one in
    let sights = c.see_at.ensures.sights one.before one.after one.was (one_after c.loop-at.at c.loop-at.replicas c.see_at.new.replicas one) in
    (looks_on T files g.D.Piece.Piece.Tells faults g.D.Disk.fuse_count c.args.replicas.now c.loop-at.replicas c.args.rows.now c.loop-at.rows c.loop-at.invariant.looks
    c.see_at.new.replicas c.see_at.new.rows c.loop-at.at c.args.pair c.see_at.result one sights c.see_at.ensures.row c.see_at.ensures.counts c.see_at.ensures.told).counts

pub returns-in-Some-clause-refused : goal.returns-in-Some-clause-refused
returns-in-Some-clause-refused g c =
    let T = g.D.Disk.Tells in
    let files = g.D.Disk.files in
    let faults = g.D.Disk.fault_count in
    let one = c.see_at.ensures.one in
    let sights = c.see_at.ensures.sights one.before one.after one.was (one_after c.loop-at.at c.loop-at.replicas c.see_at.new.replicas one) in
    let cause : IsSightFault (faults one.before.disk) (faults one.after.disk) c.in-Err.fault =
    subst (λ x. IfErr x (IsSightFault (faults one.before.disk) (faults one.after.disk))) c.in-Err.is sights.cause in
    let is =
    subst (λ x. MatchOption x ((k : ℕ) × (c.in-Err.fault ≡ ReplicaFault.Damaged k)) (IsLookFault (faults one.before.disk) (faults one.after.disk))) c.in-Some.is
    (c.ending_fault.ensures.cause (faults one.before.disk) (faults one.after.disk) cause) in
    unseen T files g.D.Piece.Piece.Tells faults g.D.Disk.fuse_count c.args.replicas.now c.loop-at.replicas c.args.rows.now c.loop-at.rows c.loop-at.invariant.looks
    c.see_at.new.replicas c.see_at.new.rows c.loop-at.at c.args.pair c.see_at.result one sights c.see_at.ensures.row c.see_at.ensures.counts c.see_at.ensures.told c.in-Some.fault is

pub loop-at-preserved : goal.loop-at-preserved
loop-at-preserved g c =
    let T = g.D.Disk.Tells in
    let files = g.D.Disk.files in
    let faults = g.D.Disk.fault_count in
    let one = c.see_at.ensures.one in
    let sights = c.see_at.ensures.sights one.before one.after one.was (one_after c.loop-at.at c.loop-at.replicas c.see_at.new.replicas one) in
    let only : (f : ReplicaFault) → c.see_at.result ≡ Err f → (k : ℕ) × (f ≡ ReplicaFault.Damaged k) =
    (λ f e. elim c.match-see_at.branch [
      | in-Err+in_default-ending_fault w ↦
          let cause : IsSightFault (faults one.before.disk) (faults one.after.disk) w.in-Err.fault =
          subst (λ x. IfErr x (IsSightFault (faults one.before.disk) (faults one.after.disk))) w.in-Err.is sights.cause in
          let damaged = w.in_default-ending_fault.ensures.cause (faults one.before.disk) (faults one.after.disk) cause in
          let same : f ≡ w.in-Err.fault = let both = sym e ∙ w.in-Err.is in cc in
          (damaged.0, same ∙ damaged.1)
      | in_default w ↦ absurd (w.in_default.not-Err f e)
    ]) in
    record {
      looks =
          looks_on T files g.D.Piece.Piece.Tells faults g.D.Disk.fuse_count c.args.replicas.now c.loop-at.replicas c.args.rows.now c.loop-at.rows c.loop-at.invariant.looks
          c.see_at.new.replicas c.see_at.new.rows c.loop-at.at c.args.pair c.see_at.result one sights c.see_at.ensures.row c.see_at.ensures.counts c.see_at.ensures.told;
      drawn = λ tells.
          draws_one g.D.Disk.drawn c.args.pair c.args.rows.now c.loop-at.at c.args.replicas.now c.loop-at.replicas c.see_at.new.replicas c.loop-at.rows c.see_at.new.rows
          c.see_at.result (c.loop-at.invariant.drawn tells) one c.see_at.ensures.row
          (c.see_at.ensures.drawn tells one.before one.after one.was (one_after c.loop-at.at c.loop-at.replicas c.see_at.new.replicas one));
      seen =
          λ tells. seen_on T files g.D.Piece.Piece.Tells faults g.D.Disk.fuse_count c.args.replicas.now c.loop-at.replicas c.args.rows.now c.loop-at.rows c.loop-at.invariant.looks
          c.see_at.new.replicas c.see_at.new.rows c.loop-at.at c.args.pair c.see_at.result one sights c.see_at.ensures.row c.see_at.ensures.counts c.see_at.ensures.told tells only
          (c.loop-at.invariant.seen tells);
      told =
          λ tells. told_on T files g.D.Piece.Piece.Tells faults g.D.Disk.fuse_count c.args.replicas.now c.loop-at.replicas c.args.rows.now c.loop-at.rows c.loop-at.invariant.looks
          c.see_at.new.replicas c.see_at.new.rows c.loop-at.at c.args.pair c.see_at.result one sights c.see_at.ensures.row c.see_at.ensures.counts c.see_at.ensures.told tells only
          ((c.loop-at.invariant.drawn tells).places c.loop-at.at (let here : c.loop-at.at ≤ c.loop-at.at = omega arith in here)) (c.loop-at.invariant.told tells);
    }

pub returns-clause-looks : goal.returns-clause-looks
returns-clause-looks g c = c.loop-at.invariant.looks.each

pub returns-clause-seen : goal.returns-clause-seen
returns-clause-seen g c = λ tells j r s e stands places.
    c.loop-at.invariant.seen tells j r s (let h = at_below c.args.replicas.now j r e in let over = c.loop-at-test.false in let less : j < c.loop-at.at = omega (arith, h, over) in less) e stands places

pub returns-clause-width : goal.returns-clause-width
returns-clause-width g c = c.loop-at.invariant.looks.width

pub returns-clause-counts : goal.returns-clause-counts
returns-clause-counts g c = c.loop-at.invariant.looks.counts

pub returns-in-Some-clause-drawn : goal.returns-in-Some-clause-drawn
returns-in-Some-clause-drawn g c = λ tells.
    let one = c.see_at.ensures.one in
    draws_each g.D.Disk.drawn c.args.pair c.args.rows.now (c.loop-at.at + 1) c.args.replicas.now c.see_at.new.replicas c.see_at.new.rows
    (draws_one g.D.Disk.drawn c.args.pair c.args.rows.now c.loop-at.at c.args.replicas.now c.loop-at.replicas c.see_at.new.replicas c.loop-at.rows c.see_at.new.rows c.see_at.result
    (c.loop-at.invariant.drawn tells) one c.see_at.ensures.row
    (c.see_at.ensures.drawn tells one.before one.after one.was (one_after c.loop-at.at c.loop-at.replicas c.see_at.new.replicas one)))

pub returns-clause-drawn : goal.returns-clause-drawn
returns-clause-drawn g c = λ tells.
    draws_each g.D.Disk.drawn c.args.pair c.args.rows.now c.loop-at.at c.args.replicas.now c.loop-at.replicas c.loop-at.rows (c.loop-at.invariant.drawn tells)

pub returns-clause-told : goal.returns-clause-told
returns-clause-told g c = λ tells j r e.
    c.loop-at.invariant.told tells j r (let h = at_below c.args.replicas.now j r e in let over = c.loop-at-test.false in let less : j < c.loop-at.at = omega (arith, h, over) in less) e
