use Rattle.std.proofs.Common.{◌≡◌, ◌≤◌, ◌<◌, ◌+◌, ℕ, cond, inl, length, Some, None, refl, sym, ap, subst, ◌∙◌, arith}
use Rattle.std.specs.Prelude.{IfErr, IsOk}
use Rattle.hay_legal.specs.Known.{room_refusal_of}
use Rattle.hay_needle.specs.Tables.{pair_eq}
use Rattle.hay_needle.specs.declared.settings.TheConstants.{MAX_REPLICAS}
use Rattle.std.specs.Vec.{with_items}
use Rattle.std.proofs.lemmas.List.{with_items_is}
use Rattle.hay_map.specs.Places.{place_in}
use Rattle.hay_map.specs.Rows.{KeepsRows}
use Rattle.hay_physical.specs.OpenCopies.{Copy, IsOpenCopy, IsUp, end_of}
use Rattle.hay_logical.specs.declared.unsure.Change.TheVariants as change
use Rattle.hay_logical.specs.declared.written.Written.{Written}
use Rattle.hay_logical.specs.Answers.{HasRoom, IsRoomFault, PutRefused}
use Rattle.hay_logical.specs.Answers as answers
use Rattle.hay_logical.specs.Fits.{At}
use Rattle.hay_logical.specs.Stands.{Stands, StandsFor}
use Rattle.hay_logical.specs.ReplicaCalls.{AllIdle, EndsRuns, KeepsAbove, Lengthens, PutLeaves, PutsAt, StaysInReach}
use Rattle.hay_logical.specs.Unshown.{IsWritten}
use Rattle.hay_logical.specs.Volumes.{CanReach, IsShaped, KeepsCounts}
use Rattle.hay_logical.proofs.Calls.{counted_same, keeps_counts, open_up, reach_still, up_open, up_thawed}
use Rattle.hay_logical.proofs.Dropping.{all_idle, not_untouched, still_runs}
use Rattle.hay_logical.proofs.Lists.{at_below, at_same, at_there}
use Rattle.hay_logical.proofs.Methods.{same_by, same_still, shaped_on}
use Rattle.hay_logical.proofs.Standing.{volume_with}
use Rattle.hay_logical.proofs.Changing.{put_remains, some_none}
use Rattle.hay_logical.proofs.Reaching.{put_row, same_rows, seen_apart, seen_sees}
use Rattle.hay_logical.proofs.Putting.{all_thawed, is_err_of, ok_of, put_cause_of, put_refused, room_cause, room_ok, room_refused, rows_kept, untouched}
use Rattle.hay_logical.proofs.Refusing.{refusal_breaks, refuses_put}
use Rattle.hay_logical.proofs.Showing.{written}
use Rattle.hay_logical.proofs.Freezing.{frozen_refusal}
use Rattle.hay_logical.specs.declared.fault.LogicalFault.{LogicalFault}
use Rattle.hay_logical.specs.declared.fault.LogicalFault.TheVariants as logical
use Rattle.hay_logical.proofs.Above.{above_put}
use Rattle.hay_logical.specs.Refusals.{IsUntouched}
use Rattle.hay_logical.proofs.Untouched.{stuck_same}
use Rattle.std.specs.Prelude.{OnErr}
use Rattle.hay_logical.specs.Stands.{IsTightAt}
use Rattle.hay_logical.proofs.Tightness.{tight_untouched}
use Rattle.std.proofs.Common.{ap, List, Option}
use Rattle.std.specs.Prelude.{map}
use Rattle.hay_logical.specs.declared.unsure.Unsure.{Unsure}
use Rattle.hay_logical.specs.Sights.Sight.{Live}
use Rattle.hay_logical.specs.Seen.{AreEnds, PutRefusedSeen, ReplicaSeen, VolumeSeen, grown, replica_seen, volume_seen}
use Rattle.hay_logical.proofs.Seen.{longer_seen, many_seen, map_at}
use Rattle.hay_logical.proofs.SeenSwaps.{idle_seen}
use Rattle.hay_logical.proofs.SeenChanges.{broken_put_seen, map_both, maps_by, room_put_seen}
use Rattle.hay_logical.proofs.SightChanges.{live_seen}
use Rattle.hay_logical.proofs.logical.Logical.write.Goals as goal

pub put_each-requires : goal.put_each-requires
put_each-requires g c =
    let now = c.as_mut_slice.ensures.value in
    let thawed : c.self.inside.frozen ≡ None = ap (λ v. v.frozen) c.self.view_is ∙ c.in_ok-room.ensures.fits.0 in
    let up : (j : ℕ) (r : Copy g.row.D.Denot) → At c.self.inside.replicas.items j r → IsUp r =
    λ j r e. open_up r (c.requires.«open».each j r (subst (λ v. At v.replicas j r) c.self.view_is e)) ((c.self.invariant.0).thawed thawed j r e) in
    let most = (c.self.invariant.0).settings.most in
    let few = (c.self.invariant.0).count in
    let long = ap length now in record {
      most = (let n : length c.as_mut_slice.result.now ≤ MAX_REPLICAS = omega (arith, most, few, long) in n);
      size = c.requires.size;
      up = λ j r e. up j r (subst (λ xs. At xs j r) now e);
      room = λ j r e. c.in_ok-room.ensures.fits.1 j r (subst (λ v. At v.replicas j r) c.self.view_is (subst (λ xs. At xs j r) now e));
    }

pub ends_of-ends-requires-clause-most : goal.ends_of-ends-requires-clause-most
ends_of-ends-requires-clause-most g c =
    let most = (c.self.invariant.0).settings.most in
    let few = (c.self.invariant.0).count in
    let long = ap length c.as_slice.ensures.value in
    omega (arith, most, few, long)

pub ends_of-ends-requires-clause-open : goal.ends_of-ends-requires-clause-open
ends_of-ends-requires-clause-open g c = λ j r e. c.requires.«open».each j r (subst (λ v. At v.replicas j r) c.self.view_is (subst (λ xs. At xs j r) c.as_slice.ensures.value e))

pub returns-in_err-room-clause-refused : goal.returns-in_err-room-clause-refused
returns-in_err-room-clause-refused g c = λ tells k stands.
    subst (λ r. IfErr r (PutRefused g.D.Disk.files g.D.Piece.Piece.Tells k c.args.tag c.args.pair c.args.cookie c.args.bytes.now c.args.self.now c.args.self.now))
    (sym (is_err_of c.from_residual.result c.in_err-room.field-0.0 c.from_residual.ensures.1))
    (room_refused g.D.Disk.files g.D.Piece.Piece.Tells k c.args.tag c.args.pair c.args.cookie c.args.bytes.now c.args.self.now c.in_err-room.field-0.0
    (sym c.in_err-room.was ∙ c.room.ensures.known tells k stands))

pub returns-in_err-room-clause-causes : goal.returns-in_err-room-clause-causes
returns-in_err-room-clause-causes g c =
    subst (λ r. IfErr r (answers.IsPutFault g.D.Disk.fault_count c.args.self.now.settings c.args.self.now.number c.args.self.now.replicas c.args.self.now.replicas))
    (sym (is_err_of c.from_residual.result c.in_err-room.field-0.0 c.from_residual.ensures.1))
    (room_cause g.D.Disk.fault_count c.args.self.now.settings c.args.self.now.number c.args.self.now.replicas c.args.self.now.replicas c.in_err-room.field-0.0 c.in_err-room.ensures.causes)

pub returns-in_default-clause-refused : goal.returns-in_default-clause-refused
returns-in_default-clause-refused g c =
    λ tells k stands. (
      (room_ok c.args.self.now.settings k.frozen (room_refusal_of c.args.self.now.settings c.args.self.now.number k (length c.args.bytes.now)) c.in_ok-room.field-0
          (sym c.in_ok-room.was ∙ c.room.ensures.known tells k stands)),
      inl stands,
    )

pub invariant_of-self : goal.invariant_of-self
invariant_of-self g c = (
  shaped_on c.self.inside.settings c.self.inside.number c.self.inside.replicas.items c.self.inside.replicas.items c.self.inside.rows c.reserve.new.self c.self.inside.front
      c.self.inside.front c.self.inside.frozen c.self.inside.frozen c.self.inside.unsure c.self.inside.unsure
      c.self.invariant.0 (c.self.invariant.0).frozen_by (c.self.invariant.0).settled refl (λ j r r' e f. ap (λ x. x.sup) (at_same c.self.inside.replicas.items j r' r f e))
      c.reserve.ensures.rows.replicas (λ none j r r' e f. (c.self.invariant.0).thawed none j r' f),
  c.self.invariant.1,
  same_rows g.D.Disk.Tells g.D.Disk.files c.self.inside.replicas.items c.self.inside.replicas.items c.self.inside.rows c.reserve.new.self c.self.invariant.2 refl
      (λ j r r' e f. let same = at_same c.self.inside.replicas.items j r' r f e in (
        λ u. subst (λ (x : Copy g.row.D.Denot). IsUp x) same u,
        λ u. subst (λ (x : Copy g.row.D.Denot). IsOpenCopy x) same u,
      ))
      (λ j r r' e f. subst (λ x. StaysInReach g.D.Disk.Tells g.D.Disk.files r x) (at_same c.self.inside.replicas.items j r r' e f) (λ tells. reach_still g.D.Disk.files r)) c.reserve.ensures.rows.rows,
)

pub returns-then-is_err-clause-refused : goal.returns-then-is_err-clause-refused
unfolding Stands
returns-then-is_err-clause-refused g c = λ tells k stands.
    let thawed : c.self.inside.frozen ≡ None = ap (λ v. v.frozen) c.self.view_is ∙ c.in_ok-room.ensures.fits.0 in (
      (room_ok c.args.self.now.settings k.frozen (room_refusal_of c.args.self.now.settings c.args.self.now.number k (length c.args.bytes.now)) c.in_ok-room.field-0
          (sym c.in_ok-room.was ∙ c.room.ensures.known tells k stands)),
      inl (rows_kept c.self.inside.settings c.self.inside.number g.D.Disk.Tells g.D.Disk.files g.D.Piece.Piece.Tells g.D.Disk.fault_count c.self.inside.replicas.items
          c.self.inside.rows c.reserve.new.self c.self.inside.front c.self.inside.frozen c.self.inside.unsure k thawed c.reserve.ensures.rows.rows
          (subst (λ v. StandsFor g.D.Disk.files g.D.Piece.Piece.Tells v k) (sym c.self.view_is) stands)),
    )

pub returns-then-is_err-clause-open : goal.returns-then-is_err-clause-open
returns-then-is_err-clause-open g c = record {
  all = ap (λ v. length v.replicas) c.self.view_is ∙ c.requires.«open».all ∙ ap (λ v. v.settings.replicas) (sym c.self.view_is);
  each = λ j r e. c.requires.«open».each j r (subst (λ v. At v.replicas j r) c.self.view_is e);
}

pub returns-then-is_err-clause-counts : goal.returns-then-is_err-clause-counts
returns-then-is_err-clause-counts g c =
    subst (λ xs. KeepsCounts g.D.Disk.fault_count g.D.Disk.fuse_count xs c.self.inside.replicas.items) (ap (λ v. v.replicas) c.self.view_is)
    (keeps_counts g.D.Disk.fault_count g.D.Disk.fuse_count c.self.inside.replicas.items c.self.inside.replicas.items refl
    (λ j r r' e f. counted_same g.D.Disk.fault_count g.D.Disk.fuse_count r r' (at_same c.self.inside.replicas.items j r' r f e)))

pub invariant_of-self-in-Ok : goal.invariant_of-self-in-Ok
invariant_of-self-in-Ok g c =
    let now = c.as_mut_slice.ensures.value in
    let kept = with_items_is c.self.inside.replicas c.put_each.new.replicas (c.put_each.auto.replicas ∙ c.as_mut_slice.ensures.len) in
    let thawed : c.self.inside.frozen ≡ None = ap (λ v. v.frozen) c.self.view_is ∙ c.in_ok-room.ensures.fits.0 in
    let up : (j : ℕ) (r : Copy g.row.D.Denot) → At c.self.inside.replicas.items j r → IsUp r =
    λ j r e. open_up r (c.requires.«open».each j r (subst (λ v. At v.replicas j r) c.self.view_is e)) ((c.self.invariant.0).thawed thawed j r e) in
    let each : (j : ℕ) (r r' : Copy g.row.D.Denot) → At c.self.inside.replicas.items j r → At c.put_each.new.replicas j r'
    → PutsAt g.D.Disk.Tells g.D.Disk.files g.D.Piece.Piece.Tells c.args.pair c.args.cookie c.args.bytes.now r r' (place_in c.in-Ok.row j) =
    λ j r r' e f. c.in-Ok.ensures.put j r r' (subst (λ xs. At xs j r) (sym now) e) f in (
      subst (λ rs. IsShaped (volume_with c.self.inside.settings c.self.inside.number rs c.reserve.new.self c.self.inside.front c.self.inside.frozen c.self.inside.unsure)) (sym kept)
          (shaped_on c.self.inside.settings c.self.inside.number c.self.inside.replicas.items c.put_each.new.replicas c.self.inside.rows c.reserve.new.self c.self.inside.front
          c.self.inside.front c.self.inside.frozen c.self.inside.frozen c.self.inside.unsure c.self.inside.unsure
          c.self.invariant.0 (c.self.invariant.0).frozen_by (c.self.invariant.0).settled (c.put_each.ensures.counts.count ∙ ap length now) (λ j r r' e f. (each j r r' e f).sup)
          c.reserve.ensures.rows.replicas (λ none j r r' e f. up_thawed r' (each j r r' e f).up)),
      c.self.invariant.1,
      subst (λ rs. CanReach g.D.Disk.Tells g.D.Disk.files g.D.Piece.Piece.Tells rs c.reserve.new.self) (sym kept)
          (same_rows g.D.Disk.Tells g.D.Disk.files c.self.inside.replicas.items c.put_each.new.replicas c.self.inside.rows c.reserve.new.self c.self.invariant.2
          (c.put_each.ensures.counts.count ∙ ap length now) (λ j r r' e f. (λ u. up j r e, λ u. up_open r (up j r e)))
          (λ j r r' e f. c.put_each.ensures.reach j r r' (subst (λ xs. At xs j r) (sym now) e) f) c.reserve.ensures.rows.rows),
    )

pub is_untouched-requires : goal.is_untouched-requires
is_untouched-requires g c =
    let now = c.as_mut_slice.ensures.value in
    let kept = with_items_is c.self.inside.replicas c.put_each.new.replicas (c.put_each.auto.replicas ∙ c.as_mut_slice.ensures.len) in
    let below = at_below c.put_each.new.replicas c.in-Err.broken.at c.in-Err.ensures.broken.after c.in-Err.ensures.broken.is in
    let long : length c.as_slice-in-Err.result.now ≡ length c.put_each.new.replicas = ap length (c.as_slice-in-Err.ensures.value ∙ kept) in
    omega (arith, below, long)

pub invariant_of-self-then-is_untouched : goal.invariant_of-self-then-is_untouched
invariant_of-self-then-is_untouched g c =
    let now = c.as_mut_slice.ensures.value in
    let kept = with_items_is c.self.inside.replicas c.put_each.new.replicas (c.put_each.auto.replicas ∙ c.as_mut_slice.ensures.len) in
    let thawed : c.self.inside.frozen ≡ None = ap (λ v. v.frozen) c.self.view_is ∙ c.in_ok-room.ensures.fits.0 in
    let up : (j : ℕ) (r : Copy g.row.D.Denot) → At c.self.inside.replicas.items j r → IsUp r =
    λ j r e. open_up r (c.requires.«open».each j r (subst (λ v. At v.replicas j r) c.self.view_is e)) ((c.self.invariant.0).thawed thawed j r e) in
    let left : PutLeaves g.D.Disk.Tells g.D.Disk.files g.D.Disk.fault_count c.args.pair c.args.cookie c.args.bytes.now c.self.inside.replicas.items c.put_each.new.replicas c.in-Err.broken =
    subst (λ xs. PutLeaves g.D.Disk.Tells g.D.Disk.files g.D.Disk.fault_count c.args.pair c.args.cookie c.args.bytes.now xs c.put_each.new.replicas c.in-Err.broken) now c.in-Err.ensures.broken in
    let un : IsUntouched c.put_each.new.replicas c.in-Err.broken =
    subst (λ xs. IsUntouched xs c.in-Err.broken) (c.as_slice-in-Err.ensures.value ∙ kept) (c.is_untouched.ensures.untouched c.if-is_untouched.true) in
    let remains =
    put_remains g.D.Disk.Tells g.D.Disk.files g.D.Disk.fault_count c.args.pair c.args.cookie c.args.bytes.now c.self.inside.replicas.items c.put_each.new.replicas c.in-Err.broken left up in (
      subst (λ rs. IsShaped (volume_with c.self.inside.settings c.self.inside.number rs c.reserve.new.self c.self.inside.front c.self.inside.frozen c.self.inside.unsure)) (sym kept)
          (shaped_on c.self.inside.settings c.self.inside.number c.self.inside.replicas.items c.put_each.new.replicas c.self.inside.rows c.reserve.new.self c.self.inside.front
          c.self.inside.front c.self.inside.frozen c.self.inside.frozen c.self.inside.unsure c.self.inside.unsure
          c.self.invariant.0 (c.self.invariant.0).frozen_by (c.self.invariant.0).settled (c.put_each.ensures.counts.count ∙ ap length now) (λ j r r' e f. (remains j r r' e f).sup)
          c.reserve.ensures.rows.replicas
          (λ none j r r' e f. all_thawed g.D.Disk.Tells g.D.Disk.files g.D.Disk.fault_count c.args.pair c.args.cookie c.args.bytes.now c.self.inside.replicas.items
          c.put_each.new.replicas c.in-Err.broken left un up j r r' e f)),
      c.self.invariant.1,
      subst (λ rs. CanReach g.D.Disk.Tells g.D.Disk.files g.D.Piece.Piece.Tells rs c.reserve.new.self) (sym kept)
          (same_rows g.D.Disk.Tells g.D.Disk.files c.self.inside.replicas.items c.put_each.new.replicas c.self.inside.rows c.reserve.new.self c.self.invariant.2
          (c.put_each.ensures.counts.count ∙ ap length now) (λ j r r' e f. (λ u. up j r e, λ u. up_open r (up j r e)))
          (λ j r r' e f. c.put_each.ensures.reach j r r' (subst (λ xs. At xs j r) (sym now) e) f) c.reserve.ensures.rows.rows),
    )

pub returns-then-is_untouched-clause-refused : goal.returns-then-is_untouched-clause-refused
unfolding Stands
returns-then-is_untouched-clause-refused g c = λ tells k stands.
    let now = c.as_mut_slice.ensures.value in
    let kept = with_items_is c.self.inside.replicas c.put_each.new.replicas (c.put_each.auto.replicas ∙ c.as_mut_slice.ensures.len) in
    let thawed : c.self.inside.frozen ≡ None = ap (λ v. v.frozen) c.self.view_is ∙ c.in_ok-room.ensures.fits.0 in
    let left : PutLeaves g.D.Disk.Tells g.D.Disk.files g.D.Disk.fault_count c.args.pair c.args.cookie c.args.bytes.now c.self.inside.replicas.items c.put_each.new.replicas c.in-Err.broken =
    subst (λ xs. PutLeaves g.D.Disk.Tells g.D.Disk.files g.D.Disk.fault_count c.args.pair c.args.cookie c.args.bytes.now xs c.put_each.new.replicas c.in-Err.broken) now c.in-Err.ensures.broken in
    let un : IsUntouched c.put_each.new.replicas c.in-Err.broken =
    subst (λ xs. IsUntouched xs c.in-Err.broken) (c.as_slice-in-Err.ensures.value ∙ kept) (c.is_untouched.ensures.untouched c.if-is_untouched.true) in (
      (room_ok c.args.self.now.settings k.frozen (room_refusal_of c.args.self.now.settings c.args.self.now.number k (length c.args.bytes.now)) c.in_ok-room.field-0
          (sym c.in_ok-room.was ∙ c.room.ensures.known tells k stands)),
      inl (subst (λ rs. StandsFor g.D.Disk.files g.D.Piece.Piece.Tells (volume_with c.self.inside.settings c.self.inside.number rs c.reserve.new.self c.self.inside.front
          c.self.inside.frozen c.self.inside.unsure) k) (sym kept)
          (untouched c.self.inside.settings c.self.inside.number g.D.Disk.Tells g.D.Disk.files g.D.Piece.Piece.Tells g.D.Disk.fault_count c.args.pair c.args.cookie c.args.bytes.now
          c.self.inside.replicas.items c.put_each.new.replicas c.in-Err.broken left un (still_runs g.D.Disk.Tells g.D.Disk.files c.self.inside.replicas.items
          c.put_each.new.replicas c.in-Err.broken (subst (λ xs. EndsRuns g.D.Disk.Tells g.D.Disk.files xs c.put_each.new.replicas c.in-Err.broken) now c.in-Err.ensures.runs)
          un) tells c.reserve.new.self c.self.inside.front c.self.inside.frozen c.self.inside.unsure k thawed (c.put_each.ensures.counts.count ∙ ap length now)
          (rows_kept c.self.inside.settings c.self.inside.number g.D.Disk.Tells g.D.Disk.files g.D.Piece.Piece.Tells g.D.Disk.fault_count c.self.inside.replicas.items
          c.self.inside.rows c.reserve.new.self c.self.inside.front c.self.inside.frozen c.self.inside.unsure k thawed c.reserve.ensures.rows.rows
          (subst (λ v. StandsFor g.D.Disk.files g.D.Piece.Piece.Tells v k) (sym c.self.view_is) stands)))),
    )

pub returns-then-is_untouched-clause-open : goal.returns-then-is_untouched-clause-open
returns-then-is_untouched-clause-open g c =
    let now = c.as_mut_slice.ensures.value in
    let kept = with_items_is c.self.inside.replicas c.put_each.new.replicas (c.put_each.auto.replicas ∙ c.as_mut_slice.ensures.len) in
    let thawed : c.self.inside.frozen ≡ None = ap (λ v. v.frozen) c.self.view_is ∙ c.in_ok-room.ensures.fits.0 in
    let up : (j : ℕ) (r : Copy g.row.D.Denot) → At c.self.inside.replicas.items j r → IsUp r =
    λ j r e. open_up r (c.requires.«open».each j r (subst (λ v. At v.replicas j r) c.self.view_is e)) ((c.self.invariant.0).thawed thawed j r e) in
    let left : PutLeaves g.D.Disk.Tells g.D.Disk.files g.D.Disk.fault_count c.args.pair c.args.cookie c.args.bytes.now c.self.inside.replicas.items c.put_each.new.replicas c.in-Err.broken =
    subst (λ xs. PutLeaves g.D.Disk.Tells g.D.Disk.files g.D.Disk.fault_count c.args.pair c.args.cookie c.args.bytes.now xs c.put_each.new.replicas c.in-Err.broken) now c.in-Err.ensures.broken in
    let remains =
    put_remains g.D.Disk.Tells g.D.Disk.files g.D.Disk.fault_count c.args.pair c.args.cookie c.args.bytes.now c.self.inside.replicas.items c.put_each.new.replicas c.in-Err.broken left up in
    record {
      all =
          ap length kept ∙ (c.put_each.ensures.counts.count ∙ ap length now) ∙ ap (λ v. length v.replicas) c.self.view_is ∙ c.requires.«open».all ∙ ap (λ v. v.settings.replicas) (sym c.self.view_is);
      each = λ j r' f.
          let there = subst (λ xs. At xs j r') kept f in
          let old = at_there c.self.inside.replicas.items j (subst (λ n. j < n) (c.put_each.ensures.counts.count ∙ ap length now) (at_below c.put_each.new.replicas j r' there)) in
          (remains j old.0 r' old.1 there).«open»;
    }

pub returns-then-is_untouched-clause-counts : goal.returns-then-is_untouched-clause-counts
returns-then-is_untouched-clause-counts g c =
    let now = c.as_mut_slice.ensures.value in
    let kept = with_items_is c.self.inside.replicas c.put_each.new.replicas (c.put_each.auto.replicas ∙ c.as_mut_slice.ensures.len) in
    subst (λ rs. KeepsCounts g.D.Disk.fault_count g.D.Disk.fuse_count c.args.self.now.replicas rs) (sym kept)
    (subst (λ xs. KeepsCounts g.D.Disk.fault_count g.D.Disk.fuse_count xs c.put_each.new.replicas) (now ∙ ap (λ v. v.replicas) c.self.view_is) c.put_each.ensures.counts)

pub put_refusal-refusal-requires-clause-of : goal.put_refusal-refusal-requires-clause-of
put_refusal-refusal-requires-clause-of g c = (c.self.invariant.0).settings

pub put_refusal-refusal-requires-clause-refuses : goal.put_refusal-refusal-requires-clause-refuses
put_refusal-refusal-requires-clause-refuses g c =
    let left = c.in-Err.ensures.broken in
    refuses_put g.D.Disk.fault_count left.before left.after c.in-Err.broken.fault left.cause

pub put_refusal-refusal-requires-clause-within : goal.put_refusal-refusal-requires-clause-within
put_refusal-refusal-requires-clause-within g c =
    let below = at_below c.as_mut_slice.result.now c.in-Err.broken.at c.in-Err.ensures.broken.before c.in-Err.ensures.broken.was in
    let most = (c.self.invariant.0).settings.most in
    let few = (c.self.invariant.0).count in
    let long = ap length c.as_mut_slice.ensures.value in
    omega (arith, below, most, few, long)

pub invariant_of-self-in-Err : goal.invariant_of-self-in-Err
invariant_of-self-in-Err g c =
    let now = c.as_mut_slice.ensures.value in
    let kept = with_items_is c.self.inside.replicas c.put_each.new.replicas (c.put_each.auto.replicas ∙ c.as_mut_slice.ensures.len) in
    let thawed : c.self.inside.frozen ≡ None = ap (λ v. v.frozen) c.self.view_is ∙ c.in_ok-room.ensures.fits.0 in
    let up : (j : ℕ) (r : Copy g.row.D.Denot) → At c.self.inside.replicas.items j r → IsUp r =
    λ j r e. open_up r (c.requires.«open».each j r (subst (λ v. At v.replicas j r) c.self.view_is e)) ((c.self.invariant.0).thawed thawed j r e) in
    let left : PutLeaves g.D.Disk.Tells g.D.Disk.files g.D.Disk.fault_count c.args.pair c.args.cookie c.args.bytes.now c.self.inside.replicas.items c.put_each.new.replicas c.in-Err.broken =
    subst (λ xs. PutLeaves g.D.Disk.Tells g.D.Disk.files g.D.Disk.fault_count c.args.pair c.args.cookie c.args.bytes.now xs c.put_each.new.replicas c.in-Err.broken) now c.in-Err.ensures.broken in
    let below = at_below c.as_mut_slice.result.now c.in-Err.broken.at c.in-Err.ensures.broken.before c.in-Err.ensures.broken.was in
    let few = (c.self.invariant.0).count in
    let long = ap length now in
    let within : c.in-Err.broken.at < c.self.inside.settings.replicas = omega (arith, below, few, long) in
    let remains =
    put_remains g.D.Disk.Tells g.D.Disk.files g.D.Disk.fault_count c.args.pair c.args.cookie c.args.bytes.now c.self.inside.replicas.items c.put_each.new.replicas c.in-Err.broken left up in (
      subst (λ rs. IsShaped (volume_with c.self.inside.settings c.self.inside.number rs c.reserve.new.self c.self.inside.front (Some c.put_refusal-refusal.result.machine)
          (Some (record { tag = c.args.tag; change = change.Put c.ends_of-ends.result })))) (sym kept)
          (shaped_on c.self.inside.settings c.self.inside.number c.self.inside.replicas.items c.put_each.new.replicas c.self.inside.rows c.reserve.new.self c.self.inside.front
          c.self.inside.front c.self.inside.frozen (Some c.put_refusal-refusal.result.machine) c.self.inside.unsure (Some (record { tag = c.args.tag; change = change.Put c.ends_of-ends.result }))
          c.self.invariant.0 (frozen_refusal c.self.inside.settings c.self.inside.number c.in-Err.broken.at c.in-Err.broken.fault c.put_refusal-refusal.result
          ((c.self.invariant.0).settings).some within c.put_refusal-refusal.ensures) (λ none. some_none none) (c.put_each.ensures.counts.count ∙ ap length now)
          (λ j r r' e f. (remains j r r' e f).sup) c.reserve.ensures.rows.replicas (λ none j r r' e f. some_none none)),
      c.self.invariant.1,
      subst (λ rs. CanReach g.D.Disk.Tells g.D.Disk.files g.D.Piece.Piece.Tells rs c.reserve.new.self) (sym kept)
          (same_rows g.D.Disk.Tells g.D.Disk.files c.self.inside.replicas.items c.put_each.new.replicas c.self.inside.rows c.reserve.new.self c.self.invariant.2
          (c.put_each.ensures.counts.count ∙ ap length now) (λ j r r' e f. (λ u. up j r e, λ u. up_open r (up j r e)))
          (λ j r r' e f. c.put_each.ensures.reach j r r' (subst (λ xs. At xs j r) (sym now) e) f) c.reserve.ensures.rows.rows),
    )

pub returns-in-Ok-clause-written : goal.returns-in-Ok-clause-written
unfolding Stands
returns-in-Ok-clause-written g c = λ tells k stands.
    let now = c.as_mut_slice.ensures.value in
    let kept = with_items_is c.self.inside.replicas c.put_each.new.replicas (c.put_each.auto.replicas ∙ c.as_mut_slice.ensures.len) in
    let thawed : c.self.inside.frozen ≡ None = ap (λ v. v.frozen) c.self.view_is ∙ c.in_ok-room.ensures.fits.0 in
    let each : (j : ℕ) (r r' : Copy g.row.D.Denot) → At c.self.inside.replicas.items j r → At c.put_each.new.replicas j r'
    → PutsAt g.D.Disk.Tells g.D.Disk.files g.D.Piece.Piece.Tells c.args.pair c.args.cookie c.args.bytes.now r r' (place_in c.in-Ok.row j) =
    λ j r r' e f. c.in-Ok.ensures.put j r r' (subst (λ xs. At xs j r) (sym now) e) f in
    let next : c.in-Some.position ≡ c.self.inside.front + 1 = (let h = c.in-Some.ensures in omega (arith, h)) in
    let w : Written g.row.D-Piece.Denot = record { pair = c.args.pair; row = c.in-Ok.row; position = c.in-Some.position; ends = c.ends_of-ends.result } in
    subst (λ rs. IsWritten g.D.Disk.files g.D.Piece.Piece.Tells k c.args.pair c.args.cookie c.args.bytes.now w
    (volume_with c.self.inside.settings c.self.inside.number rs c.reserve.new.self c.self.inside.front c.self.inside.frozen c.self.inside.unsure)) (sym kept)
    (written c.self.inside.settings c.self.inside.number g.D.Disk.Tells g.D.Disk.files g.D.Piece.Piece.Tells g.D.Disk.fault_count g.D.Disk.fuse_count tells
    c.self.inside.replicas.items c.put_each.new.replicas c.self.inside.rows c.reserve.new.self c.self.inside.front c.self.inside.frozen c.self.inside.unsure k c.args.pair
    c.args.cookie c.args.bytes.now w
    (subst (λ v. StandsFor g.D.Disk.files g.D.Piece.Piece.Tells v k) (sym c.self.view_is) stands) thawed
    (subst (λ v. HasRoom v.settings v.number k (length c.args.bytes.now)) (sym c.self.view_is)
    (room_ok c.args.self.now.settings k.frozen (room_refusal_of c.args.self.now.settings c.args.self.now.number k (length c.args.bytes.now)) c.in_ok-room.field-0
    (sym c.in_ok-room.was ∙ c.room.ensures.known tells k stands)))
    (c.put_each.ensures.counts.count ∙ ap length now) refl next (c.in-Ok.ensures.places ∙ ap length now) c.reserve.ensures.rows.rows each
    (λ j r r' e f. c.put_each.ensures.reach j r r' (subst (λ xs. At xs j r) (sym now) e) f) (λ j r e. c.ends_of-ends.ensures j r (subst (λ xs. At xs j r) (sym c.as_slice.ensures.value) e)))

pub returns-in-Ok-clause-fits : goal.returns-in-Ok-clause-fits
returns-in-Ok-clause-fits g c =
    let now = c.as_mut_slice.ensures.value in
    let kept = with_items_is c.self.inside.replicas c.put_each.new.replicas (c.put_each.auto.replicas ∙ c.as_mut_slice.ensures.len) in
    let thawed : c.self.inside.frozen ≡ None = ap (λ v. v.frozen) c.self.view_is ∙ c.in_ok-room.ensures.fits.0 in
    let up : (j : ℕ) (r : Copy g.row.D.Denot) → At c.self.inside.replicas.items j r → IsUp r =
    λ j r e. open_up r (c.requires.«open».each j r (subst (λ v. At v.replicas j r) c.self.view_is e)) ((c.self.invariant.0).thawed thawed j r e) in
    let each : (j : ℕ) (r r' : Copy g.row.D.Denot) → At c.self.inside.replicas.items j r → At c.put_each.new.replicas j r'
    → PutsAt g.D.Disk.Tells g.D.Disk.files g.D.Piece.Piece.Tells c.args.pair c.args.cookie c.args.bytes.now r r' (place_in c.in-Ok.row j) =
    λ j r r' e f. c.in-Ok.ensures.put j r r' (subst (λ xs. At xs j r) (sym now) e) f in
    record {
      room = ok_of c.reserve.result _ c.reserve.ensures.room (sym c.is_err.ensures.value ∙ c.if-is_err.false);
      long = c.in-Ok.ensures.places ∙ ap length now ∙ ap (λ v. length v.replicas) c.self.view_is ∙ c.requires.«open».all ∙ ap (λ v. v.settings.replicas) (sym c.self.view_is)
          ∙ sym (c.self.invariant.0).width ∙ sym c.reserve.ensures.rows.replicas;
      live = λ j h.
          let count = c.put_each.ensures.counts.count ∙ ap length now in
          let long = c.in-Ok.ensures.places ∙ ap length now in
          let r = at_there c.self.inside.replicas.items j (let less : j < length c.self.inside.replicas.items = omega (arith, h, long) in less) in
          let r' = at_there c.put_each.new.replicas j (let less : j < length c.put_each.new.replicas = omega (arith, h, long, count) in less) in
          (each j r.0 r'.0 r.1 r'.1).live ∙ ap (λ n. Live n) (sym (c.ends_of-ends.ensures j r.0 (subst (λ xs. At xs j r.0) (sym c.as_slice.ensures.value) r.1)));
      reach = λ rows changes.
          subst (λ rs. CanReach g.D.Disk.Tells g.D.Disk.files g.D.Piece.Piece.Tells rs rows) (sym kept)
          (put_row g.D.Disk.Tells g.D.Disk.files c.self.inside.replicas.items c.put_each.new.replicas c.self.inside.rows rows c.self.invariant.2 (c.put_each.ensures.counts.count ∙ ap length now)
          (λ j r r' e f. (λ u. up j r e, λ u. up_open r (up j r e))) c.args.pair c.in-Ok.row
          (λ other. changes.rows other ∙ ap (λ l. cond (pair_eq c.args.pair other) c.in-Ok.row l) (c.reserve.ensures.rows.rows other))
          (λ j r r' e f. c.put_each.ensures.reach j r r' (subst (λ xs. At xs j r) (sym now) e) f)
          (λ j r r' e f tells.
          let put = each j r r' e f in
          let seen = live_seen (place_in c.in-Ok.row j) (end_of r) put.live in
          (put.deletable tells, seen_sees g.D.Disk.files r' (place_in c.in-Ok.row j) seen, put.whole tells, seen_apart (place_in c.in-Ok.row j) seen, put.apart tells)));
    }

pub returns-in-Ok-clause-still : goal.returns-in-Ok-clause-still
returns-in-Ok-clause-still g c =
    let kept_rows = c.reserve.ensures.rows in
    record {
      rows = subst (λ v. KeepsRows v.rows c.reserve.new.self) c.self.view_is kept_rows;
      front = ap (λ v. v.front) c.self.view_is;
      frozen = ap (λ v. v.frozen) c.self.view_is;
      unsure = ap (λ v. v.unsure) c.self.view_is;
    }

pub returns-in-Ok-clause-open : goal.returns-in-Ok-clause-open
returns-in-Ok-clause-open g c =
    let now = c.as_mut_slice.ensures.value in
    let kept = with_items_is c.self.inside.replicas c.put_each.new.replicas (c.put_each.auto.replicas ∙ c.as_mut_slice.ensures.len) in
    let each : (j : ℕ) (r r' : Copy g.row.D.Denot) → At c.self.inside.replicas.items j r → At c.put_each.new.replicas j r'
    → PutsAt g.D.Disk.Tells g.D.Disk.files g.D.Piece.Piece.Tells c.args.pair c.args.cookie c.args.bytes.now r r' (place_in c.in-Ok.row j) =
    λ j r r' e f. c.in-Ok.ensures.put j r r' (subst (λ xs. At xs j r) (sym now) e) f in
    record {
      all =
          ap length kept ∙ (c.put_each.ensures.counts.count ∙ ap length now) ∙ ap (λ v. length v.replicas) c.self.view_is ∙ c.requires.«open».all ∙ ap (λ v. v.settings.replicas) (sym c.self.view_is);
      each = λ j r' f.
          let there = subst (λ xs. At xs j r') kept f in
          let old = at_there c.self.inside.replicas.items j (subst (λ n. j < n) (c.put_each.ensures.counts.count ∙ ap length now) (at_below c.put_each.new.replicas j r' there)) in
          up_open r' (each j old.0 r' old.1 there).up;
    }

pub returns-in-Ok-clause-counts : goal.returns-in-Ok-clause-counts
returns-in-Ok-clause-counts g c =
    let now = c.as_mut_slice.ensures.value in
    let kept = with_items_is c.self.inside.replicas c.put_each.new.replicas (c.put_each.auto.replicas ∙ c.as_mut_slice.ensures.len) in
    subst (λ rs. KeepsCounts g.D.Disk.fault_count g.D.Disk.fuse_count c.args.self.now.replicas rs) (sym kept)
    (subst (λ xs. KeepsCounts g.D.Disk.fault_count g.D.Disk.fuse_count xs c.put_each.new.replicas) (now ∙ ap (λ v. v.replicas) c.self.view_is) c.put_each.ensures.counts)

pub returns-else-is_untouched-clause-refused : goal.returns-else-is_untouched-clause-refused
unfolding Stands
returns-else-is_untouched-clause-refused g c = λ tells k stands.
    let now = c.as_mut_slice.ensures.value in
    let kept = with_items_is c.self.inside.replicas c.put_each.new.replicas (c.put_each.auto.replicas ∙ c.as_mut_slice.ensures.len) in
    let thawed : c.self.inside.frozen ≡ None = ap (λ v. v.frozen) c.self.view_is ∙ c.in_ok-room.ensures.fits.0 in
    let left : PutLeaves g.D.Disk.Tells g.D.Disk.files g.D.Disk.fault_count c.args.pair c.args.cookie c.args.bytes.now c.self.inside.replicas.items c.put_each.new.replicas c.in-Err.broken =
    subst (λ xs. PutLeaves g.D.Disk.Tells g.D.Disk.files g.D.Disk.fault_count c.args.pair c.args.cookie c.args.bytes.now xs c.put_each.new.replicas c.in-Err.broken) now c.in-Err.ensures.broken in
    let idle : AllIdle c.put_each.new.replicas = all_idle g.D.Disk.Tells g.D.Disk.files c.self.inside.replicas.items c.put_each.new.replicas c.in-Err.broken
    (subst (λ xs. EndsRuns g.D.Disk.Tells g.D.Disk.files xs c.put_each.new.replicas c.in-Err.broken) now c.in-Err.ensures.runs)
    (not_untouched c.put_each.new.replicas c.in-Err.broken (λ e f r there. c.is_untouched.ensures.touched c.if-is_untouched.false e f r
    (subst (λ xs. At xs 0 r) (sym (c.as_slice-in-Err.ensures.value ∙ kept)) there))) in
    subst (λ v. PutRefused g.D.Disk.files g.D.Piece.Piece.Tells k c.args.tag c.args.pair c.args.cookie c.args.bytes.now v
    (volume_with c.self.inside.settings c.self.inside.number ((with_items c.self.inside.replicas c.put_each.new.replicas).items) c.reserve.new.self c.self.inside.front
    (Some c.put_refusal-refusal.result.machine) (Some (record { tag = c.args.tag; change = change.Put c.ends_of-ends.result }))) c.put_refusal-refusal.result.fault) c.self.view_is
    (subst (λ rs. PutRefused g.D.Disk.files g.D.Piece.Piece.Tells k c.args.tag c.args.pair c.args.cookie c.args.bytes.now
    (volume_with c.self.inside.settings c.self.inside.number c.self.inside.replicas.items c.self.inside.rows c.self.inside.front c.self.inside.frozen c.self.inside.unsure)
    (volume_with c.self.inside.settings c.self.inside.number rs c.reserve.new.self c.self.inside.front (Some c.put_refusal-refusal.result.machine)
    (Some (record { tag = c.args.tag; change = change.Put c.ends_of-ends.result }))) c.put_refusal-refusal.result.fault) (sym kept)
    (put_refused c.self.inside.settings c.self.inside.number g.D.Disk.Tells g.D.Disk.files g.D.Piece.Piece.Tells g.D.Disk.fault_count c.args.pair c.args.cookie c.args.bytes.now
    c.self.inside.replicas.items c.put_each.new.replicas c.in-Err.broken c.put_refusal-refusal.result left c.put_refusal-refusal.ensures idle
    tells c.self.inside.rows c.reserve.new.self c.self.inside.front c.self.inside.frozen c.self.inside.unsure k c.args.tag c.ends_of-ends.result thawed
    (subst (λ v. StandsFor g.D.Disk.files g.D.Piece.Piece.Tells v k) (sym c.self.view_is) stands) (c.put_each.ensures.counts.count ∙ ap length now) c.reserve.ensures.rows.rows
    (subst (λ v. HasRoom v.settings v.number k (length c.args.bytes.now)) (sym c.self.view_is)
    (room_ok c.args.self.now.settings k.frozen (room_refusal_of c.args.self.now.settings c.args.self.now.number k (length c.args.bytes.now)) c.in_ok-room.field-0
    (sym c.in_ok-room.was ∙ c.room.ensures.known tells k stands)))
    (λ j r r' e f. c.put_each.ensures.reach j r r' (subst (λ xs. At xs j r) (sym now) e) f) (λ j r e. c.ends_of-ends.ensures j r (subst (λ xs. At xs j r) (sym c.as_slice.ensures.value) e))))

pub returns-else-is_untouched-clause-causes : goal.returns-else-is_untouched-clause-causes
returns-else-is_untouched-clause-causes g c =
    let now = c.as_mut_slice.ensures.value in
    let kept = with_items_is c.self.inside.replicas c.put_each.new.replicas (c.put_each.auto.replicas ∙ c.as_mut_slice.ensures.len) in
    let all : length c.self.inside.replicas.items ≡ c.self.inside.settings.replicas =
    ap (λ v. length v.replicas) c.self.view_is ∙ c.requires.«open».all ∙ ap (λ v. v.settings.replicas) (sym c.self.view_is) in
    let left : PutLeaves g.D.Disk.Tells g.D.Disk.files g.D.Disk.fault_count c.args.pair c.args.cookie c.args.bytes.now c.self.inside.replicas.items c.put_each.new.replicas c.in-Err.broken =
    subst (λ xs. PutLeaves g.D.Disk.Tells g.D.Disk.files g.D.Disk.fault_count c.args.pair c.args.cookie c.args.bytes.now xs c.put_each.new.replicas c.in-Err.broken) now c.in-Err.ensures.broken in
    subst (λ v. answers.IsPutFault g.D.Disk.fault_count v.settings v.number v.replicas ((with_items c.self.inside.replicas c.put_each.new.replicas).items)
    c.put_refusal-refusal.result.fault) c.self.view_is
    (subst (λ rs. answers.IsPutFault g.D.Disk.fault_count c.self.inside.settings c.self.inside.number c.self.inside.replicas.items rs c.put_refusal-refusal.result.fault) (sym kept)
    (put_cause_of g.D.Disk.Tells g.D.Disk.files g.D.Disk.fault_count c.args.pair c.args.cookie c.args.bytes.now c.self.inside.replicas.items c.put_each.new.replicas c.in-Err.broken
    left c.self.inside.settings c.self.inside.number c.put_refusal-refusal.result c.put_refusal-refusal.ensures all))

pub returns-else-is_untouched-clause-open : goal.returns-else-is_untouched-clause-open
returns-else-is_untouched-clause-open g c =
    let now = c.as_mut_slice.ensures.value in
    let kept = with_items_is c.self.inside.replicas c.put_each.new.replicas (c.put_each.auto.replicas ∙ c.as_mut_slice.ensures.len) in
    let thawed : c.self.inside.frozen ≡ None = ap (λ v. v.frozen) c.self.view_is ∙ c.in_ok-room.ensures.fits.0 in
    let up : (j : ℕ) (r : Copy g.row.D.Denot) → At c.self.inside.replicas.items j r → IsUp r =
    λ j r e. open_up r (c.requires.«open».each j r (subst (λ v. At v.replicas j r) c.self.view_is e)) ((c.self.invariant.0).thawed thawed j r e) in
    let left : PutLeaves g.D.Disk.Tells g.D.Disk.files g.D.Disk.fault_count c.args.pair c.args.cookie c.args.bytes.now c.self.inside.replicas.items c.put_each.new.replicas c.in-Err.broken =
    subst (λ xs. PutLeaves g.D.Disk.Tells g.D.Disk.files g.D.Disk.fault_count c.args.pair c.args.cookie c.args.bytes.now xs c.put_each.new.replicas c.in-Err.broken) now c.in-Err.ensures.broken in
    let remains =
    put_remains g.D.Disk.Tells g.D.Disk.files g.D.Disk.fault_count c.args.pair c.args.cookie c.args.bytes.now c.self.inside.replicas.items c.put_each.new.replicas c.in-Err.broken left up in
    record {
      all =
          ap length kept ∙ (c.put_each.ensures.counts.count ∙ ap length now) ∙ ap (λ v. length v.replicas) c.self.view_is ∙ c.requires.«open».all ∙ ap (λ v. v.settings.replicas) (sym c.self.view_is);
      each = λ j r' f.
          let there = subst (λ xs. At xs j r') kept f in
          let old = at_there c.self.inside.replicas.items j (subst (λ n. j < n) (c.put_each.ensures.counts.count ∙ ap length now) (at_below c.put_each.new.replicas j r' there)) in
          (remains j old.0 r' old.1 there).«open»;
    }

pub returns-else-is_untouched-clause-counts : goal.returns-else-is_untouched-clause-counts
returns-else-is_untouched-clause-counts g c =
    let now = c.as_mut_slice.ensures.value in
    let kept = with_items_is c.self.inside.replicas c.put_each.new.replicas (c.put_each.auto.replicas ∙ c.as_mut_slice.ensures.len) in
    subst (λ rs. KeepsCounts g.D.Disk.fault_count g.D.Disk.fuse_count c.args.self.now.replicas rs) (sym kept)
    (subst (λ xs. KeepsCounts g.D.Disk.fault_count g.D.Disk.fuse_count xs c.put_each.new.replicas) (now ∙ ap (λ v. v.replicas) c.self.view_is) c.put_each.ensures.counts)

pub returns-in_err-room-clause-same : goal.returns-in_err-room-clause-same
returns-in_err-room-clause-same g c = same_still _

pub returns-in_default-clause-same : goal.returns-in_default-clause-same
returns-in_default-clause-same g c = same_still _

pub returns-then-is_err-clause-same : goal.returns-then-is_err-clause-same
returns-then-is_err-clause-same g c = same_by _ _ _ c.self.inside.replicas.items c.self.view_is refl refl refl (λ j r r' e f. ap (λ x. x.sup) (at_same c.self.inside.replicas.items j r' r f e))

pub returns-in-Ok-clause-same : goal.returns-in-Ok-clause-same
returns-in-Ok-clause-same g c =
    let now = c.as_mut_slice.ensures.value in
    let kept = with_items_is c.self.inside.replicas c.put_each.new.replicas (c.put_each.auto.replicas ∙ c.as_mut_slice.ensures.len) in
    same_by _ _ _ _ c.self.view_is refl refl kept (λ j r r' e f. (c.in-Ok.ensures.put j r r' (subst (λ xs. At xs j r) (sym now) e) f).sup)

pub returns-then-is_untouched-clause-same : goal.returns-then-is_untouched-clause-same
returns-then-is_untouched-clause-same g c =
    let now = c.as_mut_slice.ensures.value in
    let kept = with_items_is c.self.inside.replicas c.put_each.new.replicas (c.put_each.auto.replicas ∙ c.as_mut_slice.ensures.len) in
    let thawed : c.self.inside.frozen ≡ None = ap (λ v. v.frozen) c.self.view_is ∙ c.in_ok-room.ensures.fits.0 in
    let up : (j : ℕ) (r : Copy g.row.D.Denot) → At c.self.inside.replicas.items j r → IsUp r =
    λ j r e. open_up r (c.requires.«open».each j r (subst (λ v. At v.replicas j r) c.self.view_is e)) ((c.self.invariant.0).thawed thawed j r e) in
    let left : PutLeaves g.D.Disk.Tells g.D.Disk.files g.D.Disk.fault_count c.args.pair c.args.cookie c.args.bytes.now c.self.inside.replicas.items c.put_each.new.replicas c.in-Err.broken =
    subst (λ xs. PutLeaves g.D.Disk.Tells g.D.Disk.files g.D.Disk.fault_count c.args.pair c.args.cookie c.args.bytes.now xs c.put_each.new.replicas c.in-Err.broken) now c.in-Err.ensures.broken in
    same_by _ _ _ _ c.self.view_is refl refl kept
    (λ j r r' e f. (put_remains g.D.Disk.Tells g.D.Disk.files g.D.Disk.fault_count c.args.pair c.args.cookie c.args.bytes.now c.self.inside.replicas.items c.put_each.new.replicas
    c.in-Err.broken left up j r r' e f).sup)

pub returns-else-is_untouched-clause-same : goal.returns-else-is_untouched-clause-same
returns-else-is_untouched-clause-same g c =
    let now = c.as_mut_slice.ensures.value in
    let kept = with_items_is c.self.inside.replicas c.put_each.new.replicas (c.put_each.auto.replicas ∙ c.as_mut_slice.ensures.len) in
    let thawed : c.self.inside.frozen ≡ None = ap (λ v. v.frozen) c.self.view_is ∙ c.in_ok-room.ensures.fits.0 in
    let up : (j : ℕ) (r : Copy g.row.D.Denot) → At c.self.inside.replicas.items j r → IsUp r =
    λ j r e. open_up r (c.requires.«open».each j r (subst (λ v. At v.replicas j r) c.self.view_is e)) ((c.self.invariant.0).thawed thawed j r e) in
    let left : PutLeaves g.D.Disk.Tells g.D.Disk.files g.D.Disk.fault_count c.args.pair c.args.cookie c.args.bytes.now c.self.inside.replicas.items c.put_each.new.replicas c.in-Err.broken =
    subst (λ xs. PutLeaves g.D.Disk.Tells g.D.Disk.files g.D.Disk.fault_count c.args.pair c.args.cookie c.args.bytes.now xs c.put_each.new.replicas c.in-Err.broken) now c.in-Err.ensures.broken in
    same_by _ _ _ _ c.self.view_is refl refl kept
    (λ j r r' e f. (put_remains g.D.Disk.Tells g.D.Disk.files g.D.Disk.fault_count c.args.pair c.args.cookie c.args.bytes.now c.self.inside.replicas.items c.put_each.new.replicas
    c.in-Err.broken left up j r r' e f).sup)

pub returns-in-Ok-clause-of : goal.returns-in-Ok-clause-of
returns-in-Ok-clause-of g c =
    let next : c.in-Some.position ≡ c.self.inside.front + 1 = (let h = c.in-Some.ensures in omega (arith, h)) in (
      refl,
      next ∙ ap (λ v. v.front + 1) c.self.view_is,
      c.in-Ok.ensures.places ∙ ap length c.as_mut_slice.ensures.value ∙ ap (λ v. length v.replicas) c.self.view_is ∙ c.requires.«open».all,
    )

pub returns-in_err-room-clause-takes : goal.returns-in_err-room-clause-takes
returns-in_err-room-clause-takes g c = λ none fits.
    let fine = subst IsOk c.in_err-room.was (c.room.ensures.takes none fits) in absurd cc

pub returns-else-is_untouched-clause-takes : goal.returns-else-is_untouched-clause-takes
returns-else-is_untouched-clause-takes g c =
    λ none fits. refusal_breaks c.self.inside.settings c.self.inside.number c.in-Err.broken.at c.in-Err.broken.fault c.put_refusal-refusal.result c.put_refusal-refusal.ensures

pub returns-else-is_untouched-clause-above : goal.returns-else-is_untouched-clause-above
returns-else-is_untouched-clause-above g c = λ m count e.
    let now = c.as_mut_slice.ensures.value in
    let kept = with_items_is c.self.inside.replicas c.put_each.new.replicas (c.put_each.auto.replicas ∙ c.as_mut_slice.ensures.len) in
    let left : PutLeaves g.D.Disk.Tells g.D.Disk.files g.D.Disk.fault_count c.args.pair c.args.cookie c.args.bytes.now c.self.inside.replicas.items c.put_each.new.replicas c.in-Err.broken =
    subst (λ xs. PutLeaves g.D.Disk.Tells g.D.Disk.files g.D.Disk.fault_count c.args.pair c.args.cookie c.args.bytes.now xs c.put_each.new.replicas c.in-Err.broken) now c.in-Err.ensures.broken in
    let below = at_below c.self.inside.replicas.items c.in-Err.broken.at left.before left.was in
    let few = (c.self.invariant.0).count in
    let within : c.in-Err.broken.at < c.self.inside.settings.replicas = omega (arith, below, few) in
    let said : c.put_refusal-refusal.result.fault ≡ logical.Failed m count = cc in
    subst (λ v. KeepsAbove g.D.Disk.Tells g.D.Disk.files v.settings v.number m v.replicas (with_items c.self.inside.replicas c.put_each.new.replicas).items) c.self.view_is
    (subst (λ rs. KeepsAbove g.D.Disk.Tells g.D.Disk.files c.self.inside.settings c.self.inside.number m c.self.inside.replicas.items rs) (sym kept)
    (above_put g.D.Disk.Tells g.D.Disk.files c.self.inside.settings c.self.inside.number c.self.inside.replicas.items c.put_each.new.replicas c.in-Err.broken.at m count
    c.in-Err.broken.fault c.put_refusal-refusal.result
    (c.self.invariant.0).settings within c.put_refusal-refusal.ensures said left.above))

pub returns-in_err-room-clause-above : goal.returns-in_err-room-clause-above
returns-in_err-room-clause-above g c = λ m count e.
    let said =
    subst (λ r. IfErr r (λ (f : LogicalFault). IsRoomFault c.args.self.now.settings c.args.self.now.number f))
    (sym (is_err_of c.from_residual.result c.in_err-room.field-0.0 c.from_residual.ensures.1)) c.in_err-room.ensures.causes in
    absurd (subst (λ r. IfErr r (λ (f : LogicalFault). IsRoomFault c.args.self.now.settings c.args.self.now.number f)) e said)

pub returns-in_err-room-clause-stuck : goal.returns-in_err-room-clause-stuck
returns-in_err-room-clause-stuck g c = stuck_same c.args.self.now.replicas

pub returns-in_default-clause-stuck : goal.returns-in_default-clause-stuck
returns-in_default-clause-stuck g c = stuck_same c.args.self.now.replicas

pub returns-then-is_err-clause-stuck : goal.returns-then-is_err-clause-stuck
returns-then-is_err-clause-stuck g c = λ j r r' e f. stuck_same c.self.inside.replicas.items j r r' (subst (λ v. At v.replicas j r) (sym c.self.view_is) e) f

pub returns-in-Ok-clause-stuck : goal.returns-in-Ok-clause-stuck
returns-in-Ok-clause-stuck g c = λ j r r' e f.
    let now = c.as_mut_slice.ensures.value in
    let kept = with_items_is c.self.inside.replicas c.put_each.new.replicas (c.put_each.auto.replicas ∙ c.as_mut_slice.ensures.len) in
    (c.in-Ok.ensures.put j r r' (subst (λ xs. At xs j r) (sym now) (subst (λ v. At v.replicas j r) (sym c.self.view_is) e)) (subst (λ xs. At xs j r') kept f)).stuck

pub returns-then-is_untouched-clause-stuck : goal.returns-then-is_untouched-clause-stuck
returns-then-is_untouched-clause-stuck g c = λ j r r' e f.
    let now = c.as_mut_slice.ensures.value in
    let kept = with_items_is c.self.inside.replicas c.put_each.new.replicas (c.put_each.auto.replicas ∙ c.as_mut_slice.ensures.len) in
    let thawed : c.self.inside.frozen ≡ None = ap (λ v. v.frozen) c.self.view_is ∙ c.in_ok-room.ensures.fits.0 in
    let up : (j : ℕ) (r : Copy g.row.D.Denot) → At c.self.inside.replicas.items j r → IsUp r =
    λ j r e. open_up r (c.requires.«open».each j r (subst (λ v. At v.replicas j r) c.self.view_is e)) ((c.self.invariant.0).thawed thawed j r e) in
    let left : PutLeaves g.D.Disk.Tells g.D.Disk.files g.D.Disk.fault_count c.args.pair c.args.cookie c.args.bytes.now c.self.inside.replicas.items c.put_each.new.replicas c.in-Err.broken =
    subst (λ xs. PutLeaves g.D.Disk.Tells g.D.Disk.files g.D.Disk.fault_count c.args.pair c.args.cookie c.args.bytes.now xs c.put_each.new.replicas c.in-Err.broken) now c.in-Err.ensures.broken in
    (put_remains g.D.Disk.Tells g.D.Disk.files g.D.Disk.fault_count c.args.pair c.args.cookie c.args.bytes.now c.self.inside.replicas.items c.put_each.new.replicas c.in-Err.broken left up j r r'
    (subst (λ v. At v.replicas j r) (sym c.self.view_is) e) (subst (λ xs. At xs j r') kept f)).stuck

pub returns-else-is_untouched-clause-stuck : goal.returns-else-is_untouched-clause-stuck
returns-else-is_untouched-clause-stuck g c = λ j r r' e f.
    let now = c.as_mut_slice.ensures.value in
    let kept = with_items_is c.self.inside.replicas c.put_each.new.replicas (c.put_each.auto.replicas ∙ c.as_mut_slice.ensures.len) in
    let thawed : c.self.inside.frozen ≡ None = ap (λ v. v.frozen) c.self.view_is ∙ c.in_ok-room.ensures.fits.0 in
    let up : (j : ℕ) (r : Copy g.row.D.Denot) → At c.self.inside.replicas.items j r → IsUp r =
    λ j r e. open_up r (c.requires.«open».each j r (subst (λ v. At v.replicas j r) c.self.view_is e)) ((c.self.invariant.0).thawed thawed j r e) in
    let left : PutLeaves g.D.Disk.Tells g.D.Disk.files g.D.Disk.fault_count c.args.pair c.args.cookie c.args.bytes.now c.self.inside.replicas.items c.put_each.new.replicas c.in-Err.broken =
    subst (λ xs. PutLeaves g.D.Disk.Tells g.D.Disk.files g.D.Disk.fault_count c.args.pair c.args.cookie c.args.bytes.now xs c.put_each.new.replicas c.in-Err.broken) now c.in-Err.ensures.broken in
    (put_remains g.D.Disk.Tells g.D.Disk.files g.D.Disk.fault_count c.args.pair c.args.cookie c.args.bytes.now c.self.inside.replicas.items c.put_each.new.replicas c.in-Err.broken left up j r r'
    (subst (λ v. At v.replicas j r) (sym c.self.view_is) e) (subst (λ xs. At xs j r') kept f)).stuck

pub returns-in_err-room-clause-tight : goal.returns-in_err-room-clause-tight
returns-in_err-room-clause-tight g c = λ tells j tight.
    subst (λ r. OnErr r (c.args.self.now.unsure ≡ c.args.self.now.unsure → IsTightAt g.D.Disk.files c.args.self.now j))
    (sym (is_err_of c.from_residual.result c.in_err-room.field-0.0 c.from_residual.ensures.1)) (λ same. tight)

pub returns-then-is_err-clause-tight : goal.returns-then-is_err-clause-tight
returns-then-is_err-clause-tight g c = λ tells j tight same r e. tight r (subst (λ v. At v.replicas j r) c.self.view_is e)

pub returns-then-is_untouched-clause-tight : goal.returns-then-is_untouched-clause-tight
returns-then-is_untouched-clause-tight g c = λ tells j tight same r' f.
    let now = c.as_mut_slice.ensures.value in
    let kept = with_items_is c.self.inside.replicas c.put_each.new.replicas (c.put_each.auto.replicas ∙ c.as_mut_slice.ensures.len) in
    let thawed : c.self.inside.frozen ≡ None = ap (λ v. v.frozen) c.self.view_is ∙ c.in_ok-room.ensures.fits.0 in
    let up : (j : ℕ) (r : Copy g.row.D.Denot) → At c.self.inside.replicas.items j r → IsUp r =
    λ j r e. open_up r (c.requires.«open».each j r (subst (λ v. At v.replicas j r) c.self.view_is e)) ((c.self.invariant.0).thawed thawed j r e) in
    let left : PutLeaves g.D.Disk.Tells g.D.Disk.files g.D.Disk.fault_count c.args.pair c.args.cookie c.args.bytes.now c.self.inside.replicas.items c.put_each.new.replicas c.in-Err.broken =
    subst (λ xs. PutLeaves g.D.Disk.Tells g.D.Disk.files g.D.Disk.fault_count c.args.pair c.args.cookie c.args.bytes.now xs c.put_each.new.replicas c.in-Err.broken) now c.in-Err.ensures.broken in
    let un : IsUntouched c.put_each.new.replicas c.in-Err.broken =
    subst (λ xs. IsUntouched xs c.in-Err.broken) (c.as_slice-in-Err.ensures.value ∙ kept) (c.is_untouched.ensures.untouched c.if-is_untouched.true) in
    let still =
    still_runs g.D.Disk.Tells g.D.Disk.files c.self.inside.replicas.items c.put_each.new.replicas c.in-Err.broken
    (subst (λ xs. EndsRuns g.D.Disk.Tells g.D.Disk.files xs c.put_each.new.replicas c.in-Err.broken) now c.in-Err.ensures.runs) un in
    tight_untouched g.D.Disk.Tells g.D.Disk.files g.D.Disk.fault_count c.args.pair c.args.cookie c.args.bytes.now c.self.inside.replicas.items c.put_each.new.replicas
    c.in-Err.broken left un still up tells
    (c.put_each.ensures.counts.count ∙ ap length now) j (λ r e. tight r (subst (λ v. At v.replicas j r) c.self.view_is e)) r' (subst (λ xs. At xs j r') kept f)

pub returns-in_err-room-clause-refused_seen : goal.returns-in_err-room-clause-refused_seen
returns-in_err-room-clause-refused_seen g c =
    let old : VolumeSeen = volume_seen c.args.self.now in
    subst (λ r. IfErr r (PutRefusedSeen c.args.self.now.settings c.args.self.now.number c.args.tag (length c.args.bytes.now) old old)) (sym
    (is_err_of c.from_residual.result c.in_err-room.field-0.0 c.from_residual.ensures.1))
    (room_put_seen c.args.self.now.settings c.args.self.now.number c.args.tag (length c.args.bytes.now) old c.in_err-room.field-0.0 c.in_err-room.ensures.refused_seen)

pub returns-in_default-clause-refused_seen : goal.returns-in_default-clause-refused_seen
returns-in_default-clause-refused_seen g c = inl (c.in_ok-room.ensures.fits.0, refl)

pub returns-then-is_err-clause-refused_seen : goal.returns-then-is_err-clause-refused_seen
returns-then-is_err-clause-refused_seen g c = inl (c.in_ok-room.ensures.fits.0, ap volume_seen c.self.view_is)

pub returns-in-Ok-clause-seen : goal.returns-in-Ok-clause-seen
returns-in-Ok-clause-seen g c =
    let now = c.as_mut_slice.ensures.value in
    let kept = with_items_is c.self.inside.replicas c.put_each.new.replicas (c.put_each.auto.replicas ∙ c.as_mut_slice.ensures.len) in
    let size = length c.args.bytes.now in
    let with : List ReplicaSeen → VolumeSeen = λ rs. record { front = c.self.inside.front; frozen = c.self.inside.frozen; unsure = c.self.inside.unsure; replicas = rs } in
    let same : map replica_seen c.put_each.new.replicas ≡ map (grown size) (map replica_seen c.self.inside.replicas.items) =
    maps_by replica_seen (λ (r : Copy g.row.D.Denot). grown size (replica_seen r)) c.self.inside.replicas.items c.put_each.new.replicas (c.put_each.ensures.counts.count ∙ ap length now)
    (λ j r r' e f. c.in-Ok.ensures.seen j r r' (subst (λ xs. At xs j r) (sym now) e) f) ∙ map_both replica_seen (grown size) c.self.inside.replicas.items in (
      c.in_ok-room.ensures.fits.0,
      ap with (ap (map replica_seen) kept ∙ same) ∙ ap (λ v. record (volume_seen v) { replicas = map (grown size) (volume_seen v).replicas }) c.self.view_is,
    )

pub returns-then-is_untouched-clause-refused_seen : goal.returns-then-is_untouched-clause-refused_seen
returns-then-is_untouched-clause-refused_seen g c =
    let now = c.as_mut_slice.ensures.value in
    let kept = with_items_is c.self.inside.replicas c.put_each.new.replicas (c.put_each.auto.replicas ∙ c.as_mut_slice.ensures.len) in
    let with : List ReplicaSeen → VolumeSeen = λ rs. record { front = c.self.inside.front; frozen = c.self.inside.frozen; unsure = c.self.inside.unsure; replicas = rs } in
    let un : IsUntouched c.put_each.new.replicas c.in-Err.broken =
    subst (λ xs. IsUntouched xs c.in-Err.broken) (c.as_slice-in-Err.ensures.value ∙ kept) (c.is_untouched.ensures.untouched c.if-is_untouched.true) in
    let same : map replica_seen c.put_each.new.replicas ≡ map replica_seen c.self.inside.replicas.items =
    maps_by replica_seen replica_seen c.self.inside.replicas.items c.put_each.new.replicas (c.put_each.ensures.counts.count ∙ ap length now)
    (λ j r r' e f. c.in-Err.ensures.refused_seen un j r r' (subst (λ xs. At xs j r) (sym now) e) f) in
    inl (c.in_ok-room.ensures.fits.0, ap with (ap (map replica_seen) kept ∙ same) ∙ ap volume_seen c.self.view_is)

pub returns-else-is_untouched-clause-refused_seen : goal.returns-else-is_untouched-clause-refused_seen
returns-else-is_untouched-clause-refused_seen g c =
    let now = c.as_mut_slice.ensures.value in
    let kept = with_items_is c.self.inside.replicas c.put_each.new.replicas (c.put_each.auto.replicas ∙ c.as_mut_slice.ensures.len) in
    let thawed : c.self.inside.frozen ≡ None = ap (λ v. v.frozen) c.self.view_is ∙ c.in_ok-room.ensures.fits.0 in
    let idle : AllIdle c.put_each.new.replicas = all_idle g.D.Disk.Tells g.D.Disk.files c.self.inside.replicas.items c.put_each.new.replicas c.in-Err.broken
    (subst (λ xs. EndsRuns g.D.Disk.Tells g.D.Disk.files xs c.put_each.new.replicas c.in-Err.broken) now c.in-Err.ensures.runs)
    (not_untouched c.put_each.new.replicas c.in-Err.broken (λ e f r there. c.is_untouched.ensures.touched c.if-is_untouched.false e f r
    (subst (λ xs. At xs 0 r) (sym (c.as_slice-in-Err.ensures.value ∙ kept)) there))) in
    let pending : Option Unsure = Some (record { tag = c.args.tag; change = change.Put c.ends_of-ends.result }) in
    let old : VolumeSeen = volume_seen
    (volume_with c.self.inside.settings c.self.inside.number c.self.inside.replicas.items c.self.inside.rows c.self.inside.front c.self.inside.frozen c.self.inside.unsure) in
    let new : VolumeSeen = volume_seen (volume_with c.self.inside.settings c.self.inside.number
    (with_items c.self.inside.replicas c.put_each.new.replicas).items c.reserve.new.self c.self.inside.front (Some c.put_refusal-refusal.result.machine) pending) in
    subst (λ v. PutRefusedSeen v.settings v.number c.args.tag (length c.args.bytes.now) (volume_seen v) new c.put_refusal-refusal.result.fault) c.self.view_is
    (broken_put_seen c.self.inside.settings c.self.inside.number c.args.tag
    (length c.args.bytes.now) old c.in-Err.broken.at new c.in-Err.broken.fault c.put_refusal-refusal.result c.put_refusal-refusal.ensures (record {
      ends = c.ends_of-ends.result;
      each = λ j s e.
          let x = map_at replica_seen c.self.inside.replicas.items j s e in
          c.ends_of-ends.ensures j x.0 (subst (λ xs. At xs j x.0) (sym c.as_slice.ensures.value) x.1) ∙ ap (λ (r : ReplicaSeen). r.end) (sym x.2);
      freezes = record {
        thawed = thawed;
        settled = (c.self.invariant.0).settled thawed;
        many = many_seen c.self.inside.replicas.items _ (ap length kept ∙ c.put_each.ensures.counts.count ∙ ap length now);
        front = refl;
        frozen = refl;
        unsure = refl;
        idle = λ j s e. idle_seen c.put_each.new.replicas idle j s (subst (λ rs. At (map replica_seen rs) j s) kept e);
        longer = longer_seen c.self.inside.replicas.items c.put_each.new.replicas _ kept (subst (λ xs. Lengthens xs c.put_each.new.replicas) now c.put_each.ensures.ends);
      };
    }))

pub returns-then-is_untouched-clause-files : goal.returns-then-is_untouched-clause-files
returns-then-is_untouched-clause-files g c = λ same tells j r r' e f.
    let now = c.as_mut_slice.ensures.value in
    let kept = with_items_is c.self.inside.replicas c.put_each.new.replicas (c.put_each.auto.replicas ∙ c.as_mut_slice.ensures.len) in
    let un : IsUntouched c.put_each.new.replicas c.in-Err.broken =
    subst (λ xs. IsUntouched xs c.in-Err.broken) (c.as_slice-in-Err.ensures.value ∙ kept) (c.is_untouched.ensures.untouched c.if-is_untouched.true) in
    c.in-Err.ensures.untouched un tells j r r' (subst (λ xs. At xs j r) (sym now) (subst (λ v. At v.replicas j r) (sym c.self.view_is) e)) (subst (λ xs. At xs j r') kept f)

pub returns-in-Ok-clause-ends : goal.returns-in-Ok-clause-ends
returns-in-Ok-clause-ends g c =
    subst (λ v. AreEnds c.ends_of-ends.result (volume_seen v).replicas) c.self.view_is
    (λ j s e.
    let x = map_at replica_seen c.self.inside.replicas.items j s e in
    c.ends_of-ends.ensures j x.0 (subst (λ xs. At xs j x.0) (sym c.as_slice.ensures.value) x.1) ∙ ap (λ (r : ReplicaSeen). r.end) (sym x.2))
