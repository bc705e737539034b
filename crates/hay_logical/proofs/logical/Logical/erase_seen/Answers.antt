use Rattle.std.proofs.Common.{◌≡◌, ◌≤◌, ◌<◌, ◌+◌, ℕ, length, Some, refl, sym, ap, subst, ◌∙◌, arith, inl, inr}
use Rattle.std.specs.Vec.{with_items}
use Rattle.std.proofs.lemmas.List.{with_items_is}
use Rattle.hay_needle.specs.declared.settings.TheConstants.{MAX_REPLICAS}
use Rattle.hay_map.specs.Places.{place_in}
use Rattle.hay_map.specs.Rows.{row_at}
use Rattle.hay_compact.specs.Finishing.{IsSeen}
use Rattle.hay_physical.specs.OpenCopies.{Copy, IsUp, is_frozen}
use Rattle.hay_physical.specs.OpenCopies as copies
use Rattle.hay_physical.specs.Replicas as physical
use Rattle.hay_logical.specs.declared.fault.LogicalFault.TheVariants as fault
use Rattle.hay_logical.specs.declared.unsure.Change.TheVariants as change
use Rattle.hay_logical.specs.declared.written.Erased.{Erased}
use Rattle.hay_logical.specs.Answers.{DeleteRefused, HasFailed}
use Rattle.hay_logical.specs.Fits.{At}
use Rattle.hay_logical.specs.Stands.{Stands, StandsFor}
use Rattle.hay_logical.specs.ReplicaCalls.{DeleteLeaves, DeletesAt, KeepsAbove, KeepsReach, Lengthens}
use Rattle.hay_logical.specs.Unshown.{IsErased}
use Rattle.hay_logical.specs.Volumes.{CanReach, IsShaped, KeepsCounts, Volume}
use Rattle.hay_logical.proofs.Calls.{open_up, up_open, up_thawed}
use Rattle.hay_logical.proofs.Lists.{at_below, at_there}
use Rattle.hay_logical.proofs.Methods.{same_by, same_still, shaped_on}
use Rattle.hay_logical.proofs.Standing.{volume_with}
use Rattle.hay_logical.proofs.Changing.{delete_failed, delete_refused, delete_remains, deleted_same, not_held, some_none}
use Rattle.hay_logical.proofs.Showing.{erased}
use Rattle.hay_logical.proofs.Reaching.{failed_row}
use Rattle.hay_logical.proofs.Freezing.{frozen_machine}
use Rattle.hay_logical.proofs.Above.{above_lost}
use Rattle.hay_logical.proofs.Untouched.{stuck_same}
use Rattle.std.proofs.Common.{inr, Some, refl, length}
use Rattle.std.proofs.lemmas.List.{length-map}
use Rattle.std.specs.Prelude.{map}
use Rattle.hay_logical.specs.Seen.{DeleteSeen, EraseSeen, ReplicaSeen, VolumeSeen, replica_seen, volume_seen}
use Rattle.hay_logical.proofs.Seen.{longer_seen, many_seen, map_at}
use Rattle.hay_logical.proofs.SeenSwaps.{idle_seen}
use Rattle.hay_logical.specs.Sights.{FindsPhoto, IsLiveSight, IsSeenOn, SeesLive, sight, sights_of}
use Rattle.hay_logical.proofs.Calls.{follows_keeps}
use Rattle.hay_logical.proofs.SightChanges.{live_none, live_some, looks_kept, seen_sight}
use Rattle.hay_logical.proofs.logical.Logical.erase_seen.Goals as goal

pub returns-then-not-has_live-clause-refused : goal.returns-then-not-has_live-clause-refused
unfolding Stands
returns-then-not-has_live-clause-refused g c = λ tells k stands.
    let given = subst (λ v. StandsFor g.D.Disk.files g.D.Piece.Piece.Tells v k) (sym c.self.view_is) stands in (
      given.frozen ∙ ap (λ v. v.frozen) c.self.view_is ∙ c.requires.thawed,
      not_held c.self.inside.settings c.self.inside.number g.D.Disk.Tells g.D.Disk.files g.D.Piece.Piece.Tells g.D.Disk.fault_count g.D.Disk.fuse_count c.self.inside.replicas.items
          c.self.inside.rows c.self.inside.front c.self.inside.frozen c.self.inside.unsure k c.args.pair c.row-row.result given
          c.row-row.ensures.row (c.row-row.ensures.long ∙ (c.self.invariant.0).width) (λ j h.
          subst (λ v. IsSeen (place_in (row_at v.rows c.args.pair) j)) (sym c.self.view_is) (c.requires.seen j (subst (λ v. j < v.settings.replicas) c.self.view_is h)))
          (c.has_live.ensures.none c.if-not-has_live.true),
      given.front,
      stands,
    )

pub returns-in_default-clause-refused : goal.returns-in_default-clause-refused
unfolding Stands
returns-in_default-clause-refused g c = λ tells k stands. (stands.frozen ∙ c.requires.thawed, stands)

pub delete_each-requires : goal.delete_each-requires
delete_each-requires g c =
    let now = c.as_mut_slice.ensures.value in
    let thawed = ap (λ v. v.frozen) c.self.view_is ∙ c.requires.thawed in
    let up : (j : ℕ) (r : Copy g.row.D.Denot) → At c.self.inside.replicas.items j r → IsUp r =
    λ j r e. open_up r (c.requires.«open».each j r (subst (λ v. At v.replicas j r) c.self.view_is e)) ((c.self.invariant.0).thawed thawed j r e) in
    let all : length c.self.inside.replicas.items ≡ c.self.inside.settings.replicas =
    ap (λ v. length v.replicas) c.self.view_is ∙ c.requires.«open».all ∙ ap (λ v. v.settings.replicas) (sym c.self.view_is) in
    let most = (c.self.invariant.0).settings.most in
    let few = (c.self.invariant.0).count in
    let long = ap length now in record {
      most = (let n : length c.as_mut_slice.result.now ≤ MAX_REPLICAS = omega (arith, most, few, long) in n);
      places = c.row-row.ensures.long ∙ (c.self.invariant.0).width ∙ sym all ∙ sym long;
      up = λ j r e. up j r (subst (λ xs. At xs j r) now e);
      live = λ tells j r e needle is.
          let there = subst (λ xs. At xs j r) now e in
          subst (physical.MayDeletePlace g.D.Disk.files r) (ap (λ l. place_in l j) (sym c.row-row.ensures.row) ∙ is) ((c.self.invariant.2 tells j r there).deletes (up j r there) c.args.pair);
    }

pub invariant_of-self : goal.invariant_of-self
invariant_of-self g c =
    let now = c.as_mut_slice.ensures.value in
    let kept = with_items_is c.self.inside.replicas c.delete_each.new.replicas (c.delete_each.auto.replicas ∙ c.as_mut_slice.ensures.len) in
    let thawed = ap (λ v. v.frozen) c.self.view_is ∙ c.requires.thawed in
    let up : (j : ℕ) (r : Copy g.row.D.Denot) → At c.self.inside.replicas.items j r → IsUp r =
    λ j r e. open_up r (c.requires.«open».each j r (subst (λ v. At v.replicas j r) c.self.view_is e)) ((c.self.invariant.0).thawed thawed j r e) in
    let all : length c.self.inside.replicas.items ≡ c.self.inside.settings.replicas =
    ap (λ v. length v.replicas) c.self.view_is ∙ c.requires.«open».all ∙ ap (λ v. v.settings.replicas) (sym c.self.view_is) in
    let each : (j : ℕ) (r r' : Copy g.row.D.Denot) → At c.self.inside.replicas.items j r → At c.delete_each.new.replicas j r'
    → DeletesAt g.D.Disk.Tells g.D.Disk.files (place_in c.row-row.result j) r r' =
    λ j r r' e f. c.in-Ok.ensures.deleted j r r' (subst (λ xs. At xs j r) (sym now) e) f in
    let step : (j : ℕ) (r r' : Copy g.row.D.Denot) → At c.self.inside.replicas.items j r → At c.delete_each.new.replicas j r' → IsUp r' × (r'.sup ≡ r.sup) × (copies.is_stuck r' ≡ copies.is_stuck r) =
    λ j r r' e f. deleted_same g.D.Disk.Tells g.D.Disk.files (place_in c.row-row.result j) r r' (each j r r' e f) (up j r e) in (
      subst (λ rs. IsShaped (volume_with c.self.inside.settings c.self.inside.number rs c.self.inside.rows c.self.inside.front c.self.inside.frozen c.self.inside.unsure)) (sym kept)
          (shaped_on c.self.inside.settings c.self.inside.number c.self.inside.replicas.items c.delete_each.new.replicas c.self.inside.rows c.self.inside.rows c.self.inside.front
          c.self.inside.front c.self.inside.frozen c.self.inside.frozen c.self.inside.unsure c.self.inside.unsure
          c.self.invariant.0 (c.self.invariant.0).frozen_by (c.self.invariant.0).settled (c.delete_each.ensures.counts.count ∙ ap length now) (λ j r r' e f. (step j r r' e f).1)
          refl (λ none j r r' e f. up_thawed r' (step j r r' e f).0)),
      c.self.invariant.1,
      subst (λ rs. CanReach g.D.Disk.Tells g.D.Disk.files g.D.Piece.Piece.Tells rs c.self.inside.rows) (sym kept)
          (failed_row g.D.Disk.Tells g.D.Disk.files c.self.inside.replicas.items c.delete_each.new.replicas c.self.inside.rows c.self.inside.rows c.self.invariant.2
          (c.delete_each.ensures.counts.count ∙ ap length now)
          (λ j r r' e f. (λ u. up j r e, λ u. up_open r (up j r e))) c.args.pair (λ pair. refl)
          (λ j r r' e f tells. subst (λ l. KeepsReach g.D.Disk.files (λ at size. physical.IsApartPlace at size (place_in l j)) r r') c.row-row.ensures.row
          (c.delete_each.ensures.reach j r r' (subst (λ xs. At xs j r) (sym now) e) f tells))
          (λ j r e at size here. let below = at_below c.self.inside.replicas.items j r e in
          let within : j < c.self.inside.settings.replicas =
          omega (arith, below, all) in let never : ⊥ = subst IsSeen here (subst (λ v. IsSeen (place_in (row_at v.rows c.args.pair) j)) (sym c.self.view_is)
          (c.requires.seen j (subst (λ v. j < v.settings.replicas) c.self.view_is within))) in never)),
    )

pub returns-in-Ok-clause-erased : goal.returns-in-Ok-clause-erased
unfolding Stands
returns-in-Ok-clause-erased g c = λ tells k stands.
    let now = c.as_mut_slice.ensures.value in
    let kept = with_items_is c.self.inside.replicas c.delete_each.new.replicas (c.delete_each.auto.replicas ∙ c.as_mut_slice.ensures.len) in
    let thawed = ap (λ v. v.frozen) c.self.view_is ∙ c.requires.thawed in
    let up : (j : ℕ) (r : Copy g.row.D.Denot) → At c.self.inside.replicas.items j r → IsUp r =
    λ j r e. open_up r (c.requires.«open».each j r (subst (λ v. At v.replicas j r) c.self.view_is e)) ((c.self.invariant.0).thawed thawed j r e) in
    let each : (j : ℕ) (r r' : Copy g.row.D.Denot) → At c.self.inside.replicas.items j r → At c.delete_each.new.replicas j r'
    → DeletesAt g.D.Disk.Tells g.D.Disk.files (place_in c.row-row.result j) r r' =
    λ j r r' e f. c.in-Ok.ensures.deleted j r r' (subst (λ xs. At xs j r) (sym now) e) f in
    let next : c.in-Some.position ≡ c.self.inside.front + 1 = (let h = c.in-Some.ensures in omega (arith, h)) in
    let e : Erased = record { pair = c.args.pair; position = c.in-Some.position } in
    subst (λ v. IsErased g.D.Disk.files g.D.Disk.fault_count g.D.Piece.Piece.Tells k c.args.pair e v
    (volume_with c.self.inside.settings c.self.inside.number ((with_items c.self.inside.replicas c.delete_each.new.replicas).items) c.self.inside.rows c.self.inside.front
    c.self.inside.frozen c.self.inside.unsure)) c.self.view_is
    (subst (λ rs. IsErased g.D.Disk.files g.D.Disk.fault_count g.D.Piece.Piece.Tells k c.args.pair e
    (volume_with c.self.inside.settings c.self.inside.number c.self.inside.replicas.items c.self.inside.rows c.self.inside.front c.self.inside.frozen c.self.inside.unsure)
    (volume_with c.self.inside.settings c.self.inside.number rs c.self.inside.rows c.self.inside.front c.self.inside.frozen c.self.inside.unsure)) (sym kept)
    (erased c.self.inside.settings c.self.inside.number g.D.Disk.Tells g.D.Disk.files g.D.Piece.Piece.Tells g.D.Disk.fault_count g.D.Disk.fuse_count tells
    c.self.inside.replicas.items c.delete_each.new.replicas c.self.inside.rows c.self.inside.front c.self.inside.frozen c.self.inside.unsure k c.args.pair c.row-row.result c.in-Some.position
    (subst (λ v. StandsFor g.D.Disk.files g.D.Piece.Piece.Tells v k) (sym c.self.view_is) stands) thawed (c.delete_each.ensures.counts.count ∙ ap length now) next
    c.row-row.ensures.row (c.row-row.ensures.long ∙ (c.self.invariant.0).width) (λ j h.
    subst (λ v. IsSeen (place_in (row_at v.rows c.args.pair) j)) (sym c.self.view_is) (c.requires.seen j (subst (λ v. j < v.settings.replicas) c.self.view_is h)))
    (c.has_live.ensures.some c.if-not-has_live.false)
    c.self.invariant.2 (λ j r e. up_open r (up j r e)) each
    (λ j r r' e f. c.in-Ok.ensures.follow j r r' (subst (λ xs. At xs j r) (sym now) e) f) (λ j r r' e f. c.delete_each.ensures.reach j r r' (subst (λ xs. At xs j r) (sym now) e) f)))

pub returns-in-Ok-clause-of : goal.returns-in-Ok-clause-of
returns-in-Ok-clause-of g c =
    let next : c.in-Some.position ≡ c.self.inside.front + 1 = (let h = c.in-Some.ensures in omega (arith, h)) in
    (refl, next ∙ ap (λ v. v.front + 1) c.self.view_is)

pub returns-in-Ok-clause-still : goal.returns-in-Ok-clause-still
returns-in-Ok-clause-still g c = ap (λ (v : Volume g.row.D.Denot g.row.D-Piece.Denot). record v { replicas = (with_items c.self.inside.replicas c.delete_each.new.replicas).items }) c.self.view_is

pub returns-in-Ok-clause-open : goal.returns-in-Ok-clause-open
returns-in-Ok-clause-open g c =
    let now = c.as_mut_slice.ensures.value in
    let kept = with_items_is c.self.inside.replicas c.delete_each.new.replicas (c.delete_each.auto.replicas ∙ c.as_mut_slice.ensures.len) in
    let thawed = ap (λ v. v.frozen) c.self.view_is ∙ c.requires.thawed in
    let up : (j : ℕ) (r : Copy g.row.D.Denot) → At c.self.inside.replicas.items j r → IsUp r =
    λ j r e. open_up r (c.requires.«open».each j r (subst (λ v. At v.replicas j r) c.self.view_is e)) ((c.self.invariant.0).thawed thawed j r e) in
    let all : length c.self.inside.replicas.items ≡ c.self.inside.settings.replicas =
    ap (λ v. length v.replicas) c.self.view_is ∙ c.requires.«open».all ∙ ap (λ v. v.settings.replicas) (sym c.self.view_is) in
    let each : (j : ℕ) (r r' : Copy g.row.D.Denot) → At c.self.inside.replicas.items j r → At c.delete_each.new.replicas j r'
    → DeletesAt g.D.Disk.Tells g.D.Disk.files (place_in c.row-row.result j) r r' =
    λ j r r' e f. c.in-Ok.ensures.deleted j r r' (subst (λ xs. At xs j r) (sym now) e) f in
    record {
      all =
          ap length kept ∙ (c.delete_each.ensures.counts.count ∙ ap length now) ∙ ap (λ v. length v.replicas) c.self.view_is ∙ c.requires.«open».all
          ∙ ap (λ v. v.settings.replicas) (sym c.self.view_is);
      each = λ j r' f.
          let there = subst (λ xs. At xs j r') kept f in
          let old = at_there c.self.inside.replicas.items j (subst (λ n. j < n) (c.delete_each.ensures.counts.count ∙ ap length now) (at_below c.delete_each.new.replicas j r' there)) in
          up_open r' (deleted_same g.D.Disk.Tells g.D.Disk.files (place_in c.row-row.result j) old.0 r' (each j old.0 r' old.1 there) (up j old.0 old.1)).0;
    }

pub returns-in-Ok-clause-counts : goal.returns-in-Ok-clause-counts
returns-in-Ok-clause-counts g c =
    let now = c.as_mut_slice.ensures.value in
    let kept = with_items_is c.self.inside.replicas c.delete_each.new.replicas (c.delete_each.auto.replicas ∙ c.as_mut_slice.ensures.len) in
    subst (λ rs. KeepsCounts g.D.Disk.fault_count g.D.Disk.fuse_count c.args.self.now.replicas rs) (sym kept)
    (subst (λ xs. KeepsCounts g.D.Disk.fault_count g.D.Disk.fuse_count xs c.delete_each.new.replicas) (now ∙ ap (λ v. v.replicas) c.self.view_is) c.delete_each.ensures.counts)

pub machine_of-machine-requires-clause-within : goal.machine_of-machine-requires-clause-within
machine_of-machine-requires-clause-within g c =
    let below = at_below c.as_mut_slice.result.now c.in-Err.failed.at c.in-Err.ensures.broken.before c.in-Err.ensures.broken.was in
    let most = (c.self.invariant.0).settings.most in
    let few = (c.self.invariant.0).count in
    let long = ap length c.as_mut_slice.ensures.value in
    omega (arith, below, most, few, long)

pub invariant_of-self-in-Err : goal.invariant_of-self-in-Err
invariant_of-self-in-Err g c =
    let now = c.as_mut_slice.ensures.value in
    let kept = with_items_is c.self.inside.replicas c.delete_each.new.replicas (c.delete_each.auto.replicas ∙ c.as_mut_slice.ensures.len) in
    let thawed = ap (λ v. v.frozen) c.self.view_is ∙ c.requires.thawed in
    let up : (j : ℕ) (r : Copy g.row.D.Denot) → At c.self.inside.replicas.items j r → IsUp r =
    λ j r e. open_up r (c.requires.«open».each j r (subst (λ v. At v.replicas j r) c.self.view_is e)) ((c.self.invariant.0).thawed thawed j r e) in
    let left : DeleteLeaves g.D.Disk.Tells g.D.Disk.files g.D.Disk.fault_count c.row-row.result c.self.inside.replicas.items c.delete_each.new.replicas c.in-Err.failed =
    subst (λ xs. DeleteLeaves g.D.Disk.Tells g.D.Disk.files g.D.Disk.fault_count c.row-row.result xs c.delete_each.new.replicas c.in-Err.failed) now c.in-Err.ensures.broken in
    let below = at_below c.as_mut_slice.result.now c.in-Err.failed.at c.in-Err.ensures.broken.before c.in-Err.ensures.broken.was in
    let few = (c.self.invariant.0).count in
    let long = ap length now in
    let within : c.in-Err.failed.at < c.self.inside.settings.replicas = omega (arith, below, few, long) in
    let remains = delete_remains g.D.Disk.Tells g.D.Disk.files g.D.Disk.fault_count c.self.inside.replicas.items c.delete_each.new.replicas c.row-row.result c.in-Err.failed left up in (
      subst (λ rs. IsShaped (volume_with c.self.inside.settings c.self.inside.number rs c.self.inside.rows c.self.inside.front (Some c.machine_of-machine.result)
          (Some (record { tag = c.args.tag; change = change.Delete c.args.pair })))) (sym kept)
          (shaped_on c.self.inside.settings c.self.inside.number c.self.inside.replicas.items c.delete_each.new.replicas c.self.inside.rows c.self.inside.rows c.self.inside.front
          c.self.inside.front c.self.inside.frozen (Some c.machine_of-machine.result) c.self.inside.unsure (Some (record { tag = c.args.tag; change = change.Delete c.args.pair }))
          c.self.invariant.0 (frozen_machine c.self.inside.settings c.self.inside.number c.in-Err.failed.at c.machine_of-machine.result within c.machine_of-machine.ensures)
          (λ none. some_none none) (c.delete_each.ensures.counts.count ∙ ap length now) (λ j r r' e f. (remains j r r' e f).sup) refl (λ none j r r' e f. some_none none)),
      c.self.invariant.1,
      subst (λ rs. CanReach g.D.Disk.Tells g.D.Disk.files g.D.Piece.Piece.Tells rs c.self.inside.rows) (sym kept)
          (failed_row g.D.Disk.Tells g.D.Disk.files c.self.inside.replicas.items c.delete_each.new.replicas c.self.inside.rows c.self.inside.rows c.self.invariant.2
          (c.delete_each.ensures.counts.count ∙ ap length now)
          (λ j r r' e f. (λ u. up j r e, λ u. up_open r (up j r e))) c.args.pair (λ pair. refl)
          (λ j r r' e f tells. subst (λ l. KeepsReach g.D.Disk.files (λ at size. physical.IsApartPlace at size (place_in l j)) r r') c.row-row.ensures.row
          (c.delete_each.ensures.reach j r r' (subst (λ xs. At xs j r) (sym now) e) f tells))
          (λ j r e at size here. let below = at_below c.self.inside.replicas.items j r e in let all : length c.self.inside.replicas.items
          ≡ c.self.inside.settings.replicas = ap (λ v. length v.replicas) c.self.view_is ∙ c.requires.«open».all ∙ ap (λ v. v.settings.replicas) (sym c.self.view_is) in
          let within : j < c.self.inside.settings.replicas =
          omega (arith, below, all) in let never : ⊥ = subst IsSeen here (subst (λ v. IsSeen (place_in (row_at v.rows c.args.pair) j)) (sym c.self.view_is)
          (c.requires.seen j (subst (λ v. j < v.settings.replicas) c.self.view_is within))) in never)),
    )

pub returns-clause-refused : goal.returns-clause-refused
unfolding Stands
returns-clause-refused g c = λ tells k stands.
    let now = c.as_mut_slice.ensures.value in
    let kept = with_items_is c.self.inside.replicas c.delete_each.new.replicas (c.delete_each.auto.replicas ∙ c.as_mut_slice.ensures.len) in
    let thawed = ap (λ v. v.frozen) c.self.view_is ∙ c.requires.thawed in
    let up : (j : ℕ) (r : Copy g.row.D.Denot) → At c.self.inside.replicas.items j r → IsUp r =
    λ j r e. open_up r (c.requires.«open».each j r (subst (λ v. At v.replicas j r) c.self.view_is e)) ((c.self.invariant.0).thawed thawed j r e) in
    let left : DeleteLeaves g.D.Disk.Tells g.D.Disk.files g.D.Disk.fault_count c.row-row.result c.self.inside.replicas.items c.delete_each.new.replicas c.in-Err.failed =
    subst (λ xs. DeleteLeaves g.D.Disk.Tells g.D.Disk.files g.D.Disk.fault_count c.row-row.result xs c.delete_each.new.replicas c.in-Err.failed) now c.in-Err.ensures.broken in
    subst (λ rs. DeleteRefused g.D.Disk.files g.D.Piece.Piece.Tells k c.args.tag c.args.pair
    (volume_with c.self.inside.settings c.self.inside.number rs c.self.inside.rows c.self.inside.front (Some c.machine_of-machine.result)
    (Some (record { tag = c.args.tag; change = change.Delete c.args.pair })))
    (fault.Failed c.machine_of-machine.result c.in-Err.failed.faults)) (sym kept)
    (delete_refused c.self.inside.settings c.self.inside.number g.D.Disk.Tells g.D.Disk.files g.D.Piece.Piece.Tells g.D.Disk.fault_count g.D.Disk.fuse_count tells
    c.self.inside.replicas.items c.delete_each.new.replicas c.self.inside.rows c.self.inside.front c.self.inside.frozen c.self.inside.unsure k c.args.tag c.args.pair
    c.row-row.result c.in-Err.failed
    c.machine_of-machine.result (subst (λ v. StandsFor g.D.Disk.files g.D.Piece.Piece.Tells v k) (sym c.self.view_is) stands) thawed
    (c.delete_each.ensures.counts.count ∙ ap length now) c.row-row.ensures.row
    (c.row-row.ensures.long ∙ (c.self.invariant.0).width) (λ j h. subst (λ v. IsSeen (place_in (row_at v.rows c.args.pair) j)) (sym c.self.view_is)
    (c.requires.seen j (subst (λ v. j < v.settings.replicas) c.self.view_is h))) (c.has_live.ensures.some c.if-not-has_live.false) c.machine_of-machine.ensures left c.in-Err.ensures.runs
    c.self.invariant.2 (λ j r e. up_open r (up j r e)) (λ j r r' e f. c.delete_each.ensures.reach j r r' (subst (λ xs. At xs j r) (sym now) e) f))

pub returns-clause-causes : goal.returns-clause-causes
returns-clause-causes g c =
    let now = c.as_mut_slice.ensures.value in
    let kept = with_items_is c.self.inside.replicas c.delete_each.new.replicas (c.delete_each.auto.replicas ∙ c.as_mut_slice.ensures.len) in
    let all : length c.self.inside.replicas.items ≡ c.self.inside.settings.replicas =
    ap (λ v. length v.replicas) c.self.view_is ∙ c.requires.«open».all ∙ ap (λ v. v.settings.replicas) (sym c.self.view_is) in
    let left : DeleteLeaves g.D.Disk.Tells g.D.Disk.files g.D.Disk.fault_count c.row-row.result c.self.inside.replicas.items c.delete_each.new.replicas c.in-Err.failed =
    subst (λ xs. DeleteLeaves g.D.Disk.Tells g.D.Disk.files g.D.Disk.fault_count c.row-row.result xs c.delete_each.new.replicas c.in-Err.failed) now c.in-Err.ensures.broken in
    subst (λ v. HasFailed g.D.Disk.fault_count v.settings v.number v.replicas (with_items c.self.inside.replicas c.delete_each.new.replicas).items c.machine_of-machine.result
    c.in-Err.failed.faults) c.self.view_is
    (subst (λ rs. HasFailed g.D.Disk.fault_count c.self.inside.settings c.self.inside.number c.self.inside.replicas.items rs c.machine_of-machine.result c.in-Err.failed.faults) (sym kept)
    (delete_failed c.self.inside.settings c.self.inside.number g.D.Disk.Tells g.D.Disk.files g.D.Piece.Piece.Tells g.D.Disk.fault_count g.D.Disk.fuse_count
    c.self.inside.replicas.items c.delete_each.new.replicas c.row-row.result c.in-Err.failed c.machine_of-machine.result all c.machine_of-machine.ensures left))

pub returns-clause-open : goal.returns-clause-open
returns-clause-open g c =
    let now = c.as_mut_slice.ensures.value in
    let kept = with_items_is c.self.inside.replicas c.delete_each.new.replicas (c.delete_each.auto.replicas ∙ c.as_mut_slice.ensures.len) in
    let thawed = ap (λ v. v.frozen) c.self.view_is ∙ c.requires.thawed in
    let up : (j : ℕ) (r : Copy g.row.D.Denot) → At c.self.inside.replicas.items j r → IsUp r =
    λ j r e. open_up r (c.requires.«open».each j r (subst (λ v. At v.replicas j r) c.self.view_is e)) ((c.self.invariant.0).thawed thawed j r e) in
    let left : DeleteLeaves g.D.Disk.Tells g.D.Disk.files g.D.Disk.fault_count c.row-row.result c.self.inside.replicas.items c.delete_each.new.replicas c.in-Err.failed =
    subst (λ xs. DeleteLeaves g.D.Disk.Tells g.D.Disk.files g.D.Disk.fault_count c.row-row.result xs c.delete_each.new.replicas c.in-Err.failed) now c.in-Err.ensures.broken in
    let remains = delete_remains g.D.Disk.Tells g.D.Disk.files g.D.Disk.fault_count c.self.inside.replicas.items c.delete_each.new.replicas c.row-row.result c.in-Err.failed left up in
    record {
      all =
          ap length kept ∙ (c.delete_each.ensures.counts.count ∙ ap length now) ∙ ap (λ v. length v.replicas) c.self.view_is ∙ c.requires.«open».all
          ∙ ap (λ v. v.settings.replicas) (sym c.self.view_is);
      each = λ j r' f.
          let there = subst (λ xs. At xs j r') kept f in
          let old = at_there c.self.inside.replicas.items j (subst (λ n. j < n) (c.delete_each.ensures.counts.count ∙ ap length now) (at_below c.delete_each.new.replicas j r' there)) in
          (remains j old.0 r' old.1 there).«open»;
    }

pub returns-clause-counts : goal.returns-clause-counts
returns-clause-counts g c =
    let now = c.as_mut_slice.ensures.value in
    let kept = with_items_is c.self.inside.replicas c.delete_each.new.replicas (c.delete_each.auto.replicas ∙ c.as_mut_slice.ensures.len) in
    subst (λ rs. KeepsCounts g.D.Disk.fault_count g.D.Disk.fuse_count c.args.self.now.replicas rs) (sym kept)
    (subst (λ xs. KeepsCounts g.D.Disk.fault_count g.D.Disk.fuse_count xs c.delete_each.new.replicas) (now ∙ ap (λ v. v.replicas) c.self.view_is) c.delete_each.ensures.counts)

pub returns-then-not-has_live-clause-same : goal.returns-then-not-has_live-clause-same
returns-then-not-has_live-clause-same g c = same_still _

pub returns-in_default-clause-same : goal.returns-in_default-clause-same
returns-in_default-clause-same g c = same_still _

pub returns-in-Ok-clause-same : goal.returns-in-Ok-clause-same
returns-in-Ok-clause-same g c =
    let now = c.as_mut_slice.ensures.value in
    let kept = with_items_is c.self.inside.replicas c.delete_each.new.replicas (c.delete_each.auto.replicas ∙ c.as_mut_slice.ensures.len) in
    let thawed = ap (λ v. v.frozen) c.self.view_is ∙ c.requires.thawed in
    let up : (j : ℕ) (r : Copy g.row.D.Denot) → At c.self.inside.replicas.items j r → IsUp r =
    λ j r e. open_up r (c.requires.«open».each j r (subst (λ v. At v.replicas j r) c.self.view_is e)) ((c.self.invariant.0).thawed thawed j r e) in
    same_by _ _ _ _ c.self.view_is refl refl kept
    (λ j r r' e f. (deleted_same g.D.Disk.Tells g.D.Disk.files (place_in c.row-row.result j) r r' (c.in-Ok.ensures.deleted j r r' (subst (λ xs. At xs j r) (sym now) e) f) (up j r e)).1)

pub returns-clause-same : goal.returns-clause-same
returns-clause-same g c =
    let now = c.as_mut_slice.ensures.value in
    let kept = with_items_is c.self.inside.replicas c.delete_each.new.replicas (c.delete_each.auto.replicas ∙ c.as_mut_slice.ensures.len) in
    let thawed = ap (λ v. v.frozen) c.self.view_is ∙ c.requires.thawed in
    let up : (j : ℕ) (r : Copy g.row.D.Denot) → At c.self.inside.replicas.items j r → IsUp r =
    λ j r e. open_up r (c.requires.«open».each j r (subst (λ v. At v.replicas j r) c.self.view_is e)) ((c.self.invariant.0).thawed thawed j r e) in
    let left : DeleteLeaves g.D.Disk.Tells g.D.Disk.files g.D.Disk.fault_count c.row-row.result c.self.inside.replicas.items c.delete_each.new.replicas c.in-Err.failed =
    subst (λ xs. DeleteLeaves g.D.Disk.Tells g.D.Disk.files g.D.Disk.fault_count c.row-row.result xs c.delete_each.new.replicas c.in-Err.failed) now c.in-Err.ensures.broken in
    same_by _ _ _ _ c.self.view_is refl refl kept
    (λ j r r' e f. (delete_remains g.D.Disk.Tells g.D.Disk.files g.D.Disk.fault_count c.self.inside.replicas.items c.delete_each.new.replicas c.row-row.result c.in-Err.failed left up j r r' e f).sup)

pub returns-clause-files : goal.returns-clause-files
returns-clause-files g c = λ same.
    let settled = ap (λ v. v.unsure) (sym c.self.view_is) ∙ (c.self.invariant.0).settled (ap (λ v. v.frozen) c.self.view_is ∙ c.requires.thawed) in
    some_none (same ∙ settled)

pub returns-clause-above : goal.returns-clause-above
returns-clause-above g c = λ m count e.
    let now = c.as_mut_slice.ensures.value in
    let kept = with_items_is c.self.inside.replicas c.delete_each.new.replicas (c.delete_each.auto.replicas ∙ c.as_mut_slice.ensures.len) in
    let left : DeleteLeaves g.D.Disk.Tells g.D.Disk.files g.D.Disk.fault_count c.row-row.result c.self.inside.replicas.items c.delete_each.new.replicas c.in-Err.failed =
    subst (λ xs. DeleteLeaves g.D.Disk.Tells g.D.Disk.files g.D.Disk.fault_count c.row-row.result xs c.delete_each.new.replicas c.in-Err.failed) now c.in-Err.ensures.broken in
    let below = at_below c.self.inside.replicas.items c.in-Err.failed.at left.before left.was in
    let few = (c.self.invariant.0).count in
    let within : c.in-Err.failed.at < c.self.inside.settings.replicas = omega (arith, below, few) in
    let same : c.machine_of-machine.result ≡ m = cc in
    subst (λ v. KeepsAbove g.D.Disk.Tells g.D.Disk.files v.settings v.number m v.replicas (with_items c.self.inside.replicas c.delete_each.new.replicas).items) c.self.view_is
    (subst (λ rs. KeepsAbove g.D.Disk.Tells g.D.Disk.files c.self.inside.settings c.self.inside.number m c.self.inside.replicas.items rs) (sym kept)
    (above_lost g.D.Disk.Tells g.D.Disk.files c.self.inside.settings c.self.inside.number c.self.inside.replicas.items c.delete_each.new.replicas c.in-Err.failed.at m
    (c.self.invariant.0).settings within
    (sym same ∙ c.machine_of-machine.ensures) left.above))

pub returns-then-not-has_live-clause-stuck : goal.returns-then-not-has_live-clause-stuck
returns-then-not-has_live-clause-stuck g c = stuck_same c.args.self.now.replicas

pub returns-in_default-clause-stuck : goal.returns-in_default-clause-stuck
returns-in_default-clause-stuck g c = stuck_same c.args.self.now.replicas

pub returns-in-Ok-clause-stuck : goal.returns-in-Ok-clause-stuck
returns-in-Ok-clause-stuck g c = λ j r r' e f.
    let now = c.as_mut_slice.ensures.value in
    let kept = with_items_is c.self.inside.replicas c.delete_each.new.replicas (c.delete_each.auto.replicas ∙ c.as_mut_slice.ensures.len) in
    let thawed = ap (λ v. v.frozen) c.self.view_is ∙ c.requires.thawed in
    let was = subst (λ v. At v.replicas j r) (sym c.self.view_is) e in
    let up : IsUp r = open_up r (c.requires.«open».each j r e) ((c.self.invariant.0).thawed thawed j r was) in
    (deleted_same g.D.Disk.Tells g.D.Disk.files (place_in c.row-row.result j) r r' (c.in-Ok.ensures.deleted j r r' (subst (λ xs. At xs j r) (sym now) was) (subst (λ xs. At xs j r') kept f)) up).2

pub returns-clause-stuck : goal.returns-clause-stuck
returns-clause-stuck g c = λ j r r' e f.
    let now = c.as_mut_slice.ensures.value in
    let kept = with_items_is c.self.inside.replicas c.delete_each.new.replicas (c.delete_each.auto.replicas ∙ c.as_mut_slice.ensures.len) in
    let thawed = ap (λ v. v.frozen) c.self.view_is ∙ c.requires.thawed in
    let up : (j : ℕ) (r : Copy g.row.D.Denot) → At c.self.inside.replicas.items j r → IsUp r =
    λ j r e. open_up r (c.requires.«open».each j r (subst (λ v. At v.replicas j r) c.self.view_is e)) ((c.self.invariant.0).thawed thawed j r e) in
    let left : DeleteLeaves g.D.Disk.Tells g.D.Disk.files g.D.Disk.fault_count c.row-row.result c.self.inside.replicas.items c.delete_each.new.replicas c.in-Err.failed =
    subst (λ xs. DeleteLeaves g.D.Disk.Tells g.D.Disk.files g.D.Disk.fault_count c.row-row.result xs c.delete_each.new.replicas c.in-Err.failed) now c.in-Err.ensures.broken in
    (delete_remains g.D.Disk.Tells g.D.Disk.files g.D.Disk.fault_count c.self.inside.replicas.items c.delete_each.new.replicas c.row-row.result c.in-Err.failed left up j r r'
    (subst (λ v. At v.replicas j r) (sym c.self.view_is) e) (subst (λ xs. At xs j r') kept f)).stuck

pub returns-clause-tight : goal.returns-clause-tight
returns-clause-tight g c = λ tells j tight same.
    let settled = ap (λ v. v.unsure) (sym c.self.view_is) ∙ (c.self.invariant.0).settled (ap (λ v. v.frozen) c.self.view_is ∙ c.requires.thawed) in
    some_none (same ∙ settled)

pub returns-then-not-has_live-clause-refused_seen : goal.returns-then-not-has_live-clause-refused_seen
returns-then-not-has_live-clause-refused_seen g c = ((c.requires.thawed, refl), ap (λ (v : Volume g.row.D.Denot g.row.D-Piece.Denot). v.front) c.self.view_is)

pub returns-in_default-clause-refused_seen : goal.returns-in_default-clause-refused_seen
returns-in_default-clause-refused_seen g c = (c.requires.thawed, refl)

pub returns-in-Ok-clause-after : goal.returns-in-Ok-clause-after
returns-in-Ok-clause-after g c =
    let now = c.as_mut_slice.ensures.value in
    let kept = with_items_is c.self.inside.replicas c.delete_each.new.replicas (c.delete_each.auto.replicas ∙ c.as_mut_slice.ensures.len) in
    let thawed = ap (λ v. v.frozen) c.self.view_is ∙ c.requires.thawed in
    let new : VolumeSeen = volume_seen (volume_with c.self.inside.settings c.self.inside.number
    (with_items c.self.inside.replicas c.delete_each.new.replicas).items c.self.inside.rows c.self.inside.front c.self.inside.frozen c.self.inside.unsure) in
    subst (λ (v : Volume g.row.D.Denot g.row.D-Piece.Denot). EraseSeen (volume_seen v) new) c.self.view_is (
      refl,
      record {
        thawed = thawed;
        frozen = thawed;
        unsure = refl;
        count = length-map (with_items c.self.inside.replicas c.delete_each.new.replicas).items replica_seen ∙ ap length kept ∙ c.delete_each.ensures.counts.count ∙ ap length now ∙ sym
            (length-map c.self.inside.replicas.items replica_seen);
        each = λ j s s' e f.
            let x = map_at replica_seen c.self.inside.replicas.items j s e in
            let y = map_at replica_seen c.delete_each.new.replicas j s' (subst (λ rs. At (map replica_seen rs) j s') kept f) in
            subst (λ (z : ReplicaSeen). DeleteSeen z s') (sym x.2) (subst (λ (z : ReplicaSeen). DeleteSeen (replica_seen x.0) z) (sym y.2)
            (c.in-Ok.ensures.seen j x.0 y.0 (subst (λ xs. At xs j x.0) (sym now) x.1) y.1));
      },
    )

pub returns-clause-refused_seen : goal.returns-clause-refused_seen
returns-clause-refused_seen g c =
    let kept = with_items_is c.self.inside.replicas c.delete_each.new.replicas (c.delete_each.auto.replicas ∙ c.as_mut_slice.ensures.len) in
    inr (record {
      thawed = c.requires.thawed;
      settled = ap (λ v. v.unsure) (sym c.self.view_is) ∙ (c.self.invariant.0).settled (ap (λ v. v.frozen) c.self.view_is ∙ c.requires.thawed);
      many = many_seen c.args.self.now.replicas _ (ap length kept ∙ c.delete_each.ensures.counts.count ∙ ap length (c.as_mut_slice.ensures.value) ∙ ap
          (λ (v : Volume g.row.D.Denot g.row.D-Piece.Denot). length v.replicas) c.self.view_is);
      front = ap (λ (v : Volume g.row.D.Denot g.row.D-Piece.Denot). v.front) c.self.view_is;
      frozen = refl;
      unsure = refl;
      idle = λ j s e. idle_seen c.delete_each.new.replicas c.in-Err.ensures.runs j s (subst (λ rs. At (map replica_seen rs) j s) kept e);
      longer = longer_seen c.args.self.now.replicas c.delete_each.new.replicas _ kept (subst (λ xs. Lengthens xs c.delete_each.new.replicas)
          (c.as_mut_slice.ensures.value ∙ ap (λ (v : Volume g.row.D.Denot g.row.D-Piece.Denot). v.replicas) c.self.view_is) c.delete_each.ensures.ends);
    })

pub returns-then-not-has_live-clause-refused_sights : goal.returns-then-not-has_live-clause-refused_sights
returns-then-not-has_live-clause-refused_sights g c = record {
  looks = looks_kept c.args.pair (sights_of c.args.self.now.rows) (sights_of c.args.self.now.rows) (λ q j. refl);
  all = λ j h. seen_sight (place_in (row_at c.args.self.now.rows c.args.pair) j) (c.requires.seen j h);
  none = subst (λ v. SeesLive c.args.pair v.settings.replicas (sights_of v.rows) → ⊥) c.self.view_is
      (live_none c.self.inside.rows c.args.pair c.row-row.result c.self.inside.settings.replicas c.row-row.ensures.row (c.row-row.ensures.long ∙ (c.self.invariant.0).width)
      (c.has_live.ensures.none c.if-not-has_live.true));
}

pub returns-in_default-clause-refused_sights : goal.returns-in_default-clause-refused_sights
returns-in_default-clause-refused_sights g c = looks_kept c.args.pair (sights_of c.args.self.now.rows) (sights_of c.args.self.now.rows) (λ q j. refl)

pub returns-in-Ok-clause-sights : goal.returns-in-Ok-clause-sights
returns-in-Ok-clause-sights g c = subst (λ v. FindsPhoto c.args.pair v.settings.replicas (sights_of v.rows) (sights_of c.self.inside.rows)) c.self.view_is (record {
  looks = looks_kept c.args.pair (sights_of c.self.inside.rows) (sights_of c.self.inside.rows) (λ q j. refl);
  all = λ j h.
      seen_sight (place_in (row_at c.self.inside.rows c.args.pair) j)
      (subst (λ v. IsSeen (place_in (row_at v.rows c.args.pair) j)) (sym c.self.view_is) (c.requires.seen j (subst (λ v. j < v.settings.replicas) c.self.view_is h)));
  live = live_some c.self.inside.rows c.args.pair c.row-row.result c.self.inside.settings.replicas c.row-row.ensures.row (c.row-row.ensures.long ∙ (c.self.invariant.0).width)
      (c.has_live.ensures.some c.if-not-has_live.false);
})

pub returns-clause-refused_sights : goal.returns-clause-refused_sights
returns-clause-refused_sights g c =
    let now = c.as_mut_slice.ensures.value in
    let failed = c.in-Err.ensures.broken in
    let below = at_below c.as_mut_slice.result.now c.in-Err.failed.at failed.before failed.was in
    let few = (c.self.invariant.0).count in
    let long = ap length now in
    let within : c.in-Err.failed.at < c.self.inside.settings.replicas = omega (arith, below, few, long) in
    let live : IsLiveSight (sights_of c.self.inside.rows c.args.pair c.in-Err.failed.at) =
    subst IsLiveSight (sym (ap sight (ap (λ l. place_in l c.in-Err.failed.at) (sym c.row-row.ensures.row) ∙ failed.live))) tt in inl (
      refl,
      subst (λ v. FindsPhoto c.args.pair v.settings.replicas (sights_of v.rows) (sights_of c.self.inside.rows)) c.self.view_is (record {
        looks = looks_kept c.args.pair (sights_of c.self.inside.rows) (sights_of c.self.inside.rows) (λ q j. refl);
        all = λ j h.
            seen_sight (place_in (row_at c.self.inside.rows c.args.pair) j)
            (subst (λ v. IsSeen (place_in (row_at v.rows c.args.pair) j)) (sym c.self.view_is) (c.requires.seen j (subst (λ v. j < v.settings.replicas) c.self.view_is h)));
        live = live_some c.self.inside.rows c.args.pair c.row-row.result c.self.inside.settings.replicas c.row-row.ensures.row (c.row-row.ensures.long ∙ (c.self.invariant.0).width)
            (c.has_live.ensures.some c.if-not-has_live.false);
      }),
      subst (λ v. IsSeenOn v.settings v.number c.args.pair c.machine_of-machine.result IsLiveSight (sights_of c.self.inside.rows)) c.self.view_is
          (c.in-Err.failed.at, within, c.machine_of-machine.ensures, live),
    )

pub returns-in-Ok-clause-ended : goal.returns-in-Ok-clause-ended
returns-in-Ok-clause-ended g c = λ j r r' e f.
    let now = c.as_mut_slice.ensures.value in
    let kept = with_items_is c.self.inside.replicas c.delete_each.new.replicas (c.delete_each.auto.replicas ∙ c.as_mut_slice.ensures.len) in
    let was : At c.as_mut_slice.result.now j r = subst (λ xs. At xs j r) (sym now) (subst (λ v. At v.replicas j r) (sym c.self.view_is) e) in
    follows_keeps g.D.Disk.Tells g.D.Disk.files g.D.Disk.fault_count c.args.pair (place_in c.row-row.result j) r r' (c.in-Ok.ensures.follow j r r' was (subst (λ xs. At xs j r') kept f))
