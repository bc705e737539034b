use Rattle.std.proofs.Common.{List, ◌≡◌, ◌<◌, ◌≤◌, ℕ, length, refl, sym, ap, subst, ◌∙◌, arith}
use Rattle.std.specs.Vec.{with_items}
use Rattle.std.proofs.lemmas.List.{with_items_is}
use Rattle.hay_needle.specs.declared.settings.TheConstants.{MAX_REPLICAS}
use Rattle.hay_map.specs.Rows.{ChangesRows, row_at}
use Rattle.hay_map.specs.declared.view.MapOp.TheVariants as op
use Rattle.hay_physical.specs.OpenCopies.{Copy, IsUp, contents_of, end_of, is_stuck, volume_bytes}
use Rattle.hay_logical.specs.Answers.{CompactRefused, HasSizes, IsCompacted}
use Rattle.hay_logical.specs.Answers as answers
use Rattle.hay_logical.specs.Fits.{At}
use Rattle.hay_logical.specs.Refusals.{IsUntouchedBy, unfinished_by}
use Rattle.hay_logical.specs.Stands.{Stands, StandsFor}
use Rattle.hay_logical.specs.ReplicaCalls.{CallsOne, LosesRun, SwapsOne}
use Rattle.hay_logical.specs.ReplicaCalls.Start.{Fresh}
use Rattle.hay_logical.proofs.Calls.{loses_none, open_up}
use Rattle.hay_logical.proofs.Changing.{not_some}
use Rattle.hay_logical.proofs.Compacted.{compact_fault, compact_refused, compacted, removes_old}
use Rattle.hay_logical.proofs.Lists.{at_same}
use Rattle.hay_logical.proofs.Methods.{same_by}
use Rattle.hay_logical.proofs.Standing.{volume_with}
use Rattle.hay_logical.proofs.Swapping.{rows_stay}
use Rattle.hay_logical.proofs.SwapShapes.{SwapCall, called_each, called_head, called_open, called_reach, called_shaped, called_stuck, called_up, called_with}
use Rattle.hay_logical.specs.Volumes.{IsMachineOf, Volume}
use Rattle.hay_logical.specs.declared.refusals.Unfinished.{Unfinished}
use Rattle.hay_logical.proofs.Untouched.{called_thawed, called_untouched}
use Rattle.hay_logical.proofs.Freezing.{frozen_unfinished}
use Rattle.std.proofs.Common.{◌≡◌, ℕ, Option, None, refl}
use Rattle.std.specs.Prelude.{map, IfOk, OnErr}
use Rattle.hay_physical.specs.OpenCopies.{goal_of}
use Rattle.hay_logical.proofs.Lists.{at_map}
use Rattle.hay_logical.specs.Refusals.{unfinished_by}
use Rattle.hay_logical.specs.Seen.{ChangesRun, CompactRefusedSeen, CompactsTo, ReplicaSeen, SwapSeen, VolumeSeen, begun, replica_seen, volume_seen}
use Rattle.hay_logical.proofs.Seen.{changes_one, longer_seen, many_seen, map_at, same_one}
use Rattle.hay_logical.proofs.SeenSwaps.{calls_set, compact_refused_seen, idle_seen}
use Rattle.hay_logical.proofs.logical.Logical.compact_files.Given as given
use Rattle.hay_logical.proofs.Changing.{some_none}
use Rattle.hay_logical.specs.declared.fault.LogicalFault.TheVariants as logical
use Rattle.hay_logical.specs.Sights.{SwapsSights, sights_of}
use Rattle.hay_logical.proofs.SightChanges.{sights_kept}
use Rattle.hay_logical.specs.declared.runs.Unswapped.{Unswapped}
use Rattle.hay_logical.specs.declared.runs.Unswapped.TheVariants.{Refused}
use Rattle.hay_physical.specs.declared.fault.ReplicaFault.TheVariants as fault
use Rattle.hay_logical.specs.Needles.{HeadsLeadOn, IsDamagedCell, LacksCellAnew}
use Rattle.hay_logical.proofs.SeenSwaps.{refused_longer, unfinished_damaged, unfinished_unsure}
use Rattle.std.proofs.Common.{Err}
use Rattle.hay_logical.proofs.logical.Logical.compact_files.Goals as goal
use Rattle.hay_logical.proofs.logical.Logical.compact_files.Goals.{After-compact_at}

pub returns-in-Some-clause-refused : goal.returns-in-Some-clause-refused
unfolding Stands
returns-in-Some-clause-refused g c = λ tells k stands. (stands.frozen ∙ ap (λ v. v.frozen) (sym c.self.view_is) ∙ c.in-Some.is, refl)

pub compact_at-requires : goal.compact_at-requires
compact_at-requires g c =
    let now = c.as_mut_slice.ensures.value in
    let thawed = not_some c.self.inside.frozen c.in_default.not-Some in
    let up : (j : ℕ) (r : Copy g.row.D.Denot) → At c.self.inside.replicas.items j r → IsUp r =
    λ j r e. open_up r (c.requires.«open».each j r (subst (λ v. At v.replicas j r) c.self.view_is e)) ((c.self.invariant.0).thawed thawed j r e) in
    let all : length c.self.inside.replicas.items ≡ c.self.inside.settings.replicas =
    ap (λ v. length v.replicas) c.self.view_is ∙ c.requires.«open».all ∙ ap (λ v. v.settings.replicas) (sym c.self.view_is) in
    let within : c.args.replica < c.self.inside.settings.replicas = subst (λ v. c.args.replica < v.settings.replicas) (sym c.self.view_is) c.requires.within in
    let most = (c.self.invariant.0).settings.most in
    let few = (c.self.invariant.0).count in
    let long = ap length now in record {
      within = (let less : c.args.replica < length c.as_mut_slice.result.now = omega (arith, within, all, long) in less);
      most = (let n : length c.as_mut_slice.result.now ≤ MAX_REPLICAS = omega (arith, most, few, long) in n);
      width = (c.self.invariant.0).width ∙ sym all ∙ sym long;
      up = (λ j r e. up j r (subst (λ xs. At xs j r) now e));
    }

-- what the call found and left
called : (g : given.Over) (c : goal.After-compact_at g) → SwapCall g.D.Disk.Tells g.D.Disk.files g.D.Piece.Piece.Tells g.D.Disk.fault_count Fresh c.self.inside.replicas.items
    c.compact_at.new.replicas c.self.inside.rows c.compact_at.new.rows c.args.replica c.compact_at.result
called g c =
    let now = c.as_mut_slice.ensures.value in
    let thawed = not_some c.self.inside.frozen c.in_default.not-Some in
    let one : SwapsOne g.D.Disk.Tells g.D.Disk.files c.args.replica c.self.inside.replicas.items c.compact_at.new.replicas =
    subst (λ xs. SwapsOne g.D.Disk.Tells g.D.Disk.files c.args.replica xs c.compact_at.new.replicas) now c.compact_at.ensures.one in
    record {
      one = one;
      ups = λ j r e. open_up r (c.requires.«open».each j r (subst (λ v. At v.replicas j r) c.self.view_is e)) ((c.self.invariant.0).thawed thawed j r e);
      swaps = c.compact_at.ensures.swaps one.before one.after (subst (λ xs. At xs c.args.replica one.before) (sym now) one.was) one.is;
      stays = c.compact_at.ensures.stays one.before one.after (subst (λ xs. At xs c.args.replica one.before) (sym now) one.was) one.is;
      places = c.compact_at.ensures.places;
    }

kept : (g : given.Over) (c : goal.After-compact_at g) → (with_items c.self.inside.replicas c.compact_at.new.replicas).items ≡ c.compact_at.new.replicas
kept g c = with_items_is c.self.inside.replicas c.compact_at.new.replicas (c.compact_at.auto.replicas ∙ c.as_mut_slice.ensures.len)

all : (g : given.Over) (c : goal.After-compact_at g) → length c.self.inside.replicas.items ≡ c.self.inside.settings.replicas
all g c = ap (λ v. length v.replicas) c.self.view_is ∙ c.requires.«open».all ∙ ap (λ v. v.settings.replicas) (sym c.self.view_is)

pub invariant_of-self : goal.invariant_of-self
invariant_of-self g c =
    let after = (goal.at.invariant_of-self g c).After-compact_at in
    let call = called_with c.in-Ok.is (called g after) in (
      called_shaped call c.self.inside.settings c.self.inside.number _ c.self.inside.front c.self.inside.frozen c.self.inside.frozen c.self.inside.unsure (kept g after)
          (λ none. call.swaps.up.0) (c.self.invariant.0).frozen_by (c.self.invariant.0).settled c.self.invariant.0,
      c.self.invariant.1,
      called_reach call _ (kept g after) c.self.invariant.2,
    )

pub invariant_of-self-in-Err : goal.invariant_of-self-in-Err
invariant_of-self-in-Err g c =
    let after = (goal.at.invariant_of-self-in-Err g c).After-compact_at in
    let call = called_with c.in-Err.is (called g after) in (
      called_shaped call c.self.inside.settings c.self.inside.number _ c.self.inside.front c.self.inside.frozen c.unfinished_by-unfinished.result.frozen c.self.inside.unsure
          (kept g after) (λ none. called_up c.self.inside.settings c.self.inside.number c.in-Err.unswapped call (ap (λ x. x.frozen) (sym c.unfinished_by-unfinished.ensures) ∙ none))
          (frozen_unfinished c.self.inside.settings c.self.inside.number c.args.replica c.in-Err.unswapped c.unfinished_by-unfinished.result
          (subst (λ v. c.args.replica < v.settings.replicas) (sym c.self.view_is) c.requires.within) c.unfinished_by-unfinished.ensures)
          (λ none. (c.self.invariant.0).settled (not_some c.self.inside.frozen c.in_default.not-Some)) c.self.invariant.0,
      c.self.invariant.1,
      called_reach call _ (kept g after) c.self.invariant.2,
    )

pub returns-in-Ok-clause-compacted : goal.returns-in-Ok-clause-compacted
unfolding Stands
returns-in-Ok-clause-compacted g c = λ tells k stands.
    let after = (goal.at.returns-in-Ok-clause-compacted g c).After-compact_at in
    let call = called_with c.in-Ok.is (called g after) in
    let thawed = not_some c.self.inside.frozen c.in_default.not-Some in
    subst (λ rs. IsCompacted g.D.Disk.files g.D.Piece.Piece.Tells k c.args.replica c.in-Ok.files.generation
    (volume_with c.self.inside.settings c.self.inside.number rs c.compact_at.new.rows c.self.inside.front c.self.inside.frozen c.self.inside.unsure)) (sym (kept g after))
    (subst (λ o. IsCompacted g.D.Disk.files g.D.Piece.Piece.Tells k c.args.replica c.in-Ok.files.generation
    (volume_with c.self.inside.settings c.self.inside.number c.compact_at.new.replicas c.compact_at.new.rows c.self.inside.front o c.self.inside.unsure)) (sym thawed)
    (compacted c.self.inside.settings c.self.inside.number g.D.Disk.Tells g.D.Disk.files g.D.Piece.Piece.Tells g.D.Disk.fault_count c.self.inside.replicas.items
    c.compact_at.new.replicas c.self.inside.rows c.compact_at.new.rows c.self.inside.front c.self.inside.unsure k
    (subst (λ o. StandsFor g.D.Disk.files g.D.Piece.Piece.Tells (volume_with c.self.inside.settings c.self.inside.number c.self.inside.replicas.items c.self.inside.rows
    c.self.inside.front o c.self.inside.unsure) k) thawed (subst (λ v. StandsFor g.D.Disk.files g.D.Piece.Piece.Tells v k) (sym c.self.view_is) stands)) tells c.args.replica
    call.one c.in-Ok.files call.swaps call.places))

pub returns-in-Ok-clause-removed : goal.returns-in-Ok-clause-removed
unfolding Stands
returns-in-Ok-clause-removed g c = λ tells k stands r r' e f.
    let after = (goal.at.returns-in-Ok-clause-removed g c).After-compact_at in
    let call = called_with c.in-Ok.is (called g after) in
    let thawed = not_some c.self.inside.frozen c.in_default.not-Some in
    removes_old c.self.inside.settings c.self.inside.number g.D.Disk.Tells g.D.Disk.files g.D.Piece.Piece.Tells g.D.Disk.fault_count c.self.inside.replicas.items
    c.compact_at.new.replicas c.self.inside.rows c.compact_at.new.rows c.self.inside.front c.self.inside.unsure k
    (subst (λ o. StandsFor g.D.Disk.files g.D.Piece.Piece.Tells (volume_with c.self.inside.settings c.self.inside.number c.self.inside.replicas.items c.self.inside.rows
    c.self.inside.front o c.self.inside.unsure) k) thawed (subst (λ v. StandsFor g.D.Disk.files g.D.Piece.Piece.Tells v k) (sym c.self.view_is) stands)) tells c.args.replica
    call.one Fresh c.in-Ok.files call.swaps r r'
    (subst (λ v. At v.replicas c.args.replica r) (sym c.self.view_is) e) (subst (λ xs. At xs c.args.replica r') (kept g after) f)

pub returns-in-Ok-clause-open : goal.returns-in-Ok-clause-open
returns-in-Ok-clause-open g c = let after = (goal.at.returns-in-Ok-clause-open g c).After-compact_at in called_open (called g after) _ (kept g after) (all g after)

pub returns-in-Ok-clause-same : goal.returns-in-Ok-clause-same
returns-in-Ok-clause-same g c =
    let after = (goal.at.returns-in-Ok-clause-same g c).After-compact_at in
    same_by _ _ _ _ c.self.view_is refl refl (kept g after) (λ j r r' e f. (called_each (called g after) j r r' e f).1)

pub returns-in-Err-clause-refused : goal.returns-in-Err-clause-refused
unfolding Stands
returns-in-Err-clause-refused g c = λ tells k stands.
    let after = (goal.at.returns-in-Err-clause-refused g c).After-compact_at in
    let call = called_with c.in-Err.is (called g after) in
    let thawed = not_some c.self.inside.frozen c.in_default.not-Some in
    subst (λ v. CompactRefused g.D.Disk.files g.D.Piece.Piece.Tells k c.args.replica v
    (volume_with c.self.inside.settings c.self.inside.number ((with_items c.self.inside.replicas c.compact_at.new.replicas).items) c.compact_at.new.rows c.self.inside.front
    c.unfinished_by-unfinished.result.frozen c.self.inside.unsure) c.unfinished_by-unfinished.result.fault) c.self.view_is
    (subst (λ rs. CompactRefused g.D.Disk.files g.D.Piece.Piece.Tells k c.args.replica
    (volume_with c.self.inside.settings c.self.inside.number c.self.inside.replicas.items c.self.inside.rows c.self.inside.front c.self.inside.frozen c.self.inside.unsure)
    (volume_with c.self.inside.settings c.self.inside.number rs c.compact_at.new.rows c.self.inside.front c.unfinished_by-unfinished.result.frozen c.self.inside.unsure)
    c.unfinished_by-unfinished.result.fault) (sym (kept g after))
    (subst (λ u. CompactRefused g.D.Disk.files g.D.Piece.Piece.Tells k c.args.replica
    (volume_with c.self.inside.settings c.self.inside.number c.self.inside.replicas.items c.self.inside.rows c.self.inside.front c.self.inside.frozen c.self.inside.unsure)
    (volume_with c.self.inside.settings c.self.inside.number c.compact_at.new.replicas c.compact_at.new.rows c.self.inside.front u.frozen c.self.inside.unsure) u.fault)
    (sym c.unfinished_by-unfinished.ensures)
    (subst (λ o. CompactRefused g.D.Disk.files g.D.Piece.Piece.Tells k c.args.replica
    (volume_with c.self.inside.settings c.self.inside.number c.self.inside.replicas.items c.self.inside.rows c.self.inside.front o c.self.inside.unsure)
    (volume_with c.self.inside.settings c.self.inside.number c.compact_at.new.replicas c.compact_at.new.rows c.self.inside.front
    (unfinished_by c.self.inside.settings c.self.inside.number c.args.replica c.in-Err.unswapped).frozen c.self.inside.unsure)
    (unfinished_by c.self.inside.settings c.self.inside.number c.args.replica c.in-Err.unswapped).fault) (sym thawed)
    (compact_refused c.self.inside.settings c.self.inside.number g.D.Disk.Tells g.D.Disk.files g.D.Piece.Piece.Tells g.D.Disk.fault_count c.self.inside.replicas.items
    c.compact_at.new.replicas c.self.inside.rows c.compact_at.new.rows c.self.inside.front c.self.inside.unsure k
    (subst (λ o. StandsFor g.D.Disk.files g.D.Piece.Piece.Tells (volume_with c.self.inside.settings c.self.inside.number c.self.inside.replicas.items c.self.inside.rows
    c.self.inside.front o c.self.inside.unsure) k) thawed (subst (λ v. StandsFor g.D.Disk.files g.D.Piece.Piece.Tells v k) (sym c.self.view_is) stands)) tells c.args.replica
    call.one c.in-Err.unswapped (call.ups c.args.replica call.one.before call.one.was) call.swaps call.stays call.places))))

pub returns-in-Err-clause-causes : goal.returns-in-Err-clause-causes
returns-in-Err-clause-causes g c =
    let after = (goal.at.returns-in-Err-clause-causes g c).After-compact_at in
    let call = called_with c.in-Err.is (called g after) in
    subst (λ v. answers.IsCompactFault g.D.Disk.fault_count v.settings v.number c.args.replica v.replicas ((with_items c.self.inside.replicas c.compact_at.new.replicas).items)
    c.unfinished_by-unfinished.result.fault) c.self.view_is
    (subst (λ rs. answers.IsCompactFault g.D.Disk.fault_count c.self.inside.settings c.self.inside.number c.args.replica c.self.inside.replicas.items rs
    c.unfinished_by-unfinished.result.fault) (sym (kept g after))
    (subst (λ u. answers.IsCompactFault g.D.Disk.fault_count c.self.inside.settings c.self.inside.number c.args.replica c.self.inside.replicas.items c.compact_at.new.replicas
    u.fault) (sym c.unfinished_by-unfinished.ensures)
    (compact_fault c.self.inside.settings c.self.inside.number g.D.Disk.Tells g.D.Disk.files g.D.Piece.Piece.Tells g.D.Disk.fault_count c.self.inside.replicas.items
    c.compact_at.new.replicas c.self.inside.rows c.compact_at.new.rows c.args.replica call.one (all g after) c.in-Err.unswapped call.swaps)))

pub returns-in-Err-clause-open : goal.returns-in-Err-clause-open
returns-in-Err-clause-open g c = let after = (goal.at.returns-in-Err-clause-open g c).After-compact_at in called_open (called g after) _ (kept g after) (all g after)

pub returns-in-Err-clause-same : goal.returns-in-Err-clause-same
returns-in-Err-clause-same g c =
    let after = (goal.at.returns-in-Err-clause-same g c).After-compact_at in
    same_by _ _ _ _ c.self.view_is refl refl (kept g after) (λ j r r' e f. (called_each (called g after) j r r' e f).1)

pub returns-in-Some-clause-causes : goal.returns-in-Some-clause-causes
returns-in-Some-clause-causes g c =
    subst (λ (v : Volume g.row.D.Denot g.row.D-Piece.Denot). IsMachineOf v.settings v.number c.in-Some.machine) c.self.view_is ((c.self.invariant.0).frozen_by c.in-Some.machine c.in-Some.is)

pub returns-in-Ok-clause-rows : goal.returns-in-Ok-clause-rows
returns-in-Ok-clause-rows g c =
    let call = called_with c.in-Ok.is (called g (goal.at.returns-in-Ok-clause-rows g c).After-compact_at) in
    subst (λ v. ChangesRows (op.Swap c.args.replica c.in-Ok.files.cells) v.rows c.compact_at.new.rows) c.self.view_is call.places.moved

pub returns-in-Ok-clause-still : goal.returns-in-Ok-clause-still
returns-in-Ok-clause-still g c = (ap (λ v. v.front) c.self.view_is, ap (λ v. v.frozen) c.self.view_is)

pub returns-in-Ok-clause-others : goal.returns-in-Ok-clause-others
returns-in-Ok-clause-others g c = λ same j apart r r' e f.
    let after = (goal.at.returns-in-Ok-clause-others g c).After-compact_at in
    let call = called_with c.in-Ok.is (called g after) in
    (call.one.others j r r' apart (subst (λ v. At v.replicas j r) (sym c.self.view_is) e) (subst (λ xs. At xs j r') (kept g after) f)).1 call.swaps.up.0

pub returns-in-Ok-clause-beside : goal.returns-in-Ok-clause-beside
returns-in-Ok-clause-beside g c = λ j apart r r' e f.
    let after = (goal.at.returns-in-Ok-clause-beside g c).After-compact_at in
    ((called g after).one.others j r r' apart (subst (λ v. At v.replicas j r) (sym c.self.view_is) e) (subst (λ xs. At xs j r') (kept g after) f)).0

pub returns-in-Err-clause-others : goal.returns-in-Err-clause-others
returns-in-Err-clause-others g c = λ same j apart r r' e f.
    let after = (goal.at.returns-in-Err-clause-others g c).After-compact_at in
    let call = called_with c.in-Err.is (called g after) in
    let thawed = not_some c.self.inside.frozen c.in_default.not-Some in
    let none = ap (λ x. x.frozen) (sym c.unfinished_by-unfinished.ensures) ∙ same ∙ ap (λ v. v.frozen) (sym c.self.view_is) ∙ thawed in
    (call.one.others j r r' apart (subst (λ v. At v.replicas j r) (sym c.self.view_is) e) (subst (λ xs. At xs j r') (kept g after) f)).1
    (called_up c.self.inside.settings c.self.inside.number c.in-Err.unswapped call none)

pub returns-in-Err-clause-beside : goal.returns-in-Err-clause-beside
returns-in-Err-clause-beside g c = λ j apart r r' e f.
    let after = (goal.at.returns-in-Err-clause-beside g c).After-compact_at in
    ((called g after).one.others j r r' apart (subst (λ v. At v.replicas j r) (sym c.self.view_is) e) (subst (λ xs. At xs j r') (kept g after) f)).0

pub returns-in-Err-clause-kept : goal.returns-in-Err-clause-kept
returns-in-Err-clause-kept g c = λ pair.
    let after = (goal.at.returns-in-Err-clause-kept g c).After-compact_at in
    rows_stay (called_with c.in-Err.is (called g after)).places pair ∙ ap (λ v. row_at v.rows pair) c.self.view_is

pub returns-in-Some-clause-others : goal.returns-in-Some-clause-others
returns-in-Some-clause-others g c = λ same j apart r r' e f. at_same c.args.self.now.replicas j r' r f e

pub returns-in-Some-clause-beside : goal.returns-in-Some-clause-beside
returns-in-Some-clause-beside g c = λ j apart r r' e f.
    subst (λ x. LosesRun g.D.Disk.Tells g.D.Disk.files r x) (at_same c.args.self.now.replicas j r r' e f) (loses_none g.D.Disk.Tells g.D.Disk.files r)

pub returns-in-Err-clause-untouched : goal.returns-in-Err-clause-untouched
returns-in-Err-clause-untouched g c = λ by.
    let after = (goal.at.returns-in-Err-clause-untouched g c).After-compact_at in
    let call = called_with c.in-Err.is (called g after) in
    called_untouched c.self.inside.settings c.self.inside.number c.in-Err.unswapped call (subst (λ (u : Unfinished). IsUntouchedBy u.fault) c.unfinished_by-unfinished.ensures by) _
    c.self.inside.front c.self.inside.frozen
    c.unfinished_by-unfinished.result.frozen c.self.inside.unsure (kept g after) (not_some c.self.inside.frozen c.in_default.not-Some)
    (ap (λ (u : Unfinished). u.frozen) c.unfinished_by-unfinished.ensures) ∙ c.self.view_is

pub returns-in-Ok-clause-sizes : goal.returns-in-Ok-clause-sizes
returns-in-Ok-clause-sizes g c = λ tells r f.
    let after = (goal.at.returns-in-Ok-clause-sizes g c).After-compact_at in
    let call = called_with c.in-Ok.is (called g after) in
    subst (λ (x : Copy g.row.D.Denot). HasSizes g.D.Disk.files x c.in-Ok.files.end c.in-Ok.files.count)
    (at_same c.compact_at.new.replicas c.args.replica call.one.after r call.one.is (subst (λ xs. At xs c.args.replica r) (kept g after) f)) (call.swaps.sizes tells)

pub returns-in-Ok-clause-loose : goal.returns-in-Ok-clause-loose
returns-in-Ok-clause-loose g c = λ r f.
    let after = (goal.at.returns-in-Ok-clause-loose g c).After-compact_at in
    let call = called_with c.in-Ok.is (called g after) in
    ap is_stuck (at_same c.compact_at.new.replicas c.args.replica r call.one.after (subst (λ xs. At xs c.args.replica r) (kept g after) f) call.one.is) ∙ call.swaps.up.1

pub returns-in-Err-clause-stuck : goal.returns-in-Err-clause-stuck
returns-in-Err-clause-stuck g c = λ j r r' e f.
    let after = (goal.at.returns-in-Err-clause-stuck g c).After-compact_at in
    let call = called_with c.in-Err.is (called g after) in
    called_stuck c.in-Err.unswapped call j r r' (subst (λ v. At v.replicas j r) (sym c.self.view_is) e) (subst (λ xs. At xs j r') (kept g after) f)

pub returns-in-Some-clause-stuck : goal.returns-in-Some-clause-stuck
returns-in-Some-clause-stuck g c = λ j r r' e f. ap is_stuck (at_same c.args.self.now.replicas j r' r f e)

pub returns-in-Some-clause-thawed : goal.returns-in-Some-clause-thawed
returns-in-Some-clause-thawed g c = λ none m e. some_none (sym c.in-Some.is ∙ ap (λ v. v.frozen) c.self.view_is ∙ none)

pub returns-in-Err-clause-thawed : goal.returns-in-Err-clause-thawed
returns-in-Err-clause-thawed g c = λ none m e.
    let after = (goal.at.returns-in-Err-clause-thawed g c).After-compact_at in
    let call = called_with c.in-Err.is (called g after) in
    let same : c.unfinished_by-unfinished.result.fault ≡ logical.ReadOnly m = cc in
    called_thawed c.self.inside.settings c.self.inside.number c.in-Err.unswapped call m (ap (λ (u : Unfinished). u.fault) (sym c.unfinished_by-unfinished.ensures) ∙ same)

pub returns-in-Some-clause-refused_seen : goal.returns-in-Some-clause-refused_seen
returns-in-Some-clause-refused_seen g c = (refl, ap (λ v. v.frozen) (sym c.self.view_is) ∙ c.in-Some.is)

pub returns-in-Ok-clause-seen : goal.returns-in-Ok-clause-seen
returns-in-Ok-clause-seen g c =
    let after = (goal.at.returns-in-Ok-clause-seen g c).After-compact_at in
    let call = called_with c.in-Ok.is (called g after) in
    let thawed = not_some c.self.inside.frozen c.in_default.not-Some in
    let was : At c.as_mut_slice.result.now c.args.replica call.one.before = subst (λ xs. At xs c.args.replica call.one.before) (sym c.as_mut_slice.ensures.value) call.one.was in
    let one : CallsOne c.args.replica c.self.inside.replicas.items c.compact_at.new.replicas =
    record { before = call.one.before; after = call.one.after; was = call.one.was; is = calls_set call call.swaps.up.0 } in
    let seen : SwapSeen c.in-Ok.files.generation c.in-Ok.files.end (replica_seen call.one.before) (replica_seen call.one.after) =
    subst (λ x. IfOk x (λ files. SwapSeen files.generation files.end (replica_seen call.one.before) (replica_seen call.one.after))) c.in-Ok.is
    (c.compact_at.ensures.seen call.one.before call.one.after was call.one.is) in
    let goal : goal_of call.one.before ≡ None = call.swaps.up.3.0 in (
      ap (λ v. v.frozen) (sym c.self.view_is) ∙ thawed,
      changes_one c.args.replica
          (CompactsTo c.in-Ok.files.generation c.in-Ok.files.end) c.self.inside.settings c.self.inside.number c.self.inside.replicas.items c.compact_at.new.replicas c.self.inside.rows
          c.self.inside.front c.self.inside.frozen c.self.inside.unsure
          one c.args.self.now c.self.view_is _ (kept g after) (goal, seen),
    )

pub returns-in-Err-clause-refused_seen : goal.returns-in-Err-clause-refused_seen
returns-in-Err-clause-refused_seen g c =
    let after = (goal.at.returns-in-Err-clause-refused_seen g c).After-compact_at in
    let call = called_with c.in-Err.is (called g after) in
    let thawed = not_some c.self.inside.frozen c.in_default.not-Some in
    let was : At c.as_mut_slice.result.now c.args.replica call.one.before = subst (λ xs. At xs c.args.replica call.one.before) (sym c.as_mut_slice.ensures.value) call.one.was in
    let changes : ChangesRun (replica_seen call.one.before) (replica_seen call.one.after) =
    subst (λ x. OnErr x (ChangesRun (replica_seen call.one.before) (replica_seen call.one.after))) c.in-Err.is (c.compact_at.ensures.kept call.one.before call.one.after was call.one.is) in
    let one : IsUp call.one.after → CallsOne c.args.replica c.self.inside.replicas.items c.compact_at.new.replicas =
    λ up. record { before = call.one.before; after = call.one.after; was = call.one.was; is = calls_set call up } in
    let old : VolumeSeen = volume_seen
    (volume_with c.self.inside.settings c.self.inside.number c.self.inside.replicas.items c.self.inside.rows c.self.inside.front c.self.inside.frozen c.self.inside.unsure) in
    let seen : Option ℕ → VolumeSeen = λ o. volume_seen (volume_with c.self.inside.settings c.self.inside.number
    (with_items c.self.inside.replicas c.compact_at.new.replicas).items c.self.inside.rows c.self.inside.front o c.self.inside.unsure) in
    let by : Unfinished = unfinished_by c.self.inside.settings c.self.inside.number c.args.replica c.in-Err.unswapped in
    subst (λ (u : Unfinished). CompactRefusedSeen c.args.self.now.settings c.args.self.now.number c.args.replica (volume_seen c.args.self.now) (seen u.frozen) u.fault)
    (sym c.unfinished_by-unfinished.ensures)
    (subst (λ v. CompactRefusedSeen v.settings v.number c.args.replica (volume_seen v) (seen by.frozen) by.fault) c.self.view_is
    (compact_refused_seen c.self.inside.settings c.self.inside.number c.args.replica g.D.Disk.fault_count call.one.before call.one.after old (seen by.frozen)
    (at_map replica_seen c.self.inside.replicas.items c.args.replica call.one.before call.one.was) thawed
    (call.ups c.args.replica call.one.before call.one.was) changes c.in-Err.unswapped call.swaps.left
    (λ none up same. subst (λ o. seen o ≡ old) (thawed ∙ sym none)
    (same_one c.args.replica c.self.inside.settings c.self.inside.number c.self.inside.replicas.items c.compact_at.new.replicas c.self.inside.rows c.self.inside.front c.self.inside.frozen
    c.self.inside.unsure (one up)
    (volume_with c.self.inside.settings c.self.inside.number c.self.inside.replicas.items c.self.inside.rows c.self.inside.front c.self.inside.frozen c.self.inside.unsure) refl _
    (kept g after) same))
    (λ m froze by_m. record {
      thawed = thawed;
      settled = (c.self.invariant.0).settled thawed;
      many = many_seen c.self.inside.replicas.items _ (ap length (kept g after) ∙ call.one.count);
      front = refl;
      frozen = by_m;
      unsure = refl;
      idle = λ j s e. idle_seen c.compact_at.new.replicas (call.one.idle froze) j s (subst (λ rs. At
          (map replica_seen rs) j s) (kept g after) e);
      longer = longer_seen c.self.inside.replicas.items c.compact_at.new.replicas _ (kept g after)
          (refused_longer g.D.Disk.Tells g.D.Disk.files c.args.replica c.self.inside.replicas.items c.compact_at.new.replicas call.one changes);
    })))

pub returns-in-Ok-clause-sights : goal.returns-in-Ok-clause-sights
returns-in-Ok-clause-sights g c =
    let call = called_with c.in-Ok.is (called g (goal.at.returns-in-Ok-clause-sights g c).After-compact_at) in
    let news : List (Copy g.row.D.Denot) = (with_items c.self.inside.replicas c.compact_at.new.replicas).items in
    let ends : (r : ReplicaSeen) → At (map replica_seen news) c.args.replica r → r.end ≡ c.in-Ok.files.end =
    (λ r e.
    let x =
    map_at replica_seen c.compact_at.new.replicas c.args.replica r (subst (λ rs. At (map replica_seen rs) c.args.replica r)
    (kept g (goal.at.returns-in-Ok-clause-sights g c).After-compact_at) e) in
    let there : call.one.after ≡ x.0 = at_same c.compact_at.new.replicas c.args.replica call.one.after x.0 call.one.is x.1 in
    let now = c.as_mut_slice.ensures.value in
    let seen : SwapSeen c.in-Ok.files.generation c.in-Ok.files.end (replica_seen call.one.before) (replica_seen call.one.after) =
    subst (λ x. IfOk x (λ files. SwapSeen files.generation files.end (replica_seen call.one.before) (replica_seen call.one.after))) c.in-Ok.is
    (c.compact_at.ensures.seen call.one.before call.one.after (subst (λ xs. At xs c.args.replica call.one.before) (sym now) call.one.was) call.one.is) in
    ap (λ (y : ReplicaSeen). y.end) x.2 ∙ ap (λ (y : Copy g.row.D.Denot). end_of y) (sym there) ∙ ap (λ (y : ReplicaSeen). y.end) seen.is) in
    subst (λ v. SwapsSights c.args.replica (map replica_seen news) (sights_of v.rows) (sights_of c.compact_at.new.rows)) c.self.view_is (call.places.sights (map replica_seen news) ends)

pub returns-in-Err-clause-refused_sights : goal.returns-in-Err-clause-refused_sights
returns-in-Err-clause-refused_sights g c =
    let after = (goal.at.returns-in-Err-clause-refused_sights g c).After-compact_at in
    sights_kept c.args.self.now.rows c.compact_at.new.rows (λ pair. rows_stay (called_with c.in-Err.is (called g after)).places pair ∙ ap (λ v. row_at v.rows pair) c.self.view_is)

pub returns-in-Some-clause-refused_sights : goal.returns-in-Some-clause-refused_sights
returns-in-Some-clause-refused_sights g c = λ q j. refl

pub returns-in-Err-clause-damaged : goal.returns-in-Err-clause-damaged
returns-in-Err-clause-damaged g c = λ tells m place e.
    let by : c.unfinished_by-unfinished.result.fault ≡ logical.Damaged m place = cc in
    let is : c.in-Err.unswapped ≡ Refused (fault.Damaged place) =
    unfinished_damaged c.self.inside.settings c.self.inside.number c.args.replica c.in-Err.unswapped m place (ap (λ (u : Unfinished). u.fault) (sym c.unfinished_by-unfinished.ensures) ∙ by) in
    let here = c.compact_at.ensures.damaged tells place (c.in-Err.is ∙ ap (λ (u : Unswapped). Err u) is) in
    subst (λ v. IsDamagedCell g.D.Disk.files v.replicas c.args.replica (LacksCellAnew (sights_of v.rows) c.args.replica place)) c.self.view_is
    (subst (λ xs. IsDamagedCell g.D.Disk.files xs c.args.replica (LacksCellAnew (sights_of c.self.inside.rows) c.args.replica place)) c.as_mut_slice.ensures.value here)

pub returns-in-Ok-clause-lead : goal.returns-in-Ok-clause-lead
returns-in-Ok-clause-lead g c = λ tells r e.
    subst (λ v. HeadsLeadOn (sights_of v.rows) c.args.replica (begun (replica_seen r)) (volume_bytes g.D.Disk.files r)) c.self.view_is
    (c.in-Ok.ensures.lead tells r (subst (λ xs. At xs c.args.replica r) (sym c.as_mut_slice.ensures.value) (subst (λ v. At v.replicas c.args.replica r) (sym c.self.view_is) e)))

pub returns-in-Some-clause-froze : goal.returns-in-Some-clause-froze
returns-in-Some-clause-froze g c = λ tells thawed m e. absurd (some_none (sym c.in-Some.is ∙ ap (λ v. v.frozen) c.self.view_is ∙ thawed))

pub returns-in-Ok-clause-froze : goal.returns-in-Ok-clause-froze
returns-in-Ok-clause-froze g c = λ tells thawed m e. absurd (some_none (sym e ∙ not_some c.self.inside.frozen c.in_default.not-Some))

pub returns-in-Err-clause-froze : goal.returns-in-Err-clause-froze
returns-in-Err-clause-froze g c = λ tells thawed m e r there.
    let by = unfinished_unsure c.self.inside.settings c.self.inside.number c.args.replica c.in-Err.unswapped m (ap (λ (u : Unfinished). u.frozen) (sym c.unfinished_by-unfinished.ensures) ∙ e) in
    subst (λ v. HeadsLeadOn (sights_of v.rows) c.args.replica (begun (replica_seen r)) (volume_bytes g.D.Disk.files r)) c.self.view_is
    (c.compact_at.ensures.unsure tells by.0 (c.in-Err.is ∙ ap (λ (u : Unswapped). Err u) by.1) r
    (subst (λ xs. At xs c.args.replica r) (sym c.as_mut_slice.ensures.value) (subst (λ v. At v.replicas c.args.replica r) (sym c.self.view_is) there)))

pub returns-in-Some-clause-head_file : goal.returns-in-Some-clause-head_file
returns-in-Some-clause-head_file g c = λ tells none r r' e f. ap (λ (x : Copy g.row.D.Denot). contents_of g.D.Disk.files x.disk 0) (at_same c.args.self.now.replicas c.args.replica r' r f e)

pub returns-in-Err-clause-head_file : goal.returns-in-Err-clause-head_file
returns-in-Err-clause-head_file g c = λ tells none r r' e f.
    let after = (goal.at.returns-in-Err-clause-head_file g c).After-compact_at in
    let call = called_with c.in-Err.is (called g after) in
    let up = called_up c.self.inside.settings c.self.inside.number c.in-Err.unswapped call (ap (λ x. x.frozen) (sym c.unfinished_by-unfinished.ensures) ∙ none) in
    called_head c.in-Err.unswapped call tells up r r' (subst (λ v. At v.replicas c.args.replica r) (sym c.self.view_is) e) (subst (λ xs. At xs c.args.replica r') (kept g after) f)
