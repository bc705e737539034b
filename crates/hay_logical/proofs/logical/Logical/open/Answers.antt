use Rattle.std.proofs.Common.{◌≡◌, ◌≤◌, ◌<◌, ℕ, None, length, replicate, refl, sym, ap, subst, ◌∙◌, arith}
use Rattle.std.proofs.lemmas.List.{with_items_is}
use Rattle.hay_needle.specs.declared.settings.TheConstants.{MAX_REPLICAS}
use Rattle.hay_map.specs.declared.place.Place.TheVariants as place
use Rattle.hay_open.specs.declared.fault.OpenFault.TheVariants as open_fault
use Rattle.hay_physical.specs.OpenCopies.{Copy, volume_bytes}
use Rattle.hay_logical.specs.Draws.{DrewAt, looked_pair}
use Rattle.hay_logical.specs.Fits.{At}
use Rattle.hay_logical.specs.Notes.{NotesTell, ToldUnsure}
use Rattle.hay_logical.specs.Stands.{Holds, HoldsFor, IsFirst, Stands, StandsFor, Stopped, StoppedFor}
use Rattle.hay_logical.specs.ReplicaCalls.{IsRefusedAt, OpensAt}
use Rattle.hay_logical.specs.Volumes.{CanReach, IsShaped, KeepsCounts, Volume}
use Rattle.hay_logical.proofs.Calls.{up_open, up_thawed}
use Rattle.hay_logical.proofs.Holding.{held_on}
use Rattle.hay_logical.proofs.Lists.{at_below, at_there}
use Rattle.hay_logical.proofs.Methods.{same_by, shaped_on}
use Rattle.hay_logical.proofs.Opened.{err_same, first_stands, no_damage, no_notes, not_damaged, notes_on, reopened, reopened_on}
use Rattle.hay_logical.proofs.Standing.{volume_with}
use Rattle.hay_logical.proofs.Freezing.{never_frozen}
use Rattle.std.specs.Prelude.{map}
use Rattle.hay_logical.specs.Seen.{IsFresh, ReplicaSeen, replica_seen}
use Rattle.hay_logical.specs.Sights.{LiesWithinAt, sights_of}
use Rattle.std.specs.Vec.{with_items}
use Rattle.hay_physical.proofs.Laws.{no_next, stands_bare, stands_end, stands_generation}
use Rattle.hay_logical.proofs.Seen.{map_at}
use Rattle.hay_logical.proofs.logical.Logical.open.Goals as goal

pub open_all-requires : goal.open_all-requires
open_all-requires g c = let now = c.as_mut_slice.ensures.value in
    let here = c.self.inside in
    let olds = c.self.inside.replicas.items in
    let all : length olds ≡ here.settings.replicas = subst (λ (v : Volume g.row.D.Denot g.row.D-Piece.Denot). length v.replicas ≡ v.settings.replicas) (sym c.self.view_is) c.requires.all in
    let shape = c.self.invariant.0 in
    let long = ap length now in
    let few = (shape.settings).most in
    let wide : here.settings.replicas ≡ length c.as_mut_slice.result.now = sym all ∙ sym long in
    let most : length c.as_mut_slice.result.now ≤ MAX_REPLICAS = omega (arith, wide, few) in record {
      most = most;
      width = c.new.ensures.replicas ∙ wide;
      empty = (λ pair. c.new.ensures.rows pair ∙ ap (λ n. replicate n place.None) wide);
      closed = (λ j r e. c.requires.closed j r (subst (λ (v : Volume g.row.D.Denot g.row.D-Piece.Denot). At v.replicas j r) c.self.view_is (subst (λ xs. At xs j r) now e)));
      idle = (λ tells j r e. c.requires.idle tells j r (subst (λ (v : Volume g.row.D.Denot g.row.D-Piece.Denot). At v.replicas j r) c.self.view_is (subst (λ xs. At xs j r) now e)));
    }

pub notes_of-requires : goal.notes_of-requires
notes_of-requires g c = let now = c.as_mut_slice.ensures.value in
    let kept = with_items_is c.self.inside.replicas c.open_all.new.replicas (c.open_all.auto.replicas ∙ c.as_mut_slice.ensures.len) in
    let here = c.self.inside in
    let olds = c.self.inside.replicas.items in
    let news = c.open_all.new.replicas in
    let count = c.open_all.ensures.counts.count ∙ ap length now in
    let opened : (j : ℕ) (r r' : Copy g.row.D.Denot) → At olds j r → At news j r' → OpensAt g.D.Disk.Tells g.D.Disk.files g.D.Piece.Piece.Tells c.open_all.new.rows j r r' =
    λ j r r' e f. c.in-Ok.ensures.opened j r r' (subst (λ xs. At xs j r) (sym now) e) f in
    let all : length olds ≡ here.settings.replicas = subst (λ (v : Volume g.row.D.Denot g.row.D-Piece.Denot). length v.replicas ≡ v.settings.replicas) (sym c.self.view_is) c.requires.all in
    let shape = c.self.invariant.0 in
    let slice = c.as_slice.ensures.value ∙ kept in
    let long = ap length slice in
    let few = (shape.settings).most in
    let most : length c.as_slice.result.now ≤ MAX_REPLICAS = omega (arith, long, count, all, few) in record {
      of = shape.settings;
      most = most;
      «open» = (λ j r' s.
          let f = subst (λ xs. At xs j r') slice s in
          let old = at_there olds j (let h = at_below news j r' f in let less : j < length olds = omega (arith, h, count) in less) in
          up_open r' (opened j old.0 r' old.1 f).up);
      width = c.open_all.ensures.width ∙ c.new.ensures.replicas ∙ sym all ∙ sym count ∙ sym long;
    }

pub invariant_of-self : goal.invariant_of-self
invariant_of-self g c =
    let now = c.as_mut_slice.ensures.value in
    let kept = with_items_is c.self.inside.replicas c.open_all.new.replicas (c.open_all.auto.replicas ∙ c.as_mut_slice.ensures.len) in
    let here = c.self.inside in
    let olds = c.self.inside.replicas.items in
    let news = c.open_all.new.replicas in
    let count = c.open_all.ensures.counts.count ∙ ap length now in
    let shape = c.self.invariant.0 in (
      subst (λ rs. IsShaped (volume_with here.settings here.number rs c.open_all.new.rows here.front here.frozen here.unsure)) (sym kept)
          (shaped_on here.settings here.number olds news here.rows c.open_all.new.rows here.front here.front here.frozen here.frozen here.unsure here.unsure shape shape.frozen_by shape.settled count
          (λ j r r' e f. (c.open_all.ensures.left j r r' (subst (λ xs. At xs j r) (sym now) e) f).sup)
          (c.open_all.ensures.width ∙ c.new.ensures.replicas ∙ sym shape.width)
          (λ none j r r' e f. c.in-Err.ensures.thawed j r' f)),
      c.self.invariant.1,
      subst (λ rs. CanReach g.D.Disk.Tells g.D.Disk.files g.D.Piece.Piece.Tells rs c.open_all.new.rows) (sym kept) c.open_all.ensures.reach,
    )

pub returns-in-Err-clause-left : goal.returns-in-Err-clause-left
unfolding Holds Stopped
returns-in-Err-clause-left g c = λ tells k stopped.
    let now = c.as_mut_slice.ensures.value in
    let kept = with_items_is c.self.inside.replicas c.open_all.new.replicas (c.open_all.auto.replicas ∙ c.as_mut_slice.ensures.len) in
    let here = c.self.inside in
    let olds = c.self.inside.replicas.items in
    let news = c.open_all.new.replicas in
    let count = c.open_all.ensures.counts.count ∙ ap length now in
    subst (λ rs. HoldsFor g.D.Disk.files (volume_with here.settings here.number rs c.open_all.new.rows here.front here.frozen here.unsure) k) (sym kept)
    (held_on g.D.Disk.Tells g.D.Disk.files g.D.Piece.Piece.Tells here.settings here.number olds news here.rows c.open_all.new.rows here.front here.front here.frozen here.frozen
    here.unsure here.unsure k count
    (λ j r r' e f b a t h. (c.open_all.ensures.left j r r' (subst (λ xs. At xs j r) (sym now) e) f).holds tells b a t h)
    (subst (λ v. HoldsFor g.D.Disk.files v k) (sym c.self.view_is) stopped.holds))

pub returns-in-Err-clause-kept : goal.returns-in-Err-clause-kept
returns-in-Err-clause-kept g c = λ tells j r r' e f.
    let now = c.as_mut_slice.ensures.value in
    let kept = with_items_is c.self.inside.replicas c.open_all.new.replicas (c.open_all.auto.replicas ∙ c.as_mut_slice.ensures.len) in
    c.open_all.ensures.kept tells j r r' (subst (λ xs. At xs j r) (sym now) (subst (λ (v : Volume g.row.D.Denot g.row.D-Piece.Denot). At v.replicas j r) (sym c.self.view_is) e))
    (subst (λ xs. At xs j r') kept f)

pub returns-in-Err-clause-refused : goal.returns-in-Err-clause-refused
returns-in-Err-clause-refused g c =
    let now = c.as_mut_slice.ensures.value in
    let kept = with_items_is c.self.inside.replicas c.open_all.new.replicas (c.open_all.auto.replicas ∙ c.as_mut_slice.ensures.len) in
    subst (λ rs. IsRefusedAt g.D.Disk.Tells g.D.Disk.files g.D.Disk.fault_count c.args.self.now.replicas rs c.in-Err.refusal) (sym kept)
    (subst (λ os. IsRefusedAt g.D.Disk.Tells g.D.Disk.files g.D.Disk.fault_count os c.open_all.new.replicas c.in-Err.refusal)
    (now ∙ ap (λ (v : Volume g.row.D.Denot g.row.D-Piece.Denot). v.replicas) c.self.view_is) c.in-Err.ensures.refused)

pub returns-in-Err-clause-whole : goal.returns-in-Err-clause-whole
unfolding Stopped
returns-in-Err-clause-whole g c = λ tells k stopped replica file at e.
    let now = c.as_mut_slice.ensures.value in
    let here = c.self.inside in
    let olds = c.self.inside.replicas.items in
    let news = c.open_all.new.replicas in
    not_damaged g.D.Disk.Tells g.D.Disk.files g.D.Disk.fault_count here.settings here.number olds news here.rows here.front here.frozen here.unsure k replica file at tells
    (subst (λ v. HoldsFor g.D.Disk.files v k) (sym c.self.view_is) stopped.holds)
    (subst (λ x. IsRefusedAt g.D.Disk.Tells g.D.Disk.files g.D.Disk.fault_count olds news x) (err_same _ c.in-Err.refusal (record { replica = replica; fault = open_fault.Damaged file at }) refl e)
    (subst (λ os. IsRefusedAt g.D.Disk.Tells g.D.Disk.files g.D.Disk.fault_count os news c.in-Err.refusal) now c.in-Err.ensures.refused))

pub returns-in-Err-clause-counts : goal.returns-in-Err-clause-counts
returns-in-Err-clause-counts g c =
    let now = c.as_mut_slice.ensures.value in
    let kept = with_items_is c.self.inside.replicas c.open_all.new.replicas (c.open_all.auto.replicas ∙ c.as_mut_slice.ensures.len) in
    subst (λ rs. KeepsCounts g.D.Disk.fault_count g.D.Disk.fuse_count c.args.self.now.replicas rs) (sym kept)
    (subst (λ os. KeepsCounts g.D.Disk.fault_count g.D.Disk.fuse_count os c.open_all.new.replicas)
    (now ∙ ap (λ (v : Volume g.row.D.Denot g.row.D-Piece.Denot). v.replicas) c.self.view_is) c.open_all.ensures.counts)

pub returns-in-Err-clause-same : goal.returns-in-Err-clause-same
returns-in-Err-clause-same g c =
    let now = c.as_mut_slice.ensures.value in
    let kept = with_items_is c.self.inside.replicas c.open_all.new.replicas (c.open_all.auto.replicas ∙ c.as_mut_slice.ensures.len) in
    same_by _ _ _ _ c.self.view_is refl refl kept (λ j r r' e f. (c.open_all.ensures.left j r r' (subst (λ xs. At xs j r) (sym now) e) f).sup)

pub invariant_of-self-in_default : goal.invariant_of-self-in_default
invariant_of-self-in_default g c =
    let now = c.as_mut_slice.ensures.value in
    let kept = with_items_is c.self.inside.replicas c.open_all.new.replicas (c.open_all.auto.replicas ∙ c.as_mut_slice.ensures.len) in
    let here = c.self.inside in
    let olds = c.self.inside.replicas.items in
    let news = c.open_all.new.replicas in
    let count = c.open_all.ensures.counts.count ∙ ap length now in
    let opened : (j : ℕ) (r r' : Copy g.row.D.Denot) → At olds j r → At news j r' → OpensAt g.D.Disk.Tells g.D.Disk.files g.D.Piece.Piece.Tells c.open_all.new.rows j r r' =
    λ j r r' e f. c.in-Ok.ensures.opened j r r' (subst (λ xs. At xs j r) (sym now) e) f in
    let shape = c.self.invariant.0 in (
      subst (λ rs. IsShaped (volume_with here.settings here.number rs c.open_all.new.rows here.front here.frozen here.unsure)) (sym kept)
          (shaped_on here.settings here.number olds news here.rows c.open_all.new.rows here.front here.front here.frozen here.frozen here.unsure here.unsure shape shape.frozen_by shape.settled count
          (λ j r r' e f. (c.open_all.ensures.left j r r' (subst (λ xs. At xs j r) (sym now) e) f).sup)
          (c.open_all.ensures.width ∙ c.new.ensures.replicas ∙ sym shape.width)
          (λ none j r r' e f. up_thawed r' (opened j r r' e f).up)),
      c.self.invariant.1,
      subst (λ rs. CanReach g.D.Disk.Tells g.D.Disk.files g.D.Piece.Piece.Tells rs c.open_all.new.rows) (sym kept) c.open_all.ensures.reach,
    )

pub returns-in_default-clause-left : goal.returns-in_default-clause-left
unfolding Holds Stopped
returns-in_default-clause-left g c = λ tells k stopped.
    let now = c.as_mut_slice.ensures.value in
    let kept = with_items_is c.self.inside.replicas c.open_all.new.replicas (c.open_all.auto.replicas ∙ c.as_mut_slice.ensures.len) in
    let here = c.self.inside in
    let olds = c.self.inside.replicas.items in
    let news = c.open_all.new.replicas in
    let count = c.open_all.ensures.counts.count ∙ ap length now in
    subst (λ rs. HoldsFor g.D.Disk.files (volume_with here.settings here.number rs c.open_all.new.rows here.front here.frozen here.unsure) k) (sym kept)
    (held_on g.D.Disk.Tells g.D.Disk.files g.D.Piece.Piece.Tells here.settings here.number olds news here.rows c.open_all.new.rows here.front here.front here.frozen here.frozen
    here.unsure here.unsure k count
    (λ j r r' e f b a t h. (c.open_all.ensures.left j r r' (subst (λ xs. At xs j r) (sym now) e) f).holds tells b a t h)
    (subst (λ v. HoldsFor g.D.Disk.files v k) (sym c.self.view_is) stopped.holds))

pub returns-in_default-clause-kept : goal.returns-in_default-clause-kept
returns-in_default-clause-kept g c = λ tells j r r' e f.
    let now = c.as_mut_slice.ensures.value in
    let kept = with_items_is c.self.inside.replicas c.open_all.new.replicas (c.open_all.auto.replicas ∙ c.as_mut_slice.ensures.len) in
    c.open_all.ensures.kept tells j r r' (subst (λ xs. At xs j r) (sym now) (subst (λ (v : Volume g.row.D.Denot g.row.D-Piece.Denot). At v.replicas j r) (sym c.self.view_is) e))
    (subst (λ xs. At xs j r') kept f)

pub returns-in_default-clause-refused : goal.returns-in_default-clause-refused
returns-in_default-clause-refused g c =
    let now = c.as_mut_slice.ensures.value in
    let kept = with_items_is c.self.inside.replicas c.open_all.new.replicas (c.open_all.auto.replicas ∙ c.as_mut_slice.ensures.len) in
    let here = c.self.inside in
    let olds = c.self.inside.replicas.items in
    let news = c.open_all.new.replicas in
    let count = c.open_all.ensures.counts.count ∙ ap length now in
    let all : length olds ≡ here.settings.replicas = subst (λ (v : Volume g.row.D.Denot g.row.D-Piece.Denot). length v.replicas ≡ v.settings.replicas) (sym c.self.view_is) c.requires.all in
    let some = ((c.self.invariant.0).settings).some in
    let old = at_there olds 0 (let less : 0 < length olds = omega (arith, all, some) in less) in
    let new = at_there news 0 (let less : 0 < length news = omega (arith, all, some, count) in less) in
    record {
      before = old.0;
      after = new.0;
      was = subst (λ (v : Volume g.row.D.Denot g.row.D-Piece.Denot). At v.replicas 0 old.0) c.self.view_is old.1;
      is = subst (λ xs. At xs 0 new.0) (sym kept) new.1;
      cause = tt;
      earlier = λ tells i r r' less e f. absurd (omega (arith, less));
    }

pub returns-in_default-clause-whole : goal.returns-in_default-clause-whole
returns-in_default-clause-whole g c = λ tells k stopped replica file at e. no_damage _ replica file at refl e

pub returns-in_default-clause-counts : goal.returns-in_default-clause-counts
returns-in_default-clause-counts g c =
    let now = c.as_mut_slice.ensures.value in
    let kept = with_items_is c.self.inside.replicas c.open_all.new.replicas (c.open_all.auto.replicas ∙ c.as_mut_slice.ensures.len) in
    subst (λ rs. KeepsCounts g.D.Disk.fault_count g.D.Disk.fuse_count c.args.self.now.replicas rs) (sym kept)
    (subst (λ os. KeepsCounts g.D.Disk.fault_count g.D.Disk.fuse_count os c.open_all.new.replicas)
    (now ∙ ap (λ (v : Volume g.row.D.Denot g.row.D-Piece.Denot). v.replicas) c.self.view_is) c.open_all.ensures.counts)

pub returns-in_default-clause-same : goal.returns-in_default-clause-same
returns-in_default-clause-same g c =
    let now = c.as_mut_slice.ensures.value in
    let kept = with_items_is c.self.inside.replicas c.open_all.new.replicas (c.open_all.auto.replicas ∙ c.as_mut_slice.ensures.len) in
    same_by _ _ _ _ c.self.view_is refl refl kept (λ j r r' e f. (c.open_all.ensures.left j r r' (subst (λ xs. At xs j r) (sym now) e) f).sup)

pub invariant_of-self-2 : goal.invariant_of-self-2
invariant_of-self-2 g c =
    let now = c.as_mut_slice.ensures.value in
    let kept = with_items_is c.self.inside.replicas c.open_all.new.replicas (c.open_all.auto.replicas ∙ c.as_mut_slice.ensures.len) in
    let here = c.self.inside in
    let olds = c.self.inside.replicas.items in
    let news = c.open_all.new.replicas in
    let count = c.open_all.ensures.counts.count ∙ ap length now in
    let opened : (j : ℕ) (r r' : Copy g.row.D.Denot) → At olds j r → At news j r' → OpensAt g.D.Disk.Tells g.D.Disk.files g.D.Piece.Piece.Tells c.open_all.new.rows j r r' =
    λ j r r' e f. c.in-Ok.ensures.opened j r r' (subst (λ xs. At xs j r) (sym now) e) f in
    let shape = c.self.invariant.0 in (
      subst (λ rs. IsShaped (volume_with here.settings here.number rs c.open_all.new.rows 0 None None)) (sym kept)
          (shaped_on here.settings here.number olds news here.rows c.open_all.new.rows here.front 0 here.frozen None here.unsure None shape (never_frozen here.settings here.number)
          (λ none. refl) count
          (λ j r r' e f. (c.open_all.ensures.left j r r' (subst (λ xs. At xs j r) (sym now) e) f).sup)
          (c.open_all.ensures.width ∙ c.new.ensures.replicas ∙ sym shape.width)
          (λ none j r r' e f. up_thawed r' (opened j r r' e f).up)),
      c.self.invariant.1,
      subst (λ rs. CanReach g.D.Disk.Tells g.D.Disk.files g.D.Piece.Piece.Tells rs c.open_all.new.rows) (sym kept) c.open_all.ensures.reach,
    )

pub returns-clause-first : goal.returns-clause-first
unfolding Stands
returns-clause-first g c = λ tells k first.
    let now = c.as_mut_slice.ensures.value in
    let kept = with_items_is c.self.inside.replicas c.open_all.new.replicas (c.open_all.auto.replicas ∙ c.as_mut_slice.ensures.len) in
    let here = c.self.inside in
    let olds = c.self.inside.replicas.items in
    let news = c.open_all.new.replicas in
    let count = c.open_all.ensures.counts.count ∙ ap length now in
    let opened : (j : ℕ) (r r' : Copy g.row.D.Denot) → At olds j r → At news j r' → OpensAt g.D.Disk.Tells g.D.Disk.files g.D.Piece.Piece.Tells c.open_all.new.rows j r r' =
    λ j r r' e f. c.in-Ok.ensures.opened j r r' (subst (λ xs. At xs j r) (sym now) e) f in
    let all : length olds ≡ here.settings.replicas = subst (λ (v : Volume g.row.D.Denot g.row.D-Piece.Denot). length v.replicas ≡ v.settings.replicas) (sym c.self.view_is) c.requires.all in
    let was : IsFirst g.D.Disk.files (volume_with here.settings here.number olds here.rows here.front here.frozen here.unsure) k =
    subst (λ v. IsFirst g.D.Disk.files v k) (sym c.self.view_is) first in (
      no_notes here.settings here.number here.unsure (sights_of c.open_all.new.rows) (map replica_seen c.as_slice.result.now) _ was.unsure c.in-Ok-notes_of.ensures.are,
      subst (λ rs. StandsFor g.D.Disk.files g.D.Piece.Piece.Tells (volume_with here.settings here.number rs c.open_all.new.rows 0 None None) k) (sym kept)
          (first_stands g.D.Disk.Tells g.D.Disk.files g.D.Piece.Piece.Tells here.settings here.number olds news c.open_all.new.rows count opened tells here.rows here.front
          here.frozen here.unsure k all (c.self.invariant.0).sups was),
    )

pub returns-clause-reopened : goal.returns-clause-reopened
unfolding Stopped
returns-clause-reopened g c = λ tells k stopped.
    let now = c.as_mut_slice.ensures.value in
    let kept = with_items_is c.self.inside.replicas c.open_all.new.replicas (c.open_all.auto.replicas ∙ c.as_mut_slice.ensures.len) in
    let here = c.self.inside in
    let olds = c.self.inside.replicas.items in
    let news = c.open_all.new.replicas in
    let count = c.open_all.ensures.counts.count ∙ ap length now in
    let opened : (j : ℕ) (r r' : Copy g.row.D.Denot) → At olds j r → At news j r' → OpensAt g.D.Disk.Tells g.D.Disk.files g.D.Piece.Piece.Tells c.open_all.new.rows j r r' =
    λ j r r' e f. c.in-Ok.ensures.opened j r r' (subst (λ xs. At xs j r) (sym now) e) f in
    let slice = c.as_slice.ensures.value ∙ kept in
    let was : StoppedFor g.D.Disk.files (volume_with here.settings here.number olds here.rows here.front here.frozen here.unsure) k =
    subst (λ v. StoppedFor g.D.Disk.files v k) (sym c.self.view_is) stopped in
    reopened_on g.D.Disk.files g.D.Piece.Piece.Tells k here.settings here.number c.open_all.new.rows news _ _ kept
    (reopened g.D.Disk.Tells g.D.Disk.files g.D.Piece.Piece.Tells here.settings here.number olds news c.open_all.new.rows count opened tells (c.self.invariant.0).settings here.rows
    here.front here.frozen here.unsure k
    was.holds was.unsure (λ j r e. c.in-Ok.ensures.seen tells j r (subst (λ xs. At xs j r) (sym now) e)) _
    (notes_on here.settings here.number here.unsure (sights_of c.open_all.new.rows) c.as_slice.result.now news _ slice c.in-Ok-notes_of.ensures.are))

pub returns-clause-told : goal.returns-clause-told
returns-clause-told g c =
    let here = c.self.inside in
    subst (λ (v : Volume g.row.D.Denot g.row.D-Piece.Denot). NotesTell v.settings v.number v.unsure (sights_of c.open_all.new.rows)
    (map replica_seen (with_items c.self.inside.replicas c.open_all.new.replicas).items)
    c.in-Ok-notes_of.notes) c.self.view_is
    (notes_on here.settings here.number here.unsure (sights_of c.open_all.new.rows) c.as_slice.result.now _ _ c.as_slice.ensures.value c.in-Ok-notes_of.ensures.are)

pub returns-clause-open : goal.returns-clause-open
returns-clause-open g c =
    let now = c.as_mut_slice.ensures.value in
    let kept = with_items_is c.self.inside.replicas c.open_all.new.replicas (c.open_all.auto.replicas ∙ c.as_mut_slice.ensures.len) in
    let here = c.self.inside in
    let olds = c.self.inside.replicas.items in
    let news = c.open_all.new.replicas in
    let count = c.open_all.ensures.counts.count ∙ ap length now in
    let opened : (j : ℕ) (r r' : Copy g.row.D.Denot) → At olds j r → At news j r' → OpensAt g.D.Disk.Tells g.D.Disk.files g.D.Piece.Piece.Tells c.open_all.new.rows j r r' =
    λ j r r' e f. c.in-Ok.ensures.opened j r r' (subst (λ xs. At xs j r) (sym now) e) f in
    let all : length olds ≡ here.settings.replicas = subst (λ (v : Volume g.row.D.Denot g.row.D-Piece.Denot). length v.replicas ≡ v.settings.replicas) (sym c.self.view_is) c.requires.all in
    record {
      all =
          ap length kept ∙ count ∙ ap (λ (v : Volume g.row.D.Denot g.row.D-Piece.Denot). length v.replicas) c.self.view_is ∙ c.requires.all
          ∙ ap (λ (v : Volume g.row.D.Denot g.row.D-Piece.Denot). v.settings.replicas) (sym c.self.view_is);
      each = λ j r' s.
          let f = subst (λ xs. At xs j r') kept s in
          let old = at_there olds j (let h = at_below news j r' f in let less : j < length olds = omega (arith, h, count) in less) in
          up_open r' (opened j old.0 r' old.1 f).up;
    }

pub returns-clause-kept : goal.returns-clause-kept
returns-clause-kept g c = λ tells j r r' e f.
    let now = c.as_mut_slice.ensures.value in
    let kept = with_items_is c.self.inside.replicas c.open_all.new.replicas (c.open_all.auto.replicas ∙ c.as_mut_slice.ensures.len) in
    c.open_all.ensures.kept tells j r r' (subst (λ xs. At xs j r) (sym now) (subst (λ (v : Volume g.row.D.Denot g.row.D-Piece.Denot). At v.replicas j r) (sym c.self.view_is) e))
    (subst (λ xs. At xs j r') kept f)

pub returns-clause-counts : goal.returns-clause-counts
returns-clause-counts g c =
    let now = c.as_mut_slice.ensures.value in
    let kept = with_items_is c.self.inside.replicas c.open_all.new.replicas (c.open_all.auto.replicas ∙ c.as_mut_slice.ensures.len) in
    subst (λ rs. KeepsCounts g.D.Disk.fault_count g.D.Disk.fuse_count c.args.self.now.replicas rs) (sym kept)
    (subst (λ os. KeepsCounts g.D.Disk.fault_count g.D.Disk.fuse_count os c.open_all.new.replicas)
    (now ∙ ap (λ (v : Volume g.row.D.Denot g.row.D-Piece.Denot). v.replicas) c.self.view_is) c.open_all.ensures.counts)

pub returns-clause-same : goal.returns-clause-same
returns-clause-same g c =
    let now = c.as_mut_slice.ensures.value in
    let kept = with_items_is c.self.inside.replicas c.open_all.new.replicas (c.open_all.auto.replicas ∙ c.as_mut_slice.ensures.len) in
    same_by _ _ _ _ c.self.view_is refl refl kept (λ j r r' e f. (c.open_all.ensures.left j r r' (subst (λ xs. At xs j r) (sym now) e) f).sup)

pub returns-clause-whole : goal.returns-clause-whole
returns-clause-whole g c = λ tells k stopped replica file at e. cc

pub returns-clause-undamaged : goal.returns-clause-undamaged
returns-clause-undamaged g c = λ tells j r there file at.
    let now = c.as_mut_slice.ensures.value in
    let olds = c.self.inside.replicas.items in
    let news = c.open_all.new.replicas in
    let count = c.open_all.ensures.counts.count ∙ ap length now in
    let e : At olds j r = subst (λ (v : Volume g.row.D.Denot g.row.D-Piece.Denot). At v.replicas j r) (sym c.self.view_is) there in
    let new = at_there news j (let h = at_below olds j r e in let less : j < length news = omega (arith, h, count) in less) in
    (c.in-Ok.ensures.opened j r new.0 (subst (λ xs. At xs j r) (sym now) e) new.1).undamaged tells file at

pub returns-clause-undamaged_now : goal.returns-clause-undamaged_now
returns-clause-undamaged_now g c = λ tells j r r' there here file at.
    let now = c.as_mut_slice.ensures.value in
    let kept = with_items_is c.self.inside.replicas c.open_all.new.replicas (c.open_all.auto.replicas ∙ c.as_mut_slice.ensures.len) in
    let e : At c.self.inside.replicas.items j r = subst (λ (v : Volume g.row.D.Denot g.row.D-Piece.Denot). At v.replicas j r) (sym c.self.view_is) there in
    (c.in-Ok.ensures.opened j r r' (subst (λ xs. At xs j r) (sym now) e) (subst (λ xs. At xs j r') kept here)).undamaged_now tells file at

pub returns-clause-drew : goal.returns-clause-drew
returns-clause-drew g c = λ tells j r r' there here.
    let now = c.as_mut_slice.ensures.value in
    let kept = with_items_is c.self.inside.replicas c.open_all.new.replicas (c.open_all.auto.replicas ∙ c.as_mut_slice.ensures.len) in
    let e : At c.self.inside.replicas.items j r = subst (λ (v : Volume g.row.D.Denot g.row.D-Piece.Denot). At v.replicas j r) (sym c.self.view_is) there in
    subst (λ (v : Volume g.row.D.Denot g.row.D-Piece.Denot). DrewAt g.D.Disk.files g.D.Disk.drawn (looked_pair v.unsure) r r') c.self.view_is
    (c.in-Ok.ensures.drew tells j r r' (subst (λ xs. At xs j r) (sym now) e) (subst (λ xs. At xs j r') kept here))

pub returns-clause-formatted : goal.returns-clause-formatted
returns-clause-formatted g c = λ tells j r' here.
    let now = c.as_mut_slice.ensures.value in
    let kept = with_items_is c.self.inside.replicas c.open_all.new.replicas (c.open_all.auto.replicas ∙ c.as_mut_slice.ensures.len) in
    let olds = c.self.inside.replicas.items in
    let news = c.open_all.new.replicas in
    let count = c.open_all.ensures.counts.count ∙ ap length now in
    let f : At news j r' = subst (λ xs. At xs j r') kept here in
    let old = at_there olds j (let h = at_below news j r' f in let less : j < length olds = omega (arith, h, count) in less) in
    let e = subst (λ xs. At xs j old.0) (sym now) old.1 in
    (c.in-Ok.ensures.opened j old.0 r' e f).formatted tells

pub returns-clause-seen : goal.returns-clause-seen
returns-clause-seen g c =
    let now = c.as_mut_slice.ensures.value in
    let kept = with_items_is c.self.inside.replicas c.open_all.new.replicas (c.open_all.auto.replicas ∙ c.as_mut_slice.ensures.len) in
    let olds = c.self.inside.replicas.items in
    let news = c.open_all.new.replicas in
    let count = c.open_all.ensures.counts.count ∙ ap length now in
    record {
      front = refl;
      thawed = refl;
      settled = refl;
      fresh = λ j s e.
          let y = map_at replica_seen news j s (subst (λ rs. At (map replica_seen rs) j s) kept e) in
          let old = at_there olds j (let h = at_below news j y.0 y.1 in let less : j < length olds = omega (arith, h, count) in less) in
          let opened = c.in-Ok.ensures.opened j old.0 y.0 (subst (λ xs. At xs j old.0) (sym now) old.1) y.1 in
          subst IsFresh (sym y.2) (record { goal = opened.alone; next = no_next y.0 opened.alone; loose = opened.loose; most = opened.most; from = opened.from });
    }

pub returns-clause-within : goal.returns-clause-within
returns-clause-within g c = λ j s e.
    let now = c.as_mut_slice.ensures.value in
    let kept = with_items_is c.self.inside.replicas c.open_all.new.replicas (c.open_all.auto.replicas ∙ c.as_mut_slice.ensures.len) in
    let olds = c.self.inside.replicas.items in
    let news = c.open_all.new.replicas in
    let count = c.open_all.ensures.counts.count ∙ ap length now in
    let y = map_at replica_seen news j s (subst (λ rs. At (map replica_seen rs) j s) kept e) in
    let old = at_there olds j (let h = at_below news j y.0 y.1 in let less : j < length olds = omega (arith, h, count) in less) in
    let opened = c.in-Ok.ensures.opened j old.0 y.0 (subst (λ xs. At xs j old.0) (sym now) old.1) y.1 in
    subst (λ (r : ReplicaSeen). LiesWithinAt j r.end (sights_of c.open_all.new.rows)) (sym y.2) opened.within

pub returns-clause-told_places : goal.returns-clause-told_places
returns-clause-told_places g c = λ tells j r here.
    let kept = with_items_is c.self.inside.replicas c.open_all.new.replicas (c.open_all.auto.replicas ∙ c.as_mut_slice.ensures.len) in
    subst (λ (v : Volume g.row.D.Denot g.row.D-Piece.Denot). ToldUnsure v.unsure (sights_of c.open_all.new.rows) j (volume_bytes g.D.Disk.files r)) c.self.view_is
    (c.in-Ok.ensures.told tells j r (subst (λ xs. At xs j r) kept here))

pub returns-clause-finds : goal.returns-clause-finds
returns-clause-finds g c = λ tells j r r' s there here opens.
    let now = c.as_mut_slice.ensures.value in
    let kept = with_items_is c.self.inside.replicas c.open_all.new.replicas (c.open_all.auto.replicas ∙ c.as_mut_slice.ensures.len) in
    let e : At c.self.inside.replicas.items j r = subst (λ (v : Volume g.row.D.Denot g.row.D-Piece.Denot). At v.replicas j r) (sym c.self.view_is) there in
    let opened = c.in-Ok.ensures.opened j r r' (subst (λ xs. At xs j r) (sym now) e) (subst (λ xs. At xs j r') kept here) in
    let stands = (opened.opened tells s opens).0 in
    ((stands_end g.D.Disk.files r' s stands, stands_generation g.D.Disk.files r' s stands, stands_bare g.D.Disk.files r' s stands), opened.found tells s opens)

pub returns-clause-live : goal.returns-clause-live
returns-clause-live g c = λ tells j r' here.
    let now = c.as_mut_slice.ensures.value in
    let kept = with_items_is c.self.inside.replicas c.open_all.new.replicas (c.open_all.auto.replicas ∙ c.as_mut_slice.ensures.len) in
    let olds = c.self.inside.replicas.items in
    let news = c.open_all.new.replicas in
    let count = c.open_all.ensures.counts.count ∙ ap length now in
    let f : At news j r' = subst (λ xs. At xs j r') kept here in
    let old = at_there olds j (let h = at_below news j r' f in let less : j < length olds = omega (arith, h, count) in less) in
    let e = subst (λ xs. At xs j old.0) (sym now) old.1 in
    (c.in-Ok.ensures.opened j old.0 r' e f).live tells

pub returns-clause-read : goal.returns-clause-read
returns-clause-read g c = λ tells j r' here.
    let now = c.as_mut_slice.ensures.value in
    let kept = with_items_is c.self.inside.replicas c.open_all.new.replicas (c.open_all.auto.replicas ∙ c.as_mut_slice.ensures.len) in
    let olds = c.self.inside.replicas.items in
    let news = c.open_all.new.replicas in
    let count = c.open_all.ensures.counts.count ∙ ap length now in
    let f : At news j r' = subst (λ xs. At xs j r') kept here in
    let old = at_there olds j (let h = at_below news j r' f in let less : j < length olds = omega (arith, h, count) in less) in
    let e = subst (λ xs. At xs j old.0) (sym now) old.1 in
    (c.in-Ok.ensures.opened j old.0 r' e f).read tells
