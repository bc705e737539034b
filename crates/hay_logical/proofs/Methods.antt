-- A volume behind its calls, field by field.
use Rattle.std.proofs.Common.{◌≡◌, inl, inr, ℕ, ◌+◌, ◌<◌, ◌≤◌, Bool, false, List, [], ◌∷◌, ◌++◌, length, Option, Some, None, option_map, refl, sym, ap, subst, ◌∙◌, arith, length-append}
use Rattle.std.specs.Prelude.{slice_set}
use Rattle.std.proofs.lemmas.Bool.{cases_eq}
use Rattle.hay_needle.specs.declared.needle.Pair.{Pair}
use Rattle.hay_needle.specs.declared.settings.Settings.{Settings}
use Rattle.hay_needle.specs.Tables.{Table, outcome_at}
use Rattle.hay_disk.specs.Disk.{Files}
use Rattle.hay_legal.specs.declared.known.VolumeKnown.{VolumeKnown}
use Rattle.hay_legal.specs.Known.{now, replica_at}
use Rattle.hay_map.specs.MapRows.{MapRows}
use Rattle.hay_map.specs.Places.{place_in}
use Rattle.hay_map.specs.Rows.{row_at}
use Rattle.hay_open.specs.Stored.{Stored}
use Rattle.hay_physical.specs.OpenCopies.{Copy, goal_of, is_frozen, is_stuck}
use Rattle.hay_physical.specs.CompactionRuns.{HasRun, Run}
use Rattle.hay_physical.specs.Replicas as physical
use Rattle.hay_logical.specs.declared.unsure.Unsure.{Unsure}
use Rattle.hay_logical.specs.Fits.{At, PlaceStands, copier_run, super_of}
use Rattle.hay_logical.specs.Stands.{StandsFor, StoppedFor}
use Rattle.hay_logical.specs.ReplicaCalls.{CallsOne, Stops}
use Rattle.hay_logical.specs.Volumes.{HasSupers, IsFrozenBy, IsSame, IsShaped, Volume}
use Rattle.hay_logical.proofs.Holding.{held, held_on, stands_changed}
use Rattle.hay_logical.proofs.Lists.{at_below, at_first, at_same, at_set_other, at_set_same, at_there, length-slice_set, one_same}
use Rattle.hay_logical.proofs.Standing.{volume_with}
use Rattle.hay_logical.proofs.Looking.{stands_on, stored_stands}

-- a call that changes nothing of what stands or is held
pub record Quiet {D : Type 0} (files : D → Files) (r r' : Copy D) : Type 0 where
  pub stuck : is_stuck r' ≡ is_stuck r
  pub goal : goal_of r' ≡ goal_of r
  pub run : (s : Stored) (run : Option Run) → HasRun files r s run → HasRun files r' s run
  pub stands : (s : Stored) → physical.Stands files r s → physical.Stands files r' s
  pub holds : (b : Bool) (a t : Stored) → physical.Holds files r b a t → physical.Holds files r' b a t
  pub sees : physical.KeepsSight files physical.Anywhere r r'

module _ {D P : Type 0} (settings : Settings) (number : ℕ) where
  -- the shape stays
  pub shaped_on : (items new : List (Copy D)) (rows rows' : MapRows P) (front front' : ℕ) (frozen frozen' : Option ℕ) (unsure unsure' : Option Unsure)
      → IsShaped (volume_with settings number items rows front frozen unsure) → IsFrozenBy settings number frozen' → (frozen' ≡ None → unsure' ≡ None) → length new ≡ length items
      → ((j : ℕ) (r r' : Copy D) → At items j r → At new j r' → r'.sup ≡ r.sup) → rows'.replicas ≡ rows.replicas
      → (frozen' ≡ None → (j : ℕ) (r r' : Copy D) → At items j r → At new j r' → is_frozen r' ≡ false)
      → IsShaped (volume_with settings number new rows' front' frozen' unsure')
  shaped_on items new rows rows' front front' frozen frozen' unsure unsure' shape by settled count sups width thawed =
      let old : (j : ℕ) (r' : Copy D) → At new j r' → (r : Copy D) × At items j r =
      λ j r' f. (let h = at_below new j r' f in at_there items j (let less : j < length items = omega (arith, h, count) in less)) in
      record {
        settings = shape.settings;
        count = subst (λ n. n ≤ settings.replicas) (sym count) shape.count;
        sups = λ j r' f. let o = old j r' f in sups j o.0 r' o.1 f ∙ shape.sups j o.0 o.1;
        width = width ∙ shape.width;
        thawed = λ e j r' f. let o = old j r' f in thawed e j o.0 r' o.1 f;
        frozen_by = by;
        settled = settled;
      }

  module _ (DiskTells : Type 0) (files : D → Files) (Tells : Type 0) (faults fuses : D → ℕ) where
    pub stopped : DiskTells → (items new : List (Copy D)) (rows : MapRows P) (front : ℕ) (frozen : Option ℕ) (unsure : Option Unsure) (k : VolumeKnown)
        → StandsFor files Tells (volume_with settings number items rows front frozen unsure) k → length new ≡ length items
        → ((j : ℕ) (r r' : Copy D) → At items j r → At new j r' → Stops DiskTells files faults fuses r r')
        → StoppedFor files (volume_with settings number new rows front frozen unsure) k
    stopped tells items new rows front frozen unsure k stands count stops = record {
      holds = held_on DiskTells files Tells settings number items new rows rows front front frozen frozen unsure unsure k count
          (λ j r r' e f b a t h. (stops j r r' e f).holds tells b a t h) (held DiskTells files Tells settings number tells items rows front frozen unsure k stands);
      unsure = stands.unsure;
    }

    -- what the places stand for
    pub shown : (items : List (Copy D)) (rows : MapRows P) (front : ℕ) (frozen : Option ℕ) (unsure : Option Unsure) (k : VolumeKnown)
        → StandsFor files Tells (volume_with settings number items rows front frozen unsure) k → (pair : Pair) (j : ℕ) (r : Copy D) → At items j r
        → PlaceStands files Tells r pair (place_in (row_at rows pair) j) (outcome_at (now k (replica_at k j)) pair)
    shown items rows front None unsure k stands pair j r e =
        let was = stands.by.each j r e in
        subst (λ (t : Table). PlaceStands files Tells r pair (place_in (row_at rows pair) j) (outcome_at t pair)) was.fits.table
        (stored_stands DiskTells files Tells r was.stored pair (place_in (row_at rows pair) j) was.stands (was.places pair))
    shown items rows front (Some m) unsure k stands pair j r e = stands.by.places pair j r e

    pub quiet : (items new : List (Copy D)) (rows : MapRows P) (front : ℕ) (frozen : Option ℕ) (unsure : Option Unsure) (k : VolumeKnown)
        → StandsFor files Tells (volume_with settings number items rows front frozen unsure) k → length new ≡ length items
        → ((j : ℕ) (r r' : Copy D) → At items j r → At new j r' → Quiet files r r')
        → StandsFor files Tells (volume_with settings number new rows front frozen unsure) k
    quiet items new rows front None unsure k stands count each =
        stands_changed DiskTells files Tells settings number items new rows front unsure k k stands count refl refl refl refl (λ j r r' e f was. record {
          stored = was.stored;
          fits = was.fits;
          stands = (each j r r' e f).stands was.stored was.stands;
          stuck = was.stuck ∙ sym (each j r r' e f).stuck;
          run = (each j r r' e f).run was.stored (option_map copier_run (replica_at k j).run) was.run;
          settled = was.settled;
          places = was.places;
        })
    quiet items new rows front (Some m) unsure k stands count each = record {
      all = count ∙ stands.all;
      many = stands.many;
      front = stands.front;
      frozen = stands.frozen;
      unsure = stands.unsure;
      by = record {
        places = λ pair j r' f.
            let old = at_there items j (let h = at_below new j r' f in let less : j < length items = omega (arith, h, count) in less) in
            stands_on DiskTells files Tells physical.Anywhere old.0 r' pair (place_in (row_at rows pair) j) (outcome_at (now k (replica_at k j)) pair)
            (each j old.0 r' old.1 f).sees (λ at size e. tt) (stands.by.places pair j old.0 old.1);
        idle = λ j r' f.
            let old = at_there items j (let h = at_below new j r' f in let less : j < length items = omega (arith, h, count) in less) in
            let was = stands.by.idle j old.0 old.1 in
            (was.0, (each j old.0 r' old.1 f).goal ∙ was.1);
        holds = held_on DiskTells files Tells settings number items new rows rows front front (Some m) (Some m) unsure unsure k count (λ j r r' e f. (each j r r' e f).holds) stands.by.holds;
      };
    }

-- THE SAME VOLUME

pub same_still : {D P : Type 0} (volume : Volume D P) → IsSame volume volume
same_still volume = record { settings = refl; number = refl; sups = λ j r r' e f. ap (λ x. x.sup) (at_same volume.replicas j r' r f e) }

-- behind a call that went by the fields
pub same_by : {D P : Type 0} (old inside new : Volume D P) (items : List (Copy D)) → inside ≡ old → new.settings ≡ inside.settings → new.number ≡ inside.number → new.replicas ≡ items
    → ((j : ℕ) (r r' : Copy D) → At inside.replicas j r → At items j r' → r'.sup ≡ r.sup) → IsSame old new
same_by {D} {P} old inside new items view settings number kept sups = record {
  settings = settings ∙ ap (λ (v : Volume D P). v.settings) view;
  number = number ∙ ap (λ (v : Volume D P). v.number) view;
  sups = λ j r r' e f. sups j r r' (subst (λ (v : Volume D P). At v.replicas j r) (sym view) e) (subst (λ xs. At xs j r') kept f);
}

pub sups_on : {D P : Type 0} (old new : Volume D P) → IsSame old new → length new.replicas ≡ length old.replicas → HasSupers old → HasSupers new
sups_on old new same count sups j r' f =
    let was = at_there old.replicas j (subst (λ n. j < n) count (at_below new.replicas j r' f)) in
    same.sups j was.0 r' was.1 f ∙ sups j was.0 was.1 ∙ ap (λ (s : Settings). super_of s old.number j) (sym same.settings) ∙ ap (λ n. super_of new.settings n j) (sym same.number)

-- of a call of one replica: what holds of it, and of the others, which are as they were
pub one_each : {D : Type 0} (Q : Copy D → Copy D → Type 0) (at : ℕ) (old new : List (Copy D)) (c : CallsOne at old new) → Q c.before c.after → ((r : Copy D) → Q r r)
    → (j : ℕ) (r r' : Copy D) → At old j r → At new j r' → Q r r'
one_each Q at old new c called same j r r' e f =
    let g : At (slice_set old at c.after) j r' = subst (λ xs. At xs j r') c.is f in
    elim (cases_eq j at) [
      | inl here ↦
          let both = one_same old at c.before c.after r r' c.was (subst (λ n. At old n r) here e) (subst (λ n. At (slice_set old at c.after) n r') here g) in
          subst (λ x. Q x r') (sym both.0) (subst (λ x. Q c.before x) (sym both.1) called)
      | inr apart ↦ subst (λ x. Q r x) (at_same old j r r' e (sym (at_set_other old j at c.after apart) ∙ g)) (same r)
    ]

pub one_count : {D : Type 0} (at : ℕ) (old new : List (Copy D)) → CallsOne at old new → length new ≡ length old
one_count at old new c = ap length c.is ∙ length-slice_set old at c.after

pub one_after : {D : Type 0} (at : ℕ) (old new : List (Copy D)) (c : CallsOne at old new) → At new at c.after
one_after at old new c = subst (λ xs. At xs at c.after) (sym c.is) (at_set_same old at c.after (at_below old at c.before c.was))

pub other_same : {D : Type 0} (at : ℕ) (old new : List (Copy D)) → CallsOne at old new → (j : ℕ) → (j ≡ at → ⊥) → (r r' : Copy D) → At old j r → At new j r' → r' ≡ r
other_same at old new c j apart r r' e f = at_same old j r' r (sym (at_set_other old j at c.after apart) ∙ subst (λ xs. At xs j r') c.is f) e

-- the last replica was taken
pub shaped_shorter : {D P : Type 0} (settings : Settings) (number : ℕ) (items rest : List (Copy D)) (last : Copy D) (rows : MapRows P) (front : ℕ) (frozen : Option ℕ)
    (unsure : Option Unsure) → items ≡ rest ++ last ∷ []
    → IsShaped (volume_with settings number items rows front frozen unsure) → IsShaped (volume_with settings number rest rows front frozen unsure)
shaped_shorter {D} settings number items rest last rows front frozen unsure is shape =
    let there : (j : ℕ) (r : Copy D) → At rest j r → At items j r = λ j r e. subst (λ xs. At xs j r) (sym is) (at_first rest (last ∷ []) j r e) in
    record {
      settings = shape.settings;
      count = let n = shape.count in let l : length items ≡ length rest + 1 = (ap length is ∙ length-append rest (last ∷ [])) in omega (arith, n, l);
      sups = λ j r e. shape.sups j r (there j r e);
      width = shape.width;
      thawed = λ none j r e. shape.thawed none j r (there j r e);
      frozen_by = shape.frozen_by;
      settled = shape.settled;
    }
