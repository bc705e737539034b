-- A volume behind a look at one of its places.
use Rattle.std.proofs.Common.{◌≡◌, ◌≢◌, inl, inr, ℕ, ◌<◌, Bool, List, length, Option, Some, None, Ok, Err, option_map, refl, sym, ap, subst, ◌∙◌, arith}
use Rattle.std.specs.Prelude.{Result, OnOk}
use Rattle.std.proofs.lemmas.Bool.{cases_Bool, cases_eq}
use Rattle.hay_needle.specs.declared.needle.Pair.{Pair}
use Rattle.hay_needle.specs.declared.settings.Settings.{Settings}
use Rattle.hay_needle.specs.Tables.{outcome_at, pair_eq, table_of}
use Rattle.hay_needle.proofs.TableLaws.{pair_same}
use Rattle.hay_disk.specs.Disk.{Files}
use Rattle.hay_volume.specs.Cells.{needles_of}
use Rattle.hay_legal.specs.declared.known.VolumeKnown.{VolumeKnown}
use Rattle.hay_legal.specs.Known.{machine_of, now, replica_at}
use Rattle.hay_map.specs.MapRows.{MapRows}
use Rattle.hay_map.specs.Places.{PlaceMeans, place_in}
use Rattle.hay_map.specs.Rows.{row_at}
use Rattle.hay_map.specs.declared.place.Place.{Place}
use Rattle.hay_open.specs.Stored.{Stored, last_cell}
use Rattle.hay_compact.specs.Finishing.{IsSeen}
use Rattle.hay_physical.specs.declared.fault.ReplicaFault.{ReplicaFault}
use Rattle.hay_physical.specs.declared.fault.ReplicaFault.TheVariants as fault
use Rattle.hay_physical.specs.OpenCopies.{Copy, goal_of, is_stuck, volume_bytes}
use Rattle.hay_physical.specs.Faults as physical_faults
use Rattle.hay_physical.specs.Replicas as physical
use Rattle.hay_logical.specs.declared.fault.LogicalFault.TheVariants.{Damaged, Failed}
use Rattle.hay_logical.specs.declared.unsure.Unsure.{Unsure}
use Rattle.hay_logical.specs.Answers.{IsSightFault}
use Rattle.hay_logical.specs.Fits.{At, PhotoAt, PlaceStands, copier_run}
use Rattle.hay_logical.specs.Needles.{IsToldBy, TellsNeedle}
use Rattle.hay_logical.specs.Refusals.{answer_at}
use Rattle.hay_logical.specs.Sights.{LiesWithin, Looks, sight, sights_of}
use Rattle.hay_logical.specs.Stands.{ReplicaStands, StandsFor}
use Rattle.hay_logical.specs.ReplicaCalls.{CallsOne, LooksAt, PlacesAre, SeesRow, SightsAt}
use Rattle.hay_logical.specs.Volumes.{CanReach, ReachesPlaces}
use Rattle.hay_logical.proofs.Calls.{reaches_same}
use Rattle.hay_logical.proofs.Holding.{held_on}
use Rattle.hay_logical.proofs.Lists.{at_below, at_same, at_there}
use Rattle.hay_logical.proofs.Looking.{bytes_same, set_others, stands_seen, stored_stands}
use Rattle.hay_logical.proofs.Methods.{one_after, one_count, other_same, shown}
use Rattle.hay_logical.proofs.Needles.{told_same}
use Rattle.hay_logical.proofs.SightChanges.{sights_kept}
use Rattle.hay_logical.proofs.Standing.{volume_with}
use Rattle.hay_logical.proofs.Within.{row_lies}

-- the places of the other replicas stay
pub other_places : {P : Type 0} (pair : Pair) (at : ℕ) (rows rows' : MapRows P) (result : Result Unit ReplicaFault) → SeesRow pair at rows rows' result → (j : ℕ) → j ≢ at
    → (q : Pair) → place_in (row_at rows' q) j ≡ place_in (row_at rows q) j
other_places pair at rows rows' (Err f) sees j apart q = ap (λ l. place_in l j) (sees.kept q)
other_places pair at rows rows' (Ok value) sees j apart q = set_others pair at rows rows' (place_in (row_at rows' pair) at) sees.set j apart q

-- what is answered is damage only where the replica's needle is damaged
pub damaged_answer : (machine : ℕ) (f : ReplicaFault) (m at : ℕ) → answer_at machine f ≡ Damaged m at → f ≡ fault.Damaged at
damaged_answer machine (fault.Failed n) m at e = absurd cc
damaged_answer machine fault.Frozen m at e = absurd cc
damaged_answer machine (fault.Full end need capacity) m at e = absurd cc
damaged_answer machine (fault.Busy generation) m at e = absurd cc
damaged_answer machine (fault.Ended n) m at e = absurd cc
damaged_answer machine fault.Worn m at e = absurd cc
damaged_answer machine (fault.Damaged there) m at e = let same : there ≡ at = cc in ap (λ n. fault.Damaged n) same
damaged_answer machine fault.NoMemory m at e = absurd cc

-- and what failed is told by the replica's machine
pub failed_machine : (machine : ℕ) (f : ReplicaFault) (m count : ℕ) → answer_at machine f ≡ Failed m count → m ≡ machine
failed_machine machine (fault.Failed n) m count e = cc
failed_machine machine fault.Frozen m count e = absurd cc
failed_machine machine (fault.Full end need capacity) m count e = absurd cc
failed_machine machine (fault.Busy generation) m count e = absurd cc
failed_machine machine (fault.Ended n) m count e = cc
failed_machine machine fault.Worn m count e = absurd cc
failed_machine machine (fault.Damaged there) m count e = absurd cc
failed_machine machine fault.NoMemory m count e = absurd cc

pub sight_cause : {D : Type 0} (faults : D → ℕ) (settings : Settings) (number : ℕ) (items new : List (Copy D)) (at machine : ℕ) (f : ReplicaFault) → at < settings.replicas
    → machine ≡ machine_of settings number at → (one : CallsOne at items new)
    → physical_faults.IsSightFault (faults (one.before).disk) (faults (one.after).disk) f → IsSightFault faults settings number items new (answer_at machine f)
sight_cause faults settings number items new at machine (fault.Failed n) within is one cause =
    record { replica = at; within = within; before = one.before; after = one.after; was = one.was; is = one_after at items new one; machine = is; rose = cause.0; printed = cause.1 }
sight_cause faults settings number items new at machine fault.Frozen within is one cause = absurd cause
sight_cause faults settings number items new at machine (fault.Full end need capacity) within is one cause = absurd cause
sight_cause faults settings number items new at machine (fault.Busy generation) within is one cause = absurd cause
sight_cause faults settings number items new at machine (fault.Ended n) within is one cause = absurd cause
sight_cause faults settings number items new at machine fault.Worn within is one cause = absurd cause
sight_cause faults settings number items new at machine (fault.Damaged there) within is one cause = (at, within, is)
sight_cause faults settings number items new at machine fault.NoMemory within is one cause = tt

-- a replica that was not looked at, whose places stay
pub looks_still : {D P : Type 0} (DiskTells : Type 0) (files : D → Files) (Tells : Type 0) (rows rows' : MapRows P) (j : ℕ) (r : Copy D)
    → ((q : Pair) → place_in (row_at rows' q) j ≡ place_in (row_at rows q) j)
    → LooksAt DiskTells files Tells rows rows' j r r
looks_still {P = P} DiskTells files Tells rows rows' j r same = record {
  copy = refl;
  stands = λ tells s stands places. (stands, λ q. subst (λ p. PhotoAt Tells (last_cell s.cells q) p) (sym (same q)) (places q));
  holds = λ tells stuck s t holds. holds;
  keeps = λ tells. bytes_same (files r.disk);
  reach = λ tells reach. reaches_same files rows rows' j r same reach;
  within = λ end lies q. subst (λ p. LiesWithin end (sight p)) (sym (same q)) (lies q);
  looks = λ q. inl (ap (λ (p : Place P). sight p) (same q));
  told = λ tells q. told_same (volume_bytes files r) (sights_of rows q j) (sights_of rows' q j) (ap (λ (p : Place P). sight p) (same q));
}

-- what a look makes of the places of every pair
row_looks : {P : Type 0} (pair : Pair) (at : ℕ) (rows rows' : MapRows P) (result : Result Unit ReplicaFault) → SeesRow pair at rows rows' result → (j : ℕ) (q : Pair)
    → Looks (sights_of rows q j) (sights_of rows' q j)
row_looks pair at rows rows' (Err f) sees j q = inl (sights_kept rows rows' sees.kept q j)
row_looks pair at rows rows' (Ok value) sees j q = elim (cases_Bool (pair_eq pair q)) [
  | inl same ↦ subst (λ (p : Pair). Looks (sights_of rows p j) (sights_of rows' p j)) (pair_same pair q same) (sees.sees.looks.each j)
  | inr apart ↦ inl (sees.sees.looks.others q j apart)
]

row_told : {P : Type 0} (file : List ℕ) (pair : Pair) (at : ℕ) (rows rows' : MapRows P) (result : Result Unit ReplicaFault) → TellsNeedle file pair at rows rows' result
    → SeesRow pair at rows rows' result → (q : Pair) → IsToldBy file (sights_of rows q at) (sights_of rows' q at)
row_told file pair at rows rows' (Err f) needle sees q = told_same file (sights_of rows q at) (sights_of rows' q at) (sights_kept rows rows' sees.kept q at)
row_told file pair at rows rows' (Ok value) needle sees q = elim (cases_Bool (pair_eq pair q)) [
  | inl same ↦ subst (λ (p : Pair). IsToldBy file (sights_of rows p at) (sights_of rows' p at)) (pair_same pair q same) needle.told
  | inr apart ↦ told_same file (sights_of rows q at) (sights_of rows' q at) (sees.sees.looks.others q at apart)
]

module _ {D P : Type 0} (DiskTells : Type 0) (files : D → Files) (Tells : Type 0) (faults : D → ℕ) (items new : List (Copy D)) (rows rows' : MapRows P) (at : ℕ) (pair : Pair)
    (result : Result Unit ReplicaFault)
    (one : CallsOne at items new) (sights : SightsAt DiskTells files faults Tells pair rows rows' at one.before one.after result) (row : SeesRow pair at rows rows' result) where
  -- of the replica that was looked at, and of the others
  by_replica : (Q : ℕ → Copy D → Copy D → Type 0) → Q at one.before one.after → ((j : ℕ) (r : Copy D) → j ≢ at → At items j r → Q j r r) → (j : ℕ) (r r' : Copy D) → At items j r
      → At new j r' → Q j r r'
  by_replica Q here others j r r' e f = elim (cases_eq j at) [
    | inl same ↦
        let r_is : r ≡ one.before = at_same items at r one.before (subst (λ n. At items n r) same e) one.was in
        let r'_is : r' ≡ one.after = at_same new at r' one.after (subst (λ n. At new n r') same f) (one_after at items new one) in
        subst (λ n. Q n r r') (sym same) (subst (λ x. Q at x r') (sym r_is) (subst (λ x. Q at one.before x) (sym r'_is) here))
    | inr apart ↦ subst (λ x. Q j r x) (sym (other_same at items new one j apart r r' e f)) (others j r apart e)
  ]

  -- a look changes nothing that a replica stands for
  pub looks_one : (DiskTells → TellsNeedle (volume_bytes files one.before) pair at rows rows' result) → (j : ℕ) (r r' : Copy D) → At items j r → At new j r'
      → LooksAt DiskTells files Tells rows rows' j r r'
  looks_one needle =
      by_replica (λ n x y. LooksAt DiskTells files Tells rows rows' n x y) (record {
        copy = sights.copy;
        stands = sights.stands;
        holds = sights.holds;
        keeps = sights.keeps;
        reach = sights.reach;
        within = row_lies pair at rows rows' result row at;
        looks = row_looks pair at rows rows' result row at;
        told = λ tells. row_told (volume_bytes files one.before) pair at rows rows' result (needle tells) row;
      })
      (λ n x apart e. looks_still DiskTells files Tells rows rows' n x (other_places pair at rows rows' result row n apart))

  -- of a replica that stands, the place was seen, unless for another cause than damage
  pub place_seen : DiskTells → (s : Stored) → physical.Stands files one.before s → PlacesAre Tells rows at s
      → ((f : ReplicaFault) → result ≡ Err f → (k : ℕ) × (f ≡ fault.Damaged k)) → IsSeen (place_in (row_at rows' pair) at)
  place_seen tells s stands places only = by_answer result refl
    where
      by_answer : (x : Result Unit ReplicaFault) → result ≡ x → IsSeen (place_in (row_at rows' pair) at)
      by_answer (Ok value) e = subst (λ x. OnOk x (IsSeen (place_in (row_at rows' pair) at))) e sights.seen
      by_answer (Err f) e =
          let damaged = only f e in
          absurd (sights.undamaged tells (outcome_at (table_of (needles_of s.cells)) pair) (stored_stands DiskTells files Tells one.before s pair (place_in (row_at rows pair) at)
          stands (places pair)) damaged.0 (e ∙ ap (λ x. Err x) damaged.1))

  old_at : (j : ℕ) (r' : Copy D) → At new j r' → (r : Copy D) × At items j r
  old_at j r' f = at_there items j (let h = at_below new j r' f in let count = one_count at items new one in let less : j < length items = omega (arith, h, count) in less)

  pub reach_seen : CanReach DiskTells files Tells items rows → CanReach DiskTells files Tells new rows'
  reach_seen can = λ tells j r' f.
      let old = old_at j r' f in
      by_replica (λ n x y. ReachesPlaces files Tells rows' n y) (sights.reach tells (can tells at one.before one.was))
      (λ n x apart e. reaches_same files rows rows' n x (other_places pair at rows rows' result row n apart) (can tells n x e)) j old.0 r' old.1 f

  pub saw : DiskTells → CanReach DiskTells files Tells items rows → (settings : Settings) (number front : ℕ) (frozen : Option ℕ) (unsure : Option Unsure) (k : VolumeKnown)
      → StandsFor files Tells (volume_with settings number items rows front frozen unsure) k → StandsFor files Tells (volume_with settings number new rows' front frozen unsure) k
  saw tells can settings number front None unsure k stands = record {
    all = one_count at items new one ∙ stands.all;
    many = stands.many;
    front = stands.front;
    frozen = stands.frozen;
    unsure = stands.unsure;
    by = record {
      pending = stands.by.pending;
      each = λ j r' f.
          let old = old_at j r' f in
          by_replica (λ n x y. ReplicaStands files Tells (volume_with settings number new rows' front None unsure) k n y)
          (
          let was = stands.by.each at one.before one.was in
          let both = sights.stands tells was.stored was.stands was.places in
          record {
            stored = was.stored;
            fits = was.fits;
            stands = both.0;
            stuck = was.stuck ∙ sym (ap (λ (x : Copy D). is_stuck x) sights.copy);
            run = sights.run tells was.stored (option_map copier_run (replica_at k at).run) was.stands was.places was.run;
            settled = was.settled;
            places = both.1;
          }
          )
          (λ n x apart e.
          let was = stands.by.each n x e in
          record {
            stored = was.stored;
            fits = was.fits;
            stands = was.stands;
            stuck = was.stuck;
            run = was.run;
            settled = was.settled;
            places = λ q. subst (λ p. PhotoAt Tells (last_cell was.stored.cells q) p) (sym (other_places pair at rows rows' result row n apart q)) (was.places q);
          })
          j old.0 r' old.1 f;
    };
  }
  saw tells can settings number front (Some m) unsure k stands = record {
    all = one_count at items new one ∙ stands.all;
    many = stands.many;
    front = stands.front;
    frozen = stands.frozen;
    unsure = stands.unsure;
    by = record {
      places = λ q j r' f.
          let old = old_at j r' f in
          by_replica (λ n x y. PlaceStands files Tells y q (place_in (row_at rows' q) n) (outcome_at (now k (replica_at k n)) q))
          (sights.means tells (can tells at one.before one.was) (λ other. outcome_at (now k (replica_at k at)) other) (λ other. stands.by.places other at one.before one.was) q)
          (λ n x apart e. subst (λ p. PlaceStands files Tells x q p (outcome_at (now k (replica_at k n)) q)) (sym (other_places pair at rows rows' result row n apart q)) (stands.by.places q n x e))
          j old.0 r' old.1 f;
      idle = λ j r' f.
          let old = old_at j r' f in
          by_replica (λ n x y. ((replica_at k n).run ≡ None) × (goal_of y ≡ None))
          (let was = stands.by.idle at one.before one.was in (was.0, ap (λ (x : Copy D). goal_of x) sights.copy ∙ was.1)) (λ n x apart e. stands.by.idle n x e) j old.0 r' old.1 f;
      holds = held_on DiskTells files Tells settings number items new rows rows' front front (Some m) (Some m) unsure unsure k (one_count at items new one)
          (by_replica (λ n x y. (b : Bool) (a t : Stored) → physical.Holds files x b a t → physical.Holds files y b a t) (sights.holds tells) (λ n x apart e b a t h. h)) stands.by.holds;
    };
  }

  -- the place that was seen
  pub known_seen : DiskTells → CanReach DiskTells files Tells items rows → (settings : Settings) (number front : ℕ) (frozen : Option ℕ) (unsure : Option Unsure) (fuses : D → ℕ) (k : VolumeKnown)
      → StandsFor files Tells (volume_with settings number items rows front frozen unsure) k → IsSeen (place_in (row_at rows' pair) at)
      → PlaceMeans Tells pair (place_in (row_at rows' pair) at) (outcome_at (now k (replica_at k at)) pair)
  known_seen tells can settings number front frozen unsure fuses k stands seen =
      stands_seen DiskTells files Tells one.after pair (place_in (row_at rows' pair) at) (outcome_at (now k (replica_at k at)) pair) seen
      (shown settings number DiskTells files Tells faults fuses new rows' front frozen unsure k (saw tells can settings number front frozen unsure k stands) pair at one.after
      (one_after at items new one))

  pub seen_whole : DiskTells → (settings : Settings) (number front : ℕ) (frozen : Option ℕ) (unsure : Option Unsure) (fuses : D → ℕ) (k : VolumeKnown)
      → StandsFor files Tells (volume_with settings number items rows front frozen unsure) k → (n : ℕ) → result ≡ Err (fault.Damaged n) → ⊥
  seen_whole tells settings number front frozen unsure fuses k stands n e =
      sights.undamaged tells (outcome_at (now k (replica_at k at)) pair) (shown settings number DiskTells files Tells faults fuses items rows front frozen unsure k stands pair at
      one.before one.was) n e
