-- What the disks of a volume hold where a change was broken off, and behind calls that change nothing known.
use Rattle.std.proofs.Common.{◌≡◌, ◌⊎◌, inl, inr, ℕ, zero, suc, ◌<◌, Bool, true, false, List, [], ◌∷◌, length, map, Option, Some, None, option_map, refl, sym, ap, subst, ◌∙◌, arith}
use Rattle.std.specs.Prelude.{nat_lt}
use Rattle.std.proofs.lemmas.Bool.{cases_Bool, cases_lt, cond-true, cond-false}
use Rattle.std.proofs.lemmas.Bool.Decides.{nat_tests}
use Rattle.std.proofs.lemmas.List.{length-map}
use Rattle.hay_needle.specs.declared.needle.Cell.{Cell}
use Rattle.hay_needle.specs.declared.needle.Cookie.{Cookie}
use Rattle.hay_needle.specs.declared.needle.Outcome.{Outcome}
use Rattle.hay_needle.specs.declared.needle.Outcome.TheVariants as outcome
use Rattle.hay_needle.specs.declared.needle.Pair.{Pair}
use Rattle.hay_needle.specs.declared.settings.Settings.{Settings}
use Rattle.hay_needle.specs.Tables.{Table, outcome_at, pair_eq, table_of}
use Rattle.hay_needle.proofs.TableLaws.{pair_same}
use Rattle.hay_disk.specs.Counts.{Rose}
use Rattle.hay_disk.specs.Disk.{Files}
use Rattle.hay_volume.specs.Cells.{AreCellsAt, needles_of}
use Rattle.hay_core.specs.declared.entry.CoreTag.{CoreTag}
use Rattle.hay_core.specs.declared.entry.Entry.{Entry}
use Rattle.hay_core.specs.declared.entry.Entry.TheVariants.{Put, Del}
use Rattle.hay_legal.specs.declared.known.Pending.{Pending}
use Rattle.hay_legal.specs.declared.known.ReplicaKnown.{ReplicaKnown}
use Rattle.hay_legal.specs.declared.known.VolumeKnown.{VolumeKnown}
use Rattle.hay_legal.specs.Known.{now, replica_at}
use Rattle.hay_legal.specs.Plain.{frozen_with}
use Rattle.hay_map.specs.MapRows.{MapRows}
use Rattle.hay_map.specs.Places.{PlaceMeans, gone_place, place_in}
use Rattle.hay_map.specs.Rows.{changed_row, row_at}
use Rattle.hay_map.specs.Sealed.{SealedNeedle}
use Rattle.hay_map.specs.declared.place.Place.{Place}
use Rattle.hay_map.specs.declared.place.Place.TheVariants as place
use Rattle.hay_map.specs.declared.view.MapOp.TheVariants as op
use Rattle.hay_open.specs.Stored.{IsSealedCell, Stored, last_cell}
use Rattle.hay_physical.specs.OpenCopies.{Copy, goal_of, is_stuck}
use Rattle.hay_physical.specs.CompactionRuns.{HasRun, Run, loosened}
use Rattle.hay_physical.specs.Replicas as physical
use Rattle.hay_physical.proofs.Laws.{goal_none, sealed_live, stands_hold}
use Rattle.hay_compact.specs.Finishing.{IsSeen}
use Rattle.hay_logical.specs.declared.replicas.Broken.{Broken}
use Rattle.hay_logical.specs.declared.replicas.DiskFailed.{DiskFailed}
use Rattle.hay_logical.specs.declared.unsure.Change.{Change}
use Rattle.hay_logical.specs.declared.unsure.Unsure.{Unsure}
use Rattle.hay_logical.specs.Fits.{At, Fits, HoldsPart, HoldsSwap, Makes, Part, PhotoAt, PlaceStands, RunsAs, copier_run, part_of}
use Rattle.hay_logical.specs.Fits.Part.{Kept, Unsure as Perhaps, Lost}
use Rattle.hay_logical.specs.Stands.{HoldsFor, HoldsPending, BreaksOffAt, IsChange, IsPending, ReplicaHolds, ReplicaStands, StandsBy, StandsFor, TakesChanges}
use Rattle.hay_logical.specs.Stands as stands
use Rattle.hay_logical.specs.ReplicaCalls.{AllIdle, DeleteLeaves, DeletesAt, FollowsAt, PutBroken, PutLeaves}
use Rattle.hay_logical.proofs.Compacting.{ended_by, known_none, loose_run, loosely, no_run}
use Rattle.hay_logical.proofs.Knowing.{fits_frozen, frozen_base, frozen_replica, frozen_stuck}
use Rattle.hay_logical.proofs.Lists.{at_below, at_same, at_there}
use Rattle.hay_logical.proofs.Standing.{none_pending, pending_unsure, takes, volume_with}
use Rattle.hay_logical.proofs.Looking.{stored_stands}
use Rattle.hay_logical.proofs.Tables.{last_other, last_own, makes_delete, makes_nothing, makes_put, place_means}

-- PARTS

pub part_kept : (at j : ℕ) → j < at → part_of at j ≡ Kept
part_kept at j h = let t : nat_lt j at ≡ true = grind (arith, nat_tests, h) in rw t refl

pub part_lost : (at j : ℕ) → at < j → part_of at j ≡ Lost
part_lost at j h =
    let f : nat_lt j at ≡ false = grind (arith, nat_tests, h) in
    let t : nat_lt at j ≡ true = grind (arith, nat_tests, h) in
    rw (f, t) refl

pub part_unsure : (at j : ℕ) → j ≡ at → part_of at j ≡ Perhaps
part_unsure at j h =
    let f : nat_lt j at ≡ false = grind (arith, nat_tests, h) in
    let g : nat_lt at j ≡ false = grind (arith, nat_tests, h) in
    rw (f, g) refl

module _ {D : Type 0} (files : D → Files) where
  -- with the stuck index that is known
  pub hold_stuck : (r : Copy D) (s : Stored) (stuck : Bool) → physical.Stands files r s → stuck ≡ is_stuck r → physical.Holds files r stuck s s
  hold_stuck r s stuck stands e = subst (λ b. physical.Holds files r b s s) (sym e) (stands_hold files r s stands)

  pub hold_first : (r : Copy D) (stuck : Bool) (s t : Stored) → physical.Holds files r stuck s s → physical.Holds files r stuck s t
  unfolding physical.MayFind
  hold_first r stuck s t holds = λ image may.
      let f = holds image may in
      record { found = f.found; is = f.is; like = elim (f.like) [ inl l ↦ inl l | inr l ↦ inl l ] }

  -- cells without gaps
  pub stands_cells : (r : Copy D) (s : Stored) → physical.Stands files r s → (bytes : List ℕ) × AreCellsAt 64 bytes s.cells
  unfolding physical.Stands
  stands_cells r s stands = (stands.stand.cells.is.has.needles, stands.stand.cells.is.has.are)

  -- where what a disk holds stays, it holds what is known
  pub holds_part_on : (r r' : Copy D) (stuck : Bool) (entry : Entry) (s : Stored) (part : Part)
      → ((b : Bool) (a t : Stored) → physical.Holds files r b a t → physical.Holds files r' b a t) → HoldsPart files r stuck entry s part → HoldsPart files r' stuck entry s part
  holds_part_on r r' stuck entry s Kept on h = (h.0, h.1, on stuck h.0 h.0 h.2)
  holds_part_on r r' stuck entry s Perhaps on h = (h.0, h.1, on stuck s h.0 h.2)
  holds_part_on r r' stuck entry s Lost on h = on stuck s s h

  holds_swap_on : (r r' : Copy D) (stuck : Bool) (s : Stored) (poised : Bool)
      → ((b : Bool) (a t : Stored) → physical.Holds files r b a t → physical.Holds files r' b a t) → HoldsSwap files r stuck s poised → HoldsSwap files r' stuck s poised
  holds_swap_on r r' stuck s false on h = on stuck s s h
  holds_swap_on r r' stuck s true on h = (h.0, h.1, on stuck s h.0 h.2)

  holds_pending_on : (r r' : Copy D) (stuck poised : Bool) (s : Stored) (p : Option Pending) (at j : ℕ)
      → ((b : Bool) (a t : Stored) → physical.Holds files r b a t → physical.Holds files r' b a t) → HoldsPending files r stuck poised s p at j → HoldsPending files r' stuck poised s p at j
  holds_pending_on r r' stuck poised s None at j on h = holds_swap_on r r' stuck s poised on h
  holds_pending_on r r' stuck poised s (Some pending) at j on h = (h.0, holds_part_on r r' stuck pending.entry s (part_of at j) on h.1)

  pub replica_holds_on : (k : VolumeKnown) (at j : ℕ) (r r' : Copy D) → ((b : Bool) (a t : Stored) → physical.Holds files r b a t → physical.Holds files r' b a t)
      → ReplicaHolds files k at j r → ReplicaHolds files k at j r'
  replica_holds_on k at j r r' on h = record {
    stored = h.stored;
    fits = h.fits;
    holds = holds_pending_on r r' (replica_at k j).stuck (replica_at k j).poised h.stored k.pending at j on h.holds;
  }

  pub pending_none : (r : Copy D) (stuck poised : Bool) (s : Stored) (p : Option Pending) (at j : ℕ) → p ≡ None → HoldsSwap files r stuck s poised → HoldsPending files r stuck poised s p at j
  pending_none r stuck poised s None at j e h = h
  pending_none r stuck poised s (Some pending) at j e h = absurd cc

  pub swap_settled : (r : Copy D) (stuck : Bool) (s : Stored) (poised : Bool) → poised ≡ false → physical.Holds files r stuck s s → HoldsSwap files r stuck s poised
  swap_settled r stuck s poised e h = subst (λ b. HoldsSwap files r stuck s b) (sym e) h

  -- a replica that takes changes holds what is known, if nothing is pending
  pub up_holds : (k : VolumeKnown) (j : ℕ) (r r' : Copy D) (s : Stored) → k.pending ≡ None → (replica_at k j).poised ≡ false → Fits k (replica_at k j) s
      → physical.Holds files r' (replica_at k j).stuck s s
      → ReplicaHolds files k 0 j r'
  up_holds k j r r' s none settled fits holds = record {
    stored = s;
    fits = fits;
    holds = pending_none r' (replica_at k j).stuck (replica_at k j).poised s k.pending 0 j none (swap_settled r' (replica_at k j).stuck s (replica_at k j).poised settled holds);
  }

pub broken_none : (settings : Settings) (v : ℕ) (frozen : Option ℕ) (at : ℕ) (p : Option Pending) → p ≡ None → stands.IsBroken settings v frozen at p
broken_none settings v frozen at None e = tt
broken_none settings v frozen at (Some pending) e = absurd cc

pub gone_in : {P : Type 0} (row : List (Place P)) (j : ℕ) → place_in (map gone_place row) j ≡ gone_place (place_in row j)
gone_in [] j = refl
gone_in (p ∷ row) zero = refl
gone_in (p ∷ row) (suc j) = gone_in row j

pub no_photo : (P : Type 0) (Tells : Type 0) (pair : Pair) (o : Outcome) → PlaceMeans {P = P} Tells pair place.Gone o ⊎ PlaceMeans {P = P} Tells pair place.None o → o ≡ outcome.Nothing
no_photo P Tells pair outcome.Nothing h = refl
no_photo P Tells pair (outcome.Photo photo) (inl h) = absurd h
no_photo P Tells pair (outcome.Photo photo) (inr h) = absurd h

-- A replica behind a delete of a pair.
pub record DeletedIn {D P : Type 0} (files : D → Files) (Tells : Type 0) (pair : Pair) (s : Stored) (rows : MapRows P) (j : ℕ) (r r' : Copy D) : Type 0 where
  pub stored : Stored
  pub makes : Makes (Del pair) s stored
  pub stands : physical.Stands files r' stored
  pub places : (q : Pair) → PhotoAt Tells (last_cell stored.cells q) (place_in (changed_row (op.Del pair) q (row_at rows q)) j)
  pub run : (run : Option Run) → HasRun files r s run → HasRun files r' stored (option_map loosened run) ⊎ (goal_of r' ≡ None)

-- whether a compaction ended in a delete
pub record RunEnd {D : Type 0} (faults : D → ℕ) (r r' : Copy D) (ended : Bool) : Type 0 where
  pub rose : ended ≡ true → Rose (faults r.disk) (faults r'.disk)
  pub gone : ended ≡ true → goal_of r' ≡ None
  pub kept : ended ≡ false → goal_of r' ≡ goal_of r

loosely_all : {D : Type 0} (files : D → Files) (r : Copy D) (s : Stored) (run : Option Run) → HasRun files r s run → HasRun files r s (option_map loosened run)
loosely_all files r s None has = has
loosely_all files r s (Some run) has = loosely files r s run has

-- what is known of a compaction behind a delete
pub ended_run : {D : Type 0} (files : D → Files) (faults : D → ℕ) (known : ReplicaKnown) (r r' : Copy D) (s t : Stored) (b : Bool) → RunEnd faults r r' b → RunsAs files r s known.run
    → HasRun files r' t (option_map loosened (option_map copier_run known.run)) ⊎ (goal_of r' ≡ None) → RunsAs files r' t (ended_by b known).run
ended_run files faults known r r' s t true end was now = goal_none files r' t (end.gone refl)
ended_run files faults known r r' s t false end was now = elim now [
  | inl has ↦ subst (λ (o : Option Run). HasRun files r' t o) (loose_run known.run) has
  | inr none ↦ no_run files r' t known.run (known_none files r s known.run was (sym (end.kept refl) ∙ none)) none
]

module _ {D P : Type 0} (DiskTells : Type 0) (files : D → Files) (Tells : Type 0) where
  module _ (faults : D → ℕ) (pair : Pair) (s : Stored) (rows : MapRows P) (j : ℕ) (r r' : Copy D)
      (places : (q : Pair) → PhotoAt Tells (last_cell s.cells q) (place_in (row_at rows q) j)) where
    -- the places, where those of the pair and of the others are known
    places_by : (stored : Stored) (p : Place P) → place_in (row_at rows pair) j ≡ p → PhotoAt Tells (last_cell stored.cells pair) (gone_place p)
        → ((q : Pair) → pair_eq pair q ≡ false → last_cell stored.cells q ≡ last_cell s.cells q)
        → (q : Pair) → PhotoAt Tells (last_cell stored.cells q) (place_in (changed_row (op.Del pair) q (row_at rows q)) j)
    places_by stored p is own others q = elim (cases_Bool (pair_eq pair q)) [
      | inl t ↦
          let same : pair ≡ q = pair_same pair q t in
          let there : changed_row (op.Del pair) q (row_at rows q) ≡ map gone_place (row_at rows q) = cond-true (pair_eq pair q) (map gone_place (row_at rows q)) (row_at rows q) t in
          let p_is : place_in (changed_row (op.Del pair) q (row_at rows q)) j ≡ gone_place p =
          ap (λ (l : List (Place P)). place_in l j) there ∙ gone_in (row_at rows q) j ∙ ap (λ (x : Pair). gone_place (place_in (row_at rows x) j)) (sym same) ∙ ap gone_place is in
          subst (λ (x : Place P). PhotoAt Tells (last_cell stored.cells q) x) (sym p_is)
          (subst (λ (x : Pair). PhotoAt Tells (last_cell stored.cells x) (gone_place p)) same own)
      | inr f ↦
          let there : changed_row (op.Del pair) q (row_at rows q) ≡ row_at rows q = cond-false (pair_eq pair q) (map gone_place (row_at rows q)) (row_at rows q) f in
          subst (λ (l : List (Place P)). PhotoAt Tells (last_cell stored.cells q) (place_in l j)) (sym there)
          (subst (λ (o : Option Cell). PhotoAt Tells o (place_in (row_at rows q) j)) (sym (others q f)) (places q))
    ]

    stays : (p : Place P) → place_in (row_at rows pair) j ≡ p → PhotoAt Tells (last_cell s.cells pair) (gone_place p)
        → outcome_at (table_of (needles_of s.cells)) pair ≡ outcome.Nothing → physical.Stands files r' s → r' ≡ r → DeletedIn files Tells pair s rows j r r'
    stays p is own nothing stands same = record {
      stored = s;
      makes = makes_nothing s pair nothing;
      stands = stands;
      places = places_by s p is own (λ q f. refl);
      run = λ run has. inl (subst (λ (x : Copy D). HasRun files x s (option_map loosened run)) (sym same) (loosely_all files r s run has));
    }

    flags : (needle : SealedNeedle) (d : Cell) → place_in (row_at rows pair) j ≡ place.Live needle → last_cell s.cells pair ≡ Some d → IsSealedCell Tells d needle
        → physical.Stands files r s → physical.Stands files r' (physical.without_cell s needle.at)
        → ((run : Option Run) → HasRun files r s run → HasRun files r' (physical.without_cell s needle.at) (option_map loosened run) ⊎ (goal_of r' ≡ None)) → DeletedIn files Tells pair s rows j r r'
    flags needle d is last sealed before stands runs =
        let cells = stands_cells files r s before in
        let moved : needle.at ≡ d.at = sealed.at in
        record {
          stored = physical.without_cell s d.at;
          makes = makes_delete 64 cells.0 s pair d cells.1 last;
          stands = subst (λ n. physical.Stands files r' (physical.without_cell s n)) moved stands;
          places = places_by (physical.without_cell s d.at) (place.Live needle) is
              (subst (λ (o : Option Cell). PhotoAt {P = P} Tells o place.Gone) (sym (last_own s.cells pair d last)) refl)
              (λ q f. last_other 64 cells.0 s.cells q pair d cells.1 last f);
          run = λ run has. subst (λ n. HasRun files r' (physical.without_cell s n) (option_map loosened run) ⊎ (goal_of r' ≡ None)) moved (runs run has);
        }

    delete_by : DiskTells → (p : Place P) (o : Option Cell) → IsSeen p → place_in (row_at rows pair) j ≡ p → last_cell s.cells pair ≡ o → PhotoAt Tells o p → physical.Stands files r s
        → DeletesAt DiskTells files p r r' → FollowsAt DiskTells files faults pair p r r' → DeletedIn files Tells pair s rows j r r'
    delete_by tells (place.Live needle) (Some d) seen is last of stands step follow =
        flags needle d is last of stands (step.3 tells s stands (sealed_live Tells s.cells pair d needle last of))
        (λ run has. follow.run tells s run stands has (record { cell = d; last = last; place = sym of.at; alive = of.alive }))
    delete_by tells (place.Unseen at size) o seen is last of stands step follow = absurd seen
    delete_by tells (place.Live needle) None seen is last of stands step follow = absurd of
    delete_by tells place.Gone o seen is last of stands step follow =
        stays place.Gone is (subst (λ (x : Option Cell). PhotoAt {P = P} Tells x place.Gone) (sym last) of)
        (no_photo P Tells pair _ (inl (place_means Tells s.cells pair place.Gone tt (subst (λ (x : Option Cell). PhotoAt {P = P} Tells x place.Gone) (sym last) of))))
        (step.stands tells s stands) follow
    delete_by tells place.None o seen is last of stands step follow =
        stays place.None is (subst (λ (x : Option Cell). PhotoAt {P = P} Tells x place.None) (sym last) of)
        (no_photo P Tells pair _ (inr (place_means Tells s.cells pair place.None tt (subst (λ (x : Option Cell). PhotoAt {P = P} Tells x place.None) (sym last) of))))
        (step.stands tells s stands) follow

    pub delete_replica : DiskTells → IsSeen (place_in (row_at rows pair) j) → physical.Stands files r s → DeletesAt DiskTells files (place_in (row_at rows pair) j) r r'
        → FollowsAt DiskTells files faults pair (place_in (row_at rows pair) j) r r' → DeletedIn files Tells pair s rows j r r'
    delete_replica tells seen stands step follow = delete_by tells (place_in (row_at rows pair) j) (last_cell s.cells pair) seen refl refl (places pair) stands step follow

  -- what a delete of a pair makes of a replica
  made_by : DiskTells → (pair : Pair) (s : Stored) (r r' : Copy D) (p : Place P) (o : Option Cell) → IsSeen p → last_cell s.cells pair ≡ o → PhotoAt Tells o p → physical.Stands files r s
      → DeletesAt DiskTells files p r r' → (t : Stored) × Makes (Del pair) s t × physical.Stands files r' t
  made_by tells pair s r r' (place.Unseen at size) o seen last of stands step = absurd seen
  made_by tells pair s r r' (place.Live needle) (Some d) seen last of stands step =
      let cells = stands_cells files r s stands in (
        physical.without_cell s d.at,
        makes_delete 64 cells.0 s pair d cells.1 last,
        subst (λ n. physical.Stands files r' (physical.without_cell s n)) (of.at) (step.3 tells s stands (sealed_live Tells s.cells pair d needle last of)),
      )
  made_by tells pair s r r' (place.Live needle) None seen last of stands step = absurd of
  made_by tells pair s r r' place.Gone o seen last of stands step = (
    s,
    makes_nothing s pair (no_photo P Tells pair _ (inl (place_means Tells s.cells pair place.Gone tt (subst (λ (x : Option Cell). PhotoAt {P = P} Tells x place.Gone) (sym last) of)))),
    step.stands tells s stands,
  )
  made_by tells pair s r r' place.None o seen last of stands step = (
    s,
    makes_nothing s pair (no_photo P Tells pair _ (inr (place_means Tells s.cells pair place.None tt (subst (λ (x : Option Cell). PhotoAt {P = P} Tells x place.None) (sym last) of)))),
    step.stands tells s stands,
  )

  module _ (settings : Settings) (number : ℕ) where
    -- A change was broken off, and the rows are as they were.
    pub stands_broken : (replicas replicas' : List (Copy D)) (rows rows' : MapRows P) (front : ℕ) (unsure : Option Unsure) (k : VolumeKnown) (tag : CoreTag) (entry : Entry)
        (asked : Change) (m at : ℕ) (failed : Bool)
        → (given : StandsFor files Tells (volume_with settings number replicas rows front None unsure) k) → length replicas' ≡ length replicas
        → BreaksOffAt settings number (Some m) at failed entry → IsChange asked (frozen_with m tag entry failed k) entry
        → ((q : Pair) → row_at rows' q ≡ row_at rows q)
        → ((j : ℕ) (r r' : Copy D) → At replicas j r → At replicas' j r' → (was : ReplicaStands files Tells (volume_with settings number replicas rows front None unsure) k j r)
        → HoldsPart files r' (replica_at k j).stuck entry was.stored (part_of at j))
        → AllIdle replicas'
        → ((j : ℕ) (r r' : Copy D) → At replicas j r → At replicas' j r' → (q : Pair) (what : Outcome) → PlaceStands files Tells r q (place_in (row_at rows q) j) what
        → PlaceStands files Tells r' q (place_in (row_at rows q) j) what)
        → StandsFor files Tells (volume_with settings number replicas' rows' front (Some m) (Some (record { tag = tag; change = asked }))) (frozen_with m tag entry failed k)
    stands_broken replicas replicas' rows rows' front unsure k tag entry asked m at failed given count broken changes same each idle sight =
        let taking = takes DiskTells files Tells settings number replicas rows front None unsure k given refl in
        let m_is = given.many in
        let a_is = given.all in
        record {
          all = count ∙ given.all;
          many = length-map k.replicas _ ∙ given.many;
          front = given.front;
          frozen = refl;
          unsure = (refl, changes);
          by = record {
            places = λ q j r' f.
                let below : j < length replicas = (let h = at_below replicas' j r' f in omega (arith, h, count)) in
                let known : j < length k.replicas = omega (arith, below, m_is, a_is) in
                let old = at_there replicas j below in
                let was = taking.each j old.0 old.1 in
                let what = outcome_at (now (frozen_with m tag entry failed k) (replica_at (frozen_with m tag entry failed k) j)) q in
                subst (λ (l : List (Place P)). PlaceStands files Tells r' q (place_in l j) what) (sym (same q))
                (sight j old.0 r' old.1 f q what
                (subst (λ (t : Table). PlaceStands files Tells old.0 q (place_in (row_at rows q) j) (outcome_at t q)) (was.fits.table ∙ sym (frozen_base k m tag entry failed j known))
                (stored_stands DiskTells files Tells old.0 was.stored q (place_in (row_at rows q) j) was.stands (was.places q))));
            idle = λ j r' f.
                let known : j < length k.replicas = (let h = at_below replicas' j r' f in omega (arith, h, count, m_is, a_is)) in
                (ap (λ (x : ReplicaKnown). x.run) (frozen_replica k m tag entry failed j known), idle j r' f);
            holds = record {
              all = count ∙ given.all;
              many = length-map k.replicas _ ∙ given.many;
              broken_at = at;
              broken = broken;
              each = λ j r' f.
                  let below : j < length replicas = (let h = at_below replicas' j r' f in omega (arith, h, count)) in
                  let known : j < length k.replicas = omega (arith, below, m_is, a_is) in
                  let old = at_there replicas j below in
                  let was = taking.each j old.0 old.1 in
                  record {
                    stored = was.stored;
                    fits = fits_frozen k m tag entry failed j was.stored known was.fits;
                    holds = (
                      ap (λ (x : ReplicaKnown). x.poised) (frozen_replica k m tag entry failed j known) ∙ was.settled,
                      subst (λ b. HoldsPart files r' b entry was.stored (part_of at j)) (sym (frozen_stuck k m tag entry failed j known)) (each j old.0 r' old.1 f was),
                    );
                  };
            };
          };
        }

    -- what a put leaves that was broken off
    pub put_part : DiskTells → (faults : D → ℕ) (replicas replicas' : List (Copy D)) (rows : MapRows P) (front : ℕ) (unsure : Option Unsure) (k : VolumeKnown) (pair : Pair)
        (cookie : Cookie) (bytes : List ℕ) (broken : Broken)
        → PutLeaves DiskTells files faults pair cookie bytes replicas replicas' broken → (j : ℕ) (r r' : Copy D) → At replicas j r → At replicas' j r'
        → (was : ReplicaStands files Tells (volume_with settings number replicas rows front None unsure) k j r)
        → HoldsPart files r' (replica_at k j).stuck (Put pair cookie bytes) was.stored (part_of broken.at j)
    put_part tells faults replicas replicas' rows front unsure k pair cookie bytes broken left j r r' e f was =
        let stuck : Bool = (replica_at k j).stuck in
        let t : Stored = physical.with_cell was.stored pair cookie bytes in
        elim (cases_lt j broken.at) [
          | inl less ↦
              let b = left.below j r r' less e f in
              subst (HoldsPart files r' stuck (Put pair cookie bytes) was.stored) (sym (part_kept broken.at j less))
              (t, makes_put was.stored pair cookie bytes, hold_stuck files r' t stuck (b.3 tells was.stored was.stands) (was.stuck ∙ sym b.2))
          | inr most ↦ elim (cases_lt broken.at j) [
            | inl later ↦
                let ends = left.above j r r' later e f in
                subst (HoldsPart files r' stuck (Put pair cookie bytes) was.stored) (sym (part_lost broken.at j later))
                (hold_stuck files r' was.stored stuck (ends.stands tells was.stored was.stands) (was.stuck ∙ sym ends.stuck))
            | inr no_later ↦
                let here : j ≡ broken.at = omega (arith, most, no_later) in
                let before : r ≡ left.before = at_same replicas j r left.before e (subst (λ n. At replicas n left.before) (sym here) left.was) in
                let after : r' ≡ left.after = at_same replicas' j r' left.after f (subst (λ n. At replicas' n left.after) (sym here) left.is) in
                let there : PutBroken DiskTells files pair cookie bytes r r' =
                subst (λ (x : Copy D). PutBroken DiskTells files pair cookie bytes x r') (sym before)
                (subst (λ (x : Copy D). PutBroken DiskTells files pair cookie bytes left.before x) (sym after) left.there) in
                subst (HoldsPart files r' stuck (Put pair cookie bytes) was.stored) (sym (part_unsure broken.at j here)) (
                  t,
                  makes_put was.stored pair cookie bytes,
                  elim (there.stands tells was.stored was.stands) [
                    | inl stays ↦ hold_first files r' stuck was.stored t (hold_stuck files r' was.stored stuck stays (was.stuck ∙ sym there.stuck))
                    | inr left ↦ subst (λ b. physical.Holds files r' b was.stored t) (sym was.stuck) left.1
                  ],
                )
          ]
        ]

    -- and a delete
    pub delete_part : DiskTells → (faults : D → ℕ) (replicas replicas' : List (Copy D)) (rows : MapRows P) (front : ℕ) (unsure : Option Unsure) (k : VolumeKnown) (pair : Pair) (failed : DiskFailed)
        → DeleteLeaves DiskTells files faults (row_at rows pair) replicas replicas' failed
        → ((j : ℕ) (r r' : Copy D) → j < failed.at → At replicas j r → At replicas' j r' → is_stuck r' ≡ is_stuck r)
        → ((j : ℕ) (r : Copy D) → At replicas j r → IsSeen (place_in (row_at rows pair) j))
        → (j : ℕ) (r r' : Copy D) → At replicas j r → At replicas' j r'
        → (was : ReplicaStands files Tells (volume_with settings number replicas rows front None unsure) k j r)
        → HoldsPart files r' (replica_at k j).stuck (Del pair) was.stored (part_of failed.at j)
    delete_part tells faults replicas replicas' rows front unsure k pair failed left stuck seen j r r' e f was =
        elim (cases_lt j failed.at) [
          | inl less ↦
              subst (HoldsPart files r' (replica_at k j).stuck (Del pair) was.stored) (sym (part_kept failed.at j less))
              (let made = made_by tells pair was.stored r r' (place_in (row_at rows pair) j) (last_cell was.stored.cells pair) (seen j r e) refl (was.places pair) was.stands
              (left.below j r r' less e f) in
              (made.0, made.1, hold_stuck files r' made.0 (replica_at k j).stuck made.2 (was.stuck ∙ sym (stuck j r r' less e f))))
          | inr most ↦ elim (cases_lt failed.at j) [
            | inl later ↦
                let ends = left.above j r r' later e f in
                subst (HoldsPart files r' (replica_at k j).stuck (Del pair) was.stored) (sym (part_lost failed.at j later))
                (hold_stuck files r' was.stored (replica_at k j).stuck (ends.stands tells was.stored was.stands) (was.stuck ∙ sym ends.stuck))
            | inr no_later ↦
                let here : j ≡ failed.at = omega (arith, most, no_later) in
                let before : r ≡ left.before = at_same replicas j r left.before e (subst (λ n. At replicas n left.before) (sym here) left.was) in
                let after : r' ≡ left.after = at_same replicas' j r' left.after f (subst (λ n. At replicas' n left.after) (sym here) left.is) in
                let live : place_in (row_at rows pair) j ≡ place.Live left.needle = ap (place_in (row_at rows pair)) here ∙ left.live in
                subst (HoldsPart files r' (replica_at k j).stuck (Del pair) was.stored) (sym (part_unsure failed.at j here))
                (broke was.stored left.needle (last_cell was.stored.cells pair) refl (subst (PhotoAt Tells (last_cell was.stored.cells pair)) live (was.places pair)) was.stands
                (subst (λ (x : Copy D). Left x r' was.stored left.needle) (sym before) (subst (λ (x : Copy D). Left left.before x was.stored left.needle) (sym after)
                (λ stands live. left.left tells was.stored stands live))) was.stuck)
          ]
        ]
      where
        Left : Copy D → Copy D → Stored → SealedNeedle → Type 0
        Left r r' s needle = physical.Stands files r s → physical.HasLive needle.at s.cells → physical.Holds files r' (is_stuck r) s (physical.without_cell s needle.at)

        broke : (s : Stored) (needle : SealedNeedle) (o : Option Cell) → last_cell s.cells pair ≡ o → PhotoAt {P = P} Tells o (place.Live needle) → physical.Stands files r s → Left r r' s needle
            → (replica_at k j).stuck ≡ is_stuck r → HoldsPart files r' (replica_at k j).stuck (Del pair) s Perhaps
        broke s needle None last of stands holds e = absurd of
        broke s needle (Some d) last of stands holds e =
            let cells = stands_cells files r s stands in (
              physical.without_cell s d.at,
              makes_delete 64 cells.0 s pair d cells.1 last,
              subst (λ n. physical.Holds files r' (replica_at k j).stuck s (physical.without_cell s n)) (of.at)
                  (subst (λ b. physical.Holds files r' b s (physical.without_cell s needle.at)) (sym e) (holds stands (sealed_live Tells s.cells pair d needle last of))),
            )

    -- what the disks of an open volume hold
    pub held : DiskTells → (replicas : List (Copy D)) (rows : MapRows P) (front : ℕ) (frozen : Option ℕ) (unsure : Option Unsure) (k : VolumeKnown)
        → StandsFor files Tells (volume_with settings number replicas rows front frozen unsure) k → HoldsFor files (volume_with settings number replicas rows front frozen unsure) k
    held tells replicas rows front None unsure k given = record {
      all = given.all;
      many = given.many;
      broken_at = 0;
      broken = broken_none settings number k.frozen 0 k.pending given.by.pending;
      each = λ j r e.
          let was = given.by.each j r e in
          up_holds files k j r r was.stored given.by.pending was.settled was.fits (hold_stuck files r was.stored (replica_at k j).stuck was.stands was.stuck);
    }
    held tells replicas rows front (Some m) unsure k given = given.by.holds

    -- the same, where each disk holds at least what it held
    pub held_on : (replicas replicas' : List (Copy D)) (rows rows' : MapRows P) (front front' : ℕ) (frozen frozen' : Option ℕ) (unsure unsure' : Option Unsure) (k : VolumeKnown)
        → length replicas' ≡ length replicas
        → ((j : ℕ) (r r' : Copy D) → At replicas j r → At replicas' j r' → (b : Bool) (a t : Stored) → physical.Holds files r b a t → physical.Holds files r' b a t)
        → HoldsFor files (volume_with settings number replicas rows front frozen unsure) k → HoldsFor files (volume_with settings number replicas' rows' front' frozen' unsure') k
    held_on replicas replicas' rows rows' front front' frozen frozen' unsure unsure' k count on h = record {
      all = count ∙ h.all;
      many = h.many;
      broken_at = h.broken_at;
      broken = h.broken;
      each = λ j r' f.
          let below : j < length replicas = (let l = at_below replicas' j r' f in omega (arith, l, count)) in
          let old = at_there replicas j below in
          replica_holds_on files k h.broken_at j old.0 r' (on j old.0 r' old.1 f) (h.each j old.0 old.1);
    }

    -- A replica was flushed, or perhaps, and the others are as they were.
    pub stands_changed : (replicas replicas' : List (Copy D)) (rows : MapRows P) (front : ℕ) (unsure : Option Unsure) (k t : VolumeKnown)
        → StandsFor files Tells (volume_with settings number replicas rows front None unsure) k → length replicas' ≡ length replicas
        → t.log ≡ k.log → t.frozen ≡ k.frozen → t.pending ≡ k.pending → length t.replicas ≡ length k.replicas
        → ((j : ℕ) (r r' : Copy D) → At replicas j r → At replicas' j r' → (was : ReplicaStands files Tells (volume_with settings number replicas rows front None unsure) k j r)
        → ReplicaStands files Tells (volume_with settings number replicas' rows front None unsure) t j r')
        → StandsFor files Tells (volume_with settings number replicas' rows front None unsure) t
    stands_changed replicas replicas' rows front unsure k t given count log frozen pending many each =
        let taking = takes DiskTells files Tells settings number replicas rows front None unsure k given refl in
        record {
          all = count ∙ given.all;
          many = many ∙ given.many;
          front = given.front ∙ ap length (sym log);
          frozen = frozen ∙ given.frozen;
          unsure = none_pending unsure t t.pending (pending_unsure unsure k k.pending given.unsure taking.pending) (pending ∙ taking.pending);
          by = record {
            pending = pending ∙ taking.pending;
            each = λ j r' f.
                let below : j < length replicas = (let h = at_below replicas' j r' f in omega (arith, h, count)) in
                let old = at_there replicas j below in
                each j old.0 r' old.1 f (taking.each j old.0 old.1);
          };
        }
