-- How a compaction of a replica ends.
use Rattle.std.proofs.Common.{◌≡◌, ◌≢◌, inl, inr, ℕ, zero, suc, ◌≤◌, Bool, true, false, cond, List, [], ◌∷◌, length, Option, Some, None, refl, sym, ap, subst, ◌∙◌, arith}
use Rattle.std.specs.Prelude.{All, map, slice_set, Result, Ok, Err, IfErr, OnErr}
use Rattle.std.proofs.lemmas.Bool.{cases_Bool, cases_lt, cond-false, cond-true, cond_both}
use Rattle.hay_needle.specs.declared.needle.Cell.{Cell}
use Rattle.hay_needle.specs.declared.needle.Outcome.{Outcome}
use Rattle.hay_needle.specs.declared.needle.Outcome.TheVariants as outcome
use Rattle.hay_needle.specs.declared.needle.Pair.{Pair}
use Rattle.hay_needle.specs.Tables.{Table, outcome_at, pair_eq, table_of}
use Rattle.hay_disk.specs.Counts.{Rose}
use Rattle.hay_disk.specs.Disk.{Files}
use Rattle.hay_volume.specs.Cells.{needles_of}
use Rattle.hay_map.specs.MapRows.{MapRows}
use Rattle.hay_needle.proofs.TableLaws.{pair_same}
use Rattle.hay_map.specs.Places.{gone_place, has_stood, moved_place, place_in}
use Rattle.hay_map.specs.Sealed.{SealedNeedle}
use Rattle.hay_map.specs.Rows.{last_place, row_at, swapped_place}
use Rattle.hay_map.specs.declared.place.Place.{Place}
use Rattle.hay_map.specs.declared.place.Place.TheVariants as place
use Rattle.hay_map.specs.declared.view.OpenCell.{OpenCell}
use Rattle.hay_map.proofs.Moving.{swapped_last, swapped_none}
use Rattle.hay_open.specs.Finds.{ArePlacesWithin}
use Rattle.hay_open.specs.Stored.{Stored, index_file, last_cell, volume_file}
use Rattle.hay_compact.specs.Finishing.{ArePhotos, AreThePlaces, IsLive, IsSeen}
use Rattle.hay_physical.specs.declared.fault.ReplicaFault.{ReplicaFault}
use Rattle.hay_physical.specs.declared.fault.ReplicaFault.TheVariants as fault
use Rattle.hay_physical.specs.OpenCopies.{Copy, IsFrozen, IsUp, end_of, goal_of, is_stuck}
use Rattle.hay_physical.specs.Faults as physical_faults
use Rattle.hay_physical.specs.Replicas as physical
use Rattle.hay_physical.specs.CompactionRuns.{Run}
use Rattle.hay_physical.proofs.Removing.{removed_since}
use Rattle.hay_logical.specs.declared.runs.NewFiles.{NewFiles}
use Rattle.hay_logical.specs.declared.runs.Unswapped.{Unswapped}
use Rattle.hay_logical.specs.declared.runs.Unswapped.TheVariants.{Refused, Unsure}
use Rattle.hay_logical.specs.Fits.{At, PhotoAt}
use Rattle.hay_logical.specs.Seen.{MeetsDamage, ReplicaSeen, replica_seen}
use Rattle.hay_logical.specs.Sights.{AwaitsLook, LiesWithin, SwapsSights, sight, sights_of}
use Rattle.hay_logical.specs.Sights.Sight.{Gone, Live, Never, Unseen}
use Rattle.hay_logical.specs.ReplicaCalls.{GoesOn, HoldsUnswapped, IsLeftBy, IsStepFault, KeepsPlaces, MeetsDamageBy, PlacesAre, Start}
use Rattle.hay_logical.specs.ReplicaCalls.{StartsRun, StaysInReach, StepLeaves, SwapsAt, SwapsTo, WasAtRest, still_gone, still_gone_cell}
use Rattle.hay_logical.specs.ReplicaCalls.Start.{Examined, Fresh, Going}
use Rattle.hay_logical.specs.Volumes.{ReachesPlaces}
use Rattle.hay_logical.proofs.Calls.{loaded, loaded_other, not_both, reach_through, up_open}
use Rattle.hay_logical.proofs.Compacting.{photo_at}
use Rattle.hay_logical.proofs.Examining.{rose_later}
use Rattle.hay_logical.proofs.Holding.{no_photo}
use Rattle.hay_logical.proofs.Lists.{length-slice_set}
use Rattle.hay_logical.proofs.Reaching.{reaches_on}
use Rattle.hay_logical.proofs.Tables.{at_cells, cell_outcome, place_means}
use Rattle.hay_logical.proofs.Within.{last_lies}

-- THE PLACES BEHIND A SWAP

beyond : {P : Type 0} (row : List (Place P)) (j : ℕ) → length row ≤ j → place_in row j ≡ place.None
beyond [] j h = refl
beyond (p ∷ row) zero h = absurd (omega (arith, h))
beyond (p ∷ row) (suc j) h = beyond row j (let less : length row ≤ j = omega (arith, h) in less)

deleted_is : (d : Bool) (o : Outcome) → o ≢ outcome.Nothing → cond d outcome.Nothing o ≡ outcome.Nothing → d ≡ true
deleted_is true o not e = refl
deleted_is false o not e = absurd (not e)

nothing_at : (P Tells : Type 0) (o : Option Cell) → cell_outcome o outcome.Nothing ≡ outcome.Nothing → PhotoAt {P = P} Tells o place.None
nothing_at P Tells None e = tt
nothing_at P Tells (Some cell) e = deleted_is cell.deleted (outcome.Photo (record { cookie = cell.cookie; bytes = cell.bytes })) (λ w. cc) e

gone_at : (P Tells : Type 0) (o : Option Cell) → cell_outcome o outcome.Nothing ≡ outcome.Nothing → PhotoAt {P = P} Tells o place.Gone
gone_at P Tells None e = tt
gone_at P Tells (Some cell) e = deleted_is cell.deleted (outcome.Photo (record { cookie = cell.cookie; bytes = cell.bytes })) (λ w. cc) e

seen_may : {D P : Type 0} (files : D → Files) (r : Copy D) (p : Place P) → IsSeen p → physical.MaySeePlace files r p
seen_may files r (place.Live needle) seen = tt
seen_may files r place.Gone seen = tt
seen_may files r place.None seen = tt
seen_may files r (place.Unseen at size) seen = absurd seen

seen_apart : {P : Type 0} (p other : Place P) → IsSeen p → physical.ArePlacesApart p other
seen_apart (place.Live needle) other seen = tt
seen_apart place.Gone other seen = tt
seen_apart place.None other seen = tt
seen_apart (place.Unseen at size) other seen = absurd seen

is_live : {P : Type 0} (Q : Place P → Type 0) (p : Place P) → IsLive p → ((needle : SealedNeedle) → Q (place.Live needle)) → Q p
is_live Q (place.Live needle) live here = here needle
is_live Q place.Gone live here = absurd live
is_live Q place.None live here = absurd live
is_live Q (place.Unseen at size) live here = absurd live

-- the place of a pair is that before, or one of a photo
last_is : {P : Type 0} (Q : Place P → Type 0) (cells : List (OpenCell P)) (pair : Pair) (before : Place P) → ArePhotos cells → ((needle : SealedNeedle) → Q (place.Live needle)) → Q before
    → Q (last_place cells pair before)
last_is Q [] pair before photos live none = none
last_is Q (cell ∷ cells) pair before photos live none =
    last_is Q cells pair (cond (pair_eq cell.pair pair) cell.place before) (λ k d h. photos (suc k) d (omega arith)) live
    (cond_both (pair_eq cell.pair pair) cell.place before Q (λ same. is_live Q cell.place (photos 0 cell (omega arith)) live) (λ apart. none))

have_stood : {P : Type 0} (cells : List (OpenCell P)) → ArePhotos cells → All (λ (cell : OpenCell P). has_stood cell.place ≡ true) cells
have_stood cells photos = λ k d h. is_live (λ p. has_stood p ≡ true) _ (photos k d h) (λ needle. refl)

module _ {P : Type 0} (rows : MapRows P) (at : ℕ) where
  abbrev kept : List (OpenCell P) → List (OpenCell P)
  kept cells = map (still_gone_cell rows at) cells

  -- a photo that was gone stays so
  kept_gone : (cells : List (OpenCell P)) (pair : Pair) → place_in (row_at rows pair) at ≡ place.Gone → swapped_place (kept cells) pair place.Gone ≡ place.Gone
  kept_gone [] pair gone = refl
  kept_gone (cell ∷ cells) pair gone =
      let there : Place P = still_gone (place_in (row_at rows cell.pair) at) cell.place in
      elim (cases_Bool (pair_eq cell.pair pair)) [
        | inl here ↦
            let same : place_in (row_at rows cell.pair) at ≡ place.Gone = ap (λ p. place_in (row_at rows p) at) (pair_same cell.pair pair here) ∙ gone in
            ap (λ p. swapped_place (kept cells) pair p) (cond-true (pair_eq cell.pair pair) there place.Gone here ∙ ap (λ p. still_gone p cell.place) same) ∙ kept_gone cells pair gone
        | inr apart ↦ ap (λ p. swapped_place (kept cells) pair p) (cond-false (pair_eq cell.pair pair) there place.Gone apart) ∙ kept_gone cells pair gone
      ]

  abbrev place_of : Pair → Place P
  place_of pair = place_in (row_at rows pair) at

  still_there : (p there : Place P) → (p ≡ place.Gone → ⊥) → still_gone p there ≡ there
  still_there place.Gone there some = absurd (some refl)
  still_there place.None there some = refl
  still_there (place.Live needle) there some = refl
  still_there (place.Unseen at size) there some = refl

  -- and any other one has the place that the new files give
  kept_there : (cells : List (OpenCell P)) (pair : Pair) (before : Place P) → (place_in (row_at rows pair) at ≡ place.Gone → ⊥)
      → swapped_place (kept cells) pair before ≡ swapped_place cells pair before
  kept_there [] pair before some = refl
  kept_there (cell ∷ cells) pair before some =
      let there : Place P = still_gone (place_in (row_at rows cell.pair) at) cell.place in
      kept_there cells pair (cond (pair_eq cell.pair pair) (moved_place before there) before) some
      ∙ ap (λ p. swapped_place cells pair p)
      (elim (cases_Bool (pair_eq cell.pair pair)) [
        | inl here ↦
            cond-true (pair_eq cell.pair pair) (moved_place before there) before here
            ∙ ap (λ p. moved_place before p) (still_there (place_of cell.pair) cell.place (λ gone. some (ap place_of (sym (pair_same cell.pair pair here)) ∙ gone)))
            ∙ sym (cond-true (pair_eq cell.pair pair) (moved_place before cell.place) before here)
        | inr apart ↦
            cond-false (pair_eq cell.pair pair) (moved_place before there) before apart
            ∙ sym (cond-false (pair_eq cell.pair pair) (moved_place before cell.place) before apart)
      ])

module _ {P : Type 0} (Tells : Type 0) (rows rows' : MapRows P) (at : ℕ) (cells : List (OpenCell P)) (photos : ArePhotos cells)
    (changed : (pair : Pair) → row_at rows' pair ≡ slice_set (row_at rows pair) at (swapped_place (map (still_gone_cell rows at) cells) pair (gone_place (place_in (row_at rows pair) at)))) where
  -- a photo has the place of its last cell, and where it was gone, or never was, it is so still
  swapped_is : (pair : Pair) (Q : Place P → Type 0) (p : Place P) → place_in (row_at rows pair) at ≡ p → ((sight p ≡ Never → ⊥) → (sight p ≡ Gone → ⊥) → Q (last_place cells pair place.Gone))
      → (p ≡ place.Gone → Q place.Gone) → (p ≡ place.None → Q place.None) → Q (swapped_place (map (still_gone_cell rows at) cells) pair (gone_place p))
  swapped_is pair Q (place.Live needle) is here gone none =
      subst Q (sym (kept_there rows at cells pair place.Gone (λ e. let wrong : place.Live needle ≡ place.Gone = sym is ∙ e in cc) ∙ swapped_last cells pair place.Gone refl (have_stood cells photos)))
      (here (λ e. let wrong : Live needle.at ≡ Never = e in cc) (λ e. let wrong : Live needle.at ≡ Gone = e in cc))
  swapped_is pair Q place.Gone is here gone none = subst Q (sym (kept_gone rows at cells pair is)) (gone refl)
  swapped_is pair Q place.None is here gone none = subst Q (sym (swapped_none (map (still_gone_cell rows at) cells) pair)) (none refl)
  swapped_is pair Q (place.Unseen there size) is here gone none =
      subst Q (sym (kept_there rows at cells pair place.Gone (λ e. let wrong : place.Unseen there size ≡ place.Gone = sym is ∙ e in cc)
      ∙ swapped_last cells pair place.Gone refl (have_stood cells photos)))
      (here (λ e. let wrong : Unseen there size ≡ Never = e in cc) (λ e. let wrong : Unseen there size ≡ Gone = e in cc))

  new_place : (pair : Pair) (Q : Place P → Type 0) → ((sights_of rows pair at ≡ Never → ⊥) → (sights_of rows pair at ≡ Gone → ⊥) → Q (last_place cells pair place.Gone))
      → (place_in (row_at rows pair) at ≡ place.Gone → Q place.Gone) → (place_in (row_at rows pair) at ≡ place.None → Q place.None) → Q (place_in (row_at rows' pair) at)
  new_place pair Q here gone none =
      let p : Place P = swapped_place (map (still_gone_cell rows at) cells) pair (gone_place (place_in (row_at rows pair) at)) in
      elim (cases_lt at (length (row_at rows pair))) [
        | inl less ↦ subst Q (sym (loaded (row_at rows pair) (row_at rows' pair) at p (changed pair) less)) (swapped_is pair Q (place_in (row_at rows pair) at) refl here gone none)
        | inr most ↦
            let long : length (row_at rows' pair) ≡ length (row_at rows pair) = ap (λ l. length l) (changed pair) ∙ length-slice_set (row_at rows pair) at p in
            subst Q (sym (beyond (row_at rows' pair) at (let e : length (row_at rows' pair) ≤ at = omega (arith, most, long) in e))) (none (beyond (row_at rows pair) at most))
      ]

  pub places_swapped : (s t : Stored) → table_of (needles_of t.cells) ≡ table_of (needles_of s.cells) → PlacesAre Tells rows at s → AreThePlaces Tells t.cells cells → PlacesAre Tells rows' at t
  places_swapped s t table were are pair =
      let still : outcome_at (table_of (needles_of s.cells)) pair ≡ outcome.Nothing → cell_outcome (last_cell t.cells pair) outcome.Nothing ≡ outcome.Nothing =
      (λ nothing. sym (at_cells t.cells pair) ∙ ap (λ (x : Table). outcome_at x pair) table ∙ nothing) in
      let at_place : (p : Place P) → place_in (row_at rows pair) at ≡ p → PhotoAt Tells (last_cell s.cells pair) p =
      (λ p e. subst (λ (q : Place P). PhotoAt Tells (last_cell s.cells pair) q) e (were pair)) in
      new_place pair (PhotoAt Tells (last_cell t.cells pair)) (λ some held. photo_at Tells (last_cell t.cells pair) (last_place cells pair place.Gone) (are pair))
      (λ e. gone_at P Tells (last_cell t.cells pair) (still (no_photo P Tells pair _ (inl (place_means Tells s.cells pair place.Gone tt (at_place place.Gone e))))))
      (λ e. nothing_at P Tells (last_cell t.cells pair) (still (no_photo P Tells pair _ (inr (place_means Tells s.cells pair place.None tt (at_place place.None e))))))

  -- each place is one that was looked at
  pub reach_swapped : {D : Type 0} (files : D → Files) (r : Copy D) → ((pair : Pair) → physical.MayDeletePlace files r (last_place cells pair place.Gone))
      → ((pair : Pair) → physical.HasWholeNeedle Tells (last_place cells pair place.Gone)) → ReachesPlaces files Tells rows' at r
  reach_swapped files r may whole = record {
    deletes = λ up pair. new_place pair (physical.MayDeletePlace files r) (λ some held. may pair) (λ e. tt) (λ e. tt);
    sees = λ is. record {
      may = λ pair. seen_may files r (place_in (row_at rows' pair) at) (new_place pair IsSeen (λ some held. last_is IsSeen cells pair place.Gone photos (λ needle. tt) tt) (λ e. tt) (λ e. tt));
      apart = λ pair other differ. seen_apart (place_in (row_at rows' pair) at) (place_in (row_at rows' other) at)
          (new_place pair IsSeen (λ some held. last_is IsSeen cells pair place.Gone photos (λ needle. tt) tt) (λ e. tt) (λ e. tt));
      whole = λ pair. new_place pair (physical.HasWholeNeedle Tells) (λ some held. whole pair) (λ e. tt) (λ e. tt);
    };
  }

  pub swaps_sights : (end : ℕ) → ArePlacesWithin end cells → (replicas : List ReplicaSeen) → ((r : ReplicaSeen) → At replicas at r → r.end ≡ end)
      → SwapsSights at replicas (sights_of rows) (sights_of rows')
  swaps_sights end lie replicas ends = record {
    never = λ pair. new_place pair (λ p. sights_of rows pair at ≡ Never → sight p ≡ Never) (λ some held e. absurd (some e))
        (λ gone e. let wrong : Gone ≡ Never = sym (ap (λ (p : Place P). sight p) gone) ∙ e in cc) (λ none e. refl);
    ever = λ pair. new_place pair (λ p. sight p ≡ Never → sights_of rows pair at ≡ Never)
        (λ some held. last_is (λ p. sight p ≡ Never → sights_of rows pair at ≡ Never) cells pair place.Gone photos
        (λ needle e. let wrong : Live needle.at ≡ Never = e in cc) (λ e. let wrong : Gone ≡ Never = e in cc))
        (λ gone e. let wrong : Gone ≡ Never = e in cc) (λ none e. ap (λ (p : Place P). sight p) none);
    gone = λ pair. new_place pair (λ p. sights_of rows pair at ≡ Gone → sight p ≡ Gone) (λ some held e. absurd (held e)) (λ gone e. refl)
        (λ none e. let wrong : Never ≡ Gone = sym (ap (λ (p : Place P). sight p) none) ∙ e in cc);
    seen = λ pair. new_place pair (λ p. AwaitsLook (sight p) → ⊥) (λ some held. last_is (λ p. AwaitsLook (sight p) → ⊥) cells pair place.Gone photos (λ needle awaits. awaits) (λ awaits. awaits))
        (λ gone awaits. awaits) (λ none awaits. awaits);
    within = λ r there pair. subst (λ n. LiesWithin n (sights_of rows' pair at)) (sym (ends r there))
        (new_place pair (λ p. LiesWithin end (sight p)) (λ some held. last_lies end cells pair place.Gone lie tt) (λ gone. tt) (λ none. tt));
    others = λ pair j apart. ap (λ (p : Place P). sight p) (loaded_other (row_at rows pair) (row_at rows' pair) j at _ (changed pair) apart);
  }

-- WHY NO SWAP WAS MADE

module _ {D : Type 0} (files : D → Files) (faults : D → ℕ) where
  -- the end was refused, and the replica takes changes
  pub refused_left : (r x : Copy D) (f : ReplicaFault) → IsUp r → (goal_of r ≡ None → ⊥) → IsUp x → goal_of x ≡ None → (f ≡ fault.Frozen → IsFrozen r)
      → ((n : ℕ) → f ≡ fault.Ended n → goal_of r ≡ None)
      → physical_faults.IsRunFault (faults r.disk) (faults x.disk) f → IsLeftBy faults Examined r x (Refused f)
  refused_left r x (fault.Failed n) was standing up goal thawed none cause = (up, goal, tt, cause.0, cause.1)
  refused_left r x fault.Frozen was standing up goal thawed none cause = absurd (not_both r was (thawed refl))
  refused_left r x (fault.Full end need capacity) was standing up goal thawed none cause = absurd cause
  refused_left r x (fault.Busy generation) was standing up goal thawed none cause = absurd cause
  refused_left r x (fault.Ended n) was standing up goal thawed none cause = absurd (standing (none n refl))
  refused_left r x fault.Worn was standing up goal thawed none cause = absurd cause
  refused_left r x (fault.Damaged at) was standing up goal thawed none cause = absurd cause
  refused_left r x fault.NoMemory was standing up goal thawed none cause = (up, goal, tt)

  -- or the replica does not
  pub unsure_left : {X : Type 0} (r x : Copy D) (result : Result X ReplicaFault) → IsFrozen x → goal_of x ≡ None → result ≡ Err (fault.Failed (faults x.disk))
      → IfErr result (physical_faults.IsRunFault (faults r.disk) (faults x.disk)) → IsLeftBy faults Examined r x (Unsure (faults x.disk))
  unsure_left r x result frozen goal failed cause =
      let both = subst (λ z. IfErr z (physical_faults.IsRunFault (faults r.disk) (faults x.disk))) failed cause in
      (frozen, goal, tt, both.0, refl)

  pub refused_holds : (r x : Copy D) (s : Stored) (run : Run) (f : ReplicaFault) → physical_faults.IsRunFault (faults r.disk) (faults x.disk) f → physical.Stands files x s → is_stuck x ≡ is_stuck r
      → HoldsUnswapped files r x s run (Refused f)
  refused_holds r x s run (fault.Failed n) cause stands stuck = (stands, stuck)
  refused_holds r x s run fault.Frozen cause stands stuck = (stands, stuck)
  refused_holds r x s run (fault.Full end need capacity) cause stands stuck = (stands, stuck)
  refused_holds r x s run (fault.Busy generation) cause stands stuck = (stands, stuck)
  refused_holds r x s run (fault.Ended n) cause stands stuck = (stands, stuck)
  refused_holds r x s run fault.Worn cause stands stuck = absurd cause
  refused_holds r x s run (fault.Damaged at) cause stands stuck = absurd cause
  refused_holds r x s run fault.NoMemory cause stands stuck = (stands, stuck)

  -- cells could not be examined
  pub step_left : (cells : ℕ) (r x y : Copy D) (f : ReplicaFault) → cells ≡ end_of r → IsUp y → goal_of y ≡ None → y.disk ≡ x.disk → IsStepFault faults cells r x f
      → IsLeftBy faults Going r y (Refused f)
  step_left cells r x y (fault.Failed n) all up goal disk cause = (up, goal, tt, subst (λ d. Rose (faults r.disk) (faults d)) (sym disk) cause.0, cause.1 ∙ ap faults (sym disk))
  step_left cells r x y fault.Frozen all up goal disk cause = absurd cause
  step_left cells r x y (fault.Full end need capacity) all up goal disk cause = absurd cause
  step_left cells r x y (fault.Busy generation) all up goal disk cause = absurd cause
  step_left cells r x y (fault.Ended n) all up goal disk cause = absurd cause
  step_left cells r x y fault.Worn all up goal disk cause = absurd cause
  step_left cells r x y (fault.Damaged at) all up goal disk cause = (up, goal, tt, subst (λ n. MeetsDamage n at (replica_seen r)) all cause.1)
  step_left cells r x y fault.NoMemory all up goal disk cause = (up, goal, tt)

  pub step_holds : (r x y : Copy D) (s : Stored) (run : Run) (cells : ℕ) (f : ReplicaFault) → IsStepFault faults cells r x f → StepLeaves files x s run cells f
      → physical.Stands files y s → is_stuck y ≡ is_stuck r
      → HoldsUnswapped files r y s run (Refused f)
  step_holds r x y s run cells (fault.Failed n) cause leaves stands stuck = (stands, stuck)
  step_holds r x y s run cells fault.Frozen cause leaves stands stuck = (stands, stuck)
  step_holds r x y s run cells (fault.Full end need capacity) cause leaves stands stuck = (stands, stuck)
  step_holds r x y s run cells (fault.Busy generation) cause leaves stands stuck = (stands, stuck)
  step_holds r x y s run cells (fault.Ended n) cause leaves stands stuck = (stands, stuck)
  step_holds r x y s run cells fault.Worn cause leaves stands stuck = absurd cause
  step_holds r x y s run cells (fault.Damaged at) cause leaves stands stuck = absurd leaves
  step_holds r x y s run cells fault.NoMemory cause leaves stands stuck = (stands, stuck)

  -- BEHIND WHAT WENT BEFORE

  pub left_later : (r x y : Copy D) (u : Unswapped) (a b : Start) → (b ≡ Fresh → ⊥) → WasAtRest a r → faults r.disk ≤ faults x.disk
      → ((at : ℕ) → MeetsDamageBy b at (replica_seen x) → MeetsDamageBy a at (replica_seen r)) → IsLeftBy faults b x y u → IsLeftBy faults a r y u
  left_later r x y (Refused (fault.Failed n)) a b later rest low meets left = (left.0, left.1, rest, rose_later (faults r.disk) (faults x.disk) (faults y.disk) low left.3, left.4)
  left_later r x y (Refused (fault.Damaged at)) a b later rest low meets left = (left.0, left.1, rest, meets at left.3)
  left_later r x y (Refused fault.NoMemory) a b later rest low meets left = (left.0, left.1, rest)
  left_later r x y (Refused (fault.Busy goal)) a b later rest low meets left = absurd (later left.0)
  left_later r x y (Refused fault.Worn) a b later rest low meets left = absurd (later left.0)
  left_later r x y (Refused fault.Frozen) a b later rest low meets left = left
  left_later r x y (Refused (fault.Full end need capacity)) a b later rest low meets left = left
  left_later r x y (Refused (fault.Ended n)) a b later rest low meets left = left
  left_later r x y (Unsure n) a b later rest low meets left = (left.0, left.1, rest, rose_later (faults r.disk) (faults x.disk) (faults y.disk) low left.3, left.4)

  pub to_later : (s t : Stored) (run next : Run) → next.tight ≡ run.tight → SwapsTo s t next → SwapsTo s t run
  to_later s t run next same to = record { swaps = to.swaps; tight = λ e. to.tight (same ∙ e); ends = to.ends }

  pub holds_later : (r x y : Copy D) (s : Stored) (run next : Run) (u : Unswapped) → next.tight ≡ run.tight → is_stuck x ≡ is_stuck r → HoldsUnswapped files x y s next u
      → HoldsUnswapped files r y s run u
  holds_later r x y s run next (Refused (fault.Failed n)) same stuck h = (h.0, h.1 ∙ stuck)
  holds_later r x y s run next (Refused (fault.Damaged at)) same stuck h = h
  holds_later r x y s run next (Refused fault.NoMemory) same stuck h = (h.0, h.1 ∙ stuck)
  holds_later r x y s run next (Refused (fault.Busy goal)) same stuck h = (h.0, h.1 ∙ stuck)
  holds_later r x y s run next (Refused fault.Worn) same stuck h = h
  holds_later r x y s run next (Refused fault.Frozen) same stuck h = (h.0, h.1 ∙ stuck)
  holds_later r x y s run next (Refused (fault.Full end need capacity)) same stuck h = (h.0, h.1 ∙ stuck)
  holds_later r x y s run next (Refused (fault.Ended n)) same stuck h = (h.0, h.1 ∙ stuck)
  holds_later r x y s run next (Unsure n) same stuck h = (h.0, h.1, subst (λ b. physical.Holds files y b s h.0) stuck h.2)

-- the rows stay
pub keeps_rows : {P : Type 0} (rows : MapRows P) (at : ℕ) (u : Unswapped) → KeepsPlaces rows rows at (Err u)
keeps_rows rows at u = record { moved = tt; sights = tt; width = refl; others = λ pair i apart. refl; same = refl }

pub rows_stay : {P : Type 0} {rows rows' : MapRows P} {at : ℕ} {u : Unswapped} → KeepsPlaces rows rows' at (Err u) → (pair : Pair) → row_at rows' pair ≡ row_at rows pair
rows_stay places pair = ap (λ x. row_at x pair) places.same

-- a refusal behind what went before
pub stays_later : {D P : Type 0} (DiskTells : Type 0) (files : D → Files) (r x y : Copy D) (result : Result (NewFiles P) Unswapped) → StaysInReach DiskTells files r x
    → OnErr result (StaysInReach DiskTells files x y) → OnErr result (StaysInReach DiskTells files r y)
stays_later DiskTells files r x y (Ok n) before behind = tt
stays_later DiskTells files r x y (Err u) before behind = λ tells. reach_through files r x y (before tells) (behind tells)

-- A swap behind what went before. `meets` says what it finds then.
module _ {D P : Type 0} (DiskTells : Type 0) (files : D → Files) (faults : D → ℕ) (Tells : Type 0) (rows rows' : MapRows P) (at : ℕ) (r x y : Copy D) where
  pub swaps_later : (result : Result (NewFiles P) Unswapped) (a b : Start) → (b ≡ Fresh → ⊥) → IsUp r → GoesOn DiskTells files r x → WasAtRest a r → faults r.disk ≤ faults x.disk
      → ((place : ℕ) → MeetsDamageBy b place (replica_seen x) → MeetsDamageBy a place (replica_seen r))
      → (DiskTells → (s : Stored) (run : Run) → physical.Stands files r s → StartsRun files a r s run → PlacesAre Tells rows at s
      → (next : Run) × (next.tight ≡ run.tight) × StartsRun files b x s next)
      → SwapsAt DiskTells files faults Tells b rows rows' at x y result → SwapsAt DiskTells files faults Tells a rows rows' at r y result
  swaps_later (Ok generation) a b later up on rest low damage meets swaps = record {
    «open» = swaps.«open»;
    sup = swaps.sup ∙ on.sup;
    up = ((swaps.up).0, (swaps.up).1, (swaps.up).2, rest);
    left = tt;
    swapped = λ tells s run stands start places.
        let next = meets tells s run stands start places in
        let made = swaps.swapped tells s next.0 (on.stands tells s stands) next.2 places in
        record { stored = made.stored; to = to_later files faults s made.stored run next.0 next.1 made.to; stands = made.stands; places = made.places; generation_is = made.generation_is };
    sizes = swaps.sizes;
    still = tt;
    removed =
        λ tells s stands. removed_since (files y.disk) (volume_file s.generation) (index_file s.generation) (faults r.disk) (faults x.disk) (faults y.disk) low
        (swaps.removed tells s (on.stands tells s stands));
    refused = λ tells s run stands start places. tt;
    reach = λ tells reach. swaps.reach tells (reaches_on files rows rows at r x (λ u. up) (λ u. up_open r up) (on.reach tells) (λ pair. refl) reach);
    head = λ tells. tt;
  }
  swaps_later (Err u) a b later up on rest low damage meets swaps = record {
    «open» = swaps.«open»;
    sup = swaps.sup ∙ on.sup;
    up = tt;
    left = left_later files faults r x y u a b later rest low damage swaps.left;
    swapped = λ tells s run stands start places. tt;
    sizes = λ tells. tt;
    still = swaps.still ∙ on.stuck;
    removed = λ tells s stands. tt;
    refused = λ tells s run stands start places.
        let next = meets tells s run stands start places in
        holds_later files faults r x y s run next.0 u next.1 on.stuck (swaps.refused tells s next.0 (on.stands tells s stands) next.2 places);
    reach = λ tells reach. swaps.reach tells (reaches_on files rows rows at r x (λ u. up) (λ u. up_open r up) (on.reach tells) (λ pair. refl) reach);
    head = λ tells still. swaps.head tells still ∙ on.head tells;
  }
