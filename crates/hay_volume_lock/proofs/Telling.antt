-- What a look at the published rows tells.
use Rattle.std.proofs.Common.{◌≡◌, ℕ, ◌<◌, List, [], ◌∷◌, ◌++◌, append_assoc, length, Option, Some, None, refl, sym, ap, subst, ◌∙◌, arith}
use Rattle.std.specs.Prelude.{◌+◌, filter, fold}
use mathlib.Core.List.{IsPrefix}
use Rattle.hay_core.specs.declared.entry.Entry.{Entry}
use Rattle.hay_core.specs.Entries.{apply_entry}
use Rattle.hay_disk.specs.Disk.{Files}
use Rattle.hay_front.specs.Fronts.{Holds, IsBehind, RowOf, Witness}
use Rattle.hay_history.specs.LaneSteps.{Standing}
use Rattle.hay_legal.specs.declared.known.VolumeKnown.{VolumeKnown}
use Rattle.hay_legal.specs.Known.{now, replica_at}
use Rattle.hay_logical.specs.Fits.{PlaceStands}
use Rattle.hay_logical.specs.Stands.{Stands}
use Rattle.hay_logical.specs.Volumes.{Volume}
use Rattle.hay_logical.proofs.Lists.{at_there}
use Rattle.hay_logical.proofs.Methods.{shown}
use Rattle.hay_map.specs.MapRows.{MapRows}
use Rattle.hay_map.specs.Places.{place_in}
use Rattle.hay_map.specs.Rows.{row_at}
use Rattle.hay_map.specs.declared.place.Place.{Place}
use Rattle.hay_map.specs.declared.place.Place.TheVariants as place
use Rattle.hay_meeting.specs.Facts.{front_shown, table_shown}
use Rattle.hay_needle.specs.declared.needle.Outcome.{Outcome}
use Rattle.hay_needle.specs.declared.needle.Pair.{Pair}
use Rattle.hay_needle.specs.Tables.{outcome_at}
use Rattle.hay_physical.specs.OpenCopies.{Copy}
use Rattle.hay_views.specs.declared.places.Published.{Published}
use Rattle.hay_views.specs.MapPasts.{AllFit, IsRowOf, MapPast, begun_at, entered_by, is_entry, row_of, with_published}
use Rattle.hay_views.proofs.PlaceLaw.{counts_entries}
use Rattle.hay_turn.specs.Seats.{SeatState}
use Rattle.hay_meeting.specs.declared.act.VolumeAct.{VolumeAct}
use Rattle.hay_volume_lock.specs.Answers.{IsTold}
use Rattle.hay_volume_lock.specs.Rows.{PlaceTells, RowsTell}
use Rattle.hay_volume_lock.specs.Seats.{IsSeated}
use Rattle.hay_volume_lock.specs.declared.guarded.Opened.{Opened}

abbrev View : Type 0 → Type 0 → Type 0
View D P = Witness (MapPast P (Volume D P)) (Volume D P) (Published P)

both_in : {M B : Type 0} → M × B → Option (M × B) → M × B
both_in d None = d
both_in d (Some both) = both

module _ {D P : Type 0} (Tells : Type 0) (files : D → Files) (PieceTells : Type 0) where
  -- THE FIRST ROWS

  place_tells : (r : Copy D) (pair : Pair) (p : Place P) (what : Outcome) → PlaceStands files PieceTells r pair p what → PlaceTells PieceTells pair p what
  place_tells r pair (place.Live needle) what stands = stands
  place_tells r pair place.None what stands = stands
  place_tells r pair place.Gone what stands = stands
  place_tells r pair (place.Unseen at size) what stands = tt

  -- those of a volume tell what it stands for
  pub first_tell : (faults fuses : D → ℕ) (volume : Volume D P) (rows : MapRows P) → length volume.replicas ≡ (volume.settings).replicas
      → ((pair : Pair) → row_at rows pair ≡ row_at volume.rows pair) → RowsTell Tells files PieceTells (begun_at volume rows) []
  unfolding Stands
  first_tell faults fuses volume rows all same tells k stands pair j less =
      let there = at_there volume.replicas j (let h : j < length volume.replicas = omega (arith, all, less) in h) in
      subst (λ (row : List (Place P)). PlaceTells PieceTells pair (place_in row j) (outcome_at (now k (replica_at k j)) pair)) (sym (same pair))
      (place_tells there.0 pair (place_in (row_at volume.rows pair) j) (outcome_at (now k (replica_at k j)) pair)
      (shown volume.settings volume.number Tells files PieceTells faults fuses volume.replicas volume.rows volume.front volume.frozen volume.unsure k stands pair j there.0 there.1))

  -- A LOOK

  abbrev Fact : Volume D P → MapPast P (Volume D P) → List (Published P) → Type 0
  Fact start past published = (start ≡ past.start) × AllFit past published × RowsTell Tells files PieceTells past published

  module _ (turn : SeatState (Opened D P) VolumeAct) (stood : ℕ) (old new : View D P) (seated : IsSeated turn stood old) (behind : IsBehind old new) (fact : Holds Fact new) where
    abbrev opened : Opened D P
    opened = seated.opened

    abbrev first : MapPast P (Volume D P)
    first = begun_at (opened.volume) ((seated.from).rows)

    base_is : new.base ≡ Some (first, opened.volume)
    base_is = sym behind.1 ∙ seated.base ∙ (seated.from).base

    -- the seat goes on
    pub seated_still : IsSeated turn stood new
    seated_still = record {
      opened = opened;
      is = seated.is;
      from = seated.from;
      stood_is = seated.stood_is;
      front = sym behind.0 ∙ seated.front;
      base = sym behind.1 ∙ seated.base;
      own = seated.own;
    }

    first_is : (m : MapPast P (Volume D P)) (b : Volume D P) → new.base ≡ Some (m, b) → m ≡ first
    unfolding both_in
    first_is m b is = ap (λ o. (both_in (first, opened.volume) o).0) (sym is ∙ base_is)

    holds_first : AllFit first new.deeds × RowsTell Tells files PieceTells first new.deeds
    holds_first = subst (λ (m : MapPast P (Volume D P)). AllFit m new.deeds × RowsTell Tells files PieceTells m new.deeds) (first_is fact.0 fact.1 fact.2) (fact.3.1, fact.3.2)

    pub shown_prefix : IsPrefix (entered_by old.deeds) (entered_by new.deeds)
    shown_prefix = (entered_by (behind.2).0, sym (entered_both old.deeds (behind.2).0) ∙ ap entered_by (behind.2).1)
      where
        entered_both : (xs ys : List (Published P)) → entered_by (xs ++ ys) ≡ entered_by xs ++ entered_by ys
        entered_both [] ys = refl
        entered_both (x ∷ xs) ys = ap (λ (l : List Entry). x.entered ++ l) (entered_both xs ys) ∙ sym (append_assoc x.entered (entered_by xs) (entered_by ys))

    module _ (pair : Pair) (row : List (Place P)) (at : RowOf with_published IsRowOf new pair row) where
      row_is : row ≡ row_of (fold with_published first new.deeds) pair
      row_is = at.2.0 ∙ ap (λ (m : MapPast P (Volume D P)). row_of m pair) (at.1.3 ∙ ap (λ (m : MapPast P (Volume D P)). fold with_published m new.deeds) (first_is at.1.0 at.1.1 at.1.2))

      first_stays : (m : MapPast P (Volume D P)) (deeds : List (Published P)) → (fold with_published m deeds).first ≡ m.first
      first_stays m [] = refl
      first_stays m (deed ∷ deeds) = first_stays (with_published m deed) deeds

      pub row_long : (o : Opened D P) → turn.start ≡ Some o → length row ≡ ((o.volume).settings).replicas
      row_long o is = let same : opened ≡ o = cc (seated.is, is) in
          at.2.1 ∙ ap (λ (m : MapPast P (Volume D P)). (m.first).replicas) (at.1.3 ∙ ap (λ (m : MapPast P (Volume D P)). fold with_published m new.deeds) (first_is at.1.0 at.1.1 at.1.2))
          ∙ ap (λ (rows : MapRows P). rows.replicas) (first_stays first new.deeds) ∙ (seated.from).width ∙ ap (λ (z : Opened D P). ((z.volume).settings).replicas) same

      pub places_tell : (faults fuses : D → ℕ) → IsTold Tells files PieceTells faults fuses turn.start (λ volume. (j : ℕ) → j < (volume.settings).replicas
          → PlaceTells PieceTells pair (place_in row j) (outcome_at (table_shown volume.start volume.number j (entered_by new.deeds)) pair))
      places_tell faults fuses o is tells k stands volume here j less =
          let same : opened ≡ o = cc (seated.is, is) in
          let own : Stands files PieceTells (opened.volume) k = subst (λ (z : Opened D P). Stands files PieceTells z.volume k) (sym same) stands in
          let known : ((volume.start).volumes volume.number).volume ≡ k = ap (λ (z : Standing). z.volume) here.start in
          let within : j < ((opened.volume).settings).replicas =
          subst (λ (z : Opened D P). j < ((z.volume).settings).replicas) (sym same) (subst (λ s. j < s.replicas) here.settings less) in
          subst (λ (r : List (Place P)). PlaceTells PieceTells pair (place_in r j) (outcome_at (table_shown volume.start volume.number j (entered_by new.deeds)) pair)) (sym row_is)
          (subst (λ (z : VolumeKnown). PlaceTells PieceTells pair (place_in (row_of (fold with_published first new.deeds) pair) j)
          (outcome_at (fold apply_entry (now z (replica_at z j)) (entered_by new.deeds)) pair)) (sym known)
          (holds_first.1 tells k own pair j within))

    -- how many changes it shows
    pub front_tells : (faults fuses : D → ℕ) (published n : ℕ) → published ≡ length (filter (λ (d : Published P). is_entry d.change) new.deeds) → n ≡ stood + published
        → IsTold Tells files PieceTells faults fuses turn.start (λ volume. n ≡ front_shown volume.start volume.number (entered_by new.deeds))
    unfolding Stands
    front_tells faults fuses published n count all o is tells k stands volume here =
        let same : opened ≡ o = cc (seated.is, is) in
        let known : ((volume.start).volumes volume.number).volume ≡ k = ap (λ (z : Standing). z.volume) here.start in
        let first : stood ≡ length k.log = seated.stood_is ∙ ap (λ (z : Opened D P). (z.volume).front) same ∙ stands.front in
        let some : published ≡ length (entered_by new.deeds) = count ∙ counts_entries P (Volume D P) (begun_at opened.volume (seated.from).rows) new.deeds holds_first.0 in
        let log : length ((((volume.start).volumes volume.number).volume).log) ≡ length k.log = ap (λ (z : VolumeKnown). length z.log) known in
        omega (arith, all, some, first, log)
