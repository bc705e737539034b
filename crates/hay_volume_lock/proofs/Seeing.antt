-- What a holding leaves that sees places, and what it tells.
use Rattle.std.proofs.Common.{◌≡◌, inl, inr, ℕ, ◌+◌, ◌<◌, Bool, true, false, List, [], ◌++◌, length, Option, Some, None, refl, sym, ap, subst, ◌∙◌, append-nil, arith}
use Rattle.std.proofs.lemmas.Option.{none-some}
use Rattle.std.specs.Prelude.{fold, map, Ok, slice_index_or, slice_set}
use Rattle.std.proofs.lemmas.Bool.{cond-true}
use Rattle.hay_core.specs.declared.entry.CoreTag.{CoreTag}
use Rattle.hay_core.specs.declared.entry.Entry.{Entry}
use Rattle.hay_core.specs.Entries.{apply_entry}
use Rattle.hay_compact.specs.Finishing.{IsSeen}
use Rattle.hay_disk.specs.Disk.{Files}
use Rattle.hay_front.specs.Entries.{LogEntry}
use Rattle.hay_front.specs.Fronts.{Holds, MayPublish, Witness, logged, with_deed}
use Rattle.hay_front.specs.declared.front.Tag.{Tag}
use Rattle.hay_legal.specs.declared.known.VolumeKnown.{VolumeKnown}
use Rattle.hay_legal.specs.Known.{machine_of, now, replica_at}
use Rattle.hay_legal.specs.Plain.{frozen_by}
use Rattle.hay_history.specs.LaneSteps.{Standing}
use Rattle.hay_history.specs.LaneSteps.Did.{Freezes}
use Rattle.hay_holdings.specs.Volumes.{MadeNothing}
use Rattle.hay_logical.specs.Answers as logical
use Rattle.hay_logical.specs.declared.fault.LogicalFault.{LogicalFault}
use Rattle.hay_logical.specs.declared.fault.LogicalFault.TheVariants.{Busy, Damaged, Failed, Full, Gone, Idle, NoMemory, ReadOnly, Worn}
use Rattle.hay_logical.specs.declared.logical.Looked.{Looked}
use Rattle.hay_logical.specs.Fits.{At, PlaceStands}
use Rattle.hay_logical.specs.Stands.{Stands}
use Rattle.hay_logical.specs.ReplicaCalls.{SetsPlaceAt}
use Rattle.hay_logical.specs.Volumes.{IsOpenVolume, IsSame, KeepsCounts, Volume}
use Rattle.hay_logical.proofs.Lists.{at_below, at_same, at_there, length-slice_set}
use Rattle.hay_logical.proofs.Methods.{shown}
use Rattle.hay_map.specs.MapRows.{MapRows}
use Rattle.hay_map.specs.Places.{PlaceMeans, place_in}
use Rattle.hay_map.specs.Rows.{FitsRows, changed_row, row_at}
use Rattle.hay_map.specs.declared.place.Place.{Place}
use Rattle.hay_map.specs.declared.place.Place.TheVariants as place
use Rattle.hay_map.specs.declared.view.MapOp.TheVariants as op
use Rattle.hay_meeting.specs.declared.act.VolumeAct.{VolumeAct}
use Rattle.hay_meeting.specs.Acts.{entry_of, nobody, volume_lock}
use Rattle.hay_meeting.specs.Locks.{add_shown, entries}
use Rattle.hay_meeting.proofs.Replays.{entries_append}
use Rattle.hay_meeting.proofs.Standings.{front_behind, table_behind}
use Rattle.hay_needle.specs.declared.needle.Outcome.{Outcome}
use Rattle.hay_needle.specs.declared.needle.Pair.{Pair}
use Rattle.hay_needle.specs.declared.settings.Settings.{Settings}
use Rattle.hay_needle.specs.Tables.{Table, outcome_at, pair_eq}
use Rattle.hay_needle.proofs.TableLaws.{pair_refl}
use Rattle.hay_physical.specs.OpenCopies.{Copy}
use Rattle.hay_turn.specs.Slots.{acts_in}
use Rattle.hay_views.specs.declared.places.Published.{Published}
use Rattle.hay_views.specs.MapPasts.{Enters, MapPast, begun_at, entered_by, is_entry}
use Rattle.hay_volume_lock.specs.Acts.{act_of, counts}
use Rattle.hay_volume_lock.specs.Answers.{FailedLook, Found, FoundAlways}
use Rattle.hay_volume_lock.specs.Changes.{SeeAnswer, SeeRefused, freezes_by}
use Rattle.hay_volume_lock.specs.Keeping.{GoesOn, IsKept, standing_of, stood_of}
use Rattle.hay_volume_lock.specs.Rows.{PlaceTells}
use Rattle.hay_volume_lock.specs.Tries.{IsTried, tried_made}
use Rattle.hay_volume_lock.specs.declared.act.Made.TheVariants as made_is
use Rattle.hay_volume_lock.specs.declared.guarded.Guarded.{Guarded}
use Rattle.hay_volume_lock.specs.declared.guarded.Opened.{Opened}
use Rattle.hay_volume_lock.proofs.Finding.{failed_act, on_machine}
use Rattle.hay_volume_lock.proofs.Growing.{FusesStay, IsOfOne, Keeps, ends_none, goes_more, goes_tried, no_fuse, tight_frozen, tries_leads}
use Rattle.hay_volume_lock.proofs.Publishing.{Changes, IsOfBoth, Serves, Shows, changes_acted, changes_seen, fuses_stay, serves_deed, serves_frozen, shows_deed, shows_nothing}
use Rattle.hay_volume_lock.proofs.Published.{Fact, fact_first, may_publish, seen_tells}
use Rattle.hay_volume_lock.proofs.Putting.{IsMadeBy, frozen_known, nothing_made}

abbrev View : Type 0 → Type 0 → Type 0
View D P = Witness (MapPast P (Volume D P)) (Volume D P) (Published P)

-- WHAT A PLACE MEANS

pub seen_means : {D P : Type 0} (files : D → Files) (PieceTells : Type 0) (r : Copy D) (pair : Pair) (p : Place P) (what : Outcome) → IsSeen p → PlaceStands files PieceTells r pair p what
    → PlaceMeans PieceTells pair p what
seen_means files PieceTells r pair (place.Live needle) what seen stands = stands
seen_means files PieceTells r pair place.None what seen stands = stands
seen_means files PieceTells r pair place.Gone what seen stands = stands
seen_means files PieceTells r pair (place.Unseen at size) what seen stands = absurd seen

stands_tells : {D P : Type 0} (files : D → Files) (PieceTells : Type 0) (r : Copy D) (pair : Pair) (p : Place P) (what : Outcome) → PlaceStands files PieceTells r pair p what
    → PlaceTells PieceTells pair p what
stands_tells files PieceTells r pair (place.Live needle) what stands = stands
stands_tells files PieceTells r pair place.None what stands = stands
stands_tells files PieceTells r pair place.Gone what stands = stands
stands_tells files PieceTells r pair (place.Unseen at size) what stands = tt

places_known : {D P : Type 0} (Tells : Type 0) (files : D → Files) (PieceTells : Type 0) (faults fuses : D → ℕ) (volume : Volume D P) (k : VolumeKnown) → Stands files PieceTells volume k
    → (pair : Pair) (j : ℕ) → j < (volume.settings).replicas → PlaceTells PieceTells pair (place_in (row_at volume.rows pair) j) (outcome_at (now k (replica_at k j)) pair)
unfolding Stands
places_known Tells files PieceTells faults fuses volume k s pair j less =
    let r = at_there volume.replicas j (let all = s.all in omega (arith, all, less)) in
    stands_tells files PieceTells r.0 pair (place_in (row_at volume.rows pair) j) (outcome_at (now k (replica_at k j)) pair)
    (shown volume.settings volume.number Tells files PieceTells faults fuses volume.replicas volume.rows volume.front volume.frozen volume.unsure k s pair j r.0 r.1)

-- what was looked up: the front, the place of this replica, and the places that were looked at
abbrev pub IsLooked : {D P : Type 0} → Type 0 → Volume D P → Pair → ℕ → Looked P → VolumeKnown → Type 0
IsLooked PieceTells volume pair replica looked k =
    (looked.front ≡ length k.log) × PlaceMeans PieceTells pair (place_in looked.row replica) (outcome_at (now k (replica_at k replica)) pair)
    × ((j : ℕ) → j < (volume.settings).replicas → PlaceTells PieceTells pair (place_in looked.row j) (outcome_at (now k (replica_at k j)) pair))

pub see_known : {D P : Type 0} (Tells : Type 0) (files : D → Files) (PieceTells : Type 0) (faults fuses : D → ℕ) (old new : Volume D P) (pair : Pair) (replica : ℕ) (looked : Looked P)
    → new.settings ≡ old.settings
    → looked.row ≡ row_at new.rows pair → (Tells → (k : VolumeKnown) → Stands files PieceTells old k → Stands files PieceTells new k)
    → (Tells → (k : VolumeKnown) → Stands files PieceTells old k → (looked.front ≡ length k.log)
    × PlaceMeans PieceTells pair (place_in looked.row replica) (outcome_at (now k (replica_at k replica)) pair))
    → Tells → (k : VolumeKnown) → Stands files PieceTells old k → IsLooked PieceTells old pair replica looked k
see_known Tells files PieceTells faults fuses old new pair replica looked settings row stands known tells k s =
    let q = known tells k s in (
      q.0,
      q.1,
      λ j less. subst (λ (places : List (Place _)). PlaceTells PieceTells pair (place_in places j) (outcome_at (now k (replica_at k j)) pair)) (sym row)
          (places_known Tells files PieceTells faults fuses new k (stands tells k s) pair j (subst (λ (z : Settings). j < z.replicas) (sym settings) less)),
    )

-- a view shows nothing of an act that changed nothing
pub tried_quiet : {D : Type 0} (faults fuses : D → ℕ) (tag : CoreTag) (before : List ℕ) (copies : List (Copy D)) (made : Option VolumeAct) → IsTried faults fuses tag before copies made
    → entries volume_lock (acts_in made) ≡ []
tried_quiet faults fuses tag before copies None tried = refl
tried_quiet faults fuses tag before copies (Some act) tried = ap (λ (z : VolumeAct). add_shown (entry_of z.did) []) tried.is

-- PLACES THAT WERE SEEN

module _ {D P : Type 0} (Tells : Type 0) (files : D → Files) (PieceTells : Type 0) (faults fuses : D → ℕ) (tag : CoreTag) where
  -- Places were seen and published, and what stands was not changed.
  pub record Sees (old new : Guarded D P) : Type 0 where
    pub of : IsOfBoth faults old new
    pub shows : Shows tag None old new
    pub serves : (opened : Opened D P) → (old.logical).settings ≡ (opened.volume).settings → Serves opened old new
    pub stay : FusesStay fuses old new
    pub keeps : Keeps Tells files PieceTells old new
    pub begun : new.begun ≡ old.begun
    pub ended : new.ended ≡ old.ended
    pub frozen : (new.logical).frozen ≡ (old.logical).frozen

  pub sees_nothing : (old : Guarded D P) → IsOpenVolume old.logical → ((old.logical).frozen ≡ None → (old.front).closed ≡ false) → Sees old old
  sees_nothing old is_open serves = record {
    of = record {
      settings = refl;
      same = record { settings = refl; number = refl; sups = λ j r r' e f. ap (λ (c : Copy D). c.sup) (at_same (old.logical).replicas j r' r f e) };
      is_open = is_open;
      count = refl;
      rises = λ j r r' e f. (let same : faults r'.disk ≡ faults r.disk = ap (λ (c : Copy D). faults c.disk) (at_same (old.logical).replicas j r' r f e) in omega (arith, same));
    };
    shows = shows_nothing tag old old refl refl;
    serves = λ opened is. record { «open» = serves; rows = λ from were still. were still };
    stay = λ j r r' e f. ap (λ (c : Copy D). fuses c.disk) (at_same (old.logical).replicas j r' r f e);
    keeps = λ tells k s. (s, λ thawed j run has tight. tight);
    begun = refl;
    ended = refl;
    frozen = refl;
  }

  pub sees_more : (old mid new : Guarded D P) → Sees old mid → Sees mid new → Sees old new
  sees_more old mid new one two = record {
    of = record {
      settings = (two.of).settings ∙ (one.of).settings;
      same = record {
        settings = ((two.of).same).settings ∙ ((one.of).same).settings;
        number = ((two.of).same).number ∙ ((one.of).same).number;
        sups = λ j r r' e f. let m = there j r e in ((two.of).same).sups j m.0 r' m.1 f ∙ ((one.of).same).sups j r m.0 e m.1;
      };
      is_open = (two.of).is_open;
      count = (two.of).count ∙ (one.of).count;
      rises = λ j r r' e f. let m = there j r e in (let a = (one.of).rises j r m.0 e m.1 in let b = (two.of).rises j m.0 r' m.1 f in omega (arith, a, b));
    };
    shows = record {
      front = (two.shows).front ∙ (one.shows).front;
      base = (two.shows).base ∙ (one.shows).base;
      more = (two.shows).more ∙ ap (λ (l : List Entry). l ++ []) ((one.shows).more ∙ append-nil (entered_by ((old.front).shown).deeds));
      tags = (two.shows).tags ∙ ap (λ (l : List Tag). l ++ []) ((one.shows).tags ∙ append-nil (map (λ e. e.tag) (old.front).log));
    };
    serves = λ opened is.
        let s = one.serves opened is in let t = two.serves opened (((one.of).same).settings ∙ is) in record {
          «open» = t.«open»;
          rows = λ from were still pair. t.rows from (λ thawed. s.rows from were thawed) still pair;
        };
    stay = λ j r r' e f. let m = there j r e in two.stay j m.0 r' m.1 f ∙ one.stay j r m.0 e m.1;
    keeps = λ tells k s.
        let mid_is = one.keeps tells k s in let new_is = two.keeps tells k mid_is.0 in
        (new_is.0, λ thawed j run has tight. new_is.1 thawed j run has (mid_is.1 (sym two.frozen ∙ thawed) j run has tight));
    begun = two.begun ∙ one.begun;
    ended = two.ended ∙ one.ended;
    frozen = two.frozen ∙ one.frozen;
  }
    where
      there : (j : ℕ) (r : Copy D) → At (old.logical).replicas j r → (m : Copy D) × At (mid.logical).replicas j m
      there j r e = at_there (mid.logical).replicas j (let less = at_below (old.logical).replicas j r e in let same = (one.of).count in omega (arith, less, same))

  -- one was seen and published
  pub sees_published : (deed : Published P) (old new : Guarded D P) (pair : Pair) (replica : ℕ) (there : Place P) → IsOfBoth faults old new → FusesStay fuses old new
      → Keeps Tells files PieceTells old new
      → new.begun ≡ old.begun → new.ended ≡ old.ended → (new.logical).frozen ≡ (old.logical).frozen
      → deed ≡ record { change = op.Seen pair replica there; entered = [] } → replica < ((old.logical).settings).replicas
      → (new.front).shown ≡ with_deed (old.front).shown deed → (new.front).log ≡ (old.front).log → (new.front).closed ≡ false
      → SetsPlaceAt pair replica there (old.logical).rows (new.logical).rows → Sees old new
  sees_published deed old new pair replica there of stay keeps begun ended frozen is within shown log «open» sets = record {
    of = of;
    shows = shows_deed tag old new deed None (ap (λ (d : Published P). d.entered) is) shown
        (ap (λ (l : List (LogEntry (Published P))). map (λ e. e.tag) l) log ∙ sym (append-nil (map (λ e. e.tag) (old.front).log)));
    serves = λ opened settings. serves_deed tag old new deed opened «open» shown (λ thawed. sym frozen ∙ thawed)
        (subst (λ (d : Published P). FitsRows ((opened.volume).settings).replicas d.change) (sym is) (subst (λ (s : Settings). replica < s.replicas) settings within))
        (λ other. sets other ∙ ap (λ (d : Published P). changed_row d.change other (row_at (old.logical).rows other)) (sym is));
    stay = stay;
    keeps = keeps;
    begun = begun;
    ended = ended;
    frozen = frozen;
  }

  -- or not, where the front of a frozen volume is closed
  pub sees_frozen : (old new : Guarded D P) (m : ℕ) → IsOfBoth faults old new → FusesStay fuses old new
      → Keeps Tells files PieceTells old new
      → new.begun ≡ old.begun → new.ended ≡ old.ended → (new.logical).frozen ≡ (old.logical).frozen → new.front ≡ old.front → (old.logical).frozen ≡ Some m → Sees old new
  sees_frozen old new m of stay keeps begun ended frozen front is = record {
    of = of;
    shows = shows_nothing tag old new (ap (λ f. f.shown) front) (ap (λ f. f.log) front);
    serves = λ opened settings. serves_frozen tag old new opened m (frozen ∙ is);
    stay = stay;
    keeps = keeps;
    begun = begun;
    ended = ended;
    frozen = frozen;
  }

  pub sees_changes : (old new : Guarded D P) → Sees old new → (made : Option VolumeAct) → IsTried faults fuses tag (counts faults (old.logical).replicas) (new.logical).replicas made
      → Changes Tells files PieceTells faults fuses tag old new made
  sees_changes old new s made tried = changes_seen Tells files PieceTells faults fuses tag old new s.of (λ still. sym s.frozen ∙ still) s.shows s.serves s.stay s.keeps s.begun s.ended made tried

  -- WHAT MAY BE PUBLISHED of it

  pub table_kept : (opened : Opened D P) (held : List VolumeAct) (old : Guarded D P) → IsKept Tells files PieceTells faults fuses opened held old
      → Tells → (k : VolumeKnown) → Stands files PieceTells opened.volume k → (j : ℕ)
      → now (stood_of faults fuses opened k held).volume (replica_at (stood_of faults fuses opened k held).volume j) ≡ fold apply_entry (now k (replica_at k j)) (entered_by ((old.front).shown).deeds)
  table_kept opened held old h tells k s j =
      table_behind (opened.volume).settings (opened.volume).number (standing_of faults fuses opened k) held j (h.follows tells k s)
      ∙ ap (fold apply_entry (now k (replica_at k j))) (sym h.entered)

  pub seen_may : (deed : Published P) (opened : Opened D P) (held : List VolumeAct) (old mid : Guarded D P) → IsKept Tells files PieceTells faults fuses opened held old → Sees old mid
      → Holds (Fact Tells files PieceTells) (mid.front).shown → (pair : Pair) (replica : ℕ) (there : Place P) → deed ≡ record { change = op.Seen pair replica there; entered = [] }
      → replica < ((old.logical).settings).replicas
      → (Tells → (k : VolumeKnown) → Stands files PieceTells mid.logical k → PlaceMeans PieceTells pair there (outcome_at (now k (replica_at k replica)) pair))
      → MayPublish (Fact Tells files PieceTells) (mid.front).shown deed
  seen_may deed opened held old mid h sees fact pair replica there is within means =
      let base = (sees.shows).base ∙ h.base ∙ (h.from).base in
      let fit : FitsRows ((h.from).rows).replicas deed.change =
      subst (λ (d : Published P). FitsRows ((h.from).rows).replicas d.change) (sym is)
      (subst (λ (n : ℕ). replica < n) (sym (h.from).width) (subst (λ (s : Settings). replica < s.replicas) h.same_settings within)) in
      may_publish Tells files PieceTells opened.volume (h.from).rows (mid.front).shown base fact deed
      (record { rows = fit; enters = subst (λ (d : Published P). Enters d.change d.entered) (sym is) refl })
      (seen_tells Tells files PieceTells (begun_at opened.volume (h.from).rows) ((mid.front).shown).deeds deed fit
      (fact_first Tells files PieceTells opened.volume (h.from).rows (mid.front).shown base fact).1 pair replica there is
      (λ tells k s. subst (λ (table : Table). PlaceMeans PieceTells pair there (outcome_at table pair))
      (table_kept opened held old h tells k s replica ∙ ap (fold apply_entry (now k (replica_at k replica))) (sym ((sees.shows).more ∙ append-nil (entered_by ((old.front).shown).deeds))))
      (means tells (stood_of faults fuses opened k held).volume (sees.keeps tells (stood_of faults fuses opened k held).volume (h.stands tells k s)).0)))

  -- WHAT IT TELLS

  module _ (pair : Pair) (replica : ℕ) where
    pub seen_found : (old : Guarded D P) (made : Option VolumeAct) → entries volume_lock (acts_in made) ≡ [] → MadeNothing made → (looked : Looked P)
        → (Tells → (k : VolumeKnown) → Stands files PieceTells old.logical k → IsLooked PieceTells old.logical pair replica looked k)
        → Found Tells files PieceTells faults fuses tag old made (λ volume. SeeAnswer volume tag PieceTells pair replica (Ok looked))
    seen_found old made quiet nothing looked known opened held h tells k s volume at a b holding =
        let r = known tells (stood_of faults fuses opened k held).volume (h.stands tells k s) in
        let shown : b.shown ≡ entries volume_lock held =
        holding.shown ∙ entries_append volume_lock held (acts_in made) ∙ ap (λ (l : List Entry). entries volume_lock held ++ l) quiet ∙ append-nil (entries volume_lock held) in record {
          call = record { held = held; made = made; holding = holding; is = nothing };
          front = r.0 ∙ front_behind (opened.volume).settings (opened.volume).number (standing_of faults fuses opened k) held (h.follows tells k s)
              ∙ ap (λ (z : Standing). length (z.volume).log + length (entries volume_lock held)) (sym at.start)
              ∙ ap (λ (l : List Entry). length (((volume.start).volumes volume.number).volume).log + length l) (sym shown);
          means = subst (λ (table : Table). PlaceMeans PieceTells pair (place_in looked.row replica) (outcome_at table pair))
              (table_behind (opened.volume).settings (opened.volume).number (standing_of faults fuses opened k) held replica (h.follows tells k s)
              ∙ ap (λ (z : Standing). fold apply_entry (now z.volume (replica_at z.volume replica)) (entries volume_lock held)) (sym at.start)
              ∙ ap (fold apply_entry (now ((volume.start).volumes volume.number).volume (replica_at ((volume.start).volumes volume.number).volume replica))) (sym shown))
              r.1;
          places = λ i less. subst (λ (table : Table). PlaceTells PieceTells pair (place_in looked.row i) (outcome_at table pair))
              (table_behind (opened.volume).settings (opened.volume).number (standing_of faults fuses opened k) held i (h.follows tells k s)
              ∙ ap (λ (z : Standing). fold apply_entry (now z.volume (replica_at z.volume i)) (entries volume_lock held)) (sym at.start)
              ∙ ap (fold apply_entry (now ((volume.start).volumes volume.number).volume (replica_at ((volume.start).volumes volume.number).volume i))) (sym shown))
              (r.2 i (subst (λ (z : Settings). i < z.replicas) (at.settings ∙ sym h.same_settings) less));
        }

    -- A LOOK THAT WAS REFUSED

    pub record RefusesSight (old new : Guarded D P) (fault : LogicalFault) (made : Option VolumeAct) : Type 0 where
      pub goes : GoesOn Tells files PieceTells faults fuses tag old new made
      pub told : Found Tells files PieceTells faults fuses tag old made (λ volume. SeeRefused volume tag replica fault)
      pub always : (m f : ℕ) → fault ≡ Failed m f → FoundAlways Tells files PieceTells faults fuses tag old made (λ volume. FailedLook volume tag replica m f)

    pub see_refused : (old new : Guarded D P) → IsOfOne faults old new → FusesStay fuses old new → new.begun ≡ old.begun → new.ended ≡ old.ended → replica < ((old.logical).settings).replicas
        → Keeps Tells files PieceTells old new
        → (fault : LogicalFault)
        → (Tells → (k : VolumeKnown) → Stands files PieceTells old.logical k → (m at : ℕ) → fault ≡ Damaged m at → ⊥)
        → logical.IsSightFault faults (old.logical).settings (old.logical).number (old.logical).replicas (new.logical).replicas fault
        → ((m f : ℕ) → fault ≡ Failed m f → m ≡ machine_of (old.logical).settings (old.logical).number replica)
        → (made : Option VolumeAct) → IsMadeBy Tells files PieceTells faults fuses tag old new (tried_made fault) made → RefusesSight old new fault made
    see_refused old new of stay begun ended within keeps (Failed m f) undamaged cause machine made by =
        let act : VolumeAct = act_of faults fuses tag made_is.Tries (new.logical).replicas in
        let goes : GoesOn Tells files PieceTells faults fuses tag old new (Some act) =
        goes_more Tells files PieceTells faults fuses tag old new made_is.Tries of (no_fuse Tells files PieceTells faults fuses tag old new of stay) refl
        (tries_leads Tells files PieceTells faults fuses tag old new keeps) (λ j less. ap (λ (l : List CoreTag). slice_index_or l j nobody) begun)
        (ends_none Tells files PieceTells old new act (λ j. refl) (λ j own. own) ended) act refl in
        let always : FoundAlways Tells files PieceTells faults fuses tag old (Some act) (λ volume. FailedLook volume tag replica m f) =
        λ opened held h k volume at a b holding. (
          on_machine Tells files PieceTells faults fuses tag old new opened held k volume h at m replica (machine m f refl),
          record {
            held = held;
            made = Some act;
            holding = holding;
            is = (refl, failed_act Tells files PieceTells faults fuses tag old new act goes replica m f within (machine m f refl) cause opened held h k volume at);
          },
        ) in
        subst (λ (z : Option VolumeAct). RefusesSight old new (Failed m f) z) (sym (by.acts made_is.Tries refl)) (record {
          goes = goes;
          told = λ opened held h tells k s volume at a b holding. always opened held h k volume at a b holding;
          always = λ n g e opened held h k volume at a b holding.
              let mm : m ≡ n = cc e in let ff : f ≡ g = cc e in
              subst (λ (x : ℕ). FailedLook volume tag replica x g a b) mm (subst (λ (y : ℕ). FailedLook volume tag replica m y a b) ff (always opened held h k volume at a b holding));
        })
    see_refused old new of stay begun ended within keeps NoMemory undamaged cause machine made by = record {
      goes = goes_tried Tells files PieceTells faults fuses tag old new of stay keeps begun ended made (by.tries refl).quiet (by.tries refl).is;
      told =
          λ opened held h tells k s volume at a b holding. record {
            held = held;
            made = made;
            holding = holding;
            is = inl (nothing_made Tells files PieceTells faults fuses tag old new made (by.tries refl));
          };
      always = λ m f e. absurd (cc e);
    }
    see_refused old new of stay begun ended within keeps (Damaged m at) undamaged cause machine made by = record {
      goes = goes_tried Tells files PieceTells faults fuses tag old new of stay keeps begun ended made (by.tries refl).quiet (by.tries refl).is;
      told = λ opened held h tells k s volume there a b holding. absurd (undamaged tells (stood_of faults fuses opened k held).volume (h.stands tells k s) m at refl);
      always = λ m f e. absurd (cc e);
    }
    see_refused old new of stay begun ended within keeps (ReadOnly m) undamaged cause machine made by = absurd cause
    see_refused old new of stay begun ended within keeps (Full m end need capacity) undamaged cause machine made by = absurd cause
    see_refused old new of stay begun ended within keeps (Gone front) undamaged cause machine made by = absurd cause
    see_refused old new of stay begun ended within keeps (Busy m g) undamaged cause machine made by = absurd cause
    see_refused old new of stay begun ended within keeps (Worn m) undamaged cause machine made by = absurd cause
    see_refused old new of stay begun ended within keeps Idle undamaged cause machine made by = absurd cause

  -- A VOLUME THAT WAS FROZEN for want of memory to publish what was seen

  pub froze : (old new : Guarded D P) (m : ℕ) → IsOfBoth faults old new → FusesStay fuses old new → Shows tag None old new → new.begun ≡ old.begun → new.ended ≡ old.ended
      → (old.logical).frozen ≡ None → (new.logical).frozen ≡ Some m
      → (Tells → (k : VolumeKnown) → Stands files PieceTells old.logical k → Stands files PieceTells new.logical (frozen_by m k))
      → (act : VolumeAct) → act ≡ act_of faults fuses tag (made_is.Freezes m) (new.logical).replicas → Changes Tells files PieceTells faults fuses tag old new (Some act)
  froze old new m of stay shows begun ended thawed frozen stands act is = changes_acted Tells files PieceTells faults fuses tag old new (made_is.Freezes m) of (λ still. thawed) shows
      (λ opened settings. serves_frozen tag old new opened m frozen) (fuses_stay Tells files PieceTells faults fuses tag old new of.count stay)
      (λ tells before s. record {
        leads = (frozen_known files PieceTells old.logical before.volume s ∙ thawed, refl);
        stands = stands tells before.volume s;
        tight = tight_frozen files tag (made_is.Freezes m) old new before m frozen;
      })
      (λ j less. ap (λ (l : List CoreTag). slice_index_or l j nobody) begun)
      (ends_none Tells files PieceTells old new (act_of faults fuses tag (made_is.Freezes m) (new.logical).replicas) (λ j. refl) (λ j own. own) ended) act is

  -- it is frozen by its first machine then, or was frozen before
  pub see_wanted : (old new : Guarded D P) (mid : Volume D P) (replica : ℕ) (frozen : Option ℕ) → (old.logical).frozen ≡ frozen
      → IsOfBoth faults old new → FusesStay fuses old new → Shows tag None old new → new.begun ≡ old.begun → new.ended ≡ old.ended
      → IsSame old.logical mid → mid.frozen ≡ (old.logical).frozen
      → (Tells → (k : VolumeKnown) → Stands files PieceTells old.logical k → Stands files PieceTells mid k)
      → (Tells → (k : VolumeKnown) → Stands files PieceTells mid k → k.frozen ≡ None → Stands files PieceTells new.logical (frozen_by (machine_of mid.settings mid.number 0) k))
      → ((m : ℕ) → mid.frozen ≡ Some m → new.logical ≡ mid)
      → (mid.frozen ≡ None → (new.logical).frozen ≡ Some (machine_of mid.settings mid.number 0))
      → (made : Option VolumeAct) → IsMadeBy Tells files PieceTells faults fuses tag old new (freezes_by frozen (new.logical).frozen) made
      → Changes Tells files PieceTells faults fuses tag old new made × Found Tells files PieceTells faults fuses tag old made (λ volume. SeeRefused volume tag replica NoMemory)
  see_wanted old new mid replica None was of stay shows begun ended same still stands freezes again now_frozen made by =
      let m : ℕ = machine_of mid.settings mid.number 0 in
      let act : VolumeAct = act_of faults fuses tag (made_is.Freezes m) (new.logical).replicas in
      subst (λ (z : Option VolumeAct). Changes Tells files PieceTells faults fuses tag old new z
      × Found Tells files PieceTells faults fuses tag old z (λ volume. SeeRefused volume tag replica NoMemory))
      (sym (by.acts (made_is.Freezes m) (ap (λ (f : Option ℕ). freezes_by None f) (now_frozen (still ∙ was))))) (
        froze old new m of stay shows begun ended was (now_frozen (still ∙ was))
            (λ tells k s. freezes tells k (stands tells k s) (frozen_known files PieceTells old.logical k s ∙ was)) act refl,
        λ opened held h tells k s volume at a b holding. record {
          held = held;
          made = Some act;
          holding = holding;
          is = inr (ap (λ (n : ℕ). Freezes n)
              (ap (λ (s : Settings). machine_of s mid.number 0) (same.settings ∙ h.same_settings ∙ sym at.settings)
              ∙ ap (λ (v : ℕ). machine_of volume.settings v 0) (same.number ∙ h.number ∙ sym at.number)));
        },
      )
  see_wanted old new mid replica (Some m) was of stay shows begun ended same still stands freezes again now_frozen made by =
      let left : new.logical ≡ mid = again m (still ∙ was) in (
        changes_seen Tells files PieceTells faults fuses tag old new of (λ thawed. absurd (none-some m (sym thawed ∙ (ap (λ v. v.frozen) left ∙ still ∙ was)))) shows
            (λ opened settings. serves_frozen tag old new opened m (ap (λ v. v.frozen) left ∙ still ∙ was)) stay
            (λ tells k s. (
              subst (λ v. Stands files PieceTells v k) (sym left) (stands tells k s),
              λ thawed. absurd (none-some m (sym thawed ∙ (ap (λ v. v.frozen) left ∙ still ∙ was))),
            )) begun ended made (by.tries refl),
        λ opened held h tells k s volume at a b holding. record {
          held = held;
          made = made;
          holding = holding;
          is = inl (nothing_made Tells files PieceTells faults fuses tag old new made (by.tries refl));
        },
      )

-- BY WHAT THE CALLS TELL

-- a place that was looked at
pub look_known : {D P : Type 0} (Tells : Type 0) (files : D → Files) (PieceTells : Type 0) (old : Volume D P) (pair : Pair) (replica : ℕ) (looked : Looked P) → replica < length old.replicas
    → IsSeen (place_in looked.row replica)
    → (Tells → (k : VolumeKnown) → Stands files PieceTells old k → (looked.front ≡ length k.log)
    × ((j : ℕ) (r : Copy D) → At old.replicas j r → PlaceStands files PieceTells r pair (place_in looked.row j) (outcome_at (now k (replica_at k j)) pair)))
    → Tells → (k : VolumeKnown) → Stands files PieceTells old k
    → (looked.front ≡ length k.log) × PlaceMeans PieceTells pair (place_in looked.row replica) (outcome_at (now k (replica_at k replica)) pair)
look_known Tells files PieceTells old pair replica looked less seen known tells k s =
    let r = at_there old.replicas replica less in let q = known tells k s in
    (q.0, seen_means files PieceTells r.0 pair (place_in looked.row replica) (outcome_at (now k (replica_at k replica)) pair) seen (q.1 replica r.0 r.1))

-- a row has a place for each replica of what stood where the lock was made
pub long_at : {D P : Type 0} (opened o : Opened D P) (kept : Guarded D P) (n : ℕ) → n ≡ ((kept.logical).settings).replicas → (kept.logical).settings ≡ (opened.volume).settings
    → ◌≡◌ {A = Option (Opened D P)} (Some opened) (Some o) → n ≡ ((o.volume).settings).replicas
long_at opened o kept n long settings same =
    let one : opened ≡ o = cc same in long ∙ ap (λ (s : Settings). s.replicas) settings ∙ ap (λ (z : Opened _ _). ((z.volume).settings).replicas) one

-- a place that was not looked at
pub unseen : {P : Type 0} (looked row : List (Place P)) (replica : ℕ) (seen : Bool) → (IsSeen (place_in looked replica) → seen ≡ true) → seen ≡ false → looked ≡ row → IsSeen (place_in row replica) → ⊥
unseen looked row replica seen tells not same is =
    let yes = tells (subst (λ (places : List (Place _)). IsSeen (place_in places replica)) (sym same) is) in let wrong : true ≡ false = sym yes ∙ not in cc wrong

-- the row is as long as before
pub row_long : {P : Type 0} (pair : Pair) (replica : ℕ) (there : Place P) (old new : MapRows P) → SetsPlaceAt pair replica there old new → length (row_at new pair) ≡ length (row_at old pair)
row_long pair replica there old new sets =
    ap length (sets pair ∙ cond-true (pair_eq pair pair) (slice_set (row_at old pair) replica there) (row_at old pair) (pair_refl pair)) ∙ length-slice_set (row_at old pair) replica there

module _ {D P : Type 0} (Tells : Type 0) (files : D → Files) (PieceTells : Type 0) (faults fuses : D → ℕ) (tag : CoreTag) (old new : Guarded D P)
    (settings : new.settings ≡ old.settings) (begun : new.begun ≡ old.begun) (ended : new.ended ≡ old.ended)
    (same : IsSame old.logical new.logical) (is_open : IsOpenVolume new.logical) (counts : KeepsCounts faults fuses (old.logical).replicas (new.logical).replicas)
    (keeps : Keeps Tells files PieceTells old new) (frozen : (new.logical).frozen ≡ (old.logical).frozen) where
  abbrev both : IsOfBoth faults old new
  both = record { settings = settings; same = same; is_open = is_open; count = counts.count; rises = counts.rises }

  -- a place was seen and published
  pub see_shown : (pair : Pair) (replica : ℕ) (there : Place P) (deed : Published P) (item : LogEntry (Published P)) → deed ≡ record { change = op.Seen pair replica there; entered = [] }
      → replica < ((old.logical).settings).replicas → SetsPlaceAt pair replica there (old.logical).rows (new.logical).rows
      → new.front ≡ record { shown = with_deed (old.front).shown deed; log = logged (is_entry deed.change) (old.front).log item; closed = false } → Sees Tells files PieceTells faults fuses tag old new
  see_shown pair replica there deed item is within sets front =
      sees_published Tells files PieceTells faults fuses tag deed old new pair replica there both counts.stay keeps begun ended frozen is within
      (ap (λ f. f.shown) front) (ap (λ f. f.log) front ∙ ap (λ (d : Published P). logged (is_entry d.change) (old.front).log item) is) (ap (λ f. f.closed) front) sets

  -- a frozen volume whose front is closed
  pub see_closed : new.front ≡ old.front → (old.front).closed ≡ true → ((old.logical).frozen ≡ None → (old.front).closed ≡ false) → Sees Tells files PieceTells faults fuses tag old new
  see_closed front closed serves = by_frozen (old.logical).frozen refl
    where
      by_frozen : (f : Option ℕ) → (old.logical).frozen ≡ f → Sees Tells files PieceTells faults fuses tag old new
      by_frozen None is = absurd (let not : true ≡ false = sym closed ∙ serves is in cc not)
      by_frozen (Some m) is = sees_frozen Tells files PieceTells faults fuses tag old new m both counts.stay keeps begun ended frozen front is

  -- it was refused
  pub of_refused : new.front ≡ old.front → ((pair : Pair) → row_at (new.logical).rows pair ≡ row_at (old.logical).rows pair) → IsOfOne faults old new
  of_refused front rows = record {
    settings = settings;
    front = front;
    same = same;
    is_open = is_open;
    count = counts.count;
    rises = counts.rises;
    thawed = λ thawed. sym frozen ∙ thawed;
    rows = λ thawed pair. rows pair;
  }
