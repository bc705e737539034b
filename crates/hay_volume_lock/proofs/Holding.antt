-- What a holding tells of a lane.
use Rattle.std.proofs.Common.{◌≡◌, ℕ, ◌<◌, ◌≤◌, true, false, List, [], ◌∷◌, ◌++◌, append_assoc, length, Option, Some, None, refl, sym, ap, subst, ◌∙◌, append-nil}
use Rattle.std.specs.List.{AllByRecursion as Each}
use Rattle.hay_core.specs.declared.entry.CoreTag.{CoreTag}
use Rattle.hay_core.specs.declared.entry.Entry.{Entry}
use Rattle.hay_disk.specs.Disk.{Files}
use Rattle.hay_legal.specs.declared.known.VolumeKnown.{VolumeKnown}
use Rattle.hay_history.specs.LaneSteps.{Standing}
use Rattle.hay_meeting.specs.declared.act.VolumeAct.{VolumeAct}
use Rattle.hay_meeting.specs.Acts.{volume_lock}
use Rattle.hay_meeting.specs.Locks.{LockSight, entries, left}
use Rattle.hay_meeting.specs.Sights.{stood}
use Rattle.hay_meeting.proofs.Replays.{entries_append}
use mathlib.Core.List.{IsPrefix}
use Rattle.hay_front.specs.Fronts.{IsBehind, Witness}
use Rattle.hay_holdings.specs.Holdings.{Holding, sight_of}
use Rattle.hay_logical.specs.Volumes.{Volume}
use Rattle.hay_needle.specs.declared.settings.Settings.{Settings}
use Rattle.hay_needle.specs.declared.settings.TheConstants.{MAX_REPLICAS}
use Rattle.hay_turn.specs.Seats.{Holds, SeatState, after_free}
use Rattle.hay_views.specs.declared.places.Published.{Published}
use Rattle.hay_views.specs.MapPasts.{MapPast, entered_by}
use Rattle.hay_holdings.specs.Volumes.{VolumeCall}
use Rattle.hay_turn.specs.Acts.{AllOf, acts_of}
use Rattle.hay_turn.proofs.ActLists.{acts_of_all, acts_of_append}
use Rattle.hay_turn.specs.Slots.{acts_in}
use Rattle.hay_volume_lock.specs.Acts.{SetNoFuse}
use Rattle.hay_volume_lock.specs.Answers.{Found, FoundAlways, IsAlways, IsAt, IsTold, OneHolding, StoreVolume, UnfusedHolding}
use Rattle.hay_volume_lock.specs.Keeping.{GoesOn, IsKept, stood_of}
use Rattle.hay_volume_lock.specs.Seats.{IsSameSeat, IsSeated, Seated, Takes, freed, holding}
use Rattle.hay_volume_lock.specs.declared.guarded.Guarded.{Guarded}
use Rattle.hay_volume_lock.specs.declared.guarded.Opened.{Opened}
use Rattle.hay_volume_lock.proofs.Growing.{goes_nowhere}

-- what stood of the volume, in the terms of the store
pub stood_is : {D P : Type 0} (faults fuses : D → ℕ) (opened : Opened D P) (k : VolumeKnown) (volume : StoreVolume) (held : List VolumeAct)
    → IsAt faults fuses opened k volume → stood_of faults fuses opened k held ≡ stood volume.start volume.number held
stood_is faults fuses opened k volume held at = ap (λ (z : Standing). left volume_lock z held) (sym at.start)

pub all_mine : (m n : ℕ) (acts : List VolumeAct) → m ≡ n → Each (λ act. act.seat ≡ n) acts → AllOf (λ act. act.seat) m acts
all_mine m n [] same each = tt
all_mine m n (act ∷ acts) same each = (each.0 ∙ sym same, all_mine m n acts same each.1)

module _ {D P : Type 0} (Tells : Type 0) (files : D → Files) (PieceTells : Type 0) (faults fuses : D → ℕ) (tag : CoreTag) (old mid : Seated D P) (found : Guarded D P)
    (takes : Takes Tells files PieceTells faults fuses old mid found) where
  -- the start is the seat's own
  kept_at : (opened : Opened D P) → old.start ≡ Some opened → IsKept Tells files PieceTells faults fuses opened (mid.sight).seen found
  kept_at opened is = let same : takes.opened ≡ opened = cc (takes.start, is) in
      subst (λ (z : Opened D P). IsKept Tells files PieceTells faults fuses z (mid.sight).seen found) same takes.is_kept

  module _ (after : Guarded D P) (made : Option VolumeAct) (goes : GoesOn Tells files PieceTells faults fuses tag found after made) where
    -- the volume may be put back
    pub may_free : (opened : Opened D P) → mid.start ≡ Some opened → IsKept Tells files PieceTells faults fuses opened ((mid.sight).seen ++ acts_in made) after
    may_free opened is = goes.kept opened (mid.sight).seen (kept_at opened (sym (ap (λ (s : Seated D P). s.start) takes.same) ∙ is))

    pub mine : old.number ≡ tag.lane → AllOf (λ act. act.seat) mid.number (acts_in made)
    mine lane = all_mine mid.number tag.lane (acts_in made) (ap (λ (s : Seated D P). s.number) takes.same ∙ lane) goes.seats

    pub holding_of : Holding volume_lock tag (mid.sight).seen made old.sight (freed mid (acts_in made)).sight
    holding_of = record {
      from = takes.seen;
      shown_from = takes.shown;
      seen = refl;
      own = ap (λ (s : Seated D P). (s.sight).own ++ acts_in made) takes.same;
      shown = ap (λ (s : Seated D P). (s.sight).shown) takes.same
          ∙ sym (entries_append volume_lock (mid.sight).seen (acts_in made) ∙ ap (λ (l : List Entry). entries volume_lock (mid.sight).seen ++ l) goes.quiet
          ∙ append-nil (entries volume_lock (mid.sight).seen));
      tags = goes.tags;
      seats = goes.seats;
    }

    module _ (new : Seated D P) (is_new : new ≡ freed mid (acts_in made)) where
      pub told : (Is : StoreVolume → VolumeCall) → Found Tells files PieceTells faults fuses tag found made Is
          → IsTold Tells files PieceTells faults fuses old.start (λ volume. Is volume old.sight new.sight)
      told Is finds opened is tells k s volume at = subst (λ (z : Seated D P). Is volume old.sight z.sight) (sym is_new)
          (finds opened (mid.sight).seen (kept_at opened is) tells k s volume at old.sight (freed mid (acts_in made)).sight holding_of)

      pub always : (Is : StoreVolume → VolumeCall) → FoundAlways Tells files PieceTells faults fuses tag found made Is
          → IsAlways faults fuses old.start (λ volume. Is volume old.sight new.sight)
      always Is finds opened is k volume at = subst (λ (z : Seated D P). Is volume old.sight z.sight) (sym is_new)
          (finds opened (mid.sight).seen (kept_at opened is) k volume at old.sight (freed mid (acts_in made)).sight holding_of)

      pub one_holding : OneHolding tag old.sight new.sight
      one_holding = subst (λ (z : Seated D P). OneHolding tag old.sight z.sight) (sym is_new) (record { held = (mid.sight).seen; made = made; holding = holding_of; is = tt })

      pub unfused_holding : SetNoFuse (acts_in made) → UnfusedHolding tag old.sight new.sight
      unfused_holding none = subst (λ (z : Seated D P). UnfusedHolding tag old.sight z.sight) (sym is_new) (record { held = (mid.sight).seen; made = made; holding = holding_of; is = none })

      pub same_seat : old.holds ≡ false → IsSameSeat old new
      same_seat rests = let e : new ≡ freed (holding old (mid.sight).seen) (acts_in made) = is_new ∙ ap (λ (s : Seated D P). freed s (acts_in made)) takes.same in
          e ∙ ap (λ b. record (freed (holding old (mid.sight).seen) (acts_in made)) { holds = b }) (sym rests)
          ∙ ap (λ (s : LockSight VolumeAct Entry). record old { sight = s }) (sym (ap (λ (s : Seated D P). s.sight) e))

-- WHERE IT BEGINS

abbrev pub View : Type 0 → Type 0 → Type 0
View D P = Witness (MapPast P (Volume D P)) (Volume D P) (Published P)

-- a lane's seats at the turn and at the view
abbrev pub seat_of : {D P : Type 0} → SeatState (Opened D P) VolumeAct → View D P → Seated D P
seat_of t v = record { lock = t.turn; number = t.number; seats = t.seats; start = t.start; holds = t.holds; sight = sight_of t (entered_by v.deeds) }

entered_both : {P : Type 0} (xs ys : List (Published P)) → entered_by (xs ++ ys) ≡ entered_by xs ++ entered_by ys
entered_both [] ys = refl
entered_both (x ∷ xs) ys = ap (λ (l : List Entry). x.entered ++ l) (entered_both xs ys) ∙ sym (append_assoc x.entered (entered_by xs) (entered_by ys))

pub entered_prefix : {P : Type 0} (xs ys : List (Published P)) → IsPrefix xs ys → IsPrefix (entered_by xs) (entered_by ys)
entered_prefix xs ys p = (entered_by p.0, sym (entered_both xs p.0) ∙ ap entered_by p.1)

module _ {D P : Type 0} (Tells : Type 0) (files : D → Files) (PieceTells : Type 0) (faults fuses : D → ℕ) where
  pub took : (t t' : SeatState (Opened D P) VolumeAct) {stood : ℕ} (v v' : View D P) (kept : Guarded D P) → IsSeated t stood v
      → Holds (λ act. act.seat) (λ opened acts x. IsKept Tells files PieceTells faults fuses opened acts x) t t' kept
      → IsBehind v (kept.front).shown → v' ≡ (kept.front).shown → Takes Tells files PieceTells faults fuses (seat_of t v) (seat_of t' v') kept
  took t t' {stood} v v' kept seated holds behind all =
      let is_kept : IsKept Tells files PieceTells faults fuses seated.opened t'.seen kept = holds.stands_for seated.opened seated.is in record {
        opened = seated.opened;
        start = seated.is;
        is_kept = is_kept;
        same = ap (λ (z : SeatState (Opened D P) VolumeAct). record (seat_of z v') { sight = record { seen = t'.seen; own = z.own; shown = entered_by v'.deeds } }) holds.same
            ∙ ap (λ (l : List Entry). record (seat_of t v) { holds = true; sight = record { seen = t'.seen; own = t.own; shown = l } })
            (ap (λ (z : View D P). entered_by z.deeds) all ∙ is_kept.entered);
        seen = holds.seen;
        shown = subst (λ (l : List Entry). IsPrefix (entered_by v.deeds) l) is_kept.entered (entered_prefix v.deeds ((kept.front).shown).deeds behind.2);
      }

  -- the seat goes on behind a holding
  pub seated_behind : (t t' t'' : SeatState (Opened D P) VolumeAct) {stood : ℕ} (v v' : View D P) (kept : Guarded D P) (made : List VolumeAct) → IsSeated t stood v
      → Holds (λ act. act.seat) (λ opened acts x. IsKept Tells files PieceTells faults fuses opened acts x) t t' kept
      → IsBehind v v' → AllOf (λ act. act.seat) t.number made → t'' ≡ after_free t' made → IsSeated t'' stood v'
  seated_behind t t' t'' {stood} v v' kept made seated holds behind mine free =
      subst (λ (z : SeatState (Opened D P) VolumeAct). IsSeated z stood v') (sym free) (record {
        opened = seated.opened;
        is = ap (λ (z : SeatState (Opened D P) VolumeAct). z.start) holds.same ∙ seated.is;
        from = seated.from;
        stood_is = seated.stood_is;
        front = sym behind.0 ∙ seated.front;
        base = sym behind.1 ∙ seated.base;
        own = ap (λ (z : SeatState (Opened D P) VolumeAct). acts_of (λ act. act.seat) z.number (t'.seen ++ made)) holds.same
            ∙ acts_of_append (λ act. act.seat) t.number t'.seen made
            ∙ ap (λ (l : List VolumeAct). l ++ acts_of (λ act. act.seat) t.number made) (holds.own ∙ sym (ap (λ (z : SeatState (Opened D P) VolumeAct). z.own) holds.same))
            ∙ ap (λ (l : List VolumeAct). t'.own ++ l) (acts_of_all (λ act. act.seat) t.number made mine);
      })

  -- what stands behind the lock where it was taken
  module _ {t t' : SeatState (Opened D P) VolumeAct} {stood : ℕ} {v : View D P} {kept : Guarded D P} (seated : IsSeated t stood v)
      (holds : Holds (λ act. act.seat) (λ opened acts x. IsKept Tells files PieceTells faults fuses opened acts x) t t' kept) where
    pub is_held : IsKept Tells files PieceTells faults fuses seated.opened t'.seen kept
    is_held = holds.stands_for seated.opened seated.is

    pub all_there : length (kept.logical).replicas ≡ (kept.settings).replicas
    all_there = (is_held.is_open).all ∙ ap (λ (s : Settings). s.replicas) (is_held.same_settings ∙ sym is_held.settings)

    pub few_there : (kept.settings).replicas ≤ MAX_REPLICAS
    few_there = subst (λ (s : Settings). s.replicas ≤ MAX_REPLICAS) (sym is_held.settings) ((seated.from).of).most

    pub within_it : (j : ℕ) → j < (((seated.opened).volume).settings).replicas → j < ((kept.logical).settings).replicas
    within_it j less = subst (λ (s : Settings). j < s.replicas) (sym is_held.same_settings) less

  -- a holding, with its act or none
  module _ (tag : CoreTag) (t t' t'' : SeatState (Opened D P) VolumeAct) {stood : ℕ} (v v' : View D P) (kept after : Guarded D P) (made : Option VolumeAct) (seated : IsSeated t stood v)
      (holds : Holds (λ act. act.seat) (λ opened acts x. IsKept Tells files PieceTells faults fuses opened acts x) t t' kept)
      (behind : IsBehind v (kept.front).shown) (all : v' ≡ (kept.front).shown)
      (goes : GoesOn Tells files PieceTells faults fuses tag kept after made) (free : t'' ≡ after_free t' (acts_in made)) where
    -- the volume may be put back behind it
    pub made_free : (opened : Opened D P) → t'.start ≡ Some opened → IsKept Tells files PieceTells faults fuses opened (t'.seen ++ acts_in made) after
    made_free = may_free Tells files PieceTells faults fuses tag (seat_of t v) (seat_of t' v') kept (took t t' v v' kept seated holds behind all) after made goes

    pub made_mine : t.number ≡ tag.lane → AllOf (λ act. act.seat) t'.number (acts_in made)
    made_mine = mine Tells files PieceTells faults fuses tag (seat_of t v) (seat_of t' v') kept (took t t' v v' kept seated holds behind all) after made goes

    pub made_seated : t.number ≡ tag.lane → IsSeated t'' stood v'
    made_seated lane = seated_behind t t' t'' v v' kept (acts_in made) seated holds (subst (λ (z : View D P). IsBehind v z) (sym all) behind)
        (all_mine t.number tag.lane (acts_in made) lane goes.seats) free

    pub made_told : (Is : StoreVolume → VolumeCall) → Found Tells files PieceTells faults fuses tag kept made Is
        → IsTold Tells files PieceTells faults fuses t.start (λ volume. Is volume (seat_of t v).sight (seat_of t'' v').sight)
    made_told = told Tells files PieceTells faults fuses tag (seat_of t v) (seat_of t' v') kept (took t t' v v' kept seated holds behind all) after made goes
        (seat_of t'' v') (ap (λ (z : SeatState (Opened D P) VolumeAct). seat_of z v') free)

    pub made_always : (Is : StoreVolume → VolumeCall) → FoundAlways Tells files PieceTells faults fuses tag kept made Is
        → IsAlways faults fuses t.start (λ volume. Is volume (seat_of t v).sight (seat_of t'' v').sight)
    made_always = always Tells files PieceTells faults fuses tag (seat_of t v) (seat_of t' v') kept (took t t' v v' kept seated holds behind all) after made goes
        (seat_of t'' v') (ap (λ (z : SeatState (Opened D P) VolumeAct). seat_of z v') free)

    pub made_held : OneHolding tag (seat_of t v).sight (seat_of t'' v').sight
    made_held = one_holding Tells files PieceTells faults fuses tag (seat_of t v) (seat_of t' v') kept (took t t' v v' kept seated holds behind all) after made goes
        (seat_of t'' v') (ap (λ (z : SeatState (Opened D P) VolumeAct). seat_of z v') free)

    pub made_unfused : SetNoFuse (acts_in made) → UnfusedHolding tag (seat_of t v).sight (seat_of t'' v').sight
    made_unfused = unfused_holding Tells files PieceTells faults fuses tag (seat_of t v) (seat_of t' v') kept (took t t' v v' kept seated holds behind all) after made goes
        (seat_of t'' v') (ap (λ (z : SeatState (Opened D P) VolumeAct). seat_of z v') free)

    pub made_same : t.holds ≡ false → IsSameSeat (seat_of t v) (seat_of t'' v')
    made_same = same_seat Tells files PieceTells faults fuses tag (seat_of t v) (seat_of t' v') kept (took t t' v v' kept seated holds behind all) after made goes
        (seat_of t'' v') (ap (λ (z : SeatState (Opened D P) VolumeAct). seat_of z v') free)

  -- a holding that made none
  module _ (tag : CoreTag) (t t' t'' : SeatState (Opened D P) VolumeAct) {stood : ℕ} (v v' : View D P) (kept : Guarded D P) (seated : IsSeated t stood v)
      (holds : Holds (λ act. act.seat) (λ opened acts x. IsKept Tells files PieceTells faults fuses opened acts x) t t' kept)
      (behind : IsBehind v (kept.front).shown) (all : v' ≡ (kept.front).shown) (free : t'' ≡ after_free t' []) where
    abbrev nowhere : GoesOn Tells files PieceTells faults fuses tag kept kept None
    nowhere = goes_nowhere Tells files PieceTells faults fuses tag kept

    pub quiet_free : (opened : Opened D P) → t'.start ≡ Some opened → IsKept Tells files PieceTells faults fuses opened (t'.seen ++ []) kept
    quiet_free = made_free tag t t' t'' v v' kept kept None seated holds behind all nowhere free

    pub quiet_seated : IsSeated t'' stood v'
    quiet_seated = seated_behind t t' t'' v v' kept [] seated holds (subst (λ (z : View D P). IsBehind v z) (sym all) behind) tt free

    pub quiet_told : (Is : StoreVolume → VolumeCall) → Found Tells files PieceTells faults fuses tag kept None Is
        → IsTold Tells files PieceTells faults fuses t.start (λ volume. Is volume (seat_of t v).sight (seat_of t'' v').sight)
    quiet_told = made_told tag t t' t'' v v' kept kept None seated holds behind all nowhere free

    pub quiet_held : UnfusedHolding tag (seat_of t v).sight (seat_of t'' v').sight
    quiet_held = made_unfused tag t t' t'' v v' kept kept None seated holds behind all nowhere free tt

    pub quiet_same : t.holds ≡ false → IsSameSeat (seat_of t v) (seat_of t'' v')
    quiet_same = made_same tag t t' t'' v v' kept kept None seated holds behind all nowhere free
