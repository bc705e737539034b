-- The lock where it is made, and where it ends.
use Rattle.std.proofs.Common.{◌≡◌, ◌+◌, ◌<◌, ℕ, zero, suc, false, List, [], ◌∷◌, ◌++◌, length, map, replicate, slice_get, Option, Some, None, refl, sym, ap, subst, ◌∙◌, arith}
use Rattle.std.proofs.Common.{append-nil, append_assoc, length-append}
use Rattle.std.specs.Prelude.{slice_index_or, IfOk, Result, Ok, Err}
use Rattle.std.specs.List.{AllByRecursion as Each}
use Rattle.std.proofs.lemmas.List.{length-map, length-replicate}
use mathlib.Core.List.{IsPrefix}
use Rattle.hay_core.specs.declared.entry.Entry.{Entry}
use Rattle.hay_disk.specs.Disk.{Files}
use Rattle.hay_front.specs.Fronts.{IsBehind, Witness}
use Rattle.hay_front.specs.declared.front.Tag.{Tag}
use Rattle.hay_lanes.proofs.Results.{mapped, unmapped}
use Rattle.hay_logical.specs.Volumes.{IsOfSettings, IsOpenVolume, Volume}
use Rattle.hay_map.specs.MapRows.{MapRows}
use Rattle.hay_map.specs.Rows.{row_at}
use Rattle.hay_meeting.specs.declared.act.VolumeAct.{VolumeAct}
use Rattle.hay_meeting.specs.Acts.{nobody, volume_lock}
use Rattle.hay_meeting.specs.Locks.{Doing, past}
use Rattle.hay_meeting.proofs.Closing.{there}
use Rattle.hay_needle.specs.declared.needle.Pair.{Pair}
use Rattle.hay_turn.specs.Acts.{AllBelow, acts_of}
use Rattle.hay_turn.specs.Seats.{AreAll, AreNew as AreNewTurns, Closes as Ends, SeatState, TurnId, new_seat as new_turn}
use Rattle.hay_views.specs.declared.places.Published.{Published}
use Rattle.hay_views.specs.MapPasts.{AllFit, MapPast, begun_at, entered_by}
use Rattle.hay_volume_lock.specs.Ended.{ended_at}
use Rattle.hay_volume_lock.specs.Keeping.{IsKept, IsOpened, published_row}
use Rattle.hay_volume_lock.specs.Opening.{AreSeated, Closes, IsFirst, PlaceFront, ShowsFirst}
use Rattle.hay_volume_lock.specs.Seats.{AreNew, IsSeated, Seated, new_seat}
use Rattle.hay_volume_lock.specs.declared.guarded.Guarded.{Guarded}
use Rattle.hay_volume_lock.specs.declared.guarded.Opened.{Opened}
use Rattle.hay_volume_lock.specs.Rows.{RowsTell}
use Rattle.hay_volume_lock.proofs.Holding.{entered_prefix, seat_of}
use Rattle.hay_volume_lock.proofs.Telling.{first_tell}

abbrev pub View : Type 0 → Type 0 → Type 0
View D P = Witness (MapPast P (Volume D P)) (Volume D P) (Published P)

volume_in : {M B : Type 0} → B → Option (M × B) → B
volume_in d None = d
volume_in d (Some both) = both.1

-- no act lies in none
none_past : {A : Type 0} (doing : Doing A) → IsPrefix (past doing) [] → ⊥
none_past doing begins = none doing.held doing.act begins.0 begins.1
  where
    none : {A : Type 0} (held : List A) (act : A) (more : List A) → (held ++ act ∷ []) ++ more ≡ [] → ⊥
    none [] act more is = absurd cc
    none (x ∷ xs) act more is = absurd cc

pub none_left : {A : Type 0} (xs : List A) → length xs ≡ 0 → xs ≡ []
none_left [] none = refl
none_left (x ∷ xs) none = absurd cc

-- all were taken apart
pub all_turned : {A B : Type 0} (f : A → B) (turns : List B) (rest whole : List A) → turns ++ map f rest ≡ map f whole → length rest ≡ 0 → turns ≡ map f whole
all_turned f turns rest whole are none = sym (append-nil turns) ∙ ap (λ l. turns ++ map f l) (sym (none_left rest none)) ∙ are

copied : {A : Type 0} → (n : ℕ) (x : A) (i : ℕ) (y : A) → slice_get (replicate n x) i ≡ Some y → y ≡ x
copied zero x i y e = absurd cc
copied (suc n) x zero y e = cc e
copied (suc n) x (suc i) y e = copied n x i y e

-- both views are of the rows
pub first_two : {D P E : Type 0} (volume : Volume D P) (rows : MapRows P) (result : Result (MapPast P (Volume D P) × MapPast P (Volume D P)) E) → rows.replicas ≡ (volume.settings).replicas
    → ((pair : Pair) → row_at rows pair ≡ row_at volume.rows pair) → IfOk result (λ views. (views.0 ≡ begun_at volume rows) × (views.1 ≡ begun_at volume rows))
    → IfOk result (λ views. IsFirst volume views.0 × (views.1 ≡ views.0))
first_two volume rows (Ok views) width same is = (record { rows = rows; width = width; same = same; is = is.0 }, is.1 ∙ sym is.0)
first_two volume rows (Err error) width same is = tt

-- what the front is told of them, and what it then shows
module _ {D P : Type 0} (Tells : Type 0) (files : D → Files) (PieceTells : Type 0) (volume : Volume D P) (view : MapPast P (Volume D P)) (first : IsFirst volume view) where
  abbrev Told : Volume D P → Type 0
  Told b = (b ≡ view.start) × AllFit view [] × RowsTell Tells files PieceTells view []

  pub first_fact : (faults fuses : D → ℕ) → length volume.replicas ≡ (volume.settings).replicas → (b : Volume D P) × Told b
  first_fact faults fuses all = (
    view.start,
    (
      refl,
      tt,
      subst (λ (m : MapPast P (Volume D P)). RowsTell Tells files PieceTells m []) (sym first.is)
          (first_tell Tells files PieceTells faults fuses volume first.rows all first.same),
    ),
  )

  pub shows_first : {V E : Type 0} (seats : ℕ) (items_of : V → List (View D P)) (result : Result (PlaceFront D P × V) E)
      → IfOk result (λ r. (b : Volume D P) × Told b × (((r.0).shown).base ≡ Some (view, b)) × (((r.0).shown).deeds ≡ []) × ((r.0).closed ≡ false) × ((r.0).log ≡ [])
      × (items_of r.1 ≡ replicate seats (r.0).shown))
      → IfOk result (λ r. ShowsFirst volume r.0 × (items_of r.1 ≡ replicate seats (r.0).shown))
  shows_first seats items_of (Ok r) (b, fact, base, blank, serves, log, all) = (
    record {
      past = view;
      first = first;
      base = base ∙ ap (λ (v : Volume D P). Some (view, v)) (fact.0 ∙ ap (λ (m : MapPast P (Volume D P)). m.start) first.is);
      blank = blank;
      log = log;
      serves = serves;
    },
    all,
  )
  shows_first seats items_of (Err error) is = tt

pub all_nobody : (j : ℕ) → slice_index_or (nobody ∷ nobody ∷ nobody ∷ nobody ∷ []) j nobody ≡ nobody
all_nobody zero = refl
all_nobody (suc zero) = refl
all_nobody (suc (suc zero)) = refl
all_nobody (suc (suc (suc zero))) = refl
all_nobody (suc (suc (suc (suc j)))) = refl

module _ {D P : Type 0} (Tells : Type 0) (files : D → Files) (PieceTells : Type 0) (faults fuses : D → ℕ) where
  -- WHERE IT IS MADE

  module _ (kept : Guarded D P) (of : IsOfSettings (kept.logical).settings (kept.logical).number) (is_open : IsOpenVolume kept.logical) (shows : ShowsFirst kept.logical kept.front) where
    abbrev opened : Opened D P
    opened = record { volume = kept.logical; view = (kept.front).shown }

    first_opened : IsOpened opened
    first_opened = record {
      of = of;
      is_open = is_open;
      rows = (shows.first).rows;
      base = shows.base ∙ ap (λ (m : MapPast P (Volume D P)). Some (m, kept.logical)) (shows.first).is;
      width = (shows.first).width;
    }

    pub opens : kept.settings ≡ (kept.logical).settings → ((j : ℕ) → slice_index_or kept.begun j nobody ≡ nobody) → ((j lane : ℕ) → ended_at kept.ended j lane ≡ None)
        → (o : Opened D P) × IsKept Tells files PieceTells faults fuses o [] kept
    unfolding first_opened
    opens settings begun ended = (
      opened,
      record {
        from = first_opened;
        settings = settings;
        same_settings = refl;
        number = refl;
        is_open = is_open;
        stands = λ tells k s. s;
        follows = λ tells k s. tt;
        sized = tt;
        fault_counts = λ k j. refl;
        fuse_counts = λ k j. refl;
        fuses_stay = λ none j. refl;
        rises = λ j. omega arith;
        front = refl;
        base = refl;
        entered = ap entered_by shows.blank;
        serves = λ thawed. shows.serves;
        rows =
            λ thawed pair. subst (λ (deeds : List (Published P)). published_row kept.logical (shows.first).rows deeds pair ≡ row_at (kept.logical).rows pair) (sym shows.blank)
            ((shows.first).same pair);
        tags = ap (λ l. map (λ e. e.tag) l) shows.log;
        lanes = tt;
        begun = λ j less. begun j;
        ended = λ j lane less few. ended j lane;
        owned = λ doing begins. absurd (none_past doing begins);
        cuts = λ tells k s doing begins. absurd (none_past doing begins);
        tight = λ tells thawed k s j doing begins. absurd (none_past doing begins);
      },
    )

    -- what stood where it was made is no other volume
    pub opened_is : (o : Opened D P) → IsKept Tells files PieceTells faults fuses o [] kept → o.volume ≡ kept.logical
    unfolding volume_in
    opened_is o h = ap (λ b. volume_in kept.logical b) (sym (h.from).base ∙ sym h.base ∙ shows.base)

-- THE SEATS, one after another

module _ {D P : Type 0} where
  -- these are the first of so many seats, and those parts are left of the rest
  pub record Seating (lock : TurnId) (volume : Volume D P) (n stood : ℕ) (lanes : List (Seated D P)) (turns : List (SeatState (Opened D P) VolumeAct)) (views : List (View D P)) : Type 0 where
    pub opened : Opened D P
    pub from : IsOpened opened
    pub is : opened.volume ≡ volume
    pub stood_is : stood ≡ (opened.volume).front
    pub lanes_are : (i : ℕ) (s : Seated D P) → slice_get lanes i ≡ Some s → s ≡ new_seat lock opened n i
    pub turns_are : (i : ℕ) (t : SeatState (Opened D P) VolumeAct) → slice_get turns i ≡ Some t → t ≡ new_turn lock (Some opened) n (length lanes + i)
    pub views_are : (i : ℕ) (v : View D P) → slice_get views i ≡ Some v → (v.front ≡ (opened.view).front) × (v.base ≡ (opened.view).base) × (v.deeds ≡ [])
    pub many : length turns ≡ length views
    pub all : length lanes + length turns ≡ n

  module _ {lock : TurnId} {volume : Volume D P} {n stood : ℕ} {lanes : List (Seated D P)} {turns : List (SeatState (Opened D P) VolumeAct)} {views : List (View D P)} where
    -- the next one can be seated
    pub seated_next : (t : SeatState (Opened D P) VolumeAct) (v : View D P) → Seating lock volume n stood lanes (t ∷ turns) (v ∷ views) → IsSeated t stood v
    seated_next t v s =
        let is = s.turns_are 0 t refl in
        let view = s.views_are 0 v refl in
        record {
          opened = s.opened;
          is = ap (λ (z : SeatState (Opened D P) VolumeAct). z.start) is;
          from = s.from;
          stood_is = s.stood_is;
          front = view.0;
          base = view.1;
          own = subst (λ (z : SeatState (Opened D P) VolumeAct). acts_of volume_lock.seat z.number z.seen ≡ z.own) (sym is) refl;
        }

    pub seating_next : (t : SeatState (Opened D P) VolumeAct) (v : View D P) → Seating lock volume n stood lanes (t ∷ turns) (v ∷ views)
        → Seating lock volume n stood (lanes ++ seat_of t v ∷ []) turns views
    seating_next t v s =
        let is = s.turns_are 0 t refl in
        let view = s.views_are 0 v refl in
        let long : length (lanes ++ seat_of t v ∷ []) ≡ length lanes + 1 = length-append lanes (seat_of t v ∷ []) in
        let next : seat_of t v ≡ new_seat lock s.opened n (length lanes) =
        ap (λ (z : SeatState (Opened D P) VolumeAct). seat_of z v) is
        ∙ ap (λ (l : List Entry). record (new_seat lock s.opened n (length lanes + 0)) { sight = record { seen = []; own = []; shown = l } }) (ap entered_by view.2)
        ∙ ap (λ (i : ℕ). new_seat lock s.opened n i) (omega arith) in
        record {
          opened = s.opened;
          from = s.from;
          is = s.is;
          stood_is = s.stood_is;
          lanes_are = λ i x at. last_or lanes (seat_of t v) (λ i x. x ≡ new_seat lock s.opened n i) s.lanes_are next i x at;
          turns_are =
              λ i x at. s.turns_are (suc i) x at ∙ ap (λ (m : ℕ). new_turn lock (Some s.opened) n m) (let h : length lanes + suc i ≡ length (lanes ++ seat_of t v ∷ []) + i = omega (arith, long) in h);
          views_are = λ i x at. s.views_are (suc i) x at;
          many = (let m = s.many in omega (arith, m));
          all = (let a = s.all in omega (arith, a, long));
        }
      where
        -- what holds of each at its place holds with one more behind
        last_or : {A : Type 0} (xs : List A) (x : A) (P : ℕ → A → Type 0) → ((i : ℕ) (y : A) → slice_get xs i ≡ Some y → P i y) → P (length xs) x
            → (i : ℕ) (y : A) → slice_get (xs ++ x ∷ []) i ≡ Some y → P i y
        last_or [] x P each here zero y at = subst (λ z. P 0 z) (cc at) here
        last_or [] x P each here (suc i) y at = absurd cc
        last_or (z ∷ zs) x P each here zero y at = each 0 y at
        last_or (z ∷ zs) x P each here (suc i) y at = last_or zs x (λ i. P (suc i)) (λ i. each (suc i)) here i y at

  pub seating_ends : {lock : TurnId} {volume : Volume D P} {n stood : ℕ} {lanes : List (Seated D P)} {views : List (View D P)} → Seating lock volume n stood lanes [] views → AreNew lock volume n lanes
  seating_ends s = record { opened = s.opened; from = s.from; own = s.is; count = (let a = s.all in omega (arith, a)); each = s.lanes_are }

  -- where none is seated yet
  pub seating_begins : {lock : TurnId} {n stood : ℕ} (kept : Guarded D P) (o : Opened D P) → IsOpened o → o.volume ≡ kept.logical → stood ≡ (kept.logical).front
      → ((kept.front).shown).front ≡ (o.view).front → ((kept.front).shown).base ≡ (o.view).base → ((kept.front).shown).deeds ≡ []
      → {turns : List (SeatState (Opened D P) VolumeAct)} {views : List (View D P)} → AreNewTurns lock (Some o) n turns → length turns ≡ n → views ≡ replicate n (kept.front).shown
      → Seating lock kept.logical n stood [] turns views
  seating_begins {lock} {n} kept o from is stood front base blank {turns} {views} new many all = record {
    opened = o;
    from = from;
    is = is;
    stood_is = stood ∙ ap (λ (v : Volume D P). v.front) (sym is);
    lanes_are = λ i s at. absurd cc;
    turns_are = λ i t at. new i t at ∙ ap (λ (m : ℕ). new_turn lock (Some o) n m) (let h : i ≡ 0 + i = omega arith in h);
    views_are = λ i v at.
        let same : v ≡ (kept.front).shown = copied n (kept.front).shown i v (ap (λ l. slice_get l i) (sym all) ∙ at) in
        (ap (λ (w : View D P). w.front) same ∙ front, ap (λ (w : View D P). w.base) same ∙ base, ap (λ (w : View D P). w.deeds) same ∙ blank);
    many = many ∙ sym (ap length all ∙ length-replicate n (kept.front).shown);
    all = (let h : 0 + length turns ≡ n = omega (arith, many) in h);
  }

-- WHERE IT ENDS

module _ {D P : Type 0} where
  -- its seat at the turn
  abbrev pub turn_of : Seated D P → SeatState (Opened D P) VolumeAct
  turn_of s = record { turn = s.lock; number = s.number; seats = s.seats; start = s.start; seen = (s.sight).seen; own = (s.sight).own; holds = s.holds }

  -- its seat at the view
  pub record IsViewOf (view : View D P) (s : Seated D P) : Type 0 where
    pub turn : SeatState (Opened D P) VolumeAct
    pub stood : ℕ
    pub seated : IsSeated turn stood view
    pub start : turn.start ≡ s.start
    pub shown : entered_by view.deeds ≡ (s.sight).shown

  abbrev pub AreViews : List (View D P) → List (Seated D P) → Type 0
  AreViews [] [] = Unit {0}
  AreViews (v ∷ vs) (s ∷ ss) = IsViewOf v s × AreViews vs ss
  AreViews [] (s ∷ ss) = ⊥
  AreViews (v ∷ vs) [] = ⊥

  -- so far, of all seats
  pub record Viewing (views : List (View D P)) (rest seats : List (Seated D P)) : Type 0 where
    pub past : List (Seated D P)
    pub are : past ++ rest ≡ seats
    pub each : AreViews views past

  more_views : (views : List (View D P)) (past : List (Seated D P)) (v : View D P) (s : Seated D P) → AreViews views past → IsViewOf v s → AreViews (views ++ v ∷ []) (past ++ s ∷ [])
  more_views [] [] v s each is = (is, tt)
  more_views (w ∷ ws) (z ∷ zs) v s each is = (each.0, more_views ws zs v s each.1 is)
  more_views [] (z ∷ zs) v s each is = absurd each
  more_views (w ∷ ws) [] v s each is = absurd each

  pub viewing_next : (views : List (View D P)) (rest seats : List (Seated D P)) (v : View D P) (s : Seated D P) → Viewing views (s ∷ rest) seats → IsViewOf v s → Viewing (views ++ v ∷ []) rest seats
  viewing_next views rest seats v s viewing is = record {
    past = viewing.past ++ s ∷ [];
    are = append_assoc viewing.past (s ∷ []) rest ∙ viewing.are;
    each = more_views views viewing.past v s viewing.each is;
  }

  pub viewing_ends : (views : List (View D P)) (rest seats : List (Seated D P)) → Viewing views rest seats → length rest ≡ 0 → AreViews views seats
  viewing_ends views rest seats viewing none =
      subst (λ (l : List (Seated D P)). AreViews views l) (sym (append-nil viewing.past) ∙ ap (λ l. viewing.past ++ l) (sym (none_left rest none)) ∙ viewing.are) viewing.each

  -- each is of the front that stands behind the lock
  pub all_of_front : (opened : Opened D P) (shown : View D P) (views : List (View D P)) (seats : List (Seated D P)) → AreViews views seats
      → ((i : ℕ) (s : Seated D P) → slice_get seats i ≡ Some s → s.start ≡ Some opened)
      → shown.front ≡ (opened.view).front → Each (λ v. v.front ≡ shown.front) views
  all_of_front opened shown [] seats are starts front = tt
  all_of_front opened shown (v ∷ vs) [] are starts front = absurd are
  all_of_front opened shown (v ∷ vs) (s ∷ ss) are starts front =
      let same : ((are.0).seated).opened ≡ opened = cc (((are.0).seated).is, (are.0).start, starts 0 s refl) in
      (((are.0).seated).front ∙ ap (λ (o : Opened D P). (o.view).front) same ∙ sym front, all_of_front opened shown vs ss are.1 (λ i. starts (suc i)) front)

  all_shown : (shown : View D P) (views : List (View D P)) (seats : List (Seated D P)) → AreViews views seats → Each (λ v. IsBehind v shown) views
      → (i : ℕ) (s : Seated D P) → slice_get seats i ≡ Some s → IsPrefix (s.sight).shown (entered_by shown.deeds)
  all_shown shown [] [] are behind i s at = absurd cc
  all_shown shown [] (z ∷ zs) are behind i s at = absurd are
  all_shown shown (v ∷ vs) [] are behind i s at = absurd are
  all_shown shown (v ∷ vs) (z ∷ zs) are behind zero s at =
      let same : z ≡ s = cc at in
      subst (λ (x : Seated D P). IsPrefix (x.sight).shown (entered_by shown.deeds)) same
      (subst (λ (l : List Entry). IsPrefix l (entered_by shown.deeds)) (are.0).shown (entered_prefix v.deeds shown.deeds ((behind.0).2)))
  all_shown shown (v ∷ vs) (z ∷ zs) are behind (suc i) s at = all_shown shown vs zs are.1 behind.1 i s at

  module _ {lock : TurnId} {opened : Opened D P} {seats : List (Seated D P)} (are : AreSeated lock opened seats) {turns : List (SeatState (Opened D P) VolumeAct)}
      (turns_are : turns ≡ map turn_of seats) where
    many_turns : length turns ≡ length seats
    many_turns = ap length turns_are ∙ length-map seats turn_of

    pub all_seats : AreAll lock turns
    all_seats = (
      subst (λ n. 0 < n) (sym many_turns) are.some,
      λ i s at.
          let found = unmapped turn_of seats i s (ap (λ l. slice_get l i) (sym turns_are) ∙ at) in
          let one = are.each i found.0 found.1 in
          let same = sym found.2 in (
            ap (λ (z : SeatState (Opened D P) VolumeAct). z.turn) same ∙ (one.rests).own,
            ap (λ (z : SeatState (Opened D P) VolumeAct). z.number) same ∙ one.number,
            ap (λ (z : SeatState (Opened D P) VolumeAct). z.seats) same ∙ one.seats ∙ sym many_turns,
            ap (λ (z : SeatState (Opened D P) VolumeAct). z.holds) same ∙ (one.rests).rests,
          ),
    )

    pub kept_front : (Tells : Type 0) (files : D → Files) (PieceTells : Type 0) (faults fuses : D → ℕ) (kept : Guarded D P)
        → Ends (λ a. a.seat) (λ o acts x. IsKept Tells files PieceTells faults fuses o acts x) turns kept
        → (views : List (View D P)) → AreViews views seats → Each (λ v. v.front ≡ ((kept.front).shown).front) views
    kept_front Tells files PieceTells faults fuses kept ends views viewed =
        let first = there seats 0 (omega (arith, are.some)) in
        let turn_at : slice_get turns 0 ≡ Some (turn_of first.0) = ap (λ l. slice_get l 0) turns_are ∙ mapped turn_of seats 0 first.0 first.1 in
        all_of_front opened (kept.front).shown views seats viewed (λ i s at. (are.each i s at).start)
        (ends.stands_for (turn_of first.0) turn_at opened (are.each 0 first.0 first.1).start).front

    pub closes : (Tells : Type 0) (files : D → Files) (PieceTells : Type 0) (faults fuses : D → ℕ) (kept : Guarded D P) (tags : List Tag)
        → Ends (λ a. a.seat) (λ o acts x. IsKept Tells files PieceTells faults fuses o acts x) turns kept → tags ≡ map (λ e. e.tag) (kept.front).log
        → (views : List (View D P)) → AreViews views seats → Each (λ v. IsBehind v (kept.front).shown) views
        → Closes Tells files PieceTells faults fuses opened seats kept.logical tags
    closes Tells files PieceTells faults fuses kept tags ends tags_are views viewed behind =
        let turn_at : (i : ℕ) (s : Seated D P) → slice_get seats i ≡ Some s → slice_get turns i ≡ Some (turn_of s) =
        λ i s at. ap (λ l. slice_get l i) turns_are ∙ mapped turn_of seats i s at in
        let first = there seats 0 (omega (arith, are.some)) in
        let stands : IsKept Tells files PieceTells faults fuses opened ends.history kept =
        ends.stands_for (turn_of first.0) (turn_at 0 first.0 first.1) opened (are.each 0 first.0 first.1).start in
        record {
          history = ends.history;
          own = λ i s at. ends.own i (turn_of s) (turn_at i s at);
          below = subst (λ n. AllBelow volume_lock.seat n ends.history) many_turns ends.below;
          seen = λ i s at. ends.seen i (turn_of s) (turn_at i s at);
          shown = λ i s at. subst (λ (l : List Entry). IsPrefix (s.sight).shown l) stands.entered (all_shown (kept.front).shown views seats viewed behind i s at);
          kept = kept;
          stands = stands;
          is = refl;
          tags_are = tags_are ∙ stands.tags;
        }
