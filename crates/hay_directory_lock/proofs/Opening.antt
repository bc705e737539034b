-- The lock where it is made, and where it ends.
use Rattle.std.proofs.Common.{◌≡◌, ◌<◌, ℕ, zero, suc, false, List, [], ◌∷◌, length, map, replicate, slice_get, Some, refl, sym, ap, subst, ◌∙◌, arith}
use Rattle.std.specs.List.{AllByRecursion as Each}
use Rattle.std.proofs.lemmas.List.{length-map}
use mathlib.Core.List.{IsPrefix}
use Rattle.hay_needle.specs.declared.settings.Settings.{Settings}
use Rattle.hay_disk.specs.Disk.{Files}
use Rattle.hay_legal.specs.declared.known.HomeRow.{HomeRow}
use Rattle.hay_front.specs.Fronts.{IsBehind}
use Rattle.hay_front.specs.declared.front.Tag.{Tag}
use Rattle.hay_turn.specs.Acts.{AllBelow}
use Rattle.hay_turn.specs.Seats.{AreAll, AreNew, Closes as Ends, SeatState, new_seat}
use Rattle.hay_lanes.proofs.Results.{mapped, unmapped}
use Rattle.hay_meeting.specs.declared.act.DirAct.{DirAct}
use Rattle.hay_meeting.specs.Acts.{row_lock}
use Rattle.hay_meeting.proofs.Closing.{there}
use Rattle.hay_directory.specs.State.{IsUp, State}
use Rattle.hay_views.specs.HomeLooks.{HomesShown, rows_among}
use Rattle.hay_views.proofs.HomeTables.{homes_listed}
use Rattle.hay_directory_lock.specs.Begun.{BegunAt}
use Rattle.hay_directory_lock.specs.Opening.{AreNewSeats, AreSeated, Closes}
use Rattle.hay_directory_lock.specs.Seats.{DirectorySeatState, LockState}
use Rattle.hay_directory_lock.specs.Standing.{HomeFront, KeptFor}

copied : {A : Type 0} → (n : ℕ) (x : A) (i : ℕ) (y : A) → slice_get (replicate n x) i ≡ Some y → y ≡ x
copied zero x i y e = absurd cc
copied (suc n) x zero y e = cc e
copied (suc n) x (suc i) y e = copied n x i y e

each_at : {A : Type 0} (P : A → Type 0) (xs : List A) (i : ℕ) (x : A) → Each P xs → slice_get xs i ≡ Some x → P x
each_at P [] i x each at = absurd cc
each_at P (y ∷ ys) zero x each at = subst P (cc at) each.0
each_at P (y ∷ ys) (suc i) x each at = each_at P ys i x each.1 at

each_by : {A : Type 0} (P : A → Type 0) (xs : List A) → ((i : ℕ) (x : A) → slice_get xs i ≡ Some x → P x) → Each P xs
each_by P [] is = tt
each_by P (x ∷ xs) is = (is 0 x refl, each_by P xs (λ i. is (suc i)))

module _ {D : Type 0} (Tells : Type 0) (files : D → Files) (faults fuses : D → ℕ) where
  -- WHERE IT IS MADE

  module _ {d : State D} {settings : Settings} (same : d.settings ≡ settings) {f : HomeFront} where
    pub opens : IsUp d → (f.shown).base ≡ Some (record { volumes = settings.volumes; rows = rows_among d.homes }, tt) → (f.shown).deeds ≡ [] → f.log ≡ [] → f.closed ≡ false
        → (begun : BegunAt D) × KeptFor Tells files faults fuses begun [] d f
    opens up base none no_log open_to = (
      record { directory = d; view = f.shown },
      record {
        from = record {
          up = up;
          homes = record { volumes = settings.volumes; rows = rows_among d.homes };
          base = base;
          volumes = ap (λ (s : Settings). s.volumes) (sym same);
          same = λ pair. homes_listed d.homes pair;
        };
        of = record {
          settings = refl;
          up = up;
          untouched = λ none. refl;
          mode = refl;
          told = λ tells s stands. stands;
          known = λ s is. is;
          counted = λ s is. is;
          follows = λ s at. tt;
          rises = omega arith;
          fuses_stay = λ none. refl;
        };
        front_is = refl;
        base = refl;
        shown = none;
        tags = ap (λ l. map (λ e. e.tag) l) no_log;
        serves = λ thawed. open_to;
      },
    )

    -- what stood where it was made is no other Directory
    pub begun_is : (begun : BegunAt D) → KeptFor Tells files faults fuses begun [] d f → begun.directory ≡ d
    begun_is begun k = sym ((k.of).untouched refl)

    pub new_seats : (lock : LockState) (begun : BegunAt D) (k : KeptFor Tells files faults fuses begun [] d f) (turns : List (SeatState (BegunAt D) DirAct)) (views : List HomesShown)
        (seats : List (DirectorySeatState D))
        → lock.settings ≡ settings → lock.stood ≡ d.count → 0 < lock.seats → (f.shown).deeds ≡ [] → AreNew lock.turn (Some begun) lock.seats turns → length turns ≡ lock.seats
        → views ≡ replicate lock.seats f.shown
        → map (λ seat. seat.turn) seats ≡ turns → map (λ seat. seat.view) seats ≡ views → AreNewSeats lock begun seats
    new_seats lock begun k turns views seats settings_is stood some none fresh many all turns_are views_are =
        let turn_at : (lane : ℕ) (seat : DirectorySeatState D) → slice_get seats lane ≡ Some seat → seat.turn ≡ new_seat lock.turn (Some begun) lock.seats lane =
        λ lane seat at. fresh lane seat.turn (ap (λ l. slice_get l lane) (sym turns_are) ∙ mapped (λ (s : DirectorySeatState D). s.turn) seats lane seat at) in
        let view_at : (lane : ℕ) (seat : DirectorySeatState D) → slice_get seats lane ≡ Some seat → seat.view ≡ f.shown =
        λ lane seat at. copied lock.seats f.shown lane seat.view (ap (λ l. slice_get l lane) (sym all ∙ sym views_are) ∙ mapped (λ (s : DirectorySeatState D). s.view) seats lane seat at) in
        record {
          seated = record {
            many = sym (length-map seats (λ (s : DirectorySeatState D). s.turn)) ∙ ap length turns_are ∙ many;
            some = some;
            each = λ lane seat at. record {
              turn_is = ap (λ (s : SeatState (BegunAt D) DirAct). s.turn) (turn_at lane seat at);
              seats = ap (λ (s : SeatState (BegunAt D) DirAct). s.seats) (turn_at lane seat at);
              number = ap (λ (s : SeatState (BegunAt D) DirAct). s.number) (turn_at lane seat at);
              start = ap (λ (s : SeatState (BegunAt D) DirAct). s.start) (turn_at lane seat at);
              rests = ap (λ (s : SeatState (BegunAt D) DirAct). s.holds) (turn_at lane seat at);
              from = k.from;
              settings = sym (k.of).settings ∙ same ∙ sym settings_is;
              stood = ap (λ (x : State D). x.count) (begun_is begun k) ∙ sym stood;
              front = ap (λ (w : HomesShown). w.front) (view_at lane seat at) ∙ k.front_is;
              base = ap (λ (w : HomesShown). w.base) (view_at lane seat at) ∙ k.base;
            };
          };
          blank = λ lane seat at.
              let seen = ap (λ (s : SeatState (BegunAt D) DirAct). s.seen) (turn_at lane seat at) in
              let own = ap (λ (s : SeatState (BegunAt D) DirAct). s.own) (turn_at lane seat at) in
              let shown = ap (λ (w : HomesShown). w.deeds) (view_at lane seat at) ∙ none in
              λ i. record { seen = seen i; own = own i; shown = shown i };
        }

  -- WHERE IT ENDS

  module _ {lock : LockState} {begun : BegunAt D} {seats : List (DirectorySeatState D)} (are : AreSeated lock begun seats) {turns : List (SeatState (BegunAt D) DirAct)}
      (turns_are : turns ≡ map (λ seat. seat.turn) seats) where
    many_turns : length turns ≡ lock.seats
    many_turns = ap length turns_are ∙ length-map seats (λ (s : DirectorySeatState D). s.turn) ∙ are.many

    pub all_seats : AreAll lock.turn turns
    all_seats = (
      subst (λ n. 0 < n) (sym many_turns) are.some,
      λ i s at.
          let found = unmapped (λ (z : DirectorySeatState D). z.turn) seats i s (ap (λ l. slice_get l i) (sym turns_are) ∙ at) in
          let seat = are.each i found.0 found.1 in
          let same = sym found.2 in (
            ap (λ (z : SeatState (BegunAt D) DirAct). z.turn) same ∙ seat.turn_is,
            ap (λ (z : SeatState (BegunAt D) DirAct). z.number) same ∙ seat.number,
            ap (λ (z : SeatState (BegunAt D) DirAct). z.seats) same ∙ seat.seats ∙ sym many_turns,
            ap (λ (z : SeatState (BegunAt D) DirAct). z.holds) same ∙ seat.rests,
          ),
    )

    module _ {Y : Type 0} (directory_of : Y → State D) (front_of : Y → HomeFront) (y : Y)
        (ends : Ends (λ a. a.seat) (λ begun acts x. KeptFor Tells files faults fuses begun acts (directory_of x) (front_of x)) turns y) {views : List HomesShown}
        (views_are : views ≡ map (λ seat. seat.view) seats) where
      turn_at : (lane : ℕ) (seat : DirectorySeatState D) → slice_get seats lane ≡ Some seat → slice_get turns lane ≡ Some seat.turn
      turn_at lane seat at = ap (λ l. slice_get l lane) turns_are ∙ mapped (λ (s : DirectorySeatState D). s.turn) seats lane seat at

      kept_then : KeptFor Tells files faults fuses begun ends.history (directory_of y) (front_of y)
      kept_then =
          let first = there seats 0 (omega (arith, are.some, are.many)) in
          ends.stands_for (first.0).turn (turn_at 0 first.0 first.1) begun (are.each 0 first.0 first.1).start

      -- each view is of the front
      pub views_of : Each (λ (v : HomesShown). v.front ≡ ((front_of y).shown).front) views
      views_of = each_by (λ (v : HomesShown). v.front ≡ ((front_of y).shown).front) views (λ i v at.
          let found = unmapped (λ (z : DirectorySeatState D). z.view) seats i v (ap (λ l. slice_get l i) (sym views_are) ∙ at) in
          ap (λ (w : HomesShown). w.front) (sym found.2) ∙ (are.each i found.0 found.1).front ∙ sym kept_then.front_is)

      pub closes : (tags : List Tag) → Each (λ (v : HomesShown). IsBehind v (front_of y).shown) views → tags ≡ map (λ e. e.tag) (front_of y).log
          → Closes Tells files faults fuses lock begun seats (directory_of y) tags
      closes tags behind tags_are = record {
        history = ends.history;
        own = λ lane seat at. ends.own lane seat.turn (turn_at lane seat at);
        below = subst (λ n. AllBelow row_lock.seat n ends.history) (many_turns ∙ sym are.many) ends.below;
        seen = λ lane seat at. ends.seen lane seat.turn (turn_at lane seat at);
        shown = λ lane seat at.
            let view_at : slice_get views lane ≡ Some seat.view = ap (λ l. slice_get l lane) views_are ∙ mapped (λ (s : DirectorySeatState D). s.view) seats lane seat at in
            subst (λ (l : List HomeRow). IsPrefix (seat.view).deeds l) kept_then.shown (each_at (λ (v : HomesShown). IsBehind v (front_of y).shown) views lane seat.view behind view_at).2;
        stands = kept_then.of;
        tags_are = tags_are ∙ kept_then.tags;
      }
