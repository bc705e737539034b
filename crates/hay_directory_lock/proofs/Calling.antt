-- What a call tells of the seat that made it.
use Rattle.std.proofs.Common.{◌≡◌, inl, inr, ◌+◌, ℕ, Bool, true, false, List, [], ◌∷◌, ◌++◌, length, filter, Option, Some, None, Ok, Err, refl, sym, ap, subst, ◌∙◌, append-nil, length-append, arith}
use Rattle.std.specs.List.{AllByRecursion as Each}
use Rattle.std.specs.Option.{option_or}
use mathlib.Core.List.{IsPrefix}
use Rattle.hay_needle.specs.declared.needle.Pair.{Pair}
use Rattle.hay_disk.specs.Disk.{Files}
use Rattle.hay_core.specs.declared.entry.CoreTag.{CoreTag}
use Rattle.hay_legal.specs.declared.known.HomeRow.{HomeRow}
use Rattle.hay_legal.specs.Known.{home_in}
use Rattle.hay_history.specs.LaneSteps.RowDid.{AddsRow}
use Rattle.hay_turn.specs.Acts.{AllOf}
use Rattle.hay_turn.specs.Seats.{Holds, MayFree, SeatState, after_free}
use Rattle.hay_turn.specs.Slots.{acts_in}
use Rattle.hay_front.specs.Fronts.{IsBehind, RowOf}
use Rattle.hay_meeting.specs.declared.act.DirAct.{DirAct}
use Rattle.hay_meeting.specs.declared.act.DirDid.{DirDid}
use Rattle.hay_meeting.specs.declared.act.DirDid.TheVariants as did
use Rattle.hay_meeting.specs.Acts.{Start, row_did_of, row_lock, row_of}
use Rattle.hay_meeting.specs.Locks.{LockSight, add_shown, entries}
use Rattle.hay_meeting.proofs.Replays.{entries_append}
use Rattle.hay_meeting.proofs.Standings.{rows_behind_acts}
use Rattle.hay_holdings.specs.Holdings.{Holding, sight_of}
use Rattle.hay_holdings.specs.Rows.{HomeShown, MadeRow, rows_found}
use Rattle.hay_holdings.proofs.Calls.{held_by_seat}
use Rattle.hay_directory.proofs.HomeLaws.{home_in-append}
use Rattle.hay_directory.specs.State.{State}
use Rattle.hay_directory.specs.declared.fault.DirFault.{DirFault}
use Rattle.hay_directory.specs.declared.fault.DirFault.TheVariants as refusal
use Rattle.hay_directory_lock.specs.Answers.{Settles, SettlesAs}
use Rattle.hay_views.specs.HomeLooks.{HomesShown, IsHomeOf, with_row}
use Rattle.hay_views.proofs.HomeLaw.{home_looked}
use Rattle.hay_directory_lock.specs.Begun.{BegunAt}
use Rattle.hay_directory_lock.specs.Seats.{DirectorySeatState, IsSeated, LockState, sight}
use Rattle.hay_directory_lock.specs.Standing.{HomeFront, KeptFor, StandsAt}
use Rattle.hay_directory_lock.proofs.Answering.{all_counted}

-- each act is of the line, and of its seat
abbrev pub AreOf : CoreTag → List DirAct → Type 0
AreOf tag acts = Each (λ act. (act.tag ≡ tag) × (act.seat ≡ tag.lane)) acts

mine : (tag : CoreTag) (number : ℕ) (acts : List DirAct) → number ≡ tag.lane → AreOf tag acts → AllOf (λ a. a.seat) number acts
mine tag number [] is of = tt
mine tag number (act ∷ acts) is of = (of.0.1 ∙ sym is, mine tag number acts is of.1)

their_tags : (tag : CoreTag) (acts : List DirAct) → AreOf tag acts → Each (λ act. act.tag ≡ tag) acts
their_tags tag [] of = tt
their_tags tag (act ∷ acts) of = (of.0.0, their_tags tag acts of.1)

their_seats : (tag : CoreTag) (acts : List DirAct) → AreOf tag acts → Each (λ act. act.seat ≡ tag.lane) acts
their_seats tag [] of = tt
their_seats tag (act ∷ acts) of = (of.0.1, their_seats tag acts of.1)

-- A HOLDING

-- what of a seat is said of its seat at the turn
record IsTurnAt {D : Type 0} (lock : LockState) (begun : BegunAt D) (lane : ℕ) (holds : Bool) (seat : SeatState (BegunAt D) DirAct) : Type 0 where
  turn_is : seat.turn ≡ lock.turn
  seats : seat.seats ≡ lock.seats
  number : seat.number ≡ lane
  start : seat.start ≡ Some begun
  holds_is : seat.holds ≡ holds

module _ {D Y : Type 0} (Tells : Type 0) (files : D → Files) (faults fuses : D → ℕ) (directory_of : Y → State D) (front_of : Y → HomeFront) where
  abbrev Stood : BegunAt D → List DirAct → Y → Type 0
  Stood begun acts y = KeptFor Tells files faults fuses begun acts (directory_of y) (front_of y)

  module _ {lock : LockState} {begun : BegunAt D} {lane : ℕ} {seat : DirectorySeatState D} (seated : IsSeated lock begun lane seat) {mid : SeatState (BegunAt D) DirAct} {y : Y}
      (held : Holds (λ a. a.seat) Stood seat.turn mid y) where
    pub kept_held : KeptFor Tells files faults fuses begun mid.seen (directory_of y) (front_of y)
    kept_held = held.stands_for begun seated.start

    pub view_held : (seat.view).front ≡ ((front_of y).shown).front
    view_held = seated.front ∙ sym kept_held.front_is

    pub settings_held : (directory_of y).settings ≡ lock.settings
    settings_held = (kept_held.of).settings ∙ seated.settings

    module _ (tag : CoreTag) {y' : Y} (made : Option DirAct) (by_lane : lane ≡ tag.lane) (of : AreOf tag (acts_in made))
        (kept : (begun : BegunAt D) (acts : List DirAct) → KeptFor Tells files faults fuses begun acts (directory_of y) (front_of y)
        → KeptFor Tells files faults fuses begun (acts ++ acts_in made) (directory_of y') (front_of y')) where
      pub may_free : MayFree (λ a. a.seat) Stood mid y' (acts_in made)
      may_free = record {
        stands_for = λ b is. kept b mid.seen (held.stands_for b (sym (ap (λ (s : SeatState (BegunAt D) DirAct). s.start) held.same) ∙ is));
        mine = mine tag mid.number (acts_in made) (ap (λ (s : SeatState (BegunAt D) DirAct). s.number) held.same ∙ seated.number ∙ by_lane) of;
      }

      module _ {new : SeatState (BegunAt D) DirAct} (freed : new ≡ after_free mid (acts_in made)) {view : HomesShown} (all : view ≡ (front_of y').shown) where
        kept_then : KeptFor Tells files faults fuses begun (mid.seen ++ acts_in made) (directory_of y') (front_of y')
        kept_then = kept begun mid.seen kept_held

        pub seated_still : IsSeated lock begun lane (record { turn = new; view = view })
        seated_still =
            let was = subst (λ (s : SeatState (BegunAt D) DirAct). IsTurnAt lock begun lane true s) (sym held.same)
            (record { turn_is = seated.turn_is; seats = seated.seats; number = seated.number; start = seated.start; holds_is = refl }) in
            let is = subst (λ (s : SeatState (BegunAt D) DirAct). IsTurnAt lock begun lane false s) (sym freed)
            (record { turn_is = was.turn_is; seats = was.seats; number = was.number; start = was.start; holds_is = refl }) in
            record {
              turn_is = is.turn_is;
              seats = is.seats;
              number = is.number;
              start = is.start;
              rests = is.holds_is;
              from = seated.from;
              settings = seated.settings;
              stood = seated.stood;
              front = ap (λ (w : HomesShown). w.front) all ∙ kept_then.front_is;
              base = ap (λ (w : HomesShown). w.base) all ∙ kept_then.base;
            }

        pub holding : IsBehind seat.view (front_of y).shown → Holding row_lock tag mid.seen made (sight seat) (sight (record { turn = new; view = view }))
        holding behind =
            let shown : view.deeds ≡ entries row_lock (mid.seen ++ acts_in made) = ap (λ (w : HomesShown). w.deeds) all ∙ kept_then.shown in
            let from : IsPrefix (seat.view).deeds (entries row_lock mid.seen) = subst (λ (l : List HomeRow). IsPrefix (seat.view).deeds l) kept_held.shown behind.2 in
            let here = held_by_seat row_lock {tag = tag} made held from (their_tags tag (acts_in made) of) (their_seats tag (acts_in made) of) in
            let there = subst (λ (s : SeatState (BegunAt D) DirAct). Holding row_lock tag mid.seen made (sight seat) (sight_of s (entries row_lock (mid.seen ++ acts_in made)))) (sym freed) here in
            subst (λ (l : List HomeRow). Holding row_lock tag mid.seen made (sight seat) (sight_of new l)) (sym shown) there

-- THE ANSWER FOR A ROW

one_shown : (d : DirDid) (row : HomeRow) → row_did_of d ≡ AddsRow row → length (add_shown (row_of d) []) ≡ 1
one_shown did.TriesRow row is = absurd cc
one_shown (did.AddsRow added) row is = refl
one_shown (did.PendsRow pending) row is = absurd cc
one_shown (did.Drains machine drained) row is = absurd cc
one_shown did.FusesRow row is = absurd cc

one_more : (held : List DirAct) (made : Option DirAct) (row : HomeRow) → MadeRow (AddsRow row) made → length (entries row_lock (held ++ acts_in made)) ≡ length (entries row_lock held) + 1
one_more held None row is = absurd is
one_more held (Some act) row is =
    ap length (entries_append row_lock held (act ∷ [])) ∙ length-append (entries row_lock held) (add_shown (row_of act.did) [])
    ∙ ap (λ n. length (entries row_lock held) + n) (one_shown act.did row is)

module _ (start : Start) (row : HomeRow) {tag : CoreTag} {held : List DirAct} {made : Option DirAct} {a b : LockSight DirAct HomeRow} (holding : Holding row_lock tag held made a b) where
  count_found : (stood published n : ℕ) → length ((start.directory).directory).rows ≡ stood → published ≡ length (entries row_lock held) → n ≡ stood + published → n ≡ length (rows_found start held)
  count_found stood published n first since all =
      omega (arith, first, since, all, ap length (rows_behind_acts start.directory held), length-append ((start.directory).directory).rows (entries row_lock held))

  pub told_home : (home stood published n : ℕ) → length ((start.directory).directory).rows ≡ stood → n ≡ stood + published → Settles start row (Ok (home, published)) held made
      → SettlesAs start row tag (Ok (home, n)) a b
  told_home home stood published n first all (since, inl found) =
      let same : length (entries row_lock (held ++ acts_in made)) ≡ length (entries row_lock held) = ap (λ m. length (entries row_lock (held ++ acts_in m))) found.0
      ∙ ap (λ (l : List DirAct). length (entries row_lock l)) (append-nil held) in
      inl (record { held = held; made = made; holding = holding; is = (found.0, found.1, count_found stood published n first (since ∙ same) all) })
  told_home home stood published n first all (since, inr new) =
      let before = count_found stood (length (entries row_lock held)) (stood + length (entries row_lock held)) first refl refl in
      let more = one_more held made row new.1 in
      inr (new.0, record { held = held; made = made; holding = holding; is = (new.1, new.2, omega (arith, since, more, all, before)) })

  pub told_refusal : (fault : DirFault) → Settles start row (Err fault) held made → SettlesAs start row tag (Err fault) a b
  told_refusal refusal.Frozen is = record { held = held; made = made; holding = holding; is = is }
  told_refusal refusal.NoMemory is = record { held = held; made = made; holding = holding; is = is }
  told_refusal (refusal.Failed faults) is = record { held = held; made = made; holding = holding; is = is }

-- A LOOK

-- the same homes are so with more rows behind
more_homes : (xs ys more : List HomeRow) (pair : Pair) → home_in xs pair ≡ home_in ys pair → home_in (xs ++ more) pair ≡ home_in (ys ++ more) pair
more_homes xs ys more pair same =
    home_in-append xs more pair ∙ ap (λ (home : Option ℕ). option_or home (home_in more pair)) same ∙ sym (home_in-append ys more pair)

module _ {D : Type 0} (faults fuses : D → ℕ) (start : Start) {lock : LockState} {begun : BegunAt D} {lane : ℕ} {seat : DirectorySeatState D} (seated : IsSeated lock begun lane seat)
    (at : StandsAt faults fuses begun.directory start.directory) where
  pub stood_first : length ((start.directory).directory).rows ≡ lock.stood
  stood_first = sym at.count ∙ seated.stood

  pub home_shown : (pair : Pair) (view : HomesShown) (published n : ℕ) (home : Option ℕ) → IsBehind seat.view view → published ≡ length (filter (λ (r : HomeRow). true) view.deeds)
      → n ≡ lock.stood + published
      → RowOf with_row IsHomeOf view pair home → HomeShown start pair n home (sight seat) (sight (record { turn = seat.turn; view = view }))
  home_shown pair view published n home behind counted all is = record {
    looked = record { seen = refl; own = refl; shown = behind.2 };
    front = omega (arith, all, counted, ap length (all_counted view.deeds), stood_first, length-append ((start.directory).directory).rows view.deeds);
    is = more_homes ((start.directory).directory).rows ((seated.from).homes).rows view.deeds pair (sym ((at.known).homes pair) ∙ sym ((seated.from).same pair))
        ∙ sym (home_looked view (seated.from).homes pair home (sym behind.1 ∙ seated.base ∙ (seated.from).base) is);
  }

-- WHAT A CALL IS GIVEN, of the lock and of the seat as they are inside

pub seated_in : {D : Type 0} {lock now : LockState} {begun : BegunAt D} {lane : ℕ} {seat old : DirectorySeatState D} → lock ≡ now → seat ≡ old → IsSeated now begun lane old
    → IsSeated lock begun lane seat
seated_in {D} {lock} {now} {begun} {lane} {seat} {old} lock_is seat_is seated =
    subst (λ (s : DirectorySeatState D). IsSeated lock begun lane s) (sym seat_is) (subst (λ (l : LockState). IsSeated l begun lane old) (sym lock_is) seated)
