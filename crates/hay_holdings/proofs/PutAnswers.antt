-- The answer of a put, from its calls.
use Rattle.std.proofs.Common.{◌≡◌, ◌⊎◌, inl, inr, ℕ, ◌<◌, Bool, true, false, List, [], ◌∷◌, ◌++◌, length, map, refl, sym, ap, subst, ◌∙◌, arith, length-append, Contains, Option, Some, None}
use Rattle.std.specs.Prelude.{◌==◌, ◌||◌, not, take_while}
use Rattle.std.specs.List.{AllZip, AllByRecursion as Each, list_any}
use Rattle.std.proofs.lemmas.Bool.{eq-eqb}
use Rattle.hay_needle.specs.declared.needle.Pair.{Pair}
use Rattle.hay_needle.specs.declared.needle.Cookie.{Cookie}
use Rattle.hay_needle.specs.declared.settings.Settings.{Settings}
use Rattle.hay_url.specs.Url.{cookie_of}
use Rattle.hay_script.specs.declared.Command.TheVariants as command
use Rattle.hay_reply.specs.declared.Refused.{Refused}
use Rattle.hay_reply.specs.declared.Refused.TheVariants.{Closed}
use Rattle.hay_reply.specs.declared.ClosedBy.{ClosedBy}
use Rattle.hay_reply.specs.declared.Reply.TheVariants.{Failed, FailedDir, Full, NoMem, ReadOnly, ReadOnlyDir, Stored}
use Rattle.hay_core.specs.declared.entry.CoreTag.{CoreTag}
use Rattle.hay_core.specs.declared.entry.Entry.{Entry}
use Rattle.hay_legal.specs.declared.known.DirKnown.{DirKnown}
use Rattle.hay_legal.specs.declared.known.HomeRow.{HomeRow}
use Rattle.hay_legal.specs.declared.turn.LaneItem.{LaneItem}
use Rattle.hay_legal.specs.Known.{all_tries, closed_by, home_in, refusal_by, room_refusal_of}
use Rattle.hay_legal.specs.Plain.{as_closed, first_machine, put_entry, wants_room}
use Rattle.hay_legal.proofs.Subject.Effects.{home_added}
use Rattle.hay_history.specs.LaneSteps.{RowsStanding}
use Rattle.hay_history.specs.LaneSteps.Did.{Pends}
use Rattle.hay_history.specs.LaneSteps.RowDid.{AddsRow, PendsRow}
use Rattle.hay_history.proofs.Lists.{zip_weaker}
use Rattle.hay_meeting.specs.declared.act.DirAct.{DirAct}
use Rattle.hay_meeting.specs.declared.act.VolumeAct.{VolumeAct}
use Rattle.hay_meeting.specs.declared.act.DirDid.{DirDid}
use Rattle.hay_meeting.specs.declared.act.DirDid.TheVariants as act_row
use Rattle.hay_meeting.specs.Acts.{Start, directory_by, row_did_of, row_lock}
use Rattle.hay_meeting.specs.Facts.{FoundRefusal, FoundRows, FoundTaker, SawHome, drained_in, volume_stood}
use Rattle.hay_meeting.specs.Locks.{Doing, LockSight, past}
use Rattle.hay_meeting.specs.Replies.{MayAddRowHere, PutRefusedHere, PutWantingHere, RowPendsHere}
use Rattle.hay_meeting.specs.Sights.{IsLaterSight, Sight, rows_stood}
use Rattle.hay_meeting.proofs.Chaining.{same_sight}
use Rattle.hay_meeting.proofs.Phases.{doing_left, found_rows_wider, found_taker_wider, found_wider, home_held, saw_home_wider}
use Rattle.hay_meeting.proofs.Replays.{left_append}
use Rattle.hay_holdings.specs.Holdings.{doings_in}
use Rattle.hay_holdings.specs.Lines.{HasTaker, IsAnswered, Refuses, Sees, Settled, Tried}
use Rattle.hay_holdings.specs.Rows.{MadeNoRow, MadeRow, MetFrozenDir, MetHome, RowAdded, RowFailed, RowWanted, rows_found}
use Rattle.hay_holdings.specs.Sights.{AtDirectory, AtVolume, Idle, Went, doings_at, no_doings, only_rows}
use Rattle.hay_holdings.specs.Volumes.{MadeNothing, MadeOne, MetFrozen, MetThawed, PutFailed, PutStored, PutWanted, RoomFits, RoomLacks, Takes}
use Rattle.hay_holdings.proofs.Calls.{holding_held, no_row_changed, nothing_changed}
use Rattle.hay_holdings.proofs.Finding.{acted_at, acted_on_rows, found_at, one_doing, one_row_doing, rose_at, takes_it}
use Rattle.hay_holdings.proofs.Going.{call_went, changed_nowhere, changed_other, last_here, quiet_row_went, quiet_went, row_call_went, went_idle, went_later, went_more, went_rows_at, work_of}
use Rattle.hay_holdings.proofs.Lists.{each_taken, in_middle, zip_each, zip_more}

-- WHAT STANDS BEHIND A ROW THAT WAS ADDED

added : (tag : CoreTag) (d : DirDid) (row : HomeRow) (before : DirKnown) → row_did_of d ≡ AddsRow row → (directory_by tag d before).rows ≡ before.rows ++ row ∷ []
added tag act_row.TriesRow row before is = absurd (cc is)
added tag (act_row.AddsRow new) row before is = let same : new ≡ row = cc is in ap (λ (r : HomeRow). before.rows ++ r ∷ []) same
added tag (act_row.PendsRow new) row before is = absurd (cc is)
added tag (act_row.Drains m on) row before is = absurd (cc is)
added tag act_row.FusesRow row before is = absurd (cc is)

rows_added : (start : Start) (held : List DirAct) (act : DirAct) (row : HomeRow) → row_did_of act.did ≡ AddsRow row
    → ((rows_stood start (held ++ act ∷ [])).directory).rows ≡ ((rows_stood start held).directory).rows ++ row ∷ []
rows_added start held act row is =
    ap (λ (r : RowsStanding). (r.directory).rows) (left_append row_lock start.directory held (act ∷ [])) ∙ added act.tag act.did row (rows_stood start held).directory is

-- A TRY THAT REFUSES

module _ (settings : Settings) (start : Start) (drained : List Bool) (v : ℕ) (tag : CoreTag) {a b : LockSight VolumeAct Entry} where
  -- for want of room, where no machine of it is drained
  pub lacking_refuses : (size : ℕ) {refused : Refused} → drained_in settings drained v ≡ None → RoomLacks settings start v tag size refused a b → Refuses settings start drained v tag size refused a b
  lacking_refuses size open_machines x =
      let room : ℕ → Option Refused = λ s. room_refusal_of settings v (volume_stood start v x.held) s in record {
        held = x.held;
        made = x.made;
        holding = x.holding;
        is = (
          (x.is).0,
          ap (λ frozen. refusal_by v (closed_by frozen (drained_in settings drained v)) (room size)) (x.is).1
              ∙ (ap (λ z. refusal_by v z (room size)) open_machines ∙ (x.is).2),
        );
      }

  pub frozen_refuses : (size : ℕ) {m : ℕ} → MetFrozen settings start v tag m a b → Refuses settings start drained v tag size (Closed v m) a b
  frozen_refuses size {m} x = record {
    held = x.held;
    made = x.made;
    holding = x.holding;
    is = ((x.is).0, ap (λ frozen. refusal_by v (closed_by frozen (drained_in settings drained v)) (room_refusal_of settings v (volume_stood start v x.held) size)) (x.is).1);
  }

  -- since a machine of it is drained
  pub drained_refuses : (size : ℕ) {m : ℕ} → drained_in settings drained v ≡ Some m → MetThawed settings start v tag a b → Refuses settings start drained v tag size (Closed v m) a b
  drained_refuses size {m} machine x =
      let room : Option Refused = room_refusal_of settings v (volume_stood start v x.held) size in record {
        held = x.held;
        made = x.made;
        holding = x.holding;
        is = (
          (x.is).0,
          ap (λ frozen. refusal_by v (closed_by frozen (drained_in settings drained v)) room) (x.is).1 ∙ ap (λ z. refusal_by v z room) machine,
        );
      }

module _ (settings : Settings) (start : Start) (drained : List Bool) (tag : CoreTag) where
  -- TRIES

  module _ {pair : Pair} {size d : ℕ} {a b : Sight} where
    -- a settled pair has its home
    pub settles : {v : ℕ} → Sees settings start drained tag pair d (Some v) a b → Settled settings start drained tag pair size d v a b
    settles x = record { rows = []; went = x.idle; row = inl refl; home = x.saw }

    -- another one has tries
    pub tries : Sees settings start drained tag pair d None a b → Tried settings start drained tag pair size [] [] a b
    tries x = record { idle = x.idle; d = d; home = x.saw; each = tt }

  module _ {pair : Pair} {size : ℕ} {a m b : Sight} where
    -- it goes on without an act
    pub tried_on : {tries : List ℕ} {refused : List Refused} → Tried settings start drained tag pair size tries refused a m → Idle tag m b
        → Tried settings start drained tag pair size tries refused a b
    tried_on {tries} {refused} tried idle =
        let later : IsLaterSight m b = went_later idle in record {
          idle = went_idle tried.idle idle;
          d = tried.d;
          home = saw_home_wider (same_sight a) later tried.home;
          each = zip_weaker (FoundRefusal settings start drained a m size) (FoundRefusal settings start drained a b size) tries refused (λ u r among f. found_wider (same_sight a) later f) tried.each;
        }

    pub taker_on : {v : ℕ} → HasTaker settings start drained tag pair size v a m → Idle tag m b → HasTaker settings start drained tag pair size v a b
    taker_on has idle =
        let later : IsLaterSight m b = went_later idle in
        record { idle = went_idle has.idle idle; d = has.d; home = saw_home_wider (same_sight a) later has.home; taker = found_taker_wider (same_sight a) later has.taker }

    pub settled_on : {d v : ℕ} → Settled settings start drained tag pair size d v a m → Idle tag m b → Settled settings start drained tag pair size d v a b
    settled_on settled idle =
        let later : IsLaterSight m b = went_later idle in record {
          rows = settled.rows;
          went = went_idle settled.went idle;
          row = elim settled.row [
            | inl none ↦ inl none
            | inr new ↦ inr (record { row = new.row; doing = new.doing; own_pair = new.own_pair; taker = found_taker_wider (same_sight a) later new.taker })
          ];
          home = saw_home_wider (same_sight a) later settled.home;
        }

    -- one more try refuses
    pub try_refuses : {v : ℕ} {refusal : Refused} {tries : List ℕ} {refused : List Refused} → v < settings.volumes
        → Tried settings start drained tag pair size tries refused a m → AtVolume v (Refuses settings start drained v tag size refusal) m b
        → Tried settings start drained tag pair size (tries ++ v ∷ []) (refused ++ refusal ∷ []) a b
    try_refuses {v} {refusal} {tries} {refused} below tried x =
        let more : Tried settings start drained tag pair size tries refused a b = tried_on tried (quiet_went x ((x.is).is).0) in
        let found : FoundRefusal settings start drained m b size v refusal = found_at below x ((x.is).is).1 in record {
          idle = more.idle;
          d = more.d;
          home = more.home;
          each = zip_more (FoundRefusal settings start drained a b size) tries (v ∷ []) refused (refusal ∷ []) more.each (found_wider (went_later tried.idle) (same_sight b) found, tt);
        }

    -- the next one takes the photo
    pub try_takes : {v : ℕ} {tries : List ℕ} (later : List ℕ) {refused : List Refused} → v < settings.volumes → drained_in settings drained v ≡ None
        → all_tries settings pair ≡ tries ++ v ∷ later → Tried settings start drained tag pair size tries refused a m
        → AtVolume v (RoomFits settings start v tag size) m b → HasTaker settings start drained tag pair size v a b
    try_takes {v} {tries} later {refused} below open_machines parts tried x =
        let more : Tried settings start drained tag pair size tries refused a b = tried_on tried (quiet_went x ((x.is).is).0) in
        let Before : ℕ → Type 0 = λ u. (r : Refused) × FoundRefusal settings start drained a b size u r in record {
          idle = more.idle;
          d = more.d;
          home = more.home;
          taker = record {
            tried = subst (λ z. Contains z v) (sym parts) (in_middle tries v later);
            takes = found_wider (went_later tried.idle) (same_sight b) (found_at below x (takes_it settings start drained v (x.is).held open_machines size ((x.is).is).1));
            before = subst (λ z. Each Before (take_while (λ u. not (u == v)) z)) (sym parts)
                (each_taken Before (λ u. not (u == v)) tries v later (ap not (eq-eqb v v refl)) (zip_each (FoundRefusal settings start drained a b size) tries refused more.each));
          };
        }

  -- THE ROW

  module _ {pair : Pair} {size v : ℕ} {a m b : Sight} (has : HasTaker settings start drained tag pair size v a m) where
    pub adds_row : {d : ℕ} → AtDirectory (RowAdded start tag pair v d) m b → Settled settings start drained tag pair size d v a b
    adds_row {d} x =
        let acts = acted_on_rows x (λ held none. none.0) in
        let doing : Doing DirAct = acts.doing in
        let row : HomeRow = record { pair = pair; volume = v } in
        let is : row_did_of (doing.act).did ≡ AddsRow row = (acts.is).0 in
        let behind : IsLaterSight m b = went_later acts.went in
        let rows = rows_added start doing.held doing.act row is in
        let home : SawHome settings start drained m b pair d (Some v) =
        home_held (past doing) (doing_left row_lock acts.between)
        ((acts.is).2 ∙ (sym (length-append (rows_found start doing.held) (row ∷ [])) ∙ ap length (sym rows)))
        (ap (λ z. home_in z pair) rows ∙ home_added (rows_found start doing.held) pair v (acts.is).1) in record {
          rows = doing ∷ [];
          went = went_more has.idle acts.went;
          row = inr (record {
            row = row;
            doing = one_row_doing doing is refl;
            own_pair = refl;
            taker = found_taker_wider (same_sight a) behind has.taker;
          });
          home = saw_home_wider (went_later has.idle) (same_sight b) home;
        }

    -- another line had added it
    pub meets_home : {d u : ℕ} → AtDirectory (MetHome start tag pair u d) m b → Settled settings start drained tag pair size d u a b
    meets_home {d} {u} x = record {
      rows = [];
      went = went_idle has.idle (quiet_row_went x ((x.is).is).0);
      row = inl refl;
      home = saw_home_wider (went_later has.idle) (same_sight b)
          (home_held (x.is).held (holding_held row_lock (x.is).holding) ((x.is).is).2 ((x.is).is).1);
    }

  -- WHERE NOBODY TAKES THE PHOTO

  module _ {pair : Pair} (bytes : List ℕ) {refused : List Refused} {a b : Sight} (tried : Tried settings start drained tag pair (length bytes) (all_tries settings pair) refused a b) where
    all_refuse : {item : LaneItem} {refused' : List Refused} → refused ≡ refused' → PutRefusedHere settings start drained item a b no_doings pair (length bytes) refused'
    all_refuse {item} same = record {
      row = inl refl;
      nothing = λ u. refl;
      because = inl (((tried.d, tried.home), subst (AllZip (FoundRefusal settings start drained a b (length bytes)) (all_tries settings pair)) same tried.each), refl);
    }

    pub put_full : list_any wants_room refused ≡ true → IsAnswered settings start drained tag (command.Put pair bytes) (Full refused) a b
    put_full wants = record { doings = no_doings; work = work_of tried.idle; did = (all_refuse refl, wants) }

    pub put_closed : {by : List ClosedBy} → refused ≡ map as_closed by → IsAnswered settings start drained tag (command.Put pair bytes) (ReadOnly by) a b
    put_closed same = record { doings = no_doings; work = work_of tried.idle; did = all_refuse same }

  -- WHERE THE ROW CANNOT BE ADDED

  module _ {pair : Pair} (bytes : List ℕ) {v : ℕ} {a m b : Sight} (has : HasTaker settings start drained tag pair (length bytes) v a m) where
    taker_at : IsLaterSight m b → FoundTaker settings start drained a b pair (length bytes) v
    taker_at later = found_taker_wider (same_sight a) later has.taker

    pub put_frozen_dir : AtDirectory (MetFrozenDir start tag) m b → IsAnswered settings start drained tag (command.Put pair bytes) ReadOnlyDir a b
    put_frozen_dir x =
        let idle : Idle tag m b = quiet_row_went x ((x.is).is).0 in
        let later : IsLaterSight m b = went_later idle in
        let found : FoundRows settings start drained m b (λ rows. (rows.directory).frozen ≡ true) =
        record { held = (x.is).held; between = holding_held row_lock (x.is).holding; is = ((x.is).is).1 } in record {
          doings = no_doings;
          work = work_of (went_idle has.idle idle);
          did = (
            (λ u. refl),
            refl,
            (has.d, saw_home_wider (same_sight a) later has.home),
            (v, taker_at later),
            found_rows_wider (went_later has.idle) (same_sight b) found,
          );
        }

    -- the row is pending
    abbrev row_pends : {item : LaneItem} (doing : Doing DirAct) → IsLaterSight m b → row_did_of (doing.act).did ≡ PendsRow (record { pair = pair; volume = v })
        → RowPendsHere settings start drained item a b (only_rows (doing ∷ [])) pair (length bytes)
    row_pends doing later is = record { v = v; doing = one_row_doing doing is refl; taker = taker_at later }

    pub put_failed_dir : {f : ℕ} → AtDirectory (RowFailed start tag pair v f) m b → IsAnswered settings start drained tag (command.Put pair bytes) (FailedDir f) a b
    put_failed_dir x =
        let acts = acted_on_rows x (λ held none. none.0) in record {
          doings = only_rows (acts.doing ∷ []);
          work = work_of (went_more has.idle acts.went);
          did = record {
            nothing = λ u. refl;
            pends = row_pends acts.doing (went_later acts.went) (acts.is).0;
            rose = ((acts.is).1).0;
            printed = ((acts.is).1).1;
            last = (omega arith, tt);
          };
        }

    pub put_row_wanted : AtDirectory (RowWanted start tag pair v) m b → IsAnswered settings start drained tag (command.Put pair bytes) NoMem a b
    put_row_wanted x =
        let went : Went tag m b (only_rows (doings_in (x.is).held (x.is).made)) = row_call_went x in record {
          doings = only_rows (doings_in (x.is).held (x.is).made);
          work = work_of (went_more has.idle went);
          did = wanting (x.is).held (x.is).made (went_later went) (x.is).is;
        }
      where
        wanting : {item : LaneItem} (held : List DirAct) (made : Option DirAct) → IsLaterSight m b → MadeNoRow made ⊎ MadeRow (PendsRow (record { pair = pair; volume = v })) made
            → PutWantingHere settings start drained item a b (only_rows (doings_in held made)) pair bytes
        wanting held made later (inl none) = inr (inl (no_row_changed held made none), inl (λ u. refl))
        wanting held None later (inr pends) = absurd pends
        wanting held (Some act) later (inr pends) = inl ((λ u. refl), row_pends (record { held = held; act = act }) later pends)

  -- AT THE HOME

  module _ {pair : Pair} (bytes : List ℕ) {d v : ℕ} {a m b : Sight} (settled : Settled settings start drained tag pair (length bytes) d v a m) (below : v < settings.volumes) where
    home_at : IsLaterSight m b → SawHome settings start drained a b pair d (Some v)
    home_at later = saw_home_wider (same_sight a) later settled.home

    row_at : {item : LaneItem} {volumes : ℕ → List (Doing VolumeAct)} → IsLaterSight m b
        → MayAddRowHere settings start drained item a b (record { volumes = volumes; rows = settled.rows }) pair (length bytes)
    row_at later = elim settled.row [
      | inl none ↦ inl none
      | inr new ↦ inr (record { row = new.row; doing = new.doing; own_pair = new.own_pair; taker = found_taker_wider (same_sight a) later new.taker })
    ]

    home_refuses : {item : LaneItem} {refusal : Refused} → AtVolume v (Refuses settings start drained v tag (length bytes) refusal) m b
        → PutRefusedHere settings start drained item a b (only_rows settled.rows) pair (length bytes) (refusal ∷ [])
    home_refuses {item} {refusal} x =
        let later : IsLaterSight m b = went_later (call_went x) in
        let found : FoundRefusal settings start drained m b (length bytes) v refusal = found_at below x ((x.is).is).1 in record {
          row = row_at later;
          nothing = λ u. refl;
          because = inr (d, v, home_at later, found_wider (went_later settled.went) (same_sight b) found);
        }

    quiet_at : {refusal : Refused} → AtVolume v (Refuses settings start drained v tag (length bytes) refusal) m b → Went tag a b (only_rows settled.rows)
    quiet_at x = went_idle settled.went (quiet_went x ((x.is).is).0)

    pub put_home_full : {refusal : Refused} → wants_room refusal ≡ true → AtVolume v (Refuses settings start drained v tag (length bytes) refusal) m b
        → IsAnswered settings start drained tag (command.Put pair bytes) (Full (refusal ∷ [])) a b
    put_home_full wants x = record {
      doings = only_rows settled.rows;
      work = work_of (quiet_at x);
      did = (home_refuses x, ap (λ (test : Bool). test || false) wants);
    }

    pub put_home_closed : {by : ClosedBy} → AtVolume v (Refuses settings start drained v tag (length bytes) (as_closed by)) m b
        → IsAnswered settings start drained tag (command.Put pair bytes) (ReadOnly (by ∷ [])) a b
    put_home_closed x = record { doings = only_rows settled.rows; work = work_of (quiet_at x); did = home_refuses x }

    pub put_stored : {cookie : Cookie} {p : ℕ} → drained_in settings drained v ≡ None → cookie ≡ cookie_of settings.secret pair.key
        → AtVolume v (PutStored settings start v tag pair cookie bytes p) m b → IsAnswered settings start drained tag (command.Put pair bytes) (Stored v p d cookie) a b
    put_stored {cookie} {p} open_machines own x =
        let acts = acted_at x (λ held none. none.0) in
        let doing : Doing VolumeAct = acts.doing in
        let later : IsLaterSight m b = went_later acts.went in record {
          doings = doings_at v (doing ∷ []) settled.rows;
          work = work_of (went_rows_at v (doing ∷ []) settled.went acts.went);
          did = record {
            row = row_at later;
            home = home_at later;
            below = below;
            own_cookie = own;
            elsewhere = changed_other v (doing ∷ []);
            doing = one_doing v doing (acts.is).0 refl;
            room = takes_it settings start drained v doing.held open_machines (length bytes) (acts.is).1;
            position = (acts.is).2;
          };
        }

    pub put_failed : {machine f : ℕ} → drained_in settings drained v ≡ None
        → AtVolume v (PutFailed settings start v tag pair (cookie_of settings.secret pair.key) bytes machine f) m b
        → IsAnswered settings start drained tag (command.Put pair bytes) (Failed v machine f) a b
    put_failed {machine} {f} open_machines x =
        let acts = acted_at x (λ held none. none.0) in
        let doing : Doing VolumeAct = acts.doing in
        let failed = (acts.is).2 in
        let later : IsLaterSight m b = went_later acts.went in record {
          doings = doings_at v (doing ∷ []) settled.rows;
          work = work_of (went_rows_at v (doing ∷ []) settled.went acts.went);
          did = record {
            row = row_at later;
            d = d;
            home = home_at later;
            below = below;
            elsewhere = changed_other v (doing ∷ []);
            doing = one_doing v doing (acts.is).0 refl;
            room = takes_it settings start drained v doing.held open_machines (length bytes) (acts.is).1;
            failed = record { replica = failed.0; there = failed.1; rose = rose_at failed.2; last = last_here v doing };
          };
        }

    pub put_wanted : drained_in settings drained v ≡ None → AtVolume v (PutWanted settings start v tag pair (cookie_of settings.secret pair.key) bytes) m b
        → IsAnswered settings start drained tag (command.Put pair bytes) NoMem a b
    put_wanted open_machines x =
        let went : Went tag m b (doings_at v (doings_in (x.is).held (x.is).made) []) = call_went x in record {
          doings = doings_at v (doings_in (x.is).held (x.is).made) settled.rows;
          work = work_of (went_rows_at v (doings_in (x.is).held (x.is).made) settled.went went);
          did = wanting (x.is).held (x.is).made (went_later went) (x.is).is;
        }
      where
        wanting : {item : LaneItem} (held : List VolumeAct) (made : Option VolumeAct) → IsLaterSight m b
            → MadeNothing made ⊎ (MadeOne (Pends (first_machine settings v) (put_entry settings pair bytes) false) made × Takes settings start v (length bytes) held)
            → PutWantingHere settings start drained item a b (doings_at v (doings_in held made) settled.rows) pair bytes
        wanting held made later (inl none) = inr (row_at later, inl (changed_nowhere v (doings_in held made) (nothing_changed held made none)))
        wanting held None later (inr pends) = absurd pends.0
        wanting held (Some act) later (inr pends) =
            let doing : Doing VolumeAct = record { held = held; act = act } in
            inr (
              row_at later,
              inr (record {
                d = d;
                v = v;
                home = home_at later;
                below = below;
                elsewhere = changed_other v (doing ∷ []);
                doing = one_doing v doing pends.0 refl;
                takes = takes_it settings start drained v held open_machines (length bytes) pends.1;
              }),
            )

    -- memory was wanting behind the row
    pub put_settled_wanted : Idle tag m b → IsAnswered settings start drained tag (command.Put pair bytes) NoMem a b
    put_settled_wanted idle = record {
      doings = only_rows settled.rows;
      work = work_of (went_idle settled.went idle);
      did = inr (row_at (went_later idle), inl (λ u. refl));
    }
