-- The answer of a delete, and of a question for a URL, from its calls.
use Rattle.std.proofs.Common.{◌≡◌, ◌⊎◌, inl, inr, ℕ, ◌<◌, Bool, true, false, List, [], ◌∷◌, length, refl, ap, ◌∙◌, Option, Some, None}
use Rattle.hay_needle.specs.declared.needle.Pair.{Pair}
use Rattle.hay_needle.specs.declared.settings.Settings.{Settings}
use Rattle.hay_url.specs.declared.Url.{Url as UrlParts}
use Rattle.hay_url.specs.Url.{cookie_of}
use Rattle.hay_script.specs.declared.Command.TheVariants as command
use Rattle.hay_reply.specs.declared.Reply.TheVariants.{Absent, Deleted, Failed, NoMem, ReadOnly, Unknown, Url}
use Rattle.hay_core.specs.declared.entry.CoreTag.{CoreTag}
use Rattle.hay_core.specs.declared.entry.Entry.{Entry}
use Rattle.hay_core.specs.declared.entry.Entry.TheVariants as entry
use Rattle.hay_legal.specs.declared.turn.LaneItem.{LaneItem}
use Rattle.hay_legal.specs.Known.{closed_by, machine_of}
use Rattle.hay_legal.specs.Plain.{first_machine, start_of}
use Rattle.hay_history.specs.LaneSteps.Did.{Freezes, Pends, Tries}
use Rattle.hay_meeting.specs.declared.act.VolumeAct.{VolumeAct}
use Rattle.hay_meeting.specs.Acts.{Start, did_of, volume_lock}
use Rattle.hay_meeting.specs.Facts.{FailedAt, Found, OneDoing, OneTryAt, SawHome, drained_in, stood_at, volume_stood}
use Rattle.hay_meeting.specs.Locks.{Doing, LockSight}
use Rattle.hay_meeting.specs.Replies.{DelWantingHere}
use Rattle.hay_meeting.specs.Sights.{IsLaterSight, Sight}
use Rattle.hay_meeting.proofs.Chaining.{same_sight}
use Rattle.hay_meeting.proofs.Phases.{found_wider, saw_home_wider}
use Rattle.hay_holdings.specs.Holdings.{Holding, doings_in}
use Rattle.hay_holdings.specs.Lines.{Closes, IsAnswered, Sees}
use Rattle.hay_holdings.specs.Sights.{AtVolume, Idle, Went, doings_at, no_doings, on_volume}
use Rattle.hay_holdings.specs.Volumes.{DeleteFailed, DeleteWanted, Deleted as DeletedThere, FailedOn, IsThawed, MadeNothing, MadeOne, MetAbsent, MetFrozen, MetThawed, stood_there}
use Rattle.hay_holdings.proofs.Calls.{holding_held, nothing_changed}
use Rattle.hay_holdings.proofs.Finding.{acted_at, found_at, is_open, one_doing, one_try, rose_at}
use Rattle.hay_holdings.proofs.Going.{call_went, changed_nowhere, changed_other, last_here, on_each, quiet_went, went_idle, went_later, went_more, work_of}

-- A HOLDING THAT FOUND THE VOLUME CLOSED

module _ (settings : Settings) (start : Start) (drained : List Bool) (v : ℕ) (tag : CoreTag) {a b : LockSight VolumeAct Entry} where
  pub frozen_closes : {m : ℕ} → MetFrozen settings start v tag m a b → Closes settings start drained v tag m a b
  frozen_closes x = record {
    held = x.held;
    made = x.made;
    holding = x.holding;
    is = ((x.is).0, ap (λ frozen. closed_by frozen (drained_in settings drained v)) (x.is).1);
  }

  pub drained_closes : {m : ℕ} → drained_in settings drained v ≡ Some m → MetThawed settings start v tag a b → Closes settings start drained v tag m a b
  drained_closes machine x = record {
    held = x.held;
    made = x.made;
    holding = x.holding;
    is = ((x.is).0, ap (λ frozen. closed_by frozen (drained_in settings drained v)) (x.is).1 ∙ machine);
  }

module _ (settings : Settings) (start : Start) (drained : List Bool) (tag : CoreTag) where
  module _ {pair : Pair} {d : ℕ} {a b : Sight} (homeless : Sees settings start drained tag pair d None a b) where
    pub del_unknown : IsAnswered settings start drained tag (command.Del pair) (Unknown d) a b
    del_unknown = record { doings = no_doings; work = work_of homeless.idle; did = (homeless.saw, ((λ u. refl), refl)) }

    pub url_unknown : IsAnswered settings start drained tag (command.Url pair) (Unknown d) a b
    url_unknown = record { doings = no_doings; work = work_of homeless.idle; did = (homeless.saw, ((λ u. refl), refl)) }

  pub url_told : {pair : Pair} {d : ℕ} {url : UrlParts} {a b : Sight} → url.pair ≡ pair → url.cookie ≡ cookie_of settings.secret pair.key
      → url.machine ≡ machine_of settings url.volume (start_of settings tag) → Sees settings start drained tag pair d (Some url.volume) a b
      → IsAnswered settings start drained tag (command.Url pair) (Url d url) a b
  url_told own cookie machine x = record { doings = no_doings; work = work_of x.idle; did = (x.saw, own, cookie, machine, ((λ u. refl), refl)) }

  -- a call failed in the doing, which found the volume open to changes
  module _ (pair : Pair) (v machine f : ℕ) (a b : Sight) (open_machines : drained_in settings drained v ≡ None) (doing : Doing VolumeAct) where
    abbrev FailedOpen : Doing VolumeAct → Type 0
    FailedOpen one =
        (closed_by (volume_stood start v one.held).frozen (drained_in settings drained v) ≡ None) × FailedAt settings start drained a b (on_volume v (doing ∷ []) v) v machine one f

    failed_at : IsThawed settings start v doing.held → FailedOn settings start v machine f doing.held (Some doing.act) → FailedOpen doing
    failed_at thawed failed = (
      is_open settings start drained v doing.held open_machines thawed,
      record { replica = failed.0; there = failed.1; rose = rose_at failed.2; last = last_here v doing },
    )

    which_failed : IsThawed settings start v doing.held → FailedOn settings start v machine f doing.held (Some doing.act)
        → MadeOne Tries (Some doing.act) ⊎ (MadeOne (Pends machine (entry.Del pair) true) (Some doing.act) × (stood_there settings start v pair doing.held ≡ true))
        → ((try : OneTryAt settings start drained a b (doings_at v (doing ∷ []) []) v) × FailedOpen try.one)
        ⊎ ((one : OneDoing (on_volume v (doing ∷ []) v) (Pends machine (entry.Del pair) true)) × FailedOpen one.one × (stood_at settings start drained a b v (one.one).held pair ≡ true))
    which_failed thawed failed (inl tries) = inl (one_try v doing tries, failed_at thawed failed)
    which_failed thawed failed (inr pends) = inr (one_doing v doing pends.0 refl, failed_at thawed failed, pends.1)

  -- AT THE HOME

  module _ {pair : Pair} {d v : ℕ} {a m : Sight} (home : Sees settings start drained tag pair d (Some v) a m) (below : v < settings.volumes) where
    home_at : {b : Sight} → IsLaterSight m b → SawHome settings start drained a b pair d (Some v)
    home_at later = saw_home_wider (same_sight a) later home.saw

    pub del_closed : {b : Sight} {machine : ℕ} → AtVolume v (Closes settings start drained v tag machine) m b
        → IsAnswered settings start drained tag (command.Del pair) (ReadOnly (record { volume = v; machine = machine } ∷ [])) a b
    del_closed {b} {machine} x =
        let idle : Idle tag m b = quiet_went x ((x.is).is).0 in
        let found : Found settings start drained m b v (λ acts. closed_by (volume_stood start v acts).frozen (drained_in settings drained v) ≡ Some machine) =
        found_at below x ((x.is).is).1 in record {
          doings = no_doings;
          work = work_of (went_idle home.idle idle);
          did = (((d, home_at (went_later idle)), found_wider (went_later home.idle) (same_sight b) found), ((λ u. refl), refl));
        }

    pub del_done : {b : Sight} {p : ℕ} → drained_in settings drained v ≡ None → AtVolume v (DeletedThere settings start v tag pair p) m b
        → IsAnswered settings start drained tag (command.Del pair) (Deleted v p d) a b
    del_done {b} open_machines x =
        let acts = acted_at x (λ held none. none.0) in
        let doing : Doing VolumeAct = acts.doing in record {
          doings = doings_at v (doing ∷ []) [];
          work = work_of (went_more home.idle acts.went);
          did = record {
            home = home_at (went_later acts.went);
            below = below;
            rows = refl;
            elsewhere = changed_other v (doing ∷ []);
            doing = one_doing v doing (acts.is).0 refl;
            «open» = is_open settings start drained v doing.held open_machines (acts.is).1;
            stood = (acts.is).2;
            position = (acts.is).3;
          };
        }

    pub del_absent : {b : Sight} {p : ℕ} → drained_in settings drained v ≡ None → AtVolume v (MetAbsent settings start v tag pair p) m b
        → IsAnswered settings start drained tag (command.Del pair) (Absent v p d) a b
    del_absent {b} {p} open_machines x =
        let ds : List (Doing VolumeAct) = doings_in (x.is).held (x.is).made in
        let went : Went tag m b (doings_at v ds []) = call_went x in
        let is = (x.is).is in
        let found : Found settings start drained m b v (λ acts. (closed_by (volume_stood start v acts).frozen (drained_in settings drained v) ≡ None)
        × (stood_there settings start v pair acts ≡ false) × (p ≡ length (volume_stood start v acts).log)) =
        found_at below x (is_open settings start drained v (x.is).held open_machines is.1, is.2, is.3) in record {
          doings = doings_at v ds [];
          work = work_of (went_more home.idle went);
          did = record {
            home = home_at (went_later went);
            found = found_wider (went_later home.idle) (same_sight b) found;
            none = (changed_nowhere v ds (nothing_changed (x.is).held (x.is).made is.0), refl);
          };
        }

    pub del_failed : {b : Sight} {machine f : ℕ} → drained_in settings drained v ≡ None → AtVolume v (DeleteFailed settings start v tag pair machine f) m b
        → IsAnswered settings start drained tag (command.Del pair) (Failed v machine f) a b
    del_failed {b} {machine} {f} open_machines x =
        let acts = acted_at x (λ held none. (none.1).2) in
        let doing : Doing VolumeAct = acts.doing in record {
          doings = doings_at v (doing ∷ []) [];
          work = work_of (went_more home.idle acts.went);
          did = record {
            d = d;
            home = home_at (went_later acts.went);
            below = below;
            rows = refl;
            elsewhere = changed_other v (doing ∷ []);
            which = which_failed pair v machine f a b open_machines doing (acts.is).0 (acts.is).1 (acts.is).2;
          };
        }

    pub del_wanted : {b : Sight} → drained_in settings drained v ≡ None → AtVolume v (DeleteWanted settings start v tag pair) m b → IsAnswered settings start drained tag (command.Del pair) NoMem a b
    del_wanted {b} open_machines x =
        let ds : List (Doing VolumeAct) = doings_in (x.is).held (x.is).made in
        let went : Went tag m b (doings_at v ds []) = call_went x in record {
          doings = doings_at v ds [];
          work = work_of (went_more home.idle went);
          did = wanting (x.is).held (x.is).made (x.is).holding (went_later went) (x.is).is;
        }
      where
        wanting : {item : LaneItem} (held : List VolumeAct) (made : Option VolumeAct) → Holding volume_lock tag held made (m.volumes v) (b.volumes v) → IsLaterSight m b
            → MadeNothing made ⊎ (IsThawed settings start v held × MadeOne (Freezes (first_machine settings v)) made)
            ⊎ (IsThawed settings start v held × MadeOne (Pends (first_machine settings v) (entry.Del pair) false) made × (stood_there settings start v pair held ≡ true))
            → DelWantingHere settings start drained item a b (doings_at v (doings_in held made) []) pair
        wanting held made holding later (inl none) = (refl, inl (changed_nowhere v (doings_in held made) (nothing_changed held made none)))
        wanting held None holding later (inr (inl froze)) = absurd froze.1
        wanting held (Some act) holding later (inr (inl froze)) =
            let doing : Doing VolumeAct = record { held = held; act = act } in
            let found : Found settings start drained m b v (λ acts. closed_by (volume_stood start v acts).frozen (drained_in settings drained v) ≡ None) =
            record { below = below; held = held; between = holding_held volume_lock holding; is = is_open settings start drained v held open_machines froze.0 } in (
              refl,
              inr (inl (
                record {
                  d = d;
                  v = v;
                  home = home_at later;
                  elsewhere = changed_other v (doing ∷ []);
                  steps = on_each v (λ doing. (did_of (doing.act).did ≡ Tries) ⊎ (did_of (doing.act).did ≡ Freezes (first_machine settings v))) (doing ∷ []) (inr froze.1, tt);
                },
                found_wider (went_later home.idle) (same_sight b) found,
              )),
            )
        wanting held None holding later (inr (inr pends)) = absurd pends.1
        wanting held (Some act) holding later (inr (inr pends)) =
            let doing : Doing VolumeAct = record { held = held; act = act } in (
              refl,
              inr (inr (record {
                d = d;
                v = v;
                home = home_at later;
                below = below;
                elsewhere = changed_other v (doing ∷ []);
                doing = one_doing v doing pends.1 refl;
                takes = (is_open settings start drained v held open_machines pends.0, pends.2);
              })),
            )
