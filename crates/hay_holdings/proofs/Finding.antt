-- What one call of a line found or did, in the terms of the line's facts.
use Rattle.std.proofs.Common.{◌≡◌, ℕ, ◌<◌, Bool, true, List, [], ◌∷◌, sym, ap, subst, ◌∙◌, Contains, Option, Some, None}
use Rattle.hay_needle.specs.declared.needle.Pair.{Pair}
use Rattle.hay_needle.specs.declared.settings.Settings.{Settings}
use Rattle.hay_core.specs.declared.entry.CoreTag.{CoreTag}
use Rattle.hay_legal.specs.Known.{closed_by, refusal_by, room_refusal_of}
use Rattle.hay_history.specs.LaneSteps.{Did, RowDid}
use Rattle.hay_history.specs.LaneSteps.Did.{Tries}
use Rattle.hay_history.specs.Histories.{changes_it, changes_rows}
use Rattle.hay_history.proofs.Lists.{is_first}
use Rattle.hay_meeting.specs.declared.act.DirAct.{DirAct}
use Rattle.hay_meeting.specs.declared.act.VolumeAct.{VolumeAct}
use Rattle.hay_meeting.specs.Acts.{Start, did_of, row_did_of, row_lock, volume_lock}
use Rattle.hay_meeting.specs.Facts.{Found, OneDoing, OneRowDoing, OneTryAt, RoseAt, SawHome, drained_in, volume_stood}
use Rattle.hay_meeting.specs.Locks.{Doing, IsDoing}
use Rattle.hay_meeting.specs.Sights.{Sight}
use Rattle.hay_meeting.proofs.Chaining.{same_at, same_sight}
use Rattle.hay_meeting.proofs.Phases.{saw_home_wider}
use Rattle.hay_holdings.specs.Holdings.{Called}
use Rattle.hay_holdings.specs.Rows.{HomeShown}
use Rattle.hay_holdings.specs.Lines.{Sees}
use Rattle.hay_holdings.specs.Sights.{AtDirectory, AtVolume, Idle, Went, doings_at, on_volume, only_rows}
use Rattle.hay_holdings.specs.Volumes.{IsThawed, RoseTo, Takes}
use Rattle.hay_holdings.proofs.Calls.{acted, holding_doing, holding_held, holding_worked, looked_later, nothing_changed, one_changed, one_row_changed}
use Rattle.hay_holdings.proofs.Going.{changed_here, directory_went, on_here, row_look_went, volume_went, went_idle, went_later}

-- A HOLDING THAT ACTED

module _ (tag : CoreTag) where
  pub record ActedAt (v : ℕ) (IsSo : List VolumeAct → Option VolumeAct → Type 0) (a b : Sight) : Type 0 where
    pub doing : Doing VolumeAct
    pub went : Went tag a b (doings_at v (doing ∷ []) [])
    pub between : IsDoing volume_lock (a.volumes v) (b.volumes v) doing
    pub is : IsSo doing.held (Some doing.act)

  pub record ActedOnRows (IsSo : List DirAct → Option DirAct → Type 0) (a b : Sight) : Type 0 where
    pub doing : Doing DirAct
    pub went : Went tag a b (only_rows (doing ∷ []))
    pub between : IsDoing row_lock a.directory b.directory doing
    pub is : IsSo doing.held (Some doing.act)

module _ {tag : CoreTag} {a b : Sight} where
  pub acted_at : {v : ℕ} {IsSo : List VolumeAct → Option VolumeAct → Type 0} → AtVolume v (λ a b. Called volume_lock tag IsSo a b) a b
      → ((held : List VolumeAct) → IsSo held None → ⊥) → ActedAt tag v IsSo a b
  acted_at x some =
      let acts = acted volume_lock some x.is in
      let doing : Doing VolumeAct = record { held = acts.held; act = acts.act } in record {
        doing = doing;
        went = volume_went (doing ∷ []) x (holding_worked volume_lock acts.held (Some acts.act) acts.holding);
        between = holding_doing volume_lock acts.holding;
        is = acts.is;
      }

  pub acted_on_rows : {IsSo : List DirAct → Option DirAct → Type 0} → AtDirectory (λ a b. Called row_lock tag IsSo a b) a b
      → ((held : List DirAct) → IsSo held None → ⊥) → ActedOnRows tag IsSo a b
  acted_on_rows x some =
      let acts = acted row_lock some x.is in
      let doing : Doing DirAct = record { held = acts.held; act = acts.act } in record {
        doing = doing;
        went = directory_went (doing ∷ []) x (holding_worked row_lock acts.held (Some acts.act) acts.holding);
        between = holding_doing row_lock acts.holding;
        is = acts.is;
      }

-- and changed something
abbrev pub one_doing : (v : ℕ) {did : Did} (doing : Doing VolumeAct) → did_of (doing.act).did ≡ did → changes_it did ≡ true → OneDoing (on_volume v (doing ∷ []) v) did
one_doing v doing is changes = record { one = doing; only = changed_here v (doing ∷ []) (one_changed doing is changes); is = is }

abbrev pub one_row_doing : {did : RowDid} (doing : Doing DirAct) → row_did_of (doing.act).did ≡ did → changes_rows did ≡ true → OneRowDoing (doing ∷ []) did
one_row_doing doing is changes = record { one = doing; only = one_row_changed doing is changes; is = is }

-- or nothing, as where a call failed
abbrev pub one_try : {settings : Settings} {start : Start} {drained : List Bool} {a b : Sight} {rows : List (Doing DirAct)} (v : ℕ) (doing : Doing VolumeAct) → did_of (doing.act).did ≡ Tries
    → OneTryAt settings start drained a b (doings_at v (doing ∷ []) rows) v
one_try v doing is = record {
  one = doing;
  among = subst (λ ds. Contains ds doing) (sym (on_here v (doing ∷ []))) (is_first doing []);
  none = changed_here v (doing ∷ []) (nothing_changed doing.held (Some doing.act) is);
  is = is;
}

-- a count that rose in it
pub rose_at : {settings : Settings} {start : Start} {drained : List Bool} {a b : Sight} {v j f : ℕ} {doing : Doing VolumeAct} → RoseTo settings start v j f doing
    → RoseAt settings start drained a b v doing j f
rose_at x = record { within = x.0; rose = x.1; printed = x.2 }

-- WHAT WAS FOUND

module _ {settings : Settings} {start : Start} {drained : List Bool} {tag : CoreTag} {a b : Sight} where
  -- of a volume
  pub found_at : {v : ℕ} {IsSo : List VolumeAct → Option VolumeAct → Type 0} {IsThen : List VolumeAct → Type 0} → v < settings.volumes
      → (x : AtVolume v (λ a b. Called volume_lock tag IsSo a b) a b) → IsThen (x.is).held → Found settings start drained a b v IsThen
  found_at below x is = record { below = below; held = (x.is).held; between = holding_held volume_lock (x.is).holding; is = is }

-- in the view of the Directory
abbrev pub home_seen : {settings : Settings} {start : Start} {drained : List Bool} {a b : Sight} {pair : Pair} {d : ℕ} {home : Option ℕ} → AtDirectory (HomeShown start pair d home) a b
    → SawHome settings start drained a b pair d home
home_seen {b = b} x = record { sight = b.directory; from = looked_later (x.is).looked; to = same_at b.directory; front = (x.is).front; is = (x.is).is }

module _ (settings : Settings) (start : Start) (drained : List Bool) (tag : CoreTag) {pair : Pair} {d : ℕ} {home : Option ℕ} where
  -- a line begins with such a look
  pub sees : {a b : Sight} → AtDirectory (HomeShown start pair d home) a b → Sees settings start drained tag pair d home a b
  sees x = record { idle = row_look_went x (x.is).looked; saw = home_seen x }

  pub sees_on : {a m b : Sight} → Sees settings start drained tag pair d home a m → Idle tag m b → Sees settings start drained tag pair d home a b
  sees_on {a} x idle = record { idle = went_idle x.idle idle; saw = saw_home_wider (same_sight a) (went_later idle) x.saw }

-- where it is not frozen and no machine of it is drained
module _ (settings : Settings) (start : Start) (drained : List Bool) (v : ℕ) (held : List VolumeAct) (open_machines : drained_in settings drained v ≡ None) where
  pub is_open : IsThawed settings start v held → closed_by (volume_stood start v held).frozen (drained_in settings drained v) ≡ None
  is_open thawed = ap (λ frozen. closed_by frozen (drained_in settings drained v)) thawed ∙ open_machines

  pub takes_it : (size : ℕ) → Takes settings start v size held
      → refusal_by v (closed_by (volume_stood start v held).frozen (drained_in settings drained v)) (room_refusal_of settings v (volume_stood start v held) size) ≡ None
  takes_it size takes = ap (λ closing. refusal_by v closing (room_refusal_of settings v (volume_stood start v held) size)) (is_open takes.0) ∙ takes.1
