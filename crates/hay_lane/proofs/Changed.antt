-- The answers of deletes at the home of a pair, whatever their calls answered.
use Rattle.std.proofs.Common.{◌≡◌, inl, inr, ℕ, ◌<◌, Bool, List, sym, ap, subst, Option, Some, None}
use Rattle.hay_needle.specs.declared.needle.Pair.{Pair}
use Rattle.hay_needle.specs.declared.settings.Settings.{Settings}
use Rattle.hay_script.specs.declared.Command.TheVariants as command
use Rattle.hay_reply.specs.declared.Refused.TheVariants.{Closed}
use Rattle.hay_reply.specs.declared.Reply.{Reply}
use Rattle.hay_reply.specs.declared.Reply.TheVariants as reply
use Rattle.hay_core.specs.declared.entry.CoreTag.{CoreTag}
use Rattle.hay_legal.specs.Known.{refusal_by, room_refusal_of}
use Rattle.hay_meeting.specs.Acts.{Start}
use Rattle.hay_meeting.specs.Facts.{drained_in, volume_stood}
use Rattle.hay_meeting.specs.Sights.{Sight}
use Rattle.hay_holdings.specs.Lines.{Closes, IsAnswered, Refuses, Sees}
use Rattle.hay_holdings.specs.Rows.{HomeShown}
use Rattle.hay_holdings.specs.Sights.{AtDirectory, AtVolume, Idle}
use Rattle.hay_holdings.specs.Volumes as calls
use Rattle.hay_holdings.proofs.DelAnswers as del
use Rattle.hay_holdings.proofs.Finding.{sees}
use Rattle.hay_holdings.proofs.Going.{quiet_went}
use Rattle.hay_holdings.proofs.Unchanged.{idle_unchanged, unchanged_more, wants_memory}
use Rattle.hay_shared_volume.specs.declared.answers.Delete.{Delete}
use Rattle.hay_shared_volume.specs.declared.answers.Delete.TheVariants as delete
use Rattle.hay_lane.specs.Replies.{IsDeleteReply, IsReadOnly}
use Rattle.hay_shared_volume.specs.Tellings.{DeleteTells, FrozenTells, StoreVolume}
use Rattle.hay_lane.proofs.Maintained.{call_as}

-- what a look showed
pub saw : (settings : Settings) (start : Start) (drained : List Bool) (tag : CoreTag) {pair : Pair} {d : ℕ} {home shown : Option ℕ} {a b : Sight} → home ≡ shown
    → AtDirectory (HomeShown start pair d home) a b → Sees settings start drained tag pair d shown a b
saw settings start drained tag {pair} {d} {home} {shown} {a} {b} is x =
    sees settings start drained tag (subst (λ h. AtDirectory (HomeShown start pair d h) a b) is x)

module _ (settings : Settings) (start : Start) (drained : List Bool) (v : ℕ) (tag : CoreTag) where
  abbrev pub this : StoreVolume
  this = record { settings = settings; start = start; number = v }

  -- a frozen volume is closed by the machine that froze it, and one of a drained machine by that
  pub frozen_closed : {by : ℕ} {frozen : Option ℕ} {a b : Sight} → frozen ≡ Some by → AtVolume v (FrozenTells this tag frozen) a b → AtVolume v (Closes settings start drained v tag by) a b
  frozen_closed {by} {frozen} {a} {b} is x =
      let met : AtVolume v (FrozenTells this tag (Some by)) a b = subst (λ f. AtVolume v (FrozenTells this tag f) a b) is x in
      call_as (FrozenTells this tag (Some by)) (Closes settings start drained v tag by) met (del.frozen_closes settings start drained v tag met.is)

  pub drained_closed : {m : ℕ} {frozen : Option ℕ} {a b : Sight} → drained_in settings drained v ≡ Some m → frozen ≡ None → AtVolume v (FrozenTells this tag frozen) a b
      → AtVolume v (Closes settings start drained v tag m) a b
  drained_closed {m} {frozen} {a} {b} machine is x =
      let met : AtVolume v (FrozenTells this tag None) a b = subst (λ f. AtVolume v (FrozenTells this tag f) a b) is x in
      call_as (FrozenTells this tag None) (Closes settings start drained v tag m) met (del.drained_closes settings start drained v tag machine met.is)

  -- and takes no photo
  pub closes_refuses : (size : ℕ) {m : ℕ} {a b : Sight} → AtVolume v (Closes settings start drained v tag m) a b → AtVolume v (Refuses settings start drained v tag size (Closed v m)) a b
  closes_refuses size {m} x =
      call_as (Closes settings start drained v tag m) (Refuses settings start drained v tag size (Closed v m)) x (record {
        held = (x.is).held;
        made = (x.is).made;
        holding = (x.is).holding;
        is = (((x.is).is).0, ap (λ closing. refusal_by v closing (room_refusal_of settings v (volume_stood start v (x.is).held) size)) ((x.is).is).1);
      })

module _ (settings : Settings) (start : Start) (drained : List Bool) (tag : CoreTag) {pair : Pair} {d v : ℕ} {a m : Sight} (home : Sees settings start drained tag pair d (Some v) a m)
    (below : v < settings.volumes) (b : Sight) where
  abbrev pub Answered : Reply → Type 0
  Answered r = IsAnswered settings start drained tag (command.Del pair) r a b

  -- for want of memory behind calls that made no act
  quiet_wanted : Idle tag m b → Answered reply.NoMem
  quiet_wanted idle = wants_memory settings start drained (unchanged_more (idle_unchanged home.idle) (idle_unchanged idle)) (command.Del pair) (λ pick e. absurd (cc e))

  pub closed_answered : {machine : ℕ} {r : Reply} → AtVolume v (Closes settings start drained v tag machine) m b → IsReadOnly v machine r → Answered r
  closed_answered x (inl is) = subst Answered (sym is) (del.del_closed settings start drained tag home below x)
  closed_answered x (inr is) = subst Answered (sym is) (quiet_wanted (quiet_went x ((x.is).is).0))

  module _ (open_machines : drained_in settings drained v ≡ None) where
    abbrev pub here : StoreVolume
    here = record { settings = settings; start = start; number = v }

    pub delete_answered : (answer : Delete) (r : Reply) → AtVolume v (DeleteTells here tag pair answer) m b → IsDeleteReply v d answer r → Answered r
    delete_answered (delete.Deleted p) r x is =
        subst Answered (sym is) (del.del_done settings start drained tag home below open_machines (call_as _ (calls.Deleted settings start v tag pair p) x x.is))
    delete_answered (delete.Absent p) r x is =
        subst Answered (sym is) (del.del_absent settings start drained tag home below open_machines (call_as _ (calls.MetAbsent settings start v tag pair p) x x.is))
    delete_answered (delete.Frozen by) r x is =
        closed_answered (call_as _ (Closes settings start drained v tag by) x (del.frozen_closes settings start drained v tag x.is)) is
    delete_answered (delete.Failed by f) r x is =
        subst Answered (sym is) (del.del_failed settings start drained tag home below open_machines (call_as _ (calls.DeleteFailed settings start v tag pair by f) x x.is))
    delete_answered (delete.Damaged by at) r x is = absurd x.is
    delete_answered delete.NoMemory r x is =
        subst Answered (sym is) (del.del_wanted settings start drained tag home below open_machines (call_as _ (calls.DeleteWanted settings start v tag pair) x x.is))
