-- Where all locks have ended, nothing else happened.
use Rattle.std.proofs.Common.{◌≡◌, ◌≤◌, inl, inr, ℕ, List, [], map, length, refl, sym, ap, subst}
use Rattle.std.proofs.lemmas.Bool.{cases_lt}
use Rattle.std.proofs.lemmas.List.{length-map}
use mathlib.Core.List.{IsPrefix}
use Rattle.hay_needle.specs.declared.settings.Settings.{Settings}
use Rattle.hay_core.specs.declared.entry.Entry.{Entry}
use Rattle.hay_turn.specs.Acts.{AllBelow}
use Rattle.hay_meeting.specs.declared.act.VolumeAct.{VolumeAct}
use Rattle.hay_meeting.specs.Acts.{Happened, Start, row_lock, volume_lock}
use Rattle.hay_meeting.specs.Chains.{BeginsAt, IsWhole, StoreAt, WholeAt}
use Rattle.hay_meeting.specs.Locks.{Lock, LockSight}
use Rattle.hay_meeting.specs.Sights.{Sight}
use Rattle.hay_legal.specs.declared.known.Known.{Known}
use Rattle.hay_meeting.proofs.Opening.{lanes_begin, nothing_yet}
use Rattle.std.specs.List.{AllByRecursion as Each}
use Rattle.hay_history.proofs.Lists.{each_weaker}
use Rattle.hay_shared_volume.specs.Ends.{Ended, unseen}
use Rattle.hay_block.specs.Ends.{IsNew, LocksEnded, OpensAt}
use Rattle.hay_block.proofs.Lists.{each_at, mapped}

-- WHERE LOCKS END

module _ {S E X T : Type 0} (lock : Lock S E X T) (at : Sight → LockSight E X) (sights : List Sight) where
  whole_at : (h : List E) → Ended lock (map at sights) h → WholeAt lock at (length sights) sights h
  whole_at h ended = record {
    below = subst (λ n. AllBelow lock.seat n h) (length-map sights at) ended.below;
    seen = λ lane s there. ended.seen lane (at s) (mapped at sights lane s there);
    own = λ lane s there. ended.own lane (at s) (mapped at sights lane s there);
    shown = λ lane s there. ended.shown lane (at s) (mapped at sights lane s there);
  }

  -- of a lock that is none
  none_at : Each (λ s. at s ≡ unseen) sights → WholeAt lock at (length sights) sights []
  none_at unknown = record {
    below = tt;
    seen = λ lane s there. subst (λ (z : LockSight E X). IsPrefix z.seen []) (sym (each_at (λ s. at s ≡ unseen) sights lane s unknown there)) ([], refl);
    own = λ lane s there. sym (ap (λ (z : LockSight E X). z.own) (each_at (λ s. at s ≡ unseen) sights lane s unknown there));
    shown = λ lane s there. subst (λ (z : LockSight E X). IsPrefix z.shown []) (sym (each_at (λ s. at s ≡ unseen) sights lane s unknown there)) ([], refl);
  }

module _ {settings : Settings} {start : Start} {sights : List Sight} {h : Happened} (ends : LocksEnded settings start sights h) where
  volume_whole : (v : ℕ) → WholeAt volume_lock (λ s. s.volumes v) (length sights) sights (h.volumes v)
  volume_whole v = elim (cases_lt v settings.volumes) [
    | inl below ↦ whole_at volume_lock (λ s. s.volumes v) sights (h.volumes v) (ends.volumes v below).ended
    | inr high ↦ subst (WholeAt volume_lock (λ s. s.volumes v) (length sights) sights) (sym (ends.no_others v high))
        (none_at volume_lock (λ s. s.volumes v) sights (unknown_at sights high ends.unknown))
  ]
    where
      unknown_at : (sights : List Sight) → settings.volumes ≤ v → Each (λ s. (v : ℕ) → settings.volumes ≤ v → s.volumes v ≡ unseen) sights → Each (λ s. s.volumes v ≡ unseen) sights
      unknown_at sights high each = each_weaker (λ (s : Sight). (v : ℕ) → settings.volumes ≤ v → s.volumes v ≡ unseen) (λ s. s.volumes v ≡ unseen) (λ s is. is v high) sights each

  pub locks_whole : IsWhole settings start (length sights) sights h
  locks_whole = record {
    many = refl;
    sound = record {
      follows = λ v below. (ends.volumes v below).follows;
      sized = λ v below. (ends.volumes v below).sized;
      follows_rows = (ends.directory).follows;
    };
    volumes = volume_whole;
    directory = whole_at row_lock (λ s. s.directory) sights h.directory (ends.directory).ended;
  }

-- WHERE THEY ARE MADE

pub opened_there : {settings : Settings} {start : Start} {k : Known} → OpensAt settings start k → StoreAt settings start k nothing_yet
opened_there opens = record {
  stands = record { volumes = opens.volumes; rows = opens.rows };
  store = (opens.settled).store;
  regular = (opens.settled).regular;
  disks = (opens.settled).disks;
  runs = λ v j run below within stands. refl;
}

pub new_lanes_begin : (sights : List Sight) → Each IsNew sights → BeginsAt (length sights) sights nothing_yet
new_lanes_begin sights new = lanes_begin sights
    (λ lane s there v. ap (λ (z : LockSight VolumeAct Entry). z.own) ((each_at IsNew sights lane s new there).volumes v))
    (λ lane s there. ap (λ z. z.own) (each_at IsNew sights lane s new there).directory)
