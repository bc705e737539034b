-- A line that is answered in several parts, each between two sights: what it did in all, and what it saw in one of them.
use Rattle.std.proofs.Common.{◌≡◌, ℕ, ◌≤◌, Bool, List, [], ◌∷◌, ◌++◌, length, map, refl, sym, ap, ◌∙◌, length-append, arith, append_assoc, append-nil, Option, take_while, not}
use Rattle.std.specs.Prelude.{◌==◌}
use Rattle.std.specs.List.{AllByRecursion as Each}
use Rattle.std.proofs.lemmas.List.Elements.{filter-append}
use mathlib.Core.List.{IsPrefix}
use mathlib.Core.List.{map-append}
use Rattle.hay_needle.specs.declared.needle.Pair.{Pair}
use Rattle.hay_needle.specs.declared.settings.Settings.{Settings}
use Rattle.hay_reply.specs.declared.Refused.{Refused}
use Rattle.hay_core.specs.declared.entry.CoreTag.{CoreTag}
use Rattle.hay_legal.specs.declared.turn.LaneItem.{LaneItem}
use Rattle.hay_legal.specs.Known.{all_tries, home_in, now, replica_at}
use Rattle.hay_legal.proofs.Subject.Effects.{each_append}
use Rattle.hay_history.specs.LaneSteps.{Follows, RowsStanding}
use Rattle.hay_history.specs.Histories.{changes_it, changes_rows}
use Rattle.hay_history.proofs.Lists.{each_weaker}
use Rattle.hay_turn.proofs.Prefixes.{prefix_trans}
use Rattle.hay_meeting.specs.declared.act.DirAct.{DirAct}
use Rattle.hay_meeting.specs.declared.act.VolumeAct.{VolumeAct}
use Rattle.hay_meeting.specs.Acts.{Start, did_of, row_did_of, row_lock, volume_lock}
use Rattle.hay_meeting.specs.Facts.{Found, FoundRefusal, FoundRows, FoundTaker, IsLastDoing, SawFront, SawHome, changed, changed_rows, table_shown, volume_stood}
use Rattle.hay_meeting.specs.Locks.{Doing, Held, IsDoing, IsLaterAt, Lock, LockSight, Rises, Worked, entries, past, replayed}
use Rattle.hay_meeting.specs.Sights.{Doings, IsLaterSight, Sight, Work, rows_stood}
use Rattle.hay_meeting.proofs.Chaining.{later_at, same_at}
use Rattle.hay_meeting.proofs.Replays.{entries_prefix, prefix_length}
use Rattle.hay_meeting.proofs.Standings.{front_behind, rows_behind_acts, table_behind}

-- ONE LOCK

module _ {S E X T : Type 0} (lock : Lock S E X T) where
  pub held_wider : {a' a b b' : LockSight E X} {held : List E} → IsLaterAt a' a → IsLaterAt b b' → Held lock a b held → Held lock a' b' held
  held_wider {a'} {a} {b} {b'} {held} before after x = record {
    from = prefix_trans a'.seen a.seen held before.seen x.from;
    shown_from = prefix_trans a'.shown a.shown (entries lock held) before.shown x.shown_from;
    to = prefix_trans held b.seen b'.seen x.to after.seen;
    shown_to = prefix_trans (entries lock held) b.shown b'.shown x.shown_to after.shown;
  }

  pub doing_wider : {a' a b b' : LockSight E X} → IsLaterAt a' a → IsLaterAt b b' → (d : Doing E) → IsDoing lock a b d → IsDoing lock a' b' d
  doing_wider {a'} {a} {b} {b'} before after d x = record {
    from = prefix_trans a'.seen a.seen d.held before.seen x.from;
    shown_from = prefix_trans a'.shown a.shown (entries lock d.held) before.shown x.shown_from;
    to = prefix_trans (past d) b.seen b'.seen x.to after.seen;
    shown_to = prefix_trans (entries lock (past d)) b.shown b'.shown x.shown_to after.shown;
  }

  -- doings that end before acts, and doings that begin behind them
  rises_more : (before middle : List E) (ds es : List (Doing E)) → IsPrefix before middle → Rises lock before ds → Each (λ d. IsPrefix (past d) middle) ds → Rises lock middle es
      → Rises lock before (ds ++ es)
  rises_more before middle [] [] p rises within more = tt
  rises_more before middle [] (e ∷ es) p rises within more = (prefix_trans before middle e.held p more.0, more.1)
  rises_more before middle (d ∷ ds) es p rises within more = (rises.0, rises_more (past d) middle ds es within.0 rises.1 within.1 more)

  pub worked_more : {tag : CoreTag} {a m b : LockSight E X} {ds es : List (Doing E)} → Worked lock tag a m ds → Worked lock tag m b es → Worked lock tag a b (ds ++ es)
  worked_more {tag} {a} {m} {b} {ds} {es} x y =
      let act_of : Doing E → E = λ d. d.act in record {
        later = later_at a m b x.later y.later;
        own = y.own ∙ (ap (λ z. z ++ map act_of es) x.own ∙ (append_assoc a.own (map act_of ds) (map act_of es) ∙ ap (λ z. a.own ++ z) (sym (map-append act_of ds es))));
        rises = rises_more a.seen m.seen ds es (x.later).seen x.rises (each_weaker (IsDoing lock a m) (λ d. IsPrefix (past d) m.seen) (λ d is. is.to) ds x.each) y.rises;
        each = each_append (IsDoing lock a b) ds es
            (each_weaker (IsDoing lock a m) (IsDoing lock a b) (λ d is. doing_wider (same_at a) y.later d is) ds x.each)
            (each_weaker (IsDoing lock m b) (IsDoing lock a b) (λ d is. doing_wider x.later (same_at b) d is) es y.each);
        tags = each_append (λ d. lock.tag d.act ≡ tag) ds es x.tags y.tags;
        seats = each_append (λ d. lock.seat d.act ≡ tag.lane) ds es x.seats y.seats;
      }

  -- it did nothing there, and saw some more
  pub only_saw : {tag : CoreTag} {a b : LockSight E X} → IsLaterAt a b → b.own ≡ a.own → Worked lock tag a b []
  only_saw {tag} {a} {b} later own = record { later = later; own = own ∙ sym (append-nil a.own); rises = tt; each = tt; tags = tt; seats = tt }

  -- what a doing found, and what it left, a holding finds
  pub doing_found : {a b : LockSight E X} {d : Doing E} → IsDoing lock a b d → Held lock a b d.held
  doing_found {a} {b} {d} x = record {
    from = x.from;
    shown_from = x.shown_from;
    to = prefix_trans d.held (past d) b.seen (d.act ∷ [], refl) x.to;
    shown_to = prefix_trans (entries lock d.held) (entries lock (past d)) b.shown (entries_prefix lock d.held (past d) (d.act ∷ [], refl)) x.shown_to;
  }

  pub doing_left : {a b : LockSight E X} {d : Doing E} → IsDoing lock a b d → Held lock a b (past d)
  doing_left {a} {b} {d} x = record {
    from = prefix_trans a.seen d.held (past d) x.from (d.act ∷ [], refl);
    shown_from = prefix_trans a.shown (entries lock d.held) (entries lock (past d)) x.shown_from (entries_prefix lock d.held (past d) (d.act ∷ [], refl));
    to = x.to;
    shown_to = x.shown_to;
  }

  -- the last of the later doings is the last of all
  pub last_behind : {tag : CoreTag} {a m b : LockSight E X} {ds : List (Doing E)} (es : List (Doing E)) (d : Doing E) → Worked lock tag a m ds → IsDoing lock m b d
      → IsLastDoing es d → IsLastDoing (ds ++ es) d
  last_behind {tag} {a} {m} {b} {ds} es d x is last =
      each_append (λ e. length e.held ≤ length d.held) ds es
      (each_weaker (IsDoing lock a m) (λ e. length e.held ≤ length d.held)
      (λ e its. let l = prefix_length (past e) m.seen its.to in let r = prefix_length m.seen d.held is.from in omega (arith, l, r, length-append e.held (e.act ∷ []))) ds x.each)
      last

-- ALL LOCKS

-- doings, and doings behind them
abbrev pub and_then : Doings → Doings → Doings
and_then d e = record { volumes = λ v. d.volumes v ++ e.volumes v; rows = d.rows ++ e.rows }

pub work_more : {item : LaneItem} {a m b : Sight} {d e : Doings} → Work item a m d → Work item m b e → Work item a b (and_then d e)
work_more x y = record {
  volumes = λ v. worked_more volume_lock (x.volumes v) (y.volumes v);
  directory = worked_more row_lock x.directory y.directory;
  arm = let l = x.arm in let r = y.arm in omega (arith, l, r);
}

-- what a line saw in a part it saw in all
module _ {settings : Settings} {start : Start} {drained : List Bool} {a' a b b' : Sight} (before : IsLaterSight a' a) (after : IsLaterSight b b') where
  pub saw_home_wider : {pair : Pair} {d : ℕ} {home : Option ℕ} → SawHome settings start drained a b pair d home → SawHome settings start drained a' b' pair d home
  saw_home_wider x = record {
    sight = x.sight;
    from = later_at a'.directory a.directory x.sight before.directory x.from;
    to = later_at x.sight b.directory b'.directory x.to after.directory;
    front = x.front;
    is = x.is;
  }

  pub saw_front_wider : {v p : ℕ} → SawFront settings start drained a b v p → SawFront settings start drained a' b' v p
  saw_front_wider {v} x = record {
    sight = x.sight;
    from = later_at (a'.volumes v) (a.volumes v) x.sight (before.volumes v) x.from;
    to = later_at x.sight (b.volumes v) (b'.volumes v) x.to (after.volumes v);
    front = x.front;
  }

  pub found_wider : {v : ℕ} {IsSo : List VolumeAct → Type 0} → Found settings start drained a b v IsSo → Found settings start drained a' b' v IsSo
  found_wider {v} x = record { below = x.below; held = x.held; between = held_wider volume_lock (before.volumes v) (after.volumes v) x.between; is = x.is }

  pub found_rows_wider : {IsSo : RowsStanding → Type 0} → FoundRows settings start drained a b IsSo → FoundRows settings start drained a' b' IsSo
  found_rows_wider x = record { held = x.held; between = held_wider row_lock before.directory after.directory x.between; is = x.is }

  pub found_taker_wider : {pair : Pair} {size v : ℕ} → FoundTaker settings start drained a b pair size v → FoundTaker settings start drained a' b' pair size v
  found_taker_wider {pair} {size} {v} x = record {
    tried = x.tried;
    takes = found_wider x.takes;
    before = each_weaker (λ u. (refused : Refused) × FoundRefusal settings start drained a b size u refused) (λ u. (refused : Refused) × FoundRefusal settings start drained a' b' size u refused)
        (λ u r. (r.0, found_wider r.1)) (take_while (λ u. not (u == v)) (all_tries settings pair)) x.before;
  }

-- what changed something in the parts
pub changed_both : (ds es : List (Doing VolumeAct)) → changed (ds ++ es) ≡ changed ds ++ changed es
changed_both ds es = filter-append (λ doing. changes_it (did_of (doing.act).did)) ds es

pub changed_rows_both : (ds es : List (Doing DirAct)) → changed_rows (ds ++ es) ≡ changed_rows ds ++ changed_rows es
changed_rows_both ds es = filter-append (λ doing. changes_rows (row_did_of (doing.act).did)) ds es

-- WHAT A HOLDING FOUND is also what a view of it shows

pub home_held : {settings : Settings} {start : Start} {drained : List Bool} {a b : Sight} {pair : Pair} {d : ℕ} {home : Option ℕ} (held : List DirAct)
    → Held row_lock a.directory b.directory held → d ≡ length ((rows_stood start held).directory).rows → home_in ((rows_stood start held).directory).rows pair ≡ home
    → SawHome settings start drained a b pair d home
home_held {settings} {start} {drained} {a} {b} {pair} held x front is =
    let rows = rows_behind_acts start.directory held in record {
      sight = record { seen = held; own = []; shown = entries row_lock held };
      from = record { seen = x.from; shown = x.shown_from };
      to = record { seen = x.to; shown = x.shown_to };
      front = front ∙ ap length rows;
      is = ap (λ z. home_in z pair) (sym rows) ∙ is;
    }

pub front_held : {settings : Settings} {start : Start} {drained : List Bool} {a b : Sight} {v p : ℕ} (held : List VolumeAct)
    → Follows settings v (start.volumes v) (replayed volume_lock (start.volumes v) held) → Held volume_lock (a.volumes v) (b.volumes v) held
    → p ≡ length (volume_stood start v held).log → (saw : SawFront settings start drained a b v p)
    × ((j : ℕ) → table_shown start v j (saw.sight).shown ≡ now (volume_stood start v held) (replica_at (volume_stood start v held) j))
front_held {settings} {start} {drained} {a} {b} {v} held follows x front = (
  record {
    sight = record { seen = held; own = []; shown = entries volume_lock held };
    from = record { seen = x.from; shown = x.shown_from };
    to = record { seen = x.to; shown = x.shown_to };
    front = front ∙ front_behind settings v (start.volumes v) held follows;
  },
  (λ j. sym (table_behind settings v (start.volumes v) held j follows)),
)
