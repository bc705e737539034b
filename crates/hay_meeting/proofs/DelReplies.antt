-- A delete did what its reply says.
use Rattle.std.proofs.Common.{◌≡◌, inl, inr, ℕ, ◌+◌, ◌<◌, Bool, List, [], ◌∷◌, length, sym, ap, subst, ◌∙◌}
use Rattle.std.specs.List.{list_any}
use Rattle.hay_needle.specs.declared.needle.Pair.{Pair}
use Rattle.hay_needle.specs.declared.settings.Settings.{Settings}
use Rattle.hay_needle.specs.Tables.{outcome_at}
use Rattle.hay_reply.specs.declared.ClosedBy.{ClosedBy}
use Rattle.hay_reply.specs.declared.Reply.{Reply}
use Rattle.hay_reply.specs.declared.Reply.TheVariants.{Absent, Deleted, Failed, NoMem, ReadOnly, Unknown}
use Rattle.hay_legal.specs.declared.known.Known.{Known}
use Rattle.hay_legal.specs.declared.known.VolumeKnown.{VolumeKnown}
use Rattle.hay_legal.specs.declared.turn.LaneItem.{LaneItem}
use Rattle.hay_legal.specs.Known.{now, replica_at, replicas_of, stands}
use Rattle.hay_history.specs.Histories.{Course, SeesOpen}
use Rattle.hay_history.specs.Commands.{DelAbsent, DelDid, DelDone, DelFailed, DelWanting, FailedOpen, HomeIsClosed, stood_then}
use Rattle.hay_meeting.specs.declared.act.VolumeAct.{VolumeAct}
use Rattle.hay_meeting.specs.Acts.{Happened, Start, volume_lock}
use Rattle.hay_meeting.specs.Facts.{stood_at}
use Rattle.hay_meeting.specs.Locks.{Doing, Held, IsDoing}
use Rattle.hay_meeting.specs.Replies.{DelAbsentHere, DelDidHere, DelDoneHere, DelFailedHere, DelWantingHere, FailedOpenHere, HomeIsClosedHere}
use Rattle.hay_meeting.specs.Sights.{Bears, Cut, Doings, Sight, Work}
use Rattle.hay_meeting.proofs.Courses.{at_doing, c, doing_held}
use Rattle.hay_meeting.proofs.PutReplies.{left_pending}
use Rattle.hay_meeting.proofs.ReadReplies.{look_froze}
use Rattle.hay_meeting.proofs.Seeing.{among_own, closing_is, doing_among, did_nothing, failed_in, home_seen, moment_held, no_rows, no_steps, nothing_on, one_held, one_is}
use Rattle.hay_meeting.proofs.Seeing.{one_step, only_on, place_at, volume_held}

module _ {settings : Settings} {start : Start} {drained : List Bool} {k : Known} {cut : Cut} {h : Happened} {item : LaneItem} {a b : Sight} {doings : Doings}
    (bears : Bears settings start drained k cut h item a b) (work : Work item a b doings) where
  abbrev line : Course
  line = c bears work

  stood_is : (v : ℕ) (held : List VolumeAct) (pair : Pair) → v < settings.volumes → Held volume_lock (a.volumes v) (b.volumes v) held
      → stood_then line v (place_at bears work v held) pair ≡ stood_at settings start drained a b v held pair
  stood_is v held pair below x =
      ap (λ (z : VolumeKnown). list_any (λ j. stands (outcome_at (now z (replica_at z j)) pair)) (replicas_of settings)) (volume_held bears work v held below x)

  done : {pair : Pair} {v p d : ℕ} → DelDoneHere settings start drained item a b doings pair v p d → DelDone line pair v p d
  done {pair} {v} x =
      let held : List VolumeAct = ((x.doing).one).held in
      let between = one_held bears work x.doing in record {
        home = home_seen bears work x.home;
        below = x.below;
        rows = no_rows bears work x.rows;
        elsewhere = only_on bears work x.elsewhere;
        step = one_step bears work x.doing;
        «open» = closing_is bears work v held x.below between ∙ x.«open»;
        stood = stood_is v held pair x.below between ∙ x.stood;
        position = x.position ∙ ap (λ (z : VolumeKnown). length z.log + 1) (sym (volume_held bears work v held x.below between));
      }

  absent : {pair : Pair} {v p d : ℕ} → DelAbsentHere settings start drained item a b doings pair v p d → DelAbsent line pair v p d
  absent {pair} {v} x =
      let found = x.found in
      let held : List VolumeAct = found.held in record {
        home = home_seen bears work x.home;
        moment = place_at bears work v held;
        seen = moment_held bears work v held found.between;
        «open» = closing_is bears work v held found.below found.between ∙ (found.is).0;
        nothing = stood_is v held pair found.below found.between ∙ (found.is).1;
        front = (found.is).2 ∙ ap (λ (z : VolumeKnown). length z.log) (sym (volume_held bears work v held found.below found.between));
        none = did_nothing bears work x.none;
      }

  home_is_closed : (pair : Pair) (by : List ClosedBy) → HomeIsClosedHere settings start drained item a b doings pair by → HomeIsClosed line pair by
  home_is_closed pair [] x = absurd x
  home_is_closed pair (by ∷ []) ((d, home), found) = (
    (d, home_seen bears work home),
    record {
      moment = place_at bears work by.volume found.held;
      seen = moment_held bears work by.volume found.held found.between;
      is = closing_is bears work by.volume found.held found.below found.between ∙ found.is;
    },
  )
  home_is_closed pair (by ∷ other ∷ more) x = absurd x

  failed_open : (v m f : ℕ) (d : Doing VolumeAct) → v < settings.volumes → IsDoing volume_lock (a.volumes v) (b.volumes v) d → FailedOpenHere settings start drained item a b doings v m d f
      → FailedOpen line v m (place_at bears work v d.held) f
  failed_open v m f d below is x =
      (closing_is bears work v d.held below (doing_held volume_lock (bears.volumes v) (work.volumes v).later d is) ∙ x.0, failed_in bears work d below is x.1)

  failed : {pair : Pair} {v m f : ℕ} → DelFailedHere settings start drained item a b doings pair v m f → DelFailed line pair v m f
  failed {pair} {v} {m} {f} x = record {
    d = x.d;
    home = home_seen bears work x.home;
    below = x.below;
    rows = no_rows bears work x.rows;
    elsewhere = only_on bears work x.elsewhere;
    which = elim x.which [
      | inl looked ↦
          let try = looked.0 in
          let is = doing_among bears work v try.one try.among in
          inl (
            record {
              place = place_at bears work v (try.one).held;
              step = (at_doing bears work v try.one).1;
              among = among_own bears work v try.one try.among;
              none = nothing_on bears work v try.none;
              is = try.is;
            },
            failed_open v m f try.one x.below is looked.1,
          )
      | inr deleted ↦
          let doing = deleted.0 in
          inr (
            one_step bears work doing,
            failed_open v m f doing.one x.below (one_is bears work doing) deleted.1,
            stood_is v (doing.one).held pair x.below (one_held bears work doing) ∙ deleted.2,
          )
    ];
  }

  wanting : (pair : Pair) → DelWantingHere settings start drained item a b doings pair → DelWanting line pair
  wanting pair (rows, inl none) = (no_rows bears work rows, inl (no_steps bears work none))
  wanting pair (rows, inr (inl (froze, found))) =
      let r = look_froze bears work froze in
      let «open» : SeesOpen line froze.v = record {
        moment = place_at bears work froze.v found.held;
        seen = moment_held bears work froze.v found.held found.between;
        is = closing_is bears work froze.v found.held found.below found.between ∙ found.is;
      } in
      (no_rows bears work rows, inr (inl (r.0, subst (SeesOpen line) (sym r.1) «open»)))
  wanting pair (rows, inr (inr pending)) = (
    no_rows bears work rows,
    inr (inr (left_pending bears work
        (λ v held below x takes. (closing_is bears work v held below x ∙ takes.0, stood_is v held pair below x ∙ takes.1)) pending)),
  )

  pub del_did : (pair : Pair) (reply : Reply) → DelDidHere settings start drained item a b doings pair reply → DelDid line pair reply
  del_did pair (Deleted v p d) x = done x
  del_did pair (Absent v p d) x = absent x
  del_did pair (Unknown d) (home, none) = (home_seen bears work home, did_nothing bears work none)
  del_did pair (ReadOnly by) (closed, none) = (home_is_closed pair by closed, did_nothing bears work none)
  del_did pair (Failed v m f) x = failed x
  del_did pair NoMem x = wanting pair x
  del_did pair _ x = absurd x
