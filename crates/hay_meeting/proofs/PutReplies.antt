-- A put did what its reply says.
use Rattle.std.proofs.Common.{◌≡◌, inl, inr, ℕ, ◌+◌, ◌-◌, ◌<◌, ◌≤◌, Bool, List, [], ◌∷◌, length, sym, ap, subst, ◌∙◌, arith}
use Rattle.std.specs.List.{AllByRecursion as Each}
use Rattle.hay_needle.specs.declared.needle.Pair.{Pair}
use Rattle.hay_needle.specs.declared.needle.Cookie.{Cookie}
use Rattle.hay_needle.specs.declared.settings.Settings.{Settings}
use Rattle.hay_disk.specs.Counts.{Rose}
use Rattle.hay_reply.specs.declared.Refused.{Refused}
use Rattle.hay_reply.specs.declared.Reply.{Reply}
use Rattle.hay_reply.specs.declared.Reply.TheVariants.{Stored, Full, ReadOnly, ReadOnlyDir, Failed, FailedDir, NoMem}
use Rattle.hay_core.specs.declared.entry.Entry.{Entry}
use Rattle.hay_legal.specs.declared.known.Known.{Known}
use Rattle.hay_legal.specs.declared.known.VolumeKnown.{VolumeKnown}
use Rattle.hay_legal.specs.declared.turn.LaneItem.{LaneItem}
use Rattle.hay_legal.specs.Known.{all_tries}
use Rattle.hay_history.specs.LaneSteps.{RowsStanding}
use Rattle.hay_history.specs.Histories.{Course, SeesRefusal, rows_standing}
use Rattle.hay_history.specs.Commands.{HomeRefuses, LeftPending, MayAddRow, PutDid, PutFailed, PutRefused, PutRowFailed, PutStored, PutWanting, RowPends, SeesRefusals}
use Rattle.hay_history.proofs.Lists.{each_weaker, zip_weaker}
use Rattle.hay_meeting.specs.declared.act.DirAct.{DirAct}
use Rattle.hay_meeting.specs.declared.act.VolumeAct.{VolumeAct}
use Rattle.hay_meeting.specs.Acts.{Happened, Start, row_lock, volume_lock}
use Rattle.hay_meeting.specs.Facts.{FoundRefusal}
use Rattle.hay_meeting.specs.Locks.{Doing, Held, IsDoing, past}
use Rattle.hay_meeting.specs.Replies.{FoundRefusals, HomeRefusesHere, LeftPendingHere, MayAddRowHere, PutDidHere, PutFailedHere, PutRefusedHere, PutRowFailedHere, PutStoredHere}
use Rattle.hay_meeting.specs.Replies.{PutWantingHere, RowPendsHere}
use Rattle.hay_meeting.specs.Sights.{Bears, Cut, Doings, Sight, Work, rows_stood}
use Rattle.hay_meeting.proofs.Courses.{at_row_doing, c, doing_held, doing_past, held_in, held_low, own_rows_are, past_at, rows_behind_held}
use Rattle.hay_meeting.proofs.Picking.{each_map}
use Rattle.hay_meeting.proofs.Seeing.{failed_in, found_rows, home_seen, no_rows, no_steps, one_held, one_is, one_row_step, one_step, only_on, refusal_is, refusal_seen, row_is, taker_seen, volume_held}

module _ {settings : Settings} {start : Start} {drained : List Bool} {k : Known} {cut : Cut} {h : Happened} {item : LaneItem} {a b : Sight} {doings : Doings}
    (bears : Bears settings start drained k cut h item a b) (work : Work item a b doings) where
  abbrev line : Course
  line = c bears work

  pub may_add_row : {pair : Pair} {size : ℕ} → MayAddRowHere settings start drained item a b doings pair size → MayAddRow line pair size
  may_add_row (inl none) = inl (no_rows bears work none)
  may_add_row (inr added) = inr (record { row = added.row; step = one_row_step bears work added.doing; own_pair = added.own_pair; taker = taker_seen bears work added.taker })

  stored : {pair : Pair} {bytes : List ℕ} {v p d : ℕ} {cookie : Cookie} → PutStoredHere settings start drained item a b doings pair bytes v p d cookie → PutStored line pair bytes v p d cookie
  stored {pair} {bytes} {v} x = record {
    row = may_add_row x.row;
    home = home_seen bears work x.home;
    below = x.below;
    own_cookie = x.own_cookie;
    elsewhere = only_on bears work x.elsewhere;
    step = one_step bears work x.doing;
    room = refusal_is bears work v ((x.doing).one).held (length bytes) x.below (one_held bears work x.doing) ∙ x.room;
    position = x.position ∙ ap (λ (z : VolumeKnown). length z.log + 1) (sym (volume_held bears work v ((x.doing).one).held x.below (one_held bears work x.doing)));
  }

  refusals : (pair : Pair) (size : ℕ) (refused : List Refused) → FoundRefusals settings start drained item a b doings pair size refused → SeesRefusals line pair size refused
  refusals pair size refused ((d, home), each) = (
    (d, home_seen bears work home),
    zip_weaker (FoundRefusal settings start drained a b size) (SeesRefusal line size) (all_tries settings pair) refused
        (λ v r among found. refusal_seen bears work found) each,
  )

  home_refuses : (pair : Pair) (size : ℕ) (refused : List Refused) → HomeRefusesHere settings start drained item a b doings pair size refused → HomeRefuses line pair size refused
  home_refuses pair size [] x = absurd x
  home_refuses pair size (refused ∷ []) (d, v, home, found) = (d, v, home_seen bears work home, refusal_seen bears work found)
  home_refuses pair size (refused ∷ other ∷ more) x = absurd x

  refused_all : {pair : Pair} {size : ℕ} {refused : List Refused} → PutRefusedHere settings start drained item a b doings pair size refused → PutRefused line pair size refused
  refused_all {pair} {size} {refused} x = record {
    row = may_add_row x.row;
    nothing = no_steps bears work x.nothing;
    because = elim x.because [
      | inl each ↦ inl (refusals pair size refused each.0, no_rows bears work each.1)
      | inr home ↦ inr (home_refuses pair size refused home)
    ];
  }

  failed : {pair : Pair} {bytes : List ℕ} {v m f : ℕ} → PutFailedHere settings start drained item a b doings pair bytes v m f → PutFailed line pair bytes v m f
  failed {pair} {bytes} {v} x = record {
    row = may_add_row x.row;
    d = x.d;
    home = home_seen bears work x.home;
    below = x.below;
    elsewhere = only_on bears work x.elsewhere;
    step = one_step bears work x.doing;
    room = refusal_is bears work v ((x.doing).one).held (length bytes) x.below (one_held bears work x.doing) ∙ x.room;
    failed = failed_in bears work (x.doing).one x.below (one_is bears work x.doing) x.failed;
  }

  abbrev row_pends : {pair : Pair} {size : ℕ} → RowPendsHere settings start drained item a b doings pair size → RowPends line pair size
  row_pends x = record { v = x.v; step = one_row_step bears work x.doing; taker = taker_seen bears work x.taker }

  row_failed : {pair : Pair} {size f : ℕ} → PutRowFailedHere settings start drained item a b doings pair size f → PutRowFailed line pair size f
  row_failed {pair} {size} {f} x =
      let at = bears.directory in
      let later = (work.directory).later in
      let doing : Doing DirAct = ((x.pends).doing).one in
      let is : IsDoing row_lock a.directory b.directory doing = row_is bears work (x.pends).doing in
      let place : ℕ = length doing.held - cut.rows in
      let before : rows_standing line place ≡ rows_stood start doing.held =
      rows_behind_held bears work doing.held (held_low row_lock at later doing.held is.from) (held_in row_lock at later doing.held (doing_held row_lock at later doing is)) in
      let after : rows_standing line (place + 1) ≡ rows_stood start (past doing) =
      ap (rows_standing line) (sym (past_at row_lock at later doing is))
      ∙ rows_behind_held bears work (past doing) (held_low row_lock at later (past doing) (doing_past row_lock at later doing is).from)
      (held_in row_lock at later (past doing) (doing_past row_lock at later doing is)) in record {
        nothing = no_steps bears work x.nothing;
        pends = row_pends x.pends;
        rose = subst (λ (s : RowsStanding). Rose s.faults (rows_standing line (place + 1)).faults) (sym before)
            (subst (λ (s : RowsStanding). Rose (rows_stood start doing.held).faults s.faults) (sym after) x.rose);
        printed = x.printed ∙ ap (λ (s : RowsStanding). s.faults) (sym after);
        last = subst (Each (λ at. at.0 ≤ place)) (sym (own_rows_are bears work))
            (each_map (at_row_doing bears work) (λ at. at.0 ≤ place) doings.rows
            (each_weaker (λ (e : Doing DirAct). length e.held ≤ length doing.held) (λ e. length e.held - cut.rows ≤ place) (λ e le. omega (arith, le)) doings.rows x.last));
      }

  pub left_pending : {pair : Pair} {change : Entry} {Takes : ℕ → List VolumeAct → Type 0} {TakesThen : ℕ → ℕ → Type 0}
      → ((v : ℕ) (held : List VolumeAct) → v < settings.volumes → Held volume_lock (a.volumes v) (b.volumes v) held → Takes v held → TakesThen v (length held - cut.volumes v))
      → LeftPendingHere settings start drained item a b doings pair change Takes → LeftPending line pair change TakesThen
  left_pending takes x = record {
    d = x.d;
    v = x.v;
    home = home_seen bears work x.home;
    elsewhere = only_on bears work x.elsewhere;
    step = one_step bears work x.doing;
    takes = takes x.v ((x.doing).one).held x.below (one_held bears work x.doing) x.takes;
  }

  wanting : {pair : Pair} {bytes : List ℕ} → PutWantingHere settings start drained item a b doings pair bytes → PutWanting line pair bytes
  wanting (inl (none, pends)) = inl (no_steps bears work none, row_pends pends)
  wanting (inr (row, inl none)) = inr (may_add_row row, inl (no_steps bears work none))
  wanting {pair} {bytes} (inr (row, inr pending)) =
      inr (may_add_row row, inr (left_pending (λ v held below x takes. refusal_is bears work v held (length bytes) below x ∙ takes) pending))

  pub put_did : (pair : Pair) (bytes : List ℕ) (reply : Reply) → PutDidHere settings start drained item a b doings pair bytes reply → PutDid line pair bytes reply
  put_did pair bytes (Stored v p d cookie) x = stored x
  put_did pair bytes (Full refused) x = (refused_all x.0, x.1)
  put_did pair bytes (ReadOnly by) x = refused_all x
  put_did pair bytes ReadOnlyDir (none, rows, (d, home), (v, taker), found) =
      (no_steps bears work none, no_rows bears work rows, (d, home_seen bears work home), (v, taker_seen bears work taker), found_rows bears work found)
  put_did pair bytes (Failed v m f) x = failed x
  put_did pair bytes (FailedDir f) x = row_failed x
  put_did pair bytes NoMem x = wanting x
  put_did pair bytes _ x = absurd x
