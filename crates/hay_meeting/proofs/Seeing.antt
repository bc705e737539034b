-- What a lane saw and found is what its line might see of the history.
use Rattle.std.proofs.Common.{◌≡◌, ℕ, ◌+◌, ◌-◌, ◌<◌, ◌≤◌, Bool, List, [], ◌∷◌, length, map, take, drop, sym, ap, subst, ◌∙◌, arith, Contains, Option}
use Rattle.std.specs.Prelude.{◌==◌, not, take_while}
use Rattle.std.specs.List.{AllByRecursion as Each}
use Rattle.std.proofs.lemmas.List.{take-append-drop}
use mathlib.Core.List.{IsPrefix}
use Rattle.hay_needle.specs.declared.needle.Pair.{Pair}
use Rattle.hay_needle.specs.declared.settings.Settings.{Settings}
use Rattle.hay_disk.specs.Counts.{Rose}
use Rattle.hay_reply.specs.declared.Refused.{Refused}
use Rattle.hay_core.specs.declared.entry.CoreTag.{CoreTag}
use Rattle.hay_core.specs.declared.entry.Entry.{Entry}
use Rattle.hay_legal.specs.declared.known.HomeRow.{HomeRow}
use Rattle.hay_legal.specs.declared.known.Known.{Known}
use Rattle.hay_legal.specs.declared.known.VolumeKnown.{VolumeKnown}
use Rattle.hay_legal.specs.declared.turn.LaneItem.{LaneItem}
use Rattle.hay_legal.specs.Known.{all_tries, closed_by, drained_of, home_in, now, refusal_by, replica_at, room_refusal_of}
use Rattle.hay_history.specs.LaneSteps.{Did, Follows, RowDid, RowsStanding, Step}
use Rattle.hay_history.specs.Histories.{Course, HasRunOf, IsMoment, IsRowMoment, NoRows, NoSteps, OneRowStep, OneStep, OnlyOn, SeesHome, SeesRefusal, SeesTaker, begun_by, changes}
use Rattle.hay_history.specs.Histories.{changes_it, changes_rows, closing_then, first_of, own, refusal_then, rows_standing, standing, volume_then}
use Rattle.hay_history.specs.Commands.{FailedIn, IsLast, RoseIn}
use Rattle.hay_turn.proofs.Prefixes.{prefix_trans}
use Rattle.hay_history.proofs.Lists.{each_in, each_kept, each_weaker}
use Rattle.hay_meeting.specs.declared.act.DirAct.{DirAct}
use Rattle.hay_meeting.specs.declared.act.VolumeAct.{VolumeAct}
use Rattle.hay_meeting.specs.Acts.{Happened, Start, begun_of, did_of, nobody, row_did_of, row_lock, volume_lock}
use Rattle.hay_meeting.specs.Facts.{FailedAt, FoundRefusal, FoundRows, FoundTaker, HasRunAt, IsLastDoing, NoNewRows, NothingDone, NothingOn, OneDoing, OneRowDoing, OnlyAt, RoseAt}
use Rattle.hay_meeting.specs.Facts.{SawFront, SawHome, changed, closing_at, drained_in, refusal_at, rows_shown, table_shown, volume_stood}
use Rattle.hay_meeting.specs.Locks.{Doing, Held, IsDoing, LockSight, entries, moment_of, past, replayed}
use Rattle.hay_meeting.specs.Sights.{Agrees, Bears, Cut, Doings, Sight, Work, stood}
use Rattle.hay_meeting.proofs.Courses.{at_doing, at_row_doing, c, changes_are, doing_held, doing_past, held_from, held_in, held_low, held_to, own_are, past_at, past_cut}
use Rattle.hay_meeting.proofs.Courses.{row_changes_are, rows_at, rows_behind_held, sight_from, sight_to, standing_at, standing_behind, take_cut}
use Rattle.hay_meeting.proofs.Picking.{each_map, in_map}
use Rattle.hay_meeting.proofs.Replays.{prefix_take, shown_then}
use Rattle.hay_meeting.proofs.Standings.{begun_append, begun_replayed, follows_first, front_behind, rows_behind_acts, table_behind}

module _ {settings : Settings} {start : Start} {drained : List Bool} {k : Known} {cut : Cut} {h : Happened} {item : LaneItem} {a b : Sight} {doings : Doings}
    (bears : Bears settings start drained k cut h item a b) (work : Work item a b doings) where
  abbrev line : Course
  line = c bears work

  -- THE DIRECTORY

  pub home_seen : {pair : Pair} {d : ℕ} {home : Option ℕ} → SawHome settings start drained a b pair d home → SeesHome line pair d home
  home_seen {pair} {d} {home} saw =
      let s : LockSight DirAct HomeRow = saw.sight in
      let m : ℕ = moment_of row_lock h.directory s in
      let low : cut.rows ≤ m = past_cut row_lock bears.directory (work.directory).later s saw.from in
      let shown : IsPrefix s.shown (entries row_lock h.directory) = prefix_trans s.shown (b.directory).shown (entries row_lock h.directory) (saw.to).shown (bears.directory).shown in
      let rows : ((rows_standing line (m - cut.rows)).directory).rows ≡ rows_shown start s.shown =
      ap (λ (r : RowsStanding). (r.directory).rows) (rows_at bears work m low)
      ∙ (rows_behind_acts start.directory (take m h.directory) ∙ ap (rows_shown start) (shown_then row_lock h.directory s shown)) in record {
        moment = m - cut.rows;
        seen = (sight_from row_lock bears.directory (work.directory).later s saw.from, sight_to row_lock bears.directory (work.directory).later s saw.to);
        front = saw.front ∙ ap length (sym rows);
        is = ap (λ z. home_in z pair) rows ∙ saw.is;
      }

  -- what stood of it as it was held
  pub found_rows : {IsSo : RowsStanding → Type 0} → FoundRows settings start drained a b IsSo → (moment : ℕ) × IsRowMoment line moment × IsSo (rows_standing line moment)
  found_rows {IsSo} found =
      let at = bears.directory in
      let later = (work.directory).later in
      let held : List DirAct = found.held in (
        length held - cut.rows,
        (held_from row_lock at later held found.between, held_to row_lock at later held found.between),
        subst IsSo (sym (rows_behind_held bears work held (held_low row_lock at later held (found.between).from) (held_in row_lock at later held found.between))) found.is,
      )

  -- A VOLUME

  pub moment_held : (v : ℕ) (held : List VolumeAct) → Held volume_lock (a.volumes v) (b.volumes v) held → IsMoment line v (length held - cut.volumes v)
  moment_held v held x = (held_from volume_lock (bears.volumes v) (work.volumes v).later held x, held_to volume_lock (bears.volumes v) (work.volumes v).later held x)

  pub agrees_held : (v : ℕ) (held : List VolumeAct) → v < settings.volumes → Held volume_lock (a.volumes v) (b.volumes v) held
      → Agrees settings.replicas (standing line v (length held - cut.volumes v)) (stood start v held)
  agrees_held v held below x =
      standing_behind bears work v held below (held_low volume_lock (bears.volumes v) (work.volumes v).later held x.from) (held_in volume_lock (bears.volumes v) (work.volumes v).later held x)

  pub volume_held : (v : ℕ) (held : List VolumeAct) → v < settings.volumes → Held volume_lock (a.volumes v) (b.volumes v) held
      → volume_then line v (length held - cut.volumes v) ≡ volume_stood start v held
  volume_held v held below x = (agrees_held v held below x).volume

  -- what was shown of it by its view
  pub record ShownThen (v p : ℕ) (shown : List Entry) : Type 0 where
    pub moment : ℕ
    pub seen : IsMoment line v moment
    pub front : p ≡ length (volume_then line v moment).log
    pub tables : (j : ℕ) → now (volume_then line v moment) (replica_at (volume_then line v moment) j) ≡ table_shown start v j shown

  pub front_seen : {v p : ℕ} → v < settings.volumes → (saw : SawFront settings start drained a b v p) → ShownThen v p (saw.sight).shown
  front_seen {v} {p} below saw =
      let at = bears.volumes v in
      let later = (work.volumes v).later in
      let s : LockSight VolumeAct Entry = saw.sight in
      let m : ℕ = moment_of volume_lock (h.volumes v) s in
      let acts : List VolumeAct = take m (h.volumes v) in
      let low : cut.volumes v ≤ m = past_cut volume_lock at later s saw.from in
      let shown : IsPrefix s.shown (entries volume_lock (h.volumes v)) = prefix_trans s.shown (b.volumes v).shown (entries volume_lock (h.volumes v)) (saw.to).shown at.shown in
      let there : entries volume_lock acts ≡ s.shown = shown_then volume_lock (h.volumes v) s shown in
      let is : volume_then line v (m - cut.volumes v) ≡ volume_stood start v acts = (standing_at bears work v m below low).volume in
      let follows = follows_first settings v (start.volumes v) acts (drop m (h.volumes v))
      (subst (λ z. Follows settings v (start.volumes v) (replayed volume_lock (start.volumes v) z)) (sym (take-append-drop m (h.volumes v))) ((bears.sound).follows v below)) in record {
        moment = m - cut.volumes v;
        seen = (sight_from volume_lock at later s saw.from, sight_to volume_lock at later s saw.to);
        front =
            saw.front ∙ (ap (λ z. length ((start.volumes v).volume).log + length z) (sym there)
            ∙ (sym (front_behind settings v (start.volumes v) acts follows) ∙ ap (λ (x : VolumeKnown). length x.log) (sym is)));
        tables = λ j. ap (λ (x : VolumeKnown). now x (replica_at x j)) is ∙ (table_behind settings v (start.volumes v) acts j follows ∙ ap (table_shown start v j) there);
      }

  pub closing_is : (v : ℕ) (held : List VolumeAct) → v < settings.volumes → Held volume_lock (a.volumes v) (b.volumes v) held
      → closing_then line v (length held - cut.volumes v) ≡ closing_at settings start drained a b v held
  closing_is v held below x =
      ap (λ (z : VolumeKnown). closed_by z.frozen (drained_of settings k v)) (volume_held v held below x)
      ∙ ap (λ z. closed_by (volume_stood start v held).frozen (drained_in settings z v)) bears.drains

  pub refusal_is : (v : ℕ) (held : List VolumeAct) (size : ℕ) → v < settings.volumes → Held volume_lock (a.volumes v) (b.volumes v) held
      → refusal_then line v (length held - cut.volumes v) size ≡ refusal_at settings start drained a b v held size
  refusal_is v held size below x =
      ap (λ z. refusal_by v z (room_refusal_of settings v (volume_then line v (length held - cut.volumes v)) size)) (closing_is v held below x)
      ∙ ap (λ (z : VolumeKnown). refusal_by v (closing_at settings start drained a b v held) (room_refusal_of settings v z size)) (volume_held v held below x)

  abbrev pub place_at : ℕ → List VolumeAct → ℕ
  place_at v held = length held - cut.volumes v

  pub refusal_seen : {size v : ℕ} {refused : Refused} → FoundRefusal settings start drained a b size v refused → SeesRefusal line size v refused
  refusal_seen {size} {v} {refused} found =
      record { moment = place_at v found.held; seen = moment_held v found.held found.between; is = refusal_is v found.held size found.below found.between ∙ found.is }

  pub taker_seen : {pair : Pair} {size v : ℕ} → FoundTaker settings start drained a b pair size v → SeesTaker line pair size v
  taker_seen {pair} {size} {v} found =
      let takes = found.takes in record {
        tried = found.tried;
        moment = place_at v takes.held;
        seen = moment_held v takes.held takes.between;
        takes = refusal_is v takes.held size takes.below takes.between ∙ takes.is;
        before = each_weaker (λ u. (refused : Refused) × FoundRefusal settings start drained a b size u refused) (λ u. (refused : Refused) × SeesRefusal line size u refused)
            (λ u r. (r.0, refusal_seen r.1)) (take_while (λ u. not (u == v)) (all_tries settings pair)) found.before;
      }

  -- DOINGS

  pub doing_of : (v : ℕ) (d : Doing VolumeAct) (rest : List (Doing VolumeAct)) → changed (doings.volumes v) ≡ d ∷ rest → IsDoing volume_lock (a.volumes v) (b.volumes v) d
  doing_of v d rest first =
      (subst (Each (IsDoing volume_lock (a.volumes v) (b.volumes v))) first
      (each_kept (IsDoing volume_lock (a.volumes v) (b.volumes v)) (λ doing. changes_it (did_of (doing.act).did)) (doings.volumes v) (work.volumes v).each)).0

  pub one_is : {v : ℕ} {did : Did} (doing : OneDoing (doings.volumes v) did) → IsDoing volume_lock (a.volumes v) (b.volumes v) doing.one
  one_is {v} doing = doing_of v doing.one [] doing.only

  pub one_held : {v : ℕ} {did : Did} (doing : OneDoing (doings.volumes v) did) → Held volume_lock (a.volumes v) (b.volumes v) (doing.one).held
  one_held {v} doing = doing_held volume_lock (bears.volumes v) (work.volumes v).later doing.one (one_is doing)

  abbrev pub one_step : {v : ℕ} {did : Did} → OneDoing (doings.volumes v) did → OneStep line v did
  one_step {v} doing = record {
    place = place_at v (doing.one).held;
    step = (at_doing bears work v doing.one).1;
    only = changes_are bears work v ∙ ap (map (at_doing bears work v)) doing.only;
    is = doing.is;
  }

  pub row_is : {did : RowDid} (doing : OneRowDoing doings.rows did) → IsDoing row_lock a.directory b.directory doing.one
  row_is doing =
      (subst (Each (IsDoing row_lock a.directory b.directory)) doing.only
      (each_kept (IsDoing row_lock a.directory b.directory) (λ d. changes_rows (row_did_of (d.act).did)) doings.rows (work.directory).each)).0

  abbrev pub one_row_step : {did : RowDid} → OneRowDoing doings.rows did → OneRowStep line did
  one_row_step doing = record {
    place = length (doing.one).held - cut.rows;
    step = (at_row_doing bears work doing.one).1;
    only = row_changes_are bears work ∙ ap (map (at_row_doing bears work)) doing.only;
    is = doing.is;
  }

  pub nothing_on : (v : ℕ) → changed (doings.volumes v) ≡ [] → changes line v ≡ []
  nothing_on v none = changes_are bears work v ∙ ap (map (at_doing bears work v)) none

  pub no_steps : NothingOn settings start drained a b doings → NoSteps line
  no_steps none v = nothing_on v (none v)

  pub only_on : {v : ℕ} → OnlyAt settings start drained a b doings v → OnlyOn line v
  only_on only u differs = nothing_on u (only u differs)

  pub no_rows : NoNewRows settings start drained a b doings → NoRows line
  no_rows none = row_changes_are bears work ∙ ap (map (at_row_doing bears work)) none

  pub did_nothing : NothingDone settings start drained a b doings → NoSteps line × NoRows line
  did_nothing none = (no_steps none.0, no_rows none.1)

  -- what holds of each doing holds of each step
  pub each_own : (v : ℕ) (P : ℕ × Step → Type 0) → Each (λ d. P (at_doing bears work v d)) (doings.volumes v) → Each P (own line v)
  each_own v P each = subst (Each P) (sym (own_are bears work v)) (each_map (at_doing bears work v) P (doings.volumes v) each)

  pub among_own : (v : ℕ) (d : Doing VolumeAct) → Contains (doings.volumes v) d → Contains (own line v) (at_doing bears work v d)
  among_own v d among = subst (λ z. Contains z (at_doing bears work v d)) (sym (own_are bears work v)) (in_map (at_doing bears work v) (doings.volumes v) d among)

  pub doing_among : (v : ℕ) (d : Doing VolumeAct) → Contains (doings.volumes v) d → IsDoing volume_lock (a.volumes v) (b.volumes v) d
  doing_among v d among = each_in (IsDoing volume_lock (a.volumes v) (b.volumes v)) (doings.volumes v) d (work.volumes v).each among

  -- COUNTS

  pub rose_in : {v j f : ℕ} (d : Doing VolumeAct) → v < settings.volumes → IsDoing volume_lock (a.volumes v) (b.volumes v) d → RoseAt settings start drained a b v d j f
      → RoseIn line v (place_at v d.held) j f
  rose_in {v} {j} {f} d below is rose =
      let at = bears.volumes v in
      let later = (work.volumes v).later in
      let first : (standing line v (place_at v d.held)).faults j ≡ (stood start v d.held).faults j =
      (agrees_held v d.held below (doing_held volume_lock at later d is)).faults j rose.within in
      let last : (standing line v (place_at v d.held + 1)).faults j ≡ (stood start v (past d)).faults j =
      ap (λ (n : ℕ). (standing line v n).faults j) (sym (past_at volume_lock at later d is))
      ∙ (agrees_held v (past d) below (doing_past volume_lock at later d is)).faults j rose.within in (
        subst (λ (n : ℕ). Rose n ((standing line v (place_at v d.held + 1)).faults j)) (sym first)
            (subst (λ (n : ℕ). Rose ((stood start v d.held).faults j) n) (sym last) rose.rose),
        rose.printed ∙ sym last,
      )

  pub is_last : (v : ℕ) (d : Doing VolumeAct) → IsLastDoing (doings.volumes v) d → IsLast line v (place_at v d.held)
  is_last v d last = each_own v (λ at. at.0 ≤ place_at v d.held)
      (each_weaker (λ e. length e.held ≤ length d.held) (λ e. place_at v e.held ≤ place_at v d.held) (λ e le. omega (arith, le)) (doings.volumes v) last)

  pub failed_in : {v m f : ℕ} (d : Doing VolumeAct) → v < settings.volumes → IsDoing volume_lock (a.volumes v) (b.volumes v) d → FailedAt settings start drained a b (doings.volumes v) v m d f
      → FailedIn line v m (place_at v d.held) f
  failed_in {v} d below is failed = (failed.replica, failed.there, rose_in d below is failed.rose, is_last v d failed.last)

  -- RUNS

  pub begun_held : (v j : ℕ) (held : List VolumeAct) → Held volume_lock (a.volumes v) (b.volumes v) held
      → begun_by j ((line.history).begun v j) ((line.history).volumes v) (place_at v held) ≡ begun_of j nobody held
  begun_held v j held x =
      let at = bears.volumes v in
      let later = (work.volumes v).later in
      let low : cut.volumes v ≤ length held = held_low volume_lock at later held x.from in
      let new : List VolumeAct = drop (cut.volumes v) (h.volumes v) in
      let before : List VolumeAct = take (cut.volumes v) (h.volumes v) in
      let m : ℕ = place_at v held in
      let sum : cut.volumes v + m ≡ length held = omega (arith, low) in
      begun_replayed j (begun_of j nobody before) (first_of settings k v) new m
      ∙ (sym (begun_append j nobody before (take m new))
      ∙ ap (begun_of j nobody) (take_cut (cut.volumes v) m (h.volumes v) ∙ (ap (λ (n : ℕ). take n (h.volumes v)) sum ∙ prefix_take held (h.volumes v) (held_in volume_lock at later held x))))

  abbrev pub has_run : {v j : ℕ} {tag : CoreTag} (held : List VolumeAct) → v < settings.volumes → Held volume_lock (a.volumes v) (b.volumes v) held → HasRunAt settings start drained a b v j held tag
      → HasRunOf line v j (place_at v held) tag
  has_run {v} {j} held below x has = record {
    run = has.run;
    stands = ap (λ (z : VolumeKnown). (replica_at z j).run) (volume_held v held below x) ∙ has.stands;
    begun = begun_held v j held x ∙ has.begun;
  }

  pub had_run : {v j : ℕ} {tag : CoreTag} (held : List VolumeAct) → v < settings.volumes → Held volume_lock (a.volumes v) (b.volumes v) held → HasRunOf line v j (place_at v held) tag
      → HasRunAt settings start drained a b v j held tag
  had_run {v} {j} held below x has = record {
    run = has.run;
    stands = sym (ap (λ (z : VolumeKnown). (replica_at z j).run) (volume_held v held below x)) ∙ has.stands;
    begun = sym (begun_held v j held x) ∙ has.begun;
  }
