-- What a line saw of the volume for which the row of its pair is, and of the tries before it.
use Rattle.std.proofs.Common.{◌≡◌, inl, inr, ℕ, suc, ◌<◌, List, [], ◌∷◌, length, slice_get, Contains, Some, refl, sym, ap, subst, ◌∙◌}
use Rattle.std.specs.Prelude.{◌==◌, not, take_while}
use Rattle.std.specs.List.{cons_option, filter_map}
use Rattle.std.proofs.lemmas.Bool.{true≢false}
use Rattle.std.proofs.lemmas.Option.{none-some, same_Some}
use Rattle.hay_needle.specs.declared.needle.Pair.{Pair}
use Rattle.hay_needle.specs.declared.settings.Settings.{Settings}
use Rattle.hay_script.specs.declared.Command.TheVariants as command
use Rattle.hay_reply.specs.declared.LineVolume.{LineVolume}
use Rattle.hay_reply.specs.declared.Refused.{Refused}
use Rattle.hay_reply.specs.declared.Refused.TheVariants.{Closed, NoRoom}
use Rattle.hay_core.specs.declared.entry.CoreTag.{CoreTag}
use Rattle.hay_legal.specs.declared.known.DirKnown.{DirKnown}
use Rattle.hay_legal.specs.declared.known.HomeRow.{HomeRow}
use Rattle.hay_legal.specs.declared.known.Known.{Known}
use Rattle.hay_legal.specs.declared.known.PendingRow.{PendingRow}
use Rattle.hay_legal.specs.declared.turn.Item.TheVariants as asks
use Rattle.hay_legal.specs.declared.turn.LaneItem.{LaneItem}
use Rattle.hay_legal.specs.Known.{all_tries, drained_of, room_refusal_of}
use Rattle.hay_legal.specs.Blocks.{GotRow, MayRefuse, PassedFrozen, tag_of}
use Rattle.hay_history.specs.LaneSteps.{RowDid, RowStep}
use Rattle.hay_history.specs.LaneSteps.RowDid.{AddsRow, Drains, FusesRow, PendsRow, TriesRow}
use Rattle.hay_history.specs.Histories.{Course, History, SeesRefusal, SeesTaker, closing_then, first_rows, row_line, row_note, volume_then}
use Rattle.hay_history.specs.Commands.{CameInLanes}
use Rattle.hay_history.proofs.Lists.{each_in, first_or_rest, none_in}
use Rattle.hay_history.proofs.Lines.{course_of, same_line}
use Rattle.hay_history.proofs.Meeting.{SawFrozen, SawThawed, closing_frozen, refused_closed, refused_room, thawed_of, thawed_room}
use Rattle.hay_history.proofs.Rows.{adds_line, pends_line}
use Rattle.hay_history.proofs.Takers.{pending_step, row_left}
use Rattle.hay_history.proofs.Refusing.{refused_then}

-- ROWS THAT ARE NOTED

-- a step that added the row of which this is noted
record Noted (steps : List RowStep) (named : LineVolume) : Type 0 where
  place : ℕ
  step : RowStep
  row : HomeRow
  at : slice_get steps place ≡ Some step
  did : step.did ≡ AddsRow row
  is : record { line = (step.tag).line; volume = row.volume } ≡ named

noted : (steps : List RowStep) (named : LineVolume) → Contains (filter_map row_line steps) named → Noted steps named
noted [] named among = absurd (none_in named among)
noted (step ∷ steps) named among = by step.did refl among (noted steps named)
  where
    later : Noted steps named → Noted (step ∷ steps) named
    later x = record { place = suc x.place; step = x.step; row = x.row; at = x.at; did = x.did; is = x.is }

    by : (did : RowDid) → step.did ≡ did → Contains (cons_option (row_line (record { tag = step.tag; did = did; after = step.after })) (filter_map row_line steps)) named
        → (Contains (filter_map row_line steps) named → Noted steps named) → Noted (step ∷ steps) named
    by (AddsRow row) did among rest = elim (first_or_rest (record { line = (step.tag).line; volume = row.volume }) (filter_map row_line steps) named among) [
      | inl same ↦ record { place = 0; step = step; row = row; at = refl; did = did; is = same }
      | inr behind ↦ later (rest behind)
    ]
    by TriesRow did among rest = later (rest among)
    by (PendsRow row) did among rest = later (rest among)
    by (Drains m is) did among rest = later (rest among)
    by FusesRow did among rest = later (rest among)

-- a line that saw a volume take a photo saw it thawed
pub taker_thawed : (c : Course) (pair : Pair) (size v : ℕ) → SeesTaker c pair size v → SawThawed c v
taker_thawed c pair size v sees =
    let opened = thawed_room v (closing_then c v sees.moment) (room_refusal_of c.settings v (volume_then c v sees.moment) size) sees.takes in
    (sees.moment, (sees.seen).0, (thawed_of (volume_then c v sees.moment).frozen (drained_of c.settings c.k v) opened).0)

module _ {settings : Settings} {k : Known} {items : List LaneItem} {history : History} {t : Known} (h : CameInLanes settings k items history t) (item : LaneItem)
    (among : Contains items item) where
  -- THE VOLUME OF THE ROW

  -- the line is a put, and saw the volume take its photo
  pub record SawTaker (v : ℕ) : Type 0 where
    pub pair : Pair
    pub bytes : List ℕ
    pub put : item.item ≡ asks.Command (command.Put pair bytes)
    pub taker : SeesTaker (course_of h item) pair (length bytes) v

  saw_taker : (line : LaneItem) (pair : Pair) (bytes : List ℕ) (u v : ℕ) → line ≡ item → line.item ≡ asks.Command (command.Put pair bytes) → u ≡ v
      → SeesTaker (course_of h line) pair (length bytes) u → SawTaker v
  saw_taker line pair bytes u v is put same taker = record {
    pair = pair;
    bytes = bytes;
    put = ap (λ (x : LaneItem). x.item) (sym is) ∙ put;
    taker = subst (λ (x : LaneItem). SeesTaker (course_of h x) pair (length bytes) v) is (subst (SeesTaker (course_of h line) pair (length bytes)) same taker);
  }

  pub got_row : (v : ℕ) → GotRow k (row_note k history) t item v → SawTaker v
  got_row v (inl named) =
      let found = noted history.directory (record { line = item.line; volume = v }) named in
      let line = adds_line h found.place found.step found.row found.at found.did in
      saw_taker line.item line.pair line.bytes ((line.added).row).volume v
      (same_line h line.item item line.among among (ap (λ (tag : CoreTag). tag.line) line.own ∙ ap (λ (n : LineVolume). n.line) found.is))
      line.put (ap (λ (r : HomeRow). r.volume) line.is ∙ ap (λ (n : LineVolume). n.volume) found.is) (line.added).taker
  got_row v (inr (thawed, frozen, (pair, pending))) = elim (pending_step (first_rows k) history.directory h.follows_rows) [
    | inl same ↦ absurd (true≢false (sym frozen ∙ ap (λ (d : DirKnown). d.frozen) (h.directory).directory ∙ same.0 ∙ thawed))
    | inr by ↦
        let line = pends_line h by.place by.step by.row by.there by.is in
        let left = row_left h line.item line.pair (length line.bytes) line.among line.pends in
        let same = same_Some (record { tag = tag_of line.item; row = record { pair = line.pair; volume = (line.pends).v } })
        (record { tag = tag_of item; row = record { pair = pair; volume = v } }) (sym (left.2).2 ∙ pending) in
        saw_taker line.item line.pair line.bytes (line.pends).v v (same_line h line.item item line.among among (ap (λ (p : PendingRow). (p.tag).line) same))
        line.put (ap (λ (p : PendingRow). (p.row).volume) same) (line.pends).taker
  ]

  pub got_thawed : (v : ℕ) → GotRow k (row_note k history) t item v → SawThawed (course_of h item) v
  got_thawed v got = let saw = got_row v got in taker_thawed (course_of h item) saw.pair (length saw.bytes) v saw.taker

  -- THE TRIES BEFORE IT

  pub passed_frozen : (v : ℕ) → v < settings.volumes → PassedFrozen settings k items (row_note k history) t v item → SawFrozen (course_of h item) v
  passed_frozen v below (pair, bytes, w, put, got, before, opened, never) =
      let saw = got_row w got in
      let same : asks.Command (command.Put saw.pair saw.bytes) ≡ asks.Command (command.Put pair bytes) = sym saw.put ∙ put in
      let own_pair : saw.pair ≡ pair = cc in
      let own_bytes : saw.bytes ≡ bytes = cc in
      let refuses = each_in (λ u. (refused : Refused) × SeesRefusal (course_of h item) (length saw.bytes) u refused)
      (take_while (λ u. not (u == w)) (all_tries settings saw.pair)) v (saw.taker).before
      (subst (λ (p : Pair). Contains (take_while (λ u. not (u == w)) (all_tries settings p)) v) (sym own_pair) before) in
      by refuses.0 (subst (λ (b : List ℕ). SeesRefusal (course_of h item) (length b) v refuses.0) own_bytes refuses.1)
    where
      by : (refused : Refused) → SeesRefusal (course_of h item) (length bytes) v refused → SawFrozen (course_of h item) v
      by (Closed u m) sees =
          let is = refused_closed (course_of h item) (length bytes) v u m sees.moment sees.is in
          closing_frozen h item v sees.moment m below sees.seen (λ closed. none-some m (sym opened ∙ closed)) is.1
      by (NoRoom u m end need) sees =
          let is = refused_room (course_of h item) (length bytes) v u m end need sees.moment sees.is in
          let may = refused_then h v below sees.moment (length bytes) (NoRoom u m end need) sees.is in
          absurd (never m end need (subst (λ (x : ℕ). MayRefuse settings k items t (length bytes) v (NoRoom x m end need)) (sym is.0) may))
