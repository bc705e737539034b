-- The rows that a line added stand between what its lane printed before and behind it, and no lane that met the Directory frozen adds one.
use Rattle.std.proofs.Common.{◌≡◌, ◌≢◌, inl, inr, ℕ, suc, ◌<◌, ◌≤◌, ◌+◌, ◌==◌, Bool, true, false, cond, List, [], ◌∷◌, length, slice_get, Contains, Option, Some, None, refl, sym}
use Rattle.std.proofs.Common.{ap, subst, ◌∙◌, arith}
use Rattle.std.specs.List.{AllByRecursion as Each, cons_option, filter_map}
use Rattle.std.proofs.lemmas.Bool.{cases_lt, eqb-true, true≢false}
use Rattle.std.proofs.lemmas.List.{length_push}
use Rattle.std.proofs.lemmas.Option.{none-some}
use Rattle.hay_needle.specs.declared.needle.Pair.{Pair}
use Rattle.hay_needle.specs.declared.settings.Settings.{Settings}
use Rattle.hay_url.specs.declared.Url.{Url as UrlParts}
use Rattle.hay_script.specs.declared.Command.TheVariants as command
use Rattle.hay_reply.specs.declared.LineVolume.{LineVolume}
use Rattle.hay_reply.specs.declared.Reply.{Reply}
use Rattle.hay_reply.specs.declared.Reply.TheVariants as reply
use Rattle.hay_core.specs.declared.entry.CoreTag.{CoreTag}
use Rattle.hay_legal.specs.declared.known.DirKnown.{DirKnown}
use Rattle.hay_legal.specs.declared.known.HomeRow.{HomeRow}
use Rattle.hay_legal.specs.declared.known.Known.{Known}
use Rattle.hay_legal.specs.declared.turn.Item.{Item}
use Rattle.hay_legal.specs.declared.turn.Item.TheVariants as asks
use Rattle.hay_legal.specs.declared.turn.LaneItem.{LaneItem}
use Rattle.hay_legal.specs.Known.{EachPair, home_in, replica_on}
use Rattle.hay_legal.specs.Blocks.{InOrder, MetRowsFrozen, MetRowsOpen, Printed, printed, row_added, row_print, tag_of}
use Rattle.hay_legal.proofs.Subject.Effects.{home_stays}
use Rattle.hay_history.specs.LaneSteps.{FollowsRows, LeadsRows, RowDid, RowsStanding, RowStep}
use Rattle.hay_history.specs.LaneSteps.RowDid.{AddsRow, Drains, FusesRow, PendsRow, TriesRow}
use Rattle.hay_history.specs.Histories.{Course, History, IsLater, SeesHome, first_rows, own_rows, row_line, row_note, row_steps_of, rows_behind, rows_standing}
use Rattle.hay_history.specs.Commands.{CameInLanes, CompactDid, FlushDid, GetDid, ItemDid, PutDid, RowPends}
use Rattle.hay_history.proofs.Histories.{along_rows, leads_rows_at, rows_behind_step}
use Rattle.hay_history.proofs.Lists.{each_in, pair_by}
use Rattle.hay_history.proofs.Trying.{one_own_row}
use Rattle.hay_history.proofs.Lines.{answered, at_own_row, course_of, own_leads_rows, same_line}
use Rattle.hay_history.proofs.Rows.{MayAnswerAdded, StaysFrozen, adds_line, lengthens_to, rows_grow, rows_moment, stays_frozen_step, stays_frozen_trans}

-- THE POSITIONS OF ROWS

each_noted : (P : Printed → Type 0) (n : ℕ) (named : LineVolume) (rest : List LineVolume) (item : LaneItem)
    → (named.line ≡ item.line → P (printed (n + 1) true))
    → Each P (row_added (record { from = n + 1; rows = rest }) item) → Each P (row_added (record { from = n; rows = named ∷ rest }) item)
each_noted P n named rest item here later =
    elim (named.line == item.line) as (λ (b : Bool). (b ≡ true → P (printed (n + 1) true))
    → Each P (cons_option (cond b (Some (printed (n + 1) true)) None) (row_added (record { from = n + 1; rows = rest }) item))) [
      | true ↦ λ own. (own refl, later)
      | false ↦ λ own. later
    ] (λ e. here (eqb-true named.line item.line e))

above_all : (m n : ℕ) (named : List LineVolume) (item : LaneItem) → m ≤ n → Each (InOrder (printed m true)) (row_added (record { from = n; rows = named }) item)
above_all m n [] item le = tt
above_all m n (x ∷ xs) item le =
    each_noted (InOrder (printed m true)) n x xs item (λ same. omega (arith, le)) (above_all m (n + 1) xs item (omega (arith, le)))

pub rows_rise : (n : ℕ) (named : List LineVolume) (item : LaneItem) → EachPair InOrder (row_added (record { from = n; rows = named }) item)
rows_rise n [] item = tt
rows_rise n (x ∷ xs) item =
    elim (x.line == item.line) as (λ (b : Bool). EachPair InOrder (cons_option (cond b (Some (printed (n + 1) true)) None) (row_added (record { from = n + 1; rows = xs }) item))) [
      | true ↦ (above_all (n + 1) (n + 1) xs item (omega arith), rows_rise (n + 1) xs item)
      | false ↦ rows_rise (n + 1) xs item
    ]

-- what holds of each step of a line that added a row holds of the positions of its rows
each_own : (P : Printed → Type 0) (item : LaneItem) (before : RowsStanding) (steps : List RowStep) → FollowsRows before steps
    → ((i : ℕ) (s : RowStep) (row : HomeRow) → slice_get steps i ≡ Some s → s.did ≡ AddsRow row → (s.tag).line ≡ item.line
    → P (printed (length ((rows_behind before steps i).directory).rows + 1) true))
    → Each P (row_added (record { from = length (before.directory).rows; rows = filter_map row_line steps }) item)
each_own P item before [] f own = tt
each_own P item before (step ∷ steps) f own =
    by step.tag step.did step.after f.0 (λ row did same. own 0 step row refl did same)
    (each_own P item step.after steps f.3 (λ i s row at did same. own (suc i) s row at did same))
  where
    by : (tag : CoreTag) (did : RowDid) (after : RowsStanding) → LeadsRows tag did before after
        → ((row : HomeRow) → did ≡ AddsRow row → tag.line ≡ item.line → P (printed (length (before.directory).rows + 1) true))
        → Each P (row_added (record { from = length (after.directory).rows; rows = filter_map row_line steps }) item)
        → Each P (row_added
        (record { from = length (before.directory).rows; rows = cons_option (row_line (record { tag = tag; did = did; after = after })) (filter_map row_line steps) }) item)
    by tag TriesRow after h here rest =
        subst (λ (n : ℕ). Each P (row_added (record { from = n; rows = filter_map row_line steps }) item)) (ap (λ (d : DirKnown). length d.rows) h) rest
    by tag (AddsRow row) after h here rest =
        each_noted P (length (before.directory).rows) (record { line = tag.line; volume = row.volume }) (filter_map row_line steps) item (λ same. here row refl same)
        (subst (λ (n : ℕ). Each P (row_added (record { from = n; rows = filter_map row_line steps }) item))
        (ap (λ (d : DirKnown). length d.rows) h.1 ∙ length_push (before.directory).rows row) rest)
    by tag (PendsRow row) after h here rest =
        subst (λ (n : ℕ). Each P (row_added (record { from = n; rows = filter_map row_line steps }) item)) (ap (λ (d : DirKnown). length d.rows) h.1) rest
    by tag (Drains m is) after h here rest =
        subst (λ (n : ℕ). Each P (row_added (record { from = n; rows = filter_map row_line steps }) item)) (ap (λ (d : DirKnown). length d.rows) h) rest
    by tag FusesRow after h here rest =
        subst (λ (n : ℕ). Each P (row_added (record { from = n; rows = filter_map row_line steps }) item)) (ap (λ (d : DirKnown). length d.rows) h) rest

-- WHAT A LINE PRINTS BEHIND ITS ROW

behind_own : (c : Course) (pair : Pair) (bytes : List ℕ) (n : ℕ) (r : Reply) → MayAnswerAdded c pair (length bytes) r → PutDid c pair bytes r
    → ((d v : ℕ) → SeesHome c pair d (Some v) → n ≤ d) → Each (InOrder (printed n true)) (row_print r)
behind_own c pair bytes n (reply.Stored v p d cookie) may did sees = (sees d v did.home, tt)
behind_own c pair bytes n (reply.Full refused) may did sees = tt
behind_own c pair bytes n (reply.ReadOnly by) may did sees = tt
behind_own c pair bytes n (reply.Failed v m f) may did sees = tt
behind_own c pair bytes n reply.NoMem may did sees = tt
behind_own c pair bytes n _ may did sees = absurd may

module _ {settings : Settings} {k : Known} {items : List LaneItem} {history : History} {t : Known} (h : CameInLanes settings k items history t) (item : LaneItem)
    (among : Contains items item) where
  -- A step of the line that added a row.
  record OwnRow (i : ℕ) (row : HomeRow) : Type 0 where
    from : ((h.from item.line).rows ≤ i) × (i < (h.to item.line).rows)
    thawed : ((rows_moment k history i).directory).frozen ≡ false
    missing : home_in ((rows_moment k history i).directory).rows row.pair ≡ None
    longer : length ((rows_moment k history (i + 1)).directory).rows ≡ length ((rows_moment k history i).directory).rows + 1

  own_row : (i : ℕ) (s : RowStep) (row : HomeRow) → slice_get history.directory i ≡ Some s → s.did ≡ AddsRow row → (s.tag).line ≡ item.line → OwnRow i row
  own_row i s row at did same =
      let mine : Contains (own_rows (course_of h item)) (i, s) =
      subst (λ (n : ℕ). Contains (row_steps_of history.directory n) (i, s)) same (at_own_row history.directory i s at) in
      let led = subst (λ (d : RowDid). LeadsRows s.tag d (rows_moment k history i) s.after) did
      (leads_rows_at (first_rows k) history.directory i s h.follows_rows at).0 in
      record {
        from = each_in (λ (x : ℕ × RowStep). ((h.from item.line).rows ≤ x.0) × (x.0 < (h.to item.line).rows)) (own_rows (course_of h item)) (i, s)
            (answered h item among).rows mine;
        thawed = led.0.0;
        missing = led.0.1;
        longer = ap (λ (st : RowsStanding). length (st.directory).rows) (rows_behind_step (first_rows k) history.directory i s at)
            ∙ ap (λ (d : DirKnown). length d.rows) led.1 ∙ length_push ((rows_moment k history i).directory).rows row;
      }

  -- a home that was seen behind the row was seen with it
  seen_behind : (i : ℕ) (row : HomeRow) → OwnRow i row → (d v : ℕ) → SeesHome (course_of h item) row.pair d (Some v)
      → length ((rows_moment k history i).directory).rows + 1 ≤ d
  seen_behind i row own d v sees = elim (cases_lt i sees.moment) [
    | inl later ↦
        let grows = rows_grow h (i + 1) sees.moment (omega (arith, later)) in
        let longer = own.longer in
        let front : d ≡ length ((rows_moment k history sees.moment).directory).rows = sees.front in
        omega (arith, grows, longer, front)
    | inr before ↦
        let kept = lengthens_to (first_rows k) history.directory h.follows_rows sees.moment i before in
        let home : home_in ((rows_moment k history i).directory).rows row.pair ≡ Some v =
        ap (λ (rows : List HomeRow). home_in rows row.pair) kept.1
        ∙ home_stays ((rows_moment k history sees.moment).directory).rows kept.0 row.pair v sees.is in
        absurd (none-some v (sym own.missing ∙ home))
  ]

  print_behind : (i : ℕ) (s : RowStep) (row : HomeRow) → slice_get history.directory i ≡ Some s → s.did ≡ AddsRow row → (s.tag).line ≡ item.line
      → Each (InOrder (printed (length ((rows_moment k history i).directory).rows + 1) true)) (row_print item.reply)
  print_behind i s row at did same =
      let line = adds_line h i s row at did in
      let is : line.item ≡ item = same_line h line.item item line.among among (ap (λ (tag : CoreTag). tag.line) line.own ∙ same) in
      let own_pair : line.pair ≡ row.pair = sym ((line.added).own_pair) ∙ ap (λ (r : HomeRow). r.pair) line.is in
      by line.pair line.bytes own_pair (ap (λ (x : LaneItem). x.item) (sym is) ∙ line.put)
      (subst (λ (x : LaneItem). MayAnswerAdded (course_of h x) line.pair (length line.bytes) x.reply) is line.reply)
    where
      by : (pair : Pair) (bytes : List ℕ) → pair ≡ row.pair → item.item ≡ asks.Command (command.Put pair bytes) → MayAnswerAdded (course_of h item) pair (length bytes) item.reply
          → Each (InOrder (printed (length ((rows_moment k history i).directory).rows + 1) true)) (row_print item.reply)
      by pair bytes own put may =
          behind_own (course_of h item) pair bytes (length ((rows_moment k history i).directory).rows + 1) item.reply may
          (subst (λ (it : Item). ItemDid (course_of h item) it item.reply) put (answered h item among).did)
          (λ d v sees. seen_behind i row (own_row i s row at did same) d v (subst (λ (p : Pair). SeesHome (course_of h item) p d (Some v)) own sees))

  -- what the line printed of the Directory stands behind its row
  pub prints_behind : Each (λ p. Each (InOrder p) (row_print item.reply)) (row_added (row_note k history) item)
  prints_behind = each_own (λ p. Each (InOrder p) (row_print item.reply)) item (first_rows k) history.directory h.follows_rows print_behind

  -- the rows of the line stand between what there was when it began and when it ended
  pub rows_between : (P : Printed → Type 0)
      → ((n : ℕ) → length ((rows_moment k history (h.from item.line).rows).directory).rows < n
      → n ≤ length ((rows_moment k history (h.to item.line).rows).directory).rows → P (printed n true))
      → Each P (row_added (row_note k history) item)
  rows_between P holds =
      each_own P item (first_rows k) history.directory h.follows_rows (λ i s row at did same.
      let own = own_row i s row at did same in
      let before = rows_grow h (h.from item.line).rows i (own.from).0 in
      let until = (own.from).1 in
      let later = rows_grow h (i + 1) (h.to item.line).rows (omega (arith, until)) in
      let longer = own.longer in
      holds (length ((rows_moment k history i).directory).rows + 1) (omega (arith, before)) (omega (arith, longer, later)))

  -- a line that knows the home of its pair adds no row
  pub adds_none : (pair : Pair) (bytes : List ℕ) (v n : ℕ) → item.item ≡ asks.Command (command.Put pair bytes) → n ≤ (h.from item.line).rows
      → home_in ((rows_moment k history n).directory).rows pair ≡ Some v → row_added (row_note k history) item ≡ []
  adds_none pair bytes v n put low home =
      nothing (row_added (row_note k history) item) (each_own (λ p. ⊥) item (first_rows k) history.directory h.follows_rows (λ i s row at did same.
      let line = adds_line h i s row at did in
      let is : line.item ≡ item = same_line h line.item item line.among among (ap (λ (tag : CoreTag). tag.line) line.own ∙ same) in
      let own_pair : line.pair ≡ row.pair = sym ((line.added).own_pair) ∙ ap (λ (r : HomeRow). r.pair) line.is in
      of_row i row (own_row i s row at did same) (sym own_pair ∙ same_pair line.pair line.bytes (ap (λ (x : LaneItem). x.item) (sym is) ∙ line.put))))
    where
      nothing : (shown : List Printed) → Each (λ p. ⊥) shown → shown ≡ []
      nothing [] each = refl
      nothing (p ∷ shown) each = absurd each.0

      same_pair : (other : Pair) (photo : List ℕ) → item.item ≡ asks.Command (command.Put other photo) → other ≡ pair
      same_pair other photo is = let same : asks.Command (command.Put other photo) ≡ asks.Command (command.Put pair bytes) = sym is ∙ put in cc

      of_row : (i : ℕ) (row : HomeRow) → OwnRow i row → row.pair ≡ pair → ⊥
      of_row i row own same =
          let since = (own.from).0 in
          let kept = lengthens_to (first_rows k) history.directory h.follows_rows n i (omega (arith, low, since)) in
          let stays : home_in ((rows_moment k history i).directory).rows pair ≡ Some v =
          ap (λ (rows : List HomeRow). home_in rows pair) kept.1 ∙ home_stays ((rows_moment k history n).directory).rows kept.0 pair v home in
          none-some v (sym own.missing ∙ ap (λ (p : Pair). home_in ((rows_moment k history i).directory).rows p) same ∙ stays)

  -- THE DIRECTORY FROZEN

  -- the line saw the Directory frozen by then, or thawed from then on
  abbrev pub SawRowsFrozen : Type 0
  SawRowsFrozen = (n : ℕ) × (n ≤ (h.to item.line).rows) × (((rows_moment k history n).directory).frozen ≡ true)

  abbrev SawRowsThawed : Type 0
  SawRowsThawed = (n : ℕ) × ((h.from item.line).rows ≤ n) × (((rows_moment k history n).directory).frozen ≡ false)

  -- the line that froze it saw it so, and frozen then
  froze_rows : (pair : Pair) (size : ℕ) → RowPends (course_of h item) pair size → SawRowsFrozen × SawRowsThawed
  froze_rows pair size pends =
      let c = course_of h item in
      let step = pends.step in
      let at : ℕ × RowStep = (step.place, step.step) in
      let own : Contains (own_rows c) at = one_own_row c (PendsRow (record { pair = pair; volume = pends.v })) step in
      let leads = own_leads_rows h item among at own in
      let did = subst (λ (did : RowDid). LeadsRows (tag_of item) did (rows_standing c step.place) (rows_standing c (step.place + 1))) step.is leads.0 in
      let seen = each_in (λ (at : ℕ × RowStep). ((c.from).rows ≤ at.0) × (at.0 < (c.to).rows)) (own_rows c) at (answered h item among).rows own in
      let until : step.place < (c.to).rows = seen.1 in
      ((step.place + 1, omega (arith, until), ap (λ (d : DirKnown). d.frozen) did.1), (step.place, seen.0, did.0.0))

  none_of_get : (url : UrlParts) (o : Option ℕ) → GetDid (course_of h item) url o reply.ReadOnlyDir → ⊥
  none_of_get url None did = did
  none_of_get url (Some start) did = did.0

  none_of_flush : (u m : ℕ) (o : Option ℕ) → FlushDid (course_of h item) u m o reply.ReadOnlyDir → ⊥
  none_of_flush u m None did = did
  none_of_flush u m (Some j) did = did

  none_of_compact : (u m : ℕ) (o : Option ℕ) → CompactDid (course_of h item) u m o reply.ReadOnlyDir → ⊥
  none_of_compact u m None did = did
  none_of_compact u m (Some j) did = did

  refused_rows : (it : Item) → ItemDid (course_of h item) it reply.ReadOnlyDir → SawRowsFrozen
  refused_rows (asks.Command (command.Put pair bytes)) did = (did.4.0, (did.4.1).1, did.4.2)
  refused_rows (asks.Command (command.Get url)) did = absurd (none_of_get url (replica_on settings url.volume url.machine) did)
  refused_rows (asks.Command (command.Flush u m)) did = absurd (none_of_flush u m (replica_on settings u m) did)
  refused_rows (asks.Command (command.Compact u m)) did = absurd (none_of_compact u m (replica_on settings u m) did)
  refused_rows asks.Bad did = let clash : reply.ReadOnlyDir ≡ reply.BadLine = did.0 in absurd cc
  refused_rows it did = search

  added_rows : row_added (row_note k history) item ≢ [] → SawRowsThawed
  added_rows some = by (row_added (row_note k history) item) some
      (each_own (λ p. SawRowsThawed) item (first_rows k) history.directory h.follows_rows (λ i s row at did same.
      let own = own_row i s row at did same in (i, (own.from).0, own.thawed)))
    where
      by : (ps : List Printed) → ps ≢ [] → Each (λ p. SawRowsThawed) ps → SawRowsThawed
      by [] some each = absurd (some refl)
      by (p ∷ ps) some each = each.0

-- a line that froze the Directory, or met it frozen, saw it so
pub rows_frozen_seen : {settings : Settings} {k : Known} {items : List LaneItem} {history : History} {t : Known} (h : CameInLanes settings k items history t)
    (froze : LaneItem) (pair : Pair) (size : ℕ) → RowPends (course_of h froze) pair size → (a : LaneItem) (in_a : Contains items a) → MetRowsFrozen froze a
    → SawRowsFrozen h a in_a
rows_frozen_seen h froze pair size pends a in_a met = elim met [
  | inl is ↦ (froze_rows h a in_a pair size (subst (λ (x : LaneItem). RowPends (course_of h x) pair size) is pends)).0
  | inr refused ↦ refused_rows h a in_a a.item (subst (λ (r : Reply). ItemDid (course_of h a) a.item r) refused (answered h a in_a).did)
]

-- a lane that met the Directory frozen adds no row from then on
pub lanes_meet_rows : {settings : Settings} {k : Known} {items : List LaneItem} {history : History} {t : Known} (h : CameInLanes settings k items history t)
    (froze : LaneItem) (pair : Pair) (size : ℕ) → RowPends (course_of h froze) pair size
    → EachPair (λ a b. a.lane ≡ b.lane → MetRowsFrozen froze a → MetRowsOpen (row_note k history) froze b → ⊥) items
lanes_meet_rows {settings} {k} {items} {history} {t} h froze pair size pends =
    pair_by (λ a b. a.lane ≡ b.lane → IsLater (h.to a.line) (h.from b.line))
    (λ a b. a.lane ≡ b.lane → MetRowsFrozen froze a → MetRowsOpen (row_note k history) froze b → ⊥) items
    (λ a b in_a in_b later same met opened.
    let first : SawRowsFrozen h a in_a = rows_frozen_seen h froze pair size pends a in_a met in
    let then : SawRowsThawed h b in_b = elim opened [
      | inl is ↦ (froze_rows h b in_b pair size (subst (λ (x : LaneItem). RowPends (course_of h x) pair size) is pends)).1
      | inr some ↦ added_rows h b in_b some
    ] in
    let apart = (later same).rows in
    let until = first.1 in
    let since = then.1 in
    let kept = along_rows StaysFrozen (first_rows k) history.directory (λ a frozen. refl) stays_frozen_trans stays_frozen_step h.follows_rows first.0 then.0
    (omega (arith, apart, until, since)) first.2 in
    true≢false (sym (ap (λ (d : DirKnown). d.frozen) kept ∙ first.2) ∙ then.2))
    h.«order»
