-- What a lane's sights and doings are of the history behind a cut.
use Rattle.std.proofs.Common.{◌≡◌, ℕ, ◌+◌, ◌-◌, ◌<◌, ◌≤◌, Bool, List, [], ◌∷◌, ◌++◌, length, map, filter, take, drop, refl, sym, ap, subst, ◌∙◌, arith, length-append}
use Rattle.std.specs.List.{AllByRecursion as Each}
use Rattle.std.proofs.lemmas.List.{length-take-le, take-append-drop, drop-take}
use mathlib.Core.List.{IsPrefix}
use Rattle.hay_needle.specs.declared.settings.Settings.{Settings}
use Rattle.hay_legal.specs.declared.known.Known.{Known}
use Rattle.hay_legal.specs.declared.turn.LaneItem.{LaneItem}
use Rattle.hay_legal.specs.Blocks.{tag_of}
use Rattle.hay_history.specs.LaneSteps.{RowsStanding, RowStep, Standing, Step}
use Rattle.hay_history.specs.Histories.{Course, IsLater, changes, changes_it, changes_rows, first_of, first_rows, own, own_rows, row_changes, rows_standing, standing}
use Rattle.hay_history.specs.Commands.{Answered, LineDid}
use Rattle.hay_turn.proofs.Prefixes.{prefix_trans}
use Rattle.hay_history.proofs.Lists.{each_weaker}
use Rattle.hay_meeting.specs.declared.act.DirAct.{DirAct}
use Rattle.hay_meeting.specs.declared.act.VolumeAct.{VolumeAct}
use Rattle.hay_meeting.specs.Acts.{row_lock, volume_lock}
use Rattle.hay_meeting.specs.Acts.{Happened, Start}
use Rattle.hay_meeting.specs.Facts.{changed, changed_rows}
use Rattle.hay_meeting.specs.Locks.{BearsAt, Doing, Held, IsDoing, IsLaterAt, Lock, LockSight, entries, left, moment_of, past}
use Rattle.hay_meeting.specs.Sights.{Agrees, Bears, Cut, Doings, Sight, Work, course_of, rows_stood, stood}
use Rattle.hay_meeting.proofs.OwnSteps.{placed, steps_are}
use Rattle.hay_meeting.proofs.Picking.{each_map, filter_map_of}
use Rattle.hay_meeting.proofs.Replays.{entries_prefix, left_append, moment_past, moment_rises, moment_within, prefix_length, prefix_take, take_take}
use Rattle.hay_meeting.proofs.Standings.{agrees_trans, behind_replayed, left_agrees, rows_behind_replayed, same_agrees}

-- ONE LOCK

-- so many acts and more
pub take_cut : {A : Type 0} (cut n : ℕ) (h : List A) → take cut h ++ take n (drop cut h) ≡ take (cut + n) h
take_cut cut n h =
    ap (λ z. take cut h ++ z) (sym (drop-take cut n h))
    ∙ (ap (λ z. z ++ drop cut (take (cut + n) h)) (sym (take_take cut (cut + n) h (omega arith))) ∙ take-append-drop cut (take (cut + n) h))

module _ {S E X T : Type 0} (lock : Lock S E X T) {cut : ℕ} {h : List E} {line : ℕ} {a b : LockSight E X} (bears : BearsAt lock cut h line a b) (later : IsLaterAt a b) where
  abbrev moment : LockSight E X → ℕ
  moment s = moment_of lock h s - cut

  -- the sight s lies between, and no moment of it is before the cut
  cut_prefix : IsPrefix (take cut h) a.seen
  cut_prefix =
      let more = prefix_trans a.seen b.seen h later.seen bears.seen in
      (drop cut a.seen, ap (λ z. z ++ drop cut a.seen) (sym (take_take cut (length a.seen) h bears.low) ∙ ap (take cut) (prefix_take a.seen h more)) ∙ take-append-drop cut a.seen)

  pub cut_long : length (take cut h) ≡ cut
  cut_long = length-take-le cut h (let l = prefix_length a.seen h (prefix_trans a.seen b.seen h later.seen bears.seen) in let lo = bears.low in omega (arith, l, lo))

  pub past_cut : (s : LockSight E X) → IsLaterAt a s → cut ≤ moment_of lock h s
  past_cut s from =
      let m = moment_past lock h s (take cut h) (drop cut h, take-append-drop cut h) (prefix_trans (take cut h) a.seen s.seen cut_prefix from.seen)
      (prefix_trans (entries lock (take cut h)) a.shown s.shown bears.low_shown from.shown) in omega (arith, m, cut_long)

  pub rises : moment a ≤ moment b
  rises = let m = moment_rises lock h a b later in omega (arith, m)

  -- a sight between
  pub sight_from : (s : LockSight E X) → IsLaterAt a s → moment a ≤ moment s
  sight_from s from = let m = moment_rises lock h a s from in omega (arith, m)

  pub sight_to : (s : LockSight E X) → IsLaterAt s b → moment s ≤ moment b
  sight_to s to = let m = moment_rises lock h s b to in omega (arith, m)

  -- what a holding found
  pub held_in : (held : List E) → Held lock a b held → IsPrefix held h
  held_in held x = prefix_trans held b.seen h x.to bears.seen

  pub held_low : (held : List E) → IsPrefix a.seen held → cut ≤ length held
  held_low held from = let l = prefix_length a.seen held from in let lo = bears.low in omega (arith, l, lo)

  pub held_from : (held : List E) → Held lock a b held → moment a ≤ length held - cut
  held_from held x = let m = moment_within lock h a held (held_in held x) x.from x.shown_from in omega (arith, m)

  pub held_to : (held : List E) → Held lock a b held → length held - cut ≤ moment b
  held_to held x = let m = moment_past lock h b held (held_in held x) x.to x.shown_to in omega (arith, m)

  -- a doing found what it found, and left what it left, between
  pub doing_held : (d : Doing E) → IsDoing lock a b d → Held lock a b d.held
  doing_held d x = record {
    from = x.from;
    shown_from = x.shown_from;
    to = prefix_trans d.held (past d) b.seen (d.act ∷ [], refl) x.to;
    shown_to = prefix_trans (entries lock d.held) (entries lock (past d)) b.shown (entries_prefix lock d.held (past d) (d.act ∷ [], refl)) x.shown_to;
  }

  pub doing_past : (d : Doing E) → IsDoing lock a b d → Held lock a b (past d)
  doing_past d x = record {
    from = prefix_trans a.seen d.held (past d) x.from (d.act ∷ [], refl);
    shown_from = prefix_trans a.shown (entries lock d.held) (entries lock (past d)) x.shown_from (entries_prefix lock d.held (past d) (d.act ∷ [], refl));
    to = x.to;
    shown_to = x.shown_to;
  }

  pub past_at : (d : Doing E) → IsDoing lock a b d → length (past d) - cut ≡ length d.held - cut + 1
  past_at d x = let lo = held_low d.held x.from in omega (arith, lo, length-append d.held (d.act ∷ []))

  pub doing_inside : (d : Doing E) → IsDoing lock a b d → (moment a ≤ length d.held - cut) × (length d.held - cut < moment b)
  doing_inside d x =
      let from = held_from d.held (doing_held d x) in
      let to = held_to (past d) (doing_past d x) in
      let one = past_at d x in (from, omega (arith, to, one))

module _ {settings : Settings} {start : Start} {drained : List Bool} {k : Known} {cut : Cut} {h : Happened} {item : LaneItem} {a b : Sight} {doings : Doings}
    (bears : Bears settings start drained k cut h item a b) (work : Work item a b doings) where
  abbrev pub c : Course
  c = course_of settings k cut h (tag_of item) a b

  abbrev pub later_at : (v : ℕ) → IsLaterAt (a.volumes v) (b.volumes v)
  later_at v = (work.volumes v).later

  -- WHAT STOOD

  pub standing_at : (v n : ℕ) → v < settings.volumes → cut.volumes v ≤ n → Agrees settings.replicas (standing c v (n - cut.volumes v)) (stood start v (take n (h.volumes v)))
  standing_at v n below low =
      let first : Standing = first_of settings k v in
      let new : List VolumeAct = drop (cut.volumes v) (h.volumes v) in
      let m : ℕ = n - cut.volumes v in
      let sum : cut.volumes v + m ≡ n = omega (arith, low) in
      agrees_trans settings.replicas (standing c v m) (left volume_lock first (take m new)) (stood start v (take n (h.volumes v)))
      (same_agrees settings.replicas (standing c v m) (left volume_lock first (take m new)) (behind_replayed first new m))
      (agrees_trans settings.replicas (left volume_lock first (take m new)) (left volume_lock (stood start v (take (cut.volumes v) (h.volumes v))) (take m new)) (stood start v (take n (h.volumes v)))
      (left_agrees settings.replicas (take m new) first (stood start v (take (cut.volumes v) (h.volumes v))) ((bears.stands).volumes v below))
      (same_agrees settings.replicas (left volume_lock (stood start v (take (cut.volumes v) (h.volumes v))) (take m new)) (stood start v (take n (h.volumes v)))
      (sym (left_append volume_lock (start.volumes v) (take (cut.volumes v) (h.volumes v)) (take m new))
      ∙ ap (left volume_lock (start.volumes v)) (take_cut (cut.volumes v) m (h.volumes v) ∙ ap (λ (i : ℕ). take i (h.volumes v)) sum))))

  pub rows_at : (n : ℕ) → cut.rows ≤ n → rows_standing c (n - cut.rows) ≡ rows_stood start (take n h.directory)
  rows_at n low =
      let new : List DirAct = drop cut.rows h.directory in
      let m : ℕ = n - cut.rows in
      let sum : cut.rows + m ≡ n = omega (arith, low) in
      rows_behind_replayed (first_rows k) new m
      ∙ (ap (λ (s : RowsStanding). left row_lock s (take m new)) (bears.stands).rows
      ∙ (sym (left_append row_lock start.directory (take cut.rows h.directory) (take m new))
      ∙ ap (left row_lock start.directory) (take_cut cut.rows m h.directory ∙ ap (λ (i : ℕ). take i h.directory) sum)))

  -- behind the acts of a beginning
  pub standing_behind : (v : ℕ) (held : List VolumeAct) → v < settings.volumes → cut.volumes v ≤ length held → IsPrefix held (h.volumes v)
      → Agrees settings.replicas (standing c v (length held - cut.volumes v)) (stood start v held)
  standing_behind v held below low p =
      subst (λ z. Agrees settings.replicas (standing c v (length held - cut.volumes v)) (stood start v z)) (prefix_take held (h.volumes v) p) (standing_at v (length held) below low)

  pub rows_behind_held : (held : List DirAct) → cut.rows ≤ length held → IsPrefix held h.directory → rows_standing c (length held - cut.rows) ≡ rows_stood start held
  rows_behind_held held low p = rows_at (length held) low ∙ ap (rows_stood start) (prefix_take held h.directory p)

  -- OWN STEPS

  pub own_are : (v : ℕ) → own c v ≡ map (placed volume_lock (λ (s : Step). s.tag) (λ before act. refl) (first_of settings k v) (cut.volumes v)) (doings.volumes v)
  own_are v = steps_are volume_lock (λ (s : Step). s.tag) (λ before act. refl) (work.volumes v) (bears.volumes v) (first_of settings k v)

  pub own_rows_are : own_rows c ≡ map (placed row_lock (λ (s : RowStep). s.tag) (λ before act. refl) (first_rows k) cut.rows) doings.rows
  own_rows_are = steps_are row_lock (λ (s : RowStep). s.tag) (λ before act. refl) work.directory bears.directory (first_rows k)

  -- a doing, as a step behind the cut
  abbrev pub at_doing : ℕ → Doing VolumeAct → ℕ × Step
  at_doing v = placed volume_lock (λ (s : Step). s.tag) (λ before act. refl) (first_of settings k v) (cut.volumes v)

  abbrev pub at_row_doing : Doing DirAct → ℕ × RowStep
  at_row_doing = placed row_lock (λ (s : RowStep). s.tag) (λ before act. refl) (first_rows k) cut.rows

  pub changes_are : (v : ℕ) → changes c v ≡ map (at_doing v) (changed (doings.volumes v))
  changes_are v = ap (filter (λ (at : ℕ × Step). changes_it (at.1).did)) (own_are v) ∙ filter_map_of (at_doing v) (λ (at : ℕ × Step). changes_it (at.1).did) (doings.volumes v)

  pub row_changes_are : row_changes c ≡ map at_row_doing (changed_rows doings.rows)
  row_changes_are = ap (filter (λ (at : ℕ × RowStep). changes_rows (at.1).did)) own_rows_are ∙ filter_map_of at_row_doing (λ (at : ℕ × RowStep). changes_rows (at.1).did) doings.rows

  -- THE ANSWER, where the line did what its reply says

  later : IsLater c.from c.to
  later = record {
    volumes = λ v. rises volume_lock (bears.volumes v) (later_at v);
    rows = rises row_lock bears.directory (work.directory).later;
    arm = work.arm;
  }

  pub answered : LineDid c item.item item.reply → Answered c item
  answered did = record {
    later = later;
    steps = λ v. subst (Each (λ at. ((c.from).volumes v ≤ at.0) × (at.0 < (c.to).volumes v))) (sym (own_are v))
        (each_map (at_doing v) (λ at. ((c.from).volumes v ≤ at.0) × (at.0 < (c.to).volumes v)) (doings.volumes v)
        (each_weaker (IsDoing volume_lock (a.volumes v) (b.volumes v)) (λ d. ((c.from).volumes v ≤ length d.held - cut.volumes v) × (length d.held - cut.volumes v < (c.to).volumes v))
        (λ d is. doing_inside volume_lock (bears.volumes v) (later_at v) d is) (doings.volumes v) (work.volumes v).each));
    rows = subst (Each (λ at. ((c.from).rows ≤ at.0) × (at.0 < (c.to).rows))) (sym own_rows_are)
        (each_map at_row_doing (λ at. ((c.from).rows ≤ at.0) × (at.0 < (c.to).rows)) doings.rows
        (each_weaker (IsDoing row_lock a.directory b.directory) (λ d. ((c.from).rows ≤ length d.held - cut.rows) × (length d.held - cut.rows < (c.to).rows))
        (λ d is. doing_inside row_lock bears.directory (work.directory).later d is) doings.rows (work.directory).each));
    did = did;
  }
