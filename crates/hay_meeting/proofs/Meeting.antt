-- Lanes of which each knows only what it saw and did make a block, and one line a plain turn.
use Rattle.std.proofs.Common.{◌≡◌, ◌⊎◌, inl, inr, ℕ, zero, suc, ◌+◌, ◌-◌, ◌*◌, ◌<◌, ◌≤◌, List, [], ◌∷◌, ◌++◌, length, take, drop, refl, sym, ap, subst, ◌∙◌, arith, length-drop, Contains}
use Rattle.std.specs.Prelude.{slice_index}
use Rattle.std.specs.List.{AllByRecursion as Each}
use Rattle.std.proofs.lemmas.Bool.{cases_lt}
use Rattle.std.proofs.Math.Seq.{take-length}
use Rattle.hay_needle.specs.declared.settings.Settings.{Settings}
use Rattle.hay_core.specs.declared.entry.CoreTag.{CoreTag}
use Rattle.hay_legal.specs.declared.known.Known.{Known}
use Rattle.hay_legal.specs.declared.known.VolumeKnown.{VolumeKnown}
use Rattle.hay_legal.specs.declared.turn.LaneItem.{LaneItem}
use Rattle.hay_legal.specs.Known.{EachPair, NoneFalls, arm_count, fault_count, slot_of}
use Rattle.hay_legal.specs.Blocks.{log_notes, tag_of}
use Rattle.hay_legal.specs.Subject.{IsOf}
use Rattle.hay_legal.proofs.Subject.Entries.{block_is_of}
use Rattle.hay_legal.proofs.Subject.Entries.{plain_is_of}
use Rattle.hay_history.specs.LaneSteps.{Follows, FollowsRows, NoneFall, RowsStanding, RowStep, Standing, Step}
use Rattle.hay_history.specs.Histories.{History, IsLater, Seen, behind, begun_by, first_of, first_rows, row_note, rows_behind}
use Rattle.hay_history.specs.Commands.{Answered, Came, IsOfLine, MayStandInLane, at_first, at_last, course}
use Rattle.hay_history.specs.Law.{RunsOfPlain}
use Rattle.hay_history.proofs.Lists.{each_from, each_weaker}
use Rattle.hay_history.proofs.AloneLaw.{lines_are_legal}
use Rattle.hay_history.proofs.Law.{blocks_are_legal}
use Rattle.hay_history.proofs.Onward.{runs_stay_plain, stores_stay_regular}
use Rattle.hay_meeting.specs.declared.act.DirAct.{DirAct}
use Rattle.hay_meeting.specs.declared.act.VolumeAct.{VolumeAct}
use Rattle.hay_meeting.specs.Acts.{Happened, IsSized, Start, begun_of, left_by, nobody, row_lock, rows_left_by, volume_lock}
use Rattle.hay_meeting.specs.Chains.{Lines, Note, RunsArePlain, StoreAt}
use Rattle.hay_meeting.specs.Law.{ALineMakesAPlainTurn, LanesMakeBlocks, cut_of}
use Rattle.hay_meeting.specs.Locks.{left, moment_of, replayed}
use Rattle.hay_meeting.specs.Sights.{Agrees, Bears, Cut, Sight, course_of, history_of, rows_stood, seen_of, stood}
use Rattle.hay_meeting.proofs.Chaining.{chain_later, row_place, volume_place}
use Rattle.hay_meeting.proofs.Gathering.{IsOurs, at_final, at_first_sight, bears_at, by_notes, chain, each_replayed, final, first, found_in, in_chain, low_of, note_for}
use Rattle.hay_meeting.proofs.Gathering.{note_found, note_of, notes, ours, taken_is, whole}
use Rattle.hay_meeting.proofs.Replays.{left_append, length_replayed, moment_rises, moment_within}
use Rattle.hay_meeting.proofs.Standings.{agrees_trans, begun_append, begun_replayed, behind_replayed, follows_again, follows_behind, left_agrees, rows_behind_replayed}
use Rattle.hay_meeting.proofs.Standings.{rows_follow_behind, same_agrees, sized_behind}
use Rattle.hay_turn.proofs.Prefixes.{prefix_self}

-- COUNTS

faults_rise : (settings : Settings) (v : ℕ) (s : Standing) (acts : List VolumeAct) → Follows settings v s (replayed volume_lock s acts) → NoneFall s.faults (left volume_lock s acts).faults
faults_rise settings v s [] follows j = omega arith
faults_rise settings v s (act ∷ acts) (leads, falls, fuses, rest) j =
    let one = falls j in
    let more = faults_rise settings v (left_by act s) acts rest j in omega (arith, one, more)

row_faults_rise : (s : RowsStanding) (acts : List DirAct) → FollowsRows s (replayed row_lock s acts) → s.faults ≤ (left row_lock s acts).faults
row_faults_rise s [] follows = omega arith
row_faults_rise s (act ∷ acts) (leads, falls, others, rest) = let more = row_faults_rise (rows_left_by act s) acts rest in omega (arith, falls, more)

none_falls_by : (xs ys : List ℕ) → length ys ≡ length xs → ((i : ℕ) → i < length xs → slice_index xs i ≤ slice_index ys i) → NoneFalls xs ys
none_falls_by [] [] same each = tt
none_falls_by [] (y ∷ ys) same each = absurd (omega (arith, same))
none_falls_by (x ∷ xs) [] same each = absurd (omega (arith, same))
none_falls_by (x ∷ xs) (y ∷ ys) same each = (each 0 (omega arith), none_falls_by xs ys (omega (arith, same)) (λ i below. each (suc i) (omega (arith, below))))

-- each slot but the Directory's is a replica's
slot_in : (volumes replicas i : ℕ) → i < volumes * replicas → (v : ℕ) × (j : ℕ) × (v < volumes) × (j < replicas) × (i ≡ v * replicas + j)
slot_in zero replicas i below = absurd (let none : 0 * replicas ≡ 0 = omega arith in omega (arith, below, none))
slot_in (suc volumes) replicas i below =
    let more : suc volumes * replicas ≡ volumes * replicas + replicas = omega arith in
    elim (cases_lt i (volumes * replicas)) [
      | inl inside ↦ let r = slot_in volumes replicas i inside in let low = r.2 in (r.0, r.1, omega (arith, low), r.3, r.4)
      | inr last ↦ (volumes, i - volumes * replicas, omega arith, omega (arith, below, more, last), omega (arith, last))
    ]

module _ {settings : Settings} {start : Start} {lanes : ℕ} {before after : List Sight} {items : List LaneItem} {h0 h : Happened} {k t : Known}
    (x : Lines settings start lanes before after items h0 h k t) where
  abbrev cut : Cut
  cut = cut_of h0

  -- OF EACH VOLUME, AND OF THE DIRECTORY

  volume_whole : (v : ℕ) → h.volumes v ≡ h0.volumes v ++ drop (cut.volumes v) (h.volumes v)
  volume_whole v = whole x (volume_place v) ((x.begins).volumes v) ((x.ends).volumes v)

  volume_taken : (v : ℕ) → take (cut.volumes v) (h.volumes v) ≡ h0.volumes v
  volume_taken v = taken_is x (volume_place v) ((x.begins).volumes v) ((x.ends).volumes v)

  rows_whole : h.directory ≡ h0.directory ++ drop cut.rows h.directory
  rows_whole = whole x row_place (x.begins).directory (x.ends).directory

  rows_taken : take cut.rows h.directory ≡ h0.directory
  rows_taken = taken_is x row_place (x.begins).directory (x.ends).directory

  of_line_steps : (v : ℕ) → Each (λ act. IsOfLine items act.tag) (drop (cut.volumes v) (h.volumes v))
  of_line_steps v =
      each_weaker (IsOurs x (volume_place v) ((x.begins).volumes v) ((x.ends).volumes v)) (λ act. IsOfLine items act.tag) (λ act o. (o.item, o.among, sym o.tag)) (drop (cut.volumes v) (h.volumes v))
      (ours x (volume_place v) ((x.begins).volumes v) ((x.ends).volumes v))

  of_line_rows : Each (λ act. IsOfLine items act.tag) (drop cut.rows h.directory)
  of_line_rows =
      each_weaker (IsOurs x row_place (x.begins).directory (x.ends).directory) (λ act. IsOfLine items act.tag) (λ act o. (o.item, o.among, sym o.tag)) (drop cut.rows h.directory)
      (ours x row_place (x.begins).directory (x.ends).directory)

  bears : (item : LaneItem) (among : Contains items item) (note : Note) → Contains (notes x item.lane) note → note.item ≡ item → Bears settings start k.drained k cut h note.item note.before note.after
  bears item among note there is = record {
    sound = (x.ends).sound;
    drains = refl;
    stands = record {
      volumes = λ v below. subst (λ z. Agrees settings.replicas (first_of settings k v) (stood start v z)) (sym (volume_taken v)) (((x.from).stands).volumes v below);
      rows = ((x.from).stands).rows ∙ ap (rows_stood start) (sym rows_taken);
    };
    volumes = λ v. bears_at x (volume_place v) ((x.begins).volumes v) ((x.ends).volumes v) item among note there is;
    directory = bears_at x row_place
        (x.begins).directory (x.ends).directory item among note there is;
  }

  -- WHAT EACH LINE SAW

  abbrev history : History
  history = history_of settings k cut h

  abbrev from : ℕ → Seen
  from line = seen_of cut h (note_of x line).before

  abbrev to : ℕ → Seen
  to line = seen_of cut h (note_of x line).after

  answers : (item : LaneItem) → Contains items item → Answered (course settings k history from to item) item
  answers item among =
      let f = note_for x item among in
      let note : Note = f.0 in
      let i = in_chain x item among note f.1 in
      let found : note_of x item.line ≡ note = note_found x item among note f.1 f.2 in
      let done : Answered (course_of settings k cut h (tag_of note.item) note.before note.after) note.item = (i.goes).legal k cut h (bears item among note f.1 f.2) in
      subst (λ (n : Note). Answered (record { settings = settings; k = k; history = history; tag = tag_of item; from = seen_of cut h n.before; to = seen_of cut h n.after }) item) (sym found)
      (subst (λ (j : LaneItem). Answered (record { settings = settings; k = k; history = history; tag = tag_of j; from = seen_of cut h note.before; to = seen_of cut h note.after }) j) f.2 done)

  from_is : (item : LaneItem) (among : Contains items item) → from item.line ≡ seen_of cut h (note_for x item among).0.before
  from_is item among = let f = note_for x item among in ap (λ (n : Note). seen_of cut h n.before) (note_found x item among f.0 f.1 f.2)

  to_is : (item : LaneItem) (among : Contains items item) → to item.line ≡ seen_of cut h (note_for x item among).0.after
  to_is item among = let f = note_for x item among in ap (λ (n : Note). seen_of cut h n.after) (note_found x item among f.0 f.1 f.2)

  first_arm : (lane : ℕ) → lane < lanes → (first x lane).arm ≡ arm_count k lane
  first_arm lane low = x.arms_before lane (first x lane) (at_first_sight x lane low)

  last_arm : (lane : ℕ) → lane < lanes → (final x lane).arm ≡ arm_count t lane
  last_arm lane low = x.arms_behind lane (final x lane) (at_final x lane low)

  from_first : (item : LaneItem) → Contains items item → IsLater (at_first k item.lane) (from item.line)
  from_first item among =
      let f = note_for x item among in
      let i = in_chain x item among f.0 f.1 in
      let arm = (i.from).arm in
      subst (IsLater (at_first k item.lane)) (sym (from_is item among))
      (record { volumes = λ v. omega arith; rows = omega arith; arm = omega (arith, arm, first_arm item.lane (low_of x item among)) })

  to_last : (item : LaneItem) → Contains items item → IsLater (to item.line) (at_last t history item.lane)
  to_last item among =
      let f = note_for x item among in
      let i = in_chain x item among f.0 f.1 in
      let b = bears item among f.0 f.1 f.2 in
      let a : Sight = (f.0).after in
      let arm = (i.to).arm in
      subst (λ (s : Seen). IsLater s (at_last t history item.lane)) (sym (to_is item among))
      (record {
        volumes = λ v.
            let at = b.volumes v in
            let m : moment_of volume_lock (h.volumes v) (a.volumes v) ≤ length (h.volumes v) =
            moment_within volume_lock (h.volumes v) (a.volumes v) (h.volumes v) (prefix_self (h.volumes v)) at.seen at.shown in
            let many : length (replayed volume_lock (first_of settings k v) (drop (cut.volumes v) (h.volumes v))) ≡ length (h.volumes v) - cut.volumes v =
            length_replayed volume_lock (first_of settings k v) (drop (cut.volumes v) (h.volumes v)) ∙ length-drop (cut.volumes v) (h.volumes v) in
            omega (arith, m, many);
        rows =
            let at = b.directory in
            let m : moment_of row_lock h.directory a.directory ≤ length h.directory = moment_within row_lock h.directory a.directory h.directory (prefix_self h.directory) at.seen at.shown in
            let many : length (replayed row_lock (first_rows k) (drop cut.rows h.directory)) ≡ length h.directory - cut.rows =
            length_replayed row_lock (first_rows k) (drop cut.rows h.directory) ∙ length-drop cut.rows h.directory in
            omega (arith, m, many);
        arm = omega (arith, arm, last_arm item.lane (low_of x item among));
      })

  in_order : EachPair (λ a b. a.lane ≡ b.lane → IsLater (to a.line) (from b.line)) items
  in_order = by_notes x (λ a b. IsLater (to a.line) (from b.line))
      (λ lane low m n in_m in_n later.
      subst (λ (z : Note). IsLater (seen_of cut h z.after) (from (n.item).line)) (sym (found_in x lane low m in_m))
      (subst (λ (z : Note). IsLater (seen_of cut h m.after) (seen_of cut h z.before)) (sym (found_in x lane low n in_n))
      (record {
        volumes = λ v. let r = moment_rises volume_lock (h.volumes v) ((m.after).volumes v) ((n.before).volumes v) (later.volumes v) in omega (arith, r);
        rows = let r = moment_rises row_lock h.directory (m.after).directory (n.before).directory later.directory in omega (arith, r);
        arm = later.arm;
      })))

  -- WHAT STANDS BEHIND

  behind_cut : (v : ℕ) → v < settings.volumes → Follows settings v (stood start v (h0.volumes v)) (replayed volume_lock (stood start v (h0.volumes v)) (drop (cut.volumes v) (h.volumes v)))
  behind_cut v below = follows_behind settings v (start.volumes v) (h0.volumes v) (drop (cut.volumes v) (h.volumes v))
      (subst (λ z. Follows settings v (start.volumes v) (replayed volume_lock (start.volumes v) z)) (volume_whole v) (((x.ends).sound).follows v below))

  follows : (v : ℕ) → v < settings.volumes → Follows settings v (first_of settings k v) (history.volumes v)
  follows v below =
      let same = ((x.from).stands).volumes v below in
      let few : length ((stood start v (h0.volumes v)).volume).replicas ≡ settings.replicas = ap (λ (z : VolumeKnown). length z.replicas) (sym same.volume) ∙ ((x.from).store).replicas v below in
      follows_again settings v (drop (cut.volumes v) (h.volumes v)) (stood start v (h0.volumes v)) (first_of settings k v) same
      (sized_behind settings.replicas (h0.volumes v) (drop (cut.volumes v) (h.volumes v)) (subst (Each (IsSized settings.replicas)) (volume_whole v) (((x.ends).sound).sized v below)))
      (omega (arith, few)) (behind_cut v below)

  rows_behind_cut : FollowsRows (rows_stood start h0.directory) (replayed row_lock (rows_stood start h0.directory) (drop cut.rows h.directory))
  rows_behind_cut =
      rows_follow_behind start.directory h0.directory (drop cut.rows h.directory) (subst (λ z. FollowsRows start.directory (replayed row_lock start.directory z)) rows_whole
      ((x.ends).sound).follows_rows)

  -- behind all acts stands what is left behind the lines
  left_all : (v : ℕ) → left volume_lock (stood start v (h0.volumes v)) (drop (cut.volumes v) (h.volumes v)) ≡ stood start v (h.volumes v)
  left_all v = sym (left_append volume_lock (start.volumes v) (h0.volumes v) (drop (cut.volumes v) (h.volumes v))) ∙ ap (stood start v) (sym (volume_whole v))

  rows_left_all : left row_lock (rows_stood start h0.directory) (drop cut.rows h.directory) ≡ rows_stood start h.directory
  rows_left_all = sym (left_append row_lock start.directory h0.directory (drop cut.rows h.directory)) ∙ ap (rows_stood start) (sym rows_whole)

  last_standing : (v : ℕ) → v < settings.volumes → Agrees settings.replicas (first_of settings t v) (behind (first_of settings k v) (history.volumes v) (length (history.volumes v)))
  last_standing v below =
      let s : Standing = first_of settings k v in
      let new : List VolumeAct = drop (cut.volumes v) (h.volumes v) in
      let end : behind s (replayed volume_lock s new) (length (replayed volume_lock s new)) ≡ left volume_lock s new =
      behind_replayed s new (length (replayed volume_lock s new)) ∙ (ap (λ n. left volume_lock s (take n new)) (length_replayed volume_lock s new) ∙ ap (left volume_lock s) (take-length new)) in
      agrees_back settings.replicas (first_of settings t v) (stood start v (h.volumes v)) (behind s (replayed volume_lock s new) (length (replayed volume_lock s new)))
      (((x.last).stands).volumes v below)
      (agrees_trans settings.replicas (behind s (replayed volume_lock s new) (length (replayed volume_lock s new))) (left volume_lock s new) (stood start v (h.volumes v))
      (same_agrees settings.replicas _ _ end)
      (agrees_trans settings.replicas (left volume_lock s new) (left volume_lock (stood start v (h0.volumes v)) new) (stood start v (h.volumes v))
      (left_agrees settings.replicas new s (stood start v (h0.volumes v)) (((x.from).stands).volumes v below)) (same_agrees settings.replicas _ _ (left_all v))))
    where
      agrees_back : (replicas : ℕ) (a b c : Standing) → Agrees replicas a b → Agrees replicas c b → Agrees replicas a c
      agrees_back replicas a b c p q = record { volume = p.volume ∙ sym q.volume; faults = λ j low. p.faults j low ∙ sym (q.faults j low); fuses = λ j low. p.fuses j low ∙ sym (q.fuses j low) }

  last_rows : first_rows t ≡ rows_behind (first_rows k) history.directory (length history.directory)
  last_rows =
      let s : RowsStanding = first_rows k in
      let new : List DirAct = drop cut.rows h.directory in
      ((x.last).stands).rows
      ∙ (sym rows_left_all
      ∙ (ap (λ (z : RowsStanding). left row_lock z new) (sym ((x.from).stands).rows)
      ∙ (ap (left row_lock s) (sym (take-length new))
      ∙ (ap (λ n. left row_lock s (take n new)) (sym (length_replayed row_lock s new)) ∙ sym (rows_behind_replayed s new (length (replayed row_lock s new)))))))

  faults_at : (i : ℕ) → i < length k.faults → fault_count k i ≤ fault_count t i
  faults_at zero below =
      let rise = row_faults_rise (rows_stood start h0.directory) (drop cut.rows h.directory) rows_behind_cut in
      let from_there : fault_count k 0 ≡ (rows_stood start h0.directory).faults = ap (λ (z : RowsStanding). z.faults) ((x.from).stands).rows in
      let to_there : fault_count t 0 ≡ (left row_lock (rows_stood start h0.directory) (drop cut.rows h.directory)).faults =
      ap (λ (z : RowsStanding). z.faults) (((x.last).stands).rows ∙ sym rows_left_all) in
      omega (arith, rise, from_there, to_there)
  faults_at (suc i) below =
      let slot = slot_in settings.volumes settings.replicas i (omega (arith, below, (x.from).disks)) in
      let v : ℕ = slot.0 in
      let j : ℕ = slot.1 in
      let rise = faults_rise settings v (stood start v (h0.volumes v)) (drop (cut.volumes v) (h.volumes v)) (behind_cut v slot.2) j in
      let from_there : fault_count k (slot_of settings v j) ≡ (stood start v (h0.volumes v)).faults j = (((x.from).stands).volumes v slot.2).faults j slot.3 in
      let to_there : fault_count t (slot_of settings v j) ≡ (left volume_lock (stood start v (h0.volumes v)) (drop (cut.volumes v) (h.volumes v))).faults j =
      (((x.last).stands).volumes v slot.2).faults j slot.3 ∙ ap (λ (z : Standing). z.faults j) (sym (left_all v)) in
      let at : slot_of settings v j ≡ suc i = let e = slot.4 in omega (arith, e) in
      let here : fault_count k (slot_of settings v j) ≤ fault_count t (slot_of settings v j) = omega (arith, rise, from_there, to_there) in
      subst (λ (n : ℕ). fault_count k n ≤ fault_count t n) at here

  arms_at : (lane : ℕ) → arm_count k lane ≤ arm_count t lane
  arms_at lane = elim (cases_lt lane lanes) [
    | inl low ↦
        let rise = (chain_later settings start k.drained lane (notes x lane) (first x lane) (final x lane) (chain x lane low)).arm in
        omega (arith, rise, first_arm lane low, last_arm lane low)
    | inr high ↦ let same = (x.last).other_arms lane high in omega (arith, same)
  ]

  -- THE HISTORY

  pub came : Came settings k items history t
  came = record {
    store = (x.from).store;
    regular = (x.from).regular;
    distinct = x.distinct;
    lanes = each_weaker (λ (i : LaneItem). i.lane < lanes) (λ i. i.lane < 8) (λ i low. let few = x.few in omega (arith, low, few)) items (x.lines).low;
    follows = follows;
    follows_rows = subst (λ (s : RowsStanding). FollowsRows s (replayed row_lock s (drop cut.rows h.directory))) (sym ((x.from).stands).rows) rows_behind_cut;
    lines = λ v below. each_replayed volume_lock (λ (s : Step). s.tag) (λ before act. refl) (IsOfLine items) (first_of settings k v) (drop (cut.volumes v) (h.volumes v)) (of_line_steps v);
    row_lines = each_replayed row_lock (λ (s : RowStep). s.tag) (λ before act. refl) (IsOfLine items) (first_rows k) (drop cut.rows h.directory)
        of_line_rows;
    from = from;
    to = to;
    answers = each_from (λ item. Answered (course settings k history from to item) item) items answers;
    first = each_from (λ item. IsLater (at_first k item.lane) (from item.line)) items from_first;
    «order» = in_order;
    last = each_from (λ item. IsLater (to item.line) (at_last t history item.lane)) items to_last;
    volumes = λ v below. let s = last_standing v below in record { volume = s.volume; faults = s.faults; fuses = s.fuses };
    directory = record {
      directory = ap (λ (z : RowsStanding). z.directory) last_rows;
      drained = ap (λ (z : RowsStanding). z.drained) last_rows;
      faults = ap (λ (z : RowsStanding). z.faults) last_rows;
      fuses = ap (λ (z : RowsStanding). z.fuses) last_rows;
    };
    count = (x.last).count;
    slots = (x.last).fuse_slots;
    faults = none_falls_by k.faults t.faults (x.last).fault_slots faults_at;
    arms = none_falls_by k.arms t.arms (x.last).arm_slots (λ lane below. arms_at lane);
    faults_end = (x.last).faults_end;
    arms_end = (x.last).arms_end;
  }

  -- who began the compactions that stand
  runs_before : RunsArePlain settings k h0 → RunsOfPlain settings k history
  runs_before plain v j run below within stands = ap (λ z. (begun_of j nobody z).lane) (volume_taken v) ∙ plain v j run below within stands

  begun_last : (v j : ℕ) → begun_by j (history.begun v j) (history.volumes v) (length (history.volumes v)) ≡ begun_of j nobody (h.volumes v)
  begun_last v j =
      let s : Standing = first_of settings k v in
      let new : List VolumeAct = drop (cut.volumes v) (h.volumes v) in
      begun_replayed j (history.begun v j) s new (length (replayed volume_lock s new))
      ∙ (ap (λ n. begun_of j (history.begun v j) (take n new)) (length_replayed volume_lock s new)
      ∙ (ap (begun_of j (history.begun v j)) (take-length new)
      ∙ (ap (λ z. begun_of j (begun_of j nobody z) new) (volume_taken v) ∙ (sym (begun_append j nobody (h0.volumes v) new) ∙ ap (begun_of j nobody) (sym (volume_whole v))))))

  runs_behind : Each (λ item. MayStandInLane item.item) items ⊎ Each (λ item. item.lane ≡ 0) items → RunsArePlain settings t h
  runs_behind kind v j run below within stands =
      ap (λ (tag : CoreTag). tag.lane) (sym (begun_last v j)) ∙ runs_stay_plain settings k t items history kind (runs_before (x.from).runs) came v j run below within stands

  store_behind : Each (λ item. MayStandInLane item.item) items ⊎ Each (λ item. item.lane ≡ 0) items → IsOf settings t → StoreAt settings start t h
  store_behind kind store = record {
    stands = (x.last).stands;
    store = store;
    regular = stores_stay_regular settings k t items history came;
    disks = (x.last).fault_slots ∙ (x.from).disks;
    runs = runs_behind kind;
  }

-- LAWS

pub lanes_make_blocks : LanesMakeBlocks
lanes_make_blocks settings start lanes before after items h0 h k t x may =
    let legal = blocks_are_legal settings k t items (history_of settings k (cut_of h0) h) may (came x) in
    (legal, store_behind x (inl may) (block_is_of settings k items (log_notes settings k t) (row_note k (history_of settings k (cut_of h0) h)) t (x.from).store legal))

pub a_line_makes_a_plain_turn : ALineMakesAPlainTurn
a_line_makes_a_plain_turn settings start lanes before after item h0 h k t x lane =
    let legal = lines_are_legal settings k t item (history_of settings k (cut_of h0) h) lane (runs_before x (x.from).runs) (came x) in
    (legal, store_behind x (inr (lane, tt)) (plain_is_of settings k item.line item.item item.reply t (x.from).store legal))
