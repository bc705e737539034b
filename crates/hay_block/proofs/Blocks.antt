-- A block whose locks were made and ended round its lines is legal.
use Rattle.std.proofs.Common.{◌≡◌, ◌≢◌, ◌<◌, ◌≤◌, ◌+◌, ◌-◌, ◌^◌, ◌++◌, ◌⊎◌, inl, inr, ℕ, zero, suc, List, [], ◌∷◌, map, length, refl, sym, ap, subst, ◌∙◌, arith, Option, Some}
use Rattle.std.proofs.Common.{None, Result, Ok, Err, slice_get, length-append, Vec, Global}
use Rattle.std.specs.Prelude.{Bool, IfOk, slice_index}
use Rattle.std.specs.List.{AllByRecursion as Each, AllZip}
use Rattle.std.proofs.lemmas.Bool.{cases_lt}
use Rattle.std.proofs.lemmas.List.{length-map}
use Rattle.std.proofs.lemmas.List.FromFn.{get_or-map-range_with_len, length-range_with_len}
use Rattle.std.proofs.lemmas.Option.{slice_get_within}
use Rattle.hay_needle.specs.declared.settings.Settings.{Settings}
use Rattle.hay_script.specs.declared.words.TheConstants.{MAX_LANES}
use Rattle.hay_core.specs.declared.entry.Entry.{Entry}
use Rattle.hay_front.specs.declared.front.Tag.{Tag}
use Rattle.hay_reply.specs.declared.Reply.{Reply}
use Rattle.hay_legal.specs.declared.known.DirKnown.{DirKnown}
use Rattle.hay_legal.specs.declared.known.HomeRow.{HomeRow}
use Rattle.hay_legal.specs.declared.known.Known.{Known}
use Rattle.hay_legal.specs.declared.known.VolumeKnown.{VolumeKnown}
use Rattle.hay_legal.specs.declared.turn.LaneItem.{LaneItem}
use Rattle.hay_legal.specs.declared.turn.LogNote.{LogNote}
use Rattle.hay_legal.specs.declared.turn.RowNote.{RowNote}
use Rattle.hay_legal.specs.Known.{EachPair, arm_count, empty_volume, volume_at, volumes_of}
use Rattle.hay_history.specs.Histories.{first_of}
use Rattle.hay_history.specs.LaneSteps.{Follows, Standing}
use Rattle.hay_meeting.specs.declared.act.DirAct.{DirAct}
use Rattle.hay_meeting.specs.declared.act.VolumeAct.{VolumeAct}
use Rattle.hay_meeting.specs.Acts.{Happened, Start, row_lock, volume_lock}
use Rattle.hay_meeting.specs.Locks.{LockSight, left, replayed}
use Rattle.hay_meeting.specs.Sights.{stood}
use Rattle.hay_meeting.proofs.Closing.{there}
use Rattle.hay_lane.specs.declared.lane.Lane.{Lane}
use Rattle.hay_lane.specs.declared.lane.Shared.{Shared}
use Rattle.hay_shared_volume.specs.Tellings.{StoreVolume}
use Rattle.hay_block.specs.declared.store.BlockNotes.{BlockNotes}
use Rattle.hay_block.specs.declared.worker.Job.{Job}
use Rattle.hay_block.specs.Behind.{AreBySlot, CountsBehind, known_behind, log_notes_of, row_note_of}
use Rattle.hay_shared_volume.specs.Ends.{Ended, entered_lines}
use Rattle.hay_block.specs.Ends.{IsSettled, OpensAt}
use Rattle.hay_block.specs.Frames.{AreFit, RanAll, VolumeTook, shared_by}
use Rattle.hay_block.specs.Lanes.{EndsAt, LanesRan}
use Rattle.hay_block.specs.Lines.{AreItems, IsServed, SitsAt}
use Rattle.hay_block.specs.Making.{AreAtRows, IsRegularDirectory, LeavesDirectory, rows_standing}
use Rattle.hay_shared_volume.specs.Making.{AreUnseen, IsRegularVolume, standing}
use Rattle.hay_block.specs.Seats.{HasNewSeats}
use Rattle.hay_block.specs.Parts.{NotesTell}
use Rattle.hay_block.specs.Stores.{RanLegally, StoreStands, by_slot, line_of_tag, notes_from}
use Rattle.hay_block.proofs.Lists.{each_by, mapped, same_item, zip_at, zip_long}
use Rattle.hay_block.proofs.Working.{lanes_are_legal}
use Rattle.hay_block.proofs.Slots.{each_slot, index_back, slots_are}
use Rattle.hay_block.proofs.Telling.{notes_are}

module _ {V D S T A W F : Type 0} {fits : ℕ → V → Settings → ℕ → S → Type 0} {fits_rows : D → Settings → ℕ → T → Type 0} {is_at : S → StoreVolume → Type 0} {is_at_rows : T → Start → Type 0}
    {of : S → LockSight VolumeAct Entry} {of_rows : T → LockSight DirAct HomeRow} {arm_sure : A → Bool} {arm_faults : A → ℕ} {stands : W → VolumeKnown → Type 0} {faults fuses : W → ℕ → ℕ}
    {stands_rows : F → DirKnown → List Bool → Type 0} {row_faults row_fuses : F → ℕ}
    {settings : Settings} {lock : D} {drained : Vec Bool Global} {volumes : List W} {seats : List T} {arms_first : List A} {behind : List W} {tags : List (Vec Tag Global)}
    {seats_behind : List T} {arms_last : List A} {jobs : List (List Job)} {replies : List (List Reply)}
    (ran : RanAll fits fits_rows is_at is_at_rows of of_rows arm_sure arm_faults stands faults fuses settings lock drained volumes seats arms_first behind tags seats_behind arms_last jobs replies)
    (fit : AreFit settings) (many : length volumes ≡ settings.volumes) (many_behind : length behind ≡ settings.volumes)
    {first last : F} {row_tags : List Tag} (unseen_rows : AreUnseen of_rows seats) (at_rows : AreAtRows is_at_rows stands_rows row_faults row_fuses first seats)
    (left_rows : LeavesDirectory of_rows stands_rows row_faults row_fuses first seats_behind last row_tags)
    (given : length arms_first ≡ length jobs) (some : 0 < length jobs) (few : length jobs ≤ MAX_LANES) (served : Each (λ js. Each (λ job. IsServed job.item) js) jobs)
    {k : Known} {others : List ℕ} (stood_for : StoreStands stands faults fuses stands_rows row_faults row_fuses arm_faults settings volumes first arms_first others k)
    (drained_is : drained.items ≡ k.drained) (regular_rows : IsRegularDirectory settings k.directory)
    (others_end : Each (λ f. f ≤ 2 ^ 64 - 1) others) (arms_end : Each (λ arm. arm_faults arm ≤ 2 ^ 64 - 1) arms_last) where
  abbrev n : ℕ
  n = settings.volumes

  abbrev shared : Shared V D
  shared = shared_by settings ran.locks lock drained

  abbrev Took : ℕ → Type 0
  Took v = VolumeTook fits fits_rows is_at is_at_rows of of_rows arm_sure arm_faults stands faults fuses settings ran.lanes ran.after v v volumes behind tags

  abbrev took : (v : ℕ) → v < n → Took v
  took v below = ran.took v below

  stood_before : (v : ℕ) (below : v < n) → stands (took v below).before (volume_at k v)
  stood_before v below = stood_for.each v (took v below).before (took v below).was

  -- WHERE THE LOCKS WERE MADE

  abbrev start_by : ℕ → Option W → Standing
  start_by v None = first_of settings k v
  start_by v (Some w) = standing faults fuses w (volume_at k v)

  abbrev start : Start
  start = record { volumes = λ v. start_by v (slice_get volumes v); directory = rows_standing row_faults row_fuses first k.directory k.drained }

  started : (v : ℕ) (below : v < n) → start.volumes v ≡ standing faults fuses (took v below).before (volume_at k v)
  started v below = ap (start_by v) (took v below).was

  regular : (v : ℕ) → v < n → IsRegularVolume settings (volume_at k v)
  regular v below = (took v below).regular (volume_at k v) (stood_before v below)

  faults_before : AreBySlot settings (row_faults first) (λ v j. (start.volumes v).faults j) k.faults
  faults_before = subst (AreBySlot settings (row_faults first) (λ v j. (start.volumes v).faults j)) (sym stood_for.faults_are)
      (slots_are settings (row_faults first) faults (λ v j. (start.volumes v).faults j) volumes many (λ v j w at within. ap (λ (z : Standing). z.faults j) (sym (ap (start_by v) at)))
      (λ v below. ((took v below).before, (took v below).was)))

  fuses_before : AreBySlot settings (row_fuses first) (λ v j. (start.volumes v).fuses j) k.fuses
  fuses_before = subst (AreBySlot settings (row_fuses first) (λ v j. (start.volumes v).fuses j)) (sym stood_for.fuses_are)
      (slots_are settings (row_fuses first) fuses (λ v j. (start.volumes v).fuses j) volumes many (λ v j w at within. ap (λ (z : Standing). z.fuses j) (sym (ap (start_by v) at)))
      (λ v below. ((took v below).before, (took v below).was)))

  settled : IsSettled settings k
  settled = record {
    store = record {
      volumes = stood_for.many ∙ many;
      replicas = λ v below. (regular v below).replicas;
      homes = regular_rows.homes;
      pending = regular_rows.pending;
    };
    regular = record {
      machines = fit.fewer;
      slots = fuses_before.many;
      ends = λ v j below within. (regular v below).ends j within;
      numbers = λ v j below within run is. (regular v below).numbers j within run is;
      runs = λ v j below within run is. (regular v below).runs j within run is;
    };
    disks = faults_before.many;
  }

  opens : OpensAt settings start k
  opens = record {
    settled = settled;
    volumes = λ v below. record {
      volume = ap (λ (z : Standing). z.volume) (sym (started v below));
      faults = λ j within. faults_before.replicas v j below within;
      fuses = λ j within. fuses_before.replicas v j below within;
    };
    rows = λ i. record { directory = k.directory; drained = k.drained; faults = faults_before.first i; fuses = fuses_before.first i };
  }

  -- LANES

  as_many : length ran.lanes ≡ length jobs
  as_many = sym (length-map ran.lanes (λ l. l.arm)) ∙ (ap length ran.arms_are ∙ given)

  rows_at : (lane : ℕ) (l : Lane S T A) → slice_get ran.lanes lane ≡ Some l → slice_get seats lane ≡ Some l.directory
  rows_at lane l at = subst (λ z. slice_get z lane ≡ Some l.directory) ran.seats_are (mapped (λ (z : Lane S T A). z.directory) ran.lanes lane l at)

  volume_of : (lane : ℕ) (l : Lane S T A) → slice_get ran.lanes lane ≡ Some l → (v : ℕ) (seat : S) → slice_get (l.volumes).items v ≡ Some seat → v < n
  volume_of lane l at v seat at_seat = let long = (ran.seated lane l at).seats in let within = slice_get_within (l.volumes).items v seat at_seat in omega (arith, long, within)

  -- the seat of a lane is the one that it was given
  seat_of : (lane : ℕ) (l : Lane S T A) → slice_get ran.lanes lane ≡ Some l → (v : ℕ) (seat : S) → slice_get (l.volumes).items v ≡ Some seat → (below : v < n)
      → slice_get (took v below).seats lane ≡ Some seat
  seat_of lane l at v seat at_seat below =
      let Here : Lane S T A → S → Type 0 = λ l seat. slice_get (l.volumes).items v ≡ Some seat in
      let s = there (took v below).seats lane
      (let within = slice_get_within ran.lanes lane l at in let long = zip_long Here ran.lanes (took v below).seats (took v below).of_lanes in omega (arith, within, long)) in
      s.1 ∙ (sym (zip_at Here ran.lanes (took v below).seats (took v below).of_lanes lane l s.0 at s.1) ∙ at_seat)

  sits : (lane : ℕ) (l : Lane S T A) → slice_get ran.lanes lane ≡ Some l → SitsAt fits fits_rows is_at is_at_rows of of_rows arm_sure arm_faults shared start lane l
  sits lane l at = record {
    seated = ran.seated lane l at;
    store = record {
      each = λ v seat at_seat.
          let below = volume_of lane l at v seat at_seat in
          (took v below).at lane seat (seat_of lane l at v seat at_seat below) (volume_at k v) (stood_before v below) start (started v below);
      rows = at_rows lane l.directory (rows_at lane l at) k.directory k.drained stood_for.rows start refl;
    };
  }

  new_seats : (lane : ℕ) (l : Lane S T A) → slice_get ran.lanes lane ≡ Some l → HasNewSeats of of_rows l
  new_seats lane l at = record {
    volumes = λ v seat at_seat. let below = volume_of lane l at v seat at_seat in ((took v below).unseen).each lane seat (seat_of lane l at v seat at_seat below);
    directory = unseen_rows.each lane l.directory (rows_at lane l at);
  }

  -- ARMS

  arm_there : (arms : List A) (others : List ℕ) (lane : ℕ) (arm : A) → slice_get arms lane ≡ Some arm → slice_index (map arm_faults arms ++ others) lane ≡ arm_faults arm
  arm_there [] others lane arm at = absurd cc
  arm_there (x ∷ arms) others zero arm at = let same : x ≡ arm = cc at in ap arm_faults same
  arm_there (x ∷ arms) others (suc lane) arm at = arm_there arms others lane arm at

  abbrev arms : List ℕ
  arms = map arm_faults arms_last ++ others

  arms_before : (lane : ℕ) (l : Lane S T A) → slice_get ran.lanes lane ≡ Some l → arm_faults l.arm ≡ arm_count k lane
  arms_before lane l at =
      let arm : slice_get arms_first lane ≡ Some l.arm = subst (λ z. slice_get z lane ≡ Some l.arm) ran.arms_are (mapped (λ (z : Lane S T A). z.arm) ran.lanes lane l at) in
      sym (arm_there arms_first others lane l.arm arm) ∙ ap (λ z. slice_index z lane) (sym stood_for.arms_are)

  arms_behind : (lane : ℕ) (l : Lane S T A) → slice_get ran.after lane ≡ Some l → arm_faults l.arm ≡ slice_index arms lane
  arms_behind lane l at =
      let arm : slice_get arms_last lane ≡ Some l.arm = subst (λ z. slice_get z lane ≡ Some l.arm) ran.arms_behind_are (mapped (λ (z : Lane S T A). z.arm) ran.after lane l at) in
      sym (arm_there arms_last others lane l.arm arm)

  same_arms : length arms_last ≡ length arms_first
  same_arms =
      sym (ap length ran.arms_behind_are) ∙ (length-map ran.after (λ l. l.arm) ∙ ((ran.answers).workers_stay ∙ (sym (length-map ran.lanes (λ l. l.arm)) ∙ ap length ran.arms_are)))

  other_arms : (lane : ℕ) → length ran.lanes ≤ lane → slice_index arms lane ≡ arm_count k lane
  other_arms lane high =
      let a = length-map arms_last arm_faults in
      let b = length-map arms_first arm_faults in
      let same = same_arms in
      let many = as_many in
      let low_last : lane ≡ length (map arm_faults arms_last) + (lane - length jobs) = omega (arith, a, same, many, given, high) in
      let low_first : lane ≡ length (map arm_faults arms_first) + (lane - length jobs) = omega (arith, b, many, given, high) in
      index_back (map arm_faults arms_last) others (lane - length jobs) lane low_last
      ∙ (sym (index_back (map arm_faults arms_first) others (lane - length jobs) lane low_first) ∙ ap (λ z. slice_index z lane) (sym stood_for.arms_are))

  as_many_arms : length arms ≡ length k.arms
  as_many_arms =
      let a = length-append (map arm_faults arms_last) others in
      let b = length-append (map arm_faults arms_first) others in
      let c = ap length stood_for.arms_are in
      let l = length-map arms_last arm_faults in
      let m = length-map arms_first arm_faults in
      let s = same_arms in
      omega (arith, a, b, c, l, m, s)

  all_end : Each (λ f. f ≤ 2 ^ 64 - 1) arms
  all_end = ends arms_last arms_end
    where
      ends : (xs : List A) → Each (λ arm. arm_faults arm ≤ 2 ^ 64 - 1) xs → Each (λ f. f ≤ 2 ^ 64 - 1) (map arm_faults xs ++ others)
      ends [] each = others_end
      ends (x ∷ xs) each = (each.0, ends xs each.1)

  -- WHAT HAPPENED

  abbrev acts_by : (v : ℕ) → (v < n) ⊎ (n ≤ v) → List VolumeAct
  acts_by v (inl below) = ((took v below).left).history
  acts_by v (inr high) = []

  abbrev h : Happened
  h = record { volumes = λ v. acts_by v (cases_lt v n); directory = left_rows.history }

  stood_by_acts : (v : ℕ) (below : v < n) → stood start v ((took v below).left).history ≡ left volume_lock (standing faults fuses (took v below).before (volume_at k v)) ((took v below).left).history
  stood_by_acts v below = ap (λ z. left volume_lock z ((took v below).left).history) (started v below)

  ends_at : (v : ℕ) (c : (v < n) ⊎ (n ≤ v)) → v < n → EndsAt fits fits_rows is_at is_at_rows of of_rows arm_sure arm_faults settings start ran.after v (acts_by v c)
  ends_at v (inr high) below = absurd (omega (arith, high, below))
  ends_at v (inl here) below =
      let t = took v here in record {
        seats = t.ended;
        of_lanes = t.of_after;
        ended = record {
          ended = (t.left).ended;
          follows = subst (λ z. Follows settings v z (replayed volume_lock z (t.left).history)) (sym (started v here)) ((t.left).follows (volume_at k v) (stood_before v here));
          sized = (t.left).sized;
        };
      }

  no_acts : (v : ℕ) (c : (v < n) ⊎ (n ≤ v)) → n ≤ v → acts_by v c ≡ []
  no_acts v (inl below) high = absurd (omega (arith, below, high))
  no_acts v (inr past) high = refl

  -- WHAT STANDS BEHIND

  stands_by : (v : ℕ) (c : (v < n) ⊎ (n ≤ v)) (w : W) → slice_get behind v ≡ Some w → stands w (stood start v (acts_by v c)).volume
  stands_by v (inr high) w at = absurd (let within = slice_get_within behind v w at in omega (arith, within, many_behind, high))
  stands_by v (inl below) w at = subst (λ z. stands z (stood start v ((took v below).left).history).volume) (same_item behind v (took v below).is at)
      (subst (λ (z : Standing). stands (took v below).behind z.volume) (sym (stood_by_acts v below)) (((took v below).left).stands_for (volume_at k v) (stood_before v below)))

  faults_by : (v : ℕ) (c : (v < n) ⊎ (n ≤ v)) (j : ℕ) (w : W) → slice_get behind v ≡ Some w → j < settings.replicas → faults w j ≡ (stood start v (acts_by v c)).faults j
  faults_by v (inr high) j w at within = absurd (let low = slice_get_within behind v w at in omega (arith, low, many_behind, high))
  faults_by v (inl below) j w at within =
      ap (λ z. faults z j) (same_item behind v at (took v below).is)
      ∙ (sym (((took v below).left).faults_are (volume_at k v) j within) ∙ ap (λ (z : Standing). z.faults j) (sym (stood_by_acts v below)))

  fuses_by : (v : ℕ) (c : (v < n) ⊎ (n ≤ v)) (j : ℕ) (w : W) → slice_get behind v ≡ Some w → j < settings.replicas → fuses w j ≡ (stood start v (acts_by v c)).fuses j
  fuses_by v (inr high) j w at within = absurd (let low = slice_get_within behind v w at in omega (arith, low, many_behind, high))
  fuses_by v (inl below) j w at within =
      ap (λ z. fuses z j) (same_item behind v at (took v below).is)
      ∙ (sym (((took v below).left).fuses_are (volume_at k v) j within) ∙ ap (λ (z : Standing). z.fuses j) (sym (stood_by_acts v below)))

  small_by : (v j : ℕ) (w : W) → slice_get behind v ≡ Some w → j < settings.replicas → faults w j ≤ 2 ^ 64 - 1
  small_by v j w at within =
      let below : v < n = let low = slice_get_within behind v w at in omega (arith, low, many_behind) in
      subst (λ z. faults z j ≤ 2 ^ 64 - 1) (same_item behind v (took v below).is at) (((took v below).left).small j within)

  abbrev faults_behind : List ℕ
  faults_behind = by_slot settings (row_faults last) faults behind

  abbrev fuses_behind : List ℕ
  fuses_behind = by_slot settings (row_fuses last) fuses behind

  counts : CountsBehind settings start (length ran.lanes) h k faults_behind fuses_behind arms
  counts = record {
    faults_are = subst (λ r. AreBySlot settings r (λ v j. (stood start v (h.volumes v)).faults j) faults_behind) (sym (left_rows.faults_are k.directory k.drained stood_for.rows))
        (slots_are settings (row_faults last) faults (λ v j. (stood start v (h.volumes v)).faults j) behind many_behind (λ v j w at within. faults_by v (cases_lt v n) j w at within)
        (λ v below. ((took v below).behind, (took v below).is)));
    fuses_are = subst (λ r. AreBySlot settings r (λ v j. (stood start v (h.volumes v)).fuses j) fuses_behind) (sym (left_rows.fuses_are k.directory k.drained stood_for.rows))
        (slots_are settings (row_fuses last) fuses (λ v j. (stood start v (h.volumes v)).fuses j) behind many_behind (λ v j w at within. fuses_by v (cases_lt v n) j w at within)
        (λ v below. ((took v below).behind, (took v below).is)));
    as_many = as_many_arms;
    other_arms = other_arms;
    faults_end = each_slot (λ f. f ≤ 2 ^ 64 - 1) settings (row_faults last) faults behind left_rows.small small_by;
    arms_end = all_end;
  }

  rows_seats : map of_rows seats_behind ≡ map of_rows (map (λ l. l.directory) ran.after)
  rows_seats = ap (map of_rows) (sym ran.seats_behind_are)

  pub lanes_ran : LanesRan fits fits_rows is_at is_at_rows of of_rows arm_sure arm_faults shared start k ran.lanes ran.after jobs replies h faults_behind fuses_behind arms
  lanes_ran = record {
    opens = opens;
    drained = drained_is;
    some = let many = as_many in omega (arith, some, many);
    few = let many = as_many in omega (arith, few, many);
    given = sym as_many;
    sits = sits;
    new = each_by (HasNewSeats of of_rows) ran.lanes new_seats;
    arms_before = arms_before;
    served = served;
    answers = ran.answers;
    ends = λ v below. ends_at v (cases_lt v n) below;
    no_others = λ v high. no_acts v (cases_lt v n) high;
    directory = record {
      ended = subst (λ z. Ended row_lock z left_rows.history) rows_seats left_rows.ended;
      follows = left_rows.follows k.directory k.drained stood_for.rows;
    };
    counts = counts;
    arms_behind = arms_behind;
  }

  abbrev t : Known
  t = known_behind settings start h faults_behind fuses_behind arms

  volume_behind : (v : ℕ) → v < n → volume_at t v ≡ (stood start v (h.volumes v)).volume
  volume_behind v below = get_or-map-range_with_len (λ v. (stood start v (h.volumes v)).volume) 0 n v v empty_volume below (omega arith)

  stands_behind : StoreStands stands faults fuses stands_rows row_faults row_fuses arm_faults settings behind last arms_last others t
  stands_behind = record {
    many = length-map (volumes_of settings) (λ v. (stood start v (h.volumes v)).volume) ∙ (length-range_with_len 0 n ∙ sym many_behind);
    each = λ v w at.
        let below : v < n = let low = slice_get_within behind v w at in omega (arith, low, many_behind) in
        subst (stands w) (sym (volume_behind v below)) (stands_by v (cases_lt v n) w at);
    rows = left_rows.stands_for k.directory k.drained stood_for.rows;
    faults_are = refl;
    fuses_are = refl;
    arms_are = refl;
  }

  block_ran : (items : List LaneItem) → AreItems jobs replies items → EachPair (λ a b. a.line ≢ b.line) items
      → RanLegally stands faults fuses stands_rows row_faults row_fuses arm_faults settings k items (log_notes_of settings k h) (row_note_of k h) behind last arms_last others
  block_ran items are distinct = record {
    after = t;
    legal =
        (lanes_are_legal V D S T A fits fits_rows is_at is_at_rows of of_rows arm_sure arm_faults shared start k ran.lanes ran.after jobs replies h faults_behind fuses_behind arms
        lanes_ran items are distinct).0;
    stands_for = stands_behind;
  }

  -- NOTES

  module _ (fronts : List ℕ) (fronts_are : AllZip (λ volume front. (known : VolumeKnown) → stands volume known → front ≡ length known.log) volumes fronts) where
    abbrev lines_told : List (List ℕ)
    lines_told = map (λ (own : Vec Tag Global). map line_of_tag own.items) tags

    noted : (v : ℕ) (c : (v < n) ⊎ (n ≤ v)) → v < n
        → (slice_get fronts v ≡ Some (length (volume_at k v).log)) × (slice_get lines_told v ≡ Some (entered_lines (acts_by v c)))
    noted v (inr high) below = absurd (omega (arith, high, below))
    noted v (inl here) below =
        let Fronts : W → ℕ → Type 0 = λ volume front. (known : VolumeKnown) → stands volume known → front ≡ length known.log in
        let t = took v here in
        let f = there fronts v (let long = zip_long Fronts volumes fronts fronts_are in omega (arith, here, long, many)) in (
          f.1 ∙ ap Some (zip_at Fronts volumes fronts fronts_are v t.before f.0 t.was f.1 (volume_at k v) (stood_before v here)),
          mapped (λ (own : Vec Tag Global). map line_of_tag own.items) tags v t.tags t.tags_are ∙ ap Some (t.left).lines,
        )

    logs_told : notes_from 0 fronts lines_told ≡ log_notes_of settings k h
    logs_told = notes_are (λ v. length (volume_at k v).log) (λ v. entered_lines (h.volumes v)) 0 n fronts lines_told
        (zip_long (λ volume front. (known : VolumeKnown) → stands volume known → front ≡ length known.log) volumes fronts fronts_are ∙ many)
        (length-map tags (λ own. map line_of_tag own.items) ∙ ran.many_told)
        (λ v below.
        let here : v ≡ 0 + v = omega arith in
        subst (λ m. (slice_get fronts v ≡ Some (length (volume_at k m).log)) × (slice_get lines_told v ≡ Some (entered_lines (h.volumes m)))) here (noted v (cases_lt v n) below))

    -- they tell of all changes and rows, and the lines are a legal block, in any order that keeps each lane's own
    pub block_told : {E : Type 0} (notes : Result BlockNotes E) → IfOk notes (λ n. (n.logs).items ≡ notes_from 0 fronts lines_told) → IfOk notes (λ n. n.rows ≡ length (k.directory).rows)
        → IfOk notes (λ n. (n.added).items ≡ row_tags) → (items : List LaneItem) → AreItems jobs replies items → EachPair (λ a b. a.line ≢ b.line) items
        → (logs : List LogNote) × (rows : RowNote) × IfOk notes (NotesTell logs rows)
        × RanLegally stands faults fuses stands_rows row_faults row_fuses arm_faults settings k items logs rows behind last arms_last others
    block_told notes logs from added items are distinct = (log_notes_of settings k h, row_note_of k h, told notes logs from added, block_ran items are distinct)
      where
        told : {E : Type 0} (notes : Result BlockNotes E) → IfOk notes (λ n. (n.logs).items ≡ notes_from 0 fronts lines_told) → IfOk notes (λ n. n.rows ≡ length (k.directory).rows)
            → IfOk notes (λ n. (n.added).items ≡ row_tags) → IfOk notes (NotesTell (log_notes_of settings k h) (row_note_of k h))
        told (Err e) logs from added = tt
        told (Ok notes) logs from added = record { logs_are = logs ∙ logs_told; from = from; added = ap (map line_of_tag) added ∙ left_rows.lines }
