-- A block without a command: what it is answered, and that it is legal where nothing changes.
use Rattle.std.proofs.Common.{◌≡◌, ◌≢◌, ◌⊎◌, inl, inr, ℕ, ◌+◌, ◌<◌, ◌≤◌, ◌==◌, ◌||◌, Bool, true, false, List, [], ◌∷◌, ◌++◌, map, length, take, drop, Option, Some, None, refl}
use Rattle.std.proofs.Common.{sym, ap, subst, ◌∙◌, arith, append-nil}
use Rattle.std.specs.Prelude.{flat_map, filter, sum_by, count_by}
use Rattle.std.specs.List.{AllByRecursion as Each, AllZip, enumerate_from, list_any}
use Rattle.std.specs.Option.{option_map}
use Rattle.std.proofs.Math.Seq.{take-length}
use Rattle.std.proofs.lemmas.List.{drop_all}
use Rattle.std.proofs.lemmas.List.Sums.{sum_by-cons}
use Rattle.hay_needle.specs.declared.settings.Settings.{Settings}
use Rattle.hay_reply.specs.declared.Reply.TheVariants.{BadLine}
use Rattle.hay_legal.specs.declared.known.Known.{Known}
use Rattle.hay_core.specs.declared.entry.Logged.{Logged}
use Rattle.hay_legal.specs.declared.known.ReplicaKnown.{ReplicaKnown}
use Rattle.hay_legal.specs.declared.known.Run.{Run}
use Rattle.hay_legal.specs.declared.turn.Item.{Item}
use Rattle.hay_legal.specs.declared.turn.Item.TheVariants as item
use Rattle.hay_legal.specs.declared.turn.LaneItem.{LaneItem}
use Rattle.hay_legal.specs.declared.turn.LogNote.{LogNote}
use Rattle.hay_legal.specs.declared.turn.RowNote.{RowNote}
use Rattle.hay_legal.specs.declared.turn.Turn.TheVariants.{Lanes}
use Rattle.hay_legal.specs.Items.{InBlock, line_asked}
use Rattle.hay_legal.specs.Known.{EachPair, all_lanes, arm_count, fault_count, machine_of, replica_at, replicas_of, slot_of, volume_at, volumes_of}
use Rattle.hay_legal.specs.Blocks.{ArmIsLegal, CameUpEach, Climbs, CountsAreLegal, Differ, DiskIsLegal, FrontsAreLegal, FrontsGrow, GenerationsAreLegal, HomesAgree, InOrder}
use Rattle.hay_legal.specs.Blocks.{IndexIsLegal, IsMade, IsNewRow}
use Rattle.hay_legal.specs.Blocks.{LaysAsPrinted, LegalBlock, LogIsLegal, MeetingsAreLegal, MetFrozen, ReplicaIsLegal, RowsAreLegal, VolumeIsLegal, arm_prints, disk_prints}
use Rattle.hay_legal.specs.Blocks.{failed_on, flushed_on, fronts_told}
use Rattle.hay_legal.specs.Blocks.{generation_print, is_put, laid_to_arm, laid_to_disk, lane_items, log_note, made_on, new_entries, new_rows, put_total, row_failed, row_faults}
use Rattle.hay_legal.specs.Blocks.{row_fronts, run_longer, sticks_on}
use Rattle.hay_legal.specs.Blocks.{volume_print}
use Rattle.hay_legal.specs.Transcript.{answered_line, turn_text}
use Rattle.hay_run.specs.Blocks.{AreBad, answered_text, bad_text, is_command}
use Rattle.hay_run.proofs.Counting.{NoneFalls-same}

-- a bad line, answered as one
abbrev pub bad_line : InBlock → LaneItem
bad_line line = record { line = line.line; lane = line.lane; item = item.Bad; reply = BadLine }

abbrev pub bad_lines : List InBlock → List LaneItem
bad_lines lines = map bad_line lines

pub bad_asked : (lines : List InBlock) → AreBad lines → map line_asked (bad_lines lines) ≡ lines
bad_asked [] bad = refl
bad_asked (line ∷ lines) bad =
    let own : line_asked (bad_line line) ≡ line = ap (λ asked. record { line = line.line; lane = line.lane; item = asked }) (sym bad.0) in
    ap (λ (l : InBlock). l ∷ map line_asked (bad_lines lines)) own ∙ ap (λ (l : List InBlock). line ∷ l) (bad_asked lines bad.1)

-- whether there is a command
bad_item : (asked : Item) → is_command asked ≡ false → asked ≡ item.Bad
bad_item (item.Command command) is = absurd cc
bad_item item.Bad is = refl

pub none_commands : (lines : List InBlock) → list_any (λ line. is_command line.item) lines ≡ false → AreBad lines
none_commands [] none = tt
none_commands (line ∷ lines) none = by (is_command line.item) refl (none_commands lines)
  where
    by : (b : Bool) → is_command line.item ≡ b → (list_any (λ line. is_command line.item) lines ≡ false → AreBad lines) → AreBad (line ∷ lines)
    by true is rest = let wrong : true ≡ false = rw is at none in absurd cc
    by false is rest = (bad_item line.item is, rest (rw is at none))

pub some_commands : (lines : List InBlock) → list_any (λ line. is_command line.item) lines ≡ true → AreBad lines → ⊥
some_commands [] some bad = absurd cc
some_commands (line ∷ lines) some bad =
    let none : is_command line.item ≡ false = ap is_command bad.0 in
    some_commands lines (rw none at some) bad.1

-- its text
bad_texts : (lines : List InBlock) → flat_map answered_line (bad_lines lines) ≡ flat_map bad_text lines
bad_texts [] = refl
bad_texts (line ∷ lines) = ap (λ (l : List ℕ). bad_text line ++ l) (bad_texts lines)

pub bad_text_is : (lines : List InBlock) → answered_text (bad_lines lines) [] ≡ flat_map bad_text lines
bad_text_is lines = append-nil (flat_map answered_line (bad_lines lines)) ∙ bad_texts lines

pub bad_turn : (k : Known) (lines : List InBlock) → turn_text (Lanes (bad_lines lines) [] (record { from = length k.directory.rows; rows = [] }) k) ≡ flat_map bad_text lines
bad_turn k lines =
    append-nil (flat_map answered_line (bad_lines lines) ++ []) ∙ bad_text_is lines

-- WHAT IS SO OF EACH BAD LINE

pub each_bad : (P : LaneItem → Type 0) → ((line : InBlock) → P (bad_line line)) → (lines : List InBlock) → Each P (bad_lines lines)
each_bad P so [] = tt
each_bad P so (line ∷ lines) = (so line, each_bad P so lines)

pair_bad : (R : LaneItem → LaneItem → Type 0) → ((a b : InBlock) → R (bad_line a) (bad_line b)) → (lines : List InBlock) → EachPair R (bad_lines lines)
pair_bad R so [] = tt
pair_bad R so (line ∷ lines) = (each_bad (R (bad_line line)) (so line) lines, pair_bad R so lines)

none_bad : {X : Type 0} (f : LaneItem → List X) → ((line : InBlock) → f (bad_line line) ≡ []) → (lines : List InBlock) → flat_map f (bad_lines lines) ≡ []
none_bad {X} f none [] = refl
none_bad {X} f none (line ∷ lines) = ap (λ (l : List X). l ++ flat_map f (bad_lines lines)) (none line) ∙ none_bad f none lines

zero_bad : (f : LaneItem → ℕ) → ((line : InBlock) → f (bad_line line) ≡ 0) → (lines : List InBlock) → sum_by f (bad_lines lines) ≡ 0
zero_bad f zero [] = refl
zero_bad f zero (line ∷ lines) =
    let first = zero line in let rest = zero_bad f zero lines in let both = sum_by-cons f (bad_line line) (bad_lines lines) in omega (arith, first, rest, both)

-- those of a lane
abbrev of_lane : ℕ → List InBlock → List InBlock
of_lane lane lines = filter (λ line. line.lane == lane) lines

lane_bad : (lane : ℕ) (lines : List InBlock) → lane_items (bad_lines lines) lane ≡ bad_lines (of_lane lane lines)
lane_bad lane [] = refl
lane_bad lane (line ∷ lines) = by (line.lane == lane) refl (lane_bad lane lines)
  where
    by : (b : Bool) → (line.lane == lane) ≡ b → lane_items (bad_lines lines) lane ≡ bad_lines (of_lane lane lines)
        → lane_items (bad_lines (line ∷ lines)) lane ≡ bad_lines (of_lane lane (line ∷ lines))
    by true is rest = rw is (ap (λ (l : List LaneItem). bad_line line ∷ l) rest)
    by false is rest = rw is rest

none_in_lane : {X : Type 0} (f : LaneItem → List X) → ((line : InBlock) → f (bad_line line) ≡ []) → (lane : ℕ) (lines : List InBlock) → flat_map f (lane_items (bad_lines lines) lane) ≡ []
none_in_lane f none lane lines = ap (λ (l : List LaneItem). flat_map f l) (lane_bad lane lines) ∙ none_bad f none (of_lane lane lines)

zero_in_lane : (f : LaneItem → ℕ) → ((line : InBlock) → f (bad_line line) ≡ 0) → (lane : ℕ) (lines : List InBlock) → sum_by f (lane_items (bad_lines lines) lane) ≡ 0
zero_in_lane f zero lane lines = ap (λ (l : List LaneItem). sum_by f l) (lane_bad lane lines) ∙ zero_bad f zero (of_lane lane lines)

-- what is so of each is so of all
all_so : {X : Type 0} (P : X → Type 0) → ((x : X) → P x) → (xs : List X) → Each P xs
all_so P so [] = tt
all_so P so (x ∷ xs) = (so x, all_so P so xs)

all_none : {X Y : Type 0} (f : X → List Y) → ((x : X) → f x ≡ []) → (xs : List X) → flat_map f xs ≡ []
all_none {X} {Y} f none [] = refl
all_none {X} {Y} f none (x ∷ xs) = ap (λ (l : List Y). l ++ flat_map f xs) (none x) ∙ all_none f none xs

all_zero : {X : Type 0} (f : X → ℕ) → ((x : X) → f x ≡ 0) → (xs : List X) → sum_by f xs ≡ 0
all_zero f zero [] = refl
all_zero f zero (x ∷ xs) = let first = zero x in let rest = all_zero f zero xs in let both = sum_by-cons f x xs in omega (arith, first, rest, both)

nothing_dropped : {X : Type 0} (xs : List X) → drop (length xs) xs ≡ []
nothing_dropped xs = drop_all (length xs) xs (omega arith)

none_longer : (run : Option Run) → run ≡ option_map (run_longer 0) run
none_longer None = refl
none_longer (Some run) = let same : run.left ≡ run.left + 0 = omega arith in ap (λ (n : ℕ). Some (record run { left = n })) same

or_never : (b : Bool) → b ≡ (b || false)
or_never true = refl
or_never false = refl

-- WHERE NOTHING CHANGES

module _ (settings : Settings) (k : Known) (lines : List InBlock) where
  abbrev items : List LaneItem
  items = bad_lines lines

  abbrev rows : RowNote
  rows = record { from = length k.directory.rows; rows = [] }

  none_new : (v : ℕ) → new_entries k k v ≡ []
  none_new v = nothing_dropped (volume_at k v).log

  none_noted : (v : ℕ) → log_note k k v ≡ []
  none_noted v = rw (none_new v) refl

  log_bad : (v : ℕ) → LogIsLegal settings k items k v
  log_bad v = record {
    kept = take-length (volume_at k v).log;
    made = subst (λ l. Each (IsMade settings items v) (enumerate_from (length (volume_at k v).log + 1) l)) (sym (none_new v)) tt;
  }

  rows_bad : RowsAreLegal settings k items rows k
  rows_bad =
      let none : new_rows k k ≡ [] = nothing_dropped k.directory.rows in
      record {
        kept = take-length k.directory.rows;
        from = refl;
        each = subst (λ l. AllZip (IsNewRow settings k items k) [] l) (sym none) tt;
        distinct = subst (λ l. EachPair (λ a b. a.pair ≢ b.pair) l) (sym none) tt;
      }

  fronts_bad : FrontsAreLegal settings k items rows k
  fronts_bad = record {
    volumes = all_so _ (λ lane. all_so _
        (λ v. subst (FrontsGrow (length (volume_at k v).log) (length (volume_at k v).log)) (sym (none_in_lane (λ item. volume_print v item.reply) (λ line. refl) lane lines)) (tt, tt))
        (volumes_of settings)) all_lanes;
    directory = all_so _
        (λ lane. subst (FrontsGrow (length k.directory.rows) (length k.directory.rows)) (sym (none_in_lane (row_fronts rows) (λ line. refl) lane lines)) (tt, tt)) all_lanes;
  }

  homes_bad : (a b : InBlock) → a.lane ≡ b.lane → HomesAgree settings k items rows k (bad_line a) (bad_line b)
  homes_bad a b same = record {
    kept = λ pair v met. absurd met;
    missing = λ pair met. absurd met;
    apart = λ pair v met missed. met;
    laid = λ pair v bytes met asked. absurd met;
  }

  no_arm : ℕ → ℕ → Bool
  no_arm line i = false

  disk_bad : (v j : ℕ) → DiskIsLegal settings k items k no_arm v j
  disk_bad v j =
      let m = machine_of settings v j in
      let slot = slot_of settings v j in
      let before = fault_count k slot in
      let laid : sum_by (laid_to_disk settings no_arm v j) items ≡ 0 = zero_bad (laid_to_disk settings no_arm v j) (λ line. refl) lines in
      let failed : sum_by (λ item. failed_on v m item.reply) items ≡ 0 = zero_bad (λ item. failed_on v m item.reply) (λ line. refl) lines in (
        subst (CameUpEach Differ before before) (sym (none_bad (λ item. disk_prints v m item.reply) (λ line. refl) lines)) (tt, tt),
        inl (omega (arith, laid, failed)),
        all_so (λ lane. EachPair Climbs (flat_map (λ item. disk_prints v m item.reply) (lane_items items lane)))
            (λ lane. subst (EachPair Climbs) (sym (none_in_lane (λ item. disk_prints v m item.reply) (λ line. refl) lane lines)) tt) all_lanes,
      )

  arm_bad : (lane : ℕ) → ArmIsLegal settings k items k no_arm lane
  arm_bad lane =
      let before = arm_count k lane in
      let laid : sum_by (laid_to_arm settings no_arm) (lane_items items lane) ≡ 0 =
      zero_in_lane (laid_to_arm settings no_arm) (λ line. all_zero (λ v. count_by (no_arm line.line) []) (λ v. refl) (volumes_of settings)) lane lines in (
        subst (CameUpEach Climbs before before) (sym (none_in_lane (λ item. arm_prints item.reply) (λ line. refl) lane lines)) (tt, tt),
        inl (omega (arith, laid)),
      )

  counts_bad : CountsAreLegal settings k items k
  counts_bad =
      let rows_failed : sum_by row_failed items ≡ 0 = zero_bad row_failed (λ line. refl) lines in
      record {
        faults = NoneFalls-same k.faults;
        arms = NoneFalls-same k.arms;
        to_arm = no_arm;
        as_printed = each_bad (LaysAsPrinted settings no_arm) (λ line v p d causes is. absurd cc) lines;
        disk = all_so _ (λ v. all_so _ (disk_bad v) (replicas_of settings)) (volumes_of settings);
        directory = (
          subst (CameUpEach Differ (fault_count k 0) (fault_count k 0)) (sym (none_bad (λ item. row_faults item.reply) (λ line. refl) lines)) (tt, tt),
          inl (omega (arith, rows_failed)),
        );
        arm = all_so (ArmIsLegal settings k items k no_arm) arm_bad all_lanes;
      }

  never_frozen : (v : ℕ) (a : InBlock) → MetFrozen settings k items rows k v None (bad_line a) → ⊥
  never_frozen v a (inl froze) = cc froze
  never_frozen v a (inr (inl met)) = met
  never_frozen v a (inr (inr (inl passed))) = let asked = passed.3 in cc asked
  never_frozen v a (inr (inr (inr counted))) = let froze = counted.7 in cc froze

  meetings_bad : (v : ℕ) → MeetingsAreLegal settings k items k v
  meetings_bad v = record {
    met = λ line. 0;
    fronts =
        all_so _ (λ lane. subst (FrontsGrow (length (volume_at k v).log) (length (volume_at k v).log)) (sym (none_in_lane (fronts_told (λ line. 0) v) (λ line. refl) lane lines)) (tt, tt)) all_lanes;
    room = each_bad _ (λ line. tt) lines;
    records = all_so _ (λ j. record { first = each_bad _ (λ line. tt) lines; between = pair_bad _ (λ a b. tt) lines; last = each_bad _ (λ line. tt) lines }) (replicas_of settings);
  }

  index_bad : (v m : ℕ) (replica : ReplicaKnown) → IndexIsLegal items v m None replica replica
  index_bad v m replica =
      let sticks : sum_by (sticks_on v m) items ≡ 0 = zero_bad (sticks_on v m) (λ line. refl) lines in
      record {
        before = each_bad _ (λ line stuck met. absurd met) lines;
        between = pair_bad _ (λ a b same stuck met. absurd met) lines;
        behind = each_bad _ (λ line loose sticks. absurd sticks) lines;
        once = omega (arith, sticks);
      }

  generations_bad : (v j : ℕ) (replica : ReplicaKnown) → GenerationsAreLegal settings items v j None replica replica
  generations_bad v j replica =
      let m = machine_of settings v j in
      let made : flat_map (made_on v m) items ≡ [] = none_bad (made_on v m) (λ line. refl) lines in
      let many : length (flat_map (made_on v m) items) ≡ 0 = ap length made in
      record {
        inside_range = subst (λ l. Each (λ g. (replica.generation < g) × (g + 0 ≤ replica.generation)) l) (sym made) tt;
        once = subst (EachPair (λ g h. g ≢ h)) (sym made) tt;
        all = omega (arith, many);
        last = λ less. absurd (omega (arith, less));
        rising = all_so _ (λ lane. subst (EachPair InOrder) (sym (none_in_lane (generation_print v m) (λ line. refl) lane lines)) tt) all_lanes;
      }

  replica_bad : (v j : ℕ) → ReplicaIsLegal settings k items k v None j (replica_at (volume_at k v) j) (replica_at (volume_at k v) j)
  replica_bad v j =
      let m = machine_of settings v j in
      let replica = replica_at (volume_at k v) j in
      let total : sum_by put_total (new_entries k k v) ≡ 0 = ap (λ (l : List Logged). sum_by put_total l) (none_new v) in
      let puts : count_by is_put (new_entries k k v) ≡ 0 = ap (λ (l : List Logged). count_by is_put l) (none_new v) in
      let flushed : flat_map (flushed_on v m) items ≡ [] = none_bad (flushed_on v m) (λ line. refl) lines in
      let records : sum_by (λ n. n) (flat_map (flushed_on v m) items) ≡ 0 = ap (λ (l : List ℕ). sum_by (λ n. n) l) flushed in
      record {
        base = refl;
        generations = generations_bad v j replica;
        sizes = inl (refl, omega (arith, total), omega (arith, puts));
        room = inl puts;
        bare = (
          λ changed. elim changed [ inl some ↦ absurd (some flushed) | inr less ↦ absurd (omega (arith, less)) ],
          inl (refl, omega (arith, puts, records)),
        );
        run = inr (inl (subst (λ (n : ℕ). replica.run ≡ option_map (run_longer n) replica.run) (sym puts) (none_longer replica.run), refl, refl));
        stuck = inl (refl, refl);
        index = index_bad v m replica;
        poised = or_never replica.poised;
      }

  volume_bad : (v : ℕ) → VolumeIsLegal settings k items rows k v
  volume_bad v = record {
    many = refl;
    froze = None;
    freeze = (refl, refl);
    lanes = pair_bad _ (λ a b same frozen thawed. never_frozen v a frozen) lines;
    settled = pair_bad _ (λ a b same frozen. absurd (never_frozen v a frozen)) lines;
    counted = λ by m f froze told. absurd cc;
    meetings = meetings_bad v;
    replicas = all_so _ (replica_bad v) (replicas_of settings);
  }

  pub bad_legal : LegalBlock settings k items [] rows k
  bad_legal = record {
    notes = sym (all_none (log_note k k) none_noted (volumes_of settings));
    entered = each_bad _ (λ line. tt) lines;
    log = all_so (LogIsLegal settings k items k) log_bad (volumes_of settings);
    homes = rows_bad;
    fronts = fronts_bad;
    pairs = pair_bad _ homes_bad lines;
    lines = each_bad _ (λ line. refl) lines;
    counts = counts_bad;
    volumes = all_so (VolumeIsLegal settings k items rows k) volume_bad (volumes_of settings);
    directory = inl (refl, refl);
    drained = refl;
    fuses = refl;
    many = refl;
  }
