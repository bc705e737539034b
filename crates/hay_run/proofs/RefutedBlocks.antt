-- Texts of blocks that no run has, each as a lemma.
use Rattle.std.proofs.Common.{◌≡◌, ◌≢◌, ℕ, zero, suc, ◌<◌, ◌≤◌, ◌-◌, ◌^◌, ◌==◌, ◌++◌, inl, inr, Bool, true, false, eq-eqb, List, [], ◌∷◌, Contains, Option, Some, length, map}
use Rattle.std.proofs.Common.{refl, sym, ap, subst, ◌∙◌, arith, codes, length-append}
use Rattle.std.specs.Prelude.{flat_map, slice_get, slice_index}
use Rattle.std.specs.List.{AllByRecursion as Each}
use Rattle.std.proofs.lemmas.List.{length-map}
use Rattle.hay_needle.specs.declared.needle.Pair.{Pair}
use Rattle.hay_needle.specs.declared.settings.Settings.{Settings}
use Rattle.hay_reply.specs.declared.Cause.{Cause}
use Rattle.hay_reply.specs.declared.Cause.TheVariants.{Arm}
use Rattle.hay_reply.specs.declared.LineVolume.{LineVolume}
use Rattle.hay_reply.specs.declared.Note.{Note}
use Rattle.hay_reply.specs.declared.Note.TheVariants.{Kept, Log, Rows}
use Rattle.hay_reply.specs.declared.Reply.TheVariants.{BadLine}
use Rattle.hay_reply.specs.Replies.{note_line, note_text}
use Rattle.hay_legal.specs.declared.turn.Item.TheVariants as item
use Rattle.hay_legal.specs.declared.turn.LaneItem.{LaneItem}
use Rattle.hay_legal.specs.declared.turn.LogNote.{LogNote}
use Rattle.hay_legal.specs.declared.turn.RowNote.{RowNote}
use Rattle.hay_legal.specs.Items.{InBlock, line_asked}
use Rattle.hay_legal.specs.Items.Asked.{Block}
use Rattle.hay_legal.specs.Known.{EachPair, disk_count}
use Rattle.hay_legal.specs.Stands.{Outside}
use Rattle.hay_history.proofs.Lists.{each_in, first_or_rest, none_in}
use Rattle.hay_lane.specs.Blames.{MayBlame, causes_told}
use Rattle.hay_block.specs.declared.worker.Job.{Job}
use Rattle.hay_cluster_block.specs.Notes.{AreBlockNotes, AreWithin, IsRowOf, TellsRowsOf, block_notes, notes_of_rows}
use Rattle.hay_cluster_block.specs.Rows.{pair_of}
use Rattle.hay_cluster.specs.Causes.{Counts}
use Rattle.hay_cluster.specs.Seen.{IsFrozenBy}
use Rattle.hay_run.specs.Blocks.{AreBad, FitsLine, IsBlockText, bad_text, job_of, lane_causes}
use Rattle.hay_legal.specs.Statuses.{Ending}
use Rattle.hay_disk.specs.Shelf.{HeldDisk}
use Rattle.hay_drill.specs.Script.{drill_script, settings as day_settings}
use Rattle.hay_run.specs.Causing.{AnswerTexts, BeginsAt, CausedRun, EndsAt, IsTextOf, Tally}
use Rattle.hay_run.proofs.Unfused.{drill_unfused}
use Rattle.hay_run.proofs.Dealing.{each_at}

-- LINES

-- a line that is no command, and was answered as one
pub bad_line_answered : (settings : Settings) (Sure : ℕ → Type 0) (before after : Counts) (home : Pair → Option ℕ) (lines : List InBlock) (text : List ℕ)
    (block : IsBlockText settings Sure before after home lines text) (answered : LaneItem)
    → Contains block.items answered → answered.item ≡ item.Bad → answered.reply ≢ BadLine → ⊥
bad_line_answered settings Sure before after home lines text block answered among bad other = other ((each_in (FitsLine settings) block.items answered block.fits among).2 bad)

-- a line without a reply
pub line_without_a_reply : (settings : Settings) (Sure : ℕ → Type 0) (before after : Counts) (home : Pair → Option ℕ) (lines : List InBlock) (text : List ℕ)
    (block : IsBlockText settings Sure before after home lines text) → length block.items < length lines → ⊥
line_without_a_reply settings Sure before after home lines text block fewer =
    let many : length lines ≡ length block.items = ap length (sym block.asked) ∙ length-map block.items line_asked in
    omega (arith, fewer, many)

-- ARMS

-- what holds of each cause of a lane holds of those of one of its lines
of_line : (P : Cause → Type 0) (items : List LaneItem) (answered : LaneItem) → Each P (lane_causes answered.lane items) → Contains items answered → Each P (causes_told answered.reply)
of_line P items answered each among = by items each among
  where
    front : (xs ys : List Cause) → Each P (xs ++ ys) → Each P xs
    front [] ys each = tt
    front (x ∷ xs) ys each = (each.0, front xs ys each.1)

    rest : (xs ys : List Cause) → Each P (xs ++ ys) → Each P ys
    rest [] ys each = each
    rest (x ∷ xs) ys each = rest xs ys each.1

    kept : (b : Bool) (item : LaneItem) (items : List LaneItem) → (item.lane == answered.lane) ≡ b → Each P (lane_causes answered.lane (item ∷ items)) → Each P (lane_causes answered.lane items)
    kept true item items is each = rest (causes_told item.reply) (lane_causes answered.lane items) (rw is at each)
    kept false item items is each = rw is at each

    first : (item : LaneItem) (items : List LaneItem) → item ≡ answered → Each P (lane_causes answered.lane (item ∷ items)) → Each P (causes_told answered.reply)
    first item items same each =
        let here : (item.lane == answered.lane) ≡ true = eq-eqb item.lane answered.lane (ap (λ (l : LaneItem). l.lane) same) in
        subst (λ (l : LaneItem). Each P (causes_told l.reply)) same (front (causes_told item.reply) (lane_causes answered.lane items) (rw here at each))

    by : (items : List LaneItem) → Each P (lane_causes answered.lane items) → Contains items answered → Each P (causes_told answered.reply)
    by [] each among = absurd (none_in answered among)
    by (item ∷ items) each among = elim (first_or_rest item items answered among) [
      | inl same ↦ first item items same each
      | inr more ↦ by items (kept (item.lane == answered.lane) item items refl each) more
    ]

module _ (settings : Settings) (Sure : ℕ → Type 0) (before after : Counts) (home : Pair → Option ℕ) (lines : List InBlock) (text : List ℕ)
    (block : IsBlockText settings Sure before after home lines text) (answered : LaneItem) (among : Contains block.items answered) where
  blamed : (count : ℕ) → Contains (causes_told answered.reply) (Arm count)
      → MayBlame (Sure answered.lane) (slice_index before.arms answered.lane) (slice_index after.arms answered.lane) (Arm count)
  blamed count told =
      let P : Cause → Type 0 = MayBlame (Sure answered.lane) (slice_index before.arms answered.lane) (slice_index after.arms answered.lane) in
      each_in P (causes_told answered.reply) (Arm count) (of_line P block.items answered ((block.blames answered.lane).each) among) told

  -- a sure arm is blamed, be its count the greatest
  pub sure_arm_blamed : (count : ℕ) → Contains (causes_told answered.reply) (Arm count) → Sure answered.lane → ⊥
  sure_arm_blamed count told sure = (blamed count told).0 sure

  -- and an arm with a count that it had before the block
  pub arm_that_never_rose : (count : ℕ) → Contains (causes_told answered.reply) (Arm count) → count ≤ slice_index before.arms answered.lane → count ≢ 2 ^ 64 - 1 → ⊥
  arm_that_never_rose count told low less = elim (((blamed count told).1).0) [ inl rose ↦ absurd (omega (arith, rose, low)) | inr most ↦ less most ]

  -- and with one that it has not come to behind it
  pub arm_that_came_later : (count : ℕ) → Contains (causes_told answered.reply) (Arm count) → slice_index after.arms answered.lane < count → ⊥
  arm_that_came_later count told high = let most = ((blamed count told).1).1 in absurd (omega (arith, high, most))

-- FUSES

-- a block sets none on any disk
pub fuse_set_by_a_block : (Tells : Type 0) (settings : Settings) (before after : Tally) (lines : List InBlock) (text : List ℕ) (slot : ℕ)
    → slice_index after.fuses slot ≢ slice_index before.fuses slot → IsTextOf Tells settings before after (Block lines) text → ⊥
fuse_set_by_a_block Tells settings before after lines text slot set told = set (ap (λ fuses. slice_index fuses slot) told.0)

-- so a run that answered an empty one alone gives each disk back with those that it had
pub fuses_set_by_an_empty_block : (Tells : Type 0) (settings : Settings) (taken given : Outside) (sure : ℕ → Bool) (before after : Tally) (text : List ℕ) (slot : ℕ)
    → BeginsAt Tells settings taken sure before → AnswerTexts Tells settings before after (Block [] ∷ []) text → EndsAt Tells settings after given
    → slot < disk_count settings → given.fuses slot ≢ taken.fuses slot → ⊥
fuses_set_by_an_empty_block Tells settings taken given sure before after text slot begins (mid, first, rest, is, later, told, (none, same)) ends within set =
    set (ends.fuses slot within ∙ ap (λ (tally : Tally). slice_index tally.fuses slot) same ∙ ap (λ fuses. slice_index fuses slot) told.0 ∙ begins.fuses slot within)

-- and a drill gives back none more than it took, however it ends
pub fuse_set_by_a_drill : (Tells : Type 0) (count first : ℕ) (ending : Ending) (left : Option (List ℕ)) (taken given : Outside) (sure : ℕ → Bool) (disks disks' : ℕ → HeldDisk)
    (held : List ℕ) (written : Option (List ℕ)) (slot : ℕ) → CausedRun Tells day_settings ending (drill_script count first) left taken given sure disks disks' held written
    → slot < disk_count day_settings → given.fuses slot ≢ taken.fuses slot → ⊥
fuse_set_by_a_drill Tells count first ending left taken given sure disks disks' held written slot run within set =
    set (drill_unfused Tells count first ending left taken given sure disks disks' held written day_settings (drill_script count first) refl refl run slot within)

-- WITHOUT A COMMAND

-- a block of bad lines freezes no volume
pub frozen_by_bad_lines : (Tells : Type 0) (settings : Settings) (before after : Tally) (lines : List InBlock) (text : List ℕ) (v m : ℕ) → AreBad lines
    → IsFrozenBy after.seen v m → (IsFrozenBy before.seen v m → ⊥) → IsTextOf Tells settings before after (Block lines) text → ⊥
frozen_by_bad_lines Tells settings before after lines text v m bad frozen was told = was (subst (λ (tally : Tally). IsFrozenBy tally.seen v m) (told.1 bad).0 frozen)

-- nor does an empty one, of which nothing is told
pub frozen_behind_an_empty_block : (Tells : Type 0) (settings : Settings) (before after : Tally) (text : List ℕ) (v m : ℕ)
    → IsFrozenBy after.seen v m → (IsFrozenBy before.seen v m → ⊥) → AnswerTexts Tells settings before after (Block [] ∷ []) text → ⊥
frozen_behind_an_empty_block Tells settings before after text v m frozen was (mid, first, rest, is, later, told, (none, same)) =
    frozen_by_bad_lines Tells settings before mid [] first v m tt (subst (λ (tally : Tally). IsFrozenBy tally.seen v m) same frozen) was told

-- NOTES

-- a note behind lines of which none is a command
pub note_behind_bad_lines : (Tells : Type 0) (settings : Settings) (before after : Tally) (lines : List InBlock) (note : Note) → AreBad lines
    → IsTextOf Tells settings before after (Block lines) (flat_map bad_text lines ++ note_line note) → ⊥
note_behind_bad_lines Tells settings before after lines note bad told =
    let own = flat_map bad_text lines in
    omega (arith, length-append own (note_line note), length-append (note_text note) (codes "\n"), ap length (told.1 bad).1)

-- and so behind no line at all
pub note_of_an_empty_block : (Tells : Type 0) (settings : Settings) (before after : Tally) (note : Note) → IsTextOf Tells settings before after (Block []) (note_line note) → ⊥
note_of_an_empty_block Tells settings before after note told = note_behind_bad_lines Tells settings before after [] note tt told

-- a note of another kind
pub kept_behind_a_block : (settings : Settings) (Sure : ℕ → Type 0) (before after : Counts) (home : Pair → Option ℕ) (lines : List InBlock) (text : List ℕ)
    (block : IsBlockText settings Sure before after home lines text) (v m line : ℕ)
    → Contains block.notes (Kept v m line) → ⊥
kept_behind_a_block settings Sure before after home lines text block v m line among = each_in (TellsRowsOf home (map job_of lines)) block.notes (Kept v m line) block.rows among

-- a row of a line that put no pair of this home
pub row_of_another_pair : (settings : Settings) (Sure : ℕ → Type 0) (before after : Counts) (home : Pair → Option ℕ) (lines : List InBlock) (text : List ℕ)
    (block : IsBlockText settings Sure before after home lines text) (from : ℕ)
    (rows : List LineVolume) (row : LineVolume)
    → Contains block.notes (Rows from rows) → Contains rows row
    → ((job : Job) (pair : Pair) → Contains (map job_of lines) job → job.line ≡ row.line → pair_of job.item ≡ Some pair → home pair ≢ Some row.volume) → ⊥
row_of_another_pair settings Sure before after home lines text block from rows row among told none =
    let is = each_in (IsRowOf home (map job_of lines)) rows row (each_in (TellsRowsOf home (map job_of lines)) block.notes (Rows from rows) block.rows among) told in
    none is.job is.pair is.among is.line is.put is.home_is

-- a note on a volume is of one of the volumes with changes
in_logs : (logs : List LogNote) (rows : RowNote) (i v from : ℕ) (lines : List ℕ) → slice_get (block_notes logs rows) i ≡ Some (Log v from lines)
    → (log : LogNote) × (slice_get logs i ≡ Some log) × (log.volume ≡ v) × (log.lines ≡ lines)
in_logs [] rows i v from lines at = absurd (among_rows rows.rows i at)
  where
    among_rows : (told : List LineVolume) (i : ℕ) → slice_get (notes_of_rows rows.from told) i ≡ Some (Log v from lines) → ⊥
    among_rows [] i at = cc
    among_rows (row ∷ told) zero at = cc
    among_rows (row ∷ told) (suc i) at = cc
in_logs (log ∷ logs) rows zero v from lines at =
    let volume_is : log.volume ≡ v = cc in
    let lines_are : log.lines ≡ lines = cc in
    (log, refl, volume_is, lines_are)
in_logs (log ∷ logs) rows (suc i) v from lines at = in_logs logs rows i v from lines at

-- and a note on rows is of the new ones
in_last : (first from : ℕ) (rows told : List LineVolume) → Contains (notes_of_rows first rows) (Rows from told) → rows ≡ told
in_last first from [] told among = absurd (none_in (Rows from told) among)
in_last first from (row ∷ rows) told among = elim (first_or_rest (Rows first (row ∷ rows)) [] (Rows from told) among) [ inl same ↦ cc | inr more ↦ absurd (none_in (Rows from told) more) ]

in_rows : (logs : List LogNote) (rows : RowNote) (from : ℕ) (told : List LineVolume) → Contains (block_notes logs rows) (Rows from told) → rows.rows ≡ told
in_rows [] rows from told among = in_last rows.from from rows.rows told among
in_rows (log ∷ logs) rows from told among = elim (first_or_rest (Log log.volume log.from log.lines) (block_notes logs rows) (Rows from told) among) [
  | inl same ↦ cc
  | inr more ↦ in_rows logs rows from told more
]

pairs_at : {X : Type 0} (R : X → X → Type 0) (xs : List X) (i j : ℕ) (a b : X) → EachPair R xs → i < j → slice_get xs i ≡ Some a → slice_get xs j ≡ Some b → R a b
pairs_at R [] i j a b pairs below at_a at_b = absurd cc
pairs_at R (x ∷ xs) i zero a b pairs below at_a at_b = absurd (omega (arith, below))
pairs_at R (x ∷ xs) zero (suc j) a b pairs below at_a at_b =
    let is : x ≡ a = cc in
    subst (λ z. R z b) is (each_at (R x) xs j b pairs.0 at_b)
pairs_at R (x ∷ xs) (suc i) (suc j) a b pairs below at_a at_b = pairs_at R xs i j a b pairs.1 (omega (arith, below)) at_a at_b

module _ (settings : Settings) (Sure : ℕ → Type 0) (before after : Counts) (home : Pair → Option ℕ) (lines : List InBlock) (text : List ℕ)
    (block : IsBlockText settings Sure before after home lines text) where
  found : (i v from : ℕ) (own : List ℕ) → slice_get block.notes i ≡ Some (Log v from own)
      → (log : LogNote) × (slice_get (block.told).logs i ≡ Some log) × (log.volume ≡ v) × (log.lines ≡ own)
  found i v from own at = in_logs (block.told).logs (block.told).rows i v from own (ap (λ notes. slice_get notes i) (sym (block.told).are) ∙ at)

  -- a note on a volume behind one on the same or a later volume
  pub log_downwards : (i j v w from from' : ℕ) (own own' : List ℕ) → i < j → slice_get block.notes i ≡ Some (Log v from own) → slice_get block.notes j ≡ Some (Log w from' own') → w ≤ v → ⊥
  log_downwards i j v w from from' own own' below first second down =
      let a = found i v from own first in
      let b = found j w from' own' second in
      let up : (a.0).volume < (b.0).volume =
      pairs_at (λ (x y : LogNote). x.volume < y.volume) (block.told).logs i j a.0 b.0 ((block.told).upwards).upwards below a.1 b.1 in
      let volume_is : (a.0).volume ≡ v = a.2 in
      let later_is : (b.0).volume ≡ w = b.2 in
      omega (arith, up, volume_is, later_is, down)

  -- a note on a volume that the store has not
  pub log_of_no_volume : (i v from : ℕ) (own : List ℕ) → slice_get block.notes i ≡ Some (Log v from own) → settings.volumes ≤ v → ⊥
  log_of_no_volume i v from own at high =
      let a = found i v from own at in
      let low : (a.0).volume < settings.volumes =
      each_at (λ (log : LogNote). log.volume < settings.volumes) (block.told).logs i a.0 ((block.told).upwards).within a.1 in
      let volume_is : (a.0).volume ≡ v = a.2 in
      omega (arith, low, volume_is, high)

  -- a row of a volume that the store has not
  pub row_of_no_volume : (from : ℕ) (rows : List LineVolume) (row : LineVolume) → Contains block.notes (Rows from rows) → Contains rows row → settings.volumes ≤ row.volume → ⊥
  row_of_no_volume from rows row among told high =
      let same = in_rows (block.told).logs (block.told).rows from rows (subst (λ (notes : List Note). Contains notes (Rows from rows)) (block.told).are among) in
      let low = each_in (λ (r : LineVolume). r.volume < settings.volumes) rows row (subst (AreWithin settings.volumes) same (block.told).within) told in
      absurd (omega (arith, low, high))

  -- a note on a volume where nothing was entered
  pub log_of_nothing : (i v from : ℕ) → slice_get block.notes i ≡ Some (Log v from []) → ⊥
  log_of_nothing i v from at =
      let a = found i v from [] at in
      each_at (λ (log : LogNote). log.lines ≢ []) (block.told).logs i a.0 ((block.told).upwards).some a.1 a.3
