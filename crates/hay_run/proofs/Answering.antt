-- A block, from its lines to what stands behind it.
use Rattle.std.proofs.Common.{◌≡◌, ◌≢◌, ◌⊎◌, inl, ℕ, ◌<◌, ◌≤◌, List, [], ◌∷◌, map, length, Option, Some, None, refl, sym, ap, subst, arith, append-nil}
use Rattle.std.specs.Prelude.{flat_map, slice_index, Result, Ok, Err, IfOk, OnOk, OnErr, Vec}
use Rattle.std.specs.Global.{Global}
use Rattle.std.specs.List.{AllByRecursion as Each, AllZip}
use Rattle.std.proofs.lemmas.Result.{IfOk-weaker, on_ok_weaker, on_err_weaker}
use Rattle.hay_base.specs.declared.memory.NoMemory.{NoMemory}
use Rattle.hay_disk.specs.Disk.{Files}
use Rattle.hay_disk.specs.Streams.{Wrote, WrotePart}
use Rattle.hay_needle.specs.declared.needle.Pair.{Pair}
use Rattle.hay_needle.specs.declared.settings.Settings.{Settings}
use Rattle.hay_reply.specs.declared.Note.{Note}
use Rattle.hay_reply.specs.declared.Reply.{Reply}
use Rattle.hay_reply.specs.Fits.{FitsNote, FitsReply}
use Rattle.hay_legal.specs.declared.known.Known.{Known}
use Rattle.hay_legal.specs.declared.turn.LaneItem.{LaneItem}
use Rattle.hay_legal.specs.declared.turn.LogNote.{LogNote}
use Rattle.hay_legal.specs.declared.turn.RowNote.{RowNote}
use Rattle.hay_legal.specs.declared.turn.Turn.{Turn}
use Rattle.hay_legal.specs.declared.turn.Turn.TheVariants.{Lanes}
use Rattle.hay_legal.specs.Items.{InBlock, line_asked}
use Rattle.hay_legal.specs.Items.Asked.{Block}
use Rattle.hay_legal.specs.Known.{EachPair}
use Rattle.hay_lane.specs.Blames.{BlamesArm, causes_told}
use Rattle.hay_block.specs.declared.worker.Job.{Job}
use Rattle.hay_block.specs.Lines.{AnswersBad, AnswersSuited, AreItems, IsServed}
use Rattle.hay_cluster.specs.Causes.{Counts}
use Rattle.hay_cluster.specs.Seen.{home_seen}
use Rattle.hay_cluster.specs.State.{Stands, Holds}
use Rattle.hay_cluster.specs.Store.{Open}
use Rattle.hay_cluster.proofs.Standing.{stands_holds}
use Rattle.hay_cluster_block.specs.Blocks.{RanBlock}
use Rattle.hay_cluster_block.specs.Notes.{AreBlockNotes, TellsRowsOf, block_notes}
use Rattle.hay_cluster_block.specs.Rows.{all_jobs}
use Rattle.hay_run.specs.declared.deal.Place.{Place}
use Rattle.hay_run.specs.declared.stops.Stop.{Stop}
use Rattle.hay_run.specs.declared.stops.Stop.TheVariants as stop
use Rattle.hay_run.specs.Blocks.{AreAnswered, AreBad, AreJobs, ArePlaces, FitsLine, IsBlockOf, IsBlockText, answered_text, bad_text, job_of, lane_causes}
use Rattle.hay_run.specs.Causing.{Caused, HasSureArm, IsLaterTally, StopCaused, Tally}
use Rattle.hay_run.specs.Turns.{AnswersAll, AnswersPart, AnswersTurns, AnyTurn, IsGoingOn, Standing, Writing}
use Rattle.hay_run.proofs.Blocked.{NotesOf, block_ran, block_told, err_here, notes_of_told, ok_by, ok_here, quiet_text, wanted_line, wanted_text}
use Rattle.hay_run.proofs.Causing.{caused_one, part_stops}
use Rattle.hay_run.proofs.Dealing.{answered_by, are_items, distinct_items, each_job, each_mapped, each_reply, jobs_long, zip_mapped}
use Rattle.hay_run.proofs.RowsAsked.{rows_asked}
use Rattle.hay_run.proofs.BadLines.{bad_asked, bad_legal, bad_lines, bad_text_is, bad_turn, each_bad}
use Rattle.hay_run.proofs.Turning.{answers_block, block_goes_on}
use Rattle.hay_script.specs.declared.words.TheConstants.{MAX_LANES}

-- DEALT OUT

abbrev pub own_jobs : List (Vec Job Global) → List (List Job)
own_jobs jobs = map (λ (own : Vec Job Global). own.items) jobs

abbrev pub own_replies : List (Vec Reply Global) → List (List Reply)
own_replies replies = map (λ (own : Vec Reply Global). own.items) replies

-- the lines of a block, dealt out to their lanes
pub record Dealt (lanes : ℕ) (lines : List InBlock) (jobs : List (Vec Job Global)) (places : List Place) : Type 0 where
  pub block : IsBlockOf lanes lines
  pub jobs_are : AreJobs lanes lines (own_jobs jobs)
  pub places_are : ArePlaces lines places

pub low_lines : (lanes n : ℕ) (lines ls : List InBlock) → IsBlockOf lanes lines → n ≡ lanes → ls ≡ lines → Each (λ line. line.lane < n) ls
low_lines lanes n lines ls block same are =
    subst (λ (m : ℕ). Each (λ line. line.lane < m) ls) (sym same) (subst (λ (l : List InBlock). Each (λ line. line.lane < lanes) l) (sym are) block.low)

pub dealt : (lanes n : ℕ) (lines ls : List InBlock) (own jobs : List (Vec Job Global)) (stand places : List Place) → IsBlockOf lanes lines → n ≡ lanes → ls ≡ lines
    → AreJobs n ls (own_jobs own) → ArePlaces ls stand → jobs ≡ own → places ≡ stand → Dealt lanes lines jobs places
dealt lanes n lines ls own jobs stand places block same are jobs_are places_are jobs_same places_same = record {
  block = block;
  jobs_are =
      subst (λ (m : ℕ). AreJobs m lines (own_jobs jobs)) same
      (subst (λ (l : List InBlock). AreJobs n l (own_jobs jobs)) are
      (subst (λ (js : List (Vec Job Global)). AreJobs n ls (own_jobs js)) (sym jobs_same) jobs_are));
  places_are = subst (λ (l : List InBlock). ArePlaces l places) are (subst (λ (ps : List Place). ArePlaces ls ps) (sym places_same) places_are);
}

each_own : (P : List Job → Type 0) (jobs : List (Vec Job Global)) → Each P (own_jobs jobs) → Each (λ (js : Vec Job Global). P js.items) jobs
each_own P [] each = tt
each_own P (js ∷ jobs) each = (each.0, each_own P jobs each.1)

module _ (lanes : ℕ) (lines : List InBlock) (jobs : List (Vec Job Global)) (places : List Place) (d : Dealt lanes lines jobs places) where
  many_jobs : length jobs ≡ lanes
  many_jobs = jobs_long lanes lines jobs d.jobs_are

  pub some_jobs : 0 < length jobs
  some_jobs = let long = many_jobs in let some = d.block.some in omega (arith, long, some)

  pub few_jobs : length jobs ≤ MAX_LANES
  few_jobs = let long = many_jobs in let few = d.block.few in omega (arith, long, few)

  pub served_jobs : Each (λ (js : Vec Job Global). Each (λ job. IsServed job.item) js.items) jobs
  served_jobs = each_own (λ (own : List Job). Each (λ job. IsServed job.item) own) jobs (each_job IsServed lanes lines (own_jobs jobs) d.block.served d.jobs_are)

  -- the notes, on rows of the block's lines
  pub notes_told : (settings : Settings) (home : Pair → Option ℕ) (told : Result (Vec Note Global) NoMemory) → IfOk told (λ own. AreBlockNotes settings.volumes own.items × Each FitsNote own.items)
      → IfOk told (λ own. Each (TellsRowsOf home (all_jobs jobs)) own.items) → NotesOf settings.volumes home (map job_of lines) told
  notes_told settings home told are rows =
      notes_of_told settings.volumes home (map job_of lines) told are
      (IfOk-weaker told (λ own. Each (TellsRowsOf home (all_jobs jobs)) own.items) (λ own. Each (TellsRowsOf home (map job_of lines)) own.items)
      (λ own. rows_asked lanes lines jobs d.jobs_are home own.items) rows)

  -- the lines with their replies
  module _ (replies : List (Vec Reply Global)) (same : AllZip (λ (js : Vec Job Global) (rs : Vec Reply Global). length js.items ≡ length rs.items) jobs replies) where
    pub answered : (items : List LaneItem) × AreAnswered lines (own_replies replies) items
    answered =
        answered_by lanes lines (own_jobs jobs) (own_replies replies) d.block.low d.jobs_are
        (zip_mapped (λ (own : Vec Job Global). own.items) (λ (own : Vec Reply Global). own.items) (λ (js : List Job) (rs : List Reply). length js ≡ length rs) jobs replies same)

    pub items_are : (items : List LaneItem) → AreAnswered lines (own_replies replies) items → AreItems (own_jobs jobs) (own_replies replies) items
    items_are items are = are_items lanes lines (own_jobs jobs) (own_replies replies) items d.block.low d.jobs_are are

    pub items_differ : (items : List LaneItem) → AreAnswered lines (own_replies replies) items → EachPair (λ a b. a.line ≢ b.line) items
    items_differ items are = distinct_items items lines are.asked d.block.distinct

    pub items_fit : (items : List LaneItem) → AreAnswered lines (own_replies replies) items → Each (λ (rs : Vec Reply Global). Each FitsReply rs.items) replies
        → Each (λ answered. FitsReply answered.reply) items
    items_fit items are fits =
        each_reply FitsReply lines (own_replies replies) items (each_mapped (λ (own : Vec Reply Global). own.items) (λ (own : List Reply). Each FitsReply own) replies fits) are

    zip_many : {A B : Type 0} (R : A → B → Type 0) (xs : List A) (ys : List B) → AllZip R xs ys → length xs ≡ length ys
    zip_many R [] [] all = refl
    zip_many R [] (y ∷ ys) all = absurd all
    zip_many R (x ∷ xs) [] all = absurd all
    zip_many R (x ∷ xs) (y ∷ ys) all = let rest = zip_many R xs ys all.1 in omega (arith, rest)

    -- their text, whatever the disks tell
    pub text_told : (items : List LaneItem) (told : Result (Vec Note Global) NoMemory) → AreAnswered lines (own_replies replies) items
        → Each (λ (rs : Vec Reply Global). Each FitsReply rs.items) replies
        → AllZip (λ (js : Vec Job Global) (rs : Vec Reply Global). AllZip AnswersBad js.items rs.items) jobs replies
        → (settings : Settings) (Sure : ℕ → Type 0) (before after : Counts) (home : Pair → Option ℕ)
        → AllZip (λ (js : Vec Job Global) (rs : Vec Reply Global). AllZip (AnswersSuited settings) js.items rs.items) jobs replies
        → ((lane : ℕ) → BlamesArm (Sure lane) (slice_index before.arms lane) (slice_index after.arms lane) (lane_causes lane items)) → (n : NotesOf settings.volumes home (map job_of lines) told)
        → IsBlockText settings Sure before after home lines (answered_text items n.notes)
    text_told items told are fits bad settings Sure before after home suits blames n =
        let answers = zip_mapped (λ (own : Vec Job Global). own.items) (λ (own : Vec Reply Global). own.items) (λ (js : List Job) (rs : List Reply). AllZip AnswersBad js rs) jobs replies bad in
        block_told settings Sure before after home lanes lines (own_jobs jobs) (own_replies replies) items told d.jobs_are
        (zip_many (λ (js : List Job) (rs : List Reply). AllZip AnswersBad js rs) (own_jobs jobs) (own_replies replies) answers) are
        (each_mapped (λ (own : Vec Reply Global). own.items) (λ (own : List Reply). Each FitsReply own) replies fits)
        (zip_mapped (λ (own : Vec Job Global). own.items) (λ (own : Vec Reply Global). own.items) (λ (js : List Job) (rs : List Reply). AllZip (AnswersSuited settings) js rs) jobs
        replies suits) answers blames n

-- ANSWERED AND WRITTEN

err_by : {X E : Type 0} (P : Type 0) (r : Result X E) → ((e : E) → r ≡ Err e → P) → OnErr r P
err_by P (Ok x) by = tt
err_by P (Err e) by = by e refl

-- where the disks tell
module _ {D P A : Type 0} (files : D → Files) (DiskTells Tells : Type 0) (faults fuses : D → ℕ) (arm_faults : A → ℕ) (lines : List InBlock) (items : List LaneItem)
    (told : Result (Vec Note Global) NoMemory)
    (written written' : Option (List ℕ)) (store store' : Open D P A) (asked : map line_asked items ≡ lines) (fits : Each (λ answered. FitsReply answered.reply) items)
    (legal : DiskTells → (k : Known) → Stands files Tells faults fuses arm_faults store k → RanBlock files Tells faults fuses arm_faults k items told store') where
  pub block_whole : {X : Type 0} (r : Result X Stop) → ((notes : List Note) → IfOk told (λ (own : Vec Note Global). own.items ≡ notes) → OnOk r (Wrote written (answered_text items notes) written'))
      → OnOk r (AnswersAll DiskTells (Stands files Tells faults fuses arm_faults) (Block lines ∷ []) store written store' written')
  block_whole r wrote = ok_by (AnswersAll DiskTells (Stands files Tells faults fuses arm_faults) (Block lines ∷ []) store written store' written') r (λ x is tells k stands.
      let ran = legal tells k stands in
      block_ran files Tells faults fuses arm_faults (Stands files Tells faults fuses arm_faults) IsGoingOn block_goes_on Wrote k lines items told written written' store' ran asked fits ran.stands
      (ok_here (Wrote written (answered_text items (block_notes ran.logs ran.rows)) written') r x is (wrote (block_notes ran.logs ran.rows) ran.notes_are)))

  pub block_part : {X : Type 0} (r : Result X Stop) → ((notes : List Note) → IfOk told (λ (own : Vec Note Global). own.items ≡ notes)
      → OnErr r (WrotePart written (answered_text items notes) written'))
      → OnErr r (AnswersPart DiskTells (Stands files Tells faults fuses arm_faults) (Holds files faults fuses arm_faults) (Block lines ∷ []) store written store' written')
  block_part r part =
      err_by (AnswersPart DiskTells (Stands files Tells faults fuses arm_faults) (Holds files faults fuses arm_faults) (Block lines ∷ []) store written store' written') r (λ e is tells k stands.
      let ran = legal tells k stands in
      block_ran files Tells faults fuses arm_faults (Holds files faults fuses arm_faults) AnyTurn (λ items logs rows after. tt) WrotePart k lines items told written written' store' ran asked fits
      (stands_holds files Tells faults fuses arm_faults store' ran.known ran.stands)
      (err_here (WrotePart written (answered_text items (block_notes ran.logs ran.rows)) written') r e is (part (block_notes ran.logs ran.rows) ran.notes_are)))

-- where no line is a command
module _ {D P A : Type 0} (files : D → Files) (DiskTells Tells : Type 0) (faults fuses : D → ℕ) (arm_faults : A → ℕ) (lines : List InBlock) (bad : AreBad lines)
    (written written' : Option (List ℕ)) (store : Open D P A) where
  bad_answers : (Is : Turn → Type 0) → ((items : List LaneItem) (logs : List LogNote) (rows : RowNote) (after : Known) → Is (Lanes items logs rows after)) → (Writes : Writing) (Left : Standing D P A)
      (k : Known) → Left store k → Writes written (flat_map bad_text lines) written' → AnswersTurns Is Writes Left k (Block lines ∷ []) written store written'
  bad_answers Is is Writes Left k left wrote =
      answers_block Left Is is Writes k k lines (bad_lines lines) [] (record { from = length k.directory.rows; rows = [] }) written written' store (bad_asked lines bad)
      (each_bad (λ answered. FitsReply answered.reply) (λ line. tt) lines) (bad_legal store.settings k lines) left
      (subst (λ (text : List ℕ). Writes written text written') (sym (bad_turn k lines)) wrote)

  pub bad_whole : {X : Type 0} (r : Result X Stop) → OnOk r (Wrote written (flat_map bad_text lines) written')
      → OnOk r (AnswersAll DiskTells (Stands files Tells faults fuses arm_faults) (Block lines ∷ []) store written store written')
  bad_whole r wrote = on_ok_weaker r (λ whole tells k stands. bad_answers IsGoingOn block_goes_on Wrote (Stands files Tells faults fuses arm_faults) k stands whole) wrote

  pub bad_part : {X : Type 0} (r : Result X Stop) → OnErr r (WrotePart written (flat_map bad_text lines) written')
      → OnErr r (AnswersPart DiskTells (Stands files Tells faults fuses arm_faults) (Holds files faults fuses arm_faults) (Block lines ∷ []) store written store written')
  bad_part r part = on_err_weaker r (λ front tells k stands.
      bad_answers AnyTurn (λ items logs rows after. tt) WrotePart (Holds files faults fuses arm_faults) k (stands_holds files Tells faults fuses arm_faults store k stands) front) part

-- whatever they tell
pub bad_told : (settings : Settings) (Sure : ℕ → Type 0) (before after : Counts) (home : Pair → Option ℕ) (lines : List InBlock) → AreBad lines
    → IsBlockText settings Sure before after home lines (flat_map bad_text lines)
bad_told settings Sure before after home lines bad =
    subst (IsBlockText settings Sure before after home lines) (bad_text_is lines)
    (quiet_text settings Sure before after home lines (bad_lines lines) (bad_asked lines bad) (each_bad (FitsLine settings) (λ line. (tt, tt, λ is. refl)) lines)
    (each_bad (λ answered. causes_told answered.reply ≡ []) (λ line. refl) lines))

module _ (Tells : Type 0) (settings : Settings) (before after : Tally) (lines : List InBlock) (text : List ℕ) (written written' : Option (List ℕ))
    (later : IsLaterTally before after)
    (is : (after.fuses ≡ before.fuses) × (AreBad lines → (after ≡ before) × (text ≡ flat_map bad_text lines))
    × IsBlockText settings (HasSureArm before) before.counts after.counts (home_seen after.seen) lines text) where
  pub block_caused : {X : Type 0} (r : Result X Stop) → OnOk r (Wrote written text written') → OnOk r (Caused Tells Wrote settings before after (Block lines ∷ []) written written')
  block_caused r wrote = on_ok_weaker r (λ whole. caused_one Tells Wrote settings before after (Block lines) text written written' later is whole) wrote

  pub block_stops : {X : Type 0} (r : Result X Stop) (why : Stop) → r ≡ Err why → OnErr r ((r ≡ Err stop.Output) ⊎ (r ≡ Err stop.NoMemory)) → OnErr r (WrotePart written text written')
      → StopCaused Tells settings before after why (Block lines ∷ []) written written'
  block_stops r why stopped kinds wrote =
      part_stops Tells settings before after (Block lines ∷ []) written written' r why stopped kinds
      (on_err_weaker r (λ part. caused_one Tells WrotePart settings before after (Block lines) text written written' later is part) wrote)

-- Memory was wanting before any line of a block with a command was answered: so it may have been for each.
pub wanted_stops : (Tells : Type 0) (settings : Settings) (before after : Tally) (lines : List InBlock) (written : Option (List ℕ)) (why : Stop) → stop.NoMemory ≡ why
    → Each (λ line. IsServed line.item) lines → IsLaterTally before after → after.fuses ≡ before.fuses → (AreBad lines → ⊥)
    → StopCaused Tells settings before after why (Block lines ∷ []) written written
wanted_stops Tells settings before after lines written why same served later fuses some =
    let text = answered_text (map wanted_line lines) [] in
    let is = wanted_text settings (HasSureArm before) before.counts after.counts (home_seen after.seen) lines served in
    subst (λ (w : Stop). StopCaused Tells settings before after w (Block lines ∷ []) written written) same
    (inl (caused_one Tells WrotePart settings before after (Block lines) text written written later (fuses, λ bad. absurd (some bad), is) (nothing_written written text)))
  where
    nothing_written : (written : Option (List ℕ)) (text : List ℕ) → WrotePart written text written
    nothing_written None text = (0, tt)
    nothing_written (Some old) text = (0, ap (λ (l : List ℕ). Some l) (sym (append-nil old)))
