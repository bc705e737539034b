-- A block that was answered, and one that wanted memory before.
use Rattle.std.proofs.Common.{◌≡◌, ◌==◌, inl, inr, ℕ, Bool, true, false, List, [], ◌∷◌, ◌++◌, map, length, Option, Some, None, refl, sym, ap, subst, ◌∙◌, append_assoc}
use Rattle.std.specs.Prelude.{slice_index, Result, Ok, Err, IfOk, OnOk, OnErr, Vec, flat_map}
use Rattle.std.specs.Global.{Global}
use Rattle.std.specs.List.{AllByRecursion as Each, AllZip}
use Rattle.hay_base.specs.declared.memory.NoMemory.{NoMemory}
use Rattle.hay_needle.specs.declared.needle.Pair.{Pair}
use Rattle.hay_needle.specs.declared.settings.Settings.{Settings}
use Rattle.hay_disk.specs.Disk.{Files}
use Rattle.hay_script.specs.declared.Command.TheVariants as asks
use Rattle.hay_reply.specs.declared.Cause.{Cause}
use Rattle.hay_reply.specs.declared.Note.{Note}
use Rattle.hay_reply.specs.declared.Reply.{Reply}
use Rattle.hay_reply.specs.declared.Reply.TheVariants.{BadLine, NoMem}
use Rattle.hay_reply.specs.Fits.{FitsNote, FitsReply}
use Rattle.hay_legal.specs.declared.known.Known.{Known}
use Rattle.hay_legal.specs.declared.turn.Item.{Item}
use Rattle.hay_legal.specs.declared.turn.Item.TheVariants as item
use Rattle.hay_legal.specs.declared.turn.LaneItem.{LaneItem}
use Rattle.hay_legal.specs.declared.turn.LogNote.{LogNote}
use Rattle.hay_legal.specs.declared.turn.RowNote.{RowNote}
use Rattle.hay_legal.specs.declared.turn.Turn.{Turn}
use Rattle.hay_legal.specs.declared.turn.Turn.TheVariants.{Lanes}
use Rattle.hay_legal.specs.Items.{InBlock, line_asked}
use Rattle.hay_legal.specs.Items.Asked.{Block}
use Rattle.hay_legal.specs.Known.{replica_on}
use Rattle.hay_legal.specs.Suiting.{AtReplica, SuitsCompact, SuitsFlush, SuitsGet, SuitsItem}
use Rattle.hay_legal.specs.Transcript.{answered_line, log_line, row_line, turn_text}
use Rattle.hay_lane.specs.Blames.{BlamesArm, causes_told}
use Rattle.hay_block.specs.declared.worker.Job.{Job}
use Rattle.hay_block.specs.Lines.{AnswersBad, AnswersSuited, IsServed}
use Rattle.hay_cluster.specs.Causes.{Counts}
use Rattle.hay_cluster.specs.Store.{Open}
use Rattle.hay_cluster_block.specs.Blocks.{RanBlock}
use Rattle.hay_cluster_block.specs.Notes.{AreBlockNotes, TellsRowsOf, block_notes}
use Rattle.hay_cluster_block.proofs.Noting.{notes_text}
use Rattle.hay_run.specs.Blocks.{AreAnswered, AreJobs, FitsLine, IsBlockText, answered_text, job_of, lane_causes}
use Rattle.hay_run.specs.Turns.{AnswersTurns, Standing, Writing}
use Rattle.hay_run.proofs.Dealing.{each_answer, each_reply}
use Rattle.hay_run.proofs.Turning.{answers_block}

-- OUTCOMES

pub ok_by : {X E : Type 0} (P : Type 0) (r : Result X E) → ((x : X) → r ≡ Ok x → P) → OnOk r P
ok_by P (Ok x) by = by x refl
ok_by P (Err e) by = tt

pub ok_here : {X E : Type 0} (P : Type 0) (r : Result X E) (x : X) → r ≡ Ok x → OnOk r P → P
ok_here P r x is holds = subst (λ z. OnOk z P) is holds

pub err_here : {X E : Type 0} (P : Type 0) (r : Result X E) (e : E) → r ≡ Err e → OnErr r P → P
err_here P r e is holds = subst (λ z. OnErr z P) is holds

-- THE TURN

block_text : (items : List LaneItem) (logs : List LogNote) (rows : RowNote) (after : Known) → answered_text items (block_notes logs rows) ≡ turn_text (Lanes items logs rows after)
block_text items logs rows after =
    ap (λ (text : List ℕ). flat_map answered_line items ++ text) (notes_text logs rows) ∙ sym (append_assoc (flat_map answered_line items) (flat_map log_line logs) (row_line rows.from rows.rows))

pub block_ran : {D P A : Type 0} (files : D → Files) (Tells : Type 0) (faults fuses : D → ℕ) (arm_faults : A → ℕ) (Left : Standing D P A) (Is : Turn → Type 0)
    → ((items : List LaneItem) (logs : List LogNote) (rows : RowNote) (after : Known) → Is (Lanes items logs rows after))
    → (Writes : Writing) (k : Known) (lines : List InBlock) (items : List LaneItem)
    (told : Result (Vec Note Global) NoMemory) (written written' : Option (List ℕ)) (store : Open D P A) (ran : RanBlock files Tells faults fuses arm_faults k items told store)
    → map line_asked items ≡ lines → Each (λ answered. FitsReply answered.reply) items → Left store ran.known → Writes written (answered_text items (block_notes ran.logs ran.rows)) written'
    → AnswersTurns Is Writes Left k (Block lines ∷ []) written store written'
block_ran files Tells faults fuses arm_faults Left Is is Writes k lines items told written written' store ran asked fits left wrote =
    answers_block Left Is is Writes k ran.known lines items ran.logs ran.rows written written' store asked fits ran.legal left
    (subst (λ (text : List ℕ). Writes written text written') (block_text items ran.logs ran.rows ran.known) wrote)

-- WHATEVER THE DISKS TELL

-- the notes of a store of so many volumes, on rows of these lines, or none where they wanted memory
pub record NotesOf (volumes : ℕ) (home : Pair → Option ℕ) (jobs : List Job) (told : Result (Vec Note Global) NoMemory) : Type 0 where
  pub notes : List Note
  pub are : IfOk told (λ own. own.items ≡ notes)
  pub kinds : AreBlockNotes volumes notes
  pub rows : Each (TellsRowsOf home jobs) notes
  pub fit : Each FitsNote notes

pub notes_of_told : (volumes : ℕ) (home : Pair → Option ℕ) (jobs : List Job) (told : Result (Vec Note Global) NoMemory) → IfOk told (λ own. AreBlockNotes volumes own.items × Each FitsNote own.items)
    → IfOk told (λ own. Each (TellsRowsOf home jobs) own.items) → NotesOf volumes home jobs told
notes_of_told volumes home jobs (Ok own) is rows = record { notes = own.items; are = refl; kinds = is.0; rows = rows; fit = is.1 }
notes_of_told volumes home jobs (Err e) is rows = record {
  notes = [];
  are = tt;
  kinds = record { logs = []; rows = record { from = 0; rows = [] }; upwards = record { upwards = tt; within = tt; some = tt }; within = tt; are = refl };
  rows = tt;
  fit = tt;
}

each_of_three : (P Q R : LaneItem → Type 0) (items : List LaneItem) → Each P items → Each Q items → Each R items → Each (λ item. P item × Q item × R item) items
each_of_three P Q R [] p q r = tt
each_of_three P Q R (item ∷ items) p q r = ((p.0, q.0, r.0), each_of_three P Q R items p.1 q.1 r.1)

pub block_told : (settings : Settings) (Sure : ℕ → Type 0) (before after : Counts) (home : Pair → Option ℕ) (lanes : ℕ) (lines : List InBlock) (jobs : List (List Job))
    (replies : List (List Reply)) (items : List LaneItem)
    (told : Result (Vec Note Global) NoMemory)
    → AreJobs lanes lines jobs → length jobs ≡ length replies → AreAnswered lines replies items → Each (λ own. Each FitsReply own) replies
    → AllZip (λ js rs. AllZip (AnswersSuited settings) js rs) jobs replies
    → AllZip (λ js rs. AllZip AnswersBad js rs) jobs replies
    → ((lane : ℕ) → BlamesArm (Sure lane) (slice_index before.arms lane) (slice_index after.arms lane) (lane_causes lane items)) → (n : NotesOf settings.volumes home (map job_of lines) told)
    → IsBlockText settings Sure before after home lines (answered_text items n.notes)
block_told settings Sure before after home lanes lines jobs replies items told are long answered fits suits bad blames n = record {
  items = items;
  asked = answered.asked;
  fits = each_of_three (λ line. FitsReply line.reply) (λ line. SuitsItem settings line.line line.item line.reply) (λ line. line.item ≡ item.Bad → line.reply ≡ BadLine) items
      (each_reply FitsReply lines replies items fits answered)
      (each_answer (AnswersSuited settings) lanes lines jobs replies items suits are long answered)
      (each_answer AnswersBad lanes lines jobs replies items bad are long answered);
  blames = blames;
  notes = n.notes;
  told = n.kinds;
  rows = n.rows;
  fit = n.fit;
  is = refl;
}

-- BEFORE A BLOCK

abbrev pub wanted_reply : Item → Reply
wanted_reply (item.Command command) = NoMem
wanted_reply item.Bad = BadLine

-- a line that is told that memory is wanting, where it is a command
abbrev pub wanted_line : InBlock → LaneItem
wanted_line line = record { line = line.line; lane = line.lane; item = line.item; reply = wanted_reply line.item }

wanted_asked : (lines : List InBlock) → map line_asked (map wanted_line lines) ≡ lines
wanted_asked [] = refl
wanted_asked (line ∷ lines) = ap (λ (l : List InBlock). line ∷ l) (wanted_asked lines)

wanted_at : (at : Option ℕ) (suits : ℕ → Reply → Type 0) → AtReplica at suits NoMem
wanted_at (Some replica) suits = inr refl
wanted_at None suits = inr refl

wanted_fits : (settings : Settings) (line : ℕ) (asked : Item) → IsServed asked → FitsReply (wanted_reply asked) × SuitsItem settings line asked (wanted_reply asked)
    × (asked ≡ item.Bad → wanted_reply asked ≡ BadLine)
wanted_fits settings line item.Bad served = (tt, tt, λ is. refl)
wanted_fits settings line (item.Command (asks.Put pair photo)) served = (tt, inr (inr (inr (inr (inr (inr refl))))), λ is. absurd cc)
wanted_fits settings line (item.Command (asks.Read pair cookie)) served = (tt, inr (inr refl), λ is. absurd cc)
wanted_fits settings line (item.Command (asks.Get url)) served = (tt, wanted_at (replica_on settings url.volume url.machine) (SuitsGet settings url), λ is. absurd cc)
wanted_fits settings line (item.Command (asks.Del pair)) served = (tt, inr (inr (inr (inr (inr (inr refl))))), λ is. absurd cc)
wanted_fits settings line (item.Command (asks.Url pair)) served = (tt, inr (inr refl), λ is. absurd cc)
wanted_fits settings line (item.Command (asks.Flush v m)) served = (tt, wanted_at (replica_on settings v m) (λ replica. SuitsFlush settings v m), λ is. absurd cc)
wanted_fits settings line (item.Command (asks.Compact v m)) served = (tt, wanted_at (replica_on settings v m) (λ replica. SuitsCompact settings v m), λ is. absurd cc)
wanted_fits settings line (item.Command (asks.Begin v m)) served = absurd served.1
wanted_fits settings line (item.Command (asks.Step v m cells)) served = absurd served.1
wanted_fits settings line (item.Command (asks.Finish v m)) served = absurd served.1
wanted_fits settings line (item.Command (asks.Drain m)) served = absurd served.1
wanted_fits settings line (item.Command (asks.Undrain m)) served = absurd served.1
wanted_fits settings line (item.Command (asks.Fuse v m calls)) served = absurd served.1
wanted_fits settings line (item.Command (asks.FuseDir calls)) served = absurd served.1
wanted_fits settings line (item.Command (asks.Restart pick)) served = absurd served.1

wanted_each : (settings : Settings) (lines : List InBlock) → Each (λ line. IsServed line.item) lines → Each (FitsLine settings) (map wanted_line lines)
wanted_each settings [] served = tt
wanted_each settings (line ∷ lines) served = (wanted_fits settings line.line line.item served.0, wanted_each settings lines served.1)

no_cause : (asked : Item) → causes_told (wanted_reply asked) ≡ []
no_cause (item.Command command) = refl
no_cause item.Bad = refl

one_more : (lane : ℕ) (item : LaneItem) (items : List LaneItem) (b : Bool) → (item.lane == lane) ≡ b → causes_told item.reply ≡ [] → lane_causes lane items ≡ []
    → lane_causes lane (item ∷ items) ≡ []
one_more lane item items true is none others = rw is (ap (λ (l : List Cause). l ++ lane_causes lane items) none ∙ others)
one_more lane item items false is none others = rw is others

none_told : (lane : ℕ) (items : List LaneItem) → Each (λ answered. causes_told answered.reply ≡ []) items → lane_causes lane items ≡ []
none_told lane [] each = refl
none_told lane (item ∷ items) each = one_more lane item items (item.lane == lane) refl each.0 (none_told lane items each.1)

wanted_none : (lines : List InBlock) → Each (λ answered. causes_told answered.reply ≡ []) (map wanted_line lines)
wanted_none [] = tt
wanted_none (line ∷ lines) = (no_cause line.item, wanted_none lines)

-- lines that are told of no failure, with no note behind them
pub quiet_text : (settings : Settings) (Sure : ℕ → Type 0) (before after : Counts) (home : Pair → Option ℕ) (lines : List InBlock) (items : List LaneItem) → map line_asked items ≡ lines
    → Each (FitsLine settings) items → Each (λ answered. causes_told answered.reply ≡ []) items → IsBlockText settings Sure before after home lines (answered_text items [])
quiet_text settings Sure before after home lines items asked fits none = record {
  items = items;
  asked = asked;
  fits = fits;
  blames = λ lane. subst (BlamesArm (Sure lane) (slice_index before.arms lane) (slice_index after.arms lane)) (sym (none_told lane items none)) (record { each = tt; rises = tt });
  notes = [];
  told = record { logs = []; rows = record { from = 0; rows = [] }; upwards = record { upwards = tt; within = tt; some = tt }; within = tt; are = refl };
  rows = tt;
  fit = tt;
  is = refl;
}

-- these lines may have been told so
pub wanted_text : (settings : Settings) (Sure : ℕ → Type 0) (before after : Counts) (home : Pair → Option ℕ) (lines : List InBlock) → Each (λ line. IsServed line.item) lines
    → IsBlockText settings Sure before after home lines (answered_text (map wanted_line lines) [])
wanted_text settings Sure before after home lines served =
    quiet_text settings Sure before after home lines (map wanted_line lines) (wanted_asked lines) (wanted_each settings lines served) (wanted_none lines)
