-- From a run of the script of a drill to what the drill promises.
use Rattle.std.specs.Prelude.{take, Result, Ok, Err, IsErrOf, OnErr, OnOk}
use Rattle.std.specs.List.{AllByRecursion}
use Rattle.std.proofs.Common.{◌≡◌, ◌⊎◌, inl, inr, ℕ, List, [], ◌∷◌, ◌++◌, Option, Some, refl, sym, ap, subst, ◌∙◌, append_assoc, append-nil, arith, lit≤, length, ◌+◌, ◌-◌, ◌^◌, ◌≤◌}
use Rattle.hay_disk.specs.Counts.{Rose}
use Rattle.hay_disk.specs.Streams.{Wrote, WrotePart}
use Rattle.hay_needle.specs.declared.settings.Settings.{Settings}
use Rattle.hay_script.specs.declared.words.TheConstants.{MAX_SCRIPT}
use Rattle.hay_reply.specs.declared.Note.{Note}
use Rattle.hay_reply.specs.Replies.{note_line, note_text}
use Rattle.hay_legal.specs.declared.known.Known.{Known}
use Rattle.hay_legal.specs.declared.turn.Turn.{Turn}
use Rattle.hay_legal.specs.Items.{items_of}
use Rattle.hay_legal.specs.Stands.{Outside}
use Rattle.hay_legal.specs.Statuses.{Ending, EndsWanting, status_of}
use Rattle.hay_legal.specs.Statuses.Ending.{ReadAll, OutputFault, InputFault, NoMemory, NotOpened, TooLong}
use Rattle.hay_legal.specs.Transcript.{transcript_text}
use Rattle.hay_drill.specs.Script.{drill_script, settings}
use Rattle.hay_drill.specs.Summary.{summary_text}
use Rattle.hay_run.specs.declared.stops.Stop.{Stop}
use Rattle.hay_run.specs.declared.stops.Stop.TheVariants as stop
use Rattle.hay_run.specs.Causing.{ending_in}
use Rattle.hay_run.specs.Drills.{DrillsTo, Refused, Summed, summary_of}
use Rattle.hay_run.specs.Runs.{IsTaken, RanTo}
use Rattle.hay_run.specs.Stops.{ending_of}
use Rattle.hay_run.specs.Told.Told.{Noted}
use Rattle.hay_run.specs.Turns.{FitsAnswers}
use Rattle.hay_run.proofs.Bounding.{script_most}
use Rattle.hay_run.proofs.Drilling.{any_note, told_ends}
use Rattle.hay_run.proofs.LastLines.{TriedLast, transcript_lines}
use Rattle.hay_run.proofs.Ran.{front_take}
use Rattle.hay_run.proofs.Refusing.{ran_nothing}

-- WHAT IS TOLD OF A RUN

same_text : (one other : List ℕ) → Some one ≡ Some other → one ≡ other
same_text one other same = cc

input_stop : (why : Stop) → ending_of why ≡ InputFault → why ≡ stop.Input
input_stop stop.Input e = refl
input_stop stop.Output e = cc
input_stop stop.NoMemory e = cc
input_stop stop.Store e = cc
input_stop stop.TooLong e = cc

long_stop : (why : Stop) → ending_of why ≡ TooLong → why ≡ stop.TooLong
long_stop stop.TooLong e = refl
long_stop stop.Output e = cc
long_stop stop.NoMemory e = cc
long_stop stop.Store e = cc
long_stop stop.Input e = cc

store_stop : (why : Stop) → ending_of why ≡ NotOpened → why ≡ stop.Store
store_stop stop.Store e = refl
store_stop stop.Output e = cc
store_stop stop.Input e = cc
store_stop stop.NoMemory e = cc
store_stop stop.TooLong e = cc

-- a run that was answered to its end wanted no memory
never_wanting : EndsWanting ReadAll → ⊥
never_wanting (inl e) = cc
never_wanting (inr e) = cc

same_stop : (one other : Stop) (r : Result (Unit {0}) Stop) → r ≡ Err one → r ≡ Err other → one ≡ other
same_stop one other r a b = cc

other_stop : (why : Stop) (r : Result (Unit {0}) Stop) → r ≡ Err why → (r ≡ Err stop.Output) ⊎ (r ≡ Err stop.NoMemory) → (why ≡ stop.Output → ⊥) → (why ≡ stop.NoMemory → ⊥) → ⊥
other_stop why r is (inl e) output memory = output (same_stop why stop.Output r is e)
other_stop why r is (inr e) output memory = memory (same_stop why stop.NoMemory r is e)

module _ (count first : ℕ) (k : Known) (left : Option (List ℕ)) (taken given : Outside) (held transcript : List ℕ) (written : Option (List ℕ)) where
  -- a run of the script of a drill, whose transcript is kept
  abbrev pub RunOf : Ending → Type 0
  RunOf ending = RanTo settings k ending (drill_script count first) left taken given [] (Some transcript)

  sums_of : (ran : RunOf ReadAll) → Summed count first k taken given (summary_text count first (summary_of ran.runs.turns))
  sums_of ran =
      let all = ran.runs.ends in
      record {
        opened = ran.runs.opened;
        opening = ran.runs.opening;
        turns = ran.runs.turns;
        t = ran.runs.t;
        asked = all.asked ∙ ap items_of (sym ran.bytes.0);
        legal = ran.runs.legal;
        fits = ran.fits;
        wanting = λ before line pick notes after behind is. never_wanting (ran.runs.wanting before line pick notes after behind is).1;
        stands = all.stands;
        sums = refl;
      }

  whole_text : (ran : RunOf ReadAll) → transcript ≡ transcript_text settings ran.runs.turns
  whole_text ran = same_text transcript ran.text ran.wrote ∙ ran.runs.ends.wrote

  -- the script was read to its end, and the summary was written ..
  pub summed_run : (ran : RunOf ReadAll)
      → ((store : Settings) (turns : List Turn) → AllByRecursion FitsAnswers turns → transcript ≡ transcript_text store turns
      → Wrote (Some held) (summary_text count first (summary_of turns)) written)
      → DrillsTo count first k ReadAll taken given held written
  summed_run ran tells = record {
    text = summary_text count first (summary_of ran.runs.turns);
    wrote = tells settings ran.runs.turns ran.fits (whole_text ran);
    drills = sums_of ran;
  }

  -- .. or a front of it
  pub summed_part : (ran : RunOf ReadAll)
      → ((store : Settings) (turns : List Turn) → AllByRecursion FitsAnswers turns → transcript ≡ transcript_text store turns
      → WrotePart (Some held) (summary_text count first (summary_of turns)) written)
      → DrillsTo count first k OutputFault taken given held written
  summed_part ran tells =
      let whole : List ℕ = summary_text count first (summary_of ran.runs.turns) in
      let wrote : WrotePart (Some held) whole written = tells settings ran.runs.turns ran.fits (whole_text ran) in
      record {
        text = take wrote.0 whole;
        wrote = wrote.1;
        drills = record { whole = whole; told = inl (sums_of ran); front = front_take wrote.0 whole };
      }

  -- nothing was written, however the run ended
  pub unsaid_run : (ending : Ending) → RunOf ending → (ending ≡ InputFault → ⊥) → (ending ≡ TooLong → ⊥) → (ending ≡ NotOpened → ⊥) → written ≡ Some held
      → DrillsTo count first k NoMemory taken given held written
  unsaid_run ending ran no_fault no_longer no_refusal same = record {
    text = [];
    wrote = same ∙ ap (λ (l : List ℕ). Some l) (sym (append-nil held));
    drills = record { none = refl; transcript = transcript; left = left; ending = ending; ran = ran; no_fault = no_fault; no_longer = no_longer; no_refusal = no_refusal };
  }

  -- the last line of the transcript of a run whose store was not opened
  refusal_of : (ran : RunOf NotOpened) → (note : Note) × (turns : List Turn) × (ran.text ≡ transcript_text settings turns ++ note_line note)
  refusal_of ran =
      (elim ran.runs.ends [
        | inl at_first ↦ (at_first.note, [], at_first.wrote.2 ∙ ap (λ (l : List ℕ). transcript_text settings [] ++ l) at_first.wrote.1)
        | inr again ↦ (again.note, ran.runs.turns, again.wrote.2 ∙ ap (λ (l : List ℕ). transcript_text settings ran.runs.turns ++ l) again.wrote.1)
      ])

  tells_last : (ran : RunOf NotOpened) (note : Note) (turns : List Turn) → ran.text ≡ transcript_text settings turns ++ note_line note → Refused count first k taken given (note_line note)
  tells_last ran note turns is = record {
    transcript = transcript;
    left = left;
    ran = ran;
    note = note;
    front = transcript_text settings turns;
    last = same_text transcript ran.text ran.wrote ∙ is;
    tells = refl;
  }

  -- what the attempt to write the summary of the transcript came to
  pub record TriedSum (before : Option (List ℕ)) (result : Result (Unit {0}) Stop) : Type 0 where
    pub whole : (store : Settings) (turns : List Turn) → AllByRecursion FitsAnswers turns → transcript ≡ transcript_text store turns →
        OnOk result (Wrote before (summary_text count first (summary_of turns)) written)
    pub part : (store : Settings) (turns : List Turn) → AllByRecursion FitsAnswers turns → transcript ≡ transcript_text store turns →
        IsErrOf result stop.Output → WrotePart before (summary_text count first (summary_of turns)) written
    pub none : IsErrOf result stop.NoMemory → written ≡ before
    pub stops : OnErr result ((result ≡ Err stop.Output) ⊎ (result ≡ Err stop.NoMemory))

  sum_told : (result : Result (Unit {0}) Stop) → RunOf ReadAll → TriedSum (Some held) result → DrillsTo count first k (ending_in result) taken given held written
  sum_told (Ok done) ran told = summed_run ran told.whole
  sum_told (Err stop.Output) ran told = summed_part ran (λ store turns fits is. told.part store turns fits is refl)
  sum_told (Err stop.NoMemory) ran told = unsaid_run ReadAll ran (λ e. cc) (λ e. cc) (λ e. cc) (told.none refl)
  sum_told (Err stop.Input) ran told = absurd (other_stop stop.Input (Err stop.Input) refl told.stops (λ e. cc) (λ e. cc))
  sum_told (Err stop.TooLong) ran told = absurd (other_stop stop.TooLong (Err stop.TooLong) refl told.stops (λ e. cc) (λ e. cc))
  sum_told (Err stop.Store) ran told = absurd (other_stop stop.Store (Err stop.Store) refl told.stops (λ e. cc) (λ e. cc))

  pub summary_told : (before : Option (List ℕ)) → before ≡ Some held → (result : Result (Unit {0}) Stop) → RunOf ReadAll → TriedSum before result
      → DrillsTo count first k (ending_in result) taken given held written
  summary_told before same result ran told = sum_told result ran (subst (λ (b : Option (List ℕ)). TriedSum b result) same told)

  line_told : (why : Stop) → RunOf NotOpened → TriedLast transcript written (Some held) why → DrillsTo count first k (ending_of why) taken given held written
  line_told why ran tells =
      let last = refusal_of ran in
      let note : Note = last.0 in
      let turns : List Turn = last.1 in
      let ends : note_line note ≡ note_text note ++ 10 ∷ [] = told_ends (Noted note) in
      let is : transcript ≡ transcript_text settings turns ++ note_text note ++ 10 ∷ [] =
      same_text transcript ran.text ran.wrote ∙ last.2 ∙ ap (λ (l : List ℕ). transcript_text settings turns ++ l) ends
      ∙ sym (append_assoc (transcript_text settings turns) (note_text note) (10 ∷ [])) in
      let P : Stop → Type 0 = λ s. DrillsTo count first k (ending_of s) taken given held written in
      (elim (tells (transcript_text settings turns) (note_text note) (any_note note) is (transcript_lines settings turns)) [
        | inl whole ↦ subst P (sym whole.0) (record {
          text = note_line note;
          wrote = whole.1 ∙ ap (λ (l : List ℕ). Some (held ++ l)) (sym ends);
          drills = tells_last ran note turns last.2;
        })
        | inr part ↦ subst P (sym part.0) (record {
          text = take part.1.0 (note_line note);
          wrote = part.1.1 ∙ ap (λ (l : List ℕ). Some (held ++ take part.1.0 l)) (sym ends);
          drills = record { whole = note_line note; told = inr (tells_last ran note turns last.2); front = front_take part.1.0 (note_line note) };
        })
      ])

  pub last_told : (before : Option (List ℕ)) → before ≡ Some held → (why : Stop) → RunOf NotOpened → TriedLast transcript written before why
      → DrillsTo count first k (ending_of why) taken given held written
  last_told before same why ran told = line_told why ran (subst (λ (b : Option (List ℕ)). TriedLast transcript written b why) same told)

  -- what is told of a run that stopped
  pub stop_told : (before : Option (List ℕ)) → before ≡ Some held → (why result : Stop) → RunOf (ending_of why) → (why ≡ stop.Input → ⊥) → (why ≡ stop.TooLong → ⊥)
      → ((why ≡ stop.Store) × TriedLast transcript written before result) ⊎ ((result ≡ stop.NoMemory) × (written ≡ before) × (why ≡ stop.Store → ⊥))
      → DrillsTo count first k (ending_of result) taken given held written
  stop_told before same why result ran no_fault no_longer (inl told) =
      last_told before same result (subst (λ (s : Stop). RunOf (ending_of s)) told.0 ran) told.1
  stop_told before same why result ran no_fault no_longer (inr told) =
      subst (λ (s : Stop). DrillsTo count first k (ending_of s) taken given held written) (sym told.0)
      (unsaid_run (ending_of why) ran (λ e. no_fault (input_stop why e)) (λ e. no_longer (long_stop why e)) (λ e. told.2 (store_stop why e)) (told.1 ∙ same))

-- memory was wanting before the script stood, and nothing was touched
pub unsaid_nothing : (count first : ℕ) (k : Known) (taken : Outside) (held : List ℕ) (written : Option (List ℕ)) → IsTaken settings taken k → written ≡ Some held
    → DrillsTo count first k NoMemory taken taken held written
unsaid_nothing count first k taken held written is same =
    unsaid_run count first k (Some (drill_script count first)) taken taken held [] written NoMemory
    (ran_nothing settings taken k is (drill_script count first) [] (Some []) refl NoMemory refl) (λ e. cc) (λ e. cc) (λ e. cc) same

-- a run over a source and a sink in memory
pub held_run : (count first : ℕ) (k : Known) (left : Option (List ℕ)) (taken given : Outside) (transcript : List ℕ) (ending : Ending) (store : Settings) (script : List ℕ) (written : Option (List ℕ))
    → store ≡ settings → script ≡ drill_script count first → written ≡ Some transcript → RanTo store k ending script left taken given [] written
    → RanTo settings k ending (drill_script count first) left taken given [] (Some transcript)
held_run count first k left taken given transcript ending store script written is_store is_script is_written ran =
    let a : RanTo settings k ending script left taken given [] written = subst (λ (s : Settings). RanTo s k ending script left taken given [] written) is_store ran in
    let b : RanTo settings k ending (drill_script count first) left taken given [] written = subst (λ (l : List ℕ). RanTo settings k ending l left taken given [] written) is_script a in
    subst (λ (w : Option (List ℕ)). RanTo settings k ending (drill_script count first) left taken given [] w) is_written b

-- the source does not fail
pub never_rose : Rose 0 0 → ⊥
never_rose (inl low) = omega (arith, low)
never_rose (inr top) = let least : 1 ≤ 2 ^ 64 - 1 = lit≤ tt in omega (arith, least, top)

-- and the script is no longer than one may be
pub never_long : (count first more : ℕ) (script : List ℕ) → count ≤ 1000 → script ≡ drill_script count first → length script ≡ MAX_SCRIPT + 1 + more → ⊥
never_long count first more script few is long =
    let most = script_most count first few in
    let same : length script ≡ length (drill_script count first) = ap length is in
    omega (arith, most, same, long)

-- STATUSES

-- the statuses that a drill ends with
pub drill_statuses : (r : Result (Unit {0}) Stop) → OnErr r ((r ≡ Err stop.Output) ⊎ (r ≡ Err stop.NoMemory) ⊎ (r ≡ Err stop.Store)) → (status : ℕ) → status ≡ status_of (ending_in r)
    → (status ≡ 0) ⊎ (status ≡ 3) ⊎ (status ≡ 5) ⊎ (status ≡ 6)
drill_statuses (Ok done) stops status is = inl is
drill_statuses (Err stop.Output) stops status is = inr (inl is)
drill_statuses (Err stop.NoMemory) stops status is = inr (inr (inl is))
drill_statuses (Err stop.Store) stops status is = inr (inr (inr is))
drill_statuses (Err stop.Input) (inl e) status is = cc
drill_statuses (Err stop.Input) (inr (inl e)) status is = cc
drill_statuses (Err stop.Input) (inr (inr e)) status is = cc
drill_statuses (Err stop.TooLong) (inl e) status is = cc
drill_statuses (Err stop.TooLong) (inr (inl e)) status is = cc
drill_statuses (Err stop.TooLong) (inr (inr e)) status is = cc

-- the sink failed
pub output_by : (r : Result (Unit {0}) Stop) (status : ℕ) → status ≡ status_of (ending_in r) → status ≡ 3 → r ≡ Err stop.Output
output_by (Ok done) status is three = absurd (omega (arith, is, three))
output_by (Err stop.Output) status is three = refl
output_by (Err stop.NoMemory) status is three = absurd (omega (arith, is, three))
output_by (Err stop.Store) status is three = absurd (omega (arith, is, three))
output_by (Err stop.Input) status is three = absurd (omega (arith, is, three))
output_by (Err stop.TooLong) status is three = absurd (omega (arith, is, three))

-- the store was not opened
pub store_in : (r : Result (Unit {0}) Stop) (status : ℕ) → status ≡ status_of (ending_in r) → status ≡ 6 → r ≡ Err stop.Store
store_in (Ok done) status is six = absurd (omega (arith, is, six))
store_in (Err stop.Output) status is six = absurd (omega (arith, is, six))
store_in (Err stop.NoMemory) status is six = absurd (omega (arith, is, six))
store_in (Err stop.Store) status is six = refl
store_in (Err stop.Input) status is six = absurd (omega (arith, is, six))
store_in (Err stop.TooLong) status is six = absurd (omega (arith, is, six))

-- it was opened, and answered to the end
pub all_in : {P : Type 0} (r : Result (Unit {0}) Stop) (status : ℕ) → status ≡ status_of (ending_in r) → status ≡ 0 → OnOk r P → P
all_in (Ok done) status is zero on = on
all_in (Err stop.Output) status is zero on = absurd (omega (arith, is, zero))
all_in (Err stop.NoMemory) status is zero on = absurd (omega (arith, is, zero))
all_in (Err stop.Store) status is zero on = absurd (omega (arith, is, zero))
all_in (Err stop.Input) status is zero on = absurd (omega (arith, is, zero))
all_in (Err stop.TooLong) status is zero on = absurd (omega (arith, is, zero))

-- what holds anyhow
pub on_ok : {P : Type 0} (r : Result (Unit {0}) Stop) → P → OnOk r P
on_ok (Ok done) p = p
on_ok (Err why) p = tt

-- one of the statuses that a drill ends with
abbrev pub IsDrillStatus : ℕ → Type 0
IsDrillStatus status = (status ≡ 0) ⊎ (status ≡ 3) ⊎ (status ≡ 5) ⊎ (status ≡ 6)

pub drill_ending : (status : ℕ) → IsDrillStatus status → (ending : Ending) × (status ≡ status_of ending)
drill_ending status (inl is) = (ReadAll, is)
drill_ending status (inr (inl is)) = (OutputFault, is)
drill_ending status (inr (inr (inl is))) = (NoMemory, is)
drill_ending status (inr (inr (inr is))) = (NotOpened, is)

pub drill_never : (status : ℕ) → IsDrillStatus status → (status ≡ 2) ⊎ (status ≡ 4) ⊎ (status ≡ 7) → ⊥
drill_never status (inl is) (inl other) = omega (arith, is, other)
drill_never status (inl is) (inr (inl other)) = omega (arith, is, other)
drill_never status (inl is) (inr (inr other)) = omega (arith, is, other)
drill_never status (inr (inl is)) (inl other) = omega (arith, is, other)
drill_never status (inr (inl is)) (inr (inl other)) = omega (arith, is, other)
drill_never status (inr (inl is)) (inr (inr other)) = omega (arith, is, other)
drill_never status (inr (inr (inl is))) (inl other) = omega (arith, is, other)
drill_never status (inr (inr (inl is))) (inr (inl other)) = omega (arith, is, other)
drill_never status (inr (inr (inl is))) (inr (inr other)) = omega (arith, is, other)
drill_never status (inr (inr (inr is))) (inl other) = omega (arith, is, other)
drill_never status (inr (inr (inr is))) (inr (inl other)) = omega (arith, is, other)
drill_never status (inr (inr (inr is))) (inr (inr other)) = omega (arith, is, other)
