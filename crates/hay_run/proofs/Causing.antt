-- Texts that have their causes, turn after turn.
use Rattle.std.proofs.Common.{◌≡◌, ◌≢◌, ◌⊎◌, inl, inr, ℕ, List, [], ◌∷◌, ◌++◌, Option, Some, None, refl, sym, ap, subst, ◌∙◌, append_assoc}
use Rattle.std.specs.Prelude.{flat_map, Result, Err, OnErr, IsErrOf}
use Rattle.std.specs.List.{AllByRecursion}
use Rattle.std.proofs.lemmas.List.{append-nil}
use Rattle.std.proofs.lemmas.Result.{IfErr-at_err}
use Rattle.hay_disk.specs.Streams.{Wrote, WrotePart}
use Rattle.hay_needle.specs.declared.settings.Settings.{Settings}
use Rattle.hay_script.specs.declared.Command.{Command}
use Rattle.hay_script.specs.declared.Command.TheVariants as asks
use Rattle.hay_reply.specs.declared.Note.{Note}
use Rattle.hay_reply.specs.declared.Note.TheVariants.{OpenFailed, OpenDamaged}
use Rattle.hay_reply.specs.declared.Reply.{Reply}
use Rattle.hay_reply.specs.declared.Reply.TheVariants.{NoMem, Restarted}
use Rattle.hay_reply.specs.Fits.{FitsNote, FitsReply}
use Rattle.hay_reply.specs.Replies.{note_line, numbered_line}
use Rattle.hay_legal.specs.declared.turn.Item.TheVariants as item
use Rattle.hay_legal.specs.Items.{Asked}
use Rattle.hay_legal.specs.Items.Asked.{Alone}
use Rattle.hay_legal.specs.Suiting.{Suits}
use Rattle.hay_cluster.specs.declared.fault.ClusterFault.{ClusterFault}
use Rattle.hay_cluster.specs.declared.fault.ClusterFault.TheVariants as refusal
use Rattle.hay_cluster.specs.Leaving.{LeavesContents}
use Rattle.hay_cluster.specs.Needles.{MeetsNeedles, TellsDamage}
use Rattle.hay_cluster.specs.Outside.{AreSoundBelow, IsDamagedDisk}
use Rattle.hay_cluster.specs.Causes.{EndsRuns, HasFaultCause, IsCaused, LeavesFuses}
use Rattle.hay_cluster.specs.Passing.{PassesBefore}
use Rattle.hay_cluster.specs.Seen.{Answers, OpensSeen, TellsSeen}
use Rattle.hay_cluster.specs.Sights.{LeavesSights}
use Rattle.hay_run.specs.declared.stops.Stop.{Stop}
use Rattle.hay_run.specs.declared.stops.Stop.TheVariants as stop
use Rattle.hay_run.specs.Causing.{IsLaterTally, IsTextOf, AnswerTexts, Caused, IsNoteCaused, IsRestart, NotReopened, ReadsAgain, ToldRefusal, ToldWanting, StopCaused, TookLastItem, TurnStops}
use Rattle.hay_run.specs.Causing.{HasSureArm, Tally, plain_tag}
use Rattle.hay_run.specs.Items.{TookOpen}
use Rattle.hay_lines.specs.Lines.{TookPart, TookOver, TookSome}
use Rattle.hay_run.specs.Stops.{note_of}
use Rattle.hay_run.specs.Turns.{Writing}
use Rattle.hay_run.proofs.Counting.{NoneFalls-same}
use Rattle.hay_run.proofs.Turning.{wrote_nothing, wrote_more, wrote_part}

pub same_tally : (tally : Tally) → IsLaterTally tally tally
same_tally tally = (NoneFalls-same tally.counts.disks, NoneFalls-same tally.counts.arms, λ lane sure. sure)

module _ (Tells : Type 0) where
  -- texts behind texts
  texts_more : (settings : Settings) (a b c : Tally) (asked more : List Asked) (text text' : List ℕ)
      → AnswerTexts Tells settings a b asked text → AnswerTexts Tells settings b c more text' → AnswerTexts Tells settings a c (asked ++ more) (text ++ text')
  texts_more settings a b c [] more text text' h k =
      subst (λ (l : List ℕ). AnswerTexts Tells settings a c more (l ++ text')) (sym h.0) (subst (λ (m : Tally). AnswerTexts Tells settings m c more text') h.1 k)
  texts_more settings a b c (one ∷ asked) more text text' h k = (
    h.0,
    h.1,
    h.2 ++ text',
    ap (λ (l : List ℕ). l ++ text') h.3 ∙ append_assoc h.1 h.2 text',
    h.4,
    h.5,
    texts_more settings h.0 b c asked more h.2 text' h.6 k,
  )

  pub caused_more : (settings : Settings) (a b c : Tally) (asked more : List Asked) (written written' written'' : Option (List ℕ))
      → Caused Tells Wrote settings a b asked written written' → Caused Tells Wrote settings b c more written' written'' → Caused Tells Wrote settings a c (asked ++ more) written written''
  caused_more settings a b c asked more written written' written'' h k = record {
    text = h.text ++ k.text;
    answers = texts_more settings a b c asked more h.text k.text h.answers k.answers;
    wrote = wrote_more written written' written'' h.text k.text h.wrote k.wrote;
  }

  -- nothing was asked for
  pub caused_nothing : (settings : Settings) (tally : Tally) (written : Option (List ℕ)) → Caused Tells Wrote settings tally tally [] written written
  caused_nothing settings tally written = record { text = []; answers = (refl, refl); wrote = wrote_nothing written }

  part_nothing : (settings : Settings) (tally : Tally) (written : Option (List ℕ)) → Caused Tells WrotePart settings tally tally [] written written
  part_nothing settings tally written = record { text = []; answers = (refl, refl); wrote = wrote_part written written [] (wrote_nothing written) }

  -- one item was answered
  pub caused_one : (Writes : Writing) (settings : Settings) (before after : Tally) (asked : Asked) (text : List ℕ) (written written' : Option (List ℕ))
      → IsLaterTally before after → IsTextOf Tells settings before after asked text → Writes written text written' → Caused Tells Writes settings before after (asked ∷ []) written written'
  caused_one Writes settings before after asked text written written' none is wrote = record {
    text = text;
    answers = (after, text, [], sym (append-nil text), none, is, (refl, refl));
    wrote = wrote;
  }

  pub caused_reply : (Writes : Writing) (settings : Settings) (before after : Tally) (number : ℕ) (command : Command) (reply : Reply) (written written' : Option (List ℕ))
      → ((pick : ℕ) → command ≢ asks.Restart pick) → IsLaterTally before after → LeavesFuses settings command before.fuses after.fuses
      → FitsReply reply → Suits settings number command reply → IsCaused settings before.counts.disks after.counts.disks reply
      → PassesBefore Tells settings (HasSureArm before 0) after.contents (plain_tag number) command before.counts after.counts after.seen reply
      → Answers settings (plain_tag number) command reply before.seen after.seen
      → LeavesSights settings command reply before.seen after.seen → EndsRuns settings reply before.seen after.seen before.counts.disks after.counts.disks
      → (Tells → LeavesContents settings command reply (before.seen).volumes (after.seen).volumes before.contents after.contents)
      → (Tells → TellsDamage settings before.contents before.seen command reply) → (Tells → MeetsNeedles settings before.contents before.seen after.seen command reply)
      → Writes written (numbered_line number reply) written'
      → Caused Tells Writes settings before after (Alone number (item.Command command) ∷ []) written written'
  caused_reply Writes settings before after number command reply written written' other none fuses fits suits cause passes seen sights ended contents damaged told wrote =
      caused_one Writes settings before after (Alone number (item.Command command)) (numbered_line number reply) written written' none (
        fuses,
        inr (record {
          plain = other;
          said = reply;
          fits = fits;
          suits = suits;
          caused = cause;
          passes = passes;
          answers = seen;
          sights = sights;
          ended = ended;
          contents = contents;
          damaged = damaged;
          told = told;
          is = refl;
        }),
      ) wrote

  pub caused_restart : (Writes : Writing) (settings : Settings) (before after : Tally) (number pick rows : ℕ) (notes : List Note) (written written' : Option (List ℕ))
      → IsLaterTally before after → after.fuses ≡ before.fuses → after.counts.arms ≡ before.counts.arms → FitsReply (Restarted rows)
      → TellsSeen settings before.seen after.seen notes → AllByRecursion FitsNote notes
      → OpensSeen settings after.seen → rows ≡ (after.seen).directory.rows
      → (Tells → ReadsAgain settings before after)
      → Writes written (numbered_line number (Restarted rows) ++ flat_map note_line notes) written'
      → Caused Tells Writes settings before after (Alone number (item.Command (asks.Restart pick)) ∷ []) written written'
  caused_restart Writes settings before after number pick rows notes written written' none fuses arms large tells fits opens many sound wrote =
      caused_one Writes settings before after (Alone number (item.Command (asks.Restart pick))) (numbered_line number (Restarted rows) ++ flat_map note_line notes) written written' none
      (fuses, inl (pick, rows, notes, refl, large, tells, fits, opens, many, arms, refl, sound)) wrote

  -- HOW A LINE STOPS A RUN

  same_stop : {T : Type 0} (r : Result T Stop) (why other : Stop) → r ≡ Err why → r ≡ Err other → other ≡ why
  same_stop r why other is e = cc

  part_by : {T : Type 0} (settings : Settings) (before after : Tally) (asked : List Asked) (written written' : Option (List ℕ)) (r : Result T Stop) (why : Stop) → r ≡ Err why
      → (r ≡ Err stop.Output) ⊎ (r ≡ Err stop.NoMemory) → Caused Tells WrotePart settings before after asked written written' → StopCaused Tells settings before after why asked written written'
  part_by settings before after asked written written' r why is (inl e) caused =
      subst (λ (w : Stop). StopCaused Tells settings before after w asked written written') (same_stop r why stop.Output is e) (inl caused)
  part_by settings before after asked written written' r why is (inr e) caused =
      subst (λ (w : Stop). StopCaused Tells settings before after w asked written written') (same_stop r why stop.NoMemory is e) (inl caused)

  pub part_stops : {T : Type 0} (settings : Settings) (before after : Tally) (asked : List Asked) (written written' : Option (List ℕ)) (r : Result T Stop) (why : Stop) → r ≡ Err why
      → OnErr r ((r ≡ Err stop.Output) ⊎ (r ≡ Err stop.NoMemory)) → OnErr r (Caused Tells WrotePart settings before after asked written written')
      → StopCaused Tells settings before after why asked written written'
  part_stops settings before after asked written written' r why is kinds part =
      part_by settings before after asked written written' r why is
      (IfErr-at_err (λ (w : Stop). (r ≡ Err stop.Output) ⊎ (r ≡ Err stop.NoMemory)) is kinds)
      (IfErr-at_err (λ (w : Stop). Caused Tells WrotePart settings before after asked written written') is part)

  -- a restart that was refused
  module _ (settings : Settings) (before after : Tally) (number pick : ℕ) (written written' : Option (List ℕ)) (why : Stop)
      (back : NotReopened before after (Alone number (item.Command (asks.Restart pick)) ∷ [])) where
    abbrev FitsFor : ClusterFault → Type 0
    FitsFor fault = (note : Note) → note_of fault ≡ Some note → FitsNote note

    abbrev RestartAsked : List Asked
    RestartAsked = Alone number (item.Command (asks.Restart pick)) ∷ []

    abbrev PartOf : Note → Type 0
    PartOf note = (why ≡ stop.Store) ⊎ WrotePart written (note_line note) written'

    restart_number : (is : IsRestart RestartAsked) → is.0 ≡ number
    restart_number (n, p, same) = cc

    abbrev LowestFor : ClusterFault → Type 0
    LowestFor fault = Tells → (slot count : ℕ) → fault ≡ refusal.Failed slot count → AreSoundBelow settings slot after.contents

    abbrev PlaceFor : ClusterFault → Type 0
    PlaceFor fault = Tells → (slot file at : ℕ) → fault ≡ refusal.Damaged slot file at
        → IsDamagedDisk settings after.contents slot file at × AreSoundBelow settings slot after.contents

    note_caused : (fault : ClusterFault) → HasFaultCause settings before.counts.disks after.counts.disks fault → LowestFor fault → PlaceFor fault → (note : Note)
        → note_of fault ≡ Some note → IsNoteCaused Tells settings before after note
    note_caused (refusal.Shelf count) cause lowest place note is = absurd cause
    note_caused (refusal.Failed slot count) cause lowest place note is =
        let same : note ≡ OpenFailed slot count = cc in subst (λ (n : Note). IsNoteCaused Tells settings before after n) (sym same) (cause.0, (cause.1, cause.2), λ tells. lowest tells slot count refl)
    note_caused (refusal.Damaged slot file at) cause lowest place note is =
        let same : note ≡ OpenDamaged slot file at = cc in subst (λ (n : Note). IsNoteCaused Tells settings before after n) (sym same) (cause, λ tells. place tells slot file at refl)
    note_caused refusal.NoMemory cause lowest place note is = cc

    abbrev Told : Type 0
    Told =
        Caused Tells WrotePart settings before after RestartAsked written written' ⊎ ToldWanting before after RestartAsked written written'
        ⊎ ToldRefusal Tells WrotePart settings before after RestartAsked written written'

    refusal_part : (note : Note) → why ≢ stop.Store → FitsNote note → IsNoteCaused Tells settings before after note → PartOf note → Told
    refusal_part note other fits cause (inl is) = absurd (other is)
    refusal_part note other fits cause (inr wrote) = inr (inr (back, (note, fits, cause, wrote)))

    part_refused : (fault : ClusterFault) → FitsFor fault → HasFaultCause settings before.counts.disks after.counts.disks fault → LowestFor fault → PlaceFor fault → why ≢ stop.Store
        → (fault ≡ refusal.NoMemory → (why ≢ stop.Store) × WrotePart written (numbered_line number NoMem) written') → ((note : Note) → note_of fault ≡ Some note → PartOf note)
        → Told
    part_refused (refusal.Shelf count) fits cause lowest place other wanting part = absurd cause
    part_refused (refusal.Failed slot count) fits cause lowest place other wanting part =
        refusal_part (OpenFailed slot count) other (fits (OpenFailed slot count) refl) (cause.0, (cause.1, cause.2), λ tells. lowest tells slot count refl) (part (OpenFailed slot count) refl)
    part_refused (refusal.Damaged slot file at) fits cause lowest place other wanting part =
        refusal_part (OpenDamaged slot file at) other (fits (OpenDamaged slot file at) refl) (cause, λ tells. place tells slot file at refl) (part (OpenDamaged slot file at) refl)
    part_refused refusal.NoMemory fits cause lowest place other wanting part =
        let same : back.restart.0 ≡ number = restart_number back.restart in
        inr (inl (back, subst (λ (n : ℕ). WrotePart written (numbered_line n NoMem) written') (sym same) (wanting refl).1))

    pub refused_stops : (fault : ClusterFault) → FitsFor fault → HasFaultCause settings before.counts.disks after.counts.disks fault → LowestFor fault → PlaceFor fault
        → (fault ≡ refusal.NoMemory → (why ≢ stop.Store) × WrotePart written (numbered_line number NoMem) written')
        → (why ≡ stop.Store → (note : Note) × (note_of fault ≡ Some note) × Wrote written (note_line note) written')
        → ((note : Note) → note_of fault ≡ Some note → PartOf note)
        → (why ≡ stop.Output) ⊎ (why ≡ stop.NoMemory) ⊎ (why ≡ stop.Store) → StopCaused Tells settings before after why RestartAsked written written'
    refused_stops fault fits cause lowest place wanting told part (inl e) =
        subst (λ (w : Stop). StopCaused Tells settings before after w RestartAsked written written') (sym e) (part_refused fault fits cause lowest place (λ is. cc) wanting part)
    refused_stops fault fits cause lowest place wanting told part (inr (inl e)) =
        subst (λ (w : Stop). StopCaused Tells settings before after w RestartAsked written written') (sym e) (part_refused fault fits cause lowest place (λ is. cc) wanting part)
    refused_stops fault fits cause lowest place wanting told part (inr (inr e)) =
        let note = told e in
        subst (λ (w : Stop). StopCaused Tells settings before after w RestartAsked written written') (sym e)
        (back, (note.0, fits note.0 note.1, note_caused fault cause lowest place note.0 note.1, note.2))

  -- HOW A TURN STOPS

  -- nothing whole was read
  module _ {T : Type 0} (settings : Settings) (tally : Tally) (number : ℕ) (before after written : Option (List ℕ)) (r : Result T Stop) (why : Stop) (is : r ≡ Err why)
      (input : IsErrOf r stop.Input → TookOpen TookPart number None before after) (memory : IsErrOf r stop.NoMemory → TookSome before after)
      (over : IsErrOf r stop.TooLong → TookOpen TookOver number None before after) where
    reading_by : (r ≡ Err stop.Input) ⊎ (r ≡ Err stop.NoMemory) ⊎ (r ≡ Err stop.TooLong) → TurnStops Tells settings tally tally why number before written after written
    reading_by (inl e) =
        subst (λ (w : Stop). TurnStops Tells settings tally tally w number before written after written) (same_stop r why stop.Input is e)
        (record { asked = []; took = input e; caused = (refl, refl, refl) })
    reading_by (inr (inl e)) =
        subst (λ (w : Stop). TurnStops Tells settings tally tally w number before written after written) (same_stop r why stop.NoMemory is e)
        (record { asked = []; took = inr (refl, memory e); caused = inl (part_nothing settings tally written) })
    reading_by (inr (inr e)) =
        subst (λ (w : Stop). TurnStops Tells settings tally tally w number before written after written) (same_stop r why stop.TooLong is e)
        (record { asked = []; took = over e; caused = (refl, refl, refl) })

    pub reading_stops : OnErr r ((r ≡ Err stop.Input) ⊎ (r ≡ Err stop.NoMemory) ⊎ (r ≡ Err stop.TooLong)) → TurnStops Tells settings tally tally why number before written after written
    reading_stops kinds = reading_by (IfErr-at_err (λ (w : Stop). (r ≡ Err stop.Input) ⊎ (r ≡ Err stop.NoMemory) ⊎ (r ≡ Err stop.TooLong)) is kinds)

  -- an item was read
  module _ {T : Type 0} (settings : Settings) (old new : Tally) (number : ℕ) (asked : List Asked) (before after written written' : Option (List ℕ)) (r : Result T Stop) (why : Stop) (is : r ≡ Err why)
      (took : TookLastItem number asked before after) where
    item_by : (r ≡ Err stop.Output) ⊎ (r ≡ Err stop.NoMemory) ⊎ (r ≡ Err stop.Store) → StopCaused Tells settings old new why asked written written'
        → TurnStops Tells settings old new why number before written after written'
    item_by (inl e) caused =
        subst (λ (w : Stop). StopCaused Tells settings old new w asked written written' → TurnStops Tells settings old new w number before written after written') (same_stop r why stop.Output is e)
        (λ h. record { asked = asked; took = took; caused = h }) caused
    item_by (inr (inl e)) caused =
        subst (λ (w : Stop). StopCaused Tells settings old new w asked written written' → TurnStops Tells settings old new w number before written after written') (same_stop r why stop.NoMemory is e)
        (λ h. record { asked = asked; took = inl took; caused = h }) caused
    item_by (inr (inr e)) caused =
        subst (λ (w : Stop). StopCaused Tells settings old new w asked written written' → TurnStops Tells settings old new w number before written after written') (same_stop r why stop.Store is e)
        (λ h. record { asked = asked; took = took; caused = h }) caused

    pub item_stops : OnErr r ((r ≡ Err stop.Output) ⊎ (r ≡ Err stop.NoMemory) ⊎ (r ≡ Err stop.Store)) → StopCaused Tells settings old new why asked written written'
        → TurnStops Tells settings old new why number before written after written'
    item_stops kinds caused = item_by (IfErr-at_err (λ (w : Stop). (r ≡ Err stop.Output) ⊎ (r ≡ Err stop.NoMemory) ⊎ (r ≡ Err stop.Store)) is kinds) caused
