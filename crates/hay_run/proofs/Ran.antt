-- From what was served to a whole run.
use Rattle.std.proofs.Common.{◌≡◌, ◌⊎◌, inl, inr, ℕ, ◌+◌, ◌<◌, ◌≤◌, false, List, [], ◌∷◌, ◌++◌, map, length, take, drop, Option, Some, None, refl, sym, ap, subst, ◌∙◌}
use Rattle.std.proofs.Common.{append_assoc, length-append, arith, lit≤}
use Rattle.std.specs.Prelude.{flat_map}
use Rattle.std.specs.List.{AllByRecursion}
use Rattle.std.proofs.lemmas.Grind.{flat_map-append}
use Rattle.std.proofs.lemmas.List.{append-nil, map-append, length-map, take-append-drop}
use Rattle.hay_disk.specs.Streams.{Wrote, WrotePart}
use Rattle.hay_needle.specs.declared.settings.Settings.{Settings}
use Rattle.hay_reply.specs.declared.Note.{Note}
use Rattle.hay_reply.specs.declared.Note.TheVariants.{OpenFailed}
use Rattle.hay_reply.specs.declared.Reply.TheVariants.{NoMem}
use Rattle.hay_reply.specs.Replies.{header_line, note_line}
use Rattle.hay_script.specs.declared.words.TheConstants.{MAX_SCRIPT}
use Rattle.hay_script.specs.declared.Command.TheVariants as asks
use Rattle.hay_legal.specs.declared.known.Known.{Known}
use Rattle.hay_legal.specs.declared.turn.Item.TheVariants as item
use Rattle.hay_legal.specs.declared.turn.Turn.{Turn}
use Rattle.hay_legal.specs.declared.turn.Turn.TheVariants.{Restart}
use Rattle.hay_legal.specs.Items.{Asked, items_of, item_of_turn}
use Rattle.hay_legal.specs.Items.Asked.{Alone}
use Rattle.hay_legal.specs.Known.{CameUp, FaultsRose, disk_count, fault_count}
use Rattle.hay_legal.specs.Legal.{Legal}
use Rattle.hay_legal.specs.Stands.{Outside, StandsOn}
use Rattle.hay_legal.specs.Statuses as statuses
use Rattle.hay_legal.specs.Statuses.{Ending, IsFront}
use Rattle.hay_legal.specs.Transcript.{turn_text, transcript_text}
use Rattle.hay_directory.specs.Rows.{OpensRows}
use Rattle.hay_logical.specs.Fits.{IsReplica}
use Rattle.hay_cluster.specs.Outside.{IsVoid}
use Rattle.hay_cluster.specs.Store.{Open}
use Rattle.hay_legal.specs.Statuses.Ending.{ReadAll, OutputFault, InputFault, NoMemory, NotOpened, TooLong}
use Rattle.hay_run.specs.declared.stops.Stop.{Stop}
use Rattle.hay_run.specs.declared.stops.Stop.TheVariants as stop
use Rattle.hay_run.specs.Stops.{ending_of}
use Rattle.hay_lines.specs.Stream.{Held, rest_of}
use Rattle.hay_lines.specs.Lines.{TookPart, TookOver, TookSome}
use Rattle.hay_run.specs.Items.{TookItems, TookOpen}
use Rattle.hay_run.specs.Turns.{Writing, Standing, AnswersTurns, FitsAnswers, IsGoingOn, Keeps, Refused, TurnedPart, RefusesRestart, Broke, HoldsNone, StopsTurn}
use Rattle.hay_run.specs.Runs.{RanTo, ReadFront}
use Rattle.hay_run.proofs.Asking.{took_items_more}
use Rattle.hay_run.proofs.Reading.{ReadsFront, rest_none, breaks_off, over_part, front_some, front_read}
use Rattle.hay_run.proofs.Turning.{each_more, legal_more}

-- WHAT IS WRITTEN

-- a transcript, and another turn's text behind it
transcript_more : (settings : Settings) (turns more : List Turn) → transcript_text settings (turns ++ more) ≡ transcript_text settings turns ++ flat_map turn_text more
transcript_more settings turns more =
    ap (λ (text : List ℕ). header_line settings ++ text) (flat_map-append turn_text turns more)
    ∙ sym (append_assoc (header_line settings) (flat_map turn_text turns) (flat_map turn_text more))

-- what a sink that tells holds
pub told_more : (held text : List ℕ) (written : Option (List ℕ)) → Wrote (Some held) text written → written ≡ Some (held ++ text)
told_more held text written wrote = wrote

pub header_more : (settings : Settings) (held : List ℕ) (turns : List Turn) (written : Option (List ℕ))
    → Wrote (Some (held ++ header_line settings)) (flat_map turn_text turns) written → written ≡ Some (held ++ transcript_text settings turns)
header_more settings held turns written wrote =
    wrote ∙ ap (λ (text : List ℕ). Some text) (append_assoc held (header_line settings) (flat_map turn_text turns))

pub front_take : (n : ℕ) (text : List ℕ) → IsFront (take n text) text
front_take n text = (drop n text, sym (take-append-drop n text))

pub front_behind : (a b c : List ℕ) → IsFront b c → IsFront (a ++ b) (a ++ c)
front_behind a b c front = (front.0, ap (λ (l : List ℕ). a ++ l) front.1 ∙ sym (append_assoc a b front.0))

front_shorter : {X : Type 0} (front more all : List X) → IsFront (front ++ more) all → IsFront front all
front_shorter front more all is = (more ++ is.0, is.1 ∙ append_assoc front more is.0)

-- RESTARTS THAT WANTED MEMORY

none_wanting : (turns before : List Turn) (line pick : ℕ) (notes : List Note) (after : Known) (behind : List Turn) → AllByRecursion IsGoingOn turns
    → turns ≡ before ++ Restart line pick NoMem notes after ∷ behind → ⊥
none_wanting [] [] line pick notes after behind each is = cc
none_wanting [] (first ∷ before) line pick notes after behind each is = cc
none_wanting (turn ∷ turns) [] line pick notes after behind each is =
    let same : turn ≡ Restart line pick NoMem notes after = cc in each.0 line pick notes after same
none_wanting (turn ∷ turns) (first ∷ before) line pick notes after behind each is =
    let same : turns ≡ before ++ Restart line pick NoMem notes after ∷ behind = cc in none_wanting turns before line pick notes after behind each.1 same

pub none_wants : (turns : List Turn) → AllByRecursion IsGoingOn turns → statuses.NoneWants turns
none_wants turns each = λ before line pick notes after behind is. none_wanting turns before line pick notes after behind each is

-- in turns that all go on there is none
pub wants_none : (ending : Ending) (turns : List Turn) → AllByRecursion IsGoingOn turns → statuses.WantsLast ending turns
wants_none ending turns each = λ before line pick notes after behind is. absurd (none_wanting turns before line pick notes after behind each is)

-- nothing stands behind one
abbrev pub LastWants : List Turn → Type 0
LastWants turns = (before : List Turn) (line pick : ℕ) (notes : List Note) (after : Known) (behind : List Turn) → turns ≡ before ++ Restart line pick NoMem notes after ∷ behind → behind ≡ []

no_turns : (turns : List Turn) → length turns ≤ 0 → turns ≡ []
no_turns [] none = refl
no_turns (turn ∷ turns) none = absurd (omega (arith, none))

-- one more turn, of any kind, may be one
last_more : (turns more : List Turn) → AllByRecursion IsGoingOn turns → length more ≤ 1 → (before : List Turn) (line pick : ℕ) (notes : List Note) (after : Known) (behind : List Turn)
    → turns ++ more ≡ before ++ Restart line pick NoMem notes after ∷ behind → behind ≡ []
last_more [] more each few before line pick notes after behind is =
    no_turns behind (omega (arith, few, ap length is, length-append before (Restart line pick NoMem notes after ∷ behind)))
last_more (turn ∷ turns) more each few [] line pick notes after behind is =
    let same : turn ≡ Restart line pick NoMem notes after = cc in absurd (each.0 line pick notes after same)
last_more (turn ∷ turns) more each few (first ∷ before) line pick notes after behind is =
    let same : turns ++ more ≡ before ++ Restart line pick NoMem notes after ∷ behind = cc in
    last_more turns more each.1 few before line pick notes after behind same

pub last_none : (turns : List Turn) → AllByRecursion IsGoingOn turns → LastWants turns
last_none turns each = λ before line pick notes after behind is. absurd (none_wanting turns before line pick notes after behind each is)

-- A RUN THAT STOPPED WHILE IT WROTE

pub record RanPart (settings : Settings) (k : Known) (script : List ℕ) (left : Option (List ℕ)) (taken given : Outside) (held : List ℕ) (written : Option (List ℕ)) : Type 0 where
  pub read : List ℕ
  pub bytes : ReadFront script read left
  pub text : List ℕ
  pub wrote : written ≡ Some (held ++ text)
  pub opened : Known
  pub opening : FaultsRose k opened
  pub turns : List Turn
  pub t : Known
  pub legal : Legal settings opened turns t
  pub last : LastWants turns
  pub fits : AllByRecursion FitsAnswers turns
  pub ends : statuses.Interrupted IsReplica OpensRows IsVoid settings k script read taken turns t text given

pub ran_output : (settings : Settings) (k : Known) (script : List ℕ) (left : Option (List ℕ)) (taken given : Outside) (held : List ℕ) (written : Option (List ℕ))
    → RanPart settings k script left taken given held written → RanTo settings k OutputFault script left taken given held written
ran_output settings k script left taken given held written part = record {
  read = part.read;
  bytes = part.bytes;
  text = part.text;
  wrote = part.wrote;
  runs = record {
    opened = part.opened;
    opening = part.opening;
    turns = part.turns;
    t = part.t;
    legal = part.legal;
    wanting = λ before line pick notes after behind is. (part.last before line pick notes after behind is, inr refl);
    ends = part.ends;
  };
  fits = part.fits;
}

pub ran_memory : (settings : Settings) (k : Known) (script : List ℕ) (left : Option (List ℕ)) (taken given : Outside) (held : List ℕ) (written : Option (List ℕ))
    → RanPart settings k script left taken given held written → RanTo settings k NoMemory script left taken given held written
ran_memory settings k script left taken given held written part = record {
  read = part.read;
  bytes = part.bytes;
  text = part.text;
  wrote = part.wrote;
  runs = record {
    opened = part.opened;
    opening = part.opening;
    turns = part.turns;
    t = part.t;
    legal = part.legal;
    wanting = λ before line pick notes after behind is. (part.last before line pick notes after behind is, inl refl);
    ends = part.ends;
  };
  fits = part.fits;
}

-- the count that a refused restart tells is one of the disks given back
tells_failure : (settings : Settings) (known t : Known) (given : Outside) (slot count : ℕ) → StandsOn (IsReplica settings) (OpensRows settings) settings t given
    → slot < disk_count settings → CameUp (fault_count known slot) count (fault_count t slot) → statuses.TellsFailure settings known given (OpenFailed slot count)
tells_failure settings known t given slot count stands within came =
    (slot, count, refl, within, subst (λ n. CameUp (fault_count known slot) count n) (stands.faults slot within) came)

-- FROM WHAT WAS SERVED

module _ {D P A : Type 0} (Tells : Type 0) (Begins Left : Standing D P A) (settings : Settings) (taken given : Outside) (store store' : Open D P A) (k start : Known)
    (tells : Tells)
    (opening : FaultsRose k start)
    (store_is : store.settings ≡ settings) (store'_is : store'.settings ≡ settings)
    (begins : Begins store start)
    (weaken : (between : Open D P A) → between.settings ≡ settings → (known : Known) → Begins between known → Left between known)
    (closed : (known : Known) → Left store' known → StandsOn (IsReplica settings) (OpensRows settings) settings known given)
    (script held : List ℕ) (left written' : Option (List ℕ)) where
  pub ran_all : (asked : List Asked) → asked ≡ items_of script → AnswersTurns IsGoingOn Wrote Begins start asked (Some (held ++ header_line settings)) store' written' → left ≡ Some []
      → RanTo settings k ReadAll script left taken given held written'
  ran_all asked all answers over =
      let P : Settings → Type 0 = λ s. Legal s start answers.turns answers.t in
      record {
        read = script;
        bytes = (refl, over);
        text = transcript_text settings answers.turns;
        wrote = header_more settings held answers.turns written' answers.wrote;
        runs = record {
          opened = start;
          opening = opening;
          turns = answers.turns;
          t = answers.t;
          legal = subst P store'_is answers.legal;
          wanting = wants_none ReadAll answers.turns answers.each;
          ends = record { asked = answers.items ∙ all; wrote = refl; stands = closed answers.t (weaken store' store'_is answers.t answers.left) };
        };
        fits = answers.fits;
      }

  module _ (asked : List Asked) (number : ℕ) (rest : Option (List ℕ)) (mid : Open D P A) (text : Option (List ℕ)) (holding : Held)
      (took : TookItems 1 None (Some script) asked number rest false)
      (mid_is : mid.settings ≡ store.settings)
      (answers : AnswersTurns IsGoingOn Wrote Begins start asked (Some (held ++ header_line settings)) mid text) where
    mid_legal : Legal settings start answers.turns answers.t
    mid_legal = let P : Settings → Type 0 = λ s. Legal s start answers.turns answers.t in subst P (mid_is ∙ store_is) answers.legal

    mid_text : text ≡ Some (held ++ transcript_text settings answers.turns)
    mid_text = header_more settings held answers.turns text answers.wrote

    mid_closed : store' ≡ mid → StandsOn (IsReplica settings) (OpensRows settings) settings answers.t given
    mid_closed same = let P : Open D P A → Type 0 = λ s. Left s answers.t in closed answers.t (subst P (sym same) (weaken mid (mid_is ∙ store_is) answers.t answers.left))

    mid_kept : Keeps Tells Begins mid store' → StandsOn (IsReplica settings) (OpensRows settings) settings answers.t given
    mid_kept keeps = closed answers.t (weaken store' store'_is answers.t (keeps tells answers.t answers.left))

    -- a front of a text was written behind the turns
    part_text : (bytes : List ℕ) → WrotePart text bytes written' → (n : ℕ) × (written' ≡ Some (held ++ (transcript_text settings answers.turns ++ take n bytes)))
    part_text bytes wrote =
        let n = wrote.0 in
        let P : Option (List ℕ) → Type 0 = λ before. Wrote before (take n bytes) written' in (
          n,
          subst P mid_text wrote.1 ∙ ap (λ (l : List ℕ). Some l) (append_assoc held (transcript_text settings answers.turns) (take n bytes)),
        )

    pub ran_open : HoldsNone stop.Input holding → TookOpen TookPart number None rest (rest_of left holding) → store' ≡ mid → written' ≡ text
        → RanTo settings k InputFault script left taken given held written'
    ran_open none broke same same_text =
        let off = breaks_off script asked number rest (rest_of left holding) took broke in
        record {
          read = off.read;
          bytes = (off.rest, off.script_is, sym (rest_none left holding none) ∙ off.after_is);
          text = transcript_text settings answers.turns;
          wrote = same_text ∙ mid_text;
          runs = record {
            opened = start;
            opening = opening;
            turns = answers.turns;
            t = answers.t;
            legal = mid_legal;
            wanting = wants_none InputFault answers.turns answers.each;
            ends = record { asked = answers.items ∙ off.items; wrote = refl; stands = mid_closed same };
          };
          fits = answers.fits;
        }

    pub ran_over : HoldsNone stop.TooLong holding → ((last : List ℕ) → left ≡ Some last → length script ≡ MAX_SCRIPT + 1 + length last)
        → TookOpen TookOver number None rest (rest_of left holding) → store' ≡ mid → written' ≡ text → RanTo settings k TooLong script left taken given held written'
    ran_over none full broke same same_text =
        let over = over_part script asked number rest (rest_of left holding) took broke in
        let left_is = sym (rest_none left holding none) ∙ over.after_is in
        record {
          read = over.read;
          bytes = (
            omega (arith, full over.rest left_is, ap length over.script_is, length-append over.read (over.byte ∷ over.rest)),
            (over.byte, over.rest, over.script_is, left_is),
          );
          text = transcript_text settings answers.turns;
          wrote = same_text ∙ mid_text;
          runs = record {
            opened = start;
            opening = opening;
            turns = answers.turns;
            t = answers.t;
            legal = mid_legal;
            wanting = wants_none TooLong answers.turns answers.each;
            ends = record { asked = answers.items ∙ over.items; wrote = refl; stands = mid_closed same };
          };
          fits = answers.fits;
        }

    pub ran_same : TookSome rest (rest_of left holding) → Keeps Tells Begins mid store' → written' ≡ text → RanPart settings k script left taken given held written'
    ran_same some keeps same_text =
        let reads = front_some script asked number rest left holding took some in
        let P : List Asked → Type 0 = λ all. IsFront all (items_of reads.read) in
        let W : List Asked → Type 0 = λ all. IsFront all (items_of script) in
        record {
          read = reads.read;
          bytes = (reads.rest, reads.script_is, reads.left_is);
          text = transcript_text settings answers.turns;
          wrote = same_text ∙ mid_text;
          opened = start;
          opening = opening;
          turns = answers.turns;
          t = answers.t;
          legal = mid_legal;
          last = last_none answers.turns answers.each;
          fits = answers.fits;
          ends = inl (record {
            asked = subst P (sym answers.items) reads.front;
            whole_lines = subst W (sym answers.items) reads.whole;
            before = answers.turns;
            last = [];
            parts = sym (append-nil answers.turns);
            one = lit≤ tt;
            wrote = ([], sym (append-nil (transcript_text settings answers.turns)));
            no_more = ([], sym (append-nil (transcript_text settings answers.turns)));
            stands = mid_kept keeps;
          });
        }

    pub ran_turn : TurnedPart Tells Begins Left mid number rest text store' (rest_of left holding) written' → RanPart settings k script left taken given held written'
    ran_turn p =
        let last = p.answers tells answers.t answers.left in
        let all = took_items_more 1 number p.next (Some script) rest (rest_of left holding) asked p.asked p.ended took p.took in
        let reads = front_read script (asked ++ p.asked) p.next left holding p.ended all in
        let wrote = part_text (flat_map turn_text last.turns) last.wrote in
        let one : length last.turns ≤ 1 = omega (arith, p.one, ap length last.items, length-map last.turns item_of_turn) in
        let P : Settings → Type 0 = λ s. Legal s answers.t last.turns last.t in
        let items = map-append item_of_turn answers.turns last.turns
        ∙ ap (λ (items : List Asked). items ++ map item_of_turn last.turns) answers.items ∙ ap (λ (items : List Asked). asked ++ items) last.items in
        let Q : List Asked → Type 0 = λ asks. IsFront asks (items_of reads.read) in
        let W : List Asked → Type 0 = λ asks. IsFront asks (items_of script) in
        let R : List ℕ → Type 0 = λ l. IsFront (transcript_text settings answers.turns ++ take wrote.0 (flat_map turn_text last.turns)) l in
        record {
          read = reads.read;
          bytes = (reads.rest, reads.script_is, reads.left_is);
          text = transcript_text settings answers.turns ++ take wrote.0 (flat_map turn_text last.turns);
          wrote = wrote.1;
          opened = start;
          opening = opening;
          turns = answers.turns ++ last.turns;
          t = last.t;
          legal = legal_more settings start answers.turns answers.t last.turns last.t mid_legal (subst P store'_is last.legal);
          last = last_more answers.turns last.turns answers.each one;
          fits = each_more FitsAnswers answers.turns last.turns answers.fits last.fits;
          ends = inl (record {
            asked = subst Q (sym items) reads.front;
            whole_lines = subst W (sym items) reads.whole;
            before = answers.turns;
            last = last.turns;
            parts = refl;
            one = one;
            wrote = (take wrote.0 (flat_map turn_text last.turns), refl);
            no_more = subst R (sym (transcript_more settings answers.turns last.turns))
                (front_behind (transcript_text settings answers.turns) (take wrote.0 (flat_map turn_text last.turns)) (flat_map turn_text last.turns)
                (front_take wrote.0 (flat_map turn_text last.turns)));
            stands = closed last.t last.left;
          });
        }

    restart_reads : (Writes : Writing) (r : RefusesRestart Tells Writes Begins Left mid number rest text store' (rest_of left holding) written')
        → ReadsFront script (asked ++ Alone number (item.Command (asks.Restart r.pick)) ∷ []) left
    restart_reads Writes r =
        front_read script (asked ++ Alone number (item.Command (asks.Restart r.pick)) ∷ []) r.next left holding r.ended
        (took_items_more 1 number r.next (Some script) rest (rest_of left holding) asked (Alone number (item.Command (asks.Restart r.pick)) ∷ []) r.ended took r.took)

    -- what the refusal of a restart is told as, and what it leaves
    refused_tells : (Writes : Writing) (f : Refused Writes Left answers.t text store' written') → statuses.TellsFailure settings answers.t given (OpenFailed f.slot f.count)
    refused_tells Writes f =
        tells_failure settings answers.t f.t given f.slot f.count (closed f.t f.left) (subst (λ (s : Settings). f.slot < disk_count s) store'_is f.within) f.came

    refused_left : (Writes : Writing) (f : Refused Writes Left answers.t text store' written') → statuses.IsNotReopened (IsReplica settings) (OpensRows settings) settings answers.t given
    refused_left Writes f = record { left = f.t; leaves = f.leaves; stands = closed f.t f.left }

    pub ran_refused : RefusesRestart Tells WrotePart Begins Left mid number rest text store' (rest_of left holding) written' → RanPart settings k script left taken given held written'
    ran_refused r =
        let f = r.refused tells answers.t answers.left in
        let reads = restart_reads WrotePart r in
        let line = note_line (OpenFailed f.slot f.count) in
        let wrote = part_text line f.wrote in
        let P : List Asked → Type 0 = λ all. IsFront (all ++ Alone number (item.Command (asks.Restart r.pick)) ∷ []) (items_of reads.read) in
        let W : List Asked → Type 0 = λ all. IsFront (all ++ Alone number (item.Command (asks.Restart r.pick)) ∷ []) (items_of script) in
        record {
          read = reads.read;
          bytes = (reads.rest, reads.script_is, reads.left_is);
          text = transcript_text settings answers.turns ++ take wrote.0 line;
          wrote = wrote.1;
          opened = start;
          opening = opening;
          turns = answers.turns;
          t = answers.t;
          legal = mid_legal;
          last = last_none answers.turns answers.each;
          fits = answers.fits;
          ends = inr (inr (inr (record {
            next = (number, r.pick, subst P (sym answers.items) reads.front);
            whole_lines = (number, r.pick, subst W (sym answers.items) reads.whole);
            answered = none_wants answers.turns answers.each;
            note = OpenFailed f.slot f.count;
            tells = refused_tells WrotePart f;
            wrote = (take wrote.0 line, front_take wrote.0 line, refl);
            left = refused_left WrotePart f;
          })));
        }

    pub ran_broke : Broke Tells Begins Left mid number rest text store' (rest_of left holding) written' → RanPart settings k script left taken given held written'
    ran_broke (inl p) = ran_turn p
    ran_broke (inr r) = ran_refused r

    pub ran_store : RefusesRestart Tells Wrote Begins Left mid number rest text store' (rest_of left holding) written' → RanTo settings k NotOpened script left taken given held written'
    ran_store r =
        let f = r.refused tells answers.t answers.left in
        let reads = restart_reads Wrote r in
        let line = note_line (OpenFailed f.slot f.count) in
        let P : List Asked → Type 0 = λ all. IsFront (all ++ Alone number (item.Command (asks.Restart r.pick)) ∷ []) (items_of reads.read) in
        let W : List Asked → Type 0 = λ all. IsFront (all ++ Alone number (item.Command (asks.Restart r.pick)) ∷ []) (items_of script) in
        let R : Option (List ℕ) → Type 0 = λ before. Wrote before line written' in
        record {
          read = reads.read;
          bytes = (reads.rest, reads.script_is, reads.left_is);
          text = transcript_text settings answers.turns ++ line;
          wrote = subst R mid_text f.wrote ∙ ap (λ (l : List ℕ). Some l) (append_assoc held (transcript_text settings answers.turns) line);
          runs = record {
            opened = start;
            opening = opening;
            turns = answers.turns;
            t = answers.t;
            legal = mid_legal;
            wanting = wants_none NotOpened answers.turns answers.each;
            ends = inr (record {
              next = (number, r.pick, subst P (sym answers.items) reads.front);
              whole_lines = (number, r.pick, subst W (sym answers.items) reads.whole);
              answered = none_wants answers.turns answers.each;
              note = OpenFailed f.slot f.count;
              tells = refused_tells Wrote f;
              wrote = (line, refl, refl);
              left = refused_left Wrote f;
            });
          };
          fits = answers.fits;
        }

    pub ran_memory_or : (TookSome rest (rest_of left holding) × Keeps Tells Begins mid store' × (written' ≡ text)) ⊎ Broke Tells Begins Left mid number rest text store' (rest_of left holding) written'
        → RanPart settings k script left taken given held written'
    ran_memory_or (inl same) = ran_same same.0 same.1 same.2
    ran_memory_or (inr broke) = ran_broke broke

    pub ran_stopped : (why : Stop) → HoldsNone why holding → (why ≡ stop.TooLong → (last : List ℕ) → left ≡ Some last → length script ≡ MAX_SCRIPT + 1 + length last)
        → StopsTurn Tells Begins Left why number rest text mid (rest_of left holding) written' store'
        → RanTo settings k (ending_of why) script left taken given held written'
    ran_stopped stop.Input none full stops = ran_open none stops.0 stops.1 stops.2
    ran_stopped stop.TooLong none full stops = ran_over none (full refl) stops.0 stops.1 stops.2
    ran_stopped stop.Output none full stops = ran_output settings k script left taken given held written' (ran_broke stops)
    ran_stopped stop.NoMemory none full stops = ran_memory settings k script left taken given held written' (ran_memory_or stops)
    ran_stopped stop.Store none full stops = ran_store stops
