-- What a run has written over void disks is never judged unlawful.
use Rattle.std.proofs.Common.{◌≡◌, inl, inr, ℕ, zero, suc, ◌<◌, ◌≤◌, List, [], ◌∷◌, ◌++◌, Bool, length, map, take, drop, Option, Some, refl, sym, ap, subst, ◌∙◌, append_assoc, arith}
use Rattle.std.specs.Prelude.{flat_map}
use Rattle.std.specs.List.{AllByRecursion as Each}
use Rattle.std.proofs.lemmas.Grind.{flat_map-append}
use Rattle.std.proofs.lemmas.List.{append_cancel_left, take-append-drop}
use Rattle.std.proofs.lemmas.List.FromFn.{length-map-range_with_len}
use Rattle.hay_needle.specs.declared.settings.Settings.{Settings}
use Rattle.hay_reply.specs.Replies.{header_line}
use Rattle.hay_legal.specs.declared.known.DirKnown.{DirKnown}
use Rattle.hay_legal.specs.declared.known.Known.{Known}
use Rattle.hay_legal.specs.declared.known.VolumeKnown.{VolumeKnown}
use Rattle.hay_legal.specs.declared.turn.Turn.{Turn}
use Rattle.hay_legal.specs.declared.turn.Turn.TheVariants.{Plain, Lanes, Restart}
use Rattle.hay_legal.specs.Items.{Asked, item_of_turn, items_of}
use Rattle.hay_legal.specs.Known.{FaultsRose, disk_count, fresh}
use Rattle.hay_legal.specs.Legal.{Legal, known_after}
use Rattle.hay_legal.specs.Stands.{Outside}
use Rattle.hay_legal.specs.Statuses.{IsFront, asked_of, read_contents}
use Rattle.hay_legal.specs.Statuses.Ending.{ReadAll}
use Rattle.hay_legal.specs.Transcript.{transcript_text, turn_text}
use Rattle.hay_frame.specs.Frames.{IsFramed}
use Rattle.hay_frame.proofs.Framing.{one_frame}
use Rattle.hay_audit_steps.specs.Reached.{FitsTurn}
use Rattle.hay_audit_steps.specs.Judged.{AreBeforeOpen, Explained, Fits, FitsWhole, IsOpenItem, JudgementOf}
use Rattle.hay_audit_steps.specs.Judged.Judgement.{Unlawful}
use Rattle.hay_audit_steps.proofs.Judging.{before_within, take_all, take_long, take_twice}
use Rattle.hay_audit.specs.declared.judge.Judgement.TheVariants as judged
use Rattle.hay_cluster.specs.Outside.{IsVoid}
use Rattle.hay_cluster.proofs.Lists.{AllZip-long}
use Rattle.hay_run.specs.Audits.{AuditsTo, TellsJudgement, TellsNothing}
use Rattle.hay_run.specs.Runs.{IsTaken, RanTo}
use Rattle.hay_run.specs.Turns.{FitsAnswers}
use Rattle.hay_run.proofs.VoidDisks.{fresh_on, in_order, void_disks_hold_a_fresh_store}

-- THE FIRST OF SOME TURNS

items_front : (n : ℕ) (turns : List Turn) → map item_of_turn (take n turns) ≡ take n (map item_of_turn turns)
items_front zero turns = refl
items_front (suc n) [] = refl
items_front (suc n) (turn ∷ turns) = ap (λ (items : List Asked). item_of_turn turn ∷ items) (items_front n turns)

fits_front : (n : ℕ) (turns : List Turn) → Each FitsAnswers turns → Each FitsAnswers (take n turns)
fits_front zero turns fits = tt
fits_front (suc n) [] fits = tt
fits_front (suc n) (turn ∷ turns) fits = (fits.0, fits_front n turns fits.1)

legal_front : (settings : Settings) (k t : Known) (n : ℕ) (turns : List Turn) → Legal settings k turns t → (mid : Known) × Legal settings k (take n turns) mid
legal_front settings k t zero turns legal = (k, refl)
legal_front settings k t (suc n) [] legal = (k, refl)
legal_front settings k t (suc n) (turn ∷ turns) legal =
    let rest = legal_front settings (known_after turn) t n turns legal.1 in (rest.0, (legal.0, rest.1))

text_front : (settings : Settings) (n : ℕ) (turns : List Turn) → IsFront (transcript_text settings (take n turns)) (transcript_text settings turns)
text_front settings n turns = (
  flat_map turn_text (drop n turns),
  ap (λ (text : List ℕ). header_line settings ++ text)
      (ap (λ (all : List Turn). flat_map turn_text all) (sym (take-append-drop n turns)) ∙ flat_map-append turn_text (take n turns) (drop n turns))
      ∙ sym (append_assoc (header_line settings) (flat_map turn_text (take n turns)) (flat_map turn_text (drop n turns))),
)

-- where no item is open no turn is a block, so that all of it fits
turns_fit : (transcript : List ℕ) (turns : List Turn) → Each (λ asked. IsOpenItem transcript asked → ⊥) (map item_of_turn turns) → Each FitsAnswers turns → Each FitsTurn turns
turns_fit transcript [] judged fits = tt
turns_fit transcript (Plain line item reply after ∷ turns) judged fits = (fits.0, turns_fit transcript turns judged.1 fits.1)
turns_fit transcript (Lanes items logs rows after ∷ turns) judged fits = absurd (judged.0 tt)
turns_fit transcript (Restart line pick reply notes after ∷ turns) judged fits = (fits.0, turns_fit transcript turns judged.1 fits.1)

-- LEGAL TURNS

module _ (settings : Settings) (faults fuses arms : List ℕ) (disks : length faults ≡ disk_count settings) (lanes : length arms ≡ 8)
    (turns : List Turn) (t : Known) (legal : Legal settings (fresh settings faults fuses arms) turns t) (fits : Each FitsAnswers turns) where
  -- the first n turns, whose items are before the first open one, have a text at the front of that of all
  front_explained : (items : List Asked) (n : ℕ) → asked_of turns ≡ items → Each (λ asked. IsOpenItem (transcript_text settings turns) asked → ⊥) (take n items)
      → Explained settings (take n items) (λ text. IsFront text (transcript_text settings turns))
  front_explained items n are judged =
      let transcript = transcript_text settings turns in
      let asked : asked_of (take n turns) ≡ take n items = items_front n turns ∙ ap (λ (all : List Asked). take n all) are in
      let part = legal_front settings (fresh settings faults fuses arms) t n turns legal in
      record {
        faults = faults;
        fuses = fuses;
        arms = arms;
        disks = disks;
        lanes = lanes;
        turns = take n turns;
        t = part.0;
        asked = asked;
        legal = part.1;
        fits = turns_fit transcript (take n turns) (subst (λ (all : List Asked). Each (λ asked. IsOpenItem transcript asked → ⊥) all) (sym asked) judged) (fits_front n turns fits);
        told = text_front settings n turns;
      }

  whole_explained : (items : List Asked) → asked_of turns ≡ items → Each (λ asked. IsOpenItem (transcript_text settings turns) asked → ⊥) items
      → FitsWhole settings items (transcript_text settings turns)
  whole_explained items are judged =
      let transcript = transcript_text settings turns in
      record {
        faults = faults;
        fuses = fuses;
        arms = arms;
        disks = disks;
        lanes = lanes;
        turns = turns;
        t = t;
        asked = are;
        legal = legal;
        fits = turns_fit transcript turns (subst (λ (all : List Asked). Each (λ asked. IsOpenItem transcript asked → ⊥) all) (sym are) judged) fits;
        told = refl;
      }

  -- n items that come before the first open one fit
  before_fit : (items : List Asked) (n : ℕ) → asked_of turns ≡ items → AreBeforeOpen items (transcript_text settings turns) n → Fits settings (take n items) (transcript_text settings turns) n
  before_fit items n are before =
      let transcript = transcript_text settings turns in
      let within = before_within items transcript n before in
      let long = take_long items n within in (
        omega (arith, long),
        subst (λ (all : List Asked). Explained settings all (λ text. IsFront text transcript)) (sym (take_twice items n n (omega arith))) (front_explained items n are before.judged),
      )

  -- where they are all items they fit as a whole
  all_fit : (items : List Asked) (n : ℕ) → asked_of turns ≡ items → AreBeforeOpen items (transcript_text settings turns) n → n ≡ length items
      → FitsWhole settings items (transcript_text settings turns)
  all_fit items n are before all =
      let transcript = transcript_text settings turns in
      let whole : take n items ≡ items = ap (λ (i : ℕ). take i items) all ∙ take_all items in
      whole_explained items are (subst (λ (xs : List Asked). Each (λ asked. IsOpenItem transcript asked → ⊥) xs) whole before.judged)

  -- so the text of legal turns that answer a script is not unlawful
  pub legal_not_unlawful : (script : List ℕ) → asked_of turns ≡ items_of script → (m : ℕ) → JudgementOf settings script (transcript_text settings turns) (Unlawful m) → ⊥
  legal_not_unlawful script are m judgement =
      let n = judgement.0 in
      let before = judgement.1 in
      elim (judgement.2).1 [
        | inl less ↦ ((judgement.2).0).no_more n less (before_fit (items_of script) n are before)
        | inr (inl last) ↦ last.2 (all_fit (items_of script) n are before last.1)
        | inr (inr header) ↦ header.1 (flat_map turn_text turns, refl)
      ]

-- WHAT A RUN HAS WRITTEN

-- an opening leaves a new store new
opened_fresh : (settings : Settings) (faults fuses arms : List ℕ) (opened : Known) → FaultsRose (fresh settings faults fuses arms) opened
    → opened ≡ fresh settings opened.faults opened.fuses opened.arms
opened_fresh settings faults fuses arms opened rose =
    let by : List VolumeKnown → DirKnown → List Bool → Known = λ volumes directory drained.
    record { volumes = volumes; directory = directory; drained = drained; faults = opened.faults; arms = opened.arms; fuses = opened.fuses } in
    let k = fresh settings faults fuses arms in
    ap (λ (volumes : List VolumeKnown). by volumes opened.directory opened.drained) rose.volumes
    ∙ ap (λ (directory : DirKnown). by k.volumes directory opened.drained) rose.directory
    ∙ ap (λ (drained : List Bool). by k.volumes k.directory drained) rose.drained

fresh_not_unlawful : (settings : Settings) (faults fuses arms : List ℕ) → length faults ≡ disk_count settings → length arms ≡ 8
    → (script : List ℕ) (left : Option (List ℕ)) (taken given : Outside) (held : List ℕ) (written : Option (List ℕ))
    → RanTo settings (fresh settings faults fuses arms) ReadAll script left taken given held written
    → (transcript : List ℕ) → written ≡ Some (held ++ transcript) → (m : ℕ) → JudgementOf settings script transcript (Unlawful m) → ⊥
fresh_not_unlawful settings faults fuses arms disks lanes script left taken given held written ran transcript is m judgement =
    let runs = ran.runs in
    let opened = runs.opened in
    let rose = runs.opening in
    let legal = subst (λ (k : Known). Legal settings k runs.turns runs.t) (opened_fresh settings faults fuses arms opened rose) runs.legal in
    let many : length faults ≡ length opened.faults = AllZip-long ◌≤◌ faults opened.faults rose.faults in
    let asked : asked_of runs.turns ≡ items_of script = (runs.ends).asked ∙ ap items_of (sym (ran.bytes).0) in
    let both : Some (held ++ ran.text) ≡ Some (held ++ transcript) = sym ran.wrote ∙ is in
    let same : held ++ ran.text ≡ held ++ transcript = cc in
    let text : transcript ≡ transcript_text settings runs.turns = sym (append_cancel_left held ran.text transcript same) ∙ (runs.ends).wrote in
    legal_not_unlawful settings opened.faults opened.fuses opened.arms (sym many ∙ disks) (ap length rose.arms ∙ lanes) runs.turns runs.t legal ran.fits script asked m
    (subst (λ (bytes : List ℕ). JudgementOf settings script bytes (Unlawful m)) text judgement)

-- Where each disk that a run took was void, and it read its script to the end: whoever judges the script and what was written, by the
-- settings of the run, never finds it unlawful.
module _ (settings : Settings) (taken given : Outside) (void : (slot : ℕ) → slot < disk_count settings → IsVoid (read_contents taken slot))
    (script : List ℕ) (left : Option (List ℕ)) (held : List ℕ) (written : Option (List ℕ))
    (ran : (k : Known) → IsTaken settings taken k → RanTo settings k ReadAll script left taken given held written)
    (transcript : List ℕ) (is : written ≡ Some (held ++ transcript)) where
  pub what_a_run_wrote_is_never_unlawful : (m : ℕ) → JudgementOf settings script transcript (Unlawful m) → ⊥
  what_a_run_wrote_is_never_unlawful m judgement =
      let disks = disk_count settings in
      fresh_not_unlawful settings (in_order taken.faults disks) (in_order taken.fuses disks) (in_order taken.arms 8)
      (length-map-range_with_len taken.faults 0 disks) (length-map-range_with_len taken.arms 0 8)
      script left taken given held written (ran (fresh_on settings taken) (void_disks_hold_a_fresh_store settings taken void)) transcript is m judgement

  by_judgement : (left' before after : Option (List ℕ)) (input : List ℕ) → IsFramed input script transcript → TellsJudgement settings 9 (Some input) left' before after → ⊥
  by_judgement left' before after input framed (judged.Lawful n, is_judged, told) = elim told [
    | inl whole ↦ (let none : 9 ≡ 0 = whole.0 in omega (arith, none))
    | inr part ↦ (let three : 9 ≡ 3 = part.0 in omega (arith, three))
  ]
  by_judgement left' before after input framed (judged.Open n, is_judged, told) = elim told [
    | inl whole ↦ (let eleven : 9 ≡ 11 = whole.0 in omega (arith, eleven))
    | inr part ↦ (let three : 9 ≡ 3 = part.0 in omega (arith, three))
  ]
  by_judgement left' before after input framed (judged.Unlawful n, is_judged, told) =
      let frame = is_judged input refl in
      let one = one_frame input script transcript frame.0 frame.1 framed frame.2 in
      let of_script : JudgementOf settings script frame.1 (Unlawful n) = subst (λ (bytes : List ℕ). JudgementOf settings bytes frame.1 (Unlawful n)) (sym one.0) frame.4 in
      what_a_run_wrote_is_never_unlawful n (subst (λ (bytes : List ℕ). JudgementOf settings script bytes (Unlawful n)) (sym one.1) of_script)

  no_status : (before after : Option (List ℕ)) → TellsNothing 9 before after → ⊥
  no_status before after nothing = elim nothing.0 [
    | inl four ↦ omega (arith, four)
    | inr (inl five) ↦ omega (arith, five)
    | inr (inr (inl seven)) ↦ omega (arith, seven)
    | inr (inr (inr ten)) ↦ omega (arith, ten)
  ]

  -- so an audit of them does not end with status 9, which is that of what is unlawful
  pub no_audit_of_a_run_says_unlawful : (input : List ℕ) → IsFramed input script transcript → (left' before after : Option (List ℕ)) → AuditsTo settings 9 (Some input) left' before after → ⊥
  no_audit_of_a_run_says_unlawful input framed left' before after audit = elim audit.tells [
    | inl tells ↦ by_judgement left' before after input framed tells
    | inr nothing ↦ no_status before after nothing
  ]
