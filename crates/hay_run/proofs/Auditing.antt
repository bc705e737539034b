-- How an audit ends.
use Rattle.std.proofs.Common.{◌≡◌, ◌⊎◌, inl, inr, ℕ, List, Option, Some, None, refl, subst, ◌∙◌, arith}
use Rattle.hay_disk.specs.Streams.{Wrote, WrotePart}
use Rattle.hay_needle.specs.declared.settings.Settings.{Settings}
use Rattle.hay_legal.specs.Statuses.{Ending, status_of}
use Rattle.hay_legal.specs.Statuses.Ending.{ReadAll, OutputFault, InputFault, NoMemory, TooLong}
use Rattle.hay_lines.specs.Stream.{TookAtMost}
use Rattle.hay_frame.specs.declared.fault.FrameFault.{FrameFault}
use Rattle.hay_frame.specs.declared.fault.FrameFault.TheVariants as fault
use Rattle.hay_frame.specs.declared.frame.TheConstants.{FRAME}
use Rattle.hay_frame.specs.Frames.{IsFramed, IsOverlong, IsUnframed, TookFrame}
use Rattle.hay_frame.proofs.Taking.{none_taken}
use Rattle.hay_audit_steps.specs.Judged.{JudgementOf}
use Rattle.hay_audit.specs.Candidates.{judged_as}
use Rattle.hay_audit.specs.declared.judge.Judgement.{Judgement}
use Rattle.hay_audit.specs.declared.judge.Judgement.TheVariants.{Lawful, Unlawful, Open}
use Rattle.hay_run.specs.declared.stops.Stop.{Stop}
use Rattle.hay_run.specs.declared.stops.Stop.TheVariants as stop
use Rattle.hay_run.specs.Audits.{AuditsTo, IsJudgedFrame, fault_status, judgement_line, judgement_status}
use Rattle.hay_run.specs.Stops.{ending_of}
use Rattle.hay_run.specs.Words.{IsAuditStatus}

-- THE STATUSES

-- a judgement's status is none of those of faults
pub judged_status : (judgement : Judgement) (status : ℕ) → status ≡ judgement_status judgement → (status ≡ 0) ⊎ IsAuditStatus status
judged_status (Lawful turns) status is = inl is
judged_status (Unlawful turns) status is = inr (inl is)
judged_status (Open turns) status is = inr (inr (inr is))

pub judged_no_fault : (judgement : Judgement) (status : ℕ) → status ≡ judgement_status judgement
    → (status ≡ 3) ⊎ (status ≡ 4) ⊎ (status ≡ 7) ⊎ (status ≡ 10) → ⊥
judged_no_fault (Lawful turns) status is fault = elim fault [
  | inl three ↦ omega (arith, is, three)
  | inr (inl four) ↦ omega (arith, is, four)
  | inr (inr (inl seven)) ↦ omega (arith, is, seven)
  | inr (inr (inr ten)) ↦ omega (arith, is, ten)
]
judged_no_fault (Unlawful turns) status is fault = elim fault [
  | inl three ↦ omega (arith, is, three)
  | inr (inl four) ↦ omega (arith, is, four)
  | inr (inr (inl seven)) ↦ omega (arith, is, seven)
  | inr (inr (inr ten)) ↦ omega (arith, is, ten)
]
judged_no_fault (Open turns) status is fault = elim fault [
  | inl three ↦ omega (arith, is, three)
  | inr (inl four) ↦ omega (arith, is, four)
  | inr (inr (inl seven)) ↦ omega (arith, is, seven)
  | inr (inr (inr ten)) ↦ omega (arith, is, ten)
]

pub fault_no_output : (f : FrameFault) (status : ℕ) → status ≡ fault_status f → status ≡ 3 → ⊥
fault_no_output fault.Input status is three = omega (arith, is, three)
fault_no_output fault.NoMemory status is three = omega (arith, is, three)
fault_no_output fault.TooLong status is three = omega (arith, is, three)
fault_no_output fault.Bad status is three = omega (arith, is, three)

pub fault_input : (f : FrameFault) (status : ℕ) → status ≡ fault_status f → status ≡ 4 → f ≡ fault.Input
fault_input fault.Input status is four = refl
fault_input fault.NoMemory status is four = absurd (omega (arith, is, four))
fault_input fault.TooLong status is four = absurd (omega (arith, is, four))
fault_input fault.Bad status is four = absurd (omega (arith, is, four))

pub stop_no_input : (why : Stop) (status : ℕ) → status ≡ status_of (ending_of why) → (why ≡ stop.Output) ⊎ (why ≡ stop.NoMemory) → status ≡ 4 → ⊥
stop_no_input stop.Output status is stops four = omega (arith, is, four)
stop_no_input stop.NoMemory status is stops four = omega (arith, is, four)
stop_no_input stop.Input status is stops four = elim stops [ inl a ↦ cc | inr a ↦ cc ]
stop_no_input stop.Store status is stops four = omega (arith, is, four)
stop_no_input stop.TooLong status is stops four = omega (arith, is, four)

pub stop_output : (why : Stop) (status : ℕ) → status ≡ status_of (ending_of why) → status ≡ 3 → why ≡ stop.Output
stop_output stop.Output status is three = refl
stop_output stop.NoMemory status is three = absurd (omega (arith, is, three))
stop_output stop.Input status is three = absurd (omega (arith, is, three))
stop_output stop.Store status is three = absurd (omega (arith, is, three))
stop_output stop.TooLong status is three = absurd (omega (arith, is, three))

-- HOW IT ENDS

module _ (settings : Settings) (status : ℕ) (left left' before after : Option (List ℕ)) where
  -- no frame came
  pub audits_unframed : (f : FrameFault) → status ≡ fault_status f → (f ≡ fault.Bad → IsUnframed left) → (f ≡ fault.TooLong → IsOverlong left left')
      → ((f ≡ fault.TooLong → ⊥) → TookAtMost FRAME left left') → after ≡ before → AuditsTo settings status left left' before after
  audits_unframed fault.Input is bad long taken same = record {
    tells = inr (inl is, same);
    bad = λ ten. absurd (omega (arith, is, ten));
    long = λ seven. absurd (omega (arith, is, seven));
    taken = λ other. taken (λ no. cc);
  }
  audits_unframed fault.NoMemory is bad long taken same = record {
    tells = inr (inr (inl is), same);
    bad = λ ten. absurd (omega (arith, is, ten));
    long = λ seven. absurd (omega (arith, is, seven));
    taken = λ other. taken (λ no. cc);
  }
  audits_unframed fault.TooLong is bad long taken same = record {
    tells = inr (inr (inr (inl is)), same);
    bad = λ ten. absurd (omega (arith, is, ten));
    long = λ seven. long refl;
    taken = λ other. absurd (other is);
  }
  audits_unframed fault.Bad is bad long taken same = record {
    tells = inr (inr (inr (inr is)), same);
    bad = λ ten. bad refl;
    long = λ seven. absurd (omega (arith, is, seven));
    taken = λ other. taken (λ no. cc);
  }

  module _ (judgement : Judgement) (judged : IsJudgedFrame settings left left' judgement) (taken : TookAtMost FRAME left left') where
    -- the judgement was written
    pub audits_told : status ≡ judgement_status judgement → Wrote before (judgement_line judgement) after
        → AuditsTo settings status left left' before after
    audits_told is wrote = record {
      tells = inl (judgement, judged, inl (is, wrote));
      bad = λ ten. absurd (judged_no_fault judgement status is (inr (inr (inr ten))));
      long = λ seven. absurd (judged_no_fault judgement status is (inr (inr (inl seven))));
      taken = λ other. taken;
    }

    -- or not, or a front of it
    pub audits_stopped : (why : Stop) → status ≡ status_of (ending_of why) → (why ≡ stop.Output) ⊎ (why ≡ stop.NoMemory)
        → (why ≡ stop.Output → WrotePart before (judgement_line judgement) after) → (why ≡ stop.NoMemory → after ≡ before)
        → AuditsTo settings status left left' before after
    audits_stopped why is (inl output) part none =
        let three : status ≡ 3 = is ∙ rw output refl in
        record {
          tells = inl (judgement, judged, inr (three, part output));
          bad = λ ten. absurd (omega (arith, three, ten));
          long = λ seven. absurd (omega (arith, three, seven));
          taken = λ other. taken;
        }
    audits_stopped why is (inr memory) part none =
        let five : status ≡ 5 = is ∙ rw memory refl in
        record {
          tells = inr (inr (inl five), none memory);
          bad = λ ten. absurd (omega (arith, five, ten));
          long = λ seven. absurd (omega (arith, five, seven));
          taken = λ other. taken;
        }

-- memory was wanting for the words
pub audit_nothing : (settings : Settings) (status : ℕ) (left before : Option (List ℕ)) → status ≡ 5 → AuditsTo settings status left left before before
audit_nothing settings status left before five =
    audits_unframed settings status left left before before fault.NoMemory five (λ no. cc) (λ no. cc) (λ other. none_taken FRAME left) refl

-- AMONG THE MODES

module _ (settings : Settings) (status : ℕ) (left left' before after : Option (List ℕ)) (ends : AuditsTo settings status left left' before after) where
  pub audit_statuses : {W X : Type 0} → W → (status ≡ 2) ⊎ ((ending : Ending) × (status ≡ status_of ending)) ⊎ X ⊎ (IsAuditStatus status × W)
  audit_statuses {W} {X} w = elim ends.tells [
    | inl told ↦ elim told.2 [
      | inl whole ↦ elim (judged_status told.0 status whole.0) [
        | inl zero ↦ inr (inl (ReadAll, zero))
        | inr own ↦ inr (inr (inr (own, w)))
      ]
      | inr part ↦ inr (inl (OutputFault, part.0))
    ]
    | inr none ↦ elim none.0 [
      | inl four ↦ inr (inl (InputFault, four))
      | inr (inl five) ↦ inr (inl (NoMemory, five))
      | inr (inr (inl seven)) ↦ inr (inl (TooLong, seven))
      | inr (inr (inr ten)) ↦ inr (inr (inr (inr (inl ten), w)))
    ]
  ]

  pub audit_never_two : status ≡ 2 → ⊥
  audit_never_two two = elim ends.tells [
    | inl told ↦ elim told.2 [
      | inl whole ↦ elim (judged_status told.0 status whole.0) [
        | inl zero ↦ omega (arith, zero, two)
        | inr own ↦ elim own [
          | inl nine ↦ omega (arith, nine, two)
          | inr (inl ten) ↦ omega (arith, ten, two)
          | inr (inr eleven) ↦ omega (arith, eleven, two)
        ]
      ]
      | inr part ↦ (let three = part.0 in omega (arith, three, two))
    ]
    | inr none ↦ elim none.0 [
      | inl four ↦ omega (arith, four, two)
      | inr (inl five) ↦ omega (arith, five, two)
      | inr (inr (inl seven)) ↦ omega (arith, seven, two)
      | inr (inr (inr ten)) ↦ omega (arith, ten, two)
    ]
  ]

-- THE JUDGEMENT

-- the frame that was taken was judged
pub judged_frame : (settings : Settings) (left left' : Option (List ℕ)) (script transcript : List ℕ) (judgement : Judgement)
    → TookFrame left script transcript left' → JudgementOf settings script transcript (judged_as judgement) → IsJudgedFrame settings left left' judgement
judged_frame settings None left' script transcript judgement frame judged = λ input is. cc
judged_frame settings (Some all) left' script transcript judgement frame judged = λ input is.
    let same : all ≡ input = cc in
    (script, transcript, subst (λ (i : List ℕ). IsFramed i script transcript) same frame.0, frame.1, judged)
