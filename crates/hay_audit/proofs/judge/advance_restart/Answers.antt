use Rattle.std.proofs.Common.{◌≡◌, ◌≢◌, ℕ, ◌+◌, ◌-◌, ◌≤◌, List, ◌∷◌, ◌++◌, length, take, drop, Option, refl, sym, ap, subst, ◌∙◌, inl, inr}
use Rattle.std.specs.Prelude.{IfNone, IfSome}
use Rattle.hay_reply.specs.declared.Reply.{Reply}
use Rattle.hay_reply.specs.declared.Reply.TheVariants.{NoMem, Restarted}
use Rattle.hay_reply.specs.Fits.{FitsReply}
use Rattle.hay_reply.specs.Replies.{numbered_line}
use Rattle.hay_audit_steps.specs.BoxReopen.{restart_boxes}
use Rattle.hay_audit.specs.declared.answers.Answer.{Answer}
use Rattle.hay_audit.specs.declared.judge.Candidate.{Candidate}
use Rattle.hay_audit.specs.Candidates.{AreKept, Goes}
use Rattle.hay_audit.proofs.Lists.{all_behind, drop_twice, further_within}
use Rattle.hay_audit.proofs.Opening.{reply_starts}
use Rattle.hay_audit.proofs.Placing.{goes_nowhere, is_no_bad, placed_kept, told_so as reply_told}
use Rattle.hay_audit.proofs.Restarting.{notes_start, restart_goes, restart_keeps, so_many, unread_goes}
use Rattle.hay_audit.proofs.judge.advance_restart.Goals as goal

-- the text behind a place
abbrev behind_place : List ℕ → ℕ → List ℕ
behind_place transcript at = take (length transcript - at) (drop at transcript)

-- an answer was read there
abbrev IsAnswer : ℕ → List ℕ → Answer → Type 0
IsAnswer line text answer = (answer.behind ≤ length text) × (numbered_line line answer.reply ++ drop answer.behind text ≡ text)

pub returns-in_default-read-clause-went : goal.returns-in_default-read-clause-went
returns-in_default-read-clause-went c =
    goes_nowhere c.args.settings.now c.args.line c.args.item.now c.args.transcript.now (behind_place c.args.transcript.now c.args.candidate.at) c.args.candidate c.args.out.now
    (all_behind c.args.transcript.now c.args.candidate.at)
    (subst (λ (o : Option Answer). IfNone o ((r : Reply) (rest : List ℕ) → FitsReply r
    → numbered_line c.args.line r ++ rest ≢ (behind_place c.args.transcript.now c.args.candidate.at))) c.in_default-read.is c.in-Ok.ensures.none)

pub returns-in_default-rows_told-clause-went : goal.returns-in_default-rows_told-clause-went
returns-in_default-rows_told-clause-went c =
    let none = subst (λ (o : Option ℕ). IfNone o ((rows : ℕ) → (c.in-Some.answer).reply ≢ Restarted rows)) c.in_default-rows_told.is c.rows_told.ensures.none in
    let read : IsAnswer c.args.line (behind_place c.args.transcript.now c.args.candidate.at) c.in-Some.answer =
    subst (λ (o : Option Answer). IfSome o (IsAnswer c.args.line (behind_place c.args.transcript.now c.args.candidate.at))) c.in-Some.is c.in-Ok.ensures.some in
    unread_goes c.args.settings.now c.args.line c.args.item.now c.args.transcript.now (behind_place c.args.transcript.now c.args.candidate.at) c.args.candidate c.args.out.now
    (c.in-Some.answer).reply (c.in-Some.answer).behind c.requires.restart (all_behind c.args.transcript.now c.args.candidate.at) c.fits.ensures
    (λ wants. is_no_bad c.args.item.now c.requires.restart
    (reply_told c.args.transcript.now (behind_place c.args.transcript.now c.args.candidate.at) c.args.line c.args.item.now c.args.candidate.at (c.in-Some.answer).behind
    (c.in-Some.answer).reply c.ranges.line.fits c.requires.shut (c.requires.kept).start
    (all_behind c.args.transcript.now c.args.candidate.at) read.1 wants))
    read.1 (λ d notes rest is. absurd (none d is))

pub tell_restart-requires-clause-many : goal.tell_restart-requires-clause-many
tell_restart-requires-clause-many c = (so_many c.args.settings.now c.args.candidate.state (c.requires.kept).of).volumes

pub tell_restart-requires-clause-lows : goal.tell_restart-requires-clause-lows
tell_restart-requires-clause-lows c = (so_many c.args.settings.now c.args.candidate.state (c.requires.kept).of).low

pub tell_restart-requires-clause-highs : goal.tell_restart-requires-clause-highs
tell_restart-requires-clause-highs c = (so_many c.args.settings.now c.args.candidate.state (c.requires.kept).of).high

pub returns-clause-went : goal.returns-clause-went
returns-clause-went c =
    let is_restart : (c.in-Some.answer).reply ≡ Restarted c.in-Some-rows_told.rows =
    subst (λ (o : Option ℕ). IfSome o (λ rows. (c.in-Some.answer).reply ≡ Restarted rows)) c.in-Some-rows_told.is c.rows_told.ensures.some in
    let read : IsAnswer c.args.line (behind_place c.args.transcript.now c.args.candidate.at) c.in-Some.answer =
    subst (λ (o : Option Answer). IfSome o (IsAnswer c.args.line (behind_place c.args.transcript.now c.args.candidate.at))) c.in-Some.is c.in-Ok.ensures.some in
    let more = behind_place c.args.transcript.now (c.args.candidate.at + (c.in-Some.answer).behind) in
    let rest : more ≡ drop (c.args.candidate.at + (c.in-Some.answer).behind) c.args.transcript.now = all_behind c.args.transcript.now (c.args.candidate.at + (c.in-Some.answer).behind) in
    elim (c.in_ok-tell_restart.ensures) [
      | inl told ↦
          restart_goes c.args.settings.now c.args.line c.args.item.now c.args.transcript.now (behind_place c.args.transcript.now c.args.candidate.at) more c.args.candidate
          c.args.out.now c.tell_restart.new.out
          (c.in-Some.answer).reply c.in-Some-rows_told.rows (c.in-Some.answer).behind told.behind told.notes
          (restart_boxes c.args.settings.now c.args.candidate.state (Restarted c.in-Some-rows_told.rows) told.notes)
          c.requires.restart (c.requires.kept).of (all_behind c.args.transcript.now c.args.candidate.at) is_restart c.fits.ensures read.1 rest
          (record { many = told.many; fits = told.fits; parts = told.parts }) refl told.added
      | inr untold ↦
          subst (λ (new : List Candidate). Goes c.args.settings.now c.args.line c.args.item.now c.args.transcript.now c.args.candidate c.args.out.now new) (sym untold.same)
          (unread_goes c.args.settings.now c.args.line c.args.item.now c.args.transcript.now (behind_place c.args.transcript.now c.args.candidate.at) c.args.candidate c.args.out.now
          (c.in-Some.answer).reply (c.in-Some.answer).behind c.requires.restart (all_behind c.args.transcript.now c.args.candidate.at) c.fits.ensures
          (λ wanted. absurd (let lie : Restarted c.in-Some-rows_told.rows ≡ NoMem = sym is_restart ∙ wanted in cc)) read.1
          (λ d notes after is many fits stands. untold.none notes after many fits (stands ∙ sym rest)))
    ]

pub returns-clause-kept : goal.returns-clause-kept
returns-clause-kept c = λ h.
    let read : IsAnswer c.args.line (behind_place c.args.transcript.now c.args.candidate.at) c.in-Some.answer =
    subst (λ (o : Option Answer). IfSome o (IsAnswer c.args.line (behind_place c.args.transcript.now c.args.candidate.at))) c.in-Some.is c.in-Ok.ensures.some in
    let more = behind_place c.args.transcript.now (c.args.candidate.at + (c.in-Some.answer).behind) in
    let rest : more ≡ drop (c.args.candidate.at + (c.in-Some.answer).behind) c.args.transcript.now = all_behind c.args.transcript.now (c.args.candidate.at + (c.in-Some.answer).behind) in
    let first =
    reply_starts c.args.transcript.now (behind_place c.args.transcript.now c.args.candidate.at) c.args.line c.args.candidate.at (c.in-Some.answer).behind
    (c.in-Some.answer).reply (c.requires.kept).start (all_behind c.args.transcript.now c.args.candidate.at) read.1 in
    let on : drop (c.in-Some.answer).behind (behind_place c.args.transcript.now c.args.candidate.at) ≡ more =
    ap (λ (xs : List ℕ). drop (c.in-Some.answer).behind xs) (all_behind c.args.transcript.now c.args.candidate.at)
    ∙ sym (drop_twice c.args.candidate.at (c.in-Some.answer).behind c.args.transcript.now) ∙ sym rest in
    elim (c.in_ok-tell_restart.ensures) [
      | inl told ↦
          placed_kept c.args.settings.now c.args.transcript.now more (c.args.candidate.at + (c.in-Some.answer).behind) told.behind c.args.out.now c.tell_restart.new.out
          (restart_boxes c.args.settings.now c.args.candidate.state (Restarted c.in-Some-rows_told.rows) told.notes) rest
          (further_within c.args.transcript.now c.args.candidate.at (c.in-Some.answer).behind (c.requires.kept).within read.0) told.within
          (notes_start c.args.transcript.now first.0 (drop told.behind more) told.notes (first.1 ∙ ap (λ (xs : List ℕ). first.0 ++ 10 ∷ xs) (on ∙ sym told.parts)))
          (restart_keeps c.args.settings.now c.args.candidate.state c.in-Some-rows_told.rows told.notes
          (restart_boxes c.args.settings.now c.args.candidate.state (Restarted c.in-Some-rows_told.rows) told.notes) (c.requires.kept).of refl)
          told.added h
      | inr untold ↦ subst (λ (new : List Candidate). AreKept c.args.settings.now c.args.transcript.now new) (sym untold.same) h
    ]
