-- The lines that put a photo are legal.
use Rattle.std.proofs.Common.{ℕ, ◌<◌, ◌+◌, true, List, [], ◌∷◌, length, map, Contains, Some, ap, ◌∙◌, inl, inr}
use Rattle.hay_needle.specs.declared.needle.Pair.{Pair}
use Rattle.hay_needle.specs.declared.settings.Settings.{Settings}
use Rattle.hay_core.specs.declared.entry.Entry.{Entry}
use Rattle.hay_reply.specs.declared.Refused.{Refused}
use Rattle.hay_reply.specs.declared.Reply.{Reply}
use Rattle.hay_reply.specs.declared.Reply.TheVariants as reply
use Rattle.hay_legal.specs.declared.known.DirKnown.{DirKnown}
use Rattle.hay_legal.specs.declared.known.Known.{Known}
use Rattle.hay_legal.specs.declared.known.VolumeKnown.{VolumeKnown}
use Rattle.hay_legal.specs.declared.turn.LaneItem.{LaneItem}
use Rattle.hay_legal.specs.Known.{all_tries}
use Rattle.hay_legal.specs.Plain.{as_closed, put_entry}
use Rattle.hay_legal.specs.Blocks.{HomeRefuses as legal_home, IsLeftPending, MayHaveAdded, MayRefuse, PutIsLegal, RefusesPut, TriesRefuse, tag_of}
use Rattle.hay_legal.proofs.Subject.Effects.{each_try}
use Rattle.hay_history.specs.LaneSteps.Did.{Pends}
use Rattle.hay_history.specs.Histories.{History, OneStep, SeesRefusal}
use Rattle.hay_history.specs.Commands.{CameInLanes, HomeRefuses, PutDid, PutRefused, SeesRefusals}
use Rattle.hay_history.proofs.Lists.{zip_weaker}
use Rattle.hay_history.proofs.Lines.{course_of, one_leads}
use Rattle.hay_history.proofs.Refusing.{refused_then}
use Rattle.hay_history.proofs.Volumes.{frozen_keeps, takes_then}
use Rattle.hay_history.proofs.Rows.{MayAnswerAdded, home_below, home_then, no_home_before, rows_frozen_then}
use Rattle.hay_history.proofs.Takers.{gets_row, row_left}
use Rattle.hay_history.proofs.ReadLines.{home_in_block}

module _ {settings : Settings} {k : Known} {items : List LaneItem} {history : History} {t : Known} (h : CameInLanes settings k items history t) (item : LaneItem) where
  -- REFUSALS

  may_refuse : (size v : ℕ) (refused : Refused) → v < settings.volumes → SeesRefusal (course_of h item) size v refused → MayRefuse settings k items t size v refused
  may_refuse size v refused below sees = refused_then h v below sees.moment size refused sees.is

  pub home_refuses : (pair : Pair) (bytes : List ℕ) (refused : List Refused) → HomeRefuses (course_of h item) pair (length bytes) refused
      → legal_home settings k items t pair bytes refused
  home_refuses pair bytes [] did = absurd did
  home_refuses pair bytes (refused ∷ []) did = (
    did.1,
    home_in_block h item pair did.0 did.1 did.2,
    may_refuse (length bytes) did.1 refused (home_below h item pair did.0 did.1 did.2) did.3,
  )
  home_refuses pair bytes (refused ∷ more ∷ rest) did = absurd did

  -- what a line that added its row was answered
  pub answers_added : (pair : Pair) (bytes : List ℕ) (r : Reply) → MayAnswerAdded (course_of h item) pair (length bytes) r
      → MayHaveAdded settings k items t pair bytes r
  answers_added pair bytes (reply.Stored v p d cookie) may = tt
  answers_added pair bytes (reply.Full refused) may = home_refuses pair bytes refused may
  answers_added pair bytes (reply.ReadOnly by) may = home_refuses pair bytes (map as_closed by) may
  answers_added pair bytes (reply.Failed v m f) may = tt
  answers_added pair bytes reply.NoMem may = tt
  answers_added pair bytes _ may = absurd may

  pub tries_refuse : (pair : Pair) (bytes : List ℕ) (refused : List Refused) → SeesRefusals (course_of h item) pair (length bytes) refused
      → TriesRefuse settings k items t pair bytes refused
  tries_refuse pair bytes refused tries = (
    no_home_before h item pair tries.0.0 tries.0.1,
    zip_weaker _ _ (all_tries settings pair) refused (λ v r at sees. may_refuse (length bytes) v r (each_try settings pair v at) sees) tries.1,
  )

  refuses_put : (pair : Pair) (bytes : List ℕ) (refused : List Refused) → PutRefused (course_of h item) pair (length bytes) refused
      → RefusesPut settings k items t pair bytes refused
  refuses_put pair bytes refused did =
      elim (did.because) [
        | inl tries ↦ inl (tries_refuse pair bytes refused tries.0)
        | inr home ↦ inr (home_refuses pair bytes refused home)
      ]

  -- a change that failed is left pending on the volume, which is frozen
  left_pending : (v m : ℕ) (change : Entry) → v < settings.volumes → Contains items item → OneStep (course_of h item) v (Pends m change true)
      → IsLeftPending t v m (record { tag = tag_of item; entry = change; failed = true })
  left_pending v m change below among step =
      let did = one_leads h item v (Pends m change true) below among step in
      let kept = frozen_keeps h v (step.place + 1) m below (ap (λ (volume : VolumeKnown). volume.frozen) did.1) ∙ did.1 in
      (ap (λ (volume : VolumeKnown). volume.frozen) kept, ap (λ (volume : VolumeKnown). volume.pending) kept)

  pub put_legal : (pair : Pair) (bytes : List ℕ) (r : Reply) → Contains items item → PutDid (course_of h item) pair bytes r
      → PutIsLegal settings k items t (tag_of item) pair bytes r
  put_legal pair bytes (reply.Stored v p d cookie) among did = (
    (home_then h item pair d (Some v) did.home).0,
    did.own_cookie,
    takes_then h v (did.step).place (length bytes) did.below did.room,
  )
  put_legal pair bytes (reply.Full refused) among did = (refuses_put pair bytes refused did.0, did.1)
  put_legal pair bytes (reply.ReadOnly by) among did = refuses_put pair bytes (map as_closed by) did
  put_legal pair bytes reply.ReadOnlyDir among did = (
    (did.3.0, gets_row h item pair (length bytes) did.3.0 (no_home_before h item pair did.2.0 did.2.1) did.3.1),
    ap (λ (d : DirKnown). d.frozen) (rows_frozen_then h did.4.0 did.4.2) ∙ did.4.2,
  )
  put_legal pair bytes (reply.Failed v m f) among did = (
    home_in_block h item pair did.d v did.home,
    ((did.failed).0, (did.failed).1),
    takes_then h v (did.step).place (length bytes) did.below did.room,
    left_pending v m (put_entry settings pair bytes) did.below among did.step,
  )
  put_legal pair bytes (reply.FailedDir f) among did =
      let left = row_left h item pair (length bytes) among did.pends in
      (left.0, ((did.pends).v, left.1, left.2))
  put_legal pair bytes reply.NoMem among did = tt
  put_legal pair bytes _ among did = absurd did
