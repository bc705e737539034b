-- Puts over a box.
use Rattle.std.proofs.Common.{◌≡◌, ◌≢◌, ℕ, ◌+◌, Bool, true, false, List, [], ◌∷◌, length, Option, Some, None, refl, sym, ap, subst, ◌∙◌}
use Rattle.std.specs.Prelude.{◌&&◌, ◌==◌, map}
use Rattle.std.specs.List.{list_any}
use Rattle.hay_needle.specs.declared.needle.Pair.{Pair}
use Rattle.hay_needle.specs.declared.settings.Settings.{Settings}
use Rattle.hay_url.specs.Url.{cookie_of}
use Rattle.hay_core.specs.declared.entry.CoreTag.{CoreTag}
use Rattle.hay_core.specs.declared.entry.Logged.{Logged}
use Rattle.hay_reply.specs.declared.Refused.{Refused}
use Rattle.hay_reply.specs.declared.Reply.{Reply}
use Rattle.hay_reply.specs.declared.Reply.TheVariants as reply
use Rattle.hay_legal.specs.declared.known.Known.{Known}
use Rattle.hay_legal.specs.Known.{volume_at, settled, slot_of, replica_on, refusal_of, taker_of, tries_of, with_home}
use Rattle.hay_legal.specs.Plain.{as_closed, frozen_with, put_entry, put_frozen, row_pending, wants_room}
use Rattle.hay_audit_steps.specs.BoxLaw.{PutsStepBoxes}
use Rattle.hay_audit_steps.specs.Boxes.{Box, IsBoxStep, fill}
use Rattle.hay_audit_steps.specs.Next.{is_at, is_dir_open, cookie_eq, keep_if, next_put, put_failed_by, refuse_so, rises_to, row_failed_by, stored, with_fault}
use Rattle.hay_audit_steps.specs.Rooms.{IsWhole, all_refused_at, failed_if, lowest, put_box, put_by, refuse_box, refused_boxes, taken_boxes, try_cuts}
use Rattle.hay_audit_steps.specs.Slacks.{Slack}
use Rattle.hay_audit_steps.proofs.Divide.{steps_of_parts}
use Rattle.hay_audit_steps.proofs.Fills.{freeze_with_fill}
use Rattle.hay_audit_steps.proofs.Lifting.{change_fill, kept_fill, lifted_to, log_fill, stored_fill}
use Rattle.hay_audit_steps.proofs.Puts.{put_row, put_step}
use Rattle.hay_audit_steps.proofs.Refusals.{AllRefuse, SameRefusals, all_refused_divide, refusals_there}
use Rattle.hay_audit_steps.proofs.Rooming.{AllSame, taker_there, try_cuts_divide}

-- BY THE TAKER

frozen_put_fill : (xss : List (List Slack)) (settings : Settings) (b : Known) (tag : CoreTag) (pair : Pair) (bytes : List ℕ) (v m : ℕ)
    → put_frozen settings (fill xss b) tag pair bytes v m true ≡ fill xss (put_frozen settings b tag pair bytes v m true)
frozen_put_fill xss settings b tag pair bytes v m =
    ap (λ (k : Known). with_home k pair v)
    (change_fill xss b v (frozen_with m tag (put_entry settings pair bytes) true) (λ xs volume. freeze_with_fill xs m tag (put_entry settings pair bytes) true volume))

failed_fill : (xss : List (List Slack)) (settings : Settings) (b : Known) (tag : CoreTag) (pair : Pair) (bytes : List ℕ) (v m f : ℕ) (taker on : Option ℕ)
    → failed_if settings (fill xss b) tag pair bytes v m f taker on ≡ map (fill xss) (failed_if settings b tag pair bytes v m f taker on)
failed_fill xss settings b tag pair bytes v m f taker None = refl
failed_fill xss settings b tag pair bytes v m f taker (Some j) =
    ap (λ (k : Known). keep_if (is_at taker v && (is_dir_open b pair && rises_to b (slot_of settings v j) f)) (with_fault k (slot_of settings v j) f))
    (frozen_put_fill xss settings b tag pair bytes v m)
    ∙ kept_fill xss (is_at taker v && (is_dir_open b pair && rises_to b (slot_of settings v j) f)) (with_fault (put_frozen settings b tag pair bytes v m true) (slot_of settings v j) f ∷ [])

row_failed_fill : (xss : List (List Slack)) (b : Known) (tag : CoreTag) (pair : Pair) (f : ℕ) (taker : Option ℕ)
    → row_failed_by (fill xss b) tag pair f taker ≡ map (fill xss) (row_failed_by b tag pair f taker)
row_failed_fill xss b tag pair f None = refl
row_failed_fill xss b tag pair f (Some v) = kept_fill xss _ (with_fault (row_pending b tag pair v) 0 f ∷ [])

put_by_fill : (xss : List (List Slack)) (settings : Settings) (b : Known) (tag : CoreTag) (pair : Pair) (bytes : List ℕ) (r : Reply) (taker : Option ℕ)
    → put_by settings (fill xss b) tag pair bytes r taker ≡ map (fill xss) (put_by settings b tag pair bytes r taker)
put_by_fill xss settings b tag pair bytes (reply.Stored v p d c) taker =
    ap (λ (log : List Logged). keep_if (is_at taker v && (is_dir_open b pair && (cookie_eq c (cookie_of settings.secret pair.key)
    && ((p == length log + 1) && (d == length (settled b.directory.rows pair v)))))) (stored (fill xss b) tag pair bytes v c)) (log_fill xss b v)
    ∙ ap (λ (k : Known). keep_if (is_at taker v && (is_dir_open b pair && (cookie_eq c (cookie_of settings.secret pair.key)
    && ((p == length (volume_at b v).log + 1) && (d == length (settled b.directory.rows pair v)))))) k) (stored_fill xss b tag pair bytes v c)
    ∙ kept_fill xss _ (stored b tag pair bytes v c ∷ [])
put_by_fill xss settings b tag pair bytes reply.ReadOnlyDir taker = kept_fill xss _ (b ∷ [])
put_by_fill xss settings b tag pair bytes (reply.Failed v m f) taker = failed_fill xss settings b tag pair bytes v m f taker (replica_on settings v m)
put_by_fill xss settings b tag pair bytes (reply.FailedDir f) taker = row_failed_fill xss b tag pair f taker
put_by_fill xss settings b tag pair bytes r taker = refl

-- a reply that tells of no refusals
abbrev IsTaken : Reply → Type 0
IsTaken (reply.Full refused) = ⊥
IsTaken (reply.ReadOnly by) = ⊥
IsTaken r = Unit {0}

failed_is : (settings : Settings) (b : Known) (tag : CoreTag) (pair : Pair) (bytes : List ℕ) (v m f : ℕ) (on : Option ℕ)
    → next_put settings b tag pair bytes (reply.Failed v m f) ≡ failed_if settings b tag pair bytes v m f (taker_of settings b pair (length bytes)) (replica_on settings v m)
failed_is settings b tag pair bytes v m f on = by_replica (replica_on settings v m)
  where
    by_replica : (o : Option ℕ) → put_failed_by settings b tag pair bytes v m f o ≡ failed_if settings b tag pair bytes v m f (taker_of settings b pair (length bytes)) o
    by_replica None = refl
    by_replica (Some j) = refl

put_is : (settings : Settings) (b : Known) (tag : CoreTag) (pair : Pair) (bytes : List ℕ) (r : Reply) → IsTaken r
    → next_put settings b tag pair bytes r ≡ put_by settings b tag pair bytes r (taker_of settings b pair (length bytes))
put_is settings b tag pair bytes (reply.Full refused) taken = absurd taken
put_is settings b tag pair bytes (reply.ReadOnly by) taken = absurd taken
put_is settings b tag pair bytes (reply.Failed v m f) taken = failed_is settings b tag pair bytes v m f (replica_on settings v m)
put_is settings b tag pair bytes r taken = refl

taken_step : (settings : Settings) (tag : CoreTag) (pair : Pair) (bytes : List ℕ) (r : Reply) (box : Box) → r ≢ reply.NoMem → IsTaken r → IsWhole box
    → AllSame settings (length bytes) (tries_of settings box.base pair) box → IsBoxStep (put_row settings tag pair bytes r) box (taken_boxes settings tag pair bytes r box)
taken_step settings tag pair bytes r box known taken is same =
    lifted_to (put_row settings tag pair bytes r) (λ k. next_put settings k tag pair bytes r) box (put_by settings box.base tag pair bytes r (taker_of settings (lowest box) pair (length bytes)))
    (λ k. put_step settings k tag pair bytes r known)
    (λ xss within.
    put_is settings (fill xss box.base) tag pair bytes r taken
    ∙ ap (λ (o : Option ℕ). put_by settings (fill xss box.base) tag pair bytes r o) (taker_there settings pair (length bytes) box xss is same (xss, within, refl))
    ∙ put_by_fill xss settings box.base tag pair bytes r (taker_of settings (lowest box) pair (length bytes)))

-- BY THE REFUSALS

refuse_step : (settings : Settings) (tag : CoreTag) (pair : Pair) (bytes : List ℕ) (r : Reply) (refused : List Refused) (rest : Bool) (box : Box) → r ≢ reply.NoMem
    → ((b : Known) → next_put settings b tag pair bytes r ≡ keep_if (refuse_so (map (refusal_of settings b (length bytes)) (tries_of settings b pair)) refused && rest) b)
    → IsWhole box → SameRefusals settings (length bytes) (tries_of settings box.base pair) box
    → IsBoxStep (put_row settings tag pair bytes r) box (refuse_box settings pair (length bytes) refused rest box)
refuse_step settings tag pair bytes r refused rest box known next_is is same =
    lifted_to (put_row settings tag pair bytes r) (λ k. next_put settings k tag pair bytes r) box
    (keep_if (refuse_so (map (refusal_of settings (lowest box) (length bytes)) (tries_of settings box.base pair)) refused && rest) box.base)
    (λ k. put_step settings k tag pair bytes r known)
    (λ xss within.
    next_is (fill xss box.base)
    ∙ ap (λ (refusals : List (Option Refused)). keep_if (refuse_so refusals refused && rest) (fill xss box.base))
    (refusals_there settings (length bytes) (tries_of settings box.base pair) box (fill xss box.base) is same (xss, within, refl))
    ∙ kept_fill xss (refuse_so (map (refusal_of settings (lowest box) (length bytes)) (tries_of settings box.base pair)) refused && rest) (box.base ∷ []))

refused_step : (settings : Settings) (tag : CoreTag) (pair : Pair) (bytes : List ℕ) (r : Reply) (refused : List Refused) (rest : Bool) (box : Box) → r ≢ reply.NoMem
    → ((b : Known) → next_put settings b tag pair bytes r ≡ keep_if (refuse_so (map (refusal_of settings b (length bytes)) (tries_of settings b pair)) refused && rest) b)
    → ((k : Known) (faults arms fuses : List ℕ) (t : Known) → put_row settings tag pair bytes r (record k { faults = faults; arms = arms; fuses = fuses }) t
    → AllRefuse settings (length bytes) (tries_of settings k pair) refused k)
    → IsWhole box → AllSame settings (length bytes) (tries_of settings box.base pair) box
    → IsBoxStep (put_row settings tag pair bytes r) box (refused_boxes settings pair (length bytes) refused rest box)
refused_step settings tag pair bytes r refused rest box known next_is so is same =
    steps_of_parts (put_row settings tag pair bytes r) box (AllRefuse settings (length bytes) (tries_of settings box.base pair) refused)
    (all_refused_at settings (length bytes) (tries_of settings box.base pair) refused box) (SameRefusals settings (length bytes) (tries_of settings box.base pair))
    (refuse_box settings pair (length bytes) refused rest)
    (all_refused_divide settings (length bytes) (tries_of settings box.base pair) refused box is same)
    (λ k faults arms fuses t has row. subst (λ (q : Known). AllRefuse settings (length bytes) (tries_of settings q pair) refused k) has.2 (so k faults arms fuses t row))
    (λ d part each. refuse_step settings tag pair bytes r refused rest d known next_is part.whole
    (subst (λ (b : Known). SameRefusals settings (length bytes) (tries_of settings b pair) d) (sym part.base) each))

and_true : (b : Bool) → b ≡ (b && true)
and_true true = refl
and_true false = refl

-- EVERY REPLY

put_box_step : (settings : Settings) (tag : CoreTag) (pair : Pair) (bytes : List ℕ) (r : Reply) (box : Box) → r ≢ reply.NoMem → IsWhole box
    → AllSame settings (length bytes) (tries_of settings box.base pair) box → IsBoxStep (put_row settings tag pair bytes r) box (put_box settings tag pair bytes r box)
put_box_step settings tag pair bytes (reply.Full refused) box known is same =
    refused_step settings tag pair bytes (reply.Full refused) refused (list_any wants_room refused) box known (λ b. refl) (λ k faults arms fuses t row. row.0) is same
put_box_step settings tag pair bytes (reply.ReadOnly by) box known is same =
    refused_step settings tag pair bytes (reply.ReadOnly by) (map as_closed by) true box known
    (λ b. ap (λ (test : Bool). keep_if test b) (and_true (refuse_so (map (refusal_of settings b (length bytes)) (tries_of settings b pair)) (map as_closed by))))
    (λ k faults arms fuses t row. row.0) is same
put_box_step settings tag pair bytes r box known is same = taken_step settings tag pair bytes r box known tt is same

pub puts_step_boxes : PutsStepBoxes
puts_step_boxes settings box line pair bytes r known is =
    steps_of_parts (put_row settings tag pair bytes r) box (λ k. Unit {0}) (try_cuts settings (length bytes) (tries_of settings box.base pair) box)
    (AllSame settings (length bytes) (tries_of settings box.base pair)) (put_box settings tag pair bytes r)
    (try_cuts_divide settings (length bytes) (tries_of settings box.base pair) box is) (λ k faults arms fuses t has row. tt)
    (λ d part each. put_box_step settings tag pair bytes r d known part.whole (subst (λ (b : Known). AllSame settings (length bytes) (tries_of settings b pair) d) (sym part.base) each))
  where
    tag : CoreTag
    tag = record { lane = 0; line = line }
