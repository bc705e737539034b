use Rattle.std.proofs.Common.{◌≡◌, ◌≢◌, ℕ, ◌+◌, ◌≤◌, List, ◌++◌, length, drop, Option, refl, sym, ap, subst, ◌∙◌, flat_map, inl, inr}
use Rattle.std.specs.Prelude.{IfNone, IfSome, map}
use Rattle.std.specs.List.{AllByRecursion as Each}
use Rattle.hay_reply.specs.declared.Note.{Note}
use Rattle.hay_reply.specs.Fits.{FitsNote}
use Rattle.hay_reply.specs.Replies.{note_line}
use Rattle.hay_reply.specs.declared.Reply.TheVariants.{Restarted}
use Rattle.hay_audit_steps.specs.BoxReopen.{restart_boxes}
use Rattle.hay_audit_steps.specs.Boxes.{Box}
use Rattle.hay_audit_steps.specs.Reached.{note_count}
use Rattle.hay_audit.specs.declared.notes.Notes.{Notes}
use Rattle.hay_audit.specs.Candidates.{placed}
use Rattle.hay_audit.proofs.judge.tell_restart.Goals as goal

-- so many notes were read
abbrev AreTold : ℕ → List ℕ → Notes → Type 0
AreTold count text told = (told.behind ≤ length text) × (length told.notes ≡ count) × Each FitsNote told.notes × (flat_map note_line told.notes ++ drop told.behind text ≡ text)

pub returns-in_default-read : goal.returns-in_default-read
returns-in_default-read c =
    let none =
    subst (λ (o : Option Notes). IfNone o ((notes : List Note) (rest : List ℕ) → length notes ≡ c.note_count-count.result → Each FitsNote notes
    → flat_map note_line notes ++ rest ≢ c.args.text.now)) c.in_default-read.is c.in-Ok.ensures.none in
    inr (record { none = λ notes rest many fits. none notes rest (many ∙ sym (c.note_count-count.ensures ∙ ap (λ (b : Box). note_count b.base) c.state.view_is)) fits; same = refl })

pub returns : goal.returns
returns c =
    let told : AreTold c.note_count-count.result c.args.text.now c.in-Some.told =
    subst (λ (o : Option Notes). IfSome o (AreTold c.note_count-count.result c.args.text.now)) c.in-Some.is c.in-Ok.ensures.some in
    let boxes : c.in_ok-states.states ≡ restart_boxes c.args.settings.now c.args.state (Restarted c.args.rows) (c.in-Some.told).notes =
    c.in_ok-states.ensures ∙ ap (λ (notes : List Note). restart_boxes c.args.settings.now c.args.state (Restarted c.args.rows) notes) c.as_slice.ensures in
    let pushed : c.push_all.new.out ≡ c.args.out.now ++ map (placed (c.args.at + (c.in-Some.told).behind)) c.in_ok-states.states = c.in_ok-push_all.ensures in
    inl (record {
      notes = (c.in-Some.told).notes;
      behind = (c.in-Some.told).behind;
      within = told.0;
      many = told.1 ∙ c.note_count-count.ensures ∙ ap (λ (b : Box). note_count b.base) c.state.view_is;
      fits = told.2;
      parts = told.3;
      added = pushed ∙ ap (λ (bs : List Box). c.args.out.now ++ map (placed (c.args.at + (c.in-Some.told).behind)) bs) boxes;
    })
