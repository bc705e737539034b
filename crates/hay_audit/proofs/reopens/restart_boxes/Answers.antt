use Rattle.std.proofs.Common.{◌≡◌, ℕ, ◌-◌, List, ◌++◌, length, take, drop, rules, Option, Some, option_map, sym, ap, subst, ◌∙◌, arith}
use Rattle.std.specs.Prelude.{IfSome}
use Rattle.hay_reply.specs.declared.Note.{Note}
use Rattle.hay_legal.specs.declared.known.DirKnown.{DirKnown}
use Rattle.hay_legal.specs.declared.known.HomeRow.{HomeRow}
use Rattle.hay_legal.specs.declared.known.Known.{Known}
use Rattle.hay_legal.specs.declared.known.PendingRow.{PendingRow}
use Rattle.hay_audit_steps.specs.BoxReopen.{reopened_stores}
use Rattle.hay_audit_steps.specs.Boxes.{Box}
use Rattle.hay_audit_steps.specs.Reopen.{new_rows}
use Rattle.hay_audit.specs.Choosing.{frame_of}
use Rattle.hay_audit.specs.Restarting.{row_list}
use Rattle.hay_audit.specs.contracts.state.State.{the_view as state_view}
use Rattle.hay_audit.specs.declared.boxes.BoxState.TheInside.{Inside}
use Rattle.hay_audit.specs.declared.reopens.Stores.{Stores}
use Rattle.hay_audit.proofs.Choosing.{boxes_made}
use Rattle.hay_audit.proofs.Lists.{all_behind}
use Rattle.hay_audit.proofs.reopens.restart_boxes.Goals as goal

many : (c : goal.After-drop-state-inside-3) → c.args.rows ≡ length (c.args.state.base.directory.rows ++ row_list c.in-Some-new_row.row)
many c = search rules

framed : (c : goal.After-drop-state-inside-3) → c.in_ok-frame.frame ≡ frame_of c.args.state.base (row_list c.in-Some-new_row.row)
framed c = search rules

pub returns : goal.returns
returns c =
    let base_is = ap (λ (i : Inside). i.base) c.state-inside.view_is ∙ ap (λ (b : Box). b.base) c.state.view_is in
    let pending_is = ap (λ x. (state_view x.0.0).directory.pending) c.state-inside-inside.view_is ∙ ap (λ (k : Known). k.directory.pending) base_is in
    boxes_made c.args.state.base c.in_ok-frame.frame c.args.rows (c.in-Some.all).stores (row_list c.in-Some-new_row.row) (drop (c.in-Some.all).used c.args.notes.now)
    (reopened_stores c.args.settings.now 0 c.args.state.base.volumes c.args.state.low c.args.state.high c.args.notes.now) c.in_ok-made.made
    (subst (λ (o : Option Stores). IfSome o (λ all. reopened_stores c.args.settings.now 0 c.args.state.base.volumes c.args.state.low c.args.state.high c.args.notes.now
    ≡ Some (record { value = all.stores; rest = drop all.used c.args.notes.now }))) c.in-Some.is c.in-Ok.ensures.some)
    (sym (ap (λ (o : Option (Option HomeRow)). option_map row_list o) c.in-Some-new_row.is) ∙ c.new_row.ensures
    ∙ ap (λ (p : Option PendingRow). new_rows p (take (length c.args.notes.now - (c.in-Some.all).used) (drop (c.in-Some.all).used c.args.notes.now))) pending_is
    ∙ ap (λ (ns : List Note). new_rows c.args.state.base.directory.pending ns) (all_behind c.args.notes.now (c.in-Some.all).used))
    (many c)
    (framed c)
    c.in_ok-made.ensures
