use Rattle.std.proofs.Common.{ℕ, false, replicate, ap, ◌∙◌}
use Rattle.hay_audit.specs.Restarting.{row_list}
use Rattle.hay_audit.proofs.Reopened.{frame_is}
use Rattle.hay_audit.proofs.reopens.frame_of.Goals as goal

pub returns : goal.returns
returns c =
    frame_is c.args.state c.state.inside.volumes c.new.result c.state.inside.directory c.state.inside.drained c.in_ok-undrained.field-0 c.state.inside.faults c.state.inside.arms c.state.inside.fuses
    c.directory.inside.rows c.in_ok-with_row.field-0 (row_list c.args.row) c.directory.inside.frozen c.directory.inside.pending c.state.view_is c.directory.view_is c.new.ensures
    c.in_ok-with_row.ensures
    (c.in_ok-undrained.ensures ∙ ap (λ (n : ℕ). replicate n false) c.len.ensures)
