use Rattle.std.proofs.Common.{ℕ, ◌+◌, List, drop, drop_of_length-le, flat_map, get_or, sym, ap, ◌∙◌, arith}
use Rattle.std.proofs.lemmas.List.{drop_more}
use Rattle.hay_audit_steps.specs.Rooms.{try_cuts}
use Rattle.hay_audit.proofs.Cutting.{tries_more, tries_none}
use Rattle.hay_audit.proofs.cuts.try_cuts.Goals as goal

pub loop-volume-preserved : goal.loop-volume-preserved
loop-volume-preserved c =
    tries_more c.args.settings.now c.args.size (get_or c.args.tries.now c.loop-volume.volume-index 0) (drop (c.loop-volume.volume-index + 1) c.args.tries.now) c.loop-volume.states
    c.in_ok-states-2.states c.in_ok-states-2.ensures
    ∙ ap (λ (vs : List ℕ). flat_map (try_cuts c.args.settings.now c.args.size vs) c.loop-volume.states) (sym (drop_more c.args.tries.now c.loop-volume.volume-index 0 c.loop-volume-test.true))
    ∙ c.loop-volume.invariant

pub returns : goal.returns
returns c =
    sym (tries_none c.args.settings.now c.args.size c.loop-volume.states)
    ∙ ap (λ (vs : List ℕ). flat_map (try_cuts c.args.settings.now c.args.size vs) c.loop-volume.states) (sym (drop_of_length-le c.args.tries.now (omega (arith, c.loop-volume-test.false))))
    ∙ c.loop-volume.invariant
