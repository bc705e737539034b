use Rattle.std.proofs.Common.{◌≡◌, ℕ, sym, ap, ◌∙◌, arith}
use Rattle.hay_audit.proofs.Cutting.{cuts_from, cuts_more, cuts_none}
use Rattle.hay_audit.proofs.cuts.volume_cuts.Goals as goal

pub loop-j-preserved : goal.loop-j-preserved
loop-j-preserved c =
    cuts_more c.args.settings.now c.args.size c.args.volume c.loop-j.j c.replica_count-count.result c.loop-j.states c.in_ok-states-2.states c.loop-j-test.true
    c.in_ok-states-2.ensures ∙ c.loop-j.invariant

pub returns : goal.returns
returns c =
    let all : c.loop-j.j ≡ c.replica_count-count.result = omega (arith, c.loop-j-test.false, c.loop-j.auto.j-end) in
    sym (cuts_none c.args.settings.now c.args.size c.args.volume c.loop-j.j c.loop-j.states)
    ∙ ap (λ (n : ℕ). cuts_from c.args.settings.now c.args.size c.args.volume c.loop-j.j n c.loop-j.states) all
    ∙ c.loop-j.invariant
