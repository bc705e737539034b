use Rattle.std.proofs.Common.{◌≡◌, ◌+◌, ◌-◌, ◌*◌, ◌/◌, ◌%◌, ap, ◌∙◌, arith}
use Rattle.std.proofs.lemmas.Nat.{div-mul-add, mod-mul-add}
use Rattle.hay_reply.specs.declared.Reply.{Reply}
use Rattle.hay_load.proofs.failing.failed_reply.Goals as goal

pub returns-clause-replica : goal.returns-clause-replica
returns-clause-replica c = λ v j low is.
    let width = c.args.settings.now.replicas in
    let place : c.args.slot - 1 ≡ v * width + j = omega (arith, is) in
    let volume : (c.args.slot - 1) / width ≡ v = ap (λ n. n / width) place ∙ div-mul-add v width j low in
    let replica : (c.args.slot - 1) % width ≡ j = ap (λ n. n % width) place ∙ mod-mul-add v width j low in
    let machine : (c.from.result + c.from-2.result) % c.from-3.result ≡ (v + j) % c.args.settings.now.machines = ap (λ n. (n + c.from-2.result) % c.from-3.result)
    (c.from.ensures ∙ volume) ∙ ap (λ n. (v + n) % c.from-3.result) (c.from-2.ensures ∙ replica) ∙ ap (λ n. (v + j) % n) c.from-3.ensures in
    ap (λ n. Reply.Failed n ((c.from.result + c.from-2.result) % c.from-3.result) c.args.faults) volume ∙ ap (λ n. Reply.Failed v n c.args.faults) machine
