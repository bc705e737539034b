use Rattle.std.proofs.Common.{◌≡◌, ◌<◌, ◌≤◌, ◌^◌, ◌++◌, Bool, List, [], drop, length, sym, ap, subst, ◌∙◌, arith}
use Rattle.std.specs.List.{AllByRecursion}
use Rattle.std.proofs.lemmas.List.{append-nil, drop_all}
use Rattle.hay_reply.specs.declared.Note.{Note}
use Rattle.hay_reply.specs.Fits.{FitsNote}
use Rattle.hay_legal.specs.Restarts.{replica_notes}
use Rattle.hay_logical.proofs.Telling.{notes_fit}
use Rattle.hay_logical.proofs.notes.notes_from.Goals as goal

pub returns-clause-fits : goal.returns-clause-fits
returns-clause-fits c =
    let items = c.loop-j.notes.items in
    let ended : length c.args.kept.now ≤ c.loop-j.j = omega arith in
    let rest : drop c.loop-j.j c.args.kept.now ≡ [] = drop_all c.loop-j.j c.args.kept.now ended in
    let are : items ≡ replica_notes c.args.settings.now c.args.number c.args.line 0 c.args.kept.now =
    sym (append-nil items) ∙ ap (λ (l : List Bool). items ++ replica_notes c.args.settings.now c.args.number c.args.line c.loop-j.j l) (sym rest) ∙ c.loop-j.invariant in
    let within = c.requires.of.within in
    let few = c.requires.of.volumes in
    let low : c.args.number < 64 = omega (arith, within, few) in
    let large : c.args.line < 2 ^ 64 = omega arith in
    subst (λ (l : List Note). AllByRecursion FitsNote l) (sym (c.from_vec.ensures ∙ are))
    (notes_fit c.args.settings.now c.args.number c.args.line 0 c.args.kept.now low (omega (arith, c.requires.most)) large)
