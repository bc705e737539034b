use Rattle.std.proofs.Common.{◌∙◌, ap, arith}
use Rattle.std.specs.Prelude.{map}
use Rattle.std.proofs.lemmas.List.{length-map}
use Rattle.hay_needle.specs.Needle.{needle_of_cell}
use Rattle.hay_volume.specs.Cells.{needles_of}
use Rattle.hay_compact.proofs.LiveNeedles.{all_among}
use Rattle.hay_compact.proofs.Meanwhile.{copies_table}
use Rattle.hay_compact.specs.Copying.{Stage, renewed_needle}
use Rattle.hay_compact.proofs.Copyings.{ready_is}
use Rattle.hay_compact.proofs.compactor.Compactor.ready.Goals as goal

pub returns-clause-all : goal.returns-clause-all
returns-clause-all c = λ sup files current fresh examined copying.
    ready_is sup files c.args.old.now c.args.self.now current fresh examined c.end.result c.self.inside.next copying c.end.ensures (ap (λ (s : Stage). s.next) c.self.view_is)

pub returns-clause-table : goal.returns-clause-table
returns-clause-table c = λ sup files current fresh examined copying holds copies.
    let all = (ready_is sup files c.args.old.now c.args.self.now current fresh examined c.end.result c.self.inside.next copying c.end.ensures (ap (λ (s : Stage). s.next) c.self.view_is)).0 holds in
    copies_table fresh current examined (omega arith) copies

pub returns-clause-live : goal.returns-clause-live
returns-clause-live c = λ sup files current fresh examined copying holds exact.
    let all = (ready_is sup files c.args.old.now c.args.self.now current fresh examined c.end.result c.self.inside.next copying c.end.ensures (ap (λ (s : Stage). s.next) c.self.view_is)).0 holds in
    exact ∙ ap (map renewed_needle) (all_among examined (needles_of current) (omega (arith, length-map current needle_of_cell)))
