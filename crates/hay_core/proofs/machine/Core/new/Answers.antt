use Rattle.std.proofs.Common.{List, [], sym, subst, None, false, true}
use Rattle.hay_core.specs.declared.entry.Logged.{Logged}
use Rattle.hay_core.specs.declared.machine.Reader.{Reader}
use Rattle.hay_core.specs.declared.machine.Side.{Side}
use Rattle.hay_core.specs.Goodness.{CoreGood}
use Rattle.hay_core.proofs.EventLaws.{new_good}
use Rattle.hay_core.proofs.machine.Core.new.Goals as goal

pub returns-clause-good : goal.returns-clause-good
returns-clause-good c =
    let sides = c.in_ok-new_sides.field-0 in
    let log = c.new.result in
    let P : List Side → Type 0 = λ sides. CoreGood (record { log = []; sides = sides; hold = None; readers = []; frozen = false; pending = None; up = true }) in
    let Q : List Logged → Type 0 = λ log. CoreGood (record { log = log; sides = sides; hold = None; readers = []; frozen = false; pending = None; up = true }) in
    let R : List Reader → Type 0 = λ readers. CoreGood (record { log = log; sides = sides; hold = None; readers = readers; frozen = false; pending = None; up = true }) in
    subst R (sym c.new-2.ensures) (subst Q (sym c.new.ensures) (subst P (sym c.in_ok-new_sides.ensures) (new_good c.args.replicas)))
