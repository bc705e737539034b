use Rattle.std.proofs.Common.{Some, None, [], ◌∷◌, refl}
use Rattle.std.proofs.lemmas.Result.{err_from_is_err_and}
use Rattle.hay_script.specs.declared.Line.TheVariants as line
use Rattle.hay_lines.specs.Said.{SaysNext}
use Rattle.hay_lines.specs.Lines.{TookPart, TookOver}
use Rattle.hay_lines.specs.Stream.{rest_of}
use Rattle.hay_run.proofs.Asking.{items_alone, items_either, open_block, open_line, some_more, some_line}
use Rattle.hay_run.proofs.Blocking.{block_lanes}
use Rattle.hay_run.proofs.turns.read_turn.Goals as goal

pub returns-in_err-said-clause-input : goal.returns-in_err-said-clause-input
returns-in_err-said-clause-input g c = λ is.
    open_line TookPart c.args.number (rest_of (g.S.Source.left c.args.source.now) c.args.script.now) (rest_of (g.S.Source.left c.next_said.new.source) c.next_said.new.script)
    (c.in_err-said.ensures.failed (let p = err_from_is_err_and c.from_residual.result c.from_residual.ensures.1 in cc (p.1, p.2)))

pub returns-in_err-said-clause-over : goal.returns-in_err-said-clause-over
returns-in_err-said-clause-over g c = λ is.
    open_line TookOver c.args.number (rest_of (g.S.Source.left c.args.source.now) c.args.script.now) (rest_of (g.S.Source.left c.next_said.new.source) c.next_said.new.script)
    (c.in_err-said.ensures.over (let p = err_from_is_err_and c.from_residual.result c.from_residual.ensures.1 in cc (p.1, p.2)))

-- a block

pub read_block-requires-clause-some : goal.read_block-requires-clause-some
read_block-requires-clause-some g c =
    let left = g.S.Source.left in
    let says : SaysNext None (Some (line.Lanes c.in-Lanes.lanes)) (rest_of (left c.args.source.now) c.args.script.now)
    (rest_of (left c.next_said.new.source) c.next_said.new.script) c.next_said.new.script.ended = rw c.in-Lanes.is at (rw c.in-Some.is at c.in_ok-said.ensures.said) in
    (block_lanes says.0 c.in-Lanes.lanes says.2).0

pub read_block-requires-clause-most : goal.read_block-requires-clause-most
read_block-requires-clause-most g c =
    let left = g.S.Source.left in
    let says : SaysNext None (Some (line.Lanes c.in-Lanes.lanes)) (rest_of (left c.args.source.now) c.args.script.now)
    (rest_of (left c.next_said.new.source) c.next_said.new.script) c.next_said.new.script.ended = rw c.in-Lanes.is at (rw c.in-Some.is at c.in_ok-said.ensures.said) in
    (block_lanes says.0 c.in-Lanes.lanes says.2).1

pub returns-in_err-block-clause-input : goal.returns-in_err-block-clause-input
returns-in_err-block-clause-input g c = λ is.
    let left = g.S.Source.left in
    let before = rest_of (left c.args.source.now) c.args.script.now in
    let mid = rest_of (left c.next_said.new.source) c.next_said.new.script in
    let says : SaysNext None (Some (line.Lanes c.in-Lanes.lanes)) before mid c.next_said.new.script.ended = rw c.in-Lanes.is at (rw c.in-Some.is at c.in_ok-said.ensures.said) in
    open_block TookPart c.args.number c.in-Lanes.lanes before mid (rest_of (left c.read_block.new.source) c.read_block.new.script) c.next_said.new.script.ended says c.in_err-block.ensures.«open»
    (c.in_err-block.ensures.input (let p = err_from_is_err_and c.from_residual-in_err-block.result c.from_residual-in_err-block.ensures.1 in cc (p.1, p.2)))

pub returns-in_err-block-clause-over : goal.returns-in_err-block-clause-over
returns-in_err-block-clause-over g c = λ is.
    let left = g.S.Source.left in
    let before = rest_of (left c.args.source.now) c.args.script.now in
    let mid = rest_of (left c.next_said.new.source) c.next_said.new.script in
    let says : SaysNext None (Some (line.Lanes c.in-Lanes.lanes)) before mid c.next_said.new.script.ended = rw c.in-Lanes.is at (rw c.in-Some.is at c.in_ok-said.ensures.said) in
    open_block TookOver c.args.number c.in-Lanes.lanes before mid (rest_of (left c.read_block.new.source) c.read_block.new.script) c.next_said.new.script.ended says c.in_err-block.ensures.«open»
    (c.in_err-block.ensures.over (let p = err_from_is_err_and c.from_residual-in_err-block.result c.from_residual-in_err-block.ensures.1 in cc (p.1, p.2)))

pub returns-in_err-block-clause-memory : goal.returns-in_err-block-clause-memory
returns-in_err-block-clause-memory g c = λ is.
    let left = g.S.Source.left in
    let before = rest_of (left c.args.source.now) c.args.script.now in
    let mid = rest_of (left c.next_said.new.source) c.next_said.new.script in
    let says : SaysNext None (Some (line.Lanes c.in-Lanes.lanes)) before mid c.next_said.new.script.ended = rw c.in-Lanes.is at (rw c.in-Some.is at c.in_ok-said.ensures.said) in
    some_more before mid (rest_of (left c.read_block.new.source) c.read_block.new.script) (some_line before mid says.0 c.next_said.new.script.ended says.1)
    (c.in_err-block.ensures.memory (let p = err_from_is_err_and c.from_residual-in_err-block.result c.from_residual-in_err-block.ensures.1 in cc (p.1, p.2)))

pub returns-in-Lanes-clause-took : goal.returns-in-Lanes-clause-took
returns-in-Lanes-clause-took g c =
    let left = g.S.Source.left in
    let before = rest_of (left c.args.source.now) c.args.script.now in
    let mid = rest_of (left c.next_said.new.source) c.next_said.new.script in
    let after = rest_of (left c.read_block.new.source) c.read_block.new.script in
    let says : SaysNext None (Some (line.Lanes c.in-Lanes.lanes)) before mid c.next_said.new.script.ended = rw c.in-Lanes.is at (rw c.in-Some.is at c.in_ok-said.ensures.said) in
    items_either c.args.number c.in-Lanes.lanes c.in_ok-block.next c.in_ok-block.block.lines before mid after c.next_said.new.script.ended c.read_block.new.script.ended says
    c.in_ok-block.ensures.read (λ over. let e = c.in_ok-block.ensures.empty over in (e.0, e.1, rw (e.2, e.3) refl, rw e.3 refl))

-- a line alone

pub returns-clause-took : goal.returns-clause-took
returns-clause-took g c =
    let left = g.S.Source.left in
    items_alone c.args.number c.in-Some.said (rest_of (left c.args.source.now) c.args.script.now) (rest_of (left c.next_said.new.source) c.next_said.new.script) c.next_said.new.script.ended
    (rw c.in-Some.is at c.in_ok-said.ensures.said) (λ lanes is_lanes. c.in_default-said.not-Lanes lanes is_lanes)

pub returns-clause-fits : goal.returns-clause-fits
returns-clause-fits g c = rw c.in-Some.is at c.in_ok-said.ensures.within
