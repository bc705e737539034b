use Rattle.std.proofs.Common.{◌≡◌, arith, length, ◌<◌, ◌^◌}
use Rattle.hay_needle.specs.Fields.{number_at}
use Rattle.hay_index.proofs.BlockLaws.{block_found, no_block, body_piece, block_long, block_count, if_some, if_none}
use Rattle.hay_index.proofs.block.read_block.Goals as goal
use Rattle.hay_index.proofs.block.read_block.Goals.{then-count-eq0-via-then-count-eq0, then-count-eq0-via-else-count-eq0+then-count-body}

pub returns-then-count-eq0-clause-none : goal.returns-then-count-eq0-clause-none
returns-then-count-eq0-clause-none c = λ records begins.
    let long = block_long c.args.bytes.now records begins in
    let fits : length c.args.bytes.now < 2 ^ 64 = omega arith in
    let count : number_at 8 8 c.args.bytes.now ≡ length records = block_count c.args.bytes.now records begins fits in
    elim c.then-count-eq0.branch [
      | then-count-eq0-via-then-count-eq0 w ↦ absurd (omega (arith, begins.is.some, w.if-count-eq0.true, c.u64_at-count.ensures, count))
      | then-count-eq0-via-else-count-eq0+then-count-body w ↦ absurd (omega (arith, long, w.if-count-body.true, c.u64_at-count.ensures, count))
    ]

pub returns-clause-found : goal.returns-clause-found
returns-clause-found c =
    if_some c.records_of.result _ _ _ _ c.records_of.ensures.found c.records_of.ensures.count c.records_of.ensures.fit
    (λ records are many fit. block_found c.args.bytes.now _ c.u64_at-count.result records.items (λ i. omega (arith, c.type_inv.bytes i)) c.if-bytes-lt-FRONT_LEN.false c.requires
    c.u64_at-count.ensures (omega (arith, c.if-count-eq0.false))
    (body_piece _ c.args.bytes.now) are many fit)

pub returns-clause-none : goal.returns-clause-none
returns-clause-none c =
    if_none c.records_of.result _ _ c.records_of.ensures.none (λ none. no_block c.args.bytes.now _ c.u64_at-count.result (omega arith) c.u64_at-count.ensures (body_piece _ c.args.bytes.now) none)
