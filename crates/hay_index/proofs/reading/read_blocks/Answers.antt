use Rattle.std.proofs.Common.{◌≡◌, sym, ap, ◌∙◌, refl, arith, subst, Err, ◌++◌, ◌+◌}
use Rattle.std.proofs.lemmas.Result.{err_from_is_err_and}
use Rattle.hay_index.specs.Records.{AreInRow, HasStray}
use Rattle.hay_index.proofs.ReadLaws.{no_blocks, broken_here, stray_there, block_there, one_more_block, block_within, found, none_found, same_fault, on_true}
use Rattle.hay_index.proofs.reading.read_blocks.Goals as goal

pub scan-init : goal.scan-init
scan-init c = record {
  lead = no_blocks c.args.bytes.now c.new-records.result.items c.new-records.ensures.items c.requires;
  in_row = subst (λ l. AreInRow 64 l) (sym c.new-records.ensures.items) tt;
  within = c.requires;
}

pub returns-in_default-clause-damaged : goal.returns-in_default-clause-damaged
returns-in_default-clause-damaged c = λ k is.
    let here : k ≡ c.scan.end = cc in
    broken_here _ c.args.bytes.now _ c.scan.records.items c.scan.end k c.scan.invariant.lead c.scan.invariant.in_row here
    (on_true c.in_ok-begins_block.field-0 _ c.if-not-branch.false c.in_ok-begins_block.ensures.magic)
    refl (none_found c.in_ok-block.field-0 _ c.in_default.is c.in_ok-block.ensures.none)

pub returns-in_err-append_block-clause-damaged : goal.returns-in_err-append_block-clause-damaged
returns-in_err-append_block-clause-damaged c = λ k is.
    let fault = err_from_is_err_and c.from_residual-in_err-append_block.result c.from_residual-in_err-append_block.ensures.1 in
    let begins = block_there c.scan.end c.args.bytes.now _ c.in-Some.block.items refl (found c.in_ok-block.field-0 c.in-Some.block _ c.in-Some.is c.in_ok-block.ensures.found) in
    let stray : HasStray c.scan.records.items c.as_slice.result.now (c.scan.end + 16) k =
    c.in_err-append_block.ensures.stray k (ap (λ x. Err x) (same_fault c.from_residual-in_err-append_block.result fault.0 c.in_err-append_block.field-0.0 k fault.1 fault.2 is)) in
    stray_there _ c.args.bytes.now c.scan.records.items c.in-Some.block.items c.scan.end k c.scan.invariant.lead c.scan.invariant.in_row begins
    (subst (λ l. HasStray c.scan.records.items l (c.scan.end + 16) k) c.as_slice.ensures.value stray)

pub scan-preserved : goal.scan-preserved
scan-preserved c =
    let begins = block_there c.scan.end c.args.bytes.now _ c.in-Some.block.items refl (found c.in_ok-block.field-0 c.in-Some.block _ c.in-Some.is c.in_ok-block.ensures.found) in
    record {
      lead =
          one_more_block _ c.args.bytes.now c.scan.records.items c.in-Some.block.items c.append_block.new.records.items c.scan.end _ c.scan.invariant.lead begins
          (c.in_ok-append_block.ensures.added ∙ ap (λ l. c.scan.records.items ++ l) c.as_slice.ensures.value) (omega (arith, c.len.ensures, c.in-Some.block.ok.0));
      in_row = c.in_ok-append_block.ensures.row;
      within = block_within c.scan.end _ c.args.bytes.now c.in-Some.block.items begins (omega (arith, c.len.ensures, c.in-Some.block.ok.0));
    }
