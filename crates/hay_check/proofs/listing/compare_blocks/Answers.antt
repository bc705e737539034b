use Rattle.std.proofs.Common.{◌≡◌, ◌+◌, ◌*◌, ◌∙◌, Err, ap, arith, inl, inr, length, map, refl, subst, sym, take}
use Rattle.std.proofs.lemmas.List.{length-map}
use Rattle.std.proofs.lemmas.Result.{err_from_is_err_and}
use Rattle.hay_index.specs.declared.fault.IndexFault.TheVariants.{Damaged}
use Rattle.hay_index.specs.Records.{BeginsWithBlock, HasRecords}
use Rattle.hay_index.proofs.ReadLaws.{all_behind, block_there, block_within, found, no_blocks, none_found, on_false, on_true, same_fault}
use Rattle.hay_open.specs.Listing.{head_record}
use Rattle.hay_check.proofs.Comparing.{block_fits, broken_there, fit_behind, misfit_behind}
use Rattle.hay_check.proofs.listing.compare_blocks.Goals as goal

pub scan-init : goal.scan-init
scan-init c = record { lead = no_blocks c.args.bytes.now (take 0 (map head_record c.args.heads.now)) refl c.requires; few = omega arith; within = c.requires }

pub begins_block-requires : goal.begins_block-requires
begins_block-requires c = c.scan.invariant.within

pub returns-in_err-begins_block-clause-damaged : goal.returns-in_err-begins_block-clause-damaged
returns-in_err-begins_block-clause-damaged c = λ k is.
    let fault = err_from_is_err_and c.from_residual.result c.from_residual.ensures.1 in
    let place : k ≡ c.scan.end = c.in_err-begins_block.ensures.place k (ap (λ x. Err x) (same_fault c.from_residual.result fault.0 c.in_err-begins_block.field-0.0 k fault.1 fault.2 is)) in
    let short =
    c.in_err-begins_block.ensures.short (ap (λ x. Err x) (same_fault c.from_residual.result fault.0 c.in_err-begins_block.field-0.0 c.scan.end fault.1 fault.2
    (is ∙ ap (λ n. Err (Damaged n)) place))) in
    broken_there _ c.args.bytes.now (map head_record c.args.heads.now) c.scan.count c.scan.end k c.scan.invariant.lead (inl (inl short, place))

pub returns-then-not-branch-clause-lists : goal.returns-then-not-branch-clause-lists
returns-then-not-branch-clause-lists c = record {
  end = c.scan.end;
  within = c.scan.invariant.few;
  has = c.scan.invariant.lead;
  closed = on_false c.in_ok-begins_block.field-0 _ c.if-not-branch.true c.in_ok-begins_block.ensures.mark;
}

pub returns-in_default-clause-damaged : goal.returns-in_default-clause-damaged
returns-in_default-clause-damaged c = λ k is.
    let place : k ≡ c.scan.end = cc in
    let magic = on_true c.in_ok-begins_block.field-0 _ c.if-not-branch.false c.in_ok-begins_block.ensures.magic in
    let none = none_found c.in_ok-block.field-0 _ c.in_default.is c.in_ok-block.ensures.none in
    broken_there _ c.args.bytes.now (map head_record c.args.heads.now) c.scan.count c.scan.end k c.scan.invariant.lead
    (inl (inr (magic, λ block begins. none block (subst (λ l. BeginsWithBlock l block) (sym (all_behind c.scan.end c.args.bytes.now)) begins)), place))

pub slice_bounds-rest-count : goal.slice_bounds-rest-count
slice_bounds-rest-count c = omega (arith, c.scan.invariant.few, length-map c.args.heads.now head_record)

pub returns-in_err-compare_block-clause-damaged : goal.returns-in_err-compare_block-clause-damaged
returns-in_err-compare_block-clause-damaged c = λ k is.
    let fault = err_from_is_err_and c.from_residual-in_err-compare_block.result c.from_residual-in_err-compare_block.ensures.1 in
    let begins = block_there c.scan.end c.args.bytes.now _ c.in-Some.block.items refl (found c.in_ok-block.field-0 c.in-Some.block _ c.in-Some.is c.in_ok-block.ensures.found) in
    let misfit = c.in_err-compare_block.ensures.misfit k (ap (λ x. Err x) (same_fault c.from_residual-in_err-compare_block.result fault.0 c.in_err-compare_block.field-0.0 k fault.1 fault.2 is)) in
    broken_there _ c.args.bytes.now (map head_record c.args.heads.now) c.scan.count c.scan.end k c.scan.invariant.lead
    (inr (record {
      block = c.in-Some.block.items;
      stands = begins;
      misfit = misfit_behind _ c.scan.count (c.scan.end + 16) k c.args.heads.now _ c.in-Some.block.items _ refl
          (omega arith) c.as_slice.ensures.value misfit;
    }))

pub scan-preserved : goal.scan-preserved
scan-preserved c =
    let begins = block_there c.scan.end c.args.bytes.now _ c.in-Some.block.items refl (found c.in_ok-block.field-0 c.in-Some.block _ c.in-Some.is c.in_ok-block.ensures.found) in
    let fit = c.in_ok-compare_block.ensures.fit in
    let are = fit_behind _ c.scan.count c.args.heads.now _ c.in-Some.block.items _ fit.0 refl (omega arith) c.as_slice.ensures.value fit.1 in
    let long : c.len.result ≡ length c.in-Some.block.items = omega (arith, c.len.ensures, c.in-Some.block.ok.0) in
    let same : c.scan.count + length c.in-Some.block.items ≡ c.scan.count + c.len.result = ap (λ n. c.scan.count + n) (sym long) in
    let further : c.scan.end + (16 + 32 * c.len-in-scan.result) ≡ c.scan.end + (16 + 32 * length c.in-Some.block.items) = omega (arith, c.len-in-scan.ensures, c.in-Some.block.ok.0) in
    let fits = block_fits _ c.args.bytes.now (map head_record c.args.heads.now) c.in-Some.block.items fit.0 c.scan.count c.scan.end _ c.scan.invariant.few c.scan.invariant.lead begins are further in
    record {
      lead = subst (λ n. HasRecords (take 64 c.args.bytes.now) c.args.bytes.now (take n (map head_record c.args.heads.now)) (c.scan.end + (16 + 32 * c.len-in-scan.result))) same fits.0;
      few = omega (arith, fits.1, long);
      within = block_within c.scan.end _ c.args.bytes.now c.in-Some.block.items begins further;
    }
