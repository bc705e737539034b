use Rattle.std.proofs.Common.{◌≡◌, ◌≤◌, ◌∙◌, ◌+◌, List, refl, ap, sym, subst, arith, length, take, BTreeSet, btree_set_len}
use Rattle.std.proofs.lemmas.List.{take_all, length-map}
use Rattle.hay_needle.specs.declared.needle.Cell.{Cell}
use Rattle.hay_needle.specs.declared.needle.CellHead.{CellHead}
use Rattle.hay_needle.specs.declared.needle.Pair.{Pair}
use Rattle.hay_needle.specs.Tables.{table_of}
use Rattle.hay_volume.specs.Cells.{cell_head, needles_of}
use Rattle.hay_check.proofs.Counting.{KeepsFirst, no_pairs, one_added, one_most, one_removed}
use Rattle.hay_check.proofs.counts.live_count.Goals as goal
use Rattle.hay_check.proofs.counts.live_count.Goals.{then-head, else-head+in_ok-insert}

pub loop-head-init : goal.loop-head-init
loop-head-init c = record {
  keeps = no_pairs c.new-live.result c.args.heads.now c.new-live.ensures.empty;
  few = (let none = ap (λ (keys : List Pair). length keys) c.new-live.ensures.empty in omega (arith, none));
}

pub loop-head-preserved : goal.loop-head-preserved
loop-head-preserved c = record {
  keeps = elim c.if-head.branch [
    | then-head w ↦
        subst (λ (pairs : BTreeSet Pair). KeepsFirst pairs c.args.heads.now (c.loop-head.head-index + 1)) (sym w.live-is)
        (one_removed c.loop-head.live w.remove.new.self c.args.heads.now c.loop-head.head-index _ _ w.remove.result c.loop-head.invariant.keeps c.loop-head-test.true w.if-head.true refl
        w.remove.ensures.updates w.remove.ensures.test w.remove.ensures.len)
    | else-head+in_ok-insert w ↦
        subst (λ (pairs : BTreeSet Pair). KeepsFirst pairs c.args.heads.now (c.loop-head.head-index + 1)) (sym w.live-is)
        (one_added c.loop-head.live w.insert.new.self c.args.heads.now c.loop-head.head-index _ _ w.in_ok-insert.field-0 c.loop-head.invariant.keeps c.loop-head-test.true w.if-head.false refl
        w.in_ok-insert.ensures.updates w.in_ok-insert.ensures.added w.in_ok-insert.ensures.len)
  ];
  few = elim c.if-head.branch [
    | then-head w ↦
        subst (λ (pairs : BTreeSet Pair). btree_set_len pairs ≤ c.loop-head.head-index + 1) (sym w.live-is)
        (let len = w.remove.ensures.len in let few = c.loop-head.invariant.few in omega (arith, len, few))
    | else-head+in_ok-insert w ↦
        subst (λ (pairs : BTreeSet Pair). btree_set_len pairs ≤ c.loop-head.head-index + 1) (sym w.live-is)
        (let len = w.in_ok-insert.ensures.len in let one = one_most w.in_ok-insert.field-0 in let few = c.loop-head.invariant.few in omega (arith, len, one, few))
  ];
}

pub returns-clause-is : goal.returns-clause-is
returns-clause-is c = λ cells are.
    let all : take c.loop-head.head-index cells ≡ cells =
    take_all c.loop-head.head-index cells (omega (arith, c.loop-head-test.false, ap (λ (l : List CellHead). length l) are, length-map cells cell_head)) in
    c.len.ensures.len ∙ (c.loop-head.invariant.keeps cells are).long ∙ ap (λ (l : List Cell). length (table_of (needles_of l))) all

pub returns-clause-most : goal.returns-clause-most
returns-clause-most c = let len = c.len.ensures.len in let few = c.loop-head.invariant.few in omega (arith, len, few)
