use Rattle.std.proofs.Common.{◌≡◌, ◌∙◌, ◌+◌, ℕ, List, drop, Some, true, Err, ap, arith, inl, inr, refl, sym, subst}
use Rattle.std.proofs.lemmas.Result.{err_from_is_err_and}
use Rattle.hay_needle.specs.Needle.{BeginsWithNeedle}
use Rattle.hay_volume.proofs.ReadLaws.{same_fault}
use Rattle.hay_volume.specs.Needles.{HasNeedleOf}
use Rattle.hay_compact.specs.Copying.{IsLatest, MovesOn, Stage}
use Rattle.hay_compact.proofs.Copyings.{needle_cell, needle_head, needle_stands, next_stands}
use Rattle.hay_compact.proofs.Copied.{copy_skips, copying_read, is_next, making_read, not_next, same_error}
use Rattle.hay_volume.specs.declared.fault.CellFault.{CellFault}
use Rattle.hay_compact.proofs.compactor.Compactor.copy.Goals as goal
use Rattle.hay_compact.proofs.compactor.Compactor.copy.Goals.{then-cell-via-then-cell, then-cell-via-else-cell+then-ne}

pub returns-then-cell-clause-examined : goal.returns-then-cell-clause-examined
returns-then-cell-clause-examined g c = λ tells sup current fresh examined cell copying is copy latest.
    let new : Stage = record {
      generation = c.self.inside.generation;
      capacity = c.self.inside.capacity;
      volume = c.self.inside.volume;
      index = c.self.inside.index;
      standing = c.self.inside.standing;
      next = c.self.inside.next + c.total_of.result;
      bytes = c.self.inside.bytes.items;
    } in
    copy_skips sup (g.D.Disk.files c.args.disk.now) c.args.old.now c.args.self.now new current fresh examined c.args.self.now.volume.end c.total_of.result cell c.args.cell
    c.args.latest copying is copy latest
    (elim c.then-cell.branch [
      | then-cell-via-then-cell w ↦ inl w.if-cell.true
      | then-cell-via-else-cell+then-ne w ↦ inr (not_next c.args.latest c.self.inside.next c.args.self.now.next w.if-ne.ensures (ap (λ (s : Stage). s.next) c.self.view_is))
    ])
    c.total_of.ensures (ap (λ (s : Stage). record s { next = s.next + c.total_of.result }) c.self.view_is)

-- the cell is neither deleted nor passed by another
pub append-requires-clause-making : goal.append-requires-clause-making
append-requires-clause-making g c = λ tells.
    making_read (g.D.Disk.files c.args.disk.now) (g.D.Disk.files c.read.new.disk) c.args.self.now c.read.new.self (c.requires.making tells) (c.read.ensures.same tells) c.read.ensures.stands

pub returns-in_err-read-clause-whole : goal.returns-in_err-read-clause-whole
returns-in_err-read-clause-whole g c = λ tells sup current fresh examined k cell copying is head wrong.
    let fault = err_from_is_err_and c.from_residual.result c.from_residual.ensures.1 in
    let stands = next_stands sup (g.D.Disk.files c.args.disk.now) c.args.old.now c.args.self.now current fresh examined cell copying is in
    c.in_err-read.ensures.whole tells k cell stands.0 head.head_is (ap (λ x. Err x) (same_fault c.from_residual.result fault.0 c.in_err-read.field-0.0 k k fault.1 fault.2 wrong refl))

pub returns-in_err-read-clause-stands : goal.returns-in_err-read-clause-stands
returns-in_err-read-clause-stands g c = λ tells memory sup current fresh examined copying.
    copying_read sup (g.D.Disk.files c.args.disk.now) (g.D.Disk.files c.read.new.disk) c.args.old.now c.args.self.now c.read.new.self current fresh examined copying
    (c.read.ensures.same tells) c.read.ensures.stands

pub returns-in_err-read-clause-made : goal.returns-in_err-read-clause-made
returns-in_err-read-clause-made g c = λ tells memory.
    making_read (g.D.Disk.files c.args.disk.now) (g.D.Disk.files c.read.new.disk) c.args.self.now c.read.new.self (c.requires.making tells) (c.read.ensures.same tells) c.read.ensures.stands

pub returns-in_err-append-clause-stands : goal.returns-in_err-append-clause-stands
returns-in_err-append-clause-stands g c = λ tells memory sup current fresh examined copying.
    let old = g.D.Disk.files c.args.disk.now in
    let read = copying_read sup old (g.D.Disk.files c.read.new.disk) c.args.old.now c.args.self.now c.read.new.self current fresh examined copying (c.read.ensures.same tells) c.read.ensures.stands in
    let fault = err_from_is_err_and c.from_residual-in_err-append.result c.from_residual-in_err-append.ensures.1 in
    c.in_err-append.ensures.stands tells (ap (λ x. Err x) (same_error c.from_residual-in_err-append.result fault.0 c.in_err-append.field-0.0 CellFault.NoMemory fault.1 fault.2
    memory)) sup c.args.old.now current fresh examined read

pub returns-clause-examined : goal.returns-clause-examined
returns-clause-examined g c = λ tells sup current fresh examined cell copying is head latest.
    let old = g.D.Disk.files c.args.disk.now in
    let next = is_next c.args.latest c.self.inside.next c.ne.result c.ne.ensures c.if-ne.false in
    let read = copying_read sup old (g.D.Disk.files c.read.new.disk) c.args.old.now c.args.self.now c.read.new.self current fresh examined copying (c.read.ensures.same tells) c.read.ensures.stands in
    let stands = next_stands sup old c.args.old.now c.args.self.now current fresh examined cell copying is in
    let same : c.read.new.self.next ≡ c.self.inside.next = ap (λ (s : Stage). s.next) c.read.ensures.stands ∙ sym (ap (λ (s : Stage). s.next) c.self.view_is) in
    let last = subst (λ o. IsLatest current cell.pair o) (next ∙ ap (λ k. Some k) (sym same)) latest in
    subst (λ k. MovesOn sup (g.D.Disk.files c.append.new.disk) c.args.old.now c.append.new.self current fresh examined cell k true) (ap (λ (s : Stage). s.volume.end) c.read.ensures.stands)
    (c.in_ok-append.ensures.examined tells sup c.args.old.now current fresh examined cell read is (c.in_ok-read.ensures.copy tells cell stands.0) last)

pub returns-in_err-read-clause-place : goal.returns-in_err-read-clause-place
returns-in_err-read-clause-place g c = λ k wrong.
    let fault = err_from_is_err_and c.from_residual.result c.from_residual.ensures.1 in
    let at = c.in_err-read.ensures.place k (ap (λ x. Err x) (same_fault c.from_residual.result fault.0 c.in_err-read.field-0.0 k k fault.1 fault.2 wrong refl)) in
    let next = ap (λ (s : Stage). s.next) c.self.view_is in
    let within = c.requires.peeked.within in
    (at, omega (arith, at, next, c.self.invariant.from, c.self.invariant.behind), omega (arith, at, within))

pub returns-in_err-read-clause-lacks : goal.returns-in_err-read-clause-lacks
returns-in_err-read-clause-lacks g c = λ tells head k wrong n begins within.
    let fault = err_from_is_err_and c.from_residual.result c.from_residual.ensures.1 in
    let was = ap (λ x. Err x) (same_fault c.from_residual.result fault.0 c.in_err-read.field-0.0 k k fault.1 fault.2 wrong refl) in
    let at = c.in_err-read.ensures.place k was in
    let file : List ℕ = (g.D.Disk.files c.args.disk.now c.args.old.now.file).now in
    let here : BeginsWithNeedle (drop c.args.self.now.next file) n = subst (λ j. BeginsWithNeedle (drop j file) n) at begins in
    c.in_err-read.ensures.whole tells k (needle_cell c.args.self.now.next n) (needle_stands c.args.self.now.next file n here) (needle_head c.args.self.now.next file c.args.cell n head here) was

pub returns-then-cell-clause-met : goal.returns-then-cell-clause-met
returns-then-cell-clause-met g c = λ tells. elim c.then-cell.branch [
  | then-cell-via-then-cell w ↦ inl w.if-cell.true
  | then-cell-via-else-cell+then-ne w ↦ inr (inl (not_next c.args.latest c.self.inside.next c.args.self.now.next w.if-ne.ensures (ap (λ (s : Stage). s.next) c.self.view_is)))
]

pub returns-clause-met : goal.returns-clause-met
returns-clause-met g c = λ tells.
    let file : List ℕ = (g.D.Disk.files c.args.disk.now c.args.old.now.file).now in
    inr (inr (subst (λ deleted. HasNeedleOf c.args.cell.size deleted c.args.self.now.next file) c.if-cell.false (c.in_ok-read.ensures.there tells)))
