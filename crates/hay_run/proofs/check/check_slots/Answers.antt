use Rattle.std.proofs.Common.{◌≡◌, ◌+◌, ◌||◌, ℕ, Bool, List, [], ◌∷◌, ◌++◌, length, Result, Err, refl, sym, ap, subst, ◌∙◌, arith}
use Rattle.std.proofs.lemmas.List.{length-append}
use Rattle.std.proofs.lemmas.Result.{err_from_is_err_and}
use Rattle.hay_disk.specs.Shelf.{HeldDisk}
use Rattle.hay_disk.specs.Streams.{Wrote, WrotePart}
use Rattle.hay_mount.proofs.Orders.{InOrder-snoc}
use Rattle.hay_check.specs.declared.verdict.Verdict.{Verdict}
use Rattle.hay_run.specs.declared.stops.Stop.{Stop}
use Rattle.hay_run.specs.declared.stops.Stop.TheVariants as stop
use Rattle.hay_legal.specs.Stands.{Outside}
use Rattle.hay_cluster.specs.Outside.{outside_of, read_of}
use Rattle.hay_run.specs.Checking.{IsVerdictIn, IsVerdictOn, check_text, verdict_line}
use Rattle.hay_run.proofs.Checking.{breaks, damage-snoc, ends_cut, ends_refused, part_more, same_stop, text-first, text-snoc, unchanged_all}
use Rattle.hay_run.proofs.Turning.{appends_more, wrote_more}
use Rattle.hay_run.proofs.check.check_slots.Goals as goal

-- the header was not written whole

pub returns-in_err-write_header-clause-checked : goal.returns-in_err-write_header-clause-checked
returns-in_err-write_header-clause-checked g c =
    let settings = c.args.settings.now in
    let outside : Outside = outside_of (g.H.Shelf.fault_count c.args.shelf.now) (g.H.Shelf.disks c.args.shelf.now) (g.H.Shelf.arms c.args.shelf.now) in
    let before = g.K.Sink.written c.args.sink.now in
    let after = g.K.Sink.written c.write_header.new.sink in
    let p = err_from_is_err_and c.from_residual.result c.from_residual.ensures.1 in
    let wrong : Result Bool Stop = Err c.in_err-write_header.field-0.0 in
    let same : wrong ≡ c.from_residual.result = cc (p.1, p.2) in
    let P : List ℕ → Type 0 = λ text. WrotePart before text after in
    ends_cut g.H.Disk.Disk.Tells settings outside outside before after [] (record { few = omega arith; kinds = tt; each = λ tells. tt })
    (subst P (sym (text-first settings)) c.in_err-write_header.ensures.part)
    c.in_err-write_header.field-0.0 (same_stop c.in_err-write_header.field-0.0 stop.Output stop.NoMemory c.in_err-write_header.ensures.stops) c.from_residual.result same

pub loop-slot-init : goal.loop-slot-init
loop-slot-init g c =
    let P : List ℕ → Type 0 = λ text. Wrote (g.K.Sink.written c.args.sink.now) text (g.K.Sink.written c.write_header.new.sink) in
    record {
      verdicts = [];
      count = refl;
      kinds = tt;
      each = λ tells. tt;
      damage = refl;
      wrote = subst P (sym (text-first c.args.settings.now)) c.in_ok-write_header.ensures.wrote;
      below = λ slot less. absurd (omega arith);
      rest = λ slot high. refl;
      lanes = refl;
      shelf = omega arith;
      sink = c.write_header.ensures.count;
      appends = c.write_header.ensures.appends;
    }

-- a disk was not checked

pub returns-in-Err-clause-checked : goal.returns-in-Err-clause-checked
returns-in-Err-clause-checked g c =
    let settings = c.args.settings.now in
    let loop = c.loop-slot.invariant in
    let old : ℕ → HeldDisk = g.H.Shelf.disks c.args.shelf.now in
    let taken : Outside = outside_of (g.H.Shelf.fault_count c.args.shelf.now) (g.H.Shelf.disks c.args.shelf.now) (g.H.Shelf.arms c.args.shelf.now) in
    let given : Outside = outside_of (g.H.Shelf.fault_count c.check_slot.new.shelf) (g.H.Shelf.disks c.check_slot.new.shelf) (g.H.Shelf.arms c.check_slot.new.shelf) in
    let counted : (old c.loop-slot.slot).fault_count ≡ (g.H.Shelf.disks c.loop-slot.shelf c.loop-slot.slot).fault_count =
    ap (λ (held : HeldDisk). held.fault_count) (sym (loop.rest c.loop-slot.slot (omega arith))) in
    ends_refused g.H.Disk.Disk.Tells settings taken given (g.K.Sink.written c.args.sink.now) (g.K.Sink.written c.write_refusal.new.sink)
    loop.verdicts (record { few = omega (arith, loop.count, c.loop-slot-test.true, c.disk_count-slot-end.ensures); kinds = loop.kinds; each = loop.each }) c.loop-slot.slot loop.count
    (g.K.Sink.written c.loop-slot.sink) loop.wrote c.in-Err.fault
    (breaks g.H.Disk.Disk.Tells settings taken given (g.K.Sink.written c.args.sink.now) (g.K.Sink.written c.write_refusal.new.sink)
    c.loop-slot.slot (g.H.Shelf.fault_count c.loop-slot.shelf) (g.H.Shelf.disks c.loop-slot.shelf c.loop-slot.slot).fault_count c.in-Err.fault
    (omega (arith, c.loop-slot-test.true, c.disk_count-slot-end.ensures)) loop.shelf counted c.write_refusal.ensures.fits c.in-Err.ensures.fault)
    c.write_refusal.result c.write_refusal.ensures.told c.write_refusal.ensures.part
    (λ none. (let w = c.write_refusal.ensures.wanting none in (w.0, ap g.K.Sink.written w.1))) c.write_refusal.ensures.stops

pub returns-in-Err-clause-unchanged : goal.returns-in-Err-clause-unchanged
returns-in-Err-clause-unchanged g c = λ slot within.
    unchanged_all g.H.Disk.Disk.Tells c.loop-slot.slot (g.H.Shelf.disks c.args.shelf.now) (g.H.Shelf.disks c.loop-slot.shelf) (g.H.Shelf.disks c.check_slot.new.shelf)
    c.loop-slot.invariant.below c.loop-slot.invariant.rest c.check_slot.ensures.others c.check_slot.ensures.unchanged slot

-- a line was not written whole

pub returns-in_err-write_verdict-clause-checked : goal.returns-in_err-write_verdict-clause-checked
returns-in_err-write_verdict-clause-checked g c =
    let settings = c.args.settings.now in
    let loop = c.loop-slot.invariant in
    let old : ℕ → HeldDisk = g.H.Shelf.disks c.args.shelf.now in
    let taken : Outside = outside_of (g.H.Shelf.fault_count c.args.shelf.now) (g.H.Shelf.disks c.args.shelf.now) (g.H.Shelf.arms c.args.shelf.now) in
    let given : Outside = outside_of (g.H.Shelf.fault_count c.check_slot.new.shelf) (g.H.Shelf.disks c.check_slot.new.shelf) (g.H.Shelf.arms c.check_slot.new.shelf) in
    let before = g.K.Sink.written c.args.sink.now in
    let after = g.K.Sink.written c.write_verdict.new.sink in
    let more : List Verdict = loop.verdicts ++ c.in-Ok.verdict ∷ [] in
    let long : length more ≡ length loop.verdicts + 1 = length-append loop.verdicts (c.in-Ok.verdict ∷ []) in
    let same : g.H.Shelf.disks c.loop-slot.shelf c.loop-slot.slot ≡ old c.loop-slot.slot = loop.rest c.loop-slot.slot (omega arith) in
    let p = err_from_is_err_and c.from_residual-in_err-write_verdict.result c.from_residual-in_err-write_verdict.ensures.1 in
    let wrong : Result Bool Stop = Err c.in_err-write_verdict.field-0.0 in
    let is : wrong ≡ c.from_residual-in_err-write_verdict.result = cc (p.1, p.2) in
    let P : ℕ → Verdict → Type 0 = λ slot verdict. IsVerdictOn settings slot (read_of (old slot)) verdict in
    let Q : List ℕ → Type 0 = λ text. WrotePart before text after in
    ends_cut g.H.Disk.Disk.Tells settings taken given before after more
    (record {
      few = omega (arith, long, loop.count, c.loop-slot-test.true, c.disk_count-slot-end.ensures);
      kinds = InOrder-snoc IsVerdictIn 0 loop.verdicts c.in-Ok.verdict loop.kinds (subst (λ k. IsVerdictIn k c.in-Ok.verdict) (omega (arith, loop.count)) c.in-Ok.ensures.kind);
      each = λ tells. InOrder-snoc P 0 loop.verdicts c.in-Ok.verdict (loop.each tells)
          (subst (λ k. P k c.in-Ok.verdict) (omega (arith, loop.count)) (subst (λ held. IsVerdictOn settings c.loop-slot.slot (read_of held) c.in-Ok.verdict) same (c.in-Ok.ensures.verdict tells)));
    })
    (subst Q (sym (text-snoc settings c.loop-slot.slot loop.verdicts c.in-Ok.verdict loop.count))
    (part_more before (g.K.Sink.written c.loop-slot.sink) after (check_text settings loop.verdicts) (verdict_line c.loop-slot.slot c.in-Ok.verdict) loop.wrote c.in_err-write_verdict.ensures.part))
    c.in_err-write_verdict.field-0.0 (same_stop c.in_err-write_verdict.field-0.0 stop.Output stop.NoMemory c.in_err-write_verdict.ensures.stops)
    c.from_residual-in_err-write_verdict.result is

pub returns-in_err-write_verdict-clause-unchanged : goal.returns-in_err-write_verdict-clause-unchanged
returns-in_err-write_verdict-clause-unchanged g c = λ slot within.
    unchanged_all g.H.Disk.Disk.Tells c.loop-slot.slot (g.H.Shelf.disks c.args.shelf.now) (g.H.Shelf.disks c.loop-slot.shelf) (g.H.Shelf.disks c.check_slot.new.shelf)
    c.loop-slot.invariant.below c.loop-slot.invariant.rest c.check_slot.ensures.others c.check_slot.ensures.unchanged slot

pub returns-in_err-write_verdict-clause-appends : goal.returns-in_err-write_verdict-clause-appends
returns-in_err-write_verdict-clause-appends g c =
    appends_more (g.K.Sink.written c.args.sink.now) (g.K.Sink.written c.loop-slot.sink) (g.K.Sink.written c.write_verdict.new.sink) c.loop-slot.invariant.appends c.write_verdict.ensures.appends

-- one disk more

pub loop-slot-preserved : goal.loop-slot-preserved
loop-slot-preserved g c =
    let settings = c.args.settings.now in
    let loop = c.loop-slot.invariant in
    let old : ℕ → HeldDisk = g.H.Shelf.disks c.args.shelf.now in
    let mid : ℕ → HeldDisk = g.H.Shelf.disks c.loop-slot.shelf in
    let new : ℕ → HeldDisk = g.H.Shelf.disks c.check_slot.new.shelf in
    let before = g.K.Sink.written c.args.sink.now in
    let between = g.K.Sink.written c.loop-slot.sink in
    let after = g.K.Sink.written c.write_verdict.new.sink in
    let more : List Verdict = loop.verdicts ++ c.in-Ok.verdict ∷ [] in
    let long : length more ≡ length loop.verdicts + 1 = length-append loop.verdicts (c.in-Ok.verdict ∷ []) in
    let same : mid c.loop-slot.slot ≡ old c.loop-slot.slot = loop.rest c.loop-slot.slot (omega arith) in
    let P : ℕ → Verdict → Type 0 = λ slot verdict. IsVerdictOn settings slot (read_of (old slot)) verdict in
    let Q : List ℕ → Type 0 = λ text. Wrote before text after in
    record {
      verdicts = more;
      count = omega (arith, long, loop.count);
      kinds = InOrder-snoc IsVerdictIn 0 loop.verdicts c.in-Ok.verdict loop.kinds (subst (λ k. IsVerdictIn k c.in-Ok.verdict) (omega (arith, loop.count)) c.in-Ok.ensures.kind);
      each = λ tells. InOrder-snoc P 0 loop.verdicts c.in-Ok.verdict (loop.each tells)
          (subst (λ k. P k c.in-Ok.verdict) (omega (arith, loop.count)) (subst (λ held. IsVerdictOn settings c.loop-slot.slot (read_of held) c.in-Ok.verdict) same (c.in-Ok.ensures.verdict tells)));
      damage = ap (λ b. c.loop-slot.damaged || b) c.is_damaged-damaged.ensures ∙ damage-snoc c.loop-slot.damaged loop.verdicts c.in-Ok.verdict loop.damage;
      wrote = subst Q (sym (text-snoc settings c.loop-slot.slot loop.verdicts c.in-Ok.verdict loop.count))
          (wrote_more before between after (check_text settings loop.verdicts) (verdict_line c.loop-slot.slot c.in-Ok.verdict) loop.wrote c.in_ok-write_verdict.ensures.wrote);
      below = λ slot less. unchanged_all g.H.Disk.Disk.Tells c.loop-slot.slot old mid new loop.below loop.rest c.check_slot.ensures.others c.check_slot.ensures.unchanged slot;
      rest = λ slot high. c.check_slot.ensures.others slot (λ is. absurd (omega arith)) ∙ loop.rest slot (omega arith);
      lanes = c.check_slot.ensures.lanes ∙ loop.lanes;
      shelf = omega (arith, loop.shelf, c.check_slot.ensures.shelf);
      sink = omega (arith, loop.sink, c.write_verdict.ensures.count);
      appends = appends_more before between after loop.appends c.write_verdict.ensures.appends;
    }
