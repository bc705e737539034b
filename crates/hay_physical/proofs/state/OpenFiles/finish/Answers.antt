use Rattle.hay_physical.specs.OpenCopies.{copier_capacity}
use Rattle.hay_physical.proofs.RunLaws.{bounded_dropped, bounded_ended, examined_within}
use Rattle.std.proofs.Common.{◌≡◌, arith, refl, sym, ap, ◌∙◌}
use Rattle.hay_compact.specs.Copying.{stored_of}
use Rattle.hay_physical.specs.declared.state.Copier.TheVariants.{Standing}
use Rattle.hay_physical.proofs.Views.{if_ok_so, on_err_so, on_ok_one}
use Rattle.hay_physical.proofs.RunLaws.{copying_at, stand_with}
use Rattle.hay_physical.proofs.SwapLaws.{run_swaps, run_tight}
use Rattle.hay_compact.proofs.Copyings.{making_of}
use Rattle.hay_physical.specs.OpenCopies.{copier_copied}
use Rattle.hay_physical.proofs.state.OpenFiles.finish.Goals as goal

pub returns-in-Standing-clause-swapped : goal.returns-in-Standing-clause-swapped
returns-in-Standing-clause-swapped g c = λ tells sup s run f r none.
    let files = g.D.Disk.files c.args.disk.now in
    let opened = c.args.self.now in
    let is : opened.copier ≡ Standing c.in-Standing.compactor = sym c.replace.ensures.value ∙ c.in-Standing.is in
    let h = copying_at sup files opened s run c.in-Standing.compactor r is in
    if_ok_so c.make_current-answer.result _ _
    (λ places made. (
      stored_of c.in-Standing.compactor r.fresh,
      run_swaps sup files opened s run c.in-Standing.compactor f r is none c.make_current-answer.ensures.behind,
      run_tight sup files opened s run c.in-Standing.compactor r none,
      stand_with sup (g.D.Disk.files c.make_current-answer.new.disk) c.make_current-answer.new.self _ (stored_of c.in-Standing.compactor r.fresh) made.0 refl,
      made.1,
    ))
    (c.make_current-answer.ensures.stands tells sup s r.fresh (stand_with sup files opened _ s f refl) (making_of sup files opened.volume c.in-Standing.compactor s.cells r.fresh r.examined h))

pub returns-in-Standing-clause-unsure : goal.returns-in-Standing-clause-unsure
returns-in-Standing-clause-unsure g c = λ tells sup s run going f r none.
    let files = g.D.Disk.files c.args.disk.now in
    let opened = c.args.self.now in
    let is : opened.copier ≡ Standing c.in-Standing.compactor = sym c.replace.ensures.value ∙ c.in-Standing.is in
    let h = copying_at sup files opened s run c.in-Standing.compactor r is in
    on_err_so c.make_current-answer.result _ _
    (λ finds frozen. (
      stored_of c.in-Standing.compactor r.fresh,
      run_swaps sup files opened s run c.in-Standing.compactor f r is none c.make_current-answer.ensures.behind,
      run_tight sup files opened s run c.in-Standing.compactor r none,
      finds frozen,
    ))
    (c.make_current-answer.ensures.unsure tells sup s r.fresh (stand_with sup files opened _ s f refl) (making_of sup files opened.volume c.in-Standing.compactor s.cells r.fresh r.examined h))

pub returns-in-Standing-clause-counted : goal.returns-in-Standing-clause-counted
returns-in-Standing-clause-counted g c = λ tells.
    let is : c.args.self.now.copier ≡ Standing c.in-Standing.compactor = sym c.replace.ensures.value ∙ c.in-Standing.is in
    on_ok_one c.make_current-answer.result _ _
    (λ counted sup t f. counted sup t (stand_with sup (g.D.Disk.files c.make_current-answer.new.disk) _ c.make_current-answer.new.self t f refl) ∙ sym (ap copier_copied is))
    (c.make_current-answer.ensures.counted tells)

pub returns-in-Standing-clause-bounded : goal.returns-in-Standing-clause-bounded
returns-in-Standing-clause-bounded g c = λ capacity bounded.
    let is : c.args.self.now.copier ≡ Standing c.in-Standing.compactor = sym c.replace.ensures.value ∙ c.in-Standing.is in
    let made = c.make_current-answer.ensures in
    bounded_ended capacity _ _ (made.named bounded.file) (made.limit capacity bounded.volume (bounded.next c.in-Standing.compactor.capacity (ap copier_capacity is)))
    (made.most bounded.most) (made.from bounded.from) refl

pub returns-in-Ended-clause-bounded : goal.returns-in-Ended-clause-bounded
returns-in-Ended-clause-bounded g c = λ capacity bounded. bounded_dropped capacity c.args.self.now _ _ bounded refl refl

pub returns-in-Standing-clause-shorter : goal.returns-in-Standing-clause-shorter
returns-in-Standing-clause-shorter g c = λ capacity bounded.
    let is : c.args.self.now.copier ≡ Standing c.in-Standing.compactor = sym c.replace.ensures.value ∙ c.in-Standing.is in
    let within = examined_within capacity c.args.self.now c.in-Standing.compactor bounded is in
    on_ok_one c.make_current-answer.result _ _ (λ short. omega (arith, short, within)) c.make_current-answer.ensures.shorter

pub returns-in-Standing-clause-named : goal.returns-in-Standing-clause-named
returns-in-Standing-clause-named g c = λ goal is. on_ok_one c.make_current-answer.result _ _ (λ moved. moved ∙ sym (c.requires.settled.next goal is)) c.make_current-answer.ensures.moved

pub returns-in-Standing-clause-within : goal.returns-in-Standing-clause-within
returns-in-Standing-clause-within g c = c.make_current-answer.ensures.within
