use Rattle.std.proofs.Common.{arith, ◌∙◌, ◌+◌, ap}
use Rattle.hay_physical.proofs.Views.{files_stand, if_ok_both}
use Rattle.hay_physical.proofs.RunViews.{beside_deletes, beside_stands, open_run}
use Rattle.hay_physical.specs.Replicas.{Anywhere}
use Rattle.hay_physical.proofs.Seeing.{beside_sight}
use Rattle.hay_open.specs.Stored.{volume_file}
use Rattle.std.proofs.Common.{sym}
use Rattle.hay_physical.specs.OpenCopies.{phase_generation}
use Rattle.hay_physical.proofs.Views.{if_ok_so}
use Rattle.hay_physical.proofs.RunViews.{bytes_beside, files_begin, files_bounded, files_goal, files_say, head_beside}
use Rattle.hay_physical.proofs.replica.Replica.begin.Goals as goal

pub returns-clause-last : goal.returns-clause-last
returns-clause-last g c = λ tells s stands worn.
    let was = c.self.inside in
    let f = files_stand g.D.Disk.files c.args.self.now was.sup was.disk was.phase c.in-Open.files s c.self.view_is c.in-Open.is stands in
    let low = (c.begin.ensures.most worn).1 in
    let generation = f.generation in
    let most = f.head.is.most in
    omega arith

pub returns-clause-begun : goal.returns-clause-begun
returns-clause-begun g c = λ tells s stands.
    let files = g.D.Disk.files in
    let was = c.self.inside in
    let f = files_stand files c.args.self.now was.sup was.disk was.phase c.in-Open.files s c.self.view_is c.in-Open.is stands in
    if_ok_both c.begin.result _ _ _
    (λ goal begun run. (begun.2 ∙ ap (λ k. k + 1) f.generation, open_run files was.sup c.begin.new.disk c.begin.new.self s _ (run s f)))
    c.begin.ensures.begun (c.begin.ensures.run tells)

pub returns-clause-stands : goal.returns-clause-stands
returns-clause-stands g c = λ tells s stands.
    let was = c.self.inside in
    beside_stands g.D.Disk.files c.args.self.now was.sup was.disk c.begin.new.disk was.phase c.in-Open.files c.begin.new.self s c.self.view_is c.in-Open.is c.begin.ensures.keeps
    (c.begin.ensures.others tells) stands

pub returns-clause-deletes : goal.returns-clause-deletes
returns-clause-deletes g c = λ tells at may.
    let was = c.self.inside in
    beside_deletes g.D.Disk.files c.args.self.now was.sup was.disk c.begin.new.disk was.phase c.in-Open.files c.begin.new.self at c.self.view_is c.in-Open.is
    (λ stuck. let same = c.begin.ensures.frozen stuck in (same.1, same.2)) (c.self.invariant.0 tells) c.begin.ensures.keeps (c.begin.ensures.others tells) may

pub returns-clause-sees : goal.returns-clause-sees
returns-clause-sees g c = λ tells.
    let was = c.self.inside in
    beside_sight g.D.Disk.files Anywhere c.args.self.now was.sup was.disk c.begin.new.disk was.phase c.in-Open.files c.begin.new.self c.self.view_is c.in-Open.is
    (λ stuck. let same = c.begin.ensures.frozen stuck in (same.1, same.2)) (c.self.invariant.0 tells) c.begin.ensures.keeps (c.begin.ensures.others tells)

pub returns-clause-most : goal.returns-clause-most
returns-clause-most g c = λ worn.
    let was = c.self.inside in
    let known = c.begin.ensures.most worn in
    let bounded = files_bounded was.sup.settings.capacity was.phase c.in-Open.files c.in-Open.is c.self.invariant.2 in
    let most = bounded.most in
    let goal = files_goal c.args.self.now was.sup was.disk was.phase c.in-Open.files c.self.view_is c.in-Open.is in
    let generation = files_say phase_generation c.args.self.now was.sup was.disk was.phase c.in-Open.files c.self.view_is c.in-Open.is in
    (sym goal ∙ known.0, sym generation ∙ omega (arith, known.1))

pub returns-clause-small : goal.returns-clause-small
returns-clause-small g c = if_ok_so c.begin.result _ _ (λ goal begun. begun.3) c.begin.ensures.begun

pub returns-clause-memory : goal.returns-clause-memory
returns-clause-memory g c = λ wants.
    let was = c.self.inside in
    files_begin c.args.self.now was.sup was.disk was.phase c.in-Open.files c.self.view_is c.in-Open.is (c.begin.ensures.memory wants)

pub returns-clause-failed : goal.returns-clause-failed
returns-clause-failed g c = λ faults failed.
    let was = c.self.inside in
    files_begin c.args.self.now was.sup was.disk was.phase c.in-Open.files c.self.view_is c.in-Open.is (c.begin.ensures.failed faults failed)

pub returns-clause-bytes : goal.returns-clause-bytes
returns-clause-bytes g c = λ tells.
    let was = c.self.inside in
    bytes_beside g.D.Disk.files c.args.self.now was.sup was.disk c.begin.new.disk was.phase c.in-Open.files c.begin.new.self c.self.view_is c.in-Open.is c.begin.ensures.keeps
    (c.begin.ensures.others tells (volume_file c.in-Open.files.head.generation) (λ e. omega arith) (λ e. omega arith))

pub returns-clause-head_file : goal.returns-clause-head_file
returns-clause-head_file g c = λ tells.
    let was = c.self.inside in
    head_beside g.D.Disk.files c.args.self.now was.sup was.disk c.begin.new.disk was.phase c.self.view_is (c.begin.ensures.others tells 0 (λ e. omega arith) (λ e. omega arith))
