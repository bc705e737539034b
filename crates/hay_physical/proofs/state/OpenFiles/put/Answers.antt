use Rattle.hay_physical.specs.CompactionRuns.{KeepsCopier}
use Rattle.hay_physical.proofs.RunLaws.{freeze_keeps}
use Rattle.hay_physical.proofs.Views.{by_result, if_ok_from, on_err_so, refused}
use Rattle.std.proofs.Common.{◌∙◌, refl, sym, ◌≡◌, Bool, inr, ap, subst}
use Rattle.hay_volume.specs.Cells.{live_cell}
use Rattle.hay_physical.specs.declared.state.OpenFiles.{OpenFiles}
use Rattle.hay_physical.specs.Replicas.{FilesStand, MayFind, with_cell}
use Rattle.hay_physical.proofs.Standing.{on_err}
use Rattle.hay_physical.proofs.Holding.{finds_same, finds_second, stand_finds}
use Rattle.hay_physical.proofs.state.OpenFiles.put.Goals as goal

pub returns-clause-refused : goal.returns-clause-refused
returns-clause-refused g c = λ tells sup s going stand.
    let files = g.D.Disk.files in
    let opened = c.add.new.self in
    let added = with_cell s c.args.pair c.args.cookie c.args.bytes.now in
    let stands : FilesStand sup (files c.add.new.disk) opened added = c.in_ok-at.ensures.added tells sup s stand in
    let finds : MayFind sup (files c.add.new.disk) c.args.self.now.index.frozen s added =
    finds_second sup (files c.add.new.disk) c.args.self.now.index.frozen s added
    (subst (λ (b : Bool). MayFind sup (files c.add.new.disk) b added added) c.in_ok-at.ensures.stuck (stand_finds sup (files c.add.new.disk) opened added stands)) in
    on_err c.give.result _ (files c.give.new.disk ≡ files c.add.new.disk) _
    (λ froze kept. inr (ap (λ (x : OpenFiles). x.frozen) froze, finds_same sup (files c.add.new.disk) (files c.give.new.disk) c.args.self.now.index.frozen s added kept finds))
    c.give.ensures.froze (c.give.ensures.kept tells)

pub returns-clause-copier : goal.returns-clause-copier
returns-clause-copier g c =
    let kept = c.add.ensures.copier c.if-self.false in
    by_result c.give.result (KeepsCopier c.args.self.now c.give.new.self)
    (if_ok_from c.give.result _ (λ same. subst (λ (o : OpenFiles). KeepsCopier c.args.self.now o) (sym same) kept) c.give.ensures.stayed)
    (on_err_so c.give.result _ _ (λ froze. freeze_keeps c.args.self.now c.give.new.self _ c.if-self.false (ap (λ (o : OpenFiles). o.head) froze ∙ kept.head)
    (ap (λ (o : OpenFiles). o.frozen) froze) (ap (λ (o : OpenFiles). o.copier) froze)) c.give.ensures.froze)

pub returns-clause-added : goal.returns-clause-added
returns-clause-added g c = λ tells sup s going stand none froze.
    let files = g.D.Disk.files in
    let added = with_cell s c.args.pair c.args.cookie c.args.bytes.now in
    let stands : FilesStand sup (files c.add.new.disk) c.add.new.self added = c.in_ok-at.ensures.added tells sup s stand in
    let finds : MayFind sup (files c.add.new.disk) c.args.self.now.index.frozen added added =
    subst (λ (b : Bool). MayFind sup (files c.add.new.disk) b added added) c.in_ok-at.ensures.stuck (stand_finds sup (files c.add.new.disk) c.add.new.self added stands) in
    finds_same sup (files c.add.new.disk) (files c.give.new.disk) c.args.self.now.index.frozen added added (refused c.give.result _ _ none (c.give.ensures.kept tells)) finds

pub returns-clause-whole : goal.returns-clause-whole
returns-clause-whole g c = λ tells. c.give.ensures.whole tells (live_cell c.in_ok-at.at c.args.pair c.args.cookie c.args.bytes.now) (c.in_ok-at.ensures.stands tells) refl
