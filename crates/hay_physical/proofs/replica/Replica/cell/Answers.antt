use Rattle.std.proofs.Common.{ℕ, List, refl, sym, subst, arith}
use Rattle.std.specs.Prelude.{IfOk}
use Rattle.hay_needle.specs.Needle.{needle_of_cell}
use Rattle.hay_needle.specs.Sizes.{needle_total}
use Rattle.hay_disk.specs.Disk.{Files, IsSolid, MayLeave}
use Rattle.hay_volume.specs.Cells.{StandsCell}
use Rattle.hay_volume.specs.Needles.{LacksNeedleOf}
use Rattle.hay_volume.proofs.Readings.{cell_begins}
use Rattle.hay_physical.specs.declared.state.Phase.{Phase}
use Rattle.hay_physical.specs.OpenCopies.{Copy}
use Rattle.hay_physical.specs.Replicas.{FilesStand, Holds, IsToldBy, KeepsSight, MayDelete, PhaseReady, Stands, UnsealedBy}
use Rattle.hay_physical.specs.CompactionRuns.{HasRun}
use Rattle.hay_physical.proofs.Looks.{other_flag, own_flag, sight_deletes, stands_there, told, told_by}
use Rattle.hay_physical.proofs.RunLaws.{copier_ready_volume, next_besides_volume, run_kept}
use Rattle.hay_physical.proofs.RunViews.{files_bounded, files_bytes, files_ready, files_settled, run_still}
use Rattle.hay_physical.proofs.Seeing.{files_cell, files_look, finds_looked, known_cell, leaves_looked, one_total, ready_looked, sight_kept, solid_looked, stand_looked}
use Rattle.hay_physical.proofs.Sights.{range_sealed}
use Rattle.hay_physical.proofs.Views.{by_result, files_flag, files_going, files_stand, if_ok, if_ok_so, on_err_so, open_deletes, open_stands}
use Rattle.hay_physical.proofs.replica.Replica.cell.Goals as goal

pub cell-requires : goal.cell-requires
cell-requires g c = record {
  may = λ tells.
      let was = c.self.inside in
      files_look g.D.Disk.files c.args.self.now was.sup was.disk was.phase c.in-Open.files c.args.at c.args.size c.self.view_is c.in-Open.is (c.requires.see tells);
}

pub invariant_of-self : goal.invariant_of-self
invariant_of-self g c =
    let files = g.D.Disk.files in
    let was = c.self.inside in
    let opened = c.in-Open.files in (
      λ tells.
          let look = files_look files c.args.self.now was.sup was.disk was.phase opened c.args.at c.args.size c.self.view_is c.in-Open.is (c.requires.see tells) in
          subst (λ (p : Phase). PhaseReady (files c.cell.new.disk) p) (sym c.in-Open.is)
          (λ going.
          let ready = files_ready (files was.disk) was.phase opened c.in-Open.is (c.self.invariant.0 tells) going in (
            ready_looked (files was.disk) (files c.cell.new.disk) opened c.args.at (needle_total c.args.size) ready.0 look.within (c.cell.ensures.seals tells) (c.cell.ensures.others tells),
            copier_ready_volume (files was.disk) (files c.cell.new.disk) opened opened (files_settled was.phase opened c.in-Open.is c.self.invariant.1) ready.0 ready.1 refl
                (c.cell.ensures.others tells),
          )),
      c.self.invariant.1,
      c.self.invariant.2,
    )

pub returns-clause-needle : goal.returns-clause-needle
returns-clause-needle g c =
    let files = g.D.Disk.files in
    let was = c.self.inside in
    let opened = c.in-Open.files in
    if_ok c.cell.result _ _ _
    (λ place seen stands. (
      seen.0,
      seen.1,
      seen.2,
      seen.3,
      λ tells.
          let here = stands_there c.args.at c.cell.new.out.items (files was.disk opened.volume.file).now seen.0 seen.1 (stands tells) in
          known_cell files c.args.self.now was.sup was.disk was.phase opened seen.0 c.self.view_is c.in-Open.is
          (subst (λ k. StandsCell k (files was.disk opened.volume.file).now seen.0) (sym seen.1.place) here),
    ))
    c.cell.ensures.needle (told c.cell.result _ _ c.cell.ensures.stands)

pub returns-clause-known : goal.returns-clause-known
returns-clause-known g c = λ tells cell stands there.
    let files = g.D.Disk.files in
    let was = c.self.inside in
    let here = files_cell files c.args.self.now was.sup was.disk was.phase c.in-Open.files cell c.self.view_is c.in-Open.is stands in
    c.cell.ensures.known tells cell (subst (λ k. StandsCell k (files was.disk c.in-Open.files.volume.file).now cell) there here)

pub returns-clause-damaged : goal.returns-clause-damaged
returns-clause-damaged g c = λ tells k is cell stands there sized.
    let files = g.D.Disk.files in
    let was = c.self.inside in
    let file = (files was.disk c.in-Open.files.volume.file).now in
    let here = subst (λ k. StandsCell k file cell) there (files_cell files c.args.self.now was.sup was.disk was.phase c.in-Open.files cell c.self.view_is c.in-Open.is stands) in
    c.cell.ensures.damaged tells k is (needle_of_cell cell) (cell_begins c.args.at file cell here) sized

pub returns-clause-can_delete : goal.returns-clause-can_delete
returns-clause-can_delete g c = λ tells.
    let files = g.D.Disk.files in
    let was = c.self.inside in
    let opened = c.in-Open.files in
    let look = files_look files c.args.self.now was.sup was.disk was.phase opened c.args.at c.args.size c.self.view_is c.in-Open.is (c.requires.see tells) in
    let flag = own_flag (files was.disk opened.volume.file) (files c.cell.new.disk opened.volume.file) opened.volume.end c.args.at c.args.size look (c.cell.ensures.seals tells) in
    let may =
    subst (λ (p : Phase). MayDelete files (record { sup = was.sup; disk = c.cell.new.disk; phase = p }) c.args.at) (sym c.in-Open.is)
    (open_deletes files was.sup c.cell.new.disk opened c.args.at flag) in
    if_ok_so c.cell.result _ _ (λ place seen. sight_deletes files _ c.args.at seen.0 place seen.1.place may seen.3) c.cell.ensures.needle

pub returns-clause-deletes : goal.returns-clause-deletes
returns-clause-deletes g c = λ tells place apart may.
    let files = g.D.Disk.files in
    let was = c.self.inside in
    let opened = c.in-Open.files in
    let flag = files_flag files c.args.self.now was.sup was.disk was.phase opened place c.self.view_is c.in-Open.is may in
    subst (λ (p : Phase). MayDelete files (record { sup = was.sup; disk = c.cell.new.disk; phase = p }) place) (sym c.in-Open.is)
    (open_deletes files was.sup c.cell.new.disk opened place (other_flag (files was.disk opened.volume.file) (files c.cell.new.disk opened.volume.file) opened.volume.end c.args.at
    c.args.size place apart (c.cell.ensures.seals tells) flag))

pub returns-clause-sees : goal.returns-clause-sees
returns-clause-sees g c = λ tells.
    let files = g.D.Disk.files in
    let was = c.self.inside in
    let opened = c.in-Open.files in
    subst (λ (p : Phase). KeepsSight files (UnsealedBy c.args.at c.args.size) c.args.self.now (record { sup = was.sup; disk = c.cell.new.disk; phase = p })) (sym c.in-Open.is)
    (sight_kept files (UnsealedBy c.args.at c.args.size) c.args.self.now was.sup was.disk c.cell.new.disk was.phase opened opened c.self.view_is c.in-Open.is refl (omega arith)
    (λ place long kept within. range_sealed place (needle_total long) c.args.at (needle_total c.args.size) (files was.disk opened.volume.file)
    (files c.cell.new.disk opened.volume.file) (c.cell.ensures.seals tells) kept))

pub returns-clause-stands : goal.returns-clause-stands
returns-clause-stands g c = λ tells s stands has.
    let files = g.D.Disk.files in
    let was = c.self.inside in
    let opened = c.in-Open.files in
    let f = files_stand files c.args.self.now was.sup was.disk was.phase opened s c.self.view_is c.in-Open.is stands in
    let look = files_look files c.args.self.now was.sup was.disk was.phase opened c.args.at c.args.size c.self.view_is c.in-Open.is (c.requires.see tells) in
    let stand : FilesStand was.sup (files c.cell.new.disk) opened s =
    by_result c.cell.result (FilesStand was.sup (files c.cell.new.disk) opened s)
    (if_ok c.cell.result _ _ _
    (λ place seen stood.
    let here = stands_there c.args.at c.cell.new.out.items (files was.disk opened.volume.file).now seen.0 seen.1 stood in
    stand_looked was.sup (files was.disk) (files c.cell.new.disk) opened s c.args.at (needle_total c.args.size) f has look.within
    (λ cell there. one_total c.args.at c.args.size (files was.disk opened.volume.file).now seen.0 cell here seen.2 there) (c.cell.ensures.seals tells) (c.cell.ensures.others tells))
    c.cell.ensures.needle (c.cell.ensures.stands tells))
    (on_err_so c.cell.result _ _ (λ same. subst (λ (x : Files). FilesStand was.sup x opened s) (sym same) f) (c.cell.ensures.kept tells)) in
    subst (λ (p : Phase). Stands files (record { sup = was.sup; disk = c.cell.new.disk; phase = p }) s) (sym c.in-Open.is)
    (open_stands files was.sup c.cell.new.disk opened s (files_going files c.args.self.now was.sup was.disk was.phase opened s c.self.view_is c.in-Open.is stands) stand)

pub returns-clause-run : goal.returns-clause-run
returns-clause-run g c = λ tells s run stands has runs.
    let files = g.D.Disk.files in
    let was = c.self.inside in
    let opened = c.in-Open.files in
    let f = files_stand files c.args.self.now was.sup was.disk was.phase opened s c.self.view_is c.in-Open.is stands in
    let stand =
    files_stand files (record { sup = was.sup; disk = c.cell.new.disk; phase = was.phase }) was.sup c.cell.new.disk was.phase opened s refl c.in-Open.is
    (returns-clause-stands g c tells s stands has) in
    subst (λ (p : Phase). HasRun files (record { sup = was.sup; disk = c.cell.new.disk; phase = p }) s run) (sym c.in-Open.is)
    (run_still run files c.args.self.now was.sup was.disk c.cell.new.disk was.phase opened opened s s c.self.view_is c.in-Open.is refl
    (λ x r. run_kept was.sup (files was.disk) (files c.cell.new.disk) opened opened s s.records x r refl refl stand
    (next_besides_volume was.sup (files was.disk) (files was.disk) (files c.cell.new.disk) opened s f (c.cell.ensures.others tells))) runs)

pub returns-clause-holds : goal.returns-clause-holds
returns-clause-holds g c = λ tells stuck s t holds.
    let files = g.D.Disk.files in
    let was = c.self.inside in
    finds_looked was.sup (files was.disk) (files c.cell.new.disk) c.in-Open.files.volume.file stuck s t c.args.at (needle_total c.args.size) (c.cell.ensures.seals tells) (c.cell.ensures.others tells)
    (subst (λ (x : Copy _). Holds files x stuck s t) (sym c.self.view_is) holds)

pub returns-clause-solid : goal.returns-clause-solid
returns-clause-solid g c = λ tells n solid.
    let files = g.D.Disk.files in
    solid_looked (files c.self.inside.disk) (files c.cell.new.disk) c.in-Open.files.volume.file c.args.at (needle_total c.args.size) (c.cell.ensures.seals tells) (c.cell.ensures.others tells) n
    (subst (λ (x : Copy _). IsSolid (files x.disk n)) (sym c.self.view_is) solid)

pub returns-clause-leaves : goal.returns-clause-leaves
returns-clause-leaves g c = λ tells image leaves.
    let files = g.D.Disk.files in
    subst (λ (x : Copy _). MayLeave (files x.disk) image) c.self.view_is
    (leaves_looked (files c.self.inside.disk) (files c.cell.new.disk) c.in-Open.files.volume.file c.args.at (needle_total c.args.size) (c.cell.ensures.seals tells)
    (c.cell.ensures.others tells) image leaves)

pub returns-clause-told : goal.returns-clause-told
returns-clause-told g c = λ tells.
    let files = g.D.Disk.files in
    let was = c.self.inside in
    let opened = c.in-Open.files in
    let capacity = was.sup.settings.capacity in
    let bytes = files_bytes files c.args.self.now was.sup was.disk was.phase opened capacity c.self.view_is c.in-Open.is (files_bounded capacity was.phase opened c.in-Open.is c.self.invariant.2) in
    subst (λ (l : List ℕ). IfOk c.cell.result (IsToldBy c.args.size c.args.at l)) bytes
    (if_ok c.cell.result _ _ _
    (λ place seen stands.
    told_by c.args.size c.args.at (files was.disk opened.volume.file).now seen.0 place
    (stands_there c.args.at c.cell.new.out.items (files was.disk opened.volume.file).now seen.0 seen.1 stands) seen.2 seen.3)
    c.cell.ensures.needle (c.cell.ensures.stands tells))

pub returns-clause-lacks : goal.returns-clause-lacks
returns-clause-lacks g c = λ tells k is.
    let files = g.D.Disk.files in
    let was = c.self.inside in
    let opened = c.in-Open.files in
    let capacity = was.sup.settings.capacity in
    let bytes = files_bytes files c.args.self.now was.sup was.disk was.phase opened capacity c.self.view_is c.in-Open.is (files_bounded capacity was.phase opened c.in-Open.is c.self.invariant.2) in
    subst (λ (l : List ℕ). LacksNeedleOf c.args.size c.args.at l) bytes (c.cell.ensures.damaged tells k is)
