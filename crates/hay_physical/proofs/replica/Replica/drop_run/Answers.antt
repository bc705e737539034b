use Rattle.std.proofs.Common.{refl, sym, subst}
use Rattle.hay_physical.specs.OpenCopies.{Copy}
use Rattle.hay_physical.specs.Replicas.{MayDelete, Stands}
use Rattle.hay_physical.proofs.Views.{files_flag, open_deletes}
use Rattle.hay_physical.proofs.RunViews.{beside_stands, ended_flag}
use Rattle.hay_physical.proofs.replica.Replica.drop_run.Goals as goal
use Rattle.std.proofs.Common.{ap}
use Rattle.hay_physical.specs.declared.state.OpenFiles.{OpenFiles}
use Rattle.hay_physical.specs.Replicas.{Anywhere, KeepsSight}
use Rattle.hay_physical.proofs.Seeing.{sight_moved, sight_same}
use Rattle.hay_physical.proofs.replica.Replica.drop_run.Goals.{in-Open, in-Closed}

pub returns-clause-stands : goal.returns-clause-stands
returns-clause-stands g c = λ tells s stands.
    let files = g.D.Disk.files in
    let was = c.self.inside in
    elim c.match-self.branch [
      | in-Open w ↦
          subst (λ x. Stands files (record { sup = x.sup; disk = x.disk; phase = x.phase }) s) (sym w.self-inside-is)
          (beside_stands files c.args.self.now was.sup was.disk was.disk was.phase w.in-Open.files w.end_run.new.self s c.self.view_is w.in-Open.is w.end_run.ensures.keeps
          (λ other first second. refl) stands)
      | in-Closed w ↦
          subst (λ x. Stands files (record { sup = x.sup; disk = x.disk; phase = x.phase }) s) (sym w.self-inside-is) (subst (λ (x : Copy _). Stands files x s) (sym c.self.view_is) stands)
    ]

pub returns-clause-deletes : goal.returns-clause-deletes
returns-clause-deletes g c = λ tells at may.
    let files = g.D.Disk.files in
    let was = c.self.inside in
    elim c.match-self.branch [
      | in-Open w ↦
          subst (λ x. MayDelete files (record { sup = x.sup; disk = x.disk; phase = x.phase }) at) (sym w.self-inside-is)
          (open_deletes files was.sup was.disk w.end_run.new.self at (ended_flag (files was.disk) w.in-Open.files w.end_run.new.self at w.end_run.ensures.keeps
          (files_flag files c.args.self.now was.sup was.disk was.phase w.in-Open.files at c.self.view_is w.in-Open.is may)))
      | in-Closed w ↦
          subst (λ x. MayDelete files (record { sup = x.sup; disk = x.disk; phase = x.phase }) at) (sym w.self-inside-is) (subst (λ (x : Copy _). MayDelete files x at) (sym c.self.view_is) may)
    ]

pub returns-clause-sees : goal.returns-clause-sees
returns-clause-sees g c = λ tells.
    let files = g.D.Disk.files in
    let was = c.self.inside in
    elim c.match-self.branch [
      | in-Open w ↦
          subst (λ x. KeepsSight files Anywhere c.args.self.now (record { sup = x.sup; disk = x.disk; phase = x.phase })) (sym w.self-inside-is)
          (sight_same files Anywhere c.args.self.now was.sup was.disk was.disk was.phase w.in-Open.files w.end_run.new.self c.self.view_is w.in-Open.is
          (ap (λ (o : OpenFiles). o.volume) w.end_run.ensures.keeps) refl)
      | in-Closed w ↦
          subst (λ x. KeepsSight files Anywhere c.args.self.now (record { sup = x.sup; disk = x.disk; phase = x.phase })) (sym w.self-inside-is)
          (sight_moved files Anywhere c.args.self.now was.sup was.disk was.disk was.phase c.self.view_is refl)
    ]
