use Rattle.std.proofs.Common.{◌<◌, Some, refl, sym, subst, ◌∙◌}
use Rattle.hay_needle.specs.declared.settings.Settings.{Settings}
use Rattle.hay_directory_lock.specs.Seats.{LockState}
use Rattle.hay_directory_lock.proofs.Calling.{holding, kept_held, may_free, seated_in, seated_still, settings_held, view_held}
use Rattle.hay_history.specs.LaneSteps.RowDid.{Drains}
use Rattle.hay_directory_lock.proofs.Unfused.{step_unfused}
use Rattle.hay_directory_lock.proofs.lock.DirectoryLock.set_drained.Goals as goal

pub set_drained-act-requires-clause-kept : goal.set_drained-act-requires-clause-kept
set_drained-act-requires-clause-kept g c = (
  c.requires.seated.0,
  c.hold-kept.new.seat.seen,
  kept_held g.D.Disk.Tells g.D.Disk.files g.D.Disk.fault_count g.D.Disk.fuse_count
      (λ y. y.directory) (λ y. y.front) (seated_in c.self.view_is c.seat.view_is c.requires.seated.1) c.hold-kept.ensures,
)

pub set_drained-act-requires-clause-view : goal.set_drained-act-requires-clause-view
set_drained-act-requires-clause-view g c = view_held g.D.Disk.Tells g.D.Disk.files g.D.Disk.fault_count g.D.Disk.fuse_count (λ y. y.directory) (λ y. y.front)
    (seated_in c.self.view_is c.seat.view_is c.requires.seated.1) c.hold-kept.ensures

pub set_drained-act-requires-clause-machine : goal.set_drained-act-requires-clause-machine
set_drained-act-requires-clause-machine g c =
    subst (λ (s : Settings). c.args.machine < s.machines) (sym (settings_held g.D.Disk.Tells g.D.Disk.files g.D.Disk.fault_count g.D.Disk.fuse_count (λ y. y.directory) (λ y. y.front)
    (seated_in c.self.view_is c.seat.view_is c.requires.seated.1) c.hold-kept.ensures))
    (subst (λ (l : LockState). c.args.machine < (l.settings).machines) (sym c.self.view_is) c.requires.machine)

pub free-requires-clause-may : goal.free-requires-clause-may
free-requires-clause-may g c =
    may_free g.D.Disk.Tells g.D.Disk.files g.D.Disk.fault_count g.D.Disk.fuse_count (λ y. y.directory) (λ y. y.front) (seated_in c.self.view_is c.seat.view_is c.requires.seated.1) c.hold-kept.ensures
    c.args.tag (Some c.set_drained-act.result) refl (c.set_drained-act.ensures.act, tt) c.set_drained-act.ensures.kept

pub returns-clause-seated : goal.returns-clause-seated
returns-clause-seated g c = rw (← c.self.view_is) (λ begun lane seated.
    let here = seated_in refl c.seat.view_is seated in
    seated_still g.D.Disk.Tells g.D.Disk.files g.D.Disk.fault_count g.D.Disk.fuse_count (λ y. y.directory) (λ y. y.front) here c.hold-kept.ensures
    c.args.tag (Some c.set_drained-act.result) (sym seated.number ∙ c.requires.seated.1.number) (c.set_drained-act.ensures.act, tt) c.set_drained-act.ensures.kept c.free.ensures
    c.set_drained-act.ensures.shown)

pub returns-clause-drained : goal.returns-clause-drained
returns-clause-drained g c = rw (← c.seat.view_is) (λ begun lane seated start at.
    let here = seated_in c.self.view_is refl seated in record {
      held = c.hold-kept.new.seat.seen;
      made = Some c.set_drained-act.result;
      holding = holding g.D.Disk.Tells g.D.Disk.files g.D.Disk.fault_count g.D.Disk.fuse_count (λ y. y.directory) (λ y. y.front) here c.hold-kept.ensures
          c.args.tag (Some c.set_drained-act.result) (sym seated.number ∙ (seated_in refl c.seat.view_is c.requires.seated.1).number) (c.set_drained-act.ensures.act, tt)
          c.set_drained-act.ensures.kept c.free.ensures c.set_drained-act.ensures.shown c.set_drained-act.ensures.from;
      is = c.set_drained-act.ensures.did;
    })

pub returns-clause-held : goal.returns-clause-held
returns-clause-held g c = rw (← c.seat.view_is) (record {
  held = c.hold-kept.new.seat.seen;
  made = Some c.set_drained-act.result;
  holding = holding g.D.Disk.Tells g.D.Disk.files g.D.Disk.fault_count g.D.Disk.fuse_count (λ y. y.directory) (λ y. y.front)
      (seated_in c.self.view_is c.seat.view_is c.requires.seated.1) c.hold-kept.ensures
      c.args.tag (Some c.set_drained-act.result) refl (c.set_drained-act.ensures.act, tt) c.set_drained-act.ensures.kept
      c.free.ensures c.set_drained-act.ensures.shown c.set_drained-act.ensures.from;
  is = step_unfused (Drains c.args.machine c.args.is_drained) c.set_drained-act.result (λ e. cc e) c.set_drained-act.ensures.did;
})
