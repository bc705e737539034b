use Rattle.std.proofs.Common.{Some, refl, sym, ◌∙◌}
use Rattle.hay_directory_lock.proofs.Calling.{holding, may_free, seated_in, seated_still, view_held}
use Rattle.hay_directory_lock.proofs.lock.DirectoryLock.fuse.Goals as goal

pub fuse-act-requires : goal.fuse-act-requires
fuse-act-requires g c = record {
  view = view_held g.D.Disk.Tells g.D.Disk.files g.D.Disk.fault_count g.D.Disk.fuse_count (λ y. y.directory) (λ y. y.front)
      (seated_in c.self.view_is c.seat.view_is c.requires.seated.1) c.hold-kept.ensures;
}

pub free-requires-clause-may : goal.free-requires-clause-may
free-requires-clause-may g c =
    may_free g.D.Disk.Tells g.D.Disk.files g.D.Disk.fault_count g.D.Disk.fuse_count (λ y. y.directory) (λ y. y.front) (seated_in c.self.view_is c.seat.view_is c.requires.seated.1) c.hold-kept.ensures
    c.args.tag (Some c.fuse-act.result) refl (c.fuse-act.ensures.act, tt) c.fuse-act.ensures.kept

pub returns-clause-seated : goal.returns-clause-seated
returns-clause-seated g c = rw (← c.self.view_is) (λ begun lane seated.
    let here = seated_in refl c.seat.view_is seated in
    seated_still g.D.Disk.Tells g.D.Disk.files g.D.Disk.fault_count g.D.Disk.fuse_count (λ y. y.directory) (λ y. y.front) here c.hold-kept.ensures
    c.args.tag (Some c.fuse-act.result) (sym seated.number ∙ c.requires.seated.1.number) (c.fuse-act.ensures.act, tt) c.fuse-act.ensures.kept c.free.ensures c.fuse-act.ensures.shown)

pub returns-clause-fused : goal.returns-clause-fused
returns-clause-fused g c = rw (← c.seat.view_is) (λ begun lane seated start at.
    let here = seated_in c.self.view_is refl seated in record {
      held = c.hold-kept.new.seat.seen;
      made = Some c.fuse-act.result;
      holding = holding g.D.Disk.Tells g.D.Disk.files g.D.Disk.fault_count g.D.Disk.fuse_count (λ y. y.directory) (λ y. y.front) here c.hold-kept.ensures
          c.args.tag (Some c.fuse-act.result) (sym seated.number ∙ (seated_in refl c.seat.view_is c.requires.seated.1).number) (c.fuse-act.ensures.act, tt) c.fuse-act.ensures.kept
          c.free.ensures c.fuse-act.ensures.shown c.fuse-act.ensures.from;
      is = c.fuse-act.ensures.did;
    })

pub returns-clause-held : goal.returns-clause-held
returns-clause-held g c = rw (← c.seat.view_is) (record {
  held = c.hold-kept.new.seat.seen;
  made = Some c.fuse-act.result;
  holding = holding g.D.Disk.Tells g.D.Disk.files g.D.Disk.fault_count g.D.Disk.fuse_count (λ y. y.directory) (λ y. y.front)
      (seated_in c.self.view_is c.seat.view_is c.requires.seated.1) c.hold-kept.ensures
      c.args.tag (Some c.fuse-act.result) refl (c.fuse-act.ensures.act, tt) c.fuse-act.ensures.kept c.free.ensures c.fuse-act.ensures.shown c.fuse-act.ensures.from;
  is = tt;
})
