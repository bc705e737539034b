use Rattle.std.proofs.Common.{IfOk, ◌<◌, refl, sym, subst, ◌∙◌}
use Rattle.hay_needle.specs.declared.settings.Settings.{Settings}
use Rattle.hay_directory_lock.specs.Seats.{DirectorySeatState, LockState, sight}
use Rattle.hay_legal.specs.declared.known.HomeRow.{HomeRow}
use Rattle.hay_directory_lock.specs.Answers.{Settles, SettlesAs}
use Rattle.hay_directory_lock.proofs.Calling.{holding, kept_held, may_free, seated_in, seated_still, settings_held, stood_first, told_home, told_refusal, view_held}
use Rattle.hay_directory_lock.proofs.lock.DirectoryLock.settle.Goals.{in-Err, in-Ok}
use Rattle.hay_directory_lock.proofs.lock.DirectoryLock.settle.Goals as goal

pub settle-answer-requires-clause-kept : goal.settle-answer-requires-clause-kept
settle-answer-requires-clause-kept g c = (
  c.requires.seated.0,
  c.hold-kept.new.seat.seen,
  kept_held g.D.Disk.Tells g.D.Disk.files g.D.Disk.fault_count g.D.Disk.fuse_count
      (λ y. y.directory) (λ y. y.front) (seated_in c.self.view_is c.seat.view_is c.requires.seated.1) c.hold-kept.ensures,
)

pub settle-answer-requires-clause-view : goal.settle-answer-requires-clause-view
settle-answer-requires-clause-view g c = view_held g.D.Disk.Tells g.D.Disk.files g.D.Disk.fault_count g.D.Disk.fuse_count (λ y. y.directory) (λ y. y.front)
    (seated_in c.self.view_is c.seat.view_is c.requires.seated.1) c.hold-kept.ensures

pub settle-answer-requires-clause-volume : goal.settle-answer-requires-clause-volume
settle-answer-requires-clause-volume g c =
    subst (λ (s : Settings). c.args.volume < s.volumes) (sym (settings_held g.D.Disk.Tells g.D.Disk.files g.D.Disk.fault_count g.D.Disk.fuse_count (λ y. y.directory) (λ y. y.front)
    (seated_in c.self.view_is c.seat.view_is c.requires.seated.1) c.hold-kept.ensures))
    (subst (λ (l : LockState). c.args.volume < (l.settings).volumes) (sym c.self.view_is) c.requires.volume)

pub free-requires-clause-may : goal.free-requires-clause-may
free-requires-clause-may g c =
    may_free g.D.Disk.Tells g.D.Disk.files g.D.Disk.fault_count g.D.Disk.fuse_count (λ y. y.directory) (λ y. y.front) (seated_in c.self.view_is c.seat.view_is c.requires.seated.1) c.hold-kept.ensures
    c.args.tag c.settle-answer.result.1 refl c.settle-answer.ensures.act c.settle-answer.ensures.kept

pub returns-clause-seated : goal.returns-clause-seated
returns-clause-seated g c = rw (← c.self.view_is) (λ begun lane seated.
    let here = seated_in refl c.seat.view_is seated in
    seated_still g.D.Disk.Tells g.D.Disk.files g.D.Disk.fault_count g.D.Disk.fuse_count (λ y. y.directory) (λ y. y.front) here c.hold-kept.ensures
    c.args.tag c.settle-answer.result.1 (sym seated.number ∙ c.requires.seated.1.number) c.settle-answer.ensures.act c.settle-answer.ensures.kept c.free.ensures c.settle-answer.ensures.shown)

pub returns-clause-settles : goal.returns-clause-settles
returns-clause-settles g c = rw (← c.seat.view_is) (λ begun lane seated start at.
    let here = seated_in c.self.view_is refl seated in
    let all = holding g.D.Disk.Tells g.D.Disk.files g.D.Disk.fault_count g.D.Disk.fuse_count (λ y. y.directory) (λ y. y.front) here c.hold-kept.ensures
    c.args.tag c.settle-answer.result.1 (sym seated.number ∙ (seated_in refl c.seat.view_is c.requires.seated.1).number) c.settle-answer.ensures.act c.settle-answer.ensures.kept
    c.free.ensures c.settle-answer.ensures.shown c.settle-answer.ensures.from in
    let settled = c.settle-answer.ensures.settles start begun c.hold-kept.new.seat.seen
    (kept_held g.D.Disk.Tells g.D.Disk.files g.D.Disk.fault_count g.D.Disk.fuse_count (λ y. y.directory) (λ y. y.front) here c.hold-kept.ensures) at in
    let before : DirectorySeatState g.row.D.Denot = record { turn = c.seat.inside.turn; view = c.seat.inside.view } in
    let after : DirectorySeatState g.row.D.Denot = record { turn = c.free.new.seat; view = c.settle-answer.new.view } in
    let row : HomeRow = record { pair = c.args.pair; volume = c.args.volume } in
    elim c.match-answer.branch [
      | in-Ok w ↦ subst (λ r. SettlesAs start row c.args.tag r (sight before) (sight after)) (sym w.result-is)
          (told_home start row all w.in-Ok.home c.self.inside.stood w.in-Ok.published w.all_rows.result (stood_first g.D.Disk.fault_count g.D.Disk.fuse_count start here at)
          w.all_rows.ensures (subst (λ r. Settles start row r c.hold-kept.new.seat.seen c.settle-answer.result.1) w.in-Ok.is settled))
      | in-Err w ↦ subst (λ r. SettlesAs start row c.args.tag r (sight before) (sight after)) (sym w.result-is)
          (told_refusal start row all w.in-Err.fault (subst (λ r. Settles start row r c.hold-kept.new.seat.seen c.settle-answer.result.1) w.in-Err.is settled))
    ])

pub returns-clause-below : goal.returns-clause-below
returns-clause-below g c = rw (← c.self.view_is)
    (let below = c.settle-answer.ensures.below in
    elim c.match-answer.branch [
      | in-Ok w ↦ subst (λ r. IfOk r (λ answer. answer.0 < (c.self.inside.settings).volumes)) (sym w.result-is)
          (subst (λ (s : Settings). w.in-Ok.home < s.volumes) (settings_held g.D.Disk.Tells g.D.Disk.files g.D.Disk.fault_count g.D.Disk.fuse_count (λ y. y.directory) (λ y. y.front)
          (seated_in c.self.view_is c.seat.view_is c.requires.seated.1) c.hold-kept.ensures)
          (subst (λ r. IfOk r (λ answer. answer.0 < (c.hold-kept.result.directory.settings).volumes)) w.in-Ok.is below))
      | in-Err w ↦ subst (λ r. IfOk r (λ answer. answer.0 < (c.self.inside.settings).volumes)) (sym w.result-is) tt
    ])

pub returns-clause-held : goal.returns-clause-held
returns-clause-held g c = rw (← c.seat.view_is) (record {
  held = c.hold-kept.new.seat.seen;
  made = c.settle-answer.result.1;
  holding = holding g.D.Disk.Tells g.D.Disk.files g.D.Disk.fault_count g.D.Disk.fuse_count (λ y. y.directory) (λ y. y.front)
      (seated_in c.self.view_is c.seat.view_is c.requires.seated.1) c.hold-kept.ensures
      c.args.tag c.settle-answer.result.1 refl c.settle-answer.ensures.act c.settle-answer.ensures.kept
      c.free.ensures c.settle-answer.ensures.shown c.settle-answer.ensures.from;
  is = c.settle-answer.ensures.unfused;
})
