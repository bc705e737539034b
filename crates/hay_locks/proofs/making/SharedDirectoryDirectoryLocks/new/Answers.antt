use Rattle.std.proofs.Common.{◌≡◌, ◌∙◌, Some, length, slice_get, refl, sym, ap, arith}
use Rattle.std.proofs.lemmas.Option.{slice_get_read}
use Rattle.hay_locks.proofs.Made.{are_at_rows, are_seated_rows, is_made_of_rows}
use Rattle.hay_locks.proofs.RegularRows.{is_regular_directory}
use Rattle.hay_locks.proofs.making.SharedDirectoryDirectoryLocks.new.Goals as goal

-- the first seat, of which there is one
first_seat : (g : _) (c : goal.After-of-first g) → slice_get c.in-Ok.field-0.seats.items 0 ≡ Some c.of-first.result.value
first_seat g c =
    let many = ((c.in-Ok.ensures.made.5).seated).many in
    let some = ((c.in-Ok.ensures.made.5).seated).some in
    slice_get_read c.in-Ok.field-0.seats.items (length c.in-Ok.field-0.seats.items) 0 c.index.result.now refl (omega (arith, many, some)) c.index.ensures ∙ ap Some (sym c.of-first.ensures)

pub returns-in-Ok-clause-made : goal.returns-in-Ok-clause-made
returns-in-Ok-clause-made g c =
    let made = c.in-Ok.ensures.made in
    is_made_of_rows (record { lock = c.in-Ok.field-0.lock; first = c.of-first.result }) c.args.directory made.0 made.1 c.in-Ok.field-0.seats.items made.5 (first_seat g c)
    c.args.settings c.in-Ok.field-0.room c.args.lanes made.3 made.4 c.requires.some c.requires.of

pub returns-in-Ok-clause-seated : goal.returns-in-Ok-clause-seated
returns-in-Ok-clause-seated g c =
    let made = c.in-Ok.ensures.made in
    are_seated_rows (record { lock = c.in-Ok.field-0.lock; first = c.of-first.result }) c.args.directory made.0 made.1 c.in-Ok.field-0.seats.items made.5 (first_seat g c)
    c.args.settings c.args.lanes made.2 made.3

pub returns-in-Ok-clause-told : goal.returns-in-Ok-clause-told
returns-in-Ok-clause-told g c =
    let made = c.in-Ok.ensures.made in
    are_at_rows {P = g.row.D-Piece.Denot} (record { lock = c.in-Ok.field-0.lock; first = c.of-first.result }) c.args.directory made.0 made.1 c.in-Ok.field-0.seats.items made.5 (first_seat g c)
    g.D.Disk.Tells g.D.Disk.files g.D.Disk.fault_count g.D.Disk.fuse_count

pub returns-in-Ok-clause-regular : goal.returns-in-Ok-clause-regular
returns-in-Ok-clause-regular g c known drained stands =
    is_regular_directory g.D.Disk.files (λ disk n. g.met.D.Disk.may_leave_now disk n stands.tells) c.args.directory c.args.settings known drained (c.requires.of).settings_are
    stands.stands c.is_frozen-frozen.ensures.within

pub returns-in-Err-clause-regular : goal.returns-in-Err-clause-regular
returns-in-Err-clause-regular g c known drained stands =
    is_regular_directory g.D.Disk.files (λ disk n. g.met.D.Disk.may_leave_now disk n stands.tells) c.args.directory c.args.settings known drained (c.requires.of).settings_are
    stands.stands c.is_frozen-frozen.ensures.within
