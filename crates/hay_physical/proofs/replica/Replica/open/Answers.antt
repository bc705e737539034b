use Rattle.std.proofs.Common.{◌≡◌, ◌∙◌, ap, arith, length, refl, subst, Err, sym}
use Rattle.std.proofs.lemmas.List.{length-map}
use Rattle.std.proofs.lemmas.Result.{err_from_is_err_and}
use Rattle.hay_open.specs.Damage.{IsOpeningDamage}
use Rattle.hay_open.specs.Stored.{IsVoid, cell_record, fresh_stored, volume_file}
use Rattle.hay_physical.specs.OpenCopies.{Copy}
use Rattle.hay_physical.proofs.Apartness.{found_apart}
use Rattle.hay_physical.proofs.Whole.{found_live, found_whole}
use Rattle.hay_physical.specs.Draws.{DrewRecorded}
use Rattle.hay_physical.proofs.Deleting.{found_deletes}
use Rattle.hay_physical.proofs.Drawing.{opening_draws}
use Rattle.hay_physical.proofs.Holding.{finds_now, finds_opens}
use Rattle.hay_physical.proofs.Openings.{disk_finds, disk_opens, finds_kept, finds_not_void, on_any, opened_ready, opened_stands, same_fault}
use Rattle.hay_physical.proofs.Views.{open_stands}
use Rattle.hay_physical.proofs.RunLaws.{bounded_ended, not_ended, settled_none}
use Rattle.hay_physical.proofs.Seeing.{found_sees, stands_shows}
use Rattle.hay_physical.proofs.replica.Replica.open.Goals as goal

pub returns-in_err-head-clause-left : goal.returns-in_err-head-clause-left
returns-in_err-head-clause-left g c = λ tells stuck s t holds.
    let files = g.D.Disk.files in
    let was = c.self.inside in
    let left = g.met.D.Disk.may_leave_now was.disk in
    let finds = disk_finds files c.args.self.now (record { sup = was.sup; disk = was.disk; phase = was.phase }) stuck s t c.self.view_is holds in
    let void = finds_not_void was.sup (files was.disk) stuck s t (λ n. left n tells) finds in
    on_any c.from_residual.result _ (finds_kept was.sup (files was.disk) (files c.open_replica.new.disk) stuck s t (λ n. left n tells) (c.in_err-head.ensures.kept tells void)
    (c.in_err-head.ensures.stays tells void) finds)

pub returns-in_err-head-clause-file : goal.returns-in_err-head-clause-file
returns-in_err-head-clause-file g c = λ file at is.
    let fault = err_from_is_err_and c.from_residual.result c.from_residual.ensures.1 in
    c.in_err-head.ensures.file file at (ap (λ x. Err x) (same_fault c.from_residual.result fault.0 c.in_err-head.field-0.0 file at fault.1 fault.2 is))

pub returns-in_err-head-clause-damaged : goal.returns-in_err-head-clause-damaged
returns-in_err-head-clause-damaged g c = λ tells file at is.
    let fault = err_from_is_err_and c.from_residual.result c.from_residual.ensures.1 in
    let damage = c.in_err-head.ensures.damaged tells file at (ap (λ x. Err x) (same_fault c.from_residual.result fault.0 c.in_err-head.field-0.0 file at fault.1 fault.2 is)) in
    subst (λ (x : Copy _). IsOpeningDamage x.sup (λ n. (g.D.Disk.files x.disk n).now) file at) c.self.view_is damage

pub returns-in_err-head-clause-only : goal.returns-in_err-head-clause-only
returns-in_err-head-clause-only g c = λ tells s opens file at is.
    let was = c.self.inside in
    let fault = err_from_is_err_and c.from_residual.result c.from_residual.ensures.1 in
    c.in_err-head.ensures.only tells s (disk_opens g.D.Disk.files c.args.self.now (record { sup = was.sup; disk = was.disk; phase = was.phase }) s c.self.view_is opens) file at
    (ap (λ x. Err x) (same_fault c.from_residual.result fault.0 c.in_err-head.field-0.0 file at fault.1 fault.2 is))

pub returns-in_err-head-clause-whole : goal.returns-in_err-head-clause-whole
returns-in_err-head-clause-whole g c = λ tells stuck s t holds file at is.
    let files = g.D.Disk.files in
    let was = c.self.inside in
    let left = g.met.D.Disk.may_leave_now was.disk in
    let finds = disk_finds files c.args.self.now (record { sup = was.sup; disk = was.disk; phase = was.phase }) stuck s t c.self.view_is holds in
    let f = finds_now was.sup (files was.disk) stuck s t (λ n. left n tells) finds in
    let fault = err_from_is_err_and c.from_residual.result c.from_residual.ensures.1 in
    c.in_err-head.ensures.only tells f.found (finds_opens was.sup _ stuck s t f) file at
    (ap (λ x. Err x) (same_fault c.from_residual.result fault.0 c.in_err-head.field-0.0 file at fault.1 fault.2 is))

pub invariant_of-self-2 : goal.invariant_of-self-2
invariant_of-self-2 g c = (
  λ tells going. (opened_ready (g.D.Disk.files c.open_replica.new.disk) c.in_ok-head.field-0 (c.in_ok-head.ensures.ready tells), λ stage is. not_ended _ 0 stage refl is),
  settled_none _ refl,
  bounded_ended c.self.inside.sup.settings.capacity _ 0 c.in_ok-head.ensures.number c.in_ok-head.ensures.capacity c.in_ok-head.ensures.most (omega (arith, c.in_ok-head.ensures.from)) refl,
)

pub returns-clause-opened : goal.returns-clause-opened
returns-clause-opened g c = λ tells s opens.
    let files = g.D.Disk.files in
    let was = c.self.inside in
    let done = c.in_ok-head.ensures in
    let here = disk_opens files c.args.self.now (record { sup = was.sup; disk = was.disk; phase = was.phase }) s c.self.view_is opens in (
      open_stands files was.sup c.open_replica.new.disk _ s refl (opened_stands was.sup (files c.open_replica.new.disk) c.in_ok-head.field-0 s (done.opened tells s here) done.open),
      done.places tells s here,
    )

pub returns-clause-reads : goal.returns-clause-reads
returns-clause-reads g c = λ tells.
    let read = c.in_ok-head.ensures.reads tells in
    record {
      records = read.records;
      orphans = read.orphans;
      reads = record { index_end = c.in_ok-head.field-0.index.end; recorded = read.recorded; behind = read.behind };
      bare = ap length read.noted ∙ length-map read.orphans cell_record;
      cells = read.cells;
    }

pub returns-clause-reopened : goal.returns-clause-reopened
returns-clause-reopened g c = λ tells stuck s t holds.
    let files = g.D.Disk.files in
    let was = c.self.inside in
    let done = c.in_ok-head.ensures in
    let left = g.met.D.Disk.may_leave_now was.disk in
    let finds = disk_finds files c.args.self.now (record { sup = was.sup; disk = was.disk; phase = was.phase }) stuck s t c.self.view_is holds in
    let f = finds_now was.sup (files was.disk) stuck s t (λ n. left n tells) finds in
    let here = finds_opens was.sup _ stuck s t f in (
      f.found,
      f.like,
      open_stands files was.sup c.open_replica.new.disk _ f.found refl (opened_stands was.sup (files c.open_replica.new.disk) c.in_ok-head.field-0 f.found (done.opened tells f.found here) done.open),
      done.places tells f.found here,
    )

pub returns-clause-kept : goal.returns-clause-kept
returns-clause-kept g c = λ tells void n.
    let files = g.D.Disk.files in
    let was = c.self.inside in
    let here : IsVoid (λ n. (files was.disk n).now) → ⊥ = λ empty. void (subst (λ (x : Copy _). IsVoid (λ n. (files x.disk n).now)) c.self.view_is empty) in (
      subst (λ (x : Copy _). (files c.open_replica.new.disk n).now ≡ (files x.disk n).now) c.self.view_is (c.in_ok-head.ensures.kept tells here n),
      c.in_ok-head.ensures.stays tells here n,
    )

pub returns-clause-can_delete : goal.returns-clause-can_delete
returns-clause-can_delete g c = λ tells pair. found_deletes g.D.Disk.files c.self.inside.sup c.open_replica.new.disk _ c.in_ok-head.field-0.cells.items (c.in_ok-head.ensures.flags tells) pair

pub returns-clause-undamaged : goal.returns-clause-undamaged
returns-clause-undamaged g c = λ tells file at damage.
    c.in_ok-head.ensures.undamaged tells file at (subst (λ (x : Copy _). IsOpeningDamage x.sup (λ n. (g.D.Disk.files x.disk n).now) file at) (sym c.self.view_is) damage)

pub returns-clause-undamaged_now : goal.returns-clause-undamaged_now
returns-clause-undamaged_now g c = λ tells file at damage.
    c.in_ok-head.ensures.undamaged_now tells file at (subst (λ (x : Copy _). IsOpeningDamage x.sup (λ n. (g.D.Disk.files c.open_replica.new.disk n).now) file at) (sym c.self.view_is) damage)

pub returns-clause-nothing : goal.returns-clause-nothing
returns-clause-nothing g c = λ tells void image leaves other s opens.
    let files = g.D.Disk.files in
    let here : IsVoid (λ n. (files c.self.inside.disk n).now) = subst (λ (x : Copy _). IsVoid (λ n. (files x.disk n).now)) (sym c.self.view_is) void in
    c.in_ok-head.ensures.nothing tells here image leaves other s opens

pub returns-in_err-head-clause-nothing : goal.returns-in_err-head-clause-nothing
returns-in_err-head-clause-nothing g c = λ tells void image leaves other s opens.
    let files = g.D.Disk.files in
    let here : IsVoid (λ n. (files c.self.inside.disk n).now) = subst (λ (x : Copy _). IsVoid (λ n. (files x.disk n).now)) (sym c.self.view_is) void in
    c.in_err-head.ensures.nothing tells here image leaves other s opens

pub returns-clause-can_see : goal.returns-clause-can_see
returns-clause-can_see g c = λ tells pair.
    let done = c.in_ok-head.ensures in
    let ready = done.ready tells in
    found_sees g.D.Disk.files c.self.inside.sup c.open_replica.new.disk _ c.in_ok-head.field-0.cells.items (done.solid tells c.in_ok-head.field-0.volume.file) ready.volume (done.flags tells) pair

pub returns-clause-shows : goal.returns-clause-shows
returns-clause-shows g c = λ tells s stands. stands_shows g.D.Disk.files _ s stands

pub returns-clause-apart : goal.returns-clause-apart
returns-clause-apart g c = λ tells.
    let done = c.in_ok-head.ensures in
    found_apart g.D.Piece.Piece.Tells c.self.inside.sup (λ n. (g.D.Disk.files c.self.inside.disk n).now) c.in_ok-head.field-0 (done.whole tells) (done.places tells fresh_stored)

pub returns-clause-needles : goal.returns-clause-needles
returns-clause-needles g c = λ tells.
    let done = c.in_ok-head.ensures in
    found_whole g.D.Piece.Piece.Tells c.self.inside.sup (λ n. (g.D.Disk.files c.self.inside.disk n).now) c.in_ok-head.field-0 (done.whole tells) (done.places tells fresh_stored)

pub returns-clause-live : goal.returns-clause-live
returns-clause-live g c = λ tells.
    let files = g.D.Disk.files in
    let done = c.in_ok-head.ensures in
    found_live g.D.Piece.Piece.Tells c.self.inside.sup (λ n. (files c.self.inside.disk n).now)
    (files c.open_replica.new.disk (volume_file c.in_ok-head.field-0.head.generation)).now c.in_ok-head.field-0
    (done.whole tells) (done.places tells fresh_stored) (λ some. done.kept tells some (volume_file c.in_ok-head.field-0.head.generation))

pub returns-clause-drawn : goal.returns-clause-drawn
returns-clause-drawn g c = λ tells.
    let files = g.D.Disk.files in
    let drawn = g.D.Disk.drawn in
    let done = c.in_ok-head.ensures in
    subst (λ (x : Copy _). DrewRecorded x.sup (λ n. (files c.open_replica.new.disk n).now) (drawn x.disk) (drawn c.open_replica.new.disk) c.in_ok-head.field-0.cells.items) c.self.view_is
    (opening_draws g.D.Piece.Piece.Tells c.self.inside.sup (files c.self.inside.disk) (files c.open_replica.new.disk) c.in_ok-head.field-0 (drawn c.self.inside.disk) (drawn c.open_replica.new.disk)
    (done.ready tells).volume_number (done.drawn tells) (done.whole tells) (done.opened tells fresh_stored) (done.places tells fresh_stored) (done.kept tells))
