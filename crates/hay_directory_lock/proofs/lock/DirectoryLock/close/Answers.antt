use Rattle.std.proofs.Common.{◌≡◌, List, sym, subst, ◌∙◌}
use Rattle.std.specs.List.{AllByRecursion as Each}
use Rattle.hay_views.specs.HomeLooks.{HomesShown}
use Rattle.hay_directory_lock.specs.Opening.{AreSeated}
use Rattle.hay_directory_lock.specs.Seats.{LockState}
use Rattle.hay_directory_lock.proofs.Opening.{all_seats, closes, views_of}
use Rattle.hay_directory_lock.proofs.lock.DirectoryLock.close.Goals as goal

pub close-directory-requires : goal.close-directory-requires
close-directory-requires g c =
    all_seats g.D.Disk.Tells g.D.Disk.files g.D.Disk.fault_count g.D.Disk.fuse_count
    (subst (λ (l : LockState). AreSeated l c.requires.seats.0 c.args.seats.items) (sym c.self.view_is) c.requires.seats.1)
    c.apart-turns.ensures.turns

pub show_each-requires : goal.show_each-requires
show_each-requires g c =
    subst (λ (l : List HomesShown). Each (λ v. v.front ≡ c.close-directory.result.front.shown.front) l) (sym c.as_mut_slice.ensures.value)
    (views_of g.D.Disk.Tells g.D.Disk.files g.D.Disk.fault_count g.D.Disk.fuse_count
    (subst (λ (l : LockState). AreSeated l c.requires.seats.0 c.args.seats.items) (sym c.self.view_is) c.requires.seats.1)
    c.apart-turns.ensures.turns (λ y. y.directory) (λ y. y.front) c.close-directory.result c.close-directory.ensures c.apart-turns.ensures.views)

pub returns : goal.returns
returns g c = rw (← c.self.view_is) (λ begun are.
    closes g.D.Disk.Tells g.D.Disk.files g.D.Disk.fault_count g.D.Disk.fuse_count are c.apart-turns.ensures.turns (λ y. y.directory) (λ y. y.front) c.close-directory.result c.close-directory.ensures
    (c.as_mut_slice.ensures.value ∙ c.apart-turns.ensures.views) c.close-tags.result.items c.show_each.ensures c.close-tags.ensures.tags)
