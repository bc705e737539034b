use Rattle.std.proofs.Common.{◌≡◌, ℕ, true, refl, sym, ap, subst, ◌∙◌, arith, inl, inr}
use Rattle.std.proofs.lemmas.Bool.{cases_lt}
use Rattle.hay_disk.specs.Shelf.{HeldDisk}
use Rattle.hay_mount.specs.Mounts.{InOrder, IsMountedDisk}
use Rattle.hay_mount.proofs.Giving.{disks_back}
use Rattle.hay_mount.proofs.Orders.{InOrder-snoc}
use Rattle.hay_mount.proofs.disks.take_disks.Goals as goal

pub returns-in-Err-Failed-clause-put_back : goal.returns-in-Err-Failed-clause-put_back
returns-in-Err-Failed-clause-put_back g c =
    let loop = c.loop-slot.invariant in
    let same : g.H.Shelf.disks c.take_disk.new.self ≡ g.H.Shelf.disks c.loop-slot.shelf = c.in-Err-Failed.ensures.refused refl in
    disks_back g.H.Disk.Disk.Tells g.H.Disk.Disk.files g.H.Disk.Disk.drawn g.H.Disk.Disk.fault_count g.H.Disk.Disk.fuse_count c.args.slots c.loop-slot.disks.items
    (g.H.Shelf.disks c.args.shelf.now) (g.H.Shelf.disks c.loop-slot.shelf) (g.H.Shelf.disks c.give_disks.new.shelf)
    c.requires.disks_in loop.taken (λ number high. loop.rest number (omega (arith, loop.count)))
    c.give_disks.ensures.given (λ number high. c.give_disks.ensures.others number high ∙ ap (λ (held : ℕ → HeldDisk). held number) same)

pub returns-in-Err-NoMemory-clause-put_back : goal.returns-in-Err-NoMemory-clause-put_back
returns-in-Err-NoMemory-clause-put_back g c =
    let loop = c.loop-slot.invariant in
    let same : g.H.Shelf.disks c.take_disk.new.self ≡ g.H.Shelf.disks c.loop-slot.shelf = c.in-Err-NoMemory.ensures.refused refl in
    disks_back g.H.Disk.Disk.Tells g.H.Disk.Disk.files g.H.Disk.Disk.drawn g.H.Disk.Disk.fault_count g.H.Disk.Disk.fuse_count c.args.slots c.loop-slot.disks.items
    (g.H.Shelf.disks c.args.shelf.now) (g.H.Shelf.disks c.loop-slot.shelf) (g.H.Shelf.disks c.give_disks-in-Err-NoMemory.new.shelf)
    c.requires.disks_in loop.taken (λ number high. loop.rest number (omega (arith, loop.count)))
    c.give_disks-in-Err-NoMemory.ensures.given (λ number high. c.give_disks-in-Err-NoMemory.ensures.others number high ∙ ap (λ (held : ℕ → HeldDisk). held number) same)

pub loop-slot-preserved : goal.loop-slot-preserved
loop-slot-preserved g c =
    let loop = c.loop-slot.invariant in
    let old = g.H.Shelf.disks c.args.shelf.now in
    let same : g.H.Shelf.disks c.loop-slot.shelf c.loop-slot.slot ≡ old c.loop-slot.slot = loop.rest c.loop-slot.slot (omega arith) in
    let P : ℕ → g.row.H-Disk.Denot → Type 0 =
    λ number disk. IsMountedDisk g.H.Disk.Disk.Tells g.H.Disk.Disk.files g.H.Disk.Disk.drawn g.H.Disk.Disk.fault_count g.H.Disk.Disk.fuse_count (old number) disk in
    let taken : P c.loop-slot.slot c.in-Ok.disk = record {
      drawn_is = λ tells file. c.in-Ok.ensures.drawn tells file ∙ ap (λ (held : HeldDisk). held.drawn file) same;
      now = λ tells file. c.in-Ok.ensures.now tells file ∙ ap (λ (held : HeldDisk). (held.files file).now) same;
      solid = c.in-Ok.ensures.solid;
      free = c.in-Ok.ensures.free;
      fault_count = c.in-Ok.ensures.faults ∙ ap (λ (held : HeldDisk). held.fault_count) same;
      fuse_count = c.in-Ok.ensures.fuses ∙ ap (λ (held : HeldDisk). held.fuse_count) same;
    } in
    record {
      taken = subst (λ items. InOrder P 0 items) (sym c.push_reserved.ensures.items)
          (InOrder-snoc P 0 c.loop-slot.disks.items c.in-Ok.disk loop.taken (subst (λ number. P number c.in-Ok.disk) (omega (arith, loop.count)) taken));
      count = omega (arith, c.push_reserved.ensures.len, c.push_reserved.new.self.ok.0, c.loop-slot.disks.ok.0, loop.count);
      room = c.push_reserved.ensures.capacity ∙ loop.room;
      out = λ number below. elim (cases_lt number c.loop-slot.slot) [
        | inl less ↦ ap (λ (held : HeldDisk). held.is_out) (c.take_disk.ensures.others number (λ is. absurd (omega arith))) ∙ loop.out number less
        | inr more ↦ subst (λ number'. (g.H.Shelf.disks c.take_disk.new.self number').is_out ≡ true) (omega arith) c.in-Ok.ensures.out
      ];
      rest = λ number high. c.take_disk.ensures.others number (λ is. absurd (omega arith)) ∙ loop.rest number (omega arith);
      others = c.take_disk.ensures.lanes ∙ loop.others;
      counted = omega (arith, loop.counted, c.take_disk.ensures.counted.later);
    }
