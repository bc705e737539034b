use Rattle.std.proofs.Common.{◌∙◌, true, sym, subst, ap}
use Rattle.hay_compact.specs.Standing.{last_in}
use Rattle.hay_volume.specs.Cells.{with_flag}
use Rattle.hay_compact.specs.Copying.{Copying, IsMaking, Stage}
use Rattle.hay_compact.proofs.Copyings.{making_of}
use Rattle.hay_compact.proofs.Repeated.{repeats_nothing, making_flag_stands, flag_makes, repeats_flag}
use Rattle.hay_compact.proofs.compactor.Compactor.repeat_delete.Goals as goal

pub returns-in_default-clause-repeated : goal.returns-in_default-clause-repeated
returns-in_default-clause-repeated g c = λ tells sup old current fresh examined copying.
    repeats_nothing sup (g.D.Disk.files c.args.disk.now) old c.args.self.now current fresh examined c.args.pair copying
    (ap (λ (x : Stage). last_in x.standing c.args.pair) (sym c.self.view_is) ∙ sym c.in_default.ensures.last)

pub flag_loose-requires-clause-stands : goal.flag_loose-requires-clause-stands
flag_loose-requires-clause-stands g c = λ tells.
    let s : Stage = record {
      generation = c.self.inside.generation;
      capacity = c.self.inside.capacity;
      volume = c.self.inside.volume;
      index = c.self.inside.index;
      standing = c.self.inside.standing;
      next = c.self.inside.next;
      bytes = c.self.inside.bytes.items;
    } in
    making_flag_stands (g.D.Disk.files c.args.disk.now) s c.in-Some.last c.args.pair (subst (λ (x : Stage). IsMaking (g.D.Disk.files c.args.disk.now) x) (sym c.self.view_is)
    (c.requires tells)) (sym c.in-Some.ensures.last)

pub returns-clause-making : goal.returns-clause-making
returns-clause-making g c = λ tells.
    let s : Stage = record {
      generation = c.self.inside.generation;
      capacity = c.self.inside.capacity;
      volume = c.self.inside.volume;
      index = c.self.inside.index;
      standing = c.self.inside.standing;
      next = c.self.inside.next;
      bytes = c.self.inside.bytes.items;
    } in
    let under = subst (λ (x : Stage). IsMaking (g.D.Disk.files c.args.disk.now) x) (sym c.self.view_is) (c.requires tells) in
    record {
      sup = under.sup;
      fresh = with_flag c.in-Some.last.at true under.fresh;
      making =
          flag_makes under.sup (g.D.Disk.files c.args.disk.now) (g.D.Disk.files c.flag_loose.new.disk) s c.set.new.self under.fresh c.in-Some.last c.args.pair under.making (sym c.in-Some.ensures.last)
          (c.in_ok-flag_loose.ensures.flagged tells) (c.flag_loose.ensures.changes tells).free (c.flag_loose.ensures.others tells) c.set.ensures;
    }

pub returns-clause-repeated : goal.returns-clause-repeated
returns-clause-repeated g c = λ tells sup old current fresh examined copying.
    let s : Stage = record {
      generation = c.self.inside.generation;
      capacity = c.self.inside.capacity;
      volume = c.self.inside.volume;
      index = c.self.inside.index;
      standing = c.self.inside.standing;
      next = c.self.inside.next;
      bytes = c.self.inside.bytes.items;
    } in
    let h = subst (λ (x : Stage). Copying sup (g.D.Disk.files c.args.disk.now) old x current fresh examined) (sym c.self.view_is) copying in
    let made =
    flag_makes sup (g.D.Disk.files c.args.disk.now) (g.D.Disk.files c.flag_loose.new.disk) s c.set.new.self fresh c.in-Some.last c.args.pair
    (making_of sup (g.D.Disk.files c.args.disk.now) old s current fresh examined h) (sym c.in-Some.ensures.last)
    (c.in_ok-flag_loose.ensures.flagged tells) (c.flag_loose.ensures.changes tells).free (c.flag_loose.ensures.others tells) c.set.ensures in
    repeats_flag sup (g.D.Disk.files c.args.disk.now) (g.D.Disk.files c.flag_loose.new.disk) old s c.set.new.self current fresh examined c.in-Some.last c.args.pair h
    (sym c.in-Some.ensures.last) (c.flag_loose.ensures.others tells) made
