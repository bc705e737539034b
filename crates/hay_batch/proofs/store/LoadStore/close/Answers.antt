use Rattle.std.proofs.Common.{◌+◌, ◌*◌, sym, subst, arith}
use Rattle.hay_disk.specs.Shelf.{HeldDisk}
use Rattle.hay_mount.specs.Mounts.{IsGivenDisk}
use Rattle.hay_batch.proofs.Closing.{each_back}
use Rattle.hay_batch.proofs.store.LoadStore.close.Goals as goal

pub returns-clause-given : goal.returns-clause-given
returns-clause-given g c = record {
  directory = record {
    drawn_is = c.give_disk.ensures.drawn;
    files_are = c.give_disk.ensures.files;
    fault_count = c.give_disk.ensures.faults;
    fuse_count = c.give_disk.ensures.fuses;
    back = c.give_disk.ensures.back;
  };
  replicas = λ v j r there.
      subst (λ (held : HeldDisk). IsGivenDisk g.D.Disk.Tells g.D.Disk.files g.D.Disk.drawn g.D.Disk.fault_count g.D.Disk.fuse_count held r.disk)
      (sym (c.give_disk.ensures.others (1 + v * c.args.self.settings.replicas + j) (λ zeroth. absurd (omega (arith, zeroth)))))
      (c.give_volumes.ensures.given v j there.0 r there.1 there.2);
}

pub returns-clause-back : goal.returns-clause-back
returns-clause-back g c = each_back g.D.Disk.Tells g.D.Disk.files g.D.Disk.drawn g.D.Disk.fault_count g.D.Disk.fuse_count c.args.self (g.H.Shelf.disks c.give_disk.new.self) c.requires.shape (record {
  directory = record {
    drawn_is = c.give_disk.ensures.drawn;
    files_are = c.give_disk.ensures.files;
    fault_count = c.give_disk.ensures.faults;
    fuse_count = c.give_disk.ensures.fuses;
    back = c.give_disk.ensures.back;
  };
  replicas = λ v j r there.
      subst (λ (held : HeldDisk). IsGivenDisk g.D.Disk.Tells g.D.Disk.files g.D.Disk.drawn g.D.Disk.fault_count g.D.Disk.fuse_count held r.disk)
      (sym (c.give_disk.ensures.others (1 + v * c.args.self.settings.replicas + j) (λ zeroth. absurd (omega (arith, zeroth)))))
      (c.give_volumes.ensures.given v j there.0 r there.1 there.2);
})
