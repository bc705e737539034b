use Rattle.std.proofs.Common.{Err, ap, arith}
use Rattle.hay_volume.specs.declared.volume.VolumeFile.{VolumeFile}
use Rattle.hay_batch.proofs.Openings.{opened_as, opened_formatted}
use Rattle.hay_batch.proofs.opening.open_file.Goals as goal

pub returns-in-Ok-clause-opened : goal.returns-in-Ok-clause-opened
returns-in-Ok-clause-opened g c =
    let told = c.in-Ok.ensures in
    record {
      opened = λ tells s is. opened_as g.D.Disk.files c.open_replica.new.disk c.args.sup.now s c.in-Ok.opened (told.opened tells s is);
      ready = λ tells. (told.ready tells).volume;
      recalls = record {
        from = (let from = told.from in omega (arith, from));
        room = told.capacity;
        found = λ tells s is. ap (λ (v : VolumeFile). v.end) (opened_as g.D.Disk.files c.open_replica.new.disk c.args.sup.now s c.in-Ok.opened (told.opened tells s is)).volume;
      };
      sound = λ tells. record {
        before = told.undamaged tells;
        behind = told.undamaged_now tells;
        formatted = opened_formatted g.D.Disk.files c.args.disk.now c.open_replica.new.disk c.args.sup.now c.in-Ok.opened (told.kept tells) (told.opened tells);
      };
      disk = record { kept = told.kept; stays = told.stays; nothing = told.nothing; later = told.counts; fuses = told.fuses };
    }

pub returns-in-Err-clause-refused : goal.returns-in-Err-clause-refused
returns-in-Err-clause-refused g c =
    let told = c.in-Err.ensures in
    record {
      disk = record { kept = told.kept; stays = told.stays; nothing = told.nothing; later = told.counts; fuses = told.fuses };
      failed = told.failed;
      file = λ file at is. told.file file at (ap Err is);
      damaged = λ tells file at is. told.damaged tells file at (ap Err is);
      only = λ tells file at is s opens. told.only tells s opens file at (ap Err is);
    }
