use Rattle.std.proofs.Common.{Err, ap, inr, map}
use Rattle.hay_directory.specs.Rows.{home_row}
use Rattle.hay_cluster.proofs.OpeningDirectory.{directory_refused}
use Rattle.hay_cluster.proofs.opening.open_directory.Goals as goal

pub returns-in-Err-clause-refused : goal.returns-in-Err-clause-refused
returns-in-Err-clause-refused g c =
    let e = c.in-Err.ensures in
    directory_refused g.D.Disk.Tells g.D.Disk.files g.D.Disk.fault_count c.args.directory.now c.open_rows.new.self c.in-Err.fault c.no_directory.result c.no_directory.ensures
    (λ n is. e.failed n (ap Err is)) (λ tells file at is. e.damaged tells file at (ap Err is)) (λ file at is. e.file file at (ap Err is))
    (λ tells rows file at opens is. e.whole tells rows file at opens (ap Err is))

pub returns-in-Ok-clause-opened : goal.returns-in-Ok-clause-opened
returns-in-Ok-clause-opened g c =
    let e = c.in-Ok.ensures in
    record {
      up = e.up;
      first = λ tells fresh. let found = e.opened tells fresh in (found.0, (map home_row c.in-Ok.opened.rows.items, found.1, found.2));
      reopened = λ tells known stopped. let found = e.reopened tells known stopped in (found.0, found.1, found.3);
      undamaged = e.undamaged;
      undamaged_now = e.undamaged_now;
      formatted = e.formatted;
      told = e.told;
      fits = e.fits;
      seen = (map home_row c.in-Ok.opened.rows.items, e.within, e.seen);
      reads = λ tells fresh. (e.opened tells fresh).1;
      reads_now = e.rows;
    }

pub returns-in-Ok-clause-moves : goal.returns-in-Ok-clause-moves
returns-in-Ok-clause-moves g c =
    let e = c.in-Ok.ensures in
    record {
      settings = e.settings;
      later = e.later;
      fuses_stay = e.fuses;
      same = e.same;
      nothing = λ tells void image rows other is opens. e.nothing tells void image rows other is opens;
      left = λ tells known stopped. let found = e.reopened tells known stopped in inr (found.0, found.3);
    }
