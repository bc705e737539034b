use Rattle.std.proofs.Common.{◌≡◌, ◌<◌, ◌∙◌, ℕ, List, All, Err, ap, sym, subst, inl, inr, length, arith}
use Rattle.hay_disk.specs.Disk.{Files}
use Rattle.hay_needle.specs.declared.settings.Super.{Super}
use Rattle.hay_needle.specs.Super.{super_bytes}
use Rattle.hay_dirfile.specs.Journal.{IsDamagedJournal, IsJournal}
use Rattle.hay_dirfile.specs.declared.row.DirRow.{DirRow}
use Rattle.std.proofs.lemmas.Result.{err_from_is_err_and}
use Rattle.hay_batch.specs.Homes.{AreHomes}
use Rattle.hay_batch.specs.Slots.{RefusesJournal}
use Rattle.hay_batch.proofs.Lists.{passed_on}
use Rattle.hay_batch.proofs.Openings.{homes_are, journal_holds, rows_read}
use Rattle.hay_batch.proofs.opening.open_journal.Goals as goal

pub returns-in_err-journal-clause-refused : goal.returns-in_err-journal-clause-refused
returns-in_err-journal-clause-refused g c =
    let told = c.in_err-journal.ensures in
    let same = c.journal_super-sup.ensures in
    let p = err_from_is_err_and c.from_residual.result c.from_residual.ensures.1 in
    passed_on c.from_residual.result (RefusesJournal g.D.Disk.Tells g.D.Disk.files g.D.Disk.fault_count g.D.Disk.fuse_count c.args.settings.now c.args.disk.now c.open.new.disk)
    c.in_err-journal.field-0.0 p.0 p.1 p.2 (record {
      disk = record { same = told.same; nothing = told.nothing; later = told.later; fuses = told.fuses };
      failed = λ faults is. let both = told.failed faults (ap Err is) in (both.1, both.0);
      file = λ file at is. told.file file at (ap Err is);
      damaged = λ tells file at is.
          let damage = told.damaged tells file at (ap Err is) in
          (damage.1, subst (λ (sup : Super). IsDamagedJournal sup (g.D.Disk.files c.args.disk.now 0).now at) same damage.2);
      only = λ tells file at is rows opens. elim opens [
        | inl void ↦ let damage = told.damaged tells file at (ap Err is) in absurd (let some = damage.1 in let none = ap (λ (l : List ℕ). length l) void.0 in omega (arith, some, none))
        | inr journal ↦ told.only tells rows file at (subst (λ (sup : Super). IsJournal (super_bytes sup) sup.settings.volumes (g.D.Disk.files c.args.disk.now 0).now rows)
            (sym same) journal) (ap Err is)
      ];
    })

pub returns-clause-opened : goal.returns-clause-opened
returns-clause-opened g c =
    let told = c.in_ok-journal.ensures in
    let items = c.in_ok-journal.rows.items in
    let same = c.journal_super-sup.ensures in
    let homes : AreHomes c.add_rows.new.self items =
    subst (λ (l : List DirRow). AreHomes c.add_rows.new.self l) c.as_slice.ensures.value
    (homes_are c.new-homes.result c.add_rows.new.self c.as_slice.result.now c.new-homes.ensures c.in-Ok.ensures) in
    let count : c.len-rows.result ≡ length items = c.len-rows.ensures ∙ c.in_ok-journal.rows.ok.0 in
    record {
      opened =
          λ tells rows is. journal_holds g.D.Disk.files c.args.settings.now c.journal_super-sup.result c.open.new.disk
          (record { journal = c.in_ok-journal.journal; homes = c.add_rows.new.self; rows = c.len-rows.result }) items rows same
          (elim is [
            | inl void ↦ told.void tells void.0 ∙ sym void.1
            | inr journal ↦ told.exact tells rows (subst (λ (sup : Super). IsJournal (super_bytes sup) sup.settings.volumes (g.D.Disk.files c.args.disk.now 0).now rows) (sym same) journal)
          ])
          (record { is = told.rows tells; end = told.end tells; solid = told.rest tells; ready = told.next tells; homes = homes; count = count });
      ready = λ tells. told.next tells;
      recalls = record {
        rows = items;
        are = homes;
        many = count;
        within = subst (λ (sup : Super). All (λ (row : DirRow). row.volume < sup.settings.volumes) items) same told.within;
        reads = λ tells. rows_read c.args.settings.now c.journal_super-sup.result (g.D.Disk.files c.args.disk.now 0).now (g.D.Disk.files c.open.new.disk 0).now items same
            (told.void tells) (λ some. ap (λ (f : Files). (f 0).now) (told.same tells some)) (told.rows tells);
      };
      sound = λ tells. record {
        before = λ some at damage. told.undamaged tells some at (subst (λ (sup : Super). IsDamagedJournal sup (g.D.Disk.files c.args.disk.now 0).now at) (sym same) damage);
        behind = λ at damage. told.undamaged_now tells at (subst (λ (sup : Super). IsDamagedJournal sup (g.D.Disk.files c.open.new.disk 0).now at) (sym same) damage);
        formatted = λ void. (let room = (told.rows tells).closed.room in omega (arith, room, ap (λ (l : List ℕ). length l) void));
      };
      disk = record { same = told.same; nothing = told.nothing; later = told.later; fuses = told.fuses };
    }
