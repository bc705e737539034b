use Rattle.std.proofs.Common.{ℕ, sym, subst}
use Rattle.std.specs.Prelude.{OnOk}
use Rattle.hay_disk.specs.Disk.{Files}
use Rattle.hay_dirfile.specs.Journal.{IsDamagedJournal}
use Rattle.hay_dirfile.proofs.journal.open_rows.Goals as goal

pub returns-then-branch-gt0-clause-undamaged : goal.returns-then-branch-gt0-clause-undamaged
returns-then-branch-gt0-clause-undamaged g c = λ tells some.
    subst (λ (fs : Files). OnOk c.read_rows.result ((at : ℕ) → IsDamagedJournal c.args.sup.now (fs 0).now at → ⊥)) (c.size.ensures.same tells) (c.read_rows.ensures.undamaged tells)

pub returns-then-branch-gt0-clause-undamaged_now : goal.returns-then-branch-gt0-clause-undamaged_now
returns-then-branch-gt0-clause-undamaged_now g c = λ tells.
    subst (λ (fs : Files). OnOk c.read_rows.result ((at : ℕ) → IsDamagedJournal c.args.sup.now (fs 0).now at → ⊥)) (sym (c.read_rows.ensures.same tells)) (c.read_rows.ensures.undamaged tells)
