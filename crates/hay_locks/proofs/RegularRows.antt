-- A Directory that stands is regular: its rows, and the one that is pending, are of volumes of the store.
use Rattle.std.proofs.Common.{◌≡◌, ℕ, ◌<◌, Bool, List, [], ◌∷◌, ◌++◌, map, Option, Some, ap, subst, ◌∙◌}
use Rattle.std.specs.Prelude.{IfSome}
use Rattle.std.proofs.lemmas.List.Elements.{All-weaker}
use Rattle.hay_needle.specs.declared.settings.Settings.{Settings}
use Rattle.hay_disk.specs.Disk.{Files, IsImage}
use Rattle.hay_dirfile.specs.declared.row.DirRow.{DirRow}
use Rattle.hay_dirfile.specs.Journal.{IsRowOf}
use Rattle.hay_legal.specs.declared.known.DirKnown.{DirKnown}
use Rattle.hay_legal.specs.declared.known.HomeRow.{HomeRow}
use Rattle.hay_legal.specs.declared.known.PendingRow.{PendingRow}
use Rattle.hay_legal.specs.Restarts.{kept_row}
use Rattle.hay_directory.specs.declared.mode.Mode.{Mode}
use Rattle.hay_directory.specs.Rows.{HasJournal, RowsWithin, dir_row}
use Rattle.hay_directory.specs.State.{Stands, State, mode_of, unsure_of}
use Rattle.hay_directory.proofs.HomeLaws.{rows_within}
use Rattle.hay_directory.proofs.RowLaws.{home_rows, journal_left}
use Rattle.hay_block.specs.Making.{IsRegularDirectory}

-- the rows of a journal are of volumes of the store
journal_within : (settings : Settings) (file : List ℕ) (rows : List HomeRow) → HasJournal settings file rows → RowsWithin settings.volumes rows
journal_within settings file rows journal =
    subst (RowsWithin settings.volumes) (home_rows rows) (rows_within settings.volumes (map dir_row rows)
    (All-weaker (IsRowOf settings.volumes) (λ (row : DirRow). row.volume < settings.volumes) (λ row is. is.volume) (map dir_row rows) (journal.lead).all))

-- so are the first ones
first_within : (volumes : ℕ) (rows more : List HomeRow) → RowsWithin volumes (rows ++ more) → RowsWithin volumes rows
first_within volumes [] more within = tt
first_within volumes (row ∷ rows) more within = (within.0, first_within volumes rows more within.1)

-- the row that is pending
pending_within : (volumes : ℕ) (mode : Mode) (pending : Option PendingRow) → mode ≡ mode_of pending → IfSome (unsure_of mode) (λ unsure. unsure.row.volume < volumes)
    → (row : PendingRow) → pending ≡ Some row → (row.row).volume < volumes
pending_within volumes mode pending is within row some =
    let same : mode ≡ mode_of (Some row) = is ∙ ap mode_of some in
    subst (λ (m : Mode). IfSome (unsure_of m) (λ unsure. unsure.row.volume < volumes)) same within

pub is_regular_directory : {D : Type 0} (files : D → Files) → ((disk : D) (n : ℕ) → IsImage (files disk n) (files disk n).now)
    → (directory : State D) (settings : Settings) (known : DirKnown) (drained : List Bool)
    → directory.settings ≡ settings → Stands files directory known drained → IfSome (unsure_of directory.mode) (λ unsure. unsure.row.volume < directory.settings.volumes)
    → IsRegularDirectory settings known
unfolding Stands
is_regular_directory files now directory settings known drained of stands within =
    let file = (files directory.disk 0).now in
    let left = journal_left directory.settings (files directory.disk 0) directory.journal.end known.rows known.pending file stands.holds (now directory.disk 0) in
    subst (λ (s : Settings). IsRegularDirectory s known) of (record {
      homes = first_within directory.settings.volumes known.rows (kept_row known.pending left.0) (journal_within directory.settings file (known.rows ++ kept_row known.pending left.0) left.1);
      pending = pending_within directory.settings.volumes directory.mode known.pending stands.mode within;
    })
