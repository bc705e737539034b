-- What an opening finds on the disk of a directory: the rows of its journal.
use Rattle.std.specs.Prelude.{◌≡◌, ◌⊎◌, ◌<◌, ℕ, List, [], map}
use Rattle.std.specs.List.{AllByRecursion}
use Rattle.hay_needle.specs.declared.settings.FileKind.TheVariants.{Journal}
use Rattle.hay_needle.specs.declared.settings.Settings.{Settings}
use Rattle.hay_needle.specs.declared.settings.Super.{Super}
use Rattle.hay_needle.specs.Super.{super_bytes}
use Rattle.hay_dirfile.specs.declared.row.DirRow.{DirRow}
use Rattle.hay_dirfile.specs.Journal.{IsJournal}
use Rattle.hay_legal.specs.declared.known.HomeRow.{HomeRow}

-- what stands at the front of the journal
abbrev pub journal_super : Settings → Super
journal_super settings = record { settings = settings; kind = Journal; volume = 0; replica = 0; generation = 0 }

-- a row as the journal has it, and back
abbrev pub dir_row : HomeRow → DirRow
dir_row row = record { pair = row.pair; volume = row.volume }

abbrev pub home_row : DirRow → HomeRow
home_row row = record { pair = row.pair; volume = row.volume }

-- each row is of one of so many volumes
abbrev pub RowsWithin : ℕ → List HomeRow → Type 0
RowsWithin volumes rows = AllByRecursion (λ row. row.volume < volumes) rows

-- a journal of these settings with these rows
abbrev pub HasJournal : Settings → List ℕ → List HomeRow → Type 0
HasJournal settings file rows = IsJournal (super_bytes (journal_super settings)) settings.volumes file (map dir_row rows)

-- A journal has its rows, and a void one has none.
abbrev pub FileHasRows : Settings → List ℕ → List HomeRow → Type 0
FileHasRows settings file rows = ((file ≡ []) × (rows ≡ [])) ⊎ HasJournal settings file rows

-- File 0 of a disk is its journal. A disk whose file 0 is empty is void.
unfoldable pub OpensRows : Settings → (ℕ → List ℕ) → List HomeRow → Type 0
OpensRows settings contents rows = FileHasRows settings (contents 0) rows
