-- What the next run of a store knows of pairs, by the rows that an opening of a load finds on the same disks.
use Rattle.std.specs.Prelude.{◌≡◌, ◌⊎◌, ◌≤◌, ℕ, List, length, map, None}
use Rattle.hay_needle.specs.declared.needle.Cookie.{Cookie}
use Rattle.hay_needle.specs.declared.needle.Pair.{Pair}
use Rattle.hay_needle.specs.declared.settings.Settings.{Settings}
use Rattle.hay_needle.specs.declared.settings.TheConstants.{MAX_VOLUMES}
use Rattle.hay_script.specs.declared.Command.TheVariants as command
use Rattle.hay_dirfile.specs.declared.row.DirRow.{DirRow}
use Rattle.hay_reply.specs.declared.Reply.{Reply}
use Rattle.hay_reply.specs.declared.Reply.TheVariants.{NoMem, Unknown}
use Rattle.hay_legal.specs.declared.known.Known.{Known}
use Rattle.hay_legal.specs.declared.turn.Item.TheVariants as item
use Rattle.hay_legal.specs.Known.{home_of}
use Rattle.hay_legal.specs.Plain.{LegalPlain}
use Rattle.hay_directory.specs.Rows.{home_row}
use Rattle.hay_directory.specs.Rows as directory
use Rattle.hay_batch.specs.Homes.{home_in}
use Rattle.hay_batch.specs.Shelves.{OpensRows}

-- a run that finds this on disks of these contents, by slot and file, finds these rows on that of the Directory
abbrev pub FindsRows : Settings → (ℕ → ℕ → List ℕ) → Known → Type 0
FindsRows settings image k = directory.OpensRows settings (image 0) k.directory.rows

-- A run may find the rows that a load finds, ..
abbrev pub RunsFindTheRows : Type 0
RunsFindTheRows = (settings : Settings) (image : ℕ → ℕ → List ℕ) (rows : List DirRow)
    → OpensRows settings (image 0 0) rows → directory.OpensRows settings (image 0) (map home_row rows)

-- .. and no others: to it each pair has the home that it has by these, and there are as many.
abbrev pub RunsFindNoOthers : Type 0
RunsFindNoOthers = (settings : Settings) (image : ℕ → ℕ → List ℕ) (rows : List DirRow) (k : Known) → settings.volumes ≤ MAX_VOLUMES
    → OpensRows settings (image 0 0) rows → FindsRows settings image k → ((pair : Pair) → home_of k pair ≡ home_in rows pair) × (length k.directory.rows ≡ length rows)

-- So a pair without a row is unknown to it, whatever needles of it stand: a read is answered so, with the count of the rows, unless
-- memory is wanting.
abbrev pub PairsWithoutRowAreUnknown : Type 0
PairsWithoutRowAreUnknown = (settings : Settings) (image : ℕ → ℕ → List ℕ) (rows : List DirRow) (k t : Known) (line : ℕ) (pair : Pair) (cookie : Cookie) (reply : Reply)
    → settings.volumes ≤ MAX_VOLUMES → OpensRows settings (image 0 0) rows → FindsRows settings image k → home_in rows pair ≡ None
    → LegalPlain settings k line (item.Command (command.Read pair cookie)) reply t → (reply ≡ Unknown (length rows)) ⊎ (reply ≡ NoMem)
