-- What the entries of a log make of a table.
use Rattle.std.specs.Prelude.{ℕ, List, ◌++◌, map, take, fold}
use Rattle.hay_needle.specs.declared.needle.Outcome.TheVariants.{Nothing, Photo}
use Rattle.hay_needle.specs.declared.needle.Row.{Row}
use Rattle.hay_needle.specs.Tables.{Table, with_photo, without_pair}
use Rattle.hay_core.specs.declared.entry.Entry.{Entry}
use Rattle.hay_core.specs.declared.entry.Entry.TheVariants.{Put, Del}
use Rattle.hay_core.specs.declared.entry.Logged.{Logged}

-- A put gives its pair its photo, and a delete leaves its pair without one.
abbrev pub apply_entry : Table → Entry → Table
apply_entry table (Put pair cookie bytes) = with_photo table pair (record { cookie = cookie; bytes = bytes })
apply_entry table (Del pair) = without_pair table pair

abbrev pub entries_of : List Logged → List Entry
entries_of log = map (λ logged. logged.entry) log

-- the table after the first n entries, applied left to right
abbrev pub after : List Entry → ℕ → Table → Table
after log n table = fold apply_entry table (take n log)

-- THE SAME BY ROWS, of which the later ones count

abbrev pub entry_row : Entry → Row
entry_row (Put pair cookie bytes) = record { pair = pair; outcome = Photo (record { cookie = cookie; bytes = bytes }) }
entry_row (Del pair) = record { pair = pair; outcome = Nothing }

abbrev pub logged_row : Logged → Row
logged_row logged = entry_row logged.entry

-- the rows after all entries of a log
abbrev pub rows_after : List Logged → List Row → List Row
rows_after log base = base ++ map logged_row log
