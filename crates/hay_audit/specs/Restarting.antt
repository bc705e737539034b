-- What a restart keeps.
use Rattle.std.specs.Prelude.{List, [], ◌∷◌, Option, Some, None}
use Rattle.hay_core.specs.declared.entry.Entry.{Entry}
use Rattle.hay_legal.specs.declared.known.HomeRow.{HomeRow}

abbrev pub row_list : Option HomeRow → List HomeRow
row_list None = []
row_list (Some row) = row ∷ []

abbrev pub change_list : Option Entry → List Entry
change_list None = []
change_list (Some change) = change ∷ []
