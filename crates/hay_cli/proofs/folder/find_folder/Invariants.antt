use Rattle.std.proofs.Common.{◌≡◌, map, drop}
use Rattle.std.specs.Prelude.{string_bytes}
use Rattle.hay_cli.specs.Reading.{folder_in}
use Rattle.hay_cli.proofs.folder.find_folder.Given as goal

abbrev pub invariant-loop-i : goal.invariant-loop-i
invariant-loop-i l = folder_in (drop l.i (map string_bytes l.words)) ≡ folder_in (drop 1 (map string_bytes l.words))
