-- How little a run reads that is asked for nothing.
use Rattle.std.specs.Prelude.{◌≡◌, ℕ, List, [], Option, Some}
use Rattle.hay_disk.specs.Shelf.{HeldDisk}
use Rattle.hay_legal.specs.Items.{items_of}

-- A source that tells has a script without commands and lines that are bad: comments and blank lines, or nothing at all.
abbrev pub AsksNothing : Option (List ℕ) → Type 0
AsksNothing left = (script : List ℕ) × (left ≡ Some script) × (items_of script ≡ [])

-- how many bytes were read of each file of the disk in a slot
abbrev pub drawn_of : (ℕ → HeldDisk) → ℕ → ℕ → ℕ
drawn_of disks slot = (disks slot).drawn
