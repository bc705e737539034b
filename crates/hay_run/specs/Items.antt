-- What lines ask for.
use Rattle.std.specs.Prelude.{◌≡◌, ◌⊎◌, ℕ, ◌+◌, Bool, true, List, [], ◌∷◌, length, Option, Some, None}
use Rattle.hay_script.specs.Script.{line_of}
use Rattle.hay_legal.specs.Items.{Asked, OpenBlock, added, lanes_open, items_of, items_from, whole_items_from}
use Rattle.hay_lines.specs.Lines.{TookFeds, TookLines}

-- the block that is open behind lines, whose first has this number
abbrev pub block_behind : ℕ → Option OpenBlock → List (List ℕ) → Option OpenBlock
block_behind number held [] = held
block_behind number held (text ∷ texts) =
    block_behind (number + 1) (added number held (line_of (lanes_open held) text)).1 texts

-- lines ask for these items, and no block is open behind them, unless the script's end closes it
abbrev pub Asks : ℕ → Option OpenBlock → List (List ℕ) → List Asked → Bool → Type 0
Asks number held texts asked ended =
    ((whole_items_from number held texts ≡ asked) × (block_behind number held texts ≡ None))
    ⊎ ((items_from number held texts ≡ asked) × (ended ≡ true))

-- Lines were taken, whose first has this number, and they ask for these items. The next line has the other number.
pub record TookItems (number : ℕ) (held : Option OpenBlock) (before : Option (List ℕ)) (asked : List Asked) (next : ℕ) (after : Option (List ℕ)) (ended : Bool) : Type 0 where
  pub texts : List (List ℕ)
  pub lines : TookLines before texts after ended
  pub next_is : next ≡ number + length texts
  pub asks : Asks number held texts asked ended

-- Lines were taken that ask for nothing whole, and then these bytes.
pub record TookOpen (Rest : Option (List ℕ) → Option (List ℕ) → Type 0) (number : ℕ) (held : Option OpenBlock) (before after : Option (List ℕ)) : Type 0 where
  pub texts : List (List ℕ)
  pub mid : Option (List ℕ)
  pub feeds : TookFeds before texts mid
  pub nothing : whole_items_from number held texts ≡ []
  pub rest : Rest mid after

-- all of a script was taken, and it asks for these items
abbrev pub AsksAll : Option (List ℕ) → List Asked → Type 0
AsksAll None asked = Unit {0}
AsksAll (Some script) asked = asked ≡ items_of script
