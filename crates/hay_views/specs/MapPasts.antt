-- The rows of a map at first, and what was changed since.
use Rattle.std.specs.Prelude.{◌≡◌, ℕ, nat_eq, nat_lt, Bool, true, false, List, [], ◌∷◌, ◌++◌, length, map, fold, if◌then◌else◌}
use Rattle.std.specs.List.{AllByRecursion}
use Rattle.hay_needle.specs.declared.needle.Pair.{Pair}
use Rattle.hay_needle.specs.declared.needle.Cookie.{Cookie}
use Rattle.hay_core.specs.declared.entry.Entry.{Entry}
use Rattle.hay_core.specs.declared.entry.Entry.TheVariants as entry
use Rattle.hay_map.specs.MapRows.{MapRows}
use Rattle.hay_map.specs.Rows.{row_at, changed_row, ChangesRows, FitsRows, KeepsRows}
use Rattle.hay_map.specs.declared.place.Place.{Place}
use Rattle.hay_map.specs.declared.view.MapOp.{MapOp}
use Rattle.hay_map.specs.declared.view.MapOp.TheVariants as op
use Rattle.hay_views.specs.declared.places.Published.{Published}

-- what stood when the rows were taken, too
pub record MapPast (P S : Type 0) : Type 0 where
  pub start : S
  pub first : MapRows P
  pub made : List (MapOp P)

abbrev pub begun_at : {P S : Type 0} → S → MapRows P → MapPast P S
begun_at start first = record { start = start; first = first; made = [] }

abbrev pub with_change : {P S : Type 0} → MapPast P S → MapOp P → MapPast P S
with_change past change = record past { made = past.made ++ change ∷ [] }

-- what was published, as changes of the map
abbrev pub changes_of : {P : Type 0} → List (Published P) → List (MapOp P)
changes_of deeds = map (λ deed. deed.change) deeds

abbrev pub with_published : {P S : Type 0} → MapPast P S → Published P → MapPast P S
with_published past deed = with_change past deed.change

-- whether a change can be made where rows have so many places
abbrev pub fits : {P : Type 0} → ℕ → MapOp P → Bool
fits replicas (op.Put pair row) = nat_eq (length row) replicas
fits replicas (op.Del pair) = true
fits replicas (op.Seen pair replica place) = nat_lt replica replicas
fits replicas (op.Swap replica cells) = nat_lt replica replicas

-- the row of a pair behind a change; one that does not fit changes nothing
abbrev pub row_after : {P : Type 0} → ℕ → Pair → List (Place P) → MapOp P → List (Place P)
row_after replicas pair row change = if fits replicas change then changed_row change pair row else row

-- and behind all that was changed
abbrev pub row_of : {P S : Type 0} → MapPast P S → Pair → List (Place P)
row_of past pair = fold (row_after (past.first).replicas pair) (row_at past.first pair) past.made

-- a row of the pair, whole
abbrev pub IsRowOf : {P S : Type 0} → MapPast P S → Pair → List (Place P) → Type 0
IsRowOf past pair row = (row ≡ row_of past pair) × (length row ≡ (past.first).replicas)

-- a map that has the rows
pub record IsMapOf {P S : Type 0} (past : MapPast P S) (map : MapRows P) : Type 0 where
  pub replicas : map.replicas ≡ (past.first).replicas
  pub rows : (pair : Pair) → row_at map pair ≡ row_of past pair

-- a change of what is stored has a place in the log, and one of where it stands has none
abbrev pub is_entry : {P : Type 0} → MapOp P → Bool
is_entry (op.Put pair row) = true
is_entry (op.Del pair) = true
is_entry (op.Seen pair replica place) = false
is_entry (op.Swap replica cells) = false

-- what a change enters: a put its pair's photo, a delete its pair, and what tells where photos stand nothing
abbrev pub Enters : {P : Type 0} → MapOp P → List Entry → Type 0
Enters (op.Put pair row) entered = (cookie : Cookie) × (bytes : List ℕ) × (entered ≡ entry.Put pair cookie bytes ∷ [])
Enters (op.Del pair) entered = entered ≡ entry.Del pair ∷ []
Enters (op.Seen pair replica place) entered = entered ≡ []
Enters (op.Swap replica cells) entered = entered ≡ []

pub record IsFit {P : Type 0} (replicas : ℕ) (deed : Published P) : Type 0 where
  pub rows : FitsRows replicas deed.change
  pub enters : Enters deed.change deed.entered

abbrev pub AllFit : {P S : Type 0} → MapPast P S → List (Published P) → Type 0
AllFit past deeds = AllByRecursion (IsFit (past.first).replicas) deeds

-- all that was entered, in order
abbrev pub entered_by : {P : Type 0} → List (Published P) → List Entry
entered_by [] = []
entered_by (deed ∷ deeds) = deed.entered ++ entered_by deeds

-- a map on which these changes were made, one after another
abbrev pub MadeBy : {P : Type 0} → List (MapOp P) → MapRows P → MapRows P → Type 0
MadeBy [] old new = KeepsRows old new
MadeBy {P = P} (change ∷ changes) old new = (mid : MapRows P) × ChangesRows change old mid × MadeBy changes mid new
