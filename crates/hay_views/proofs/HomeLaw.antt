-- What rows make of the homes, and what a look at them shows.
use Rattle.std.proofs.Common.{◌≡◌, ◌<◌, ℕ, Bool, true, false, cond, List, [], ◌∷◌, ◌++◌, Option, Some, None, refl, sym, ap, subst, ◌∙◌, append-nil, append_assoc}
use Rattle.std.specs.Prelude.{IfSome, fold, is_some}
use Rattle.std.specs.Option.{option_or}
use Rattle.hay_needle.specs.declared.needle.Pair.{Pair}
use Rattle.hay_needle.specs.Tables.{pair_eq}
use Rattle.hay_needle.proofs.TableLaws.{pair_same}
use Rattle.std.proofs.lemmas.Bool.{cond-false}
use Rattle.hay_legal.specs.declared.known.HomeRow.{HomeRow}
use Rattle.hay_legal.specs.Known.{home_in}
use Rattle.hay_front.specs.Fronts.{Holds, MayPublish, RowOf}
use Rattle.hay_directory.specs.Rows.{RowsWithin}
use Rattle.hay_directory.proofs.HomeLaws.{home_in-append, home_within}
use Rattle.hay_views.specs.HomeLooks.{AreWithin, HomesAt, HomesShown, IsHomeOf, LooksShowHomes, LooksShowVolumes, with_row}
use Rattle.hay_views.proofs.PlaceLaw.{seen_first}

or_none : (home : Option ℕ) → option_or home None ≡ home
or_none None = refl
or_none (Some v) = refl

or_some : (home : Option ℕ) (last : Option ℕ) → is_some home ≡ true → option_or home last ≡ home
or_some None last e = absurd cc
or_some (Some v) last e = refl

-- a pair that has a home keeps it
pub home_kept : (rows : List HomeRow) (row : HomeRow) (other : Pair) → is_some (home_in rows row.pair) ≡ true → home_in (rows ++ row ∷ []) other ≡ home_in rows other
home_kept rows row other has = home_in-append rows (row ∷ []) other ∙ at (pair_eq row.pair other) refl
  where
    at : (b : Bool) → pair_eq row.pair other ≡ b → option_or (home_in rows other) (cond (pair_eq row.pair other) (Some row.volume) None) ≡ home_in rows other
    at true e = or_some (home_in rows other) (cond (pair_eq row.pair other) (Some row.volume) None) (ap (λ (p : Pair). is_some (home_in rows p)) (sym (pair_same row.pair other e)) ∙ has)
    at false e = ap (λ (home : Option ℕ). option_or (home_in rows other) home) (cond-false (pair_eq row.pair other) (Some row.volume) None e) ∙ or_none (home_in rows other)

pub home_missing : (home : Option ℕ) → is_some home ≡ false → home ≡ None
home_missing None e = refl
home_missing (Some v) e = absurd cc

-- WHAT A LOOK SHOWS

all_added : (stood : HomesAt) (rows : List HomeRow) → (fold with_row stood rows).rows ≡ stood.rows ++ rows
all_added stood [] = sym (append-nil stood.rows)
all_added stood (row ∷ rows) = all_added (with_row stood row) rows ∙ append_assoc stood.rows (row ∷ []) rows

homes_in : HomesAt → Option (HomesAt × Unit {0}) → HomesAt
homes_in other None = other
homes_in other (Some both) = both.0

-- what stood at first
pub first_is : (seat : HomesShown) (stood also : HomesAt) (start : Unit {0}) → seat.base ≡ Some (stood, tt) → seat.base ≡ Some (also, start) → stood ≡ also
unfolding homes_in
first_is seat stood also start base is = ap (homes_in also) (sym base ∙ is)

pub home_looked : (seat : HomesShown) (stood : HomesAt) (pair : Pair) (home : Option ℕ) → seat.base ≡ Some (stood, tt) → RowOf with_row IsHomeOf seat pair home
    → home ≡ home_in (stood.rows ++ seat.deeds) pair
home_looked seat stood pair home base is =
    let rows = is.1.3 in
    let first = first_is seat stood is.1.0 is.1.1 base is.1.2 in
    is.2 ∙ ap (λ (homes : HomesAt). home_in homes.rows pair) rows ∙ ap (λ (l : List HomeRow). home_in l pair) (all_added is.1.0 seat.deeds)
    ∙ ap (λ (homes : HomesAt). home_in (homes.rows ++ seat.deeds) pair) (sym first)

pub looks_show_homes : LooksShowHomes
looks_show_homes seat shown stood n pair home base behind count is =
    home_looked seat stood pair home base is ∙ ap (λ (l : List HomeRow). home_in (stood.rows ++ l) pair) (sym (seen_first seat.deeds shown.deeds n behind.2 count))

-- WHAT MAY BE PUBLISHED

all_within : (seat : HomesShown) (stood : HomesAt) → seat.base ≡ Some (stood, tt) → Holds AreWithin seat → RowsWithin stood.volumes (stood.rows ++ seat.deeds)
all_within seat stood base holds =
    subst (λ (homes : HomesAt). RowsWithin homes.volumes (homes.rows ++ seat.deeds)) (sym (first_is seat stood holds.0 holds.1 base holds.2)) holds.3

pub looks_show_volumes : LooksShowVolumes
looks_show_volumes seat stood pair home base holds is =
    subst (λ (shown : Option ℕ). IfSome shown (λ v. v < stood.volumes)) (sym (home_looked seat stood pair home base is))
    (home_within stood.volumes (stood.rows ++ seat.deeds) pair (all_within seat stood base holds))

pub within_more : (volumes : ℕ) (rows : List HomeRow) (row : HomeRow) → RowsWithin volumes rows → row.volume < volumes → RowsWithin volumes (rows ++ row ∷ [])
within_more volumes [] row within below = (below, tt)
within_more volumes (first ∷ rows) row within below = (within.0, within_more volumes rows row within.1 below)

-- a row of a volume that there is
pub may_publish : (seat : HomesShown) (stood : HomesAt) (row : HomeRow) → seat.base ≡ Some (stood, tt) → Holds AreWithin seat → row.volume < stood.volumes → MayPublish AreWithin seat row
may_publish seat stood row base holds below also start is =
    subst (λ (homes : HomesAt). RowsWithin homes.volumes (homes.rows ++ (seat.deeds ++ row ∷ []))) (first_is seat stood also start base is)
    (subst (RowsWithin stood.volumes) (append_assoc stood.rows seat.deeds (row ∷ []))
    (within_more stood.volumes (stood.rows ++ seat.deeds) row (all_within seat stood base holds) below))
