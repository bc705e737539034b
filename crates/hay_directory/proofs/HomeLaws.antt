-- The homes by rows, and in memory.
use Rattle.std.proofs.Common.{◌≡◌, ◌<◌, ℕ, suc, Bool, true, false, cond, List, [], ◌∷◌, ◌++◌, map, Option, Some, None, refl, sym, ap, subst, ◌∙◌, arith}
use Rattle.std.specs.Prelude.{IfSome, is_some, option_map}
use Rattle.std.specs.List.{All}
use Rattle.std.specs.Option.{option_or}
use Rattle.std.proofs.lemmas.Bool.{cond-true, cond-false}
use Rattle.hay_needle.specs.declared.needle.Pair.{Pair}
use Rattle.hay_needle.specs.Tables.{pair_eq}
use Rattle.hay_needle.proofs.TableLaws.{pair_same, pair_refl}
use Rattle.hay_dirfile.specs.declared.row.DirRow.{DirRow}
use Rattle.hay_legal.specs.declared.known.HomeRow.{HomeRow}
use Rattle.hay_legal.specs.declared.known.PendingRow.{PendingRow}
use Rattle.hay_legal.specs.Known.{home_in}
use Rattle.hay_legal.specs.Restarts.{kept_row, row_note, row_notes}
use Rattle.hay_directory.specs.Homes.{HomesWithin, KeepsHomes, SetsHome, home_among}
use Rattle.hay_directory.specs.Notes.{notes_by}
use Rattle.hay_directory.specs.Rows.{RowsWithin, home_row}
use Rattle.hay_directory.specs.State.{IsDue, unsure_row}

or_first : (b : Bool) (v : ℕ) (home last : Option ℕ) → cond b (Some v) (option_or home last) ≡ option_or (cond b (Some v) home) last
or_first true v home last = refl
or_first false v home last = refl

-- the first row of a pair counts
pub home_in-append : (rows more : List HomeRow) (pair : Pair) → home_in (rows ++ more) pair ≡ option_or (home_in rows pair) (home_in more pair)
home_in-append [] more pair = refl
home_in-append (row ∷ rows) more pair =
    ap (λ (home : Option ℕ). cond (pair_eq row.pair pair) (Some row.volume) home) (home_in-append rows more pair)
    ∙ or_first (pair_eq row.pair pair) row.volume (home_in rows pair) (home_in more pair)

or_none : (home : Option ℕ) → option_or home None ≡ home
or_none None = refl
or_none (Some v) = refl

-- a row of a pair without a home gives it one
pub home_in-settled : (rows : List HomeRow) (row : HomeRow) (other : Pair) → home_in rows row.pair ≡ None
    → home_in (rows ++ row ∷ []) other ≡ cond (pair_eq row.pair other) (Some row.volume) (home_in rows other)
home_in-settled rows row other homeless = home_in-append rows (row ∷ []) other ∙ last (pair_eq row.pair other) refl
  where
    last : (b : Bool) → pair_eq row.pair other ≡ b → option_or (home_in rows other) (cond (pair_eq row.pair other) (Some row.volume) None)
        ≡ cond (pair_eq row.pair other) (Some row.volume) (home_in rows other)
    last true e =
        let none : home_in rows other ≡ None = ap (λ (p : Pair). home_in rows p) (sym (pair_same row.pair other e)) ∙ homeless in
        ap (λ (home : Option ℕ). option_or home (cond (pair_eq row.pair other) (Some row.volume) None)) none
        ∙ cond-true (pair_eq row.pair other) (Some row.volume) None e ∙ sym (cond-true (pair_eq row.pair other) (Some row.volume) (home_in rows other) e)
    last false e =
        ap (λ (home : Option ℕ). option_or (home_in rows other) home) (cond-false (pair_eq row.pair other) (Some row.volume) None e)
        ∙ or_none (home_in rows other) ∙ sym (cond-false (pair_eq row.pair other) (Some row.volume) (home_in rows other) e)

-- what is kept in memory is right of these rows
pub record AreHomes (homes : List ((ℕ × ℕ) × ℕ)) (rows : List HomeRow) : Type 0 where
  pub are : (pair : Pair) → home_among homes pair ≡ home_in rows pair

-- a home that was set
pub homes_settled : (rows : List HomeRow) (row : HomeRow) (old new : List ((ℕ × ℕ) × ℕ)) → AreHomes old rows → home_in rows row.pair ≡ None
    → SetsHome row.pair (Some row.volume) old new → AreHomes new (rows ++ row ∷ [])
homes_settled rows row old new homes homeless set = record {
  are = λ other. set.at other ∙ ap (λ (home : Option ℕ). cond (pair_eq row.pair other) (Some row.volume) home) (homes.are other) ∙ sym (home_in-settled rows row other homeless);
}

-- HOMES ARE OF VOLUMES THAT THERE ARE

pub rows_within : (volumes : ℕ) (rows : List DirRow) → All (λ (row : DirRow). row.volume < volumes) rows → RowsWithin volumes (map home_row rows)
rows_within volumes [] all = tt
rows_within volumes (row ∷ rows) all = (all 0 row (omega arith), rows_within volumes rows (λ k d below. all (suc k) d (omega arith)))

first_within : (is : Bool) (volume volumes : ℕ) (later : Option ℕ) → volume < volumes → IfSome later (λ v. v < volumes) → IfSome (cond is (Some volume) later) (λ v. v < volumes)
first_within true volume volumes later below rest = below
first_within false volume volumes later below rest = rest

-- a home by rows
pub home_within : (volumes : ℕ) (rows : List HomeRow) (pair : Pair) → RowsWithin volumes rows → IfSome (home_in rows pair) (λ v. v < volumes)
home_within volumes [] pair within = tt
home_within volumes (row ∷ rows) pair within = first_within (pair_eq row.pair pair) row.volume volumes (home_in rows pair) within.0 (home_within volumes rows pair within.1)

same_within : (volumes : ℕ) (home other : Option ℕ) → home ≡ other → IfSome other (λ v. v < volumes) → IfSome home (λ v. v < volumes)
same_within volumes home other same within = subst (λ (o : Option ℕ). IfSome o (λ v. v < volumes)) (sym same) within

-- the homes that are kept in memory
pub homes_within : (volumes : ℕ) (homes : List ((ℕ × ℕ) × ℕ)) (rows : List HomeRow) → RowsWithin volumes rows → ((pair : Pair) → home_among homes pair ≡ home_in rows pair) → HomesWithin volumes homes
homes_within volumes homes rows within are = record { at = λ pair. same_within volumes (home_among homes pair) (home_in rows pair) (are pair) (home_within volumes rows pair within) }

pub none_within : (volumes : ℕ) (homes : List ((ℕ × ℕ) × ℕ)) → homes ≡ [] → HomesWithin volumes homes
none_within volumes homes none = record { at = λ pair. same_within volumes (home_among homes pair) None (ap (λ l. home_among l pair) none) tt }

pub kept_within : (volumes : ℕ) (old new : List ((ℕ × ℕ) × ℕ)) → HomesWithin volumes old → KeepsHomes old new → HomesWithin volumes new
kept_within volumes old new within kept = record { at = λ pair. same_within volumes (home_among new pair) (home_among old pair) (kept.at pair) (within.at pair) }

pub set_within : (volumes : ℕ) (old new : List ((ℕ × ℕ) × ℕ)) (pair : Pair) (volume : ℕ) → HomesWithin volumes old → SetsHome pair (Some volume) old new → volume < volumes → HomesWithin volumes new
set_within volumes old new pair volume within set below = record {
  at = λ other. same_within volumes (home_among new other) (cond (pair_eq pair other) (Some volume) (home_among old other)) (set.at other)
      (first_within (pair_eq pair other) volume volumes (home_among old other) below (within.at other));
}

-- THE NOTE

kept_home : (rows : List HomeRow) (pending : PendingRow) (kept : Bool) → home_in rows (pending.row).pair ≡ None → is_some (home_in (rows ++ kept_row (Some pending) kept) (pending.row).pair) ≡ kept
kept_home rows pending true homeless =
    ap is_some (home_in-settled rows pending.row (pending.row).pair homeless ∙ cond-true (pair_eq (pending.row).pair (pending.row).pair) (Some (pending.row).volume)
    (home_in rows (pending.row).pair) (pair_refl (pending.row).pair))
kept_home rows pending false homeless =
    ap is_some (home_in-append rows [] (pending.row).pair ∙ or_none (home_in rows (pending.row).pair) ∙ homeless)

-- the note tells what was kept
pub notes_are : (rows : List HomeRow) (pending : Option PendingRow) (kept : Bool) (homes : List ((ℕ × ℕ) × ℕ)) → IsDue rows pending → AreHomes homes (rows ++ kept_row pending kept)
    → notes_by (option_map unsure_row pending) (home_among homes) ≡ row_notes pending kept
notes_are rows None kept homes due are = refl
notes_are rows (Some pending) kept homes due are =
    ap (λ (b : Bool). row_note (pending.tag).line b ∷ []) (ap is_some (are.are (pending.row).pair) ∙ kept_home rows pending kept due)
