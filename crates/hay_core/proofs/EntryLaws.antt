-- What a log makes of a table is what its rows make of each pair.
use Rattle.std.proofs.Common.{◌≡◌, ℕ, zero, suc, Bool, cond, List, [], ◌∷◌, ◌++◌, length, map, take, fold, refl, sym, ap, ◌∙◌}
use Rattle.hay_needle.specs.declared.needle.Pair.{Pair}
use Rattle.hay_needle.specs.declared.needle.Outcome.{Outcome}
use Rattle.hay_needle.specs.declared.needle.Row.{Row}
use Rattle.hay_needle.specs.Tables.{Table, outcome_at, pair_eq, look_after, look}
use Rattle.hay_needle.proofs.TableLaws.{IsOrdered, at-with_photo, at-without_pair, ordered-with_photo, ordered-without_pair, look_append}
use Rattle.hay_core.specs.declared.entry.Entry.{Entry}
use Rattle.hay_core.specs.declared.entry.Entry.TheVariants.{Put, Del}
use Rattle.hay_core.specs.declared.entry.Logged.{Logged}
use Rattle.hay_core.specs.Entries.{apply_entry, entries_of, after, entry_row, logged_row, rows_after}

-- an entry at its pair and at each other
pub at-apply_entry : (table : Table) (e : Entry) (p : Pair) → outcome_at (apply_entry table e) p ≡ cond (pair_eq (entry_row e).pair p) (entry_row e).outcome (outcome_at table p)
at-apply_entry table (Put pair cookie bytes) p = at-with_photo table pair (record { cookie = cookie; bytes = bytes }) p
at-apply_entry table (Del pair) p = at-without_pair table pair p

pub ordered-apply_entry : (table : Table) (e : Entry) → IsOrdered table → IsOrdered (apply_entry table e)
ordered-apply_entry table (Put pair cookie bytes) h = ordered-with_photo table pair (record { cookie = cookie; bytes = bytes }) h
ordered-apply_entry table (Del pair) h = ordered-without_pair table pair h

-- all entries of a log
pub at-fold : (table : Table) (log : List Logged) (p : Pair) → outcome_at (fold apply_entry table (entries_of log)) p ≡ look_after (map logged_row log) p (outcome_at table p)
at-fold table [] p = refl
at-fold table (l ∷ log) p =
    at-fold (apply_entry table l.entry) log p ∙ ap (λ (o : Outcome). look_after (map logged_row log) p o) (at-apply_entry table l.entry p)

pub ordered-fold : (table : Table) (log : List Logged) → IsOrdered table → IsOrdered (fold apply_entry table (entries_of log))
ordered-fold table [] h = h
ordered-fold table (l ∷ log) h = ordered-fold (apply_entry table l.entry) log (ordered-apply_entry table l.entry h)

take_entries : (n : ℕ) (log : List Logged) → take n (entries_of log) ≡ entries_of (take n log)
take_entries zero log = refl
take_entries (suc n) [] = refl
take_entries (suc n) (l ∷ log) = ap (λ (es : List Entry). l.entry ∷ es) (take_entries n log)

-- the table after the first n entries, at a pair, where the rows look as the table does
pub at-after : (log : List Logged) (n : ℕ) (table : Table) (base : List Row) (p : Pair) → outcome_at table p ≡ look base p
    → outcome_at (after (entries_of log) n table) p ≡ look (rows_after (take n log) base) p
at-after log n table base p same =
    ap (λ (es : List Entry). outcome_at (fold apply_entry table es) p) (take_entries n log)
    ∙ at-fold table (take n log) p
    ∙ ap (λ (o : Outcome). look_after (map logged_row (take n log)) p o) same
    ∙ sym (look_append base (map logged_row (take n log)) p Rattle.hay_needle.specs.declared.needle.Outcome.TheVariants.Nothing)

pub ordered-after : (log : List Logged) (n : ℕ) (table : Table) → IsOrdered table → IsOrdered (after (entries_of log) n table)
ordered-after log n table h =
    let P : List Entry → Type 0 = λ es. IsOrdered (fold apply_entry table es) in
    Rattle.std.proofs.Common.subst P (sym (take_entries n log)) (ordered-fold table (take n log) h)
