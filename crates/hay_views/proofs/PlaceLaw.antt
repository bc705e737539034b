-- What a look at a view of places shows.
use Rattle.std.proofs.Common.{◌≡◌, ℕ, suc, cond, List, [], ◌∷◌, ◌++◌, length, take, Option, None, Some, refl, sym, ap, subst, ◌∙◌, append-nil, append_assoc}
use Rattle.std.specs.Prelude.{fold, filter}
use Rattle.std.specs.List.{AllByRecursion}
use mathlib.Core.List.{IsPrefix}
use Rattle.hay_map.specs.MapRows.{MapRows}
use Rattle.hay_map.specs.Rows.{FitsRows}
use Rattle.hay_map.specs.declared.view.MapOp.{MapOp}
use Rattle.hay_map.specs.declared.view.MapOp.TheVariants as op
use Rattle.hay_core.specs.declared.entry.Entry.{Entry}
use Rattle.hay_views.specs.declared.places.Published.{Published}
use Rattle.hay_views.specs.MapPasts.{Enters, IsFit, MapPast, MadeBy, begun_at, changes_of, entered_by, is_entry, row_of, with_published}
use Rattle.hay_views.specs.PlaceLooks.{CountsEntries, LooksShowMaps}
use Rattle.hay_views.proofs.Changing.{made_row}

-- as many of the whole as its beginning has are that beginning
begins : {A : Type 0} (xs rest : List A) → take (length xs) (xs ++ rest) ≡ xs
begins [] rest = refl
begins (x ∷ xs) rest = ap (λ l. x ∷ l) (begins xs rest)

pub seen_first : {A : Type 0} (xs all : List A) (n : ℕ) → IsPrefix xs all → n ≡ length xs → take n all ≡ xs
seen_first {A} xs all n prefix count = ap (λ (k : ℕ). take k all) count ∙ ap (λ (l : List A). take (length xs) l) (sym prefix.1) ∙ begins xs prefix.0

-- what was changed, one after another
all_changed : {P S : Type 0} (start : S) (first : MapRows P) (made : List (MapOp P)) (deeds : List (Published P))
    → fold with_published (record { start = start; first = first; made = made }) deeds ≡ record { start = start; first = first; made = made ++ changes_of deeds }
all_changed start first made [] = ap (λ l. record { start = start; first = first; made = l }) (sym (append-nil made))
all_changed start first made (deed ∷ deeds) =
    all_changed start first (made ++ deed.change ∷ []) deeds ∙ ap (λ l. record { start = start; first = first; made = l }) (append_assoc made (deed.change ∷ []) (changes_of deeds))

all_fit : {P : Type 0} (n : ℕ) (deeds : List (Published P)) → AllByRecursion (IsFit n) deeds → AllByRecursion (FitsRows n) (changes_of deeds)
all_fit n [] fit = tt
all_fit n (deed ∷ deeds) fit = (fit.0.rows, all_fit n deeds fit.1)

first_in : {M B : Type 0} → M → Option (M × B) → M
first_in d None = d
first_in d (Some both) = both.0

pub looks_show_maps : (P S : Type 0) → LooksShowMaps P S
unfolding first_in
looks_show_maps P S seat shown start first now n pair row base fit behind count made is =
    let past : MapPast P S = is.0 in
    let first_is : is.1.0 ≡ begun_at start first = ap (first_in (begun_at start first)) (sym is.1.2 ∙ base) in
    let seen : MadeBy (changes_of seat.deeds) first now = subst (λ (l : List (Published P)). MadeBy (changes_of l) first now) (seen_first seat.deeds shown.deeds n behind.2 count) made in
    let past_is : past ≡ record { start = start; first = first; made = changes_of seat.deeds } =
    is.1.3 ∙ ap (λ (m : MapPast P S). fold with_published m seat.deeds) first_is ∙ all_changed start first [] seat.deeds in (
      is.2.0 ∙ ap (λ (m : MapPast P S). row_of m pair) past_is ∙ sym (made_row (changes_of seat.deeds) first now pair (all_fit first.replicas seat.deeds fit) seen),
      is.2.1 ∙ ap (λ (m : MapPast P S). (m.first).replicas) past_is,
    )

-- HOW MANY ENTRIES

one_counts : {P : Type 0} (deed : Published P) (deeds : List (Published P)) (change : MapOp P) (entered : List Entry) → Enters change entered
    → length (filter (λ d. is_entry d.change) deeds) ≡ length (entered_by deeds)
    → length (cond (is_entry change) (deed ∷ filter (λ d. is_entry d.change) deeds) (filter (λ d. is_entry d.change) deeds)) ≡ length (entered ++ entered_by deeds)
one_counts deed deeds (op.Put pair row) entered enters rest = ap suc rest ∙ ap (λ (l : List Entry). length (l ++ entered_by deeds)) (sym enters.2)
one_counts deed deeds (op.Del pair) entered enters rest = ap suc rest ∙ ap (λ (l : List Entry). length (l ++ entered_by deeds)) (sym enters)
one_counts deed deeds (op.Seen pair replica place) entered enters rest = rest ∙ ap (λ (l : List Entry). length (l ++ entered_by deeds)) (sym enters)
one_counts deed deeds (op.Swap replica cells) entered enters rest = rest ∙ ap (λ (l : List Entry). length (l ++ entered_by deeds)) (sym enters)

pub counts_entries : (P S : Type 0) → CountsEntries P S
counts_entries P S past [] fit = refl
counts_entries P S past (deed ∷ deeds) fit = one_counts deed deeds deed.change deed.entered fit.0.enters (counts_entries P S past deeds fit.1)
