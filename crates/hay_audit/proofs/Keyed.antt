-- Lists that are looked up by pair, with one item more.
use Rattle.std.proofs.Common.{◌≡◌, ℕ, zero, suc, ◌<◌, Bool, true, false, cond, List, [], ◌∷◌, ◌++◌, length, map, Option, Some, None, refl, sym, ap, subst, ◌∙◌, arith, length-append}
use Rattle.std.specs.Prelude.{is_none, slice_get}
use Rattle.std.specs.List.{AllZip}
use Rattle.hay_needle.specs.declared.needle.Pair.{Pair}
use Rattle.hay_needle.specs.declared.needle.Outcome.{Outcome}
use Rattle.hay_needle.specs.declared.needle.Row.{Row}
use Rattle.hay_needle.specs.Tables.{look_after, pair_eq}
use Rattle.hay_needle.proofs.TableLaws.{look_append, pair_same}
use Rattle.hay_core.specs.declared.entry.Logged.{Logged}
use Rattle.hay_core.specs.Entries.{logged_row}
use Rattle.hay_legal.specs.declared.known.HomeRow.{HomeRow}
use Rattle.hay_legal.specs.Known.{home_in}
use Rattle.hay_legal.proofs.Subject.Effects.{home_added}
use Rattle.hay_audit.specs.Keyed.{AreHomes, AreLast, entry_at, found, told}

abbrev pub Entries : Type 0
Entries = List ((ℕ × ℕ) × ℕ)

-- at a pair the map has this now, and at each other what it had
abbrev pub Sets : Pair → ℕ → Entries → Entries → Type 0
Sets pair x old new = (other : Pair) → found new other ≡ cond (pair_eq pair other) (Some x) (found old other)

-- ROWS

other_home : (rows : List HomeRow) (row : HomeRow) (other : Pair) → pair_eq row.pair other ≡ false → home_in (rows ++ row ∷ []) other ≡ home_in rows other
other_home [] row other apart = ap (λ (b : Bool). cond b (Some row.volume) None) apart
other_home (first ∷ rows) row other apart = ap (λ (o : Option ℕ). cond (pair_eq first.pair other) (Some first.volume) o) (other_home rows row other apart)

home_by : (rows : List HomeRow) (row : HomeRow) (other : Pair) → home_in rows row.pair ≡ None → (b : Bool) → pair_eq row.pair other ≡ b
    → home_in (rows ++ row ∷ []) other ≡ cond b (Some row.volume) (home_in rows other)
home_by rows row other none true same =
    subst (λ (pair : Pair). home_in (rows ++ row ∷ []) pair ≡ Some row.volume) (pair_same row.pair other same) (home_added rows row.pair row.volume none)
home_by rows row other none false apart = other_home rows row other apart

pub homes_more : (old new : Entries) (rows : List HomeRow) (row : HomeRow) → AreHomes old rows → home_in rows row.pair ≡ None → Sets row.pair row.volume old new → AreHomes new (rows ++ row ∷ [])
homes_more old new rows row are none sets = λ pair.
    sets pair ∙ ap (λ (o : Option ℕ). cond (pair_eq row.pair pair) (Some row.volume) o) (are pair) ∙ sym (home_by rows row pair none (pair_eq row.pair pair) refl)

some_home : (b : Bool) (v : ℕ) (o p : Option ℕ) → ((is_none o ≡ false) → p ≡ o) → is_none (cond b (Some v) o) ≡ false → cond b (Some v) p ≡ cond b (Some v) o
some_home true v o p same h = refl
some_home false v o p same h = same h

kept_home : (rows more : List HomeRow) (pair : Pair) → is_none (home_in rows pair) ≡ false → home_in (rows ++ more) pair ≡ home_in rows pair
kept_home [] more pair h = absurd (let lie : true ≡ false = h in cc)
kept_home (first ∷ rows) more pair h = some_home (pair_eq first.pair pair) first.volume (home_in rows pair) (home_in (rows ++ more) pair) (λ g. kept_home rows more pair g) h

beside_by : (rows : List HomeRow) (row : HomeRow) (other : Pair) → is_none (home_in rows row.pair) ≡ false → (b : Bool) → pair_eq row.pair other ≡ b
    → home_in (rows ++ row ∷ []) other ≡ home_in rows other
beside_by rows row other some true same =
    kept_home rows (row ∷ []) other (subst (λ (p : Pair). is_none (home_in rows p) ≡ false) (pair_same row.pair other same) some)
beside_by rows row other some false apart = other_home rows row other apart

pub homes_beside : (homes : Entries) (rows more : List HomeRow) (row : HomeRow) → AreHomes homes rows → is_none (home_in rows row.pair) ≡ false → more ≡ rows ++ row ∷ [] → AreHomes homes more
homes_beside homes rows more row are some is = subst (λ (rs : List HomeRow). AreHomes homes rs) (sym is) (λ pair. are pair ∙ sym (beside_by rows row pair some (pair_eq row.pair pair) refl))

-- THE LOG

get_before : (log more : List Logged) (at : ℕ) → at < length log → slice_get (log ++ more) at ≡ slice_get log at
get_before [] more at h = absurd (let lie : at < 0 = h in omega (arith, lie))
get_before (x ∷ log) more zero h = refl
get_before (x ∷ log) more (suc at) h = get_before log more at (omega (arith, h))

get_behind : (log : List Logged) (logged : Logged) → slice_get (log ++ logged ∷ []) (length log) ≡ Some logged
get_behind [] logged = refl
get_behind (x ∷ log) logged = get_behind log logged

rows_more : (log : List Logged) (logged : Logged) → map logged_row (log ++ logged ∷ []) ≡ map logged_row log ++ logged_row logged ∷ []
rows_more [] logged = refl
rows_more (x ∷ log) logged = ap (λ (rows : List Row). logged_row x ∷ rows) (rows_more log logged)

kept_entry : (log : List Logged) (logged : Logged) (o : Option ℕ) → ((at : ℕ) → o ≡ Some at → at < length log) → entry_at (log ++ logged ∷ []) o ≡ entry_at log o
kept_entry log logged None inside = refl
kept_entry log logged (Some at) inside = get_before log (logged ∷ []) at (inside at refl)

told_by : (log : List Logged) (logged : Logged) (o : Option ℕ) (before seen : Outcome) (b : Bool) → ((at : ℕ) → o ≡ Some at → at < length log) → seen ≡ told (entry_at log o) before
    → cond b (logged_row logged).outcome seen ≡ told (entry_at (log ++ logged ∷ []) (cond b (Some (length log)) o)) before
told_by log logged o before seen true inside is = ap (λ (e : Option Logged). told e before) (sym (get_behind log logged))
told_by log logged o before seen false inside is = is ∙ ap (λ (e : Option Logged). told e before) (sym (kept_entry log logged o inside))

inside_by : (log : List Logged) (logged : Logged) (o : Option ℕ) (b : Bool) (at : ℕ) → ((n : ℕ) → o ≡ Some n → n < length log) → cond b (Some (length log)) o ≡ Some at
    → at < length (log ++ logged ∷ [])
inside_by log logged o true at inside e =
    let long = length-append log (logged ∷ []) in
    let is : length log ≡ at = some_is (length log) at e in omega (arith, long, is)
  where
    some_is : (a b : ℕ) → Some a ≡ Some b → a ≡ b
    some_is a b e = cc
inside_by log logged o false at inside e = let long = length-append log (logged ∷ []) in let h = inside at e in omega (arith, long, h)

pub last_more : (old new : Entries) (log : List Logged) (logged : Logged) (pair : Pair) (at : ℕ) → AreLast old log → pair ≡ (logged_row logged).pair → at ≡ length log → Sets pair at old new
    → AreLast new (log ++ logged ∷ [])
last_more old new log logged pair at are own place sets = record {
  inside = λ other n e. inside_by log logged (found old other) (pair_eq pair other) n (are.inside other) (sym (is other) ∙ e);
  leaves = λ other before.
      ap (λ (rows : List Row). look_after rows other before) (rows_more log logged)
      ∙ look_append (map logged_row log) (logged_row logged ∷ []) other before
      ∙ ap (λ (p : Pair). cond (pair_eq p other) (logged_row logged).outcome (look_after (map logged_row log) other before)) (sym own)
      ∙ told_by log logged (found old other) before (look_after (map logged_row log) other before) (pair_eq pair other) (are.inside other) (are.leaves other before)
      ∙ ap (λ (o : Option ℕ). told (entry_at (log ++ logged ∷ []) o) before) (sym (is other));
}
  where
    is : (other : Pair) → found new other ≡ cond (pair_eq pair other) (Some (length log)) (found old other)
    is other = sets other ∙ ap (λ (n : ℕ). cond (pair_eq pair other) (Some n) (found old other)) place

-- COPIES

pub same_entries : (xs ys : Entries) → AllZip (λ x y. ((y.0.0 ≡ x.0.0) × (y.0.1 ≡ x.0.1)) × (y.1 ≡ x.1)) xs ys → ys ≡ xs
same_entries [] [] zip = refl
same_entries [] (y ∷ ys) zip = absurd zip
same_entries (x ∷ xs) [] zip = absurd zip
same_entries (((k, a), at) ∷ xs) (((l, b), to) ∷ ys) ((one, two), same) =
    let key : l ≡ k = one.0 in
    let alt : b ≡ a = one.1 in
    let place : to ≡ at = two in
    let rest : ys ≡ xs = same_entries xs ys same in
    cc

-- NOTHING YET

pub no_homes : (homes : Entries) (rows : List HomeRow) → homes ≡ [] → rows ≡ [] → AreHomes homes rows
no_homes homes rows none empty = λ pair. ap (λ (es : Entries). found es pair) none ∙ sym (ap (λ (rs : List HomeRow). home_in rs pair) empty)

pub no_last : (last : Entries) (log : List Logged) → last ≡ [] → log ≡ [] → AreLast last log
no_last last log none empty = record {
  inside = λ pair at e. absurd (nothing at (sym (ap (λ (es : Entries). found es pair) none) ∙ e));
  leaves = λ pair before.
      ap (λ (ls : List Logged). look_after (map logged_row ls) pair before) empty
      ∙ sym (ap (λ (es : Entries). told (entry_at log (found es pair)) before) none);
}
  where
    nothing : (at : ℕ) → None ≡ Some at → ⊥
    nothing at e = cc

-- THE SAME

pub same_homes : (old new : Entries) (rows copy : List HomeRow) → AreHomes old rows → new ≡ old → copy ≡ rows → AreHomes new copy
same_homes old new rows copy are same is = λ pair.
    ap (λ (es : Entries). found es pair) same ∙ are pair ∙ sym (ap (λ (rs : List HomeRow). home_in rs pair) is)

pub same_last : (old new : Entries) (log copy : List Logged) → AreLast old log → new ≡ old → copy ≡ log → AreLast new copy
same_last old new log copy are same is =
    subst (λ (ls : List Logged). AreLast new ls) (sym is) (subst (λ (es : Entries). AreLast es log) (sym same) are)

-- ONE MORE

pub homes_with : (old new : Entries) (rows more : List HomeRow) (row : HomeRow) → AreHomes old rows → home_in rows row.pair ≡ None → more ≡ rows ++ row ∷ []
    → Sets row.pair row.volume old new → AreHomes new more
homes_with old new rows more row are none is sets = subst (λ (rs : List HomeRow). AreHomes new rs) (sym is) (homes_more old new rows row are none sets)

pub last_with : (old new : Entries) (log more : List Logged) (logged : Logged) (pair : Pair) (at : ℕ) → AreLast old log → pair ≡ (logged_row logged).pair → at ≡ length log → more ≡ log ++ logged ∷ []
    → Sets pair at old new → AreLast new more
last_with old new log more logged pair at are own place is sets = subst (λ (ls : List Logged). AreLast new ls) (sym is) (last_more old new log logged pair at are own place sets)
