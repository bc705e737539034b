-- The home of a line, and the homes of pairs that got one.
use Rattle.std.proofs.Common.{◌≡◌, ◌≢◌, ◌⊎◌, ℕ, ◌<◌, ◌==◌, Bool, true, false, List, [], ◌∷◌, ◌++◌, Contains, Option, Some, None, inl, inr, refl, sym, ap, subst, ◌∙◌, take, drop, length}
use Rattle.std.specs.Prelude.{Result, Ok, Err, IfSome, OnOk, if◌then◌else◌}
use Rattle.std.specs.List.{AllByRecursion as Each}
use Rattle.std.specs.Option.{option_or}
use Rattle.std.proofs.lemmas.Bool.{cases_Bool, cond-true, cond-false, eq-eqb, ne_eqb}
use Rattle.std.proofs.lemmas.List.{take-append-drop}
use mathlib.Core.Logic.{dite}
use native.Mathlib.Decide.{ℕ_discrete}
use Rattle.hay_needle.specs.declared.needle.Pair.{Pair}
use Rattle.hay_needle.specs.Tables.{pair_eq}
use Rattle.hay_needle.proofs.TableLaws.{pair_refl, pair_same}
use Rattle.hay_legal.specs.declared.known.HomeRow.{HomeRow}
use Rattle.hay_legal.specs.Known.{EachPair, home_in}
use Rattle.hay_history.proofs.Lists.{each_both, first_or_rest, in_rest, is_first, none_in}
use Rattle.hay_directory.proofs.HomeLaws.{home_in-append}
use Rattle.hay_block.specs.declared.worker.Job.{Job}
use Rattle.hay_cluster_block.specs.Rows.{KeptWithin, home_at, home_by, home_if, home_kept}

-- one home more is kept
pub kept_more : {E : Type 0} (kept : Result Unit E) (volumes line volume : ℕ) (old new : List (ℕ × ℕ)) → volume < volumes → KeptWithin volumes old
    → OnOk kept ((other : ℕ) → home_kept new other ≡ (if line == other then Some volume else home_kept old other)) → OnOk kept (KeptWithin volumes new)
kept_more (Err e) volumes line volume old new low within is = tt
kept_more (Ok done) volumes line volume old new low within is = λ other. subst (λ (o : Option ℕ). IfSome o (λ v. v < volumes)) (sym (is other)) (chosen other (line == other))
  where
    chosen : (other : ℕ) (b : Bool) → IfSome (if b then Some volume else home_kept old other) (λ v. v < volumes)
    chosen other true = low
    chosen other false = within other

-- BY LINES

module _ (home : Pair → Option ℕ) where
  or_more : (a b c : Option ℕ) → option_or a (option_or b c) ≡ option_or (option_or a b) c
  or_more None b c = refl
  or_more (Some v) b c = refl

  -- the first line that has a home counts
  pub home_at-append : (jobs more : List Job) (line : ℕ) → home_at home (jobs ++ more) line ≡ option_or (home_at home jobs line) (home_at home more line)
  home_at-append [] more line = refl
  home_at-append (job ∷ jobs) more line =
      ap (option_or (home_if home job line)) (home_at-append jobs more line) ∙ or_more (home_if home job line) (home_at home jobs line) (home_at home more line)

  or_none : (a : Option ℕ) → option_or a None ≡ a
  or_none None = refl
  or_none (Some v) = refl

  -- of one line
  pub home_at-one : (job : Job) (line : ℕ) → home_at home (job ∷ []) line ≡ home_if home job line
  home_at-one job line = or_none (home_if home job line)

  -- a line more
  pub one_more : (before : Option ℕ) (jobs : List Job) (job : Job) (line : ℕ) → option_or (option_or before (home_at home jobs line)) (home_if home job line)
      ≡ option_or before (home_at home (jobs ++ job ∷ []) line)
  one_more before jobs job line =
      sym (or_more before (home_at home jobs line) (home_if home job line))
      ∙ ap (option_or before) (ap (option_or (home_at home jobs line)) (sym (home_at-one job line)) ∙ sym (home_at-append jobs (job ∷ []) line))

  -- a line whose pair has a home, where no other line of its number asks for something else
  pub found : (jobs : List Job) (job : Job) (v : ℕ) → Contains jobs job → home_by home job.item ≡ Some v
      → ((other : Job) → Contains jobs other → other.line ≡ job.line → other.item ≡ job.item) → home_at home jobs job.line ≡ Some v
  found [] job v among is same = absurd (none_in job among)
  found (first ∷ jobs) job v among is same = dite (ℕ_discrete first.line job.line)
      (λ e. rw (eq-eqb first.line job.line e)
      (ap (λ z. option_or (home_by home z) (home_at home jobs job.line)) (same first (is_first first jobs) e) ∙ ap (λ z. option_or z (home_at home jobs job.line)) is))
      (λ differs.
      let later : Contains jobs job = elim (first_or_rest first jobs job among) [ inl e ↦ absurd (differs (ap (λ (j : Job). j.line) e)) | inr rest ↦ rest ] in
      rw (ne_eqb first.line job.line differs) (found jobs job v later is (λ other among_rest. same other (in_rest first jobs other among_rest))))

-- BY ROWS

-- pairs that got a row for the first time, each one: their homes are by these rows
pub new_homes : (rows : List HomeRow) → EachPair (λ a b. a.pair ≢ b.pair) rows → Each (λ row. home_in rows row.pair ≡ Some row.volume) rows
new_homes [] distinct = tt
new_homes (row ∷ rows) distinct = (
  cond-true (pair_eq row.pair row.pair) (Some row.volume) (home_in rows row.pair) (pair_refl row.pair),
  each_both (λ (other : HomeRow). row.pair ≢ other.pair) (λ other. home_in rows other.pair ≡ Some other.volume) (λ other. home_in (row ∷ rows) other.pair ≡ Some other.volume)
      (λ other differs is. apart other differs is (cases_Bool (pair_eq row.pair other.pair))) rows distinct.0 (new_homes rows distinct.1),
)
  where
    apart : (other : HomeRow) → row.pair ≢ other.pair → home_in rows other.pair ≡ Some other.volume → (pair_eq row.pair other.pair ≡ true) ⊎ (pair_eq row.pair other.pair ≡ false)
        → home_in (row ∷ rows) other.pair ≡ Some other.volume
    apart other differs is (inl e) = absurd (differs (pair_same row.pair other.pair e))
    apart other differs is (inr e) = cond-false (pair_eq row.pair other.pair) (Some row.volume) (home_in rows other.pair) e ∙ is

-- and among all rows, where they had none before
pub homes_behind : (all before : List HomeRow) (row : HomeRow) → take (length before) all ≡ before → home_in before row.pair ≡ None
    → home_in (drop (length before) all) row.pair ≡ Some row.volume → home_in all row.pair ≡ Some row.volume
homes_behind all before row kept missing is =
    ap (λ z. home_in z row.pair) (sym (ap (λ z. z ++ drop (length before) all) (sym kept) ∙ take-append-drop (length before) all))
    ∙ (home_in-append before (drop (length before) all) row.pair ∙ (ap (λ z. option_or z (home_in (drop (length before) all) row.pair)) missing ∙ is))
