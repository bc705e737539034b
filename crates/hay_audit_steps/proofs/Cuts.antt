-- A box is cut at an end.
use Rattle.std.proofs.Common.{◌≡◌, ℕ, zero, suc, ◌+◌, ◌<◌, ◌≤◌, List, [], ◌∷◌, ◌++◌, length, refl, ap, ◌∙◌, inl, inr, arith}
use Rattle.std.specs.Prelude.{min, max, slice_index_or, slice_set}
use Rattle.std.specs.List.{AllZip, AllByRecursion as Each}
use Rattle.std.proofs.lemmas.Bool.{cases_lt}
use Rattle.hay_legal.specs.declared.known.Known.{Known}
use Rattle.hay_audit_steps.specs.BoxLaw.{EndsCutBoxes, SidesOfCuts, CutBoxesStep}
use Rattle.hay_audit_steps.specs.CheckerSteps.{Below, AnyOf, with_counts}
use Rattle.hay_legal.specs.Known.{NoneFalls}
use Rattle.hay_audit_steps.specs.Slacks.{Lies, Slack, no_slack}
use Rattle.hay_audit_steps.specs.Boxes.{IsPlace, Between, Box, Has, Within, above, set_slack, slack_at, up_to}
use Rattle.hay_audit_steps.proofs.Laying.{each_both, any_left, any_right}

zip_right : {X : Type 0} (R : X → X → Type 0) (xs ys : List X) (i : ℕ) (d y : X) → AllZip R xs ys → R (slice_index_or xs i d) y → AllZip R xs (slice_set ys i y)
zip_right R [] [] i d y h g = tt
zip_right R (x ∷ xs) (z ∷ ys) zero d y h g = (g, h.1)
zip_right R (x ∷ xs) (z ∷ ys) (suc i) d y h g = (h.0, zip_right R xs ys i d y h.1 g)
zip_right R [] (z ∷ ys) i d y h g = absurd h
zip_right R (x ∷ xs) [] i d y h g = absurd h

zip_left : {X : Type 0} (R : X → X → Type 0) (xs ys : List X) (i : ℕ) (d x : X) → AllZip R xs ys → R x (slice_index_or ys i d) → AllZip R (slice_set xs i x) ys
zip_left R [] [] i d y h g = tt
zip_left R (x ∷ xs) (z ∷ ys) zero d y h g = (g, h.1)
zip_left R (x ∷ xs) (z ∷ ys) (suc i) d y h g = (h.0, zip_left R xs ys i d y h.1 g)
zip_left R [] (z ∷ ys) i d y h g = absurd h
zip_left R (x ∷ xs) [] i d y h g = absurd h

zip_at : {X : Type 0} (R : X → X → Type 0) (xs ys : List X) (i : ℕ) (d : X) → R d d → AllZip R xs ys → R (slice_index_or xs i d) (slice_index_or ys i d)
zip_at R [] [] i d e h = e
zip_at R (x ∷ xs) (y ∷ ys) zero d e h = h.0
zip_at R (x ∷ xs) (y ∷ ys) (suc i) d e h = zip_at R xs ys i d e h.1
zip_at R [] (y ∷ ys) i d e h = absurd h
zip_at R (x ∷ xs) [] i d e h = absurd h

zip_trans : {X : Type 0} (R : X → X → Type 0) → ((a b c : X) → R a b → R b c → R a c) → (xs ys zs : List X) → AllZip R xs ys → AllZip R ys zs → AllZip R xs zs
zip_trans R on [] [] [] h g = tt
zip_trans R on (x ∷ xs) (y ∷ ys) (z ∷ zs) h g = (on x y z h.0 g.0, zip_trans R on xs ys zs h.1 g.1)
zip_trans R on [] (y ∷ ys) zs h g = absurd h
zip_trans R on (x ∷ xs) [] zs h g = absurd h
zip_trans R on xs [] (z ∷ zs) h g = absurd g
zip_trans R on xs (y ∷ ys) [] h g = absurd g

zip_same : {X : Type 0} (R : X → X → Type 0) → ((a : X) → R a a) → (xs : List X) → AllZip R xs xs
zip_same R own [] = tt
zip_same R own (x ∷ xs) = (own x, zip_same R own xs)

abbrev Row : List Slack → List Slack → Type 0
Row xs ys = AllZip Lies xs ys

lies_own : (x : Slack) → Lies x x
lies_own x = record { end = omega arith; cells = omega arith; bare = omega arith }

lies_trans : (a b c : Slack) → Lies a b → Lies b c → Lies a c
lies_trans a b c h g = record { end = omega (arith, h.end, g.end); cells = omega (arith, h.cells, g.cells); bare = omega (arith, h.bare, g.bare) }

row_own : (xs : List Slack) → Row xs xs
row_own xs = zip_same Lies lies_own xs

pub within_trans : (xss yss zss : List (List Slack)) → Within xss yss → Within yss zss → Within xss zss
within_trans xss yss zss h g = zip_trans Row (zip_trans Lies lies_trans) xss yss zss h g

pub within_at : (xss yss : List (List Slack)) (v j : ℕ) → Within xss yss → Lies (slack_at xss v j) (slack_at yss v j)
within_at xss yss v j h = zip_at Lies (slice_index_or xss v []) (slice_index_or yss v []) j no_slack (lies_own no_slack) (zip_at Row xss yss v [] tt h)

-- a bound that is set at a place where it holds
pub within_set : (xss yss : List (List Slack)) (v j : ℕ) (y : Slack) → Within xss yss → Lies (slack_at xss v j) y → Within xss (set_slack yss v j y)
within_set xss yss v j y h g =
    zip_right Row xss yss v [] (slice_set (slice_index_or yss v []) j y) h
    (zip_right Lies (slice_index_or xss v []) (slice_index_or yss v []) j no_slack y (zip_at Row xss yss v [] tt h) g)

pub set_within : (xss yss : List (List Slack)) (v j : ℕ) (x : Slack) → Within xss yss → Lies x (slack_at yss v j) → Within (set_slack xss v j x) yss
set_within xss yss v j x h g =
    zip_left Row xss yss v [] (slice_set (slice_index_or xss v []) j x) h
    (zip_left Lies (slice_index_or xss v []) (slice_index_or yss v []) j no_slack x (zip_at Row xss yss v [] tt h) g)

pub within_own : (xss : List (List Slack)) → Within xss xss
within_own xss = zip_same Row row_own xss

-- what is set is read there, if there is such a place
index_set : {X : Type 0} (xs : List X) (i : ℕ) (x d : X) → i < length xs → slice_index_or (slice_set xs i x) i d ≡ x
index_set [] i x d h = absurd (omega (arith, h))
index_set (y ∷ xs) zero x d h = refl
index_set (y ∷ xs) (suc i) x d h = index_set xs i x d (omega (arith, h))

pub slack_set : (xss : List (List Slack)) (v j : ℕ) (x : Slack) → IsPlace xss v j → slack_at (set_slack xss v j x) v j ≡ x
slack_set xss v j x place =
    ap (λ (xs : List Slack). slice_index_or xs j no_slack) (index_set xss v (slice_set (slice_index_or xss v []) j x) [] place.0)
    ∙ index_set (slice_index_or xss v []) j x no_slack place.1

pub cut_end : EndsCutBoxes
cut_end box v j most = record {
  inside = (
    λ k has. (
      has.0,
      record {
        least = (has.1).least;
        most = within_trans has.0 (up_to box v j most).high box.high (has.1).most
            (set_within box.high box.high v j (record (slack_at box.high v j) { end = min (slack_at box.high v j).end most }) (within_own box.high)
            (record { end = omega arith; cells = omega arith; bare = omega arith }));
      },
      has.2,
    ),
    (
      λ k has. (
        has.0,
        record {
          least = within_trans box.low (above box v j most).low has.0
              (within_set box.low box.low v j (record (slack_at box.low v j) { end = max (slack_at box.low v j).end (most + 1) }) (within_own box.low)
              (record { end = omega arith; cells = omega arith; bare = omega arith }))
              (has.1).least;
          most = (has.1).most;
        },
        has.2,
      ),
      tt,
    ),
  );
  whole = λ k has. elim (cases_lt most (slack_at has.0 v j).end) [
    | inl high ↦
        let lies = within_at box.low has.0 v j (has.1).least in
        inr (inl (
          has.0,
          record {
            least = set_within box.low has.0 v j (record (slack_at box.low v j) { end = max (slack_at box.low v j).end (most + 1) }) (has.1).least
                (record { end = omega (arith, high, lies.end); cells = lies.cells; bare = lies.bare });
            most = (has.1).most;
          },
          has.2,
        ))
    | inr low ↦
        let lies = within_at has.0 box.high v j (has.1).most in
        inl (
          has.0,
          record {
            least = (has.1).least;
            most = within_set has.0 box.high v j (record (slack_at box.high v j) { end = min (slack_at box.high v j).end most }) (has.1).most
                (record { end = omega (arith, low, lies.end); cells = lies.cells; bare = lies.bare });
          },
          has.2,
        )
  ];
}

-- each part is on one side
up_to_is : (box : Box) (v j most : ℕ) (xss : List (List Slack)) → IsPlace box.high v j → Between (up_to box v j most).low xss (up_to box v j most).high → (slack_at xss v j).end ≤ most
up_to_is box v j most xss place h =
    let lies = within_at xss (up_to box v j most).high v j h.most in
    let is = slack_set box.high v j (record (slack_at box.high v j) { end = min (slack_at box.high v j).end most }) place in
    let most_end : (slack_at (up_to box v j most).high v j).end ≡ min (slack_at box.high v j).end most = ap (λ (x : Slack). x.end) is in
    omega (arith, lies.end, most_end)

above_is : (box : Box) (v j most : ℕ) (xss : List (List Slack)) → IsPlace box.low v j → Between (above box v j most).low xss (above box v j most).high → most < (slack_at xss v j).end
above_is box v j most xss place h =
    let lies = within_at (above box v j most).low xss v j h.least in
    let is = slack_set box.low v j (record (slack_at box.low v j) { end = max (slack_at box.low v j).end (most + 1) }) place in
    let least_end : (slack_at (above box v j most).low v j).end ≡ max (slack_at box.low v j).end (most + 1) = ap (λ (x : Slack). x.end) is in
    omega (arith, lies.end, least_end)

pub sides_of_cuts : SidesOfCuts
sides_of_cuts box v j most xss places = (up_to_is box v j most xss places.1, above_is box v j most xss places.0)

each_box : (P Q : Box → Type 0) (ds : List Box) → ((d : Box) → P d → Q d) → Each P ds → Each Q ds
each_box P Q [] step h = tt
each_box P Q (d ∷ ds) step h = (step d h.0, each_box P Q ds step h.1)

pub cut_step : CutBoxesStep
cut_step row box d e nd ne cut one other = record {
  sound = each_both _ nd ne
      (each_box _ _ nd (λ n h t has. let from = h t has in (from.0, (cut.inside).0 from.0 from.1, from.2)) one.sound)
      (each_box _ _ ne (λ n h t has. let from = h t has in (from.0, (cut.inside).1.0 from.0 from.1, from.2)) other.sound);
  complete = λ k faults arms fuses t has f a r. by_part k faults arms fuses t f a r (cut.whole k has);
}
  where
    by_part : (k : Known) (faults arms fuses : List ℕ) (t : Known) → NoneFalls k.faults faults → NoneFalls k.arms arms
        → row (with_counts k faults arms fuses) t → AnyOf (λ p. Has p k) (d ∷ e ∷ []) → AnyOf (λ n. (u : Known) × Has n u × Below u t) (nd ++ ne)
    by_part k faults arms fuses t f a r (inl has) = any_left _ nd ne (one.complete k faults arms fuses t has f a r)
    by_part k faults arms fuses t f a r (inr (inl has)) = any_right _ nd ne (other.complete k faults arms fuses t has f a r)
    by_part k faults arms fuses t f a r (inr (inr lie)) = absurd lie
