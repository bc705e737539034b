-- Boxes that are divided, so that a step of each part is a step of the whole.
use Rattle.std.proofs.Common.{◌≡◌, ℕ, zero, suc, ◌<◌, List, [], ◌∷◌, length, refl, sym, ◌∙◌, inl, inr, arith}
use Rattle.std.specs.Prelude.{flat_map, slice_index_or, slice_set}
use Rattle.std.specs.List.{AllZip, AllByRecursion as Each}
use Rattle.hay_legal.specs.declared.known.VolumeKnown.{VolumeKnown}
use Rattle.hay_legal.specs.declared.known.Known.{Known}
use Rattle.hay_legal.specs.Known.{NoneFalls, volume_at, empty_volume}
use Rattle.hay_audit_steps.specs.CheckerSteps.{Below, AnyOf, with_counts}
use Rattle.hay_audit_steps.specs.Slacks.{Lies, Slack}
use Rattle.hay_audit_steps.specs.Boxes.{Box, Has, IsBoxStep, IsFilled, IsPlace, Within}
use Rattle.hay_audit_steps.specs.Rooms.{IsWhole, lowest}
use Rattle.hay_audit_steps.proofs.Cuts.{within_own}
use Rattle.hay_audit_steps.proofs.Laying.{any_left, any_right, each_both}
use Rattle.hay_audit_steps.proofs.Wider.{set_length, zip_index, zip_long}

-- A BOX WITH A RANGE FOR EACH REPLICA

abbrev Shape : List VolumeKnown → List (List Slack) → Type 0
Shape volumes lows = AllZip (λ volume row. length volume.replicas ≡ length row) volumes lows

pub shape_set : (volumes : List VolumeKnown) (lows : List (List Slack)) (v j : ℕ) (x : Slack) → Shape volumes lows → Shape volumes (slice_set lows v (slice_set (slice_index_or lows v []) j x))
shape_set [] [] v j x h = tt
shape_set (w ∷ volumes) (l ∷ lows) zero j x h = (h.0 ∙ sym (set_length l j x), h.1)
shape_set (w ∷ volumes) (l ∷ lows) (suc v) j x h = (h.0, shape_set volumes lows v j x h.1)
shape_set [] (l ∷ lows) v j x h = absurd h
shape_set (w ∷ volumes) [] v j x h = absurd h

shape_place : (volumes : List VolumeKnown) (lows : List (List Slack)) (v j : ℕ) → Shape volumes lows → j < length (slice_index_or volumes v empty_volume).replicas → IsPlace lows v j
shape_place [] [] v j h g = absurd (omega (arith, g))
shape_place (w ∷ volumes) (l ∷ lows) zero j h g = (omega arith, omega (arith, g, h.0))
shape_place (w ∷ volumes) (l ∷ lows) (suc v) j h g = let at = shape_place volumes lows v j h.1 g in (omega (arith, at.0), at.1)
shape_place [] (l ∷ lows) v j h g = absurd h
shape_place (w ∷ volumes) [] v j h g = absurd h

place_above : (xss yss : List (List Slack)) (v j : ℕ) → Within xss yss → IsPlace xss v j → IsPlace yss v j
place_above xss yss v j h place = (
  omega (arith, place.0, zip_long (λ xs ys. AllZip Lies xs ys) xss yss h),
  omega (arith, place.1, zip_long Lies (slice_index_or xss v []) (slice_index_or yss v []) (zip_index (λ xs ys. AllZip Lies xs ys) xss yss v [] tt h)),
)

pub filled_there : (box : Box) (v j : ℕ) → IsWhole box → j < length (volume_at box.base v).replicas → IsFilled box v j
filled_there box v j is within =
    let place = shape_place box.base.volumes box.low v j is.shaped within in
    record { low = place; high = place_above box.low box.high v j is.some place; volume = within; some = is.some }

pub has_lowest : (box : Box) → IsWhole box → Has box (lowest box)
has_lowest box is = (box.low, record { least = within_own box.low; most = is.some }, refl)

-- PARTS OF A BOX

pub record IsPartOf (box d : Box) : Type 0 where
  pub base : d.base ≡ box.base
  pub inside : (k : Known) → Has d k → Has box k
  pub whole : IsWhole d

pub part_trans : (box d e : Box) → IsPartOf box d → IsPartOf d e → IsPartOf box e
part_trans box d e h g = record { base = g.base ∙ h.base; inside = λ k has. h.inside k (g.inside k has); whole = g.whole }

-- The parts, of which each is so, have all states that are covered.
pub record Divides (box : Box) (Covered : Known → Type 0) (parts : List Box) (Q : Box → Type 0) : Type 0 where
  pub each : Each (λ d. IsPartOf box d × Q d) parts
  pub all : (k : Known) → Has box k → Covered k → AnyOf (λ d. Has d k) parts

pub divides_none : (box : Box) (Covered : Known → Type 0) (Q : Box → Type 0) → ((k : Known) → Has box k → Covered k → ⊥) → Divides box Covered [] Q
divides_none box Covered Q lie = record { each = tt; all = λ k has covered. absurd (lie k has covered) }

pub divides_self : (box : Box) (Covered : Known → Type 0) (Q : Box → Type 0) → IsWhole box → Q box → Divides box Covered (box ∷ []) Q
divides_self box Covered Q is q = record {
  each = ((record { base = refl; inside = λ k has. has; whole = is }, q), tt);
  all = λ k has covered. inl has;
}

each_on : (P Q : Box → Type 0) (ds : List Box) → ((d : Box) → P d → Q d) → Each P ds → Each Q ds
each_on P Q [] step h = tt
each_on P Q (d ∷ ds) step h = (step d h.0, each_on P Q ds step h.1)

-- the parts are divided again, by less of what is covered
pub divides_then : (box : Box) (Covered Less : Known → Type 0) (ds : List Box) (f : Box → List Box) (Q R S : Box → Type 0) → Divides box Covered ds Q
    → ((k : Known) → Less k → Covered k)
    → ((d : Box) → IsPartOf box d → Q d → Divides d Less (f d) R) → ((d e : Box) → IsPartOf d e → Q d → R e → S e) → Divides box Less (flat_map f ds) S
divides_then box Covered Less ds f Q R S h less more both = record {
  each = each_part ds h.each;
  all = λ k has covered. any_part k covered ds h.each (h.all k has (less k covered));
}
  where
    each_part : (xs : List Box) → Each (λ d. IsPartOf box d × Q d) xs → Each (λ d. IsPartOf box d × S d) (flat_map f xs)
    each_part [] g = tt
    each_part (d ∷ xs) g =
        each_both (λ e. IsPartOf box e × S e) (f d) (flat_map f xs)
        (each_on (λ e. IsPartOf d e × R e) (λ e. IsPartOf box e × S e) (f d) (λ e r. (part_trans box d e (g.0).0 r.0, both d e r.0 (g.0).1 r.1)) (more d (g.0).0 (g.0).1).each)
        (each_part xs g.1)

    any_part : (k : Known) → Less k → (xs : List Box) → Each (λ d. IsPartOf box d × Q d) xs → AnyOf (λ d. Has d k) xs → AnyOf (λ d. Has d k) (flat_map f xs)
    any_part k covered [] g has = has
    any_part k covered (d ∷ xs) g has = elim has [
      | inl here ↦ any_left (λ e. Has e k) (f d) (flat_map f xs) ((more d (g.0).0 (g.0).1).all k here covered)
      | inr there ↦ any_right (λ e. Has e k) (f d) (flat_map f xs) (any_part k covered xs g.1 there)
    ]

-- STEPS OF PARTS

pub steps_of_parts : (row : Known → Known → Type 0) (box : Box) (Covered : Known → Type 0) (parts : List Box) (Q : Box → Type 0) (next : Box → List Box) → Divides box Covered parts Q
    → ((k : Known) (faults arms fuses : List ℕ) (t : Known) → Has box k → row (with_counts k faults arms fuses) t → Covered k)
    → ((d : Box) → IsPartOf box d → Q d → IsBoxStep row d (next d)) → IsBoxStep row box (flat_map next parts)
steps_of_parts row box Covered parts Q next h covers step = record {
  sound = each_part parts h.each;
  complete = λ k faults arms fuses t has f a r. any_part k faults arms fuses t f a r parts h.each (h.all k has (covers k faults arms fuses t has r));
}
  where
    each_part : (xs : List Box) → Each (λ d. IsPartOf box d × Q d) xs → Each (λ n. (t : Known) → Has n t → (k : Known) × Has box k × row k t) (flat_map next xs)
    each_part [] g = tt
    each_part (d ∷ xs) g =
        each_both (λ n. (t : Known) → Has n t → (k : Known) × Has box k × row k t) (next d) (flat_map next xs)
        (each_on (λ n. (t : Known) → Has n t → (k : Known) × Has d k × row k t) (λ n. (t : Known) → Has n t → (k : Known) × Has box k × row k t) (next d)
        (λ n one t has. let from = one t has in (from.0, (g.0).0.inside from.0 from.1, from.2)) (step d (g.0).0 (g.0).1).sound)
        (each_part xs g.1)

    any_part : (k : Known) (faults arms fuses : List ℕ) (t : Known) → NoneFalls k.faults faults → NoneFalls k.arms arms → row (with_counts k faults arms fuses) t
        → (xs : List Box) → Each (λ d. IsPartOf box d × Q d) xs → AnyOf (λ d. Has d k) xs → AnyOf (λ n. (e : Known) × Has n e × Below e t) (flat_map next xs)
    any_part k faults arms fuses t f a r [] g has = absurd has
    any_part k faults arms fuses t f a r (d ∷ xs) g has = elim has [
      | inl here ↦ any_left (λ n. (e : Known) × Has n e × Below e t) (next d) (flat_map next xs) ((step d (g.0).0 (g.0).1).complete k faults arms fuses t here f a r)
      | inr there ↦ any_right (λ n. (e : Known) × Has n e × Below e t) (next d) (flat_map next xs) (any_part k faults arms fuses t f a r xs g.1 there)
    ]
