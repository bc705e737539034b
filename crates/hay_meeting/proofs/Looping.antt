-- The loop of a lane over its jobs, and all lanes' loops: where each answer goes on, they are lanes of lines.
use Rattle.std.proofs.Common.{◌≡◌, inl, inr, ℕ, zero, suc, ◌<◌, ◌≤◌, Bool, List, [], ◌∷◌, length, map, filter, refl, sym, ap, subst, ◌∙◌, arith, Some, slice_get}
use Rattle.std.specs.Prelude.{◌==◌}
use Rattle.std.specs.List.{AllByRecursion as Each}
use Rattle.std.proofs.lemmas.Bool.{cases_lt, ne_eqb}
use Rattle.std.proofs.lemmas.List.{length-map}
use Rattle.std.proofs.lemmas.Option.{slice_get_within}
use mathlib.Core.Logic.{dite}
use native.Mathlib.Decide.{dec_lt}
use Rattle.hay_needle.specs.declared.settings.Settings.{Settings}
use Rattle.hay_legal.specs.declared.turn.LaneItem.{LaneItem}
use Rattle.hay_lanes.specs.Lanes.{AnswersAll, AnswersLanes}
use Rattle.hay_meeting.specs.Acts.{Start}
use Rattle.hay_meeting.specs.Chains.{AreLanes, GoesOn, IsChain, Note, items_of}
use Rattle.hay_meeting.specs.Sights.{Sight}
use Rattle.hay_meeting.proofs.Closing.{there}

pub no_items : (lane lanes : ℕ) (items : List LaneItem) → Each (λ item. item.lane < lanes) items → lanes ≤ lane → filter (λ item. item.lane == lane) items ≡ []
no_items lane lanes [] low high = refl
no_items lane lanes (item ∷ items) low high =
    let less = low.0 in rw (ne_eqb item.lane lane (λ e. omega (arith, e, less, high))) (no_items lane lanes items low.1 high)

-- an element of a list that was mapped
mapped_at : {A B : Type 0} (f : A → B) (xs : List A) (i : ℕ) (x : A) (y : B) → slice_get xs i ≡ Some x → slice_get (map f xs) i ≡ Some y → y ≡ f x
mapped_at f [] i x y at_x at_y = absurd (cc at_x)
mapped_at f (z ∷ zs) zero x y at_x at_y = let a : z ≡ x = cc at_x in let b : f z ≡ y = cc at_y in sym b ∙ ap f a
mapped_at f (z ∷ zs) (suc i) x y at_x at_y = mapped_at f zs i x y at_x at_y

module _ {W J O : Type 0} (settings : Settings) (start : Start) (drained : List Bool) (answers : W → ℕ → J → W → O → Type 0) (sight_of : W → Sight) (item_of : ℕ → J → O → LaneItem) where
  abbrev pub note_of : ℕ → W → J → W → O → Note
  note_of lane w job x out = record { item = item_of lane job out; before = sight_of w; after = sight_of x }

  -- the lines of a lane, one for each job
  abbrev pub lines_of : ℕ → List J → List O → List LaneItem
  lines_of lane [] outs = []
  lines_of lane (job ∷ jobs) [] = []
  lines_of lane (job ∷ jobs) (out ∷ outs) = item_of lane job out ∷ lines_of lane jobs outs

  -- each answer goes on from what its lane had seen
  pub record GoOn : Type 0 where
    pub lane_is : (lane : ℕ) (job : J) (out : O) → (item_of lane job out).lane ≡ lane
    pub each : (lane : ℕ) (w : W) (job : J) (x : W) (out : O) → answers w lane job x out → GoesOn settings start drained (note_of lane w job x out)

  -- the notes of a lane's jobs
  pub record OfJobs (lane : ℕ) (a b : Sight) (items : List LaneItem) : Type 0 where
    pub notes : List Note
    pub items_are : items_of notes ≡ items
    pub chain : IsChain settings start drained lane a notes b

  pub chained : GoOn → (lane : ℕ) (w : W) (jobs : List J) (after : W) (outs : List O) → AnswersAll answers lane w jobs after outs
      → OfJobs lane (sight_of w) (sight_of after) (lines_of lane jobs outs)
  chained go lane w [] after outs (same, none) = record { notes = []; items_are = refl; chain = ap sight_of same }
  chained go lane w (job ∷ jobs) after outs (x, out, rest, outs_are, answered, more) =
      let r = chained go lane x jobs after rest more in record {
        notes = note_of lane w job x out ∷ r.notes;
        items_are = subst (λ os. item_of lane job out ∷ items_of r.notes ≡ lines_of lane (job ∷ jobs) os) (sym outs_are) (ap (λ z. item_of lane job out ∷ z) r.items_are);
        chain = (refl, go.lane_is lane job out, go.each lane w job x out answered, r.chain);
      }

  record OfLane (workers after : List W) (items : List LaneItem) (lane : ℕ) : Type 0 where
    pub notes : List Note
    pub each : filter (λ item. item.lane == lane) items ≡ items_of notes
    pub chain : (a b : Sight) → slice_get (map sight_of workers) lane ≡ Some a → slice_get (map sight_of after) lane ≡ Some b → IsChain settings start drained lane a notes b

  module _ (go : GoOn) {lanes : ℕ} {workers after : List W} {jobs : List (List J)} {outs : List (List O)} {items : List LaneItem}
      (all : AnswersLanes answers workers jobs after outs) (many : length workers ≡ lanes) (given : length jobs ≡ lanes)
      (low : Each (λ item. item.lane < lanes) items)
      (lines : (lane : ℕ) (js : List J) (os : List O) → slice_get jobs lane ≡ Some js → slice_get outs lane ≡ Some os
      → filter (λ item. item.lane == lane) items ≡ lines_of lane js os) where
    of_lane : (lane : ℕ) → OfLane workers after items lane
    of_lane lane = dite (dec_lt lane lanes)
        (λ inside.
        let w = there workers lane (omega (arith, inside, many)) in
        let js = there jobs lane (omega (arith, inside, given)) in
        let r = all.each lane w.0 js.0 w.1 js.1 in
        let c = chained go lane w.0 js.0 r.0 r.1 r.4 in record {
          notes = c.notes;
          each = lines lane js.0 r.1 js.1 r.3 ∙ sym c.items_are;
          chain = λ a b at_a at_b.
              subst (λ (z : Sight). IsChain settings start drained lane z c.notes b) (sym (mapped_at sight_of workers lane w.0 a w.1 at_a))
              (subst (IsChain settings start drained lane (sight_of w.0) c.notes) (sym (mapped_at sight_of after lane r.0 b r.2 at_b)) c.chain);
        })
        (λ outside. record {
          notes = [];
          each = no_items lane lanes items low (high_of outside);
          chain = λ a b at_a at_b.
              let inside = slice_get_within (map sight_of workers) lane a at_a in
              absurd (outside (omega (arith, inside, length-map workers sight_of, many)));
        })
      where
        high_of : (lane < lanes → ⊥) → lanes ≤ lane
        high_of outside = elim (cases_lt lane lanes) [ inl inside ↦ absurd (outside inside) | inr high ↦ high ]

    pub are_lanes : AreLanes settings start drained lanes (map sight_of workers) (map sight_of after) items
    are_lanes = record {
      notes = λ lane. (of_lane lane).notes;
      low = low;
      each = λ lane. (of_lane lane).each;
      chain = λ lane a b at_a at_b. (of_lane lane).chain a b at_a at_b;
    }
