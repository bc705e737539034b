-- Which arms the lines of a block blame.
use Rattle.std.proofs.Common.{◌≡◌, ◌≢◌, ℕ, zero, suc, ◌<◌, ◌≤◌, ◌==◌, Bool, true, List, [], ◌∷◌, ◌++◌, map, length, Option, Some, None, refl, sym, ap, subst, ◌∙◌, arith, ne_eqb}
use Rattle.std.specs.Prelude.{filter, flat_map, slice_get, slice_index}
use Rattle.std.specs.List.{AllByRecursion as Each}
use Rattle.hay_reply.specs.declared.Reply.{Reply}
use Rattle.hay_legal.specs.declared.turn.LaneItem.{LaneItem}
use Rattle.hay_legal.specs.Items.{InBlock}
use Rattle.hay_lane.specs.Blames.{BlamesArm, causes_told}
use Rattle.hay_lane.proofs.Blaming.{blames_where}
use Rattle.hay_block.specs.Lines.{BlameArms}
use Rattle.hay_run.specs.Blocks.{AreAnswered, lane_causes}
use Rattle.hay_run.proofs.Counting.{count_at}

-- LISTS

nowhere : {X : Type 0} (xs : List X) (i : ℕ) → slice_get xs i ≡ None → length xs ≤ i
nowhere [] i none = omega arith
nowhere (x ∷ xs) zero none = absurd cc
nowhere (x ∷ xs) (suc i) none = let rest = nowhere xs i none in omega (arith, rest)

none_kept : (lane n : ℕ) (items : List LaneItem) → Each (λ item. item.lane < n) items → n ≤ lane → filter (λ item. item.lane == lane) items ≡ []
none_kept lane n [] low high = refl
none_kept lane n (item ∷ items) low high =
    let below = low.0 in
    let differs : item.lane ≢ lane = λ same. absurd (omega (arith, below, high, same)) in
    rw (ne_eqb item.lane lane differs) (none_kept lane n items low.1 high)

told_by_replies : (items : List LaneItem) → flat_map (λ item. causes_told item.reply) items ≡ flat_map causes_told (map (λ item. item.reply) items)
told_by_replies [] = refl
told_by_replies (item ∷ items) = ap (λ l. causes_told item.reply ++ l) (told_by_replies items)

sure_there : {A : Type 0} (is_sure : A → Bool) (arms : List A) (lane : ℕ) (arm : A) → slice_get arms lane ≡ Some arm → slice_get (map is_sure arms) lane ≡ Some true → is_sure arm ≡ true
sure_there is_sure [] lane arm at sure = absurd cc
sure_there is_sure (x ∷ arms) zero arm at sure = let same : x ≡ arm = cc in let is : is_sure x ≡ true = cc in ap is_sure (sym same) ∙ is
sure_there is_sure (x ∷ arms) (suc lane) arm at sure = sure_there is_sure arms lane arm at sure

-- LINES

module _ {A : Type 0} (is_sure : A → Bool) (faults : A → ℕ) (old new : List A) (lines : List InBlock) (replies : List (List Reply)) (items : List LaneItem)
    (answered : AreAnswered lines replies items) (blame : BlameArms is_sure faults old new replies) where
  -- those of a lane blame its own arm
  pub lanes_blame : (lane : ℕ) → BlamesArm (slice_get (map is_sure old) lane ≡ Some true) (slice_index (map faults old) lane) (slice_index (map faults new) lane) (lane_causes lane items)
  lanes_blame lane = by (slice_get replies lane) refl
    where
      by : (own : Option (List Reply)) → slice_get replies lane ≡ own
          → BlamesArm (slice_get (map is_sure old) lane ≡ Some true) (slice_index (map faults old) lane) (slice_index (map faults new) lane) (lane_causes lane items)
      by None none =
          let nothing : lane_causes lane items ≡ [] = ap (λ kept. flat_map (λ (item : LaneItem). causes_told item.reply) kept)
          (none_kept lane (length replies) items answered.low (nowhere replies lane none)) in
          subst (BlamesArm (slice_get (map is_sure old) lane ≡ Some true) (slice_index (map faults old) lane) (slice_index (map faults new) lane)) (sym nothing)
          (record { each = tt; rises = tt })
      by (Some rs) at =
          let b = blame.each lane rs at in
          let own : lane_causes lane items ≡ flat_map causes_told rs =
          told_by_replies (filter (λ item. item.lane == lane) items) ∙ ap (λ l. flat_map causes_told l) (answered.each lane rs at) in
          subst (BlamesArm (slice_get (map is_sure old) lane ≡ Some true) (slice_index (map faults old) lane) (slice_index (map faults new) lane)) (sym own)
          (subst (λ n. BlamesArm (slice_get (map is_sure old) lane ≡ Some true) n (slice_index (map faults new) lane) (flat_map causes_told rs)) (sym (count_at faults old lane b.0 b.2))
          (subst (λ n. BlamesArm (slice_get (map is_sure old) lane ≡ Some true) (faults b.0) n (flat_map causes_told rs)) (sym (count_at faults new lane b.1 b.3))
          (blames_where (slice_get (map is_sure old) lane ≡ Some true) (is_sure b.0 ≡ true) (faults b.0) (faults b.1) (flat_map causes_told rs) (sure_there is_sure old lane b.0 b.2) b.4)))
