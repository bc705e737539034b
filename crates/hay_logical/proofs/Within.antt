-- Each place that the rows have lies within the cells of its replica, behind each call as before it.
use Rattle.std.proofs.Common.{◌≡◌, inl, inr, ℕ, ◌≤◌, false, cond, List, [], ◌∷◌, length, map, Option, sym, ap, subst, ◌∙◌, arith}
use Rattle.std.specs.Prelude.{Err, Ok, Result, slice_set}
use Rattle.std.proofs.lemmas.Bool.{cases_Bool, cases_eq, cond_both}
use Rattle.hay_needle.specs.declared.needle.Pair.{Pair}
use Rattle.hay_needle.specs.Tables.{pair_eq}
use Rattle.hay_needle.proofs.TableLaws.{pair_same}
use Rattle.hay_map.specs.MapRows.{MapRows}
use Rattle.hay_map.specs.Rows.{last_place}
use Rattle.hay_map.specs.declared.place.Place.{Place}
use Rattle.hay_map.specs.declared.place.Place.TheVariants as place
use Rattle.hay_map.specs.declared.view.OpenCell.{OpenCell}
use Rattle.hay_open.specs.Finds.{ArePlacesWithin, PlaceWithin}
use Rattle.hay_physical.specs.declared.fault.ReplicaFault.{ReplicaFault}
use Rattle.hay_logical.specs.declared.unsure.Unsure.{Unsure}
use Rattle.hay_logical.specs.Fits.{At}
use Rattle.hay_logical.specs.Seen.{AreLonger, FreezesSeen, ReplicaSeen, VolumeSeen, grown}
use Rattle.hay_logical.specs.Sights.{BecomesSeen, ErasesSights, KeepsSights, LiesWithin, LiesWithinAt, LiesWithinEach, Looks, LooksAtPair, Sight, Sights, StoresSights}
use Rattle.hay_logical.specs.Sights.{SwapsSights, gone_sight, sight, sights_of}
use Rattle.hay_logical.specs.Sights.Sight.{Gone, Live, Never, Unseen}
use Rattle.hay_logical.specs.ReplicaCalls.{SeesRow}
use Rattle.hay_logical.proofs.Lists.{at_below, at_set_other, at_there}
use Rattle.hay_logical.proofs.Seen.{map_at}
use Rattle.hay_logical.proofs.SightChanges.{sights_kept}

-- ONE PLACE

pub lies_further : (end later : ℕ) (s : Sight) → end ≤ later → LiesWithin end s → LiesWithin later s
lies_further end later Never grows lies = tt
lies_further end later (Live at) grows lies = (lies.0, omega (arith, lies.1, grows))
lies_further end later Gone grows lies = tt
lies_further end later (Unseen at size) grows lies = (lies.0, omega (arith, lies.1, grows))

becomes_lies : (end : ℕ) (a b : Sight) → BecomesSeen a b → LiesWithin end a → LiesWithin end b
becomes_lies end Never b becomes lies = absurd becomes
becomes_lies end (Live at) b becomes lies = absurd becomes
becomes_lies end Gone b becomes lies = absurd becomes
becomes_lies end (Unseen at size) b (inl live) lies = subst (λ (s : Sight). LiesWithin end s) (sym live) (lies.0, omega (arith, lies.1))
becomes_lies end (Unseen at size) b (inr gone) lies = subst (λ (s : Sight). LiesWithin end s) (sym gone) tt

pub look_lies : (end : ℕ) (a b : Sight) → Looks a b → LiesWithin end a → LiesWithin end b
look_lies end a b (inl same) lies = subst (λ (s : Sight). LiesWithin end s) (sym same) lies
look_lies end a b (inr becomes) lies = becomes_lies end a b becomes lies

gone_lies : (end : ℕ) (s : Sight) → LiesWithin end (gone_sight s)
gone_lies end Never = tt
gone_lies end (Live at) = tt
gone_lies end Gone = tt
gone_lies end (Unseen at size) = tt

-- PLACES OF ONE REPLICA

module _ (j end : ℕ) (old new : Sights) where
  pub keeps_lies : KeepsSights old new → LiesWithinAt j end old → LiesWithinAt j end new
  keeps_lies same lies pair = subst (λ (s : Sight). LiesWithin end s) (sym (same pair j)) (lies pair)

  -- what is so of one pair, and of each other one as it was
  by_pair : (pair : Pair) → LiesWithin end (new pair j) → ((q : Pair) → pair_eq pair q ≡ false → new q j ≡ old q j) → LiesWithinAt j end old → LiesWithinAt j end new
  by_pair pair here others lies q = elim (cases_Bool (pair_eq pair q)) [
    | inl same ↦ subst (λ (p : Pair). LiesWithin end (new p j)) (pair_same pair q same) here
    | inr apart ↦ subst (λ (s : Sight). LiesWithin end s) (sym (others q apart)) (lies q)
  ]

  pub looks_lies : (pair : Pair) → LooksAtPair pair old new → LiesWithinAt j end old → LiesWithinAt j end new
  looks_lies pair looks lies = by_pair pair (look_lies end (old pair j) (new pair j) (looks.each j) (lies pair)) (λ q apart. looks.others q j apart) lies

  pub erases_lies : (pair : Pair) → ErasesSights pair old new → LiesWithinAt j end old → LiesWithinAt j end new
  erases_lies pair erases lies =
      by_pair pair (subst (λ (s : Sight). LiesWithin end s) (sym (erases.gone j)) (gone_lies end (old pair j))) (λ q apart. erases.others q j apart) lies

pub further : (j end later : ℕ) (sights : Sights) → end ≤ later → LiesWithinAt j end sights → LiesWithinAt j later sights
further j end later sights grows lies pair = lies_further end later (sights pair j) grows (lies pair)

-- a look at one replica
pub row_lies : {P : Type 0} (pair : Pair) (at : ℕ) (rows rows' : MapRows P) (result : Result Unit ReplicaFault) → SeesRow pair at rows rows' result → (j end : ℕ)
    → LiesWithinAt j end (sights_of rows) → LiesWithinAt j end (sights_of rows')
row_lies pair at rows rows' (Ok value) sees j end lies = looks_lies j end (sights_of rows) (sights_of rows') pair sees.sees.looks lies
row_lies pair at rows rows' (Err f) sees j end lies = keeps_lies j end (sights_of rows) (sights_of rows') (sights_kept rows rows' sees.kept) lies

-- PLACES OF A VOLUME

module _ (old new : Sights) (replicas : List ReplicaSeen) where
  pub within_kept : KeepsSights old new → LiesWithinEach old replicas → LiesWithinEach new replicas
  within_kept same lies j r there = keeps_lies j r.end old new same (lies j r there)

  pub within_looks : (pair : Pair) → LooksAtPair pair old new → LiesWithinEach old replicas → LiesWithinEach new replicas
  within_looks pair looks lies j r there = looks_lies j r.end old new pair looks (lies j r there)

  pub within_erases : (pair : Pair) → ErasesSights pair old new → LiesWithinEach old replicas → LiesWithinEach new replicas
  within_erases pair erases lies j r there = erases_lies j r.end old new pair erases (lies j r there)

  -- a photo that was put behind the cells
  pub within_stores : (pair : Pair) (size : ℕ) → StoresSights pair replicas old new → ((j : ℕ) (r : ReplicaSeen) → At replicas j r → 64 ≤ r.end) → LiesWithinEach old replicas
      → LiesWithinEach new (map (grown size) replicas)
  within_stores pair size stores from lies j x there =
      let r = map_at (grown size) replicas j x there in
      let low = from j r.0 r.1 in
      let end : x.end ≡ (grown size r.0).end = ap (λ (y : ReplicaSeen). y.end) r.2 in
      let here : LiesWithin x.end (new pair j) = subst (λ (s : Sight). LiesWithin x.end s) (sym (stores.live j r.0 r.1)) (low, omega (arith, end)) in
      by_pair j x.end old new pair here (λ q apart. stores.others q j apart) (further j (r.0).end x.end old (omega (arith, end)) (lies j r.0 r.1))

  -- and of a replica with new files, where all other replicas are as they were
  pub within_swaps : (at : ℕ) (after : ReplicaSeen) → SwapsSights at (slice_set replicas at after) old new → LiesWithinEach old replicas → LiesWithinEach new (slice_set replicas at after)
  within_swaps at after swaps lies j r there = elim (cases_eq j at) [
    | inl here ↦ subst (λ n. LiesWithinAt n r.end new) (sym here) (swaps.within r (subst (λ n. At (slice_set replicas at after) n r) here there))
    | inr apart ↦ λ pair. subst (λ (s : Sight). LiesWithin r.end s) (sym (swaps.others pair j apart)) (lies j r (sym (at_set_other replicas j at after apart) ∙ there) pair)
  ]

-- where nothing that is seen of the photos changed, and no end came nearer
pub within_longer : (sights : Sights) (olds news : List ReplicaSeen) → length news ≡ length olds → AreLonger olds news
    → LiesWithinEach sights olds → LiesWithinEach sights news
within_longer sights olds news many grows lies j x there =
    let r = at_there olds j (let low = at_below news j x there in omega (arith, low, many)) in
    further j (r.0).end x.end sights (grows j r.0 x r.1 there) (lies j r.0 r.1)

pub within_freezes : (sights : Sights) (m : ℕ) (pending : Option Unsure) (old new : VolumeSeen) → FreezesSeen m pending old new → LiesWithinEach sights old.replicas
    → LiesWithinEach sights new.replicas
within_freezes sights m pending old new freezes = within_longer sights old.replicas new.replicas freezes.many freezes.longer

-- PLACES OF CELLS

place_lies : {P : Type 0} (end : ℕ) (p : Place P) → PlaceWithin end p → LiesWithin end (sight p)
place_lies end (place.Live needle) lies = lies
place_lies end place.Gone lies = tt
place_lies end place.None lies = tt
place_lies end (place.Unseen at size) lies = lies

pub last_lies : {P : Type 0} (end : ℕ) (cells : List (OpenCell P)) (pair : Pair) (before : Place P) → ArePlacesWithin end cells → LiesWithin end (sight before)
    → LiesWithin end (sight (last_place cells pair before))
last_lies end [] pair before all lies = lies
last_lies {P} end (cell ∷ cells) pair before all lies =
    last_lies end cells pair (cond (pair_eq cell.pair pair) cell.place before) all.1
    (cond_both (pair_eq cell.pair pair) cell.place before (λ (p : Place P). LiesWithin end (sight p)) (λ same. place_lies end cell.place all.0) (λ apart. lies))
