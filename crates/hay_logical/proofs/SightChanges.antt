-- How what the rows say changes with them.
use Rattle.std.proofs.Common.{◌≡◌, ◌⊎◌, inl, inr, ℕ, ◌<◌, true, false, cond, List, length, map, Option, None, refl, sym, ap, subst, ◌∙◌, arith}
use Rattle.std.specs.Prelude.{slice_index, slice_set}
use Rattle.std.proofs.lemmas.Bool.{cases_eq, cond-false, cond-true, true≢false}
use Rattle.hay_needle.specs.declared.settings.Settings.{Settings}
use Rattle.hay_needle.specs.declared.needle.Pair.{Pair}
use Rattle.hay_needle.specs.Tables.{pair_eq}
use Rattle.hay_needle.proofs.TableLaws.{pair_refl}
use Rattle.hay_legal.specs.Known.{machine_of}
use Rattle.hay_map.specs.MapRows.{MapRows}
use Rattle.hay_map.specs.Places.{gone_place, place_in}
use Rattle.hay_map.specs.Rows.{row_at}
use Rattle.hay_map.specs.declared.place.Place.{Place}
use Rattle.hay_map.specs.declared.place.Place.TheVariants as place
use Rattle.hay_needle.specs.declared.needle.Cell.{Cell}
use Rattle.hay_compact.specs.Finishing.{IsSeen}
use Rattle.hay_physical.specs.declared.fault.ReplicaFault.{ReplicaFault}
use Rattle.hay_physical.specs.declared.fault.ReplicaFault.TheVariants as fault
use Rattle.hay_physical.specs.Faults as physical_faults
use Rattle.hay_physical.specs.Replicas as physical
use Rattle.hay_logical.specs.declared.fault.LogicalFault.{LogicalFault}
use Rattle.hay_logical.specs.declared.fault.LogicalFault.TheVariants as refusal
use Rattle.hay_logical.specs.Notes.{is_live}
use Rattle.hay_logical.specs.Refusals.{answer_at}
use Rattle.hay_logical.specs.Seen.{AreEnds, ReplicaSeen}
use Rattle.hay_logical.specs.Sights.{AwaitsLook, AwaitsLookAt, BecomesSeen, DeleteRefusedSights, ErasesSights, FindsPhoto, IsLiveSight, KeepsSights, LookRefusedSights, Looks, LooksAtPair}
use Rattle.hay_logical.specs.Sights.{SeeRefusedSights, SeesLive, SeesPair, Sight, Sights, StoresSights, gone_sight, sight, sights_of}
use Rattle.hay_logical.specs.Sights.Sight.{Gone, Live, Never, Unseen}
use Rattle.hay_logical.specs.ReplicaCalls.{LookAwaited, SetsPlaceAt}
use Rattle.hay_logical.proofs.Holding.{gone_in}
use Rattle.hay_logical.proofs.Lists.{at_below}
use Rattle.hay_logical.proofs.Looking.{set_here, set_others}

-- ONE PLACE

pub seen_sight : {P : Type 0} (p : Place P) → IsSeen p → AwaitsLook (sight p) → ⊥
seen_sight (place.Live needle) seen awaits = awaits
seen_sight place.Gone seen awaits = awaits
seen_sight place.None seen awaits = awaits
seen_sight (place.Unseen at size) seen awaits = seen

pub live_seen : {P : Type 0} (p : Place P) (at : ℕ) → sight p ≡ Live at → IsSeen p
live_seen (place.Live needle) at e = tt
live_seen place.Gone at e = tt
live_seen place.None at e = tt
live_seen (place.Unseen there size) at e = let wrong : Unseen there size ≡ Live at = e in absurd cc

pub live_sight : {P : Type 0} (p : Place P) → is_live p ≡ true → IsLiveSight (sight p)
live_sight (place.Live needle) e = tt
live_sight place.Gone e = absurd (true≢false (sym e))
live_sight place.None e = absurd (true≢false (sym e))
live_sight (place.Unseen at size) e = absurd (true≢false (sym e))

pub sight_live : {P : Type 0} (p : Place P) → IsLiveSight (sight p) → is_live p ≡ true
sight_live (place.Live needle) live = refl
sight_live place.Gone live = absurd live
sight_live place.None live = absurd live
sight_live (place.Unseen at size) live = absurd live

-- what a look at a cell gives
pub cell_sight : {P : Type 0} (cell : Cell) (at : ℕ) (p : Place P) → cell.at ≡ at → physical.IsSightOf cell p → (sight p ≡ Live at) ⊎ (sight p ≡ Gone)
cell_sight cell at (place.Live needle) here is = inl (ap (λ n. Live n) (is.1 ∙ here))
cell_sight cell at place.Gone here is = inr refl
cell_sight cell at place.None here is = absurd is
cell_sight cell at (place.Unseen there size) here is = absurd is

gone_sees : {P : Type 0} (p : Place P) → sight (gone_place p) ≡ gone_sight (sight p)
gone_sees (place.Live needle) = refl
gone_sees place.Gone = refl
gone_sees place.None = refl
gone_sees (place.Unseen at size) = refl

-- LOOKS

pub looks_kept : (pair : Pair) (old new : Sights) → KeepsSights old new → LooksAtPair pair old new
looks_kept pair old new same = record { each = λ j. inl (same pair j); others = λ q j apart. same q j }

seen_twice : (at : ℕ) (s : Sight) → (s ≡ Live at) ⊎ (s ≡ Gone) → AwaitsLook s → ⊥
seen_twice at s (inl live) awaits = subst (λ (x : Sight). AwaitsLook x) live awaits
seen_twice at s (inr gone) awaits = subst (λ (x : Sight). AwaitsLook x) gone awaits

-- what was seen is not seen otherwise
pub becomes_once : (a b : Sight) → BecomesSeen a b → AwaitsLook b → ⊥
becomes_once Never b becomes awaits = becomes
becomes_once (Live at) b becomes awaits = becomes
becomes_once Gone b becomes awaits = becomes
becomes_once (Unseen at size) b becomes awaits = seen_twice at b becomes awaits

pub becomes_awaits : (a b : Sight) → BecomesSeen a b → AwaitsLook a
becomes_awaits Never b becomes = becomes
becomes_awaits (Live at) b becomes = becomes
becomes_awaits Gone b becomes = becomes
becomes_awaits (Unseen at size) b becomes = tt

pub look_more : (a b c : Sight) → Looks a b → Looks b c → Looks a c
look_more a b c (inl same) second = subst (λ (s : Sight). Looks s c) same second
look_more a b c (inr was) (inl same) = inr (subst (λ (s : Sight). BecomesSeen a s) (sym same) was)
look_more a b c (inr was) (inr next) = absurd (becomes_once a b was (becomes_awaits b c next))

-- one that is not seen yet was not before
pub still_awaits : (a b : Sight) → Looks a b → AwaitsLook b → b ≡ a
still_awaits a b (inl same) awaits = same
still_awaits a b (inr was) awaits = absurd (becomes_once a b was awaits)

pub awaits_at : (place : ℕ) (s : Sight) → AwaitsLookAt place s → AwaitsLook s
awaits_at place Never awaits = awaits
awaits_at place (Live at) awaits = awaits
awaits_at place Gone awaits = awaits
awaits_at place (Unseen at size) awaits = tt

pub looks_more : (pair : Pair) (a b c : Sights) → LooksAtPair pair a b → LooksAtPair pair b c → LooksAtPair pair a c
looks_more pair a b c first second = record {
  each = λ j. look_more (a pair j) (b pair j) (c pair j) (first.each j) (second.each j);
  others = λ q j apart. second.others q j apart ∙ first.others q j apart;
}

pub sees_kept : (pair : Pair) (at : ℕ) (old new : Sights) → KeepsSights old new → (AwaitsLook (old pair at) → ⊥) → SeesPair pair at old new
sees_kept pair at old new same seen = record {
  looks = looks_kept pair old new same;
  seen = λ awaits. seen (subst (λ (s : Sight). AwaitsLook s) (same pair at) awaits);
  others = λ j apart. same pair j;
}

-- ROWS

module _ {P : Type 0} (rows rows' : MapRows P) where
  pub sights_kept : ((q : Pair) → row_at rows' q ≡ row_at rows q) → KeepsSights (sights_of rows) (sights_of rows')
  sights_kept same q j = ap (λ (row : List (Place P)). sight (place_in row j)) (same q)

  -- a place that was not looked at yet was
  pub sees_set : (pair : Pair) (at place size : ℕ) (p : Place P) → SetsPlaceAt pair at p rows rows' → at < length (row_at rows pair) → sights_of rows pair at ≡ Unseen place size
      → (sight p ≡ Live place) ⊎ (sight p ≡ Gone) → SeesPair pair at (sights_of rows) (sights_of rows')
  sees_set pair at place size p sets within was is =
      let here : sights_of rows' pair at ≡ sight p = ap (λ (x : Place P). sight x) (set_here pair at rows rows' p sets within) in
      let now : (sights_of rows' pair at ≡ Live place) ⊎ (sights_of rows' pair at ≡ Gone) = subst (λ (s : Sight). (s ≡ Live place) ⊎ (s ≡ Gone)) (sym here) is in
      let becomes : BecomesSeen (sights_of rows pair at) (sights_of rows' pair at) = subst (λ (s : Sight). BecomesSeen s (sights_of rows' pair at)) (sym was) now in
      let other : (j : ℕ) → (j ≡ at → ⊥) → sights_of rows' pair j ≡ sights_of rows pair j = λ j apart. ap (λ (x : Place P). sight x) (set_others pair at rows rows' p sets j apart pair) in
      record {
        looks = record {
          each = λ j. elim (cases_eq j at) [
            | inl same ↦ subst (λ n. Looks (sights_of rows pair n) (sights_of rows' pair n)) (sym same) (inr becomes)
            | inr apart ↦ inl (other j apart)
          ];
          others = λ q j apart.
              ap (λ (row : List (Place P)). sight (place_in row j)) (sets q ∙ cond-false (pair_eq pair q) (slice_set (row_at rows q) at p) (row_at rows q) apart);
        };
        seen = seen_twice place (sights_of rows' pair at) now;
        others = other;
      }

  pub stores_sights : (pair : Pair) (row : List (Place P)) (number : ℕ) (ends : List ℕ) → ((q : Pair) → row_at rows' q ≡ cond (pair_eq pair q) row (row_at rows q))
      → ((j : ℕ) → j < number → sight (place_in row j) ≡ Live (slice_index ends j))
      → (replicas : List ReplicaSeen) → length replicas ≡ number → AreEnds ends replicas → StoresSights pair replicas (sights_of rows) (sights_of rows')
  stores_sights pair row number ends changed live replicas many are = record {
    live = λ j r there.
        ap (λ (l : List (Place P)). sight (place_in l j)) (changed pair ∙ cond-true (pair_eq pair pair) row (row_at rows pair) (pair_refl pair))
        ∙ live j (let low = at_below replicas j r there in omega (arith, low, many)) ∙ ap (λ n. Live n) (are j r there);
    others = λ q j apart. ap (λ (l : List (Place P)). sight (place_in l j)) (changed q ∙ cond-false (pair_eq pair q) row (row_at rows q) apart);
  }

  pub erases_sights : (pair : Pair) → ((q : Pair) → row_at rows' q ≡ cond (pair_eq pair q) (map gone_place (row_at rows q)) (row_at rows q)) → ErasesSights pair (sights_of rows) (sights_of rows')
  erases_sights pair changed = record {
    gone = λ j.
        ap (λ (l : List (Place P)). sight (place_in l j)) (changed pair ∙ cond-true (pair_eq pair pair) (map gone_place (row_at rows pair)) (row_at rows pair) (pair_refl pair))
        ∙ ap (λ (p : Place P). sight p) (gone_in (row_at rows pair) j) ∙ gone_sees (place_in (row_at rows pair) j);
    others = λ q j apart. ap (λ (l : List (Place P)). sight (place_in l j)) (changed q ∙ cond-false (pair_eq pair q) (map gone_place (row_at rows q)) (row_at rows q) apart);
  }

-- behind what has left each place
pub stores_kept : (pair : Pair) (replicas : List ReplicaSeen) (a b c : Sights) → KeepsSights a b → StoresSights pair replicas b c → StoresSights pair replicas a c
stores_kept pair replicas a b c same stores = record { live = stores.live; others = λ q j apart. stores.others q j apart ∙ same q j }

module _ {P : Type 0} (rows : MapRows P) (pair : Pair) (row : List (Place P)) (replicas : ℕ) (is : row ≡ row_at rows pair) (long : length row ≡ replicas) where
  pub live_some : (j : ℕ) × (j < length row) × (is_live (place_in row j) ≡ true) → SeesLive pair replicas (sights_of rows)
  live_some some = (
    some.0,
    subst (λ n. some.0 < n) long some.1,
    subst (λ (l : List (Place P)). IsLiveSight (sight (place_in l some.0))) is (live_sight (place_in row some.0) some.2),
  )

  pub live_none : ((j : ℕ) → j < length row → is_live (place_in row j) ≡ false) → SeesLive pair replicas (sights_of rows) → ⊥
  live_none none some =
      let live : is_live (place_in row some.0) ≡ true = sight_live (place_in row some.0) (subst (λ (l : List (Place P)). IsLiveSight (sight (place_in l some.0))) (sym is) some.2) in
      true≢false (sym live ∙ none some.0 (subst (λ n. some.0 < n) (sym long) some.1))

pub finds_behind : (pair : Pair) (replicas : ℕ) (a b c : Sights) → LooksAtPair pair a b → FindsPhoto pair replicas b c → FindsPhoto pair replicas a c
finds_behind pair replicas a b c looks finds = record { looks = looks_more pair a b c looks finds.looks; all = finds.all; live = finds.live }

-- REFUSALS

module _ (settings : Settings) (v : ℕ) (pair : Pair) (a b : Sights) where
  -- a look was refused, which has left each place
  pub look_refused_at : (at machine : ℕ) → at < settings.replicas → machine ≡ machine_of settings v at → KeepsSights a b → (f : ReplicaFault) → LookAwaited (a pair at) f
      → LookRefusedSights settings v pair a b (answer_at machine f)
  look_refused_at at machine within is same (fault.Failed printed) awaits =
      record { looks = looks_kept pair a b same; unseen = (at, within, is, subst (λ (s : Sight). AwaitsLook s) (sym (same pair at)) awaits) }
  look_refused_at at machine within is same (fault.Damaged there) awaits =
      record { looks = looks_kept pair a b same; unseen = (at, within, is, subst (λ (s : Sight). AwaitsLookAt there s) (sym (same pair at)) awaits) }
  look_refused_at at machine within is same fault.NoMemory awaits = looks_kept pair a b same
  look_refused_at at machine within is same fault.Frozen awaits = absurd awaits
  look_refused_at at machine within is same (fault.Full end need capacity) awaits = absurd awaits
  look_refused_at at machine within is same (fault.Busy goal) awaits = absurd awaits
  look_refused_at at machine within is same (fault.Ended printed) awaits = absurd awaits
  look_refused_at at machine within is same fault.Worn awaits = absurd awaits

  pub see_refused_at : (at machine : ℕ) → KeepsSights a b → (f : ReplicaFault) → LookAwaited (a pair at) f → SeeRefusedSights pair at a b (answer_at machine f)
  see_refused_at at machine same (fault.Failed printed) awaits = (same, awaits)
  see_refused_at at machine same (fault.Damaged there) awaits = (same, awaits)
  see_refused_at at machine same fault.NoMemory awaits = (same, awaits)
  see_refused_at at machine same fault.Frozen awaits = absurd awaits
  see_refused_at at machine same (fault.Full end need capacity) awaits = absurd awaits
  see_refused_at at machine same (fault.Busy goal) awaits = absurd awaits
  see_refused_at at machine same (fault.Ended printed) awaits = absurd awaits
  see_refused_at at machine same fault.Worn awaits = absurd awaits

  -- a look before a delete was refused
  pub delete_unlooked : (frozen : Option ℕ) → frozen ≡ None → (f : LogicalFault) → LookRefusedSights settings v pair a b f → DeleteRefusedSights settings v pair frozen a b f
  delete_unlooked frozen thawed (refusal.Failed m printed) is = inr (thawed, is)
  delete_unlooked frozen thawed (refusal.Damaged m place) is = is
  delete_unlooked frozen thawed refusal.NoMemory is = is
  delete_unlooked frozen thawed (refusal.ReadOnly m) is = absurd is
  delete_unlooked frozen thawed (refusal.Full m end need capacity) is = absurd is
  delete_unlooked frozen thawed (refusal.Gone front) is = absurd is
  delete_unlooked frozen thawed (refusal.Busy m goal) is = absurd is
  delete_unlooked frozen thawed (refusal.Worn m) is = absurd is
  delete_unlooked frozen thawed refusal.Idle is = absurd is

module _ (settings : Settings) (v : ℕ) (pair : Pair) (a b c : Sights) where
  -- behind other looks
  pub look_refused_behind : LooksAtPair pair a b → (f : LogicalFault) → LookRefusedSights settings v pair b c f → LookRefusedSights settings v pair a c f
  look_refused_behind looks (refusal.Failed m printed) is = record { looks = looks_more pair a b c looks is.looks; unseen = is.unseen }
  look_refused_behind looks (refusal.Damaged m place) is = record { looks = looks_more pair a b c looks is.looks; unseen = is.unseen }
  look_refused_behind looks refusal.NoMemory is = looks_more pair a b c looks is
  look_refused_behind looks (refusal.ReadOnly m) is = absurd is
  look_refused_behind looks (refusal.Full m end need capacity) is = absurd is
  look_refused_behind looks (refusal.Gone front) is = absurd is
  look_refused_behind looks (refusal.Busy m goal) is = absurd is
  look_refused_behind looks (refusal.Worn m) is = absurd is
  look_refused_behind looks refusal.Idle is = absurd is

  pub delete_refused_behind : (frozen : Option ℕ) → LooksAtPair pair a b → (f : LogicalFault) → ((m : ℕ) → f ≡ refusal.ReadOnly m → ⊥) → DeleteRefusedSights settings v pair frozen b c f
      → DeleteRefusedSights settings v pair frozen a c f
  delete_refused_behind frozen looks (refusal.Failed m printed) thawed (inl is) =
      inl (is.0, finds_behind pair settings.replicas a b c looks is.1, is.2)
  delete_refused_behind frozen looks (refusal.Failed m printed) thawed (inr is) =
      inr (is.0, record { looks = looks_more pair a b c looks is.1.looks; unseen = is.1.unseen })
  delete_refused_behind frozen looks (refusal.Damaged m place) thawed is = record { looks = looks_more pair a b c looks is.looks; unseen = is.unseen }
  delete_refused_behind frozen looks refusal.NoMemory thawed is = looks_more pair a b c looks is
  delete_refused_behind frozen looks (refusal.Gone front) thawed is = record { looks = looks_more pair a b c looks is.looks; all = is.all; none = is.none }
  delete_refused_behind frozen looks (refusal.ReadOnly m) thawed is = absurd (thawed m refl)
  delete_refused_behind frozen looks (refusal.Full m end need capacity) thawed is = absurd is
  delete_refused_behind frozen looks (refusal.Busy m goal) thawed is = absurd is
  delete_refused_behind frozen looks (refusal.Worn m) thawed is = absurd is
  delete_refused_behind frozen looks refusal.Idle thawed is = absurd is

-- a look at a place that was recorded was refused
pub awaited_by : (at size : ℕ) (f : ReplicaFault) (before after : ℕ) → physical_faults.IsSightFault before after f → ((k : ℕ) → f ≡ fault.Damaged k → k ≡ at) → LookAwaited (Unseen at size) f
awaited_by at size (fault.Failed printed) before after cause place = tt
awaited_by at size (fault.Damaged there) before after cause place = place there refl
awaited_by at size fault.NoMemory before after cause place = tt
awaited_by at size fault.Frozen before after cause place = absurd cause
awaited_by at size (fault.Full end need capacity) before after cause place = absurd cause
awaited_by at size (fault.Busy goal) before after cause place = absurd cause
awaited_by at size (fault.Ended printed) before after cause place = absurd cause
awaited_by at size fault.Worn before after cause place = absurd cause
