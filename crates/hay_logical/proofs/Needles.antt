-- What looks tell of the needles of volume files, through several of them.
use Rattle.std.proofs.Common.{◌≡◌, inl, inr, ℕ, ◌<◌, List, length, sym, subst, arith}
use Rattle.hay_needle.specs.declared.needle.Pair.{Pair}
use Rattle.hay_needle.specs.declared.settings.Settings.{Settings}
use Rattle.hay_disk.specs.Disk.{Files}
use Rattle.hay_physical.specs.declared.fault.ReplicaFault.{ReplicaFault}
use Rattle.hay_physical.specs.declared.fault.ReplicaFault.TheVariants as fault
use Rattle.hay_physical.specs.OpenCopies.{Copy, volume_bytes}
use Rattle.hay_physical.specs.Replicas as physical
use Rattle.hay_map.specs.declared.place.Place.{Place}
use Rattle.hay_map.specs.declared.place.Place.TheVariants as place
use Rattle.hay_logical.specs.declared.fault.LogicalFault.TheVariants.{Damaged}
use Rattle.hay_logical.specs.Fits.{At}
use Rattle.hay_logical.specs.Needles.{AreToldBy, HasLiveNeedle, IsDamagedLook, IsToldBy, LacksSeen}
use Rattle.hay_logical.specs.Refusals.{answer_at}
use Rattle.hay_logical.specs.Sights.{AwaitsLook, BecomesSeen, KeepsSights, Looks, LooksAtPair, Sight, Sights, sight}
use Rattle.hay_logical.specs.Sights.Sight.{Gone, Live, Never, Unseen}
use Rattle.hay_logical.proofs.Lists.{at_below, at_there}
use Rattle.hay_logical.proofs.SightChanges.{becomes_awaits, becomes_once, still_awaits}

-- ONE PLACE

pub told_same : (file : List ℕ) (s t : Sight) → t ≡ s → IsToldBy file s t
told_same file Never t e = tt
told_same file (Live at) t e = tt
told_same file Gone t e = tt
told_same file (Unseen at size) t e = subst (λ (x : Sight). IsToldBy file (Unseen at size) x) (sym e) tt

-- what a look at the needle gives
pub told_place : {P : Type 0} (file : List ℕ) (at size : ℕ) (p : Place P) → physical.IsToldBy size at file p → IsToldBy file (Unseen at size) (sight p)
told_place file at size (place.Live needle) told = told.0
told_place file at size place.Gone told = told
told_place file at size place.None told = absurd told
told_place file at size (place.Unseen there long) told = absurd told

-- what a look left
pub looked_live : (file : List ℕ) (s t : Sight) → Looks s t → IsToldBy file s t → HasLiveNeedle file s → HasLiveNeedle file t
looked_live file s Never looks told live = tt
looked_live file s Gone looks told live = tt
looked_live file s (Unseen at size) looks told live = tt
looked_live file s (Live at) (inl same) told live = subst (λ (t : Sight). HasLiveNeedle file t) (sym same) live
looked_live file Never (Live at) (inr becomes) told live = absurd becomes
looked_live file Gone (Live at) (inr becomes) told live = absurd becomes
looked_live file (Live there) (Live at) (inr becomes) told live = absurd becomes
looked_live file (Unseen there size) (Live at) (inr (inl is)) told live = subst (λ (t : Sight). HasLiveNeedle file t) (sym is) (size, told)
looked_live file (Unseen there size) (Live at) (inr (inr is)) told live = absurd cc

-- what an opening found of a place
pub live_sight : {P : Type 0} (file : List ℕ) (p : Place P) → physical.HasLiveNeedle file p → HasLiveNeedle file (sight p)
live_sight file (place.Live needle) live = live
live_sight file place.None live = tt
live_sight file place.Gone live = tt
live_sight file (place.Unseen at size) live = tt

pub told_more : (file : List ℕ) (a b c : Sight) → Looks a b → Looks b c → IsToldBy file a b → IsToldBy file b c → IsToldBy file a c
told_more file a b c (inl same) second first next = subst (λ (s : Sight). IsToldBy file s c) same next
told_more file a b c (inr was) (inl same) first next = subst (λ (s : Sight). IsToldBy file a s) (sym same) first
told_more file a b c (inr was) (inr becomes) first next = absurd (twice a b c was becomes)
  where
    twice : (a b c : Sight) → BecomesSeen a b → BecomesSeen b c → ⊥
    twice a b c was becomes = becomes_once a b was (becomes_awaits b c becomes)

lacks_awaits : (file : List ℕ) (place : ℕ) (s : Sight) → LacksSeen file place s → AwaitsLook s
lacks_awaits file place Never lacks = lacks
lacks_awaits file place (Live at) lacks = lacks
lacks_awaits file place Gone lacks = lacks
lacks_awaits file place (Unseen at size) lacks = tt

-- A REPLICA ON EACH MACHINE

pub damaged_machine : (machine : ℕ) (f : ReplicaFault) (m at : ℕ) → answer_at machine f ≡ Damaged m at → m ≡ machine
damaged_machine machine (fault.Failed n) m at e = absurd cc
damaged_machine machine fault.Frozen m at e = absurd cc
damaged_machine machine (fault.Full end need capacity) m at e = absurd cc
damaged_machine machine (fault.Busy generation) m at e = absurd cc
damaged_machine machine (fault.Ended n) m at e = absurd cc
damaged_machine machine fault.Worn m at e = absurd cc
damaged_machine machine (fault.Damaged there) m at e = cc
damaged_machine machine fault.NoMemory m at e = absurd cc

module _ {D : Type 0} (files : D → Files) (pair : Pair) where
  pub told_none : (replicas : List (Copy D)) (old new : Sights) → KeepsSights old new → AreToldBy files replicas pair old new
  told_none replicas old new same j r e = told_same (volume_bytes files r) (old pair j) (new pair j) (same pair j)

  module _ (olds mids : List (Copy D)) (a b c : Sights) (count : length mids ≡ length olds) (looks : LooksAtPair pair a b)
      (bytes : (j : ℕ) (r x : Copy D) → At olds j r → At mids j x → volume_bytes files x ≡ volume_bytes files r) where
    mid : (j : ℕ) (r : Copy D) → At olds j r → (x : Copy D) × At mids j x
    mid j r e = at_there mids j (let h = at_below olds j r e in let less : j < length mids = omega (arith, h, count) in less)

    -- behind other looks
    pub told_behind : LooksAtPair pair b c → AreToldBy files olds pair a b → AreToldBy files mids pair b c → AreToldBy files olds pair a c
    told_behind more first second j r e =
        let x = mid j r e in
        told_more (volume_bytes files r) (a pair j) (b pair j) (c pair j) (looks.each j) (more.each j) (first j r e)
        (subst (λ (l : List ℕ). IsToldBy l (b pair j) (c pair j)) (bytes j r x.0 e x.1) (second j x.0 x.1))

    pub damaged_behind : (settings : Settings) (v m place : ℕ) → IsDamagedLook files settings v mids pair m place b → IsDamagedLook files settings v olds pair m place a
    damaged_behind settings v m place damaged =
        let j = damaged.replica in
        let r = at_there olds j (let h = at_below mids j damaged.there damaged.is in let less : j < length olds = omega (arith, h, count) in less) in
        let same : b pair j ≡ a pair j = still_awaits (a pair j) (b pair j) (looks.each j) (lacks_awaits (volume_bytes files damaged.there) place (b pair j) damaged.lacks) in
        record {
          replica = j;
          within = damaged.within;
          machine = damaged.machine;
          there = r.0;
          is = r.1;
          lacks = subst (λ (s : Sight). LacksSeen (volume_bytes files r.0) place s) same
              (subst (λ (l : List ℕ). LacksSeen l place (b pair j)) (bytes j r.0 damaged.there r.1 damaged.is) damaged.lacks);
        }
