-- What is seen of a volume behind a change.
use Rattle.std.proofs.Common.{◌≡◌, inl, inr, ℕ, suc, List, [], ◌∷◌, length, refl, sym, ap, subst, arith}
use Rattle.std.specs.Prelude.{map}
use Rattle.hay_needle.specs.declared.settings.Settings.{Settings}
use Rattle.hay_needle.specs.declared.needle.Pair.{Pair}
use Rattle.hay_core.specs.declared.entry.CoreTag.{CoreTag}
use Rattle.hay_physical.specs.declared.fault.ReplicaFault.{ReplicaFault}
use Rattle.hay_physical.specs.declared.fault.ReplicaFault.TheVariants as replica
use Rattle.hay_physical.specs.OpenCopies.{Copy}
use Rattle.hay_logical.specs.declared.fault.LogicalFault.{LogicalFault}
use Rattle.hay_logical.specs.declared.fault.LogicalFault.TheVariants as logical
use Rattle.hay_logical.specs.declared.refusals.Refusal.{Refusal}
use Rattle.hay_logical.specs.Answers.{IsSightFault}
use Rattle.hay_logical.specs.Fits.{At}
use Rattle.hay_logical.specs.Refusals.{RefusalBy}
use Rattle.hay_logical.specs.Seen.{BreaksPutSeen, DeleteRefusedSeen, EraseSeen, PutRefusedSeen, RoomRefusedSeen, StaysThawed, VolumeSeen}

-- lists whose items are alike, one by one
pub maps_by : {X Y : Type 0} (f g : X → Y) (xs ys : List X) → length ys ≡ length xs → ((j : ℕ) (x y : X) → At xs j x → At ys j y → f y ≡ g x) → map f ys ≡ map g xs
maps_by f g [] [] long same = refl
maps_by f g [] (y ∷ ys) long same = absurd (omega (arith, long))
maps_by f g (x ∷ xs) [] long same = absurd (omega (arith, long))
maps_by f g (x ∷ xs) (y ∷ ys) long same =
    let head : f y ≡ g x = same 0 x y refl refl in
    let tail : map f ys ≡ map g xs = maps_by f g xs ys (omega (arith, long)) (λ j a b e f. same (suc j) a b e f) in
    cc

pub map_both : {X Y Z : Type 0} (f : X → Y) (g : Y → Z) (xs : List X) → map (λ x. g (f x)) xs ≡ map g (map f xs)
map_both f g [] = refl
map_both f g (x ∷ xs) = ap (λ l. g (f x) ∷ l) (map_both f g xs)

module _ (settings : Settings) (v : ℕ) (tag : CoreTag) (size : ℕ) (old : VolumeSeen) where
  pub room_put_seen : (f : LogicalFault) → RoomRefusedSeen settings v size old f → PutRefusedSeen settings v tag size old old f
  room_put_seen (logical.ReadOnly m) is = (refl, is)
  room_put_seen (logical.Full m end need capacity) is = (refl, is)
  room_put_seen (logical.Failed m faults) is = absurd is
  room_put_seen (logical.Gone front) is = absurd is
  room_put_seen (logical.Busy m goal) is = absurd is
  room_put_seen (logical.Worn m) is = absurd is
  room_put_seen logical.Idle is = absurd is
  room_put_seen (logical.Damaged m place) is = absurd is
  room_put_seen logical.NoMemory is = absurd is

  pub broken_put_seen : (at : ℕ) (new : VolumeSeen) (f : ReplicaFault) (said : Refusal) → RefusalBy settings v at f said → BreaksPutSeen tag said.machine old new
      → PutRefusedSeen settings v tag size old new said.fault
  broken_put_seen at new (replica.Failed printed) said by broken =
      subst (λ (f : LogicalFault). PutRefusedSeen settings v tag size old new f) (sym by.1) (subst (λ m. BreaksPutSeen tag m old new) by.0 broken)
  broken_put_seen at new replica.NoMemory said by broken =
      subst (λ (f : LogicalFault). PutRefusedSeen settings v tag size old new f) (sym by.1) (inr (subst (λ m. BreaksPutSeen tag m old new) by.0 broken))
  broken_put_seen at new _ said by broken = absurd by

-- looks before it changed nothing that is seen
pub erase_later : (old middle new : VolumeSeen) → middle ≡ old → EraseSeen middle new → EraseSeen old new
erase_later old middle new same seen = subst (λ (s : VolumeSeen). EraseSeen s new) same seen

pub look_refused_seen : {D : Type 0} (faults : D → ℕ) (settings : Settings) (v : ℕ) (before after : List (Copy D)) (tag : CoreTag) (pair : Pair) (old new : VolumeSeen) → StaysThawed old new
    → (f : LogicalFault) → IsSightFault faults settings v before after f → DeleteRefusedSeen tag pair old new f
look_refused_seen faults settings v before after tag pair old new same (logical.Failed m printed) is = inl same
look_refused_seen faults settings v before after tag pair old new same (logical.Damaged m place) is = same
look_refused_seen faults settings v before after tag pair old new same logical.NoMemory is = same
look_refused_seen faults settings v before after tag pair old new same (logical.ReadOnly m) is = absurd is
look_refused_seen faults settings v before after tag pair old new same (logical.Full m end need capacity) is = absurd is
look_refused_seen faults settings v before after tag pair old new same (logical.Gone front) is = absurd is
look_refused_seen faults settings v before after tag pair old new same (logical.Busy m goal) is = absurd is
look_refused_seen faults settings v before after tag pair old new same (logical.Worn m) is = absurd is
look_refused_seen faults settings v before after tag pair old new same logical.Idle is = absurd is
