-- Why replicas are passed over, by their places and their needles.
use Rattle.std.proofs.Common.{◌≡◌, ◌<◌, Bool, ℕ, zero, suc, List, [], ◌∷◌, ◌++◌, length, Err, refl, sym, subst, arith}
use Rattle.std.specs.List.{AllByRecursion}
use Rattle.std.proofs.lemmas.List.{append-nil}
use Rattle.hay_needle.specs.declared.needle.Cookie.{Cookie}
use Rattle.hay_needle.specs.declared.needle.Pair.{Pair}
use Rattle.hay_needle.specs.declared.settings.Settings.{Settings}
use Rattle.hay_volume.specs.Needles.{LacksNeedleOf}
use Rattle.hay_map.specs.declared.place.Place.{Place}
use Rattle.hay_map.specs.declared.place.Place.TheVariants as place
use Rattle.hay_map.specs.Places.{place_in}
use Rattle.hay_reply.specs.declared.Cause.{Cause}
use Rattle.hay_reply.specs.declared.Cause.TheVariants.{Arm, Damage, Disk}
use Rattle.hay_legal.specs.Stands.{Contents}
use Rattle.hay_physical.specs.OpenCopies.{Copy, IsOpenCopy}
use Rattle.hay_physical.specs.Replicas.{HasWholeNeedle}
use Rattle.hay_logical.specs.declared.fault.LogicalFault.{LogicalFault}
use Rattle.hay_logical.specs.declared.fault.LogicalFault.TheVariants as refusal
use Rattle.hay_logical.specs.Fits.{At}
use Rattle.hay_logical.specs.Needles.{LacksSeen}
use Rattle.hay_logical.specs.Seen.{ReplicaSeen}
use Rattle.hay_logical.specs.Sights.{Sight, sight}
use Rattle.hay_logical.specs.Sights.Sight.{Gone, Live, Never, Unseen}
use Rattle.hay_reader.specs.Tried.{PlaceGives}
use Rattle.hay_reader.specs.declared.causes.PassedReplica.{PassedReplica}
use Rattle.hay_cluster.specs.Leaving.{AnySlot, KeepsIn}
use Rattle.hay_cluster.specs.Needles.{FileAt, LacksFor, LacksPlace}
use Rattle.hay_cluster.specs.Passing.{IsOfPlace, StandsFor}
use Rattle.hay_cluster.specs.Reads.{IsSightCause, MayHave}
use Rattle.hay_cluster.specs.Seen.{StoreSeen}
use Rattle.hay_cluster.proofs.ClosingStore.{order_item}
use Rattle.hay_cluster.proofs.Needling.{file_still}
use Rattle.hay_cluster.proofs.Showing.{all_append, gives_cause}

-- WHILE FILES AND PLACES STAY

module _ (Tells : Type 0) (settings : Settings) (contents contents' : ℕ → Contents) (seen seen' : StoreSeen) (v : ℕ) (pair : Pair) (volume : v < settings.volumes) (same : seen'.volumes ≡ seen.volumes)
    (keeps : Tells → KeepsIn settings AnySlot contents contents') where
  lacks_still : (j : ℕ) → j < settings.replicas → Tells → (s : Sight) → LacksPlace settings contents seen v j s → LacksPlace settings contents' seen' v j s
  lacks_still j within tells Never lacks = lacks
  lacks_still j within tells (Live at) lacks = lacks
  lacks_still j within tells Gone lacks = lacks
  lacks_still j within tells (Unseen at size) lacks = file_still settings contents contents' seen seen' v j (λ r file. LacksNeedleOf size at file) volume within same (keeps tells) lacks

  lacks_for_still : (j : ℕ) (cause : Cause) → j < settings.replicas → seen'.places v pair j ≡ seen.places v pair j → Tells → LacksFor settings contents seen v pair j cause
      → LacksFor settings contents' seen' v pair j cause
  lacks_for_still j (Arm count) within here tells lacks = tt
  lacks_for_still j (Disk count) within here tells lacks = tt
  lacks_for_still j (Damage place) within here tells lacks =
      subst (λ (s : Sight). LacksPlace settings contents' seen' v j s) (sym here) (lacks_still j within tells (seen.places v pair j) lacks)

  pub of_place_still : (j : ℕ) (cause : Cause) → j < settings.replicas → seen'.places v pair j ≡ seen.places v pair j → IsOfPlace Tells settings contents seen v pair j cause
      → IsOfPlace Tells settings contents' seen' v pair j cause
  of_place_still j cause within here (stands, lacks) = (subst (StandsFor cause) (sym here) stands, λ tells. lacks_for_still j cause within here tells (lacks tells))

  -- each replica that was passed over was so for its cause, where its place stayed
  pub may_have_still : (causes : List PassedReplica) → AllByRecursion (λ over. (over.replica < settings.replicas) × (seen'.places v pair over.replica ≡ seen.places v pair over.replica)) causes
      → MayHave (IsOfPlace Tells settings contents seen v pair) causes → MayHave (IsOfPlace Tells settings contents' seen' v pair) causes
  may_have_still [] still all = tt
  may_have_still (over ∷ causes) still all = (of_place_still over.replica over.cause (still.0).0 (still.0).1 all.0, may_have_still causes still.1 all.1)

-- one more
pub may_have_more : (Had : ℕ → Cause → Type 0) (causes : List PassedReplica) (over : PassedReplica) → Had over.replica over.cause → MayHave Had causes → MayHave Had (causes ++ over ∷ [])
may_have_more Had causes over had all = all_append (λ p. Had p.replica p.cause) causes (over ∷ []) all (had, tt)

-- a look that met damage
lacks_place : (settings : Settings) (contents : ℕ → Contents) (seen : StoreSeen) (v j place : ℕ) (s : Sight) → FileAt settings contents seen v j (λ r file. LacksSeen file place s)
    → LacksPlace settings contents seen v j s
lacks_place settings contents seen v j place Never (w, at, (r, there, lacks)) = lacks
lacks_place settings contents seen v j place (Live at') (w, at, (r, there, lacks)) = absurd lacks
lacks_place settings contents seen v j place Gone (w, at, (r, there, lacks)) = lacks
lacks_place settings contents seen v j place (Unseen at' size) (w, at, (r, there, lacks)) = (w, at, (r, there, lacks.1))

pub fault_lacks : (settings : Settings) (contents : ℕ → Contents) (seen : StoreSeen) (v : ℕ) (pair : Pair) (j : ℕ) (fault : LogicalFault) (cause : Cause) → IsSightCause fault cause
    → ((m place : ℕ) → fault ≡ refusal.Damaged m place → FileAt settings contents seen v j (λ r file. LacksSeen file place (seen.places v pair j))) → LacksFor settings contents seen v pair j cause
fault_lacks settings contents seen v pair j (refusal.Failed m count) cause is lacks = subst (λ (c : Cause). LacksFor settings contents seen v pair j c) (sym is) tt
fault_lacks settings contents seen v pair j (refusal.Damaged m place) cause is lacks =
    subst (λ (c : Cause). LacksFor settings contents seen v pair j c) (sym is) (lacks_place settings contents seen v j place (seen.places v pair j) (lacks m place refl))
fault_lacks settings contents seen v pair j refusal.NoMemory cause is lacks = absurd is
fault_lacks settings contents seen v pair j (refusal.ReadOnly m) cause is lacks = absurd is
fault_lacks settings contents seen v pair j (refusal.Full m end need capacity) cause is lacks = absurd is
fault_lacks settings contents seen v pair j (refusal.Gone front) cause is lacks = absurd is
fault_lacks settings contents seen v pair j (refusal.Busy m generation) cause is lacks = absurd is
fault_lacks settings contents seen v pair j (refusal.Worn m) cause is lacks = absurd is
fault_lacks settings contents seen v pair j refusal.Idle cause is lacks = absurd is

-- BY WHAT A ROW GIVES

-- each place of a row has a whole needle, or none, and so has one behind its end
pub row_whole : {P : Type 0} (Tells : Type 0) (row : List (Place P)) → ((j : ℕ) → j < length row → HasWholeNeedle Tells (place_in row j)) → (j : ℕ) → HasWholeNeedle Tells (place_in row j)
row_whole Tells [] whole j = tt
row_whole Tells (x ∷ row) whole zero = whole 0 (omega arith)
row_whole Tells (x ∷ row) whole (suc j) = row_whole Tells row (λ i low. whole (suc i) (let less : suc i < length (x ∷ row) = omega (arith, low) in less)) j

-- so it is of the row of an open volume
pub open_whole : {D P : Type 0} (Tells : Type 0) (row : List (Place P)) (replicas : List (Copy D)) → length row ≡ length replicas → ((j : ℕ) (r : Copy D) → At replicas j r → IsOpenCopy r)
    → ((j : ℕ) (r : Copy D) → At replicas j r → IsOpenCopy r → HasWholeNeedle Tells (place_in row j)) → (j : ℕ) → HasWholeNeedle Tells (place_in row j)
open_whole Tells row replicas long opened whole =
    row_whole Tells row (λ j low. let r = order_item replicas j (let less : j < length replicas = omega (arith, low, long) in less) in whole j r.0 r.1 (opened j r.0 r.1))

module _ {P : Type 0} (DiskTells Tells : Type 0) (sure : Bool) (settings : Settings) (contents : ℕ → Contents) (seen : StoreSeen) (v : ℕ) (pair : Pair) (cookie : Cookie) (row : List (Place P))
    (same : (j : ℕ) → sight (place_in row j) ≡ seen.places v pair j) (whole : DiskTells → (j : ℕ) → HasWholeNeedle Tells (place_in row j)) where
  row_lacks : (j at : ℕ) (there : Place P) → HasWholeNeedle Tells there → PlaceGives Tells sure cookie [] there (Err (Damage at)) → LacksPlace settings contents seen v j (sight there)
  row_lacks j at (place.Live needle) (tells, n, is) gives =
      gives.1 tells n (record { needle = needle.bytes; rest = []; parts = sym (append-nil needle.bytes); is = is })
  row_lacks j at place.None has gives = absurd cc
  row_lacks j at place.Gone has gives = absurd cc
  row_lacks j at (place.Unseen at' size) has gives = absurd cc

  row_lacks_for : (j : ℕ) (cause : Cause) → DiskTells → PlaceGives Tells sure cookie [] (place_in row j) (Err cause) → LacksFor settings contents seen v pair j cause
  row_lacks_for j (Arm count) tells gives = tt
  row_lacks_for j (Disk count) tells gives = tt
  row_lacks_for j (Damage at) tells gives = subst (λ (s : Sight). LacksPlace settings contents seen v j s) (same j) (row_lacks j at (place_in row j) (whole tells j) gives)

  pub row_had : (j : ℕ) (cause : Cause) → PlaceGives Tells sure cookie [] (place_in row j) (Err cause) → IsOfPlace DiskTells settings contents seen v pair j cause
  row_had j cause gives = (subst (StandsFor cause) (same j) (gives_cause Tells sure cookie [] (place_in row j) cause gives), λ tells. row_lacks_for j cause tells gives)
