-- Places that are shown or seen.
use Rattle.std.proofs.Common.{◌≡◌, ◌⊎◌, inl, inr, ℕ, List, [], refl, sym, ◌∙◌, append-nil}
use Rattle.hay_needle.specs.declared.needle.Needle.{Needle}
use Rattle.hay_needle.specs.declared.needle.Outcome.{Outcome}
use Rattle.hay_needle.specs.declared.needle.Pair.{Pair}
use Rattle.hay_needle.specs.Needle.{NeedleBytes, needle_of_cell}
use Rattle.hay_compact.specs.Finishing.{IsSeen}
use Rattle.hay_logical.specs.ReplicaCalls.{IsSeenBy}
use Rattle.hay_map.specs.declared.place.Place.{Place}
use Rattle.hay_map.specs.declared.place.Place.TheVariants as place
use Rattle.hay_reader.specs.Shown.{MayMean}
use Rattle.hay_reader.specs.Tried.{CanShow, HasItsPhoto, HasPhoto}
use Rattle.hay_shared_volume.specs.Looks.{WasSeen}
use Rattle.hay_volume_lock.specs.Rows.{PlaceTells}

its_needle : (bytes : List ℕ) (n : Needle) → NeedleBytes bytes n → HasPhoto bytes n.photo
its_needle bytes n is = (n, record { needle = bytes; rest = []; parts = sym (append-nil bytes); is = is }, refl)

module _ {P : Type 0} where
  pub may_mean : (Tells : Type 0) (pair : Pair) (there : Place P) (what : Outcome) → PlaceTells Tells pair there what → MayMean Tells pair there what
  may_mean Tells pair (place.Live needle) what tells = tells
  may_mean Tells pair place.None what tells = tells
  may_mean Tells pair place.Gone what tells = tells
  may_mean Tells pair (place.Unseen at size) what tells = tt

  pub was_seen : (there : Place P) → IsSeen there → WasSeen there
  was_seen (place.Live needle) seen = tt
  was_seen place.None seen = tt
  was_seen place.Gone seen = tt
  was_seen (place.Unseen at size) seen = seen

  -- the needle by which a place was seen shows its photo
  pub can_show : (DiskTells Tells : Type 0) (bytes : List ℕ) (there : Place P) → IsSeenBy DiskTells Tells bytes there → CanShow bytes there
  can_show DiskTells Tells bytes (place.Live needle) by = ((needle_of_cell by.cell).photo, its_needle bytes (needle_of_cell by.cell) by.needle)
  can_show DiskTells Tells bytes place.None by = tt
  can_show DiskTells Tells bytes place.Gone by = tt
  can_show DiskTells Tells bytes (place.Unseen at size) by = by.sight

  -- and where the disk tells, that photo stands there
  pub its_photo : (DiskTells Tells : Type 0) (bytes : List ℕ) (there : Place P) → DiskTells → IsSeenBy DiskTells Tells bytes there → HasItsPhoto bytes there
  its_photo DiskTells Tells bytes (place.Live needle) tells by =
      let sealed = (by.place tells).sealed in
      ((needle_of_cell by.cell).photo, its_needle bytes (needle_of_cell by.cell) by.needle, its_needle needle.bytes _ sealed.is)
  its_photo DiskTells Tells bytes place.None tells by = tt
  its_photo DiskTells Tells bytes place.Gone tells by = tt
  its_photo DiskTells Tells bytes (place.Unseen at size) tells by = tt

  -- of bytes that were there before, or by which a place was seen
  pub bytes_show : (DiskTells Tells : Type 0) (old bytes : List ℕ) (there : Place P) → old ≡ [] → (bytes ≡ old) ⊎ IsSeenBy DiskTells Tells bytes there → (bytes ≡ []) ⊎ CanShow bytes there
  bytes_show DiskTells Tells old bytes there empty (inl same) = inl (same ∙ empty)
  bytes_show DiskTells Tells old bytes there empty (inr seen) = inr (can_show DiskTells Tells bytes there seen)

  pub bytes_tell : (DiskTells Tells : Type 0) (old bytes : List ℕ) (there : Place P) → old ≡ [] → DiskTells → (bytes ≡ old) ⊎ IsSeenBy DiskTells Tells bytes there
      → (bytes ≡ []) ⊎ HasItsPhoto bytes there
  bytes_tell DiskTells Tells old bytes there empty tells (inl same) = inl (same ∙ empty)
  bytes_tell DiskTells Tells old bytes there empty tells (inr seen) = inr (its_photo DiskTells Tells bytes there tells seen)
