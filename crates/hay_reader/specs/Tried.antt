-- What a try of one replica gives.
use Rattle.std.specs.Prelude.{◌≡◌, ◌≢◌, ℕ, ◌≤◌, true, Bool, List, [], length, Result, Ok, Err}
use Rattle.hay_disk.specs.Counts.{Rose}
use Rattle.hay_needle.specs.declared.needle.Cookie.{Cookie}
use Rattle.hay_needle.specs.declared.needle.Needle.{Needle}
use Rattle.hay_needle.specs.declared.needle.Photo.{Photo}
use Rattle.hay_needle.specs.declared.total.TheConstants.{MAX_PHOTO}
use Rattle.hay_needle.specs.Needle.{BeginsWithNeedle}
use Rattle.hay_reply.specs.declared.Cause.{Cause}
use Rattle.hay_reply.specs.declared.Cause.TheVariants as cause
use Rattle.hay_map.specs.Sealed.{SealedNeedle}
use Rattle.hay_map.specs.declared.place.Place.{Place}
use Rattle.hay_map.specs.declared.place.Place.TheVariants as place
use Rattle.hay_reader.specs.declared.trial.Shown.{Shown}
use Rattle.hay_reader.specs.declared.trial.Shown.TheVariants as shown

-- a needle of this photo begins here, deleted or not
abbrev pub HasPhoto : List ℕ → Photo → Type 0
HasPhoto bytes photo = (needle : Needle) × BeginsWithNeedle bytes needle × (needle.photo ≡ photo)

-- no needle begins here
abbrev pub HasNone : List ℕ → Type 0
HasNone bytes = (needle : Needle) → BeginsWithNeedle bytes needle → ⊥

-- The place was looked at, and where it has a needle, one begins in these bytes.
abbrev pub CanShow : {P : Type 0} → List ℕ → Place P → Type 0
CanShow bytes (place.Live needle) = (photo : Photo) × HasPhoto bytes photo
CanShow bytes place.None = Unit {0}
CanShow bytes place.Gone = Unit {0}
CanShow bytes (place.Unseen at size) = ⊥

-- Where a place has a needle, these bytes begin with one of the same photo.
abbrev pub HasItsPhoto : {P : Type 0} → List ℕ → Place P → Type 0
HasItsPhoto bytes (place.Live needle) = (photo : Photo) × HasPhoto bytes photo × HasPhoto needle.bytes photo
HasItsPhoto bytes place.None = Unit {0}
HasItsPhoto bytes place.Gone = Unit {0}
HasItsPhoto bytes (place.Unseen at size) = Unit {0}

-- what bytes show to who has this cookie; `put` are those that were put out
abbrev pub ShowsPhoto : Cookie → List ℕ → List ℕ → Shown → Type 0
ShowsPhoto cookie put bytes shown.Photo = HasPhoto bytes (record { cookie = cookie; bytes = put })
ShowsPhoto cookie put bytes shown.WrongCookie = (photo : Photo) × (photo.cookie ≢ cookie) × HasPhoto bytes photo
ShowsPhoto cookie put bytes shown.Gone = ⊥
ShowsPhoto cookie put bytes shown.Unseen = ⊥

-- What is shown of a place that was looked at, by the bytes that were read then, whatever a piece tells.
abbrev pub ShowsSeen : {P : Type 0} → Cookie → List ℕ → List ℕ → Place P → Shown → Type 0
ShowsSeen cookie put bytes (place.Live needle) what = ShowsPhoto cookie put bytes what
ShowsSeen cookie put bytes place.None what = what ≡ shown.Gone
ShowsSeen cookie put bytes place.Gone what = what ≡ shown.Gone
ShowsSeen cookie put bytes (place.Unseen at size) what = ⊥

-- what reading bytes gives
abbrev pub ReadsBytes : Cookie → List ℕ → List ℕ → Result Shown Cause → Type 0
ReadsBytes cookie put bytes (Ok what) = ShowsPhoto cookie put bytes what
ReadsBytes cookie put bytes (Err why) = HasNone bytes

-- a needle was read
abbrev pub IsRead : Shown → Type 0
IsRead shown.Photo = Unit {0}
IsRead shown.WrongCookie = Unit {0}
IsRead shown.Gone = ⊥
IsRead shown.Unseen = ⊥

-- the place was looked at
abbrev pub IsOfSeen : Shown → Type 0
IsOfSeen shown.Photo = Unit {0}
IsOfSeen shown.Gone = Unit {0}
IsOfSeen shown.WrongCookie = Unit {0}
IsOfSeen shown.Unseen = ⊥

-- what the try of a needle gives: it tells its photo, or is passed over for an arm that may fail or for its damage
abbrev pub NeedleGives : Type 0 → Bool → Cookie → List ℕ → SealedNeedle → Result Shown Cause → Type 0
NeedleGives Tells sure cookie put needle (Ok what) = IsRead what × (Tells → ShowsPhoto cookie put needle.bytes what)
NeedleGives Tells sure cookie put needle (Err (cause.Arm f)) = sure ≢ true
NeedleGives Tells sure cookie put needle (Err (cause.Disk f)) = ⊥
NeedleGives Tells sure cookie put needle (Err (cause.Damage at)) = (at ≡ needle.at) × (Tells → HasNone needle.bytes)

-- what the try of a place gives: one without a needle says that the photo is gone, and one that was not looked at yet says so
abbrev pub PlaceGives : {P : Type 0} → Type 0 → Bool → Cookie → List ℕ → Place P → Result Shown Cause → Type 0
PlaceGives Tells sure cookie put (place.Live needle) r = NeedleGives Tells sure cookie put needle r
PlaceGives Tells sure cookie put place.None r = r ≡ Ok shown.Gone
PlaceGives Tells sure cookie put place.Gone r = r ≡ Ok shown.Gone
PlaceGives Tells sure cookie put (place.Unseen at size) r = r ≡ Ok shown.Unseen

-- an arm's failure is its count, which rose in this call
abbrev pub FailsBy : ℕ → ℕ → Cause → Type 0
FailsBy before after (cause.Arm f) = (f ≡ after) × Rose before after
FailsBy before after (cause.Disk f) = ⊥
FailsBy before after (cause.Damage at) = Unit {0}

-- damage is told where the needle stands
abbrev pub IsDamageAt : ℕ → Cause → Type 0
IsDamageAt at (cause.Damage there) = there ≡ at
IsDamageAt at (cause.Arm f) = ⊥
IsDamageAt at (cause.Disk f) = ⊥

-- only a photo has bytes, and at most so many
abbrev pub PutsOut : List ℕ → Result Shown Cause → Type 0
PutsOut bytes (Ok shown.Photo) = length bytes ≤ MAX_PHOTO
PutsOut bytes (Ok shown.Gone) = bytes ≡ []
PutsOut bytes (Ok shown.WrongCookie) = bytes ≡ []
PutsOut bytes (Ok shown.Unseen) = bytes ≡ []
PutsOut bytes (Err why) = bytes ≡ []
