-- What the rows say of each pair on each replica, and how each call changes that, whatever the disks tell.
use Rattle.std.specs.Prelude.{◌≡◌, ◌⊎◌, ◌≤◌, ◌<◌, ◌+◌, ℕ, true, false, List, length, Option, None, Some}
use Rattle.hay_needle.specs.declared.settings.Settings.{Settings}
use Rattle.hay_needle.specs.declared.needle.Cell.{Cell}
use Rattle.hay_needle.specs.declared.needle.Pair.{Pair}
use Rattle.hay_needle.specs.Sizes.{needle_total}
use Rattle.hay_needle.specs.Tables.{pair_eq}
use Rattle.hay_legal.specs.Known.{machine_of}
use Rattle.hay_map.specs.MapRows.{MapRows}
use Rattle.hay_map.specs.Places.{place_in}
use Rattle.hay_map.specs.Rows.{row_at}
use Rattle.hay_map.specs.declared.place.Place.{Place}
use Rattle.hay_map.specs.declared.place.Place.TheVariants as place
use Rattle.hay_open.specs.Stored.{Stored, last_cell}
use Rattle.hay_logical.specs.declared.fault.LogicalFault.{LogicalFault}
use Rattle.hay_logical.specs.declared.fault.LogicalFault.TheVariants as refusal
use Rattle.hay_logical.specs.Fits.{At}
use Rattle.hay_logical.specs.Seen.{ReplicaSeen}

-- There never was a photo; it stands, at this place of the volume file; it is gone; or the needle of a photo of this size is recorded
-- at this place, and was not looked at yet.
pub data Sight : Type 0 where
  Never Gone : Sight
  Live : ℕ → Sight
  Unseen : ℕ → ℕ → Sight

abbrev pub sight : {P : Type 0} → Place P → Sight
sight place.None = Never
sight (place.Live needle) = Live needle.at
sight place.Gone = Gone
sight (place.Unseen at size) = Unseen at size

-- of each pair on each replica
abbrev pub Sights : Type 0
Sights = Pair → ℕ → Sight

abbrev pub sights_of : {P : Type 0} → MapRows P → Sights
sights_of rows pair replica = sight (place_in (row_at rows pair) replica)

-- once the photo was deleted
abbrev pub gone_sight : Sight → Sight
gone_sight Never = Never
gone_sight (Live at) = Gone
gone_sight Gone = Gone
gone_sight (Unseen at size) = Gone

-- the photo stands
abbrev pub IsLiveSight : Sight → Type 0
IsLiveSight Never = ⊥
IsLiveSight (Live at) = Unit {0}
IsLiveSight Gone = ⊥
IsLiveSight (Unseen at size) = ⊥

-- where the last cell of the pair stands, for all that was seen, unless its photo is gone
abbrev pub latest_sight : Sight → Option ℕ
latest_sight Never = None
latest_sight (Live at) = Some at
latest_sight Gone = None
latest_sight (Unseen at size) = Some at

-- it was not looked at yet
abbrev pub AwaitsLook : Sight → Type 0
AwaitsLook Never = ⊥
AwaitsLook (Live at) = ⊥
AwaitsLook Gone = ⊥
AwaitsLook (Unseen at size) = Unit {0}

-- nor was it, and it is recorded at this place
abbrev pub AwaitsLookAt : ℕ → Sight → Type 0
AwaitsLookAt place Never = ⊥
AwaitsLookAt place (Live at) = ⊥
AwaitsLookAt place Gone = ⊥
AwaitsLookAt place (Unseen at size) = place ≡ at

-- The needle of a photo lies behind the superblock, and ends at `end` or before.
abbrev pub LiesWithin : ℕ → Sight → Type 0
LiesWithin end Never = Unit {0}
LiesWithin end (Live at) = (64 ≤ at) × (at + needle_total 0 ≤ end)
LiesWithin end Gone = Unit {0}
LiesWithin end (Unseen at size) = (64 ≤ at) × (at + needle_total size ≤ end)

-- WHAT STANDS ON A DISK

-- The place of a pair whose last cell this is, looked at or not.
abbrev pub IsSightOfLast : Option Cell → Sight → Type 0
IsSightOfLast (Some cell) (Unseen at size) = (at ≡ cell.at) × (size ≡ length cell.bytes)
IsSightOfLast (Some cell) (Live at) = (at ≡ cell.at) × (cell.deleted ≡ false)
IsSightOfLast (Some cell) Gone = cell.deleted ≡ true
IsSightOfLast (Some cell) Never = ⊥
IsSightOfLast None (Unseen at size) = ⊥
IsSightOfLast None (Live at) = ⊥
IsSightOfLast None Gone = Unit {0}
IsSightOfLast None Never = Unit {0}

-- the places of a replica are those of the last cells that stood on its disk
abbrev pub AreSightsOf : Stored → Sights → ℕ → Type 0
AreSightsOf s sights replica = (pair : Pair) → IsSightOfLast (last_cell s.cells pair) (sights pair replica)

-- WHAT IS SEEN OF A PAIR

-- each replica was looked at
abbrev pub SeesAll : Pair → ℕ → Sights → Type 0
SeesAll pair replicas sights = (j : ℕ) → j < replicas → AwaitsLook (sights pair j) → ⊥

-- some replica has the photo
abbrev pub SeesLive : Pair → ℕ → Sights → Type 0
SeesLive pair replicas sights = (j : ℕ) × (j < replicas) × IsLiveSight (sights pair j)

-- The replica on this machine is seen so.
abbrev pub IsSeenOn : Settings → ℕ → Pair → ℕ → (Sight → Type 0) → Sights → Type 0
IsSeenOn settings v pair m Is sights = (j : ℕ) × (j < settings.replicas) × (m ≡ machine_of settings v j) × Is (sights pair j)

-- each place of one replica, whose cells end here, lies within them
abbrev pub LiesWithinAt : ℕ → ℕ → Sights → Type 0
LiesWithinAt j end sights = (pair : Pair) → LiesWithin end (sights pair j)

-- so it is of each replica
abbrev pub LiesWithinEach : Sights → List ReplicaSeen → Type 0
LiesWithinEach sights replicas = (j : ℕ) (r : ReplicaSeen) → At replicas j r → LiesWithinAt j r.end sights

-- CHANGES

abbrev pub KeepsSights : Sights → Sights → Type 0
KeepsSights old new = (pair : Pair) (j : ℕ) → new pair j ≡ old pair j

-- every other pair is seen as before
abbrev pub KeepsOtherPairs : Pair → Sights → Sights → Type 0
KeepsOtherPairs pair old new = (other : Pair) (j : ℕ) → pair_eq pair other ≡ false → new other j ≡ old other j

-- what is seen behind a look, where none was taken yet
abbrev pub BecomesSeen : Sight → Sight → Type 0
BecomesSeen Never after = ⊥
BecomesSeen (Live at) after = ⊥
BecomesSeen Gone after = ⊥
BecomesSeen (Unseen at size) after = (after ≡ Live at) ⊎ (after ≡ Gone)

-- what a look may make of it
abbrev pub Looks : Sight → Sight → Type 0
Looks before after = (after ≡ before) ⊎ BecomesSeen before after

-- some replicas of a pair were looked at
pub record LooksAtPair (pair : Pair) (old new : Sights) : Type 0 where
  pub each : (j : ℕ) → Looks (old pair j) (new pair j)
  pub others : KeepsOtherPairs pair old new

-- one replica of a pair was looked at, if it was not before
pub record SeesPair (pair : Pair) (replica : ℕ) (old new : Sights) : Type 0 where
  pub looks : LooksAtPair pair old new
  pub seen : AwaitsLook (new pair replica) → ⊥
  pub others : (j : ℕ) → (j ≡ replica → ⊥) → new pair j ≡ old pair j

-- each replica, which was seen so before, has the pair's photo where its cells ended
pub record StoresSights (pair : Pair) (replicas : List ReplicaSeen) (old new : Sights) : Type 0 where
  pub live : (j : ℕ) (r : ReplicaSeen) → At replicas j r → new pair j ≡ Live r.end
  pub others : KeepsOtherPairs pair old new

-- the pair's photo is gone from each replica
pub record ErasesSights (pair : Pair) (old new : Sights) : Type 0 where
  pub gone : (j : ℕ) → new pair j ≡ gone_sight (old pair j)
  pub others : KeepsOtherPairs pair old new

-- A replica has new files, behind which the replicas are seen so: there never was a photo where there never was one, and nowhere
-- else, one that was gone stays gone, and each place was looked at and lies within the new file.
pub record SwapsSights (replica : ℕ) (replicas : List ReplicaSeen) (old new : Sights) : Type 0 where
  pub never : (pair : Pair) → old pair replica ≡ Never → new pair replica ≡ Never
  pub ever : (pair : Pair) → new pair replica ≡ Never → old pair replica ≡ Never
  pub gone : (pair : Pair) → old pair replica ≡ Gone → new pair replica ≡ Gone
  pub seen : (pair : Pair) → AwaitsLook (new pair replica) → ⊥
  pub within : (r : ReplicaSeen) → At replicas replica r → LiesWithinAt replica r.end new
  pub others : (pair : Pair) (j : ℕ) → (j ≡ replica → ⊥) → new pair j ≡ old pair j

-- each replica was looked at, and some has the photo
pub record FindsPhoto (pair : Pair) (replicas : ℕ) (old new : Sights) : Type 0 where
  pub looks : LooksAtPair pair old new
  pub all : SeesAll pair replicas new
  pub live : SeesLive pair replicas new

-- the photo that was found so is gone
pub record DeletesSights (pair : Pair) (replicas : ℕ) (old new : Sights) : Type 0 where
  pub found : Sights
  pub finds : FindsPhoto pair replicas old found
  pub erases : ErasesSights pair found new

-- A look at the replica on this machine was refused, and left it unseen, which is seen so.
pub record LooksInVain (settings : Settings) (v : ℕ) (pair : Pair) (m : ℕ) (Is : Sight → Type 0) (old new : Sights) : Type 0 where
  pub looks : LooksAtPair pair old new
  pub unseen : IsSeenOn settings v pair m Is new

-- no replica has the photo
pub record FindsNone (pair : Pair) (replicas : ℕ) (old new : Sights) : Type 0 where
  pub looks : LooksAtPair pair old new
  pub all : SeesAll pair replicas new
  pub none : SeesLive pair replicas new → ⊥

-- what looks at a pair leave where one is refused
abbrev pub LookRefusedSights : Settings → ℕ → Pair → Sights → Sights → LogicalFault → Type 0
LookRefusedSights settings v pair old new (refusal.Failed m faults) = LooksInVain settings v pair m AwaitsLook old new
LookRefusedSights settings v pair old new (refusal.Damaged m place) = LooksInVain settings v pair m (AwaitsLookAt place) old new
LookRefusedSights settings v pair old new refusal.NoMemory = LooksAtPair pair old new
LookRefusedSights settings v pair old new (refusal.ReadOnly m) = ⊥
LookRefusedSights settings v pair old new (refusal.Full m end need capacity) = ⊥
LookRefusedSights settings v pair old new (refusal.Gone front) = ⊥
LookRefusedSights settings v pair old new (refusal.Busy m goal) = ⊥
LookRefusedSights settings v pair old new (refusal.Worn m) = ⊥
LookRefusedSights settings v pair old new refusal.Idle = ⊥

-- A look at one replica that is refused comes only where it was not looked at yet, and leaves each place. Damage is told at its own.
abbrev pub SeeRefusedSights : Pair → ℕ → Sights → Sights → LogicalFault → Type 0
SeeRefusedSights pair replica old new (refusal.Failed m faults) = KeepsSights old new × AwaitsLook (old pair replica)
SeeRefusedSights pair replica old new (refusal.Damaged m place) = KeepsSights old new × AwaitsLookAt place (old pair replica)
SeeRefusedSights pair replica old new refusal.NoMemory = KeepsSights old new × AwaitsLook (old pair replica)
SeeRefusedSights pair replica old new (refusal.ReadOnly m) = ⊥
SeeRefusedSights pair replica old new (refusal.Full m end need capacity) = ⊥
SeeRefusedSights pair replica old new (refusal.Gone front) = ⊥
SeeRefusedSights pair replica old new (refusal.Busy m goal) = ⊥
SeeRefusedSights pair replica old new (refusal.Worn m) = ⊥
SeeRefusedSights pair replica old new refusal.Idle = ⊥

-- By what freezes the volume behind it: a failure behind the looks does, at a replica that has the photo, and a look that has failed
-- does not.
abbrev pub DeleteRefusedSights : Settings → ℕ → Pair → Option ℕ → Sights → Sights → LogicalFault → Type 0
DeleteRefusedSights settings v pair frozen old new (refusal.ReadOnly m) = KeepsSights old new
DeleteRefusedSights settings v pair frozen old new (refusal.Gone front) = FindsNone pair settings.replicas old new
DeleteRefusedSights settings v pair frozen old new (refusal.Damaged m place) = LooksInVain settings v pair m (AwaitsLookAt place) old new
DeleteRefusedSights settings v pair frozen old new refusal.NoMemory = LooksAtPair pair old new
DeleteRefusedSights settings v pair frozen old new (refusal.Failed m faults) =
    ((frozen ≡ Some m) × FindsPhoto pair settings.replicas old new × IsSeenOn settings v pair m IsLiveSight new) ⊎ ((frozen ≡ None) × LooksInVain settings v pair m AwaitsLook old new)
DeleteRefusedSights settings v pair frozen old new (refusal.Full m end need capacity) = ⊥
DeleteRefusedSights settings v pair frozen old new (refusal.Busy m goal) = ⊥
DeleteRefusedSights settings v pair frozen old new (refusal.Worn m) = ⊥
DeleteRefusedSights settings v pair frozen old new refusal.Idle = ⊥
