-- What looks at a volume's places tell.
use Rattle.std.specs.Prelude.{◌≡◌, ◌⊎◌, ℕ, ◌<◌, List, [], Result, Ok, Err}
use Rattle.hay_needle.specs.declared.needle.Pair.{Pair}
use Rattle.hay_needle.specs.Tables.{outcome_at}
use Rattle.hay_map.specs.Places.{place_in}
use Rattle.hay_map.specs.declared.place.Place.{Place}
use Rattle.hay_map.specs.declared.place.Place.TheVariants as place
use Rattle.hay_core.specs.declared.entry.CoreTag.{CoreTag}
use Rattle.hay_core.specs.declared.entry.Entry.{Entry}
use Rattle.hay_meeting.specs.declared.act.VolumeAct.{VolumeAct}
use Rattle.hay_meeting.specs.Facts.{front_shown, table_shown}
use Rattle.hay_meeting.specs.Locks.{LockSight}
use Rattle.hay_holdings.specs.Holdings as holdings
use Rattle.hay_holdings.specs.Volumes.{ChangedNothing, SightFailed, SightWanted, VolumeCall}
use Rattle.hay_reader.specs.Shown.{MayMean}
use Rattle.hay_reader.specs.Tried.{HasItsPhoto}
use Rattle.hay_shared_volume.specs.declared.answers.Looked.{Looked}
use Rattle.hay_shared_volume.specs.declared.answers.SightFault.{SightFault}
use Rattle.hay_shared_volume.specs.declared.answers.SightFault.TheVariants as fault
use Rattle.hay_shared_volume.specs.Tellings.{StoreVolume}

-- the place was looked at
abbrev pub WasSeen : {P : Type 0} → Place P → Type 0
WasSeen (place.Live needle) = Unit {0}
WasSeen place.None = Unit {0}
WasSeen place.Gone = Unit {0}
WasSeen (place.Unseen at size) = ⊥

module _ {P : Type 0} (Tells : Type 0) (volume : StoreVolume) (pair : Pair) where
  -- The front that a lane is shown, and of each place of the pair that was looked at what its replica has there.
  pub record PlacesTell (looked : Looked P) (b : LockSight VolumeAct Entry) : Type 0 where
    pub front : looked.front ≡ front_shown volume.start volume.number b.shown
    pub means : (j : ℕ) → j < (volume.settings).replicas
        → MayMean Tells pair (place_in looked.row j) (outcome_at (table_shown volume.start volume.number j b.shown) pair)

  abbrev pub LookTells : Looked P → VolumeCall
  LookTells looked a b = holdings.Looked a b × PlacesTell looked b

  -- a place was seen by these bytes, or it had been seen before and there are none
  abbrev pub SeeTells : CoreTag → ℕ → List ℕ → Result (Looked P) SightFault → VolumeCall
  SeeTells tag j bytes (Ok looked) a b =
      ChangedNothing volume.settings volume.start volume.number tag a b × PlacesTell looked b
      × ((bytes ≡ []) ⊎ HasItsPhoto bytes (place_in looked.row j))
  SeeTells tag j bytes (Err (fault.Failed f)) a b = SightFailed volume.settings volume.start volume.number tag j f a b
  SeeTells tag j bytes (Err (fault.Damaged at)) a b = ⊥
  SeeTells tag j bytes (Err fault.NoMemory) a b = SightWanted volume.settings volume.start volume.number tag a b
