-- Which replicas have a change that was broken off, by what was kept of it in memory, and how that is told.
use Rattle.std.specs.Prelude.{◌≡◌, ℕ, nat_lt, not, Bool, true, false, List, [], length, slice_get, slice_index, Option, Some, None}
use Rattle.hay_needle.specs.declared.settings.Settings.{Settings}
use Rattle.hay_reply.specs.declared.Note.{Note}
use Rattle.hay_legal.specs.Restarts.{replica_notes}
use Rattle.hay_volume.specs.Needles.{LacksNeedleOf}
use Rattle.hay_map.specs.MapRows.{MapRows}
use Rattle.hay_map.specs.Places.{place_in}
use Rattle.hay_map.specs.Rows.{row_at}
use Rattle.hay_map.specs.declared.place.Place.{Place}
use Rattle.hay_map.specs.declared.place.Place.TheVariants as place
use Rattle.hay_compact.specs.Finishing.{IsSeen}
use Rattle.hay_physical.specs.Replicas.{HasLiveNeedleAt}
use Rattle.hay_logical.specs.declared.unsure.Change.{Change}
use Rattle.hay_logical.specs.declared.unsure.Change.TheVariants as change
use Rattle.hay_logical.specs.declared.unsure.Unsure.{Unsure}
use Rattle.hay_logical.specs.Fits.{At}
use Rattle.hay_logical.specs.Seen.{ReplicaSeen}
use Rattle.hay_logical.specs.Sights.{Sight, Sights}
use Rattle.hay_logical.specs.Sights.Sight.{Gone, Live, Never, Unseen}

-- whether a place was seen as that of a photo
abbrev pub is_live : {P : Type 0} → Place P → Bool
is_live (place.Live needle) = true
is_live place.None = false
is_live place.Gone = false
is_live (place.Unseen at size) = false

-- whether a photo stands, for all that was seen
abbrev pub may_be_live : Sight → Bool
may_be_live (Live at) = true
may_be_live Never = false
may_be_live Gone = false
may_be_live (Unseen at size) = true

-- a replica has a put if its cells end further on now, and a delete if no photo of the pair is there
abbrev pub keeps : Change → Sights → ℕ → ℕ → Bool
keeps (change.Put ends) sights j end = nat_lt (slice_index ends j) end
keeps (change.Delete pair) sights j end = not (may_be_live (sights pair j))

-- the place that tells whether a replica has the change was seen
abbrev pub SeesChange : {P : Type 0} → Change → MapRows P → ℕ → Type 0
SeesChange (change.Put ends) rows j = Unit {0}
SeesChange (change.Delete pair) rows j = IsSeen (place_in (row_at rows pair) j)

abbrev pub SeesUnsure : {P : Type 0} → Option Unsure → MapRows P → ℕ → Type 0
SeesUnsure None rows j = Unit {0}
SeesUnsure (Some unsure) rows j = SeesChange unsure.change rows j

pub record KeptIn (change : Change) (sights : Sights) (replicas : List ReplicaSeen) (kept : List Bool) : Type 0 where
  pub count : length kept ≡ length replicas
  pub each : (j : ℕ) (r : ReplicaSeen) → At replicas j r → slice_get kept j ≡ Some (keeps change sights j r.end)

-- Whatever the disks have: no notes where no change was broken off, and else one for each replica in order, of the change's line,
-- which says whether the replica has it.
abbrev pub NotesTell : Settings → ℕ → Option Unsure → Sights → List ReplicaSeen → List Note → Type 0
NotesTell settings v None sights replicas notes = notes ≡ []
NotesTell settings v (Some unsure) sights replicas notes =
    (kept : List Bool) × KeptIn unsure.change sights replicas kept × (notes ≡ replica_notes settings v (unsure.tag).line 0 kept)

-- Where the disk tells, no needle of the recorded size begins at a place that the opening left not looked at, and that of a photo
-- stands at its place, and is not deleted.
abbrev pub IsToldPlace : Sight → List ℕ → Type 0
IsToldPlace (Unseen at size) file = LacksNeedleOf size at file
IsToldPlace (Live at) file = HasLiveNeedleAt file at
IsToldPlace Never file = Unit {0}
IsToldPlace Gone file = Unit {0}

-- so it is on replica j at the pair of a deletion that was broken off
abbrev pub ToldChange : Change → Sights → ℕ → List ℕ → Type 0
ToldChange (change.Put ends) sights j file = Unit {0}
ToldChange (change.Delete pair) sights j file = IsToldPlace (sights pair j) file

abbrev pub ToldUnsure : Option Unsure → Sights → ℕ → List ℕ → Type 0
ToldUnsure None sights j file = Unit {0}
ToldUnsure (Some unsure) sights j file = ToldChange unsure.change sights j file
