-- What follows from what a store stands at.
use Rattle.std.specs.Prelude.{◌≡◌, ℕ, ◌+◌, ◌-◌, ◌*◌, ◌%◌, ◌^◌, ◌<◌, ◌≤◌, ◌==◌, ◌||◌, ◌⊎◌, nat_lt, Bool, true, false, List, [], ◌∷◌, ◌++◌, length, map, take, find, replicate}
use Rattle.std.specs.Prelude.{slice_index, slice_index_or, slice_set, Option, Some, None, option_map, is_none, if◌then◌else◌}
use Rattle.std.specs.List.{AllZip, AllByRecursion, range_with_len, enumerate_from}
use Rattle.hay_needle.specs.declared.needle.Pair.{Pair}
use Rattle.hay_needle.specs.declared.needle.Outcome.{Outcome}
use Rattle.hay_needle.specs.declared.needle.Outcome.TheVariants as outcome
use Rattle.hay_needle.specs.declared.settings.Settings.{Settings}
use Rattle.hay_reply.specs.declared.Refused.{Refused}
use Rattle.hay_reply.specs.declared.Refused.TheVariants.{NoRoom, Closed}
use Rattle.hay_needle.specs.Tables.{Table, pair_eq}
use Rattle.hay_needle.specs.Sizes.{needle_total}
use Rattle.hay_core.specs.Entries.{after, entries_of}
use Rattle.hay_legal.specs.declared.known.ReplicaKnown.{ReplicaKnown}
use Rattle.hay_legal.specs.declared.known.VolumeKnown.{VolumeKnown}
use Rattle.hay_legal.specs.declared.known.HomeRow.{HomeRow}
use Rattle.hay_legal.specs.declared.known.Known.{Known}

-- R holds of each item and each later one
abbrev pub EachPair : {X : Type 0} → (X → X → Type 0) → List X → Type 0
EachPair R [] = Unit {0}
EachPair R (x ∷ xs) = AllByRecursion (R x) xs × EachPair R xs

-- WHERE THINGS ARE

abbrev pub empty_replica : ReplicaKnown
empty_replica = record { base = []; end = 64; cells = 0; bare = 0; generation = 0; stuck = false; run = None; poised = false }

abbrev pub empty_volume : VolumeKnown
empty_volume = record { log = []; frozen = None; pending = None; replicas = [] }

-- a volume, and a replica of it, by number
abbrev pub volume_at : Known → ℕ → VolumeKnown
volume_at k v = slice_index_or k.volumes v empty_volume

abbrev pub replica_at : VolumeKnown → ℕ → ReplicaKnown
replica_at volume j = slice_index_or volume.replicas j empty_replica

abbrev pub with_volume : Known → ℕ → VolumeKnown → Known
with_volume k v volume = record k { volumes = slice_set k.volumes v volume }

abbrev pub with_replica : VolumeKnown → ℕ → ReplicaKnown → VolumeKnown
with_replica volume j replica = record volume { replicas = slice_set volume.replicas j replica }

-- the machine and the slot of a replica
abbrev pub machine_of : Settings → ℕ → ℕ → ℕ
machine_of settings v j = (v + j) % settings.machines

abbrev pub slot_of : Settings → ℕ → ℕ → ℕ
slot_of settings v j = 1 + v * settings.replicas + j

abbrev pub replicas_of : Settings → List ℕ
replicas_of settings = range_with_len 0 settings.replicas

abbrev pub volumes_of : Settings → List ℕ
volumes_of settings = range_with_len 0 settings.volumes

abbrev pub all_lanes : List ℕ
all_lanes = range_with_len 0 8

-- the replica of a volume on a machine, if there is one
abbrev pub replica_on : Settings → ℕ → ℕ → Option ℕ
replica_on settings v m =
    if nat_lt v settings.volumes then find (λ j. machine_of settings v j == m) (replicas_of settings) else None

-- HOMES AND TRIES

-- the volume of the first row of a pair
abbrev pub home_in : List HomeRow → Pair → Option ℕ
home_in [] pair = None
home_in (row ∷ rows) pair = if pair_eq row.pair pair then Some row.volume else home_in rows pair

-- among the first n rows
abbrev pub home_at : List HomeRow → ℕ → Pair → Option ℕ
home_at rows n pair = home_in (take n rows) pair

abbrev pub home_of : Known → Pair → Option ℕ
home_of k pair = home_in k.directory.rows pair

abbrev pub try_at : Settings → Pair → ℕ → ℕ
try_at settings pair turn = (pair.key + turn) % settings.volumes

abbrev pub all_tries : Settings → Pair → List ℕ
all_tries settings pair = map (try_at settings pair) (range_with_len 0 settings.volumes)

-- a settled pair has its home alone to try
abbrev pub tries_by : Settings → Pair → Option ℕ → List ℕ
tries_by settings pair (Some v) = v ∷ []
tries_by settings pair None = all_tries settings pair

-- the volumes that a put may try, in order
abbrev pub tries_of : Settings → Known → Pair → List ℕ
tries_of settings k pair = tries_by settings pair (home_of k pair)

-- the rows when the pair has this home: a missing row is added
abbrev pub settled_by : List HomeRow → Pair → ℕ → Option ℕ → List HomeRow
settled_by rows pair v (Some home) = rows
settled_by rows pair v None = rows ++ record { pair = pair; volume = v } ∷ []

abbrev pub settled : List HomeRow → Pair → ℕ → List HomeRow
settled rows pair v = settled_by rows pair v (home_in rows pair)

abbrev pub with_home : Known → Pair → ℕ → Known
with_home k pair v = record k { directory = record k.directory { rows = settled k.directory.rows pair v } }

-- WHAT STANDS

-- a replica's table at a front of its volume, and at the present front
abbrev pub at_front : VolumeKnown → ReplicaKnown → ℕ → Table
at_front volume replica n = after (entries_of volume.log) n replica.base

abbrev pub now : VolumeKnown → ReplicaKnown → Table
now volume replica = at_front volume replica (length volume.log)

abbrev pub stands : Outcome → Bool
stands outcome.Nothing = false
stands (outcome.Photo photo) = true

-- WHO REFUSES

abbrev pub is_drained : Known → ℕ → Bool
is_drained k m = slice_index_or k.drained m false

abbrev pub drained_of : Settings → Known → ℕ → Option ℕ
drained_of settings k v = find (is_drained k) (map (machine_of settings v) (replicas_of settings))

abbrev pub closed_by : Option ℕ → Option ℕ → Option ℕ
closed_by (Some m) drained = Some m
closed_by None drained = drained

-- the machine by which a volume is closed to puts and deletes: a freeze goes before a drain
abbrev pub closed : Settings → Known → ℕ → Option ℕ
closed settings k v = closed_by (volume_at k v).frozen (drained_of settings k v)

abbrev pub lacks_room : Settings → ℕ → ReplicaKnown → Bool
lacks_room settings size replica = nat_lt settings.capacity (replica.end + needle_total size + 8)

-- the lowest replica without room for a photo of this size
abbrev pub room_refusal_of : Settings → ℕ → VolumeKnown → ℕ → Option Refused
room_refusal_of settings v volume size =
    option_map (λ at. NoRoom v (machine_of settings v at.0) (at.1).end (needle_total size))
    (find (λ at. lacks_room settings size at.1) (enumerate_from 0 volume.replicas))

abbrev pub room_refusal : Settings → Known → ℕ → ℕ → Option Refused
room_refusal settings k v size = room_refusal_of settings v (volume_at k v) size

abbrev pub refusal_by : ℕ → Option ℕ → Option Refused → Option Refused
refusal_by v (Some m) room = Some (Closed v m)
refusal_by v None room = room

-- why a volume does not take a photo of this size, if it does not
abbrev pub refusal_of : Settings → Known → ℕ → ℕ → Option Refused
refusal_of settings k size v = refusal_by v (closed settings k v) (room_refusal settings k v size)

-- the volume that takes a photo: the first try that does not refuse
abbrev pub taker_of : Settings → Known → Pair → ℕ → Option ℕ
taker_of settings k pair size = find (λ v. is_none (refusal_of settings k size v)) (tries_of settings k pair)

-- COUNTS

abbrev pub has_risen : ℕ → ℕ → Bool
has_risen before after = nat_lt before after || after == 2 ^ 64 - 1

abbrev pub fault_count : Known → ℕ → ℕ
fault_count k slot = slice_index k.faults slot

abbrev pub arm_count : Known → ℕ → ℕ
arm_count k lane = slice_index k.arms lane

abbrev pub fuse_count : Known → ℕ → ℕ
fuse_count k slot = slice_index k.fuses slot

-- a count that was printed is one that was reached between two states: a count stands still at its end
abbrev pub CameUp : ℕ → ℕ → ℕ → Type 0
CameUp before printed after = ((before < printed) ⊎ (printed ≡ 2 ^ 64 - 1)) × (printed ≤ after)

abbrev pub NoneFalls : List ℕ → List ℕ → Type 0
NoneFalls before after = AllZip ◌≤◌ before after

-- From k comes t, which is as expected, but that counts of faults may have risen.
pub record Leaves (k expected t : Known) : Type 0 where
  pub volumes : t.volumes ≡ expected.volumes
  pub directory : t.directory ≡ expected.directory
  pub drained : t.drained ≡ expected.drained
  pub fuses : t.fuses ≡ expected.fuses
  pub faults : NoneFalls k.faults t.faults
  pub arms : NoneFalls k.arms t.arms

-- Disks are opened: from k comes t, which is the same, but that counts of disks' faults may have risen.
pub record FaultsRose (k t : Known) : Type 0 where
  pub volumes : t.volumes ≡ k.volumes
  pub directory : t.directory ≡ k.directory
  pub drained : t.drained ≡ k.drained
  pub fuses : t.fuses ≡ k.fuses
  pub faults : NoneFalls k.faults t.faults
  pub arms : t.arms ≡ k.arms

-- A STORE ON VOID DISKS, AS FORMATTED

abbrev pub fresh_volume : Settings → VolumeKnown
fresh_volume settings = record empty_volume { replicas = replicate settings.replicas empty_replica }

abbrev pub disk_count : Settings → ℕ
disk_count settings = 1 + settings.volumes * settings.replicas

-- with these counts of the disks' faults and fuses and of the arms' faults
abbrev pub fresh : Settings → List ℕ → List ℕ → List ℕ → Known
fresh settings faults fuses arms = record {
  volumes = replicate settings.volumes (fresh_volume settings);
  directory = record { rows = []; frozen = false; pending = None };
  drained = replicate settings.machines false;
  faults = faults;
  arms = arms;
  fuses = fuses;
}

-- where nothing has failed yet
abbrev pub fresh_unharmed : Settings → Known
fresh_unharmed settings =
    fresh settings (replicate (disk_count settings) 0) (replicate (disk_count settings) 0) (replicate 8 0)
