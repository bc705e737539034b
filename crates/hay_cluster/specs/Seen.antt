-- What is seen of a store in memory, whatever its disks tell: how each command is answered by it, and how it changes that.
use Rattle.std.specs.Prelude.{◌≡◌, ◌⊎◌, ◌<◌, ◌≤◌, ◌+◌, ℕ, Bool, true, false, List, ◌∷◌, ◌++◌, [], length, map, slice_get, slice_index_or, slice_set, Option, None, Some}
use Rattle.std.specs.List.{AllByRecursion, AllZip}
use Rattle.std.specs.Option.{option_map_or}
use Rattle.hay_needle.specs.declared.needle.Cookie.{Cookie}
use Rattle.hay_needle.specs.declared.needle.Pair.{Pair}
use Rattle.hay_needle.specs.declared.settings.Settings.{Settings}
use Rattle.hay_script.specs.declared.Command.{Command}
use Rattle.hay_script.specs.declared.Command.TheVariants as asks
use Rattle.hay_reply.specs.declared.Note.{Note}
use Rattle.hay_reply.specs.declared.Refused.{Refused}
use Rattle.hay_reply.specs.declared.Refused.TheVariants.{Closed, NoRoom}
use Rattle.hay_reply.specs.declared.Reply.{Reply}
use Rattle.hay_reply.specs.declared.Reply.TheVariants as reply
use Rattle.hay_core.specs.declared.entry.CoreTag.{CoreTag}
use Rattle.hay_legal.specs.declared.known.HomeRow.{HomeRow}
use Rattle.hay_legal.specs.Known.{all_tries, machine_of, replica_on, slot_of, tries_by}
use Rattle.hay_legal.specs.Plain.{as_closed}
use Rattle.hay_legal.specs.Stands.{Contents}
use Rattle.hay_legal.specs.Suiting.{Refuses}
use Rattle.hay_open.specs.Stored.{OpensAs, Stored}
use Rattle.hay_directory.specs.Notes.{notes_by}
use Rattle.hay_directory.specs.Rows.{OpensRows, RowsWithin}
use Rattle.hay_directory.specs.Seen.{DirectorySeen, KeepsSeen, SettleRefusedSeen, SettleSeen, directory_seen}
use Rattle.hay_directory.specs.Seen as directory
use Rattle.hay_directory.specs.declared.fault.DirFault.TheVariants as settling
use Rattle.hay_logical.specs.declared.fault.LogicalFault.{LogicalFault}
use Rattle.hay_logical.specs.declared.unsure.Change.TheVariants.{Delete}
use Rattle.hay_logical.specs.Fits.{At, super_of}
use Rattle.hay_logical.specs.Notes.{NotesTell}
use Rattle.hay_logical.specs.Readings.{IsReadAs}
use Rattle.hay_logical.specs.Seen.{BeginRefusedSeen, BeginSeen, BreaksPutSeen, CompactRefusedSeen, CompactSeen, FinishRefusedSeen, FinishSeen, FlushRefusedSeen, FlushSeen}
use Rattle.hay_logical.specs.Seen.{FreezesSeen, FullSeen, HideSeen, IsFoundAs, OpenSeen, RoomSeen, SeesAt, StepRefusedSeen, StepSeen, PutSeen, ReplicaSeen, VolumeSeen}
use Rattle.hay_logical.specs.Seen.{volume_seen}
use Rattle.hay_logical.specs.Sights.{AreSightsOf, LiesWithinEach, Sights, sights_of}
use Rattle.hay_logical.specs.Sights.Sight.{Never}
use Rattle.hay_logical.specs.Volumes.{Volume}
use Rattle.hay_cluster.specs.declared.maintenance.Maintenance.{Maintenance}
use Rattle.hay_cluster.specs.declared.maintenance.Maintenance.TheVariants as work
use Rattle.hay_cluster.specs.Maintenance.{IsRefusedAs, done_as}
use Rattle.hay_cluster.specs.Store.{Open}

-- no photo was ever seen
abbrev pub no_sights : Sights
no_sights pair replica = Never

-- what is seen of the photos of the volume with this number; of one that there is not, none ever was
abbrev pub places_of : {D P : Type 0} → List (Volume D P) → ℕ → Sights
places_of {D} {P} volumes v = option_map_or (λ (volume : Volume D P). sights_of volume.rows) (slice_get volumes v) no_sights

-- of each volume, and of the Directory; and of the photos by volume
pub record StoreSeen : Type 0 where
  pub volumes : List VolumeSeen
  pub directory : DirectorySeen
  pub places : ℕ → Sights

abbrev pub store_seen : {D P A : Type 0} → Open D P A → StoreSeen
store_seen store = record { volumes = map volume_seen store.volumes; directory = directory_seen store.directory; places = places_of store.volumes }

-- there is volume v, and it is seen so
abbrev pub VolumeAt : ℕ → (VolumeSeen → Type 0) → StoreSeen → Type 0
VolumeAt v Is seen = (volume : VolumeSeen) × At seen.volumes v volume × Is volume

-- One volume moved so, and all else is as it was.
pub record MovesVolume (v : ℕ) (Moves : VolumeSeen → VolumeSeen → Type 0) (old new : StoreSeen) : Type 0 where
  pub before : VolumeSeen
  pub after : VolumeSeen
  pub was : At old.volumes v before
  pub volumes : new.volumes ≡ slice_set old.volumes v after
  pub directory : KeepsSeen old.directory new.directory
  pub moves : Moves before after

-- The Directory moved so, and no volume.
pub record MovesDirectory (Moves : DirectorySeen → DirectorySeen → Type 0) (old new : StoreSeen) : Type 0 where
  pub volumes : new.volumes ≡ old.volumes
  pub moves : Moves old.directory new.directory

-- nothing did
abbrev pub Keeps : StoreSeen → StoreSeen → Type 0
Keeps old new = MovesDirectory KeepsSeen old new

-- the home of a pair, if it has one
abbrev pub home_seen : StoreSeen → Pair → Option ℕ
home_seen seen pair = (seen.directory).homes pair

-- the pair has this home, and there are so many rows
abbrev pub HasHome : StoreSeen → Pair → ℕ → ℕ → Type 0
HasHome seen pair v rows = (home_seen seen pair ≡ Some v) × (rows ≡ (seen.directory).rows)

-- WHAT CLOSES A VOLUME TO CHANGES

abbrev pub is_drained : StoreSeen → ℕ → Bool
is_drained seen m = slice_index_or (seen.directory).drained m false

-- no machine has frozen it, and no change is pending there
abbrev pub IsThawed : StoreSeen → ℕ → Type 0
IsThawed seen v = VolumeAt v (λ volume. (volume.frozen ≡ None) × (volume.unsure ≡ None)) seen

abbrev pub IsFrozenBy : StoreSeen → ℕ → ℕ → Type 0
IsFrozenBy seen v m = VolumeAt v (λ volume. volume.frozen ≡ Some m) seen

-- no machine of the volume below this replica is drained
abbrev pub IsUndrainedBelow : Settings → StoreSeen → ℕ → ℕ → Type 0
IsUndrainedBelow settings seen v end = (j : ℕ) → j < end → is_drained seen (machine_of settings v j) ≡ false

-- The volume takes changes: it is not frozen, and no machine of it is drained.
abbrev pub IsOpenTo : Settings → StoreSeen → ℕ → Type 0
IsOpenTo settings seen v = IsThawed seen v × IsUndrainedBelow settings seen v settings.replicas

pub record IsFirstDrained (settings : Settings) (seen : StoreSeen) (v m : ℕ) : Type 0 where
  pub replica : ℕ
  pub within : replica < settings.replicas
  pub machine : m ≡ machine_of settings v replica
  pub drained : is_drained seen m ≡ true
  pub lowest : IsUndrainedBelow settings seen v replica

-- The machine closes the volume: it has frozen it; or, where none has, it is the drained one of the lowest replica that is on one.
abbrev pub Closes : Settings → StoreSeen → ℕ → ℕ → Type 0
Closes settings seen v m = IsFrozenBy seen v m ⊎ (IsThawed seen v × IsFirstDrained settings seen v m)

-- PUTS

-- The volume refuses a photo of this size: it is closed, or lacks room.
abbrev pub TurnsAside : Settings → StoreSeen → ℕ → Refused → Type 0
TurnsAside settings seen size (Closed v m) = Closes settings seen v m
TurnsAside settings seen size (NoRoom v m end need) = IsOpenTo settings seen v × VolumeAt v (λ volume. FullSeen settings v size volume m end need settings.capacity) seen

abbrev pub RefusesPhoto : Settings → StoreSeen → ℕ → ℕ → Refused → Type 0
RefusesPhoto settings seen size v refused = Refuses settings size v refused × TurnsAside settings seen size refused

-- It takes one.
abbrev pub TakesPhotoAt : Settings → StoreSeen → ℕ → ℕ → Type 0
TakesPhotoAt settings seen size v = IsOpenTo settings seen v × VolumeAt v (RoomSeen settings size) seen

-- the first of a pair's tries that takes a photo of this size
abbrev pub IsTaker : Settings → StoreSeen → Pair → ℕ → ℕ → Type 0
IsTaker settings seen pair size v =
    (before : List ℕ) × (refused : List Refused) × (after : List ℕ) × (all_tries settings pair ≡ before ++ v ∷ after)
    × AllZip (RefusesPhoto settings seen size) before refused × TakesPhotoAt settings seen size v

-- each of its tries refuses: its home, where it has one
abbrev pub IsTurnedAside : Settings → StoreSeen → Pair → ℕ → List Refused → Type 0
IsTurnedAside settings seen pair size refused = AllZip (RefusesPhoto settings seen size) (tries_by settings pair (home_seen seen pair)) refused

-- The pair has this home, which takes the photo, or the first of its tries that does has become its home.
abbrev pub GetsHome : Settings → Pair → ℕ → ℕ → StoreSeen → StoreSeen → Type 0
GetsHome settings pair size v old new =
    ((home_seen old pair ≡ Some v) × TakesPhotoAt settings old size v × Keeps old new)
    ⊎ (IsTaker settings old pair size v × MovesDirectory (SettleSeen pair v) old new)

-- It needs one: it has none, and this volume would be it.
abbrev pub NeedsHome : Settings → Pair → ℕ → ℕ → StoreSeen → Type 0
NeedsHome settings pair size v seen = (home_seen seen pair ≡ None) × IsTaker settings seen pair size v

-- what a put that wanted memory leaves of its volume: nothing is changed there, or it is pending, frozen by the first replica's machine
abbrev pub WantsAt : Settings → CoreTag → ℕ → StoreSeen → StoreSeen → Type 0
WantsAt settings tag v old new = Keeps old new ⊎ MovesVolume v (BreaksPutSeen tag (machine_of settings v 0)) old new

-- What a put that came to volume v does there: it stored the photo, or failed, or wanted memory.
abbrev pub PutsAt : Settings → CoreTag → ℕ → ℕ → Reply → StoreSeen → StoreSeen → Type 0
PutsAt settings tag size v said old new =
    ((p : ℕ) × (d : ℕ) × (c : Cookie) × (said ≡ reply.Stored v p d c) × MovesVolume v (PutSeen size p) old new × (d ≡ (new.directory).rows))
    ⊎ ((m : ℕ) × (n : ℕ) × (said ≡ reply.Failed v m n) × MovesVolume v (BreaksPutSeen tag m) old new)
    ⊎ ((said ≡ reply.NoMem) × WantsAt settings tag v old new)

abbrev pub AnswersPut : Settings → CoreTag → Pair → ℕ → Reply → StoreSeen → StoreSeen → Type 0
AnswersPut settings tag pair size (reply.Stored v p d c) old new =
    ((mid : StoreSeen) × GetsHome settings pair size v old mid × MovesVolume v (PutSeen size p) mid new) × (d ≡ (new.directory).rows)
AnswersPut settings tag pair size (reply.Full tries) old new = Keeps old new × IsTurnedAside settings old pair size tries
AnswersPut settings tag pair size (reply.ReadOnly tries) old new = Keeps old new × IsTurnedAside settings old pair size (map as_closed tries)
AnswersPut settings tag pair size reply.ReadOnlyDir old new =
    (v : ℕ) × NeedsHome settings pair size v old × MovesDirectory (λ before after. SettleRefusedSeen tag pair v before after settling.Frozen) old new
AnswersPut settings tag pair size (reply.FailedDir n) old new =
    (v : ℕ) × NeedsHome settings pair size v old × MovesDirectory (λ before after. SettleRefusedSeen tag pair v before after (settling.Failed n)) old new
AnswersPut settings tag pair size (reply.Failed v m n) old new =
    (mid : StoreSeen) × GetsHome settings pair size v old mid × MovesVolume v (BreaksPutSeen tag m) mid new
AnswersPut settings tag pair size reply.NoMem old new =
    Keeps old new ⊎ ((v : ℕ) × (mid : StoreSeen) × GetsHome settings pair size v old mid × WantsAt settings tag v mid new)
AnswersPut settings tag pair size (reply.Deleted v p d) old new = ⊥
AnswersPut settings tag pair size (reply.Absent v f d) old new = ⊥
AnswersPut settings tag pair size (reply.Damaged v m at) old new = ⊥
AnswersPut settings tag pair size (reply.Photo v m f d photo) old new = ⊥
AnswersPut settings tag pair size (reply.Gone v m f d) old new = ⊥
AnswersPut settings tag pair size (reply.WrongCookie v m f d) old new = ⊥
AnswersPut settings tag pair size (reply.Unknown d) old new = ⊥
AnswersPut settings tag pair size (reply.Moved v d) old new = ⊥
AnswersPut settings tag pair size (reply.Url d url) old new = ⊥
AnswersPut settings tag pair size (reply.Unreadable v f d causes) old new = ⊥
AnswersPut settings tag pair size (reply.Flushed v m n) old new = ⊥
AnswersPut settings tag pair size (reply.Begun v m n) old new = ⊥
AnswersPut settings tag pair size (reply.Stepped v m n) old new = ⊥
AnswersPut settings tag pair size (reply.Compacted v m n) old new = ⊥
AnswersPut settings tag pair size (reply.Busy v m n) old new = ⊥
AnswersPut settings tag pair size (reply.Idle v m) old new = ⊥
AnswersPut settings tag pair size (reply.Worn v m) old new = ⊥
AnswersPut settings tag pair size (reply.Drained m) old new = ⊥
AnswersPut settings tag pair size (reply.Undrained m) old new = ⊥
AnswersPut settings tag pair size (reply.Fused v m calls) old new = ⊥
AnswersPut settings tag pair size (reply.FusedDir calls) old new = ⊥
AnswersPut settings tag pair size reply.Nowhere old new = ⊥
AnswersPut settings tag pair size (reply.Restarted d) old new = ⊥
AnswersPut settings tag pair size reply.BadLine old new = ⊥

-- DELETES

-- its home takes changes
abbrev pub IsOpenAtHome : Settings → StoreSeen → Pair → ℕ → Type 0
IsOpenAtHome settings seen pair v = (home_seen seen pair ≡ Some v) × IsOpenTo settings seen v

abbrev pub AnswersDelete : Settings → CoreTag → Pair → Reply → StoreSeen → StoreSeen → Type 0
AnswersDelete settings tag pair (reply.Unknown d) old new = Keeps old new × (home_seen old pair ≡ None) × (d ≡ (old.directory).rows)
AnswersDelete settings tag pair (reply.ReadOnly tries) old new =
    Keeps old new × ((v : ℕ) × (m : ℕ) × (tries ≡ record { volume = v; machine = m } ∷ []) × (home_seen old pair ≡ Some v) × Closes settings old v m)
AnswersDelete settings tag pair (reply.Deleted v p d) old new = IsOpenAtHome settings old pair v × MovesVolume v (HideSeen p) old new × (d ≡ (old.directory).rows)
AnswersDelete settings tag pair (reply.Absent v f d) old new =
    IsOpenAtHome settings old pair v × Keeps old new × VolumeAt v (λ volume. f ≡ volume.front) old × (d ≡ (old.directory).rows)
AnswersDelete settings tag pair (reply.Failed v m n) old new =
    IsOpenAtHome settings old pair v × (Keeps old new ⊎ MovesVolume v (FreezesSeen m (Some (record { tag = tag; change = Delete pair }))) old new)
AnswersDelete settings tag pair (reply.Damaged v m at) old new = IsOpenAtHome settings old pair v × Keeps old new
AnswersDelete settings tag pair reply.NoMem old new = Keeps old new
AnswersDelete settings tag pair (reply.Stored v p d c) old new = ⊥
AnswersDelete settings tag pair (reply.Full tries) old new = ⊥
AnswersDelete settings tag pair reply.ReadOnlyDir old new = ⊥
AnswersDelete settings tag pair (reply.FailedDir n) old new = ⊥
AnswersDelete settings tag pair (reply.Photo v m f d photo) old new = ⊥
AnswersDelete settings tag pair (reply.Gone v m f d) old new = ⊥
AnswersDelete settings tag pair (reply.WrongCookie v m f d) old new = ⊥
AnswersDelete settings tag pair (reply.Moved v d) old new = ⊥
AnswersDelete settings tag pair (reply.Url d url) old new = ⊥
AnswersDelete settings tag pair (reply.Unreadable v f d causes) old new = ⊥
AnswersDelete settings tag pair (reply.Flushed v m n) old new = ⊥
AnswersDelete settings tag pair (reply.Begun v m n) old new = ⊥
AnswersDelete settings tag pair (reply.Stepped v m n) old new = ⊥
AnswersDelete settings tag pair (reply.Compacted v m n) old new = ⊥
AnswersDelete settings tag pair (reply.Busy v m n) old new = ⊥
AnswersDelete settings tag pair (reply.Idle v m) old new = ⊥
AnswersDelete settings tag pair (reply.Worn v m) old new = ⊥
AnswersDelete settings tag pair (reply.Drained m) old new = ⊥
AnswersDelete settings tag pair (reply.Undrained m) old new = ⊥
AnswersDelete settings tag pair (reply.Fused v m calls) old new = ⊥
AnswersDelete settings tag pair (reply.FusedDir calls) old new = ⊥
AnswersDelete settings tag pair reply.Nowhere old new = ⊥
AnswersDelete settings tag pair (reply.Restarted d) old new = ⊥
AnswersDelete settings tag pair reply.BadLine old new = ⊥

-- READS AND URLS, which change nothing

-- it is told of the pair's home, as of so many changes and rows
abbrev pub TellsHome : StoreSeen → Pair → ℕ → ℕ → ℕ → Type 0
TellsHome seen pair v front rows = HasHome seen pair v rows × VolumeAt v (λ volume. front ≡ volume.front) seen

-- What a read, a get and a URL of a pair tell.
abbrev pub Shows : StoreSeen → Pair → Reply → Type 0
Shows seen pair (reply.Photo v m f d photo) = TellsHome seen pair v f d
Shows seen pair (reply.Gone v m f d) = TellsHome seen pair v f d
Shows seen pair (reply.WrongCookie v m f d) = TellsHome seen pair v f d
Shows seen pair (reply.Unreadable v f d causes) = TellsHome seen pair v f d
Shows seen pair (reply.Unknown d) = (home_seen seen pair ≡ None) × (d ≡ (seen.directory).rows)
Shows seen pair (reply.Moved v d) = HasHome seen pair v d
Shows seen pair (reply.Url d url) = HasHome seen pair url.volume d
Shows seen pair reply.Nowhere = Unit {0}
Shows seen pair reply.NoMem = Unit {0}
Shows seen pair (reply.Stored v p d c) = ⊥
Shows seen pair (reply.Deleted v p d) = ⊥
Shows seen pair (reply.Absent v f d) = ⊥
Shows seen pair (reply.Full tries) = ⊥
Shows seen pair (reply.ReadOnly tries) = ⊥
Shows seen pair reply.ReadOnlyDir = ⊥
Shows seen pair (reply.Failed v m n) = ⊥
Shows seen pair (reply.FailedDir n) = ⊥
Shows seen pair (reply.Damaged v m at) = ⊥
Shows seen pair (reply.Flushed v m n) = ⊥
Shows seen pair (reply.Begun v m n) = ⊥
Shows seen pair (reply.Stepped v m n) = ⊥
Shows seen pair (reply.Compacted v m n) = ⊥
Shows seen pair (reply.Busy v m n) = ⊥
Shows seen pair (reply.Idle v m) = ⊥
Shows seen pair (reply.Worn v m) = ⊥
Shows seen pair (reply.Drained m) = ⊥
Shows seen pair (reply.Undrained m) = ⊥
Shows seen pair (reply.Fused v m calls) = ⊥
Shows seen pair (reply.FusedDir calls) = ⊥
Shows seen pair (reply.Restarted d) = ⊥
Shows seen pair reply.BadLine = ⊥

abbrev pub AnswersRead : Pair → Reply → StoreSeen → StoreSeen → Type 0
AnswersRead pair said old new = Keeps old new × Shows old pair said

-- WORK ON A REPLICA

abbrev pub WorkSeen : Maintenance → ℕ → ℕ → VolumeSeen → VolumeSeen → Type 0
WorkSeen work.Flush at number old new = FlushSeen at number old new
WorkSeen work.Begin at number old new = BeginSeen at number old new
WorkSeen (work.Step cells) at number old new = StepSeen at cells number old new
WorkSeen work.Finish at number old new = (end : ℕ) × FinishSeen at number end old new
WorkSeen work.Compact at number old new = (end : ℕ) × CompactSeen at number end old new

abbrev pub WorkRefusedSeen : Settings → Maintenance → ℕ → ℕ → LogicalFault → VolumeSeen → VolumeSeen → Type 0
WorkRefusedSeen settings work.Flush v at fault old new = FlushRefusedSeen settings v at old new fault
WorkRefusedSeen settings work.Begin v at fault old new = BeginRefusedSeen settings v at old new fault
WorkRefusedSeen settings (work.Step cells) v at fault old new = StepRefusedSeen settings v at cells old new fault
WorkRefusedSeen settings work.Finish v at fault old new = FinishRefusedSeen settings v at old new fault
WorkRefusedSeen settings work.Compact v at fault old new = CompactRefusedSeen settings v at old new fault

-- It was done on the volume's replica there, or refused; or there is none.
abbrev pub AnswersWork : Settings → Maintenance → ℕ → ℕ → Reply → StoreSeen → StoreSeen → Type 0
AnswersWork settings asked v m said old new =
    ((replica_on settings v m ≡ None) × (said ≡ reply.Nowhere) × Keeps old new)
    ⊎ ((at : ℕ) × (number : ℕ) × (replica_on settings v m ≡ Some at) × (said ≡ done_as v m asked number) × MovesVolume v (WorkSeen asked at number) old new)
    ⊎ ((at : ℕ) × (fault : LogicalFault) × (replica_on settings v m ≡ Some at) × IsRefusedAs v m fault said
    × MovesVolume v (WorkRefusedSeen settings asked v at fault) old new)

-- DRAINS AND FUSES

abbrev pub AnswersDrain : ℕ → Bool → Reply → Reply → StoreSeen → StoreSeen → Type 0
AnswersDrain m is done said old new =
    ((said ≡ done) × MovesDirectory (directory.DrainSeen m is) old new) ⊎ ((said ≡ reply.Nowhere) × Keeps old new)

-- EVERY COMMAND

-- How a command of this line is answered. A restart is not answered so.
abbrev pub Answers : Settings → CoreTag → Command → Reply → StoreSeen → StoreSeen → Type 0
Answers settings tag (asks.Put pair photo) said old new = AnswersPut settings tag pair (length photo) said old new
Answers settings tag (asks.Del pair) said old new = AnswersDelete settings tag pair said old new
Answers settings tag (asks.Read pair cookie) said old new = AnswersRead pair said old new
Answers settings tag (asks.Get url) said old new = AnswersRead url.pair said old new
Answers settings tag (asks.Url pair) said old new = AnswersRead pair said old new
Answers settings tag (asks.Flush v m) said old new = AnswersWork settings work.Flush v m said old new
Answers settings tag (asks.Compact v m) said old new = AnswersWork settings work.Compact v m said old new
Answers settings tag (asks.Begin v m) said old new = AnswersWork settings work.Begin v m said old new
Answers settings tag (asks.Step v m cells) said old new = AnswersWork settings (work.Step cells) v m said old new
Answers settings tag (asks.Finish v m) said old new = AnswersWork settings work.Finish v m said old new
Answers settings tag (asks.Drain m) said old new = AnswersDrain m true (reply.Drained m) said old new
Answers settings tag (asks.Undrain m) said old new = AnswersDrain m false (reply.Undrained m) said old new
Answers settings tag (asks.Fuse v m calls) said old new = Keeps old new
Answers settings tag (asks.FuseDir calls) said old new = Keeps old new
Answers settings tag (asks.Restart pick) said old new = ⊥

-- OPENINGS

-- a volume with all its replicas, as an opening leaves it
abbrev pub OpensVolumeSeen : Settings → VolumeSeen → Type 0
OpensVolumeSeen settings volume = OpenSeen volume × (length volume.replicas ≡ settings.replicas)

-- The cells of each replica end behind the superblock, and each place of a photo that is seen lies within them.
pub record VolumeLies (sights : Sights) (volume : VolumeSeen) : Type 0 where
  pub from : (j : ℕ) (r : ReplicaSeen) → At volume.replicas j r → 64 ≤ r.end
  pub within : LiesWithinEach sights volume.replicas

-- so it is of each volume
abbrev pub PlacesLie : StoreSeen → Type 0
PlacesLie seen = (v : ℕ) (volume : VolumeSeen) → At seen.volumes v volume → VolumeLies (seen.places v) volume

-- Nothing is pending or closed, no compaction stands, and no volume was changed yet. Each row is of a volume that there is.
pub record OpensSeen (settings : Settings) (seen : StoreSeen) : Type 0 where
  pub many : length seen.volumes ≡ settings.volumes
  pub volumes : AllByRecursion (OpensVolumeSeen settings) seen.volumes
  pub lie : PlacesLie seen
  pub rows : List HomeRow
  pub within : RowsWithin settings.volumes rows
  pub directory : directory.OpenSeen settings.machines rows seen.directory

-- What is seen of a store that was opened on these contents: the homes are by the rows of the Directory's disk, and each replica whose disk
-- was void or whole has its generation, ends where its cells do, has as many without a record, and the places of its last cells, whatever
-- the others have.
pub record ReadsSeen (settings : Settings) (contents : ℕ → Contents) (seen : StoreSeen) : Type 0 where
  pub rows : List HomeRow
  pub reads : OpensRows settings (contents 0) rows
  pub directory : directory.OpenSeen settings.machines rows seen.directory
  pub finds : (v j : ℕ) (s : Stored) → v < settings.volumes → j < settings.replicas → OpensAs (super_of settings v j) (contents (slot_of settings v j)) s
      → VolumeAt v (SeesAt j (IsFoundAs s)) seen × AreSightsOf s (seen.places v) j

-- Of each replica, whatever its disk had, void, whole or neither: its generation, where its cells end, how many have no record, and its
-- places are those that its files give now, as far as an opening reads them.
abbrev pub ReadsEach : Settings → (ℕ → Contents) → StoreSeen → Type 0
ReadsEach settings contents seen = (v j : ℕ) → v < settings.volumes → j < settings.replicas
    → VolumeAt v (SeesAt j (λ r. IsReadAs (super_of settings v j) (contents (slot_of settings v j)) r (λ pair. seen.places v pair j))) seen

-- RESTARTS

-- Each volume where a change was pending has a note for each replica, which says whether the replica has it now, and another volume has
-- none: those of volume v come first.
abbrev pub TellsVolumes : Settings → ℕ → List VolumeSeen → List VolumeSeen → (ℕ → Sights) → List Note → Type 0
TellsVolumes settings v [] [] places notes = notes ≡ []
TellsVolumes settings v [] (new ∷ news) places notes = ⊥
TellsVolumes settings v (old ∷ olds) [] places notes = ⊥
TellsVolumes settings v (old ∷ olds) (new ∷ news) places notes =
    (first : List Note) × (rest : List Note) × (notes ≡ first ++ rest) × NotesTell settings v old.unsure (places v) new.replicas first
    × TellsVolumes settings (v + 1) olds news places rest

-- A restart tells of all that was pending, and at last of the row, which was kept where its pair has a home now.
abbrev pub TellsSeen : Settings → StoreSeen → StoreSeen → List Note → Type 0
TellsSeen settings before after notes =
    (of_volumes : List Note) × (notes ≡ of_volumes ++ notes_by (before.directory).pending (after.directory).homes)
    × TellsVolumes settings 0 before.volumes after.volumes after.places of_volumes
