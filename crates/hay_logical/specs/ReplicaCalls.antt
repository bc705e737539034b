-- What the calls of one replica do, as far as a volume goes by it.
use Rattle.std.specs.Prelude.{◌≡◌, ◌⊎◌, ◌≤◌, ◌<◌, ◌+◌, ℕ, ◌-◌, ◌*◌, min, Bool, true, false, List, [], length, slice_set, Option, Some, None, option_map, if◌then◌else◌, Result}
use Rattle.std.specs.Prelude.{Err, IfOk, IfErr, OnOk, OnErr}
use Rattle.hay_needle.specs.declared.needle.Cell.{Cell}
use Rattle.hay_needle.specs.declared.needle.Cookie.{Cookie}
use Rattle.hay_needle.specs.declared.needle.Pair.{Pair}
use Rattle.hay_needle.specs.declared.settings.Settings.{Settings}
use Rattle.hay_needle.specs.declared.settings.Super.{Super}
use Rattle.hay_needle.specs.declared.needle.Outcome.{Outcome}
use Rattle.hay_needle.specs.Needle.{NeedleBytes, needle_of_cell}
use Rattle.hay_needle.specs.Sizes.{needle_total}
use Rattle.hay_needle.specs.Tables.{pair_eq}
use Rattle.hay_needle.specs.declared.settings.TheConstants.{LAST_GENERATION}
use Rattle.hay_disk.specs.Counts.{IsNext, Rose}
use Rattle.hay_disk.specs.Disk.{Files, IsSolid, MayLeave}
use Rattle.hay_legal.specs.Known.{machine_of}
use Rattle.hay_volume.specs.Cells.{live_cell}
use Rattle.hay_map.specs.MapRows.{MapRows}
use Rattle.hay_map.specs.Places.{place_in}
use Rattle.hay_map.specs.Rows.{ChangesRows, row_at}
use Rattle.hay_map.specs.Sealed.{SealedNeedle}
use Rattle.hay_map.specs.declared.place.Place.{Place}
use Rattle.hay_map.specs.declared.place.Place.TheVariants as place
use Rattle.hay_map.specs.declared.view.MapOp.TheVariants as op
use Rattle.hay_map.specs.declared.view.OpenCell.{OpenCell}
use Rattle.hay_open.specs.declared.fault.OpenFault.{OpenFault}
use Rattle.hay_open.specs.declared.fault.OpenFault.TheVariants as open_fault
use Rattle.hay_open.specs.Damage.{IsOpeningDamage}
use Rattle.hay_open.specs.Stored.{Stored, IsReplicaFile, IsSealedCell, PlaceOf, IsVoid, OpensAs, fresh_stored, index_file, last_cell, volume_file}
use Rattle.hay_physical.specs.declared.fault.ReplicaFault.{ReplicaFault}
use Rattle.hay_physical.specs.declared.fault.ReplicaFault.TheVariants as fault
use Rattle.hay_physical.specs.declared.state.Phase.TheVariants.{Closed}
use Rattle.hay_physical.specs.OpenCopies.{Copy, IsFrozen, IsOpenCopy, IsUp, KeepsHead, bare_of, capacity_of, contents_of, end_of, generation_of, goal_of, is_frozen, is_stuck, volume_bytes}
use Rattle.hay_physical.specs.Faults.{IsSightFault}
use Rattle.hay_physical.specs.Replicas as physical
use Rattle.hay_compact.specs.Finishing.{IsSeen}
use Rattle.hay_compact.specs.Copying.{end_of as cells_end_of}
use Rattle.hay_physical.specs.CompactionRuns.{HasLastAt, HasRun, IsTight, RemovedBoth, Run, Swaps, longer, loosened}
use Rattle.hay_logical.specs.declared.fault.Unopened.{Unopened}
use Rattle.hay_logical.specs.declared.replicas.Broken.{Broken}
use Rattle.hay_logical.specs.declared.replicas.DiskFailed.{DiskFailed}
use Rattle.hay_logical.specs.declared.runs.NewFiles.{NewFiles}
use Rattle.hay_logical.specs.declared.runs.Unswapped.{Unswapped}
use Rattle.hay_logical.specs.declared.runs.Unswapped.TheVariants.{Refused, Unsure}
use Rattle.hay_logical.specs.Answers.{HasSizes}
use Rattle.hay_logical.specs.Fits.{At, PhotoAt, PlaceStands}
use Rattle.hay_logical.specs.Needles.{HasLiveNeedles, IsToldBy}
use Rattle.hay_logical.specs.Readings.{IsReadAs}
use Rattle.hay_logical.specs.Refusals.{IsUntouched}
use Rattle.hay_logical.specs.Seen.{CanBegin, MeetsDamage, MeetsDamageLeft, ReplicaSeen, begun, replica_seen}
use Rattle.hay_logical.specs.Sights.{AreSightsOf, AwaitsLook, AwaitsLookAt, LiesWithinAt, Looks, SeesPair, Sight, SwapsSights, sight, sights_of}
use Rattle.hay_logical.specs.Sights.Sight.{Live}
use Rattle.hay_logical.specs.Volumes.{ReachesPlaces}

-- of each replica, whether a flush has failed, as before
abbrev pub KeepsStuck : {D : Type 0} → List (Copy D) → List (Copy D) → Type 0
KeepsStuck {D} old new = (j : ℕ) (r r' : Copy D) → At old j r → At new j r' → is_stuck r' ≡ is_stuck r

-- ROOM

abbrev pub RoomFor : {D : Type 0} → ℕ → Copy D → Type 0
RoomFor size r = end_of r + needle_total size + 8 ≤ capacity_of r

-- the lowest replica without room for a photo of this size
pub record LacksRoom {D : Type 0} (size : ℕ) (replicas : List (Copy D)) (broken : Broken) : Type 0 where
  pub replica : Copy D
  pub there : At replicas broken.at replica
  pub below : (j : ℕ) (r : Copy D) → j < broken.at → At replicas j r → RoomFor size r
  pub full : capacity_of replica < end_of replica + needle_total size + 8
  pub cause : broken.fault ≡ fault.Full (end_of replica) (needle_total size) (capacity_of replica)

-- PHOTOS IN REACH

-- What could be deleted can still be, and what could be seen can still be seen, where the places are of this kind.
pub record KeepsReach {D : Type 0} (files : D → Files) (IsKept : ℕ → ℕ → Type 0) (r r' : Copy D) : Type 0 where
  pub deletes : (place : ℕ) → physical.MayDelete files r place → physical.MayDelete files r' place
  pub sees : physical.KeepsSight files IsKept r r'

abbrev pub StaysInReach : {D : Type 0} → Type 0 → (D → Files) → Copy D → Copy D → Type 0
StaysInReach DiskTells files r r' = DiskTells → KeepsReach files physical.Anywhere r r'

-- a change at this place wrote no more than the flags of its cell
abbrev pub StaysBeside : {D P : Type 0} → Type 0 → (D → Files) → Place P → Copy D → Copy D → Type 0
StaysBeside DiskTells files p r r' = DiskTells → KeepsReach files (λ at size. physical.IsApartPlace at size p) r r'

-- ENDS OF COMPACTIONS

-- Nothing but a compaction of the replica ended, where one stood.
pub record LosesRun {D : Type 0} (DiskTells : Type 0) (files : D → Files) (r r' : Copy D) : Type 0 where
  pub idle : goal_of r ≡ None → r' ≡ r
  pub «open» : IsOpenCopy r → IsOpenCopy r'
  pub up : IsUp r → IsUp r'
  pub froze : IsFrozen r → IsFrozen r'
  pub sup : r'.sup ≡ r.sup
  pub disk : r'.disk ≡ r.disk
  pub frozen : is_frozen r' ≡ is_frozen r
  pub stuck : is_stuck r' ≡ is_stuck r
  pub stands : DiskTells → (s : Stored) → physical.Stands files r s → physical.Stands files r' s
  pub holds : DiskTells → (stuck : Bool) (s t : Stored) → physical.Holds files r stuck s t → physical.Holds files r' stuck s t
  pub reach : StaysInReach DiskTells files r r'
  pub end : end_of r' ≡ end_of r

-- the cells of no replica end earlier
abbrev pub Lengthens : {D : Type 0} → List (Copy D) → List (Copy D) → Type 0
Lengthens {D} old new = (j : ℕ) (r r' : Copy D) → At old j r → At new j r' → end_of r ≤ end_of r'

-- no compaction stands
abbrev pub AllIdle : {D : Type 0} → List (Copy D) → Type 0
AllIdle {D} replicas = (j : ℕ) (r : Copy D) → At replicas j r → goal_of r ≡ None

-- PUTS

abbrev pub IsPlaceOf : {P : Type 0} → Type 0 → ℕ → Pair → Cookie → List ℕ → Place P → Type 0
IsPlaceOf Tells end pair cookie bytes (place.Live needle) = IsSealedCell Tells (live_cell end pair cookie bytes) needle
IsPlaceOf Tells end pair cookie bytes place.None = ⊥
IsPlaceOf Tells end pair cookie bytes place.Gone = ⊥
IsPlaceOf Tells end pair cookie bytes (place.Unseen at size) = ⊥

pub record PutsAt {D P : Type 0} (DiskTells : Type 0) (files : D → Files) (Tells : Type 0) (pair : Pair) (cookie : Cookie) (bytes : List ℕ) (r r' : Copy D) (p : Place P) : Type 0 where
  pub up : IsUp r'
  pub sup : r'.sup ≡ r.sup
  pub stuck : is_stuck r' ≡ is_stuck r
  pub stands : DiskTells → (s : Stored) → physical.Stands files r s →
      physical.Stands files r' (physical.with_cell s pair cookie bytes) × IsPlaceOf Tells s.end pair cookie bytes p
  pub run : DiskTells → (s : Stored) (run : Option Run) → physical.Stands files r s → HasRun files r s run →
      HasRun files r' (physical.with_cell s pair cookie bytes) (option_map longer run)
  pub live : sight p ≡ Live (end_of r)
  pub deletable : DiskTells → physical.MayDeletePlace files r' p
  pub apart : DiskTells → (at size : ℕ) → physical.MaySee files r at size → physical.IsApartPlace at size p
  pub whole : DiskTells → physical.HasWholeNeedle Tells p

-- Where a put was broken off, the replicas below have the photo, that one perhaps, and those above are as they were.
pub record PutBroken {D : Type 0} (DiskTells : Type 0) (files : D → Files) (pair : Pair) (cookie : Cookie) (bytes : List ℕ) (r r' : Copy D) : Type 0 where
  pub «open» : IsOpenCopy r'
  pub sup : r'.sup ≡ r.sup
  pub stuck : is_stuck r' ≡ is_stuck r
  pub stands : DiskTells → (s : Stored) → physical.Stands files r s →
      physical.Stands files r' s ⊎ (IsFrozen r' × physical.Holds files r' (is_stuck r) s (physical.with_cell s pair cookie bytes))

abbrev pub IsPutFault : {D : Type 0} → (D → ℕ) → Copy D → Copy D → ReplicaFault → Type 0
IsPutFault faults r r' (fault.Failed printed) = Rose (faults r.disk) (faults r'.disk) × (printed ≡ faults r'.disk) × IsFrozen r'
IsPutFault faults r r' fault.Frozen = ⊥
IsPutFault faults r r' (fault.Full end need capacity) = ⊥
IsPutFault faults r r' (fault.Busy generation) = ⊥
IsPutFault faults r r' (fault.Ended printed) = ⊥
IsPutFault faults r r' fault.Worn = ⊥
IsPutFault faults r r' (fault.Damaged at) = ⊥
IsPutFault faults r r' fault.NoMemory = Unit {0}

pub record PutLeaves {D : Type 0} (DiskTells : Type 0) (files : D → Files) (faults : D → ℕ) (pair : Pair) (cookie : Cookie) (bytes : List ℕ) (old new : List (Copy D)) (broken : Broken) : Type 0 where
  pub before : Copy D
  pub after : Copy D
  pub was : At old broken.at before
  pub is : At new broken.at after
  pub below : (j : ℕ) (r r' : Copy D) → j < broken.at → At old j r → At new j r' →
      IsUp r' × (r'.sup ≡ r.sup) × (is_stuck r' ≡ is_stuck r)
      × (DiskTells → (s : Stored) → physical.Stands files r s → physical.Stands files r' (physical.with_cell s pair cookie bytes))
  pub there : PutBroken DiskTells files pair cookie bytes before after
  pub above : (j : ℕ) (r r' : Copy D) → broken.at < j → At old j r → At new j r' → LosesRun DiskTells files r r'
  pub cause : IsPutFault faults before after broken.fault

-- A put that was broken off before it changed anything: each compaction goes on.
pub record StillRuns {D : Type 0} (DiskTells : Type 0) (files : D → Files) (old new : List (Copy D)) (broken : Broken) : Type 0 where
  pub is : IsUntouched new broken
  pub above : (j : ℕ) (r r' : Copy D) → broken.at < j → At old j r → At new j r' → r' ≡ r
  pub there : (r r' : Copy D) → At old broken.at r → At new broken.at r' → IsUp r' → DiskTells → (s : Stored) (run : Option Run) →
      physical.Stands files r s → HasRun files r s run → HasRun files r' s run

-- any other one ended them
abbrev pub EndsRuns : {D : Type 0} → Type 0 → (D → Files) → List (Copy D) → List (Copy D) → Broken → Type 0
EndsRuns DiskTells files old new broken = StillRuns DiskTells files old new broken ⊎ (AllIdle new × (IsUntouched new broken → ⊥))

-- SIGHTS

-- the places of a replica are those of these photos
abbrev pub PlacesAre : {P : Type 0} → Type 0 → MapRows P → ℕ → Stored → Type 0
PlacesAre Tells rows at s = (pair : Pair) → PhotoAt Tells (last_cell s.cells pair) (place_in (row_at rows pair) at)

-- The bytes of each file stay, what is solid stays so, and what a stop may leave then, it might have left before.
pub record KeepsBytes (old new : Files) : Type 0 where
  pub now : (n : ℕ) → (new n).now ≡ (old n).now
  pub solid : (n : ℕ) → IsSolid (old n) → IsSolid (new n)
  pub leaves : (image : ℕ → List ℕ) → MayLeave new image → MayLeave old image

-- So it is of each replica's files.
abbrev pub KeepsFiles : {D : Type 0} → Type 0 → (D → Files) → List (Copy D) → List (Copy D) → Type 0
KeepsFiles {D} DiskTells files old new = DiskTells → (j : ℕ) (r r' : Copy D) → At old j r → At new j r' → KeepsBytes (files r.disk) (files r'.disk)

-- So it is of each replica behind one that is on this machine.
abbrev pub KeepsAbove : {D : Type 0} → Type 0 → (D → Files) → Settings → ℕ → ℕ → List (Copy D) → List (Copy D) → Type 0
KeepsAbove {D} DiskTells files settings v m old new = DiskTells → (i j : ℕ) → i < settings.replicas → m ≡ machine_of settings v i → i < j →
    (r r' : Copy D) → At old j r → At new j r' → KeepsBytes (files r.disk) (files r'.disk)

-- A look at the place of a pair: one that was not seen yet is seen, as what it stands for, or a refusal has left it.
pub record SightsAt {D P : Type 0} (DiskTells : Type 0) (files : D → Files) (faults : D → ℕ) (Tells : Type 0) (pair : Pair) (rows rows' : MapRows P) (at : ℕ) (r r' : Copy D)
    (result : Result Unit ReplicaFault) : Type 0 where
  pub copy : r' ≡ record r { disk = r'.disk }
  pub seen : OnOk result (IsSeen (place_in (row_at rows' pair) at))
  pub stands : DiskTells → (s : Stored) → physical.Stands files r s → PlacesAre Tells rows at s → physical.Stands files r' s × PlacesAre Tells rows' at s
  pub run : DiskTells → (s : Stored) (run : Option Run) → physical.Stands files r s → PlacesAre Tells rows at s → HasRun files r s run → HasRun files r' s run
  pub holds : DiskTells → (stuck : Bool) (s t : Stored) → physical.Holds files r stuck s t → physical.Holds files r' stuck s t
  pub keeps : DiskTells → KeepsBytes (files r.disk) (files r'.disk)
  pub means : DiskTells → ReachesPlaces files Tells rows at r → (what : Pair → Outcome) →
      ((other : Pair) → PlaceStands files Tells r other (place_in (row_at rows other) at) (what other)) →
      (other : Pair) → PlaceStands files Tells r' other (place_in (row_at rows' other) at) (what other)
  pub undamaged : DiskTells → (what : Outcome) → PlaceStands files Tells r pair (place_in (row_at rows pair) at) what →
      (k : ℕ) → result ≡ Err (fault.Damaged k) → ⊥
  pub reach : DiskTells → ReachesPlaces files Tells rows at r → ReachesPlaces files Tells rows' at r'
  pub cause : IfErr result (IsSightFault (faults r.disk) (faults r'.disk))

-- The row of a pair has this place on a replica, and every other row stays.
abbrev pub SetsPlaceAt : {P : Type 0} → Pair → ℕ → Place P → MapRows P → MapRows P → Type 0
SetsPlaceAt pair at p rows rows' =
    (other : Pair) → row_at rows' other ≡ (if pair_eq pair other then slice_set (row_at rows other) at p else row_at rows other)

-- A refused look comes only where the place was not looked at yet, and damage is told there.
abbrev pub LookAwaited : Sight → ReplicaFault → Type 0
LookAwaited before (fault.Damaged place) = AwaitsLookAt place before
LookAwaited before (fault.Failed printed) = AwaitsLook before
LookAwaited before fault.NoMemory = AwaitsLook before
LookAwaited before fault.Frozen = ⊥
LookAwaited before (fault.Full end need capacity) = ⊥
LookAwaited before (fault.Busy goal) = ⊥
LookAwaited before (fault.Ended printed) = ⊥
LookAwaited before fault.Worn = ⊥

-- A refusal has left each row, and comes only where the place was not looked at yet.
pub record SeesRow {P : Type 0} (pair : Pair) (at : ℕ) (rows rows' : MapRows P) (result : Result Unit ReplicaFault) : Type 0 where
  pub width : rows'.replicas ≡ rows.replicas
  pub set : OnOk result (SetsPlaceAt pair at (place_in (row_at rows' pair) at) rows rows')
  pub sees : OnOk result (SeesPair pair at (sights_of rows) (sights_of rows'))
  pub kept : OnErr result ((other : Pair) → row_at rows' other ≡ row_at rows other)
  pub unseen : IfErr result (LookAwaited (sights_of rows pair at))

-- The bytes are the needle of a cell, and the place is what is seen of it. Where the disk tells, the place has the cell's photo.
pub record IsSeenBy {P : Type 0} (DiskTells Tells : Type 0) (bytes : List ℕ) (there : Place P) : Type 0 where
  pub cell : Cell
  pub needle : NeedleBytes bytes (needle_of_cell cell)
  pub sight : physical.IsSightOf cell there
  pub place : DiskTells → PlaceOf Tells (Some cell) there

-- DELETES

abbrev pub DeletesAt : {D P : Type 0} → Type 0 → (D → Files) → Place P → Copy D → Copy D → Type 0
DeletesAt DiskTells files (place.Live needle) r r' =
    IsUp r' × (r'.sup ≡ r.sup) × (is_stuck r' ≡ is_stuck r)
    × (DiskTells → (s : Stored) → physical.Stands files r s → physical.HasLive needle.at s.cells → physical.Stands files r' (physical.without_cell s needle.at))
DeletesAt DiskTells files place.None r r' = LosesRun DiskTells files r r'
DeletesAt DiskTells files place.Gone r r' = LosesRun DiskTells files r r'
DeletesAt DiskTells files (place.Unseen at size) r r' = LosesRun DiskTells files r r'

-- a compaction ended only where the disk's count of faults rose
abbrev pub KeepsRun : {D : Type 0} → (D → ℕ) → Copy D → Copy D → Type 0
KeepsRun faults r r' = (goal_of r' ≡ goal_of r) ⊎ ((goal_of r' ≡ None) × Rose (faults r.disk) (faults r'.disk))

-- so it is of each replica
abbrev pub KeepsRuns : {D : Type 0} → (D → ℕ) → List (Copy D) → List (Copy D) → Type 0
KeepsRuns {D} faults old new = (j : ℕ) (r r' : Copy D) → At old j r → At new j r' → KeepsRun faults r r'

-- A compaction that stands follows a delete, or it ended where the disk's count of faults rose.
pub record RunFollows {D : Type 0} (DiskTells : Type 0) (files : D → Files) (faults : D → ℕ) (pair : Pair) (at : ℕ) (r r' : Copy D) : Type 0 where
  pub run : DiskTells → (s : Stored) (run : Option Run) → physical.Stands files r s → HasRun files r s run → HasLastAt s.cells pair at →
      HasRun files r' (physical.without_cell s at) (option_map loosened run) ⊎ (goal_of r' ≡ None)
  pub goal : KeepsRun faults r r'

abbrev pub FollowsAt : {D P : Type 0} → Type 0 → (D → Files) → (D → ℕ) → Pair → Place P → Copy D → Copy D → Type 0
FollowsAt DiskTells files faults pair (place.Live needle) r r' = RunFollows DiskTells files faults pair needle.at r r'
FollowsAt DiskTells files faults pair place.None r r' = r' ≡ r
FollowsAt DiskTells files faults pair place.Gone r r' = r' ≡ r
FollowsAt DiskTells files faults pair (place.Unseen at size) r r' = r' ≡ r

pub record DeleteLeaves {D P : Type 0} (DiskTells : Type 0) (files : D → Files) (faults : D → ℕ) (row : List (Place P)) (old new : List (Copy D)) (failed : DiskFailed) : Type 0 where
  pub before : Copy D
  pub after : Copy D
  pub needle : SealedNeedle
  pub was : At old failed.at before
  pub is : At new failed.at after
  pub live : place_in row failed.at ≡ place.Live needle
  pub below : (j : ℕ) (r r' : Copy D) → j < failed.at → At old j r → At new j r' → DeletesAt DiskTells files (place_in row j) r r'
  pub frozen : IsFrozen after
  pub sup : after.sup ≡ before.sup
  pub stuck : is_stuck after ≡ is_stuck before
  pub left : DiskTells → (s : Stored) → physical.Stands files before s → physical.HasLive needle.at s.cells →
      physical.Holds files after (is_stuck before) s (physical.without_cell s needle.at)
  pub above : (j : ℕ) (r r' : Copy D) → failed.at < j → At old j r → At new j r' → LosesRun DiskTells files r r'
  pub rose : Rose (faults before.disk) (faults after.disk)
  pub printed : failed.faults ≡ faults after.disk

-- FLUSHES

abbrev pub IsFlushFault : {D : Type 0} → (D → ℕ) → Copy D → Copy D → ReplicaFault → Type 0
IsFlushFault faults r r' (fault.Failed printed) = Rose (faults r.disk) (faults r'.disk) × (printed ≡ faults r'.disk) × (is_stuck r' ≡ true)
IsFlushFault faults r r' fault.Frozen = (is_stuck r ≡ true) × (r' ≡ r)
IsFlushFault faults r r' (fault.Full end need capacity) = ⊥
IsFlushFault faults r r' (fault.Busy generation) = ⊥
IsFlushFault faults r r' (fault.Ended printed) = ⊥
IsFlushFault faults r r' fault.Worn = ⊥
IsFlushFault faults r r' (fault.Damaged at) = ⊥
IsFlushFault faults r r' fault.NoMemory = is_stuck r' ≡ is_stuck r

-- The replica's cells all have records, or it is as it was.
pub record FlushesAt {D : Type 0} (DiskTells : Type 0) (files : D → Files) (faults : D → ℕ) (r r' : Copy D) (result : Result ℕ ReplicaFault) : Type 0 where
  pub up : IsUp r'
  pub sup : r'.sup ≡ r.sup
  pub loose : OnOk result ((is_stuck r ≡ false) × (is_stuck r' ≡ false))
  pub flushed : DiskTells → (s : Stored) → physical.Stands files r s →
      IfOk result (λ n. (n + s.records ≡ length s.cells) × physical.Stands files r' (physical.all_recorded s))
  pub refused : DiskTells → (s : Stored) → physical.Stands files r s → OnErr result (physical.Stands files r' s)
  pub run : DiskTells → (s : Stored) (run : Option Run) → physical.Stands files r s → HasRun files r s run →
      OnOk result (HasRun files r' (physical.all_recorded s) run)
  pub run_stays : DiskTells → (s : Stored) (run : Option Run) → physical.Stands files r s → HasRun files r s run → OnErr result (HasRun files r' s run)
  pub cause : IfErr result (IsFlushFault faults r r')
  pub not_stuck : (result ≡ Err fault.Frozen → ⊥) → is_stuck r ≡ false
  pub tried : IfErr result (λ refused. (printed : ℕ) → refused ≡ fault.Failed printed → 0 < bare_of r)
  pub reach : StaysInReach DiskTells files r r'
  pub head : DiskTells → KeepsHead files r r'

-- one replica was called, and the others are as they were
pub record CallsOne {D : Type 0} (at : ℕ) (old new : List (Copy D)) : Type 0 where
  pub before : Copy D
  pub after : Copy D
  pub was : At old at before
  pub is : new ≡ slice_set old at after

-- FUSES

pub record FusesAt {D : Type 0} (DiskTells : Type 0) (files : D → Files) (faults fuses : D → ℕ) (r r' : Copy D) : Type 0 where
  pub same : r' ≡ record r { disk = r'.disk }
  pub stands : DiskTells → (s : Stored) → physical.Stands files r s → physical.Stands files r' s
  pub holds : DiskTells → (stuck : Bool) (s t : Stored) → physical.Holds files r stuck s t → physical.Holds files r' stuck s t
  pub run : DiskTells → (s : Stored) (run : Option Run) → HasRun files r s run → HasRun files r' s run
  pub reach : StaysInReach DiskTells files r r'
  pub same_files : DiskTells → files r'.disk ≡ files r.disk
  pub same_faults : faults r'.disk ≡ faults r.disk
  pub next : IsNext (fuses r.disk) (fuses r'.disk)

-- STOPS

pub record Stops {D : Type 0} (DiskTells : Type 0) (files : D → Files) (faults fuses : D → ℕ) (r r' : Copy D) : Type 0 where
  pub closed : r'.phase ≡ Closed
  pub sup : r'.sup ≡ r.sup
  pub idle : DiskTells → physical.IsIdleCopy files r'
  pub left : DiskTells → MayLeave (files r.disk) (contents_of files r'.disk)
  pub stood : DiskTells → (s : Stored) → physical.Stands files r s → physical.Holds files r' (is_stuck r) s s
  pub holds : DiskTells → (stuck : Bool) (s t : Stored) → physical.Holds files r stuck s t → physical.Holds files r' stuck s t
  pub same_faults : faults r'.disk ≡ faults r.disk
  pub same_fuses : fuses r'.disk ≡ fuses r.disk

-- COMPACTIONS

-- The replica takes changes still, and stands for what it stood for. Of a compaction nothing is said.
pub record GoesOn {D : Type 0} (DiskTells : Type 0) (files : D → Files) (r r' : Copy D) : Type 0 where
  pub up : IsUp r'
  pub sup : r'.sup ≡ r.sup
  pub stuck : is_stuck r' ≡ is_stuck r
  pub stands : DiskTells → (s : Stored) → physical.Stands files r s → physical.Stands files r' s
  pub reach : StaysInReach DiskTells files r r'
  pub head : DiskTells → KeepsHead files r r'

-- the latest place of a pair, deleted or not, as a compaction asks for it
abbrev pub latest_of : {P : Type 0} → Place P → Option ℕ
latest_of (place.Live needle) = Some needle.at
latest_of place.None = None
latest_of place.Gone = None
latest_of (place.Unseen at size) = Some at

abbrev pub stepped_by : ℕ → Run → Run
stepped_by n run = record run { left = run.left - n }

abbrev pub IsBeginFault : {D : Type 0} → (D → ℕ) → Copy D → Copy D → ReplicaFault → Type 0
IsBeginFault faults r r' (fault.Failed printed) =
    Rose (faults r.disk) (faults r'.disk) × (printed ≡ faults r'.disk) × (goal_of r ≡ None) × (generation_of r < LAST_GENERATION)
IsBeginFault faults r r' fault.Frozen = ⊥
IsBeginFault faults r r' (fault.Full end need capacity) = ⊥
IsBeginFault faults r r' (fault.Busy goal) = (goal_of r ≡ Some goal) × (r' ≡ r)
IsBeginFault faults r r' (fault.Ended printed) = ⊥
IsBeginFault faults r r' fault.Worn = (goal_of r ≡ None) × (generation_of r ≡ LAST_GENERATION) × (r' ≡ r)
IsBeginFault faults r r' (fault.Damaged at) = ⊥
IsBeginFault faults r r' fault.NoMemory = CanBegin (replica_seen r)

pub record BeginsAt {D : Type 0} (DiskTells : Type 0) (files : D → Files) (faults : D → ℕ) (r r' : Copy D) (result : Result ℕ ReplicaFault) : Type 0 where
  pub on : GoesOn DiskTells files r r'
  pub rest : OnOk result (CanBegin (replica_seen r))
  pub goal : IfOk result (λ goal. goal_of r' ≡ Some goal)
  pub begun : DiskTells → (s : Stored) → physical.Stands files r s →
      IfOk result (λ goal. (goal ≡ s.generation + 1) × HasRun files r' s (Some (record { goal = goal; left = length s.cells; tight = true })))
  pub last : DiskTells → (s : Stored) → physical.Stands files r s → result ≡ Err fault.Worn → s.generation ≡ LAST_GENERATION
  pub kept : OnErr result (goal_of r' ≡ goal_of r)
  pub cause : IfErr result (IsBeginFault faults r r')

-- why fewer than so many cells were examined; damage ends the compaction where it was met
abbrev pub IsStepFault : {D : Type 0} → (D → ℕ) → ℕ → Copy D → Copy D → ReplicaFault → Type 0
IsStepFault faults cells r r' (fault.Failed printed) = Rose (faults r.disk) (faults r'.disk) × (printed ≡ faults r'.disk) × (goal_of r' ≡ None)
IsStepFault faults cells r r' fault.Frozen = ⊥
IsStepFault faults cells r r' (fault.Full end need capacity) = ⊥
IsStepFault faults cells r r' (fault.Busy generation) = ⊥
IsStepFault faults cells r r' (fault.Ended printed) = ⊥
IsStepFault faults cells r r' fault.Worn = ⊥
IsStepFault faults cells r r' (fault.Damaged at) = (goal_of r' ≡ None) × MeetsDamage cells at (replica_seen r)
IsStepFault faults cells r r' fault.NoMemory = goal_of r' ≡ goal_of r

-- what want of memory leaves of so many cells to examine
pub record SteppedPart {D : Type 0} (files : D → Files) (r' : Copy D) (s : Stored) (run : Run) (cells : ℕ) : Type 0 where
  pub number : ℕ
  pub within : number ≤ min (cells - 1) run.left
  pub has : HasRun files r' s (Some (stepped_by number run))

abbrev pub StepLeaves : {D : Type 0} → (D → Files) → Copy D → Stored → Run → ℕ → ReplicaFault → Type 0
StepLeaves files r' s run cells (fault.Failed printed) = Unit {0}
StepLeaves files r' s run cells fault.Frozen = Unit {0}
StepLeaves files r' s run cells (fault.Full end need capacity) = Unit {0}
StepLeaves files r' s run cells (fault.Busy generation) = Unit {0}
StepLeaves files r' s run cells (fault.Ended printed) = Unit {0}
StepLeaves files r' s run cells fault.Worn = Unit {0}
StepLeaves files r' s run cells (fault.Damaged at) = ⊥
StepLeaves files r' s run cells fault.NoMemory = SteppedPart files r' s run cells

-- So many cells are examined, or all that are left.
pub record StepsAt {D P : Type 0} (DiskTells : Type 0) (files : D → Files) (faults : D → ℕ) (Tells : Type 0) (rows : MapRows P) (at cells : ℕ) (r r' : Copy D)
    (result : Result ℕ ReplicaFault) : Type 0 where
  pub on : GoesOn DiskTells files r r'
  pub goal : OnOk result (goal_of r' ≡ goal_of r)
  pub stepped : DiskTells → (s : Stored) (run : Run) → physical.Stands files r s → HasRun files r s (Some run) → PlacesAre Tells rows at s →
      IfOk result (λ n. (n ≡ min cells run.left) × HasRun files r' s (Some (stepped_by n run)))
  pub refused : DiskTells → (s : Stored) (run : Run) → physical.Stands files r s → HasRun files r s (Some run) → PlacesAre Tells rows at s →
      IfErr result (StepLeaves files r' s run cells)
  pub cause : IfErr result (IsStepFault faults cells r r')

-- one cell is examined, if one is left
pub record ExaminesAt {D P : Type 0} (DiskTells : Type 0) (files : D → Files) (faults : D → ℕ) (Tells : Type 0) (rows : MapRows P) (at : ℕ) (r r' : Copy D)
    (result : Result Bool ReplicaFault) : Type 0 where
  pub on : GoesOn DiskTells files r r'
  pub goal : OnOk result (goal_of r' ≡ goal_of r)
  pub examined : DiskTells → (s : Stored) (run : Run) → physical.Stands files r s → HasRun files r s (Some run) → PlacesAre Tells rows at s →
      IfOk result (λ more. (more ≡ true → (1 ≤ run.left) × HasRun files r' s (Some (stepped_by 1 run))) × (more ≡ false → (run.left ≡ 0) × HasRun files r' s (Some run)))
  pub refused : DiskTells → (s : Stored) (run : Run) → physical.Stands files r s → HasRun files r s (Some run) → PlacesAre Tells rows at s →
      IfErr result (StepLeaves files r' s run 0)
  pub cause : IfErr result (IsStepFault faults 1 r r')

-- SWAPS

-- the place of a photo in new files, where the current ones have this one
abbrev pub still_gone : {P : Type 0} → Place P → Place P → Place P
still_gone place.Gone there = place.Gone
still_gone place.None there = there
still_gone (place.Live needle) there = there
still_gone (place.Unseen at size) there = there

-- a cell of new files of this replica
abbrev pub still_gone_cell : {P : Type 0} → MapRows P → ℕ → OpenCell P → OpenCell P
still_gone_cell rows at cell = record cell { place = still_gone (place_in (row_at rows cell.pair) at) cell.place }

-- What a call finds that ends a compaction: none, one, or one whose cells are all examined.
pub data Start : Type 0 where
  Fresh Going Examined : Start

abbrev pub StartsRun : {D : Type 0} → (D → Files) → Start → Copy D → Stored → Run → Type 0
StartsRun files Fresh r s run = HasRun files r s None × (run ≡ record { goal = s.generation + 1; left = length s.cells; tight = true })
StartsRun files Going r s run = HasRun files r s (Some run)
StartsRun files Examined r s run = HasRun files r s (Some run) × (run.left ≡ 0)

-- a fresh one could begin
abbrev pub WasAtRest : {D : Type 0} → Start → Copy D → Type 0
WasAtRest Fresh r = CanBegin (replica_seen r)
WasAtRest Going r = Unit {0}
WasAtRest Examined r = Unit {0}

-- Where one of these met damage: a fresh one begins with the first cell, and one whose cells are all examined meets none.
abbrev pub MeetsDamageBy : Start → ℕ → ReplicaSeen → Type 0
MeetsDamageBy Fresh place r = MeetsDamageLeft place (begun r)
MeetsDamageBy Going place r = MeetsDamageLeft place r
MeetsDamageBy Examined place r = ⊥

-- The replica takes changes, or its volume has to be frozen. No compaction stands.
abbrev pub IsLeftBy : {D : Type 0} → (D → ℕ) → Start → Copy D → Copy D → Unswapped → Type 0
IsLeftBy faults start r r' (Refused (fault.Failed printed)) =
    IsUp r' × (goal_of r' ≡ None) × WasAtRest start r × Rose (faults r.disk) (faults r'.disk) × (printed ≡ faults r'.disk)
IsLeftBy faults start r r' (Refused (fault.Damaged at)) = IsUp r' × (goal_of r' ≡ None) × WasAtRest start r × MeetsDamageBy start at (replica_seen r)
IsLeftBy faults start r r' (Refused fault.NoMemory) = IsUp r' × (goal_of r' ≡ None) × WasAtRest start r
IsLeftBy faults start r r' (Refused (fault.Busy goal)) = (start ≡ Fresh) × (goal_of r ≡ Some goal) × (r' ≡ r)
IsLeftBy faults start r r' (Refused fault.Worn) = (start ≡ Fresh) × (goal_of r ≡ None) × (generation_of r ≡ LAST_GENERATION) × (r' ≡ r)
IsLeftBy faults start r r' (Refused fault.Frozen) = ⊥
IsLeftBy faults start r r' (Refused (fault.Full end need capacity)) = ⊥
IsLeftBy faults start r r' (Refused (fault.Ended printed)) = ⊥
IsLeftBy faults start r r' (Unsure printed) =
    IsFrozen r' × (goal_of r' ≡ None) × WasAtRest start r × Rose (faults r.disk) (faults r'.disk) × (printed ≡ faults r'.disk)

-- A swap was made, and these are the cells behind it.
pub record SwapsTo (s t : Stored) (run : Run) : Type 0 where
  pub swaps : Swaps s t
  pub tight : IsTight run s t
  pub ends : t.end ≡ cells_end_of t.cells

abbrev pub HoldsUnswapped : {D : Type 0} → (D → Files) → Copy D → Copy D → Stored → Run → Unswapped → Type 0
HoldsUnswapped files r r' s run (Refused (fault.Failed printed)) = physical.Stands files r' s × (is_stuck r' ≡ is_stuck r)
HoldsUnswapped files r r' s run (Refused fault.Frozen) = physical.Stands files r' s × (is_stuck r' ≡ is_stuck r)
HoldsUnswapped files r r' s run (Refused (fault.Full end need capacity)) = physical.Stands files r' s × (is_stuck r' ≡ is_stuck r)
HoldsUnswapped files r r' s run (Refused (fault.Busy goal)) = physical.Stands files r' s × (is_stuck r' ≡ is_stuck r)
HoldsUnswapped files r r' s run (Refused (fault.Ended printed)) = physical.Stands files r' s × (is_stuck r' ≡ is_stuck r)
HoldsUnswapped files r r' s run (Refused fault.Worn) = s.generation ≡ LAST_GENERATION
HoldsUnswapped files r r' s run (Refused (fault.Damaged at)) = ⊥
HoldsUnswapped files r r' s run (Refused fault.NoMemory) = physical.Stands files r' s × (is_stuck r' ≡ is_stuck r)
HoldsUnswapped files r r' s run (Unsure printed) = (t : Stored) × Swaps s t × physical.Holds files r' (is_stuck r) s t

-- A replica whose current files are those of its compaction.
pub record Swapped {D P : Type 0} (files : D → Files) (Tells : Type 0) (rows' : MapRows P) (at : ℕ) (r' : Copy D) (s : Stored) (run : Run) (generation : ℕ) : Type 0 where
  pub stored : Stored
  pub to : SwapsTo s stored run
  pub stands : physical.Stands files r' stored
  pub places : PlacesAre Tells rows' at stored
  pub generation_is : generation ≡ stored.generation

-- The compaction ended with a swap of the files, or nothing of the replica's photos has changed.
pub record SwapsAt {D P : Type 0} (DiskTells : Type 0) (files : D → Files) (faults : D → ℕ) (Tells : Type 0) (start : Start) (rows rows' : MapRows P) (at : ℕ) (r r' : Copy D)
    (result : Result (NewFiles P) Unswapped) : Type 0 where
  pub «open» : IsOpenCopy r'
  pub sup : r'.sup ≡ r.sup
  pub up : OnOk result (IsUp r' × (is_stuck r' ≡ false) × (goal_of r' ≡ None) × WasAtRest start r)
  pub left : IfErr result (IsLeftBy faults start r r')
  pub swapped : DiskTells → (s : Stored) (run : Run) → physical.Stands files r s → StartsRun files start r s run → PlacesAre Tells rows at s →
      IfOk result (λ new. Swapped files Tells rows' at r' s run new.generation)
  pub removed : DiskTells → (s : Stored) → physical.Stands files r s →
      OnOk result (RemovedBoth (files r'.disk) (volume_file s.generation) (index_file s.generation) (faults r.disk) (faults r'.disk))
  pub sizes : DiskTells → IfOk result (λ new. HasSizes files r' new.end new.count)
  pub refused : DiskTells → (s : Stored) (run : Run) → physical.Stands files r s → StartsRun files start r s run → PlacesAre Tells rows at s →
      IfErr result (HoldsUnswapped files r r' s run)
  pub still : OnErr result (is_stuck r' ≡ is_stuck r)
  pub reach : DiskTells → ReachesPlaces files Tells rows at r → ReachesPlaces files Tells rows' at r'
  pub head : DiskTells → OnErr result (IsUp r' → KeepsHead files r r')

-- the places of the replica moved to its new cells, those of the other replicas stay, and all rows behind a refusal
pub record KeepsPlaces {P : Type 0} (rows rows' : MapRows P) (at : ℕ) (result : Result (NewFiles P) Unswapped) : Type 0 where
  pub moved : IfOk result (λ new. ChangesRows (op.Swap at new.cells) rows rows')
  pub sights : IfOk result (λ new. (replicas : List ReplicaSeen) → ((r : ReplicaSeen) → At replicas at r → r.end ≡ new.end) →
      SwapsSights at replicas (sights_of rows) (sights_of rows'))
  pub width : rows'.replicas ≡ rows.replicas
  pub others : (pair : Pair) (i : ℕ) → (i ≡ at → ⊥) → place_in (row_at rows' pair) i ≡ place_in (row_at rows pair) i
  pub same : OnErr result (rows' ≡ rows)

-- A replica was called so, and where it takes no changes then, the compactions of the others ended.
pub record SwapsOne {D : Type 0} (DiskTells : Type 0) (files : D → Files) (at : ℕ) (old new : List (Copy D)) : Type 0 where
  pub before : Copy D
  pub after : Copy D
  pub was : At old at before
  pub is : At new at after
  pub count : length new ≡ length old
  pub others : (j : ℕ) (r r' : Copy D) → (j ≡ at → ⊥) → At old j r → At new j r' → LosesRun DiskTells files r r' × (IsUp after → r' ≡ r)
  pub idle : IsFrozen after → AllIdle new

-- OPENINGS

pub record OpensAt {D P : Type 0} (DiskTells : Type 0) (files : D → Files) (Tells : Type 0) (rows : MapRows P) (j : ℕ) (r r' : Copy D) : Type 0 where
  pub up : IsUp r'
  pub sup : r'.sup ≡ r.sup
  pub loose : is_stuck r' ≡ false
  pub alone : goal_of r' ≡ None
  pub most : generation_of r' ≤ LAST_GENERATION
  pub from : 64 + bare_of r' * needle_total 0 ≤ end_of r'
  pub within : LiesWithinAt j (end_of r') (sights_of rows)
  pub undamaged : DiskTells → (file at : ℕ) → IsOpeningDamage r.sup (contents_of files r.disk) file at → ⊥
  pub undamaged_now : DiskTells → (file at : ℕ) → IsOpeningDamage r.sup (contents_of files r'.disk) file at → ⊥
  pub formatted : DiskTells → contents_of files r'.disk 0 ≡ [] → ⊥
  pub opened : DiskTells → (s : Stored) → OpensAs r.sup (contents_of files r.disk) s → physical.Stands files r' s × PlacesAre Tells rows j s
  pub reopened : DiskTells → (stuck : Bool) (s t : Stored) → physical.Holds files r stuck s t → (found : Stored)
      × (physical.IsLike stuck s found ⊎ physical.IsLike stuck t found) × physical.Stands files r' found × PlacesAre Tells rows j found
  pub reach : DiskTells → ReachesPlaces files Tells rows j r'
  pub found : DiskTells → (s : Stored) → OpensAs r.sup (contents_of files r.disk) s → AreSightsOf s (sights_of rows) j
  pub live : DiskTells → HasLiveNeedles (sights_of rows) j (volume_bytes files r')
  pub read : DiskTells → IsReadAs r'.sup (contents_of files r'.disk) (replica_seen r') (λ pair. sights_of rows pair j)

-- what an opening that was refused has left of a replica
pub record LeftAt {D : Type 0} (DiskTells : Type 0) (files : D → Files) (r r' : Copy D) : Type 0 where
  pub sup : r'.sup ≡ r.sup
  pub holds : DiskTells → (stuck : Bool) (s t : Stored) → physical.Holds files r stuck s t → physical.Holds files r' stuck s t

-- A disk that is not void keeps its bytes, and all of it stays on the disk. Whatever a stop leaves of one that is void, an
-- opening of it finds nothing, by whatever superblock.
pub record KeepsDisk {D : Type 0} (files : D → Files) (r r' : Copy D) : Type 0 where
  pub kept : (IsVoid (contents_of files r.disk) → ⊥) → (n : ℕ) → ((files r'.disk n).now ≡ (files r.disk n).now) × IsSolid (files r'.disk n)
  pub nothing : IsVoid (contents_of files r.disk) → (image : ℕ → List ℕ) → MayLeave (files r'.disk) image →
      (other : Super) (s : Stored) → OpensAs other image s → s ≡ fresh_stored

-- why replica j was not opened
abbrev pub IsOpenFault : {D : Type 0} → Type 0 → (D → Files) → (D → ℕ) → Copy D → Copy D → OpenFault → Type 0
IsOpenFault DiskTells files faults r r' (open_fault.Failed printed) = Rose (faults r.disk) (faults r'.disk) × (printed ≡ faults r'.disk)
IsOpenFault DiskTells files faults r r' (open_fault.Damaged file at) =
    (DiskTells → IsOpeningDamage r.sup (contents_of files r.disk) file at)
    × (DiskTells → (s : Stored) → OpensAs r.sup (contents_of files r.disk) s → ⊥)
    × (DiskTells → (stuck : Bool) (s t : Stored) → physical.Holds files r stuck s t → ⊥)
    × IsReplicaFile file
IsOpenFault DiskTells files faults r r' open_fault.NoMemory = Unit {0}

-- Of the replicas before it nothing that was read was damaged, and what stands there now is neither damaged nor void.
pub record IsRefusedAt {D : Type 0} (DiskTells : Type 0) (files : D → Files) (faults : D → ℕ) (old new : List (Copy D)) (refusal : Unopened) : Type 0 where
  pub before : Copy D
  pub after : Copy D
  pub was : At old refusal.replica before
  pub is : At new refusal.replica after
  pub cause : IsOpenFault DiskTells files faults before after refusal.fault
  pub earlier : DiskTells → (i : ℕ) (r r' : Copy D) → i < refusal.replica → At old i r → At new i r' →
      ((file at : ℕ) → IsOpeningDamage r.sup (contents_of files r.disk) file at → ⊥)
      × ((file at : ℕ) → IsOpeningDamage r.sup (contents_of files r'.disk) file at → ⊥)
      × (contents_of files r'.disk 0 ≡ [] → ⊥)

-- LOOKS OF AN OPENING

-- Looks at places of a replica have changed nothing that it stands for.
pub record LooksAt {D P : Type 0} (DiskTells : Type 0) (files : D → Files) (Tells : Type 0) (rows rows' : MapRows P) (j : ℕ) (r r' : Copy D) : Type 0 where
  pub copy : r' ≡ record r { disk = r'.disk }
  pub stands : DiskTells → (s : Stored) → physical.Stands files r s → PlacesAre Tells rows j s → physical.Stands files r' s × PlacesAre Tells rows' j s
  pub holds : DiskTells → (stuck : Bool) (s t : Stored) → physical.Holds files r stuck s t → physical.Holds files r' stuck s t
  pub keeps : DiskTells → KeepsBytes (files r.disk) (files r'.disk)
  pub reach : DiskTells → ReachesPlaces files Tells rows j r → ReachesPlaces files Tells rows' j r'
  pub within : (end : ℕ) → LiesWithinAt j end (sights_of rows) → LiesWithinAt j end (sights_of rows')
  pub looks : (pair : Pair) → Looks (sights_of rows pair j) (sights_of rows' pair j)
  pub told : DiskTells → (pair : Pair) → IsToldBy (volume_bytes files r) (sights_of rows pair j) (sights_of rows' pair j)

-- A needle that is damaged ends no opening.
abbrev pub IsLookFault : ℕ → ℕ → OpenFault → Type 0
IsLookFault before after (open_fault.Failed printed) = Rose before after × (printed ≡ after)
IsLookFault before after (open_fault.Damaged file at) = ⊥
IsLookFault before after open_fault.NoMemory = Unit {0}

-- a look at this replica ended the opening
pub record IsUnseenAt {D : Type 0} (faults : D → ℕ) (old new : List (Copy D)) (refusal : Unopened) : Type 0 where
  pub before : Copy D
  pub after : Copy D
  pub was : At old refusal.replica before
  pub is : At new refusal.replica after
  pub cause : IsLookFault (faults before.disk) (faults after.disk) refusal.fault
