-- Which replies a command may have, and what the store stands at behind each.
use Rattle.std.specs.Prelude.{◌≡◌, ◌≢◌, ℕ, ◌+◌, ◌-◌, ◌^◌, ◌<◌, ◌≤◌, ◌==◌, ◌⊎◌, min, not, Bool, true, false, List, [], ◌∷◌, ◌++◌, length, map, take_while, count_by, slice_get}
use Rattle.std.specs.Prelude.{slice_set, ◌%◌, Option, Some, None, option_map}
use Rattle.std.specs.List.{AllZip, list_any}
use Rattle.hay_needle.specs.declared.needle.Pair.{Pair}
use Rattle.hay_needle.specs.declared.needle.Cookie.{Cookie}
use Rattle.hay_needle.specs.declared.needle.Outcome.{Outcome}
use Rattle.hay_needle.specs.declared.needle.Outcome.TheVariants as outcome
use Rattle.hay_needle.specs.declared.settings.Settings.{Settings}
use Rattle.hay_url.specs.declared.Url.{Url as UrlParts}
use Rattle.hay_url.specs.Url.{cookie_of}
use Rattle.hay_script.specs.declared.Command.{Command}
use Rattle.hay_script.specs.declared.Command.TheVariants as command
use Rattle.hay_reply.specs.declared.Refused.{Refused}
use Rattle.hay_reply.specs.declared.Refused.TheVariants.{NoRoom, Closed}
use Rattle.hay_reply.specs.declared.ClosedBy.{ClosedBy}
use Rattle.hay_reply.specs.declared.Cause.{Cause}
use Rattle.hay_reply.specs.declared.Cause.TheVariants.{Arm, Disk, Damage}
use Rattle.hay_reply.specs.declared.Passed.{Passed}
use Rattle.hay_reply.specs.declared.Reply.{Reply}
use Rattle.hay_reply.specs.declared.Reply.TheVariants.{Stored, Deleted, Photo, Gone, Absent, WrongCookie, Unknown, Moved, Url, Full, ReadOnly, ReadOnlyDir, Failed, FailedDir}
use Rattle.hay_reply.specs.declared.Reply.TheVariants.{Unreadable, Flushed, Begun, Stepped, Compacted, Busy, Idle, Worn, Drained, Undrained, Fused, FusedDir, Nowhere, BadLine}
use Rattle.hay_reply.specs.declared.Reply.TheVariants.{NoMem}
use Rattle.hay_core.specs.declared.entry.Entry.{Entry}
use Rattle.hay_core.specs.declared.entry.Entry.TheVariants as entry
use Rattle.hay_core.specs.declared.entry.CoreTag.{CoreTag}
use Rattle.hay_needle.specs.Tables.{outcome_at, live_end}
use Rattle.hay_needle.specs.Sizes.{needle_total}
use Rattle.hay_needle.specs.declared.settings.TheConstants.{LAST_GENERATION}
use Rattle.hay_disk.specs.Counts.{Rose, IsNext}
use Rattle.hay_legal.specs.Known.{stands}
use Rattle.hay_legal.specs.declared.known.Run.{Run}
use Rattle.hay_legal.specs.declared.known.ReplicaKnown.{ReplicaKnown}
use Rattle.hay_legal.specs.declared.known.VolumeKnown.{VolumeKnown}
use Rattle.hay_legal.specs.declared.known.Known.{Known}
use Rattle.hay_legal.specs.declared.turn.Item.{Item}
use Rattle.hay_legal.specs.declared.turn.Item.TheVariants as item
use Rattle.hay_legal.specs.Known.{volume_at, replica_at, with_volume, with_replica, machine_of, slot_of, replicas_of, replica_on, home_of, tries_of, with_home, now, closed}
use Rattle.hay_legal.specs.Known.{refusal_of, taker_of, has_risen, fault_count, arm_count, fuse_count, CameUp, Leaves, EachPair}

-- CHANGES OF A VOLUME

abbrev pub run_grown : Run → Run
run_grown run = record run { left = run.left + 1 }

-- a replica with one cell more, which has no record yet
abbrev pub grown : ℕ → ReplicaKnown → ReplicaKnown
grown size replica = record replica { end = replica.end + needle_total size; cells = replica.cells + 1; bare = replica.bare + 1; run = option_map run_grown replica.run }

abbrev pub logged : VolumeKnown → CoreTag → Entry → VolumeKnown
logged volume tag entry = record volume { log = volume.log ++ record { tag = tag; entry = entry } ∷ [] }

abbrev pub with_put : VolumeKnown → CoreTag → Pair → Cookie → List ℕ → VolumeKnown
with_put volume tag pair cookie bytes =
    record (logged volume tag (entry.Put pair cookie bytes)) { replicas = map (grown (length bytes)) volume.replicas }

abbrev pub without_run : ReplicaKnown → ReplicaKnown
without_run replica = record replica { run = None }

-- a frozen volume has no run
abbrev pub frozen_by : ℕ → VolumeKnown → VolumeKnown
frozen_by m volume = record volume { frozen = Some m; replicas = map without_run volume.replicas }

abbrev pub frozen_with : ℕ → CoreTag → Entry → Bool → VolumeKnown → VolumeKnown
frozen_with m tag entry failed volume = record (frozen_by m volume) { pending = Some (record { tag = tag; entry = entry; failed = failed }) }

abbrev pub change_replica : Known → ℕ → ℕ → (ReplicaKnown → ReplicaKnown) → Known
change_replica k v j change = with_volume k v (with_replica (volume_at k v) j (change (replica_at (volume_at k v) j)))

abbrev pub change_volume : Known → ℕ → (VolumeKnown → VolumeKnown) → Known
change_volume k v change = with_volume k v (change (volume_at k v))

-- a volume that is not frozen
abbrev pub IsOpen : Known → ℕ → Type 0
IsOpen k v = (volume_at k v).frozen ≡ None

-- PUT

-- a new row could be written, or none is missing
abbrev pub DirectoryOpen : Known → Pair → Type 0
DirectoryOpen k pair = (home_of k pair ≡ None → k.directory.frozen ≡ false)

abbrev pub put_entry : Settings → Pair → List ℕ → Entry
put_entry settings pair bytes = entry.Put pair (cookie_of settings.secret pair.key) bytes

-- the photo was stored
pub record IsStored (settings : Settings) (k : Known) (tag : CoreTag) (pair : Pair) (bytes : List ℕ) (v p d : ℕ) (c : Cookie) (t : Known) : Type 0 where
  pub taker : taker_of settings k pair (length bytes) ≡ Some v
  pub directory : DirectoryOpen k pair
  pub own : c ≡ cookie_of settings.secret pair.key
  pub position : p ≡ length (volume_at k v).log + 1
  pub rows : d ≡ length t.directory.rows
  pub leaves : Leaves k (with_home (change_volume k v (λ volume. with_put volume tag pair c bytes)) pair v) t

-- each try refuses, and these are the refusals
abbrev pub RefusedBy : Settings → Known → Pair → List ℕ → List Refused → Type 0
RefusedBy settings k pair bytes refused =
    map (refusal_of settings k (length bytes)) (tries_of settings k pair) ≡ map Some refused

abbrev pub wants_room : Refused → Bool
wants_room (NoRoom v m end need) = true
wants_room (Closed v m) = false

abbrev pub as_closed : ClosedBy → Refused
as_closed closed = Closed closed.volume closed.machine

-- a put changed a volume, or perhaps made a change on it, and it is frozen by this machine
abbrev pub put_frozen : Settings → Known → CoreTag → Pair → List ℕ → ℕ → ℕ → Bool → Known
put_frozen settings k tag pair bytes v m failed =
    with_home (change_volume k v (frozen_with m tag (put_entry settings pair bytes) failed)) pair v

abbrev pub row_pending : Known → CoreTag → Pair → ℕ → Known
row_pending k tag pair v =
    record k { directory = record k.directory { frozen = true; pending = Some (record { tag = tag; row = record { pair = pair; volume = v } }) } }

-- the count of a replica's disk rose in this command, to f
pub record RoseTo (settings : Settings) (k : Known) (v j f : ℕ) (t : Known) : Type 0 where
  pub count : fault_count t (slot_of settings v j) ≡ f
  pub rose : Rose (fault_count k (slot_of settings v j)) f

pub record PutFailed (settings : Settings) (k : Known) (tag : CoreTag) (pair : Pair) (bytes : List ℕ) (v m f : ℕ) (t : Known) : Type 0 where
  pub taker : taker_of settings k pair (length bytes) ≡ Some v
  pub directory : DirectoryOpen k pair
  pub replica : ℕ
  pub there : replica_on settings v m ≡ Some replica
  pub rose : RoseTo settings k v replica f t
  pub leaves : Leaves k (put_frozen settings k tag pair bytes v m true) t

-- a row is missing, and a volume would take the photo
pub record NeedsRow (settings : Settings) (k : Known) (pair : Pair) (bytes : List ℕ) : Type 0 where
  pub volume : ℕ
  pub missing : home_of k pair ≡ None
  pub taker : taker_of settings k pair (length bytes) ≡ Some volume

pub record RowFailed (settings : Settings) (k : Known) (tag : CoreTag) (pair : Pair) (bytes : List ℕ) (f : ℕ) (t : Known) : Type 0 where
  pub needs : NeedsRow settings k pair bytes
  pub before : k.directory.frozen ≡ false
  pub count : fault_count t 0 ≡ f
  pub rose : Rose (fault_count k 0) f
  pub leaves : Leaves k (row_pending k tag pair needs.volume) t

-- where a volume is frozen for want of memory, it is so by replica 0's machine
abbrev pub first_machine : Settings → ℕ → ℕ
first_machine settings v = machine_of settings v 0

-- what want of memory may leave of a put: nothing; its row; its row pending; its volume frozen
abbrev pub PutNoMem : Settings → Known → CoreTag → Pair → List ℕ → Known → Type 0
PutNoMem settings k tag pair bytes t =
    Leaves k k t
    ⊎ ((v : ℕ) × (taker_of settings k pair (length bytes) ≡ Some v) × DirectoryOpen k pair
    × (Leaves k (with_home k pair v) t
    ⊎ ((home_of k pair ≡ None) × Leaves k (row_pending k tag pair v) t)
    ⊎ Leaves k (put_frozen settings k tag pair bytes v (first_machine settings v) false) t))

abbrev pub LegalPut : Settings → Known → CoreTag → Pair → List ℕ → Reply → Known → Type 0
LegalPut settings k tag pair bytes (Stored v p d c) t = IsStored settings k tag pair bytes v p d c t
LegalPut settings k tag pair bytes (Full refused) t =
    RefusedBy settings k pair bytes refused × (list_any wants_room refused ≡ true) × Leaves k k t
LegalPut settings k tag pair bytes (ReadOnly closed) t = RefusedBy settings k pair bytes (map as_closed closed) × Leaves k k t
LegalPut settings k tag pair bytes ReadOnlyDir t =
    NeedsRow settings k pair bytes × (k.directory.frozen ≡ true) × Leaves k k t
LegalPut settings k tag pair bytes (Failed v m f) t = PutFailed settings k tag pair bytes v m f t
LegalPut settings k tag pair bytes (FailedDir f) t = RowFailed settings k tag pair bytes f t
LegalPut settings k tag pair bytes NoMem t = PutNoMem settings k tag pair bytes t
LegalPut settings k tag pair bytes _ t = ⊥

-- READ AND GET

-- the order in which a reader tries the replicas
abbrev pub order_from : Settings → ℕ → List ℕ
order_from settings start = map (λ i. (start + i) % settings.replicas) (replicas_of settings)

-- A volume was seen at the present fronts.
pub record IsSeen (k : Known) (pair : Pair) (v p d : ℕ) : Type 0 where
  pub home : home_of k pair ≡ Some v
  pub front : p ≡ length (volume_at k v).log
  pub rows : d ≡ length k.directory.rows

abbrev pub disk_rose : Settings → Known → Known → ℕ → ℕ → Bool
disk_rose settings k t v j = has_risen (fault_count k (slot_of settings v j)) (fault_count t (slot_of settings v j))

-- Each replica that was tried before this one failed on its disk or at the lane's arm.
abbrev pub PassedReplicas : Settings → Known → Known → CoreTag → ℕ → ℕ → ℕ → Type 0
PassedReplicas settings k t tag v start j =
    (arm_count k tag.lane + count_by (λ i. not (disk_rose settings k t v i)) (take_while (λ i. not (i == j)) (order_from settings start)) ≤ arm_count t tag.lane)
    ⊎ (arm_count t tag.lane ≡ 2 ^ 64 - 1)

-- The replica on this machine showed what stands at the pair.
pub record IsShown (settings : Settings) (k : Known) (tag : CoreTag) (start : ℕ) (pair : Pair) (v m p d : ℕ) (shown : Outcome) (t : Known) : Type 0 where
  pub seen : IsSeen k pair v p d
  pub replica : ℕ
  pub there : replica_on settings v m ≡ Some replica
  pub stands : outcome_at (now (volume_at k v) (replica_at (volume_at k v) replica)) pair ≡ shown
  pub passed : PassedReplicas settings k t tag v start replica
  pub leaves : Leaves k k t

-- why a replica was passed over
abbrev pub HasCause : Settings → Known → Known → CoreTag → ℕ → ℕ → Cause → Type 0
HasCause settings k t tag v j (Arm f) = CameUp (arm_count k tag.lane) f (arm_count t tag.lane)
HasCause settings k t tag v j (Disk f) = CameUp (fault_count k (slot_of settings v j)) f (fault_count t (slot_of settings v j))
HasCause settings k t tag v j (Damage at) = ⊥

-- counts of one arm rise
abbrev pub ArmRises : Cause → Cause → Type 0
ArmRises (Arm f) (Arm g) = (f < g) ⊎ (g ≡ 2 ^ 64 - 1)
ArmRises (Arm f) (Disk g) = Unit {0}
ArmRises (Arm f) (Damage at) = Unit {0}
ArmRises (Disk f) cause = Unit {0}
ArmRises (Damage at) cause = Unit {0}

-- Every replica was passed over, each with its cause.
pub record IsUnreadable (settings : Settings) (k : Known) (tag : CoreTag) (start : ℕ) (pair : Pair) (v p d : ℕ) (causes : List Passed) (t : Known) : Type 0 where
  pub seen : IsSeen k pair v p d
  pub each : AllZip (λ j passed. (passed.machine ≡ machine_of settings v j) × HasCause settings k t tag v j passed.cause) (order_from settings start) causes
  pub arms : EachPair (λ a b. ArmRises a.cause b.cause) causes
  pub leaves : Leaves k k t

abbrev pub IsUnknown : Known → Pair → ℕ → Type 0
IsUnknown k pair d = (home_of k pair ≡ None) × (d ≡ length k.directory.rows)

abbrev pub WrongPhoto : Settings → Known → CoreTag → ℕ → Pair → Cookie → ℕ → ℕ → ℕ → ℕ → Known → Type 0
WrongPhoto settings k tag start pair cookie v m p d t =
    (c : Cookie) × (bytes : List ℕ) × (c ≢ cookie)
    × IsShown settings k tag start pair v m p d (outcome.Photo (record { cookie = c; bytes = bytes })) t

-- What a reader that starts at this replica may be answered.
abbrev pub LegalShow : Settings → Known → CoreTag → ℕ → Pair → Cookie → Reply → Known → Type 0
LegalShow settings k tag start pair cookie (Photo v m p d bytes) t =
    IsShown settings k tag start pair v m p d (outcome.Photo (record { cookie = cookie; bytes = bytes })) t
LegalShow settings k tag start pair cookie (Gone v m p d) t = IsShown settings k tag start pair v m p d outcome.Nothing t
LegalShow settings k tag start pair cookie (WrongCookie v m p d) t = WrongPhoto settings k tag start pair cookie v m p d t
LegalShow settings k tag start pair cookie (Unreadable v p d causes) t = IsUnreadable settings k tag start pair v p d causes t
LegalShow settings k tag start pair cookie (Unknown d) t = IsUnknown k pair d × Leaves k k t
LegalShow settings k tag start pair cookie NoMem t =
    Leaves k k t ⊎ ((v : ℕ) × (home_of k pair ≡ Some v) × IsOpen k v × Leaves k (change_volume k v (frozen_by (first_machine settings v))) t)
LegalShow settings k tag start pair cookie _ t = ⊥

abbrev pub start_of : Settings → CoreTag → ℕ
start_of settings tag = tag.line % settings.replicas

-- a reply to a get names no other volume than the URL's
abbrev pub GetShows : UrlParts → Reply → Type 0
GetShows url (Photo v m p d bytes) = v ≡ url.volume
GetShows url (Gone v m p d) = v ≡ url.volume
GetShows url (WrongCookie v m p d) = v ≡ url.volume
GetShows url (Unreadable v p d causes) = v ≡ url.volume
GetShows url (Unknown d) = Unit {0}
GetShows url NoMem = Unit {0}
GetShows url _ = ⊥

-- where the pair's home is another volume, a get leaves all as it was
abbrev pub LeavesElsewhere : Known → UrlParts → Known → Type 0
LeavesElsewhere k url t = (v : ℕ) → home_of k url.pair ≡ Some v → v ≢ url.volume → Leaves k k t

abbrev pub LegalGetAt : Settings → Known → CoreTag → UrlParts → Option ℕ → Reply → Known → Type 0
LegalGetAt settings k tag url (Some start) (Moved v d) t =
    (home_of k url.pair ≡ Some v) × (v ≢ url.volume) × (d ≡ length k.directory.rows) × Leaves k k t
LegalGetAt settings k tag url (Some start) reply t =
    LegalShow settings k tag start url.pair url.cookie reply t × GetShows url reply × LeavesElsewhere k url t
LegalGetAt settings k tag url None Nowhere t = Leaves k k t
LegalGetAt settings k tag url None NoMem t = Leaves k k t
LegalGetAt settings k tag url None _ t = ⊥

abbrev pub LegalGet : Settings → Known → CoreTag → UrlParts → Reply → Known → Type 0
LegalGet settings k tag url reply t = LegalGetAt settings k tag url (replica_on settings url.volume url.machine) reply t

-- DELETE

abbrev pub has_pair : VolumeKnown → Pair → ReplicaKnown → Bool
has_pair volume pair replica = stands (outcome_at (now volume replica) pair)

abbrev pub ended_where : List Bool → List ReplicaKnown → List ReplicaKnown
ended_where [] replicas = replicas
ended_where ended [] = []
ended_where (true ∷ ended) (replica ∷ replicas) = without_run replica ∷ ended_where ended replicas
ended_where (false ∷ ended) (replica ∷ replicas) = replica ∷ ended_where ended replicas

abbrev pub with_del : List Bool → CoreTag → Pair → VolumeKnown → VolumeKnown
with_del ended tag pair volume = record (logged volume tag (entry.Del pair)) { replicas = ended_where ended volume.replicas }

-- a pair's volume is open, at these fronts
pub record IsAtHome (settings : Settings) (k : Known) (pair : Pair) (v d : ℕ) : Type 0 where
  pub home : home_of k pair ≡ Some v
  pub «open» : closed settings k v ≡ None
  pub rows : d ≡ length k.directory.rows

-- on some replica of the volume a photo stands at the pair
abbrev pub HasPair : Known → ℕ → Pair → Type 0
HasPair k v pair = list_any (has_pair (volume_at k v) pair) (volume_at k v).replicas ≡ true

-- A run ends in a delete only where its disk's count rose.
pub record IsDeleted (settings : Settings) (k : Known) (tag : CoreTag) (pair : Pair) (v p d : ℕ) (t : Known) : Type 0 where
  pub home : IsAtHome settings k pair v d
  pub stood : HasPair k v pair
  pub position : p ≡ length (volume_at k v).log + 1
  pub ended : List Bool
  pub cause : (j : ℕ) → slice_get ended j ≡ Some true → disk_rose settings k t v j ≡ true
  pub leaves : Leaves k (change_volume k v (with_del ended tag pair)) t

pub record IsAbsent (settings : Settings) (k : Known) (pair : Pair) (v p d : ℕ) (t : Known) : Type 0 where
  pub home : IsAtHome settings k pair v d
  pub nothing : list_any (has_pair (volume_at k v) pair) (volume_at k v).replicas ≡ false
  pub front : p ≡ length (volume_at k v).log
  pub leaves : Leaves k k t

pub record DelFailed (settings : Settings) (k : Known) (tag : CoreTag) (pair : Pair) (v m f : ℕ) (t : Known) : Type 0 where
  pub home : home_of k pair ≡ Some v
  pub «open» : closed settings k v ≡ None
  pub replica : ℕ
  pub there : replica_on settings v m ≡ Some replica
  pub rose : RoseTo settings k v replica f t
  pub leaves : Leaves k k t ⊎ (HasPair k v pair × Leaves k (change_volume k v (frozen_with m tag (entry.Del pair) true)) t)

-- the machine by which a home is closed
abbrev pub IsClosedHome : Settings → Known → Pair → List ClosedBy → Type 0
IsClosedHome settings k pair (by ∷ []) = (home_of k pair ≡ Some by.volume) × (closed settings k by.volume ≡ Some by.machine)
IsClosedHome settings k pair _ = ⊥

-- what want of memory may leave of a deletion: nothing; its volume frozen, with the deletion pending or without
abbrev pub DelNoMem : Settings → Known → CoreTag → Pair → Known → Type 0
DelNoMem settings k tag pair t =
    Leaves k k t
    ⊎ ((v : ℕ) × (home_of k pair ≡ Some v) × (closed settings k v ≡ None)
    × ((HasPair k v pair × Leaves k (change_volume k v (frozen_with (first_machine settings v) tag (entry.Del pair) false)) t)
    ⊎ Leaves k (change_volume k v (frozen_by (first_machine settings v))) t))

abbrev pub LegalDel : Settings → Known → CoreTag → Pair → Reply → Known → Type 0
LegalDel settings k tag pair (Deleted v p d) t = IsDeleted settings k tag pair v p d t
LegalDel settings k tag pair (Absent v p d) t = IsAbsent settings k pair v p d t
LegalDel settings k tag pair (Unknown d) t = IsUnknown k pair d × Leaves k k t
LegalDel settings k tag pair (ReadOnly closed) t = IsClosedHome settings k pair closed × Leaves k k t
LegalDel settings k tag pair (Failed v m f) t = DelFailed settings k tag pair v m f t
LegalDel settings k tag pair NoMem t = DelNoMem settings k tag pair t
LegalDel settings k tag pair _ t = ⊥

-- URL

pub record IsUrl (settings : Settings) (k : Known) (tag : CoreTag) (pair : Pair) (d : ℕ) (url : UrlParts) (t : Known) : Type 0 where
  pub home : home_of k pair ≡ Some url.volume
  pub pair_is : url.pair ≡ pair
  pub cookie : url.cookie ≡ cookie_of settings.secret pair.key
  pub machine : url.machine ≡ machine_of settings url.volume (start_of settings tag)
  pub rows : d ≡ length k.directory.rows
  pub leaves : Leaves k k t

abbrev pub LegalUrl : Settings → Known → CoreTag → Pair → Reply → Known → Type 0
LegalUrl settings k tag pair (Url d url) t = IsUrl settings k tag pair d url t
LegalUrl settings k tag pair (Unknown d) t = IsUnknown k pair d × Leaves k k t
LegalUrl settings k tag pair NoMem t = Leaves k k t
LegalUrl settings k tag pair _ t = ⊥

-- FLUSH AND COMPACTION

-- a reply is about the volume and machine of its command
abbrev pub Names : ℕ → ℕ → ℕ → ℕ → Type 0
Names v m v' m' = (v' ≡ v) × (m' ≡ m)

abbrev pub IsFrozenBy : Known → ℕ → List ClosedBy → Type 0
IsFrozenBy k v (by ∷ []) = (by.volume ≡ v) × ((volume_at k v).frozen ≡ Some by.machine)
IsFrozenBy k v _ = ⊥

abbrev pub IsStuckOn : Known → ℕ → ℕ → ℕ → List ClosedBy → Type 0
IsStuckOn k v m j (by ∷ []) = Names v m by.volume by.machine × ((volume_at k v).frozen ≡ None) × ((replica_at (volume_at k v) j).stuck ≡ true)
IsStuckOn k v m j _ = ⊥

abbrev pub replica_of : Known → ℕ → ℕ → ReplicaKnown
replica_of k v j = replica_at (volume_at k v) j

abbrev pub with_bare : ℕ → ReplicaKnown → ReplicaKnown
with_bare n replica = record replica { bare = n }

abbrev pub with_stuck : ReplicaKnown → ReplicaKnown
with_stuck replica = record replica { stuck = true }

-- What a flush of replica j of v, which is on m, may be answered.
abbrev pub LegalFlush : Settings → Known → ℕ → ℕ → ℕ → Reply → Known → Type 0
LegalFlush settings k v m j (Flushed v' m' n) t =
    Names v m v' m' × IsOpen k v × ((replica_of k v j).stuck ≡ false) × (n ≡ (replica_of k v j).bare)
    × Leaves k (change_replica k v j (with_bare 0)) t
LegalFlush settings k v m j (ReadOnly by) t = (IsFrozenBy k v by ⊎ IsStuckOn k v m j by) × Leaves k k t
LegalFlush settings k v m j (Failed v' m' f) t =
    Names v m v' m' × IsOpen k v × ((replica_of k v j).stuck ≡ false) × RoseTo settings k v j f t
    × Leaves k (change_replica k v j with_stuck) t
LegalFlush settings k v m j NoMem t = Leaves k k t
LegalFlush settings k v m j _ t = ⊥

abbrev pub with_run : Run → ReplicaKnown → ReplicaKnown
with_run run replica = record replica { run = Some run }

-- the current file is the new one, with this end and so many cells
abbrev pub swapped : ℕ → ℕ → ReplicaKnown → ReplicaKnown
swapped end cells replica =
    record replica { end = end; cells = cells; bare = 0; generation = replica.generation + 1; stuck = false; run = None }

abbrev pub poised : ReplicaKnown → ReplicaKnown
poised replica = record replica { poised = true }

abbrev pub IsAtRest : Known → ℕ → ℕ → Type 0
IsAtRest k v j = ((replica_of k v j).run ≡ None) × ((replica_of k v j).generation < LAST_GENERATION)

abbrev pub IsBusy : Known → ℕ → ℕ → ℕ → Type 0
IsBusy k v j g = (run : Run) × ((replica_of k v j).run ≡ Some run) × (run.goal ≡ g)

abbrev pub IsWorn : Known → ℕ → ℕ → Type 0
IsWorn k v j = ((replica_of k v j).run ≡ None) × ((replica_of k v j).generation ≡ LAST_GENERATION)

abbrev pub LegalBegin : Settings → Known → ℕ → ℕ → ℕ → Reply → Known → Type 0
LegalBegin settings k v m j (Begun v' m' g) t =
    Names v m v' m' × IsOpen k v × IsAtRest k v j × (g ≡ (replica_of k v j).generation + 1)
    × Leaves k (change_replica k v j (with_run (record { goal = g; left = (replica_of k v j).cells }))) t
LegalBegin settings k v m j (ReadOnly by) t = IsFrozenBy k v by × Leaves k k t
LegalBegin settings k v m j (Busy v' m' g) t = Names v m v' m' × IsOpen k v × IsBusy k v j g × Leaves k k t
LegalBegin settings k v m j (Worn v' m') t = Names v m v' m' × IsOpen k v × IsWorn k v j × Leaves k k t
LegalBegin settings k v m j (Failed v' m' f) t =
    Names v m v' m' × IsOpen k v × IsAtRest k v j × RoseTo settings k v j f t × Leaves k k t
LegalBegin settings k v m j NoMem t = Leaves k k t
LegalBegin settings k v m j _ t = ⊥

abbrev pub HasRun : Known → ℕ → ℕ → Type 0
HasRun k v j = (run : Run) × ((replica_of k v j).run ≡ Some run)

-- a run stands, and there is a number for the generation that it makes
abbrev pub MayFinish : Known → ℕ → ℕ → Type 0
MayFinish k v j = HasRun k v j × ((replica_of k v j).generation < LAST_GENERATION)

abbrev pub IsIdle : Known → ℕ → ℕ → Type 0
IsIdle k v j = (replica_of k v j).run ≡ None

abbrev pub stepped : ℕ → Run → Run
stepped n run = record run { left = run.left - n }

abbrev pub LegalStep : Settings → Known → ℕ → ℕ → ℕ → ℕ → Reply → Known → Type 0
LegalStep settings k v m j cells (Stepped v' m' n) t =
    Names v m v' m' × IsOpen k v
    × ((run : Run) × ((replica_of k v j).run ≡ Some run) × (n ≡ min cells run.left) × Leaves k (change_replica k v j (with_run (stepped n run))) t)
LegalStep settings k v m j cells (ReadOnly by) t = IsFrozenBy k v by × Leaves k k t
LegalStep settings k v m j cells (Idle v' m') t = Names v m v' m' × IsOpen k v × IsIdle k v j × Leaves k k t
LegalStep settings k v m j cells (Failed v' m' f) t =
    Names v m v' m' × IsOpen k v × HasRun k v j × RoseTo settings k v j f t × Leaves k (change_replica k v j without_run) t
LegalStep settings k v m j cells NoMem t =
    Leaves k k t
    ⊎ (IsOpen k v × (run : Run) × (n : ℕ) × ((replica_of k v j).run ≡ Some run) × (n ≤ min cells run.left) × Leaves k (change_replica k v j (with_run (stepped n run))) t)
LegalStep settings k v m j cells _ t = ⊥

-- The sizes behind a swap: the standing photos alone, or those and what came while the run stood.
abbrev pub IsTight : Known → ℕ → ℕ → ℕ → ℕ → Type 0
IsTight k v j end cells =
    (end ≡ live_end (now (volume_at k v) (replica_of k v j))) × (cells ≡ length (now (volume_at k v) (replica_of k v j)))

abbrev pub IsLoose : Known → ℕ → ℕ → ℕ → ℕ → Type 0
IsLoose k v j end cells =
    (live_end (now (volume_at k v) (replica_of k v j)) ≤ end) × (end ≤ (replica_of k v j).end)
    × (length (now (volume_at k v) (replica_of k v j)) ≤ cells) × (cells ≤ (replica_of k v j).cells)

-- A replica was swapped, with sizes of this kind, and its volume changed besides.
abbrev pub Swaps : (Known → ℕ → ℕ → ℕ → ℕ → Type 0) → (VolumeKnown → VolumeKnown) → Known → ℕ → ℕ → Known → Type 0
Swaps sizes besides k v j t =
    (end : ℕ) × (cells : ℕ) × sizes k v j end cells
    × Leaves k (change_volume (change_replica k v j (swapped end cells)) v besides) t

abbrev pub as_it_is : VolumeKnown → VolumeKnown
as_it_is volume = volume

-- a failed head switch: the replica stands before it or behind it, and no one knows which
abbrev pub poised_by : ℕ → Known → ℕ → ℕ → Known
poised_by m k v j = change_replica (change_volume k v (frozen_by m)) v j poised

abbrev pub SwapFailed : ℕ → Known → ℕ → ℕ → Known → Type 0
SwapFailed m k v j t = Leaves k (change_replica k v j without_run) t ⊎ Leaves k (poised_by m k v j) t

-- what want of memory may leave of a swap: nothing; where the volume is open and the replica ready, no run, or the swap and a freeze
abbrev pub SwapNoMem : Settings → (Known → ℕ → ℕ → Type 0) → (Known → ℕ → ℕ → ℕ → ℕ → Type 0) → Known → ℕ → ℕ → Known → Type 0
SwapNoMem settings ready sizes k v j t =
    Leaves k k t
    ⊎ (IsOpen k v × ready k v j
    × (Leaves k (change_replica k v j without_run) t ⊎ Swaps sizes (frozen_by (first_machine settings v)) k v j t))

abbrev pub LegalFinish : Settings → Known → ℕ → ℕ → ℕ → Reply → Known → Type 0
LegalFinish settings k v m j (Compacted v' m' g) t =
    Names v m v' m' × IsOpen k v × MayFinish k v j × (g ≡ (replica_of k v j).generation + 1) × Swaps IsLoose as_it_is k v j t
LegalFinish settings k v m j (ReadOnly by) t = IsFrozenBy k v by × Leaves k k t
LegalFinish settings k v m j (Idle v' m') t = Names v m v' m' × IsOpen k v × IsIdle k v j × Leaves k k t
LegalFinish settings k v m j (Failed v' m' f) t =
    Names v m v' m' × IsOpen k v × HasRun k v j × RoseTo settings k v j f t × SwapFailed m k v j t
LegalFinish settings k v m j NoMem t = SwapNoMem settings MayFinish IsLoose k v j t
LegalFinish settings k v m j _ t = ⊥

abbrev pub LegalCompact : Settings → Known → ℕ → ℕ → ℕ → Reply → Known → Type 0
LegalCompact settings k v m j (Compacted v' m' g) t =
    Names v m v' m' × IsOpen k v × IsAtRest k v j × (g ≡ (replica_of k v j).generation + 1) × Swaps IsTight as_it_is k v j t
LegalCompact settings k v m j (ReadOnly by) t = IsFrozenBy k v by × Leaves k k t
LegalCompact settings k v m j (Busy v' m' g) t = Names v m v' m' × IsOpen k v × IsBusy k v j g × Leaves k k t
LegalCompact settings k v m j (Worn v' m') t = Names v m v' m' × IsOpen k v × IsWorn k v j × Leaves k k t
LegalCompact settings k v m j (Failed v' m' f) t =
    Names v m v' m' × IsOpen k v × IsAtRest k v j × RoseTo settings k v j f t × SwapFailed m k v j t
LegalCompact settings k v m j NoMem t = SwapNoMem settings IsAtRest IsTight k v j t
LegalCompact settings k v m j _ t = ⊥

-- DRAINS AND FUSES

abbrev pub with_drain : Known → ℕ → Bool → Known
with_drain k m is = record k { drained = slice_set k.drained m is }

abbrev pub LegalDrain : Settings → Known → ℕ → Reply → Known → Type 0
LegalDrain settings k m (Drained m') t = (m' ≡ m) × (m < settings.machines) × Leaves k (with_drain k m true) t
LegalDrain settings k m Nowhere t = (settings.machines ≤ m) × Leaves k k t
LegalDrain settings k m NoMem t = Leaves k k t
LegalDrain settings k m _ t = ⊥

abbrev pub LegalUndrain : Settings → Known → ℕ → Reply → Known → Type 0
LegalUndrain settings k m (Undrained m') t = (m' ≡ m) × (m < settings.machines) × Leaves k (with_drain k m false) t
LegalUndrain settings k m Nowhere t = (settings.machines ≤ m) × Leaves k k t
LegalUndrain settings k m NoMem t = Leaves k k t
LegalUndrain settings k m _ t = ⊥

abbrev pub with_fuses : Known → ℕ → ℕ → Known
with_fuses k slot n = record k { fuses = slice_set k.fuses slot n }

-- one fuse more was set on the disk in this slot, or their number stands at its end
abbrev pub IsFused : Known → ℕ → Known → Type 0
IsFused k slot t = (n : ℕ) × IsNext (fuse_count k slot) n × Leaves k (with_fuses k slot n) t

abbrev pub LegalFuse : Settings → Known → ℕ → ℕ → ℕ → ℕ → Reply → Known → Type 0
LegalFuse settings k v m j n (Fused v' m' n') t = Names v m v' m' × (n' ≡ n) × IsFused k (slot_of settings v j) t
LegalFuse settings k v m j n NoMem t = Leaves k k t
LegalFuse settings k v m j n _ t = ⊥

abbrev pub LegalFuseDir : Known → ℕ → Reply → Known → Type 0
LegalFuseDir k n (FusedDir n') t = (n' ≡ n) × IsFused k 0 t
LegalFuseDir k n NoMem t = Leaves k k t
LegalFuseDir k n _ t = ⊥

-- EVERY COMMAND

-- a command that names a replica: nowhere, or what it may be answered there
abbrev pub OnReplica : Known → Option ℕ → (ℕ → Reply → Known → Type 0) → Reply → Known → Type 0
OnReplica k (Some j) legal reply t = legal j reply t
OnReplica k None legal Nowhere t = Leaves k k t
OnReplica k None legal NoMem t = Leaves k k t
OnReplica k None legal _ t = ⊥

abbrev pub LegalCommand : Settings → Known → CoreTag → Command → Reply → Known → Type 0
LegalCommand settings k tag (command.Put pair bytes) reply t = LegalPut settings k tag pair bytes reply t
LegalCommand settings k tag (command.Read pair cookie) reply t = LegalShow settings k tag (start_of settings tag) pair cookie reply t
LegalCommand settings k tag (command.Get url) reply t = LegalGet settings k tag url reply t
LegalCommand settings k tag (command.Del pair) reply t = LegalDel settings k tag pair reply t
LegalCommand settings k tag (command.Url pair) reply t = LegalUrl settings k tag pair reply t
LegalCommand settings k tag (command.Flush v m) reply t = OnReplica k (replica_on settings v m) (LegalFlush settings k v m) reply t
LegalCommand settings k tag (command.Compact v m) reply t = OnReplica k (replica_on settings v m) (LegalCompact settings k v m) reply t
LegalCommand settings k tag (command.Begin v m) reply t = OnReplica k (replica_on settings v m) (LegalBegin settings k v m) reply t
LegalCommand settings k tag (command.Step v m n) reply t = OnReplica k (replica_on settings v m) (λ j. LegalStep settings k v m j n) reply t
LegalCommand settings k tag (command.Finish v m) reply t = OnReplica k (replica_on settings v m) (LegalFinish settings k v m) reply t
LegalCommand settings k tag (command.Drain m) reply t = LegalDrain settings k m reply t
LegalCommand settings k tag (command.Undrain m) reply t = LegalUndrain settings k m reply t
LegalCommand settings k tag (command.Fuse v m n) reply t = OnReplica k (replica_on settings v m) (λ j. LegalFuse settings k v m j n) reply t
LegalCommand settings k tag (command.FuseDir n) reply t = LegalFuseDir k n reply t
LegalCommand settings k tag (command.Restart pick) reply t = ⊥

-- a line that is no command is answered so, and changes nothing
abbrev pub LegalItem : Settings → Known → CoreTag → Item → Reply → Known → Type 0
LegalItem settings k tag (item.Command command) reply t = LegalCommand settings k tag command reply t
LegalItem settings k tag item.Bad reply t = (reply ≡ BadLine) × Leaves k k t

-- A plain line uses lane 0.
abbrev pub LegalPlain : Settings → Known → ℕ → Item → Reply → Known → Type 0
LegalPlain settings k line item reply t = LegalItem settings k (record { lane = 0; line = line }) item reply t
