-- What a read of the store shows.
use Rattle.std.specs.Prelude.{◌≡◌, ◌≢◌, ℕ, Bool, ◌+◌, ◌%◌, ◌<◌, List, [], length, map, take, slice_get, slice_index, Some}
use Rattle.std.specs.List.{AllByRecursion, range_with_len}
use Rattle.hay_needle.specs.declared.needle.Cookie.{Cookie}
use Rattle.hay_needle.specs.declared.needle.Outcome.{Outcome}
use Rattle.hay_needle.specs.declared.needle.Outcome.TheVariants as outcome
use Rattle.hay_needle.specs.declared.needle.Pair.{Pair}
use Rattle.hay_needle.specs.declared.needle.Photo.{Photo as PhotoOf}
use Rattle.hay_needle.specs.declared.settings.Settings.{Settings}
use Rattle.hay_needle.specs.Tables.{outcome_at}
use Rattle.hay_disk.specs.Disk.{Files}
use Rattle.hay_map.specs.Places.{place_in}
use Rattle.hay_map.specs.Rows.{row_at}
use Rattle.hay_reply.specs.declared.Cause.{Cause}
use Rattle.hay_reply.specs.declared.Cause.TheVariants.{Arm, Disk, Damage}
use Rattle.hay_reply.specs.declared.Passed.{Passed}
use Rattle.hay_reply.specs.declared.Reply.{Reply}
use Rattle.hay_core.specs.declared.entry.CoreTag.{CoreTag}
use Rattle.hay_legal.specs.declared.known.Known.{Known}
use Rattle.hay_legal.specs.declared.known.VolumeKnown.{VolumeKnown}
use Rattle.hay_legal.specs.Known.{machine_of, now, replica_at, slot_of}
use Rattle.hay_legal.specs.Plain.{LegalShow}
use Rattle.hay_compact.specs.Finishing.{IsSeen}
use Rattle.hay_logical.specs.Fits.{At}
use Rattle.hay_logical.specs.ReplicaCalls.{IsSeenBy}
use Rattle.hay_logical.specs.Volumes.{Volume}
use Rattle.hay_logical.specs.declared.fault.LogicalFault.{LogicalFault}
use Rattle.hay_logical.specs.declared.fault.LogicalFault.TheVariants as fault
use Rattle.hay_reader.specs.Causes.{ArmRises, ComeFirst, EachPair, HasArmCause, passed_now}
use Rattle.hay_reader.specs.declared.causes.PassedReplica.{PassedReplica}
use Rattle.hay_reader.specs.declared.seat.ReadReply.{ReadReply}
use Rattle.hay_reader.specs.declared.seat.ReadReply.TheVariants as read
use Rattle.hay_cluster.specs.declared.reading.Found.{Found}
use Rattle.hay_cluster.specs.declared.reading.Found.TheVariants as found
use Rattle.hay_cluster.specs.Causes.{Counts, RoseIn}
use Rattle.hay_cluster.specs.Passing.{IsSureArm}
use Rattle.hay_logical.specs.Sights.{AwaitsLook, AwaitsLookAt, IsLiveSight, Sight}
use Rattle.hay_cluster.specs.Sights.{IsAbsent}
use Rattle.hay_cluster.specs.State.{Stands}
use Rattle.hay_cluster.specs.Store.{Open, disks_of}

-- a replica of a volume that was passed over, by its machine
abbrev pub passed_at : Settings → ℕ → PassedReplica → Passed
passed_at settings v over = record { machine = machine_of settings v over.replica; cause = over.cause }

-- A reader that starts at this replica is answered so.
pub record ShownAs {D P A : Type 0} (files : D → Files) (Tells : Type 0) (faults fuses : D → ℕ) (arm_faults : A → ℕ) (settings : Settings) (k : Known) (tag : CoreTag) (start : ℕ)
    (pair : Pair) (cookie : Cookie) (reply : Reply) (store : Open D P A) : Type 0 where
  pub known : Known
  pub legal : LegalShow settings k tag start pair cookie reply known
  pub stands : Stands files Tells faults fuses arm_faults store known

-- PASSED REPLICAS

-- the counts of a store's disks and arms
abbrev pub counts_of : {D P A : Type 0} → (D → ℕ) → (A → ℕ) → Open D P A → Counts
counts_of faults arm_faults store = record { disks = map faults (disks_of store); arms = map arm_faults store.arms }

-- The disks tell their bytes, and the store stands for what is known of it.
abbrev pub IsWhole : {D P A : Type 0} → Type 0 → (D → Files) → Type 0 → (D → ℕ) → (D → ℕ) → (A → ℕ) → Open D P A → Type 0
IsWhole DiskTells files Tells faults fuses arm_faults store = DiskTells × (k : Known) × Stands files Tells faults fuses arm_faults store k

-- What is never the cause in a read of this store with a lane's arm: the arm, where it is sure, and damage, where the store is whole.
abbrev pub NeverIn : {D P A : Type 0} → Type 0 → (D → Files) → Type 0 → (D → ℕ) → (D → ℕ) → (A → ℕ) → (A → Bool) → Open D P A → ℕ → Cause → Type 0
NeverIn DiskTells files Tells faults fuses arm_faults is_sure store lane (Arm f) = IsSureArm is_sure store.arms lane
NeverIn DiskTells files Tells faults fuses arm_faults is_sure store lane (Disk f) = ⊥
NeverIn DiskTells files Tells faults fuses arm_faults is_sure store lane (Damage at) = IsWhole DiskTells files Tells faults fuses arm_faults store

-- Why a replica was passed over between two counts: the lane's arm failed, or the replica's disk did, whose count rose to this, or its
-- needle is damaged.
abbrev pub IsPassedFor : (Cause → Type 0) → ℕ → ℕ → ℕ → List ℕ → List ℕ → Cause → Type 0
IsPassedFor Never slot arm arm' disks disks' (Arm f) = HasArmCause arm arm' (Arm f) × (Never (Arm f) → ⊥)
IsPassedFor Never slot arm arm' disks disks' (Disk f) = RoseIn slot disks disks' f
IsPassedFor Never slot arm arm' disks disks' (Damage at) = Never (Damage at) → ⊥

-- The replicas that come first were passed over, some of them before, and each of the others with its cause between two counts.
pub record PassesFrom (Never : Cause → Type 0) (settings : Settings) (lane v start : ℕ) (before after : Counts) (passed causes : List PassedReplica) : Type 0 where
  pub begins : take (length passed) causes ≡ passed
  pub order : ComeFirst start settings.replicas causes
  pub each : AllByRecursion (λ over. IsPassedFor Never (slot_of settings v over.replica) (slice_index before.arms lane) (slice_index after.arms lane) before.disks after.disks
      over.cause) (passed_now passed causes)
  pub rises : EachPair (λ a b. ArmRises a.cause b.cause) (passed_now passed causes)

-- each replica was passed over for a cause that it may have had
abbrev pub MayHave : (ℕ → Cause → Type 0) → List PassedReplica → Type 0
MayHave Had causes = AllByRecursion (λ over. Had over.replica over.cause) causes

-- Those that come before this replica were passed over, and no others.
pub record PassesTo (Never : Cause → Type 0) (settings : Settings) (lane v start : ℕ) (before after : Counts) (Had : ℕ → Cause → Type 0) (passed causes : List PassedReplica) (j : ℕ) : Type 0 where
  pub passes : PassesFrom Never settings lane v start before after passed causes
  pub stood : MayHave Had causes
  pub fewer : length causes < settings.replicas
  pub next : j ≡ (start + length causes) % settings.replicas

-- every replica was
pub record PassesAll (Never : Cause → Type 0) (settings : Settings) (lane v start : ℕ) (before after : Counts) (Had : ℕ → Cause → Type 0) (passed causes : List PassedReplica) : Type 0 where
  pub passes : PassesFrom Never settings lane v start before after passed causes
  pub stood : MayHave Had causes
  pub all : length causes ≡ settings.replicas

-- what a read has passed over, some of them before
abbrev pub ReadPasses : (Cause → Type 0) → Settings → ℕ → ℕ → ℕ → Counts → Counts → (ℕ → Cause → Type 0) → List PassedReplica → ReadReply → Type 0
ReadPasses Never settings lane v start before after Had passed (read.Photo j) =
    (causes : List PassedReplica) × PassesTo Never settings lane v start before after Had passed causes j
ReadPasses Never settings lane v start before after Had passed (read.Gone j) =
    (causes : List PassedReplica) × PassesTo Never settings lane v start before after Had passed causes j
ReadPasses Never settings lane v start before after Had passed (read.WrongCookie j) =
    (causes : List PassedReplica) × PassesTo Never settings lane v start before after Had passed causes j
ReadPasses Never settings lane v start before after Had passed (read.Unseen j causes) = PassesTo Never settings lane v start before after Had passed causes j
ReadPasses Never settings lane v start before after Had passed (read.Unreadable causes) = PassesAll Never settings lane v start before after Had passed causes

abbrev pub FoundPasses : (Cause → Type 0) → Settings → ℕ → ℕ → ℕ → Counts → Counts → (ℕ → Cause → Type 0) → Found → Type 0
FoundPasses Never settings lane v start before after Had (found.Photo j) =
    (causes : List PassedReplica) × PassesTo Never settings lane v start before after Had [] causes j
FoundPasses Never settings lane v start before after Had (found.Gone j) =
    (causes : List PassedReplica) × PassesTo Never settings lane v start before after Had [] causes j
FoundPasses Never settings lane v start before after Had (found.WrongCookie j) =
    (causes : List PassedReplica) × PassesTo Never settings lane v start before after Had [] causes j
FoundPasses Never settings lane v start before after Had (found.Unreadable causes) = PassesAll Never settings lane v start before after Had [] causes
FoundPasses Never settings lane v start before after Had found.NoMemory = Unit {0}

-- PLACES THAT ARE SEEN

-- a volume's place of a pair on a replica was looked at
abbrev pub IsSeenAt : {D P A : Type 0} → Open D P A → ℕ → Pair → ℕ → Type 0
IsSeenAt {D} {P} store v pair j = (volume : Volume D P) → At store.volumes v volume → IsSeen (place_in (row_at volume.rows pair) j)

-- a volume's place of a pair on a replica is what is seen of the needle that these bytes are
abbrev pub IsSeenByAt : {D P A : Type 0} → Type 0 → Type 0 → Open D P A → ℕ → Pair → ℕ → List ℕ → Type 0
IsSeenByAt {D} {P} DiskTells Tells store v pair j bytes = (volume : Volume D P) → At store.volumes v volume → IsSeenBy DiskTells Tells bytes (place_in (row_at volume.rows pair) j)

-- a read stops at no place that was looked at
abbrev pub StopsUnseen : {D P A : Type 0} → Open D P A → ℕ → Pair → ReadReply → Type 0
StopsUnseen store v pair (read.Unseen j causes) = IsSeenAt store v pair j → ⊥
StopsUnseen store v pair (read.Unreadable causes) = Unit {0}
StopsUnseen store v pair (read.Photo j) = Unit {0}
StopsUnseen store v pair (read.Gone j) = Unit {0}
StopsUnseen store v pair (read.WrongCookie j) = Unit {0}

-- why a place is not seen
abbrev pub CannotSee : LogicalFault → Type 0
CannotSee (fault.Failed m count) = Unit {0}
CannotSee (fault.Damaged m at) = Unit {0}
CannotSee fault.NoMemory = Unit {0}
CannotSee (fault.ReadOnly m) = ⊥
CannotSee (fault.Full m end need capacity) = ⊥
CannotSee (fault.Gone front) = ⊥
CannotSee (fault.Busy m generation) = ⊥
CannotSee (fault.Worn m) = ⊥
CannotSee fault.Idle = ⊥

-- that of a replica whose disk has this slot
abbrev pub IsSightFault : ℕ → List ℕ → List ℕ → LogicalFault → Type 0
IsSightFault slot before after (fault.Failed m count) = RoseIn slot before after count
IsSightFault slot before after (fault.Damaged m at) = Unit {0}
IsSightFault slot before after fault.NoMemory = Unit {0}
IsSightFault slot before after (fault.ReadOnly m) = ⊥
IsSightFault slot before after (fault.Full m end need capacity) = ⊥
IsSightFault slot before after (fault.Gone front) = ⊥
IsSightFault slot before after (fault.Busy m generation) = ⊥
IsSightFault slot before after (fault.Worn m) = ⊥
IsSightFault slot before after fault.Idle = ⊥

-- it was not looked at yet, and damage is told there
abbrev pub AwaitsFor : LogicalFault → Sight → Type 0
AwaitsFor (fault.Failed m count) seen = AwaitsLook seen
AwaitsFor (fault.Damaged m at) seen = AwaitsLookAt at seen
AwaitsFor fault.NoMemory seen = AwaitsLook seen
AwaitsFor (fault.ReadOnly m) seen = ⊥
AwaitsFor (fault.Full m end need capacity) seen = ⊥
AwaitsFor (fault.Gone front) seen = ⊥
AwaitsFor (fault.Busy m generation) seen = ⊥
AwaitsFor (fault.Worn m) seen = ⊥
AwaitsFor fault.Idle seen = ⊥

-- the cause that is told of it
abbrev pub IsSightCause : LogicalFault → Cause → Type 0
IsSightCause (fault.Failed m count) cause = cause ≡ Disk count
IsSightCause (fault.Damaged m at) cause = cause ≡ Damage at
IsSightCause fault.NoMemory cause = ⊥
IsSightCause (fault.ReadOnly m) cause = ⊥
IsSightCause (fault.Full m end need capacity) cause = ⊥
IsSightCause (fault.Gone front) cause = ⊥
IsSightCause (fault.Busy m generation) cause = ⊥
IsSightCause (fault.Worn m) cause = ⊥
IsSightCause fault.Idle cause = ⊥

-- what a read found of a pair that is seen so on each replica
abbrev pub ReadSees : (ℕ → Sight) → ReadReply → Type 0
ReadSees seen (read.Photo j) = IsLiveSight (seen j)
ReadSees seen (read.Gone j) = IsAbsent (seen j)
ReadSees seen (read.WrongCookie j) = IsLiveSight (seen j)
ReadSees seen (read.Unseen j causes) = AwaitsLook (seen j)
ReadSees seen (read.Unreadable causes) = Unit {0}

abbrev pub FoundSees : (ℕ → Sight) → Found → Type 0
FoundSees seen (found.Photo j) = IsLiveSight (seen j)
FoundSees seen (found.Gone j) = IsAbsent (seen j)
FoundSees seen (found.WrongCookie j) = IsLiveSight (seen j)
FoundSees seen (found.Unreadable causes) = Unit {0}
FoundSees seen found.NoMemory = Unit {0}

-- OUTCOMES

-- what each replica of a volume has of a pair
abbrev pub outcomes_of : Settings → VolumeKnown → Pair → List Outcome
outcomes_of settings volume pair = map (λ j. outcome_at (now volume (replica_at volume j)) pair) (range_with_len 0 settings.replicas)

-- what a read says of the outcomes that the replicas have; `bytes` are those that were put out
abbrev pub ReadSays : Cookie → List Outcome → List ℕ → ReadReply → Type 0
ReadSays cookie outcomes bytes (read.Photo j) = slice_get outcomes j ≡ Some (outcome.Photo (record { cookie = cookie; bytes = bytes }))
ReadSays cookie outcomes bytes (read.Gone j) = slice_get outcomes j ≡ Some outcome.Nothing
ReadSays cookie outcomes bytes (read.WrongCookie j) = (photo : PhotoOf) × (photo.cookie ≢ cookie) × (slice_get outcomes j ≡ Some (outcome.Photo photo))
ReadSays cookie outcomes bytes (read.Unseen j causes) = Unit {0}
ReadSays cookie outcomes bytes (read.Unreadable causes) = Unit {0}

abbrev pub FoundSays : Cookie → List Outcome → List ℕ → Found → Type 0
FoundSays cookie outcomes bytes (found.Photo j) = slice_get outcomes j ≡ Some (outcome.Photo (record { cookie = cookie; bytes = bytes }))
FoundSays cookie outcomes bytes (found.Gone j) = slice_get outcomes j ≡ Some outcome.Nothing
FoundSays cookie outcomes bytes (found.WrongCookie j) = (photo : PhotoOf) × (photo.cookie ≢ cookie) × (slice_get outcomes j ≡ Some (outcome.Photo photo))
FoundSays cookie outcomes bytes (found.Unreadable causes) = Unit {0}
FoundSays cookie outcomes bytes found.NoMemory = Unit {0}

-- what was read is what was found
abbrev pub IsFoundAs : ReadReply → Found → Type 0
IsFoundAs (read.Photo j) what = what ≡ found.Photo j
IsFoundAs (read.Gone j) what = what ≡ found.Gone j
IsFoundAs (read.WrongCookie j) what = what ≡ found.WrongCookie j
IsFoundAs (read.Unreadable causes) what = what ≡ found.Unreadable causes
IsFoundAs (read.Unseen j causes) what = ⊥
