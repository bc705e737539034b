-- Which replicas a read passes over before it answers, and why, whatever the disks tell.
use Rattle.std.specs.Prelude.{◌≡◌, ◌∷◌, ◌++◌, ℕ, Bool, true, List, map, slice_get, slice_index, Some}
use Rattle.std.specs.List.{AllByRecursion}
use Rattle.hay_needle.specs.declared.needle.Pair.{Pair}
use Rattle.hay_needle.specs.declared.settings.Settings.{Settings}
use Rattle.hay_core.specs.declared.entry.CoreTag.{CoreTag}
use Rattle.hay_script.specs.declared.Command.{Command}
use Rattle.hay_script.specs.declared.Command.TheVariants as asks
use Rattle.hay_reply.specs.declared.Cause.{Cause}
use Rattle.hay_reply.specs.declared.Cause.TheVariants.{Arm, Disk, Damage}
use Rattle.hay_reply.specs.declared.Passed.{Passed}
use Rattle.hay_reply.specs.declared.Reply.{Reply}
use Rattle.hay_logical.specs.Sights.{AwaitsLook, IsLiveSight, Sight}
use Rattle.hay_logical.specs.Sights.Sight.{Gone, Live, Never, Unseen}
use Rattle.hay_legal.specs.Known.{CameUp, EachPair, machine_of, replica_on}
use Rattle.hay_legal.specs.Plain.{ArmRises, order_from}
use Rattle.hay_legal.specs.Stands.{Contents}
use Rattle.hay_legal.specs.Suiting.{start_at}
use Rattle.hay_cluster.specs.Causes.{Counts, RoseAt}
use Rattle.hay_cluster.specs.Needles.{LacksFor}
use Rattle.hay_cluster.specs.Seen.{StoreSeen}
use Rattle.hay_cluster.specs.Sights.{SeesOn, Told, told_by}
use Rattle.hay_cluster.specs.Sights.Told.{Absent, Damaged, Deleted, Failed, Missing, Nothing, Shown, Stored, Swapped, Unreadable, Wanting}

-- the arm of this lane is sure
abbrev pub IsSureArm : {A : Type 0} → (A → Bool) → List A → ℕ → Type 0
IsSureArm is_sure arms lane = slice_get (map is_sure arms) lane ≡ Some true

-- A count came up while the replica on this machine was passed over: that of the lane's arm, which is not sure then, or of the disk.
abbrev pub CauseCameUp : Settings → Type 0 → ℕ → ℕ → Counts → Counts → ℕ → Cause → Type 0
CauseCameUp settings Sure lane v before after m (Arm count) = (Sure → ⊥) × CameUp (slice_index before.arms lane) count (slice_index after.arms lane)
CauseCameUp settings Sure lane v before after m (Disk count) = RoseAt settings v m before.disks after.disks count
CauseCameUp settings Sure lane v before after m (Damage at) = Unit {0}

-- Why a replica is passed over is of its place, as it is seen behind: an arm was asked for a photo that stands there; its disk failed in
-- a look that is still to be taken; and damage is told where the photo stands, or is recorded.
abbrev pub StandsFor : Cause → Sight → Type 0
StandsFor (Arm count) seen = IsLiveSight seen
StandsFor (Disk count) seen = AwaitsLook seen
StandsFor (Damage place) Never = ⊥
StandsFor (Damage place) (Live at) = place ≡ at
StandsFor (Damage place) Gone = ⊥
StandsFor (Damage place) (Unseen at size) = place ≡ at

-- Why replica j is passed over is so of its place, and where the disks tell, of its needle.
abbrev pub IsOfPlace : Type 0 → Settings → (ℕ → Contents) → StoreSeen → ℕ → Pair → ℕ → Cause → Type 0
IsOfPlace Tells settings contents seen v pair j cause = StandsFor cause (seen.places v pair j) × (Tells → LacksFor settings contents seen v pair j cause)

-- These replicas of volume v were passed over, in this order and each for its cause. Of two failures of the arm the later one has the
-- greater count. Each cause is of the replica's place, as it is seen behind the read, and damage is where no needle is.
pub record PassesOver (Tells : Type 0) (settings : Settings) (Sure : Type 0) (contents : ℕ → Contents) (lane v : ℕ) (pair : Pair) (before after : Counts) (seen : StoreSeen)
    (replicas : List ℕ) (causes : List Passed) : Type 0 where
  pub order : map (λ passed. passed.machine) causes ≡ map (machine_of settings v) replicas
  pub each : AllByRecursion (λ passed. CauseCameUp settings Sure lane v before after passed.machine passed.cause) causes
  pub rises : EachPair (λ a b. ArmRises a.cause b.cause) causes
  pub stood : AllByRecursion (λ passed. SeesOn settings v pair (StandsFor passed.cause) seen passed.machine) causes
  pub lacks : Tells → AllByRecursion (λ passed. (j : ℕ) × (replica_on settings v passed.machine ≡ Some j) × LacksFor settings contents seen v pair j passed.cause) causes

-- So was each that is tried before the one on this machine, by who starts at replica `start`.
pub record TriesTo (Tells : Type 0) (settings : Settings) (Sure : Type 0) (contents : ℕ → Contents) (lane start v m : ℕ) (pair : Pair) (before after : Counts) (seen : StoreSeen) : Type 0 where
  pub front : List ℕ
  pub replica : ℕ
  pub rest : List ℕ
  pub tries : order_from settings start ≡ front ++ replica ∷ rest
  pub there : replica_on settings v m ≡ Some replica
  pub causes : List Passed
  pub passes : PassesOver Tells settings Sure contents lane v pair before after seen front causes

-- what is passed over before a read tells so, from replica `start` on
abbrev pub TriesBefore : Type 0 → Settings → Type 0 → (ℕ → Contents) → ℕ → ℕ → Pair → Counts → Counts → StoreSeen → Told → Type 0
TriesBefore Tells settings Sure contents lane start pair before after seen (Shown v m) = TriesTo Tells settings Sure contents lane start v m pair before after seen
TriesBefore Tells settings Sure contents lane start pair before after seen (Missing v m) = TriesTo Tells settings Sure contents lane start v m pair before after seen
TriesBefore Tells settings Sure contents lane start pair before after seen (Unreadable v causes) =
    PassesOver Tells settings Sure contents lane v pair before after seen (order_from settings start) causes
TriesBefore Tells settings Sure contents lane start pair before after seen (Stored v) = Unit {0}
TriesBefore Tells settings Sure contents lane start pair before after seen (Deleted v) = Unit {0}
TriesBefore Tells settings Sure contents lane start pair before after seen (Absent v) = Unit {0}
TriesBefore Tells settings Sure contents lane start pair before after seen (Failed v m) = Unit {0}
TriesBefore Tells settings Sure contents lane start pair before after seen (Damaged v m at) = Unit {0}
TriesBefore Tells settings Sure contents lane start pair before after seen (Swapped v m) = Unit {0}
TriesBefore Tells settings Sure contents lane start pair before after seen Wanting = Unit {0}
TriesBefore Tells settings Sure contents lane start pair before after seen Nothing = Unit {0}

-- So it is with each command: a read starts by its line, a get at the replica on its URL's machine, and no other passes any over.
-- `Sure` says that the lane's arm is sure.
abbrev pub PassesBefore : Type 0 → Settings → Type 0 → (ℕ → Contents) → CoreTag → Command → Counts → Counts → StoreSeen → Reply → Type 0
PassesBefore Tells settings Sure contents tag (asks.Read pair cookie) before after seen said =
    TriesBefore Tells settings Sure contents tag.lane (start_at settings tag.line) pair before after seen (told_by said)
PassesBefore Tells settings Sure contents tag (asks.Get url) before after seen said =
    (start : ℕ) → replica_on settings url.volume url.machine ≡ Some start → TriesBefore Tells settings Sure contents tag.lane start url.pair before after seen (told_by said)
PassesBefore Tells settings Sure contents tag (asks.Put pair photo) before after seen said = Unit {0}
PassesBefore Tells settings Sure contents tag (asks.Del pair) before after seen said = Unit {0}
PassesBefore Tells settings Sure contents tag (asks.Url pair) before after seen said = Unit {0}
PassesBefore Tells settings Sure contents tag (asks.Flush v m) before after seen said = Unit {0}
PassesBefore Tells settings Sure contents tag (asks.Drain m) before after seen said = Unit {0}
PassesBefore Tells settings Sure contents tag (asks.Undrain m) before after seen said = Unit {0}
PassesBefore Tells settings Sure contents tag (asks.Fuse v m calls) before after seen said = Unit {0}
PassesBefore Tells settings Sure contents tag (asks.FuseDir calls) before after seen said = Unit {0}
PassesBefore Tells settings Sure contents tag (asks.Compact v m) before after seen said = Unit {0}
PassesBefore Tells settings Sure contents tag (asks.Begin v m) before after seen said = Unit {0}
PassesBefore Tells settings Sure contents tag (asks.Step v m cells) before after seen said = Unit {0}
PassesBefore Tells settings Sure contents tag (asks.Finish v m) before after seen said = Unit {0}
PassesBefore Tells settings Sure contents tag (asks.Restart pick) before after seen said = Unit {0}
