-- What is seen of the photos of a store, whatever its disks tell, and how each command changes that.
use Rattle.std.specs.Prelude.{◌≡◌, ◌≢◌, ◌⊎◌, ℕ, List, Option, None, Some}
use Rattle.hay_needle.specs.declared.needle.Pair.{Pair}
use Rattle.hay_needle.specs.declared.settings.Settings.{Settings}
use Rattle.hay_script.specs.declared.Command.{Command}
use Rattle.hay_script.specs.declared.Command.TheVariants as asks
use Rattle.hay_reply.specs.declared.Passed.{Passed}
use Rattle.hay_reply.specs.declared.Reply.{Reply}
use Rattle.hay_reply.specs.declared.Reply.TheVariants as reply
use Rattle.hay_legal.specs.Known.{replica_on}
use Rattle.hay_logical.specs.Seen.{VolumeSeen}
use Rattle.hay_logical.specs.Sights.{AwaitsLook, AwaitsLookAt, DeletesSights, FindsNone, FindsPhoto, IsLiveSight, IsSeenOn, KeepsSights, LooksAtPair, LooksInVain, Sight, Sights}
use Rattle.hay_logical.specs.Sights.{StoresSights, SwapsSights}
use Rattle.hay_logical.specs.Sights.Sight.{Gone, Live, Never, Unseen}
use Rattle.hay_cluster.specs.declared.maintenance.Maintenance.{Maintenance}
use Rattle.hay_cluster.specs.declared.maintenance.Maintenance.TheVariants as work
use Rattle.hay_cluster.specs.Seen.{StoreSeen, VolumeAt, home_seen}

-- every photo is seen as before
abbrev pub KeepsPhotos : StoreSeen → StoreSeen → Type 0
KeepsPhotos old new = (v : ℕ) → KeepsSights (old.places v) (new.places v)

-- The photos of one volume are seen otherwise, and those of the others as before.
pub record ChangesPhotos (v : ℕ) (Changes : Sights → Sights → Type 0) (old new : StoreSeen) : Type 0 where
  pub changes : Changes (old.places v) (new.places v)
  pub others : (w : ℕ) → w ≢ v → KeepsSights (old.places w) (new.places w)

-- replicas of a pair's home may have been looked at, where it has one
abbrev pub LooksAtHome : Option ℕ → Pair → StoreSeen → StoreSeen → Type 0
LooksAtHome None pair old new = KeepsPhotos old new
LooksAtHome (Some v) pair old new = ChangesPhotos v (LooksAtPair pair) old new

-- no photo is there
abbrev pub IsAbsent : Sight → Type 0
IsAbsent Never = Unit {0}
IsAbsent (Live at) = ⊥
IsAbsent Gone = Unit {0}
IsAbsent (Unseen at size) = ⊥

-- a pair is seen so on the volume's replica on this machine
abbrev pub SeesOn : Settings → ℕ → Pair → (Sight → Type 0) → StoreSeen → ℕ → Type 0
SeesOn settings v pair Is seen m = (j : ℕ) × (replica_on settings v m ≡ Some j) × Is (seen.places v pair j)

-- WHAT A REPLY TELLS OF A PHOTO

-- in which volume, and on which machine's replica, and where damage is
pub data Told : Type 0 where
  Stored : ℕ → Told
  Deleted : ℕ → Told
  Absent : ℕ → Told
  Failed : ℕ → ℕ → Told
  Damaged : ℕ → ℕ → ℕ → Told
  Shown : ℕ → ℕ → Told
  Missing : ℕ → ℕ → Told
  Unreadable : ℕ → List Passed → Told
  Swapped : ℕ → ℕ → Told
  Wanting : Told
  Nothing : Told

abbrev pub told_by : Reply → Told
told_by (reply.Stored v p d c) = Stored v
told_by (reply.Deleted v p d) = Deleted v
told_by (reply.Absent v f d) = Absent v
told_by (reply.Failed v m n) = Failed v m
told_by (reply.Damaged v m at) = Damaged v m at
told_by (reply.Photo v m f d photo) = Shown v m
told_by (reply.WrongCookie v m f d) = Shown v m
told_by (reply.Gone v m f d) = Missing v m
told_by (reply.Unreadable v f d causes) = Unreadable v causes
told_by (reply.Compacted v m n) = Swapped v m
told_by reply.NoMem = Wanting
told_by (reply.Unknown d) = Nothing
told_by (reply.Moved v d) = Nothing
told_by (reply.Url d url) = Nothing
told_by (reply.Full tries) = Nothing
told_by (reply.ReadOnly tries) = Nothing
told_by reply.ReadOnlyDir = Nothing
told_by (reply.FailedDir n) = Nothing
told_by (reply.Flushed v m n) = Nothing
told_by (reply.Begun v m n) = Nothing
told_by (reply.Stepped v m n) = Nothing
told_by (reply.Busy v m n) = Nothing
told_by (reply.Idle v m) = Nothing
told_by (reply.Worn v m) = Nothing
told_by (reply.Drained m) = Nothing
told_by (reply.Undrained m) = Nothing
told_by (reply.Fused v m calls) = Nothing
told_by (reply.FusedDir calls) = Nothing
told_by reply.Nowhere = Nothing
told_by (reply.Restarted d) = Nothing
told_by reply.BadLine = Nothing

-- A put that stored its photo has it on each replica, where its cells ended before. Another changes nothing that is seen.
abbrev pub PutSights : Settings → Pair → Told → StoreSeen → StoreSeen → Type 0
PutSights settings pair (Stored v) old new = VolumeAt v (λ volume. ChangesPhotos v (StoresSights pair volume.replicas) old new) old
PutSights settings pair (Failed v m) old new = KeepsPhotos old new
PutSights settings pair Wanting old new = KeepsPhotos old new
PutSights settings pair Nothing old new = KeepsPhotos old new
PutSights settings pair (Deleted v) old new = ⊥
PutSights settings pair (Absent v) old new = ⊥
PutSights settings pair (Damaged v m at) old new = ⊥
PutSights settings pair (Shown v m) old new = ⊥
PutSights settings pair (Missing v m) old new = ⊥
PutSights settings pair (Unreadable v causes) old new = ⊥
PutSights settings pair (Swapped v m) old new = ⊥

-- A delete looks at each replica of its pair. It fails behind that at one that has the photo, and freezes the volume, or at a look.
abbrev pub DeleteSights : Settings → Pair → Told → StoreSeen → StoreSeen → Type 0
DeleteSights settings pair (Deleted v) old new = ChangesPhotos v (DeletesSights pair settings.replicas) old new
DeleteSights settings pair (Absent v) old new = ChangesPhotos v (FindsNone pair settings.replicas) old new
DeleteSights settings pair (Failed v m) old new =
    (VolumeAt v (λ volume. volume.frozen ≡ Some m) new × ChangesPhotos v (FindsPhoto pair settings.replicas) old new × IsSeenOn settings v pair m IsLiveSight (new.places v))
    ⊎ (VolumeAt v (λ volume. volume.frozen ≡ None) new × ChangesPhotos v (LooksInVain settings v pair m AwaitsLook) old new)
DeleteSights settings pair (Damaged v m at) old new = ChangesPhotos v (LooksInVain settings v pair m (AwaitsLookAt at)) old new
DeleteSights settings pair Wanting old new = LooksAtHome (home_seen old pair) pair old new
DeleteSights settings pair Nothing old new = KeepsPhotos old new
DeleteSights settings pair (Stored v) old new = ⊥
DeleteSights settings pair (Shown v m) old new = ⊥
DeleteSights settings pair (Missing v m) old new = ⊥
DeleteSights settings pair (Unreadable v causes) old new = ⊥
DeleteSights settings pair (Swapped v m) old new = ⊥

-- A read looks at replicas of its pair, and shows what it then sees of one of them.
abbrev pub ReadSights : Settings → Pair → Told → StoreSeen → StoreSeen → Type 0
ReadSights settings pair (Shown v m) old new = ChangesPhotos v (LooksAtPair pair) old new × SeesOn settings v pair IsLiveSight new m
ReadSights settings pair (Missing v m) old new = ChangesPhotos v (LooksAtPair pair) old new × SeesOn settings v pair IsAbsent new m
ReadSights settings pair (Unreadable v causes) old new = ChangesPhotos v (LooksAtPair pair) old new
ReadSights settings pair Wanting old new = LooksAtHome (home_seen old pair) pair old new
ReadSights settings pair Nothing old new = KeepsPhotos old new
ReadSights settings pair (Stored v) old new = ⊥
ReadSights settings pair (Deleted v) old new = ⊥
ReadSights settings pair (Absent v) old new = ⊥
ReadSights settings pair (Failed v m) old new = ⊥
ReadSights settings pair (Damaged v m at) old new = ⊥
ReadSights settings pair (Swapped v m) old new = ⊥

-- what work on a replica changes that was done, by what is seen of the volume behind it
abbrev pub DoneSights : Maintenance → ℕ → VolumeSeen → Sights → Sights → Type 0
DoneSights work.Flush at volume old new = KeepsSights old new
DoneSights work.Begin at volume old new = KeepsSights old new
DoneSights (work.Step cells) at volume old new = KeepsSights old new
DoneSights work.Finish at volume old new = SwapsSights at volume.replicas old new
DoneSights work.Compact at volume old new = SwapsSights at volume.replicas old new

-- Of work on replicas the end of a compaction alone changes what is seen.
abbrev pub WorkSights : Settings → Told → StoreSeen → StoreSeen → Type 0
WorkSights settings (Swapped v m) old new = (at : ℕ) × (replica_on settings v m ≡ Some at) × VolumeAt v (λ volume. ChangesPhotos v (SwapsSights at volume.replicas) old new) new
WorkSights settings (Failed v m) old new = KeepsPhotos old new
WorkSights settings (Damaged v m at) old new = KeepsPhotos old new
WorkSights settings Wanting old new = KeepsPhotos old new
WorkSights settings Nothing old new = KeepsPhotos old new
WorkSights settings (Stored v) old new = ⊥
WorkSights settings (Deleted v) old new = ⊥
WorkSights settings (Absent v) old new = ⊥
WorkSights settings (Shown v m) old new = ⊥
WorkSights settings (Missing v m) old new = ⊥
WorkSights settings (Unreadable v causes) old new = ⊥

-- EVERY COMMAND

-- What a command that is answered so leaves. A restart is not answered so.
abbrev pub LeavesSights : Settings → Command → Reply → StoreSeen → StoreSeen → Type 0
LeavesSights settings (asks.Put pair photo) said old new = PutSights settings pair (told_by said) old new
LeavesSights settings (asks.Del pair) said old new = DeleteSights settings pair (told_by said) old new
LeavesSights settings (asks.Read pair cookie) said old new = ReadSights settings pair (told_by said) old new
LeavesSights settings (asks.Get url) said old new = ReadSights settings url.pair (told_by said) old new
LeavesSights settings (asks.Flush v m) said old new = WorkSights settings (told_by said) old new
LeavesSights settings (asks.Compact v m) said old new = WorkSights settings (told_by said) old new
LeavesSights settings (asks.Begin v m) said old new = WorkSights settings (told_by said) old new
LeavesSights settings (asks.Step v m cells) said old new = WorkSights settings (told_by said) old new
LeavesSights settings (asks.Finish v m) said old new = WorkSights settings (told_by said) old new
LeavesSights settings (asks.Url pair) said old new = KeepsPhotos old new
LeavesSights settings (asks.Drain m) said old new = KeepsPhotos old new
LeavesSights settings (asks.Undrain m) said old new = KeepsPhotos old new
LeavesSights settings (asks.Fuse v m calls) said old new = KeepsPhotos old new
LeavesSights settings (asks.FuseDir calls) said old new = KeepsPhotos old new
LeavesSights settings (asks.Restart pick) said old new = ⊥
