-- What the parts of a put do.
use Rattle.std.specs.Prelude.{◌≡◌, ◌⊎◌, ℕ, ◌+◌, true, false, List, [], ◌∷◌, length, map, find, is_none, Some, None}
use Rattle.std.specs.List.{list_any}
use Rattle.hay_needle.specs.declared.needle.Pair.{Pair}
use Rattle.hay_needle.specs.declared.settings.Settings.{Settings}
use Rattle.hay_disk.specs.Disk.{Files}
use Rattle.hay_url.specs.Url.{cookie_of}
use Rattle.hay_reply.specs.declared.Refused.{Refused}
use Rattle.hay_reply.specs.declared.Refused.TheVariants.{Closed, NoRoom}
use Rattle.hay_reply.specs.declared.Reply.{Reply}
use Rattle.hay_reply.specs.declared.Reply.TheVariants.{Stored, Failed, FailedDir, Full, ReadOnly, ReadOnlyDir, NoMem}
use Rattle.hay_core.specs.declared.entry.CoreTag.{CoreTag}
use Rattle.hay_legal.specs.declared.known.Known.{Known}
use Rattle.hay_legal.specs.Known.{Leaves, all_tries, refusal_of, replica_on, volume_at}
use Rattle.hay_legal.specs.Plain.{RoseTo, as_closed, change_volume, first_machine, frozen_with, wants_room, put_entry, with_put}
use Rattle.hay_directory.specs.declared.fault.DirFault.{DirFault}
use Rattle.hay_directory.specs.declared.fault.DirFault.TheVariants as settling
use Rattle.hay_physical.specs.OpenCopies.{Copy}
use Rattle.hay_logical.specs.Fits.{At}
use Rattle.hay_logical.specs.ReplicaCalls.{RoomFor}
use Rattle.hay_logical.specs.Volumes.{Volume}
use Rattle.hay_logical.specs.declared.fault.LogicalFault.{LogicalFault}
use Rattle.hay_logical.specs.declared.fault.LogicalFault.TheVariants as refusal
use Rattle.hay_cluster.specs.declared.put.Tried.{Tried}
use Rattle.hay_cluster.specs.declared.put.Tried.TheVariants.{Taker, Nobody}
use Rattle.hay_cluster.specs.State.{Stands}
use Rattle.hay_cluster.specs.Store.{Open}

-- volume v is thawed, and each of its replicas has room for a photo of this size
abbrev pub TakesPhoto : {D P A : Type 0} → Open D P A → ℕ → ℕ → Type 0
TakesPhoto {D} {P} store v size =
    (volume : Volume D P) → At store.volumes v volume → (volume.frozen ≡ None) × ((j : ℕ) (r : Copy D) → At volume.replicas j r → RoomFor size r)

-- the first of a pair's tries that does not refuse, or how each refuses
abbrev pub IsTried : Settings → Known → Pair → ℕ → Tried → Type 0
IsTried settings k pair size (Taker v) = find (λ volume. is_none (refusal_of settings k size volume)) (all_tries settings pair) ≡ Some v
IsTried settings k pair size (Nobody refused) = map (refusal_of settings k size) (all_tries settings pair) ≡ map Some refused

-- how a put is answered that all its tries refuse so
abbrev pub IsRefusal : List Refused → Reply → Type 0
IsRefusal refused (Full tries) = (tries ≡ refused) × (list_any wants_room refused ≡ true)
IsRefusal refused (ReadOnly closed) = map as_closed closed ≡ refused
IsRefusal refused NoMem = Unit {0}
IsRefusal refused _ = ⊥

-- how a put is answered whose pair got no home
abbrev pub settle_reply : DirFault → Reply
settle_reply settling.Frozen = ReadOnlyDir
settle_reply settling.NoMemory = NoMem
settle_reply (settling.Failed faults) = FailedDir faults

-- how a put is answered that volume v did not store
abbrev pub IsPutReply : ℕ → LogicalFault → Reply → Type 0
IsPutReply v (refusal.Failed m f) reply = reply ≡ Failed v m f
IsPutReply v (refusal.ReadOnly m) reply = IsRefusal (Closed v m ∷ []) reply
IsPutReply v (refusal.Full m end need capacity) reply = IsRefusal (NoRoom v m end need ∷ []) reply
IsPutReply v refusal.NoMemory reply = reply ≡ NoMem
IsPutReply v (refusal.Gone front) reply = ⊥
IsPutReply v (refusal.Busy m generation) reply = ⊥
IsPutReply v (refusal.Worn m) reply = ⊥
IsPutReply v refusal.Idle reply = ⊥
IsPutReply v (refusal.Damaged m at) reply = ⊥

-- what is answered when a photo is stored in volume v, which takes it, and what is known behind it
abbrev pub Stores : Settings → Known → CoreTag → Pair → List ℕ → ℕ → Reply → Known → Type 0
Stores settings k tag pair bytes v (Stored v' p d c) t =
    (v' ≡ v) × (p ≡ length (volume_at k v).log + 1) × (d ≡ length t.directory.rows) × (c ≡ cookie_of settings.secret pair.key)
    × Leaves k (change_volume k v (λ volume. with_put volume tag pair c bytes)) t
Stores settings k tag pair bytes v (Failed v' m f) t =
    (v' ≡ v) × ((replica : ℕ) × (replica_on settings v m ≡ Some replica) × RoseTo settings k v replica f t)
    × Leaves k (change_volume k v (frozen_with m tag (put_entry settings pair bytes) true)) t
Stores settings k tag pair bytes v NoMem t =
    Leaves k k t ⊎ Leaves k (change_volume k v (frozen_with (first_machine settings v) tag (put_entry settings pair bytes) false)) t
Stores settings k tag pair bytes v _ t = ⊥

pub record StoredAs {D P A : Type 0} (files : D → Files) (Tells : Type 0) (faults fuses : D → ℕ) (arm_faults : A → ℕ) (settings : Settings) (k : Known) (tag : CoreTag)
    (pair : Pair) (bytes : List ℕ) (v : ℕ) (reply : Reply) (store : Open D P A) : Type 0 where
  pub known : Known
  pub stores : Stores settings k tag pair bytes v reply known
  pub stands : Stands files Tells faults fuses arm_faults store known
