-- What a user may rely on, as statements over lists of legal turns. They are proved in proofs/Subject.antt and proofs/Complete.antt.
use Rattle.std.specs.Prelude.{◌≡◌, ◌≢◌, ℕ, ◌+◌, ◌-◌, ◌^◌, ◌<◌, ◌≤◌, ◌⊎◌, List, [], ◌∷◌, ◌++◌, length, Contains, Option, Some, None, true}
use Rattle.std.specs.List.{AllByRecursion as Each}
use Rattle.hay_needle.specs.declared.needle.Pair.{Pair}
use Rattle.hay_needle.specs.declared.needle.Cookie.{Cookie}
use Rattle.hay_needle.specs.declared.needle.Outcome.TheVariants as outcome
use Rattle.hay_needle.specs.declared.settings.Settings.{Settings}
use Rattle.hay_needle.specs.Tables.{outcome_at}
use Rattle.hay_url.specs.declared.Url.{Url as UrlParts}
use Rattle.hay_url.specs.Url.{cookie_of}
use Rattle.hay_script.specs.declared.Command.{Command}
use Rattle.hay_script.specs.declared.Command.TheVariants as command
use Rattle.hay_reply.specs.declared.Note.{Note}
use Rattle.hay_reply.specs.declared.Note.TheVariants.{Kept, Lost}
use Rattle.hay_reply.specs.declared.Reply.{Reply}
use Rattle.hay_reply.specs.declared.Reply.TheVariants.{Stored, Deleted, Photo, Gone, WrongCookie, Unknown, Moved, Nowhere, Failed, FailedDir, Unreadable, Damaged, Restarted}
use Rattle.hay_reply.specs.declared.Reply.TheVariants.{NoMem, Absent, Url, Full, ReadOnly, ReadOnlyDir, Flushed, Begun, Stepped, Compacted, Busy, Idle, Worn, Drained, Undrained}
use Rattle.hay_reply.specs.declared.Reply.TheVariants.{Fused, FusedDir, BadLine}
use Rattle.hay_core.specs.declared.entry.Entry.{Entry}
use Rattle.hay_core.specs.declared.entry.Entry.TheVariants as entry
use Rattle.hay_core.specs.declared.entry.CoreTag.{CoreTag}
use Rattle.hay_core.specs.declared.entry.Logged.{Logged}
use Rattle.hay_legal.specs.declared.known.Pending.{Pending}
use Rattle.hay_legal.specs.declared.known.PendingRow.{PendingRow}
use Rattle.hay_legal.specs.declared.known.ReplicaKnown.{ReplicaKnown}
use Rattle.hay_legal.specs.declared.known.VolumeKnown.{VolumeKnown}
use Rattle.hay_legal.specs.declared.known.Known.{Known}
use Rattle.hay_legal.specs.declared.turn.Item.{Item}
use Rattle.hay_legal.specs.declared.turn.Item.TheVariants as item
use Rattle.hay_legal.specs.declared.turn.Turn.{Turn}
use Rattle.hay_legal.specs.declared.turn.Turn.TheVariants.{Plain, Lanes, Restart}
use Rattle.hay_needle.specs.Sizes.{needle_total}
use Rattle.hay_legal.specs.Known.{now, volume_at, replica_at, replica_on, home_of, tries_of, closed}
use Rattle.hay_legal.specs.Plain.{DirectoryOpen, IsSeen}
use Rattle.hay_legal.specs.Blocks.{acknowledged}
use Rattle.hay_legal.specs.Legal.{Legal, known_after}

-- LISTS OF TURNS

-- what a store that stood at k stands at behind these turns
abbrev pub known_behind : Known → List Turn → Known
known_behind k [] = k
known_behind k (turn ∷ turns) = known_behind (known_after turn) turns

abbrev pub IsNoRestart : Turn → Type 0
IsNoRestart (Plain line item reply after) = Unit {0}
IsNoRestart (Lanes items logs rows after) = Unit {0}
IsNoRestart (Restart line pick reply notes after) = ⊥

-- A store of these settings: it has their volumes and replicas, and each home, also one that is pending, is one of its volumes.
pub record IsOf (settings : Settings) (k : Known) : Type 0 where
  pub volumes : length k.volumes ≡ settings.volumes
  pub replicas : (v : ℕ) → v < settings.volumes → length (volume_at k v).replicas ≡ settings.replicas
  pub homes : Each (λ row. row.volume < settings.volumes) k.directory.rows
  pub pending : (pending : PendingRow) → k.directory.pending ≡ Some pending → (pending.row).volume < settings.volumes

-- THE LAST CHANGE OF A PAIR

abbrev pub pair_of : Entry → Pair
pair_of (entry.Put pair cookie bytes) = pair
pair_of (entry.Del pair) = pair

-- no entry is of the pair
abbrev pub Spares : Pair → List Logged → Type 0
Spares pair log = Each (λ logged. pair_of logged.entry ≢ pair) log

-- The last entry of the pair is this one.
pub record IsLast (log : List Logged) (pair : Pair) (change : Entry) : Type 0 where
  pub front : List Logged
  pub tag : CoreTag
  pub back : List Logged
  pub parts : log ≡ front ++ record { tag = tag; entry = change } ∷ back
  pub own : pair_of change ≡ pair
  pub spared : Spares pair back

-- The last change of the pair put this photo, or there was no change and the replica began with it.
abbrev pub HasPhoto : VolumeKnown → ReplicaKnown → Pair → Cookie → List ℕ → Type 0
HasPhoto volume replica pair cookie bytes =
    IsLast volume.log pair (entry.Put pair cookie bytes)
    ⊎ (Spares pair volume.log × (outcome_at replica.base pair ≡ outcome.Photo (record { cookie = cookie; bytes = bytes })))

-- The last change of the pair deleted it, or there was no change and the replica began without it.
abbrev pub HasNothing : VolumeKnown → ReplicaKnown → Pair → Type 0
HasNothing volume replica pair =
    IsLast volume.log pair (entry.Del pair) ⊎ (Spares pair volume.log × (outcome_at replica.base pair ≡ outcome.Nothing))

-- A PHOTO THAT IS SHOWN IS THE LAST CHANGE

abbrev pub AsksFor : Command → Pair → Cookie → Type 0
AsksFor (command.Read pair' cookie') pair cookie = (pair' ≡ pair) × (cookie' ≡ cookie)
AsksFor (command.Get url) pair cookie = (url.pair ≡ pair) × (url.cookie ≡ cookie)
AsksFor _ pair cookie = ⊥

-- The replica on this machine, of the pair's home, has what is said, at the present fronts.
pub record IsSeenOn (settings : Settings) (k : Known) (pair : Pair) (v m p d : ℕ) (Has : VolumeKnown → ReplicaKnown → Type 0) : Type 0 where
  pub home : home_of k pair ≡ Some v
  pub replica : ℕ
  pub there : replica_on settings v m ≡ Some replica
  pub front : p ≡ length (volume_at k v).log
  pub rows : d ≡ length k.directory.rows
  pub has : Has (volume_at k v) (replica_at (volume_at k v) replica)

abbrev pub IsTrueOf : Settings → Known → Pair → Cookie → Reply → Type 0
IsTrueOf settings k pair cookie (Photo v m p d bytes) = IsSeenOn settings k pair v m p d (λ volume replica. HasPhoto volume replica pair cookie bytes)
IsTrueOf settings k pair cookie (Gone v m p d) = IsSeenOn settings k pair v m p d (λ volume replica. HasNothing volume replica pair)
IsTrueOf settings k pair cookie (WrongCookie v m p d) =
    (other : Cookie) × (bytes : List ℕ) × (other ≢ cookie)
    × IsSeenOn settings k pair v m p d (λ volume replica. HasPhoto volume replica pair other bytes)
IsTrueOf settings k pair cookie (Unreadable v p d causes) = IsSeen k pair v p d
IsTrueOf settings k pair cookie (Unknown d) = (home_of k pair ≡ None) × (d ≡ length k.directory.rows)
IsTrueOf settings k pair cookie (Moved v d) = (home_of k pair ≡ Some v) × (d ≡ length k.directory.rows)
IsTrueOf settings k pair cookie Nowhere = Unit {0}
IsTrueOf settings k pair cookie NoMem = Unit {0}
IsTrueOf settings k pair cookie _ = ⊥

-- Each reply to a reader is true of what the store stood at before its turn. Where its URL is of no replica, and for want of memory,
-- it says nothing of the store.
abbrev pub ShowsTheLastChange : Type 0
ShowsTheLastChange =
    (settings : Settings) (k t : Known) (earlier later : List Turn) (line : ℕ) (request : Command) (reply : Reply) (after : Known) (pair : Pair) (cookie : Cookie)
    → Legal settings k (earlier ++ Plain line (item.Command request) reply after ∷ later) t
    → AsksFor request pair cookie
    → IsTrueOf settings (known_behind k earlier) pair cookie reply

-- WHAT CHANGES A LOG

-- The entry is now the last one of the volume's log, at this position, and each other log stays.
pub record IsAppended (k : Known) (v p : ℕ) (logged : Logged) (t : Known) : Type 0 where
  pub here : (volume_at t v).log ≡ (volume_at k v).log ++ logged ∷ []
  pub position : p ≡ length (volume_at t v).log
  pub elsewhere : (w : ℕ) → w ≢ v → (volume_at t w).log ≡ (volume_at k w).log

-- A put that was answered stored is the last entry of its volume's log, and the volume is the pair's home.
abbrev pub StoredIsTheLastEntry : Type 0
StoredIsTheLastEntry =
    (settings : Settings) (k t : Known) (earlier later : List Turn) (line : ℕ) (pair : Pair) (bytes : List ℕ) (v p d : ℕ) (c : Cookie) (after : Known)
    → IsOf settings k
    → Legal settings k (earlier ++ Plain line (item.Command (command.Put pair bytes)) (Stored v p d c) after ∷ later) t
    → IsAppended (known_behind k earlier) v p (record { tag = record { lane = 0; line = line }; entry = entry.Put pair c bytes }) after
    × (c ≡ cookie_of settings.secret pair.key) × (home_of after pair ≡ Some v)

-- A delete that was answered deleted likewise.
abbrev pub DeletedIsTheLastEntry : Type 0
DeletedIsTheLastEntry =
    (settings : Settings) (k t : Known) (earlier later : List Turn) (line : ℕ) (pair : Pair) (v p d : ℕ) (after : Known)
    → IsOf settings k
    → Legal settings k (earlier ++ Plain line (item.Command (command.Del pair)) (Deleted v p d) after ∷ later) t
    → IsAppended (known_behind k earlier) v p (record { tag = record { lane = 0; line = line }; entry = entry.Del pair }) after
    × (home_of after pair ≡ Some v)

-- Each plain turn that is answered neither so nor so leaves every log as it was.
abbrev pub OthersLeaveTheLogs : Type 0
OthersLeaveTheLogs =
    (settings : Settings) (k t : Known) (earlier later : List Turn) (line : ℕ) (item : Item) (reply : Reply) (after : Known)
    → Legal settings k (earlier ++ Plain line item reply after ∷ later) t
    → acknowledged reply ≡ None
    → (v : ℕ) → (volume_at after v).log ≡ (volume_at (known_behind k earlier) v).log

-- Until the next restart the logs only grow, over blocks too.
abbrev pub LogsGrow : Type 0
LogsGrow =
    (settings : Settings) (k t : Known) (turns : List Turn) (v : ℕ)
    → Legal settings k turns t → Each IsNoRestart turns → v < settings.volumes
    → (new : List Logged) × ((volume_at t v).log ≡ (volume_at k v).log ++ new)

-- WHAT IS READ BEHIND A CHANGE

-- the pair whose change a plain turn acknowledges, if it does
abbrev pub changed_pair : Item → Reply → Option Pair
changed_pair item.Bad reply = None
changed_pair (item.Command asked) reply = changed_by asked (acknowledged reply)
  where
    changed_by : Command → Option (ℕ × ℕ) → Option Pair
    changed_by (command.Put pair bytes) (Some at) = Some pair
    changed_by (command.Put pair bytes) None = None
    changed_by (command.Del pair) (Some at) = Some pair
    changed_by (command.Del pair) None = None
    changed_by (command.Read pair cookie) at = None
    changed_by (command.Get url) at = None
    changed_by (command.Url pair) at = None
    changed_by (command.Flush v m) at = None
    changed_by (command.Compact v m) at = None
    changed_by (command.Begin v m) at = None
    changed_by (command.Step v m cells) at = None
    changed_by (command.Finish v m) at = None
    changed_by (command.Drain m) at = None
    changed_by (command.Undrain m) at = None
    changed_by (command.Fuse v m calls) at = None
    changed_by (command.FuseDir calls) at = None
    changed_by (command.Restart pick) at = None

-- a plain turn that acknowledges no change of the pair
abbrev pub LeavesAlone : Pair → Turn → Type 0
LeavesAlone pair (Plain line item reply after) = changed_pair item reply ≢ Some pair
LeavesAlone pair (Lanes items logs rows after) = ⊥
LeavesAlone pair (Restart line pick reply notes after) = ⊥

-- A reply to a reader that says nothing of what stands at the pair: every replica was passed over, memory was wanting, or a
-- URL is not of the pair's home.
abbrev pub SaysNothing : Reply → Type 0
SaysNothing (Unreadable v p d causes) = Unit {0}
SaysNothing NoMem = Unit {0}
SaysNothing (Moved v d) = Unit {0}
SaysNothing Nowhere = Unit {0}
SaysNothing _ = ⊥

abbrev pub IsReadAs : List ℕ → Reply → Type 0
IsReadAs bytes (Photo v m p d bytes') = bytes' ≡ bytes
IsReadAs bytes reply = SaysNothing reply

abbrev pub IsRefusedAsGone : Reply → Type 0
IsRefusedAsGone (Gone v m p d) = Unit {0}
IsRefusedAsGone reply = SaysNothing reply

abbrev pub IsRefusedForItsCookie : Reply → Type 0
IsRefusedForItsCookie (WrongCookie v m p d) = Unit {0}
IsRefusedForItsCookie reply = SaysNothing reply

-- Behind a put that was answered stored, and until the next change of the pair is acknowledged, each read with the cookie
-- of the pair shows what was put, and each read with another cookie is refused for it.
abbrev pub StoredIsRead : Type 0
StoredIsRead =
    (settings : Settings) (k t : Known) (earlier between later : List Turn) (line line' : ℕ) (pair : Pair) (bytes : List ℕ) (v p d : ℕ) (c : Cookie) (after after' : Known)
    (request : Command) (cookie : Cookie) (reply : Reply)
    → IsOf settings k
    → Legal settings k
    (earlier ++ Plain line (item.Command (command.Put pair bytes)) (Stored v p d c) after
    ∷ (between ++ Plain line' (item.Command request) reply after' ∷ later)) t
    → Each (LeavesAlone pair) between → AsksFor request pair cookie
    → (cookie ≡ cookie_of settings.secret pair.key → IsReadAs bytes reply)
    × (cookie ≢ cookie_of settings.secret pair.key → IsRefusedForItsCookie reply)

-- Behind a delete that was answered deleted, and until a put of the pair is answered stored, each read is answered gone,
-- whatever its cookie.
abbrev pub DeletedIsGone : Type 0
DeletedIsGone =
    (settings : Settings) (k t : Known) (earlier between later : List Turn) (line line' : ℕ) (pair : Pair) (v p d : ℕ) (after after' : Known)
    (request : Command) (cookie : Cookie) (reply : Reply)
    → IsOf settings k
    → Legal settings k
    (earlier ++ Plain line (item.Command (command.Del pair)) (Deleted v p d) after
    ∷ (between ++ Plain line' (item.Command request) reply after' ∷ later)) t
    → Each (LeavesAlone pair) between → AsksFor request pair cookie
    → IsRefusedAsGone reply

-- WHAT IS READ BEHIND RESTARTS

-- no note says that a replica of the volume kept the change of this line
abbrev pub NoneKept : List Note → ℕ → ℕ → Type 0
NoneKept notes v line = (m : ℕ) → Contains notes (Kept v m line) → ⊥

-- no note says that a replica of the volume lost the change of this line
abbrev pub NoneLost : List Note → ℕ → ℕ → Type 0
NoneLost notes v line = (m : ℕ) → Contains notes (Lost v m line) → ⊥

-- each change of the pair that was pending is lost, as the notes say
abbrev pub LosesChanges : Settings → Pair → Known → List Note → Type 0
LosesChanges settings pair k notes =
    (v : ℕ) (pending : Pending) → v < settings.volumes → (volume_at k v).pending ≡ Some pending → pair_of pending.entry ≡ pair
    → NoneKept notes v (pending.tag).line

-- a turn from k that makes no change of the pair: a plain one that acknowledges none, or a restart that keeps none
abbrev pub LeavesAloneFrom : Settings → Pair → Known → Turn → Type 0
LeavesAloneFrom settings pair k (Plain line item reply after) = changed_pair item reply ≢ Some pair
LeavesAloneFrom settings pair k (Lanes items logs rows after) = ⊥
LeavesAloneFrom settings pair k (Restart line pick reply notes after) = IsReopened reply × LosesChanges settings pair k notes
  where
    IsReopened : Reply → Type 0
    IsReopened (Restarted d) = Unit {0}
    IsReopened _ = ⊥

abbrev pub AllLeaveAlone : Settings → Pair → Known → List Turn → Type 0
AllLeaveAlone settings pair k [] = Unit {0}
AllLeaveAlone settings pair k (turn ∷ turns) = LeavesAloneFrom settings pair k turn × AllLeaveAlone settings pair (known_after turn) turns

-- Behind a put that was answered stored, over plain turns and restarts until the next change of the pair is acknowledged or
-- kept: a put or a delete that failed, and that the notes call lost, does not count.
abbrev pub StoredIsReadBehindRestarts : Type 0
StoredIsReadBehindRestarts =
    (settings : Settings) (k t : Known) (earlier between later : List Turn) (line line' : ℕ) (pair : Pair) (bytes : List ℕ) (v p d : ℕ) (c : Cookie) (after after' : Known)
    (request : Command) (cookie : Cookie) (reply : Reply)
    → IsOf settings k → 0 < settings.replicas
    → Legal settings k
    (earlier ++ Plain line (item.Command (command.Put pair bytes)) (Stored v p d c) after
    ∷ (between ++ Plain line' (item.Command request) reply after' ∷ later)) t
    → AllLeaveAlone settings pair after between → AsksFor request pair cookie
    → (cookie ≡ cookie_of settings.secret pair.key → IsReadAs bytes reply)
    × (cookie ≢ cookie_of settings.secret pair.key → IsRefusedForItsCookie reply)

-- A put that was answered failed is pending, and the volume is the pair's home.
abbrev pub FailedPutIsPending : Type 0
FailedPutIsPending =
    (settings : Settings) (k t : Known) (earlier later : List Turn) (line : ℕ) (pair : Pair) (bytes : List ℕ) (v m f : ℕ) (after : Known)
    → IsOf settings k
    → Legal settings k (earlier ++ Plain line (item.Command (command.Put pair bytes)) (Failed v m f) after ∷ later) t
    → ((volume_at after v).pending ≡ Some (record { tag = record { lane = 0; line = line }; entry = entry.Put pair (cookie_of settings.secret pair.key) bytes; failed = true }))
    × (home_of after pair ≡ Some v)

-- a turn that is neither a block nor a restart
abbrev pub IsPlain : Turn → Type 0
IsPlain (Plain line item reply after) = Unit {0}
IsPlain (Lanes items logs rows after) = ⊥
IsPlain (Restart line pick reply notes after) = ⊥

-- A put that was answered failed, and that the notes of the next restart call kept, counts as the last change of its pair:
-- each read behind that restart shows it, until the next change of the pair is acknowledged or kept.
abbrev pub FailedPutThatWasKeptIsRead : Type 0
FailedPutThatWasKeptIsRead =
    (settings : Settings) (k t : Known) (earlier waiting between later : List Turn) (line line' line'' pick d : ℕ) (notes : List Note)
    (pair : Pair) (bytes : List ℕ) (v m f : ℕ) (after after' after'' : Known) (request : Command) (cookie : Cookie) (reply : Reply)
    → IsOf settings k → 0 < settings.replicas
    → Legal settings k
    (earlier ++ Plain line (item.Command (command.Put pair bytes)) (Failed v m f) after
    ∷ (waiting ++ Restart line' pick (Restarted d) notes after'
    ∷ (between ++ Plain line'' (item.Command request) reply after'' ∷ later))) t
    → Each IsPlain waiting
    → NoneLost notes v line
    → AllLeaveAlone settings pair after' between → AsksFor request pair cookie
    → (cookie ≡ cookie_of settings.secret pair.key → IsReadAs bytes reply)
    × (cookie ≢ cookie_of settings.secret pair.key → IsRefusedForItsCookie reply)

-- A put that was pending, and that the notes of a restart call kept, counts as the last change of its pair.
abbrev pub KeptIsRead : Type 0
KeptIsRead =
    (settings : Settings) (k t : Known) (earlier between later : List Turn) (line line' pick d : ℕ) (notes : List Note) (pair : Pair) (own : Cookie) (bytes : List ℕ)
    (v : ℕ) (pending : Pending) (after after' : Known) (request : Command) (cookie : Cookie) (reply : Reply)
    → IsOf settings k → 0 < settings.replicas
    → Legal settings k
    (earlier ++ Restart line pick (Restarted d) notes after ∷ (between ++ Plain line' (item.Command request) reply after' ∷ later)) t
    → (volume_at (known_behind k earlier) v).pending ≡ Some pending → pending.entry ≡ entry.Put pair own bytes
    → home_of (known_behind k earlier) pair ≡ Some v
    → NoneLost notes v (pending.tag).line
    → AllLeaveAlone settings pair after between → AsksFor request pair cookie
    → (cookie ≡ own → IsReadAs bytes reply) × (cookie ≢ own → IsRefusedForItsCookie reply)

-- So does a delete, until the next restart.
abbrev pub KeptIsGone : Type 0
KeptIsGone =
    (settings : Settings) (k t : Known) (earlier between later : List Turn) (line line' pick d : ℕ) (notes : List Note) (pair : Pair)
    (v : ℕ) (pending : Pending) (after after' : Known) (request : Command) (cookie : Cookie) (reply : Reply)
    → IsOf settings k → 0 < settings.replicas
    → Legal settings k
    (earlier ++ Restart line pick (Restarted d) notes after ∷ (between ++ Plain line' (item.Command request) reply after' ∷ later)) t
    → (volume_at (known_behind k earlier) v).pending ≡ Some pending → pending.entry ≡ entry.Del pair
    → home_of (known_behind k earlier) pair ≡ Some v
    → NoneLost notes v (pending.tag).line
    → Each (LeavesAlone pair) between → AsksFor request pair cookie
    → IsRefusedAsGone reply

-- Each photo is in the home of its pair alone, and each pending change is on the home of its pair.
pub record IsTidy (settings : Settings) (k : Known) : Type 0 where
  pub photos : (v j : ℕ) (pair : Pair) → v < settings.volumes → j < settings.replicas →
      (outcome_at (now (volume_at k v) (replica_at (volume_at k v) j)) pair ≡ outcome.Nothing) ⊎ (home_of k pair ≡ Some v)
  pub pending : (v : ℕ) (pending : Pending) → (volume_at k v).pending ≡ Some pending → home_of k (pair_of pending.entry) ≡ Some v

-- Over turns of every kind a store stays tidy, as it is when it was formatted.
abbrev pub TidyStays : Type 0
TidyStays =
    (settings : Settings) (k t : Known) (turns : List Turn)
    → IsOf settings k → IsTidy settings k → Legal settings k turns t
    → IsTidy settings t

-- a reader that is shown no photo, and finds no cookie wrong
abbrev pub IsRefusedAsAbsent : Reply → Type 0
IsRefusedAsAbsent (Gone v m p d) = Unit {0}
IsRefusedAsAbsent (Unknown d) = Unit {0}
IsRefusedAsAbsent reply = SaysNothing reply

-- Behind a delete that was answered deleted, over plain turns and restarts until a put of the pair is stored or kept.
abbrev pub DeletedIsGoneBehindRestarts : Type 0
DeletedIsGoneBehindRestarts =
    (settings : Settings) (k t : Known) (earlier between later : List Turn) (line line' : ℕ) (pair : Pair) (v p d : ℕ) (after after' : Known)
    (request : Command) (cookie : Cookie) (reply : Reply)
    → IsOf settings k → IsTidy settings (known_behind k earlier)
    → Legal settings k
    (earlier ++ Plain line (item.Command (command.Del pair)) (Deleted v p d) after
    ∷ (between ++ Plain line' (item.Command request) reply after' ∷ later)) t
    → AllLeaveAlone settings pair after between → AsksFor request pair cookie
    → IsRefusedAsAbsent reply

-- WHERE NOTHING FAILS

-- No count of a disk or of an arm rose, and none stands at its end.
pub record NothingFailed (k t : Known) : Type 0 where
  pub faults : t.faults ≡ k.faults
  pub arms : t.arms ≡ k.arms
  pub disks : Each (λ count. count < 2 ^ 64 - 1) k.faults
  pub lanes : Each (λ count. count < 2 ^ 64 - 1) k.arms

-- No disk and no arm is blamed.
abbrev pub BlamesNothing : Reply → Type 0
BlamesNothing (Failed v m f) = ⊥
BlamesNothing (FailedDir f) = ⊥
BlamesNothing (Damaged v m at) = ⊥
BlamesNothing (Unreadable v p d causes) = ⊥
BlamesNothing (Stored v p d c) = Unit {0}
BlamesNothing (Deleted v p d) = Unit {0}
BlamesNothing (Photo v m p d bytes) = Unit {0}
BlamesNothing (Gone v m p d) = Unit {0}
BlamesNothing (Absent v p d) = Unit {0}
BlamesNothing (WrongCookie v m p d) = Unit {0}
BlamesNothing (Unknown d) = Unit {0}
BlamesNothing (Moved v d) = Unit {0}
BlamesNothing (Url d url) = Unit {0}
BlamesNothing (Full tries) = Unit {0}
BlamesNothing (ReadOnly tries) = Unit {0}
BlamesNothing ReadOnlyDir = Unit {0}
BlamesNothing (Flushed v m n) = Unit {0}
BlamesNothing (Begun v m g) = Unit {0}
BlamesNothing (Stepped v m n) = Unit {0}
BlamesNothing (Compacted v m g) = Unit {0}
BlamesNothing (Busy v m g) = Unit {0}
BlamesNothing (Idle v m) = Unit {0}
BlamesNothing (Worn v m) = Unit {0}
BlamesNothing (Drained m) = Unit {0}
BlamesNothing (Undrained m) = Unit {0}
BlamesNothing (Fused v m n) = Unit {0}
BlamesNothing (FusedDir n) = Unit {0}
BlamesNothing Nowhere = Unit {0}
BlamesNothing (Restarted d) = Unit {0}
BlamesNothing BadLine = Unit {0}
BlamesNothing NoMem = Unit {0}

-- Where nothing failed, no reply blames a disk or an arm.
abbrev pub NothingIsBlamed : Type 0
NothingIsBlamed =
    (settings : Settings) (k t : Known) (earlier later : List Turn) (line : ℕ) (item : Item) (reply : Reply) (after : Known)
    → 0 < settings.replicas
    → Legal settings k (earlier ++ Plain line item reply after ∷ later) t
    → NothingFailed k t
    → BlamesNothing reply

-- A volume that is the pair's home, or any where it has none, is open, and has room on each replica.
pub record MayTake (settings : Settings) (k : Known) (pair : Pair) (size v : ℕ) : Type 0 where
  pub tried : Contains (tries_of settings k pair) v
  pub «open» : closed settings k v ≡ None
  pub room : Each (λ replica. replica.end + needle_total size + 8 ≤ settings.capacity) (volume_at k v).replicas

abbrev pub IsStoredOrNoMem : Reply → Type 0
IsStoredOrNoMem (Stored v p d c) = Unit {0}
IsStoredOrNoMem NoMem = Unit {0}
IsStoredOrNoMem _ = ⊥

-- Where nothing failed, a put that some volume may take is stored, if memory suffices and the Directory is open to its row.
abbrev pub TakenPutIsStored : Type 0
TakenPutIsStored =
    (settings : Settings) (k t : Known) (earlier later : List Turn) (line : ℕ) (pair : Pair) (bytes : List ℕ) (reply : Reply) (after : Known) (v : ℕ)
    → Legal settings k (earlier ++ Plain line (item.Command (command.Put pair bytes)) reply after ∷ later) t
    → NothingFailed k t
    → MayTake settings (known_behind k earlier) pair (length bytes) v
    → DirectoryOpen (known_behind k earlier) pair
    → IsStoredOrNoMem reply

-- Each replica of the pair's home has this photo.
pub record HasEverywhere (settings : Settings) (k : Known) (pair : Pair) (cookie : Cookie) (bytes : List ℕ) : Type 0 where
  pub volume : ℕ
  pub home : home_of k pair ≡ Some volume
  pub each : (j : ℕ) → j < settings.replicas → HasPhoto (volume_at k volume) (replica_at (volume_at k volume) j) pair cookie bytes

abbrev pub IsShownOrNoMem : List ℕ → Reply → Type 0
IsShownOrNoMem bytes (Photo v m p d bytes') = bytes' ≡ bytes
IsShownOrNoMem bytes NoMem = Unit {0}
IsShownOrNoMem bytes _ = ⊥

-- Where nothing failed, a read with its cookie of a photo that stands on each replica shows it, if memory suffices.
abbrev pub StandingPhotoIsShown : Type 0
StandingPhotoIsShown =
    (settings : Settings) (k t : Known) (earlier later : List Turn) (line : ℕ) (pair : Pair) (cookie : Cookie) (bytes : List ℕ) (reply : Reply) (after : Known)
    → 0 < settings.replicas
    → Legal settings k (earlier ++ Plain line (item.Command (command.Read pair cookie)) reply after ∷ later) t
    → NothingFailed k t
    → HasEverywhere settings (known_behind k earlier) pair cookie bytes
    → IsShownOrNoMem bytes reply

-- So does a get by a URL of the home, on a machine that has a replica.
abbrev pub StandingPhotoIsGot : Type 0
StandingPhotoIsGot =
    (settings : Settings) (k t : Known) (earlier later : List Turn) (line : ℕ) (url : UrlParts) (bytes : List ℕ) (reply : Reply) (after : Known) (replica : ℕ)
    → 0 < settings.replicas
    → Legal settings k (earlier ++ Plain line (item.Command (command.Get url)) reply after ∷ later) t
    → NothingFailed k t
    → HasEverywhere settings (known_behind k earlier) url.pair url.cookie bytes
    → home_of (known_behind k earlier) url.pair ≡ Some url.volume
    → replica_on settings url.volume url.machine ≡ Some replica
    → IsShownOrNoMem bytes reply
