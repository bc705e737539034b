-- What a reply may be to each command, over whatever disks: what of it the command, its line's number and the settings fix.
use Rattle.std.specs.Prelude.{◌≡◌, ◌≢◌, ◌⊎◌, ℕ, ◌+◌, ◌<◌, ◌≤◌, ◌%◌, true, List, [], ◌∷◌, length, map, Option, Some, None}
use Rattle.std.specs.List.{AllZip, list_any}
use Rattle.hay_needle.specs.declared.needle.Pair.{Pair}
use Rattle.hay_needle.specs.declared.settings.Settings.{Settings}
use Rattle.hay_needle.specs.declared.total.TheConstants.{MAX_PHOTO}
use Rattle.hay_needle.specs.Sizes.{needle_total}
use Rattle.hay_url.specs.declared.Url.{Url as UrlParts}
use Rattle.hay_url.specs.Url.{cookie_of}
use Rattle.hay_script.specs.declared.Command.{Command}
use Rattle.hay_script.specs.declared.Command.TheVariants as asks
use Rattle.hay_reply.specs.declared.Refused.{Refused}
use Rattle.hay_reply.specs.declared.Refused.TheVariants.{NoRoom, Closed}
use Rattle.hay_reply.specs.declared.ClosedBy.{ClosedBy}
use Rattle.hay_reply.specs.declared.Passed.{Passed}
use Rattle.hay_reply.specs.declared.Reply.{Reply}
use Rattle.hay_reply.specs.declared.Reply.TheVariants.{Stored, Deleted, Photo, Gone, Absent, WrongCookie, Unknown, Moved, Url, Full, ReadOnly, ReadOnlyDir, Failed, FailedDir}
use Rattle.hay_reply.specs.declared.Reply.TheVariants.{Unreadable, Damaged, Flushed, Begun, Stepped, Compacted, Busy, Idle, Worn, Drained, Undrained, Fused, FusedDir, Nowhere}
use Rattle.hay_reply.specs.declared.Reply.TheVariants.{NoMem}
use Rattle.hay_legal.specs.declared.turn.Item.{Item}
use Rattle.hay_legal.specs.declared.turn.Item.TheVariants as item
use Rattle.hay_legal.specs.Known.{all_tries, machine_of, replica_on}
use Rattle.hay_legal.specs.Plain.{as_closed, order_from, wants_room}

-- the volume has a replica on this machine
abbrev pub IsOn : Settings → ℕ → ℕ → Type 0
IsOn settings v m = (replica : ℕ) × (replica_on settings v m ≡ Some replica)

-- the replica from which a line reads first
abbrev pub start_at : Settings → ℕ → ℕ
start_at settings line = line % settings.replicas

-- a command that names a replica: nowhere exactly where there is none, and otherwise what it may be answered there
abbrev pub AtReplica : Option ℕ → (ℕ → Reply → Type 0) → Reply → Type 0
AtReplica (Some replica) suits said = suits replica said ⊎ (said ≡ NoMem)
AtReplica None suits said = (said ≡ Nowhere) ⊎ (said ≡ NoMem)

-- PUTS

-- the volumes that a put may try: those of its pair in order, or its home alone
abbrev pub MayTry : Settings → Pair → List ℕ → Type 0
MayTry settings pair tries = (tries ≡ all_tries settings pair) ⊎ ((v : ℕ) × (v < settings.volumes) × (tries ≡ v ∷ []))

-- behind this end there is no room for a photo of this size, whose needle needs so many bytes
abbrev pub HasNoRoom : Settings → ℕ → ℕ → ℕ → Type 0
HasNoRoom settings size end need = (need ≡ needle_total size) × (settings.capacity < end + needle_total size + 8)

-- how one of them refuses a photo of this size: a replica lacks room, or a machine closes the volume
abbrev pub Refuses : Settings → ℕ → ℕ → Refused → Type 0
Refuses settings size v (NoRoom v' m end need) = (v' ≡ v) × IsOn settings v m × HasNoRoom settings size end need
Refuses settings size v (Closed v' m) = (v' ≡ v) × IsOn settings v m

abbrev pub IsRefusedBy : Settings → Pair → ℕ → List Refused → Type 0
IsRefusedBy settings pair size refused = (tries : List ℕ) × MayTry settings pair tries × AllZip (Refuses settings size) tries refused

abbrev pub SuitsPut : Settings → Pair → ℕ → Reply → Type 0
SuitsPut settings pair size said =
    ((v : ℕ) × (p : ℕ) × (d : ℕ) × (v < settings.volumes) × (said ≡ Stored v p d (cookie_of settings.secret pair.key)))
    ⊎ ((refused : List Refused) × IsRefusedBy settings pair size refused × (list_any wants_room refused ≡ true) × (said ≡ Full refused))
    ⊎ ((closed : List ClosedBy) × IsRefusedBy settings pair size (map as_closed closed) × (said ≡ ReadOnly closed))
    ⊎ (said ≡ ReadOnlyDir)
    ⊎ ((v : ℕ) × (m : ℕ) × (count : ℕ) × IsOn settings v m × (said ≡ Failed v m count))
    ⊎ ((count : ℕ) × (said ≡ FailedDir count))
    ⊎ (said ≡ NoMem)

-- READS

-- each replica of a volume is named once, in the order of a read that starts at this one
abbrev pub NamesEach : Settings → ℕ → ℕ → List Passed → Type 0
NamesEach settings start v causes = map (λ passed. passed.machine) causes ≡ map (machine_of settings v) (order_from settings start)

-- what a read that starts at this replica shows of a volume: a photo has at most as many bytes as the largest
abbrev pub ShowsOf : Settings → ℕ → ℕ → Reply → Type 0
ShowsOf settings start v said =
    ((m : ℕ) × (p : ℕ) × (d : ℕ) × (bytes : List ℕ) × IsOn settings v m × (length bytes ≤ MAX_PHOTO) × (said ≡ Photo v m p d bytes))
    ⊎ ((m : ℕ) × (p : ℕ) × (d : ℕ) × IsOn settings v m × (said ≡ Gone v m p d))
    ⊎ ((m : ℕ) × (p : ℕ) × (d : ℕ) × IsOn settings v m × (said ≡ WrongCookie v m p d))
    ⊎ ((p : ℕ) × (d : ℕ) × (causes : List Passed) × NamesEach settings start v causes × (said ≡ Unreadable v p d causes))

abbrev pub SuitsRead : Settings → ℕ → Reply → Type 0
SuitsRead settings start said =
    ((d : ℕ) × (said ≡ Unknown d))
    ⊎ ((v : ℕ) × (v < settings.volumes) × ShowsOf settings start v said)
    ⊎ (said ≡ NoMem)

-- a get shows the URL's volume, or names another
abbrev pub SuitsGet : Settings → UrlParts → ℕ → Reply → Type 0
SuitsGet settings url start said =
    ((d : ℕ) × (said ≡ Unknown d))
    ⊎ ((v : ℕ) × (d : ℕ) × (v < settings.volumes) × (v ≢ url.volume) × (said ≡ Moved v d))
    ⊎ ShowsOf settings start url.volume said

-- DELETES AND URLS

abbrev pub SuitsDel : Settings → Reply → Type 0
SuitsDel settings said =
    ((v : ℕ) × (p : ℕ) × (d : ℕ) × (v < settings.volumes) × (said ≡ Deleted v p d))
    ⊎ ((v : ℕ) × (p : ℕ) × (d : ℕ) × (v < settings.volumes) × (said ≡ Absent v p d))
    ⊎ ((d : ℕ) × (said ≡ Unknown d))
    ⊎ ((by : ClosedBy) × IsOn settings by.volume by.machine × (said ≡ ReadOnly (by ∷ [])))
    ⊎ ((v : ℕ) × (m : ℕ) × (count : ℕ) × IsOn settings v m × (said ≡ Failed v m count))
    ⊎ ((v : ℕ) × (m : ℕ) × (at : ℕ) × IsOn settings v m × (said ≡ Damaged v m at))
    ⊎ (said ≡ NoMem)

-- the URL by which this line would read the pair in a volume
abbrev pub url_in : Settings → ℕ → Pair → ℕ → UrlParts
url_in settings start pair v = record {
  machine = machine_of settings v start;
  volume = v;
  pair = pair;
  cookie = cookie_of settings.secret pair.key;
}

abbrev pub SuitsUrl : Settings → ℕ → Pair → Reply → Type 0
SuitsUrl settings start pair said =
    ((v : ℕ) × (d : ℕ) × (v < settings.volumes) × (said ≡ Url d (url_in settings start pair v)))
    ⊎ ((d : ℕ) × (said ≡ Unknown d))
    ⊎ (said ≡ NoMem)

-- WORK ON THE REPLICA OF VOLUME v ON MACHINE m

-- it was done, with some number
abbrev pub Does : (ℕ → Reply) → Reply → Type 0
Does did said = (n : ℕ) × (said ≡ did n)

-- the volume is frozen by a machine, or the replica's index
abbrev pub IsReadOnlyAt : Settings → ℕ → Reply → Type 0
IsReadOnlyAt settings v said = (by : ℕ) × IsOn settings v by × (said ≡ ReadOnly (record { volume = v; machine = by } ∷ []))

abbrev pub SuitsFlush : Settings → ℕ → ℕ → Reply → Type 0
SuitsFlush settings v m said = Does (Flushed v m) said ⊎ IsReadOnlyAt settings v said ⊎ Does (Failed v m) said

abbrev pub SuitsBegin : Settings → ℕ → ℕ → Reply → Type 0
SuitsBegin settings v m said = Does (Begun v m) said ⊎ IsReadOnlyAt settings v said ⊎ Does (Busy v m) said ⊎ (said ≡ Worn v m) ⊎ Does (Failed v m) said

-- a step and a finish
abbrev pub SuitsRun : Settings → (ℕ → Reply) → ℕ → ℕ → Reply → Type 0
SuitsRun settings did v m said = Does did said ⊎ IsReadOnlyAt settings v said ⊎ (said ≡ Idle v m) ⊎ Does (Failed v m) said ⊎ Does (Damaged v m) said

abbrev pub SuitsCompact : Settings → ℕ → ℕ → Reply → Type 0
SuitsCompact settings v m said =
    Does (Compacted v m) said ⊎ IsReadOnlyAt settings v said ⊎ Does (Busy v m) said ⊎ (said ≡ Worn v m) ⊎ Does (Failed v m) said ⊎ Does (Damaged v m) said

-- DRAINS AND FUSES, which take no memory

-- it was done where there is this machine, and is nowhere exactly where there is none
abbrev pub SuitsMachine : Settings → ℕ → Reply → Reply → Type 0
SuitsMachine settings m done said = ((m < settings.machines) × (said ≡ done)) ⊎ ((settings.machines ≤ m) × (said ≡ Nowhere))

-- so with a replica
abbrev pub SuitsFuse : Option ℕ → Reply → Reply → Type 0
SuitsFuse (Some replica) done said = said ≡ done
SuitsFuse None done said = said ≡ Nowhere

-- EVERY COMMAND

-- A reply is one that the command of this line may be given. A restart is not answered by one.
abbrev pub Suits : Settings → ℕ → Command → Reply → Type 0
Suits settings line (asks.Put pair photo) said = SuitsPut settings pair (length photo) said
Suits settings line (asks.Read pair cookie) said = SuitsRead settings (start_at settings line) said
Suits settings line (asks.Get url) said = AtReplica (replica_on settings url.volume url.machine) (SuitsGet settings url) said
Suits settings line (asks.Del pair) said = SuitsDel settings said
Suits settings line (asks.Url pair) said = SuitsUrl settings (start_at settings line) pair said
Suits settings line (asks.Flush v m) said = AtReplica (replica_on settings v m) (λ replica. SuitsFlush settings v m) said
Suits settings line (asks.Compact v m) said = AtReplica (replica_on settings v m) (λ replica. SuitsCompact settings v m) said
Suits settings line (asks.Begin v m) said = AtReplica (replica_on settings v m) (λ replica. SuitsBegin settings v m) said
Suits settings line (asks.Step v m cells) said = AtReplica (replica_on settings v m) (λ replica. SuitsRun settings (Stepped v m) v m) said
Suits settings line (asks.Finish v m) said = AtReplica (replica_on settings v m) (λ replica. SuitsRun settings (Compacted v m) v m) said
Suits settings line (asks.Drain m) said = SuitsMachine settings m (Drained m) said
Suits settings line (asks.Undrain m) said = SuitsMachine settings m (Undrained m) said
Suits settings line (asks.Fuse v m calls) said = SuitsFuse (replica_on settings v m) (Fused v m calls) said
Suits settings line (asks.FuseDir calls) said = said ≡ FusedDir calls
Suits settings line (asks.Restart pick) said = ⊥

-- so of a line that may be no command, of which nothing is said here
abbrev pub SuitsItem : Settings → ℕ → Item → Reply → Type 0
SuitsItem settings line (item.Command command) said = Suits settings line command said
SuitsItem settings line item.Bad said = Unit {0}
