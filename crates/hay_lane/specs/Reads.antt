-- What the parts of a read tell.
use Rattle.std.specs.Prelude.{◌≡◌, ◌≢◌, ◌⊎◌, ℕ, ◌+◌, ◌%◌, ◌<◌, ◌≤◌, Bool, List, [], length, map, Result, Ok, IsErr}
use Rattle.hay_needle.specs.declared.needle.Pair.{Pair}
use Rattle.hay_needle.specs.declared.needle.Cookie.{Cookie}
use Rattle.hay_needle.specs.declared.needle.Outcome.{Outcome}
use Rattle.hay_needle.specs.declared.needle.Outcome.TheVariants as outcome
use Rattle.hay_needle.specs.declared.needle.Photo.{Photo as PhotoOf}
use Rattle.hay_needle.specs.declared.settings.Settings.{Settings}
use Rattle.hay_needle.specs.declared.total.TheConstants.{MAX_PHOTO}
use Rattle.hay_map.specs.Places.{place_in}
use Rattle.hay_map.specs.declared.place.Place.{Place}
use Rattle.hay_reply.specs.declared.Cause.{Cause}
use Rattle.hay_reply.specs.declared.Cause.TheVariants.{Damage, Disk}
use Rattle.hay_reply.specs.declared.Passed.{Passed}
use Rattle.hay_reply.specs.declared.Reply.{Reply}
use Rattle.hay_reply.specs.declared.Reply.TheVariants as reply
use Rattle.hay_core.specs.declared.entry.CoreTag.{CoreTag}
use Rattle.hay_legal.specs.Known.{machine_of}
use Rattle.hay_meeting.specs.Acts.{Start}
use Rattle.hay_meeting.specs.Sights.{Sight}
use Rattle.hay_holdings.specs.Lines.{Looking, PassedOver, Unchanged}
use Rattle.hay_holdings.specs.Sights.{AtVolume}
use Rattle.hay_holdings.specs.Volumes.{SightWanted}
use Rattle.hay_reader.specs.Causes.{ComeFirst, tried_from}
use Rattle.hay_reader.specs.Shown.{MayMean}
use Rattle.hay_reader.specs.declared.causes.PassedReplica.{PassedReplica}
use Rattle.hay_reader.specs.declared.seat.ReadReply.{ReadReply}
use Rattle.hay_reader.specs.declared.seat.ReadReply.TheVariants as read
use Rattle.hay_shared_volume.specs.declared.answers.Looked.{Looked}
use Rattle.hay_shared_volume.specs.declared.answers.SightFault.{SightFault}
use Rattle.hay_shared_volume.specs.declared.answers.SightFault.TheVariants as fault
use Rattle.hay_lane.specs.declared.reads.Found.{Found}
use Rattle.hay_lane.specs.declared.reads.Found.TheVariants as found

-- READS

abbrev pub replicas_in : List PassedReplica → List ℕ
replicas_in causes = map (λ over. over.replica) causes

abbrev pub causes_in : List PassedReplica → List Cause
causes_in causes = map (λ over. over.cause) causes

-- the places of a row that were looked at mean these outcomes by replica
abbrev pub RowMeans : {P : Type 0} → Type 0 → Settings → Pair → List (Place P) → (ℕ → Outcome) → Type 0
RowMeans Tells settings pair row what = (j : ℕ) → j < settings.replicas → MayMean Tells pair (place_in row j) (what j)

-- the next replica from `first` on, behind those that were passed over
pub record IsNext (first replicas : ℕ) (causes : List PassedReplica) (j : ℕ) : Type 0 where
  pub order : ComeFirst first replicas causes
  pub fewer : length causes < replicas
  pub next : j ≡ (first + length causes) % replicas

-- a read stops only at the next replica, behind so many at least
abbrev pub StopsBehind : ℕ → ℕ → ℕ → ReadReply → Type 0
StopsBehind first replicas n (read.Unseen j causes) = IsNext first replicas causes j × (n ≤ length causes)
StopsBehind first replicas n (read.Photo j) = Unit {0}
StopsBehind first replicas n (read.Gone j) = Unit {0}
StopsBehind first replicas n (read.WrongCookie j) = Unit {0}
StopsBehind first replicas n (read.Unreadable causes) = Unit {0}

-- the outcome is another cookie's photo
abbrev pub IsOther : Cookie → Outcome → Type 0
IsOther cookie what = (photo : PhotoOf) × (photo.cookie ≢ cookie) × (what ≡ outcome.Photo photo)

-- these replicas are so many, each once, from `first` on
abbrev pub AreAll : ℕ → ℕ → List PassedReplica → Type 0
AreAll first replicas causes = replicas_in causes ≡ tried_from first replicas replicas

-- One of so many replicas showed it, or each was passed over.
abbrev pub ShownWithin : ℕ → ℕ → ReadReply → Type 0
ShownWithin first replicas (read.Photo j) = j < replicas
ShownWithin first replicas (read.Gone j) = j < replicas
ShownWithin first replicas (read.WrongCookie j) = j < replicas
ShownWithin first replicas (read.Unseen j causes) = Unit {0}
ShownWithin first replicas (read.Unreadable causes) = AreAll first replicas causes

-- so with what was found, and a photo has at most as many bytes as the largest
abbrev pub FoundWithin : ℕ → ℕ → List ℕ → Found → Type 0
FoundWithin first replicas put (found.Photo j) = (j < replicas) × (length put ≤ MAX_PHOTO)
FoundWithin first replicas put (found.Gone j) = j < replicas
FoundWithin first replicas put (found.WrongCookie j) = j < replicas
FoundWithin first replicas put (found.Unreadable causes) = AreAll first replicas causes

-- what was read is what was found
abbrev pub IsFoundAs : ReadReply → Found → Type 0
IsFoundAs (read.Photo j) what = what ≡ found.Photo j
IsFoundAs (read.Gone j) what = what ≡ found.Gone j
IsFoundAs (read.WrongCookie j) what = what ≡ found.WrongCookie j
IsFoundAs (read.Unreadable causes) what = what ≡ found.Unreadable causes
IsFoundAs (read.Unseen j causes) what = ⊥

-- the causes for which a read passed over replicas, in their order
abbrev pub causes_read : ReadReply → List Cause
causes_read (read.Photo j) = []
causes_read (read.Gone j) = []
causes_read (read.WrongCookie j) = []
causes_read (read.Unseen j causes) = causes_in causes
causes_read (read.Unreadable causes) = causes_in causes

abbrev pub causes_found : Found → List Cause
causes_found (found.Photo j) = []
causes_found (found.Gone j) = []
causes_found (found.WrongCookie j) = []
causes_found (found.Unreadable causes) = causes_in causes

-- why a replica is passed over whose place was not seen
abbrev pub IsSightCause : {E : Type 0} → SightFault → Result Cause E → Type 0
IsSightCause (fault.Failed f) r = r ≡ Ok (Disk f)
IsSightCause (fault.Damaged at) r = r ≡ Ok (Damage at)
IsSightCause fault.NoMemory r = IsErr r

module _ (settings : Settings) (start : Start) (drained : List Bool) (tag : CoreTag) (pair : Pair) (d v first : ℕ) where
  -- These replicas come first and were passed over. The last look at the volume showed this front, and this at the pair by replica.
  pub record PassedFirst (p : ℕ) (what : ℕ → Outcome) (causes : List PassedReplica) (a b : Sight) : Type 0 where
    pub order : ComeFirst first settings.replicas causes
    pub looking : Looking settings start drained tag pair d v p what (replicas_in causes) (causes_in causes) a b

  -- this replica comes next, and had such an outcome
  pub record ShownBy (p : ℕ) (what : ℕ → Outcome) (j : ℕ) (IsSo : Outcome → Type 0) (a b : Sight) : Type 0 where
    pub causes : List PassedReplica
    pub passed : PassedFirst p what causes a b
    pub fewer : length causes < settings.replicas
    pub next : j ≡ (first + length causes) % settings.replicas
    pub is : IsSo (what j)

  -- each was passed over
  abbrev pub AllPassed : ℕ → (ℕ → Outcome) → List PassedReplica → Sight → Sight → Type 0
  AllPassed p what causes a b = PassedFirst p what causes a b × (length causes ≡ settings.replicas)

  -- for want of memory the volume may be frozen, behind replicas that were passed over
  pub record FrozeBehind (a b : Sight) : Type 0 where
    pub js : List ℕ
    pub causes : List Cause
    pub m : Sight
    pub over : PassedOver settings start drained tag pair d v js causes a m
    pub wanted : AtVolume v (SightWanted settings start v tag) m b

  abbrev pub ReadTells : Cookie → ℕ → (ℕ → Outcome) → List ℕ → ReadReply → Sight → Sight → Type 0
  ReadTells cookie p what put (read.Photo j) = ShownBy p what j (λ o. o ≡ outcome.Photo (record { cookie = cookie; bytes = put }))
  ReadTells cookie p what put (read.Gone j) = ShownBy p what j (λ o. o ≡ outcome.Nothing)
  ReadTells cookie p what put (read.WrongCookie j) = ShownBy p what j (IsOther cookie)
  ReadTells cookie p what put (read.Unseen j causes) = PassedFirst p what causes
  ReadTells cookie p what put (read.Unreadable causes) = AllPassed p what causes

  abbrev pub FoundTells : Cookie → ℕ → (ℕ → Outcome) → List ℕ → Found → Sight → Sight → Type 0
  FoundTells cookie p what put (found.Photo j) = ShownBy p what j (λ o. o ≡ outcome.Photo (record { cookie = cookie; bytes = put }))
  FoundTells cookie p what put (found.Gone j) = ShownBy p what j (λ o. o ≡ outcome.Nothing)
  FoundTells cookie p what put (found.WrongCookie j) = ShownBy p what j (IsOther cookie)
  FoundTells cookie p what put (found.Unreadable causes) = AllPassed p what causes

  -- a read of a row has come so far
  pub record HasRead {P : Type 0} (Tells : Type 0) (cookie : Cookie) (looked : Looked P) (put : List ℕ) (reply : ReadReply) (a b : Sight) : Type 0 where
    pub what : ℕ → Outcome
    pub means : RowMeans Tells settings pair looked.row what
    pub tells : ReadTells cookie looked.front what put reply a b

  -- this was found
  pub record HasFound (cookie : Cookie) (p : ℕ) (put : List ℕ) (found : Found) (a b : Sight) : Type 0 where
    pub what : ℕ → Outcome
    pub tells : FoundTells cookie p what put found a b

-- REPLIES

-- a replica of a volume that was passed over, by its machine
abbrev pub passed_at : Settings → ℕ → PassedReplica → Passed
passed_at settings v over = record { machine = machine_of settings v over.replica; cause = over.cause }

-- of what was found at a front of the pair's home, where there are so many rows
abbrev pub IsFoundReply : Settings → ℕ → ℕ → ℕ → List ℕ → Found → Reply → Type 0
IsFoundReply settings v p d put (found.Photo j) r = r ≡ reply.Photo v (machine_of settings v j) p d put
IsFoundReply settings v p d put (found.Gone j) r = r ≡ reply.Gone v (machine_of settings v j) p d
IsFoundReply settings v p d put (found.WrongCookie j) r = r ≡ reply.WrongCookie v (machine_of settings v j) p d
IsFoundReply settings v p d put (found.Unreadable causes) r = (r ≡ reply.Unreadable v p d (map (passed_at settings v) causes)) ⊎ (r ≡ reply.NoMem)

module _ (settings : Settings) (start : Start) (drained : List Bool) (tag : CoreTag) (pair : Pair) (cookie : Cookie) (d v first : ℕ) where
  -- the reply to what was found
  pub record RepliesFound (reply : Reply) (a b : Sight) : Type 0 where
    pub front : ℕ
    pub put : List ℕ
    pub found : Found
    pub is : IsFoundReply settings v front d put found reply
    pub tells : HasFound settings start drained tag pair d v first cookie front put found a b

  -- how a read of a pair's home is answered, where there are so many rows
  abbrev pub ShowTells : Reply → Sight → Sight → Type 0
  ShowTells r a b = RepliesFound r a b ⊎ ((r ≡ reply.NoMem) × (Unchanged tag a b ⊎ FrozeBehind settings start drained tag pair d v first a b))
