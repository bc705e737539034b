-- What a read shows.
use Rattle.std.specs.Prelude.{◌≡◌, ◌≢◌, ℕ, ◌+◌, ◌%◌, ◌<◌, ◌≤◌, List, [], length, slice_get, Some, Ok}
use Rattle.std.specs.List.{AllByRecursion}
use Rattle.hay_needle.specs.declared.needle.Cookie.{Cookie}
use Rattle.hay_needle.specs.declared.needle.Outcome.{Outcome}
use Rattle.hay_needle.specs.declared.needle.Outcome.TheVariants as outcome
use Rattle.hay_needle.specs.declared.needle.Pair.{Pair}
use Rattle.hay_needle.specs.declared.needle.Photo.{Photo}
use Rattle.hay_needle.specs.declared.total.TheConstants.{MAX_PHOTO}
use Rattle.hay_map.specs.Places.{PlaceMeans, place_in}
use Rattle.hay_map.specs.declared.place.Place.{Place}
use Rattle.hay_map.specs.declared.place.Place.TheVariants as place
use Rattle.hay_reader.specs.Tried.{PlaceGives, ShowsSeen}
use Rattle.hay_reader.specs.Causes.{ArmUse, Passes, PassesRow, PassedBefore, IsArm, IsDamage, passed_now}
use Rattle.hay_reader.specs.declared.causes.PassedReplica.{PassedReplica}
use Rattle.hay_reader.specs.declared.trial.Shown.{Shown}
use Rattle.hay_reader.specs.declared.trial.Shown.TheVariants as shown
use Rattle.hay_reader.specs.declared.seat.ReadReply.{ReadReply}
use Rattle.hay_reader.specs.declared.seat.ReadReply.TheVariants as reply

-- the reply where this replica showed it, and the replicas before it were passed over
abbrev pub reply_at : ℕ → List PassedReplica → Shown → ReadReply
reply_at j causes shown.Photo = reply.Photo j
reply_at j causes shown.Gone = reply.Gone j
reply_at j causes shown.WrongCookie = reply.WrongCookie j
reply_at j causes shown.Unseen = reply.Unseen j causes

-- this replica showed the reply
abbrev pub ShowsAt : ℕ → ReadReply → Type 0
ShowsAt j (reply.Photo i) = i ≡ j
ShowsAt j (reply.Gone i) = i ≡ j
ShowsAt j (reply.WrongCookie i) = i ≡ j
ShowsAt j (reply.Unseen i causes) = ⊥
ShowsAt j (reply.Unreadable causes) = ⊥

-- This replica showed the reply, by the bytes that were read when its place was seen; `put` are those that were put out.
abbrev pub ShowsRead : {P : Type 0} → Cookie → List ℕ → List ℕ → List PassedReplica → ℕ → Place P → ReadReply → Type 0
ShowsRead cookie put bytes passed j at read = (what : Shown) × ShowsSeen cookie put bytes at what × (read ≡ reply_at j passed what)

-- The replicas that come before this one were passed over, and its place gives what is shown.
pub record ShowsPlace {P : Type 0} (Tells : Type 0) (arm : ArmUse) (start : ℕ) (row : List (Place P)) (cookie : Cookie) (passed causes : List PassedReplica) (put : List ℕ) (j : ℕ)
    (what : Shown) : Type 0 where
  pub before : PassesRow Tells arm start row cookie passed causes
  pub fewer : length causes < length row
  pub next : j ≡ (start + length causes) % length row
  pub gives : PlaceGives Tells arm.sure cookie put (place_in row j) (Ok what)

-- what a reply says of a row's places, where some replicas were passed over before; `put` are the bytes that were put out
abbrev pub ReadsRow : {P : Type 0} → Type 0 → ArmUse → ℕ → List (Place P) → Cookie → List PassedReplica → List ℕ → ReadReply → Type 0
ReadsRow Tells arm start row cookie passed put (reply.Photo j) =
    (causes : List PassedReplica) × ShowsPlace Tells arm start row cookie passed causes put j shown.Photo
ReadsRow Tells arm start row cookie passed put (reply.Gone j) =
    (causes : List PassedReplica) × ShowsPlace Tells arm start row cookie passed causes put j shown.Gone
ReadsRow Tells arm start row cookie passed put (reply.WrongCookie j) =
    (causes : List PassedReplica) × ShowsPlace Tells arm start row cookie passed causes put j shown.WrongCookie
ReadsRow Tells arm start row cookie passed put (reply.Unseen j causes) = ShowsPlace Tells arm start row cookie passed causes put j shown.Unseen
ReadsRow Tells arm start row cookie passed put (reply.Unreadable causes) =
    PassesRow Tells arm start row cookie passed causes × (length causes ≡ length row)

-- a place that was looked at means this outcome, and one that was not may mean any
abbrev pub MayMean : {P : Type 0} → Type 0 → Pair → Place P → Outcome → Type 0
MayMean {P} Tells pair (place.Live needle) what = PlaceMeans {P = P} Tells pair (place.Live needle) what
MayMean {P} Tells pair place.None what = PlaceMeans {P = P} Tells pair place.None what
MayMean {P} Tells pair place.Gone what = PlaceMeans {P = P} Tells pair place.Gone what
MayMean Tells pair (place.Unseen at size) what = Unit {0}

-- The replica showed this outcome.
pub record Shows (start before after : ℕ) (passed : List PassedReplica) (outcomes : List Outcome) (j : ℕ) (what : Outcome) : Type 0 where
  pub stands : slice_get outcomes j ≡ Some what
  pub tried : PassedBefore start (length outcomes) passed j before after

-- what a reply says of the outcomes that the replicas have; `bytes` are those that the photo has
abbrev pub ReadAnswers : ℕ → Cookie → ℕ → ℕ → List PassedReplica → List Outcome → List ℕ → ReadReply → Type 0
ReadAnswers start cookie before after passed outcomes bytes (reply.Photo j) =
    Shows start before after passed outcomes j (outcome.Photo (record { cookie = cookie; bytes = bytes }))
ReadAnswers start cookie before after passed outcomes bytes (reply.Gone j) = Shows start before after passed outcomes j outcome.Nothing
ReadAnswers start cookie before after passed outcomes bytes (reply.WrongCookie j) =
    (photo : Photo) × (photo.cookie ≢ cookie) × Shows start before after passed outcomes j (outcome.Photo photo)
ReadAnswers start cookie before after passed outcomes bytes (reply.Unseen j causes) =
    AllByRecursion (λ over. IsArm over.cause) (passed_now passed causes)
ReadAnswers start cookie before after passed outcomes bytes (reply.Unreadable causes) =
    AllByRecursion (λ over. IsArm over.cause) (passed_now passed causes)

-- the replicas that are told of were passed over, each with its cause
abbrev pub HasCauses : {P : Type 0} → ℕ → List (Place P) → ℕ → ℕ → List PassedReplica → ReadReply → Type 0
HasCauses start row before after passed (reply.Unreadable causes) = Passes start (length row) before after passed causes × (length causes ≡ length row)
HasCauses start row before after passed (reply.Unseen j causes) =
    Passes start (length row) before after passed causes × (length causes < length row) × (j ≡ (start + length causes) % length row)
HasCauses start row before after passed (reply.Photo j) = Unit {0}
HasCauses start row before after passed (reply.Gone j) = Unit {0}
HasCauses start row before after passed (reply.WrongCookie j) = Unit {0}

-- in this call no arm is a cause
abbrev pub NoArm : List PassedReplica → ReadReply → Type 0
NoArm passed (reply.Unreadable causes) = AllByRecursion (λ over. IsDamage over.cause) (passed_now passed causes)
NoArm passed (reply.Unseen j causes) = AllByRecursion (λ over. IsDamage over.cause) (passed_now passed causes)
NoArm passed (reply.Photo j) = Unit {0}
NoArm passed (reply.Gone j) = Unit {0}
NoArm passed (reply.WrongCookie j) = Unit {0}

-- only a photo has bytes, and at most so many
abbrev pub HasBytes : List ℕ → ReadReply → Type 0
HasBytes bytes (reply.Photo j) = length bytes ≤ MAX_PHOTO
HasBytes bytes (reply.Gone j) = bytes ≡ []
HasBytes bytes (reply.WrongCookie j) = bytes ≡ []
HasBytes bytes (reply.Unseen j causes) = bytes ≡ []
HasBytes bytes (reply.Unreadable causes) = bytes ≡ []
