-- What clauses see of a desk, its clients and its worker.
use Rattle.std.specs.Prelude.{◌≡◌, ℕ, ◌+◌, ◌<◌, Bool, true, false, List, [], ◌∷◌, ◌++◌, length, All, Some, slice_get, slice_set}
use Rattle.atomic_table.specs.Seated.{TableId}
use Rattle.atomic_table.specs.declared.badge.Badge.{Badge}
use Rattle.crossbeam_channel.specs.Claims.{Pass, view}
use Rattle.crossbeam_channel.specs.declared.flavors.array.Doing.{Doing}
use Rattle.crossbeam_channel.specs.declared.flavors.array.Key.{Key}
use Rattle.crossbeam_channel.specs.declared.flavors.array.Rows.{Rows}
use Rattle.hay_queue.specs.declared.message.Message.{Message}
use Rattle.hay_queue.specs.declared.rule.Knows.{Knows}
use Rattle.hay_queue.specs.declared.rule.Stream.{Stream}
use Rattle.hay_queue.specs.Streams.{stream}

-- which desk it is
abbrev pub DeskId : Type 0 → Type 0
DeskId J = TableId × Badge (Key (Message J))

module _ {J V Q M L A : Type 0} where
  abbrev pub id_of : Rows (Badge (Key (Message J))) (Doing (Message J) V) Q M (Key (Message J)) L A → DeskId J
  id_of queue = (queue.stamps.shared.table_id, queue.stamps.shared.key)

-- a client's desk, its number there, and the names that it has sent
pub record Sent (J : Type 0) : Type 0 where
  pub desk : DeskId J
  pub number : ℕ
  pub names : List ℕ

-- a worker's desk, and what it has taken of each client
pub record Taken (J : Type 0) : Type 0 where
  pub desk : DeskId J
  pub streams : List Stream

module _ {J : Type 0} where
  abbrev pub sent_by : DeskId J → ℕ → List ℕ → Sent J
  sent_by desk number names = record { desk = desk; number = number; names = names }

  abbrev pub taken_at : DeskId J → List Stream → Taken J
  taken_at desk streams = record { desk = desk; streams = streams }

  -- the desk that a pass is of
  abbrev pub desk_of : Pass (Message J) Knows → DeskId J
  desk_of pass = (pass.table_id, pass.me.0.of)

  -- what a client's pass has sent
  abbrev pub sent_of : Pass (Message J) Knows → Sent J
  sent_of pass = sent_by (desk_of pass) (view pass).number (view pass).sent.names

  -- what a worker's pass has taken
  abbrev pub taken_of : Pass (Message J) Knows → Taken J
  taken_of pass = taken_at (desk_of pass) (view pass).heard

  -- a client's pass, which is in no call
  pub record IsClient (pass : Pass (Message J) Knows) (ended : Bool) : Type 0 where
    pub rests : pass.me.1 ≡ []
    pub sends : (view pass).sends ≡ true
    pub ends : (view pass).sent.ended ≡ ended

  -- a worker's pass, which is in no call
  pub record IsWorker (pass : Pass (Message J) Knows) : Type 0 where
    pub rests : pass.me.1 ≡ []
    pub takes : (view pass).takes ≡ true

  -- these are so many new clients, in the order of their numbers
  abbrev pub AreNew : DeskId J → ℕ → List (Sent J) → Type 0
  AreNew desk n clients = (length clients ≡ n) × ((i : ℕ) (c : Sent J) → slice_get clients i ≡ Some c → c ≡ sent_by desk i [])

  -- all clients of a desk of n clients are among these, which are all of this desk
  pub record AreAll (desk : DeskId J) (n : ℕ) (clients : List (Sent J)) : Type 0 where
    pub own : All (λ (c : Sent J). (c.desk ≡ desk) × (c.number < n)) clients
    pub each : (number : ℕ) → number < n → (i : ℕ) × (c : Sent J) × (slice_get clients i ≡ Some c) × (c.number ≡ number)

-- each client's end was taken
abbrev pub AllEnded : List Stream → Type 0
AllEnded streams = All (λ (s : Stream). s.ended ≡ true) streams

-- how many clients' ends were not taken
abbrev pub if_unended : Bool → ℕ
if_unended true = 0
if_unended false = 1

abbrev pub unended_streams : List Stream → ℕ
unended_streams [] = 0
unended_streams (s ∷ ss) = if_unended s.ended + unended_streams ss

-- no job was taken, and perhaps ends
pub record TakesEnds (old new : List Stream) : Type 0 where
  pub clients : length new ≡ length old
  pub each : (client : ℕ) (s t : Stream) → slice_get old client ≡ Some s → slice_get new client ≡ Some t → (t.names ≡ s.names) × (s.ended ≡ true → t.ended ≡ true)

-- perhaps ends were taken, and then the next job of a client whose end was not
pub record TakesJob (old new : List Stream) (client place name : ℕ) : Type 0 where
  pub between : List Stream
  pub names : List ℕ
  pub ends : TakesEnds old between
  pub going_on : slice_get between client ≡ Some (stream names false)
  pub next : place ≡ length names
  pub after : new ≡ slice_set between client (stream (names ++ name ∷ []) false)
