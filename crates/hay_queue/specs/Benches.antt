-- A worker at its desk, and the answers to its lanes.
use Rattle.std.specs.Prelude.{◌≡◌, ◌↔◌, ℕ, ◌%◌, ◌/◌, ◌<◌, ◌≤◌, List, [], ◌∷◌, ◌++◌, length, replicate, map, take, All, Vec, Option, None, Some, slice_get, slice_set, vec_len, vec_capacity}
use Rattle.std.specs.Global.{Global}
use Rattle.hay_queue.specs.declared.rule.Stream.{Stream}
use Rattle.hay_queue.specs.declared.serve.Call.{Call}
use Rattle.hay_queue.specs.declared.serve.Post.{Post}
use Rattle.hay_queue.specs.declared.serve.Kit.{Kit}
use Rattle.hay_queue.specs.declared.serve.Senders.{Senders}
use Rattle.hay_queue.specs.declared.serve.Bench.{Bench}
use Rattle.hay_queue.specs.Desks.{DeskId, Sent, taken_at, AreNew}
use Rattle.hay_queue.specs.Serves.{Step, steps_of, AnswersSteps}
use Rattle.hay_queue.specs.Shares.{lane_at}
use Rattle.hay_queue.specs.Streams.{empty}

-- new clients of a desk, and room for their ends
pub record AreReady (desk : DeskId Call) (senders : Senders) : Type 0 where
  pub clients : AreNew desk (vec_len senders.clients) senders.clients.items
  pub ended : (senders.ended.items ≡ []) × (vec_len senders.clients ≤ vec_capacity senders.ended)

module _ (seat seats : ℕ) where
  -- so many clients: each is a lane of this seat, and each such lane is a client
  abbrev pub AreClients : {J : Type 0} → ℕ → List J → Type 0
  AreClients n jobs = (client : ℕ) → (client < n) ↔ (lane_at seat seats client < length jobs)

  -- a new desk of so many clients
  pub record IsPost (n : ℕ) (post : Post) : Type 0 where
    pub many : vec_len post.senders.clients ≡ n
    pub senders : AreReady post.desk post.senders
    pub taker : post.taker ≡ taken_at post.desk (replicate n empty)

  module _ {J O : Type 0} where
    -- of each client an empty list of answers with room for all
    pub record HasRooms (jobs : List (Vec J Global)) (n : ℕ) (outs : List (Vec O Global)) : Type 0 where
      pub many : length outs ≡ n
      pub room : (client : ℕ) (js : Vec J Global) (os : Vec O Global) → slice_get jobs (lane_at seat seats client) ≡ Some js → slice_get outs client ≡ Some os
          → (os.items ≡ []) × (length js.items ≤ vec_capacity os)

    -- what a worker needs for its lanes. Without a lane it has no desk
    pub record IsKit (jobs : List (Vec J Global)) (kit : Kit O) : Type 0 where
      pub clients : ℕ
      pub all : AreClients clients jobs
      pub rooms : HasRooms jobs clients kit.outs.items
      pub none : kit.post ≡ None → clients ≡ 0
      pub post : (p : Post) → kit.post ≡ Some p → (0 < clients) × IsPost clients p

  -- all clients have sent a call for each job of their lanes
  pub record AreSent {J : Type 0} (desk : DeskId Call) (jobs : List (Vec J Global)) (n : ℕ) (clients : List (Sent Call)) : Type 0 where
    pub many : length clients ≡ n
    pub each : (client : ℕ) (c : Sent Call) → slice_get clients client ≡ Some c → (c.desk ≡ desk) × (c.number ≡ client)
        × ((js : Vec J Global) → slice_get jobs (lane_at seat seats client) ≡ Some js → length c.names ≡ length js.items)

  -- a worker may be given each job of its lanes
  abbrev pub MayAnswerAll : {W J : Type 0} (may_answer : W → ℕ → J → Type 0) → List (Vec J Global) → W → Type 0
  MayAnswerAll {J = J} may_answer jobs w = (client : ℕ) (js : Vec J Global) → slice_get jobs (lane_at seat seats client) ≡ Some js → All (may_answer w (lane_at seat seats client)) js.items

  -- what the worker has answered is what was taken: of each client as many jobs of its lane as calls, or all
  pub record Serving {W J O : Type 0} (answers : W → ℕ → J → W → O → Type 0) (jobs : List (Vec J Global)) (w : W) (streams : List Stream) (after : W) (outs : List (Vec O Global)) : Type 0 where
    pub steps : List (Step J O)
    pub answered : AnswersSteps answers w steps after
    pub own : All (λ (s : Step J O). (client : ℕ) × (s.lane ≡ lane_at seat seats client) × (s.lane < length jobs)) steps
    pub many : length outs ≡ length streams
    pub room : (client : ℕ) (js : Vec J Global) (os : Vec O Global) → slice_get jobs (lane_at seat seats client) ≡ Some js → slice_get outs client ≡ Some os → length js.items ≤ vec_capacity os
    pub each : (client : ℕ) (s : Stream) (js : Vec J Global) (os : Vec O Global) → slice_get streams client ≡ Some s → slice_get jobs (lane_at seat seats client) ≡ Some js
        → slice_get outs client ≡ Some os
        → (map (λ (x : Step J O). x.out) (steps_of (lane_at seat seats client) steps) ≡ os.items)
        × (map (λ (x : Step J O). x.job) (steps_of (lane_at seat seats client) steps) ≡ take (length s.names) js.items)

  -- the worker has answered all jobs of all its lanes
  pub record Served {W J O : Type 0} (answers : W → ℕ → J → W → O → Type 0) (jobs : List (Vec J Global)) (w after : W) (outs : List (Vec O Global)) : Type 0 where
    pub steps : List (Step J O)
    pub answered : AnswersSteps answers w steps after
    pub own : All (λ (s : Step J O). (client : ℕ) × (s.lane ≡ lane_at seat seats client) × (s.lane < length jobs)) steps
    pub each : (client : ℕ) (js : Vec J Global) → slice_get jobs (lane_at seat seats client) ≡ Some js
        → (os : Vec O Global) × (slice_get outs client ≡ Some os) × (map (λ (x : Step J O). x.out) (steps_of (lane_at seat seats client) steps) ≡ os.items)
        × (map (λ (x : Step J O). x.job) (steps_of (lane_at seat seats client) steps) ≡ js.items)

-- a call at a place without a job changes nothing, and else one job of the lane is answered once more
pub record AnswersOne {W J O : Type 0} (answers : W → ℕ → J → W → O → Type 0) (lane client : ℕ) (job : J) (os : Vec O Global) (old new : Bench W J O) : Type 0 where
  pub out : O
  pub more : Vec O Global
  pub answered : answers old.worker lane job new.worker out
  pub kept : (more.items ≡ os.items ++ out ∷ []) × (vec_capacity more ≡ vec_capacity os)
  pub after : new.kit.outs.items ≡ slice_set old.kit.outs.items client more

pub record AnswersCall {W J O : Type 0} (answers : W → ℕ → J → W → O → Type 0) (lane client place : ℕ) (js : Vec J Global) (os : Vec O Global) (old new : Bench W J O) : Type 0 where
  pub some : (job : J) → slice_get js.items place ≡ Some job → AnswersOne answers lane client job os old new
  pub none : length js.items ≤ place → (new.worker ≡ old.worker) × (new.kit.outs.items ≡ old.kit.outs.items)

module _ {O : Type 0} where
  -- where the answers to a lane stand
  abbrev pub OutsAt : List (Kit O) → ℕ → ℕ → Vec O Global → Type 0
  OutsAt kits seats lane os = (kit : Kit O) × (slice_get kits (lane % seats) ≡ Some kit) × (slice_get kit.outs.items (lane / seats) ≡ Some os)

module _ {W J O : Type 0} where
  abbrev pub worker_in : Option (Bench W J O) → Option W
  worker_in (Some bench) = Some bench.worker
  worker_in None = None

  abbrev pub kit_in : Option (Bench W J O) → Option (Kit O)
  kit_in (Some bench) = Some bench.kit
  kit_in None = None

  -- a worker that may be given each job of its lanes, with what it needs for them
  pub record IsReady (seat seats : ℕ) (may_answer : W → ℕ → J → Type 0) (jobs : List (Vec J Global)) (slot : Option (Bench W J O)) : Type 0 where
    pub bench : Bench W J O
    pub there : slot ≡ Some bench
    pub kit : IsKit seat seats jobs bench.kit
    pub may : MayAnswerAll seat seats may_answer jobs bench.worker

  -- the worker has answered all jobs of all its lanes
  pub record IsServed (seat seats : ℕ) (answers : W → ℕ → J → W → O → Type 0) (jobs : List (Vec J Global)) (slot after : Option (Bench W J O)) : Type 0 where
    pub served : (bench : Bench W J O) → slot ≡ Some bench → (x : Bench W J O) × (after ≡ Some x) × Served seat seats answers jobs bench.worker x.worker x.kit.outs.items
