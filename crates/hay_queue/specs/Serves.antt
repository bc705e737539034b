-- Lanes of jobs that a few workers serve, each lane by one worker.
use Rattle.std.specs.Prelude.{◌≡◌, ℕ, ◌%◌, ◌<◌, ◌==◌, List, [], ◌∷◌, length, map, All, Some, slice_get, if◌then◌else◌}

-- one answer of a worker
pub record Step (J O : Type 0) : Type 0 where
  pub lane : ℕ
  pub job : J
  pub out : O

module _ {J O : Type 0} where
  -- the steps of one lane, in order
  abbrev pub steps_of : ℕ → List (Step J O) → List (Step J O)
  steps_of lane [] = []
  steps_of lane (s ∷ ss) = if s.lane == lane then s ∷ steps_of lane ss else steps_of lane ss

module _ {W J : Type 0} (may_answer : W → ℕ → J → Type 0) where
  -- each worker may be given each job of its lanes: lane L is worker L mod the number of workers
  abbrev pub MayServe : List W → List (List J) → Type 0
  MayServe workers jobs = (lane : ℕ) (w : W) (js : List J) → slice_get workers (lane % length workers) ≡ Some w → slice_get jobs lane ≡ Some js → All (may_answer w lane) js

  -- whatever a worker answers, in whatever lane, it may be given what it might be given before
  abbrev pub StaysReady : {O : Type 0} → (W → ℕ → J → W → O → Type 0) → Type 0
  StaysReady {O} answers = (w after : W) (lane other : ℕ) (job next : J) (out : O) → answers w lane job after out → may_answer w other next → may_answer after other next

module _ {W J O : Type 0} (answers : W → ℕ → J → W → O → Type 0) where
  -- a worker's answers, each by the worker as the answer before left it
  abbrev pub AnswersSteps : W → List (Step J O) → W → Type 0
  AnswersSteps w [] after = after ≡ w
  AnswersSteps w (s ∷ ss) after = (x : W) × answers w s.lane s.job x s.out × AnswersSteps x ss after

  -- a worker answers each job of its lanes once, each lane's in order, and no others, and the answers of a lane stand in its order
  pub record ServesSeat (seat seats : ℕ) (jobs : List (List J)) (w after : W) (outs : List (List O)) : Type 0 where
    pub steps : List (Step J O)
    pub answered : AnswersSteps w steps after
    pub own : All (λ (s : Step J O). (s.lane < length jobs) × (s.lane % seats ≡ seat)) steps
    pub each : (lane : ℕ) (js : List J) → lane % seats ≡ seat → slice_get jobs lane ≡ Some js
        → (slice_get outs lane ≡ Some (map (λ (s : Step J O). s.out) (steps_of lane steps))) × (map (λ (s : Step J O). s.job) (steps_of lane steps) ≡ js)

  -- each worker stands at its place afterwards and has served its lanes, and there is a list of answers for each lane
  pub record ServesLanes (workers : List W) (jobs : List (List J)) (after : List W) (outs : List (List O)) : Type 0 where
    pub workers_stay : length after ≡ length workers
    pub lanes_stay : length outs ≡ length jobs
    pub each : (seat : ℕ) (w : W) → slice_get workers seat ≡ Some w → (x : W) × (slice_get after seat ≡ Some x) × ServesSeat seat (length workers) jobs w x outs
