-- A worker at its lane, with the list of its answers.
use Rattle.std.specs.Prelude.{◌≡◌, ℕ, ◌≤◌, List, [], length, All, vec_capacity}
use Rattle.hay_lanes.specs.declared.run.LaneState.{LaneState}

-- the worker may be given each of the jobs, and there is room for the answers, of which there is none
pub record IsReady {W J O : Type 0} (may_answer : W → ℕ → J → Type 0) (lane : ℕ) (jobs : List J) (state : LaneState W J O) : Type 0 where
  pub empty : state.outs.items ≡ []
  pub room : length jobs ≤ vec_capacity state.outs
  pub may : All (may_answer state.worker lane) jobs
