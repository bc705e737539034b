-- Which lanes a worker serves.
use Rattle.std.specs.Prelude.{ℕ, ◌+◌, ◌*◌}

-- the lane that is this client of a worker, which is one of so many seats
abbrev pub lane_at : ℕ → ℕ → ℕ → ℕ
lane_at seat seats client = seat + client * seats
