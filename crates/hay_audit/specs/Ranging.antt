-- Boxes, as code makes them.
use Rattle.std.specs.Prelude.{ℕ, ◌≤◌, ◌<◌, ◌+◌, ◌-◌, ◌==◌, ◌⊎◌, ◌&&◌, nat_lt, Bool, List, [], ◌∷◌, map, if◌then◌else◌, slice_index_or, Option, Some, None, option_map}
use Rattle.hay_needle.specs.Sizes.{needle_total}
use Rattle.hay_needle.specs.declared.settings.Settings.{Settings}
use Rattle.hay_reply.specs.declared.Refused.{Refused}
use Rattle.hay_reply.specs.declared.Refused.TheVariants.{NoRoom}
use Rattle.hay_legal.specs.declared.known.ReplicaKnown.{ReplicaKnown}
use Rattle.hay_legal.specs.declared.known.Run.{Run}
use Rattle.hay_legal.specs.declared.known.Known.{Known}
use Rattle.hay_legal.specs.Known.{machine_of, volume_at}
use Rattle.hay_legal.specs.Plain.{change_replica, replica_of}
use Rattle.hay_audit_steps.specs.BoxNext.{may_finish}
use Rattle.hay_audit_steps.specs.Boxes.{Box, IsPlace, fill_replicas, set_slack, slack_at}
use Rattle.hay_audit_steps.specs.Next.{is_least, is_open, names}
use Rattle.hay_audit_steps.specs.Places.{copied_all, copied_some, is_between, more_cells, part_at, with_part}
use Rattle.hay_audit_steps.specs.Slacks.{Slack}

-- a box above this state
abbrev pub ranging : List (List Slack) → List (List Slack) → Known → Box
ranging low high k = record { base = k; low = low; high = high }

-- the end of a replica, where it is lowest
abbrev pub end_of : Known → ℕ → ℕ → ℕ
end_of k v j = (replica_of k v j).end

abbrev pub with_end : ℕ → Slack → Slack
with_end end slack = record slack { end = end }

abbrev pub with_cells : ℕ → Slack → Slack
with_cells cells slack = record slack { cells = cells }

abbrev pub without_bare : Slack → Slack
without_bare slack = record slack { bare = 0 }

-- the replicas of a volume, with the lowest sizes
abbrev pub low_replicas : Box → ℕ → List ReplicaKnown
low_replicas box v = fill_replicas (slice_index_or box.low v []) (volume_at box.base v).replicas

-- a volume refuses for the room of this replica, which has this end
abbrev pub room_refused : Settings → ℕ → ℕ → Option (ℕ × ℕ) → Option Refused
room_refused settings v size lacking = option_map (λ at. NoRoom v (machine_of settings v at.0) at.1 (needle_total size)) lacking

-- the ends of a replica that is there lie on one side of this one
pub record IsDecidedAt (box : Box) (v j most : ℕ) : Type 0 where
  pub low : IsPlace box.low v j
  pub high : IsPlace box.high v j
  pub some : (slack_at box.low v j).end ≤ (slack_at box.high v j).end
  pub side : ((slack_at box.high v j).end ≤ most) ⊎ (most < (slack_at box.low v j).end)

-- the box with a change of a replica, and other ranges there
abbrev pub with_range : Box → ℕ → ℕ → (ReplicaKnown → ReplicaKnown) → Slack → Slack → Box
with_range box v j change low high = record { base = change_replica box.base v j change; low = set_slack box.low v j low; high = set_slack box.high v j high }

-- where all cells that were left were copied, and where those that were asked for
abbrev pub all_copied : Box → ℕ → ℕ → Run → ℕ → List Box
all_copied box v j run n =
    map (with_part box v j)
    (if is_least run.left n && is_between (slack_at box.low v j).cells (n - run.left) (slack_at box.high v j).cells then copied_all (part_at box v j) run n ∷ [] else [])

abbrev pub some_copied : Box → ℕ → ℕ → Run → ℕ → List Box
some_copied box v j run n =
    map (with_part box v j)
    (if is_least (more_cells (part_at box v j) run n) (slack_at box.high v j).cells then copied_some (part_at box v j) run n ∷ [] else [])

-- a compaction that stands may end so
abbrev pub is_finish : Known → ℕ → ℕ → ℕ → ℕ → ℕ → ℕ → Bool
is_finish b v m j v' m' g = names v m v' m' && (is_open b v && (may_finish b v j && (g == (replica_of b v j).generation + 1)))

abbrev pub fits_file : ℕ → ℕ → ℕ → ℕ → Bool
fits_file end cells most many = nat_lt end (most + 1) && nat_lt cells (many + 1)
