-- The boxes behind a line that changes the sizes of one replica.
use Rattle.std.specs.Prelude.{ℕ, ◌+◌, ◌-◌, ◌==◌, ◌&&◌, max, not, nat_lt, Bool, List, [], ◌∷◌, map, Option, Some, None, if◌then◌else◌}
use Rattle.hay_legal.specs.declared.known.Run.{Run}
use Rattle.hay_legal.specs.declared.known.ReplicaKnown.{ReplicaKnown}
use Rattle.hay_legal.specs.Plain.{change_replica, replica_of, swapped, with_bare}
use Rattle.hay_audit_steps.specs.BoxNext.{least_end, least_cells}
use Rattle.hay_audit_steps.specs.Boxes.{Box, set_slack, slack_at}
use Rattle.hay_audit_steps.specs.Next.{is_least, is_open, is_resting, names}
use Rattle.hay_audit_steps.specs.Parts.{Part}
use Rattle.hay_audit_steps.specs.Slacks.{no_slack}

-- a replica of a box, with its ranges
abbrev pub part_at : Box → ℕ → ℕ → Part
part_at box v j = record { base = replica_of box.base v j; low = slack_at box.low v j; high = slack_at box.high v j }

abbrev pub put_part : Part → ReplicaKnown → ReplicaKnown
put_part part old = part.base

-- the box with another replica there
abbrev pub with_part : Box → ℕ → ℕ → Part → Box
with_part box v j part = record {
  base = change_replica box.base v j (put_part part);
  low = set_slack box.low v j part.low;
  high = set_slack box.high v j part.high;
}

abbrev pub is_between : ℕ → ℕ → ℕ → Bool
is_between low n high = is_least low n && is_least n high

-- A FLUSH, WHICH TELLS HOW MANY CELLS HAD NO RECORD

abbrev pub flushed_part : Part → Part
flushed_part part = record { base = with_bare 0 part.base; low = record part.low { bare = 0 }; high = record part.high { bare = 0 } }

abbrev pub flushed_parts : Part → ℕ → List Part
flushed_parts part n = if is_between (part.base.bare + part.low.bare) n (part.base.bare + part.high.bare) then flushed_part part ∷ [] else []

abbrev pub flushed_boxes : Box → ℕ → ℕ → ℕ → ℕ → ℕ → ℕ → List Box
flushed_boxes box v m j v' m' n =
    if names v m v' m' && (is_open box.base v && not (replica_of box.base v j).stuck)
    then map (with_part box v j) (flushed_parts (part_at box v j) n)
    else []

-- A STEP, WHICH TELLS HOW MANY CELLS WERE COPIED

-- all that were left: so many
abbrev pub copied_all : Part → Run → ℕ → Part
copied_all part run n = record {
  base = record part.base { cells = part.base.cells + (n - run.left); run = Some (record run { left = 0 }) };
  low = record part.low { cells = 0 };
  high = record part.high { cells = 0 };
}

-- the least that the cells lie above the lowest where so many were left
abbrev pub more_cells : Part → Run → ℕ → ℕ
more_cells part run n = max part.low.cells (n - run.left)

-- as many as were asked for
abbrev pub copied_some : Part → Run → ℕ → Part
copied_some part run n = record {
  base = record part.base { cells = part.base.cells + more_cells part run n; run = Some (record run { left = run.left + more_cells part run n - n }) };
  low = record part.low { cells = 0 };
  high = record part.high { cells = part.high.cells - more_cells part run n };
}

abbrev pub copied_parts : Part → Run → ℕ → ℕ → List Part
copied_parts part run cells n =
    if nat_lt n cells
    then (if is_least run.left n && is_between part.low.cells (n - run.left) part.high.cells then copied_all part run n ∷ [] else [])
    else (if (n == cells) && is_least (more_cells part run n) part.high.cells then copied_some part run n ∷ [] else [])

abbrev pub stepped_parts : Part → Option Run → ℕ → ℕ → List Part
stepped_parts part None cells n = []
stepped_parts part (Some run) cells n = copied_parts part run cells n

abbrev pub stepped_boxes : Box → ℕ → ℕ → ℕ → ℕ → ℕ → ℕ → ℕ → List Box
stepped_boxes box v m j cells v' m' n =
    if names v m v' m' && is_open box.base v
    then map (with_part box v j) (stepped_parts (part_at box v j) (replica_of box.base v j).run cells n)
    else []

-- A COMPACTION IN ONE COMMAND, WHICH LEAVES EXACT SIZES

abbrev pub tight_part : Box → ℕ → ℕ → Part
tight_part box v j = record { base = swapped (least_end box.base v j) (least_cells box.base v j) (replica_of box.base v j); low = no_slack; high = no_slack }

abbrev pub compacted_boxes : Box → ℕ → ℕ → ℕ → ℕ → ℕ → ℕ → List Box
compacted_boxes box v m j v' m' g =
    if names v m v' m' && (is_open box.base v && (is_resting box.base v j && (g == (replica_of box.base v j).generation + 1)))
    then map (with_part box v j) (tight_part box v j ∷ [])
    else []
