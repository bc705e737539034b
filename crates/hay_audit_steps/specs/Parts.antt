-- What a restart makes of a replica of which some sizes are not known, also where it is stuck or poised.
use Rattle.std.specs.Prelude.{◌≡◌, ℕ, ◌+◌, ◌-◌, ◌&&◌, nat_lt, Bool, true, false, List, [], ◌∷◌, length, None, if◌then◌else◌, ◌++◌, map}
use Rattle.std.specs.List.{AllZip, AllByRecursion as Each}
use Rattle.hay_needle.specs.Tables.{live_end}
use Rattle.hay_core.specs.declared.entry.Entry.{Entry}
use Rattle.hay_legal.specs.declared.known.ReplicaKnown.{ReplicaKnown}
use Rattle.hay_legal.specs.declared.known.VolumeKnown.{VolumeKnown}
use Rattle.hay_legal.specs.Known.{now}
use Rattle.hay_legal.specs.Restarts.{kept_entry, is_kept, with_entries, added_cells}
use Rattle.hay_audit_steps.specs.Slacks.{Slack, fill_replica, Lies, no_slack}
use Rattle.hay_audit_steps.specs.Reopen.{reopened_replica}

pub record Part : Type 0 where
  pub base : ReplicaKnown
  pub low : Slack
  pub high : Slack

-- the replica is one that the part stands for
pub record In (part : Part) (replica : ReplicaKnown) : Type 0 where
  pub slack : Slack
  pub least : Lies part.low slack
  pub most : Lies slack part.high
  pub is : replica ≡ fill_replica slack part.base

abbrev pub as_it_was : VolumeKnown → Part → List Entry → Bool → Part
as_it_was volume part kept false = record part { base = reopened_replica volume part.base kept }
as_it_was volume part kept true = record {
  base = record (reopened_replica volume part.base kept) { bare = 0 };
  low = record part.low { bare = 0 };
  high = record part.high { bare = part.base.bare + part.high.bare + added_cells kept };
}

abbrev pub end_above : VolumeKnown → Part → ℕ
end_above volume part = part.base.end + part.high.end

abbrev pub cells_above : VolumeKnown → Part → ℕ
cells_above volume part = part.base.cells + part.high.cells

abbrev pub as_swapped : VolumeKnown → Part → List Entry → Part
as_swapped volume part kept = record {
  base = record {
    base = with_entries (now volume part.base) kept;
    end = live_end (now volume part.base);
    cells = length (now volume part.base);
    bare = 0;
    generation = part.base.generation + 1;
    stuck = false;
    run = None;
    poised = false;
  };
  low = no_slack;
  high = record { end = end_above volume part - live_end (now volume part.base); cells = cells_above volume part - length (now volume part.base); bare = 0 };
}

abbrev pub may_swap : VolumeKnown → Part → Bool
may_swap volume part =
    part.base.poised && (nat_lt (live_end (now volume part.base)) (end_above volume part + 1) && nat_lt (length (now volume part.base)) (cells_above volume part + 1))

-- what a restart may find of it
abbrev pub reopened_parts : VolumeKnown → Part → List Entry → List Part
reopened_parts volume part kept =
    as_it_was volume part kept part.base.stuck ∷ (if may_swap volume part then as_swapped volume part kept ∷ [] else [])

-- ALL REPLICAS OF A VOLUME

-- the replicas are such as the parts stand for, one by one
abbrev pub InParts : List Part → List ReplicaKnown → Type 0
InParts parts replicas = AllZip In parts replicas

-- each first choice before each list of others
abbrev pub choices_with : {X : Type 0} → List X → List (List X) → List (List X)
choices_with [] rests = []
choices_with (first ∷ firsts) rests = map (λ rest. first ∷ rest) rests ++ choices_with firsts rests

-- what a restart may find of the replicas from number j on
abbrev pub reopened_choices : VolumeKnown → List Bool → ℕ → List Part → List (List Part)
reopened_choices volume kept j [] = [] ∷ []
reopened_choices volume kept j (part ∷ parts) =
    choices_with (reopened_parts volume part (kept_entry volume.pending (is_kept kept j))) (reopened_choices volume kept (j + 1) parts)

-- a volume that stands as another one, with replicas such as the parts stand for
pub record InVolumeParts (base : VolumeKnown) (parts : List Part) (volume : VolumeKnown) : Type 0 where
  pub same : volume ≡ record base { replicas = volume.replicas }
  pub replicas : InParts parts volume.replicas

-- the parts lie above the volume's replicas, and each stands for one replica at least
pub record ArePartsOf (volume : VolumeKnown) (parts : List Part) : Type 0 where
  pub bases : map (λ part. part.base) parts ≡ volume.replicas
  pub some : Each (λ part. Lies part.low part.high) parts
