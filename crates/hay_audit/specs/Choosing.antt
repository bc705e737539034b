-- What a restart may find, as code lists it.
use Rattle.std.specs.Prelude.{ℕ, map, List, [], ◌∷◌, ◌++◌, Option, Some, None, if◌then◌else◌}
use Rattle.hay_core.specs.declared.entry.Entry.{Entry}
use Rattle.hay_legal.specs.declared.known.HomeRow.{HomeRow}
use Rattle.hay_legal.specs.declared.known.Known.{Known}
use Rattle.hay_legal.specs.declared.known.VolumeKnown.{VolumeKnown}
use Rattle.hay_legal.specs.Restarts.{directory_with, undrained}
use Rattle.hay_audit_steps.specs.BoxReopen.{high_of, low_of, volume_of}
use Rattle.hay_audit_steps.specs.Boxes.{Box}
use Rattle.hay_audit_steps.specs.Parts.{Part, as_swapped, may_swap}
use Rattle.hay_audit_steps.specs.Slacks.{Slack}

abbrev pub with_bare : ℕ → Slack → Slack
with_bare bare slack = record slack { bare = bare }

abbrev pub part_list : Option Part → List Part
part_list None = []
part_list (Some part) = part ∷ []

-- the replica with its new file, if it may have it
abbrev pub swapped_parts : VolumeKnown → Part → List Entry → List Part
swapped_parts volume part kept = if may_swap volume part then as_swapped volume part kept ∷ [] else []

-- one more behind a list
abbrev pub behind : {X : Type 0} → List X → X → List X
behind front choice = front ++ choice ∷ []

-- a store but for its volumes, behind a restart
abbrev pub frame_of : Known → List HomeRow → Known
frame_of b rows = record b { volumes = []; directory = directory_with (b.directory.rows ++ rows); drained = map undrained b.drained }

-- with these volumes
abbrev pub stored_box : Known → List (List Part) → Box
stored_box frame store = record {
  base = record frame { volumes = map volume_of store };
  low = map (λ parts. map low_of parts) store;
  high = map (λ parts. map high_of parts) store;
}
