-- The boxes behind a restart of a whole store, from its notes.
use Rattle.std.specs.Prelude.{ℕ, ◌+◌, ◌==◌, Bool, true, false, List, [], ◌∷◌, ◌++◌, length, map, slice_get, Option, Some, None, if◌then◌else◌}
use Rattle.hay_needle.specs.declared.settings.Settings.{Settings}
use Rattle.hay_core.specs.declared.entry.Entry.{Entry}
use Rattle.hay_core.specs.declared.entry.Entry.TheVariants.{Put, Del}
use Rattle.hay_reply.specs.declared.Note.{Note}
use Rattle.hay_reply.specs.declared.Reply.{Reply}
use Rattle.hay_reply.specs.declared.Reply.TheVariants.{Restarted}
use Rattle.hay_legal.specs.declared.known.Pending.{Pending}
use Rattle.hay_legal.specs.declared.known.HomeRow.{HomeRow}
use Rattle.hay_legal.specs.declared.known.ReplicaKnown.{ReplicaKnown}
use Rattle.hay_legal.specs.declared.known.VolumeKnown.{VolumeKnown}
use Rattle.hay_legal.specs.declared.known.Known.{Known}
use Rattle.hay_legal.specs.Known.{empty_volume}
use Rattle.hay_legal.specs.Restarts.{directory_with, undrained}
use Rattle.hay_audit_steps.specs.Boxes.{Box, part_of}
use Rattle.hay_audit_steps.specs.Parts.{Part, choices_with, reopened_choices}
use Rattle.hay_audit_steps.specs.Reopen.{Read, all_below, kept_on, new_rows, read_kept, says}
use Rattle.hay_audit_steps.specs.Slacks.{Slack}

-- WHICH REPLICAS KEEP A PENDING CHANGE

-- the first so many, and no more
abbrev pub is_front : List Bool → Bool
is_front [] = true
is_front (true ∷ kept) = is_front kept
is_front (false ∷ kept) = all_below (λ j. says false (slice_get kept j)) (length kept)

abbrev pub kept_first : Entry → List Bool → Bool
kept_first (Put pair cookie bytes) kept = is_front kept
kept_first (Del pair) kept = all_below (λ j. says true (slice_get kept j)) (length kept)

abbrev pub may_keep : Settings → ℕ → VolumeKnown → Pending → Bool → List Bool → Bool
may_keep settings v volume pending true kept = kept_on settings v volume pending.entry volume.frozen kept
may_keep settings v volume pending false kept = kept_first pending.entry kept

abbrev pub kept_if : Settings → ℕ → VolumeKnown → Pending → Option (Read (List Bool)) → Option (Read (List Bool))
kept_if settings v volume pending None = None
kept_if settings v volume pending (Some read) = if may_keep settings v volume pending pending.failed read.value then Some read else None

abbrev pub volume_kept : Settings → ℕ → VolumeKnown → List Note → Option Pending → Option (Read (List Bool))
volume_kept settings v volume notes None = Some (record { value = []; rest = notes })
volume_kept settings v volume notes (Some pending) = kept_if settings v volume pending (read_kept settings v (pending.tag).line 0 volume.replicas notes)

-- THE VOLUMES

abbrev pub parts_of : List ReplicaKnown → List Slack → List Slack → List Part
parts_of (b ∷ bases) (l ∷ lows) (h ∷ highs) = part_of b l h ∷ parts_of bases lows highs
parts_of _ _ _ = []

-- each choice of this volume before each of the others
abbrev pub before_others : List (List Part) → Option (Read (List (List (List Part)))) → Option (Read (List (List (List Part))))
before_others choices None = None
before_others choices (Some others) = Some (record { value = choices_with choices others.value; rest = others.rest })

abbrev pub then_others : VolumeKnown → List Part → Option (Read (List Bool)) → (List Note → Option (Read (List (List (List Part))))) → Option (Read (List (List (List Part))))
then_others volume parts None others = None
then_others volume parts (Some kept) others = before_others (reopened_choices volume kept.value 0 parts) (others kept.rest)

-- what a restart may find of all volumes from number v on
abbrev pub reopened_stores : Settings → ℕ → List VolumeKnown → List (List Slack) → List (List Slack) → List Note → Option (Read (List (List (List Part))))
reopened_stores settings v (volume ∷ volumes) (low ∷ lows) (high ∷ highs) notes =
    then_others volume (parts_of volume.replicas low high) (volume_kept settings v volume notes volume.pending) (reopened_stores settings (v + 1) volumes lows highs)
reopened_stores settings v _ _ _ notes = Some (record { value = [] ∷ []; rest = notes })

-- THE STORE

abbrev pub base_of : Part → ReplicaKnown
base_of part = part.base

abbrev pub low_of : Part → Slack
low_of part = part.low

abbrev pub high_of : Part → Slack
high_of part = part.high

abbrev pub volume_of : List Part → VolumeKnown
volume_of parts = record empty_volume { replicas = map base_of parts }

abbrev pub restarted_box : Known → List HomeRow → List (List Part) → Box
restarted_box b rows store = record {
  base = record b { volumes = map volume_of store; directory = directory_with rows; drained = map undrained b.drained };
  low = map (λ parts. map low_of parts) store;
  high = map (λ parts. map high_of parts) store;
}

abbrev pub restarted_with : Known → ℕ → List (List (List Part)) → Option (List HomeRow) → List Box
restarted_with b d stores None = []
restarted_with b d stores (Some new) =
    if d == length (b.directory.rows ++ new) then map (restarted_box b (b.directory.rows ++ new)) stores else []

abbrev pub restarted_from : Known → ℕ → Option (Read (List (List (List Part)))) → List Box
restarted_from b d None = []
restarted_from b d (Some read) = restarted_with b d read.value (new_rows b.directory.pending read.rest)

-- the boxes behind a restart that was answered so, with these notes
abbrev pub restart_boxes : Settings → Box → Reply → List Note → List Box
restart_boxes settings box (Restarted d) notes = restarted_from box.base d (reopened_stores settings 0 box.base.volumes box.low box.high notes)
restart_boxes settings box _ notes = []
