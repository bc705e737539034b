-- What stands behind a block, and its notes, by the acts of its lanes.
use Rattle.std.specs.Prelude.{◌≡◌, ℕ, ◌-◌, ◌^◌, ◌<◌, ◌≤◌, List, [], ◌∷◌, length, map, filter_map, slice_index, Option, Some, None}
use Rattle.std.specs.List.{AllByRecursion as Each, flat_map}
use Rattle.hay_needle.specs.declared.settings.Settings.{Settings}
use Rattle.hay_reply.specs.declared.LineVolume.{LineVolume}
use Rattle.hay_legal.specs.declared.known.HomeRow.{HomeRow}
use Rattle.hay_legal.specs.declared.known.Known.{Known}
use Rattle.hay_legal.specs.declared.turn.LogNote.{LogNote}
use Rattle.hay_legal.specs.declared.turn.RowNote.{RowNote}
use Rattle.hay_legal.specs.Known.{arm_count, disk_count, slot_of, volume_at, volumes_of}
use Rattle.hay_meeting.specs.declared.act.DirAct.{DirAct}
use Rattle.hay_meeting.specs.Acts.{Happened, Start, row_of}
use Rattle.hay_meeting.specs.Sights.{rows_stood, stood}
use Rattle.hay_shared_volume.specs.Ends.{entered_lines}

-- COUNTS

-- counts by slot: that of the Directory's disk, and those of the replicas' disks by volume
pub record AreBySlot (settings : Settings) (rows : ℕ) (of : ℕ → ℕ → ℕ) (counts : List ℕ) : Type 0 where
  pub many : length counts ≡ disk_count settings
  pub first : slice_index counts 0 ≡ rows
  pub replicas : (v j : ℕ) → v < settings.volumes → j < settings.replicas → slice_index counts (slot_of settings v j) ≡ of v j

-- The counts of the store's disks and arms behind the acts. The arms of other lanes than so many stand where they stood.
pub record CountsBehind (settings : Settings) (start : Start) (lanes : ℕ) (h : Happened) (k : Known) (faults fuses arms : List ℕ) : Type 0 where
  pub faults_are : AreBySlot settings (rows_stood start h.directory).faults (λ v j. (stood start v (h.volumes v)).faults j) faults
  pub fuses_are : AreBySlot settings (rows_stood start h.directory).fuses (λ v j. (stood start v (h.volumes v)).fuses j) fuses
  pub as_many : length arms ≡ length k.arms
  pub other_arms : (lane : ℕ) → lanes ≤ lane → slice_index arms lane ≡ arm_count k lane
  pub faults_end : Each (λ f. f ≤ 2 ^ 64 - 1) faults
  pub arms_end : Each (λ f. f ≤ 2 ^ 64 - 1) arms

-- what stands behind the acts, with such counts
abbrev pub known_behind : Settings → Start → Happened → List ℕ → List ℕ → List ℕ → Known
known_behind settings start h faults fuses arms = record {
  volumes = map (λ v. (stood start v (h.volumes v)).volume) (volumes_of settings);
  directory = (rows_stood start h.directory).directory;
  drained = (rows_stood start h.directory).drained;
  faults = faults;
  arms = arms;
  fuses = fuses;
}

-- NOTES

-- the note on a volume, if a change was entered there, behind so many
abbrev pub log_note_from : ℕ → ℕ → List ℕ → List LogNote
log_note_from v from [] = []
log_note_from v from (line ∷ lines) = record { volume = v; from = from; lines = line ∷ lines } ∷ []

abbrev pub log_notes_of : Settings → Known → Happened → List LogNote
log_notes_of settings k h = flat_map (λ v. log_note_from v (length (volume_at k v).log) (entered_lines (h.volumes v))) (volumes_of settings)

-- the lines whose rows were added, with their volumes
abbrev pub added_row : DirAct → Option LineVolume
added_row act = line_by (row_of act.did)
  where
    line_by : Option HomeRow → Option LineVolume
    line_by (Some row) = Some (record { line = (act.tag).line; volume = row.volume })
    line_by None = None

abbrev pub row_note_of : Known → Happened → RowNote
row_note_of k h = record { from = length k.directory.rows; rows = filter_map added_row h.directory }
