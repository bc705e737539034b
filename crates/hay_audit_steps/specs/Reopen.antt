-- The kept state behind a restart, from its notes, where no replica was stuck or poised.
use Rattle.std.specs.Prelude.{◌≡◌, ℕ, zero, suc, ◌+◌, ◌==◌, ◌&&◌, ◌||◌, not, nat_lt, Bool, true, false, List, [], ◌∷◌, ◌++◌, length, map, slice_get, Option, Some, None, if◌then◌else◌}
use Rattle.std.specs.List.{AllByRecursion as Each}
use Rattle.hay_needle.specs.declared.settings.Settings.{Settings}
use Rattle.hay_core.specs.declared.entry.Entry.{Entry}
use Rattle.hay_reply.specs.declared.Note.{Note}
use Rattle.hay_reply.specs.declared.Note.TheVariants.{Kept, Lost, KeptDir, LostDir}
use Rattle.hay_reply.specs.declared.Reply.{Reply}
use Rattle.hay_reply.specs.declared.Reply.TheVariants.{Restarted}
use Rattle.hay_legal.specs.declared.known.Pending.{Pending}
use Rattle.hay_legal.specs.declared.known.PendingRow.{PendingRow}
use Rattle.hay_legal.specs.declared.known.HomeRow.{HomeRow}
use Rattle.hay_legal.specs.declared.known.ReplicaKnown.{ReplicaKnown}
use Rattle.hay_legal.specs.declared.known.VolumeKnown.{VolumeKnown}
use Rattle.hay_legal.specs.declared.known.Known.{Known}
use Rattle.hay_legal.specs.Known.{machine_of, replica_on, now}
use Rattle.hay_legal.specs.Restarts.{LegalRestart, nothing_at, kept_entry, is_kept, with_entries, added_end, added_cells, directory_with, undrained}

-- what a note says of a replica's pending change
abbrev pub kept_by : ℕ → ℕ → ℕ → Note → Option Bool
kept_by v m line (Kept v' m' line') = if (v' == v) && ((m' == m) && (line' == line)) then Some true else None
kept_by v m line (Lost v' m' line') = if (v' == v) && ((m' == m) && (line' == line)) then Some false else None
kept_by v m line _ = None

-- what a reader of notes has read, and the notes behind it
pub record Read (X : Type 0) : Type 0 where
  pub value : X
  pub rest : List Note

abbrev pub onto : Option Bool → Option (Read (List Bool)) → Option (Read (List Bool))
onto (Some kept) (Some read) = Some (record { value = kept ∷ read.value; rest = read.rest })
onto _ _ = None

-- one note for each of the replicas from number j on
abbrev pub read_kept : Settings → ℕ → ℕ → ℕ → List ReplicaKnown → List Note → Option (Read (List Bool))
read_kept settings v line j [] notes = Some (record { value = []; rest = notes })
read_kept settings v line j (replica ∷ replicas) [] = None
read_kept settings v line j (replica ∷ replicas) (note ∷ notes) =
    onto (kept_by v (machine_of settings v j) line note) (read_kept settings v line (j + 1) replicas notes)

-- WHICH REPLICAS MAY KEEP IT

abbrev pub all_below : (ℕ → Bool) → ℕ → Bool
all_below test zero = true
all_below test (suc n) = test n && all_below test n

abbrev pub says : Bool → Option Bool → Bool
says true (Some true) = true
says false (Some false) = true
says _ _ = false

abbrev pub kept_below : VolumeKnown → Entry → ℕ → List Bool → Bool
kept_below volume change f kept =
    all_below (λ j. says true (slice_get kept j)) f
    && (all_below (λ j. not (nothing_at volume change j) || says true (slice_get kept j)) (length kept)
    && all_below (λ j. not (nat_lt f j) || (nothing_at volume change j || says false (slice_get kept j))) (length kept))

abbrev pub kept_at : VolumeKnown → Entry → Option ℕ → List Bool → Bool
kept_at volume change None kept = false
kept_at volume change (Some f) kept = kept_below volume change f kept

abbrev pub kept_on : Settings → ℕ → VolumeKnown → Entry → Option ℕ → List Bool → Bool
kept_on settings v volume change None kept = false
kept_on settings v volume change (Some m) kept = kept_at volume change (replica_on settings v m) kept

-- WHAT IS OPENED

abbrev pub reopened_replica : VolumeKnown → ReplicaKnown → List Entry → ReplicaKnown
reopened_replica volume old kept = record {
  base = with_entries (now volume old) kept;
  end = old.end + added_end kept;
  cells = old.cells + added_cells kept;
  bare = old.bare + added_cells kept;
  generation = old.generation;
  stuck = false;
  run = None;
  poised = false;
}

abbrev pub reopened_replicas : VolumeKnown → List Bool → ℕ → List ReplicaKnown → List ReplicaKnown
reopened_replicas volume kept j [] = []
reopened_replicas volume kept j (old ∷ olds) =
    reopened_replica volume old (kept_entry volume.pending (is_kept kept j)) ∷ reopened_replicas volume kept (j + 1) olds

abbrev pub reopened : VolumeKnown → List Bool → VolumeKnown
reopened old kept = record { log = []; frozen = None; pending = None; replicas = reopened_replicas old kept 0 old.replicas }

-- a pending change that was answered failed: of others a restart is not judged, since an item before is open
abbrev pub reopen_kept : Settings → ℕ → VolumeKnown → Pending → Option (Read (List Bool)) → Option (Read VolumeKnown)
reopen_kept settings v old pending None = None
reopen_kept settings v old pending (Some read) =
    if kept_on settings v old pending.entry old.frozen read.value then Some (record { value = reopened old read.value; rest = read.rest }) else None

abbrev pub reopen_by : Settings → ℕ → VolumeKnown → List Note → Option Pending → Option (Read VolumeKnown)
reopen_by settings v old notes None = Some (record { value = reopened old []; rest = notes })
reopen_by settings v old notes (Some pending) = reopen_kept settings v old pending (read_kept settings v (pending.tag).line 0 old.replicas notes)

abbrev pub reopen : Settings → ℕ → VolumeKnown → List Note → Option (Read VolumeKnown)
reopen settings v old notes = reopen_by settings v old notes old.pending

-- EVERY VOLUME, AND THE DIRECTORY

abbrev pub and_volumes : VolumeKnown → Option (Read (List VolumeKnown)) → Option (Read (List VolumeKnown))
and_volumes new None = None
and_volumes new (Some read) = Some (record { value = new ∷ read.value; rest = read.rest })

abbrev pub then_all : Option (Read VolumeKnown) → (List Note → Option (Read (List VolumeKnown))) → Option (Read (List VolumeKnown))
then_all None later = None
then_all (Some read) later = and_volumes read.value (later read.rest)

abbrev pub reopen_all : Settings → ℕ → List VolumeKnown → List Note → Option (Read (List VolumeKnown))
reopen_all settings v [] notes = Some (record { value = []; rest = notes })
reopen_all settings v (old ∷ olds) notes = then_all (reopen settings v old notes) (reopen_all settings (v + 1) olds)

abbrev pub row_by : ℕ → HomeRow → List Note → Option (List HomeRow)
row_by line row (KeptDir line' ∷ []) = if line' == line then Some (row ∷ []) else None
row_by line row (LostDir line' ∷ []) = if line' == line then Some [] else None
row_by line row _ = None

abbrev pub new_rows : Option PendingRow → List Note → Option (List HomeRow)
new_rows None [] = Some []
new_rows None _ = None
new_rows (Some pending) notes = row_by (pending.tag).line pending.row notes

abbrev pub restarted_rows : Known → ℕ → List VolumeKnown → Option (List HomeRow) → List Known
restarted_rows b d volumes None = []
restarted_rows b d volumes (Some new) =
    if d == length (b.directory.rows ++ new)
    then record b { volumes = volumes; directory = directory_with (b.directory.rows ++ new); drained = map undrained b.drained } ∷ []
    else []

abbrev pub restarted_by : Known → ℕ → Option (Read (List VolumeKnown)) → List Known
restarted_by b d None = []
restarted_by b d (Some read) = restarted_rows b d read.value (new_rows b.directory.pending read.rest)

-- the state behind a restart that was answered so, with these notes
abbrev pub next_restart : Settings → Known → Reply → List Note → List Known
next_restart settings b (Restarted d) notes = restarted_by b d (reopen_all settings 0 b.volumes notes)
next_restart settings b _ notes = []

-- WHERE A RESTART LEAVES NO DOUBT

abbrev pub IsCalm : ReplicaKnown → Type 0
IsCalm replica = (replica.stuck ≡ false) × (replica.poised ≡ false)

-- a volume of which nothing is stuck or poised, and whose pending change was answered failed
pub record IsDecided (volume : VolumeKnown) : Type 0 where
  pub calm : Each IsCalm volume.replicas
  pub failed : (pending : Pending) → volume.pending ≡ Some pending → pending.failed ≡ true

-- the legal turns of a restart
abbrev pub restart_row : Settings → Reply → List Note → Known → Known → Type 0
restart_row settings reply notes k t = LegalRestart settings k reply notes t
