-- What a restart finds: each pending change kept or lost, and all else as it stood.
use Rattle.std.specs.Prelude.{◌≡◌, ℕ, ◌+◌, ◌<◌, ◌≤◌, ◌⊎◌, not, nat_lt, Bool, true, false, List, [], ◌∷◌, ◌++◌, length, map, slice_get, slice_index_or, Option, Some, None}
use Rattle.hay_needle.specs.declared.settings.Settings.{Settings}
use Rattle.hay_reply.specs.declared.Reply.{Reply}
use Rattle.hay_reply.specs.declared.Reply.TheVariants.{Restarted, NoMem}
use Rattle.hay_reply.specs.declared.Note.{Note}
use Rattle.hay_reply.specs.declared.Note.TheVariants.{Kept, Lost, KeptDir, LostDir}
use Rattle.hay_core.specs.declared.entry.Entry.{Entry}
use Rattle.hay_core.specs.declared.entry.Entry.TheVariants.{Put, Del}
use Rattle.hay_needle.specs.Tables.{Table, live_end}
use Rattle.hay_needle.specs.Sizes.{needle_total}
use Rattle.hay_core.specs.Entries.{apply_entry}
use Rattle.hay_legal.specs.declared.known.Pending.{Pending}
use Rattle.hay_legal.specs.declared.known.PendingRow.{PendingRow}
use Rattle.hay_legal.specs.declared.known.HomeRow.{HomeRow}
use Rattle.hay_legal.specs.declared.known.ReplicaKnown.{ReplicaKnown}
use Rattle.hay_legal.specs.declared.known.VolumeKnown.{VolumeKnown}
use Rattle.hay_legal.specs.declared.known.DirKnown.{DirKnown}
use Rattle.hay_legal.specs.declared.known.Known.{Known}
use Rattle.hay_legal.specs.Known.{FaultsRose, replica_at, machine_of, replica_on, now, NoneFalls}
use Rattle.hay_legal.specs.Plain.{has_pair}

-- WHICH REPLICAS KEEP A PENDING CHANGE

abbrev pub nothing_at : VolumeKnown → Entry → ℕ → Bool
nothing_at volume (Put pair cookie bytes) j = false
nothing_at volume (Del pair) j = not (has_pair volume pair (replica_at volume j))

-- After a change that failed at this replica, those below it kept it, and those above lost it. A deletion is also
-- kept where nothing stood.
pub record KeptBelow (volume : VolumeKnown) (entry : Entry) (failed_at : ℕ) (kept : List Bool) : Type 0 where
  pub below : (j : ℕ) → j < failed_at → slice_get kept j ≡ Some true
  pub nothing : (j : ℕ) → j < length kept → nothing_at volume entry j ≡ true → slice_get kept j ≡ Some true
  pub above : (j : ℕ) → failed_at < j → j < length kept → nothing_at volume entry j ≡ false → slice_get kept j ≡ Some false

-- after want of memory a put is kept on the first so many replicas, a deletion on all
abbrev pub KeptFirst : Entry → List Bool → Type 0
KeptFirst (Put pair cookie bytes) kept = (n : ℕ) × ((j : ℕ) → j < length kept → slice_get kept j ≡ Some (nat_lt j n))
KeptFirst (Del pair) kept = (j : ℕ) → j < length kept → slice_get kept j ≡ Some true

abbrev pub KeptAfter : Settings → ℕ → VolumeKnown → Pending → Bool → List Bool → Type 0
KeptAfter settings v volume pending true kept =
    (m : ℕ) × (f : ℕ) × (volume.frozen ≡ Some m) × (replica_on settings v m ≡ Some f) × KeptBelow volume pending.entry f kept
KeptAfter settings v volume pending false kept = KeptFirst pending.entry kept

-- which replicas may keep a volume's pending change: one answer for each replica, or none where nothing is pending
abbrev pub MayKeep : Settings → ℕ → VolumeKnown → Option Pending → List Bool → Type 0
MayKeep settings v volume None kept = kept ≡ []
MayKeep settings v volume (Some pending) kept =
    (length kept ≡ length volume.replicas) × KeptAfter settings v volume pending pending.failed kept

-- WHAT IS OPENED

abbrev pub kept_entry : Option Pending → Bool → List Entry
kept_entry (Some pending) true = pending.entry ∷ []
kept_entry pending kept = []

abbrev pub with_entries : Table → List Entry → Table
with_entries table [] = table
with_entries table (entry ∷ entries) = with_entries (apply_entry table entry) entries

-- the room and the cells of kept puts
abbrev pub added_end : List Entry → ℕ
added_end (Put pair cookie bytes ∷ entries) = needle_total (length bytes)
added_end (Del pair ∷ entries) = 0
added_end [] = 0

abbrev pub added_cells : List Entry → ℕ
added_cells (Put pair cookie bytes ∷ entries) = 1
added_cells (Del pair ∷ entries) = 0
added_cells [] = 0

-- A replica that was stuck may have fewer cells without a record.
abbrev pub BareIs : Bool → ℕ → ℕ → Type 0
BareIs true most bare = bare ≤ most
BareIs false most bare = bare ≡ most

pub record StandsAsItWas (old : ReplicaKnown) (kept : List Entry) (new : ReplicaKnown) : Type 0 where
  pub end : new.end ≡ old.end + added_end kept
  pub cells : new.cells ≡ old.cells + added_cells kept
  pub bare : BareIs old.stuck (old.bare + added_cells kept) new.bare
  pub generation : new.generation ≡ old.generation

-- The head names the new file: the sizes are those of a swap.
pub record StandsSwapped (volume : VolumeKnown) (old new : ReplicaKnown) : Type 0 where
  pub poised : old.poised ≡ true
  pub end : live_end (now volume old) ≤ new.end
  pub no_longer : new.end ≤ old.end
  pub cells : length (now volume old) ≤ new.cells
  pub no_more : new.cells ≤ old.cells
  pub bare : new.bare ≡ 0
  pub generation : new.generation ≡ old.generation + 1

pub record ReopenedReplica (volume : VolumeKnown) (old : ReplicaKnown) (kept : List Entry) (new : ReplicaKnown) : Type 0 where
  pub base : new.base ≡ with_entries (now volume old) kept
  pub stands : StandsAsItWas old kept new ⊎ StandsSwapped volume old new
  pub loose : new.stuck ≡ false
  pub idle : new.run ≡ None
  pub settled : new.poised ≡ false

abbrev pub is_kept : List Bool → ℕ → Bool
is_kept kept j = slice_index_or kept j false

abbrev pub ReopenedReplicas : VolumeKnown → List Bool → ℕ → List ReplicaKnown → List ReplicaKnown → Type 0
ReopenedReplicas volume kept j [] [] = Unit {0}
ReopenedReplicas volume kept j (old ∷ olds) (new ∷ news) =
    ReopenedReplica volume old (kept_entry volume.pending (is_kept kept j)) new × ReopenedReplicas volume kept (j + 1) olds news
ReopenedReplicas volume kept j _ _ = ⊥

pub record ReopenedVolume (settings : Settings) (v : ℕ) (old : VolumeKnown) (kept : List Bool) (new : VolumeKnown) : Type 0 where
  pub may : MayKeep settings v old old.pending kept
  pub replicas : ReopenedReplicas old kept 0 old.replicas new.replicas
  pub log : new.log ≡ []
  pub frozen : new.frozen ≡ None
  pub pending : new.pending ≡ None

abbrev pub ReopenedVolumes : Settings → ℕ → List VolumeKnown → List (List Bool) → List VolumeKnown → Type 0
ReopenedVolumes settings v [] [] [] = Unit {0}
ReopenedVolumes settings v (old ∷ olds) (kept ∷ kepts) (new ∷ news) =
    ReopenedVolume settings v old kept new × ReopenedVolumes settings (v + 1) olds kepts news
ReopenedVolumes settings v _ _ _ = ⊥

abbrev pub kept_row : Option PendingRow → Bool → List HomeRow
kept_row (Some pending) true = pending.row ∷ []
kept_row pending kept = []

abbrev pub directory_with : List HomeRow → DirKnown
directory_with rows = record { rows = rows; frozen = false; pending = None }

abbrev pub undrained : Bool → Bool
undrained drained = false

-- From k the disks open as t, with these changes and this row kept.
pub record Reopens (settings : Settings) (k : Known) (kept : List (List Bool)) (row : Bool) (t : Known) : Type 0 where
  pub volumes : ReopenedVolumes settings 0 k.volumes kept t.volumes
  pub rows : t.directory.rows ≡ k.directory.rows ++ kept_row k.directory.pending row
  pub directory : t.directory ≡ directory_with t.directory.rows
  pub drained : t.drained ≡ map undrained k.drained
  pub fuses : t.fuses ≡ k.fuses
  pub faults : NoneFalls k.faults t.faults
  pub arms : t.arms ≡ k.arms

-- THE NOTES

abbrev pub kept_note : ℕ → ℕ → ℕ → Bool → Note
kept_note v m line true = Kept v m line
kept_note v m line false = Lost v m line

abbrev pub replica_notes : Settings → ℕ → ℕ → ℕ → List Bool → List Note
replica_notes settings v line j [] = []
replica_notes settings v line j (kept ∷ rest) = kept_note v (machine_of settings v j) line kept ∷ replica_notes settings v line (j + 1) rest

abbrev pub pending_notes : Settings → ℕ → Option Pending → List Bool → List Note
pending_notes settings v None kept = []
pending_notes settings v (Some pending) kept = replica_notes settings v (pending.tag).line 0 kept

abbrev pub volume_notes : Settings → ℕ → List VolumeKnown → List (List Bool) → List Note
volume_notes settings v (volume ∷ volumes) (kept ∷ kepts) = pending_notes settings v volume.pending kept ++ volume_notes settings (v + 1) volumes kepts
volume_notes settings v [] kepts = []
volume_notes settings v (volume ∷ volumes) [] = []

abbrev pub row_note : ℕ → Bool → Note
row_note line true = KeptDir line
row_note line false = LostDir line

abbrev pub row_notes : Option PendingRow → Bool → List Note
row_notes None kept = []
row_notes (Some pending) kept = row_note (pending.tag).line kept ∷ []

abbrev pub restart_notes : Settings → Known → List (List Bool) → Bool → List Note
restart_notes settings k kept row = volume_notes settings 0 k.volumes kept ++ row_notes k.directory.pending row

-- The notes tell what was kept.
pub record IsRestarted (settings : Settings) (k : Known) (d : ℕ) (notes : List Note) (t : Known) : Type 0 where
  pub kept : List (List Bool)
  pub row : Bool
  pub opened : Reopens settings k kept row t
  pub told : notes ≡ restart_notes settings k kept row
  pub rows : d ≡ length t.directory.rows

-- Want of memory ends the run, and tells nothing of what was kept: what was known, pending changes with it, is known still.
pub record IsNotRestarted (k : Known) (notes : List Note) (t : Known) : Type 0 where
  pub leaves : FaultsRose k t
  pub told : notes ≡ []

abbrev pub LegalRestart : Settings → Known → Reply → List Note → Known → Type 0
LegalRestart settings k (Restarted d) notes t = IsRestarted settings k d notes t
LegalRestart settings k NoMem notes t = IsNotRestarted k notes t
LegalRestart settings k _ notes t = ⊥
