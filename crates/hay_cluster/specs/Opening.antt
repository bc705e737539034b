-- What the stops and openings of a store do to its parts.
use Rattle.std.specs.Prelude.{◌≡◌, ◌⊎◌, ◌≤◌, ◌<◌, ◌++◌, ℕ, Bool, false, List, [], ◌∷◌, None, length, replicate}
use Rattle.std.specs.List.{AllByRecursion, AllZip}
use Rattle.hay_needle.specs.declared.settings.Settings.{Settings}
use Rattle.hay_reply.specs.declared.Note.{Note}
use Rattle.hay_reply.specs.Fits.{FitsNote}
use Rattle.hay_disk.specs.Counts.{Rose}
use Rattle.hay_disk.specs.Disk.{Files, IsFree, IsImage, IsSolid}
use Rattle.hay_open.specs.Damage.{IsOpeningDamage}
use Rattle.hay_dirfile.specs.Journal.{IsDamagedJournal}
use Rattle.hay_legal.specs.declared.known.DirKnown.{DirKnown}
use Rattle.hay_legal.specs.declared.known.HomeRow.{HomeRow}
use Rattle.hay_legal.specs.declared.known.VolumeKnown.{VolumeKnown}
use Rattle.hay_legal.specs.Known.{slot_of}
use Rattle.hay_legal.specs.Restarts.{ReopenedVolumes, directory_with, kept_row, row_notes, volume_notes}
use Rattle.hay_directory.specs.Notes.{notes_by}
use Rattle.hay_directory.specs.Rows.{OpensRows, RowsWithin, journal_super}
use Rattle.hay_directory.specs.Seen.{directory_seen}
use Rattle.hay_directory.specs.Seen as open_seen
use Rattle.hay_directory.specs.State.{State}
use Rattle.hay_directory.specs.State as directory
use Rattle.hay_open.specs.Stored.{OpensAs, Stored}
use Rattle.hay_physical.specs.OpenCopies.{Copy, contents_of, volume_bytes}
use Rattle.hay_logical.specs.declared.fault.Unopened.{Unopened}
use Rattle.hay_logical.specs.Answers.{IsReopened}
use Rattle.hay_logical.specs.Fits.{At}
use Rattle.hay_logical.specs.Needles.{HasLiveNeedles}
use Rattle.hay_logical.specs.Notes.{NotesTell, ToldUnsure}
use Rattle.hay_logical.specs.Readings.{IsReadAs}
use Rattle.hay_logical.specs.Seen.{IsFoundAs, OpenSeen, replica_seen, volume_seen}
use Rattle.hay_logical.specs.Sights.{AreSightsOf, LiesWithinEach, sights_of}
use Rattle.hay_logical.specs.Stands.{IsFirst, IsIdleVolume, Stopped}
use Rattle.hay_logical.specs.Stands as logical
use Rattle.hay_logical.specs.ReplicaCalls.{IsRefusedAt, KeepsDisk}
use Rattle.hay_logical.specs.Volumes.{Volume, HasSupers, IsClosed, IsOpenVolume, IsSame, KeepsCounts}
use Rattle.hay_cluster.specs.declared.fault.ClusterFault.{ClusterFault}
use Rattle.hay_cluster.specs.declared.fault.ClusterFault.TheVariants.{Shelf, Failed, Damaged, NoMemory}
use Rattle.hay_cluster.specs.Faults.{not_opened}
use Rattle.hay_cluster.specs.Store.{volume_disks}

-- ITEMS THAT ARE CALLED IN ORDER, EACH OF WHICH YIELDS A LIST

pub record Split {Y : Type 0} (First Rest : List Y → Type 0) (all : List Y) : Type 0 where
  pub front : List Y
  pub behind : List Y
  pub parts : all ≡ front ++ behind
  pub first : First front
  pub rest : Rest behind

-- each of these items became one of those, and all that they yielded is this
abbrev pub Gathers : {X Y : Type 0} → (X → X → List Y → Type 0) → List X → List X → List Y → Type 0
Gathers R [] [] all = all ≡ []
Gathers R [] (y ∷ ys) all = ⊥
Gathers R (x ∷ xs) [] all = ⊥
Gathers R (x ∷ xs) (y ∷ ys) all = Split (R x y) (Gathers R xs ys) all

-- A VOLUME

-- it holds what it held, or stands for what an opening found of it
abbrev pub IsLeft : {D P : Type 0} → (D → Files) → Type 0 → VolumeKnown → Volume D P → Type 0
IsLeft files Tells k volume = logical.Holds files volume k ⊎ ((notes : List Note) × IsReopened files Tells k notes volume)

-- what any opening does to a volume, refused or not
pub record LeavesVolume {D P : Type 0} (DiskTells : Type 0) (files : D → Files) (Tells : Type 0) (faults fuses : D → ℕ) (old new : Volume D P) : Type 0 where
  pub same : IsSame old new
  pub counts : KeepsCounts faults fuses old.replicas new.replicas
  pub left : DiskTells → (k : VolumeKnown) → Stopped files old k → IsLeft files Tells k new
  pub kept : DiskTells → (j : ℕ) (r r' : Copy D) → At old.replicas j r → At new.replicas j r' → KeepsDisk files r r'

-- a replica was not damaged; as it now is it is neither damaged nor void
abbrev pub StaysUndamaged : {D : Type 0} → (D → Files) → Copy D → Copy D → Type 0
StaysUndamaged files r r' =
    ((file at : ℕ) → IsOpeningDamage r.sup (contents_of files r.disk) file at → ⊥)
    × ((file at : ℕ) → IsOpeningDamage r.sup (contents_of files r'.disk) file at → ⊥)
    × (contents_of files r'.disk 0 ≡ [] → ⊥)

abbrev pub EachStaysUndamaged : {D P : Type 0} → (D → Files) → Volume D P → Volume D P → Type 0
EachStaysUndamaged {D} files old new = (j : ℕ) (r r' : Copy D) → At old.replicas j r → At new.replicas j r' → StaysUndamaged files r r'

-- the volume was opened, with these notes
pub record OpensVolume {D P : Type 0} (DiskTells : Type 0) (files : D → Files) (Tells : Type 0) (faults fuses : D → ℕ) (old new : Volume D P) (notes : List Note) : Type 0 where
  pub moves : LeavesVolume DiskTells files Tells faults fuses old new
  pub up : IsOpenVolume new
  pub first : DiskTells → (k : VolumeKnown) → IsFirst files old k → (notes ≡ []) × logical.Stands files Tells new k
  pub reopened : DiskTells → (k : VolumeKnown) → Stopped files old k → IsReopened files Tells k notes new
  pub undamaged : DiskTells → EachStaysUndamaged files old new
  pub told : NotesTell old.settings old.number old.unsure (sights_of new.rows) (volume_seen new).replicas notes
  pub told_places : DiskTells → (j : ℕ) (r : Copy D) → At new.replicas j r → ToldUnsure old.unsure (sights_of new.rows) j (volume_bytes files r)
  pub finds : DiskTells → (j : ℕ) (r r' : Copy D) (s : Stored) → At old.replicas j r → At new.replicas j r' → OpensAs r.sup (contents_of files r.disk) s
      → IsFoundAs s (replica_seen r') × AreSightsOf s (sights_of new.rows) j
  pub live : DiskTells → (j : ℕ) (r : Copy D) → At new.replicas j r → HasLiveNeedles (sights_of new.rows) j (volume_bytes files r)
  pub read : DiskTells → (j : ℕ) (r : Copy D) → At new.replicas j r
      → IsReadAs r.sup (contents_of files r.disk) (replica_seen r) (λ pair. sights_of new.rows pair j)
  pub fits : AllByRecursion FitsNote notes
  pub seen : OpenSeen (volume_seen new)
  pub lie : LiesWithinEach (sights_of new.rows) (volume_seen new).replicas
  pub formatted : DiskTells → (j : ℕ) (r : Copy D) → At new.replicas j r → contents_of files r.disk 0 ≡ [] → ⊥

-- Volume v was not opened, by one of its disks.
pub record IsRefusedBy {D P : Type 0} (DiskTells : Type 0) (files : D → Files) (faults : D → ℕ) (settings : Settings) (v : ℕ) (old new : Volume D P) (fault : ClusterFault) : Type 0 where
  pub refusal : Unopened
  pub told : fault ≡ not_opened (slot_of settings v refusal.replica) refusal.fault
  pub cause : IsRefusedAt DiskTells files faults old.replicas new.replicas refusal
  pub whole : DiskTells → (k : VolumeKnown) → Stopped files old k → (slot file at : ℕ) → fault ≡ Damaged slot file at → ⊥

abbrev pub RefusesVolume : {D P : Type 0} → Type 0 → (D → Files) → (D → ℕ) → Settings → ℕ → Volume D P → Volume D P → ClusterFault → Type 0
RefusesVolume DiskTells files faults settings v old new fault = (fault ≡ NoMemory) ⊎ IsRefusedBy DiskTells files faults settings v old new fault

-- one of these volumes was not opened, and those before it were
pub record IsRefusedIn {D P : Type 0} (DiskTells : Type 0) (files : D → Files) (faults : D → ℕ) (settings : Settings) (old new : List (Volume D P)) (fault : ClusterFault) : Type 0 where
  pub volume : ℕ
  pub before : Volume D P
  pub after : Volume D P
  pub was : At old volume before
  pub is : At new volume after
  pub refused : IsRefusedBy DiskTells files faults settings volume before after fault
  pub earlier : DiskTells → (v : ℕ) (x y : Volume D P) → v < volume → At old v x → At new v y → EachStaysUndamaged files x y

abbrev pub RefusesVolumes : {D P : Type 0} → Type 0 → (D → Files) → (D → ℕ) → Settings → List (Volume D P) → List (Volume D P) → ClusterFault → Type 0
RefusesVolumes DiskTells files faults settings old new fault = (fault ≡ NoMemory) ⊎ IsRefusedIn DiskTells files faults settings old new fault

-- what a stop does to a volume
pub record StopsVolume {D P : Type 0} (DiskTells : Type 0) (files : D → Files) (Tells : Type 0) (faults fuses : D → ℕ) (old new : Volume D P) : Type 0 where
  pub same : IsSame old new
  pub count : length new.replicas ≡ length old.replicas
  pub counts : (j : ℕ) (r r' : Copy D) → At old.replicas j r → At new.replicas j r' → (faults r'.disk ≡ faults r.disk) × (fuses r'.disk ≡ fuses r.disk)
  pub unsure : new.unsure ≡ old.unsure
  pub closed : IsClosed new
  pub idle : DiskTells → IsIdleVolume files new
  pub stopped : DiskTells → (k : VolumeKnown) → logical.Stands files Tells old k → Stopped files new k

-- a volume without disks, at which nothing was broken off
pub record IsEmptyVolume {D P : Type 0} (settings : Settings) (v : ℕ) (volume : Volume D P) : Type 0 where
  pub settings_are : volume.settings ≡ settings
  pub number : volume.number ≡ v
  pub none : volume.replicas ≡ []
  pub sure : volume.unsure ≡ None

-- an empty volume got disks, for all its replicas
pub record FillsVolume {D P : Type 0} (old new : Volume D P) (disks : List D) : Type 0 where
  pub only : new ≡ record old { replicas = new.replicas }
  pub many : length new.replicas ≡ (old.settings).replicas
  pub sups : HasSupers new
  pub closed : IsClosed new
  pub disks_are : disks ≡ volume_disks new

-- THE DIRECTORY

-- it is closed, and all of its file is on the disk
pub record IsResting {D : Type 0} (DiskTells : Type 0) (files : D → Files) (state : State D) : Type 0 where
  pub closed : directory.IsClosed state
  pub solid : DiskTells → IsSolid (files state.disk 0)
  pub free : DiskTells → IsFree (files state.disk 0)

-- what a stop does to the Directory
pub record StopsDirectory {D : Type 0} (DiskTells : Type 0) (files : D → Files) (faults fuses : D → ℕ) (old new : State D) : Type 0 where
  pub settings : new.settings ≡ old.settings
  pub same_faults : faults new.disk ≡ faults old.disk
  pub same_fuses : fuses new.disk ≡ fuses old.disk
  pub rests : IsResting DiskTells files new
  pub stopped : DiskTells → (known : DirKnown) (drained : List Bool) → directory.Stands files old known drained → directory.Stopped files new known
  pub long : length old.drained ≡ (old.settings).machines
  pub unsure : directory.unsure_of new.mode ≡ directory.unsure_of old.mode

-- what any opening does to the Directory, refused or not
pub record LeavesDirectory {D : Type 0} (DiskTells : Type 0) (files : D → Files) (faults fuses : D → ℕ) (old new : State D) : Type 0 where
  pub settings : new.settings ≡ old.settings
  pub later : faults old.disk ≤ faults new.disk
  pub fuses_stay : fuses new.disk ≡ fuses old.disk
  pub same : DiskTells → 0 < length (files old.disk 0).now → files new.disk ≡ files old.disk
  pub nothing : DiskTells → (files old.disk 0).now ≡ [] → (image : ℕ → List ℕ) (rows : List HomeRow) (other : Settings) → IsImage (files new.disk 0) (image 0) →
      OpensRows other image rows → rows ≡ []
  pub left : DiskTells → (known : DirKnown) → directory.Stopped files old known → directory.Stopped files new known
      ⊎ ((kept : Bool) × directory.Stands files new (directory_with (known.rows ++ kept_row known.pending kept)) (replicate (old.settings).machines false))

-- the Directory was opened, with these notes
pub record OpensDirectory {D : Type 0} (DiskTells : Type 0) (files : D → Files) (old new : State D) (notes : List Note) : Type 0 where
  pub up : directory.IsUp new
  pub first : DiskTells → directory.IsFresh old → (notes ≡ []) × ((rows : List HomeRow) × OpensRows old.settings (λ n. (files old.disk n).now) rows
      × directory.Stands files new (directory_with rows) (replicate (old.settings).machines false))
  pub reopened : DiskTells → (known : DirKnown) → directory.Stopped files old known → (kept : Bool) × (notes ≡ row_notes known.pending kept)
      × directory.Stands files new (directory_with (known.rows ++ kept_row known.pending kept)) (replicate (old.settings).machines false)
  pub undamaged : DiskTells → 0 < length (files old.disk 0).now → (at : ℕ) → IsDamagedJournal (journal_super old.settings) (files old.disk 0).now at → ⊥
  pub undamaged_now : DiskTells → (at : ℕ) → IsDamagedJournal (journal_super old.settings) (files new.disk 0).now at → ⊥
  pub formatted : DiskTells → 0 < length (files new.disk 0).now
  pub told : notes ≡ notes_by (directory.unsure_of old.mode) (directory.home_of new)
  pub fits : AllByRecursion FitsNote notes
  pub seen : (rows : List HomeRow) × RowsWithin (new.settings).volumes rows × open_seen.OpenSeen (old.settings).machines rows (directory_seen new)
  pub reads : DiskTells → directory.IsFresh old → OpensRows old.settings (λ n. (files old.disk n).now) seen.0
  pub reads_now : DiskTells → OpensRows old.settings (λ n. (files new.disk n).now) seen.0

-- why the Directory was not opened
abbrev pub RefusesDirectory : {D : Type 0} → Type 0 → (D → Files) → (D → ℕ) → State D → State D → ClusterFault → Type 0
RefusesDirectory DiskTells files faults old new (Shelf count) = ⊥
RefusesDirectory DiskTells files faults old new (Failed slot count) = (slot ≡ 0) × Rose (faults old.disk) (faults new.disk) × (count ≡ faults new.disk)
RefusesDirectory DiskTells files faults old new (Damaged slot file at) = (slot ≡ 0) × (file ≡ 0) × (DiskTells →
    IsDamagedJournal (journal_super old.settings) (files old.disk 0).now at
    × ((rows : List HomeRow) → OpensRows old.settings (λ n. (files old.disk n).now) rows → ⊥))
RefusesDirectory DiskTells files faults old new NoMemory = Unit {0}

-- ALL PARTS

-- the Directory was opened and each volume, and the notes of the Directory are the last
pub record OpensParts {D P : Type 0} (DiskTells : Type 0) (files : D → Files) (Tells : Type 0) (faults fuses : D → ℕ) (old new : State D) (olds news : List (Volume D P))
    (notes : List Note) : Type 0 where
  pub of_volumes : List Note
  pub of_directory : List Note
  pub told : notes ≡ of_volumes ++ of_directory
  pub volumes : Gathers (OpensVolume DiskTells files Tells faults fuses) olds news of_volumes
  pub directory : OpensDirectory DiskTells files old new of_directory

-- the Directory was not opened; or it was, and then one of the volumes was not
abbrev pub RefusesParts : {D P : Type 0} → Type 0 → (D → Files) → (D → ℕ) → Settings → State D → State D → List (Volume D P) → List (Volume D P) → ClusterFault → Type 0
RefusesParts DiskTells files faults settings old new olds news fault =
    RefusesDirectory DiskTells files faults old new fault
    ⊎ ((notes : List Note) × OpensDirectory DiskTells files old new notes × RefusesVolumes DiskTells files faults settings olds news fault)

-- Behind a stop the volumes, of which the first has number v, stand for an outcome of a restart.
pub record VolumesReopened {D P : Type 0} (files : D → Files) (Tells : Type 0) (settings : Settings) (v : ℕ) (known : List VolumeKnown) (notes : List Note) (volumes : List (Volume D P)) : Type 0 where
  pub kept : List (List Bool)
  pub opened : List VolumeKnown
  pub reopened : ReopenedVolumes settings v known kept opened
  pub stands : AllZip (logical.Stands files Tells) volumes opened
  pub told : notes ≡ volume_notes settings v known kept
