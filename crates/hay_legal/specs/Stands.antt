-- When the disks and arms hold what is known. What an image of a disk means is a parameter: the formats give it.
use Rattle.std.specs.Prelude.{◌≡◌, ℕ, ◌<◌, Bool, List}
use Rattle.hay_needle.specs.declared.settings.Settings.{Settings}
use Rattle.hay_disk.specs.Disk.{Files, MayLeave}
use Rattle.hay_needle.specs.Tables.{Table}
use Rattle.hay_legal.specs.declared.known.HomeRow.{HomeRow}
use Rattle.hay_legal.specs.declared.known.ReplicaKnown.{ReplicaKnown}
use Rattle.hay_legal.specs.declared.known.VolumeKnown.{VolumeKnown}
use Rattle.hay_legal.specs.declared.known.Known.{Known}
use Rattle.hay_legal.specs.Known.{volume_at, replica_at, slot_of, disk_count, fault_count, arm_count, fuse_count}
use Rattle.hay_legal.specs.Restarts.{Reopens, ReopenedVolume}

-- What an opening finds on a replica's disk.
pub record Found : Type 0 where
  pub table : Table
  pub end : ℕ
  pub cells : ℕ
  pub bare : ℕ
  pub generation : ℕ

abbrev pub found_of : ReplicaKnown → Found
found_of replica = record { table = replica.base; end = replica.end; cells = replica.cells; bare = replica.bare; generation = replica.generation }

-- The contents of a disk, by file.
abbrev pub Contents : Type 0
Contents = ℕ → List ℕ

-- The disks by slot, with their counts, the arms' counts by lane, and that of the shelf.
pub record Outside : Type 0 where
  pub files : ℕ → Files
  pub faults : ℕ → ℕ
  pub fuses : ℕ → ℕ
  pub arms : ℕ → ℕ
  pub shelf : ℕ

-- A restart over these contents may find t.
pub record IsFound (replica : ℕ → ℕ → Contents → Found → Type 0) (rows : Contents → List HomeRow → Type 0) (settings : Settings) (image : ℕ → Contents) (t : Known) : Type 0 where
  pub replicas : (v j : ℕ) → v < settings.volumes → j < settings.replicas →
      replica v j (image (slot_of settings v j)) (found_of (replica_at (volume_at t v) j))
  pub directory : rows (image 0) t.directory.rows

-- what one of the outcomes of a restart from k is
pub record HasOutcome (replica : ℕ → ℕ → Contents → Found → Type 0) (rows : Contents → List HomeRow → Type 0) (settings : Settings) (k : Known) (image : ℕ → Contents) : Type 0 where
  pub kept : List (List Bool)
  pub row : Bool
  pub opened : Known
  pub reopens : Reopens settings k kept row opened
  pub found : IsFound replica rows settings image opened

-- one volume's part of it, over the contents of its replicas' disks
pub record VolumeOutcome (replica : ℕ → ℕ → Contents → Found → Type 0) (settings : Settings) (v : ℕ) (volume : VolumeKnown) (image : ℕ → Contents) : Type 0 where
  pub kept : List Bool
  pub opened : VolumeKnown
  pub reopened : ReopenedVolume settings v volume kept opened
  pub found : (j : ℕ) → j < settings.replicas → replica v j (image j) (found_of (replica_at opened j))

-- In every image an opening finds one of the outcomes of a restart: where nothing is pending, stuck or poised, there is
-- just one, which is what is known.
pub record StandsOn (replica : ℕ → ℕ → Contents → Found → Type 0) (rows : Contents → List HomeRow → Type 0) (settings : Settings) (k : Known) (outside : Outside) : Type 0 where
  pub images : (image : ℕ → Contents) → ((slot : ℕ) → slot < disk_count settings → MayLeave (outside.files slot) (image slot)) →
      HasOutcome replica rows settings k image
  pub faults : (slot : ℕ) → slot < disk_count settings → fault_count k slot ≡ outside.faults slot
  pub fuses : (slot : ℕ) → slot < disk_count settings → fuse_count k slot ≡ outside.fuses slot
  pub arms : (lane : ℕ) → lane < 8 → arm_count k lane ≡ outside.arms lane
