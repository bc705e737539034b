-- A load that has taken some lines: its store, the batch that is open, and what it told.
use Rattle.std.specs.Prelude.{◌≡◌, ◌⊎◌, ◌<◌, ◌+◌, ◌%◌, ◌++◌, ℕ, List, [], ◌∷◌, length, Option, Some, None, All, option_map}
use Rattle.hay_needle.specs.declared.settings.Settings.{Settings}
use Rattle.hay_disk.specs.Disk.{Files}
use Rattle.hay_reply.specs.declared.Reply.{Reply}
use Rattle.hay_reply.specs.declared.Reply.TheVariants.{Failed, FailedDir}
use Rattle.hay_reply.specs.Fits.{FitsReply}
use Rattle.std.specs.List.{AllByRecursion}
use Rattle.hay_batch.specs.declared.photo.NewPhoto.{NewPhoto}
use Rattle.hay_batch.specs.declared.replica.LoadReplica.{LoadReplica}
use Rattle.hay_batch.specs.declared.store.LoadStore.{LoadStore}
use Rattle.hay_batch.specs.Batches.{batch_total}
use Rattle.hay_batch.specs.Homes.{AreHomes, home_among}
use Rattle.hay_batch.specs.Shelves.{LeavesBatch, OpensStore, StandsAs, StoredStore, slot_of}
use Rattle.hay_batch.specs.Stores.{FailsAt, IsFirstRoom, IsReadyStore, IsShaped, ReplicaAt}
use Rattle.hay_load.specs.declared.batch.Gathered.{Gathered}
use Rattle.hay_load.specs.declared.loading.Loading.{Loading}
use Rattle.hay_load.specs.declared.reply.LoadReply.{LoadReply}
use Rattle.hay_load.specs.declared.reply.LoadReply.TheVariants.{Other}
use Rattle.hay_load.specs.Answers.{AnswersAll, AnswersBatch, MayLoad, Remembered, SuitAll, SuitsBatch, counted, remembered_of, reply_lines}
use Rattle.hay_load.specs.Gathering.{Group, Batch, Bad, IsGathered, OpenBatch, key_of}
use Rattle.hay_load.specs.Replies.{FitsLoad, load_line}

-- THE OPEN BATCH

abbrev pub batch_of : Gathered → OpenBatch
batch_of gathered = record { line = gathered.line; photos = gathered.photos.items }

abbrev pub held_of : Option Gathered → Option OpenBatch
held_of held = option_map batch_of held

-- the open batch, if there is one, may be loaded, and so may others behind it
pub record IsLoading {D : Type 0} (Tells : Type 0) (files : D → Files) (load : Loading D) : Type 0 where
  pub shape : IsShaped load.store
  pub some_replicas : 0 < load.store.settings.replicas
  pub ready : Tells → IsReadyStore files load.store
  pub gathered : (gathered : Gathered) → load.held ≡ Some gathered → IsGathered gathered.photos.items

-- WHAT WAS TOLD

-- A batch was answered by this reply, and the store stands at what is stored then.
pub record Answered {D : Type 0} (files : D → Files) (settings : Settings) (s : StoredStore) (photos : List NewPhoto) (reply : LoadReply) (store : LoadStore D) : Type 0 where
  pub stored : StoredStore
  pub answers : AnswersBatch settings s photos reply stored
  pub stands : StandsAs files store stored

-- so were these groups
pub record AnsweredAll {D : Type 0} (files : D → Files) (settings : Settings) (s : StoredStore) (groups : List Group) (replies : List LoadReply) (store : LoadStore D) : Type 0 where
  pub stored : StoredStore
  pub answers : AnswersAll settings s groups replies stored
  pub stands : StandsAs files store stored

-- what the store keeps in memory is this, and each replica has the room of the settings
pub record Remembers {D : Type 0} (store : LoadStore D) (known : Remembered) : Type 0 where
  pub homes : AreHomes store.directory.homes known.rows
  pub count : counted store.directory.rows ≡ counted (length known.rows)
  pub ends : (v j : ℕ) (r : LoadReplica D) → ReplicaAt store v j r → r.volume.end ≡ known.ends v j
  pub rooms : (v j : ℕ) (r : LoadReplica D) → ReplicaAt store v j r → r.volume.capacity ≡ store.settings.capacity

-- A batch was answered by a reply that suits it, and the store remembers this then.
pub record Suited {D : Type 0} (settings : Settings) (first : Remembered) (photos : List NewPhoto) (reply : LoadReply) (store : LoadStore D) : Type 0 where
  pub known : Remembered
  pub suits : SuitsBatch settings first photos reply known
  pub remembers : Remembers store known

-- so were these groups
pub record SuitedAll {D : Type 0} (settings : Settings) (first : Remembered) (groups : List Group) (replies : List LoadReply) (store : LoadStore D) : Type 0 where
  pub known : Remembered
  pub suit : SuitAll settings first groups replies known
  pub remembers : Remembers store known

-- These groups were answered, and the lines of their replies were added.
pub record Loads {D : Type 0} (Tells : Type 0) (files : D → Files) (groups : List Group) (old new : LoadStore D) (before after : List ℕ) : Type 0 where
  pub replies : List LoadReply
  pub many : length replies ≡ length groups
  pub fit : AllByRecursion FitsLoad replies
  pub suited : (known : Remembered) → Remembers old known → SuitedAll old.settings known groups replies new
  pub told : after ≡ before ++ reply_lines groups replies
  pub answers : Tells → (s : StoredStore) → StandsAs files old s → AnsweredAll files old.settings s groups replies new

-- WHERE A DISK FAILED

-- the reply to a disk's failure
pub record IsFailed (settings : Settings) (slot faults : ℕ) (reply : Reply) : Type 0 where
  pub directory : slot ≡ 0 → reply ≡ FailedDir faults
  pub replica : (v j : ℕ) → j < settings.replicas → slot ≡ slot_of settings v j → reply ≡ Failed v ((v + j) % settings.machines) faults

-- A disk failed while a batch was loaded. No photo of it had a home, and the disk is that of the Directory, or that of a replica of the
-- first try with room.
pub record FailsBatch {D : Type 0} (fault_count : D → ℕ) (photos : List NewPhoto) (old new : LoadStore D) (slot faults : ℕ) : Type 0 where
  pub homeless : All (λ (photo : NewPhoto). home_among old.directory.homes photo.pair ≡ None) photos
  pub volume : ℕ
  pub room : IsFirstRoom old (key_of photos) (batch_total photos) volume
  pub fails : FailsAt fault_count volume old new slot faults

-- A disk failed while the first of these groups, a batch, was loaded, and the line of this was added.
pub record FailsFirst {D : Type 0} (fault_count : D → ℕ) (groups : List Group) (old new : LoadStore D) (before after : List ℕ) : Type 0 where
  pub batch : OpenBatch
  pub behind : List Group
  pub is : groups ≡ Batch batch.line batch.photos ∷ behind
  pub slot : ℕ
  pub faults : ℕ
  pub fails : FailsBatch fault_count batch.photos old new slot faults
  pub reply : Reply
  pub fits : FitsReply reply
  pub failed : IsFailed old.settings slot faults reply
  pub told : after ≡ before ++ load_line batch.line (Other reply)

-- WHAT A STOP LEAVES

-- what an opening finds: what was stored; or, where no photo of the batch has a home by that, the same with no row of the batch,
-- or with the whole of it in the first try with room
abbrev pub LeavesNew : Settings → List NewPhoto → (ℕ → ℕ → List ℕ) → StoredStore → Type 0
LeavesNew settings photos image s =
    OpensStore settings image s ⊎ ((volume : ℕ) × MayLoad settings (remembered_of s) photos volume × LeavesBatch settings volume photos image s)

-- the same where the first of these groups may be such a batch
abbrev pub LeavesFirst : Settings → List Group → (ℕ → ℕ → List ℕ) → StoredStore → Type 0
LeavesFirst settings [] image s = OpensStore settings image s
LeavesFirst settings (Bad line ∷ groups) image s = OpensStore settings image s
LeavesFirst settings (Batch line photos ∷ groups) image s = LeavesNew settings photos image s
