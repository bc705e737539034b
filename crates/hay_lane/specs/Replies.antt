-- How a line is answered by what its calls answered.
use Rattle.std.specs.Prelude.{◌≡◌, ◌⊎◌, ℕ, [], ◌∷◌}
use Rattle.hay_reply.specs.declared.Reply.{Reply}
use Rattle.hay_reply.specs.declared.Reply.TheVariants as reply
use Rattle.hay_shared_volume.specs.declared.answers.Delete.{Delete}
use Rattle.hay_shared_volume.specs.declared.answers.Delete.TheVariants as delete
use Rattle.hay_shared_volume.specs.declared.answers.Flush.{Flush}
use Rattle.hay_shared_volume.specs.declared.answers.Flush.TheVariants as flush
use Rattle.hay_shared_volume.specs.declared.answers.Begin.{Begin}
use Rattle.hay_shared_volume.specs.declared.answers.Begin.TheVariants as begin
use Rattle.hay_shared_volume.specs.declared.answers.Step.{Step}
use Rattle.hay_shared_volume.specs.declared.answers.Step.TheVariants as step
use Rattle.hay_shared_volume.specs.declared.answers.Finish.{Finish}
use Rattle.hay_shared_volume.specs.declared.answers.Finish.TheVariants as finish
use Rattle.hay_shared_volume.specs.declared.answers.Compaction.{Compaction}
use Rattle.hay_shared_volume.specs.declared.answers.Compaction.TheVariants as compaction

-- volume v is closed by this machine, if there is memory to say so
abbrev pub IsReadOnly : ℕ → ℕ → Reply → Type 0
IsReadOnly v m r = (r ≡ reply.ReadOnly (record { volume = v; machine = m } ∷ [])) ⊎ (r ≡ reply.NoMem)

-- of the pair's home, where there are so many rows
abbrev pub IsDeleteReply : ℕ → ℕ → Delete → Reply → Type 0
IsDeleteReply v d (delete.Deleted p) r = r ≡ reply.Deleted v p d
IsDeleteReply v d (delete.Absent p) r = r ≡ reply.Absent v p d
IsDeleteReply v d (delete.Frozen m) r = IsReadOnly v m r
IsDeleteReply v d (delete.Failed m f) r = r ≡ reply.Failed v m f
IsDeleteReply v d (delete.Damaged m at) r = r ≡ reply.Damaged v m at
IsDeleteReply v d delete.NoMemory r = r ≡ reply.NoMem

-- OF THE REPLICA OF VOLUME v ON MACHINE m

abbrev pub IsFlushReply : ℕ → ℕ → Flush → Reply → Type 0
IsFlushReply v m (flush.Flushed n) r = r ≡ reply.Flushed v m n
IsFlushReply v m (flush.Frozen by) r = IsReadOnly v by r
IsFlushReply v m flush.Stuck r = IsReadOnly v m r
IsFlushReply v m (flush.Failed f) r = r ≡ reply.Failed v m f
IsFlushReply v m flush.NoMemory r = r ≡ reply.NoMem

abbrev pub IsBeginReply : ℕ → ℕ → Begin → Reply → Type 0
IsBeginReply v m (begin.Begun g) r = r ≡ reply.Begun v m g
IsBeginReply v m (begin.Frozen by) r = IsReadOnly v by r
IsBeginReply v m (begin.Busy g) r = r ≡ reply.Busy v m g
IsBeginReply v m begin.Worn r = r ≡ reply.Worn v m
IsBeginReply v m (begin.Failed f) r = r ≡ reply.Failed v m f
IsBeginReply v m begin.NoMemory r = r ≡ reply.NoMem

abbrev pub IsStepReply : ℕ → ℕ → Step → Reply → Type 0
IsStepReply v m (step.Stepped n) r = r ≡ reply.Stepped v m n
IsStepReply v m (step.Frozen by) r = IsReadOnly v by r
IsStepReply v m step.Idle r = r ≡ reply.Idle v m
IsStepReply v m (step.Failed f) r = r ≡ reply.Failed v m f
IsStepReply v m (step.Damaged at) r = r ≡ reply.Damaged v m at
IsStepReply v m (step.NoMemory some) r = r ≡ reply.NoMem

abbrev pub IsFinishReply : ℕ → ℕ → Finish → Reply → Type 0
IsFinishReply v m (finish.Compacted g) r = r ≡ reply.Compacted v m g
IsFinishReply v m (finish.Frozen by) r = IsReadOnly v by r
IsFinishReply v m finish.Idle r = r ≡ reply.Idle v m
IsFinishReply v m (finish.Failed f) r = r ≡ reply.Failed v m f
IsFinishReply v m (finish.Poised f) r = r ≡ reply.Failed v m f
IsFinishReply v m (finish.Damaged at) r = r ≡ reply.Damaged v m at
IsFinishReply v m finish.NoMemory r = r ≡ reply.NoMem

abbrev pub IsCompactionReply : ℕ → ℕ → Compaction → Reply → Type 0
IsCompactionReply v m (compaction.Compacted g) r = r ≡ reply.Compacted v m g
IsCompactionReply v m (compaction.Frozen by) r = IsReadOnly v by r
IsCompactionReply v m (compaction.Deleted f) r = r ≡ reply.Failed v m f
IsCompactionReply v m (compaction.Failed f) r = r ≡ reply.Failed v m f
IsCompactionReply v m (compaction.Poised f) r = r ≡ reply.Failed v m f
IsCompactionReply v m (compaction.Damaged at) r = r ≡ reply.Damaged v m at
IsCompactionReply v m compaction.NoMemory r = r ≡ reply.NoMem
IsCompactionReply v m compaction.Idle r = r ≡ reply.Idle v m
