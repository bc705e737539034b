-- What a line does with one replica, and what it may be answered.
use Rattle.std.specs.Prelude.{ℕ, ◌+◌, ◌==◌, ◌&&◌, Bool, false, List}
use Rattle.hay_needle.specs.declared.settings.Settings.{Settings}
use Rattle.hay_needle.specs.declared.settings.TheConstants.{LAST_GENERATION}
use Rattle.hay_reply.specs.declared.Reply.{Reply}
use Rattle.hay_reply.specs.declared.Reply.TheVariants.{Busy, Compacted, Flushed, Idle, ReadOnly, Stepped, Worn}
use Rattle.hay_legal.specs.declared.known.Known.{Known}
use Rattle.hay_legal.specs.Plain.{change_replica, replica_of, with_run}
use Rattle.hay_audit_steps.specs.Next as next
use Rattle.hay_audit.specs.declared.upkeep.Spot.{Spot}
use Rattle.hay_audit.specs.declared.upkeep.Work.{Work}
use Rattle.hay_audit.specs.declared.upkeep.Work.TheVariants.{Flush, Compact, Begin, Step, Finish, Fuse}

abbrev pub is_worn : Known → Spot → Bool
is_worn b spot = next.is_idle b spot.volume spot.replica && ((replica_of b spot.volume spot.replica).generation == LAST_GENERATION)

-- a compaction that is not begun, for this
abbrev pub is_refused_start : Known → Spot → Reply → Bool
is_refused_start b spot (ReadOnly by) = next.is_frozen_by b spot.volume by
is_refused_start b spot (Busy v m g) = next.names spot.volume spot.machine v m && (next.is_open b spot.volume && next.is_busy (replica_of b spot.volume spot.replica).run g)
is_refused_start b spot (Worn v m) = next.names spot.volume spot.machine v m && (next.is_open b spot.volume && is_worn b spot)
is_refused_start b spot _ = false

-- a compaction that is not gone on with, for this
abbrev pub is_refused_run : Known → Spot → Reply → Bool
is_refused_run b spot (ReadOnly by) = next.is_frozen_by b spot.volume by
is_refused_run b spot (Idle v m) = next.names spot.volume spot.machine v m && (next.is_open b spot.volume && next.is_idle b spot.volume spot.replica)
is_refused_run b spot _ = false

abbrev pub next_begun : Known → Spot → ℕ → ℕ → ℕ → List Known
next_begun b spot v m g =
    next.keep_if (next.names spot.volume spot.machine v m && (next.is_open b spot.volume
    && (next.is_resting b spot.volume spot.replica && (g == (replica_of b spot.volume spot.replica).generation + 1))))
    (change_replica b spot.volume spot.replica (with_run (record { goal = g; left = (replica_of b spot.volume spot.replica).cells })))

abbrev pub next_work : Settings → Known → ℕ → ℕ → Work → ℕ → Reply → List Known
next_work settings b v m Flush j reply = next.next_flush settings b v m j reply
next_work settings b v m Compact j reply = next.next_compact settings b v m j reply
next_work settings b v m Begin j reply = next.next_begin settings b v m j reply
next_work settings b v m (Step cells) j reply = next.next_step settings b v m j cells reply
next_work settings b v m Finish j reply = next.next_finish settings b v m j reply
next_work settings b v m (Fuse calls) j reply = next.next_fuse settings b v m j calls reply

-- a reply that tells no sizes but those that change with all else
abbrev pub IsSizelessWork : Work → Reply → Type 0
IsSizelessWork Flush (Flushed v m n) = ⊥
IsSizelessWork Compact (Compacted v m g) = ⊥
IsSizelessWork (Step cells) (Stepped v m n) = ⊥
IsSizelessWork Finish (Compacted v m g) = ⊥
IsSizelessWork work reply = Unit {0}
