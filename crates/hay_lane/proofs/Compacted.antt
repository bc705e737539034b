-- The answers of whole compactions, whatever their calls answered.
use Rattle.std.proofs.Common.{◌≡◌, ◌≢◌, inl, inr, ℕ, ◌<◌, Bool, List, true, false, refl, sym, subst, Some}
use Rattle.hay_needle.specs.declared.settings.Settings.{Settings}
use Rattle.hay_script.specs.declared.Command.TheVariants as command
use Rattle.hay_reply.specs.declared.Reply.{Reply}
use Rattle.hay_core.specs.declared.entry.CoreTag.{CoreTag}
use Rattle.hay_legal.specs.Known.{machine_of, replica_on}
use Rattle.hay_meeting.specs.Acts.{Start}
use Rattle.hay_meeting.specs.Sights.{Sight}
use Rattle.hay_holdings.specs.Lines.{Compacting, IsAnswered}
use Rattle.hay_holdings.specs.Sights.{AtVolume}
use Rattle.hay_holdings.specs.Volumes as calls
use Rattle.hay_holdings.proofs.CompactAnswers as work
use Rattle.hay_holdings.proofs.Going.{quiet_went}
use Rattle.hay_holdings.proofs.Unchanged.{call_unchanged, idle_unchanged, wants_memory}
use Rattle.hay_shared_volume.specs.declared.answers.Begin.{Begin}
use Rattle.hay_shared_volume.specs.declared.answers.Begin.TheVariants as begin
use Rattle.hay_shared_volume.specs.declared.answers.Compaction.{Compaction}
use Rattle.hay_shared_volume.specs.declared.answers.Compaction.TheVariants as compaction
use Rattle.hay_lane.specs.Replies.{IsBeginReply, IsCompactionReply}
use Rattle.hay_shared_volume.specs.Tellings.{BeginTells, CompactionTells, EndTells, StoreVolume}
use Rattle.hay_lane.proofs.Maintained.{call_as}

module _ (settings : Settings) (start : Start) (drained : List Bool) (tag : CoreTag) (v m j : ℕ) (there : replica_on settings v m ≡ Some j) (below : v < settings.volumes) where
  abbrev pub CompactAnswered : Sight → Sight → Reply → Type 0
  CompactAnswered a b r = IsAnswered settings start drained tag (command.Compact v m) r a b

  -- it was not begun
  pub refusal_answered : {a b : Sight} (answer : Begin) (r : Reply) → ((g : ℕ) → answer ≢ begin.Begun g)
      → AtVolume v (BeginTells (record { settings = settings; start = start; number = v }) tag j answer) a b → IsBeginReply v m answer r → CompactAnswered a b r
  refusal_answered (begin.Begun g) r not x is = absurd (not g refl)
  refusal_answered {a} {b} (begin.Frozen by) r not x (inl is) = subst (CompactAnswered a b) (sym is) (work.compact_frozen settings start drained tag v j m there below x)
  refusal_answered {a} {b} (begin.Frozen by) r not x (inr is) =
      subst (CompactAnswered a b) (sym is) (wants_memory settings start drained (idle_unchanged (quiet_went x ((x.is).is).0)) (command.Compact v m) (λ pick e. absurd (cc e)))
  refusal_answered {a} {b} (begin.Busy g) r not x is = subst (CompactAnswered a b) (sym is) (work.compact_busy settings start drained tag v j m there below x)
  refusal_answered {a} {b} begin.Worn r not x is = subst (CompactAnswered a b) (sym is) (work.compact_worn settings start drained tag v j m there below x)
  refusal_answered {a} {b} (begin.Failed f) r not x is = subst (CompactAnswered a b) (sym is) (work.compact_not_begun settings start drained tag v j m there below x)
  refusal_answered {a} {b} begin.NoMemory r not x is =
      subst (CompactAnswered a b) (sym is) (wants_memory settings start drained (call_unchanged settings start x) (command.Compact v m) (λ pick e. absurd (cc e)))

  -- it was, and came to its end
  module _ (on : machine_of settings v j ≡ m) {g : ℕ} {a k : Sight} (begun : AtVolume v (calls.Begun settings start v tag j g) a k) where
    run : Compacting settings start drained tag v j a k
    run = work.compact_begins settings start drained tag v j begun

    abbrev here : StoreVolume
    here = record { settings = settings; start = start; number = v }

    -- it stands behind all that the lane has seen then
    stands : calls.HasRunOf settings start v j tag (k.volumes v).seen
    stands = subst (calls.HasRunOf settings start v j tag) (sym ((begun.is).holding).seen) ((begun.is).is).1

    module _ {b : Sight} where
      ended_answered : (answer : Compaction) (r : Reply) → AtVolume v (EndTells here tag j answer) k b
          → IsCompactionReply v m answer r → CompactAnswered a b r
      ended_answered (compaction.Compacted n) r x is =
          let swap = x.is in
          subst (CompactAnswered a b) (sym is) (work.compact_done settings start drained tag v j m there below run
          (call_as _ (calls.Swapped settings start v tag j tag n swap.0 swap.1 false) x swap.2))
      ended_answered (compaction.Frozen by) r x (inl is) =
          subst (CompactAnswered a b) (sym is) (work.compact_met_frozen settings start drained tag v j m there below run (call_as _ (calls.RunFrozen settings start v tag j tag by) x x.is))
      ended_answered (compaction.Frozen by) r x (inr is) =
          subst (CompactAnswered a b) (sym is) (work.compact_frozen_wanted settings start drained tag v j m there below run (call_as _ (calls.RunFrozen settings start v tag j tag by) x x.is))
      ended_answered (compaction.Deleted f) r x is =
          subst (CompactAnswered a b) (sym is) (work.compact_deleted settings start drained tag v j m there below run (call_as _ (calls.RunDeleted settings start v tag j tag f) x x.is))
      ended_answered (compaction.Failed f) r x is =
          subst (CompactAnswered a b) (sym is) (work.compact_failed settings start drained tag v j m there below run (call_as _ (calls.RunFailed settings start v tag j tag f) x x.is))
      ended_answered (compaction.Poised f) r x is =
          let poised : AtVolume v (calls.SwapFailed settings start v tag j tag m f) k b =
          subst (λ w. AtVolume v (calls.SwapFailed settings start v tag j tag w f) k b) on (call_as _ (calls.SwapFailed settings start v tag j tag (machine_of settings v j) f) x x.is) in
          subst (CompactAnswered a b) (sym is) (work.compact_poised settings start drained tag v j m there below run poised)
      ended_answered (compaction.Damaged at) r x is = absurd x.is
      ended_answered compaction.Idle r x is = absurd x.is
      ended_answered compaction.NoMemory r x is =
          subst (CompactAnswered a b) (sym is) (elim x.is [
            | inl ended ↦ work.compact_wanted settings start drained tag v j m there below run (call_as _ (calls.RunWanted settings start v tag j tag) x ended)
            | inr swap ↦ work.compact_froze settings start drained tag v j m there below run (call_as _ (calls.Swapped settings start v tag j tag swap.0 swap.1 swap.2 true) x swap.3)
          ])

      -- it is not lost
      pub never_lost : AtVolume v (CompactionTells here tag j compaction.Idle) k b → ⊥
      never_lost x = x.is stands

      pub end_answered : (answer : Compaction) (r : Reply) → AtVolume v (CompactionTells here tag j answer) k b → IsCompactionReply v m answer r → CompactAnswered a b r
      end_answered answer r x is = ended_answered answer r (call_as (CompactionTells here tag j answer) (EndTells here tag j answer) x (x.is stands)) is
