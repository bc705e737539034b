-- The answers of flushes and of compactions step by step, whatever their calls answered.
use Rattle.std.proofs.Common.{◌≡◌, ◌≢◌, inl, inr, ℕ, ◌<◌, Bool, List, [], ◌∷◌, sym, subst, Some, None}
use Rattle.hay_needle.specs.declared.settings.Settings.{Settings}
use Rattle.hay_script.specs.declared.Command.{Command}
use Rattle.hay_script.specs.declared.Command.TheVariants as command
use Rattle.hay_reply.specs.declared.Reply.{Reply}
use Rattle.hay_reply.specs.declared.Reply.TheVariants as reply
use Rattle.hay_core.specs.declared.entry.CoreTag.{CoreTag}
use Rattle.hay_legal.specs.Known.{machine_of, replica_on}
use Rattle.hay_meeting.specs.Acts.{Start}
use Rattle.hay_meeting.specs.Sights.{Sight}
use Rattle.hay_holdings.specs.Lines.{IsAnswered, Unchanged}
use Rattle.hay_holdings.specs.Sights.{AtVolume}
use Rattle.hay_holdings.specs.Volumes as calls
use Rattle.hay_holdings.proofs.Going.{quiet_went}
use Rattle.hay_holdings.proofs.Unchanged.{call_unchanged, idle_unchanged, wants_memory}
use Rattle.hay_holdings.proofs.WorkAnswers as work
use Rattle.hay_shared_volume.specs.declared.answers.Flush.{Flush}
use Rattle.hay_shared_volume.specs.declared.answers.Flush.TheVariants as flush
use Rattle.hay_shared_volume.specs.declared.answers.Begin.{Begin}
use Rattle.hay_shared_volume.specs.declared.answers.Begin.TheVariants as begin
use Rattle.hay_shared_volume.specs.declared.answers.Step.{Step}
use Rattle.hay_shared_volume.specs.declared.answers.Step.TheVariants as step
use Rattle.hay_shared_volume.specs.declared.answers.Finish.{Finish}
use Rattle.hay_shared_volume.specs.declared.answers.Finish.TheVariants as finish
use Rattle.hay_lane.specs.Replies.{IsBeginReply, IsFinishReply, IsFlushReply, IsReadOnly, IsStepReply}
use Rattle.hay_shared_volume.specs.Tellings.{BeginTells, FinishTells, FlushTells, FrozenTells, Own, StepTells, StoreVolume}

-- the same call, of which something else is known
pub call_as : {v : ℕ} (Is Is' : calls.VolumeCall) {a b : Sight} (x : AtVolume v Is a b) → Is' (a.volumes v) (b.volumes v) → AtVolume v Is' a b
call_as Is Is' x is = record { is = is; others = x.others; directory = x.directory; arm = x.arm }

module _ (settings : Settings) (start : Start) (drained : List Bool) (tag : CoreTag) (a b : Sight) where
  abbrev pub Answered : Command → Reply → Type 0
  Answered c r = IsAnswered settings start drained tag c r a b

  module _ (v m j : ℕ) (there : replica_on settings v m ≡ Some j) (below : v < settings.volumes) (on : machine_of settings v j ≡ m) where
    abbrev pub here : StoreVolume
    here = record { settings = settings; start = start; number = v }

    -- for want of memory to say by which machine it is closed
    quiet_wanted : (c : Command) → ((pick : ℕ) → c ≢ command.Restart pick) → Unchanged tag a b → Answered c reply.NoMem
    quiet_wanted c other un = wants_memory settings start drained un c other

    read_only : (c : Command) → ((pick : ℕ) → c ≢ command.Restart pick) → {by : ℕ} {r : Reply} → Unchanged tag a b
        → Answered c (reply.ReadOnly (record { volume = v; machine = by } ∷ [])) → IsReadOnly v by r → Answered c r
    read_only c other un told (inl is) = subst (Answered c) (sym is) told
    read_only c other un told (inr is) = subst (Answered c) (sym is) (quiet_wanted c other un)

    -- FLUSHES

    pub flush_answered : (answer : Flush) (r : Reply) → AtVolume v (FlushTells here tag j answer) a b → IsFlushReply v m answer r → Answered (command.Flush v m) r
    flush_answered (flush.Flushed n) r x is = subst (Answered (command.Flush v m)) (sym is) (work.flush_done settings start drained tag a b v m j there below x)
    flush_answered (flush.Frozen by) r x is =
        read_only (command.Flush v m) (λ pick e. absurd (cc e)) (idle_unchanged (quiet_went x ((x.is).is).0)) (work.flush_frozen settings start drained tag a b v m j there below x) is
    flush_answered flush.Stuck r x is =
        read_only (command.Flush v m) (λ pick e. absurd (cc e)) (idle_unchanged (quiet_went x ((x.is).is).0)) (work.flush_stuck settings start drained tag a b v m j there below x) is
    flush_answered (flush.Failed f) r x is = subst (Answered (command.Flush v m)) (sym is) (work.flush_failed settings start drained tag a b v m j there below x)
    flush_answered flush.NoMemory r x is = subst (Answered (command.Flush v m)) (sym is) (quiet_wanted (command.Flush v m) (λ pick e. absurd (cc e)) (call_unchanged settings start x))

    -- COMPACTIONS

    pub begin_answered : (answer : Begin) (r : Reply) → AtVolume v (BeginTells here tag j answer) a b → IsBeginReply v m answer r → Answered (command.Begin v m) r
    begin_answered (begin.Begun g) r x is = subst (Answered (command.Begin v m)) (sym is) (work.begin_done settings start drained tag a b v m j there below x)
    begin_answered (begin.Frozen by) r x is =
        read_only (command.Begin v m) (λ pick e. absurd (cc e)) (idle_unchanged (quiet_went x ((x.is).is).0)) (work.begin_frozen settings start drained tag a b v m j there below x) is
    begin_answered (begin.Busy g) r x is = subst (Answered (command.Begin v m)) (sym is) (work.begin_busy settings start drained tag a b v m j there below x)
    begin_answered begin.Worn r x is = subst (Answered (command.Begin v m)) (sym is) (work.begin_worn settings start drained tag a b v m j there below x)
    begin_answered (begin.Failed f) r x is = subst (Answered (command.Begin v m)) (sym is) (work.begin_failed settings start drained tag a b v m j there below x)
    begin_answered begin.NoMemory r x is = subst (Answered (command.Begin v m)) (sym is) (quiet_wanted (command.Begin v m) (λ pick e. absurd (cc e)) (call_unchanged settings start x))

    -- the same of the line that began the compaction
    own_as : (Is : CoreTag → calls.VolumeCall) (x : AtVolume v (Own tag Is) a b) → AtVolume v (Is (x.is).who) a b
    own_as Is x = call_as (Own tag Is) (Is (x.is).who) x (x.is).is

    pub step_answered : (cells : ℕ) (answer : Step) (r : Reply) → AtVolume v (StepTells here tag j cells answer) a b → IsStepReply v m answer r → Answered (command.Step v m cells) r
    step_answered cells (step.Stepped n) r x is =
        subst (Answered (command.Step v m cells)) (sym is) (work.step_done settings start drained tag a b v m j there below cells (x.is).own (own_as _ x))
    step_answered cells (step.Frozen by) r x is =
        read_only (command.Step v m cells) (λ pick e. absurd (cc e)) (idle_unchanged (quiet_went x ((x.is).is).0)) (work.step_frozen settings start drained tag a b v m j there below cells x) is
    step_answered cells step.Idle r x is = subst (Answered (command.Step v m cells)) (sym is) (work.step_idle settings start drained tag a b v m j there below cells x)
    step_answered cells (step.Failed f) r x is =
        subst (Answered (command.Step v m cells)) (sym is) (work.step_failed settings start drained tag a b v m j there below cells (x.is).own (own_as _ x))
    step_answered cells (step.Damaged at) r x is = absurd x.is
    step_answered cells (step.NoMemory None) r x is =
        subst (Answered (command.Step v m cells)) (sym is) (quiet_wanted (command.Step v m cells) (λ pick e. absurd (cc e)) (call_unchanged settings start x))
    step_answered cells (step.NoMemory (Some n)) r x is =
        subst (Answered (command.Step v m cells)) (sym is) (work.step_wanted settings start drained tag a b v m j there below cells (x.is).own (own_as _ x))

    pub finish_answered : (answer : Finish) (r : Reply) → AtVolume v (FinishTells here tag j answer) a b → IsFinishReply v m answer r → Answered (command.Finish v m) r
    finish_answered (finish.Compacted g) r x is =
        let swap = (x.is).2 in
        subst (Answered (command.Finish v m)) (sym is) (work.finish_done settings start drained tag a b v m j there below swap.own (call_as _ _ x swap.is))
    finish_answered (finish.Frozen by) r x is =
        let met : AtVolume v (FrozenTells here tag (Some by)) a b = call_as (FinishTells here tag j (finish.Frozen by)) (FrozenTells here tag (Some by)) x x.is in
        read_only (command.Finish v m) (λ pick e. absurd (cc e)) (idle_unchanged (quiet_went met ((met.is).is).0)) (work.finish_frozen settings start drained tag a b v m j there below met) is
    finish_answered finish.Idle r x is = subst (Answered (command.Finish v m)) (sym is) (work.finish_idle settings start drained tag a b v m j there below (call_as _ _ x x.is))
    finish_answered (finish.Failed f) r x is =
        subst (Answered (command.Finish v m)) (sym is) (work.finish_failed settings start drained tag a b v m j there below (x.is).own (call_as _ _ x (x.is).is))
    finish_answered (finish.Poised f) r x is =
        let poised : AtVolume v (calls.SwapFailed settings start v tag j (x.is).who m f) a b =
        subst (λ w. AtVolume v (calls.SwapFailed settings start v tag j (x.is).who w f) a b) on (call_as _ _ x (x.is).is) in
        subst (Answered (command.Finish v m)) (sym is) (work.finish_poised settings start drained tag a b v m j there below (x.is).own poised)
    finish_answered (finish.Damaged at) r x is = absurd x.is
    finish_answered finish.NoMemory r x is = subst (Answered (command.Finish v m)) (sym is) (wanting x.is)
      where
        wanting : FinishTells here tag j finish.NoMemory (a.volumes v) (b.volumes v) → Answered (command.Finish v m) reply.NoMem
        wanting (inl none) = quiet_wanted (command.Finish v m) (λ pick e. absurd (cc e)) (call_unchanged settings start (call_as _ _ x none))
        wanting (inr (inl ended)) = work.finish_wanted settings start drained tag a b v m j there below ended.own (call_as _ _ x ended.is)
        wanting (inr (inr swapped)) = work.finish_froze settings start drained tag a b v m j there below (swapped.3).own (call_as _ _ x (swapped.3).is)
