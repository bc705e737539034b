-- The rows of steps and of swaps.
use Rattle.std.proofs.Common.{◌≡◌, ◌≢◌, ℕ, ◌+◌, Bool, List, [], length, Option, Some, None, refl, sym, subst, ◌∙◌, inl, inr}
use Rattle.std.specs.Prelude.{cond, ◌&&◌, ◌==◌, min, is_some}
use Rattle.std.specs.Bool.{Decides}
use Rattle.std.proofs.lemmas.Bool.Decides.{Decides-eqb, Decides-and, Decides-like}
use Rattle.hay_needle.specs.declared.settings.Settings.{Settings}
use Rattle.hay_needle.specs.Tables.{live_end}
use Rattle.hay_needle.specs.declared.settings.TheConstants.{LAST_GENERATION}
use Rattle.hay_reply.specs.declared.Reply.{Reply}
use Rattle.hay_reply.specs.declared.Reply.TheVariants as reply
use Rattle.hay_core.specs.declared.entry.CoreTag.{CoreTag}
use Rattle.hay_script.specs.declared.Command.{Command}
use Rattle.hay_script.specs.declared.Command.TheVariants as command
use Rattle.hay_legal.specs.declared.known.Run.{Run}
use Rattle.hay_legal.specs.declared.known.Known.{Known}
use Rattle.hay_legal.specs.declared.turn.Item.TheVariants as item
use Rattle.hay_legal.specs.Known.{Leaves, NoneFalls, volume_at, now, slot_of, replica_on}
use Rattle.hay_legal.specs.Plain.{LegalStep, LegalCompact, LegalFinish, OnReplica, LegalCommand, Names, IsOpen, IsAtRest, IsFrozenBy, RoseTo, SwapFailed, HasRun, change_replica}
use Rattle.hay_legal.specs.Plain.{change_volume, with_run, stepped, without_run, swapped, as_it_is, poised_by, replica_of, start_of, LegalFlush, LegalBegin, LegalFuse}
use Rattle.hay_audit_steps.specs.Law.{IsExact, PlainLinesAreSteps}
use Rattle.hay_audit_steps.specs.CheckerSteps.{IsStep, with_counts}
use Rattle.hay_audit_steps.specs.Next.{with_fault, names, is_open, is_idle, is_resting, is_busy, stepped_by, next_step, swap_failed, tight, next_compact, next_finish, on_replica}
use Rattle.hay_audit_steps.specs.Next.{next_flush, next_begin, next_fuse, next_command}
use Rattle.hay_audit_steps.proofs.Counts.{index_set}
use Rattle.hay_audit_steps.proofs.Puts.{MayRise, tells_rises_to, rose_needs, rose_leaves, rose_comes, put_step}
use Rattle.hay_audit_steps.proofs.Rows.{stays, comes, kept, tested, never, calm, each_by}
use Rattle.hay_audit_steps.proofs.Tests.{tells_none}
use Rattle.hay_audit_steps.proofs.Shows.{show_step}
use Rattle.hay_audit_steps.proofs.Dels.{del_step}
use Rattle.hay_audit_steps.proofs.Others.{tells_names, tells_frozen, frozen_back, tells_run, tells_busy, tells_resting, fail_row, url_step, flush_step, begin_step, drain_step}
use Rattle.hay_audit_steps.proofs.Others.{undrain_step, fuse_step, fuse_dir_step, on_replica_step, bad_step, get_step}

abbrev step_row : Settings → ℕ → ℕ → ℕ → ℕ → Reply → Known → Known → Type 0
step_row settings v m j cells r k t = LegalStep settings k v m j cells r t

same_run : (a c : Run) → Some a ≡ Some c → a ≡ c
same_run a c e = cc

-- a step of the run that stands
abbrev OfRun : ℕ → ℕ → ℕ → ℕ → Known → Known → Type 0
OfRun v j cells n k t = (run : Run) × ((replica_of k v j).run ≡ Some run) × (n ≡ min cells run.left) × Leaves k (change_replica k v j (with_run (stepped n run))) t

of_run_step : (b : Known) (v j cells n : ℕ) (run : Option Run) → (replica_of b v j).run ≡ run → IsStep (OfRun v j cells n) b (stepped_by b v j cells n run)
of_run_step b v j cells n None e = never (OfRun v j cells n) b (λ faults arms fuses t f a r. let none : None ≡ Some r.0 = sym e ∙ r.1 in absurd cc)
of_run_step b v j cells n (Some run) e =
    kept (OfRun v j cells n) b (change_replica b v j (with_run (stepped n run))) (n ≡ min cells run.left) _ (Decides-eqb n (min cells run.left))
    (record {
      yes = λ needs. (run, e, needs, stays b (change_replica b v j (with_run (stepped n run))) refl refl);
      back = λ faults arms fuses t f a r.
          let is : r.0 ≡ run = same_run r.0 run (sym r.1 ∙ e) in
          let leaves : Leaves (with_counts b faults arms fuses) (change_replica (with_counts b faults arms fuses) v j (with_run (stepped n run))) t =
          subst (λ (x : Run). Leaves (with_counts b faults arms fuses) (change_replica (with_counts b faults arms fuses) v j (with_run (stepped n x))) t) is r.3 in (
            subst (λ (x : Run). n ≡ min cells x.left) is r.2,
            comes (change_replica b v j (with_run (stepped n run))) (with_counts b faults arms fuses)
                (change_replica (with_counts b faults arms fuses) v j (with_run (stepped n run))) t refl refl refl f a leaves,
          );
    })

pub tells_has_run : (run : Option Run) → Decides (is_some run) ((r : Run) × (run ≡ Some r))
tells_has_run None = (λ h. absurd cc, λ h. absurd (let none : None ≡ Some h.0 = h.1 in cc))
tells_has_run (Some run) = (λ h. (run, refl), λ h. refl)

pub step_step : (settings : Settings) (b : Known) (v m j cells : ℕ) (r : Reply) → r ≢ reply.NoMem → IsStep (step_row settings v m j cells r) b (next_step settings b v m j cells r)
step_step settings b v m j cells (reply.Stepped v' m' n) known =
    tested (step_row settings v m j cells (reply.Stepped v' m' n)) b (stepped_by b v j cells n (replica_of b v j).run) (Names v m v' m' × IsOpen b v) (names v m v' m' && is_open b v)
    (Decides-and (names v m v' m') (is_open b v) (tells_names v m v' m') (tells_none (volume_at b v).frozen))
    (λ needs.
    let step = of_run_step b v j cells n (replica_of b v j).run refl in
    record {
      sound =
          each_by (OfRun v j cells n b) (λ t. step_row settings v m j cells (reply.Stepped v' m' n) b t) (stepped_by b v j cells n (replica_of b v j).run) (λ t h. (needs.0, needs.1, h)) step.sound;
      complete = λ faults arms fuses t f a r. step.complete faults arms fuses t f a r.2;
    })
    (λ faults arms fuses t f a r. (r.0, r.1))
step_step settings b v m j cells (reply.ReadOnly by) known =
    kept (step_row settings v m j cells (reply.ReadOnly by)) b b (IsFrozenBy b v by) _ (tells_frozen b v by)
    (calm (step_row settings v m j cells (reply.ReadOnly by)) b _ (λ needs leaves. (needs, leaves)) (λ faults arms fuses t r. (frozen_back b v by faults arms fuses r.0, r.1)))
step_step settings b v m j cells (reply.Idle v' m') known =
    kept (step_row settings v m j cells (reply.Idle v' m')) b b _ _
    (Decides-and (names v m v' m') _ (tells_names v m v' m')
    (Decides-and (is_open b v) (is_idle b v j) (tells_none (volume_at b v).frozen) (tells_run (replica_of b v j).run)))
    (calm (step_row settings v m j cells (reply.Idle v' m')) b _ (λ needs leaves. (needs.0, needs.1.0, needs.1.1, leaves)) (λ faults arms fuses t r. ((r.0, (r.1, r.2)), r.3)))
step_step settings b v m j cells (reply.Failed v' m' f) known =
    kept (step_row settings v m j cells (reply.Failed v' m' f)) b (with_fault (change_replica b v j without_run) (slot_of settings v j) f) _ _
    (Decides-like _ (λ h. ((h.0, (h.1.0, h.1.1.0)), h.1.1.1)) (λ h. (h.0.0, (h.0.1.0, (h.0.1.1, h.1))))
    (Decides-and (names v m v' m') _ (tells_names v m v' m')
    (Decides-and (is_open b v) _ (tells_none (volume_at b v).frozen)
    (Decides-and (is_some (replica_of b v j).run) _ (tells_has_run (replica_of b v j).run) (tells_rises_to b (slot_of settings v j) f)))))
    (fail_row settings (step_row settings v m j cells (reply.Failed v' m' f)) b (change_replica b v j without_run) (λ k. change_replica k v j without_run) v j f
    (Names v m v' m' × (IsOpen b v × HasRun b v j))
    refl refl refl (λ faults arms fuses. refl) (λ faults arms fuses. refl) (λ faults arms fuses. refl)
    (λ t needs rose leaves. (needs.0, needs.1.0, needs.1.1, rose, leaves))
    (λ faults arms fuses t r. ((r.0, (r.1, r.2)), r.3, r.4)))
step_step settings b v m j cells reply.NoMem known = absurd (known refl)
step_step settings b v m j cells r known = never (step_row settings v m j cells r) b (λ faults arms fuses t first a lie. lie)

-- COMPACT

abbrev compact_row : Settings → ℕ → ℕ → ℕ → Reply → Known → Known → Type 0
compact_row settings v m j r k t = LegalCompact settings k v m j r t

swap_failed_step : (settings : Settings) (row : Known → Known → Type 0) (b : Known) (v m j f : ℕ) (Needs : Type 0)
    → ((t : Known) → Needs → RoseTo settings b v j f t → SwapFailed m b v j t → row b t)
    → ((faults arms fuses : List ℕ) (t : Known) → row (with_counts b faults arms fuses) t
    → Needs × RoseTo settings (with_counts b faults arms fuses) v j f t × SwapFailed m (with_counts b faults arms fuses) v j t)
    → (test : Bool) → Decides test (Needs × MayRise b (slot_of settings v j) f)
    → IsStep row b (cond test (swap_failed settings b v m j f) [])
swap_failed_step settings row b v m j f Needs made back test decides =
    let slot : ℕ = slot_of settings v j in
    tested row b (swap_failed settings b v m j f) (Needs × MayRise b (slot_of settings v j) f) test decides
    (λ needs. record {
      sound = (
        made (with_fault (change_replica b v j without_run) slot f) needs.0 (record { count = index_set b.faults slot f needs.1.there; rose = needs.1.rose })
            (inl (rose_leaves b (change_replica b v j without_run) slot f refl refl needs.1)),
        (
          made (with_fault (poised_by m b v j) slot f) needs.0 (record { count = index_set b.faults slot f needs.1.there; rose = needs.1.rose })
              (inr (rose_leaves b (poised_by m b v j) slot f refl refl needs.1)),
          tt,
        ),
      );
      complete = λ faults arms fuses t first a r.
          let k : Known = with_counts b faults arms fuses in
          let h = back faults arms fuses t r in
          elim h.2 [
            | inl leaves ↦ inl (rose_comes b (change_replica b v j without_run) k (change_replica k v j without_run) t slot f refl refl refl first a (h.1).count leaves)
            | inr leaves ↦ inr (inl (rose_comes b (poised_by m b v j) k (poised_by m k v j) t slot f refl refl refl first a (h.1).count leaves))
          ];
    })
    (λ faults arms fuses t first a r.
    let h = back faults arms fuses t r in
    let later : NoneFalls faults t.faults = elim h.2 [ inl leaves ↦ leaves.faults | inr leaves ↦ leaves.faults ] in
    (h.0, rose_needs b slot f faults t first later (h.1).count (h.1).rose))

pub compact_step : (settings : Settings) (b : Known) (v m j : ℕ) (r : Reply) → r ≢ reply.NoMem → IsStep (compact_row settings v m j r) b (next_compact settings b v m j r)
compact_step settings b v m j (reply.Compacted v' m' g) known =
    kept (compact_row settings v m j (reply.Compacted v' m' g)) b (tight b v j) _ _
    (Decides-and (names v m v' m') _ (tells_names v m v' m')
    (Decides-and (is_open b v) _ (tells_none (volume_at b v).frozen)
    (Decides-and (is_resting b v j) (g == (replica_of b v j).generation + 1) (tells_resting b v j) (Decides-eqb g ((replica_of b v j).generation + 1)))))
    (record {
      yes = λ needs. (
        needs.0,
        needs.1.0,
        needs.1.1.0,
        needs.1.1.1,
        (live_end (now (volume_at b v) (replica_of b v j)), length (now (volume_at b v) (replica_of b v j)), (refl, refl), stays b (tight b v j) refl refl),
      );
      back = λ faults arms fuses t f a r.
          let k : Known = with_counts b faults arms fuses in
          let swap : ℕ → ℕ → Known = λ (end : ℕ) (cells : ℕ). change_volume (change_replica k v j (swapped end cells)) v as_it_is in
          let first : Leaves k (swap (live_end (now (volume_at b v) (replica_of b v j))) (r.4).1) t = subst (λ (end : ℕ). Leaves k (swap end (r.4).1) t) ((r.4).2).0 (r.4).3 in
          let both : Leaves k (swap (live_end (now (volume_at b v) (replica_of b v j))) (length (now (volume_at b v) (replica_of b v j)))) t =
          subst (λ (cells : ℕ). Leaves k (swap (live_end (now (volume_at b v) (replica_of b v j))) cells) t) ((r.4).2).1 first in
          ((r.0, (r.1, (r.2, r.3))), comes (tight b v j) k (tight k v j) t refl refl refl f a both);
    })
compact_step settings b v m j (reply.ReadOnly by) known =
    kept (compact_row settings v m j (reply.ReadOnly by)) b b (IsFrozenBy b v by) _ (tells_frozen b v by)
    (calm (compact_row settings v m j (reply.ReadOnly by)) b _ (λ needs leaves. (needs, leaves)) (λ faults arms fuses t r. (frozen_back b v by faults arms fuses r.0, r.1)))
compact_step settings b v m j (reply.Busy v' m' g) known =
    kept (compact_row settings v m j (reply.Busy v' m' g)) b b _ _
    (Decides-and (names v m v' m') _ (tells_names v m v' m')
    (Decides-and (is_open b v) (is_busy (replica_of b v j).run g) (tells_none (volume_at b v).frozen) (tells_busy (replica_of b v j).run g)))
    (calm (compact_row settings v m j (reply.Busy v' m' g)) b _ (λ needs leaves. (needs.0, needs.1.0, needs.1.1, leaves)) (λ faults arms fuses t r. ((r.0, (r.1, r.2)), r.3)))
compact_step settings b v m j (reply.Worn v' m') known =
    kept (compact_row settings v m j (reply.Worn v' m')) b b _ _
    (Decides-and (names v m v' m') _ (tells_names v m v' m')
    (Decides-and (is_open b v) _ (tells_none (volume_at b v).frozen)
    (Decides-and (is_idle b v j) ((replica_of b v j).generation == LAST_GENERATION) (tells_run (replica_of b v j).run) (Decides-eqb (replica_of b v j).generation LAST_GENERATION))))
    (calm (compact_row settings v m j (reply.Worn v' m')) b _ (λ needs leaves. (needs.0, needs.1.0, needs.1.1, leaves)) (λ faults arms fuses t r. ((r.0, (r.1, r.2)), r.3)))
compact_step settings b v m j (reply.Failed v' m' f) known =
    swap_failed_step settings (compact_row settings v m j (reply.Failed v' m' f)) b v m j f (Names v m v' m' × (IsOpen b v × IsAtRest b v j))
    (λ t needs rose failed. (needs.0, needs.1.0, needs.1.1, rose, failed))
    (λ faults arms fuses t r. ((r.0, (r.1, r.2)), r.3, r.4)) _
    (Decides-like _ (λ h. ((h.0, (h.1.0, h.1.1.0)), h.1.1.1)) (λ h. (h.0.0, (h.0.1.0, (h.0.1.1, h.1))))
    (Decides-and (names v m v' m') _ (tells_names v m v' m')
    (Decides-and (is_open b v) _ (tells_none (volume_at b v).frozen)
    (Decides-and (is_resting b v j) _ (tells_resting b v j) (tells_rises_to b (slot_of settings v j) f)))))
compact_step settings b v m j reply.NoMem known = absurd (known refl)
compact_step settings b v m j r known = never (compact_row settings v m j r) b (λ faults arms fuses t first a lie. lie)

-- FINISH

abbrev finish_row : Settings → ℕ → ℕ → ℕ → Reply → Known → Known → Type 0
finish_row settings v m j r k t = LegalFinish settings k v m j r t

abbrev IsUnswapped : Reply → Type 0
IsUnswapped (reply.Compacted v m g) = ⊥
IsUnswapped _ = Unit {0}

finish_step : (settings : Settings) (b : Known) (v m j : ℕ) (r : Reply) → r ≢ reply.NoMem → IsUnswapped r → IsStep (finish_row settings v m j r) b (next_finish settings b v m j r)
finish_step settings b v m j (reply.Compacted v' m' g) known exact = absurd exact
finish_step settings b v m j (reply.ReadOnly by) known exact =
    kept (finish_row settings v m j (reply.ReadOnly by)) b b (IsFrozenBy b v by) _ (tells_frozen b v by)
    (calm (finish_row settings v m j (reply.ReadOnly by)) b _ (λ needs leaves. (needs, leaves)) (λ faults arms fuses t r. (frozen_back b v by faults arms fuses r.0, r.1)))
finish_step settings b v m j (reply.Idle v' m') known exact =
    kept (finish_row settings v m j (reply.Idle v' m')) b b _ _
    (Decides-and (names v m v' m') _ (tells_names v m v' m')
    (Decides-and (is_open b v) (is_idle b v j) (tells_none (volume_at b v).frozen) (tells_run (replica_of b v j).run)))
    (calm (finish_row settings v m j (reply.Idle v' m')) b _ (λ needs leaves. (needs.0, needs.1.0, needs.1.1, leaves)) (λ faults arms fuses t r. ((r.0, (r.1, r.2)), r.3)))
finish_step settings b v m j (reply.Failed v' m' f) known exact =
    swap_failed_step settings (finish_row settings v m j (reply.Failed v' m' f)) b v m j f (Names v m v' m' × (IsOpen b v × HasRun b v j))
    (λ t needs rose failed. (needs.0, needs.1.0, needs.1.1, rose, failed))
    (λ faults arms fuses t r. ((r.0, (r.1, r.2)), r.3, r.4)) _
    (Decides-like _ (λ h. ((h.0, (h.1.0, h.1.1.0)), h.1.1.1)) (λ h. (h.0.0, (h.0.1.0, (h.0.1.1, h.1))))
    (Decides-and (names v m v' m') _ (tells_names v m v' m')
    (Decides-and (is_open b v) _ (tells_none (volume_at b v).frozen)
    (Decides-and (is_some (replica_of b v j).run) _ (tells_has_run (replica_of b v j).run) (tells_rises_to b (slot_of settings v j) f)))))
finish_step settings b v m j reply.NoMem known exact = absurd (known refl)
finish_step settings b v m j r known exact = never (finish_row settings v m j r) b (λ faults arms fuses t first a lie. lie)

finished_step : (settings : Settings) (b : Known) (v m : ℕ) (r : Reply) → r ≢ reply.NoMem → IsExact (item.Command (command.Finish v m)) r
    → IsStep (λ k t. OnReplica k (replica_on settings v m) (LegalFinish settings k v m) r t) b (on_replica b (replica_on settings v m) (next_finish settings b v m) r)
finished_step settings b v m (reply.Compacted v' m' g) known exact = absurd exact
finished_step settings b v m r known exact =
    on_replica_step b (replica_on settings v m) (λ k. LegalFinish settings k v m) (next_finish settings b v m) r known (λ j. finish_step settings b v m j r known tt)

-- EVERY PLAIN LINE

abbrev command_row : Settings → CoreTag → Command → Reply → Known → Known → Type 0
command_row settings tag c r k t = LegalCommand settings k tag c r t

command_step : (settings : Settings) (b : Known) (tag : CoreTag) (c : Command) (r : Reply) → r ≢ reply.NoMem → IsExact (item.Command c) r
    → IsStep (command_row settings tag c r) b (next_command settings b tag c r)
command_step settings b tag (command.Put pair bytes) r known exact = put_step settings b tag pair bytes r known
command_step settings b tag (command.Read pair cookie) r known exact = show_step settings b tag (start_of settings tag) pair cookie r known
command_step settings b tag (command.Get url) r known exact = get_step settings b tag url (replica_on settings url.volume url.machine) r known
command_step settings b tag (command.Del pair) r known exact = del_step settings b tag pair r known
command_step settings b tag (command.Url pair) r known exact = url_step settings b tag pair r known
command_step settings b tag (command.Flush v m) r known exact =
    on_replica_step b (replica_on settings v m) (λ k. LegalFlush settings k v m) (next_flush settings b v m) r known (λ j. flush_step settings b v m j r known)
command_step settings b tag (command.Compact v m) r known exact =
    on_replica_step b (replica_on settings v m) (λ k. LegalCompact settings k v m) (next_compact settings b v m) r known (λ j. compact_step settings b v m j r known)
command_step settings b tag (command.Begin v m) r known exact =
    on_replica_step b (replica_on settings v m) (λ k. LegalBegin settings k v m) (next_begin settings b v m) r known (λ j. begin_step settings b v m j r known)
command_step settings b tag (command.Step v m n) r known exact =
    on_replica_step b (replica_on settings v m) (λ k j. LegalStep settings k v m j n) (λ j. next_step settings b v m j n) r known (λ j. step_step settings b v m j n r known)
command_step settings b tag (command.Drain m) r known exact = drain_step settings b m r known
command_step settings b tag (command.Undrain m) r known exact = undrain_step settings b m r known
command_step settings b tag (command.Fuse v m n) r known exact =
    on_replica_step b (replica_on settings v m) (λ k j. LegalFuse settings k v m j n) (λ j. next_fuse settings b v m j n) r known (λ j. fuse_step settings b v m j n r known)
command_step settings b tag (command.FuseDir n) r known exact = fuse_dir_step b n r known
command_step settings b tag (command.Finish v m) r known exact = finished_step settings b v m r known exact
command_step settings b tag (command.Restart pick) r known exact = never (command_row settings tag (command.Restart pick) r) b (λ faults arms fuses t first a lie. lie)

pub plain_step : PlainLinesAreSteps
plain_step settings b line (item.Command c) r known exact = command_step settings b (record { lane = 0; line = line }) c r known exact
plain_step settings b line item.Bad r known exact = bad_step b r
