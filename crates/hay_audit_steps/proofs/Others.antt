-- The rows of the other commands.
use Rattle.std.proofs.Common.{◌≡◌, ◌≢◌, ℕ, ◌+◌, ◌-◌, ◌^◌, ◌<◌, ◌≤◌, Bool, true, false, List, [], ◌∷◌, length, Option, Some, None, refl, sym, ap, subst, ◌∙◌, ◌⊎◌, inl, inr, arith}
use Rattle.std.specs.Prelude.{cond, not, ◌==◌, is_none, nat_lt, slice_set, slice_index}
use Rattle.std.specs.Bool.{Decides}
use Rattle.std.proofs.lemmas.Bool.{cases_Bool, eqb-true, eq-eqb}
use Rattle.std.proofs.lemmas.Bool.Decides.{Decides-eqb, Decides-and, Decides-or, Decides-not, Decides-like, Decides-ltb, nat_tests}
use Rattle.hay_needle.proofs.TableLaws.{pair_same, pair_refl}
use Rattle.hay_needle.specs.Tables.{pair_eq}
use Rattle.hay_needle.specs.declared.needle.Pair.{Pair}
use Rattle.hay_needle.specs.declared.needle.Cookie.{Cookie}
use Rattle.hay_needle.specs.declared.settings.Settings.{Settings}
use Rattle.hay_needle.specs.declared.settings.TheConstants.{LAST_GENERATION}
use Rattle.hay_url.specs.declared.Url.{Url as UrlParts}
use Rattle.hay_url.specs.Url.{cookie_of}
use Rattle.hay_disk.specs.Counts.{IsNext}
use Rattle.hay_core.specs.declared.entry.CoreTag.{CoreTag}
use Rattle.hay_reply.specs.declared.ClosedBy.{ClosedBy}
use Rattle.hay_reply.specs.declared.Reply.{Reply}
use Rattle.hay_reply.specs.declared.Reply.TheVariants as reply
use Rattle.hay_legal.specs.declared.known.Run.{Run}
use Rattle.hay_legal.specs.declared.known.Known.{Known}
use Rattle.hay_legal.specs.Known.{Leaves, NoneFalls, home_of, volume_at, slot_of, machine_of, fuse_count}
use Rattle.hay_legal.specs.Plain.{LegalUrl, LegalShow, LegalGetAt, GetShows, LegalFlush, LegalBegin, LegalDrain, LegalUndrain, LegalFuse, LegalFuseDir, IsFused, OnReplica, Names}
use Rattle.hay_legal.specs.Plain.{IsOpen, IsFrozenBy, IsStuckOn, IsAtRest, RoseTo, change_replica, with_bare, with_stuck, with_run, replica_of, start_of, with_drain, with_fuses}
use Rattle.hay_audit_steps.specs.CheckerSteps.{IsStep, with_counts}
use Rattle.hay_audit_steps.specs.Next.{is_at, cookie_eq, with_fault, next_url, get_shows, get_by, next_show, names, is_open, is_frozen_by, is_stuck_on, next_flush, is_idle}
use Rattle.hay_audit_steps.specs.Next.{is_resting, is_busy, next_begin, next_drain, next_undrain, fused, next_fuse, next_fuse_dir, on_replica, next_bad}
use Rattle.hay_audit_steps.proofs.Counts.{index_set}
use Rattle.hay_audit_steps.proofs.Puts.{MayRise, tells_rises_to, rose_needs, rose_leaves, rose_comes}
use Rattle.hay_audit_steps.proofs.Rows.{IsRow, stays, comes, kept, tested, never, calm, one_step, each_by}
use Rattle.hay_audit_steps.proofs.Shows.{show_row, show_step}
use Rattle.hay_audit_steps.proofs.Tests.{tells_at, tells_cookie, tells_none, tells_flag, tells_unset}

-- URL

abbrev url_row : Settings → CoreTag → Pair → Reply → Known → Known → Type 0
url_row settings tag pair r k t = LegalUrl settings k tag pair r t

tells_pair : (a b : Pair) → Decides (pair_eq a b) (a ≡ b)
tells_pair a b = (pair_same a b, λ e. subst (λ (p : Pair). pair_eq a p ≡ true) e (pair_refl a))

pub url_step : (settings : Settings) (b : Known) (tag : CoreTag) (pair : Pair) (r : Reply) → r ≢ reply.NoMem → IsStep (url_row settings tag pair r) b (next_url settings b tag pair r)
url_step settings b tag pair (reply.Url d url) known =
    kept (url_row settings tag pair (reply.Url d url)) b b _ _
    (Decides-and (is_at (home_of b pair) url.volume) _ (tells_at (home_of b pair) url.volume)
    (Decides-and (pair_eq url.pair pair) _ (tells_pair url.pair pair)
    (Decides-and (cookie_eq url.cookie (cookie_of settings.secret pair.key)) _ (tells_cookie url.cookie (cookie_of settings.secret pair.key))
    (Decides-and (url.machine == machine_of settings url.volume (start_of settings tag)) (d == length b.directory.rows)
    (Decides-eqb url.machine (machine_of settings url.volume (start_of settings tag))) (Decides-eqb d (length b.directory.rows))))))
    (calm (url_row settings tag pair (reply.Url d url)) b _
    (λ needs leaves. record { home = needs.0; pair_is = needs.1.0; cookie = needs.1.1.0; machine = needs.1.1.1.0; rows = needs.1.1.1.1; leaves = leaves })
    (λ faults arms fuses t r. ((r.home, (r.pair_is, (r.cookie, (r.machine, r.rows)))), r.leaves)))
url_step settings b tag pair (reply.Unknown d) known =
    kept (url_row settings tag pair (reply.Unknown d)) b b _ _
    (Decides-and (is_none (home_of b pair)) (d == length b.directory.rows) (tells_none (home_of b pair)) (Decides-eqb d (length b.directory.rows)))
    (calm (url_row settings tag pair (reply.Unknown d)) b _ (λ needs leaves. ((needs.0, needs.1), leaves)) (λ faults arms fuses t r. ((r.0.0, r.0.1), r.1)))
url_step settings b tag pair reply.NoMem known = absurd (known refl)
url_step settings b tag pair r known = never (url_row settings tag pair r) b (λ faults arms fuses t first a lie. lie)

-- FLUSH

abbrev flush_row : Settings → ℕ → ℕ → ℕ → Reply → Known → Known → Type 0
flush_row settings v m j r k t = LegalFlush settings k v m j r t

pub tells_names : (v m v' m' : ℕ) → Decides (names v m v' m') (Names v m v' m')
tells_names v m v' m' = Decides-and (v' == v) (m' == m) (Decides-eqb v' v) (Decides-eqb m' m)

pub tells_frozen : (b : Known) (v : ℕ) (by : List ClosedBy) → Decides (is_frozen_by b v by) (IsFrozenBy b v by)
tells_frozen b v [] = (λ h. absurd cc, λ h. absurd h)
tells_frozen b v (by ∷ []) = Decides-and (by.volume == v) (is_at (volume_at b v).frozen by.machine) (Decides-eqb by.volume v) (tells_at (volume_at b v).frozen by.machine)
tells_frozen b v (by ∷ other ∷ more) = (λ h. absurd cc, λ h. absurd h)

pub frozen_back : (b : Known) (v : ℕ) (by : List ClosedBy) (faults arms fuses : List ℕ) → IsFrozenBy (with_counts b faults arms fuses) v by → IsFrozenBy b v by
frozen_back b v [] faults arms fuses h = h
frozen_back b v (by ∷ []) faults arms fuses h = h
frozen_back b v (by ∷ other ∷ more) faults arms fuses h = h

tells_stuck : (b : Known) (v m j : ℕ) (by : List ClosedBy) → Decides (is_stuck_on b v m j by) (IsStuckOn b v m j by)
tells_stuck b v m j [] = (λ h. absurd cc, λ h. absurd h)
tells_stuck b v m j (by ∷ []) =
    Decides-like _ (λ h. (h.0, h.1.0, h.1.1)) (λ h. (h.0, (h.1, h.2)))
    (Decides-and (names v m by.volume by.machine) _ (tells_names v m by.volume by.machine)
    (Decides-and (is_open b v) (replica_of b v j).stuck (tells_none (volume_at b v).frozen) (tells_flag (replica_of b v j).stuck)))
tells_stuck b v m j (by ∷ other ∷ more) = (λ h. absurd cc, λ h. absurd h)

stuck_back : (b : Known) (v m j : ℕ) (by : List ClosedBy) (faults arms fuses : List ℕ) → IsStuckOn (with_counts b faults arms fuses) v m j by → IsStuckOn b v m j by
stuck_back b v m j [] faults arms fuses h = h
stuck_back b v m j (by ∷ []) faults arms fuses h = h
stuck_back b v m j (by ∷ other ∷ more) faults arms fuses h = h

-- a failed call on a replica's disk, which needs something besides and leaves e
pub fail_row : (settings : Settings) (row : Known → Known → Type 0) (b e : Known) (change : Known → Known) (v j f : ℕ) (Needs : Type 0)
    → e ≡ change b → e.faults ≡ b.faults → e.arms ≡ b.arms
    → ((faults arms fuses : List ℕ) → (change (with_counts b faults arms fuses)).volumes ≡ e.volumes)
    → ((faults arms fuses : List ℕ) → (change (with_counts b faults arms fuses)).directory ≡ e.directory)
    → ((faults arms fuses : List ℕ) → (change (with_counts b faults arms fuses)).drained ≡ e.drained)
    → ((t : Known) → Needs → RoseTo settings b v j f t → Leaves b e t → row b t)
    → ((faults arms fuses : List ℕ) (t : Known) → row (with_counts b faults arms fuses) t
    → Needs × RoseTo settings (with_counts b faults arms fuses) v j f t × Leaves (with_counts b faults arms fuses) (change (with_counts b faults arms fuses)) t)
    → IsRow row b (with_fault e (slot_of settings v j) f) (Needs × MayRise b (slot_of settings v j) f)
fail_row settings row b e change v j f Needs same same_faults same_arms volumes directory drained made back = record {
  yes = λ needs. made (with_fault e (slot_of settings v j) f) needs.0
      (record {
        count = subst (λ (xs : List ℕ). slice_index (slice_set xs (slot_of settings v j) f) (slot_of settings v j) ≡ f) (sym same_faults)
            (index_set b.faults (slot_of settings v j) f needs.1.there);
        rose = needs.1.rose;
      })
      (rose_leaves b e (slot_of settings v j) f same_faults same_arms needs.1);
  back = λ faults arms fuses t first a r.
      let h = back faults arms fuses t r in (
        (h.0, rose_needs b (slot_of settings v j) f faults t first (h.2).faults (h.1).count (h.1).rose),
        rose_comes b e (with_counts b faults arms fuses) (change (with_counts b faults arms fuses)) t (slot_of settings v j) f
            (volumes faults arms fuses) (directory faults arms fuses) (drained faults arms fuses)
            (subst (λ (xs : List ℕ). NoneFalls xs faults) (sym same_faults) first) (subst (λ (xs : List ℕ). NoneFalls xs arms) (sym same_arms) a) (h.1).count h.2,
      );
}

pub flush_step : (settings : Settings) (b : Known) (v m j : ℕ) (r : Reply) → r ≢ reply.NoMem → IsStep (flush_row settings v m j r) b (next_flush settings b v m j r)
flush_step settings b v m j (reply.Flushed v' m' n) known =
    kept (flush_row settings v m j (reply.Flushed v' m' n)) b (change_replica b v j (with_bare 0)) _ _
    (Decides-and (names v m v' m') _ (tells_names v m v' m')
    (Decides-and (is_open b v) _ (tells_none (volume_at b v).frozen)
    (Decides-and (not (replica_of b v j).stuck) (n == (replica_of b v j).bare) (tells_unset (replica_of b v j).stuck) (Decides-eqb n (replica_of b v j).bare))))
    (record {
      yes = λ needs. (needs.0, needs.1.0, needs.1.1.0, needs.1.1.1, stays b (change_replica b v j (with_bare 0)) refl refl);
      back = λ faults arms fuses t f a r. (
        (r.0, (r.1, (r.2, r.3))),
        comes (change_replica b v j (with_bare 0)) (with_counts b faults arms fuses) (change_replica (with_counts b faults arms fuses) v j (with_bare 0)) t refl refl refl f a r.4,
      );
    })
flush_step settings b v m j (reply.ReadOnly by) known =
    kept (flush_row settings v m j (reply.ReadOnly by)) b b (IsFrozenBy b v by ⊎ IsStuckOn b v m j by) _
    (Decides-or (is_frozen_by b v by) (is_stuck_on b v m j by) (tells_frozen b v by) (tells_stuck b v m j by))
    (calm (flush_row settings v m j (reply.ReadOnly by)) b _ (λ needs leaves. (needs, leaves))
    (λ faults arms fuses t r. (elim r.0 [ inl h ↦ inl (frozen_back b v by faults arms fuses h) | inr h ↦ inr (stuck_back b v m j by faults arms fuses h) ], r.1)))
flush_step settings b v m j (reply.Failed v' m' f) known =
    kept (flush_row settings v m j (reply.Failed v' m' f)) b (with_fault (change_replica b v j with_stuck) (slot_of settings v j) f) _ _
    (Decides-like _ (λ h. ((h.0, (h.1.0, h.1.1.0)), h.1.1.1)) (λ h. (h.0.0, (h.0.1.0, (h.0.1.1, h.1))))
    (Decides-and (names v m v' m') _ (tells_names v m v' m')
    (Decides-and (is_open b v) _ (tells_none (volume_at b v).frozen)
    (Decides-and (not (replica_of b v j).stuck) _ (tells_unset (replica_of b v j).stuck) (tells_rises_to b (slot_of settings v j) f)))))
    (fail_row settings (flush_row settings v m j (reply.Failed v' m' f)) b (change_replica b v j with_stuck) (λ k. change_replica k v j with_stuck) v j f
    (Names v m v' m' × (IsOpen b v × ((replica_of b v j).stuck ≡ false)))
    refl refl refl (λ faults arms fuses. refl) (λ faults arms fuses. refl) (λ faults arms fuses. refl)
    (λ t needs rose leaves. (needs.0, needs.1.0, needs.1.1, rose, leaves))
    (λ faults arms fuses t r. ((r.0, (r.1, r.2)), r.3, r.4)))
flush_step settings b v m j reply.NoMem known = absurd (known refl)
flush_step settings b v m j r known = never (flush_row settings v m j r) b (λ faults arms fuses t first a lie. lie)

-- BEGIN

abbrev begin_row : Settings → ℕ → ℕ → ℕ → Reply → Known → Known → Type 0
begin_row settings v m j r k t = LegalBegin settings k v m j r t

pub tells_run : (run : Option Run) → Decides (is_none run) (run ≡ None)
tells_run None = (λ h. refl, λ h. refl)
tells_run (Some run) = (λ h. absurd cc, λ h. absurd cc)

pub tells_busy : (run : Option Run) (g : ℕ) → Decides (is_busy run g) ((r : Run) × (run ≡ Some r) × (r.goal ≡ g))
tells_busy None g = (λ h. absurd cc, λ h. absurd (let none : None ≡ Some h.0 = h.1 in cc))
tells_busy (Some run) g = (λ h. (run, refl, eqb-true run.goal g h), λ h. eq-eqb run.goal g (let e : Some run ≡ Some h.0 = h.1 in ap (λ (r : Run). r.goal) (run_same run h.0 e) ∙ h.2))
  where
    run_same : (a c : Run) → Some a ≡ Some c → a ≡ c
    run_same a c e = cc

pub tells_resting : (b : Known) (v j : ℕ) → Decides (is_resting b v j) (((replica_of b v j).run ≡ None) × ((replica_of b v j).generation < LAST_GENERATION))
tells_resting b v j = Decides-and (is_idle b v j) (nat_lt (replica_of b v j).generation LAST_GENERATION) (tells_run (replica_of b v j).run) (Decides-ltb (replica_of b v j).generation LAST_GENERATION)

pub begin_step : (settings : Settings) (b : Known) (v m j : ℕ) (r : Reply) → r ≢ reply.NoMem → IsStep (begin_row settings v m j r) b (next_begin settings b v m j r)
begin_step settings b v m j (reply.Begun v' m' g) known =
    kept (begin_row settings v m j (reply.Begun v' m' g)) b (change_replica b v j (with_run (record { goal = g; left = (replica_of b v j).cells }))) _ _
    (Decides-and (names v m v' m') _ (tells_names v m v' m')
    (Decides-and (is_open b v) _ (tells_none (volume_at b v).frozen)
    (Decides-and (is_resting b v j) (g == (replica_of b v j).generation + 1) (tells_resting b v j) (Decides-eqb g ((replica_of b v j).generation + 1)))))
    (record {
      yes = λ needs. (needs.0, needs.1.0, needs.1.1.0, needs.1.1.1, stays b (change_replica b v j (with_run (record { goal = g; left = (replica_of b v j).cells }))) refl refl);
      back = λ faults arms fuses t f a r. (
        (r.0, (r.1, (r.2, r.3))),
        comes (change_replica b v j (with_run (record { goal = g; left = (replica_of b v j).cells }))) (with_counts b faults arms fuses)
            (change_replica (with_counts b faults arms fuses) v j (with_run (record { goal = g; left = (replica_of b v j).cells }))) t refl refl refl f a r.4,
      );
    })
begin_step settings b v m j (reply.ReadOnly by) known =
    kept (begin_row settings v m j (reply.ReadOnly by)) b b (IsFrozenBy b v by) _ (tells_frozen b v by)
    (calm (begin_row settings v m j (reply.ReadOnly by)) b _ (λ needs leaves. (needs, leaves)) (λ faults arms fuses t r. (frozen_back b v by faults arms fuses r.0, r.1)))
begin_step settings b v m j (reply.Busy v' m' g) known =
    kept (begin_row settings v m j (reply.Busy v' m' g)) b b _ _
    (Decides-and (names v m v' m') _ (tells_names v m v' m')
    (Decides-and (is_open b v) (is_busy (replica_of b v j).run g) (tells_none (volume_at b v).frozen) (tells_busy (replica_of b v j).run g)))
    (calm (begin_row settings v m j (reply.Busy v' m' g)) b _ (λ needs leaves. (needs.0, needs.1.0, needs.1.1, leaves)) (λ faults arms fuses t r. ((r.0, (r.1, r.2)), r.3)))
begin_step settings b v m j (reply.Worn v' m') known =
    kept (begin_row settings v m j (reply.Worn v' m')) b b _ _
    (Decides-and (names v m v' m') _ (tells_names v m v' m')
    (Decides-and (is_open b v) _ (tells_none (volume_at b v).frozen)
    (Decides-and (is_idle b v j) ((replica_of b v j).generation == LAST_GENERATION) (tells_run (replica_of b v j).run) (Decides-eqb (replica_of b v j).generation LAST_GENERATION))))
    (calm (begin_row settings v m j (reply.Worn v' m')) b _ (λ needs leaves. (needs.0, needs.1.0, needs.1.1, leaves)) (λ faults arms fuses t r. ((r.0, (r.1, r.2)), r.3)))
begin_step settings b v m j (reply.Failed v' m' f) known =
    kept (begin_row settings v m j (reply.Failed v' m' f)) b (with_fault b (slot_of settings v j) f) _ _
    (Decides-like _ (λ h. ((h.0, (h.1.0, h.1.1.0)), h.1.1.1)) (λ h. (h.0.0, (h.0.1.0, (h.0.1.1, h.1))))
    (Decides-and (names v m v' m') _ (tells_names v m v' m')
    (Decides-and (is_open b v) _ (tells_none (volume_at b v).frozen)
    (Decides-and (is_resting b v j) _ (tells_resting b v j) (tells_rises_to b (slot_of settings v j) f)))))
    (fail_row settings (begin_row settings v m j (reply.Failed v' m' f)) b b (λ k. k) v j f
    (Names v m v' m' × (IsOpen b v × IsAtRest b v j))
    refl refl refl (λ faults arms fuses. refl) (λ faults arms fuses. refl) (λ faults arms fuses. refl)
    (λ t needs rose leaves. (needs.0, needs.1.0, needs.1.1, rose, leaves))
    (λ faults arms fuses t r. ((r.0, (r.1, r.2)), r.3, r.4)))
begin_step settings b v m j reply.NoMem known = absurd (known refl)
begin_step settings b v m j r known = never (begin_row settings v m j r) b (λ faults arms fuses t first a lie. lie)

-- DRAINS AND FUSES

tells_outside : (m n : ℕ) → Decides (not (nat_lt m n)) (n ≤ m)
tells_outside m n = Decides-like _ (λ h. omega (arith, h)) (λ h g. omega (arith, h, g)) (Decides-not (nat_lt m n) (Decides-ltb m n))

pub drain_step : (settings : Settings) (b : Known) (m : ℕ) (r : Reply) → r ≢ reply.NoMem → IsStep (λ k t. LegalDrain settings k m r t) b (next_drain settings b m r)
drain_step settings b m (reply.Drained m') known =
    kept (λ k t. LegalDrain settings k m (reply.Drained m') t) b (with_drain b m true) _ _
    (Decides-and (m' == m) (nat_lt m settings.machines) (Decides-eqb m' m) (Decides-ltb m settings.machines))
    (record {
      yes = λ needs. (needs.0, needs.1, stays b (with_drain b m true) refl refl);
      back = λ faults arms fuses t f a r. ((r.0, r.1), comes (with_drain b m true) (with_counts b faults arms fuses) (with_drain (with_counts b faults arms fuses) m true) t refl refl refl f a r.2);
    })
drain_step settings b m reply.Nowhere known =
    kept (λ k t. LegalDrain settings k m reply.Nowhere t) b b _ _ (tells_outside m settings.machines)
    (calm (λ k t. LegalDrain settings k m reply.Nowhere t) b _ (λ needs leaves. (needs, leaves)) (λ faults arms fuses t r. (r.0, r.1)))
drain_step settings b m reply.NoMem known = absurd (known refl)
drain_step settings b m r known = never (λ k t. LegalDrain settings k m r t) b (λ faults arms fuses t first a lie. lie)

pub undrain_step : (settings : Settings) (b : Known) (m : ℕ) (r : Reply) → r ≢ reply.NoMem → IsStep (λ k t. LegalUndrain settings k m r t) b (next_undrain settings b m r)
undrain_step settings b m (reply.Undrained m') known =
    kept (λ k t. LegalUndrain settings k m (reply.Undrained m') t) b (with_drain b m false) _ _
    (Decides-and (m' == m) (nat_lt m settings.machines) (Decides-eqb m' m) (Decides-ltb m settings.machines))
    (record {
      yes = λ needs. (needs.0, needs.1, stays b (with_drain b m false) refl refl);
      back = λ faults arms fuses t f a r. ((r.0, r.1), comes (with_drain b m false) (with_counts b faults arms fuses) (with_drain (with_counts b faults arms fuses) m false) t refl refl refl f a r.2);
    })
undrain_step settings b m reply.Nowhere known =
    kept (λ k t. LegalUndrain settings k m reply.Nowhere t) b b _ _ (tells_outside m settings.machines)
    (calm (λ k t. LegalUndrain settings k m reply.Nowhere t) b _ (λ needs leaves. (needs, leaves)) (λ faults arms fuses t r. (r.0, r.1)))
undrain_step settings b m reply.NoMem known = absurd (known refl)
undrain_step settings b m r known = never (λ k t. LegalUndrain settings k m r t) b (λ faults arms fuses t first a lie. lie)

fuse_next : (n : ℕ) → IsNext n (cond (n == 2 ^ 64 - 1) (2 ^ 64 - 1) (n + 1))
fuse_next n = elim (cases_Bool (n == 2 ^ 64 - 1)) [
  | inl top ↦ inr (grind (arith, nat_tests))
  | inr low ↦ inl (grind (arith, nat_tests))
]

-- the numbers of fuses count for nothing
fused_row : (b : Known) (slot : ℕ) (row : Known → Known → Type 0) (Needs : Type 0)
    → ((t : Known) → Needs → IsFused b slot t → row b t)
    → ((k t : Known) → row k t → Needs × IsFused k slot t)
    → IsRow row b (fused b slot) Needs
fused_row b slot row Needs made back = record {
  yes = λ needs. made (fused b slot) needs (cond (fuse_count b slot == 2 ^ 64 - 1) (2 ^ 64 - 1) (fuse_count b slot + 1), fuse_next (fuse_count b slot), stays b (fused b slot) refl refl);
  back = λ faults arms fuses t f a r.
      let h = back (with_counts b faults arms fuses) t r in
      (h.0, comes (fused b slot) (with_counts b faults arms fuses) (with_fuses (with_counts b faults arms fuses) slot h.1.0) t refl refl refl f a h.1.2);
}

pub fuse_step : (settings : Settings) (b : Known) (v m j n : ℕ) (r : Reply) → r ≢ reply.NoMem → IsStep (λ k t. LegalFuse settings k v m j n r t) b (next_fuse settings b v m j n r)
fuse_step settings b v m j n (reply.Fused v' m' n') known =
    kept (λ k t. LegalFuse settings k v m j n (reply.Fused v' m' n') t) b (fused b (slot_of settings v j)) _ _
    (Decides-and (names v m v' m') (n' == n) (tells_names v m v' m') (Decides-eqb n' n))
    (fused_row b (slot_of settings v j) (λ k t. LegalFuse settings k v m j n (reply.Fused v' m' n') t) (Names v m v' m' × (n' ≡ n))
    (λ t needs h. (needs.0, needs.1, h)) (λ k t r. ((r.0, r.1), r.2)))
fuse_step settings b v m j n reply.NoMem known = absurd (known refl)
fuse_step settings b v m j n r known = never (λ k t. LegalFuse settings k v m j n r t) b (λ faults arms fuses t first a lie. lie)

pub fuse_dir_step : (b : Known) (n : ℕ) (r : Reply) → r ≢ reply.NoMem → IsStep (λ k t. LegalFuseDir k n r t) b (next_fuse_dir b n r)
fuse_dir_step b n (reply.FusedDir n') known =
    kept (λ k t. LegalFuseDir k n (reply.FusedDir n') t) b (fused b 0) _ _ (Decides-eqb n' n)
    (fused_row b 0 (λ k t. LegalFuseDir k n (reply.FusedDir n') t) (n' ≡ n) (λ t needs h. (needs, h)) (λ k t r. (r.0, r.1)))
fuse_dir_step b n reply.NoMem known = absurd (known refl)
fuse_dir_step b n r known = never (λ k t. LegalFuseDir k n r t) b (λ faults arms fuses t first a lie. lie)

-- A REPLICA THAT IS NAMED

unmoved : (row : Known → Known → Type 0) (b : Known) → ((k t : Known) → row k t → Leaves k k t) → ((t : Known) → Leaves b b t → row b t) → IsStep row b (b ∷ [])
unmoved row b out into = one_step row b b (Unit {0})
    (calm row b (Unit {0}) (λ needs leaves. into b leaves) (λ faults arms fuses t r. (tt, out (with_counts b faults arms fuses) t r))) tt

pub on_replica_step : (b : Known) (on : Option ℕ) (legal : Known → ℕ → Reply → Known → Type 0) (next : ℕ → Reply → List Known) (r : Reply) → r ≢ reply.NoMem
    → ((j : ℕ) → IsStep (λ k t. legal k j r t) b (next j r))
    → IsStep (λ k t. OnReplica k on (legal k) r t) b (on_replica b on next r)
on_replica_step b (Some j) legal next r known steps = steps j
on_replica_step b None legal next reply.Nowhere known steps = unmoved (λ k t. OnReplica k None (legal k) reply.Nowhere t) b (λ k t h. h) (λ t h. h)
on_replica_step b None legal next reply.NoMem known steps = absurd (known refl)
on_replica_step b None legal next r known steps = never (λ k t. OnReplica k None (legal k) r t) b (λ faults arms fuses t first a lie. lie)

pub bad_step : (b : Known) (r : Reply) → IsStep (λ k t. (r ≡ reply.BadLine) × Leaves k k t) b (next_bad b r)
bad_step b reply.BadLine = unmoved (λ k t. (reply.BadLine ≡ reply.BadLine) × Leaves k k t) b (λ k t h. h.1) (λ t h. (refl, h))
bad_step b r = never (λ k t. (r ≡ reply.BadLine) × Leaves k k t) b (λ faults arms fuses t first a h. cc)

-- GET

tells_shows : (url : UrlParts) (r : Reply) → r ≢ reply.NoMem → Decides (get_shows url r) (GetShows url r)
tells_shows url (reply.Photo v m p d bytes) known = Decides-eqb v url.volume
tells_shows url (reply.Gone v m p d) known = Decides-eqb v url.volume
tells_shows url (reply.WrongCookie v m p d) known = Decides-eqb v url.volume
tells_shows url (reply.Unreadable v p d causes) known = Decides-eqb v url.volume
tells_shows url (reply.Unknown d) known = (λ h. tt, λ h. refl)
tells_shows url reply.NoMem known = absurd (known refl)
tells_shows url r known = (λ h. absurd cc, λ h. absurd h)

-- a reader of whom memory suffices changes nothing
show_leaves : (settings : Settings) (k t : Known) (tag : CoreTag) (start : ℕ) (pair : Pair) (cookie : Cookie) (r : Reply) → r ≢ reply.NoMem
    → LegalShow settings k tag start pair cookie r t → Leaves k k t
show_leaves settings k t tag start pair cookie (reply.Photo v m p d bytes) known h = h.leaves
show_leaves settings k t tag start pair cookie (reply.Gone v m p d) known h = h.leaves
show_leaves settings k t tag start pair cookie (reply.WrongCookie v m p d) known h = h.3.leaves
show_leaves settings k t tag start pair cookie (reply.Unreadable v p d causes) known h = h.leaves
show_leaves settings k t tag start pair cookie (reply.Unknown d) known h = h.1
show_leaves settings k t tag start pair cookie reply.NoMem known h = absurd (known refl)
show_leaves settings k t tag start pair cookie r known h = absurd h

abbrev get_row : Settings → CoreTag → UrlParts → Option ℕ → Reply → Known → Known → Type 0
get_row settings tag url on r k t = LegalGetAt settings k tag url on r t

-- a step with something that the row asks besides
pub besides : (row other : Known → Known → Type 0) (b : Known) (next : List Known) (Asks : Type 0) (test : Bool) → Decides test Asks
    → IsStep row b next → ((k t : Known) → row k t → Asks → other k t) → ((k t : Known) → other k t → row k t × Asks)
    → IsStep other b (cond test next [])
besides row other b next Asks test decides step into out =
    tested other b next Asks test decides
    (λ asks. record {
      sound = each_by (row b) (other b) next (λ t h. into b t h asks) step.sound;
      complete = λ faults arms fuses t f a r. step.complete faults arms fuses t f a (out (with_counts b faults arms fuses) t r).0;
    })
    (λ faults arms fuses t f a r. (out (with_counts b faults arms fuses) t r).1)

pub get_step : (settings : Settings) (b : Known) (tag : CoreTag) (url : UrlParts) (on : Option ℕ) (r : Reply) → r ≢ reply.NoMem
    → IsStep (get_row settings tag url on r) b (get_by settings b tag url on r)
get_step settings b tag url (Some start) (reply.Moved v d) known =
    kept (get_row settings tag url (Some start) (reply.Moved v d)) b b _ _
    (Decides-and (is_at (home_of b url.pair) v) _ (tells_at (home_of b url.pair) v)
    (Decides-and (not (v == url.volume)) (d == length b.directory.rows) (Decides-not (v == url.volume) (Decides-eqb v url.volume)) (Decides-eqb d (length b.directory.rows))))
    (calm (get_row settings tag url (Some start) (reply.Moved v d)) b _ (λ needs leaves. (needs.0, needs.1.0, needs.1.1, leaves)) (λ faults arms fuses t r. ((r.0, (r.1, r.2)), r.3)))
get_step settings b tag url (Some start) r known =
    besides (show_row settings tag start url.pair url.cookie r) (get_row settings tag url (Some start) r) b (next_show settings b tag start url.pair url.cookie r) (GetShows url r) (get_shows url r)
    (tells_shows url r known) (show_step settings b tag start url.pair url.cookie r known)
    (λ k t h asks. (h, asks, λ v home other. show_leaves settings k t tag start url.pair url.cookie r known h)) (λ k t h. (h.0, h.1))
get_step settings b tag url None reply.Nowhere known = unmoved (get_row settings tag url None reply.Nowhere) b (λ k t h. h) (λ t h. h)
get_step settings b tag url None reply.NoMem known = absurd (known refl)
get_step settings b tag url None r known = never (get_row settings tag url None r) b (λ faults arms fuses t first a lie. lie)
