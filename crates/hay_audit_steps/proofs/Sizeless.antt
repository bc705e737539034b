-- Lines whose rows look at no sizes.
use Rattle.std.proofs.Common.{◌≡◌, ℕ, ◌+◌, Bool, true, false, List, [], ◌∷◌, length, Option, Some, None, refl, ap, ◌∙◌}
use Rattle.std.specs.Prelude.{cond, ◌&&◌, ◌||◌, ◌==◌, not, map, is_none, is_some}
use Rattle.hay_needle.specs.declared.settings.Settings.{Settings}
use Rattle.hay_needle.specs.declared.needle.Pair.{Pair}
use Rattle.hay_needle.specs.declared.settings.TheConstants.{LAST_GENERATION}
use Rattle.hay_url.specs.declared.Url.{Url as UrlParts}
use Rattle.hay_core.specs.declared.entry.CoreTag.{CoreTag}
use Rattle.hay_script.specs.declared.Command.{Command}
use Rattle.hay_script.specs.declared.Command.TheVariants as command
use Rattle.hay_reply.specs.declared.Reply.{Reply}
use Rattle.hay_reply.specs.declared.Reply.TheVariants as reply
use Rattle.hay_legal.specs.declared.known.Known.{Known}
use Rattle.hay_legal.specs.declared.turn.Item.{Item}
use Rattle.hay_legal.specs.declared.turn.Item.TheVariants as item
use Rattle.hay_core.specs.declared.entry.Entry.TheVariants as entry
use Rattle.hay_core.specs.declared.entry.Logged.{Logged}
use Rattle.hay_legal.specs.Known.{slot_of, replica_on, volume_at, home_of, closed}
use Rattle.hay_legal.specs.Plain.{start_of, with_drain, change_replica, change_volume, replica_of, with_run, with_stuck, without_run, poised, poised_by, frozen_by, frozen_with}
use Rattle.hay_audit_steps.specs.Law.{IsExact}
use Rattle.hay_audit_steps.specs.BoxLaw.{SizelessLinesStepBoxes}
use Rattle.hay_audit_steps.specs.BoxNext.{IsSizeless}
use Rattle.hay_audit_steps.specs.CheckerSteps.{plain_row}
use Rattle.hay_audit_steps.specs.Slacks.{Slack}
use Rattle.hay_audit_steps.specs.Boxes.{fill}
use Rattle.hay_audit_steps.specs.Next.{is_at, is_home, keep_if, rises_to, with_fault, stands_there, deleted, del_failed_by, next_del, endings, is_busy, is_frozen_by, is_stuck_on}
use Rattle.hay_audit_steps.specs.Next.{names, is_open, is_idle, is_resting, next_flush, next_begin, next_step, swap_failed, next_compact, next_finish, next_show, next_url}
use Rattle.hay_audit_steps.specs.Next.{get_shows, get_by, next_drain, next_undrain, fused, next_fuse, next_fuse_dir, on_replica, next_bad, next_command, next_plain}
use Rattle.hay_audit_steps.proofs.Fills.{all_deleted_fill, busy_fill, change_replica_fill, closed_fill, closed_home_fill, endings_fill, freeze_fill, freeze_with_fill, frozen_fill}
use Rattle.hay_audit_steps.proofs.Fills.{generation_fill, home_fill, idle_fill, open_fill, resting_fill, runs_fill, stands_fill, stuck_fill, stuck_on_fill}
use Rattle.hay_audit_steps.proofs.Lifting.{change_fill, kept_fill, log_fill, show_fill, lifted}
use Rattle.hay_audit_steps.proofs.Swaps.{plain_step}

url_fill : (xss : List (List Slack)) (settings : Settings) (b : Known) (tag : CoreTag) (pair : Pair) (r : Reply)
    → next_url settings (fill xss b) tag pair r ≡ map (fill xss) (next_url settings b tag pair r)
url_fill xss settings b tag pair (reply.Url d url) = kept_fill xss _ (b ∷ [])
url_fill xss settings b tag pair (reply.Unknown d) = kept_fill xss _ (b ∷ [])
url_fill xss settings b tag pair r = refl

get_fill : (xss : List (List Slack)) (settings : Settings) (b : Known) (tag : CoreTag) (url : UrlParts) (on : Option ℕ) (r : Reply)
    → get_by settings (fill xss b) tag url on r ≡ map (fill xss) (get_by settings b tag url on r)
get_fill xss settings b tag url (Some start) (reply.Moved v d) = kept_fill xss _ (b ∷ [])
get_fill xss settings b tag url (Some start) r =
    ap (λ (cs : List Known). cond (get_shows url r) cs []) (show_fill xss settings b tag start url.pair url.cookie r)
    ∙ kept_fill xss (get_shows url r) (next_show settings b tag start url.pair url.cookie r)
get_fill xss settings b tag url None reply.Nowhere = refl
get_fill xss settings b tag url None r = refl

drain_fill : (xss : List (List Slack)) (settings : Settings) (b : Known) (m : ℕ) (r : Reply) → next_drain settings (fill xss b) m r ≡ map (fill xss) (next_drain settings b m r)
drain_fill xss settings b m (reply.Drained m') = kept_fill xss _ (with_drain b m true ∷ [])
drain_fill xss settings b m reply.Nowhere = kept_fill xss _ (b ∷ [])
drain_fill xss settings b m r = refl

undrain_fill : (xss : List (List Slack)) (settings : Settings) (b : Known) (m : ℕ) (r : Reply) → next_undrain settings (fill xss b) m r ≡ map (fill xss) (next_undrain settings b m r)
undrain_fill xss settings b m (reply.Undrained m') = kept_fill xss _ (with_drain b m false ∷ [])
undrain_fill xss settings b m reply.Nowhere = kept_fill xss _ (b ∷ [])
undrain_fill xss settings b m r = refl

fuse_fill : (xss : List (List Slack)) (settings : Settings) (b : Known) (v m n : ℕ) (on : Option ℕ) (r : Reply)
    → on_replica (fill xss b) on (λ j. next_fuse settings (fill xss b) v m j n) r ≡ map (fill xss) (on_replica b on (λ j. next_fuse settings b v m j n) r)
fuse_fill xss settings b v m n (Some j) (reply.Fused v' m' n') = kept_fill xss _ (fused b (slot_of settings v j) ∷ [])
fuse_fill xss settings b v m n (Some j) r = refl
fuse_fill xss settings b v m n None reply.Nowhere = refl
fuse_fill xss settings b v m n None r = refl

fuse_dir_fill : (xss : List (List Slack)) (b : Known) (n : ℕ) (r : Reply) → next_fuse_dir (fill xss b) n r ≡ map (fill xss) (next_fuse_dir b n r)
fuse_dir_fill xss b n (reply.FusedDir n') = kept_fill xss _ (fused b 0 ∷ [])
fuse_dir_fill xss b n r = refl

bad_fill : (xss : List (List Slack)) (b : Known) (r : Reply) → next_bad (fill xss b) r ≡ map (fill xss) (next_bad b r)
bad_fill xss b reply.BadLine = refl
bad_fill xss b r = refl

-- a test that goes over, before a state that is filled
kept_if_fill : (xss : List (List Slack)) (test own : Bool) (e filled : Known) → test ≡ own → filled ≡ fill xss e → keep_if test filled ≡ map (fill xss) (keep_if own e)
kept_if_fill xss test own e filled same is =
    ap (λ (b : Bool). keep_if b filled) same ∙ ap (λ (k : Known). keep_if own k) is ∙ kept_fill xss own (e ∷ [])

-- DELETES

del_failed_fill : (xss : List (List Slack)) (settings : Settings) (b : Known) (tag : CoreTag) (pair : Pair) (v m f : ℕ) (on : Option ℕ)
    → del_failed_by settings (fill xss b) tag pair v m f on ≡ map (fill xss) (del_failed_by settings b tag pair v m f on)
del_failed_fill xss settings b tag pair v m f None = refl
del_failed_fill xss settings b tag pair v m f (Some j) =
    ap (λ (ks : List Known). cond (is_at (home_of b pair) v && (is_none (closed settings (fill xss b) v) && rises_to b (slot_of settings v j) f))
    (with_fault (fill xss b) (slot_of settings v j) f ∷ ks) [])
    (kept_if_fill xss (stands_there (fill xss b) pair v) (stands_there b pair v) (with_fault (change_volume b v (frozen_with m tag (entry.Del pair) true)) (slot_of settings v j) f)
    (with_fault (change_volume (fill xss b) v (frozen_with m tag (entry.Del pair) true)) (slot_of settings v j) f) (stands_fill xss b pair v)
    (ap (λ (k : Known). with_fault k (slot_of settings v j) f) (change_fill xss b v (frozen_with m tag (entry.Del pair) true) (λ xs volume. freeze_with_fill xs m tag (entry.Del pair) true volume))))
    ∙ ap (λ (by : Option ℕ). cond (is_at (home_of b pair) v && (is_none by && rises_to b (slot_of settings v j) f)) (map (fill xss) (with_fault b (slot_of settings v j) f
    ∷ keep_if (stands_there b pair v) (with_fault (change_volume b v (frozen_with m tag (entry.Del pair) true)) (slot_of settings v j) f))) []) (closed_fill xss settings b v)
    ∙ kept_fill xss (is_at (home_of b pair) v && (is_none (closed settings b v) && rises_to b (slot_of settings v j) f)) (with_fault b (slot_of settings v j) f
    ∷ keep_if (stands_there b pair v) (with_fault (change_volume b v (frozen_with m tag (entry.Del pair) true)) (slot_of settings v j) f))

del_fill : (xss : List (List Slack)) (settings : Settings) (b : Known) (tag : CoreTag) (pair : Pair) (r : Reply)
    → next_del settings (fill xss b) tag pair r ≡ map (fill xss) (next_del settings b tag pair r)
del_fill xss settings b tag pair (reply.Deleted v p d) =
    ap (λ (is : Bool). cond (is && (stands_there (fill xss b) pair v && (p == length (volume_at (fill xss b) v).log + 1)))
    (map (deleted settings (fill xss b) tag pair v) (endings_at (fill xss b))) []) (home_fill xss settings b pair v d)
    ∙ ap (λ (is : Bool). cond (is_home settings b pair v d && (is && (p == length (volume_at (fill xss b) v).log + 1)))
    (map (deleted settings (fill xss b) tag pair v) (endings_at (fill xss b))) []) (stands_fill xss b pair v)
    ∙ ap (λ (log : List Logged). cond (is_home settings b pair v d && (stands_there b pair v && (p == length log + 1)))
    (map (deleted settings (fill xss b) tag pair v) (endings_at (fill xss b))) []) (log_fill xss b v)
    ∙ ap (λ (ends : List (List Bool)). cond (is_home settings b pair v d && (stands_there b pair v && (p == length (volume_at b v).log + 1)))
    (map (deleted settings (fill xss b) tag pair v) ends) []) (endings_fill xss settings b v)
    ∙ ap (λ (ks : List Known). cond (is_home settings b pair v d && (stands_there b pair v && (p == length (volume_at b v).log + 1))) ks []) (all_deleted_fill xss settings b tag pair v (endings_at b))
    ∙ kept_fill xss (is_home settings b pair v d && (stands_there b pair v && (p == length (volume_at b v).log + 1))) (map (deleted settings b tag pair v) (endings_at b))
  where
    endings_at : Known → List (List Bool)
    endings_at k = endings settings k v 0 (volume_at k v).replicas
del_fill xss settings b tag pair (reply.Absent v p d) =
    kept_if_fill xss (is_home settings (fill xss b) pair v d && (not (stands_there (fill xss b) pair v) && (p == length (volume_at (fill xss b) v).log))) _ b (fill xss b)
    (ap (λ (is : Bool). is && (not (stands_there (fill xss b) pair v) && (p == length (volume_at (fill xss b) v).log))) (home_fill xss settings b pair v d)
    ∙ ap (λ (is : Bool). is_home settings b pair v d && (not is && (p == length (volume_at (fill xss b) v).log))) (stands_fill xss b pair v)
    ∙ ap (λ (log : List Logged). is_home settings b pair v d && (not (stands_there b pair v) && (p == length log))) (log_fill xss b v)) refl
del_fill xss settings b tag pair (reply.Unknown d) = kept_fill xss _ (b ∷ [])
del_fill xss settings b tag pair (reply.ReadOnly by) = kept_if_fill xss _ _ b (fill xss b) (closed_home_fill xss settings b pair by) refl
del_fill xss settings b tag pair (reply.Failed v m f) = del_failed_fill xss settings b tag pair v m f (replica_on settings v m)
del_fill xss settings b tag pair r = refl

-- FLUSH AND COMPACTION

busy_again : (xss : List (List Slack)) (b : Known) (v m j v' m' g : ℕ)
    → keep_if (names v m v' m' && (is_open (fill xss b) v && is_busy (replica_of (fill xss b) v j).run g)) (fill xss b)
    ≡ map (fill xss) (keep_if (names v m v' m' && (is_open b v && is_busy (replica_of b v j).run g)) b)
busy_again xss b v m j v' m' g =
    kept_if_fill xss _ _ b (fill xss b)
    (ap (λ (is : Bool). names v m v' m' && (is && is_busy (replica_of (fill xss b) v j).run g)) (open_fill xss b v)
    ∙ ap (λ (is : Bool). names v m v' m' && (is_open b v && is)) (busy_fill xss b v j g)) refl

worn_again : (xss : List (List Slack)) (b : Known) (v m j v' m' : ℕ)
    → keep_if (names v m v' m' && (is_open (fill xss b) v && (is_idle (fill xss b) v j && ((replica_of (fill xss b) v j).generation == LAST_GENERATION)))) (fill xss b)
    ≡ map (fill xss) (keep_if (names v m v' m' && (is_open b v && (is_idle b v j && ((replica_of b v j).generation == LAST_GENERATION)))) b)
worn_again xss b v m j v' m' =
    kept_if_fill xss _ _ b (fill xss b)
    (ap (λ (is : Bool). names v m v' m' && (is && (is_idle (fill xss b) v j && ((replica_of (fill xss b) v j).generation == LAST_GENERATION)))) (open_fill xss b v)
    ∙ ap (λ (is : Bool). names v m v' m' && (is_open b v && (is && ((replica_of (fill xss b) v j).generation == LAST_GENERATION)))) (idle_fill xss b v j)
    ∙ ap (λ (n : ℕ). names v m v' m' && (is_open b v && (is_idle b v j && (n == LAST_GENERATION)))) (generation_fill xss b v j)) refl

idle_again : (xss : List (List Slack)) (b : Known) (v m j v' m' : ℕ)
    → keep_if (names v m v' m' && (is_open (fill xss b) v && is_idle (fill xss b) v j)) (fill xss b) ≡ map (fill xss) (keep_if (names v m v' m' && (is_open b v && is_idle b v j)) b)
idle_again xss b v m j v' m' =
    kept_if_fill xss _ _ b (fill xss b)
    (ap (λ (is : Bool). names v m v' m' && (is && is_idle (fill xss b) v j)) (open_fill xss b v)
    ∙ ap (λ (is : Bool). names v m v' m' && (is_open b v && is)) (idle_fill xss b v j)) refl

flush_fill : (xss : List (List Slack)) (settings : Settings) (b : Known) (v m j : ℕ) (r : Reply) → IsSizeless (item.Command (command.Flush v m)) r
    → next_flush settings (fill xss b) v m j r ≡ map (fill xss) (next_flush settings b v m j r)
flush_fill xss settings b v m j (reply.Flushed v' m' n) sizeless = absurd sizeless
flush_fill xss settings b v m j (reply.ReadOnly by) sizeless =
    kept_if_fill xss _ _ b (fill xss b)
    (ap (λ (is : Bool). is || is_stuck_on (fill xss b) v m j by) (frozen_fill xss b v by)
    ∙ ap (λ (is : Bool). is_frozen_by b v by || is) (stuck_on_fill xss b v m j by)) refl
flush_fill xss settings b v m j (reply.Failed v' m' f) sizeless =
    kept_if_fill xss _ _ (with_fault (change_replica b v j with_stuck) (slot_of settings v j) f) (with_fault (change_replica (fill xss b) v j with_stuck) (slot_of settings v j) f)
    (ap (λ (is : Bool). names v m v' m' && (is && (not (replica_of (fill xss b) v j).stuck && rises_to b (slot_of settings v j) f))) (open_fill xss b v)
    ∙ ap (λ (is : Bool). names v m v' m' && (is_open b v && (not is && rises_to b (slot_of settings v j) f))) (stuck_fill xss b v j))
    (ap (λ (k : Known). with_fault k (slot_of settings v j) f) (change_replica_fill xss b v j with_stuck (λ x q. refl)))
flush_fill xss settings b v m j r sizeless = refl

begin_fill : (xss : List (List Slack)) (settings : Settings) (b : Known) (v m j : ℕ) (r : Reply) → next_begin settings (fill xss b) v m j r ≡ map (fill xss) (next_begin settings b v m j r)
begin_fill xss settings b v m j (reply.Begun v' m' g) =
    kept_if_fill xss _ _ (change_replica b v j (λ q. with_run (record { goal = g; left = q.cells }) q)) (change_replica (fill xss b) v j (λ q. with_run (record { goal = g; left = q.cells }) q))
    (ap (λ (is : Bool). names v m v' m' && (is && (is_resting (fill xss b) v j && (g == (replica_of (fill xss b) v j).generation + 1)))) (open_fill xss b v)
    ∙ ap (λ (is : Bool). names v m v' m' && (is_open b v && (is && (g == (replica_of (fill xss b) v j).generation + 1)))) (resting_fill xss b v j)
    ∙ ap (λ (n : ℕ). names v m v' m' && (is_open b v && (is_resting b v j && (g == n + 1)))) (generation_fill xss b v j))
    (change_replica_fill xss b v j (λ q. with_run (record { goal = g; left = q.cells }) q) (λ x q. refl))
begin_fill xss settings b v m j (reply.ReadOnly by) = kept_if_fill xss _ _ b (fill xss b) (frozen_fill xss b v by) refl
begin_fill xss settings b v m j (reply.Busy v' m' g) = busy_again xss b v m j v' m' g
begin_fill xss settings b v m j (reply.Worn v' m') = worn_again xss b v m j v' m'
begin_fill xss settings b v m j (reply.Failed v' m' f) =
    kept_if_fill xss _ _ (with_fault b (slot_of settings v j) f) (with_fault (fill xss b) (slot_of settings v j) f)
    (ap (λ (is : Bool). names v m v' m' && (is && (is_resting (fill xss b) v j && rises_to b (slot_of settings v j) f))) (open_fill xss b v)
    ∙ ap (λ (is : Bool). names v m v' m' && (is_open b v && (is && rises_to b (slot_of settings v j) f))) (resting_fill xss b v j)) refl
begin_fill xss settings b v m j r = refl

step_fill : (xss : List (List Slack)) (settings : Settings) (b : Known) (v m j cells : ℕ) (r : Reply) → IsSizeless (item.Command (command.Step v m cells)) r
    → next_step settings (fill xss b) v m j cells r ≡ map (fill xss) (next_step settings b v m j cells r)
step_fill xss settings b v m j cells (reply.Stepped v' m' n) sizeless = absurd sizeless
step_fill xss settings b v m j cells (reply.ReadOnly by) sizeless = kept_if_fill xss _ _ b (fill xss b) (frozen_fill xss b v by) refl
step_fill xss settings b v m j cells (reply.Idle v' m') sizeless = idle_again xss b v m j v' m'
step_fill xss settings b v m j cells (reply.Failed v' m' f) sizeless =
    kept_if_fill xss _ _ (with_fault (change_replica b v j without_run) (slot_of settings v j) f) (with_fault (change_replica (fill xss b) v j without_run) (slot_of settings v j) f)
    (ap (λ (is : Bool). names v m v' m' && (is && (is_some (replica_of (fill xss b) v j).run && rises_to b (slot_of settings v j) f))) (open_fill xss b v)
    ∙ ap (λ (is : Bool). names v m v' m' && (is_open b v && (is && rises_to b (slot_of settings v j) f))) (runs_fill xss b v j))
    (ap (λ (k : Known). with_fault k (slot_of settings v j) f) (change_replica_fill xss b v j without_run (λ x q. refl)))
step_fill xss settings b v m j cells r sizeless = refl

swap_failed_fill : (xss : List (List Slack)) (settings : Settings) (b : Known) (v m j f : ℕ) → swap_failed settings (fill xss b) v m j f ≡ map (fill xss) (swap_failed settings b v m j f)
swap_failed_fill xss settings b v m j f =
    ap (λ (k : Known). with_fault k (slot_of settings v j) f ∷ with_fault (poised_by m (fill xss b) v j) (slot_of settings v j) f ∷ []) (change_replica_fill xss b v j without_run (λ x q. refl))
    ∙ ap (λ (k : Known). with_fault (fill xss (change_replica b v j without_run)) (slot_of settings v j) f ∷ with_fault k (slot_of settings v j) f ∷ [])
    (ap (λ (k : Known). change_replica k v j poised) (change_fill xss b v (frozen_by m) (λ xs volume. freeze_fill xs m volume))
    ∙ change_replica_fill xss (change_volume b v (frozen_by m)) v j poised (λ x q. refl))

compact_fill : (xss : List (List Slack)) (settings : Settings) (b : Known) (v m j : ℕ) (r : Reply) → IsSizeless (item.Command (command.Compact v m)) r
    → next_compact settings (fill xss b) v m j r ≡ map (fill xss) (next_compact settings b v m j r)
compact_fill xss settings b v m j (reply.Compacted v' m' g) sizeless = absurd sizeless
compact_fill xss settings b v m j (reply.ReadOnly by) sizeless = kept_if_fill xss _ _ b (fill xss b) (frozen_fill xss b v by) refl
compact_fill xss settings b v m j (reply.Busy v' m' g) sizeless = busy_again xss b v m j v' m' g
compact_fill xss settings b v m j (reply.Worn v' m') sizeless = worn_again xss b v m j v' m'
compact_fill xss settings b v m j (reply.Failed v' m' f) sizeless =
    ap (λ (is : Bool). cond (names v m v' m' && (is && (is_resting (fill xss b) v j && rises_to b (slot_of settings v j) f))) (swap_failed settings (fill xss b) v m j f) []) (open_fill xss b v)
    ∙ ap (λ (is : Bool). cond (names v m v' m' && (is_open b v && (is && rises_to b (slot_of settings v j) f))) (swap_failed settings (fill xss b) v m j f) []) (resting_fill xss b v j)
    ∙ ap (λ (ks : List Known). cond (names v m v' m' && (is_open b v && (is_resting b v j && rises_to b (slot_of settings v j) f))) ks []) (swap_failed_fill xss settings b v m j f)
    ∙ kept_fill xss (names v m v' m' && (is_open b v && (is_resting b v j && rises_to b (slot_of settings v j) f))) (swap_failed settings b v m j f)
compact_fill xss settings b v m j r sizeless = refl

finish_fill : (xss : List (List Slack)) (settings : Settings) (b : Known) (v m j : ℕ) (r : Reply) → IsSizeless (item.Command (command.Finish v m)) r
    → next_finish settings (fill xss b) v m j r ≡ map (fill xss) (next_finish settings b v m j r)
finish_fill xss settings b v m j (reply.Compacted v' m' g) sizeless = absurd sizeless
finish_fill xss settings b v m j (reply.ReadOnly by) sizeless = kept_if_fill xss _ _ b (fill xss b) (frozen_fill xss b v by) refl
finish_fill xss settings b v m j (reply.Idle v' m') sizeless = idle_again xss b v m j v' m'
finish_fill xss settings b v m j (reply.Failed v' m' f) sizeless =
    ap (λ (is : Bool). cond (names v m v' m' && (is && (is_some (replica_of (fill xss b) v j).run && rises_to b (slot_of settings v j) f)))
    (swap_failed settings (fill xss b) v m j f) []) (open_fill xss b v)
    ∙ ap (λ (is : Bool). cond (names v m v' m' && (is_open b v && (is && rises_to b (slot_of settings v j) f))) (swap_failed settings (fill xss b) v m j f) []) (runs_fill xss b v j)
    ∙ ap (λ (ks : List Known). cond (names v m v' m' && (is_open b v && (is_some (replica_of b v j).run && rises_to b (slot_of settings v j) f))) ks []) (swap_failed_fill xss settings b v m j f)
    ∙ kept_fill xss (names v m v' m' && (is_open b v && (is_some (replica_of b v j).run && rises_to b (slot_of settings v j) f))) (swap_failed settings b v m j f)
finish_fill xss settings b v m j r sizeless = refl

-- EVERY COMMAND

on_fill : (xss : List (List Slack)) (b : Known) (on : Option ℕ) (next filled : ℕ → Reply → List Known) (r : Reply) → ((j : ℕ) → filled j r ≡ map (fill xss) (next j r))
    → on_replica (fill xss b) on filled r ≡ map (fill xss) (on_replica b on next r)
on_fill xss b (Some j) next filled r each = each j
on_fill xss b None next filled reply.Nowhere each = refl
on_fill xss b None next filled r each = refl

command_fill : (xss : List (List Slack)) (settings : Settings) (b : Known) (tag : CoreTag) (c : Command) (r : Reply) → IsSizeless (item.Command c) r
    → next_command settings (fill xss b) tag c r ≡ map (fill xss) (next_command settings b tag c r)
command_fill xss settings b tag (command.Put pair bytes) r sizeless = absurd sizeless
command_fill xss settings b tag (command.Read pair cookie) r sizeless = show_fill xss settings b tag (start_of settings tag) pair cookie r
command_fill xss settings b tag (command.Get url) r sizeless = get_fill xss settings b tag url (replica_on settings url.volume url.machine) r
command_fill xss settings b tag (command.Del pair) r sizeless = del_fill xss settings b tag pair r
command_fill xss settings b tag (command.Url pair) r sizeless = url_fill xss settings b tag pair r
command_fill xss settings b tag (command.Flush v m) r sizeless =
    on_fill xss b (replica_on settings v m) (next_flush settings b v m) (next_flush settings (fill xss b) v m) r (λ j. flush_fill xss settings b v m j r sizeless)
command_fill xss settings b tag (command.Compact v m) r sizeless =
    on_fill xss b (replica_on settings v m) (next_compact settings b v m) (next_compact settings (fill xss b) v m) r (λ j. compact_fill xss settings b v m j r sizeless)
command_fill xss settings b tag (command.Begin v m) r sizeless =
    on_fill xss b (replica_on settings v m) (next_begin settings b v m) (next_begin settings (fill xss b) v m) r (λ j. begin_fill xss settings b v m j r)
command_fill xss settings b tag (command.Step v m n) r sizeless =
    on_fill xss b (replica_on settings v m) (λ j. next_step settings b v m j n) (λ j. next_step settings (fill xss b) v m j n) r (λ j. step_fill xss settings b v m j n r sizeless)
command_fill xss settings b tag (command.Finish v m) r sizeless =
    on_fill xss b (replica_on settings v m) (next_finish settings b v m) (next_finish settings (fill xss b) v m) r (λ j. finish_fill xss settings b v m j r sizeless)
command_fill xss settings b tag (command.Drain m) r sizeless = drain_fill xss settings b m r
command_fill xss settings b tag (command.Undrain m) r sizeless = undrain_fill xss settings b m r
command_fill xss settings b tag (command.Fuse v m n) r sizeless = fuse_fill xss settings b v m n (replica_on settings v m) r
command_fill xss settings b tag (command.FuseDir n) r sizeless = fuse_dir_fill xss b n r
command_fill xss settings b tag (command.Restart pick) r sizeless = refl

plain_fill : (xss : List (List Slack)) (settings : Settings) (b : Known) (line : ℕ) (i : Item) (r : Reply) → IsSizeless i r
    → next_plain settings line i r (fill xss b) ≡ map (fill xss) (next_plain settings line i r b)
plain_fill xss settings b line (item.Command c) r sizeless = command_fill xss settings b (record { lane = 0; line = line }) c r sizeless
plain_fill xss settings b line item.Bad r sizeless = bad_fill xss b r

-- none of them is a finish that was made
exact : (i : Item) (r : Reply) → IsSizeless i r → IsExact i r
exact (item.Command (command.Finish v m)) (reply.Compacted v' m' g) sizeless = absurd sizeless
exact i r sizeless = tt

pub sizeless_lines_step_boxes : SizelessLinesStepBoxes
sizeless_lines_step_boxes settings box line i r known sizeless =
    lifted (plain_row settings line i r) (λ k. next_plain settings line i r k) box
    (λ k. plain_step settings k line i r known (exact i r sizeless)) (λ xss within. plain_fill xss settings box.base line i r sizeless)
