-- Changes that look at no sizes go with filling.
use Rattle.std.proofs.Common.{◌≡◌, ℕ, zero, suc, ◌+◌, Bool, true, false, List, [], ◌∷◌, ◌++◌, length, Option, Some, None, refl, ap, ◌∙◌}
use Rattle.std.specs.Prelude.{cond, ◌&&◌, ◌||◌, ◌==◌, map, nat_lt, is_none, is_some, slice_index_or, slice_set, option_map}
use Rattle.std.specs.List.{list_any}
use Rattle.hay_needle.specs.declared.settings.Settings.{Settings}
use Rattle.hay_needle.specs.declared.needle.Pair.{Pair}
use Rattle.hay_needle.specs.declared.settings.TheConstants.{LAST_GENERATION}
use Rattle.hay_core.specs.declared.entry.CoreTag.{CoreTag}
use Rattle.hay_core.specs.declared.entry.Entry.{Entry}
use Rattle.hay_reply.specs.declared.ClosedBy.{ClosedBy}
use Rattle.hay_legal.specs.declared.known.Run.{Run}
use Rattle.hay_legal.specs.declared.known.ReplicaKnown.{ReplicaKnown}
use Rattle.hay_legal.specs.declared.known.VolumeKnown.{VolumeKnown}
use Rattle.hay_legal.specs.declared.known.Known.{Known}
use Rattle.hay_legal.specs.Known.{volume_at, replica_at, empty_replica, home_of, slot_of, closed, closed_by, drained_of}
use Rattle.hay_legal.specs.Plain.{change_volume, change_replica, replica_of, without_run, frozen_by, frozen_with, has_pair, ended_where, with_del}
use Rattle.hay_audit_steps.specs.Laid.{raise_disk}
use Rattle.hay_audit_steps.specs.Next.{is_at, is_closed_home, is_frozen_by, is_stuck_on, is_open, is_idle, is_resting, is_busy, is_home, stands_there, endings, raise_ended, deleted, names}
use Rattle.hay_audit_steps.specs.Slacks.{Slack, fill_replica, fill_run}
use Rattle.hay_audit_steps.specs.Boxes.{fill, fill_replicas, fill_volume}
use Rattle.hay_audit_steps.proofs.Lifting.{volume_fill, change_fill}

-- WHAT A REPLICA HAS BESIDES SIZES

flags_fill : {X : Type 0} (f : ReplicaKnown → X) → ((x : Slack) (r : ReplicaKnown) → f (fill_replica x r) ≡ f r) → (xs : List Slack) (replicas : List ReplicaKnown) (j : ℕ)
    → f (slice_index_or (fill_replicas xs replicas) j empty_replica) ≡ f (slice_index_or replicas j empty_replica)
flags_fill f same [] replicas j = refl
flags_fill f same (x ∷ xs) [] j = refl
flags_fill f same (x ∷ xs) (r ∷ replicas) zero = same x r
flags_fill f same (x ∷ xs) (r ∷ replicas) (suc j) = flags_fill f same xs replicas j

pub flag_fill : {X : Type 0} (f : ReplicaKnown → X) → ((x : Slack) (r : ReplicaKnown) → f (fill_replica x r) ≡ f r) → (xss : List (List Slack)) (b : Known) (v j : ℕ)
    → f (replica_of (fill xss b) v j) ≡ f (replica_of b v j)
flag_fill f same xss b v j =
    ap (λ (volume : VolumeKnown). f (replica_at volume j)) (volume_fill xss b v) ∙ flags_fill f same (slice_index_or xss v []) (volume_at b v).replicas j

is_none_run : (n : ℕ) (run : Option Run) → is_none (option_map (fill_run n) run) ≡ is_none run
is_none_run n None = refl
is_none_run n (Some run) = refl

is_some_run : (n : ℕ) (run : Option Run) → is_some (option_map (fill_run n) run) ≡ is_some run
is_some_run n None = refl
is_some_run n (Some run) = refl

busy_run : (g n : ℕ) (run : Option Run) → is_busy (option_map (fill_run n) run) g ≡ is_busy run g
busy_run g n None = refl
busy_run g n (Some run) = refl

pub stuck_fill : (xss : List (List Slack)) (b : Known) (v j : ℕ) → (replica_of (fill xss b) v j).stuck ≡ (replica_of b v j).stuck
stuck_fill xss b v j = flag_fill (λ r. r.stuck) (λ x r. refl) xss b v j

pub generation_fill : (xss : List (List Slack)) (b : Known) (v j : ℕ) → (replica_of (fill xss b) v j).generation ≡ (replica_of b v j).generation
generation_fill xss b v j = flag_fill (λ r. r.generation) (λ x r. refl) xss b v j

pub idle_fill : (xss : List (List Slack)) (b : Known) (v j : ℕ) → is_idle (fill xss b) v j ≡ is_idle b v j
idle_fill xss b v j = flag_fill (λ r. is_none r.run) (λ x r. is_none_run x.cells r.run) xss b v j

pub runs_fill : (xss : List (List Slack)) (b : Known) (v j : ℕ) → is_some (replica_of (fill xss b) v j).run ≡ is_some (replica_of b v j).run
runs_fill xss b v j = flag_fill (λ r. is_some r.run) (λ x r. is_some_run x.cells r.run) xss b v j

pub busy_fill : (xss : List (List Slack)) (b : Known) (v j g : ℕ) → is_busy (replica_of (fill xss b) v j).run g ≡ is_busy (replica_of b v j).run g
busy_fill xss b v j g = flag_fill (λ r. is_busy r.run g) (λ x r. busy_run g x.cells r.run) xss b v j

pub resting_fill : (xss : List (List Slack)) (b : Known) (v j : ℕ) → is_resting (fill xss b) v j ≡ is_resting b v j
resting_fill xss b v j =
    ap (λ (idle : Bool). idle && nat_lt (replica_of (fill xss b) v j).generation LAST_GENERATION) (idle_fill xss b v j)
    ∙ ap (λ (g : ℕ). is_idle b v j && nat_lt g LAST_GENERATION) (generation_fill xss b v j)

pub open_fill : (xss : List (List Slack)) (b : Known) (v : ℕ) → is_open (fill xss b) v ≡ is_open b v
open_fill xss b v = ap (λ (volume : VolumeKnown). is_none volume.frozen) (volume_fill xss b v)

pub frozen_fill : (xss : List (List Slack)) (b : Known) (v : ℕ) (by : List ClosedBy) → is_frozen_by (fill xss b) v by ≡ is_frozen_by b v by
frozen_fill xss b v [] = refl
frozen_fill xss b v (by ∷ []) = ap (λ (volume : VolumeKnown). (by.volume == v) && is_at volume.frozen by.machine) (volume_fill xss b v)
frozen_fill xss b v (by ∷ more ∷ others) = refl

pub stuck_on_fill : (xss : List (List Slack)) (b : Known) (v m j : ℕ) (by : List ClosedBy) → is_stuck_on (fill xss b) v m j by ≡ is_stuck_on b v m j by
stuck_on_fill xss b v m j [] = refl
stuck_on_fill xss b v m j (by ∷ []) =
    ap (λ (x : Bool). names v m by.volume by.machine && (x && (replica_of (fill xss b) v j).stuck)) (open_fill xss b v)
    ∙ ap (λ (x : Bool). names v m by.volume by.machine && (is_open b v && x)) (stuck_fill xss b v j)
stuck_on_fill xss b v m j (by ∷ more ∷ others) = refl

pub closed_fill : (xss : List (List Slack)) (settings : Settings) (b : Known) (v : ℕ) → closed settings (fill xss b) v ≡ closed settings b v
closed_fill xss settings b v = ap (λ (volume : VolumeKnown). closed_by volume.frozen (drained_of settings b v)) (volume_fill xss b v)

pub closed_home_fill : (xss : List (List Slack)) (settings : Settings) (b : Known) (pair : Pair) (by : List ClosedBy) → is_closed_home settings (fill xss b) pair by ≡ is_closed_home settings b pair by
closed_home_fill xss settings b pair [] = refl
closed_home_fill xss settings b pair (by ∷ []) = ap (λ (o : Option ℕ). is_at (home_of b pair) by.volume && is_at o by.machine) (closed_fill xss settings b by.volume)
closed_home_fill xss settings b pair (by ∷ more ∷ others) = refl

-- CHANGES

changes_fill : (change : ReplicaKnown → ReplicaKnown) → ((x : Slack) (r : ReplicaKnown) → change (fill_replica x r) ≡ fill_replica x (change r))
    → (xs : List Slack) (replicas : List ReplicaKnown) (j : ℕ)
    → slice_set (fill_replicas xs replicas) j (change (slice_index_or (fill_replicas xs replicas) j empty_replica))
    ≡ fill_replicas xs (slice_set replicas j (change (slice_index_or replicas j empty_replica)))
changes_fill change commutes [] replicas j = refl
changes_fill change commutes (x ∷ xs) [] j = refl
changes_fill change commutes (x ∷ xs) (r ∷ replicas) zero = ap (λ (s : ReplicaKnown). s ∷ fill_replicas xs replicas) (commutes x r)
changes_fill change commutes (x ∷ xs) (r ∷ replicas) (suc j) = ap (λ (rs : List ReplicaKnown). fill_replica x r ∷ rs) (changes_fill change commutes xs replicas j)

-- a change of a replica that goes with filling
pub change_replica_fill : (xss : List (List Slack)) (b : Known) (v j : ℕ) (change : ReplicaKnown → ReplicaKnown)
    → ((x : Slack) (r : ReplicaKnown) → change (fill_replica x r) ≡ fill_replica x (change r))
    → change_replica (fill xss b) v j change ≡ fill xss (change_replica b v j change)
change_replica_fill xss b v j change commutes =
    change_fill xss b v (λ volume. record volume { replicas = slice_set volume.replicas j (change (replica_at volume j)) })
    (λ xs volume. ap (λ (rs : List ReplicaKnown). record volume { replicas = rs }) (changes_fill change commutes xs volume.replicas j))

no_runs_fill : (xs : List Slack) (replicas : List ReplicaKnown) → map without_run (fill_replicas xs replicas) ≡ fill_replicas xs (map without_run replicas)
no_runs_fill [] replicas = refl
no_runs_fill (x ∷ xs) [] = refl
no_runs_fill (x ∷ xs) (r ∷ replicas) = ap (λ (rs : List ReplicaKnown). fill_replica x (without_run r) ∷ rs) (no_runs_fill xs replicas)

pub freeze_fill : (xs : List Slack) (m : ℕ) (volume : VolumeKnown) → frozen_by m (fill_volume xs volume) ≡ fill_volume xs (frozen_by m volume)
freeze_fill xs m volume = ap (λ (rs : List ReplicaKnown). record volume { frozen = Some m; replicas = rs }) (no_runs_fill xs volume.replicas)

pub freeze_with_fill : (xs : List Slack) (m : ℕ) (tag : CoreTag) (change : Entry) (failed : Bool) (volume : VolumeKnown)
    → frozen_with m tag change failed (fill_volume xs volume) ≡ fill_volume xs (frozen_with m tag change failed volume)
freeze_with_fill xs m tag change failed volume =
    ap (λ (w : VolumeKnown). record w { pending = Some (record { tag = tag; entry = change; failed = failed }) }) (freeze_fill xs m volume)

-- DELETES

any_pair_fill : (xs : List Slack) (volume : VolumeKnown) (pair : Pair) (replicas : List ReplicaKnown)
    → list_any (has_pair volume pair) (fill_replicas xs replicas) ≡ list_any (has_pair volume pair) replicas
any_pair_fill [] volume pair replicas = refl
any_pair_fill (x ∷ xs) volume pair [] = refl
any_pair_fill (x ∷ xs) volume pair (r ∷ replicas) = ap (λ (b : Bool). has_pair volume pair r || b) (any_pair_fill xs volume pair replicas)

pub stands_fill : (xss : List (List Slack)) (b : Known) (pair : Pair) (v : ℕ) → stands_there (fill xss b) pair v ≡ stands_there b pair v
stands_fill xss b pair v =
    ap (λ (volume : VolumeKnown). list_any (has_pair volume pair) volume.replicas) (volume_fill xss b v)
    ∙ any_pair_fill (slice_index_or xss v []) (volume_at b v) pair (volume_at b v).replicas

pub home_fill : (xss : List (List Slack)) (settings : Settings) (b : Known) (pair : Pair) (v d : ℕ) → is_home settings (fill xss b) pair v d ≡ is_home settings b pair v d
home_fill xss settings b pair v d = ap (λ (o : Option ℕ). is_at (home_of b pair) v && (is_none o && (d == length b.directory.rows))) (closed_fill xss settings b v)

endings_of_fill : (xs : List Slack) (settings : Settings) (b : Known) (v j : ℕ) (replicas : List ReplicaKnown)
    → endings settings b v j (fill_replicas xs replicas) ≡ endings settings b v j replicas
endings_of_fill [] settings b v j replicas = refl
endings_of_fill (x ∷ xs) settings b v j [] = refl
endings_of_fill (x ∷ xs) settings b v j (r ∷ replicas) =
    ap (λ (ends : List (List Bool)). map (λ ended. false ∷ ended) ends
    ++ cond (is_some (option_map (fill_run x.cells) r.run) && nat_lt (slot_of settings v j) (length b.faults)) (map (λ ended. true ∷ ended) ends) []) (endings_of_fill xs settings b v (j + 1) replicas)
    ∙ ap (λ (is : Bool). map (λ ended. false ∷ ended) (endings settings b v (j + 1) replicas)
    ++ cond (is && nat_lt (slot_of settings v j) (length b.faults)) (map (λ ended. true ∷ ended) (endings settings b v (j + 1) replicas)) []) (is_some_run x.cells r.run)

pub endings_fill : (xss : List (List Slack)) (settings : Settings) (b : Known) (v : ℕ)
    → endings settings (fill xss b) v 0 (volume_at (fill xss b) v).replicas ≡ endings settings b v 0 (volume_at b v).replicas
endings_fill xss settings b v =
    same_counts (volume_at (fill xss b) v).replicas 0
    ∙ ap (λ (volume : VolumeKnown). endings settings b v 0 volume.replicas) (volume_fill xss b v)
    ∙ endings_of_fill (slice_index_or xss v []) settings b v 0 (volume_at b v).replicas
  where
    same_counts : (replicas : List ReplicaKnown) (j : ℕ) → endings settings (fill xss b) v j replicas ≡ endings settings b v j replicas
    same_counts [] j = refl
    same_counts (r ∷ replicas) j =
        ap (λ (ends : List (List Bool)). map (λ ended. false ∷ ended) ends
        ++ cond (is_some r.run && nat_lt (slot_of settings v j) (length b.faults)) (map (λ ended. true ∷ ended) ends) []) (same_counts replicas (j + 1))

ended_fill : (xs : List Slack) (ended : List Bool) (replicas : List ReplicaKnown) → ended_where ended (fill_replicas xs replicas) ≡ fill_replicas xs (ended_where ended replicas)
ended_fill [] ended replicas = refl
ended_fill (x ∷ xs) [] [] = refl
ended_fill (x ∷ xs) [] (r ∷ replicas) = refl
ended_fill (x ∷ xs) (true ∷ ended) [] = refl
ended_fill (x ∷ xs) (false ∷ ended) [] = refl
ended_fill (x ∷ xs) (true ∷ ended) (r ∷ replicas) = ap (λ (rs : List ReplicaKnown). fill_replica x (without_run r) ∷ rs) (ended_fill xs ended replicas)
ended_fill (x ∷ xs) (false ∷ ended) (r ∷ replicas) = ap (λ (rs : List ReplicaKnown). fill_replica x r ∷ rs) (ended_fill xs ended replicas)

raise_ended_fill : (xss : List (List Slack)) (settings : Settings) (b : Known) (v j : ℕ) (ended : List Bool) (c : Known)
    → raise_ended settings (fill xss b) v j ended (fill xss c) ≡ fill xss (raise_ended settings b v j ended c)
raise_ended_fill xss settings b v j [] c = refl
raise_ended_fill xss settings b v j (false ∷ ended) c = raise_ended_fill xss settings b v (j + 1) ended c
raise_ended_fill xss settings b v j (true ∷ ended) c = ap (λ (k : Known). raise_disk (fill xss b) (slot_of settings v j) k) (raise_ended_fill xss settings b v (j + 1) ended c)

deleted_fill : (xss : List (List Slack)) (settings : Settings) (b : Known) (tag : CoreTag) (pair : Pair) (v : ℕ) (ended : List Bool)
    → deleted settings (fill xss b) tag pair v ended ≡ fill xss (deleted settings b tag pair v ended)
deleted_fill xss settings b tag pair v ended =
    ap (λ (k : Known). raise_ended settings (fill xss b) v 0 ended k)
    (change_fill xss b v (with_del ended tag pair)
    (λ xs volume. ap (λ (rs : List ReplicaKnown). record (with_del ended tag pair volume) { replicas = rs }) (ended_fill xs ended volume.replicas)))
    ∙ raise_ended_fill xss settings b v 0 ended (change_volume b v (with_del ended tag pair))

pub all_deleted_fill : (xss : List (List Slack)) (settings : Settings) (b : Known) (tag : CoreTag) (pair : Pair) (v : ℕ) (ends : List (List Bool))
    → map (deleted settings (fill xss b) tag pair v) ends ≡ map (fill xss) (map (deleted settings b tag pair v) ends)
all_deleted_fill xss settings b tag pair v [] = refl
all_deleted_fill xss settings b tag pair v (ended ∷ ends) =
    ap (λ (k : Known). k ∷ map (deleted settings (fill xss b) tag pair v) ends) (deleted_fill xss settings b tag pair v ended)
    ∙ ap (λ (ks : List Known). fill xss (deleted settings b tag pair v ended) ∷ ks) (all_deleted_fill xss settings b tag pair v ends)
