-- A step that does not look at unknown sizes goes over boxes.
use Rattle.std.proofs.Common.{◌≡◌, ℕ, zero, suc, ◌+◌, Bool, true, false, List, [], ◌∷◌, ◌++◌, length, Option, Some, None, refl, sym, ap, subst, ◌∙◌, inl, inr, arith}
use Rattle.std.specs.Prelude.{cond, ◌&&◌, ◌==◌, map, nat_lt, is_none, slice_index_or, slice_set, option_map}
use Rattle.std.specs.List.{AllByRecursion as Each}
use Rattle.hay_needle.specs.declared.settings.Settings.{Settings}
use Rattle.hay_needle.specs.declared.needle.Pair.{Pair}
use Rattle.hay_needle.specs.declared.needle.Cookie.{Cookie}
use Rattle.hay_needle.specs.declared.needle.Outcome.{Outcome}
use Rattle.hay_needle.specs.Tables.{Table, outcome_at}
use Rattle.hay_core.specs.declared.entry.CoreTag.{CoreTag}
use Rattle.hay_core.specs.declared.entry.Logged.{Logged}
use Rattle.hay_core.specs.Entries.{after, entries_of}
use Rattle.hay_reply.specs.declared.Cause.{Cause}
use Rattle.hay_reply.specs.declared.Cause.TheVariants as cause
use Rattle.hay_reply.specs.declared.Passed.{Passed}
use Rattle.hay_reply.specs.declared.Reply.{Reply}
use Rattle.hay_reply.specs.declared.Reply.TheVariants as reply
use Rattle.hay_legal.specs.declared.known.Run.{Run}
use Rattle.hay_legal.specs.declared.known.ReplicaKnown.{ReplicaKnown}
use Rattle.hay_legal.specs.declared.known.VolumeKnown.{VolumeKnown}
use Rattle.hay_legal.specs.declared.known.Known.{Known}
use Rattle.hay_legal.specs.Known.{volume_at, replica_at, empty_volume, empty_replica, now, home_of, replica_on, machine_of, with_home, settled}
use Rattle.hay_legal.specs.Plain.{order_from, change_volume, with_put, logged, grown, run_grown}
use Rattle.hay_needle.specs.Sizes.{needle_total}
use Rattle.hay_core.specs.declared.entry.Entry.TheVariants as entry
use Rattle.hay_url.specs.Url.{cookie_of}
use Rattle.hay_audit_steps.specs.BoxLaw.{StoredPutsStepBoxes}
use Rattle.hay_audit_steps.specs.BoxNext.{stored_if}
use Rattle.hay_audit_steps.specs.CheckerSteps.{Below, AnyOf, IsStep}
use Rattle.hay_audit_steps.specs.Laid.{laid, laid_once, on_disk, on_arm, raise_disk, raise_arm}
use Rattle.hay_audit_steps.specs.Next.{is_at, is_seen, shows_photo, shows_nothing, shows_other, slots_before, shown_by, keep_if, next_show, may_pass, may_cause, all_caused}
use Rattle.hay_audit_steps.specs.Next.{caused, arms_rise, stored, next_put, is_dir_open, cookie_eq}
use Rattle.hay_audit_steps.specs.Slacks.{Slack, fill_replica, fill_run}
use Rattle.hay_audit_steps.specs.Boxes.{ranged, Between, Box, Has, IsBoxStep, fill, fill_replicas, fill_volume, fill_volumes}
use Rattle.hay_audit_steps.proofs.Puts.{put_row, put_step}

-- LIFTING

lift_sound : (row : Known → Known → Type 0) (box : Box) (cs : List Known)
    → ((xss : List (List Slack)) → Between box.low xss box.high → Each (row (fill xss box.base)) (map (fill xss) cs))
    → Each (λ d. (t : Known) → Has d t → (k : Known) × Has box k × row k t) (map (ranged box) cs)
lift_sound row box [] h = tt
lift_sound row box (c ∷ cs) h = (
  (λ t has. (fill has.0 box.base, (has.0, has.1, refl), subst (λ (k : Known). row (fill has.0 box.base) k) (sym has.2) (h has.0 has.1).0)),
  lift_sound row box cs (λ xss within. (h xss within).1),
)

lift_any : (xss : List (List Slack)) (box : Box) (t : Known) (cs : List Known) → Between box.low xss box.high
    → AnyOf (λ e. Below e t) (map (fill xss) cs) → AnyOf (λ d. (e : Known) × Has d e × Below e t) (map (ranged box) cs)
lift_any xss box t [] within h = h
lift_any xss box t (c ∷ cs) within h = elim h [
  | inl here ↦ inl (fill xss c, (xss, within, refl), here)
  | inr there ↦ inr (lift_any xss box t cs within there)
]

-- a step whose states are filled as the state was
pub lifted_to : (row : Known → Known → Type 0) (step : Known → List Known) (box : Box) (cs : List Known)
    → ((k : Known) → IsStep row k (step k))
    → ((xss : List (List Slack)) → Between box.low xss box.high → step (fill xss box.base) ≡ map (fill xss) cs)
    → IsBoxStep row box (map (ranged box) cs)
lifted_to row step box cs exact commutes = record {
  sound = lift_sound row box cs
      (λ xss within. subst (λ (ds : List Known). Each (row (fill xss box.base)) ds) (commutes xss within) (exact (fill xss box.base)).sound);
  complete = λ k faults arms fuses t has f a r.
      lift_any has.0 box t cs has.1
      (subst (λ (ds : List Known). AnyOf (λ e. Below e t) ds) (commutes has.0 has.1)
      (subst (λ (x : Known). AnyOf (λ e. Below e t) (step x)) has.2 ((exact k).complete faults arms fuses t f a r)));
}

pub lifted : (row : Known → Known → Type 0) (step : Known → List Known) (box : Box)
    → ((k : Known) → IsStep row k (step k))
    → ((xss : List (List Slack)) → Between box.low xss box.high → step (fill xss box.base) ≡ map (fill xss) (step box.base))
    → IsBoxStep row box (map (ranged box) (step box.base))
lifted row step box exact commutes = lifted_to row step box (step box.base) exact commutes

-- WHAT IS LOOKED AT IN A FILLED STATE

abbrev at : List (List Slack) → ℕ → List Slack
at xss v = slice_index_or xss v []

fill_none : (xs : List Slack) → fill_replicas xs [] ≡ []
fill_none [] = refl
fill_none (x ∷ xs) = refl

volumes_fill : (xss : List (List Slack)) (volumes : List VolumeKnown) (v : ℕ)
    → slice_index_or (fill_volumes xss volumes) v empty_volume ≡ fill_volume (at xss v) (slice_index_or volumes v empty_volume)
volumes_fill [] volumes v = refl
volumes_fill (xs ∷ xss) [] v = ap (λ (rs : List ReplicaKnown). record empty_volume { replicas = rs }) (sym (fill_none (at (xs ∷ xss) v)))
volumes_fill (xs ∷ xss) (volume ∷ volumes) zero = refl
volumes_fill (xs ∷ xss) (volume ∷ volumes) (suc v) = volumes_fill xss volumes v

pub volume_fill : (xss : List (List Slack)) (b : Known) (v : ℕ) → volume_at (fill xss b) v ≡ fill_volume (at xss v) (volume_at b v)
volume_fill xss b v = volumes_fill xss b.volumes v

pub log_fill : (xss : List (List Slack)) (b : Known) (v : ℕ) → (volume_at (fill xss b) v).log ≡ (volume_at b v).log
log_fill xss b v = ap (λ (volume : VolumeKnown). volume.log) (volume_fill xss b v)

bases_fill : (xs : List Slack) (replicas : List ReplicaKnown) (j : ℕ)
    → (slice_index_or (fill_replicas xs replicas) j empty_replica).base ≡ (slice_index_or replicas j empty_replica).base
bases_fill [] replicas j = refl
bases_fill (x ∷ xs) [] j = refl
bases_fill (x ∷ xs) (replica ∷ replicas) zero = refl
bases_fill (x ∷ xs) (replica ∷ replicas) (suc j) = bases_fill xs replicas j

pub base_fill : (xss : List (List Slack)) (b : Known) (v j : ℕ) → (replica_at (volume_at (fill xss b) v) j).base ≡ (replica_at (volume_at b v) j).base
base_fill xss b v j =
    ap (λ (volume : VolumeKnown). (replica_at volume j).base) (volume_fill xss b v) ∙ bases_fill (at xss v) (volume_at b v).replicas j

abbrev table_of : List Logged → Table → Table
table_of log base = after (entries_of log) (length log) base

pub now_fill : (xss : List (List Slack)) (b : Known) (v j : ℕ)
    → now (volume_at (fill xss b) v) (replica_at (volume_at (fill xss b) v) j) ≡ now (volume_at b v) (replica_at (volume_at b v) j)
now_fill xss b v j =
    ap (λ (log : List Logged). table_of log (replica_at (volume_at (fill xss b) v) j).base) (log_fill xss b v)
    ∙ ap (λ (base : Table). table_of (volume_at b v).log base) (base_fill xss b v j)

sets_fill : (xss : List (List Slack)) (volumes : List VolumeKnown) (v : ℕ) (volume : VolumeKnown)
    → slice_set (fill_volumes xss volumes) v (fill_volume (at xss v) volume) ≡ fill_volumes xss (slice_set volumes v volume)
sets_fill [] volumes v volume = refl
sets_fill (xs ∷ xss) [] v volume = refl
sets_fill (xs ∷ xss) (w ∷ volumes) zero volume = refl
sets_fill (xs ∷ xss) (w ∷ volumes) (suc v) volume = ap (λ (vs : List VolumeKnown). fill_volume xs w ∷ vs) (sets_fill xss volumes v volume)

-- a change of a volume that goes with filling
pub change_fill : (xss : List (List Slack)) (b : Known) (v : ℕ) (change : VolumeKnown → VolumeKnown)
    → ((xs : List Slack) (volume : VolumeKnown) → change (fill_volume xs volume) ≡ fill_volume xs (change volume))
    → change_volume (fill xss b) v change ≡ fill xss (change_volume b v change)
change_fill xss b v change commutes =
    ap (λ (volume : VolumeKnown). record (fill xss b) { volumes = slice_set (fill_volumes xss b.volumes) v volume })
    (ap change (volume_fill xss b v) ∙ commutes (at xss v) (volume_at b v))
    ∙ ap (λ (volumes : List VolumeKnown). record b { volumes = volumes }) (sets_fill xss b.volumes v (change (volume_at b v)))

-- READERS

pub kept_fill : (xss : List (List Slack)) (test : Bool) (cs : List Known) → cond test (map (fill xss) cs) [] ≡ map (fill xss) (cond test cs [])
kept_fill xss true cs = refl
kept_fill xss false cs = refl

map_on : (f : Known → Known) (xs ys : List Known) → map f (xs ++ ys) ≡ map f xs ++ map f ys
map_on f [] ys = refl
map_on f (x ∷ xs) ys = ap (λ (zs : List Known). f x ∷ zs) (map_on f xs ys)

laid_once_fill : (xss : List (List Slack)) (b : Known) (lane slot : ℕ) (cs : List Known)
    → laid_once (fill xss b) lane slot (map (fill xss) cs) ≡ map (fill xss) (laid_once b lane slot cs)
laid_once_fill xss b lane slot [] = refl
laid_once_fill xss b lane slot (c ∷ cs) =
    let disk : on_disk (fill xss b) slot (fill xss c) ≡ map (fill xss) (on_disk b slot c) = kept_fill xss (nat_lt slot (length c.faults)) (raise_disk b slot c ∷ []) in
    let arm : on_arm lane (fill xss c) ≡ map (fill xss) (on_arm lane c) = kept_fill xss (nat_lt lane (length c.arms)) (raise_arm lane c ∷ []) in
    ap (λ (xs : List Known). (xs ++ on_arm lane (fill xss c)) ++ laid_once (fill xss b) lane slot (map (fill xss) cs)) disk
    ∙ ap (λ (xs : List Known). (map (fill xss) (on_disk b slot c) ++ xs) ++ laid_once (fill xss b) lane slot (map (fill xss) cs)) arm
    ∙ ap (λ (xs : List Known). (map (fill xss) (on_disk b slot c) ++ map (fill xss) (on_arm lane c)) ++ xs) (laid_once_fill xss b lane slot cs)
    ∙ ap (λ (xs : List Known). xs ++ map (fill xss) (laid_once b lane slot cs)) (sym (map_on (fill xss) (on_disk b slot c) (on_arm lane c)))
    ∙ sym (map_on (fill xss) (on_disk b slot c ++ on_arm lane c) (laid_once b lane slot cs))

laid_fill : (xss : List (List Slack)) (b : Known) (lane : ℕ) (slots : List ℕ) → laid (fill xss b) lane slots ≡ map (fill xss) (laid b lane slots)
laid_fill xss b lane [] = refl
laid_fill xss b lane (slot ∷ slots) =
    ap (λ (cs : List Known). laid_once (fill xss b) lane slot cs) (laid_fill xss b lane slots) ∙ laid_once_fill xss b lane slot (laid b lane slots)

seen_fill : (xss : List (List Slack)) (b : Known) (pair : Pair) (v p d : ℕ) → is_seen (fill xss b) pair v p d ≡ is_seen b pair v p d
seen_fill xss b pair v p d = ap (λ (log : List Logged). is_at (home_of b pair) v && ((p == length log) && (d == length b.directory.rows))) (log_fill xss b v)

shown_fill : (xss : List (List Slack)) (settings : Settings) (b : Known) (tag : CoreTag) (start : ℕ) (pair : Pair) (v p d : ℕ) (shows : Outcome → Bool) (on : Option ℕ)
    → shown_by settings (fill xss b) tag start pair v p d shows on ≡ map (fill xss) (shown_by settings b tag start pair v p d shows on)
shown_fill xss settings b tag start pair v p d shows None = refl
shown_fill xss settings b tag start pair v p d shows (Some j) =
    ap (λ (seen : Bool). cond (seen && shows (outcome_at (now (volume_at (fill xss b) v) (replica_at (volume_at (fill xss b) v) j)) pair))
    (laid (fill xss b) tag.lane (slots_before settings v start j)) []) (seen_fill xss b pair v p d)
    ∙ ap (λ (table : Table). cond (is_seen b pair v p d && shows (outcome_at table pair)) (laid (fill xss b) tag.lane (slots_before settings v start j)) []) (now_fill xss b v j)
    ∙ ap (λ (cs : List Known). cond (is_seen b pair v p d && shows (outcome_at (now (volume_at b v) (replica_at (volume_at b v) j)) pair)) cs [])
    (laid_fill xss b tag.lane (slots_before settings v start j))
    ∙ kept_fill xss (is_seen b pair v p d && shows (outcome_at (now (volume_at b v) (replica_at (volume_at b v) j)) pair)) (laid b tag.lane (slots_before settings v start j))

caused_fill : (xss : List (List Slack)) (settings : Settings) (lane v j : ℕ) (why : Cause) (c : Known) → caused settings lane v j why (fill xss c) ≡ fill xss (caused settings lane v j why c)
caused_fill xss settings lane v j (cause.Arm f) c = refl
caused_fill xss settings lane v j (cause.Disk f) c = refl
caused_fill xss settings lane v j (cause.Damage f) c = refl

all_caused_fill : (xss : List (List Slack)) (settings : Settings) (lane v : ℕ) (order : List ℕ) (causes : List Passed) (c : Known)
    → all_caused settings lane v order causes (fill xss c) ≡ fill xss (all_caused settings lane v order causes c)
all_caused_fill xss settings lane v [] [] c = refl
all_caused_fill xss settings lane v [] (passed ∷ causes) c = refl
all_caused_fill xss settings lane v (j ∷ order) [] c = refl
all_caused_fill xss settings lane v (j ∷ order) (passed ∷ causes) c =
    ap (λ (k : Known). caused settings lane v j passed.cause k) (all_caused_fill xss settings lane v order causes c)
    ∙ caused_fill xss settings lane v j passed.cause (all_caused settings lane v order causes c)

may_cause_fill : (xss : List (List Slack)) (settings : Settings) (b : Known) (lane v j : ℕ) (why : Cause) → may_cause settings (fill xss b) lane v j why ≡ may_cause settings b lane v j why
may_cause_fill xss settings b lane v j (cause.Arm f) = refl
may_cause_fill xss settings b lane v j (cause.Disk f) = refl
may_cause_fill xss settings b lane v j (cause.Damage f) = refl

may_pass_fill : (xss : List (List Slack)) (settings : Settings) (b : Known) (lane v : ℕ) (order : List ℕ) (causes : List Passed)
    → may_pass settings (fill xss b) lane v order causes ≡ may_pass settings b lane v order causes
may_pass_fill xss settings b lane v [] [] = refl
may_pass_fill xss settings b lane v [] (passed ∷ causes) = refl
may_pass_fill xss settings b lane v (j ∷ order) [] = refl
may_pass_fill xss settings b lane v (j ∷ order) (passed ∷ causes) =
    ap (λ (may : Bool). (passed.machine == machine_of settings v j) && (may && may_pass settings (fill xss b) lane v order causes)) (may_cause_fill xss settings b lane v j passed.cause)
    ∙ ap (λ (may : Bool). (passed.machine == machine_of settings v j) && (may_cause settings b lane v j passed.cause && may)) (may_pass_fill xss settings b lane v order causes)

pub show_fill : (xss : List (List Slack)) (settings : Settings) (b : Known) (tag : CoreTag) (start : ℕ) (pair : Pair) (cookie : Cookie) (r : Reply)
    → next_show settings (fill xss b) tag start pair cookie r ≡ map (fill xss) (next_show settings b tag start pair cookie r)
show_fill xss settings b tag start pair cookie (reply.Photo v m p d bytes) = shown_fill xss settings b tag start pair v p d (shows_photo cookie bytes) (replica_on settings v m)
show_fill xss settings b tag start pair cookie (reply.Gone v m p d) = shown_fill xss settings b tag start pair v p d shows_nothing (replica_on settings v m)
show_fill xss settings b tag start pair cookie (reply.WrongCookie v m p d) = shown_fill xss settings b tag start pair v p d (shows_other cookie) (replica_on settings v m)
show_fill xss settings b tag start pair cookie (reply.Unreadable v p d causes) =
    ap (λ (seen : Bool). cond (seen && (may_pass settings (fill xss b) tag.lane v (order_from settings start) causes && arms_rise causes))
    (all_caused settings tag.lane v (order_from settings start) causes (fill xss b) ∷ []) []) (seen_fill xss b pair v p d)
    ∙ ap (λ (may : Bool). cond (is_seen b pair v p d && (may && arms_rise causes)) (all_caused settings tag.lane v (order_from settings start) causes (fill xss b) ∷ []) [])
    (may_pass_fill xss settings b tag.lane v (order_from settings start) causes)
    ∙ ap (λ (c : Known). cond (is_seen b pair v p d && (may_pass settings b tag.lane v (order_from settings start) causes && arms_rise causes)) (c ∷ []) [])
    (all_caused_fill xss settings tag.lane v (order_from settings start) causes b)
    ∙ kept_fill xss (is_seen b pair v p d && (may_pass settings b tag.lane v (order_from settings start) causes && arms_rise causes))
    (all_caused settings tag.lane v (order_from settings start) causes b ∷ [])
show_fill xss settings b tag start pair cookie (reply.Unknown d) = kept_fill xss (is_none (home_of b pair) && (d == length b.directory.rows)) (b ∷ [])
show_fill xss settings b tag start pair cookie r = refl

-- PUTS

pub same_replica : (r : ReplicaKnown) (e e' c c' b b' : ℕ) (run run' : Option Run) → e ≡ e' → c ≡ c' → b ≡ b' → run ≡ run'
    → record r { end = e; cells = c; bare = b; run = run } ≡ record r { end = e'; cells = c'; bare = b'; run = run' }
same_replica r e e' c c' b b' run run' p q s t = simp (p, q, s, t)

run_grown_fill : (n : ℕ) (run : Option Run) → option_map run_grown (option_map (fill_run n) run) ≡ option_map (fill_run n) (option_map run_grown run)
run_grown_fill n None = refl
run_grown_fill n (Some run) = ap (λ (left : ℕ). Some (record run { left = left })) (omega arith)

grown_fill : (size : ℕ) (x : Slack) (r : ReplicaKnown) → grown size (fill_replica x r) ≡ fill_replica x (grown size r)
grown_fill size x r =
    same_replica r (r.end + x.end + needle_total size) (r.end + needle_total size + x.end) (r.cells + x.cells + 1) (r.cells + 1 + x.cells) (r.bare + x.bare + 1) (r.bare + 1 + x.bare)
    (option_map run_grown (option_map (fill_run x.cells) r.run)) (option_map (fill_run x.cells) (option_map run_grown r.run))
    (omega arith) (omega arith) (omega arith) (run_grown_fill x.cells r.run)

all_grown_fill : (size : ℕ) (xs : List Slack) (rs : List ReplicaKnown) → map (grown size) (fill_replicas xs rs) ≡ fill_replicas xs (map (grown size) rs)
all_grown_fill size [] rs = refl
all_grown_fill size (x ∷ xs) [] = refl
all_grown_fill size (x ∷ xs) (r ∷ rs) =
    ap (λ (s : ReplicaKnown). s ∷ map (grown size) (fill_replicas xs rs)) (grown_fill size x r)
    ∙ ap (λ (ss : List ReplicaKnown). fill_replica x (grown size r) ∷ ss) (all_grown_fill size xs rs)

pub stored_fill : (xss : List (List Slack)) (b : Known) (tag : CoreTag) (pair : Pair) (bytes : List ℕ) (v : ℕ) (c : Cookie)
    → stored (fill xss b) tag pair bytes v c ≡ fill xss (stored b tag pair bytes v c)
stored_fill xss b tag pair bytes v c =
    ap (λ (k : Known). with_home k pair v)
    (change_fill xss b v (λ volume. with_put volume tag pair c bytes)
    (λ xs volume. ap (λ (rs : List ReplicaKnown). record (logged volume tag (entry.Put pair c bytes)) { replicas = rs }) (all_grown_fill (length bytes) xs volume.replicas)))

pub stored_box_step : StoredPutsStepBoxes
stored_box_step settings box line pair bytes v p d c taker decided =
    lifted_to (put_row settings (record { lane = 0; line = line }) pair bytes (reply.Stored v p d c))
    (λ k. next_put settings k (record { lane = 0; line = line }) pair bytes (reply.Stored v p d c)) box (stored_if settings box.base (record { lane = 0; line = line }) pair bytes v p d c taker)
    (λ k. put_step settings k (record { lane = 0; line = line }) pair bytes (reply.Stored v p d c) (λ lie. cc))
    (λ xss within.
    ap (λ (o : Option ℕ). stored_if settings (fill xss box.base) (record { lane = 0; line = line }) pair bytes v p d c o) (decided xss within)
    ∙ ap (λ (log : List Logged). keep_if (is_at taker v && (is_dir_open box.base pair && (cookie_eq c (cookie_of settings.secret pair.key)
    && ((p == length log + 1) && (d == length (settled box.base.directory.rows pair v)))))) (stored (fill xss box.base) (record { lane = 0; line = line }) pair bytes v c)) (log_fill xss box.base v)
    ∙ ap (λ (k : Known). keep_if (is_at taker v && (is_dir_open box.base pair && (cookie_eq c (cookie_of settings.secret pair.key)
    && ((p == length (volume_at box.base v).log + 1) && (d == length (settled box.base.directory.rows pair v)))))) k) (stored_fill xss box.base (record { lane = 0; line = line }) pair bytes v c)
    ∙ kept_fill xss _ (stored box.base (record { lane = 0; line = line }) pair bytes v c ∷ []))
