-- The states behind a plain line, of which no other has lower counts.
use Rattle.std.specs.Prelude.{ℕ, ◌+◌, ◌-◌, ◌^◌, ◌==◌, ◌&&◌, ◌||◌, not, nat_lt, min, max, Bool, true, false, List, [], ◌∷◌, ◌++◌, length, map, take_while, slice_set, Option, Some}
use Rattle.std.specs.Prelude.{None, is_none, is_some, if◌then◌else◌}
use Rattle.std.specs.List.{list_any}
use Rattle.std.specs.Str.{bytes_eq}
use Rattle.hay_needle.specs.declared.needle.Pair.{Pair}
use Rattle.hay_needle.specs.declared.needle.Cookie.{Cookie}
use Rattle.hay_needle.specs.declared.needle.Outcome.{Outcome}
use Rattle.hay_needle.specs.declared.needle.Outcome.TheVariants as outcome
use Rattle.hay_needle.specs.declared.settings.Settings.{Settings}
use Rattle.hay_needle.specs.Tables.{outcome_at, pair_eq, live_end}
use Rattle.hay_needle.specs.declared.settings.TheConstants.{LAST_GENERATION}
use Rattle.hay_url.specs.declared.Url.{Url as UrlParts}
use Rattle.hay_url.specs.Url.{cookie_of}
use Rattle.hay_core.specs.declared.entry.CoreTag.{CoreTag}
use Rattle.hay_core.specs.declared.entry.Entry.TheVariants as entry
use Rattle.hay_reply.specs.declared.Refused.{Refused}
use Rattle.hay_reply.specs.declared.Refused.TheVariants.{NoRoom, Closed}
use Rattle.hay_reply.specs.declared.ClosedBy.{ClosedBy}
use Rattle.hay_reply.specs.declared.Cause.{Cause}
use Rattle.hay_reply.specs.declared.Cause.TheVariants.{Arm, Disk, Damage}
use Rattle.hay_reply.specs.declared.Passed.{Passed}
use Rattle.hay_reply.specs.declared.Reply.{Reply}
use Rattle.hay_reply.specs.declared.Reply.TheVariants.{Stored, Deleted, Photo, Gone, Absent, WrongCookie, Unknown, Moved, Url, Full, ReadOnly, ReadOnlyDir, Failed, FailedDir}
use Rattle.hay_reply.specs.declared.Reply.TheVariants.{Unreadable, Flushed, Begun, Stepped, Compacted, Busy, Idle, Worn, Drained, Undrained, Fused, FusedDir, Nowhere, BadLine}
use Rattle.hay_legal.specs.declared.known.Known.{Known}
use Rattle.hay_legal.specs.declared.known.ReplicaKnown.{ReplicaKnown}
use Rattle.hay_legal.specs.Known.{volume_at, replica_at, machine_of, slot_of, replica_on, home_of, settled, tries_of, with_home, now, closed, refusal_of, taker_of, has_risen}
use Rattle.hay_legal.specs.Known.{fault_count, arm_count, fuse_count}
use Rattle.hay_legal.specs.Plain.{change_volume, change_replica, with_put, put_frozen, row_pending, as_closed, wants_room, order_from, start_of, has_pair, frozen_with, with_del}
use Rattle.hay_legal.specs.Plain.{replica_of, with_bare, with_stuck, with_run, stepped, without_run, swapped, poised_by, as_it_is, with_drain, with_fuses}
use Rattle.hay_legal.specs.declared.known.Run.{Run}
use Rattle.hay_legal.specs.declared.turn.Item.{Item}
use Rattle.hay_legal.specs.declared.turn.Item.TheVariants as item
use Rattle.hay_script.specs.declared.Command.{Command}
use Rattle.hay_script.specs.declared.Command.TheVariants as command
use Rattle.hay_audit_steps.specs.Laid.{laid, raise_disk}

-- TESTS

-- this number, and no other
abbrev pub is_at : Option ℕ → ℕ → Bool
is_at None n = false
is_at (Some m) n = m == n

abbrev pub cookie_eq : Cookie → Cookie → Bool
cookie_eq a b = a.0 == b.0

abbrev pub same_refused : Refused → Refused → Bool
same_refused (NoRoom v m end need) (NoRoom v' m' end' need') = (v == v') && ((m == m') && ((end == end') && (need == need')))
same_refused (Closed v m) (Closed v' m') = (v == v') && (m == m')
same_refused _ _ = false

-- each try refuses, and so
abbrev pub refuse_so : List (Option Refused) → List Refused → Bool
refuse_so [] [] = true
refuse_so (Some a ∷ tries) (b ∷ refused) = same_refused a b && refuse_so tries refused
refuse_so _ _ = false

abbrev pub shows_photo : Cookie → List ℕ → Outcome → Bool
shows_photo cookie bytes outcome.Nothing = false
shows_photo cookie bytes (outcome.Photo photo) = cookie_eq photo.cookie cookie && bytes_eq photo.bytes bytes

abbrev pub shows_nothing : Outcome → Bool
shows_nothing outcome.Nothing = true
shows_nothing (outcome.Photo photo) = false

abbrev pub shows_other : Cookie → Outcome → Bool
shows_other cookie outcome.Nothing = false
shows_other cookie (outcome.Photo photo) = not (cookie_eq photo.cookie cookie)

-- a row is written, or none is missing
abbrev pub is_dir_open : Known → Pair → Bool
is_dir_open b pair = is_some (home_of b pair) || not b.directory.frozen

-- READ AND GET

abbrev pub is_seen : Known → Pair → ℕ → ℕ → ℕ → Bool
is_seen b pair v p d = is_at (home_of b pair) v && ((p == length (volume_at b v).log) && (d == length b.directory.rows))

abbrev pub slots_before : Settings → ℕ → ℕ → ℕ → List ℕ
slots_before settings v start j = map (slot_of settings v) (take_while (λ i. not (i == j)) (order_from settings start))

abbrev pub shown_by : Settings → Known → CoreTag → ℕ → Pair → ℕ → ℕ → ℕ → (Outcome → Bool) → Option ℕ → List Known
shown_by settings b tag start pair v p d shows None = []
shown_by settings b tag start pair v p d shows (Some j) =
    if is_seen b pair v p d && shows (outcome_at (now (volume_at b v) (replica_at (volume_at b v) j)) pair)
    then laid b tag.lane (slots_before settings v start j)
    else []

abbrev pub next_shown : Settings → Known → CoreTag → ℕ → Pair → ℕ → ℕ → ℕ → ℕ → (Outcome → Bool) → List Known
next_shown settings b tag start pair v m p d shows = shown_by settings b tag start pair v p d shows (replica_on settings v m)

-- PUT

abbrev pub stored : Known → CoreTag → Pair → List ℕ → ℕ → Cookie → Known
stored b tag pair bytes v c = with_home (change_volume b v (λ volume. with_put volume tag pair c bytes)) pair v

abbrev pub keep_if : Bool → Known → List Known
keep_if test e = if test then e ∷ [] else []

-- a pair that has no home
abbrev pub next_unknown : Known → Pair → ℕ → List Known
next_unknown b pair d = keep_if (is_none (home_of b pair) && (d == length b.directory.rows)) b

abbrev pub with_fault : Known → ℕ → ℕ → Known
with_fault k slot f = record k { faults = slice_set k.faults slot f }

abbrev pub is_least : ℕ → ℕ → Bool
is_least n f = nat_lt n (f + 1)

-- the count of a disk rose to f
abbrev pub rises_to : Known → ℕ → ℕ → Bool
rises_to b slot f = nat_lt slot (length b.faults) && (is_least (fault_count b slot) f && has_risen (fault_count b slot) f)

abbrev pub put_failed_by : Settings → Known → CoreTag → Pair → List ℕ → ℕ → ℕ → ℕ → Option ℕ → List Known
put_failed_by settings b tag pair bytes v m f None = []
put_failed_by settings b tag pair bytes v m f (Some j) =
    keep_if (is_at (taker_of settings b pair (length bytes)) v && (is_dir_open b pair && rises_to b (slot_of settings v j) f))
    (with_fault (put_frozen settings b tag pair bytes v m true) (slot_of settings v j) f)

abbrev pub row_failed_by : Known → CoreTag → Pair → ℕ → Option ℕ → List Known
row_failed_by b tag pair f None = []
row_failed_by b tag pair f (Some v) =
    keep_if (is_none (home_of b pair) && (not b.directory.frozen && rises_to b 0 f)) (with_fault (row_pending b tag pair v) 0 f)

abbrev pub next_put : Settings → Known → CoreTag → Pair → List ℕ → Reply → List Known
next_put settings b tag pair bytes (Stored v p d c) =
    keep_if (is_at (taker_of settings b pair (length bytes)) v && (is_dir_open b pair && (cookie_eq c (cookie_of settings.secret pair.key)
    && ((p == length (volume_at b v).log + 1) && (d == length (settled b.directory.rows pair v))))))
    (stored b tag pair bytes v c)
next_put settings b tag pair bytes (Full refused) =
    keep_if (refuse_so (map (refusal_of settings b (length bytes)) (tries_of settings b pair)) refused && list_any wants_room refused) b
next_put settings b tag pair bytes (ReadOnly closed) =
    keep_if (refuse_so (map (refusal_of settings b (length bytes)) (tries_of settings b pair)) (map as_closed closed)) b
next_put settings b tag pair bytes ReadOnlyDir =
    keep_if (is_none (home_of b pair) && (is_some (taker_of settings b pair (length bytes)) && b.directory.frozen)) b
next_put settings b tag pair bytes (Failed v m f) = put_failed_by settings b tag pair bytes v m f (replica_on settings v m)
next_put settings b tag pair bytes (FailedDir f) = row_failed_by b tag pair f (taker_of settings b pair (length bytes))
next_put settings b tag pair bytes _ = []

-- EVERY REPLICA PASSED OVER, EACH WITH ITS CAUSE

-- the lowest counts behind a cause whose count was printed
abbrev pub caused : Settings → ℕ → ℕ → ℕ → Cause → Known → Known
caused settings lane v j (Arm f) c = record c { arms = slice_set c.arms lane (max (arm_count c lane) f) }
caused settings lane v j (Disk f) c = record c { faults = slice_set c.faults (slot_of settings v j) (max (fault_count c (slot_of settings v j)) f) }
caused settings lane v j (Damage at) c = c

abbrev pub may_cause : Settings → Known → ℕ → ℕ → ℕ → Cause → Bool
may_cause settings b lane v j (Arm f) = nat_lt lane (length b.arms) && has_risen (arm_count b lane) f
may_cause settings b lane v j (Disk f) = nat_lt (slot_of settings v j) (length b.faults) && has_risen (fault_count b (slot_of settings v j)) f
may_cause settings b lane v j (Damage at) = false

abbrev pub may_pass : Settings → Known → ℕ → ℕ → List ℕ → List Passed → Bool
may_pass settings b lane v [] [] = true
may_pass settings b lane v (j ∷ order) (passed ∷ causes) =
    (passed.machine == machine_of settings v j) && (may_cause settings b lane v j passed.cause && may_pass settings b lane v order causes)
may_pass settings b lane v _ _ = false

abbrev pub all_caused : Settings → ℕ → ℕ → List ℕ → List Passed → Known → Known
all_caused settings lane v (j ∷ order) (passed ∷ causes) c = caused settings lane v j passed.cause (all_caused settings lane v order causes c)
all_caused settings lane v _ _ c = c

abbrev pub arm_rises : Cause → Cause → Bool
arm_rises (Arm f) (Arm g) = nat_lt f g || g == 2 ^ 64 - 1
arm_rises _ _ = true

abbrev pub rises_on : Cause → List Passed → Bool
rises_on cause [] = true
rises_on cause (passed ∷ causes) = arm_rises cause passed.cause && rises_on cause causes

abbrev pub arms_rise : List Passed → Bool
arms_rise [] = true
arms_rise (passed ∷ causes) = rises_on passed.cause causes && arms_rise causes

abbrev pub next_show : Settings → Known → CoreTag → ℕ → Pair → Cookie → Reply → List Known
next_show settings b tag start pair cookie (Photo v m p d bytes) = next_shown settings b tag start pair v m p d (shows_photo cookie bytes)
next_show settings b tag start pair cookie (Gone v m p d) = next_shown settings b tag start pair v m p d shows_nothing
next_show settings b tag start pair cookie (WrongCookie v m p d) = next_shown settings b tag start pair v m p d (shows_other cookie)
next_show settings b tag start pair cookie (Unreadable v p d causes) =
    keep_if (is_seen b pair v p d && (may_pass settings b tag.lane v (order_from settings start) causes && arms_rise causes))
    (all_caused settings tag.lane v (order_from settings start) causes b)
next_show settings b tag start pair cookie (Unknown d) = next_unknown b pair d
next_show settings b tag start pair cookie _ = []

-- a reply to a get that shows the volume v
abbrev pub get_shows : UrlParts → Reply → Bool
get_shows url (Photo v m p d bytes) = v == url.volume
get_shows url (Gone v m p d) = v == url.volume
get_shows url (WrongCookie v m p d) = v == url.volume
get_shows url (Unreadable v p d causes) = v == url.volume
get_shows url (Unknown d) = true
get_shows url reply = false

abbrev pub get_by : Settings → Known → CoreTag → UrlParts → Option ℕ → Reply → List Known
get_by settings b tag url (Some start) (Moved v d) =
    keep_if (is_at (home_of b url.pair) v && (not (v == url.volume) && (d == length b.directory.rows))) b
get_by settings b tag url (Some start) reply = if get_shows url reply then next_show settings b tag start url.pair url.cookie reply else []
get_by settings b tag url None Nowhere = b ∷ []
get_by settings b tag url None _ = []

-- DELETE

-- which standing runs may have ended: each choice, with an answer for each replica from number j on
abbrev pub endings : Settings → Known → ℕ → ℕ → List ReplicaKnown → List (List Bool)
endings settings b v j [] = [] ∷ []
endings settings b v j (replica ∷ replicas) =
    map (λ ended. false ∷ ended) (endings settings b v (j + 1) replicas)
    ++ (if is_some replica.run && nat_lt (slot_of settings v j) (length b.faults) then map (λ ended. true ∷ ended) (endings settings b v (j + 1) replicas) else [])

-- the disks of the runs that ended rose
abbrev pub raise_ended : Settings → Known → ℕ → ℕ → List Bool → Known → Known
raise_ended settings b v j [] c = c
raise_ended settings b v j (false ∷ ended) c = raise_ended settings b v (j + 1) ended c
raise_ended settings b v j (true ∷ ended) c = raise_disk b (slot_of settings v j) (raise_ended settings b v (j + 1) ended c)

abbrev pub deleted : Settings → Known → CoreTag → Pair → ℕ → List Bool → Known
deleted settings b tag pair v ended = raise_ended settings b v 0 ended (change_volume b v (with_del ended tag pair))

abbrev pub is_home : Settings → Known → Pair → ℕ → ℕ → Bool
is_home settings b pair v d = is_at (home_of b pair) v && (is_none (closed settings b v) && (d == length b.directory.rows))

abbrev pub stands_there : Known → Pair → ℕ → Bool
stands_there b pair v = list_any (has_pair (volume_at b v) pair) (volume_at b v).replicas

abbrev pub is_closed_home : Settings → Known → Pair → List ClosedBy → Bool
is_closed_home settings b pair (by ∷ []) = is_at (home_of b pair) by.volume && is_at (closed settings b by.volume) by.machine
is_closed_home settings b pair _ = false

abbrev pub del_failed_by : Settings → Known → CoreTag → Pair → ℕ → ℕ → ℕ → Option ℕ → List Known
del_failed_by settings b tag pair v m f None = []
del_failed_by settings b tag pair v m f (Some j) =
    if is_at (home_of b pair) v && (is_none (closed settings b v) && rises_to b (slot_of settings v j) f)
    then with_fault b (slot_of settings v j) f
    ∷ keep_if (stands_there b pair v) (with_fault (change_volume b v (frozen_with m tag (entry.Del pair) true)) (slot_of settings v j) f)
    else []

abbrev pub next_del : Settings → Known → CoreTag → Pair → Reply → List Known
next_del settings b tag pair (Deleted v p d) =
    if is_home settings b pair v d && (stands_there b pair v && (p == length (volume_at b v).log + 1))
    then map (deleted settings b tag pair v) (endings settings b v 0 (volume_at b v).replicas)
    else []
next_del settings b tag pair (Absent v p d) =
    keep_if (is_home settings b pair v d && (not (stands_there b pair v) && (p == length (volume_at b v).log))) b
next_del settings b tag pair (Unknown d) = next_unknown b pair d
next_del settings b tag pair (ReadOnly closed) = keep_if (is_closed_home settings b pair closed) b
next_del settings b tag pair (Failed v m f) = del_failed_by settings b tag pair v m f (replica_on settings v m)
next_del settings b tag pair _ = []

-- URL

abbrev pub next_url : Settings → Known → CoreTag → Pair → Reply → List Known
next_url settings b tag pair (Url d url) =
    keep_if (is_at (home_of b pair) url.volume && (pair_eq url.pair pair && (cookie_eq url.cookie (cookie_of settings.secret pair.key)
    && ((url.machine == machine_of settings url.volume (start_of settings tag)) && (d == length b.directory.rows))))) b
next_url settings b tag pair (Unknown d) = next_unknown b pair d
next_url settings b tag pair _ = []

-- FLUSH AND COMPACTION

abbrev pub names : ℕ → ℕ → ℕ → ℕ → Bool
names v m v' m' = (v' == v) && (m' == m)

abbrev pub is_open : Known → ℕ → Bool
is_open b v = is_none (volume_at b v).frozen

abbrev pub is_frozen_by : Known → ℕ → List ClosedBy → Bool
is_frozen_by b v (by ∷ []) = (by.volume == v) && is_at (volume_at b v).frozen by.machine
is_frozen_by b v _ = false

abbrev pub is_stuck_on : Known → ℕ → ℕ → ℕ → List ClosedBy → Bool
is_stuck_on b v m j (by ∷ []) = names v m by.volume by.machine && (is_open b v && (replica_of b v j).stuck)
is_stuck_on b v m j _ = false

abbrev pub next_flush : Settings → Known → ℕ → ℕ → ℕ → Reply → List Known
next_flush settings b v m j (Flushed v' m' n) =
    keep_if (names v m v' m' && (is_open b v && (not (replica_of b v j).stuck && (n == (replica_of b v j).bare)))) (change_replica b v j (with_bare 0))
next_flush settings b v m j (ReadOnly by) = keep_if (is_frozen_by b v by || is_stuck_on b v m j by) b
next_flush settings b v m j (Failed v' m' f) =
    keep_if (names v m v' m' && (is_open b v && (not (replica_of b v j).stuck && rises_to b (slot_of settings v j) f)))
    (with_fault (change_replica b v j with_stuck) (slot_of settings v j) f)
next_flush settings b v m j _ = []

abbrev pub is_idle : Known → ℕ → ℕ → Bool
is_idle b v j = is_none (replica_of b v j).run

abbrev pub is_resting : Known → ℕ → ℕ → Bool
is_resting b v j = is_idle b v j && nat_lt (replica_of b v j).generation LAST_GENERATION

abbrev pub is_busy : Option Run → ℕ → Bool
is_busy None g = false
is_busy (Some run) g = run.goal == g

abbrev pub next_begin : Settings → Known → ℕ → ℕ → ℕ → Reply → List Known
next_begin settings b v m j (Begun v' m' g) =
    keep_if (names v m v' m' && (is_open b v && (is_resting b v j && (g == (replica_of b v j).generation + 1))))
    (change_replica b v j (with_run (record { goal = g; left = (replica_of b v j).cells })))
next_begin settings b v m j (ReadOnly by) = keep_if (is_frozen_by b v by) b
next_begin settings b v m j (Busy v' m' g) = keep_if (names v m v' m' && (is_open b v && is_busy (replica_of b v j).run g)) b
next_begin settings b v m j (Worn v' m') =
    keep_if (names v m v' m' && (is_open b v && (is_idle b v j && ((replica_of b v j).generation == LAST_GENERATION)))) b
next_begin settings b v m j (Failed v' m' f) =
    keep_if (names v m v' m' && (is_open b v && (is_resting b v j && rises_to b (slot_of settings v j) f))) (with_fault b (slot_of settings v j) f)
next_begin settings b v m j _ = []

-- DRAINS AND FUSES

abbrev pub next_drain : Settings → Known → ℕ → Reply → List Known
next_drain settings b m (Drained m') = keep_if ((m' == m) && nat_lt m settings.machines) (with_drain b m true)
next_drain settings b m Nowhere = keep_if (not (nat_lt m settings.machines)) b
next_drain settings b m _ = []

abbrev pub next_undrain : Settings → Known → ℕ → Reply → List Known
next_undrain settings b m (Undrained m') = keep_if ((m' == m) && nat_lt m settings.machines) (with_drain b m false)
next_undrain settings b m Nowhere = keep_if (not (nat_lt m settings.machines)) b
next_undrain settings b m _ = []

abbrev pub fused : Known → ℕ → Known
fused b slot = with_fuses b slot (if fuse_count b slot == 2 ^ 64 - 1 then 2 ^ 64 - 1 else fuse_count b slot + 1)

abbrev pub next_fuse : Settings → Known → ℕ → ℕ → ℕ → ℕ → Reply → List Known
next_fuse settings b v m j n (Fused v' m' n') = keep_if (names v m v' m' && (n' == n)) (fused b (slot_of settings v j))
next_fuse settings b v m j n _ = []

abbrev pub next_fuse_dir : Known → ℕ → Reply → List Known
next_fuse_dir b n (FusedDir n') = keep_if (n' == n) (fused b 0)
next_fuse_dir b n _ = []

-- STEPS AND SWAPS

abbrev pub stepped_by : Known → ℕ → ℕ → ℕ → ℕ → Option Run → List Known
stepped_by b v j cells n None = []
stepped_by b v j cells n (Some run) = keep_if (n == min cells run.left) (change_replica b v j (with_run (stepped n run)))

abbrev pub next_step : Settings → Known → ℕ → ℕ → ℕ → ℕ → Reply → List Known
next_step settings b v m j cells (Stepped v' m' n) = if names v m v' m' && is_open b v then stepped_by b v j cells n (replica_of b v j).run else []
next_step settings b v m j cells (ReadOnly by) = keep_if (is_frozen_by b v by) b
next_step settings b v m j cells (Idle v' m') = keep_if (names v m v' m' && (is_open b v && is_idle b v j)) b
next_step settings b v m j cells (Failed v' m' f) =
    keep_if (names v m v' m' && (is_open b v && (is_some (replica_of b v j).run && rises_to b (slot_of settings v j) f)))
    (with_fault (change_replica b v j without_run) (slot_of settings v j) f)
next_step settings b v m j cells _ = []

-- a swap that failed: before it, or before it or behind it
abbrev pub swap_failed : Settings → Known → ℕ → ℕ → ℕ → ℕ → List Known
swap_failed settings b v m j f =
    with_fault (change_replica b v j without_run) (slot_of settings v j) f ∷ with_fault (poised_by m b v j) (slot_of settings v j) f ∷ []

abbrev pub tight : Known → ℕ → ℕ → Known
tight b v j =
    change_volume (change_replica b v j (swapped (live_end (now (volume_at b v) (replica_of b v j))) (length (now (volume_at b v) (replica_of b v j))))) v as_it_is

abbrev pub next_compact : Settings → Known → ℕ → ℕ → ℕ → Reply → List Known
next_compact settings b v m j (Compacted v' m' g) =
    keep_if (names v m v' m' && (is_open b v && (is_resting b v j && (g == (replica_of b v j).generation + 1)))) (tight b v j)
next_compact settings b v m j (ReadOnly by) = keep_if (is_frozen_by b v by) b
next_compact settings b v m j (Busy v' m' g) = keep_if (names v m v' m' && (is_open b v && is_busy (replica_of b v j).run g)) b
next_compact settings b v m j (Worn v' m') =
    keep_if (names v m v' m' && (is_open b v && (is_idle b v j && ((replica_of b v j).generation == LAST_GENERATION)))) b
next_compact settings b v m j (Failed v' m' f) =
    if names v m v' m' && (is_open b v && (is_resting b v j && rises_to b (slot_of settings v j) f)) then swap_failed settings b v m j f else []
next_compact settings b v m j _ = []

-- where it is answered compacted it leaves ranges of sizes, of which this says nothing
abbrev pub next_finish : Settings → Known → ℕ → ℕ → ℕ → Reply → List Known
next_finish settings b v m j (ReadOnly by) = keep_if (is_frozen_by b v by) b
next_finish settings b v m j (Idle v' m') = keep_if (names v m v' m' && (is_open b v && is_idle b v j)) b
next_finish settings b v m j (Failed v' m' f) =
    if names v m v' m' && (is_open b v && (is_some (replica_of b v j).run && rises_to b (slot_of settings v j) f)) then swap_failed settings b v m j f else []
next_finish settings b v m j _ = []

-- EVERY COMMAND

abbrev pub on_replica : Known → Option ℕ → (ℕ → Reply → List Known) → Reply → List Known
on_replica b (Some j) next reply = next j reply
on_replica b None next Nowhere = b ∷ []
on_replica b None next _ = []

abbrev pub next_bad : Known → Reply → List Known
next_bad b BadLine = b ∷ []
next_bad b _ = []

abbrev pub next_command : Settings → Known → CoreTag → Command → Reply → List Known
next_command settings b tag (command.Put pair bytes) reply = next_put settings b tag pair bytes reply
next_command settings b tag (command.Read pair cookie) reply = next_show settings b tag (start_of settings tag) pair cookie reply
next_command settings b tag (command.Get url) reply = get_by settings b tag url (replica_on settings url.volume url.machine) reply
next_command settings b tag (command.Del pair) reply = next_del settings b tag pair reply
next_command settings b tag (command.Url pair) reply = next_url settings b tag pair reply
next_command settings b tag (command.Flush v m) reply = on_replica b (replica_on settings v m) (next_flush settings b v m) reply
next_command settings b tag (command.Compact v m) reply = on_replica b (replica_on settings v m) (next_compact settings b v m) reply
next_command settings b tag (command.Begin v m) reply = on_replica b (replica_on settings v m) (next_begin settings b v m) reply
next_command settings b tag (command.Step v m n) reply = on_replica b (replica_on settings v m) (λ j. next_step settings b v m j n) reply
next_command settings b tag (command.Drain m) reply = next_drain settings b m reply
next_command settings b tag (command.Undrain m) reply = next_undrain settings b m reply
next_command settings b tag (command.Fuse v m n) reply = on_replica b (replica_on settings v m) (λ j. next_fuse settings b v m j n) reply
next_command settings b tag (command.FuseDir n) reply = next_fuse_dir b n reply
next_command settings b tag (command.Finish v m) reply = on_replica b (replica_on settings v m) (next_finish settings b v m) reply
next_command settings b tag (command.Restart pick) reply = []

-- the states behind a plain line, which has lane 0
abbrev pub next_plain : Settings → ℕ → Item → Reply → Known → List Known
next_plain settings line (item.Command command) reply b = next_command settings b (record { lane = 0; line = line }) command reply
next_plain settings line item.Bad reply b = next_bad b reply
