-- The laws of specs/Refusals.antt.
use Rattle.std.proofs.Common.{◌≡◌, ℕ, zero, suc, ◌+◌, ◌-◌, ◌^◌, ◌<◌, ◌≤◌, Bool, true, false, List, [], ◌∷◌, ◌++◌, length, map, Option, Some, None, option_map, refl, sym, ap}
use Rattle.std.proofs.Common.{subst, ◌∙◌, ◌⊎◌, inl, inr, arith}
use Rattle.std.specs.Prelude.{◌==◌, ◌||◌, nat_lt, replicate, slice_index, slice_index_or, slice_set, find}
use Rattle.std.specs.List.{AllByRecursion as Each, enumerate_from}
use Rattle.std.proofs.lemmas.List.{get_or-set_same}
use Rattle.std.proofs.lemmas.Bool.{cases_Bool, cond-true, cond-false}
use Rattle.std.proofs.lemmas.Bool.Decides.{nat_tests}
use Rattle.hay_needle.specs.declared.needle.Pair.{Pair}
use Rattle.hay_needle.specs.declared.settings.Settings.{Settings}
use Rattle.hay_needle.specs.Sizes.{needle_total}
use Rattle.hay_url.specs.declared.Url.{Url as UrlParts}
use Rattle.hay_script.specs.declared.Command.{Command}
use Rattle.hay_script.specs.declared.Command.TheVariants as command
use Rattle.hay_reply.specs.declared.ClosedBy.{ClosedBy}
use Rattle.hay_reply.specs.declared.Refused.TheVariants.{NoRoom}
use Rattle.hay_reply.specs.declared.Note.{Note}
use Rattle.hay_reply.specs.declared.Reply.{Reply}
use Rattle.hay_reply.specs.declared.Reply.TheVariants as reply
use Rattle.hay_core.specs.declared.entry.CoreTag.{CoreTag}
use Rattle.hay_legal.specs.declared.known.DirKnown.{DirKnown}
use Rattle.hay_legal.specs.declared.known.ReplicaKnown.{ReplicaKnown}
use Rattle.hay_legal.specs.declared.known.Run.{Run}
use Rattle.hay_legal.specs.declared.known.VolumeKnown.{VolumeKnown}
use Rattle.hay_legal.specs.declared.known.Known.{Known}
use Rattle.hay_legal.specs.declared.turn.Item.{Item}
use Rattle.hay_legal.specs.declared.turn.Item.TheVariants as item
use Rattle.hay_legal.specs.declared.turn.Turn.{Turn}
use Rattle.hay_legal.specs.declared.turn.Turn.TheVariants.{Plain, Lanes, Restart}
use Rattle.hay_legal.specs.Known.{NoneFalls, closed, closed_by, disk_count, drained_of, empty_replica, empty_volume, fault_count, is_drained, lacks_room, machine_of, refusal_by}
use Rattle.hay_legal.specs.Known.{refusal_of, replica_at, replica_on, replicas_of, slot_of, tries_of, volume_at}
use Rattle.hay_legal.specs.Plain.{IsClosedHome, IsFrozenBy, IsIdle, IsStuckOn, LegalBegin, LegalCommand, LegalCompact, LegalFinish, LegalFlush, LegalFuse, LegalGetAt, LegalPlain}
use Rattle.hay_legal.specs.Plain.{LegalStep, OnReplica, as_closed, disk_rose, replica_of, with_run}
use Rattle.hay_legal.specs.Restarts.{LegalRestart, ReopenedReplicas, ReopenedVolumes, undrained}
use Rattle.hay_legal.specs.Legal.{Legal, LegalTurn, known_after}
use Rattle.hay_legal.specs.Stands.{Outside}
use Rattle.hay_legal.specs.Statuses.{IsNew, IsNewVolume, IsUntouched, TellsFailure, TellsFirst}
use Rattle.hay_legal.specs.Statuses.Ending.{ReadAll, OutputFault, InputFault, NoMemory, NotOpened, TooLong}
use Rattle.hay_legal.specs.Subject.{IsOf, NothingFailed, known_behind}
use Rattle.hay_legal.specs.Refusals.{BegunIsNotIdle, CalmRunEndsWell, GoesWell, IsChange, IsUntroubled, LeavesDrained, LeavesStanding, NothingRose, ReadOnlyDirIsAFailure, ReadOnlyIsADrain, WasDrained}
use Rattle.hay_legal.proofs.Complete.{counts_rise, count_below, falls_trans, nothing_failed_within, on_replica_never, rise_trans, turn_counts}
use Rattle.hay_legal.proofs.GoingWell.{Runs, plain_well}
use Rattle.hay_legal.proofs.Steps.{none_falls}
use Rattle.hay_legal.proofs.Subject.Effects.{find_of}
use Rattle.hay_legal.proofs.Subject.Entries.{is_of_behind}
use Rattle.hay_legal.proofs.Subject.Shown.{legal_split}
use Rattle.hay_legal.proofs.Subject.Standing.{replica_bounded}

-- A STORE AT EASE

-- No volume is frozen, no index is stuck, and the Directory is not frozen.
record AtEase (k : Known) : Type 0 where
  frozen : (w : ℕ) → (volume_at k w).frozen ≡ None
  loose : (w j : ℕ) → (replica_of k w j).stuck ≡ false
  directory : k.directory.frozen ≡ false

untouched_loose : (rs : List ReplicaKnown) (j : ℕ) → Each IsUntouched rs → (slice_index_or rs j empty_replica).stuck ≡ false
untouched_loose [] j h = refl
untouched_loose (r ∷ rs) zero h = h.0.0
untouched_loose (r ∷ rs) (suc j) h = untouched_loose rs j h.1

new_frozen : (settings : Settings) (vs : List VolumeKnown) (w : ℕ) → Each (IsNewVolume settings) vs → (slice_index_or vs w empty_volume).frozen ≡ None
new_frozen settings [] w h = refl
new_frozen settings (v ∷ vs) zero h = (h.0).frozen
new_frozen settings (v ∷ vs) (suc w) h = new_frozen settings vs w h.1

new_loose : (settings : Settings) (vs : List VolumeKnown) (w j : ℕ) → Each (IsNewVolume settings) vs → (replica_at (slice_index_or vs w empty_volume) j).stuck ≡ false
new_loose settings [] w j h = refl
new_loose settings (v ∷ vs) zero j h = untouched_loose v.replicas j (h.0).replicas
new_loose settings (v ∷ vs) (suc w) j h = new_loose settings vs w j h.1

new_at_ease : (settings : Settings) (k : Known) → IsNew settings k → AtEase k
new_at_ease settings k new = record {
  frozen = λ w. new_frozen settings k.volumes w new.volumes;
  loose = λ w j. new_loose settings k.volumes w j new.volumes;
  directory = ap (λ (d : DirKnown). d.frozen) new.directory;
}

reopened_loose : (volume : VolumeKnown) (kept : List Bool) (i : ℕ) (olds news : List ReplicaKnown) (j : ℕ) → ReopenedReplicas volume kept i olds news
    → (slice_index_or news j empty_replica).stuck ≡ false
reopened_loose volume kept i [] [] j h = refl
reopened_loose volume kept i (old ∷ olds) (new ∷ news) zero h = (h.0).loose
reopened_loose volume kept i (old ∷ olds) (new ∷ news) (suc j) h = reopened_loose volume kept (i + 1) olds news j h.1
reopened_loose volume kept i [] (new ∷ news) j h = absurd h
reopened_loose volume kept i (old ∷ olds) [] j h = absurd h

reopened_frozen : (settings : Settings) (v : ℕ) (olds : List VolumeKnown) (kepts : List (List Bool)) (news : List VolumeKnown) (w : ℕ) → ReopenedVolumes settings v olds kepts news
    → (slice_index_or news w empty_volume).frozen ≡ None
reopened_frozen settings v [] [] [] w h = refl
reopened_frozen settings v (old ∷ olds) (kept ∷ kepts) (new ∷ news) zero h = (h.0).frozen
reopened_frozen settings v (old ∷ olds) (kept ∷ kepts) (new ∷ news) (suc w) h = reopened_frozen settings (v + 1) olds kepts news w h.1
reopened_frozen settings v [] [] (new ∷ news) w h = absurd h
reopened_frozen settings v [] (kept ∷ kepts) news w h = absurd h
reopened_frozen settings v (old ∷ olds) [] news w h = absurd h
reopened_frozen settings v (old ∷ olds) (kept ∷ kepts) [] w h = absurd h

reopened_all_loose : (settings : Settings) (v : ℕ) (olds : List VolumeKnown) (kepts : List (List Bool)) (news : List VolumeKnown) (w j : ℕ) → ReopenedVolumes settings v olds kepts news
    → (replica_at (slice_index_or news w empty_volume) j).stuck ≡ false
reopened_all_loose settings v [] [] [] w j h = refl
reopened_all_loose settings v (old ∷ olds) (kept ∷ kepts) (new ∷ news) zero j h = reopened_loose old kept 0 old.replicas new.replicas j (h.0).replicas
reopened_all_loose settings v (old ∷ olds) (kept ∷ kepts) (new ∷ news) (suc w) j h = reopened_all_loose settings (v + 1) olds kepts news w j h.1
reopened_all_loose settings v [] [] (new ∷ news) w j h = absurd h
reopened_all_loose settings v [] (kept ∷ kepts) news w j h = absurd h
reopened_all_loose settings v (old ∷ olds) [] news w j h = absurd h
reopened_all_loose settings v (old ∷ olds) (kept ∷ kepts) [] w j h = absurd h

restart_at_ease : (settings : Settings) (k : Known) (r : Reply) (notes : List Note) (t : Known) → IsUntroubled r → LegalRestart settings k r notes t → AtEase t
restart_at_ease settings k (reply.Restarted d) notes t u h = record {
  frozen = λ w. reopened_frozen settings 0 k.volumes h.kept t.volumes w (h.opened).volumes;
  loose = λ w j. reopened_all_loose settings 0 k.volumes h.kept t.volumes w j (h.opened).volumes;
  directory = ap (λ (d : DirKnown). d.frozen) (h.opened).directory;
}
restart_at_ease settings k reply.NoMem notes t u h = absurd u
restart_at_ease settings k _ notes t u h = absurd h

turn_at_ease : (settings : Settings) (k : Known) (turn : Turn) → AtEase k → GoesWell turn → LegalTurn settings k turn → AtEase (known_after turn)
turn_at_ease settings k (Plain line i r after) ease well h =
    let left = plain_well settings k line i r after well h in
    record {
      frozen = λ w. (left.each w).frozen ∙ ease.frozen w;
      loose = λ w j. (left.each w).loose j (ease.loose w j);
      directory = left.directory ∙ ease.directory;
    }
turn_at_ease settings k (Lanes items logs rows after) ease well h = absurd well
turn_at_ease settings k (Restart line pick r notes after) ease well h = restart_at_ease settings k r notes after well h

at_ease_behind : (settings : Settings) (k t : Known) (turns : List Turn) → AtEase k → Each GoesWell turns → Legal settings k turns t → AtEase t
at_ease_behind settings k t [] ease well h = subst AtEase (sym h) ease
at_ease_behind settings k t (turn ∷ turns) ease well h = at_ease_behind settings (known_after turn) t turns (turn_at_ease settings k turn ease well.0 h.0) well.1 h.1

-- DRAINS

none_drained : (n m : ℕ) → slice_index_or (replicate n false) m false ≡ false
none_drained zero m = refl
none_drained (suc n) zero = refl
none_drained (suc n) (suc m) = none_drained n m

undrained_all : (ds : List Bool) (m : ℕ) → slice_index_or (map undrained ds) m false ≡ false
undrained_all [] m = refl
undrained_all (d ∷ ds) zero = refl
undrained_all (d ∷ ds) (suc m) = undrained_all ds m

-- a machine that a line drained
get_never_drained : (settings : Settings) (k : Known) (tag : CoreTag) (url : UrlParts) (o : Option ℕ) (m : ℕ) (t : Known) → LegalGetAt settings k tag url o (reply.Drained m) t → ⊥
get_never_drained settings k tag url (Some start) m t h = h.0
get_never_drained settings k tag url None m t h = h

drained_by : (settings : Settings) (k : Known) (tag : CoreTag) (c : Command) (m : ℕ) (t : Known) → LegalCommand settings k tag c (reply.Drained m) t → c ≡ command.Drain m
drained_by settings k tag (command.Drain m') m t h = ap command.Drain (sym h.0)
drained_by settings k tag (command.Get url) m t h = absurd (get_never_drained settings k tag url (replica_on settings url.volume url.machine) m t h)
drained_by settings k tag (command.Flush v m') m t h = absurd (on_replica_never k (replica_on settings v m') (LegalFlush settings k v m') (reply.Drained m) t (λ e. cc) (λ e. cc) (λ j g. g) h)
drained_by settings k tag (command.Compact v m') m t h = absurd (on_replica_never k (replica_on settings v m') (LegalCompact settings k v m') (reply.Drained m) t (λ e. cc) (λ e. cc) (λ j g. g) h)
drained_by settings k tag (command.Begin v m') m t h = absurd (on_replica_never k (replica_on settings v m') (LegalBegin settings k v m') (reply.Drained m) t (λ e. cc) (λ e. cc) (λ j g. g) h)
drained_by settings k tag (command.Step v m' n) m t h = absurd (on_replica_never k (replica_on settings v m') (λ j. LegalStep settings k v m' j n) (reply.Drained m) t (λ e. cc) (λ e. cc) (λ j g. g) h)
drained_by settings k tag (command.Finish v m') m t h = absurd (on_replica_never k (replica_on settings v m') (LegalFinish settings k v m') (reply.Drained m) t (λ e. cc) (λ e. cc) (λ j g. g) h)
drained_by settings k tag (command.Fuse v m' n) m t h = absurd (on_replica_never k (replica_on settings v m') (λ j. LegalFuse settings k v m' j n) (reply.Drained m) t (λ e. cc) (λ e. cc) (λ j g. g) h)
drained_by settings k tag _ m t h = absurd h

drain_item : (settings : Settings) (k : Known) (line : ℕ) (i : Item) (r : Reply) (t : Known) (m : ℕ) → LegalPlain settings k line i r t → r ≡ reply.Drained m
    → i ≡ item.Command (command.Drain m)
drain_item settings k line (item.Command c) r t m h is =
    ap item.Command (drained_by settings k (record { lane = 0; line = line }) c m t (subst (λ (s : Reply). LegalCommand settings k (record { lane = 0; line = line }) c s t) is h))
drain_item settings k line item.Bad r t m h is = let both : reply.BadLine ≡ reply.Drained m = sym h.0 ∙ is in absurd cc

-- Behind turns a machine was drained before them and is so still, or a line of theirs drained it.
abbrev DrainedBehind : Known → List Turn → ℕ → Type 0
DrainedBehind k turns m = ((is_drained k m ≡ true) × Each (LeavesDrained m) turns) ⊎ WasDrained turns m

drained_before : (turn : Turn) (turns : List Turn) (m : ℕ) → WasDrained turns m → WasDrained (turn ∷ turns) m
drained_before turn turns m was = record {
  before = turn ∷ was.before;
  line = was.line;
  after = was.after;
  since = was.since;
  parts = ap (λ (l : List Turn). turn ∷ l) was.parts;
  stays = was.stays;
}

restart_undrains : (settings : Settings) (k : Known) (r : Reply) (notes : List Note) (t : Known) (m : ℕ) → IsUntroubled r → LegalRestart settings k r notes t → is_drained t m ≡ true → ⊥
restart_undrains settings k (reply.Restarted d) notes t m u h is =
    let clash : false ≡ true = sym (undrained_all k.drained m) ∙ sym (ap (λ (ds : List Bool). slice_index_or ds m false) (h.opened).drained) ∙ is in cc
restart_undrains settings k reply.NoMem notes t m u h is = u
restart_undrains settings k _ notes t m u h is = h

turn_drains : (settings : Settings) (k : Known) (turn : Turn) (turns : List Turn) (m : ℕ) → GoesWell turn → LegalTurn settings k turn → is_drained (known_after turn) m ≡ true
    → Each (LeavesDrained m) turns → DrainedBehind k (turn ∷ turns) m
turn_drains settings k (Plain line i r after) turns m well h is stays =
    elim ((plain_well settings k line i r after well h).drains m is) [
      | inl here ↦ inr (record {
        before = [];
        line = line;
        after = after;
        since = turns;
        parts = ap (λ (j : Item). Plain line j r after ∷ turns) (drain_item settings k line i r after m h here)
            ∙ ap (λ (s : Reply). Plain line (item.Command (command.Drain m)) s after ∷ turns) here;
        stays = stays;
      })
      | inr before ↦ inl (before.0, (before.1, stays))
    ]
turn_drains settings k (Lanes items logs rows after) turns m well h is stays = absurd well
turn_drains settings k (Restart line pick r notes after) turns m well h is stays = absurd (restart_undrains settings k r notes after m well h is)

drained_behind : (settings : Settings) (k t : Known) (turns : List Turn) (m : ℕ) → Each GoesWell turns → Legal settings k turns t → is_drained t m ≡ true → DrainedBehind k turns m
drained_behind settings k t [] m well h is = inl (sym (ap (λ (x : Known). is_drained x m) h) ∙ is, tt)
drained_behind settings k t (turn ∷ turns) m well h is =
    elim (drained_behind settings (known_after turn) t turns m well.1 h.1 is) [
      | inl before ↦ turn_drains settings k turn turns m well.0 h.0 before.0 before.1
      | inr was ↦ inr (drained_before turn turns m was)
    ]

was_drained : (settings : Settings) (k t : Known) (turns : List Turn) (m : ℕ) → IsNew settings k → Each GoesWell turns → Legal settings k turns t → is_drained t m ≡ true → WasDrained turns m
was_drained settings k t turns m new well h is =
    elim (drained_behind settings k t turns m well h is) [
      | inl before ↦
          let clash : false ≡ true = sym (none_drained settings.machines m) ∙ sym (ap (λ (ds : List Bool). slice_index_or ds m false) new.drained) ∙ before.0 in absurd cc
      | inr was ↦ was
    ]

-- READ-ONLY

-- what is closed and not frozen is so by a drained machine
closed_drained : (settings : Settings) (k : Known) (v m : ℕ) → AtEase k → closed settings k v ≡ Some m → is_drained k m ≡ true
closed_drained settings k v m ease shut =
    let by : drained_of settings k v ≡ Some m = sym (ap (λ (f : Option ℕ). closed_by f (drained_of settings k v)) (ease.frozen v)) ∙ shut in
    (find_of (is_drained k) (map (machine_of settings v) (replicas_of settings)) m by).0

closed_refusal : (settings : Settings) (size v : ℕ) (by : ClosedBy) (c : Option ℕ) (o : Option (ℕ × ReplicaKnown))
    → refusal_by v c (option_map (λ at. NoRoom v (machine_of settings v at.0) (at.1).end (needle_total size)) o) ≡ Some (as_closed by) → (v ≡ by.volume) × (c ≡ Some by.machine)
closed_refusal settings size v by (Some m) o e = let same : m ≡ by.machine = cc in (cc, ap (λ (n : ℕ). Some n) same)
closed_refusal settings size v by None (Some at) e = absurd cc
closed_refusal settings size v by None None e = absurd cc

abbrev ByDrained : Known → ClosedBy → Type 0
ByDrained k by = is_drained k by.machine ≡ true

all_drained : (settings : Settings) (k : Known) (size : ℕ) (tries : List ℕ) (by : List ClosedBy) → AtEase k → map (refusal_of settings k size) tries ≡ map Some (map as_closed by)
    → Each (ByDrained k) by
all_drained settings k size tries [] ease e = tt
all_drained settings k size [] (b ∷ by) ease e = absurd cc
all_drained settings k size (v ∷ tries) (b ∷ by) ease e =
    let head : refusal_of settings k size v ≡ Some (as_closed b) = cc in
    let tail : map (refusal_of settings k size) tries ≡ map Some (map as_closed by) = cc in
    let shut = closed_refusal settings size v b (closed settings k v) (find (λ at. lacks_room settings size at.1) (enumerate_from 0 (volume_at k v).replicas)) head in
    (closed_drained settings k v b.machine ease shut.1, all_drained settings k size tries by ease tail)

home_drained : (settings : Settings) (k : Known) (pair : Pair) (by : List ClosedBy) → AtEase k → IsClosedHome settings k pair by → Each (ByDrained k) by
home_drained settings k pair [] ease h = tt
home_drained settings k pair (b ∷ []) ease h = (closed_drained settings k b.volume b.machine ease h.1, tt)
home_drained settings k pair (b ∷ c ∷ by) ease h = absurd h

not_frozen_by : (k : Known) (v : ℕ) (by : List ClosedBy) → AtEase k → IsFrozenBy k v by → ⊥
not_frozen_by k v [] ease h = h
not_frozen_by k v (b ∷ []) ease h = let clash : None ≡ Some b.machine = sym (ease.frozen v) ∙ h.1 in cc
not_frozen_by k v (b ∷ c ∷ by) ease h = h

not_stuck_on : (k : Known) (v m j : ℕ) (by : List ClosedBy) → AtEase k → IsStuckOn k v m j by → ⊥
not_stuck_on k v m j [] ease h = h
not_stuck_on k v m j (b ∷ []) ease h = let clash : false ≡ true = sym (ease.loose v j) ∙ h.2 in cc
not_stuck_on k v m j (b ∷ c ∷ by) ease h = h

get_never_closed : (settings : Settings) (k : Known) (tag : CoreTag) (url : UrlParts) (o : Option ℕ) (by : List ClosedBy) (t : Known) → LegalGetAt settings k tag url o (reply.ReadOnly by) t → ⊥
get_never_closed settings k tag url (Some start) by t h = h.0
get_never_closed settings k tag url None by t h = h

read_only : (settings : Settings) (k : Known) (tag : CoreTag) (c : Command) (by : List ClosedBy) (t : Known) → AtEase k → LegalCommand settings k tag c (reply.ReadOnly by) t
    → IsChange (item.Command c) × Each (ByDrained k) by
read_only settings k tag (command.Put pair bytes) by t ease h = (tt, all_drained settings k _ (tries_of settings k pair) by ease h.0)
read_only settings k tag (command.Del pair) by t ease h = (tt, home_drained settings k pair by ease h.0)
read_only settings k tag (command.Get url) by t ease h = absurd (get_never_closed settings k tag url (replica_on settings url.volume url.machine) by t h)
read_only settings k tag (command.Flush v m) by t ease h =
    absurd (on_replica_never k (replica_on settings v m) (LegalFlush settings k v m) (reply.ReadOnly by) t (λ e. cc) (λ e. cc)
    (λ j g. elim g.0 [ inl frozen ↦ not_frozen_by k v by ease frozen | inr stuck ↦ not_stuck_on k v m j by ease stuck ]) h)
read_only settings k tag (command.Compact v m) by t ease h =
    absurd (on_replica_never k (replica_on settings v m) (LegalCompact settings k v m) (reply.ReadOnly by) t (λ e. cc) (λ e. cc) (λ j g. not_frozen_by k v by ease g.0) h)
read_only settings k tag (command.Begin v m) by t ease h =
    absurd (on_replica_never k (replica_on settings v m) (LegalBegin settings k v m) (reply.ReadOnly by) t (λ e. cc) (λ e. cc) (λ j g. not_frozen_by k v by ease g.0) h)
read_only settings k tag (command.Step v m n) by t ease h =
    absurd (on_replica_never k (replica_on settings v m) (λ j. LegalStep settings k v m j n) (reply.ReadOnly by) t (λ e. cc) (λ e. cc) (λ j g. not_frozen_by k v by ease g.0) h)
read_only settings k tag (command.Finish v m) by t ease h =
    absurd (on_replica_never k (replica_on settings v m) (LegalFinish settings k v m) (reply.ReadOnly by) t (λ e. cc) (λ e. cc) (λ j g. not_frozen_by k v by ease g.0) h)
read_only settings k tag (command.Fuse v m n) by t ease h =
    absurd (on_replica_never k (replica_on settings v m) (λ j. LegalFuse settings k v m j n) (reply.ReadOnly by) t (λ e. cc) (λ e. cc) (λ j g. g) h)
read_only settings k tag _ by t ease h = absurd h

item_read_only : (settings : Settings) (k : Known) (line : ℕ) (i : Item) (by : List ClosedBy) (t : Known) → AtEase k → LegalPlain settings k line i (reply.ReadOnly by) t
    → IsChange i × Each (ByDrained k) by
item_read_only settings k line (item.Command c) by t ease h = read_only settings k (record { lane = 0; line = line }) c by t ease h
item_read_only settings k line item.Bad by t ease h = absurd (let is = h.0 in cc)

each_drained : (settings : Settings) (k t : Known) (turns : List Turn) (by : List ClosedBy) → IsNew settings k → Each GoesWell turns → Legal settings k turns t → Each (ByDrained t) by
    → Each (λ closed. WasDrained turns closed.machine) by
each_drained settings k t turns [] new well legal h = tt
each_drained settings k t turns (b ∷ by) new well legal h = (was_drained settings k t turns b.machine new well legal h.0, each_drained settings k t turns by new well legal h.1)

pub read_only_is_a_drain : ReadOnlyIsADrain
read_only_is_a_drain settings k t earlier later line i by after new well legal =
    let parts = legal_split settings k t earlier (Plain line i (reply.ReadOnly by) after ∷ later) legal in
    let b : Known = known_behind k earlier in
    let ease = at_ease_behind settings k b earlier (new_at_ease settings k new) well parts.0 in
    let is = item_read_only settings b line i by after ease parts.1.0 in
    (is.0, each_drained settings k b earlier by new well parts.0 is.1)

get_never_dir : (settings : Settings) (k : Known) (tag : CoreTag) (url : UrlParts) (o : Option ℕ) (t : Known) → LegalGetAt settings k tag url o reply.ReadOnlyDir t → ⊥
get_never_dir settings k tag url (Some start) t h = h.0
get_never_dir settings k tag url None t h = h

read_only_dir : (settings : Settings) (k : Known) (tag : CoreTag) (c : Command) (t : Known) → AtEase k → LegalCommand settings k tag c reply.ReadOnlyDir t → ⊥
read_only_dir settings k tag (command.Put pair bytes) t ease h = let clash : false ≡ true = sym ease.directory ∙ h.1 in cc
read_only_dir settings k tag (command.Get url) t ease h = get_never_dir settings k tag url (replica_on settings url.volume url.machine) t h
read_only_dir settings k tag (command.Flush v m) t ease h = on_replica_never k (replica_on settings v m) (LegalFlush settings k v m) reply.ReadOnlyDir t (λ e. cc) (λ e. cc) (λ j g. g) h
read_only_dir settings k tag (command.Compact v m) t ease h = on_replica_never k (replica_on settings v m) (LegalCompact settings k v m) reply.ReadOnlyDir t (λ e. cc) (λ e. cc) (λ j g. g) h
read_only_dir settings k tag (command.Begin v m) t ease h = on_replica_never k (replica_on settings v m) (LegalBegin settings k v m) reply.ReadOnlyDir t (λ e. cc) (λ e. cc) (λ j g. g) h
read_only_dir settings k tag (command.Step v m n) t ease h = on_replica_never k (replica_on settings v m) (λ j. LegalStep settings k v m j n) reply.ReadOnlyDir t (λ e. cc) (λ e. cc) (λ j g. g) h
read_only_dir settings k tag (command.Finish v m) t ease h = on_replica_never k (replica_on settings v m) (LegalFinish settings k v m) reply.ReadOnlyDir t (λ e. cc) (λ e. cc) (λ j g. g) h
read_only_dir settings k tag (command.Fuse v m n) t ease h = on_replica_never k (replica_on settings v m) (λ j. LegalFuse settings k v m j n) reply.ReadOnlyDir t (λ e. cc) (λ e. cc) (λ j g. g) h
read_only_dir settings k tag _ t ease h = h

item_read_only_dir : (settings : Settings) (k : Known) (line : ℕ) (i : Item) (t : Known) → AtEase k → LegalPlain settings k line i reply.ReadOnlyDir t → ⊥
item_read_only_dir settings k line (item.Command c) t ease h = read_only_dir settings k (record { lane = 0; line = line }) c t ease h
item_read_only_dir settings k line item.Bad t ease h = let is = h.0 in cc

pub read_only_dir_is_a_failure : ReadOnlyDirIsAFailure
read_only_dir_is_a_failure settings k t earlier later line i after new well legal =
    let parts = legal_split settings k t earlier (Plain line i reply.ReadOnlyDir after ∷ later) legal in
    let b : Known = known_behind k earlier in
    item_read_only_dir settings b line i after (at_ease_behind settings k b earlier (new_at_ease settings k new) well parts.0) parts.1.0

-- IDLE

-- the machine of a replica
on_machine : (settings : Settings) (v m j : ℕ) → replica_on settings v m ≡ Some j → (v < settings.volumes) × (machine_of settings v j ≡ m)
on_machine settings v m j e =
    let test : ℕ → Bool = λ i. machine_of settings v i == m in
    elim (cases_Bool (nat_lt v settings.volumes)) [
      | inl below ↦
          let found = find_of test (replicas_of settings) j (sym (cond-true (nat_lt v settings.volumes) (find test (replicas_of settings)) None below) ∙ e) in
          (grind (arith, nat_tests, below), grind (arith, nat_tests, found.0))
      | inr out ↦
          let none : None ≡ Some j = sym (cond-false (nat_lt v settings.volumes) (find test (replicas_of settings)) None out) ∙ e in absurd cc
    ]

same_machine : (settings : Settings) (v m n j : ℕ) → replica_on settings v m ≡ Some j → replica_on settings v n ≡ Some j → n ≡ m
same_machine settings v m n j one other = sym (on_machine settings v n j other).1 ∙ (on_machine settings v m j one).1

-- where nothing failed no disk's count rose
no_rise : (before after end : ℕ) → after ≡ before → before < end → (nat_lt before after || after == end) ≡ true → ⊥
no_rise before after end same low rose = grind (arith, nat_tests, same, low, rose)

not_disk_rose : (settings : Settings) (k t : Known) (v j : ℕ) → NothingFailed k t → disk_rose settings k t v j ≡ true → ⊥
not_disk_rose settings k t v j calm rose =
    no_rise (fault_count k (slot_of settings v j)) (fault_count t (slot_of settings v j)) (2 ^ 64 - 1)
    (ap (λ (xs : List ℕ). slice_index xs (slot_of settings v j)) calm.faults) (count_below k.faults (slot_of settings v j) calm.disks) rose

-- over a turn that leaves a compaction standing
turn_runs : (settings : Settings) (k : Known) (turn : Turn) (v m j : ℕ) → replica_on settings v m ≡ Some j → LeavesStanding v m turn → LegalTurn settings k turn → NothingFailed k (known_after turn)
    → Runs (replica_of k v j) → Runs (replica_of (known_after turn) v j)
turn_runs settings k (Plain line i r after) v m j on leaves h calm is =
    elim (((plain_well settings k line i r after leaves.0 h).each v).runs j is) [
      | inl runs ↦ runs
      | inr ended ↦ elim ended [
        | inl finished ↦
            let same : finished.0 ≡ m = same_machine settings v m finished.0 j on finished.3 in
            absurd (leaves.1 finished.1 (finished.2 ∙ ap (λ (n : ℕ). reply.Compacted v n finished.1) same))
        | inr rose ↦ absurd (not_disk_rose settings k after v j calm rose)
      ]
    ]
turn_runs settings k (Lanes items logs rows after) v m j on leaves h calm is = absurd leaves
turn_runs settings k (Restart line pick r notes after) v m j on leaves h calm is = absurd leaves

-- what is left of turns in which nothing failed
calm_rest : (settings : Settings) (k t : Known) (turn : Turn) (turns : List Turn) → LegalTurn settings k turn → Legal settings (known_after turn) turns t → NothingFailed k t
    → NothingFailed k (known_after turn) × NothingFailed (known_after turn) t
calm_rest settings k t turn turns first rest calm =
    let here = turn_counts settings k turn first in
    let later = counts_rise settings (known_after turn) t turns rest in (
      nothing_failed_within k k (known_after turn) t (none_falls k.faults, none_falls k.arms) here later calm,
      nothing_failed_within k (known_after turn) t t here later (none_falls t.faults, none_falls t.arms) calm,
    )

idle_on : (k : Known) (o : Option ℕ) (legal : ℕ → Reply → Known → Type 0) (v m : ℕ) (t : Known) → OnReplica k o legal (reply.Idle v m) t → (j : ℕ) × (o ≡ Some j) × legal j (reply.Idle v m) t
idle_on k (Some j) legal v m t h = (j, refl, h)
idle_on k None legal v m t h = absurd h

get_never_idle : (settings : Settings) (k : Known) (tag : CoreTag) (url : UrlParts) (o : Option ℕ) (v m : ℕ) (t : Known) → LegalGetAt settings k tag url o (reply.Idle v m) t → ⊥
get_never_idle settings k tag url (Some start) v m t h = h.0
get_never_idle settings k tag url None v m t h = h

-- what is called idle is so
idle_at : (settings : Settings) (k : Known) (v m j v' m' j' : ℕ) → replica_on settings v m ≡ Some j → replica_on settings v' m' ≡ Some j' → (v ≡ v') × (m ≡ m') → IsIdle k v' j'
    → Runs (replica_of k v j) → ⊥
idle_at settings k v m j v' m' j' on there names idle runs =
    let both : Some j ≡ Some j' = sym on ∙ ap (λ (u : ℕ). replica_on settings u m) names.0 ∙ ap (λ (n : ℕ). replica_on settings v' n) names.1 ∙ there in
    let same : j ≡ j' = cc in
    let clash : Some runs.0 ≡ None = sym runs.1 ∙ ap (λ (u : ℕ). (replica_of k u j).run) names.0 ∙ ap (λ (i : ℕ). (replica_of k v' i).run) same ∙ idle in cc

called_idle : (settings : Settings) (k : Known) (tag : CoreTag) (c : Command) (v m j : ℕ) (t : Known) → replica_on settings v m ≡ Some j → LegalCommand settings k tag c (reply.Idle v m) t
    → Runs (replica_of k v j) → ⊥
called_idle settings k tag (command.Step v' m' n) v m j t on h runs =
    let at = idle_on k (replica_on settings v' m') (λ i. LegalStep settings k v' m' i n) v m t h in idle_at settings k v m j v' m' at.0 on at.1 at.2.0 at.2.2 runs
called_idle settings k tag (command.Finish v' m') v m j t on h runs =
    let at = idle_on k (replica_on settings v' m') (LegalFinish settings k v' m') v m t h in idle_at settings k v m j v' m' at.0 on at.1 at.2.0 at.2.2 runs
called_idle settings k tag (command.Get url) v m j t on h runs = get_never_idle settings k tag url (replica_on settings url.volume url.machine) v m t h
called_idle settings k tag (command.Flush v' m') v m j t on h runs = on_replica_never k (replica_on settings v' m') (LegalFlush settings k v' m') (reply.Idle v m) t (λ e. cc) (λ e. cc) (λ i g. g) h
called_idle settings k tag (command.Compact v' m') v m j t on h runs =
    on_replica_never k (replica_on settings v' m') (LegalCompact settings k v' m') (reply.Idle v m) t (λ e. cc) (λ e. cc) (λ i g. g) h
called_idle settings k tag (command.Begin v' m') v m j t on h runs = on_replica_never k (replica_on settings v' m') (LegalBegin settings k v' m') (reply.Idle v m) t (λ e. cc) (λ e. cc) (λ i g. g) h
called_idle settings k tag (command.Fuse v' m' n) v m j t on h runs =
    on_replica_never k (replica_on settings v' m') (λ i. LegalFuse settings k v' m' i n) (reply.Idle v m) t (λ e. cc) (λ e. cc) (λ i g. g) h
called_idle settings k tag _ v m j t on h runs = h

item_idle : (settings : Settings) (k : Known) (line : ℕ) (i : Item) (v m j : ℕ) (t : Known) → replica_on settings v m ≡ Some j → LegalPlain settings k line i (reply.Idle v m) t
    → Runs (replica_of k v j) → ⊥
item_idle settings k line (item.Command c) v m j t on h runs = called_idle settings k (record { lane = 0; line = line }) c v m j t on h runs
item_idle settings k line item.Bad v m j t on h runs = let is = h.0 in cc

-- over turns that leave a compaction standing, to one that calls it idle
still_runs : (settings : Settings) (k t : Known) (between later : List Turn) (line v m j : ℕ) (asked : Item) (after : Known) → replica_on settings v m ≡ Some j
    → Legal settings k (between ++ Plain line asked (reply.Idle v m) after ∷ later) t → NothingFailed k t → Each (LeavesStanding v m) between → Runs (replica_of k v j) → ⊥
still_runs settings k t [] later line v m j asked after on h calm leaves runs = item_idle settings k line asked v m j after on h.0 runs
still_runs settings k t (turn ∷ between) later line v m j asked after on h calm leaves runs =
    let parts = calm_rest settings k t turn (between ++ Plain line asked (reply.Idle v m) after ∷ later) h.0 h.1 calm in
    still_runs settings (known_after turn) t between later line v m j asked after on h.1 parts.1 leaves.1 (turn_runs settings k turn v m j on leaves.0 h.0 parts.0 runs)

-- what was begun stands
begun_runs : (settings : Settings) (k : Known) (v m g : ℕ) (t : Known) (o : Option ℕ) → replica_on settings v m ≡ o → IsOf settings k → OnReplica k o (LegalBegin settings k v m) (reply.Begun v m g) t
    → (j : ℕ) × (replica_on settings v m ≡ Some j) × Runs (replica_of t v j)
begun_runs settings k v m g t None e is h = absurd h
begun_runs settings k v m g t (Some j) e is h =
    let made : Run = record { goal = g; left = (replica_of k v j).cells } in
    let new : ReplicaKnown = with_run made (replica_of k v j) in
    let volume : VolumeKnown = record (volume_at k v) { replicas = slice_set (volume_at k v).replicas j new } in
    let below = (on_machine settings v m j e).0 in
    let many : v < length k.volumes = subst (λ (n : ℕ). v < n) (sym is.volumes) below in
    let within : j < length (volume_at k v).replicas = subst (λ (n : ℕ). j < n) (sym (is.replicas v below)) (replica_bounded settings v m j e) in
    let there : volume_at t v ≡ volume = ap (λ (vs : List VolumeKnown). slice_index_or vs v empty_volume) (h.4).volumes ∙ get_or-set_same k.volumes v volume empty_volume many in
    let found : replica_of t v j ≡ new = ap (λ (u : VolumeKnown). replica_at u j) there ∙ get_or-set_same (volume_at k v).replicas j new empty_replica within in
    (j, e, (made, ap (λ (r : ReplicaKnown). r.run) found))

pub begun_is_not_idle : BegunIsNotIdle
begun_is_not_idle settings k t earlier between later line line' v m g asked after after' is legal calm leaves =
    let first : Turn = Plain line (item.Command (command.Begin v m)) (reply.Begun v m g) after in
    let rest : List Turn = between ++ Plain line' asked (reply.Idle v m) after' ∷ later in
    let parts = legal_split settings k t earlier (first ∷ rest) legal in
    let b : Known = known_behind k earlier in
    let before = counts_rise settings k b earlier parts.0 in
    let here = turn_counts settings b first parts.1.0 in
    let later_counts = counts_rise settings after t rest parts.1.1 in
    let runs = begun_runs settings b v m g after (replica_on settings v m) refl (is_of_behind settings k b earlier is parts.0) parts.1.0 in
    let calm_after : NothingFailed after t =
    nothing_failed_within b after t t here later_counts (none_falls t.faults, none_falls t.arms)
    (nothing_failed_within k b t t before (rise_trans b after t here later_counts) (none_falls t.faults, none_falls t.arms) calm) in
    still_runs settings after t between later line' v m runs.0 asked after' runs.1 parts.1.1 calm_after leaves runs.2

-- STATUS 0

falls_at : (xs ys : List ℕ) (i : ℕ) → NoneFalls xs ys → slice_index xs i ≤ slice_index ys i
falls_at [] [] i h = omega arith
falls_at (x ∷ xs) (y ∷ ys) zero h = h.0
falls_at (x ∷ xs) (y ∷ ys) (suc i) h = falls_at xs ys i h.1
falls_at [] (y ∷ ys) i h = absurd h
falls_at (x ∷ xs) [] i h = absurd h

not_up : (before printed after end : ℕ) → ((before < printed) ⊎ (printed ≡ end)) × (printed ≤ after) → after ≤ before → after < end → ⊥
not_up before printed after end (inl above, reached) no_more low = omega (arith, above, reached, no_more)
not_up before printed after end (inr at_end, reached) no_more low = omega (arith, at_end, reached, low)

-- no count rose since a state that is no earlier than the disks that were taken
not_told : (settings : Settings) (k t : Known) (taken given : Outside) (note : Note) → ((slot : ℕ) → slot < disk_count settings → fault_count k slot ≡ taken.faults slot) → NoneFalls k.faults t.faults
    → NothingRose settings taken given → TellsFailure settings t given note → ⊥
not_told settings k t taken given note counts rise calm (slot, count, is, within, came) =
    let here = calm.disks slot within in
    let more = falls_at k.faults t.faults slot rise in
    let same = counts slot within in
    not_up (fault_count t slot) count (given.faults slot) (2 ^ 64 - 1) came (omega (arith, more, same, here.0)) (omega (arith, here.0, here.1))

not_told_first : (settings : Settings) (k : Known) (taken given : Outside) (note : Note) → ((slot : ℕ) → slot < disk_count settings → fault_count k slot ≡ taken.faults slot)
    → NothingRose settings taken given → TellsFirst settings k taken given note → ⊥
not_told_first settings k taken given note counts calm (inl disk) = not_told settings k k taken given note counts (none_falls k.faults) calm disk
not_told_first settings k taken given note counts calm (inr (count, is, came)) =
    let here = calm.shelf in
    not_up taken.shelf count given.shelf (2 ^ 64 - 1) came (omega (arith, here.0)) (omega (arith, here.0, here.1))

pub calm_run_ends_well : CalmRunEndsWell
calm_run_ends_well replica rows void settings k ReadAll script read taken written given holds calm runs o i m l = refl
calm_run_ends_well replica rows void settings k OutputFault script read taken written given holds calm runs o i m l = absurd (o refl)
calm_run_ends_well replica rows void settings k InputFault script read taken written given holds calm runs o i m l = absurd (i refl)
calm_run_ends_well replica rows void settings k NoMemory script read taken written given holds calm runs o i m l = absurd (m refl)
calm_run_ends_well replica rows void settings k TooLong script read taken written given holds calm runs o i m l = absurd (l refl)
calm_run_ends_well replica rows void settings k NotOpened script read taken written given holds calm runs o i m l =
    elim (runs.ends) [
      | inl first ↦ absurd (not_told_first settings k taken given first.note holds.faults calm first.tells)
      | inr again ↦
          let rise = counts_rise settings runs.opened runs.t runs.turns runs.legal in
          absurd (not_told settings k runs.t taken given again.note holds.faults (falls_trans k.faults (runs.opened).faults (runs.t).faults (runs.opening).faults rise.0) calm again.tells)
    ]
