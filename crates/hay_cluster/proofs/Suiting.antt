-- Replies are those that their commands may be given.
use Rattle.std.proofs.Common.{◌≡◌, ◌⊎◌, ℕ, suc, ◌+◌, ◌<◌, inl, inr, List, [], ◌∷◌, ◌++◌, map, Option, Some, None, refl, sym, ap, subst, ◌∙◌, arith, Bool}
use Rattle.std.specs.Prelude.{IfSome, find}
use Rattle.std.specs.List.{AllZip, list_any, range_with_len}
use Rattle.std.proofs.lemmas.Option.{IfSome_then}
use Rattle.hay_needle.specs.declared.needle.Pair.{Pair}
use Rattle.hay_needle.specs.Sizes.{needle_total}
use Rattle.hay_needle.specs.declared.settings.Settings.{Settings}
use Rattle.hay_reply.specs.declared.Refused.{Refused}
use Rattle.hay_reply.specs.declared.Reply.{Reply}
use Rattle.hay_reply.specs.declared.Reply.TheVariants as reply
use Rattle.hay_legal.specs.Known.{all_tries, machine_of, replica_on, replicas_of, try_at}
use Rattle.hay_legal.specs.Plain.{wants_room}
use Rattle.hay_legal.specs.Suiting.{AtReplica, IsOn, IsReadOnlyAt, IsRefusedBy, Refuses, Suits, SuitsBegin, SuitsCompact, SuitsDel, SuitsFlush, SuitsFuse, SuitsPut, SuitsRun}
use Rattle.hay_directory.specs.declared.fault.DirFault.{DirFault}
use Rattle.hay_directory.specs.declared.fault.DirFault.TheVariants as settling
use Rattle.hay_logical.specs.Answers.{BreaksPutOff, IsRoomFault}
use Rattle.hay_logical.specs.Seen.{RoomRefusedSeen, VolumeSeen}
use Rattle.hay_logical.specs.declared.fault.LogicalFault.{LogicalFault}
use Rattle.hay_logical.specs.declared.fault.LogicalFault.TheVariants as refusal
use Rattle.hay_cluster.specs.declared.maintenance.Maintenance.{Maintenance}
use Rattle.hay_cluster.specs.declared.maintenance.Maintenance.TheVariants.{Flush, Begin, Step, Finish, Compact}
use Rattle.hay_cluster.specs.Causes.{IsDeleteCause, IsPutCause, RefusesBegin, RefusesCompact, RefusesFlush, RefusesOn, RefusesRun, RefusesWork, IsThere}
use Rattle.hay_cluster.specs.Changes.{IsDeleteReply, IsReadOnly}
use Rattle.hay_cluster.specs.Lacks.{LacksRoom, lack_of}
use Rattle.hay_cluster.specs.Maintenance.{IsRefusedAs, command_of, done_as}
use Rattle.hay_cluster.specs.Puts.{IsPutReply, IsRefusal, settle_reply}
use Rattle.hay_cluster.specs.Store.{IsBuilt}
use Rattle.hay_legal.proofs.Finds.{map_found}
use Rattle.hay_cluster.proofs.Ranges.{range-snoc}
use Rattle.hay_cluster.proofs.Lists.{AllZip-append, map-append}
use Rattle.hay_legal.proofs.Machines.{replica_found}

-- WHERE REPLICAS ARE

pub on_machine : (settings : Settings) (v j m : ℕ) → IsBuilt settings → v < settings.volumes → j < settings.replicas → m ≡ machine_of settings v j → IsOn settings v m
on_machine settings v j m built volume within is = (j, ap (replica_on settings v) is ∙ replica_found settings v j volume within built.no_more_replicas)

-- the first of the replicas' machines that passes a test
pub drained_on : (settings : Settings) (v : ℕ) (test : ℕ → Bool) → IsBuilt settings → v < settings.volumes → IfSome (find test (map (machine_of settings v) (replicas_of settings))) (IsOn settings v)
drained_on settings v test built volume =
    IfSome_then (find test (map (machine_of settings v) (replicas_of settings))) (map_found test (machine_of settings v) settings.replicas 0 settings.replicas (omega arith))
    (λ m is. on_machine settings v is.0 m built volume is.1 is.2)

-- what is answered of a replica that there is, and of one that there is not
pub at_replica : (o : Option ℕ) (suits : ℕ → Reply → Type 0) (replica : ℕ) (said : Reply) → o ≡ Some replica → suits replica said → AtReplica o suits said
at_replica o suits replica said there is = subst (λ (p : Option ℕ). AtReplica p suits said) (sym there) (inl is)

pub at_none : (o : Option ℕ) (suits : ℕ → Reply → Type 0) → o ≡ None → AtReplica o suits reply.Nowhere
at_none o suits none = subst (λ (p : Option ℕ). AtReplica p suits reply.Nowhere) (sym none) (inl refl)

pub at_no_memory : (o : Option ℕ) (suits : ℕ → Reply → Type 0) (replica : ℕ) (said : Reply) → o ≡ Some replica → said ≡ reply.NoMem → AtReplica o suits said
at_no_memory o suits replica said there is = subst (λ (p : Option ℕ). AtReplica p suits said) (sym there) (inr is)

-- a fuse of a replica that there is, and of one that there is not
pub fuses_one : (o : Option ℕ) (replica : ℕ) (done : Reply) → o ≡ Some replica → SuitsFuse o done done
fuses_one o replica done there = subst (λ (p : Option ℕ). SuitsFuse p done done) (sym there) refl

pub fuses_none : (o : Option ℕ) (done : Reply) → o ≡ None → SuitsFuse o done reply.Nowhere
fuses_none o done none = subst (λ (p : Option ℕ). SuitsFuse p done reply.Nowhere) (sym none) refl

-- PUTS

-- a volume that lacks room
pub lack_refuses : (settings : Settings) (size v : ℕ) (seen : VolumeSeen) (fault : LogicalFault) → IsBuilt settings → v < settings.volumes → IsRoomFault settings v fault
    → RoomRefusedSeen settings v size seen fault → IfSome (lack_of v fault) (Refuses settings size v)
lack_refuses settings size v seen (refusal.Full m end need capacity) built volume is full = (
  refl,
  on_machine settings v is.0 m built volume is.1 is.2,
  (full.need_is, subst (λ (e : ℕ). settings.capacity < e + needle_total size + 8) (sym full.end_is) full.lacks),
)
lack_refuses settings size v seen (refusal.ReadOnly m) built volume is refused = (refl, on_machine settings v is.0 m built volume is.1 is.2)
lack_refuses settings size v seen (refusal.Gone front) built volume is refused = absurd is
lack_refuses settings size v seen (refusal.Failed m count) built volume is refused = absurd is
lack_refuses settings size v seen (refusal.Busy m generation) built volume is refused = absurd is
lack_refuses settings size v seen (refusal.Worn m) built volume is refused = absurd is
lack_refuses settings size v seen refusal.Idle built volume is refused = absurd is
lack_refuses settings size v seen (refusal.Damaged m at) built volume is refused = absurd is
lack_refuses settings size v seen refusal.NoMemory built volume is refused = absurd is

pub room_lack : (settings : Settings) (v : ℕ) (fault : LogicalFault) → IsRoomFault settings v fault → LacksRoom fault
room_lack settings v (refusal.Full m end need capacity) is = tt
room_lack settings v (refusal.ReadOnly m) is = tt
room_lack settings v (refusal.Gone front) is = absurd is
room_lack settings v (refusal.Failed m count) is = absurd is
room_lack settings v (refusal.Busy m generation) is = absurd is
room_lack settings v (refusal.Worn m) is = absurd is
room_lack settings v refusal.Idle is = absurd is
room_lack settings v (refusal.Damaged m at) is = absurd is
room_lack settings v refusal.NoMemory is = absurd is

-- one volume more was tried
pub one_more_refuses : (R : ℕ → Refused → Type 0) (settings : Settings) (pair : Pair) (turn v : ℕ) (refused : List Refused) (more : Refused) → v ≡ try_at settings pair turn → R v more
    → AllZip R (map (try_at settings pair) (range_with_len 0 turn)) refused → AllZip R (map (try_at settings pair) (range_with_len 0 (turn + 1))) (refused ++ more ∷ [])
one_more_refuses R settings pair turn v refused more is refuses others =
    let next : turn + 1 ≡ suc turn = omega arith in
    let last : 0 + turn ≡ turn = omega arith in
    let t = try_at settings pair in
    let tries : map t (range_with_len 0 (turn + 1)) ≡ map t (range_with_len 0 turn) ++ v ∷ [] =
    ap (λ n. map t (range_with_len 0 n)) next ∙ ap (map t) (range-snoc 0 turn) ∙ map-append t (range_with_len 0 turn) ((0 + turn) ∷ [])
    ∙ ap (λ n. map t (range_with_len 0 turn) ++ t n ∷ []) last ∙ ap (λ u. map t (range_with_len 0 turn) ++ u ∷ []) (sym is) in
    subst (λ vs. AllZip R vs (refused ++ more ∷ [])) (sym tries)
    (AllZip-append R (map t (range_with_len 0 turn)) (v ∷ []) refused (more ∷ []) others (refuses, tt))

pub all_refuse : (settings : Settings) (pair : Pair) (size : ℕ) (refused : List Refused) → AllZip (Refuses settings size) (all_tries settings pair) refused
    → IsRefusedBy settings pair size refused
all_refuse settings pair size refused each = (all_tries settings pair, inl refl, each)

pub one_refuses : (settings : Settings) (pair : Pair) (size v : ℕ) (one : Refused) → v < settings.volumes → Refuses settings size v one → IsRefusedBy settings pair size (one ∷ [])
one_refuses settings pair size v one volume refuses = (v ∷ [], inr (v, volume, refl), (refuses, tt))

pub refusal_suits : (settings : Settings) (pair : Pair) (size : ℕ) (refused : List Refused) (said : Reply) → IsRefusedBy settings pair size refused → IsRefusal refused said
    → SuitsPut settings pair size said
refusal_suits settings pair size refused (reply.Full tries) by told =
    inr (inl (tries, subst (λ (rs : List Refused). IsRefusedBy settings pair size rs) (sym told.0) by, ap (λ rs. list_any wants_room rs) told.0 ∙ told.1, refl))
refusal_suits settings pair size refused (reply.ReadOnly closed) by told =
    inr (inr (inl (closed, subst (λ (rs : List Refused). IsRefusedBy settings pair size rs) (sym told) by, refl)))
refusal_suits settings pair size refused reply.NoMem by told = inr (inr (inr (inr (inr (inr refl)))))
refusal_suits settings pair size refused _ by told = absurd told

-- by a volume that takes the photo
pub put_refusal_suits : (settings : Settings) (pair : Pair) (size v : ℕ) (before after : List ℕ) (fault : LogicalFault) (said : Reply) → BreaksPutOff fault
    → IsPutCause settings v before after fault → IsPutReply v fault said → SuitsPut settings pair size said
put_refusal_suits settings pair size v before after (refusal.Failed m count) said breaks cause told =
    let rose = cause.1 in inr (inr (inr (inr (inl (v, m, count, (rose.replica, rose.there), told)))))
put_refusal_suits settings pair size v before after refusal.NoMemory said breaks cause told = inr (inr (inr (inr (inr (inr told)))))
put_refusal_suits settings pair size v before after _ said breaks cause told = absurd breaks

pub settle_suits : (settings : Settings) (pair : Pair) (size : ℕ) (fault : DirFault) → SuitsPut settings pair size (settle_reply fault)
settle_suits settings pair size settling.Frozen = inr (inr (inr (inl refl)))
settle_suits settings pair size settling.NoMemory = inr (inr (inr (inr (inr (inr refl)))))
settle_suits settings pair size (settling.Failed count) = inr (inr (inr (inr (inr (inl (count, refl))))))

-- DELETES

pub closed_suits_del : (settings : Settings) (v by : ℕ) (said : Reply) → IsOn settings v by → IsReadOnly v by said → SuitsDel settings said
closed_suits_del settings v by said on (inl is) = inr (inr (inr (inl (record { volume = v; machine = by }, on, is))))
closed_suits_del settings v by said on (inr is) = inr (inr (inr (inr (inr (inr is)))))

pub del_refusal_suits : (settings : Settings) (v rows : ℕ) (before after : List ℕ) (fault : LogicalFault) (said : Reply) → v < settings.volumes
    → IsDeleteCause settings v before after fault → IsDeleteReply v rows fault said
    → SuitsDel settings said
del_refusal_suits settings v rows before after (refusal.Gone front) said volume cause told = inr (inl (v, front, rows, volume, told))
del_refusal_suits settings v rows before after (refusal.Failed m count) said volume cause told = let rose = cause.1 in inr (inr (inr (inr (inl (v, m, count, (rose.replica, rose.there), told)))))
del_refusal_suits settings v rows before after (refusal.ReadOnly m) said volume cause told = closed_suits_del settings v m said cause.2 told
del_refusal_suits settings v rows before after (refusal.Damaged m at) said volume cause told = inr (inr (inr (inr (inr (inl (v, m, at, cause.2, told))))))
del_refusal_suits settings v rows before after refusal.NoMemory said volume cause told = inr (inr (inr (inr (inr (inr told)))))
del_refusal_suits settings v rows before after _ said volume cause told = absurd told

-- WORK ON ONE REPLICA

-- no work is refused for want of room, or of a photo
pub work_refuses : (work : Maintenance) (here : ℕ) (fault : LogicalFault) → RefusesOn work here fault → RefusesWork fault
work_refuses Flush here (refusal.Full m end need capacity) is = absurd is
work_refuses Flush here (refusal.Gone front) is = absurd is
work_refuses Flush here _ is = tt
work_refuses Begin here (refusal.Full m end need capacity) is = absurd is
work_refuses Begin here (refusal.Gone front) is = absurd is
work_refuses Begin here _ is = tt
work_refuses (Step cells) here (refusal.Full m end need capacity) is = absurd is
work_refuses (Step cells) here (refusal.Gone front) is = absurd is
work_refuses (Step cells) here _ is = tt
work_refuses Finish here (refusal.Full m end need capacity) is = absurd is
work_refuses Finish here (refusal.Gone front) is = absurd is
work_refuses Finish here _ is = tt
work_refuses Compact here (refusal.Full m end need capacity) is = absurd is
work_refuses Compact here (refusal.Gone front) is = absurd is
work_refuses Compact here _ is = tt

-- A volume's refusal, as it is told: want of memory, or what suits the work.
module _ (settings : Settings) (v m : ℕ) where
  -- how work is refused on this replica, apart from want of memory
  abbrev SuitsWork : Maintenance → Reply → Type 0
  SuitsWork Flush said = SuitsFlush settings v m said
  SuitsWork Begin said = SuitsBegin settings v m said
  SuitsWork (Step cells) said = SuitsRun settings (reply.Stepped v m) v m said
  SuitsWork Finish said = SuitsRun settings (reply.Compacted v m) v m said
  SuitsWork Compact said = SuitsCompact settings v m said

  read_only : (by : ℕ) (said : Reply) → IsOn settings v by → IsReadOnly v by said → IsReadOnlyAt settings v said ⊎ (said ≡ reply.NoMem)
  read_only by said on (inl is) = inl (by, on, is)
  read_only by said on (inr is) = inr is

  flush_refused : (fault : LogicalFault) (said : Reply) → RefusesFlush m fault → IsThere settings v fault → IsRefusedAs v m fault said → SuitsFlush settings v m said ⊎ (said ≡ reply.NoMem)
  flush_refused (refusal.ReadOnly by) said is there told = elim (read_only by said there told) [ inl h ↦ inl (inr (inl h)) | inr h ↦ inr h ]
  flush_refused (refusal.Failed by count) said is there told = inl (inr (inr (count, told ∙ ap (λ n. reply.Failed v n count) is)))
  flush_refused refusal.NoMemory said is there told = inr told
  flush_refused _ said is there told = absurd is

  begin_refused : (fault : LogicalFault) (said : Reply) → RefusesBegin m fault → IsThere settings v fault → IsRefusedAs v m fault said → SuitsBegin settings v m said ⊎ (said ≡ reply.NoMem)
  begin_refused (refusal.ReadOnly by) said is there told = elim (read_only by said there told) [ inl h ↦ inl (inr (inl h)) | inr h ↦ inr h ]
  begin_refused (refusal.Busy by generation) said is there told = inl (inr (inr (inl (generation, told ∙ ap (λ n. reply.Busy v n generation) is))))
  begin_refused (refusal.Worn by) said is there told = inl (inr (inr (inr (inl (told ∙ ap (λ n. reply.Worn v n) is)))))
  begin_refused (refusal.Failed by count) said is there told = inl (inr (inr (inr (inr (count, told ∙ ap (λ n. reply.Failed v n count) is)))))
  begin_refused refusal.NoMemory said is there told = inr told
  begin_refused _ said is there told = absurd is

  run_refused : (did : ℕ → Reply) (fault : LogicalFault) (said : Reply) → RefusesRun m fault → IsThere settings v fault → IsRefusedAs v m fault said
      → SuitsRun settings did v m said ⊎ (said ≡ reply.NoMem)
  run_refused did (refusal.ReadOnly by) said is there told = elim (read_only by said there told) [ inl h ↦ inl (inr (inl h)) | inr h ↦ inr h ]
  run_refused did refusal.Idle said is there told = inl (inr (inr (inl told)))
  run_refused did (refusal.Failed by count) said is there told = inl (inr (inr (inr (inl (count, told ∙ ap (λ n. reply.Failed v n count) is)))))
  run_refused did (refusal.Damaged by at) said is there told = inl (inr (inr (inr (inr (at, told ∙ ap (λ n. reply.Damaged v n at) is)))))
  run_refused did refusal.NoMemory said is there told = inr told
  run_refused did _ said is there told = absurd is

  compact_refused : (fault : LogicalFault) (said : Reply) → RefusesCompact m fault → IsThere settings v fault → IsRefusedAs v m fault said → SuitsCompact settings v m said ⊎ (said ≡ reply.NoMem)
  compact_refused (refusal.ReadOnly by) said is there told = elim (read_only by said there told) [ inl h ↦ inl (inr (inl h)) | inr h ↦ inr h ]
  compact_refused (refusal.Busy by generation) said is there told = inl (inr (inr (inl (generation, told ∙ ap (λ n. reply.Busy v n generation) is))))
  compact_refused (refusal.Worn by) said is there told = inl (inr (inr (inr (inl (told ∙ ap (λ n. reply.Worn v n) is)))))
  compact_refused (refusal.Failed by count) said is there told = inl (inr (inr (inr (inr (inl (count, told ∙ ap (λ n. reply.Failed v n count) is))))))
  compact_refused (refusal.Damaged by at) said is there told = inl (inr (inr (inr (inr (inr (at, told ∙ ap (λ n. reply.Damaged v n at) is))))))
  compact_refused refusal.NoMemory said is there told = inr told
  compact_refused _ said is there told = absurd is

  pub undone_suits : (work : Maintenance) (fault : LogicalFault) (said : Reply) → RefusesOn work m fault → IsThere settings v fault → IsRefusedAs v m fault said
      → SuitsWork work said ⊎ (said ≡ reply.NoMem)
  undone_suits Flush fault said is there told = flush_refused fault said is there told
  undone_suits Begin fault said is there told = begin_refused fault said is there told
  undone_suits (Step cells) fault said is there told = run_refused (reply.Stepped v m) fault said is there told
  undone_suits Finish fault said is there told = run_refused (reply.Compacted v m) fault said is there told
  undone_suits Compact fault said is there told = compact_refused fault said is there told

  pub done_suits : (work : Maintenance) (n : ℕ) (said : Reply) → said ≡ done_as v m work n → SuitsWork work said
  done_suits Flush n said is = inl (n, is)
  done_suits Begin n said is = inl (n, is)
  done_suits (Step cells) n said is = inl (n, is)
  done_suits Finish n said is = inl (n, is)
  done_suits Compact n said is = inl (n, is)

  pub work_suits : (line replica : ℕ) (work : Maintenance) (said : Reply) → replica_on settings v m ≡ Some replica → SuitsWork work said → Suits settings line (command_of work v m) said
  work_suits line replica Flush said there is = at_replica (replica_on settings v m) (λ j. SuitsFlush settings v m) replica said there is
  work_suits line replica Begin said there is = at_replica (replica_on settings v m) (λ j. SuitsBegin settings v m) replica said there is
  work_suits line replica (Step cells) said there is = at_replica (replica_on settings v m) (λ j. SuitsRun settings (reply.Stepped v m) v m) replica said there is
  work_suits line replica Finish said there is = at_replica (replica_on settings v m) (λ j. SuitsRun settings (reply.Compacted v m) v m) replica said there is
  work_suits line replica Compact said there is = at_replica (replica_on settings v m) (λ j. SuitsCompact settings v m) replica said there is

  pub memory_suits : (line replica : ℕ) (work : Maintenance) (said : Reply) → replica_on settings v m ≡ Some replica → said ≡ reply.NoMem → Suits settings line (command_of work v m) said
  memory_suits line replica Flush said there is = at_no_memory (replica_on settings v m) (λ j. SuitsFlush settings v m) replica said there is
  memory_suits line replica Begin said there is = at_no_memory (replica_on settings v m) (λ j. SuitsBegin settings v m) replica said there is
  memory_suits line replica (Step cells) said there is = at_no_memory (replica_on settings v m) (λ j. SuitsRun settings (reply.Stepped v m) v m) replica said there is
  memory_suits line replica Finish said there is = at_no_memory (replica_on settings v m) (λ j. SuitsRun settings (reply.Compacted v m) v m) replica said there is
  memory_suits line replica Compact said there is = at_no_memory (replica_on settings v m) (λ j. SuitsCompact settings v m) replica said there is

  pub nowhere_suits : (line : ℕ) (work : Maintenance) → replica_on settings v m ≡ None → Suits settings line (command_of work v m) reply.Nowhere
  nowhere_suits line Flush none = at_none (replica_on settings v m) (λ j. SuitsFlush settings v m) none
  nowhere_suits line Begin none = at_none (replica_on settings v m) (λ j. SuitsBegin settings v m) none
  nowhere_suits line (Step cells) none = at_none (replica_on settings v m) (λ j. SuitsRun settings (reply.Stepped v m) v m) none
  nowhere_suits line Finish none = at_none (replica_on settings v m) (λ j. SuitsRun settings (reply.Compacted v m) v m) none
  nowhere_suits line Compact none = at_none (replica_on settings v m) (λ j. SuitsCompact settings v m) none
