-- What a lane answers suits the command of its line, whatever its calls answered and the disks tell.
use Rattle.std.proofs.Common.{◌≡◌, ◌≢◌, ◌⊎◌, ℕ, suc, ◌+◌, ◌%◌, ◌<◌, ◌≤◌, inl, inr, Bool, false, List, [], ◌∷◌, ◌++◌, length, map, Option, Some, None, refl, sym, ap, subst, ◌∙◌, arith}
use Rattle.std.specs.Prelude.{IfSome, slice_index_or}
use Rattle.std.specs.List.{AllZip}
use Rattle.hay_needle.specs.declared.needle.Cookie.{Cookie}
use Rattle.hay_needle.specs.declared.needle.Pair.{Pair}
use Rattle.hay_needle.specs.declared.settings.Settings.{Settings}
use Rattle.hay_url.specs.declared.Url.{Url as UrlParts}
use Rattle.hay_url.specs.Url.{cookie_of}
use Rattle.hay_script.specs.declared.Command.TheVariants as asks
use Rattle.hay_reply.specs.declared.Refused.{Refused}
use Rattle.hay_reply.specs.declared.Refused.TheVariants.{Closed, NoRoom}
use Rattle.hay_reply.specs.declared.Reply.{Reply}
use Rattle.hay_reply.specs.declared.Reply.TheVariants as reply
use Rattle.hay_legal.specs.Known.{all_tries, machine_of, replica_on, try_at}
use Rattle.hay_legal.specs.Suiting.{AtReplica, IsOn, IsReadOnlyAt, IsRefusedBy, Refuses, ShowsOf, Suits, SuitsBegin, SuitsCompact, SuitsDel, SuitsFlush, SuitsFuse, SuitsGet}
use Rattle.hay_legal.specs.Suiting.{SuitsPut, SuitsRead, SuitsRun, SuitsUrl, start_at}
use Rattle.hay_map.specs.declared.place.Place.{Place}
use Rattle.hay_meeting.specs.Facts.{drained_in}
use Rattle.hay_reader.specs.Causes.{ArmUse, tried_from}
use Rattle.hay_reader.specs.Shown.{HasBytes, ReadsRow, ShowsAt}
use Rattle.hay_reader.specs.declared.causes.PassedReplica.{PassedReplica}
use Rattle.hay_reader.specs.declared.seat.ReadReply.{ReadReply}
use Rattle.hay_reader.specs.declared.seat.ReadReply.TheVariants as read
use Rattle.hay_directory.specs.declared.fault.DirFault.{DirFault}
use Rattle.hay_directory.specs.declared.fault.DirFault.TheVariants as settling
use Rattle.hay_logical.specs.Volumes.{IsMachineOf}
use Rattle.hay_legal.proofs.Machines.{replica_found}
use Rattle.hay_shared_volume.specs.declared.answers.Room.{Room}
use Rattle.hay_shared_volume.specs.declared.answers.Room.TheVariants as room
use Rattle.hay_shared_volume.specs.declared.answers.Put.{Put}
use Rattle.hay_shared_volume.specs.declared.answers.Put.TheVariants as put
use Rattle.hay_shared_volume.specs.declared.answers.Delete.{Delete}
use Rattle.hay_shared_volume.specs.declared.answers.Delete.TheVariants as delete
use Rattle.hay_shared_volume.specs.declared.answers.Flush.{Flush}
use Rattle.hay_shared_volume.specs.declared.answers.Flush.TheVariants as flush
use Rattle.hay_shared_volume.specs.declared.answers.Begin.{Begin}
use Rattle.hay_shared_volume.specs.declared.answers.Begin.TheVariants as begin
use Rattle.hay_shared_volume.specs.declared.answers.Step.{Step}
use Rattle.hay_shared_volume.specs.declared.answers.Step.TheVariants as step
use Rattle.hay_shared_volume.specs.declared.answers.Finish.{Finish}
use Rattle.hay_shared_volume.specs.declared.answers.Finish.TheVariants as finish
use Rattle.hay_shared_volume.specs.declared.answers.Compaction.{Compaction}
use Rattle.hay_shared_volume.specs.declared.answers.Compaction.TheVariants as compaction
use Rattle.hay_shared_volume.specs.Naming.{NamesBegin, NamesCompaction, NamesDelete, NamesFinish, NamesFlush, NamesPut, NamesRoom, NamesStep}
use Rattle.hay_lane.specs.declared.reads.Found.{Found}
use Rattle.hay_lane.specs.declared.reads.Found.TheVariants as found
use Rattle.hay_lane.specs.Puts.{IsPutReply, IsRefusal, room_refusal, settle_reply}
use Rattle.hay_lane.specs.Reads.{FoundWithin, IsFoundAs, IsFoundReply, ShownWithin, passed_at, replicas_in}
use Rattle.hay_lane.specs.Replies.{IsBeginReply, IsCompactionReply, IsDeleteReply, IsFinishReply, IsFlushReply, IsReadOnly, IsStepReply}
use Rattle.hay_legal.proofs.Finds.{map_found}
use Rattle.hay_lane.proofs.Lists.{all_both}
use Rattle.hay_lane.proofs.Putting.{first_tries, tries_parts}

-- OF NO VOLUME

-- where a command names a replica that there is not
pub nowhere : (o : Option ℕ) (suits : ℕ → Reply → Type 0) → None ≡ o → AtReplica o suits reply.Nowhere
nowhere o suits none = subst (λ (p : Option ℕ). AtReplica p suits reply.Nowhere) none (inl refl)

pub no_fuse : (o : Option ℕ) (done : Reply) → None ≡ o → SuitsFuse o done reply.Nowhere
no_fuse o done none = subst (λ (p : Option ℕ). SuitsFuse p done reply.Nowhere) none refl

pub fuses : (o : Option ℕ) (replica : ℕ) (done : Reply) → Some replica ≡ o → SuitsFuse o done done
fuses o replica done there = subst (λ (p : Option ℕ). SuitsFuse p done done) there refl

pub at_replica : (o : Option ℕ) (suits : ℕ → Reply → Type 0) (replica : ℕ) (said : Reply) → Some replica ≡ o → suits replica said ⊎ (said ≡ reply.NoMem) → AtReplica o suits said
at_replica o suits replica said there is = subst (λ (p : Option ℕ). AtReplica p suits said) there is

-- one more of a pair's tries refuses
pub one_more_refuses : (R : ℕ → Refused → Type 0) (settings : Settings) (pair : Pair) (n v : ℕ) (refused : List Refused) (more : Refused) → v ≡ try_at settings pair n → R v more
    → AllZip R (first_tries settings pair n) refused → AllZip R (first_tries settings pair (n + 1)) (refused ++ more ∷ [])
one_more_refuses R settings pair n v refused more is refuses others =
    let e : n + 1 ≡ n + suc 0 = omega arith in
    subst (λ vs. AllZip R vs (refused ++ more ∷ [])) (ap (λ u. first_tries settings pair n ++ u ∷ []) is ∙ sym (tries_parts settings pair n 0 (n + 1) e))
    (all_both R (first_tries settings pair n) (v ∷ []) refused (more ∷ []) others (refuses, tt))

pub refusal_suits : (settings : Settings) (pair : Pair) (size : ℕ) (refused : List Refused) (said : Reply) → AllZip (Refuses settings size) (all_tries settings pair) refused
    → IsRefusal refused said → SuitsPut settings pair size said
refusal_suits settings pair size refused said each (inl full) = inr (inl (refused, (all_tries settings pair, inl refl, each), full.1, full.0))
refusal_suits settings pair size refused said each (inr (inl closed)) =
    inr (inr (inl (closed.0, subst (IsRefusedBy settings pair size) (sym closed.2) (all_tries settings pair, inl refl, each), closed.1)))
refusal_suits settings pair size refused said each (inr (inr is)) = inr (inr (inr (inr (inr (inr is)))))

pub settle_suits : (settings : Settings) (pair : Pair) (size : ℕ) (fault : DirFault) → SuitsPut settings pair size (settle_reply fault)
settle_suits settings pair size settling.Frozen = inr (inr (inr (inl refl)))
settle_suits settings pair size settling.NoMemory = inr (inr (inr (inr (inr (inr refl)))))
settle_suits settings pair size (settling.Failed count) = inr (inr (inr (inr (inr (inl (count, refl))))))

pub url_suits : (settings : Settings) (line : ℕ) (pair : Pair) (d v first machine : ℕ) (cookie : Cookie) → v < settings.volumes → first ≡ start_at settings line → machine ≡ machine_of settings v first
    → cookie ≡ cookie_of settings.secret pair.key → SuitsUrl settings (start_at settings line) pair (reply.Url d (record { machine = machine; volume = v; pair = pair; cookie = cookie }))
url_suits settings line pair d v first machine cookie below from on known = inl (
  v,
  d,
  below,
  ap (λ m. reply.Url d (record { machine = m; volume = v; pair = pair; cookie = cookie })) (on ∙ ap (machine_of settings v) from)
      ∙ ap (λ k. reply.Url d (record { machine = machine_of settings v (start_at settings line); volume = v; pair = pair; cookie = k })) known,
)

-- a row shows by one of its replicas
next_within : (n first passed j : ℕ) → 0 < n → j ≡ (first + passed) % n → j < n
next_within n first passed j some is = omega (arith, some, is)

pub shown_by_row : {P : Type 0} (Tells : Type 0) (arm : ArmUse) (n first : ℕ) (row : List (Place P)) (cookie : Cookie) (passed : List PassedReplica) (put : List ℕ)
    (what : ReadReply) → length row ≡ n → 0 < n
    → ReadsRow Tells arm first row cookie passed put what → ShownWithin first n what
shown_by_row Tells arm n first row cookie passed put (read.Photo j) long some reads = next_within n first (length reads.0) j some (reads.1.next ∙ ap (λ m. (first + length reads.0) % m) long)
shown_by_row Tells arm n first row cookie passed put (read.Gone j) long some reads = next_within n first (length reads.0) j some (reads.1.next ∙ ap (λ m. (first + length reads.0) % m) long)
shown_by_row Tells arm n first row cookie passed put (read.WrongCookie j) long some reads = next_within n first (length reads.0) j some (reads.1.next ∙ ap (λ m. (first + length reads.0) % m) long)
shown_by_row Tells arm n first row cookie passed put (read.Unseen j causes) long some reads = tt
shown_by_row Tells arm n first row cookie passed put (read.Unreadable causes) long some reads =
    reads.0.passes.order ∙ ap (tried_from first (length row)) reads.1 ∙ ap (λ m. tried_from first m m) long

pub shown_at : (first n j : ℕ) (what : ReadReply) → j < n → ShowsAt j what → ShownWithin first n what
shown_at first n j (read.Photo i) within is = subst (λ k. k < n) (sym is) within
shown_at first n j (read.Gone i) within is = subst (λ k. k < n) (sym is) within
shown_at first n j (read.WrongCookie i) within is = subst (λ k. k < n) (sym is) within
shown_at first n j (read.Unseen i causes) within is = absurd is
shown_at first n j (read.Unreadable causes) within is = absurd is

pub found_within : (first n : ℕ) (put : List ℕ) (what : ReadReply) (it : Found) → IsFoundAs what it → ShownWithin first n what → HasBytes put what → FoundWithin first n put it
found_within first n put (read.Photo j) it is within bytes = subst (FoundWithin first n put) (sym is) (within, bytes)
found_within first n put (read.Gone j) it is within bytes = subst (FoundWithin first n put) (sym is) within
found_within first n put (read.WrongCookie j) it is within bytes = subst (FoundWithin first n put) (sym is) within
found_within first n put (read.Unreadable causes) it is within bytes = subst (FoundWithin first n put) (sym is) within
found_within first n put (read.Unseen j causes) it is within bytes = absurd is

-- OF A VOLUME

module _ (settings : Settings) (v : ℕ) (fewer : settings.replicas ≤ settings.machines) (below : v < settings.volumes) where
  on_replica : (j m : ℕ) → j < settings.replicas → m ≡ machine_of settings v j → IsOn settings v m
  on_replica j m within is = (j, ap (replica_on settings v) is ∙ replica_found settings v j below within fewer)

  pub on_machine : (m : ℕ) → IsMachineOf settings v m → IsOn settings v m
  on_machine m is = on_replica is.0 m is.1 is.2

  pub drained_on : (drained : List Bool) (m : ℕ) → drained_in settings drained v ≡ Some m → IsOn settings v m
  drained_on drained m is =
      on_machine m (subst (λ (o : Option ℕ). IfSome o (IsMachineOf settings v)) is
      (map_found (λ i. slice_index_or drained i false) (machine_of settings v) settings.replicas 0 settings.replicas (omega arith)))

  -- PUTS

  one_refuses : (pair : Pair) (size : ℕ) (one : Refused) → Refuses settings size v one → IsRefusedBy settings pair size (one ∷ [])
  one_refuses pair size one refuses = (v ∷ [], inr (v, below, refl), (refuses, tt))

  pub closed_put : (pair : Pair) (size by : ℕ) (said : Reply) → IsOn settings v by → IsReadOnly v by said → SuitsPut settings pair size said
  closed_put pair size by said on (inl is) = inr (inr (inl (record { volume = v; machine = by } ∷ [], one_refuses pair size (Closed v by) (refl, on), is)))
  closed_put pair size by said on (inr is) = inr (inr (inr (inr (inr (inr is)))))

  pub put_suits : (pair : Pair) (size d : ℕ) (cookie : Cookie) (answer : Put) (said : Reply) → cookie ≡ cookie_of settings.secret pair.key → NamesPut settings v size answer
      → IsPutReply v d cookie answer said → SuitsPut settings pair size said
  put_suits pair size d cookie (put.Stored p) said known names is = inl (v, p, d, below, is ∙ ap (reply.Stored v p d) known)
  put_suits pair size d cookie (put.Frozen m) said known names is = closed_put pair size m said (on_machine m names) is
  put_suits pair size d cookie (put.Lacks m end need) said known names (inl is) =
      inr (inl (NoRoom v m end need ∷ [], one_refuses pair size (NoRoom v m end need) (refl, on_machine m names.0, names.1), refl, is))
  put_suits pair size d cookie (put.Lacks m end need) said known names (inr is) = inr (inr (inr (inr (inr (inr is)))))
  put_suits pair size d cookie (put.Failed m f) said known names is = inr (inr (inr (inr (inl (v, m, f, on_machine m names, is)))))
  put_suits pair size d cookie put.NoMemory said known names is = inr (inr (inr (inr (inr (inr is)))))

  pub room_refuses : (size : ℕ) (answer : Room) → NamesRoom settings v size answer → IfSome (room_refusal v answer) (Refuses settings size v)
  room_refuses size room.Fits names = tt
  room_refuses size (room.Frozen m) names = (refl, on_machine m names)
  room_refuses size (room.Lacks m end need) names = (refl, on_machine m names.0, names.1)

  -- READS

  machines_told : (causes : List PassedReplica) → map (λ over. over.machine) (map (passed_at settings v) causes) ≡ map (machine_of settings v) (replicas_in causes)
  machines_told [] = refl
  machines_told (over ∷ causes) = ap (λ (ms : List ℕ). machine_of settings v over.replica ∷ ms) (machines_told causes)

  pub found_suits : (first p d : ℕ) (put : List ℕ) (what : Found) (said : Reply) → FoundWithin first settings.replicas put what → IsFoundReply settings v p d put what said
      → ShowsOf settings first v said ⊎ (said ≡ reply.NoMem)
  found_suits first p d put (found.Photo j) said within is = inl (inl (machine_of settings v j, p, d, put, on_replica j (machine_of settings v j) within.0 refl, within.1, is))
  found_suits first p d put (found.Gone j) said within is = inl (inr (inl (machine_of settings v j, p, d, on_replica j (machine_of settings v j) within refl, is)))
  found_suits first p d put (found.WrongCookie j) said within is = inl (inr (inr (inl (machine_of settings v j, p, d, on_replica j (machine_of settings v j) within refl, is))))
  found_suits first p d put (found.Unreadable causes) said within (inl is) =
      inl (inr (inr (inr (p, d, map (passed_at settings v) causes, machines_told causes ∙ ap (map (machine_of settings v)) within, is))))
  found_suits first p d put (found.Unreadable causes) said within (inr is) = inr is

  pub read_suits : (first : ℕ) (said : Reply) → ShowsOf settings first v said ⊎ (said ≡ reply.NoMem) → SuitsRead settings first said
  read_suits first said (inl shows) = inr (inl (v, below, shows))
  read_suits first said (inr is) = inr (inr is)

  pub get_suits : (url : UrlParts) (first : ℕ) (said : Reply) → v ≡ url.volume → ShowsOf settings first v said ⊎ (said ≡ reply.NoMem) → SuitsGet settings url first said ⊎ (said ≡ reply.NoMem)
  get_suits url first said same (inl shows) = inl (inr (inr (subst (λ u. ShowsOf settings first u said) same shows)))
  get_suits url first said same (inr is) = inr is

  -- DELETES

  pub closed_del : (by : ℕ) (said : Reply) → IsOn settings v by → IsReadOnly v by said → SuitsDel settings said
  closed_del by said on (inl is) = inr (inr (inr (inl (record { volume = v; machine = by }, on, is))))
  closed_del by said on (inr is) = inr (inr (inr (inr (inr (inr is)))))

  pub delete_suits : (d : ℕ) (answer : Delete) (said : Reply) → NamesDelete settings v answer → IsDeleteReply v d answer said → SuitsDel settings said
  delete_suits d (delete.Deleted p) said names is = inl (v, p, d, below, is)
  delete_suits d (delete.Absent p) said names is = inr (inl (v, p, d, below, is))
  delete_suits d (delete.Frozen m) said names is = closed_del m said (on_machine m names) is
  delete_suits d (delete.Failed m f) said names is = inr (inr (inr (inr (inl (v, m, f, on_machine m names, is)))))
  delete_suits d (delete.Damaged m at) said names is = inr (inr (inr (inr (inr (inl (v, m, at, on_machine m names, is))))))
  delete_suits d delete.NoMemory said names is = inr (inr (inr (inr (inr (inr is)))))

  -- WORK ON THE REPLICA ON MACHINE m

  module _ (m j : ℕ) (there : Some j ≡ replica_on settings v m) where
    read_only : (by : ℕ) (said : Reply) → IsOn settings v by → IsReadOnly v by said → IsReadOnlyAt settings v said ⊎ (said ≡ reply.NoMem)
    read_only by said on (inl is) = inl (by, on, is)
    read_only by said on (inr is) = inr is

    flush_said : (answer : Flush) (said : Reply) → NamesFlush settings v answer → IsFlushReply v m answer said → SuitsFlush settings v m said ⊎ (said ≡ reply.NoMem)
    flush_said (flush.Flushed n) said names is = inl (inl (n, is))
    flush_said (flush.Frozen by) said names is = elim (read_only by said (on_machine by names) is) [ inl h ↦ inl (inr (inl h)) | inr h ↦ inr h ]
    flush_said flush.Stuck said names is = elim (read_only m said (j, sym there) is) [ inl h ↦ inl (inr (inl h)) | inr h ↦ inr h ]
    flush_said (flush.Failed f) said names is = inl (inr (inr (f, is)))
    flush_said flush.NoMemory said names is = inr is

    pub flush_suits : (line : ℕ) (answer : Flush) (said : Reply) → NamesFlush settings v answer → IsFlushReply v m answer said → Suits settings line (asks.Flush v m) said
    flush_suits line answer said names is = at_replica (replica_on settings v m) (λ replica. SuitsFlush settings v m) j said there (flush_said answer said names is)

    begin_said : (answer : Begin) (said : Reply) → NamesBegin settings v answer → IsBeginReply v m answer said → SuitsBegin settings v m said ⊎ (said ≡ reply.NoMem)
    begin_said (begin.Begun g) said names is = inl (inl (g, is))
    begin_said (begin.Frozen by) said names is = elim (read_only by said (on_machine by names) is) [ inl h ↦ inl (inr (inl h)) | inr h ↦ inr h ]
    begin_said (begin.Busy g) said names is = inl (inr (inr (inl (g, is))))
    begin_said begin.Worn said names is = inl (inr (inr (inr (inl is))))
    begin_said (begin.Failed f) said names is = inl (inr (inr (inr (inr (f, is)))))
    begin_said begin.NoMemory said names is = inr is

    pub begin_suits : (line : ℕ) (answer : Begin) (said : Reply) → NamesBegin settings v answer → IsBeginReply v m answer said → Suits settings line (asks.Begin v m) said
    begin_suits line answer said names is = at_replica (replica_on settings v m) (λ replica. SuitsBegin settings v m) j said there (begin_said answer said names is)

    step_said : (answer : Step) (said : Reply) → NamesStep settings v answer → IsStepReply v m answer said → SuitsRun settings (reply.Stepped v m) v m said ⊎ (said ≡ reply.NoMem)
    step_said (step.Stepped n) said names is = inl (inl (n, is))
    step_said (step.Frozen by) said names is = elim (read_only by said (on_machine by names) is) [ inl h ↦ inl (inr (inl h)) | inr h ↦ inr h ]
    step_said step.Idle said names is = inl (inr (inr (inl is)))
    step_said (step.Failed f) said names is = inl (inr (inr (inr (inl (f, is)))))
    step_said (step.Damaged at) said names is = inl (inr (inr (inr (inr (at, is)))))
    step_said (step.NoMemory some) said names is = inr is

    pub step_suits : (line cells : ℕ) (answer : Step) (said : Reply) → NamesStep settings v answer → IsStepReply v m answer said → Suits settings line (asks.Step v m cells) said
    step_suits line cells answer said names is =
        at_replica (replica_on settings v m) (λ replica. SuitsRun settings (reply.Stepped v m) v m) j said there (step_said answer said names is)

    finish_said : (answer : Finish) (said : Reply) → NamesFinish settings v answer → IsFinishReply v m answer said → SuitsRun settings (reply.Compacted v m) v m said ⊎ (said ≡ reply.NoMem)
    finish_said (finish.Compacted g) said names is = inl (inl (g, is))
    finish_said (finish.Frozen by) said names is = elim (read_only by said (on_machine by names) is) [ inl h ↦ inl (inr (inl h)) | inr h ↦ inr h ]
    finish_said finish.Idle said names is = inl (inr (inr (inl is)))
    finish_said (finish.Failed f) said names is = inl (inr (inr (inr (inl (f, is)))))
    finish_said (finish.Poised f) said names is = inl (inr (inr (inr (inl (f, is)))))
    finish_said (finish.Damaged at) said names is = inl (inr (inr (inr (inr (at, is)))))
    finish_said finish.NoMemory said names is = inr is

    pub finish_suits : (line : ℕ) (answer : Finish) (said : Reply) → NamesFinish settings v answer → IsFinishReply v m answer said → Suits settings line (asks.Finish v m) said
    finish_suits line answer said names is =
        at_replica (replica_on settings v m) (λ replica. SuitsRun settings (reply.Compacted v m) v m) j said there (finish_said answer said names is)

    -- a whole compaction that was not begun
    unbegun_said : (answer : Begin) (said : Reply) → ((g : ℕ) → answer ≢ begin.Begun g) → NamesBegin settings v answer → IsBeginReply v m answer said
        → SuitsCompact settings v m said ⊎ (said ≡ reply.NoMem)
    unbegun_said (begin.Begun g) said not names is = absurd (not g refl)
    unbegun_said (begin.Frozen by) said not names is = elim (read_only by said (on_machine by names) is) [ inl h ↦ inl (inr (inl h)) | inr h ↦ inr h ]
    unbegun_said (begin.Busy g) said not names is = inl (inr (inr (inl (g, is))))
    unbegun_said begin.Worn said not names is = inl (inr (inr (inr (inl is))))
    unbegun_said (begin.Failed f) said not names is = inl (inr (inr (inr (inr (inl (f, is))))))
    unbegun_said begin.NoMemory said not names is = inr is

    pub unbegun_suits : (line : ℕ) (answer : Begin) (said : Reply) → ((g : ℕ) → answer ≢ begin.Begun g) → NamesBegin settings v answer → IsBeginReply v m answer said
        → Suits settings line (asks.Compact v m) said
    unbegun_suits line answer said not names is =
        at_replica (replica_on settings v m) (λ replica. SuitsCompact settings v m) j said there (unbegun_said answer said not names is)

    -- and one that was, and is not lost
    ended_said : (answer : Compaction) (said : Reply) → answer ≢ compaction.Idle → NamesCompaction settings v answer → IsCompactionReply v m answer said
        → SuitsCompact settings v m said ⊎ (said ≡ reply.NoMem)
    ended_said (compaction.Compacted g) said not names is = inl (inl (g, is))
    ended_said (compaction.Frozen by) said not names is = elim (read_only by said (on_machine by names) is) [ inl h ↦ inl (inr (inl h)) | inr h ↦ inr h ]
    ended_said (compaction.Deleted f) said not names is = inl (inr (inr (inr (inr (inl (f, is))))))
    ended_said (compaction.Failed f) said not names is = inl (inr (inr (inr (inr (inl (f, is))))))
    ended_said (compaction.Poised f) said not names is = inl (inr (inr (inr (inr (inl (f, is))))))
    ended_said (compaction.Damaged at) said not names is = inl (inr (inr (inr (inr (inr (at, is))))))
    ended_said compaction.NoMemory said not names is = inr is
    ended_said compaction.Idle said not names is = absurd (not refl)

    pub ended_suits : (line : ℕ) (answer : Compaction) (said : Reply) → answer ≢ compaction.Idle → NamesCompaction settings v answer → IsCompactionReply v m answer said
        → Suits settings line (asks.Compact v m) said
    ended_suits line answer said not names is =
        at_replica (replica_on settings v m) (λ replica. SuitsCompact settings v m) j said there (ended_said answer said not names is)
