-- The answers of reads and of gets, whatever was found.
use Rattle.std.proofs.Common.{◌≡◌, inl, inr, ℕ, suc, ◌+◌, ◌-◌, ◌%◌, ◌<◌, ◌≤◌, Bool, List, [], ◌∷◌, ◌++◌, length, map, refl, sym, ap, subst, ◌∙◌, arith, Some}
use Rattle.std.specs.List.{range_with_len}
use Rattle.std.proofs.Math.Nat.{mod-lt}
use Rattle.std.proofs.lemmas.Bool.{ne_eqb}
use Rattle.std.proofs.lemmas.List.{map-append}
use Rattle.hay_needle.specs.declared.needle.Pair.{Pair}
use Rattle.hay_needle.specs.declared.needle.Cookie.{Cookie}
use Rattle.hay_needle.specs.declared.needle.Outcome.{Outcome}
use Rattle.hay_needle.specs.declared.needle.Outcome.TheVariants as outcome
use Rattle.hay_needle.specs.declared.settings.Settings.{Settings}
use Rattle.hay_url.specs.declared.Url.{Url as UrlParts}
use Rattle.hay_script.specs.declared.Command.TheVariants as command
use Rattle.hay_reply.specs.declared.Cause.{Cause}
use Rattle.hay_reply.specs.declared.Passed.{Passed}
use Rattle.hay_reply.specs.declared.Reply.{Reply}
use Rattle.hay_reply.specs.declared.Reply.TheVariants as reply
use Rattle.hay_core.specs.declared.entry.CoreTag.{CoreTag}
use Rattle.hay_legal.specs.Known.{machine_of, replica_on}
use Rattle.hay_legal.specs.Plain.{order_from, start_of}
use Rattle.hay_history.proofs.Placing.{same_machine}
use Rattle.hay_meeting.specs.Acts.{Start}
use Rattle.hay_meeting.specs.Sights.{Sight}
use Rattle.hay_holdings.specs.Lines.{IsAnswered, Looking, ShowsAs, Unchanged}
use Rattle.hay_holdings.proofs.ReadAnswers as reading
use Rattle.hay_holdings.proofs.Unchanged.{wants_memory}
use Rattle.hay_reader.specs.declared.causes.PassedReplica.{PassedReplica}
use Rattle.hay_reader.specs.declared.seat.ReadReply.{ReadReply}
use Rattle.hay_reader.specs.declared.seat.ReadReply.TheVariants as read
use Rattle.hay_shared_volume.specs.declared.answers.Looked.{Looked}
use Rattle.hay_lane.specs.declared.reads.Found.{Found}
use Rattle.hay_lane.specs.declared.reads.Found.TheVariants as found
use Rattle.hay_lane.specs.Reads.{AllPassed, FoundTells, HasFound, HasRead, IsFoundAs, IsFoundReply, IsOther, ReadTells, ShowTells, ShownBy, causes_in, passed_at, replicas_in}
use Rattle.hay_legal.proofs.Machines.{replica_hit}
use Rattle.hay_lane.proofs.Putting.{range_parts}

-- a replica is found by its machine
replica_found : (settings : Settings) (v j : ℕ) → v < settings.volumes → j < settings.replicas → settings.replicas ≤ settings.machines → replica_on settings v (machine_of settings v j) ≡ Some j
replica_found settings v j below within narrow =
    sym (replica_hit settings v (machine_of settings v j) j below within refl
    (λ i less. ne_eqb (machine_of settings v i) (machine_of settings v j)
    (λ same. let one = same_machine settings narrow v i j (omega (arith, less, within)) within same in omega (arith, less, one))))

-- the causes and the machines that are told
told_causes : (settings : Settings) (v : ℕ) (over : List PassedReplica) → map (λ (p : Passed). p.cause) (map (passed_at settings v) over) ≡ causes_in over
told_causes settings v [] = refl
told_causes settings v (p ∷ over) = ap (λ (cs : List Cause). p.cause ∷ cs) (told_causes settings v over)

told_machines : (settings : Settings) (v : ℕ) (over : List PassedReplica) → map (λ (p : Passed). p.machine) (map (passed_at settings v) over) ≡ map (machine_of settings v) (replicas_in over)
told_machines settings v [] = refl
told_machines settings v (p ∷ over) = ap (λ (ms : List ℕ). machine_of settings v p.replica ∷ ms) (told_machines settings v over)

module _ (settings : Settings) (start : Start) (drained : List Bool) (tag : CoreTag) (pair : Pair) (d v first : ℕ) where
  -- what was read is found
  pub found_as : {P : Type 0} {Tells : Type 0} {cookie : Cookie} {looked : Looked P} {put : List ℕ} {a b : Sight} (reply : ReadReply) (what : Found) → IsFoundAs reply what
      → HasRead settings start drained tag pair d v first Tells cookie looked put reply a b → HasFound settings start drained tag pair d v first cookie looked.front put what a b
  found_as {cookie = cookie} {looked} {put} {a} {b} reply what is has = record { what = has.what; tells = tells reply is has.tells }
    where
      Tell : Found → Type 0
      Tell f = FoundTells settings start drained tag pair d v first cookie looked.front has.what put f a b

      tells : (r : ReadReply) → IsFoundAs r what → ReadTells settings start drained tag pair d v first cookie looked.front has.what put r a b → Tell what
      tells (read.Photo j) same shows = subst Tell (sym same) shows
      tells (read.Gone j) same shows = subst Tell (sym same) shows
      tells (read.WrongCookie j) same shows = subst Tell (sym same) shows
      tells (read.Unreadable causes) same shows = subst Tell (sym same) shows
      tells (read.Unseen j causes) same shows = absurd same

  -- THE ORDER OF THE TRIES

  abbrev try_at : ℕ → ℕ
  try_at i = (first + i) % settings.replicas

  module _ {p : ℕ} {what : ℕ → Outcome} {a b : Sight} (below : v < settings.volumes) (narrow : settings.replicas ≤ settings.machines) where
    module _ {j : ℕ} {IsSo : Outcome → Type 0} (s : ShownBy settings start drained tag pair d v first p what j IsSo a b) where
      abbrev later : List ℕ
      later = map try_at (range_with_len (0 + length s.causes + 1) (settings.replicas - length s.causes - 1))

      in_order : order_from settings first ≡ replicas_in s.causes ++ j ∷ later
      in_order =
          let n = length s.causes in
          let k = settings.replicas - n - 1 in
          let many : settings.replicas ≡ n + suc k = let fewer = s.fewer in omega (arith, fewer) in
          let here : try_at (0 + n) ≡ j = (let e : 0 + n ≡ n = omega arith in ap try_at e) ∙ sym s.next in
          ap (λ (m : ℕ). map try_at (range_with_len 0 m)) many
          ∙ (ap (map try_at) (range_parts 0 n k)
          ∙ (map-append try_at (range_with_len 0 n) ((0 + n) ∷ range_with_len (0 + n + 1) k)
          ∙ (ap (λ (js : List ℕ). js ++ try_at (0 + n) ∷ later) (sym (s.passed).order)
          ∙ ap (λ (i : ℕ). replicas_in s.causes ++ i ∷ later) here)))

      within : j < settings.replicas
      within = let fewer = s.fewer in let some : 0 < settings.replicas = omega (arith, fewer) in let next = s.next in let low = mod-lt (first + length s.causes) some in omega (arith, next, low)

      there : replica_on settings v (machine_of settings v j) ≡ Some j
      there = replica_found settings v j below within narrow

    pub photo_as : (cookie : Cookie) {j : ℕ} {put : List ℕ} → ShownBy settings start drained tag pair d v first p what j (λ o. o ≡ outcome.Photo (record { cookie = cookie; bytes = put })) a b
        → ShowsAs settings start drained tag first pair cookie (reply.Photo v (machine_of settings v j) p d put) a b
    photo_as cookie s = reading.shows_photo settings start drained tag pair d v (s.passed).looking below (later s) (within s) (there s) (in_order s) s.is

    pub gone_as : (cookie : Cookie) {j : ℕ} → ShownBy settings start drained tag pair d v first p what j (λ o. o ≡ outcome.Nothing) a b
        → ShowsAs settings start drained tag first pair cookie (reply.Gone v (machine_of settings v j) p d) a b
    gone_as cookie s = reading.shows_gone settings start drained tag pair d v (s.passed).looking below (later s) (within s) (there s) (in_order s) s.is

    pub wrong_as : (cookie : Cookie) {j : ℕ} → ShownBy settings start drained tag pair d v first p what j (IsOther cookie) a b
        → ShowsAs settings start drained tag first pair cookie (reply.WrongCookie v (machine_of settings v j) p d) a b
    wrong_as cookie s = reading.shows_wrong_cookie settings start drained tag pair d v (s.passed).looking below (later s) (within s) (there s) (in_order s) (s.is).1 (s.is).2

    pub unreadable_as : (cookie : Cookie) {causes : List PassedReplica} → AllPassed settings start drained tag pair d v first p what causes a b
        → ShowsAs settings start drained tag first pair cookie (reply.Unreadable v p d (map (passed_at settings v) causes)) a b
    unreadable_as cookie {causes} all =
        let looking : Looking settings start drained tag pair d v p what (replicas_in causes) (map (λ (q : Passed). q.cause) (map (passed_at settings v) causes)) a b =
        subst (λ (cs : List Cause). Looking settings start drained tag pair d v p what (replicas_in causes) cs a b) (sym (told_causes settings v causes)) (all.0).looking in
        reading.shows_unreadable settings start drained tag pair d v looking below (ap (λ (n : ℕ). map try_at (range_with_len 0 n)) (sym all.1) ∙ sym (all.0).order) (told_machines settings v causes)

    pub none_changed : {causes : List PassedReplica} → AllPassed settings start drained tag pair d v first p what causes a b → Unchanged tag a b
    none_changed all = reading.read_wants settings start drained tag pair d v ((all.0).looking).passed

-- A READ

module _ (settings : Settings) (start : Start) (drained : List Bool) (tag : CoreTag) (pair : Pair) (cookie : Cookie) (d v : ℕ) (below : v < settings.volumes)
    (narrow : settings.replicas ≤ settings.machines) (a b : Sight) where
  abbrev Answered : Reply → Type 0
  Answered r = IsAnswered settings start drained tag (command.Read pair cookie) r a b

  unchanged_read : Unchanged tag a b → Answered reply.NoMem
  unchanged_read un = wants_memory settings start drained un (command.Read pair cookie) (λ pick e. absurd (cc e))

  found_read : (p : ℕ) (what : ℕ → Outcome) (put : List ℕ) (f : Found) (r : Reply) → IsFoundReply settings v p d put f r
      → FoundTells settings start drained tag pair d v (start_of settings tag) cookie p what put f a b → Answered r
  found_read p what put (found.Photo j) r is s =
      subst Answered (sym is) (reading.read_answered settings start drained tag (photo_as settings start drained tag pair d v (start_of settings tag) below narrow cookie s))
  found_read p what put (found.Gone j) r is s =
      subst Answered (sym is) (reading.read_answered settings start drained tag (gone_as settings start drained tag pair d v (start_of settings tag) below narrow cookie s))
  found_read p what put (found.WrongCookie j) r is s =
      subst Answered (sym is) (reading.read_answered settings start drained tag (wrong_as settings start drained tag pair d v (start_of settings tag) below narrow cookie s))
  found_read p what put (found.Unreadable causes) r (inl is) s =
      subst Answered (sym is) (reading.read_answered settings start drained tag (unreadable_as settings start drained tag pair d v (start_of settings tag) below narrow cookie s))
  found_read p what put (found.Unreadable causes) r (inr is) s = subst Answered (sym is) (unchanged_read (none_changed settings start drained tag pair d v (start_of settings tag) below narrow s))

  pub read_shown : (r : Reply) → ShowTells settings start drained tag pair cookie d v (start_of settings tag) r a b → Answered r
  read_shown r (inl x) = found_read x.front (x.tells).what x.put x.found r x.is (x.tells).tells
  read_shown r (inr none) = subst Answered (sym none.0) (elim none.1 [
    | inl un ↦ unchanged_read un
    | inr froze ↦ reading.read_sight_wanted settings start drained tag pair d v froze.over froze.wanted
  ])

-- A GET

module _ (settings : Settings) (start : Start) (drained : List Bool) (tag : CoreTag) (url : UrlParts) (d v first : ℕ) (at : v ≡ url.volume)
    (on : replica_on settings url.volume url.machine ≡ Some first)
    (below : v < settings.volumes) (narrow : settings.replicas ≤ settings.machines) (a b : Sight) where
  abbrev Got : Reply → Type 0
  Got r = IsAnswered settings start drained tag (command.Get url) r a b

  unchanged_get : Unchanged tag a b → Got reply.NoMem
  unchanged_get un = wants_memory settings start drained un (command.Get url) (λ pick e. absurd (cc e))

  found_get : (p : ℕ) (what : ℕ → Outcome) (put : List ℕ) (f : Found) (r : Reply) → IsFoundReply settings v p d put f r
      → FoundTells settings start drained tag url.pair d v first url.cookie p what put f a b → Got r
  found_get p what put (found.Photo j) r is s =
      subst Got (sym is) (reading.get_photo settings start drained tag url on a b at (photo_as settings start drained tag url.pair d v first below narrow url.cookie s))
  found_get p what put (found.Gone j) r is s =
      subst Got (sym is) (reading.get_gone settings start drained tag url on a b at (gone_as settings start drained tag url.pair d v first below narrow url.cookie s))
  found_get p what put (found.WrongCookie j) r is s =
      subst Got (sym is) (reading.get_wrong_cookie settings start drained tag url on a b at (wrong_as settings start drained tag url.pair d v first below narrow url.cookie s))
  found_get p what put (found.Unreadable causes) r (inl is) s =
      subst Got (sym is) (reading.get_unreadable settings start drained tag url on a b at (unreadable_as settings start drained tag url.pair d v first below narrow url.cookie s))
  found_get p what put (found.Unreadable causes) r (inr is) s = subst Got (sym is) (unchanged_get (none_changed settings start drained tag url.pair d v first below narrow s))

  pub get_shown : (r : Reply) → ShowTells settings start drained tag url.pair url.cookie d v first r a b → Got r
  get_shown r (inl x) = found_get x.front (x.tells).what x.put x.found r x.is (x.tells).tells
  get_shown r (inr none) = subst Got (sym none.0) (elim none.1 [
    | inl un ↦ unchanged_get un
    | inr froze ↦ reading.get_sight_wanted settings start drained tag url.pair d v froze.over froze.wanted refl (sym at) on
  ])
