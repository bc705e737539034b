-- The rows of a delete.
use Rattle.std.proofs.Common.{◌≡◌, ◌≢◌, ℕ, zero, suc, ◌+◌, ◌<◌, ◌≤◌, Bool, true, false, List, [], ◌∷◌, length, Option, Some, None, refl, sym, ap, subst, ◌∙◌, ◌⊎◌, inl, inr, arith}
use Rattle.std.specs.Prelude.{cond, not, ◌&&◌, ◌==◌, max, map, is_none, is_some, nat_lt, slice_set, slice_index, slice_get}
use Rattle.std.specs.List.{AllByRecursion as Each}
use Rattle.std.specs.Bool.{Decides}
use Rattle.std.proofs.lemmas.Bool.{and_parts, and_from}
use Rattle.std.proofs.lemmas.Bool.Decides.{Decides-eqb, Decides-and}
use Rattle.hay_needle.specs.declared.needle.Pair.{Pair}
use Rattle.hay_needle.specs.declared.settings.Settings.{Settings}
use Rattle.hay_disk.specs.Counts.{Rose}
use Rattle.hay_core.specs.declared.entry.CoreTag.{CoreTag}
use Rattle.hay_core.specs.declared.entry.Entry.TheVariants as entry
use Rattle.hay_reply.specs.declared.ClosedBy.{ClosedBy}
use Rattle.hay_reply.specs.declared.Reply.{Reply}
use Rattle.hay_reply.specs.declared.Reply.TheVariants as reply
use Rattle.hay_legal.specs.declared.known.Run.{Run}
use Rattle.hay_legal.specs.declared.known.Known.{Known}
use Rattle.hay_legal.specs.declared.known.ReplicaKnown.{ReplicaKnown}
use Rattle.hay_legal.specs.Known.{Leaves, NoneFalls, home_of, volume_at, slot_of, replica_on, fault_count, closed}
use Rattle.hay_legal.specs.Plain.{LegalDel, HasPair, change_volume, with_del, ended_where, without_run, disk_rose, frozen_with, IsClosedHome}
use Rattle.hay_audit_steps.specs.CheckerSteps.{Below, AnyOf, IsStep, with_counts}
use Rattle.hay_audit_steps.specs.Laid.{raise_disk, next_count}
use Rattle.hay_audit_steps.specs.Next.{is_at, keep_if, with_fault, endings, raise_ended, deleted, is_home, stands_there, is_closed_home, del_failed_by, next_del}
use Rattle.hay_audit_steps.proofs.Counts.{falls_refl, falls_trans, falls_set, falls_at, falls_length, falls_raised, index_set, index_there}
use Rattle.hay_audit_steps.proofs.Laying.{any_left, any_right, each_both, rise_made, rise_least, rise_there, rise_stays, less_true, less_is}
use Rattle.hay_audit_steps.proofs.Puts.{MayRise, tells_rises_to, rose_needs, rose_leaves, rose_comes}
use Rattle.hay_audit_steps.proofs.Rows.{comes, kept, tested, never, calm}
use Rattle.hay_audit_steps.proofs.Tests.{tells_at, tells_none, tells_flag, tells_unset}

abbrev pub del_row : Settings → CoreTag → Pair → Reply → Known → Known → Type 0
del_row settings tag pair r k t = LegalDel settings k tag pair r t

any_mapped : {X Y : Type 0} (P : X → Type 0) (Q : Y → Type 0) (f : X → Y) (xs : List X) → ((x : X) → P x → Q (f x)) → AnyOf P xs → AnyOf Q (map f xs)
any_mapped P Q f [] step h = h
any_mapped P Q f (x ∷ xs) step h = elim h [ inl here ↦ inl (step x here) | inr there ↦ inr (any_mapped P Q f xs step there) ]

each_mapped : {X Y : Type 0} (P : X → Type 0) (Q : Y → Type 0) (f : X → Y) (xs : List X) → ((x : X) → P x → Q (f x)) → Each P xs → Each Q (map f xs)
each_mapped P Q f [] step h = tt
each_mapped P Q f (x ∷ xs) step h = (step x h.0, each_mapped P Q f xs step h.1)

any_cond : {X : Type 0} (P : X → Type 0) (test : Bool) (xs : List X) → test ≡ true → AnyOf P xs → AnyOf P (cond test xs [])
any_cond P true xs e h = h
any_cond P false xs e h = absurd (let none : false ≡ true = e in cc)

each_cond : {X : Type 0} (P : X → Type 0) (test : Bool) (xs : List X) → (test ≡ true → Each P xs) → Each P (cond test xs [])
each_cond P true xs h = h refl
each_cond P false xs h = tt

-- WHAT ENDED

-- the disks of those that ended rose
abbrev AllRose : Settings → Known → Known → ℕ → ℕ → List Bool → Type 0
AllRose settings k t v j ended = (i : ℕ) → slice_get ended i ≡ Some true → disk_rose settings k t v (j + i) ≡ true

idle : (replica : ReplicaKnown) → replica.run ≡ None → without_run replica ≡ replica
idle replica e = ap (λ (run : Option Run). record replica { run = run }) (sym e)

-- to end what has no run ends nothing
record Chosen (settings : Settings) (k t : Known) (v j : ℕ) (replicas ended : List ReplicaKnown) (choice : List Bool) : Type 0 where
  pub same : ended_where choice replicas ≡ ended
  pub rose : AllRose settings k t v j choice

shift_rose : (settings : Settings) (k t : Known) (v j : ℕ) (x : Bool) (ended : List Bool) → AllRose settings k t v j (x ∷ ended) → AllRose settings k t v (j + 1) ended
shift_rose settings k t v j x ended h i at = subst (λ (n : ℕ). disk_rose settings k t v n ≡ true) (omega arith) (h (suc i) at)

on_rose : (settings : Settings) (k t : Known) (v j : ℕ) (x : Bool) (ended : List Bool) → (x ≡ true → disk_rose settings k t v j ≡ true) → AllRose settings k t v (j + 1) ended
    → AllRose settings k t v j (x ∷ ended)
on_rose settings k t v j x ended here there zero at = subst (λ (n : ℕ). disk_rose settings k t v n ≡ true) (omega arith) (here (let e : Some x ≡ Some true = at in cc))
on_rose settings k t v j x ended here there (suc i) at = subst (λ (n : ℕ). disk_rose settings k t v n ≡ true) (omega arith) (there i at)

abbrev runs : ReplicaKnown → Bool
runs replica = is_some replica.run

-- a run that ended, or a replica without one
ending_here : (settings : Settings) (b k t : Known) (v j : ℕ) (replica : ReplicaKnown) (replicas ended : List ReplicaKnown) (run : Option Run)
    → replica.run ≡ run → length b.faults ≡ length t.faults → disk_rose settings k t v j ≡ true
    → AnyOf (Chosen settings k t v (j + 1) replicas ended) (endings settings b v (j + 1) replicas)
    → AnyOf (Chosen settings k t v j (replica ∷ replicas) (without_run replica ∷ ended)) (endings settings b v j (replica ∷ replicas))
ending_here settings b k t v j replica replicas ended None none e rose rest =
    any_left _ _ _
    (any_mapped (Chosen settings k t v (j + 1) replicas ended) (Chosen settings k t v j (replica ∷ replicas) (without_run replica ∷ ended)) (λ choice. false ∷ choice)
    (endings settings b v (j + 1) replicas)
    (λ choice h. record {
      same = ap (λ (rs : List ReplicaKnown). replica ∷ rs) h.same ∙ ap (λ (r : ReplicaKnown). r ∷ ended) (sym (idle replica none));
      rose = on_rose settings k t v j false choice (λ lie. absurd (let no_way : false ≡ true = lie in cc)) h.rose;
    }) rest)
ending_here settings b k t v j replica replicas ended (Some run) some e rose rest =
    let there : slot_of settings v j < length t.faults =
    index_there t.faults (slot_of settings v j) (rise_there (fault_count k (slot_of settings v j)) (fault_count t (slot_of settings v j)) rose) in
    any_right _ _ _
    (any_cond (Chosen settings k t v j (replica ∷ replicas) (without_run replica ∷ ended)) (is_some replica.run && nat_lt (slot_of settings v j) (length b.faults)) _
    (and_from (is_some replica.run) (nat_lt (slot_of settings v j) (length b.faults)) (ap (λ (r : Option Run). is_some r) some)
    (less_true (slot_of settings v j) (length b.faults) (omega (arith, there, e))))
    (any_mapped (Chosen settings k t v (j + 1) replicas ended) (Chosen settings k t v j (replica ∷ replicas) (without_run replica ∷ ended)) (λ choice. true ∷ choice)
    (endings settings b v (j + 1) replicas)
    (λ choice h. record {
      same = ap (λ (rs : List ReplicaKnown). without_run replica ∷ rs) h.same;
      rose = on_rose settings k t v j true choice (λ yes_it_is. rose) h.rose;
    }) rest))

endings_complete : (settings : Settings) (b k t : Known) (v j : ℕ) (replicas : List ReplicaKnown) (ended : List Bool)
    → length b.faults ≡ length t.faults → AllRose settings k t v j ended
    → AnyOf (Chosen settings k t v j replicas (ended_where ended replicas)) (endings settings b v j replicas)
endings_complete settings b k t v j [] [] e rose = inl (record { same = refl; rose = λ i at. absurd (let none : None ≡ Some true = at in cc) })
endings_complete settings b k t v j [] (true ∷ ended) e rose = inl (record { same = refl; rose = λ i at. absurd (let none : None ≡ Some true = at in cc) })
endings_complete settings b k t v j [] (false ∷ ended) e rose = inl (record { same = refl; rose = λ i at. absurd (let none : None ≡ Some true = at in cc) })
endings_complete settings b k t v j (replica ∷ replicas) [] e rose =
    any_left _ _ _
    (any_mapped (Chosen settings k t v (j + 1) replicas (ended_where [] replicas)) (Chosen settings k t v j (replica ∷ replicas) (replica ∷ replicas)) (λ choice. false ∷ choice)
    (endings settings b v (j + 1) replicas)
    (λ choice h. record { same = ap (λ (rs : List ReplicaKnown). replica ∷ rs) h.same; rose = on_rose settings k t v j false choice (λ lie. absurd (let none : false ≡ true = lie in cc)) h.rose })
    (endings_complete settings b k t v (j + 1) replicas [] e (λ i at. absurd (let none : None ≡ Some true = at in cc))))
endings_complete settings b k t v j (replica ∷ replicas) (false ∷ ended) e rose =
    any_left _ _ _
    (any_mapped (Chosen settings k t v (j + 1) replicas (ended_where ended replicas)) (Chosen settings k t v j (replica ∷ replicas) (replica ∷ ended_where ended replicas))
    (λ choice. false ∷ choice) (endings settings b v (j + 1) replicas)
    (λ choice h. record { same = ap (λ (rs : List ReplicaKnown). replica ∷ rs) h.same; rose = on_rose settings k t v j false choice (λ lie. absurd (let none : false ≡ true = lie in cc)) h.rose })
    (endings_complete settings b k t v (j + 1) replicas ended e (shift_rose settings k t v j false ended rose)))
endings_complete settings b k t v j (replica ∷ replicas) (true ∷ ended) e rose =
    ending_here settings b k t v j replica replicas (ended_where ended replicas) replica.run refl e
    (subst (λ (n : ℕ). disk_rose settings k t v n ≡ true) (omega arith) (rose 0 refl))
    (endings_complete settings b k t v (j + 1) replicas ended e (shift_rose settings k t v j true ended rose))

-- WHAT IS LEFT

-- each that ended is in the list of disks
abbrev InRange : Settings → Known → ℕ → ℕ → List Bool → Type 0
InRange settings b v j [] = Unit {0}
InRange settings b v j (x ∷ ended) = (x ≡ true → slot_of settings v j < length b.faults) × InRange settings b v (j + 1) ended

endings_within : (settings : Settings) (b : Known) (v j : ℕ) (replicas : List ReplicaKnown) → Each (InRange settings b v j) (endings settings b v j replicas)
endings_within settings b v j [] = (tt, tt)
endings_within settings b v j (replica ∷ replicas) =
    each_both (InRange settings b v j) _ _
    (each_mapped (InRange settings b v (j + 1)) (InRange settings b v j) (λ ended. false ∷ ended) (endings settings b v (j + 1) replicas)
    (λ ended h. ((λ lie. absurd (let no_way : false ≡ true = lie in cc)), h)) (endings_within settings b v (j + 1) replicas))
    (each_cond (InRange settings b v j) (is_some replica.run && nat_lt (slot_of settings v j) (length b.faults)) _
    (λ may. each_mapped (InRange settings b v (j + 1)) (InRange settings b v j) (λ ended. true ∷ ended) (endings settings b v (j + 1) replicas)
    (λ ended h. ((λ it. less_is (slot_of settings v j) (length b.faults) (and_parts (is_some replica.run) (nat_lt (slot_of settings v j) (length b.faults)) may).1), h))
    (endings_within settings b v (j + 1) replicas)))

record Raised (settings : Settings) (b c e : Known) (v j : ℕ) (ended : List Bool) : Type 0 where
  volumes : e.volumes ≡ c.volumes
  directory : e.directory ≡ c.directory
  drained : e.drained ≡ c.drained
  fuses : e.fuses ≡ c.fuses
  arms : e.arms ≡ c.arms
  faults : NoneFalls c.faults e.faults
  rose : AllRose settings b e v j ended

ended_raised : (settings : Settings) (b c : Known) (v j : ℕ) (ended : List Bool) → NoneFalls b.faults c.faults → InRange settings b v j ended
    → Raised settings b c (raise_ended settings b v j ended c) v j ended
ended_raised settings b c v j [] first within =
    record { volumes = refl; directory = refl; drained = refl; fuses = refl; arms = refl; faults = falls_refl c.faults; rose = λ i at. absurd (let none : None ≡ Some true = at in cc) }
ended_raised settings b c v j (false ∷ ended) first within =
    let h = ended_raised settings b c v (j + 1) ended first within.1 in
    record {
      volumes = h.volumes;
      directory = h.directory;
      drained = h.drained;
      fuses = h.fuses;
      arms = h.arms;
      faults = h.faults;
      rose = on_rose settings b (raise_ended settings b v (j + 1) ended c) v j false ended (λ lie. absurd (let no_way : false ≡ true = lie in cc)) h.rose;
    }
ended_raised settings b c v j (true ∷ ended) first within =
    let h = ended_raised settings b c v (j + 1) ended first within.1 in
    let x : Known = raise_ended settings b v (j + 1) ended c in
    let slot : ℕ = slot_of settings v j in
    let n : ℕ = max (fault_count x slot) (next_count (fault_count b slot)) in
    let more : NoneFalls x.faults (slice_set x.faults slot n) = falls_raised x.faults slot n (omega arith) in
    let from : NoneFalls b.faults x.faults = falls_trans b.faults c.faults x.faults first h.faults in
    let there : slot < length x.faults = omega (arith, within.0 refl, falls_length b.faults x.faults from) in
    let is : fault_count (raise_disk b slot x) slot ≡ n = index_set x.faults slot n there in
    record {
      volumes = h.volumes;
      directory = h.directory;
      drained = h.drained;
      fuses = h.fuses;
      arms = h.arms;
      faults = falls_trans c.faults x.faults (slice_set x.faults slot n) h.faults more;
      rose = on_rose settings b (raise_disk b slot x) v j true ended
          (λ it. rise_made (fault_count b slot) (fault_count (raise_disk b slot x) slot) (omega (arith, is)))
          (λ i at. rise_stays (fault_count b (slot_of settings v (j + 1 + i))) (fault_count x (slot_of settings v (j + 1 + i))) (fault_count (raise_disk b slot x) (slot_of settings v (j + 1 + i)))
          (falls_at b.faults x.faults (slot_of settings v (j + 1 + i)) from) (falls_at x.faults (slice_set x.faults slot n) (slot_of settings v (j + 1 + i)) more) (h.rose i at));
    }

-- what is raised for those that ended is no more than what rose
ended_below : (settings : Settings) (b k c t : Known) (v j : ℕ) (ended : List Bool) → NoneFalls b.faults k.faults → NoneFalls k.faults t.faults → Below c t → AllRose settings k t v j ended
    → Below (raise_ended settings b v j ended c) t
ended_below settings b k c t v j [] first then below rose = below
ended_below settings b k c t v j (false ∷ ended) first then below rose = ended_below settings b k c t v (j + 1) ended first then below (shift_rose settings k t v j false ended rose)
ended_below settings b k c t v j (true ∷ ended) first then below rose =
    let rest = ended_below settings b k c t v (j + 1) ended first then below (shift_rose settings k t v j true ended rose) in
    let x : Known = raise_ended settings b v (j + 1) ended c in
    let slot : ℕ = slot_of settings v j in
    let here : disk_rose settings k t v j ≡ true = subst (λ (n : ℕ). disk_rose settings k t v n ≡ true) (omega arith) (rose 0 refl) in
    let now : fault_count x slot ≤ fault_count t slot = falls_at x.faults t.faults slot rest.faults in
    let least : next_count (fault_count b slot) ≤ fault_count t slot =
    rise_least (fault_count b slot) (fault_count k slot) (fault_count t slot) (falls_at b.faults k.faults slot first) (falls_at k.faults t.faults slot then) here in
    record {
      volumes = rest.volumes;
      directory = rest.directory;
      drained = rest.drained;
      arms = rest.arms;
      faults = falls_set x.faults t.faults slot (max (fault_count x slot) (next_count (fault_count b slot))) rest.faults (omega (arith, now, least));
    }

-- EACH REPLY

abbrev Home : Settings → Known → Pair → ℕ → ℕ → Type 0
Home settings b pair v d = (home_of b pair ≡ Some v) × ((closed settings b v ≡ None) × (d ≡ length b.directory.rows))

tells_home : (settings : Settings) (b : Known) (pair : Pair) (v d : ℕ) → Decides (is_home settings b pair v d) (Home settings b pair v d)
tells_home settings b pair v d =
    Decides-and (is_at (home_of b pair) v) _ (tells_at (home_of b pair) v)
    (Decides-and (is_none (closed settings b v)) (d == length b.directory.rows) (tells_none (closed settings b v)) (Decides-eqb d (length b.directory.rows)))

deleted_step : (settings : Settings) (b : Known) (tag : CoreTag) (pair : Pair) (v p d : ℕ)
    → Home settings b pair v d → stands_there b pair v ≡ true → p ≡ length (volume_at b v).log + 1
    → IsStep (del_row settings tag pair (reply.Deleted v p d)) b (map (deleted settings b tag pair v) (endings settings b v 0 (volume_at b v).replicas))
deleted_step settings b tag pair v p d home stood position = record {
  sound = each_mapped (InRange settings b v 0) (λ e. del_row settings tag pair (reply.Deleted v p d) b e) (deleted settings b tag pair v) (endings settings b v 0 (volume_at b v).replicas)
      (λ ended within.
      let c : Known = change_volume b v (with_del ended tag pair) in
      let h = ended_raised settings b c v 0 ended (falls_refl b.faults) within in
      record {
        home = record { home = home.0; «open» = home.1.0; rows = home.1.1 };
        stood = stood;
        position = position;
        ended = ended;
        cause = λ i at. subst (λ (n : ℕ). disk_rose settings b (deleted settings b tag pair v ended) v n ≡ true) (omega arith) (h.rose i at);
        leaves = record {
          volumes = h.volumes;
          directory = h.directory;
          drained = h.drained;
          fuses = h.fuses;
          faults = h.faults;
          arms = subst (λ (xs : List ℕ). NoneFalls b.arms xs) (sym h.arms) (falls_refl b.arms);
        };
      })
      (endings_within settings b v 0 (volume_at b v).replicas);
  complete = λ faults arms fuses t f a r.
      let k : Known = with_counts b faults arms fuses in
      let rose : AllRose settings k t v 0 r.ended = λ i at. subst (λ (n : ℕ). disk_rose settings k t v n ≡ true) (omega arith) (r.cause i at) in
      any_mapped (Chosen settings k t v 0 (volume_at b v).replicas (ended_where r.ended (volume_at b v).replicas)) (λ c. Below c t) (deleted settings b tag pair v)
      (endings settings b v 0 (volume_at b v).replicas)
      (λ choice h.
      let below : Below (change_volume b v (with_del choice tag pair)) t =
      subst (λ (rs : List ReplicaKnown). Below (change_volume b v (λ volume. record (with_del choice tag pair volume) { replicas = rs })) t) (sym h.same)
      (comes (change_volume b v (with_del r.ended tag pair)) k (change_volume k v (with_del r.ended tag pair)) t refl refl refl f a r.leaves) in
      ended_below settings b k (change_volume b v (with_del choice tag pair)) t v 0 choice f (r.leaves).faults below h.rose)
      (endings_complete settings b k t v 0 (volume_at b v).replicas r.ended (falls_length b.faults faults f ∙ falls_length faults t.faults (r.leaves).faults) rose);
}

same_some : (x y : ℕ) → Some x ≡ Some y → x ≡ y
same_some x y e = cc

abbrev FailedNeeds : Settings → Known → Pair → ℕ → ℕ → ℕ → Type 0
FailedNeeds settings b pair v f j = (home_of b pair ≡ Some v) × ((closed settings b v ≡ None) × MayRise b (slot_of settings v j) f)

-- a row that may leave two states, the second only where something stood
one_or_two : (row : Known → Known → Type 0) (b e g : Known) (Stood : Type 0) (test : Bool) → Decides test Stood → row b e → (Stood → row b g)
    → ((faults arms fuses : List ℕ) (t : Known) → NoneFalls b.faults faults → NoneFalls b.arms arms → row (with_counts b faults arms fuses) t → Below e t ⊎ (Stood × Below g t))
    → IsStep row b (e ∷ keep_if test g)
one_or_two row b e g Stood true decides first second back = record {
  sound = (first, (second (decides.0 refl), tt));
  complete = λ faults arms fuses t f a r. elim (back faults arms fuses t f a r) [ inl as_it_was ↦ inl as_it_was | inr changed ↦ inr (inl changed.1) ];
}
one_or_two row b e g Stood false decides first second back = record {
  sound = (first, tt);
  complete = λ faults arms fuses t f a r. elim (back faults arms fuses t f a r) [
    | inl as_it_was ↦ inl as_it_was
    | inr changed ↦ absurd (let none : false ≡ true = decides.1 changed.0 in cc)
  ];
}

del_failed_step : (settings : Settings) (b : Known) (tag : CoreTag) (pair : Pair) (v m f : ℕ) (on : Option ℕ) → replica_on settings v m ≡ on
    → IsStep (del_row settings tag pair (reply.Failed v m f)) b (del_failed_by settings b tag pair v m f on)
del_failed_step settings b tag pair v m f None e =
    never (del_row settings tag pair (reply.Failed v m f)) b (λ faults arms fuses t first a r. let none : None ≡ Some r.replica = sym e ∙ r.there in absurd cc)
del_failed_step settings b tag pair v m f (Some j) e =
    let slot : ℕ = slot_of settings v j in
    let frozen : Known → Known = λ (k : Known). change_volume k v (frozen_with m tag (entry.Del pair) true) in
    tested (del_row settings tag pair (reply.Failed v m f)) b _ (FailedNeeds settings b pair v f j) _
    (Decides-and (is_at (home_of b pair) v) _ (tells_at (home_of b pair) v)
    (Decides-and (is_none (closed settings b v)) _ (tells_none (closed settings b v)) (tells_rises_to b (slot_of settings v j) f)))
    (λ needs.
    one_or_two (del_row settings tag pair (reply.Failed v m f)) b (with_fault b slot f) (with_fault (frozen b) slot f) (HasPair b v pair) (stands_there b pair v) (tells_flag (stands_there b pair v))
    (failed_row b tag pair v m f j e needs (with_fault b slot f) (inl (rose_leaves b b slot f refl refl needs.1.1)) (index_set b.faults slot f needs.1.1.there))
    (λ stood. failed_row b tag pair v m f j e needs (with_fault (frozen b) slot f) (inr (stood, rose_leaves b (frozen b) slot f refl refl needs.1.1)) (index_set b.faults slot f needs.1.1.there))
    (λ faults arms fuses t first a r.
    let k : Known = with_counts b faults arms fuses in
    let is : r.replica ≡ j = same_some r.replica j (sym r.there ∙ e) in
    let count : fault_count t (slot_of settings v j) ≡ f = subst (λ (i : ℕ). fault_count t (slot_of settings v i) ≡ f) is (r.rose).count in
    elim r.leaves [
      | inl leaves ↦ inl (rose_comes b b k k t (slot_of settings v j) f refl refl refl first a count leaves)
      | inr changed ↦ inr (
        changed.0,
        rose_comes b (change_volume b v (frozen_with m tag (entry.Del pair) true)) k (change_volume k v (frozen_with m tag (entry.Del pair) true)) t
            (slot_of settings v j) f refl refl refl first a count changed.1,
      )
    ]))
    (λ faults arms fuses t first a r.
    let is : r.replica ≡ j = same_some r.replica j (sym r.there ∙ e) in
    let count : fault_count t (slot_of settings v j) ≡ f = subst (λ (i : ℕ). fault_count t (slot_of settings v i) ≡ f) is (r.rose).count in
    let rose : Rose (slice_index faults (slot_of settings v j)) f = subst (λ (i : ℕ). Rose (slice_index faults (slot_of settings v i)) f) is (r.rose).rose in
    let later : NoneFalls faults t.faults = elim r.leaves [ inl leaves ↦ leaves.faults | inr changed ↦ (changed.1).faults ] in
    (r.home, (r.«open», rose_needs b (slot_of settings v j) f faults t first later count rose)))
  where
    failed_row : (b : Known) (tag : CoreTag) (pair : Pair) (v m f j : ℕ) → replica_on settings v m ≡ Some j → FailedNeeds settings b pair v f j → (t : Known)
        → Leaves b b t ⊎ (HasPair b v pair × Leaves b (change_volume b v (frozen_with m tag (entry.Del pair) true)) t)
        → fault_count t (slot_of settings v j) ≡ f → del_row settings tag pair (reply.Failed v m f) b t
    failed_row b tag pair v m f j e needs t leaves count = record {
      home = needs.0;
      «open» = needs.1.0;
      replica = j;
      there = e;
      rose = record { count = count; rose = needs.1.1.rose };
      leaves = leaves;
    }

tells_closed_home : (settings : Settings) (b : Known) (pair : Pair) (by : List ClosedBy) → Decides (is_closed_home settings b pair by) (IsClosedHome settings b pair by)
tells_closed_home settings b pair [] = (λ h. absurd cc, λ h. absurd h)
tells_closed_home settings b pair (by ∷ []) =
    Decides-and (is_at (home_of b pair) by.volume) (is_at (closed settings b by.volume) by.machine) (tells_at (home_of b pair) by.volume) (tells_at (closed settings b by.volume) by.machine)
tells_closed_home settings b pair (by ∷ other ∷ more) = (λ h. absurd cc, λ h. absurd h)

closed_home_back : (settings : Settings) (b : Known) (pair : Pair) (by : List ClosedBy) (faults arms fuses : List ℕ)
    → IsClosedHome settings (with_counts b faults arms fuses) pair by → IsClosedHome settings b pair by
closed_home_back settings b pair [] faults arms fuses h = h
closed_home_back settings b pair (by ∷ []) faults arms fuses h = h
closed_home_back settings b pair (by ∷ other ∷ more) faults arms fuses h = h

pub del_step : (settings : Settings) (b : Known) (tag : CoreTag) (pair : Pair) (r : Reply) → r ≢ reply.NoMem
    → IsStep (del_row settings tag pair r) b (next_del settings b tag pair r)
del_step settings b tag pair (reply.Deleted v p d) known =
    tested (del_row settings tag pair (reply.Deleted v p d)) b _ (Home settings b pair v d × ((stands_there b pair v ≡ true) × (p ≡ length (volume_at b v).log + 1))) _
    (Decides-and (is_home settings b pair v d) _ (tells_home settings b pair v d)
    (Decides-and (stands_there b pair v) (p == length (volume_at b v).log + 1) (tells_flag (stands_there b pair v)) (Decides-eqb p (length (volume_at b v).log + 1))))
    (λ needs. deleted_step settings b tag pair v p d needs.0 needs.1.0 needs.1.1)
    (λ faults arms fuses t f a r. (((r.home).home, ((r.home).«open», (r.home).rows)), (r.stood, r.position)))
del_step settings b tag pair (reply.Absent v p d) known =
    kept (del_row settings tag pair (reply.Absent v p d)) b b (Home settings b pair v d × ((stands_there b pair v ≡ false) × (p ≡ length (volume_at b v).log))) _
    (Decides-and (is_home settings b pair v d) _ (tells_home settings b pair v d)
    (Decides-and (not (stands_there b pair v)) (p == length (volume_at b v).log) (tells_unset (stands_there b pair v)) (Decides-eqb p (length (volume_at b v).log))))
    (calm (del_row settings tag pair (reply.Absent v p d)) b _
    (λ needs leaves. record { home = record { home = needs.0.0; «open» = needs.0.1.0; rows = needs.0.1.1 }; nothing = needs.1.0; front = needs.1.1; leaves = leaves })
    (λ faults arms fuses t r. ((((r.home).home, ((r.home).«open», (r.home).rows)), (r.nothing, r.front)), r.leaves)))
del_step settings b tag pair (reply.Unknown d) known =
    kept (del_row settings tag pair (reply.Unknown d)) b b _ _
    (Decides-and (is_none (home_of b pair)) (d == length b.directory.rows) (tells_none (home_of b pair)) (Decides-eqb d (length b.directory.rows)))
    (calm (del_row settings tag pair (reply.Unknown d)) b _ (λ needs leaves. ((needs.0, needs.1), leaves)) (λ faults arms fuses t r. ((r.0.0, r.0.1), r.1)))
del_step settings b tag pair (reply.ReadOnly by) known =
    kept (del_row settings tag pair (reply.ReadOnly by)) b b (IsClosedHome settings b pair by) _ (tells_closed_home settings b pair by)
    (calm (del_row settings tag pair (reply.ReadOnly by)) b _ (λ needs leaves. (needs, leaves)) (λ faults arms fuses t r. (closed_home_back settings b pair by faults arms fuses r.0, r.1)))
del_step settings b tag pair (reply.Failed v m f) known = del_failed_step settings b tag pair v m f (replica_on settings v m) refl
del_step settings b tag pair reply.NoMem known = absurd (known refl)
del_step settings b tag pair r known = never (del_row settings tag pair r) b (λ faults arms fuses t first a lie. lie)
