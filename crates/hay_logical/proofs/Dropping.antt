-- Changes behind which each compaction was let go.
use Rattle.std.proofs.lemmas.Bool.{true≢false}
use Rattle.std.proofs.Common.{true, ◌≡◌, inl, inr, ℕ, ◌<◌, ◌≤◌, List, length, sym, ap, subst, ◌∙◌, arith}
use Rattle.hay_needle.specs.declared.needle.Cookie.{Cookie}
use Rattle.hay_needle.specs.declared.needle.Pair.{Pair}
use Rattle.hay_disk.specs.Counts.{Rose}
use Rattle.hay_disk.specs.Disk.{Files}
use Rattle.hay_map.specs.Places.{place_in}
use Rattle.hay_map.specs.declared.place.Place.{Place}
use Rattle.hay_map.specs.declared.place.Place.TheVariants as place
use Rattle.hay_physical.specs.declared.fault.ReplicaFault.{ReplicaFault}
use Rattle.hay_physical.specs.declared.fault.ReplicaFault.TheVariants as fault
use Rattle.hay_physical.specs.OpenCopies.{Copy, end_of, goal_of, is_frozen}
use Rattle.hay_logical.specs.declared.replicas.Broken.{Broken}
use Rattle.hay_logical.specs.declared.replicas.DiskFailed.{DiskFailed}
use Rattle.hay_logical.specs.Fits.{At}
use Rattle.hay_logical.specs.Refusals.{IsUntouched}
use Rattle.hay_logical.specs.ReplicaCalls.{AllIdle, DeleteLeaves, DeletesAt, EndsRuns, IsPutFault, KeepsReach, Lengthens, LosesRun, PutLeaves, StillRuns}
use Rattle.hay_logical.specs.Volumes.{KeepsCounts}
use Rattle.hay_logical.proofs.Calls.{reach_behind, reach_through}
use Rattle.hay_logical.proofs.Lists.{at_below, at_there}

pub not_untouched : {D : Type 0} (replicas : List (Copy D)) (broken : Broken)
    → (broken.fault ≡ fault.NoMemory → broken.at ≡ 0 → (r : Copy D) → At replicas 0 r → is_frozen r ≡ true) → IsUntouched replicas broken → ⊥
not_untouched replicas broken touched un = true≢false (sym (touched un.fault un.first un.replica un.there) ∙ un.thawed)

module _ {D : Type 0} (DiskTells : Type 0) (files : D → Files) where
  pub loses_after : (r x y : Copy D) → LosesRun DiskTells files r x → LosesRun DiskTells files x y → LosesRun DiskTells files r y
  loses_after r x y a b = record {
    idle = λ e. b.idle (ap (λ z. goal_of z) (a.idle e) ∙ e) ∙ a.idle e;
    «open» = λ h. b.«open» (a.«open» h);
    up = λ h. b.up (a.up h);
    froze = λ h. b.froze (a.froze h);
    sup = b.sup ∙ a.sup;
    disk = b.disk ∙ a.disk;
    frozen = b.frozen ∙ a.frozen;
    stuck = b.stuck ∙ a.stuck;
    stands = λ tells s h. b.stands tells s (a.stands tells s h);
    holds = λ tells c s t h. b.holds tells c s t (a.holds tells c s t h);
    reach = λ tells. reach_through files r x y (a.reach tells) (b.reach tells);
    end = b.end ∙ a.end;
  }

  abbrev pub LoseRuns : List (Copy D) → List (Copy D) → Type 0
  LoseRuns middle new = (j : ℕ) (r r' : Copy D) → At middle j r → At new j r' → LosesRun DiskTells files r r'

  pub still_runs : (old new : List (Copy D)) (broken : Broken) → EndsRuns DiskTells files old new broken → IsUntouched new broken → StillRuns DiskTells files old new broken
  still_runs old new broken (inl still) un = still
  still_runs old new broken (inr ended) un = absurd (ended.1 un)

  pub all_idle : (old new : List (Copy D)) (broken : Broken) → EndsRuns DiskTells files old new broken → (IsUntouched new broken → ⊥) → AllIdle new
  all_idle old new broken (inl still) never = absurd (never still.is)
  all_idle old new broken (inr ended) never = ended.0

  module _ (faults : D → ℕ) (old middle new : List (Copy D)) (count : length new ≡ length middle) (each : LoseRuns middle new) where
    pub between : (j : ℕ) (r' : Copy D) → At new j r' → (r : Copy D) × At middle j r × LosesRun DiskTells files r r'
    between j r' f =
        let there = at_there middle j (let h = at_below new j r' f in let less : j < length middle = omega (arith, h, count) in less) in
        (there.0, there.1, each j there.0 r' there.1 f)

    pub after : (j : ℕ) (r : Copy D) → At middle j r → (r' : Copy D) × At new j r' × LosesRun DiskTells files r r'
    after j r e =
        let there = at_there new j (let h = at_below middle j r e in let less : j < length new = omega (arith, h, count) in less) in
        (there.0, there.1, each j r there.0 e there.1)

    pub counts_on : (fuses : D → ℕ) → KeepsCounts faults fuses old middle → KeepsCounts faults fuses old new
    counts_on fuses k = record {
      count = count ∙ k.count;
      rises = λ j r r' e f. let b = between j r' f in subst (λ d. faults r.disk ≤ faults d) (sym (b.2.disk)) (k.rises j r b.0 e b.1);
      stay = λ j r r' e f. let b = between j r' f in ap fuses (b.2.disk) ∙ k.stay j r b.0 e b.1;
    }

    pub reach_on : (IsKept : ℕ → ℕ → ℕ → Type 0) → ((j : ℕ) (r r' : Copy D) → At old j r → At middle j r' → DiskTells → KeepsReach files (IsKept j) r r')
        → (j : ℕ) (r r' : Copy D) → At old j r → At new j r' → DiskTells → KeepsReach files (IsKept j) r r'
    reach_on IsKept keeps j r r' e f tells = let b = between j r' f in reach_behind files r b.0 r' (keeps j r b.0 e b.1 tells) (b.2.reach tells)

    pub ends_on : Lengthens old middle → Lengthens old new
    ends_on ends j r r' e f = let b = between j r' f in subst (λ n. end_of r ≤ n) (sym (b.2.end)) (ends j r b.0 e b.1)

    -- A PUT

    put_cause_on : (r x y : Copy D) (f : ReplicaFault) → LosesRun DiskTells files x y → IsPutFault faults r x f → IsPutFault faults r y f
    put_cause_on r x y (fault.Failed printed) loses cause =
        (subst (λ d. Rose (faults r.disk) (faults d)) (sym loses.disk) cause.0, cause.1 ∙ ap faults (sym loses.disk), loses.froze cause.2)
    put_cause_on r x y fault.NoMemory loses cause = tt
    put_cause_on r x y fault.Frozen loses cause = absurd cause
    put_cause_on r x y (fault.Full end need capacity) loses cause = absurd cause
    put_cause_on r x y (fault.Busy generation) loses cause = absurd cause
    put_cause_on r x y (fault.Ended ended) loses cause = absurd cause
    put_cause_on r x y fault.Worn loses cause = absurd cause
    put_cause_on r x y (fault.Damaged at) loses cause = absurd cause

    pub put_leaves_on : (pair : Pair) (cookie : Cookie) (bytes : List ℕ) (broken : Broken)
        → PutLeaves DiskTells files faults pair cookie bytes old middle broken → PutLeaves DiskTells files faults pair cookie bytes old new broken
    put_leaves_on pair cookie bytes broken l =
        let a = after broken.at l.after l.is in
        record {
          before = l.before;
          after = a.0;
          was = l.was;
          is = a.1;
          below = λ j r r' less e f.
              let b = between j r' f in
              let p = l.below j r b.0 less e b.1 in
              (b.2.up p.0, b.2.sup ∙ p.1, b.2.stuck ∙ p.2, λ tells s h. b.2.stands tells _ (p.3 tells s h));
          there = record {
            «open» = a.2.«open» l.there.«open»;
            sup = a.2.sup ∙ l.there.sup;
            stuck = a.2.stuck ∙ l.there.stuck;
            stands = λ tells s h. elim (l.there.stands tells s h) [
              | inl stays ↦ inl (a.2.stands tells s stays)
              | inr gone ↦ inr (a.2.froze gone.0, a.2.holds tells _ _ _ gone.1)
            ];
          };
          above = λ j r r' more e f. let b = between j r' f in loses_after r b.0 r' (l.above j r b.0 more e b.1) b.2;
          cause = put_cause_on l.before l.after a.0 broken.fault a.2 l.cause;
        }

    pub untouched_back : (broken : Broken) → IsUntouched new broken → IsUntouched middle broken
    untouched_back broken un =
        let b = between 0 un.replica un.there in
        record { first = un.first; fault = un.fault; replica = b.0; there = b.1; thawed = sym (b.2.frozen) ∙ un.thawed }

    -- A DELETE

    deletes_after : {P : Type 0} (p : Place P) (r x y : Copy D) → LosesRun DiskTells files x y → DeletesAt DiskTells files p r x → DeletesAt DiskTells files p r y
    deletes_after (place.Live needle) r x y loses d = (loses.up d.0, loses.sup ∙ d.1, loses.stuck ∙ d.2, λ tells s h live. loses.stands tells _ (d.3 tells s h live))
    deletes_after place.Gone r x y loses d = loses_after r x y d loses
    deletes_after place.None r x y loses d = loses_after r x y d loses
    deletes_after (place.Unseen at size) r x y loses d = loses_after r x y d loses

    pub delete_leaves_on : {P : Type 0} (row : List (Place P)) (failed : DiskFailed)
        → DeleteLeaves DiskTells files faults row old middle failed → DeleteLeaves DiskTells files faults row old new failed
    delete_leaves_on row failed l =
        let a = after failed.at l.after l.is in
        record {
          before = l.before;
          after = a.0;
          needle = l.needle;
          was = l.was;
          is = a.1;
          live = l.live;
          below = λ j r r' less e f. let b = between j r' f in deletes_after (place_in row j) r b.0 r' b.2 (l.below j r b.0 less e b.1);
          frozen = a.2.froze l.frozen;
          sup = a.2.sup ∙ l.sup;
          stuck = a.2.stuck ∙ l.stuck;
          left = λ tells s h live. a.2.holds tells _ _ _ (l.left tells s h live);
          above = λ j r r' more e f. let b = between j r' f in loses_after r b.0 r' (l.above j r b.0 more e b.1) b.2;
          rose = subst (λ d. Rose (faults (l.before).disk) (faults d)) (sym (a.2.disk)) l.rose;
          printed = l.printed ∙ ap faults (sym (a.2.disk));
        }
