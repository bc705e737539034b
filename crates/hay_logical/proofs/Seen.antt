-- How what is seen of a volume changes with its replicas.
use Rattle.std.proofs.Common.{◌≡◌, ◌⊎◌, inl, inr, ℕ, zero, suc, ◌+◌, ◌*◌, ◌≤◌, Bool, true, false, List, [], ◌∷◌, length, Option, None, Some, refl, sym, ap, subst, ◌∙◌, arith}
use Rattle.std.specs.Prelude.{is_some, not, map, slice_set, Result, Ok, Err, IfOk, OnOk}
use Rattle.std.proofs.lemmas.Bool.{true≢false}
use Rattle.std.proofs.lemmas.List.{length-map}
use Rattle.hay_needle.specs.declared.settings.Settings.{Settings}
use Rattle.hay_needle.specs.declared.needle.Version.TheVariants.{Two}
use Rattle.hay_needle.specs.Sizes.{max_photo, needle_total}
use Rattle.hay_needle.specs.declared.settings.TheConstants.{LAST_GENERATION}
use Rattle.hay_needle.specs.declared.total.TheConstants.{MAX_NEEDLE}
use Rattle.hay_map.specs.MapRows.{MapRows}
use Rattle.hay_legal.specs.Known.{machine_of}
use Rattle.hay_physical.specs.declared.fault.ReplicaFault.{ReplicaFault}
use Rattle.hay_physical.specs.declared.fault.ReplicaFault.TheVariants as fault
use Rattle.hay_physical.specs.declared.state.Phase.{Phase}
use Rattle.hay_physical.specs.OpenCopies.{Copy, KeepsEnd, bare_of, end_of, generation_of, goal_of, is_stuck, next_of, phase_bare, phase_end, phase_generation, phase_goal, phase_next, phase_stuck}
use Rattle.hay_physical.proofs.Laws.{no_next}
use Rattle.hay_logical.specs.declared.unsure.Unsure.{Unsure}
use Rattle.hay_logical.specs.Fits.{At}
use Rattle.hay_logical.specs.Refusals.{answer_at}
use Rattle.hay_logical.specs.Seen.{AreLonger, BeginRefusedSeen, BreaksStep, ChangesAt, ChangesRun, DeleteSeen, EndsAlone, FlushRefusedSeen, FlushesTo, IsEnded}
use Rattle.hay_logical.specs.Seen.{ReplicaSeen, StepRefusedSeen, StepsPartly, StepsTo, Sticks, SwapSeen, VolumeSeen, grown, replica_seen, volume_seen}
use Rattle.hay_logical.specs.ReplicaCalls.{CallsOne, IsBeginFault, IsFlushFault, IsStepFault, Lengthens}
use Rattle.hay_logical.specs.Volumes.{Volume}
use Rattle.hay_logical.proofs.Changing.{set_back}
use Rattle.hay_logical.proofs.Lists.{at_map}
use Rattle.hay_logical.proofs.Standing.{volume_with}

-- ONE REPLICA

abbrev pub seen_as : ℕ → Option ℕ → Bool → ℕ → ℕ → ℕ → ReplicaSeen
seen_as generation goal stuck end bare next = record { generation = generation; goal = goal; stuck = stuck; end = end; bare = bare; next = next }

pub seen_by : (g g' : ℕ) (o o' : Option ℕ) (s s' : Bool) (e e' b b' n n' : ℕ) → g ≡ g' → o ≡ o' → s ≡ s' → e ≡ e' → b ≡ b' → n ≡ n' → seen_as g o s e b n ≡ seen_as g' o' s' e' b' n'
seen_by g g' o o' s s' e e' b b' n n' generation goal stuck end bare next =
    ap (λ x. seen_as x o s e b n) generation ∙ ap (λ x. seen_as g' x s e b n) goal ∙ ap (λ x. seen_as g' o' x e b n) stuck ∙ ap (λ x. seen_as g' o' s' x b n) end
    ∙ ap (λ x. seen_as g' o' s' e' x n) bare ∙ ap (λ x. seen_as g' o' s' e' b' x) next

pub none_or : (o : Option ℕ) → (o ≡ None) ⊎ (o ≡ None → ⊥)
none_or None = inl refl
none_or (Some goal) = inr (λ e. let wrong : Some goal ≡ None = e in cc)

module _ {D : Type 0} (r r' : Copy D) where
  pub seen_phase : r'.phase ≡ r.phase → replica_seen r' ≡ replica_seen r
  seen_phase same = ap (λ (p : Phase). seen_as (phase_generation p) (phase_goal p) (phase_stuck p) (phase_end p) (phase_bare p) (phase_next p)) same

  pub run_changed : KeepsEnd r r' → is_stuck r' ≡ is_stuck r → bare_of r' ≡ bare_of r → ChangesRun (replica_seen r) (replica_seen r')
  run_changed stays stuck bare = seen_by _ _ _ _ _ _ _ _ _ _ _ _ stays.0 refl stuck stays.1 bare refl

  pub run_same : ChangesRun (replica_seen r) (replica_seen r') → goal_of r' ≡ goal_of r → next_of r' ≡ next_of r → replica_seen r' ≡ replica_seen r
  run_same changes goal next = changes ∙ seen_by _ _ _ _ _ _ _ _ _ _ _ _ refl goal refl refl refl next

  pub run_begun : (goal next : ℕ) → ChangesRun (replica_seen r) (replica_seen r') → goal_of r' ≡ Some goal → next_of r' ≡ next
      → replica_seen r' ≡ record (replica_seen r) { goal = Some goal; next = next }
  run_begun goal next changes is first = changes ∙ seen_by _ _ _ _ _ _ _ _ _ _ _ _ refl is refl refl refl first

  pub run_ended : ChangesRun (replica_seen r) (replica_seen r') → goal_of r' ≡ None → IsEnded (replica_seen r) (replica_seen r')
  run_ended changes none = changes ∙ seen_by _ _ _ _ _ _ _ _ _ _ _ _ refl none refl refl refl (no_next r' none)

  pub none_same : ChangesRun (replica_seen r) (replica_seen r') → goal_of r' ≡ None → goal_of r ≡ None → replica_seen r' ≡ replica_seen r
  none_same changes now before = run_same changes (now ∙ sym before) (no_next r' now ∙ sym (no_next r before))

  pub seen_stuck : KeepsEnd r r' → goal_of r' ≡ goal_of r → next_of r' ≡ next_of r → bare_of r' ≡ bare_of r → replica_seen r' ≡ record (replica_seen r) { stuck = is_stuck r' }
  seen_stuck stays goal next bare = seen_by _ _ _ _ _ _ _ _ _ _ _ _ stays.0 goal refl stays.1 bare next

  pub seen_flushed : KeepsEnd r r' → goal_of r' ≡ goal_of r → next_of r' ≡ next_of r → is_stuck r' ≡ is_stuck r → bare_of r' ≡ 0 → replica_seen r' ≡ record (replica_seen r) { bare = 0 }
  seen_flushed stays goal next stuck bare = seen_by _ _ _ _ _ _ _ _ _ _ _ _ stays.0 goal stuck stays.1 bare next

  pub seen_grown : (size : ℕ) → generation_of r' ≡ generation_of r → goal_of r' ≡ goal_of r → is_stuck r' ≡ is_stuck r → end_of r' ≡ end_of r + needle_total size
      → bare_of r' ≡ bare_of r + 1 → next_of r' ≡ next_of r
      → replica_seen r' ≡ grown size (replica_seen r)
  seen_grown size generation goal stuck end bare next = seen_by _ _ _ _ _ _ _ _ _ _ _ _ generation goal stuck end bare next

  -- a compaction went on behind a delete, or it ended
  pub delete_seen : {Rises : Type 0} → KeepsEnd r r' → is_stuck r' ≡ is_stuck r → bare_of r' ≡ bare_of r → (goal_of r' ≡ goal_of r → next_of r' ≡ next_of r)
      → (goal_of r' ≡ goal_of r) ⊎ ((goal_of r' ≡ None) × Rises) → DeleteSeen (replica_seen r) (replica_seen r')
  delete_seen stays stuck bare next (inl same) = inl (run_same (run_changed stays stuck bare) same (next same))
  delete_seen stays stuck bare next (inr ended) = elim (none_or (goal_of r)) [
    | inl none ↦ inl (none_same (run_changed stays stuck bare) ended.0 none)
    | inr some ↦ inr (some, run_ended (run_changed stays stuck bare) ended.0)
  ]

  pub swap_seen : (generation end : ℕ) → generation ≡ generation_of r' → end ≡ end_of r' → generation_of r' ≡ generation_of r + 1 → generation_of r' ≤ LAST_GENERATION
      → 64 ≤ end_of r' → end_of r' ≤ end_of r → goal_of r' ≡ None
      → is_stuck r' ≡ false → bare_of r' ≡ 0 → SwapSeen generation end (replica_seen r) (replica_seen r')
  swap_seen generation end is ends next most from shorter goal stuck bare = record {
    next = is ∙ next;
    most = subst (λ n. n ≤ LAST_GENERATION) (sym is) most;
    from = subst (λ n. 64 ≤ n) (sym ends) from;
    shorter = subst (λ n. n ≤ end_of r) (sym ends) shorter;
    is = seen_by _ _ _ _ _ _ _ _ _ _ _ _ (sym is) goal stuck (sym ends) bare (no_next r' goal);
  }

pub flush_seen : {D : Type 0} (r r' : Copy D) (result : Result ℕ ReplicaFault) → OnOk result ((is_stuck r ≡ false) × (is_stuck r' ≡ false))
    → IfOk result (λ n. n ≡ bare_of r) → OnOk result (bare_of r' ≡ 0) → KeepsEnd r r'
    → goal_of r' ≡ goal_of r → next_of r' ≡ next_of r → IfOk result (λ number. FlushesTo number (replica_seen r) (replica_seen r'))
flush_seen r r' (Ok number) loose is bare stays goal next = (loose.0, is, seen_flushed r r' stays goal next (loose.1 ∙ sym loose.0) bare)
flush_seen r r' (Err f) loose is bare stays goal next = tt

-- nothing else was seen before than a compaction
pub swap_later : (r x y : ReplicaSeen) (generation end : ℕ) → x.generation ≡ r.generation → x.end ≡ r.end → SwapSeen generation end x y → SwapSeen generation end r y
swap_later r x y generation end same ends seen = record {
  next = seen.next ∙ ap (λ n. n + 1) same;
  most = seen.most;
  from = seen.from;
  shorter = subst (λ n. end ≤ n) ends seen.shorter;
  is = seen.is;
}

pub changes_through : (a b c : ReplicaSeen) → ChangesRun a b → ChangesRun b c → ChangesRun a c
changes_through a b c first second = second ∙ ap (λ (s : ReplicaSeen). record s { goal = c.goal; next = c.next }) first

-- STEPS

pub steps_change : (cells number : ℕ) (r r' : ReplicaSeen) → StepsTo cells number r r' → ChangesRun r r'
steps_change cells number r r' steps =
    let goal : r'.goal ≡ r.goal = ap (λ (s : ReplicaSeen). s.goal) steps.only in
    steps.only ∙ ap (λ (o : Option ℕ). record r { goal = o; next = r'.next }) (sym goal)

pub steps_none : {D : Type 0} (r : Copy D) → (goal_of r ≡ None → ⊥) → StepsTo 0 0 (replica_seen r) (replica_seen r)
steps_none r stands = record {
  stands = stands;
  only = refl;
  few = omega arith;
  all = inl refl;
  behind = omega arith;
  most = omega arith;
  within = inl refl;
  none = λ e. refl;
}

pub steps_more : (n : ℕ) (r x y : ReplicaSeen) → StepsTo n n r x → StepsTo 1 1 x y → StepsTo (n + 1) (n + 1) r y
steps_more n r x y first second = record {
  stands = first.stands;
  only = second.only ∙ ap (λ (s : ReplicaSeen). record s { next = y.next }) first.only;
  few = omega arith;
  all = inl refl;
  behind = (let a : r.next + n * 48 ≤ x.next = first.behind in let b : x.next + 1 * 48 ≤ y.next = second.behind in let c : r.next + (n + 1) * 48 ≤ y.next = omega (arith, a, b) in c);
  most = (let a : x.next ≤ r.next + n * MAX_NEEDLE = first.most in let b : y.next ≤ x.next + 1 * MAX_NEEDLE = second.most in let c : y.next ≤ r.next + (n + 1) * MAX_NEEDLE = omega (arith, a, b) in c);
  within = elim second.within [
    | inl none ↦ let wrong : 1 ≡ 0 = none in absurd (omega (arith, wrong))
    | inr low ↦ inr (subst (λ e. y.next ≤ e) (ap (λ (s : ReplicaSeen). s.end) first.only) low)
  ];
  none = λ e. absurd (omega (arith, e));
}

-- no cell was left
pub steps_stop : (cells n : ℕ) (r x y : ReplicaSeen) → n ≤ cells → StepsTo n n r x → StepsTo 1 0 x y → StepsTo cells n r y
steps_stop cells n r x y few first second =
    let same : y.next ≡ x.next = second.none refl in
    let ends : x.end ≡ r.end = ap (λ (s : ReplicaSeen). s.end) first.only in
    record {
      stands = first.stands;
      only = second.only ∙ ap (λ (s : ReplicaSeen). record s { next = y.next }) first.only;
      few = few;
      all = elim second.all [
        | inl one ↦ let wrong : 0 ≡ 1 = one in absurd (omega (arith, wrong))
        | inr all ↦ inr (subst (λ e. e ≤ y.next) ends all)
      ];
      behind = subst (λ k. r.next + n * needle_total 0 ≤ k) (sym same) first.behind;
      most = subst (λ k. k ≤ r.next + n * needle_total (max_photo Two)) (sym same) first.most;
      within = elim first.within [ inl none ↦ inl none | inr low ↦ inr (subst (λ k. k ≤ r.end) (sym same) low) ];
      none = λ e. same ∙ first.none e;
    }

pub steps_break : (n : ℕ) (r x y : ReplicaSeen) → StepsTo n n r x → BreaksStep x y → BreaksStep r y
steps_break n r x y first broken =
    let goal : x.goal ≡ r.goal = ap (λ (s : ReplicaSeen). s.goal) first.only in
    let ends : x.end ≡ r.end = ap (λ (s : ReplicaSeen). s.end) first.only in (
      changes_through r x y (steps_change n n r x first) broken.0,
      λ same. let a : r.next + n * 48 ≤ x.next = first.behind in let b = broken.1 (same ∙ sym goal) in let low = b.0 in (omega (arith, a, low), subst (λ e. y.next ≤ e) ends b.1),
    )

-- one cell was examined
pub steps_one : {D : Type 0} (r x y : Copy D) (size : ℕ) → (goal_of r ≡ None → ⊥) → ChangesRun (replica_seen r) (replica_seen x)
    → ChangesRun (replica_seen x) (replica_seen y) → goal_of x ≡ goal_of r → goal_of y ≡ goal_of x
    → next_of x ≡ next_of r → next_of y ≡ next_of x + needle_total size → next_of x + needle_total size ≤ end_of x
    → needle_total size ≤ needle_total (max_photo Two) → StepsTo 1 1 (replica_seen r) (replica_seen y)
steps_one r x y size stands first second goal goal' next next' fits small =
    let changes : ChangesRun (replica_seen r) (replica_seen y) = changes_through (replica_seen r) (replica_seen x) (replica_seen y) first second in
    let ends : end_of x ≡ end_of r = ap (λ (s : ReplicaSeen). s.end) first in
    record {
      stands = stands;
      only = changes ∙ seen_by _ _ _ _ _ _ _ _ _ _ _ _ refl (goal' ∙ goal) refl refl refl refl;
      few = omega arith;
      all = inl refl;
      behind = (let low : next_of r + 1 * 48 ≤ next_of y = omega (arith, next, next') in low);
      most = (let low : needle_total size ≤ MAX_NEEDLE = small in let high : next_of y ≤ next_of r + 1 * MAX_NEEDLE = omega (arith, next, next', low) in high);
      within = inr (omega (arith, next', fits, ends));
      none = λ e. absurd (omega (arith, e));
    }

-- none was left
pub steps_end : {D : Type 0} (r x : Copy D) → (goal_of r ≡ None → ⊥) → ChangesRun (replica_seen r) (replica_seen x) → goal_of x ≡ goal_of r → next_of x ≡ next_of r → end_of x ≤ next_of x
    → StepsTo 1 0 (replica_seen r) (replica_seen x)
steps_end r x stands changes goal next ends =
    let same : end_of x ≡ end_of r = ap (λ (s : ReplicaSeen). s.end) changes in
    record {
      stands = stands;
      only = changes ∙ seen_by _ _ _ _ _ _ _ _ _ _ _ _ refl goal refl refl refl refl;
      few = omega arith;
      all = inr (subst (λ e. e ≤ next_of x) same ends);
      behind = omega (arith, next);
      most = omega (arith, next);
      within = inl refl;
      none = λ e. next;
    }

-- LISTS

pub map_set : {X Y : Type 0} (f : X → Y) (xs : List X) (j : ℕ) (x : X) → map f (slice_set xs j x) ≡ slice_set (map f xs) j (f x)
map_set f [] j x = refl
map_set f (y ∷ xs) zero x = refl
map_set f (y ∷ xs) (suc j) x = ap (λ l. f y ∷ l) (map_set f xs j x)

pub map_at : {X Y : Type 0} (f : X → Y) (xs : List X) (j : ℕ) (y : Y) → At (map f xs) j y → (x : X) × At xs j x × (y ≡ f x)
map_at f [] j y e = absurd cc
map_at f (x ∷ xs) zero y e = let same : f x ≡ y = cc in (x, refl, sym same)
map_at f (x ∷ xs) (suc j) y e = map_at f xs j y e

pub many_seen : {D : Type 0} (old new : List (Copy D)) → length new ≡ length old → length (map replica_seen new) ≡ length (map replica_seen old)
many_seen old new count = length-map new replica_seen ∙ count ∙ sym (length-map old replica_seen)

-- ENDS

pub grown_longer : {D : Type 0} (size : ℕ) (r r' : Copy D) → replica_seen r' ≡ grown size (replica_seen r) → end_of r ≤ end_of r'
grown_longer size r r' is = let end : end_of r' ≡ end_of r + needle_total size = ap (λ (s : ReplicaSeen). s.end) is in omega (arith, end)

pub delete_longer : {D : Type 0} (r r' : Copy D) → DeleteSeen (replica_seen r) (replica_seen r') → end_of r ≤ end_of r'
delete_longer r r' (inl same) = let end : end_of r' ≡ end_of r = ap (λ (s : ReplicaSeen). s.end) same in omega (arith, end)
delete_longer r r' (inr ended) = let end : end_of r' ≡ end_of r = ap (λ (s : ReplicaSeen). s.end) (ended.1) in omega (arith, end)

pub longer_seen : {D : Type 0} (old new news : List (Copy D)) → news ≡ new → Lengthens old new → AreLonger (map replica_seen old) (map replica_seen news)
longer_seen old new news is longer j s s' e f =
    let x = map_at replica_seen old j s e in
    let y = map_at replica_seen new j s' (subst (λ rs. At (map replica_seen rs) j s') is f) in
    let grows = longer j x.0 y.0 x.1 y.1 in
    let from : s.end ≡ end_of x.0 = ap (λ (r : ReplicaSeen). r.end) x.2 in
    let to : s'.end ≡ end_of y.0 = ap (λ (r : ReplicaSeen). r.end) y.2 in
    omega (arith, grows, from, to)

-- ONE REPLICA OF A VOLUME

module _ (at : ℕ) (Becomes : ReplicaSeen → ReplicaSeen → Type 0) {D P : Type 0} (settings : Settings) (number : ℕ) (old new : List (Copy D)) (rows : MapRows P) (front : ℕ)
    (frozen : Option ℕ) (unsure : Option Unsure)
    (one : CallsOne at old new) (v : Volume D P) (is : volume_with settings number old rows front frozen unsure ≡ v) (rs : List (Copy D)) (kept : rs ≡ new) where
  abbrev seen_with : List ReplicaSeen → VolumeSeen
  seen_with seen = record { front = front; frozen = frozen; unsure = unsure; replicas = seen }

  seen_set : volume_seen (volume_with settings number rs rows front frozen unsure) ≡ seen_with (slice_set (map replica_seen old) at (replica_seen one.after))
  seen_set = ap seen_with (ap (map replica_seen) (kept ∙ one.is) ∙ map_set replica_seen old at one.after)

  pub changes_one : Becomes (replica_seen one.before) (replica_seen one.after) → ChangesAt at Becomes (volume_seen v) (volume_seen (volume_with settings number rs rows front frozen unsure))
  changes_one becomes = subst (λ (x : Volume D P). ChangesAt at Becomes (volume_seen x) (volume_seen (volume_with settings number rs rows front frozen unsure))) is (record {
    before = replica_seen one.before;
    after = replica_seen one.after;
    was = at_map replica_seen old at one.before one.was;
    is = seen_set;
    becomes = becomes;
  })

module _ (at : ℕ) {D P : Type 0} (settings : Settings) (number : ℕ) (old new : List (Copy D)) (rows : MapRows P) (front : ℕ) (frozen : Option ℕ) (unsure : Option Unsure)
    (one : CallsOne at old new) (v : Volume D P) (is : volume_with settings number old rows front frozen unsure ≡ v) (rs : List (Copy D)) (kept : rs ≡ new) where
  pub same_one : replica_seen one.after ≡ replica_seen one.before → volume_seen (volume_with settings number rs rows front frozen unsure) ≡ volume_seen v
  same_one same =
      let with : List ReplicaSeen → VolumeSeen = λ seen. record { front = front; frozen = frozen; unsure = unsure; replicas = seen } in
      ap with (ap (map replica_seen) (kept ∙ one.is) ∙ map_set replica_seen old at one.after ∙ ap (λ x. slice_set (map replica_seen old) at x) same
      ∙ set_back (map replica_seen old) at (replica_seen one.before) (at_map replica_seen old at one.before one.was)) ∙ ap volume_seen is

  pub sees_before : At (volume_seen v).replicas at (replica_seen one.before)
  sees_before = subst (λ (x : Volume D P). At (volume_seen x).replicas at (replica_seen one.before)) is (at_map replica_seen old at one.before one.was)

-- REFUSALS

module _ (settings : Settings) (v at : ℕ) {D : Type 0} (faults : D → ℕ) (r r' : Copy D) (old new : VolumeSeen) (there : At old.replicas at (replica_seen r)) where
  pub begin_refused_seen : old.frozen ≡ None → new ≡ old → (f : ReplicaFault) → IsBeginFault faults r r' f → BeginRefusedSeen settings v at old new (answer_at (machine_of settings v at) f)
  begin_refused_seen thawed same (fault.Failed printed) cause = (((thawed, same), refl), (replica_seen r, there, (cause.2, cause.3)))
  begin_refused_seen thawed same fault.Frozen cause = absurd cause
  begin_refused_seen thawed same (fault.Full end need capacity) cause = absurd cause
  begin_refused_seen thawed same (fault.Busy goal) cause = (((thawed, same), refl), (replica_seen r, there, cause.0))
  begin_refused_seen thawed same (fault.Ended printed) cause = absurd cause
  begin_refused_seen thawed same fault.Worn cause = (((thawed, same), refl), (replica_seen r, there, (cause.0, cause.1)))
  begin_refused_seen thawed same (fault.Damaged place) cause = absurd cause
  begin_refused_seen thawed same fault.NoMemory cause = ((thawed, same), (replica_seen r, there, cause))

  pub step_refused_seen : (cells : ℕ) → old.frozen ≡ None → (f : ReplicaFault) → IsStepFault faults cells r r' f → (goal_of r' ≡ goal_of r → ChangesAt at StepsPartly old new)
      → (goal_of r' ≡ None → ChangesAt at EndsAlone old new) → StepRefusedSeen settings v at cells old new (answer_at (machine_of settings v at) f)
  step_refused_seen cells thawed (fault.Failed printed) cause steps ends = (thawed, refl, ends cause.2)
  step_refused_seen cells thawed fault.Frozen cause steps ends = absurd cause
  step_refused_seen cells thawed (fault.Full end need capacity) cause steps ends = absurd cause
  step_refused_seen cells thawed (fault.Busy goal) cause steps ends = absurd cause
  step_refused_seen cells thawed (fault.Ended printed) cause steps ends = absurd cause
  step_refused_seen cells thawed fault.Worn cause steps ends = absurd cause
  step_refused_seen cells thawed (fault.Damaged place) cause steps ends = ((thawed, refl, ends cause.0), (replica_seen r, there, cause.1))
  step_refused_seen cells thawed fault.NoMemory cause steps ends = (thawed, steps cause)

  pub flush_refused_seen : (f : ReplicaFault) → old.frozen ≡ None → IsFlushFault faults r r' f → (is_stuck r' ≡ is_stuck r → new ≡ old)
      → ((printed : ℕ) → f ≡ fault.Failed printed → is_stuck r' ≡ true → ChangesAt at Sticks old new) → FlushRefusedSeen settings v at old new (answer_at (machine_of settings v at) f)
  flush_refused_seen (fault.Failed printed) thawed cause stays sticks = (thawed, refl, sticks printed refl cause.2)
  flush_refused_seen fault.Frozen thawed cause stays sticks = inr (((thawed, stays (ap is_stuck cause.1)), refl), (replica_seen r, there, cause.0))
  flush_refused_seen (fault.Full end need capacity) thawed cause stays sticks = absurd cause
  flush_refused_seen (fault.Busy goal) thawed cause stays sticks = absurd cause
  flush_refused_seen (fault.Ended printed) thawed cause stays sticks = absurd cause
  flush_refused_seen fault.Worn thawed cause stays sticks = absurd cause
  flush_refused_seen (fault.Damaged place) thawed cause stays sticks = absurd cause
  flush_refused_seen fault.NoMemory thawed cause stays sticks = (thawed, stays cause)

pub no_goal : (o : Option ℕ) (b : Bool) → is_some o ≡ not b → b ≡ true → o ≡ None
no_goal None b is e = refl
no_goal (Some goal) b is e = absurd (true≢false (is ∙ ap not e))
