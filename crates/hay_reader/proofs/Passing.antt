-- Replicas that are passed over, one after another.
use Rattle.std.proofs.Common.{◌≡◌, ℕ, ◌+◌, ◌-◌, ◌%◌, ◌^◌, ◌<◌, ◌≤◌, ◌⊎◌, inl, inr, true, Bool, List, [], ◌∷◌, ◌++◌, length, take, refl, sym, ap, ◌∙◌, subst, arith, zero-add}
use Rattle.std.specs.Prelude.{Ok, Err}
use Rattle.std.specs.List.{AllByRecursion}
use Rattle.std.proofs.lemmas.List.{map-append, length-append, length-take, take-append-le, drop-append-le}
use Rattle.std.proofs.Math.Seq.{take-length, drop-length}
use Rattle.std.proofs.lemmas.List.FromFn.{map-range_with_len_more}
use Rattle.hay_needle.specs.declared.needle.Cookie.{Cookie}
use Rattle.hay_reply.specs.declared.Cause.{Cause}
use Rattle.hay_reply.specs.declared.Cause.TheVariants as cause
use Rattle.hay_map.specs.Places.{place_in}
use Rattle.hay_map.specs.declared.place.Place.{Place}
use Rattle.hay_map.specs.declared.place.Place.TheVariants as place
use Rattle.hay_reader.specs.Causes.{ArmRises, ArmUse, ComeFirst, EachPair, HasArmCause, IsDamage, Passes, PassesRow, passed_now, tried_from}
use Rattle.hay_reader.specs.Shown.{HasBytes, NoArm, ReadsRow, ShowsAt, ShowsPlace, reply_at}
use Rattle.hay_reader.specs.Tried.{FailsBy, IsOfSeen, PlaceGives, PutsOut}
use Rattle.hay_reader.specs.declared.trial.Shown.{Shown}
use Rattle.hay_reader.specs.declared.trial.Shown.TheVariants as shown
use Rattle.hay_reader.specs.declared.causes.PassedReplica.{PassedReplica}

-- LISTS

all_push : {X : Type 0} (Q : X → Type 0) (xs : List X) (y : X) → AllByRecursion Q xs → Q y → AllByRecursion Q (xs ++ y ∷ [])
all_push Q [] y all q = (q, tt)
all_push Q (x ∷ xs) y all q = (all.0, all_push Q xs y all.1 q)

pub all_weaken : {X : Type 0} (Q R : X → Type 0) → ((x : X) → Q x → R x) → (xs : List X) → AllByRecursion Q xs → AllByRecursion R xs
all_weaken Q R weaken [] all = tt
all_weaken Q R weaken (x ∷ xs) all = (weaken x all.0, all_weaken Q R weaken xs all.1)

each_push : {X : Type 0} (R : X → X → Type 0) (xs : List X) (y : X) → EachPair R xs → AllByRecursion (λ x. R x y) xs → EachPair R (xs ++ y ∷ [])
each_push R [] y each all = (tt, tt)
each_push R (x ∷ xs) y each all = (all_push (R x) xs y each.0 all.0, each_push R xs y each.1 all.1)

-- CAUSES

cause_later : (before mid new : ℕ) (why : Cause) → mid ≤ new → (new ≡ mid) ⊎ (new < 2 ^ 64) → HasArmCause before mid why → HasArmCause before new why
cause_later before mid new (cause.Arm f) later most has =
    let below : new < 2 ^ 64 = elim most [ inl same ↦ omega (arith, has.1) | inr below ↦ below ] in
    ((has.0.0, omega (arith, has.0.1)), below)
cause_later before mid new (cause.Disk f) later most has = has
cause_later before mid new (cause.Damage at) later most has = tt

cause_now : (before mid new : ℕ) (why : Cause) → before ≤ mid → (new ≡ mid) ⊎ (new < 2 ^ 64) → FailsBy mid new why → HasArmCause before new why
cause_now before mid new (cause.Arm f) earlier most fails =
    let above : (before < f) ⊎ (f ≡ 2 ^ 64 - 1) = elim fails.1 [ inl up ↦ inl (omega (arith, fails.0)) | inr top ↦ inr (fails.0 ∙ top) ] in
    let below : new < 2 ^ 64 = elim fails.1 [ inl up ↦ elim most [ inl same ↦ absurd (omega arith) | inr below ↦ below ] | inr top ↦ omega arith ] in
    ((above, omega (arith, fails.0)), below)
cause_now before mid new (cause.Disk f) earlier most fails = fails
cause_now before mid new (cause.Damage at) earlier most fails = tt

rises_now : (before mid new : ℕ) (earlier why : Cause) → HasArmCause before mid earlier → FailsBy mid new why → ArmRises earlier why
rises_now before mid new (cause.Arm g) (cause.Arm f) has fails = elim fails.1 [ inl up ↦ inl (omega (arith, has.0.1, fails.0)) | inr top ↦ inr (fails.0 ∙ top) ]
rises_now before mid new (cause.Arm g) (cause.Disk f) has fails = tt
rises_now before mid new (cause.Arm g) (cause.Damage at) has fails = tt
rises_now before mid new (cause.Disk g) why has fails = tt
rises_now before mid new (cause.Damage at) why has fails = tt

-- a count that stays, or is one of 64 bits
pub most_on : (before mid new : ℕ) → (mid ≡ before) ⊎ (mid < 2 ^ 64) → (new ≡ mid) ⊎ (new < 2 ^ 64) → (new ≡ before) ⊎ (new < 2 ^ 64)
most_on before mid new first (inr below) = inr below
most_on before mid new (inl same) (inl still) = inl (still ∙ same)
most_on before mid new (inr below) (inl still) = inr (omega (arith, below, still))

-- PASSED REPLICAS

-- a list that begins with these is no shorter
pub no_shorter : {X : Type 0} (front xs : List X) → take (length front) xs ≡ front → length front ≤ length xs
no_shorter front xs begins = omega (arith, ap length begins, length-take (length front) xs)

-- what comes behind these stays behind them
now_push : (passed causes : List PassedReplica) (over : PassedReplica) → take (length passed) causes ≡ passed → passed_now passed (causes ++ over ∷ []) ≡ passed_now passed causes ++ over ∷ []
now_push passed causes over begins = drop-append-le (length passed) causes (over ∷ []) (no_shorter passed causes begins)

passes_later : (start replicas before mid new : ℕ) (passed causes : List PassedReplica) → mid ≤ new → (new ≡ mid) ⊎ (new < 2 ^ 64) → Passes start replicas before mid passed causes
    → Passes start replicas before new passed causes
passes_later start replicas before mid new passed causes later most so_far = record {
  begins = so_far.begins;
  order = so_far.order;
  each =
      all_weaken (λ (p : PassedReplica). HasArmCause before mid p.cause) (λ (p : PassedReplica). HasArmCause before new p.cause)
      (λ p has. cause_later before mid new p.cause later most has) (passed_now passed causes) so_far.each;
  rises = so_far.rises;
}

-- the next replica comes behind those that come first
pub first_more : (start replicas : ℕ) (causes : List PassedReplica) (over : PassedReplica) → ComeFirst start replicas causes → over.replica ≡ (start + length causes) % replicas
    → ComeFirst start replicas (causes ++ over ∷ [])
first_more start replicas causes over first is =
    map-append (λ (p : PassedReplica). p.replica) causes (over ∷ [])
    ∙ ap (λ (xs : List ℕ). xs ++ over.replica ∷ []) first
    ∙ ap (λ (j : ℕ). tried_from start replicas (length causes) ++ j ∷ []) is
    ∙ sym (map-range_with_len_more (λ (i : ℕ). (start + i) % replicas) 0 (length causes) (length causes) (zero-add (length causes)))
    ∙ ap (λ (tries : ℕ). tried_from start replicas tries) (sym (length-append causes (over ∷ [])))

passes_more : (start replicas before mid new : ℕ) (passed causes : List PassedReplica) (over : PassedReplica) → Passes start replicas before mid passed causes
    → over.replica ≡ (start + length causes) % replicas → before ≤ mid → mid ≤ new
    → (new ≡ mid) ⊎ (new < 2 ^ 64) → FailsBy mid new over.cause → Passes start replicas before new passed (causes ++ over ∷ [])
passes_more start replicas before mid new passed causes over so_far is earlier later most fails =
    let now : List PassedReplica = passed_now passed causes in
    record {
      begins = take-append-le (length passed) causes (over ∷ []) (no_shorter passed causes so_far.begins) ∙ so_far.begins;
      order = first_more start replicas causes over so_far.order is;
      each =
          subst (λ (ps : List PassedReplica). AllByRecursion (λ p. HasArmCause before new p.cause) ps) (sym (now_push passed causes over so_far.begins))
          (all_push (λ (p : PassedReplica). HasArmCause before new p.cause) now over (passes_later start replicas before mid new passed causes later most so_far).each
          (cause_now before mid new over.cause earlier most fails));
      rises =
          subst (λ (ps : List PassedReplica). EachPair (λ a b. ArmRises a.cause b.cause) ps) (sym (now_push passed causes over so_far.begins))
          (each_push (λ a b. ArmRises a.cause b.cause) now over so_far.rises
          (all_weaken (λ (p : PassedReplica). HasArmCause before mid p.cause) (λ (p : PassedReplica). ArmRises p.cause over.cause)
          (λ p has. rises_now before mid new p.cause over.cause has fails) now so_far.each));
    }

-- the replica of the next try
pub next_replica : (start step tries long replicas : ℕ) → tries ≡ step → long ≡ replicas → (start + step) % long ≡ (start + tries) % replicas
next_replica start step tries long replicas is all = ap (λ (n : ℕ). (start + step) % n) all ∙ ap (λ (i : ℕ). (start + i) % replicas) (sym is)

-- PLACES

-- a replica is passed over whatever is put out later
gives_passed : {P : Type 0} (Tells : Type 0) (sure still : Bool) (cookie : Cookie) (put : List ℕ) (there : Place P) (why : Cause) → (sure ≡ true → still ≡ true)
    → PlaceGives Tells still cookie put there (Err why) → PlaceGives Tells sure cookie [] there (Err why)
gives_passed Tells sure still cookie put (place.Live needle) (cause.Arm f) stays gives = λ was. gives (stays was)
gives_passed Tells sure still cookie put (place.Live needle) (cause.Disk f) stays gives = gives
gives_passed Tells sure still cookie put (place.Live needle) (cause.Damage at) stays gives = gives
gives_passed Tells sure still cookie put place.None why stays gives = gives
gives_passed Tells sure still cookie put place.Gone why stays gives = gives
gives_passed Tells sure still cookie put (place.Unseen at size) why stays gives = gives

gives_shown : {P : Type 0} (Tells : Type 0) (sure still : Bool) (cookie : Cookie) (put : List ℕ) (there : Place P) (what : Shown)
    → PlaceGives Tells still cookie put there (Ok what) → PlaceGives Tells sure cookie put there (Ok what)
gives_shown Tells sure still cookie put (place.Live needle) what gives = gives
gives_shown Tells sure still cookie put place.None what gives = gives
gives_shown Tells sure still cookie put place.Gone what gives = gives
gives_shown Tells sure still cookie put (place.Unseen at size) what gives = gives

abbrev pub arm_use : Bool → ℕ → ℕ → ArmUse
arm_use sure before after = record { sure = sure; before = before; after = after }

-- none is passed over in a call
pub none_passed : {P : Type 0} (Tells : Type 0) (arm : ArmUse) (start : ℕ) (row : List (Place P)) (cookie : Cookie) (passed : List PassedReplica) → ComeFirst start (length row) passed
    → PassesRow Tells arm start row cookie passed passed
none_passed Tells arm start row cookie passed first = record {
  passes = record {
    begins = take-length passed;
    order = first;
    each = subst (λ (ps : List PassedReplica). AllByRecursion (λ p. HasArmCause arm.before arm.after p.cause) ps) (sym (drop-length passed)) tt;
    rises = subst (λ (ps : List PassedReplica). EachPair (λ a b. ArmRises a.cause b.cause) ps) (sym (drop-length passed)) tt;
  };
  places = subst (λ (ps : List PassedReplica). AllByRecursion (λ p. PlaceGives Tells arm.sure cookie [] (place_in row p.replica) (Err p.cause)) ps) (sym (drop-length passed)) tt;
}

-- none was passed over yet in this call
pub places_none : {P : Type 0} (Tells : Type 0) (sure : Bool) (before start : ℕ) (row : List (Place P)) (cookie : Cookie) (passed : List PassedReplica) → ComeFirst start (length row) passed
    → PassesRow Tells (arm_use sure before before) start row cookie passed passed
places_none Tells sure before start row cookie passed first = none_passed Tells (arm_use sure before before) start row cookie passed first

-- one more replica was passed over
pub places_more : {P : Type 0} (Tells : Type 0) (sure still : Bool) (before mid new start : ℕ) (row : List (Place P)) (cookie : Cookie) (put : List ℕ)
    (passed causes : List PassedReplica) (over : PassedReplica)
    → PassesRow Tells (arm_use sure before mid) start row cookie passed causes → over.replica ≡ (start + length causes) % length row → before ≤ mid → mid ≤ new
    → (new ≡ mid) ⊎ (new < 2 ^ 64) → FailsBy mid new over.cause
    → (sure ≡ true → still ≡ true) → PlaceGives Tells still cookie put (place_in row over.replica) (Err over.cause)
    → PassesRow Tells (arm_use sure before new) start row cookie passed (causes ++ over ∷ [])
places_more Tells sure still before mid new start row cookie put passed causes over so_far is earlier later most fails stays gives = record {
  passes = passes_more start (length row) before mid new passed causes over so_far.passes is earlier later most fails;
  places =
      subst (λ (ps : List PassedReplica). AllByRecursion (λ p. PlaceGives Tells sure cookie [] (place_in row p.replica) (Err p.cause)) ps) (sym (now_push passed causes over so_far.passes.begins))
      (all_push (λ (p : PassedReplica). PlaceGives Tells sure cookie [] (place_in row p.replica) (Err p.cause)) (passed_now passed causes) over so_far.places
      (gives_passed Tells sure still cookie put (place_in row over.replica) over.cause stays gives));
}

-- what a place gives, where it is the next
pub reads_at : {P : Type 0} (Tells : Type 0) (arm : ArmUse) (start : ℕ) (row : List (Place P)) (cookie : Cookie) (put : List ℕ) (passed causes : List PassedReplica) (j : ℕ) (what : Shown)
    → ShowsPlace Tells arm start row cookie passed causes put j what → ReadsRow Tells arm start row cookie passed put (reply_at j causes what)
reads_at Tells arm start row cookie put passed causes j shown.Photo shows = (causes, shows)
reads_at Tells arm start row cookie put passed causes j shown.Gone shows = (causes, shows)
reads_at Tells arm start row cookie put passed causes j shown.WrongCookie shows = (causes, shows)
reads_at Tells arm start row cookie put passed causes j shown.Unseen shows = shows

-- of a place that was seen, its replica shows the reply
pub shows_at : (j : ℕ) (causes : List PassedReplica) (what : Shown) → IsOfSeen what → ShowsAt j (reply_at j causes what)
shows_at j causes shown.Photo seen = refl
shows_at j causes shown.Gone seen = refl
shows_at j causes shown.WrongCookie seen = refl
shows_at j causes shown.Unseen seen = seen

-- the next replica showed what its place gives
pub shows_place : {P : Type 0} (Tells : Type 0) (sure still : Bool) (before mid new start : ℕ) (row : List (Place P)) (cookie : Cookie) (put : List ℕ)
    (passed causes : List PassedReplica) (j : ℕ) (what : Shown)
    → PassesRow Tells (arm_use sure before mid) start row cookie passed causes → length causes < length row → j ≡ (start + length causes) % length row → mid ≤ new → (new ≡ mid) ⊎ (new < 2 ^ 64)
    → PlaceGives Tells still cookie put (place_in row j) (Ok what) → ReadsRow Tells (arm_use sure before new) start row cookie passed put (reply_at j causes what)
shows_place {P} Tells sure still before mid new start row cookie put passed causes j what so_far fewer next later most gives =
    reads_at Tells (arm_use sure before new) start row cookie put passed causes j what (record {
      before = record { passes = passes_later start (length row) before mid new passed causes later most so_far.passes; places = so_far.places };
      fewer = fewer;
      next = next;
      gives = gives_shown Tells sure still cookie put (place_in row j) what gives;
    })

pub has_bytes : (j : ℕ) (causes : List PassedReplica) (bytes : List ℕ) (what : Shown) → PutsOut bytes (Ok what) → HasBytes bytes (reply_at j causes what)
has_bytes j causes bytes shown.Photo puts = puts
has_bytes j causes bytes shown.Gone puts = puts
has_bytes j causes bytes shown.WrongCookie puts = puts
has_bytes j causes bytes shown.Unseen puts = puts

pub shows_no_arm : (j : ℕ) (passed causes : List PassedReplica) (what : Shown) → AllByRecursion (λ p. IsDamage p.cause) (passed_now passed causes) → NoArm passed (reply_at j causes what)
shows_no_arm j passed causes shown.Photo none = tt
shows_no_arm j passed causes shown.Gone none = tt
shows_no_arm j passed causes shown.WrongCookie none = tt
shows_no_arm j passed causes shown.Unseen none = none

passed_damaged : {P : Type 0} (Tells : Type 0) (sure : Bool) (cookie : Cookie) (there : Place P) (why : Cause) → sure ≡ true → PlaceGives Tells sure cookie [] there (Err why) → IsDamage why
passed_damaged Tells sure cookie (place.Live needle) (cause.Arm f) was gives = absurd (gives was)
passed_damaged Tells sure cookie (place.Live needle) (cause.Disk f) was gives = gives
passed_damaged Tells sure cookie (place.Live needle) (cause.Damage at) was gives = tt
passed_damaged Tells sure cookie place.None why was gives = absurd cc
passed_damaged Tells sure cookie place.Gone why was gives = absurd cc
passed_damaged Tells sure cookie (place.Unseen at size) why was gives = absurd cc

-- where the arm is sure, each replica that was passed over is damaged
pub passes_damaged : {P : Type 0} (Tells : Type 0) (sure : Bool) (before after start : ℕ) (row : List (Place P)) (cookie : Cookie) (passed causes : List PassedReplica) → sure ≡ true
    → PassesRow Tells (arm_use sure before after) start row cookie passed causes → AllByRecursion (λ p. IsDamage p.cause) (passed_now passed causes)
passes_damaged Tells sure before after start row cookie passed causes was passes =
    all_weaken (λ (p : PassedReplica). PlaceGives Tells sure cookie [] (place_in row p.replica) (Err p.cause)) (λ (p : PassedReplica). IsDamage p.cause)
    (λ p gives. passed_damaged Tells sure cookie (place_in row p.replica) p.cause was gives) (passed_now passed causes) passes.places
