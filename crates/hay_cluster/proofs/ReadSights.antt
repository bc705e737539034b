-- What a read sees of the photo of a pair.
use Rattle.std.proofs.Common.{◌≡◌, Bool, ℕ, ◌+◌, ◌%◌, ◌<◌, List, [], ◌∷◌, Some, length, map, refl, sym, ap, subst, ◌∙◌, arith}
use Rattle.std.specs.Prelude.{Ok}
use Rattle.std.specs.List.{AllByRecursion}
use Rattle.std.proofs.Math.Nat.{mod-lt}
use Rattle.hay_needle.specs.declared.needle.Cookie.{Cookie}
use Rattle.hay_needle.specs.declared.needle.Pair.{Pair}
use Rattle.hay_needle.specs.declared.settings.Settings.{Settings}
use Rattle.hay_map.specs.declared.place.Place.{Place}
use Rattle.hay_map.specs.declared.place.Place.TheVariants as place
use Rattle.hay_map.specs.Places.{place_in}
use Rattle.hay_reply.specs.declared.Passed.{Passed}
use Rattle.hay_legal.specs.Known.{machine_of, replica_on}
use Rattle.hay_reader.specs.Causes.{ArmUse, ComeFirst}
use Rattle.hay_reader.specs.Shown.{ReadsRow, ShowsRead, reply_at}
use Rattle.hay_reader.specs.Tried.{IsRead, PlaceGives, ShowsSeen}
use Rattle.hay_reader.specs.declared.causes.PassedReplica.{PassedReplica}
use Rattle.hay_reader.specs.declared.seat.ReadReply.{ReadReply}
use Rattle.hay_reader.specs.declared.seat.ReadReply.TheVariants as read
use Rattle.hay_reader.specs.declared.trial.Shown.{Shown}
use Rattle.hay_reader.specs.declared.trial.Shown.TheVariants as shown
use Rattle.hay_logical.specs.Sights.{AwaitsLook, AwaitsLookAt, IsLiveSight, Sight, sight}
use Rattle.hay_logical.specs.Sights.Sight.{Gone, Live, Never, Unseen}
use Rattle.hay_logical.specs.declared.fault.LogicalFault.{LogicalFault}
use Rattle.hay_logical.specs.declared.fault.LogicalFault.TheVariants as refusal
use Rattle.hay_reply.specs.declared.Cause.{Cause}
use Rattle.hay_reply.specs.declared.Cause.TheVariants.{Damage}
use Rattle.hay_cluster.specs.Passing.{StandsFor}
use Rattle.hay_cluster.specs.declared.reading.Found.{Found}
use Rattle.hay_cluster.specs.Reads.{AwaitsFor, FoundSees, IsFoundAs, IsSightCause, MayHave, ReadSees, passed_at}
use Rattle.hay_cluster.specs.Seen.{StoreSeen}
use Rattle.hay_cluster.specs.Sights.{IsAbsent, SeesOn}
use Rattle.hay_cluster.specs.Store.{IsBuilt}
use Rattle.hay_legal.proofs.Machines.{replica_found, same_machine}
use Rattle.hay_cluster.proofs.Showing.{all_tried}

-- PLACES

module _ {P : Type 0} (Tells : Type 0) (sure : Bool) (cookie : Cookie) (put : List ℕ) where
  -- a photo that is shown stands there
  gives_live : (there : Place P) (what : Shown) → IsRead what → PlaceGives Tells sure cookie put there (Ok what) → IsLiveSight (sight there)
  gives_live (place.Live needle) what is gives = tt
  gives_live place.None what is gives = let same : what ≡ shown.Gone = cc in absurd (subst IsRead same is)
  gives_live place.Gone what is gives = let same : what ≡ shown.Gone = cc in absurd (subst IsRead same is)
  gives_live (place.Unseen at size) what is gives = let same : what ≡ shown.Unseen = cc in absurd (subst IsRead same is)

  gives_none : (there : Place P) → PlaceGives Tells sure cookie put there (Ok shown.Gone) → IsAbsent (sight there)
  gives_none (place.Live needle) gives = gives.0
  gives_none place.None gives = tt
  gives_none place.Gone gives = tt
  gives_none (place.Unseen at size) gives = absurd cc

  gives_unseen : (there : Place P) → PlaceGives Tells sure cookie put there (Ok shown.Unseen) → AwaitsLook (sight there)
  gives_unseen (place.Live needle) gives = absurd gives.0
  gives_unseen place.None gives = absurd cc
  gives_unseen place.Gone gives = absurd cc
  gives_unseen (place.Unseen at size) gives = tt

-- ROWS

module _ {P : Type 0} (Tells : Type 0) (arm : ArmUse) (start : ℕ) (row : List (Place P)) (cookie : Cookie) (passed : List PassedReplica) where
  pub row_sees : (put : List ℕ) (reply : ReadReply) → ReadsRow Tells arm start row cookie passed put reply → ReadSees (λ j. sight (place_in row j)) reply
  row_sees put (read.Photo j) h = gives_live Tells arm.sure cookie put (place_in row j) shown.Photo tt h.1.gives
  row_sees put (read.Gone j) h = gives_none Tells arm.sure cookie put (place_in row j) h.1.gives
  row_sees put (read.WrongCookie j) h = gives_live Tells arm.sure cookie put (place_in row j) shown.WrongCookie tt h.1.gives
  row_sees put (read.Unseen j causes) h = gives_unseen Tells arm.sure cookie put (place_in row j) h.gives
  row_sees put (read.Unreadable causes) h = tt

module _ {P : Type 0} (row : List (Place P)) (cookie : Cookie) (passed : List PassedReplica) where
  -- what was read to see the place of the next replica shows it
  shown_at : (put bytes : List ℕ) (j : ℕ) (there : Place P) (what : Shown) → sight (place_in row j) ≡ sight there → ShowsSeen cookie put bytes there what
      → ReadSees (λ i. sight (place_in row i)) (reply_at j passed what)
  shown_at put bytes j (place.Live needle) shown.Photo same h = subst IsLiveSight (sym same) tt
  shown_at put bytes j (place.Live needle) shown.WrongCookie same h = subst IsLiveSight (sym same) tt
  shown_at put bytes j (place.Live needle) shown.Gone same h = absurd h
  shown_at put bytes j (place.Live needle) shown.Unseen same h = absurd h
  shown_at put bytes j place.None what same h =
      subst (λ (w : Shown). ReadSees (λ i. sight (place_in row i)) (reply_at j passed w)) (sym h) (subst IsAbsent (sym same) tt)
  shown_at put bytes j place.Gone what same h =
      subst (λ (w : Shown). ReadSees (λ i. sight (place_in row i)) (reply_at j passed w)) (sym h) (subst IsAbsent (sym same) tt)
  shown_at put bytes j (place.Unseen at size) what same h = absurd h

  pub shown_sees : (put bytes : List ℕ) (j : ℕ) (reply : ReadReply) → ShowsRead cookie put bytes passed j (place_in row j) reply → ReadSees (λ i. sight (place_in row i)) reply
  shown_sees put bytes j reply h =
      subst (λ (r : ReadReply). ReadSees (λ i. sight (place_in row i)) r) (sym h.2) (shown_at put bytes j (place_in row j) h.0 refl h.1)

-- by what is seen of the volume that has the row
pub sees_in : {P : Type 0} (row now : List (Place P)) (seen : ℕ → Sight) (reply : ReadReply) → row ≡ now → ((j : ℕ) → seen j ≡ sight (place_in now j)) → ReadSees (λ j. sight (place_in row j)) reply
    → ReadSees seen reply
sees_in {P} row now seen reply is same sees = go reply sees
  where
    here : (j : ℕ) → sight (place_in row j) ≡ seen j
    here j = ap (λ (l : List (Place P)). sight (place_in l j)) is ∙ sym (same j)

    go : (r : ReadReply) → ReadSees (λ j. sight (place_in row j)) r → ReadSees seen r
    go (read.Photo j) s = subst IsLiveSight (here j) s
    go (read.Gone j) s = subst IsAbsent (here j) s
    go (read.WrongCookie j) s = subst IsLiveSight (here j) s
    go (read.Unseen j causes) s = subst AwaitsLook (here j) s
    go (read.Unreadable causes) s = tt

-- REPLICAS THAT WERE PASSED OVER

damage_stands : (place : ℕ) (seen : Sight) → AwaitsLookAt place seen → StandsFor (Damage place) seen
damage_stands place Never awaits = awaits
damage_stands place (Live at) awaits = absurd awaits
damage_stands place Gone awaits = awaits
damage_stands place (Unseen at size) awaits = awaits

-- what awaits a look stands for why it was refused
pub awaits_for : (fault : LogicalFault) (cause : Cause) (seen : Sight) → IsSightCause fault cause → AwaitsFor fault seen → StandsFor cause seen
awaits_for (refusal.Failed m count) cause seen is awaits = subst (λ (c : Cause). StandsFor c seen) (sym is) awaits
awaits_for (refusal.Damaged m place) cause seen is awaits = subst (λ (c : Cause). StandsFor c seen) (sym is) (damage_stands place seen awaits)
awaits_for refusal.NoMemory cause seen is awaits = absurd is
awaits_for (refusal.ReadOnly m) cause seen is awaits = absurd is
awaits_for (refusal.Full m end need capacity) cause seen is awaits = absurd is
awaits_for (refusal.Gone front) cause seen is awaits = absurd is
awaits_for (refusal.Busy m generation) cause seen is awaits = absurd is
awaits_for (refusal.Worn m) cause seen is awaits = absurd is
awaits_for refusal.Idle cause seen is awaits = absurd is

-- those before the next replica are others than it, and the volume has each
pub next_apart : (settings : Settings) (start : ℕ) (causes : List PassedReplica) (replica : ℕ) → ComeFirst start settings.replicas causes → length causes < settings.replicas
    → replica ≡ (start + length causes) % settings.replicas → AllByRecursion (λ over. (over.replica < settings.replicas) × (over.replica ≡ replica → ⊥)) causes
next_apart settings start causes replica order fewer next =
    all_tried (λ j. (j < settings.replicas) × (j ≡ replica → ⊥)) (λ i. (start + i) % settings.replicas) (length causes) 0
    (λ i low high. (
      mod-lt (start + i) (omega (arith, fewer)),
      λ eq. let e : i ≡ length causes = same_machine settings.replicas start i (length causes) (omega (arith, high, fewer)) fewer (eq ∙ next) in omega (arith, e, high),
    )) causes order

-- WHAT IS TOLD

pub found_sees : (seen : ℕ → Sight) (r : ReadReply) (f : Found) → IsFoundAs r f → ReadSees seen r → FoundSees seen f
found_sees seen (read.Photo j) f is sees = subst (λ (x : Found). FoundSees seen x) (sym is) sees
found_sees seen (read.Gone j) f is sees = subst (λ (x : Found). FoundSees seen x) (sym is) sees
found_sees seen (read.WrongCookie j) f is sees = subst (λ (x : Found). FoundSees seen x) (sym is) sees
found_sees seen (read.Unseen j causes) f is sees = absurd is
found_sees seen (read.Unreadable causes) f is sees = subst (λ (x : Found). FoundSees seen x) (sym is) sees

module _ (settings : Settings) (v : ℕ) (pair : Pair) (seen : StoreSeen) (built : IsBuilt settings) (volume : v < settings.volumes) where
  pub sees_on : (Is : Sight → Type 0) (j m : ℕ) → j < settings.replicas → m ≡ machine_of settings v j → Is (seen.places v pair j) → SeesOn settings v pair Is seen m
  sees_on Is j m below machine is = (j, ap (λ n. replica_on settings v n) machine ∙ replica_found settings v j volume below built.no_more_replicas, is)

  told_each : (Is : ℕ → Cause → Type 0) (over : List PassedReplica) → AllByRecursion (λ p. p.replica < settings.replicas) over → MayHave Is over
      → AllByRecursion (λ (passed : Passed). (j : ℕ) × (replica_on settings v passed.machine ≡ Some j) × Is j passed.cause) (map (passed_at settings v) over)
  told_each Is [] below all = tt
  told_each Is (p ∷ over) below all = (
    (p.replica, replica_found settings v p.replica volume below.0 built.no_more_replicas, all.0),
    told_each Is over below.1 all.1,
  )

  -- each that was passed over, by its machine
  pub told_over : (Is : ℕ → Cause → Type 0) (start : ℕ) (over : List PassedReplica) → ComeFirst start settings.replicas over → MayHave Is over
      → AllByRecursion (λ (passed : Passed). (j : ℕ) × (replica_on settings v passed.machine ≡ Some j) × Is j passed.cause) (map (passed_at settings v) over)
  told_over Is start over order all =
      told_each Is over (all_tried (λ j. j < settings.replicas) (λ i. (start + i) % settings.replicas) (length over) 0
      (λ i low high. let some = built.some_replicas in mod-lt (start + i) (omega (arith, some))) over order) all
