-- What puts, deletes and flushes of a volume answer.
use Rattle.std.proofs.Common.{◌≡◌, ◌≢◌, ◌⊎◌, inl, inr, ℕ, zero, suc, ◌<◌, Bool, true, false, List, [], ◌∷◌, length, Option, Some, None, option_map, refl, sym, ap, subst, ◌∙◌, arith}
use Rattle.std.specs.Prelude.{Err, Ok, slice_index_or, slice_set}
use Rattle.std.specs.List.{list_any}
use Rattle.std.proofs.lemmas.Bool.{cases_Bool, cases_eq, cases_lt}
use Rattle.hay_needle.specs.declared.needle.Cookie.{Cookie}
use Rattle.hay_needle.specs.declared.needle.Outcome.{Outcome}
use Rattle.hay_needle.specs.declared.needle.Outcome.TheVariants as outcome
use Rattle.hay_needle.specs.declared.needle.Pair.{Pair}
use Rattle.hay_needle.specs.declared.settings.Settings.{Settings}
use Rattle.hay_needle.specs.Tables.{outcome_at, pair_eq}
use Rattle.hay_needle.proofs.TableLaws.{pair_same}
use Rattle.hay_disk.specs.Counts.{Rose}
use Rattle.hay_disk.specs.Disk.{Files}
use Rattle.hay_core.specs.declared.entry.CoreTag.{CoreTag}
use Rattle.hay_core.specs.declared.entry.Entry.TheVariants.{Del}
use Rattle.hay_legal.specs.declared.known.ReplicaKnown.{ReplicaKnown}
use Rattle.hay_legal.specs.declared.known.VolumeKnown.{VolumeKnown}
use Rattle.hay_legal.specs.Known.{empty_replica, lacks_room, machine_of, now, replica_at, room_refusal_of}
use Rattle.hay_legal.specs.Known as legal
use Rattle.hay_legal.specs.Plain.{has_pair, with_bare, with_stuck, without_run}
use Rattle.hay_map.specs.MapRows.{MapRows}
use Rattle.hay_map.specs.Places.{PlaceMeans, place_in}
use Rattle.hay_map.specs.Rows.{row_at}
use Rattle.hay_map.specs.declared.place.Place.{Place}
use Rattle.hay_map.specs.declared.place.Place.TheVariants as place
use Rattle.hay_compact.specs.Finishing.{IsSeen}
use Rattle.hay_physical.specs.declared.fault.ReplicaFault.{ReplicaFault}
use Rattle.hay_physical.specs.declared.fault.ReplicaFault.TheVariants as fault
use Rattle.hay_physical.specs.OpenCopies.{Copy, IsOpenCopy, IsUp, goal_of, is_stuck}
use Rattle.hay_physical.specs.Replicas as physical
use Rattle.hay_logical.specs.declared.fault.LogicalFault.TheVariants as logical
use Rattle.hay_logical.specs.declared.replicas.Broken.{Broken}
use Rattle.hay_logical.specs.declared.replicas.DiskFailed.{DiskFailed}
use Rattle.hay_logical.specs.declared.unsure.Change.TheVariants as change
use Rattle.hay_logical.specs.declared.unsure.Unsure.{Unsure}
use Rattle.hay_logical.specs.Answers.{DeleteRefused, FlushRefused, HasFailed, HasRoom, IsDeleted, IsFlushed, IsPut, PutRefused, change_at, is_held, room_answer}
use Rattle.hay_logical.specs.Answers as answers
use Rattle.hay_logical.specs.Fits.{At, Fits, RunsAs, copier_run}
use Rattle.hay_logical.specs.Notes.{is_live}
use Rattle.hay_logical.specs.Refusals.{answer_at}
use Rattle.hay_logical.specs.Stands.{ReplicaStands, Stands, StandsFor}
use Rattle.hay_logical.specs.ReplicaCalls.{AllIdle, CallsOne, DeleteLeaves, DeletesAt, FlushesAt, FollowsAt, LosesRun, PutLeaves, StaysBeside}
use Rattle.hay_logical.specs.Volumes.{CanReach, Volume}
use Rattle.hay_logical.proofs.Calls.{up_open, frozen_open}
use Rattle.hay_logical.proofs.Holding.{delete_part, stands_broken, stands_changed}
use Rattle.hay_logical.proofs.Compacting.{no_run}
use Rattle.hay_logical.proofs.Knowing.{changed_here, changed_other, fits_flushed, fits_other, fits_same, fits_stuck}
use Rattle.hay_logical.proofs.Lists.{at_below, at_read, at_same, at_there, length-slice_set}
use Rattle.hay_logical.proofs.Looking.{stands_on, stands_seen}
use Rattle.hay_logical.proofs.Methods.{one_after, one_count, other_same, shown}
use Rattle.hay_logical.proofs.Standing.{takes, volume_with}

pub not_some : (o : Option ℕ) → ((m : ℕ) → o ≡ Some m → ⊥) → o ≡ None
not_some None h = refl
not_some (Some m) h = absurd (h m refl)

pub some_none : {X Y : Type 0} {m : Y} → Some m ≡ None → X
some_none e = absurd cc

-- DELETES

place_stands : {P : Type 0} (Tells : Type 0) (pair : Pair) (p : Place P) (o : Outcome) → PlaceMeans Tells pair p o → legal.stands o ≡ is_live p
place_stands Tells pair (place.Live needle) (outcome.Photo photo) h = refl
place_stands Tells pair (place.Live needle) outcome.Nothing h = absurd h
place_stands Tells pair place.Gone (outcome.Photo photo) h = absurd h
place_stands Tells pair place.Gone outcome.Nothing h = refl
place_stands Tells pair place.None (outcome.Photo photo) h = absurd h
place_stands Tells pair place.None outcome.Nothing h = refl
place_stands Tells pair (place.Unseen at size) (outcome.Photo photo) h = absurd h
place_stands Tells pair (place.Unseen at size) outcome.Nothing h = absurd h

none_any : {X : Type 0} (f : X → Bool) (xs : List X) (d : X) → ((j : ℕ) → j < length xs → f (slice_index_or xs j d) ≡ false) → list_any f xs ≡ false
none_any f [] d h = refl
none_any f (x ∷ xs) d h =
    let first : f x ≡ false = h 0 (omega arith) in
    let rest : list_any f xs ≡ false = none_any f xs d (λ j less. h (suc j) (let more : suc j < length (x ∷ xs) = omega (arith, less) in more)) in
    rw (first, rest) refl

some_any : {X : Type 0} (f : X → Bool) (xs : List X) (j : ℕ) (d : X) → j < length xs → f (slice_index_or xs j d) ≡ true → list_any f xs ≡ true
some_any f [] j d h e = absurd (omega (arith, h))
some_any f (x ∷ xs) zero d h e = let first : f x ≡ true = e in rw first refl
some_any f (x ∷ xs) (suc j) d h e =
    let rest : list_any f xs ≡ true = some_any f xs j d (let less : j < length xs = omega (arith, h) in less) e in
    elim (cases_Bool (f x)) [
      | inl t ↦ rw t refl
      | inr n ↦ rw (n, rest) refl
    ]

-- what a delete of one replica leaves of it
pub deletes_sup : {D P : Type 0} (DiskTells : Type 0) (files : D → Files) (p : Place P) (r r' : Copy D) → DeletesAt DiskTells files p r r' → (r'.sup ≡ r.sup) × (is_stuck r' ≡ is_stuck r)
deletes_sup DiskTells files (place.Live needle) r r' h = (h.1, h.2)
deletes_sup DiskTells files place.Gone r r' h = (h.sup, h.stuck)
deletes_sup DiskTells files place.None r r' h = (h.sup, h.stuck)
deletes_sup DiskTells files (place.Unseen at size) r r' h = (h.sup, h.stuck)

deletes_up : {D P : Type 0} (DiskTells : Type 0) (files : D → Files) (p : Place P) (r r' : Copy D) → DeletesAt DiskTells files p r r' → IsUp r → IsUp r'
deletes_up {D = D} DiskTells files (place.Live needle) r r' h up = h.0
deletes_up {D = D} DiskTells files place.Gone r r' h up = h.up up
deletes_up {D = D} DiskTells files place.None r r' h up = h.up up
deletes_up {D = D} DiskTells files (place.Unseen at size) r r' h up = h.up up

pub deleted_same : {D P : Type 0} (DiskTells : Type 0) (files : D → Files) (p : Place P) (r r' : Copy D) → DeletesAt DiskTells files p r r' → IsUp r
    → IsUp r' × (r'.sup ≡ r.sup) × (is_stuck r' ≡ is_stuck r)
deleted_same DiskTells files p r r' h up =
    let s = deletes_sup DiskTells files p r r' h in
    (deletes_up DiskTells files p r r' h up, s.0, s.1)

-- whether a compaction ended
pub goal_follows : {D P : Type 0} (DiskTells : Type 0) (files : D → Files) (faults : D → ℕ) (pair : Pair) (p : Place P) (r r' : Copy D) → FollowsAt DiskTells files faults pair p r r'
    → (goal_of r' ≡ goal_of r) ⊎ ((goal_of r' ≡ None) × Rose (faults r.disk) (faults r'.disk))
goal_follows DiskTells files faults pair (place.Live needle) r r' h = h.goal
goal_follows DiskTells files faults pair place.Gone r r' h = inl (ap (λ x. goal_of x) h)
goal_follows DiskTells files faults pair place.None r r' h = inl (ap (λ x. goal_of x) h)
goal_follows DiskTells files faults pair (place.Unseen at size) r r' h = inl (ap (λ x. goal_of x) h)

-- what a delete that was broken off leaves: each replica is open, with its superblock and its index
pub record Remains {D : Type 0} (r r' : Copy D) : Type 0 where
  pub «open» : IsOpenCopy r'
  pub sup : r'.sup ≡ r.sup
  pub stuck : is_stuck r' ≡ is_stuck r

module _ {D P : Type 0} (settings : Settings) (number : ℕ) (DiskTells : Type 0) (files : D → Files) (Tells : Type 0) (faults fuses : D → ℕ) where
  pub held_by : (items : List (Copy D)) (rows : MapRows P) (front : ℕ) (frozen : Option ℕ) (unsure : Option Unsure) (k : VolumeKnown) (pair : Pair) (row : List (Place P))
      → StandsFor files Tells (volume_with settings number items rows front frozen unsure) k → row ≡ row_at rows pair → ((j : ℕ) → j < settings.replicas → IsSeen (place_in (row_at rows pair) j))
      → (j : ℕ) → j < settings.replicas → has_pair k pair (replica_at k j) ≡ is_live (place_in row j)
  held_by items rows front frozen unsure k pair row stands is seen j h =
      let all : length items ≡ settings.replicas = stands.all in
      let there = at_there items j (let less : j < length items = omega (arith, h, all) in less) in
      place_stands Tells pair (place_in row j) (outcome_at (now k (replica_at k j)) pair)
      (subst (λ l. PlaceMeans Tells pair (place_in l j) (outcome_at (now k (replica_at k j)) pair)) (sym is)
      (stands_seen DiskTells files Tells there.0 pair (place_in (row_at rows pair) j) (outcome_at (now k (replica_at k j)) pair) (seen j h)
      (shown settings number DiskTells files Tells faults fuses items rows front frozen unsure k stands pair j there.0 there.1)))

  pub not_held : (items : List (Copy D)) (rows : MapRows P) (front : ℕ) (frozen : Option ℕ) (unsure : Option Unsure) (k : VolumeKnown) (pair : Pair) (row : List (Place P))
      → StandsFor files Tells (volume_with settings number items rows front frozen unsure) k → row ≡ row_at rows pair → length row ≡ settings.replicas
      → ((j : ℕ) → j < settings.replicas → IsSeen (place_in (row_at rows pair) j))
      → ((j : ℕ) → j < length row → is_live (place_in row j) ≡ false) → is_held k pair ≡ false
  not_held items rows front frozen unsure k pair row stands is long seen none =
      let many : length k.replicas ≡ settings.replicas = stands.many in
      none_any (has_pair k pair) k.replicas empty_replica (λ j h.
      let within : j < settings.replicas = omega (arith, h, many) in
      let less : j < length row = omega (arith, within, long) in
      held_by items rows front frozen unsure k pair row stands is seen j within ∙ none j less)

  pub is_held_at : (items : List (Copy D)) (rows : MapRows P) (front : ℕ) (frozen : Option ℕ) (unsure : Option Unsure) (k : VolumeKnown) (pair : Pair) (row : List (Place P))
      → StandsFor files Tells (volume_with settings number items rows front frozen unsure) k → row ≡ row_at rows pair → length row ≡ settings.replicas
      → ((j : ℕ) → j < settings.replicas → IsSeen (place_in (row_at rows pair) j))
      → (some : (j : ℕ) × (j < length row) × (is_live (place_in row j) ≡ true)) → is_held k pair ≡ true
  is_held_at items rows front frozen unsure k pair row stands is long seen some =
      let many : length k.replicas ≡ settings.replicas = stands.many in
      let less = some.1 in
      let within : some.0 < settings.replicas = omega (arith, less, long) in
      let known : some.0 < length k.replicas = omega (arith, within, many) in
      some_any (has_pair k pair) k.replicas some.0 empty_replica known (held_by items rows front frozen unsure k pair row stands is seen some.0 within ∙ some.2)

  -- the places of other pairs that were not looked at are apart from those of a pair that was
  pub apart_of : DiskTells → (items : List (Copy D)) (rows : MapRows P) (pair : Pair) → CanReach DiskTells files Tells items rows → ((j : ℕ) (r : Copy D) → At items j r → IsOpenCopy r)
      → (j : ℕ) (r : Copy D) → At items j r → IsSeen (place_in (row_at rows pair) j) → (q : Pair) (at size : ℕ) → place_in (row_at rows q) j ≡ place.Unseen at size
      → physical.IsApartPlace at size (place_in (row_at rows pair) j)
  apart_of tells items rows pair can ups j r e own q at size here = elim (cases_Bool (pair_eq q pair)) [
    | inl same ↦
        let is_own : place_in (row_at rows pair) j ≡ place.Unseen at size = ap (λ (x : Pair). place_in (row_at rows x) j) (sym (pair_same q pair same)) ∙ here in
        let never : ⊥ = subst IsSeen is_own own in absurd never
    | inr differ ↦ subst (λ x. physical.ArePlacesApart x (place_in (row_at rows pair) j)) here (((can tells j r e).sees (ups j r e)).apart q pair differ)
  ]

  pub delete_refused : DiskTells → (items new : List (Copy D)) (rows : MapRows P) (front : ℕ) (frozen : Option ℕ) (unsure : Option Unsure) (k : VolumeKnown) (tag : CoreTag)
      (pair : Pair) (row : List (Place P)) (failed : DiskFailed) (m : ℕ)
      → StandsFor files Tells (volume_with settings number items rows front frozen unsure) k → frozen ≡ None → length new ≡ length items → row ≡ row_at rows pair
      → length row ≡ settings.replicas → ((j : ℕ) → j < settings.replicas → IsSeen (place_in (row_at rows pair) j))
      → (some : (j : ℕ) × (j < length row) × (is_live (place_in row j) ≡ true)) → m ≡ machine_of settings number failed.at → DeleteLeaves DiskTells files faults row items new failed → AllIdle new
      → CanReach DiskTells files Tells items rows → ((j : ℕ) (r : Copy D) → At items j r → IsOpenCopy r)
      → ((j : ℕ) (r r' : Copy D) → At items j r → At new j r' → StaysBeside DiskTells files (place_in row j) r r')
      → DeleteRefused files Tells k tag pair (volume_with settings number new rows front (Some m) (Some (record { tag = tag; change = change.Delete pair }))) (logical.Failed m failed.faults)
  unfolding Stands
  delete_refused tells items new rows front (Some n) unsure k tag pair row failed m stands thawed count is long seen some machine left idle can ups beside = some_none thawed
  delete_refused tells items new rows front None unsure k tag pair row failed m stands thawed count is long seen some machine left idle can ups beside =
      let left' : DeleteLeaves DiskTells files faults (row_at rows pair) items new failed = subst (λ l. DeleteLeaves DiskTells files faults l items new failed) is left in
      let below = at_below items failed.at left.before left.was in
      let all : length items ≡ settings.replicas = stands.all in
      let looked : (j : ℕ) (r : Copy D) → At items j r → IsSeen (place_in (row_at rows pair) j) =
      λ j r e. seen j (let low = at_below items j r e in let less : j < settings.replicas = omega (arith, low, all) in less) in (
        stands.frozen,
        inr (
          is_held_at items rows front None unsure k pair row stands is long seen some,
          stands_broken DiskTells files Tells settings number items new rows rows front unsure k tag (Del pair) (change.Delete pair) m failed.at true stands count
              ((let less : failed.at < settings.replicas = omega (arith, below, all) in less), ap (λ n. Some n) machine) refl (λ q. refl)
              (delete_part DiskTells files Tells settings number tells faults items new rows front unsure k pair failed left'
              (λ j r r' less e f. (deletes_sup DiskTells files (place_in row j) r r' (left.below j r r' less e f)).1) looked) idle
              (λ j r r' e f q what. stands_on DiskTells files Tells (λ at size. physical.IsApartPlace at size (place_in row j)) r r' q (place_in (row_at rows q) j) what (beside j r r' e f tells).sees
              (λ at size here. subst (λ l. physical.IsApartPlace at size (place_in l j)) (sym is) (apart_of tells items rows pair can ups j r e (looked j r e) q at size here))),
        ),
      )

  pub delete_failed : (items new : List (Copy D)) (row : List (Place P)) (failed : DiskFailed) (m : ℕ) → length items ≡ settings.replicas
      → m ≡ machine_of settings number failed.at → DeleteLeaves DiskTells files faults row items new failed → HasFailed faults settings number items new m failed.faults
  delete_failed items new row failed m all machine left =
      let below = at_below items failed.at left.before left.was in
      record {
        replica = failed.at;
        within = omega (arith, below, all);
        before = left.before;
        after = left.after;
        was = left.was;
        is = left.is;
        machine = machine;
        rose = left.rose;
        printed = left.printed;
      }

-- where a delete was broken off
pub delete_remains : {D P : Type 0} (DiskTells : Type 0) (files : D → Files) (faults : D → ℕ) (items new : List (Copy D)) (row : List (Place P)) (failed : DiskFailed)
    → DeleteLeaves DiskTells files faults row items new failed → ((j : ℕ) (r : Copy D) → At items j r → IsUp r)
    → (j : ℕ) (r r' : Copy D) → At items j r → At new j r' → Remains r r'
delete_remains DiskTells files faults items new row failed left up j r r' e f =
    elim (cases_lt j failed.at) [
      | inl less ↦
          let h = deleted_same DiskTells files (place_in row j) r r' (left.below j r r' less e f) (up j r e) in
          record { «open» = up_open r' h.0; sup = h.1; stuck = h.2 }
      | inr most ↦ elim (cases_lt failed.at j) [
        | inl later ↦ let ends = left.above j r r' later e f in record { «open» = ends.«open» (up_open r (up j r e)); sup = ends.sup; stuck = ends.stuck }
        | inr no_later ↦
            let here : j ≡ failed.at = omega (arith, most, no_later) in
            let before : r ≡ left.before = at_same items j r left.before e (subst (λ n. At items n left.before) (sym here) left.was) in
            let after : r' ≡ left.after = at_same new j r' left.after f (subst (λ n. At new n left.after) (sym here) left.is) in
            subst (λ x. Remains x r') (sym before) (subst (λ x. Remains left.before x) (sym after) (record { «open» = frozen_open left.after left.frozen; sup = left.sup; stuck = left.stuck }))
      ]
    ]

-- and a put
pub put_remains : {D : Type 0} (DiskTells : Type 0) (files : D → Files) (faults : D → ℕ) (pair : Pair) (cookie : Cookie) (bytes : List ℕ) (items new : List (Copy D)) (broken : Broken)
    → PutLeaves DiskTells files faults pair cookie bytes items new broken → ((j : ℕ) (r : Copy D) → At items j r → IsUp r)
    → (j : ℕ) (r r' : Copy D) → At items j r → At new j r' → Remains r r'
put_remains DiskTells files faults pair cookie bytes items new broken left up j r r' e f =
    elim (cases_lt j broken.at) [
      | inl less ↦ let h = left.below j r r' less e f in record { «open» = up_open r' h.0; sup = h.1; stuck = h.2 }
      | inr most ↦ elim (cases_lt broken.at j) [
        | inl later ↦ let ends = left.above j r r' later e f in record { «open» = ends.«open» (up_open r (up j r e)); sup = ends.sup; stuck = ends.stuck }
        | inr no_later ↦
            let here : j ≡ broken.at = omega (arith, most, no_later) in
            let before : r ≡ left.before = at_same items j r left.before e (subst (λ n. At items n left.before) (sym here) left.was) in
            let after : r' ≡ left.after = at_same new j r' left.after f (subst (λ n. At new n left.after) (sym here) left.is) in
            subst (λ x. Remains x r') (sym before) (subst (λ x. Remains left.before x) (sym after) (record { «open» = left.there.«open»; sup = left.there.sup; stuck = left.there.stuck }))
      ]
    ]

-- FLUSHES

pub set_back : {X : Type 0} (xs : List X) (j : ℕ) (x : X) → At xs j x → slice_set xs j x ≡ xs
set_back [] j x e = refl
set_back (y ∷ xs) zero x e = let same : y ≡ x = cc in ap (λ z. z ∷ xs) (sym same)
set_back (y ∷ xs) (suc j) x e = ap (λ l. y ∷ l) (set_back xs j x e)

module _ {D P : Type 0} (settings : Settings) (number : ℕ) (DiskTells : Type 0) (files : D → Files) (Tells : Type 0) (faults : D → ℕ) where
  -- one replica was called
  pub stands_one : (items new : List (Copy D)) (rows : MapRows P) (front : ℕ) (unsure : Option Unsure) (k t : VolumeKnown) (at : ℕ) (one : CallsOne at items new)
      → StandsFor files Tells (volume_with settings number items rows front None unsure) k
      → t.log ≡ k.log → t.frozen ≡ k.frozen → t.pending ≡ k.pending → length t.replicas ≡ length k.replicas
      → (ReplicaStands files Tells (volume_with settings number items rows front None unsure) k at one.before
      → ReplicaStands files Tells (volume_with settings number new rows front None unsure) t at one.after)
      → ((j : ℕ) → j ≢ at → (r : Copy D) → ReplicaStands files Tells (volume_with settings number items rows front None unsure) k j r
      → ReplicaStands files Tells (volume_with settings number new rows front None unsure) t j r)
      → StandsFor files Tells (volume_with settings number new rows front None unsure) t
  stands_one items new rows front unsure k t at one stands log frozen pending many here others =
      let V : Volume D P = volume_with settings number items rows front None unsure in
      let W : Volume D P = volume_with settings number new rows front None unsure in
      stands_changed DiskTells files Tells settings number items new rows front unsure k t stands (one_count at items new one) log frozen pending many
      (λ j r r' e f was. elim (cases_eq j at) [
        | inl same ↦
            let r_is : r ≡ one.before = at_same items at r one.before (subst (λ n. At items n r) same e) one.was in
            let r'_is : r' ≡ one.after = at_same new at r' one.after (subst (λ n. At new n r') same f) (one_after at items new one) in
            let before : ReplicaStands files Tells V k at one.before = subst (λ n. ReplicaStands files Tells V k n one.before) same (subst (λ x. ReplicaStands files Tells V k j x) r_is was) in
            subst (λ n. ReplicaStands files Tells W t n r') (sym same) (subst (λ x. ReplicaStands files Tells W t at x) (sym r'_is) (here before))
        | inr apart ↦ subst (λ x. ReplicaStands files Tells W t j x) (sym (other_same at items new one j apart r r' e f)) (others j apart r was)
      ])

  pub other_changed : (items new : List (Copy D)) (rows : MapRows P) (front : ℕ) (unsure : Option Unsure) (k : VolumeKnown) (at : ℕ) (alter : ReplicaKnown → ReplicaKnown) (j : ℕ)
      → j ≢ at → (r : Copy D)
      → ReplicaStands files Tells (volume_with settings number items rows front None unsure) k j r
      → ReplicaStands files Tells (volume_with settings number new rows front None unsure) (change_at k at alter) j r
  other_changed items new rows front unsure k at alter j apart r was = record {
    stored = was.stored;
    fits = fits_other k j at alter was.stored apart was.fits;
    stands = was.stands;
    stuck = ap (λ x. x.stuck) (changed_other k j at alter apart) ∙ was.stuck;
    run = subst (λ (x : ReplicaKnown). RunsAs files r was.stored x.run) (sym (changed_other k j at alter apart)) was.run;
    settled = ap (λ x. x.poised) (changed_other k j at alter apart) ∙ was.settled;
    places = was.places;
  }

  -- the compaction of one replica ended, if one stood
  pub run_ended : DiskTells → (items new : List (Copy D)) (rows : MapRows P) (front : ℕ) (frozen : Option ℕ) (unsure : Option Unsure) (k : VolumeKnown) (at : ℕ) (one : CallsOne at items new)
      → StandsFor files Tells (volume_with settings number items rows front frozen unsure) k → LosesRun DiskTells files one.before one.after → goal_of one.after ≡ None
      → StandsFor files Tells (volume_with settings number new rows front frozen unsure) (change_at k at without_run)
  run_ended tells items new rows front None unsure k at one stands loses idle =
      let below = at_below items at one.before one.was in
      let all : length items ≡ settings.replicas = stands.all in
      let many : length k.replicas ≡ settings.replicas = stands.many in
      let known : at < length k.replicas = omega (arith, below, all, many) in
      let here = changed_here k at without_run known in
      stands_one items new rows front unsure k (change_at k at without_run) at one stands refl refl refl (length-slice_set k.replicas at _)
      (λ w. record {
        stored = w.stored;
        fits = subst (λ (x : ReplicaKnown). Fits (change_at k at without_run) x w.stored) (sym here)
            (fits_same k (change_at k at without_run) (replica_at k at) (without_run (replica_at k at)) w.stored refl refl refl refl refl refl w.fits);
        stands = loses.stands tells w.stored w.stands;
        stuck = ap (λ (x : ReplicaKnown). x.stuck) here ∙ w.stuck ∙ sym loses.stuck;
        run = no_run files one.after w.stored (replica_at (change_at k at without_run) at).run (ap (λ (x : ReplicaKnown). x.run) here) idle;
        settled = ap (λ (x : ReplicaKnown). x.poised) here ∙ w.settled;
        places = w.places;
      })
      (other_changed items new rows front unsure k at without_run)
  run_ended tells items new rows front (Some m) unsure k at one stands loses idle =
      let below = at_below items at one.before one.was in
      let all : length items ≡ settings.replicas = stands.all in
      let many : length k.replicas ≡ settings.replicas = stands.many in
      let known : at < length k.replicas = omega (arith, below, all, many) in
      let was = stands.by.idle at one.before one.was in
      let same : new ≡ items = one.is ∙ ap (λ x. slice_set items at x) (loses.idle was.1) ∙ set_back items at one.before one.was in
      let bare : without_run (replica_at k at) ≡ replica_at k at = ap (λ run. record (replica_at k at) { run = run }) (sym was.0) in
      let known_same : change_at k at without_run ≡ k =
      ap (λ replicas. record k { replicas = replicas }) (ap (λ x. slice_set k.replicas at x) bare ∙ set_back k.replicas at (replica_at k at) (at_read k.replicas at empty_replica known)) in
      subst (λ (t : VolumeKnown). StandsFor files Tells (volume_with settings number new rows front (Some m) unsure) t) (sym known_same)
      (subst (λ rs. StandsFor files Tells (volume_with settings number rs rows front (Some m) unsure) k) (sym same) stands)

  pub flushed : DiskTells → (items new : List (Copy D)) (rows : MapRows P) (front : ℕ) (frozen : Option ℕ) (unsure : Option Unsure) (k : VolumeKnown) (at n : ℕ) (one : CallsOne at items new)
      → StandsFor files Tells (volume_with settings number items rows front frozen unsure) k → frozen ≡ None → FlushesAt DiskTells files faults one.before one.after (Ok n)
      → IsFlushed files Tells k at n (volume_with settings number new rows front frozen unsure)
  unfolding Stands
  flushed tells items new rows front (Some m) unsure k at n one stands thawed step = some_none thawed
  flushed tells items new rows front None unsure k at n one stands thawed step =
      let taking = takes DiskTells files Tells settings number items rows front None unsure k stands refl in
      let was = taking.each at one.before one.was in
      let below = at_below items at one.before one.was in
      let all : length items ≡ settings.replicas = stands.all in
      let many : length k.replicas ≡ settings.replicas = stands.many in
      let known : at < length k.replicas = omega (arith, below, all, many) in
      let done = step.flushed tells was.stored was.stands in
      let bare = was.fits.bare in
      let told = done.0 in
      record {
        thawed = stands.frozen;
        loose = was.stuck ∙ step.loose.0;
        number = omega (arith, bare, told);
        stands = stands_one items new rows front unsure k (change_at k at (with_bare 0)) at one stands refl refl refl (length-slice_set k.replicas at _)
            (λ w. let h = step.flushed tells w.stored w.stands in record {
              stored = physical.all_recorded w.stored;
              fits = fits_flushed k at w.stored known w.fits;
              stands = h.1;
              stuck = ap (λ x. x.stuck) (changed_here k at (with_bare 0) known) ∙ w.stuck ∙ step.loose.0 ∙ sym step.loose.1;
              run = subst (λ (x : ReplicaKnown). RunsAs files one.after (physical.all_recorded w.stored) x.run) (sym (changed_here k at (with_bare 0) known))
                  (step.run tells w.stored (option_map copier_run (replica_at k at).run) w.stands w.run);
              settled = ap (λ x. x.poised) (changed_here k at (with_bare 0) known) ∙ w.settled;
              places = w.places;
            })
            (other_changed items new rows front unsure k at (with_bare 0));
      }

  pub flush_refused : DiskTells → (items new : List (Copy D)) (rows : MapRows P) (front : ℕ) (frozen : Option ℕ) (unsure : Option Unsure) (k : VolumeKnown) (at m : ℕ)
      (f : ReplicaFault) (one : CallsOne at items new)
      → StandsFor files Tells (volume_with settings number items rows front frozen unsure) k → frozen ≡ None → m ≡ machine_of settings number at
      → FlushesAt DiskTells files faults one.before one.after (Err f)
      → FlushRefused files Tells k at (volume_with settings number items rows front frozen unsure) (volume_with settings number new rows front frozen unsure) (answer_at m f)
  unfolding Stands
  flush_refused tells items new rows front (Some n) unsure k at m f one stands thawed machine step = some_none thawed
  flush_refused tells items new rows front None unsure k at m (fault.Failed printed) one stands thawed machine step =
      let taking = takes DiskTells files Tells settings number items rows front None unsure k stands refl in
      let was = taking.each at one.before one.was in
      let below = at_below items at one.before one.was in
      let all : length items ≡ settings.replicas = stands.all in
      let many : length k.replicas ≡ settings.replicas = stands.many in
      let known : at < length k.replicas = omega (arith, below, all, many) in (
        stands.frozen,
        was.stuck ∙ step.not_stuck (λ e. cc),
        machine,
        stands_one items new rows front unsure k (change_at k at with_stuck) at one stands refl refl refl (length-slice_set k.replicas at _)
            (λ w. record {
              stored = w.stored;
              fits = fits_stuck k at w.stored known w.fits;
              stands = step.refused tells w.stored w.stands;
              stuck = ap (λ x. x.stuck) (changed_here k at with_stuck known) ∙ sym (step.cause.2);
              run = subst (λ (x : ReplicaKnown). RunsAs files one.after w.stored x.run) (sym (changed_here k at with_stuck known))
                  (step.run_stays tells w.stored (option_map copier_run (replica_at k at).run) w.stands w.run);
              settled = ap (λ x. x.poised) (changed_here k at with_stuck known) ∙ w.settled;
              places = w.places;
            })
            (other_changed items new rows front unsure k at with_stuck),
      )
  flush_refused tells items new rows front None unsure k at m fault.Frozen one stands thawed machine step =
      let taking = takes DiskTells files Tells settings number items rows front None unsure k stands refl in
      let was = taking.each at one.before one.was in (
        inr (stands.frozen, was.stuck ∙ step.cause.0, machine),
        ap (λ rs. volume_with settings number rs rows front None unsure) (one.is ∙ ap (λ x. slice_set items at x) step.cause.1 ∙ set_back items at one.before one.was),
      )
  flush_refused tells items new rows front None unsure k at m (fault.Full end need capacity) one stands thawed machine step = absurd step.cause
  flush_refused tells items new rows front None unsure k at m (fault.Busy generation) one stands thawed machine step = absurd step.cause
  flush_refused tells items new rows front None unsure k at m (fault.Ended count) one stands thawed machine step = absurd step.cause
  flush_refused tells items new rows front None unsure k at m fault.Worn one stands thawed machine step = absurd step.cause
  flush_refused tells items new rows front None unsure k at m (fault.Damaged place) one stands thawed machine step = absurd step.cause
  flush_refused tells items new rows front None unsure k at m fault.NoMemory one stands thawed machine step =
      let taking = takes DiskTells files Tells settings number items rows front None unsure k stands refl in
      let was = taking.each at one.before one.was in (
        stands.frozen,
        was.stuck ∙ step.not_stuck (λ e. cc),
        stands_one items new rows front unsure k k at one stands refl refl refl refl
            (λ w. record {
              stored = w.stored;
              fits = w.fits;
              stands = step.refused tells w.stored w.stands;
              stuck = w.stuck ∙ sym step.cause;
              run = step.run_stays tells w.stored (option_map copier_run (replica_at k at).run) w.stands w.run;
              settled = w.settled;
              places = w.places;
            })
            (λ j apart r w. record { stored = w.stored; fits = w.fits; stands = w.stands; stuck = w.stuck; run = w.run; settled = w.settled; places = w.places }),
      )

-- the one replica that was called failed
pub one_failed : {D : Type 0} (faults : D → ℕ) (settings : Settings) (number : ℕ) (items new : List (Copy D)) (at m printed : ℕ) (one : CallsOne at items new)
    → length items ≡ settings.replicas → m ≡ machine_of settings number at
    → Rose (faults (one.before).disk) (faults (one.after).disk) → printed ≡ faults (one.after).disk → HasFailed faults settings number items new m printed
one_failed faults settings number items new at m printed one all machine rose is =
    let below = at_below items at one.before one.was in
    record {
      replica = at;
      within = omega (arith, below, all);
      before = one.before;
      after = one.after;
      was = one.was;
      is = one_after at items new one;
      machine = machine;
      rose = rose;
      printed = is;
    }

module _ {D : Type 0} (settings : Settings) (number : ℕ) (DiskTells : Type 0) (files : D → Files) (faults : D → ℕ) where
  pub flush_cause : (items new : List (Copy D)) (at m : ℕ) (f : ReplicaFault) (one : CallsOne at items new) → length items ≡ settings.replicas → m ≡ machine_of settings number at
      → FlushesAt DiskTells files faults one.before one.after (Err f) → answers.IsFlushFault faults settings number at items new (answer_at m f)
  flush_cause items new at m (fault.Failed printed) one all machine step = (machine, one_failed faults settings number items new at m printed one all machine step.cause.0 step.cause.1)
  flush_cause items new at m fault.Frozen one all machine step = (let below = at_below items at one.before one.was in (at, omega (arith, below, all), machine))
  flush_cause items new at m (fault.Full end need capacity) one all machine step = absurd step.cause
  flush_cause items new at m (fault.Busy generation) one all machine step = absurd step.cause
  flush_cause items new at m (fault.Ended count) one all machine step = absurd step.cause
  flush_cause items new at m fault.Worn one all machine step = absurd step.cause
  flush_cause items new at m (fault.Damaged place) one all machine step = absurd step.cause
  flush_cause items new at m fault.NoMemory one all machine step = tt
