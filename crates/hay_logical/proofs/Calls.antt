-- What the calls of the replicas in order do.
use Rattle.std.proofs.Common.{◌≡◌, ◌≢◌, ◌⊎◌, inl, inr, ℕ, zero, suc, ◌+◌, ◌<◌, ◌≤◌, Bool, true, false, List, [], ◌∷◌, ◌++◌, length, replicate, refl, sym, ap, subst, ◌∙◌, arith}
use Rattle.std.specs.Prelude.{slice_set, None, Result, Ok, Err, OnOk, IfErr}
use Rattle.std.proofs.Math.Path.{fun_ext}
use Rattle.std.proofs.lemmas.Bool.{cases_Bool, cases_eq, cases_lt}
use Rattle.std.proofs.lemmas.List.{get_or-set_same, get_or-set_other}
use Rattle.hay_needle.specs.declared.needle.Cookie.{Cookie}
use Rattle.hay_needle.specs.declared.needle.Pair.{Pair}
use Rattle.hay_needle.specs.Sizes.{needle_total}
use Rattle.hay_needle.specs.Tables.{pair_eq}
use Rattle.hay_disk.specs.Disk.{Files, IsSolid}
use Rattle.hay_disk.specs.Counts.{Rose}
use Rattle.hay_map.specs.MapRows.{MapRows}
use Rattle.hay_map.specs.Places.{place_in}
use Rattle.hay_map.specs.Rows.{row_at}
use Rattle.hay_map.specs.Sealed.{SealedNeedle}
use Rattle.hay_map.specs.declared.place.Place.{Place}
use Rattle.hay_map.specs.declared.place.Place.TheVariants as place
use Rattle.hay_open.specs.Damage.{IsOpeningDamage}
use Rattle.hay_open.specs.declared.fault.OpenFault.{OpenFault}
use Rattle.hay_open.specs.declared.fault.OpenFault.TheVariants as open_fault
use Rattle.hay_open.proofs.Formatting.{void_left}
use Rattle.hay_open.specs.Stored.{IsReplicaFile, OpensAs, Stored, last_cell}
use Rattle.hay_physical.specs.declared.state.Phase.{Phase}
use Rattle.hay_physical.specs.declared.state.Phase.TheVariants as phase
use Rattle.hay_physical.specs.declared.fault.ReplicaFault.{ReplicaFault}
use Rattle.hay_physical.specs.declared.fault.ReplicaFault.TheVariants as fault
use Rattle.hay_physical.specs.OpenCopies.{Copy, EndedAt, HasFrozen, IsFrozen, IsOpenCopy, IsOpenPhase, IsUp, capacity_of, contents_of, end_of, goal_of, is_frozen, is_stuck}
use Rattle.hay_physical.specs.OpenCopies.{phase_frozen, phase_stuck, volume_bytes}
use Rattle.hay_physical.specs.Replicas as physical
use Rattle.hay_physical.proofs.Laws.{stands_hold}
use Rattle.hay_physical.specs.Faults as physical_faults
use Rattle.hay_logical.specs.Fits.{At, PhotoAt}
use Rattle.hay_logical.specs.Needles.{HasLiveNeedle}
use Rattle.hay_logical.specs.Readings.{IsReadAs}
use Rattle.hay_logical.specs.Seen.{replica_seen}
use Rattle.hay_logical.specs.Volumes.{CanReach, KeepsCounts, ReachesPlaces}
use Rattle.hay_logical.specs.ReplicaCalls.{DeletesAt, FollowsAt, IsFlushFault, IsOpenFault, IsPutFault, KeepsDisk, KeepsReach, KeepsRun, LeftAt, LosesRun, OpensAt, PutsAt, RoomFor, StaysBeside}
use Rattle.hay_logical.specs.Sights.{IsSightOfLast, LiesWithin, Sight, sight}
use Rattle.hay_logical.proofs.Lists.{Went, at_below, at_same, at_set_other, at_set_same, at_there, length-slice_set}

-- PHASES

phase_open : (b : Bool) (p : Phase) → HasFrozen b p → IsOpenPhase p
phase_open b phase.Closed h = absurd h
phase_open b (phase.Open opened) h = tt

pub up_open : {D : Type 0} (r : Copy D) → IsUp r → IsOpenCopy r
up_open r h = phase_open false r.phase h

pub frozen_open : {D : Type 0} (r : Copy D) → IsFrozen r → IsOpenCopy r
frozen_open r h = phase_open true r.phase h

phase_not_both : (p : Phase) → HasFrozen false p → HasFrozen true p → ⊥
phase_not_both phase.Closed up frozen = up
phase_not_both (phase.Open opened) up frozen = let both : false ≡ true = sym up ∙ frozen in cc

pub not_both : {D : Type 0} (r : Copy D) → IsUp r → IsFrozen r → ⊥
not_both r up frozen = phase_not_both r.phase up frozen

phase_up : (p : Phase) → IsOpenPhase p → phase_frozen p ≡ false → HasFrozen false p
phase_up phase.Closed is thawed = absurd is
phase_up (phase.Open opened) is thawed = thawed

pub open_up : {D : Type 0} (r : Copy D) → IsOpenCopy r → is_frozen r ≡ false → IsUp r
open_up r is thawed = phase_up r.phase is thawed

phase_thawed : (b : Bool) (p : Phase) → HasFrozen b p → phase_frozen p ≡ b
phase_thawed b phase.Closed h = absurd h
phase_thawed b (phase.Open opened) h = h

pub up_thawed : {D : Type 0} (r : Copy D) → IsUp r → is_frozen r ≡ false
up_thawed r h = phase_thawed false r.phase h

pub frozen_is : {D : Type 0} (r : Copy D) → IsFrozen r → is_frozen r ≡ true
frozen_is r h = phase_thawed true r.phase h

phase_froze : (p : Phase) → IsOpenPhase p → phase_frozen p ≡ true → HasFrozen true p
phase_froze phase.Closed is frozen = absurd is
phase_froze (phase.Open opened) is frozen = frozen

pub open_frozen : {D : Type 0} (r : Copy D) → IsOpenCopy r → is_frozen r ≡ true → IsFrozen r
open_frozen r is frozen = phase_froze r.phase is frozen

-- COUNTS

module _ {D : Type 0} (faults fuses : D → ℕ) where
  abbrev pub Counted : Copy D → Copy D → Type 0
  Counted r r' = (faults r.disk ≤ faults r'.disk) × (fuses r'.disk ≡ fuses r.disk)

  pub counted_same : (r r' : Copy D) → r' ≡ r → Counted r r'
  counted_same r r' e = subst (λ x. Counted r x) (sym e) (let h : faults r.disk ≤ faults r.disk = omega arith in h, refl)

  went_counted : (R : ℕ → Copy D → Copy D → Type 0) (n : ℕ) (old new : List (Copy D)) → Went R n old new → ((i : ℕ) (r r' : Copy D) → R i r r' → Counted r r')
      → (i : ℕ) (r r' : Copy D) → At old i r → At new i r' → Counted r r'
  went_counted R n old new w counts i r r' e f = elim (cases_lt i n) [
    | inl less ↦ counts i r r' (w.done i r r' less e f)
    | inr most ↦ counted_same r r' (w.rest i r r' most e f)
  ]

  pub keeps_counts : (old new : List (Copy D)) → length new ≡ length old → ((i : ℕ) (r r' : Copy D) → At old i r → At new i r' → Counted r r') → KeepsCounts faults fuses old new
  keeps_counts old new count each = record { count = count; rises = λ j r r' e f. (each j r r' e f).0; stay = λ j r r' e f. (each j r r' e f).1 }

  pub went_counts : (R : ℕ → Copy D → Copy D → Type 0) (n : ℕ) (old new : List (Copy D)) → Went R n old new → ((i : ℕ) (r r' : Copy D) → R i r r' → Counted r r') → KeepsCounts faults fuses old new
  went_counts R n old new w counts = keeps_counts old new w.count (went_counted R n old new w counts)

-- PUTS

-- a put of a replica that takes changes and has room fails by its disk or for want of memory
pub put_cause : {D : Type 0} (faults : D → ℕ) (r r' : Copy D) (size : ℕ) (f : ReplicaFault) → IsUp r → RoomFor size r → (f ≡ fault.Frozen → IsFrozen r)
    → ((end need capacity : ℕ) → f ≡ fault.Full end need capacity → capacity_of r < end_of r + needle_total size + 8)
    → physical_faults.IsPutFault (faults r.disk) (faults r'.disk) f
    → ((n : ℕ) → f ≡ fault.Failed n → IsFrozen r') → IsPutFault faults r r' f
put_cause faults r r' size (fault.Failed n) up room thawed full cause froze = (cause.0, cause.1, froze n refl)
put_cause faults r r' size fault.Frozen up room thawed full cause froze = not_both r up (thawed refl)
put_cause faults r r' size (fault.Full end need capacity) up room thawed full cause froze =
    let h = full end need capacity refl in absurd (omega (arith, h, room))
put_cause faults r r' size fault.NoMemory up room thawed full cause froze = tt
put_cause faults r r' size (fault.Busy generation) up room thawed full cause froze = absurd cause
put_cause faults r r' size (fault.Ended count) up room thawed full cause froze = absurd cause
put_cause faults r r' size fault.Worn up room thawed full cause froze = absurd cause
put_cause faults r r' size (fault.Damaged at) up room thawed full cause froze = absurd cause

-- the place of a new row's last replica, and the places before it
pub place_last : {P : Type 0} (row : List (Place P)) (p : Place P) (n : ℕ) → length row ≡ n → place_in (row ++ p ∷ []) n ≡ p
place_last [] p n e = let zero_is : n ≡ 0 = sym e in rw zero_is refl
place_last (x ∷ row) p n e = subst (λ k. place_in ((x ∷ row) ++ p ∷ []) k ≡ p) e (place_last row p (length row) refl)

pub place_before : {P : Type 0} (row : List (Place P)) (p : Place P) (i : ℕ) → i < length row → place_in (row ++ p ∷ []) i ≡ place_in row i
place_before [] p i h = absurd (omega (arith, h))
place_before (x ∷ row) p zero h = refl
place_before (x ∷ row) p (suc i) h = place_before row p i (let less : i < length row = omega (arith, h) in less)

-- what a put has left stays while the row grows
pub puts_on : {D P : Type 0} (DiskTells : Type 0) (files : D → Files) (Tells : Type 0) (pair : Pair) (cookie : Cookie) (bytes : List ℕ) (r r' : Copy D) (p q : Place P) → q ≡ p
    → PutsAt DiskTells files Tells pair cookie bytes r r' p → PutsAt DiskTells files Tells pair cookie bytes r r' q
puts_on DiskTells files Tells pair cookie bytes r r' p q e h = subst (PutsAt DiskTells files Tells pair cookie bytes r r') (sym e) h

-- DELETES

-- a delete of a replica that takes changes fails by its disk alone
pub delete_rose : {D : Type 0} (faults : D → ℕ) (r r' : Copy D) (f : ReplicaFault) → IsUp r → (f ≡ fault.Frozen → IsFrozen r)
    → physical_faults.IsDeleteFault (faults r.disk) (faults r'.disk) f → Rose (faults r.disk) (faults r'.disk)
delete_rose faults r r' (fault.Failed n) up thawed cause = cause.0
delete_rose faults r r' fault.Frozen up thawed cause = absurd (not_both r up (thawed refl))
delete_rose faults r r' (fault.Full end need capacity) up thawed cause = absurd cause
delete_rose faults r r' fault.NoMemory up thawed cause = absurd cause
delete_rose faults r r' (fault.Busy generation) up thawed cause = absurd cause
delete_rose faults r r' (fault.Ended count) up thawed cause = absurd cause
delete_rose faults r r' fault.Worn up thawed cause = absurd cause
delete_rose faults r r' (fault.Damaged at) up thawed cause = absurd cause

pub deletes_on : {D P : Type 0} (DiskTells : Type 0) (files : D → Files) (r r' : Copy D) (p q : Place P) → q ≡ p → DeletesAt DiskTells files p r r' → DeletesAt DiskTells files q r r'
deletes_on DiskTells files r r' p q e h = subst (λ x. DeletesAt DiskTells files x r r') (sym e) h

pub beside_on : {D P : Type 0} (DiskTells : Type 0) (files : D → Files) (r r' : Copy D) (p q : Place P) → q ≡ p → StaysBeside DiskTells files p r r' → StaysBeside DiskTells files q r r'
beside_on DiskTells files r r' p q e h = subst (λ x. StaysBeside DiskTells files x r r') (sym e) h

-- ROOM

pub room_fits : {D X : Type 0} (size : ℕ) (r : Copy D) (result : Result X ReplicaFault)
    → (capacity_of r < end_of r + needle_total size + 8 → result ≡ Err (fault.Full (end_of r) (needle_total size) (capacity_of r)))
    → ((f : ReplicaFault) → result ≡ Err f → ⊥) → RoomFor size r
room_fits size r result full never = elim (cases_lt (capacity_of r) (end_of r + needle_total size + 8)) [
  | inl lacks ↦ absurd (never (fault.Full (end_of r) (needle_total size) (capacity_of r)) (full lacks))
  | inr fits ↦ fits
]

-- OPENINGS

pub open_cause : {D : Type 0} (DiskTells : Type 0) (files : D → Files) (faults : D → ℕ) (r r' : Copy D) (f : OpenFault)
    → ((n : ℕ) → f ≡ open_fault.Failed n → Rose (faults r.disk) (faults r'.disk) × (n ≡ faults r'.disk))
    → (DiskTells → (file at : ℕ) → f ≡ open_fault.Damaged file at → IsOpeningDamage r.sup (contents_of files r.disk) file at)
    → (DiskTells → (s : Stored) → OpensAs r.sup (contents_of files r.disk) s → (file at : ℕ) → f ≡ open_fault.Damaged file at → ⊥)
    → (DiskTells → (stuck : Bool) (s t : Stored) → physical.Holds files r stuck s t → (file at : ℕ) → f ≡ open_fault.Damaged file at → ⊥)
    → ((file at : ℕ) → f ≡ open_fault.Damaged file at → IsReplicaFile file)
    → IsOpenFault DiskTells files faults r r' f
open_cause DiskTells files faults r r' (open_fault.Failed n) failed there only whole names = failed n refl
open_cause DiskTells files faults r r' (open_fault.Damaged file at) failed there only whole names =
    (λ tells. there tells file at refl, λ tells s opens. only tells s opens file at refl, λ tells stuck s t holds. whole tells stuck s t holds file at refl, names file at refl)
open_cause DiskTells files faults r r' open_fault.NoMemory failed there only whole names = tt

like_on : (b : Bool) (s found f : Stored) → physical.IsLike b s found → physical.IsLike false found f → physical.IsLike b s f
like_on b s found f like next = record {
  cells = next.cells ∙ like.cells;
  end = next.end ∙ like.end;
  generation = next.generation ∙ like.generation;
  fewer = let n = next.same refl in let l = like.fewer in omega (arith, n, l);
  same = λ e. next.same refl ∙ like.same e;
}

-- an opened disk holds what it held
pub opened_holds : {D : Type 0} (files : D → Files) (r' : Copy D) (b : Bool) (s t found : Stored) → is_stuck r' ≡ false → physical.Stands files r' found
    → physical.IsLike b s found ⊎ physical.IsLike b t found → physical.Holds files r' b s t
unfolding physical.MayFind
opened_holds files r' b s t found loose stands like = λ image may.
    let f = subst (λ x. physical.Holds files r' x found found) loose (stands_hold files r' found stands) image may in
    let next : physical.IsLike false found f.found = elim (f.like) [ inl l ↦ l | inr l ↦ l ] in
    record {
      found = f.found;
      is = f.is;
      like = elim like [ inl l ↦ inl (like_on b s found f.found l next) | inr l ↦ inr (like_on b t found f.found l next) ];
    }

-- the place that was loaded
pub loaded : {P : Type 0} (row row' : List (Place P)) (j : ℕ) (p : Place P) → row' ≡ slice_set row j p → j < length row → place_in row' j ≡ p
loaded row row' j p e h = ap (λ l. place_in l j) e ∙ get_or-set_same row j p place.None h

pub loaded_other : {P : Type 0} (row row' : List (Place P)) (i j : ℕ) (p : Place P) → row' ≡ slice_set row j p → i ≢ j → place_in row' i ≡ place_in row i
loaded_other row row' i j p e h = ap (λ l. place_in l i) e ∙ get_or-set_other row j i p place.None h

-- ONE CALL

pub one_counts : {D : Type 0} (faults fuses : D → ℕ) (at : ℕ) (old : List (Copy D)) (r r' : Copy D) → At old at r → Counted faults fuses r r' → KeepsCounts faults fuses old (slice_set old at r')
one_counts faults fuses at old r r' was counts = keeps_counts faults fuses old (slice_set old at r') (length-slice_set old at r') (λ i a b e f.
    elim (cases_eq i at) [
      | inl here ↦
          let a_is : a ≡ r = at_same old at a r (subst (λ k. At old k a) here e) was in
          let b_is : b ≡ r' = at_same (slice_set old at r') at b r' (subst (λ k. At (slice_set old at r') k b) here f) (at_set_same old at r' (at_below old at r was)) in
          subst (λ x. Counted faults fuses x b) (sym a_is) (subst (λ x. Counted faults fuses r x) (sym b_is) counts)
      | inr apart ↦ counted_same faults fuses a b (at_same old i b a (sym (at_set_other old i at r' apart) ∙ f) e)
    ])

flush_cause : {D : Type 0} (faults : D → ℕ) (r r' : Copy D) (f : ReplicaFault) → IsUp r → physical_faults.IsFlushFault (faults r.disk) (faults r'.disk) f
    → ((n : ℕ) → f ≡ fault.Failed n → is_stuck r' ≡ true) → (f ≡ fault.NoMemory → r'.phase ≡ r.phase) → (f ≡ fault.Frozen → IsFrozen r ⊎ (is_stuck r ≡ true))
    → ((IsFrozen r ⊎ (is_stuck r ≡ true)) → r' ≡ r) → IsFlushFault faults r r' f
flush_cause faults r r' (fault.Failed n) up cause stuck stayed thawed same = (cause.0, cause.1, stuck n refl)
flush_cause faults r r' fault.Frozen up cause stuck stayed thawed same = elim (thawed refl) [
  | inl frozen ↦ absurd (not_both r up frozen)
  | inr is ↦ (is, same (inr is))
]
flush_cause faults r r' (fault.Full end need capacity) up cause stuck stayed thawed same = absurd cause
flush_cause faults r r' (fault.Busy generation) up cause stuck stayed thawed same = absurd cause
flush_cause faults r r' (fault.Ended count) up cause stuck stayed thawed same = absurd cause
flush_cause faults r r' fault.Worn up cause stuck stayed thawed same = absurd cause
flush_cause faults r r' (fault.Damaged at) up cause stuck stayed thawed same = absurd cause
flush_cause faults r r' fault.NoMemory up cause stuck stayed thawed same = ap phase_stuck (stayed refl)

pub flush_if : {D : Type 0} (faults : D → ℕ) (r r' : Copy D) (result : Result ℕ ReplicaFault) → IsUp r → IfErr result (physical_faults.IsFlushFault (faults r.disk) (faults r'.disk))
    → IfErr result (λ f. (n : ℕ) → f ≡ fault.Failed n → is_stuck r' ≡ true) → (result ≡ Err fault.NoMemory → r'.phase ≡ r.phase) → (result ≡ Err fault.Frozen → IsFrozen r ⊎ (is_stuck r ≡ true))
    → ((IsFrozen r ⊎ (is_stuck r ≡ true)) → (result ≡ Err fault.Frozen) × (r' ≡ r)) → IfErr result (IsFlushFault faults r r')
flush_if faults r r' (Ok n) up cause stuck stayed thawed same = tt
flush_if faults r r' (Err f) up cause stuck stayed thawed same =
    flush_cause faults r r' f up cause stuck (λ e. stayed (ap Err e)) (λ e. thawed (ap Err e)) (λ h. (same h).1)

-- a flush that goes on had an index that was not stuck
pub not_stuck_before : {D : Type 0} (r r' : Copy D) (result : Result ℕ ReplicaFault) → ((IsFrozen r ⊎ (is_stuck r ≡ true)) → (result ≡ Err fault.Frozen) × (r' ≡ r))
    → (result ≡ Err fault.Frozen → ⊥) → is_stuck r ≡ false
not_stuck_before r r' result same never = elim (cases_Bool (is_stuck r)) [
  | inl t ↦ absurd (never ((same (inr t)).0))
  | inr f ↦ f
]

pub went_on : {D : Type 0} (r r' : Copy D) (result : Result ℕ ReplicaFault) → ((IsFrozen r ⊎ (is_stuck r ≡ true)) → (result ≡ Err fault.Frozen) × (r' ≡ r)) → OnOk result (is_stuck r' ≡ false)
    → OnOk result ((is_stuck r ≡ false) × (is_stuck r' ≡ false))
went_on r r' (Ok n) same going = (not_stuck_before r r' (Ok n) same (λ e. cc), going)
went_on r r' (Err f) same going = tt

phase_same_up : (p q : Phase) → IsOpenPhase q → phase_frozen q ≡ phase_frozen p → HasFrozen false p → HasFrozen false q
phase_same_up p q is same up = phase_up q is (same ∙ phase_thawed false p up)

pub still_up : {D : Type 0} (r r' : Copy D) → IsOpenCopy r' → is_frozen r' ≡ is_frozen r → IsUp r → IsUp r'
still_up r r' is same up = phase_same_up r.phase r'.phase is same up

pub fault_is : {X : Type 0} (result : Result X ReplicaFault) (f h : ReplicaFault) → result ≡ Err f → result ≡ Err h → f ≡ h
fault_is result f h e g = let both : Err f ≡ Err h = sym e ∙ g in cc

pub not_both_ways : {X : Type 0} (result : Result X ReplicaFault) (f : ReplicaFault) {x : X} → result ≡ Ok x → result ≡ Err f → ⊥
not_both_ways result f {x = x} e g = let both : Ok x ≡ Err f = sym e ∙ g in cc

-- nothing changed
pub reach_still : {D : Type 0} (files : D → Files) (r : Copy D) {IsKept : ℕ → ℕ → Type 0} → KeepsReach files IsKept r r
reach_still files r = record { deletes = λ place may. may; sees = record { may = λ at size kept may. may; shows = λ cell kept shows. shows } }

-- a change, and one that keeps all that can be seen
pub reach_behind : {D : Type 0} (files : D → Files) {IsKept : ℕ → ℕ → Type 0} (r x y : Copy D) → KeepsReach files IsKept r x → KeepsReach files physical.Anywhere x y → KeepsReach files IsKept r y
reach_behind files r x y a b = record {
  deletes = λ place may. b.deletes place (a.deletes place may);
  sees = record { may = λ at size kept may. b.sees.may at size tt (a.sees.may at size kept may); shows = λ cell kept shows. b.sees.shows cell tt (a.sees.shows cell kept shows) };
}

pub reach_through : {D : Type 0} (files : D → Files) (r x y : Copy D) → KeepsReach files physical.Anywhere r x → KeepsReach files physical.Anywhere x y → KeepsReach files physical.Anywhere r y
reach_through files r x y a b = reach_behind files r x y a b

-- a closed replica has no places
pub reaches_closed : {D P Tells : Type 0} (files : D → Files) (rows : MapRows P) (j : ℕ) (r : Copy D) → r.phase ≡ phase.Closed → ReachesPlaces files Tells rows j r
reaches_closed files rows j r closed = record {
  deletes = λ up pair. let never : ⊥ = subst (HasFrozen false) closed up in absurd never;
  sees = λ is. let never : ⊥ = subst IsOpenPhase closed is in absurd never;
}

-- the same places
pub reaches_same : {D P Tells : Type 0} (files : D → Files) (rows rows' : MapRows P) (j : ℕ) (r : Copy D) → ((pair : Pair) → place_in (row_at rows' pair) j ≡ place_in (row_at rows pair) j)
    → ReachesPlaces files Tells rows j r → ReachesPlaces files Tells rows' j r
reaches_same {Tells = Tells} files rows rows' j r same reach = record {
  deletes = λ up pair. subst (physical.MayDeletePlace files r) (sym (same pair)) (reach.deletes up pair);
  sees = λ is. record {
    may = λ pair. subst (physical.MaySeePlace files r) (sym (same pair)) ((reach.sees is).may pair);
    apart = λ pair other differ.
        subst (λ p. physical.ArePlacesApart p (place_in (row_at rows' other) j)) (sym (same pair))
        (subst (λ p. physical.ArePlacesApart (place_in (row_at rows pair) j) p) (sym (same other)) ((reach.sees is).apart pair other differ));
    whole = λ pair. subst (physical.HasWholeNeedle Tells) (sym (same pair)) ((reach.sees is).whole pair);
  };
}

pub loses_none : {D : Type 0} (DiskTells : Type 0) (files : D → Files) (r : Copy D) → LosesRun DiskTells files r r
loses_none DiskTells files r = record {
  idle = λ e. refl;
  «open» = λ h. h;
  up = λ h. h;
  froze = λ h. h;
  sup = refl;
  disk = refl;
  frozen = refl;
  stuck = refl;
  stands = λ tells s h. h;
  holds = λ tells b s t h. h;
  reach = λ tells. reach_still files r;
  end = refl;
}

pub ended_or : {D : Type 0} (r r' : Copy D) (count : ℕ) {Q : Type 0} → (goal_of r' ≡ goal_of r) ⊎ (EndedAt count r' × Q) → (goal_of r' ≡ goal_of r) ⊎ ((goal_of r' ≡ None) × Q)
ended_or r r' count (inl same) = inl same
ended_or r r' count (inr ended) = inr (ended.0.0, ended.1)

pub stays_where : {D P : Type 0} (DiskTells : Type 0) (files : D → Files) (p : Place P) (r : Copy D) → ((needle : SealedNeedle) → p ≡ place.Live needle → ⊥) → DeletesAt DiskTells files p r r
stays_where DiskTells files (place.Live needle) r never = absurd (never needle refl)
stays_where DiskTells files place.Gone r never = loses_none DiskTells files r
stays_where DiskTells files place.None r never = loses_none DiskTells files r
stays_where DiskTells files (place.Unseen at size) r never = loses_none DiskTells files r

pub follows_where : {D P : Type 0} (DiskTells : Type 0) (files : D → Files) (faults : D → ℕ) (pair : Pair) (p : Place P) (r : Copy D)
    → ((needle : SealedNeedle) → p ≡ place.Live needle → ⊥) → FollowsAt DiskTells files faults pair p r r
follows_where DiskTells files faults pair (place.Live needle) r never = absurd (never needle refl)
follows_where DiskTells files faults pair place.Gone r never = refl
follows_where DiskTells files faults pair place.None r never = refl
follows_where DiskTells files faults pair (place.Unseen at size) r never = refl

pub follows_on : {D P : Type 0} (DiskTells : Type 0) (files : D → Files) (faults : D → ℕ) (pair : Pair) (r r' : Copy D) (p q : Place P) → q ≡ p
    → FollowsAt DiskTells files faults pair p r r' → FollowsAt DiskTells files faults pair q r r'
follows_on DiskTells files faults pair r r' p q e h = subst (λ x. FollowsAt DiskTells files faults pair x r r') (sym e) h

pub follows_keeps : {D P : Type 0} (DiskTells : Type 0) (files : D → Files) (faults : D → ℕ) (pair : Pair) (p : Place P) (r r' : Copy D)
    → FollowsAt DiskTells files faults pair p r r' → KeepsRun faults r r'
follows_keeps DiskTells files faults pair (place.Live needle) r r' follows = follows.goal
follows_keeps DiskTells files faults pair place.Gone r r' follows = inl (ap goal_of follows)
follows_keeps DiskTells files faults pair place.None r r' follows = inl (ap goal_of follows)
follows_keeps DiskTells files faults pair (place.Unseen at size) r r' follows = inl (ap goal_of follows)

pub left_same : {D : Type 0} (DiskTells : Type 0) (files : D → Files) (r : Copy D) → LeftAt DiskTells files r r
left_same DiskTells files r = record { sup = refl; holds = λ tells stuck s t h. h }

pub none_in : {P : Type 0} (n i : ℕ) → place_in (replicate {A = Place P} n place.None) i ≡ place.None
none_in zero i = refl
none_in (suc n) zero = refl
none_in (suc n) (suc i) = none_in n i

pub opens_on : {D P : Type 0} (DiskTells : Type 0) (files : D → Files) (Tells : Type 0) (rows rows' : MapRows P) (j : ℕ) (r r' : Copy D)
    → ((pair : Pair) → place_in (row_at rows' pair) j ≡ place_in (row_at rows pair) j)
    → OpensAt DiskTells files Tells rows j r r' → OpensAt DiskTells files Tells rows' j r r'
opens_on {P = P} DiskTells files Tells rows rows' j r r' same h = record {
  up = h.up;
  sup = h.sup;
  loose = h.loose;
  alone = h.alone;
  most = h.most;
  from = h.from;
  within = λ pair. subst (λ p. LiesWithin (end_of r') (sight p)) (sym (same pair)) (h.within pair);
  undamaged = h.undamaged;
  undamaged_now = h.undamaged_now;
  formatted = h.formatted;
  opened = λ tells s opens.
      let p = h.opened tells s opens in
      (p.0, λ pair. subst (PhotoAt Tells (last_cell s.cells pair)) (sym (same pair)) (p.1 pair));
  reopened = λ tells stuck s t holds.
      let p = h.reopened tells stuck s t holds in
      (p.0, p.1, p.2, λ pair. subst (PhotoAt Tells (last_cell (p.0).cells pair)) (sym (same pair)) (p.3 pair));
  reach = λ tells. reaches_same files rows rows' j r' same (h.reach tells);
  found = λ tells s opens pair. subst (λ p. IsSightOfLast (last_cell s.cells pair) (sight p)) (sym (same pair)) (h.found tells s opens pair);
  live = λ tells pair. subst (λ p. HasLiveNeedle (volume_bytes files r') (sight p)) (sym (same pair)) (h.live tells pair);
  read = λ tells.
      subst (λ (sights : Pair → Sight). IsReadAs r'.sup (contents_of files r'.disk) (replica_seen r') sights) (fun_ext (λ pair. ap (λ (p : Place P). sight p) (sym (same pair)))) (h.read tells);
}

-- a disk that was not called, and is solid
pub disk_same : {D : Type 0} (files : D → Files) (r : Copy D) → ((n : ℕ) → IsSolid (files r.disk n)) → KeepsDisk files r r
disk_same files r solid = record {
  kept = λ some n. (refl, solid n);
  nothing = λ void image leaves other s opens. void_left other (files r.disk) (files r.disk) image s refl void (solid 0) leaves opens;
}

-- each replica that is open was opened, and so its places are in reach
pub reach_from : {D P Tells : Type 0} (DiskTells : Type 0) (files : D → Files) (rows : MapRows P) (R : ℕ → Copy D → Copy D → Type 0) (n : ℕ) (old new : List (Copy D)) → Went R n old new
    → ((i : ℕ) (r r' : Copy D) → R i r r' → DiskTells → ReachesPlaces files Tells rows i r')
    → ((j : ℕ) (r : Copy D) → At old j r → r.phase ≡ phase.Closed) → CanReach DiskTells files Tells new rows
reach_from DiskTells files rows R n old new w opened closed = λ tells j r' f.
    let there = at_there old j (let h = at_below new j r' f in let c = w.count in let less : j < length old = omega (arith, h, c) in less) in
    elim (cases_lt j n) [
      | inl less ↦ opened j there.0 r' (w.done j there.0 r' less there.1 f) tells
      | inr most ↦
          let is : r'.phase ≡ phase.Closed = ap (λ r. r.phase) (w.rest j there.0 r' most there.1 f) ∙ closed j there.0 there.1 in
          reaches_closed files rows j r' is
    ]

-- the places of a replica that was opened, as they were loaded
pub reaches_loaded : {D P Tells : Type 0} (files : D → Files) (rows : MapRows P) (j : ℕ) (r : Copy D) (loads : Pair → Place P) → ((pair : Pair) → place_in (row_at rows pair) j ≡ loads pair)
    → ((pair : Pair) → physical.MayDeletePlace files r (loads pair)) → ((pair : Pair) → physical.MaySeePlace files r (loads pair))
    → ((pair other : Pair) → pair_eq pair other ≡ false → physical.ArePlacesApart (loads pair) (loads other)) → ((pair : Pair) → physical.HasWholeNeedle Tells (loads pair))
    → ReachesPlaces files Tells rows j r
reaches_loaded {Tells = Tells} files rows j r loads there deletes sees apart whole = record {
  deletes = λ up pair. subst (physical.MayDeletePlace files r) (sym (there pair)) (deletes pair);
  sees = λ is. record {
    may = λ pair. subst (physical.MaySeePlace files r) (sym (there pair)) (sees pair);
    apart = λ pair other differ.
        subst (λ p. physical.ArePlacesApart p (place_in (row_at rows other) j)) (sym (there pair))
        (subst (λ p. physical.ArePlacesApart (loads pair) p) (sym (there other)) (apart pair other differ));
    whole = λ pair. subst (physical.HasWholeNeedle Tells) (sym (there pair)) (whole pair);
  };
}

-- it has no places
pub reaches_none : {D P Tells : Type 0} (files : D → Files) (rows : MapRows P) (j : ℕ) (r : Copy D) → ((pair : Pair) → place_in (row_at rows pair) j ≡ place.None) → ReachesPlaces files Tells rows j r
reaches_none files rows j r none = reaches_loaded files rows j r (λ pair. place.None) none (λ pair. tt) (λ pair. tt) (λ pair other differ. tt) (λ pair. tt)
