-- What puts of a volume answer.
use Rattle.std.proofs.Common.{◌≡◌, inl, inr, ℕ, ◌<◌, Bool, true, false, List, length, Option, Some, None, refl, sym, ap, subst, ◌∙◌, arith}
use Rattle.std.specs.Prelude.{Err, IsErrAnd, IsOk, Ok, OnOk, Result, find, is_err, option_map, slice_index}
use Rattle.std.specs.List.{enumerate_from}
use Rattle.std.proofs.lemmas.Bool.{cases_lt}
use Rattle.std.proofs.lemmas.List.{length-map}
use Rattle.hay_needle.specs.declared.needle.Cookie.{Cookie}
use Rattle.hay_needle.specs.declared.needle.Pair.{Pair}
use Rattle.hay_needle.specs.declared.settings.Settings.{Settings}
use Rattle.hay_needle.specs.Sizes.{needle_total}
use Rattle.hay_disk.specs.Disk.{Files}
use Rattle.hay_reply.specs.declared.Refused.{Refused}
use Rattle.hay_reply.specs.declared.Refused.TheVariants as refused
use Rattle.hay_core.specs.declared.entry.CoreTag.{CoreTag}
use Rattle.hay_core.specs.declared.entry.Entry.TheVariants.{Put}
use Rattle.hay_legal.specs.declared.known.ReplicaKnown.{ReplicaKnown}
use Rattle.hay_legal.specs.declared.known.VolumeKnown.{VolumeKnown}
use Rattle.hay_legal.specs.Known.{lacks_room, machine_of, replica_at, room_refusal_of}
use Rattle.hay_legal.specs.Plain.{frozen_with, without_run}
use Rattle.hay_map.specs.MapRows.{MapRows}
use Rattle.hay_map.specs.Places.{place_in}
use Rattle.hay_map.specs.Rows.{row_at}
use Rattle.hay_open.specs.Stored.{last_cell}
use Rattle.hay_physical.specs.declared.fault.ReplicaFault.{ReplicaFault}
use Rattle.hay_physical.specs.declared.fault.ReplicaFault.TheVariants as fault
use Rattle.hay_physical.specs.OpenCopies.{Copy, IsUp, end_of, is_frozen, is_stuck}
use Rattle.hay_physical.specs.Replicas as physical
use Rattle.hay_physical.proofs.Laws.{stands_end}
use Rattle.hay_logical.specs.declared.fault.LogicalFault.{LogicalFault}
use Rattle.hay_logical.specs.declared.fault.LogicalFault.TheVariants as logical
use Rattle.hay_logical.specs.declared.refusals.Refusal.{Refusal}
use Rattle.hay_logical.specs.declared.replicas.Broken.{Broken}
use Rattle.hay_logical.specs.declared.unsure.Change.TheVariants as change
use Rattle.hay_logical.specs.declared.unsure.Unsure.{Unsure}
use Rattle.hay_logical.specs.Answers.{HasRoom, IsRoomFault, PutRefused, room_answer}
use Rattle.hay_logical.specs.Answers as answers
use Rattle.hay_logical.specs.Fits.{At, PhotoAt, RunsAs, copier_run}
use Rattle.hay_logical.specs.Refusals.{IsRefusal, IsUntouched, RefusalBy}
use Rattle.hay_logical.specs.Stands.{BreaksOffAt, IsChange, Stands, StandsFor}
use Rattle.hay_logical.specs.ReplicaCalls.{AllIdle, IsPutFault, PutLeaves, StaysInReach, StillRuns}
use Rattle.hay_logical.specs.Volumes.{Volume}
use Rattle.hay_logical.proofs.Calls.{frozen_is, open_up, up_thawed}
use Rattle.hay_logical.proofs.Changing.{some_none}
use Rattle.hay_logical.proofs.Holding.{put_part, stands_broken, stands_changed}
use Rattle.hay_logical.proofs.Knowing.{frozen_end}
use Rattle.hay_logical.proofs.Looking.{stands_on}
use Rattle.hay_logical.proofs.Lists.{at_below, at_same, at_there}
use Rattle.hay_logical.proofs.Standing.{takes, volume_with}

-- RESULTS

pub is_err_of : {X E : Type 0} (r : Result X E) (d : E) → IsErrAnd r (λ y. y ≡ d) → r ≡ Err d
is_err_of (Ok x) d h = absurd h
is_err_of (Err y) d h = ap Err h

pub ok_of : {X E : Type 0} (r : Result X E) (Q : Type 0) → OnOk r Q → is_err r ≡ false → Q
ok_of (Ok x) Q h e = h
ok_of (Err y) Q h e = let wrong : true ≡ false = e in absurd cc

pub never_err : {X E : Type 0} (r : Result X E) → IsOk r → is_err r ≡ true → ⊥
never_err (Ok x) h e = let wrong : false ≡ true = e in cc
never_err (Err y) h e = let wrong : false ≡ true = h in cc

-- ROOM

pub room_ok : (settings : Settings) (frozen : Option ℕ) (why : Option Refused) (x : Unit {0}) → Ok x ≡ room_answer settings frozen why → (frozen ≡ None) × (why ≡ None)
room_ok settings (Some m) why x e = absurd cc
room_ok settings None None x e = (refl, refl)
room_ok settings None (Some (refused.NoRoom v m end need)) x e = absurd cc
room_ok settings None (Some (refused.Closed v m)) x e = absurd cc

module _ {D P : Type 0} (files : D → Files) (Tells : Type 0) (k : VolumeKnown) (tag : CoreTag) (pair : Pair) (cookie : Cookie) (bytes : List ℕ) (old : Volume D P) where
  refused_by : (frozen : Option ℕ) (o : Option (ℕ × ReplicaKnown)) (f : LogicalFault) → k.frozen ≡ frozen → find (λ at. lacks_room old.settings (length bytes) at.1) (enumerate_from 0 k.replicas) ≡ o
      → Err f ≡ room_answer old.settings frozen (option_map (λ at. refused.NoRoom old.number (machine_of old.settings old.number at.0) (at.1).end (needle_total (length bytes))) o)
      → PutRefused files Tells k tag pair cookie bytes old old f
  refused_by (Some m) o f thawed found e =
      let is : f ≡ logical.ReadOnly m = cc in
      subst (PutRefused files Tells k tag pair cookie bytes old old) (sym is) (thawed, refl)
  refused_by None None f thawed found e = absurd cc
  refused_by None (Some at) f thawed found e =
      let is : f ≡ logical.Full (machine_of old.settings old.number at.0) (at.1).end (needle_total (length bytes)) old.settings.capacity = cc in
      subst (PutRefused files Tells k tag pair cookie bytes old old) (sym is)
      (thawed, ap (λ o. option_map (λ at. refused.NoRoom old.number (machine_of old.settings old.number at.0) (at.1).end (needle_total (length bytes))) o) found, refl, refl)

  pub room_refused : (f : LogicalFault) → Err f ≡ room_answer old.settings k.frozen (room_refusal_of old.settings old.number k (length bytes))
      → PutRefused files Tells k tag pair cookie bytes old old f
  room_refused f e = refused_by k.frozen (find (λ at. lacks_room old.settings (length bytes) at.1) (enumerate_from 0 k.replicas)) f refl refl e

pub room_cause : {D : Type 0} (faults : D → ℕ) (settings : Settings) (v : ℕ) (old new : List (Copy D)) (f : LogicalFault) → IsRoomFault settings v f → answers.IsPutFault faults settings v old new f
room_cause faults settings v old new (logical.ReadOnly m) is = is
room_cause faults settings v old new (logical.Full m end need capacity) is = is
room_cause faults settings v old new (logical.Gone front) is = absurd is
room_cause faults settings v old new (logical.Failed m printed) is = absurd is
room_cause faults settings v old new logical.NoMemory is = absurd is
room_cause faults settings v old new (logical.Busy m generation) is = absurd is
room_cause faults settings v old new (logical.Worn m) is = absurd is
room_cause faults settings v old new logical.Idle is = absurd is
room_cause faults settings v old new (logical.Damaged m at) is = absurd is

module _ {D : Type 0} (DiskTells : Type 0) (files : D → Files) (faults : D → ℕ) (pair : Pair) (cookie : Cookie) (bytes : List ℕ) (items new : List (Copy D)) (broken : Broken)
    (left : PutLeaves DiskTells files faults pair cookie bytes items new broken) where
  first_thawed : IsUntouched new broken → (r' : Copy D) → At new broken.at r' → is_frozen r' ≡ false
  first_thawed un r' f = ap is_frozen (at_same new 0 r' un.replica (subst (λ n. At new n r') un.first f) un.there) ∙ un.thawed

  pub all_thawed : IsUntouched new broken → ((j : ℕ) (r : Copy D) → At items j r → IsUp r) → (j : ℕ) (r r' : Copy D) → At items j r → At new j r' → is_frozen r' ≡ false
  all_thawed un up j r r' e f = elim (cases_lt broken.at j) [
    | inl later ↦ (left.above j r r' later e f).frozen ∙ up_thawed r (up j r e)
    | inr not_later ↦
        let zero_is = un.first in
        let here : j ≡ broken.at = omega (arith, not_later, zero_is) in
        first_thawed un r' (subst (λ n. At new n r') here f)
  ]

  by_cause : (settings : Settings) (number : ℕ) (refusal : Refusal) → length items ≡ settings.replicas → (f : ReplicaFault) → RefusalBy settings number broken.at f refusal
      → IsPutFault faults left.before left.after f
      → answers.IsPutFault faults settings number items new refusal.fault
  by_cause settings number refusal all (fault.Failed printed) by cause =
      let below = at_below items broken.at left.before left.was in
      subst (answers.IsPutFault faults settings number items new) (sym by.1)
      (record {
        replica = broken.at;
        within = omega (arith, below, all);
        before = left.before;
        after = left.after;
        was = left.was;
        is = left.is;
        machine = refl;
        rose = cause.0;
        printed = cause.1;
      })
  by_cause settings number refusal all fault.NoMemory by cause = subst (answers.IsPutFault faults settings number items new) (sym by.1) tt
  by_cause settings number refusal all _ by cause = absurd cause

  pub put_cause_of : (settings : Settings) (number : ℕ) (refusal : Refusal) → IsRefusal settings number broken refusal → length items ≡ settings.replicas
      → answers.IsPutFault faults settings number items new refusal.fault
  put_cause_of settings number refusal answered all = by_cause settings number refusal all broken.fault answered left.cause

module _ {D P : Type 0} (settings : Settings) (number : ℕ) (DiskTells : Type 0) (files : D → Files) (Tells : Type 0) (faults : D → ℕ) where
  -- the rows were only made room in
  pub rows_kept : (items : List (Copy D)) (rows rows' : MapRows P) (front : ℕ) (frozen : Option ℕ) (unsure : Option Unsure) (k : VolumeKnown) → frozen ≡ None
      → ((q : Pair) → row_at rows' q ≡ row_at rows q)
      → StandsFor files Tells (volume_with settings number items rows front frozen unsure) k → StandsFor files Tells (volume_with settings number items rows' front frozen unsure) k
  rows_kept items rows rows' front (Some m) unsure k thawed same stands = some_none thawed
  rows_kept items rows rows' front None unsure k thawed same stands =
      let taking = takes DiskTells files Tells settings number items rows front None unsure k stands refl in
      record {
        all = stands.all;
        many = stands.many;
        front = stands.front;
        frozen = stands.frozen;
        unsure = stands.unsure;
        by = record {
          pending = taking.pending;
          each = λ j r e. let was = taking.each j r e in record {
            stored = was.stored;
            fits = was.fits;
            stands = was.stands;
            stuck = was.stuck;
            run = was.run;
            settled = was.settled;
            places = λ q. subst (λ l. PhotoAt Tells (last_cell was.stored.cells q) (place_in l j)) (sym (same q)) (was.places q);
          };
        };
      }

  module _ (pair : Pair) (cookie : Cookie) (bytes : List ℕ) where
    -- a put that changed nothing
    module _ (items new : List (Copy D)) (broken : Broken) (left : PutLeaves DiskTells files faults pair cookie bytes items new broken) (un : IsUntouched new broken)
        (still : StillRuns DiskTells files items new broken) where
      pub untouched : DiskTells → (rows : MapRows P) (front : ℕ) (frozen : Option ℕ) (unsure : Option Unsure) (k : VolumeKnown) → frozen ≡ None → length new ≡ length items
          → StandsFor files Tells (volume_with settings number items rows front frozen unsure) k → StandsFor files Tells (volume_with settings number new rows front frozen unsure) k
      untouched tells rows front (Some m) unsure k thawed count stands = some_none thawed
      untouched tells rows front None unsure k thawed count stands =
          stands_changed DiskTells files Tells settings number items new rows front unsure k k stands count refl refl refl refl (λ j r r' e f was. elim (cases_lt broken.at j) [
            | inl later ↦
                let same : r' ≡ r = still.above j r r' later e f in
                record {
                  stored = was.stored;
                  fits = was.fits;
                  stands = subst (λ (x : Copy D). physical.Stands files x was.stored) (sym same) was.stands;
                  stuck = was.stuck ∙ ap is_stuck (sym same);
                  run = subst (λ (x : Copy D). RunsAs files x was.stored (replica_at k j).run) (sym same) was.run;
                  settled = was.settled;
                  places = was.places;
                }
            | inr not_later ↦
                let zero_is = un.first in
                let here : j ≡ broken.at = omega (arith, not_later, zero_is) in
                let before : r ≡ left.before = at_same items j r left.before e (subst (λ n. At items n left.before) (sym here) left.was) in
                let after : r' ≡ left.after = at_same new j r' left.after f (subst (λ n. At new n left.after) (sym here) left.is) in
                let thaw : is_frozen left.after ≡ false = first_thawed DiskTells files faults pair cookie bytes items new broken left un left.after left.is in
                let there : physical.Stands files left.after was.stored = elim (left.there.stands tells was.stored (subst (λ (x : Copy D). physical.Stands files x was.stored) before was.stands)) [
                  | inl stays ↦ stays
                  | inr gone ↦ let wrong : true ≡ false = sym (frozen_is left.after gone.0) ∙ thaw in absurd cc
                ] in
                record {
                  stored = was.stored;
                  fits = was.fits;
                  stands = subst (λ (x : Copy D). physical.Stands files x was.stored) (sym after) there;
                  stuck = was.stuck ∙ ap is_stuck before ∙ sym left.there.stuck ∙ ap is_stuck (sym after);
                  run = subst (λ (x : Copy D). RunsAs files x was.stored (replica_at k j).run) (sym after)
                      (still.there left.before left.after left.was left.is (open_up left.after left.there.«open» thaw) tells was.stored (option_map copier_run (replica_at k j).run)
                      (subst (λ (x : Copy D). physical.Stands files x was.stored) before was.stands) (subst (λ (x : Copy D). RunsAs files x was.stored (replica_at k j).run) before was.run));
                  settled = was.settled;
                  places = was.places;
                }
          ])

    -- a put that was broken off
    module _ (items new : List (Copy D)) (broken : Broken) (refusal : Refusal) (left : PutLeaves DiskTells files faults pair cookie bytes items new broken)
        (answered : IsRefusal settings number broken refusal) (idle : AllIdle new) where
      module _ (tells : DiskTells) (rows rows' : MapRows P) (front : ℕ) (unsure : Option Unsure) (k : VolumeKnown) (tag : CoreTag) (ends : List ℕ)
          (stands : StandsFor files Tells (volume_with settings number items rows front None unsure) k) (count : length new ≡ length items)
          (same : (q : Pair) → row_at rows' q ≡ row_at rows q) (room : HasRoom settings number k (length bytes))
          (reach : (j : ℕ) (r r' : Copy D) → At items j r → At new j r' → StaysInReach DiskTells files r r')
          (end_is : (j : ℕ) (r : Copy D) → At items j r → slice_index ends j ≡ end_of r) where
        ends_known : (m : ℕ) (failed : Bool) → IsChange (change.Put ends) (frozen_with m tag (Put pair cookie bytes) failed k) (Put pair cookie bytes)
        ends_known m failed = λ j h.
            let taking = takes DiskTells files Tells settings number items rows front None unsure k stands refl in
            let same_length = length-map k.replicas without_run in
            let known : j < length k.replicas = omega (arith, h, same_length) in
            let many : length k.replicas ≡ settings.replicas = stands.many in
            let all : length items ≡ settings.replicas = stands.all in
            let there = at_there items j (let less : j < length items = omega (arith, known, many, all) in less) in
            let was = taking.each j there.0 there.1 in
            end_is j there.0 there.1 ∙ stands_end files there.0 was.stored was.stands ∙ sym was.fits.end ∙ sym (frozen_end k m tag (Put pair cookie bytes) failed j known)

        frozen_by : (m : ℕ) (failed : Bool) → BreaksOffAt settings number (Some m) broken.at failed (Put pair cookie bytes)
            → StandsFor files Tells (volume_with settings number new rows' front (Some m) (Some (record { tag = tag; change = change.Put ends }))) (frozen_with m tag (Put pair cookie bytes) failed k)
        frozen_by m failed at_is =
            stands_broken DiskTells files Tells settings number items new rows rows' front unsure k tag (Put pair cookie bytes) (change.Put ends) m broken.at failed stands count
            at_is (ends_known m failed) same
            (put_part DiskTells files Tells settings number tells faults items new rows front unsure k pair cookie bytes broken left) idle
            (λ j r r' e f q what. stands_on DiskTells files Tells physical.Anywhere r r' q (place_in (row_at rows q) j) what (reach j r r' e f tells).sees (λ at size is. tt))

        no_memory : (refusal.machine ≡ machine_of settings number 0) × (refusal.fault ≡ logical.NoMemory)
            → PutRefused files Tells k tag pair cookie bytes (volume_with settings number items rows front None unsure)
            (volume_with settings number new rows' front (Some refusal.machine) (Some (record { tag = tag; change = change.Put ends }))) refusal.fault
        unfolding Stands
        no_memory by =
            subst (PutRefused files Tells k tag pair cookie bytes (volume_with settings number items rows front None unsure)
            (volume_with settings number new rows' front (Some refusal.machine) (Some (record { tag = tag; change = change.Put ends })))) (sym by.1) (
              room,
              inr (subst (λ m. StandsFor files Tells (volume_with settings number new rows' front (Some refusal.machine) (Some (record { tag = tag; change = change.Put ends })))
                  (frozen_with m tag (Put pair cookie bytes) false k)) by.0
                  (frozen_by refusal.machine false tt)),
            )

        by_fault : (f : ReplicaFault) → RefusalBy settings number broken.at f refusal
            → PutRefused files Tells k tag pair cookie bytes (volume_with settings number items rows front None unsure)
            (volume_with settings number new rows' front (Some refusal.machine) (Some (record { tag = tag; change = change.Put ends }))) refusal.fault
        unfolding Stands
        by_fault (fault.Failed printed) by =
            let below = at_below items broken.at left.before left.was in
            let all : length items ≡ settings.replicas = stands.all in
            let less : broken.at < settings.replicas = omega (arith, below, all) in
            subst (PutRefused files Tells k tag pair cookie bytes (volume_with settings number items rows front None unsure)
            (volume_with settings number new rows' front (Some refusal.machine) (Some (record { tag = tag; change = change.Put ends })))) (sym by.1) (
              room,
              subst (λ m. StandsFor files Tells (volume_with settings number new rows' front (Some refusal.machine) (Some (record { tag = tag; change = change.Put ends })))
                  (frozen_with m tag (Put pair cookie bytes) true k)) by.0
                  (frozen_by refusal.machine true (less, ap (λ n. Some n) by.0)),
            )
        by_fault fault.NoMemory by = no_memory by
        by_fault _ by = absurd by

      pub put_refused : DiskTells → (rows rows' : MapRows P) (front : ℕ) (frozen : Option ℕ) (unsure : Option Unsure) (k : VolumeKnown) (tag : CoreTag) (ends : List ℕ) → frozen ≡ None
          → StandsFor files Tells (volume_with settings number items rows front frozen unsure) k → length new ≡ length items
          → ((q : Pair) → row_at rows' q ≡ row_at rows q) → HasRoom settings number k (length bytes)
          → ((j : ℕ) (r r' : Copy D) → At items j r → At new j r' → StaysInReach DiskTells files r r')
          → ((j : ℕ) (r : Copy D) → At items j r → slice_index ends j ≡ end_of r)
          → PutRefused files Tells k tag pair cookie bytes (volume_with settings number items rows front frozen unsure)
          (volume_with settings number new rows' front (Some refusal.machine) (Some (record { tag = tag; change = change.Put ends }))) refusal.fault
      put_refused tells rows rows' front (Some m) unsure k tag ends thawed stands count same room reach end_is = some_none thawed
      put_refused tells rows rows' front None unsure k tag ends thawed stands count same room reach end_is =
          by_fault tells rows rows' front unsure k tag ends stands count same room reach end_is broken.fault answered
