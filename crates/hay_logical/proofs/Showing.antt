-- Changes that stand on each replica: how they are made, shown, and given up.
use Rattle.std.proofs.Common.{◌≡◌, ◌⊎◌, inl, inr, ℕ, zero, suc, ◌+◌, ◌<◌, Bool, true, false, List, [], ◌∷◌, length, map, Option, Some, None, option_map, refl, sym, ap, subst, ◌∙◌}
use Rattle.std.proofs.Common.{arith, length-append}
use Rattle.std.specs.Prelude.{slice_index, slice_index_or}
use Rattle.std.proofs.lemmas.Bool.{false≢true, true≢false}
use Rattle.std.proofs.lemmas.List.{length-map}
use Rattle.hay_needle.specs.declared.needle.Cookie.{Cookie}
use Rattle.hay_needle.specs.declared.needle.Pair.{Pair}
use Rattle.hay_needle.specs.declared.settings.Settings.{Settings}
use Rattle.hay_needle.specs.Tables.{Table, outcome_at}
use Rattle.hay_disk.specs.Counts.{Rose}
use Rattle.hay_disk.specs.Disk.{Files}
use Rattle.hay_core.specs.declared.entry.CoreTag.{CoreTag}
use Rattle.hay_core.specs.declared.entry.Entry.{Entry}
use Rattle.hay_core.specs.declared.entry.Entry.TheVariants.{Put, Del}
use Rattle.hay_legal.specs.declared.known.ReplicaKnown.{ReplicaKnown}
use Rattle.hay_legal.specs.declared.known.VolumeKnown.{VolumeKnown}
use Rattle.hay_legal.specs.Known.{empty_replica, machine_of, now, replica_at}
use Rattle.hay_legal.specs.Plain.{ended_where, frozen_with, grown, logged, without_run}
use Rattle.hay_map.specs.MapRows.{MapRows}
use Rattle.hay_map.specs.Places.{place_in}
use Rattle.hay_map.specs.Rows.{changed_row, row_at}
use Rattle.hay_map.specs.declared.place.Place.{Place}
use Rattle.hay_map.specs.declared.view.MapOp.{MapOp}
use Rattle.hay_map.specs.declared.view.MapOp.TheVariants as op
use Rattle.hay_open.specs.Stored.{last_cell}
use Rattle.hay_compact.specs.Finishing.{IsSeen}
use Rattle.hay_physical.specs.OpenCopies.{Copy, IsOpenCopy, end_of, goal_of}
use Rattle.hay_physical.specs.Replicas as physical
use Rattle.hay_physical.specs.CompactionRuns.{HasRun, Run}
use Rattle.hay_physical.proofs.Laws.{stands_end}
use Rattle.hay_logical.specs.declared.unsure.Change.{Change}
use Rattle.hay_logical.specs.declared.unsure.Change.TheVariants as change
use Rattle.hay_logical.specs.declared.unsure.Unsure.{Unsure}
use Rattle.hay_logical.specs.declared.written.Erased.{Erased}
use Rattle.hay_logical.specs.declared.written.Written.{Written}
use Rattle.hay_logical.specs.Answers.{HasRoom, IsDeleted, IsPut, ended_runs, has_ended}
use Rattle.hay_logical.specs.Fits.{At, HoldsPart, PhotoAt, PlaceStands, RunsAs, copier_run, part_of}
use Rattle.hay_logical.specs.Notes.{is_live}
use Rattle.hay_logical.specs.Stands.{BreaksOffAt, IsChange, Stands, StandsFor}
use Rattle.hay_logical.specs.ReplicaCalls.{AllIdle, DeletesAt, FollowsAt, LosesRun, PutsAt, StaysBeside, StaysInReach}
use Rattle.hay_logical.specs.Unshown.{IsErased, IsUnshown, IsWritten}
use Rattle.hay_logical.specs.Volumes.{CanReach, Volume}
use Rattle.hay_logical.proofs.Changing.{apart_of, deletes_sup, goal_follows, is_held_at, some_none}
use Rattle.hay_logical.proofs.Compacting.{ended_at, length-ended, longer_run}
use Rattle.hay_logical.proofs.Holding.{RunEnd, delete_replica, ended_run, hold_stuck, part_kept}
use Rattle.hay_logical.proofs.Knowing.{Grows, fits_frozen, fits_logged, frozen_base, frozen_end, frozen_replica, frozen_stuck, grown_grows, replica_mapped, same_grows}
use Rattle.hay_logical.proofs.Lists.{at_below, at_there}
use Rattle.hay_logical.proofs.Looking.{stands_on}
use Rattle.hay_logical.proofs.Methods.{shown}
use Rattle.hay_logical.proofs.Standing.{none_pending, pending_unsure, place_written, put_places, takes, volume_with}
use Rattle.hay_logical.proofs.Tables.{makes_put}

-- COMPACTIONS THAT ENDED

pub length-ended_runs : {D : Type 0} (old new : List (Copy D)) → length new ≡ length old → length (ended_runs old new) ≡ length old
length-ended_runs [] new count = refl
length-ended_runs (r ∷ old) [] count = absurd (omega (arith, count))
length-ended_runs (r ∷ old) (r' ∷ new) count = ap suc (length-ended_runs old new (let fewer : length new ≡ length old = omega (arith, count) in fewer))

pub ended_runs_at : {D : Type 0} (old new : List (Copy D)) (j : ℕ) (r r' : Copy D) → At old j r → At new j r' → At (ended_runs old new) j (has_ended (goal_of r) (goal_of r'))
ended_runs_at [] new j r r' e f = absurd cc
ended_runs_at (x ∷ old) [] j r r' e f = absurd cc
ended_runs_at (x ∷ old) (y ∷ new) zero r r' e f =
    let was : x ≡ r = cc in
    let is : y ≡ r' = cc in
    subst (λ z. Some (has_ended (goal_of x) (goal_of y)) ≡ Some (has_ended (goal_of z) (goal_of r'))) was (ap (λ z. Some (has_ended (goal_of x) (goal_of z))) is)
ended_runs_at (x ∷ old) (y ∷ new) (suc j) r r' e f = ended_runs_at old new j r r' e f

-- where looks came before
pub ended_same : {D : Type 0} (xs ys zs : List (Copy D)) → length ys ≡ length xs → ((j : ℕ) (x y : Copy D) → At xs j x → At ys j y → goal_of y ≡ goal_of x) → ended_runs ys zs ≡ ended_runs xs zs
ended_same [] [] zs count goals = refl
ended_same [] (y ∷ ys) zs count goals = absurd (omega (arith, count))
ended_same (x ∷ xs) [] zs count goals = absurd (omega (arith, count))
ended_same (x ∷ xs) (y ∷ ys) [] count goals = refl
ended_same (x ∷ xs) (y ∷ ys) (z ∷ zs) count goals =
    ap (λ g. has_ended g (goal_of z) ∷ ended_runs ys zs) (goals 0 x y refl refl)
    ∙ ap (λ l. has_ended (goal_of x) (goal_of z) ∷ l) (ended_same xs ys zs (let fewer : length ys ≡ length xs = omega (arith, count) in fewer) (λ j a b e f. goals (suc j) a b e f))

run_end : {D : Type 0} (faults : D → ℕ) (r r' : Copy D) (was is : Option ℕ) → goal_of r ≡ was → goal_of r' ≡ is
    → (goal_of r' ≡ goal_of r) ⊎ ((goal_of r' ≡ None) × Rose (faults r.disk) (faults r'.disk)) → RunEnd faults r r' (has_ended was is)
run_end faults r r' (Some goal) None before after (inl same) = let wrong : Some goal ≡ None = sym before ∙ sym same ∙ after in absurd cc
run_end faults r r' (Some goal) None before after (inr gone) = record { rose = λ e. gone.1; gone = λ e. gone.0; kept = λ e. absurd (true≢false e) }
run_end faults r r' (Some goal) (Some next) before after (inl same) = record { rose = λ e. absurd (false≢true e); gone = λ e. absurd (false≢true e); kept = λ e. same }
run_end faults r r' (Some goal) (Some next) before after (inr gone) = let wrong : None ≡ Some next = sym gone.0 ∙ after in absurd cc
run_end faults r r' None is before after (inl same) = record { rose = λ e. absurd (false≢true e); gone = λ e. absurd (false≢true e); kept = λ e. same }
run_end faults r r' None is before after (inr gone) = record { rose = λ e. absurd (false≢true e); gone = λ e. absurd (false≢true e); kept = λ e. gone.0 ∙ sym before }

pub ended_in : {D : Type 0} (faults : D → ℕ) (old new : List (Copy D)) (j : ℕ) (r r' : Copy D) → At old j r → At new j r'
    → (goal_of r' ≡ goal_of r) ⊎ ((goal_of r' ≡ None) × Rose (faults r.disk) (faults r'.disk)) → (b : Bool) × At (ended_runs old new) j b × RunEnd faults r r' b
ended_in faults old new j r r' e f follows =
    (has_ended (goal_of r) (goal_of r'), ended_runs_at old new j r r' e f, run_end faults r r' (goal_of r) (goal_of r') refl refl follows)

-- WHAT IS KNOWN BEHIND A CHANGE

pub record Behind (entry : Entry) (r r' : ReplicaKnown) : Type 0 where
  pub grows : Grows entry r r'
  pub stuck : r'.stuck ≡ r.stuck
  pub poised : r'.poised ≡ r.poised

behind_put : (pair : Pair) (cookie : Cookie) (bytes : List ℕ) (replicas : List ReplicaKnown) (j : ℕ) → j < length replicas
    → Behind (Put pair cookie bytes) (slice_index_or replicas j empty_replica) (slice_index_or (map (grown (length bytes)) replicas) j empty_replica)
behind_put pair cookie bytes replicas j h =
    subst (λ (x : ReplicaKnown). Behind (Put pair cookie bytes) (slice_index_or replicas j empty_replica) x) (sym (replica_mapped (grown (length bytes)) replicas j h))
    (record { grows = grown_grows pair cookie bytes (slice_index_or replicas j empty_replica); stuck = refl; poised = refl })

without_behind : (pair : Pair) (r : ReplicaKnown) → Behind (Del pair) r (without_run r)
without_behind pair r =
    let g = same_grows pair r in
    record { grows = record { base = g.base; end = g.end; cells = g.cells; bare = g.bare; generation = g.generation }; stuck = refl; poised = refl }

same_behind : (pair : Pair) (r : ReplicaKnown) → Behind (Del pair) r r
same_behind pair r = record { grows = same_grows pair r; stuck = refl; poised = refl }

behind_delete : (pair : Pair) (ended : List Bool) (replicas : List ReplicaKnown) (j : ℕ) → j < length replicas
    → Behind (Del pair) (slice_index_or replicas j empty_replica) (slice_index_or (ended_where ended replicas) j empty_replica)
behind_delete pair [] replicas j h = same_behind pair (slice_index_or replicas j empty_replica)
behind_delete pair (b ∷ ended) [] j h = absurd (omega (arith, h))
behind_delete pair (true ∷ ended) (r ∷ replicas) zero h = without_behind pair r
behind_delete pair (false ∷ ended) (r ∷ replicas) zero h = same_behind pair r
behind_delete pair (true ∷ ended) (r ∷ replicas) (suc j) h = behind_delete pair ended replicas j (let less : j < length replicas = omega (arith, h) in less)
behind_delete pair (false ∷ ended) (r ∷ replicas) (suc j) h = behind_delete pair ended replicas j (let less : j < length replicas = omega (arith, h) in less)

abbrev pub known_behind : VolumeKnown → CoreTag → Entry → List ReplicaKnown → VolumeKnown
known_behind k tag entry behind = record (logged k tag entry) { replicas = behind }

-- a change is kept in memory, also where the volume is frozen
change_frozen : (asked : Change) (entry other : Entry) (k : VolumeKnown) (m : ℕ) (tag : CoreTag) → IsChange asked k entry → IsChange asked (frozen_with m tag other false k) entry
change_frozen (change.Put ends) (Put pair cookie bytes) other k m tag is = λ j h.
    let same_length = length-map k.replicas without_run in
    let known : j < length k.replicas = omega (arith, h, same_length) in
    is j known ∙ sym (frozen_end k m tag other false j known)
change_frozen (change.Put ends) (Del pair) other k m tag is = absurd is
change_frozen (change.Delete asked) (Put pair cookie bytes) other k m tag is = absurd is
change_frozen (change.Delete asked) (Del pair) other k m tag is = is

-- it stands on each replica
breaks_behind : (settings : Settings) (v : ℕ) (frozen : Option ℕ) (entry : Entry) → BreaksOffAt settings v frozen settings.replicas false entry
breaks_behind settings v frozen (Put pair cookie bytes) = tt
breaks_behind settings v frozen (Del pair) = omega arith

module _ {D P : Type 0} (settings : Settings) (number : ℕ) (DiskTells : Type 0) (files : D → Files) (Tells : Type 0) (faults fuses : D → ℕ) where
  -- MADE

  pub written : DiskTells → (items new : List (Copy D)) (rows rows' : MapRows P) (front : ℕ) (frozen : Option ℕ) (unsure : Option Unsure) (k : VolumeKnown) (pair : Pair)
      (cookie : Cookie) (bytes : List ℕ) (w : Written P)
      → StandsFor files Tells (volume_with settings number items rows front frozen unsure) k → frozen ≡ None → HasRoom settings number k (length bytes) → length new ≡ length items
      → w.pair ≡ pair → w.position ≡ front + 1 → length w.row ≡ length items → ((q : Pair) → row_at rows' q ≡ row_at rows q)
      → ((j : ℕ) (r r' : Copy D) → At items j r → At new j r' → PutsAt DiskTells files Tells pair cookie bytes r r' (place_in w.row j))
      → ((j : ℕ) (r r' : Copy D) → At items j r → At new j r' → StaysInReach DiskTells files r r')
      → ((j : ℕ) (r : Copy D) → At items j r → slice_index w.ends j ≡ end_of r)
      → IsWritten files Tells k pair cookie bytes w (volume_with settings number new rows' front frozen unsure)
  written tells items new rows rows' front (Some m) unsure k pair cookie bytes w stands thawed room count own next long same each reach ends = some_none thawed
  written tells items new rows rows' front None unsure k pair cookie bytes w stands thawed room count own next long same each reach ends =
      let taking = takes DiskTells files Tells settings number items rows front None unsure k stands refl in
      let many : length k.replicas ≡ settings.replicas = stands.many in
      let all : length items ≡ settings.replicas = stands.all in
      let old : (j : ℕ) (r' : Copy D) → At new j r' → (r : Copy D) × At items j r =
      λ j r' f. (let h = at_below new j r' f in at_there items j (let less : j < length items = omega (arith, h, count) in less)) in
      record {
        room = room;
        own = own;
        position = let e = stands.front in omega (arith, e, next);
        long = long ∙ all;
        means = λ j h.
            let was = at_there items j (let less : j < length items = omega (arith, h, all) in less) in
            let is = at_there new j (let less : j < length new = omega (arith, h, all, count) in less) in
            let stood = taking.each j was.0 was.1 in
            place_written Tells stood.stored.end pair cookie bytes (place_in w.row j) ((each j was.0 is.0 was.1 is.1).stands tells stood.stored stood.stands).1;
        ends = λ j h.
            let was = at_there items j (let less : j < length items = omega (arith, h, many, all) in less) in
            let stood = taking.each j was.0 was.1 in
            ends j was.0 was.1 ∙ stands_end files was.0 stood.stored stood.stands ∙ sym stood.fits.end;
        unshown = record {
          all = count ∙ all;
          many = many;
          front = stands.front;
          frozen = stands.frozen;
          thawed = refl;
          pending = taking.pending;
          unsure = pending_unsure unsure k k.pending stands.unsure taking.pending;
          shows = λ q j r' f.
              let was = old j r' f in
              let what = outcome_at (now k (replica_at k j)) q in
              subst (λ (l : List (Place P)). PlaceStands files Tells r' q (place_in l j) what) (sym (same q))
              (stands_on DiskTells files Tells physical.Anywhere was.0 r' q (place_in (row_at rows q) j) what (reach j was.0 r' was.1 f tells).sees (λ at size e. tt)
              (shown settings number DiskTells files Tells faults fuses items rows front None unsure k stands q j was.0 was.1));
          each = λ j r' f.
              let was = old j r' f in
              let stood = taking.each j was.0 was.1 in
              let put = each j was.0 r' was.1 f in
              let behind = put.stands tells stood.stored stood.stands in
              let known : j < length k.replicas = (let h = at_below items j was.0 was.1 in omega (arith, h, many, all)) in
              record {
                before = stood.stored;
                stored = physical.with_cell stood.stored pair cookie bytes;
                fits = stood.fits;
                makes = makes_put stood.stored pair cookie bytes;
                stands = behind.0;
                stuck = stood.stuck ∙ sym put.stuck;
                settled = stood.settled;
                run = subst (λ (x : ReplicaKnown). RunsAs files r' (physical.with_cell stood.stored pair cookie bytes) x.run) (sym (replica_mapped (grown (length bytes)) k.replicas j known))
                    (subst (λ (x : Option Run). HasRun files r' (physical.with_cell stood.stored pair cookie bytes) x) (longer_run (replica_at k j).run)
                    (put.run tells stood.stored (option_map copier_run (replica_at k j).run) stood.stands stood.run));
                places = λ q.
                    subst (λ (l : List (Place P)). PhotoAt Tells (last_cell (physical.with_cell stood.stored pair cookie bytes).cells q)
                    (place_in (changed_row (op.Put pair w.row) q l) j)) (sym (same q))
                    (put_places DiskTells files Tells settings number pair cookie bytes w.row rows j stood.stored behind.1 stood.places q);
              };
        };
      }

  pub erased : DiskTells → (items new : List (Copy D)) (rows : MapRows P) (front : ℕ) (frozen : Option ℕ) (unsure : Option Unsure) (k : VolumeKnown) (pair : Pair) (row : List (Place P)) (position : ℕ)
      → StandsFor files Tells (volume_with settings number items rows front frozen unsure) k → frozen ≡ None → length new ≡ length items → position ≡ front + 1
      → row ≡ row_at rows pair → length row ≡ settings.replicas → ((j : ℕ) → j < settings.replicas → IsSeen (place_in (row_at rows pair) j))
      → (some : (j : ℕ) × (j < length row) × (is_live (place_in row j) ≡ true))
      → CanReach DiskTells files Tells items rows → ((j : ℕ) (r : Copy D) → At items j r → IsOpenCopy r)
      → ((j : ℕ) (r r' : Copy D) → At items j r → At new j r' → DeletesAt DiskTells files (place_in row j) r r')
      → ((j : ℕ) (r r' : Copy D) → At items j r → At new j r' → FollowsAt DiskTells files faults pair (place_in row j) r r')
      → ((j : ℕ) (r r' : Copy D) → At items j r → At new j r' → StaysBeside DiskTells files (place_in row j) r r')
      → IsErased files faults Tells k pair (record { pair = pair; position = position }) (volume_with settings number items rows front frozen unsure)
      (volume_with settings number new rows front frozen unsure)
  erased tells items new rows front (Some m) unsure k pair row position stands thawed count next is long seen some can ups each follow beside = some_none thawed
  erased tells items new rows front None unsure k pair row position stands thawed count next is long seen some can ups each follow beside =
      let taking = takes DiskTells files Tells settings number items rows front None unsure k stands refl in
      let many : length k.replicas ≡ settings.replicas = stands.many in
      let all : length items ≡ settings.replicas = stands.all in
      let old : (j : ℕ) (r' : Copy D) → At new j r' → (r : Copy D) × At items j r =
      λ j r' f. (let h = at_below new j r' f in at_there items j (let less : j < length items = omega (arith, h, count) in less)) in
      let looked : (j : ℕ) (r : Copy D) → At items j r → IsSeen (place_in (row_at rows pair) j) =
      λ j r e. seen j (let low = at_below items j r e in let less : j < settings.replicas = omega (arith, low, all) in less) in
      let ends : (j : ℕ) (r r' : Copy D) → At items j r → At new j r' → (b : Bool) × At (ended_runs items new) j b × RunEnd faults r r' b =
      λ j r r' e f. ended_in faults items new j r r' e f (goal_follows DiskTells files faults pair (place_in row j) r r' (follow j r r' e f)) in
      record {
        stood = is_held_at settings number DiskTells files Tells faults fuses items rows front None unsure k pair row stands is long seen some;
        own = refl;
        position = let e = stands.front in omega (arith, e, next);
        count = length-ended_runs items new count ∙ all;
        cause = λ j r r' there e f.
            let b = ends j r r' e f in
            let gone : b.0 ≡ true = (let both : Some b.0 ≡ Some true = sym b.1 ∙ there in cc) in
            b.2.rose gone;
        unshown = record {
          all = count ∙ all;
          many = many;
          front = stands.front;
          frozen = stands.frozen;
          thawed = refl;
          pending = taking.pending;
          unsure = pending_unsure unsure k k.pending stands.unsure taking.pending;
          shows = λ q j r' f.
              let was = old j r' f in
              let what = outcome_at (now k (replica_at k j)) q in
              stands_on DiskTells files Tells (λ at size. physical.IsApartPlace at size (place_in row j)) was.0 r' q (place_in (row_at rows q) j) what (beside j was.0 r' was.1 f tells).sees
              (λ at size here. subst (λ l. physical.IsApartPlace at size (place_in l j)) (sym is)
              (apart_of settings number DiskTells files Tells faults fuses tells items rows pair can ups j was.0 was.1 (looked j was.0 was.1) q at size here))
              (shown settings number DiskTells files Tells faults fuses items rows front None unsure k stands q j was.0 was.1);
          each = λ j r' f.
              let was = old j r' f in
              let stood = taking.each j was.0 was.1 in
              let known : j < length k.replicas = (let h = at_below items j was.0 was.1 in omega (arith, h, many, all)) in
              let b = ends j was.0 r' was.1 f in
              let d = delete_replica DiskTells files Tells faults pair stood.stored rows j was.0 r' stood.places tells (looked j was.0 was.1) stood.stands
              (subst (λ l. DeletesAt DiskTells files (place_in l j) was.0 r') is (each j was.0 r' was.1 f))
              (subst (λ l. FollowsAt DiskTells files faults pair (place_in l j) was.0 r') is (follow j was.0 r' was.1 f)) in
              record {
                before = stood.stored;
                stored = d.stored;
                fits = stood.fits;
                makes = d.makes;
                stands = d.stands;
                stuck = stood.stuck ∙ sym (deletes_sup DiskTells files (place_in row j) was.0 r' (each j was.0 r' was.1 f)).1;
                settled = stood.settled;
                run = subst (λ (x : ReplicaKnown). RunsAs files r' d.stored x.run) (sym (ended_at (ended_runs items new) k.replicas j b.0 b.1 known))
                    (ended_run files faults (replica_at k j) was.0 r' stood.stored d.stored b.0 b.2 stood.run (d.run (option_map copier_run (replica_at k j).run) stood.run));
                places = d.places;
              };
        };
      }

  -- SHOWN

  entered : (items : List (Copy D)) (rows rows' : MapRows P) (front front' : ℕ) (frozen : Option ℕ) (unsure : Option Unsure) (k : VolumeKnown) (tag : CoreTag) (entry : Entry)
      (change : MapOp P) (behind : List ReplicaKnown)
      → IsUnshown files Tells k entry change behind (volume_with settings number items rows front frozen unsure) → front' ≡ length k.log + 1 → length behind ≡ length k.replicas
      → ((j : ℕ) → j < length k.replicas → Behind entry (replica_at k j) (slice_index_or behind j empty_replica))
      → ((q : Pair) → row_at rows' q ≡ changed_row change q (row_at rows q))
      → StandsFor files Tells (volume_with settings number items rows' front' frozen unsure) (known_behind k tag entry behind)
  entered items rows rows' front front' (Some m) unsure k tag entry change behind is next long each changed = some_none is.thawed
  entered items rows rows' front front' None unsure k tag entry change behind is next long each changed =
      let many : length k.replicas ≡ settings.replicas = is.many in
      let all : length items ≡ settings.replicas = is.all in
      record {
        all = all;
        many = long ∙ many;
        front = let l = length-append k.log (record { tag = tag; entry = entry } ∷ []) in omega (arith, l, next);
        frozen = is.frozen;
        unsure = none_pending unsure (known_behind k tag entry behind) k.pending is.unsure is.pending;
        by = record {
          pending = is.pending;
          each = λ j r e.
              let unshown = is.each j r e in
              let known : j < length k.replicas = (let h = at_below items j r e in omega (arith, h, many, all)) in
              let b = each j known in
              record {
                stored = unshown.stored;
                fits =
                    fits_logged k (known_behind k tag entry behind) tag entry (replica_at k j) (slice_index_or behind j empty_replica) unshown.before unshown.stored refl b.grows
                    unshown.makes unshown.fits;
                stands = unshown.stands;
                stuck = b.stuck ∙ unshown.stuck;
                run = unshown.run;
                settled = b.poised ∙ unshown.settled;
                places = λ q. subst (λ (l : List (Place P)). PhotoAt Tells (last_cell unshown.stored.cells q) (place_in l j)) (sym (changed q)) (unshown.places q);
              };
        };
      }

  pub put_shown : (items : List (Copy D)) (rows rows' : MapRows P) (front front' : ℕ) (frozen : Option ℕ) (unsure : Option Unsure) (k : VolumeKnown) (tag : CoreTag) (pair : Pair)
      (cookie : Cookie) (bytes : List ℕ) (w : Written P)
      → IsWritten files Tells k pair cookie bytes w (volume_with settings number items rows front frozen unsure) → front' ≡ w.position
      → ((q : Pair) → row_at rows' q ≡ changed_row (op.Put w.pair w.row) q (row_at rows q))
      → IsPut files Tells k tag pair cookie bytes front' (volume_with settings number items rows' front' frozen unsure)
  unfolding Stands
  put_shown items rows rows' front front' frozen unsure k tag pair cookie bytes w is next changed = record {
    room = is.room;
    position = next ∙ is.position;
    stands =
        entered items rows rows' front front' frozen unsure k tag (Put pair cookie bytes) (op.Put pair w.row) (map (grown (length bytes)) k.replicas) is.unshown
        (next ∙ is.position) (length-map k.replicas (grown (length bytes)))
        (λ j h. behind_put pair cookie bytes k.replicas j h) (λ q. changed q ∙ ap (λ (p : Pair). changed_row (op.Put p w.row) q (row_at rows q)) is.own);
  }

  pub delete_shown : (before : Volume D P) (items : List (Copy D)) (rows rows' : MapRows P) (front front' : ℕ) (frozen : Option ℕ) (unsure : Option Unsure) (k : VolumeKnown)
      (tag : CoreTag) (pair : Pair) (e : Erased)
      → IsErased files faults Tells k pair e before (volume_with settings number items rows front frozen unsure) → front' ≡ e.position
      → ((q : Pair) → row_at rows' q ≡ changed_row (op.Del e.pair) q (row_at rows q))
      → IsDeleted files faults Tells k tag pair front' before (volume_with settings number items rows' front' frozen unsure)
  unfolding Stands
  delete_shown before items rows rows' front front' frozen unsure k tag pair e is next changed = record {
    thawed = is.unshown.frozen ∙ is.unshown.thawed;
    stood = is.stood;
    position = next ∙ is.position;
    ended = ended_runs before.replicas items;
    runs = refl;
    count = is.count;
    cause = is.cause;
    stands =
        entered items rows rows' front front' frozen unsure k tag (Del pair) (op.Del pair) (ended_where (ended_runs before.replicas items) k.replicas) is.unshown
        (next ∙ is.position) (length-ended (ended_runs before.replicas items) k.replicas)
        (λ j h. behind_delete pair (ended_runs before.replicas items) k.replicas j h) (λ q. changed q ∙ ap (λ (p : Pair). changed_row (op.Del p) q (row_at rows q)) is.own);
  }

  -- GIVEN UP

  pub given_up : DiskTells → (items new : List (Copy D)) (rows : MapRows P) (front : ℕ) (frozen : Option ℕ) (unsure : Option Unsure) (k : VolumeKnown) (tag : CoreTag)
      (entry : Entry) (change : MapOp P) (behind : List ReplicaKnown) (asked : Change) (m : ℕ)
      → IsUnshown files Tells k entry change behind (volume_with settings number items rows front frozen unsure) → IsChange asked k entry → m ≡ machine_of settings number 0 → length new ≡ length items
      → ((j : ℕ) (r r' : Copy D) → At items j r → At new j r' → LosesRun DiskTells files r r') → AllIdle new
      → StandsFor files Tells (volume_with settings number new rows front (Some m) (Some (record { tag = tag; change = asked }))) (frozen_with (machine_of settings number 0) tag entry false k)
  given_up tells items new rows front frozen unsure k tag entry change behind asked m is asks by count loses idle =
      let n = machine_of settings number 0 in
      let many : length k.replicas ≡ settings.replicas = is.many in
      let all : length items ≡ settings.replicas = is.all in
      let old : (j : ℕ) (r' : Copy D) → At new j r' → (r : Copy D) × At items j r =
      λ j r' f. (let h = at_below new j r' f in at_there items j (let less : j < length items = omega (arith, h, count) in less)) in
      let within : (j : ℕ) (r' : Copy D) → At new j r' → j < settings.replicas = λ j r' f. (let h = at_below new j r' f in omega (arith, h, count, all)) in
      let known : (j : ℕ) (r' : Copy D) → At new j r' → j < length k.replicas = λ j r' f. (let h = within j r' f in omega (arith, h, many)) in
      record {
        all = count ∙ all;
        many = length-map k.replicas _ ∙ many;
        front = is.front;
        frozen = ap Some (sym by);
        unsure = (refl, change_frozen asked entry entry k n tag asks);
        by = record {
          places = λ q j r' f.
              let was = old j r' f in
              subst (λ (t : Table). PlaceStands files Tells r' q (place_in (row_at rows q) j) (outcome_at t q)) (sym (frozen_base k n tag entry false j (known j r' f)))
              (stands_on DiskTells files Tells physical.Anywhere was.0 r' q (place_in (row_at rows q) j) (outcome_at (now k (replica_at k j)) q)
              ((loses j was.0 r' was.1 f).reach tells).sees (λ at size e. tt) (is.shows q j was.0 was.1));
          idle = λ j r' f. (ap (λ (x : ReplicaKnown). x.run) (frozen_replica k n tag entry false j (known j r' f)), idle j r' f);
          holds = record {
            all = count ∙ all;
            many = length-map k.replicas _ ∙ many;
            broken_at = settings.replicas;
            broken = breaks_behind settings number (Some n) entry;
            each = λ j r' f.
                let was = old j r' f in
                let unshown = is.each j was.0 was.1 in
                let lost = loses j was.0 r' was.1 f in
                let stuck : Bool = (replica_at k j).stuck in
                record {
                  stored = unshown.before;
                  fits = fits_frozen k n tag entry false j unshown.before (known j r' f) unshown.fits;
                  holds = (
                    ap (λ (x : ReplicaKnown). x.poised) (frozen_replica k n tag entry false j (known j r' f)) ∙ unshown.settled,
                    subst (λ b. HoldsPart files r' b entry unshown.before (part_of settings.replicas j)) (sym (frozen_stuck k n tag entry false j (known j r' f)))
                        (subst (HoldsPart files r' stuck entry unshown.before) (sym (part_kept settings.replicas j (within j r' f)))
                        (unshown.stored, unshown.makes, hold_stuck files r' unshown.stored stuck (lost.stands tells unshown.stored unshown.stands) (unshown.stuck ∙ sym lost.stuck))),
                  );
                };
          };
        };
      }
