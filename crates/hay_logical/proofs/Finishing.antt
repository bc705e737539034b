-- What ends of a volume's compactions answer.
use Rattle.std.proofs.Common.{◌≡◌, inl, inr, ℕ, ◌+◌, ◌<◌, ◌≤◌, true, false, List, length, Option, Some, None, refl, sym, ap, subst, ◌∙◌, arith}
use Rattle.std.specs.Prelude.{map}
use Rattle.std.proofs.lemmas.Bool.{cases_eq}
use Rattle.std.proofs.lemmas.List.{length-map}
use Rattle.hay_needle.specs.declared.needle.Pair.{Pair}
use Rattle.hay_needle.specs.declared.settings.Settings.{Settings}
use Rattle.hay_needle.specs.Tables.{Table, live_end, live_needles, outcome_at, table_of}
use Rattle.hay_disk.specs.Disk.{Files}
use Rattle.hay_volume.specs.Cells.{needles_of}
use Rattle.hay_compact.specs.Copying.{renewed_needle}
use Rattle.hay_core.specs.Entries.{after, entries_of}
use Rattle.hay_core.specs.declared.entry.Logged.{Logged}
use Rattle.hay_legal.specs.declared.known.ReplicaKnown.{ReplicaKnown}
use Rattle.hay_legal.specs.declared.known.VolumeKnown.{VolumeKnown}
use Rattle.hay_legal.specs.Known.{now, replica_at}
use Rattle.hay_legal.specs.Plain.{frozen_by, poised, swapped, without_run}
use Rattle.hay_map.specs.MapRows.{MapRows}
use Rattle.hay_map.specs.Places.{place_in}
use Rattle.hay_map.specs.Rows.{row_at}
use Rattle.hay_open.specs.Stored.{Stored, last_cell}
use Rattle.hay_physical.specs.OpenCopies.{Copy, IsFrozen, IsUp, goal_of, is_stuck}
use Rattle.hay_physical.specs.Replicas as physical
use Rattle.hay_physical.specs.CompactionRuns as runs
use Rattle.hay_logical.specs.declared.unsure.Unsure.{Unsure}
use Rattle.hay_logical.specs.Answers.{IsLoose, IsTight, change_at}
use Rattle.hay_logical.specs.Fits.{At, Fits, HoldsSwap, PhotoAt, PlaceStands, RunsAs}
use Rattle.hay_logical.specs.Stands.{ReplicaStands, StandsFor}
use Rattle.hay_logical.specs.ReplicaCalls.{AllIdle, LosesRun, PlacesAre, StaysInReach, Swapped, SwapsOne, SwapsTo}
use Rattle.hay_logical.proofs.Compacting.{no_run}
use Rattle.hay_logical.proofs.Holding.{broken_none, hold_stuck, pending_none, swap_settled}
use Rattle.hay_logical.proofs.Knowing.{changed_here, changed_other, fits_same, replica_mapped}
use Rattle.hay_logical.proofs.Lists.{at_below, at_same, at_there, length-slice_set}
use Rattle.hay_logical.proofs.Looking.{stands_on, stored_stands}
use Rattle.hay_logical.proofs.Standing.{none_pending, pending_unsure, takes, volume_with}
use Rattle.hay_logical.proofs.SwapSizes.{photos_end, photos_fewer, tight_count, tight_end}

-- SIZES

-- what is known of a replica whose files were swapped
pub fits_swapped : (k : VolumeKnown) (j : ℕ) (s t : Stored) (run : runs.Run) → Fits k (replica_at k j) s → SwapsTo s t run → Fits k (swapped t.end (length t.cells) (replica_at k j)) t
fits_swapped k j s t run fits to = record {
  table = to.swaps.table ∙ fits.table;
  end = refl;
  cells = refl;
  bare = let e = to.swaps.records in let n : 0 + t.records ≡ length t.cells = omega (arith, e) in n;
  generation = ap (λ n. n + 1) fits.generation ∙ sym to.swaps.generation;
}

pub loose_sizes : (k : VolumeKnown) (j : ℕ) (s t : Stored) (run : runs.Run) → Fits k (replica_at k j) s → SwapsTo s t run → IsLoose k j t.end (length t.cells)
loose_sizes k j s t run fits to =
    let table : table_of (needles_of t.cells) ≡ now k (replica_at k j) = to.swaps.table ∙ fits.table in (
      subst (λ (x : Table). live_end x ≤ t.end) table (let e = photos_end t.cells in let ends = to.ends in omega (arith, e, ends)),
      (let a = to.swaps.shorter in let b = fits.end in let e : t.end ≤ (replica_at k j).end = omega (arith, a, b) in e),
      subst (λ (x : Table). length x ≤ length t.cells) table (photos_fewer t.cells),
      (let a = to.swaps.fewer in let b = fits.cells in let e : length t.cells ≤ (replica_at k j).cells = omega (arith, a, b) in e),
    )

pub tight_sizes : (k : VolumeKnown) (j : ℕ) (s t : Stored) (run : runs.Run) → run.tight ≡ true → Fits k (replica_at k j) s → SwapsTo s t run → IsTight k j t.end (length t.cells)
tight_sizes k j s t run tight fits to =
    let is : needles_of t.cells ≡ map renewed_needle (live_needles (needles_of s.cells)) = to.tight tight in (
      to.ends ∙ tight_end s.cells t.cells is ∙ ap (λ (x : Table). live_end x) fits.table,
      tight_count s.cells t.cells is ∙ ap (λ (x : Table). length x) fits.table,
    )

-- VOLUMES

module _ {D P : Type 0} (settings : Settings) (number : ℕ) (DiskTells : Type 0) (files : D → Files) (Tells : Type 0) (items new : List (Copy D)) (rows rows' : MapRows P)
    (front : ℕ) (unsure : Option Unsure) (k : VolumeKnown)
    (stands : StandsFor files Tells (volume_with settings number items rows front None unsure) k) (count : length new ≡ length items) where
  -- each replica stands for what is known now
  pub stands_each : (t : VolumeKnown) → t.log ≡ k.log → t.frozen ≡ None → t.pending ≡ k.pending → length t.replicas ≡ length k.replicas
      → ((j : ℕ) (r r' : Copy D) → At items j r → At new j r' → ReplicaStands files Tells (volume_with settings number items rows front None unsure) k j r
      → ReplicaStands files Tells (volume_with settings number new rows' front None unsure) t j r')
      → StandsFor files Tells (volume_with settings number new rows' front None unsure) t
  stands_each t log frozen pending many each =
      let taking = takes DiskTells files Tells settings number items rows front None unsure k stands refl in
      record {
        all = count ∙ stands.all;
        many = many ∙ stands.many;
        front = stands.front ∙ ap length (sym log);
        frozen = frozen;
        unsure = none_pending unsure t t.pending (pending_unsure unsure k k.pending stands.unsure taking.pending) (pending ∙ taking.pending);
        by = record {
          pending = pending ∙ taking.pending;
          each = λ j r' f.
              let below : j < length items = (let h = at_below new j r' f in omega (arith, h, count)) in
              let old = at_there items j below in
              each j old.0 r' old.1 f (taking.each j old.0 old.1);
        };
      }

  -- what a frozen volume's replica holds, and what can still be seen of it
  abbrev Frozen : VolumeKnown → ℕ → Copy D → Copy D → Type 0
  Frozen t j r r' =
      ((replica_at t j).base ≡ (replica_at k j).base) × ((replica_at t j).run ≡ None) × physical.KeepsSight files physical.Anywhere r r'
      × ((s : Stored) × Fits t (replica_at t j) s × HoldsSwap files r' (replica_at t j).stuck s (replica_at t j).poised)

  -- the volume is frozen, and the rows are as they were
  pub stands_frozen : (t : VolumeKnown) (m : ℕ) → t.log ≡ k.log → t.frozen ≡ Some m → t.pending ≡ k.pending → length t.replicas ≡ length k.replicas
      → ((q : Pair) → row_at rows' q ≡ row_at rows q) → AllIdle new
      → ((j : ℕ) (r r' : Copy D) → At items j r → At new j r' → ReplicaStands files Tells (volume_with settings number items rows front None unsure) k j r → Frozen t j r r')
      → StandsFor files Tells (volume_with settings number new rows' front (Some m) unsure) t
  stands_frozen t m log frozen pending many same idle each =
      let taking = takes DiskTells files Tells settings number items rows front None unsure k stands refl in
      let none = pending ∙ taking.pending in
      record {
        all = count ∙ stands.all;
        many = many ∙ stands.many;
        front = stands.front ∙ ap length (sym log);
        frozen = frozen;
        unsure = none_pending unsure t t.pending (pending_unsure unsure k k.pending stands.unsure taking.pending) none;
        by = record {
          places = λ q j r' f.
              let below : j < length items = (let h = at_below new j r' f in omega (arith, h, count)) in
              let old = at_there items j below in
              let was = taking.each j old.0 old.1 in
              let e = each j old.0 r' old.1 f was in
              let table : table_of (needles_of was.stored.cells) ≡ now t (replica_at t j) =
              was.fits.table ∙ ap (λ (l : List Logged). after (entries_of l) (length l) (replica_at k j).base) (sym log) ∙ ap (λ (b : Table). after (entries_of t.log) (length t.log) b) (sym e.0) in
              let what = outcome_at (now t (replica_at t j)) q in
              subst (λ l. PlaceStands files Tells r' q (place_in l j) what) (sym (same q))
              (stands_on DiskTells files Tells physical.Anywhere old.0 r' q (place_in (row_at rows q) j) what e.2 (λ at size here. tt)
              (subst (λ (x : Table). PlaceStands files Tells old.0 q (place_in (row_at rows q) j) (outcome_at x q)) table
              (stored_stands DiskTells files Tells old.0 was.stored q (place_in (row_at rows q) j) was.stands (was.places q))));
          idle = λ j r' f.
              let below : j < length items = (let h = at_below new j r' f in omega (arith, h, count)) in
              let old = at_there items j below in
              ((each j old.0 r' old.1 f (taking.each j old.0 old.1)).1, idle j r' f);
          holds = record {
            all = count ∙ stands.all;
            many = many ∙ stands.many;
            broken_at = 0;
            broken = broken_none settings number t.frozen 0 t.pending none;
            each = λ j r' f.
                let below : j < length items = (let h = at_below new j r' f in omega (arith, h, count)) in
                let old = at_there items j below in
                let e = each j old.0 r' old.1 f (taking.each j old.0 old.1) in
                record {
                  stored = e.3.0;
                  fits = e.3.1;
                  holds = pending_none files r' (replica_at t j).stuck (replica_at t j).poised e.3.0 t.pending 0 j none e.3.2;
                };
          };
        };
      }

  frozen_as : (t : VolumeKnown) (j : ℕ) (r r' : Copy D) (x : ReplicaKnown) (s : Stored) → replica_at t j ≡ x → x.base ≡ (replica_at k j).base → x.run ≡ None
      → physical.KeepsSight files physical.Anywhere r r' → Fits t x s
      → HoldsSwap files r' x.stuck s x.poised → Frozen t j r r'
  frozen_as t j r r' x s is base run sees fits holds = (
    ap (λ (y : ReplicaKnown). y.base) is ∙ base,
    ap (λ (y : ReplicaKnown). y.run) is ∙ run,
    sees,
    (s, subst (λ (y : ReplicaKnown). Fits t y s) (sym is) fits, subst (λ (y : ReplicaKnown). HoldsSwap files r' y.stuck s y.poised) (sym is) holds),
  )

  frozen_other : DiskTells → (t : VolumeKnown) (j : ℕ) (r r' : Copy D) → t.log ≡ k.log → ReplicaStands files Tells (volume_with settings number items rows front None unsure) k j r
      → LosesRun DiskTells files r r'
      → replica_at t j ≡ without_run (replica_at k j) → Frozen t j r r'
  frozen_other tells t j r r' log was loses is =
      frozen_as t j r r' (without_run (replica_at k j)) was.stored is refl refl (loses.reach tells).sees
      (fits_same k t (replica_at k j) (without_run (replica_at k j)) was.stored log refl refl refl refl refl was.fits)
      (swap_settled files r' (replica_at k j).stuck was.stored (replica_at k j).poised was.settled
      (loses.holds tells (replica_at k j).stuck was.stored was.stored (hold_stuck files r was.stored (replica_at k j).stuck was.stands was.stuck)))

  -- the volume was frozen, and nothing else
  pub stands_halted : DiskTells → (m : ℕ) → ((q : Pair) → row_at rows' q ≡ row_at rows q) → ((j : ℕ) (r r' : Copy D) → At items j r → At new j r' → LosesRun DiskTells files r r') → AllIdle new
      → StandsFor files Tells (volume_with settings number new rows' front (Some m) unsure) (frozen_by m k)
  stands_halted tells m same loses idle =
      stands_frozen (frozen_by m k) m refl refl refl (length-map k.replicas without_run) same idle (λ j r r' e f was.
      frozen_other tells (frozen_by m k) j r r' refl was (loses j r r' e f)
      (replica_mapped without_run k.replicas j (let h = at_below items j r e in let all = stands.all in let many = stands.many in let l : j < length k.replicas = omega (arith, h, all, many) in l)))

  module _ (tells : DiskTells) (at : ℕ) (one : SwapsOne DiskTells files at items new) where
    pub low_at : at < length k.replicas
    low_at =
        let below = at_below items at one.before one.was in
        let all : length items ≡ settings.replicas = stands.all in
        let many : length k.replicas ≡ settings.replicas = stands.many in
        omega (arith, below, all, many)

    pub was_there : ReplicaStands files Tells (volume_with settings number items rows front None unsure) k at one.before
    was_there = (takes DiskTells files Tells settings number items rows front None unsure k stands refl).each at one.before one.was

    -- the others are as they were
    other_stands : (change : ReplicaKnown → ReplicaKnown) → IsUp one.after → ((pair : Pair) (i : ℕ) → (i ≡ at → ⊥) → place_in (row_at rows' pair) i ≡ place_in (row_at rows pair) i)
        → (j : ℕ) (r r' : Copy D) → (j ≡ at → ⊥) → At items j r → At new j r' → ReplicaStands files Tells (volume_with settings number items rows front None unsure) k j r
        → ReplicaStands files Tells (volume_with settings number new rows' front None unsure) (change_at k at change) j r'
    other_stands change up places j r r' apart e f was =
        let same : r' ≡ r = (one.others j r r' apart e f).1 up in
        let known : replica_at (change_at k at change) j ≡ replica_at k j = changed_other k j at change apart in
        record {
          stored = was.stored;
          fits = subst (λ (x : ReplicaKnown). Fits (change_at k at change) x was.stored) (sym known)
              (fits_same k (change_at k at change) (replica_at k j) (replica_at k j) was.stored refl refl refl refl refl refl was.fits);
          stands = subst (λ (x : Copy D). physical.Stands files x was.stored) (sym same) was.stands;
          stuck = ap (λ (x : ReplicaKnown). x.stuck) known ∙ was.stuck ∙ ap (λ (x : Copy D). is_stuck x) (sym same);
          run = subst (λ (x : ReplicaKnown). RunsAs files r' was.stored x.run) (sym known) (subst (λ (x : Copy D). RunsAs files x was.stored (replica_at k j).run) (sym same) was.run);
          settled = ap (λ (x : ReplicaKnown). x.poised) known ∙ was.settled;
          places = λ pair. subst (λ p. PhotoAt Tells (last_cell was.stored.cells pair) p) (sym (places pair j apart)) (was.places pair);
        }

    -- one replica stands for what the change makes
    stands_with : (change : ReplicaKnown → ReplicaKnown) (x : ReplicaKnown) (s : Stored) → change (replica_at k at) ≡ x → x.run ≡ None → x.poised ≡ false → x.stuck ≡ is_stuck one.after → Fits k x s
        → IsUp one.after → goal_of one.after ≡ None → physical.Stands files one.after s → PlacesAre Tells rows' at s
        → ((pair : Pair) (i : ℕ) → (i ≡ at → ⊥) → place_in (row_at rows' pair) i ≡ place_in (row_at rows pair) i)
        → StandsFor files Tells (volume_with settings number new rows' front None unsure) (change_at k at change)
    stands_with change x s is run settled stuck fits up goal now_stands places others =
        stands_each (change_at k at change) refl stands.frozen refl (length-slice_set k.replicas at _) (λ j r r' e f was. elim (cases_eq j at) [
          | inl same ↦
              let after_is : r' ≡ one.after = at_same new at r' one.after (subst (λ n. At new n r') same f) one.is in
              let known : replica_at (change_at k at change) at ≡ x = changed_here k at change low_at ∙ is in
              let there : ReplicaStands files Tells (volume_with settings number new rows' front None unsure) (change_at k at change) at one.after = record {
                stored = s;
                fits = subst (λ (y : ReplicaKnown). Fits (change_at k at change) y s) (sym known) (fits_same k (change_at k at change) x x s refl refl refl refl refl refl fits);
                stands = now_stands;
                stuck = ap (λ (y : ReplicaKnown). y.stuck) known ∙ stuck;
                run = no_run files one.after s (replica_at (change_at k at change) at).run (ap (λ (y : ReplicaKnown). y.run) known ∙ run) goal;
                settled = ap (λ (y : ReplicaKnown). y.poised) known ∙ settled;
                places = places;
              } in
              subst (λ n. ReplicaStands files Tells (volume_with settings number new rows' front None unsure) (change_at k at change) n r') (sym same)
              (subst (λ (y : Copy D). ReplicaStands files Tells (volume_with settings number new rows' front None unsure) (change_at k at change) at y) (sym after_is) there)
          | inr apart ↦ other_stands change up others j r r' apart e f was
        ])

    -- a swap
    pub stands_swap : (run : runs.Run) (generation : ℕ) → IsUp one.after → is_stuck one.after ≡ false → goal_of one.after ≡ None
        → (made : Swapped files Tells rows' at one.after was_there.stored run generation)
        → ((pair : Pair) (i : ℕ) → (i ≡ at → ⊥) → place_in (row_at rows' pair) i ≡ place_in (row_at rows pair) i)
        → StandsFor files Tells (volume_with settings number new rows' front None unsure) (change_at k at (swapped made.stored.end (length made.stored.cells)))
    stands_swap run generation up loose goal made others =
        stands_with (swapped made.stored.end (length made.stored.cells)) (swapped made.stored.end (length made.stored.cells) (replica_at k at)) made.stored refl refl was_there.settled (sym loose)
        (fits_swapped k at was_there.stored made.stored run was_there.fits made.to) up goal made.stands made.places others

    -- no swap, and no compaction any more
    pub stands_dropped : IsUp one.after → goal_of one.after ≡ None → physical.Stands files one.after was_there.stored → is_stuck one.after ≡ is_stuck one.before
        → ((pair : Pair) → row_at rows' pair ≡ row_at rows pair)
        → StandsFor files Tells (volume_with settings number new rows' front None unsure) (change_at k at without_run)
    stands_dropped up goal now_stands stuck same =
        stands_with without_run (without_run (replica_at k at)) was_there.stored refl refl was_there.settled (was_there.stuck ∙ sym stuck)
        (fits_same k k (replica_at k at) (without_run (replica_at k at)) was_there.stored refl refl refl refl refl refl was_there.fits) up goal now_stands
        (λ pair. subst (λ l. PhotoAt Tells (last_cell was_there.stored.cells pair) (place_in l at)) (sym (same pair)) (was_there.places pair))
        (λ pair i apart. ap (λ l. place_in l i) (same pair))

    -- a head switch of which no one knows whether it was made
    pub stands_poised : (m : ℕ) (t : Stored) → IsFrozen one.after → StaysInReach DiskTells files one.before one.after → runs.Swaps was_there.stored t
        → physical.Holds files one.after (is_stuck one.before) was_there.stored t → ((pair : Pair) → row_at rows' pair ≡ row_at rows pair)
        → StandsFor files Tells (volume_with settings number new rows' front (Some m) unsure) (change_at (frozen_by m k) at poised)
    stands_poised m t frozen stays swaps holds same =
        let long : length (frozen_by m k).replicas ≡ length k.replicas = length-map k.replicas without_run in
        let low = low_at in
        let less : at < length (frozen_by m k).replicas = omega (arith, long, low) in
        stands_frozen (change_at (frozen_by m k) at poised) m refl refl refl (length-slice_set (frozen_by m k).replicas at _ ∙ long) same (one.idle frozen) (λ j r r' e f was. elim (cases_eq j at) [
          | inl here ↦
              let after_is : r' ≡ one.after = at_same new at r' one.after (subst (λ n. At new n r') here f) one.is in
              let known : replica_at (change_at (frozen_by m k) at poised) at ≡ poised (without_run (replica_at k at)) =
              changed_here (frozen_by m k) at poised less ∙ ap poised (replica_mapped without_run k.replicas at low) in
              let before_is : r ≡ one.before = at_same items at r one.before (subst (λ n. At items n r) here e) one.was in
              let sees : physical.KeepsSight files physical.Anywhere r r' =
              subst (λ (x : Copy D). physical.KeepsSight files physical.Anywhere x r') (sym before_is)
              (subst (λ (x : Copy D). physical.KeepsSight files physical.Anywhere one.before x) (sym after_is) (stays tells).sees) in
              subst (λ n. Frozen (change_at (frozen_by m k) at poised) n r r') (sym here)
              (frozen_as (change_at (frozen_by m k) at poised) at r r' (poised (without_run (replica_at k at))) was_there.stored known refl refl sees
              (fits_same k (change_at (frozen_by m k) at poised) (replica_at k at) (poised (without_run (replica_at k at))) was_there.stored refl refl refl refl refl refl was_there.fits) (
                t,
                swaps,
                subst (λ (x : Copy D). physical.Holds files x (replica_at k at).stuck was_there.stored t) (sym after_is)
                    (subst (λ b. physical.Holds files one.after b was_there.stored t) (sym was_there.stuck) holds),
              ))
          | inr apart ↦
              let known : replica_at (change_at (frozen_by m k) at poised) j ≡ without_run (replica_at k j) =
              changed_other (frozen_by m k) j at poised apart
              ∙ replica_mapped without_run k.replicas j (let h = at_below items j r e in let all = stands.all in let many = stands.many in let l : j
              < length k.replicas = omega (arith, h, all, many) in l) in
              frozen_other tells (change_at (frozen_by m k) at poised) j r r' refl was (one.others j r r' apart e f).0 known
        ])

    -- nothing has changed
    pub stands_same : ((j : ℕ) (r r' : Copy D) → At items j r → At new j r' → r' ≡ r) → ((pair : Pair) → row_at rows' pair ≡ row_at rows pair)
        → StandsFor files Tells (volume_with settings number new rows' front None unsure) k
    stands_same each same = stands_each k refl stands.frozen refl refl (λ j r r' e f was.
        let is : r' ≡ r = each j r r' e f in
        record {
          stored = was.stored;
          fits = was.fits;
          stands = subst (λ (x : Copy D). physical.Stands files x was.stored) (sym is) was.stands;
          stuck = was.stuck ∙ ap (λ (x : Copy D). is_stuck x) (sym is);
          run = subst (λ (x : Copy D). RunsAs files x was.stored (replica_at k j).run) (sym is) was.run;
          settled = was.settled;
          places = λ pair. subst (λ l. PhotoAt Tells (last_cell was.stored.cells pair) (place_in l j)) (sym (same pair)) (was.places pair);
        })
