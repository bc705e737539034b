-- A volume that stands is regular: no replica ends within its superblock, and a compaction makes the next generation.
use Rattle.std.proofs.Common.{◌≡◌, ◌⊎◌, inl, inr, ℕ, ◌+◌, ◌<◌, ◌≤◌, Bool, true, false, List, [], ◌∷◌, length, Option, Some, None, sym, ap, subst, ◌∙◌, arith}
use Rattle.std.specs.Prelude.{sum_by}
use Rattle.std.specs.FinMap.Entries.{by_order, put}
use Rattle.std.specs.declared.cmp.Ordering.TheVariants.{Less, Equal, Greater}
use Rattle.std.proofs.lemmas.List.Sums.{sum_by-cons}
use Rattle.hay_needle.specs.declared.needle.Pair.{Pair}
use Rattle.hay_needle.specs.declared.needle.Photo.{Photo}
use Rattle.hay_needle.specs.declared.settings.Settings.{Settings}
use Rattle.hay_needle.specs.declared.settings.Super.{Super}
use Rattle.hay_needle.specs.Sizes.{needle_total}
use Rattle.hay_needle.specs.Tables.{Table, live_end, pair_cmp, table_of, with_photo}
use Rattle.hay_needle.specs.declared.settings.TheConstants.{LAST_GENERATION}
use Rattle.hay_disk.specs.Disk.{Files, IsImage}
use Rattle.hay_core.specs.declared.entry.Entry.{Entry}
use Rattle.hay_core.specs.declared.entry.Entry.TheVariants.{Del, Put}
use Rattle.hay_legal.specs.declared.known.Pending.{Pending}
use Rattle.hay_legal.specs.declared.known.Run.{Run}
use Rattle.hay_legal.specs.declared.known.VolumeKnown.{VolumeKnown}
use Rattle.hay_legal.specs.Known.{replica_at}
use Rattle.hay_volume.specs.Cells.{needles_of}
use Rattle.hay_open.specs.Stored.{IsStored, Stored, volume_file}
use Rattle.hay_compact.specs.Copying.{end_of}
use Rattle.hay_compact.proofs.CellLists.{cells_end}
use Rattle.hay_physical.specs.OpenCopies.{Copy}
use Rattle.hay_physical.specs.Replicas as physical
use Rattle.hay_physical.specs.Replicas.{Holds, IsLike}
use Rattle.hay_physical.specs.CompactionRuns as runs
use Rattle.hay_logical.specs.Fits.{At, HoldsPart, HoldsSwap, Kept, Lost, Makes, Part, RunsAs, Unsure, copier_run, part_of}
use Rattle.hay_logical.specs.Stands.{HoldsPending, Stands, StandsBy}
use Rattle.hay_logical.specs.Volumes.{HasAll, Volume}
use Rattle.hay_logical.proofs.Lists.{at_there}
use Rattle.hay_logical.proofs.SwapSizes.{photos_end}
use Rattle.hay_shared_volume.specs.Making.{IsRegularVolume}

-- WHAT A PUT ADDS

abbrev photo_total : Pair × Photo → ℕ
photo_total photo = needle_total (length (photo.1).bytes)

-- a table with a photo has its bytes
put_total : (pair : Pair) (photo : Photo) (table : Table) → needle_total (length photo.bytes) ≤ sum_by photo_total (put pair_cmp pair photo table)
put_total pair photo [] = let one = sum_by-cons photo_total (pair, photo) [] in omega (arith, one)
put_total pair photo (e ∷ es) =
    let new : Pair × Photo = (pair, photo) in
    let rest = put_total pair photo es in
    elim (pair_cmp pair e.0) as (λ r. needle_total (length photo.bytes) ≤ sum_by photo_total (by_order r (new ∷ e ∷ es) ((e.0, photo) ∷ es) (e ∷ put pair_cmp pair photo es))) [
      | Less ↦ let one = sum_by-cons photo_total new (e ∷ es) in omega (arith, one)
      | Equal ↦ let one = sum_by-cons photo_total (e.0, photo) es in omega (arith, one)
      | Greater ↦ let one = sum_by-cons photo_total e (put pair_cmp pair photo es) in omega (arith, one, rest)
    ]

-- so what stood before a change did not end within its superblock, where the cells behind it stand without gaps
makes_from : (entry : Entry) (s t : Stored) → Makes entry s t → t.end ≡ end_of t.cells → 64 ≤ s.end
makes_from (Put pair cookie bytes) s t makes ends =
    let photo : Photo = record { cookie = cookie; bytes = bytes } in
    let low : 64 + needle_total (length bytes) ≤ live_end (with_photo (table_of (needles_of s.cells)) pair photo) =
    let total = put_total pair photo (table_of (needles_of s.cells)) in omega (arith, total) in
    let held : 64 + needle_total (length bytes) ≤ live_end (table_of (needles_of t.cells)) = subst (λ (x : Table). 64 + needle_total (length bytes) ≤ live_end x) (sym makes.table) low in
    let whole = photos_end t.cells in
    let more : t.end ≡ s.end + needle_total (length bytes) = makes.end in
    omega (arith, held, whole, more, ends)
makes_from (Del pair) s t makes ends = let same : t.end ≡ s.end + 0 = makes.end in omega (arith, same, ends)

-- WHAT A DISK HOLDS

stored_end : (sup : Super) (contents : ℕ → List ℕ) (s : Stored) → IsStored sup contents s → s.end ≡ end_of s.cells
stored_end sup contents s is = sym (cells_end 64 s.end (contents (volume_file s.generation)) s.cells is.volume.has)

like_end : (stuck : Bool) (s found : Stored) → IsLike stuck s found → found.end ≡ end_of found.cells → s.end ≡ end_of s.cells
like_end stuck s found like ends = sym like.end ∙ (ends ∙ ap end_of like.cells)

-- the cells of the one or of the other stand without gaps, as a stop may leave the disk as it is
holds_end : {D : Type 0} (files : D → Files) → ((disk : D) (n : ℕ) → IsImage (files disk n) (files disk n).now) → (r : Copy D) (stuck : Bool) (s t : Stored) → Holds files r stuck s t
    → (s.end ≡ end_of s.cells) ⊎ (t.end ≡ end_of t.cells)
unfolding physical.MayFind
holds_end files now r stuck s t holds =
    let finds = holds (λ n. (files r.disk n).now) (now r.disk) in
    let ends = stored_end r.sup (λ n. (files r.disk n).now) finds.found finds.is in
    elim finds.like [
      | inl like ↦ inl (like_end stuck s finds.found like ends)
      | inr like ↦ inr (like_end stuck t finds.found like ends)
    ]

module _ {D : Type 0} (files : D → Files) (now : (disk : D) (n : ℕ) → IsImage (files disk n) (files disk n).now) (r : Copy D) (stuck : Bool) where
  held_from : (s : Stored) → Holds files r stuck s s → 64 ≤ s.end
  held_from s holds = elim (holds_end files now r stuck s s holds) [
    | inl ends ↦ omega (arith, ends)
    | inr ends ↦ omega (arith, ends)
  ]

  part_from : (entry : Entry) (s : Stored) (part : Part) → HoldsPart files r stuck entry s part → 64 ≤ s.end
  part_from entry s Kept (t, makes, holds) = elim (holds_end files now r stuck t t holds) [
    | inl ends ↦ makes_from entry s t makes ends
    | inr ends ↦ makes_from entry s t makes ends
  ]
  part_from entry s Unsure (t, makes, holds) = elim (holds_end files now r stuck s t holds) [
    | inl ends ↦ omega (arith, ends)
    | inr ends ↦ makes_from entry s t makes ends
  ]
  part_from entry s Lost holds = held_from s holds

  swap_from : (s : Stored) (poised : Bool) → HoldsSwap files r stuck s poised → 64 ≤ s.end
  swap_from s false holds = held_from s holds
  swap_from s true (t, swaps, holds) = elim (holds_end files now r stuck s t holds) [
    | inl ends ↦ omega (arith, ends)
    | inr ends ↦ let shorter = swaps.shorter in omega (arith, ends, shorter)
  ]

  pending_from : (poised : Bool) (s : Stored) (pending : Option Pending) (broken_at j : ℕ) → HoldsPending files r stuck poised s pending broken_at j → 64 ≤ s.end
  pending_from poised s None broken_at j holds = swap_from s poised holds
  pending_from poised s (Some pending) broken_at j holds = part_from pending.entry s (part_of broken_at j) holds.1

-- WHAT STANDS

stands_from : {D : Type 0} (files : D → Files) (r : Copy D) (s : Stored) → physical.Stands files r s → 64 ≤ s.end
unfolding physical.Stands
stands_from files r s stands =
    let ends = cells_end 64 s.end (files r.disk (volume_file s.generation)).now s.cells ((((stands.stand).cells).is).has) in
    omega (arith, ends)

run_next : {D : Type 0} (files : D → Files) (r : Copy D) (s : Stored) (run : runs.Run) → runs.HasRun files r s (Some run) → run.goal ≡ s.generation + 1
unfolding runs.HasRun
run_next files r s run has = has.has.next

module _ {D P : Type 0} (files : D → Files) (Tells : Type 0) (now : (disk : D) (n : ℕ) → IsImage (files disk n) (files disk n).now) (volume : Volume D P) (k : VolumeKnown) where
  from_by : (frozen : Option ℕ) → StandsBy files Tells volume k frozen → (j : ℕ) (r : Copy D) → At volume.replicas j r → 64 ≤ (replica_at k j).end
  from_by None takes j r at =
      let one = takes.each j r at in
      let low = stands_from files r one.stored one.stands in
      let end = (one.fits).end in
      omega (arith, low, end)
  from_by (Some m) frozen j r at =
      let one = (frozen.holds).each j r at in
      let low = pending_from files now r (replica_at k j).stuck (replica_at k j).poised one.stored k.pending (frozen.holds).broken_at j one.holds in
      let end = (one.fits).end in
      omega (arith, low, end)

  goal_by : (frozen : Option ℕ) → StandsBy files Tells volume k frozen → (j : ℕ) (r : Copy D) → At volume.replicas j r → (run : Run) → (replica_at k j).run ≡ Some run
      → run.goal ≡ (replica_at k j).generation + 1
  goal_by None takes j r at run is =
      let one = takes.each j r at in
      let has : runs.HasRun files r one.stored (Some (copier_run run)) = subst (λ (o : Option Run). RunsAs files r one.stored o) is one.run in
      let next = run_next files r one.stored (copier_run run) has in
      next ∙ ap (λ n. n + 1) (sym (one.fits).generation)
  goal_by (Some m) frozen j r at run is = let none = (frozen.idle j r at).0 in absurd (cc (sym none ∙ is))

  there : HasAll volume → (j : ℕ) → j < (volume.settings).replicas → (r : Copy D) × At volume.replicas j r
  there all j below = at_there volume.replicas j (omega (arith, all, below))

  -- a compaction makes a generation that there may be
  abbrev pub GoalsFit : Type 0
  GoalsFit = (j : ℕ) → j < (volume.settings).replicas → (run : Run) → (replica_at k j).run ≡ Some run → run.goal ≤ LAST_GENERATION

  pub is_regular : (settings : Settings) → volume.settings ≡ settings → Stands files Tells volume k → GoalsFit → IsRegularVolume settings k
  unfolding Stands
  is_regular settings of stands fit = subst (λ (s : Settings). IsRegularVolume s k) of (record {
    replicas = stands.many;
    ends = λ j below. let r = there stands.all j below in from_by volume.frozen stands.by j r.0 r.1;
    numbers = λ j below run is.
        let r = there stands.all j below in
        let next = goal_by volume.frozen stands.by j r.0 r.1 run is in
        let most = fit j below run is in
        omega (arith, next, most);
    runs = λ j below run is. let r = there stands.all j below in goal_by volume.frozen stands.by j r.0 r.1 run is;
  })
