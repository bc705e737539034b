use Rattle.std.proofs.Common.{◌≡◌, inl, inr, List, Err, refl, sym, ap, subst, ◌∙◌}
use Rattle.std.proofs.lemmas.Bool.{cases_Bool}
use Rattle.std.specs.Prelude.{map, slice_set}
use Rattle.std.proofs.lemmas.List.{with_items_is}
use Rattle.hay_needle.specs.declared.needle.Pair.{Pair}
use Rattle.hay_map.specs.Places.{gone_place, place_in}
use Rattle.hay_map.specs.Rows.{ChangesRows, row_at, swapped_place}
use Rattle.hay_map.specs.declared.view.MapOp.TheVariants as op
use Rattle.hay_map.specs.declared.view.OpenCell.{OpenCell}
use Rattle.hay_open.specs.Finds.{ArePlacesWithin}
use Rattle.hay_open.specs.Stored.{index_file, volume_file}
use Rattle.hay_physical.specs.OpenCopies.{Copy, is_frozen}
use Rattle.hay_physical.specs.Faults as physical_faults
use Rattle.hay_physical.specs.declared.fault.ReplicaFault.{ReplicaFault}
use Rattle.hay_physical.specs.CompactionRuns.{RemovedBoth}
use Rattle.hay_physical.proofs.Laws.{stands_cells_end, stands_generation, stands_up}
use Rattle.hay_logical.specs.ReplicaCalls.{HoldsUnswapped, IsLeftBy, StaysInReach, still_gone_cell}
use Rattle.hay_logical.specs.ReplicaCalls.Start.{Examined}
use Rattle.hay_logical.specs.Volumes.{ReachesPlaces}
use Rattle.hay_logical.proofs.Calls.{loaded_other, not_both, open_frozen, open_up, up_open}
use Rattle.hay_logical.proofs.Reaching.{reaches_on}
use Rattle.hay_logical.proofs.Swapping.{places_swapped, reach_swapped, refused_holds, refused_left, swaps_sights, unsure_left}
use Rattle.hay_logical.proofs.runs.swap.Given as given
use Rattle.hay_logical.proofs.Seen.{run_changed, swap_seen}
use Rattle.hay_logical.proofs.runs.swap.Goals as goal
use Rattle.hay_logical.proofs.runs.swap.Goals.{In-Err}

pub returns-in-Ok-clause-swaps : goal.returns-in-Ok-clause-swaps
returns-in-Ok-clause-swaps g c =
    let x : Copy g.row.D.Denot = c.finish.new.self in
    let photos = c.in-Ok.ensures.photos in
    let cells : List (OpenCell g.row.D-Piece.Denot) = map (still_gone_cell c.args.rows.now c.args.at) c.in-Ok.places.items in
    let cells_are : c.as_slice.result.now ≡ cells =
    c.as_slice.ensures.value ∙ with_items_is c.in-Ok.places c.keep_gone.new.cells (c.keep_gone.auto.cells ∙ c.as_mut_slice.ensures.len) ∙ c.keep_gone.ensures
    ∙ ap (λ l. map (still_gone_cell c.args.rows.now c.args.at) l) c.as_mut_slice.ensures.value in
    let changed : (pair : Pair) → row_at c.swap.new.self pair ≡ slice_set (row_at c.args.rows.now pair) c.args.at
    (swapped_place cells pair (gone_place (place_in (row_at c.args.rows.now pair) c.args.at))) =
    subst (λ l. (pair : Pair) → row_at c.swap.new.self pair ≡ slice_set (row_at c.args.rows.now pair) c.args.at
    (swapped_place l pair (gone_place (place_in (row_at c.args.rows.now pair) c.args.at)))) cells_are c.swap.ensures.rows in
    record {
      «open» = c.finish.ensures.«open»;
      sup = c.finish.ensures.sup;
      up = (c.in-Ok.ensures.up, c.in-Ok.ensures.going, c.finish.ensures.goal, tt);
      left = tt;
      swapped = λ tells s run stands start places.
          let made = c.in-Ok.ensures.swapped tells s run stands start.0 start.1 in
          record {
            stored = made.0;
            to = record { swaps = made.1; tight = made.2; ends = stands_cells_end g.D.Disk.files x made.0 made.3 };
            stands = made.3;
            places = places_swapped g.D.Piece.Piece.Tells c.args.rows.now c.swap.new.self c.args.at c.in-Ok.places.items photos changed s made.0 made.1.table places made.4;
            generation_is = c.generation.ensures.is ∙ stands_generation g.D.Disk.files x made.0 made.3;
          };
      sizes = λ tells t stands. (c.end.ensures.known tells t stands, c.copied-count.ensures ∙ sym (c.in-Ok.ensures.counted tells t stands));
      still = tt;
      removed = λ tells s stands.
          subst (λ n. RemovedBoth (g.D.Disk.files x.disk) (volume_file n) (index_file n) (g.D.Disk.fault_count (c.args.replica.now).disk) (g.D.Disk.fault_count x.disk))
          (stands_generation g.D.Disk.files c.args.replica.now s stands) (c.in-Ok.ensures.removed tells);
      refused = λ tells s run stands start places. tt;
      reach =
          λ tells reach. reach_swapped g.D.Piece.Piece.Tells c.args.rows.now c.swap.new.self c.args.at c.in-Ok.places.items photos changed g.D.Disk.files x
          (c.in-Ok.ensures.can_delete tells) (c.in-Ok.ensures.needles tells);
      head = λ tells. tt;
    }

pub returns-in-Ok-clause-places : goal.returns-in-Ok-clause-places
returns-in-Ok-clause-places g c =
    let cells : List (OpenCell g.row.D-Piece.Denot) = map (still_gone_cell c.args.rows.now c.args.at) c.in-Ok.places.items in
    let cells_are : c.as_slice.result.now ≡ cells =
    c.as_slice.ensures.value ∙ with_items_is c.in-Ok.places c.keep_gone.new.cells (c.keep_gone.auto.cells ∙ c.as_mut_slice.ensures.len) ∙ c.keep_gone.ensures
    ∙ ap (λ l. map (still_gone_cell c.args.rows.now c.args.at) l) c.as_mut_slice.ensures.value in
    let changed : (pair : Pair) → row_at c.swap.new.self pair ≡ slice_set (row_at c.args.rows.now pair) c.args.at
    (swapped_place cells pair (gone_place (place_in (row_at c.args.rows.now pair) c.args.at))) =
    subst (λ l. (pair : Pair) → row_at c.swap.new.self pair ≡ slice_set (row_at c.args.rows.now pair) c.args.at
    (swapped_place l pair (gone_place (place_in (row_at c.args.rows.now pair) c.args.at)))) cells_are c.swap.ensures.rows in
    record {
      moved = subst (λ l. ChangesRows (op.Swap c.args.at l) c.args.rows.now c.swap.new.self) (c.as_slice.ensures.value ∙ sym c.from_vec.ensures) c.swap.ensures;
      sights = swaps_sights g.D.Piece.Piece.Tells c.args.rows.now c.swap.new.self c.args.at c.in-Ok.places.items c.in-Ok.ensures.photos changed c.end.result
          (subst (λ n. ArePlacesWithin n c.in-Ok.places.items) (sym c.end.ensures.is) c.in-Ok.ensures.within);
      width = c.swap.ensures.replicas;
      others = λ pair i apart. loaded_other (row_at c.args.rows.now pair) (row_at c.swap.new.self pair) i c.args.at _ (c.swap.ensures.rows pair) apart;
      same = tt;
    }

-- a refusal has left what could be reached
kept : (g : given.Over) (c : In-Err g) → StaysInReach g.D.Disk.Tells g.D.Disk.files c.args.replica.now c.finish.new.self
kept g c = λ tells. record { deletes = λ place may. c.in-Err.ensures.deletes tells place may; sees = c.in-Err.ensures.sees tells }

pub returns-in-Err-clause-stays : goal.returns-in-Err-clause-stays
returns-in-Err-clause-stays g c = kept g (goal.at.returns-in-Err-clause-stays g c).In-Err

pub returns-in-Err-clause-swaps : goal.returns-in-Err-clause-swaps
returns-in-Err-clause-swaps g c =
    let r : Copy g.row.D.Denot = c.args.replica.now in
    let x : Copy g.row.D.Denot = c.finish.new.self in
    let stays : g.D.Disk.Tells → ReachesPlaces g.D.Disk.files g.D.Piece.Piece.Tells c.args.rows.now c.args.at r → ReachesPlaces g.D.Disk.files g.D.Piece.Piece.Tells c.args.rows.now c.args.at x =
    λ tells reach. reaches_on g.D.Disk.files c.args.rows.now c.args.rows.now c.args.at r x (λ u. c.requires.up) (λ u. up_open r c.requires.up)
    (kept g (goal.at.returns-in-Err-clause-swaps g c).In-Err tells) (λ pair. refl) reach in
    elim (cases_Bool (is_frozen x)) [
      | inl froze ↦
          let frozen = open_frozen x c.finish.ensures.«open» froze in
          let is = c.why_unswapped.ensures.frozen froze in
          let failed = c.finish.ensures.froze c.requires.up frozen in
          record {
            «open» = c.finish.ensures.«open»;
            sup = c.finish.ensures.sup;
            up = tt;
            left =
                subst (λ u. IsLeftBy g.D.Disk.fault_count Examined r x u) (sym is) (unsure_left g.D.Disk.files g.D.Disk.fault_count r x c.finish.result frozen c.finish.ensures.goal
                failed c.finish.ensures.causes);
            swapped = λ tells s run stands start places. tt;
            sizes = λ tells. tt;
            still = c.in-Err.ensures.still.0;
            removed = λ tells s stands. tt;
            refused = λ tells s run stands start places.
                subst (λ u. HoldsUnswapped g.D.Disk.files r x s run u) (sym is)
                (elim (c.in-Err.ensures.refused tells s run stands start.0 start.1) [
                  | inl stays ↦ absurd (not_both x (stands_up g.D.Disk.files x s stays) frozen)
                  | inr made ↦ (made.1.0, made.1.1, made.1.3)
                ]);
            reach = stays;
            head = λ tells up. absurd (not_both x up frozen);
          }
      | inr thawed ↦
          let up = open_up x c.finish.ensures.«open» thawed in
          let is = c.why_unswapped.ensures.up thawed in
          record {
            «open» = c.finish.ensures.«open»;
            sup = c.finish.ensures.sup;
            up = tt;
            left = subst (λ u. IsLeftBy g.D.Disk.fault_count Examined r x u) (sym is)
                (refused_left g.D.Disk.files g.D.Disk.fault_count r x c.in-Err.fault c.requires.up c.requires.standing up c.finish.ensures.goal
                (λ e. c.finish.ensures.thawed (c.in-Err.is ∙ ap Err e)) (λ n e. c.finish.ensures.none n (c.in-Err.is ∙ ap Err e)) c.in-Err.ensures.causes);
            swapped = λ tells s run stands start places. tt;
            sizes = λ tells. tt;
            still = c.in-Err.ensures.still.0;
            removed = λ tells s stands. tt;
            refused = λ tells s run stands start places.
                subst (λ u. HoldsUnswapped g.D.Disk.files r x s run u) (sym is)
                (refused_holds g.D.Disk.files g.D.Disk.fault_count r x s run c.in-Err.fault c.in-Err.ensures.causes (c.in-Err.ensures.kept tells s stands up) c.in-Err.ensures.still.0);
            reach = stays;
            head = λ tells. c.in-Err.ensures.head_file tells;
          }
    ]

pub returns-in-Ok-clause-seen : goal.returns-in-Ok-clause-seen
returns-in-Ok-clause-seen g c =
    let made = c.in-Ok.ensures in
    swap_seen c.args.replica.now c.finish.new.self c.generation.result c.end.result c.generation.ensures.is c.end.ensures.is made.moved made.small made.from made.shorter
    c.finish.ensures.goal made.going made.none_bare

pub returns-in-Err-clause-kept : goal.returns-in-Err-clause-kept
returns-in-Err-clause-kept g c = run_changed c.args.replica.now c.finish.new.self (c.in-Err.ensures.still.1, c.in-Err.ensures.stays) c.in-Err.ensures.still.0 c.in-Err.ensures.still_bare

pub returns-in-Err-clause-undamaged : goal.returns-in-Err-clause-undamaged
returns-in-Err-clause-undamaged g c = λ place e. elim (cases_Bool (is_frozen c.finish.new.self)) [
  | inl froze ↦ let is = c.why_unswapped.ensures.frozen froze in absurd cc
  | inr thawed ↦
      let is = c.why_unswapped.ensures.up thawed in
      let same : c.in-Err.fault ≡ ReplicaFault.Damaged place = cc in
      subst (λ (f : ReplicaFault). physical_faults.IsRunFault (g.D.Disk.fault_count (c.args.replica.now).disk) (g.D.Disk.fault_count (c.finish.new.self).disk) f) same c.in-Err.ensures.causes
]
