-- A finish leaves a range of sizes.
use Rattle.std.proofs.Common.{◌≡◌, ℕ, zero, suc, ◌+◌, ◌-◌, ◌<◌, ◌≤◌, List, [], ◌∷◌, length, Option, Some, None, refl, sym, ap, subst, ◌∙◌, inl, arith}
use Rattle.std.specs.Prelude.{slice_index_or, slice_set, option_map}
use Rattle.std.specs.List.{AllZip}
use Rattle.hay_needle.specs.Tables.{Table, live_end}
use Rattle.hay_legal.specs.declared.known.Run.{Run}
use Rattle.hay_legal.specs.declared.known.ReplicaKnown.{ReplicaKnown}
use Rattle.hay_legal.specs.declared.known.VolumeKnown.{VolumeKnown}
use Rattle.hay_legal.specs.declared.known.Known.{Known}
use Rattle.hay_legal.specs.Known.{Leaves, NoneFalls, volume_at, replica_at, now, empty_replica}
use Rattle.hay_legal.specs.Plain.{Swaps, IsLoose, as_it_is, change_volume, change_replica, swapped, replica_of}
use Rattle.hay_audit_steps.specs.BoxNext.{least_end, least_cells, most_end, most_cells, room_above, swapped_box}
use Rattle.hay_audit_steps.specs.CheckerSteps.{Below, with_counts}
use Rattle.hay_audit_steps.specs.Slacks.{Lies, Slack, fill_replica, no_slack}
use Rattle.hay_audit_steps.specs.Boxes.{IsPlace, IsFilled, Box, Has, IsBoxStep, Within, fill, fill_replicas, fill_volume, fill_volumes, set_slack, slack_at}
use Rattle.hay_audit_steps.proofs.Cuts.{within_at, slack_set}
use Rattle.hay_audit_steps.proofs.Lifting.{volume_fill, now_fill, change_fill}
use Rattle.hay_audit_steps.proofs.Rows.{stays, comes}

-- the sizes of one replica in a filled state
replicas_fill : (xs : List Slack) (replicas : List ReplicaKnown) (j : ℕ) → j < length replicas
    → slice_index_or (fill_replicas xs replicas) j empty_replica ≡ fill_replica (slice_index_or xs j no_slack) (slice_index_or replicas j empty_replica)
replicas_fill xs [] j h = absurd (omega (arith, h))
replicas_fill [] (r ∷ rs) zero h = none_fill r
  where
    none_run : (run : Option Run) → run ≡ option_map (λ (r : Run). record r { left = r.left + 0 }) run
    none_run None = refl
    none_run (Some run) = ap (λ (n : ℕ). Some (record run { left = n })) (omega arith)

    none_fill : (r : ReplicaKnown) → r ≡ fill_replica no_slack r
    none_fill r =
        ap (λ (n : ℕ). record r { end = n }) (let e : r.end ≡ r.end + 0 = omega arith in e)
        ∙ ap (λ (n : ℕ). record r { end = r.end + 0; cells = n }) (let e : r.cells ≡ r.cells + 0 = omega arith in e)
        ∙ ap (λ (n : ℕ). record r { end = r.end + 0; cells = r.cells + 0; bare = n }) (let e : r.bare ≡ r.bare + 0 = omega arith in e)
        ∙ ap (λ (run : Option Run). record r { end = r.end + 0; cells = r.cells + 0; bare = r.bare + 0; run = run }) (none_run r.run)
replicas_fill [] (r ∷ rs) (suc j) h = replicas_fill [] rs j (omega (arith, h))
replicas_fill (x ∷ xs) (r ∷ rs) zero h = refl
replicas_fill (x ∷ xs) (r ∷ rs) (suc j) h = replicas_fill xs rs j (omega (arith, h))

sets_same : (xss : List (List Slack)) (ys : List Slack) (volumes : List VolumeKnown) (v : ℕ) (w : VolumeKnown)
    → slice_set (fill_volumes (slice_set xss v ys) volumes) v w ≡ slice_set (fill_volumes xss volumes) v w
sets_same [] ys volumes v w = refl
sets_same (xs ∷ xss) ys [] zero w = refl
sets_same (xs ∷ xss) ys [] (suc v) w = refl
sets_same (xs ∷ xss) ys (volume ∷ volumes) zero w = refl
sets_same (xs ∷ xss) ys (volume ∷ volumes) (suc v) w = ap (λ (vs : List VolumeKnown). fill_volume xs volume ∷ vs) (sets_same xss ys volumes v w)

sets_fill : (xss : List (List Slack)) (volumes : List VolumeKnown) (v : ℕ) (volume : VolumeKnown)
    → slice_set (fill_volumes xss volumes) v (fill_volume (slice_index_or xss v []) volume) ≡ fill_volumes xss (slice_set volumes v volume)
sets_fill [] volumes v volume = refl
sets_fill (xs ∷ xss) [] v volume = refl
sets_fill (xs ∷ xss) (w ∷ volumes) zero volume = refl
sets_fill (xs ∷ xss) (w ∷ volumes) (suc v) volume = ap (λ (vs : List VolumeKnown). fill_volume xs w ∷ vs) (sets_fill xss volumes v volume)

-- the replica that was swapped, at its place: its sizes are those above the lowest, whatever they were before
swap_one : (x y : Slack) (end cells : ℕ) (r : ReplicaKnown) → x.bare ≡ 0
    → swapped (end + x.end) (cells + x.cells) (fill_replica y r) ≡ fill_replica x (swapped end cells r)
swap_one x y end cells r none =
    ap (λ (n : ℕ). record (swapped (end + x.end) (cells + x.cells) (fill_replica y r)) { bare = n }) (let e : 0 ≡ 0 + x.bare = omega (arith, none) in e)

swap_place : (xs : List Slack) (replicas : List ReplicaKnown) (j : ℕ) (y : Slack) (end cells : ℕ) → j < length xs → (slice_index_or xs j no_slack).bare ≡ 0
    → slice_set (fill_replicas (slice_set xs j y) replicas) j
    (swapped (end + (slice_index_or xs j no_slack).end) (cells + (slice_index_or xs j no_slack).cells) (slice_index_or (fill_replicas (slice_set xs j y) replicas) j empty_replica))
    ≡ fill_replicas xs (slice_set replicas j (swapped end cells (slice_index_or replicas j empty_replica)))
swap_place [] replicas j y end cells h none = absurd (omega (arith, h))
swap_place (x ∷ xs) [] zero y end cells h none = refl
swap_place (x ∷ xs) [] (suc j) y end cells h none = refl
swap_place (x ∷ xs) (r ∷ replicas) zero y end cells h none = ap (λ (s : ReplicaKnown). s ∷ fill_replicas xs replicas) (swap_one x y end cells r none)
swap_place (x ∷ xs) (r ∷ replicas) (suc j) y end cells h none = ap (λ (rs : List ReplicaKnown). fill_replica x r ∷ rs) (swap_place xs replicas j y end cells (omega (arith, h)) none)

index_list : (xss : List (List Slack)) (v : ℕ) (ys : List Slack) → v < length xss → slice_index_or (slice_set xss v ys) v [] ≡ ys
index_list [] v ys h = absurd (omega (arith, h))
index_list (xs ∷ xss) zero ys h = refl
index_list (xs ∷ xss) (suc v) ys h = index_list xss v ys (omega (arith, h))

-- a swap of a filled state is a filled swap
pub swap_fill : (xss : List (List Slack)) (b : Known) (v j end cells : ℕ) (y : Slack) → IsPlace xss v j → (slack_at xss v j).bare ≡ 0
    → change_replica (fill (set_slack xss v j y) b) v j (swapped (end + (slack_at xss v j).end) (cells + (slack_at xss v j).cells)) ≡ fill xss (change_replica b v j (swapped end cells))
swap_fill xss b v j end cells y place none =
    let xs : List Slack = slice_index_or xss v [] in
    let ys : List Slack = slice_set xs j y in
    let size : ReplicaKnown → ReplicaKnown = swapped (end + (slack_at xss v j).end) (cells + (slack_at xss v j).cells) in
    let own : volume_at (fill (slice_set xss v ys) b) v ≡ fill_volume ys (volume_at b v) =
    volume_fill (slice_set xss v ys) b v ∙ ap (λ (zs : List Slack). fill_volume zs (volume_at b v)) (index_list xss v ys place.0) in
    let made : VolumeKnown → VolumeKnown =
    λ (w : VolumeKnown). record w { replicas = slice_set w.replicas j (swapped (end + (slack_at xss v j).end) (cells + (slack_at xss v j).cells) (replica_at w j)) } in
    ap (λ (w : VolumeKnown). record b { volumes = slice_set (fill_volumes (slice_set xss v ys) b.volumes) v (made w) }) own
    ∙ ap (λ (rs : List ReplicaKnown). record b { volumes = slice_set (fill_volumes (slice_set xss v ys) b.volumes) v (record (volume_at b v) { replicas = rs }) })
    (swap_place xs (volume_at b v).replicas j y end cells place.1 none)
    ∙ ap (λ (vs : List VolumeKnown). record b { volumes = vs }) (sets_same xss ys b.volumes v
    (fill_volume xs (record (volume_at b v) { replicas = slice_set (volume_at b v).replicas j (swapped end cells (replica_at (volume_at b v) j)) })))
    ∙ ap (λ (vs : List VolumeKnown). record b { volumes = vs }) (sets_fill xss b.volumes v
    (record (volume_at b v) { replicas = slice_set (volume_at b v).replicas j (swapped end cells (replica_at (volume_at b v) j)) }))

-- RANGES AT ONE PLACE

abbrev Row : List Slack → List Slack → Type 0
Row xs ys = AllZip Lies xs ys

zip_swap_left : {X : Type 0} (R : X → X → Type 0) (xs ys : List X) (i : ℕ) (d a y : X) → AllZip R (slice_set xs i a) ys
    → (R a (slice_index_or ys i d) → R (slice_index_or xs i d) y) → AllZip R xs (slice_set ys i y)
zip_swap_left R [] [] i d a y h f = tt
zip_swap_left R [] (z ∷ ys) i d a y h f = absurd h
zip_swap_left R (x ∷ xs) [] zero d a y h f = absurd h
zip_swap_left R (x ∷ xs) [] (suc i) d a y h f = absurd h
zip_swap_left R (x ∷ xs) (z ∷ ys) zero d a y h f = (f h.0, h.1)
zip_swap_left R (x ∷ xs) (z ∷ ys) (suc i) d a y h f = (h.0, zip_swap_left R xs ys i d a y h.1 f)

zip_swap_right : {X : Type 0} (R : X → X → Type 0) (xs ys : List X) (i : ℕ) (d x b : X) → AllZip R xs (slice_set ys i b)
    → (R (slice_index_or xs i d) b → R x (slice_index_or ys i d)) → AllZip R (slice_set xs i x) ys
zip_swap_right R [] [] i d x b h f = tt
zip_swap_right R (w ∷ xs) [] i d x b h f = absurd h
zip_swap_right R [] (z ∷ ys) zero d x b h f = absurd h
zip_swap_right R [] (z ∷ ys) (suc i) d x b h f = absurd h
zip_swap_right R (w ∷ xs) (z ∷ ys) zero d x b h f = (f h.0, h.1)
zip_swap_right R (w ∷ xs) (z ∷ ys) (suc i) d x b h f = (h.0, zip_swap_right R xs ys i d x b h.1 f)

zip_set_both : {X : Type 0} (R : X → X → Type 0) (xs ys : List X) (i : ℕ) (d a b : X) → AllZip R xs ys → (R (slice_index_or xs i d) (slice_index_or ys i d) → R a b)
    → AllZip R (slice_set xs i a) (slice_set ys i b)
zip_set_both R [] [] i d a b h f = tt
zip_set_both R [] (z ∷ ys) i d a b h f = absurd h
zip_set_both R (x ∷ xs) [] i d a b h f = absurd h
zip_set_both R (x ∷ xs) (z ∷ ys) zero d a b h f = (f h.0, h.1)
zip_set_both R (x ∷ xs) (z ∷ ys) (suc i) d a b h f = (h.0, zip_set_both R xs ys i d a b h.1 f)

pub zip_long : {X : Type 0} (R : X → X → Type 0) (xs ys : List X) → AllZip R xs ys → length xs ≡ length ys
zip_long R [] [] h = refl
zip_long R (x ∷ xs) (y ∷ ys) h = ap suc (zip_long R xs ys h.1)
zip_long R [] (y ∷ ys) h = absurd h
zip_long R (x ∷ xs) [] h = absurd h

pub zip_index : {X : Type 0} (R : X → X → Type 0) (xs ys : List X) (i : ℕ) (d : X) → R d d → AllZip R xs ys → R (slice_index_or xs i d) (slice_index_or ys i d)
zip_index R [] [] i d e h = e
zip_index R (x ∷ xs) (y ∷ ys) zero d e h = h.0
zip_index R (x ∷ xs) (y ∷ ys) (suc i) d e h = zip_index R xs ys i d e h.1
zip_index R [] (y ∷ ys) i d e h = absurd h
zip_index R (x ∷ xs) [] i d e h = absurd h

pub place_below : (xss yss : List (List Slack)) (v j : ℕ) → Within xss yss → IsPlace yss v j → IsPlace xss v j
place_below xss yss v j h place =
    (omega (arith, place.0, zip_long Row xss yss h), omega (arith, place.1, zip_long Lies (slice_index_or xss v []) (slice_index_or yss v []) (zip_index Row xss yss v [] tt h)))

pub set_length : {X : Type 0} (xs : List X) (i : ℕ) (x : X) → length (slice_set xs i x) ≡ length xs
set_length [] i x = refl
set_length (y ∷ xs) zero x = refl
set_length (y ∷ xs) (suc i) x = ap suc (set_length xs i x)

pub place_set : (xss : List (List Slack)) (v j : ℕ) (y : Slack) → IsPlace xss v j → IsPlace (set_slack xss v j y) v j
place_set xss v j y place = (
  omega (arith, place.0, set_length xss v (slice_set (slice_index_or xss v []) j y)),
  subst (λ (xs : List Slack). j < length xs) (sym (index_list xss v (slice_set (slice_index_or xss v []) j y) place.0))
      (omega (arith, place.1, set_length (slice_index_or xss v []) j y)),
)

set_back : {X : Type 0} (xs : List X) (i : ℕ) (z d : X) → slice_set (slice_set xs i z) i (slice_index_or xs i d) ≡ xs
set_back [] i z d = refl
set_back (x ∷ xs) zero z d = refl
set_back (x ∷ xs) (suc i) z d = ap (λ (ys : List _). x ∷ ys) (set_back xs i z d)

pub slack_back : (xss : List (List Slack)) (v j : ℕ) (z : Slack) → IsPlace xss v j → set_slack (set_slack xss v j z) v j (slack_at xss v j) ≡ xss
slack_back xss v j z place =
    let xs : List Slack = slice_index_or xss v [] in
    ap (λ (ys : List Slack). slice_set (slice_set xss v (slice_set xs j z)) v (slice_set ys j (slack_at xss v j))) (index_list xss v (slice_set xs j z) place.0)
    ∙ ap (λ (ys : List Slack). slice_set (slice_set xss v (slice_set xs j z)) v ys) (set_back xs j z no_slack)
    ∙ set_back xss v (slice_set xs j z) []

-- one place free below, and set above
pub free_low : (low xss : List (List Slack)) (v j : ℕ) (a y : Slack) → Within (set_slack low v j a) xss → Lies (slack_at low v j) y → Within low (set_slack xss v j y)
free_low low xss v j a y h g =
    zip_swap_left Row low xss v [] (slice_set (slice_index_or low v []) j a) (slice_set (slice_index_or xss v []) j y) h
    (λ row. zip_swap_left Lies (slice_index_or low v []) (slice_index_or xss v []) j no_slack a y row (λ any. g))

pub free_high : (xss high : List (List Slack)) (v j : ℕ) (y b : Slack) → Within xss (set_slack high v j b) → Lies y (slack_at high v j) → Within (set_slack xss v j y) high
free_high xss high v j y b h g =
    zip_swap_right Row xss high v [] (slice_set (slice_index_or xss v []) j y) (slice_set (slice_index_or high v []) j b) h
    (λ row. zip_swap_right Lies (slice_index_or xss v []) (slice_index_or high v []) j no_slack y b row (λ any. g))

pub both_set : (xss yss : List (List Slack)) (v j : ℕ) (a b : Slack) → Within xss yss → Lies a b → Within (set_slack xss v j a) (set_slack yss v j b)
both_set xss yss v j a b h g =
    zip_set_both Row xss yss v [] (slice_set (slice_index_or xss v []) j a) (slice_set (slice_index_or yss v []) j b) h
    (λ row. zip_set_both Lies (slice_index_or xss v []) (slice_index_or yss v []) j no_slack a b row (λ any. g))

-- A SWAP WITH SIZES IN A RANGE

abbrev pub loose_row : ℕ → ℕ → Known → Known → Type 0
loose_row v j k t = Swaps IsLoose as_it_is k v j t

pub sizes_of : (xss : List (List Slack)) (b : Known) (v j : ℕ) → j < length (volume_at b v).replicas → replica_of (fill xss b) v j ≡ fill_replica (slack_at xss v j) (replica_of b v j)
sizes_of xss b v j h =
    ap (λ (volume : VolumeKnown). replica_at volume j) (volume_fill xss b v) ∙ replicas_fill (slice_index_or xss v []) (volume_at b v).replicas j h

as_fill : (xss : List (List Slack)) (b : Known) (v : ℕ) → change_volume (fill xss b) v as_it_is ≡ fill xss (change_volume b v as_it_is)
as_fill xss b v = change_fill xss b v as_it_is (λ xs volume. refl)

pub swap_box_step : (box : Box) (v j : ℕ) → IsFilled box v j → least_end box.base v j ≤ most_end box v j → least_cells box.base v j ≤ most_cells box v j
    → IsBoxStep (loose_row v j) box (swapped_box box v j ∷ [])
swap_box_step box v j is ends cells = record {
  sound = (
    (λ t has.
        let b : Known = box.base in
        let xss : List (List Slack) = has.0 in
        let y : Slack = slack_at box.high v j in
        let k : Known = fill (set_slack xss v j y) b in
        let place : IsPlace xss v j = place_below xss (swapped_box box v j).high v j (has.1).most (place_set box.high v j (room_above box v j) is.high) in
        let lies = within_at xss (swapped_box box v j).high v j (has.1).most in
        let room : slack_at (swapped_box box v j).high v j ≡ room_above box v j = slack_set box.high v j (room_above box v j) is.high in
        let top_end : (slack_at (swapped_box box v j).high v j).end ≡ most_end box v j - least_end b v j = ap (λ (x : Slack). x.end) room in
        let top_cells : (slack_at (swapped_box box v j).high v j).cells ≡ most_cells box v j - least_cells b v j = ap (λ (x : Slack). x.cells) room in
        let top_bare : (slack_at (swapped_box box v j).high v j).bare ≡ 0 = ap (λ (x : Slack). x.bare) room in
        let none : (slack_at xss v j).bare ≡ 0 = omega (arith, lies.bare, top_bare) in
        let end : ℕ = least_end b v j + (slack_at xss v j).end in
        let many : ℕ = least_cells b v j + (slack_at xss v j).cells in
        let here : slack_at (set_slack xss v j y) v j ≡ y = slack_set xss v j y place in
        let sizes : replica_of k v j ≡ fill_replica y (replica_of b v j) = sizes_of (set_slack xss v j y) b v j is.volume ∙ ap (λ (x : Slack). fill_replica x (replica_of b v j)) here in
        let old_end : (replica_of k v j).end ≡ most_end box v j = ap (λ (r : ReplicaKnown). r.end) sizes in
        let old_cells : (replica_of k v j).cells ≡ most_cells box v j = ap (λ (r : ReplicaKnown). r.cells) sizes in
        let table : now (volume_at k v) (replica_of k v j) ≡ now (volume_at b v) (replica_of b v j) = now_fill (set_slack xss v j y) b v j in
        let live : live_end (now (volume_at k v) (replica_of k v j)) ≡ least_end b v j = ap (λ (x : Table). live_end x) table in
        let count : length (now (volume_at k v) (replica_of k v j)) ≡ least_cells b v j = ap (λ (x : Table). length x) table in
        let made : change_volume (change_replica k v j (swapped end many)) v as_it_is ≡ t =
        ap (λ (x : Known). change_volume x v as_it_is) (swap_fill xss b v j (least_end b v j) (least_cells b v j) y place none)
        ∙ as_fill xss (change_replica b v j (swapped (least_end b v j) (least_cells b v j))) v ∙ sym has.2 in (
          k,
          (
            set_slack xss v j y,
            record {
              least = free_low box.low xss v j no_slack y (has.1).least (within_at box.low box.high v j is.some);
              most = free_high xss box.high v j y (room_above box v j) (has.1).most (record { end = omega arith; cells = omega arith; bare = omega arith });
            },
            refl,
          ),
          (
            end,
            many,
            (omega (arith, live), omega (arith, old_end, lies.end, top_end, ends), omega (arith, count), omega (arith, old_cells, lies.cells, top_cells, cells)),
            subst (λ (x : Known). Leaves k (change_volume (change_replica k v j (swapped end many)) v as_it_is) x) made
                (stays k (change_volume (change_replica k v j (swapped end many)) v as_it_is) refl refl),
          ),
        )),
    tt,
  );
  complete = λ k faults arms fuses t has f a r. inl (kept k faults arms fuses t has f a r);
}
  where
    kept : (k : Known) (faults arms fuses : List ℕ) (t : Known) → Has box k → NoneFalls k.faults faults → NoneFalls k.arms arms
        → loose_row v j (with_counts k faults arms fuses) t → (e : Known) × Has (swapped_box box v j) e × Below e t
    kept k faults arms fuses t has f a r =
        let b : Known = box.base in
        let xss : List (List Slack) = has.0 in
        let x : Slack = slack_at xss v j in
        let end : ℕ = r.0 in
        let many : ℕ = r.1 in
        let table : now (volume_at k v) (replica_of k v j) ≡ now (volume_at b v) (replica_of b v j) =
        subst (λ (q : Known). now (volume_at q v) (replica_of q v j) ≡ now (volume_at b v) (replica_of b v j)) (sym has.2) (now_fill xss b v j) in
        let live : live_end (now (volume_at k v) (replica_of k v j)) ≡ least_end b v j = ap (λ (y : Table). live_end y) table in
        let count : length (now (volume_at k v) (replica_of k v j)) ≡ least_cells b v j = ap (λ (y : Table). length y) table in
        let sizes : replica_of k v j ≡ fill_replica x (replica_of b v j) = subst (λ (q : Known). replica_of q v j ≡ fill_replica x (replica_of b v j)) (sym has.2) (sizes_of xss b v j is.volume) in
        let old_end : (replica_of k v j).end ≡ (replica_of b v j).end + x.end = ap (λ (q : ReplicaKnown). q.end) sizes in
        let old_cells : (replica_of k v j).cells ≡ (replica_of b v j).cells + x.cells = ap (λ (q : ReplicaKnown). q.cells) sizes in
        let below = within_at xss box.high v j (has.1).most in
        let least : least_end b v j ≤ end = omega (arith, (r.2).0, live) in
        let fewest : least_cells b v j ≤ many = omega (arith, (r.2).2, count) in
        let z : Slack = record { end = end - least_end b v j; cells = many - least_cells b v j; bare = 0 } in
        let place : IsPlace xss v j = place_below xss box.high v j (has.1).most is.high in
        let here : slack_at (set_slack xss v j z) v j ≡ z = slack_set xss v j z place in
        let none : (slack_at (set_slack xss v j z) v j).bare ≡ 0 = ap (λ (y : Slack). y.bare) here in
        let new_end : least_end b v j + (slack_at (set_slack xss v j z) v j).end ≡ end = omega (arith, ap (λ (y : Slack). y.end) here, least) in
        let new_cells : least_cells b v j + (slack_at (set_slack xss v j z) v j).cells ≡ many = omega (arith, ap (λ (y : Slack). y.cells) here, fewest) in
        let made = swap_fill (set_slack xss v j z) b v j (least_end b v j) (least_cells b v j) x (place_set xss v j z place) none in
        let swap : ℕ → ℕ → List (List Slack) → Known = λ (n : ℕ) (m : ℕ) (yss : List (List Slack)). change_volume (change_replica (fill yss b) v j (swapped n m)) v as_it_is in
        let is_filled : swap end many xss ≡ fill (set_slack xss v j z) (swapped_box box v j).base =
        sym (ap (λ (n : ℕ). swap n many xss) new_end)
        ∙ sym (ap (λ (m : ℕ). swap (least_end b v j + (slack_at (set_slack xss v j z) v j).end) m xss) new_cells)
        ∙ sym (ap (λ (yss : List (List Slack)). swap (least_end b v j + (slack_at (set_slack xss v j z) v j).end) (least_cells b v j + (slack_at (set_slack xss v j z) v j).cells)
        yss) (slack_back xss v j z place))
        ∙ ap (λ (q : Known). change_volume q v as_it_is) made
        ∙ as_fill (set_slack xss v j z) (change_replica b v j (swapped (least_end b v j) (least_cells b v j))) v in
        let from_k : change_volume (change_replica k v j (swapped end many)) v as_it_is ≡ fill (set_slack xss v j z) (swapped_box box v j).base =
        subst (λ (q : Known). change_volume (change_replica q v j (swapped end many)) v as_it_is ≡ fill (set_slack xss v j z) (swapped_box box v j).base) (sym has.2) is_filled in (
          fill (set_slack xss v j z) (swapped_box box v j).base,
          (
            set_slack xss v j z,
            record {
              least = both_set box.low xss v j no_slack z (has.1).least (record { end = omega arith; cells = omega arith; bare = omega arith });
              most = both_set xss box.high v j z (room_above box v j) (has.1).most
                  (record { end = omega (arith, (r.2).1, old_end, below.end); cells = omega (arith, (r.2).3, old_cells, below.cells); bare = omega arith });
            },
            refl,
          ),
          subst (λ (q : Known). Below q t) from_k
              (comes (change_volume (change_replica k v j (swapped end many)) v as_it_is) (with_counts k faults arms fuses)
              (change_volume (change_replica (with_counts k faults arms fuses) v j (swapped end many)) v as_it_is) t refl refl refl f a r.3),
        )
