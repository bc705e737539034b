-- A replica with a new file.
use Rattle.std.proofs.Common.{◌≡◌, ℕ, ◌+◌, ◌-◌, ◌==◌, ◌&&◌, Bool, true, false, cond, List, [], ◌∷◌, refl, ap, sym, ◌∙◌}
use Rattle.hay_legal.specs.declared.known.VolumeKnown.{VolumeKnown}
use Rattle.hay_legal.specs.Known.{empty_volume}
use Rattle.hay_legal.specs.Plain.{change_replica, replica_of}
use Rattle.hay_legal.specs.Plain as plain
use Rattle.hay_audit_steps.specs.BoxNext.{finished_boxes, has_sizes, least_cells, least_end, may_finish, most_cells, most_end, room_above, swapped_box}
use Rattle.hay_audit_steps.specs.Boxes.{Box, set_slack}
use Rattle.hay_audit_steps.specs.Next.{is_open, names}
use Rattle.hay_audit_steps.specs.Slacks.{Slack, no_slack}
use Rattle.hay_audit.specs.declared.replicas.Change.TheVariants.{Swapped}
use Rattle.hay_audit.specs.Ranging.{fits_file, is_finish, with_range}
use Rattle.hay_audit.specs.Replicas.{changed}
use Rattle.hay_audit.proofs.Lists.{set_same}

-- its generation is the next one
pub swap_is : (box : Box) (v j end cells generation : ℕ) (low high : Slack) → generation ≡ (replica_of box.base v j).generation + 1
    → with_range box v j (changed (Swapped end cells generation)) low high ≡ with_range box v j (plain.swapped end cells) low high
swap_is box v j end cells generation low high next = ap (λ (n : ℕ). with_range box v j (changed (Swapped end cells n)) low high) next

-- all else of the volume stays
pub finish_is : (box : Box) (v j : ℕ) → with_range box v j (plain.swapped (least_end box.base v j) (least_cells box.base v j)) no_slack (room_above box v j) ≡ swapped_box box v j
finish_is box v j =
    ap (λ (volumes : List VolumeKnown). record {
      base = record (change_replica box.base v j (plain.swapped (least_end box.base v j) (least_cells box.base v j))) { volumes = volumes };
      low = set_slack box.low v j no_slack;
      high = set_slack box.high v j (room_above box v j);
    }) (sym (set_same (change_replica box.base v j (plain.swapped (least_end box.base v j) (least_cells box.base v j))).volumes v empty_volume))

and_last : (a b d e f : Bool) → a && (b && (d && e)) ≡ true → f ≡ true → a && (b && (d && (e && f))) ≡ true
and_last true true true true f h g = g
and_last true true true false f h g = absurd cc
and_last true true false e f h g = absurd cc
and_last true false d e f h g = absurd cc
and_last false b d e f h g = absurd cc

and_none : (a b d e f : Bool) → a && (b && (d && e)) ≡ false → a && (b && (d && (e && f))) ≡ false
and_none true true true true f h = absurd cc
and_none true true true false f h = refl
and_none true true false e f h = refl
and_none true false d e f h = refl
and_none false b d e f h = refl

and_lost : (a b d e f : Bool) → f ≡ false → a && (b && (d && (e && f))) ≡ false
and_lost true true true true f h = h
and_lost true true true false f h = refl
and_lost true true false e f h = refl
and_lost true false d e f h = refl
and_lost false b d e f h = refl

pub no_finish : (box : Box) (v m j v' m' g : ℕ) (finish : Bool) → finish ≡ is_finish box.base v m j v' m' g → finish ≡ false → [] ≡ finished_boxes box v m j v' m' g
no_finish box v m j v' m' g finish is not_so =
    sym (ap (λ (b : Bool). cond b (swapped_box box v j ∷ []) [])
    (and_none (names v m v' m') (is_open box.base v) (may_finish box.base v j) (g == (replica_of box.base v j).generation + 1) (has_sizes box v j) (sym is ∙ not_so)))

fits_is : (box : Box) (v j end cells most many : ℕ) → end ≡ least_end box.base v j → cells ≡ least_cells box.base v j → most ≡ most_end box v j → many ≡ most_cells box v j
    → fits_file end cells most many ≡ has_sizes box v j
fits_is box v j end cells most many a b d e =
    ap (λ (n : ℕ). fits_file n cells most many) a ∙ ap (λ (n : ℕ). fits_file (least_end box.base v j) n most many) b
    ∙ ap (λ (n : ℕ). fits_file (least_end box.base v j) (least_cells box.base v j) n many) d ∙ ap (λ (n : ℕ). fits_file (least_end box.base v j) (least_cells box.base v j) (most_end box v j) n) e

pub no_file : (box : Box) (v m j v' m' g end cells most many : ℕ) (fits : Bool) → end ≡ least_end box.base v j → cells ≡ least_cells box.base v j → most ≡ most_end box v j → many ≡ most_cells box v j
    → fits ≡ fits_file end cells most many → fits ≡ false → [] ≡ finished_boxes box v m j v' m' g
no_file box v m j v' m' g end cells most many fits a b d e is not_so =
    sym (ap (λ (t : Bool). cond t (swapped_box box v j ∷ []) [])
    (and_lost (names v m v' m') (is_open box.base v) (may_finish box.base v j) (g == (replica_of box.base v j).generation + 1) (has_sizes box v j)
    (sym (fits_is box v j end cells most many a b d e) ∙ sym is ∙ not_so)))

pub finish_made : (box : Box) (v m j v' m' g end last cells most many : ℕ) (finish fits : Bool) (low : Slack) (made : List Box) → finish ≡ is_finish box.base v m j v' m' g → finish ≡ true
    → end ≡ least_end box.base v j → cells ≡ least_cells box.base v j → most ≡ most_end box v j → many ≡ most_cells box v j → fits ≡ fits_file end cells most many → fits ≡ true
    → last ≡ end → low ≡ no_slack
    → made ≡ with_range box v j (plain.swapped last cells) low (record { end = most - last; cells = many - cells; bare = 0 }) ∷ [] → made ≡ finished_boxes box v m j v' m' g
finish_made box v m j v' m' g end last cells most many finish fits low made is yes_so a b d e fits_so fit same none made_is =
    made_is
    ∙ ap (λ (s : Slack). with_range box v j (plain.swapped last cells) s (record { end = most - last; cells = many - cells; bare = 0 }) ∷ []) none
    ∙ ap (λ (n : ℕ). with_range box v j (plain.swapped n cells) no_slack (record { end = most - n; cells = many - cells; bare = 0 }) ∷ []) (same ∙ a)
    ∙ ap (λ (n : ℕ). with_range box v j (plain.swapped (least_end box.base v j) n) no_slack (record { end = most - least_end box.base v j; cells = many - n; bare = 0 }) ∷ []) b
    ∙ ap (λ (n : ℕ). with_range box v j (plain.swapped (least_end box.base v j) (least_cells box.base v j)) no_slack
    (record { end = n - least_end box.base v j; cells = many - least_cells box.base v j; bare = 0 }) ∷ []) d
    ∙ ap (λ (n : ℕ). with_range box v j (plain.swapped (least_end box.base v j) (least_cells box.base v j)) no_slack
    (record { end = most_end box v j - least_end box.base v j; cells = n - least_cells box.base v j; bare = 0 }) ∷ []) e
    ∙ ap (λ (x : Box). x ∷ []) (finish_is box v j)
    ∙ sym (ap (λ (t : Bool). cond t (swapped_box box v j ∷ []) [])
    (and_last (names v m v' m') (is_open box.base v) (may_finish box.base v j) (g == (replica_of box.base v j).generation + 1) (has_sizes box v j) (sym is ∙ yes_so)
    (sym (fits_is box v j end cells most many a b d e) ∙ sym fits_so ∙ fit)))
