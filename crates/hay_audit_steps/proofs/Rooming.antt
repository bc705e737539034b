-- A box that is cut by what has room, so that one volume takes a photo whatever the sizes are.
use Rattle.std.proofs.Common.{◌≡◌, ℕ, zero, suc, ◌+◌, ◌-◌, ◌<◌, ◌≤◌, Bool, true, false, List, [], ◌∷◌, ◌++◌, length, Option, refl, sym, ap, subst, ◌∙◌, inl, inr, arith}
use Rattle.std.specs.Prelude.{cond, not, ◌&&◌, ◌||◌, map, max, min, nat_lt, is_none, slice_index_or}
use Rattle.std.specs.List.{AllByRecursion as Each, list_any, range_with_len}
use Rattle.std.proofs.lemmas.Bool.Decides.{Decides-ltb}
use Rattle.hay_needle.specs.declared.needle.Pair.{Pair}
use Rattle.hay_needle.specs.declared.settings.Settings.{Settings}
use Rattle.hay_legal.specs.declared.known.ReplicaKnown.{ReplicaKnown}
use Rattle.hay_legal.specs.declared.known.VolumeKnown.{VolumeKnown}
use Rattle.hay_legal.specs.declared.known.Known.{Known}
use Rattle.hay_legal.specs.Known.{volume_at, empty_replica, closed, lacks_room, taker_of, tries_of}
use Rattle.hay_legal.specs.Plain.{replica_of}
use Rattle.hay_legal.proofs.Subject.Entries.{each_in_range}
use Rattle.hay_audit_steps.specs.BoxNext.{takes}
use Rattle.hay_audit_steps.specs.CheckerSteps.{AnyOf}
use Rattle.hay_audit_steps.specs.Slacks.{Slack}
use Rattle.hay_audit_steps.specs.Boxes.{Box, Has, IsCut, IsFilled, above, fill, fill_replicas, slack_at, up_to}
use Rattle.hay_audit_steps.specs.Next.{is_least}
use Rattle.hay_audit_steps.specs.Rooms.{IsWhole, cut_at, least_need, lowest, replicas_at, room_cut, rooms, try_cuts, volume_cuts, where_end}
use Rattle.hay_audit_steps.proofs.Cuts.{cut_end, sides_of_cuts, set_within, slack_set, within_at, within_set}
use Rattle.hay_audit_steps.proofs.Divide.{Divides, IsPartOf, divides_self, divides_then, filled_there, has_lowest, shape_set}
use Rattle.hay_audit_steps.proofs.Fills.{closed_fill}
use Rattle.hay_audit_steps.proofs.Laying.{any_left, any_right}
use Rattle.hay_audit_steps.proofs.Lifting.{volume_fill}
use Rattle.hay_audit_steps.proofs.Places.{tells_least}
use Rattle.hay_audit_steps.proofs.Rooms.{rooms_are_decided, taker_decided}
use Rattle.hay_audit_steps.proofs.Wider.{sizes_of}

-- ONE REPLICA

-- this replica has room, or lacks it, in each state of the box
abbrev Decided : Settings → ℕ → ℕ → ℕ → Box → Type 0
Decided settings size v j box = (lacks : Bool) × ((k : Known) → Has box k → lacks_room settings size (replica_of k v j) ≡ lacks)

decided_part : (settings : Settings) (size v j : ℕ) (d e : Box) → IsPartOf d e → Decided settings size v j d → Decided settings size v j e
decided_part settings size v j d e part h = (h.0, λ k has. h.1 k (part.inside k has))

any_where : (d : Box) (v j : ℕ) (k : Known) → Has d k → AnyOf (λ e. Has e k) (where_end v j d)
any_where d v j k has = by_test (is_least (slack_at d.low v j).end (slack_at d.high v j).end) refl
  where
    by_test : (test : Bool) → is_least (slack_at d.low v j).end (slack_at d.high v j).end ≡ test → AnyOf (λ e. Has e k) (cond test (d ∷ []) [])
    by_test true e = inl has
    by_test false e =
        let least = within_at d.low has.0 v j (has.1).least in
        let most = within_at has.0 d.high v j (has.1).most in
        let lie : false ≡ true = sym e ∙ (tells_least (slack_at d.low v j).end (slack_at d.high v j).end).1 (omega (arith, least.end, most.end)) in absurd cc

up_whole : (box : Box) (v j most : ℕ) → IsWhole box → IsFilled box v j → (slack_at (up_to box v j most).low v j).end ≤ (slack_at (up_to box v j most).high v j).end → IsWhole (up_to box v j most)
up_whole box v j most is at ends =
    let y : Slack = record (slack_at box.high v j) { end = min (slack_at box.high v j).end most } in
    let here : slack_at (up_to box v j most).high v j ≡ record (slack_at box.high v j) { end = min (slack_at box.high v j).end most } = slack_set box.high v j y at.high in
    let lies = within_at box.low box.high v j is.some in
    record {
      shaped = is.shaped;
      some = within_set box.low box.high v j y is.some (record { end = omega (arith, ends, ap (λ (x : Slack). x.end) here); cells = lies.cells; bare = lies.bare });
    }

above_whole : (box : Box) (v j most : ℕ) → IsWhole box → IsFilled box v j → (slack_at (above box v j most).low v j).end ≤ (slack_at (above box v j most).high v j).end → IsWhole (above box v j most)
above_whole box v j most is at ends =
    let x : Slack = record (slack_at box.low v j) { end = max (slack_at box.low v j).end (most + 1) } in
    let here : slack_at (above box v j most).low v j ≡ record (slack_at box.low v j) { end = max (slack_at box.low v j).end (most + 1) } = slack_set box.low v j x at.low in
    let lies = within_at box.low box.high v j is.some in
    record {
      shaped = shape_set box.base.volumes box.low v j x is.shaped;
      some = set_within box.low box.high v j x is.some (record { end = omega (arith, ends, ap (λ (y : Slack). y.end) here); cells = lies.cells; bare = lies.bare });
    }

abbrev Always : Known → Type 0
Always k = Unit {0}

cut_decided : (settings : Settings) (size v j : ℕ) (box : Box) → IsWhole box → IsFilled box v j → least_need size v j box ≤ settings.capacity
    → Divides box Always (cut_at v j (settings.capacity - least_need size v j box) box) (Decided settings size v j)
cut_decided settings size v j box is at fits = record {
  each = each_two;
  all = λ k has covered. elim (cut.whole k has) [
    | inl low ↦ any_left (λ e. Has e k) (where_end v j (up_to box v j most)) (where_end v j (above box v j most)) (any_where (up_to box v j most) v j k low)
    | inr more ↦ elim more [
      | inl high ↦ any_right (λ e. Has e k) (where_end v j (up_to box v j most)) (where_end v j (above box v j most)) (any_where (above box v j most) v j k high)
      | inr lie ↦ absurd lie
    ]
  ];
}
  where
    most : ℕ
    most = settings.capacity - least_need size v j box

    cut : IsCut box (up_to box v j (settings.capacity - least_need size v j box) ∷ above box v j (settings.capacity - least_need size v j box) ∷ [])
    cut = cut_end box v j (settings.capacity - least_need size v j box)

    low_side : (k : Known) → Has (up_to box v j (settings.capacity - least_need size v j box)) k → lacks_room settings size (replica_of k v j) ≡ false
    low_side k has =
        let below = (sides_of_cuts box v j (settings.capacity - least_need size v j box) has.0 (at.low, at.high)).0 has.1 in
        ap (λ (q : Known). lacks_room settings size (replica_of q v j)) has.2
        ∙ ap (λ (r : ReplicaKnown). lacks_room settings size r) (sizes_of has.0 box.base v j at.volume)
        ∙ (rooms_are_decided settings size (replica_of box.base v j) (slack_at has.0 v j)).1 (omega (arith, below, fits))

    high_side : (k : Known) → Has (above box v j (settings.capacity - least_need size v j box)) k → lacks_room settings size (replica_of k v j) ≡ true
    high_side k has =
        let more = (sides_of_cuts box v j (settings.capacity - least_need size v j box) has.0 (at.low, at.high)).1 has.1 in
        ap (λ (q : Known). lacks_room settings size (replica_of q v j)) has.2
        ∙ ap (λ (r : ReplicaKnown). lacks_room settings size r) (sizes_of has.0 box.base v j at.volume)
        ∙ (rooms_are_decided settings size (replica_of box.base v j) (slack_at has.0 v j)).0 (omega (arith, more, fits))

    each_low : (others : List Box) → Each (λ d. IsPartOf box d × Decided settings size v j d) others
        → Each (λ d. IsPartOf box d × Decided settings size v j d) (where_end v j (up_to box v j (settings.capacity - least_need size v j box)) ++ others)
    each_low others h =
        by_test (is_least (slack_at (up_to box v j (settings.capacity - least_need size v j box)).low v j).end
        (slack_at (up_to box v j (settings.capacity - least_need size v j box)).high v j).end) refl
      where
        by_test : (test : Bool) → is_least (slack_at (up_to box v j (settings.capacity - least_need size v j box)).low v j).end
            (slack_at (up_to box v j (settings.capacity - least_need size v j box)).high v j).end ≡ test
            → Each (λ d. IsPartOf box d × Decided settings size v j d) (cond test (up_to box v j (settings.capacity - least_need size v j box) ∷ []) [] ++ others)
        by_test true e = (
          (
            record { base = refl; inside = (cut.inside).0; whole = up_whole box v j (settings.capacity - least_need size v j box) is at ((tells_least _ _).0 e) },
            (false, low_side),
          ),
          h,
        )
        by_test false e = h

    each_high : Each (λ d. IsPartOf box d × Decided settings size v j d) (where_end v j (above box v j (settings.capacity - least_need size v j box)))
    each_high =
        by_test (is_least (slack_at (above box v j (settings.capacity - least_need size v j box)).low v j).end
        (slack_at (above box v j (settings.capacity - least_need size v j box)).high v j).end) refl
      where
        by_test : (test : Bool) → is_least (slack_at (above box v j (settings.capacity - least_need size v j box)).low v j).end
            (slack_at (above box v j (settings.capacity - least_need size v j box)).high v j).end ≡ test
            → Each (λ d. IsPartOf box d × Decided settings size v j d) (cond test (above box v j (settings.capacity - least_need size v j box) ∷ []) [])
        by_test true e = (
          (
            record { base = refl; inside = (cut.inside).1.0; whole = above_whole box v j (settings.capacity - least_need size v j box) is at ((tells_least _ _).0 e) },
            (true, high_side),
          ),
          tt,
        )
        by_test false e = tt

    each_two : Each (λ d. IsPartOf box d × Decided settings size v j d) (cut_at v j (settings.capacity - least_need size v j box) box)
    each_two = each_low (where_end v j (above box v j (settings.capacity - least_need size v j box))) each_high

room_cut_decides : (settings : Settings) (size v j : ℕ) (box : Box) → IsWhole box → IsFilled box v j → Divides box Always (room_cut settings size v j box) (Decided settings size v j)
room_cut_decides settings size v j box is at = by_test (nat_lt settings.capacity (least_need size v j box)) refl
  where
    by_test : (test : Bool) → nat_lt settings.capacity (least_need size v j box) ≡ test
        → Divides box Always (cond test (box ∷ []) (cut_at v j (settings.capacity - least_need size v j box) box)) (Decided settings size v j)
    by_test true e = divides_self box Always (Decided settings size v j) is (
      true,
      λ k has.
          let full : settings.capacity < least_need size v j box = (Decides-ltb settings.capacity (least_need size v j box)).0 e in
          ap (λ (q : Known). lacks_room settings size (replica_of q v j)) has.2
          ∙ ap (λ (r : ReplicaKnown). lacks_room settings size r) (sizes_of has.0 box.base v j at.volume)
          ∙ (rooms_are_decided settings size (replica_of box.base v j) (slack_at has.0 v j)).0 (omega (arith, full)),
    )
    by_test false e =
        let fits : least_need size v j box ≤ settings.capacity = not_less settings.capacity (least_need size v j box) e in
        cut_decided settings size v j box is at fits
      where
        not_less : (a b : ℕ) → nat_lt a b ≡ false → b ≤ a
        not_less a b h = grind (arith, Decides-ltb a b, h)

-- ALL REPLICAS OF A VOLUME

abbrev AllDecided : Settings → ℕ → ℕ → List ℕ → Box → Type 0
AllDecided settings size v js box = Each (λ j. Decided settings size v j box) js

all_part : (settings : Settings) (size v : ℕ) (js : List ℕ) (d e : Box) → IsPartOf d e → AllDecided settings size v js d → AllDecided settings size v js e
all_part settings size v [] d e part h = tt
all_part settings size v (j ∷ js) d e part h = (decided_part settings size v j d e part h.0, all_part settings size v js d e part h.1)

volume_cuts_decide : (settings : Settings) (size v : ℕ) (js : List ℕ) (box : Box) → IsWhole box → Each (λ j. j < length (volume_at box.base v).replicas) js
    → Divides box Always (volume_cuts settings size v js box) (AllDecided settings size v js)
volume_cuts_decide settings size v [] box is there = divides_self box Always (AllDecided settings size v []) is tt
volume_cuts_decide settings size v (j ∷ js) box is there =
    divides_then box Always Always (room_cut settings size v j box) (volume_cuts settings size v js) (Decided settings size v j) (AllDecided settings size v js) (AllDecided settings size v (j ∷ js))
    (room_cut_decides settings size v j box is (filled_there box v j is there.0)) (λ k h. h)
    (λ d part one. volume_cuts_decide settings size v js d part.whole (subst (λ (b : Known). Each (λ i. i < length (volume_at b v).replicas) js) (sym part.base) there.1))
    (λ d e part one rest. (decided_part settings size v j d e part one, rest))

-- the same replicas lack room in each state of the box
abbrev pub SameRooms : Settings → ℕ → ℕ → Box → Type 0
SameRooms settings size v box = (k q : Known) → Has box k → Has box q → rooms settings size k v ≡ rooms settings size q v

pub same_rooms_part : (settings : Settings) (size v : ℕ) (d e : Box) → IsPartOf d e → SameRooms settings size v d → SameRooms settings size v e
same_rooms_part settings size v d e part h k q has also = h k q (part.inside k has) (part.inside q also)

map_same : (f : ReplicaKnown → Bool) (xs ys : List ReplicaKnown) → length xs ≡ length ys
    → ((j : ℕ) → j < length xs → f (slice_index_or xs j empty_replica) ≡ f (slice_index_or ys j empty_replica)) → map f xs ≡ map f ys
map_same f [] [] e h = refl
map_same f [] (y ∷ ys) e h = absurd (omega (arith, e))
map_same f (x ∷ xs) [] e h = absurd (omega (arith, e))
map_same f (x ∷ xs) (y ∷ ys) e h =
    ap (λ (b : Bool). b ∷ map f xs) (h 0 (omega arith)) ∙ ap (λ (bs : List Bool). f y ∷ bs) (map_same f xs ys (omega (arith, e)) (λ j within. h (suc j) (omega (arith, within))))

pub long_fill : (xs : List Slack) (replicas : List ReplicaKnown) → length (fill_replicas xs replicas) ≡ length replicas
long_fill [] replicas = refl
long_fill (x ∷ xs) [] = refl
long_fill (x ∷ xs) (r ∷ replicas) = ap suc (long_fill xs replicas)

-- a state of the box has as many replicas of the volume
pub long_there : (box : Box) (v : ℕ) (k : Known) → Has box k → length (volume_at k v).replicas ≡ length (volume_at box.base v).replicas
long_there box v k has =
    ap (λ (q : Known). length (volume_at q v).replicas) has.2 ∙ ap (λ (w : VolumeKnown). length w.replicas) (volume_fill has.0 box.base v)
    ∙ long_fill (slice_index_or has.0 v []) (volume_at box.base v).replicas

each_below : (n a m : ℕ) → a + m ≤ n → Each (λ j. j < n) (range_with_len a m)
each_below n a zero h = tt
each_below n a (suc m) h = (omega (arith, h), each_below n (a + 1) m (omega (arith, h)))

rooms_same : (settings : Settings) (size v : ℕ) (box : Box) → AllDecided settings size v (replicas_at box v) box → SameRooms settings size v box
rooms_same settings size v box all k q has also =
    map_same (lacks_room settings size) (volume_at k v).replicas (volume_at q v).replicas (long_there box v k has ∙ sym (long_there box v q also))
    (λ j within.
    let one = each_in_range (λ i. Decided settings size v i box) 0 (length (volume_at box.base v).replicas) j all (omega arith) (omega (arith, within, long_there box v k has)) in
    one.1 k has ∙ sym (one.1 q also))

volume_decides : (settings : Settings) (size v : ℕ) (box : Box) → IsWhole box → Divides box Always (volume_cuts settings size v (replicas_at box v) box) (SameRooms settings size v)
volume_decides settings size v box is =
    let cuts = volume_cuts_decide settings size v (replicas_at box v) box is (each_below (length (volume_at box.base v).replicas) 0 (length (volume_at box.base v).replicas) (omega arith)) in
    record { each = same_each (volume_cuts settings size v (replicas_at box v) box) cuts.each; all = cuts.all }
  where
    same_each : (ds : List Box) → Each (λ d. IsPartOf box d × AllDecided settings size v (replicas_at box v) d) ds → Each (λ d. IsPartOf box d × SameRooms settings size v d) ds
    same_each [] h = tt
    same_each (d ∷ ds) h = (
      (
        (h.0).0,
        rooms_same settings size v d (subst (λ (b : Known). AllDecided settings size v (range_with_len 0 (length (volume_at b v).replicas)) d) (sym ((h.0).0).base) (h.0).1),
      ),
      same_each ds h.1,
    )

-- ALL TRIES

abbrev pub AllSame : Settings → ℕ → List ℕ → Box → Type 0
AllSame settings size tries box = Each (λ v. SameRooms settings size v box) tries

pub try_cuts_divide : (settings : Settings) (size : ℕ) (tries : List ℕ) (box : Box) → IsWhole box → Divides box (λ k. Unit {0}) (try_cuts settings size tries box) (AllSame settings size tries)
try_cuts_divide settings size [] box is = divides_self box Always (AllSame settings size []) is tt
try_cuts_divide settings size (v ∷ tries) box is =
    divides_then box Always Always (volume_cuts settings size v (replicas_at box v) box) (try_cuts settings size tries) (SameRooms settings size v) (AllSame settings size tries)
    (AllSame settings size (v ∷ tries))
    (volume_decides settings size v box is) (λ k h. h)
    (λ d part one. try_cuts_divide settings size tries d part.whole)
    (λ d e part one rest. (same_rooms_part settings size v d e part one, rest))

-- WHO TAKES IT

any_rooms : (settings : Settings) (size : ℕ) (replicas : List ReplicaKnown) → list_any (lacks_room settings size) replicas ≡ list_any (λ b. b) (map (lacks_room settings size) replicas)
any_rooms settings size [] = refl
any_rooms settings size (r ∷ replicas) = ap (λ (b : Bool). lacks_room settings size r || b) (any_rooms settings size replicas)

pub closed_there : (settings : Settings) (box : Box) (v : ℕ) (k : Known) → Has box k → closed settings k v ≡ closed settings box.base v
closed_there settings box v k has = ap (λ (q : Known). closed settings q v) has.2 ∙ closed_fill has.0 settings box.base v

takes_same : (settings : Settings) (size v : ℕ) (box : Box) (k q : Known) → SameRooms settings size v box → Has box k → Has box q → takes settings k size v ≡ takes settings q size v
takes_same settings size v box k q same has also =
    ap (λ (o : Option ℕ). is_none o && not (list_any (lacks_room settings size) (volume_at k v).replicas)) (closed_there settings box v k has ∙ sym (closed_there settings box v q also))
    ∙ ap (λ (b : Bool). is_none (closed settings q v) && not b)
    (any_rooms settings size (volume_at k v).replicas ∙ ap (λ (bs : List Bool). list_any (λ b. b) bs) (same k q has also) ∙ sym (any_rooms settings size (volume_at q v).replicas))

all_take_same : (settings : Settings) (size : ℕ) (tries : List ℕ) (box : Box) (k q : Known) → AllSame settings size tries box → Has box k → Has box q
    → Each (λ v. takes settings k size v ≡ takes settings q size v) tries
all_take_same settings size [] box k q same has also = tt
all_take_same settings size (v ∷ tries) box k q same has also = (takes_same settings size v box k q same.0 has also, all_take_same settings size tries box k q same.1 has also)

-- the taker is that of the lowest sizes
pub taker_there : (settings : Settings) (pair : Pair) (size : ℕ) (box : Box) (xss : List (List Slack)) → IsWhole box → AllSame settings size (tries_of settings box.base pair) box
    → Has box (fill xss box.base)
    → taker_of settings (fill xss box.base) pair size ≡ taker_of settings (lowest box) pair size
taker_there settings pair size box xss is same has =
    taker_decided settings box pair size (takes settings (lowest box) size) xss (all_take_same settings size (tries_of settings box.base pair) box (fill xss box.base) (lowest box)
    same has (has_lowest box is))
    ∙ sym (taker_decided settings box pair size (takes settings (lowest box) size) box.low
    (all_take_same settings size (tries_of settings box.base pair) box (lowest box) (lowest box) same (has_lowest box is) (has_lowest box is)))
