-- Tries that refuse, over a box: the ends that are printed are those of its states.
use Rattle.std.proofs.Common.{◌≡◌, ℕ, suc, ◌+◌, ◌-◌, ◌<◌, ◌≤◌, Bool, true, false, List, [], ◌∷◌, length, Option, Some, None, refl, sym, ap, ◌∙◌, inl, arith}
use Rattle.std.specs.Prelude.{cond, map, option_map, find, slice_index_or}
use Rattle.std.specs.List.{AllByRecursion as Each, enumerate_from}
use Rattle.std.proofs.lemmas.List.{length-map}
use Rattle.hay_needle.specs.declared.settings.Settings.{Settings}
use Rattle.hay_needle.specs.Sizes.{needle_total}
use Rattle.hay_reply.specs.declared.Refused.{Refused}
use Rattle.hay_reply.specs.declared.Refused.TheVariants.{NoRoom, Closed}
use Rattle.hay_legal.specs.declared.known.ReplicaKnown.{ReplicaKnown}
use Rattle.hay_legal.specs.declared.known.Known.{Known}
use Rattle.hay_legal.specs.Known.{volume_at, empty_replica, closed, lacks_room, machine_of, refusal_by, refusal_of}
use Rattle.hay_legal.specs.Plain.{replica_of}
use Rattle.hay_audit_steps.specs.Slacks.{Slack}
use Rattle.hay_audit_steps.specs.Boxes.{Box, Has, IsFilled, slack_at}
use Rattle.hay_audit_steps.specs.Rooms.{IsWhole, all_refused_at, at_end, first_true, full_at, lowest, refused_at, rooms, with_end}
use Rattle.hay_audit_steps.proofs.Cuts.{set_within, slack_set, within_at, within_own, within_set, within_trans}
use Rattle.hay_audit_steps.specs.Places.{is_between}
use Rattle.hay_audit_steps.proofs.Divide.{Divides, IsPartOf, divides_none, divides_self, divides_then, filled_there, has_lowest, shape_set}
use Rattle.hay_audit_steps.proofs.Places.{tells_between}
use Rattle.hay_audit_steps.proofs.Rooming.{AllSame, SameRooms, closed_there, long_there, same_rooms_part}
use Rattle.hay_audit_steps.proofs.Wider.{both_set, sizes_of}

-- THE FIRST REPLICA WITHOUT ROOM

found_is : (P : ReplicaKnown → Bool) (n : ℕ) (replicas : List ReplicaKnown)
    → find (λ at. P at.1) (enumerate_from n replicas) ≡ option_map {U = ℕ × ReplicaKnown} (λ j. (n + j, slice_index_or replicas j empty_replica)) (first_true (map P replicas))
found_is P n [] = refl
found_is P n (r ∷ replicas) = by_first (P r) refl (found_is P (n + 1) replicas)
  where
    later : (o : Option ℕ) → option_map {U = ℕ × ReplicaKnown} (λ j. (n + 1 + j, slice_index_or replicas j empty_replica)) o
        ≡ option_map {U = ℕ × ReplicaKnown} (λ j. (n + j, slice_index_or (r ∷ replicas) j empty_replica)) (option_map suc o)
    later None = refl
    later (Some j) = ap (λ (i : ℕ). Some (i, slice_index_or replicas j empty_replica)) (let e : n + 1 + j ≡ n + suc j = omega arith in e)

    by_first : (b : Bool) → P r ≡ b → find (λ at. P at.1) (enumerate_from (n + 1) replicas)
        ≡ option_map {U = ℕ × ReplicaKnown} (λ j. (n + 1 + j, slice_index_or replicas j empty_replica)) (first_true (map P replicas))
        → cond (P r) (Some (n, r)) (find (λ at. P at.1) (enumerate_from (n + 1) replicas))
        ≡ option_map {U = ℕ × ReplicaKnown} (λ j. (n + j, slice_index_or (r ∷ replicas) j empty_replica)) (first_true (P r ∷ map P replicas))
    by_first true e rest =
        ap (λ (b : Bool). cond b (Some (n, r)) (find (λ at. P at.1) (enumerate_from (n + 1) replicas))) e
        ∙ ap (λ (i : ℕ). Some (i, r)) (let e' : n ≡ n + 0 = omega arith in e')
        ∙ sym (ap (λ (b : Bool). option_map {U = ℕ × ReplicaKnown} (λ j. (n + j, slice_index_or (r ∷ replicas) j empty_replica)) (first_true (b ∷ map P replicas))) e)
    by_first false e rest =
        ap (λ (b : Bool). cond b (Some (n, r)) (find (λ at. P at.1) (enumerate_from (n + 1) replicas))) e
        ∙ rest ∙ later (first_true (map P replicas))
        ∙ sym (ap (λ (b : Bool). option_map {U = ℕ × ReplicaKnown} (λ j. (n + j, slice_index_or (r ∷ replicas) j empty_replica)) (first_true (b ∷ map P replicas))) e)

-- what is told of a replica without room
abbrev told : Settings → ℕ → ℕ → Known → Option ℕ → Option Refused
told settings size v k o = option_map (λ j. NoRoom v (machine_of settings v j) (replica_of k v j).end (needle_total size)) o

told_is : (settings : Settings) (size v : ℕ) (k : Known) (o : Option ℕ)
    → option_map (λ (at : ℕ × ReplicaKnown). NoRoom v (machine_of settings v at.0) (at.1).end (needle_total size))
    (option_map {U = ℕ × ReplicaKnown} (λ j. (0 + j, slice_index_or (volume_at k v).replicas j empty_replica)) o) ≡ told settings size v k o
told_is settings size v k None = refl
told_is settings size v k (Some j) = ap (λ (i : ℕ). Some (NoRoom v (machine_of settings v i) (replica_of k v j).end (needle_total size))) (let e : 0 + j ≡ j = omega arith in e)

refusal_is : (settings : Settings) (size v : ℕ) (k : Known) → refusal_of settings k size v ≡ refusal_by v (closed settings k v) (told settings size v k (first_true (rooms settings size k v)))
refusal_is settings size v k =
    ap (λ (o : Option Refused). refusal_by v (closed settings k v) o)
    (ap (λ (o : Option (ℕ × ReplicaKnown)). option_map (λ (at : ℕ × ReplicaKnown). NoRoom v (machine_of settings v at.0) (at.1).end (needle_total size)) o)
    (found_is (lacks_room settings size) 0 (volume_at k v).replicas)
    ∙ told_is settings size v k (first_true (rooms settings size k v)))

-- so it is in each state of a box, in which the same replicas lack room
refusal_there : (settings : Settings) (size v : ℕ) (box : Box) (k : Known) → IsWhole box → SameRooms settings size v box → Has box k
    → refusal_of settings k size v ≡ refusal_by v (closed settings box.base v) (told settings size v k (first_true (rooms settings size (lowest box) v)))
refusal_there settings size v box k is same has =
    refusal_is settings size v k
    ∙ ap (λ (o : Option ℕ). refusal_by v o (told settings size v k (first_true (rooms settings size k v)))) (closed_there settings box v k has)
    ∙ ap (λ (bs : List Bool). refusal_by v (closed settings box.base v) (told settings size v k (first_true bs))) (same k (lowest box) has (has_lowest box is))

first_below : (bs : List Bool) (j : ℕ) → first_true bs ≡ Some j → j < length bs
first_below [] j e = absurd cc
first_below (true ∷ bs) j e = omega (arith, some_zero e)
  where
    some_zero : Some 0 ≡ Some j → 0 ≡ j
    some_zero g = cc
first_below (false ∷ bs) j e = by_rest (first_true bs) (first_below bs) refl e
  where
    by_rest : (o : Option ℕ) → ((i : ℕ) → first_true bs ≡ Some i → i < length bs) → first_true bs ≡ o → option_map suc o ≡ Some j → j < suc (length bs)
    by_rest None on g h = absurd cc
    by_rest (Some i) on g h = let is : suc i ≡ j = cc in omega (arith, is, on i g)

first_there : (settings : Settings) (size v : ℕ) (box : Box) (j : ℕ) → IsWhole box → first_true (rooms settings size (lowest box) v) ≡ Some j → j < length (volume_at box.base v).replicas
first_there settings size v box j is e =
    omega (arith, first_below (rooms settings size (lowest box) v) j e, length-map (volume_at (lowest box) v).replicas (lacks_room settings size), long_there box v (lowest box) (has_lowest box is))

-- ONE END

with_end_part : (box : Box) (v j n : ℕ) → IsWhole box → IsFilled box v j → (slack_at box.low v j).end ≤ n → n ≤ (slack_at box.high v j).end → IsPartOf box (with_end box v j n)
with_end_part box v j n is at low high =
    let x : Slack = record (slack_at box.low v j) { end = n } in
    let y : Slack = record (slack_at box.high v j) { end = n } in
    let lies = within_at box.low box.high v j is.some in
    record {
      base = refl;
      inside = λ k has. (
        has.0,
        record {
          least = within_trans box.low (with_end box v j n).low has.0
              (within_set box.low box.low v j x (within_own box.low) (record { end = low; cells = omega arith; bare = omega arith })) (has.1).least;
          most = within_trans has.0 (with_end box v j n).high box.high (has.1).most
              (set_within box.high box.high v j y (within_own box.high) (record { end = high; cells = omega arith; bare = omega arith }));
        },
        has.2,
      );
      whole = record {
        shaped = shape_set box.base.volumes box.low v j x is.shaped;
        some = both_set box.low box.high v j x y is.some (record { end = omega arith; cells = lies.cells; bare = lies.bare });
      };
    }

end_is : (box : Box) (v j n : ℕ) (k : Known) → IsFilled box v j → Has (with_end box v j n) k → (replica_of k v j).end ≡ (replica_of box.base v j).end + n
end_is box v j n k at has =
    let least = within_at (with_end box v j n).low has.0 v j (has.1).least in
    let most = within_at has.0 (with_end box v j n).high v j (has.1).most in
    let low : (slack_at (with_end box v j n).low v j).end ≡ n = ap (λ (x : Slack). x.end) (slack_set box.low v j (record (slack_at box.low v j) { end = n }) at.low) in
    let high : (slack_at (with_end box v j n).high v j).end ≡ n = ap (λ (x : Slack). x.end) (slack_set box.high v j (record (slack_at box.high v j) { end = n }) at.high) in
    let is : (replica_of k v j).end ≡ (replica_of box.base v j).end + (slack_at has.0 v j).end =
    ap (λ (q : Known). (replica_of q v j).end) has.2 ∙ ap (λ (r : ReplicaKnown). r.end) (sizes_of has.0 box.base v j at.volume) in
    omega (arith, least.end, most.end, low, high, is)

has_end : (box : Box) (v j n : ℕ) (k : Known) → IsFilled box v j → Has box k → (replica_of k v j).end ≡ (replica_of box.base v j).end + n → Has (with_end box v j n) k
has_end box v j n k at has e =
    let is : (replica_of k v j).end ≡ (replica_of box.base v j).end + (slack_at has.0 v j).end =
    ap (λ (q : Known). (replica_of q v j).end) has.2 ∙ ap (λ (r : ReplicaKnown). r.end) (sizes_of has.0 box.base v j at.volume) in
    let same : (slack_at has.0 v j).end ≡ n = omega (arith, is, e) in
    let least = within_at box.low has.0 v j (has.1).least in
    let most = within_at has.0 box.high v j (has.1).most in (
      has.0,
      record {
        least = set_within box.low has.0 v j (record (slack_at box.low v j) { end = n }) (has.1).least (record { end = omega (arith, same); cells = least.cells; bare = least.bare });
        most = within_set has.0 box.high v j (record (slack_at box.high v j) { end = n }) (has.1).most (record { end = omega (arith, same); cells = most.cells; bare = most.bare });
      },
      has.2,
    )

between_of : (box : Box) (v j : ℕ) (k : Known) → IsFilled box v j → Has box k
    → ((replica_of box.base v j).end + (slack_at box.low v j).end ≤ (replica_of k v j).end) × ((replica_of k v j).end ≤ (replica_of box.base v j).end + (slack_at box.high v j).end)
between_of box v j k at has =
    let is : (replica_of k v j).end ≡ (replica_of box.base v j).end + (slack_at has.0 v j).end =
    ap (λ (q : Known). (replica_of q v j).end) has.2 ∙ ap (λ (r : ReplicaKnown). r.end) (sizes_of has.0 box.base v j at.volume) in
    let least = within_at box.low has.0 v j (has.1).least in
    let most = within_at has.0 box.high v j (has.1).most in
    (omega (arith, is, least.end), omega (arith, is, most.end))

-- ONE TRY

-- the volume refuses in one way in each state of the box, or in none
abbrev pub SameRefusal : Settings → ℕ → ℕ → Box → Type 0
SameRefusal settings size v box = (k q : Known) → Has box k → Has box q → refusal_of settings k size v ≡ refusal_of settings q size v

some_refused : (a b : Refused) → Some a ≡ Some b → a ≡ b
some_refused a b e = cc

end_told : (v m end need v' m' end' need' : ℕ) → Some (NoRoom v m end need) ≡ Some (NoRoom v' m' end' need') → end ≡ end'
end_told v m end need v' m' end' need' e = cc

abbrev Refuses : Settings → ℕ → ℕ → Refused → Known → Type 0
Refuses settings size v r k = refusal_of settings k size v ≡ Some r

-- a volume whose replica j is the first without room
record IsFull (settings : Settings) (size v : ℕ) (box : Box) (j : ℕ) : Type 0 where
  whole : IsWhole box
  at : IsFilled box v j
  refuses : (k : Known) → Has box k → refusal_of settings k size v ≡ Some (NoRoom v (machine_of settings v j) (replica_of k v j).end (needle_total size))

full_of : (settings : Settings) (size v : ℕ) (box : Box) (j : ℕ) → IsWhole box → SameRooms settings size v box → closed settings box.base v ≡ None
    → first_true (rooms settings size (lowest box) v) ≡ Some j
    → IsFull settings size v box j
full_of settings size v box j is same opens e = record {
  whole = is;
  at = filled_there box v j is (first_there settings size v box j is e);
  refuses = λ k has.
      refusal_there settings size v box k is same has
      ∙ ap (λ (c : Option ℕ). refusal_by v c (told settings size v k (first_true (rooms settings size (lowest box) v)))) opens
      ∙ ap (λ (o : Option ℕ). told settings size v k o) e;
}

end_divides : (settings : Settings) (size v : ℕ) (box : Box) (j v' m' end need : ℕ) → IsFull settings size v box j
    → Divides box (Refuses settings size v (NoRoom v' m' end need)) (at_end box v j end) (SameRefusal settings size v)
end_divides settings size v box j v' m' end need full =
    by_test (is_between ((replica_of box.base v j).end + (slack_at box.low v j).end) end ((replica_of box.base v j).end + (slack_at box.high v j).end)) refl
  where
    end_of : (k : Known) → Has box k → Refuses settings size v (NoRoom v' m' end need) k → (replica_of k v j).end ≡ end
    end_of k has so = end_told v (machine_of settings v j) (replica_of k v j).end (needle_total size) v' m' end need (sym (full.refuses k has) ∙ so)

    by_test : (test : Bool) → is_between ((replica_of box.base v j).end + (slack_at box.low v j).end) end ((replica_of box.base v j).end + (slack_at box.high v j).end) ≡ test
        → Divides box (Refuses settings size v (NoRoom v' m' end need)) (cond test (with_end box v j (end - (replica_of box.base v j).end) ∷ []) []) (SameRefusal settings size v)
    by_test true e =
        let within = (tells_between ((replica_of box.base v j).end + (slack_at box.low v j).end) end ((replica_of box.base v j).end + (slack_at box.high v j).end)).0 e in
        let n : ℕ = end - (replica_of box.base v j).end in
        let part = with_end_part box v j (end - (replica_of box.base v j).end) full.whole full.at (omega (arith, within.0)) (omega (arith, within.1)) in
        record {
          each = (
            (
              part,
              λ k q has also.
                  full.refuses k (part.inside k has)
                  ∙ ap (λ (x : ℕ). Some (NoRoom v (machine_of settings v j) x (needle_total size)))
                  (end_is box v j (end - (replica_of box.base v j).end) k full.at has ∙ sym (end_is box v j (end - (replica_of box.base v j).end) q full.at also))
                  ∙ sym (full.refuses q (part.inside q also)),
            ),
            tt,
          );
          all = λ k has so. inl (has_end box v j (end - (replica_of box.base v j).end) k full.at has (let is = end_of k has so in omega (arith, is, within.0)));
        }
    by_test false e =
        divides_none box (Refuses settings size v (NoRoom v' m' end need)) (SameRefusal settings size v)
        (λ k has so.
        let within = between_of box v j k full.at has in
        let is = end_of k has so in
        let lie : false ≡ true =
        sym e ∙ (tells_between ((replica_of box.base v j).end + (slack_at box.low v j).end) end ((replica_of box.base v j).end + (slack_at box.high v j).end)).1
        (omega (arith, within.0, is), omega (arith, within.1, is)) in
        absurd cc)

full_divides : (settings : Settings) (size v : ℕ) (box : Box) (v' m' end need : ℕ) → IsWhole box → SameRooms settings size v box → closed settings box.base v ≡ None
    → (o : Option ℕ) → first_true (rooms settings size (lowest box) v) ≡ o → Divides box (Refuses settings size v (NoRoom v' m' end need)) (full_at box v end o) (SameRefusal settings size v)
full_divides settings size v box v' m' end need is same opens None e =
    divides_none box (Refuses settings size v (NoRoom v' m' end need)) (SameRefusal settings size v)
    (λ k has so.
    let none : None ≡ Some (NoRoom v' m' end need) =
    sym (refusal_there settings size v box k is same has ∙ ap (λ (c : Option ℕ). refusal_by v c (told settings size v k (first_true (rooms settings size (lowest box) v)))) opens
    ∙ ap (λ (o : Option ℕ). told settings size v k o) e) ∙ so in
    absurd cc)
full_divides settings size v box v' m' end need is same opens (Some j) e = end_divides settings size v box j v' m' end need (full_of settings size v box j is same opens e)

not_closed : (settings : Settings) (size v : ℕ) (k : Known) (o : Option ℕ) (v' m' : ℕ) → told settings size v k o ≡ Some (Closed v' m') → ⊥
not_closed settings size v k None v' m' e = absurd cc
not_closed settings size v k (Some j) v' m' e = absurd cc

pub refused_divides : (settings : Settings) (size v : ℕ) (box : Box) (r : Refused) → IsWhole box → SameRooms settings size v box → (o : Option ℕ) → closed settings box.base v ≡ o
    → Divides box (Refuses settings size v r) (refused_at settings size box v o r) (SameRefusal settings size v)
refused_divides settings size v box (NoRoom v' m' end need) is same None e =
    full_divides settings size v box v' m' end need is same e (first_true (rooms settings size (lowest box) v)) refl
refused_divides settings size v box (Closed v' m') is same None e =
    divides_none box (Refuses settings size v (Closed v' m')) (SameRefusal settings size v)
    (λ k has so. not_closed settings size v k (first_true (rooms settings size (lowest box) v)) v' m'
    (sym (refusal_there settings size v box k is same has ∙ ap (λ (c : Option ℕ). refusal_by v c (told settings size v k (first_true (rooms settings size (lowest box) v)))) e) ∙ so))
refused_divides settings size v box (NoRoom v' m' end need) is same (Some m) e =
    divides_none box (Refuses settings size v (NoRoom v' m' end need)) (SameRefusal settings size v)
    (λ k has so.
    let lie : Some (Closed v m) ≡ Some (NoRoom v' m' end need) =
    sym (refusal_there settings size v box k is same has ∙ ap (λ (c : Option ℕ). refusal_by v c (told settings size v k (first_true (rooms settings size (lowest box) v)))) e) ∙ so in
    absurd cc)
refused_divides settings size v box (Closed v' m') is same (Some m) e =
    divides_self box (Refuses settings size v (Closed v' m')) (SameRefusal settings size v) is (λ k q has also. closes k has ∙ sym (closes q also))
  where
    closes : (k : Known) → Has box k → refusal_of settings k size v ≡ Some (Closed v m)
    closes k has = refusal_there settings size v box k is same has ∙ ap (λ (c : Option ℕ). refusal_by v c (told settings size v k (first_true (rooms settings size (lowest box) v)))) e

-- ALL TRIES

abbrev pub AllRefuse : Settings → ℕ → List ℕ → List Refused → Known → Type 0
AllRefuse settings size tries refused k = map (refusal_of settings k size) tries ≡ map Some refused

abbrev pub SameRefusals : Settings → ℕ → List ℕ → Box → Type 0
SameRefusals settings size tries box = Each (λ v. SameRefusal settings size v box) tries

all_same_part : (settings : Settings) (size : ℕ) (tries : List ℕ) (d e : Box) → IsPartOf d e → AllSame settings size tries d → AllSame settings size tries e
all_same_part settings size [] d e part h = tt
all_same_part settings size (v ∷ tries) d e part h = (same_rooms_part settings size v d e part h.0, all_same_part settings size tries d e part h.1)

head_same : (a b : Option Refused) (xs ys : List (Option Refused)) → a ∷ xs ≡ b ∷ ys → a ≡ b
head_same a b xs ys e = cc

tail_same : (a b : Option Refused) (xs ys : List (Option Refused)) → a ∷ xs ≡ b ∷ ys → xs ≡ ys
tail_same a b xs ys e = cc

divides_less : (box : Box) (Covered Less : Known → Type 0) (parts : List Box) (Q : Box → Type 0) → ((k : Known) → Less k → Covered k) → Divides box Covered parts Q → Divides box Less parts Q
divides_less box Covered Less parts Q less h = record { each = h.each; all = λ k has covered. h.all k has (less k covered) }

pub all_refused_divide : (settings : Settings) (size : ℕ) (tries : List ℕ) (refused : List Refused) (box : Box) → IsWhole box → AllSame settings size tries box
    → Divides box (AllRefuse settings size tries refused) (all_refused_at settings size tries refused box) (SameRefusals settings size tries)
all_refused_divide settings size [] [] box is same = divides_self box (AllRefuse settings size [] []) (SameRefusals settings size []) is tt
all_refused_divide settings size [] (r ∷ refused) box is same =
    divides_none box (AllRefuse settings size [] (r ∷ refused)) (SameRefusals settings size []) (λ k has lie. absurd cc)
all_refused_divide settings size (v ∷ tries) [] box is same =
    divides_none box (AllRefuse settings size (v ∷ tries) []) (SameRefusals settings size (v ∷ tries)) (λ k has lie. absurd cc)
all_refused_divide settings size (v ∷ tries) (r ∷ refused) box is same =
    divides_then box (Refuses settings size v r) (AllRefuse settings size (v ∷ tries) (r ∷ refused)) (refused_at settings size box v (closed settings box.base v) r)
    (all_refused_at settings size tries refused)
    (SameRefusal settings size v) (SameRefusals settings size tries) (SameRefusals settings size (v ∷ tries))
    (refused_divides settings size v box r is same.0 (closed settings box.base v) refl)
    (λ k h. head_same (refusal_of settings k size v) (Some r) (map (refusal_of settings k size) tries) (map Some refused) h)
    (λ d part one. divides_less d (AllRefuse settings size tries refused) (AllRefuse settings size (v ∷ tries) (r ∷ refused)) (all_refused_at settings size tries refused d)
    (SameRefusals settings size tries)
    (λ k h. tail_same (refusal_of settings k size v) (Some r) (map (refusal_of settings k size) tries) (map Some refused) h)
    (all_refused_divide settings size tries refused d part.whole (all_same_part settings size tries box d part same.1)))
    (λ d e part one rest. ((λ k q has also. one k q (part.inside k has) (part.inside q also)), rest))

-- the refusals are those of the lowest sizes
pub refusals_there : (settings : Settings) (size : ℕ) (tries : List ℕ) (box : Box) (k : Known) → IsWhole box → SameRefusals settings size tries box → Has box k
    → map (refusal_of settings k size) tries ≡ map (refusal_of settings (lowest box) size) tries
refusals_there settings size [] box k is same has = refl
refusals_there settings size (v ∷ tries) box k is same has =
    ap (λ (o : Option Refused). o ∷ map (refusal_of settings k size) tries) (same.0 k (lowest box) has (has_lowest box is))
    ∙ ap (λ (os : List (Option Refused)). refusal_of settings (lowest box) size v ∷ os) (refusals_there settings size tries box k is same.1 has)
