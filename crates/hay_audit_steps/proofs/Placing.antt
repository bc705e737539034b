-- A step that changes one replica of a box, replica by replica.
use Rattle.std.proofs.Common.{◌≡◌, ℕ, zero, suc, ◌<◌, Bool, List, [], ◌∷◌, length, refl, sym, ap, subst, ◌∙◌, inl, inr, arith}
use Rattle.std.specs.Prelude.{cond, map, slice_index_or, slice_set}
use Rattle.std.specs.Bool.{Decides}
use Rattle.std.specs.List.{AllByRecursion as Each}
use Rattle.hay_legal.specs.declared.known.ReplicaKnown.{ReplicaKnown}
use Rattle.hay_legal.specs.declared.known.VolumeKnown.{VolumeKnown}
use Rattle.hay_legal.specs.declared.known.Known.{Known}
use Rattle.hay_legal.specs.Known.{Leaves, NoneFalls, volume_at}
use Rattle.hay_legal.specs.Plain.{change_replica, replica_of}
use Rattle.hay_audit_steps.specs.CheckerSteps.{Below, AnyOf, with_counts}
use Rattle.hay_audit_steps.specs.Slacks.{Lies, Slack, fill_replica}
use Rattle.hay_audit_steps.specs.Boxes.{Box, Has, IsBoxStep, IsFilled, IsPlace, fill, fill_replicas, fill_volume, fill_volumes, set_slack, slack_at}
use Rattle.hay_audit_steps.specs.Parts.{Part, In}
use Rattle.hay_audit_steps.specs.Places.{part_at, with_part}
use Rattle.hay_audit_steps.proofs.Cuts.{within_at, slack_set}
use Rattle.hay_audit_steps.proofs.Finishes.{box_tested}
use Rattle.hay_audit_steps.proofs.Lifting.{volume_fill}
use Rattle.hay_audit_steps.proofs.Rows.{comes}
use Rattle.hay_audit_steps.proofs.Wider.{both_set, free_high, free_low, place_below, place_set, sizes_of, slack_back}

-- a replica that is put is filled by what is set there
replicas_put : (xs : List Slack) (replicas : List ReplicaKnown) (j : ℕ) (y : Slack) (r : ReplicaKnown) → j < length xs
    → slice_set (fill_replicas xs replicas) j (fill_replica y r) ≡ fill_replicas (slice_set xs j y) (slice_set replicas j r)
replicas_put [] replicas j y r h = absurd (omega (arith, h))
replicas_put (x ∷ xs) [] zero y r h = refl
replicas_put (x ∷ xs) [] (suc j) y r h = refl
replicas_put (x ∷ xs) (s ∷ replicas) zero y r h = refl
replicas_put (x ∷ xs) (s ∷ replicas) (suc j) y r h = ap (λ (rs : List ReplicaKnown). fill_replica x s ∷ rs) (replicas_put xs replicas j y r (omega (arith, h)))

volumes_put : (xss : List (List Slack)) (volumes : List VolumeKnown) (v : ℕ) (ys : List Slack) (w : VolumeKnown) → v < length xss
    → slice_set (fill_volumes xss volumes) v (fill_volume ys w) ≡ fill_volumes (slice_set xss v ys) (slice_set volumes v w)
volumes_put [] volumes v ys w h = absurd (omega (arith, h))
volumes_put (xs ∷ xss) [] zero ys w h = refl
volumes_put (xs ∷ xss) [] (suc v) ys w h = refl
volumes_put (xs ∷ xss) (u ∷ volumes) zero ys w h = refl
volumes_put (xs ∷ xss) (u ∷ volumes) (suc v) ys w h = ap (λ (vs : List VolumeKnown). fill_volume xs u ∷ vs) (volumes_put xss volumes v ys w (omega (arith, h)))

-- k with this replica there
abbrev pub put_there : Known → ℕ → ℕ → ReplicaKnown → Known
put_there k v j r = change_replica k v j (λ old. r)

pub put_fill : (xss : List (List Slack)) (b : Known) (v j : ℕ) (y : Slack) (r : ReplicaKnown) → IsPlace xss v j
    → put_there (fill xss b) v j (fill_replica y r) ≡ fill (set_slack xss v j y) (put_there b v j r)
put_fill xss b v j y r place =
    let xs : List Slack = slice_index_or xss v [] in
    ap (λ (volume : VolumeKnown). record b { volumes = slice_set (fill_volumes xss b.volumes) v (record volume { replicas = slice_set volume.replicas j (fill_replica y r) }) }) (volume_fill xss b v)
    ∙ ap (λ (rs : List ReplicaKnown). record b { volumes = slice_set (fill_volumes xss b.volumes) v (record (volume_at b v) { replicas = rs }) })
    (replicas_put xs (volume_at b v).replicas j y r place.1)
    ∙ ap (λ (vs : List VolumeKnown). record b { volumes = vs })
    (volumes_put xss b.volumes v (slice_set xs j y) (record (volume_at b v) { replicas = slice_set (volume_at b v).replicas j r }) place.0)

-- a replica of the box at its place
pub in_there : (box : Box) (v j : ℕ) (k : Known) → IsFilled box v j → Has box k → In (part_at box v j) (replica_of k v j)
in_there box v j k is has = record {
  slack = slack_at has.0 v j;
  least = within_at box.low has.0 v j (has.1).least;
  most = within_at has.0 box.high v j (has.1).most;
  is = ap (λ (q : Known). replica_of q v j) has.2 ∙ sizes_of has.0 box.base v j is.volume;
}

-- a state of the box with another replica there comes of one with whatever replica of the box was there
record Comes (box : Box) (v j : ℕ) (part : Part) (t : Known) : Type 0 where
  new : ReplicaKnown
  within : In part new
  from : (old : ReplicaKnown) → In (part_at box v j) old → (k : Known) × Has box k × (replica_of k v j ≡ old) × (t ≡ put_there k v j new)

comes_of : (box : Box) (v j : ℕ) (part : Part) (t : Known) → IsFilled box v j → Has (with_part box v j part) t → Comes box v j part t
comes_of box v j part t is has =
    let xss : List (List Slack) = has.0 in
    let x : Slack = slack_at xss v j in
    let place : IsPlace xss v j = place_below xss (with_part box v j part).high v j (has.1).most (place_set box.high v j part.high is.high) in
    let least : Lies part.low x = subst (λ (y : Slack). Lies y x) (slack_set box.low v j part.low is.low) (within_at (with_part box v j part).low xss v j (has.1).least) in
    let most : Lies x part.high = subst (λ (y : Slack). Lies x y) (slack_set box.high v j part.high is.high) (within_at xss (with_part box v j part).high v j (has.1).most) in
    record {
      new = fill_replica x part.base;
      within = record { slack = x; least = least; most = most; is = refl };
      from = λ old h.
          let y : Slack = h.slack in
          let k : Known = fill (set_slack xss v j y) box.base in (
            k,
            (
              set_slack xss v j y,
              record { least = free_low box.low xss v j part.low y (has.1).least h.least; most = free_high xss box.high v j y part.high (has.1).most h.most },
              refl,
            ),
            sizes_of (set_slack xss v j y) box.base v j is.volume ∙ ap (λ (z : Slack). fill_replica z (replica_of box.base v j)) (slack_set xss v j y place) ∙ sym h.is,
            has.2
                ∙ ap (λ (yss : List (List Slack)). fill yss (put_there box.base v j part.base)) (sym (slack_back xss v j y place))
                ∙ sym (put_fill (set_slack xss v j y) box.base v j x part.base (place_set xss v j y place)),
          );
    }

pub has_put : (box : Box) (v j : ℕ) (part : Part) (k : Known) (new : ReplicaKnown) → IsFilled box v j → Has box k → In part new → Has (with_part box v j part) (put_there k v j new)
has_put box v j part k new is has h =
    let xss : List (List Slack) = has.0 in
    let place : IsPlace xss v j = place_below xss box.high v j (has.1).most is.high in (
      set_slack xss v j h.slack,
      record { least = both_set box.low xss v j part.low h.slack (has.1).least h.least; most = both_set xss box.high v j h.slack part.high (has.1).most h.most },
      ap (λ (r : ReplicaKnown). put_there k v j r) h.is ∙ ap (λ (q : Known). put_there q v j (fill_replica h.slack part.base)) has.2 ∙ put_fill xss box.base v j h.slack part.base place,
    )

-- The row needs something that sizes are no part of, and changes the replica so.
pub record IsPlaceRow (row : Known → Known → Type 0) (box : Box) (v j : ℕ) (Needs : Type 0) (P : ReplicaKnown → ReplicaKnown → Type 0) : Type 0 where
  pub made : (k : Known) (new : ReplicaKnown) → Has box k → Needs → P (replica_of k v j) new → row k (put_there k v j new)
  pub back : (k : Known) (faults arms fuses : List ℕ) (t : Known) → Has box k → row (with_counts k faults arms fuses) t
      → Needs × (new : ReplicaKnown) × P (replica_of k v j) new × Leaves (with_counts k faults arms fuses) (put_there (with_counts k faults arms fuses) v j new) t

-- The parts are those that such a change leaves.
pub record ArePartsBehind (part : Part) (P : ReplicaKnown → ReplicaKnown → Type 0) (parts : List Part) : Type 0 where
  pub sound : Each (λ next. (new : ReplicaKnown) → In next new → (old : ReplicaKnown) × In part old × P old new) parts
  pub complete : (old new : ReplicaKnown) → In part old → P old new → AnyOf (λ next. In next new) parts

pub place_step : (row : Known → Known → Type 0) (box : Box) (v j : ℕ) (Needs : Type 0) (P : ReplicaKnown → ReplicaKnown → Type 0) (parts : List Part) (test : Bool)
    → IsFilled box v j → Decides test Needs → IsPlaceRow row box v j Needs P → ArePartsBehind (part_at box v j) P parts
    → IsBoxStep row box (cond test (map (with_part box v j) parts) [])
place_step row box v j Needs P parts test is decides changes behind =
    box_tested row box (map (with_part box v j) parts) Needs test decides
    (λ needs. record {
      sound = each_sound needs parts behind.sound;
      complete = λ k faults arms fuses t has f a r.
          let b = changes.back k faults arms fuses t has r in
          any_part k faults arms fuses t has f a b.1 b.3 parts (behind.complete (replica_of k v j) b.1 (in_there box v j k is has) b.2);
    })
    (λ k faults arms fuses t has r. (changes.back k faults arms fuses t has r).0)
  where
    each_sound : Needs → (ps : List Part) → Each (λ next. (new : ReplicaKnown) → In next new → (old : ReplicaKnown) × In (part_at box v j) old × P old new) ps
        → Each (λ d. (t : Known) → Has d t → (k : Known) × Has box k × row k t) (map (with_part box v j) ps)
    each_sound needs [] h = tt
    each_sound needs (p ∷ ps) h = (
      (λ t has.
          let new = comes_of box v j p t is has in
          let old = h.0 new.new new.within in
          let from = new.from old.0 old.1 in (
            from.0,
            from.1,
            subst (λ (u : Known). row from.0 u) (sym from.3) (changes.made from.0 new.new from.1 needs (subst (λ (r : ReplicaKnown). P r new.new) (sym from.2) old.2)),
          )),
      each_sound needs ps h.1,
    )

    any_part : (k : Known) (faults arms fuses : List ℕ) (t : Known) → Has box k → NoneFalls k.faults faults → NoneFalls k.arms arms
        → (new : ReplicaKnown) → Leaves (with_counts k faults arms fuses) (put_there (with_counts k faults arms fuses) v j new) t → (ps : List Part) → AnyOf (λ next. In next new) ps
        → AnyOf (λ d. (e : Known) × Has d e × Below e t) (map (with_part box v j) ps)
    any_part k faults arms fuses t has f a new leaves [] h = absurd h
    any_part k faults arms fuses t has f a new leaves (p ∷ ps) h = elim h [
      | inl here ↦ inl (
        put_there k v j new,
        has_put box v j p k new is has here,
        comes (put_there k v j new) (with_counts k faults arms fuses) (put_there (with_counts k faults arms fuses) v j new) t refl refl refl f a leaves,
      )
      | inr there ↦ inr (any_part k faults arms fuses t has f a new leaves ps there)
    ]
