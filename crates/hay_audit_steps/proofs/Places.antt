-- Lines that change the sizes of one replica, over a box.
use Rattle.std.proofs.Common.{◌≡◌, ℕ, ◌+◌, ◌-◌, ◌<◌, ◌≤◌, Bool, true, false, List, [], ◌∷◌, length, Option, Some, None, refl, sym, ap, subst, ◌∙◌, ◌⊎◌, inl, inr, arith, zero, suc}
use Rattle.std.specs.Prelude.{cond, ◌&&◌, ◌==◌, min, nat_lt, option_map, slice_index_or, slice_set}
use Rattle.std.specs.Bool.{Decides}
use Rattle.std.proofs.lemmas.Bool.{cases_Bool}
use Rattle.std.proofs.lemmas.Bool.Decides.{Decides-eqb, Decides-and, Decides-like, Decides-ltb}
use Rattle.hay_needle.specs.Tables.{Table, live_end}
use Rattle.hay_needle.specs.declared.settings.Settings.{Settings}
use Rattle.hay_needle.specs.declared.settings.TheConstants.{LAST_GENERATION}
use Rattle.hay_reply.specs.declared.Reply.TheVariants as reply
use Rattle.hay_legal.specs.declared.known.Run.{Run}
use Rattle.hay_legal.specs.declared.known.ReplicaKnown.{ReplicaKnown}
use Rattle.hay_legal.specs.declared.known.VolumeKnown.{VolumeKnown}
use Rattle.hay_legal.specs.declared.known.Known.{Known}
use Rattle.hay_legal.specs.Known.{Leaves, volume_at}
use Rattle.hay_legal.specs.Plain.{LegalCompact, LegalFlush, LegalStep, OnReplica, as_it_is, change_replica, change_volume, replica_of, stepped, swapped, with_bare, with_run}
use Rattle.hay_audit_steps.specs.BoxLaw.{CompactsStepBoxes, FlushesStepBoxes, StepsStepBoxes}
use Rattle.hay_audit_steps.specs.BoxNext.{least_cells, least_end}
use Rattle.hay_audit_steps.specs.Boxes.{Box, IsBoxStep, IsFilled, slack_at}
use Rattle.hay_audit_steps.specs.Next.{is_least, is_open, is_resting, names}
use Rattle.hay_audit_steps.specs.Parts.{Part, In}
use Rattle.hay_audit_steps.specs.Places.{compacted_boxes, copied_all, copied_some, flushed_boxes, flushed_part, flushed_parts, is_between, more_cells, part_at, stepped_boxes}
use Rattle.hay_audit_steps.specs.Places.{stepped_parts, tight_part}
use Rattle.hay_audit_steps.specs.Slacks.{Lies, Slack, fill_replica, fill_run}
use Rattle.hay_audit_steps.proofs.Cuts.{within_at}
use Rattle.hay_audit_steps.proofs.Finishes.{IsLike, is_like}
use Rattle.hay_audit_steps.proofs.Lifting.{same_replica}
use Rattle.hay_audit_steps.proofs.Others.{tells_names, tells_resting}
use Rattle.hay_audit_steps.proofs.Placing.{ArePartsBehind, place_step, put_there}
use Rattle.hay_audit_steps.proofs.Rows.{stays}
use Rattle.hay_audit_steps.proofs.Tests.{tells_none, tells_unset}

pub tells_least : (n f : ℕ) → Decides (is_least n f) (n ≤ f)
tells_least n f = Decides-like _ (λ h. omega (arith, h)) (λ h. omega (arith, h)) (Decides-ltb n (f + 1))

pub tells_between : (low n high : ℕ) → Decides (is_between low n high) ((low ≤ n) × (n ≤ high))
tells_between low n high = Decides-and (is_least low n) (is_least n high) (tells_least low n) (tells_least n high)

-- PARTS BEHIND A TEST

one_behind : (part next : Part) (P : ReplicaKnown → ReplicaKnown → Type 0) → ((new : ReplicaKnown) → In next new → (old : ReplicaKnown) × In part old × P old new)
    → ((old new : ReplicaKnown) → In part old → P old new → In next new) → ArePartsBehind part P (next ∷ [])
one_behind part next P from to = record { sound = (from, tt); complete = λ old new h p. inl (to old new h p) }

none_behind : (part : Part) (P : ReplicaKnown → ReplicaKnown → Type 0) → ((old new : ReplicaKnown) → In part old → P old new → ⊥) → ArePartsBehind part P []
none_behind part P lie = record { sound = tt; complete = λ old new h p. absurd (lie old new h p) }

behind_where : (part : Part) (P : ReplicaKnown → ReplicaKnown → Type 0) (parts : List Part) (test : Bool) (Q : Type 0) → Decides test Q
    → (Q → ArePartsBehind part P parts) → ((old new : ReplicaKnown) → In part old → P old new → Q) → ArePartsBehind part P (cond test parts [])
behind_where part P parts true Q decides made forced = made (decides.0 refl)
behind_where part P parts false Q decides made forced = none_behind part P (λ old new h p. let none : false ≡ true = decides.1 (forced old new h p) in absurd cc)

behind_either : (part : Part) (P : ReplicaKnown → ReplicaKnown → Type 0) (these those : List Part) (test : Bool)
    → (test ≡ true → ArePartsBehind part P these) → (test ≡ false → ArePartsBehind part P those) → ArePartsBehind part P (cond test these those)
behind_either part P these those true h g = h refl
behind_either part P these those false h g = g refl

-- A FLUSH

abbrev Flushes : ℕ → ReplicaKnown → ReplicaKnown → Type 0
Flushes n old new = (n ≡ old.bare) × (new ≡ with_bare 0 old)

flush_behind : (part : Part) (n : ℕ) → ArePartsBehind part (Flushes n) (flushed_parts part n)
flush_behind part n =
    behind_where part (Flushes n) (flushed_part part ∷ []) _ _ (tells_between (part.base.bare + part.low.bare) n (part.base.bare + part.high.bare))
    (λ between. one_behind part (flushed_part part) (Flushes n)
    (λ new h.
    let x : Slack = h.slack in
    let y : Slack = record x { bare = n - part.base.bare } in
    let none : 0 + x.bare ≡ 0 = omega (arith, (h.most).bare) in (
      fill_replica y part.base,
      record {
        slack = y;
        least = record { end = (h.least).end; cells = (h.least).cells; bare = omega (arith, between.0) };
        most = record { end = (h.most).end; cells = (h.most).cells; bare = omega (arith, between.1) };
        is = refl;
      },
      (omega (arith, between.0), h.is ∙ ap (λ (bare : ℕ). record (fill_replica y part.base) { bare = bare }) none),
    ))
    (λ old new h p. record {
      slack = record (h.slack) { bare = 0 };
      least = record { end = (h.least).end; cells = (h.least).cells; bare = omega arith };
      most = record { end = (h.most).end; cells = (h.most).cells; bare = omega arith };
      is = p.1 ∙ ap (λ (r : ReplicaKnown). with_bare 0 r) h.is;
    }))
    (λ old new h p.
    let bare : n ≡ part.base.bare + (h.slack).bare = p.0 ∙ ap (λ (r : ReplicaKnown). r.bare) h.is in
    (omega (arith, bare, (h.least).bare), omega (arith, bare, (h.most).bare)))

flush_step : (settings : Settings) (box : Box) (v m j v' m' n : ℕ) → IsFilled box v j
    → IsBoxStep (λ k t. LegalFlush settings k v m j (reply.Flushed v' m' n) t) box (flushed_boxes box v m j v' m' n)
flush_step settings box v m j v' m' n is =
    place_step (λ k t. LegalFlush settings k v m j (reply.Flushed v' m' n) t) box v j _ (Flushes n) (flushed_parts (part_at box v j) n) _ is
    (Decides-and (names v m v' m') _ (tells_names v m v' m')
    (Decides-and (is_open box.base v) _ (tells_none (volume_at box.base v).frozen) (tells_unset (replica_of box.base v j).stuck)))
    (record {
      made = λ k new has needs p.
          let like = is_like has.0 box.base k v j is.volume has.2 in (
            needs.0,
            like.frozen ∙ needs.1.0,
            ap (λ (r : ReplicaKnown). r.stuck) like.replica ∙ needs.1.1,
            p.0,
            subst (λ (r : ReplicaKnown). Leaves k (change_replica k v j (with_bare 0)) (put_there k v j r)) (sym p.1) (stays k (change_replica k v j (with_bare 0)) refl refl),
          );
      back = λ k faults arms fuses t has r.
          let like = is_like has.0 box.base k v j is.volume has.2 in (
            (r.0, (sym like.frozen ∙ r.1, sym (ap (λ (q : ReplicaKnown). q.stuck) like.replica) ∙ r.2)),
            with_bare 0 (replica_of k v j),
            (r.3, refl),
            r.4,
          );
    })
    (flush_behind (part_at box v j) n)

pub flushes_step_boxes : FlushesStepBoxes
flushes_step_boxes settings box line v m j v' m' n on is =
    subst (λ (o : Option ℕ). IsBoxStep (λ k t. OnReplica k o (LegalFlush settings k v m) (reply.Flushed v' m' n) t) box (flushed_boxes box v m j v' m' n)) (sym on)
    (flush_step settings box v m j v' m' n is)

-- A STEP

abbrev Copies : ℕ → ℕ → ReplicaKnown → ReplicaKnown → Type 0
Copies cells n old new = (run : Run) × (old.run ≡ Some run) × (n ≡ min cells run.left) × (new ≡ with_run (stepped n run) old)

same_run : (a c : Run) → Some a ≡ Some c → a ≡ c
same_run a c e = cc

-- the run that stands at a replica of a part
run_of : (part : Part) (q run : Run) (old : ReplicaKnown) (h : In part old) → part.base.run ≡ Some q → old.run ≡ Some run → fill_run (h.slack).cells q ≡ run
run_of part q run old h e g =
    same_run (fill_run (h.slack).cells q) run
    (sym (ap (λ (o : Option Run). option_map (fill_run (h.slack).cells) o) e) ∙ sym (ap (λ (r : ReplicaKnown). r.run) h.is) ∙ g)

all_behind : (part : Part) (q : Run) (cells n : ℕ) → part.base.run ≡ Some q → n < cells
    → ArePartsBehind part (Copies cells n) (cond (is_least q.left n && is_between part.low.cells (n - q.left) part.high.cells) (copied_all part q n ∷ []) [])
all_behind part q cells n e less =
    behind_where part (Copies cells n) (copied_all part q n ∷ []) _ _
    (Decides-and (is_least q.left n) _ (tells_least q.left n) (tells_between part.low.cells (n - q.left) part.high.cells))
    (λ within. one_behind part (copied_all part q n) (Copies cells n)
    (λ new h.
    let x : Slack = h.slack in
    let y : Slack = record x { cells = n - q.left } in
    let run : Run = fill_run (n - q.left) q in
    let left : run.left ≡ n = omega (arith, within.0) in
    let none : x.cells ≡ 0 = omega (arith, (h.most).cells) in (
      fill_replica y part.base,
      record {
        slack = y;
        least = record { end = (h.least).end; cells = within.1.0; bare = (h.least).bare };
        most = record { end = (h.most).end; cells = within.1.1; bare = (h.most).bare };
        is = refl;
      },
      (
        fill_run (n - q.left) q,
        ap (λ (o : Option Run). option_map (fill_run (n - q.left)) o) e,
        grind (arith, left, less),
        h.is ∙ same_replica part.base (part.base.end + x.end) (part.base.end + x.end) (part.base.cells + (n - q.left) + x.cells) (part.base.cells + (n - q.left))
            (part.base.bare + x.bare) (part.base.bare + x.bare)
            (Some (record q { left = 0 + x.cells })) (Some (stepped n (fill_run (n - q.left) q)))
            refl (omega (arith, none)) refl (ap (λ (l : ℕ). Some (record q { left = l })) (omega (arith, none, within.0))),
      ),
    ))
    (λ old new h p.
    let x : Slack = h.slack in
    let run = run_of part q p.0 old h e p.1 in
    let left : q.left + x.cells ≡ (p.0).left = ap (λ (r : Run). r.left) run in
    let all : n ≡ q.left + x.cells = grind (arith, left, p.2, less) in
    record {
      slack = record x { cells = 0 };
      least = record { end = (h.least).end; cells = omega arith; bare = (h.least).bare };
      most = record { end = (h.most).end; cells = omega arith; bare = (h.most).bare };
      is = p.3
          ∙ sym (ap (λ (r : Run). with_run (stepped n r) old) run)
          ∙ ap (λ (r : ReplicaKnown). with_run (stepped n (fill_run x.cells q)) r) h.is
          ∙ same_replica part.base (part.base.end + x.end) (part.base.end + x.end) (part.base.cells + x.cells) (part.base.cells + (n - q.left) + 0) (part.base.bare + x.bare) (part.base.bare + x.bare)
          (Some (stepped n (fill_run x.cells q))) (Some (record q { left = 0 + 0 }))
          refl (omega (arith, all)) refl (ap (λ (l : ℕ). Some (record q { left = l })) (omega (arith, all)));
    }))
    (λ old new h p.
    let x : Slack = h.slack in
    let left : q.left + x.cells ≡ (p.0).left = ap (λ (r : Run). r.left) (run_of part q p.0 old h e p.1) in
    let all : n ≡ q.left + x.cells = grind (arith, left, p.2, less) in
    (omega (arith, all), (omega (arith, all, (h.least).cells), omega (arith, all, (h.most).cells))))

some_behind : (part : Part) (q : Run) (cells n : ℕ) → part.base.run ≡ Some q → cells ≤ n
    → ArePartsBehind part (Copies cells n) (cond ((n == cells) && is_least (more_cells part q n) part.high.cells) (copied_some part q n ∷ []) [])
some_behind part q cells n e enough =
    behind_where part (Copies cells n) (copied_some part q n ∷ []) _ _
    (Decides-and (n == cells) _ (Decides-eqb n cells) (tells_least (more_cells part q n) part.high.cells))
    (λ within. one_behind part (copied_some part q n) (Copies cells n)
    (λ new h.
    let x : Slack = h.slack in
    let more : ℕ = more_cells part q n in
    let y : Slack = record x { cells = more_cells part q n + x.cells } in
    let low : part.low.cells ≤ more_cells part q n = omega arith in
    let far : n ≤ q.left + more_cells part q n = omega arith in (
      fill_replica y part.base,
      record {
        slack = y;
        least = record { end = (h.least).end; cells = omega (arith, low); bare = (h.least).bare };
        most = record { end = (h.most).end; cells = omega (arith, (h.most).cells, within.1); bare = (h.most).bare };
        is = refl;
      },
      (
        fill_run (more_cells part q n + x.cells) q,
        ap (λ (o : Option Run). option_map (fill_run (more_cells part q n + x.cells)) o) e,
        least_of cells n (q.left + (more_cells part q n + x.cells)) within.0 (omega (arith, far)),
        h.is ∙ same_replica part.base (part.base.end + x.end) (part.base.end + x.end) (part.base.cells + more_cells part q n + x.cells)
            (part.base.cells + (more_cells part q n + x.cells)) (part.base.bare + x.bare) (part.base.bare + x.bare)
            (Some (record q { left = q.left + more_cells part q n - n + x.cells })) (Some (stepped n (fill_run (more_cells part q n + x.cells) q)))
            refl (omega arith) refl (ap (λ (l : ℕ). Some (record q { left = l })) (omega (arith, far))),
      ),
    ))
    (λ old new h p.
    let x : Slack = h.slack in
    let run = run_of part q p.0 old h e p.1 in
    let left : q.left + x.cells ≡ (p.0).left = ap (λ (r : Run). r.left) run in
    let no_more : n ≤ q.left + x.cells = grind (arith, left, p.2) in
    let fits : more_cells part q n ≤ x.cells = omega (arith, no_more, (h.least).cells) in
    record {
      slack = record x { cells = x.cells - more_cells part q n };
      least = record { end = (h.least).end; cells = omega arith; bare = (h.least).bare };
      most = record { end = (h.most).end; cells = omega (arith, (h.most).cells); bare = (h.most).bare };
      is = p.3
          ∙ sym (ap (λ (r : Run). with_run (stepped n r) old) run)
          ∙ ap (λ (r : ReplicaKnown). with_run (stepped n (fill_run x.cells q)) r) h.is
          ∙ same_replica part.base (part.base.end + x.end) (part.base.end + x.end) (part.base.cells + x.cells)
          (part.base.cells + more_cells part q n + (x.cells - more_cells part q n)) (part.base.bare + x.bare) (part.base.bare + x.bare)
          (Some (stepped n (fill_run x.cells q))) (Some (record q { left = q.left + more_cells part q n - n + (x.cells - more_cells part q n) }))
          refl (omega (arith, fits)) refl (ap (λ (l : ℕ). Some (record q { left = l })) (omega (arith, fits)));
    }))
    (λ old new h p.
    let x : Slack = h.slack in
    let left : q.left + x.cells ≡ (p.0).left = ap (λ (r : Run). r.left) (run_of part q p.0 old h e p.1) in
    let no_more : n ≤ q.left + x.cells = grind (arith, left, p.2) in
    let fits : more_cells part q n ≤ x.cells = omega (arith, no_more, (h.least).cells) in
    (grind (arith, p.2, enough), omega (arith, fits, (h.most).cells)))
  where
    least_of : (cells n left : ℕ) → n ≡ cells → n ≤ left → n ≡ min cells left
    least_of cells n left e h = grind (arith, e, h)

steps_behind : (part : Part) (o : Option Run) (cells n : ℕ) → part.base.run ≡ o → ArePartsBehind part (Copies cells n) (stepped_parts part o cells n)
steps_behind part None cells n e =
    none_behind part (Copies cells n) (λ old new h p.
    let none : None ≡ Some p.0 = sym (ap (λ (o : Option Run). option_map (fill_run (h.slack).cells) o) e) ∙ sym (ap (λ (r : ReplicaKnown). r.run) h.is) ∙ p.1 in absurd cc)
steps_behind part (Some q) cells n e =
    behind_either part (Copies cells n) _ _ (nat_lt n cells)
    (λ less. all_behind part q cells n e ((Decides-ltb n cells).0 less))
    (λ more. some_behind part q cells n e (not_less n cells more))
  where
    not_less : (a b : ℕ) → nat_lt a b ≡ false → b ≤ a
    not_less a b h = by_order (cases_Bool (nat_lt a b))
      where
        by_order : (nat_lt a b ≡ true) ⊎ (nat_lt a b ≡ false) → b ≤ a
        by_order (inl lie) = absurd (let no : true ≡ false = sym lie ∙ h in cc)
        by_order (inr is) = grind (arith, Decides-ltb a b, is)

step_step : (settings : Settings) (box : Box) (v m j cells v' m' n : ℕ) → IsFilled box v j
    → IsBoxStep (λ k t. LegalStep settings k v m j cells (reply.Stepped v' m' n) t) box (stepped_boxes box v m j cells v' m' n)
step_step settings box v m j cells v' m' n is =
    place_step (λ k t. LegalStep settings k v m j cells (reply.Stepped v' m' n) t) box v j _ (Copies cells n) (stepped_parts (part_at box v j) (replica_of box.base v j).run cells n) _ is
    (Decides-and (names v m v' m') _ (tells_names v m v' m') (tells_none (volume_at box.base v).frozen))
    (record {
      made = λ k new has needs p.
          let like = is_like has.0 box.base k v j is.volume has.2 in (
            needs.0,
            like.frozen ∙ needs.1,
            (
              p.0,
              p.1,
              p.2,
              subst (λ (r : ReplicaKnown). Leaves k (change_replica k v j (with_run (stepped n p.0))) (put_there k v j r)) (sym p.3)
                  (stays k (change_replica k v j (with_run (stepped n p.0))) refl refl),
            ),
          );
      back = λ k faults arms fuses t has r.
          let like = is_like has.0 box.base k v j is.volume has.2 in (
            (r.0, sym like.frozen ∙ r.1),
            with_run (stepped n (r.2).0) (replica_of k v j),
            ((r.2).0, (r.2).1, (r.2).2, refl),
            (r.2).3,
          );
    })
    (steps_behind (part_at box v j) (replica_of box.base v j).run cells n refl)

pub steps_step_boxes : StepsStepBoxes
steps_step_boxes settings box line v m j cells v' m' n on is =
    subst (λ (o : Option ℕ). IsBoxStep (λ k t. OnReplica k o (λ i. LegalStep settings k v m i cells) (reply.Stepped v' m' n) t) box (stepped_boxes box v m j cells v' m' n)) (sym on)
    (step_step settings box v m j cells v' m' n is)

-- A COMPACTION IN ONE COMMAND

abbrev Tightens : ℕ → ℕ → ReplicaKnown → ReplicaKnown → Type 0
Tightens end cells old new = new ≡ swapped end cells old

tight_behind : (box : Box) (v j : ℕ) → IsFilled box v j
    → ArePartsBehind (part_at box v j) (Tightens (least_end box.base v j) (least_cells box.base v j)) (tight_part box v j ∷ [])
tight_behind box v j is =
    one_behind (part_at box v j) (tight_part box v j) (Tightens (least_end box.base v j) (least_cells box.base v j))
    (λ new h. (
      fill_replica (slack_at box.low v j) base,
      record { slack = slack_at box.low v j; least = record { end = omega arith; cells = omega arith; bare = omega arith }; most = within_at box.low box.high v j is.some; is = refl },
      h.is ∙ exact h.slack h.most,
    ))
    (λ old new h p. record {
      slack = record { end = 0; cells = 0; bare = 0 };
      least = record { end = omega arith; cells = omega arith; bare = omega arith };
      most = record { end = omega arith; cells = omega arith; bare = omega arith };
      is = p ∙ ap (λ (r : ReplicaKnown). swapped (least_end box.base v j) (least_cells box.base v j) r) h.is
          ∙ sym (exact (record { end = 0; cells = 0; bare = 0 }) (record { end = omega arith; cells = omega arith; bare = omega arith }));
    })
  where
    base : ReplicaKnown
    base = replica_of box.base v j

    tight : ReplicaKnown
    tight = swapped (least_end box.base v j) (least_cells box.base v j) (replica_of box.base v j)

    exact : (x : Slack) → Lies x (record { end = 0; cells = 0; bare = 0 }) → fill_replica x (swapped (least_end box.base v j) (least_cells box.base v j) (replica_of box.base v j))
        ≡ swapped (least_end box.base v j) (least_cells box.base v j) (replica_of box.base v j)
    exact x none =
        same_replica (swapped (least_end box.base v j) (least_cells box.base v j) (replica_of box.base v j)) (least_end box.base v j + x.end) (least_end box.base v j)
        (least_cells box.base v j + x.cells) (least_cells box.base v j) (0 + x.bare) 0 None None
        (omega (arith, none.end)) (omega (arith, none.cells)) (omega (arith, none.bare)) refl

set_own : {X : Type 0} (xs : List X) (i : ℕ) (d : X) → slice_set xs i (slice_index_or xs i d) ≡ xs
set_own [] i d = refl
set_own (x ∷ xs) zero d = refl
set_own (x ∷ xs) (suc i) d = ap (λ (ys : List _). x ∷ ys) (set_own xs i d)

as_is : (k : Known) (v : ℕ) → change_volume k v as_it_is ≡ k
as_is k v = ap (λ (volumes : List VolumeKnown). record k { volumes = volumes }) (set_own k.volumes v _)

compact_step : (settings : Settings) (box : Box) (v m j v' m' g : ℕ) → IsFilled box v j
    → IsBoxStep (λ k t. LegalCompact settings k v m j (reply.Compacted v' m' g) t) box (compacted_boxes box v m j v' m' g)
compact_step settings box v m j v' m' g is =
    place_step (λ k t. LegalCompact settings k v m j (reply.Compacted v' m' g) t) box v j _ (Tightens (least_end box.base v j) (least_cells box.base v j)) (tight_part box v j ∷ []) _ is
    (Decides-and (names v m v' m') _ (tells_names v m v' m')
    (Decides-and (is_open box.base v) _ (tells_none (volume_at box.base v).frozen)
    (Decides-and (is_resting box.base v j) _ (tells_resting box.base v j) (Decides-eqb g ((replica_of box.base v j).generation + 1)))))
    (record {
      made = λ k new has needs p.
          let like = is_like has.0 box.base k v j is.volume has.2 in
          let end : ℕ = least_end box.base v j in
          let cells : ℕ = least_cells box.base v j in
          let made : Leaves k (change_replica k v j (swapped (least_end box.base v j) (least_cells box.base v j))) (put_there k v j new) =
          subst (λ (r : ReplicaKnown). Leaves k (change_replica k v j (swapped (least_end box.base v j) (least_cells box.base v j))) (put_there k v j r)) (sym p)
          (stays k (change_replica k v j (swapped (least_end box.base v j) (least_cells box.base v j))) refl refl) in (
            needs.0,
            like.frozen ∙ needs.1.0,
            (no_run box.base k like needs.1.1.0.0, subst (λ (n : ℕ). n < LAST_GENERATION) (sym (ap (λ (q : ReplicaKnown). q.generation) like.replica)) needs.1.1.0.1),
            needs.1.1.1 ∙ ap (λ (n : ℕ). n + 1) (sym (ap (λ (q : ReplicaKnown). q.generation) like.replica)),
            (
              end,
              cells,
              (sym (ap (λ (y : Table). live_end y) like.table), sym (ap (λ (y : Table). length y) like.table)),
              subst (λ (q : Known). Leaves k q (put_there k v j new)) (sym (as_is (change_replica k v j (swapped (least_end box.base v j) (least_cells box.base v j))) v)) made,
            ),
          );
      back = λ k faults arms fuses t has r.
          let like = is_like has.0 box.base k v j is.volume has.2 in
          let c : Known = record k { faults = faults; arms = arms; fuses = fuses } in
          let end : (r.4).0 ≡ least_end box.base v j = ((r.4).2).0 ∙ ap (λ (y : Table). live_end y) like.table in
          let cells : (r.4).1 ≡ least_cells box.base v j = ((r.4).2).1 ∙ ap (λ (y : Table). length y) like.table in
          let plain : Leaves c (change_replica c v j (swapped (r.4).0 (r.4).1)) t = subst (λ (q : Known). Leaves c q t) (as_is (change_replica c v j (swapped (r.4).0 (r.4).1)) v) (r.4).3 in
          let first : Leaves c (change_replica c v j (swapped (least_end box.base v j) (r.4).1)) t = subst (λ (n : ℕ). Leaves c (change_replica c v j (swapped n (r.4).1)) t) end plain in (
            (
              r.0,
              (
                sym like.frozen ∙ r.1,
                (
                  (run_none box.base k like (r.2).0, subst (λ (n : ℕ). n < LAST_GENERATION) (ap (λ (q : ReplicaKnown). q.generation) like.replica) (r.2).1),
                  r.3 ∙ ap (λ (n : ℕ). n + 1) (ap (λ (q : ReplicaKnown). q.generation) like.replica),
                ),
              ),
            ),
            swapped (least_end box.base v j) (least_cells box.base v j) (replica_of k v j),
            refl,
            subst (λ (n : ℕ). Leaves c (change_replica c v j (swapped (least_end box.base v j) n)) t) cells first,
          );
    })
    (tight_behind box v j is)
  where
    no_run : (b k : Known) {x : Slack} → IsLike b k v j x → (replica_of b v j).run ≡ None → (replica_of k v j).run ≡ None
    no_run b k {x} like e = ap (λ (q : ReplicaKnown). q.run) like.replica ∙ ap (λ (o : Option Run). option_map (fill_run x.cells) o) e

    none_back : (n : ℕ) (o : Option Run) → option_map (fill_run n) o ≡ None → o ≡ None
    none_back n None e = refl
    none_back n (Some q) e = absurd cc

    run_none : (b k : Known) {x : Slack} → IsLike b k v j x → (replica_of k v j).run ≡ None → (replica_of b v j).run ≡ None
    run_none b k {x} like e = none_back x.cells (replica_of b v j).run (sym (ap (λ (q : ReplicaKnown). q.run) like.replica) ∙ e)

pub compacts_step_boxes : CompactsStepBoxes
compacts_step_boxes settings box line v m j v' m' g on is =
    subst (λ (o : Option ℕ). IsBoxStep (λ k t. OnReplica k o (LegalCompact settings k v m) (reply.Compacted v' m' g) t) box (compacted_boxes box v m j v' m' g)) (sym on)
    (compact_step settings box v m j v' m' g is)
