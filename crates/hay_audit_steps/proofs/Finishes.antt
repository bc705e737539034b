-- The finish of a compaction over a box.
use Rattle.std.proofs.Common.{◌≡◌, ℕ, ◌+◌, Bool, true, false, List, [], ◌∷◌, length, Option, Some, None, refl, sym, ap, subst, ◌∙◌, arith}
use Rattle.std.specs.Prelude.{cond, ◌&&◌, ◌==◌, ◌<◌, nat_lt, option_map, is_some}
use Rattle.std.specs.Bool.{Decides}
use Rattle.std.proofs.lemmas.Bool.Decides.{Decides-eqb, Decides-and, Decides-ltb}
use Rattle.hay_needle.specs.Tables.{Table, live_end}
use Rattle.hay_needle.specs.declared.settings.Settings.{Settings}
use Rattle.hay_needle.specs.declared.settings.TheConstants.{LAST_GENERATION}
use Rattle.hay_reply.specs.declared.Reply.TheVariants as reply
use Rattle.hay_legal.specs.declared.known.Run.{Run}
use Rattle.hay_legal.specs.declared.known.ReplicaKnown.{ReplicaKnown}
use Rattle.hay_legal.specs.declared.known.VolumeKnown.{VolumeKnown}
use Rattle.hay_legal.specs.declared.known.Known.{Known}
use Rattle.hay_legal.specs.Known.{volume_at, now}
use Rattle.hay_legal.specs.Plain.{LegalFinish, OnReplica, MayFinish, Names, IsOpen, replica_of}
use Rattle.hay_audit_steps.specs.BoxLaw.{FinishesStepBoxes}
use Rattle.hay_audit_steps.specs.BoxNext.{least_end, least_cells, most_end, most_cells, swapped_box, has_sizes, may_finish, finished_boxes}
use Rattle.hay_audit_steps.specs.CheckerSteps.{with_counts}
use Rattle.hay_audit_steps.specs.Next.{names, is_open}
use Rattle.hay_audit_steps.specs.Slacks.{Slack, fill_replica, fill_run}
use Rattle.hay_audit_steps.specs.Boxes.{Box, Has, IsBoxStep, IsFilled, fill, slack_at}
use Rattle.hay_audit_steps.proofs.Cuts.{within_at}
use Rattle.hay_audit_steps.proofs.Lifting.{volume_fill, now_fill}
use Rattle.hay_audit_steps.proofs.Others.{tells_names}
use Rattle.hay_audit_steps.proofs.Swaps.{tells_has_run}
use Rattle.hay_audit_steps.proofs.Tests.{tells_none}
use Rattle.hay_audit_steps.proofs.Wider.{sizes_of, swap_box_step}

pub box_tested : (row : Known → Known → Type 0) (box : Box) (next : List Box) (Needs : Type 0) (test : Bool)
    → Decides test Needs → (Needs → IsBoxStep row box next)
    → ((k : Known) (faults arms fuses : List ℕ) (t : Known) → Has box k → row (with_counts k faults arms fuses) t → Needs)
    → IsBoxStep row box (cond test next [])
box_tested row box next Needs true decides step forced = step (decides.0 refl)
box_tested row box next Needs false decides step forced = record {
  sound = tt;
  complete = λ k faults arms fuses t has f a r. absurd (let none : false ≡ true = decides.1 (forced k faults arms fuses t has r) in cc);
}

-- WHAT A FINISH NEEDS

abbrev MayFinishIn : Known → ℕ → ℕ → Type 0
MayFinishIn b v j = ((run : Run) × ((replica_of b v j).run ≡ Some run)) × ((replica_of b v j).generation < LAST_GENERATION)

abbrev HasSizes : Box → ℕ → ℕ → Type 0
HasSizes box v j = (least_end box.base v j < most_end box v j + 1) × (least_cells box.base v j < most_cells box v j + 1)

abbrev FinishNeeds : Box → ℕ → ℕ → ℕ → ℕ → ℕ → ℕ → Type 0
FinishNeeds box v m j v' m' g =
    Names v m v' m' × (IsOpen box.base v × (MayFinishIn box.base v j × ((g ≡ (replica_of box.base v j).generation + 1) × HasSizes box v j)))

tells_finish : (box : Box) (v m j v' m' g : ℕ)
    → Decides (names v m v' m' && (is_open box.base v && (may_finish box.base v j && ((g == (replica_of box.base v j).generation + 1) && has_sizes box v j)))) (FinishNeeds box v m j v' m' g)
tells_finish box v m j v' m' g =
    Decides-and (names v m v' m') _ (tells_names v m v' m')
    (Decides-and (is_open box.base v) _ (tells_none (volume_at box.base v).frozen)
    (Decides-and (may_finish box.base v j) _
    (Decides-and (is_some (replica_of box.base v j).run) (nat_lt (replica_of box.base v j).generation LAST_GENERATION) (tells_has_run (replica_of box.base v j).run)
    (Decides-ltb (replica_of box.base v j).generation LAST_GENERATION))
    (Decides-and (g == (replica_of box.base v j).generation + 1) _ (Decides-eqb g ((replica_of box.base v j).generation + 1))
    (Decides-and (nat_lt (least_end box.base v j) (most_end box v j + 1)) (nat_lt (least_cells box.base v j) (most_cells box v j + 1))
    (Decides-ltb (least_end box.base v j) (most_end box v j + 1)) (Decides-ltb (least_cells box.base v j) (most_cells box v j + 1))))))

-- WHAT A STATE OF THE BOX HAS OF IT

pub record IsLike (b k : Known) (v j : ℕ) (x : Slack) : Type 0 where
  pub frozen : (volume_at k v).frozen ≡ (volume_at b v).frozen
  pub replica : replica_of k v j ≡ fill_replica x (replica_of b v j)
  pub table : now (volume_at k v) (replica_of k v j) ≡ now (volume_at b v) (replica_of b v j)

pub is_like : (xss : List (List Slack)) (b k : Known) (v j : ℕ) → j < length (volume_at b v).replicas → k ≡ fill xss b → IsLike b k v j (slack_at xss v j)
is_like xss b k v j h e = subst (λ (q : Known). IsLike b q v j (slack_at xss v j)) (sym e) (record {
  frozen = ap (λ (volume : VolumeKnown). volume.frozen) (volume_fill xss b v);
  replica = sizes_of xss b v j h;
  table = now_fill xss b v j;
})

pub run_back : (n : ℕ) (o : Option Run) (run : Run) → option_map (fill_run n) o ≡ Some run → (q : Run) × (o ≡ Some q)
run_back n None run e = absurd cc
run_back n (Some q) run e = (q, refl)

may_back : (b k : Known) (v j : ℕ) (x : Slack) → IsLike b k v j x → MayFinish k v j → MayFinishIn b v j
may_back b k v j x like may =
    let run : (replica_of k v j).run ≡ option_map (fill_run x.cells) (replica_of b v j).run = ap (λ (r : ReplicaKnown). r.run) like.replica in
    let generation : (replica_of k v j).generation ≡ (replica_of b v j).generation = ap (λ (r : ReplicaKnown). r.generation) like.replica in
    (run_back x.cells (replica_of b v j).run (may.0).0 (sym run ∙ (may.0).1), subst (λ (n : ℕ). n < LAST_GENERATION) generation may.1)

may_on : (b k : Known) (v j : ℕ) (x : Slack) → IsLike b k v j x → MayFinishIn b v j → MayFinish k v j
may_on b k v j x like may =
    let run : (replica_of k v j).run ≡ option_map (fill_run x.cells) (replica_of b v j).run = ap (λ (r : ReplicaKnown). r.run) like.replica in
    let generation : (replica_of k v j).generation ≡ (replica_of b v j).generation = ap (λ (r : ReplicaKnown). r.generation) like.replica in
    ((fill_run x.cells (may.0).0, run ∙ ap (λ (o : Option Run). option_map (fill_run x.cells) o) (may.0).1), subst (λ (n : ℕ). n < LAST_GENERATION) (sym generation) may.1)

-- THE STEP

finished_step : (settings : Settings) (box : Box) (v m j v' m' g : ℕ) → IsFilled box v j
    → IsBoxStep (λ k t. LegalFinish settings k v m j (reply.Compacted v' m' g) t) box (finished_boxes box v m j v' m' g)
finished_step settings box v m j v' m' g is =
    box_tested (finish_row) box (swapped_box box v j ∷ []) (FinishNeeds box v m j v' m' g) _ (tells_finish box v m j v' m' g)
    (λ needs.
    let step = swap_box_step box v j is (omega (arith, needs.1.1.1.1.0)) (omega (arith, needs.1.1.1.1.1)) in
    record {
      sound = (
        (λ t has.
            let from = (step.sound).0 t has in
            let like = is_like (from.1).0 box.base from.0 v j is.volume (from.1).2 in
            let generation : (replica_of from.0 v j).generation ≡ (replica_of box.base v j).generation = ap (λ (r : ReplicaKnown). r.generation) like.replica in (
              from.0,
              from.1,
              (
                needs.0,
                like.frozen ∙ needs.1.0,
                may_on box.base from.0 v j (slack_at (from.1).0 v j) like needs.1.1.0,
                needs.1.1.1.0 ∙ ap (λ (n : ℕ). n + 1) (sym generation),
                from.2,
              ),
            )),
        tt,
      );
      complete = λ k faults arms fuses t has f a r. step.complete k faults arms fuses t has f a r.4;
    })
    (λ k faults arms fuses t has r.
    let like = is_like has.0 box.base k v j is.volume has.2 in
    let x : Slack = slack_at has.0 v j in
    let below = within_at has.0 box.high v j (has.1).most in
    let generation : (replica_of k v j).generation ≡ (replica_of box.base v j).generation = ap (λ (q : ReplicaKnown). q.generation) like.replica in
    let end : (replica_of k v j).end ≡ (replica_of box.base v j).end + x.end = ap (λ (q : ReplicaKnown). q.end) like.replica in
    let cells : (replica_of k v j).cells ≡ (replica_of box.base v j).cells + x.cells = ap (λ (q : ReplicaKnown). q.cells) like.replica in
    let live : live_end (now (volume_at k v) (replica_of k v j)) ≡ least_end box.base v j = ap (λ (y : Table). live_end y) like.table in
    let count : length (now (volume_at k v) (replica_of k v j)) ≡ least_cells box.base v j = ap (λ (y : Table). length y) like.table in
    let sizes = (r.4).2 in (
      r.0,
      (
        sym like.frozen ∙ r.1,
        (
          may_back box.base k v j (slack_at has.0 v j) like r.2,
          (
            r.3 ∙ ap (λ (n : ℕ). n + 1) generation,
            (omega (arith, sizes.0, sizes.1, live, end, below.end), omega (arith, sizes.2, sizes.3, count, cells, below.cells)),
          ),
        ),
      ),
    ))
  where
    finish_row : Known → Known → Type 0
    finish_row k t = LegalFinish settings k v m j (reply.Compacted v' m' g) t

pub finishes_step_boxes : FinishesStepBoxes
finishes_step_boxes settings box line v m j v' m' g on is =
    subst (λ (o : Option ℕ). IsBoxStep (λ k t. OnReplica k o (LegalFinish settings k v m) (reply.Compacted v' m' g) t) box (finished_boxes box v m j v' m' g)) (sym on)
    (finished_step settings box v m j v' m' g is)
