-- What the workers of all lanes answered is their lines.
use Rattle.std.proofs.Common.{◌≡◌, ◌<◌, ℕ, List, [], ◌∷◌, map, length, Contains, refl, sym, ap, subst, ◌∙◌, arith, Option, Some, slice_get}
use Rattle.std.specs.Prelude.{Bool}
use Rattle.std.specs.List.{AllByRecursion as Each}
use Rattle.std.proofs.lemmas.List.{length-map}
use Rattle.std.proofs.lemmas.Option.{slice_get_within}
use Rattle.hay_lanes.proofs.Results.{unmapped}
use Rattle.hay_needle.specs.declared.settings.Settings.{Settings}
use Rattle.hay_core.specs.declared.entry.Entry.{Entry}
use Rattle.hay_reply.specs.declared.Reply.{Reply}
use Rattle.hay_reply.specs.declared.Reply.TheVariants.{BadLine}
use Rattle.hay_legal.specs.declared.known.HomeRow.{HomeRow}
use Rattle.hay_legal.specs.declared.turn.Item.{Item}
use Rattle.hay_legal.specs.declared.turn.Item.TheVariants as asks
use Rattle.hay_legal.specs.declared.turn.LaneItem.{LaneItem}
use Rattle.hay_history.specs.Commands.{MayStandInLane}
use Rattle.hay_history.proofs.Lists.{each_from, each_in}
use Rattle.hay_lanes.specs.Lanes.{AnswersAll, AnswersLanes}
use Rattle.hay_meeting.specs.declared.act.DirAct.{DirAct}
use Rattle.hay_meeting.specs.declared.act.VolumeAct.{VolumeAct}
use Rattle.hay_turn.proofs.Prefixes.{prefix_self}
use Rattle.hay_meeting.specs.Acts.{Start, row_lock, volume_lock}
use Rattle.hay_meeting.specs.Chains.{AreLanes, GoesOn}
use Rattle.hay_meeting.specs.Locks.{LockSight}
use Rattle.hay_meeting.specs.Replies.{AnsweredHere}
use Rattle.hay_meeting.specs.Sights.{Sight}
use Rattle.hay_meeting.proofs.Closing.{there}
use Rattle.hay_meeting.proofs.Looping.{are_lanes, lines_of}
use Rattle.hay_meeting.proofs.Phases.{only_saw}
use Rattle.hay_meeting.proofs.Picking.{in_part}
use Rattle.hay_meeting.proofs.Replying.{goes_on}
use Rattle.hay_holdings.specs.Sights.{no_doings}
use Rattle.hay_lane.specs.declared.lane.Lane.{Lane}
use Rattle.hay_lane.specs.declared.lane.Shared.{Shared}
use Rattle.hay_lane.specs.Lanes.{sight}
use Rattle.hay_shared_volume.specs.Tellings.{StoreVolume}
use Rattle.hay_block.specs.declared.worker.Job.{Job}
use Rattle.hay_block.specs.Lines.{Answers, AreItems, IsServed, SitsAt, answered_line, answered_lines}
use Rattle.hay_block.proofs.Lists.{each_at, mapped}

-- WHAT STAYS WHILE LANES ANSWER

module _ {W J O : Type 0} (Is : ℕ → W → Type 0) (gives becomes : W → ℕ → J → W → O → Type 0)
    (goes : (lane : ℕ) (w : W) (job : J) (x : W) (out : O) → Is lane w → gives w lane job x out → Is lane x × becomes w lane job x out) where
  all_go : (lane : ℕ) (w : W) (jobs : List J) (after : W) (outs : List O) → Is lane w → AnswersAll gives lane w jobs after outs → Is lane after × AnswersAll becomes lane w jobs after outs
  all_go lane w [] after outs is (same, none) = (subst (Is lane) (sym same) is, (same, none))
  all_go lane w (job ∷ jobs) after outs is (x, out, rest, outs_are, answered, more) =
      let one = goes lane w job x out is answered in
      let others = all_go lane x jobs after rest one.0 more in
      (others.0, (x, out, rest, outs_are, one.1, others.1))

  module _ {workers after : List W} {jobs : List (List J)} {outs : List (List O)} (given : length jobs ≡ length workers)
      (first : (lane : ℕ) (w : W) → slice_get workers lane ≡ Some w → Is lane w) (answers : AnswersLanes gives workers jobs after outs) where
    pub lanes_go : AnswersLanes becomes workers jobs after outs
    lanes_go = record {
      workers_stay = answers.workers_stay;
      lanes_stay = answers.lanes_stay;
      each = λ lane w js here there.
          let r = answers.each lane w js here there in
          (r.0, r.1, r.2, r.3, (all_go lane w js r.0 r.1 (first lane w here) r.4).1);
    }

    pub lanes_stay : (lane : ℕ) (x : W) → slice_get after lane ≡ Some x → Is lane x
    lanes_stay lane x at =
        let inside = slice_get_within after lane x at in
        let many = answers.workers_stay in
        let w = there workers lane (omega (arith, inside, many)) in
        let js = there jobs lane (omega (arith, inside, many, given)) in
        let r = answers.each lane w.0 js.0 w.1 js.1 in
        let same : r.0 ≡ x = let both : Some r.0 ≡ Some x = subst (λ (z : Option W). z ≡ Some x) r.2 at in cc in
        subst (Is lane) same (all_go lane w.0 js.0 r.0 r.1 (first lane w.0 w.1) r.4).0

-- LANES

-- what answers to images
module _ {W L J O : Type 0} (f : W → L) (answers : L → ℕ → J → L → O → Type 0) where
  abbrev answers_by : W → ℕ → J → W → O → Type 0
  answers_by w lane job x out = answers (f w) lane job (f x) out

  image_answers : (lane : ℕ) (w : W) (jobs : List J) (after : W) (outs : List O) → AnswersAll answers_by lane w jobs after outs → AnswersAll answers lane (f w) jobs (f after) outs
  image_answers lane w [] after outs (same, none) = (ap f same, none)
  image_answers lane w (job ∷ jobs) after outs (x, out, rest, outs_are, answered, more) = (f x, out, rest, outs_are, answered, image_answers lane x jobs after rest more)

  pub images_answer : {workers after : List W} {jobs : List (List J)} {outs : List (List O)} → AnswersLanes answers_by workers jobs after outs
      → AnswersLanes answers (map f workers) jobs (map f after) outs
  images_answer {workers} {after} all = record {
    workers_stay = length-map after f ∙ (all.workers_stay ∙ sym (length-map workers f));
    lanes_stay = all.lanes_stay;
    each = λ lane l js here there.
        let w = unmapped f workers lane l here in
        let r = all.each lane w.0 js w.1 there in
        (f r.0, r.1, mapped f after lane r.0 r.2, r.3, subst (λ z. AnswersAll answers lane z js (f r.0) r.1) w.2 (image_answers lane w.0 js r.0 r.1 r.4));
  }

module _ {V D S T A : Type 0} (fits : ℕ → V → Settings → ℕ → S → Type 0) (fits_rows : D → Settings → ℕ → T → Type 0) (is_at : S → StoreVolume → Type 0) (is_at_rows : T → Start → Type 0)
    (of : S → LockSight VolumeAct Entry) (of_rows : T → LockSight DirAct HomeRow) (arm_sure : A → Bool) (arm_faults : A → ℕ) (shared : Shared V D) (start : Start) where
  abbrev sight_at : Lane S T A → Sight
  sight_at l = sight of of_rows arm_faults l

  abbrev gives : Lane S T A → ℕ → Job → Lane S T A → Reply → Type 0
  gives old lane job new reply = Answers fits fits_rows is_at is_at_rows of of_rows arm_sure arm_faults shared lane job old new reply

  abbrev sits_at : ℕ → Lane S T A → Type 0
  sits_at lane l = SitsAt fits fits_rows is_at is_at_rows of of_rows arm_sure arm_faults shared start lane l

  abbrev goes_from : Lane S T A → ℕ → Job → Lane S T A → Reply → Type 0
  goes_from old lane job new reply = GoesOn shared.settings start (shared.drained).items (record { item = answered_line lane job reply; before = sight_at old; after = sight_at new })

  one_goes : (lane : ℕ) (old : Lane S T A) (job : Job) (new : Lane S T A) (reply : Reply) → sits_at lane old → gives old lane job new reply → sits_at lane new × goes_from old lane job new reply
  one_goes lane old job new reply sits answered =
      (record { seated = answered.seated; store = answered.same start sits.store }, goes_on _ (answered.answered start sits.store))

  module _ {lanes after : List (Lane S T A)} {jobs : List (List Job)} {replies : List (List Reply)} (given : length jobs ≡ length lanes)
      (first : (lane : ℕ) (l : Lane S T A) → slice_get lanes lane ≡ Some l → sits_at lane l) (answers : AnswersLanes gives lanes jobs after replies) where
    -- they sit where they sat
    pub still_sit : (lane : ℕ) (l : Lane S T A) → slice_get after lane ≡ Some l → sits_at lane l
    still_sit = lanes_stay sits_at gives goes_from one_goes given first answers

    same_lines : (lane : ℕ) (js : List Job) (rs : List Reply) → answered_lines lane js rs ≡ lines_of shared.settings start (shared.drained).items goes_from sight_at answered_line lane js rs
    same_lines lane [] rs = refl
    same_lines lane (job ∷ js) [] = refl
    same_lines lane (job ∷ js) (reply ∷ rs) = ap (λ z. answered_line lane job reply ∷ z) (same_lines lane js rs)

    -- and their answers are lines of lanes
    pub lanes_answered : (items : List LaneItem) → AreItems jobs replies items
        → AreLanes shared.settings start (shared.drained).items (length lanes) (map sight_at lanes) (map sight_at after) items
    lanes_answered items are =
        are_lanes shared.settings start (shared.drained).items goes_from sight_at answered_line (record { lane_is = λ lane job out. refl; each = λ lane w job x out goes. goes })
        (lanes_go sits_at gives goes_from one_goes given first answers) refl given (subst (λ n. Each (λ item. item.lane < n) items) given are.low)
        (λ lane js os here there. are.each lane js os here there ∙ same_lines lane js os)

-- LINES THAT A BLOCK MAY HAVE

may_stand : (item : Item) → IsServed item → MayStandInLane item
may_stand (asks.Command command) served = served.1
may_stand asks.Bad served = tt

lines_stand : (lane : ℕ) (jobs : List Job) (replies : List Reply) → Each (λ job. IsServed job.item) jobs → Each (λ item. MayStandInLane item.item) (answered_lines lane jobs replies)
lines_stand lane [] replies each = tt
lines_stand lane (job ∷ jobs) [] each = tt
lines_stand lane (job ∷ jobs) (reply ∷ replies) each = (may_stand job.item each.0, lines_stand lane jobs replies each.1)

pub items_stand : {jobs : List (List Job)} {replies : List (List Reply)} {items : List LaneItem} → length replies ≡ length jobs
    → Each (λ js. Each (λ job. IsServed job.item) js) jobs → AreItems jobs replies items → Each (λ item. MayStandInLane item.item) items
items_stand {jobs} {replies} {items} many served are = each_from (λ (item : LaneItem). MayStandInLane item.item) items
    (λ item among.
    let lane : ℕ = item.lane in
    let low : lane < length jobs = each_in (λ (i : LaneItem). i.lane < length jobs) items item are.low among in
    let js = there jobs lane low in
    let rs = there replies lane (omega (arith, low, many)) in
    each_in (λ (i : LaneItem). MayStandInLane i.item) (answered_lines lane js.0 rs.0) item
    (lines_stand lane js.0 rs.0 (each_at (λ js. Each (λ job. IsServed job.item) js) jobs lane js.0 served js.1))
    (subst (λ z. Contains z item) (are.each lane js.0 rs.0 js.1 rs.1) (in_part (λ (i : LaneItem). i.lane) items item among)))

-- A BAD LINE

pub bad_answered : (settings : Settings) (start : Start) (drained : List Bool) (line lane : ℕ) (s : Sight) (item : Item) → item ≡ asks.Bad
    → AnsweredHere settings start drained (record { line = line; lane = lane; item = item; reply = BadLine }) s s
bad_answered settings start drained line lane s item bad =
    subst (λ (z : Item). AnsweredHere settings start drained (record { line = line; lane = lane; item = z; reply = BadLine }) s s) (sym bad) (record {
      doings = no_doings;
      work = record {
        volumes = λ v. only_saw volume_lock (record { seen = prefix_self (s.volumes v).seen; shown = prefix_self (s.volumes v).shown }) refl;
        directory = only_saw row_lock (record { seen = prefix_self (s.directory).seen; shown = prefix_self (s.directory).shown }) refl;
        arm = omega arith;
      };
      did = (refl, (λ v. refl, refl));
    })
