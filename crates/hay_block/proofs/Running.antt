-- From workers to the lanes that they have.
use Rattle.std.proofs.Common.{◌≡◌, ℕ, List, [], ◌∷◌, map, length, refl, sym, ap, subst, ◌∙◌, Vec, Global, All, Some, slice_get, Bool}
use Rattle.std.specs.List.{AllByRecursion as Each}
use Rattle.std.proofs.lemmas.List.{length-map}
use Rattle.std.proofs.lemmas.List.Elements.{All-from_recursion}
use Rattle.hay_needle.specs.declared.settings.Settings.{Settings}
use Rattle.hay_core.specs.declared.entry.Entry.{Entry}
use Rattle.hay_reply.specs.declared.Reply.{Reply}
use Rattle.hay_legal.specs.declared.known.HomeRow.{HomeRow}
use Rattle.hay_history.proofs.Lists.{each_weaker}
use Rattle.hay_lanes.specs.Lanes.{AnswersLanes}
use Rattle.hay_lanes.proofs.Results.{unmapped}
use Rattle.hay_meeting.specs.declared.act.DirAct.{DirAct}
use Rattle.hay_meeting.specs.declared.act.VolumeAct.{VolumeAct}
use Rattle.hay_meeting.specs.Acts.{Start}
use Rattle.hay_meeting.specs.Locks.{LockSight}
use Rattle.hay_volume_lock.specs.Seats.{Seated}
use Rattle.hay_shared_volume.specs.declared.volume.SharedVolume.{SharedVolume}
use Rattle.hay_lane.specs.declared.lane.Lane.{Lane}
use Rattle.hay_lane.specs.declared.lane.Shared.{Shared}
use Rattle.hay_lane.specs.Lanes.{IsSeated}
use Rattle.hay_shared_volume.specs.Tellings.{StoreVolume}
use Rattle.hay_block.specs.declared.worker.Job.{Job}
use Rattle.hay_block.specs.declared.worker.LaneWorker.{LaneWorker}
use Rattle.hay_block.specs.Lines.{Answers, IsServed}
use Rattle.hay_block.specs.Workers.{at_locks, parts_of}
use Rattle.hay_block.proofs.Chaining.{images_answer, lanes_go}
use Rattle.hay_block.proofs.Lists.{each_at, mapped}

module _ {D P L T A : Type 0} (shared : Shared (SharedVolume D P) L) where
  abbrev pub lane_of : LaneWorker D P L T A → Lane (Seated D P) T A
  lane_of worker = worker.lane

  lanes_in : (workers : List (LaneWorker D P L T A)) → map (λ p. p.1) (map parts_of workers) ≡ map lane_of workers
  lanes_in [] = refl
  lanes_in (w ∷ workers) = ap (λ z. w.lane ∷ z) (lanes_in workers)

  lanes_among : (lanes : List (Lane (Seated D P) T A)) → map (λ p. p.1) (map (at_locks shared) lanes) ≡ lanes
  lanes_among [] = refl
  lanes_among (l ∷ lanes) = ap (λ z. l ∷ z) (lanes_among lanes)

  module _ (workers : List (LaneWorker D P L T A)) (lanes : List (Lane (Seated D P) T A)) (parts : map parts_of workers ≡ map (at_locks shared) lanes) where
    pub lanes_are : map lane_of workers ≡ lanes
    lanes_are = sym (lanes_in workers) ∙ (ap (map (λ p. p.1)) parts ∙ lanes_among lanes)

    pub as_many : length workers ≡ length lanes
    as_many = sym (length-map workers lane_of) ∙ ap length lanes_are

    -- a worker has its lane, and the locks of all
    pub worker_at : (i : ℕ) (w : LaneWorker D P L T A) → slice_get workers i ≡ Some w → ((w.shared).now ≡ shared) × (slice_get lanes i ≡ Some w.lane)
    worker_at i w at =
        let there : slice_get (map (at_locks shared) lanes) i ≡ Some (parts_of w) = subst (λ z. slice_get z i ≡ Some (parts_of w)) parts (mapped parts_of workers i w at) in
        let l = unmapped (at_locks shared) lanes i (parts_of w) there in
        (ap (λ p. p.0) (sym l.2), l.1 ∙ ap (λ p. Some p.1) l.2)

  module _ (fits : ℕ → SharedVolume D P → Settings → ℕ → Seated D P → Type 0) (fits_rows : L → Settings → ℕ → T → Type 0) where
    pub may_answer : (workers : List (LaneWorker D P L T A)) (lanes : List (Lane (Seated D P) T A)) (jobs : List (Vec Job Global)) → map parts_of workers ≡ map (at_locks shared) lanes
        → ((lane : ℕ) (l : Lane (Seated D P) T A) → slice_get lanes lane ≡ Some l → IsSeated fits fits_rows shared lane l) → Each (λ js. Each (λ job. IsServed job.item) js.items) jobs
        → (lane : ℕ) (w : LaneWorker D P L T A) (js : List Job) → slice_get workers lane ≡ Some w → slice_get (map (λ v. v.items) jobs) lane ≡ Some js
        → All (λ job. IsSeated fits fits_rows (w.shared).now lane w.lane × IsServed job.item) js
    may_answer workers lanes jobs parts seated served lane w js here there =
        let at = worker_at workers lanes parts lane w here in
        let sits : IsSeated fits fits_rows (w.shared).now lane w.lane = subst (λ (z : Shared (SharedVolume D P) L). IsSeated fits fits_rows z lane w.lane) (sym at.0) (seated lane w.lane at.1) in
        let v = unmapped (λ (v : Vec Job Global). v.items) jobs lane js there in
        let each : Each (λ job. IsServed job.item) js =
        subst (Each (λ (job : Job). IsServed job.item)) v.2 (each_at (λ (v : Vec Job Global). Each (λ job. IsServed job.item) v.items) jobs lane v.0 served v.1) in
        All-from_recursion (λ job. IsSeated fits fits_rows (w.shared).now lane w.lane × IsServed job.item) js
        (each_weaker (λ (job : Job). IsServed job.item) (λ job. IsSeated fits fits_rows (w.shared).now lane w.lane × IsServed job.item) (λ job serves. (sits, serves)) js each)

    module _ (is_at : Seated D P → StoreVolume → Type 0) (is_at_rows : T → Start → Type 0) (of : Seated D P → LockSight VolumeAct Entry) (of_rows : T → LockSight DirAct HomeRow)
        (arm_sure : A → Bool) (arm_faults : A → ℕ) where
      abbrev by_worker : LaneWorker D P L T A → ℕ → Job → LaneWorker D P L T A → Reply → Type 0
      by_worker w lane job after out =
          ((after.shared).now ≡ (w.shared).now) × Answers fits fits_rows is_at is_at_rows of of_rows arm_sure arm_faults (w.shared).now lane job w.lane after.lane out

      abbrev pub by_lane : Lane (Seated D P) T A → ℕ → Job → Lane (Seated D P) T A → Reply → Type 0
      by_lane old lane job new reply = Answers fits fits_rows is_at is_at_rows of of_rows arm_sure arm_faults shared lane job old new reply

      abbrev shares : ℕ → LaneWorker D P L T A → Type 0
      shares lane w = (w.shared).now ≡ shared

      one_shares : (lane : ℕ) (w : LaneWorker D P L T A) (job : Job) (x : LaneWorker D P L T A) (out : Reply) → shares lane w → by_worker w lane job x out
          → shares lane x × by_lane w.lane lane job x.lane out
      one_shares lane w job x out own (same, answered) =
          (same ∙ own, subst (λ (z : Shared (SharedVolume D P) L). Answers fits fits_rows is_at is_at_rows of of_rows arm_sure arm_faults z lane job w.lane x.lane out) own answered)

      -- what workers answer, their lanes do
      pub lanes_answer : (workers after : List (LaneWorker D P L T A)) (lanes : List (Lane (Seated D P) T A)) (jobs : List (List Job)) (outs : List (List Reply))
          → map parts_of workers ≡ map (at_locks shared) lanes
          → length jobs ≡ length workers → AnswersLanes by_worker workers jobs after outs → AnswersLanes by_lane lanes jobs (map lane_of after) outs
      lanes_answer workers after lanes jobs outs parts given all =
          subst (λ z. AnswersLanes by_lane z jobs (map lane_of after) outs) (lanes_are workers lanes parts)
          (images_answer lane_of by_lane (lanes_go shares by_worker (λ w lane job x out. by_lane w.lane lane job x.lane out) one_shares given
          (λ lane w here. (worker_at workers lanes parts lane w here).0) all))
