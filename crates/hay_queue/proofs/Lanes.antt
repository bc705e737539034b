-- From workers and kits to benches, and from benches to lanes that are served.
use Rattle.std.proofs.Common.{◌≡◌, ℕ, ◌%◌, ◌/◌, ◌<◌, List, map, length, get_or, All, Vec, Global, Option, Some, None, IsSome, slice_get, refl, ap, sym, subst, ◌∙◌, arith}
use Rattle.std.proofs.lemmas.List.{length-map}
use Rattle.std.proofs.lemmas.Option.{slice_get-get_or, slice_get_within}
use native.Mathlib.Nat.{add-mul-mod_self_right, mod-eq_of_lt, mod-add-div', mod-lt}
use Rattle.hay_lanes.proofs.Results.{unmapped, mapped}
use Rattle.hay_queue.specs.declared.serve.Bench.{Bench}
use Rattle.hay_queue.specs.declared.serve.Kit.{Kit}
use Rattle.hay_queue.specs.Benches.{IsKit, IsReady, IsServed, Served, OutsAt, worker_in, kit_in}
use Rattle.hay_queue.specs.Serves.{Step, steps_of, MayServe, ServesLanes}
use Rattle.hay_queue.specs.Shares.{lane_at}
use Rattle.hay_queue.proofs.Steps.{item_at}

-- two lists that show the same
module _ {A B C : Type 0} (f : A → C) (g : B → C) (xs : List A) (ys : List B) (same : map f xs ≡ map g ys) where
  beside : (i : ℕ) (x : A) → slice_get xs i ≡ Some x → (y : B) × (slice_get ys i ≡ Some y) × (g y ≡ f x)
  beside i x at = unmapped g ys i (f x) (ap (λ (l : List C). slice_get l i) (sym same) ∙ mapped f xs i x at)

  as_long : length xs ≡ length ys
  as_long = sym (length-map xs f) ∙ (ap length same ∙ length-map ys g)

pub seat_of_lane : (seat seats client : ℕ) → seat < seats → lane_at seat seats client % seats ≡ seat
seat_of_lane seat seats client lt = add-mul-mod_self_right seat client seats ∙ mod-eq_of_lt lt

lane_again : (lane seats : ℕ) → lane_at (lane % seats) seats (lane / seats) ≡ lane
lane_again lane seats = mod-add-div' lane seats

module _ {W J O : Type 0} where
  full : (slot : Option (Bench W J O)) (w : W) → Some w ≡ worker_in slot → (b : Bench W J O) × (slot ≡ Some b) × (w ≡ b.worker)
  full (Some b) w e = (b, refl, cc e)
  full None w e = absurd cc

  its_kit : (slot : Option (Bench W J O)) (b : Bench W J O) (k : Kit O) → slot ≡ Some b → Some k ≡ kit_in slot → k ≡ b.kit
  its_kit slot b k is e = let same : Some k ≡ kit_in (Some b) = e ∙ ap kit_in is in cc same

  module _ (seats : ℕ) (jobs : List (Vec J Global)) (workers : List W) (benches : List (Option (Bench W J O))) (many : length workers ≡ seats)
      (by_worker : map worker_in benches ≡ map (λ w. Some w) workers) where
    abbrev lists : List (List J)
    lists = map (λ (v : Vec J Global). v.items) jobs

    -- a worker stands at its seat
    worker_at : (seat : ℕ) (slot : Option (Bench W J O)) → slice_get benches seat ≡ Some slot → (b : Bench W J O) × (slot ≡ Some b) × (slice_get workers seat ≡ Some b.worker)
    worker_at seat slot at = let w = beside worker_in (λ (w : W). Some w) benches workers by_worker seat slot at in let b = full slot w.0 w.2 in (b.0, b.1, w.1 ∙ ap (λ (x : W). Some x) b.2)

    pub are_ready : (may_answer : W → ℕ → J → Type 0) (kits : List (Kit O)) → map kit_in benches ≡ map (λ k. Some k) kits
        → ((seat : ℕ) (kit : Kit O) → slice_get kits seat ≡ Some kit → IsKit seat seats jobs kit)
        → MayServe may_answer workers lists → (seat : ℕ) (slot : Option (Bench W J O)) → slice_get benches seat ≡ Some slot → IsReady seat seats may_answer jobs slot
    are_ready may_answer kits by_kit are_kits may seat slot at =
        let b = worker_at seat slot at in
        let k = beside kit_in (λ (k : Kit O). Some k) benches kits by_kit seat slot at in
        let lt : seat < seats = let l = slice_get_within workers seat b.0.worker b.2 in omega arith in record {
          bench = b.0;
          there = b.1;
          kit = subst (IsKit seat seats jobs) (its_kit slot b.0 k.0 b.1 k.2) (are_kits seat k.0 k.1);
          may = λ client js here.
              let lane : ℕ = lane_at seat seats client in
              let own : lane % length workers ≡ seat = ap (λ (n : ℕ). lane % n) many ∙ seat_of_lane seat seats client lt in
              may lane b.0.worker js.items (ap (slice_get workers) own ∙ b.2) (mapped (λ (v : Vec J Global). v.items) jobs lane js here);
        }

    module _ (answers : W → ℕ → J → W → O → Type 0) (after : List (Option (Bench W J O))) (stay : length after ≡ seats)
        (served : (seat : ℕ) (slot now : Option (Bench W J O)) → slice_get benches seat ≡ Some slot → slice_get after seat ≡ Some now → IsServed seat seats answers jobs slot now) where
      -- what a worker has done
      pub done : (seat : ℕ) → seat < seats → (b x : Bench W J O) × (slice_get workers seat ≡ Some b.worker) × (slice_get after seat ≡ Some (Some x))
          × Served seat seats answers jobs b.worker x.worker x.kit.outs.items
      done seat lt =
          let long : length benches ≡ length workers = as_long worker_in (λ (w : W). Some w) benches workers by_worker in
          let slot = item_at benches seat (omega arith) in
          let now = item_at after seat (omega arith) in
          let b = worker_at seat slot.0 slot.1 in
          let s = (served seat slot.0 now.0 slot.1 now.1).served b.0 b.1 in
          (b.0, s.0, b.2, now.1 ∙ ap (λ (o : Option (Bench W J O)). Some o) s.1, s.2)

      pub all_there : All (λ (slot : Option (Bench W J O)). IsSome slot) after
      all_there seat d lt =
          let x = done seat (omega arith) in let same : Some x.1 ≡ get_or after seat d = cc (sym x.3 ∙ slice_get-get_or after seat d lt) in subst (λ (o : Option (Bench W J O)). IsSome o) same refl

      module _ (workers_now : List W) (kits_now : List (Kit O)) (now_workers : map (λ w. Some w) workers_now ≡ map worker_in after)
          (now_kits : map (λ k. Some k) kits_now ≡ map kit_in after) (some : 0 < seats) where
        pub kits_many : length kits_now ≡ seats
        kits_many = as_long (λ (k : Kit O). Some k) kit_in kits_now after now_kits ∙ stay

        kit_at : (seat : ℕ) (x : Bench W J O) → slice_get after seat ≡ Some (Some x) → slice_get kits_now seat ≡ Some x.kit
        kit_at seat x at = let k = beside kit_in (λ (k : Kit O). Some k) after kits_now (sym now_kits) seat (Some x) at in let same : k.0 ≡ x.kit = cc k.2 in k.1 ∙ ap (λ (z : Kit O). Some z) same

        worker_now : (seat : ℕ) (x : Bench W J O) → slice_get after seat ≡ Some (Some x) → slice_get workers_now seat ≡ Some x.worker
        worker_now seat x at =
            let w = beside worker_in (λ (w : W). Some w) after workers_now (sym now_workers) seat (Some x) at in let same : w.0 ≡ x.worker = cc w.2 in w.1 ∙ ap (λ (z : W). Some z) same

        -- the answers to a lane, and its steps
        lane_done : (seat : ℕ) (x : Bench W J O) (w : W) (s : Served seat seats answers jobs w x.worker x.kit.outs.items) (lane : ℕ) (js : Vec J Global)
            → slice_get after seat ≡ Some (Some x) → lane % seats ≡ seat → slice_get jobs lane ≡ Some js
            → (os : Vec O Global) × OutsAt kits_now seats lane os × (map (λ (y : Step J O). y.out) (steps_of lane s.steps) ≡ os.items)
            × (map (λ (y : Step J O). y.job) (steps_of lane s.steps) ≡ js.items)
        lane_done seat x w s lane js at own here =
            let again : lane_at seat seats (lane / seats) ≡ lane = ap (λ (n : ℕ). lane_at n seats (lane / seats)) (sym own) ∙ lane_again lane seats in
            let h = s.each (lane / seats) js (ap (slice_get jobs) again ∙ here) in (
              h.0,
              (x.kit, ap (slice_get kits_now) own ∙ kit_at seat x at, h.1),
              ap (λ (n : ℕ). map (λ (y : Step J O). y.out) (steps_of n s.steps)) (sym again) ∙ h.2,
              ap (λ (n : ℕ). map (λ (y : Step J O). y.job) (steps_of n s.steps)) (sym again) ∙ h.3,
            )

        pub each_lane : (lane : ℕ) → lane < length jobs → (os : Vec O Global) × OutsAt kits_now seats lane os
        each_lane lane lt =
            let seat : ℕ = lane % seats in let x = done seat (mod-lt lane some) in let js = item_at jobs lane lt in let h = lane_done seat x.1 x.0.worker x.4 lane js.0 x.3 refl js.1 in (h.0, h.1)

        pub serves_lanes : (outs : List (Vec O Global)) → length outs ≡ length jobs → ((lane : ℕ) (os : Vec O Global) → lane < length jobs → OutsAt kits_now seats lane os
            → slice_get outs lane ≡ Some os)
            → ServesLanes answers workers lists workers_now (map (λ (v : Vec O Global). v.items) outs)
        serves_lanes outs long given = let items : Vec O Global → List O = λ v. v.items in let lists_of : Vec J Global → List J = λ v. v.items in record {
          workers_stay = as_long (λ (w : W). Some w) worker_in workers_now after now_workers ∙ (stay ∙ sym many);
          lanes_stay = length-map outs items ∙ (long ∙ sym (length-map jobs lists_of));
          each = λ seat w at.
              let lt : seat < seats = let l = slice_get_within workers seat w at in omega arith in
              let x = done seat lt in
              let same : x.0.worker ≡ w = cc (sym x.2 ∙ at) in
              let s : Served seat seats answers jobs w x.1.worker x.1.kit.outs.items = subst (λ (v : W). Served seat seats answers jobs v x.1.worker x.1.kit.outs.items) same x.4 in (
                x.1.worker,
                worker_now seat x.1 x.3,
                record {
                  steps = s.steps;
                  answered = s.answered;
                  own = λ k d inside. let o = s.own k d inside in let n = length-map jobs lists_of in (
                    omega arith,
                    ap (λ (m : ℕ). (get_or s.steps k d).lane % m) many ∙ (ap (λ (l : ℕ). l % seats) o.1 ∙ seat_of_lane seat seats o.0 lt),
                  );
                  each = λ lane js own here.
                      let list = unmapped lists_of jobs lane js here in
                      let h = lane_done seat x.1 w s lane list.0 x.3 (ap (λ (m : ℕ). lane % m) (sym many) ∙ own) list.1 in
                      let out = given lane h.0 (slice_get_within jobs lane list.0 list.1) h.1 in
                      (mapped items outs lane h.0 out ∙ ap (λ (l : List O). Some l) (sym h.2), h.3 ∙ list.2);
                },
              );
        }
