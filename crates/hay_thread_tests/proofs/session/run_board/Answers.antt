use Rattle.std.proofs.Common.{◌≡◌, ◌<◌, List, map, length, rules, refl, Some, sym, ap, ◌∙◌, subst}
use Rattle.std.proofs.lemmas.List.{length-map}
use Rattle.hay_turn.specs.Seats.{AreAll, Closes}
use Rattle.hay_thread_tests.specs.Workers.{Seated}
use Rattle.hay_thread_tests.specs.LockedBoards.{IsOf}
use Rattle.hay_thread_tests.proofs.Running.{ready, come_back, were_answered, told}
use Rattle.hay_thread_tests.proofs.session.run_board.Goals as goal

pub new-requires-2-clause-start : goal.new-requires-2-clause-start
new-requires-2-clause-start g c = let made = c.in_ok-front.ensures in let empty = c.empty_board.ensures in (
  c.in_ok-front.front.shown,
  record { same_front = refl; base = made.2 ∙ ap Some (λ k. (empty k, (made.1 ∙ empty) k)); deeds = made.3; log = made.5; many = refl },
)

pub run_lanes-requires-clause-may : goal.run_lanes-requires-clause-may
run_lanes-requires-clause-may g c κs within = λ lane worker lines at here k d lt.
    let made = c.in-Ok.ensures.made in let seated = c.workers_of-workers.ensures in
    ready (λ w. w.turn.now) (λ w. w.seat) (λ w. w.view) _ made.0 _ _ _ c.workers_of-workers.result.items _ _ seated.seats seated.views made.3 c.in_ok-front.ensures.6
    made.1.same_front seated.turn lane worker at

pub close-locked-requires : goal.close-locked-requires
close-locked-requires g c = let made = c.in-Ok.ensures.made in
    let as_many : length c.in-Ok.made.1.items ≡ length c.args.jobs.now = search rules in
    let lists = length-map c.args.jobs.now (λ v. v.items) in
    subst (AreAll _) (sym c.seats_of-seats.ensures) (come_back (λ w. w.turn.now) (λ w. w.seat) (λ w. w.view) _ made.0 _ c.workers_of-workers.result.items _ _ (λ v. v.items)
    (λ v. map (λ o. o.items) v.items) c.run_lanes.result c.workers_and_answers-workers.result.0 c.workers_and_answers-workers.result.1
    c.workers_and_answers-workers.ensures c.run_lanes.ensures.answered c.run_lanes.ensures.refused c.workers_of-workers.ensures.seats made.3 (as_many ∙ sym lists) lists c.requires.some)

pub returns : goal.returns
returns g c = let made = c.in-Ok.ensures.made in
    let as_many : length c.in-Ok.made.1.items ≡ length c.args.jobs.now = search rules in
    let lists = length-map c.args.jobs.now (λ v. v.items) in
    let closes =
    subst (λ (sits : List Seated). Closes (λ act. act.tag.seat) (λ start acts d. IsOf start d.front d.posts acts) sits c.close-locked.result) c.seats_of-seats.ensures c.close-locked.ensures in
    let answered =
    were_answered (λ w. w.turn.now) (λ w. w.seat) (λ w. w.view) c.workers_of-workers.result.items _ (λ v. v.items) (λ v. map (λ o. o.items) v.items) c.run_lanes.result
    c.workers_and_answers-workers.result.0 c.workers_and_answers-workers.result.1 c.in_ok-outs.outs
    c.workers_and_answers-workers.ensures c.run_lanes.ensures.answered c.in_ok-outs.was in
    told (λ w. w.turn.now) (λ w. w.seat) (λ w. w.view) _ made.0 _ c.workers_of-workers.result.items c.workers_and_answers-workers.result.0.items _ _ _ closes.history
    c.close-log.result.items c.close-locked.result.front c.close-locked.result.posts
    c.workers_of-workers.ensures.seats made.3 (as_many ∙ sym lists) (subst (λ n. 0 < n) (sym lists) c.requires.some) answered closes.own closes.below closes.stands_for closes.seen c.close-log.ensures
