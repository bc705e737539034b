use Rattle.std.proofs.Common.{◌≡◌, ℕ, ◌++◌, ◌∷◌, [], List, Vec, Global, map, length, refl, sym, ap, subst, ◌∙◌, arith}
use Rattle.std.specs.Vec.Iter.{into_iter_items}
use Rattle.std.proofs.lemmas.List.{with_items_is}
use Rattle.hay_legal.specs.Items.{InBlock}
use Rattle.hay_block.specs.declared.worker.Job.{Job}
use Rattle.hay_run.specs.declared.deal.Place.{Place}
use Rattle.hay_run.specs.Blocks.{AreJobs, ArePlaces, lane_jobs, with_job}
use Rattle.hay_run.proofs.Dealing.{each_mapped, jobs_done, jobs_long, jobs_many, jobs_more, line_dealt, length_mapped, next_low, no_jobs, no_places, places_done, places_more}
use Rattle.hay_run.proofs.deal.deal_lines.Goals as goal

none_left : {X : Type 0} (xs : List X) → length xs ≡ 0 → xs ≡ []
none_left [] e = refl
none_left (x ∷ xs) e = absurd (omega (arith, e))

pub loop-line-init : goal.loop-line-init
loop-line-init c = record {
  done = [];
  all = c.into_iter-line-iterator.ensures.into_iter_gives.0;
  jobs = no_jobs c.args.lanes (map (λ own. own.items) c.in_ok-jobs.jobs.items)
      (length_mapped (λ (own : Vec Job Global). own.items) c.in_ok-jobs.jobs.items ∙ sym c.in_ok-jobs.jobs.ok.0 ∙ c.in_ok-jobs.ensures.many)
      (each_mapped (λ (own : Vec Job Global). own.items) (λ (l : List Job). l ≡ []) c.in_ok-jobs.jobs.items c.in_ok-jobs.ensures.none);
  places = subst (λ (l : List Place). ArePlaces [] l) (sym c.new-places.ensures.items) no_places;
}

pub deal-requires : goal.deal-requires
deal-requires c =
    let inv = c.loop-line.invariant in
    let low =
    next_low c.args.lanes inv.done (into_iter_items c.next.new.self) (into_iter_items c.loop-line.line-iterator) c.args.lines.items c.in-Some.line (c.in-Some.ensures.steps).0 inv.all c.requires in
    let long = jobs_long c.args.lanes inv.done c.loop-line.jobs.items inv.jobs in
    let same = ap length c.as_mut_slice.ensures.value in
    omega (arith, low, long, same)

pub loop-line-preserved : goal.loop-line-preserved
loop-line-preserved c =
    let inv = c.loop-line.invariant in
    let lanes : ℕ = c.args.lanes in
    let line : InBlock = c.in-Some.line in
    let place : Place = c.in_ok-place.place in
    let jobs : List (Vec Job Global) = c.loop-line.jobs.items in
    let lists : List (List Job) = map (λ own. own.items) jobs in
    let behind = into_iter_items c.next.new.self in
    let before = into_iter_items c.loop-line.line-iterator in
    let step = (c.in-Some.ensures.steps).0 in
    let low = next_low lanes inv.done behind before c.args.lines.items line step inv.all c.requires in
    let now = c.as_mut_slice.ensures.value in
    let kept = with_items_is c.loop-line.jobs c.deal.new.jobs (c.deal.auto.jobs ∙ c.as_mut_slice.ensures.len) in
    let dealt : map (λ own. own.items) c.deal.new.jobs ≡ with_job lists line =
    subst (λ (l : List (Vec Job Global)). map (λ own. own.items) c.deal.new.jobs ≡ with_job (map (λ own. own.items) l) line) now c.in_ok-place.ensures.jobs in
    let stands : place ≡ record { line = line.line; lane = line.lane; nth = length (lane_jobs lists line.lane) } =
    subst (λ (l : List (Vec Job Global)). place ≡ record { line = line.line; lane = line.lane; nth = length (lane_jobs (map (λ own. own.items) l) line.lane) }) now c.in_ok-place.ensures.place in
    let at : ℕ → Place = λ n. record { line = line.line; lane = line.lane; nth = n } in
    record {
      done = inv.done ++ line ∷ [];
      all = line_dealt inv.done behind before c.args.lines.items line step inv.all;
      jobs = subst (λ (l : List (Vec Job Global)). AreJobs lanes (inv.done ++ line ∷ []) (map (λ own. own.items) l)) (sym kept)
          (subst (λ (l : List (List Job)). AreJobs lanes (inv.done ++ line ∷ []) l) (sym dealt) (jobs_more lanes inv.done lists line low inv.jobs));
      places = subst (λ (l : List Place). ArePlaces (inv.done ++ line ∷ []) l) (sym {A = List Place} c.in_ok-push.ensures.items)
          (places_more inv.done c.loop-line.places.items line place inv.places (stands ∙ ap at (jobs_many lanes inv.done lists line.lane low inv.jobs)));
    }

pub returns-clause-jobs : goal.returns-clause-jobs
returns-clause-jobs c =
    let inv = c.loop-line.invariant in
    let rest = into_iter_items c.loop-line.line-iterator in
    jobs_done c.args.lanes inv.done rest c.args.lines.items (map (λ own. own.items) c.loop-line.jobs.items) inv.jobs inv.all
    (none_left rest (sym c.loop-line.line-iterator.rest.ok.0 ∙ (c.in-None.ensures.steps).0))

pub returns-clause-places : goal.returns-clause-places
returns-clause-places c =
    let inv = c.loop-line.invariant in
    let rest = into_iter_items c.loop-line.line-iterator in
    places_done inv.done rest c.args.lines.items c.loop-line.places.items inv.places inv.all
    (none_left rest (sym c.loop-line.line-iterator.rest.ok.0 ∙ (c.in-None.ensures.steps).0))
