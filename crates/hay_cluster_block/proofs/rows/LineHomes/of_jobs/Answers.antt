use Rattle.std.proofs.Common.{◌≡◌, ◌<◌, ◌+◌, ◌++◌, ◌∷◌, [], ℕ, List, Vec, Global, Option, take, sym, ap, subst, ◌∙◌, append-nil}
use Rattle.std.specs.Prelude.{IfSome}
use Rattle.std.specs.Option.{option_or}
use Rattle.std.proofs.lemmas.Grind.{flat_map-append}
use Rattle.std.proofs.lemmas.List.{take_more}
use Rattle.hay_needle.specs.declared.needle.Pair.{Pair}
use Rattle.hay_directory.specs.State.{home_of}
use Rattle.hay_block.specs.declared.worker.Job.{Job}
use Rattle.hay_cluster_block.specs.Rows.{all_jobs, home_at}
use Rattle.hay_cluster_block.proofs.Homes.{home_at-append}
use Rattle.hay_cluster_block.proofs.rows.LineHomes.of_jobs.Goals as goal

pub loop-own-preserved : goal.loop-own-preserved
loop-own-preserved g c =
    let home : Pair → Option ℕ = home_of c.args.directory.now in
    let jobs : List (Vec Job Global) = c.args.jobs.now in
    let i : ℕ = c.loop-own.own-index in
    let own : Vec Job Global = c.own-item.result in
    let step : take (i + 1) jobs ≡ take i jobs ++ own ∷ [] = take_more jobs i own c.loop-own-test.true ∙ ap (λ z. take i jobs ++ z ∷ []) (sym c.own-item.is) in
    let more : all_jobs (take (i + 1) jobs) ≡ all_jobs (take i jobs) ++ own.items =
    ap all_jobs step ∙ (flat_map-append (λ (z : Vec Job Global). z.items) (take i jobs) (own ∷ []) ∙ ap (λ z. all_jobs (take i jobs) ++ z) (append-nil own.items)) in
    record {
      homes = λ line. c.in_ok-add_lane.ensures.homes line
          ∙ (ap (λ z. option_or z (home_at home c.as_slice.result.now line)) (c.loop-own.invariant.homes line)
          ∙ (ap (λ z. option_or (home_at home (all_jobs (take i jobs)) line) (home_at home z line)) c.as_slice.ensures.value
          ∙ (sym (home_at-append home (all_jobs (take i jobs)) own.items line) ∙ ap (λ z. home_at home z line) (sym more))));
      within = c.in_ok-add_lane.ensures.within c.loop-own.invariant.within;
    }

pub loop-own-init : goal.loop-own-init
loop-own-init g c = record { homes = c.new-homes.ensures; within = λ line. subst (λ (o : Option ℕ). IfSome o (λ v. v < c.args.directory.now.settings.volumes)) (sym (c.new-homes.ensures line)) tt }
