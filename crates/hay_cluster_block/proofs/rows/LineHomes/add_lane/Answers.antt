use Rattle.std.proofs.Common.{◌≡◌, ◌+◌, ◌++◌, ◌∷◌, [], ℕ, List, Option, take, sym, ap, ◌∙◌}
use Rattle.std.specs.Option.{option_or}
use Rattle.std.proofs.lemmas.List.{take_more}
use Rattle.hay_needle.specs.declared.needle.Pair.{Pair}
use Rattle.hay_directory.specs.State.{home_of}
use Rattle.hay_block.specs.declared.worker.Job.{Job}
use Rattle.hay_cluster_block.specs.Rows.{home_at, home_if, home_kept}
use Rattle.hay_cluster_block.proofs.Homes.{one_more}
use Rattle.hay_cluster_block.proofs.rows.LineHomes.add_lane.Goals as goal

pub loop-job-preserved : goal.loop-job-preserved
loop-job-preserved g c =
    let home : Pair → Option ℕ = home_of c.args.directory.now in
    let jobs : List Job = c.args.jobs.now in
    let i : ℕ = c.loop-job.job-index in
    let job : Job = c.job-item.result in
    let step : take (i + 1) jobs ≡ take i jobs ++ job ∷ [] = take_more jobs i job c.loop-job-test.true ∙ ap (λ z. take i jobs ++ z ∷ []) (sym c.job-item.is) in
    record {
      homes = λ line. c.in_ok-add.ensures.homes line
          ∙ (ap (λ z. option_or z (home_if home job line)) (c.loop-job.invariant.homes line)
          ∙ (one_more home (home_kept c.args.self.now line) (take i jobs) job line ∙ ap (λ z. option_or (home_kept c.args.self.now line) (home_at home z line)) (sym step)));
      within = λ was. c.in_ok-add.ensures.within (c.loop-job.invariant.within was);
    }
