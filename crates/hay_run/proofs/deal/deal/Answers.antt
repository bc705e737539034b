use Rattle.std.proofs.Common.{Vec, Global, ◌++◌, ◌∷◌, [], sym, ap, ◌∙◌}
use Rattle.std.proofs.lemmas.Result.{on_ok_weaker}
use Rattle.hay_legal.specs.Items.{InBlock}
use Rattle.hay_block.specs.declared.worker.Job.{Job}
use Rattle.hay_run.specs.Blocks.{job_of}
use Rattle.hay_run.proofs.Dealing.{dealt_more}
use Rattle.hay_run.proofs.deal.deal.Goals as goal

pub returns-clause-jobs : goal.returns-clause-jobs
returns-clause-jobs c =
    on_ok_weaker c.add_job.result (λ more. dealt_more c.args.jobs.now c.line.inside.lane c.args.line c.index-jobs-line.result c.add_job.new.own
    (ap (λ (line : InBlock). line.lane) c.line.view_is) c.requires
    c.index-jobs-line.is (more ∙ ap (λ (own : Vec Job Global). own.items ++ job_of c.args.line ∷ []) (sym c.index-jobs-line.is))) c.add_job.ensures.job
