use Rattle.std.proofs.Common.{rules}
use Rattle.jobs.specs.Jobs.{job_period, job_budget}
use Rattle.dispatcher.specs.Starts.{fresh_task}
use Rattle.dispatcher.specs.Steps.{fresh_by}
use Rattle.dispatcher.proofs.Starting.{fresh_list}
use Rattle.dispatcher.proofs.fill_from_list.Goals as goal

pub returns : goal.returns
unfolding fresh_by
returns c =
    let p = job_period c.args.list.now in
    let e = job_budget c.args.list.now in
    fresh_list p e c.args.n _ _ (search rules) c.in_order-order.ensures.tasks (c.fill.ensures (λ j. fresh_task (p j) (e j) 1 j) (λ j u l k. search rules))
