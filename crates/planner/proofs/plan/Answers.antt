-- `plan` meets its contract: 1 to 9, or the outcome of what comes after them.
use Rattle.std.proofs.lemmas.Result.{err_from_is_err_and}
use Rattle.planning.specs.Plan.{told_plan, faulty}
use Rattle.planner.proofs.plan.Goals as goal

pub returns-in_err-card : goal.returns-in_err-card
unfolding told_plan
returns-in_err-card c =
    let p = err_from_is_err_and c.from_residual.result c.from_residual.ensures.1 in
    rw (p.1, p.2) (faulty c.in_err-card.ensures)

pub returns : goal.returns
returns c = rw c.in_ok-card.ensures.0 at c.plan_sound.ensures
