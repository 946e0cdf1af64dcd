-- `kit_plan` meets its contract: the answer is an outcome, a refusal has a number, and the number reads as the outcome.
use Rattle.std.proofs.Common.{sym, subst}
use Rattle.planning.specs.Plan.{PlanVerdict, Planning}
use Rattle.planner.proofs.PlannedExactly.{plan_decided}
use Rattle.numbers.proofs.NumbersReadBack.{plan_nonzero}
use Rattle.planner_c.proofs.kit_plan.Goals as goal

pub packed_numbered-requires : goal.packed_numbered-requires
packed_numbered-requires c = plan_nonzero _ (plan_decided c.plan-answer.ensures)

pub returns-clause-planning : goal.returns-clause-planning
returns-clause-planning c =
    let s = c.args in
    subst (λ (v : PlanVerdict). Planning s.card.now s.sheet.now v c.plan-answer.new.sheet) (sym c.packed_numbered.ensures.plan) c.plan-answer.ensures
