-- `check` meets its contract: each check that has passed leaves those after it.
use Rattle.std.proofs.Common.{refl}
use Rattle.std.proofs.lemmas.Result.{err_from_is_err_and}
use Rattle.card.specs.Fault.{first_fault}
use Rattle.card.proofs.FrontChecked.{framed}
use Rattle.card.proofs.CardChecked.{refused, passed, onward}
use Rattle.checks.proofs.check.Goals as goal

pub returns-in_err-front_check : goal.returns-in_err-front_check
unfolding first_fault
returns-in_err-front_check c =
    let p = err_from_is_err_and c.from_residual.result c.from_residual.ensures.1 in
    rw (p.1, p.2) (refused _ refl c.in_err-front_check.ensures)

pub nodes_check-requires : goal.nodes_check-requires
nodes_check-requires c = framed _ (passed _ _ refl c.in_ok-front_check.ensures)

pub returns-in_err-nodes_check : goal.returns-in_err-nodes_check
unfolding first_fault
returns-in_err-nodes_check c =
    let p = err_from_is_err_and c.from_residual-in_err-nodes_check.result c.from_residual-in_err-nodes_check.ensures.1 in
    rw (p.1, p.2) (onward (passed _ _ refl c.in_ok-front_check.ensures) (refused _ refl c.in_err-nodes_check.ensures))

pub goal_check-requires : goal.goal_check-requires
goal_check-requires c = framed _ (passed _ _ refl c.in_ok-front_check.ensures)

pub returns-in_err-goal_check : goal.returns-in_err-goal_check
unfolding first_fault
returns-in_err-goal_check c =
    let p = err_from_is_err_and c.from_residual-in_err-goal_check.result c.from_residual-in_err-goal_check.ensures.1 in
    rw (p.1, p.2)
    (onward (passed _ _ refl c.in_ok-front_check.ensures)
    (onward (passed _ _ refl c.in_ok-nodes_check.ensures) (refused _ refl c.in_err-goal_check.ensures)))

pub rules_check-requires : goal.rules_check-requires
rules_check-requires c = framed _ (passed _ _ refl c.in_ok-front_check.ensures)

pub returns-in_err-rules_check : goal.returns-in_err-rules_check
unfolding first_fault
returns-in_err-rules_check c =
    let p = err_from_is_err_and c.from_residual-in_err-rules_check.result c.from_residual-in_err-rules_check.ensures.1 in
    rw (p.1, p.2)
    (onward (passed _ _ refl c.in_ok-front_check.ensures)
    (onward (passed _ _ refl c.in_ok-nodes_check.ensures)
    (onward (passed _ _ refl c.in_ok-goal_check.ensures) (refused _ refl c.in_err-rules_check.ensures))))

pub lines_check-requires : goal.lines_check-requires
lines_check-requires c = framed _ (passed _ _ refl c.in_ok-front_check.ensures)

pub returns : goal.returns
unfolding first_fault
returns c =
    onward (passed _ _ refl c.in_ok-front_check.ensures)
    (onward (passed _ _ refl c.in_ok-nodes_check.ensures)
    (onward (passed _ _ refl c.in_ok-goal_check.ensures)
    (onward (passed _ _ refl c.in_ok-rules_check.ensures) c.lines_check.ensures)))
