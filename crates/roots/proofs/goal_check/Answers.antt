-- `goal_check` meets its contract: 7 is told of a goal that is no part below N reading as a goal.
use Rattle.card.specs.Verdict.{where_of}
use Rattle.card.specs.Fault.{goal_fault}
use Rattle.roots.proofs.goal_check.Goals as goal

pub returns : goal.returns
unfolding goal_fault where_of
returns c =
    rw (c.goal_part-good.ensures, c.word.ensures.0, c.word-n.ensures.0)
    at c.refuse.ensures
