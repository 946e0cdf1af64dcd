use Rattle.card.specs.Verdict.{told, refuse}
use Rattle.card.proofs.refuse.Goals as goal

pub returns-then-applies : goal.returns-then-applies
unfolding told refuse
returns-then-applies c = rw c.if-applies.true

pub returns : goal.returns
unfolding told refuse
returns c = rw c.if-applies.false
