-- `limits_check` meets its contract: 15 is told of two cards that are overfull.
use Rattle.card.specs.Verdict.{where_of}
use Rattle.limits.proofs.limits_check.Goals as goal

pub returns : goal.returns
unfolding where_of
returns c = rw c.is_overfull.ensures at c.refuse.ensures
