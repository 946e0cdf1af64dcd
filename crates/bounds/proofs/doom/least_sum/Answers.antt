use Rattle.std.proofs.Common.{rules}
use Rattle.bounds.specs.Inner.Table.{least_at}
use Rattle.bounds.specs.Inner.Doom.{least_sum}
use Rattle.bounds.proofs.doom.least_sum.Goals as goal

pub returns : goal.returns
unfolding least_sum
returns c = (c.task_sum.ensures.total (least_at c.args.table.now) (λ row r h k. search rules), c.task_sum.ensures.at_most)
