use Rattle.std.proofs.Common.{◌+◌, refl}
use Rattle.bounds.specs.Inner.Table.{least_at}
use Rattle.bounds.proofs.table.least.Goals as goal

pub returns : goal.returns
unfolding least_at
returns c = (refl, c.requires.1.byte (65664 + c.args.i))
