use Rattle.std.proofs.Common.{arith}
use Rattle.bounds.specs.Inner.Table.{classes}
use Rattle.bounds.proofs.table.classes.Goals as goal

pub returns : goal.returns
unfolding classes
returns c = (c.min.ensures, omega (arith, c.min.ensures))
