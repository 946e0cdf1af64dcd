use Rattle.std.proofs.Common.{arith}
use Rattle.bounds.specs.Inner.Table.{row_of}
use Rattle.bounds.proofs.table.row.Goals as goal

pub returns : goal.returns
unfolding row_of
returns c = (c.min.ensures, omega (arith, c.min.ensures))
