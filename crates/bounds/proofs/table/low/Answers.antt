use Rattle.std.proofs.Common.{◌+◌, ◌*◌, refl}
use Rattle.bounds.specs.Inner.Table.{low_at}
use Rattle.bounds.proofs.table.low.Goals as goal

pub returns : goal.returns
unfolding low_at
returns c = (refl, c.requires.1.1.byte (c.args.i * 64 + c.args.c))
