use Rattle.std.proofs.Common.{◌+◌, ◌*◌, refl}
use Rattle.bounds.specs.Inner.Table.{high_at}
use Rattle.bounds.proofs.table.high.Goals as goal

pub returns : goal.returns
unfolding high_at
returns c = (refl, c.requires.1.1.byte (32832 + (c.args.i * 64 + c.args.c)))
