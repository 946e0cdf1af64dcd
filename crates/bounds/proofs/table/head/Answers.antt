use Rattle.std.proofs.Common.{refl}
use Rattle.bounds.specs.Inner.Table.{head_at}
use Rattle.bounds.proofs.table.head.Goals as goal

pub returns : goal.returns
unfolding head_at
returns c = (refl, c.requires.1.word c.args.i)
