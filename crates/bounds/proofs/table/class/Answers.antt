use Rattle.std.proofs.Common.{◌+◌, refl}
use Rattle.bounds.specs.Inner.Table.{class_at}
use Rattle.bounds.proofs.table.class.Goals as goal

pub returns : goal.returns
unfolding class_at
returns c = (refl, c.requires.1.word (1512 + c.args.c))
