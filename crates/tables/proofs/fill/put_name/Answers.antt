use Rattle.bounds.proofs.CellsKept.{name_set}
use Rattle.tables.proofs.fill.put_name.Goals as goal

pub returns : goal.returns
returns c = name_set c.args.at c.args.v c.requires.1.1 c.requires.0 c.requires.1.0
