use Rattle.bounds.proofs.CellsKept.{table_set}
use Rattle.tables.proofs.fill.put.Goals as goal

pub returns : goal.returns
returns c = table_set c.args.at c.capped.result c.requires.1 c.requires.0 c.capped.ensures
