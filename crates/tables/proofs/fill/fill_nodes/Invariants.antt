use Rattle.bounds.specs.Inner.Table.{TableCells}
use Rattle.tables.proofs.fill.fill_nodes.Given as goal

abbrev pub invariant-loop-i : goal.invariant-loop-i
invariant-loop-i l = TableCells l.table
