use Rattle.bounds.specs.Inner.Table.{NameCells}
use Rattle.tables.proofs.fill.fill_rows.Given as goal

abbrev pub invariant-loop-a : goal.invariant-loop-a
invariant-loop-a l = NameCells l.names

abbrev pub invariant-loop-i : goal.invariant-loop-i
invariant-loop-i l = NameCells l.names
