use Rattle.bounds.specs.Inner.Table.{NameCells}
use Rattle.tables.proofs.fill.line_classes.Given as goal

abbrev pub invariant-loop-i : goal.invariant-loop-i
invariant-loop-i l = NameCells l.names
