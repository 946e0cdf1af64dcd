use Rattle.bounds.specs.Inner.Table.{TableCells}
use Rattle.tables.proofs.fill.widen_recipe.Given as goal

abbrev pub invariant-loop-c : goal.invariant-loop-c
invariant-loop-c l = TableCells l.table
