use Rattle.bounds.specs.Inner.Table.{TableCells}
use Rattle.tables.proofs.fill.rounds.Given as goal

abbrev pub invariant-loop-turn : goal.invariant-loop-turn
invariant-loop-turn l = TableCells l.table
