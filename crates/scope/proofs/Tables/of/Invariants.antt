use Rattle.std.proofs.Common.{◌≡◌, ◌+◌, ◌++◌}
use Rattle.card.specs.Format.{listing}
use Rattle.card.specs.Decode.{rule_entry, line_entry}
use Rattle.scope.specs.Inner.Tables.{table_scope, TableEntered}
use Rattle.scope.proofs.Tables.of.Given as goal

abbrev pub invariant-loop-i : goal.invariant-loop-i
invariant-loop-i l = record {
  entered : TableEntered l.card l.tables.nodes l.tables.linear (l.rules + l.i);
  entries :
      (table_scope l.card l.tables.nodes l.tables.linear (l.rules + l.i)).entries
      ≡ listing l.rules (rule_entry l.card) ++ listing l.i (line_entry l.card);
}
