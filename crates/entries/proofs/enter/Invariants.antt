use Rattle.std.proofs.Common.{◌+◌, ◌≡◌, ◌++◌, take}
use Rattle.card.specs.Format.{rule_node, line_node, listing}
use Rattle.entries.specs.Inner.Entries.{Entered}
use Rattle.entries.proofs.enter.Given as goal

abbrev pub invariant-loop-i : goal.invariant-loop-i
invariant-loop-i l = record {
  entered : Entered l.card l.nodes l.heads (l.rules + l.i);
  listed : take (l.rules + l.i) l.nodes ≡ listing l.rules (rule_node l.card) ++ listing l.i (line_node l.card);
}
