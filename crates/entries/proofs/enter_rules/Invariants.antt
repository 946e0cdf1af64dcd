use Rattle.std.proofs.Common.{◌≡◌, take}
use Rattle.card.specs.Format.{rule_node, listing}
use Rattle.entries.specs.Inner.Entries.{Entered}
use Rattle.entries.proofs.enter_rules.Given as goal

abbrev pub invariant-loop-i : goal.invariant-loop-i
invariant-loop-i l = record {
  entered : Entered l.card l.nodes l.heads l.i;
  listed : take l.i l.nodes ≡ listing l.i (rule_node l.card);
}
