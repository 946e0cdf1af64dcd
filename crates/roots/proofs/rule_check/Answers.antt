-- `rule_check` meets its contract: 8 is told of a rule whose test fails.
use Rattle.card.specs.Verdict.{where_of}
use Rattle.card.specs.Fault.{rule_fault}
use Rattle.roots.proofs.rule_check.Goals as goal

pub returns : goal.returns
unfolding rule_fault where_of
returns c =
    rw (c.clause_part-good.ensures, c.word-n.ensures.0, c.rule_node.ensures.0)
    at c.refuse.ensures
