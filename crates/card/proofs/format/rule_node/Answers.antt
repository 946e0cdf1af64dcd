use native.Mathlib.Omega.{arith}
use Rattle.card.proofs.format.rule_node.Goals as goal

pub rules_start-requires : goal.rules_start-requires
rules_start-requires c = omega (arith, c.requires)

pub overflow_mul-i : goal.overflow_mul-i
overflow_mul-i c = omega (arith, c.well_formed, c.requires)

pub overflow_add-rules_start : goal.overflow_add-rules_start
overflow_add-rules_start c = omega (arith, c.well_formed, c.requires, c.rules_start.ensures.0)

pub word-requires : goal.word-requires
word-requires c = omega (arith, c.requires, c.rules_start.ensures.0)

pub returns : goal.returns
returns c = (rw c.rules_start.ensures.0 at c.word.ensures.0, c.word.ensures.1)
