use native.Mathlib.Omega.{arith}
use Rattle.card.proofs.format.line_node.Goals as goal

pub lines_start-requires : goal.lines_start-requires
lines_start-requires c = omega (arith, c.requires)

pub overflow_mul-i : goal.overflow_mul-i
overflow_mul-i c = omega (arith, c.well_formed, c.requires)

pub overflow_add-lines_start : goal.overflow_add-lines_start
overflow_add-lines_start c = omega (arith, c.well_formed, c.requires, c.lines_start.ensures.0)

pub word-requires : goal.word-requires
word-requires c = omega (arith, c.requires, c.lines_start.ensures.0)

pub returns : goal.returns
returns c = (rw c.lines_start.ensures.0 at c.word.ensures.0, c.word.ensures.1)
