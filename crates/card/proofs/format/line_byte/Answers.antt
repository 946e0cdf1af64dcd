use native.Mathlib.Omega.{arith}
use Rattle.card.proofs.format.line_byte.Goals as goal

pub lines_start-requires : goal.lines_start-requires
lines_start-requires c = omega (arith, c.requires)

pub overflow_mul-i : goal.overflow_mul-i
overflow_mul-i c = omega (arith, c.well_formed, c.requires)

pub overflow_add-lines_start : goal.overflow_add-lines_start
overflow_add-lines_start c = omega (arith, c.well_formed, c.requires, c.lines_start.ensures.0)

pub overflow_add-lines_start-2 : goal.overflow_add-lines_start-2
overflow_add-lines_start-2 c = omega (arith, c.well_formed, c.requires, c.lines_start.ensures.0)

pub byte-requires : goal.byte-requires
byte-requires c = omega (arith, c.requires, c.lines_start.ensures.0)

pub returns : goal.returns
returns c = (rw c.lines_start.ensures.0 at c.byte.ensures.0, c.byte.ensures.1)
