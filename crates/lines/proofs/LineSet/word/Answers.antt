-- `lines::LineSet::word` meets its contract: an item's word is its quotient by 64. Assumes nothing.
use Rattle.std.proofs.Common.{arith}
use Rattle.lines.specs.Set.{word_of}
use Rattle.lines.proofs.Place.{word_at, word_past}
use Rattle.lines.proofs.LineSet.word.Goals as goal

pub returns-then-i-lt64 : goal.returns-then-i-lt64
unfolding word_of
returns-then-i-lt64 c = word_at c.args.self c.args.i 0 (omega arith)

pub returns-then-i-lt128 : goal.returns-then-i-lt128
unfolding word_of
returns-then-i-lt128 c = word_at c.args.self c.args.i 1 (omega arith)

pub returns-then-i-lt-LIMIT : goal.returns-then-i-lt-LIMIT
unfolding word_of
returns-then-i-lt-LIMIT c = word_at c.args.self c.args.i 2 (omega arith)

pub returns-else-i-lt-LIMIT : goal.returns-else-i-lt-LIMIT
returns-else-i-lt-LIMIT c = word_past c.args.self c.args.i (omega arith)
