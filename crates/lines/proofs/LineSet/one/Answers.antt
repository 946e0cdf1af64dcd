-- `lines::LineSet::one` meets its contract: an item's word is its quotient by 64. Assumes nothing.
use Rattle.std.proofs.Common.{sym, ◌∙◌, arith}
use Rattle.lines.specs.Set.{empty_s, word_s, keep}
use Rattle.lines.proofs.Place.{one_at, one_past}
use Rattle.lines.proofs.LineSet.one.Goals as goal

pub returns-then-i-lt64 : goal.returns-then-i-lt64
unfolding empty_s word_s keep
returns-then-i-lt64 c = rw c.empty-none.ensures (one_at c.args.i 0 (omega arith))

pub returns-then-i-lt128 : goal.returns-then-i-lt128
unfolding empty_s word_s keep
returns-then-i-lt128 c = rw c.empty-none.ensures (one_at c.args.i 1 (omega arith))

pub returns-then-i-lt-LIMIT : goal.returns-then-i-lt-LIMIT
unfolding empty_s word_s keep
returns-then-i-lt-LIMIT c = rw c.empty-none.ensures (one_at c.args.i 2 (omega arith))

pub returns-else-i-lt-LIMIT : goal.returns-else-i-lt-LIMIT
returns-else-i-lt-LIMIT c = c.empty-none.ensures ∙ sym (one_past c.args.i (omega arith))
