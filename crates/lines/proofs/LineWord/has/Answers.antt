-- `lines::LineWord::has` meets its contract: the mask 1 leaves the digit. Assumes nothing.
use Rattle.std.proofs.Common.{sym, ap, ◌∙◌, ℕ, ◌/◌, ◌^◌, arith, rules}
use lib.Dec.{eqb}
use lib.Bits.{and_mask}
use borrow.Author.Tests.{le-ltb}
use Rattle.lines.specs.Set.{bit_at}
use Rattle.lines.proofs.LineLaws.{line_past}
use Rattle.lines.proofs.LineWord.has.Goals as goal

pub returns-then-i-lt64 : goal.returns-then-i-lt64
unfolding bit_at
returns-then-i-lt64 c = let a = c.args in ap (λ (x : ℕ). eqb x 1) (and_mask (a.self.bits / 2 ^ a.i) 1)

pub returns-else-i-lt64 : goal.returns-else-i-lt64
returns-else-i-lt64 c = le-ltb c.args.i 64 (omega arith) ∙ sym (line_past c.args.self c.args.i (search rules) (omega arith))
