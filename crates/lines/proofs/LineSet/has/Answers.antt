-- `lines::LineSet::has` meets its contract: the mask 1 leaves the digit. Assumes nothing.
use Rattle.std.proofs.Common.{ap, ◌∙◌, ℕ, ◌/◌, ◌%◌, ◌^◌}
use lib.Dec.{eqb}
use lib.Bits.{and_mask}
use Rattle.lines.specs.Set.{member, bit_at}
use Rattle.lines.proofs.LineSet.has.Goals as goal

pub returns : goal.returns
unfolding member bit_at
returns c =
    let j = c.args.i % 64 in
    ap (λ (x : ℕ). eqb x 1) (and_mask (c.word.result / 2 ^ j) 1) ∙ ap (λ (w : ℕ). bit_at w j) c.word.ensures
