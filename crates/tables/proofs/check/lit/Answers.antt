use Prim.Native.Nat.{ℕ, ◌/◌, ◌^◌}
use mathlib.Core.Path.{ap}
use lib.Dec.{eqb}
use lib.Bits.{and_mask}
use Rattle.lines.specs.Set.{bit_at}
use Rattle.tables.proofs.check.lit.Goals as goal

pub returns : goal.returns
unfolding bit_at
returns c = ap (λ (x : ℕ). eqb x 1) (and_mask (c.args.word / 2 ^ c.args.i) 1)
