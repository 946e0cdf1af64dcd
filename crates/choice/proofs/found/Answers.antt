-- The entry that was reached, or the least from one with a menu on.
use Rattle.std.proofs.Common.{arith}
use Rattle.choice.specs.Inner.Choice.{Seeks}
use Rattle.choice.proofs.found.Goals as goal

pub bounds-heads-e : goal.bounds-heads-e
bounds-heads-e c = omega (arith, c.requires.testing.few, c.requires.reached.inside)

pub returns-then-heads-e-lt1001 : goal.returns-then-heads-e-lt1001
unfolding Seeks
returns-then-heads-e-lt1001 c =
    record {
      onward = omega arith;
      inside = c.requires.reached.inside;
      takable = c.requires.reached.takable (omega arith);
      passed = λ x h k. absurd (omega arith);
    }
