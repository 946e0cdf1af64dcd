-- No entry from the given one up to the loop's can be used.
use Rattle.std.proofs.Common.{true, false, arith}
use Rattle.choice.specs.Inner.Choice.{Reaches}
use Rattle.choice.proofs.EntriesPassed.{none_more}
use Rattle.choice.proofs.LinesAtHand.{takes}
use Rattle.choice.proofs.reach.Goals as goal

pub returns-then-not-passes : goal.returns-then-not-passes
unfolding Reaches
returns-then-not-passes c =
    record {
      onward = c.loop-e.auto.e;
      ends = c.loop-e-test.true;
      reached = record {
        inside = omega arith;
        takable = λ k. takes _ _ _ _ _ _ true (omega arith) (c.passes.ensures.usable c.if-not-passes.true k);
      };
      passed = c.loop-e.invariant;
    }

pub loop-e-preserved : goal.loop-e-preserved
loop-e-preserved c =
    none_more _ _ _ _ _ _ c.loop-e.invariant
    (takes _ _ _ _ _ _ false (omega arith) (c.passes.ensures.unusable c.if-not-passes.false))

pub returns : goal.returns
unfolding Reaches
returns c = λ x h k. c.loop-e.invariant x h (omega arith)
