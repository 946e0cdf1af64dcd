-- No entry from the given one up to the loop's is usable.
use Rattle.std.proofs.Common.{sym, ◌∙◌, arith}
use Rattle.choice.specs.Inner.Choice.{Seeks}
use Rattle.choice.proofs.EntriesPassed.{none_more}
use Rattle.choice.proofs.seek_on.Goals as goal

pub returns-then-usable : goal.returns-then-usable
unfolding Seeks
returns-then-usable c =
    record {
      onward = c.loop-e.auto.e;
      inside = omega arith;
      takable = sym c.usable.ensures ∙ c.if-usable.true;
      passed = c.loop-e.invariant;
    }

pub loop-e-preserved : goal.loop-e-preserved
loop-e-preserved c = none_more _ _ _ _ _ _ c.loop-e.invariant (sym c.usable.ensures ∙ c.if-usable.false)

pub returns : goal.returns
unfolding Seeks
returns c = λ x a b. c.loop-e.invariant x a (omega arith)
