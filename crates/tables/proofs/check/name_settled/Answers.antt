-- The classes so far allow the use.
use native.Mathlib.Omega.{arith}
use borrow.Author.Count.{below_more}
use Rattle.node_bounds.proofs.ChecksDecide.{holds, fails, unmet}
use Rattle.tables.proofs.check.name_settled.Goals as goal

pub loop-c-init : goal.loop-c-init
loop-c-init c = λ k h. absurd (omega arith)

pub returns-then-not-row_fits : goal.returns-then-not-row_fits
returns-then-not-row_fits c =
    fails
    (λ u.
    unmet (rw c.weight-w.ensures.0 at c.row_fits.ensures) c.if-not-row_fits.true
    (u.class c.loop-c.c (omega (arith, c.classes-c-end.ensures.0))))

pub loop-c-preserved : goal.loop-c-preserved
loop-c-preserved c =
    below_more _ _ c.loop-c.invariant (rw c.weight-w.ensures.0 at (c.row_fits.ensures.0 c.if-not-row_fits.false))

pub returns : goal.returns
returns c =
    holds
    (record {
      class = λ k l.
          c.loop-c.invariant k (omega (arith, c.classes-c-end.ensures.0));
    })
