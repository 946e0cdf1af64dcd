-- The classes so far allow the use.
use native.Mathlib.Omega.{arith}
use Rattle.bounds.proofs.WaysSmall.{clause_node, way_starts}
use borrow.Author.Count.{below_more}
use Rattle.node_bounds.proofs.ChecksDecide.{holds, fails, unmet}
use Rattle.tables.proofs.check.ways_settled.Goals as goal

pub loop-c-init : goal.loop-c-init
loop-c-init c = λ k h. absurd (omega arith)

pub weight-w-requires : goal.weight-w-requires
weight-w-requires c =
    let n = clause_node c.requires.table_held.sound c.requires.clause in
    (n.few, (omega (arith, c.classes-c-end.ensures.1), c.requires.table_held.names_held))

pub ways_fit-requires : goal.ways_fit-requires
ways_fit-requires c = record {
  table_held = c.requires.table_held;
  clause = (c.requires.clause, omega (arith, c.classes-c-end.ensures.1));
  on_way = way_starts (clause_node c.requires.table_held.sound c.requires.clause) c.weight-w.ensures.1;
}

pub returns-then-not-ways_fit : goal.returns-then-not-ways_fit
returns-then-not-ways_fit c =
    fails
    (λ u.
    unmet (rw c.weight-w.ensures.0 at c.ways_fit.ensures) c.if-not-ways_fit.true
    (u.class c.loop-c.c (omega (arith, c.classes-c-end.ensures.0))))

pub loop-c-preserved : goal.loop-c-preserved
loop-c-preserved c =
    below_more _ _ c.loop-c.invariant (rw c.weight-w.ensures.0 at (c.ways_fit.ensures.0 c.if-not-ways_fit.false))

pub returns : goal.returns
returns c =
    holds
    (record {
      class = λ k l.
          c.loop-c.invariant k (omega (arith, c.classes-c-end.ensures.0));
    })
