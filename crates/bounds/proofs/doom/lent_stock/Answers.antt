-- The lent clauses before the present one are counted.
use Rattle.std.proofs.Common.{refl, ap, add-one, arith}
use Rattle.bounds.specs.Inner.Doom.{lent_stock}
use Rattle.lines.specs.Count.{bit, number}
use Rattle.bounds.proofs.doom.lent_stock.Goals as goal
use Rattle.bounds.proofs.doom.lent_stock.Goals.{then-held, else-held}

pub loop-k-init : goal.loop-k-init
unfolding lent_stock number
loop-k-init c = (refl, omega arith)

pub loop-k-preserved : goal.loop-k-preserved
unfolding lent_stock number bit
loop-k-preserved c =
    let a = c.args in
    let e = ap (lent_stock a.names.now a.nodes.now a.s a.lines a.first a.c) (add-one c.loop-k.k) in
    let b = ap bit c.held.ensures in
    elim c.if-held.branch [
      | then-held w ↦ (omega (arith, e, b, ap bit w.if-held.true), omega arith)
      | else-held w ↦ (omega (arith, e, b, ap bit w.if-held.false), omega arith)
    ]
