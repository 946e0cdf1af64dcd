use Rattle.std.proofs.Common.{rules, arith, ltb-true}
use Rattle.bounds.specs.Inner.Table.{high_at}
use Rattle.bounds.specs.Inner.Doom.{high_sum}
use Rattle.bounds.proofs.doom.too_many.Goals as goal

pub returns-then-highest-lt255 : goal.returns-then-highest-lt255
unfolding high_sum
returns-then-highest-lt255 c =
    λ q.
    let highest = c.task_sum-highest in
    let most = highest.ensures.total (λ i. high_at c.args.table.now i c.args.c) (λ row r h k. search rules) in
    let above = ltb-true highest.result c.in_stock-items.result q in
    (omega (arith, c.if-highest-lt255.true, most), omega (arith, above, c.in_stock-items.ensures, most))
