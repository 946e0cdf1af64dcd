use Rattle.std.proofs.Common.{rules, ap, arith, ltb-true}
use Rattle.bounds.specs.Inner.Table.{low_at}
use Rattle.bounds.specs.Inner.Doom.{stock, low_sum}
use Rattle.bounds.proofs.doom.too_few.Goals as goal

pub returns-then-lowest-ne0 : goal.returns-then-lowest-ne0
unfolding low_sum
returns-then-lowest-ne0 c =
    λ q.
    let a = c.args in
    let lowest = c.task_sum-lowest in
    let least = lowest.ensures.total (λ i. low_at a.table.now i a.c) (λ row r h k. search rules) in
    let have = ap (λ x. stock a.card.now a.names.now a.masks.now a.nodes.now a.count x a.c) c.join.ensures in
    omega (arith, ltb-true c.in_stock.result lowest.result q, have, c.in_stock.ensures, least)
