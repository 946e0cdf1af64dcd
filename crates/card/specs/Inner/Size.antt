-- "nesting, steps left and formula size give the falling number" (01): the size of what is walked or sought of a goal, and of a clause in use.
use Rattle.std.specs.Prelude.{ℕ, ◌+◌}
use Rattle.calculus.specs.Formula.{Goal, Clause, atomᴳ, topᴳ, oneᴳ, zeroᴳ, tensor, with, oplus, lolliᴳ, atomᴰ, topᴰ, lolliᴰ, withᴰ}

unfoldable pub weight : Goal → ℕ
weight (atomᴳ a) = 1
weight topᴳ = 1
weight oneᴳ = 1
weight zeroᴳ = 1
weight (tensor G H) = 1 + weight G + weight H
weight (with G H) = 1 + weight G + weight H
weight (oplus G H) = 1 + weight G + weight H
weight (lolliᴳ D G) = 1 + weight G

unfoldable pub clause_weight : Clause → ℕ
clause_weight (atomᴰ a) = 1
clause_weight topᴰ = 1
clause_weight (lolliᴰ G D) = 1 + weight G + clause_weight D
clause_weight (withᴰ D E) = 1 + clause_weight D + clause_weight E
