use Rattle.std.proofs.Common.{◌≡◌, ◌≤◌}
use Rattle.bounds.specs.Inner.Doom.{lent_stock}
use Rattle.bounds.proofs.doom.lent_stock.Given as goal

abbrev pub invariant-loop-k : goal.invariant-loop-k
invariant-loop-k l = (l.sum ≡ lent_stock l.names l.nodes l.s l.lines l.first l.c l.k) × (l.sum ≤ l.k)
