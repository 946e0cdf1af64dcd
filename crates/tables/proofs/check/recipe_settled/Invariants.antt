use Prim.Native.Nat.{ℕ, ◌+◌, ◌<◌}
use mathlib.Core.Bool.{◌&&◌}
use Rattle.lines.specs.Count.{bit}
use Rattle.bounds.specs.Inner.Table.{in_class, least_at, low_at, high_at, RowFits}
use Rattle.tables.proofs.check.recipe_settled.Given as goal

abbrev pub invariant-loop-c : goal.invariant-loop-c
invariant-loop-c l =
    (k : ℕ) → k < l.c
    → RowFits l.table l.r k (1 + least_at l.table l.g) (bit (l.linear && in_class l.names l.i k) + low_at l.table l.g k)
    (bit (l.linear && in_class l.names l.i k) + high_at l.table l.g k)
