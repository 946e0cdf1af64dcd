use Prim.Native.Nat.{ℕ, ◌<◌}
use mathlib.Core.Bool.{◌&&◌}
use Rattle.lines.specs.Count.{bit}
use Rattle.bounds.specs.Inner.Table.{in_class, RowFits}
use Rattle.tables.proofs.check.name_settled.Given as goal

abbrev pub invariant-loop-c : goal.invariant-loop-c
invariant-loop-c l =
    (k : ℕ) → k < l.c → RowFits l.table l.r k 1 (bit (l.linear && in_class l.names l.i k)) (bit (l.linear && in_class l.names l.i k))
