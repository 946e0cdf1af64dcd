use Prim.Native.Nat.{ℕ, ◌<◌}
use mathlib.Core.Bool.{◌&&◌}
use Rattle.card.specs.Decode.{clause_of}
use Rattle.lines.specs.Count.{bit}
use Rattle.bounds.specs.Inner.Table.{in_class, WaysFit}
use Rattle.tables.proofs.check.ways_settled.Given as goal

abbrev pub invariant-loop-c : goal.invariant-loop-c
invariant-loop-c l =
    (k : ℕ) → k < l.c
    → WaysFit l.card l.names l.table (clause_of l.card l.i) l.i k 1 (bit (l.linear && in_class l.names l.i k)) (bit (l.linear && in_class l.names l.i k))
