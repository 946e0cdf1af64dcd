use Rattle.std.proofs.Common.{◌≡◌}
use Rattle.dead.specs.Inner.Rows.{key_sum}
use Rattle.dead.proofs.row_of.Given as goal

abbrev pub invariant-loop-i : goal.invariant-loop-i
invariant-loop-i l = l.sum ≡ key_sum l.agenda l.fn.b l.i
