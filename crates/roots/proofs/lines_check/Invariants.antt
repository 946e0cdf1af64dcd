use Rattle.std.proofs.Common.{◌≡◌}
use Rattle.card.specs.Verdict.{first_of, sound}
use Rattle.card.specs.Fault.{line_fault}
use Rattle.roots.proofs.lines_check.Given as goal

abbrev pub invariant-loop-i : goal.invariant-loop-i
invariant-loop-i l = first_of l.i (line_fault l.card) ≡ sound
