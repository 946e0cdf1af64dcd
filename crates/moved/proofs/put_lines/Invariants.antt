use Rattle.joined.specs.Joined.{moved_line, in_turn}
use Rattle.joined.specs.Inner.Written.{Written}
use Rattle.moved.proofs.put_lines.Given as goal

abbrev pub invariant-loop-i : goal.invariant-loop-i
invariant-loop-i l = Written l.initial.out l.out l.at (in_turn l.i (moved_line l.n l.card))
