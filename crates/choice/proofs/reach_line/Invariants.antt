use Rattle.choice.proofs.LinesAtHand.{Left}
use Rattle.choice.proofs.reach_line.Given as goal

abbrev pub invariant-loop-b : goal.invariant-loop-b
invariant-loop-b l = Left l.card l.waits l.heads l.b l.name l.from l.hand

abbrev pub decreases-loop-b : goal.decreases-loop-b
decreases-loop-b l = l.hand.bits
