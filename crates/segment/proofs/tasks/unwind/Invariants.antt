use Rattle.segment.specs.Inner.Tasks.{total, Unwound}
use Rattle.segment.proofs.tasks.unwind.Given as goal

abbrev pub invariant-loop-c : goal.invariant-loop-c
invariant-loop-c l = Unwound l.card l.initial.agenda l.agenda l.initial.c l.c

abbrev pub decreases-loop-c : goal.decreases-loop-c
decreases-loop-c l = total l.card l.agenda l.c.len
