use Rattle.choice.specs.Inner.Choice.{NoneTakable}
use Rattle.choice.proofs.seek_on.Given as goal

abbrev pub invariant-loop-e : goal.invariant-loop-e
invariant-loop-e l = NoneTakable l.card l.waits l.heads l.b l.name l.from l.e
