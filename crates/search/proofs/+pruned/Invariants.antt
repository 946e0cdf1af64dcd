use mathlib.Core.Bool.{cond}
use Rattle.search.proofs.+pruned.Given as goal

abbrev pub decreases-pruned : goal.decreases-pruned
decreases-pruned l = cond l.bounded 1 0
