use Rattle.tables.proofs.fill.+widen_ways.Given as goal

abbrev pub decreases-widen_ways : goal.decreases-widen_ways
decreases-widen_ways l = l.i
