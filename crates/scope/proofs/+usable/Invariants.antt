use Rattle.scope.proofs.+usable.Given as goal

abbrev pub decreases-usable : goal.decreases-usable
decreases-usable l = l.node
