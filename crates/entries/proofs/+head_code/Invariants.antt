use Rattle.entries.proofs.+head_code.Given as goal

abbrev pub decreases-head_code : goal.decreases-head_code
decreases-head_code l = l.node
