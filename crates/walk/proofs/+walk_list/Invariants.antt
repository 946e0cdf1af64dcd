use Prim.Native.Nat.{◌+◌}
use Rattle.walk.proofs.CallsAreReady.{ahead, goal_number, clause_number}
use Rattle.walk.proofs.+walk_list.Given as goal

abbrev pub decreases-clause : goal.decreases-clause
decreases-clause l = clause_number l.card.now l.b l.node + 3

abbrev pub decreases-conditions : goal.decreases-conditions
decreases-conditions l = clause_number l.card.now l.b l.node + 2

abbrev pub decreases-menu : goal.decreases-menu
decreases-menu l = clause_number l.card.now l.b l.node + 1

abbrev pub decreases-recipe : goal.decreases-recipe
decreases-recipe l = clause_number l.card.now l.b l.node + 1

abbrev pub decreases-use_clause : goal.decreases-use_clause
decreases-use_clause l = ahead l.b

abbrev pub decreases-walk : goal.decreases-walk
decreases-walk l = goal_number l.card.now l.b l.node + 3

abbrev pub decreases-walk_atom : goal.decreases-walk_atom
decreases-walk_atom l = goal_number l.card.now l.b l.node + 2

abbrev pub decreases-walk_lend : goal.decreases-walk_lend
decreases-walk_lend l = goal_number l.card.now l.b l.node + 2

abbrev pub decreases-walk_one_of : goal.decreases-walk_one_of
decreases-walk_one_of l = goal_number l.card.now l.b l.node + 2

abbrev pub decreases-walk_tensor : goal.decreases-walk_tensor
decreases-walk_tensor l = goal_number l.card.now l.b l.node + 2

abbrev pub decreases-walk_with : goal.decreases-walk_with
decreases-walk_with l = goal_number l.card.now l.b l.node + 2
