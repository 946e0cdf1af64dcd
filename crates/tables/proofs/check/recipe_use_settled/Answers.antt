-- A recipe of one condition by itself, any other by its ways.
use Rattle.bounds.proofs.WaysSmall.{clause_node}
use Rattle.tables.proofs.UsesByKind.{recipe_use}
use Rattle.tables.proofs.check.recipe_use_settled.Goals as goal

pub right_part-d-requires-clause-node : goal.right_part-d-requires-clause-node
right_part-d-requires-clause-node c = clause_node c.requires.table_held.sound c.requires.clause.0

pub left_part-g-requires-clause-node : goal.left_part-g-requires-clause-node
left_part-g-requires-clause-node c = clause_node c.requires.table_held.sound c.requires.clause.0

pub recipe_settled-requires-clause-rows : goal.recipe_settled-requires-clause-rows
recipe_settled-requires-clause-rows c =
    ((clause_node c.requires.table_held.sound c.requires.clause.0).few, (c.left_part-g.ensures.1.few, c.row-r.ensures.1))

pub returns-in-Atom : goal.returns-in-Atom
returns-in-Atom c =
    recipe_use c.requires.table_held c.requires.clause.0 c.requires.clause.1 c.right_part-d.ensures.0 c.in-Atom.ensures c.left_part-g.ensures.0
    c.name_at.ensures.0 c.row-r.ensures.0 c.recipe_settled.ensures
