-- A bare name and a recipe of one condition by themselves, any other clause by its ways.
use Rattle.bounds.proofs.WaysSmall.{clause_node}
use Rattle.tables.proofs.UsesByKind.{name_use}
use Rattle.tables.proofs.check.use_settled.Goals as goal

pub kind_at-requires-clause-node : goal.kind_at-requires-clause-node
kind_at-requires-clause-node c = clause_node c.requires.table_held.sound c.requires.clause

pub name_at-requires-clause-node : goal.name_at-requires-clause-node
name_at-requires-clause-node c = clause_node c.requires.table_held.sound c.requires.clause

pub name_settled-requires-clause-rows : goal.name_settled-requires-clause-rows
name_settled-requires-clause-rows c = ((clause_node c.requires.table_held.sound c.requires.clause).few, c.row-r.ensures.1)

pub returns-in-Atom : goal.returns-in-Atom
returns-in-Atom c =
    name_use c.requires.table_held c.requires.clause c.in-Atom.ensures c.name_at.ensures.0 c.row-r.ensures.0 c.name_settled.ensures
