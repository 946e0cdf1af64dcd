use borrow.Author.Rules.{rules}
use Rattle.bounds.specs.Inner.Table.{menu_code}
use Rattle.node_bounds.proofs.menu_code.Goals as goal

pub returns : goal.returns
unfolding menu_code
returns c = search rules
