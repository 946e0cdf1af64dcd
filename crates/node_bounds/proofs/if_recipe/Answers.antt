use Rattle.std.proofs.Common.{refl, sym, arith, ne_eqb}
use Rattle.bounds.specs.Inner.Table.{if_recipe}
use Rattle.node_bounds.proofs.KindsNamed.{recipe_named}
use Rattle.node_bounds.proofs.if_recipe.Goals as goal

pub returns-in-Recipe : goal.returns-in-Recipe
unfolding if_recipe
returns-in-Recipe c = (sym (rw c.in-Recipe.ensures refl), omega arith)

pub returns-in_default : goal.returns-in_default
unfolding if_recipe
returns-in_default c =
    (sym (rw (ne_eqb _ 7 (λ p. c.in_default.not-Recipe (recipe_named _ _ c.kind_at.ensures p))) refl), omega arith)
