-- A name fits itself alone; a recipe is used for the names of its right part, and a menu for those of both parts.
use Rattle.std.proofs.Common.{refl, sym, ◌∙◌, ap, eqb}
use Rattle.card.specs.Decode.{scope_of}
use Rattle.card.proofs.SoundNodes.{usable_name}
use Rattle.scope.proofs.PartsOfClauses.{here, part_call, recipe_part, recipe_same, left_part, right_part, menu_same, other_headless}
use Rattle.scope.proofs.+usable.Goals as goal

pub kind_of-requires : goal.kind_of-requires
kind_of-requires t c = here c.requires.sound c.args.node c.requires.node_value

pub left-requires : goal.left-requires
left-requires t c = here c.requires.sound c.args.node c.requires.node_value

pub right-requires : goal.right-requires
right-requires t c = here c.requires.sound c.args.node c.requires.node_value

pub left-requires-in-Menu : goal.left-requires-in-Menu
left-requires-in-Menu t c = here c.requires.sound c.args.node c.requires.node_value

pub right-requires-else-usable : goal.right-requires-else-usable
right-requires-else-usable t c = here c.requires.sound c.args.node c.requires.node_value

pub usable-requires : goal.usable-requires
usable-requires t c =
    let q = c.requires in
    part_call q.sound _ q.node_value (recipe_part q.sound _ q.node_value c.in-Recipe.ensures c.right.ensures.0) c.decreases

pub usable-requires-in-Menu : goal.usable-requires-in-Menu
usable-requires-in-Menu t c =
    let q = c.requires in
    part_call q.sound _ q.node_value (left_part q.sound _ q.node_value c.in-Menu.ensures c.left-in-Menu.ensures.0) c.decreases

pub usable-requires-else-usable : goal.usable-requires-else-usable
usable-requires-else-usable t c =
    let q = c.requires in
    part_call q.sound _ q.node_value (right_part q.sound _ q.node_value c.in-Menu.ensures c.right-else-usable.ensures.0) c.decreases

pub returns-in-Atom : goal.returns-in-Atom
unfolding scope_of
returns-in-Atom t c =
    ap (λ x. eqb x c.args.name) c.left.ensures.0
    ∙ sym (usable_name c.args.card.now c.args.node c.in-Atom.ensures eqb c.args.name)

pub returns-in-Recipe : goal.returns-in-Recipe
returns-in-Recipe t c =
    c.usable.ensures ∙ recipe_same c.requires.sound _ c.requires.node_value c.in-Recipe.ensures c.right.ensures.0 _ _

pub returns-then-usable : goal.returns-then-usable
returns-then-usable t c =
    let bs = c.args.card.now in
    c.if-usable.true
    ∙ menu_same c.requires.sound _ c.requires.node_value c.in-Menu.ensures _ _ c.left-in-Menu.ensures.0 refl
    (sym c.if-usable.true ∙ c.usable-in-Menu.ensures) refl

pub returns-else-usable : goal.returns-else-usable
returns-else-usable t c =
    menu_same c.requires.sound _ c.requires.node_value c.in-Menu.ensures _ _ c.left-in-Menu.ensures.0 c.right-else-usable.ensures.0
    (sym c.if-usable.false ∙ c.usable-in-Menu.ensures) c.usable-else-usable.ensures

pub returns-in_default : goal.returns-in_default
returns-in_default t c =
    other_headless c.requires.sound _ c.requires.node_value _ c.kind_of.ensures c.in_default.not-Atom c.in_default.not-Recipe
    c.in_default.not-Menu _ _
