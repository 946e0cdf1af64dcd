-- A clause of the card, and the ways past it.
use Rattle.std.proofs.Common.{sym, arith}
use Rattle.card.proofs.SoundNodes.{recipe_parts, menu_parts}
use Rattle.bounds.proofs.WaysSmall.{way_on}
use Rattle.node_bounds.proofs.ChecksDecide.{holds, unmet}
use Rattle.node_bounds.proofs.KindsNamed.{headless}
use Rattle.node_bounds.proofs.WaysByKind.{below, node, part_lower, part_clause, name_ways, rest_ways, recipe_ways, menu_ways, menu_fails}
use Rattle.node_bounds.proofs.+ways_fit.Goals as goal

pub kind_at-requires-clause-node : goal.kind_at-requires-clause-node
kind_at-requires-clause-node t c = node c.requires.table_held c.args.i c.requires.clause.0

pub name_at-requires-clause-node : goal.name_at-requires-clause-node
name_at-requires-clause-node t c = node c.requires.table_held c.args.i c.requires.clause.0

pub left_part-g-requires-clause-node : goal.left_part-g-requires-clause-node
left_part-g-requires-clause-node t c = node c.requires.table_held c.args.i c.requires.clause.0

pub right_part-requires-clause-node : goal.right_part-requires-clause-node
right_part-requires-clause-node t c = node c.requires.table_held c.args.i c.requires.clause.0

pub left_part-d-requires-clause-node : goal.left_part-d-requires-clause-node
left_part-d-requires-clause-node t c = node c.requires.table_held c.args.i c.requires.clause.0

pub right_part-e-requires-clause-node : goal.right_part-e-requires-clause-node
right_part-e-requires-clause-node t c = node c.requires.table_held c.args.i c.requires.clause.0

pub returns-in-Atom : goal.returns-in-Atom
returns-in-Atom t c =
    name_ways c.requires.table_held c.args.i c.requires.clause.0 _ _ _ _ c.in-Atom.ensures c.name_at.ensures.0
    (rw c.row-r.ensures.0 at c.row_fits.ensures)

pub ways_fit-requires : goal.ways_fit-requires
ways_fit-requires t c =
    let z = c.requires.table_held in
    let p = c.requires.clause.0 in
    let q = rw (sym c.right_part.ensures.0) at (recipe_parts z.sound c.args.i (below z c.args.i p) c.in-Recipe.ensures).1 in
    let lower = part_lower z c.args.i p _ q in (
      omega (arith, lower, c.decreases),
      (
        z,
        (
          (part_clause z c.args.i p _ q, c.requires.clause.1),
          way_on c.requires.on_way lower (omega (arith, c.least.ensures.1)) (omega (arith, c.low.ensures.1))
              (omega (arith, c.high.ensures.1)),
        ),
      ),
    )

pub returns-in-Recipe : goal.returns-in-Recipe
returns-in-Recipe t c =
    recipe_ways c.requires.table_held c.args.i c.requires.clause.0 _ _ _ _ c.in-Recipe.ensures c.right_part.ensures.0
    c.left_part-g.ensures.0 c.least.ensures.0 c.low.ensures.0 c.high.ensures.0 c.ways_fit.ensures

pub ways_fit-requires-in-Menu : goal.ways_fit-requires-in-Menu
ways_fit-requires-in-Menu t c =
    let z = c.requires.table_held in
    let p = c.requires.clause.0 in
    let q = rw (sym c.left_part-d.ensures.0) at (menu_parts z.sound c.args.i (below z c.args.i p) c.in-Menu.ensures).0 in
    let lower = part_lower z c.args.i p _ q in (
      omega (arith, lower, c.decreases),
      (
        z,
        (
          (part_clause z c.args.i p _ q, c.requires.clause.1),
          way_on c.requires.on_way lower (omega arith) (omega arith) (omega arith),
        ),
      ),
    )

pub ways_fit-requires-then-ways_fit : goal.ways_fit-requires-then-ways_fit
ways_fit-requires-then-ways_fit t c =
    let z = c.requires.table_held in
    let p = c.requires.clause.0 in
    let q = rw (sym c.right_part-e.ensures.0) at (menu_parts z.sound c.args.i (below z c.args.i p) c.in-Menu.ensures).1 in
    let lower = part_lower z c.args.i p _ q in (
      omega (arith, lower, c.decreases),
      (
        z,
        (
          (part_clause z c.args.i p _ q, c.requires.clause.1),
          way_on c.requires.on_way lower (omega arith) (omega arith) (omega arith),
        ),
      ),
    )

pub returns-then-ways_fit : goal.returns-then-ways_fit
returns-then-ways_fit t c =
    menu_ways c.requires.table_held c.args.i c.requires.clause.0 _ _ _ _ c.in-Menu.ensures c.left_part-d.ensures.0
    c.right_part-e.ensures.0 (c.ways_fit-in-Menu.ensures.0 c.if-ways_fit.true) c.ways_fit-then-ways_fit.ensures

pub returns-else-ways_fit : goal.returns-else-ways_fit
returns-else-ways_fit t c =
    rw c.if-ways_fit.false
    (menu_fails c.requires.table_held c.args.i c.requires.clause.0 _ _ _ _ c.in-Menu.ensures c.left_part-d.ensures.0
    (unmet c.ways_fit-in-Menu.ensures c.if-ways_fit.false))

pub returns-in-Top : goal.returns-in-Top
returns-in-Top t c =
    let n = headless c.in-Top.is c.kind_at.ensures in
    holds (rest_ways c.requires.table_held c.args.i c.requires.clause.0 _ _ _ _ n.0 n.1 n.2)
