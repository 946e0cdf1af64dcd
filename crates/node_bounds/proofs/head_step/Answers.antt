-- One case for each kind.
use Rattle.std.proofs.Common.{sym, ◌∙◌, ap, ap₂, arith}
use Rattle.node_bounds.proofs.StepsByKind.{head_name, head_recipe, head_menu, head_none}
use Rattle.bounds.specs.Inner.Table.{head_at, menu_code}
use Rattle.node_bounds.proofs.head_step.Goals as goal

pub returns-in-Atom : goal.returns-in-Atom
returns-in-Atom c =
    let ns = c.args.names.now in
    (c.name_at.ensures.0 ∙ sym (head_name c.args.card.now ns ns c.args.i c.in-Atom.ensures), omega (arith, c.name_at.ensures.1))

pub returns-in-Recipe : goal.returns-in-Recipe
returns-in-Recipe c =
    let ns = c.args.names.now in (
      c.head.ensures.0 ∙ ap (head_at ns) c.right_part.ensures.0 ∙ sym (head_recipe c.args.card.now ns ns c.args.i c.in-Recipe.ensures),
      c.head.ensures.1,
    )

pub returns-in-Menu : goal.returns-in-Menu
returns-in-Menu c =
    let ns = c.args.names.now in (
      c.menu_code.ensures.0
          ∙ ap₂ menu_code (c.head-left.ensures.0 ∙ ap (head_at ns) c.left_part.ensures.0)
          (c.head-in-Menu.ensures.0 ∙ ap (head_at ns) c.right_part-in-Menu.ensures.0)
          ∙ sym (head_menu c.args.card.now ns ns c.args.i c.in-Menu.ensures),
      c.menu_code.ensures.1,
    )

pub returns-in-Top : goal.returns-in-Top
returns-in-Top c =
    let ns = c.args.names.now in
    (sym (head_none c.args.card.now ns ns c.args.i c.requires.sound c.requires.node.0.here c.in-Top.is c.kind_at.ensures), omega arith)
