-- One case for each kind.
use Rattle.std.proofs.Common.{◌+◌, min, sym, ◌∙◌, ap, ap₂}
use Rattle.node_bounds.proofs.StepsByKind.{least_lend, least_name, least_never, least_none, least_one_of, least_pair, least_recipe}
use Rattle.node_bounds.proofs.StepsByKind.{byte_small, choice_small, part_small, sum_small, top_small, zero_small}
use Rattle.bounds.specs.Inner.Table.{least_at, row_of, if_recipe}
use Rattle.node_bounds.proofs.least_step.Goals as goal

pub returns-in-Atom : goal.returns-in-Atom
returns-in-Atom c =
    let bs = c.args.card.now in
    let ns = c.args.names.now in
    let t = c.args.table.now in
    let i = c.args.i in (
      c.least.ensures.0 ∙ ap (least_at t) (c.row.ensures.0 ∙ ap (row_of ns) c.name_at.ensures.0) ∙ sym (least_name bs ns t i c.in-Atom.ensures),
      byte_small _ c.least.ensures.1,
    )

pub returns-in-Tensor : goal.returns-in-Tensor
returns-in-Tensor c =
    let bs = c.args.card.now in
    let ns = c.args.names.now in
    let t = c.args.table.now in
    let i = c.args.i in
    let left = c.least-left.ensures.0 ∙ ap (least_at t) c.left_part.ensures.0 in
    let right = c.least-in-Tensor.ensures.0 ∙ ap (least_at t) c.right_part.ensures.0 in (
      ap₂ ◌+◌ left right ∙ sym (least_pair bs ns t i c.in-Tensor.is c.kind_at.ensures),
      sum_small _ _ c.least-left.ensures.1 c.least-in-Tensor.ensures.1,
    )

pub returns-in-Lend : goal.returns-in-Lend
returns-in-Lend c =
    let bs = c.args.card.now in
    let ns = c.args.names.now in
    let t = c.args.table.now in
    let i = c.args.i in (
      c.least-in-Lend.ensures.0 ∙ ap (least_at t) c.right_part-in-Lend.ensures.0 ∙ sym (least_lend bs ns t i c.in-Lend.ensures),
      byte_small _ c.least-in-Lend.ensures.1,
    )

pub returns-in-Recipe : goal.returns-in-Recipe
returns-in-Recipe c =
    let bs = c.args.card.now in
    let ns = c.args.names.now in
    let t = c.args.table.now in
    let i = c.args.i in
    let left = c.least-left-in-Recipe.ensures.0 ∙ ap (least_at t) c.left_part-in-Recipe.ensures.0 in
    let right = c.least-in-Recipe.ensures.0 ∙ ap (least_at t) c.right_part-r.ensures.0 in
    let rest = c.if_recipe.ensures.0 ∙ ap₂ (if_recipe bs) c.right_part-r.ensures.0 right in (
      ap₂ ◌+◌ left rest ∙ sym (least_recipe bs ns t i c.in-Recipe.ensures),
      part_small _ _ _ c.least-left-in-Recipe.ensures.1 c.if_recipe.ensures.1 c.least-in-Recipe.ensures.1,
    )

pub returns-in-Oplus : goal.returns-in-Oplus
returns-in-Oplus c =
    let bs = c.args.card.now in
    let ns = c.args.names.now in
    let t = c.args.table.now in
    let i = c.args.i in
    let left = c.least-left-in-Oplus.ensures.0 ∙ ap (least_at t) c.left_part-in-Oplus.ensures.0 in
    let right = c.least-in-Oplus.ensures.0 ∙ ap (least_at t) c.right_part-in-Oplus.ensures.0 in (
      ap (λ x. 1 + x) (c.min.ensures ∙ ap₂ min left right) ∙ sym (least_one_of bs ns t i c.in-Oplus.ensures),
      rw c.min.ensures (choice_small _ _ c.least-left-in-Oplus.ensures.1),
    )

pub returns-in-Zero : goal.returns-in-Zero
returns-in-Zero c =
    let bs = c.args.card.now in
    let ns = c.args.names.now in
    let t = c.args.table.now in
    let i = c.args.i in
    (sym (least_never bs ns t i c.in-Zero.ensures), top_small)

pub returns-in-Top : goal.returns-in-Top
returns-in-Top c =
    let bs = c.args.card.now in
    let ns = c.args.names.now in
    let t = c.args.table.now in
    let i = c.args.i in
    (sym (least_none bs ns t i c.requires.table_held.sound c.requires.node.here c.in-Top.is c.kind_at.ensures), zero_small)
