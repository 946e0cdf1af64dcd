-- One case for each kind.
use Rattle.std.proofs.Common.{◌+◌, ◌-◌, min, max, sym, ◌∙◌, ap, ap₂}
use Rattle.node_bounds.proofs.StepsByKind.{low_both, low_either, low_lend, low_name, low_never, low_none, low_one_of, low_recipe}
use Rattle.node_bounds.proofs.StepsByKind.{byte_small, less_small, max_small, min_small, part_small, sum_small, top_small, zero_small}
use Rattle.bounds.specs.Inner.Table.{low_at, row_of, if_recipe, in_class}
use Rattle.lines.specs.Count.{bit}
use Rattle.node_bounds.proofs.low_step.Goals as goal

pub returns-in-Atom : goal.returns-in-Atom
returns-in-Atom c =
    let bs = c.args.card.now in
    let ns = c.args.names.now in
    let t = c.args.table.now in
    let i = c.args.i in
    let m = c.args.c in (
      c.low.ensures.0 ∙ ap (λ x. low_at t x m) (c.row.ensures.0 ∙ ap (row_of ns) c.name_at.ensures.0) ∙ sym (low_name bs ns t i m c.in-Atom.ensures),
      byte_small _ c.low.ensures.1,
    )

pub returns-in-Tensor : goal.returns-in-Tensor
returns-in-Tensor c =
    let bs = c.args.card.now in
    let ns = c.args.names.now in
    let t = c.args.table.now in
    let i = c.args.i in
    let m = c.args.c in
    let left = c.low-left.ensures.0 ∙ ap (λ x. low_at t x m) c.left_part.ensures.0 in
    let right = c.low-in-Tensor.ensures.0 ∙ ap (λ x. low_at t x m) c.right_part.ensures.0 in
    (ap₂ ◌+◌ left right ∙ sym (low_both bs ns t i m c.in-Tensor.ensures), sum_small _ _ c.low-left.ensures.1 c.low-in-Tensor.ensures.1)

pub returns-in-With : goal.returns-in-With
returns-in-With c =
    let bs = c.args.card.now in
    let ns = c.args.names.now in
    let t = c.args.table.now in
    let i = c.args.i in
    let m = c.args.c in
    let left = c.low-left-in-With.ensures.0 ∙ ap (λ x. low_at t x m) c.left_part-in-With.ensures.0 in
    let right = c.low-in-With.ensures.0 ∙ ap (λ x. low_at t x m) c.right_part-in-With.ensures.0 in (
      c.max.ensures ∙ ap₂ max left right ∙ sym (low_either bs ns t i m c.in-With.ensures),
      rw c.max.ensures (max_small _ _ c.low-left-in-With.ensures.1 c.low-in-With.ensures.1),
    )

pub returns-in-Lend : goal.returns-in-Lend
returns-in-Lend c =
    let bs = c.args.card.now in
    let ns = c.args.names.now in
    let t = c.args.table.now in
    let i = c.args.i in
    let m = c.args.c in
    let right = c.low-in-Lend.ensures.0 ∙ ap (λ x. low_at t x m) c.right_part-in-Lend.ensures.0 in
    let one = c.weight-lent.ensures.0 ∙ ap (λ x. bit (in_class ns x m)) c.left_part-in-Lend.ensures.0 in (
      c.saturating_sub.ensures ∙ ap₂ ◌-◌ right one ∙ sym (low_lend bs ns t i m c.in-Lend.ensures),
      rw c.saturating_sub.ensures (less_small _ _ c.low-in-Lend.ensures.1),
    )

pub returns-in-Recipe : goal.returns-in-Recipe
returns-in-Recipe c =
    let bs = c.args.card.now in
    let ns = c.args.names.now in
    let t = c.args.table.now in
    let i = c.args.i in
    let m = c.args.c in
    let left = c.low-left-in-Recipe.ensures.0 ∙ ap (λ x. low_at t x m) c.left_part-in-Recipe.ensures.0 in
    let right = c.low-in-Recipe.ensures.0 ∙ ap (λ x. low_at t x m) c.right_part-r.ensures.0 in
    let rest = c.if_recipe.ensures.0 ∙ ap₂ (if_recipe bs) c.right_part-r.ensures.0 right in (
      ap₂ ◌+◌ left rest ∙ sym (low_recipe bs ns t i m c.in-Recipe.ensures),
      part_small _ _ _ c.low-left-in-Recipe.ensures.1 c.if_recipe.ensures.1 c.low-in-Recipe.ensures.1,
    )

pub returns-in-Oplus : goal.returns-in-Oplus
returns-in-Oplus c =
    let bs = c.args.card.now in
    let ns = c.args.names.now in
    let t = c.args.table.now in
    let i = c.args.i in
    let m = c.args.c in
    let left = c.low-left-in-Oplus.ensures.0 ∙ ap (λ x. low_at t x m) c.left_part-in-Oplus.ensures.0 in
    let right = c.low-in-Oplus.ensures.0 ∙ ap (λ x. low_at t x m) c.right_part-in-Oplus.ensures.0 in (
      c.min.ensures ∙ ap₂ min left right ∙ sym (low_one_of bs ns t i m c.in-Oplus.ensures),
      rw c.min.ensures (min_small _ _ c.low-left-in-Oplus.ensures.1),
    )

pub returns-in-Zero : goal.returns-in-Zero
returns-in-Zero c =
    let bs = c.args.card.now in
    let ns = c.args.names.now in
    let t = c.args.table.now in
    let i = c.args.i in
    let m = c.args.c in
    (sym (low_never bs ns t i m c.in-Zero.ensures), top_small)

pub returns-in-Top : goal.returns-in-Top
returns-in-Top c =
    let bs = c.args.card.now in
    let ns = c.args.names.now in
    let t = c.args.table.now in
    let i = c.args.i in
    let m = c.args.c in
    (sym (low_none bs ns t i c.requires.table_held.sound c.requires.node.0.here m c.in-Top.is c.kind_at.ensures), zero_small)
