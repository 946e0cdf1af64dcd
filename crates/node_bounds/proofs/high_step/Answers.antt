-- One case for each kind.
use Rattle.std.proofs.Common.{◌+◌, ◌-◌, min, max, sym, ◌∙◌, ap, ap₂}
use Rattle.node_bounds.proofs.StepsByKind.{high_both, high_either, high_lend, high_name, high_none, high_one_of, high_recipe, high_rest, off_less}
use Rattle.node_bounds.proofs.StepsByKind.{byte_small, max_small, min_small, part_small, sum_small, top_small, under_small, zero_small}
use Rattle.bounds.specs.Inner.Table.{high_at, row_of, if_recipe, in_class}
use Rattle.lines.specs.Count.{bit}
use Rattle.bounds.specs.Inner.Bound.{off}
use Rattle.card.specs.Format.{left_at}
use Rattle.node_bounds.proofs.high_step.Goals as goal

pub returns-in-Atom : goal.returns-in-Atom
returns-in-Atom c =
    let bs = c.args.card.now in
    let ns = c.args.names.now in
    let t = c.args.table.now in
    let i = c.args.i in
    let m = c.args.c in (
      c.high.ensures.0 ∙ ap (λ x. high_at t x m) (c.row.ensures.0 ∙ ap (row_of ns) c.name_at.ensures.0) ∙ sym (high_name bs ns t i m c.in-Atom.ensures),
      byte_small _ c.high.ensures.1,
    )

pub returns-in-Tensor : goal.returns-in-Tensor
returns-in-Tensor c =
    let bs = c.args.card.now in
    let ns = c.args.names.now in
    let t = c.args.table.now in
    let i = c.args.i in
    let m = c.args.c in
    let left = c.high-left.ensures.0 ∙ ap (λ x. high_at t x m) c.left_part.ensures.0 in
    let right = c.high-in-Tensor.ensures.0 ∙ ap (λ x. high_at t x m) c.right_part.ensures.0 in
    (ap₂ ◌+◌ left right ∙ sym (high_both bs ns t i m c.in-Tensor.ensures), sum_small _ _ c.high-left.ensures.1 c.high-in-Tensor.ensures.1)

pub returns-in-With : goal.returns-in-With
returns-in-With c =
    let bs = c.args.card.now in
    let ns = c.args.names.now in
    let t = c.args.table.now in
    let i = c.args.i in
    let m = c.args.c in
    let left = c.high-left-in-With.ensures.0 ∙ ap (λ x. high_at t x m) c.left_part-in-With.ensures.0 in
    let right = c.high-in-With.ensures.0 ∙ ap (λ x. high_at t x m) c.right_part-in-With.ensures.0 in (
      c.min.ensures ∙ ap₂ min left right ∙ sym (high_either bs ns t i m c.in-With.ensures),
      rw c.min.ensures (min_small _ _ c.high-left-in-With.ensures.1),
    )

pub returns-in-Lend : goal.returns-in-Lend
returns-in-Lend c =
    let bs = c.args.card.now in
    let ns = c.args.names.now in
    let t = c.args.table.now in
    let i = c.args.i in
    let m = c.args.c in
    let o = c.taken_off.ensures in
    let right = (c.high-in-Lend.ensures.0 ∙ ap (λ x. high_at t x m) c.right_part-in-Lend.ensures.0) in
    let one = (c.weight-lent.ensures.0 ∙ ap (λ x. bit (in_class ns x m)) c.left_part-in-Lend.ensures.0) in
    let less = off_less _ _ (in_class ns (left_at bs i) m) (λ h. o.1.0 h ∙ ap (λ x. c.high-in-Lend.result - x) one) o.1.1 in (
      less ∙ ap (λ x. off x (in_class ns (left_at bs i) m)) right ∙ sym (high_lend bs ns t i m c.in-Lend.ensures),
      under_small _ _ o.0 c.high-in-Lend.ensures.1,
    )

pub returns-in-Recipe : goal.returns-in-Recipe
returns-in-Recipe c =
    let bs = c.args.card.now in
    let ns = c.args.names.now in
    let t = c.args.table.now in
    let i = c.args.i in
    let m = c.args.c in
    let left = c.high-left-in-Recipe.ensures.0 ∙ ap (λ x. high_at t x m) c.left_part-in-Recipe.ensures.0 in
    let right = c.high-in-Recipe.ensures.0 ∙ ap (λ x. high_at t x m) c.right_part-r.ensures.0 in
    let rest = c.if_recipe.ensures.0 ∙ ap₂ (if_recipe bs) c.right_part-r.ensures.0 right in (
      ap₂ ◌+◌ left rest ∙ sym (high_recipe bs ns t i m c.in-Recipe.ensures),
      part_small _ _ _ c.high-left-in-Recipe.ensures.1 c.if_recipe.ensures.1 c.high-in-Recipe.ensures.1,
    )

pub returns-in-Oplus : goal.returns-in-Oplus
returns-in-Oplus c =
    let bs = c.args.card.now in
    let ns = c.args.names.now in
    let t = c.args.table.now in
    let i = c.args.i in
    let m = c.args.c in
    let left = c.high-left-in-Oplus.ensures.0 ∙ ap (λ x. high_at t x m) c.left_part-in-Oplus.ensures.0 in
    let right = c.high-in-Oplus.ensures.0 ∙ ap (λ x. high_at t x m) c.right_part-in-Oplus.ensures.0 in (
      c.max.ensures ∙ ap₂ max left right ∙ sym (high_one_of bs ns t i m c.in-Oplus.ensures),
      rw c.max.ensures (max_small _ _ c.high-left-in-Oplus.ensures.1 c.high-in-Oplus.ensures.1),
    )

pub returns-in-Top : goal.returns-in-Top
returns-in-Top c =
    let bs = c.args.card.now in
    let ns = c.args.names.now in
    let t = c.args.table.now in
    let i = c.args.i in
    let m = c.args.c in
    (sym (high_rest bs ns t i m c.in-Top.ensures), top_small)

pub returns-in-One : goal.returns-in-One
returns-in-One c =
    let bs = c.args.card.now in
    let ns = c.args.names.now in
    let t = c.args.table.now in
    let i = c.args.i in
    let m = c.args.c in
    (sym (high_none bs ns t i c.requires.table_held.sound c.requires.node.0.here m c.in-One.is c.kind_at.ensures), zero_small)
