-- `height` meets its contract: the parts' heights stand in the table, which begins with the heights before the node.
use Rattle.std.proofs.Common.{◌+◌, max, ◌∙◌, ap, ap₂}
use Rattle.card.specs.Kinds.{kind_of}
use Rattle.card.specs.Fault.{part_height}
use Rattle.nodes.proofs.NodesChecked.{left_within, right_within, height_from}
use Rattle.nodes.proofs.height.Goals as goal

pub part_height-l-requires : goal.part_height-l-requires
part_height-l-requires c =
    left_within _ _ c.requires.built c.requires.heights_tabled.few c.row-asked.ensures.0 c.kind.ensures.0 c.left.ensures.0

pub part_height-r-requires : goal.part_height-r-requires
part_height-r-requires c =
    right_within _ _ c.requires.built c.requires.heights_tabled.few c.row-asked.ensures.1 c.kind.ensures.0 c.right.ensures.0

pub returns : goal.returns
returns c =
    let t = c.args.heights.now in
    let k = c.kind.ensures.0 in
    let l = c.row-asked.ensures.0 ∙ ap (λ x. (kind_of x).left) k in
    let r = c.row-asked.ensures.1 ∙ ap (λ x. (kind_of x).right) k in
    ap (λ n. n + 1)
    (c.max.ensures
    ∙ ap₂ max
    (c.part_height-l.ensures ∙ ap₂ (part_height t) l c.left.ensures.0)
    (c.part_height-r.ensures ∙ ap₂ (part_height t) r c.right.ensures.0))
    ∙ height_from _ _ c.requires.built _ c.requires.heights_tabled
