use native.Mathlib.Omega.{arith}
use Rattle.card.proofs.SoundNodes.{node_here, parts_below}
use Rattle.bounds.proofs.nodes.left_part.Goals as goal

pub left-requires : goal.left-requires
left-requires c = node_here c.requires.sound c.args.i c.requires.node.here

pub returns : goal.returns
returns c =
    let p = parts_below c.requires.sound c.args.i c.requires.node.here c.requires.parts.0 c.requires.parts.1 in
    let n = c.requires.node in
    let e = c.left.ensures.0 in
    let q = p.0 in
    (e, record { here = omega (arith, n.here); few = omega (arith, n.few) })
