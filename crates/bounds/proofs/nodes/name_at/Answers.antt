use native.Mathlib.Omega.{arith}
use Rattle.card.proofs.SoundNodes.{node_here, name_low}
use Rattle.bounds.proofs.nodes.name_at.Goals as goal

pub left-requires : goal.left-requires
left-requires c = node_here c.requires.sound c.args.i c.requires.node.here

pub returns : goal.returns
returns c =
    let l = name_low c.requires.sound c.args.i c.requires.node.here c.requires.atom in
    (c.left.ensures.0, omega (arith, c.left.ensures.0))
