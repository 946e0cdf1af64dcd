use Rattle.card.proofs.SoundNodes.{node_here}
use Rattle.bounds.proofs.nodes.kind_at.Goals as goal

pub kind_of-requires : goal.kind_of-requires
kind_of-requires c = node_here c.requires.sound c.args.i c.requires.node.here
