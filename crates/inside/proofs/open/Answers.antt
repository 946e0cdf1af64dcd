-- The goal's node stands in the card.
use Rattle.card.proofs.SoundNodes.{node_here}
use Rattle.inside.proofs.open.Goals as goal

pub left-requires : goal.left-requires
left-requires c = node_here c.requires.sound c.args.goal c.requires.here
