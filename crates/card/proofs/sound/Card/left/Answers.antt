use Rattle.card.proofs.SoundNodes.{node_here}
use Rattle.card.proofs.sound.Card.left.Goals as goal

pub left-requires : goal.left-requires
left-requires c = node_here c.self.invariant _ (rw (c.self.view_is) c.requires)
