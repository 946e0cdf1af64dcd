use Rattle.card.proofs.SoundNodes.{node_here}
use Rattle.card.proofs.sound.Card.right.Goals as goal

pub right-requires : goal.right-requires
right-requires c = node_here c.self.invariant _ (rw (c.self.view_is) c.requires)
