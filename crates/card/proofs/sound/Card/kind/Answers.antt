use Rattle.card.proofs.SoundNodes.{node_here}
use Rattle.card.proofs.sound.Card.kind.Goals as goal

pub kind_of-requires : goal.kind_of-requires
kind_of-requires c = node_here c.self.invariant _ (rw (c.self.view_is) c.requires)
