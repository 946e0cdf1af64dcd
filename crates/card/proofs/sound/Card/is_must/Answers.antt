use Rattle.card.proofs.SoundNodes.{line_here}
use Rattle.card.proofs.sound.Card.is_must.Goals as goal

pub line_byte-requires : goal.line_byte-requires
line_byte-requires c = line_here c.self.invariant _ (rw c.self.view_is c.requires)
