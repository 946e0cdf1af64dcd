use Rattle.std.proofs.Common.{arith}
use Rattle.card.proofs.CardChecked.{front_here}
use Rattle.card.proofs.sound.Card.steps.Goals as goal

pub byte-requires : goal.byte-requires
byte-requires c = omega (arith, front_here c.self.invariant)
