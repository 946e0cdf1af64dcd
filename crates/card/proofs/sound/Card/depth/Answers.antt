use Rattle.std.proofs.Common.{sym, arith}
use Rattle.card.proofs.CardChecked.{front_here, sound_front}
use Rattle.card.proofs.sound.Card.depth.Goals as goal

pub byte-requires : goal.byte-requires
byte-requires c = omega (arith, front_here c.self.invariant)

pub returns : goal.returns
returns c = let f = sound_front _ c.self.invariant in rw (sym c.self.view_is) (c.byte.ensures.0, omega (arith, c.byte.ensures.0))
