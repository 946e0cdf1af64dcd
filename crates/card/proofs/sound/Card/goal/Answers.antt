use Rattle.std.proofs.Common.{sym, arith}
use Rattle.card.proofs.CardChecked.{front_here}
use Rattle.card.proofs.SoundNodes.{sound_root, goal_lower}
use Rattle.card.proofs.sound.Card.goal.Goals as goal

pub word-requires : goal.word-requires
word-requires c = omega (arith, front_here c.self.invariant)

pub returns-clause-part : goal.returns-clause-part
returns-clause-part c =
    let r = sound_root c.self.invariant in
    rw (sym c.self.view_is, c.word.ensures.0) (goal_lower _ _ _ r, r)
