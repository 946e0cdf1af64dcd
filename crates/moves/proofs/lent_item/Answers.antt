use native.Mathlib.Omega.{arith}
use Rattle.card.proofs.CardChecked.{sound_front}
use Rattle.moves.proofs.lent_item.Goals as goal

pub byte-requires : goal.byte-requires
byte-requires c =
    let f = (sound_front _ c.requires.0).whole in omega (arith, f)
