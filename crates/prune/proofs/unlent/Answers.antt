-- The two numbers of the card.
use Rattle.std.proofs.Common.{◌+◌, sym, ◌∙◌, ap₂, arith}
use borrow.Author.Tests.{eqb-true, eq-eqb}
use Rattle.card.proofs.CardChecked.{sound_front}
use Rattle.prune.proofs.unlent.Goals as goal

pub byte-requires : goal.byte-requires
byte-requires c = omega (arith, (sound_front c.args.card.now c.requires).whole)

pub byte-requires-2 : goal.byte-requires-2
byte-requires-2 c = omega (arith, (sound_front c.args.card.now c.requires).whole)

pub returns : goal.returns
returns c =
    let e = ap₂ ◌+◌ c.byte.ensures.0 c.byte-2.ensures.0 in
    (λ q. eqb-true _ _ q ∙ e, λ p. eq-eqb _ _ (p ∙ sym e))
