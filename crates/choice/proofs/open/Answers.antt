-- A rule, or an item at hand; then the lines that it waits for.
use Rattle.std.proofs.Common.{sym, ◌∙◌, arith}
use Rattle.card.proofs.CardChecked.{sound_front}
use Rattle.choice.specs.Inner.Choice.{open_to}
use Rattle.choice.proofs.open.Goals as goal

pub byte-rules-requires : goal.byte-rules-requires
byte-rules-requires c =
    let front = (sound_front c.args.card.now c.requires).whole in
    omega (arith, front)

pub byte-requires : goal.byte-requires
byte-requires c =
    let front = (sound_front c.args.card.now c.requires).whole in
    omega (arith, front)

pub ready-requires : goal.ready-requires
ready-requires c =
    let front = sound_front c.args.card.now c.requires in
    let t = c.byte.ensures.0 in (omega (arith, c.byte-rules.ensures.1), omega (arith, front.lines))

pub returns-then-at_hand : goal.returns-then-at_hand
unfolding open_to
returns-then-at_hand c = rw (← c.byte-rules.ensures.0, ← c.byte.ensures.0, sym c.at_hand.ensures ∙ c.if-at_hand.true) c.ready.ensures

pub returns-else-at_hand : goal.returns-else-at_hand
unfolding open_to
returns-else-at_hand c =
    rw (← c.byte-rules.ensures.0, sym c.at_hand.ensures ∙ c.if-at_hand.false) c.if-at_hand.false
