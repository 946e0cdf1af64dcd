use borrow.Author.Rules.{rules}
use native.Mathlib.Omega.{arith}
use Rattle.card.proofs.CardChecked.{sound_front}
use Rattle.bounds.proofs.nodes.node_count.Goals as goal

pub word-requires : goal.word-requires
word-requires c = let f = sound_front c.args.card.now c.requires in search rules

pub returns : goal.returns
returns c =
    let f = sound_front c.args.card.now c.requires in
    let e = c.word.ensures.0 in
    (e, omega arith)
