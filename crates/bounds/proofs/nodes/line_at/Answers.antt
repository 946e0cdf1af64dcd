use native.Mathlib.Omega.{arith}
use Rattle.card.proofs.CardChecked.{sound_front}
use Rattle.card.proofs.SoundNodes.{line_here, sound_line_node, clause_lower}
use Rattle.bounds.proofs.nodes.line_at.Goals as goal

pub line_node-requires : goal.line_node-requires
line_node-requires c = line_here c.requires.sound c.args.i c.requires.i_bound

pub returns : goal.returns
returns c =
    let bs = c.args.card.now in
    let f = sound_front bs c.requires.sound in
    let e = c.line_node.ensures.0 in
    let l = clause_lower bs _ _ (sound_line_node c.requires.sound c.args.i c.requires.i_bound) in
    (e, record { here = omega arith; few = omega arith })
