use native.Mathlib.Omega.{arith}
use Rattle.card.proofs.CardChecked.{sound_front}
use Rattle.card.proofs.SoundNodes.{rule_here, sound_rule_node, clause_lower}
use Rattle.bounds.proofs.nodes.rule_at.Goals as goal

pub rule_node-requires : goal.rule_node-requires
rule_node-requires c = rule_here c.requires.sound c.args.i c.requires.i_bound

pub returns : goal.returns
returns c =
    let bs = c.args.card.now in
    let f = sound_front bs c.requires.sound in
    let e = c.rule_node.ensures.0 in
    let l = clause_lower bs _ _ (sound_rule_node c.requires.sound c.args.i c.requires.i_bound) in
    (e, record { here = omega arith; few = omega arith })
