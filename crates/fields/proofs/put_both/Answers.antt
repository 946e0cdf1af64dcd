-- `put_both` meets its contract: the second's goal is one of its nodes, so that its shifted number has two bytes.
use Rattle.std.proofs.Common.{arith}
use Rattle.card.specs.Format.{node_count, goal_node}
use Rattle.card.proofs.CardChecked.{sound_front, front_here}
use Rattle.card.proofs.SoundNodes.{sound_root, goal_lower}
use Rattle.joined.specs.Joined.{both_goals}
use Rattle.fields.proofs.put_both.Goals as goal

pub word-requires : goal.word-requires
word-requires c = rw c.bytes.ensures.value (omega (arith, front_here c.bytes.ensures.sound))

pub put_node-requires-clause-right_bound : goal.put_node-requires-clause-right_bound
put_node-requires-clause-right_bound c =
    let second = c.args.second.now in
    let s = c.bytes.ensures.sound in
    let lower = goal_lower second (node_count second) (goal_node second) (sound_root s) in
    omega (arith, rw c.bytes.ensures.value at c.word.ensures.0, lower, (sound_front second s).few)

pub returns : goal.returns
unfolding both_goals
returns c = rw (c.goal-a.ensures.value, c.nodes.ensures.0, c.word.ensures.0, c.bytes.ensures.value) at c.put_node.ensures
