-- `put_rules` meets its contract: the rules before the present one are written, one behind the other.
use Rattle.std.proofs.Common.{◌≡◌, ◌<◌, arith}
use Rattle.card.specs.Format.{rule_count}
use Rattle.card.proofs.CardChecked.{sound_front}
use Rattle.card.proofs.SoundNodes.{rule_here, sound_rule_node, clause_lower}
use Rattle.joined.specs.Joined.{moved_rule, in_turn}
use Rattle.joined.proofs.LaidInTurn.{length_moved_rule}
use Rattle.joined.proofs.WrittenInTurn.{none_written, written_next}
use Rattle.moved.proofs.put_rules.Goals as goal

pub loop-i-init : goal.loop-i-init
unfolding in_turn
loop-i-init c = none_written _ _

pub rule_node-requires : goal.rule_node-requires
rule_node-requires c =
    let here : c.loop-i.i < rule_count c.args.card.now = omega (arith, c.loop-i-test.true, c.rules-i-end.ensures.0) in
    rw c.bytes-bytes.ensures.value (rule_here c.bytes-bytes.ensures.sound c.loop-i.i here)

pub put_word-requires-clause-value_bound : goal.put_word-requires-clause-value_bound
put_word-requires-clause-value_bound c =
    let bs = c.args.card.now in
    let here : c.loop-i.i < rule_count bs = omega (arith, c.loop-i-test.true, c.rules-i-end.ensures.0) in
    let lower = clause_lower bs _ _ (sound_rule_node c.bytes-bytes.ensures.sound c.loop-i.i here) in
    let node = rw c.bytes-bytes.ensures.value at c.rule_node.ensures.0 in
    omega (arith, lower, node, (sound_front bs c.bytes-bytes.ensures.sound).few, c.requires.n_bound)

pub loop-i-preserved : goal.loop-i-preserved
unfolding moved_rule
loop-i-preserved c =
    let put = rw (c.rule_node.ensures.0, c.bytes-bytes.ensures.value) at c.put_word.ensures in
    written_next 2 (moved_rule c.args.n c.args.card.now) (length_moved_rule _ _) _ _ _ _ _
    (omega (arith, c.loop-i-test.true, c.rules-i-end.ensures.0, c.requires.room)) c.loop-i.invariant put

pub returns : goal.returns
returns c =
    let all : c.loop-i.i ≡ rule_count c.args.card.now = omega (arith, c.loop-i-test.false, c.loop-i.auto.i-end, c.rules-i-end.ensures.0) in
    rw all at c.loop-i.invariant
