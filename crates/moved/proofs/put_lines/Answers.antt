-- `put_lines` meets its contract: the lines before the present one are written, one behind the other.
use Rattle.std.proofs.Common.{◌≡◌, ◌<◌, arith}
use Rattle.card.specs.Format.{line_count}
use Rattle.card.proofs.CardChecked.{sound_front}
use Rattle.card.proofs.SoundNodes.{line_here, sound_line_node, clause_lower}
use Rattle.joined.specs.Joined.{moved_line, in_turn}
use Rattle.joined.proofs.LaidInTurn.{length_moved_line}
use Rattle.joined.proofs.WrittenInTurn.{none_written, written_next}
use Rattle.moved.proofs.put_lines.Goals as goal

pub loop-i-init : goal.loop-i-init
unfolding in_turn
loop-i-init c = none_written _ _

pub line_byte-must-requires : goal.line_byte-must-requires
line_byte-must-requires c =
    let here : c.loop-i.i < line_count c.args.card.now = omega (arith, c.loop-i-test.true, c.lines-i-end.ensures.0) in
    rw c.bytes-bytes.ensures.value (line_here c.bytes-bytes.ensures.sound c.loop-i.i here)

pub line_node-requires : goal.line_node-requires
line_node-requires c =
    let here : c.loop-i.i < line_count c.args.card.now = omega (arith, c.loop-i-test.true, c.lines-i-end.ensures.0) in
    rw c.bytes-bytes.ensures.value (line_here c.bytes-bytes.ensures.sound c.loop-i.i here)

pub put_line-requires-clause-node_bound : goal.put_line-requires-clause-node_bound
put_line-requires-clause-node_bound c =
    let bs = c.args.card.now in
    let here : c.loop-i.i < line_count bs = omega (arith, c.loop-i-test.true, c.lines-i-end.ensures.0) in
    let lower = clause_lower bs _ _ (sound_line_node c.bytes-bytes.ensures.sound c.loop-i.i here) in
    let node = rw c.bytes-bytes.ensures.value at c.line_node.ensures.0 in
    omega (arith, lower, node, (sound_front bs c.bytes-bytes.ensures.sound).few, c.requires.n_bound)

pub loop-i-preserved : goal.loop-i-preserved
unfolding moved_line
loop-i-preserved c =
    let put = rw (c.line_node.ensures.0, c.line_byte-must.ensures.0, c.bytes-bytes.ensures.value) at c.put_line.ensures in
    written_next 3 (moved_line c.args.n c.args.card.now) (length_moved_line _ _) _ _ _ _ _
    (omega (arith, c.loop-i-test.true, c.lines-i-end.ensures.0, c.requires.room)) c.loop-i.invariant put

pub returns : goal.returns
returns c =
    let all : c.loop-i.i ≡ line_count c.args.card.now = omega (arith, c.loop-i-test.false, c.loop-i.auto.i-end, c.lines-i-end.ensures.0) in
    rw all at c.loop-i.invariant
