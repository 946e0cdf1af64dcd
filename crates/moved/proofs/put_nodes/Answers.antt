-- `put_nodes` meets its contract: the nodes before the present one are written, one behind the other.
use Rattle.std.proofs.Common.{◌≡◌, arith}
use Rattle.card.specs.Format.{node_count}
use Rattle.joined.specs.Joined.{moved_node, in_turn}
use Rattle.joined.proofs.LaidInTurn.{length_moved_node}
use Rattle.joined.proofs.WrittenInTurn.{none_written, written_next}
use Rattle.moved.proofs.put_nodes.Goals as goal

pub loop-i-init : goal.loop-i-init
unfolding in_turn
loop-i-init c = none_written _ _

pub loop-i-preserved : goal.loop-i-preserved
loop-i-preserved c =
    written_next 5 (moved_node c.args.n c.args.card.now) (length_moved_node _ _) _ _ _ _ _
    (omega (arith, c.loop-i-test.true, c.nodes-i-end.ensures.0, c.requires.room)) c.loop-i.invariant c.put_moved.ensures

pub returns : goal.returns
returns c =
    let all : c.loop-i.i ≡ node_count c.args.card.now = omega (arith, c.loop-i-test.false, c.loop-i.auto.i-end, c.nodes-i-end.ensures.0) in
    rw all at c.loop-i.invariant
