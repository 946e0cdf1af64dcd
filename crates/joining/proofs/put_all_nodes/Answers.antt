-- `put_all_nodes` meets its contract: the second's nodes stand behind the first's, and the new node behind both.
use Rattle.std.proofs.Common.{◌+◌, ◌*◌, length-append, arith}
use Rattle.card.specs.Format.{node_count}
use Rattle.joined.specs.Joined.{moved_nodes}
use Rattle.joined.proofs.LaidInTurn.{length_moved_nodes}
use Rattle.joined.proofs.WrittenInTurn.{written_behind}
use Rattle.joining.proofs.put_all_nodes.Goals as goal

pub returns : goal.returns
returns c =
    let first = c.args.first.now in
    let second = c.args.second.now in
    let room = c.requires.room in
    let n = c.nodes-n.ensures.0 in
    let m = c.nodes-m.ensures.0 in
    let l = length_moved_nodes 0 first in
    let r = length_moved_nodes (node_count first) second in
    let both = length-append (moved_nodes 0 first) (moved_nodes (node_count first) second) in
    let nodes_put = written_behind c.put_nodes.ensures (11 + 5 * node_count first) (omega (arith, l)) (omega (arith, room))
    (rw n at c.put_nodes-2.ensures) in
    written_behind nodes_put (11 + 5 * node_count first + 5 * node_count second) (omega (arith, both, l, r)) (omega (arith, room))
    (rw (n, m) at c.put_both.ensures)
