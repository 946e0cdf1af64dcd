-- `put_joined` meets its contract: the front, the nodes, the rules and the lines stand one behind the other.
use Rattle.joining.proofs.CardWritten.{card_written}
use Rattle.joining.proofs.put_joined.Goals as goal

pub returns : goal.returns
returns c =
    let n = c.nodes.ensures.0 in
    let m = c.nodes-2.ensures.0 in
    card_written c.args.first.now c.args.second.now c.requires.room c.put_front.ensures c.put_all_nodes.ensures
    (rw (n, m) at c.put_all_rules.ensures)
    (rw (n, m, c.rules.ensures.0, c.rules-2.ensures.0) at c.put_all_lines.ensures)
