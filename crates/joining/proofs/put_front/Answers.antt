-- `put_front` meets its contract: the fields stand one behind the other.
use Rattle.joining.proofs.CardWritten.{front_written}
use Rattle.joining.proofs.put_front.Goals as goal

pub returns : goal.returns
returns c =
    let n = c.nodes.ensures.0 in
    let m = c.nodes-2.ensures.0 in
    front_written c.args.first.now c.args.second.now c.requires.front
    (rw c.joined_length.ensures.0 at c.put_word.ensures) c.put_counts.ensures
    (rw (n, m) at c.put_word-2.ensures) (rw (n, m) at c.put_word-3.ensures) c.put_limits.ensures
