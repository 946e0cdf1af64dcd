-- `put_node` meets its contract: the kind, the left and the right stand one behind the other.
use Rattle.std.proofs.Common.{◌+◌, refl, length-set, arith}
use Rattle.card.specs.Sheet.{word}
use Rattle.joined.specs.Joined.{node_bytes}
use Rattle.joined.proofs.WrittenInTurn.{one_written, written_behind}
use Rattle.moved.proofs.put_node.Goals as goal

pub returns : goal.returns
unfolding node_bytes word
returns c =
    let s = c.args in
    let kind_put = one_written s.out.now s.at s.kind (omega (arith, c.requires.room)) in
    let left_put = written_behind kind_put (s.at + 1) refl (omega (arith, c.requires.room))
    c.put_word.ensures in
    written_behind left_put (s.at + 3) (omega arith) (omega (arith, c.requires.room)) c.put_word-2.ensures
