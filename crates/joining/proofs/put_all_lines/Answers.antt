-- `put_all_lines` meets its contract: the second's lines stand behind the first's.
use Rattle.std.proofs.Common.{◌+◌, ◌*◌, arith}
use Rattle.card.specs.Format.{line_count}
use Rattle.joined.proofs.LaidInTurn.{length_moved_lines}
use Rattle.joined.proofs.WrittenInTurn.{written_behind}
use Rattle.joining.proofs.put_all_lines.Goals as goal

pub returns : goal.returns
returns c =
    let s = c.args in
    written_behind c.put_lines.ensures (s.at + 3 * line_count s.first.now) (omega (arith, length_moved_lines 0 s.first.now))
    (omega (arith, c.requires.room)) (rw (c.nodes-n.ensures.0, c.lines.ensures.0) at c.put_lines-2.ensures)
