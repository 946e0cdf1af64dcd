-- `put_all_rules` meets its contract: the second's rules stand behind the first's.
use Rattle.std.proofs.Common.{◌+◌, ◌*◌, arith}
use Rattle.card.specs.Format.{rule_count}
use Rattle.joined.proofs.LaidInTurn.{length_moved_rules}
use Rattle.joined.proofs.WrittenInTurn.{written_behind}
use Rattle.joining.proofs.put_all_rules.Goals as goal

pub returns : goal.returns
returns c =
    let s = c.args in
    written_behind c.put_rules.ensures (s.at + 2 * rule_count s.first.now) (omega (arith, length_moved_rules 0 s.first.now))
    (omega (arith, c.requires.room)) (rw (c.nodes-n.ensures.0, c.rules.ensures.0) at c.put_rules-2.ensures)
