use Prim.Native.Nat.{◌+◌}
use native.Mathlib.Omega.{arith}
use Rattle.joined.proofs.LaidInTurn.{length_word}
use Rattle.joined.proofs.WrittenInTurn.{written_byte}
use Rattle.moved.proofs.put_line.Goals as goal

pub returns : goal.returns
returns c =
    let s = c.args in
    written_byte c.put_word.ensures (s.at + 2) s.must (omega (arith, length_word s.node))
    (omega (arith, c.requires.room))
