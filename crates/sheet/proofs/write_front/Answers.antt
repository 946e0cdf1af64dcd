-- `write_front` meets its contract: the length's high byte is no more than a byte holds.
use Rattle.std.proofs.Common.{◌≡◌, ◌+◌, ◌/◌, ◌%◌, arith}
use Rattle.card.specs.Sheet.{word}
use Rattle.sheet.proofs.write_front.Goals as goal

pub returns : goal.returns
unfolding word
returns c =
    let high : (5 + c.args.k + c.args.t) / 256 % 256 ≡ (5 + c.args.k + c.args.t) / 256 = omega arith in
    rw (c.copy_from_slice.ensures.after, c.to_be_bytes.ensures, high)
