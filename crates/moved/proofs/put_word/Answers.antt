-- `put_word` meets its contract: the high byte stands before the low one.
use Rattle.std.proofs.Common.{◌≡◌, ◌+◌, ◌-◌, ◌/◌, ◌%◌, arith}
use Rattle.card.specs.Sheet.{word}
use Rattle.moved.proofs.SlicesWritten.{slice_written}
use Rattle.moved.proofs.put_word.Goals as goal

pub returns : goal.returns
unfolding word
returns c =
    let v = c.args.value in
    let high : v / 256 % 256 ≡ v / 256 = omega (arith, c.requires.value_bound) in
    let two : c.args.at + 2 - c.args.at ≡ 2 = omega arith in
    rw (c.copy_from_slice.ensures.after, c.to_be_bytes.ensures, high) (slice_written _ _ _ _ two)
