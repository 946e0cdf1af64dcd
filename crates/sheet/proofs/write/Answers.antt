-- `write` meets its contract: the front, the steps and the marks, one behind the other.
use Rattle.std.proofs.Common.{ℕ, ◌+◌, length, refl, arith}
use Rattle.card.specs.Format.{line_count}
use Rattle.card.specs.Sheet.{marks_of}
use Rattle.scope.specs.Inner.Sets.{word_items}
use Rattle.sheet.proofs.SheetWritten.{part_set, part_back, whole_sheet}
use Rattle.sheet.proofs.write.Goals as goal

pub returns : goal.returns
returns c =
    let s = c.args in
    let k : ℕ = length s.list.now in
    let U = word_items s.card.now s.sure in
    let front = c.write_front in
    let set = part_set 5 k front.new.sheet s.list.now c.copy_from_slice.new.self c.copy_from_slice.ensures.after in
    whole_sheet s.card.now U s.list.now s.sheet.now front.new.sheet _ _ k refl (rw c.byte.ensures.0 at front.ensures) set
    (part_back (5 + k) (line_count s.card.now) _ (marks_of s.card.now U s.list.now) c.write_marks.new.marks (omega arith) c.write_marks.ensures)
