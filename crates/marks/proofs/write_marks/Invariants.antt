use Rattle.std.proofs.Common.{◌≡◌, ◌++◌, drop}
use Rattle.card.specs.Format.{listing}
use Rattle.card.specs.Sheet.{mark_of}
use Rattle.scope.specs.Inner.Sets.{word_items}
use Rattle.marks.proofs.write_marks.Given as goal

abbrev pub invariant-loop-i : goal.invariant-loop-i
invariant-loop-i l = l.marks ≡ listing l.i (mark_of l.card (word_items l.card l.sure) l.list) ++ drop l.i l.initial.marks
