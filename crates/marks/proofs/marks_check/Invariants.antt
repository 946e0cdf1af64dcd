use Rattle.std.proofs.Common.{◌≡◌}
use Rattle.card.specs.Verdict.{first_of, sound}
use Rattle.scope.specs.Inner.Sets.{word_items}
use Rattle.marks.specs.Marks.{mark_fault}
use Rattle.marks.proofs.marks_check.Given as goal

abbrev pub invariant-loop-i : goal.invariant-loop-i
invariant-loop-i l = first_of l.i (mark_fault l.card (word_items l.card l.sure) l.list l.marks) ≡ sound
