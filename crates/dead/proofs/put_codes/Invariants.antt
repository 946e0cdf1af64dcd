use Rattle.dead.specs.Inner.Rows.{Put}
use Rattle.dead.proofs.put_codes.Given as goal

abbrev pub invariant-loop-i : goal.invariant-loop-i
invariant-loop-i l = Put l.initial.codes l.codes l.at l.agenda l.i
