-- `kit_read` meets its contract: the answer is an outcome and accepts exactly what it should, and its number reads as it.
use Rattle.std.proofs.Common.{sym, subst}
use Rattle.reader.specs.Read.{Reading, AcceptsExactly}
use Rattle.reader.proofs.AcceptedExactly.{read_decided}
use Rattle.numbers.proofs.NumbersReadBack.{read_nonzero}
use Rattle.planner_c.proofs.kit_read.Goals as goal

pub packed_numbered-requires : goal.packed_numbered-requires
packed_numbered-requires c = read_nonzero _ (read_decided c.read-answer.ensures.reading)

pub returns-clause-reading : goal.returns-clause-reading
returns-clause-reading c = subst (Reading _ _) (sym c.packed_numbered.ensures.read) c.read-answer.ensures.reading

pub returns-clause-accepts_exactly : goal.returns-clause-accepts_exactly
returns-clause-accepts_exactly c = subst (AcceptsExactly _ _) (sym c.packed_numbered.ensures.read) c.read-answer.ensures.accepts_exactly
