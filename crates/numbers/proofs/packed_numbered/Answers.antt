-- `packed_numbered` meets its contract: k, or the refusal, is told as a number that reads as it.
use Rattle.planning.specs.Plan.{planned, refused, told_plan}
use Rattle.reader.specs.Read.{accepted, refused as not_accepted, told_read}
use Rattle.numbers.specs.Numbers.{plan_in, read_in}
use Rattle.numbers.proofs.NumbersReadBack.{said_fine, said_refused, some_number}
use Rattle.numbers.proofs.packed_numbered.Goals as goal

pub returns-in-Ok-clause-plan : goal.returns-in-Ok-clause-plan
unfolding told_plan plan_in
returns-in-Ok-clause-plan c = rw c.in-Ok.is (said_fine planned refused c.packed.result (rw c.from.ensures at c.packed.ensures.parts))

pub returns-in-Ok-clause-read : goal.returns-in-Ok-clause-read
unfolding told_read read_in
returns-in-Ok-clause-read c = rw c.in-Ok.is (said_fine accepted not_accepted c.packed.result (rw c.from.ensures at c.packed.ensures.parts))

pub returns-in-Err-clause-plan : goal.returns-in-Err-clause-plan
unfolding told_plan plan_in
returns-in-Err-clause-plan c =
    rw c.in-Err.is
    (said_refused planned refused c.packed_refusal.result (some_number c.in-Err.is c.requires) c.packed_refusal.ensures.parts)

pub returns-in-Err-clause-read : goal.returns-in-Err-clause-read
unfolding told_read read_in
returns-in-Err-clause-read c =
    rw c.in-Err.is
    (said_refused accepted not_accepted c.packed_refusal.result (some_number c.in-Err.is c.requires) c.packed_refusal.ensures.parts)
