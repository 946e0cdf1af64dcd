-- `packed_answer` meets its contract: a refusal with the number 0 is told apart from none, and all else as `packed_numbered` tells it.
use Rattle.std.proofs.Common.{sym}
use Rattle.planning.specs.Plan.{planned, refused, told_plan}
use Rattle.reader.specs.Read.{accepted, refused as not_accepted, told_read}
use Rattle.numbers.specs.Numbers.{plan_in, read_in}
use Rattle.numbers.proofs.NumbersReadBack.{said_apart}
use Rattle.numbers.proofs.packed_answer.Goals as goal

pub returns-in-Err-clause-plan : goal.returns-in-Err-clause-plan
unfolding told_plan plan_in
returns-in-Err-clause-plan c =
    let told = c.packed_unnumbered.ensures in
    rw (c.in-Err.is, sym c.number.ensures, c.if-number-eq0.true)
    (said_apart planned refused c.packed_unnumbered.result (λ z. told.placed) told.parts)

pub returns-in-Err-clause-read : goal.returns-in-Err-clause-read
unfolding told_read read_in
returns-in-Err-clause-read c =
    let told = c.packed_unnumbered.ensures in
    rw (c.in-Err.is, sym c.number.ensures, c.if-number-eq0.true)
    (said_apart accepted not_accepted c.packed_unnumbered.result (λ z. told.placed) told.parts)
