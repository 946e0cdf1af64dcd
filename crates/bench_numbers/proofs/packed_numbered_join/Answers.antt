-- `packed_numbered_join` meets its contract: the length, or the refusal with its card, is told as a number that reads as it.
use Rattle.numbers.proofs.NumbersReadBack.{said_fine}
use Rattle.bench.specs.Bench.{joined, refused, told_join}
use Rattle.bench_numbers.specs.BenchNumbers.{owner_in, join_in}
use Rattle.bench_numbers.proofs.CardsReadBack.{said_stopped, some_number}
use Rattle.bench_numbers.proofs.packed_numbered_join.Goals as goal

pub returns-in-Ok-clause-join : goal.returns-in-Ok-clause-join
unfolding told_join join_in
returns-in-Ok-clause-join c =
    let r = c.packed.result in rw c.in-Ok.is (said_fine joined (refused (owner_in r)) r c.packed.ensures.parts)

pub returns-in-Err-clause-join : goal.returns-in-Err-clause-join
unfolding told_join join_in
returns-in-Err-clause-join c =
    let told = c.packed_stop.ensures in
    rw c.in-Err.is (said_stopped (λ x. joined) refused c.packed_stop.result (some_number c.in-Err.is c.requires) told.parts told.owner)
