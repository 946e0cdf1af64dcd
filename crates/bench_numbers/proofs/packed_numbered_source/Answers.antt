-- `packed_numbered_source` meets its contract: the card and the offset, or the refusal with its card, is told as a number that reads as it.
use Rattle.std.proofs.Common.{ap, ◌∙◌}
use Rattle.numbers.proofs.NumbersReadBack.{said_fine}
use Rattle.benched.specs.Benched.{Owner}
use Rattle.bench.specs.Bench.{held, unheld, told_source}
use Rattle.bench_numbers.specs.BenchNumbers.{owner_in, source_in}
use Rattle.bench_numbers.proofs.CardsReadBack.{said_stopped, some_number}
use Rattle.bench_numbers.proofs.packed_numbered_source.Goals as goal

pub returns-in-Ok-clause-source : goal.returns-in-Ok-clause-source
unfolding told_source source_in
returns-in-Ok-clause-source c =
    let r = c.with_card.result in
    let told = c.with_card.ensures in
    let bare = c.packed.ensures.parts in
    rw c.in-Ok.is
    (said_fine (held (owner_in r)) (unheld (owner_in r)) r (told.parts.0 ∙ bare.0, told.parts.1 ∙ bare.1, told.parts.2 ∙ bare.2)
    ∙ ap (λ (x : Owner). held x c.in-Ok.source.at) told.owner)

pub returns-in-Err-clause-source : goal.returns-in-Err-clause-source
unfolding told_source source_in
returns-in-Err-clause-source c =
    let told = c.packed_stop.ensures in
    rw c.in-Err.is (said_stopped held unheld c.packed_stop.result (some_number c.in-Err.is c.requires) told.parts told.owner)
