-- `packed_source` meets its contract: a refusal with the number 0 is told apart from none, and all else as `packed_numbered_source` tells it.
use Rattle.std.proofs.Common.{sym}
use Rattle.bench.specs.Bench.{held, unheld, told_source}
use Rattle.bench_numbers.specs.BenchNumbers.{source_in}
use Rattle.bench_numbers.proofs.CardsReadBack.{said_apart_stop}
use Rattle.bench_numbers.proofs.packed_source.Goals as goal

pub returns-in-Err-clause-source : goal.returns-in-Err-clause-source
unfolding told_source source_in
returns-in-Err-clause-source c =
    let told = c.packed_unnumbered_stop.ensures in
    rw (c.in-Err.is, sym c.number.ensures, c.if-number-eq0.true)
    (said_apart_stop held unheld c.packed_unnumbered_stop.result (λ z. told.placed) told.parts told.owner)
