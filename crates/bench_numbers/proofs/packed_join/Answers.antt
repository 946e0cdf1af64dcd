-- `packed_join` meets its contract: a refusal with the number 0 is told apart from none, and all else as `packed_numbered_join` tells it.
use Rattle.std.specs.Prelude.{◌≡◌}
use Rattle.std.proofs.Common.{sym, ◌∙◌}
use Rattle.card.specs.Verdict.{number_of}
use Rattle.benched.specs.Benched.{neither, owner_of}
use Rattle.bench.specs.Bench.{joined, refused, told_join}
use Rattle.bench_numbers.specs.BenchNumbers.{join_in}
use Rattle.bench_numbers.proofs.CardsReadBack.{said_apart_stop, neither_zero}
use Rattle.bench_numbers.proofs.packed_join.Goals as goal

pub returns-in-Err-clause-join : goal.returns-in-Err-clause-join
unfolding told_join join_in
returns-in-Err-clause-join c =
    let told = c.packed_unnumbered_stop.ensures in
    rw (c.in-Err.is, sym c.number.ensures, c.if-number-eq0.true)
    (said_apart_stop (λ x. joined) refused c.packed_unnumbered_stop.result (λ z. told.placed) told.parts told.owner)

pub returns-in-Err-clause-uncarded : goal.returns-in-Err-clause-uncarded
returns-in-Err-clause-uncarded c h =
    let told = c.packed_unnumbered_stop.ensures in
    let zero : number_of c.in-Err.stop.refusal.fault ≡ 0 = sym c.number.ensures ∙ c.if-number-eq0.true in
    let free : owner_of c.in-Err.stop.card ≡ neither = (rw c.in-Err.is at h) zero in
    record { none = λ e. neither_zero _ told.carded.known (told.owner ∙ free) }
