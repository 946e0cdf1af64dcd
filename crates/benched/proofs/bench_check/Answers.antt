-- `bench_check` meets its contract: it answers as `bench_cards` does.
use Rattle.std.proofs.Common.{sym}
use Rattle.std.proofs.lemmas.Result.{err_from_is_err_and}
use Rattle.benched.specs.Benched.{told_bench}
use Rattle.benched.proofs.bench_check.Goals as goal

pub returns-in_err-bench_cards : goal.returns-in_err-bench_cards
unfolding told_bench
returns-in_err-bench_cards c =
    let p = err_from_is_err_and c.from_residual.result c.from_residual.ensures.1 in
    rw (p.1, p.2) (sym c.in_err-bench_cards.ensures)

pub returns : goal.returns
unfolding told_bench
returns c = sym c.in_ok-bench_cards.ensures.1
