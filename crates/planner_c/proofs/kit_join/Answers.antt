-- `kit_join` meets its contract: the answer is an outcome, a refusal has a number, and the number reads as the outcome.
use Rattle.std.proofs.Common.{sym, subst}
use Rattle.bench.specs.Bench.{JoinVerdict, Joining}
use Rattle.bench.proofs.BenchDecided.{join_decided}
use Rattle.bench_numbers.proofs.CardsReadBack.{join_nonzero}
use Rattle.planner_c.proofs.kit_join.Goals as goal

pub packed_numbered_join-requires : goal.packed_numbered_join-requires
packed_numbered_join-requires c = join_nonzero _ (join_decided _ _ c.join-answer.ensures)

pub returns-clause-joining : goal.returns-clause-joining
returns-clause-joining c =
    let s = c.args in
    subst (λ (v : JoinVerdict). Joining s.first.now s.second.now s.joined.now v c.join-answer.new.joined) (sym c.packed_numbered_join.ensures.join)
    c.join-answer.ensures
