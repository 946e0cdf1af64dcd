-- `kit_source` meets its contract: its number reads as the outcome.
use Rattle.std.proofs.Common.{◌∙◌, sym, subst}
use Rattle.bench.specs.Bench.{SourceVerdict, SourceDecided}
use Rattle.bench.proofs.BenchDecided.{source_decided}
use Rattle.bench_numbers.proofs.CardsReadBack.{source_nonzero}
use Rattle.planner_c.proofs.kit_source.Goals as goal

pub packed_numbered_source-requires : goal.packed_numbered_source-requires
packed_numbered_source-requires c =
    let s = c.args in
    source_nonzero _
    (subst (λ (v : SourceVerdict). SourceDecided s.first.now s.second.now s.i v) (sym c.locate-answer.ensures) (source_decided _ _ _))

pub returns-clause-source : goal.returns-clause-source
returns-clause-source c = c.packed_numbered_source.ensures.source ∙ c.locate-answer.ensures
