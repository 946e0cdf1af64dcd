-- A memory is told, or stays as it is.
use Rattle.prune.proofs.PruningsTell.{asking, honest_more}
use Rattle.prune.proofs.StockPrune.dead_end.Goals as goal

pub remember-requires : goal.remember-requires
remember-requires c = asking c.requires.prune_asks c.requires.stocked.memory

pub returns-then-unlent-clause-stocked : goal.returns-then-unlent-clause-stocked
returns-then-unlent-clause-stocked c =
    let barren = c.requires.barren_in c.if-open.true in
    let own = c.unlent.ensures.0 c.if-unlent.true in
    record {
      settled = c.requires.stocked.settled;
      memory = honest_more c.requires.prune_asks own c.requires.stocked.memory barren c.remember.ensures;
    }
