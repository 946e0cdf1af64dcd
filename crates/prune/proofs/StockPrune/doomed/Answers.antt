-- By the table, or by the memory.
use Rattle.prune.proofs.PruningsTell.{asking, known_doom}
use Rattle.prune.proofs.StockPrune.doomed.Goals as goal

pub hopeless-requires : goal.hopeless-requires
hopeless-requires c = record { prune_asks = c.requires.prune_asks; settled = c.requires.stocked.settled }

pub known-requires : goal.known-requires
known-requires c = asking c.requires.prune_asks c.requires.stocked.memory

pub returns-then-unlent : goal.returns-then-unlent
returns-then-unlent c =
    let bare = c.unlent.ensures.0 c.if-unlent.true in
    λ p. known_doom c.requires.prune_asks bare c.requires.stocked.memory (c.known.ensures.0 p)
