-- A table that is there is settled.
use Rattle.prune.proofs.Stock.hopeless.Goals as goal

pub hopeless-requires : goal.hopeless-requires
hopeless-requires c = record { prune_asks = c.requires.prune_asks; settled = rw c.in-Some.is at c.requires.settled }
