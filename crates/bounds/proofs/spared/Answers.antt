use Rattle.bounds.proofs.CodesRowed.{rowed}
use Rattle.bounds.proofs.spared.Goals as goal

pub least_sum-requires : goal.least_sum-requires
least_sum-requires c = record {
  cells = c.requires.sound.1 c.if-ready.true;
  few = c.requires.tasks.0;
  rowed = rowed c.requires.sound.0 c.requires.tasks.1;
}
