-- What the table says, which is settled.
use borrow.Author.Rules.{rules}
use Rattle.segment.proofs.TasksAreAgendas.{laid_short}
use Rattle.prune.proofs.PruningsTell.{coded, hopeless_doom}
use Rattle.prune.proofs.Table.hopeless.Goals as goal

pub hopeless-requires : goal.hopeless-requires
hopeless-requires c =
    let asks = c.requires.prune_asks in
    record {
      table_held = λ p. (c.requires.settled.held, search rules);
      sound = asks.sound;
      counted = (asks.whole, asks.few);
      clauses = asks.clauses;
      tasks = (laid_short asks.laid, coded asks.laid);
    }

pub returns : goal.returns
returns c = λ p. hopeless_doom c.requires.prune_asks c.requires.settled.settled (c.hopeless.ensures p).1
