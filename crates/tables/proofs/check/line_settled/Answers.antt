use Rattle.card.proofs.SoundNodes.{sound_line_node}
use Rattle.tables.proofs.check.line_settled.Goals as goal

pub use_settled-requires-clause-clause : goal.use_settled-requires-clause-clause
use_settled-requires-clause-clause c = rw c.line_at.ensures.0 (sound_line_node c.requires.table_held.sound c.args.k c.requires.here)

pub returns : goal.returns
returns c = rw c.line_at.ensures.0 at c.use_settled.ensures
