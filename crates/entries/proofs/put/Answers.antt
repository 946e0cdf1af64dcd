use Rattle.std.proofs.Common.{arith}
use Rattle.card.specs.Format.{node_count}
use Rattle.card.proofs.CardChecked.{sound_front}
use Rattle.card.proofs.SoundNodes.{clause_lower}
use Rattle.entries.proofs.put.Goals as goal

pub overflow_cast-nodes : goal.overflow_cast-nodes
overflow_cast-nodes c =
    let bs = c.args.card.now in
    let few = (sound_front bs c.requires.sound).few in
    let low = clause_lower bs (node_count bs) c.args.node c.requires.a_clause in
    omega arith
