use Rattle.std.proofs.Common.{sym}
use Rattle.card.proofs.SoundNodes.{line_here, sound_line_node, clause_lower}
use Rattle.card.proofs.sound.Card.line.Goals as goal

pub line_node-requires : goal.line_node-requires
line_node-requires c = line_here c.self.invariant _ (rw c.self.view_is c.requires)

pub returns-clause-part : goal.returns-clause-part
returns-clause-part c =
    let r = sound_line_node c.self.invariant _ (rw c.self.view_is c.requires) in
    rw (sym c.self.view_is, c.line_node.ensures.0) (clause_lower _ _ _ r, r)
