use Rattle.std.proofs.Common.{sym}
use Rattle.card.proofs.SoundNodes.{rule_here, sound_rule_node, clause_lower}
use Rattle.card.proofs.sound.Card.rule.Goals as goal

pub rule_node-requires : goal.rule_node-requires
rule_node-requires c = rule_here c.self.invariant _ (rw c.self.view_is c.requires)

pub returns-clause-part : goal.returns-clause-part
returns-clause-part c =
    let r = sound_rule_node c.self.invariant _ (rw c.self.view_is c.requires) in
    rw (sym c.self.view_is, c.rule_node.ensures.0) (clause_lower _ _ _ r, r)
