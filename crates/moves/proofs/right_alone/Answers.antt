use Rattle.std.proofs.Common.{◌+◌, ◌*◌, ◌∙◌, ap, set, arith}
use Rattle.card.proofs.SoundNodes.{node_here}
use Rattle.moves.proofs.PartsFit.{parts_fit}
use Rattle.moves.proofs.right_alone.Goals as goal

pub right-requires : goal.right-requires
right-requires c = node_here c.requires.sound c.args.goal c.requires.goal_bound.0

pub put-requires : goal.put-requires
put-requires c =
    let q = parts_fit c.requires.sound c.args.goal c.requires.goal_bound.0 c.requires.goal_bound.1.0 c.requires.goal_bound.1.1 in
    (omega arith, (omega (arith, c.right.ensures.0, q.0, q.1), c.requires.nest_bound))

pub returns : goal.returns
returns c = c.put.ensures ∙ ap (λ x. set c.args.agenda.now 0 (x * 32 + c.args.nest)) c.right.ensures.0
