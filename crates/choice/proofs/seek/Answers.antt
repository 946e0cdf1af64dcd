-- Past the rules, the lines and the lent clauses that cannot be used: one that is reached, or none.
use Rattle.std.proofs.Common.{arith}
use Rattle.card.proofs.CardChecked.{sound_front}
use Rattle.choice.specs.Inner.Choice.{Reaches, Seeks}
use Rattle.choice.proofs.EntriesPassed.{seeks_past, none_joined}
use Rattle.choice.proofs.seek.Goals as goal

pub byte-rules-requires : goal.byte-rules-requires
byte-rules-requires c =
    let front = (sound_front c.args.card.now c.requires.sound).whole in
    omega (arith, front)

pub byte-requires : goal.byte-requires
byte-requires c =
    let front = (sound_front c.args.card.now c.requires.sound).whole in
    omega (arith, front)

pub found-requires-clause-reached : goal.found-requires-clause-reached
unfolding Reaches
found-requires-clause-reached c = c.in-Some.ensures.reached

pub returns-in-Some : goal.returns-in-Some
unfolding Reaches
returns-in-Some c = seeks_past _ _ _ _ _ _ _ c.in-Some.ensures.onward c.in-Some.ensures.passed c.found.ensures

pub found-requires-in-Some-reach_line-clause-reached : goal.found-requires-in-Some-reach_line-clause-reached
unfolding Reaches
found-requires-in-Some-reach_line-clause-reached c = c.in-Some-reach_line.ensures.reached

pub returns-in-Some-reach_line : goal.returns-in-Some-reach_line
unfolding Reaches
returns-in-Some-reach_line c =
    let at = c.in-Some-reach_line.ensures in
    seeks_past _ _ _ _ _ _ _ (omega (arith, at.onward)) (none_joined _ _ _ _ _ _ _ c.in_default.ensures c.max.ensures at.passed)
    c.found-in-Some-reach_line.ensures

pub returns-in_err-e : goal.returns-in_err-e
unfolding Reaches Seeks
returns-in_err-e c =
    let lent = none_joined _ _ _ _ _ _ _ c.in_default.ensures c.max.ensures c.in_default-reach_line.ensures in
    rw c.from_residual.ensures
    (none_joined _ _ _ _ _ _ _ lent (rw (c.byte-rules.ensures.0, c.byte.ensures.0) at c.max-2.ensures) c.in_err-e.ensures)

pub found-requires-2-clause-reached : goal.found-requires-2-clause-reached
unfolding Reaches
found-requires-2-clause-reached c = c.in_ok-e.ensures.reached

pub returns : goal.returns
unfolding Reaches
returns c =
    let at = c.in_ok-e.ensures in
    let lent = none_joined _ _ _ _ _ _ _ c.in_default.ensures c.max.ensures c.in_default-reach_line.ensures in
    seeks_past _ _ _ _ _ _ _ (omega (arith, at.onward))
    (none_joined _ _ _ _ _ _ _ lent (rw (c.byte-rules.ensures.0, c.byte.ensures.0) at c.max-2.ensures) at.passed) c.found-2.ensures
