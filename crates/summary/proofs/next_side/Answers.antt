-- By the tests: a step left, the left choice, the right choice.
use Rattle.std.proofs.Common.{refl}
use Rattle.std.proofs.lemmas.Result.{err_from_is_err_and}
use Rattle.summary.proofs.StepsTell.{side_past, side_left, side_right, side_none}
use Rattle.summary.proofs.next_side.Goals as goal

pub returns-in_err-c : goal.returns-in_err-c
returns-in_err-c c =
    let a = c.args in
    let p = err_from_is_err_and c.from_residual.result c.from_residual.ensures.1 in
    rw (p.1, p.2) (side_past _ _ a.b a.node a.first a.second _ c.in_err-c.ensures)

pub returns-then-first : goal.returns-then-first
returns-then-first c =
    let a = c.args in
    side_left _ _ a.b a.node a.first a.second _ c.in_ok-c.ensures c.if-c-eq254.true c.if-first.true c.left.ensures.0

pub returns-then-second : goal.returns-then-second
returns-then-second c =
    let a = c.args in
    side_right _ _ a.b a.node a.first a.second _ c.in_ok-c.ensures c.if-c-eq255.true c.if-second.true c.right.ensures.0

pub returns : goal.returns
returns c =
    let a = c.args in
    side_none _ _ a.b a.node a.first a.second _ c.in_ok-c.ensures c.else-c-eq254.either c.else-c-eq255.either _ c.here.ensures refl
