-- A step is left where the place is not yet the number of steps.
use Rattle.std.proofs.Common.{◌∙◌, arith}
use Rattle.std.proofs.lemmas.Result.{err_from_is_err_and}
use borrow.Author.Tests.{eqb-true}
use Rattle.summary.proofs.StepsTell.{test_refused, test_passed, room_left, step_given, none_given}
use Rattle.summary.proofs.next.Goals as goal

pub returns-in_err-refuse : goal.returns-in_err-refuse
returns-in_err-refuse c =
    let r = test_refused _ _ _ _ c.in_err-refuse.ensures in
    let p = err_from_is_err_and c.from_residual.result c.from_residual.ensures.1 in
    rw (p.1, p.2) (none_given _ c.args.b c.requires.1.0 (eqb-true _ _ r.applied) _ (r.place ∙ c.here.ensures) r.number)

pub byte-requires : goal.byte-requires
byte-requires c =
    let room = room_left _ _ c.requires.0 (test_passed _ _ _ c.in_ok-refuse.ensures) in
    omega (arith, room, c.requires.1.0)

pub returns : goal.returns
returns c =
    step_given _ c.args.b c.requires.1.0 (room_left _ _ c.requires.0 (test_passed _ _ _ c.in_ok-refuse.ensures)) c.byte.ensures.0
    c.byte.ensures.1
