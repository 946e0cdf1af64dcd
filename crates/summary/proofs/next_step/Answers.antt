-- By the tests: a step left, an entry in scope whose head fits, nesting left.
use Rattle.std.proofs.Common.{◌∙◌}
use Rattle.std.proofs.lemmas.Bool.{eqb-false}
use Rattle.std.proofs.lemmas.Result.{err_from_is_err_and}
use borrow.Author.Tests.{eqb-true, not-true, not-false}
use Rattle.summary.proofs.StepsTell.{test_refused, test_passed, step_past, step_unfit, step_deep, step_taken, step_small}
use Rattle.summary.proofs.next_step.Goals as goal

pub returns-in_err-e : goal.returns-in_err-e
returns-in_err-e c =
    let p = err_from_is_err_and c.from_residual.result c.from_residual.ensures.1 in
    rw (p.1, p.2) (step_past _ _ _ _ c.args.name _ c.in_err-e.ensures)

pub returns-in_err-refuse : goal.returns-in_err-refuse
returns-in_err-refuse c =
    let r = test_refused _ _ _ _ c.in_err-refuse.ensures in
    let p = err_from_is_err_and c.from_residual-in_err-refuse.result c.from_residual-in_err-refuse.ensures.1 in
    rw (p.1, p.2) (step_unfit _ _ _ _ c.args.name _ c.in_ok-e.ensures _ c.fits.ensures _ (r.place ∙ c.here.ensures) r.number (not-true _ r.applied))

pub returns-in_err-refuse-2 : goal.returns-in_err-refuse-2
returns-in_err-refuse-2 c =
    let r = test_refused _ _ _ _ c.in_err-refuse-2.ensures in
    let p = err_from_is_err_and c.from_residual-in_err-refuse-2.result c.from_residual-in_err-refuse-2.ensures.1 in
    rw (p.1, p.2) (step_deep _ _ _ _ c.args.name _ c.in_ok-e.ensures _ c.fits.ensures _ (r.place ∙ c.here-2.ensures) r.number
    (not-false _ (test_passed _ _ _ c.in_ok-refuse.ensures)) (eqb-true _ _ r.applied))

pub returns : goal.returns
returns c =
    step_taken _ _ _ _ c.args.name _ c.in_ok-e.ensures _ c.fits.ensures (not-false _ (test_passed _ _ _ c.in_ok-refuse.ensures))
    (eqb-false _ _ (test_passed _ _ _ c.in_ok-refuse-2.ensures))

pub fits-requires-clause-room : goal.fits-requires-clause-room
fits-requires-clause-room c = step_small _ _ c.in_ok-e.ensures
