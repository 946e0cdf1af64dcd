-- `node_check` meets its contract: 6 is told of a node that is not well built, or that is and stands too high.
use Rattle.std.proofs.Common.{◌≡◌, ℕ, leb, ltb, not, refl, sym, ◌∙◌, arith, ltb-false}
use Rattle.std.proofs.lemmas.Bool.{not-false}
use Rattle.std.proofs.lemmas.Bool.Decides.{nat_tests}
use Rattle.std.proofs.lemmas.Result.{err_from_is_err_and}
use Rattle.card.specs.Verdict.{told, where_of}
use Rattle.card.specs.Fault.{node_fault}
use Rattle.card.proofs.FaultsInOrder.{not_applied}
use Rattle.card.proofs.CardChecked.{passed}
use Rattle.nodes.proofs.NodesChecked.{first_missing, second_asked}
use Rattle.nodes.proofs.node_check.Goals as goal

-- above the bound is not at most the bound
above : (h n : ℕ) → ltb n h ≡ not (leb h n)
above h n = grind (arith, nat_tests)

pub returns-in_err-refuse : goal.returns-in_err-refuse
unfolding node_fault told where_of
returns-in_err-refuse c =
    let p = err_from_is_err_and c.from_residual.result c.from_residual.ensures.1 in
    rw (p.1, p.2) (first_missing _ _ _ _ (rw c.well_built.ensures at c.in_err-refuse.ensures))

pub height-h-requires-clause-built : goal.height-h-requires-clause-built
unfolding where_of
height-h-requires-clause-built c =
    sym c.well_built.ensures ∙ not-false _ (not_applied _ _ _ (passed _ _ refl c.in_ok-refuse.ensures))

pub returns-in_err-refuse-2 : goal.returns-in_err-refuse-2
unfolding node_fault told where_of
returns-in_err-refuse-2 c =
    let p = err_from_is_err_and c.from_residual-in_err-refuse-2.result c.from_residual-in_err-refuse-2.ensures.1 in
    let good = passed _ _ refl (rw c.well_built.ensures at c.in_ok-refuse.ensures) in
    rw (p.1, p.2) (second_asked _ _ _ _ good (rw (above _ _, c.height-h.ensures) at c.in_err-refuse-2.ensures))

pub overflow_cast-result : goal.overflow_cast-result
unfolding where_of
overflow_cast-result c =
    omega (arith, ltb-false _ _ (not_applied _ _ _ (passed _ _ refl c.in_ok-refuse-2.ensures)))

pub returns : goal.returns
unfolding node_fault told where_of
returns c =
    let good = passed _ _ refl (rw c.well_built.ensures at c.in_ok-refuse.ensures) in
    (second_asked _ _ _ _ good (rw (above _ _, c.height-h.ensures) at c.in_ok-refuse-2.ensures), c.height-h.ensures)
