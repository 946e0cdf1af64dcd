-- Some class is short: `any` stopped at it.
use Rattle.std.proofs.Common.{ℕ, rules, tests, refl, arith}
use Rattle.std.proofs.lemmas.Iterator.{cases_from_any, YieldsList-from_range}
use Rattle.bounds.specs.Inner.Doom.{Short, few, many}
use Rattle.bounds.proofs.EachBelow.{some_below}
use Rattle.bounds.proofs.doom.unbalanced.Goals as goal

pub returns : goal.returns
returns c =
    let a = c.args in
    let K : ℕ → Type 0 =
    λ k. Short a.card.now a.names.now a.table.now a.masks.now a.nodes.now a.agenda.now a.len a.count a.strict a.lax k in
    let found =
    some_below c.classes.result K _ _
    (cases_from_any _ _ _ K (λ k. Unit {0}) c.any.ensures.ran (YieldsList-from_range 0 c.classes.result c.classes.result refl (omega arith))
    (λ x q k. search (rules, tests, few, many)) (λ x q k. search (rules, tests))) in
    λ q. let w = found q in record { class = w.0; known = omega (arith, w.1, c.classes.ensures.0); uneven = w.2 }
