use Rattle.std.proofs.Common.{ℕ, rules, tests, refl, arith}
use Rattle.std.proofs.lemmas.Iterator.{cases_from_all, YieldsList-from_range}
use Rattle.bounds.specs.Inner.Table.{Masked}
use Rattle.bounds.proofs.EachBelow.{all_below}
use Rattle.node_bounds.proofs.ChecksDecide.{unmet}
use Rattle.tables.proofs.check.masks_settled.Goals as goal

pub returns : goal.returns
returns c =
    let P : ℕ → Type 0 = λ k. Masked c.args.card.now c.args.names.now c.args.masks.now k in
    rw c.classes.ensures.0 at
    (all_below c.classes.result P _
    (cases_from_all _ _ _ P (λ k. P k → ⊥) c.all.ensures.ran (YieldsList-from_range 0 c.classes.result c.classes.result refl (omega arith))
    (λ x q k. search (rules, tests)) (λ x q k. search (rules, tests, unmet))))
