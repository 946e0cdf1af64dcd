use Rattle.std.proofs.Common.{◌≡◌, ℕ, rules, tests, refl, ltb, ◌&&◌, get_or}
use Rattle.std.proofs.lemmas.Iterator.{cases_from_all, YieldsList-from_range}
use Rattle.card.specs.Format.{line_count, line_node}
use Rattle.lines.specs.Set.{bit_at}
use Rattle.bounds.specs.Inner.Table.{in_class}
use Rattle.bounds.proofs.EachBelow.{all_below}
use Rattle.node_bounds.proofs.ChecksDecide.{unmet}
use Rattle.tables.proofs.check.masked.Goals as goal

pub returns : goal.returns
returns c =
    let a = c.args in
    let P : ℕ → Type 0 =
    λ k. bit_at (get_or a.masks.now a.c 0) k ≡ (ltb k (line_count a.card.now) && in_class a.names.now (line_node a.card.now k) a.c) in
    let each =
    all_below 64 P _
    (cases_from_all _ _ _ P (λ k. P k → ⊥) c.all.ensures.ran (YieldsList-from_range 0 64 64 refl refl)
    (λ x q k. search (rules, tests)) (λ x q k. search (rules, tests, unmet))) in
    (λ q. record { mask = each.0 q }, λ f. each.1 f.mask)
