use Rattle.std.proofs.Common.{◌≡◌, ◌↔◌, Bool, true, false, refl, sym, ◌∙◌}
use Rattle.std.proofs.lemmas.Bool.{false≢true}
use mathlib.Core.Bool.{beq}
use Rattle.tables.proofs.check.bit_settled.Goals as goal

same : (a b : Bool) → (beq a b ≡ true) ↔ (a ≡ b)
same true true = (λ q. refl, λ e. refl)
same true false = (λ q. absurd (false≢true q), λ e. sym e)
same false true = (λ q. absurd (false≢true q), λ e. e)
same false false = (λ q. refl, λ e. refl)

pub returns : goal.returns
returns c =
    let w = same c.lit.result c.of_class.result in
    (λ q. sym c.lit.ensures ∙ w.0 q ∙ c.of_class.ensures, λ e. w.1 (c.lit.ensures ∙ e ∙ sym c.of_class.ensures))
