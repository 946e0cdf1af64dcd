-- A check answers true exactly where something holds.
use mathlib.Core.Path.{◌≡◌, refl, sym, ◌∙◌}
use mathlib.Core.Bool.{Bool, true, false, false≢true}
use mathlib.Core.Logic.{◌↔◌}

pub holds : {P : Type 0} → P → (true ≡ true) ↔ P
holds p = (λ q. p, λ _. refl)

pub fails : {P : Type 0} → (P → ⊥) → (false ≡ true) ↔ P
fails n = (λ q. absurd (false≢true q), λ p. absurd (n p))

-- where a check answered false
pub unmet : {r : Bool} {P : Type 0} → (r ≡ true) ↔ P → r ≡ false → P → ⊥
unmet w q p = false≢true (sym q ∙ w.1 p)
