-- Heights of formulas (01, "The card"), and how many lends stand one inside the other in a goal.
use Rattle.std.specs.Prelude.{ℕ, suc, max, ◌≤◌, ◌<◌, ◌≡◌, true, List}
use Rattle.calculus.specs.Formula.{Goal, Clause, atomᴳ, topᴳ, oneᴳ, zeroᴳ, tensor, with, oplus, lolliᴳ, atomᴰ, topᴰ, lolliᴰ, withᴰ}
use Rattle.calculus.specs.Derivation.{Scope, size, clause_at}
use Rattle.calculus.specs.Steps.{stands}

unfoldable mutual
  pub heightᴳ : Goal → ℕ
  heightᴳ (atomᴳ a) = 1
  heightᴳ topᴳ = 1
  heightᴳ oneᴳ = 1
  heightᴳ zeroᴳ = 1
  heightᴳ (tensor G H) = suc (max (heightᴳ G) (heightᴳ H))
  heightᴳ (with G H) = suc (max (heightᴳ G) (heightᴳ H))
  heightᴳ (oplus G H) = suc (max (heightᴳ G) (heightᴳ H))
  heightᴳ (lolliᴳ D G) = suc (max (heightᴰ D) (heightᴳ G))

  pub heightᴰ : Clause → ℕ
  heightᴰ (atomᴰ a) = 1
  heightᴰ topᴰ = 1
  heightᴰ (lolliᴰ G D) = suc (max (heightᴳ G) (heightᴰ D))
  heightᴰ (withᴰ D E) = suc (max (heightᴰ D) (heightᴰ E))

unfoldable pub lends : Goal → ℕ
lends (atomᴳ a) = 0
lends topᴳ = 0
lends oneᴳ = 0
lends zeroᴳ = 0
lends (tensor G H) = max (lends G) (lends H)
lends (with G H) = max (lends G) (lends H)
lends (oplus G H) = max (lends G) (lends H)
lends (lolliᴳ D G) = suc (lends G)

-- every clause in scope is at most 8 high
pub record Low (es : Scope) : Type 0 where
  pub low : (e : ℕ) → e < size es → heightᴰ (clause_at es e) ≤ 8

-- every entry of the list is below m
pub record Below (m : ℕ) (l : List ℕ) : Type 0 where
  pub below : (e : ℕ) → stands e l ≡ true → e < m
