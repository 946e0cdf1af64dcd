-- How much "either way" and "rest" there is in a formula, each & weighing w and each ⊤ t; and scopes in which nothing weighs.
use Rattle.std.specs.Prelude.{ℕ, ◌+◌, ◌<◌, ◌≡◌}
use Rattle.calculus.specs.Formula.{Goal, Clause, atomᴳ, topᴳ, oneᴳ, zeroᴳ, tensor, with, oplus, lolliᴳ, atomᴰ, topᴰ, lolliᴰ, withᴰ}
use Rattle.calculus.specs.Derivation.{Scope, size, clause_at}

unfoldable mutual
  pub weighᴳ : Goal → ℕ → ℕ → ℕ
  weighᴳ (atomᴳ a) w t = 0
  weighᴳ topᴳ w t = t
  weighᴳ oneᴳ w t = 0
  weighᴳ zeroᴳ w t = 0
  weighᴳ (tensor G H) w t = weighᴳ G w t + weighᴳ H w t
  weighᴳ (with G H) w t = w + (weighᴳ G w t + weighᴳ H w t)
  weighᴳ (oplus G H) w t = weighᴳ G w t + weighᴳ H w t
  weighᴳ (lolliᴳ D G) w t = weighᴰ D w t + weighᴳ G w t

  pub weighᴰ : Clause → ℕ → ℕ → ℕ
  weighᴰ (atomᴰ a) w t = 0
  weighᴰ topᴰ w t = 0
  weighᴰ (lolliᴰ G D) w t = weighᴳ G w t + weighᴰ D w t
  weighᴰ (withᴰ D E) w t = weighᴰ D w t + weighᴰ E w t

-- no clause in scope weighs anything
pub record Light (w t : ℕ) (es : Scope) : Type 0 where
  pub light : (e : ℕ) → e < size es → weighᴰ (clause_at es e) w t ≡ 0
